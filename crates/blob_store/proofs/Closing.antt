-- A step that reads no bytes leaves the readers as they were, and its answer closes its reader.
use Rattle.std.proofs.Common.{◌≡◌, ℕ, ◌-◌, true, false, List, [], min, Option, Some, None, refl, sym, ap, subst}
use Rattle.std.specs.Prelude.{option_and_then, IsSomeAnd}
use Rattle.std.specs.Option.{option_map_or}
use Rattle.blob_words.specs.declared.number.ReaderId.{ReaderId}
use Rattle.session_script.specs.declared.event.Event.{Event}
use Rattle.answer_text.specs.declared.answer.Answer.{Answer}
use Rattle.file_table.specs.declared.file_note.FileNote.{FileNote}
use Rattle.data_handles.specs.Table.{faults_at, Table as HandleTable}
use Rattle.page_disk.specs.declared.change.Change.{Change}
use Rattle.item_shares.specs.Shares.{item_at}
use Rattle.item_shares.specs.declared.item.Item.{Item}
use Rattle.item_shares.specs.declared.item.Item.TheVariants.{Memory, Paged, Reserved, File, Range}
use Rattle.item_shares.specs.declared.shares.Share.{Share}
use Rattle.blob_items.specs.declared.view.View.{View}
use Rattle.range_reader.specs.Bytes.{item_fails}
use Rattle.range_reader.specs.Ends.{StepEnds}
use Rattle.range_reader.specs.Places.{Course}
use Rattle.range_reader.specs.Steps.{asked, Asked}
use Rattle.range_reader.specs.declared.step_end.StepEnd.{StepEnd}
use Rattle.range_reader.specs.declared.step_end.StepEnd.TheVariants.{Bytes, End, FileChanged, PageFault, HandleFault}
use Rattle.blob_model.specs.History.{History}
use Rattle.blob_model.specs.Session.{Session}
use Rattle.store_laws.specs.StepLaws.{ends_reader, step_answer}
use Rattle.store_laws.proofs.Stepping.{stop_view}
use Rattle.blob_store.specs.Reading.{IsClosing, IsFile}
use Rattle.blob_store.specs.Says.{scene, IsHeard}
use Rattle.blob_store.specs.declared.parts.Parts.{Parts}
use Rattle.blob_store.proofs.HeardSteps.{heard_counted}

-- an item that fails is of a file
file_fails : (files : List (List ℕ × FileNote)) (place : ℕ) (held : Option Item) → option_map_or (item_fails files place) held false ≡ true
    → IsSomeAnd held IsFile
file_fails files place None fails = absurd (cc fails)
file_fails files place (Some (Memory piece bytes)) fails = absurd (cc fails)
file_fails files place (Some (Paged piece page off len)) fails = absurd (cc fails)
file_fails files place (Some (Reserved piece len)) fails = absurd (cc fails)
file_fails files place (Some (File name stamp off len)) fails = tt
file_fails files place (Some (Range slot off len)) fails = absurd (cc fails)

module _ (shares : List (Option Share)) (views : List View) (room : ℕ) (course later : Course) (old new : Asked) (out : List ℕ) where
  pub closing : (end : StepEnd) → ((count : ℕ) → end ≡ Bytes count → ⊥) → StepEnds shares views room course later old new out end
      → IsClosing shares views end
  closing (Bytes count) other ends = other count refl
  closing End other ends = tt
  closing (FileChanged view) other ends =
      let stops = ends.1 in
      let one = stop_view views course.place (min room (course.stop - course.place)) view stops.skipped stops.front stops.stops.rest stops.cell
      stops.stops.parts stops.place in
      subst (λ (found : Option View). IsSomeAnd (option_and_then (λ (each : View). item_at shares each.slot) found) IsFile) (sym one.1)
      (subst (λ (slot : ℕ). IsSomeAnd (item_at shares slot) IsFile) one.2
      (file_fails old.from.files (stops.cell.1) (item_at shares stops.cell.0) stops.fails.0))
  closing (PageFault page) other ends = tt
  closing (HandleFault slot) other ends = tt

  pub stands_still : (end : StepEnd) → IsClosing shares views end → StepEnds shares views room course later old new out end → later ≡ course
  stands_still (Bytes count) closes ends = absurd closes
  stands_still End closes ends = ends.1
  stands_still (FileChanged view) closes ends = ends.0
  stands_still (PageFault page) closes ends = ends.0
  stands_still (HandleFault slot) closes ends = ends.0

-- what was read doesn't matter
pub closing_said : (reader : ReaderId) (shares : List (Option Share)) (views : List View) (out : List ℕ) (end : StepEnd) → IsClosing shares views end
    → (step_answer reader shares views out end ≡ step_answer reader shares views [] end) × (ends_reader (step_answer reader shares views out end) ≡ true)
closing_said reader shares views out (Bytes count) closes = absurd closes
closing_said reader shares views out End closes = (refl, refl)
closing_said reader shares views out (FileChanged view) closes = (refl, refl)
closing_said reader shares views out (PageFault page) closes = (refl, refl)
closing_said reader shares views out (HandleFault slot) closes = (refl, refl)

-- what a step counts is beside what is heard
pub heard_asked : (s : Session) (h : History) (event : Event) (own : List Answer) (parts : Parts) (told : Option (List Change)) (table : HandleTable)
    (files : List (List ℕ × FileNote)) (shares : List (Option Share)) (views : List View) (room : ℕ)
    (course later : Course) (faults meter : ℕ) (new : Asked) (out : List ℕ) (end : StepEnd)
    → StepEnds shares views room course later (asked files told table faults meter) new out end → IsHeard s h event own (scene parts told table)
    → IsHeard s h event own (scene parts told new.from.handles)
heard_asked s h event own parts told table files shares views room course later faults meter new out end ends heard = by end ends
  where
    same : new.from.handles ≡ table → IsHeard s h event own (scene parts told new.from.handles)
    same is = subst (λ (one : HandleTable). IsHeard s h event own (scene parts told one)) (sym is) heard

    by : (one : StepEnd) → StepEnds shares views room course later (asked files told table faults meter) new out one
        → IsHeard s h event own (scene parts told new.from.handles)
    by (Bytes count) is = same is.3.calm.handles
    by End is = same (ap (λ (one : Asked). one.from.handles) is.2)
    by (FileChanged view) is = same is.1.fails.1.0
    by (PageFault page) is = same is.2.fails.1.0
    by (HandleFault slot) is =
        subst (λ (one : HandleTable). IsHeard s h event own (scene parts told one)) (sym is.2.fails.1.0)
        (heard_counted s h event own parts told table slot (faults_at new.from.handles slot) heard)
