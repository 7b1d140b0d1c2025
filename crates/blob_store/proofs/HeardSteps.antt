-- A step of a reader was heard.
use Rattle.std.proofs.Common.{◌≡◌, ℕ, ◌+◌, ◌-◌, ◌==◌, Bool, true, false, List, [], ◌∷◌, map, length, min, Option, Some, None, refl, sym, ap, subst, ◌∙◌, arith}
use Rattle.std.specs.Prelude.{is_none, if◌then◌else◌}
use Rattle.std.specs.Option.{option_map}
use Rattle.std.specs.List.{AllByRecursion}
use Rattle.std.proofs.lemmas.Bool.{eqb-true}
use Rattle.blob_words.specs.declared.number.ReaderId.{ReaderId}
use Rattle.blob_words.specs.declared.status.Status.TheVariants as statuses
use Rattle.session_script.specs.declared.event.Event.{Event}
use Rattle.session_script.specs.declared.event.Event.TheVariants as events
use Rattle.answer_text.specs.declared.answer.Answer.{Answer}
use Rattle.answer_text.specs.declared.answer.Answer.TheVariants as answers
use Rattle.answer_text.specs.declared.group.Group.{Group}
use Rattle.answer_text.specs.declared.refusal.Refusal.TheVariants as refusals
use Rattle.blob_entries.specs.Book.{changed, entry_of, Book}
use Rattle.blob_entries.specs.Changes.{held_less}
use Rattle.blob_entries.specs.declared.entry.Entry.{Entry}
use Rattle.data_handles.specs.Table.{counted_at, Table as HandleTable}
use Rattle.page_disk.specs.declared.change.Change.{Change}
use Rattle.range_reader.specs.Bytes.{origins}
use Rattle.range_reader.specs.Ends.{StepEnds}
use Rattle.range_reader.specs.Places.{Course, ViewLies}
use Rattle.range_reader.specs.Steps.{asked, next_cells, Asked}
use Rattle.range_reader.specs.declared.step_end.StepEnd.{StepEnd}
use Rattle.blob_model.specs.Choice.{first_that}
use Rattle.blob_model.specs.History.{after, heard, history_from, start, History}
use Rattle.blob_model.specs.Legal.{IsLegalFrom}
use Rattle.blob_model.specs.Live.{is_live}
use Rattle.blob_model.specs.Own.{IsAccepted}
use Rattle.blob_model.specs.Readers.{OpenReader as ReaderSaid}
use Rattle.blob_model.specs.Refusals.{refusal}
use Rattle.blob_model.specs.Session.{page_limit, Session}
use Rattle.blob_model.proofs.Lists.{false_true}
use Rattle.blob_model.proofs.legal.Steps.{caused_from, kept_caused}
use Rattle.store_laws.specs.LineLaws.{counted, AreUnmarked}
use Rattle.store_laws.specs.Stands.{stood, Between, Stands}
use Rattle.store_laws.specs.StepLaws.{ends_reader, moved_on, read_numbers, step_answer, touched_all, ReaderMoves}
use Rattle.store_laws.specs.TableLaws.{open_at}
use Rattle.store_laws.proofs.ApartHistories.{keys_differ}
use Rattle.store_laws.proofs.LineRefusals.{own_accepted}
use Rattle.store_laws.proofs.Rerooted.{changed_rerooted}
use Rattle.store_laws.proofs.Stepped.{step_leaves}
use Rattle.store_laws.proofs.Stepping.{step_tells}
use Rattle.store_laws.proofs.Unmarked.{none_marked}
use Rattle.store_laws.proofs.Using.{done_used}
use Rattle.store_laws.proofs.Writing.{all_written}
use Rattle.blob_store.specs.Readers.{reader_at, Closes}
use Rattle.blob_store.specs.Says.{scene, IsHeard}
use Rattle.blob_store.specs.Seen.{parts_of, reader_of}
use Rattle.blob_store.specs.Steps.{with_course, Moves}
use Rattle.blob_store.specs.declared.parts.Parts.{Parts}
use Rattle.blob_store.specs.declared.readers.OpenReader.{OpenReader}
use Rattle.blob_store.proofs.Heard.{heard_refused}
use Rattle.blob_store.proofs.HeardTables.{goes_seen, many_seen, open_said, open_seen, seen}

-- a reader that goes on does so for the laws
pub moves_seen : (number count : ℕ) (course : Course) (reader : OpenReader) (old new : List (ℕ × OpenReader)) → reader_at number old ≡ Some reader
    → course ≡ record reader.course { place = reader.course.place + count } → Moves number course old new
    → ReaderMoves number count (map reader_of old) (map reader_of new)
moves_seen number count course reader old new there on moves = record {
  each = λ other.
      open_seen other new ∙ ap (option_map (open_said other)) (moves.each other)
      ∙ by other (number == other) refl
      ∙ ap (λ (found : Option ReaderSaid). if number == other then option_map (moved_on count) found else found) (sym (open_seen other old));
  many = let more = moves.many in omega (arith, more, many_seen new, many_seen old);
}
  where
    moved_so : (other : ℕ) → option_map (open_said other) (option_map (with_course course) (Some reader))
        ≡ option_map (moved_on count) (option_map (open_said other) (Some reader))
    moved_so other = ap {B = Option ReaderSaid} (λ (one : Course). Some (open_said other (with_course one reader))) on

    by : (other : ℕ) (b : Bool) → (number == other) ≡ b
        → option_map (open_said other) (if b then option_map (with_course course) (reader_at other old) else reader_at other old)
        ≡ (if b then option_map (moved_on count) (option_map (open_said other) (reader_at other old)) else option_map (open_said other) (reader_at other old))
    by other false at = refl
    by other true at =
        let here : reader_at other old ≡ Some reader = subst (λ (n : ℕ). reader_at n old ≡ Some reader) (eqb-true number other at) there in
        ap (λ (found : Option OpenReader). option_map (open_said other) (option_map (with_course course) found)) here
        ∙ moved_so other
        ∙ sym (ap (λ (found : Option OpenReader). option_map (moved_on count) (option_map (open_said other) found)) here)

module _ (s : Session) (groups : List Group) (parts : Parts) (told : Option (List Change)) (table : HandleTable) (legal : IsLegalFrom s start groups)
    (stands : Stands s (history_from start groups) (parts_of parts) told table) where
  abbrev h : History
  h = history_from start groups

  unmarked : AreUnmarked parts.registry.entries
  unmarked = none_marked s groups (is_live (page_limit s) h) (parts_of parts) told table legal stands.between

  -- why it can't step
  step_due : (reader : ReaderId)
      → refusal s h (events.Step reader) ≡ (if is_none (reader_at reader.0 parts.readers) then Some (refusals.NoReader reader) else None)
  step_due reader =
      ap (λ (found : Option ReaderSaid). first_that ((is_none found, refusals.NoReader reader) ∷ []))
      (sym (stands.between.tables.readers_stand.each reader.0) ∙ open_seen reader.0 parts.readers)
      ∙ by (reader_at reader.0 parts.readers)
    where
      by : (found : Option OpenReader) → first_that ((is_none (option_map (open_said reader.0) found), refusals.NoReader reader) ∷ [])
          ≡ (if is_none found then Some (refusals.NoReader reader) else None)
      by None = refl
      by (Some one) = refl

  pub heard_closed : (reader : ReaderId) → reader_at reader.0 parts.readers ≡ None
      → IsHeard s h (events.Step reader) (answers.Refused (refusals.NoReader reader) ∷ []) (scene parts told table)
  heard_closed reader none =
      heard_refused s groups parts told table legal stands (events.Step reader) (refusals.NoReader reader)
      (step_due reader ∙ ap (λ (found : Option OpenReader). if is_none found then Some (refusals.NoReader reader) else None) none)

  module _ (reader : ReaderId) (open_reader : OpenReader) (there : reader_at reader.0 parts.readers ≡ Some open_reader) where
    pub step_passes : refusal s h (events.Step reader) ≡ None
    step_passes = step_due reader ∙ ap (λ (found : Option OpenReader). if is_none found then Some (refusals.NoReader reader) else None) there

    pub open_there : open_at reader.0 (map reader_of parts.readers) ≡ Some (open_said reader.0 open_reader)
    open_there = open_seen reader.0 parts.readers ∙ ap (option_map (open_said reader.0)) there

    pub heard_wait : IsAccepted s h (events.Step reader) (answers.Wait reader ∷ [])
        → IsHeard s h (events.Step reader) (answers.Wait reader ∷ []) (scene parts told table)
    heard_wait accepts = record {
      is_own = own_accepted s h (events.Step reader) (answers.Wait reader ∷ []) step_passes accepts;
      stands = step_leaves.waits reader s h (is_live (page_limit s) h) (parts_of parts) told table unmarked stands.between;
    }

    -- an answer that closes the reader
    pub heard_end : (answer : Answer) (book : Book) (readers : List (ℕ × OpenReader)) → ends_reader answer ≡ true
        → IsAccepted s h (events.Step reader) (answer ∷ []) → book ≡ changed parts.registry open_reader.blob held_less
        → Closes reader.0 parts.readers readers
        → IsHeard s h (events.Step reader) (answer ∷ []) (scene (record parts { registry = book; readers = readers }) told table)
    heard_end answer book readers ends accepts is closes = record {
      is_own = own_accepted s h (events.Step reader) (answer ∷ []) step_passes accepts;
      stands = by answer ends;
    }
      where
        closed : (one : Answer) → ends_reader one ≡ true
            → Between s (heard h (events.Step reader) one) (is_live (page_limit s) h)
            (counted (parts_of (record parts { registry = book; readers = readers }))) told table
        closed one ends =
            subst (λ (list : Book). Between s (heard h (events.Step reader) one) (is_live (page_limit s) h)
            (counted (parts_of (record parts { registry = list; readers = readers }))) told table) (sym is)
            (seen s groups parts told table legal stands (heard h (events.Step reader) one) (changed parts.registry open_reader.blob held_less)
            parts.renderers parts.urls parts.files readers (changed_rerooted (λ (n : ℕ). n - 1) parts.registry open_reader.blob)
            (step_leaves.closes s h (is_live (page_limit s) h) (parts_of parts) told table unmarked stands.between (keys_differ s groups legal).1 reader one
            ends open_reader.blob (map reader_of readers) (goes_seen reader.0 open_reader parts.readers readers there closes)))

        by : (one : Answer) → ends_reader one ≡ true
            → Between s (after h (events.Step reader) (one ∷ [])) (stood (page_limit s) h (events.Step reader) (one ∷ []))
            (counted (parts_of (record parts { registry = book; readers = readers }))) told table
        by (answers.Ended number status) ends = closed (answers.Ended number status) ends
        by (answers.FileChanged number name) ends = closed (answers.FileChanged number name) ends
        by (answers.PageFault number file) ends = closed (answers.PageFault number file) ends
        by (answers.HandleFailed number slot) ends = closed (answers.HandleFailed number slot) ends
        by one ends = absurd (false_true ends)

    -- ---- of a blob that is done

    module _ (entry : Entry) (at : entry_of parts.registry open_reader.blob ≡ Some entry) (done : entry.status ≡ statuses.Done)
        (lie : AllByRecursion (ViewLies (origins parts.files told table) parts.shares) entry.views) (room : ℕ)
        (enough : min room (open_reader.course.stop - open_reader.course.place)
        ≡ min (open_reader.course.stop - open_reader.course.place) s.limits.chunk) where
      pub step_accepted : (faults meter : ℕ) (later : Course) (new : Asked) (out : List ℕ) (end : StepEnd)
          → StepEnds parts.shares entry.views room open_reader.course later (asked parts.files told table faults meter) new out end
          → IsAccepted s h (events.Step reader) (step_answer reader parts.shares entry.views out end ∷ [])
      step_accepted faults meter later new out end ends =
          step_tells s h (is_live (page_limit s) h) (parts_of parts) told table stands.between (kept_caused s h (caused_from s groups legal)).ordered
          (all_written s h (caused_from s groups legal)) reader (open_said reader.0 open_reader) entry open_there at done lie open_reader.course.size room
          faults meter later new out end enough ends

      pub heard_given : (bytes : List ℕ) (recent : List (ℕ × ℕ)) (readers : List (ℕ × OpenReader)) (course : Course)
          → IsAccepted s h (events.Step reader) (answers.Given reader bytes ∷ [])
          → recent ≡ touched_all parts.recent (read_numbers parts.shares (next_cells open_reader.course room entry.views))
          → course ≡ record open_reader.course { place = open_reader.course.place + length bytes } → Moves reader.0 course parts.readers readers
          → IsHeard s h (events.Step reader) (answers.Given reader bytes ∷ []) (scene (record parts { recent = recent; readers = readers }) told table)
      heard_given bytes recent readers course accepts used on moves = record {
        is_own = own_accepted s h (events.Step reader) (answers.Given reader bytes ∷ []) step_passes accepts;
        stands = subst (λ (order : List (ℕ × ℕ)). Between s (heard h (events.Step reader) (answers.Given reader bytes)) (is_live (page_limit s) h)
            (counted (parts_of (record parts { recent = order; readers = readers }))) told table) (sym used)
            (step_leaves.gives s h (is_live (page_limit s) h) (parts_of parts) told table unmarked stands.between
            (kept_caused s h (caused_from s groups legal)).ordered (done_used s h (caused_from s groups legal)) reader (open_said reader.0 open_reader)
            entry open_there at done lie open_reader.course.size room bytes (map reader_of readers) enough
            (moves_seen reader.0 (length bytes) course open_reader parts.readers readers there on moves));
      }

-- a count of a data handle that rose changes nothing that is said
pub heard_counted : (s : Session) (h : History) (event : Event) (own : List Answer) (parts : Parts) (told : Option (List Change)) (table : HandleTable)
    (slot faults : ℕ) → IsHeard s h event own (scene parts told table) → IsHeard s h event own (scene parts told (counted_at table slot faults))
heard_counted s h event own parts told table slot faults is = record {
  is_own = is.is_own;
  stands = step_leaves.counts s (after h event own) (stood (page_limit s) h event own) (counted (parts_of parts)) told table slot faults is.stands;
}
