-- What the endings of a pass leave of a store's parts stands behind them.
use Rattle.std.proofs.Common.{◌≡◌, ℕ, ◌+◌, Bool, true, false, List, length, map, refl, ap, subst, sym, ◌∙◌, Option, Some, None, arith}
use Rattle.std.specs.Prelude.{fold, slice_get, if◌then◌else◌}
use Rattle.std.specs.Option.{option_map}
use Rattle.data_handles.specs.Table.{Table as HandleTable}
use Rattle.page_disk.specs.declared.change.Change.{Change}
use Rattle.item_shares.specs.Weights.{weights}
use Rattle.item_shares.specs.declared.shares.Share.{Share}
use Rattle.model_bridges.specs.Bridges.{change_as}
use Rattle.blob_model.specs.Changes.{changes, Change as DiskChange}
use Rattle.blob_model.specs.History.{History}
use Rattle.blob_model.specs.Pieces.{pieces}
use Rattle.blob_model.specs.Readers.{readers, OpenReader}
use Rattle.blob_model.specs.Refusals.{claimed, is_in, weight_total}
use Rattle.blob_model.specs.Session.{page_limit, Session}
use Rattle.registry_laws.specs.Agree.{AgreesInMarks}
use Rattle.registry_laws.specs.Laws.{Describes}
use Rattle.store_laws.specs.EndLaws.{order_passed, passed_parts, EndingsStand, Passed, Passes}
use Rattle.store_laws.specs.Items.{holds_slot, is_range_of}
use Rattle.store_laws.specs.LetGo.{left_by, let_go_by}
use Rattle.store_laws.specs.Passing.{after_pass, ended_names, entered, pieces_entered, rows_passed}
use Rattle.store_laws.specs.Stands.{lines, Between, ContentsStand, Parts}
use Rattle.store_laws.specs.Swept.{queue_left}
use Rattle.store_laws.specs.Tables.{slot_now, AreClaimed, FilesStand, HandlesStand, ReadersStand, RenderersStand, UrlsStand}
use Rattle.store_laws.specs.Weights.{range_weight}
use Rattle.store_laws.proofs.Dropped.{files_said, renderers_said, urls_said, FilesSaid, RenderersSaid, UrlsSaid}
use Rattle.store_laws.proofs.Letting.{none_in, some_in}
use Rattle.store_laws.proofs.PassContents.{endings_are, pass_stands}
use Rattle.store_laws.proofs.PassKeeps.{endings_keep}
use Rattle.store_laws.proofs.PassUses.{same_weights}
use Rattle.store_laws.proofs.PiecesEntered.{pieces_are_entered}
use Rattle.store_laws.proofs.Unpinned.{unpinned_stands}

-- items of a data handle are there where as many weigh for it
pub slots_same : (k : ℕ) (one other : List (Option Share)) → weights (range_weight k) one ≡ weights (range_weight k) other
    → holds_slot one k ≡ holds_slot other k
slots_same k one other same = by (holds_slot one k) refl (holds_slot other k) refl
  where
    by : (a : Bool) → holds_slot one k ≡ a → (b : Bool) → holds_slot other k ≡ b → a ≡ b
    by true is true also = refl
    by false is false also = refl
    by true is false also =
        let some = some_in (is_range_of k) one is in let none = none_in (is_range_of k) other also in absurd (omega (arith, some, none, same))
    by false is true also =
        let some = some_in (is_range_of k) other also in let none = none_in (is_range_of k) one is in absurd (omega (arith, some, none, same))

module _ (s : Session) (h : History) (stands : ℕ → Bool) (parts : Parts) (told : Option (List Change)) (table : HandleTable)
    (between : Between s h stands parts told table) (tell : Describes s h parts.book) (in_marks : AgreesInMarks s h parts.book) (passed : Passed)
    (passes : Passes s h parts passed) (used : ℕ) where
  abbrev g : History
  g = after_pass s h

  contents_now : ContentsStand s g stands passed.book passed.later (rows_passed s h parts.rows) (queue_left parts.quota (ended_names passed.list) used)
      (fold let_go_by parts.pages passed.freed) (fold left_by (order_passed s h passed parts) passed.freed)
  contents_now =
      subst (λ (order : List (ℕ × ℕ)). ContentsStand s g stands passed.book passed.later (rows_passed s h parts.rows)
      (queue_left parts.quota (ended_names passed.list) used) (fold let_go_by parts.pages passed.freed) (fold left_by order passed.freed))
      (ap (fold entered parts.recent)
      (pieces_are_entered s h stands parts.book parts.shares parts.rows parts.quota parts.pages parts.recent between.contents tell in_marks passed.book
      passed.shares passed.list passes.finishes passes.same passed.home passes.homes))
      (unpinned_stands s g stands passed.book passed.shares (rows_passed s h parts.rows) (queue_left parts.quota (ended_names passed.list) 0) parts.pages
      (fold entered parts.recent (pieces_entered s h passed.shares parts.rows passed.list))
      (pass_stands s h stands parts.book parts.shares parts.rows parts.quota parts.pages parts.recent between.contents tell in_marks passed.book
      passed.shares passed.list passes.finishes passes.same 0) passed.later passed.freed passes.freed_so passes.kept used)

  holds_same : (k : ℕ) → holds_slot passed.later k ≡ holds_slot parts.shares k
  holds_same k =
      slots_same k passed.later parts.shares
      (let sum = passes.freed_so.weighs (range_weight k) in
      let none = passes.no_range k in
      let same = same_weights (range_weight k) passed.shares parts.shares passes.same.items in omega (arith, sum, none, same))

  same_claimed : claimed s g ≡ claimed s h
  same_claimed = endings_keep (λ (one : History). claimed s one) (λ one name. refl) (λ one name status. refl) s h

  handles_now : HandlesStand s.outside.slots (λ (k : ℕ). is_in k (claimed s h)) (holds_slot passed.later) table
  handles_now k =
      between.handles k ∙ ap (λ (held : Bool). slot_now (is_in k (claimed s h)) held (slice_get s.outside.slots k)) (sym (holds_same k))

  claims_now : AreClaimed s.outside.slots (λ (k : ℕ). is_in k (claimed s h)) (holds_slot passed.later)
  claims_now k has = between.claims k (sym (holds_same k) ∙ has)

  stand_now : Between s g stands (passed_parts s h passed used parts) told table
  stand_now = record {
    same_limits = between.same_limits;
    same_version = between.same_version;
    contents = contents_now;
    tables = record {
      renderers = subst (λ (notion : RenderersSaid). RenderersStand notion.known notion.alive notion.origin notion.count parts.renderers)
          (sym (endings_keep renderers_said (λ one name. refl) (λ one name status. refl) s h)) between.tables.renderers;
      urls_stand = subst (λ (notion : UrlsSaid). UrlsStand notion.list notion.origin parts.urls)
          (sym (endings_keep urls_said (λ one name. refl) (λ one name status. refl) s h)) between.tables.urls_stand;
      files_stand = subst (λ (notion : FilesSaid). FilesStand notion.names notion.state notion.last parts.files)
          (sym (endings_keep files_said (λ one name. refl) (λ one name status. refl) s h)) between.tables.files_stand;
      readers_stand = subst (λ (list : List OpenReader). ReadersStand list parts.readers)
          (sym (endings_keep (λ (one : History). readers (page_limit s) one) (λ one name. refl) (λ one name status. refl) s h)) between.tables.readers_stand;
    };
    handles = subst (λ (list : List ℕ). HandlesStand s.outside.slots (λ (k : ℕ). is_in k list) (holds_slot passed.later) table) (sym same_claimed)
        handles_now;
    claims = subst (λ (list : List ℕ). AreClaimed s.outside.slots (λ (k : ℕ). is_in k list) (holds_slot passed.later)) (sym same_claimed) claims_now;
    disk_stands = subst (λ (list : List DiskChange). option_map (map change_as) told ≡ (if s.outside.disk_tells then Some list else None))
        (sym (endings_keep (λ (one : History). changes s one) (λ one name. refl) (λ one name status. refl) s h)) between.disk_stands;
    same_lines = between.same_lines ∙ ap (λ (n : ℕ). n + 1) (sym (endings_keep lines (λ one name. refl) (λ one name status. refl) s h));
    same_pieces = between.same_pieces
        ∙ sym (endings_keep (λ (one : History). length (pieces (page_limit s) one)) (λ one name. refl) (λ one name status. refl) s h);
    same_weight = between.same_weight ∙ sym (endings_keep (λ (one : History). weight_total s one) (λ one name. refl) (λ one name status. refl) s h);
  }

pub endings_stand : EndingsStand
endings_stand s h stands parts told table between tell in_marks passed passes used = record {
  owed = endings_are s h parts.book passed.book passed.list tell in_marks passes.finishes;
  stand = stand_now s h stands parts told table between tell in_marks passed passes used;
}
