-- What a store says of the endings owed: they are told, and behind them its parts stand.
use Rattle.std.proofs.Common.{◌≡◌, ℕ, ◌++◌, Bool, true, List, Option, Some, length, map, ap, subst, sym, ◌∙◌, arith}
use Rattle.std.specs.Prelude.{fold, slice_index}
use Rattle.std.proofs.lemmas.Option.{get_or_from_slice_get}
use Rattle.answer_text.specs.declared.answer.Answer.{Answer}
use Rattle.data_handles.specs.Table.{Table as HandleTable}
use Rattle.page_disk.specs.declared.change.Change.{Change}
use Rattle.blob_registry.specs.declared.ended_blob.EndedBlob.{EndedBlob}
use Rattle.blob_model.specs.Builds.{builds, Build}
use Rattle.blob_model.specs.History.{History}
use Rattle.blob_model.specs.Session.{page_limit, Session}
use Rattle.blob_model.specs.Settle.{endings}
use Rattle.blob_model.proofs.live.Agreement.{builds_all}
use Rattle.registry_laws.specs.Agree.{Agrees, AgreesInMarks, AgreesWith, Beside}
use Rattle.registry_laws.specs.Laws.{ending_answer, Describes}
use Rattle.store_laws.specs.EndLaws.{passed_parts, AreEnded, Passed, Passes}
use Rattle.store_laws.specs.Items.{holds_piece, holds_slot, piece_at, piece_by}
use Rattle.store_laws.specs.LetGo.{left_by}
use Rattle.store_laws.specs.Passing.{after_pass, entered, rows_passed}
use Rattle.store_laws.specs.Rows.{CountsViews, Row as RowSaid}
use Rattle.store_laws.specs.Stands.{Between, Parts as PartsSaid}
use Rattle.store_laws.specs.Weights.{range_weight}
use Rattle.store_laws.proofs.Ended.{endings_stand, slots_same}
use Rattle.store_laws.proofs.HeldCounts.{slot_of}
use Rattle.store_laws.proofs.PassUses.{same_weights}
use Rattle.blob_store.specs.declared.parts.Parts.{Parts}
use Rattle.blob_store.specs.Ending.{TellsEndings}
use Rattle.blob_store.specs.Passing.{EntriesEnd}
use Rattle.blob_store.specs.Says.{scene}
use Rattle.blob_store.specs.Seen.{parts_of, rows_beside}
use Rattle.blob_store.specs.Unheld.{HaveObjects}
use Rattle.blob_store.specs.Whole.{Whole}
use Rattle.blob_store.proofs.Beside.{counts_said}
use Rattle.blob_store.proofs.ItemsLeft.{home_at}
use Rattle.blob_store.proofs.PiecesDone.{entered_so}
use Rattle.blob_store.proofs.RowsPassed.{agreed, rows_are, rows_so}
use Rattle.blob_store.proofs.WholeEnded.{ended_freed, ended_is}

module _ (old new : Parts) (list : List EndedBlob) (whole : Whole old) (ends : EntriesEnd list old new) where
  holds_same : (k : ℕ) → holds_slot new.shares k ≡ holds_slot old.shares k
  holds_same k =
      slots_same k new.shares old.shares
      (let sum = ends.freed_so.weighs (range_weight k) in
      let none = ends.no_range k in
      let same = same_weights (range_weight k) ends.shares old.shares ends.same.items in omega (arith, sum, none, same))

  -- the objects behind items are there still
  pub objects_ended : (table : HandleTable) → HaveObjects old.shares table → HaveObjects new.shares table
  objects_ended table has k holds = has k (sym (holds_same k) ∙ holds)

  module _ (left_whole : Whole new) (s : Session) (h : History) (tell : Describes s h old.registry) (in_marks : AgreesInMarks s h old.registry)
      (stands : ℕ → Bool) (told : Option (List Change)) (table : HandleTable) (between : Between s h stands (parts_of old) told table) where
    abbrev passed : Passed
    passed = record {
      book = new.registry;
      shares = ends.shares;
      list = list;
      home = slice_index old.homes;
      later = new.shares;
      freed = ends.freed;
    }

    homes : (number : ℕ) → holds_piece ends.shares number ≡ true → piece_at ends.shares (slice_index old.homes number) ≡ Some number
    homes number holds =
        let found = slot_of number ends.shares holds in
        let there : piece_at old.shares found.0 ≡ Some number = ap piece_by (sym (ends.same.items found.0)) ∙ found.1 in
        let home = home_at old.homes old.pages old.shares new.shares ends.freed whole.stored.items (ended_freed old new list whole ends) found.0 number there in
        ap (piece_at ends.shares) (get_or_from_slice_get old.homes number found.0 0 home) ∙ found.1

    said_rows : rows_beside new.registry.entries new.rows ≡ rows_passed s h (rows_beside old.registry.entries old.rows)
    said_rows =
        ap (rows_beside new.registry.entries)
        (rows_are old new list whole left_whole ends s h tell in_marks stands told table between)
        ∙ rows_so old new list whole left_whole ends s h tell in_marks stands told table between

    counts_now : CountsViews new.registry.entries (rows_passed s h (rows_beside old.registry.entries old.rows)) new.shares
    counts_now =
        subst (λ (rows : List (Option RowSaid)). CountsViews new.registry.entries rows new.shares) said_rows
        (counts_said new.limits.page new.registry new.shares new.rows new.quota new.pages new.recent new.held left_whole.blobs
        (left_whole.blobs.each_row ∙ ap (λ (names : List ℕ). length names) ends.finishes.names ∙ tell.sound.sized ∙ sym ends.finishes.sized))

    passes : Passes s h (parts_of old) passed
    passes = record {
      finishes = ends.finishes;
      same = ends.same;
      homes = homes;
      freed_so = ends.freed_so;
      kept = record {
        still = ends.freed_so.still;
        viewed = λ slot some. ends.kept slot (let count = counts_now slot in omega (arith, count, some));
        pinned = λ slot some. ends.kept slot (let count = counts_now slot in omega (arith, count, some));
      };
      no_range = ends.no_range;
    }

    behind : AreEnded s h stands (parts_of old) told table passed new.quota.used
    behind = endings_stand s h stands (parts_of old) told table between tell in_marks passed passes new.quota.used

    seen_so : passed_parts s h passed new.quota.used (parts_of old) ≡ parts_of new
    seen_so =
        (λ i. record (passed_parts s h passed new.quota.used (parts_of old)) {
          rows = sym said_rows i;
          recent = fold left_by (fold entered old.recent
              (entered_so old new list whole ends s h tell stands told table between i)) ends.freed;
        })
        ∙ sym (ap (λ (one : Parts). record (parts_of one) { book = new.registry; rows = rows_beside new.registry.entries new.rows })
        (ended_is old new list whole ends))

    same_builds : builds (page_limit s) (after_pass s h) ≡ builds (page_limit s) h
    same_builds = builds_all (page_limit s) h (endings s h)

    agrees_now : AgreesWith (page_limit s) (after_pass s h) new.registry
    agrees_now = record {
      names = ends.finishes.names ∙ between.contents.names ∙ ap (map (λ (build : Build). build.name)) (sym same_builds);
      each = subst (λ (blobs : List Build). Beside (Agrees (page_limit s) (after_pass s h)) blobs new.registry.entries) (sym same_builds)
          (agreed old new list whole left_whole ends s h tell in_marks stands told table between);
    }

    pub ends_heard : (before later : List Answer) → later ≡ before ++ map ending_answer list → TellsEndings s h stands before later (scene new told table)
    ends_heard before later said = record {
      answers = said ∙ ap (λ (answers : List Answer). before ++ answers) behind.owed;
      stand = subst (λ (one : PartsSaid). Between s (after_pass s h) stands one told table) seen_so behind.stand;
      agree = agrees_now;
    }
