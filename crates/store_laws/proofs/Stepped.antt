-- The parts stand for the history with a step.
use Rattle.std.proofs.Common.{◌≡◌, ℕ, zero, suc, ◌+◌, ◌-◌, ◌≤◌, ◌==◌, ◌&&◌, ◌||◌, Bool, true, false, not, cond, List, [], ◌∷◌, ◌++◌, map, length, min, set, Option, Some, None, refl, sym, ap, subst, ◌∙◌, arith, ⊎_elim, append-nil}
use Rattle.std.specs.Prelude.{filter, filter_map, find, fold, is_some, nat_eq, slice_get, IfSome, IsSomeAnd, if◌then◌else◌}
use Rattle.std.specs.Option.{option_map, option_map_or}
use Rattle.std.specs.List.{AllByRecursion, cons_option, list_any}
use Rattle.std.proofs.lemmas.Bool.{and_parts, eq-eqb, eqb-true, or_parts}
use Rattle.std.proofs.lemmas.List.{length-map}
use Rattle.std.proofs.lemmas.List.Elements.{filter_map-append}
use Rattle.std.proofs.lemmas.List.Sums.{fold-append}
use Rattle.blob_words.specs.declared.limits.Limits.{Limits}
use Rattle.blob_words.specs.declared.number.ReaderId.{ReaderId}
use Rattle.session_script.specs.declared.event.Event.{Event}
use Rattle.session_script.specs.declared.event.Event.TheVariants as events
use Rattle.answer_text.specs.declared.answer.Answer.{Answer}
use Rattle.answer_text.specs.declared.answer.Answer.TheVariants as answers
use Rattle.data_handles.specs.Handles.{Handle}
use Rattle.data_handles.specs.Table.{counted as counted_slot, slot_at, Slot as TableSlot, Table as HandleTable}
use Rattle.page_disk.specs.declared.change.Change.{Change}
use Rattle.item_shares.specs.Shares.{item_at}
use Rattle.item_shares.specs.declared.item.Item.{Item}
use Rattle.item_shares.specs.declared.item.Item.TheVariants.{Memory, Paged, Reserved, File, Range}
use Rattle.blob_entries.specs.Book.{changed}
use Rattle.blob_entries.specs.Changes.{held_less}
use Rattle.range_reader.specs.Bytes.{origins}
use Rattle.range_reader.specs.Places.{Lies}
use Rattle.range_reader.specs.Steps.{next_cells}
use Rattle.recent_items.specs.Recent.{touched}
use Rattle.blob_model.specs.Builds.{builds, Cell, filed, lent}
use Rattle.blob_model.specs.Chunk.{chunk}
use Rattle.blob_model.specs.History.{heard, refused, said, start, History}
use Rattle.blob_model.specs.Jobs.{is_in_job, paging}
use Rattle.blob_model.specs.Pages.{in_memory, in_page, is_memory, place_in, Place}
use Rattle.blob_model.specs.Pieces.{piece_with, pieces, pieces_of, Piece}
use Rattle.blob_model.specs.Readers.{advanced, reader_at, readers, OpenReader}
use Rattle.blob_model.specs.Session.{page_limit, Session}
use Rattle.blob_model.specs.Standing.{is_done}
use Rattle.blob_model.specs.Victims.{last_uses, memory_piece, used, used_by_answer, used_by_cell, used_by_chunk, used_by_line, with_length}
use Rattle.blob_model.proofs.Lists.{among_filter, any_append_first, any_append_second, any_filtered, any_parts, false_true, filter_all, filter_has, found_all, found_true, or_first}
use Rattle.blob_model.proofs.builds.Order.{Distinct, ordered_distinct}
use Rattle.blob_model.proofs.texts.Ranges.{all_dropped, all_taken}
use Rattle.store_laws.specs.Apart.{AreReadersApart}
use Rattle.store_laws.specs.Cells.{cell_at, cell_by, piece_cell, piece_in}
use Rattle.store_laws.specs.Items.{IsPlaced}
use Rattle.store_laws.specs.LineLaws.{counted, AreUnmarked}
use Rattle.store_laws.specs.Stands.{Between, Parts}
use Rattle.store_laws.specs.StepLaws.{ends_reader, memory_number, moved_on, read_numbers, touched_all, AreUsed, CountsAreBeside, ReaderMoves, StepGives, StepLeaves}
use Rattle.store_laws.specs.TableLaws.{ReaderGoes}
use Rattle.store_laws.specs.Tables.{seen_as, slot_seen, ReadersStand}
use Rattle.store_laws.specs.Uses.{facts_of, held_pieces, is_held, pageable_of}
use Rattle.store_laws.proofs.Alike.{between_alike}
use Rattle.store_laws.proofs.OrderLeft.{number_kept}
use Rattle.store_laws.proofs.PassOrder.{some_out, turn}
use Rattle.store_laws.proofs.Rerooted.{between_rerooted, changed_rerooted}
use Rattle.store_laws.proofs.Stepping.{all_lie, cells_stand, chunk_read, owner_cell, CellLies}
use Rattle.store_laws.proofs.Tables.{has_number, reader_goes}
use Rattle.store_laws.proofs.Unmarked.{unmarked_right}

abbrev Open : Type 0
Open = List (ℕ × OpenReader)

-- ---- steps that give nothing

module _ (s : Session) (h : History) (stands : ℕ → Bool) (parts : Parts) (told : Option (List Change)) (table : HandleTable)
    (unmarked : AreUnmarked parts.book.entries) (between : Between s h stands parts told table) where
  step_waits : (reader : ReaderId) → Between s (heard h (events.Step reader) (answers.Wait reader)) stands (counted parts) told table
  step_waits reader =
      between_alike s h (heard h (events.Step reader) (answers.Wait reader)) refl stands parts told table unmarked between parts.renderers parts.urls
      parts.files parts.readers (record {
        renderers = between.tables.renderers;
        urls_stand = between.tables.urls_stand;
        files_stand = between.tables.files_stand;
        readers_stand = between.tables.readers_stand;
      }) refl

  step_closes : AreReadersApart (page_limit s) h → (reader : ReaderId) (answer : Answer) → ends_reader answer ≡ true → (name : ℕ) (open_readers : Open)
      → ReaderGoes reader.0 parts.readers open_readers
      → Between s (heard h (events.Step reader) answer) stands
      (counted (record parts { book = changed parts.book name held_less; readers = open_readers })) told table
  step_closes apart reader answer ends name open_readers goes = by answer ends
    where
      closed : (one : Answer) → Between s (heard h (events.Step reader) one) stands (counted (record parts { readers = open_readers })) told table
          → Between s (heard h (events.Step reader) one) stands
          (counted (record parts { book = changed parts.book name held_less; readers = open_readers })) told table
      closed one is =
          between_rerooted s (heard h (events.Step reader) one) stands (counted (record parts { readers = open_readers })) told table
          (changed parts.book name held_less) (changed_rerooted (λ (n : ℕ). n - 1) parts.book name) is

      gone : ReadersStand (filter (λ (one : OpenReader). not (one.number == reader.0)) (readers (page_limit s) h)) open_readers
      gone = reader_goes (readers (page_limit s) h) parts.readers open_readers between.tables.readers_stand apart reader.0 goes

      by : (one : Answer) → ends_reader one ≡ true → Between s (heard h (events.Step reader) one) stands
          (counted (record parts { book = changed parts.book name held_less; readers = open_readers })) told table
      by (answers.Ended number status) e =
          closed (answers.Ended number status)
          (between_alike s h (heard h (events.Step reader) (answers.Ended number status)) refl stands parts told table unmarked between parts.renderers
          parts.urls parts.files open_readers (record {
            renderers = between.tables.renderers;
            urls_stand = between.tables.urls_stand;
            files_stand = between.tables.files_stand;
            readers_stand = gone;
          }) refl)
      by (answers.FileChanged number text) e =
          closed (answers.FileChanged number text)
          (between_alike s h (heard h (events.Step reader) (answers.FileChanged number text)) refl stands parts told table unmarked between parts.renderers
          parts.urls parts.files open_readers (record {
            renderers = between.tables.renderers;
            urls_stand = between.tables.urls_stand;
            files_stand = between.tables.files_stand;
            readers_stand = gone;
          }) refl)
      by (answers.PageFault number file) e =
          closed (answers.PageFault number file)
          (between_alike s h (heard h (events.Step reader) (answers.PageFault number file)) refl stands parts told table unmarked between parts.renderers
          parts.urls parts.files open_readers (record {
            renderers = between.tables.renderers;
            urls_stand = between.tables.urls_stand;
            files_stand = between.tables.files_stand;
            readers_stand = gone;
          }) refl)
      by (answers.HandleFailed number slot) e =
          closed (answers.HandleFailed number slot)
          (between_alike s h (heard h (events.Step reader) (answers.HandleFailed number slot)) refl stands parts told table unmarked between parts.renderers
          parts.urls parts.files open_readers (record {
            renderers = between.tables.renderers;
            urls_stand = between.tables.urls_stand;
            files_stand = between.tables.files_stand;
            readers_stand = gone;
          }) refl)
      by one e = absurd (false_true e)

-- ---- counts

set_same : {X Y : Type 0} (f : X → Y) (xs : List X) (k j : ℕ) (x y : X) → slice_get xs k ≡ Some x → f y ≡ f x
    → option_map f (slice_get (set xs k y) j) ≡ option_map f (slice_get xs j)
set_same f [] k j x y at same = refl
set_same f (z ∷ xs) zero zero x y at same = let is : z ≡ x = cc in ap (λ (w : _). Some w) (same ∙ ap f (sym is))
set_same f (z ∷ xs) zero (suc j) x y at same = refl
set_same f (z ∷ xs) (suc k) zero x y at same = refl
set_same f (z ∷ xs) (suc k) (suc j) x y at same = set_same f xs k j x y at same

counts_beside : CountsAreBeside
counts_beside s h stands parts told table slot faults between = record {
  same_limits = between.same_limits;
  same_version = between.same_version;
  contents = between.contents;
  tables = between.tables;
  handles = λ k. by (slot_at table slot) refl k ∙ between.handles k;
  claims = between.claims;
  disk_stands = between.disk_stands;
  same_lines = between.same_lines;
  same_pieces = between.same_pieces;
  same_weight = between.same_weight;
}
  where
    object : (one : Option Handle) → option_map seen_as (option_map (λ (handle : Handle). record handle { faults = faults }) one) ≡ option_map seen_as one
    object None = refl
    object (Some handle) = refl

    by : (found : Option TableSlot) → slot_at table slot ≡ found → (k : ℕ)
        → slot_seen (slice_get (option_map_or (λ (one : TableSlot). set table.slots slot (counted_slot faults one)) found table.slots) k)
        ≡ slot_seen (slot_at table k)
    by None at k = refl
    by (Some one) at k =
        set_same (λ (each : TableSlot). (each.is_claimed, option_map seen_as each.object)) table.slots slot k one (counted_slot faults one) at
        (λ i. (one.is_claimed, object one.object i))

-- ---- the order of use

filter_more : (test : ℕ → Bool) (xs ys : List ℕ) → filter test (xs ++ ys) ≡ filter test xs ++ filter test ys
filter_more test [] ys = refl
filter_more test (x ∷ xs) ys = go (test x) (filter_more test xs ys)
  where
    go : (b : Bool) → filter test (xs ++ ys) ≡ filter test xs ++ filter test ys
        → cond b (x ∷ filter test (xs ++ ys)) (filter test (xs ++ ys)) ≡ cond b (x ∷ filter test xs) (filter test xs) ++ filter test ys
    go true rest = ap (λ (more : List ℕ). x ∷ more) rest
    go false rest = rest

abbrev AreOnce : List ℕ → Type 0
AreOnce uses = (n : ℕ) → list_any (λ (each : ℕ). each == n) uses ≡ true → filter (λ (each : ℕ). each == n) uses ≡ n ∷ []

-- without a number there is none of it, and as many of each other
none_left : (m n : ℕ) → (m == n) ≡ true → (uses : List ℕ) → filter (λ (each : ℕ). each == n) (filter (λ (each : ℕ). not (each == m)) uses) ≡ []
none_left m n same [] = refl
none_left m n same (x ∷ uses) = go (x == m) refl (none_left m n same uses)
  where
    go : (b : Bool) → (x == m) ≡ b → filter (λ (each : ℕ). each == n) (filter (λ (each : ℕ). not (each == m)) uses) ≡ []
        → filter (λ (each : ℕ). each == n) (cond (not b) (x ∷ filter (λ (each : ℕ). not (each == m)) uses) (filter (λ (each : ℕ). not (each == m)) uses)) ≡ []
    go true at rest = rest
    go false at rest =
        ap (λ (b : Bool). cond b (x ∷ filter (λ (each : ℕ). each == n) (filter (λ (each : ℕ). not (each == m)) uses)) (filter (λ (each : ℕ). each == n)
        (filter (λ (each : ℕ). not (each == m)) uses))) (ap (λ (k : ℕ). x == k) (sym (eqb-true m n same)) ∙ at) ∙ rest

as_many : (m n : ℕ) → (m == n) ≡ false → (uses : List ℕ)
    → filter (λ (each : ℕ). each == n) (filter (λ (each : ℕ). not (each == m)) uses) ≡ filter (λ (each : ℕ). each == n) uses
as_many m n apart [] = refl
as_many m n apart (x ∷ uses) = go (x == m) refl (as_many m n apart uses)
  where
    go : (b : Bool) → (x == m) ≡ b
        → filter (λ (each : ℕ). each == n) (filter (λ (each : ℕ). not (each == m)) uses) ≡ filter (λ (each : ℕ). each == n) uses
        → filter (λ (each : ℕ). each == n) (cond (not b) (x ∷ filter (λ (each : ℕ). not (each == m)) uses) (filter (λ (each : ℕ). not (each == m)) uses))
        ≡ cond (x == n) (x ∷ filter (λ (each : ℕ). each == n) uses) (filter (λ (each : ℕ). each == n) uses)
    go false at rest = ap (λ (more : List ℕ). cond (x == n) (x ∷ more) more) rest
    go true at rest =
        rest
        ∙ sym (ap (λ (b : Bool). cond b (x ∷ filter (λ (each : ℕ). each == n) uses) (filter (λ (each : ℕ). each == n) uses))
        (ap (λ (k : ℕ). k == n) (eqb-true x m at) ∙ apart))

once_used : (uses : List ℕ) (m : ℕ) → AreOnce uses → AreOnce (used uses m)
once_used uses m once n e = filter_more (λ (each : ℕ). each == n) (filter (λ (each : ℕ). not (each == m)) uses) (m ∷ []) ∙ go (m == n) refl
  where
    there : (m == n) ≡ false → list_any (λ (each : ℕ). each == n) uses ≡ true
    there apart =
        ⊎_elim (λ (before : list_any (λ (each : ℕ). each == n) (filter (λ (each : ℕ). not (each == m)) uses) ≡ true).
        any_filtered (λ (each : ℕ). each == n) (λ (each : ℕ). not (each == m)) uses before)
        (λ (last : list_any (λ (each : ℕ). each == n) (m ∷ []) ≡ true). absurd (false_true (sym (ap (λ (b : Bool). b || false) apart) ∙ last)))
        (any_parts (λ (each : ℕ). each == n) (filter (λ (each : ℕ). not (each == m)) uses) (m ∷ []) e)

    go : (b : Bool) → (m == n) ≡ b → filter (λ (each : ℕ). each == n) (filter (λ (each : ℕ). not (each == m)) uses) ++ cond (m == n) (m ∷ []) [] ≡ n ∷ []
    go true at =
        (λ i. none_left m n at uses i ++ cond (at i) (m ∷ []) []) ∙ ap (λ (k : ℕ). k ∷ []) (eqb-true m n at)
    go false at =
        (λ i. as_many m n at uses i ++ cond (at i) (m ∷ []) []) ∙ append-nil (filter (λ (each : ℕ). each == n) uses) ∙ once n (there at)

once_fold : (numbers uses : List ℕ) → AreOnce uses → AreOnce (fold used uses numbers)
once_fold [] uses once = once
once_fold (n ∷ numbers) uses once = once_fold numbers (used uses n) (once_used uses n once)

once_chunk : (page : ℕ) (h : History) (cells : List Cell) (uses : List ℕ) → AreOnce uses → AreOnce (fold (used_by_cell page h) uses cells)
once_chunk page h [] uses once = once
once_chunk page h (cell ∷ cells) uses once =
    once_chunk page h cells (used_by_cell page h uses cell) (once_fold (memory_piece page h (piece_with (pieces page h) cell)) uses once)

once_line : (l : Limits) (h : History) (event : Event) (answer : Answer) (uses : List ℕ) → AreOnce uses → AreOnce (used_by_line l h event answer uses)
once_line l h (events.Step reader) (answers.Given number bytes) uses once = by (reader_at l.page h reader.0)
  where
    by : (found : Option OpenReader) → AreOnce (used_by_chunk l h found uses)
    by None = once
    by (Some reader) = once_chunk l.page h (chunk l h reader) uses once
once_line l h event answer uses once = once

once_answer : (page : ℕ) (h : History) (answer : Answer) (uses : List ℕ) → AreOnce uses → AreOnce (used_by_answer page h answer uses)
once_answer page h (answers.Done b) uses once = once_fold (map (λ (piece : Piece). piece.number) (pieces_of page h b)) uses once
once_answer page h answer uses once = once

once_uses : (l : Limits) (h : History) → AreOnce (last_uses l h)
once_uses l start = λ n e. absurd (false_true e)
once_uses l (heard h event answer) = once_line l h event answer (last_uses l h) (once_uses l h)
once_uses l (refused h event why) = once_uses l h
once_uses l (said h answer) = once_answer l.page h answer (last_uses l h) (once_uses l h)

-- what is used stays so
pub member_used : (uses : List ℕ) (n m : ℕ) → list_any (λ (each : ℕ). each == m) uses ≡ true → list_any (λ (each : ℕ). each == m) (used uses n) ≡ true
member_used uses n m there = go (n == m) refl
  where
    go : (b : Bool) → (n == m) ≡ b → list_any (λ (each : ℕ). each == m) (used uses n) ≡ true
    go true at =
        any_append_second (λ (each : ℕ). each == m) (filter (λ (each : ℕ). not (each == n)) uses) (n ∷ []) (or_first (n == m) false at)
    go false at =
        any_append_first (λ (each : ℕ). each == m) (filter (λ (each : ℕ). not (each == n)) uses) (n ∷ [])
        (among_filter (λ (each : ℕ). not (each == n)) uses m there (ap not (turn m n ∙ at)))

none_there : (uses : List ℕ) (n : ℕ) → list_any (λ (each : ℕ). each == n) uses ≡ false → filter (λ (each : ℕ). each == n) uses ≡ []
none_there [] n none = refl
none_there (x ∷ uses) n none =
    let both = or_parts (x == n) (list_any (λ (each : ℕ). each == n) uses) none in
    ap (λ (b : Bool). cond b (x ∷ filter (λ (each : ℕ). each == n) uses) (filter (λ (each : ℕ). each == n) uses)) both.0 ∙ none_there uses n both.1

module _ (tell : ℕ → Option (ℕ × ℕ)) (named : (n : ℕ) (entry : ℕ × ℕ) → tell n ≡ Some entry → entry.0 ≡ n) where
  some_in : (number : ℕ) (uses : List ℕ)
      → filter (λ (entry : ℕ × ℕ). nat_eq number entry.0) (filter_map tell uses) ≡ filter_map tell (filter (λ (each : ℕ). each == number) uses)
  some_in number [] = refl
  some_in number (n ∷ uses) = go (n == number) refl (tell n) refl (some_in number uses)
    where
      same : (entry : ℕ × ℕ) → tell n ≡ Some entry → (b : Bool) → (n == number) ≡ b → nat_eq number entry.0 ≡ b
      same entry is b at = ap (λ (m : ℕ). number == m) (named n entry is) ∙ turn number n ∙ at

      go : (b : Bool) → (n == number) ≡ b → (o : Option (ℕ × ℕ)) → tell n ≡ o
          → filter (λ (entry : ℕ × ℕ). nat_eq number entry.0) (filter_map tell uses) ≡ filter_map tell (filter (λ (each : ℕ). each == number) uses)
          → filter (λ (entry : ℕ × ℕ). nat_eq number entry.0) (cons_option (tell n) (filter_map tell uses))
          ≡ filter_map tell (cond b (n ∷ filter (λ (each : ℕ). each == number) uses) (filter (λ (each : ℕ). each == number) uses))
      go false at None is rest =
          ap (λ (o : Option (ℕ × ℕ)). filter (λ (entry : ℕ × ℕ). nat_eq number entry.0) (cons_option o (filter_map tell uses))) is ∙ rest
      go true at None is rest =
          ap (λ (o : Option (ℕ × ℕ)). filter (λ (entry : ℕ × ℕ). nat_eq number entry.0) (cons_option o (filter_map tell uses))) is ∙ rest
          ∙ sym (ap (λ (o : Option (ℕ × ℕ)). cons_option o (filter_map tell (filter (λ (each : ℕ). each == number) uses))) is)
      go false at (Some entry) is rest =
          ap (λ (o : Option (ℕ × ℕ)). filter (λ (one : ℕ × ℕ). nat_eq number one.0) (cons_option o (filter_map tell uses))) is
          ∙ ap (λ (b : Bool). cond b (entry ∷ filter (λ (one : ℕ × ℕ). nat_eq number one.0) (filter_map tell uses)) (filter
          (λ (one : ℕ × ℕ). nat_eq number one.0) (filter_map tell uses))) (same entry is false at)
          ∙ rest
      go true at (Some entry) is rest =
          ap (λ (o : Option (ℕ × ℕ)). filter (λ (one : ℕ × ℕ). nat_eq number one.0) (cons_option o (filter_map tell uses))) is
          ∙ ap (λ (b : Bool). cond b (entry ∷ filter (λ (one : ℕ × ℕ). nat_eq number one.0) (filter_map tell uses)) (filter
          (λ (one : ℕ × ℕ). nat_eq number one.0) (filter_map tell uses))) (same entry is true at)
          ∙ ap (λ (more : List (ℕ × ℕ)). entry ∷ more) rest
          ∙ sym (ap (λ (o : Option (ℕ × ℕ)). cons_option o (filter_map tell (filter (λ (each : ℕ). each == number) uses))) is)

  touched_one : (uses : List ℕ) (n : ℕ) → AreOnce uses → (is_some (tell n) ≡ true → list_any (λ (each : ℕ). each == n) uses ≡ true)
      → touched n (filter_map tell uses) ≡ filter_map tell (used uses n)
  touched_one uses n once there =
      (λ i. sym (some_out tell named n uses) i ++ (some_in n uses ∙ last (list_any (λ (each : ℕ). each == n) uses) refl) i)
      ∙ sym (filter_map-append tell (filter (λ (each : ℕ). not (each == n)) uses) (n ∷ []))
    where
      untold : (o : Option (ℕ × ℕ)) → tell n ≡ o → list_any (λ (each : ℕ). each == n) uses ≡ false → o ≡ None
      untold None at none = refl
      untold (Some entry) at none = absurd (false_true (sym none ∙ there (ap (λ (o : Option (ℕ × ℕ)). is_some o) at)))

      last : (b : Bool) → list_any (λ (each : ℕ). each == n) uses ≡ b
          → filter_map tell (filter (λ (each : ℕ). each == n) uses) ≡ filter_map tell (n ∷ [])
      last true at = ap (filter_map tell) (once n at)
      last false at =
          ap (filter_map tell) (none_there uses n at) ∙ sym (ap (λ (o : Option (ℕ × ℕ)). cons_option o []) (untold (tell n) refl at))

  all_touched : (numbers uses : List ℕ) → AreOnce uses → ((n : ℕ) → is_some (tell n) ≡ true → list_any (λ (each : ℕ). each == n) uses ≡ true)
      → touched_all (filter_map tell uses) numbers ≡ filter_map tell (fold used uses numbers)
  all_touched [] uses once there = refl
  all_touched (n ∷ numbers) uses once there =
      ap (λ (order : List (ℕ × ℕ)). touched_all order numbers) (touched_one uses n once (there n))
      ∙ all_touched numbers (used uses n) (once_used uses n once) (λ m some. member_used uses n m (there m some))

-- ---- a reader that goes on

found_advanced : (number count other : ℕ) (list : List OpenReader)
    → find (has_number other) (map (advanced number count) list)
    ≡ (if number == other then option_map (moved_on count) (find (has_number other) list) else find (has_number other) list)
found_advanced number count other [] = none (number == other)
  where
    none : (b : Bool) → ◌≡◌ {A = Option OpenReader} None (if b then option_map (moved_on count) None else None)
    none true = refl
    none false = refl
found_advanced number count other (one ∷ list) =
    go (one.number == number) refl (one.number == other) refl (number == other) refl (found_advanced number count other list)
  where
    go : (b : Bool) → (one.number == number) ≡ b → (c : Bool) → (one.number == other) ≡ c → (d : Bool) → (number == other) ≡ d
        → find (has_number other) (map (advanced number count) list)
        ≡ (if number == other then option_map (moved_on count) (find (has_number other) list) else find (has_number other) list)
        → find (has_number other) ((if b then moved_on count one else one) ∷ map (advanced number count) list)
        ≡ (if d then option_map (moved_on count) (if c then Some one else find (has_number other) list)
        else if c then Some one else find (has_number other) list)
    go true at true here true is rest =
        ap (λ (x : Bool). cond x (Some (moved_on count one)) (find (has_number other) (map (advanced number count) list))) here
    go true at true here false is rest =
        let bad : (number == other) ≡ true = ap (λ (k : ℕ). k == other) (sym (eqb-true one.number number at)) ∙ here in
        absurd (false_true (sym is ∙ bad))
    go true at false here d is rest =
        ap (λ (x : Bool). cond x (Some (moved_on count one)) (find (has_number other) (map (advanced number count) list))) here ∙ rest
        ∙ ap (λ (x : Bool). if x then option_map (moved_on count) (find (has_number other) list) else find (has_number other) list) is
    go false at true here true is rest =
        let same : one.number ≡ number = eqb-true one.number other here ∙ sym (eqb-true number other is) in
        absurd (false_true (sym at ∙ eq-eqb one.number number same))
    go false at true here false is rest =
        ap (λ (x : Bool). cond x (Some one) (find (has_number other) (map (advanced number count) list))) here
    go false at false here d is rest =
        ap (λ (x : Bool). cond x (Some one) (find (has_number other) (map (advanced number count) list))) here ∙ rest
        ∙ ap (λ (x : Bool). if x then option_map (moved_on count) (find (has_number other) list) else find (has_number other) list) is

reader_moves : (list : List OpenReader) (old new : Open) (number count : ℕ) → ReadersStand list old → ReaderMoves number count old new
    → ReadersStand (map (advanced number count) list) new
reader_moves list old new number count stand moves = record {
  each = λ other.
      moves.each other
      ∙ ap (λ (found : Option OpenReader). if number == other then option_map (moved_on count) found else found) (stand.each other)
      ∙ sym (found_advanced number count other list);
  many = moves.many ∙ stand.many ∙ sym (length-map list (advanced number count));
}

-- ---- what is read is used

none_owns : (list : List Piece) (name : List ℕ) (stamp index : ℕ) → piece_with list (filed name stamp index) ≡ None
none_owns [] name stamp index = refl
none_owns (piece ∷ list) name stamp index = none_owns list name stamp index

none_lent : (list : List Piece) (slot index : ℕ) → piece_with list (lent slot index) ≡ None
none_lent [] slot index = refl
none_lent (piece ∷ list) slot index = none_lent list slot index

module _ (s : Session) (h : History) (stands : ℕ → Bool) (parts : Parts) (told : Option (List Change)) (table : HandleTable)
    (between : Between s h stands parts told table) (distinct : Distinct (builds (page_limit s) h)) where
  abbrev all : List Piece
  all = pieces (page_limit s) h

  memory_used : (found : Option Piece) (number place : ℕ) (bytes : List ℕ) → piece_in all number ≡ found
      → IsSomeAnd found (λ (one : Piece). ((facts_of s h).granted one ≡ true) × ((facts_of s h).place one ≡ in_memory)
      × (bytes ≡ (facts_of s h).bytes one) × (length bytes ≡ one.len))
      → place + 1 ≤ length bytes → memory_piece (page_limit s) h (piece_with all (piece_cell found place)) ≡ number ∷ []
  memory_used None number place bytes at placed within = absurd placed
  memory_used (Some one) number place bytes at placed within =
      let long = placed.3 in
      ap (memory_piece (page_limit s) h) (owner_cell s h distinct number one place at (omega (arith, within, long)))
      ∙ ap (λ (b : Place). if is_memory b then one.number ∷ [] else []) placed.1
      ∙ ap (λ (n : ℕ). n ∷ []) (eqb-true one.number number (found_true (λ (each : Piece). each.number == number) all one at))

  paged_used : (found : Option Piece) (number page off len place : ℕ) → piece_in all number ≡ found
      → IsSomeAnd found (λ (one : Piece). ((facts_of s h).granted one ≡ true) × ((facts_of s h).place one ≡ in_page page)
      × (off ≡ (facts_of s h).offset one) × (len ≡ one.len))
      → place + 1 ≤ len → memory_piece (page_limit s) h (piece_with all (piece_cell found place)) ≡ []
  paged_used None number page off len place at placed within = absurd placed
  paged_used (Some one) number page off len place at placed within =
      let long = placed.3 in
      ap (memory_piece (page_limit s) h) (owner_cell s h distinct number one place at (omega (arith, within, long)))
      ∙ ap (λ (b : Place). if is_memory b then one.number ∷ [] else []) placed.1

  cell_used : (cell : ℕ × ℕ) → CellLies (origins parts.files told table) parts.shares cell
      → memory_piece (page_limit s) h (piece_with all (cell_at all parts.shares cell)) ≡ memory_number (item_at parts.shares cell.0)
  cell_used cell lies = by (item_at parts.shares cell.0) refl lies
    where
      by : (held : Option Item) → item_at parts.shares cell.0 ≡ held → IsSomeAnd held (Lies (origins parts.files told table) cell.1 1)
          → memory_piece (page_limit s) h (piece_with all (cell_by all held cell.1)) ≡ memory_number held
      by None at lies = absurd lies
      by (Some (Memory piece bytes)) at lies =
          memory_used (piece_in all piece.0) piece.0 cell.1 bytes refl
          (subst (λ (held : Option Item). IfSome held (IsPlaced all (facts_of s h))) at (between.contents.items.each cell.0)) lies
      by (Some (Paged piece page off len)) at lies =
          paged_used (piece_in all piece.0) piece.0 page.0 off len cell.1 refl
          (subst (λ (held : Option Item). IfSome held (IsPlaced all (facts_of s h))) at (between.contents.items.each cell.0)) lies.0
      by (Some (Reserved piece len)) at lies = absurd lies
      by (Some (File name stamp off len)) at lies = ap (memory_piece (page_limit s) h) (none_owns all name stamp (off + cell.1))
      by (Some (Range slot off len)) at lies = ap (memory_piece (page_limit s) h) (none_lent all slot (off + cell.1))

  cells_used : (cells : List (ℕ × ℕ)) (uses : List ℕ) → AllByRecursion (CellLies (origins parts.files told table) parts.shares) cells
      → fold (used_by_cell (page_limit s) h) uses (map (cell_at all parts.shares) cells) ≡ fold used uses (read_numbers parts.shares cells)
  cells_used [] uses lie = refl
  cells_used (cell ∷ cells) uses lie =
      ap (λ (numbers : List ℕ). fold (used_by_cell (page_limit s) h) (fold used uses numbers) (map (cell_at all parts.shares) cells)) (cell_used cell lie.0)
      ∙ cells_used cells (fold used uses (memory_number (item_at parts.shares cell.0))) lie.1
      ∙ sym (fold-append used uses (memory_number (item_at parts.shares cell.0)) (read_numbers parts.shares cells))

  -- a piece that may be paged was used
  module _ (are_used : AreUsed s h) where
    pageable_used : (n : ℕ)
        → is_some (with_length (pageable_of (page_limit s) h (held_pieces (page_limit s) h parts.shares parts.rows)) n) ≡ true
        → list_any (λ (each : ℕ). each == n) (last_uses s.limits h) ≡ true
    pageable_used n some =
        by (find (λ (piece : Piece). piece.number == n) (pageable_of (page_limit s) h (held_pieces (page_limit s) h parts.shares parts.rows))) refl some
      where
        by : (found : Option Piece)
            → find (λ (piece : Piece). piece.number == n) (pageable_of (page_limit s) h (held_pieces (page_limit s) h parts.shares parts.rows)) ≡ found
            → is_some {T = ℕ × ℕ} (option_map (λ (piece : Piece). (piece.number, piece.len)) found) ≡ true
            → list_any (λ (each : ℕ). each == n) (last_uses s.limits h) ≡ true
        by None at some = absurd (false_true some)
        by (Some piece) at some =
            let is = found_all (λ (one : Piece). (is_done h one.blob ≡ true → list_any (λ (each : ℕ). each == one.number) (last_uses s.limits h) ≡ true)
            × ((is_done h one.blob && not (is_in_job h one.number)) ≡ true)) (λ (one : Piece). one.number == n)
            (pageable_of (page_limit s) h (held_pieces (page_limit s) h parts.shares parts.rows)) piece
            (filter_has (λ (one : Piece). is_done h one.blob ≡ true → list_any (λ (each : ℕ). each == one.number) (last_uses s.limits h) ≡ true)
            (λ (one : Piece). is_done h one.blob && not (is_in_job h one.number)) _
            (filter_all (λ (one : Piece). is_done h one.blob ≡ true → list_any (λ (each : ℕ). each == one.number) (last_uses s.limits h) ≡ true)
            (λ (one : Piece). is_memory (place_in h (builds (page_limit s) h) one)) _
            (filter_all (λ (one : Piece). is_done h one.blob ≡ true → list_any (λ (each : ℕ). each == one.number) (last_uses s.limits h) ≡ true)
            (is_held (builds (page_limit s) h) parts.shares parts.rows) all are_used))) at in
            let same : piece.number ≡ n =
            eqb-true piece.number n (found_true (λ (one : Piece). one.number == n)
            (pageable_of (page_limit s) h (held_pieces (page_limit s) h parts.shares parts.rows)) piece at) in
            subst (λ (k : ℕ). list_any (λ (each : ℕ). each == k) (last_uses s.limits h) ≡ true) same
            (is.0 (and_parts (is_done h piece.blob) (not (is_in_job h piece.number)) is.1).0)

step_gives : StepGives
step_gives s h stands parts told table unmarked between ordered are_used reader open_reader entry there at done lie size room bytes open_readers enough moves =
    record {
      same_limits = between.same_limits;
      same_version = between.same_version;
      contents = record {
        names = between.contents.names;
        outlines_stand = between.contents.outlines_stand;
        marks = unmarked_right s h (heard h (events.Step reader) (answers.Given reader bytes)) (builds (page_limit s) h) parts.book.entries
            between.contents.marks unmarked;
        rows_stand = between.contents.rows_stand;
        items = between.contents.items;
        entries = between.contents.entries;
        waiting = between.contents.waiting;
        memory_limit = between.contents.memory_limit;
        page_files_stand = between.contents.page_files_stand;
        recent = λ on. order on;
      };
      tables = record {
        renderers = between.tables.renderers;
        urls_stand = between.tables.urls_stand;
        files_stand = between.tables.files_stand;
        readers_stand = reader_moves (readers (page_limit s) h) parts.readers open_readers reader.0 (length bytes) between.tables.readers_stand moves;
      };
      handles = between.handles;
      claims = between.claims;
      disk_stands = between.disk_stands;
      same_lines = ap (λ (n : ℕ). n + 1) between.same_lines;
      same_pieces = between.same_pieces;
      same_weight = between.same_weight;
    }
  where
    distinct : Distinct (builds (page_limit s) h)
    distinct = ordered_distinct [] (builds (page_limit s) h) ordered

    order : paging h ≡ true
        → touched_all parts.recent (read_numbers parts.shares
        (next_cells (record { size = size; place = open_reader.place; stop = open_reader.end }) room entry.views))
        ≡ filter_map (with_length (pageable_of (page_limit s) h (held_pieces (page_limit s) h parts.shares parts.rows)))
        (used_by_chunk s.limits h (reader_at (page_limit s) h reader.0) (last_uses s.limits h))
    order on =
        ap (λ (list : List (ℕ × ℕ)). touched_all list (read_numbers parts.shares
        (next_cells (record { size = size; place = open_reader.place; stop = open_reader.end }) room entry.views))) (between.contents.recent on)
        ∙ all_touched (with_length (pageable_of (page_limit s) h (held_pieces (page_limit s) h parts.shares parts.rows)))
        (number_kept (λ (k : ℕ). true) (pageable_of (page_limit s) h (held_pieces (page_limit s) h parts.shares parts.rows)))
        (read_numbers parts.shares (next_cells (record { size = size; place = open_reader.place; stop = open_reader.end }) room entry.views))
        (last_uses s.limits h) (once_uses s.limits h) (pageable_used s h stands parts told table between distinct are_used)
        ∙ ap (filter_map (with_length (pageable_of (page_limit s) h (held_pieces (page_limit s) h parts.shares parts.rows))))
        (sym (cells_used s h stands parts told table between distinct
        (next_cells (record { size = size; place = open_reader.place; stop = open_reader.end }) room entry.views) (last_uses s.limits h)
        (all_taken (CellLies (origins parts.files told table) parts.shares) (min room (open_reader.end - open_reader.place)) _
        (all_dropped (CellLies (origins parts.files told table) parts.shares) open_reader.place _
        (all_lie (origins parts.files told table) parts.shares entry.views lie))))
        ∙ ap (fold (used_by_cell (page_limit s) h) (last_uses s.limits h))
        (chunk_read s h stands parts told table between open_reader entry size room
        (cells_stand s h stands parts told table between open_reader.blob entry at done) enough)
        ∙ sym (ap (λ (found : Option OpenReader). used_by_chunk s.limits h found (last_uses s.limits h))
        (sym (between.tables.readers_stand.each reader.0) ∙ there)))

pub step_leaves : StepLeaves
step_leaves = record {
  waits = λ reader s h stands parts told table unmarked between. step_waits s h stands parts told table unmarked between reader;
  closes = step_closes;
  counts = counts_beside;
  gives = step_gives;
}
