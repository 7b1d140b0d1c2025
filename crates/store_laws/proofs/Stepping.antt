-- What a step of a reader gives is what the history allows.
use Rattle.std.proofs.Common.{◌≡◌, ℕ, zero, suc, ◌+◌, ◌-◌, ◌<◌, ◌≤◌, ◌==◌, ◌&&◌, Bool, true, false, not, cond, List, [], ◌∷◌, ◌++◌, map, length, drop, take, min, Option, Some, None, refl, sym, ap, subst, ◌∙◌, inl, inr, arith}
use Rattle.std.specs.Prelude.{nat_le, nat_lt, option_and_then, slice_get, unwrap_or, IfSome, IsSomeAnd}
use Rattle.std.specs.Option.{option_map, option_map_or}
use Rattle.std.specs.List.{AllByRecursion, list_any, prefix_len, range_with_len}
use Rattle.std.proofs.lemmas.Bool.{eq-eqb, eqb-true, le-leb, lt-ltb, or_parts}
use Rattle.std.proofs.lemmas.List.{drop-drop, drop-map, length-append, take-map}
use Rattle.blob_words.specs.declared.number.PageNo.{PageNo}
use Rattle.blob_words.specs.declared.number.ReaderId.{ReaderId}
use Rattle.blob_words.specs.declared.status.Status.{Status}
use Rattle.blob_words.specs.declared.status.Status.TheVariants as statuses
use Rattle.answer_text.specs.declared.answer.Answer.{Answer}
use Rattle.answer_text.specs.declared.answer.Answer.TheVariants as answers
use Rattle.data_handles.specs.Table.{Table as HandleTable}
use Rattle.page_disk.specs.declared.change.Change.{Change}
use Rattle.file_table.specs.Files.{is_readable, note_of}
use Rattle.file_table.specs.Files.{recorded as noted_state}
use Rattle.file_table.specs.declared.file_note.FileNote.{FileNote}
use Rattle.item_shares.specs.Shares.{item_at}
use Rattle.item_shares.specs.declared.item.Item.{Item}
use Rattle.item_shares.specs.declared.item.Item.TheVariants.{Memory, Paged, Reserved, File, Range}
use Rattle.item_shares.specs.declared.shares.Share.{Share}
use Rattle.blob_items.specs.declared.view.View.{View}
use Rattle.blob_items.specs.Cells.{cells, total, view_cells, IsPlaceOf}
use Rattle.blob_items.proofs.CutLemmas.{cells_behind, first_within}
use Rattle.blob_items.proofs.StartLemmas.{total-cons}
use Rattle.blob_entries.specs.Book.{entry_at, entry_of}
use Rattle.blob_entries.specs.Names.{number_of}
use Rattle.blob_entries.specs.declared.entry.Entry.{Entry}
use Rattle.range_reader.specs.Bytes.{AreBytesOf, cell_byte, cell_fails, item_byte, item_fails, origins, Origins}
use Rattle.range_reader.specs.Ends.{StepEnds}
use Rattle.range_reader.specs.Places.{Course, Lies, ViewLies}
use Rattle.range_reader.specs.Steps.{asked, Asked, IsInPage, IsOfHandle, next_cells}
use Rattle.range_reader.specs.declared.step_end.StepEnd.{StepEnd}
use Rattle.range_reader.specs.declared.step_end.StepEnd.TheVariants.{Bytes, End, FileChanged, PageFault, HandleFault}
use Rattle.blob_model.specs.Builds.{Build, Cell, build_in, builds, cells_in, sent}
use Rattle.blob_model.specs.Choice.{IsOneOf}
use Rattle.blob_model.specs.Chunk.{before_failing, chunk, fails, file_of, first_failing, gives, left}
use Rattle.blob_model.specs.History.{History}
use Rattle.blob_model.specs.Order.{AreOrdered}
use Rattle.blob_model.specs.Own.{cell_fault, page_fault, pending_status, read_faults, sent_fault, IsNext, IsRead, IsReadOf, IsStepBy, IsStep}
use Rattle.blob_model.specs.Pages.{in_page}
use Rattle.blob_model.specs.Pieces.{Piece, owns, piece_with, pieces}
use Rattle.blob_model.specs.Readers.{OpenReader}
use Rattle.blob_model.specs.Recorded.{FileState, recorded}
use Rattle.blob_model.specs.Session.{Session, page_limit}
use Rattle.blob_model.specs.Standing.{ended}
use Rattle.blob_model.specs.Transport.{has_all}
use Rattle.blob_model.specs.Value.{agree, agrees}
use Rattle.blob_model.specs.Waits.{is_waiting}
use Rattle.blob_model.proofs.Lists.{all_append, append_second, found_all}
use Rattle.blob_model.proofs.builds.Order.{Distinct, ordered_distinct}
use Rattle.blob_model.proofs.texts.Ranges.{all_dropped, all_taken}
use Rattle.model_bridges.specs.Bridges.{state_as}
use Rattle.registry_laws.specs.Agree.{Beside}
use Rattle.store_laws.specs.Cells.{cell_at, cell_by, denoted, piece_cell, piece_in}
use Rattle.store_laws.specs.Items.{IsPlaced}
use Rattle.store_laws.specs.Outlines.{Outline}
use Rattle.store_laws.specs.Recipes.{EntryStands, StandsFor}
use Rattle.store_laws.specs.Stands.{Between, Parts}
use Rattle.store_laws.specs.StepLaws.{name_by, step_answer, viewed_file, StepTells}
use Rattle.store_laws.specs.TellLaws.{AreWritten}
use Rattle.store_laws.specs.Uses.{facts_of, own_pieces}
use Rattle.store_laws.proofs.Owners.{IsOwner, owners, pieces_staggered}
use Rattle.store_laws.proofs.Telling.{built}
use Rattle.store_laws.proofs.ToldPages.{tells_all_cells}

-- ---- what stands under a name, beside its blob

beside_built : (P : Build → Option Entry → Type 0) (name : ℕ) (entry : Entry) (list : List Build) (entries : List (Option Entry)) → Beside P list entries
    → option_and_then (entry_at entries) (number_of name (map (λ (build : Build). build.name) list)) ≡ Some entry
    → (build : Build) × (build_in list name ≡ Some build) × P build (Some entry)
beside_built P name entry [] entries all at = absurd (cc at)
beside_built P name entry (build ∷ list) [] all at = absurd all
beside_built P name entry (build ∷ list) (held ∷ entries) all at =
    go (name == build.name) refl (number_of name (map (λ (one : Build). one.name) list)) refl at
    (λ later. beside_built P name entry list entries all.1 later)
  where
    turned : (name == build.name) ≡ false → (b : Bool) → (build.name == name) ≡ b → b ≡ false
    turned other false at = refl
    turned other true at =
        let here : (name == build.name) ≡ true = eq-eqb name build.name (sym (eqb-true build.name name at)) in
        let bad : true ≡ false = sym here ∙ other in absurd (cc bad)

    go : (b : Bool) → (name == build.name) ≡ b → (found : Option ℕ) → number_of name (map (λ (one : Build). one.name) list) ≡ found
        → option_and_then (entry_at (held ∷ entries)) (cond b (Some 0) (option_map (λ (number : ℕ). number + 1) found)) ≡ Some entry
        → (option_and_then (entry_at entries) (number_of name (map (λ (one : Build). one.name) list)) ≡ Some entry
        → (one : Build) × (build_in list name ≡ Some one) × P one (Some entry))
        → (one : Build) × (build_in (build ∷ list) name ≡ Some one) × P one (Some entry)
    go true same found there is rest = (
      build,
      ap (λ (b : Bool). cond b (Some build) (build_in list name)) (eq-eqb build.name name (sym (eqb-true name build.name same))),
      subst (P build) is all.0,
    )
    go false same None there is rest = absurd (cc is)
    go false same (Some number) there is rest =
        let next : number + 1 ≡ suc number = omega arith in
        let later : entry_at entries number ≡ Some entry = subst (λ (n : ℕ). entry_at (held ∷ entries) n ≡ Some entry) next is in
        let one = rest (ap (option_and_then (entry_at entries)) there ∙ later) in (
          one.0,
          ap (λ (b : Bool). cond b (Some build) (build_in list name)) (turned same (build.name == name) refl) ∙ one.1,
          one.2,
        )

-- ---- cells that lie inside items

abbrev pub CellLies : Origins → List (Option Share) → ℕ × ℕ → Type 0
CellLies from shares cell = IsSomeAnd (item_at shares cell.0) (Lies from cell.1 1)

module _ (from : Origins) where
  lies_less : (item : Item) (place count at : ℕ) → Lies from place count item → place ≤ at → at + 1 ≤ place + count → Lies from at 1 item
  lies_less (Memory piece bytes) place count at lies low high = let whole = lies in omega (arith, whole, high)
  lies_less (Paged piece page off len) place count at lies low high = (let whole = lies.0 in omega (arith, whole, high), lies.1, lies.2)
  lies_less (Reserved piece len) place count at lies low high = lies
  lies_less (File name stamp off len) place count at lies low high = let whole = lies in omega (arith, whole, high)
  lies_less (Range slot off len) place count at lies low high = (let whole = lies.0 in omega (arith, whole, high), lies.1, lies.2)

  module _ (shares : List (Option Share)) where
    range_lies : (slot : ℕ) (item : Item) → item_at shares slot ≡ Some item → (place count low n : ℕ) → Lies from place count item → place ≤ low
        → low + n ≤ place + count → AllByRecursion (CellLies from shares) (map (λ (at : ℕ). (slot, at)) (range_with_len low n))
    range_lies slot item held place count low zero lies above below = tt
    range_lies slot item held place count low (suc n) lies above below = (
      subst (λ (one : Option Item). IsSomeAnd one (Lies from low 1)) (sym held) (lies_less item place count low lies above (omega (arith, below))),
      range_lies slot item held place count (low + 1) n lies (omega (arith, above)) (omega (arith, below)),
    )

    view_lies : (view : View) → ViewLies from shares view → AllByRecursion (CellLies from shares) (view_cells view)
    view_lies view lies = by (item_at shares view.slot) refl lies
      where
        by : (held : Option Item) → item_at shares view.slot ≡ held → IsSomeAnd held (Lies from view.off view.len)
            → AllByRecursion (CellLies from shares) (view_cells view)
        by None at is = absurd is
        by (Some item) at is = range_lies view.slot item at view.off view.len view.off view.len is (omega arith) (omega arith)

    pub all_lie : (views : List View) → AllByRecursion (ViewLies from shares) views → AllByRecursion (CellLies from shares) (cells views)
    all_lie [] lies = tt
    all_lie (view ∷ views) lies = all_append (CellLies from shares) (view_cells view) (cells views) (view_lies view lies.0) (all_lie views lies.1)

-- ---- the cell at which a read stops, and its view

drop_front : {X : Type 0} (m : ℕ) (xs front rest : List X) (x : X) → take m xs ≡ front ++ x ∷ rest → (more : List X) × (drop (length front) xs ≡ x ∷ more)
drop_front zero xs [] rest x e = absurd (cc e)
drop_front zero xs (y ∷ front) rest x e = absurd (cc e)
drop_front (suc m) [] [] rest x e = absurd (cc e)
drop_front (suc m) [] (y ∷ front) rest x e = absurd (cc e)
drop_front (suc m) (z ∷ xs) [] rest x e = (xs, let same : z ≡ x = cc in ap (λ (w : _). w ∷ xs) same)
drop_front (suc m) (z ∷ xs) (y ∷ front) rest x e = drop_front m xs front rest x (cc e)

range_slot : (slot low n skipped : ℕ) (ys more : List (ℕ × ℕ)) (cell : ℕ × ℕ) → skipped < n
    → drop skipped (map (λ (at : ℕ). (slot, at)) (range_with_len low n) ++ ys) ≡ cell ∷ more → cell.0 ≡ slot
range_slot slot low zero skipped ys more cell within e = absurd (omega (arith, within))
range_slot slot low (suc n) zero ys more cell within e = let same : (slot, low) ≡ cell = cc in sym (ap (λ (one : ℕ × ℕ). one.0) same)
range_slot slot low (suc n) (suc skipped) ys more cell within e = range_slot slot (low + 1) n skipped ys more cell (omega (arith, within)) e

first_slot : (views : List View) (skipped : ℕ) (more : List (ℕ × ℕ)) (cell : ℕ × ℕ) → skipped < total (take 1 views)
    → drop skipped (cells views) ≡ cell ∷ more → (view : View) × (slice_get views 0 ≡ Some view) × (cell.0 ≡ view.slot)
first_slot [] skipped more cell within e = absurd (omega (arith, within))
first_slot (view ∷ views) skipped more cell within e =
    (view, refl, range_slot view.slot view.off view.len skipped (cells views) more cell (omega (arith, within, total-cons view [])) e)

get_drop : {X : Type 0} (n : ℕ) (xs : List X) → slice_get (drop n xs) 0 ≡ slice_get xs n
get_drop zero xs = refl
get_drop (suc n) [] = refl
get_drop (suc n) (x ∷ xs) = get_drop n xs

pub stop_view : (views : List View) (off m view skipped : ℕ) (front rest : List (ℕ × ℕ)) (cell : ℕ × ℕ)
    → take m (drop off (cells views)) ≡ front ++ cell ∷ rest → IsPlaceOf views (off + length front) (view, skipped)
    → (one : View) × (slice_get views view ≡ Some one) × (cell.0 ≡ one.slot)
stop_view views off m view skipped front rest cell parts place =
    let here = drop_front m (drop off (cells views)) front rest cell parts in
    let there : drop (off + length front) (cells views) ≡ cell ∷ here.0 = sym (drop-drop (length front) off (cells views)) ∙ here.1 in
    let behind : drop skipped (cells (drop view views)) ≡ cell ∷ here.0 =
    sym (cells_behind views (off + length front) view skipped place.before) ∙ there in
    let first = first_slot (drop view views) skipped (here.0) cell (first_within views (off + length front) (view, skipped) place) behind in
    (first.0, sym (get_drop view views) ∙ first.1, first.2)

-- ---- lists of answers

one_front : {X : Type 0} (x : X) (xs ys : List X) → IsOneOf x xs → IsOneOf x (xs ++ ys)
one_front x [] ys one = absurd one
one_front x (y ∷ xs) ys (inl same) = inl same
one_front x (y ∷ xs) ys (inr later) = inr (one_front x xs ys later)

one_back : {X : Type 0} (x : X) (xs ys : List X) → IsOneOf x ys → IsOneOf x (xs ++ ys)
one_back x [] ys one = one
one_back x (y ∷ xs) ys one = inr (one_back x xs ys one)

-- the piece of a byte of a piece is that piece
pub owner_cell : (s : Session) (h : History) → Distinct (builds (page_limit s) h) → (number : ℕ) (one : Piece) (place : ℕ)
    → piece_in (pieces (page_limit s) h) number ≡ Some one → place < one.len
    → piece_with (pieces (page_limit s) h) (sent one.blob (one.from + place)) ≡ Some one
owner_cell s h distinct number one place at within =
    let low : nat_le one.from (one.from + place) ≡ true = le-leb one.from (one.from + place) (omega arith) in
    let high : nat_lt (one.from + place) (one.from + one.len) ≡ true = lt-ltb (one.from + place) (one.from + one.len) (omega (arith, within)) in
    let owned : owns one (sent one.blob (one.from + place)) ≡ true =
    ap (λ (b : Bool). b && nat_le one.from (one.from + place) && nat_lt (one.from + place) (one.from + one.len)) (eq-eqb one.blob one.blob refl)
    ∙ ap (λ (b : Bool). b && nat_lt (one.from + place) (one.from + one.len)) low ∙ high in
    found_all (IsOwner (pieces (page_limit s) h)) (λ (each : Piece). each.number == number) (pieces (page_limit s) h) one
    (owners (pieces (page_limit s) h) (pieces_staggered s.limits 0 (builds (page_limit s) h) distinct)) at (sent one.blob (one.from + place)) owned

-- ---- what is read

module _ (s : Session) (h : History) (stands : ℕ → Bool) (parts : Parts) (told : Option (List Change)) (table : HandleTable)
    (between : Between s h stands parts told table) where
  abbrev all : List Piece
  all = pieces (page_limit s) h

  abbrev from : Origins
  from = origins parts.files told table

  abbrev said : ℕ × ℕ → Cell
  said cell = cell_at all parts.shares cell

  abbrev failing : ℕ × ℕ → Bool
  failing cell = cell_fails parts.files parts.shares cell

  -- a byte of a piece never fails
  sound_piece : (found : Option Piece) (place : ℕ) → fails h (piece_cell found place) ≡ false
  sound_piece None place = refl
  sound_piece (Some piece) place = refl

  file_fails : (name : List ℕ) (stamp place : ℕ)
      → not (is_readable stamp (place + 1) (option_and_then noted_state (note_of name parts.files))) ≡ not (gives (recorded h name) stamp place)
  file_fails name stamp place = by (note_of name parts.files) (between.tables.files_stand.states name)
    where
      within : (bytes : List ℕ) → nat_le (place + 1) (length bytes) ≡ nat_lt place (length bytes)
      within bytes = let next : place + 1 ≡ suc place = omega arith in ap (λ (n : ℕ). nat_le n (length bytes)) next

      by_bytes : (note : FileNote) (bytes : Option (List ℕ)) → note.bytes ≡ bytes
          → not (is_readable stamp (place + 1) (option_map (λ (list : List ℕ). record { stamp = note.last; len = length list }) bytes))
          ≡ not (gives (option_map (λ (list : List ℕ). record { stamp = note.last; bytes = list }) bytes) stamp place)
      by_bytes note None at = refl
      by_bytes note (Some bytes) at = ap (λ (b : Bool). not ((note.last == stamp) && b)) (within bytes)

      by : (found : Option FileNote) → option_and_then state_as found ≡ recorded h name
          → not (is_readable stamp (place + 1) (option_and_then noted_state found)) ≡ not (gives (recorded h name) stamp place)
      by None stand = ap (λ (state : Option FileState). not (gives state stamp place)) stand
      by (Some note) stand = by_bytes note note.bytes refl ∙ ap (λ (state : Option FileState). not (gives state stamp place)) stand

  fails_same : (cell : ℕ × ℕ) → failing cell ≡ fails h (said cell)
  fails_same cell = by (item_at parts.shares cell.0)
    where
      by : (held : Option Item) → option_map_or (item_fails parts.files cell.1) held false ≡ fails h (cell_by all held cell.1)
      by None = refl
      by (Some (Memory piece bytes)) = sym (sound_piece (piece_in all piece.0) cell.1)
      by (Some (Paged piece page off len)) = sym (sound_piece (piece_in all piece.0) cell.1)
      by (Some (Reserved piece len)) = sym (sound_piece (piece_in all piece.0) cell.1)
      by (Some (File name stamp off len)) = file_fails name stamp (off + cell.1)
      by (Some (Range slot off len)) = refl

  -- where none fails none does for the history, and the first that fails is its first
  none_fails : (cells : List (ℕ × ℕ)) → list_any failing cells ≡ false → first_failing h (map said cells) ≡ None
  none_fails [] none = refl
  none_fails (cell ∷ cells) none =
      let both = or_parts (failing cell) (list_any failing cells) none in
      ap (λ (b : Bool). cond b (Some (said cell)) (first_failing h (map said cells))) (sym (fails_same cell) ∙ both.0) ∙ none_fails cells both.1

  first_fails : (front rest : List (ℕ × ℕ)) (cell : ℕ × ℕ) → list_any failing front ≡ false → failing cell ≡ true
      → first_failing h (map said (front ++ cell ∷ rest)) ≡ Some (said cell)
  first_fails [] rest cell none does =
      ap (λ (b : Bool). cond b (Some (said cell)) (first_failing h (map said rest))) (sym (fails_same cell) ∙ does)
  first_fails (one ∷ front) rest cell none does =
      let both = or_parts (failing one) (list_any failing front) none in
      ap (λ (b : Bool). cond b (Some (said one)) (first_failing h (map said (front ++ cell ∷ rest)))) (sym (fails_same one) ∙ both.0)
      ∙ first_fails front rest cell both.1 does

  -- a cell before which none fails, and that doesn't fail itself, is before the first that does
  before_more : (one : Cell) (cells : List Cell) → fails h one ≡ false → before_failing h (one ∷ cells) ≡ one ∷ before_failing h cells
  before_more one cells sound =
      ap (λ (b : Bool). take (cond (not b) (1 + prefix_len (λ (cell : Cell). not (fails h cell)) cells) 0) (one ∷ cells)) sound
      ∙ ap (λ (n : ℕ). take n (one ∷ cells)) (next (prefix_len (λ (cell : Cell). not (fails h cell)) cells))
    where
      next : (n : ℕ) → 1 + n ≡ suc n
      next n = omega arith

  module _ (reader : ReaderId) (own : List Answer) where
    fault_before : (front rest : List (ℕ × ℕ)) (cell : ℕ × ℕ) → list_any failing front ≡ false → failing cell ≡ false
        → IsOneOf own (cell_fault s h reader (said cell))
        → IsOneOf own (read_faults s h reader (before_failing h (map said (front ++ cell ∷ rest))))
    fault_before [] rest cell none sound one =
        subst (λ (cells : List Cell). IsOneOf own (read_faults s h reader cells))
        (sym (before_more (said cell) (map said rest) (sym (fails_same cell) ∙ sound)))
        (one_front own (cell_fault s h reader (said cell)) (read_faults s h reader (before_failing h (map said rest))) one)
    fault_before (first ∷ front) rest cell none sound one =
        let both = or_parts (failing first) (list_any failing front) none in
        subst (λ (cells : List Cell). IsOneOf own (read_faults s h reader cells))
        (sym (before_more (said first) (map said (front ++ cell ∷ rest)) (sym (fails_same first) ∙ both.0)))
        (one_back own (cell_fault s h reader (said first)) (read_faults s h reader (before_failing h (map said (front ++ cell ∷ rest))))
        (fault_before front rest cell both.1 sound one))

    fault_among : (front rest : List (ℕ × ℕ)) (cell : ℕ × ℕ) → IsOneOf own (cell_fault s h reader (said cell))
        → IsOneOf own (read_faults s h reader (map said (front ++ cell ∷ rest)))
    fault_among [] rest cell one = one_front own (cell_fault s h reader (said cell)) (read_faults s h reader (map said rest)) one
    fault_among (first ∷ front) rest cell one =
        one_back own (cell_fault s h reader (said first)) (read_faults s h reader (map said (front ++ cell ∷ rest))) (fault_among front rest cell one)

    fault_read : (front rest : List (ℕ × ℕ)) (cell : ℕ × ℕ) → list_any failing front ≡ false → failing cell ≡ false
        → IsOneOf own (cell_fault s h reader (said cell)) → IsReadOf s h reader (map said (front ++ cell ∷ rest)) own
    fault_read front rest cell none sound one = by (first_failing h (map said (front ++ cell ∷ rest)))
      where
        by : (first : Option Cell) → IsRead s h reader (map said (front ++ cell ∷ rest)) first own
        by None = inr (fault_among front rest cell one)
        by (Some other) = inr (fault_before front rest cell none sound one)

  -- ---- answers

  changed_read : (reader : ReaderId) (name : List ℕ) (front rest : List (ℕ × ℕ)) (cell : ℕ × ℕ) → list_any failing front ≡ false → failing cell ≡ true
      → name ≡ name_by (item_at parts.shares cell.0) → IsReadOf s h reader (map said (front ++ cell ∷ rest)) (answers.FileChanged reader name ∷ [])
  changed_read reader name front rest cell none does is =
      subst (λ (first : Option Cell). IsRead s h reader (map said (front ++ cell ∷ rest)) first (answers.FileChanged reader name ∷ []))
      (sym (first_fails front rest cell none does)) (inl (ap (λ (text : List ℕ). answers.FileChanged reader text ∷ []) (is ∙ named (item_at parts.shares cell.0)
      does)))
    where
      named : (held : Option Item) → option_map_or (item_fails parts.files cell.1) held false ≡ true → name_by held ≡ file_of (cell_by all held cell.1)
      named None e = absurd (cc e)
      named (Some (Memory piece bytes)) e = absurd (cc e)
      named (Some (Paged piece page off len)) e = absurd (cc e)
      named (Some (Reserved piece len)) e = absurd (cc e)
      named (Some (File text stamp off len)) e = refl
      named (Some (Range slot off len)) e = absurd (cc e)

  module _ (distinct : Distinct (builds (page_limit s) h)) (reader : ReaderId) where
    page_cell : (found : Option Piece) (number page off len place : ℕ) → piece_in all number ≡ found
        → IsSomeAnd found (λ (one : Piece). ((facts_of s h).granted one ≡ true) × ((facts_of s h).place one ≡ in_page page)
        × (off ≡ (facts_of s h).offset one) × (len ≡ one.len))
        → place + 1 ≤ len
        → cell_fault s h reader (piece_cell found place) ≡ (answers.PageFault reader (record { 0 = page }) ∷ []) ∷ []
    page_cell None number page off len place at placed within = absurd placed
    page_cell (Some one) number page off len place at placed within =
        let long = placed.3 in
        let mine = owner_cell s h distinct number one place at (omega (arith, within, long)) in
        ap (sent_fault s h reader) mine ∙ ap (page_fault reader) placed.1

    page_read : (page : PageNo) (front rest : List (ℕ × ℕ)) (cell : ℕ × ℕ) → list_any failing front ≡ false
        → IsSomeAnd (item_at parts.shares cell.0) (IsInPage page) → IsSomeAnd (item_at parts.shares cell.0) (Lies from cell.1 1)
        → IsReadOf s h reader (map said (front ++ cell ∷ rest)) (answers.PageFault reader page ∷ [])
    page_read page front rest cell none here lies = by (item_at parts.shares cell.0) refl here lies
      where
        by : (held : Option Item) → item_at parts.shares cell.0 ≡ held → IsSomeAnd held (IsInPage page) → IsSomeAnd held (Lies from cell.1 1)
            → IsReadOf s h reader (map said (front ++ cell ∷ rest)) (answers.PageFault reader page ∷ [])
        by None at here lies = absurd here
        by (Some (Memory piece bytes)) at here lies = absurd here
        by (Some (Reserved piece len)) at here lies = absurd here
        by (Some (File name stamp off len)) at here lies = absurd here
        by (Some (Range slot off len)) at here lies = absurd here
        by (Some (Paged piece one off len)) at here lies =
            let placed = subst (λ (held : Option Item). IfSome held (IsPlaced all (facts_of s h))) at (between.contents.items.each cell.0) in
            let fault : cell_fault s h reader (said cell) ≡ (answers.PageFault reader (record { 0 = one.0 }) ∷ []) ∷ [] =
            ap (λ (held : Option Item). cell_fault s h reader (cell_by all held cell.1)) at
            ∙ page_cell (piece_in all piece.0) piece.0 one.0 off len cell.1 refl placed lies.0 in
            fault_read reader (answers.PageFault reader page ∷ []) front rest cell none
            (ap (λ (held : Option Item). option_map_or (item_fails parts.files cell.1) held false) at)
            (subst (IsOneOf (answers.PageFault reader page ∷ [])) (sym fault) (inl (ap (λ (n : PageNo). answers.PageFault reader n ∷ []) (sym here))))

  handle_read : (reader : ReaderId) (slot : ℕ) (front rest : List (ℕ × ℕ)) (cell : ℕ × ℕ) → list_any failing front ≡ false
      → IsSomeAnd (item_at parts.shares cell.0) (IsOfHandle slot)
      → IsReadOf s h reader (map said (front ++ cell ∷ rest)) (answers.HandleFailed reader slot ∷ [])
  handle_read reader slot front rest cell none here = by (item_at parts.shares cell.0) refl here
    where
      by : (held : Option Item) → item_at parts.shares cell.0 ≡ held → IsSomeAnd held (IsOfHandle slot)
          → IsReadOf s h reader (map said (front ++ cell ∷ rest)) (answers.HandleFailed reader slot ∷ [])
      by None at here = absurd here
      by (Some (Memory piece bytes)) at here = absurd here
      by (Some (Paged piece page off len)) at here = absurd here
      by (Some (Reserved piece len)) at here = absurd here
      by (Some (File name stamp off len)) at here = absurd here
      by (Some (Range one off len)) at here =
          fault_read reader (answers.HandleFailed reader slot ∷ []) front rest cell none
          (ap (λ (held : Option Item). option_map_or (item_fails parts.files cell.1) held false) at)
          (subst (IsOneOf (answers.HandleFailed reader slot ∷ [])) (sym (ap (λ (held : Option Item). cell_fault s h reader (cell_by all held cell.1)) at))
          (inl (ap (λ (n : ℕ). answers.HandleFailed reader n ∷ []) (sym here))))

  module _ (ordered : AreOrdered [] (builds (page_limit s) h)) (written : AreWritten s h) where
    cell_told : (cell : ℕ × ℕ) (byte : ℕ) → IsSomeAnd (item_at parts.shares cell.0) (Lies from cell.1 1) → failing cell ≡ false
        → IfSome (cell_byte from parts.shares cell) (λ (known : ℕ). byte ≡ known) → agrees s h (said cell) byte ≡ true
    cell_told cell byte lies sound is = by (item_at parts.shares cell.0) refl lies sound is
      where
        by : (held : Option Item) → item_at parts.shares cell.0 ≡ held → IsSomeAnd held (Lies from cell.1 1)
            → option_map_or (item_fails parts.files cell.1) held false ≡ false
            → IfSome (option_and_then (item_byte from cell.1) held) (λ (known : ℕ). byte ≡ known) → agrees s h (cell_by all held cell.1) byte ≡ true
        by None at lies sound is = absurd lies
        by (Some item) at lies sound is =
            tells_all_cells s h stands parts told table between ordered written cell.0 cell.1 byte item at lies sound is

    given_read : (cells : List (ℕ × ℕ)) (bytes : List ℕ) → AllByRecursion (CellLies from parts.shares) cells → list_any failing cells ≡ false
        → AreBytesOf (cell_byte from parts.shares) cells bytes → agree s h (map said cells) bytes ≡ true
    given_read [] [] lie none are = refl
    given_read [] (byte ∷ bytes) lie none are = absurd are
    given_read (cell ∷ cells) [] lie none are = absurd are
    given_read (cell ∷ cells) (byte ∷ bytes) lie none are =
        let both = or_parts (failing cell) (list_any failing cells) none in
        ap (λ (b : Bool). b && agree s h (map said cells) bytes) (cell_told cell byte lie.0 both.0 are.0) ∙ given_read cells bytes lie.1 both.1 are.1

  -- ---- what stands under the reader's blob

  done_ended : (name : ℕ) (entry : Entry) → entry_of parts.book name ≡ Some entry → entry.status ≡ statuses.Done → ended h name ≡ Some statuses.Done
  done_ended name entry at done =
      let one = built s h stands parts told table between name entry at in
      let is : unwrap_or (ended h one.build.name) (pending_status s h one.build) ≡ statuses.Done =
      sym (ap (λ (o : Outline). o.status) one.outline_is) ∙ done in
      ap (ended h) (sym one.same_name) ∙ by (ended h one.build.name) (is_waiting h one.build) (has_all s.limits h one.build) is
    where
      by : (found : Option Status) (a b : Bool)
          → unwrap_or found (cond a statuses.PendingQuota (cond b statuses.PendingReferencedBlobs statuses.PendingTransport)) ≡ statuses.Done
          → found ≡ Some statuses.Done
      by None true b e = absurd (cc e)
      by None false true e = absurd (cc e)
      by None false false e = absurd (cc e)
      by (Some status) a b e = ap (λ (one : Status). Some one) e

  pub cells_stand : (name : ℕ) (entry : Entry) → entry_of parts.book name ≡ Some entry → entry.status ≡ statuses.Done
      → denoted all parts.shares entry.views ≡ cells_in (builds (page_limit s) h) name
  cells_stand name entry at done =
      let one = beside_built (EntryStands (builds (page_limit s) h) all parts.shares (own_pieces (page_limit s) h)) name entry (builds (page_limit s) h)
      parts.book.entries between.contents.entries.each
      (ap (λ (names : List ℕ). option_and_then (entry_at parts.book.entries) (number_of name names)) (sym between.contents.names) ∙ at) in
      let stood : StandsFor (builds (page_limit s) h) all parts.shares one.0.cells statuses.Done entry =
      subst (λ (status : Status). StandsFor (builds (page_limit s) h) all parts.shares one.0.cells status entry) done (one.2.stands) in
      stood.0 ∙ sym (ap (λ (found : Option Build). option_map_or (λ (build : Build). build.cells) found []) one.1)

  -- the cells that a step with enough room reads are those that the history reads
  pub chunk_read : (open_reader : OpenReader) (entry : Entry) (size room : ℕ)
      → denoted all parts.shares entry.views ≡ cells_in (builds (page_limit s) h) open_reader.blob
      → min room (open_reader.end - open_reader.place) ≡ min (open_reader.end - open_reader.place) s.limits.chunk
      → map said (next_cells (record { size = size; place = open_reader.place; stop = open_reader.end }) room entry.views) ≡ chunk s.limits h open_reader
  chunk_read open_reader entry size room stand enough =
      sym (take-map said (min room (open_reader.end - open_reader.place)) (drop open_reader.place (cells entry.views)))
      ∙ ap (take (min room (open_reader.end - open_reader.place))) (sym (drop-map said open_reader.place (cells entry.views)))
      ∙ ap (λ (n : ℕ). take n (drop open_reader.place (denoted all parts.shares entry.views))) enough
      ∙ ap (λ (list : List Cell). take (min (open_reader.end - open_reader.place) s.limits.chunk) (drop open_reader.place list)) stand

  next_read : (reader : ReaderId) (open_reader : OpenReader) (own : List Answer) (more : ℕ) → 0 < more
      → IsReadOf s h reader (chunk s.limits h open_reader) own → IsNext s h reader open_reader more own
  next_read reader open_reader own zero some is = absurd (omega (arith, some))
  next_read reader open_reader own (suc more) some is = is

pub short_take : {X : Type 0} (n : ℕ) (xs : List X) → length (take n xs) ≤ n
short_take zero xs = omega arith
short_take (suc n) [] = omega arith
short_take (suc n) (x ∷ xs) = let rest = short_take n xs in omega (arith, rest)

module _ (s : Session) (h : History) (stands : ℕ → Bool) (parts : Parts) (told : Option (List Change)) (table : HandleTable)
    (between : Between s h stands parts told table) (ordered : AreOrdered [] (builds (page_limit s) h)) (written : AreWritten s h) (reader : ReaderId)
    (open_reader : OpenReader) (entry : Entry) (at : entry_of parts.book open_reader.blob ≡ Some entry) (done : entry.status ≡ statuses.Done)
    (lie : AllByRecursion (ViewLies (origins parts.files told table) parts.shares) entry.views) (size room faults meter : ℕ) (later : Course)
    (new : Asked) (out : List ℕ) (enough : min room (open_reader.end - open_reader.place) ≡ min (open_reader.end - open_reader.place) s.limits.chunk) where
  abbrev kept : List (ℕ × ℕ)
  kept = next_cells (record { size = size; place = open_reader.place; stop = open_reader.end }) room entry.views

  lies : AllByRecursion (CellLies (origins parts.files told table) parts.shares) kept
  lies =
      all_taken (CellLies (origins parts.files told table) parts.shares) (min room (open_reader.end - open_reader.place))
      (drop open_reader.place (cells entry.views))
      (all_dropped (CellLies (origins parts.files told table) parts.shares) open_reader.place (cells entry.views)
      (all_lie (origins parts.files told table) parts.shares entry.views lie))

  some_left : 0 < length kept → 0 < left open_reader
  some_left some =
      let short = short_take (min room (open_reader.end - open_reader.place)) (drop open_reader.place (cells entry.views)) in omega (arith, some, short)

  reads : (own : List Answer) → 0 < length kept
      → IsReadOf s h reader (map (cell_at (pieces (page_limit s) h) parts.shares) kept) own → IsNext s h reader open_reader (left open_reader) own
  reads own some is =
      next_read s h stands parts told table between reader open_reader own (left open_reader) (some_left some)
      (subst (λ (cells : List Cell). IsReadOf s h reader cells own)
      (chunk_read s h stands parts told table between open_reader entry size room
      (cells_stand s h stands parts told table between open_reader.blob entry at done) enough) is)

  module _ (own : List Answer) (front rest : List (ℕ × ℕ)) (cell : ℕ × ℕ) (split : kept ≡ front ++ cell ∷ rest) where
    reads_split : IsReadOf s h reader (map (cell_at (pieces (page_limit s) h) parts.shares) (front ++ cell ∷ rest)) own
        → IsNext s h reader open_reader (left open_reader) own
    reads_split is =
        let many = length-append front (cell ∷ rest) in
        let same : length kept ≡ length (front ++ cell ∷ rest) = ap (λ (list : List (ℕ × ℕ)). length list) split in
        reads own (omega (arith, many, same))
        (subst (λ (list : List (ℕ × ℕ)). IsReadOf s h reader (map (cell_at (pieces (page_limit s) h) parts.shares) list) own) (sym split) is)

    cell_lies : CellLies (origins parts.files told table) parts.shares cell
    cell_lies =
        (append_second (CellLies (origins parts.files told table) parts.shares) front (cell ∷ rest)
        (subst (AllByRecursion (CellLies (origins parts.files told table) parts.shares)) split lies)).0

  tells_next : (end : StepEnd)
      → StepEnds parts.shares entry.views room (record { size = size; place = open_reader.place; stop = open_reader.end }) later
      (asked parts.files told table faults meter) new out end
      → IsNext s h reader open_reader (left open_reader) (step_answer reader parts.shares entry.views out end ∷ [])
  tells_next (Bytes count) is =
      let some : 0 < length kept = (let same = is.0 in let more = is.1 in omega (arith, same, more)) in
      reads (answers.Given reader (take count out) ∷ []) some
      (subst (λ (first : Option Cell). IsRead s h reader (map (cell_at (pieces (page_limit s) h) parts.shares) kept) first
      (answers.Given reader (take count out) ∷ [])) (sym (none_fails s h stands parts told table between kept is.3.fails))
      (inl (take count out, refl, given_read s h stands parts told table between ordered written kept (take count out) lies is.3.fails is.3.bytes_are)))
  tells_next End is =
      let same = is.0 in
      let none : left open_reader ≡ 0 = omega (arith, same) in
      subst (λ (n : ℕ). IsNext s h reader open_reader n (answers.Ended reader statuses.Done ∷ [])) (sym none) refl
  tells_next (FileChanged view) is =
      let stops = is.1 in
      let one = stop_view entry.views open_reader.place (min room (open_reader.end - open_reader.place)) view stops.skipped stops.front stops.stops.rest
      stops.cell stops.stops.parts stops.place in
      reads_split (answers.FileChanged reader (viewed_file parts.shares entry.views view) ∷ []) stops.front stops.stops.rest stops.cell stops.stops.parts
      (changed_read s h stands parts told table between reader (viewed_file parts.shares entry.views view) stops.front stops.stops.rest stops.cell
      stops.stops.passes stops.fails.0
      (ap (λ (found : Option View). name_by (option_and_then (λ (each : View). item_at parts.shares each.slot) found)) one.1
      ∙ ap (λ (n : ℕ). name_by (item_at parts.shares n)) (sym one.2)))
  tells_next (PageFault page) is =
      let stops = is.2 in
      reads_split (answers.PageFault reader page ∷ []) stops.front stops.stops.rest stops.cell stops.stops.parts
      (page_read s h stands parts told table between (ordered_distinct [] (builds (page_limit s) h) ordered) reader page stops.front stops.stops.rest
      stops.cell stops.stops.passes stops.fails.0
      (cell_lies (answers.PageFault reader page ∷ []) stops.front stops.stops.rest stops.cell stops.stops.parts))
  tells_next (HandleFault slot) is =
      let stops = is.2 in
      reads_split (answers.HandleFailed reader slot ∷ []) stops.front stops.stops.rest stops.cell stops.stops.parts
      (handle_read s h stands parts told table between reader slot stops.front stops.stops.rest stops.cell stops.stops.passes stops.fails.0)

pub step_tells : StepTells
step_tells s h stands parts told table between ordered written reader open_reader entry there at done lie size room faults meter later new out end enough ends =
    subst (λ (found : Option OpenReader). IsStep s h reader found (step_answer reader parts.shares entry.views out end ∷ []))
    (sym there ∙ between.tables.readers_stand.each reader.0)
    (subst (λ (status : Option Status). IsStepBy s h reader open_reader status (step_answer reader parts.shares entry.views out end ∷ []))
    (sym (done_ended s h stands parts told table between open_reader.blob entry at done))
    (tells_next s h stands parts told table between ordered written reader open_reader entry at done lie size room faults meter later new out enough end ends))
