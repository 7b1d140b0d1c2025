-- A recipe of parts stands for their cells.
use Rattle.std.proofs.Common.{◌≡◌, ℕ, zero, suc, ◌+◌, ◌-◌, ◌<◌, List, [], ◌∷◌, ◌++◌, map, take, drop, length, refl, ap, subst, sym, ◌∙◌, Option, Some, arith}
use Rattle.std.specs.Int.{div_ceil}
use Rattle.std.specs.List.{range_with_len}
use Rattle.std.proofs.lemmas.List.{append-nil, length-map}
use Rattle.std.proofs.lemmas.List.Concat.{flat_map-append}
use Rattle.session_script.specs.declared.event.Part.{Part}
use Rattle.session_script.specs.declared.event.Part.TheVariants.{Embedded, Asked, FileRange, BlobRange, HandleRange}
use Rattle.item_shares.specs.declared.item.Item.{Item}
use Rattle.item_shares.specs.declared.item.Item.TheVariants.{File, Range}
use Rattle.item_shares.specs.declared.shares.Share.{Share}
use Rattle.item_shares.specs.Shares.{item_at}
use Rattle.blob_items.specs.Cells.{view_cells}
use Rattle.blob_items.specs.declared.view.View.{View}
use Rattle.blob_entries.specs.declared.step.Step.TheVariants.{Own}
use Rattle.transport_plan.specs.Spans.{IsEndToEnd, cut_spans, piece_spans, span_at}
use Rattle.transport_plan.proofs.SpanLemmas.{cover_sum, cut_cover}
use Rattle.blob_model.specs.Builds.{Build, Cell, cells_in, cells_of, file_cells, handle_cells, own_cells, sent}
use Rattle.blob_model.specs.Parts.{own_lengths}
use Rattle.blob_model.specs.Pieces.{Piece, numbered}
use Rattle.blob_model.proofs.Lists.{append_second}
use Rattle.store_laws.specs.Cells.{cell_at, denoted, item_cell, piece_cell, piece_in}
use Rattle.store_laws.specs.PartLaws.{AreFound, AreRanges, RecipesStand, own_steps, piece_lengths, piece_no, recipe_of, IsAll}
use Rattle.store_laws.specs.Recipes.{recipe_cells, step_cells}
use Rattle.store_laws.proofs.Denoted.{denoted-view, map-map, file-cells, piece-cells, range-cells}
use Rattle.store_laws.proofs.ViewHas.{append_first}

-- the own bytes of a blob from one place on, and from there on
own_join : (name from a b : ℕ) → own_cells name from a ++ own_cells name (from + a) b ≡ own_cells name from (a + b)
own_join name from zero b =
    let at : from + 0 ≡ from = omega arith in
    let long : 0 + b ≡ b = omega arith in
    ap (λ (n : ℕ). own_cells name n b) at ∙ ap (λ (n : ℕ). own_cells name from n) (sym long)
own_join name from (suc a) b =
    let at : from + suc a ≡ (from + 1) + a = omega arith in
    let long : suc (a + b) ≡ suc a + b = omega arith in
    ap (λ (n : ℕ). own_cells name from (suc a) ++ own_cells name n b) at
    ∙ ap (λ (cells : List Cell). sent name from ∷ cells) (own_join name (from + 1) a b)
    ∙ ap (λ (n : ℕ). own_cells name from n) long

pub numbered_join : (name number : ℕ) (xs ys : List (ℕ × ℕ)) → numbered name number (xs ++ ys) ≡ numbered name number xs ++ numbered name (number + length xs)
    ys
numbered_join name number [] ys = let same : number + 0 ≡ number = omega arith in ap (λ (n : ℕ). numbered name n ys) (sym same)
numbered_join name number (x ∷ xs) ys =
    let same : (number + 1) + length xs ≡ number + length (x ∷ xs) = omega arith in
    ap (λ (list : List Piece). record { number = number; blob = name; from = x.0; len = x.1 } ∷ list)
    (numbered_join name (number + 1) xs ys ∙ ap (λ (n : ℕ). numbered name (number + 1) xs ++ numbered name n ys) same)

-- the lengths of a part's spans, wherever it begins
pub lengths_cut : (page from len : ℕ) → map (λ (span : ℕ × ℕ). span.1) (cut_spans page from len) ≡ piece_lengths page len
lengths_cut page from len =
    map-map (λ (span : ℕ × ℕ). span.1) (λ (k : ℕ). (from + (span_at page len k).0, (span_at page len k).1)) (range_with_len 0 (div_ceil len page))

pub as_many : (page from len : ℕ) → length (cut_spans page from len) ≡ length (piece_lengths page len)
as_many page from len =
    sym (length-map (cut_spans page from len) (λ (span : ℕ × ℕ). span.1)) ∙ ap (λ (list : List ℕ). length list) (lengths_cut page from len)

module _ (builds : List Build) (all : List Piece) (shares : List (Option Share)) (name : ℕ) where
  -- pieces end to end stand for own bytes one after the other
  own_made : (number from total : ℕ) (spans : List (ℕ × ℕ)) → IsEndToEnd from spans (from + total) → AreFound all (numbered name number spans)
      → recipe_cells builds all shares (own_steps number (map (λ (span : ℕ × ℕ). span.1) spans)) ≡ own_cells name from total
  own_made number from total [] covers found =
      let none : 0 ≡ total = omega (arith, covers) in ap (λ (n : ℕ). own_cells name from n) none
  own_made number from total (span ∷ spans) covers found =
      let sums = cover_sum spans (from + span.1) (from + total) covers.2 in
      let within : (from + span.1) + (total - span.1) ≡ from + total = omega (arith, sums) in
      let long : span.1 + (total - span.1) ≡ total = omega (arith, sums) in
      let begins = covers.0 in
      let at : span.0 + 0 ≡ from = omega (arith, begins) in
      let piece : Piece = record { number = number; blob = name; from = span.0; len = span.1 } in
      let first : step_cells builds all shares (Own (piece_no number) span.1) ≡ own_cells name from span.1 =
      ap (λ (o : Option Piece). map (piece_cell o) (range_with_len 0 span.1)) found.0 ∙ piece-cells piece 0 span.1
      ∙ ap (λ (n : ℕ). own_cells name n span.1) at in
      let more = own_made (number + 1) (from + span.1) (total - span.1) spans (subst (λ (n : ℕ). IsEndToEnd (from + span.1) spans n) (sym within) covers.2)
      found.1 in
      (λ i. first i ++ more i) ∙ own_join name from span.1 (total - span.1) ∙ ap (λ (n : ℕ). own_cells name from n) long

  -- a view of a whole item
  range_made : (view : View) (len : ℕ) (item : Item) → IsAll len view → item_at shares view.slot ≡ Some item
      → denoted all shares (view ∷ []) ≡ map (item_cell all item) (range_with_len 0 len)
  range_made view len item whole at =
      ap (map (cell_at all shares)) (append-nil (view_cells view)) ∙ denoted-view all shares view item at
      ∙ (λ i. map (item_cell all item) (range_with_len (whole.0 i) (whole.1 i)))

  module _ (page : ℕ) (sized : 0 < page) where
    -- an own part, and the parts behind it
    own_part : (number from len : ℕ) (views : List View) (parts : List Part)
        → AreFound all (numbered name number (cut_spans page from len ++ piece_spans page (from + len) (own_lengths parts)))
        → (AreFound all (numbered name (number + length (piece_lengths page len)) (piece_spans page (from + len) (own_lengths parts)))
        → recipe_cells builds all shares (recipe_of page (number + length (piece_lengths page len)) views parts) ≡ cells_of builds name (from + len) parts)
        → recipe_cells builds all shares (own_steps number (piece_lengths page len) ++ recipe_of page (number + length (piece_lengths page len)) views parts)
        ≡ own_cells name from len ++ cells_of builds name (from + len) parts
    own_part number from len views parts found go =
        let both = subst (λ (list : List Piece). AreFound all list)
        (numbered_join name number (cut_spans page from len) (piece_spans page (from + len) (own_lengths parts))) found in
        let P : Piece → Type 0 = λ piece. piece_in all piece.number ≡ Some piece in
        let mine = append_first P (numbered name number (cut_spans page from len))
        (numbered name (number + length (cut_spans page from len)) (piece_spans page (from + len) (own_lengths parts))) both in
        let rest = append_second P (numbered name number (cut_spans page from len))
        (numbered name (number + length (cut_spans page from len)) (piece_spans page (from + len) (own_lengths parts))) both in
        let first : recipe_cells builds all shares (own_steps number (piece_lengths page len)) ≡ own_cells name from len =
        ap (λ (lengths : List ℕ). recipe_cells builds all shares (own_steps number lengths)) (sym (lengths_cut page from len))
        ∙ own_made number from len (cut_spans page from len) (cut_cover page from len sized) mine in
        let more = go (subst (λ (n : ℕ). AreFound all (numbered name (number + n) (piece_spans page (from + len) (own_lengths parts)))) (as_many page from len)
        rest) in
        flat_map-append (step_cells builds all shares) (own_steps number (piece_lengths page len))
        (recipe_of page (number + length (piece_lengths page len)) views parts)
        ∙ (λ i. first i ++ more i)

    recipe_made : (number from : ℕ) (views : List View) (parts : List Part) → AreFound all (numbered name number (piece_spans page from (own_lengths parts)))
        → AreRanges shares views parts → recipe_cells builds all shares (recipe_of page number views parts) ≡ cells_of builds name from parts
    recipe_made number from views [] found ranges = refl
    recipe_made number from views (Embedded bytes ∷ parts) found ranges =
        own_part number from (length bytes) views parts found
        (λ rest. recipe_made (number + length (piece_lengths page (length bytes))) (from + length bytes) views parts rest ranges)
    recipe_made number from views (Asked len ∷ parts) found ranges =
        own_part number from len views parts found (λ rest. recipe_made (number + length (piece_lengths page len)) (from + len) views parts rest ranges)
    recipe_made number from views (FileRange file off zero stamp ∷ parts) found ranges = recipe_made number from views parts found ranges
    recipe_made number from [] (FileRange file off (suc len) stamp ∷ parts) found ranges = absurd ranges
    recipe_made number from (view ∷ views) (FileRange file off (suc len) stamp ∷ parts) found ranges =
        let at : off + 0 ≡ off = omega arith in
        let first : denoted all shares (view ∷ []) ≡ file_cells file stamp off (suc len) =
        range_made view (suc len) (File file stamp off (suc len)) ranges.0 ranges.1 ∙ file-cells file stamp off 0 (suc len)
        ∙ ap (λ (n : ℕ). file_cells file stamp n (suc len)) at in
        λ i. first i ++ recipe_made number from views parts found ranges.2 i
    recipe_made number from views (BlobRange b off len ∷ parts) found ranges =
        ap (λ (cells : List Cell). take len (drop off (cells_in builds b)) ++ cells) (recipe_made number from views parts found ranges)
    recipe_made number from views (HandleRange k off zero ∷ parts) found ranges = recipe_made number from views parts found ranges
    recipe_made number from [] (HandleRange k off (suc len) ∷ parts) found ranges = absurd ranges
    recipe_made number from (view ∷ views) (HandleRange k off (suc len) ∷ parts) found ranges =
        let at : off + 0 ≡ off = omega arith in
        let first : denoted all shares (view ∷ []) ≡ handle_cells k off (suc len) =
        range_made view (suc len) (Range k off (suc len)) ranges.0 ranges.1 ∙ range-cells k off 0 (suc len)
        ∙ ap (λ (n : ℕ). handle_cells k n (suc len)) at in
        λ i. first i ++ recipe_made number from views parts found ranges.2 i

pub recipes_stand : RecipesStand
recipes_stand builds all shares page name number from views parts sized found ranges =
    recipe_made builds all shares name page sized number from views parts found ranges
