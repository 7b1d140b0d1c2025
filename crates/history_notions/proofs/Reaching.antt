-- Cells that a piece owns, looked for among runs.
use Rattle.std.proofs.Common.{◌≡◌, ℕ, zero, suc, ◌+◌, ◌==◌, ◌&&◌, ◌||◌, Bool, true, false, cond, not, List, [], ◌∷◌, ◌++◌, Option, Some, None, map, min, refl, sym, ap, ◌∙◌, arith}
use Rattle.std.specs.Prelude.{max, nat_lt, nat_le, filter, filter_map, slice_get, flat_map}
use Rattle.std.specs.List.{list_any, range_with_len, cons_option}
use Rattle.std.specs.Option.{option_map_or}
use Rattle.std.proofs.lemmas.Bool.Decides.{nat_tests}
use Rattle.std.proofs.lemmas.List.Folds.{list_any-append}
use Rattle.blob_words.specs.declared.status.Status.{Status}
use Rattle.blob_model.specs.Builds.{Cell, sent, Build}
use Rattle.blob_model.specs.Pieces.{Piece, owns}
use Rattle.blob_model.specs.Reached.{some_passes}
use Rattle.history_notions.specs.Runs.{cell_at, run_cells, cells_of_runs}
use Rattle.history_notions.specs.Reach.{do_meet, has_of, has_run, has_cell, is_broken_in, is_whole, has_at}
use Rattle.history_notions.specs.Chosen.{items_at}
use Rattle.history_notions.specs.declared.run.Source.{Source}
use Rattle.history_notions.specs.declared.run.Source.TheVariants as kinds
use Rattle.history_notions.specs.declared.run.Run.{Run}

pub some_any : {X : Type 0} (test : X → Bool) (xs : List X) → some_passes test xs ≡ list_any test xs
some_any test [] = refl
some_any {X} test (x ∷ xs) = by (test x) (some_any test xs)
  where
    by : (b : Bool) → some_passes test xs ≡ list_any test xs → (elim b [ true ↦ true | false ↦ some_passes test xs ]) ≡ (b || list_any test xs)
    by true same = refl
    by false same = same

empty_meets : (from start count : ℕ) → false ≡ nat_lt (max from start) (min (from + 0) (start + count))
empty_meets from start count = grind (arith, nat_tests)

more_meets : (from len start count : ℕ)
    → ((nat_le start from && nat_lt from (start + count)) || nat_lt (max (from + 1) start) (min ((from + 1) + len) (start + count)))
    ≡ nat_lt (max from start) (min (from + suc len) (start + count))
more_meets from len start count = grind (arith, nat_tests)

none_of : {X : Type 0} (xs : List X) → list_any (λ (x : X). false) xs ≡ false
none_of [] = refl
none_of (x ∷ xs) = none_of xs

-- one of the own bytes from an index on is the piece's where the ranges meet
own_meets : (piece : Piece) (blob from len : ℕ)
    → list_any (owns piece) (map (sent blob) (range_with_len from len)) ≡ ((blob == piece.blob) && do_meet from len piece.from piece.len)
own_meets piece blob from len = by (blob == piece.blob) refl from len
  where
    by : (b : Bool) → (blob == piece.blob) ≡ b → (from len : ℕ)
        → list_any (owns piece) (map (sent blob) (range_with_len from len)) ≡ ((blob == piece.blob) && do_meet from len piece.from piece.len)
    by true is from zero = ap (λ (b : Bool). false) is ∙ (empty_meets from piece.from piece.len ∙ ap (λ (b : Bool). b && do_meet from 0 piece.from piece.len)
        (sym is))
    by true is from (suc len) =
        ap (λ (rest : Bool). (((blob == piece.blob) && nat_le piece.from from) && nat_lt from (piece.from + piece.len)) || rest) (by true is (from + 1) len)
        ∙ ap (λ (b : Bool). ((b && nat_le piece.from from) && nat_lt from (piece.from + piece.len)) || (b && do_meet (from + 1) len piece.from piece.len)) is
        ∙ more_meets from len piece.from piece.len
        ∙ ap (λ (b : Bool). b && do_meet from (suc len) piece.from piece.len) (sym is)
    by false is from zero = ap (λ (b : Bool). b && do_meet from 0 piece.from piece.len) (sym is)
    by false is from (suc len) =
        ap (λ (rest : Bool). (((blob == piece.blob) && nat_le piece.from from) && nat_lt from (piece.from + piece.len)) || rest) (by false is (from + 1) len)
        ∙ ap (λ (b : Bool). ((b && nat_le piece.from from) && nat_lt from (piece.from + piece.len)) || (b && do_meet (from + 1) len piece.from piece.len)) is
        ∙ ap (λ (b : Bool). b && do_meet from (suc len) piece.from piece.len) (sym is)

owns_none : (piece : Piece) (cell : ℕ → Cell) → ((index : ℕ) → owns piece (cell index) ≡ false) → (indices : List ℕ) → list_any (owns piece) (map cell indices)
    ≡ false
owns_none piece cell never [] = refl
owns_none piece cell never (index ∷ indices) = ap (λ (b : Bool). b || list_any (owns piece) (map cell indices)) (never index) ∙ owns_none piece cell never
    indices

owns_of : (piece : Piece) (source : Source) (from len : ℕ) → list_any (owns piece) (map (cell_at source) (range_with_len from len)) ≡ has_of piece source from
    len
owns_of piece (kinds.Sent blob) from len = own_meets piece blob from len
owns_of piece (kinds.Filed name stamp) from len = owns_none piece (cell_at (kinds.Filed name stamp)) (λ (index : ℕ). refl) (range_with_len from len)
owns_of piece (kinds.Lent slot) from len = owns_none piece (cell_at (kinds.Lent slot)) (λ (index : ℕ). refl) (range_with_len from len)

owns_any : (piece : Piece) (runs : List Run) → list_any (owns piece) (cells_of_runs runs) ≡ list_any (has_run piece) runs
owns_any piece [] = refl
owns_any piece (run ∷ runs) =
    list_any-append (owns piece) (run_cells run) (cells_of_runs runs)
    ∙ ap (λ (b : Bool). b || list_any (owns piece) (cells_of_runs runs)) (owns_of piece run.source run.from run.len)
    ∙ ap (λ (b : Bool). has_run piece run || b) (owns_any piece runs)

pub owns_runs : (piece : Piece) (runs : List Run) → list_any (has_run piece) runs ≡ some_passes (owns piece) (cells_of_runs runs)
owns_runs piece runs = sym (some_any (owns piece) (cells_of_runs runs) ∙ owns_any piece runs)

-- a test on the items at places
pub any_at : {X : Type 0} (test : X → Bool) (items : List X) (places : List ℕ)
    → list_any (λ (place : ℕ). option_map_or test (slice_get items place) false) places ≡ list_any test (items_at items places)
any_at test items [] = refl
any_at {X} test items (place ∷ places) = by (slice_get items place) (any_at test items places)
  where
    by : (found : Option X) → list_any (λ (place : ℕ). option_map_or test (slice_get items place) false) places ≡ list_any test (items_at items places)
        → (option_map_or test found false || list_any (λ (place : ℕ). option_map_or test (slice_get items place) false) places)
        ≡ list_any test (cons_option found (items_at items places))
    by None same = same
    by (Some x) same = ap (λ (b : Bool). test x || b) same

-- places kept by a test on their items
pub kept_at : {X : Type 0} (test : X → Bool) (items : List X) (places : List ℕ)
    → items_at items (filter (λ (place : ℕ). option_map_or test (slice_get items place) false) places) ≡ filter test (items_at items places)
kept_at test items [] = refl
kept_at {X} test items (place ∷ places) = by (slice_get items place) refl (kept_at test items places)
  where
    keep : ℕ → Bool
    keep each = option_map_or test (slice_get items each) false

    rest : List ℕ
    rest = filter keep places

    by : (found : Option X) → slice_get items place ≡ found → items_at items (filter keep places) ≡ filter test (items_at items places)
        → items_at items (cond (option_map_or test (slice_get items place) false) (place ∷ filter keep places) (filter keep places))
        ≡ filter test (cons_option (slice_get items place) (items_at items places))
    by None is same =
        ap (λ (found : Option X). items_at items (cond (option_map_or test found false) (place ∷ filter keep places) (filter keep places))) is
        ∙ same
        ∙ sym (ap (λ (found : Option X). filter test (cons_option found (items_at items places))) is)
    by (Some x) is same =
        ap (λ (found : Option X). items_at items (cond (option_map_or test found false) (place ∷ filter keep places) (filter keep places))) is
        ∙ chosen (test x) refl
        ∙ sym (ap (λ (found : Option X). filter test (cons_option found (items_at items places))) is)
      where
        chosen : (b : Bool) → test x ≡ b
            → items_at items (cond (test x) (place ∷ filter keep places) (filter keep places)) ≡ cond (test x) (x ∷ filter test (items_at items places))
            (filter test (items_at items places))
        chosen true passes =
            ap (λ (b : Bool). items_at items (cond b (place ∷ filter keep places) (filter keep places))) passes
            ∙ ap (λ (found : Option X). cons_option found (items_at items (filter keep places))) is
            ∙ ap (λ (list : List X). x ∷ list) same
            ∙ sym (ap (λ (b : Bool). cond b (x ∷ filter test (items_at items places)) (filter test (items_at items places))) passes)
        chosen false fails =
            ap (λ (b : Bool). items_at items (cond b (place ∷ filter keep places) (filter keep places))) fails
            ∙ same
            ∙ sym (ap (λ (b : Bool). cond b (x ∷ filter test (items_at items places)) (filter test (items_at items places))) fails)
