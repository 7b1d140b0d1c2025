-- The first cell that fails, and those before it.
use Rattle.std.proofs.Common.{◌≡◌, ℕ, zero, suc, ◌+◌, ◌<◌, ◌≤◌, Bool, true, false, cond, not, List, [], ◌∷◌, ◌++◌, length, get_or, take, drop, map, Option, Some, refl, sym, ap, ◌∙◌, arith, append-nil, append_assoc}
use Rattle.std.specs.Prelude.{find, take_while, slice_get}
use Rattle.std.specs.Option.{option_map}
use Rattle.std.proofs.lemmas.List.{take_more, drop_more, drop_all, take_all, length-map}
use Rattle.std.proofs.lemmas.List.Sums.{take_while-cons}
use Rattle.std.proofs.lemmas.Option.{slice_get-map, slice_get_past}
use Rattle.blob_model.specs.Builds.{Cell}
use Rattle.transcript_audit.specs.declared.cells.At.{At}
use Rattle.transcript_audit.specs.Cells.{cell_of}

-- none of the first cells fails
pub record AreGood (test : Cell → Bool) (cells : List At) (place : ℕ) : Type 0 where
  pub before : take_while (λ (cell : Cell). not (test cell)) (map cell_of cells) ≡ map cell_of (take place cells) ++ take_while (λ (cell : Cell). not
      (test cell)) (map cell_of (drop place cells))
  pub first : find test (map cell_of cells) ≡ find test (map cell_of (drop place cells))

pub got : {X : Type 0} (items : List X) (k : ℕ) (x : X) → k < length items → x ≡ get_or items k x → slice_get items k ≡ Some x
got [] k x below is = absurd (omega (arith, below))
got (y ∷ ys) zero x below is = ap Some (sym is)
got (y ∷ ys) (suc k) x below is = got ys k x (omega (arith, below)) is

parted : {X : Type 0} (items : List X) (k : ℕ) (x : X) → k < length items → x ≡ get_or items k x → drop k items ≡ x ∷ drop (k + 1) items
parted {X} items k x below is = drop_more items k x below ∙ ap (λ (y : X). y ∷ drop (k + 1) items) (sym is)

pub cells_push : (xs : List At) (x : At) → map cell_of (xs ++ x ∷ []) ≡ map cell_of xs ++ cell_of x ∷ []
cells_push [] x = refl
cells_push (y ∷ xs) x = ap (λ (rest : List Cell). cell_of y ∷ rest) (cells_push xs x)

pub good_start : (test : Cell → Bool) (cells : List At) → AreGood test cells 0
good_start test cells = record { before = refl; first = refl }

pub good_step : (test : Cell → Bool) (cells : List At) (place : ℕ) (x : At) → place < length cells → x ≡ get_or cells place x → test (cell_of x) ≡ false
    → AreGood test cells place → AreGood test cells (place + 1)
good_step test cells place x below is fine far = record {
  before =
      far.before
      ∙ ap (λ (list : List At). map cell_of (take place cells) ++ take_while (λ (cell : Cell). not (test cell)) (map cell_of list))
      (parted cells place x below is)
      ∙ ap (λ (list : List Cell). map cell_of (take place cells) ++ list) (take_while-cons (λ (cell : Cell). not (test cell)) (cell_of x) (map cell_of
      (drop (place + 1) cells)))
      ∙ ap (λ (b : Bool). map cell_of (take place cells) ++ cond (not b) (cell_of x ∷ take_while (λ (cell : Cell). not (test cell)) (map cell_of (drop
      (place + 1) cells))) []) fine
      ∙ sym (append_assoc (map cell_of (take place cells)) (cell_of x ∷ []) (take_while (λ (cell : Cell). not (test cell)) (map cell_of (drop
      (place + 1) cells))))
      ∙ ap (λ (list : List Cell). list ++ take_while (λ (cell : Cell). not (test cell)) (map cell_of (drop (place + 1) cells)))
      (sym (ap (map cell_of) (take_more cells place x below ∙ ap (λ (y : At). take place cells ++ y ∷ []) (sym is)) ∙ cells_push (take place cells) x));
  first =
      far.first
      ∙ ap (λ (list : List At). find test (map cell_of list)) (parted cells place x below is)
      ∙ ap (λ (b : Bool). cond b (Some (cell_of x)) (find test (map cell_of (drop (place + 1) cells)))) fine;
}

pub good_before : (test : Cell → Bool) (cells : List At) (place : ℕ) (x : At) → place < length cells → x ≡ get_or cells place x → test (cell_of x) ≡ true
    → AreGood test cells place → take_while (λ (cell : Cell). not (test cell)) (map cell_of cells) ≡ map cell_of (take place cells)
good_before test cells place x below is bad far =
    far.before
    ∙ ap (λ (list : List At). map cell_of (take place cells) ++ take_while (λ (cell : Cell). not (test cell)) (map cell_of list))
    (parted cells place x below is)
    ∙ ap (λ (list : List Cell). map cell_of (take place cells) ++ list) (take_while-cons (λ (cell : Cell). not (test cell)) (cell_of x) (map cell_of (drop
    (place + 1) cells)))
    ∙ ap (λ (b : Bool). map cell_of (take place cells) ++ cond (not b) (cell_of x ∷ take_while (λ (cell : Cell). not (test cell)) (map cell_of (drop
    (place + 1) cells))) []) bad
    ∙ append-nil (map cell_of (take place cells))

pub good_first : (test : Cell → Bool) (cells : List At) (place : ℕ) (x : At) → place < length cells → x ≡ get_or cells place x → test (cell_of x) ≡ true
    → AreGood test cells place → find test (map cell_of cells) ≡ slice_get (map cell_of cells) place
good_first test cells place x below is bad far =
    far.first
    ∙ ap (λ (list : List At). find test (map cell_of list)) (parted cells place x below is)
    ∙ ap (λ (b : Bool). cond b (Some (cell_of x)) (find test (map cell_of (drop (place + 1) cells)))) bad
    ∙ sym (slice_get-map cell_of cells place ∙ ap (λ (found : Option At). option_map cell_of found) (got cells place x below is))

pub good_all : (test : Cell → Bool) (cells : List At) (place : ℕ) → length cells ≤ place
    → AreGood test cells place → take_while (λ (cell : Cell). not (test cell)) (map cell_of cells) ≡ map cell_of (take (length cells) cells)
good_all test cells place over far =
    far.before
    ∙ ap (λ (list : List At). map cell_of (take place cells) ++ take_while (λ (cell : Cell). not (test cell)) (map cell_of list)) (drop_all place cells over)
    ∙ append-nil (map cell_of (take place cells))
    ∙ ap (map cell_of) (take_all place cells over ∙ sym (take_all (length cells) cells (omega arith)))

pub good_none : (test : Cell → Bool) (cells : List At) (place : ℕ) → length cells ≤ place
    → AreGood test cells place → find test (map cell_of cells) ≡ slice_get (map cell_of cells) (length cells)
good_none test cells place over far =
    far.first
    ∙ ap (λ (list : List At). find test (map cell_of list)) (drop_all place cells over)
    ∙ sym (slice_get_past (map cell_of cells) (length cells) (omega (arith, length-map cells cell_of)))
