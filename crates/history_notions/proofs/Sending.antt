-- Own bytes of a piece stand in none of the runs that have no own bytes of its blob.
use Rattle.std.proofs.Common.{◌≡◌, ℕ, ◌+◌, ◌<◌, ◌==◌, ◌&&◌, ◌||◌, Bool, true, false, cond, List, [], ◌∷◌, ◌++◌, length, get_or, take, refl, sym, ap, ◌∙◌}
use Rattle.std.specs.List.{list_any}
use Rattle.std.proofs.lemmas.List.{take_more}
use Rattle.std.proofs.lemmas.List.Folds.{list_any-append}
use Rattle.blob_model.specs.Pieces.{Piece, owns}
use Rattle.blob_model.specs.Reached.{some_passes}
use Rattle.history_notions.specs.declared.run.Source.{Source}
use Rattle.history_notions.specs.declared.run.Source.TheVariants as kinds
use Rattle.history_notions.specs.declared.run.Run.{Run}
use Rattle.history_notions.specs.Runs.{cells_of_runs}
use Rattle.history_notions.specs.Reach.{do_meet, has_of, has_run, sends_of, is_sent}
use Rattle.history_notions.proofs.Reaching.{owns_runs}

-- both are false where one or the other is
pub neither : (a b : Bool) → (a || b) ≡ false → (a ≡ false) × (b ≡ false)
neither true b none = absurd (cc)
neither false b none = (refl, none)

pub both_false : (a b : Bool) → a ≡ false → b ≡ false → (a || b) ≡ false
both_false a b first second = ap (λ (x : Bool). x || b) first ∙ second

or_grouped : (a b c : Bool) → ((a || b) || c) ≡ (a || (b || c))
or_grouped true b c = refl
or_grouped false b c = refl

or_false : (a : Bool) → (a || false) ≡ a
or_false true = refl
or_false false = refl

-- whether one of the first items passes, by the next
pub any_next : {X : Type 0} (test : X → Bool) (items : List X) (k : ℕ) (item : X) → k < length items → item ≡ get_or items k item
    → list_any test (take (k + 1) items) ≡ (list_any test (take k items) || test item)
any_next {X} test items k item below is =
    ap (list_any test) (take_more items k item below ∙ ap (λ (one : X). take k items ++ one ∷ []) (sym is))
    ∙ list_any-append test (take k items) (item ∷ [])
    ∙ ap (λ (b : Bool). list_any test (take k items) || b) (or_false (test item))

pub any_more : {X : Type 0} (test : X → Bool) (items : List X) (k : ℕ) (item : X) (before : Bool) → k < length items → item ≡ get_or items k item
    → ((before || list_any test (take k items)) || test item) ≡ (before || list_any test (take (k + 1) items))
any_more test items k item before below is =
    or_grouped before (list_any test (take k items)) (test item) ∙ ap (λ (b : Bool). before || b) (sym (any_next test items k item below is))

pub any_place : (test : ℕ → Bool) (places : List ℕ) (k : ℕ) → k < length places
    → list_any test (take (k + 1) places) ≡ (list_any test (take k places) || test (get_or places k 0))
any_place test places k below =
    ap (list_any test) (take_more places k 0 below)
    ∙ list_any-append test (take k places) (get_or places k 0 ∷ [])
    ∙ ap (λ (b : Bool). list_any test (take k places) || b) (or_false (test (get_or places k 0)))

unsent_of : (piece : Piece) (source : Source) (from len : ℕ) → sends_of piece.blob source ≡ false → has_of piece source from len ≡ false
unsent_of piece (kinds.Sent blob) from len unsent = ap (λ (b : Bool). b && do_meet from len piece.from piece.len) unsent
unsent_of piece (kinds.Filed name stamp) from len unsent = refl
unsent_of piece (kinds.Lent slot) from len unsent = refl

unsent_any : (piece : Piece) (runs : List Run) → list_any (is_sent piece.blob) runs ≡ false → list_any (has_run piece) runs ≡ false
unsent_any piece [] none = refl
unsent_any piece (run ∷ runs) none =
    let parts = neither (is_sent piece.blob run) (list_any (is_sent piece.blob) runs) none in
    both_false (has_run piece run) (list_any (has_run piece) runs) (unsent_of piece run.source run.from run.len parts.0) (unsent_any piece runs parts.1)

-- no cell is the piece's where no run has own bytes of its blob
pub unsent_cells : (piece : Piece) (runs : List Run) → list_any (is_sent piece.blob) runs ≡ false → some_passes (owns piece) (cells_of_runs runs) ≡ false
unsent_cells piece runs none = sym (owns_runs piece runs) ∙ unsent_any piece runs none
