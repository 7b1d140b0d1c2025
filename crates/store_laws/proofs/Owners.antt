-- Each own byte is of one piece: pieces of a blob stand end to end, and blobs differ in their names.
use Rattle.std.proofs.Common.{◌≡◌, ℕ, ◌+◌, ◌≤◌, ◌<◌, ◌==◌, Bool, true, false, ◌&&◌, List, []}
use Rattle.std.proofs.Common.{◌∷◌, ◌++◌, length, refl, ap, subst, sym, ◌∙◌, arith, Option, Some, None}
use Rattle.std.specs.Prelude.{cond, find, nat_le, nat_lt}
use Rattle.std.specs.List.{AllByRecursion}
use Rattle.std.proofs.lemmas.Bool.{and_parts, eqb-true, leb-true, ltb-true, false_from_ne_true}
use Rattle.blob_words.specs.declared.limits.Limits.{Limits}
use Rattle.blob_words.specs.declared.plan.Plan.{Plan}
use Rattle.transport_plan.specs.Spans.{IsEndToEnd}
use Rattle.blob_model.specs.Parts.{own_bytes}
use Rattle.blob_model.specs.Builds.{Cell, sent, filed, lent, Build}
use Rattle.blob_model.specs.Pieces.{Piece, owns, numbered, spans_of, planned_spans, pieces_from, piece_with}
use Rattle.blob_model.proofs.Lists.{false_true}
use Rattle.blob_model.specs.Order.{named}
use Rattle.blob_model.proofs.Lists.{for_each}
use Rattle.blob_model.specs.Order.{Distinct}
use Rattle.blob_model.proofs.memory.Builds.{pieces_named}
use Rattle.blob_model.proofs.memory.Builds.{numbered_named}
use Rattle.blob_model.proofs.live.Closed.{cover_pieces}
use Rattle.blob_model.proofs.Lists.{found_all}

-- a piece ends before another of its blob begins
abbrev pub IsBefore : Piece → Piece → Type 0
IsBefore piece other = piece.blob ≡ other.blob → piece.from + piece.len ≤ other.from

abbrev pub AreStaggered : List Piece → Type 0
AreStaggered [] = Unit {0}
AreStaggered (piece ∷ more) = AllByRecursion (IsBefore piece) more × AreStaggered more

-- ---- the pieces of one blob

numbered_above : (blob number from to : ℕ) (spans : List (ℕ × ℕ)) → IsEndToEnd from spans to
    → AllByRecursion (λ (piece : Piece). from ≤ piece.from) (numbered blob number spans)
numbered_above blob number from to [] whole = tt
numbered_above blob number from to (span ∷ spans) whole =
    let here = whole.0 in (
      omega (arith, here),
      for_each (λ (piece : Piece). from + span.1 ≤ piece.from) (λ (piece : Piece). from ≤ piece.from) (numbered blob (number + 1) spans)
          (λ piece low. omega (arith, low))
          (numbered_above blob (number + 1) (from + span.1) to spans whole.2),
    )

numbered_staggered : (blob number from to : ℕ) (spans : List (ℕ × ℕ)) → IsEndToEnd from spans to → AreStaggered (numbered blob number spans)
numbered_staggered blob number from to [] whole = tt
numbered_staggered blob number from to (span ∷ spans) whole =
    let here = whole.0 in (
      for_each (λ (piece : Piece). from + span.1 ≤ piece.from) (λ (piece : Piece). blob ≡ piece.blob
          → span.0 + span.1 ≤ piece.from) (numbered blob (number + 1) spans) (λ piece low same. omega (arith, low, here))
          (numbered_above blob (number + 1) (from + span.1) to spans whole.2),
      numbered_staggered blob (number + 1) (from + span.1) to spans whole.2,
    )

spans_staggered : (l : Limits) (build : Build) (number : ℕ) (plan : Option Plan) → build.plan ≡ plan
    → AreStaggered (numbered build.name number (spans_of l.page build))
spans_staggered l build number None e = subst (λ (plan : Option Plan). AreStaggered (numbered build.name number (planned_spans l.page build plan))) (sym e) tt
spans_staggered l build number (Some plan) e = numbered_staggered build.name number 0 (own_bytes build.parts) (spans_of l.page build)
    (cover_pieces l build plan e)

-- ---- those of several

append_all : {X : Type 0} (P : X → Type 0) (xs ys : List X) → AllByRecursion P xs → AllByRecursion P ys → AllByRecursion P (xs ++ ys)
append_all P [] ys p q = q
append_all P (x ∷ xs) ys p q = (p.0, append_all P xs ys p.1 q)

staggered_append : (xs ys : List Piece) → AreStaggered xs → AreStaggered ys → AllByRecursion (λ (piece : Piece). AllByRecursion (IsBefore piece) ys) xs
    → AreStaggered (xs ++ ys)
staggered_append [] ys one two apart = two
staggered_append (piece ∷ xs) ys one two apart = (append_all (IsBefore piece) xs ys one.0 apart.0, staggered_append xs ys one.1 two apart.1)

pub pieces_staggered : (l : Limits) (number : ℕ) (list : List Build) → Distinct list → AreStaggered (pieces_from l.page number list)
pieces_staggered l number [] distinct = tt
pieces_staggered l number (build ∷ list) distinct =
    let mine = numbered build.name number (spans_of l.page build) in
    let others = pieces_from l.page (number + length (spans_of l.page build)) list in
    let apart : AllByRecursion (λ (other : Piece). build.name ≡ other.blob → ⊥) others =
    for_each (λ (other : Piece). named other.blob list ≡ true) (λ (other : Piece). build.name ≡ other.blob → ⊥) others
    (λ other there same. false_true (sym distinct.0 ∙ subst (λ (n : ℕ). named n list ≡ true) (sym same) there))
    (pieces_named l.page (number + length (spans_of l.page build)) list) in
    staggered_append mine others (spans_staggered l build number build.plan refl) (pieces_staggered l (number + length (spans_of l.page build)) list distinct.1)
    (
    for_each (λ (piece : Piece). AllByRecursion (λ (other : Piece). piece.blob ≡ other.blob
    → ⊥) others) (λ (piece : Piece). AllByRecursion (IsBefore piece) others) mine
    (λ piece none. for_each (λ (other : Piece). piece.blob ≡ other.blob → ⊥) (IsBefore piece) others (λ other f same. absurd (f same)) none)
    (numbered_named (λ (blob : ℕ). AllByRecursion (λ (other : Piece). blob ≡ other.blob → ⊥) others) build.name number (spans_of l.page build) apart)
    )

-- ---- the owner of a byte

owns_none : (piece other : Piece) (blob index : ℕ) → IsBefore piece other → owns other (sent blob index) ≡ true → owns piece (sent blob index) ≡ false
owns_none piece other blob index before e =
    false_from_ne_true (owns piece (sent blob index))
    (λ mine.
    let theirs = and_parts ((blob == other.blob) && nat_le other.from index) (nat_lt index (other.from + other.len)) e in
    let first = and_parts (blob == other.blob) (nat_le other.from index) theirs.0 in
    let ours = and_parts ((blob == piece.blob) && nat_le piece.from index) (nat_lt index (piece.from + piece.len)) mine in
    let second = and_parts (blob == piece.blob) (nat_le piece.from index) ours.0 in
    let same : piece.blob ≡ other.blob = sym (eqb-true blob piece.blob second.0) ∙ eqb-true blob other.blob first.0 in
    let ends : piece.from + piece.len ≤ other.from = before same in
    let low : other.from ≤ index = leb-true other.from index first.1 in
    let high : index < piece.from + piece.len = ltb-true index (piece.from + piece.len) ours.1 in
    omega arith)

-- each piece is the one with the bytes that it owns
abbrev pub IsOwner : List Piece → Piece → Type 0
IsOwner list piece = (cell : Cell) → owns piece cell ≡ true → piece_with list cell ≡ Some piece

pub owners : (list : List Piece) → AreStaggered list → AllByRecursion (IsOwner list) list
owners [] staggered = tt
owners (piece ∷ list) staggered = (
  (λ cell e. ap (λ (b : Bool). cond b (Some piece) (piece_with list cell)) e),
  both_all (IsBefore piece) (IsOwner list) (IsOwner (piece ∷ list)) list later staggered.0 (owners list staggered.1),
)
  where
    both_all : {X : Type 0} (P Q R : X → Type 0) (xs : List X) → ((x : X) → P x → Q x → R x) → AllByRecursion P xs → AllByRecursion Q xs → AllByRecursion R xs
    both_all P Q R [] f p q = tt
    both_all P Q R (x ∷ xs) f p q = (f x p.0 q.0, both_all P Q R xs f p.1 q.1)

    later : (other : Piece) → IsBefore piece other → IsOwner list other → IsOwner (piece ∷ list) other
    later other before owner (sent blob index) e = ap (λ (b : Bool). cond b (Some piece) (piece_with list (sent blob index)))
        (owns_none piece other blob index before e) ∙ owner (sent blob index) e
    later other before owner (filed name stamp index) e = absurd (false_true e)
    later other before owner (lent slot index) e = absurd (false_true e)

-- ---- two pieces that own a byte are one

pub one_owner : (l : Limits) (list : List Build) (one other : Piece) (cell : Cell) → Distinct list
    → find (λ (each : Piece). each.number == one.number) (pieces_from l.page 0 list) ≡ Some one
    → find (λ (each : Piece). each.number == other.number) (pieces_from l.page 0 list) ≡ Some other
    → owns one cell ≡ true → owns other cell ≡ true → one ≡ other
one_owner l list one other cell distinct at beside e f =
    let all = pieces_from l.page 0 list in
    let each = owners all (pieces_staggered l 0 list distinct) in
    let mine : piece_with all cell ≡ Some one = found_all (IsOwner all) (λ (each : Piece). each.number == one.number) all one each at cell e in
    let theirs : piece_with all cell ≡ Some other = found_all (IsOwner all) (λ (each : Piece). each.number == other.number) all other each beside cell f in
    cc
