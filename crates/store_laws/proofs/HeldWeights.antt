-- What slots weigh is what the pieces that they hold weigh.
use Rattle.std.proofs.Common.{◌≡◌, ℕ, suc, ◌+◌, ◌<◌, ◌==◌, ◌⊎◌, Bool, true, false, ◌||◌, List, []}
use Rattle.std.proofs.Common.{◌∷◌, refl, ap, subst, sym, ◌∙◌, arith, Option, Some, None, inl, inr, ⊎_elim}
use Rattle.std.specs.Prelude.{cond, find, filter, sum_by, IsSomeAnd}
use Rattle.std.specs.List.{AllByRecursion}
use Rattle.std.proofs.lemmas.Bool.{eqb-true, eq-eqb, ne_eqb, eqb-false, false_from_ne_true}
use Rattle.std.proofs.lemmas.List.Sums.{sum_by-cons}
use Rattle.item_shares.specs.declared.shares.Share.{Share}
use Rattle.blob_model.specs.Pieces.{Piece}
use Rattle.blob_model.proofs.Lists.{false_true}
use Rattle.blob_model.proofs.Lists.{or_cases}
use Rattle.blob_model.proofs.builds.PieceNumbers.{AreNumbered}
use Rattle.blob_model.proofs.builds.PieceNumbers.{FoundIn}
use Rattle.blob_model.proofs.builds.PieceNumbers.{found_number}
use Rattle.store_laws.specs.Cells.{piece_in}
use Rattle.store_laws.specs.Items.{piece_at, piece_of_share, is_number, holds_piece, held, AreOnePerPiece}

-- what a slot weighs is what its piece weighs; other items weigh nothing
abbrev pub IsWeighed : List Piece → (Option Share → ℕ) → (Piece → ℕ) → Option Share → Option ℕ → Type 0
IsWeighed all weight of_piece share None = weight share ≡ 0
IsWeighed all weight of_piece share (Some number) = IsSomeAnd (piece_in all number) (λ (piece : Piece). weight share ≡ of_piece piece)

-- ---- one piece more

module _ (of_piece : Piece → ℕ) where
  -- a number that no piece has makes no difference
  sum_other : (n m : ℕ) (test : Piece → Bool) (list : List Piece) → AreNumbered m list → n < m
      → sum_by of_piece (filter (λ (piece : Piece). (n == piece.number) || test piece) list) ≡ sum_by of_piece (filter test list)
  sum_other n m test [] all low = refl
  sum_other n m test (piece ∷ list) all low =
      let number_is = all.0 in
      let apart : (n == piece.number) ≡ false = ne_eqb n piece.number (λ e. omega (arith, e, number_is)) in
      let rest = sum_other n (m + 1) test list all.1 (omega arith) in
      rw apart (go (test piece) rest)
    where
      go : (b : Bool) → sum_by of_piece (filter (λ (piece : Piece). (n == piece.number) || test piece) list) ≡ sum_by of_piece (filter test list)
          → sum_by of_piece (cond b (piece ∷ filter (λ (piece : Piece). (n == piece.number) || test piece) list) (filter (λ (piece : Piece).
          (n == piece.number) || test piece) list))
          ≡ sum_by of_piece (cond b (piece ∷ filter test list) (filter test list))
      go true rest =
          sum_by-cons of_piece piece (filter (λ (piece : Piece). (n == piece.number) || test piece) list)
          ∙ ap (λ (k : ℕ). of_piece piece + k) rest
          ∙ sym (sum_by-cons of_piece piece (filter test list))
      go false rest = rest

  -- a piece more that passes
  pub sum_insert : (n m : ℕ) (test : Piece → Bool) (list : List Piece) (one : Piece) → AreNumbered m list → FoundIn list n one → test one ≡ false
      → sum_by of_piece (filter (λ (piece : Piece). (n == piece.number) || test piece) list) ≡ of_piece one + sum_by of_piece (filter test list)
  sum_insert n m test [] one all found not_yet = absurd (cc found)
  sum_insert n m test (piece ∷ list) one all found not_yet =
      ⊎_elim
      (λ (here : (piece.number == n) ≡ true).
      let same : Some piece ≡ Some one = ap (λ (b : Bool). cond b (Some piece) (find (λ (each : Piece). each.number == n) list)) (sym here) ∙ found in
      let is : piece ≡ one = cc in
      let number_is : piece.number ≡ n = eqb-true piece.number n here in
      let first = all.0 in
      let back : (n == piece.number) ≡ true = eq-eqb n piece.number (sym number_is) in
      let dark : test piece ≡ false = ap test is ∙ not_yet in
      let rest = sum_other n (m + 1) test list all.1 (omega (arith, number_is, first)) in
      rw (back, dark)
      (
      sum_by-cons of_piece piece (filter (λ (each : Piece). (n == each.number) || test each) list)
      ∙ ap (λ (k : ℕ). of_piece piece + k) rest
      ∙ ap (λ (each : Piece). of_piece each + sum_by of_piece (filter test list)) is
      ))
      (λ (there : (piece.number == n) ≡ false).
      let later : FoundIn list n one = ap (λ (b : Bool). cond b (Some piece) (find (λ (each : Piece). each.number == n) list)) (sym there) ∙ found in
      let other : (n == piece.number) ≡ false = ne_eqb n piece.number (λ e. eqb-false piece.number n there (sym e)) in
      let rest = sum_insert n (m + 1) test list one all.1 later not_yet in
      rw other (go (test piece) rest))
      (two (piece.number == n))
    where
      two : (b : Bool) → (b ≡ true) ⊎ (b ≡ false)
      two true = inl refl
      two false = inr refl

      go : (b : Bool) → sum_by of_piece (filter (λ (each : Piece). (n == each.number) || test each) list) ≡ of_piece one + sum_by of_piece (filter test list)
          → sum_by of_piece (cond b (piece ∷ filter (λ (each : Piece). (n == each.number) || test each) list) (filter (λ (each : Piece).
          (n == each.number) || test each) list))
          ≡ of_piece one + sum_by of_piece (cond b (piece ∷ filter test list) (filter test list))
      go true rest =
          sum_by-cons of_piece piece (filter (λ (each : Piece). (n == each.number) || test each) list)
          ∙ omega (arith, rest, sum_by-cons of_piece piece (filter test list))
      go false rest = rest

-- ---- slots by their pieces

-- a number is held in a slot
slot_with : (n : ℕ) (shares : List (Option Share)) → holds_piece shares n ≡ true → (k : ℕ) × (piece_at shares k ≡ Some n)
slot_with n [] e = absurd (false_true e)
slot_with n (share ∷ shares) e =
    ⊎_elim (λ (here : is_number n (piece_of_share share) ≡ true). (0, number_by n (piece_of_share share) here))
    (λ (more : holds_piece shares n ≡ true). let rest = slot_with n shares more in (suc rest.0, rest.1))
    (or_cases (is_number n (piece_of_share share)) (holds_piece shares n) e)
  where
    number_by : (n : ℕ) (o : Option ℕ) → is_number n o ≡ true → o ≡ Some n
    number_by n None e = absurd (false_true e)
    number_by n (Some one) e = ap Some (eqb-true one n e)

tail_apart : (share : Option Share) (shares : List (Option Share)) → AreOnePerPiece (share ∷ shares) → AreOnePerPiece shares
tail_apart share shares apart one other number e f = let same : suc one ≡ suc other = apart (suc one) (suc other) number e f in omega (arith, same)

head_apart : (share : Option Share) (shares : List (Option Share)) (number : ℕ) → AreOnePerPiece (share ∷ shares) → piece_of_share share ≡ Some number
    → holds_piece shares number ≡ false
head_apart share shares number apart e =
    false_from_ne_true (holds_piece shares number) (λ there. let slot = slot_with number shares there in let same : 0 ≡ suc slot.0 = apart 0
    (suc slot.0) number e slot.1 in omega (arith, same))

-- what slots weigh is what the pieces held weigh
pub weights_held : (all : List Piece) (weight : Option Share → ℕ) (of_piece : Piece → ℕ) (shares : List (Option Share)) → AreNumbered 0 all
    → AreOnePerPiece shares
    → AllByRecursion (λ (share : Option Share). IsWeighed all weight of_piece share (piece_of_share share)) shares
    → sum_by weight shares ≡ sum_by of_piece (held shares all)
weights_held all weight of_piece [] numbered apart weighed = sym (nothing all)
  where
    nothing : (list : List Piece) → sum_by of_piece (held [] list) ≡ 0
    nothing [] = refl
    nothing (piece ∷ list) = nothing list
weights_held all weight of_piece (share ∷ shares) numbered apart weighed =
    sum_by-cons weight share shares
    ∙ by (piece_of_share share) refl weighed.0 (weights_held all weight of_piece shares numbered (tail_apart share shares apart) weighed.1)
  where
    on : (o : Option ℕ) (found : Option Piece) → (number : ℕ) → o ≡ Some number → holds_piece shares number ≡ false
        → find (λ (each : Piece). each.number == number) all ≡ found
        → IsSomeAnd found (λ (piece : Piece). weight share ≡ of_piece piece) → sum_by weight shares ≡ sum_by of_piece (held shares all)
        → weight share + sum_by weight shares ≡ sum_by of_piece (filter (λ (piece : Piece). is_number piece.number o || holds_piece shares piece.number) all)
    on o None number e fresh at is rest = absurd is
    on o (Some one) number e fresh at is rest =
        let fresh_one : holds_piece shares one.number ≡ false = ap (holds_piece shares) (found_number all number one at) ∙ fresh in
        subst (λ (p : Option ℕ). weight share + sum_by weight shares ≡ sum_by of_piece (filter (λ
        (piece : Piece). is_number piece.number p || holds_piece shares piece.number) all)) (sym e)
        (omega (arith, is, rest, sum_insert of_piece number 0 (λ (piece : Piece). holds_piece shares piece.number) all one numbered at fresh_one))

    by : (o : Option ℕ) → piece_of_share share ≡ o → IsWeighed all weight of_piece share o → sum_by weight shares ≡ sum_by of_piece (held shares all)
        → weight share + sum_by weight shares ≡ sum_by of_piece (filter (λ (piece : Piece). is_number piece.number
        (piece_of_share share) || holds_piece shares piece.number) all)
    by None e is rest =
        subst (λ (p : Option ℕ). weight share + sum_by weight shares ≡ sum_by of_piece (filter (λ
        (piece : Piece). is_number piece.number p || holds_piece shares piece.number) all)) (sym e) (omega (arith, is, rest))
    by (Some number) e is rest = on (piece_of_share share) (piece_in all number) number e (head_apart share shares number apart e) refl is rest
