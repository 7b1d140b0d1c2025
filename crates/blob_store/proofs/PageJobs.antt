-- The pieces that a page job takes: each is in memory in its home, they differ, none is empty, and there is room for them.
use Rattle.std.proofs.Common.{◌≡◌, ℕ, ◌+◌, ◌-◌, ◌<◌, ◌≤◌, ◌==◌, ◌&&◌, ◌||◌, not, Bool, true, false, cond, List, [], ◌∷◌, ◌++◌, map, min, nat_le, refl}
use Rattle.std.proofs.Common.{ap, sym, subst, ◌∙◌}
use Rattle.std.proofs.Common.{Option, Some, None, length, take, get_or, arith, nat_eq}
use Rattle.std.specs.Prelude.{slice_get, sum_by, IfSome, IsSomeAnd}
use Rattle.std.specs.List.{list_any, AllByRecursion, IsDistinct}
use Rattle.std.specs.Map.{keys_of}
use Rattle.std.proofs.lemmas.Bool.{leb-true}
use Rattle.std.proofs.lemmas.List.{take_more}
use Rattle.std.proofs.lemmas.List.Folds.{list_any-append}
use Rattle.std.proofs.lemmas.List.Sums.{sum_by-cons}
use Rattle.std.proofs.lemmas.Map.Keys.{IsDistinct-cons, IsDistinct-head, IsDistinct-tail}
use Rattle.blob_words.specs.declared.number.PieceNo.{PieceNo}
use Rattle.item_shares.specs.Shares.{item_at}
use Rattle.item_shares.specs.declared.item.Item.{Item}
use Rattle.item_shares.specs.declared.item.Item.TheVariants.{Memory, Paged, Reserved, File, Range}
use Rattle.item_shares.specs.declared.shares.Share.{Share}
use Rattle.page_files.specs.Files.{room}
use Rattle.page_files.specs.Items.{IsMemoryIn, IsMemoryOf}
use Rattle.page_files.specs.Pieces.{named}
use Rattle.recent_items.specs.Recent.{enough, within, without}
use Rattle.blob_model.specs.Pages.{numbers}
use Rattle.model_bridges.specs.Bridges.{held_numbers}
use Rattle.store_laws.specs.LateJobs.{without_all}
use Rattle.store_laws.proofs.Letting.{filter_same, filter_twice}
use Rattle.store_laws.proofs.JobStarts.{all_enough, all_numbers, all_victims, all_within}
use Rattle.blob_store.specs.Paging.{earliest, lacking, AreAtHome, CanStart, IsAtHome, IsHere, IsLong, IsPiece}
use Rattle.blob_store.specs.Stored.{IsInMemory, IsMemory}
use Rattle.blob_store.specs.declared.parts.Parts.{Parts}

-- ---- what is in the order of use is in memory in its home

here_of : (shares : List (Option Share)) (homes : List ℕ) (used : ℕ × ℕ) → IsInMemory shares homes used → IsHere shares homes used.0
here_of shares homes used is = by (slice_get homes used.0) is
  where
    of_item : (o : Option Item) → IsSomeAnd o (IsMemory used) → IsSomeAnd o (IsPiece used.0)
    of_item None is = absurd is
    of_item (Some (Memory piece bytes)) is = is.0
    of_item (Some (Paged piece page off len)) is = absurd is
    of_item (Some (Reserved piece len)) is = absurd is
    of_item (Some (File name stamp off len)) is = absurd is
    of_item (Some (Range k off len)) is = absurd is

    by : (o : Option ℕ) → IsSomeAnd o (λ (slot : ℕ). IsSomeAnd (item_at shares slot) (IsMemory used))
        → IsSomeAnd o (λ (slot : ℕ). IsSomeAnd (item_at shares slot) (IsPiece used.0))
    by None is = absurd is
    by (Some slot) is = of_item (item_at shares slot) is

each_number : (Q : ℕ → Type 0) (pieces : List PieceNo) → AllByRecursion Q (numbers pieces) → AllByRecursion (λ (piece : PieceNo). Q piece.0) pieces
each_number Q [] all = tt
each_number Q (piece ∷ pieces) all = (all.0, each_number Q pieces all.1)

-- ---- one piece at home

-- the home of a piece has it in memory with its length
pub at_home : (shares : List (Option Share)) (homes : List ℕ) (piece : PieceNo) (slot len : ℕ) (bytes : List ℕ) (one : PieceNo) → IsHere shares homes piece.0
    → slice_get homes piece.0 ≡ Some slot → item_at shares slot ≡ Some (Memory one bytes) → length bytes ≡ len → IsAtHome homes shares (piece, slot, len)
at_home shares homes piece slot len bytes one here home at long = record {
  home = home;
  memory = subst (λ (o : Option Item). IsSomeAnd o (IsMemoryOf (named (piece, slot, len)))) (sym at) (ap {B = PieceNo} (λ n. record { 0 = n }) is_one, long);
}
  where
    in_slot : IsSomeAnd (item_at shares slot) (IsPiece piece.0)
    in_slot = subst (λ (o : Option ℕ). IsSomeAnd o (λ (k : ℕ). IsSomeAnd (item_at shares k) (IsPiece piece.0))) home here

    is_one : one.0 ≡ piece.0
    is_one = subst (λ (o : Option Item). IsSomeAnd o (IsPiece piece.0)) at in_slot

-- one more piece at home behind others
pub more_at_home : (homes : List ℕ) (shares : List (Option Share)) (pieces : List PieceNo) (given : List (PieceNo × ℕ × ℕ)) (piece : PieceNo)
    (one : PieceNo × ℕ × ℕ) → AreAtHome homes shares pieces given → one.0 ≡ piece → IsAtHome homes shares one
    → AreAtHome homes shares (pieces ++ piece ∷ []) (given ++ one ∷ [])
more_at_home homes shares pieces given piece one are is home = record {
  pieces_so = mapped given ∙ (λ i. are.pieces_so i ++ is i ∷ []);
  each = joined given are.each;
}
  where
    mapped : (list : List (PieceNo × ℕ × ℕ)) → map (λ (each : PieceNo × ℕ × ℕ). each.0) (list ++ one ∷ [])
        ≡ map (λ (each : PieceNo × ℕ × ℕ). each.0) list ++ one.0 ∷ []
    mapped [] = refl
    mapped (first ∷ list) = ap (λ (rest : List PieceNo). first.0 ∷ rest) (mapped list)

    joined : (list : List (PieceNo × ℕ × ℕ)) → AllByRecursion (IsAtHome homes shares) list → AllByRecursion (IsAtHome homes shares) (list ++ one ∷ [])
    joined [] all = (home, tt)
    joined (first ∷ list) all = (all.0, joined list all.1)

-- ---- the numbers of pieces at home

numbers_given : (given : List (PieceNo × ℕ × ℕ)) → map (λ (one : PieceNo × ℕ × ℕ). one.0.0) given ≡ numbers (map (λ (one : PieceNo × ℕ × ℕ). one.0) given)
numbers_given [] = refl
numbers_given (one ∷ given) = ap (λ (rest : List ℕ). one.0.0 ∷ rest) (numbers_given given)

numbers_held : (given : List (PieceNo × ℕ × ℕ)) → held_numbers (map named given) ≡ map (λ (one : PieceNo × ℕ × ℕ). one.0.0) given
numbers_held [] = refl
numbers_held (one ∷ given) = ap (λ (rest : List ℕ). one.0.0 ∷ rest) (numbers_held given)

-- ---- what is taken differs

none_apart : IsDistinct nat_eq []
unfolding IsDistinct
none_apart = tt

module _ (k : ℕ) where
  abbrev Differs : ℕ × ℕ → Type 0
  Differs used = nat_eq k used.0 ≡ false

  from_keys : (order : List (ℕ × ℕ)) → AllByRecursion (λ (other : ℕ). nat_eq k other ≡ false) (keys_of order) → AllByRecursion Differs order
  from_keys [] all = tt
  from_keys (used ∷ order) all = (all.0, from_keys order all.1)

  to_keys : (order : List (ℕ × ℕ)) → AllByRecursion Differs order → AllByRecursion (λ (other : ℕ). nat_eq k other ≡ false) (keys_of order)
  to_keys [] all = tt
  to_keys (used ∷ order) all = (all.0, to_keys order all.1)

apart_within : (most : ℕ) (order : List (ℕ × ℕ)) → IsDistinct nat_eq (keys_of order) → IsDistinct nat_eq (keys_of (within most order))
apart_within most [] apart = none_apart
apart_within most (used ∷ order) apart =
    go (nat_le used.1 most) (apart_within (most - used.1) order (IsDistinct-tail nat_eq used.0 (keys_of order) apart))
  where
    go : (b : Bool) → IsDistinct nat_eq (keys_of (within (most - used.1) order)) → IsDistinct nat_eq
        (keys_of (cond b (used ∷ within (most - used.1) order) []))
    go true rest =
        IsDistinct-cons nat_eq used.0 (keys_of (within (most - used.1) order))
        (to_keys used.0 (within (most - used.1) order)
        (all_within (Differs used.0) (most - used.1) order (from_keys used.0 order (IsDistinct-head nat_eq used.0 (keys_of order) apart)))) rest
    go false rest = none_apart

apart_enough : (need : ℕ) (order : List (ℕ × ℕ)) → IsDistinct nat_eq (keys_of order) → IsDistinct nat_eq (keys_of (enough need order))
apart_enough need [] apart = none_apart
apart_enough need (used ∷ order) apart =
    go (nat_le need 0) (apart_enough (need - used.1) order (IsDistinct-tail nat_eq used.0 (keys_of order) apart))
  where
    go : (b : Bool) → IsDistinct nat_eq (keys_of (enough (need - used.1) order)) → IsDistinct nat_eq
        (keys_of (cond b [] (used ∷ enough (need - used.1) order)))
    go true rest = none_apart
    go false rest =
        IsDistinct-cons nat_eq used.0 (keys_of (enough (need - used.1) order))
        (to_keys used.0 (enough (need - used.1) order)
        (all_enough (Differs used.0) (need - used.1) order (from_keys used.0 order (IsDistinct-head nat_eq used.0 (keys_of order) apart)))) rest

-- ---- and has room

within_most : (most : ℕ) (order : List (ℕ × ℕ)) → sum_by (λ (used : ℕ × ℕ). used.1) (within most order) ≤ most
within_most most [] = omega arith
within_most most (used ∷ order) = go (nat_le used.1 most) refl (within_most (most - used.1) order)
  where
    go : (b : Bool) → nat_le used.1 most ≡ b → sum_by (λ (one : ℕ × ℕ). one.1) (within (most - used.1) order) ≤ most - used.1
        → sum_by (λ (one : ℕ × ℕ). one.1) (cond b (used ∷ within (most - used.1) order) []) ≤ most
    go true at rest =
        let whole = sum_by-cons (λ (one : ℕ × ℕ). one.1) used (within (most - used.1) order) in
        let fits = leb-true used.1 most at in
        omega (arith, whole, fits, rest)
    go false at rest = omega arith

-- a piece at home is as long as the order of use says
long_as : (homes : List ℕ) (shares : List (Option Share)) (one : PieceNo × ℕ × ℕ) (used : ℕ × ℕ) → IsAtHome homes shares one → IsInMemory shares homes used
    → one.0.0 ≡ used.0 → one.2 ≡ used.1
long_as homes shares one used home is same =
    of_item (item_at shares one.1) home.memory
    (subst (λ (o : Option ℕ). IsSomeAnd o (λ (slot : ℕ). IsSomeAnd (item_at shares slot) (IsMemory used))) (ap (slice_get homes) (sym same) ∙ home.home) is)
  where
    of_item : (o : Option Item) → IsSomeAnd o (IsMemoryOf (named one)) → IsSomeAnd o (IsMemory used) → one.2 ≡ used.1
    of_item None is at = absurd is
    of_item (Some (Memory piece bytes)) is at = sym is.1 ∙ at.1
    of_item (Some (Paged piece page off len)) is at = absurd is
    of_item (Some (Reserved piece len)) is at = absurd is
    of_item (Some (File name stamp off len)) is at = absurd is
    of_item (Some (Range k off len)) is at = absurd is

long_together : (homes : List ℕ) (shares : List (Option Share)) (given : List (PieceNo × ℕ × ℕ)) (order : List (ℕ × ℕ))
    → AllByRecursion (IsAtHome homes shares) given → AllByRecursion (IsInMemory shares homes) order
    → map (λ (one : PieceNo × ℕ × ℕ). one.0.0) given ≡ map (λ (used : ℕ × ℕ). used.0) order
    → sum_by (λ (one : PieceNo × ℕ × ℕ). one.2) given ≡ sum_by (λ (used : ℕ × ℕ). used.1) order
long_together homes shares [] [] home is same = refl
long_together homes shares [] (used ∷ order) home is same = absurd (cc same)
long_together homes shares (one ∷ given) [] home is same = absurd (cc same)
long_together homes shares (one ∷ given) (used ∷ order) home is same =
    let first : one.0.0 ≡ used.0 = cc same in
    let others : map (λ (each : PieceNo × ℕ × ℕ). each.0.0) given ≡ map (λ (each : ℕ × ℕ). each.0) order = cc same in
    let here = long_as homes shares one used home.0 is.0 first in
    let rest = long_together homes shares given order home.1 is.1 others in
    sum_by-cons (λ (each : PieceNo × ℕ × ℕ). each.2) one given ∙ (λ i. here i + rest i) ∙ sym (sum_by-cons (λ (each : ℕ × ℕ). each.1) used order)

-- ---- pieces leave the order of use, one after the other

pub leave_next : (gone : List ℕ) (number : ℕ) (order : List (ℕ × ℕ)) → without number (without_all gone order) ≡ without_all (gone ++ number ∷ []) order
leave_next gone number order =
    filter_twice (λ (used : ℕ × ℕ). not (list_any (λ (one : ℕ). one == used.0) gone)) (λ (used : ℕ × ℕ). not (nat_eq number used.0)) order
    ∙ filter_same (λ (used : ℕ × ℕ). not (list_any (λ (one : ℕ). one == used.0) gone) && not (nat_eq number used.0))
    (λ (used : ℕ × ℕ). not (list_any (λ (one : ℕ). one == used.0) (gone ++ number ∷ []))) order
    (λ used. by (list_any (λ (one : ℕ). one == used.0) gone) (number == used.0)
    ∙ ap not (sym (list_any-append (λ (one : ℕ). one == used.0) gone (number ∷ []))))
  where
    by : (a b : Bool) → (not a && not b) ≡ not (a || (b || false))
    by true b = refl
    by false true = refl
    by false false = refl

pub none_left : (order : List (ℕ × ℕ)) → order ≡ without_all [] order
none_left [] = refl
none_left (used ∷ order) = ap (λ (rest : List (ℕ × ℕ)). used ∷ rest) (none_left order)

-- the numbers of one piece more
pub numbers_more : (pieces : List PieceNo) (i : ℕ) (other : PieceNo) → i < length pieces
    → numbers (take i pieces) ++ (get_or pieces i other).0 ∷ [] ≡ numbers (take (i + 1) pieces)
numbers_more pieces i other within = joined (take i pieces) ∙ ap numbers (sym (take_more pieces i other within))
  where
    joined : (list : List PieceNo) → numbers list ++ (get_or pieces i other).0 ∷ [] ≡ numbers (list ++ get_or pieces i other ∷ [])
    joined [] = refl
    joined (first ∷ list) = ap (λ (rest : List ℕ). first.0 ∷ rest) (joined list)

-- ---- a job of the pieces used earliest

module _ (parts : Parts) (starts : CanStart parts) (pieces : List PieceNo) (are : numbers pieces ≡ earliest parts) where
  abbrev most : ℕ
  most = min parts.limits.page (room parts.pages)

  abbrev taken : List (ℕ × ℕ)
  taken = within most (enough (lacking parts) parts.recent)

  taken_in_memory : AllByRecursion (IsInMemory parts.shares parts.homes) taken
  taken_in_memory = all_victims (IsInMemory parts.shares parts.homes) (lacking parts) most parts.recent starts.order

  pub all_here : AllByRecursion (λ (piece : PieceNo). IsHere parts.shares parts.homes piece.0) pieces
  all_here =
      each_number (IsHere parts.shares parts.homes) pieces
      (subst (AllByRecursion (IsHere parts.shares parts.homes)) (sym are)
      (all_numbers (IsInMemory parts.shares parts.homes) (IsHere parts.shares parts.homes) taken (here_of parts.shares parts.homes) taken_in_memory))

  module _ (given : List (PieceNo × ℕ × ℕ)) (home : AreAtHome parts.homes parts.shares pieces given) where
    numbers_so : map (λ (one : PieceNo × ℕ × ℕ). one.0.0) given ≡ earliest parts
    numbers_so = numbers_given given ∙ ap numbers home.pieces_so ∙ are

    pub given_apart : IsDistinct nat_eq (keys_of parts.recent) → IsDistinct nat_eq (map (λ (one : PieceNo × ℕ × ℕ). one.0.0) given)
    given_apart apart =
        subst (IsDistinct nat_eq) (sym numbers_so)
        (apart_within most (enough (lacking parts) parts.recent) (apart_enough (lacking parts) parts.recent apart))

    pub given_long : AllByRecursion (λ (one : PieceNo × ℕ × ℕ). 0 < one.2) given
    given_long = by given home.each
      where
        of_item : (one : PieceNo × ℕ × ℕ) (o : Option Item) → IsSomeAnd o (IsMemoryOf (named one)) → IfSome o IsLong → 0 < one.2
        of_item one None is long = absurd is
        of_item one (Some (Memory piece bytes)) is long = subst (λ (n : ℕ). 0 < n) is.1 long
        of_item one (Some (Paged piece page off len)) is long = absurd is
        of_item one (Some (Reserved piece len)) is long = absurd is
        of_item one (Some (File name stamp off len)) is long = absurd is
        of_item one (Some (Range k off len)) is long = absurd is

        by : (list : List (PieceNo × ℕ × ℕ)) → AllByRecursion (IsAtHome parts.homes parts.shares) list
            → AllByRecursion (λ (one : PieceNo × ℕ × ℕ). 0 < one.2) list
        by [] all = tt
        by (one ∷ list) all = (of_item one (item_at parts.shares one.1) all.0.memory (starts.long one.1), by list all.1)

    pub given_room : sum_by (λ (one : PieceNo × ℕ × ℕ). one.2) given ≤ room parts.pages
    given_room =
        let same = long_together parts.homes parts.shares given taken home.each taken_in_memory numbers_so in
        let low = within_most most (enough (lacking parts) parts.recent) in
        omega (arith, same, low)

    pub held_so : held_numbers (map named given) ≡ numbers pieces
    held_so = numbers_held given ∙ numbers_so ∙ sym are

    pub held_memory : AllByRecursion (IsMemoryIn parts.shares) (map named given)
    held_memory = by given home.each
      where
        by : (list : List (PieceNo × ℕ × ℕ)) → AllByRecursion (IsAtHome parts.homes parts.shares) list
            → AllByRecursion (IsMemoryIn parts.shares) (map named list)
        by [] all = tt
        by (one ∷ list) all = (all.0.memory, by list all.1)
