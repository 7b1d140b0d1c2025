-- What a job and a stored piece are charged with.
use Rattle.std.proofs.Common.{◌≡◌, ℕ, ◌+◌, ◌-◌, ◌≤◌, ◌==◌, Bool, true, false, ◌||◌, not, List, [], ◌∷◌, ◌++◌, refl, ap, subst, sym, ◌∙◌, arith, Option, Some, None}
use Rattle.std.specs.Prelude.{cond, find, filter, filter_map, sum_by, nat_le}
use Rattle.std.specs.Option.{option_map}
use Rattle.std.specs.List.{AllByRecursion, cons_option, list_any, fold}
use Rattle.std.proofs.lemmas.Bool.{or_parts, eqb-true, eq-eqb, leb-true}
use Rattle.std.proofs.lemmas.List.Sums.{sum_by-cons}
use Rattle.recent_items.specs.Recent.{enough, within, victims}
use Rattle.blob_model.specs.Pieces.{Piece}
use Rattle.blob_model.specs.Victims.{with_length, used}
use Rattle.blob_model.proofs.Lists.{AreApart, false_true, filter_none, found_all, not_same, part_apart, part_filter}
use Rattle.blob_model.proofs.memory.Shrinking.{sum_filtered}
use Rattle.blob_model.proofs.disk.Charges.{has_number}
use Rattle.blob_model.proofs.builds.PieceNumbers.{firsts}

-- ---- lists that were chosen

-- what passes a filter sums to no more
pub filter_less : {X : Type 0} (f : X → ℕ) (p : X → Bool) (xs : List X) → sum_by f (filter p xs) ≤ sum_by f xs
filter_less f p [] = omega arith
filter_less {X = X} f p (x ∷ xs) = go (p x) (filter_less f p xs)
  where
    go : (b : Bool) → sum_by f (filter p xs) ≤ sum_by f xs → sum_by f (cond b (x ∷ filter p xs) (filter p xs)) ≤ sum_by f (x ∷ xs)
    go true rest = let left = sum_by-cons f x (filter p xs) in let right = sum_by-cons f x xs in omega (arith, left, right, rest)
    go false rest = let right = sum_by-cons f x xs in omega (arith, right, rest)

-- each entry has the length that its number has
abbrev pub AreMeasured : (ℕ → ℕ) → List (ℕ × ℕ) → Type 0
AreMeasured f entries = AllByRecursion (λ (entry : ℕ × ℕ). f entry.0 ≡ entry.1) entries

-- entries within a bound sum to at most that
within_most : (f : ℕ → ℕ) (most : ℕ) (entries : List (ℕ × ℕ)) → AreMeasured f entries → sum_by f (firsts (within most entries)) ≤ most
within_most f most [] all = omega arith
within_most f most (entry ∷ entries) all = go (nat_le entry.1 most) refl (within_most f (most - entry.1) entries all.1)
  where
    go : (b : Bool) → nat_le entry.1 most ≡ b → sum_by f (firsts (within (most - entry.1) entries)) ≤ most - entry.1
        → sum_by f (firsts (cond b (entry ∷ within (most - entry.1) entries) [])) ≤ most
    go true at rest =
        let whole : sum_by f (entry.0 ∷ firsts (within (most - entry.1) entries)) ≡ f entry.0 + sum_by f (firsts (within (most - entry.1) entries)) =
        sum_by-cons f entry.0 (firsts (within (most - entry.1) entries)) in
        let room = leb-true entry.1 most at in
        let here = all.0 in
        omega (arith, whole, room, here, rest)
    go false at rest = omega arith

all_enough : (f : ℕ → ℕ) (need : ℕ) (entries : List (ℕ × ℕ)) → AreMeasured f entries → AreMeasured f (enough need entries)
all_enough f need [] all = tt
all_enough f need (entry ∷ entries) all = go (nat_le need 0) (all_enough f (need - entry.1) entries all.1)
  where
    go : (b : Bool) → AreMeasured f (enough (need - entry.1) entries) → AreMeasured f (cond b [] (entry ∷ enough (need - entry.1) entries))
    go true rest = tt
    go false rest = (all.0, rest)

measured : (f : ℕ → ℕ) (list : List Piece) (uses : List ℕ) → AllByRecursion (λ (piece : Piece). f piece.number ≡ piece.len) list
    → AreMeasured f (filter_map (with_length list) uses)
measured f list [] all = tt
measured f list (n ∷ uses) all = go (find (λ (piece : Piece). piece.number == n) list)
    (λ piece e. found_all (λ (each : Piece). f each.number ≡ each.len) (λ (each : Piece). each.number == n) list piece all e) (measured f list uses all)
  where
    go : (found : Option Piece) → ((piece : Piece) → found ≡ Some piece → f piece.number ≡ piece.len) → AreMeasured f (filter_map (with_length list) uses)
        → AreMeasured f (cons_option (option_map (λ (piece : Piece). (piece.number, piece.len)) found) (filter_map (with_length list) uses))
    go None same rest = rest
    go (Some piece) same rest = (same piece refl, rest)

-- the chosen pieces sum to at most what is allowed
pub victims_most : (f : ℕ → ℕ) (need most : ℕ) (list : List Piece) (uses : List ℕ) → AllByRecursion (λ (piece : Piece). f piece.number ≡ piece.len) list
    → sum_by f (victims need most (filter_map (with_length list) uses)) ≤ most
victims_most f need most list uses all = within_most f most (enough need (filter_map (with_length list) uses))
    (all_enough f need (filter_map (with_length list) uses) (measured f list uses all))

-- ---- what each chosen number stands for

-- a piece of this number with a property
abbrev pub StandsFor : (Piece → Type 0) → List Piece → ℕ → Type 0
StandsFor P list n = (piece : Piece) × (piece.number ≡ n) × P piece

all_firsts : (Q : ℕ → Type 0) (entries : List (ℕ × ℕ)) (need most : ℕ) → AllByRecursion (λ (entry : ℕ × ℕ). Q entry.0) entries
    → AllByRecursion Q (firsts (within most (enough need entries)))
all_firsts Q entries need most all = in_within most (enough need entries) (in_enough need entries all)
  where
    in_enough : (m : ℕ) (list : List (ℕ × ℕ)) → AllByRecursion (λ (entry : ℕ × ℕ). Q entry.0) list → AllByRecursion (λ (entry : ℕ × ℕ). Q entry.0)
        (enough m list)
    in_enough m [] a = tt
    in_enough m (entry ∷ list) a = go (nat_le m 0) (in_enough (m - entry.1) list a.1)
      where
        go : (b : Bool) → AllByRecursion (λ (each : ℕ × ℕ). Q each.0) (enough (m - entry.1) list) → AllByRecursion (λ (each : ℕ × ℕ). Q each.0)
            (cond b [] (entry ∷ enough (m - entry.1) list))
        go true rest = tt
        go false rest = (a.0, rest)

    in_within : (m : ℕ) (list : List (ℕ × ℕ)) → AllByRecursion (λ (entry : ℕ × ℕ). Q entry.0) list → AllByRecursion Q (firsts (within m list))
    in_within m [] a = tt
    in_within m (entry ∷ list) a = go (nat_le entry.1 m) (in_within (m - entry.1) list a.1)
      where
        go : (b : Bool) → AllByRecursion Q (firsts (within (m - entry.1) list)) → AllByRecursion Q (firsts (cond b (entry ∷ within (m - entry.1) list) []))
        go true rest = (a.0, rest)
        go false rest = tt

all_lengths : (P : Piece → Type 0) (list : List Piece) (uses : List ℕ) → AllByRecursion P list → AllByRecursion (λ (entry : ℕ × ℕ). StandsFor P list entry.0)
    (filter_map (with_length list) uses)
all_lengths P list [] all = tt
all_lengths P list (n ∷ uses) all = go (find (λ (piece : Piece). piece.number == n) list)
    (λ piece e. found_all P (λ (each : Piece). each.number == n) list piece all e) (all_lengths P list uses all)
  where
    go : (found : Option Piece) → ((piece : Piece) → found ≡ Some piece → P piece) → AllByRecursion (λ (entry : ℕ × ℕ). StandsFor P list entry.0)
        (filter_map (with_length list) uses)
        → AllByRecursion (λ (entry : ℕ × ℕ). StandsFor P list entry.0)
        (cons_option (option_map (λ (piece : Piece). (piece.number, piece.len)) found) (filter_map (with_length list) uses))
    go None has rest = rest
    go (Some piece) has rest = ((piece, refl, has piece refl), rest)

-- each chosen number stands for a piece of the list
pub victims_stand : (P : Piece → Type 0) (need most : ℕ) (list : List Piece) (uses : List ℕ) → AllByRecursion P list → AllByRecursion (StandsFor P list)
    (victims need most (filter_map (with_length list) uses))
victims_stand P need most list uses all = all_firsts (StandsFor P list) (filter_map (with_length list) uses) need most (all_lengths P list uses all)

-- ---- the pieces ever used differ

none_filtered : (test : ℕ → Bool) (n : ℕ) (xs : List ℕ) → (test n ≡ false) → list_any (λ (each : ℕ). each == n) (filter test xs) ≡ false
none_filtered test n [] e = refl
none_filtered test n (x ∷ xs) e = go (test x) refl (none_filtered test n xs e)
  where
    go : (b : Bool) → test x ≡ b → list_any (λ (each : ℕ). each == n) (filter test xs) ≡ false → list_any (λ (each : ℕ). each == n)
        (cond b (x ∷ filter test xs) (filter test xs)) ≡ false
    go false at rest = rest
    go true at rest =
        let differs : (x == n) ≡ false = not_same x n (λ same. absurd (false_true (sym e ∙ subst (λ (m : ℕ). test m ≡ true) same at))) in
        (λ i. differs i || list_any (λ (each : ℕ). each == n) (filter test xs)) ∙ rest

apart_last : (xs : List ℕ) (n : ℕ) → AreApart xs → list_any (λ (each : ℕ). each == n) xs ≡ false → AreApart (xs ++ n ∷ [])
apart_last [] n apart e = (refl, tt)
apart_last (x ∷ xs) n apart e =
    let parts = or_parts (x == n) (list_any (λ (each : ℕ). each == n) xs) e in
    (none_more xs apart.0, apart_last xs n apart.1 parts.1)
  where
    differs : (n == x) ≡ false
    differs =
        not_same n x
        (λ same. absurd (false_true (sym (or_parts (x == n) (list_any (λ (each : ℕ). each == n) xs) e).0 ∙ subst (λ (m : ℕ). (x == m) ≡ true) (sym same)
        (eq-eqb x x refl))))

    none_more : (list : List ℕ) → list_any (λ (each : ℕ). each == x) list ≡ false → list_any (λ (each : ℕ). each == x) (list ++ n ∷ []) ≡ false
    none_more [] f = (λ i. differs i || false)
    none_more (y ∷ list) f =
        let parts = or_parts (y == x) (list_any (λ (each : ℕ). each == x) list) f in
        (λ i. parts.0 i || list_any (λ (each : ℕ). each == x) (list ++ n ∷ [])) ∙ none_more list parts.1

-- a use keeps numbers apart
pub used_apart : (before : List ℕ) (number : ℕ) → AreApart before → AreApart (used before number)
used_apart before number apart =
    apart_last (filter (λ (each : ℕ). not (each == number)) before) number
    (part_apart (filter (λ (each : ℕ). not (each == number)) before) before (part_filter (λ (each : ℕ). not (each == number)) before) apart)
    (none_filtered (λ (each : ℕ). not (each == number)) number before (λ i. not (eq-eqb number number refl i)))

-- so do many
pub fold_apart : {X : Type 0} (step : List ℕ → X → List ℕ) → ((before : List ℕ) (x : X) → AreApart before → AreApart (step before x))
    → (xs : List X) (before : List ℕ) → AreApart before → AreApart (fold step before xs)
fold_apart step keeps [] before apart = apart
fold_apart step keeps (x ∷ xs) before apart = fold_apart step keeps xs (step before x) (keeps before x apart)

-- ---- numbers that differ sum to no more than the pieces

-- a sum over two tests
sum_or : (f : ℕ → ℕ) (p q : ℕ → Bool) (xs : List ℕ) → sum_by f (filter (λ (n : ℕ). p n || q n) xs) ≤ sum_by f (filter p xs) + sum_by f (filter q xs)
sum_or f p q [] = omega arith
sum_or f p q (x ∷ xs) = go (p x) (q x) (sum_or f p q xs)
  where
    go : (a b : Bool) → sum_by f (filter (λ (n : ℕ). p n || q n) xs) ≤ sum_by f (filter p xs) + sum_by f (filter q xs)
        → sum_by f (cond (a || b) (x ∷ filter (λ (n : ℕ). p n || q n) xs) (filter (λ (n : ℕ). p n || q n) xs)) ≤ sum_by f
        (cond a (x ∷ filter p xs) (filter p xs)) + sum_by f (cond b (x ∷ filter q xs) (filter q xs))
    go true true rest = let w = sum_by-cons f x (filter (λ (n : ℕ). p n || q n) xs) in let l = sum_by-cons f x (filter p xs) in
        let r = sum_by-cons f x (filter q xs) in omega (arith, w, l, r, rest)
    go true false rest = let w = sum_by-cons f x (filter (λ (n : ℕ). p n || q n) xs) in let l = sum_by-cons f x (filter p xs) in omega (arith, w, l, rest)
    go false true rest = let w = sum_by-cons f x (filter (λ (n : ℕ). p n || q n) xs) in let r = sum_by-cons f x (filter q xs) in omega (arith, w, r, rest)
    go false false rest = rest

-- one number is there at most once
sum_single : (f : ℕ → ℕ) (n : ℕ) (xs : List ℕ) → AreApart xs → sum_by f (filter (λ (each : ℕ). n == each) xs) ≤ f n
sum_single f n [] apart = omega arith
sum_single f n (x ∷ xs) apart = go (n == x) refl (sum_single f n xs apart.1)
  where
    others : (list : List ℕ) → n ≡ x → list_any (λ (each : ℕ). each == x) list ≡ false → AllByRecursion (λ (each : ℕ). (n == each) ≡ false) list
    others [] same e = tt
    others (y ∷ list) same e =
        let parts = or_parts (y == x) (list_any (λ (each : ℕ). each == x) list) e in
        (not_same n y (λ equal. absurd (false_true (sym parts.0 ∙ eq-eqb y x (sym equal ∙ same)))), others list same parts.1)

    go : (b : Bool) → (n == x) ≡ b → sum_by f (filter (λ (each : ℕ). n == each) xs) ≤ f n
        → sum_by f (cond b (x ∷ filter (λ (each : ℕ). n == each) xs) (filter (λ (each : ℕ). n == each) xs)) ≤ f n
    go false at rest = rest
    go true at rest =
        let same : n ≡ x = eqb-true n x at in
        let none : sum_by f (filter (λ (each : ℕ). n == each) xs) ≡ 0 = ap (sum_by f) (filter_none (λ (each : ℕ). n == each) xs (others xs same apart.0)) in
        let whole = sum_by-cons f x (filter (λ (each : ℕ). n == each) xs) in
        let moved : f n ≡ f x = ap f same in
        omega (arith, none, whole, moved)

-- the numbers that some piece of the list has
pub apart_sum : (f : ℕ → ℕ) (numbers : List ℕ) (list : List Piece) → AreApart numbers → AllByRecursion (λ (piece : Piece). f piece.number ≡ piece.len) list
    → sum_by f (filter (has_number list) numbers) ≤ sum_by (λ (piece : Piece). piece.len) list
apart_sum f numbers [] apart all =
    let none : sum_by f (filter (has_number []) numbers) ≡ 0 = ap (sum_by f) (filter_none (has_number []) numbers (nothing numbers)) in omega (arith, none)
  where
    nothing : (xs : List ℕ) → AllByRecursion (λ (n : ℕ). has_number [] n ≡ false) xs
    nothing [] = tt
    nothing (x ∷ xs) = (refl, nothing xs)
apart_sum f numbers (piece ∷ list) apart all =
    let rest = apart_sum f numbers list apart all.1 in
    let parted = sum_or f (λ (n : ℕ). piece.number == n) (has_number list) numbers in
    let one = sum_single f piece.number numbers apart in
    let whole = sum_by-cons (λ (each : Piece). each.len) piece list in
    let here = all.0 in
    omega (arith, rest, parted, one, whole, here)

-- ---- one reserved piece less

-- the sum without one piece
pub sum_without : (p' p q : Piece → Bool) (test : Piece → Bool) (xs : List Piece) (piece : Piece) → ((each : Piece) → p' each ≡ true → p each ≡ true)
    → find test xs ≡ Some piece → p piece ≡ true → q piece ≡ true → p' piece ≡ false
    → sum_by (λ (each : Piece). each.len) (filter p' (filter q xs)) + piece.len ≤ sum_by (λ (each : Piece). each.len) (filter p (filter q xs))
sum_without p' p q test [] piece up e at_p at_q none = cc
sum_without p' p q test (x ∷ xs) piece up e at_p at_q none = go (test x) e (λ f. sum_without p' p q test xs piece up f at_p at_q none)
  where
    len : Piece → ℕ
    len each = each.len

    more : sum_by len (filter p' (filter q xs)) ≤ sum_by len (filter p (filter q xs))
    more = sum_filtered len p' q p q xs (λ each a b. (up each a, b))

    step : (b c d : Bool) → p' x ≡ c → p x ≡ d → (c ≡ true → d ≡ true) → sum_by len (filter p' (filter q xs)) + piece.len ≤ sum_by len (filter p (filter q xs))
        → sum_by len (filter p' (cond b (x ∷ filter q xs) (filter q xs))) + piece.len ≤ sum_by len (filter p (cond b (x ∷ filter q xs) (filter q xs)))
    step false c d at_c at_d ok rest = rest
    step true true false at_c at_d ok rest = absurd (false_true (ok refl))
    step true true true at_c at_d ok rest =
        let left : sum_by len (filter p' (x ∷ filter q xs)) ≡ len x + sum_by len (filter p' (filter q xs)) =
        ap (λ (z : Bool). sum_by len (cond z (x ∷ filter p' (filter q xs)) (filter p' (filter q xs)))) at_c ∙ sum_by-cons len x (filter p' (filter q xs))
        in
        let right : sum_by len (filter p (x ∷ filter q xs)) ≡ len x + sum_by len (filter p (filter q xs)) =
        ap (λ (z : Bool). sum_by len (cond z (x ∷ filter p (filter q xs)) (filter p (filter q xs)))) at_d ∙ sum_by-cons len x (filter p (filter q xs)) in
        omega (arith, left, right, rest)
    step true false true at_c at_d ok rest =
        let left : sum_by len (filter p' (x ∷ filter q xs)) ≡ sum_by len (filter p' (filter q xs)) =
        ap (λ (z : Bool). sum_by len (cond z (x ∷ filter p' (filter q xs)) (filter p' (filter q xs)))) at_c in
        let right : sum_by len (filter p (x ∷ filter q xs)) ≡ len x + sum_by len (filter p (filter q xs)) =
        ap (λ (z : Bool). sum_by len (cond z (x ∷ filter p (filter q xs)) (filter p (filter q xs)))) at_d ∙ sum_by-cons len x (filter p (filter q xs)) in
        omega (arith, left, right, rest)
    step true false false at_c at_d ok rest =
        let left : sum_by len (filter p' (x ∷ filter q xs)) ≡ sum_by len (filter p' (filter q xs)) =
        ap (λ (z : Bool). sum_by len (cond z (x ∷ filter p' (filter q xs)) (filter p' (filter q xs)))) at_c in
        let right : sum_by len (filter p (x ∷ filter q xs)) ≡ sum_by len (filter p (filter q xs)) =
        ap (λ (z : Bool). sum_by len (cond z (x ∷ filter p (filter q xs)) (filter p (filter q xs)))) at_d in
        omega (arith, left, right, rest)

    here : x ≡ piece → sum_by len (filter p' (filter q (x ∷ xs))) + piece.len ≤ sum_by len (filter p (filter q (x ∷ xs)))
    here same =
        let kept : q x ≡ true = subst (λ (each : Piece). q each ≡ true) (sym same) at_q in
        let off : p' x ≡ false = subst (λ (each : Piece). p' each ≡ false) (sym same) none in
        let on : p x ≡ true = subst (λ (each : Piece). p each ≡ true) (sym same) at_p in
        let left : sum_by len (filter p' (filter q (x ∷ xs))) ≡ sum_by len (filter p' (filter q xs)) =
        ap (λ (z : Bool). sum_by len (filter p' (cond z (x ∷ filter q xs) (filter q xs)))) kept ∙ ap
        (λ (z : Bool). sum_by len (cond z (x ∷ filter p' (filter q xs)) (filter p' (filter q xs)))) off in
        let right : sum_by len (filter p (filter q (x ∷ xs))) ≡ len x + sum_by len (filter p (filter q xs)) =
        ap (λ (z : Bool). sum_by len (filter p (cond z (x ∷ filter q xs) (filter q xs)))) kept ∙ ap
        (λ (z : Bool). sum_by len (cond z (x ∷ filter p (filter q xs)) (filter p (filter q xs)))) on ∙ sum_by-cons len x (filter p (filter q xs)) in
        let size : len x ≡ piece.len = ap len same in
        let wide = more in
        omega (arith, left, right, size, wide)

    go : (b : Bool) → cond b (Some x) (find test xs) ≡ Some piece
        → (find test xs ≡ Some piece → sum_by len (filter p' (filter q xs)) + piece.len ≤ sum_by len (filter p (filter q xs)))
        → sum_by len (filter p' (filter q (x ∷ xs))) + piece.len ≤ sum_by len (filter p (filter q (x ∷ xs)))
    go true f rest = here cc
    go false f rest = step (q x) (p' x) (p x) refl refl (up x) (rest f)
