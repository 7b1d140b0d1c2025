-- A window over the numbers that came.
use Rattle.std.proofs.Common.{◌≡◌, ◌≢◌, ◌⊎◌, inl, inr, ℕ, ◌+◌, ◌-◌, ◌<◌, ◌≤◌, Bool, true, false, cond, ◌||◌, List, [], ◌∷◌, ◌++◌, Option, Some, None}
use Rattle.std.proofs.Common.{length, set, min, nat_eq, nat_lt, refl, sym, ap, ◌∙◌, subst, arith}
use Rattle.std.proofs.Common.{append_assoc, append-nil, length-set, get_or-set_same, get_or-set_other, length-append}
use Rattle.std.specs.Prelude.{MatchOption, slice_index_or}
use Rattle.std.specs.Option.{option_map_or}
use Rattle.std.proofs.lemmas.Bool.{eqb-false, eqb-true}
use Rattle.std.proofs.lemmas.Bool.Decides.{nat_tests}
use Rattle.blob_registry.specs.Numbers.{is_among}
use Rattle.blob_registry.proofs.Numbers.{among_more, apart_eq, either_or, same_eq}
use Rattle.blob_words.specs.declared.number.PieceNo.{PieceNo}
use Rattle.store_reach.specs.Reach.{numbers}
use Rattle.store_reach.specs.Sets.{as_set}
use Rattle.store_reach.specs.Windows.{below, listed, put, taken, taken_all, GoesOn, IsBlank, Marks}
use Rattle.store_reach.proofs.Sets.{among_set, below_all, below_fewer, below_gap, below_marks, set_rising}

-- what came behind a bound: nothing, or nothing before the next
abbrev Behind : ℕ → List ℕ → Option ℕ → Type 0
Behind bound seen None = (n : ℕ) → is_among n seen ≡ true → n < bound
Behind bound seen (Some next) = (bound ≤ next) × ((n : ℕ) → is_among n seen ≡ true → (n < bound) ⊎ (next ≤ n))

-- a window has what came so far
record IsOver (start width : ℕ) (seen : List ℕ) (window : Marks) : Type 0 where
  pub from : window.start ≡ start
  pub wide : length window.marks ≡ width
  pub each : (place : ℕ) → place < width → slice_index_or window.marks place false ≡ is_among (start + place) seen
  pub behind : Behind (start + width) seen window.next

-- one number more
among_split : (m n : ℕ) (seen : List ℕ) → is_among m (seen ++ n ∷ []) ≡ true → (is_among m seen ≡ true) ⊎ (n ≡ m)
among_split m n seen among = by (either_or (is_among m seen) (nat_eq n m) (sym (among_more m n seen) ∙ among))
  where
    by : (is_among m seen ≡ true) ⊎ (nat_eq n m ≡ true) → (is_among m seen ≡ true) ⊎ (n ≡ m)
    by (inl there) = inl there
    by (inr same) = inr (eqb-true n m same)

among_apart : (m n : ℕ) (seen : List ℕ) → (n ≡ m → ⊥) → is_among m (seen ++ n ∷ []) ≡ is_among m seen
among_apart m n seen apart = among_more m n seen ∙ rw (apart_eq n m apart) (or_false (is_among m seen))
  where
    or_false : (b : Bool) → (b || false) ≡ b
    or_false true = refl
    or_false false = refl

among_last : (n : ℕ) (seen : List ℕ) → is_among n (seen ++ n ∷ []) ≡ true
among_last n seen = among_more n n seen ∙ rw (same_eq n) (or_true (is_among n seen))
  where
    or_true : (b : Bool) → (b || true) ≡ true
    or_true true = refl
    or_true false = refl

behind_below : (bound n : ℕ) (seen : List ℕ) (next : Option ℕ) → n < bound → Behind bound seen next → Behind bound (seen ++ n ∷ []) next
behind_below bound n seen None under behind = λ m among. by m (among_split m n seen among)
  where
    by : (m : ℕ) → (is_among m seen ≡ true) ⊎ (n ≡ m) → m < bound
    by m (inl there) = behind m there
    by m (inr same) = omega (arith, under, same)
behind_below bound n seen (Some next) under behind = (behind.0, λ m among. by m (among_split m n seen among))
  where
    by : (m : ℕ) → (is_among m seen ≡ true) ⊎ (n ≡ m) → (m < bound) ⊎ (next ≤ m)
    by m (inl there) = behind.1 m there
    by m (inr same) = inl (omega (arith, under, same))

behind_above : (bound n : ℕ) (seen : List ℕ) (next : Option ℕ) → bound ≤ n → Behind bound seen next
    → Behind bound (seen ++ n ∷ []) (Some (option_map_or (min n) next n))
behind_above bound n seen None over behind = (over, λ m among. by m (among_split m n seen among))
  where
    by : (m : ℕ) → (is_among m seen ≡ true) ⊎ (n ≡ m) → (m < bound) ⊎ (n ≤ m)
    by m (inl there) = inl (behind m there)
    by m (inr same) = inr (omega (arith, same))
behind_above bound n seen (Some next) over behind = (omega (arith, over, behind.0), λ m among. by m (among_split m n seen among))
  where
    later : (m : ℕ) → (m < bound) ⊎ (next ≤ m) → (m < bound) ⊎ (min n next ≤ m)
    later m (inl under) = inl under
    later m (inr past) = inr (omega (arith, past))

    by : (m : ℕ) → (is_among m seen ≡ true) ⊎ (n ≡ m) → (m < bound) ⊎ (min n next ≤ m)
    by m (inl there) = later m (behind.1 m there)
    by m (inr same) = inr (omega (arith, same))

-- a piece came
over_put : (start width n : ℕ) (seen : List ℕ) (window : Marks) → start ≤ n → IsOver start width seen window
    → IsOver start width (seen ++ n ∷ []) (put n window)
over_put start width n seen window le over = by (nat_lt (n - window.start) (length window.marks)) refl
  where
    from : window.start ≡ start
    from = over.from

    wide : length window.marks ≡ width
    wide = over.wide

    by : (b : Bool) → nat_lt (n - window.start) (length window.marks) ≡ b
        → IsOver start width (seen ++ n ∷ []) (cond b (record window { marks = set window.marks (n - window.start) true })
        (record window { next = Some (option_map_or (min n) window.next n) }))
    by true is =
        let inside : n - window.start < length window.marks = grind (arith, nat_tests) in
        record {
          from = from;
          wide = length-set window.marks (n - window.start) true ∙ wide;
          each = λ place within. at place within inside;
          behind = behind_below (start + width) n seen window.next (omega (arith, inside, from, wide, le)) over.behind;
        }
      where
        at : (place : ℕ) → place < width → n - window.start < length window.marks
            → slice_index_or (set window.marks (n - window.start) true) place false ≡ is_among (start + place) (seen ++ n ∷ [])
        at place within inside = pick (nat_eq place (n - window.start)) refl
          where
            pick : (b : Bool) → nat_eq place (n - window.start) ≡ b
                → slice_index_or (set window.marks (n - window.start) true) place false ≡ is_among (start + place) (seen ++ n ∷ [])
            pick true e =
                let equal : place ≡ n - window.start = eqb-true place (n - window.start) e in
                let same : start + place ≡ n = omega (arith, equal, from, le) in
                rw (same, equal) (get_or-set_same window.marks (n - window.start) true false inside ∙ sym (among_last n seen))
            pick false e =
                let apart : place ≢ n - window.start = eqb-false place (n - window.start) e in
                get_or-set_other window.marks (n - window.start) place true false apart ∙ over.each place within
                ∙ sym (among_apart (start + place) n seen (λ equal. apart (omega (arith, equal, from, le))))
    by false is =
        let past : length window.marks ≤ n - window.start = grind (arith, nat_tests) in
        record {
          from = from;
          wide = wide;
          each = λ place within. over.each place within
              ∙ sym (among_apart (start + place) n seen (λ equal. omega (arith, equal, within, past, from, wide)));
          behind = behind_above (start + width) n seen window.next (omega (arith, past, from, wide, le)) over.behind;
        }

over_taken : (start width : ℕ) (seen : List ℕ) (window : Marks) (piece : PieceNo) → IsOver start width seen window
    → IsOver start width (seen ++ piece.0 ∷ []) (taken window piece)
over_taken start width seen window piece over = by (nat_lt piece.0 window.start) refl
  where
    from : window.start ≡ start
    from = over.from

    by : (b : Bool) → nat_lt piece.0 window.start ≡ b → IsOver start width (seen ++ piece.0 ∷ []) (cond b window (put piece.0 window))
    by true is =
        let under : piece.0 < window.start = grind (arith, nat_tests) in
        record {
          from = from;
          wide = over.wide;
          each = λ place within. over.each place within
              ∙ sym (among_apart (start + place) piece.0 seen (λ equal. omega (arith, equal, under, from)));
          behind = behind_below (start + width) piece.0 seen window.next (omega (arith, under, from)) over.behind;
        }
    by false is = let at : window.start ≤ piece.0 = grind (arith, nat_tests) in over_put start width piece.0 seen window (omega (arith, at, from)) over

over_all : (start width : ℕ) (seen : List ℕ) (window : Marks) (pieces : List PieceNo) → IsOver start width seen window
    → IsOver start width (seen ++ numbers pieces) (taken_all window pieces)
over_all start width seen window [] over = subst (λ (list : List ℕ). IsOver start width list window) (sym (append-nil seen)) over
over_all start width seen window (piece ∷ pieces) over =
    subst (λ (list : List ℕ). IsOver start width list (taken_all (taken window piece) pieces))
    (append_assoc seen (piece.0 ∷ []) (numbers pieces))
    (over_all start width (seen ++ piece.0 ∷ []) (taken window piece) pieces (over_taken start width seen window piece over))

over_blank : (start : ℕ) (window : Marks) → IsBlank start window → IsOver start (length window.marks) [] window
over_blank start window blank = record {
  from = blank.from;
  wide = refl;
  each = λ place within. blank.none place;
  behind = subst (Behind (start + length window.marks) []) (sym blank.next) (λ n among. absurd (cc));
}

-- so it has those of the set from its start on
pub goes_on : (start : ℕ) (window : Marks) (pieces : List PieceNo) → IsBlank start window
    → GoesOn (as_set (numbers pieces)) start (taken_all window pieces)
goes_on start window pieces blank = by (taken_all window pieces).next refl
  where
    over : IsOver start (length window.marks) (numbers pieces) (taken_all window pieces)
    over = over_all start (length window.marks) [] window pieces (over_blank start window blank)

    from : (taken_all window pieces).start ≡ start
    from = over.from

    wide : length (taken_all window pieces).marks ≡ length window.marks
    wide = over.wide

    marks : below (start + length window.marks) (as_set (numbers pieces))
        ≡ below start (as_set (numbers pieces)) ++ listed (taken_all window pieces).start (taken_all window pieces).marks
    marks =
        ap (λ (n : ℕ). below (start + n) (as_set (numbers pieces))) (sym wide)
        ∙ below_marks (taken_all window pieces).marks start (as_set (numbers pieces)) (set_rising (numbers pieces))
        (λ place inside. over.each place (omega (arith, inside, wide)) ∙ sym (among_set (start + place) (numbers pieces)))
        ∙ ap (λ (n : ℕ). below start (as_set (numbers pieces)) ++ listed n (taken_all window pieces).marks) (sym from)

    by : (next : Option ℕ) → (taken_all window pieces).next ≡ next
        → MatchOption next (as_set (numbers pieces)
        ≡ below start (as_set (numbers pieces)) ++ listed (taken_all window pieces).start (taken_all window pieces).marks)
        (λ (n : ℕ). (start < n) × (below n (as_set (numbers pieces))
        ≡ below start (as_set (numbers pieces)) ++ listed (taken_all window pieces).start (taken_all window pieces).marks))
    by None is =
        let behind : Behind (start + length window.marks) (numbers pieces) None =
        subst (Behind (start + length window.marks) (numbers pieces)) is over.behind in
        sym (below_all (start + length window.marks) (as_set (numbers pieces)) (λ n among. behind n (sym (among_set n (numbers pieces)) ∙ among))) ∙ marks
    by (Some n) is =
        let behind : Behind (start + length window.marks) (numbers pieces) (Some n) =
        subst (Behind (start + length window.marks) (numbers pieces)) is over.behind in
        let some : 0 < length window.marks = blank.some in (
          omega (arith, behind.0, some),
          below_gap (start + length window.marks) n (as_set (numbers pieces)) behind.0
              (λ m among. behind.1 m (sym (among_set m (numbers pieces)) ∙ among)) ∙ marks,
        )

-- the two ends of it
pub goes_over : (set : List ℕ) (start : ℕ) (window : Marks) (next : ℕ) → window.next ≡ Some next → GoesOn set start window
    → (start < next) × (below next set ≡ below start set ++ listed window.start window.marks)
goes_over set start window next is goes =
    subst (λ (o : Option ℕ). MatchOption o (set ≡ below start set ++ listed window.start window.marks)
    (λ (n : ℕ). (start < n) × (below n set ≡ below start set ++ listed window.start window.marks))) is goes

pub goes_behind : (set : List ℕ) (start : ℕ) (window : Marks) → window.next ≡ None → GoesOn set start window
    → set ≡ below start set ++ listed window.start window.marks
goes_behind set start window is goes =
    subst (λ (o : Option ℕ). MatchOption o (set ≡ below start set ++ listed window.start window.marks)
    (λ (n : ℕ). (start < n) × (below n set ≡ below start set ++ listed window.start window.marks))) is goes

-- no more than there are
pub goes_within : (set : List ℕ) (start : ℕ) (window : Marks) → GoesOn set start window
    → length (below start set) + length (listed window.start window.marks) ≤ length set
goes_within set start window goes = by window.next goes
  where
    both : length (below start set ++ listed window.start window.marks) ≡ length (below start set) + length (listed window.start window.marks)
    both = length-append (below start set) (listed window.start window.marks)

    by : (next : Option ℕ) → MatchOption next (set ≡ below start set ++ listed window.start window.marks)
        (λ (n : ℕ). (start < n) × (below n set ≡ below start set ++ listed window.start window.marks))
        → length (below start set) + length (listed window.start window.marks) ≤ length set
    by None is = let same : length set ≡ length (below start set ++ listed window.start window.marks) = ap length is in omega (arith, same, both)
    by (Some n) is =
        let same : length (below n set) ≡ length (below start set ++ listed window.start window.marks) = ap length is.1 in
        omega (arith, same, both, below_fewer n set)
