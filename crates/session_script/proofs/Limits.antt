-- Limits are no numbers that are refused.
use Rattle.std.proofs.Common.{◌≡◌, ℕ, ◌<◌, ◌≤◌, ◌^◌, List, [], ◌∷◌, None, IsSome, map, decimal, refl, sym, ap, ◌∙◌, subst, arith}
use Rattle.std.specs.List.{AllByRecursion}
use Rattle.std.proofs.lemmas.Bool.{ne_eqb, le-ltb}
use Rattle.std.proofs.Math.Bridge.{le_prop}
use Rattle.std.proofs.lemmas.Fmt.{decimal_injective}
use Rattle.blob_words.specs.Limits.{limit_fault}
use Rattle.blob_words.specs.declared.limits.Limits.{Limits}
use Rattle.session_script.specs.Fault.{AreNoLimits}
use Rattle.session_script.specs.Line.{limit_numbers}

-- limits have no fault
limits_fit : (l : Limits) → limit_fault l.memory l.disk l.big l.inline_max l.segment l.page l.chunk ≡ None
limits_fit l =
    simp (
      ne_eqb l.memory 0 (λ e. omega (arith, e, l.some_memory)),
      ne_eqb l.big 0 (λ e. omega (arith, e, l.some_big)),
      ne_eqb l.segment 0 (λ e. omega (arith, e, l.some_segment)),
      ne_eqb l.page 0 (λ e. omega (arith, e, l.some_page)),
      ne_eqb l.chunk 0 (λ e. omega (arith, e, l.some_chunk)),
      le-ltb (2 ^ 30) l.memory l.memory_bound,
      le-ltb (2 ^ 40) l.disk l.disk_bound,
      le-ltb (2 ^ 18) l.inline_max l.inline_bound,
      le-ltb (2 ^ 18) l.segment l.segment_bound,
      le-ltb (2 ^ 18) l.page l.page_bound,
      le-ltb (2 ^ 16) l.chunk l.chunk_bound,
      le-ltb l.memory l.big l.big_bound,
      le-ltb l.memory l.page l.page_fits,
    )

below : (n most : ℕ) → n ≤ most → most < 2 ^ 64 → n < 2 ^ 64
below n most low fits = omega arith

-- limits fit their type
pub limits_small : (l : Limits) → AllByRecursion (λ n. n < 2 ^ 64) (limit_numbers l)
limits_small l = (
  below l.memory _ l.memory_bound (omega arith),
  (
    below l.disk _ l.disk_bound (omega arith),
    (
      below l.big _ l.big_bound (below l.memory _ l.memory_bound (omega arith)),
      (
        below l.inline_max _ l.inline_bound (omega arith),
        (
          below l.segment _ l.segment_bound (omega arith),
          (
            below l.page _ l.page_bound (omega arith),
            (below l.chunk _ l.chunk_bound (omega arith), tt),
          ),
        ),
      ),
    ),
  ),
)

-- numbers with the same digits are the same
pub decimals_injective : (xs ys : List ℕ) → AllByRecursion (λ n. n < 2 ^ 64) xs → AllByRecursion (λ n. n < 2 ^ 64) ys → map decimal xs ≡ map decimal ys → xs
    ≡ ys
decimals_injective [] [] small less same = refl
decimals_injective [] (y ∷ ys) small less same = cc same
decimals_injective (x ∷ xs) [] small less same = cc same
decimals_injective (x ∷ xs) (y ∷ ys) small less same =
    let first : x ≡ y = decimal_injective x y small.0 less.0 (cc same) in
    let rest : xs ≡ ys = decimals_injective xs ys small.1 less.1 (cc same) in
    cc (first, rest)

-- the numbers of limits are not refused
pub limits_taken : (l : Limits) (numbers : List ℕ) → AllByRecursion (λ n. n < 2 ^ 64) numbers → map decimal (limit_numbers l) ≡ map decimal numbers
    → AreNoLimits numbers → ⊥
limits_taken l numbers small same wrong =
    let of_l : AreNoLimits (limit_numbers l) = subst AreNoLimits (sym (decimals_injective (limit_numbers l) numbers (limits_small l) small same)) wrong in
    absurd (cc (subst IsSome (limits_fit l) of_l))

-- what is true of the numbers of limits
abbrev AreFit : List ℕ → Type 0
AreFit (memory ∷ disk ∷ big ∷ inline_max ∷ segment ∷ page ∷ chunk ∷ []) =
    (0 < memory) × (memory ≤ 2 ^ 30) × (disk ≤ 2 ^ 40) × (0 < big) × (big ≤ memory) × (inline_max ≤ 2 ^ 18) × (0 < segment) × (segment ≤ 2 ^ 18)
    × (0 < page) × (page ≤ 2 ^ 18) × (page ≤ memory) × (0 < chunk) × (chunk ≤ 2 ^ 16)
AreFit numbers = ⊥

fit_once : (numbers : List ℕ) → IsProp (AreFit numbers)
fit_once (memory ∷ disk ∷ big ∷ inline_max ∷ segment ∷ page ∷ chunk ∷ []) = hlevel (le_prop)
fit_once numbers = λ x y. absurd x

made : (numbers : List ℕ) → AreFit numbers → Limits
made (memory ∷ disk ∷ big ∷ inline_max ∷ segment ∷ page ∷ chunk ∷ []) fit = record {
  memory = memory;
  disk = disk;
  big = big;
  inline_max = inline_max;
  segment = segment;
  page = page;
  chunk = chunk;
  some_memory = fit.0;
  memory_bound = fit.1;
  disk_bound = fit.2;
  some_big = fit.3;
  big_bound = fit.4;
  inline_bound = fit.5;
  some_segment = fit.6;
  segment_bound = fit.7;
  some_page = fit.8;
  page_bound = fit.9;
  page_fits = fit.10;
  some_chunk = fit.11;
  chunk_bound = fit.12;
}
made numbers fit = absurd fit

fit_of : (l : Limits) → AreFit (limit_numbers l)
fit_of l = (
  l.some_memory,
  l.memory_bound,
  l.disk_bound,
  l.some_big,
  l.big_bound,
  l.inline_bound,
  l.some_segment,
  l.segment_bound,
  l.some_page,
  l.page_bound,
  l.page_fits,
  l.some_chunk,
  l.chunk_bound,
)

same_made : (xs ys : List ℕ) → xs ≡ ys → (f : AreFit xs) (g : AreFit ys) → made xs f ≡ made ys g
same_made xs ys same f g = subst (λ (zs : List ℕ). (h : AreFit zs) → made xs f ≡ made zs h) same (λ h. ap (made xs) (fit_once xs f h)) g

made_of : (l : Limits) → made (limit_numbers l) (fit_of l) ≡ l
unfolding made fit_of
made_of l = refl

-- limits with the same numbers are the same
pub same_limits : (l m : Limits) → limit_numbers l ≡ limit_numbers m → l ≡ m
same_limits l m same = sym (made_of l) ∙ same_made (limit_numbers l) (limit_numbers m) same (fit_of l) (fit_of m) ∙ made_of m
