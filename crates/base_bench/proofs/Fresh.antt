-- A number behind all others leaves those behind it fresh.
use Rattle.std.proofs.Common.{◌≡◌, ℕ, ◌+◌, ◌≤◌, false, List, [], ◌∷◌, ◌++◌, nat_eq, refl, ◌∙◌, arith}
use Rattle.std.proofs.lemmas.Bool.Decides.{nat_tests}
use Rattle.std.proofs.lemmas.List.Folds.{list_any-append}
use Rattle.base_bench.specs.Bench.{IsFresh}

another : (number from : ℕ) → from + 1 ≤ number → nat_eq number from ≡ false
another number from past = grind (arith, nat_tests)

pub fresh_more : (from len : ℕ) (entries : List (ℕ × ℕ)) → IsFresh from entries → IsFresh (from + 1) (entries ++ (from, len) ∷ [])
fresh_more from len entries fresh number past =
    list_any-append (λ (entry : ℕ × ℕ). nat_eq number entry.0) entries ((from, len) ∷ [])
    ∙ rw (fresh number (omega (arith, past)), another number from past) refl
