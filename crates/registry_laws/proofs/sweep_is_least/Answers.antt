-- By the law of the registry, for the numbers that pass a test.
use Rattle.std.proofs.Common.{◌≡◌, ℕ, true, sym, subst, zero-add}
use Rattle.blob_entries.specs.Book.{entry_at}
use Rattle.blob_entries.specs.Sources.{needs}
use Rattle.blob_registry.proofs.Least.{least}
use Rattle.registry_laws.proofs.sweep_is_least.Goals as goal

pub returns : goal.returns
returns c names entries has rooted sources number entry left =
    subst (λ (n : ℕ). has n ≡ true) (zero-add number)
    (least names (λ (n : ℕ). has n ≡ true) entries 0 (λ k root. subst (λ (n : ℕ). has n ≡ true) (sym (zero-add k)) (rooted k root))
    (λ k other need stands. subst (λ (n : ℕ). has n ≡ true) (sym (zero-add k))
    (sources k other (subst (λ (n : ℕ). needs names n (entry_at entries other) ≡ true) (zero-add k) need)
    (subst (λ (n : ℕ). has n ≡ true) (zero-add other) stands)))
    number entry left)
