-- A limit on bytes, and who waits for room under it. Own.
use Rattle.std.specs.Prelude.{ℕ, Bool, List, nat_eq, not}
use Rattle.std.specs.List.{filter, list_any}

-- the bytes charged, how many may be, and the names that wait for so many bytes, first come first
pub record Queue : Type 0 where
  pub used : ℕ
  pub limit : ℕ
  pub waiting : List (ℕ × ℕ)

-- whether a name waits
abbrev pub is_waiting : ℕ → List (ℕ × ℕ) → Bool
is_waiting name waiting = list_any (λ blob. nat_eq name blob.0) waiting

-- the others that wait, in their order
abbrev pub without : ℕ → List (ℕ × ℕ) → List (ℕ × ℕ)
without name waiting = filter (λ blob. not (nat_eq name blob.0)) waiting
