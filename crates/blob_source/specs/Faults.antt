-- How an object of the outside counts its failed calls. Own.
use Rattle.std.specs.Prelude.{ℕ, ◌≡◌, ◌+◌, ◌-◌, ◌^◌, ◌<◌, ◌≤◌, ◌⊎◌, min}

-- the count rose in a call: it is greater, or at the greatest that a 64-bit number holds
abbrev pub Rose : ℕ → ℕ → Type 0
Rose old new = (old < new) ⊎ (new ≡ 2 ^ 64 - 1)

-- a count rose by at least so many, or stands at the greatest that a 64-bit number holds
abbrev pub RoseBy : ℕ → ℕ → ℕ → Type 0
RoseBy faults old new = (old + faults ≤ new) ⊎ (2 ^ 64 - 1 ≤ new)

-- the count after one more, in 64 bits
abbrev pub next_count : ℕ → ℕ
next_count count = min (count + 1) (2 ^ 64 - 1)
