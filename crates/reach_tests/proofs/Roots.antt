-- What is told of the roots of an entry.
use Rattle.std.proofs.Common.{ℕ, ◌≡◌, Option, None, Some}
use Rattle.std.specs.Prelude.{IsSomeAnd}
use Rattle.std.specs.Option.{option_map}
use Rattle.blob_entries.specs.declared.entry.Entry.{Entry}

pub roots_as : (held : Option Entry) (roots : ℕ) → Some roots ≡ option_map (λ (entry : Entry). entry.roots) held
    → IsSomeAnd held (λ (entry : Entry). entry.roots ≡ roots)
roots_as None roots is = absurd (cc)
roots_as (Some entry) roots is = cc

pub some_then : (held : Option Entry) (P Q : Entry → Type 0) → ((entry : Entry) → P entry → Q entry) → IsSomeAnd held P → IsSomeAnd held Q
some_then None P Q then some = absurd some
some_then (Some entry) P Q then some = then entry some
