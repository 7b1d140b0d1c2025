-- Ranges of pages, and bytes of items from a place on.
use Rattle.std.proofs.Common.{ℕ, ◌+◌, ◌≤◌, List, length, Option, Some, None, arith}
use Rattle.std.specs.Prelude.{IfSome, IsSomeAnd}
use Rattle.page_disk.specs.declared.change.Change.{Change}
use Rattle.page_disk.specs.Changes.{last_put, HasRange}

inside_put : (put : Option (List ℕ)) (off len place count : ℕ) → place + count ≤ len → IsSomeAnd put (λ bytes. off + len ≤ length bytes)
    → IsSomeAnd put (λ bytes. off + place + count ≤ length bytes)
inside_put None off len place count within is = absurd is
inside_put (Some bytes) off len place count within is = omega (arith, within, is)

-- a part of a range of a page
pub part_of_range : (told : Option (List Change)) (page off len place count : ℕ) → place + count ≤ len → IfSome told (HasRange page off len)
    → IfSome told (HasRange page (off + place) count)
part_of_range None page off len place count within has = tt
part_of_range (Some changes) page off len place count within has = (inside_put (last_put page changes) off len place count within has.0, has.1)
