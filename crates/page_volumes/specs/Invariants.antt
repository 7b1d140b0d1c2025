-- What a group keeps among what it notes, whatever its volumes do. Own.
use Rattle.std.specs.Prelude.{ℕ, ◌≡◌, ◌<◌, true, length, Some, None, IfSome, IsSome}
use Rattle.page_disk.specs.Changes.{last_put, IsNew, Stands}
use Rattle.page_volumes.specs.Group.{are_apart, home_of, place_of, takes_writes, Group, IsHeldRight, Log}

-- where changes are told: a page that stands is filed, a torn file that was removed has no bytes, and the page that is written is new
pub record KeepsLog (group : Group) (log : Log) : Type 0 where
  pub known : (page : ℕ) → Stands page log.changes → IsSome (home_of page group.files)
  pub gone : (page : ℕ) → home_of page group.files ≡ Some None → last_put page log.changes ≡ None
  pub fresh : IfSome group.write (λ write. IsNew write.page.0 log.changes)

-- a volume takes writes, each is held where it is to be, each file is on one of them, no page is filed twice, and the page that is written isn't filed
pub record Keeps (group : Group) : Type 0 where
  pub writes : takes_writes group.slots ≡ true
  pub held : IsHeldRight group
  pub homes : (page : ℕ) → IfSome (place_of page group.files) (λ k. k < length group.slots)
  pub apart : are_apart group.files ≡ true
  pub unfiled : IfSome group.write (λ write. home_of write.page.0 group.files ≡ None)
  pub log : IfSome group.log (KeepsLog group)
