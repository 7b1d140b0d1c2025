-- What is fixed for a session: its limits and version, and the objects of the outside. Own.
use Rattle.std.specs.Prelude.{◌≡◌, ℕ, Bool, List, length, Option, IfSome}
use Rattle.blob_words.specs.declared.limits.Limits.{Limits}
use Rattle.blob_words.specs.declared.version.Version.{Version}

-- a data handle as it is lent: its size, and its bytes where it tells them, as many as its size
pub record Slot : Type 0 where
  pub size : ℕ
  pub bytes : Option (List ℕ)
  pub told_whole : IfSome bytes (λ (told : List ℕ). length told ≡ size)

-- the outside as the first line finds it: the data handles, slot by slot, and whether the page disk tells what changes on it
pub record Outside : Type 0 where
  pub slots : List Slot
  pub disk_tells : Bool

-- a session: what its first line states, and the outside
pub record Session : Type 0 where
  pub limits : Limits
  pub version : Version
  pub outside : Outside

-- the most bytes of a piece
abbrev pub page_limit : Session → ℕ
page_limit s = s.limits.page
