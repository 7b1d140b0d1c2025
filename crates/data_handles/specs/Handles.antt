-- What an object of the outside that holds bytes is seen as. Own.
use Rattle.std.specs.Prelude.{ℕ, List, length, Option, Some}

-- its size in bytes, the bytes where it tells them, and how many of its reads failed, as far as a 64-bit number counts
pub record Handle : Type 0 where
  pub size : ℕ
  pub told : Option (List ℕ)
  pub faults : ℕ

-- the same object with another count
abbrev pub with_faults : Handle → ℕ → Handle
with_faults handle faults = record handle { faults = faults }

-- an object over memory: its bytes, the reads that are to fail, and how many reads came and failed
pub record Held : Type 0 where
  pub bytes : List ℕ
  pub failing : List ℕ
  pub calls : ℕ
  pub faults : ℕ

-- what it is seen as by every reader
abbrev pub handle_of : Held → Handle
handle_of held = record { size = length held.bytes; told = Some held.bytes; faults = held.faults }
