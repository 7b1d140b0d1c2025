-- What is written to a sink through a buffer. Own.
use Rattle.std.specs.Prelude.{ℕ, ◌≡◌, ◌<◌, ◌≤◌, List, ◌++◌, length, take, Option, Result, Ok, Err}
use Rattle.std.specs.Io.KnownBytes.{Appends}
use Rattle.blob_words.specs.declared.fault.Failed.{Failed}
use Rattle.blob_source.specs.Faults.{Rose}
use Rattle.blob_source.specs.declared.sink.Sink.{Ghosts as Sink}

-- a sink and the buffer in front of it: what the sink took, where it tells that, its count of faults, and the bytes in the buffer
pub record Output : Type 0 where
  pub held : Option (List ℕ)
  pub faults : ℕ
  pub ahead : List ℕ

abbrev pub output : Option (List ℕ) → ℕ → List ℕ → Output
output held faults ahead = record { held = held; faults = faults; ahead = ahead }

-- some bytes were put: the sink took a front of what was ahead and of them, and the rest is ahead
pub record Puts (old new : Output) (bytes : List ℕ) : Type 0 where
  pub gone : List ℕ
  pub appended : Appends old.held new.held gone
  pub parts : old.ahead ++ bytes ≡ gone ++ new.ahead
  pub later : old.faults ≤ new.faults

-- the sink failed before it had taken them all
pub record Stops (old new : Output) (bytes : List ℕ) : Type 0 where
  pub gone : List ℕ
  pub missing : List ℕ
  pub appended : Appends old.held new.held gone
  pub parts : old.ahead ++ bytes ≡ gone ++ missing
  pub lacks : 0 < length missing
  pub rose : Rose old.faults new.faults
  pub later : old.faults ≤ new.faults

-- what a call that puts some bytes says by its answer
abbrev pub IsPut : Output → Output → List ℕ → Result (Unit {0}) Failed → Type 0
IsPut old new bytes (Ok done) = Puts old new bytes
IsPut old new bytes (Err failed) = Stops old new bytes

-- what a call that writes a text says by its answer: all of it was appended, or a front that lacks some byte, and the count rose
abbrev pub IsStreamed : Option (List ℕ) → Option (List ℕ) → ℕ → ℕ → List ℕ → Result (Unit {0}) Failed → Type 0
IsStreamed held held' faults faults' text (Ok done) = Appends held held' text × (faults ≤ faults')
IsStreamed held held' faults faults' text (Err failed) = (n : ℕ) × (n < length text) × Appends held held' (take n text) × Rose faults faults'
    × (faults ≤ faults')

-- the same of a call that is given a sink and a buffer: as they were, and as it left them
abbrev pub IsPutTo : {K : Type 0} → Sink K → K → K → List ℕ → List ℕ → List ℕ → Result (Unit {0}) Failed → Type 0
IsPutTo sink out out' ahead ahead' bytes result = IsPut (output (sink.held out) (sink.faults out) ahead) (output (sink.held out') (sink.faults out') ahead')
    bytes result

-- the same of a call that is given the sink alone
abbrev pub IsStreamedTo : {K : Type 0} → Sink K → K → K → List ℕ → Result (Unit {0}) Failed → Type 0
IsStreamedTo sink out out' text result = IsStreamed (sink.held out) (sink.held out') (sink.faults out) (sink.faults out') text result
