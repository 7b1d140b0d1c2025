-- The statuses of a replay. Own.
use Rattle.std.specs.Prelude.{ℕ}
use Rattle.replay_run.specs.declared.session_end.SessionEnd.{SessionEnd}
use Rattle.replay_run.specs.declared.session_end.SessionEnd.TheVariants.{Finished, Refused, NoMemory, SourceFailed, SinkFailed, Stopped}

-- 0 to 6; 1 is no status of a replay, but of other words
abbrev pub code_of : SessionEnd → ℕ
code_of Finished = 0
code_of (Refused number reason) = 2
code_of NoMemory = 3
code_of SourceFailed = 4
code_of SinkFailed = 5
code_of Stopped = 6
