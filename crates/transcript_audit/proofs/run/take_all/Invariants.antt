use Rattle.std.proofs.Common.{take}
use Rattle.blob_model.specs.Session.{Session}
use Rattle.blob_model.specs.History.{History, history_from}
use Rattle.transcript_audit.specs.Runs.{FollowsRun}
use Rattle.transcript_audit.proofs.run.take_all.Given as goal

abbrev pub invariant-loop-group : goal.invariant-loop-group
invariant-loop-group l = (s : Session) (h : History) → FollowsRun s h l.initial.run → FollowsRun s (history_from h (take l.group-index l.groups)) l.run
