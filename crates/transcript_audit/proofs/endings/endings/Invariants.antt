use Rattle.blob_model.specs.Session.{Session}
use Rattle.blob_model.specs.History.{History}
use Rattle.history_notions.specs.FollowsCourse.{FollowsCourse}
use Rattle.transcript_audit.proofs.Passes.{IsEnding}
use Rattle.transcript_audit.proofs.endings.endings.Given as goal

abbrev pub invariant-loop-place : goal.invariant-loop-place
invariant-loop-place l =
    (s : Session) (h : History) → FollowsCourse s h l.initial.course → (k : History) × IsEnding s h k l.course l.place l.initial.owed l.owed
