use Rattle.blob_model.specs.Session.{Session}
use Rattle.blob_model.specs.History.{History}
use Rattle.history_notions.specs.FollowsCourse.{FollowsCourse}
use Rattle.transcript_audit.proofs.Passes.{IsGranting}
use Rattle.transcript_audit.proofs.grants.grants.Given as goal

abbrev pub invariant-loop-name : goal.invariant-loop-name
invariant-loop-name l =
    (s : Session) (h : History) → FollowsCourse s h l.initial.course → (k : History) × IsGranting s h k l.course l.name-items l.name-index l.initial.owed l.owed
