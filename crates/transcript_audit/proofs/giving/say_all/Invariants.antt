use Rattle.std.proofs.Common.{take}
use Rattle.blob_model.specs.Session.{Session}
use Rattle.blob_model.specs.History.{History, said_all}
use Rattle.history_notions.specs.FollowsCourse.{FollowsCourse}
use Rattle.transcript_audit.proofs.giving.say_all.Given as goal

abbrev pub invariant-loop-answer : goal.invariant-loop-answer
invariant-loop-answer l = (s : Session) (h : History) → FollowsCourse s h l.initial.course → FollowsCourse s (said_all h (take l.answer-index l.answers))
    l.course
