-- One answer more is given.
use Rattle.std.proofs.Common.{◌≡◌, ℕ, ◌+◌, List, [], ◌∷◌, ◌++◌, take, sym, ap, subst, ◌∙◌, arith}
use Rattle.std.proofs.lemmas.List.{take_more}
use Rattle.answer_text.specs.declared.answer.Answer.{Answer}
use Rattle.blob_model.specs.History.{History, said, said_all}
use Rattle.history_notions.specs.FollowsCourse.{FollowsCourse}
use Rattle.transcript_audit.proofs.Passes.{said_more}
use Rattle.transcript_audit.proofs.giving.say_all.Goals as goal

pub loop-answer-preserved : goal.loop-answer-preserved
loop-answer-preserved c = λ s h follows.
    let list : List Answer = c.args.answers.now in
    let i : ℕ = c.loop-answer.answer-index in
    let one : Answer = c.answer-item.result in
    let more : said (said_all h (take i list)) one ≡ said_all h (take (i + 1) list) =
    sym (ap (said_all h) (take_more list i one (omega arith) ∙ ap (λ (each : Answer). take i list ++ each ∷ []) (sym c.answer-item.is)) ∙ said_more h
    (take i list) one) in
    subst (λ (k : History). FollowsCourse s k c.say.new.self) more (c.in_ok-say.ensures s (said_all h (take i list)) (c.loop-answer.invariant s h follows))
