-- One group more is taken.
use Rattle.std.proofs.Common.{◌≡◌, ℕ, ◌+◌, List, [], ◌∷◌, ◌++◌, take, sym, ap, subst, ◌∙◌, arith}
use Rattle.std.proofs.lemmas.List.{take_more}
use Rattle.answer_text.specs.declared.group.Group.{Group}
use Rattle.blob_model.specs.History.{History, after, history_from}
use Rattle.transcript_audit.specs.Runs.{FollowsRun}
use Rattle.transcript_audit.proofs.Verdicts.{history_more}
use Rattle.transcript_audit.proofs.run.take_all.Goals as goal

pub loop-group-preserved : goal.loop-group-preserved
loop-group-preserved c = λ s h follows.
    let list : List Group = c.args.groups.now in
    let i : ℕ = c.loop-group.group-index in
    let one : Group = c.group-item.result in
    let more : after (history_from h (take i list)) one.event one.answers ≡ history_from h (take (i + 1) list) =
    sym (ap (history_from h) (take_more list i one (omega arith) ∙ ap (λ (each : Group). take i list ++ each ∷ []) (sym c.group-item.is)) ∙ history_more h
    (take i list) one) in
    subst (λ (k : History). FollowsRun s k c.take.new.self) more (c.in_ok-take.ensures s (history_from h (take i list)) (c.loop-group.invariant s h follows))
