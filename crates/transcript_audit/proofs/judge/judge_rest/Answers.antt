-- What is owed and the tally decide.
use Rattle.std.proofs.Common.{◌≡◌, ℕ, ◌≤◌, false, List, length, take, drop, sym, ap, subst, ◌∙◌, arith}
use Rattle.session_script.specs.declared.event.Event.{Event}
use Rattle.answer_text.specs.declared.answer.Answer.{Answer}
use Rattle.blob_model.specs.History.{History, said_all, after}
use Rattle.blob_model.specs.Session.{page_limit}
use Rattle.blob_model.specs.Tally.{tally}
use Rattle.blob_model.specs.Refusals.{refusal}
use Rattle.blob_model.specs.Settle.{settle}
use Rattle.blob_model.specs.Legal.{left_files}
use Rattle.blob_model.proofs.Lists.{false_true}
use Rattle.history_notions.specs.FollowsCourse.{FollowsCourse}
use Rattle.transcript_audit.specs.Tests.{same_answers}
use Rattle.transcript_audit.proofs.OwnFronts.{own_some}
use Rattle.transcript_audit.proofs.Judging.{other_owed, legal_where, whole_after, judged_by, same-sound, same-whole, tally-sound, tally-whole}
use Rattle.transcript_audit.proofs.judge.judge_rest.Goals as goal

pub returns-then-count-answers : goal.returns-then-count-answers
returns-then-count-answers c = λ s h follows going found legal.
    omega (arith, found.0, c.if-count-answers.true, ap (length {A = Answer}) c.as_slice-answers.ensures)

pub returns-then-not-are_same : goal.returns-then-not-are_same
returns-then-not-are_same c = λ s h follows going found.
    let group = c.args.group.now in
    let event : Event = group.event in
    let list : List Answer = group.answers in
    let n : ℕ = c.args.count in
    let told : c.as_slice-answers.result.now ≡ list = c.as_slice-answers.ensures in
    let k : History = after h event (take n list) in
    let f1 : FollowsCourse s k c.take_line.new.course =
    subst (λ (own : List Answer). FollowsCourse s (after h event own) c.take_line.new.course) (c.front.ensures
    ∙ ap (take n) told) (c.in_ok-take_line.ensures s h follows) in
    let e = c.in_ok-owed.ensures s k f1 in
    let owed_is : c.in_ok-owed.owed ≡ settle s (left_files list) k =
    e.0 ∙ ap (λ (files : List ℕ). settle s files k) (c.as_slice.ensures ∙ c.in_ok-unremoved.ensures ∙ ap left_files told) in
    let differ : same_answers c.rest.result.now c.as_slice-2.result.now ≡ false = sym c.are_same.ensures ∙ c.if-not-are_same.true in
    other_owed s h group n c.in_ok-owed.owed found owed_is
    (λ same. false_true (sym differ ∙ same-whole c.rest.result.now c.as_slice-2.result.now (c.rest.ensures ∙ ap (drop n) told ∙ same
    ∙ sym c.as_slice-2.ensures)))

pub returns : goal.returns
returns c = λ s h follows going found.
    let group = c.args.group.now in
    let event : Event = group.event in
    let list : List Answer = group.answers in
    let n : ℕ = c.args.count in
    let owed : List Answer = c.in_ok-owed.owed in
    let told : c.as_slice-answers.result.now ≡ list = c.as_slice-answers.ensures in
    let k : History = after h event (take n list) in
    let f1 : FollowsCourse s k c.take_line.new.course =
    subst (λ (own : List Answer). FollowsCourse s (after h event own) c.take_line.new.course) (c.front.ensures
    ∙ ap (take n) told) (c.in_ok-take_line.ensures s h follows) in
    let e = c.in_ok-owed.ensures s k f1 in
    let owed_is : owed ≡ settle s (left_files list) k =
    e.0 ∙ ap (λ (files : List ℕ). settle s files k) (c.as_slice.ensures ∙ c.in_ok-unremoved.ensures ∙ ap left_files told) in
    let behind : drop n list ≡ owed =
    sym (c.rest.ensures ∙ ap (drop n) told)
    ∙ same-sound c.rest.result.now c.as_slice-2.result.now (sym c.are_same.ensures ∙ c.if-not-are_same.false)
    ∙ c.as_slice-2.ensures in
    let least = own_some s h event (refusal s h event) in
    let some : 1 ≤ n = omega (arith, least, found.1) in
    let whole : after h event list ≡ said_all k owed = whole_after h event list owed n some found.0 behind in
    let f2 : FollowsCourse s (after h event list) c.settle.new.course =
    subst (λ (each : History). FollowsCourse s each c.settle.new.course) (sym whole) e.1 in
    let counted : c.in_ok-tally.tally ≡ tally (page_limit s) (after h event list) = c.in_ok-tally.ensures s (after h event list) f2.follows in
    judged_by s h group c.settle.new.course c.is_tally.result
    (λ e. legal_where s h group n owed going found owed_is behind (tally-sound group.tally c.in_ok-tally.tally (sym c.is_tally.ensures ∙ e) ∙ counted))
    f2
    (λ legal. c.is_tally.ensures ∙ tally-whole group.tally c.in_ok-tally.tally (legal.counts ∙ sym counted))
