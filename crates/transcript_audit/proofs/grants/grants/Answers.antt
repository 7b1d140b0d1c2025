-- One more is granted, or the pass ends.
use Rattle.std.proofs.Common.{◌≡◌, ℕ, ◌+◌, ◌++◌, true, false, List, ◌∷◌, drop, sym, ap, subst, ◌∙◌, arith}
use Rattle.std.specs.Prelude.{nat_le}
use Rattle.std.proofs.lemmas.List.{drop_more}
use Rattle.answer_text.specs.declared.answer.Answer.{Answer}
use Rattle.answer_text.specs.declared.answer.Answer.TheVariants as answers
use Rattle.blob_model.specs.History.{said, said_all}
use Rattle.blob_model.specs.Tally.{memory}
use Rattle.blob_model.specs.Waits.{waits}
use Rattle.blob_model.specs.Settle.{grants}
use Rattle.blob_model.specs.Session.{page_limit}
use Rattle.history_notions.specs.FollowsCourse.{FollowsCourse}
use Rattle.transcript_audit.specs.Owed.{grants_to}
use Rattle.transcript_audit.proofs.Passes.{granting_start, granting_step, granting_stop, granting_end, grants_alike}
use Rattle.transcript_audit.proofs.grants.grants.Goals as goal

pub loop-name-init : goal.loop-name-init
loop-name-init c = λ s h follows. (h, granting_start s h c.args.course.now c.as_slice-name-items.result.now c.args.owed.now follows)

pub loop-name-preserved : goal.loop-name-preserved
loop-name-preserved c = λ s h follows.
    let far = c.loop-name.invariant s h follows in
    let items : List (ℕ × ℕ) = c.as_slice-name-items.result.now in
    let i : ℕ = c.loop-name.name-index in
    let one : ℕ × ℕ = c.loop-name-item.result in
    let split : drop i items ≡ one ∷ drop (i + 1) items =
    drop_more items i one (omega arith) ∙ ap (λ (each : ℕ × ℕ). each ∷ drop (i + 1) items) (sym c.loop-name-item.is) in
    let fits : nat_le (memory (page_limit s) far.0 + one.1) s.limits.memory ≡ true =
    sym (c.in_ok-fits.ensures s far.0 far.1.follows.follows) ∙ c.if-not-fits.false in (
      said far.0 (answers.Granted one.0),
      granting_step s h far.0 c.loop-name.course c.grant.new.course items i c.args.owed.now c.loop-name.owed c.grant.new.owed one far.1 split fits
          (c.in_ok-grant.ensures.follows s far.0 far.1.follows) c.in_ok-grant.ensures.owed,
    )

pub returns-then-not-fits : goal.returns-then-not-fits
returns-then-not-fits c = λ s h follows.
    let far = c.loop-name.invariant s h follows in
    let items : List (ℕ × ℕ) = c.as_slice-name-items.result.now in
    let i : ℕ = c.loop-name.name-index in
    let one : ℕ × ℕ = c.loop-name-item.result in
    let split : drop i items ≡ one ∷ drop (i + 1) items =
    drop_more items i one (omega arith) ∙ ap (λ (each : ℕ × ℕ). each ∷ drop (i + 1) items) (sym c.loop-name-item.is) in
    let heads : grants_to s h items ≡ grants s h =
    ap (grants_to s h) (c.as_slice-name-items.ensures ∙ c.in_ok-waiting.ensures s h follows.follows) ∙ grants_alike s h (waits (page_limit s) h) in
    let waits : nat_le (memory (page_limit s) far.0 + one.1) s.limits.memory ≡ false =
    sym (c.in_ok-fits.ensures s far.0 far.1.follows.follows) ∙ c.if-not-fits.true in
    let ended = granting_stop s h far.0 c.loop-name.course items i c.args.owed.now c.loop-name.owed one far.1 split waits in (
      ended.0 ∙ ap (λ (list : List Answer). c.args.owed.now ++ list) heads,
      subst (λ (list : List Answer). FollowsCourse s (said_all h list) c.loop-name.course) heads ended.1,
    )

pub returns : goal.returns
returns c = λ s h follows.
    let far = c.loop-name.invariant s h follows in
    let items : List (ℕ × ℕ) = c.as_slice-name-items.result.now in
    let i : ℕ = c.loop-name.name-index in
    let heads : grants_to s h items ≡ grants s h =
    ap (grants_to s h) (c.as_slice-name-items.ensures ∙ c.in_ok-waiting.ensures s h follows.follows) ∙ grants_alike s h (waits (page_limit s) h) in
    let ended = granting_end s h far.0 c.loop-name.course items i c.args.owed.now c.loop-name.owed c.loop-name-test.false far.1 in (
      ended.0 ∙ ap (λ (list : List Answer). c.args.owed.now ++ list) heads,
      subst (λ (list : List Answer). FollowsCourse s (said_all h list) c.loop-name.course) heads ended.1,
    )
