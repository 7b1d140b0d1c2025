-- Nothing is dropped, or what lives no more.
use Rattle.std.proofs.Common.{◌≡◌, List, [], ◌++◌, sym, ap, subst, ◌∙◌}
use Rattle.answer_text.specs.declared.answer.Answer.{Answer}
use Rattle.blob_model.specs.History.{said_all}
use Rattle.blob_model.specs.Settle.{drops}
use Rattle.history_notions.specs.FollowsCourse.{FollowsCourse}
use Rattle.transcript_audit.proofs.Idle.{no_items}
use Rattle.transcript_audit.proofs.settling.put_orphans.Goals as goal

pub returns-then-len-eq0 : goal.returns-then-len-eq0
returns-then-len-eq0 c = λ s h follows idle.
    let owed : List Answer = c.args.owed.now in
    let empty : owed ≡ [] = no_items owed (sym c.len.ensures ∙ c.if-len-eq0.true) in
    let none : drops s h ≡ [] = idle empty in (
      empty ∙ sym (ap (λ (list : List Answer). list ++ drops s h) empty ∙ none),
      subst (λ (list : List Answer). FollowsCourse s (said_all h list) c.args.course.now) (sym none) follows,
    )

pub returns : goal.returns
returns c = λ s h follows idle.
    let told : c.in_ok-orphans.orphans ≡ drops s h = c.in_ok-orphans.ensures s h follows.follows in (
      c.in_ok-give_all.ensures.owed ∙ ap (λ (list : List Answer). c.args.owed.now ++ list) told,
      subst (λ (list : List Answer). FollowsCourse s (said_all h list) c.give_all.new.course) told (c.in_ok-give_all.ensures.follows s h follows),
    )
