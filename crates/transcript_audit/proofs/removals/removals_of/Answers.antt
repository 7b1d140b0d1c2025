-- One page file more is due, or isn't.
use Rattle.std.proofs.Common.{ℕ, ◌++◌, Bool, List, [], ◌∷◌, sym, ap, ◌∙◌, arith}
use Rattle.answer_text.specs.declared.answer.Answer.{Answer}
use Rattle.blob_model.specs.Pages.{Page}
use Rattle.blob_model.specs.Settle.{removal}
use Rattle.transcript_audit.specs.Owed.{is_due_in}
use Rattle.transcript_audit.proofs.Turned.{chosen_yes, chosen_no}
use Rattle.transcript_audit.proofs.removals.removals_of.Goals as goal
use Rattle.transcript_audit.proofs.removals.removals_of.Goals.{then-is_due+in_ok-push, else-is_due}

pub loop-page-preserved : goal.loop-page-preserved
loop-page-preserved c =
    let items : List Page = c.args.pages.now in
    let page : Page = c.page-item.result in
    let k : ℕ = c.loop-page.page-index in
    let told : Page → Answer = removal c.args.unremoved.now in
    let test : Page → Bool = is_due_in c.args.held.now c.args.asked.now in
    elim c.if-is_due.branch [
      | then-is_due+in_ok-push w ↦
          w.found-is
          ∙ w.in_ok-push.ensures.ok
          ∙ ap (λ (one : Answer). c.loop-page.found ++ one ∷ []) w.removal.ensures
          ∙ ap (λ (front : List Answer). front ++ told page ∷ []) c.loop-page.invariant
          ∙ sym (chosen_yes told test items k page (omega arith) c.page-item.is (sym c.is_due.ensures ∙ w.if-is_due.true))
      | else-is_due w ↦
          w.found-is ∙ c.loop-page.invariant ∙ sym (chosen_no told test items k page (omega arith) c.page-item.is (sym c.is_due.ensures ∙ w.if-is_due.false))
    ]
