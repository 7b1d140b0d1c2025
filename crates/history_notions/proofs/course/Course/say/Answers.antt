-- The contents take the answer, and a blob that gets done uses its pieces.
use Rattle.std.proofs.Common.{◌≡◌, ℕ, List, refl, ap, ◌∙◌}
use Rattle.answer_text.specs.declared.answer.Answer.{Answer}
use Rattle.answer_text.specs.declared.answer.Answer.TheVariants as answers
use Rattle.blob_model.specs.History.{History}
use Rattle.blob_model.specs.Pieces.{Piece, pieces}
use Rattle.blob_model.specs.Victims.{used_by_answer}
use Rattle.blob_model.specs.Session.{page_limit}
use Rattle.history_notions.specs.Uses.{use_done}
use Rattle.history_notions.proofs.course.Course.say.Goals as goal

done_same : (page : ℕ) (h : History) (answer : Answer) (before : List ℕ) → use_done (pieces page h) answer before ≡ used_by_answer page h answer before
done_same page h (answers.Done b) before = refl
done_same page h answer before = refl

pub returns : goal.returns
returns c = λ s h follows. record {
  follows = c.in_ok-say.ensures s h follows.follows;
  uses_are = c.in_ok-use_done.ensures
      ∙ ap (λ (list : List Piece). use_done list c.args.answer.now c.args.self.now.uses.items) (c.as_slice.ensures ∙ follows.follows.pieces_are)
      ∙ done_same (page_limit s) h c.args.answer.now c.args.self.now.uses.items
      ∙ ap (used_by_answer (page_limit s) h c.args.answer.now) follows.uses_are;
}
