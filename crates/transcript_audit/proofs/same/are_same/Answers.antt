-- Lists of other lengths differ.
use Rattle.std.proofs.Common.{◌≡◌, suc, Bool, true, false, ◌&&◌, List, [], ◌∷◌, length, refl, sym, ap, ◌∙◌}
use Rattle.answer_text.specs.declared.answer.Answer.{Answer}
use Rattle.transcript_audit.specs.Tests.{same_answer, same_answers}
use Rattle.transcript_audit.proofs.same.are_same.Goals as goal

and_no : (b : Bool) → (b && false) ≡ false
and_no true = refl
and_no false = refl

differ : (xs ys : List Answer) → (length xs ≡ length ys → ⊥) → same_answers xs ys ≡ false
differ [] [] other = absurd (other refl)
differ [] (y ∷ ys) other = refl
differ (x ∷ xs) [] other = refl
differ (x ∷ xs) (y ∷ ys) other = ap (λ (b : Bool). same_answer x y && b) (differ xs ys (λ same. other (ap suc same))) ∙ and_no (same_answer x y)

pub returns-then-list-wanted : goal.returns-then-list-wanted
returns-then-list-wanted c = sym (differ c.args.list.now c.args.wanted.now c.if-list-wanted.true)
