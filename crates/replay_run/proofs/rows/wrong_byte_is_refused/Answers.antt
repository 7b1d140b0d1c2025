-- The second step gives the byte of the blob.
use Rattle.std.proofs.Common.{◌≡◌, ℕ, List, [], ◌∷◌, Some, codes, ap, arith}
use Rattle.std.specs.Prelude.{slice_index}
use Rattle.answer_text.specs.declared.answer.Answer.TheVariants as answers
use Rattle.replay_run.specs.Rows.{after_limits, reader}
use Rattle.replay_run.proofs.RowLemmas.{behind_limits}
use Rattle.replay_run.proofs.rows.wrong_byte_is_refused.Goals as goal

pub returns : goal.returns
returns c legal =
    let step = (behind_limits (after_limits 100 3) legal).1.1.1.1.0 in
    let is_own : Some (answers.Given reader (codes "c")) ≡ Some step.own_answer = step.is_own in
    let first : answers.Given reader (100 ∷ []) ∷ [] ≡ step.own_answer ∷ [] = step.settles in
    let same : 100 ∷ [] ≡ codes "c" = cc in
    let byte : 100 ≡ 99 = ap (λ (bytes : List ℕ). slice_index bytes 0) same in
    omega (arith, byte)
