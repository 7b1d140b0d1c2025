-- The first place of a byte is its position.
use Rattle.std.proofs.Common.{◌≡◌, ◌==◌, ◌<◌, ◌≤◌, ℕ, false, Bool, List, length, Option, None, Some, get_or, ⊎_elim, refl, sym, ◌∙◌, ap, arith}
use Rattle.std.specs.Prelude.{position}
use Rattle.std.specs.List.{position_or_len}
use Rattle.std.proofs.lemmas.Bool.{cases_lt, false≢true}
use Rattle.std.proofs.lemmas.Grind.{common_steps}
use Rattle.std.proofs.lemmas.List.Quantifiers.{position-Some}
use Rattle.std.proofs.lemmas.List.Sums.{fails_before_first}
use Rattle.memchr.specs.Find.{IsFirstByte, is_byte}
use Rattle.blob_source.proofs.find.find_byte.Goals as goal

-- where no byte is at a position, none passes
none_passes : (p : ℕ → Bool) (text : List ℕ) (k : ℕ) → position p text ≡ None → k < length text → p (get_or text k 0) ≡ false
none_passes p text k none within =
    let past : length text ≤ position_or_len p text = grind (arith, common_steps) in
    fails_before_first p text k 0 (omega arith)

same_place : (s : ℕ) (text : List ℕ) (found is : Option ℕ) → position (λ byte. byte == s) text ≡ is → IsFirstByte (is_byte s) text found → found ≡ is
same_place s text None None where_is first = refl
same_place s text None (Some i) where_is first =
    let at = position-Some (λ byte. byte == s) text i 0 where_is in
    absurd (first i (omega arith) at.0 at.1)
same_place s text (Some k) None where_is first =
    absurd (false≢true (sym (none_passes (λ byte. byte == s) text k where_is first.0.high) ∙ first.1))
same_place s text (Some k) (Some i) where_is first =
    let at = position-Some (λ byte. byte == s) text i 0 where_is in
    ⊎_elim
    (λ (less : k < i). absurd (false≢true (sym (at.2 k less) ∙ first.1)))
    (λ (more : i ≤ k). ⊎_elim (λ (past : i < k). absurd (first.0.before i (omega arith) past at.1)) (λ (same : k ≤ i). ap Some (omega (arith, more, same)))
    (cases_lt i k))
    (cases_lt k i)

pub returns : goal.returns
returns c =
    same_place c.args.byte c.args.bytes.now c.memchr.result (position (λ byte. byte == c.args.byte) c.args.bytes.now) refl
    c.memchr.ensures
