-- What the readers of answers say. Own.
use Rattle.std.specs.Prelude.{ℕ, ◌≡◌, List, Result}
use Rattle.answer_text.specs.Fault.{IsAnswerFields, IsRefusalFields, ReadsAs}
use Rattle.answer_text.specs.Text.{word_of, answer_fields, HasText, refusal_word_of, refusal_fields, RefusalHasText}
use Rattle.answer_text.specs.declared.answer.Answer.{Answer}
use Rattle.answer_text.specs.declared.answer_word.AnswerWord.{AnswerWord}
use Rattle.answer_text.specs.declared.refusal.Refusal.{Refusal}
use Rattle.answer_text.specs.declared.refusal_word.RefusalWord.{RefusalWord}
use Rattle.answer_text.specs.declared.text_fault.TextFault.{TextFault}

-- the answer of a word that the fields behind it spell, or that they spell none
abbrev pub ReadsAnswer : AnswerWord → List (List ℕ) → Result Answer TextFault → Type 0
ReadsAnswer word texts result = ReadsAs (IsAnswerFields word) (λ answer. HasText answer × (word_of answer ≡ word)) answer_fields texts result

-- the same of a refusal
abbrev pub ReadsRefusal : RefusalWord → List (List ℕ) → Result Refusal TextFault → Type 0
ReadsRefusal word texts result = ReadsAs (IsRefusalFields word) (λ refusal. RefusalHasText refusal × (refusal_word_of refusal ≡ word)) refusal_fields texts
    result
