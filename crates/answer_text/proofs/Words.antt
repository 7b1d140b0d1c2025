-- No two words have one text.
use Rattle.std.proofs.Common.{◌≡◌, Some, refl, codes}
use Rattle.text_fields.specs.Keyword.{look_up}
use Rattle.text_fields.proofs.Keywords.{same_by_text}
use Rattle.answer_text.specs.Word.{word_text, refusal_text, plan_text}
use Rattle.answer_text.specs.declared.answer_word.TheConstants.{WORDS}
use Rattle.answer_text.specs.declared.plan_word.TheConstants.{PLANS}
use Rattle.answer_text.specs.declared.refusal_word.TheConstants.{REFUSALS}
use Rattle.answer_text.specs.declared.answer_word.AnswerWord.{AnswerWord}
use Rattle.answer_text.specs.declared.answer_word.AnswerWord.TheVariants as words
use Rattle.answer_text.specs.declared.plan_word.PlanWord.{PlanWord}
use Rattle.answer_text.specs.declared.plan_word.PlanWord.TheVariants as plan_words
use Rattle.answer_text.specs.declared.refusal_word.RefusalWord.{RefusalWord}
use Rattle.answer_text.specs.declared.refusal_word.RefusalWord.TheVariants as refusal_words

pub word_found : (word : AnswerWord) → look_up word_text WORDS (word_text word) ≡ Some word
word_found words.Good = refl
word_found word = refl

pub same_word : (w v : AnswerWord) → word_text w ≡ word_text v → w ≡ v
same_word w v same = same_by_text word_text WORDS word_found w v same

pub refusal_found : (word : RefusalWord) → look_up refusal_text REFUSALS (refusal_text word) ≡ Some word
refusal_found refusal_words.NoRenderer = refl
refusal_found word = refl

pub same_refusal_word : (w v : RefusalWord) → refusal_text w ≡ refusal_text v → w ≡ v
same_refusal_word w v same = same_by_text refusal_text REFUSALS refusal_found w v same

pub plan_found : (word : PlanWord) → look_up plan_text PLANS (plan_text word) ≡ Some word
plan_found plan_words.None = refl
plan_found word = refl

-- no answer begins with `=`
pub not_equals : (word : AnswerWord) → codes "=" ≡ word_text word → ⊥
not_equals words.Good same = cc same
not_equals words.Refused same = cc same
not_equals words.Planned same = cc same
not_equals words.Broken same = cc same
not_equals words.Taken same = cc same
not_equals words.Stored same = cc same
not_equals words.StoreFailed same = cc same
not_equals words.Told same = cc same
not_equals words.Revoked same = cc same
not_equals words.Nothing same = cc same
not_equals words.Opened same = cc same
not_equals words.Given same = cc same
not_equals words.Wait same = cc same
not_equals words.Ended same = cc same
not_equals words.FileChanged same = cc same
not_equals words.PageFault same = cc same
not_equals words.HandleFailed same = cc same
not_equals words.Paged same = cc same
not_equals words.Empty same = cc same
not_equals words.PageFailed same = cc same
not_equals words.Moved same = cc same
not_equals words.MoveFailed same = cc same
not_equals words.MoveUnread same = cc same
not_equals words.LostJob same = cc same
not_equals words.Held same = cc same
not_equals words.Dropped same = cc same
not_equals words.Done same = cc same
not_equals words.Removed same = cc same
not_equals words.Left same = cc same
not_equals words.Granted same = cc same
not_equals words.Job same = cc same
not_equals words.Compacting same = cc same
