use Rattle.answer_text.specs.Word.{refusal_text}
use Rattle.answer_text.specs.declared.refusal_word.TheConstants.{REFUSALS}
use Rattle.text_fields.proofs.Keywords.{found_is}
use Rattle.answer_text.proofs.Words.{refusal_found}
use Rattle.answer_text.proofs.refusal_word.RefusalWord.from_text.Goals as goal

pub returns : goal.returns
returns c = found_is refusal_text REFUSALS c.args.text.now refusal_found c.find.result c.find.ensures
