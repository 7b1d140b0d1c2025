use Rattle.answer_text.specs.Word.{word_text}
use Rattle.answer_text.specs.declared.answer_word.TheConstants.{WORDS}
use Rattle.text_fields.proofs.Keywords.{found_is}
use Rattle.answer_text.proofs.Words.{word_found}
use Rattle.answer_text.proofs.answer_word.AnswerWord.from_text.Goals as goal

pub returns : goal.returns
returns c = found_is word_text WORDS c.args.text.now word_found c.find.result c.find.ensures
