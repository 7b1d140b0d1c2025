use Rattle.session_script.specs.Word.{word_text}
use Rattle.session_script.specs.declared.word.TheConstants.{WORDS}
use Rattle.text_fields.proofs.Keywords.{found_is}
use Rattle.session_script.proofs.Words.{word_found}
use Rattle.session_script.proofs.word.Word.from_text.Goals as goal

pub returns : goal.returns
returns c = found_is word_text WORDS c.args.text.now word_found c.find.result c.find.ensures
