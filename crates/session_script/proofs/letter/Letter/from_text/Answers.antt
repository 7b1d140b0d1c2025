use Rattle.session_script.specs.Word.{letter_text}
use Rattle.session_script.specs.declared.letter.TheConstants.{LETTERS}
use Rattle.text_fields.proofs.Keywords.{found_is}
use Rattle.session_script.proofs.Words.{letter_found}
use Rattle.session_script.proofs.letter.Letter.from_text.Goals as goal

pub returns : goal.returns
returns c = found_is letter_text LETTERS c.args.text.now letter_found c.find.result c.find.ensures
