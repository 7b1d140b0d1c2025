use Rattle.answer_text.specs.Word.{plan_text}
use Rattle.answer_text.specs.declared.plan_word.TheConstants.{PLANS}
use Rattle.text_fields.proofs.Keywords.{found_is}
use Rattle.answer_text.proofs.Words.{plan_found}
use Rattle.answer_text.proofs.plan_word.PlanWord.from_text.Goals as goal

pub returns : goal.returns
returns c = found_is plan_text PLANS c.args.text.now plan_found c.find.result c.find.ensures
