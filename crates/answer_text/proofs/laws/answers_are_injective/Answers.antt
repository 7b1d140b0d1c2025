use Rattle.answer_text.proofs.Injective.{answer_injective}
use Rattle.answer_text.proofs.laws.answers_are_injective.Goals as goal

pub returns : goal.returns
returns c = answer_injective
