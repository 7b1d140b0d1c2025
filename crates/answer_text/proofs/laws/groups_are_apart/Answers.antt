use Rattle.answer_text.proofs.Injective.{groups_apart}
use Rattle.answer_text.proofs.laws.groups_are_apart.Goals as goal

pub returns : goal.returns
returns c = groups_apart
