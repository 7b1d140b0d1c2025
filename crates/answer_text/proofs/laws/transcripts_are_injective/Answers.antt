use Rattle.answer_text.proofs.Injective.{lists_apart}
use Rattle.answer_text.proofs.laws.transcripts_are_injective.Goals as goal

pub returns : goal.returns
returns c = lists_apart
