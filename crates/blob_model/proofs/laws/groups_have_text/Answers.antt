-- The law as it was proved.
use Rattle.blob_model.proofs.texts.Groups.{groups_have_text}
use Rattle.blob_model.proofs.laws.groups_have_text.Goals as goal

pub returns : goal.returns
returns c s groups legal spelled = groups_have_text s groups legal spelled
