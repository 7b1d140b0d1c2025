-- The law as it was proved.
use Rattle.blob_model.proofs.legal.SingleTranscript.{one_transcript}
use Rattle.blob_model.proofs.laws.transcript_is_one.Goals as goal

pub returns : goal.returns
returns c = one_transcript
