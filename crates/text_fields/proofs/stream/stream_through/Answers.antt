use Rattle.std.proofs.Common.{Err}
use Rattle.text_fields.proofs.Outputs.{puts_then, put_alone, streamed}
use Rattle.text_fields.proofs.stream.stream_through.Goals as goal

pub returns-in-Ok-clause-streamed : goal.returns-in-Ok-clause-streamed
returns-in-Ok-clause-streamed g c =
    streamed _ _ _ _ _ _ _ c.flush.result c.requires (puts_then _ _ _ _ _ c.flush.result c.in-Ok.ensures c.flush.ensures.put) c.flush.ensures.empty

pub returns-in-Err-clause-streamed : goal.returns-in-Err-clause-streamed
returns-in-Err-clause-streamed g c = streamed _ _ _ _ _ _ _ (Err c.in-Err.field-0) c.requires (put_alone _ _ _ (Err c.in-Err.field-0) c.in-Err.ensures) tt
