use Rattle.text_fields.proofs.Outputs.{flush_stops}
use Rattle.text_fields.proofs.buffer.Buffer.flush.Goals as goal

pub returns-in-Err-clause-put : goal.returns-in-Err-clause-put
returns-in-Err-clause-put g c =
    let cut = c.in-Err.ensures.err in
    flush_stops _ _ _ _ cut.0 _ _ _ c.self.view_is cut.1 cut.2 c.in-Err.ensures.failed c.in-Err.ensures.later
