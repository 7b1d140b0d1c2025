-- The segments of all blobs are looked through.
use Rattle.std.proofs.Common.{◌∙◌}
use Rattle.history_notions.proofs.Arrivals.{come_among}
use Rattle.history_notions.proofs.transport.has_come.Goals as goal

pub returns : goal.returns
returns c = c.has_arrival.ensures ∙ come_among c.args.name c.args.segment c.args.brought.now
