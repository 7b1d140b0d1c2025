use Rattle.std.proofs.Common.{rules}
use Rattle.transport_plan.proofs.SpanLemmas.{cut_at}
use Rattle.transport_plan.proofs.span.segment_span.Goals as goal

pub returns-in-Shared : goal.returns-in-Shared
returns-in-Shared c = search (rules, cut_at)
