use Rattle.transport_plan.proofs.PlanSpans.{cover_plan}
use Rattle.transport_plan.proofs.law.spans_cover.Goals as goal

pub returns : goal.returns
returns c = cover_plan
