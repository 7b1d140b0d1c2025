-- The own bytes are few.
use Rattle.std.proofs.Common.{◌≡◌, ◌-◌, length, ap, arith}
use Rattle.transport_plan.specs.declared.input.PlanInput.{PlanInput}
use Rattle.blob_model.specs.Parts.{embedded, own_bytes}
use Rattle.blob_model.proofs.kept.NewBlobs.{embedded_within}
use Rattle.blob_store.proofs.OwnBytes.{own_within}
use Rattle.blob_store.proofs.parts.Parts.plan_for.Goals as goal

pub plan-requires : goal.plan-requires
plan-requires c =
    let line = c.args.parts.now in
    let front : c.in_ok-input.input.embedded ≡ length (embedded line) = ap (λ (input : PlanInput). input.embedded) c.in_ok-input.ensures in
    let rest : c.in_ok-input.input.asked ≡ own_bytes line - length (embedded line) = ap (λ (input : PlanInput). input.asked) c.in_ok-input.ensures in
    omega (arith, c.requires, embedded_within line, own_within line, front, rest)
