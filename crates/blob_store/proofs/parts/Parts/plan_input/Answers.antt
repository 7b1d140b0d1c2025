-- The own bytes are few.
use Rattle.std.proofs.Common.{◌≡◌, sum, ap, ◌∙◌, arith}
use Rattle.blob_model.specs.Parts.{own_bytes}
use Rattle.blob_model.proofs.kept.NewBlobs.{embedded_within}
use Rattle.blob_store.proofs.OwnBytes.{own_within}
use Rattle.blob_store.proofs.parts.Parts.plan_input.Goals as goal

pub overflow_cast-result : goal.overflow_cast-result
overflow_cast-result c =
    omega (arith, c.requires, embedded_within c.args.parts.now, own_within c.args.parts.now, c.embedded_len-embedded.ensures)

pub overflow_sub-result : goal.overflow_sub-result
overflow_sub-result c = omega (arith, embedded_within c.args.parts.now, c.embedded_len-embedded.ensures, c.own_bytes-own.ensures)

pub overflow_cast-result-2 : goal.overflow_cast-result-2
overflow_cast-result-2 c = omega (arith, c.requires, own_within c.args.parts.now, c.own_bytes-own.ensures)

pub pieces_of-requires-clause-sum : goal.pieces_of-requires-clause-sum
pieces_of-requires-clause-sum c =
    let same : sum c.as_slice.result.now ≡ own_bytes c.args.parts.now = ap sum (c.as_slice.ensures ∙ c.in_ok-lengths.ensures) in
    omega (arith, c.requires, own_within c.args.parts.now, same)
