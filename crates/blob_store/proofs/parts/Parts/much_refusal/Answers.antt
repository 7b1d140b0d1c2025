-- The own bytes are few.
use Rattle.std.proofs.Common.{◌≡◌, sum, ap, ◌∙◌, arith}
use Rattle.blob_model.specs.Parts.{own_bytes}
use Rattle.blob_store.proofs.OwnBytes.{own_within}
use Rattle.blob_store.proofs.parts.Parts.much_refusal.Goals as goal

pub has_many_pieces-requires : goal.has_many_pieces-requires
has_many_pieces-requires c =
    let same : sum c.as_slice.result.now ≡ own_bytes c.args.parts.now = ap sum (c.as_slice.ensures ∙ c.in_ok-lengths.ensures) in
    omega (arith, c.requires, own_within c.args.parts.now, same)
