-- Each piece goes behind those before it.
use Rattle.std.proofs.Common.{◌<◌, arith, length, refl}
use Rattle.page_files.specs.declared.held.Held.{Held}
use Rattle.page_files.proofs.Lists.{bytes_more, placed_more}
use Rattle.page_files.proofs.copies.placed.Goals as goal

pub loop-held-preserved : goal.loop-held-preserved
loop-held-preserved c =
    let d : Held = record { piece = record { 0 = 0 }; slot = 0; off = 0; len = 0 } in
    let inside : c.loop-held.held-index < length c.args.pieces.now = omega (arith, c.loop-held-test.true) in
    let more = placed_more c.args.pieces.now c.loop-held.held-index d inside in
    let bytes = bytes_more c.args.pieces.now c.loop-held.held-index d inside in
    record {
      list = rw (more, ← c.loop-held.invariant.list, ← c.loop-held.invariant.off) c.in_ok-push.ensures.items;
      off = rw (bytes, ← c.loop-held.invariant.off) refl;
    }
