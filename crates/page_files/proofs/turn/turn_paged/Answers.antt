-- One slot more has turned.
use Rattle.std.proofs.Common.{◌<◌, List, arith, slice_index_or, length, take, sym, ap, ◌∙◌}
use Rattle.std.proofs.lemmas.List.{take_more}
use Rattle.item_shares.specs.Shares.{share_at}
use Rattle.page_files.specs.declared.held.Held.{Held}
use Rattle.page_files.specs.Items.{turned, IsPieceIn}
use Rattle.page_files.proofs.Lists.{all_at}
use Rattle.page_files.proofs.Turning.{all_hold, turned_by, turned_push, turned_step}
use Rattle.page_files.proofs.turn.turn_paged.Goals as goal

pub loop-held-preserved : goal.loop-held-preserved
loop-held-preserved c =
    let pieces = c.args.pieces.now in
    let i = c.loop-held.held-index in
    let d : Held = record { piece = record { 0 = 0 }; slot = 0; off = 0; len = 0 } in
    let held = slice_index_or pieces i d in
    let inside : i < length pieces = omega (arith, c.loop-held-test.true) in
    let there = all_at (IsPieceIn c.loop-held.shares) pieces i d inside c.loop-held.invariant.held in
    let step = turned_step c.args.page held c.loop-held.shares c.turn_paged.new.self there c.turn_paged.ensures in
    record {
      turned = λ slot. step slot ∙ ap (turned_by c.args.page held slot) (c.loop-held.invariant.turned slot)
          ∙ sym (ap (λ (list : List Held). turned c.args.page list slot (share_at c.args.shares.now slot)) (take_more pieces i d inside) ∙ turned_push
          c.args.page (take i pieces) held slot (share_at c.args.shares.now slot));
      held = all_hold c.args.page held c.loop-held.shares c.turn_paged.new.self step pieces c.loop-held.invariant.held;
    }
