use Rattle.std.proofs.Common.{◌+◌, refl, subst, sym}
use Rattle.page_cases.specs.Moves.{IsRow}
use Rattle.page_cases.proofs.Many.{row_push}
use Rattle.page_cases.proofs.many_pieces.add_one.Goals as goal

pub returns : goal.returns
returns c = record {
  row = subst (IsRow (c.args.number + 1) c.add_memory.new.shares) (sym c.in_ok-push.ensures.items)
      (row_push c.args.shares.now c.add_memory.new.shares c.in_ok-slot.slot c.args.number _ c.args.pieces.now.items c.requires.row c.in_ok-slot.ensures.vacant
      c.in_ok-slot.ensures.ok refl);
}
