use Rattle.std.proofs.Common.{subst, sym}
use Rattle.page_cases.specs.Moves.{IsRow}
use Rattle.page_cases.proofs.Many.{row_none}
use Rattle.page_cases.proofs.many_pieces.add_many.Goals as goal

pub loop-number-init : goal.loop-number-init
loop-number-init c = subst (IsRow 0 c.args.shares.now) (sym c.new-pieces.ensures.items) (row_none c.args.shares.now)
