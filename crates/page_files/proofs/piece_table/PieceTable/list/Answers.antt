use Rattle.std.proofs.Common.{arith}
use Rattle.page_files.proofs.Places.{have_bytes, numbers_apart}
use Rattle.page_files.proofs.piece_table.PieceTable.list.Goals as goal

pub returns-in_err-push-clause-apart : goal.returns-in_err-push-clause-apart
returns-in_err-push-clause-apart c = rw (← c.self.view_is) (numbers_apart c.self.inside.places.entries c.iter-piece-items.ensures.unique)

pub returns-in_err-push-clause-long : goal.returns-in_err-push-clause-long
returns-in_err-push-clause-long c = rw (← c.self.view_is) (have_bytes c.self.inside.places.entries c.self.invariant.1)

pub returns-in_err-push-clause-fits : goal.returns-in_err-push-clause-fits
returns-in_err-push-clause-fits c = rw (← c.self.view_is, ← c.self.invariant.0) (omega arith)

pub returns-clause-apart : goal.returns-clause-apart
returns-clause-apart c = rw (← c.self.view_is) (numbers_apart c.self.inside.places.entries c.iter-piece-items.ensures.unique)

pub returns-clause-long : goal.returns-clause-long
returns-clause-long c = rw (← c.self.view_is) (have_bytes c.self.inside.places.entries c.self.invariant.1)

pub returns-clause-fits : goal.returns-clause-fits
returns-clause-fits c = rw (← c.self.view_is, ← c.self.invariant.0) (omega arith)
