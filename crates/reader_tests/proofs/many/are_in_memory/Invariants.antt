use Rattle.std.proofs.Common.{take}
use Rattle.std.specs.List.{AllByRecursion}
use Rattle.range_reader.specs.Bytes.{Origins}
use Rattle.range_reader.specs.Places.{ViewLies}
use Rattle.reader_tests.proofs.many.are_in_memory.Given as goal

-- the views so far lie inside their items
abbrev pub invariant-loop-view : goal.invariant-loop-view
invariant-loop-view l = (from : Origins) → AllByRecursion (ViewLies from l.shares) (take l.view-index l.views)
