use Rattle.std.proofs.Common.{[]}
use Rattle.reader_tests.proofs.many.right_bytes.Goals as goal

-- the views lie, whatever is recorded, told or counted
pub step-end-requires-clause-lie : goal.step-end-requires-clause-lie
step-end-requires-clause-lie g c = c.requires.lie (record { files = []; changes = _; handles = record { slots = _; past = 0 } })
