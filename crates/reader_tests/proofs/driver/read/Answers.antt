use Rattle.reader_tests.proofs.driver.read.Goals as goal

-- the views lie, since the disk tells nothing
pub step-end-requires-clause-lie : goal.step-end-requires-clause-lie
step-end-requires-clause-lie g c = rw (c.loop-turn.invariant.untold, ← c.as_slice.ensures) (c.if-not-views_lie.ensures c.loop-turn.files)
