use Rattle.std.proofs.Common.{length}
use Rattle.outside_cases.proofs.memory.+last_put.Given as goal

-- the changes that are left
abbrev pub decreases-last_put : goal.decreases-last_put
decreases-last_put l = length l.changes.now
