use Rattle.std.proofs.Common.{◌≡◌, None}
use Rattle.volumes_tests.proofs.sixteen.remove_most.Given as goal

abbrev pub invariant-loop-place : goal.invariant-loop-place
invariant-loop-place g l = g.D.PageDisk.writing l.disk ≡ None
