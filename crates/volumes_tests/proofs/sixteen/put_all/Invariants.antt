use Rattle.std.proofs.Common.{◌≡◌, None}
use Rattle.volumes_tests.proofs.sixteen.put_all.Given as goal

abbrev pub invariant-loop-page : goal.invariant-loop-page
invariant-loop-page g l = g.D.PageDisk.writing l.disk ≡ None
