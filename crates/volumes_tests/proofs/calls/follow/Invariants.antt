use Rattle.std.proofs.Common.{◌≡◌, false, None}
use Rattle.volumes_tests.proofs.calls.follow.Given as goal

abbrev pub invariant-loop-call : goal.invariant-loop-call
invariant-loop-call g l = record {
  closed : g.D.PageDisk.writing l.disk ≡ None;
  told : l.is_told ≡ false → g.D.PageDisk.changes l.disk ≡ None;
}
