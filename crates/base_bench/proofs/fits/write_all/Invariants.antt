use Rattle.std.proofs.Common.{◌≡◌, length}
use Rattle.base_bench.proofs.fits.write_all.Given as goal

abbrev pub invariant-loop : goal.invariant-loop
invariant-loop l = length l.fit ≡ l.count
