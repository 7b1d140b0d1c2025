use Rattle.registry_tests.specs.Bare.{HasNoViews}
use Rattle.registry_tests.proofs.bed.build_all.Given as goal

abbrev pub invariant-loop-blob : goal.invariant-loop-blob
invariant-loop-blob l = HasNoViews l.registry
