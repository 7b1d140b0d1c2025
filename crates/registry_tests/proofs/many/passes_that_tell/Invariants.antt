use Rattle.registry_tests.specs.Bare.{HasNoViews}
use Rattle.registry_tests.proofs.many.passes_that_tell.Given as goal

abbrev pub invariant-loop-round : goal.invariant-loop-round
invariant-loop-round l = HasNoViews l.registry
