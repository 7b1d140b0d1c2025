use Rattle.registry_tests.specs.Bare.{HasNoViews}
use Rattle.registry_tests.proofs.script.run.Given as goal

abbrev pub invariant-loop-place : goal.invariant-loop-place
invariant-loop-place l = HasNoViews l.registry
