use Rattle.registry_tests.specs.Bare.{AreEmptySteps}
use Rattle.registry_tests.proofs.bed.steps_of.Given as goal

abbrev pub invariant-loop-source : goal.invariant-loop-source
invariant-loop-source l = AreEmptySteps l.registry l.steps
