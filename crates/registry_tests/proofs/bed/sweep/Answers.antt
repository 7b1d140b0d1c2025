use Rattle.blob_registry.specs.declared.swept.Swept.{Swept}
use Rattle.blob_registry.specs.Sweeps.{Sweeping}
use Rattle.registry_tests.proofs.Views.{bare_swept, if_ok_on}
use Rattle.registry_tests.proofs.bed.sweep.Goals as goal

pub returns : goal.returns
returns c = if_ok_on c.sweep.result (λ (swept : Swept). Sweeping c.args.registry.now c.sweep.new.self swept.dropped c.args.shares.now c.sweep.new.shares
    swept.freed) c.sweep.ensures.swept
    (λ swept said. bare_swept c.args.registry.now c.sweep.new.self said.entries c.requires)
