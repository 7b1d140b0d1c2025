use Rattle.registry_tests.proofs.Views.{bare_counted, bare_room}
use Rattle.registry_tests.proofs.bed.finish.Goals as goal

pub finish_pass-requires : goal.finish_pass-requires
finish_pass-requires c = record { counted = bare_counted c.args.registry.now c.args.shares.now c.requires; room = bare_room c.args.registry.now c.requires }
