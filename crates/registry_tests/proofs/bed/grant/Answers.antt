use Rattle.blob_words.specs.declared.status.Status.TheVariants.{PendingQuota}
use Rattle.blob_entries.specs.Book.{entry_of}
use Rattle.registry_tests.proofs.Views.{stands_as}
use Rattle.registry_tests.proofs.bed.grant.Goals as goal

pub set_transport-requires : goal.set_transport-requires
set_transport-requires c = stands_as (entry_of c.args.registry.now c.name-name.result) PendingQuota
    (rw c.in-Some-PendingQuota.field-0-is at c.in-Some-PendingQuota.ensures)
