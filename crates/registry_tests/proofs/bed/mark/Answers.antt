use Rattle.std.proofs.Common.{◌≡◌, ◌∙◌, true, sym, ap}
use Rattle.blob_entries.specs.declared.entry.Entry.{Entry}
use Rattle.blob_entries.specs.Book.{entry_of}
use Rattle.blob_entries.specs.Statuses.{is_pending}
use Rattle.registry_tests.proofs.Views.{some_then, stands_as}
use Rattle.registry_tests.proofs.bed.mark.Goals as goal

pub mark-requires-clause-pending : goal.mark-requires-clause-pending
mark-requires-clause-pending c = some_then (entry_of c.args.registry.now c.name-name.result) (λ (entry : Entry). entry.status ≡ c.in-Some.status)
    (λ (entry : Entry). is_pending entry.status ≡ true)
    (λ entry same. ap is_pending same ∙ sym c.is_pending.ensures ∙ c.if-is_pending.true)
    (stands_as (entry_of c.args.registry.now c.name-name.result) c.in-Some.status c.in-Some.ensures)
