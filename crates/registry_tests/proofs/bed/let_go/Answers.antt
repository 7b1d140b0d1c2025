use Rattle.std.proofs.Common.{◌≡◌, ◌<◌, arith}
use Rattle.blob_entries.specs.declared.entry.Entry.{Entry}
use Rattle.blob_entries.specs.Book.{entry_of}
use Rattle.registry_tests.proofs.Views.{roots_as, some_then}
use Rattle.registry_tests.proofs.bed.let_go.Goals as goal

pub let_go-requires : goal.let_go-requires
let_go-requires c = some_then (entry_of c.args.registry.now c.name-name.result) (λ (entry : Entry). entry.roots ≡ c.in-Some.roots)
    (λ (entry : Entry). 0 < entry.roots)
    (λ entry same. omega (arith, same, c.if-roots-gt0.true)) (roots_as (entry_of c.args.registry.now c.name-name.result) c.in-Some.roots c.in-Some.ensures)
