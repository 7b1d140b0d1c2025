use Rattle.std.proofs.Common.{◌≡◌, ◌<◌, ◌^◌, arith}
use Rattle.blob_entries.specs.declared.entry.Entry.{Entry}
use Rattle.blob_entries.specs.Book.{entry_of}
use Rattle.reach_tests.proofs.Roots.{roots_as, some_then}
use Rattle.reach_tests.proofs.blobs.hold.Goals as goal

pub hold-requires : goal.hold-requires
hold-requires c = some_then (entry_of c.args.registry.now c.name-name.result) (λ (entry : Entry). entry.roots ≡ c.in-Some.roots)
    (λ (entry : Entry). entry.roots < 2 ^ 63)
    (λ entry same. omega (arith, same, c.if-roots-lt1000.true)) (roots_as (entry_of c.args.registry.now c.name-name.result) c.in-Some.roots c.in-Some.ensures)
