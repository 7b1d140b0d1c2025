use Rattle.std.proofs.Common.{◌≡◌, ◌<◌, ◌^◌, refl, sym, subst, arith}
use Rattle.blob_entries.specs.declared.entry.Entry.{Entry}
use Rattle.blob_entries.specs.Book.{entry_of}
use Rattle.blob_entries.specs.Book.{Book}
use Rattle.blob_entries.specs.Counted.{AreCounted}
use Rattle.blob_entries.specs.Changes.{held_more}
use Rattle.registry_tests.proofs.Views.{counted_changed, roots_as, some_then}
use Rattle.registry_tests.proofs.shared.hold.Goals as goal

pub hold-requires : goal.hold-requires
hold-requires c = some_then (entry_of c.args.registry.now c.name-name.result) (λ (entry : Entry). entry.roots ≡ c.in-Some.roots)
    (λ (entry : Entry). entry.roots < 2 ^ 63)
    (λ entry same. omega (arith, same, c.if-roots-lt1000.true)) (roots_as (entry_of c.args.registry.now c.name-name.result) c.in-Some.roots c.in-Some.ensures)

pub returns-then-roots-lt1000 : goal.returns-then-roots-lt1000
returns-then-roots-lt1000 c = subst (λ (book : Book). AreCounted book.entries c.args.shares.now) (sym c.hold.ensures)
    (counted_changed c.args.registry.now c.name-name.result held_more c.args.shares.now (λ entry. refl) c.requires)
