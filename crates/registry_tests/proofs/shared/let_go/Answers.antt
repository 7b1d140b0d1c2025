use Rattle.std.proofs.Common.{◌≡◌, ◌<◌, refl, sym, subst, arith}
use Rattle.blob_entries.specs.declared.entry.Entry.{Entry}
use Rattle.blob_entries.specs.Book.{entry_of}
use Rattle.blob_entries.specs.Book.{Book}
use Rattle.blob_entries.specs.Counted.{AreCounted}
use Rattle.blob_entries.specs.Changes.{held_less}
use Rattle.registry_tests.proofs.Views.{counted_changed, roots_as, some_then}
use Rattle.registry_tests.proofs.shared.let_go.Goals as goal

pub let_go-requires : goal.let_go-requires
let_go-requires c = some_then (entry_of c.args.registry.now c.name-name.result) (λ (entry : Entry). entry.roots ≡ c.in-Some.roots)
    (λ (entry : Entry). 0 < entry.roots)
    (λ entry same. omega (arith, same, c.if-roots-gt0.true)) (roots_as (entry_of c.args.registry.now c.name-name.result) c.in-Some.roots c.in-Some.ensures)

pub returns-then-roots-gt0 : goal.returns-then-roots-gt0
returns-then-roots-gt0 c = subst (λ (book : Book). AreCounted book.entries c.args.shares.now) (sym c.let_go.ensures)
    (counted_changed c.args.registry.now c.name-name.result held_less c.args.shares.now (λ entry. refl) c.requires)
