-- A blob on which there is a handle stands.
use Rattle.std.proofs.Common.{◌≡◌, ℕ, ◌<◌, Option, Some, sym, subst, ◌∙◌}
use Rattle.std.specs.Prelude.{IsSome}
use Rattle.blob_entries.specs.Book.{entry_at}
use Rattle.blob_entries.specs.Names.{number_of}
use Rattle.blob_entries.specs.declared.entry.Entry.{Entry}
use Rattle.blob_store.specs.Whole.{IsWhole}
use Rattle.blob_store.proofs.HeldBy.{copied_there, numbered, stands_under}
use Rattle.blob_store.proofs.Rerooting.{handle_roots, stands_rooted}
use Rattle.blob_store.proofs.parts.Parts.entry_held.Goals as goal

pub unwrap-number-requires : goal.unwrap-number-requires
unfolding IsWhole
unwrap-number-requires c =
    let parts = c.args.self.now in
    let stands = stands_rooted parts.registry c.args.name (handle_roots parts c.args.renderer c.args.name c.requires.whole c.requires.held) in
    subst (λ (found : Option ℕ). IsSome found) (sym c.number_of.ensures)
    (numbered (λ (entry : Entry). 0 < entry.roots) parts.registry c.args.name stands)

pub unwrap-requires : goal.unwrap-requires
unfolding IsWhole
unwrap-requires c =
    let parts = c.args.self.now in
    let stands = stands_rooted parts.registry c.args.name (handle_roots parts c.args.renderer c.args.name c.requires.whole c.requires.held) in
    let at : number_of c.args.name parts.registry.names ≡ Some c.unwrap-number.result = sym c.number_of.ensures ∙ c.unwrap-number.ensures in
    let there = stands_under (λ (entry : Entry). 0 < entry.roots) parts.registry c.args.name stands c.unwrap-number.result at in
    copied_there c.entry_under.result (entry_at parts.registry.entries c.unwrap-number.result) c.entry_under.ensures there
