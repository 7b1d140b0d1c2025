use Rattle.std.proofs.Common.{◌≡◌, ◌∙◌, ℕ, List, Option, Some, sym, ap, arith}
use Rattle.std.specs.Prelude.{slice_get, slice_index}
use Rattle.std.specs.Option.{option_map}
use Rattle.std.proofs.lemmas.Option.{slice_get-get_or}
use Rattle.blob_entries.specs.declared.entry.Entry.{Entry}
use Rattle.blob_entries.specs.Book.{Book}
use Rattle.blob_entries.specs.Standing.{name_under}
use Rattle.blob_entries.proofs.Soundness.{at_within}
use Rattle.blob_entries.proofs.table.Table.name_under.Goals as goal

pub returns : goal.returns
returns c =
    let names : List ℕ = c.self.inside.names in
    let stands = sym (rw c.deref.ensures.value at c.in_ok-_entry.ensures) in
    let within = at_within c.self.inside.entries.items c.args.number c.in_ok-_entry._entry.now stands in
    let name : slice_get names c.args.number ≡ Some (slice_index names c.args.number) = slice_get-get_or names c.args.number 0
    (omega (arith, within, c.self.invariant.sized)) in
    c.name_at.ensures ∙ name ∙ sym (ap (λ (held : Option Entry). option_map (λ (entry : Entry). slice_index names c.args.number) held) stands)
    ∙ ap (λ (b : Book). name_under b c.args.number) c.self.view_is
