-- The reader of a number goes, and its number from the index.
use Rattle.std.proofs.Common.{◌≡◌, ℕ, List, None, Some, sym, ap, ◌∙◌, subst}
use Rattle.blob_store.specs.declared.readers.OpenReader.{OpenReader}
use Rattle.blob_store.specs.Owners.{Agree}
use Rattle.blob_store.specs.Readers.{reader_at, Closes}
use Rattle.blob_store.proofs.Opening.{closes}
use Rattle.blob_store.proofs.OwnedReaders.{agree_removed, numbers_of, without_absent}
use Rattle.blob_store.proofs.readers.Readers.close.Goals as goal

pub invariant_of-self : goal.invariant_of-self
invariant_of-self c =
    let none : reader_at c.args.number.0 c.self.inside.by_number.entries ≡ None = sym c.in_err-reader.ensures.value in
    let same = c.remove.ensures.entries ∙ without_absent c.args.number.0 c.self.inside.by_number.entries none in
    λ owner. c.self.invariant owner ∙ ap (numbers_of owner) (sym same)

pub invariant_of-self-2 : goal.invariant_of-self-2
invariant_of-self-2 c =
    let readers = c.self.inside.by_number.entries in
    let there : reader_at c.args.number.0 readers ≡ Some c.in_ok-reader.reader = sym c.in_ok-reader.ensures.value in
    subst (λ (list : List (ℕ × OpenReader)). Agree list c.take_number.new.owners.entries) (sym c.remove.ensures.entries)
    (agree_removed readers c.self.inside.owners.entries c.take_number.new.owners.entries c.args.number.0 c.in_ok-reader.reader there c.self.invariant
    c.take_number.ensures)

pub returns-clause-closed : goal.returns-clause-closed
returns-clause-closed c =
    subst (λ (old : List (ℕ × OpenReader)). Closes c.args.number.0 old c.remove.new.self.entries) c.self.view_is
    (closes c.args.number.0 c.self.inside.by_number.entries c.remove.new.self.entries c.len-count.ensures.ordered c.remove.ensures.entries)

pub returns-in_err-reader-clause-closed : goal.returns-in_err-reader-clause-closed
returns-in_err-reader-clause-closed c =
    subst (λ (old : List (ℕ × OpenReader)). Closes c.args.number.0 old c.remove.new.self.entries) c.self.view_is
    (closes c.args.number.0 c.self.inside.by_number.entries c.remove.new.self.entries c.len-count.ensures.ordered c.remove.ensures.entries)
