-- A reader that can't be opened, and one that comes.
use Rattle.std.proofs.Common.{ℕ, List, ap, subst, sym, ◌∙◌}
use Rattle.answer_text.specs.declared.answer.Answer.TheVariants as answers
use Rattle.blob_entries.specs.Book.{Book}
use Rattle.range_reader.specs.Places.{Course}
use Rattle.blob_store.specs.Readers.{Opens}
use Rattle.blob_store.specs.Whole.{with_line, IsWhole, Whole}
use Rattle.blob_store.proofs.Opened.{none_stands, opening_opened, opening_refused, whole_opened}
use Rattle.blob_store.proofs.parts.Parts.open_range.Goals as goal

pub returns-in-Err-clause-opening : goal.returns-in-Err-clause-opening
returns-in-Err-clause-opening c =
    opening_refused (record { owner = c.args.owner; number = c.args.number; blob = c.args.blob; off = c.args.off; len = c.args.len })
    c.entry_rooted-entry.result.now c.args.self.now c.entry_rooted-entry.ensures c.in-Err.why c.in-Err.ensures.err

pub add-requires : goal.add-requires
add-requires c =
    (none_stands c.args.number c.entry_rooted-entry.result.now c.args.off c.args.len c.args.self.now.readers c.in-Ok.ensures.ok.0).0

pub returns-clause-whole : goal.returns-clause-whole
unfolding IsWhole
returns-clause-whole c =
    let parts = c.args.self.now in
    let entry = c.entry_rooted-entry.result.now in
    subst (λ (book : Book). Whole (with_line (record parts { registry = book; readers = c.add.new.self }))) (sym c.hold.ensures)
    (whole_opened c.args.owner c.args.number c.args.blob entry c.args.off c.args.len parts c.add.new.self c.requires.whole c.requires.rooted
    (sym c.entry_rooted-entry.ensures)
    (none_stands c.args.number entry c.args.off c.args.len parts.readers c.in-Ok.ensures.ok.0).1
    (subst (λ (course : Course). Opens c.args.number.0 (record { owner = c.args.owner; blob = c.args.blob; course = course }) parts.readers c.add.new.self)
    c.in-Ok.ensures.ok.1 c.in_ok-add.ensures.ok) c.requires.alive)

pub returns-clause-opening : goal.returns-clause-opening
returns-clause-opening c =
    let parts = c.args.self.now in
    let entry = c.entry_rooted-entry.result.now in
    opening_opened (record { owner = c.args.owner; number = c.args.number; blob = c.args.blob; off = c.args.off; len = c.args.len }) entry parts
    c.entry_rooted-entry.ensures (answers.Opened c.args.number entry.size c.in-Ok-from_slice.kind)
    (record parts { registry = c.hold.new.self; readers = c.add.new.self }) c.in-Ok.ensures.ok.0
    (record {
      told = ap (λ (kind : List ℕ). answers.Opened c.args.number entry.size kind) (c.in-Ok-from_slice.ensures ∙ c.as_slice.ensures);
      opens = subst (λ (course : Course).
          Opens c.args.number.0 (record { owner = c.args.owner; blob = c.args.blob; course = course }) parts.readers c.add.new.self)
          c.in-Ok.ensures.ok.1 c.in_ok-add.ensures.ok;
      rest = ap (λ (book : Book). record parts { registry = book; readers = c.add.new.self }) c.hold.ensures;
    })
