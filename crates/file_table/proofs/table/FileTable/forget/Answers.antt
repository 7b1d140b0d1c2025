use Rattle.std.proofs.Common.{◌≡◌, ℕ, true, None, List, subst, sym, rules}
use Rattle.std.specs.Prelude.{is_some, IfSome, IsSome, IsSomeAnd}
use Rattle.file_table.specs.declared.file_note.FileNote.{FileNote}
use Rattle.file_table.specs.Files.{note_of, noted, state_of}
use Rattle.blob_words.proofs.Keyed.{seen}
use Rattle.file_table.specs.Changes.{Notes}
use Rattle.file_table.proofs.Forgotten.{forgotten_seen}
use Rattle.file_table.proofs.Noted.{notes_forgotten}
use Rattle.file_table.proofs.table.FileTable.forget.Goals as goal

pub returns-clause-cases : goal.returns-clause-cases
returns-clause-cases c =
    let name = c.args.name.now in
    let new = c.clear_at.new.notes.entries in
    let known : is_some (state_of name c.args.self.now) ≡ true = rw (← c.state.ensures) (search rules) in
    let some : is_some (state_of name (seen c.self.inside.notes.entries)) ≡ true = subst (λ files. is_some (state_of name files) ≡ true) (sym c.self.view_is)
    known in
    let written = rw c.as_slice.ensures.bytes at c.clear_at.ensures.known in
    subst (λ (files : List (List ℕ × FileNote)). IsSomeAnd (note_of name files)
    (λ note. IsSome note.bytes × (seen new ≡ noted name (record note { bytes = None }) files))) c.self.view_is
    (forgotten_seen name c.self.inside.notes.entries new c.clear_at.ensures.ordered some written)

pub returns-clause-changes : goal.returns-clause-changes
returns-clause-changes c =
    let name = c.args.name.now in
    let new = c.clear_at.new.notes in
    let updates = rw c.as_slice.ensures.bytes at c.clear_at.ensures.updates in
    subst (λ (files : List (List ℕ × FileNote)). IfSome (note_of name files) (λ note. Notes name (record note { bytes = None }) files (seen new.entries)))
    c.self.view_is
    (notes_forgotten name c.self.inside.notes new updates c.clear_at.ensures.many)
