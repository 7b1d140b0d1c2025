use Rattle.std.proofs.Common.{◌≡◌, ℕ, List, Some, ap, ◌∙◌, refl, subst}
use Rattle.file_table.specs.declared.file_note.FileNote.{FileNote}
use Rattle.file_table.specs.Changes.{Notes}
use Rattle.blob_words.proofs.Keyed.{insert_seen, seen}
use Rattle.file_table.proofs.Noted.{notes_put}
use Rattle.file_table.proofs.table.FileTable.put.Goals as goal

pub returns-clause-ok : goal.returns-clause-ok
returns-clause-ok c =
    ap seen c.in_ok-insert.ensures.entries ∙ insert_seen _ _ c.self.inside.notes.entries ∙
    rw (c.in_ok-key.ensures.items, c.as_slice.ensures.bytes, c.in_ok-content.ensures, ← c.self.view_is) refl

pub returns-clause-changes : goal.returns-clause-changes
returns-clause-changes c =
    let done = c.in_ok-insert.ensures in
    let note : List ℕ → FileNote = λ bytes. record { last = c.args.stamp; bytes = Some bytes } in
    let new = seen c.insert.new.self.entries in
    let key : c.in_ok-key.key.items ≡ c.args.name.now = c.in_ok-key.ensures.items ∙ c.as_slice.ensures.bytes in
    subst (λ (files : List (List ℕ × FileNote)). Notes c.args.name.now (note c.args.bytes.now) files new) c.self.view_is
    (subst (λ (bytes : List ℕ). Notes c.args.name.now (note bytes) (seen c.self.inside.notes.entries) new) c.in_ok-content.ensures
    (subst (λ (name : List ℕ). Notes name (note c.in_ok-content.content) (seen c.self.inside.notes.entries) new) key
    (notes_put c.in_ok-key.key.items (note c.in_ok-content.content) c.self.inside.notes c.insert.new.self c.in_ok-insert.field-0 done.updates done.old
    done.len)))
