-- A file with new bytes, and why it isn't taken.
use Rattle.std.proofs.Common.{ℕ, List, Some, ◌∙◌, ap, subst}
use Rattle.std.specs.Option.{option_map}
use Rattle.blob_words.specs.declared.counted.Counted.TheVariants as numbered
use Rattle.answer_text.specs.declared.refusal.Refusal.TheVariants as refusals
use Rattle.session_script.specs.declared.event.Event.TheVariants as events
use Rattle.file_table.specs.Changes.{Notes}
use Rattle.file_table.specs.declared.file_note.FileNote.{FileNote}
use Rattle.blob_model.specs.History.{history_from, start}
use Rattle.blob_model.specs.Live.{is_live}
use Rattle.blob_model.specs.Session.{page_limit}
use Rattle.store_laws.proofs.TableRefusals.{file_known, file_refusal}
use Rattle.blob_store.specs.Says.{Says}
use Rattle.blob_store.specs.Seen.{parts_of}
use Rattle.blob_store.specs.Whole.{IsWhole}
use Rattle.blob_store.proofs.Heard.{refused_still}
use Rattle.blob_store.proofs.HeardTables.{heard_file}
use Rattle.blob_store.proofs.Rerooting.{whole_filed}
use Rattle.blob_store.proofs.parts.Parts.file.Goals as goal

pub returns-in-Ok-clause-whole : goal.returns-in-Ok-clause-whole
unfolding IsWhole
returns-in-Ok-clause-whole c = whole_filed c.args.self.now c.note.new.self c.requires

pub returns-in-Ok-clause-says : goal.returns-in-Ok-clause-says
unfolding Says
returns-in-Ok-clause-says c told table s groups legal still stands =
    heard_file s groups c.args.self.now told table legal stands c.args.name.now c.args.stamp c.args.bytes.now c.note.new.self c.in-Ok.ensures.none_due
    (subst (λ (bytes : List ℕ). Notes c.args.name.now (record { last = c.args.stamp; bytes = Some bytes }) c.args.self.now.files c.note.new.self)
    c.as_slice.ensures c.in-Ok.ensures.changes)

pub returns-in-Err-StaleStamp-clause-says : goal.returns-in-Err-StaleStamp-clause-says
unfolding Says
returns-in-Err-StaleStamp-clause-says c told table s groups legal still stands =
    refused_still s groups c.args.self.now told table legal stands (events.File c.args.name.now c.args.stamp c.args.bytes.now)
    (refusals.StaleStamp c.in-Err-StaleStamp.last)
    (record c.args.self.now { files = c.note.new.self })
    (ap (λ (one : List (List ℕ × FileNote)). record c.args.self.now { files = one }) (rw c.in-Err-StaleStamp.field-0-is at c.in-Err-StaleStamp.ensures.fault).0)
    (file_known s (history_from start groups) (is_live (page_limit s) (history_from start groups)) (parts_of c.args.self.now) told table stands.between
    c.args.name.now c.args.stamp c.args.bytes.now
    ∙ ap (option_map file_refusal) (rw c.in-Err-StaleStamp.field-0-is at c.in-Err-StaleStamp.ensures.fault).1)

pub returns-in-Err-Full-clause-says : goal.returns-in-Err-Full-clause-says
unfolding Says
returns-in-Err-Full-clause-says c told table s groups legal still stands =
    refused_still s groups c.args.self.now told table legal stands (events.File c.args.name.now c.args.stamp c.args.bytes.now)
    (refusals.TooMany numbered.Files)
    (record c.args.self.now { files = c.note.new.self })
    (ap (λ (one : List (List ℕ × FileNote)). record c.args.self.now { files = one }) (rw c.in-Err-Full.field-0-is at c.in-Err-Full.ensures.fault).0)
    (file_known s (history_from start groups) (is_live (page_limit s) (history_from start groups)) (parts_of c.args.self.now) told table stands.between
    c.args.name.now c.args.stamp c.args.bytes.now
    ∙ ap (option_map file_refusal) (rw c.in-Err-Full.field-0-is at c.in-Err-Full.ensures.fault).1)
