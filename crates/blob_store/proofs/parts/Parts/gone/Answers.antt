-- A file that is gone, and one that wasn't there.
use Rattle.std.proofs.Common.{◌≡◌, ℕ, List, None, ap}
use Rattle.std.specs.Prelude.{IsSome}
use Rattle.file_table.specs.Changes.{Notes}
use Rattle.file_table.specs.Files.{note_of, noted}
use Rattle.file_table.specs.declared.file_note.FileNote.{FileNote}
use Rattle.answer_text.specs.declared.refusal.Refusal.TheVariants as refusals
use Rattle.session_script.specs.declared.event.Event.TheVariants as events
use Rattle.blob_model.specs.History.{history_from, start}
use Rattle.blob_model.specs.Live.{is_live}
use Rattle.blob_model.specs.Session.{page_limit}
use Rattle.store_laws.proofs.TableRefusals.{gone_refused}
use Rattle.blob_store.specs.Says.{Says}
use Rattle.blob_store.specs.Seen.{parts_of}
use Rattle.blob_store.specs.Whole.{IsWhole}
use Rattle.blob_store.proofs.Heard.{refused_still}
use Rattle.blob_store.proofs.HeardTables.{heard_gone, noted_both}
use Rattle.blob_store.proofs.Rerooting.{whole_filed}
use Rattle.blob_store.proofs.parts.Parts.gone.Goals as goal

pub returns-in-Ok-clause-whole : goal.returns-in-Ok-clause-whole
unfolding IsWhole
returns-in-Ok-clause-whole c = whole_filed c.args.self.now c.forget.new.self c.requires

pub returns-in-Ok-clause-says : goal.returns-in-Ok-clause-says
unfolding Says
returns-in-Ok-clause-says c told table s groups legal still stands =
    let name = c.args.name.now in
    let old = c.args.self.now.files in
    let both = noted_both
    (λ (note : FileNote). IsSome note.bytes × (c.forget.new.self ≡ noted name (record note { bytes = None }) old))
    (λ (note : FileNote). Notes name (record note { bytes = None }) old c.forget.new.self) (note_of name old) c.in-Ok.ensures.cases c.in-Ok.ensures.changes in
    heard_gone s groups c.args.self.now told table legal stands name both.0 c.forget.new.self both.1 both.2.0 both.3

pub returns-in-Err-clause-says : goal.returns-in-Err-clause-says
unfolding Says
returns-in-Err-clause-says c told table s groups legal still stands =
    refused_still s groups c.args.self.now told table legal stands (events.Gone c.args.name.now) refusals.NoFile
    (record c.args.self.now { files = c.forget.new.self })
    (ap (λ (one : List (List ℕ × FileNote)). record c.args.self.now { files = one }) c.in-Err.ensures.cases.1)
    (gone_refused s (history_from start groups) (is_live (page_limit s) (history_from start groups)) (parts_of c.args.self.now) told table stands.between
    c.args.name.now c.in-Err.ensures.cases.0)
