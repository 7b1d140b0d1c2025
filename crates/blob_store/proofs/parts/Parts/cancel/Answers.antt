-- A reader that is closed, and why a renderer can't close one.
use Rattle.std.proofs.Common.{rules, Option, ◌∙◌, sym, subst}
use Rattle.std.specs.Prelude.{IsSome}
use Rattle.blob_entries.specs.Book.{Book}
use Rattle.session_script.specs.declared.event.Event.TheVariants as events
use Rattle.blob_model.specs.History.{history_from, start}
use Rattle.blob_model.specs.Live.{is_live}
use Rattle.blob_model.specs.Session.{page_limit}
use Rattle.store_laws.proofs.TableRefusals.{cancel_known}
use Rattle.blob_store.specs.Says.{Says}
use Rattle.blob_store.specs.Seen.{parts_of}
use Rattle.blob_store.specs.Whole.{IsWhole, Whole}
use Rattle.blob_store.specs.declared.readers.OpenReader.{OpenReader}
use Rattle.blob_store.proofs.Heard.{heard_refused}
use Rattle.blob_store.proofs.HeardTables.{heard_cancel}
use Rattle.blob_store.proofs.Refusing.{reader_there}
use Rattle.blob_store.proofs.Rerooting.{whole_closed}
use Rattle.blob_store.proofs.parts.Parts.cancel.Goals as goal

pub returns-in-Some-clause-says : goal.returns-in-Some-clause-says
unfolding Says
returns-in-Some-clause-says c told table s groups legal still stands =
    heard_refused s groups c.args.self.now told table legal stands (events.Cancel c.args.renderer c.args.reader) c.in-Some.why
    (cancel_known s (history_from start groups) (is_live (page_limit s) (history_from start groups)) (parts_of c.args.self.now) told table stands.between
    c.args.renderer c.args.reader
    ∙ sym c.in-Some.ensures)

pub unwrap-open-requires : goal.unwrap-open-requires
unwrap-open-requires c =
    subst (λ (found : Option OpenReader). IsSome found) (sym c.close.ensures.taken)
    (reader_there c.args.renderer c.args.reader c.args.self.now.renderers c.args.self.now.readers (search rules))

pub returns-clause-whole : goal.returns-clause-whole
unfolding IsWhole
returns-clause-whole c =
    subst (λ (book : Book). Whole (record c.args.self.now { registry = book; readers = c.close.new.self })) (sym c.let_go.ensures)
    (whole_closed c.args.self.now c.args.reader.0 c.unwrap-open.result c.close.new.self c.requires (search rules) c.close.ensures.closed)

pub returns-clause-says : goal.returns-clause-says
unfolding Says
returns-clause-says c told table s groups legal still stands =
    heard_cancel s groups c.args.self.now told table legal stands c.args.renderer c.args.reader c.unwrap-open.result c.let_go.new.self c.close.new.self
    (search rules) (search rules) c.let_go.ensures c.close.ensures.closed
