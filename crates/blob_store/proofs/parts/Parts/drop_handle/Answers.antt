-- A renderer that isn't alive, one without a handle, and one handle fewer.
use Rattle.std.proofs.Common.{ap, ◌∙◌, sym, subst}
use Rattle.answer_text.specs.declared.refusal.Refusal.TheVariants as refusals
use Rattle.session_script.specs.declared.event.Event.TheVariants as events
use Rattle.blob_entries.specs.Book.{Book}
use Rattle.renderer_table.specs.Table.{Table}
use Rattle.blob_model.specs.History.{history_from, start}
use Rattle.blob_model.specs.Live.{is_live}
use Rattle.blob_model.specs.Session.{page_limit}
use Rattle.store_laws.proofs.LineRefusals.{drop_no_handle, drop_no_renderer, drop_refusal}
use Rattle.blob_store.specs.Says.{Says}
use Rattle.blob_store.specs.Seen.{parts_of}
use Rattle.blob_store.specs.Whole.{IsWhole, Whole}
use Rattle.blob_store.proofs.Faults.{none_due}
use Rattle.blob_store.proofs.Heard.{heard_drop, refused_still}
use Rattle.blob_store.proofs.Holding.{whole_dropped}
use Rattle.blob_store.proofs.Rooting.{rooted}
use Rattle.blob_store.proofs.parts.Parts.drop_handle.Goals as goal

pub let_go-requires : goal.let_go-requires
unfolding IsWhole
let_go-requires c =
    let parts = c.args.self.now in
    rooted parts.registry parts.renderers parts.urls parts.readers c.args.renderer.0 c.args.name (c.requires.holders.roots c.args.name)
    (none_due c.args.renderer c.args.name parts.renderers c.in-Ok.ensures.fault).1

pub returns-in-Ok-clause-whole : goal.returns-in-Ok-clause-whole
unfolding IsWhole
returns-in-Ok-clause-whole c =
    subst (λ (book : Book). Whole (record c.args.self.now { registry = book; renderers = c.drop_one.new.self })) (sym c.let_go.ensures)
    (whole_dropped c.args.self.now c.args.renderer c.args.name c.drop_one.new.self c.requires c.in-Ok.ensures.fault c.in-Ok.ensures.ok
    c.in-Ok.ensures.changes)

pub returns-in-Ok-clause-says : goal.returns-in-Ok-clause-says
unfolding Says
returns-in-Ok-clause-says c told table s groups legal still stands =
    heard_drop s groups c.args.self.now told table legal stands c.args.renderer c.args.name c.let_go.new.self c.drop_one.new.self c.in-Ok.ensures.fault
    c.let_go.ensures c.in-Ok.ensures.changes

pub returns-in-Err-NoRenderer-clause-says : goal.returns-in-Err-NoRenderer-clause-says
unfolding Says
returns-in-Err-NoRenderer-clause-says c told table s groups legal still stands =
    refused_still s groups c.args.self.now told table legal stands (events.Drop c.args.renderer c.args.name) (refusals.NoRenderer c.in-Err-NoRenderer.other)
    (record c.args.self.now { renderers = c.drop_one.new.self })
    (ap (λ (one : Table). record c.args.self.now { renderers = one }) c.in-Err-NoRenderer.ensures.err)
    (drop_refusal s (history_from start groups) (is_live (page_limit s) (history_from start groups)) (parts_of c.args.self.now) told table stands.between
    c.args.renderer c.args.name
    ∙ drop_no_renderer c.args.renderer c.args.name c.args.self.now.renderers c.in-Err-NoRenderer.other
    (rw c.in-Err-NoRenderer.field-0-is at c.in-Err-NoRenderer.ensures.fault))

pub returns-in-Err-NoHandle-clause-says : goal.returns-in-Err-NoHandle-clause-says
unfolding Says
returns-in-Err-NoHandle-clause-says c told table s groups legal still stands =
    refused_still s groups c.args.self.now told table legal stands (events.Drop c.args.renderer c.args.name)
    (refusals.NoHandle c.args.renderer c.args.name)
    (record c.args.self.now { renderers = c.drop_one.new.self })
    (ap (λ (one : Table). record c.args.self.now { renderers = one }) c.in-Err-NoHandle.ensures.err)
    (drop_refusal s (history_from start groups) (is_live (page_limit s) (history_from start groups)) (parts_of c.args.self.now) told table stands.between
    c.args.renderer c.args.name
    ∙ drop_no_handle c.args.renderer c.args.name c.args.self.now.renderers (rw c.in-Err-NoHandle.field-0-is at c.in-Err-NoHandle.ensures.fault))
