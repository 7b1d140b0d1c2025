-- A handle that is passed on, and why one isn't.
use Rattle.std.proofs.Common.{◌∙◌, ap, sym, subst}
use Rattle.std.specs.Option.{option_map}
use Rattle.answer_text.specs.declared.refusal.Refusal.TheVariants as refusals
use Rattle.session_script.specs.declared.event.Event.TheVariants as events
use Rattle.blob_entries.specs.Book.{Book}
use Rattle.renderer_table.specs.Table.{Table}
use Rattle.blob_model.specs.History.{history_from, start}
use Rattle.blob_model.specs.Live.{is_live}
use Rattle.blob_model.specs.Session.{page_limit}
use Rattle.store_laws.proofs.TableRefusals.{pass_known, pass_refusal}
use Rattle.blob_store.specs.Says.{Says}
use Rattle.blob_store.specs.Seen.{parts_of}
use Rattle.blob_store.specs.Whole.{with_line, IsWhole, Whole}
use Rattle.blob_store.proofs.Heard.{refused_still}
use Rattle.blob_store.proofs.HeardTables.{heard_pass}
use Rattle.blob_store.proofs.Holding.{whole_counted}
use Rattle.blob_store.proofs.Rerooting.{count_below, giver_roots, stands_below, whole_passed}
use Rattle.blob_store.proofs.parts.Parts.pass.Goals as goal

pub pass-requires : goal.pass-requires
unfolding IsWhole
pass-requires c = count_below c.args.self.now c.args.to c.args.name c.requires.whole c.requires.few

pub hold-requires : goal.hold-requires
unfolding IsWhole
hold-requires c =
    let parts = c.args.self.now in
    stands_below parts.registry c.args.name parts.lines
    (giver_roots parts c.args.renderer c.args.to c.args.name c.requires.whole c.in-Ok.ensures.none_due)
    (c.requires.whole.holders.few c.args.name) c.requires.few

pub returns-in-Ok-clause-whole : goal.returns-in-Ok-clause-whole
unfolding IsWhole
returns-in-Ok-clause-whole c =
    subst (λ (book : Book). Whole (with_line (record c.args.self.now { registry = book; renderers = c.pass.new.self }))) (sym c.hold.ensures)
    (whole_passed c.args.self.now c.args.renderer c.args.to c.args.name c.pass.new.self c.requires.whole c.in-Ok.ensures.none_due c.in-Ok.ensures.ok
    c.in-Ok.ensures.changes)

pub returns-in-Ok-clause-says : goal.returns-in-Ok-clause-says
unfolding Says
returns-in-Ok-clause-says c told table s groups legal still stands =
    heard_pass s groups c.args.self.now told table legal stands c.args.renderer c.args.to c.args.name c.hold.new.self c.pass.new.self
    c.in-Ok.ensures.none_due c.hold.ensures c.in-Ok.ensures.changes

pub returns-in-Err-NoRenderer-clause-whole : goal.returns-in-Err-NoRenderer-clause-whole
unfolding IsWhole
returns-in-Err-NoRenderer-clause-whole c =
    subst (λ (renderers : Table). Whole (with_line (record c.args.self.now { renderers = renderers }))) (sym c.in-Err-NoRenderer.ensures.fault.0)
    (whole_counted c.args.self.now c.requires.whole)

pub returns-in-Err-NoHandle-clause-whole : goal.returns-in-Err-NoHandle-clause-whole
unfolding IsWhole
returns-in-Err-NoHandle-clause-whole c =
    subst (λ (renderers : Table). Whole (with_line (record c.args.self.now { renderers = renderers }))) (sym c.in-Err-NoHandle.ensures.fault.0)
    (whole_counted c.args.self.now c.requires.whole)

pub returns-in-Err-NoRenderer-clause-says : goal.returns-in-Err-NoRenderer-clause-says
unfolding Says
returns-in-Err-NoRenderer-clause-says c told table s groups legal still stands =
    refused_still s groups c.args.self.now told table legal stands (events.Pass c.args.renderer c.args.to c.args.name)
    (refusals.NoRenderer c.in-Err-NoRenderer.other)
    (record c.args.self.now { renderers = c.pass.new.self })
    (ap (λ (one : Table). record c.args.self.now { renderers = one }) (rw c.in-Err-NoRenderer.field-0-is at c.in-Err-NoRenderer.ensures.fault).0)
    (pass_known s (history_from start groups) (is_live (page_limit s) (history_from start groups)) (parts_of c.args.self.now) told table stands.between
    c.args.renderer c.args.to c.args.name
    ∙ ap (option_map (pass_refusal c.args.renderer c.args.name)) (rw c.in-Err-NoRenderer.field-0-is at c.in-Err-NoRenderer.ensures.fault).1)

pub returns-in-Err-NoHandle-clause-says : goal.returns-in-Err-NoHandle-clause-says
unfolding Says
returns-in-Err-NoHandle-clause-says c told table s groups legal still stands =
    refused_still s groups c.args.self.now told table legal stands (events.Pass c.args.renderer c.args.to c.args.name)
    (refusals.NoHandle c.args.renderer c.args.name)
    (record c.args.self.now { renderers = c.pass.new.self })
    (ap (λ (one : Table). record c.args.self.now { renderers = one }) (rw c.in-Err-NoHandle.field-0-is at c.in-Err-NoHandle.ensures.fault).0)
    (pass_known s (history_from start groups) (is_live (page_limit s) (history_from start groups)) (parts_of c.args.self.now) told table stands.between
    c.args.renderer c.args.to c.args.name
    ∙ ap (option_map (pass_refusal c.args.renderer c.args.name)) (rw c.in-Err-NoHandle.field-0-is at c.in-Err-NoHandle.ensures.fault).1)
