-- A blob that isn't refused may come, and is heard.
use Rattle.std.proofs.Common.{◌≡◌, ℕ, List, sym, ap, subst, ◌∙◌}
use Rattle.session_script.specs.declared.event.Event.TheVariants as events
use Rattle.data_handles.specs.Boxes.{of_table}
use Rattle.data_handles.specs.Table.{Table}
use Rattle.data_handles.specs.contracts.boxed.BoxedDataHandle.TheImpl.{seen-value}
use Rattle.slice_rule.specs.Kind.{kept_type}
use Rattle.blob_store.specs.Admitting.{Admits}
use Rattle.blob_store.specs.Says.{Says}
use Rattle.blob_store.specs.Whole.{IsWhole}
use Rattle.blob_store.proofs.Heard.{heard_refused}
use Rattle.blob_store.proofs.HeardBuilds.{build_known, heard_built}
use Rattle.blob_store.proofs.MayCome.{may_build}
use Rattle.blob_store.proofs.parts.Parts.build.Goals as goal

pub admit-requires-clause-may : goal.admit-requires-clause-may
admit-requires-clause-may g c =
    may_build c.args.self.now (of_table (seen-value (g.dyn-1.0, g.dyn-1.1)).it c.args.handles.now) c.args.renderer c.args.name c.args.parts.now
    (sym c.in_ok-why.ensures ∙ c.in_default.is)

pub returns-in-Some-clause-says : goal.returns-in-Some-clause-says
unfolding Says IsWhole
returns-in-Some-clause-says g c told s groups legal still stands =
    heard_refused s groups c.args.self.now told (of_table (seen-value (g.dyn-1.0, g.dyn-1.1)).it c.args.handles.now) legal stands
    (events.Build c.args.renderer c.args.name c.args.kind.now c.args.parts.now) c.in-Some.why
    (build_known s groups c.args.renderer c.args.name c.args.kind.now c.args.parts.now c.args.self.now told
    (of_table (seen-value (g.dyn-1.0, g.dyn-1.1)).it c.args.handles.now) c.requires.whole stands (sym c.in_ok-why.ensures ∙ c.in-Some.is))

pub returns-clause-says : goal.returns-clause-says
unfolding Says IsWhole
returns-clause-says g c told s groups legal still stands =
    let table : Table = of_table (seen-value (g.dyn-1.0, g.dyn-1.1)).it c.args.handles.now in
    let later : Table = of_table (seen-value (g.dyn-1.0, g.dyn-1.1)).it c.admit.new.handles in
    let kind : c.as_slice-2.result.now ≡ kept_type c.args.kind.now =
    c.as_slice-2.ensures ∙ c.in_ok-kept.ensures ∙ ap kept_type c.as_slice.ensures in
    heard_built s groups legal c.args.renderer c.args.name c.args.kind.now c.args.parts.now c.args.self.now c.admit.new.self told table c.requires.whole
    c.in_ok-answer.ensures.whole (sym c.registered-count.ensures.names ∙ c.registered-count.ensures.entries) stands
    (sym c.in_ok-why.ensures ∙ c.in_default.is) c.in_ok-answer.answer later
    (subst (λ (kept : List ℕ). Admits c.args.renderer c.args.name kept c.args.parts.now c.args.self.now table c.in_ok-answer.answer c.admit.new.self later)
    kind c.in_ok-answer.ensures.admits)
