-- A slice that isn't refused may come, and is heard.
use Rattle.std.proofs.Common.{◌≡◌, ℕ, List, [], ◌∷◌, sym, ap, subst, ◌∙◌, None, Some}
use Rattle.session_script.specs.declared.event.Event.TheVariants as events
use Rattle.session_script.specs.declared.event.Part.{Part}
use Rattle.data_handles.specs.Boxes.{of_table}
use Rattle.data_handles.specs.Table.{Table}
use Rattle.data_handles.specs.contracts.boxed.BoxedDataHandle.TheImpl.{seen-value}
use Rattle.slice_rule.specs.Kind.{kept_type}
use Rattle.store_laws.specs.Deciding.{slice_refusal_in}
use Rattle.blob_store.specs.Admitting.{Admits, MayCome}
use Rattle.blob_store.specs.Says.{Says}
use Rattle.blob_store.specs.Seen.{parts_of}
use Rattle.blob_store.specs.Whole.{IsWhole}
use Rattle.blob_store.proofs.Heard.{heard_refused}
use Rattle.blob_store.proofs.HeardSlices.{heard_sliced, slice_known}
use Rattle.blob_store.proofs.MayCome.{few_under, may_slice}
use Rattle.blob_store.proofs.parts.Parts.slice.Goals as goal

pub slice_part-requires : goal.slice_part-requires
unfolding IsWhole
slice_part-requires g c = few_under c.args.self.now c.requires.whole c.args.source

pub admit-requires-clause-may : goal.admit-requires-clause-may
unfolding IsWhole
admit-requires-clause-may g c =
    let parts = c.args.self.now in
    let table : Table = of_table (seen-value (g.dyn-1.0, g.dyn-1.1)).it c.args.handles.now in
    subst (λ (line : List Part). MayCome c.args.renderer c.args.name line parts table) (sym c.slice_part.ensures)
    (may_slice parts c.requires.whole table c.args.renderer c.args.name c.args.source c.args.start c.args.end
    (subst (λ (line : List Part). slice_refusal_in (parts_of parts) table c.args.renderer c.args.name c.args.source line ≡ None) c.slice_part.ensures
    (sym c.in_ok-why.ensures ∙ c.in_default.is)))

pub returns-in-Some-clause-says : goal.returns-in-Some-clause-says
unfolding Says IsWhole
returns-in-Some-clause-says g c told s groups legal still stands =
    let parts = c.args.self.now in
    let table : Table = of_table (seen-value (g.dyn-1.0, g.dyn-1.1)).it c.args.handles.now in
    heard_refused s groups parts told table legal stands
    (events.Slice c.args.renderer c.args.name c.args.source c.args.start c.args.end c.args.kind.now) c.in-Some.why
    (slice_known s groups c.args.renderer c.args.name c.args.source c.args.start c.args.end c.args.kind.now parts told table c.requires.whole stands
    (subst (λ (line : List Part). slice_refusal_in (parts_of parts) table c.args.renderer c.args.name c.args.source line ≡ Some c.in-Some.why)
    c.slice_part.ensures (sym c.in_ok-why.ensures ∙ c.in-Some.is)))

pub returns-clause-says : goal.returns-clause-says
unfolding Says IsWhole
returns-clause-says g c told s groups legal still stands =
    let parts = c.args.self.now in
    let table : Table = of_table (seen-value (g.dyn-1.0, g.dyn-1.1)).it c.args.handles.now in
    let later : Table = of_table (seen-value (g.dyn-1.0, g.dyn-1.1)).it c.admit.new.handles in
    let kind : c.as_slice-2.result.now ≡ kept_type c.args.kind.now =
    c.as_slice-2.ensures ∙ c.in_ok-kept.ensures ∙ ap kept_type c.as_slice.ensures in
    heard_sliced s groups legal c.args.renderer c.args.name c.args.source c.args.start c.args.end c.args.kind.now parts c.admit.new.self told table
    c.requires.whole c.in_ok-answer.ensures.whole (sym c.registered-count.ensures.names ∙ c.registered-count.ensures.entries) stands
    (subst (λ (line : List Part). slice_refusal_in (parts_of parts) table c.args.renderer c.args.name c.args.source line ≡ None) c.slice_part.ensures
    (sym c.in_ok-why.ensures ∙ c.in_default.is)) c.in_ok-answer.answer later
    (subst (λ (line : List Part). Admits c.args.renderer c.args.name (kept_type c.args.kind.now) line parts table c.in_ok-answer.answer c.admit.new.self later)
    c.slice_part.ensures
    (subst (λ (kept : List ℕ). Admits c.args.renderer c.args.name kept (c.slice_part.result ∷ []) parts table c.in_ok-answer.answer c.admit.new.self later)
    kind c.in_ok-answer.ensures.admits))
