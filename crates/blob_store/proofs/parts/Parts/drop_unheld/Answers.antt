-- The objects of what goes can be dropped, and what is told are the drops owed.
use Rattle.std.proofs.Common.{◌++◌, List, map, ap, subst, sym, ◌∙◌}
use Rattle.std.specs.Prelude.{fold}
use Rattle.std.proofs.lemmas.Result.{on_ok_weaker}
use Rattle.answer_text.specs.declared.answer.Answer.TheVariants.{Dropped}
use Rattle.data_handles.specs.Boxes.{of_table}
use Rattle.data_handles.specs.Table.{Table}
use Rattle.data_handles.specs.contracts.boxed.BoxedDataHandle.TheImpl.{seen-value}
use Rattle.item_shares.specs.declared.item.Item.{Item}
use Rattle.store_laws.specs.Releasing.{released_by, AreReleasable}
use Rattle.blob_store.specs.Says.{scene}
use Rattle.blob_store.specs.Unheld.{AreUnheld, Drops, HaveObjects}
use Rattle.blob_store.specs.Whole.{IsWhole}
use Rattle.blob_store.proofs.Droppable.{dropped_behind}
use Rattle.blob_store.proofs.DropsHeard.{drops_heard}
use Rattle.blob_store.proofs.ObjectsLeft.{objects_left, releasable_unheld}
use Rattle.blob_store.proofs.parts.Parts.drop_unheld.Goals as goal

pub release-requires : goal.release-requires
unfolding IsWhole
release-requires g c =
    let table = of_table (seen-value (g.dyn-1.0, g.dyn-1.1)).it c.args.handles.now in
    let goes = c.in-Ok.ensures.goes in
    subst (λ (list : List Item). AreReleasable table list) (sym c.as_slice.ensures)
    (releasable_unheld table c.args.self.now.shares c.drop_entries.new.self.shares c.in-Ok.swept.freed goes.pieces c.requires.objects
    c.requires.whole.stored.ranges goes.freed_so)

pub returns-clause-objects : goal.returns-clause-objects
unfolding IsWhole
returns-clause-objects g c =
    let table = of_table (seen-value (g.dyn-1.0, g.dyn-1.1)).it c.args.handles.now in
    let goes = c.in-Ok.ensures.goes in
    on_ok_weaker c.tell_dropped.result (λ said.
    subst (λ (one : Table). HaveObjects c.drop_entries.new.self.shares one)
    (sym (c.release.ensures ∙ ap (fold released_by table) c.as_slice.ensures))
    (objects_left table c.args.self.now.shares c.drop_entries.new.self.shares c.in-Ok.swept.freed goes.pieces c.requires.objects
    c.requires.whole.stored.ranges goes.freed_so)) c.tell_dropped.ensures

pub returns-clause-drops : goal.returns-clause-drops
unfolding Drops IsWhole
returns-clause-drops g c =
    let table = of_table (seen-value (g.dyn-1.0, g.dyn-1.1)).it c.args.handles.now in
    let old = c.args.self.now in
    let new = c.drop_entries.new.self in
    let goes = c.in-Ok.ensures.goes in
    on_ok_weaker c.tell_dropped.result
    (λ said told s h stands between distinct agree covers.
    subst (λ (one : Table). AreUnheld s h c.args.answers.now c.tell_dropped.new.answers (scene new told one))
    (sym (c.release.ensures ∙ ap (fold released_by table) c.as_slice.ensures))
    (drops_heard old new c.in-Ok.swept.dropped c.in-Ok.swept.freed c.requires.whole c.in-Ok.ensures.whole goes s h
    (record { distinct = distinct; sound = c.drop_entries.ensures.sound; agree = agree }) stands told table between covers
    c.args.answers.now c.tell_dropped.new.answers
    (said ∙ ap (λ (list : _). c.args.answers.now ++ map (λ (name : _). Dropped name) list) c.as_slice-2.ensures)))
    c.tell_dropped.ensures

pub returns-clause-behind : goal.returns-clause-behind
unfolding IsWhole
returns-clause-behind g c =
    let table = of_table (seen-value (g.dyn-1.0, g.dyn-1.1)).it in
    on_ok_weaker c.tell_dropped.result
    (λ drops told.
    dropped_behind c.args.answers.now c.tell_dropped.new.answers c.args.self.now told (table c.args.handles.now)
    (scene c.drop_entries.new.self told (table c.release.new.handles)) c.requires.whole c.first_alive-first.ensures.ordered (drops told))
    (returns-clause-drops g c)
