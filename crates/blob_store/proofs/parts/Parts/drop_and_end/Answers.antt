-- Behind lists 1 to 3 the parts stand as the late lists ask.
use Rattle.data_handles.specs.Boxes.{of_table}
use Rattle.data_handles.specs.contracts.boxed.BoxedDataHandle.TheImpl.{seen-value}
use Rattle.blob_store.specs.Whole.{IsWhole}
use Rattle.blob_store.proofs.Settled.{over, swept_so}
use Rattle.blob_store.proofs.parts.Parts.drop_and_end.Goals as goal

pub drop_unheld-requires-2-clause-objects : goal.drop_unheld-requires-2-clause-objects
drop_unheld-requires-2-clause-objects g c =
    c.in-Ok-end_blobs.ensures.objects (of_table (seen-value (g.dyn-1.0, g.dyn-1.1)).it c.drop_unheld.new.handles) c.in-Ok.ensures.objects

pub returns-clause-swept : goal.returns-clause-swept
returns-clause-swept g c = swept_so c.end_blobs.new.self c.drop_unheld-2.new.self c.in-Ok-drop_unheld.ensures.swept c.end-end.ensures.counts

pub returns-clause-ends : goal.returns-clause-ends
unfolding IsWhole
returns-clause-ends g c = λ told.
    let table = of_table (seen-value (g.dyn-1.0, g.dyn-1.1)).it in
    over told (table c.args.handles.now) (table c.drop_unheld.new.handles) (table c.drop_unheld-2.new.handles) c.args.self.now c.drop_unheld.new.self
    c.end_blobs.new.self c.drop_unheld-2.new.self c.args.answers.now c.drop_unheld.new.answers c.end_blobs.new.answers c.drop_unheld-2.new.answers
    c.requires.whole c.first_alive-first.ensures.ordered c.registered-count.ensures.sound c.in-Ok.ensures.swept (c.in-Ok.ensures.drops told)
    (c.in-Ok-end_blobs.ensures.ends told (table c.drop_unheld.new.handles)) (c.in-Ok-drop_unheld.ensures.drops told)
