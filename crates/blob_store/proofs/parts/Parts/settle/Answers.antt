-- With what is told the line is a legal group, behind which the parts stand.
use Rattle.std.specs.Prelude.{Result, Ok, Err, OnOk}
use Rattle.data_handles.specs.Boxes.{of_table}
use Rattle.data_handles.specs.contracts.boxed.BoxedDataHandle.TheImpl.{seen-value}
use Rattle.blob_store.specs.Whole.{IsWhole}
use Rattle.blob_store.proofs.Settled.{line_settled}
use Rattle.blob_store.proofs.parts.Parts.settle.Goals as goal

-- what follows from three things that an answer promises
from_three : {T E P Q R S : Type 0} (result : Result T E) → (P → Q → R → S) → OnOk result P → OnOk result Q → OnOk result R → OnOk result S
from_three (Ok value) follows one two three = follows one two three
from_three (Err fault) follows one two three = tt

pub returns-clause-settles : goal.returns-clause-settles
unfolding IsWhole
returns-clause-settles g c =
    let table = of_table (seen-value (g.dyn-1.0, g.dyn-1.1)).it in
    from_three c.make_room.result
    (λ whole swept room. line_settled (g.D.PageDisk.changes c.args.disk.now) (g.D.PageDisk.changes c.make_room.new.disk) (table c.args.handles.now)
    (table c.drop_and_end.new.handles) c.args.self.now c.drop_and_end.new.self c.make_room.new.self c.args.answers.now c.drop_and_end.new.answers
    c.make_room.new.answers whole swept (c.in-Ok.ensures.ends (g.D.PageDisk.changes c.args.disk.now)) (room (table c.drop_and_end.new.handles)))
    c.make_room.ensures.whole c.make_room.ensures.swept c.make_room.ensures.room
