-- What goes with the entries leaves the parts whole.
use Rattle.std.proofs.Common.{ℕ, List, subst}
use Rattle.std.specs.Prelude.{fold}
use Rattle.quota_queue.specs.Queue.{without}
use Rattle.blob_store.specs.Dropping.{settled_by, RowsGo}
use Rattle.blob_store.specs.Unheld.{EntriesGo}
use Rattle.blob_store.specs.Whole.{IsCharged, IsWhole}
use Rattle.blob_store.proofs.WholeLeft.{entries_go, settles_swept, whole_left}
use Rattle.blob_store.proofs.parts.Parts.drop_entries.Goals as goal

pub drop_rows-requires : goal.drop_rows-requires
unfolding IsCharged IsWhole
drop_rows-requires c =
    settles_swept c.args.self.now c.sweep_entries.new.self c.in-Ok.swept.dropped c.in-Ok.swept.freed c.requires c.in-Ok.ensures.swept c.in-Ok.ensures.gone
    c.in-Ok.ensures.charged

went : (c : goal.After-drop_rows) → EntriesGo c.in-Ok.swept.dropped c.in-Ok.swept.freed c.args.self.now c.drop_rows.new.self
unfolding IsCharged IsWhole
went c =
    let between = c.sweep_entries.new.self in
    entries_go c.args.self.now between c.in-Ok.swept.dropped c.in-Ok.swept.freed c.requires c.in-Ok.ensures.swept c.in-Ok.ensures.gone
    c.in-Ok.ensures.charged c.in-Ok.ensures.viewed c.drop_rows.new.self
    (subst (λ (list : List ℕ). RowsGo (fold (settled_by between.registry.names) between.rows list)
    (fold (λ (queue : List (ℕ × ℕ)) (name : ℕ). without name queue) between.quota.waiting list) between c.drop_rows.new.self) c.as_slice.ensures
    c.drop_rows.ensures)

pub returns-clause-whole : goal.returns-clause-whole
unfolding IsWhole
returns-clause-whole c =
    whole_left c.args.self.now c.drop_rows.new.self c.in-Ok.swept.dropped c.in-Ok.swept.freed c.requires (went c) c.drop_rows.ensures.settles.charged

pub returns-clause-goes : goal.returns-clause-goes
returns-clause-goes c = went c
