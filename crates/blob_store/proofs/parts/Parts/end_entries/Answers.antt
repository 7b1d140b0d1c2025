-- What a pass leaves lets pieces be entered and rows be settled, and then the parts agree again.
use Rattle.std.proofs.Common.{ℕ, List, ap, subst, sym, ◌∙◌}
use Rattle.std.specs.Prelude.{flat_map, fold}
use Rattle.blob_entries.specs.Weights.{KeepsBounds}
use Rattle.blob_registry.specs.declared.ended_blob.EndedBlob.{EndedBlob}
use Rattle.quota_queue.specs.Queue.{without}
use Rattle.store_laws.specs.Passing.{ended_names}
use Rattle.blob_store.specs.Dropping.{settled_by, CanSettle, RowsGo}
use Rattle.blob_store.specs.Passing.{pieces_done, with_used, EntriesEnd}
use Rattle.blob_store.specs.Whole.{IsCharged, IsWhole}
use Rattle.blob_store.specs.declared.parts.Parts.{Parts}
use Rattle.blob_store.proofs.Ended.{entries_end, passed_enters, passed_settles, settles_used}
use Rattle.blob_store.proofs.WholeEnded.{whole_ended}
use Rattle.blob_store.proofs.parts.Parts.end_entries.Goals as goal

pub enter_done-requires : goal.enter_done-requires
unfolding IsCharged IsWhole
enter_done-requires c =
    let passed = c.in_ok-ended.ensures in
    passed_enters c.args.self.now c.finish.new.self c.in_ok-ended.ended c.requires passed.finishes passed.same passed.charged passed.rest

pub end_rows-requires : goal.end_rows-requires
unfolding IsCharged IsWhole
end_rows-requires c =
    let passed = c.in_ok-ended.ensures in
    let between = c.finish.new.self in
    subst CanSettle (sym c.in_ok-enter_done.ensures.used)
    (settles_used (flat_map (pieces_done between) c.as_slice.result.now) between
    (passed_settles c.args.self.now between c.in_ok-ended.ended c.requires passed.finishes passed.same passed.charged passed.rest))

ended : (c : goal.After-end_rows) → EntriesEnd c.in_ok-ended.ended c.args.self.now c.end_rows.new.self
unfolding IsCharged IsWhole
ended c =
    let passed = c.in_ok-ended.ensures in
    let between = c.finish.new.self in
    let used = c.enter_done.new.self in
    entries_end c.args.self.now between c.in_ok-ended.ended c.requires passed.finishes passed.same passed.charged passed.rest used c.end_rows.new.self
    (c.in_ok-enter_done.ensures.used ∙ ap (λ (list : List EndedBlob). with_used (flat_map (pieces_done between) list) between) c.as_slice.ensures)
    (subst (λ (list : List EndedBlob). RowsGo (fold (settled_by used.registry.names) used.rows (ended_names list))
    (fold (λ (queue : List (ℕ × ℕ)) (name : ℕ). without name queue) used.quota.waiting (ended_names list)) used c.end_rows.new.self)
    c.as_slice-2.ensures c.end_rows.ensures)

pub returns-clause-ends : goal.returns-clause-ends
returns-clause-ends c = ended c

pub returns-clause-whole : goal.returns-clause-whole
unfolding IsWhole
returns-clause-whole c =
    let registry = ap (λ (one : Parts). one.registry) c.end_rows.ensures.rest ∙ ap (λ (one : Parts). one.registry) c.in_ok-enter_done.ensures.used in
    whole_ended c.args.self.now c.end_rows.new.self c.in_ok-ended.ended c.requires (ended c) c.finish.ensures.sound
    (subst (KeepsBounds c.args.self.now.registry) (sym registry) c.in_ok-ended.ensures.bounds) c.end_rows.ensures.settles.charged
