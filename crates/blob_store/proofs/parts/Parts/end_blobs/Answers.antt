-- What is told are the endings owed, and behind them the parts stand.
use Rattle.std.proofs.Common.{◌++◌, map, ap, ◌∙◌}
use Rattle.std.proofs.lemmas.Result.{on_ok_weaker}
use Rattle.registry_laws.specs.Laws.{ending_answer}
use Rattle.blob_store.specs.Ending.{Ends}
use Rattle.blob_store.specs.Whole.{IsWhole}
use Rattle.blob_store.proofs.EndsHeard.{ends_heard, objects_ended}
use Rattle.blob_store.proofs.parts.Parts.end_blobs.Goals as goal

pub returns-clause-objects : goal.returns-clause-objects
unfolding IsWhole
returns-clause-objects c =
    on_ok_weaker c.tell_ended.result
    (λ said. objects_ended c.args.self.now c.end_entries.new.self c.in-Ok.ended c.requires c.in-Ok.ensures.ends) c.tell_ended.ensures

pub returns-clause-ends : goal.returns-clause-ends
unfolding Ends IsWhole
returns-clause-ends c =
    on_ok_weaker c.tell_ended.result
    (λ said told table s h stands between distinct agree marks.
    ends_heard c.args.self.now c.end_entries.new.self c.in-Ok.ended c.requires c.in-Ok.ensures.ends c.in-Ok.ensures.whole s h
    (record { distinct = distinct; sound = c.end_entries.ensures.sound; agree = agree }) marks stands told table between
    c.args.answers.now c.tell_ended.new.answers
    (said ∙ ap (λ (list : _). c.args.answers.now ++ map ending_answer list) c.as_slice.ensures))
    c.tell_ended.ensures
