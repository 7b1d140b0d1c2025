-- Counts and charges agree behind a pass.
use Rattle.blob_store.specs.Whole.{IsCharged, IsWhole}
use Rattle.blob_store.proofs.Lasting.{charged_passed}
use Rattle.blob_store.proofs.parts.Parts.finish.Goals as goal

pub returns-clause-charged : goal.returns-clause-charged
unfolding IsCharged IsWhole
returns-clause-charged c =
    let old = c.args.self.now in
    let passed = c.in-Ok.ensures in
    charged_passed old.registry c.finish_pass.new.self c.in-Ok.ended c.registered-count.ensures.sound passed.finishes old.shares c.finish_pass.new.shares
    old.rows old.quota old.pages old.held c.requires.blobs.charged passed.items passed.counted
