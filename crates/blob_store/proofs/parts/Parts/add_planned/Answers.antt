-- The parts are whole with it.
use Rattle.std.proofs.Common.{sym, ◌∙◌}
use Rattle.blob_store.specs.Whole.{IsWhole}
use Rattle.blob_store.proofs.AddedWhole.{added_whole}
use Rattle.blob_store.proofs.parts.Parts.add_planned.Goals as goal

pub returns-clause-whole : goal.returns-clause-whole
unfolding IsWhole
returns-clause-whole c =
    added_whole c.args.renderer c.args.name c.args.kind.now c.args.plan c.args.parts.now c.args.self.now c.place_blob.new.self
    c.in_ok-place_blob.ensures (sym c.registered-count.ensures.names ∙ c.registered-count.ensures.entries) c.requires.whole c.requires.can
