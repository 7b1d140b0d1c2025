-- It can be entered, and the parts are whole with it.
use Rattle.std.proofs.Common.{sym, subst, ◌∙◌}
use Rattle.blob_store.specs.Entering.{arrived, Enters}
use Rattle.blob_store.specs.Whole.{IsWhole}
use Rattle.blob_store.specs.declared.building.entering.Arrival.{Arrival}
use Rattle.blob_store.proofs.Added.{few_handles}
use Rattle.blob_store.proofs.Breaking.{whole_broken}
use Rattle.blob_store.proofs.parts.Parts.add_broken.Goals as goal

pub enter-requires-clause-few : goal.enter-requires-clause-few
unfolding IsWhole
enter-requires-clause-few c = few_handles c.args.renderer.0 c.args.name c.args.self.now c.requires.whole c.requires.can.fresh

pub returns-clause-whole : goal.returns-clause-whole
unfolding IsWhole
returns-clause-whole c =
    whole_broken c.args.renderer c.args.name c.args.kind.now c.args.why c.args.parts.now c.args.self.now c.enter.new.self c.requires.whole c.requires.can
    (subst (λ (arrival : Arrival).
    Enters c.args.renderer c.args.name (arrived c.args.renderer c.args.kind.now arrival) arrival.row c.args.self.now c.enter.new.self)
    c.in_ok-arrival.ensures c.in_ok-enter.ensures)
    (sym c.registered-count.ensures.names ∙ c.registered-count.ensures.entries)
