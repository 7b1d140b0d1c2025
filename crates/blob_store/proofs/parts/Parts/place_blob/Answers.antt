-- What is laid down can be entered.
use Rattle.std.proofs.Common.{◌≡◌, refl, sym, subst, ◌∙◌}
use Rattle.blob_registry.specs.Registering.{CanRegister}
use Rattle.blob_store.specs.Adding.{arrival_of}
use Rattle.blob_store.specs.Entering.{arrived, AreAtHand, Enters}
use Rattle.blob_store.specs.Whole.{IsWhole}
use Rattle.blob_store.specs.declared.building.entering.Arrival.{Arrival}
use Rattle.blob_store.proofs.Added.{arrival_so, at_hand, can_register, few_still, not_waiting}
use Rattle.blob_store.proofs.parts.Parts.place_blob.Goals as goal

pub lay-requires-clause-fresh : goal.lay-requires-clause-fresh
unfolding IsWhole
lay-requires-clause-fresh c =
    not_waiting c.args.renderer c.args.name c.args.plan c.args.parts.now c.args.self.now c.requires.whole c.requires.can

pub enter-requires-clause-can : goal.enter-requires-clause-can
unfolding IsWhole
enter-requires-clause-can c =
    let is : c.in_ok-arrival.arrival ≡ arrival_of c.args.plan c.args.parts.now c.args.self.now c.in_ok-laid.laid =
    arrival_so c.args.renderer c.args.name c.args.plan c.args.parts.now c.args.self.now c.requires.whole c.requires.can c.in_ok-laid.laid c.lay.new.self
    c.in_ok-laid.ensures c.lay.new.self.limits.page c.line_weight-weight.result c.len-first.result c.in_ok-arrival.arrival refl
    c.line_weight-weight.ensures c.len-first.ensures c.in_ok-arrival.ensures in
    subst (λ (arrival : Arrival). CanRegister c.lay.new.self.registry arrival.size arrival.recipe arrival.status) (sym is)
    (can_register c.args.renderer c.args.name c.args.plan c.args.parts.now c.args.self.now c.requires.whole c.requires.can c.in_ok-laid.laid c.lay.new.self
    c.in_ok-laid.ensures (sym c.registered-count.ensures.names ∙ c.registered-count.ensures.entries))

pub enter-requires-clause-at_hand : goal.enter-requires-clause-at_hand
unfolding IsWhole
enter-requires-clause-at_hand c =
    let is : c.in_ok-arrival.arrival ≡ arrival_of c.args.plan c.args.parts.now c.args.self.now c.in_ok-laid.laid =
    arrival_so c.args.renderer c.args.name c.args.plan c.args.parts.now c.args.self.now c.requires.whole c.requires.can c.in_ok-laid.laid c.lay.new.self
    c.in_ok-laid.ensures c.lay.new.self.limits.page c.line_weight-weight.result c.len-first.result c.in_ok-arrival.arrival refl
    c.line_weight-weight.ensures c.len-first.ensures c.in_ok-arrival.ensures in
    subst (λ (arrival : Arrival). AreAtHand arrival arrival.own) (sym is)
    (at_hand c.args.renderer c.args.name c.args.plan c.args.parts.now c.args.self.now c.requires.whole c.requires.can c.in_ok-laid.laid c.lay.new.self
    c.in_ok-laid.ensures)

pub enter-requires-clause-few : goal.enter-requires-clause-few
unfolding IsWhole
enter-requires-clause-few c =
    few_still c.args.renderer c.args.name c.args.plan c.args.parts.now c.args.self.now c.requires.whole c.requires.can c.in_ok-laid.laid c.lay.new.self
    c.in_ok-laid.ensures

pub returns : goal.returns
unfolding IsWhole
returns c =
    let is : c.in_ok-arrival.arrival ≡ arrival_of c.args.plan c.args.parts.now c.args.self.now c.in_ok-laid.laid =
    arrival_so c.args.renderer c.args.name c.args.plan c.args.parts.now c.args.self.now c.requires.whole c.requires.can c.in_ok-laid.laid c.lay.new.self
    c.in_ok-laid.ensures c.lay.new.self.limits.page c.line_weight-weight.result c.len-first.result c.in_ok-arrival.arrival refl
    c.line_weight-weight.ensures c.len-first.ensures c.in_ok-arrival.ensures in
    record {
      laid = c.in_ok-laid.laid;
      between = c.lay.new.self;
      lays = c.in_ok-laid.ensures;
      enters = subst (λ (arrival : Arrival).
          Enters c.args.renderer c.args.name (arrived c.args.renderer c.args.kind.now arrival) arrival.row c.lay.new.self c.enter.new.self) is
          c.in_ok-enter.ensures;
    }
