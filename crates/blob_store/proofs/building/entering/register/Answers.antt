-- What stands under the new name.
use Rattle.std.proofs.Common.{◌≡◌, length, sym, ◌∙◌, subst}
use Rattle.blob_store.specs.Entering.{AreAtHand}
use Rattle.blob_store.proofs.Entering.{can_bring, can_hold, none_brought, not_some, now_held, some_brought}
use Rattle.blob_store.proofs.building.entering.register.Goals.{in-Some, in_default-own}
use Rattle.blob_store.proofs.building.entering.register.Goals as goal

pub bring-requires : goal.bring-requires
bring-requires c =
    let sized : length c.args.registry.now.names ≡ length c.args.registry.now.entries =
    sym c.registered-count.ensures.names ∙ c.registered-count.ensures.entries in
    can_bring c.args.registry.now c.args.name c.args.owner c.args.kind.now c.args.arrival c.requires.fresh sized c.register.new.self c.in-Some.own
    c.in-Ok.ensures.ok (subst (AreAtHand c.args.arrival) c.in-Some.is c.requires.at_hand)

pub hold-requires : goal.hold-requires
hold-requires c =
    let sized : length c.args.registry.now.names ≡ length c.args.registry.now.entries =
    sym c.registered-count.ensures.names ∙ c.registered-count.ensures.entries in
    can_hold c.args.registry.now c.args.name c.args.owner c.args.kind.now c.args.arrival c.requires.fresh sized c.match-own-2.registry
    (elim c.match-own-2.branch [
      | in-Some w ↦ w.registry-is
          ∙ w.bring.ensures
          ∙ some_brought c.args.registry.now c.args.name c.args.owner c.args.kind.now c.args.arrival c.requires.fresh sized c.register.new.self w.in-Some.own
          c.in-Ok.ensures.ok w.in-Some.is (subst (AreAtHand c.args.arrival) w.in-Some.is c.requires.at_hand)
      | in_default-own w ↦ w.registry-is
          ∙ none_brought c.args.registry.now c.args.name c.args.owner c.args.kind.now c.args.arrival c.requires.fresh sized c.register.new.self
          c.in-Ok.ensures.ok (not_some c.args.arrival.own w.in_default-own.not-Some)
    ])

pub returns-clause-entry : goal.returns-clause-entry
returns-clause-entry c =
    let sized : length c.args.registry.now.names ≡ length c.args.registry.now.entries =
    sym c.registered-count.ensures.names ∙ c.registered-count.ensures.entries in
    c.hold.ensures
    ∙ now_held c.args.registry.now c.args.name c.args.owner c.args.kind.now c.args.arrival c.requires.fresh sized c.match-own-2.registry
    (elim c.match-own-2.branch [
      | in-Some w ↦ w.registry-is
          ∙ w.bring.ensures
          ∙ some_brought c.args.registry.now c.args.name c.args.owner c.args.kind.now c.args.arrival c.requires.fresh sized c.register.new.self w.in-Some.own
          c.in-Ok.ensures.ok w.in-Some.is (subst (AreAtHand c.args.arrival) w.in-Some.is c.requires.at_hand)
      | in_default-own w ↦ w.registry-is
          ∙ none_brought c.args.registry.now c.args.name c.args.owner c.args.kind.now c.args.arrival c.requires.fresh sized c.register.new.self
          c.in-Ok.ensures.ok (not_some c.args.arrival.own w.in_default-own.not-Some)
    ])
