use Rattle.std.proofs.Common.{◌≡◌, ◌+◌, ◌∷◌, List, drop, ap, sym, subst, ◌∙◌}
use Rattle.std.specs.List.{AllByRecursion}
use Rattle.std.proofs.lemmas.List.{drop_more}
use Rattle.blob_entries.specs.declared.step.Step.{Step}
use Rattle.blob_entries.proofs.Holdings.{source_among}
use Rattle.blob_entries.proofs.Making.{made_more, own_more, room_for}
use Rattle.blob_entries.specs.Making.{IsInside, IsMade}
use Rattle.blob_entries.specs.Sound.{AreOwn}
use Rattle.blob_entries.proofs.make.make.Goals as goal

pub put_step-requires-clause-room : goal.put_step-requires-clause-room
put_step-requires-clause-room c =
    let rest : List Step = drop (c.loop-step.step-index + 1) c.args.steps.now in
    let is : drop c.loop-step.step-index c.args.steps.now ≡ c.step-item.result ∷ rest = drop_more c.args.steps.now c.loop-step.step-index c.step-item.result
    c.loop-step-test.true ∙ ap (λ (s : Step). s ∷ rest) (sym c.step-item.is) in
    let made = subst (λ (list : List Step). IsMade c.args.names.now c.args.entries.now c.args.steps.now c.args.own.now c.args.shares.now list
    c.loop-step.left.now c.loop-step.views c.loop-step.shares) is c.loop-step.invariant.made in
    room_for c.args.names.now c.args.entries.now c.loop-step.shares c.step-item.result rest (source_among c.args.names.now c.args.entries.now) made.room

pub loop-step-preserved : goal.loop-step-preserved
loop-step-preserved c =
    let rest : List Step = drop (c.loop-step.step-index + 1) c.args.steps.now in
    let is : drop c.loop-step.step-index c.args.steps.now ≡ c.step-item.result ∷ rest = drop_more c.args.steps.now c.loop-step.step-index c.step-item.result
    c.loop-step-test.true ∙ ap (λ (s : Step). s ∷ rest) (sym c.step-item.is) in
    let made = subst (λ (list : List Step). IsMade c.args.names.now c.args.entries.now c.args.steps.now c.args.own.now c.args.shares.now list
    c.loop-step.left.now c.loop-step.views c.loop-step.shares) is c.loop-step.invariant.made in
    let own = subst (λ (list : List Step). AreOwn list c.loop-step.left.now) is c.loop-step.invariant.own in
    let inside = subst (λ (list : List Step). AllByRecursion (IsInside c.args.names.now c.args.entries.now) list) is c.loop-step.invariant.inside in
    let back : c.split_at.result.1.now ≡ drop c.in_ok-taken.taken c.loop-step.left.now = c.split_at.ensures.back in
    rw back (record {
      inside = inside.1;
      own = own_more c.args.names.now c.args.entries.now c.step-item.result rest c.loop-step.left.now c.loop-step.views c.put_step.new.views
          c.in_ok-taken.taken c.loop-step.shares c.put_step.new.shares own c.in_ok-taken.ensures;
      made = made_more c.args.names.now c.args.entries.now c.args.steps.now c.args.own.now c.args.shares.now c.step-item.result rest c.loop-step.left.now
          c.loop-step.views c.put_step.new.views c.in_ok-taken.taken c.loop-step.shares c.put_step.new.shares
          (source_among c.args.names.now c.args.entries.now) made own c.in_ok-taken.ensures;
    })
