-- The own pieces behind the ranges.
use Rattle.std.proofs.Common.{◌≡◌, List, false, length, map, replicate, ◌∙◌, sym, ap, subst, arith}
use Rattle.blob_words.specs.declared.plan.Plan.{Plan}
use Rattle.blob_words.specs.declared.plan.Plan.TheVariants as plans
use Rattle.blob_items.specs.declared.view.View.{View}
use Rattle.blob_store.specs.Laying.{slot_of, Lays}
use Rattle.blob_store.specs.declared.row.Sending.{Sending}
use Rattle.blob_store.specs.declared.row.Sending.TheVariants.{Waiting, Writing}
use Rattle.blob_store.proofs.Laying.{has_inline, laid_filed, laid_inline, laid_waiting}
use Rattle.blob_store.proofs.OwnBytes.{own_within}
use Rattle.blob_store.proofs.parts.Parts.lay.Goals as goal

pub lay_waiting-requires-clause-fits : goal.lay_waiting-requires-clause-fits
lay_waiting-requires-clause-fits c = omega (arith, own_within c.args.parts.now, c.requires.fits)

pub lay_filed-requires-clause-fits : goal.lay_filed-requires-clause-fits
lay_filed-requires-clause-fits c = omega (arith, own_within c.args.parts.now, c.requires.fits)

pub lay_inline-requires : goal.lay_inline-requires
lay_inline-requires c =
    let has = has_inline c.args.name c.args.parts.now c.args.self.now c.put_ranges.new.shares c.in_ok-ranges.ranges c.in_ok-ranges.ensures c.args.plan
    c.requires.room c.in_default.not-Shared c.in_default.not-File in
    record {
      few = c.requires.few;
      held = c.requires.held;
      fits = omega (arith, own_within c.args.parts.now, c.requires.fits);
      told = has.0;
      room = has.1;
    }

pub returns-in_ok-lay_waiting-in-Shared : goal.returns-in_ok-lay_waiting-in-Shared
returns-in_ok-lay_waiting-in-Shared c =
    subst (λ (plan : Plan). Lays c.args.name plan c.args.parts.now c.args.self.now
    (record { ranges = c.in_ok-ranges.ranges; pieces = c.new.result; sending = Waiting }) c.lay_waiting.new.self) (sym c.in-Shared.is)
    (subst (λ (views : List View). Lays c.args.name (plans.Shared c.in-Shared.field-0) c.args.parts.now c.args.self.now
    (record { ranges = c.in_ok-ranges.ranges; pieces = views; sending = Waiting }) c.lay_waiting.new.self) (sym c.new.ensures)
    (laid_waiting c.args.name c.args.parts.now c.args.self.now c.put_ranges.new.shares c.in_ok-ranges.ranges c.in_ok-ranges.ensures c.in-Shared.field-0
    c.lay_waiting.new.self c.in_ok-lay_waiting-in-Shared.ensures))

pub returns-in_ok-sending-in-File : goal.returns-in_ok-sending-in-File
returns-in_ok-sending-in-File c =
    let sending : c.in_ok-sending-in-File.sending
    ≡ Writing (map slot_of c.in_ok-pieces-in-File.pieces) (replicate (length c.in_ok-pieces-in-File.pieces) false) =
    c.in_ok-sending-in-File.ensures
    ∙ ap (λ (views : List View). Writing (map slot_of views) (replicate (length views) false)) c.as_slice.ensures in
    subst (λ (plan : Plan). Lays c.args.name plan c.args.parts.now c.args.self.now
    (record { ranges = c.in_ok-ranges.ranges; pieces = c.in_ok-pieces-in-File.pieces; sending = c.in_ok-sending-in-File.sending }) c.lay_filed.new.self)
    (sym c.in-File.is)
    (subst (λ (one : Sending). Lays c.args.name (plans.File c.in-File.field-0) c.args.parts.now c.args.self.now
    (record { ranges = c.in_ok-ranges.ranges; pieces = c.in_ok-pieces-in-File.pieces; sending = one }) c.lay_filed.new.self) (sym sending)
    (laid_filed c.args.name c.args.parts.now c.args.self.now c.put_ranges.new.shares c.in_ok-ranges.ranges c.in_ok-ranges.ensures c.in-File.field-0
    c.in_ok-pieces-in-File.pieces c.lay_filed.new.self c.in_ok-pieces-in-File.ensures.put c.in_ok-pieces-in-File.ensures.brought
    c.in_ok-pieces-in-File.ensures.rest))

pub returns-in_ok-pieces-in_default : goal.returns-in_ok-pieces-in_default
returns-in_ok-pieces-in_default c =
    laid_inline c.args.name c.args.parts.now c.args.self.now c.put_ranges.new.shares c.in_ok-ranges.ranges c.in_ok-ranges.ensures c.args.plan
    c.in_ok-pieces-in_default.pieces c.lay_inline.new.self c.requires.room c.in_default.not-Shared c.in_default.not-File
    c.in_ok-pieces-in_default.ensures.put c.in_ok-pieces-in_default.ensures.brought c.in_ok-pieces-in_default.ensures.rest
