use Rattle.std.proofs.Common.{◌*◌, ap, sym, refl, ◌∙◌, arith}
use Rattle.hex_lanes.specs.Digits.{joined}
use Rattle.hex_lanes.proofs.Loops.{AllPass-chunk, Spells_all, decode_more, decode_pair, nothing_spelled, spelled_decodes, spelled_digits}
use Rattle.hex_lanes.proofs.Spelling.{digits_from_small, small_from_digits}
use Rattle.hex_lanes.proofs.decode.decode_into.Goals as goal

pub blocks-2-init : goal.blocks-2-init
blocks-2-init c = (omega arith, nothing_spelled)

pub returns-then-not-are_small-clause-digits : goal.returns-then-not-are_small-clause-digits
returns-then-not-are_small-clause-digits c = (
  λ e. cc e,
  λ all.
      let small = small_from_digits _ (AllPass-chunk c.args.text.now (2 * c.blocks-2.at) 32 all) in
      sym c.if-not-are_small.true ∙ c.are_small.ensures.1 (λ k. rw c.values-values.ensures (small k)),
)

pub blocks-2-preserved : goal.blocks-2-preserved
blocks-2-preserved c =
    let small = c.are_small.ensures.0 c.if-not-are_small.false in
    let digits = digits_from_small _ (λ k. rw c.values-values.ensures at (small k)) in
    decode_more c.args.text.now c.blocks-2.out _ c.blocks-2.at (omega arith) (omega arith)
    (c.join.ensures ∙ ap joined c.values-values.ensures) digits c.blocks-2.invariant.1

pub rest-preserved : goal.rest-preserved
rest-preserved c =
    decode_pair c.args.text.now c.rest.out c.rest.at _ _ (omega arith) (omega arith) c.value-high.ensures c.value-low.ensures c.if-high.false c.if-low.false
    c.rest.invariant.1

pub returns-clause-digits : goal.returns-clause-digits
returns-clause-digits c = (
  λ e. spelled_digits _ _ (Spells_all c.args.text.now c.rest.out c.rest.at (omega arith) (omega arith) c.rest.invariant.1),
  λ all.
      refl,
)

pub returns-clause-spelled : goal.returns-clause-spelled
returns-clause-spelled c e = (Spells_all c.args.text.now c.rest.out c.rest.at (omega arith) (omega arith) c.rest.invariant.1).is

pub returns-clause-decoded : goal.returns-clause-decoded
returns-clause-decoded c e = spelled_decodes _ _ (Spells_all c.args.text.now c.rest.out c.rest.at (omega arith) (omega arith) c.rest.invariant.1)
