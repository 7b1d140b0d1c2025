-- By the tests of the code, in their order.
use Rattle.std.proofs.Common.{◌≡◌, ◌-◌, ◌*◌, ◌<◌, ◌≤◌, Some, None, false, length, min, sum, sym, subst, ◌∙◌, arith}
use Rattle.std.proofs.lemmas.List.{get_or_read}
use Rattle.segment_assembly.specs.declared.segment_fault.SegmentFault.TheVariants.{BadSegment, Taken, Length}
use Rattle.segment_assembly.specs.Assembly.{Sending, CanTake, segment_fault}
use Rattle.segment_assembly.proofs.SlotLemmas.{length_slots, came_at}
use Rattle.segment_assembly.proofs.FaultLemmas.{bad_is, taken_is, length_is, fits_is}
use Rattle.segment_assembly.proofs.assembly.Assembly.fault_of.Goals as goal

pub returns-then-place-len-clause-value : goal.returns-then-place-len-clause-value
returns-then-place-len-clause-value c =
    let inside = c.self.inside in
    let count : c.len-then-place-len.result ≡ length inside.came.items = omega (arith, c.len-then-place-len.ensures, inside.came.ok.0) in
    let behind : length inside.came.items ≤ c.args.seg = omega (arith, c.len.ensures, inside.came.ok.0, c.if-place-len.true) in
    subst (λ (sending : Sending). Some (BadSegment c.len-then-place-len.result) ≡ segment_fault sending c.args.seg c.args.len) c.self.view_is
    (rw count (bad_is inside c.args.seg c.args.len behind))

pub returns-then-index-clause-value : goal.returns-then-index-clause-value
returns-then-index-clause-value c =
    let inside = c.self.inside in
    let place : c.args.seg < length inside.came.items = omega (arith, c.len.ensures, inside.came.ok.0, c.if-place-len.false) in
    let came = get_or_read inside.came.items c.args.seg c.index.result.now place c.index.ensures false in
    subst (λ (sending : Sending). Some Taken ≡ segment_fault sending c.args.seg c.args.len) c.self.view_is
    (taken_is inside c.args.seg c.args.len place (sym came ∙ c.if-index.true))

pub returns-then-len-want-clause-value : goal.returns-then-len-want-clause-value
returns-then-len-want-clause-value c =
    let inside = c.self.inside in
    let place : c.args.seg < length inside.came.items = omega (arith, c.len.ensures, inside.came.ok.0, c.if-place-len.false) in
    let came = get_or_read inside.came.items c.args.seg c.index.result.now place c.index.ensures false in
    let want : c.min-want.result ≡ min inside.segment (sum inside.parts.items - c.args.seg * inside.segment) = rw (← c.self.invariant.own, ← c.from.ensures)
    c.min-want.ensures in
    subst (λ (sending : Sending). None ≡ segment_fault sending c.args.seg c.args.len) c.self.view_is
    (fits_is inside c.args.seg c.args.len c.min-want.result place (sym came ∙ c.if-index.false) want c.if-len-want.true)

pub returns-then-len-want-clause-none : goal.returns-then-len-want-clause-none
returns-then-len-want-clause-none c =
    let inside = c.self.inside in
    let place : c.args.seg < length inside.came.items = omega (arith, c.len.ensures, inside.came.ok.0, c.if-place-len.false) in
    let came = get_or_read inside.came.items c.args.seg c.index.result.now place c.index.ensures false in
    let want : c.min-want.result ≡ min inside.segment (sum inside.parts.items - c.args.seg * inside.segment) = rw (← c.self.invariant.own, ← c.from.ensures)
    c.min-want.ensures in
    subst (λ (sending : Sending). CanTake sending c.args.seg c.args.len) c.self.view_is (
      rw (length_slots inside.segment inside.came.items inside.bytes.items) place,
      came_at inside.segment c.args.seg inside.came.items inside.bytes.items ∙ (sym came ∙ c.if-index.false),
      c.if-len-want.true ∙ want,
    )

pub returns-else-len-want-clause-value : goal.returns-else-len-want-clause-value
returns-else-len-want-clause-value c =
    let inside = c.self.inside in
    let place : c.args.seg < length inside.came.items = omega (arith, c.len.ensures, inside.came.ok.0, c.if-place-len.false) in
    let came = get_or_read inside.came.items c.args.seg c.index.result.now place c.index.ensures false in
    let want : c.min-want.result ≡ min inside.segment (sum inside.parts.items - c.args.seg * inside.segment) = rw (← c.self.invariant.own, ← c.from.ensures)
    c.min-want.ensures in
    subst (λ (sending : Sending). Some (Length c.min-want.result) ≡ segment_fault sending c.args.seg c.args.len) c.self.view_is
    (length_is inside c.args.seg c.args.len c.min-want.result place (sym came ∙ c.if-index.false) want c.if-len-want.false)
