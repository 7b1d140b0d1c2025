use Rattle.std.proofs.Common.{sym, ap, ◌∙◌, arith}
use Rattle.page_files.specs.Pieces.{without}
use Rattle.page_files.specs.Places.{pieces_in}
use Rattle.page_files.proofs.Places.{absent_stays, after_none, after_take, taken_out}
use Rattle.page_files.proofs.piece_table.PieceTable.remove.Goals as goal

pub overflow_sub-self : goal.overflow_sub-self
overflow_sub-self c =
    let place = c.in-Some.place.now in
    let left = after_take c.args.piece place c.self.inside.places.entries _ c.in-Some.ensures.unique c.self.invariant.1 c.in-Some.ensures.value c.if-place.true
    (c.get_mut.follows.holds (taken_out place)).0 in
    omega (arith, c.self.invariant.0, left.bytes)

pub invariant_of-self : goal.invariant_of-self
invariant_of-self c =
    let place = c.in-Some.place.now in
    let left = after_take c.args.piece place c.self.inside.places.entries _ c.in-Some.ensures.unique c.self.invariant.1 c.in-Some.ensures.value c.if-place.true
    (c.get_mut.follows.holds (taken_out place)).0 in
    (omega (arith, c.self.invariant.0, left.bytes), left.long)

pub invariant_of-self-else-place : goal.invariant_of-self-else-place
invariant_of-self-else-place c =
    let place = c.in-Some.place.now in
    let left = after_none c.args.piece place c.self.inside.places.entries _ c.in-Some.ensures.unique c.self.invariant.1 c.in-Some.ensures.value c.if-place.false
    (c.get_mut.follows.holds place).0 in
    (omega (arith, c.self.invariant.0, left.bytes), left.long)

pub returns-then-place : goal.returns-then-place
returns-then-place c =
    let place = c.in-Some.place.now in
    let left = after_take c.args.piece place c.self.inside.places.entries _ c.in-Some.ensures.unique c.self.invariant.1 c.in-Some.ensures.value c.if-place.true
    (c.get_mut.follows.holds (taken_out place)).0 in
    left.left ∙ ap (without c.args.piece) c.self.view_is

pub returns-else-place : goal.returns-else-place
returns-else-place c =
    let place = c.in-Some.place.now in
    let left = after_none c.args.piece place c.self.inside.places.entries _ c.in-Some.ensures.unique c.self.invariant.1 c.in-Some.ensures.value c.if-place.false
    (c.get_mut.follows.holds place).0 in
    left.left ∙ ap (without c.args.piece) c.self.view_is

pub returns-in_default : goal.returns-in_default
returns-in_default c =
    let stays = absent_stays c.args.piece c.self.inside.places.entries (sym c.in_default.ensures.value) in
    ap (λ places. pieces_in places.entries) c.get_mut.follows.holds-at-none ∙ sym stays ∙ ap (without c.args.piece) c.self.view_is
