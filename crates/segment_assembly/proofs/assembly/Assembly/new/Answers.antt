use Rattle.std.proofs.Common.{◌≡◌, sum, refl}
use Rattle.std.specs.Int.{div_ceil}
use Rattle.segment_assembly.proofs.SlotLemmas.{none_slots}
use Rattle.segment_assembly.proofs.assembly.Assembly.new.Goals as goal

pub returns : goal.returns
returns c =
    let count : c.in-Shared.count ≡ div_ceil (sum c.args.parts.now) c.args.limits.now.segment = cc in
    rw (c.in_ok-parts.ensures.items, c.in_ok-came.ensures, count, none_slots) refl
