use Rattle.std.proofs.Common.{◌*◌, ◌-◌, ◌≤◌, length, take}
use Rattle.hex_lanes.proofs.Loops.{Spells}
use Rattle.hex_lanes.proofs.decode.decode_into.Given as goal

abbrev pub invariant-blocks-2 : goal.invariant-blocks-2
invariant-blocks-2 l = (l.at ≤ length l.out) × Spells (take (2 * l.at) l.text) (take l.at l.out)

abbrev pub decreases-blocks-2 : goal.decreases-blocks-2
decreases-blocks-2 l = length l.initial.out - l.at

abbrev pub invariant-rest : goal.invariant-rest
invariant-rest l = (l.at ≤ length l.out) × Spells (take (2 * l.at) l.text) (take l.at l.out)

abbrev pub decreases-rest : goal.decreases-rest
decreases-rest l = length l.initial.out - l.at
