use Rattle.std.proofs.Common.{◌≡◌, ◌++◌, length, map, min, reverse}
use Rattle.recent_items.specs.Recent.{victims}
use Rattle.recent_items.proofs.recent.Recent.victims.Given as goal

-- the victims so far, and those among the pieces that are left
abbrev pub invariant-loop-missing : goal.invariant-loop-missing
invariant-loop-missing l = map (λ piece. piece.0) l.pieces ++ victims l.missing l.free (reverse l.rest) ≡ victims l.need (min l.page l.room) l.self

abbrev pub decreases-loop-missing : goal.decreases-loop-missing
decreases-loop-missing l = length l.rest
