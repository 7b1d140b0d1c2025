use Rattle.std.proofs.Common.{◌≡◌, take}
use Rattle.history_notions.specs.Uses.{use_blob}
use Rattle.history_notions.proofs.course.use_blob.Given as goal

abbrev pub invariant-loop-piece : goal.invariant-loop-piece
invariant-loop-piece l = l.uses.items ≡ use_blob (take l.piece-index l.list) l.name l.initial.uses.items
