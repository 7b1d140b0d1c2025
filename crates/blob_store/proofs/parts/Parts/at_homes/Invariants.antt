use Rattle.std.proofs.Common.{take}
use Rattle.blob_store.specs.Paging.{AreAtHome}
use Rattle.blob_store.proofs.parts.Parts.at_homes.Given as goal

abbrev pub invariant-loop-piece : goal.invariant-loop-piece
invariant-loop-piece l = AreAtHome l.self.homes l.self.shares (take l.piece-index l.pieces) l.given.items
