use Rattle.page_volumes.specs.Plain.{slots_of}
use Rattle.page_volumes.proofs.Writers.{AllRetired}
use Rattle.page_volumes.proofs.places.Places.writer.Given as goal

-- those so far are retired
abbrev pub invariant-loop-k : goal.invariant-loop-k
invariant-loop-k g l = AllRetired l.k (slots_of g.V.Volume.seen l.self.items.items)
