-- The law as it was proved.
use Rattle.blob_model.proofs.memory.Shrinking.{some_twice}
use Rattle.blob_model.specs.Pieces.{owns}
use Rattle.blob_model.specs.Reached.{live_cells, is_of_slot}
use Rattle.blob_model.proofs.laws.searches_are_any.Goals as goal

pub returns : goal.returns
returns c = record { of_cells = λ contents piece. some_twice (owns piece) contents; of_slots = λ page h slot. some_twice (is_of_slot slot) (live_cells page h) }
