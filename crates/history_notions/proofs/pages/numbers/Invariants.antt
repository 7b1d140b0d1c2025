use Rattle.std.proofs.Common.{◌≡◌, ℕ, ◌+◌, ◌*◌, ◌≤◌, ◌^◌, ◌++◌, map, length, sum, take, drop}
use Rattle.blob_model.specs.Pages.{numbers}
use Rattle.history_notions.proofs.pages.numbers.Given as goal

abbrev pub invariant-loop-piece : goal.invariant-loop-piece
invariant-loop-piece l = l.found ≡ numbers (take l.piece-index l.list)
