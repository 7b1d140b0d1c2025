use Rattle.std.proofs.Common.{◌≡◌, take}
use Rattle.page_files.specs.Pieces.{names}
use Rattle.page_files.proofs.copies.names.Given as goal

abbrev pub invariant-loop-held : goal.invariant-loop-held
invariant-loop-held l = l.list ≡ names (take l.held-index l.pieces)
