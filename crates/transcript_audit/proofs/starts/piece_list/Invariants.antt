use Rattle.std.proofs.Common.{◌≡◌, take}
use Rattle.blob_model.specs.Settle.{piece_list}
use Rattle.transcript_audit.proofs.starts.piece_list.Given as goal

abbrev pub invariant-loop-number : goal.invariant-loop-number
invariant-loop-number l = l.list ≡ piece_list (take l.number-index l.numbers)
