use Rattle.std.proofs.Common.{◌≡◌, drop}
use Rattle.blob_model.specs.Transport.{byte_from}
use Rattle.history_notions.specs.Kept.{arrivals_in}
use Rattle.transcript_audit.proofs.values.byte_in.Given as goal

abbrev pub invariant-loop-segment : goal.invariant-loop-segment
invariant-loop-segment l = byte_from (arrivals_in l.all l.name) 0 l.list l.index ≡ byte_from (arrivals_in l.all l.name) l.segment
    (drop l.segment l.list) l.index
