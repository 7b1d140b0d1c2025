use Rattle.std.proofs.Common.{◌≡◌, take, map}
use Rattle.std.specs.Prelude.{filter}
use Rattle.blob_model.specs.Settle.{removal}
use Rattle.transcript_audit.specs.Owed.{is_due_in}
use Rattle.transcript_audit.proofs.removals.removals_of.Given as goal

abbrev pub invariant-loop-page : goal.invariant-loop-page
invariant-loop-page l = l.found ≡ map (removal l.unremoved) (filter (is_due_in l.held l.asked) (take l.page-index l.pages))
