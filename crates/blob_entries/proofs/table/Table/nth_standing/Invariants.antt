use Rattle.std.proofs.Common.{◌≡◌, drop}
use Rattle.std.specs.Prelude.{slice_get}
use Rattle.blob_entries.specs.Standing.{standing}
use Rattle.blob_entries.proofs.table.Table.nth_standing.Given as goal

abbrev pub invariant-loop-number : goal.invariant-loop-number
invariant-loop-number l = slice_get (standing (drop l.number l.self.names) (drop l.number l.self.entries)) l.left ≡ slice_get
    (standing l.self.names l.self.entries) l.i
