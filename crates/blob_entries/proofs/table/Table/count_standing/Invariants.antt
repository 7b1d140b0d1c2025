use Rattle.std.proofs.Common.{◌≡◌, ◌+◌, ◌≤◌, length, drop}
use Rattle.blob_entries.specs.Standing.{standing}
use Rattle.blob_entries.proofs.table.Table.count_standing.Given as goal

abbrev pub invariant-loop-number : goal.invariant-loop-number
invariant-loop-number l = record {
  all : l.count + length (standing (drop l.number l.self.names) (drop l.number l.self.entries)) ≡ length (standing l.self.names l.self.entries);
  few : l.count ≤ l.number;
}
