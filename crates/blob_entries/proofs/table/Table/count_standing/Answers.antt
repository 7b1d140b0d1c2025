use Rattle.std.proofs.Common.{◌+◌, List, ℕ, Option, arith, ap, drop, length}
use Rattle.std.specs.Prelude.{slice_index}
use Rattle.blob_entries.specs.declared.entry.Entry.{Entry}
use Rattle.blob_entries.specs.Book.{entry_at}
use Rattle.blob_entries.specs.Standing.{standing}
use Rattle.blob_entries.proofs.Standing.{counted_if, one_at_most, standing_more}
use Rattle.blob_entries.proofs.table.Table.count_standing.Goals as goal

pub loop-number-preserved : goal.loop-number-preserved
loop-number-preserved c =
    let names : List ℕ = c.args.self.now.names in
    let entries : List (Option Entry) = c.args.self.now.entries in
    let i : ℕ = c.loop-number.number in
    let more = standing_more names entries i
    (omega (arith, c.loop-number-test.true, c.len-number-end.ensures.entries)) c.len-number-end.ensures.sound.sized in
    let rest : List ℕ = standing (drop (i + 1) names) (drop (i + 1) entries) in
    let here = counted_if (entry_at entries i) (slice_index names i) rest in
    let most = one_at_most (entry_at entries i) in
    record {
      all = omega (arith, c.count_at-count.ensures, c.loop-number.invariant.all, ap length more, here);
      few = omega (arith, c.count_at-count.ensures, c.loop-number.invariant.few, most);
    }
