use Rattle.std.proofs.Common.{length}
use Rattle.range_reader.proofs.Ranges.{part_of_range}
use Rattle.range_reader.proofs.item.read_item.Goals as goal

pub get-requires-clause-there : goal.get-requires-clause-there
get-requires-clause-there g c =
    let lies = rw c.in-Paged.is at c.requires.lies in
    part_of_range (g.D.PageDisk.changes c.args.disk.now) c.in-Paged.page.0 c.in-Paged.off c.in-Paged.len c.args.place (length c.args.out.now) lies.0 lies.2
