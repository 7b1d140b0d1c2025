use Rattle.std.proofs.Common.{arith}
use Rattle.blob_entries.specs.Contents.{source_views}
use Rattle.blob_entries.specs.Making.{IsCut}
use Rattle.blob_entries.proofs.make.put_source.Goals as goal

pub share_all-requires : goal.share_all-requires
share_all-requires c =
    let is : IsCut (source_views c.args.names.now c.args.entries.now c.args.name) c.args.off c.args.len c.in_ok-cut.cut = c.in_ok-cut.ensures in
    rw c.as_slice.ensures (λ slot some. let room = c.requires.room slot (is.slots slot some) in (room.0, omega (arith, room.1, is.few)))
