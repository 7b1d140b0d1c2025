-- The bytes of one piece more were appended.
use Rattle.std.proofs.Common.{rules, ◌≡◌, ◌+◌, ◌<◌, ◌≤◌, Some, arith, slice_index_or, length, take}
use Rattle.item_shares.specs.declared.item.Item.TheVariants.{Memory}
use Rattle.item_shares.specs.Shares.{item_at}
use Rattle.page_files.specs.declared.held.Held.{Held}
use Rattle.page_files.specs.Pieces.{bytes_of}
use Rattle.page_files.specs.Items.{IsMemoryIn}
use Rattle.page_files.proofs.Items.{length_at}
use Rattle.page_files.proofs.Lists.{all_at, bytes_more, bytes_within}
use Rattle.page_files.proofs.Writing.{room_for}
use Rattle.page_files.proofs.write.append_items.Goals as goal

pub append_all-requires : goal.append_all-requires
append_all-requires g c =
    let d : Held = record { piece = record { 0 = 0 }; slot = 0; off = 0; len = 0 } in
    let pieces = c.args.pieces.now in
    let i = c.loop-held.held-index in
    let held = slice_index_or pieces i d in
    let inside : i < length pieces = omega (arith, c.loop-held-test.true) in
    let is : item_at c.args.shares.now held.slot ≡ Some (Memory c.in-Some-Memory.field-0-0 c.in-Some-Memory.bytes) = search rules in
    let size = length_at c.args.shares.now held c.in-Some-Memory.field-0-0 c.in-Some-Memory.bytes is
    (all_at (IsMemoryIn c.args.shares.now) pieces i d inside c.requires.items) in
    let same : length c.as_slice.result.now ≡ held.len = rw c.as_slice.ensures size in
    let within : bytes_of (take i pieces) + length c.as_slice.result.now ≤ bytes_of pieces =
    omega (arith, bytes_more pieces i d inside, bytes_within pieces (i + 1), same) in
    record {
      fits = room_for (bytes_of (take i pieces)) (length c.as_slice.result.now) (bytes_of pieces) (g.D.PageDisk.writing c.args.disk.now)
          (g.D.PageDisk.writing c.loop-held.disk) c.requires.fits c.loop-held.invariant.added.write within;
    }
