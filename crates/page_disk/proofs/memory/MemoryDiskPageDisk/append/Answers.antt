use Rattle.std.proofs.Common.{◌≡◌, ◌+◌, ◌≤◌, Some, length, ◌∙◌, sym, subst, Option}
use Rattle.std.specs.Prelude.{IsSome, IsSomeAnd}
use Rattle.page_disk.specs.Changes.{OpenWrite}
use Rattle.page_disk.specs.Memory.{open_in, Disk, Write}
use Rattle.page_disk.proofs.Standing.{open_so, open_write}
use Rattle.page_disk.proofs.memory.MemoryDiskPageDisk.append.Goals as goal

pub unwrap-write-requires : goal.unwrap-write-requires
unwrap-write-requires c =
    let fits : OpenWrite → Type 0 = λ write. write.came + length c.args.bytes.now ≤ write.len in
    let is = subst (λ (disk : Disk). IsSomeAnd (open_in disk) fits) (sym c.self.view_is) c.requires.fits in
    subst (λ (write : Option Write). IsSome write) (sym c.take.ensures.value) (open_write fits c.self.inside.write is)

pub append-requires : goal.append-requires
append-requires c =
    let fits : OpenWrite → Type 0 = λ write. write.came + length c.args.bytes.now ≤ write.len in
    let is = subst (λ (disk : Disk). IsSomeAnd (open_in disk) fits) (sym c.self.view_is) c.requires.fits in
    let there : c.self.inside.write ≡ Some c.unwrap-write.result = sym c.take.ensures.value ∙ c.unwrap-write.ensures in
    open_so fits c.unwrap-write.result c.self.inside.write there is
