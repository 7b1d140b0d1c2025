use Rattle.std.proofs.Common.{◌≡◌, sym, subst, Option}
use Rattle.std.specs.Prelude.{IsSome, IsSomeAnd}
use Rattle.page_disk.specs.Changes.{OpenWrite}
use Rattle.page_disk.specs.Memory.{open_in, Disk, Write}
use Rattle.page_disk.proofs.Standing.{open_write}
use Rattle.page_disk.proofs.memory.MemoryDiskPageDisk.seal.Goals as goal

pub unwrap-write-requires : goal.unwrap-write-requires
unwrap-write-requires c =
    let whole : OpenWrite → Type 0 = λ write. write.came ≡ write.len in
    let is = subst (λ (disk : Disk). IsSomeAnd (open_in disk) whole) (sym c.self.view_is) c.requires.whole in
    subst (λ (write : Option Write). IsSome write) (sym c.take.ensures.value) (open_write whole c.self.inside.write is)
