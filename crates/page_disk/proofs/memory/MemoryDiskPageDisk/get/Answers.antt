use Rattle.std.proofs.Common.{◌≡◌, ◌+◌, ◌≤◌, Some, length, ap, ◌∙◌, sym}
use Rattle.std.specs.Option.{option_copied}
use Rattle.page_disk.specs.Changes.{last_put}
use Rattle.page_disk.specs.Memory.{open_in, Disk}
use Rattle.page_disk.proofs.Found.{found_so, some_found}
use Rattle.page_disk.proofs.memory.MemoryDiskPageDisk.get.Goals as goal

pub returns-then-is_failing-clause-closed : goal.returns-then-is_failing-clause-closed
returns-then-is_failing-clause-closed c = ap open_in c.self.view_is ∙ c.requires.closed

pub returns-clause-closed : goal.returns-clause-closed
returns-clause-closed c = ap open_in c.self.view_is ∙ c.requires.closed

pub unwrap-bytes-requires : goal.unwrap-bytes-requires
unwrap-bytes-requires c =
    let found : option_copied c.last_put.result ≡ last_put c.args.page.0 c.args.self.now.changes = c.last_put.ensures ∙ ap (last_put c.args.page.0)
    (c.as_slice.ensures ∙ ap (λ (disk : Disk). disk.changes) c.self.view_is) in
    some_found (λ bytes. c.args.off + length c.args.out.now ≤ length bytes) c.last_put.result _ found c.requires.there.0

pub fill_from-requires : goal.fill_from-requires
fill_from-requires c =
    let found : option_copied c.last_put.result ≡ last_put c.args.page.0 c.args.self.now.changes = c.last_put.ensures ∙ ap (last_put c.args.page.0)
    (c.as_slice.ensures ∙ ap (λ (disk : Disk). disk.changes) c.self.view_is) in
    let there : Some c.unwrap-bytes.result.now ≡ last_put c.args.page.0 c.args.self.now.changes = ap option_copied (sym c.unwrap-bytes.ensures) ∙ found in
    found_so (λ bytes. c.args.off + length c.args.out.now ≤ length bytes) c.unwrap-bytes.result.now _ there c.requires.there.0
