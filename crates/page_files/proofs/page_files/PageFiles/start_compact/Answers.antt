-- The pieces of the least thin page have room.
use Rattle.std.proofs.Common.{◌≡◌, rules}
use Rattle.page_files.specs.Pages.{pieces_at}
use Rattle.page_files.proofs.Charges.{thin_room}
use Rattle.page_files.proofs.page_files.PageFiles.start_compact.Goals as goal

pub begin_job-requires-clause-room : goal.begin_job-requires-clause-room
begin_job-requires-clause-room c =
    let pieces : c.as_slice-2.result.now ≡ pieces_at c.args.self.now.pages c.args.page.0 = search rules in
    rw pieces (thin_room c.args.self.now c.args.page c.requires.thin)
