-- A reserved piece goes to the next page.
use Rattle.std.proofs.Common.{◌≤◌, List, [], ◌∷◌, ap, ◌∙◌}
use Rattle.item_shares.specs.Shares.{share_at}
use Rattle.page_files.specs.declared.held.Held.{Held}
use Rattle.page_files.specs.Items.{turned}
use Rattle.page_files.specs.Files.{Files, alone, charge}
use Rattle.page_files.proofs.NextPages.{kept_agrees, next_new, one_apart, reserved_room, stored_by, torn_agrees}
use Rattle.page_files.proofs.page_files.PageFiles.store_held.Goals as goal

pub next_page-requires-clause-apart : goal.next_page-requires-clause-apart
next_page-requires-clause-apart g c = one_apart c.args.held.piece.0

pub write_bytes-requires-clause-new_page : goal.write_bytes-requires-clause-new_page
write_bytes-requires-clause-new_page g c = next_new (g.D.PageDisk.changes c.args.disk.now) c.args.self.now.pages (c.args.held ∷ []) c.in-Ok.next
    c.in-Ok.ensures.ok.0 c.requires.agrees

pub keep-requires-clause-room : goal.keep-requires-clause-room
keep-requires-clause-room g c =
    let within : charge c.args.self.now ≤ c.args.self.now.limit = rw (← c.self.view_is, ← c.self.invariant.0) c.self.invariant.1 in
    rw (c.unreserve.ensures, c.in-Ok.ensures.ok.1) (reserved_room c.args.self.now c.args.held c.in-Ok.next _ c.in-Ok.ensures.ok.0 within
    (rw c.requires.len c.requires.reserved))

pub returns-in-Ok-write_bytes-clause-agrees : goal.returns-in-Ok-write_bytes-clause-agrees
returns-in-Ok-write_bytes-clause-agrees g c =
    let is = c.in-Ok.ensures.ok.0 in
    let held = c.args.held in
    let files = stored_by c.args.self.now c.next_page.new.self c.unreserve.new.self c.keep.new.self held c.in-Ok.next is c.in-Ok.ensures.ok.1
    c.unreserve.ensures c.keep.ensures.files in
    kept_agrees (g.D.PageDisk.changes c.args.disk.now) (g.D.PageDisk.changes c.write_bytes.new.disk) c.args.self.now.pages c.keep.new.self.pages
    c.in-Ok.next.page
    c.args.bytes.now held.len (alone held.piece held.slot held.len ∷ []) is.page c.in-Ok-write_bytes.ensures.ends.0 (ap (λ (files : Files). files.pages) files)
    c.requires.agrees

pub returns-in-Ok-write_bytes-clause-ends : goal.returns-in-Ok-write_bytes-clause-ends
returns-in-Ok-write_bytes-clause-ends g c =
    let is = c.in-Ok.ensures.ok.0 in
    let files = stored_by c.args.self.now c.next_page.new.self c.unreserve.new.self c.keep.new.self c.args.held c.in-Ok.next is c.in-Ok.ensures.ok.1
    c.unreserve.ensures c.keep.ensures.files in (
      is.page,
      rw (← c.requires.len) files,
      c.in-Ok-write_bytes.ensures.ends.0,
      λ other. c.keep.ensures.items other ∙ ap (λ (pieces : List Held). turned c.in-Ok.next.page pieces other (share_at c.args.shares.now other)) is.pieces,
      c.in-Ok-write_bytes.ensures.ends.1,
    )

pub returns-in-Err-Failed-clause-agrees : goal.returns-in-Err-Failed-clause-agrees
returns-in-Err-Failed-clause-agrees g c =
    let torn = (rw c.in-Err-Failed.field-0-is at c.in-Err-Failed.ensures.ends).0 in
    torn_agrees (g.D.PageDisk.changes c.args.disk.now) (g.D.PageDisk.changes c.write_bytes.new.disk) c.args.self.now.pages c.next_page.new.self.pages
    c.in-Ok.next.page c.in-Ok.ensures.ok.0.page torn
    (ap (λ (files : Files). files.pages) c.in-Ok.ensures.ok.1) c.requires.agrees
