-- The pieces left go to the next page.
use Rattle.std.proofs.Common.{length, ap, ◌∙◌}
use Rattle.page_files.specs.Pieces.{bytes_of, placed}
use Rattle.page_files.specs.Items.{bytes_in}
use Rattle.page_files.specs.Files.{Files, left_of, page_no, turned_off}
use Rattle.page_files.proofs.NextPages.{kept_agrees, kept_by, memory_pieces, next_items, next_new, next_some, next_turned, next_whole, some_bytes, torn_agrees}
use Rattle.page_files.proofs.page_files.PageFiles.write_left.Goals as goal

pub write_items-requires-clause-some : goal.write_items-requires-clause-some
write_items-requires-clause-some g c = some_bytes c.args.left.now c.requires.left.3 c.requires.left.1

pub write_items-requires-clause-new_page : goal.write_items-requires-clause-new_page
write_items-requires-clause-new_page g c = next_new (g.D.PageDisk.changes c.args.disk.now) c.args.self.now.pages c.args.left.now c.in-Ok.next
    c.in-Ok.ensures.ok.0 c.requires.agrees

pub keep-list-requires-clause-whole : goal.keep-list-requires-clause-whole
keep-list-requires-clause-whole g c = next_whole _ c.args.left.now c.in-Ok.next c.in-Ok.ensures.ok.0

pub keep-list-requires-clause-some : goal.keep-list-requires-clause-some
keep-list-requires-clause-some g c = next_some _ c.args.left.now c.in-Ok.next c.in-Ok.ensures.ok.0 c.requires.left.1

pub keep-list-requires-clause-items : goal.keep-list-requires-clause-items
keep-list-requires-clause-items g c = next_items _ c.args.shares.now c.args.left.now c.in-Ok.next c.in-Ok.ensures.ok.0
    (memory_pieces c.args.shares.now c.args.left.now c.requires.items)

pub returns-in-Ok-write_items-clause-agrees : goal.returns-in-Ok-write_items-clause-agrees
returns-in-Ok-write_items-clause-agrees g c =
    let is = c.in-Ok.ensures.ok.0 in
    let left = c.args.left.now in
    let files = kept_by c.args.self.now c.next_page.new.self c.end_job.new.self c.keep-list.new.self left c.in-Ok.next is c.in-Ok.ensures.ok.1 c.end_job.ensures
    c.keep-list.ensures.files in
    kept_agrees (g.D.PageDisk.changes c.args.disk.now) (g.D.PageDisk.changes c.write_items.new.disk) c.args.self.now.pages c.keep-list.new.self.pages
    c.in-Ok.next.page
    (bytes_in c.args.shares.now left) (bytes_of left) (placed 0 left) is.page c.in-Ok-write_items.ensures.ends.0 (ap (λ (files : Files). files.pages) files)
    c.requires.agrees

pub returns-in-Ok-write_items-clause-ends : goal.returns-in-Ok-write_items-clause-ends
returns-in-Ok-write_items-clause-ends g c =
    let is = c.in-Ok.ensures.ok.0 in
    let left = c.args.left.now in
    let files = kept_by c.args.self.now c.next_page.new.self c.end_job.new.self c.keep-list.new.self left c.in-Ok.next is c.in-Ok.ensures.ok.1 c.end_job.ensures
    c.keep-list.ensures.files in (
      rw (← c.requires.left.0) c.requires.left.1,
      is.page,
      rw (← c.requires.left.0) (c.keep-list.ensures.list ∙ is.list),
      rw (← c.requires.left.0) files,
      rw (← c.requires.left.0) c.in-Ok-write_items.ensures.ends.0,
      next_turned (page_no (length c.args.self.now.pages)) left (left_of c.args.self.now.job) c.in-Ok.next c.args.shares.now c.keep-list.new.shares is
          c.requires.left.0 c.keep-list.ensures.items,
      c.in-Ok-write_items.ensures.ends.1,
    )

pub returns-in-Err-Failed-clause-agrees : goal.returns-in-Err-Failed-clause-agrees
returns-in-Err-Failed-clause-agrees g c =
    torn_agrees (g.D.PageDisk.changes c.args.disk.now) (g.D.PageDisk.changes c.write_items.new.disk) c.args.self.now.pages c.fail_job.new.self.pages
    c.in-Ok.next.page c.in-Ok.ensures.ok.0.page (rw c.in-Err-Failed.field-0-is at c.in-Err-Failed.ensures.ends).0
    (ap (λ (files : Files). files.pages) (c.fail_job.ensures ∙ ap turned_off c.in-Ok.ensures.ok.1)) c.requires.agrees
