-- The pieces left move to the next page.
use Rattle.std.proofs.Common.{length, ap, ◌∙◌}
use Rattle.page_files.specs.Pieces.{bytes_of, placed}
use Rattle.page_files.specs.Files.{Files, left_of, page_no, turned_off, without_pieces}
use Rattle.page_files.proofs.NextPages.{agrees_then, kept_agrees, kept_by, moved_change, next_items, next_new, next_some, next_turned, next_whole, paged_pieces, some_bytes, tells_on, torn_agrees}
use Rattle.page_files.proofs.page_files.PageFiles.move_pieces.Goals as goal

pub write_bytes-requires-clause-some : goal.write_bytes-requires-clause-some
write_bytes-requires-clause-some g c = rw (c.as_slice.ensures.value, c.in-Ok-read_all.ensures.len)
    (some_bytes c.args.left.now c.requires.left.3 c.requires.left.1)

pub write_bytes-requires-clause-new_page : goal.write_bytes-requires-clause-new_page
write_bytes-requires-clause-new_page g c = rw c.read_all.ensures.same
    (next_new (g.D.PageDisk.changes c.args.disk.now) c.args.self.now.pages c.args.left.now c.in-Ok.next c.in-Ok.ensures.ok.0 c.requires.agrees)

pub keep-list-requires-clause-whole : goal.keep-list-requires-clause-whole
keep-list-requires-clause-whole g c = next_whole _ c.args.left.now c.in-Ok.next c.in-Ok.ensures.ok.0

pub keep-list-requires-clause-some : goal.keep-list-requires-clause-some
keep-list-requires-clause-some g c = next_some _ c.args.left.now c.in-Ok.next c.in-Ok.ensures.ok.0 c.requires.left.1

pub keep-list-requires-clause-items : goal.keep-list-requires-clause-items
keep-list-requires-clause-items g c = next_items _ c.args.shares.now c.args.left.now c.in-Ok.next c.in-Ok.ensures.ok.0
    (paged_pieces c.args.source c.args.shares.now c.args.left.now c.requires.items)

pub returns-in-Ok-write_bytes-clause-agrees : goal.returns-in-Ok-write_bytes-clause-agrees
returns-in-Ok-write_bytes-clause-agrees g c =
    let is = c.in-Ok.ensures.ok.0 in
    let left = c.args.left.now in
    let files = kept_by c.args.self.now c.next_page.new.self c.end_job.new.self c.keep-list.new.self left c.in-Ok.next is c.in-Ok.ensures.ok.1 c.end_job.ensures
    c.keep-list.ensures.files in
    agrees_then (g.D.PageDisk.changes c.write_bytes.new.disk) c.keep-list.new.self.pages c.release_all.new.self.pages c.release_all.ensures.agrees
    (kept_agrees (g.D.PageDisk.changes c.args.disk.now) (g.D.PageDisk.changes c.write_bytes.new.disk) c.args.self.now.pages c.keep-list.new.self.pages
    c.in-Ok.next.page
    c.as_slice.result.now (bytes_of left) (placed 0 left) is.page (rw (← c.read_all.ensures.same) c.in-Ok-write_bytes.ensures.ends.0)
    (ap (λ (files : Files). files.pages) files) c.requires.agrees)

pub returns-in-Ok-write_bytes-clause-ends : goal.returns-in-Ok-write_bytes-clause-ends
returns-in-Ok-write_bytes-clause-ends g c =
    let is = c.in-Ok.ensures.ok.0 in
    let left = c.args.left.now in
    let old = g.D.PageDisk.changes c.args.disk.now in
    let mid = g.D.PageDisk.changes c.read_all.new.disk in
    let new = g.D.PageDisk.changes c.write_bytes.new.disk in
    let files = kept_by c.args.self.now c.next_page.new.self c.end_job.new.self c.keep-list.new.self left c.in-Ok.next is c.in-Ok.ensures.ok.1 c.end_job.ensures
    c.keep-list.ensures.files in (
      rw (← c.requires.left.0) c.requires.left.1,
      is.page,
      rw (← c.requires.left.0) (c.keep-list.ensures.list ∙ is.list),
      rw (← c.requires.left.0) (c.release_all.ensures.files ∙ ap (without_pieces c.args.source.0 left) files),
      rw (← c.requires.left.0) (moved_change old mid new c.in-Ok.next.page c.args.source c.as_slice.result.now left c.read_all.ensures.same
          c.in-Ok-write_bytes.ensures.ends.0 (rw c.as_slice.ensures.value c.in-Ok-read_all.ensures.bytes)),
      tells_on old mid new _ c.read_all.ensures.same c.in-Ok-write_bytes.ensures.ends.0,
      next_turned (page_no (length c.args.self.now.pages)) left (left_of c.args.self.now.job) c.in-Ok.next c.args.shares.now c.keep-list.new.shares is
          c.requires.left.0 c.keep-list.ensures.items,
      (
        c.in-Ok-write_bytes.ensures.ends.1 ∙ c.in-Ok-read_all.ensures.good,
        rw (← c.requires.left.0)
            (rw c.write_bytes.ensures.meter c.in-Ok-read_all.ensures.read),
      ),
    )

pub returns-in-Err-Failed-clause-agrees : goal.returns-in-Err-Failed-clause-agrees
returns-in-Err-Failed-clause-agrees g c =
    let torn = (rw c.in-Err-Failed.field-0-is at c.in-Err-Failed.ensures.ends).0 in
    torn_agrees (g.D.PageDisk.changes c.args.disk.now) (g.D.PageDisk.changes c.write_bytes.new.disk) c.args.self.now.pages
    c.fail_job-in-Err-Failed.new.self.pages c.in-Ok.next.page c.in-Ok.ensures.ok.0.page (rw (← c.read_all.ensures.same) torn)
    (ap (λ (files : Files). files.pages) (c.fail_job-in-Err-Failed.ensures ∙ ap turned_off c.in-Ok.ensures.ok.1)) c.requires.agrees
