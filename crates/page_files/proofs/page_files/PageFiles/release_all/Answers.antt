-- One piece more was released.
use Rattle.std.proofs.Common.{◌<◌, arith, get_or, length, sym, ap, ◌∙◌}
use Rattle.page_files.specs.declared.held.Held.{Held}
use Rattle.page_files.specs.Pages.{released_at}
use Rattle.page_files.specs.Files.{Files}
use Rattle.page_files.proofs.Releasing.{released_more}
use Rattle.page_files.proofs.page_files.PageFiles.release_all.Goals as goal

pub loop-held-preserved : goal.loop-held-preserved
loop-held-preserved c =
    let d : Held = record { piece = record { 0 = 0 }; slot = 0; off = 0; len = 0 } in
    let pieces = c.args.pieces.now in
    let i = c.loop-held.held-index in
    let inside : i < length pieces = omega (arith, c.loop-held-test.true) in
    let held = get_or pieces i d in
    record {
      files = c.release_piece.ensures.files ∙ ap (λ (files : Files). record files { pages = released_at c.args.page.0 held.piece files.pages })
          c.loop-held.invariant.files
          ∙ sym (released_more c.args.page.0 pieces i d c.args.self.now inside);
      agrees = λ changes so. c.release_piece.ensures.agrees changes (c.loop-held.invariant.agrees changes so);
    }
