use Rattle.std.proofs.Common.{◌≡◌, take}
use Rattle.page_disk.specs.declared.change.Change.{Change}
use Rattle.std.proofs.Common.{List}
use Rattle.page_files.specs.Files.{without_pieces, Agrees}
use Rattle.page_files.proofs.page_files.PageFiles.release_all.Given as goal

abbrev pub invariant-loop-held : goal.invariant-loop-held
invariant-loop-held l = record {
  files : l.self ≡ without_pieces l.page.0 (take l.held-index l.pieces) l.fn.self;
  agrees : (changes : List Change) → Agrees l.fn.self.pages changes → Agrees l.self.pages changes;
}
