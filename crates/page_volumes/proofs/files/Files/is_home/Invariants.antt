use Rattle.std.proofs.Common.{◌≡◌, take, false}
use Rattle.page_volumes.specs.Group.{has_files}
use Rattle.page_volumes.proofs.files.Files.is_home.Given as goal

-- none of those so far stands there
abbrev pub invariant-loop-file : goal.invariant-loop-file
invariant-loop-file l = has_files l.k (take l.file-index l.self.filed) ≡ false
