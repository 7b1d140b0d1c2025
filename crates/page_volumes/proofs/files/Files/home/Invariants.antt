use Rattle.std.proofs.Common.{◌≡◌, take, None}
use Rattle.page_volumes.specs.Group.{home_of}
use Rattle.page_volumes.proofs.files.Files.home.Given as goal

-- the page isn't among those so far
abbrev pub invariant-loop-file : goal.invariant-loop-file
invariant-loop-file l = home_of l.page.0 (take l.file-index l.self.filed) ≡ None
