use Rattle.std.proofs.Common.{◌≡◌, map, take, None}
use Rattle.page_volumes.specs.Seen.{file_of}
use Rattle.page_volumes.specs.Shelf.{page_file}
use Rattle.page_volumes.proofs.shelf.bytes_of.Given as goal

-- no file so far is of the page
abbrev pub invariant-loop-file : goal.invariant-loop-file
invariant-loop-file l = file_of l.page.0 (map page_file (take l.file-index l.files)) ≡ None
