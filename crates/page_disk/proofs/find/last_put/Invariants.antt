use Rattle.std.proofs.Common.{◌≡◌, take}
use Rattle.std.specs.Option.{option_copied}
use Rattle.page_disk.specs.Changes.{last_put}
use Rattle.page_disk.proofs.find.last_put.Given as goal

-- what the changes so far put last
abbrev pub invariant-loop-change : goal.invariant-loop-change
invariant-loop-change l = option_copied l.found ≡ last_put l.page.0 (take l.change-index l.changes)
