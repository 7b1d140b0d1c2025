-- Counts of removals. Own.
use Rattle.std.specs.Prelude.{◌+◌, Bool, Option, Some, None, if◌then◌else◌}
use Rattle.page_files.specs.declared.ending.Closed.{Closed}

-- a removal more, where one was asked for: the page went, or it was left
abbrev pub counted : Option Bool → Closed → Closed
counted None closed = closed
counted (Some goes) closed = if goes then record closed { removed = closed.removed + 1 } else record closed { left = closed.left + 1 }
