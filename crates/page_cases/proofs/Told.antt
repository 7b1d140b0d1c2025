-- What a disk tells, where it tells.
use Rattle.std.proofs.Common.{List, Option, Some, None}
use Rattle.std.specs.Prelude.{IfSome}
use Rattle.page_disk.specs.declared.change.Change.{Change}
use Rattle.page_files.specs.declared.page.Page.{Page}
use Rattle.page_files.specs.Files.{Agrees}

-- pages that agree with all that the ones before agreed with
pub told_same : (told : Option (List Change)) (old new : List Page) → ((changes : List Change) → Agrees old changes → Agrees new changes)
    → IfSome told (Agrees old) → IfSome told (Agrees new)
told_same None old new keeps so = tt
told_same (Some changes) old new keeps so = keeps changes so
