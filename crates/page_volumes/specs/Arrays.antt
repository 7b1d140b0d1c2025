-- What an array of volumes is seen as, given what one such volume is seen as.
use Rattle.page_volumes.specs.Seen.{Seen}
use Rattle.page_volumes.specs.Group.{Group}
use Rattle.page_volumes.specs.Plain.{of_members}
use Rattle.page_volumes.specs.declared.array.Array.{Array}

abbrev pub of_array : {V : Type 0} → (V → Seen) → Array V → Group
of_array seen array = of_members seen array.members
