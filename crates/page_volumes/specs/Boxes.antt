-- What volumes in boxes are seen as, given what a box is seen as.
use Rattle.page_volumes.specs.Seen.{Seen}
use Rattle.page_volumes.specs.Group.{Group}
use Rattle.page_volumes.specs.Arrays.{of_array}
use Rattle.page_volumes.specs.declared.boxed.BoxedVolume.{BoxedVolume}
use Rattle.page_volumes.specs.declared.volumes.Volumes.{Volumes}

-- a type that holds a `dyn` takes two arguments for it
abbrev pub of_volumes : {V : Type 0} {D : V → Type 0} → (BoxedVolume V D → Seen) → Volumes V D → Group
of_volumes seen volumes = of_array seen volumes.array
