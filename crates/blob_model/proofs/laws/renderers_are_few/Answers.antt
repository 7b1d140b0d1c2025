-- The first test fails and the second applies.
use Rattle.std.proofs.Common.{true, ◌≡◌, length, refl}
use Rattle.std.specs.Prelude.{nat_le}
use Rattle.std.proofs.lemmas.Bool.{le-leb}
use Rattle.blob_model.specs.Renderers.{spawned}
use Rattle.blob_model.proofs.laws.renderers_are_few.Goals as goal

pub returns : goal.returns
returns c s h renderer origin fresh many =
    let full : nat_le 1024 (length (spawned h)) ≡ true = le-leb 1024 (length (spawned h)) many in
    rw (fresh, full) refl
