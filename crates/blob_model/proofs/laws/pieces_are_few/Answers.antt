-- The tests before fail, and this one applies.
use Rattle.std.proofs.Common.{◌≡◌, ◌+◌, true, false, refl, length}
use Rattle.std.specs.Prelude.{nat_lt, nat_le}
use Rattle.std.proofs.lemmas.Bool.{lt-leb, lt-ltb}
use Rattle.transport_plan.specs.Spans.{piece_count}
use Rattle.blob_model.specs.Parts.{own_lengths}
use Rattle.blob_model.specs.Builds.{builds}
use Rattle.blob_model.specs.Refusals.{piece_total}
use Rattle.blob_model.proofs.laws.pieces_are_few.Goals as goal
use Rattle.blob_model.specs.Session.{page_limit}

pub returns : goal.returns
returns c s h renderer name kind parts alive fresh none few whole segments many =
    let room : nat_le 65536 (length (builds (page_limit s) h)) ≡ false = lt-leb 65536 (length (builds (page_limit s) h)) few in
    let over : nat_lt 65536 (piece_total s h + piece_count (page_limit s) (own_lengths parts)) ≡ true =
    lt-ltb 65536 (piece_total s h + piece_count (page_limit s) (own_lengths parts)) many in
    rw (alive, fresh, none, room, whole, segments, over) refl
