-- Whether the plain store has room for a build.
use Rattle.std.specs.Prelude.{◌≡◌, ◌+◌, ◌≤◌, ◌^◌, List}
use Rattle.session_script.specs.declared.event.Part.{Part}
use Rattle.blob_words.specs.declared.limits.Limits.{Limits}
use Rattle.replay_run.specs.declared.store.admitted.Admitted.{Admitted}
use Rattle.replay_run.specs.Measure.{byte_total, piece_total}
use Rattle.replay_run.specs.Shelf.{Shelved, byte_count}

-- the pieces are those of the parts, and the shelf takes them and their bytes
pub record HasRoom (l : Limits) (shelf : Shelved) (parts : List Part) (admitted : Admitted) : Type 0 where
  pub counted : admitted.pieces ≡ piece_total l.page parts
  pub bytes : byte_count shelf.blobs + byte_total parts ≤ 2 ^ 30
  pub pieces : shelf.pieces + admitted.pieces ≤ 65536
