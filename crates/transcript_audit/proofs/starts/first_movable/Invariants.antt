use Rattle.std.proofs.Common.{◌≡◌, drop}
use Rattle.std.specs.Prelude.{find}
use Rattle.blob_model.specs.Session.{Session, page_limit}
use Rattle.blob_model.specs.History.{History}
use Rattle.blob_model.specs.Builds.{builds}
use Rattle.blob_model.specs.Pieces.{pieces}
use Rattle.blob_model.specs.Tally.{disk_of}
use Rattle.blob_model.specs.Settle.{can_move}
use Rattle.history_notions.specs.Follows.{Follows}
use Rattle.history_notions.specs.Chosen.{items_at}
use Rattle.transcript_audit.proofs.starts.first_movable.Given as goal

abbrev pub invariant-loop-place : goal.invariant-loop-place
invariant-loop-place l =
    (s : Session) (h : History) → Follows s h l.contents → l.disk ≡ disk_of h (builds (page_limit s) h) (pieces (page_limit s) h) l.list
    → find (can_move s h (builds (page_limit s) h) (pieces (page_limit s) h) l.list) (items_at l.contents.kept.pages (drop l.place-index l.places))
    ≡ find (can_move s h (builds (page_limit s) h) (pieces (page_limit s) h) l.list) (items_at l.contents.kept.pages l.places)
