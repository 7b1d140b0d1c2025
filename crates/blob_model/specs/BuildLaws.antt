-- What holds of the blobs of legal transcripts, and of liveness. File API: the size of a Blob is the number of its bytes.
use Rattle.std.specs.Prelude.{◌≡◌, ◌≤◌, ◌<◌, ◌+◌, ℕ, ◌==◌, Bool, true, false, List, [], length, map, filter, Some, None}
use Rattle.std.specs.List.{AllByRecursion, list_any, range_with_len}
use Rattle.blob_words.specs.declared.bounds.TheConstants.{MOST_BLOBS, MOST_PIECES, MOST_RENDERERS}
use Rattle.blob_words.specs.declared.limits.Limits.{Limits}
use Rattle.blob_words.specs.declared.plan.Plan.{Plan}
use Rattle.transport_plan.specs.Spans.{IsEndToEnd, piece_count}
use Rattle.blob_model.specs.Parts.{own_lengths, own_bytes, claims}
use Rattle.blob_model.specs.Pieces.{Piece, pieces, owns, spans_of}
use Rattle.blob_model.specs.Reached.{live_cells, owns_some, is_of_slot, is_slot_reached}
use Rattle.blob_words.specs.declared.counted.Counted.TheVariants as counted
use Rattle.blob_words.specs.declared.number.RendererId.{RendererId}
use Rattle.session_script.specs.declared.event.Event.TheVariants as events
use Rattle.session_script.specs.declared.event.Part.{Part}
use Rattle.answer_text.specs.declared.refusal.Refusal.TheVariants as refusals
use Rattle.answer_text.specs.declared.group.Group.{Group}
use Rattle.blob_model.specs.Session.{Session, page_limit}
use Rattle.blob_model.specs.History.{History, start, history_from, has_ended}
use Rattle.blob_model.specs.Renderers.{spawned, is_spawned, is_alive, is_dead}
use Rattle.blob_model.specs.Builds.{Cell, Build, builds, build_in, size}
use Rattle.blob_model.specs.Standing.{is_unfinished}
use Rattle.blob_model.specs.Live.{is_rooted, has_source, live, is_live}
use Rattle.blob_model.specs.Order.{Distinct, AreOrdered}
use Rattle.blob_model.specs.Construct.{line_status, plan_for}
use Rattle.blob_model.specs.Refusals.{refusal, is_many_segments, piece_total}
use Rattle.blob_model.specs.Legal.{IsLegalFrom}

-- in a legal transcript each blob has as many cells as its size
abbrev pub CellsAreSizes : Type 0
CellsAreSizes =
    (s : Session) (groups : List Group) → IsLegalFrom s start groups →
    AllByRecursion (λ (build : Build). length build.cells ≡ size build) (builds (page_limit s) (history_from start groups))

-- in a legal transcript the names of blobs differ, and a blob takes bytes from older ones
abbrev pub BuildsAreOrdered : Type 0
BuildsAreOrdered = (s : Session) (groups : List Group) → IsLegalFrom s start groups → AreOrdered [] (builds (page_limit s) (history_from start groups))

abbrev pub NamesDiffer : Type 0
NamesDiffer = (s : Session) (groups : List Group) → IsLegalFrom s start groups → Distinct (builds (page_limit s) (history_from start groups))

-- names are closed where each rooted blob is among them, and each blob that an unfinished one of them takes bytes from
pub record IsClosed (page : ℕ) (h : History) (among : ℕ → Bool) : Type 0 where
  pub roots : (name : ℕ) → is_rooted page h name ≡ true → among name ≡ true
  pub needed : (build : Build) (name : ℕ) → among build.name ≡ true → is_unfinished h build.name ≡ true → has_source build name ≡ true → among name ≡ true

-- whatever is closed has every live blob
abbrev pub LiveIsLeast : Type 0
LiveIsLeast = (page : ℕ) (h : History) (among : ℕ → Bool) → IsClosed page h among → AllByRecursion (λ (build : Build). among build.name ≡ true) (live page h)

-- each rooted blob that was built lives
abbrev pub RootedLive : Type 0
RootedLive =
    (page : ℕ) (h : History) (name : ℕ) → list_any (λ (build : Build). build.name == name) (builds page h) ≡ true → is_rooted page h name ≡ true
    → is_live page h name ≡ true

-- where names differ the live blobs are those of live names, in order of build
abbrev pub LiveAreNamed : Type 0
LiveAreNamed = (page : ℕ) (h : History) → Distinct (builds page h) → live page h ≡ filter (λ (build : Build). is_live page h build.name) (builds page h)

-- in a legal transcript whatever an unfinished live blob takes bytes from lives
abbrev pub LiveIsClosed : Type 0
LiveIsClosed =
    (s : Session) (groups : List Group) → IsLegalFrom s start groups →
    AllByRecursion
    (λ (build : Build). is_unfinished (history_from start groups) build.name ≡ true → (source : ℕ) → has_source build source ≡ true → is_live (page_limit s)
    (history_from start groups) source ≡ true)
    (live (page_limit s) (history_from start groups))

-- the pieces of a blob stand end to end and cover each own byte once
abbrev pub PiecesCover : Type 0
PiecesCover = (l : Limits) (build : Build) (plan : Plan) → build.plan ≡ Some plan → IsEndToEnd 0 (spans_of l.page build) (own_bytes build.parts)

-- pieces are numbered 0, 1, 2 and so on
abbrev pub PiecesAreNumbered : Type 0
PiecesAreNumbered = (page : ℕ) (h : History) → map (λ (piece : Piece). piece.number) (pieces page h) ≡ range_with_len 0 (length (pieces page h))

-- a piece owns one of some cells, and a slot is reached, where `list_any` says so
pub record SearchesAreAny : Type 0 where
  pub of_cells : (contents : List (List Cell)) (piece : Piece) → owns_some contents piece ≡ list_any (λ (cells : List Cell). list_any (owns piece) cells)
      contents
  pub of_slots : (page : ℕ) (h : History) (slot : ℕ) → is_slot_reached page h slot ≡ list_any (λ (cells : List Cell). list_any (is_of_slot slot) cells)
      (live_cells page h)

-- in a legal transcript that goes on, who was never spawned is not dead
abbrev pub UnspawnedAreNotDead : Type 0
UnspawnedAreNotDead =
    (s : Session) (groups : List Group) (number : ℕ) → IsLegalFrom s start groups → has_ended (history_from start groups) ≡ false
    → is_spawned (history_from start groups) number ≡ false →
    is_dead (history_from start groups) number ≡ false

-- a session has at most 1,024 renderers
abbrev pub RenderersAreFew : Type 0
RenderersAreFew =
    (s : Session) (h : History) (renderer : RendererId) (origin : List ℕ) → is_spawned h renderer.0 ≡ false → MOST_RENDERERS ≤ length (spawned h) →
    refusal s h (events.Spawn renderer origin) ≡ Some (refusals.TooMany counted.Renderers)

-- a session has at most 65,536 pieces: a build with which there would be more is refused, where nothing refuses or breaks it before
abbrev pub PiecesAreFew : Type 0
PiecesAreFew =
    (s : Session) (h : History) (renderer : RendererId) (name : ℕ) (kind : List ℕ) (parts : List Part) → is_alive h renderer.0 ≡ true
    → build_in (builds (page_limit s) h) name ≡ None → claims parts ≡ [] →
    length (builds (page_limit s) h) < MOST_BLOBS → line_status s h renderer.0 name parts ≡ None → is_many_segments (plan_for s h parts) ≡ false →
    MOST_PIECES < piece_total s h + piece_count (page_limit s) (own_lengths parts) →
    refusal s h (events.Build renderer name kind parts) ≡ Some (refusals.TooMany counted.Pieces)
