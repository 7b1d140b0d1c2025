-- Why a line is refused: the first of its row that applies. Own.
use Rattle.std.specs.Prelude.{ℕ, ◌+◌, ◌==◌, ◌&&◌, Bool, true, false, not, List, [], ◌∷◌, ◌++◌, length, sum_by, flat_map, nat_lt, nat_le, Option, None, Some, is_none, is_some, unwrap_or, bytes_eq, slice_index_or}
use Rattle.std.specs.Option.{option_map_or}
use Rattle.std.specs.List.{list_any}
use Rattle.blob_words.specs.declared.bounds.TheConstants.{MOST_BLOBS, MOST_FILES, MOST_PIECES, MOST_READERS, MOST_RENDERERS, MOST_URLS, MOST_WEIGHT}
use Rattle.blob_words.specs.declared.counted.Counted.{Counted}
use Rattle.blob_words.specs.declared.counted.Counted.TheVariants as counted
use Rattle.blob_words.specs.declared.number.RendererId.{RendererId}
use Rattle.blob_words.specs.declared.number.ReaderId.{ReaderId}
use Rattle.blob_words.specs.declared.number.JobNo.{JobNo}
use Rattle.blob_words.specs.declared.plan.Plan.{Plan}
use Rattle.blob_words.specs.declared.plan.Plan.TheVariants as plans
use Rattle.session_script.specs.declared.event.Event.{Event}
use Rattle.session_script.specs.declared.event.Event.TheVariants as events
use Rattle.session_script.specs.declared.event.Part.{Part}
use Rattle.answer_text.specs.declared.refusal.Refusal.{Refusal}
use Rattle.answer_text.specs.declared.refusal.Refusal.TheVariants as refusals
use Rattle.blob_model.specs.Session.{Session, page_limit}
use Rattle.blob_model.specs.History.{History}
use Rattle.blob_model.specs.Renderers.{spawned, is_spawned, is_alive, origin_of}
use Rattle.blob_model.specs.Recorded.{recorded, last_stamp, file_names}
use Rattle.blob_model.specs.Parts.{own_lengths, claims}
use Rattle.blob_model.specs.Builds.{Build, builds, build_in, size_in, slice_parts, parts_weight}
use Rattle.blob_model.specs.Standing.{is_unfinished, is_broken, is_granted}
use Rattle.blob_model.specs.Transport.{spans, missing, arrivals, has_come}
use Rattle.blob_model.specs.Handles.{has_handle}
use Rattle.blob_model.specs.Entries.{Entry, entries, entry_at, resolved, is_url_of}
use Rattle.blob_model.specs.Readers.{OpenReader, readers, reader_at}
use Rattle.blob_model.specs.Pieces.{spans_of}
use Rattle.blob_model.specs.Jobs.{Job, in_flight}
use Rattle.blob_model.specs.Construct.{line_status, plan_for}
use Rattle.blob_model.specs.Choice.{first_that}
use Rattle.transport_plan.specs.Spans.{piece_count}

-- no renderer of this number is alive
abbrev pub no_renderer : History → RendererId → Bool × Refusal
no_renderer h renderer = (not (is_alive h renderer.0), refusals.NoRenderer renderer)

-- the renderer has no handle on the blob
abbrev pub no_handle : History → RendererId → ℕ → Bool × Refusal
no_handle h renderer b = (not (has_handle h renderer.0 b), refusals.NoHandle renderer b)

-- a blob of this name was built
abbrev pub name_used : Session → History → ℕ → Bool × Refusal
name_used s h name = (is_some (build_in (builds (page_limit s) h) name), refusals.NameUsed name)

-- with this line there would be more than so many
abbrev pub too_many : Bool → Counted → Bool × Refusal
too_many test counted = (test, refusals.TooMany counted)

abbrev pub too_many_blobs : Session → History → Bool × Refusal
too_many_blobs s h = too_many (nat_le MOST_BLOBS (length (builds (page_limit s) h))) counted.Blobs

-- the slots that accepted builds claim
abbrev pub claimed : Session → History → List ℕ
claimed s h = flat_map (λ (build : Build). claims build.parts) (builds (page_limit s) h)

abbrev pub is_in : ℕ → List ℕ → Bool
is_in number list = list_any (λ (each : ℕ). each == number) list

-- of several slots the first to which a refusal applies names it: there is no such slot, or it is taken, by an earlier part among others
abbrev pub slot_refusals : Session → List ℕ → List ℕ → List (Bool × Refusal)
slot_refusals s taken [] = []
slot_refusals s taken (slot ∷ slots) =
    (nat_le (length s.outside.slots) slot, refusals.NoSuchHandle slot) ∷ (is_in slot taken, refusals.HandleTaken slot) ∷ slot_refusals s (slot ∷ taken) slots

abbrev pub is_many_segments : Plan → Bool
is_many_segments (plans.TooMany counted.Segments) = true
is_many_segments plan = false

-- the pieces and the weights of all blobs
abbrev pub piece_total : Session → History → ℕ
piece_total s h = sum_by (λ (build : Build). length (spans_of (page_limit s) build)) (builds (page_limit s) h)

abbrev pub weight_total : Session → History → ℕ
weight_total s h = sum_by (λ (build : Build). build.weight) (builds (page_limit s) h)

-- with a blob that doesn't break at its line there would be too many segments of it, pieces or views
abbrev pub many_segments : Session → History → Bool → List Part → Bool × Refusal
many_segments s h stands parts = too_many (stands && is_many_segments (plan_for s h parts)) counted.Segments

abbrev pub many_pieces : Session → History → Bool → List Part → Bool × Refusal
many_pieces s h stands parts = too_many (stands && nat_lt MOST_PIECES (piece_total s h + piece_count (page_limit s) (own_lengths parts))) counted.Pieces

abbrev pub many_views : Session → History → Bool → List Part → Bool × Refusal
many_views s h stands parts =
    too_many (stands && nat_lt MOST_WEIGHT (weight_total s h + parts_weight (page_limit s) (builds (page_limit s) h) parts)) counted.Views

abbrev pub stands_at_line : Session → History → RendererId → ℕ → List Part → Bool
stands_at_line s h renderer name parts = is_none (line_status s h renderer.0 name parts)

abbrev pub build_refusals : Session → History → RendererId → ℕ → List Part → List (Bool × Refusal)
build_refusals s h renderer name parts =
    no_renderer h renderer
    ∷ name_used s h name
    ∷ slot_refusals s (claimed s h) (claims parts)
    ++ (too_many_blobs s h
    ∷ many_segments s h (stands_at_line s h renderer name parts) parts
    ∷ many_pieces s h (stands_at_line s h renderer name parts) parts
    ∷ many_views s h (stands_at_line s h renderer name parts) parts
    ∷ [])

abbrev pub slice_refusals : Session → History → RendererId → ℕ → ℕ → List Part → List (Bool × Refusal)
slice_refusals s h renderer name source parts =
    no_renderer h renderer
    ∷ name_used s h name
    ∷ no_handle h renderer source
    ∷ too_many_blobs s h
    ∷ many_views s h (stands_at_line s h renderer name parts) parts
    ∷ []

-- whether the renderer sends bytes of the blob: it built it, and the blob is unfinished, granted and misses a segment
abbrev pub is_sending : Session → History → ℕ → Build → Bool
is_sending s h renderer build =
    is_unfinished h build.name && is_granted h build && (build.builder == renderer) && nat_lt 0 (length (missing s.limits h build))

abbrev pub segment_refusals : Session → History → RendererId → ℕ → ℕ → ℕ → Option Build → List (Bool × Refusal)
segment_refusals s h renderer b segment len None = (true, refusals.NoTransport b) ∷ []
segment_refusals s h renderer b segment len (Some build) =
    (not (is_sending s h renderer.0 build), refusals.NoTransport b)
    ∷ (nat_le (length (spans s.limits build)) segment, refusals.BadSegment (length (spans s.limits build)))
    ∷ (has_come (arrivals h b) segment, refusals.SegmentTaken segment)
    ∷ (not (len == (slice_index_or (spans s.limits build) segment (0, 0)).1), refusals.SegmentLength (slice_index_or (spans s.limits build) segment (0, 0)).1)
    ∷ []

-- a reader of this number is open, the range passes the blob, or too many readers are open
abbrev pub reader_refusals : Session → History → ReaderId → ℕ → ℕ → Option ℕ → List (Bool × Refusal)
reader_refusals s h reader b off len =
    (is_some (reader_at (page_limit s) h reader.0), refusals.ReaderUsed reader)
    ∷ (not (is_broken h b) && nat_lt (size_in (builds (page_limit s) h) b) (off + unwrap_or len 0), refusals.Range (size_in (builds (page_limit s) h) b))
    ∷ too_many (nat_le MOST_READERS (length (readers (page_limit s) h))) counted.Readers
    ∷ []

abbrev pub fetch_refusals : Session → History → ReaderId → Option Entry → ℕ → Option ℕ → List (Bool × Refusal)
fetch_refusals s h reader None off len = (true, refusals.NoUrl) ∷ []
fetch_refusals s h reader (Some entry) off len = reader_refusals s h reader entry.blob off len

-- whether the open reader belongs to the renderer
abbrev pub owns_reader : Session → History → ℕ → ℕ → Bool
owns_reader s h renderer reader = option_map_or (λ (each : OpenReader). each.owner == renderer) (reader_at (page_limit s) h reader) false

abbrev pub no_job : History → JobNo → Bool × Refusal
no_job h job = (not (option_map_or (λ (flying : Job). flying.number == job.0) (in_flight h) false), refusals.NoJob job)

-- the tests of each line, in order
abbrev pub refusals_of : Session → History → Event → List (Bool × Refusal)
refusals_of s h (events.Limits limits) = (true, refusals.LimitsAgain) ∷ []
refusals_of s h (events.Limits2 limits) = (true, refusals.LimitsAgain) ∷ []
refusals_of s h (events.Spawn renderer origin) = (is_spawned h renderer.0, refusals.RendererUsed renderer)
    ∷ too_many (nat_le MOST_RENDERERS (length (spawned h))) counted.Renderers ∷ []
refusals_of s h (events.Die renderer) = no_renderer h renderer ∷ []
refusals_of s h (events.File name stamp bytes) =
    (option_map_or (λ (last : ℕ). nat_le stamp last) (last_stamp h name) false, refusals.StaleStamp (unwrap_or (last_stamp h name) 0))
    ∷ too_many (not (list_any (bytes_eq name) (file_names h)) && nat_le MOST_FILES (length (file_names h))) counted.Files
    ∷ []
refusals_of s h (events.Gone name) = (is_none (recorded h name), refusals.NoFile) ∷ []
refusals_of s h (events.Build renderer name kind parts) = build_refusals s h renderer name parts
refusals_of s h (events.Slice renderer name source from to kind) =
    slice_refusals s h renderer name source (slice_parts (builds (page_limit s) h) source from to)
refusals_of s h (events.Segment renderer b segment bytes) =
    no_renderer h renderer ∷ segment_refusals s h renderer b segment (length bytes) (build_in (builds (page_limit s) h) b)
refusals_of s h (events.Pass renderer to b) = no_renderer h renderer ∷ no_renderer h to ∷ no_handle h renderer b ∷ []
refusals_of s h (events.Drop renderer b) = no_renderer h renderer ∷ no_handle h renderer b ∷ []
refusals_of s h (events.Stat renderer b) = no_renderer h renderer ∷ no_handle h renderer b ∷ []
refusals_of s h (events.Url renderer b text) =
    no_renderer h renderer
    ∷ no_handle h renderer b
    ∷ (not (is_url_of (origin_of h renderer.0) text), refusals.UrlForm)
    ∷ (is_some (entry_at (entries h) text), refusals.UrlTaken)
    ∷ too_many (nat_le MOST_URLS (length (entries h))) counted.Urls
    ∷ []
refusals_of s h (events.Revoke renderer text) = no_renderer h renderer ∷ []
refusals_of s h (events.Read renderer reader b off len) = no_renderer h renderer ∷ no_handle h renderer b ∷ reader_refusals s h reader b off len
refusals_of s h (events.Fetch renderer reader text off len) = no_renderer h renderer ∷ fetch_refusals s h reader (resolved h renderer.0 text) off len
refusals_of s h (events.Step reader) = (is_none (reader_at (page_limit s) h reader.0), refusals.NoReader reader) ∷ []
refusals_of s h (events.Cancel renderer reader) = no_renderer h renderer ∷ (not (owns_reader s h renderer.0 reader.0), refusals.NoReader reader) ∷ []
refusals_of s h (events.Disk job) = no_job h job ∷ []
refusals_of s h (events.Lost job) = no_job h job ∷ []
refusals_of s h events.Count = []
refusals_of s h events.Finish = []

-- why the line is refused, or nothing where it is accepted
abbrev pub refusal : Session → History → Event → Option Refusal
refusal s h event = first_that (refusals_of s h event)
