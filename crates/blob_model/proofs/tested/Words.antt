-- Tests of equality on what answers have, each with what it tells.
use Rattle.std.proofs.Common.{◌≡◌, ℕ, ◌==◌, Bool, true, false, ◌&&◌, List, [], ◌∷◌, refl, ap, ◌∙◌, sym}
use Rattle.std.specs.Prelude.{bytes_eq}
use Rattle.std.proofs.lemmas.Bool.{eqb-true, eq-eqb, and_parts}
use Rattle.std.proofs.lemmas.Slice.Eq.{bytes_eq-Decides}
use Rattle.blob_words.specs.declared.counted.Counted.{Counted}
use Rattle.blob_words.specs.declared.counted.Counted.TheVariants as counted
use Rattle.blob_words.specs.declared.status.Status.{Status}
use Rattle.blob_words.specs.declared.status.Status.TheVariants as statuses
use Rattle.blob_words.specs.declared.plan.Plan.{Plan}
use Rattle.blob_words.specs.declared.plan.Plan.TheVariants as plans
use Rattle.blob_words.specs.declared.number.RendererId.{RendererId}
use Rattle.blob_words.specs.declared.number.ReaderId.{ReaderId}
use Rattle.blob_words.specs.declared.number.PieceNo.{PieceNo}
use Rattle.blob_words.specs.declared.number.PageNo.{PageNo}
use Rattle.blob_words.specs.declared.number.JobNo.{JobNo}
use Rattle.answer_text.specs.declared.refusal.Refusal.{Refusal}
use Rattle.answer_text.specs.declared.refusal.Refusal.TheVariants as refusals
use Rattle.blob_model.proofs.Lists.{both, false_true}

abbrev pub same_number : ℕ → ℕ → Bool
same_number a b = a == b

pub same_number-sound : (a b : ℕ) → same_number a b ≡ true → a ≡ b
same_number-sound a b e = eqb-true a b e

pub same_number-whole : (a : ℕ) → same_number a a ≡ true
same_number-whole a = eq-eqb a a refl

abbrev pub same_bytes : List ℕ → List ℕ → Bool
same_bytes a b = bytes_eq a b

pub same_bytes-sound : (a b : List ℕ) → same_bytes a b ≡ true → a ≡ b
same_bytes-sound a b e = (bytes_eq-Decides a b).0 e

pub same_bytes-whole : (a : List ℕ) → same_bytes a a ≡ true
same_bytes-whole a = (bytes_eq-Decides a a).1 refl

abbrev pub same_flag : Bool → Bool → Bool
same_flag true true = true
same_flag false false = true
same_flag a b = false

pub same_flag-sound : (a b : Bool) → same_flag a b ≡ true → a ≡ b
same_flag-sound true true e = refl
same_flag-sound false false e = refl
same_flag-sound a b e = absurd (false_true e)

pub same_flag-whole : (a : Bool) → same_flag a a ≡ true
same_flag-whole true = refl
same_flag-whole false = refl

abbrev pub same_renderer : RendererId → RendererId → Bool
same_renderer a b = a.0 == b.0

pub same_renderer-sound : (a b : RendererId) → same_renderer a b ≡ true → a ≡ b
same_renderer-sound a b e = let path : a.0 ≡ b.0 = eqb-true a.0 b.0 e in λ i. record { 0 = path i }

pub same_renderer-whole : (a : RendererId) → same_renderer a a ≡ true
same_renderer-whole a = eq-eqb a.0 a.0 refl

abbrev pub same_reader : ReaderId → ReaderId → Bool
same_reader a b = a.0 == b.0

pub same_reader-sound : (a b : ReaderId) → same_reader a b ≡ true → a ≡ b
same_reader-sound a b e = let path : a.0 ≡ b.0 = eqb-true a.0 b.0 e in λ i. record { 0 = path i }

pub same_reader-whole : (a : ReaderId) → same_reader a a ≡ true
same_reader-whole a = eq-eqb a.0 a.0 refl

abbrev pub same_piece : PieceNo → PieceNo → Bool
same_piece a b = a.0 == b.0

pub same_piece-sound : (a b : PieceNo) → same_piece a b ≡ true → a ≡ b
same_piece-sound a b e = let path : a.0 ≡ b.0 = eqb-true a.0 b.0 e in λ i. record { 0 = path i }

pub same_piece-whole : (a : PieceNo) → same_piece a a ≡ true
same_piece-whole a = eq-eqb a.0 a.0 refl

abbrev pub same_page : PageNo → PageNo → Bool
same_page a b = a.0 == b.0

pub same_page-sound : (a b : PageNo) → same_page a b ≡ true → a ≡ b
same_page-sound a b e = let path : a.0 ≡ b.0 = eqb-true a.0 b.0 e in λ i. record { 0 = path i }

pub same_page-whole : (a : PageNo) → same_page a a ≡ true
same_page-whole a = eq-eqb a.0 a.0 refl

abbrev pub same_job : JobNo → JobNo → Bool
same_job a b = a.0 == b.0

pub same_job-sound : (a b : JobNo) → same_job a b ≡ true → a ≡ b
same_job-sound a b e = let path : a.0 ≡ b.0 = eqb-true a.0 b.0 e in λ i. record { 0 = path i }

pub same_job-whole : (a : JobNo) → same_job a a ≡ true
same_job-whole a = eq-eqb a.0 a.0 refl

abbrev pub numbers_of : List PieceNo → List ℕ
numbers_of [] = []
numbers_of (piece ∷ list) = piece.0 ∷ numbers_of list

pieces_at : List ℕ → List PieceNo
pieces_at [] = []
pieces_at (number ∷ list) = record { 0 = number } ∷ pieces_at list

pieces_at-numbers_of : (list : List PieceNo) → pieces_at (numbers_of list) ≡ list
unfolding pieces_at
pieces_at-numbers_of [] = refl
pieces_at-numbers_of (piece ∷ list) = ap (λ more. piece ∷ more) (pieces_at-numbers_of list)

abbrev pub same_list : List PieceNo → List PieceNo → Bool
same_list a b = bytes_eq (numbers_of a) (numbers_of b)

pub same_list-sound : (a b : List PieceNo) → same_list a b ≡ true → a ≡ b
same_list-sound a b e =
    let path : numbers_of a ≡ numbers_of b = same_bytes-sound (numbers_of a) (numbers_of b) e in
    sym (pieces_at-numbers_of a) ∙ ap pieces_at path ∙ pieces_at-numbers_of b

pub same_list-whole : (a : List PieceNo) → same_list a a ≡ true
same_list-whole a = same_bytes-whole (numbers_of a)

abbrev pub same_counted : Counted → Counted → Bool
same_counted counted.Renderers counted.Renderers = true
same_counted counted.Blobs counted.Blobs = true
same_counted counted.Segments counted.Segments = true
same_counted counted.Pieces counted.Pieces = true
same_counted counted.Views counted.Views = true
same_counted counted.Readers counted.Readers = true
same_counted counted.Urls counted.Urls = true
same_counted counted.Files counted.Files = true
same_counted a b = false

pub same_counted-sound : (a b : Counted) → same_counted a b ≡ true → a ≡ b
same_counted-sound counted.Renderers counted.Renderers e = refl
same_counted-sound counted.Blobs counted.Blobs e = refl
same_counted-sound counted.Segments counted.Segments e = refl
same_counted-sound counted.Pieces counted.Pieces e = refl
same_counted-sound counted.Views counted.Views e = refl
same_counted-sound counted.Readers counted.Readers e = refl
same_counted-sound counted.Urls counted.Urls e = refl
same_counted-sound counted.Files counted.Files e = refl
same_counted-sound a b e = absurd (false_true e)

pub same_counted-whole : (a : Counted) → same_counted a a ≡ true
same_counted-whole counted.Renderers = refl
same_counted-whole counted.Blobs = refl
same_counted-whole counted.Segments = refl
same_counted-whole counted.Pieces = refl
same_counted-whole counted.Views = refl
same_counted-whole counted.Readers = refl
same_counted-whole counted.Urls = refl
same_counted-whole counted.Files = refl

abbrev pub same_status : Status → Status → Bool
same_status statuses.InvalidArguments statuses.InvalidArguments = true
same_status statuses.OutOfMemory statuses.OutOfMemory = true
same_status statuses.FileWriteFailed statuses.FileWriteFailed = true
same_status statuses.SourceDied statuses.SourceDied = true
same_status statuses.Dereferenced statuses.Dereferenced = true
same_status statuses.ReferencedBlobBroken statuses.ReferencedBlobBroken = true
same_status statuses.ReferencedFileUnavailable statuses.ReferencedFileUnavailable = true
same_status statuses.Done statuses.Done = true
same_status statuses.PendingQuota statuses.PendingQuota = true
same_status statuses.PendingTransport statuses.PendingTransport = true
same_status statuses.PendingReferencedBlobs statuses.PendingReferencedBlobs = true
same_status a b = false

pub same_status-sound : (a b : Status) → same_status a b ≡ true → a ≡ b
same_status-sound statuses.InvalidArguments statuses.InvalidArguments e = refl
same_status-sound statuses.OutOfMemory statuses.OutOfMemory e = refl
same_status-sound statuses.FileWriteFailed statuses.FileWriteFailed e = refl
same_status-sound statuses.SourceDied statuses.SourceDied e = refl
same_status-sound statuses.Dereferenced statuses.Dereferenced e = refl
same_status-sound statuses.ReferencedBlobBroken statuses.ReferencedBlobBroken e = refl
same_status-sound statuses.ReferencedFileUnavailable statuses.ReferencedFileUnavailable e = refl
same_status-sound statuses.Done statuses.Done e = refl
same_status-sound statuses.PendingQuota statuses.PendingQuota e = refl
same_status-sound statuses.PendingTransport statuses.PendingTransport e = refl
same_status-sound statuses.PendingReferencedBlobs statuses.PendingReferencedBlobs e = refl
same_status-sound a b e = absurd (false_true e)

pub same_status-whole : (a : Status) → same_status a a ≡ true
same_status-whole statuses.InvalidArguments = refl
same_status-whole statuses.OutOfMemory = refl
same_status-whole statuses.FileWriteFailed = refl
same_status-whole statuses.SourceDied = refl
same_status-whole statuses.Dereferenced = refl
same_status-whole statuses.ReferencedBlobBroken = refl
same_status-whole statuses.ReferencedFileUnavailable = refl
same_status-whole statuses.Done = refl
same_status-whole statuses.PendingQuota = refl
same_status-whole statuses.PendingTransport = refl
same_status-whole statuses.PendingReferencedBlobs = refl

abbrev pub same_plan : Plan → Plan → Bool
same_plan plans.None plans.None = true
same_plan plans.Inline plans.Inline = true
same_plan (plans.Shared a0) (plans.Shared b0) = same_number a0 b0
same_plan (plans.File a0) (plans.File b0) = same_number a0 b0
same_plan plans.OutOfMemory plans.OutOfMemory = true
same_plan (plans.TooMany a0) (plans.TooMany b0) = same_counted a0 b0
same_plan a b = false

pub same_plan-sound : (a b : Plan) → same_plan a b ≡ true → a ≡ b
same_plan-sound plans.None plans.None e = refl
same_plan-sound plans.Inline plans.Inline e = refl
same_plan-sound (plans.Shared a0) (plans.Shared b0) e = let e0 : a0 ≡ b0 = same_number-sound a0 b0 e in λ i. plans.Shared (e0 i)
same_plan-sound (plans.File a0) (plans.File b0) e = let e0 : a0 ≡ b0 = same_number-sound a0 b0 e in λ i. plans.File (e0 i)
same_plan-sound plans.OutOfMemory plans.OutOfMemory e = refl
same_plan-sound (plans.TooMany a0) (plans.TooMany b0) e = let e0 : a0 ≡ b0 = same_counted-sound a0 b0 e in λ i. plans.TooMany (e0 i)
same_plan-sound a b e = absurd (false_true e)

pub same_plan-whole : (a : Plan) → same_plan a a ≡ true
same_plan-whole plans.None = refl
same_plan-whole plans.Inline = refl
same_plan-whole (plans.Shared a0) = same_number-whole a0
same_plan-whole (plans.File a0) = same_number-whole a0
same_plan-whole plans.OutOfMemory = refl
same_plan-whole (plans.TooMany a0) = same_counted-whole a0

abbrev pub same_refusal : Refusal → Refusal → Bool
same_refusal (refusals.NoRenderer a0) (refusals.NoRenderer b0) = same_renderer a0 b0
same_refusal (refusals.RendererUsed a0) (refusals.RendererUsed b0) = same_renderer a0 b0
same_refusal (refusals.NameUsed a0) (refusals.NameUsed b0) = same_number a0 b0
same_refusal (refusals.NoHandle a0 a1) (refusals.NoHandle b0 b1) = same_renderer a0 b0 && same_number a1 b1
same_refusal (refusals.NoSuchHandle a0) (refusals.NoSuchHandle b0) = same_number a0 b0
same_refusal (refusals.HandleTaken a0) (refusals.HandleTaken b0) = same_number a0 b0
same_refusal (refusals.NoTransport a0) (refusals.NoTransport b0) = same_number a0 b0
same_refusal (refusals.BadSegment a0) (refusals.BadSegment b0) = same_number a0 b0
same_refusal (refusals.SegmentTaken a0) (refusals.SegmentTaken b0) = same_number a0 b0
same_refusal (refusals.SegmentLength a0) (refusals.SegmentLength b0) = same_number a0 b0
same_refusal (refusals.ReaderUsed a0) (refusals.ReaderUsed b0) = same_reader a0 b0
same_refusal (refusals.NoReader a0) (refusals.NoReader b0) = same_reader a0 b0
same_refusal (refusals.Range a0) (refusals.Range b0) = same_number a0 b0
same_refusal refusals.UrlForm refusals.UrlForm = true
same_refusal refusals.UrlTaken refusals.UrlTaken = true
same_refusal refusals.NoUrl refusals.NoUrl = true
same_refusal (refusals.NoJob a0) (refusals.NoJob b0) = same_job a0 b0
same_refusal (refusals.StaleStamp a0) (refusals.StaleStamp b0) = same_number a0 b0
same_refusal refusals.NoFile refusals.NoFile = true
same_refusal (refusals.TooMany a0) (refusals.TooMany b0) = same_counted a0 b0
same_refusal refusals.LimitsAgain refusals.LimitsAgain = true
same_refusal a b = false

pub same_refusal-sound : (a b : Refusal) → same_refusal a b ≡ true → a ≡ b
same_refusal-sound (refusals.NoRenderer a0) (refusals.NoRenderer b0) e = let e0 : a0 ≡ b0 = same_renderer-sound a0 b0 e in λ i. refusals.NoRenderer (e0 i)
same_refusal-sound (refusals.RendererUsed a0) (refusals.RendererUsed b0) e = let e0 : a0 ≡ b0 = same_renderer-sound a0 b0 e in λ i. refusals.RendererUsed (e0 i)
same_refusal-sound (refusals.NameUsed a0) (refusals.NameUsed b0) e = let e0 : a0 ≡ b0 = same_number-sound a0 b0 e in λ i. refusals.NameUsed (e0 i)
same_refusal-sound (refusals.NoHandle a0 a1) (refusals.NoHandle b0 b1) e = let p1 = and_parts (same_renderer a0 b0) (same_number a1 b1) e in
    let e0 : a0 ≡ b0 = same_renderer-sound a0 b0 p1.0 in let e1 : a1 ≡ b1 = same_number-sound a1 b1 p1.1 in λ i. refusals.NoHandle (e0 i) (e1 i)
same_refusal-sound (refusals.NoSuchHandle a0) (refusals.NoSuchHandle b0) e = let e0 : a0 ≡ b0 = same_number-sound a0 b0 e in λ i. refusals.NoSuchHandle (e0 i)
same_refusal-sound (refusals.HandleTaken a0) (refusals.HandleTaken b0) e = let e0 : a0 ≡ b0 = same_number-sound a0 b0 e in λ i. refusals.HandleTaken (e0 i)
same_refusal-sound (refusals.NoTransport a0) (refusals.NoTransport b0) e = let e0 : a0 ≡ b0 = same_number-sound a0 b0 e in λ i. refusals.NoTransport (e0 i)
same_refusal-sound (refusals.BadSegment a0) (refusals.BadSegment b0) e = let e0 : a0 ≡ b0 = same_number-sound a0 b0 e in λ i. refusals.BadSegment (e0 i)
same_refusal-sound (refusals.SegmentTaken a0) (refusals.SegmentTaken b0) e = let e0 : a0 ≡ b0 = same_number-sound a0 b0 e in λ i. refusals.SegmentTaken (e0 i)
same_refusal-sound (refusals.SegmentLength a0) (refusals.SegmentLength b0) e = let e0 : a0 ≡ b0 = same_number-sound a0 b0 e in
    λ i. refusals.SegmentLength (e0 i)
same_refusal-sound (refusals.ReaderUsed a0) (refusals.ReaderUsed b0) e = let e0 : a0 ≡ b0 = same_reader-sound a0 b0 e in λ i. refusals.ReaderUsed (e0 i)
same_refusal-sound (refusals.NoReader a0) (refusals.NoReader b0) e = let e0 : a0 ≡ b0 = same_reader-sound a0 b0 e in λ i. refusals.NoReader (e0 i)
same_refusal-sound (refusals.Range a0) (refusals.Range b0) e = let e0 : a0 ≡ b0 = same_number-sound a0 b0 e in λ i. refusals.Range (e0 i)
same_refusal-sound refusals.UrlForm refusals.UrlForm e = refl
same_refusal-sound refusals.UrlTaken refusals.UrlTaken e = refl
same_refusal-sound refusals.NoUrl refusals.NoUrl e = refl
same_refusal-sound (refusals.NoJob a0) (refusals.NoJob b0) e = let e0 : a0 ≡ b0 = same_job-sound a0 b0 e in λ i. refusals.NoJob (e0 i)
same_refusal-sound (refusals.StaleStamp a0) (refusals.StaleStamp b0) e = let e0 : a0 ≡ b0 = same_number-sound a0 b0 e in λ i. refusals.StaleStamp (e0 i)
same_refusal-sound refusals.NoFile refusals.NoFile e = refl
same_refusal-sound (refusals.TooMany a0) (refusals.TooMany b0) e = let e0 : a0 ≡ b0 = same_counted-sound a0 b0 e in λ i. refusals.TooMany (e0 i)
same_refusal-sound refusals.LimitsAgain refusals.LimitsAgain e = refl
same_refusal-sound a b e = absurd (false_true e)

pub same_refusal-whole : (a : Refusal) → same_refusal a a ≡ true
same_refusal-whole (refusals.NoRenderer a0) = same_renderer-whole a0
same_refusal-whole (refusals.RendererUsed a0) = same_renderer-whole a0
same_refusal-whole (refusals.NameUsed a0) = same_number-whole a0
same_refusal-whole (refusals.NoHandle a0 a1) = both (same_renderer a0 a0) (same_number a1 a1) (same_renderer-whole a0) (same_number-whole a1)
same_refusal-whole (refusals.NoSuchHandle a0) = same_number-whole a0
same_refusal-whole (refusals.HandleTaken a0) = same_number-whole a0
same_refusal-whole (refusals.NoTransport a0) = same_number-whole a0
same_refusal-whole (refusals.BadSegment a0) = same_number-whole a0
same_refusal-whole (refusals.SegmentTaken a0) = same_number-whole a0
same_refusal-whole (refusals.SegmentLength a0) = same_number-whole a0
same_refusal-whole (refusals.ReaderUsed a0) = same_reader-whole a0
same_refusal-whole (refusals.NoReader a0) = same_reader-whole a0
same_refusal-whole (refusals.Range a0) = same_number-whole a0
same_refusal-whole refusals.UrlForm = refl
same_refusal-whole refusals.UrlTaken = refl
same_refusal-whole refusals.NoUrl = refl
same_refusal-whole (refusals.NoJob a0) = same_job-whole a0
same_refusal-whole (refusals.StaleStamp a0) = same_number-whole a0
same_refusal-whole refusals.NoFile = refl
same_refusal-whole (refusals.TooMany a0) = same_counted-whole a0
same_refusal-whole refusals.LimitsAgain = refl
