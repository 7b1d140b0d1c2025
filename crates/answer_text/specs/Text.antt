-- How the groups of a transcript are spelled. Own format.
use Rattle.std.specs.Prelude.{ℕ, ◌≡◌, ◌^◌, ◌<◌, true, List, [], ◌∷◌, ◌++◌, length, map, codes, decimal}
use Rattle.std.specs.List.{AllByRecursion, flat_map}
use Rattle.hex.specs.Hex.{IsBytes}
use Rattle.blob_words.specs.BlobName.{name_text}
use Rattle.blob_words.specs.FileName.{is_file_name}
use Rattle.blob_words.specs.declared.number.PieceNo.{PieceNo}
use Rattle.blob_words.specs.declared.plan.Plan.{Plan}
use Rattle.blob_words.specs.declared.plan.Plan.TheVariants as plans
use Rattle.blob_words.specs.declared.tally.Tally.{Tally}
use Rattle.text_fields.specs.Fields.{joined, hex_text}
use Rattle.session_script.specs.Line.{line_of, HasSpelling}
use Rattle.text_fields.specs.Kind.{IsContentType}
use Rattle.text_fields.specs.Status.{status_word, is_told, is_broken, is_end, switch_word}
use Rattle.session_script.specs.declared.event.Event.{Event}
use Rattle.text_fields.specs.Counted.{counted_fields}
use Rattle.answer_text.specs.Word.{word_text, refusal_text, plan_text}
use Rattle.answer_text.specs.declared.answer.Answer.{Answer}
use Rattle.answer_text.specs.declared.answer.Answer.TheVariants as answers
use Rattle.answer_text.specs.declared.answer_word.AnswerWord.{AnswerWord}
use Rattle.answer_text.specs.declared.answer_word.AnswerWord.TheVariants as words
use Rattle.answer_text.specs.declared.group.Group.{Group}
use Rattle.answer_text.specs.declared.plan_word.PlanWord.TheVariants as plan_words
use Rattle.answer_text.specs.declared.refusal.Refusal.{Refusal}
use Rattle.answer_text.specs.declared.refusal.Refusal.TheVariants as refusals
use Rattle.answer_text.specs.declared.refusal_word.RefusalWord.{RefusalWord}
use Rattle.answer_text.specs.declared.refusal_word.RefusalWord.TheVariants as refusal_words

-- the word of a refusal
abbrev pub refusal_word_of : Refusal → RefusalWord
refusal_word_of (refusals.NoRenderer r) = refusal_words.NoRenderer
refusal_word_of (refusals.RendererUsed r) = refusal_words.RendererUsed
refusal_word_of (refusals.NameUsed b) = refusal_words.NameUsed
refusal_word_of (refusals.NoHandle r b) = refusal_words.NoHandle
refusal_word_of (refusals.NoSuchHandle k) = refusal_words.NoSuchHandle
refusal_word_of (refusals.HandleTaken k) = refusal_words.HandleTaken
refusal_word_of (refusals.NoTransport b) = refusal_words.NoTransport
refusal_word_of (refusals.BadSegment n) = refusal_words.BadSegment
refusal_word_of (refusals.SegmentTaken n) = refusal_words.SegmentTaken
refusal_word_of (refusals.SegmentLength n) = refusal_words.SegmentLength
refusal_word_of (refusals.ReaderUsed q) = refusal_words.ReaderUsed
refusal_word_of (refusals.NoReader q) = refusal_words.NoReader
refusal_word_of (refusals.Range size) = refusal_words.Range
refusal_word_of refusals.UrlForm = refusal_words.UrlForm
refusal_word_of refusals.UrlTaken = refusal_words.UrlTaken
refusal_word_of refusals.NoUrl = refusal_words.NoUrl
refusal_word_of (refusals.NoJob j) = refusal_words.NoJob
refusal_word_of (refusals.StaleStamp last) = refusal_words.StaleStamp
refusal_word_of refusals.NoFile = refusal_words.NoFile
refusal_word_of (refusals.TooMany counted) = refusal_words.TooMany
refusal_word_of refusals.LimitsAgain = refusal_words.LimitsAgain

-- the details behind the word of a refusal
abbrev pub refusal_fields : Refusal → List (List ℕ)
refusal_fields (refusals.NoRenderer r) = decimal r.0 ∷ []
refusal_fields (refusals.RendererUsed r) = decimal r.0 ∷ []
refusal_fields (refusals.NameUsed b) = name_text b ∷ []
refusal_fields (refusals.NoHandle r b) = decimal r.0 ∷ name_text b ∷ []
refusal_fields (refusals.NoSuchHandle k) = decimal k ∷ []
refusal_fields (refusals.HandleTaken k) = decimal k ∷ []
refusal_fields (refusals.NoTransport b) = name_text b ∷ []
refusal_fields (refusals.BadSegment n) = decimal n ∷ []
refusal_fields (refusals.SegmentTaken n) = decimal n ∷ []
refusal_fields (refusals.SegmentLength n) = decimal n ∷ []
refusal_fields (refusals.ReaderUsed q) = decimal q.0 ∷ []
refusal_fields (refusals.NoReader q) = decimal q.0 ∷ []
refusal_fields (refusals.Range size) = decimal size ∷ []
refusal_fields refusals.UrlForm = []
refusal_fields refusals.UrlTaken = []
refusal_fields refusals.NoUrl = []
refusal_fields (refusals.NoJob j) = decimal j.0 ∷ []
refusal_fields (refusals.StaleStamp last) = decimal last ∷ []
refusal_fields refusals.NoFile = []
refusal_fields (refusals.TooMany counted) = counted_fields counted
refusal_fields refusals.LimitsAgain = []

-- the fields of a plan; the last two are no plans that a blob has
abbrev pub plan_fields : Plan → List (List ℕ)
plan_fields plans.None = plan_text plan_words.None ∷ []
plan_fields plans.Inline = plan_text plan_words.Inline ∷ []
plan_fields (plans.Shared n) = plan_text plan_words.Shared ∷ decimal n ∷ []
plan_fields (plans.File n) = plan_text plan_words.File ∷ decimal n ∷ []
plan_fields plans.OutOfMemory = []
plan_fields (plans.TooMany counted) = []

-- the fields of some pieces
abbrev pub piece_fields : List PieceNo → List (List ℕ)
piece_fields ps = map (λ (p : PieceNo). decimal p.0) ps

-- the word that an answer begins with
abbrev pub word_of : Answer → AnswerWord
word_of answers.Good = words.Good
word_of (answers.Refused refusal) = words.Refused
word_of (answers.Planned plan) = words.Planned
word_of (answers.Broken b status) = words.Broken
word_of (answers.Taken seg) = words.Taken
word_of (answers.Stored f p) = words.Stored
word_of (answers.StoreFailed f) = words.StoreFailed
word_of (answers.Told b size kind status) = words.Told
word_of answers.Revoked = words.Revoked
word_of answers.Nothing = words.Nothing
word_of (answers.Opened q size kind) = words.Opened
word_of (answers.Given q octets) = words.Given
word_of (answers.Wait q) = words.Wait
word_of (answers.Ended q status) = words.Ended
word_of (answers.FileChanged q file) = words.FileChanged
word_of (answers.PageFault q f) = words.PageFault
word_of (answers.HandleFailed q k) = words.HandleFailed
word_of (answers.Paged j f ps) = words.Paged
word_of (answers.Empty j) = words.Empty
word_of (answers.PageFailed j f) = words.PageFailed
word_of (answers.Moved j f ps) = words.Moved
word_of (answers.MoveFailed j f) = words.MoveFailed
word_of (answers.MoveUnread j f) = words.MoveUnread
word_of (answers.LostJob j) = words.LostJob
word_of (answers.Held blobs urls readers waiting paging) = words.Held
word_of (answers.Dropped b) = words.Dropped
word_of (answers.Done b) = words.Done
word_of (answers.Removed f) = words.Removed
word_of (answers.Left f) = words.Left
word_of (answers.Granted b) = words.Granted
word_of (answers.Job j ps) = words.Job
word_of (answers.Compacting j f ps) = words.Compacting

-- the fields behind the word
abbrev pub answer_fields : Answer → List (List ℕ)
answer_fields answers.Good = []
answer_fields (answers.Refused refusal) = refusal_text (refusal_word_of refusal) ∷ refusal_fields refusal
answer_fields (answers.Planned plan) = plan_fields plan
answer_fields (answers.Broken b status) = name_text b ∷ status_word status ∷ []
answer_fields (answers.Taken seg) = decimal seg ∷ []
answer_fields (answers.Stored f p) = decimal f.0 ∷ decimal p.0 ∷ []
answer_fields (answers.StoreFailed f) = decimal f.0 ∷ []
answer_fields (answers.Told b size kind status) = name_text b ∷ decimal size ∷ hex_text kind ∷ status_word status ∷ []
answer_fields answers.Revoked = []
answer_fields answers.Nothing = []
answer_fields (answers.Opened q size kind) = decimal q.0 ∷ decimal size ∷ hex_text kind ∷ []
answer_fields (answers.Given q octets) = decimal q.0 ∷ hex_text octets ∷ []
answer_fields (answers.Wait q) = decimal q.0 ∷ []
answer_fields (answers.Ended q status) = decimal q.0 ∷ status_word status ∷ []
answer_fields (answers.FileChanged q file) = decimal q.0 ∷ file ∷ []
answer_fields (answers.PageFault q f) = decimal q.0 ∷ decimal f.0 ∷ []
answer_fields (answers.HandleFailed q k) = decimal q.0 ∷ decimal k ∷ []
answer_fields (answers.Paged j f ps) = decimal j.0 ∷ decimal f.0 ∷ piece_fields ps
answer_fields (answers.Empty j) = decimal j.0 ∷ []
answer_fields (answers.PageFailed j f) = decimal j.0 ∷ decimal f.0 ∷ []
answer_fields (answers.Moved j f ps) = decimal j.0 ∷ decimal f.0 ∷ piece_fields ps
answer_fields (answers.MoveFailed j f) = decimal j.0 ∷ decimal f.0 ∷ []
answer_fields (answers.MoveUnread j f) = decimal j.0 ∷ decimal f.0 ∷ []
answer_fields (answers.LostJob j) = decimal j.0 ∷ []
answer_fields (answers.Held blobs urls readers waiting paging) = decimal blobs ∷ decimal urls ∷ decimal readers ∷ decimal waiting ∷ switch_word paging ∷ []
answer_fields (answers.Dropped b) = name_text b ∷ []
answer_fields (answers.Done b) = name_text b ∷ []
answer_fields (answers.Removed f) = decimal f.0 ∷ []
answer_fields (answers.Left f) = decimal f.0 ∷ []
answer_fields (answers.Granted b) = name_text b ∷ []
answer_fields (answers.Job j ps) = decimal j.0 ∷ piece_fields ps
answer_fields (answers.Compacting j f ps) = decimal j.0 ∷ decimal f.0 ∷ piece_fields ps

-- the text of an answer: its word and its fields, parted by spaces
abbrev pub answer_text : Answer → List ℕ
answer_text answer = joined 32 (word_text (word_of answer) ∷ answer_fields answer)

-- the text of a tally
abbrev pub tally_fields : Tally → List (List ℕ)
tally_fields tally = decimal tally.pieces ∷ decimal tally.memory ∷ decimal tally.files ∷ decimal tally.disk ∷ []

abbrev pub tally_text : Tally → List ℕ
tally_text tally = joined 32 (codes "=" ∷ tally_fields tally)

-- the lines of a group, each with its line feed
abbrev pub event_line : Event → List ℕ
event_line event = codes "> " ++ (line_of event ++ 10 ∷ [])

abbrev pub answer_line : Answer → List ℕ
answer_line answer = answer_text answer ++ 10 ∷ []

abbrev pub tally_line : Tally → List ℕ
tally_line tally = tally_text tally ++ 10 ∷ []

-- the event's line, the lines of the answers, and the tally's line
abbrev pub group_text : Group → List ℕ
group_text group = event_line group.event ++ (flat_map answer_line group.answers ++ tally_line group.tally)

-- a transcript: the texts of its groups, one after the other
abbrev pub groups_text : List Group → List ℕ
groups_text groups = flat_map group_text groups

-- a refusal that has a text: its numbers and its name are in range
abbrev pub RefusalHasText : Refusal → Type 0
RefusalHasText (refusals.NoRenderer r) = r.0 < 2 ^ 32
RefusalHasText (refusals.RendererUsed r) = r.0 < 2 ^ 32
RefusalHasText (refusals.NameUsed b) = b < 2 ^ 128
RefusalHasText (refusals.NoHandle r b) = (r.0 < 2 ^ 32) × (b < 2 ^ 128)
RefusalHasText (refusals.NoSuchHandle k) = k < 2 ^ 32
RefusalHasText (refusals.HandleTaken k) = k < 2 ^ 32
RefusalHasText (refusals.NoTransport b) = b < 2 ^ 128
RefusalHasText (refusals.BadSegment n) = n < 2 ^ 32
RefusalHasText (refusals.SegmentTaken n) = n < 2 ^ 32
RefusalHasText (refusals.SegmentLength n) = n < 2 ^ 64
RefusalHasText (refusals.ReaderUsed q) = q.0 < 2 ^ 32
RefusalHasText (refusals.NoReader q) = q.0 < 2 ^ 32
RefusalHasText (refusals.Range size) = size < 2 ^ 64
RefusalHasText refusals.UrlForm = Unit {0}
RefusalHasText refusals.UrlTaken = Unit {0}
RefusalHasText refusals.NoUrl = Unit {0}
RefusalHasText (refusals.NoJob j) = j.0 < 2 ^ 32
RefusalHasText (refusals.StaleStamp last) = last < 2 ^ 64
RefusalHasText refusals.NoFile = Unit {0}
RefusalHasText (refusals.TooMany counted) = Unit {0}
RefusalHasText refusals.LimitsAgain = Unit {0}

-- a plan that has a text: one that a blob has
abbrev pub PlanHasText : Plan → Type 0
PlanHasText plans.None = Unit {0}
PlanHasText plans.Inline = Unit {0}
PlanHasText (plans.Shared n) = n < 2 ^ 32
PlanHasText (plans.File n) = n < 2 ^ 32
PlanHasText plans.OutOfMemory = ⊥
PlanHasText (plans.TooMany counted) = ⊥

-- one or more pieces, whose numbers are in range
abbrev pub PiecesHaveText : List PieceNo → Type 0
PiecesHaveText ps = (0 < length ps) × AllByRecursion (λ (p : PieceNo). p.0 < 2 ^ 32) ps

-- an answer that has a text: its numbers, names and bytes are in range, and its status is one that is said so
abbrev pub HasText : Answer → Type 0
HasText answers.Good = Unit {0}
HasText (answers.Refused refusal) = RefusalHasText refusal
HasText (answers.Planned plan) = PlanHasText plan
HasText (answers.Broken b status) = (b < 2 ^ 128) × (is_broken status ≡ true)
HasText (answers.Taken seg) = seg < 2 ^ 32
HasText (answers.Stored f p) = (f.0 < 2 ^ 32) × (p.0 < 2 ^ 32)
HasText (answers.StoreFailed f) = f.0 < 2 ^ 32
HasText (answers.Told b size kind status) = (b < 2 ^ 128) × (size < 2 ^ 64) × IsContentType kind × (is_told status ≡ true)
HasText answers.Revoked = Unit {0}
HasText answers.Nothing = Unit {0}
HasText (answers.Opened q size kind) = (q.0 < 2 ^ 32) × (size < 2 ^ 64) × IsContentType kind
HasText (answers.Given q octets) = (q.0 < 2 ^ 32) × (IsBytes octets × (0 < length octets))
HasText (answers.Wait q) = q.0 < 2 ^ 32
HasText (answers.Ended q status) = (q.0 < 2 ^ 32) × (is_end status ≡ true)
HasText (answers.FileChanged q file) = (q.0 < 2 ^ 32) × (is_file_name file ≡ true)
HasText (answers.PageFault q f) = (q.0 < 2 ^ 32) × (f.0 < 2 ^ 32)
HasText (answers.HandleFailed q k) = (q.0 < 2 ^ 32) × (k < 2 ^ 32)
HasText (answers.Paged j f ps) = (j.0 < 2 ^ 32) × (f.0 < 2 ^ 32) × PiecesHaveText ps
HasText (answers.Empty j) = j.0 < 2 ^ 32
HasText (answers.PageFailed j f) = (j.0 < 2 ^ 32) × (f.0 < 2 ^ 32)
HasText (answers.Moved j f ps) = (j.0 < 2 ^ 32) × (f.0 < 2 ^ 32) × PiecesHaveText ps
HasText (answers.MoveFailed j f) = (j.0 < 2 ^ 32) × (f.0 < 2 ^ 32)
HasText (answers.MoveUnread j f) = (j.0 < 2 ^ 32) × (f.0 < 2 ^ 32)
HasText (answers.LostJob j) = j.0 < 2 ^ 32
HasText (answers.Held blobs urls readers waiting paging) = (blobs < 2 ^ 32) × (urls < 2 ^ 32) × (readers < 2 ^ 32) × (waiting < 2 ^ 32)
HasText (answers.Dropped b) = b < 2 ^ 128
HasText (answers.Done b) = b < 2 ^ 128
HasText (answers.Removed f) = f.0 < 2 ^ 32
HasText (answers.Left f) = f.0 < 2 ^ 32
HasText (answers.Granted b) = b < 2 ^ 128
HasText (answers.Job j ps) = (j.0 < 2 ^ 32) × PiecesHaveText ps
HasText (answers.Compacting j f ps) = (j.0 < 2 ^ 32) × (f.0 < 2 ^ 32) × PiecesHaveText ps

-- a tally whose numbers are in range
abbrev pub TallyHasText : Tally → Type 0
TallyHasText tally = (tally.pieces < 2 ^ 32) × (tally.memory < 2 ^ 64) × (tally.files < 2 ^ 32) × (tally.disk < 2 ^ 64)

-- a group that has a text
abbrev pub GroupHasText : Group → Type 0
GroupHasText group = HasSpelling group.event × AllByRecursion HasText group.answers × TallyHasText group.tally
