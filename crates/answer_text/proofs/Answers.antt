-- Answers and their texts: what is spelled is read, and nothing else.
use Rattle.std.proofs.Common.{◌≡◌, ℕ, ◌<◌, ◌^◌, List, [], ◌∷◌, decimal, codes, false, Result, Ok, Err, refl, sym, ap, ◌∙◌, subst, arith}
use Rattle.std.specs.List.{AllByRecursion}
use Rattle.std.proofs.lemmas.List.{length-map}
use Rattle.blob_words.specs.declared.counted.Counted.{Counted}
use Rattle.blob_words.specs.declared.counted.Counted.TheVariants as counts
use Rattle.blob_words.specs.declared.number.PieceNo.{PieceNo}
use Rattle.blob_words.specs.declared.plan.Plan.{Plan}
use Rattle.blob_words.specs.declared.plan.Plan.TheVariants as plans
use Rattle.blob_words.specs.declared.tally.Tally.{Tally}
use Rattle.text_fields.specs.Fields.{joined}
use Rattle.text_fields.specs.Kind.{Spells, number_32, AllSpell}
use Rattle.text_fields.specs.Reading.{split}
use Rattle.text_fields.proofs.Splits.{joined-split}
use Rattle.text_fields.proofs.Visible.{AreVisible, has_feed, all_visible, spells_visible, literal_visible, split-visible, feedless}
use Rattle.answer_text.specs.Fault.{IsRefusalFields, IsPlan, ArePieces, IsAnswerFields, IsAnswer, IsTally, kinds_of, refusal_kinds, tally_kinds, ReadsAs}
use Rattle.answer_text.specs.Reading.{ReadsAnswer}
use Rattle.answer_text.specs.Text.{refusal_word_of, refusal_fields, plan_fields, piece_fields, word_of, answer_fields, answer_text, tally_fields, tally_text, RefusalHasText, PlanHasText, PiecesHaveText, HasText, TallyHasText}
use Rattle.text_fields.specs.Counted.{counted_fields}
use Rattle.answer_text.specs.Word.{word_text, refusal_text, plan_text}
use Rattle.answer_text.specs.declared.answer.Answer.{Answer}
use Rattle.answer_text.specs.declared.answer.Answer.TheVariants as answers
use Rattle.answer_text.specs.declared.answer_word.AnswerWord.{AnswerWord}
use Rattle.answer_text.specs.declared.answer_word.AnswerWord.TheVariants as words
use Rattle.answer_text.specs.declared.plan_word.PlanWord.{PlanWord}
use Rattle.answer_text.specs.declared.plan_word.PlanWord.TheVariants as plan_words
use Rattle.answer_text.specs.declared.refusal.Refusal.{Refusal}
use Rattle.answer_text.specs.declared.refusal.Refusal.TheVariants as refusals
use Rattle.answer_text.specs.declared.refusal_word.RefusalWord.{RefusalWord}
use Rattle.answer_text.specs.declared.refusal_word.RefusalWord.TheVariants as refusal_words
use Rattle.answer_text.specs.declared.text_fault.TextFault.{TextFault}
use Rattle.answer_text.specs.declared.text_fault.TextFault.TheVariants as faults

-- what the fields behind an answer's word are read to, the line is
pub answer_read : (line first : List ℕ) (own : List (List ℕ)) (word : AnswerWord) (r : Result Answer TextFault)
    → split 32 line ≡ first ∷ own → first ≡ word_text word → ((v : AnswerWord) → first ≡ word_text v → v ≡ word) → ReadsAnswer word own r
    → ReadsAs (λ text. IsAnswer (split 32 text)) HasText answer_text line r
answer_read line first own word (Ok answer) parted is_word once is_read =
    let same : first ∷ own ≡ word_text (word_of answer) ∷ answer_fields answer = cc (is_word ∙ ap word_text (sym is_read.0.1), is_read.1) in
    (is_read.0.0, sym (joined-split 32 line) ∙ ap (joined 32) (parted ∙ same))
answer_read line first own word (Err faults.Form) parted is_word once is_read =
    λ is. let there : IsAnswer (first ∷ own) = subst IsAnswer parted is in
    is_read (subst (λ (v : AnswerWord). IsAnswerFields v own) (once there.0 there.1) there.2)
answer_read line first own word (Err faults.Memory) parted is_word once is_read = tt

-- ---- what has a text spells it

refusal_is : (refusal : Refusal) → RefusalHasText refusal → IsRefusalFields (refusal_word_of refusal) (refusal_fields refusal)
refusal_is (refusals.NoRenderer r) fits = ((r.0, fits, refl), tt)
refusal_is (refusals.RendererUsed r) fits = ((r.0, fits, refl), tt)
refusal_is (refusals.NameUsed b) fits = ((b, fits, refl), tt)
refusal_is (refusals.NoHandle r b) fits = ((r.0, fits.0, refl), ((b, fits.1, refl), tt))
refusal_is (refusals.NoSuchHandle k) fits = ((k, fits, refl), tt)
refusal_is (refusals.HandleTaken k) fits = ((k, fits, refl), tt)
refusal_is (refusals.NoTransport b) fits = ((b, fits, refl), tt)
refusal_is (refusals.BadSegment n) fits = ((n, fits, refl), tt)
refusal_is (refusals.SegmentTaken n) fits = ((n, fits, refl), tt)
refusal_is (refusals.SegmentLength n) fits = ((n, fits, refl), tt)
refusal_is (refusals.ReaderUsed q) fits = ((q.0, fits, refl), tt)
refusal_is (refusals.NoReader q) fits = ((q.0, fits, refl), tt)
refusal_is (refusals.Range size) fits = ((size, fits, refl), tt)
refusal_is refusals.UrlForm fits = tt
refusal_is refusals.UrlTaken fits = tt
refusal_is refusals.NoUrl fits = tt
refusal_is (refusals.NoJob j) fits = ((j.0, fits, refl), tt)
refusal_is (refusals.StaleStamp last) fits = ((last, fits, refl), tt)
refusal_is refusals.NoFile fits = tt
refusal_is (refusals.TooMany counted) fits = (counted, refl)
refusal_is refusals.LimitsAgain fits = tt

plan_is : (plan : Plan) → PlanHasText plan → IsPlan (plan_fields plan)
plan_is plans.None fits = (plan_words.None, refl, tt)
plan_is plans.Inline fits = (plan_words.Inline, refl, tt)
plan_is (plans.Shared n) fits = (plan_words.Shared, refl, ((n, fits, refl), tt))
plan_is (plans.File n) fits = (plan_words.File, refl, ((n, fits, refl), tt))
plan_is plans.OutOfMemory fits = absurd fits
plan_is (plans.TooMany counted) fits = absurd fits

pieces_spelled : (ps : List PieceNo) → AllByRecursion (λ (p : PieceNo). p.0 < 2 ^ 32) ps → AllByRecursion (Spells number_32) (piece_fields ps)
pieces_spelled [] small = tt
pieces_spelled (p ∷ ps) small = ((p.0, small.0, refl), pieces_spelled ps small.1)

pieces_are : (ps : List PieceNo) → PiecesHaveText ps → ArePieces (piece_fields ps)
pieces_are ps fits = (omega (arith, fits.0, length-map ps (λ (p : PieceNo). decimal p.0)), pieces_spelled ps fits.1)

answer_is : (answer : Answer) → HasText answer → IsAnswerFields (word_of answer) (answer_fields answer)
answer_is answers.Good fits = tt
answer_is (answers.Refused refusal) fits = (refusal_word_of refusal, refl, refusal_is refusal fits)
answer_is (answers.Planned plan) fits = plan_is plan fits
answer_is (answers.Broken b status) fits = ((b, fits.0, refl), ((status, fits.1, refl), tt))
answer_is (answers.Taken seg) fits = ((seg, fits, refl), tt)
answer_is (answers.Stored f p) fits = ((f.0, fits.0, refl), ((p.0, fits.1, refl), tt))
answer_is (answers.StoreFailed f) fits = ((f.0, fits, refl), tt)
answer_is (answers.Told b size kind status) fits = ((b, fits.0, refl), ((size, fits.1, refl), ((kind, fits.2.0, fits.2.1, refl), ((status, fits.3, refl), tt))))
answer_is answers.Revoked fits = tt
answer_is answers.Nothing fits = tt
answer_is (answers.Opened q size kind) fits = ((q.0, fits.0, refl), ((size, fits.1, refl), ((kind, fits.2.0, fits.2.1, refl), tt)))
answer_is (answers.Given q octets) fits = ((q.0, fits.0, refl), ((octets, fits.1.0, fits.1.1, refl), tt))
answer_is (answers.Wait q) fits = ((q.0, fits, refl), tt)
answer_is (answers.Ended q status) fits = ((q.0, fits.0, refl), ((status, fits.1, refl), tt))
answer_is (answers.FileChanged q file) fits = ((q.0, fits.0, refl), (fits.1, tt))
answer_is (answers.PageFault q f) fits = ((q.0, fits.0, refl), ((f.0, fits.1, refl), tt))
answer_is (answers.HandleFailed q k) fits = ((q.0, fits.0, refl), ((k, fits.1, refl), tt))
answer_is (answers.Paged j f ps) fits = ((j.0, fits.0, refl), ((f.0, fits.1, refl), pieces_are ps fits.2))
answer_is (answers.Empty j) fits = ((j.0, fits, refl), tt)
answer_is (answers.PageFailed j f) fits = ((j.0, fits.0, refl), ((f.0, fits.1, refl), tt))
answer_is (answers.Moved j f ps) fits = ((j.0, fits.0, refl), ((f.0, fits.1, refl), pieces_are ps fits.2))
answer_is (answers.MoveFailed j f) fits = ((j.0, fits.0, refl), ((f.0, fits.1, refl), tt))
answer_is (answers.MoveUnread j f) fits = ((j.0, fits.0, refl), ((f.0, fits.1, refl), tt))
answer_is (answers.LostJob j) fits = ((j.0, fits, refl), tt)
answer_is (answers.Held blobs urls readers waiting paging) fits =
    ((blobs, fits.0, refl), ((urls, fits.1, refl), ((readers, fits.2, refl), ((waiting, fits.3, refl), ((paging, refl), tt)))))
answer_is (answers.Dropped b) fits = ((b, fits, refl), tt)
answer_is (answers.Done b) fits = ((b, fits, refl), tt)
answer_is (answers.Removed f) fits = ((f.0, fits, refl), tt)
answer_is (answers.Left f) fits = ((f.0, fits, refl), tt)
answer_is (answers.Granted b) fits = ((b, fits, refl), tt)
answer_is (answers.Job j ps) fits = ((j.0, fits.0, refl), pieces_are ps fits.1)
answer_is (answers.Compacting j f ps) fits = ((j.0, fits.0, refl), ((f.0, fits.1, refl), pieces_are ps fits.2))

-- ---- visible bytes

refusal_word_visible : (word : RefusalWord) → AreVisible (refusal_text word)
refusal_word_visible refusal_words.NoRenderer = literal_visible (codes "no-renderer") refl
refusal_word_visible refusal_words.RendererUsed = literal_visible (codes "renderer-used") refl
refusal_word_visible refusal_words.NameUsed = literal_visible (codes "name-used") refl
refusal_word_visible refusal_words.NoHandle = literal_visible (codes "no-handle") refl
refusal_word_visible refusal_words.NoSuchHandle = literal_visible (codes "no-such-handle") refl
refusal_word_visible refusal_words.HandleTaken = literal_visible (codes "handle-taken") refl
refusal_word_visible refusal_words.NoTransport = literal_visible (codes "no-transport") refl
refusal_word_visible refusal_words.BadSegment = literal_visible (codes "bad-segment") refl
refusal_word_visible refusal_words.SegmentTaken = literal_visible (codes "segment-taken") refl
refusal_word_visible refusal_words.SegmentLength = literal_visible (codes "segment-length") refl
refusal_word_visible refusal_words.ReaderUsed = literal_visible (codes "reader-used") refl
refusal_word_visible refusal_words.NoReader = literal_visible (codes "no-reader") refl
refusal_word_visible refusal_words.Range = literal_visible (codes "range") refl
refusal_word_visible refusal_words.UrlForm = literal_visible (codes "url-form") refl
refusal_word_visible refusal_words.UrlTaken = literal_visible (codes "url-taken") refl
refusal_word_visible refusal_words.NoUrl = literal_visible (codes "no-url") refl
refusal_word_visible refusal_words.NoJob = literal_visible (codes "no-job") refl
refusal_word_visible refusal_words.StaleStamp = literal_visible (codes "stale-stamp") refl
refusal_word_visible refusal_words.NoFile = literal_visible (codes "no-file") refl
refusal_word_visible refusal_words.TooMany = literal_visible (codes "too-many") refl
refusal_word_visible refusal_words.LimitsAgain = literal_visible (codes "limits-again") refl

counted_visible : (counted : Counted) → AllByRecursion AreVisible (counted_fields counted)
counted_visible counts.Renderers = (literal_visible (codes "renderers") refl, (literal_visible (codes "1024") refl, tt))
counted_visible counts.Blobs = (literal_visible (codes "blobs") refl, (literal_visible (codes "65536") refl, tt))
counted_visible counts.Segments = (literal_visible (codes "segments") refl, (literal_visible (codes "65536") refl, tt))
counted_visible counts.Pieces = (literal_visible (codes "pieces") refl, (literal_visible (codes "65536") refl, tt))
counted_visible counts.Views = (literal_visible (codes "views") refl, (literal_visible (codes "4194304") refl, tt))
counted_visible counts.Readers = (literal_visible (codes "readers") refl, (literal_visible (codes "4096") refl, tt))
counted_visible counts.Urls = (literal_visible (codes "urls") refl, (literal_visible (codes "16384") refl, tt))
counted_visible counts.Files = (literal_visible (codes "files") refl, (literal_visible (codes "16384") refl, tt))

plan_word_visible : (word : PlanWord) → AreVisible (plan_text word)
plan_word_visible plan_words.None = literal_visible (codes "none") refl
plan_word_visible plan_words.Inline = literal_visible (codes "inline") refl
plan_word_visible plan_words.Shared = literal_visible (codes "shared") refl
plan_word_visible plan_words.File = literal_visible (codes "file") refl

word_visible : (word : AnswerWord) → AreVisible (word_text word)
word_visible words.Good = literal_visible (codes "ok") refl
word_visible words.Refused = literal_visible (codes "refused") refl
word_visible words.Planned = literal_visible (codes "plan") refl
word_visible words.Broken = literal_visible (codes "broken") refl
word_visible words.Taken = literal_visible (codes "taken") refl
word_visible words.Stored = literal_visible (codes "stored") refl
word_visible words.StoreFailed = literal_visible (codes "store-failed") refl
word_visible words.Told = literal_visible (codes "status") refl
word_visible words.Revoked = literal_visible (codes "revoked") refl
word_visible words.Nothing = literal_visible (codes "nothing") refl
word_visible words.Opened = literal_visible (codes "opened") refl
word_visible words.Given = literal_visible (codes "bytes") refl
word_visible words.Wait = literal_visible (codes "wait") refl
word_visible words.Ended = literal_visible (codes "end") refl
word_visible words.FileChanged = literal_visible (codes "file-changed") refl
word_visible words.PageFault = literal_visible (codes "page-fault") refl
word_visible words.HandleFailed = literal_visible (codes "handle-failed") refl
word_visible words.Paged = literal_visible (codes "paged") refl
word_visible words.Empty = literal_visible (codes "empty") refl
word_visible words.PageFailed = literal_visible (codes "page-failed") refl
word_visible words.Moved = literal_visible (codes "moved") refl
word_visible words.MoveFailed = literal_visible (codes "move-failed") refl
word_visible words.MoveUnread = literal_visible (codes "move-unread") refl
word_visible words.LostJob = literal_visible (codes "lost") refl
word_visible words.Held = literal_visible (codes "held") refl
word_visible words.Dropped = literal_visible (codes "dropped") refl
word_visible words.Done = literal_visible (codes "done") refl
word_visible words.Removed = literal_visible (codes "removed") refl
word_visible words.Left = literal_visible (codes "left") refl
word_visible words.Granted = literal_visible (codes "granted") refl
word_visible words.Job = literal_visible (codes "job") refl
word_visible words.Compacting = literal_visible (codes "compact") refl

refusal_fields_visible : (refusal : Refusal) → RefusalHasText refusal → AllByRecursion AreVisible (refusal_fields refusal)
refusal_fields_visible (refusals.NoRenderer r) fits = all_visible (refusal_kinds refusal_words.NoRenderer) (refusal_fields (refusals.NoRenderer r))
    ((r.0, fits, refl), tt)
refusal_fields_visible (refusals.RendererUsed r) fits = all_visible (refusal_kinds refusal_words.RendererUsed) (refusal_fields (refusals.RendererUsed r))
    ((r.0, fits, refl), tt)
refusal_fields_visible (refusals.NameUsed b) fits = all_visible (refusal_kinds refusal_words.NameUsed) (refusal_fields (refusals.NameUsed b))
    ((b, fits, refl), tt)
refusal_fields_visible (refusals.NoHandle r b) fits = all_visible (refusal_kinds refusal_words.NoHandle) (refusal_fields (refusals.NoHandle r b))
    ((r.0, fits.0, refl), ((b, fits.1, refl), tt))
refusal_fields_visible (refusals.NoSuchHandle k) fits = all_visible (refusal_kinds refusal_words.NoSuchHandle) (refusal_fields (refusals.NoSuchHandle k))
    ((k, fits, refl), tt)
refusal_fields_visible (refusals.HandleTaken k) fits = all_visible (refusal_kinds refusal_words.HandleTaken) (refusal_fields (refusals.HandleTaken k))
    ((k, fits, refl), tt)
refusal_fields_visible (refusals.NoTransport b) fits = all_visible (refusal_kinds refusal_words.NoTransport) (refusal_fields (refusals.NoTransport b))
    ((b, fits, refl), tt)
refusal_fields_visible (refusals.BadSegment n) fits = all_visible (refusal_kinds refusal_words.BadSegment) (refusal_fields (refusals.BadSegment n))
    ((n, fits, refl), tt)
refusal_fields_visible (refusals.SegmentTaken n) fits = all_visible (refusal_kinds refusal_words.SegmentTaken) (refusal_fields (refusals.SegmentTaken n))
    ((n, fits, refl), tt)
refusal_fields_visible (refusals.SegmentLength n) fits = all_visible (refusal_kinds refusal_words.SegmentLength) (refusal_fields (refusals.SegmentLength n))
    ((n, fits, refl), tt)
refusal_fields_visible (refusals.ReaderUsed q) fits = all_visible (refusal_kinds refusal_words.ReaderUsed) (refusal_fields (refusals.ReaderUsed q))
    ((q.0, fits, refl), tt)
refusal_fields_visible (refusals.NoReader q) fits = all_visible (refusal_kinds refusal_words.NoReader) (refusal_fields (refusals.NoReader q))
    ((q.0, fits, refl), tt)
refusal_fields_visible (refusals.Range size) fits = all_visible (refusal_kinds refusal_words.Range) (refusal_fields (refusals.Range size))
    ((size, fits, refl), tt)
refusal_fields_visible refusals.UrlForm fits = all_visible (refusal_kinds refusal_words.UrlForm) (refusal_fields refusals.UrlForm) tt
refusal_fields_visible refusals.UrlTaken fits = all_visible (refusal_kinds refusal_words.UrlTaken) (refusal_fields refusals.UrlTaken) tt
refusal_fields_visible refusals.NoUrl fits = all_visible (refusal_kinds refusal_words.NoUrl) (refusal_fields refusals.NoUrl) tt
refusal_fields_visible (refusals.NoJob j) fits = all_visible (refusal_kinds refusal_words.NoJob) (refusal_fields (refusals.NoJob j)) ((j.0, fits, refl), tt)
refusal_fields_visible (refusals.StaleStamp last) fits = all_visible (refusal_kinds refusal_words.StaleStamp) (refusal_fields (refusals.StaleStamp last))
    ((last, fits, refl), tt)
refusal_fields_visible refusals.NoFile fits = all_visible (refusal_kinds refusal_words.NoFile) (refusal_fields refusals.NoFile) tt
refusal_fields_visible (refusals.TooMany counted) fits = counted_visible counted
refusal_fields_visible refusals.LimitsAgain fits = all_visible (refusal_kinds refusal_words.LimitsAgain) (refusal_fields refusals.LimitsAgain) tt

plan_fields_visible : (plan : Plan) → PlanHasText plan → AllByRecursion AreVisible (plan_fields plan)
plan_fields_visible plans.None fits = (plan_word_visible plan_words.None, tt)
plan_fields_visible plans.Inline fits = (plan_word_visible plan_words.Inline, tt)
plan_fields_visible (plans.Shared n) fits = (plan_word_visible plan_words.Shared, (spells_visible number_32 (decimal n) (n, fits, refl), tt))
plan_fields_visible (plans.File n) fits = (plan_word_visible plan_words.File, (spells_visible number_32 (decimal n) (n, fits, refl), tt))
plan_fields_visible plans.OutOfMemory fits = absurd fits
plan_fields_visible (plans.TooMany counted) fits = absurd fits

pieces_visible : (ps : List PieceNo) → AllByRecursion (λ (p : PieceNo). p.0 < 2 ^ 32) ps → AllByRecursion AreVisible (piece_fields ps)
pieces_visible [] small = tt
pieces_visible (p ∷ ps) small = (spells_visible number_32 (decimal p.0) (p.0, small.0, refl), pieces_visible ps small.1)

fields_visible : (answer : Answer) → HasText answer → AllByRecursion AreVisible (answer_fields answer)
fields_visible answers.Good fits = all_visible (kinds_of words.Good) (answer_fields answers.Good) tt
fields_visible (answers.Refused refusal) fits = (refusal_word_visible (refusal_word_of refusal), refusal_fields_visible refusal fits)
fields_visible (answers.Planned plan) fits = plan_fields_visible plan fits
fields_visible (answers.Broken b status) fits = all_visible (kinds_of words.Broken) (answer_fields (answers.Broken b status))
    ((b, fits.0, refl), ((status, fits.1, refl), tt))
fields_visible (answers.Taken seg) fits = all_visible (kinds_of words.Taken) (answer_fields (answers.Taken seg)) ((seg, fits, refl), tt)
fields_visible (answers.Stored f p) fits = all_visible (kinds_of words.Stored) (answer_fields (answers.Stored f p))
    ((f.0, fits.0, refl), ((p.0, fits.1, refl), tt))
fields_visible (answers.StoreFailed f) fits = all_visible (kinds_of words.StoreFailed) (answer_fields (answers.StoreFailed f)) ((f.0, fits, refl), tt)
fields_visible (answers.Told b size kind status) fits = all_visible (kinds_of words.Told) (answer_fields (answers.Told b size kind status))
    ((b, fits.0, refl), ((size, fits.1, refl), ((kind, fits.2.0, fits.2.1, refl), ((status, fits.3, refl), tt))))
fields_visible answers.Revoked fits = all_visible (kinds_of words.Revoked) (answer_fields answers.Revoked) tt
fields_visible answers.Nothing fits = all_visible (kinds_of words.Nothing) (answer_fields answers.Nothing) tt
fields_visible (answers.Opened q size kind) fits = all_visible (kinds_of words.Opened) (answer_fields (answers.Opened q size kind))
    ((q.0, fits.0, refl), ((size, fits.1, refl), ((kind, fits.2.0, fits.2.1, refl), tt)))
fields_visible (answers.Given q octets) fits = all_visible (kinds_of words.Given) (answer_fields (answers.Given q octets))
    ((q.0, fits.0, refl), ((octets, fits.1.0, fits.1.1, refl), tt))
fields_visible (answers.Wait q) fits = all_visible (kinds_of words.Wait) (answer_fields (answers.Wait q)) ((q.0, fits, refl), tt)
fields_visible (answers.Ended q status) fits = all_visible (kinds_of words.Ended) (answer_fields (answers.Ended q status))
    ((q.0, fits.0, refl), ((status, fits.1, refl), tt))
fields_visible (answers.FileChanged q file) fits = all_visible (kinds_of words.FileChanged) (answer_fields (answers.FileChanged q file))
    ((q.0, fits.0, refl), (fits.1, tt))
fields_visible (answers.PageFault q f) fits = all_visible (kinds_of words.PageFault) (answer_fields (answers.PageFault q f))
    ((q.0, fits.0, refl), ((f.0, fits.1, refl), tt))
fields_visible (answers.HandleFailed q k) fits = all_visible (kinds_of words.HandleFailed) (answer_fields (answers.HandleFailed q k))
    ((q.0, fits.0, refl), ((k, fits.1, refl), tt))
fields_visible (answers.Paged j f ps) fits = (
  spells_visible number_32 (decimal j.0) (j.0, fits.0, refl),
  (spells_visible number_32 (decimal f.0) (f.0, fits.1, refl), pieces_visible ps fits.2.1),
)
fields_visible (answers.Empty j) fits = all_visible (kinds_of words.Empty) (answer_fields (answers.Empty j)) ((j.0, fits, refl), tt)
fields_visible (answers.PageFailed j f) fits = all_visible (kinds_of words.PageFailed) (answer_fields (answers.PageFailed j f))
    ((j.0, fits.0, refl), ((f.0, fits.1, refl), tt))
fields_visible (answers.Moved j f ps) fits = (
  spells_visible number_32 (decimal j.0) (j.0, fits.0, refl),
  (spells_visible number_32 (decimal f.0) (f.0, fits.1, refl), pieces_visible ps fits.2.1),
)
fields_visible (answers.MoveFailed j f) fits = all_visible (kinds_of words.MoveFailed) (answer_fields (answers.MoveFailed j f))
    ((j.0, fits.0, refl), ((f.0, fits.1, refl), tt))
fields_visible (answers.MoveUnread j f) fits = all_visible (kinds_of words.MoveUnread) (answer_fields (answers.MoveUnread j f))
    ((j.0, fits.0, refl), ((f.0, fits.1, refl), tt))
fields_visible (answers.LostJob j) fits = all_visible (kinds_of words.LostJob) (answer_fields (answers.LostJob j)) ((j.0, fits, refl), tt)
fields_visible (answers.Held blobs urls readers waiting paging) fits =
    all_visible (kinds_of words.Held) (answer_fields (answers.Held blobs urls readers waiting paging))
    ((blobs, fits.0, refl), ((urls, fits.1, refl), ((readers, fits.2, refl), ((waiting, fits.3, refl), ((paging, refl), tt)))))
fields_visible (answers.Dropped b) fits = all_visible (kinds_of words.Dropped) (answer_fields (answers.Dropped b)) ((b, fits, refl), tt)
fields_visible (answers.Done b) fits = all_visible (kinds_of words.Done) (answer_fields (answers.Done b)) ((b, fits, refl), tt)
fields_visible (answers.Removed f) fits = all_visible (kinds_of words.Removed) (answer_fields (answers.Removed f)) ((f.0, fits, refl), tt)
fields_visible (answers.Left f) fits = all_visible (kinds_of words.Left) (answer_fields (answers.Left f)) ((f.0, fits, refl), tt)
fields_visible (answers.Granted b) fits = all_visible (kinds_of words.Granted) (answer_fields (answers.Granted b)) ((b, fits, refl), tt)
fields_visible (answers.Job j ps) fits = (spells_visible number_32 (decimal j.0) (j.0, fits.0, refl), pieces_visible ps fits.1.1)
fields_visible (answers.Compacting j f ps) fits = (
  spells_visible number_32 (decimal j.0) (j.0, fits.0, refl),
  (spells_visible number_32 (decimal f.0) (f.0, fits.1, refl), pieces_visible ps fits.2.1),
)

-- an answer's text is parted at its spaces into its word and its fields
pub split-answer_text : (answer : Answer) → HasText answer → split 32 (answer_text answer) ≡ word_text (word_of answer) ∷ answer_fields answer
split-answer_text answer fits = split-visible (word_text (word_of answer)) (answer_fields answer) (word_visible (word_of answer)) (fields_visible answer fits)

pub answer_feedless : (answer : Answer) → HasText answer → has_feed (answer_text answer) ≡ false
answer_feedless answer fits = feedless (word_text (word_of answer)) (answer_fields answer) (word_visible (word_of answer)) (fields_visible answer fits)

pub is_answer : (answer : Answer) → HasText answer → IsAnswer (split 32 (answer_text answer))
is_answer answer fits = subst IsAnswer (sym (split-answer_text answer fits)) (word_of answer, refl, answer_is answer fits)

-- ---- tallies

tally_spelled : (tally : Tally) → TallyHasText tally → AllSpell tally_kinds (tally_fields tally)
tally_spelled tally fits = ((tally.pieces, fits.0, refl), ((tally.memory, fits.1, refl), ((tally.files, fits.2, refl), ((tally.disk, fits.3, refl), tt))))

equals_visible : AreVisible (codes "=")
equals_visible = literal_visible (codes "=") refl

pub split-tally_text : (tally : Tally) → TallyHasText tally → split 32 (tally_text tally) ≡ codes "=" ∷ tally_fields tally
split-tally_text tally fits = split-visible (codes "=") (tally_fields tally) equals_visible
    (all_visible tally_kinds (tally_fields tally) (tally_spelled tally fits))

pub tally_feedless : (tally : Tally) → TallyHasText tally → has_feed (tally_text tally) ≡ false
tally_feedless tally fits = feedless (codes "=") (tally_fields tally) equals_visible (all_visible tally_kinds (tally_fields tally) (tally_spelled tally fits))

pub is_tally : (tally : Tally) → TallyHasText tally → IsTally (split 32 (tally_text tally))
is_tally tally fits = subst IsTally (sym (split-tally_text tally fits)) (refl, tally_spelled tally fits)
