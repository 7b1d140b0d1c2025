-- The words of answers, refusals and plans. Own format.
use Rattle.std.specs.Prelude.{ℕ, List, codes}
use Rattle.answer_text.specs.declared.answer_word.AnswerWord.{AnswerWord}
use Rattle.answer_text.specs.declared.answer_word.AnswerWord.TheVariants as words
use Rattle.answer_text.specs.declared.plan_word.PlanWord.{PlanWord}
use Rattle.answer_text.specs.declared.plan_word.PlanWord.TheVariants as plan_words
use Rattle.answer_text.specs.declared.refusal_word.RefusalWord.{RefusalWord}
use Rattle.answer_text.specs.declared.refusal_word.RefusalWord.TheVariants as refusal_words

-- the word that an answer begins with
abbrev pub word_text : AnswerWord → List ℕ
word_text words.Good = codes "ok"
word_text words.Refused = codes "refused"
word_text words.Planned = codes "plan"
word_text words.Broken = codes "broken"
word_text words.Taken = codes "taken"
word_text words.Stored = codes "stored"
word_text words.StoreFailed = codes "store-failed"
word_text words.Told = codes "status"
word_text words.Revoked = codes "revoked"
word_text words.Nothing = codes "nothing"
word_text words.Opened = codes "opened"
word_text words.Given = codes "bytes"
word_text words.Wait = codes "wait"
word_text words.Ended = codes "end"
word_text words.FileChanged = codes "file-changed"
word_text words.PageFault = codes "page-fault"
word_text words.HandleFailed = codes "handle-failed"
word_text words.Paged = codes "paged"
word_text words.Empty = codes "empty"
word_text words.PageFailed = codes "page-failed"
word_text words.Moved = codes "moved"
word_text words.MoveFailed = codes "move-failed"
word_text words.MoveUnread = codes "move-unread"
word_text words.LostJob = codes "lost"
word_text words.Held = codes "held"
word_text words.Dropped = codes "dropped"
word_text words.Done = codes "done"
word_text words.Removed = codes "removed"
word_text words.Left = codes "left"
word_text words.Granted = codes "granted"
word_text words.Job = codes "job"
word_text words.Compacting = codes "compact"

-- the word of a refusal
abbrev pub refusal_text : RefusalWord → List ℕ
refusal_text refusal_words.NoRenderer = codes "no-renderer"
refusal_text refusal_words.RendererUsed = codes "renderer-used"
refusal_text refusal_words.NameUsed = codes "name-used"
refusal_text refusal_words.NoHandle = codes "no-handle"
refusal_text refusal_words.NoSuchHandle = codes "no-such-handle"
refusal_text refusal_words.HandleTaken = codes "handle-taken"
refusal_text refusal_words.NoTransport = codes "no-transport"
refusal_text refusal_words.BadSegment = codes "bad-segment"
refusal_text refusal_words.SegmentTaken = codes "segment-taken"
refusal_text refusal_words.SegmentLength = codes "segment-length"
refusal_text refusal_words.ReaderUsed = codes "reader-used"
refusal_text refusal_words.NoReader = codes "no-reader"
refusal_text refusal_words.Range = codes "range"
refusal_text refusal_words.UrlForm = codes "url-form"
refusal_text refusal_words.UrlTaken = codes "url-taken"
refusal_text refusal_words.NoUrl = codes "no-url"
refusal_text refusal_words.NoJob = codes "no-job"
refusal_text refusal_words.StaleStamp = codes "stale-stamp"
refusal_text refusal_words.NoFile = codes "no-file"
refusal_text refusal_words.TooMany = codes "too-many"
refusal_text refusal_words.LimitsAgain = codes "limits-again"

-- the word of a plan
abbrev pub plan_text : PlanWord → List ℕ
plan_text plan_words.None = codes "none"
plan_text plan_words.Inline = codes "inline"
plan_text plan_words.Shared = codes "shared"
plan_text plan_words.File = codes "file"
