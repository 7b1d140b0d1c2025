-- What lines leave that open readers, and why a reader can't be opened. Own.
use Rattle.std.specs.Prelude.{ℕ, ◌≡◌, ◌+◌, ◌==◌, ◌&&◌, Bool, not, List, length, Option, None, Some, is_some, nat_le, nat_lt, unwrap_or, if◌then◌else◌}
use Rattle.blob_words.specs.declared.bounds.TheConstants.{MOST_READERS}
use Rattle.blob_words.specs.declared.counted.Counted.TheVariants as counts
use Rattle.blob_words.specs.declared.number.ReaderId.{ReaderId}
use Rattle.blob_words.specs.declared.number.RendererId.{RendererId}
use Rattle.session_script.specs.declared.event.Event.TheVariants as events
use Rattle.answer_text.specs.declared.answer.Answer.TheVariants as answers
use Rattle.answer_text.specs.declared.refusal.Refusal.{Refusal}
use Rattle.answer_text.specs.declared.refusal.Refusal.TheVariants as refusals
use Rattle.blob_entries.specs.Book.{changed, entry_of}
use Rattle.blob_entries.specs.Changes.{held_more}
use Rattle.blob_entries.specs.Statuses.{is_broken}
use Rattle.blob_entries.specs.declared.entry.Entry.{Entry}
use Rattle.url_store.specs.Urls.{resolved}
use Rattle.blob_model.specs.History.{heard}
use Rattle.blob_model.specs.Readers.{OpenReader, range_end}
use Rattle.blob_model.specs.Renderers.{origin_of}
use Rattle.store_laws.specs.Apart.{AreUrlsApart}
use Rattle.store_laws.specs.LineLaws.{counted}
use Rattle.store_laws.specs.Stands.{Between}
use Rattle.store_laws.specs.TableLaws.{open_at, WhereStanding}

-- this reader comes under this number, and every other number has what it had
pub record ReaderComes (number : ℕ) (reader : OpenReader) (old new : List (ℕ × OpenReader)) : Type 0 where
  pub each : (other : ℕ) → open_at other new ≡ (if number == other then Some reader else open_at other old)
  pub many : length new ≡ length old + 1

-- whether a range passes the end of its blob, which that of a broken blob doesn't
abbrev pub passes_end : Entry → ℕ → Option ℕ → Bool
passes_end entry off len = not (is_broken entry.status) && nat_lt entry.size (off + unwrap_or len 0)

-- why a reader of a range of what stands there can't be opened
abbrev pub opening_refusal : ReaderId → Entry → ℕ → Option ℕ → List (ℕ × OpenReader) → Option Refusal
opening_refusal reader entry off len readers =
    if is_some (open_at reader.0 readers) then Some (refusals.ReaderUsed reader)
    else if passes_end entry off len then Some (refusals.Range entry.size)
    else if nat_le MOST_READERS (length readers) then Some (refusals.TooMany counts.Readers) else None

-- where a reader of it ends; of a broken blob it reads nothing
abbrev pub end_of : Entry → ℕ → Option ℕ → ℕ
end_of entry off len = if is_broken entry.status then off else range_end entry.size off len

abbrev pub reader_on : RendererId → ReaderId → ℕ → Entry → ℕ → Option ℕ → OpenReader
reader_on owner reader name entry off len =
    record { number = reader.0; owner = owner.0; blob = name; place = off; end = end_of entry off len }

-- a reader is opened on a blob by its name, which has one root more then
abbrev pub ReadStands : Type 0
ReadStands = WhereStanding (λ s h stands parts told table.
    (renderer : RendererId) (reader : ReaderId) (name off : ℕ) (len : Option ℕ) (entry : Entry) (readers : List (ℕ × OpenReader))
    → entry_of parts.book name ≡ Some entry → open_at reader.0 parts.readers ≡ None
    → ReaderComes reader.0 (reader_on renderer reader name entry off len) parts.readers readers
    → Between s (heard h (events.Read renderer reader name off len) (answers.Opened reader entry.size entry.kind)) stands
    (counted (record parts { book = changed parts.book name held_more; readers = readers })) told table)

-- and by a URL that leads to it
abbrev pub FetchStands : Type 0
FetchStands = WhereStanding (λ s h stands parts told table.
    AreUrlsApart h → (renderer : RendererId) (reader : ReaderId) (text : List ℕ) (name off : ℕ) (len : Option ℕ) (entry : Entry)
    (readers : List (ℕ × OpenReader)) → resolved (origin_of h renderer.0) text parts.urls ≡ Some name → entry_of parts.book name ≡ Some entry
    → open_at reader.0 parts.readers ≡ None → ReaderComes reader.0 (reader_on renderer reader name entry off len) parts.readers readers
    → Between s (heard h (events.Fetch renderer reader text off len) (answers.Opened reader entry.size entry.kind)) stands
    (counted (record parts { book = changed parts.book name held_more; readers = readers })) told table)

-- the parts stand for the history with the line
pub record OpeningsStand : Type 0 where
  pub reading : ReadStands
  pub fetching : FetchStands
