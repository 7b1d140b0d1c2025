-- What opening a reader makes of the parts of a store. Own.
use Rattle.std.specs.Prelude.{ℕ, ◌≡◌, map, Option, None, Some, if◌then◌else◌}
use Rattle.answer_text.specs.declared.answer.Answer.{Answer}
use Rattle.answer_text.specs.declared.answer.Answer.TheVariants as answers
use Rattle.answer_text.specs.declared.refusal.Refusal.{Refusal}
use Rattle.blob_words.specs.declared.number.ReaderId.{ReaderId}
use Rattle.blob_words.specs.declared.number.RendererId.{RendererId}
use Rattle.blob_entries.specs.Book.{changed, entry_of}
use Rattle.blob_entries.specs.Changes.{held_more}
use Rattle.blob_entries.specs.Statuses.{is_broken}
use Rattle.blob_entries.specs.declared.entry.Entry.{Entry}
use Rattle.range_reader.specs.Places.{Course}
use Rattle.store_laws.specs.OpeningLaws.{end_of, opening_refusal}
use Rattle.blob_store.specs.declared.parts.Parts.{Parts}
use Rattle.blob_store.specs.Readers.{Opens}
use Rattle.blob_store.specs.Seen.{reader_of}

-- who asks for which number, and for which range of which blob
pub record Asked : Type 0 where
  pub owner : RendererId
  pub number : ReaderId
  pub blob : ℕ
  pub off : ℕ
  pub len : Option ℕ

-- the course over a range of what stands there; that over a broken blob is empty
abbrev pub course_over : Entry → ℕ → Option ℕ → Course
course_over entry off len = record { size = (if is_broken entry.status then off else entry.size); place = off; stop = end_of entry off len }

-- the reader comes, its blob has one root more, and the answer tells of the blob
pub record IsOpened (asked : Asked) (entry : Entry) (answer : Answer) (old new : Parts) : Type 0 where
  pub told : answer ≡ answers.Opened asked.number entry.size entry.kind
  pub opens : Opens asked.number.0 (record { owner = asked.owner; blob = asked.blob; course = course_over entry asked.off asked.len }) old.readers
      new.readers
  pub rest : new ≡ record old { registry = changed old.registry asked.blob held_more; readers = new.readers }

-- unless something stands against it
abbrev pub IsOpening : Asked → Entry → Option Refusal → Answer → Parts → Parts → Type 0
IsOpening asked entry (Some why) answer old new = (answer ≡ answers.Refused why) × (new ≡ old)
IsOpening asked entry None answer old new = IsOpened asked entry answer old new

unfoldable pub Opening : Asked → Answer → Parts → Parts → Type 0
Opening asked answer old new =
    (entry : Entry) → entry_of old.registry asked.blob ≡ Some entry
    → IsOpening asked entry (opening_refusal asked.number entry asked.off asked.len (map reader_of old.readers)) answer old new
