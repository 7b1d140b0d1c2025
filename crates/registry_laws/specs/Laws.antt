-- What holds of the passes over entries that agree with a history. Own.
use Rattle.std.specs.Prelude.{◌≡◌, ℕ, Bool, true, List, map, [], Option, Some, if◌then◌else◌}
use Rattle.answer_text.specs.declared.answer.Answer.{Answer}
use Rattle.answer_text.specs.declared.answer.Answer.TheVariants as answers
use Rattle.blob_entries.specs.declared.entry.Entry.{Entry}
use Rattle.blob_entries.specs.Book.{Book, book_of, entry_at}
use Rattle.blob_entries.specs.Leaving.{is_rooted}
use Rattle.blob_entries.specs.Sources.{needs}
use Rattle.blob_entries.specs.Sound.{AreSound}
use Rattle.blob_entries.specs.Standing.{standing}
use Rattle.blob_entries.specs.Statuses.{is_done}
use Rattle.blob_model.specs.Builds.{Build, builds}
use Rattle.blob_model.specs.History.{History, said_all}
use Rattle.blob_model.specs.Live.{live}
use Rattle.blob_model.specs.Order.{Distinct}
use Rattle.blob_model.specs.Session.{Session, page_limit}
use Rattle.blob_model.specs.Settle.{drops, endings}
use Rattle.blob_registry.specs.Passes as passes
use Rattle.blob_registry.specs.Sweeps.{dropped, swept}
use Rattle.blob_registry.specs.declared.ended_blob.EndedBlob.{EndedBlob}
use Rattle.registry_laws.specs.Agree.{AgreesInMarks, AgreesWith}

-- a history tells how the entries of a registry stand: its names differ, the entries are sound, and they agree
pub record Describes (s : Session) (h : History) (book : Book) : Type 0 where
  pub distinct : Distinct (builds (page_limit s) h)
  pub sound : AreSound book.names book.entries
  pub agree : AgreesWith (page_limit s) h book

-- what the sweep leaves are the live blobs, and the names that it drops are those of the drops owed, in their order
pub record SweepsAs (s : Session) (h : History) (book : Book) : Type 0 where
  pub left : standing book.names (swept book.names 0 book.entries) ≡ map (λ (build : Build). build.name) (live (page_limit s) h)
  pub dropped : map (λ (name : ℕ). answers.Dropped name) (dropped book.names 0 book.entries) ≡ drops s h

abbrev pub LiveAgree : Type 0
LiveAgree = (s : Session) (h : History) (book : Book) → Describes s h book → SweepsAs s h book

-- the answer that tells an ending
abbrev pub ending_answer : EndedBlob → Answer
ending_answer end = if is_done end.status then answers.Done end.name else answers.Broken end.name end.status

-- where the marks agree too, the endings of a pass are those that are owed, in their order
abbrev pub EndingsAgree : Type 0
EndingsAgree = (s : Session) (h : History) (book : Book) → Describes s h book → AgreesInMarks s h book
    → map ending_answer (passes.endings book.names [] book.entries) ≡ endings s h

-- what the sweep leaves agrees with the history behind the drops, and in its marks where they agreed
pub record AgreesSwept (s : Session) (h : History) (book : Book) : Type 0 where
  pub agree : AgreesWith (page_limit s) (said_all h (drops s h)) (book_of book.names (swept book.names 0 book.entries))
  pub marks : AgreesInMarks s h book → AgreesInMarks s (said_all h (drops s h)) (book_of book.names (swept book.names 0 book.entries))

abbrev pub SweepAgrees : Type 0
SweepAgrees = (s : Session) (h : History) (book : Book) → Describes s h book → AgreesSwept s h book

-- where the marks agreed, what a pass made of the entries agrees with the history behind the endings
abbrev pub PassAgrees : Type 0
PassAgrees = (s : Session) (h : History) (before after : Book) (list : List EndedBlob) → Describes s h before → AgreesInMarks s h before
    → passes.Finishes before after list
    → AgreesWith (page_limit s) (said_all h (endings s h)) after

-- what the sweep leaves is the least set: each set that has the rooted entries, and what its unfinished ones take bytes from, has all of it
abbrev pub SweepIsLeast : Type 0
SweepIsLeast = (names : List ℕ) (entries : List (Option Entry)) (has : ℕ → Bool)
    → ((number : ℕ) → is_rooted (entry_at entries number) ≡ true → has number ≡ true)
    → ((number other : ℕ) → needs names number (entry_at entries other) ≡ true → has other ≡ true → has number ≡ true)
    → (number : ℕ) (entry : Entry) → entry_at (swept names 0 entries) number ≡ Some entry → has number ≡ true
