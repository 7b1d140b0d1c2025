-- Who holds a blob holds it still when blobs ended.
use Rattle.std.proofs.Common.{◌≡◌, ℕ, Bool, true, false, List, Option, Some, None, refl, ap, sym, ◌∙◌, arith}
use Rattle.std.specs.Prelude.{option_and_then, IfSome, IsSomeAnd}
use Rattle.renderer_table.specs.Table.{Table}
use Rattle.url_store.specs.declared.url.Url.{Url}
use Rattle.blob_entries.specs.Book.{Book, book_of, entry_at}
use Rattle.blob_entries.specs.Endings.{Ends}
use Rattle.blob_entries.specs.Names.{number_of}
use Rattle.blob_entries.specs.Sound.{AreSound, IsSound}
use Rattle.blob_entries.specs.Statuses.{is_broken}
use Rattle.blob_entries.specs.declared.entry.Entry.{Entry}
use Rattle.blob_model.proofs.Lists.{false_true}
use Rattle.blob_store.specs.declared.readers.OpenReader.{OpenReader}
use Rattle.blob_store.specs.Holders.{Holders, IsOpen}
use Rattle.blob_store.specs.Readers.{reader_at}
use Rattle.blob_store.specs.Roots.{roots_at}
use Rattle.blob_store.proofs.BlobsLeft.{unbroken}
use Rattle.blob_store.proofs.HoldersLeft.{roots_if}
use Rattle.blob_store.proofs.PassedEntry.{by_ending, ended_pending}

module _ (book : Book) (after : List (Option Entry)) (sound : AreSound book.names book.entries)
    (each : (number : ℕ) → Ends book.names after (entry_at book.entries number) (entry_at after number)) where
  abbrev now : Book
  now = book_of book.names after

  roots_one : (number : ℕ) → roots_if (entry_at after number) ≡ roots_if (entry_at book.entries number)
  roots_one number = by (entry_at book.entries number) (sound.each number) (each number)
    where
      by : (was : Option Entry) → IfSome was (IsSound book.names book.entries number) → Ends book.names after was (entry_at after number)
          → roots_if (entry_at after number) ≡ roots_if was
      by None fine is = ap roots_if is
      by (Some entry) fine is =
          by_ending book.names book.entries after number entry fine (λ (held : Option Entry). roots_if held ≡ entry.roots) (λ at. refl) (λ views at made. refl)
          (λ status at broken. refl) (entry_at after number) is

  roots_same : (name : ℕ) → roots_at now name ≡ roots_at book name
  roots_same name = by (number_of name book.names)
    where
      by : (number : Option ℕ) → roots_if (option_and_then (entry_at after) number) ≡ roots_if (option_and_then (entry_at book.entries) number)
      by None = refl
      by (Some number) = roots_one number

  abbrev IsSized : ℕ → Option Entry → Type 0
  IsSized size held = IsSomeAnd held (λ (entry : Entry). is_broken entry.status ≡ false → size ≡ entry.size)

  sized_one : (size number : ℕ) → IsSized size (entry_at book.entries number) → IsSized size (entry_at after number)
  sized_one size number is = by (entry_at book.entries number) (sound.each number) (each number) is
    where
      whole : (entry : Entry) → (b : Bool) → is_broken entry.status ≡ b → (is_broken entry.status ≡ true → false ≡ true) → is_broken entry.status ≡ false
      whole entry false at none = at
      whole entry true at none = absurd (false_true (none at))

      by : (was : Option Entry) → IfSome was (IsSound book.names book.entries number) → Ends book.names after was (entry_at after number)
          → IsSized size was → IsSized size (entry_at after number)
      by None fine ends is = absurd is
      by (Some entry) fine ends is =
          by_ending book.names book.entries after number entry fine (IsSized size) (λ at. is)
          (λ views at made unbroken_now. is (whole entry (is_broken entry.status) refl
          (unbroken entry.status (ended_pending book.names book.entries after number entry fine _ at))))
          (λ status at broken still. absurd (false_true (sym still ∙ broken))) (entry_at after number) ends

  pub holders_ended : (renderers : Table) (made : List (List ℕ × Url)) (readers : List (ℕ × OpenReader)) (lines : ℕ)
      → Holders book renderers made readers lines → Holders now renderers made readers lines
  holders_ended renderers made readers lines holders = record {
    living = holders.living;
    roots = λ name. roots_same name ∙ holders.roots name;
    few = λ name. let same = roots_same name in let few = holders.few name in omega (arith, same, few);
    readers = λ number. open_all (reader_at number readers) (holders.readers number);
    owned = holders.owned;
    opened = holders.opened;
  }
    where
      open_one : (reader : OpenReader) (number : Option ℕ) → IsSized reader.course.size (option_and_then (entry_at book.entries) number)
          → IsSized reader.course.size (option_and_then (entry_at after) number)
      open_one reader None is = is
      open_one reader (Some number) is = sized_one reader.course.size number is

      open_all : (found : Option OpenReader) → IfSome found (IsOpen book) → IfSome found (IsOpen now)
      open_all None is = tt
      open_all (Some reader) is = open_one reader (number_of reader.blob book.names) is
