-- The parts stand for the history with a line that opens a reader.
use Rattle.std.proofs.Common.{◌≡◌, ℕ, ◌+◌, ◌==◌, Bool, true, false, List, [], ◌∷◌, ◌++◌, refl, ap, subst, sym, ◌∙◌, Option, Some, None, cond, arith}
use Rattle.std.specs.Prelude.{find}
use Rattle.std.specs.Option.{option_map}
use Rattle.std.specs.List.{list_any}
use Rattle.std.proofs.lemmas.Bool.{eqb-true}
use Rattle.std.proofs.lemmas.List.{length-append}
use Rattle.blob_words.specs.declared.number.ReaderId.{ReaderId}
use Rattle.blob_words.specs.declared.number.RendererId.{RendererId}
use Rattle.session_script.specs.declared.event.Event.TheVariants as events
use Rattle.answer_text.specs.declared.answer.Answer.TheVariants as answers
use Rattle.blob_entries.specs.Book.{changed, entry_of}
use Rattle.blob_entries.specs.Changes.{held_more}
use Rattle.blob_entries.specs.declared.entry.Entry.{Entry}
use Rattle.data_handles.specs.Table.{Table as HandleTable}
use Rattle.page_disk.specs.declared.change.Change.{Change}
use Rattle.url_store.specs.Urls.{resolved as led_to}
use Rattle.blob_model.specs.Entries.{resolved}
use Rattle.blob_model.specs.Entries.{Entry as UrlEntry}
use Rattle.blob_model.specs.History.{History, heard}
use Rattle.blob_model.specs.Readers.{OpenReader, fetched, opened, range_end, readers}
use Rattle.blob_model.specs.Renderers.{origin_of}
use Rattle.blob_model.specs.Session.{Session, page_limit}
use Rattle.blob_model.specs.Standing.{is_broken as was_broken}
use Rattle.store_laws.specs.Apart.{AreUrlsApart}
use Rattle.store_laws.specs.LineLaws.{counted, AreUnmarked}
use Rattle.store_laws.specs.OpeningLaws.{reader_on, OpeningsStand, ReaderComes}
use Rattle.store_laws.specs.Stands.{Between, Parts}
use Rattle.store_laws.specs.TableLaws.{open_at}
use Rattle.store_laws.specs.Tables.{ReadersStand}
use Rattle.store_laws.proofs.AfterLines.{find_last, find_new}
use Rattle.store_laws.proofs.Alike.{between_alike}
use Rattle.store_laws.proofs.Apart.{found_none}
use Rattle.store_laws.proofs.Rerooted.{between_rerooted, changed_rerooted}
use Rattle.store_laws.proofs.Resolving.{led_so}
use Rattle.store_laws.proofs.Tables.{has_number}
use Rattle.store_laws.proofs.Telling.{broken_told, size_told}

abbrev Open : Type 0
Open = List (ℕ × OpenReader)

reader_comes : (list : List OpenReader) (open_readers later : Open) → ReadersStand list open_readers → (reader : OpenReader)
    → open_at reader.number open_readers ≡ None → ReaderComes reader.number reader open_readers later → ReadersStand (list ++ reader ∷ []) later
reader_comes list open_readers later stand reader free comes = record {
  each = λ other. comes.each other ∙ by other (reader.number == other) refl;
  many = let more = length-append list (reader ∷ []) in omega (arith, comes.many, stand.many, more);
}
  where
    absent : list_any (has_number reader.number) list ≡ false
    absent = found_none (has_number reader.number) list (sym (stand.each reader.number) ∙ free)

    by : (other : ℕ) (b : Bool) → (reader.number == other) ≡ b
        → cond b (Some reader) (open_at other open_readers) ≡ find (has_number other) (list ++ reader ∷ [])
    by other true at =
        let none_here : list_any (has_number other) list ≡ false =
        subst (λ (n : ℕ). list_any (has_number n) list ≡ false) (eqb-true reader.number other at) absent in
        sym (find_new (has_number other) list reader none_here at)
    by other false at = stand.each other ∙ sym (find_last (has_number other) list reader at)

module _ (s : Session) (h : History) (stands : ℕ → Bool) (parts : Parts) (told : Option (List Change)) (table : HandleTable)
    (unmarked : AreUnmarked parts.book.entries) (between : Between s h stands parts told table) where
  -- the reader that comes is the one that the history opens
  opened_so : (renderer : RendererId) (reader : ReaderId) (name off : ℕ) (len : Option ℕ) (entry : Entry) → entry_of parts.book name ≡ Some entry
      → reader_on renderer reader name entry off len ≡ opened (page_limit s) h renderer.0 reader.0 name off len
  opened_so renderer reader name off len entry at =
      ap (λ (b : Bool). with_end (cond b off (range_end entry.size off len))) (broken_told s h stands parts told table between name entry at)
      ∙ ap (λ (size : ℕ). with_end (cond (was_broken h name) off (range_end size off len))) (size_told s h stands parts told table between name entry at)
    where
      with_end : ℕ → OpenReader
      with_end end = record { number = reader.0; owner = renderer.0; blob = name; place = off; end = end }

  pub reading : (renderer : RendererId) (reader : ReaderId) (name off : ℕ) (len : Option ℕ) (entry : Entry) (open_readers : Open)
      → entry_of parts.book name ≡ Some entry → open_at reader.0 parts.readers ≡ None
      → ReaderComes reader.0 (reader_on renderer reader name entry off len) parts.readers open_readers
      → Between s (heard h (events.Read renderer reader name off len) (answers.Opened reader entry.size entry.kind)) stands
      (counted (record parts { book = changed parts.book name held_more; readers = open_readers })) told table
  reading renderer reader name off len entry open_readers at free comes =
      let later = heard h (events.Read renderer reader name off len) (answers.Opened reader entry.size entry.kind) in
      between_rerooted s later stands (counted (record parts { readers = open_readers })) told table (changed parts.book name held_more)
      (changed_rerooted (λ (n : ℕ). n + 1) parts.book name)
      (between_alike s h later refl stands parts told table unmarked between parts.renderers parts.urls parts.files open_readers (record {
        renderers = between.tables.renderers;
        urls_stand = between.tables.urls_stand;
        files_stand = between.tables.files_stand;
        readers_stand = reader_comes (readers (page_limit s) h) parts.readers open_readers between.tables.readers_stand
            (opened (page_limit s) h renderer.0 reader.0 name off len) free
            (subst (λ (one : OpenReader). ReaderComes reader.0 one parts.readers open_readers) (opened_so renderer reader name off len entry at) comes);
      }) refl)

  pub fetching : AreUrlsApart h → (renderer : RendererId) (reader : ReaderId) (text : List ℕ) (name off : ℕ) (len : Option ℕ) (entry : Entry)
      (open_readers : Open) → led_to (origin_of h renderer.0) text parts.urls ≡ Some name → entry_of parts.book name ≡ Some entry
      → open_at reader.0 parts.readers ≡ None → ReaderComes reader.0 (reader_on renderer reader name entry off len) parts.readers open_readers
      → Between s (heard h (events.Fetch renderer reader text off len) (answers.Opened reader entry.size entry.kind)) stands
      (counted (record parts { book = changed parts.book name held_more; readers = open_readers })) told table
  fetching apart renderer reader text name off len entry open_readers leads at free comes =
      let later = heard h (events.Fetch renderer reader text off len) (answers.Opened reader entry.size entry.kind) in
      between_rerooted s later stands (counted (record parts { readers = open_readers })) told table (changed parts.book name held_more)
      (changed_rerooted (λ (n : ℕ). n + 1) parts.book name)
      (between_alike s h later refl stands parts told table unmarked between parts.renderers parts.urls parts.files open_readers (record {
        renderers = between.tables.renderers;
        urls_stand = between.tables.urls_stand;
        files_stand = between.tables.files_stand;
        readers_stand = by (resolved h renderer.0 text) (sym (led_so s h stands parts told table between apart renderer.0 text) ∙ leads);
      }) refl)
    where
      stood : (blob : ℕ) → blob ≡ name → ReadersStand (readers (page_limit s) h ++ opened (page_limit s) h renderer.0 reader.0 blob off len ∷ []) open_readers
      stood blob same =
          reader_comes (readers (page_limit s) h) parts.readers open_readers between.tables.readers_stand
          (opened (page_limit s) h renderer.0 reader.0 blob off len) free
          (subst (λ (one : OpenReader). ReaderComes reader.0 one parts.readers open_readers)
          (opened_so renderer reader name off len entry at ∙ ap (λ (n : ℕ). opened (page_limit s) h renderer.0 reader.0 n off len) (sym same)) comes)

      by : (found : Option UrlEntry) → option_map (λ (one : UrlEntry). one.blob) found ≡ Some name
          → ReadersStand (readers (page_limit s) h ++ fetched (page_limit s) h renderer.0 reader.0 found off len) open_readers
      by None is = absurd (cc is)
      by (Some one) is = let same : one.blob ≡ name = cc in stood one.blob same

pub openings_stand : OpeningsStand
openings_stand = record { reading = reading; fetching = fetching }
