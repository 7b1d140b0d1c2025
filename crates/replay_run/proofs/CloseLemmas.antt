-- What the store finds of a reader that it closes.
use Rattle.std.proofs.Common.{◌≡◌, ℕ, ◌==◌, true, false, List, Option, None, Some, refl, sym, ◌∙◌, ap}
use Rattle.std.specs.Prelude.{find, is_some}
use Rattle.std.specs.Option.{option_map}
use Rattle.std.proofs.lemmas.Bool.{or_left, or_right, or_from}
use Rattle.blob_words.specs.declared.limits.Limits.{Limits}
use Rattle.blob_words.specs.declared.status.Status.{Status}
use Rattle.blob_words.specs.declared.number.ReaderId.{ReaderId}
use Rattle.session_script.specs.declared.event.Event.TheVariants as events
use Rattle.answer_text.specs.declared.answer.Answer.TheVariants as answers
use Rattle.replay_run.specs.declared.store.Store.{Store}
use Rattle.replay_run.specs.declared.store.reader.Reader.{Reader}
use Rattle.replay_run.specs.History.{History, heard}
use Rattle.replay_run.specs.Readers.{OpenReader, readers}
use Rattle.replay_run.specs.Live.{holder, is_read, is_live}
use Rattle.replay_run.specs.Shelf.{Shelved, blob_at, is_held, without}
use Rattle.replay_run.specs.Open.{reader_at, some_reads, closed}
use Rattle.replay_run.specs.Stands.{Stands, reader_of}
use Rattle.replay_run.proofs.LookupLemmas.{any-map, is_held-row, reader_at-rows}
use Rattle.replay_run.proofs.ReaderLemmas.{has_number}
use Rattle.replay_run.proofs.StepLemmas.{left, rows_left, kept-closed, kept-gone, live-reader}

some_reader : (reader : Reader) (o : Option OpenReader) → option_map reader_of o ≡ Some reader → (found : OpenReader) × (o ≡ Some found)
    × (reader_of found ≡ reader)
some_reader reader None is = cc
some_reader reader (Some found) is = (found, refl, cc)

module _ (l : Limits) (s : Store) (h : History) (number : ReaderId) (stands : Stands l s h) where
  -- the store's reader is the history's
  pub found_reader : (reader : Reader) → reader_at s.readers number ≡ Some reader → (found : OpenReader) × (find (has_number number) (readers h) ≡ Some found)
      × (reader_of found ≡ reader)
  found_reader reader is = some_reader reader (find (has_number number) (readers h)) (sym (reader_at-rows l s h stands number) ∙ is)

  module _ (status : Status) (found : OpenReader) (is : find (has_number number) (readers h) ≡ Some found) (name : ℕ) (same : found.blob ≡ name)
      (rows : List Reader) (are : rows ≡ closed number s.readers) where
    abbrev now_ended : History
    now_ended = heard h (events.Step number) (answers.Ended number status)

    reads_rows : some_reads rows name ≡ is_read (left number (readers h)) found.blob
    reads_rows =
        ap (λ all. some_reads all name) (are ∙ ap (closed number) stands.same_readers ∙ rows_left number (readers h))
        ∙ any-map reader_of (λ (reader : Reader). name == reader.blob) (left number (readers h))
        ∙ ap (is_read (left number (readers h))) (sym same)

    lived : is_live h found.blob ≡ true
    lived = or_right (is_some (holder h found.blob)) (is_read (readers h) found.blob) (live-reader h number found (readers h) is)

    pub closed-read : some_reads rows name ≡ true → Stands l (record s { readers = rows }) now_ended
    closed-read read = kept-closed l s h number status found stands is rows are lived
        (or_right (is_some (holder h found.blob)) (is_read (left number (readers h)) found.blob) (sym reads_rows ∙ read))

    held_now : is_held (blob_at s.shelf.blobs name) ≡ is_some (holder h found.blob)
    held_now = is_held-row l s h stands name ∙ ap (λ n. is_some (holder h n)) (sym same)

    pub closed-held : is_held (blob_at s.shelf.blobs name) ≡ true → Stands l (record s { readers = rows }) now_ended
    closed-held held = kept-closed l s h number status found stands is rows are lived
        (or_left (is_some (holder h found.blob)) (is_read (left number (readers h)) found.blob) (sym held_now ∙ held))

    pub closed-gone : some_reads rows name ≡ false → is_held (blob_at s.shelf.blobs name) ≡ false → (shelf : Shelved) → shelf
        ≡ record s.shelf { blobs = without name s.shelf.blobs }
        → Stands l (record s { shelf = shelf; readers = rows }) now_ended
    closed-gone unread free shelf fewer =
        kept-gone l s h number status found stands is rows are
        (or_from (is_some (holder h found.blob)) (is_read (left number (readers h)) found.blob) (sym held_now ∙ free) (sym reads_rows ∙ unread)) shelf
        (fewer ∙ ap (λ (n : ℕ). record s.shelf { blobs = without n s.shelf.blobs }) (sym same))

no_open : (o : Option OpenReader) → option_map reader_of o ≡ None → o ≡ None
no_open None none = refl
no_open (Some found) none = cc

-- the store has no such reader where the history has none
pub no_reader : (l : Limits) (s : Store) (h : History) (number : ReaderId) → Stands l s h → reader_at s.readers number ≡ None → find (has_number number)
    (readers h) ≡ None
no_reader l s h number stands none = no_open (find (has_number number) (readers h)) (sym (reader_at-rows l s h stands number) ∙ none)

-- the blob of an open reader lives
pub live-found : (h : History) (number : ReaderId) (found : OpenReader) → find (has_number number) (readers h) ≡ Some found → is_live h found.blob ≡ true
live-found h number found is = or_right (is_some (holder h found.blob)) (is_read (readers h) found.blob) (live-reader h number found (readers h) is)
