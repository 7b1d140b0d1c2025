-- In a legal transcript the texts of the URLs differ, and the numbers of the open readers.
use Rattle.std.proofs.Common.{◌≡◌, ℕ, ◌+◌, ◌==◌, Bool, true, false, cond, not, List, [], ◌∷◌, ◌++◌, length, filter, refl, ap, sym, ◌∙◌, Option, Some, None}
use Rattle.std.specs.Prelude.{bytes_eq, find, is_some}
use Rattle.std.specs.List.{AllByRecursion, list_any}
use Rattle.session_script.specs.declared.event.Event.{Event}
use Rattle.session_script.specs.declared.event.Event.TheVariants as events
use Rattle.answer_text.specs.declared.answer.Answer.{Answer}
use Rattle.answer_text.specs.declared.answer.Answer.TheVariants as answers
use Rattle.answer_text.specs.declared.refusal.Refusal.{Refusal}
use Rattle.blob_model.specs.Entries.{Entry, entries, resolved}
use Rattle.blob_model.specs.History.{History, heard, history_from, refused, said, start}
use Rattle.blob_model.specs.Readers.{advanced, fetched, opened, OpenReader, reader_at, readers}
use Rattle.blob_model.specs.Refusals.{fetch_refusals, refusal}
use Rattle.blob_model.specs.Session.{Session, page_limit}
use Rattle.blob_model.proofs.Lists.{false_true}
use Rattle.blob_model.proofs.kept.NewBlobs.{tests_fail}
use Rattle.blob_model.proofs.legal.Causes.{IsCaused}
use Rattle.blob_model.proofs.legal.Steps.{caused_from}
use Rattle.store_laws.specs.Apart.{same_number, same_text, AreApartBy, AreReadersApart, AreUrlsApart, KeysDiffer}
use Rattle.store_laws.proofs.Apart.{apart_filter, apart_map, apart_more, found_none}

not_found : {X : Type 0} (test : X → Bool) (xs : List X) → is_some (find test xs) ≡ false → list_any test xs ≡ false
not_found test xs none = found_none test xs (by (find test xs) none)
  where
    by : {Y : Type 0} (found : Option Y) → is_some found ≡ false → found ≡ None
    by None e = refl
    by (Some y) e = absurd (cc e)

-- ---- URLs

urls_heard : (s : Session) (h : History) (event : Event) (answer : Answer) → refusal s h event ≡ None → AreUrlsApart h → AreUrlsApart (heard h event answer)
urls_heard s h (events.Url renderer b text) answer passes all =
    apart_more same_text (entries h) (record { text = text; blob = b; owner = renderer.0 }) all
    (not_found (λ (entry : Entry). bytes_eq entry.text text) (entries h) (tests_fail s h (events.Url renderer b text) passes).1.1.1.0)
urls_heard s h (events.Revoke renderer text) answers.Revoked passes all =
    apart_filter same_text (λ (entry : Entry). not (bytes_eq entry.text text)) (entries h) all
urls_heard s h (events.Die renderer) answer passes all = apart_filter same_text (λ (entry : Entry). not (entry.owner == renderer.0)) (entries h) all
urls_heard s h events.Finish answer passes all = tt
urls_heard s h event answer passes all = all

pub urls_apart : (s : Session) (h : History) → IsCaused s h → AreUrlsApart h
urls_apart s start caused = tt
urls_apart s (heard h event answer) caused = urls_heard s h event answer caused.0.passes (urls_apart s h caused.1)
urls_apart s (refused h event why) caused = urls_apart s h caused.2
urls_apart s (said h answer) caused = urls_apart s h caused.1

-- ---- readers

module _ (s : Session) (h : History) where
  page : ℕ
  page = page_limit s

  -- a reader comes under a number that no other has
  one_more : (owner number name off : ℕ) (len : Option ℕ) → is_some (reader_at (page_limit s) h number) ≡ false → AreReadersApart (page_limit s) h
      → AreApartBy same_number (readers (page_limit s) h ++ opened (page_limit s) h owner number name off len ∷ [])
  one_more owner number name off len free all =
      apart_more same_number (readers (page_limit s) h) (opened (page_limit s) h owner number name off len) all
      (not_found (λ (reader : OpenReader). reader.number == number) (readers (page_limit s) h) free)

  without : (number : ℕ) → AreReadersApart (page_limit s) h
      → AreApartBy same_number (filter (λ (reader : OpenReader). not (reader.number == number)) (readers (page_limit s) h))
  without number all = apart_filter same_number (λ (reader : OpenReader). not (reader.number == number)) (readers (page_limit s) h) all

  number_still : (number count : ℕ) (reader : OpenReader) → (advanced number count reader).number ≡ reader.number
  number_still number count reader = by (reader.number == number)
    where
      by : (b : Bool) → (cond b (record reader { place = reader.place + count }) reader).number ≡ reader.number
      by true = refl
      by false = refl

  readers_heard : (event : Event) (answer : Answer) → refusal s h event ≡ None → AreReadersApart (page_limit s) h
      → AreReadersApart (page_limit s) (heard h event answer)
  readers_heard (events.Read renderer reader b off len) answer passes all =
      one_more renderer.0 reader.0 b off len (tests_fail s h (events.Read renderer reader b off len) passes).1.1.0 all
  readers_heard (events.Fetch renderer reader text off len) answer passes all = by (resolved h renderer.0 text)
      (tests_fail s h (events.Fetch renderer reader text off len) passes).1
    where
      by : (found : Option Entry) → AllByRecursion (λ (case : Bool × Refusal). case.0 ≡ false) (fetch_refusals s h reader found off len)
          → AreApartBy same_number (readers (page_limit s) h ++ fetched (page_limit s) h renderer.0 reader.0 found off len)
      by None fails = absurd (false_true (sym fails.0))
      by (Some entry) fails = one_more renderer.0 reader.0 entry.blob off len fails.0 all
  readers_heard (events.Step reader) (answers.Given number bytes) passes all =
      apart_map same_number (advanced reader.0 (length bytes)) (λ one other.
      ap (λ (n : ℕ). n == (advanced reader.0 (length bytes) other).number) (number_still reader.0 (length bytes) one)
      ∙ ap (λ (n : ℕ). one.number == n) (number_still reader.0 (length bytes) other)) (readers (page_limit s) h) all
  readers_heard (events.Step reader) (answers.Ended number status) passes all = without reader.0 all
  readers_heard (events.Step reader) (answers.FileChanged number name) passes all = without reader.0 all
  readers_heard (events.Step reader) (answers.PageFault number file) passes all = without reader.0 all
  readers_heard (events.Step reader) (answers.HandleFailed number slot) passes all = without reader.0 all
  readers_heard (events.Cancel renderer reader) answer passes all = without reader.0 all
  readers_heard (events.Die renderer) answer passes all =
      apart_filter same_number (λ (reader : OpenReader). not (reader.owner == renderer.0)) (readers (page_limit s) h) all
  readers_heard events.Finish answer passes all = tt
  readers_heard event answer passes all = all

pub readers_apart : (s : Session) (h : History) → IsCaused s h → AreReadersApart (page_limit s) h
readers_apart s start caused = tt
readers_apart s (heard h event answer) caused = readers_heard s h event answer caused.0.passes (readers_apart s h caused.1)
readers_apart s (refused h event why) caused = readers_apart s h caused.2
readers_apart s (said h answer) caused = readers_apart s h caused.1

pub keys_differ : KeysDiffer
keys_differ s groups legal =
    let caused = caused_from s groups legal in
    (urls_apart s (history_from start groups) caused, readers_apart s (history_from start groups) caused)
