-- Which refusal applies to the lines that open readers, as the tables tell.
use Rattle.std.proofs.Common.{◌≡◌, ℕ, ◌+◌, ◌&&◌, Bool, true, false, not, List, [], ◌∷◌, length, refl, ap, sym, ◌∙◌, Option, Some, None}
use Rattle.std.specs.Prelude.{is_none, is_some, nat_le, nat_lt, unwrap_or, if◌then◌else◌}
use Rattle.std.specs.Option.{option_map, option_map_or}
use Rattle.blob_words.specs.declared.counted.Counted.TheVariants as counted
use Rattle.blob_words.specs.declared.number.ReaderId.{ReaderId}
use Rattle.blob_words.specs.declared.number.RendererId.{RendererId}
use Rattle.session_script.specs.declared.event.Event.TheVariants as events
use Rattle.answer_text.specs.declared.refusal.Refusal.{Refusal}
use Rattle.answer_text.specs.declared.refusal.Refusal.TheVariants as refusals
use Rattle.blob_entries.specs.Book.{entry_of}
use Rattle.blob_entries.specs.Statuses.{is_broken}
use Rattle.blob_entries.specs.declared.entry.Entry.{Entry}
use Rattle.data_handles.specs.Table.{Table as HandleTable}
use Rattle.page_disk.specs.declared.change.Change.{Change}
use Rattle.renderer_table.specs.Table.{count_of, living_of}
use Rattle.renderer_table.specs.declared.living.Living.{Living}
use Rattle.url_store.specs.Urls.{resolved as led_to}
use Rattle.blob_model.specs.Builds.{builds, size_in}
use Rattle.blob_model.specs.Choice.{first_that}
use Rattle.blob_model.specs.Entries.{resolved}
use Rattle.blob_model.specs.Entries.{Entry as UrlEntry}
use Rattle.blob_model.specs.History.{History}
use Rattle.blob_model.specs.Own.{blob_at}
use Rattle.blob_model.specs.Readers.{OpenReader, readers}
use Rattle.blob_model.specs.Refusals.{fetch_refusals, reader_refusals, refusal}
use Rattle.blob_model.specs.Renderers.{origin_of}
use Rattle.blob_model.specs.Session.{Session, page_limit}
use Rattle.blob_model.specs.Standing.{is_broken as was_broken}
use Rattle.store_laws.specs.Apart.{AreUrlsApart}
use Rattle.store_laws.specs.LineLaws.{handle_refusal}
use Rattle.store_laws.specs.OpeningLaws.{opening_refusal}
use Rattle.store_laws.specs.Stands.{Between, Parts}
use Rattle.store_laws.specs.TableLaws.{open_at, renderer_refusal}
use Rattle.store_laws.proofs.LineRefusals.{alive_known}
use Rattle.store_laws.proofs.Resolving.{led_so}
use Rattle.store_laws.proofs.Telling.{broken_told, size_told}
use Rattle.store_laws.proofs.UrlRefusals.{handle_cases, handle_first, handle_left, handled}

-- the tests on a reader and its range
abbrev range_cases : ReaderId → ℕ → Option ℕ → Option OpenReader → Bool → ℕ → ℕ → List (Bool × Refusal)
range_cases reader off len found broken size many =
    (is_some found, refusals.ReaderUsed reader) ∷ (not broken && nat_lt size (off + unwrap_or len 0), refusals.Range size)
    ∷ (nat_le 4096 many, refusals.TooMany counted.Readers) ∷ []

range_tests : (reader : ReaderId) (entry : Entry) (off : ℕ) (len : Option ℕ) (open_readers : List (ℕ × OpenReader))
    → first_that (range_cases reader off len (open_at reader.0 open_readers) (is_broken entry.status) entry.size (length open_readers))
    ≡ opening_refusal reader entry off len open_readers
range_tests reader entry off len open_readers =
    by (is_some (open_at reader.0 open_readers)) (not (is_broken entry.status) && nat_lt entry.size (off + unwrap_or len 0)) (nat_le 4096 (length open_readers))
  where
    by : (used passing full : Bool)
        → first_that ((used, refusals.ReaderUsed reader) ∷ (passing, refusals.Range entry.size) ∷ (full, refusals.TooMany counted.Readers) ∷ [])
        ≡ (if used then Some (refusals.ReaderUsed reader) else if passing then Some (refusals.Range entry.size)
        else if full then Some (refusals.TooMany counted.Readers) else None)
    by true passing full = refl
    by false true full = refl
    by false false true = refl
    by false false false = refl

-- the tests on a renderer, and others behind them
abbrev alive_cases : RendererId → Option Living → List (Bool × Refusal) → Option Refusal
alive_cases renderer held rest = first_that ((not (is_some held), refusals.NoRenderer renderer) ∷ rest)

alive_first : (renderer : RendererId) (held : Option Living) (rest : List (Bool × Refusal)) (why : Refusal)
    → (if is_none held then Some (refusals.NoRenderer renderer) else None) ≡ Some why → alive_cases renderer held rest ≡ Some why
alive_first renderer None rest why due = due
alive_first renderer (Some one) rest why due = absurd (cc due)

alive_left : (renderer : RendererId) (held : Option Living) (rest : List (Bool × Refusal))
    → (if is_none held then Some (refusals.NoRenderer renderer) else None) ≡ None → alive_cases renderer held rest ≡ first_that rest
alive_left renderer None rest due = absurd (cc due)
alive_left renderer (Some one) rest due = refl

module _ (s : Session) (h : History) (stands : ℕ → Bool) (parts : Parts) (told : Option (List Change)) (table : HandleTable)
    (between : Between s h stands parts told table) where
  range_known : (reader : ReaderId) (name off : ℕ) (len : Option ℕ) (entry : Entry) → entry_of parts.book name ≡ Some entry
      → first_that (reader_refusals s h reader name off len) ≡ opening_refusal reader entry off len parts.readers
  range_known reader name off len entry at =
      ap (λ (found : Option OpenReader).
      first_that (range_cases reader off len found (was_broken h name) (size_in (builds (page_limit s) h) name) (length (readers (page_limit s) h))))
      (sym (between.tables.readers_stand.each reader.0))
      ∙ ap (λ (b : Bool). first_that (range_cases reader off len (open_at reader.0 parts.readers) b (size_in (builds (page_limit s) h) name)
      (length (readers (page_limit s) h)))) (sym (broken_told s h stands parts told table between name entry at))
      ∙ ap (λ (size : ℕ). first_that (range_cases reader off len (open_at reader.0 parts.readers) (is_broken entry.status) size
      (length (readers (page_limit s) h)))) (sym (size_told s h stands parts told table between name entry at))
      ∙ ap (λ (n : ℕ). first_that (range_cases reader off len (open_at reader.0 parts.readers) (is_broken entry.status) entry.size n))
      (sym between.tables.readers_stand.many)
      ∙ range_tests reader entry off len parts.readers

  -- ---- by a name

  module _ (renderer : RendererId) (reader : ReaderId) (name off : ℕ) (len : Option ℕ) where
    read_known : refusal s h (events.Read renderer reader name off len)
        ≡ handle_cases renderer name (living_of renderer.0 parts.renderers) (count_of renderer.0 name parts.renderers)
        (reader_refusals s h reader name off len)
    read_known = handled s h stands parts told table between renderer name (reader_refusals s h reader name off len)

    pub read_unhandled : (why : Refusal) → handle_refusal renderer name parts.renderers ≡ Some why
        → refusal s h (events.Read renderer reader name off len) ≡ Some why
    read_unhandled why due =
        read_known ∙ handle_first renderer name (living_of renderer.0 parts.renderers) (count_of renderer.0 name parts.renderers)
        (reader_refusals s h reader name off len) why due

    pub read_refusal : (entry : Entry) → handle_refusal renderer name parts.renderers ≡ None → entry_of parts.book name ≡ Some entry
        → refusal s h (events.Read renderer reader name off len) ≡ opening_refusal reader entry off len parts.readers
    read_refusal entry due at =
        read_known ∙ handle_left renderer name (living_of renderer.0 parts.renderers) (count_of renderer.0 name parts.renderers)
        (reader_refusals s h reader name off len) due ∙ range_known reader name off len entry at

  -- ---- by a URL

  module _ (renderer : RendererId) (reader : ReaderId) (text : List ℕ) (off : ℕ) (len : Option ℕ) where
    fetch_known : refusal s h (events.Fetch renderer reader text off len)
        ≡ alive_cases renderer (living_of renderer.0 parts.renderers) (fetch_refusals s h reader (resolved h renderer.0 text) off len)
    fetch_known =
        ap (λ (b : Bool). first_that ((not b, refusals.NoRenderer renderer) ∷ fetch_refusals s h reader (resolved h renderer.0 text) off len))
        (sym (alive_known s h stands parts told table between renderer.0))

    pub fetch_lifeless : (why : Refusal) → renderer_refusal renderer parts.renderers ≡ Some why
        → refusal s h (events.Fetch renderer reader text off len) ≡ Some why
    fetch_lifeless why due =
        fetch_known ∙ alive_first renderer (living_of renderer.0 parts.renderers) (fetch_refusals s h reader (resolved h renderer.0 text) off len) why due

    module _ (apart : AreUrlsApart h) (due : renderer_refusal renderer parts.renderers ≡ None) where
      fetch_left : refusal s h (events.Fetch renderer reader text off len)
          ≡ first_that (fetch_refusals s h reader (resolved h renderer.0 text) off len)
      fetch_left =
          fetch_known ∙ alive_left renderer (living_of renderer.0 parts.renderers) (fetch_refusals s h reader (resolved h renderer.0 text) off len) due

      pub fetch_nowhere : led_to (origin_of h renderer.0) text parts.urls ≡ None
          → refusal s h (events.Fetch renderer reader text off len) ≡ Some refusals.NoUrl
      fetch_nowhere none =
          fetch_left ∙ by (resolved h renderer.0 text) (sym (led_so s h stands parts told table between apart renderer.0 text) ∙ none)
        where
          by : (found : Option UrlEntry) → option_map (λ (one : UrlEntry). one.blob) found ≡ None
              → first_that (fetch_refusals s h reader found off len) ≡ Some refusals.NoUrl
          by None is = refl
          by (Some one) is = absurd (cc is)

      pub fetch_refusal : (name : ℕ) (entry : Entry) → led_to (origin_of h renderer.0) text parts.urls ≡ Some name
          → entry_of parts.book name ≡ Some entry
          → refusal s h (events.Fetch renderer reader text off len) ≡ opening_refusal reader entry off len parts.readers
      fetch_refusal name entry leads at =
          fetch_left ∙ by (resolved h renderer.0 text) (sym (led_so s h stands parts told table between apart renderer.0 text) ∙ leads)
          ∙ range_known reader name off len entry at
        where
          by : (found : Option UrlEntry) → option_map (λ (one : UrlEntry). one.blob) found ≡ Some name
              → first_that (fetch_refusals s h reader found off len) ≡ first_that (reader_refusals s h reader name off len)
          by None is = absurd (cc is)
          by (Some one) is = let same : one.blob ≡ name = cc in ap (λ (n : ℕ). first_that (reader_refusals s h reader n off len)) same

    -- the blob that is read
    pub blob_led : AreUrlsApart h → (name : ℕ) → led_to (origin_of h renderer.0) text parts.urls ≡ Some name → blob_at h renderer.0 text ≡ name
    blob_led apart name leads =
        by (resolved h renderer.0 text) (sym (led_so s h stands parts told table between apart renderer.0 text) ∙ leads)
      where
        by : (found : Option UrlEntry) → option_map (λ (one : UrlEntry). one.blob) found ≡ Some name
            → option_map_or (λ (one : UrlEntry). one.blob) found 0 ≡ name
        by None is = absurd (cc is)
        by (Some one) is = cc
