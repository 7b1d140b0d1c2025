-- A line was heard that opens a reader: `read` and `fetch`.
use Rattle.std.proofs.Common.{◌≡◌, ℕ, ◌+◌, Bool, List, [], ◌∷◌, map, Option, Some, None, refl, sym, ap, subst, ◌∙◌, inl}
use Rattle.std.specs.Prelude.{is_none, if◌then◌else◌}
use Rattle.std.specs.Option.{option_map}
use Rattle.blob_words.specs.declared.number.ReaderId.{ReaderId}
use Rattle.blob_words.specs.declared.number.RendererId.{RendererId}
use Rattle.session_script.specs.declared.event.Event.{Event}
use Rattle.session_script.specs.declared.event.Event.TheVariants as events
use Rattle.answer_text.specs.declared.answer.Answer.{Answer}
use Rattle.answer_text.specs.declared.answer.Answer.TheVariants as answers
use Rattle.answer_text.specs.declared.group.Group.{Group}
use Rattle.answer_text.specs.declared.refusal.Refusal.{Refusal}
use Rattle.answer_text.specs.declared.refusal.Refusal.TheVariants as refusals
use Rattle.blob_entries.specs.Book.{changed, entry_of}
use Rattle.blob_entries.specs.Changes.{held_more}
use Rattle.blob_entries.specs.declared.entry.Entry.{Entry}
use Rattle.data_handles.specs.Table.{Table as HandleTable}
use Rattle.page_disk.specs.declared.change.Change.{Change}
use Rattle.renderer_table.specs.Counted.{origin_at}
use Rattle.renderer_table.specs.Table.{living_of}
use Rattle.renderer_table.specs.declared.living.Living.{Living}
use Rattle.url_store.specs.Urls.{resolved as led_to}
use Rattle.blob_model.specs.Builds.{builds, size_in}
use Rattle.blob_model.specs.History.{History, heard, history_from, start}
use Rattle.blob_model.specs.Legal.{IsLegalFrom}
use Rattle.blob_model.specs.Live.{is_live}
use Rattle.blob_model.specs.Own.{opened_answer, IsAccepted}
use Rattle.blob_model.specs.Readers.{OpenReader as ReaderSaid}
use Rattle.blob_model.specs.Refusals.{refusal}
use Rattle.blob_model.specs.Renderers.{origin_of}
use Rattle.blob_model.specs.Session.{Session, page_limit}
use Rattle.store_laws.specs.LineLaws.{counted, handle_refusal, AreUnmarked}
use Rattle.store_laws.specs.OpeningLaws.{opening_refusal, reader_on, ReaderComes}
use Rattle.store_laws.specs.Stands.{stood, Between, Stands}
use Rattle.store_laws.specs.TableLaws.{open_at, renderer_refusal}
use Rattle.store_laws.proofs.ApartHistories.{keys_differ}
use Rattle.store_laws.proofs.LineRefusals.{own_accepted}
use Rattle.store_laws.proofs.OpeningRefusals.{blob_led, fetch_lifeless, fetch_nowhere, fetch_refusal, read_refusal, read_unhandled}
use Rattle.store_laws.proofs.Openings.{openings_stand}
use Rattle.store_laws.proofs.Rerooted.{changed_rerooted}
use Rattle.store_laws.proofs.Telling.{kind_told, size_told}
use Rattle.store_laws.proofs.Unmarked.{none_marked}
use Rattle.store_laws.proofs.UrlRefusals.{origin_known}
use Rattle.blob_store.specs.declared.parts.Parts.{Parts}
use Rattle.blob_store.specs.Openings.{Asked, IsOpened, IsOpening, Opening}
use Rattle.blob_store.specs.Says.{scene, IsHeard}
use Rattle.blob_store.specs.Seen.{parts_of, reader_of}
use Rattle.blob_store.proofs.Heard.{heard_refused}
use Rattle.blob_store.proofs.HeardTables.{open_said, open_seen, seen}
use Rattle.blob_store.proofs.Opened.{comes_seen, none_stands}

module _ (s : Session) (groups : List Group) (parts : Parts) (told : Option (List Change)) (table : HandleTable) (legal : IsLegalFrom s start groups)
    (stands : Stands s (history_from start groups) (parts_of parts) told table) where
  abbrev h : History
  h = history_from start groups

  unmarked : AreUnmarked parts.registry.entries
  unmarked = none_marked s groups (is_live (page_limit s) h) (parts_of parts) told table legal stands.between

  -- whatever asked for the reader
  module _ (event : Event) (asked : Asked) (entry : Entry) (at : entry_of parts.registry asked.blob ≡ Some entry) where
    abbrev opened : Answer
    opened = answers.Opened asked.number entry.size entry.kind

    abbrev said : Option Refusal
    said = opening_refusal asked.number entry asked.off asked.len (map reader_of parts.readers)

    heard_opening : refusal s h event ≡ said → IsAccepted s h event (opened ∷ []) → stood (page_limit s) h event (opened ∷ []) ≡ is_live (page_limit s) h
        → ((readers : List (ℕ × ReaderSaid)) → open_at asked.number.0 (map reader_of parts.readers) ≡ None
        → ReaderComes asked.number.0 (reader_on asked.owner asked.number asked.blob entry asked.off asked.len) (map reader_of parts.readers) readers
        → Between s (heard h event opened) (is_live (page_limit s) h)
        (counted (record (parts_of parts) { book = changed parts.registry asked.blob held_more; readers = readers })) told table)
        → (answer : Answer) (new : Parts) → Opening asked answer parts new → IsHeard s h event (answer ∷ []) (scene new told table)
    unfolding Opening
    heard_opening refuses accepts live stand answer new opening = by said refl (opening entry at)
      where
        hears : IsOpened asked entry answer parts new → said ≡ None → IsHeard s h event (opened ∷ []) (scene (record parts {
          registry = changed parts.registry asked.blob held_more;
          readers = new.readers;
        }) told table)
        hears is none = record {
          is_own = own_accepted s h event (opened ∷ []) (refuses ∙ none) accepts;
          stands = subst (λ (lives : ℕ → Bool). Between s (heard h event opened) lives (counted (parts_of (record parts {
            registry = changed parts.registry asked.blob held_more;
            readers = new.readers;
          }))) told table) (sym live)
              (seen s groups parts told table legal stands (heard h event opened) (changed parts.registry asked.blob held_more) parts.renderers parts.urls
              parts.files new.readers (changed_rerooted (λ (n : ℕ). n + 1) parts.registry asked.blob)
              (stand (map reader_of new.readers)
              (open_seen asked.number.0 parts.readers
              ∙ ap (option_map (open_said asked.number.0)) (none_stands asked.number entry asked.off asked.len parts.readers none).0)
              (comes_seen asked.owner asked.number asked.blob entry asked.off asked.len parts.readers new.readers is.opens)));
        }

        by : (found : Option Refusal) → said ≡ found → IsOpening asked entry found answer parts new → IsHeard s h event (answer ∷ []) (scene new told table)
        by (Some why) is refused =
            subst (λ (one : Answer). IsHeard s h event (one ∷ []) (scene new told table)) (sym refused.0)
            (subst (λ (one : Parts). IsHeard s h event (answers.Refused why ∷ []) (scene one told table)) (sym refused.1)
            (heard_refused s groups parts told table legal stands event why (refuses ∙ is)))
        by None is opens =
            subst (λ (one : Answer). IsHeard s h event (one ∷ []) (scene new told table)) (sym opens.told)
            (subst (λ (one : Parts). IsHeard s h event (opened ∷ []) (scene one told table)) (sym opens.rest) (hears opens is))

    -- what is told of the blob is what the history says
    opened_told : opened ≡ opened_answer s h asked.number asked.blob
    opened_told =
        ap (λ (size : ℕ). answers.Opened asked.number size entry.kind)
        (size_told s h (is_live (page_limit s) h) (parts_of parts) told table stands.between asked.blob entry at)
        ∙ ap (λ (kind : List ℕ). answers.Opened asked.number (size_in (builds (page_limit s) h) asked.blob) kind)
        (kind_told s h (is_live (page_limit s) h) (parts_of parts) told table stands.between asked.blob entry at)

  pub heard_read : (renderer : RendererId) (reader : ReaderId) (name off : ℕ) (len : Option ℕ) (entry : Entry)
      → handle_refusal renderer name parts.renderers ≡ None → entry_of parts.registry name ≡ Some entry → (answer : Answer) (new : Parts)
      → Opening (record { owner = renderer; number = reader; blob = name; off = off; len = len }) answer parts new
      → IsHeard s h (events.Read renderer reader name off len) (answer ∷ []) (scene new told table)
  heard_read renderer reader name off len entry due at answer new opening =
      let asked : Asked = record { owner = renderer; number = reader; blob = name; off = off; len = len } in
      heard_opening (events.Read renderer reader name off len) asked entry at
      (read_refusal s h (is_live (page_limit s) h) (parts_of parts) told table stands.between renderer reader name off len entry due at)
      (inl (ap (λ (one : Answer). one ∷ []) (opened_told (events.Read renderer reader name off len) asked entry at))) refl
      (λ readers free comes.
      openings_stand.reading s h (is_live (page_limit s) h) (parts_of parts) told table unmarked stands.between renderer reader name off len entry readers
      at free comes) answer new opening

  -- a renderer that can't use its handle
  pub heard_unhandled : (renderer : RendererId) (reader : ReaderId) (name off : ℕ) (len : Option ℕ) (why : Refusal)
      → handle_refusal renderer name parts.renderers ≡ Some why
      → IsHeard s h (events.Read renderer reader name off len) (answers.Refused why ∷ []) (scene parts told table)
  heard_unhandled renderer reader name off len why due =
      heard_refused s groups parts told table legal stands (events.Read renderer reader name off len) why
      (read_unhandled s h (is_live (page_limit s) h) (parts_of parts) told table stands.between renderer reader name off len why due)

  module _ (renderer : RendererId) (reader : ReaderId) (text : List ℕ) (off : ℕ) (len : Option ℕ) where
    abbrev fetch : Event
    fetch = events.Fetch renderer reader text off len

    -- a renderer that isn't there
    pub heard_lifeless : origin_at renderer.0 parts.renderers ≡ None
        → IsHeard s h fetch (answers.Refused (refusals.NoRenderer renderer) ∷ []) (scene parts told table)
    heard_lifeless none =
        heard_refused s groups parts told table legal stands fetch (refusals.NoRenderer renderer)
        (fetch_lifeless s h (is_live (page_limit s) h) (parts_of parts) told table stands.between renderer reader text off len (refusals.NoRenderer renderer)
        (by (living_of renderer.0 parts.renderers) none))
      where
        by : (held : Option Living) → option_map (λ (one : Living). one.origin) held ≡ None
            → (if is_none held then Some (refusals.NoRenderer renderer) else None) ≡ Some (refusals.NoRenderer renderer)
        by None is = refl
        by (Some one) is = absurd (cc is)

    module _ (origin : List ℕ) (lives : origin_at renderer.0 parts.renderers ≡ Some origin) where
      alive : renderer_refusal renderer parts.renderers ≡ None
      alive = by (living_of renderer.0 parts.renderers) lives
        where
          by : (held : Option Living) → option_map (λ (one : Living). one.origin) held ≡ Some origin
              → (if is_none held then Some (refusals.NoRenderer renderer) else None) ≡ None
          by None is = absurd (cc is)
          by (Some one) is = refl

      -- its origin, as the history says
      led : (found : Option ℕ) → led_to origin text parts.urls ≡ found → led_to (origin_of h renderer.0) text parts.urls ≡ found
      led found is =
          subst (λ (one : List ℕ). led_to one text parts.urls ≡ found)
          (origin_known s h (is_live (page_limit s) h) (parts_of parts) told table stands.between renderer.0 origin lives) is

      pub heard_nowhere : led_to origin text parts.urls ≡ None → IsHeard s h fetch (answers.Refused refusals.NoUrl ∷ []) (scene parts told table)
      heard_nowhere none =
          heard_refused s groups parts told table legal stands fetch refusals.NoUrl
          (fetch_nowhere s h (is_live (page_limit s) h) (parts_of parts) told table stands.between renderer reader text off len (keys_differ s groups legal).0
          alive (led None none))

      pub heard_fetch : (name : ℕ) (entry : Entry) → led_to origin text parts.urls ≡ Some name → entry_of parts.registry name ≡ Some entry
          → (answer : Answer) (new : Parts)
          → Opening (record { owner = renderer; number = reader; blob = name; off = off; len = len }) answer parts new
          → IsHeard s h fetch (answer ∷ []) (scene new told table)
      heard_fetch name entry leads at answer new opening =
          let asked : Asked = record { owner = renderer; number = reader; blob = name; off = off; len = len } in
          let apart = (keys_differ s groups legal).0 in
          let here = blob_led s h (is_live (page_limit s) h) (parts_of parts) told table stands.between renderer reader text off len apart name
          (led (Some name) leads) in
          heard_opening fetch asked entry at
          (fetch_refusal s h (is_live (page_limit s) h) (parts_of parts) told table stands.between renderer reader text off len apart alive name entry
          (led (Some name) leads) at)
          (inl (ap (λ (one : Answer). one ∷ []) (opened_told fetch asked entry at
          ∙ ap (λ (n : ℕ). opened_answer s h reader n) (sym here)))) refl
          (λ readers free comes.
          openings_stand.fetching s h (is_live (page_limit s) h) (parts_of parts) told table unmarked stands.between apart renderer reader text name off len
          entry readers (led (Some name) leads) at free comes) answer new opening
