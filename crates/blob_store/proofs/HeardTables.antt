-- A line was heard that changes tables and roots: `pass`, `revoke`, `file`, `gone`, `cancel` and `die`.
use Rattle.std.proofs.Common.{◌≡◌, ℕ, ◌-◌, ◌+◌, ◌==◌, ◌<◌, ◌≤◌, Bool, true, false, List, [], ◌∷◌, map, length, Option, Some, None, cond, refl, sym, ap, subst, ◌∙◌, inl, arith}
use Rattle.std.specs.Prelude.{is_some, nat_eq, option_and_then, IfSome, IsSome, IsSomeAnd, if◌then◌else◌}
use Rattle.std.specs.Option.{option_map}
use Rattle.std.specs.BTreeMap.{is_at}
use Rattle.std.specs.Cmp.{unsigned_tied}
use Rattle.std.specs.Ordering.{nat_cmp}
use Rattle.std.proofs.lemmas.Bool.{eqb-true}
use Rattle.blob_words.specs.declared.counted.Counted.TheVariants as counts
use Rattle.blob_words.specs.declared.number.ReaderId.{ReaderId}
use Rattle.blob_words.specs.declared.number.RendererId.{RendererId}
use Rattle.session_script.specs.declared.event.Event.TheVariants as events
use Rattle.answer_text.specs.declared.answer.Answer.TheVariants as answers
use Rattle.answer_text.specs.declared.group.Group.{Group}
use Rattle.answer_text.specs.declared.refusal.Refusal.TheVariants as refusals
use Rattle.blob_entries.specs.Book.{Book, changed}
use Rattle.blob_entries.specs.Changes.{held_less, held_more}
use Rattle.blob_entries.specs.declared.entry.Entry.{Entry}
use Rattle.data_handles.specs.Table.{Table as HandleTable}
use Rattle.file_table.specs.Changes.{Notes}
use Rattle.file_table.specs.Files.{fault_of, note_of}
use Rattle.file_table.specs.declared.file_note.FileNote.{FileNote}
use Rattle.page_disk.specs.declared.change.Change.{Change}
use Rattle.renderer_table.specs.Counted.{origin_at, ChangesCount}
use Rattle.renderer_table.specs.Table.{Table, pass_fault}
use Rattle.url_store.specs.Changes.{Comes, Goes}
use Rattle.url_store.specs.Urls.{own_url, url_at, IsBlobUrl}
use Rattle.url_store.specs.declared.url.Url.{Url}
use Rattle.blob_model.specs.History.{History, heard, history_from, start}
use Rattle.blob_model.specs.Legal.{IsLegalFrom}
use Rattle.blob_model.specs.Entries.{is_url_of}
use Rattle.blob_model.specs.Live.{is_live}
use Rattle.blob_model.specs.Readers.{OpenReader as ReaderSaid}
use Rattle.blob_model.specs.Renderers.{origin_of}
use Rattle.blob_model.specs.Session.{Session, page_limit}
use Rattle.store_laws.specs.LineLaws.{counted, handle_refusal, AreUnmarked}
use Rattle.store_laws.specs.Roots.{rootless, AreRerooted}
use Rattle.store_laws.specs.Rows.{Row as RowSaid}
use Rattle.store_laws.specs.Stands.{Between, Stands}
use Rattle.store_laws.specs.TableLaws.{open_at, reader_refusal, renderer_refusal, AllDepart, Departs, ReaderGoes, ReadersLeave, UrlsLeave}
use Rattle.store_laws.proofs.ApartHistories.{keys_differ}
use Rattle.store_laws.proofs.LineRefusals.{own_accepted}
use Rattle.store_laws.proofs.Rerooted.{changed_rerooted}
use Rattle.store_laws.proofs.TableLines.{table_lines_stand}
use Rattle.store_laws.proofs.TableRefusals.{cancel_known, die_known, file_known, file_refusal, gone_accepted, owned_so, pass_known, pass_refusal, revoke_known}
use Rattle.store_laws.proofs.Unmarked.{none_marked}
use Rattle.store_laws.proofs.UrlForms.{url_forms_agree}
use Rattle.store_laws.proofs.UrlRefusals.{origin_known, url_accepted, url_formless, url_full, url_taken}
use Rattle.blob_store.specs.declared.parts.Parts.{Parts}
use Rattle.blob_store.specs.declared.readers.OpenReader.{OpenReader}
use Rattle.blob_store.specs.declared.row.Row.{Row}
use Rattle.blob_store.specs.Readers.{reader_at, Closes}
use Rattle.blob_store.specs.Says.{scene, IsHeard}
use Rattle.blob_store.specs.Seen.{parts_of, reader_of, row_of, rows_beside}
use Rattle.blob_store.specs.Holders.{Owned}
use Rattle.blob_store.proofs.Heard.{heard_refused}
use Rattle.blob_store.proofs.Owning.{none_made, none_read}

-- ---- what the laws see

-- other roots leave the rows beside the entries
rows_without : (entries : List (Option Entry)) (rows : List Row) → rows_beside (rootless entries) rows ≡ rows_beside entries rows
rows_without [] rows = refl
rows_without (held ∷ entries) [] = refl
rows_without (None ∷ entries) (row ∷ rows) = ap (λ (list : List (Option RowSaid)). None ∷ list) (rows_without entries rows)
rows_without (Some entry ∷ entries) (row ∷ rows) = ap (λ (list : List (Option RowSaid)). Some (row_of row) ∷ list) (rows_without entries rows)

pub rows_rerooted : (old new : Book) (rows : List Row) → AreRerooted old new → rows_beside new.entries rows ≡ rows_beside old.entries rows
rows_rerooted old new rows same =
    sym (rows_without new.entries rows) ∙ ap (λ (entries : List (Option Entry)). rows_beside entries rows) same.entries ∙ rows_without old.entries rows

-- what is said of a note that is there
pub noted_both : (P Q : FileNote → Type 0) (found : Option FileNote) → IsSomeAnd found P → IfSome found Q
    → (note : FileNote) × (found ≡ Some note) × P note × Q note
noted_both P Q None is so = absurd is
noted_both P Q (Some note) is so = (note, refl, is, so)

equal_at : (one other : ℕ) → is_at (nat_cmp one) other ≡ true → one ≡ other
equal_at one other at = eqb-true one other (sym (unsigned_tied one other) ∙ at)

-- the URL that is an owner's is the one of its text
pub own_there : (owner : ℕ) (text : List ℕ) (urls : List (List ℕ × Url)) (url : Url) → own_url owner text urls ≡ Some url → url_at text urls ≡ Some url
own_there owner text urls url = by (url_at text urls)
  where
    mine : (one : Url) (b : Bool) → cond b (Some one) None ≡ Some url → Some one ≡ Some url
    mine one true at = at
    mine one false at = absurd (cc at)

    by : (found : Option Url) → option_and_then (λ (one : Url). if nat_eq owner one.owner.0 then Some one else None) found ≡ Some url → found ≡ Some url
    by None at = absurd (cc at)
    by (Some one) at = mine one (nat_eq owner one.owner.0) at

-- an open reader with its number
abbrev pub open_said : ℕ → OpenReader → ReaderSaid
open_said number reader = (reader_of (number, reader)).1

pub open_seen : (number : ℕ) (readers : List (ℕ × OpenReader))
    → open_at number (map reader_of readers) ≡ option_map (open_said number) (reader_at number readers)
open_seen number [] = refl
open_seen number (one ∷ readers) = by (is_at (nat_cmp number) one.0) refl (open_seen number readers)
  where
    by : (b : Bool) → is_at (nat_cmp number) one.0 ≡ b → open_at number (map reader_of readers) ≡ option_map (open_said number) (reader_at number readers)
        → cond b (Some (reader_of one).1) (open_at number (map reader_of readers))
        ≡ option_map (open_said number) (cond b (Some one.1) (reader_at number readers))
    by true at rest =
        let same : number ≡ one.0 = equal_at number one.0 at in
        ap {B = Option ReaderSaid} (λ (n : ℕ). Some (open_said n one.1)) (sym same)
    by false at rest = rest

pub many_seen : (readers : List (ℕ × OpenReader)) → length (map reader_of readers) ≡ length readers
many_seen [] = refl
many_seen (one ∷ readers) = let rest = many_seen readers in omega (arith, rest)

-- an open reader that is closed is closed for the laws
pub goes_seen : (number : ℕ) (reader : OpenReader) (old new : List (ℕ × OpenReader)) → reader_at number old ≡ Some reader → Closes number old new
    → ReaderGoes number (map reader_of old) (map reader_of new)
goes_seen number reader old new there closes = record {
  there = ap (λ (held : Option ReaderSaid). is_some held) (open_seen number old ∙ ap (option_map (open_said number)) there);
  each = λ other.
      open_seen other new ∙ ap (option_map (open_said other)) (closes.each other) ∙ by other (number == other)
      ∙ ap (λ (held : Option ReaderSaid). cond (number == other) None held) (sym (open_seen other old));
  many =
      let one = ap (λ (held : Option OpenReader). cond {A = ℕ} (is_some held) 1 0) there in
      omega (arith, closes.many, one, many_seen new, many_seen old);
}
  where
    by : (other : ℕ) (b : Bool) → option_map (open_said other) (cond b None (reader_at other old))
        ≡ cond b None (option_map (open_said other) (reader_at other old))
    by other true = refl
    by other false = refl

-- ---- lines

module _ (s : Session) (groups : List Group) (parts : Parts) (told : Option (List Change)) (table : HandleTable) (legal : IsLegalFrom s start groups)
    (stands : Stands s (history_from start groups) (parts_of parts) told table) where
  abbrev h : History
  h = history_from start groups

  unmarked : AreUnmarked parts.registry.entries
  unmarked = none_marked s groups (is_live (page_limit s) h) (parts_of parts) told table legal stands.between

  -- with other tables, and entries with other roots
  abbrev moved : Book → Table → List (List ℕ × Url) → List (List ℕ × FileNote) → List (ℕ × OpenReader) → Parts
  moved book renderers urls files readers =
      record parts { registry = book; renderers = renderers; urls = urls; files = files; readers = readers }

  pub seen : (later : History) (book : Book) (renderers : Table) (urls : List (List ℕ × Url)) (files : List (List ℕ × FileNote))
      (readers : List (ℕ × OpenReader)) → AreRerooted parts.registry book
      → Between s later (is_live (page_limit s) h) (counted (record (parts_of parts) {
        book = book;
        renderers = renderers;
        urls = urls;
        files = files;
        readers = map reader_of readers;
      })) told table
      → Between s later (is_live (page_limit s) h) (counted (parts_of (moved book renderers urls files readers))) told table
  seen later book renderers urls files readers same is =
      subst (λ (rows : List (Option RowSaid)). Between s later (is_live (page_limit s) h) (counted (record (parts_of parts) {
        book = book;
        renderers = renderers;
        urls = urls;
        files = files;
        readers = map reader_of readers;
        rows = rows;
      })) told table) (sym (rows_rerooted parts.registry book parts.rows same)) is

  pub heard_pass : (renderer to : RendererId) (name : ℕ) (book : Book) (renderers : Table) → pass_fault renderer to name parts.renderers ≡ None
      → book ≡ changed parts.registry name held_more → ChangesCount (λ (count : ℕ). count + 1) to.0 name parts.renderers renderers
      → IsHeard s h (events.Pass renderer to name) (answers.Good ∷ []) (scene (record parts { registry = book; renderers = renderers }) told table)
  heard_pass renderer to name book renderers due is changes = record {
    is_own = own_accepted s h (events.Pass renderer to name) (answers.Good ∷ [])
        (pass_known s h (is_live (page_limit s) h) (parts_of parts) told table stands.between renderer to name
        ∙ ap (option_map (pass_refusal renderer name)) due) (inl refl);
    stands = subst (λ (one : Book). Between s (heard h (events.Pass renderer to name) answers.Good) (is_live (page_limit s) h)
        (counted (parts_of (record parts { registry = one; renderers = renderers }))) told table) (sym is)
        (seen (heard h (events.Pass renderer to name) answers.Good) (changed parts.registry name held_more) renderers parts.urls parts.files parts.readers
        (changed_rerooted (λ (n : ℕ). n + 1) parts.registry name)
        (table_lines_stand.passing s h (is_live (page_limit s) h) (parts_of parts) told table unmarked stands.between renderer to name renderers changes));
  }

  pub heard_url : (renderer : RendererId) (name : ℕ) (text origin : List ℕ) (book : Book) (urls : List (List ℕ × Url))
      → handle_refusal renderer name parts.renderers ≡ None → origin_at renderer.0 parts.renderers ≡ Some origin → IsBlobUrl origin text
      → url_at text parts.urls ≡ None → length parts.urls < 16384 → book ≡ changed parts.registry name held_more
      → Comes text (record { blob = name; owner = renderer; origin = origin }) parts.urls urls
      → IsHeard s h (events.Url renderer name text) (answers.Good ∷ []) (scene (record parts { registry = book; urls = urls }) told table)
  heard_url renderer name text origin book urls due at url free few is comes =
      let known = origin_known s h (is_live (page_limit s) h) (parts_of parts) told table stands.between renderer.0 origin at in
      let form = url_forms_agree.formed (origin_of h renderer.0) text (subst (λ (one : List ℕ). IsBlobUrl one text) known url) in
      record {
        is_own = own_accepted s h (events.Url renderer name text) (answers.Good ∷ [])
            (url_accepted s h (is_live (page_limit s) h) (parts_of parts) told table stands.between renderer name text due form free few) (inl refl);
        stands = subst (λ (one : Book). Between s (heard h (events.Url renderer name text) answers.Good) (is_live (page_limit s) h)
            (counted (parts_of (record parts { registry = one; urls = urls }))) told table) (sym is)
            (seen (heard h (events.Url renderer name text) answers.Good) (changed parts.registry name held_more) parts.renderers urls parts.files
            parts.readers (changed_rerooted (λ (n : ℕ). n + 1) parts.registry name)
            (table_lines_stand.making_urls s h (is_live (page_limit s) h) (parts_of parts) told table unmarked stands.between renderer name text urls free
            (subst (λ (one : List ℕ). Comes text (record { blob = name; owner = renderer; origin = one }) parts.urls urls) known comes)));
      }

  -- why a URL can't be, in the order of the tests
  pub heard_formless : (renderer : RendererId) (name : ℕ) (text origin : List ℕ) → handle_refusal renderer name parts.renderers ≡ None
      → origin_at renderer.0 parts.renderers ≡ Some origin → ¬ (IsBlobUrl origin text)
      → IsHeard s h (events.Url renderer name text) (answers.Refused refusals.UrlForm ∷ []) (scene parts told table)
  heard_formless renderer name text origin due at none =
      let known = origin_known s h (is_live (page_limit s) h) (parts_of parts) told table stands.between renderer.0 origin at in
      heard_refused s groups parts told table legal stands (events.Url renderer name text) refusals.UrlForm
      (url_formless s h (is_live (page_limit s) h) (parts_of parts) told table stands.between renderer name text due
      (by known (is_url_of (origin_of h renderer.0) text) refl))
    where
      by : origin ≡ origin_of h renderer.0 → (b : Bool) → is_url_of (origin_of h renderer.0) text ≡ b → b ≡ false
      by known true is = absurd (none (subst (λ (one : List ℕ). IsBlobUrl one text) (sym known) (url_forms_agree.named (origin_of h renderer.0) text is)))
      by known false is = refl

  module _ (renderer : RendererId) (name : ℕ) (text origin : List ℕ) (due : handle_refusal renderer name parts.renderers ≡ None)
      (at : origin_at renderer.0 parts.renderers ≡ Some origin) (url : IsBlobUrl origin text) where
    form : is_url_of (origin_of h renderer.0) text ≡ true
    form =
        url_forms_agree.formed (origin_of h renderer.0) text (subst (λ (one : List ℕ). IsBlobUrl one text)
        (origin_known s h (is_live (page_limit s) h) (parts_of parts) told table stands.between renderer.0 origin at) url)

    pub heard_taken : IsSome (url_at text parts.urls)
        → IsHeard s h (events.Url renderer name text) (answers.Refused refusals.UrlTaken ∷ []) (scene parts told table)
    heard_taken is =
        heard_refused s groups parts told table legal stands (events.Url renderer name text) refusals.UrlTaken
        (url_taken s h (is_live (page_limit s) h) (parts_of parts) told table stands.between renderer name text due form is)

    pub heard_full : url_at text parts.urls ≡ None → 16384 ≤ length parts.urls
        → IsHeard s h (events.Url renderer name text) (answers.Refused (refusals.TooMany counts.Urls) ∷ []) (scene parts told table)
    heard_full free many =
        heard_refused s groups parts told table legal stands (events.Url renderer name text) (refusals.TooMany counts.Urls)
        (url_full s h (is_live (page_limit s) h) (parts_of parts) told table stands.between renderer name text due form free many)

  pub heard_revoke : (renderer : RendererId) (text : List ℕ) (url : Url) (book : Book) (urls : List (List ℕ × Url))
      → renderer_refusal renderer parts.renderers ≡ None → own_url renderer.0 text parts.urls ≡ Some url → book ≡ changed parts.registry url.blob held_less
      → Goes text parts.urls urls
      → IsHeard s h (events.Revoke renderer text) (answers.Revoked ∷ []) (scene (record parts { registry = book; urls = urls }) told table)
  heard_revoke renderer text url book urls due own is goes =
      let keys = keys_differ s groups legal in
      let owned =
      owned_so s h (is_live (page_limit s) h) (parts_of parts) told table stands.between keys.0 renderer text
      ∙ ap (λ (held : Option Url). is_some held) own in
      record {
        is_own = own_accepted s h (events.Revoke renderer text) (answers.Revoked ∷ [])
            (revoke_known s h (is_live (page_limit s) h) (parts_of parts) told table stands.between renderer text ∙ due)
            (inl (ap (λ (b : Bool). cond b answers.Revoked answers.Nothing ∷ []) (sym owned)));
        stands = subst (λ (one : Book). Between s (heard h (events.Revoke renderer text) answers.Revoked) (is_live (page_limit s) h)
            (counted (parts_of (record parts { registry = one; urls = urls }))) told table) (sym is)
            (seen (heard h (events.Revoke renderer text) answers.Revoked) (changed parts.registry url.blob held_less) parts.renderers urls parts.files
            parts.readers (changed_rerooted (λ (n : ℕ). n - 1) parts.registry url.blob)
            (table_lines_stand.revoking s h (is_live (page_limit s) h) (parts_of parts) told table unmarked stands.between keys.0 renderer text url urls
            (own_there renderer.0 text parts.urls url own) goes));
      }

  pub heard_nothing : (renderer : RendererId) (text : List ℕ) → renderer_refusal renderer parts.renderers ≡ None
      → own_url renderer.0 text parts.urls ≡ None → IsHeard s h (events.Revoke renderer text) (answers.Nothing ∷ []) (scene parts told table)
  heard_nothing renderer text due own =
      let owned =
      owned_so s h (is_live (page_limit s) h) (parts_of parts) told table stands.between (keys_differ s groups legal).0 renderer text
      ∙ ap (λ (held : Option Url). is_some held) own in
      record {
        is_own = own_accepted s h (events.Revoke renderer text) (answers.Nothing ∷ [])
            (revoke_known s h (is_live (page_limit s) h) (parts_of parts) told table stands.between renderer text ∙ due)
            (inl (ap (λ (b : Bool). cond b answers.Revoked answers.Nothing ∷ []) (sym owned)));
        stands = table_lines_stand.revoking_nothing renderer text s h (is_live (page_limit s) h) (parts_of parts) told table unmarked stands.between;
      }

  pub heard_file : (name : List ℕ) (stamp : ℕ) (bytes : List ℕ) (files : List (List ℕ × FileNote))
      → fault_of stamp (length parts.files) (note_of name parts.files) ≡ None
      → Notes name (record { last = stamp; bytes = Some bytes }) parts.files files
      → IsHeard s h (events.File name stamp bytes) (answers.Good ∷ []) (scene (record parts { files = files }) told table)
  heard_file name stamp bytes files due notes = record {
    is_own = own_accepted s h (events.File name stamp bytes) (answers.Good ∷ [])
        (file_known s h (is_live (page_limit s) h) (parts_of parts) told table stands.between name stamp bytes ∙ ap (option_map file_refusal) due) (inl refl);
    stands = table_lines_stand.recording s h (is_live (page_limit s) h) (parts_of parts) told table unmarked stands.between name stamp bytes files notes;
  }

  pub heard_gone : (name : List ℕ) (note : FileNote) (files : List (List ℕ × FileNote)) → note_of name parts.files ≡ Some note
      → is_some note.bytes ≡ true → Notes name (record note { bytes = None }) parts.files files
      → IsHeard s h (events.Gone name) (answers.Good ∷ []) (scene (record parts { files = files }) told table)
  heard_gone name note files there has notes = record {
    is_own = own_accepted s h (events.Gone name) (answers.Good ∷ [])
        (gone_accepted s h (is_live (page_limit s) h) (parts_of parts) told table stands.between name note there has) (inl refl);
    stands = table_lines_stand.forgetting s h (is_live (page_limit s) h) (parts_of parts) told table unmarked stands.between name note files there notes;
  }

  pub heard_cancel : (renderer : RendererId) (number : ReaderId) (reader : OpenReader) (book : Book) (readers : List (ℕ × OpenReader))
      → reader_refusal renderer number parts.renderers (map reader_of parts.readers) ≡ None → reader_at number.0 parts.readers ≡ Some reader
      → book ≡ changed parts.registry reader.blob held_less → Closes number.0 parts.readers readers
      → IsHeard s h (events.Cancel renderer number) (answers.Good ∷ []) (scene (record parts { registry = book; readers = readers }) told table)
  heard_cancel renderer number reader book readers due there is closes = record {
    is_own = own_accepted s h (events.Cancel renderer number) (answers.Good ∷ [])
        (cancel_known s h (is_live (page_limit s) h) (parts_of parts) told table stands.between renderer number ∙ due) (inl refl);
    stands = subst (λ (one : Book). Between s (heard h (events.Cancel renderer number) answers.Good) (is_live (page_limit s) h)
        (counted (parts_of (record parts { registry = one; readers = readers }))) told table) (sym is)
        (seen (heard h (events.Cancel renderer number) answers.Good) (changed parts.registry reader.blob held_less) parts.renderers parts.urls parts.files
        readers (changed_rerooted (λ (n : ℕ). n - 1) parts.registry reader.blob)
        (table_lines_stand.closing s h (is_live (page_limit s) h) (parts_of parts) told table unmarked stands.between (keys_differ s groups legal).1 renderer
        number reader.blob (map reader_of readers) (goes_seen number.0 reader parts.readers readers there closes)));
  }

  pub heard_die : (renderer : RendererId) (book : Book) (renderers : Table) (urls : List (List ℕ × Url)) (readers : List (ℕ × OpenReader))
      → renderer_refusal renderer parts.renderers ≡ None → AreRerooted parts.registry book → Departs renderer.0 parts.renderers renderers
      → UrlsLeave renderer.0 parts.urls urls → ReadersLeave renderer.0 (map reader_of parts.readers) (map reader_of readers)
      → IsHeard s h (events.Die renderer) (answers.Good ∷ [])
      (scene (record parts { registry = book; renderers = renderers; urls = urls; readers = readers }) told table)
  heard_die renderer book renderers urls readers due same departs urls_go readers_go =
      let keys = keys_differ s groups legal in
      record {
        is_own = own_accepted s h (events.Die renderer) (answers.Good ∷ [])
            (die_known s h (is_live (page_limit s) h) (parts_of parts) told table stands.between renderer ∙ due) (inl refl);
        stands = seen (heard h (events.Die renderer) answers.Good) book renderers urls parts.files readers same
            (table_lines_stand.dying s h (is_live (page_limit s) h) (parts_of parts) told table unmarked stands.between keys.0 keys.1 renderer book
            renderers urls (map reader_of readers) same departs urls_go readers_go);
      }

  -- nobody is left to own a URL or a reader
  pub heard_finish : (book : Book) (renderers : Table) (urls : List (List ℕ × Url)) (readers : List (ℕ × OpenReader)) → AreRerooted parts.registry book
      → AllDepart parts.renderers renderers → Owned renderers urls readers
      → IsHeard s h events.Finish (answers.Good ∷ [])
      (scene (record parts { registry = book; renderers = renderers; urls = urls; readers = readers }) told table)
  heard_finish book renderers urls readers same depart owned = record {
    is_own = own_accepted s h events.Finish (answers.Good ∷ []) refl (inl refl);
    stands = subst (λ (list : List (List ℕ × Url)). Between s (heard h events.Finish answers.Good) (is_live (page_limit s) h)
        (counted (parts_of (record parts { registry = book; renderers = renderers; urls = list; readers = readers }))) told table)
        (sym (none_made renderers urls depart.origins owned.urls))
        (subst (λ (list : List (ℕ × OpenReader)). Between s (heard h events.Finish answers.Good) (is_live (page_limit s) h)
        (counted (parts_of (record parts { registry = book; renderers = renderers; urls = []; readers = list }))) told table)
        (sym (none_read renderers readers depart.origins owned.readers))
        (seen (heard h events.Finish answers.Good) book renderers [] parts.files [] same
        (table_lines_stand.finishing s h (is_live (page_limit s) h) (parts_of parts) told table unmarked stands.between book renderers same depart)));
  }
