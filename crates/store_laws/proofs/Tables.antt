-- The parts stand for the history with a line that changes tables and roots.
use Rattle.std.proofs.Common.{◌≡◌, ℕ, ◌+◌, ◌-◌, ◌==◌, ◌&&◌, ◌||◌, not, Bool, true, false, List, [], ◌∷◌, ◌++◌, length, filter, refl, ap, subst, sym, ◌∙◌, Option, Some, None, cond, arith}
use Rattle.std.specs.Prelude.{bytes_eq, find, is_some, option_and_then}
use Rattle.std.specs.Option.{option_map}
use Rattle.std.specs.List.{list_any}
use Rattle.std.specs.Ordering.{nat_cmp}
use Rattle.std.specs.BTreeMap.{is_at}
use Rattle.std.proofs.lemmas.Bool.{eq-eqb, eqb-true}
use Rattle.std.proofs.lemmas.List.{length-append}
use Rattle.std.proofs.lemmas.List.Folds.{list_any-append}
use Rattle.std.proofs.lemmas.Slice.Eq.{bytes_eq-Decides}
use Rattle.blob_words.specs.declared.number.ReaderId.{ReaderId}
use Rattle.blob_words.specs.declared.number.RendererId.{RendererId}
use Rattle.session_script.specs.declared.event.Event.TheVariants as events
use Rattle.answer_text.specs.declared.answer.Answer.TheVariants as answers
use Rattle.blob_entries.specs.Book.{changed}
use Rattle.blob_entries.specs.Changes.{held_less, held_more}
use Rattle.data_handles.specs.Table.{Table as HandleTable}
use Rattle.file_table.specs.Changes.{Notes}
use Rattle.file_table.specs.Files.{note_of}
use Rattle.file_table.specs.declared.file_note.FileNote.{FileNote}
use Rattle.model_bridges.specs.Bridges.{state_as}
use Rattle.page_disk.specs.declared.change.Change.{Change}
use Rattle.renderer_table.specs.Counted.{ChangesCount}
use Rattle.renderer_table.specs.Table.{Table}
use Rattle.url_store.specs.Changes.{Comes, Goes}
use Rattle.url_store.specs.Urls.{url_at}
use Rattle.url_store.specs.declared.url.Url.{Url}
use Rattle.blob_model.specs.Entries.{Entry, entries, entry_at}
use Rattle.blob_model.specs.Handles.{count}
use Rattle.blob_model.specs.History.{History, heard, refused, said, start}
use Rattle.blob_model.specs.Readers.{OpenReader, readers}
use Rattle.blob_model.specs.Recorded.{file_names, last_stamp, recorded}
use Rattle.blob_model.specs.Renderers.{is_alive, origin_of, spawned}
use Rattle.blob_model.specs.Session.{Session, page_limit}
use Rattle.blob_model.proofs.Lists.{false_true, or_first, or_second}
use Rattle.store_laws.specs.Apart.{same_number, same_text, AreApartBy, AreReadersApart, AreUrlsApart}
use Rattle.store_laws.specs.LineLaws.{counted, AreUnmarked}
use Rattle.store_laws.specs.Stands.{Between, Parts}
use Rattle.store_laws.specs.TableLaws.{open_at, ReaderGoes}
use Rattle.store_laws.specs.Tables.{url_of, FilesStand, ReadersStand, RenderersStand, UrlsStand}
use Rattle.store_laws.proofs.AfterLines.{find_last, find_new}
use Rattle.store_laws.proofs.Alike.{between_alike}
use Rattle.store_laws.proofs.Apart.{found_any, found_beside, found_gone, found_none, one_gone}
use Rattle.store_laws.proofs.Rerooted.{between_rerooted, changed_rerooted}

abbrev Urls : Type 0
Urls = List (List ℕ × Url)

abbrev Files : Type 0
Files = List (List ℕ × FileNote)

abbrev Open : Type 0
Open = List (ℕ × OpenReader)

-- ---- texts

pub same_bytes : (text : List ℕ) → bytes_eq text text ≡ true
same_bytes text = (bytes_eq-Decides text text).1 refl

pub equal_bytes : (one other : List ℕ) → bytes_eq one other ≡ true → one ≡ other
equal_bytes one other at = (bytes_eq-Decides one other).0 at

pub turned_bytes : (one other : List ℕ) → bytes_eq one other ≡ true → bytes_eq other one ≡ true
turned_bytes one other at = subst (λ (text : List ℕ). bytes_eq text one ≡ true) (equal_bytes one other at) (same_bytes one)

-- two texts that a third equals are equal
pub joined_bytes : (one other text : List ℕ) → bytes_eq one text ≡ true → bytes_eq other text ≡ true → bytes_eq one other ≡ true
joined_bytes one other text a b = subst (λ (end : List ℕ). bytes_eq one end ≡ true) (sym (equal_bytes other text b)) a

-- what equals one of two that differ doesn't equal the other
parted_bytes : (one other text : List ℕ) → bytes_eq one other ≡ false → bytes_eq text one ≡ true → bytes_eq text other ≡ false
parted_bytes one other text apart at = subst (λ (front : List ℕ). bytes_eq front other ≡ false) (sym (equal_bytes text one at)) apart

pub some_found : {X Y : Type 0} (f : X → Y) (found : Option X) (y : Y) → option_map f found ≡ Some y → (x : X) × (found ≡ Some x)
some_found f None y at = absurd (cc at)
some_found f (Some x) y at = (x, refl)

pub none_found : {X Y : Type 0} (f : X → Y) (found : Option X) → option_map f found ≡ None → found ≡ None
none_found f None at = refl
none_found f (Some x) at = absurd (cc at)

-- ---- handles

passed_stand : (h : History) (table later : Table) (renderer to : RendererId) (name : ℕ)
    → RenderersStand (spawned h) (is_alive h) (origin_of h) (count h) table → ChangesCount (λ (count : ℕ). count + 1) to.0 name table later
    → RenderersStand (spawned h) (is_alive h) (origin_of h) (count (heard h (events.Pass renderer to name) answers.Good)) later
passed_stand h table later renderer to name stand changes = record {
  spawned = λ number. ap (λ (list : List ℕ). list_any (is_at (nat_cmp number)) list) changes.spawned ∙ stand.spawned number;
  many = ap (λ (list : List ℕ). length list) changes.spawned ∙ stand.many;
  living = λ number. changes.origins number ∙ stand.living number;
  counts = λ number blob.
      changes.counts number blob ∙ ap (λ (n : ℕ). cond ((to.0 == number) && (name == blob)) (n + 1) n) (stand.counts number blob);
}

-- ---- URLs

-- whether a URL has the text
abbrev pub has_text : List ℕ → Entry → Bool
has_text text entry = bytes_eq entry.text text

module _ (list : List Entry) (origin : ℕ → List ℕ) (urls later : Urls) (stand : UrlsStand list origin urls) where
  url_comes : (entry : Entry) → url_at entry.text urls ≡ None → Comes entry.text (url_of origin entry) urls later
      → UrlsStand (list ++ entry ∷ []) origin later
  url_comes entry none comes = record {
    each = λ text. comes.each text ∙ by text (bytes_eq entry.text text) refl;
    many = let more = length-append list (entry ∷ []) in omega (arith, comes.many, stand.many, more);
  }
    where
      absent : list_any (has_text entry.text) list ≡ false
      absent = found_none (has_text entry.text) list (none_found (url_of origin) (entry_at list entry.text) (sym (stand.each entry.text) ∙ none))

      by : (text : List ℕ) (b : Bool) → bytes_eq entry.text text ≡ b
          → cond b (Some (url_of origin entry)) (url_at text urls) ≡ option_map (url_of origin) (entry_at (list ++ entry ∷ []) text)
      by text true at =
          let none_here : list_any (has_text text) list ≡ false =
          subst (λ (one : List ℕ). list_any (has_text one) list ≡ false) (equal_bytes entry.text text at) absent in
          sym (ap (option_map (url_of origin)) (find_new (has_text text) list entry none_here at))
      by text false at = stand.each text ∙ sym (ap (option_map (url_of origin)) (find_last (has_text text) list entry at))

  pub url_goes : AreApartBy same_text list → (text : List ℕ) (url : Url) → url_at text urls ≡ Some url → Goes text urls later
      → UrlsStand (filter (λ (entry : Entry). not (bytes_eq entry.text text)) list) origin later
  url_goes apart text url there goes = record {
    each = λ other. goes.each other ∙ by other (bytes_eq text other) refl;
    many =
        let found = some_found (url_of origin) (entry_at list text) url (sym (stand.each text) ∙ there) in
        let some = found_any (has_text text) list found.0 found.1 in
        let fewer = one_gone same_text (has_text text) (λ one other. joined_bytes one.text other.text text) list apart some in
        omega (arith, fewer, goes.many, stand.many);
  }
    where
      by : (other : List ℕ) (b : Bool) → bytes_eq text other ≡ b
          → cond b None (url_at other urls)
          ≡ option_map (url_of origin) (entry_at (filter (λ (entry : Entry). not (bytes_eq entry.text text)) list) other)
      by other true at =
          let equal = equal_bytes text other at in
          sym (ap (option_map (url_of origin)) (found_gone (has_text other) (has_text text)
          (λ entry. ap (λ (one : List ℕ). bytes_eq entry.text one) (sym equal)) list))
      by other false at =
          stand.each other
          ∙ sym (ap (option_map (url_of origin)) (found_beside (has_text other) (has_text text)
          (λ entry here. parted_bytes text other entry.text at here) list))

-- ---- files

-- a file has a last stamp where it was named
stamped : (h : History) (name : List ℕ) → is_some (last_stamp h name) ≡ list_any (bytes_eq name) (file_names h)
stamped start name = refl
stamped (heard h (events.File file stamp bytes) answer) name =
    by (bytes_eq file name) refl (list_any (bytes_eq file) (file_names h)) refl (stamped h name)
  where
    more : list_any (bytes_eq name) (file_names h ++ file ∷ []) ≡ (list_any (bytes_eq name) (file_names h) || (bytes_eq name file || false))
    more = list_any-append (bytes_eq name) (file_names h) (file ∷ [])

    other : bytes_eq file name ≡ false → bytes_eq name file ≡ false
    other apart = by_case (bytes_eq name file) refl
      where
        by_case : (b : Bool) → bytes_eq name file ≡ b → b ≡ false
        by_case true at = absurd (false_true (sym apart ∙ turned_bytes name file at))
        by_case false at = refl

    nothing_more : (b : Bool) → b ≡ (b || (false || false))
    nothing_more true = refl
    nothing_more false = refl

    by : (same : Bool) → bytes_eq file name ≡ same → (known : Bool) → list_any (bytes_eq file) (file_names h) ≡ known
        → is_some (last_stamp h name) ≡ list_any (bytes_eq name) (file_names h)
        → is_some (cond same (Some stamp) (last_stamp h name)) ≡ list_any (bytes_eq name) (cond known (file_names h) (file_names h ++ file ∷ []))
    by true at true there rest = sym (subst (λ (one : List ℕ). list_any (bytes_eq one) (file_names h) ≡ true) (equal_bytes file name at) there)
    by true at false there rest =
        sym (more ∙ or_second (list_any (bytes_eq name) (file_names h)) (bytes_eq name file || false)
        (or_first (bytes_eq name file) false (turned_bytes file name at)))
    by false at true there rest = rest
    by false at false there rest =
        rest ∙ nothing_more (list_any (bytes_eq name) (file_names h))
        ∙ sym (more ∙ ap (λ (b : Bool). list_any (bytes_eq name) (file_names h) || (b || false)) (other at))
stamped (heard h event answer) name = stamped h name
stamped (refused h event why) name = stamped h name
stamped (said h answer) name = stamped h name

module _ (h : History) (files later : Files) (stand : FilesStand (file_names h) (recorded h) (last_stamp h) files) (name : List ℕ) where
  -- the name is known where a note is there
  pub known : is_some (note_of name files) ≡ list_any (bytes_eq name) (file_names h)
  known = by (note_of name files) ∙ ap is_some (stand.stamps name) ∙ stamped h name
    where
      by : (found : Option FileNote) → is_some found ≡ is_some (option_map (λ (note : FileNote). note.last) found)
      by None = refl
      by (Some note) = refl

  file_comes : (stamp : ℕ) (bytes : List ℕ) → Notes name (record { last = stamp; bytes = Some bytes }) files later
      → FilesStand (file_names (heard h (events.File name stamp bytes) answers.Good)) (recorded (heard h (events.File name stamp bytes) answers.Good))
      (last_stamp (heard h (events.File name stamp bytes) answers.Good)) later
  file_comes stamp bytes notes = record {
    states = λ other. ap (option_and_then state_as) (notes.each other) ∙ state_by other (bytes_eq name other);
    stamps = λ other. ap (option_map (λ (note : FileNote). note.last)) (notes.each other) ∙ stamp_by other (bytes_eq name other);
    many = notes.many ∙ many_by (is_some (note_of name files)) (list_any (bytes_eq name) (file_names h)) known;
  }
    where
      note : FileNote
      note = record { last = stamp; bytes = Some bytes }

      state_by : (other : List ℕ) (b : Bool) → option_and_then state_as (cond b (Some note) (note_of other files))
          ≡ cond b (Some (record { stamp = stamp; bytes = bytes })) (recorded h other)
      state_by other true = refl
      state_by other false = stand.states other

      stamp_by : (other : List ℕ) (b : Bool) → option_map (λ (one : FileNote). one.last) (cond b (Some note) (note_of other files))
          ≡ cond b (Some stamp) (last_stamp h other)
      stamp_by other true = refl
      stamp_by other false = stand.stamps other

      many_by : (b c : Bool) → b ≡ c → length files + cond b 0 1 ≡ length (cond c (file_names h) (file_names h ++ name ∷ []))
      many_by true true e = omega (arith, stand.many)
      many_by true false e = absurd (false_true (sym e))
      many_by false true e = absurd (false_true e)
      many_by false false e = let more = length-append (file_names h) (name ∷ []) in omega (arith, stand.many, more)

  file_goes : (note : FileNote) → note_of name files ≡ Some note → Notes name (record note { bytes = None }) files later
      → FilesStand (file_names h) (recorded (heard h (events.Gone name) answers.Good)) (last_stamp h) later
  file_goes note there notes = record {
    states = λ other. ap (option_and_then state_as) (notes.each other) ∙ state_by other (bytes_eq name other);
    stamps = λ other. ap (option_map (λ (one : FileNote). one.last)) (notes.each other) ∙ stamp_by other (bytes_eq name other) refl;
    many = let none_more = ap (λ (found : Option FileNote). cond {A = ℕ} (is_some found) 0 1) there in omega (arith, notes.many, none_more, stand.many);
  }
    where
      left : FileNote
      left = record note { bytes = None }

      state_by : (other : List ℕ) (b : Bool) → option_and_then state_as (cond b (Some left) (note_of other files)) ≡ cond b None (recorded h other)
      state_by other true = refl
      state_by other false = stand.states other

      stamp_by : (other : List ℕ) (b : Bool) → bytes_eq name other ≡ b
          → option_map (λ (one : FileNote). one.last) (cond b (Some left) (note_of other files)) ≡ last_stamp h other
      stamp_by other true at =
          sym (ap (option_map (λ (one : FileNote). one.last)) there) ∙ stand.stamps name ∙ ap (last_stamp h) (equal_bytes name other at)
      stamp_by other false at = stand.stamps other

-- ---- readers

abbrev pub has_number : ℕ → OpenReader → Bool
has_number number reader = reader.number == number

module _ (list : List OpenReader) (open_readers later : Open) (stand : ReadersStand list open_readers) where
  pub reader_goes : AreApartBy same_number list → (number : ℕ) → ReaderGoes number open_readers later
      → ReadersStand (filter (λ (reader : OpenReader). not (reader.number == number)) list) later
  reader_goes apart number goes = record {
    each = λ other. goes.each other ∙ by other (number == other) refl;
    many =
        let found = is_there (open_at number open_readers) goes.there in
        let some = found_any (has_number number) list found.0 (sym (stand.each number) ∙ found.1) in
        let fewer = one_gone same_number (has_number number) (λ one other a b. joined one.number other.number a b) list apart some in
        omega (arith, fewer, goes.many, stand.many);
  }
    where
      is_there : (found : Option OpenReader) → is_some found ≡ true → (reader : OpenReader) × (found ≡ Some reader)
      is_there None e = absurd (false_true e)
      is_there (Some reader) e = (reader, refl)

      joined : (one other : ℕ) → (one == number) ≡ true → (other == number) ≡ true → (one == other) ≡ true
      joined one other a b = eq-eqb one other (eqb-true one number a ∙ sym (eqb-true other number b))

      by : (other : ℕ) (b : Bool) → (number == other) ≡ b
          → cond b None (open_at other open_readers)
          ≡ find (λ (reader : OpenReader). reader.number == other) (filter (λ (reader : OpenReader). not (reader.number == number)) list)
      by other true at =
          sym (found_gone (has_number other) (has_number number) (λ reader. ap (λ (n : ℕ). reader.number == n) (sym (eqb-true number other at))) list)
      by other false at =
          stand.each other
          ∙ sym (found_beside (has_number other) (has_number number)
          (λ reader here. subst (λ (n : ℕ). (n == other) ≡ false) (sym (eqb-true reader.number number here)) at) list)

-- ---- all parts

module _ (s : Session) (h : History) (stands : ℕ → Bool) (parts : Parts) (told : Option (List Change)) (table : HandleTable)
    (unmarked : AreUnmarked parts.book.entries) (between : Between s h stands parts told table) where
  pub passing : (renderer to : RendererId) (name : ℕ) (renderers : Table) → ChangesCount (λ (count : ℕ). count + 1) to.0 name parts.renderers renderers
      → Between s (heard h (events.Pass renderer to name) answers.Good) stands
      (counted (record parts { book = changed parts.book name held_more; renderers = renderers })) told table
  passing renderer to name renderers changes =
      let later = heard h (events.Pass renderer to name) answers.Good in
      between_rerooted s later stands (counted (record parts { renderers = renderers })) told table (changed parts.book name held_more)
      (changed_rerooted (λ (n : ℕ). n + 1) parts.book name)
      (between_alike s h later refl stands parts told table unmarked between renderers parts.urls parts.files parts.readers (record {
        renderers = passed_stand h parts.renderers renderers renderer to name between.tables.renderers changes;
        urls_stand = between.tables.urls_stand;
        files_stand = between.tables.files_stand;
        readers_stand = between.tables.readers_stand;
      }) refl)

  pub making_urls : (renderer : RendererId) (name : ℕ) (text : List ℕ) (urls : Urls) → url_at text parts.urls ≡ None
      → Comes text (record { blob = name; owner = renderer; origin = origin_of h renderer.0 }) parts.urls urls
      → Between s (heard h (events.Url renderer name text) answers.Good) stands
      (counted (record parts { book = changed parts.book name held_more; urls = urls })) told table
  making_urls renderer name text urls none comes =
      let later = heard h (events.Url renderer name text) answers.Good in
      between_rerooted s later stands (counted (record parts { urls = urls })) told table (changed parts.book name held_more)
      (changed_rerooted (λ (n : ℕ). n + 1) parts.book name)
      (between_alike s h later refl stands parts told table unmarked between parts.renderers urls parts.files parts.readers (record {
        renderers = between.tables.renderers;
        urls_stand = url_comes (entries h) (origin_of h) parts.urls urls between.tables.urls_stand
            (record { text = text; blob = name; owner = renderer.0 }) none comes;
        files_stand = between.tables.files_stand;
        readers_stand = between.tables.readers_stand;
      }) refl)

  pub revoking : AreUrlsApart h → (renderer : RendererId) (text : List ℕ) (url : Url) (urls : Urls) → url_at text parts.urls ≡ Some url
      → Goes text parts.urls urls
      → Between s (heard h (events.Revoke renderer text) answers.Revoked) stands
      (counted (record parts { book = changed parts.book url.blob held_less; urls = urls })) told table
  revoking apart renderer text url urls there goes =
      let later = heard h (events.Revoke renderer text) answers.Revoked in
      between_rerooted s later stands (counted (record parts { urls = urls })) told table (changed parts.book url.blob held_less)
      (changed_rerooted (λ (n : ℕ). n - 1) parts.book url.blob)
      (between_alike s h later refl stands parts told table unmarked between parts.renderers urls parts.files parts.readers (record {
        renderers = between.tables.renderers;
        urls_stand = url_goes (entries h) (origin_of h) parts.urls urls between.tables.urls_stand apart text url there goes;
        files_stand = between.tables.files_stand;
        readers_stand = between.tables.readers_stand;
      }) refl)

  pub revoking_nothing : (renderer : RendererId) (text : List ℕ)
      → Between s (heard h (events.Revoke renderer text) answers.Nothing) stands (counted parts) told table
  revoking_nothing renderer text =
      between_alike s h (heard h (events.Revoke renderer text) answers.Nothing) refl stands parts told table unmarked between parts.renderers parts.urls
      parts.files parts.readers (record {
        renderers = between.tables.renderers;
        urls_stand = between.tables.urls_stand;
        files_stand = between.tables.files_stand;
        readers_stand = between.tables.readers_stand;
      }) refl

  pub recording : (name : List ℕ) (stamp : ℕ) (bytes : List ℕ) (files : Files) → Notes name (record { last = stamp; bytes = Some bytes }) parts.files files
      → Between s (heard h (events.File name stamp bytes) answers.Good) stands (counted (record parts { files = files })) told table
  recording name stamp bytes files notes =
      between_alike s h (heard h (events.File name stamp bytes) answers.Good) refl stands parts told table unmarked between parts.renderers parts.urls files
      parts.readers (record {
        renderers = between.tables.renderers;
        urls_stand = between.tables.urls_stand;
        files_stand = file_comes h parts.files files between.tables.files_stand name stamp bytes notes;
        readers_stand = between.tables.readers_stand;
      }) refl

  pub forgetting : (name : List ℕ) (note : FileNote) (files : Files) → note_of name parts.files ≡ Some note
      → Notes name (record note { bytes = None }) parts.files files
      → Between s (heard h (events.Gone name) answers.Good) stands (counted (record parts { files = files })) told table
  forgetting name note files there notes =
      between_alike s h (heard h (events.Gone name) answers.Good) refl stands parts told table unmarked between parts.renderers parts.urls files
      parts.readers (record {
        renderers = between.tables.renderers;
        urls_stand = between.tables.urls_stand;
        files_stand = file_goes h parts.files files between.tables.files_stand name note there notes;
        readers_stand = between.tables.readers_stand;
      }) refl

  pub closing : AreReadersApart (page_limit s) h → (renderer : RendererId) (reader : ReaderId) (name : ℕ) (open_readers : Open)
      → ReaderGoes reader.0 parts.readers open_readers
      → Between s (heard h (events.Cancel renderer reader) answers.Good) stands
      (counted (record parts { book = changed parts.book name held_less; readers = open_readers })) told table
  closing apart renderer reader name open_readers goes =
      let later = heard h (events.Cancel renderer reader) answers.Good in
      between_rerooted s later stands (counted (record parts { readers = open_readers })) told table (changed parts.book name held_less)
      (changed_rerooted (λ (n : ℕ). n - 1) parts.book name)
      (between_alike s h later refl stands parts told table unmarked between parts.renderers parts.urls parts.files open_readers (record {
        renderers = between.tables.renderers;
        urls_stand = between.tables.urls_stand;
        files_stand = between.tables.files_stand;
        readers_stand = reader_goes (readers (page_limit s) h) parts.readers open_readers between.tables.readers_stand apart reader.0 goes;
      }) refl)
