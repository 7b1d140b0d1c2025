-- Which refusal applies to lines that change tables alone, as the tables tell.
use Rattle.std.proofs.Common.{◌≡◌, ℕ, zero, suc, ◌==◌, ◌&&◌, ◌||◌, Bool, true, false, not, List, [], ◌∷◌, length, refl, ap, subst, sym, ◌∙◌, Option, Some, None, cond, arith}
use Rattle.std.specs.Prelude.{bytes_eq, is_none, is_some, nat_eq, nat_le, nat_lt, option_and_then, unwrap_or, if◌then◌else◌}
use Rattle.std.specs.Option.{option_map, option_map_or}
use Rattle.std.specs.List.{list_any}
use Rattle.std.proofs.lemmas.Bool.{eq-eqb, eqb-true, lt-ltb, ne_eqb, or_parts}
use Rattle.blob_words.specs.declared.counted.Counted.TheVariants as counted
use Rattle.blob_words.specs.declared.number.ReaderId.{ReaderId}
use Rattle.blob_words.specs.declared.number.RendererId.{RendererId}
use Rattle.session_script.specs.declared.event.Event.TheVariants as events
use Rattle.answer_text.specs.declared.refusal.Refusal.{Refusal}
use Rattle.answer_text.specs.declared.refusal.Refusal.TheVariants as refusals
use Rattle.data_handles.specs.Table.{Table as HandleTable}
use Rattle.file_table.specs.Files.{fault_of, note_of, state_of}
use Rattle.file_table.specs.Files.{recorded as noted_state}
use Rattle.file_table.specs.declared.fault.NoteFault.{NoteFault}
use Rattle.file_table.specs.declared.fault.NoteFault.TheVariants as notes
use Rattle.file_table.specs.declared.file_note.FileNote.{FileNote}
use Rattle.model_bridges.specs.Bridges.{state_as}
use Rattle.page_disk.specs.declared.change.Change.{Change}
use Rattle.renderer_table.specs.Table.{count_of, living_of, pass_fault}
use Rattle.renderer_table.specs.declared.fault.PassFault.{PassFault}
use Rattle.renderer_table.specs.declared.fault.PassFault.TheVariants as passes
use Rattle.renderer_table.specs.declared.living.Living.{Living}
use Rattle.url_store.specs.Urls.{own_url}
use Rattle.url_store.specs.declared.url.Url.{Url}
use Rattle.blob_model.specs.Choice.{first_that}
use Rattle.blob_model.specs.Entries.{Entry, entries, entry_at, owns_entry}
use Rattle.blob_model.specs.Handles.{has_handle}
use Rattle.blob_model.specs.History.{History}
use Rattle.blob_model.specs.Readers.{OpenReader}
use Rattle.blob_model.specs.Recorded.{file_names, FileState}
use Rattle.blob_model.specs.Refusals.{owns_reader, refusal}
use Rattle.blob_model.specs.Renderers.{is_alive, origin_of}
use Rattle.blob_model.specs.Session.{Session}
use Rattle.blob_model.proofs.Lists.{false_true}
use Rattle.store_laws.specs.Apart.{same_text, AreApartBy, AreUrlsApart}
use Rattle.store_laws.specs.Stands.{Between, Parts}
use Rattle.store_laws.specs.TableLaws.{open_at, owns, reader_refusal, renderer_refusal}
use Rattle.store_laws.specs.Tables.{url_of}
use Rattle.store_laws.proofs.LineRefusals.{alive_known}
use Rattle.store_laws.proofs.Tables.{equal_bytes, known, turned_bytes}

-- ---- tests in a row

-- a fault of the renderers as the refusal of a line that passes a handle on
abbrev pub pass_refusal : RendererId → ℕ → PassFault → Refusal
pass_refusal renderer name (passes.NoRenderer other) = refusals.NoRenderer other
pass_refusal renderer name passes.NoHandle = refusals.NoHandle renderer name
pass_refusal renderer name passes.NoMemory = refusals.NoHandle renderer name

pass_tests : (renderer to : RendererId) (name : ℕ) (giver taker : Option Living) (n : ℕ)
    → first_that ((not (is_some giver), refusals.NoRenderer renderer) ∷ (not (is_some taker), refusals.NoRenderer to)
    ∷ (not (nat_lt 0 n), refusals.NoHandle renderer name) ∷ [])
    ≡ option_map (pass_refusal renderer name) (if is_none giver then Some (passes.NoRenderer renderer) else if is_none taker then Some (passes.NoRenderer to)
    else if n == 0 then Some passes.NoHandle else None)
pass_tests renderer to name None taker n = refl
pass_tests renderer to name (Some one) None n = refl
pass_tests renderer to name (Some one) (Some other) zero = refl
pass_tests renderer to name (Some one) (Some other) (suc n) =
    ap (λ (b : Bool). first_that ((false, refusals.NoRenderer renderer) ∷ (false, refusals.NoRenderer to) ∷ (not b, refusals.NoHandle renderer name) ∷ []))
    (lt-ltb 0 (suc n) (omega arith))
    ∙ sym (ap (λ (b : Bool). option_map (pass_refusal renderer name) (cond b (Some passes.NoHandle) None))
    (ne_eqb (suc n) 0 (λ same. absurd (omega (arith, same)))))

renderer_tests : (renderer : RendererId) (held : Option Living)
    → first_that ((not (is_some held), refusals.NoRenderer renderer) ∷ []) ≡ (if is_none held then Some (refusals.NoRenderer renderer) else None)
renderer_tests renderer None = refl
renderer_tests renderer (Some one) = refl

reader_tests : (renderer : RendererId) (reader : ReaderId) (held : Option Living) (own : Bool)
    → first_that ((not (is_some held), refusals.NoRenderer renderer) ∷ (not own, refusals.NoReader reader) ∷ [])
    ≡ (if is_none held then Some (refusals.NoRenderer renderer) else if own then None else Some (refusals.NoReader reader))
reader_tests renderer reader None own = refl
reader_tests renderer reader (Some one) true = refl
reader_tests renderer reader (Some one) false = refl

-- a fault of the files as a refusal
abbrev pub file_refusal : NoteFault → Refusal
file_refusal (notes.StaleStamp last) = refusals.StaleStamp last
file_refusal notes.Full = refusals.TooMany counted.Files
file_refusal notes.NoMemory = refusals.TooMany counted.Files

abbrev last_of : Option FileNote → Option ℕ
last_of found = option_map (λ (note : FileNote). note.last) found

file_tests : (stamp many : ℕ) (found : Option FileNote)
    → first_that ((option_map_or (λ (last : ℕ). nat_le stamp last) (last_of found) false, refusals.StaleStamp (unwrap_or (last_of found) 0))
    ∷ (not (is_some found) && nat_le 16384 many, refusals.TooMany counted.Files) ∷ [])
    ≡ option_map file_refusal (fault_of stamp many found)
file_tests stamp many None = by (nat_le 16384 many)
  where
    by : (b : Bool) → first_that ((false, refusals.StaleStamp 0) ∷ (b, refusals.TooMany counted.Files) ∷ [])
        ≡ option_map file_refusal (cond b (Some notes.Full) None)
    by true = refl
    by false = refl
file_tests stamp many (Some note) = by (nat_le stamp note.last)
  where
    by : (b : Bool) → first_that ((b, refusals.StaleStamp note.last) ∷ (false, refusals.TooMany counted.Files) ∷ [])
        ≡ option_map file_refusal (cond b (Some (notes.StaleStamp note.last)) None)
    by true = refl
    by false = refl

-- ---- whose URL it is

-- the entry that was found is this renderer's
abbrev owned_by : ℕ → Option Entry → Bool
owned_by owner found = option_map_or (λ (entry : Entry). entry.owner == owner) found false

none_of : (owner : ℕ) (text : List ℕ) (list : List Entry) → list_any (λ (entry : Entry). bytes_eq text entry.text) list ≡ false
    → list_any (λ (entry : Entry). bytes_eq entry.text text && entry.owner == owner) list ≡ false
none_of owner text [] none = refl
none_of owner text (entry ∷ list) none =
    let parts = or_parts (bytes_eq text entry.text) (list_any (λ (one : Entry). bytes_eq text one.text) list) none in
    by (bytes_eq entry.text text) refl parts.0 (none_of owner text list parts.1)
  where
    by : (b : Bool) → bytes_eq entry.text text ≡ b → bytes_eq text entry.text ≡ false
        → list_any (λ (one : Entry). bytes_eq one.text text && one.owner == owner) list ≡ false
        → (b && (entry.owner == owner) || list_any (λ (one : Entry). bytes_eq one.text text && one.owner == owner) list) ≡ false
    by true at apart rest = absurd (false_true (sym apart ∙ turned_bytes entry.text text at))
    by false at apart rest = rest

-- where texts differ, the entry found is the only one of its text
owned_first : (owner : ℕ) (text : List ℕ) (list : List Entry) → AreApartBy same_text list
    → list_any (λ (entry : Entry). bytes_eq entry.text text && entry.owner == owner) list ≡ owned_by owner (entry_at list text)
owned_first owner text [] apart = refl
owned_first owner text (entry ∷ list) apart = by (bytes_eq entry.text text) refl (owned_first owner text list apart.1)
  where
    alone : (b : Bool) → b ≡ (b || false)
    alone true = refl
    alone false = refl

    by : (b : Bool) → bytes_eq entry.text text ≡ b
        → list_any (λ (one : Entry). bytes_eq one.text text && one.owner == owner) list ≡ owned_by owner (entry_at list text)
        → (b && (entry.owner == owner) || list_any (λ (one : Entry). bytes_eq one.text text && one.owner == owner) list)
        ≡ owned_by owner (cond b (Some entry) (entry_at list text))
    by true at rest =
        let none = none_of owner text list
        (subst (λ (front : List ℕ). list_any (λ (one : Entry). bytes_eq front one.text) list ≡ false) (equal_bytes entry.text text at) apart.0) in
        ap (λ (b : Bool). (entry.owner == owner) || b) none ∙ sym (alone (entry.owner == owner))
    by false at rest = rest

-- ---- lines

module _ (s : Session) (h : History) (stands : ℕ → Bool) (parts : Parts) (told : Option (List Change)) (table : HandleTable)
    (between : Between s h stands parts told table) where
  alive : (number : ℕ) → is_some (living_of number parts.renderers) ≡ is_alive h number
  alive number = alive_known s h stands parts told table between number

  pub pass_known : (renderer to : RendererId) (name : ℕ)
      → refusal s h (events.Pass renderer to name) ≡ option_map (pass_refusal renderer name) (pass_fault renderer to name parts.renderers)
  pass_known renderer to name =
      ap (λ (b : Bool). first_that ((not b, refusals.NoRenderer renderer) ∷ (not (is_alive h to.0), refusals.NoRenderer to)
      ∷ (not (has_handle h renderer.0 name), refusals.NoHandle renderer name) ∷ [])) (sym (alive renderer.0))
      ∙ ap (λ (b : Bool). first_that ((not (is_some (living_of renderer.0 parts.renderers)), refusals.NoRenderer renderer)
      ∷ (not b, refusals.NoRenderer to) ∷ (not (has_handle h renderer.0 name), refusals.NoHandle renderer name) ∷ [])) (sym (alive to.0))
      ∙ ap (λ (n : ℕ). first_that ((not (is_some (living_of renderer.0 parts.renderers)), refusals.NoRenderer renderer)
      ∷ (not (is_some (living_of to.0 parts.renderers)), refusals.NoRenderer to) ∷ (not (nat_lt 0 n), refusals.NoHandle renderer name) ∷ []))
      (sym (between.tables.renderers.counts renderer.0 name))
      ∙ pass_tests renderer to name (living_of renderer.0 parts.renderers) (living_of to.0 parts.renderers) (count_of renderer.0 name parts.renderers)

  renderer_known : (renderer : RendererId)
      → first_that ((not (is_alive h renderer.0), refusals.NoRenderer renderer) ∷ []) ≡ renderer_refusal renderer parts.renderers
  renderer_known renderer =
      ap (λ (b : Bool). first_that ((not b, refusals.NoRenderer renderer) ∷ [])) (sym (alive renderer.0))
      ∙ renderer_tests renderer (living_of renderer.0 parts.renderers)

  pub revoke_known : (renderer : RendererId) (text : List ℕ) → refusal s h (events.Revoke renderer text) ≡ renderer_refusal renderer parts.renderers
  revoke_known renderer text = renderer_known renderer

  pub die_known : (renderer : RendererId) → refusal s h (events.Die renderer) ≡ renderer_refusal renderer parts.renderers
  die_known renderer = renderer_known renderer

  pub cancel_known : (renderer : RendererId) (reader : ReaderId)
      → refusal s h (events.Cancel renderer reader) ≡ reader_refusal renderer reader parts.renderers parts.readers
  cancel_known renderer reader =
      ap (λ (b : Bool). first_that ((not b, refusals.NoRenderer renderer) ∷ (not (owns_reader s h renderer.0 reader.0), refusals.NoReader reader) ∷ []))
      (sym (alive renderer.0))
      ∙ ap (λ (found : Option OpenReader). first_that ((not (is_some (living_of renderer.0 parts.renderers)), refusals.NoRenderer renderer)
      ∷ (not (owns renderer found), refusals.NoReader reader) ∷ [])) (sym (between.tables.readers_stand.each reader.0))
      ∙ reader_tests renderer reader (living_of renderer.0 parts.renderers) (owns renderer (open_at reader.0 parts.readers))

  pub file_known : (name : List ℕ) (stamp : ℕ) (bytes : List ℕ)
      → refusal s h (events.File name stamp bytes) ≡ option_map file_refusal (fault_of stamp (length parts.files) (note_of name parts.files))
  file_known name stamp bytes =
      ap (λ (last : Option ℕ). first_that ((option_map_or (λ (one : ℕ). nat_le stamp one) last false, refusals.StaleStamp (unwrap_or last 0))
      ∷ (not (list_any (bytes_eq name) (file_names h)) && nat_le 16384 (length (file_names h)), refusals.TooMany counted.Files) ∷ []))
      (sym (between.tables.files_stand.stamps name))
      ∙ ap (λ (b : Bool). first_that ((
        option_map_or (λ (one : ℕ). nat_le stamp one) (last_of (note_of name parts.files)) false,
        refusals.StaleStamp (unwrap_or (last_of (note_of name parts.files)) 0),
      )
      ∷ (not b && nat_le 16384 (length (file_names h)), refusals.TooMany counted.Files) ∷ []))
      (sym (known h parts.files parts.files between.tables.files_stand name))
      ∙ ap (λ (n : ℕ). first_that ((
        option_map_or (λ (one : ℕ). nat_le stamp one) (last_of (note_of name parts.files)) false,
        refusals.StaleStamp (unwrap_or (last_of (note_of name parts.files)) 0),
      )
      ∷ (not (is_some (note_of name parts.files)) && nat_le 16384 n, refusals.TooMany counted.Files) ∷ [])) (sym between.tables.files_stand.many)
      ∙ file_tests stamp (length parts.files) (note_of name parts.files)

  -- nothing is recorded where the table has no content
  pub gone_refused : (name : List ℕ) → state_of name parts.files ≡ None → refusal s h (events.Gone name) ≡ Some refusals.NoFile
  gone_refused name none =
      ap (λ (state : Option FileState). first_that ((is_none state, refusals.NoFile) ∷ []))
      (sym (between.tables.files_stand.states name) ∙ by (note_of name parts.files) none)
    where
      empty : {X Y Z : Type 0} (f : X → Y) (g : X → Z) (found : Option X) → option_map f found ≡ None → option_map g found ≡ None
      empty f g None e = refl
      empty f g (Some x) e = absurd (cc e)

      by : (found : Option FileNote) → option_and_then noted_state found ≡ None → option_and_then state_as found ≡ None
      by None e = refl
      by (Some note) e =
          empty (λ (bytes : List ℕ). record { stamp = note.last; len = length bytes })
          (λ (bytes : List ℕ). record { stamp = note.last; bytes = bytes }) note.bytes e

  pub gone_accepted : (name : List ℕ) (note : FileNote) → note_of name parts.files ≡ Some note → is_some note.bytes ≡ true
      → refusal s h (events.Gone name) ≡ None
  gone_accepted name note there has =
      ap (λ (state : Option FileState). first_that ((is_none state, refusals.NoFile) ∷ []))
      (sym (between.tables.files_stand.states name) ∙ ap (option_and_then state_as) there) ∙ by note.bytes has
    where
      by : (bytes : Option (List ℕ)) → is_some bytes ≡ true
          → first_that ((is_none {T = FileState} (option_map (λ (one : List ℕ). record { stamp = note.last; bytes = one }) bytes), refusals.NoFile) ∷ []) ≡ None
      by None e = absurd (cc e)
      by (Some bytes) e = refl

  -- a renderer owns an entry with a text where it owns the URL
  pub owned_so : AreUrlsApart h → (renderer : RendererId) (text : List ℕ)
      → owns_entry h renderer.0 text ≡ is_some (own_url renderer.0 text parts.urls)
  owned_so apart renderer text =
      owned_first renderer.0 text (entries h) apart ∙ by (entry_at (entries h) text)
      ∙ sym (ap (λ (found : Option Url). is_some (option_and_then (λ (url : Url). if nat_eq renderer.0 url.owner.0 then Some url else None) found))
      (between.tables.urls_stand.each text))
    where
      one : (owner : ℕ) (entry : Entry) (b : Bool) → (owner == renderer.0) ≡ b → b ≡ is_some (cond (renderer.0 == owner) (Some entry) None)
      one owner entry true at = sym (ap (λ (b : Bool). is_some (cond b (Some entry) None)) (eq-eqb renderer.0 owner (sym (eqb-true owner renderer.0 at))))
      one owner entry false at = other (renderer.0 == owner) refl
        where
          other : (b : Bool) → (renderer.0 == owner) ≡ b → false ≡ is_some (cond b (Some entry) None)
          other true back = absurd (false_true (sym at ∙ eq-eqb owner renderer.0 (sym (eqb-true renderer.0 owner back))))
          other false back = refl

      by : (found : Option Entry) → owned_by renderer.0 found
          ≡ is_some (option_and_then (λ (url : Url). if nat_eq renderer.0 url.owner.0 then Some url else None) (option_map (url_of (origin_of h)) found))
      by None = refl
      by (Some entry) = done (url_of (origin_of h) entry)
        where
          done : (url : Url) → (entry.owner == renderer.0) ≡ is_some (cond (nat_eq renderer.0 entry.owner) (Some url) None)
          done url = same (nat_eq renderer.0 entry.owner) (one entry.owner entry (entry.owner == renderer.0) refl)
            where
              same : (b : Bool) → (entry.owner == renderer.0) ≡ is_some (cond b (Some entry) None)
                  → (entry.owner == renderer.0) ≡ is_some (cond b (Some url) None)
              same true e = e
              same false e = e
