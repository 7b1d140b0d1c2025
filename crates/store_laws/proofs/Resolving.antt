-- What a URL leads to, as the table of URLs and as the history tell.
use Rattle.std.proofs.Common.{◌≡◌, ℕ, ◌==◌, ◌&&◌, not, Bool, true, false, List, [], ◌∷◌, length, take, refl, ap, subst, sym, ◌∙◌, Option, Some, None, cond}
use Rattle.std.specs.Prelude.{bytes_eq, find, nat_lt, option_and_then, if◌then◌else◌}
use Rattle.std.specs.Option.{option_map, option_map_or}
use Rattle.std.specs.List.{list_any, prefix_len}
use Rattle.std.proofs.lemmas.Bool.{ltb-false, or_parts}
use Rattle.std.proofs.lemmas.List.{take_all}
use Rattle.data_handles.specs.Table.{Table as HandleTable}
use Rattle.page_disk.specs.declared.change.Change.{Change}
use Rattle.url_store.specs.Urls.{without_fragment}
use Rattle.url_store.specs.Urls.{resolved as led_to}
use Rattle.url_store.specs.declared.url.Url.{Url}
use Rattle.blob_model.specs.Entries.{Entry, before_fragment, entries, entry_at, resolved}
use Rattle.blob_model.specs.History.{History}
use Rattle.blob_model.specs.Renderers.{origin_of}
use Rattle.blob_model.specs.Session.{Session}
use Rattle.blob_model.proofs.Lists.{false_true}
use Rattle.store_laws.specs.Apart.{same_text, AreApartBy, AreUrlsApart}
use Rattle.store_laws.specs.Stands.{Between, Parts}
use Rattle.store_laws.specs.Tables.{url_of}
use Rattle.store_laws.proofs.Tables.{equal_bytes, turned_bytes}

-- ---- fragments

-- a text up to its first `#`
fragment_less : (text : List ℕ) → without_fragment text ≡ before_fragment text
fragment_less text = by (nat_lt front (length text)) refl
  where
    front : ℕ
    front = prefix_len (λ (byte : ℕ). not (byte == 0x23)) text

    by : (b : Bool) → nat_lt front (length text) ≡ b
        → option_map_or (λ (place : ℕ). take place text) (cond {A = Option ℕ} b (Some front) None) text ≡ take front text
    by true at = refl
    by false at = sym (take_all front text (ltb-false front (length text) at))

-- ---- the first of a text

module _ (q : Entry → Bool) where
  -- where no text equals this one
  none_such : (text : List ℕ) (list : List Entry) → list_any (λ (entry : Entry). bytes_eq text entry.text) list ≡ false
      → find (λ (entry : Entry). bytes_eq entry.text text && q entry) list ≡ None
  none_such text [] none = refl
  none_such text (entry ∷ list) none =
      let parts = or_parts (bytes_eq text entry.text) (list_any (λ (one : Entry). bytes_eq text one.text) list) none in
      by (bytes_eq entry.text text) refl parts.0 (none_such text list parts.1)
    where
      by : (b : Bool) → bytes_eq entry.text text ≡ b → bytes_eq text entry.text ≡ false
          → find (λ (one : Entry). bytes_eq one.text text && q one) list ≡ None
          → cond (b && q entry) (Some entry) (find (λ (one : Entry). bytes_eq one.text text && q one) list) ≡ None
      by true at apart rest = absurd (false_true (sym apart ∙ turned_bytes entry.text text at))
      by false at apart rest = rest

  -- where texts differ, the first of a text that passes is the one of the text, where it passes
  first_such : (text : List ℕ) (list : List Entry) → AreApartBy same_text list
      → find (λ (entry : Entry). bytes_eq entry.text text && q entry) list
      ≡ option_and_then (λ (entry : Entry). cond {A = Option Entry} (q entry) (Some entry) None) (entry_at list text)
  first_such text [] apart = refl
  first_such text (entry ∷ list) apart = by (bytes_eq entry.text text) refl (first_such text list apart.1)
    where
      by : (b : Bool) → bytes_eq entry.text text ≡ b
          → find (λ (one : Entry). bytes_eq one.text text && q one) list
          ≡ option_and_then (λ (one : Entry). cond {A = Option Entry} (q one) (Some one) None) (entry_at list text)
          → cond (b && q entry) (Some entry) (find (λ (one : Entry). bytes_eq one.text text && q one) list)
          ≡ option_and_then (λ (one : Entry). cond {A = Option Entry} (q one) (Some one) None) (cond b (Some entry) (entry_at list text))
      by true at rest =
          let none = none_such text list
          (subst (λ (front : List ℕ). list_any (λ (one : Entry). bytes_eq front one.text) list ≡ false) (equal_bytes entry.text text at) apart.0) in
          ap (λ (found : Option Entry). cond (q entry) (Some entry) found) none
      by false at rest = rest

-- ---- the tables

module _ (s : Session) (h : History) (stands : ℕ → Bool) (parts : Parts) (told : Option (List Change)) (table : HandleTable)
    (between : Between s h stands parts told table) where
  -- a URL leads a renderer's origin to the blob of the entry that it resolves to
  pub led_so : AreUrlsApart h → (renderer : ℕ) (text : List ℕ)
      → led_to (origin_of h renderer) text parts.urls ≡ option_map (λ (entry : Entry). entry.blob) (resolved h renderer text)
  led_so apart renderer text =
      ap (option_and_then mine) (between.tables.urls_stand.each (without_fragment text)
      ∙ ap (λ (front : List ℕ). option_map (url_of (origin_of h)) (entry_at (entries h) front)) (fragment_less text))
      ∙ by (entry_at (entries h) (before_fragment text))
      ∙ sym (ap (option_map (λ (entry : Entry). entry.blob)) (first_such own (before_fragment text) (entries h) apart))
    where
      mine : Url → Option ℕ
      mine url = if bytes_eq url.origin (origin_of h renderer) then Some url.blob else None

      own : Entry → Bool
      own entry = bytes_eq (origin_of h entry.owner) (origin_of h renderer)

      one : (entry : Entry) (b : Bool)
          → cond {A = Option ℕ} b (Some entry.blob) None ≡ option_map (λ (each : Entry). each.blob) (cond {A = Option Entry} b (Some entry) None)
      one entry true = refl
      one entry false = refl

      by : (found : Option Entry) → option_and_then mine (option_map (url_of (origin_of h)) found)
          ≡ option_map (λ (entry : Entry). entry.blob)
          (option_and_then (λ (entry : Entry). cond {A = Option Entry} (own entry) (Some entry) None) found)
      by None = refl
      by (Some entry) = one entry (own entry)
