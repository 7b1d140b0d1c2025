-- The parts stand for the history in which a renderer died.
use Rattle.std.proofs.Common.{◌≡◌, ℕ, ◌==◌, ◌&&◌, ◌||◌, not, Bool, true, false, List, length, filter, refl, ap, subst, sym, ◌∙◌, Option, Some, None, cond}
use Rattle.std.specs.Prelude.{bytes_eq, find, nat_eq, option_and_then, if◌then◌else◌}
use Rattle.std.specs.Option.{option_map, option_map_or}
use Rattle.std.specs.List.{list_any}
use Rattle.std.specs.Ordering.{nat_cmp}
use Rattle.std.specs.BTreeMap.{is_at}
use Rattle.std.proofs.lemmas.Bool.{eq-eqb, eqb-true}
use Rattle.blob_words.specs.declared.number.RendererId.{RendererId}
use Rattle.session_script.specs.declared.event.Event.TheVariants as events
use Rattle.answer_text.specs.declared.answer.Answer.TheVariants as answers
use Rattle.blob_entries.specs.Book.{Book}
use Rattle.data_handles.specs.Table.{Table as HandleTable}
use Rattle.page_disk.specs.declared.change.Change.{Change}
use Rattle.renderer_table.specs.Counted.{origin_at}
use Rattle.renderer_table.specs.Table.{Table}
use Rattle.url_store.specs.declared.url.Url.{Url}
use Rattle.blob_model.specs.Entries.{Entry, entries, entry_at}
use Rattle.blob_model.specs.Handles.{count}
use Rattle.blob_model.specs.History.{History, heard}
use Rattle.blob_model.specs.Readers.{OpenReader, readers}
use Rattle.blob_model.specs.Renderers.{is_alive, is_dead, is_spawned, origin_of, spawned}
use Rattle.blob_model.specs.Session.{Session, page_limit}
use Rattle.blob_model.proofs.Lists.{false_true, for_each}
use Rattle.store_laws.specs.Apart.{same_number, same_text, AreApartBy, AreReadersApart, AreUrlsApart}
use Rattle.store_laws.specs.LineLaws.{counted, AreUnmarked}
use Rattle.store_laws.specs.Roots.{AreRerooted}
use Rattle.store_laws.specs.Stands.{Between, Parts}
use Rattle.store_laws.specs.TableLaws.{no_reader, no_url, one_reader, one_url, Departs, ReadersGo, ReadersLeave, UrlsGo, UrlsLeave}
use Rattle.store_laws.specs.Tables.{url_of, ReadersStand, RenderersStand, UrlsStand}
use Rattle.store_laws.proofs.Alike.{between_alike}
use Rattle.store_laws.proofs.Apart.{all_of_kind, apart_filter, each_found, gone_twice, none_of_kind}
use Rattle.store_laws.proofs.Rerooted.{between_rerooted}
use Rattle.store_laws.proofs.Tables.{has_number, has_text, joined_bytes, reader_goes, same_bytes, some_found, url_goes}

abbrev Urls : Type 0
Urls = List (List ℕ × Url)

abbrev Open : Type 0
Open = List (ℕ × OpenReader)

pub turned : (a b : ℕ) → (a == b) ≡ false → (b == a) ≡ false
turned a b apart = by (b == a) refl
  where
    by : (c : Bool) → (b == a) ≡ c → c ≡ false
    by true at = absurd (false_true (sym apart ∙ eq-eqb a b (sym (eqb-true b a at))))
    by false at = refl

-- ---- URLs

abbrev other_entries : ℕ → List Entry → List Entry
other_entries owner list = filter (λ (entry : Entry). not (entry.owner == owner)) list

-- of the entries these are left, and of those that aren't the owner's all
record UrlsLeft (owner : ℕ) (origin : ℕ → List ℕ) (list : List Entry) (urls : Urls) : Type 0 where
  left : List Entry
  stand : UrlsStand left origin urls
  apart : AreApartBy same_text left
  same : other_entries owner left ≡ other_entries owner list

module _ (origin : ℕ → List ℕ) (list : List Entry) where
  urls_left : (owner : ℕ) (old new : Urls) → UrlsGo owner old new → UrlsStand list origin old → AreApartBy same_text list → UrlsLeft owner origin list new
  urls_left whose before after (no_url owner urls) stand apart = record { left = list; stand = stand; apart = apart; same = refl }
  urls_left whose first last (one_url owner blob old next new went goes) stand apart =
      let before = urls_left owner old next went stand apart in
      let found = some_found (url_of origin) (entry_at before.left goes.text) goes.url (sym (before.stand.each goes.text) ∙ goes.there) in
      let whose : Some (url_of origin found.0) ≡ Some goes.url =
      sym (ap (option_map (url_of origin)) found.1) ∙ sym (before.stand.each goes.text) ∙ goes.there in
      let url_is : url_of origin found.0 ≡ goes.url = cc in
      let own : (found.0.owner == owner) ≡ true = eq-eqb found.0.owner owner (ap (λ (url : Url). url.owner.0) url_is ∙ goes.own) in
      let all = all_of_kind same_text (has_text goes.text) (λ (entry : Entry). entry.owner == owner)
      (λ one other. joined_bytes one.text other.text goes.text) before.left found.0 before.apart found.1 own in
      record {
        left = filter (λ (entry : Entry). not (bytes_eq entry.text goes.text)) before.left;
        stand = url_goes before.left origin next new before.stand before.apart goes.text goes.url goes.there goes.goes;
        apart = apart_filter same_text (λ (entry : Entry). not (bytes_eq entry.text goes.text)) before.left before.apart;
        same = gone_twice (has_text goes.text) (λ (entry : Entry). entry.owner == owner) before.left all ∙ before.same;
      }

  urls_leave : (owner : ℕ) (old new : Urls) → UrlsLeave owner old new → UrlsStand list origin old → AreApartBy same_text list
      → UrlsStand (other_entries owner list) origin new
  urls_leave owner old new leave stand apart =
      let end = urls_left owner old new leave.went stand apart in
      let none = none_of_kind (λ (entry : Entry). entry.owner == owner) end.left
      (for_each (λ (entry : Entry). entry_at end.left entry.text ≡ Some entry) (λ (entry : Entry). (entry.owner == owner) ≡ false) end.left
      (λ entry at. turned owner entry.owner
      (by entry (nat_eq owner entry.owner) refl
      (sym (ap (λ (held : Option Url). option_and_then (λ (url : Url). if nat_eq owner url.owner.0 then Some url else None) held)
      (end.stand.each entry.text ∙ ap (option_map (url_of origin)) at))
      ∙ leave.none_left entry.text)))
      (each_found same_text (λ entry. same_bytes entry.text) end.left end.apart)) in
      subst (λ (left : List Entry). UrlsStand left origin new) (sym none ∙ end.same) end.stand
    where
      by : (entry : Entry) (b : Bool) → nat_eq owner entry.owner ≡ b → cond b (Some (url_of origin entry)) None ≡ None → b ≡ false
      by entry true at e = absurd (cc e)
      by entry false at e = refl

-- ---- readers

abbrev other_readers : ℕ → List OpenReader → List OpenReader
other_readers owner list = filter (λ (reader : OpenReader). not (reader.owner == owner)) list

record ReadersLeft (owner : ℕ) (list : List OpenReader) (open_readers : Open) : Type 0 where
  left : List OpenReader
  stand : ReadersStand left open_readers
  apart : AreApartBy same_number left
  same : other_readers owner left ≡ other_readers owner list

module _ (list : List OpenReader) where
  joined : (number one other : ℕ) → (one == number) ≡ true → (other == number) ≡ true → (one == other) ≡ true
  joined number one other a b = eq-eqb one other (eqb-true one number a ∙ sym (eqb-true other number b))

  readers_left : (owner : ℕ) (old new : Open) → ReadersGo owner old new → ReadersStand list old → AreApartBy same_number list → ReadersLeft owner list new
  readers_left whose before after (no_reader owner same) stand apart = record { left = list; stand = stand; apart = apart; same = refl }
  readers_left whose first last (one_reader owner old next new went goes) stand apart =
      let before = readers_left owner old next went stand apart in
      let own : (goes.reader.owner == owner) ≡ true = eq-eqb goes.reader.owner owner goes.own in
      let all = all_of_kind same_number (has_number goes.number) (λ (reader : OpenReader). reader.owner == owner)
      (λ one other. joined goes.number one.number other.number) before.left goes.reader before.apart
      (sym (before.stand.each goes.number) ∙ goes.there) own in
      record {
        left = filter (λ (reader : OpenReader). not (reader.number == goes.number)) before.left;
        stand = reader_goes before.left next new before.stand before.apart goes.number goes.goes;
        apart = apart_filter same_number (λ (reader : OpenReader). not (reader.number == goes.number)) before.left before.apart;
        same = gone_twice (has_number goes.number) (λ (reader : OpenReader). reader.owner == owner) before.left all ∙ before.same;
      }

  readers_leave : (owner : ℕ) (old new : Open) → ReadersLeave owner old new → ReadersStand list old → AreApartBy same_number list
      → ReadersStand (other_readers owner list) new
  readers_leave owner old new leave stand apart =
      let end = readers_left owner old new leave.went stand apart in
      let none = none_of_kind (λ (reader : OpenReader). reader.owner == owner) end.left
      (for_each (λ (reader : OpenReader). find (λ (one : OpenReader). one.number == reader.number) end.left ≡ Some reader)
      (λ (reader : OpenReader). (reader.owner == owner) ≡ false) end.left
      (λ reader at. sym (ap (λ (held : Option OpenReader). option_map_or (λ (one : OpenReader). one.owner == owner) held false)
      (end.stand.each reader.number ∙ at))
      ∙ leave.none_left reader.number)
      (each_found same_number (λ reader. eq-eqb reader.number reader.number refl) end.left end.apart)) in
      subst (λ (left : List OpenReader). ReadersStand left new) (sym none ∙ end.same) end.stand

-- ---- handles

departed_stand : (h : History) (renderer : RendererId) (old new : Table) → RenderersStand (spawned h) (is_alive h) (origin_of h) (count h) old
    → Departs renderer.0 old new
    → RenderersStand (spawned h) (is_alive (heard h (events.Die renderer) answers.Good)) (origin_of h) (count (heard h (events.Die renderer) answers.Good)) new
departed_stand h renderer old new stand departs = record {
  spawned = λ number. ap (λ (list : List ℕ). list_any (is_at (nat_cmp number)) list) departs.spawned ∙ stand.spawned number;
  many = ap (λ (list : List ℕ). length list) departs.spawned ∙ stand.many;
  living = λ number. departs.origins number ∙ by number (renderer.0 == number) (is_spawned h number) refl;
  counts = λ number blob. departs.counts number blob ∙ ap (λ (n : ℕ). cond (renderer.0 == number) 0 n) (stand.counts number blob);
}
  where
    by : (number : ℕ) (gone known : Bool) → is_spawned h number ≡ known
        → cond gone None (origin_at number old) ≡ cond (known && not (gone || is_dead h number)) (Some (origin_of h number)) None
    by number true true at = refl
    by number true false at = refl
    by number false known at =
        stand.living number ∙ ap (λ (b : Bool). cond {A = Option (List ℕ)} (b && not (is_dead h number)) (Some (origin_of h number)) None) at

-- ---- all parts

pub dying : (s : Session) (h : History) (stands : ℕ → Bool) (parts : Parts) (told : Option (List Change)) (table : HandleTable)
    → AreUnmarked parts.book.entries → Between s h stands parts told table → AreUrlsApart h → AreReadersApart (page_limit s) h
    → (renderer : RendererId) (book : Book) (renderers : Table) (urls : Urls) (open_readers : Open) → AreRerooted parts.book book
    → Departs renderer.0 parts.renderers renderers → UrlsLeave renderer.0 parts.urls urls → ReadersLeave renderer.0 parts.readers open_readers
    → Between s (heard h (events.Die renderer) answers.Good) stands
    (counted (record parts { book = book; renderers = renderers; urls = urls; readers = open_readers })) told table
dying s h stands parts told table unmarked between urls_apart readers_apart renderer book renderers urls open_readers same departs urls_go readers_go =
    let later = heard h (events.Die renderer) answers.Good in
    between_rerooted s later stands (counted (record parts { renderers = renderers; urls = urls; readers = open_readers })) told table book same
    (between_alike s h later refl stands parts told table unmarked between renderers urls parts.files open_readers (record {
      renderers = departed_stand h renderer parts.renderers renderers between.tables.renderers departs;
      urls_stand = urls_leave (origin_of h) (entries h) renderer.0 parts.urls urls urls_go between.tables.urls_stand urls_apart;
      files_stand = between.tables.files_stand;
      readers_stand = readers_leave (readers (page_limit s) h) renderer.0 parts.readers open_readers readers_go between.tables.readers_stand readers_apart;
    }) refl)
