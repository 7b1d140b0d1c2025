-- An entry has a root exactly where its blob is rooted: handles, URLs and readers of it are those of the history.
use Rattle.std.proofs.Common.{◌≡◌, ℕ, suc, ◌+◌, ◌≤◌, ◌==◌, ◌||◌, Bool, true, false, not, cond, List, [], ◌∷◌, map, refl, ap, sym, subst, ◌∙◌, Option, Some, None, arith}
use Rattle.std.specs.Prelude.{bytes_eq, find, nat_lt, option_and_then, unwrap_or}
use Rattle.std.specs.BTreeMap.{is_at}
use Rattle.std.specs.Cmp.{unsigned_tied}
use Rattle.std.specs.List.{list_any}
use Rattle.std.specs.Map.{keys_of, lookup}
use Rattle.std.specs.Option.{option_map, option_map_or}
use Rattle.std.specs.Ordering.{nat_cmp}
use Rattle.std.proofs.lemmas.Bool.{eq-eqb, eqb-true, lt-ltb, ltb-true}
use Rattle.std.proofs.lemmas.Cmp.{eq_by_cmp_equiv, nat_cmp_total}
use Rattle.std.proofs.lemmas.Map.Entries.{lookup_from_place, sum_by-remove_entry}
use Rattle.std.proofs.lemmas.Map.Keys.{IsDistinct-from_sorted}
use Rattle.blob_entries.specs.Book.{entry_at}
use Rattle.blob_entries.specs.Names.{number_of}
use Rattle.blob_entries.specs.declared.entry.Entry.{Entry}
use Rattle.data_handles.specs.Table.{Table as HandleTable}
use Rattle.page_disk.specs.declared.change.Change.{Change}
use Rattle.renderer_table.specs.Counts.{count_on}
use Rattle.renderer_table.specs.Table.{Table, count_of, living_of}
use Rattle.renderer_table.specs.declared.living.Living.{Living}
use Rattle.url_store.specs.Urls.{url_at}
use Rattle.url_store.specs.declared.url.Url.{Url}
use Rattle.blob_model.specs.Builds.{Build, builds}
use Rattle.blob_model.specs.Entries.{Entry as UrlEntry, entries as url_entries, entry_at as url_entry_at, is_named}
use Rattle.blob_model.specs.Handles.{count, has_handle, is_held}
use Rattle.blob_model.specs.History.{History}
use Rattle.blob_model.specs.Live.{is_rooted}
use Rattle.blob_model.specs.Order.{named, Distinct}
use Rattle.blob_model.specs.Readers.{OpenReader, is_read, readers}
use Rattle.blob_model.specs.Renderers.{Renderer, is_alive, origin_of, spawned}
use Rattle.blob_model.specs.Session.{Session, page_limit}
use Rattle.blob_model.proofs.Lists.{any_up, false_true, for_each, or_first, or_second}
use Rattle.blob_model.proofs.live.Roots.{alive_spawned, holder_of}
use Rattle.registry_laws.specs.Agree.{Beside}
use Rattle.store_laws.specs.AgreeLaws.{IsRootedAs}
use Rattle.store_laws.specs.Apart.{same_number, same_text, AreApartBy, AreReadersApart, AreUrlsApart}
use Rattle.store_laws.specs.Rooted.{handles_of, leads, reads, readers_of, roots_at, urls_of, AreInOrder, AreRooted}
use Rattle.store_laws.specs.Stands.{Between, Parts}
use Rattle.store_laws.specs.Tables.{url_of, ReadersStand, RenderersStand, UrlsStand}
use Rattle.store_laws.proofs.Apart.{each_found}
use Rattle.store_laws.proofs.PairedSums.{some_place, sum_paired, told_above, told_any, told_either, IsTold}
use Rattle.store_laws.proofs.Tables.{equal_bytes, same_bytes}

-- ---- handles

pub on_held : (name : ℕ) (held : Option Living)
    → count_on name (option_map_or (λ (one : Living). one.counts) held []) ≡ unwrap_or (option_map (λ (one : Living). count_on name one.counts) held) 0
on_held name None = refl
on_held name (Some one) = refl

pub within_handles : (id name : ℕ) (table : Table) → count_of id name table ≤ handles_of name table
within_handles id name table =
    let sums = sum_by-remove_entry (λ (one : Living). count_on name one.counts) (is_at (nat_cmp id)) table.living in
    omega (arith, sums, on_held name (living_of id table))

module _ (h : History) (table : Table) (stand : RenderersStand (spawned h) (is_alive h) (origin_of h) (count h) table) (name : ℕ) where
  -- a living renderer was spawned
  living_spawned : (k : ℕ) (one : Living) → living_of k table ≡ Some one → list_any (λ (renderer : Renderer). renderer.number == k) (spawned h) ≡ true
  living_spawned k one at =
      alive_spawned h k
      (by (is_alive h k) refl (sym (ap (option_map (λ (each : Living). each.origin)) at) ∙ stand.living k))
    where
      by : (b : Bool) → is_alive h k ≡ b → Some one.origin ≡ cond b (Some (origin_of h k)) None → not (is_alive h k) ≡ false
      by true is same = ap not is
      by false is same = absurd (cc same)

  pub told_held : AreInOrder table → IsTold (is_held h name) (handles_of name table)
  told_held ordered = record {
    some = λ held.
        let who = holder_of h name held in
        let few = ltb-true 0 (count h who.0.number name) who.1 in
        omega (arith, few, stand.counts who.0.number name, within_handles who.0.number name table);
    passes = λ some.
        let place = some_place (λ (one : Living). count_on name one.counts) table.living some in
        let k : ℕ = place.1 in
        let one : Living = place.2 in
        let at : living_of k table ≡ Some one =
        lookup_from_place (eq_by_cmp_equiv nat_cmp_total) table.living place.0 k one (IsDistinct-from_sorted nat_cmp (keys_of table.living) ordered)
        place.3 in
        let mine : count_of k name table ≡ count_on name one.counts =
        ap (λ (held : Option Living). count_on name (option_map_or (λ (each : Living). each.counts) held [])) at in
        let few = place.4 in
        let has : has_handle h k name ≡ true =
        lt-ltb 0 (count h k name) (omega (arith, mine, few, stand.counts k name)) in
        any_up (λ (renderer : Renderer). renderer.number == k) (λ (renderer : Renderer). has_handle h renderer.number name) (spawned h)
        (λ renderer is. subst (λ (n : ℕ). has_handle h n name ≡ true) (sym (eqb-true renderer.number k is)) has)
        (living_spawned k one at);
  }

-- ---- URLs

module _ (list : List UrlEntry) (origin : ℕ → List ℕ) (urls : List (List ℕ × Url)) (stand : UrlsStand list origin urls) (name : ℕ) where
  joined_texts : (x y : UrlEntry) (text : List ℕ) → bytes_eq x.text text ≡ true → bytes_eq y.text text ≡ true → same_text x y ≡ true
  joined_texts x y text one other = subst (λ (t : List ℕ). bytes_eq x.text t ≡ true) (sym (equal_bytes y.text text other)) one

  pub told_named : AreApartBy same_text list → IsTold (list_any (λ (entry : UrlEntry). entry.blob == name) list) (urls_of name urls)
  told_named apart =
      let sums = sum_paired same_text (λ (entry : UrlEntry). bytes_eq entry.text) joined_texts (url_of origin) (leads name) list urls apart
      (for_each (λ (entry : UrlEntry). url_entry_at list entry.text ≡ Some entry)
      (λ (entry : UrlEntry). url_at entry.text urls ≡ Some (url_of origin entry)) list
      (λ entry found. stand.each entry.text ∙ ap (option_map (url_of origin)) found)
      (each_found same_text (λ entry. same_bytes entry.text) list apart))
      stand.many in
      subst (IsTold (list_any (λ (entry : UrlEntry). entry.blob == name) list)) (sym sums) (told_any (λ (entry : UrlEntry). entry.blob == name) list)

-- ---- readers

module _ (list : List OpenReader) (open_readers : List (ℕ × OpenReader)) (stand : ReadersStand list open_readers) (name : ℕ) where
  joined_numbers : (x y : OpenReader) (k : ℕ) → is_at (nat_cmp x.number) k ≡ true → is_at (nat_cmp y.number) k ≡ true → same_number x y ≡ true
  joined_numbers x y k one other =
      eq-eqb x.number y.number
      (eqb-true x.number k (sym (unsigned_tied x.number k) ∙ one) ∙ sym (eqb-true y.number k (sym (unsigned_tied y.number k) ∙ other)))

  pub told_read : AreApartBy same_number list → IsTold (list_any (λ (reader : OpenReader). reader.blob == name) list) (readers_of name open_readers)
  told_read apart =
      let sums = sum_paired same_number (λ (reader : OpenReader). is_at (nat_cmp reader.number)) joined_numbers (λ (reader : OpenReader). reader) (reads name)
      list open_readers apart
      (for_each (λ (reader : OpenReader). find (λ (one : OpenReader). one.number == reader.number) list ≡ Some reader)
      (λ (reader : OpenReader). lookup (is_at (nat_cmp reader.number)) open_readers ≡ Some reader) list
      (λ reader found. stand.each reader.number ∙ found)
      (each_found same_number (λ reader. eq-eqb reader.number reader.number refl) list apart))
      stand.many in
      subst (IsTold (list_any (λ (reader : OpenReader). reader.blob == name) list)) (sym sums) (told_any (λ (reader : OpenReader). reader.blob == name) list)

-- ---- entries

-- what stands under a name, beside the blobs
abbrev found_at : List Build → List (Option Entry) → ℕ → Option Entry
found_at list entries name = option_and_then (entry_at entries) (number_of name (map (λ (build : Build). build.name) list))

abbrev later_in : List Build → ℕ → Option ℕ
later_in list name = option_map (λ (number : ℕ). number + 1) (number_of name (map (λ (build : Build). build.name) list))

abbrev roots_of : Option Entry → ℕ
roots_of held = option_map_or (λ (entry : Entry). entry.roots) held 0

module _ (page : ℕ) (h : History) where
  here : (build : Build) (held : Option Entry) → nat_lt 0 (roots_of held) ≡ is_rooted page h build.name → IsRootedAs page h build held
  here build None is = tt
  here build (Some entry) is = is

  found_first : (build : Build) (list : List Build) (held : Option Entry) (entries : List (Option Entry))
      → found_at (build ∷ list) (held ∷ entries) build.name ≡ held
  found_first build list held entries =
      ap (λ (b : Bool). option_and_then (entry_at (held ∷ entries))
      (cond b (Some 0) (option_map (λ (number : ℕ). number + 1) (number_of build.name (map (λ (one : Build). one.name) list)))))
      (eq-eqb build.name build.name refl)

  found_later : (name : ℕ) (build : Build) (list : List Build) (held : Option Entry) (entries : List (Option Entry)) → named build.name list ≡ false
      → named name list ≡ true → found_at (build ∷ list) (held ∷ entries) name ≡ found_at list entries name
  found_later name build list held entries fresh there =
      by (name == build.name) refl ∙ next (number_of name (map (λ (one : Build). one.name) list))
    where
      by : (b : Bool) → (name == build.name) ≡ b
          → option_and_then (entry_at (held ∷ entries)) (cond (name == build.name) (Some 0) (later_in list name))
          ≡ option_and_then (entry_at (held ∷ entries)) (later_in list name)
      by true is =
          absurd (false_true (sym fresh ∙ subst (λ (n : ℕ). named n list ≡ true) (eqb-true name build.name is) there))
      by false is = ap (λ (b : Bool). option_and_then (entry_at (held ∷ entries)) (cond b (Some 0) (later_in list name))) is

      next : (found : Option ℕ) → option_and_then (entry_at (held ∷ entries)) (option_map (λ (number : ℕ). number + 1) found)
          ≡ option_and_then (entry_at entries) found
      next None = refl
      next (Some number) =
          let later : number + 1 ≡ suc number = omega arith in ap (entry_at (held ∷ entries)) later

  each_rooted : (P : Build → Option Entry → Type 0) (list : List Build) (entries : List (Option Entry)) → Distinct list → Beside P list entries
      → ((name : ℕ) → named name list ≡ true → nat_lt 0 (roots_of (found_at list entries name)) ≡ is_rooted page h name)
      → Beside (IsRootedAs page h) list entries
  each_rooted P [] [] distinct beside told = tt
  each_rooted P [] (held ∷ entries) distinct beside told = absurd beside
  each_rooted P (build ∷ list) [] distinct beside told = absurd beside
  each_rooted P (build ∷ list) (held ∷ entries) distinct beside told = (
    here build held
        (sym (ap (λ (one : Option Entry). nat_lt 0 (roots_of one)) (found_first build list held entries))
        ∙ told build.name (or_first (build.name == build.name) (named build.name list) (eq-eqb build.name build.name refl))),
    each_rooted P list entries distinct.1 beside.1
        (λ name there.
        sym (ap (λ (one : Option Entry). nat_lt 0 (roots_of one)) (found_later name build list held entries distinct.0 there))
        ∙ told name (or_second (build.name == name) (named name list) there)),
  )

module _ (s : Session) (h : History) (stands : ℕ → Bool) (parts : Parts) (told : Option (List Change)) (table : HandleTable)
    (between : Between s h stands parts told table) (urls_apart : AreUrlsApart h) (readers_apart : AreReadersApart (page_limit s) h)
    (ordered : AreInOrder parts.renderers) (rooted : AreRooted parts) where
  root_told : (name : ℕ) → nat_lt 0 (roots_at parts.book name) ≡ is_rooted (page_limit s) h name
  root_told name =
      ap (nat_lt 0) (rooted name)
      ∙ told_above (is_rooted (page_limit s) h name)
      (handles_of name parts.renderers + urls_of name parts.urls + readers_of name parts.readers)
      (all_three (is_held h name) (is_named h name) (is_read (page_limit s) h name)
      (told_held h parts.renderers between.tables.renderers name ordered)
      (told_named (url_entries h) (origin_of h) parts.urls between.tables.urls_stand name urls_apart)
      (told_read (readers (page_limit s) h) parts.readers between.tables.readers_stand name readers_apart))
    where
      all_three : (a b c : Bool) → IsTold a (handles_of name parts.renderers) → IsTold b (urls_of name parts.urls) → IsTold c (readers_of name parts.readers)
          → IsTold (a || b || c) (handles_of name parts.renderers + urls_of name parts.urls + readers_of name parts.readers)
      all_three a b c one two three =
          told_either (a || b) c (handles_of name parts.renderers + urls_of name parts.urls) (readers_of name parts.readers)
          (told_either a b (handles_of name parts.renderers) (urls_of name parts.urls) one two) three

  pub roots_agree : Distinct (builds (page_limit s) h) → Beside (IsRootedAs (page_limit s) h) (builds (page_limit s) h) parts.book.entries
  roots_agree distinct =
      each_rooted (page_limit s) h _ (builds (page_limit s) h) parts.book.entries distinct between.contents.entries.each
      (λ name there.
      sym (ap (λ (names : List ℕ). nat_lt 0 (roots_of (option_and_then (entry_at parts.book.entries) (number_of name names)))) between.contents.names)
      ∙ root_told name)
