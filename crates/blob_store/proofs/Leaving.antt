-- What a renderer has goes, one thing after the other: the parts agree after each.
use Rattle.std.proofs.Common.{◌≡◌, ℕ, ◌+◌, ◌-◌, ◌<◌, ◌≤◌, ◌==◌, ◌&&◌, Bool, true, cond, List, [], ◌∷◌, false, drop, length, map, Option, Some, None, refl, sym, ap, subst, ◌∙◌, arith}
use Rattle.std.specs.Prelude.{bytes_eq, is_some, slice_get, sum_by, IsSome, IsSomeAnd}
use Rattle.std.specs.Option.{option_map, option_map_or}
use Rattle.std.specs.List.{list_any}
use Rattle.std.specs.Ordering.{nat_cmp}
use Rattle.std.specs.BTreeMap.{is_at}
use Rattle.std.specs.Map.{lookup, remove_entry, set_value, values_of}
use Rattle.std.proofs.lemmas.Bool.{eq-eqb, eqb-true}
use Rattle.std.proofs.lemmas.Map.{length-set_value}
use Rattle.std.proofs.lemmas.Map.Entries.{sum_by-remove_entry}
use Rattle.blob_entries.specs.Book.{Book, changed, entry_of}
use Rattle.blob_entries.specs.Changes.{held_less}
use Rattle.blob_entries.specs.declared.entry.Entry.{Entry}
use Rattle.renderer_table.specs.Counted.{origin_at, ChangesCount, Dies}
use Rattle.renderer_table.specs.Counts.{count_on}
use Rattle.renderer_table.specs.Table.{Table, count_of, counts_of, living_of, was_spawned, with_counts}
use Rattle.renderer_table.specs.declared.living.Living.{Living}
use Rattle.url_store.specs.Changes.{GoesFrom}
use Rattle.url_store.specs.Urls.{own_url, owned_by, url_at, without, without_first}
use Rattle.url_store.specs.declared.url.Url.{Url}
use Rattle.store_laws.specs.Roots.{AreRerooted}
use Rattle.blob_model.specs.Readers.{OpenReader as ReaderSaid}
use Rattle.store_laws.specs.TableLaws.{open_at, ReaderGoesFrom, ReadersGo, ReadersLeave, UrlsGo, UrlsLeave}
use Rattle.store_laws.proofs.Rerooted.{changed_rerooted}
use Rattle.store_laws.proofs.Tables.{equal_bytes, same_bytes}
use Rattle.store_laws.proofs.Rooted.{on_held, within_handles}
use Rattle.blob_store.specs.declared.parts.Parts.{Parts}
use Rattle.blob_store.specs.declared.readers.OpenReader.{OpenReader}
use Rattle.blob_store.specs.Readers.{is_own, reader_at, ClosesFrom}
use Rattle.blob_store.specs.Roots.{handles_of, roots_at, roots_in}
use Rattle.blob_store.specs.Seen.{reader_of}
use Rattle.blob_store.specs.Holders.{IsUnlinked, IsUnread}
use Rattle.blob_store.specs.Whole.{Whole}
use Rattle.blob_store.proofs.HeardTables.{goes_seen, open_said, open_seen}
use Rattle.blob_store.proofs.Owning.{owned_dead, owned_same}
use Rattle.blob_store.proofs.Rerooted.{whole_same}
use Rattle.blob_store.proofs.Rerooting.{born_still, reader_roots, roots_fewer, stands_rooted, url_roots, whole_closed, whole_unnamed}
use Rattle.blob_store.proofs.Rooting.{counts_now, handles_moved, living_now}

abbrev Urls : Type 0
Urls = List (List ℕ × Url)

abbrev Open : Type 0
Open = List (ℕ × OpenReader)

-- other roots, and then others
pub rerooted_more : (old next new : Book) → AreRerooted old next → AreRerooted next new → AreRerooted old new
rerooted_more old next new first second = record { names = second.names ∙ first.names; entries = second.entries ∙ first.entries }

pub rerooted_by : (old book new : Book) (name : ℕ) → AreRerooted old book → new ≡ changed book name held_less → AreRerooted old new
rerooted_by old book new name first is =
    rerooted_more old book new first (subst (λ (one : Book). AreRerooted book one) (sym is) (changed_rerooted (λ (n : ℕ). n - 1) book name))

-- one root fewer, when some went
pub roots_by : (old book new : Book) (name count : ℕ)
    → ((other : ℕ) → roots_at book other ≡ cond (name == other) (roots_at old other - count) (roots_at old other))
    → new ≡ changed book name held_less
    → (other : ℕ) → roots_at new other ≡ cond (name == other) (roots_at old other - (count + 1)) (roots_at old other)
roots_by old book new name count roots is other =
    ap (λ (one : Book). roots_at one other) is ∙ roots_fewer book name 1 other ∙ by (name == other) (roots other)
  where
    by : (b : Bool) → roots_at book other ≡ cond b (roots_at old other - count) (roots_at old other)
        → cond b (roots_at book other - 1) (roots_at book other) ≡ cond b (roots_at old other - (count + 1)) (roots_at old other)
    by true root = omega (arith, root)
    by false root = root

-- ---- readers

-- a reader that went makes them fewer
pub fewer_open : (owner : ℕ) (reader : OpenReader) (old new : Open) → ClosesFrom owner reader old new → length new < length old
fewer_open owner reader old new from =
    let many = from.closes.many in
    let one = ap (λ (held : Option OpenReader). cond {A = ℕ} (is_some held) 1 0) from.there in
    omega (arith, many, one)

pub held_open : (parts : Parts) (owner : ℕ) (reader : OpenReader) (readers : Open) → Whole parts → ClosesFrom owner reader parts.readers readers
    → IsSomeAnd (entry_of parts.registry reader.blob) (λ (entry : Entry). 0 < entry.roots)
held_open parts owner reader readers whole from =
    stands_rooted parts.registry reader.blob (reader_roots parts from.number reader readers whole from.there from.closes)

-- none of a renderer's is left
pub none_open : (owner : ℕ) (readers : Open) → ((number : ℕ) → is_own owner (reader_at number readers) ≡ false) → (number : ℕ)
    → option_map_or (λ (reader : ReaderSaid). reader.owner == owner) (open_at number (map reader_of readers)) false ≡ false
none_open owner readers none number =
    ap (λ (found : Option ReaderSaid). option_map_or (λ (reader : ReaderSaid). reader.owner == owner) found false) (open_seen number readers)
    ∙ by (reader_at number readers) (none number)
  where
    by : (held : Option OpenReader) → is_own owner held ≡ false
        → option_map_or (λ (reader : ReaderSaid). reader.owner == owner) (option_map (open_said number) held) false ≡ false
    by None is = refl
    by (Some reader) is = is

pub readers_leave : (owner : ℕ) (first old new : Open) → ReadersGo owner (map reader_of first) (map reader_of old) → new ≡ old
    → ((number : ℕ) → is_own owner (reader_at number old) ≡ false) → ReadersLeave owner (map reader_of first) (map reader_of new)
readers_leave owner first old new went same none =
    subst (λ (readers : Open). ReadersLeave owner (map reader_of first) (map reader_of readers)) (sym same)
    (record { went = went; none_left = none_open owner old none })

pub left_seen : (owner : ℕ) (reader : OpenReader) (old new : Open) → ClosesFrom owner reader old new
    → ReaderGoesFrom owner (map reader_of old) (map reader_of new)
left_seen owner reader old new from = record {
  number = from.number;
  reader = open_said from.number reader;
  there = open_seen from.number old ∙ ap (option_map (open_said from.number)) from.there;
  own = from.own;
  goes = goes_seen from.number reader old new from.there from.closes;
}

pub whole_unread : (parts : Parts) (owner : ℕ) (reader : OpenReader) (readers : Open) → Whole parts → ClosesFrom owner reader parts.readers readers
    → Whole (record parts { registry = changed parts.registry reader.blob held_less; readers = readers })
whole_unread parts owner reader readers whole from = whole_closed parts from.number reader readers whole from.there from.closes

-- ---- URLs

found_others : (text other : List ℕ) (urls : Urls) → bytes_eq text other ≡ false → url_at text (without other urls) ≡ url_at text urls
found_others text other [] apart = refl
found_others text other (entry ∷ urls) apart = by (bytes_eq other entry.0) refl (found_others text other urls apart)
  where
    by : (b : Bool) → bytes_eq other entry.0 ≡ b → url_at text (without other urls) ≡ url_at text urls
        → url_at text (cond b urls (entry ∷ without other urls)) ≡ cond (bytes_eq text entry.0) (Some entry.1) (url_at text urls)
    by true at rest =
        let same : bytes_eq text entry.0 ≡ false = subst (λ (one : List ℕ). bytes_eq text one ≡ false) (equal_bytes other entry.0 at) apart in
        sym (ap (λ (b : Bool). cond {A = Option Url} b (Some entry.1) (url_at text urls)) same)
    by false at rest = ap (λ (found : Option Url). cond {A = Option Url} (bytes_eq text entry.0) (Some entry.1) found) rest

-- the URL that goes is the one that is told
pub first_goes : (owner blob : ℕ) (old new : Urls) → Some blob ≡ option_map (λ (entry : List ℕ × Url). entry.1.blob) (slice_get (owned_by owner old) 0)
    → new ≡ without_first owner old → (goes : GoesFrom owner blob old new) → new ≡ without goes.text old
first_goes owner blob old new told is goes = by (slice_get (owned_by owner old) 0) told is
  where
    found : (entry : List ℕ × Url) → new ≡ without entry.0 old → (b : Bool) → bytes_eq goes.text entry.0 ≡ b → new ≡ without goes.text old
    found entry at true same = at ∙ ap (λ (text : List ℕ). without text old) (sym (equal_bytes goes.text entry.0 same))
    found entry at false apart =
        let stays : url_at goes.text new ≡ Some goes.url =
        ap (url_at goes.text) at ∙ found_others goes.text entry.0 old apart ∙ goes.there in
        let gone : url_at goes.text new ≡ None =
        goes.goes.each goes.text ∙ ap (λ (b : Bool). cond {A = Option Url} b None (url_at goes.text old)) (same_bytes goes.text) in
        let both : None ≡ Some goes.url = sym gone ∙ stays in
        absurd (cc both)

    by : (first : Option (List ℕ × Url)) → Some blob ≡ option_map (λ (entry : List ℕ × Url). entry.1.blob) first
        → new ≡ option_map_or (λ (entry : List ℕ × Url). without entry.0 old) first old → new ≡ without goes.text old
    by None told at = absurd (cc told)
    by (Some entry) told at = found entry at (bytes_eq goes.text entry.0) refl

-- the blob of a URL that goes has a root
pub held_named : (parts : Parts) (owner blob : ℕ) (urls : Urls) → Whole parts → GoesFrom owner blob parts.urls urls
    → IsSomeAnd (entry_of parts.registry blob) (λ (entry : Entry). 0 < entry.roots)
held_named parts owner blob urls whole goes =
    subst (λ (name : ℕ). IsSomeAnd (entry_of parts.registry name) (λ (entry : Entry). 0 < entry.roots)) goes.leads
    (stands_rooted parts.registry goes.url.blob (url_roots parts goes.text goes.url whole goes.there))

pub urls_leave : (owner : ℕ) (first old new : Urls) → UrlsGo owner first old → new ≡ old → ((text : List ℕ) → own_url owner text old ≡ None)
    → UrlsLeave owner first new
urls_leave owner first old new went same none =
    subst (λ (urls : Urls). UrlsLeave owner first urls) (sym same) (record { went = went; none_left = none })

pub whole_unlinked : (parts : Parts) (owner blob : ℕ) (urls : Urls) → Whole parts
    → Some blob ≡ option_map (λ (entry : List ℕ × Url). entry.1.blob) (slice_get (owned_by owner parts.urls) 0) → urls ≡ without_first owner parts.urls
    → GoesFrom owner blob parts.urls urls → Whole (record parts { registry = changed parts.registry blob held_less; urls = urls })
whole_unlinked parts owner blob urls whole told is goes =
    subst (λ (name : ℕ). Whole (record parts { registry = changed parts.registry name held_less; urls = urls })) goes.leads
    (whole_unnamed parts goes.text goes.url urls whole goes.there (first_goes owner blob parts.urls urls told is goes) goes.goes)

-- ---- handles

shorter : (list : List (ℕ × ℕ)) (first : ℕ × ℕ) → Some first ≡ slice_get list 0 → length (drop 1 list) < length list
shorter [] first told = absurd (cc told)
shorter (one ∷ list) first told = omega arith

some_living : (held : Option Living) → IsSome held → (one : Living) × (held ≡ Some one)
some_living None is = absurd (cc is)
some_living (Some one) is = (one, refl)

module _ (id name count : ℕ) (old new : Table) (alive : IsSome (living_of id old)) (first : Some (name, count) ≡ slice_get (counts_of id old) 0)
    (is : new ≡ with_counts id (drop 1 (counts_of id old)) old) where
  one : (one : Living) × (living_of id old ≡ Some one)
  one = some_living (living_of id old) alive

  pub fewer_counts : length (counts_of id new) < length (counts_of id old)
  fewer_counts =
      let now = ap (λ (counts : List (ℕ × ℕ)). length counts) (counts_now id old new one.0 one.1 (drop 1 (counts_of id old)) is) in
      let less = shorter (counts_of id old) (name, count) first in
      omega (arith, now, less)

  pub still_alive : IsSome (living_of id new)
  still_alive = living_now id old new one.0 one.1 (drop 1 (counts_of id old)) is

-- so many handles give the blob as many roots
pub handles_rooted : (parts : Parts) (id name count : ℕ) → Whole parts → count_of id name parts.renderers ≡ count → count ≤ roots_at parts.registry name
handles_rooted parts id name count whole counted = omega (arith, counted, within_handles id name parts.renderers, whole.holders.roots name)

-- counts of others stay
pub others_stay : (id blob : ℕ) (first old new : Table) → ChangesCount (λ (n : ℕ). 0) id blob old new
    → ((other name : ℕ) → (id == other) ≡ false → count_of other name old ≡ count_of other name first)
    → (other name : ℕ) → (id == other) ≡ false → count_of other name new ≡ count_of other name first
others_stay id blob first old new changes were other name apart =
    changes.counts other name ∙ ap (λ (b : Bool). cond (b && (blob == name)) 0 (count_of other name old)) apart ∙ were other name apart

-- all handles of a renderer on a blob go
pub whole_unheld : (parts : Parts) (book : Book) (id name count : ℕ) (counts : List (ℕ × ℕ)) (renderers : Table) → Whole parts
    → AreRerooted parts.registry book
    → ((other : ℕ) → roots_at book other ≡ cond (name == other) (roots_at parts.registry other - count) (roots_at parts.registry other))
    → IsSome (living_of id parts.renderers) → renderers ≡ with_counts id counts parts.renderers → count_of id name parts.renderers ≡ count
    → ChangesCount (λ (n : ℕ). 0) id name parts.renderers renderers → Whole (record parts { registry = book; renderers = renderers })
whole_unheld parts book id name count counts renderers whole same roots alive is counted changes =
    let one = some_living (living_of id parts.renderers) alive in
    whole_same parts book renderers parts.urls parts.readers whole same
    (born_still (λ (n : ℕ). 0) id name parts.renderers renderers whole.holders.living changes)
    (λ other. by other (name == other) refl (roots other) (left other) (handles_moved id parts.renderers renderers one.0 one.1 counts is other))
    (λ other. few other (name == other) (roots other)) whole.holders.readers whole.holders.opened
    (owned_same parts.renderers renderers parts.urls parts.readers changes.origins whole.holders.owned)
  where
    left : (other : ℕ) → count_of id other renderers ≡ cond (name == other) 0 (count_of id other parts.renderers)
    left other =
        changes.counts id other ∙ ap (λ (b : Bool). cond (b && (name == other)) 0 (count_of id other parts.renderers)) (eq-eqb id id refl)

    by : (other : ℕ) (b : Bool) → (name == other) ≡ b → roots_at book other ≡ cond b (roots_at parts.registry other - count) (roots_at parts.registry other)
        → count_of id other renderers ≡ cond b 0 (count_of id other parts.renderers)
        → handles_of other renderers + count_of id other parts.renderers ≡ handles_of other parts.renderers + count_of id other renderers
        → roots_at book other ≡ roots_in renderers parts.urls parts.readers other
    by other true at root none moved =
        let had = subst (λ (n : ℕ). count_of id n parts.renderers ≡ count) (eqb-true name other at) counted in
        omega (arith, root, none, moved, had, whole.holders.roots other, within_handles id other parts.renderers)
    by other false at root still moved = omega (arith, root, still, moved, whole.holders.roots other)

    few : (other : ℕ) (b : Bool) → roots_at book other ≡ cond b (roots_at parts.registry other - count) (roots_at parts.registry other)
        → roots_at book other ≤ parts.lines
    few other true root = omega (arith, root, whole.holders.few other)
    few other false root = omega (arith, root, whole.holders.few other)

-- a renderer without handles goes
pub whole_dead : (parts : Parts) (id : ℕ) (renderers : Table) → Whole parts
    → renderers ≡ record parts.renderers { living = remove_entry (is_at (nat_cmp id)) parts.renderers.living } → Dies id parts.renderers renderers
    → IsUnread id parts.readers → IsUnlinked id parts.urls
    → Whole (record parts { renderers = renderers })
whole_dead parts id renderers whole is dies unread unmade =
    whole_same parts parts.registry renderers parts.urls parts.readers whole (record { names = refl; entries = refl }) living
    (λ name. let same = handles name in omega (arith, same, whole.holders.roots name)) whole.holders.few whole.holders.readers whole.holders.opened
    (owned_dead id parts.renderers renderers parts.urls parts.readers dies unread unmade whole.holders.owned)
  where
    handles : (name : ℕ) → handles_of name renderers ≡ handles_of name parts.renderers
    handles name =
        let weight : Living → ℕ = λ (one : Living). count_on name one.counts in
        let sums = sum_by-remove_entry weight (is_at (nat_cmp id)) parts.renderers.living in
        let now = ap (λ (table : Table). sum_by weight (values_of table.living)) is in
        omega (arith, sums, now, on_held name (living_of id parts.renderers), dies.empty name)

    living : (number : ℕ) → was_spawned number renderers ≡ false → origin_at number renderers ≡ None
    living number fresh = dies.origins number ∙ by (id == number)
      where
        by : (b : Bool) → cond b None (origin_at number parts.renderers) ≡ None
        by true = refl
        by false = whole.holders.living number (ap (λ (list : List ℕ). list_any (is_at (nat_cmp number)) list) (sym dies.spawned) ∙ fresh)

-- ---- how many live

-- other counts leave as many
pub as_many : (id : ℕ) (counts : List (ℕ × ℕ)) (old new : Table) → new ≡ with_counts id counts old → length new.living ≡ length old.living
as_many id counts old new is = ap (λ (table : Table). length table.living) is ∙ by (living_of id old)
  where
    by : (held : Option Living)
        → length (option_map_or (λ (one : Living). set_value (is_at (nat_cmp id)) old.living (record one { counts = counts })) held old.living)
        ≡ length old.living
    by None = refl
    by (Some one) = length-set_value (is_at (nat_cmp id)) old.living (record one { counts = counts })

-- and one that dies one fewer
pub one_fewer_lives : (id : ℕ) (old new : Table) → IsSome (living_of id old)
    → new ≡ record old { living = remove_entry (is_at (nat_cmp id)) old.living } → length new.living < length old.living
one_fewer_lives id old new alive is =
    subst (λ (table : Table). length table.living < length old.living) (sym is) (removed old.living alive)
  where
    removed : (living : List (ℕ × Living)) → IsSome (lookup (is_at (nat_cmp id)) living) → length (remove_entry (is_at (nat_cmp id)) living) < length living
    removed [] is = absurd (cc is)
    removed (one ∷ living) is = by (is_at (nat_cmp id) one.0) is (removed living)
      where
        by : (b : Bool) → IsSome (cond b (Some one.1) (lookup (is_at (nat_cmp id)) living))
            → (IsSome (lookup (is_at (nat_cmp id)) living) → length (remove_entry (is_at (nat_cmp id)) living) < length living)
            → length (cond b living (one ∷ remove_entry (is_at (nat_cmp id)) living)) < length (one ∷ living)
        by true is rest = omega arith
        by false is rest = let less = rest is in omega (arith, less)
