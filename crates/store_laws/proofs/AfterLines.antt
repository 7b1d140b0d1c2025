-- The parts stand for the history with a line: refused ones, `stat`, `spawn` and `drop`.
use Rattle.std.proofs.Common.{◌≡◌, ℕ, zero, suc, ◌+◌, ◌-◌, ◌==◌, ◌&&◌, ◌||◌, not, Bool, true, false, List, [], ◌∷◌, ◌++◌, map, length, refl, ap, subst, sym, ◌∙◌, Option, Some, None, cond, set, arith}
use Rattle.std.specs.Prelude.{bytes_eq, find}
use Rattle.std.specs.Option.{option_map, option_map_or}
use Rattle.std.specs.List.{list_any}
use Rattle.std.specs.Ordering.{nat_cmp}
use Rattle.std.specs.BTreeMap.{is_at}
use Rattle.std.proofs.lemmas.Bool.{eqb-true, or_parts}
use Rattle.std.proofs.lemmas.List.{length-append}
use Rattle.std.proofs.lemmas.List.Folds.{list_any-append}
use Rattle.blob_words.specs.declared.number.RendererId.{RendererId}
use Rattle.blob_words.specs.declared.status.Status.{Status}
use Rattle.blob_words.specs.declared.status.Status.TheVariants as statuses
use Rattle.session_script.specs.declared.event.Event.{Event}
use Rattle.session_script.specs.declared.event.Event.TheVariants as events
use Rattle.answer_text.specs.declared.answer.Answer.TheVariants as answers
use Rattle.answer_text.specs.declared.refusal.Refusal.{Refusal}
use Rattle.item_shares.specs.declared.shares.Share.{Share}
use Rattle.blob_entries.specs.Book.{Book, changed, changed_at, entry_at as held_at}
use Rattle.blob_entries.specs.Changes.{held_less, with_roots}
use Rattle.blob_entries.specs.Names.{number_of}
use Rattle.blob_entries.specs.declared.entry.Entry.{Entry}
use Rattle.data_handles.specs.Table.{Table as HandleTable}
use Rattle.page_disk.specs.declared.change.Change.{Change}
use Rattle.page_files.specs.Files.{Files}
use Rattle.quota_queue.specs.Queue.{Queue}
use Rattle.renderer_table.specs.Counted.{origin_at, ChangesCount, Spawns}
use Rattle.renderer_table.specs.Counts.{count_on}
use Rattle.renderer_table.specs.Table.{Table, count_of, living_of, was_spawned}
use Rattle.renderer_table.specs.declared.living.Living.{Living}
use Rattle.blob_model.specs.Builds.{Build, Cell, builds}
use Rattle.blob_model.specs.Entries.{Entry as UrlEntry, entries, entry_at}
use Rattle.blob_model.specs.Handles.{count}
use Rattle.blob_model.specs.History.{History, heard, refused}
use Rattle.blob_model.specs.Pieces.{Piece, pieces}
use Rattle.blob_model.specs.Renderers.{Renderer, is_alive, is_dead, is_spawned, origin_of, spawned}
use Rattle.blob_model.specs.Session.{Session, page_limit}
use Rattle.blob_model.proofs.Lists.{false_true, found_all}
use Rattle.registry_laws.specs.Agree.{Beside}
use Rattle.store_laws.specs.LineLaws.{counted, AreOwned, AreUnmarked, LinesStand}
use Rattle.store_laws.specs.Outlines.{Outline, outline, IsMarkedRight}
use Rattle.store_laws.specs.Recipes.{EntryStands, StandsFor}
use Rattle.store_laws.specs.Rows.{Row}
use Rattle.store_laws.specs.Stands.{Between, ContentsStand, Parts}
use Rattle.store_laws.specs.Tables.{url_of, RenderersStand, UrlsStand}
use Rattle.url_store.specs.declared.url.Url.{Url}
use Rattle.store_laws.specs.Uses.{own_pieces}
use Rattle.store_laws.proofs.Unmarked.{unmarked_right}

-- ---- entries, items and charges

module _ (s : Session) (h : History) (stands : ℕ → Bool) (book : Book) (shares : List (Option Share)) (rows : List (Option Row)) (quota : Queue)
    (files : Files) (order : List (ℕ × ℕ)) (contents : ContentsStand s h stands book shares rows quota files order) (unmarked : AreUnmarked book.entries) where
  contents_refused : (event : Event) (why : Refusal) → ContentsStand s (refused h event why) stands book shares rows quota files order
  contents_refused event why = record {
    names = contents.names;
    outlines_stand = contents.outlines_stand;
    marks = unmarked_right s h (refused h event why) (builds (page_limit s) h) book.entries contents.marks unmarked;
    rows_stand = contents.rows_stand;
    items = contents.items;
    entries = contents.entries;
    waiting = contents.waiting;
    memory_limit = contents.memory_limit;
    page_files_stand = contents.page_files_stand;
    recent = contents.recent;
  }

  contents_told : (renderer : RendererId) (name size : ℕ) (kind : List ℕ) (status : Status)
      → ContentsStand s (heard h (events.Stat renderer name) (answers.Told name size kind status)) stands book shares rows quota files order
  contents_told renderer name size kind status = record {
    names = contents.names;
    outlines_stand = contents.outlines_stand;
    marks = unmarked_right s h (heard h (events.Stat renderer name) (answers.Told name size kind status)) (builds (page_limit s) h) book.entries
        contents.marks unmarked;
    rows_stand = contents.rows_stand;
    items = contents.items;
    entries = contents.entries;
    waiting = contents.waiting;
    memory_limit = contents.memory_limit;
    page_files_stand = contents.page_files_stand;
    recent = contents.recent;
  }

  contents_spawned : (renderer : RendererId) (origin : List ℕ)
      → ContentsStand s (heard h (events.Spawn renderer origin) answers.Good) stands book shares rows quota files order
  contents_spawned renderer origin = record {
    names = contents.names;
    outlines_stand = contents.outlines_stand;
    marks = unmarked_right s h (heard h (events.Spawn renderer origin) answers.Good) (builds (page_limit s) h) book.entries contents.marks unmarked;
    rows_stand = contents.rows_stand;
    items = contents.items;
    entries = contents.entries;
    waiting = contents.waiting;
    memory_limit = contents.memory_limit;
    page_files_stand = contents.page_files_stand;
    recent = contents.recent;
  }

  contents_handed : (renderer : RendererId) (name : ℕ)
      → ContentsStand s (heard h (events.Drop renderer name) answers.Good) stands book shares rows quota files order
  contents_handed renderer name = record {
    names = contents.names;
    outlines_stand = contents.outlines_stand;
    marks = unmarked_right s h (heard h (events.Drop renderer name) answers.Good) (builds (page_limit s) h) book.entries contents.marks unmarked;
    rows_stand = contents.rows_stand;
    items = contents.items;
    entries = contents.entries;
    waiting = contents.waiting;
    memory_limit = contents.memory_limit;
    page_files_stand = contents.page_files_stand;
    recent = contents.recent;
  }

-- ---- a change of roots

module _ (f : ℕ → ℕ) where
  -- an entry with as many roots as f makes of those that it has, and the entries with such a change under a number
  abbrev pub rerooted : Entry → Entry
  rerooted entry = with_roots (f entry.roots) entry

  abbrev rerooted_at : List (Option Entry) → ℕ → List (Option Entry)
  rerooted_at entries number = set entries number (option_map rerooted (held_at entries number))

  outlined_still : (entries : List (Option Entry)) (number : ℕ) → map (option_map outline) (rerooted_at entries number) ≡ map (option_map outline) entries
  outlined_still [] number = refl
  outlined_still (None ∷ entries) zero = refl
  outlined_still (Some entry ∷ entries) zero = refl
  outlined_still (held ∷ entries) (suc number) = ap (λ (list : List (Option Outline)). option_map outline held ∷ list) (outlined_still entries number)

  beside_still : (P : Build → Option Entry → Type 0) → ((build : Build) (held : Option Entry) → P build held → P build (option_map rerooted held))
      → (list : List Build) (entries : List (Option Entry)) (number : ℕ) → Beside P list entries → Beside P list (rerooted_at entries number)
  beside_still P keeps [] [] number is = tt
  beside_still P keeps [] (held ∷ entries) number is = absurd is
  beside_still P keeps (build ∷ list) [] number is = absurd is
  beside_still P keeps (build ∷ list) (held ∷ entries) zero is = (keeps build held is.0, is.1)
  beside_still P keeps (build ∷ list) (held ∷ entries) (suc number) is = (is.0, beside_still P keeps list entries number is.1)

  stands_still : (list : List Build) (all : List Piece) (shares : List (Option Share)) (cells : List Cell) (status : Status) (entry : Entry)
      → StandsFor list all shares cells status entry → StandsFor list all shares cells status (rerooted entry)
  stands_still list all shares cells statuses.Done entry is = is
  stands_still list all shares cells statuses.PendingQuota entry is = is
  stands_still list all shares cells statuses.PendingTransport entry is = is
  stands_still list all shares cells statuses.PendingReferencedBlobs entry is = is
  stands_still list all shares cells statuses.Dereferenced entry is = is
  stands_still list all shares cells status entry is = tt

  entry_still : (list : List Build) (all : List Piece) (shares : List (Option Share)) (own : ℕ → List ℕ) (build : Build) (held : Option Entry)
      → EntryStands list all shares own build held → EntryStands list all shares own build (option_map rerooted held)
  entry_still list all shares own build None is = tt
  entry_still list all shares own build (Some entry) is = record {
    stands = stands_still list all shares build.cells entry.status entry is.stands;
    steps = is.steps;
    inside = is.inside;
    owned = is.owned;
    sources = is.sources;
  }

  mark_still : (s : Session) (h : History) (build : Build) (held : Option Entry) → IsMarkedRight s h build held
      → IsMarkedRight s h build (option_map rerooted held)
  mark_still s h build None is = tt
  mark_still s h build (Some entry) is = is

  module _ (s : Session) (h : History) (stands : ℕ → Bool) (book : Book) (shares : List (Option Share)) (rows : List (Option Row)) (quota : Queue)
      (files : Files) (order : List (ℕ × ℕ)) (contents : ContentsStand s h stands book shares rows quota files order) (name : ℕ) where
    -- another number of roots of what stands under a name changes nothing else
    contents_rerooted : ContentsStand s h stands (changed book name rerooted) shares rows quota files order
    contents_rerooted = by (number_of name book.names)
      where
        by : (found : Option ℕ)
            → ContentsStand s h stands (option_map_or (λ (number : ℕ). changed_at book number rerooted) found book) shares rows quota files order
        by None = contents
        by (Some number) = record {
          names = contents.names;
          outlines_stand = outlined_still book.entries number ∙ contents.outlines_stand;
          marks = beside_still (IsMarkedRight s h) (mark_still s h) (builds (page_limit s) h) book.entries number contents.marks;
          rows_stand = contents.rows_stand;
          items = contents.items;
          entries = record {
            each = beside_still (EntryStands (builds (page_limit s) h) (pieces (page_limit s) h) shares (own_pieces (page_limit s) h))
                (entry_still (builds (page_limit s) h) (pieces (page_limit s) h) shares (own_pieces (page_limit s) h)) (builds (page_limit s) h) book.entries
                number contents.entries.each;
            written = contents.entries.written;
          };
          waiting = contents.waiting;
          memory_limit = contents.memory_limit;
          page_files_stand = contents.page_files_stand;
          recent = contents.recent;
        }

-- ---- renderers

-- who has no origin isn't there
pub unborn : (held : Option Living) → option_map (λ (one : Living). one.origin) held ≡ None → held ≡ None
unborn None e = refl
unborn (Some one) e = absurd (cc e)

or_last : (a b : Bool) → (a || b) ≡ (b || (a || false))
or_last true true = refl
or_last true false = refl
or_last false true = refl
or_last false false = refl

pub find_last : {X : Type 0} (test : X → Bool) (xs : List X) (x : X) → test x ≡ false → find test (xs ++ x ∷ []) ≡ find test xs
find_last {X = X} test [] x e = ap (λ (b : Bool). cond {A = Option X} b (Some x) None) e
find_last {X = X} test (y ∷ xs) x e = ap (λ (found : Option X). cond {A = Option X} (test y) (Some y) found) (find_last test xs x e)

pub find_new : {X : Type 0} (test : X → Bool) (xs : List X) (x : X) → list_any test xs ≡ false → test x ≡ true → find test (xs ++ x ∷ []) ≡ Some x
find_new {X = X} test [] x none e = ap (λ (b : Bool). cond {A = Option X} b (Some x) None) e
find_new {X = X} test (y ∷ xs) x none e =
    let parts = or_parts (test y) (list_any test xs) none in
    ap (λ (b : Bool). cond {A = Option X} b (Some y) (find test (xs ++ x ∷ []))) parts.0 ∙ find_new test xs x parts.1 e

module _ (h : History) (table : Table) (stand : RenderersStand (spawned h) (is_alive h) (origin_of h) (count h) table) (renderer : RendererId) where
  -- a renderer that comes
  module _ (origin : List ℕ) (later : Table) (alive : is_dead h renderer.0 ≡ false) (fresh : was_spawned renderer.0 table ≡ false)
      (spawns : Spawns renderer.0 origin table later) where
    abbrev new : Renderer
    new = record { number = renderer.0; origin = origin }

    abbrev with_it : History
    with_it = heard h (events.Spawn renderer origin) answers.Good

    abbrev is_it : ℕ → Renderer → Bool
    is_it number one = one.number == number

    any_later : (number : ℕ) → list_any (is_it number) (spawned h ++ new ∷ []) ≡ (is_spawned h number || ((renderer.0 == number) || false))
    any_later number = list_any-append (is_it number) (spawned h) (new ∷ [])

    unspawned : is_spawned h renderer.0 ≡ false
    unspawned = sym (stand.spawned renderer.0) ∙ fresh

    living_later : (number : ℕ) (b : Bool) → (renderer.0 == number) ≡ b
        → cond b (Some origin) (origin_at number table) ≡ cond (is_alive with_it number) (Some (origin_of with_it number)) None
    living_later number true at =
        let same : renderer.0 ≡ number = eqb-true renderer.0 number at in
        let none : is_spawned h number ≡ false = subst (λ (n : ℕ). is_spawned h n ≡ false) same unspawned in
        let here : is_dead h number ≡ false = subst (λ (n : ℕ). is_dead h n ≡ false) same alive in
        let found : find (is_it number) (spawned h ++ new ∷ []) ≡ Some new = find_new (is_it number) (spawned h) new none at in
        let among : list_any (is_it number) (spawned h ++ new ∷ []) ≡ true =
        any_later number ∙ ap (λ (b : Bool). b || ((renderer.0 == number) || false)) none ∙ ap (λ (b : Bool). b || false) at in
        let lives : is_alive with_it number ≡ true =
        ap (λ (b : Bool). b && not (is_dead h number)) among ∙ ap (λ (b : Bool). not b) here in
        let origin_is : origin_of with_it number ≡ origin = ap (λ (one : Option Renderer). option_map_or (λ (each : Renderer). each.origin) one []) found in
        ap (λ (text : List ℕ). Some text) (sym origin_is) ∙ sym (ap (λ (b : Bool). cond b (Some (origin_of with_it number)) None) lives)
    living_later number false at =
        let found : find (is_it number) (spawned h ++ new ∷ []) ≡ find (is_it number) (spawned h) = find_last (is_it number) (spawned h) new at in
        let among : list_any (is_it number) (spawned h ++ new ∷ []) ≡ is_spawned h number =
        any_later number ∙ ap (λ (b : Bool). is_spawned h number || (b || false)) at ∙ or_nothing (is_spawned h number) in
        stand.living number
        ∙ ap (λ (b : Bool). cond (b && not (is_dead h number)) (Some (origin_of h number)) None) (sym among)
        ∙ ap (λ (one : Option Renderer). cond (is_alive with_it number) (Some (option_map_or (λ (each : Renderer). each.origin) one [])) None) (sym found)
      where
        or_nothing : (b : Bool) → (b || false) ≡ b
        or_nothing true = refl
        or_nothing false = refl

    -- who was spawned keeps its origin
    origin_still : (number : ℕ) → is_spawned h number ≡ true → origin_of with_it number ≡ origin_of h number
    origin_still number known = by (renderer.0 == number) refl
      where
        by : (b : Bool) → (renderer.0 == number) ≡ b → origin_of with_it number ≡ origin_of h number
        by true at =
            let none : is_spawned h number ≡ false = subst (λ (n : ℕ). is_spawned h n ≡ false) (eqb-true renderer.0 number at) unspawned in
            absurd (false_true (sym none ∙ known))
        by false at = ap (λ (one : Option Renderer). option_map_or (λ (each : Renderer). each.origin) one []) (find_last (is_it number) (spawned h) new at)

    pub urls_still : (urls : List (List ℕ × Url)) → AreOwned h → UrlsStand (entries h) (origin_of h) urls → UrlsStand (entries h) (origin_of with_it) urls
    urls_still urls owned stand_urls = record {
      each = λ text. stand_urls.each text ∙ by text (entry_at (entries h) text) refl;
      many = stand_urls.many;
    }
      where
        by : (text : List ℕ) (found : Option UrlEntry) → entry_at (entries h) text ≡ found
            → option_map (url_of (origin_of h)) found ≡ option_map (url_of (origin_of with_it)) found
        by text None at = refl
        by text (Some entry) at =
            let known = found_all (λ (one : UrlEntry). is_spawned h one.owner ≡ true) (λ (one : UrlEntry). bytes_eq one.text text) (entries h) entry owned at in
            ap {B = Option Url} (λ (told : List ℕ). Some (url_of (λ (number : ℕ). told) entry)) (sym (origin_still entry.owner known))

    counts_later : (number blob : ℕ) (b : Bool) → (renderer.0 == number) ≡ b → cond b 0 (count_of number blob table) ≡ count h number blob
    counts_later number blob true at =
        let same : renderer.0 ≡ number = eqb-true renderer.0 number at in
        let none : is_spawned h number ≡ false = subst (λ (n : ℕ). is_spawned h n ≡ false) same unspawned in
        let gone : origin_at number table ≡ None =
        stand.living number ∙ ap (λ (b : Bool). cond (b && not (is_dead h number)) (Some (origin_of h number)) None) none in
        let nobody : living_of number table ≡ None = unborn (living_of number table) gone in
        let nothing : count_of number blob table ≡ 0 =
        ap (λ (held : Option Living). count_on blob (option_map_or (λ (one : Living). one.counts) held [])) nobody in
        sym nothing ∙ stand.counts number blob
    counts_later number blob false at = stand.counts number blob

    pub spawned_stand : RenderersStand (spawned with_it) (is_alive with_it) (origin_of with_it) (count with_it) later
    spawned_stand = record {
      spawned = λ number.
          spawns.known number ∙ ap (λ (b : Bool). (renderer.0 == number) || b) (stand.spawned number)
          ∙ or_last (renderer.0 == number) (is_spawned h number) ∙ sym (any_later number);
      many = let one_more = length-append (spawned h) (new ∷ []) in omega (arith, spawns.many, stand.many, one_more);
      living = λ number. spawns.origins number ∙ living_later number (renderer.0 == number) refl;
      counts = λ number blob. spawns.counts number blob ∙ counts_later number blob (renderer.0 == number) refl;
    }

  -- a handle that goes
  pub dropped_stand : (name : ℕ) (later : Table) → ChangesCount (λ (count : ℕ). count - 1) renderer.0 name table later
      → RenderersStand (spawned (heard h (events.Drop renderer name) answers.Good)) (is_alive (heard h (events.Drop renderer name) answers.Good))
      (origin_of (heard h (events.Drop renderer name) answers.Good)) (count (heard h (events.Drop renderer name) answers.Good)) later
  dropped_stand name later changes = record {
    spawned = λ number. ap (λ (list : List ℕ). list_any (is_at (nat_cmp number)) list) changes.spawned ∙ stand.spawned number;
    many = ap (λ (list : List ℕ). length list) changes.spawned ∙ stand.many;
    living = λ number. changes.origins number ∙ stand.living number;
    counts = λ number blob.
        changes.counts number blob
        ∙ ap (λ (n : ℕ). cond ((renderer.0 == number) && (name == blob)) (n - 1) n) (stand.counts number blob);
  }

-- ---- all parts

module _ (s : Session) (h : History) (stands : ℕ → Bool) (parts : Parts) (told : Option (List Change)) (table : HandleTable)
    (unmarked : AreUnmarked parts.book.entries) (between : Between s h stands parts told table) where
  between_refused : (event : Event) (why : Refusal) → Between s (refused h event why) stands (counted parts) told table
  between_refused event why = record {
    same_limits = between.same_limits;
    same_version = between.same_version;
    contents = contents_refused s h stands parts.book parts.shares parts.rows parts.quota parts.pages parts.recent between.contents unmarked event why;
    tables = record {
      renderers = between.tables.renderers;
      urls_stand = between.tables.urls_stand;
      files_stand = between.tables.files_stand;
      readers_stand = between.tables.readers_stand;
    };
    handles = between.handles;
    claims = between.claims;
    disk_stands = between.disk_stands;
    same_lines = ap (λ (n : ℕ). n + 1) between.same_lines;
    same_pieces = between.same_pieces;
    same_weight = between.same_weight;
  }

  between_told : (renderer : RendererId) (name size : ℕ) (kind : List ℕ) (status : Status)
      → Between s (heard h (events.Stat renderer name) (answers.Told name size kind status)) stands (counted parts) told table
  between_told renderer name size kind status = record {
    same_limits = between.same_limits;
    same_version = between.same_version;
    contents = contents_told s h stands parts.book parts.shares parts.rows parts.quota parts.pages parts.recent between.contents unmarked renderer name
        size kind status;
    tables = record {
      renderers = between.tables.renderers;
      urls_stand = between.tables.urls_stand;
      files_stand = between.tables.files_stand;
      readers_stand = between.tables.readers_stand;
    };
    handles = between.handles;
    claims = between.claims;
    disk_stands = between.disk_stands;
    same_lines = ap (λ (n : ℕ). n + 1) between.same_lines;
    same_pieces = between.same_pieces;
    same_weight = between.same_weight;
  }

  between_spawned : AreOwned h → (renderer : RendererId) (origin : List ℕ) (renderers : Table) → is_dead h renderer.0 ≡ false
      → was_spawned renderer.0 parts.renderers ≡ false → Spawns renderer.0 origin parts.renderers renderers
      → Between s (heard h (events.Spawn renderer origin) answers.Good) stands (counted (record parts { renderers = renderers })) told table
  between_spawned owned renderer origin renderers alive fresh spawns = record {
    same_limits = between.same_limits;
    same_version = between.same_version;
    contents = contents_spawned s h stands parts.book parts.shares parts.rows parts.quota parts.pages parts.recent between.contents unmarked renderer origin;
    tables = record {
      renderers = spawned_stand h parts.renderers between.tables.renderers renderer origin renderers alive fresh spawns;
      urls_stand = urls_still h parts.renderers between.tables.renderers renderer origin renderers alive fresh spawns parts.urls owned
          between.tables.urls_stand;
      files_stand = between.tables.files_stand;
      readers_stand = between.tables.readers_stand;
    };
    handles = between.handles;
    claims = between.claims;
    disk_stands = between.disk_stands;
    same_lines = ap (λ (n : ℕ). n + 1) between.same_lines;
    same_pieces = between.same_pieces;
    same_weight = between.same_weight;
  }

  between_dropped : (renderer : RendererId) (name : ℕ) (renderers : Table)
      → ChangesCount (λ (count : ℕ). count - 1) renderer.0 name parts.renderers renderers
      → Between s (heard h (events.Drop renderer name) answers.Good) stands
      (counted (record parts { book = changed parts.book name held_less; renderers = renderers })) told table
  between_dropped renderer name renderers changes = record {
    same_limits = between.same_limits;
    same_version = between.same_version;
    contents = contents_rerooted (λ (n : ℕ). n - 1) s (heard h (events.Drop renderer name) answers.Good) stands parts.book parts.shares parts.rows
        parts.quota parts.pages parts.recent
        (contents_handed s h stands parts.book parts.shares parts.rows parts.quota parts.pages parts.recent between.contents unmarked renderer name) name;
    tables = record {
      renderers = dropped_stand h parts.renderers between.tables.renderers renderer name renderers changes;
      urls_stand = between.tables.urls_stand;
      files_stand = between.tables.files_stand;
      readers_stand = between.tables.readers_stand;
    };
    handles = between.handles;
    claims = between.claims;
    disk_stands = between.disk_stands;
    same_lines = ap (λ (n : ℕ). n + 1) between.same_lines;
    same_pieces = between.same_pieces;
    same_weight = between.same_weight;
  }

pub lines_stand : LinesStand
lines_stand = record {
  refusing = λ event why s h stands parts told table unmarked between. between_refused s h stands parts told table unmarked between event why;
  telling = λ renderer name size kind status s h stands parts told table unmarked between.
      between_told s h stands parts told table unmarked between renderer name size kind status;
  spawning = λ s h stands parts told table unmarked between owned renderer origin renderers alive fresh spawns.
      between_spawned s h stands parts told table unmarked between owned renderer origin renderers alive fresh spawns;
  dropping = λ s h stands parts told table unmarked between renderer name renderers changes.
      between_dropped s h stands parts told table unmarked between renderer name renderers changes;
}
