-- What a sweep leaves stands for the live blobs.
use Rattle.std.proofs.Common.{◌≡◌, ℕ, ◌+◌, ◌<◌, ◌≤◌, ◌==◌, ◌&&◌, not, Bool, true, false, cond, List, [], ◌∷◌, ◌++◌, map, reverse, refl, ap, subst, sym, ◌∙◌, Option, Some, None, arith}
use Rattle.std.specs.Prelude.{filter, flat_map, is_none, count_by, unwrap_or, IfSome, IsSomeAnd}
use Rattle.std.specs.Option.{option_map, option_map_or}
use Rattle.std.specs.List.{AllByRecursion}
use Rattle.std.proofs.lemmas.Bool.{eq-eqb}
use Rattle.std.proofs.lemmas.List.Sums.{sum_by-append, sum_by-cons}
use Rattle.blob_words.specs.declared.plan.Plan.{Plan}
use Rattle.blob_words.specs.declared.plan.Plan.TheVariants as plans
use Rattle.blob_words.specs.declared.status.Status.{Status}
use Rattle.blob_words.specs.declared.status.Status.TheVariants as statuses
use Rattle.item_shares.specs.Shares.{item_at}
use Rattle.item_shares.specs.declared.item.Item.{Item}
use Rattle.item_shares.specs.declared.shares.Share.{Share}
use Rattle.blob_items.specs.declared.view.View.{View}
use Rattle.blob_entries.specs.Book.{Book, book_of}
use Rattle.blob_entries.specs.Counts.{views_on}
use Rattle.blob_entries.specs.Holdings.{fixed_views, held_views, own_views, views_in}
use Rattle.blob_entries.specs.Leaving.{left, shed}
use Rattle.blob_entries.specs.Sound.{AreSound}
use Rattle.blob_entries.specs.Statuses.{is_broken}
use Rattle.blob_entries.specs.declared.entry.Entry.{Entry}
use Rattle.blob_entries.specs.declared.step.Step.{Step}
use Rattle.blob_entries.specs.declared.step.Step.TheVariants.{Own, Fixed, Source}
use Rattle.blob_entries.proofs.Counting.{on_cons}
use Rattle.blob_entries.proofs.Finishing.{broken_apart}
use Rattle.blob_entries.proofs.Holdings.{in_cons}
use Rattle.blob_registry.specs.Sweeps.{swept}
use Rattle.page_files.specs.Files.{Files}
use Rattle.quota_queue.specs.Queue.{Queue}
use Rattle.blob_model.specs.Builds.{Build, Cell, builds}
use Rattle.blob_model.specs.History.{History}
use Rattle.blob_model.specs.Live.{is_live}
use Rattle.blob_model.specs.Order.{named, Distinct}
use Rattle.blob_model.specs.Pieces.{Piece, pieces}
use Rattle.blob_model.specs.Session.{Session, page_limit}
use Rattle.blob_model.specs.Settle.{drops}
use Rattle.blob_model.specs.Waits.{is_shared}
use Rattle.blob_model.proofs.Lists.{append_second, false_true, or_first, or_second, for_each}
use Rattle.blob_model.proofs.live.Agreement.{builds_all}
use Rattle.registry_laws.specs.Agree.{Agrees, Beside, breaks_as}
use Rattle.registry_laws.specs.Laws.{Describes}
use Rattle.registry_laws.proofs.Drops.{Tells, goes, lives_named, named_next}
use Rattle.registry_laws.proofs.Left.{drops_keep, stays}
use Rattle.registry_laws.proofs.Lives.{IsBehind, TestsAgree, behind_all, behind_next, live_living, lives, test_at, tests_agree}
use Rattle.registry_laws.proofs.Pass.{StandsAs, breaks_same, granted_as}
use Rattle.registry_laws.proofs.Places.{ArePlaced, names_of, other_name, placed}
use Rattle.store_laws.specs.CellLaws.{IsSameAt}
use Rattle.store_laws.specs.Cells.{cell_by, denoted}
use Rattle.store_laws.specs.Items.{Facts, IsInside, IsLongAs, IsPlaced, ItemsStand, item_length, piece_at, piece_by, piece_of_item}
use Rattle.store_laws.specs.Outlines.{outline, outline_of, status_now, IsMarkedRight}
use Rattle.store_laws.specs.Recipes.{EntriesStand, EntryStands, IsEntryFor, IsStep, RowsBeside, StandsFor, recipe_cells, step_cells}
use Rattle.store_laws.specs.Rows.{AreWritten, Coming, Row, bare, came_of, coming_by, coming_of, coming_slots, gathered_of, gathering, pieces_before, pins, row_of, row_slots, settled, waiting, writing}
use Rattle.store_laws.specs.Settling.{after_drops}
use Rattle.store_laws.specs.Stands.{ContentsStand}
use Rattle.store_laws.specs.SweepLaws.{entries_left, rows_left, AreKept, EntriesAre, SweepLeavesLive}
use Rattle.store_laws.specs.Uses.{facts_of, own_pieces}
use Rattle.store_laws.proofs.Denoted.{denoted-same}
use Rattle.store_laws.proofs.Paired.{AreOutlined, first_of, outline_at, rest_of}
use Rattle.store_laws.proofs.ViewHas.{append_first}

abbrev Entries : Type 0
Entries = List (Option Entry)

-- ---- a sweep leaves what lives

module _ (s : Session) (h : History) (names : List ℕ) (whole : Entries) (sound : AreSound names whole) (alive : ℕ → Bool) where
  same_left : (test model : Bool) (held : Option Entry) (b : Bool) → TestsAgree test model held → b ≡ model → left test held ≡ left b held
  same_left true model None true tests at = refl
  same_left true model None false tests at = refl
  same_left false model None true tests at = refl
  same_left false model None false tests at = refl
  same_left test model (Some entry) b tests at = ap (λ (c : Bool). left c (Some entry)) (tests ∙ sym at)

  swept_left : (number : ℕ) (list : List Build) (entries : Entries) → Distinct list → ArePlaced names number list
      → Beside (Agrees (page_limit s) h) list entries → IsBehind whole number entries → Tells (page_limit s) h names whole sound alive list
      → swept names number entries ≡ entries_left alive list entries
  swept_left number [] [] distinct placed beside behind tells = refl
  swept_left number [] (held ∷ later) distinct placed beside behind tells = absurd beside
  swept_left number (build ∷ list) [] distinct placed beside behind tells = absurd beside
  swept_left number (build ∷ list) (held ∷ later) distinct placed beside behind tells =
      let here : alive build.name ≡ lives (page_limit s) h build list =
      tells build.name (or_first (build.name == build.name) (named build.name list) (eq-eqb build.name build.name refl))
      ∙ lives_named (page_limit s) h build list distinct.0 in
      let next : Tells (page_limit s) h names whole sound alive list =
      λ name there.
      tells name (or_second (build.name == name) (named name list) there)
      ∙ named_next (page_limit s) h build list name (other_name build list name distinct.0 there) in
      ap (λ (one : Option Entry). one ∷ swept names (number + 1) later)
      (same_left (test_at names number held later) (lives (page_limit s) h build list) held (alive build.name)
      (tests_agree (page_limit s) h names whole sound number build list held later placed beside behind) here)
      ∙ ap (λ (list : Entries). left (alive build.name) held ∷ list)
      (swept_left (number + 1) list later distinct.1 placed.1 beside.1 (behind_next whole number held later behind) next)

live_left : (s : Session) (h : History) (book : Book) → Describes s h book
    → swept book.names 0 book.entries ≡ entries_left (is_live (page_limit s) h) (builds (page_limit s) h) book.entries
live_left s h book tell =
    let list = builds (page_limit s) h in
    swept_left s h book.names book.entries tell.sound (is_live (page_limit s) h) 0 list book.entries tell.distinct
    (subst (λ (names : List ℕ). ArePlaced names 0 list) (sym tell.agree.names) (placed list tell.distinct)) tell.agree.each (behind_all book.entries)
    (λ name there. ap (λ (xs : List Build). named name xs) (live_living (page_limit s) h))

-- ---- items that are kept

module _ (all : List Piece) (shares later : List (Option Share)) where
  abbrev pub IsSame : View → Type 0
  IsSame view = item_at later view.slot ≡ item_at shares view.slot

  pub each_viewed : (views : List View) → ((slot : ℕ) → 0 < views_on slot views → item_at later slot ≡ item_at shares slot) → AllByRecursion IsSame views
  each_viewed [] same = tt
  each_viewed (view ∷ views) same = (
    same view.slot (let on = on_cons view.slot view views in let one = ap {B = ℕ} (λ (b : Bool). cond b 1 0) (eq-eqb view.slot view.slot refl) in
        omega (arith, on, one)),
    each_viewed views (λ slot some. same slot (let on = on_cons slot view views in omega (arith, on, some))),
  )

  denoted_kept : (views : List View) → AllByRecursion IsSame views → denoted all later views ≡ denoted all shares views
  denoted_kept views same =
      denoted-same all shares later views
      (for_each IsSame (IsSameAt all shares later) views (λ view is place. ap (λ (o : Option Item). cell_by all o place) is) same)

  inside_kept : (view : View) → IsSame view → IsInside all shares view → IsInside all later view
  inside_kept view same is =
      subst (λ (o : Option Item). IsSomeAnd o (λ (item : Item). (view.off + view.len ≤ item_length item) × IsLongAs all item (piece_of_item item)))
      (sym same) is

  step_kept : (step : Step) → AllByRecursion IsSame (fixed_views (step ∷ [])) → IsStep all shares step → IsStep all later step
  step_kept (Own piece len) same is = is
  step_kept (Fixed view) same is = (inside_kept view same.0 is.0, ap piece_by same.0 ∙ is.1)
  step_kept (Source name off len) same is = tt

  steps_kept : (recipe : List Step) → AllByRecursion IsSame (fixed_views recipe) → AllByRecursion (IsStep all shares) recipe
      → AllByRecursion (IsStep all later) recipe
  steps_kept [] same is = tt
  steps_kept (Own piece len ∷ recipe) same is = (is.0, steps_kept recipe same is.1)
  steps_kept (Fixed view ∷ recipe) same is = (step_kept (Fixed view) (same.0, tt) is.0, steps_kept recipe same.1 is.1)
  steps_kept (Source name off len ∷ recipe) same is = (tt, steps_kept recipe same is.1)

  recipe_kept : (list : List Build) (recipe : List Step) → AllByRecursion IsSame (fixed_views recipe)
      → recipe_cells list all later recipe ≡ recipe_cells list all shares recipe
  recipe_kept list [] same = refl
  recipe_kept list (Own piece len ∷ recipe) same =
      ap (λ (cells : List Cell). step_cells list all shares (Own piece len) ++ cells) (recipe_kept list recipe same)
  recipe_kept list (Fixed view ∷ recipe) same = λ i. denoted_kept (view ∷ []) (same.0, tt) i ++ recipe_kept list recipe same.1 i
  recipe_kept list (Source name off len ∷ recipe) same =
      ap (λ (cells : List Cell). step_cells list all shares (Source name off len) ++ cells) (recipe_kept list recipe same)

  inside_all : (views : List View) → AllByRecursion IsSame views → AllByRecursion (IsInside all shares) views → AllByRecursion (IsInside all later) views
  inside_all [] same is = tt
  inside_all (view ∷ views) same is = (inside_kept view same.0 is.0, inside_all views same.1 is.1)

  module _ (list : List Build) (own : ℕ → List ℕ) (build : Build) (entry : Entry) (same : AllByRecursion IsSame (held_views entry)) where
    fixed_same : AllByRecursion IsSame (fixed_views entry.recipe)
    fixed_same =
        append_first IsSame (fixed_views entry.recipe) (own_views entry.own)
        (append_first IsSame (fixed_views entry.recipe ++ own_views entry.own) entry.views same)

    own_same : AllByRecursion IsSame (own_views entry.own)
    own_same =
        append_second IsSame (fixed_views entry.recipe) (own_views entry.own)
        (append_first IsSame (fixed_views entry.recipe ++ own_views entry.own) entry.views same)

    stands_kept : (status : Status) → StandsFor list all shares build.cells status entry → StandsFor list all later build.cells status entry
    stands_kept statuses.Done is =
        (denoted_kept entry.views (append_second IsSame (fixed_views entry.recipe ++ own_views entry.own) entry.views same) ∙ is.0, is.1, is.2)
    stands_kept statuses.PendingQuota is = (recipe_kept list entry.recipe fixed_same ∙ is.0, is.1, is.2)
    stands_kept statuses.PendingTransport is = (recipe_kept list entry.recipe fixed_same ∙ is.0, is.1, is.2)
    stands_kept statuses.PendingReferencedBlobs is =
        (recipe_kept list entry.recipe fixed_same ∙ is.0, is.1, denoted_kept (own_views entry.own) own_same ∙ is.2)
    stands_kept statuses.Dereferenced is = is
    stands_kept status is = tt

    -- an entry whose views lie where they lay stands for its blob as before
    pub entry_kept : IsEntryFor list all shares own build entry → IsEntryFor list all later own build entry
    entry_kept is = record {
      stands = stands_kept entry.status is.stands;
      steps = steps_kept entry.recipe fixed_same is.steps;
      inside = inside_all (held_views entry) same is.inside;
      owned = is.owned;
      sources = is.sources;
    }

-- a broken entry stands without its views
broken_stands : (list : List Build) (all : List Piece) (shares : List (Option Share)) (cells : List Cell) (status : Status) (entry other : Entry)
    → is_broken status ≡ true → StandsFor list all shares cells status entry → StandsFor list all shares cells status other
broken_stands list all shares cells statuses.Done entry other e is = absurd (cc e)
broken_stands list all shares cells statuses.PendingQuota entry other e is = absurd (cc e)
broken_stands list all shares cells statuses.PendingTransport entry other e is = absurd (cc e)
broken_stands list all shares cells statuses.PendingReferencedBlobs entry other e is = absurd (cc e)
broken_stands list all shares cells statuses.Dereferenced entry other e is = is
broken_stands list all shares cells status entry other e is = tt

module _ (list : List Build) (all : List Piece) (own : ℕ → List ℕ) (shares later : List (Option Share)) (build : Build) where
  shed_stands : (entry : Entry) → AllByRecursion (IsSame all shares later) (held_views (shed entry)) → IsEntryFor list all shares own build entry
      → IsEntryFor list all later own build (shed entry)
  shed_stands entry same is = go (is_broken entry.status) refl same
    where
      go : (b : Bool) → is_broken entry.status ≡ b
          → AllByRecursion (IsSame all shares later) (held_views (cond b (record entry { recipe = []; own = None; views = [] }) entry))
          → IsEntryFor list all later own build (cond b (record entry { recipe = []; own = None; views = [] }) entry)
      go false at same = entry_kept all shares later list own build entry same is
      go true at same = record {
        stands = broken_stands list all later build.cells entry.status entry (record entry { recipe = []; own = None; views = [] }) at
            (dropped entry.status at is.stands);
        steps = tt;
        inside = tt;
        owned = λ pending. absurd (false_true (sym (broken_apart entry.status at).0 ∙ pending));
        sources = λ pending. absurd (false_true (sym (broken_apart entry.status at).0 ∙ pending));
      }
        where
          dropped : (status : Status) → is_broken status ≡ true → StandsFor list all shares build.cells status entry
              → StandsFor list all later build.cells status entry
          dropped statuses.Done e is = absurd (cc e)
          dropped statuses.PendingQuota e is = absurd (cc e)
          dropped statuses.PendingTransport e is = absurd (cc e)
          dropped statuses.PendingReferencedBlobs e is = absurd (cc e)
          dropped statuses.Dereferenced e is = is
          dropped status e is = tt

  left_stands : (b : Bool) (held : Option Entry)
      → ((slot : ℕ) → 0 < option_map_or (λ (entry : Entry). views_on slot (held_views entry)) (left b held) 0 → item_at later slot ≡ item_at shares slot)
      → EntryStands list all shares own build held → EntryStands list all later own build (left b held)
  left_stands false held same is = tt
  left_stands true None same is = tt
  left_stands true (Some entry) same is = shed_stands entry (each_viewed all shares later (held_views (shed entry)) same) is

pub slots_kept : (shares later : List (Option Share)) (slots : List ℕ)
    → ((slot : ℕ) → 0 < count_by (λ (each : ℕ). each == slot) slots → item_at later slot ≡ item_at shares slot)
    → map (piece_at later) slots ≡ map (piece_at shares) slots
slots_kept shares later [] same = refl
slots_kept shares later (slot ∷ slots) same =
    λ i. piece_by (same slot (let own = ap {B = ℕ} (λ (b : Bool). cond b 1 0) (eq-eqb slot slot refl) in
    let sum = sum_by-cons (λ (each : ℕ). cond (each == slot) 1 0) slot slots in omega (arith, sum, own)) i)
    ∷ slots_kept shares later slots
    (λ other some. same other (let sum = sum_by-cons (λ (each : ℕ). cond (each == other) 1 0) slot slots in omega (arith, sum, some))) i

pub items_left : (all : List Piece) (facts : Facts) (shares later : List (Option Share))
    → ((slot : ℕ) → IfSome (item_at later slot) (λ (item : Item). item_at shares slot ≡ Some item)) → ItemsStand all facts shares
    → ItemsStand all facts later
items_left all facts shares later still items = record {
  each = λ slot. placed slot (item_at later slot) (still slot);
  apart = λ one other number at at_other. items.apart one other number (back one number (item_at later one) (still one) at)
      (back other number (item_at later other) (still other) at_other);
}
  where
    placed : (slot : ℕ) (o : Option Item) → IfSome o (λ (item : Item). item_at shares slot ≡ Some item) → IfSome o (IsPlaced all facts)
    placed slot None is = tt
    placed slot (Some item) is = subst (λ (o : Option Item). IfSome o (IsPlaced all facts)) is (items.each slot)

    back : (slot number : ℕ) (o : Option Item) → IfSome o (λ (item : Item). item_at shares slot ≡ Some item) → piece_by o ≡ Some number
        → piece_at shares slot ≡ Some number
    back slot number None is at = absurd (cc at)
    back slot number (Some item) is at = ap piece_by is ∙ at

-- ---- behind the drops

module _ (s : Session) (h : History) (stands : ℕ → Bool) (book : Book) (tell : Describes s h book)
    (covers : (name : ℕ) → is_live (page_limit s) h name ≡ true → stands name ≡ true) where
  abbrev page : ℕ
  page = page_limit s

  abbrev alive : ℕ → Bool
  alive = is_live (page_limit s) h

  abbrev g : History
  g = after_drops s h

  abbrev list_now : List Build
  list_now = builds (page_limit s) h

  -- the blobs that are dropped
  abbrev dropped_list : List Build
  dropped_list = filter (goes h alive) (reverse list_now)

  blobs : builds (page_limit s) g ≡ list_now
  blobs = builds_all (page_limit s) h (drops s h)

  stays_as : (build : Build) → alive build.name ≡ true → StandsAs s h g build
  stays_as build here = stays s h book.names book.entries tell.sound alive list_now build here

  status_still : (build : Build) → alive build.name ≡ true → status_now s g build ≡ status_now s h build
  status_still build here =
      let same = stays_as build here in
      λ i. unwrap_or (same.end i)
      (cond (is_none (same.end i) && is_shared build.plan && not (same.grant i)) statuses.PendingQuota
      (cond (same.segments i) statuses.PendingReferencedBlobs statuses.PendingTransport))

  outline_still : (build : Build) → alive build.name ≡ true → outline_of s g build ≡ outline_of s h build
  outline_still build here = λ i. record (outline_of s h build) { status = status_still build here i }

  -- entries

  shed_outline : (held : Option Entry) → option_map outline (option_map shed held) ≡ option_map outline held
  shed_outline None = refl
  shed_outline (Some entry) = ap Some (go (is_broken entry.status))
    where
      go : (b : Bool) → outline (cond b (record entry { recipe = []; own = None; views = [] }) entry) ≡ outline entry
      go true = refl
      go false = refl

  outlined_left : (list : List Build) (entries : Entries) → AreOutlined s h stands list entries → AreOutlined s g alive list (entries_left alive list entries)
  outlined_left [] entries e = refl
  outlined_left (build ∷ list) [] e = absurd (cc e)
  outlined_left (build ∷ list) (held ∷ entries) e =
      λ i. by (alive build.name) refl i ∷ outlined_left list entries (rest_of s h stands build list held entries e) i
    where
      by : (b : Bool) → alive build.name ≡ b → option_map outline (left b held) ≡ cond b (Some (outline_of s g build)) None
      by false at = refl
      by true at =
          shed_outline held ∙ first_of s h stands build list held entries e
          ∙ ap (λ (b : Bool). cond b (Some (outline_of s h build)) None) (covers build.name at) ∙ ap Some (sym (outline_still build at))

  marked_left : (build : Build) (held : Option Entry) (b : Bool) → alive build.name ≡ b → IsMarkedRight s h build held → IsMarkedRight s g build (left b held)
  marked_left build held false at is = tt
  marked_left build None true at is = tt
  marked_left build (Some entry) true at is = go (is_broken entry.status)
    where
      same : breaks_as s g build ≡ breaks_as s h build
      same = breaks_same s h g build (stays_as build at)

      mark : (mark : Option Status) → IfSome mark (λ (why : Status). breaks_as s h build ≡ Some why)
          → IfSome mark (λ (why : Status). breaks_as s g build ≡ Some why)
      mark None is = tt
      mark (Some why) is = same ∙ is

      go : (b : Bool) → IsMarkedRight s g build (Some (cond b (record entry { recipe = []; own = None; views = [] }) entry))
      go true = λ pending. mark entry.mark (is pending)
      go false = λ pending. mark entry.mark (is pending)

  marks_left : (list : List Build) (entries : Entries) → Beside (IsMarkedRight s h) list entries
      → Beside (IsMarkedRight s g) list (entries_left alive list entries)
  marks_left [] [] is = tt
  marks_left [] (held ∷ entries) is = absurd is
  marks_left (build ∷ list) [] is = absurd is
  marks_left (build ∷ list) (held ∷ entries) is = (marked_left build held (alive build.name) refl is.0, marks_left list entries is.1)

  each_left : (whole : List Build) (all : List Piece) (own : ℕ → List ℕ) (shares later : List (Option Share)) (list : List Build) (entries : Entries)
      → ((slot : ℕ) → 0 < views_in (entries_left alive list entries) slot → item_at later slot ≡ item_at shares slot)
      → Beside (EntryStands whole all shares own) list entries → Beside (EntryStands whole all later own) list (entries_left alive list entries)
  each_left whole all own shares later [] [] same is = tt
  each_left whole all own shares later [] (held ∷ entries) same is = absurd is
  each_left whole all own shares later (build ∷ list) [] same is = absurd is
  each_left whole all own shares later (build ∷ list) (held ∷ entries) same is = (
    left_stands whole all own shares later build (alive build.name) held
        (λ slot some. same slot (let on = in_cons (left (alive build.name) held) (entries_left alive list entries) slot in omega (arith, on, some))) is.0,
    each_left whole all own shares later list entries
        (λ slot some. same slot (let on = in_cons (left (alive build.name) held) (entries_left alive list entries) slot in omega (arith, on, some))) is.1,
  )

  -- rows

  row_still : (build : Build) → alive build.name ≡ true → row_of s g build ≡ row_of s h build
  row_still build here = λ i. record (row_of s h build) { first = pieces_before (page_limit s) (blobs i) build.name; coming = coming_still i }
    where
      same : StandsAs s h g build
      same = stays_as build here

      gathered_still : gathered_of s g build ≡ gathered_of s h build
      gathered_still = drops_keep (λ (g : History). gathered_of s g build) (λ g name. refl) h dropped_list

      came_still : came_of s g build ≡ came_of s h build
      came_still = drops_keep (λ (g : History). came_of s g build) (λ g name. refl) h dropped_list

      by : (plan : Option Plan) → coming_by s g build plan ≡ coming_by s h build plan
      by None = refl
      by (Some plans.None) = refl
      by (Some plans.Inline) = refl
      by (Some plans.OutOfMemory) = refl
      by (Some (plans.TooMany what)) = refl
      by (Some (plans.Shared n)) =
          λ i. cond (granted_as s h g build same i) (cond (same.segments i) settled (gathering (gathered_still i))) waiting
      by (Some (plans.File n)) = λ i. cond (same.segments i) settled (writing [] (came_still i))

      coming_still : coming_of s g build ≡ coming_of s h build
      coming_still = λ i. cond (is_none (same.end i)) (by build.plan i) settled

  abbrev AreRowed : History → (ℕ → Bool) → List Build → List (Option Row) → Type 0
  AreRowed h stands list rows = map (option_map bare) rows ≡ map (λ (build : Build). cond (stands build.name) (Some (row_of s h build)) None) list

  rowed_left : (list : List Build) (rows : List (Option Row)) → AreRowed h stands list rows → AreRowed g alive list (rows_left alive list rows)
  rowed_left [] rows e = refl
  rowed_left (build ∷ list) [] e = absurd (cc e)
  rowed_left (build ∷ list) (held ∷ rows) e = λ i. by (alive build.name) refl i ∷ rowed_left list rows rest i
    where
      rest : AreRowed h stands list rows
      rest = cc e

      first : option_map bare held ≡ cond (stands build.name) (Some (row_of s h build)) None
      first = cc e

      by : (b : Bool) → alive build.name ≡ b → option_map bare (cond b held None) ≡ cond b (Some (row_of s g build)) None
      by false at = refl
      by true at =
          first ∙ ap (λ (b : Bool). cond b (Some (row_of s h build)) None) (covers build.name at) ∙ ap Some (sym (row_still build at))

  written_left : (own : ℕ → List ℕ) (shares later : List (Option Share)) (list : List Build) (rows : List (Option Row))
      → ((slot : ℕ) → 0 < pins slot (rows_left alive list rows) → item_at later slot ≡ item_at shares slot)
      → RowsBeside (λ (build : Build) (row : Row). AreWritten shares (own build.name) row.coming) list rows
      → RowsBeside (λ (build : Build) (row : Row). AreWritten later (own build.name) row.coming) list (rows_left alive list rows)
  written_left own shares later [] rows same is = tt
  written_left own shares later (build ∷ list) [] same is = tt
  written_left own shares later (build ∷ list) (None ∷ rows) same is =
      none (alive build.name) same (λ kept. written_left own shares later list rows kept is)
    where
      none : (b : Bool) → ((slot : ℕ) → 0 < pins slot (cond b None None ∷ rows_left alive list rows) → item_at later slot ≡ item_at shares slot)
          → (((slot : ℕ) → 0 < pins slot (rows_left alive list rows) → item_at later slot ≡ item_at shares slot)
          → RowsBeside (λ (build : Build) (row : Row). AreWritten later (own build.name) row.coming) list (rows_left alive list rows))
          → RowsBeside (λ (build : Build) (row : Row). AreWritten later (own build.name) row.coming) (build ∷ list)
          (cond b None None ∷ rows_left alive list rows)
      none true same rest = rest same
      none false same rest = rest same
  written_left own shares later (build ∷ list) (Some row ∷ rows) same is =
      some (alive build.name) same (λ kept. written_left own shares later list rows kept is.1)
    where
      more : (front : List ℕ)
          → ((slot : ℕ) → 0 < count_by (λ (each : ℕ). each == slot) (front ++ flat_map row_slots (rows_left alive list rows))
          → item_at later slot ≡ item_at shares slot)
          → (slot : ℕ) → 0 < pins slot (rows_left alive list rows) → item_at later slot ≡ item_at shares slot
      more front same slot some =
          same slot (let sum = sum_by-append (λ (each : ℕ). cond (each == slot) 1 0) front (flat_map row_slots (rows_left alive list rows)) in
          omega (arith, sum, some))

      first : (slots : List ℕ)
          → ((slot : ℕ) → 0 < count_by (λ (each : ℕ). each == slot) (slots ++ flat_map row_slots (rows_left alive list rows))
          → item_at later slot ≡ item_at shares slot)
          → map (piece_at later) slots ≡ map (piece_at shares) slots
      first slots same =
          slots_kept shares later slots
          (λ slot some. same slot (let sum = sum_by-append (λ (each : ℕ). cond (each == slot) 1 0) slots (flat_map row_slots (rows_left alive list rows)) in
          omega (arith, sum, some)))

      writes : (coming : Coming)
          → ((slot : ℕ) → 0 < count_by (λ (each : ℕ). each == slot) (coming_slots coming ++ flat_map row_slots (rows_left alive list rows))
          → item_at later slot ≡ item_at shares slot)
          → AreWritten shares (own build.name) coming → AreWritten later (own build.name) coming
      writes settled same is = tt
      writes waiting same is = tt
      writes (gathering segments) same is = tt
      writes (writing slots came) same is = first slots same ∙ is

      some : (b : Bool) → ((slot : ℕ) → 0 < pins slot (cond b (Some row) None ∷ rows_left alive list rows) → item_at later slot ≡ item_at shares slot)
          → (((slot : ℕ) → 0 < pins slot (rows_left alive list rows) → item_at later slot ≡ item_at shares slot)
          → RowsBeside (λ (build : Build) (row : Row). AreWritten later (own build.name) row.coming) list (rows_left alive list rows))
          → RowsBeside (λ (build : Build) (row : Row). AreWritten later (own build.name) row.coming) (build ∷ list)
          (cond b (Some row) None ∷ rows_left alive list rows)
      some false same rest = rest same
      some true same rest = (writes row.coming same is.0, rest (more (coming_slots row.coming) same))

  -- all of them

  pieces_same : pieces (page_limit s) g ≡ pieces (page_limit s) h
  pieces_same = drops_keep (λ (g : History). pieces (page_limit s) g) (λ g name. refl) h dropped_list

  own_same_pieces : own_pieces (page_limit s) g ≡ own_pieces (page_limit s) h
  own_same_pieces = drops_keep (λ (g : History). own_pieces (page_limit s) g) (λ g name. refl) h dropped_list

  facts_same : facts_of s g ≡ facts_of s h
  facts_same = drops_keep (λ (g : History). facts_of s g) (λ g name. refl) h dropped_list

  module _ (shares : List (Option Share)) (rows : List (Option Row)) (quota : Queue) (files : Files) (order : List (ℕ × ℕ))
      (contents : ContentsStand s h stands book shares rows quota files order) (later : List (Option Share))
      (kept : AreKept (entries_left alive list_now book.entries) (rows_left alive list_now rows) shares later) where
    abbrev entries_now : Entries
    entries_now = entries_left alive list_now book.entries

    abbrev rows_now : List (Option Row)
    rows_now = rows_left alive list_now rows

    abbrev Stand : List Build → List Piece → (ℕ → List ℕ) → Type 0
    Stand list all own = EntriesStand list all own later entries_now rows_now

    base : Stand list_now (pieces (page_limit s) h) (own_pieces (page_limit s) h)
    base = record {
      each = each_left list_now (pieces (page_limit s) h) (own_pieces (page_limit s) h) shares later list_now book.entries kept.viewed contents.entries.each;
      written = written_left (own_pieces (page_limit s) h) shares later list_now rows kept.pinned contents.entries.written;
    }

    left_stand : EntriesAre s g alive (book_of book.names entries_now) later rows_now
    left_stand = record {
      names = contents.names ∙ ap names_of (sym blobs);
      outlines_stand = outlined_left list_now book.entries contents.outlines_stand
          ∙ ap (λ (list : List Build). map (outline_at s g alive) list) (sym blobs);
      marks = subst (λ (list : List Build). Beside (IsMarkedRight s g) list entries_now) (sym blobs) (marks_left list_now book.entries contents.marks);
      rows_stand = rowed_left list_now rows contents.rows_stand
          ∙ ap (λ (list : List Build). map (λ (build : Build). cond (alive build.name) (Some (row_of s g build)) None) list) (sym blobs);
      items = subst (λ (all : List Piece). ItemsStand all (facts_of s g) later) (sym pieces_same)
          (subst (λ (facts : Facts). ItemsStand (pieces (page_limit s) h) facts later) (sym facts_same)
          (items_left (pieces (page_limit s) h) (facts_of s h) shares later kept.still contents.items));
      entries = subst (λ (list : List Build). Stand list (pieces (page_limit s) g) (own_pieces (page_limit s) g)) (sym blobs)
          (subst (λ (all : List Piece). Stand list_now all (own_pieces (page_limit s) g)) (sym pieces_same)
          (subst (λ (own : ℕ → List ℕ). Stand list_now (pieces (page_limit s) h) own) (sym own_same_pieces) base));
    }

pub sweep_leaves_live : SweepLeavesLive
sweep_leaves_live = record {
  live_left = live_left;
  left_stand = λ s h stands book shares rows quota files order contents tell covers later kept.
      left_stand s h stands book tell covers shares rows quota files order contents later kept;
}
