-- What a pass makes of entries stands for their blobs.
use Rattle.std.proofs.Common.{◌≡◌, ℕ, ◌+◌, ◌<◌, ◌≤◌, ◌&&◌, not, Bool, true, false, cond, List, [], ◌∷◌}
use Rattle.std.proofs.Common.{◌++◌, map, length, refl, ap, subst, sym, ◌∙◌, Option, Some, None, nat_lt, arith}
use Rattle.std.specs.Prelude.{option_and_then, IfSome, IsSomeAnd}
use Rattle.std.specs.Option.{option_map_or}
use Rattle.std.specs.List.{AllByRecursion}
use Rattle.std.proofs.lemmas.Bool.Decides.{nat_tests}
use Rattle.blob_words.specs.declared.status.Status.{Status}
use Rattle.blob_words.specs.declared.status.Status.TheVariants as statuses
use Rattle.item_shares.specs.declared.shares.Share.{Share}
use Rattle.blob_items.specs.Cells.{cells}
use Rattle.blob_entries.specs.Book.{entry_at, is_broken_at, is_done_at}
use Rattle.blob_entries.specs.Changes.{done_with, with_status}
use Rattle.blob_entries.specs.Contents.{made_cells, source_views}
use Rattle.blob_entries.specs.Endings.{Ends, EndsAs, ending, is_complete, is_granted_status, marked_end, misses, source_end}
use Rattle.blob_entries.specs.Holdings.{fixed_views, own_views}
use Rattle.blob_entries.specs.Names.{number_of}
use Rattle.blob_entries.specs.Sound.{AreSound, IsBreaking, IsSound}
use Rattle.blob_entries.specs.Sources.{each_source, some_source}
use Rattle.blob_entries.specs.Statuses.{is_broken, is_done, is_pending}
use Rattle.blob_entries.specs.declared.entry.Entry.{Entry}
use Rattle.blob_entries.proofs.Finishing.{breaks, broken_apart}
use Rattle.blob_model.specs.Builds.{Build, Cell, cells_in}
use Rattle.blob_model.specs.Pieces.{Piece}
use Rattle.blob_model.proofs.Lists.{append_second, false_true}
use Rattle.registry_laws.specs.Agree.{Beside}
use Rattle.registry_laws.proofs.Lives.{IsBehind, behind_here, behind_next}
use Rattle.registry_laws.proofs.Passed.{AllEnd}
use Rattle.registry_laws.proofs.Places.{ArePlaced, same_name}
use Rattle.store_laws.specs.Cells.{cell_at, denoted}
use Rattle.store_laws.specs.Items.{IsInside}
use Rattle.store_laws.specs.Recipes.{EntryStands, IsEntryFor, StandsFor}
use Rattle.store_laws.proofs.Made.{AreKnown, IsAsLong, IsKnown, given}
use Rattle.store_laws.proofs.PlacesInside.{IsPlace, within_places}

abbrev Entries : Type 0
Entries = List (Option Entry)

-- ---- an entry that gets done was complete

pub record IsComplete (names : List ℕ) (after : Entries) (entry : Entry) : Type 0 where
  pub pending : is_pending entry.status ≡ true
  pub has_bytes : misses entry ≡ false
  pub has_sources : each_source names (is_done_at after) entry.recipe ≡ true

pub completes : (names : List ℕ) (after : Entries) (entry : Entry) → IfSome entry.mark IsBreaking → ending names after entry ≡ Some statuses.Done
    → IsComplete names after entry
completes names after entry mark is = by (is_pending entry.status) refl is
  where
    parts : (g m d : Bool) → (g && not m && d) ≡ true → (m ≡ false) × (d ≡ true)
    parts true false true e = (refl, refl)
    parts true false false e = absurd (false_true e)
    parts true true d e = absurd (false_true e)
    parts false m d e = absurd (false_true e)

    by_source : (b c : Bool) → is_complete names after entry ≡ c
        → cond b (Some statuses.ReferencedBlobBroken) (cond c (Some statuses.Done) None) ≡ Some statuses.Done
        → (misses entry ≡ false) × (each_source names (is_done_at after) entry.recipe ≡ true)
    by_source true c at e = absurd (cc e)
    by_source false false at e = absurd (cc e)
    by_source false true at e = parts (is_granted_status entry.status) (misses entry) (each_source names (is_done_at after) entry.recipe) at

    by_mark : (o : Option Status) → IfSome o IsBreaking → marked_end o (source_end names after entry) ≡ Some statuses.Done
        → (misses entry ≡ false) × (each_source names (is_done_at after) entry.recipe ≡ true)
    by_mark None mark e = by_source (some_source names (is_broken_at after) entry.recipe) (is_complete names after entry) refl e
    by_mark (Some why) mark e =
        let same : why ≡ statuses.Done = cc e in absurd (false_true (ap is_broken (sym same) ∙ mark))

    by : (p : Bool) → is_pending entry.status ≡ p → cond p (marked_end entry.mark (source_end names after entry)) None ≡ Some statuses.Done
        → IsComplete names after entry
    by false at e = absurd (cc e)
    by true at e = let two = by_mark entry.mark mark e in record { pending = at; has_bytes = two.0; has_sources = two.1 }

-- ---- one entry

module _ (list : List Build) (all : List Piece) (shares : List (Option Share)) (own : ℕ → List ℕ) (names : List ℕ) (whole after : Entries) where
  broken_stands : (blob : List Cell) (status : Status) (entry : Entry) → is_broken status ≡ true → StandsFor list all shares blob status entry
  broken_stands blob statuses.Done entry e = absurd (false_true e)
  broken_stands blob statuses.PendingQuota entry e = absurd (false_true e)
  broken_stands blob statuses.PendingTransport entry e = absurd (false_true e)
  broken_stands blob statuses.PendingReferencedBlobs entry e = absurd (false_true e)
  broken_stands blob statuses.Dereferenced entry e = absurd (false_true e)
  broken_stands blob status entry e = tt

  breaks_fine : (build : Build) (entry : Entry) (status : Status) → is_broken status ≡ true → IsEntryFor list all shares own build entry
      → IsEntryFor list all shares own build (with_status status entry)
  breaks_fine build entry status broken is = record {
    stands = broken_stands build.cells status (with_status status entry) broken;
    steps = is.steps;
    inside = is.inside;
    owned = λ pending. absurd (false_true (sym (broken_apart status broken).0 ∙ pending));
    sources = λ pending. absurd (false_true (sym (broken_apart status broken).0 ∙ pending));
  }

  module _ (number : ℕ) (known : AreKnown list all shares names whole after number) (build : Build) where
    done_fine : (entry done : Entry) → IsSound names whole number entry → IsEntryFor list all shares own build entry
        → ending names after entry ≡ Some statuses.Done
        → (done ≡ done_with done.views entry) × (cells done.views ≡ made_cells names after entry.recipe (own_views entry.own))
        → IsEntryFor list all shares own build done
    done_fine entry done fine is at so =
        let complete = completes names after entry fine.mark at in
        let two = given list all shares names whole after number known build.cells entry complete.pending is.stands (fine.steps complete.pending)
        complete.has_sources (fine.own complete.pending) complete.has_bytes is.inside in
        subst (IsEntryFor list all shares own build) (sym so.0)
        (record {
          stands = (ap (map (cell_at all shares)) so.1 ∙ two.0, refl, refl);
          steps = tt;
          inside = within_places (IsAsLong all) shares done.views
              (subst (λ (pairs : List (ℕ × ℕ)). AllByRecursion (λ (pair : ℕ × ℕ). IsPlace (IsAsLong all) shares pair) pairs)
              (sym so.1) two.1);
          owned = λ pending. absurd (false_true pending);
          sources = λ pending. absurd (false_true pending);
        })

    one_stands : (held now : Option Entry) → IfSome held (IsSound names whole number) → EntryStands list all shares own build held
        → Ends names after held now → EntryStands list all shares own build now
    one_stands None now fine is so = subst (EntryStands list all shares own build) (sym so) tt
    one_stands (Some entry) now fine is so = by (ending names after entry) refl so
      where
        done : (now : Option Entry) → ending names after entry ≡ Some statuses.Done
            → IsSomeAnd now (λ (d : Entry). (d ≡ done_with d.views entry) × (cells d.views ≡ made_cells names after entry.recipe (own_views entry.own)))
            → EntryStands list all shares own build now
        done None at so = absurd so
        done (Some d) at so = done_fine entry d fine is at so

        broken : (status : Status) → ending names after entry ≡ Some status → is_done status ≡ false → now ≡ Some (with_status status entry)
            → EntryStands list all shares own build now
        broken status at other so =
            subst (EntryStands list all shares own build) (sym so)
            (breaks_fine build entry status (breaks names after entry status fine.mark at other) is)

        by : (o : Option Status) → ending names after entry ≡ o → EndsAs names after entry o now → EntryStands list all shares own build now
        by None at so = subst (EntryStands list all shares own build) (sym so) is
        by (Some statuses.Done) at so = done now at so
        by (Some status) at so = broken status at refl so

    known_next : (now : Option Entry) → EntryStands list all shares own build now → entry_at after number ≡ now
        → number_of build.name names ≡ Some number → cells_in list build.name ≡ build.cells
        → AreKnown list all shares names whole after (number + 1)
    known_next now is here placed same_cells name k below at done = pick (nat_lt k number) refl
      where
        views_there : number_of name names ≡ Some number → source_views names after name ≡ option_map_or (λ (entry : Entry). entry.views) now []
        views_there at =
            ap (λ (o : Option ℕ). option_map_or (λ (entry : Entry). entry.views) (option_and_then (entry_at after) o) []) at
            ∙ ap (λ (o : Option Entry). option_map_or (λ (entry : Entry). entry.views) o []) here

        of_done : (status : Status) (entry : Entry) → is_done status ≡ true → StandsFor list all shares build.cells status entry
            → denoted all shares entry.views ≡ build.cells
        of_done statuses.Done entry e is = is.0
        of_done status entry e is = absurd (false_true e)

        it : (one : Option Entry) → EntryStands list all shares own build one → option_map_or (λ (entry : Entry). is_done entry.status) one false ≡ true
            → (denoted all shares (option_map_or (λ (entry : Entry). entry.views) one []) ≡ build.cells)
            × AllByRecursion (IsInside all shares) (option_map_or (λ (entry : Entry). entry.views) one [])
        it None is e = absurd (false_true e)
        it (Some entry) is e = (
          of_done entry.status entry e is.stands,
          append_second (IsInside all shares)
              (fixed_views entry.recipe ++ own_views entry.own) entry.views is.inside,
        )

        last : k ≡ number → IsKnown list all shares names whole after (number + 1) name
        last same =
            let there : number_of name names ≡ Some number = at ∙ ap (λ (n : ℕ). Some n) same in
            let one : name ≡ build.name = same_name names name build.name number there placed in
            let two = it now is (sym (ap (λ (o : Option Entry). option_map_or (λ (entry : Entry). is_done entry.status) o false)
            (ap (entry_at after) same ∙ here)) ∙ done) in (
              ap (denoted all shares) (views_there there) ∙ two.0 ∙ sym same_cells ∙ ap (cells_in list) (sym one),
              subst (AllByRecursion (IsInside all shares)) (sym (views_there there)) two.1,
            )

        pick : (b : Bool) → nat_lt k number ≡ b → IsKnown list all shares names whole after (number + 1) name
        pick true e = let within : k < number = grind (arith, nat_tests) in known name k within at done
        pick false e = let behind : number ≤ k = grind (arith, nat_tests) in last (omega (arith, behind, below))

-- ---- all of them

module _ (list : List Build) (all : List Piece) (shares : List (Option Share)) (own : ℕ → List ℕ) (names : List ℕ) (whole after : Entries)
    (sound : AreSound names whole) (each : AllEnd names whole after) where
  pub passed_stand : (number : ℕ) (blobs : List Build) (entries afters : Entries)
      → AllByRecursion (λ (build : Build). cells_in list build.name ≡ build.cells) blobs → ArePlaced names number blobs
      → Beside (EntryStands list all shares own) blobs entries → IsBehind whole number entries → IsBehind after number afters
      → length entries ≡ length afters → AreKnown list all shares names whole after number → Beside (EntryStands list all shares own) blobs afters
  passed_stand number [] [] [] found placed beside behind now long known = tt
  passed_stand number [] [] (here ∷ afters) found placed beside behind now long known = absurd (omega (arith, long))
  passed_stand number [] (held ∷ entries) afters found placed beside behind now long known = absurd beside
  passed_stand number (build ∷ blobs) [] afters found placed beside behind now long known = absurd beside
  passed_stand number (build ∷ blobs) (held ∷ entries) [] found placed beside behind now long known = absurd (omega (arith, long))
  passed_stand number (build ∷ blobs) (held ∷ entries) (here ∷ afters) found placed beside behind now long known =
      let at : entry_at whole number ≡ held = behind_here whole number held entries behind in
      let at_now : entry_at after number ≡ here = behind_here after number here afters now in
      let fine : IfSome held (IsSound names whole number) =
      subst (λ (o : Option Entry). IfSome o (IsSound names whole number)) at (sound.each number) in
      let ends : Ends names after held here =
      subst (λ (o : Option Entry). Ends names after o here) at (subst (Ends names after (entry_at whole number)) at_now (each number)) in
      let is : EntryStands list all shares own build here =
      one_stands list all shares own names whole after number known build held here fine beside.0 ends in
      let rest : length entries ≡ length afters = omega (arith, long) in (
        is,
        passed_stand (number + 1) blobs entries afters found.1 placed.1 beside.1 (behind_next whole number held entries behind)
            (behind_next after number here afters now) rest
            (known_next list all shares own names whole after number known build here is at_now placed.0 found.0),
      )
