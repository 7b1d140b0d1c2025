-- What a pass leaves of entries, rows and items stands behind the endings.
use Rattle.std.proofs.Common.{◌≡◌, ℕ, ◌+◌, Bool, cond, List, [], ◌∷◌, map, length, refl, ap, subst, sym, ◌∙◌, Option, Some, None, arith}
use Rattle.std.specs.Prelude.{IfSome}
use Rattle.std.specs.Option.{option_map, option_map_or}
use Rattle.std.specs.List.{AllByRecursion}
use Rattle.item_shares.specs.Shares.{item_at}
use Rattle.item_shares.specs.declared.shares.Share.{Share}
use Rattle.blob_items.specs.declared.view.View.{View}
use Rattle.blob_entries.specs.Book.{Book, entry_at}
use Rattle.blob_entries.specs.Counted.{SameItems}
use Rattle.blob_entries.specs.Endings.{Ends}
use Rattle.blob_entries.specs.Holdings.{held_views}
use Rattle.blob_entries.specs.Sound.{AreSound, IsSound}
use Rattle.blob_entries.specs.declared.entry.Entry.{Entry}
use Rattle.blob_registry.specs.Passes.{Finishes}
use Rattle.blob_registry.specs.declared.ended_blob.EndedBlob.{EndedBlob}
use Rattle.page_files.specs.Files.{Files}
use Rattle.quota_queue.specs.Queue.{Queue}
use Rattle.blob_model.specs.Builds.{Build, build_in, builds, cells_in}
use Rattle.blob_model.specs.History.{History}
use Rattle.blob_model.specs.Order.{Distinct}
use Rattle.blob_model.specs.Pieces.{Piece, pieces}
use Rattle.blob_model.specs.Session.{Session, page_limit}
use Rattle.blob_model.specs.Standing.{is_unfinished}
use Rattle.blob_model.proofs.Lists.{for_each}
use Rattle.registry_laws.specs.Agree.{Agrees, AgreesInMarks, Beside}
use Rattle.registry_laws.specs.Laws.{Describes}
use Rattle.registry_laws.proofs.Lives.{IsBehind, behind_all, behind_here, behind_next}
use Rattle.registry_laws.proofs.Passed.{AllEnd, pass_agrees}
use Rattle.registry_laws.proofs.Places.{ArePlaced, names_of, placed}
use Rattle.store_laws.specs.Items.{Facts, ItemsStand}
use Rattle.store_laws.specs.Outlines.{IsMarkedRight, outline}
use Rattle.store_laws.specs.Passing.{EntriesPass, after_pass, rows_passed}
use Rattle.store_laws.specs.Recipes.{EntriesStand, EntryStands}
use Rattle.store_laws.specs.Rows.{Row, row_of}
use Rattle.store_laws.specs.Stands.{ContentsStand}
use Rattle.store_laws.specs.SweepLaws.{EntriesAre}
use Rattle.store_laws.specs.Uses.{facts_of, own_pieces}
use Rattle.store_laws.proofs.Leaving.{entry_kept}
use Rattle.store_laws.proofs.Paired.{AreOutlined, all_blobs_found, first_of, outline_at, rest_of}
use Rattle.store_laws.proofs.PassEntries.{passed_stand}
use Rattle.store_laws.proofs.PassKeeps.{endings_keep}
use Rattle.store_laws.proofs.PassRows.{items_same, marked_now, outlined_now, rows_now_stand, written_settled}

abbrev Entries : Type 0
Entries = List (Option Entry)

module _ (s : Session) (h : History) (stands : ℕ → Bool) (names : List ℕ) (whole after : Entries) (sound : AreSound names whole)
    (each : AllEnd names whole after) where
  abbrev g : History
  g = after_pass s h

  fine_at : (number : ℕ) (held : Option Entry) (entries : Entries) → IsBehind whole number (held ∷ entries) → IfSome held (IsSound names whole number)
  fine_at number held entries behind =
      subst (λ (o : Option Entry). IfSome o (IsSound names whole number)) (behind_here whole number held entries behind) (sound.each number)

  ends_at : (number : ℕ) (held now : Option Entry) (entries afters : Entries) → IsBehind whole number (held ∷ entries)
      → IsBehind after number (now ∷ afters) → Ends names after held now
  ends_at number held now entries afters behind behind_now =
      subst (λ (o : Option Entry). Ends names after o now) (behind_here whole number held entries behind)
      (subst (Ends names after (entry_at whole number)) (behind_here after number now afters behind_now) (each number))

  outlined : (number : ℕ) (list : List Build) (entries afters : Entries) → AreOutlined s h stands list entries
      → Beside (Agrees (page_limit s) g) list afters → IsBehind whole number entries → IsBehind after number afters → length entries ≡ length afters
      → AreOutlined s g stands list afters
  outlined number [] [] [] was agree behind now long = refl
  outlined number [] (held ∷ entries) afters was agree behind now long = absurd (cc was)
  outlined number [] [] (here ∷ afters) was agree behind now long = absurd (omega (arith, long))
  outlined number (build ∷ list) [] afters was agree behind now long = absurd (cc was)
  outlined number (build ∷ list) (held ∷ entries) [] was agree behind now long = absurd (omega (arith, long))
  outlined number (build ∷ list) (held ∷ entries) (here ∷ afters) was agree behind now long =
      let rest : length entries ≡ length afters = omega (arith, long) in
      let one : option_map outline here ≡ outline_at s g stands build =
      outlined_now s h stands names whole after number build held here (stands build.name) (fine_at number held entries behind)
      (first_of s h stands build list held entries was) (ends_at number held here entries afters behind now) agree.0 in
      let more : AreOutlined s g stands list afters =
      outlined (number + 1) list entries afters (rest_of s h stands build list held entries was) agree.1 (behind_next whole number held entries behind)
      (behind_next after number here afters now) rest in
      λ i. one i ∷ more i

  marked : (number : ℕ) (list : List Build) (entries afters : Entries) → Beside (IsMarkedRight s h) list entries
      → IsBehind whole number entries → IsBehind after number afters → length entries ≡ length afters
      → Beside (IsMarkedRight s g) list afters
  marked number [] [] [] was behind now long = tt
  marked number [] (held ∷ entries) afters was behind now long = absurd was
  marked number [] [] (here ∷ afters) was behind now long = absurd (omega (arith, long))
  marked number (build ∷ list) [] afters was behind now long = absurd was
  marked number (build ∷ list) (held ∷ entries) [] was behind now long = absurd (omega (arith, long))
  marked number (build ∷ list) (held ∷ entries) (here ∷ afters) was behind now long =
      let rest : length entries ≡ length afters = omega (arith, long) in (
        marked_now s h stands names whole after number build held here (fine_at number held entries behind)
            (ends_at number held here entries afters behind now),
        marked (number + 1) list entries afters was.1 (behind_next whole number held entries behind) (behind_next after number here afters now) rest,
      )

-- entries whose views lie where they lay stand as before
each_kept : (list : List Build) (all : List Piece) (own : ℕ → List ℕ) (shares later : List (Option Share))
    → ((slot : ℕ) → item_at later slot ≡ item_at shares slot) → (blobs : List Build) (entries : Entries)
    → Beside (EntryStands list all shares own) blobs entries → Beside (EntryStands list all later own) blobs entries
each_kept list all own shares later same [] [] is = tt
each_kept list all own shares later same [] (held ∷ entries) is = absurd is
each_kept list all own shares later same (build ∷ blobs) [] is = absurd is
each_kept list all own shares later same (build ∷ blobs) (None ∷ entries) is = (tt, each_kept list all own shares later same blobs entries is.1)
each_kept list all own shares later same (build ∷ blobs) (Some entry ∷ entries) is =
    (entry_kept all shares later list own build entry (views_same (held_views entry)) is.0, each_kept list all own shares later same blobs entries is.1)
  where
    views_same : (views : List View) → AllByRecursion (λ (view : View). item_at later view.slot ≡ item_at shares view.slot) views
    views_same [] = tt
    views_same (view ∷ views) = (same view.slot, views_same views)

cells_found : (list : List Build) → Distinct list
    → AllByRecursion (λ (build : Build). cells_in list build.name ≡ build.cells) list
cells_found list distinct =
    for_each (λ (build : Build). build_in list build.name ≡ Some build) (λ (build : Build). cells_in list build.name ≡ build.cells) list
    (λ build is. ap (λ (o : Option Build). option_map_or (λ (one : Build). one.cells) o []) is) (all_blobs_found list distinct)

module _ (s : Session) (h : History) (stands : ℕ → Bool) (book : Book) (shares : List (Option Share)) (rows : List (Option Row)) (quota : Queue)
    (files : Files) (order : List (ℕ × ℕ)) (contents : ContentsStand s h stands book shares rows quota files order) (tell : Describes s h book)
    (in_marks : AgreesInMarks s h book) (now : Book) (later : List (Option Share)) (list : List EndedBlob) (finishes : Finishes book now list)
    (same : SameItems book.entries now.entries shares later) where
  abbrev final : History
  final = after_pass s h

  abbrev blobs : List Build
  blobs = builds (page_limit s) h

  abbrev rows_now : List (Option Row)
  rows_now = rows_passed s h rows

  at : ArePlaced book.names 0 blobs
  at = subst (λ (names : List ℕ). ArePlaced names 0 blobs) (sym tell.agree.names) (placed blobs tell.distinct)

  same_builds : builds (page_limit s) final ≡ blobs
  same_builds = endings_keep (λ (one : History). builds (page_limit s) one) (λ one name. refl) (λ one name status. refl) s h

  pub agree_now : Beside (Agrees (page_limit s) final) blobs now.entries
  agree_now =
      pass_agrees s book.names book.entries tell.sound now.entries finishes.each [] h blobs book.entries now.entries tell.distinct at
      tell.agree.each in_marks (behind_all book.entries) (record { known = λ name k entry below. absurd (omega (arith, below)) })
      (record { alike = λ k below. absurd (omega (arith, below)) }) (behind_all now.entries) (sym finishes.sized)

  abbrev Stand : List Build → List Piece → (ℕ → List ℕ) → Type 0
  Stand list all own = EntriesStand list all own later now.entries rows_now

  base : Stand blobs (pieces (page_limit s) h) (own_pieces (page_limit s) h)
  base = record {
    each = each_kept blobs (pieces (page_limit s) h) (own_pieces (page_limit s) h) shares later same.items blobs now.entries
        (passed_stand blobs (pieces (page_limit s) h) shares (own_pieces (page_limit s) h) book.names book.entries now.entries tell.sound finishes.each 0
        blobs book.entries now.entries (cells_found blobs tell.distinct) at contents.entries.each (behind_all book.entries) (behind_all now.entries)
        (sym finishes.sized) (λ name k below. absurd (omega (arith, below))));
    written = written_settled shares later same.items (own_pieces (page_limit s) h) (is_unfinished final) blobs rows contents.entries.written;
  }

  same_pieces : pieces (page_limit s) final ≡ pieces (page_limit s) h
  same_pieces = endings_keep (λ (one : History). pieces (page_limit s) one) (λ one name. refl) (λ one name status. refl) s h

  same_own : own_pieces (page_limit s) final ≡ own_pieces (page_limit s) h
  same_own = endings_keep (λ (one : History). own_pieces (page_limit s) one) (λ one name. refl) (λ one name status. refl) s h

  same_facts : facts_of s final ≡ facts_of s h
  same_facts = endings_keep (λ (one : History). facts_of s one) (λ one name. refl) (λ one name status. refl) s h

  pub passed_are : EntriesAre s final stands now later rows_now
  passed_are = record {
    names = finishes.names ∙ contents.names ∙ ap names_of (sym same_builds);
    outlines_stand = outlined s h stands book.names book.entries now.entries tell.sound finishes.each 0 blobs book.entries now.entries
        contents.outlines_stand agree_now (behind_all book.entries) (behind_all now.entries) (sym finishes.sized)
        ∙ ap (λ (list : List Build). map (outline_at s final stands) list) (sym same_builds);
    marks = subst (λ (list : List Build). Beside (IsMarkedRight s final) list now.entries) (sym same_builds)
        (marked s h stands book.names book.entries now.entries tell.sound finishes.each 0 blobs book.entries now.entries contents.marks
        (behind_all book.entries) (behind_all now.entries) (sym finishes.sized));
    rows_stand = rows_now_stand s h stands blobs rows contents.rows_stand
        ∙ ap (λ (list : List Build). map (λ (build : Build). cond (stands build.name) (Some (row_of s final build)) None) list) (sym same_builds);
    items = subst (λ (all : List Piece). ItemsStand all (facts_of s final) later) (sym same_pieces)
        (subst (λ (facts : Facts). ItemsStand (pieces (page_limit s) h) facts later) (sym same_facts)
        (items_same shares later same.items (own_pieces (page_limit s) h) (is_unfinished final) (pieces (page_limit s) h) (facts_of s h) contents.items));
    entries = subst (λ (list : List Build). Stand list (pieces (page_limit s) final) (own_pieces (page_limit s) final)) (sym same_builds)
        (subst (λ (all : List Piece). Stand blobs all (own_pieces (page_limit s) final)) (sym same_pieces)
        (subst (λ (own : ℕ → List ℕ). Stand blobs (pieces (page_limit s) h) own) (sym same_own) base));
  }

pub entries_pass : EntriesPass
entries_pass s h stands book shares rows quota files order contents tell in_marks now later list finishes same =
    passed_are s h stands book shares rows quota files order contents tell in_marks now later list finishes same
