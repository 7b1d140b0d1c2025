-- A piece that is to come is on its way to a page file or gathered, and one that is on its way or gathered an entry has.
use Rattle.std.proofs.Common.{◌≡◌, ℕ, ◌==◌, Bool, true, false, ◌||◌, List, [], ◌∷◌, map, refl, ap, subst, sym, ◌∙◌, Option, Some, None, ⊎_elim, cond}
use Rattle.std.specs.Prelude.{IfSome}
use Rattle.std.specs.Option.{option_map, option_map_or}
use Rattle.std.specs.List.{AllByRecursion, list_any}
use Rattle.std.proofs.lemmas.Bool.{eqb-true, eq-eqb}
use Rattle.std.proofs.lemmas.List.Folds.{list_any-append}
use Rattle.blob_words.specs.declared.status.Status.{Status}
use Rattle.blob_words.specs.declared.status.Status.TheVariants as statuses
use Rattle.item_shares.specs.declared.shares.Share.{Share}
use Rattle.blob_entries.specs.declared.entry.Entry.{Entry}
use Rattle.blob_entries.specs.Statuses.{is_pending}
use Rattle.blob_entries.specs.declared.step.Step.{Step}
use Rattle.blob_entries.specs.declared.step.Step.TheVariants.{Own, Fixed, Source}
use Rattle.blob_model.specs.Session.{Session}
use Rattle.blob_model.specs.History.{History}
use Rattle.blob_model.specs.Builds.{Build, build_in}
use Rattle.blob_model.specs.Order.{Distinct, named}
use Rattle.blob_model.specs.Pieces.{Piece}
use Rattle.blob_model.specs.Reached.{is_granted_piece}
use Rattle.blob_model.specs.Standing.{ended, is_granted}
use Rattle.blob_model.proofs.Lists.{false_true, for_each, or_cases, or_first, or_second}
use Rattle.registry_laws.specs.Agree.{Beside}
use Rattle.store_laws.specs.Having.{has_piece, has_by, is_on, is_own_step, paired}
use Rattle.store_laws.specs.Items.{is_number, piece_at}
use Rattle.store_laws.specs.Outlines.{Outline, outline, status_now}
use Rattle.store_laws.specs.Recipes.{EntryStands, IsEntryFor, RowsBeside, own_numbers}
use Rattle.store_laws.specs.Rows.{AreWritten, Coming, Row, bare, coming_of, coming_slots, gathering}
use Rattle.store_laws.specs.Rows.{gathers, is_gathered, pinned, row_of, settled, waiting, without_slots, writing}
use Rattle.store_laws.proofs.ComingNow.{gathering_now, is_writing, sent_by_status, sent_comes, writing_now}
use Rattle.store_laws.proofs.Paired.{AreOutlined, IsTold, by_first, outline_at, rest_of}

-- ---- rows

abbrev pub row_at : Session → History → (ℕ → Bool) → Build → Option Row
row_at s h stands build = cond (stands build.name) (Some (row_of s h build)) None

abbrev pub AreRowed : Session → History → (ℕ → Bool) → List Build → List (Option Row) → Type 0
AreRowed s h stands list rows = map (option_map bare) rows ≡ map (row_at s h stands) list

pub same_gathers : (coming : Coming) → gathers (without_slots coming) ≡ gathers coming
same_gathers settled = refl
same_gathers waiting = refl
same_gathers (gathering segments) = refl
same_gathers (writing slots came) = refl

same_writing : (coming : Coming) → is_writing (without_slots coming) ≡ is_writing coming
same_writing settled = refl
same_writing waiting = refl
same_writing (gathering segments) = refl
same_writing (writing slots came) = refl

any_map : {X Y : Type 0} (f : Y → Bool) (g : X → Y) (xs : List X) → list_any f (map g xs) ≡ list_any (λ (x : X). f (g x)) xs
any_map f g [] = refl
any_map f g (x ∷ xs) = ap (λ (b : Bool). f (g x) || b) (any_map f g xs)

pub own_any : (number : ℕ) (recipe : List Step) → list_any (λ (each : ℕ). each == number) (own_numbers recipe) ≡ list_any (is_own_step number) recipe
own_any number [] = refl
own_any number (Own piece len ∷ recipe) = ap (λ (b : Bool). (piece.0 == number) || b) (own_any number recipe)
own_any number (Fixed view ∷ recipe) = own_any number recipe
own_any number (Source name off len ∷ recipe) = own_any number recipe

-- a name whose bytes are gathered is that of a blob
gathered_named : (list : List Build) (rows : List (Option Row)) (name : ℕ) → is_gathered list rows name ≡ true → named name list ≡ true
gathered_named [] rows name e = absurd (false_true e)
gathered_named (build ∷ list) [] name e = absurd (false_true e)
gathered_named (build ∷ list) (held ∷ rows) name e = go (build.name == name) e (gathered_named list rows name)
  where
    go : (b : Bool) → cond b (option_map_or (λ (row : Row). gathers row.coming) held false) (is_gathered list rows name) ≡ true
        → (is_gathered list rows name ≡ true → named name list ≡ true) → (b || named name list) ≡ true
    go true f rest = refl
    go false f rest = rest f

gathered_later : (build : Build) (list : List Build) (held : Option Row) (rows : List (Option Row)) (name : ℕ) → named build.name list ≡ false
    → is_gathered list rows name ≡ true → is_gathered (build ∷ list) (held ∷ rows) name ≡ true
gathered_later build list held rows name fresh e = go (build.name == name) refl
  where
    go : (b : Bool) → (build.name == name) ≡ b → cond b (option_map_or (λ (row : Row). gathers row.coming) held false) (is_gathered list rows name) ≡ true
    go true at =
        let there : named build.name list ≡ true = subst (λ (n : ℕ). named n list ≡ true) (sym (eqb-true build.name name at))
        (gathered_named list rows name e) in
        absurd (false_true (sym fresh ∙ there))
    go false at = e

module _ (s : Session) (h : History) (stands : ℕ → Bool) (whole : List Build) (all : List Piece) (shares : List (Option Share)) (own : ℕ → List ℕ)
    (ends : (name : ℕ) → IfSome (ended h name) (λ (status : Status). is_pending status ≡ false)) (piece : Piece)
    (mine : list_any (λ (each : ℕ). each == piece.number) (own piece.blob) ≡ true)
    (yours : (name : ℕ) → list_any (λ (each : ℕ). each == piece.number) (own name) ≡ true → name ≡ piece.blob) where
  abbrev passes : ℕ → Bool
  passes slot = is_number piece.number (piece_at shares slot)

  abbrev pub on_way : List (Option Row) → Bool
  on_way rows = list_any passes (pinned rows)

  abbrev Written : Build → Row → Type 0
  Written build row = AreWritten shares (own build.name) row.coming

  -- by what stands first: no entry and no row, or both
  by_both : (goal : Option Entry → Option Row → Type 0) (build : Build) (list : List Build) (held : Option Entry) (entries : List (Option Entry))
      (row : Option Row) (rows : List (Option Row))
      → AreOutlined s h stands (build ∷ list) (held ∷ entries) → AreRowed s h stands (build ∷ list) (row ∷ rows)
      → (stands build.name ≡ false → goal None None)
      → ((entry : Entry) (one : Row) → IsTold s h stands (build, entry) → without_slots one.coming ≡ coming_of s h build → goal (Some entry) (Some one))
      → goal held row
  by_both goal build list held entries row rows e f none some =
      let outlined : option_map outline held ≡ outline_at s h stands build = cc in
      let rowed : option_map bare row ≡ row_at s h stands build = cc in
      by_first s h stands (λ (one : Option Entry). goal one row) build held outlined (λ off. no_row row off rowed (none off))
      (λ entry told. a_row row entry told rowed (some entry))
    where
      no_row : (row : Option Row) → stands build.name ≡ false → option_map bare row ≡ row_at s h stands build → goal None None → goal None row
      no_row None off is g = g
      no_row (Some one) off is g = let bad : Some (bare one) ≡ None = is ∙ ap (λ (b : Bool). cond b (Some (row_of s h build)) None) off in absurd (cc bad)

      a_row : (row : Option Row) (entry : Entry) → IsTold s h stands (build, entry) → option_map bare row ≡ row_at s h stands build
          → ((one : Row) → IsTold s h stands (build, entry) → without_slots one.coming ≡ coming_of s h build → goal (Some entry) (Some one))
          → goal (Some entry) row
      a_row None entry told is g =
          let bad : None ≡ Some (row_of s h build) = is ∙ ap (λ (b : Bool). cond b (Some (row_of s h build)) None) told.standing in absurd (cc bad)
      a_row (Some one) entry told is g =
          let same : Some (bare one) ≡ Some (row_of s h build) = is ∙ ap (λ (b : Bool). cond b (Some (row_of s h build)) None) told.standing in
          let bares : bare one ≡ row_of s h build = cc in
          g one told (ap (λ (r : Row). r.coming) bares)

  rows_rest : (build : Build) (list : List Build) (row : Option Row) (rows : List (Option Row)) → AreRowed s h stands (build ∷ list) (row ∷ rows)
      → AreRowed s h stands list rows
  rows_rest build list row rows e = cc

  status_is : (build : Build) (entry : Entry) → IsTold s h stands (build, entry) → entry.status ≡ status_now s h build
  status_is build entry told = ap (λ (o : Outline). o.status) told.outline_is

  -- the slots of written pieces hold the piece where it is among them
  written_any : (numbers : List ℕ) (coming : Coming) → is_writing coming ≡ true → AreWritten shares numbers coming
      → list_any passes (coming_slots coming) ≡ list_any (λ (each : ℕ). each == piece.number) numbers
  written_any numbers settled e are = absurd (false_true e)
  written_any numbers waiting e are = absurd (false_true e)
  written_any numbers (gathering segments) e are = absurd (false_true e)
  written_any numbers (writing slots came) e are =
      sym (any_map (is_number piece.number) (piece_at shares) slots) ∙ ap (list_any (is_number piece.number)) are
      ∙ any_map (is_number piece.number) (λ (number : ℕ). Some number) numbers

  some_writes : (coming : Coming) → list_any passes (coming_slots coming) ≡ true → is_writing coming ≡ true
  some_writes settled e = absurd (false_true e)
  some_writes waiting e = absurd (false_true e)
  some_writes (gathering segments) e = absurd (false_true e)
  some_writes (writing slots came) e = refl

  -- an entry whose bytes are to come has its own pieces
  has_coming : (build : Build) (entry : Entry) → IsTold s h stands (build, entry) → IsEntryFor whole all shares own build entry
      → status_now s h build ≡ statuses.PendingTransport
      → list_any (λ (each : ℕ). each == piece.number) (own build.name) ≡ true → has_piece shares piece.number (build, entry) ≡ true
  has_coming build entry told fine sent among =
      let status : entry.status ≡ statuses.PendingTransport = status_is build entry told ∙ sent in
      let steps : list_any (is_own_step piece.number) entry.recipe ≡ true =
      sym (own_any piece.number entry.recipe) ∙ ap (list_any (λ (each : ℕ). each == piece.number)) (fine.owned (ap is_pending status)) ∙ among in
      subst (λ (st : Status). has_by (is_on shares piece.number) (is_own_step piece.number) st entry ≡ true) (sym status) steps

  -- ---- what is to come is on its way or gathered

  abbrev pub Comes : List Build → List (Option Row) → Build × Entry → Type 0
  Comes list rows pair =
      pair.1.status ≡ statuses.PendingTransport → list_any (is_own_step piece.number) pair.1.recipe ≡ true
      → (on_way rows || is_gathered list rows piece.blob) ≡ true

  further : (build : Build) (list : List Build) (row : Option Row) (rows : List (Option Row)) (pairs : List (Build × Entry)) → named build.name list ≡ false
      → AllByRecursion (Comes list rows) pairs → AllByRecursion (Comes (build ∷ list) (row ∷ rows)) pairs
  further build list row rows pairs fresh each = for_each (Comes list rows) (Comes (build ∷ list) (row ∷ rows)) pairs (λ pair f status steps. up
      (f status steps)) each
    where
      up : (on_way rows || is_gathered list rows piece.blob) ≡ true → (on_way (row ∷ rows) || is_gathered (build ∷ list) (row ∷ rows) piece.blob) ≡ true
      up e =
          ⊎_elim
          (λ (way : on_way rows ≡ true).
          or_first (on_way (row ∷ rows)) (is_gathered (build ∷ list) (row ∷ rows) piece.blob)
          (list_any-append passes (option_map_or (λ (one : Row). coming_slots one.coming) row []) (pinned rows)
          ∙ or_second (list_any passes (option_map_or (λ (one : Row). coming_slots one.coming) row [])) (on_way rows) way))
          (λ (gather : is_gathered list rows piece.blob ≡ true).
          or_second (on_way (row ∷ rows)) (is_gathered (build ∷ list) (row ∷ rows) piece.blob) (gathered_later build list row rows piece.blob fresh gather))
          (or_cases (on_way rows) (is_gathered list rows piece.blob) e)

  comes_first : (build : Build) (list : List Build) (entry : Entry) (one : Row) (rows : List (Option Row)) → IsTold s h stands (build, entry)
      → without_slots one.coming ≡ coming_of s h build → IsEntryFor whole all shares own build entry → Written build one
      → Comes (build ∷ list) (Some one ∷ rows) (build, entry)
  comes_first build list entry one rows told coming_is fine written status steps =
      let sent = sent_by_status s h build (ends build.name) (sym (status_is build entry told) ∙ status) in
      let among : list_any (λ (each : ℕ). each == piece.number) (own build.name) ≡ true =
      ap (list_any (λ (each : ℕ). each == piece.number)) (sym (fine.owned (ap is_pending status))) ∙ own_any piece.number entry.recipe ∙ steps in
      ⊎_elim
      (λ (gather : gathers (coming_of s h build) ≡ true).
      let held : gathers one.coming ≡ true = sym (same_gathers one.coming) ∙ ap gathers coming_is ∙ gather in
      or_second (on_way (Some one ∷ rows)) (is_gathered (build ∷ list) (Some one ∷ rows) piece.blob)
      (ap (λ (b : Bool). cond b (gathers one.coming) (is_gathered list rows piece.blob)) (eq-eqb build.name piece.blob (yours build.name among)) ∙ held))
      (λ (write : is_writing (coming_of s h build) ≡ true).
      let writes : is_writing one.coming ≡ true = sym (same_writing one.coming) ∙ ap is_writing coming_is ∙ write in
      or_first (on_way (Some one ∷ rows)) (is_gathered (build ∷ list) (Some one ∷ rows) piece.blob)
      (list_any-append passes (coming_slots one.coming) (pinned rows)
      ∙ or_first (list_any passes (coming_slots one.coming)) (on_way rows) (written_any (own build.name) one.coming writes written ∙ among)))
      (sent_comes s h build sent)

  pub all_come : (list : List Build) (entries : List (Option Entry)) (rows : List (Option Row)) → Distinct list → AreOutlined s h stands list entries
      → Beside (EntryStands whole all shares own) list entries → AreRowed s h stands list rows → RowsBeside Written list rows
      → AllByRecursion (Comes list rows) (paired list entries)
  all_come [] entries rows distinct e beside f written = tt
  all_come (build ∷ list) [] rows distinct e beside f written = tt
  all_come (build ∷ list) (held ∷ entries) [] distinct e beside f written = absurd (cc f)
  all_come (build ∷ list) (held ∷ entries) (row ∷ rows) distinct e beside f written =
      by_both
      (λ (o : Option Entry) (r : Option Row).
      EntryStands whole all shares own build o → RowsBeside Written (build ∷ list) (r ∷ rows)
      → AllByRecursion (Comes (build ∷ list) (r ∷ rows)) (paired (build ∷ list) (o ∷ entries))) build list held
      entries row rows e f
      (λ off fine also.
      further build list None rows (paired list entries) distinct.0 (all_come list entries rows distinct.1
      (rest_of s h stands build list held entries e) beside.1 (rows_rest build list row rows f) also))
      (λ entry one told coming_is fine also. (
        comes_first build list entry one rows told coming_is fine also.0,
        further build list (Some one) rows (paired list entries) distinct.0 (all_come list entries rows distinct.1
            (rest_of s h stands build list held entries e) beside.1 (rows_rest build list row rows f) also.1),
      )) beside.0 written

  -- ---- what is on its way an entry has

  pub way_had : (list : List Build) (entries : List (Option Entry)) (rows : List (Option Row)) → AreOutlined s h stands list entries
      → Beside (EntryStands whole all shares own) list entries → AreRowed s h stands list rows → RowsBeside Written list rows → on_way rows ≡ true
      → list_any (has_piece shares piece.number) (paired list entries) ≡ true
  way_had [] entries [] e beside f written way = absurd (false_true way)
  way_had [] entries (row ∷ rows) e beside f written way = absurd (cc f)
  way_had (build ∷ list) [] rows e beside f written way = absurd beside
  way_had (build ∷ list) (held ∷ entries) [] e beside f written way = absurd (cc f)
  way_had (build ∷ list) (held ∷ entries) (row ∷ rows) e beside f written way =
      by_both
      (λ (o : Option Entry) (r : Option Row).
      EntryStands whole all shares own build o → RowsBeside Written (build ∷ list) (r ∷ rows) → on_way (r ∷ rows) ≡ true
      → list_any (has_piece shares piece.number) (paired (build ∷ list) (o ∷ entries)) ≡ true) build list held entries row rows e f
      (λ off fine also there. way_had list entries rows (rest_of s h stands build list held entries e) beside.1 (rows_rest build list row rows f) also there)
      (λ entry one told coming_is fine also there.
      ⊎_elim
      (λ (here : list_any passes (coming_slots one.coming) ≡ true).
      let writes = some_writes one.coming here in
      let sent = writing_now s h build (ap is_writing (sym coming_is) ∙ same_writing one.coming ∙ writes) in
      or_first (has_piece shares piece.number (build, entry)) (list_any (has_piece shares piece.number) (paired list entries))
      (has_coming build entry told fine sent (sym (written_any (own build.name) one.coming writes also.0) ∙ here)))
      (λ (more : on_way rows ≡ true).
      or_second (has_piece shares piece.number (build, entry)) (list_any (has_piece shares piece.number) (paired list entries))
      (way_had list entries rows (rest_of s h stands build list held entries e) beside.1 (rows_rest build list row rows f) also.1 more))
      (or_cases (list_any passes (coming_slots one.coming)) (on_way rows) (sym (list_any-append passes (coming_slots one.coming) (pinned rows))
      ∙ there))) beside.0 written way

  -- ---- what is gathered is granted, and an entry has it

  abbrev pub IsHad : List (Build × Entry) → Type 0
  IsHad pairs = (is_granted_piece h whole piece ≡ true) × (list_any (has_piece shares piece.number) pairs ≡ true)

  pub gathered_had : (list : List Build) (entries : List (Option Entry)) (rows : List (Option Row))
      → AllByRecursion (λ (build : Build). build_in whole build.name ≡ Some build) list
      → AreOutlined s h stands list entries → Beside (EntryStands whole all shares own) list entries → AreRowed s h stands list rows
      → is_gathered list rows piece.blob ≡ true
      → IsHad (paired list entries)
  gathered_had [] entries rows there e beside f gather = absurd (false_true gather)
  gathered_had (build ∷ list) [] rows there e beside f gather = absurd beside
  gathered_had (build ∷ list) (held ∷ entries) [] there e beside f gather = absurd (false_true gather)
  gathered_had (build ∷ list) (held ∷ entries) (row ∷ rows) there e beside f gather =
      by_both
      (λ (o : Option Entry) (r : Option Row).
      EntryStands whole all shares own build o → is_gathered (build ∷ list) (r ∷ rows) piece.blob ≡ true
      → IsHad (paired (build ∷ list) (o ∷ entries))) build list held entries row rows e f
      (λ off fine now.
      rest_none (build.name == piece.blob) now (gathered_had list entries rows there.1 (rest_of s h stands build list held entries e) beside.1
      (rows_rest build list row rows f)))
      (λ entry one told coming_is fine now.
      some (build.name == piece.blob) refl entry one told coming_is fine now
      (gathered_had list entries rows there.1 (rest_of s h stands build list held entries e) beside.1 (rows_rest build list row rows f))) beside.0 gather
    where
      rest_none : (b : Bool) → cond b false (is_gathered list rows piece.blob) ≡ true → (is_gathered list rows piece.blob ≡ true
          → IsHad (paired list entries)) → IsHad (paired list entries)
      rest_none true now rest = absurd (false_true now)
      rest_none false now rest = rest now

      some : (b : Bool) → (build.name == piece.blob) ≡ b → (entry : Entry) (one : Row) → IsTold s h stands (build, entry)
          → without_slots one.coming ≡ coming_of s h build
          → IsEntryFor whole all shares own build entry → cond b (gathers one.coming) (is_gathered list rows piece.blob) ≡ true
          → (is_gathered list rows piece.blob ≡ true → IsHad (paired list entries)) → IsHad ((build, entry) ∷ paired list entries)
      some true at entry one told coming_is fine now rest =
          let named_so : build.name ≡ piece.blob = eqb-true build.name piece.blob at in
          let gathered = gathering_now s h build (ap gathers (sym coming_is) ∙ same_gathers one.coming ∙ now) in (
            ap (λ (o : Option Build). option_map_or (is_granted h) o false) (ap (build_in whole) (sym named_so) ∙ there.0) ∙ gathered.granted,
            or_first (has_piece shares piece.number (build, entry)) (list_any (has_piece shares piece.number) (paired list entries))
                (has_coming build entry told fine gathered.status (ap (λ (n : ℕ). list_any (λ (each : ℕ). each == piece.number) (own n)) named_so ∙ mine)),
          )
      some false at entry one told coming_is fine now rest =
          let more = rest now in
          (more.0, or_second (has_piece shares piece.number (build, entry)) (list_any (has_piece shares piece.number) (paired list entries)) more.1)
