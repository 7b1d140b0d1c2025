-- What is held is what is reached.
use Rattle.std.proofs.Common.{◌≡◌, ℕ, ◌+◌, ◌==◌, Bool, true, false, ◌&&◌, ◌||◌, not, List, []}
use Rattle.std.proofs.Common.{◌∷◌, map, refl, ap, subst, sym, ◌∙◌, Option, Some, None, ⊎_elim, cond, length, zero-add}
use Rattle.std.specs.Prelude.{count_by, filter, find, flat_map, IfSome, IsSomeAnd}
use Rattle.std.specs.Option.{option_map_or}
use Rattle.std.specs.List.{AllByRecursion, list_any}
use Rattle.std.proofs.lemmas.Bool.{and_parts, eqb-true, eq-eqb}
use Rattle.std.proofs.lemmas.List.Folds.{list_any-append}
use Rattle.item_shares.specs.declared.item.Item.{Item}
use Rattle.item_shares.specs.declared.item.Item.TheVariants.{Memory, Paged, Reserved, File, Range}
use Rattle.item_shares.specs.declared.shares.Share.{Share}
use Rattle.item_shares.specs.Shares.{item_at}
use Rattle.blob_items.specs.declared.view.View.{View}
use Rattle.blob_entries.specs.declared.entry.Entry.{Entry}
use Rattle.blob_entries.specs.Counts.{count_at, views_on}
use Rattle.blob_entries.specs.Holdings.{held_views, views_in}
use Rattle.blob_entries.specs.Statuses.{is_broken, is_pending}
use Rattle.blob_entries.proofs.Counting.{on_append}
use Rattle.blob_entries.proofs.Holdings.{in_cons}
use Rattle.blob_model.specs.Session.{Session, page_limit}
use Rattle.blob_model.specs.History.{History}
use Rattle.blob_model.specs.Builds.{Build, builds, build_in}
use Rattle.blob_model.specs.Live.{is_live, live}
use Rattle.blob_model.specs.Order.{Distinct}
use Rattle.blob_model.specs.Pages.{in_memory, in_page, reserved}
use Rattle.blob_model.specs.Pieces.{Piece, owns, pieces}
use Rattle.blob_model.specs.Reached.{is_granted_piece, live_cells, owns_some, reached, some_passes}
use Rattle.blob_model.specs.Standing.{is_granted}
use Rattle.blob_model.specs.Waits.{is_waiting}
use Rattle.blob_model.proofs.Lists.{both, false_true, filter_same, for_both, for_each, or_cases, or_first, or_second}
use Rattle.blob_model.proofs.builds.Order.{ordered_distinct}
use Rattle.blob_model.proofs.builds.PieceNumbers.{FoundIn, all_by_number, pieces_numbered}
use Rattle.blob_model.proofs.live.Names.{live_named}
use Rattle.blob_model.proofs.memory.Shrinking.{holds_piece as holds_now, owns_as, some_any}
use Rattle.quota_queue.specs.Queue.{Queue}
use Rattle.page_files.specs.Files.{Files}
use Rattle.blob_entries.specs.Book.{Book}
use Rattle.registry_laws.specs.Agree.{Beside}
use Rattle.store_laws.specs.Having.{AreClosed, has_piece, is_on, is_own_step, is_unbroken, paired, reaches}
use Rattle.store_laws.specs.Items.{Facts, IsPlaced, holds_piece, is_number, piece_at, piece_by, piece_of_item}
use Rattle.store_laws.specs.Cells.{piece_in}
use Rattle.store_laws.specs.Outlines.{Outline, status_now}
use Rattle.store_laws.specs.ReachLaws.{IsAtRest, IsCounted}
use Rattle.store_laws.specs.Recipes.{EntryStands, IsEntryFor}
use Rattle.store_laws.specs.Rows.{Row, is_gathered, pinned}
use Rattle.store_laws.specs.Stands.{AreEmptied, AreExact, ContentsStand}
use Rattle.store_laws.specs.Uses.{facts_of, held_pieces, is_held, own_pieces}
use Rattle.store_laws.proofs.Coming.{Comes, all_come, gathered_had, own_any, way_had}
use Rattle.store_laws.proofs.ComingNow.{waiting_by_status, waits_ungranted}
use Rattle.store_laws.proofs.Having.{IsRead, IsReady, reached_passes}
use Rattle.store_laws.proofs.HeldCounts.{back_pinned, held-counted, slot_of}
use Rattle.store_laws.proofs.Paired.{IsTold, all_blobs_found, blob_pairs, broken_now, closed_pairs, fine_pairs, paired_stand, told_pairs}
use Rattle.store_laws.proofs.Viewed.{iff_true, views_any}
use Rattle.store_laws.proofs.ViewHas.{has_held, step_any, view_has}

-- ---- the views of entries

abbrev pub pair_views : List (Build × Entry) → List View
pair_views pairs = flat_map (λ (pair : Build × Entry). held_views pair.1) pairs

-- as many views on a slot as entries say
pub pair_views_on : (P : Build → Option Entry → Type 0) (list : List Build) (entries : List (Option Entry)) (slot : ℕ) → Beside P list entries
    → views_in entries slot ≡ views_on slot (pair_views (paired list entries))
pair_views_on P [] [] slot beside = refl
pair_views_on P [] (held ∷ entries) slot beside = absurd beside
pair_views_on P (build ∷ list) [] slot beside = refl
pair_views_on P (build ∷ list) (None ∷ entries) slot beside = in_cons None entries slot ∙ zero-add (views_in entries slot)
    ∙ pair_views_on P list entries slot beside.1
pair_views_on P (build ∷ list) (Some entry ∷ entries) slot beside =
    in_cons (Some entry) entries slot
    ∙ ap (λ (n : ℕ). views_on slot (held_views entry) + n) (pair_views_on P list entries slot beside.1)
    ∙ sym (on_append slot (held_views entry) (pair_views (paired list entries)))

pub emptied_pairs : (list : List Build) (entries : List (Option Entry)) → AreEmptied entries
    → AllByRecursion (λ (pair : Build × Entry). is_broken pair.1.status ≡ true → held_views pair.1 ≡ []) (paired list entries)
emptied_pairs [] entries empty = tt
emptied_pairs (build ∷ list) [] empty = tt
emptied_pairs (build ∷ list) (None ∷ entries) empty = emptied_pairs list entries empty.1
emptied_pairs (build ∷ list) (Some entry ∷ entries) empty = (empty.0, emptied_pairs list entries empty.1)

-- ---- small things

pub any_each : {X : Type 0} (p q : X → Bool) (xs : List X) → AllByRecursion (λ (x : X). p x ≡ q x) xs → list_any p xs ≡ list_any q xs
any_each p q [] each = refl
any_each p q (x ∷ xs) each = ap (λ (b : Bool). b || list_any p xs) each.0 ∙ ap (λ (b : Bool). q x || b) (any_each p q xs each.1)

filter_each : (p q : Piece → Bool) (xs : List Piece) → AllByRecursion (λ (x : Piece). p x ≡ q x) xs → filter p xs ≡ filter q xs
filter_each p q [] each = refl
filter_each p q (x ∷ xs) each = ap (λ (b : Bool). cond b (x ∷ filter p xs) (filter p xs)) each.0
    ∙ ap (λ (zs : List Piece). cond (q x) (x ∷ zs) zs) (filter_each p q xs each.1)

pub map_firsts : (f : Build → Bool) (pairs : List (Build × Entry)) → list_any f (map (λ (pair : Build × Entry). pair.0) pairs) ≡ list_any (λ
    (pair : Build × Entry). f pair.0) pairs
map_firsts f [] = refl
map_firsts f (pair ∷ pairs) = ap (λ (b : Bool). f pair.0 || b) (map_firsts f pairs)

-- ---- a piece is among those of its own blob, and of no other

module _ (piece : Piece) (whole : List Piece) (found : FoundIn whole piece.number piece) where
  same_piece : (other : Piece) → FoundIn whole other.number other → (other.number == piece.number) ≡ true → other ≡ piece
  same_piece other there e =
      let at : FoundIn whole piece.number other = subst (λ (n : ℕ). FoundIn whole n other) (eqb-true other.number piece.number e) there in
      let both_found : Some other ≡ Some piece = sym at ∙ found in
      cc

  pub own_blob : (name : ℕ) (xs : List Piece) → AllByRecursion (λ (other : Piece). FoundIn whole other.number other) xs
      → list_any (λ (each : ℕ). each == piece.number) (map (λ (other : Piece). other.number) (filter (λ (other : Piece). other.blob == name) xs)) ≡ true
      → name ≡ piece.blob
  own_blob name [] each e = absurd (false_true e)
  own_blob name (x ∷ xs) each e = go (x.blob == name) refl e (own_blob name xs each.1)
    where
      go : (b : Bool) → (x.blob == name) ≡ b
          → list_any (λ (each : ℕ). each == piece.number) (map (λ (other : Piece). other.number) (cond b (x ∷ filter (λ
          (other : Piece). other.blob == name) xs) (filter (λ (other : Piece). other.blob == name) xs))) ≡ true
          → (list_any (λ (each : ℕ). each == piece.number) (map (λ (other : Piece). other.number) (filter (λ
          (other : Piece). other.blob == name) xs)) ≡ true → name ≡ piece.blob) → name ≡ piece.blob
      go true at f rest =
          ⊎_elim (λ (here : (x.number == piece.number) ≡ true). sym (eqb-true x.blob name at)
          ∙ ap (λ (p : Piece). p.blob) (same_piece x each.0 here)) (λ more. rest more)
          (or_cases (x.number == piece.number) (list_any (λ (each : ℕ). each == piece.number) (map (λ (other : Piece). other.number) (filter (λ
          (other : Piece). other.blob == name) xs))) f)
      go false at f rest = rest f

  pub own_among : (xs : List Piece) → FoundIn xs piece.number piece
      → list_any (λ (each : ℕ). each == piece.number) (map (λ (other : Piece). other.number) (filter (λ (other : Piece). other.blob == piece.blob) xs)) ≡ true
  own_among [] there = absurd (cc there)
  own_among (x ∷ xs) there = go (x.number == piece.number) refl there (own_among xs)
    where
      kept : (b : Bool) → list_any (λ (each : ℕ). each == piece.number) (map (λ (other : Piece). other.number) (filter (λ
          (other : Piece). other.blob == piece.blob) xs)) ≡ true
          → list_any (λ (each : ℕ). each == piece.number)
          (map (λ (other : Piece). other.number) (cond b (x ∷ filter (λ (other : Piece). other.blob == piece.blob) xs) (filter (λ
          (other : Piece). other.blob == piece.blob) xs))) ≡ true
      kept true e = or_second (x.number == piece.number) (list_any (λ (each : ℕ). each == piece.number) (map (λ (other : Piece). other.number) (filter (λ
          (other : Piece). other.blob == piece.blob) xs))) e
      kept false e = e

      go : (b : Bool) → (x.number == piece.number) ≡ b → cond b (Some x) (find (λ (other : Piece). other.number == piece.number) xs) ≡ Some piece
          → (FoundIn xs piece.number piece → list_any (λ (each : ℕ). each == piece.number) (map (λ (other : Piece). other.number) (filter (λ
          (other : Piece). other.blob == piece.blob) xs)) ≡ true)
          → list_any (λ (each : ℕ). each == piece.number)
          (map (λ (other : Piece). other.number) (cond (x.blob == piece.blob) (x ∷ filter (λ (other : Piece). other.blob == piece.blob) xs) (filter (λ
          (other : Piece). other.blob == piece.blob) xs))) ≡ true
      go true at f rest =
          let same : x ≡ piece = cc in
          ap
          (λ (b : Bool).
          list_any (λ (each : ℕ). each == piece.number)
          (map (λ (other : Piece). other.number) (cond b (x ∷ filter (λ (other : Piece). other.blob == piece.blob) xs) (filter (λ
          (other : Piece). other.blob == piece.blob) xs))))
          (eq-eqb x.blob piece.blob (ap (λ (p : Piece). p.blob) same))
          ∙ or_first (x.number == piece.number) (list_any (λ (each : ℕ). each == piece.number) (map (λ (other : Piece). other.number) (filter (λ
          (other : Piece). other.blob == piece.blob) xs))) at
      go false at f rest = kept (x.blob == piece.blob) (rest f)

-- ---- the law

-- what is said of each entry beside its blob
pub record IsResting (s : Session) (h : History) (stands : ℕ → Bool) (whole : List Build) (all : List Piece) (shares : List (Option Share)) (own : ℕ
    → List ℕ) (pair : Build × Entry) : Type 0 where
  pub fine : IsEntryFor whole all shares own pair.0 pair.1
  pub told : IsTold s h stands pair
  pub emptied : is_broken pair.1.status ≡ true → held_views pair.1 ≡ []
  pub there : build_in whole pair.0.name ≡ Some pair.0

module _ (s : Session) (h : History) (stands : ℕ → Bool) (book : Book) (shares : List (Option Share)) (rows : List (Option Row)) (quota : Queue)
    (files : Files) (order : List (ℕ × ℕ))
    (contents : ContentsStand s h stands book shares rows quota files order) (exact : AreExact s h stands) (rest : IsAtRest (page_limit s) h)
    (counted : IsCounted book shares rows) where
  abbrev page : ℕ
  page = page_limit s

  abbrev whole : List Build
  whole = builds (page_limit s) h

  abbrev all : List Piece
  all = pieces (page_limit s) h

  abbrev own : ℕ → List ℕ
  own = own_pieces (page_limit s) h

  abbrev facts : Facts
  facts = facts_of s h

  abbrev pub pairs : List (Build × Entry)
  pairs = paired (builds (page_limit s) h) book.entries

  distinct : Distinct whole
  distinct = ordered_distinct [] whole rest.ordered

  pub resting : AllByRecursion (IsResting s h stands whole all shares own) pairs
  resting =
      for_both (λ (pair : Build × Entry). IsEntryFor whole all shares own pair.0 pair.1)
      (λ (pair : Build × Entry). IsTold s h stands pair × ((is_broken pair.1.status ≡ true
      → held_views pair.1 ≡ []) × (build_in whole pair.0.name ≡ Some pair.0)))
      (IsResting s h stands whole all shares own) pairs (λ pair fine more. record { fine = fine; told = more.0; emptied = more.1.0; there = more.1.1 })
      (fine_pairs whole all shares own whole book.entries contents.entries.each)
      (for_both (IsTold s h stands) (λ (pair : Build × Entry). (is_broken pair.1.status ≡ true
      → held_views pair.1 ≡ []) × (build_in whole pair.0.name ≡ Some pair.0))
      (λ (pair : Build × Entry). IsTold s h stands pair × ((is_broken pair.1.status ≡ true
      → held_views pair.1 ≡ []) × (build_in whole pair.0.name ≡ Some pair.0))) pairs (λ pair told more. (told, more))
      (told_pairs s h stands whole book.entries contents.outlines_stand)
      (for_both (λ (pair : Build × Entry). is_broken pair.1.status ≡ true → held_views pair.1 ≡ []) (λ
      (pair : Build × Entry). build_in whole pair.0.name ≡ Some pair.0)
      (λ (pair : Build × Entry). (is_broken pair.1.status ≡ true → held_views pair.1 ≡ []) × (build_in whole pair.0.name ≡ Some pair.0)) pairs
      (λ pair empty there. (empty, there))
      (emptied_pairs whole book.entries counted.emptied) (blob_pairs (λ (build : Build). build_in whole build.name ≡ Some build) whole book.entries
      (all_blobs_found whole distinct))))

  pub closed : AreClosed (λ (name : ℕ). false) pairs
  closed =
      closed_pairs s h stands exact whole all shares own rest.ends [] whole book.entries (λ
      (name : ℕ). false) rest.ordered rest.planned rest.sources contents.outlines_stand contents.entries.each
      (λ name there. absurd (false_true there))

  pub status_of : (pair : Build × Entry) → IsTold s h stands pair → pair.1.status ≡ status_now s h pair.0
  status_of pair told = ap (λ (o : Outline). o.status) told.outline_is

  -- the live blobs are those that have an entry
  pub live_pairs : live page h ≡ map (λ (pair : Build × Entry). pair.0) pairs
  live_pairs =
      live_named page h distinct
      ∙ sym (filter_same (λ (build : Build). stands build.name) (λ (build : Build). is_live page h build.name) whole (λ build. exact build.name))
      ∙ sym (paired_stand s h stands whole book.entries contents.outlines_stand)

  module _ (piece : Piece) (found : FoundIn all piece.number piece) where
    mine : list_any (λ (each : ℕ). each == piece.number) (own piece.blob) ≡ true
    mine = own_among piece all found all found

    yours : (name : ℕ) → list_any (λ (each : ℕ). each == piece.number) (own name) ≡ true → name ≡ piece.blob
    yours name among = own_blob piece all found name all (all_by_number 0 all (pieces_numbered page 0 whole)) among

    abbrev gathered_now : Bool
    gathered_now = is_gathered whole rows piece.blob

    abbrev held_now : Bool
    held_now = is_held whole shares rows piece

    abbrev way : Bool
    way = list_any (λ (slot : ℕ). is_number piece.number (piece_at shares slot)) (pinned rows)

    comes : AllByRecursion (Comes s h stands whole all shares own rest.ends piece mine yours whole rows) pairs
    comes = all_come s h stands whole all shares own rest.ends piece mine yours whole book.entries rows distinct
        contents.outlines_stand contents.entries.each contents.rows_stand contents.entries.written

    -- an entry that has a granted piece holds it
    one_held : (pair : Build × Entry) → IsResting s h stands whole all shares own pair
        → Comes s h stands whole all shares own rest.ends piece mine yours whole rows pair
        → is_granted_piece h whole piece ≡ true → has_piece shares piece.number pair ≡ true → held_now ≡ true
    one_held pair one come granted e =
        has_held s.limits whole distinct piece found shares own (held_now ≡ true) pair.0 pair.1 one.fine
        (λ held. or_first (holds_piece shares piece.number) gathered_now held)
        (λ waits steps.
        let among : list_any (λ (each : ℕ). each == piece.number) (own pair.0.name) ≡ true =
        ap (list_any (λ (each : ℕ). each == piece.number)) (sym (one.fine.owned (ap is_pending waits))) ∙ own_any piece.number pair.1.recipe ∙ steps in
        let blob_is : build_in whole piece.blob ≡ Some pair.0 = ap (build_in whole) (sym (yours pair.0.name among)) ∙ one.there in
        let waiting : is_waiting h pair.0 ≡ true = waiting_by_status s h pair.0 (rest.ends pair.0.name) (sym (status_of pair one.told) ∙ waits) in
        absurd
        (false_true
        (sym (ap (λ (o : Option Build). option_map_or (is_granted h) o false) blob_is ∙ waits_ungranted s h pair.0 pair.0.plan refl waiting) ∙ granted)))
        (λ transport steps.
        ⊎_elim (λ (on : way ≡ true). or_first (holds_piece shares piece.number) gathered_now (back_pinned shares [] (pinned rows) piece.number
        (pinned rows) on))
        (λ (gather : gathered_now ≡ true). or_second (holds_piece shares piece.number) gathered_now gather) (or_cases way gathered_now (come transport steps)))
        e

    some_held : (xs : List (Build × Entry)) → AllByRecursion (IsResting s h stands whole all shares own) xs
        → AllByRecursion (Comes s h stands whole all shares own rest.ends piece mine yours whole rows) xs → is_granted_piece h whole piece ≡ true
        → list_any (has_piece shares piece.number) xs ≡ true → held_now ≡ true
    some_held [] ones come granted e = absurd (false_true e)
    some_held (pair ∷ xs) ones come granted e =
        ⊎_elim (λ (here : has_piece shares piece.number pair ≡ true). one_held pair ones.0 come.0 granted here)
        (λ (more : list_any (has_piece shares piece.number) xs ≡ true). some_held xs ones.1 come.1 granted more)
        (or_cases (has_piece shares piece.number pair) (list_any (has_piece shares piece.number) xs) e)

    one_has : (pair : Build × Entry) → IsResting s h stands whole all shares own pair → list_any (is_on shares piece.number) (held_views pair.1) ≡ true
        → has_piece shares piece.number pair ≡ true
    one_has pair one e = go (is_broken pair.1.status) refl
      where
        go : (b : Bool) → is_broken pair.1.status ≡ b → has_piece shares piece.number pair ≡ true
        go true at = absurd (false_true (sym (ap (list_any (is_on shares piece.number)) (one.emptied at)) ∙ e))
        go false at = view_has s.limits whole distinct piece found shares own pair.0 pair.1 one.fine at e

    some_has : (xs : List (Build × Entry)) → AllByRecursion (IsResting s h stands whole all shares own) xs
        → list_any (is_on shares piece.number) (pair_views xs) ≡ true
        → list_any (has_piece shares piece.number) xs ≡ true
    some_has [] ones e = absurd (false_true e)
    some_has (pair ∷ xs) ones e =
        ⊎_elim
        (λ (here : list_any (is_on shares piece.number) (held_views pair.1) ≡ true).
        or_first (has_piece shares piece.number pair) (list_any (has_piece shares piece.number) xs) (one_has pair ones.0 here))
        (λ (more : list_any (is_on shares piece.number) (pair_views xs) ≡ true).
        or_second (has_piece shares piece.number pair) (list_any (has_piece shares piece.number) xs) (some_has xs ones.1 more))
        (or_cases (list_any (is_on shares piece.number) (held_views pair.1)) (list_any (is_on shares piece.number) (pair_views xs))
        (sym (list_any-append (is_on shares piece.number) (held_views pair.1) (pair_views xs)) ∙ e))

    -- a held item is of a granted blob
    granted_in : (o : Option Piece) (P : Piece → Type 0) → ((one : Piece) → P one → is_granted_piece h whole one ≡ true) → o ≡ Some piece → IsSomeAnd o P
        → is_granted_piece h whole piece ≡ true
    granted_in None P says at is = absurd is
    granted_in (Some one) P says at is = let same : one ≡ piece = cc in subst (λ (p : Piece). is_granted_piece h whole p ≡ true) same (says one is)

    at_number : (number : ℕ) → number ≡ piece.number → piece_in all number ≡ Some piece
    at_number number e = ap (piece_in all) e ∙ found

    granted_item : (item : Item) → IsPlaced all (facts_of s h) item → piece_of_item item ≡ Some piece.number → is_granted_piece h whole piece ≡ true
    granted_item (Memory number bytes) placed e =
        granted_in (piece_in all number.0) (λ (one : Piece). (facts.granted one ≡ true) × (facts.place one ≡ in_memory) × (bytes ≡ facts.bytes one) ×
        (length bytes ≡ one.len)) (λ one is. is.0) (at_number number.0 cc)
        placed
    granted_item (Paged number at off len) placed e =
        granted_in (piece_in all number.0) (λ (one : Piece). (facts.granted one ≡ true) × (facts.place one ≡ in_page at.0) × (off ≡ facts.offset one) ×
        (len ≡ one.len)) (λ one is. is.0) (at_number number.0 cc) placed
    granted_item (Reserved number len) placed e =
        granted_in (piece_in all number.0) (λ (one : Piece). (facts.granted one ≡ true) × (facts.place one ≡ reserved) × (len ≡ one.len)) (λ one is. is.0)
        (at_number number.0 cc) placed
    granted_item (File name stamp off len) placed e = absurd (cc e)
    granted_item (Range slot off len) placed e = absurd (cc e)

    held_granted : holds_piece shares piece.number ≡ true → is_granted_piece h whole piece ≡ true
    held_granted e =
        let slot = slot_of piece.number shares e in
        go (item_at shares slot.0) (contents.items.each slot.0) slot.1
      where
        go : (o : Option Item) → IfSome o (IsPlaced all (facts_of s h)) → piece_by o ≡ Some piece.number → is_granted_piece h whole piece ≡ true
        go None placed f = absurd (cc f)
        go (Some item) placed f = granted_item item placed f

    -- a piece of a granted blob that an entry has is held, and no other
    pub closing : (is_granted_piece h whole piece && list_any (has_piece shares piece.number) pairs) ≡ held_now
    closing =
        iff_true (is_granted_piece h whole piece && list_any (has_piece shares piece.number) pairs) held_now
        (λ e.
        let parts = and_parts (is_granted_piece h whole piece) (list_any (has_piece shares piece.number) pairs) e in
        some_held pairs resting comes parts.0 parts.1)
        (λ e.
        ⊎_elim
        (λ (held : holds_piece shares piece.number ≡ true).
        both (is_granted_piece h whole piece) (list_any (has_piece shares piece.number) pairs) (held_granted held)
        (⊎_elim (λ (viewed : list_any (is_on shares piece.number) (pair_views pairs) ≡ true). some_has pairs resting viewed)
        (λ (on : way ≡ true).
        way_had s h stands whole all shares own rest.ends piece mine yours whole book.entries rows
        contents.outlines_stand contents.entries.each contents.rows_stand contents.entries.written on)
        (or_cases (list_any (is_on shares piece.number) (pair_views pairs)) way
        (sym (held-counted shares (pair_views pairs) (pinned rows) piece.number counts counted.viewed) ∙ held))))
        (λ (gather : gathered_now ≡ true).
        let had = gathered_had s h stands whole all shares own rest.ends piece mine yours whole book.entries rows
        (all_blobs_found whole distinct) contents.outlines_stand contents.entries.each
        contents.rows_stand gather in
        both (is_granted_piece h whole piece) (list_any (has_piece shares piece.number) pairs) had.0 had.1)
        (or_cases (holds_piece shares piece.number) gathered_now e))
      where
        counts : (slot : ℕ) → count_at shares slot ≡ views_on slot (pair_views pairs) + count_by (λ (each : ℕ). each == slot) (pinned rows)
        counts slot =
            counted.counts slot
            ∙ ap (λ (n : ℕ). n + count_by (λ (each : ℕ). each == slot) (pinned rows))
            (pair_views_on (EntryStands whole all shares own) whole book.entries slot contents.entries.each)

    -- how the bytes of a piece are read off views and steps
    read : IsRead all shares (owns piece) (is_on shares piece.number) (is_own_step piece.number)
    read =
        record {
          views = λ views inside. views_any s.limits whole distinct piece found shares views inside;
          own = λ number len sound. step_any s.limits whole distinct piece found shares own number len sound;
          fixed = λ view sound.
              views_any s.limits whole distinct piece found shares (view ∷ []) (sound.0, tt) ∙ ap (λ (o : Option ℕ). is_number piece.number o || false) sound.1;
          source = λ name off len. refl;
        }

    ready : AllByRecursion (IsReady whole all shares own) pairs
    ready =
        for_each (IsResting s h stands whole all shares own) (IsReady whole all shares own) pairs
        (λ pair one. record { fine = one.fine; found = ap (λ (o : Option Build). option_map_or (λ (build : Build). build.cells) o []) one.there }) resting

    same_test : (pair : Build × Entry) → IsTold s h stands pair → holds_now h piece pair.0 ≡ reaches (owns piece) pair
    same_test pair told =
        ap (λ (b : Bool). not b && some_passes (owns piece) pair.0.cells) (sym (broken_now s h pair.0) ∙ ap is_broken (sym (status_of pair told)))
        ∙ ap (λ (b : Bool). is_unbroken pair.1.status && b) (some_any (owns piece) pair.0.cells)

    -- a piece has a byte of a live blob that isn't broken exactly where an entry has it
    pub owned_has : owns_some (live_cells page h) piece ≡ list_any (has_piece shares piece.number) pairs
    owned_has =
        owns_as page h piece
        ∙ ap (list_any (holds_now h piece)) live_pairs
        ∙ map_firsts (holds_now h piece) pairs
        ∙ any_each (λ (pair : Build × Entry). holds_now h piece pair.0) (reaches (owns piece)) pairs
        (for_each (IsTold s h stands) (λ (pair : Build × Entry). holds_now h piece pair.0 ≡ reaches (owns piece) pair) pairs (λ pair told. same_test pair told)
        (told_pairs s h stands whole book.entries contents.outlines_stand))
        ∙ reached_passes whole all shares own (owns piece) (is_on shares piece.number) (is_own_step piece.number) read pairs closed ready

  pub held_reached : held_pieces page h shares rows ≡ reached page h
  held_reached =
      sym
      (filter_each (λ (piece : Piece). is_granted_piece h whole piece && owns_some (live_cells page h) piece) (is_held whole shares rows) all
      (for_each (λ (piece : Piece). FoundIn all piece.number piece) (λ (piece : Piece). (is_granted_piece h whole piece && owns_some
      (live_cells page h) piece) ≡ is_held whole shares rows piece) all
      (λ piece found. ap (λ (b : Bool). is_granted_piece h whole piece && b) (owned_has piece found)
      ∙ closing piece found) (all_by_number 0 all (pieces_numbered page 0 whole))))
