-- Outlines, marks, rows and items behind a pass.
use Rattle.std.proofs.Common.{◌≡◌, ℕ, Bool, true, false, cond, ◌&&◌, not, List, [], ◌∷◌, map, refl, ap, subst, sym, ◌∙◌, Option, Some, None}
use Rattle.std.specs.Prelude.{is_none, unwrap_or, IfSome, IsSomeAnd}
use Rattle.std.specs.Option.{option_map}
use Rattle.blob_words.specs.declared.plan.Plan.{Plan}
use Rattle.blob_words.specs.declared.plan.Plan.TheVariants as plans
use Rattle.blob_words.specs.declared.status.Status.{Status}
use Rattle.blob_words.specs.declared.status.Status.TheVariants as statuses
use Rattle.item_shares.specs.Shares.{item_at}
use Rattle.item_shares.specs.declared.item.Item.{Item}
use Rattle.item_shares.specs.declared.shares.Share.{Share}
use Rattle.blob_items.specs.Cells.{cells}
use Rattle.blob_entries.specs.Changes.{done_with}
use Rattle.blob_entries.specs.Contents.{made_cells}
use Rattle.blob_entries.specs.Endings.{Ends, EndsAs, ending, marked_end, source_end}
use Rattle.blob_entries.specs.Holdings.{own_views}
use Rattle.blob_entries.specs.Sound.{IsSound}
use Rattle.blob_entries.specs.Statuses.{is_pending}
use Rattle.blob_entries.specs.declared.entry.Entry.{Entry}
use Rattle.blob_registry.proofs.Passing.{ends_apart}
use Rattle.blob_model.specs.Builds.{Build, builds}
use Rattle.blob_model.specs.History.{History}
use Rattle.blob_model.specs.Own.{pending_status}
use Rattle.blob_model.specs.Pieces.{Piece}
use Rattle.blob_model.specs.Session.{Session, page_limit}
use Rattle.blob_model.specs.Settle.{endings}
use Rattle.blob_model.specs.Standing.{ended, is_granted, is_unfinished, was_granted}
use Rattle.blob_model.specs.Transport.{has_all}
use Rattle.blob_model.specs.Waits.{is_shared}
use Rattle.blob_model.proofs.Lists.{false_true}
use Rattle.blob_model.proofs.live.Agreement.{builds_all}
use Rattle.registry_laws.specs.Agree.{Agrees, breaks_as, told}
use Rattle.store_laws.specs.Items.{Facts, IsPlaced, ItemsStand, piece_at, piece_by}
use Rattle.store_laws.specs.Outlines.{Outline, IsMarkedRight, outline, outline_of, status_now}
use Rattle.store_laws.specs.Passing.{after_pass, rows_settled, settled_row}
use Rattle.store_laws.specs.Recipes.{RowsBeside}
use Rattle.store_laws.specs.Rows.{AreWritten, Coming, Row, bare, came_of, coming_by, coming_of, gathered_of}
use Rattle.store_laws.specs.Rows.{gathering, pieces_before, row_of, settled, waiting, writing}
use Rattle.store_laws.proofs.PassKeeps.{endings_keep, unfinished_before, unfinished_same}

abbrev Entries : Type 0
Entries = List (Option Entry)

-- ---- what a pass leaves of an entry's outline

-- an entry with the outline of another but for its status
abbrev IsLike : Entry → Status → Option Entry → Type 0
IsLike entry status now = IsSomeAnd now (λ (e : Entry). outline e ≡ record (outline entry) { status = status })

like_end : (names : List ℕ) (after : Entries) (entry : Entry) (status : Status) (now : Option Entry) → EndsAs names after entry (Some status) now
    → IsLike entry status now
like_end names after entry statuses.Done now so = by now so
  where
    by : (a : Option Entry)
        → IsSomeAnd a (λ (d : Entry). (d ≡ done_with d.views entry) × (cells d.views ≡ made_cells names after entry.recipe (own_views entry.own)))
        → IsLike entry statuses.Done a
    by None so = absurd so
    by (Some d) so = ap outline so.0
like_end names after entry status now so = subst (IsLike entry status) (sym so) refl

like_looked : (names : List ℕ) (after : Entries) (entry : Entry) (now : Option Entry) → (o : Option Status) → EndsAs names after entry o now
    → IsLike entry (unwrap_or o entry.status) now
like_looked names after entry now None so = subst (IsLike entry entry.status) (sym so) refl
like_looked names after entry now (Some status) so = like_end names after entry status now so

module _ (s : Session) (h : History) (stands : ℕ → Bool) where
  abbrev g : History
  g = after_pass s h

  same_segments : (build : Build) → has_all s.limits g build ≡ has_all s.limits h build
  same_segments build = endings_keep (λ (one : History). has_all s.limits one build) (λ one name. refl) (λ one name status. refl) s h

  same_grant : (name : ℕ) → was_granted g name ≡ was_granted h name
  same_grant name = endings_keep (λ (one : History). was_granted one name) (λ one name. refl) (λ one name status. refl) s h

  pending_same : (build : Build) → is_unfinished g build.name ≡ true → pending_status s g build ≡ pending_status s h build
  pending_same build still =
      let same : ended g build.name ≡ ended h build.name = unfinished_same s h build.name still in
      λ i. cond (is_none (same i) && is_shared build.plan && not (same_grant build.name i)) statuses.PendingQuota
      (cond (same_segments build i) statuses.PendingReferencedBlobs statuses.PendingTransport)

  -- the status of an entry behind the pass is how its blob stands
  status_so : (names : List ℕ) (after : Entries) (build : Build) (entry : Entry) (status : Status)
      → (is_pending status ≡ true → status ≡ entry.status) → told status ≡ ended g build.name → entry.status ≡ status_now s h build
      → status ≡ status_now s g build
  status_so names after build entry status kept agree was = by (is_pending status) refl
    where
      by : (p : Bool) → is_pending status ≡ p → status ≡ status_now s g build
      by false at =
          let some : Some status ≡ ended g build.name = sym (ap (λ (b : Bool). cond {A = Option Status} b None (Some status)) at) ∙ agree in
          ap (λ (o : Option Status). unwrap_or o (pending_status s g build)) some
      by true at =
          let none : None ≡ ended g build.name = sym (ap (λ (b : Bool). cond {A = Option Status} b None (Some status)) at) ∙ agree in
          let still : is_unfinished g build.name ≡ true = ap (λ (o : Option Status). is_none o) (sym none) in
          kept at ∙ was
          ∙ ap (λ (o : Option Status). unwrap_or o (pending_status s h build)) (unfinished_before s h build.name still)
          ∙ sym (pending_same build still)
          ∙ ap (λ (o : Option Status). unwrap_or o (pending_status s g build)) none

  module _ (names : List ℕ) (whole after : Entries) (number : ℕ) (build : Build) where
    some_outlined : (entry e : Entry) → IsSound names whole number entry → outline entry ≡ outline_of s h build
        → outline e ≡ record (outline entry) { status = unwrap_or (ending names after entry) entry.status } → told e.status ≡ ended g build.name
        → outline e ≡ outline_of s g build
    some_outlined entry e fine was like agree =
        let end : e.status ≡ unwrap_or (ending names after entry) entry.status = ap (λ (one : Outline). one.status) like in
        let status : e.status ≡ status_now s g build =
        status_so names after build entry e.status (kept (ending names after entry) refl end) agree (ap (λ (one : Outline). one.status) was) in
        like ∙ (λ i. record (was i) { status = (sym end ∙ status) i })
      where
        kept : (o : Option Status) → ending names after entry ≡ o → e.status ≡ unwrap_or (ending names after entry) entry.status
            → is_pending e.status ≡ true → e.status ≡ entry.status
        kept None at end pending = end ∙ ap (λ (o : Option Status). unwrap_or o entry.status) at
        kept (Some status) at end pending =
            let same : e.status ≡ status = end ∙ ap (λ (o : Option Status). unwrap_or o entry.status) at in
            absurd (false_true (sym (ends_apart names after entry status fine.mark at) ∙ ap is_pending (sym same) ∙ pending))

    pub outlined_now : (held now : Option Entry) (b : Bool) → IfSome held (IsSound names whole number)
        → option_map outline held ≡ cond b (Some (outline_of s h build)) None
        → Ends names after held now → Agrees (page_limit s) g build now → option_map outline now ≡ cond b (Some (outline_of s g build)) None
    outlined_now None now false fine was so agree = ap (option_map outline) so
    outlined_now None now true fine was so agree = absurd (cc was)
    outlined_now (Some entry) now false fine was so agree = absurd (cc was)
    outlined_now (Some entry) now true fine was so agree =
        by now (like_looked names after entry now (ending names after entry) so) agree
      where
        is : outline entry ≡ outline_of s h build
        is = cc was

        by : (one : Option Entry) → IsLike entry (unwrap_or (ending names after entry) entry.status) one → Agrees (page_limit s) g build one
            → option_map outline one ≡ Some (outline_of s g build)
        by None like agree = absurd like
        by (Some e) like agree = ap Some (some_outlined entry e fine is like agree.status)

    -- no unfinished entry is marked behind the pass
    pub marked_now : (held now : Option Entry) → IfSome held (IsSound names whole number) → Ends names after held now → IsMarkedRight s g build now
    marked_now None now fine so = subst (IsMarkedRight s g build) (sym so) tt
    marked_now (Some entry) now fine so = by (ending names after entry) refl so
      where
        unmarked : (o : Option Status) → marked_end o (source_end names after entry) ≡ None
            → IfSome o (λ (why : Status). breaks_as s g build ≡ Some why)
        unmarked None e = tt
        unmarked (Some why) e = absurd (cc e)

        stays : ending names after entry ≡ None → IsMarkedRight s g build (Some entry)
        stays at = λ pending. unmarked entry.mark
            (sym (ap (λ (b : Bool). cond b (marked_end entry.mark (source_end names after entry)) None) pending) ∙ at)

        done : (one : Option Entry) → IsLike entry statuses.Done one → IsMarkedRight s g build one
        done None like = tt
        done (Some e) like = λ pending. absurd (false_true (sym (ap is_pending (ap (λ (one : Outline). one.status) like)) ∙ pending))

        broken : (status : Status) → ending names after entry ≡ Some status → (one : Option Entry) → IsLike entry status one → IsMarkedRight s g build one
        broken status at None like = tt
        broken status at (Some e) like =
            λ pending. absurd (false_true (sym (ends_apart names after entry status fine.mark at) ∙ sym (ap is_pending (ap (λ
            (one : Outline). one.status) like)) ∙ pending))

        by : (o : Option Status) → ending names after entry ≡ o → EndsAs names after entry o now → IsMarkedRight s g build now
        by None at so = subst (IsMarkedRight s g build) (sym so) (stays at)
        by (Some status) at so = broken status at now (like_end names after entry status now so)

  -- ---- rows

  same_builds : builds (page_limit s) g ≡ builds (page_limit s) h
  same_builds = builds_all (page_limit s) h (endings s h)

  same_gathered : (build : Build) → gathered_of s g build ≡ gathered_of s h build
  same_gathered build = endings_keep (λ (one : History). gathered_of s one build) (λ one name. refl) (λ one name status. refl) s h

  same_came : (build : Build) → came_of s g build ≡ came_of s h build
  same_came build = endings_keep (λ (one : History). came_of s one build) (λ one name. refl) (λ one name status. refl) s h

  granted_same : (build : Build) → is_granted g build ≡ is_granted h build
  granted_same build = endings_keep (λ (one : History). is_granted one build) (λ one name. refl) (λ one name status. refl) s h

  coming_same : (build : Build) → is_unfinished g build.name ≡ true → coming_of s g build ≡ coming_of s h build
  coming_same build still = λ i. cond (is_none (unfinished_same s h build.name still i)) (by build.plan i) settled
    where
      by : (plan : Option Plan) → coming_by s g build plan ≡ coming_by s h build plan
      by None = refl
      by (Some plans.None) = refl
      by (Some plans.Inline) = refl
      by (Some plans.OutOfMemory) = refl
      by (Some (plans.TooMany what)) = refl
      by (Some (plans.Shared n)) =
          λ i. cond (granted_same build i) (cond (same_segments build i) settled (gathering (same_gathered build i))) waiting
      by (Some (plans.File n)) = λ i. cond (same_segments build i) settled (writing [] (same_came build i))

  row_same : (build : Build) (coming : Coming) → coming_of s g build ≡ coming → row_of s g build ≡ record (row_of s h build) { coming = coming }
  row_same build coming is = λ i. record (row_of s h build) { first = pieces_before (page_limit s) (same_builds i) build.name; coming = is i }

  rowed_now : (build : Build) (held : Option Row) (b : Bool) → option_map bare held ≡ cond b (Some (row_of s h build)) None
      → option_map bare (settled_row (is_unfinished g build.name) held) ≡ cond b (Some (row_of s g build)) None
  rowed_now build held b was = by (is_unfinished g build.name) refl held b was
    where
      by : (u : Bool) → is_unfinished g build.name ≡ u → (held : Option Row) (b : Bool) → option_map bare held ≡ cond b (Some (row_of s h build)) None
          → option_map bare (settled_row u held) ≡ cond b (Some (row_of s g build)) None
      by true at held b was =
          was ∙ ap (λ (row : Row). cond {A = Option Row} b (Some row) None) (sym (row_same build (coming_of s h build) (coming_same build at)))
      by false at None false was = refl
      by false at None true was = absurd (cc was)
      by false at (Some row) false was = absurd (cc was)
      by false at (Some row) true was =
          let same : bare row ≡ row_of s h build = cc was in
          let over : coming_of s g build ≡ settled = ap (λ (u : Bool). cond u (coming_by s g build build.plan) settled) at in
          ap Some (ap (λ (one : Row). record one { coming = settled }) same ∙ sym (row_same build settled over))

  abbrev AreRowed : History → List Build → List (Option Row) → Type 0
  AreRowed one list rows = map (option_map bare) rows ≡ map (λ (build : Build). cond (stands build.name) (Some (row_of s one build)) None) list

  pub rows_now_stand : (list : List Build) (rows : List (Option Row)) → AreRowed h list rows → AreRowed g list (rows_settled (is_unfinished g) list rows)
  rows_now_stand [] rows e = refl
  rows_now_stand (build ∷ list) [] e = absurd (cc e)
  rows_now_stand (build ∷ list) (held ∷ rows) e =
      λ i. rowed_now build held (stands build.name) first i ∷ rows_now_stand list rows rest i
    where
      rest : AreRowed h list rows
      rest = cc e

      first : option_map bare held ≡ cond (stands build.name) (Some (row_of s h build)) None
      first = cc e

-- the slots of pieces on their way hold what they held
module _ (shares later : List (Option Share)) (same : (slot : ℕ) → item_at later slot ≡ item_at shares slot) (own : ℕ → List ℕ) (waits : ℕ → Bool) where
  abbrev IsWrittenIn : List (Option Share) → Build → Row → Type 0
  IsWrittenIn one build row = AreWritten one (own build.name) row.coming

  slots_same : (slots : List ℕ) → map (piece_at later) slots ≡ map (piece_at shares) slots
  slots_same [] = refl
  slots_same (slot ∷ slots) = λ i. piece_by (same slot i) ∷ slots_same slots i

  written_same : (numbers : List ℕ) (coming : Coming) → AreWritten shares numbers coming → AreWritten later numbers coming
  written_same numbers settled is = tt
  written_same numbers waiting is = tt
  written_same numbers (gathering segments) is = tt
  written_same numbers (writing slots came) is = slots_same slots ∙ is

  pub written_settled : (list : List Build) (rows : List (Option Row)) → RowsBeside (IsWrittenIn shares) list rows
      → RowsBeside (IsWrittenIn later) list (rows_settled waits list rows)
  written_settled [] rows is = tt
  written_settled (build ∷ list) [] is = tt
  written_settled (build ∷ list) (None ∷ rows) is = none (waits build.name) (written_settled list rows is)
    where
      none : (b : Bool) → RowsBeside (IsWrittenIn later) list (rows_settled waits list rows)
          → RowsBeside (IsWrittenIn later) (build ∷ list) (settled_row b None ∷ rows_settled waits list rows)
      none true rest = rest
      none false rest = rest
  written_settled (build ∷ list) (Some row ∷ rows) is = some (waits build.name) (written_settled list rows is.1)
    where
      some : (b : Bool) → RowsBeside (IsWrittenIn later) list (rows_settled waits list rows)
          → RowsBeside (IsWrittenIn later) (build ∷ list) (settled_row b (Some row) ∷ rows_settled waits list rows)
      some true rest = (written_same (own build.name) row.coming is.0, rest)
      some false rest = (tt, rest)

  pub items_same : (all : List Piece) (facts : Facts) → ItemsStand all facts shares → ItemsStand all facts later
  items_same all facts items = record {
    each = λ slot. subst (λ (o : Option Item). IfSome o (IsPlaced all facts)) (sym (same slot)) (items.each slot);
    apart = λ one other number at at_other.
        items.apart one other number (ap piece_by (sym (same one)) ∙ at) (ap piece_by (sym (same other)) ∙ at_other);
  }
