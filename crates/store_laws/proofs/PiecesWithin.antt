-- Pieces that are gathered are in memory, in no item and in no job; and the pieces of a blob are numbered in turn, behind those of earlier blobs.
use Rattle.std.proofs.Common.{◌≡◌, ℕ, ◌+◌, ◌<◌, ◌≤◌, ◌==◌, Bool, true, false, not, cond, List, [], ◌∷◌, map, length, refl, reverse, ap, sym, subst, ◌∙◌}
use Rattle.std.proofs.Common.{Option, Some, None, arith, ⊎_elim}
use Rattle.std.specs.Prelude.{IfSome, IsSomeAnd}
use Rattle.std.specs.Option.{option_map, option_map_or}
use Rattle.std.specs.List.{list_any, AllByRecursion}
use Rattle.std.proofs.lemmas.Bool.{eqb-true, eq-eqb, ne_eqb}
use Rattle.blob_words.specs.declared.plan.Plan.{Plan}
use Rattle.blob_words.specs.declared.plan.Plan.TheVariants as plans
use Rattle.item_shares.specs.declared.shares.Share.{Share}
use Rattle.transport_plan.specs.Spans.{piece_count}
use Rattle.transport_plan.proofs.SpanLemmas.{pieces_length}
use Rattle.blob_model.specs.Builds.{Build, build_in, builds}
use Rattle.blob_model.specs.History.{History}
use Rattle.blob_model.specs.Jobs.{Job, in_flight, is_in_job}
use Rattle.blob_model.specs.Order.{named, Distinct}
use Rattle.blob_model.specs.Pages.{in_memory, is_reserved, lists, page_with, pages, place, place_by, planned_place, unlisted_place, Page}
use Rattle.blob_model.specs.Parts.{own_lengths}
use Rattle.blob_model.specs.Pieces.{numbered, pieces, pieces_from, planned_spans, spans_of, Piece}
use Rattle.blob_model.specs.Session.{Session, page_limit}
use Rattle.blob_model.specs.Standing.{is_unfinished}
use Rattle.blob_model.specs.Transport.{has_all}
use Rattle.blob_model.proofs.Lists.{all_append, all_reverse, false_true, for_both, for_each, found_all, found_true, or_cases}
use Rattle.blob_model.proofs.builds.PieceNumbers.{all_by_number, pieces_numbered, FoundIn}
use Rattle.blob_model.proofs.memory.Builds.{numbered_named, pieces_named}
use Rattle.blob_model.proofs.memory.Grants.{found_name}
use Rattle.store_laws.specs.Items.{holds_piece}
use Rattle.store_laws.specs.Late.{is_flyable, IsFlyable, LateCourse}
use Rattle.store_laws.specs.LateLaws.{AreUnheld, IsUnheld}
use Rattle.store_laws.specs.ReachLaws.{AreGatheredApart, IsApart}
use Rattle.store_laws.specs.Rows.{bare, came_of, coming_by, coming_of, gathering, gathers, is_gathered, pieces_before, row_of, rows_of, settled, waiting, without_slots, writing, Coming, Row}

-- what is said of each number of a list is said of one that is in it
listed_all : (P : ℕ → Type 0) (number : ℕ) (list : List ℕ) → AllByRecursion P list → list_any (λ (each : ℕ). each == number) list ≡ true → P number
listed_all P number [] all e = absurd (false_true e)
listed_all P number (one ∷ list) all e =
    ⊎_elim (λ (here : (one == number) ≡ true). subst P (eqb-true one number here) all.0)
    (λ (more : list_any (λ (each : ℕ). each == number) list ≡ true). listed_all P number list all.1 more)
    (or_cases (one == number) (list_any (λ (each : ℕ). each == number) list) e)

-- ---- the numbers of a blob's pieces

numbered_within : (blob n : ℕ) (spans : List (ℕ × ℕ))
    → AllByRecursion (λ (piece : Piece). (n ≤ piece.number) × (piece.number < n + length spans)) (numbered blob n spans)
numbered_within blob n [] = tt
numbered_within blob n (span ∷ spans) = (
  (omega arith, omega arith),
  for_each (λ (piece : Piece). (n + 1 ≤ piece.number) × (piece.number < (n + 1) + length spans))
      (λ (piece : Piece). (n ≤ piece.number) × (piece.number < n + length (span ∷ spans))) (numbered blob (n + 1) spans)
      (λ piece is. let low = is.0 in let high = is.1 in (omega (arith, low), omega (arith, high))) (numbered_within blob (n + 1) spans),
)

-- a piece stands among those of its blob, where the first of all has a number
abbrev pub IsAmong : ℕ → ℕ → List Build → Piece → Type 0
IsAmong page n list piece =
    (n + pieces_before page list piece.blob ≤ piece.number)
    × IfSome (build_in list piece.blob) (λ (build : Build). piece.number < n + pieces_before page list piece.blob + length (spans_of page build))

pub pieces_among : (page n : ℕ) (list : List Build) → Distinct list → AllByRecursion (IsAmong page n list) (pieces_from page n list)
pieces_among page n [] distinct = tt
pieces_among page n (build ∷ list) distinct =
    all_append (IsAmong page n (build ∷ list)) (numbered build.name n (spans_of page build))
    (pieces_from page (n + length (spans_of page build)) list)
    (for_both (λ (piece : Piece). (n ≤ piece.number) × (piece.number < n + length (spans_of page build)))
    (λ (piece : Piece). piece.blob ≡ build.name) (IsAmong page n (build ∷ list)) (numbered build.name n (spans_of page build))
    (λ piece within is. first piece within (eq-eqb build.name piece.blob (sym is)))
    (numbered_within build.name n (spans_of page build))
    (numbered_named (λ (name : ℕ). name ≡ build.name) build.name n (spans_of page build) refl))
    (for_both (IsAmong page (n + length (spans_of page build)) list) (λ (piece : Piece). named piece.blob list ≡ true) (IsAmong page n (build ∷ list))
    (pieces_from page (n + length (spans_of page build)) list)
    (λ piece within there. later piece within (apart piece.blob there))
    (pieces_among page (n + length (spans_of page build)) list distinct.1)
    (pieces_named page (n + length (spans_of page build)) list))
  where
    apart : (name : ℕ) → named name list ≡ true → (build.name == name) ≡ false
    apart name there =
        ne_eqb build.name name (λ same. false_true (sym (subst (λ (each : ℕ). named each list ≡ false) same distinct.0) ∙ there))

    first : (piece : Piece) → (n ≤ piece.number) × (piece.number < n + length (spans_of page build)) → (build.name == piece.blob) ≡ true
        → IsAmong page n (build ∷ list) piece
    first piece within is =
        let low = within.0 in
        let high = within.1 in
        let none : pieces_before page (build ∷ list) piece.blob ≡ 0 =
        ap (λ (b : Bool). cond b 0 (length (spans_of page build) + pieces_before page list piece.blob)) is in (
          omega (arith, low, none),
          subst (λ (o : Option Build). IfSome o (λ (one : Build).
              piece.number < n + pieces_before page (build ∷ list) piece.blob + length (spans_of page one)))
              (sym (ap (λ (b : Bool). cond b (Some build) (build_in list piece.blob)) is)) (omega (arith, high, none)),
        )

    later : (piece : Piece) → IsAmong page (n + length (spans_of page build)) list piece → (build.name == piece.blob) ≡ false
        → IsAmong page n (build ∷ list) piece
    later piece within other =
        let low = within.0 in
        let more : pieces_before page (build ∷ list) piece.blob ≡ length (spans_of page build) + pieces_before page list piece.blob =
        ap (λ (b : Bool). cond b 0 (length (spans_of page build) + pieces_before page list piece.blob)) other in (
          omega (arith, low, more),
          subst (λ (o : Option Build). IfSome o (λ (one : Build).
              piece.number < n + pieces_before page (build ∷ list) piece.blob + length (spans_of page one)))
              (sym (ap (λ (b : Bool). cond b (Some build) (build_in list piece.blob)) other)) (by (build_in list piece.blob) more within.1),
        )
      where
        by : (o : Option Build) → pieces_before page (build ∷ list) piece.blob ≡ length (spans_of page build) + pieces_before page list piece.blob
            → IfSome o (λ (one : Build).
            piece.number < n + length (spans_of page build) + pieces_before page list piece.blob + length (spans_of page one))
            → IfSome o (λ (one : Build). piece.number < n + pieces_before page (build ∷ list) piece.blob + length (spans_of page one))
        by None more high = tt
        by (Some one) more high = omega (arith, more, high)

-- ---- the row of a blob that is gathered

-- the blob of this name with its row
pub record IsOfRow (s : Session) (h : History) (shares : List (Option Share)) (list : List Build) (name : ℕ) : Type 0 where
  pub build : Build
  pub row : Row
  pub found : build_in list name ≡ Some build
  pub tells : bare row ≡ row_of s h build
  pub gathers_so : gathers row.coming ≡ true
  pub unheld : IsUnheld (page_limit s) shares row

module _ (s : Session) (h : History) (shares : List (Option Share)) (stands : ℕ → Bool) where
  row_found : (list : List Build) (rows : List (Option Row))
      → map (option_map bare) rows ≡ map (λ (build : Build). cond (stands build.name) (Some (row_of s h build)) None) list
      → AreUnheld (page_limit s) shares rows → (name : ℕ) → is_gathered list rows name ≡ true → IsOfRow s h shares list name
  row_found [] rows e all name is = absurd (false_true is)
  row_found (build ∷ list) [] e all name is = absurd (false_true is)
  row_found (build ∷ list) (held ∷ rows) e all name is = go (build.name == name) refl is (row_found list rows rest all.1 name)
    where
      rest : map (option_map bare) rows ≡ map (λ (one : Build). cond (stands one.name) (Some (row_of s h one)) None) list
      rest = cc e

      first : option_map bare held ≡ cond (stands build.name) (Some (row_of s h build)) None
      first = cc e

      here : (build.name == name) ≡ true → (held : Option Row) (b : Bool) → option_map bare held ≡ cond b (Some (row_of s h build)) None
          → IfSome held (IsUnheld (page_limit s) shares)
          → option_map_or (λ (row : Row). gathers row.coming) held false ≡ true → IsOfRow s h shares (build ∷ list) name
      here at None b e un gather = absurd (false_true gather)
      here at (Some row) false e un gather = absurd (cc e)
      here at (Some row) true e un gather = record {
        build = build;
        row = row;
        found = ap (λ (b : Bool). cond b (Some build) (build_in list name)) at;
        tells = cc e;
        gathers_so = gather;
        unheld = un;
      }

      go : (b : Bool) → (build.name == name) ≡ b
          → cond b (option_map_or (λ (row : Row). gathers row.coming) held false) (is_gathered list rows name) ≡ true
          → (is_gathered list rows name ≡ true → IsOfRow s h shares list name) → IsOfRow s h shares (build ∷ list) name
      go true at gather later = here at held (stands build.name) first all.0 gather
      go false at gather later =
          let one = later gather in
          record {
            build = one.build;
            row = one.row;
            found = ap (λ (b : Bool). cond b (Some build) (build_in list name)) at ∙ one.found;
            tells = one.tells;
            gathers_so = one.gathers_so;
            unheld = one.unheld;
          }

-- such a blob is unfinished, and its plan is shared
pub record IsSent (s : Session) (h : History) (build : Build) : Type 0 where
  pub begun : is_unfinished h build.name ≡ true
  pub segments : ℕ
  pub plan_is : build.plan ≡ Some (plans.Shared segments)

some_gathers : (coming other : Coming) → gathers coming ≡ true → without_slots coming ≡ other → gathers other ≡ true
some_gathers settled other is same = absurd (false_true is)
some_gathers waiting other is same = absurd (false_true is)
some_gathers (gathering segments) other is same = ap gathers (sym same)
some_gathers (writing slots came) other is same = absurd (false_true is)

sent_so : (s : Session) (h : History) (build : Build) → gathers (coming_of s h build) ≡ true → IsSent s h build
sent_so s h build is = go (is_unfinished h build.name) refl is
  where
    by : (plan : Option Plan) → build.plan ≡ plan → gathers (coming_by s h build plan) ≡ true → (n : ℕ) × (build.plan ≡ Some (plans.Shared n))
    by (Some (plans.Shared n)) at e = (n, at)
    by (Some (plans.File n)) at e = absurd (filed (has_all s.limits h build) e)
      where
        filed : (b : Bool) → gathers (cond b settled (writing [] (came_of s h build))) ≡ true → ⊥
        filed true f = false_true f
        filed false f = false_true f
    by (Some plans.None) at e = absurd (false_true e)
    by (Some plans.Inline) at e = absurd (false_true e)
    by (Some plans.OutOfMemory) at e = absurd (false_true e)
    by (Some (plans.TooMany what)) at e = absurd (false_true e)
    by None at e = absurd (false_true e)

    go : (b : Bool) → is_unfinished h build.name ≡ b → gathers (cond b (coming_by s h build build.plan) settled) ≡ true → IsSent s h build
    go false at e = absurd (false_true e)
    go true at e = let plan = by build.plan refl e in record { begun = at; segments = plan.0; plan_is = plan.1 }

-- ---- pieces that are gathered

module _ (s : Session) (h : History) (stands : ℕ → Bool) (shares : List (Option Share)) (rows : List (Option Row)) (course : LateCourse s h)
    (rows_stand : map (option_map bare) rows ≡ rows_of s h stands) (distinct : Distinct (builds (page_limit s) h))
    (unheld : AreUnheld (page_limit s) shares rows) where
  abbrev all : List Piece
  all = pieces (page_limit s) h

  gathered_row : (name : ℕ) → is_gathered (builds (page_limit s) h) rows name ≡ true → IsOfRow s h shares (builds (page_limit s) h) name
  gathered_row = row_found s h shares stands (builds (page_limit s) h) rows rows_stand unheld

  sent : (name : ℕ) → (one : IsOfRow s h shares (builds (page_limit s) h) name) → IsSent s h one.build
  sent name one =
      sent_so s h one.build
      (some_gathers one.row.coming (coming_of s h one.build) one.gathers_so (ap (λ (row : Row). row.coming) one.tells))

  -- no page file and no job lists such a piece
  unlisted : (piece : Piece) → FoundIn all piece.number piece → is_gathered (builds (page_limit s) h) rows piece.blob ≡ true
      → IsFlyable (page_limit s) h piece.number → ⊥
  unlisted piece found gather flies =
      let one = gathered_row piece.blob gather in
      let is = sent piece.blob one in
      let name = found_name (builds (page_limit s) h) piece.blob one.build one.found in
      let may = subst (λ (o : Option Piece). IsSomeAnd o (λ (each : Piece). is_flyable (page_limit s) h each ≡ true)) found flies in
      ⊎_elim
      (λ (over : not (is_unfinished h piece.blob) ≡ true).
      false_true (sym (ap not (ap (is_unfinished h) (sym name) ∙ is.begun)) ∙ over))
      (λ (filed : is_reserved (unlisted_place (build_in (builds (page_limit s) h) piece.blob)) ≡ true).
      false_true (sym (ap (λ (o : Option Build). is_reserved (unlisted_place o)) one.found ∙ ap (λ (p : Option Plan). is_reserved (planned_place p)) is.plan_is)
      ∙ filed))
      (or_cases (not (is_unfinished h piece.blob)) (is_reserved (unlisted_place (build_in (builds (page_limit s) h) piece.blob))) may)

  -- its place is memory
  in_mind : (piece : Piece) → FoundIn all piece.number piece → is_gathered (builds (page_limit s) h) rows piece.blob ≡ true
      → place (page_limit s) h piece ≡ in_memory
  in_mind piece found gather = by (page_with (pages h) piece.number) refl
    where
      by : (file : Option Page) → page_with (pages h) piece.number ≡ file
          → place_by file (build_in (builds (page_limit s) h) piece.blob) ≡ in_memory
      by None at =
          let one = gathered_row piece.blob gather in
          let is = sent piece.blob one in
          ap unlisted_place one.found ∙ ap planned_place is.plan_is
      by (Some file) at =
          let fly = found_all (λ (one : Page). AllByRecursion (IsFlyable (page_limit s) h) one.pieces) (λ (one : Page). lists one piece.number)
          (reverse (pages h)) file
          (all_reverse (λ (one : Page). AllByRecursion (IsFlyable (page_limit s) h) one.pieces) (pages h) course.written) at in
          let there = found_true (λ (one : Page). lists one piece.number) (reverse (pages h)) file at in
          absurd (unlisted piece found gather (listed_all (IsFlyable (page_limit s) h) piece.number file.pieces fly there))

  -- it is no item
  no_item : (piece : Piece) → IsAmong (page_limit s) 0 (builds (page_limit s) h) piece
      → is_gathered (builds (page_limit s) h) rows piece.blob ≡ true → holds_piece shares piece.number ≡ false
  no_item piece among gather =
      let one = gathered_row piece.blob gather in
      let is = sent piece.blob one in
      let name = found_name (builds (page_limit s) h) piece.blob one.build one.found in
      let first : one.row.first ≡ pieces_before (page_limit s) (builds (page_limit s) h) piece.blob =
      ap (λ (row : Row). row.first) one.tells ∙ ap (pieces_before (page_limit s) (builds (page_limit s) h)) name in
      let many : length (spans_of (page_limit s) one.build) ≡ piece_count (page_limit s) one.row.lengths =
      ap (λ (plan : Option Plan). length (planned_spans (page_limit s) one.build plan)) is.plan_is
      ∙ pieces_length (page_limit s) (own_lengths one.build.parts) 0
      ∙ ap (piece_count (page_limit s)) (sym (ap (λ (row : Row). row.lengths) one.tells)) in
      let low = among.0 in
      let high = subst (λ (o : Option Build). IfSome o (λ (build : Build).
      piece.number < 0 + pieces_before (page_limit s) (builds (page_limit s) h) piece.blob + length (spans_of (page_limit s) build))) one.found among.1 in
      one.unheld one.gathers_so piece.number (omega (arith, low, first)) (omega (arith, high, first, many))

  pub gathered_apart : AreGatheredApart s h shares rows
  gathered_apart =
      for_both (λ (piece : Piece). FoundIn all piece.number piece) (IsAmong (page_limit s) 0 (builds (page_limit s) h)) (IsApart s h shares rows) all
      (λ piece found among gather. (no_item piece among gather, in_mind piece found gather))
      (all_by_number 0 all (pieces_numbered (page_limit s) 0 (builds (page_limit s) h)))
      (pieces_among (page_limit s) 0 (builds (page_limit s) h) distinct)

  -- the job in flight doesn't name it
  unnamed : (piece : Piece) → FoundIn all piece.number piece → is_gathered (builds (page_limit s) h) rows piece.blob ≡ true
      → is_in_job h piece.number ≡ false
  unnamed piece found gather = by (in_flight h) course.flying
    where
      by : (job : Option Job) → IfSome job (λ (one : Job). AllByRecursion (IsFlyable (page_limit s) h) one.pieces)
          → option_map_or (λ (one : Job). list_any (λ (named : ℕ). named == piece.number) one.pieces) job false ≡ false
      by None fly = refl
      by (Some job) fly = go (list_any (λ (named : ℕ). named == piece.number) job.pieces) refl
        where
          go : (b : Bool) → list_any (λ (named : ℕ). named == piece.number) job.pieces ≡ b → b ≡ false
          go false at = refl
          go true at = absurd (unlisted piece found gather (listed_all (IsFlyable (page_limit s) h) piece.number job.pieces fly at))

  pub gathered_unnamed : AllByRecursion (λ (piece : Piece). is_gathered (builds (page_limit s) h) rows piece.blob ≡ true
      → is_in_job h piece.number ≡ false) all
  gathered_unnamed =
      for_each (λ (piece : Piece). FoundIn all piece.number piece)
      (λ (piece : Piece). is_gathered (builds (page_limit s) h) rows piece.blob ≡ true → is_in_job h piece.number ≡ false) all
      (λ piece found gather. unnamed piece found gather) (all_by_number 0 all (pieces_numbered (page_limit s) 0 (builds (page_limit s) h)))
