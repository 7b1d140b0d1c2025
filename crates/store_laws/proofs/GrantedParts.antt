-- Entries and rows once one blob has its room: what is said of the others stays, and its segments may come.
use Rattle.std.proofs.Common.{◌≡◌, ℕ, zero, suc, ◌+◌, ◌==◌, ◌&&◌, ◌||◌, not, Bool, true, false, cond, List, [], ◌∷◌, map, length, replicate, refl, ap}
use Rattle.std.proofs.Common.{subst, sym, ◌∙◌, Option, Some, None, arith}
use Rattle.std.specs.Prelude.{is_none, sum, unwrap_or, IfSome, IsSomeAnd}
use Rattle.std.specs.Int.{div_ceil}
use Rattle.std.specs.Option.{option_map, option_map_or}
use Rattle.std.specs.List.{range_with_len, AllByRecursion}
use Rattle.std.proofs.lemmas.Bool.{eq-eqb, eqb-true, or_parts}
use Rattle.std.proofs.lemmas.List.{length-map}
use Rattle.std.proofs.lemmas.List.FromFn.{length-range_with_len}
use Rattle.blob_words.specs.declared.plan.Plan.{Plan}
use Rattle.blob_words.specs.declared.plan.Plan.TheVariants as plans
use Rattle.blob_words.specs.declared.status.Status.{Status}
use Rattle.blob_words.specs.declared.status.Status.TheVariants as statuses
use Rattle.answer_text.specs.declared.answer.Answer.TheVariants as answers
use Rattle.blob_entries.specs.Book.{Book, changed, changed_at}
use Rattle.blob_entries.specs.Changes.{with_status}
use Rattle.blob_entries.specs.Names.{number_of}
use Rattle.blob_entries.specs.Statuses.{is_pending}
use Rattle.blob_entries.specs.declared.entry.Entry.{Entry}
use Rattle.item_shares.specs.Shares.{item_at}
use Rattle.item_shares.specs.declared.item.Item.{Item}
use Rattle.item_shares.specs.declared.item.Item.TheVariants.{Memory, Paged, Reserved, File, Range}
use Rattle.item_shares.specs.declared.shares.Share.{Share}
use Rattle.transport_plan.specs.Spans.{segment_spans, span_at}
use Rattle.blob_model.specs.Builds.{Build, Cell, build_in, builds}
use Rattle.blob_model.specs.History.{History, said}
use Rattle.blob_model.specs.Order.{named, Distinct}
use Rattle.blob_model.specs.Pages.{in_memory, in_page, reserved}
use Rattle.blob_model.specs.Parts.{own_lengths}
use Rattle.blob_model.specs.Pieces.{Piece}
use Rattle.blob_model.specs.Reached.{is_granted_piece}
use Rattle.blob_model.specs.Session.{Session, page_limit}
use Rattle.blob_model.specs.Standing.{ended, grants_at_once, is_granted, is_unfinished, was_granted}
use Rattle.blob_model.specs.Transport.{Arrival, arrivals, brought, has_all, spans}
use Rattle.blob_model.specs.Waits.{is_shared, is_waiting}
use Rattle.blob_model.proofs.Lists.{false_true, or_second}
use Rattle.registry_laws.specs.Agree.{Beside, breaks_as}
use Rattle.registry_laws.proofs.Places.{names_of}
use Rattle.store_laws.specs.Cells.{piece_in}
use Rattle.store_laws.specs.Granting.{changed_under, gathering_row, unsent}
use Rattle.store_laws.specs.Items.{IsPlaced, ItemsStand}
use Rattle.store_laws.specs.LineLaws.{AreUnmarked}
use Rattle.store_laws.specs.Outlines.{Outline, outline, outline_of, status_now, IsMarkedRight}
use Rattle.store_laws.specs.Recipes.{EntryStands, IsEntryFor, RowsBeside, StandsFor}
use Rattle.store_laws.specs.Rows.{AreWritten, Row, bare, coming_by, coming_of, gathered_of, gathering, gathers, is_gathered, row_of, segments_of}
use Rattle.store_laws.specs.Rows.{settled, waiting}
use Rattle.store_laws.specs.Uses.{facts_of}
use Rattle.store_laws.proofs.Coming.{AreRowed, row_at}
use Rattle.store_laws.proofs.PassOrder.{turn}
use Rattle.store_laws.proofs.Paired.{AreOutlined, outline_at}

-- ---- what stands beside the blob of a name

module _ {X : Type 0} (name : ℕ) (change : X → X) where
  abbrev pub changed_by : List Build → List (Option X) → List (Option X)
  changed_by [] held = held
  changed_by (build ∷ list) [] = []
  changed_by (build ∷ list) (one ∷ held) = cond (build.name == name) (option_map change one) one ∷ changed_by list held

  nothing_changes : (list : List Build) (held : List (Option X)) → named name list ≡ false → changed_by list held ≡ held
  nothing_changes [] held e = refl
  nothing_changes (build ∷ list) [] e = refl
  nothing_changes (build ∷ list) (one ∷ held) e =
      let parts = or_parts (build.name == name) (named name list) e in
      λ i. cond (parts.0 i) (option_map change one) one ∷ nothing_changes list held parts.1 i

  abbrev under : Option ℕ → List (Option X) → List (Option X)
  under number held = option_map_or (λ (n : ℕ). changed_under n change held) number held

  -- where names differ it stands under the number of the name
  pub by_number : (list : List Build) (held : List (Option X)) → Distinct list → under (number_of name (names_of list)) held ≡ changed_by list held
  by_number [] held distinct = refl
  by_number (build ∷ list) [] distinct = none (number_of name (names_of (build ∷ list)))
    where
      none : (o : Option ℕ) → under o [] ≡ []
      none None = refl
      none (Some n) = refl
  by_number (build ∷ list) (one ∷ held) distinct = go (name == build.name) refl (by_number list held distinct.1)
    where
      later : (o : Option ℕ) → under (option_map (λ (n : ℕ). n + 1) o) (one ∷ held) ≡ one ∷ under o held
      later None = refl
      later (Some n) = let next : n + 1 ≡ suc n = omega arith in ap (λ (m : ℕ). changed_under m change (one ∷ held)) next

      go : (b : Bool) → (name == build.name) ≡ b → under (number_of name (names_of list)) held ≡ changed_by list held
          → under (cond {A = Option ℕ} b (Some 0) (option_map (λ (n : ℕ). n + 1) (number_of name (names_of list)))) (one ∷ held)
          ≡ cond (build.name == name) (option_map change one) one ∷ changed_by list held
      go true at more =
          let fresh : named name list ≡ false = subst (λ (n : ℕ). named n list ≡ false) (sym (eqb-true name build.name at)) distinct.0 in
          λ i. cond (sym (turn build.name name ∙ at) i) (option_map change one) one ∷ sym (nothing_changes list held fresh) i
      go false at more =
          later (number_of name (names_of list))
          ∙ (λ i. cond (sym (turn build.name name ∙ at) i) (option_map change one) one ∷ more i)

-- the book with a change of what stands under a name
pub book_changed : (name : ℕ) (change : Entry → Entry) (book : Book) (list : List Build) → book.names ≡ names_of list → Distinct list
    → changed book name change ≡ record book { entries = changed_by name change list book.entries }
book_changed name change book list names distinct =
    by (number_of name book.names)
    ∙ ap (λ (o : Option ℕ). record book { entries = under name change o book.entries }) (ap (number_of name) names)
    ∙ ap (λ (entries : List (Option Entry)). record book { entries = entries }) (by_number name change list book.entries distinct)
  where
    by : (o : Option ℕ)
        → option_map_or (λ (number : ℕ). changed_at book number change) o book ≡ record book { entries = under name change o book.entries }
    by None = refl
    by (Some number) = refl

-- ---- the blob that has its room

-- it waited, and nothing of it came
pub record IsHead (s : Session) (h : History) (head : Build) : Type 0 where
  pub waits : is_waiting h head ≡ true
  pub quiet : arrivals h head.name ≡ []
  pub lacks : has_all s.limits h head ≡ false

module _ (s : Session) (h : History) (head : Build) (is : IsHead s h head) where
  abbrev g : History
  g = said h (answers.Granted head.name)

  waits_by : (u c w : Bool) → (u && c && not w) ≡ true → (u ≡ true) × (c ≡ true) × (w ≡ false)
  waits_by true true false e = (refl, refl, refl)
  waits_by true true true e = absurd (false_true e)
  waits_by true false w e = absurd (false_true e)
  waits_by false c w e = absurd (false_true e)

  parted : (is_unfinished h head.name ≡ true) × (is_shared head.plan ≡ true) × (was_granted h head.name ≡ false)
  parted = waits_by (is_unfinished h head.name) (is_shared head.plan) (was_granted h head.name) is.waits

  pub begun : ended h head.name ≡ None
  begun = go (ended h head.name) parted.0
    where
      go : (o : Option Status) → is_none o ≡ true → o ≡ None
      go None e = refl
      go (Some status) e = absurd (false_true e)

  shared : (n : ℕ) × (head.plan ≡ Some (plans.Shared n))
  shared = go head.plan parted.1
    where
      go : (plan : Option Plan) → is_shared plan ≡ true → (n : ℕ) × (plan ≡ Some (plans.Shared n))
      go (Some (plans.Shared n)) e = (n, refl)
      go (Some plans.None) e = absurd (false_true e)
      go (Some plans.Inline) e = absurd (false_true e)
      go (Some (plans.File n)) e = absurd (false_true e)
      go (Some plans.OutOfMemory) e = absurd (false_true e)
      go (Some (plans.TooMany what)) e = absurd (false_true e)
      go None e = absurd (false_true e)

  itself : (head.name == head.name) ≡ true
  itself = eq-eqb head.name head.name refl

  -- ---- its status

  was_status : status_now s h head ≡ statuses.PendingQuota
  was_status =
      λ i. unwrap_or (begun i) (cond (is.waits i) statuses.PendingQuota
      (cond (has_all s.limits h head) statuses.PendingReferencedBlobs statuses.PendingTransport))

  waits_no_more : is_waiting g head ≡ false
  waits_no_more =
      (λ i. is_unfinished h head.name && is_shared head.plan && not (itself i || was_granted h head.name)) ∙ go (is_unfinished h head.name)
      (is_shared head.plan)
    where
      go : (a b : Bool) → (a && b && false) ≡ false
      go true true = refl
      go true false = refl
      go false b = refl

  now_status : status_now s g head ≡ statuses.PendingTransport
  now_status =
      λ i. unwrap_or (begun i) (cond (waits_no_more i) statuses.PendingQuota
      (cond (is.lacks i) statuses.PendingReferencedBlobs statuses.PendingTransport))

  head_outlined : outline_of s g head ≡ record (outline_of s h head) { status = statuses.PendingTransport }
  head_outlined = λ i. record (outline_of s h head) { status = now_status i }

  -- every other waits as it did
  other_waits : (build : Build) → (build.name == head.name) ≡ false → is_waiting g build ≡ is_waiting h build
  other_waits build other =
      λ i. is_unfinished h build.name && is_shared build.plan && not ((turn head.name build.name ∙ other) i || was_granted h build.name)

  other_outlined : (build : Build) → (build.name == head.name) ≡ false → outline_of s g build ≡ outline_of s h build
  other_outlined build other =
      λ i. record (outline_of s h build) {
        status = unwrap_or (ended h build.name) (cond (other_waits build other i) statuses.PendingQuota
            (cond (has_all s.limits h build) statuses.PendingReferencedBlobs statuses.PendingTransport));
      }

  -- ---- its row

  none_brought : (from count : ℕ) → map (λ (segment : ℕ). brought [] segment) (range_with_len from count) ≡ replicate count None
  none_brought from zero = refl
  none_brought from (suc count) = ap (λ (more : List (Option (List ℕ))). None ∷ more) (none_brought (from + 1) count)

  as_many : length (spans s.limits head) ≡ div_ceil (sum (own_lengths head.parts)) s.limits.segment
  as_many =
      let size = s.limits.segment in
      let own = sum (own_lengths head.parts) in
      ap (λ (o : Option Plan). length (option_map_or (λ (plan : Plan). segment_spans (own_lengths head.parts) plan s.limits) o [])) shared.1
      ∙ length-map (range_with_len 0 (div_ceil (sum (own_lengths head.parts)) s.limits.segment))
      (λ (k : ℕ). (0 + (span_at s.limits.segment (sum (own_lengths head.parts)) k).0, (span_at s.limits.segment (sum (own_lengths head.parts)) k).1))
      ∙ length-range_with_len 0 (div_ceil (sum (own_lengths head.parts)) s.limits.segment)

  none_came : segments_of s h head ≡ replicate (div_ceil (sum (own_lengths head.parts)) s.limits.segment) None
  none_came =
      ap (λ (came : List Arrival). map (λ (segment : ℕ). brought came segment) (range_with_len 0 (length (spans s.limits head)))) is.quiet
      ∙ none_brought 0 (length (spans s.limits head))
      ∙ ap (λ (count : ℕ). replicate count None) as_many

  gathered_now : gathered_of s g head ≡ unsent s.limits (own_lengths head.parts)
  gathered_now = λ i. record { parts = own_lengths head.parts; segment = s.limits.segment; page = page_limit s; taken = none_came i }

  head_coming : coming_of s g head ≡ gathering (unsent s.limits (own_lengths head.parts))
  head_coming =
      ap (λ (o : Option Status). cond (is_none o) (coming_by s g head head.plan) settled) begun ∙ ap (coming_by s g head) shared.1
      ∙ (λ i. cond (granted_now i) (cond (is.lacks i) settled (gathering (gathered_now i))) waiting)
    where
      granted_now : is_granted g head ≡ true
      granted_now =
          or_second (option_map_or grants_at_once head.plan false) ((head.name == head.name) || was_granted h head.name)
          (ap (λ (b : Bool). b || was_granted h head.name) itself)

  head_row : row_of s g head ≡ gathering_row s.limits (row_of s h head)
  head_row = λ i. record (row_of s h head) { coming = head_coming i }

  other_coming : (build : Build) → (build.name == head.name) ≡ false → (plan : Option Plan) → coming_by s g build plan ≡ coming_by s h build plan
  other_coming build other (Some (plans.Shared n)) =
      λ i. cond (option_map_or grants_at_once build.plan false || ((turn head.name build.name ∙ other) i || was_granted h build.name))
      (cond (has_all s.limits h build) settled (gathering (gathered_of s h build))) waiting
  other_coming build other (Some plans.None) = refl
  other_coming build other (Some plans.Inline) = refl
  other_coming build other (Some (plans.File n)) = refl
  other_coming build other (Some plans.OutOfMemory) = refl
  other_coming build other (Some (plans.TooMany what)) = refl
  other_coming build other None = refl

  other_row : (build : Build) → (build.name == head.name) ≡ false → row_of s g build ≡ row_of s h build
  other_row build other =
      λ i. record (row_of s h build) { coming = cond (is_unfinished h build.name) (other_coming build other build.plan i) settled }

  -- ---- all entries and rows

  -- a blob of that name is that blob
  abbrev pub IsAlone : Build → Type 0
  IsAlone build = (build.name == head.name) ≡ true → build ≡ head

  module _ (stands : ℕ → Bool) where
    pub outlined_now : (list : List Build) (entries : List (Option Entry)) → AllByRecursion IsAlone list → AreOutlined s h stands list entries
        → AreOutlined s g stands list (changed_by head.name (with_status statuses.PendingTransport) list entries)
    outlined_now [] entries alone e = e
    outlined_now (build ∷ list) [] alone e = absurd (cc e)
    outlined_now (build ∷ list) (held ∷ entries) alone e = λ i. here (build.name == head.name) refl i ∷ outlined_now list entries alone.1 rest i
      where
        rest : AreOutlined s h stands list entries
        rest = cc e

        first : option_map outline held ≡ outline_at s h stands build
        first = cc e

        by : (b : Bool) (one : Option Entry) → outline_of s g build ≡ record (outline_of s h build) { status = statuses.PendingTransport }
            → option_map outline one ≡ cond b (Some (outline_of s h build)) None
            → option_map outline (option_map (with_status statuses.PendingTransport) one) ≡ cond b (Some (outline_of s g build)) None
        by false None now was = refl
        by true None now was = absurd (cc was)
        by false (Some entry) now was = absurd (cc was)
        by true (Some entry) now was =
            let same : outline entry ≡ outline_of s h build = cc was in
            (λ i. Some (record (same i) { status = statuses.PendingTransport })) ∙ ap Some (sym now)

        here : (c : Bool) → (build.name == head.name) ≡ c
            → option_map outline (cond c (option_map (with_status statuses.PendingTransport) held) held) ≡ outline_at s g stands build
        here false at = first ∙ ap (λ (o : Outline). cond (stands build.name) (Some o) None) (sym (other_outlined build at))
        here true at =
            by (stands build.name) held
            (subst (λ (one : Build). outline_of s g one ≡ record (outline_of s h one) { status = statuses.PendingTransport }) (sym (alone.0 at))
            head_outlined)
            first

    -- the entry waited for room
    waited : (build : Build) (entry : Entry) → build ≡ head → option_map outline (Some entry) ≡ outline_at s h stands build
        → entry.status ≡ statuses.PendingQuota
    waited build entry same e = go (stands build.name) e
      where
        go : (b : Bool) → Some (outline entry) ≡ cond b (Some (outline_of s h build)) None → entry.status ≡ statuses.PendingQuota
        go true f =
            let was : outline entry ≡ outline_of s h build = cc f in
            ap (λ (o : Outline). o.status) was ∙ subst (λ (one : Build). status_now s h one ≡ statuses.PendingQuota) (sym same) was_status
        go false f = absurd (cc f)

    pub unmarked_now : (list : List Build) (entries : List (Option Entry)) → AllByRecursion IsAlone list → AreOutlined s h stands list entries
        → AreUnmarked entries → AreUnmarked (changed_by head.name (with_status statuses.PendingTransport) list entries)
    unmarked_now [] entries alone e none = none
    unmarked_now (build ∷ list) [] alone e none = tt
    unmarked_now (build ∷ list) (held ∷ entries) alone e none =
        (here (build.name == head.name) refl held first none.0, unmarked_now list entries alone.1 rest none.1)
      where
        rest : AreOutlined s h stands list entries
        rest = cc e

        first : option_map outline held ≡ outline_at s h stands build
        first = cc e

        here : (c : Bool) → (build.name == head.name) ≡ c → (one : Option Entry) → option_map outline one ≡ outline_at s h stands build
            → IfSome one (λ (entry : Entry). is_pending entry.status ≡ true → entry.mark ≡ None)
            → IfSome (cond c (option_map (with_status statuses.PendingTransport) one) one)
            (λ (entry : Entry). is_pending entry.status ≡ true → entry.mark ≡ None)
        here false at one f is_none = is_none
        here true at None f is_none = tt
        here true at (Some entry) f is_none = λ pending. is_none (ap is_pending (waited build entry (alone.0 at) f))

    -- ---- what entries stand for

    module _ (whole : List Build) (all : List Piece) (shares : List (Option Share)) (own : ℕ → List ℕ) where
      stands_on : (cells : List Cell) (status : Status) (entry : Entry) → status ≡ statuses.PendingQuota → StandsFor whole all shares cells status entry
          → StandsFor whole all shares cells statuses.PendingTransport (with_status statuses.PendingTransport entry)
      stands_on cells status entry same is =
          let was : StandsFor whole all shares cells statuses.PendingQuota entry =
          subst (λ (st : Status). StandsFor whole all shares cells st entry) same is in
          was

      entry_on : (build : Build) (entry : Entry) → entry.status ≡ statuses.PendingQuota → IsEntryFor whole all shares own build entry
          → IsEntryFor whole all shares own build (with_status statuses.PendingTransport entry)
      entry_on build entry same fine = record {
        stands = stands_on build.cells entry.status entry same fine.stands;
        steps = fine.steps;
        inside = fine.inside;
        owned = λ pending. fine.owned (ap is_pending same);
        sources = λ pending. fine.sources (ap is_pending same);
      }

      pub entries_now : (list : List Build) (entries : List (Option Entry)) → AllByRecursion IsAlone list → AreOutlined s h stands list entries
          → Beside (EntryStands whole all shares own) list entries
          → Beside (EntryStands whole all shares own) list (changed_by head.name (with_status statuses.PendingTransport) list entries)
      entries_now [] entries alone e fine = fine
      entries_now (build ∷ list) [] alone e fine = absurd fine
      entries_now (build ∷ list) (held ∷ entries) alone e fine =
          (here (build.name == head.name) refl held first fine.0, entries_now list entries alone.1 rest fine.1)
        where
          rest : AreOutlined s h stands list entries
          rest = cc e

          first : option_map outline held ≡ outline_at s h stands build
          first = cc e

          here : (c : Bool) → (build.name == head.name) ≡ c → (one : Option Entry) → option_map outline one ≡ outline_at s h stands build
              → EntryStands whole all shares own build one
              → EntryStands whole all shares own build (cond c (option_map (with_status statuses.PendingTransport) one) one)
          here false at one f is = is
          here true at None f is = tt
          here true at (Some entry) f is = entry_on build entry (waited build entry (alone.0 at) f) is

      pub written_now : (list : List Build) (rows : List (Option Row))
          → RowsBeside (λ (build : Build) (row : Row). AreWritten shares (own build.name) row.coming) list rows
          → RowsBeside (λ (build : Build) (row : Row). AreWritten shares (own build.name) row.coming) list
          (changed_by head.name (gathering_row s.limits) list rows)
      written_now [] rows is = tt
      written_now (build ∷ list) [] is = tt
      written_now (build ∷ list) (held ∷ rows) is = here (build.name == head.name) held (written_now list rows) is
        where
          Later : List (Option Row) → Type 0
          Later = RowsBeside (λ (each : Build) (row : Row). AreWritten shares (own each.name) row.coming) list

          here : (c : Bool) (one : Option Row) → (Later rows → Later (changed_by head.name (gathering_row s.limits) list rows))
              → RowsBeside (λ (each : Build) (row : Row). AreWritten shares (own each.name) row.coming) (build ∷ list) (one ∷ rows)
              → RowsBeside (λ (each : Build) (row : Row). AreWritten shares (own each.name) row.coming) (build ∷ list)
              (cond c (option_map (gathering_row s.limits) one) one ∷ changed_by head.name (gathering_row s.limits) list rows)
          here false None later all = later all
          here false (Some row) later all = (all.0, later all.1)
          here true None later all = later all
          here true (Some row) later all = (tt, later all.1)

    -- ---- rows

    pub rowed_now : (list : List Build) (rows : List (Option Row)) → AllByRecursion IsAlone list → AreRowed s h stands list rows
        → AreRowed s g stands list (changed_by head.name (gathering_row s.limits) list rows)
    rowed_now [] rows alone e = e
    rowed_now (build ∷ list) [] alone e = absurd (cc e)
    rowed_now (build ∷ list) (held ∷ rows) alone e = λ i. here (build.name == head.name) refl i ∷ rowed_now list rows alone.1 rest i
      where
        rest : AreRowed s h stands list rows
        rest = cc e

        first : option_map bare held ≡ row_at s h stands build
        first = cc e

        by : (b : Bool) (one : Option Row) → row_of s g build ≡ gathering_row s.limits (row_of s h build)
            → option_map bare one ≡ cond b (Some (row_of s h build)) None
            → option_map bare (option_map (gathering_row s.limits) one) ≡ cond b (Some (row_of s g build)) None
        by false None now was = refl
        by true None now was = absurd (cc was)
        by false (Some row) now was = absurd (cc was)
        by true (Some row) now was =
            let same : bare row ≡ row_of s h build = cc was in
            ap Some (ap (gathering_row s.limits) same ∙ sym now)

        here : (c : Bool) → (build.name == head.name) ≡ c
            → option_map bare (cond c (option_map (gathering_row s.limits) held) held) ≡ row_at s g stands build
        here false at = first ∙ ap (λ (row : Row). cond (stands build.name) (Some row) None) (sym (other_row build at))
        here true at =
            by (stands build.name) held
            (subst (λ (one : Build). row_of s g one ≡ gathering_row s.limits (row_of s h one)) (sym (alone.0 at)) head_row) first

  -- the bytes of every other blob are gathered as they were
  pub gathered_other : (list : List Build) (rows : List (Option Row)) (name : ℕ) → (head.name == name) ≡ false
      → is_gathered list (changed_by head.name (gathering_row s.limits) list rows) name ≡ is_gathered list rows name
  gathered_other [] rows name other = refl
  gathered_other (build ∷ list) [] name other = refl
  gathered_other (build ∷ list) (held ∷ rows) name other = by (build.name == name) refl (gathered_other list rows name other)
    where
      by : (c : Bool) → (build.name == name) ≡ c
          → is_gathered list (changed_by head.name (gathering_row s.limits) list rows) name ≡ is_gathered list rows name
          → cond c (option_map_or (λ (row : Row). gathers row.coming) (cond (build.name == head.name) (option_map (gathering_row s.limits) held) held) false)
          (is_gathered list (changed_by head.name (gathering_row s.limits) list rows) name)
          ≡ cond c (option_map_or (λ (row : Row). gathers row.coming) held false) (is_gathered list rows name)
      by false at later = later
      by true at later =
          let apart : (build.name == head.name) ≡ false =
          ap (λ (n : ℕ). n == head.name) (eqb-true build.name name at) ∙ turn name head.name ∙ other in
          ap (λ (b : Bool). option_map_or (λ (row : Row). gathers row.coming) (cond b (option_map (gathering_row s.limits) held) held) false) apart

  -- ---- items

  granted_on : (list : List Build) (piece : Piece) → is_granted_piece h list piece ≡ true → is_granted_piece g list piece ≡ true
  granted_on list piece = go (build_in list piece.blob)
    where
      more : (a b c : Bool) → (a || c) ≡ true → (a || (b || c)) ≡ true
      more true b c e = refl
      more false true c e = refl
      more false false c e = e

      go : (o : Option Build) → option_map_or (is_granted h) o false ≡ true → option_map_or (is_granted g) o false ≡ true
      go None e = e
      go (Some build) e =
          more (option_map_or grants_at_once build.plan false) (head.name == build.name) (was_granted h build.name) e

  placed_on : (all : List Piece) (item : Item) → IsPlaced all (facts_of s h) item → IsPlaced all (facts_of s g) item
  placed_on all (Memory piece bytes) is = go (piece_in all piece.0) is
    where
      go : (o : Option Piece)
          → IsSomeAnd o (λ (one : Piece). ((facts_of s h).granted one ≡ true) × ((facts_of s h).place one ≡ in_memory)
          × (bytes ≡ (facts_of s h).bytes one) × (length bytes ≡ one.len))
          → IsSomeAnd o (λ (one : Piece). ((facts_of s g).granted one ≡ true) × ((facts_of s g).place one ≡ in_memory)
          × (bytes ≡ (facts_of s g).bytes one) × (length bytes ≡ one.len))
      go None p = p
      go (Some one) p = (granted_on (builds (page_limit s) h) one p.0, p.1, p.2, p.3)
  placed_on all (Paged piece page off len) is = go (piece_in all piece.0) is
    where
      go : (o : Option Piece)
          → IsSomeAnd o (λ (one : Piece). ((facts_of s h).granted one ≡ true) × ((facts_of s h).place one ≡ in_page page.0)
          × (off ≡ (facts_of s h).offset one) × (len ≡ one.len))
          → IsSomeAnd o (λ (one : Piece). ((facts_of s g).granted one ≡ true) × ((facts_of s g).place one ≡ in_page page.0)
          × (off ≡ (facts_of s g).offset one) × (len ≡ one.len))
      go None p = p
      go (Some one) p = (granted_on (builds (page_limit s) h) one p.0, p.1, p.2, p.3)
  placed_on all (Reserved piece len) is = go (piece_in all piece.0) is
    where
      go : (o : Option Piece)
          → IsSomeAnd o (λ (one : Piece). ((facts_of s h).granted one ≡ true) × ((facts_of s h).place one ≡ reserved) × (len ≡ one.len))
          → IsSomeAnd o (λ (one : Piece). ((facts_of s g).granted one ≡ true) × ((facts_of s g).place one ≡ reserved) × (len ≡ one.len))
      go None p = p
      go (Some one) p = (granted_on (builds (page_limit s) h) one p.0, p.1, p.2)
  placed_on all (File name stamp off len) is = is
  placed_on all (Range slot off len) is = is

  pub items_now : (all : List Piece) (shares : List (Option Share)) → ItemsStand all (facts_of s h) shares → ItemsStand all (facts_of s g) shares
  items_now all shares items = record { each = λ slot. by (item_at shares slot) (items.each slot); apart = items.apart }
    where
      by : (o : Option Item) → IfSome o (IsPlaced all (facts_of s h)) → IfSome o (IsPlaced all (facts_of s g))
      by None is = tt
      by (Some item) is = placed_on all item is

-- where nobody is marked the marks agree with any history
pub marks_so : (s : Session) (h later : History) (list : List Build) (entries now : List (Option Entry)) → Beside (IsMarkedRight s h) list entries
    → length now ≡ length entries → AreUnmarked now → Beside (IsMarkedRight s later) list now
marks_so s h later [] [] [] right same none = tt
marks_so s h later [] [] (one ∷ now) right same none = absurd (cc same)
marks_so s h later [] (held ∷ entries) now right same none = absurd right
marks_so s h later (build ∷ list) [] now right same none = absurd right
marks_so s h later (build ∷ list) (held ∷ entries) [] right same none = absurd (cc same)
marks_so s h later (build ∷ list) (held ∷ entries) (one ∷ now) right same none =
    (by one none.0, marks_so s h later list entries now right.1 (cc same) none.1)
  where
    marked : (mark : Option Status) → mark ≡ None → IfSome mark (λ (why : Status). breaks_as s later build ≡ Some why)
    marked None is = tt
    marked (Some why) is = absurd (cc is)

    by : (one : Option Entry) → IfSome one (λ (entry : Entry). is_pending entry.status ≡ true → entry.mark ≡ None) → IsMarkedRight s later build one
    by None is = tt
    by (Some entry) is = λ pending. marked entry.mark (is pending)

pub changed_long : {X : Type 0} (name : ℕ) (change : X → X) (list : List Build) (held : List (Option X))
    → length (changed_by name change list held) ≡ length held
changed_long name change [] held = refl
changed_long name change (build ∷ list) [] = refl
changed_long name change (build ∷ list) (one ∷ held) = ap suc (changed_long name change list held)
