-- The parts that grew by a blob are grown as the laws say, where its entry and its row stand for the new blob of the history.
use Rattle.std.proofs.Common.{◌≡◌, ℕ, ◌&&◌, ◌||◌, Bool, true, false, not, cond, List, [], ◌∷◌, length, sum, refl, sym, ap, ◌∙◌, Option, Some, None}
use Rattle.std.specs.Option.{option_map_or}
use Rattle.blob_words.specs.declared.plan.Plan.{Plan}
use Rattle.blob_words.specs.declared.plan.Plan.TheVariants as plans
use Rattle.transport_plan.specs.Spans.{piece_count}
use Rattle.transport_plan.proofs.SpanLemmas.{pieces_length}
use Rattle.blob_model.specs.Builds.{Build}
use Rattle.blob_model.specs.History.{History}
use Rattle.blob_model.specs.Parts.{own_lengths}
use Rattle.blob_model.specs.Pieces.{planned_spans, spans_of}
use Rattle.blob_model.specs.Session.{Session, page_limit}
use Rattle.blob_model.specs.Standing.{grants_at_once, is_granted, is_unfinished, was_granted}
use Rattle.blob_model.specs.Transport.{has_all}
use Rattle.blob_model.specs.Waits.{is_shared, is_waiting}
use Rattle.store_laws.specs.BuildLaws.{grown_parts, IsEntered}
use Rattle.store_laws.specs.Rows.{came_of, coming_by, coming_of as coming_said, gathered_of, gathering, settled, waiting, without_slots, writing}
use Rattle.store_laws.specs.Rows.{Coming, Row as RowSaid}
use Rattle.blob_store.specs.NewBlobs.{Grows, NewBlob, RowFits}
use Rattle.blob_store.specs.Rows.{waits_by}
use Rattle.blob_store.specs.Seen.{coming_of, parts_of, row_of}
use Rattle.blob_store.specs.Whole.{with_line, Whole}
use Rattle.blob_store.specs.declared.parts.Parts.{Parts}
use Rattle.blob_store.specs.declared.row.Sending.{Sending}
use Rattle.blob_store.specs.declared.row.Sending.TheVariants.{Settled, Waiting, Gathering, Writing}
use Rattle.blob_store.proofs.SeenGrown.{seen_grown, WaitsSo}

-- ---- who waits

abbrev waits : Coming → Bool
waits settled = false
waits waiting = true
waits (gathering segments) = false
waits (writing slots came) = false

waits_bare : (coming : Coming) → waits (without_slots coming) ≡ waits coming
waits_bare settled = refl
waits_bare waiting = refl
waits_bare (gathering segments) = refl
waits_bare (writing slots came) = refl

waits_listed : (name bytes : ℕ) (sending : Sending)
    → waits_by name bytes sending ≡ cond (waits (coming_of sending)) ((name, bytes) ∷ []) []
waits_listed name bytes Settled = refl
waits_listed name bytes Waiting = refl
waits_listed name bytes (Gathering segments) = refl
waits_listed name bytes (Writing slots came) = refl

-- a blob waits in a history whose row says so
waits_said : (s : Session) (h : History) (build : Build) → is_waiting h build ≡ waits (coming_said s h build)
waits_said s h build = by (is_unfinished h build.name) build.plan refl
  where
    none : (u g : Bool) → (u && false && not g) ≡ waits (cond u settled settled)
    none true g = refl
    none false g = refl

    filed : (u g all : Bool) (came : List Bool) → (u && false && not g) ≡ waits (cond u (cond all settled (writing [] came)) settled)
    filed true g true came = refl
    filed true g false came = refl
    filed false g all came = refl

    shared : (u g all : Bool) → (u && true && not g) ≡ waits (cond u (cond g (cond all settled (gathering (gathered_of s h build))) waiting) settled)
    shared true true true = refl
    shared true true false = refl
    shared true false all = refl
    shared false g all = refl

    granted : (n : ℕ) → build.plan ≡ Some (plans.Shared n) → is_granted h build ≡ was_granted h build.name
    granted n is = ap (λ (plan : Option Plan). option_map_or grants_at_once plan false || was_granted h build.name) is

    by : (u : Bool) (plan : Option Plan) → build.plan ≡ plan
        → (u && is_shared plan && not (was_granted h build.name)) ≡ waits (cond u (coming_by s h build plan) settled)
    by u None is = none u (was_granted h build.name)
    by u (Some plans.None) is = none u (was_granted h build.name)
    by u (Some plans.Inline) is = none u (was_granted h build.name)
    by u (Some (plans.Shared n)) is =
        shared u (was_granted h build.name) (has_all s.limits h build)
        ∙ ap (λ (b : Bool). waits (cond u (cond b (cond (has_all s.limits h build) settled (gathering (gathered_of s h build))) waiting) settled))
        (sym (granted n is))
    by u (Some (plans.File n)) is = filed u (was_granted h build.name) (has_all s.limits h build) (came_of s h build)
    by u (Some plans.OutOfMemory) is = none u (was_granted h build.name)
    by u (Some (plans.TooMany what)) is = none u (was_granted h build.name)

-- ---- the parts

-- as many pieces as the spans of the blob
pieces_so : (page : ℕ) (build : Build) (plan : Option Plan)
    → option_map_or (λ (one : Plan). piece_count page (own_lengths build.parts)) plan 0 ≡ length (planned_spans page build plan)
pieces_so page build None = refl
pieces_so page build (Some plan) = sym (pieces_length page (own_lengths build.parts) 0)

module _ (new : NewBlob) (renderer : ℕ) (old now : Parts) (grows : Grows new renderer old now) (fits : RowFits new old now) (s : Session)
    (limits : old.limits ≡ s.limits) (later : History) (build : Build) (name : new.name ≡ build.name)
    (entered : IsEntered s later build now.shares new.entry (row_of new.row)) where
  lengths : new.row.lengths ≡ own_lengths build.parts
  lengths = ap (λ (row : RowSaid). row.lengths) entered.row_is

  homes : length new.homes ≡ length (spans_of (page_limit s) build)
  homes =
      sym fits.many
      ∙ (λ i. option_map_or (λ (one : Plan). piece_count (limits i).page (lengths i)) (ap (λ (row : RowSaid). row.plan) entered.row_is i) 0)
      ∙ pieces_so (page_limit s) build build.plan

  waits_so : WaitsSo later build new
  waits_so =
      let same : waits (coming_of new.row.sending) ≡ is_waiting later build =
      sym (waits_bare (coming_of new.row.sending)) ∙ ap (λ (row : RowSaid). waits row.coming) entered.row_is ∙ sym (waits_said s later build) in
      waits_listed new.name (sum new.row.lengths) new.row.sending ∙ (λ i. cond (same i) ((name i, sum (lengths i)) ∷ []) [])

  pub seen_entered : length old.registry.entries ≡ length old.rows → Whole (with_line now)
      → parts_of now ≡ grown_parts s later build new.entry (row_of new.row) now.shares now.renderers now.quota.used (parts_of old)
  seen_entered sized whole =
      seen_grown new renderer old now grows sized whole s later build name (ap (λ (row : RowSaid). row.weight) entered.row_is) homes waits_so
