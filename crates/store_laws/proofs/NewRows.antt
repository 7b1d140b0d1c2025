-- The entry and the row of a new blob, by what its line answers.
use Rattle.std.proofs.Common.{◌≡◌, ℕ, zero, suc, ◌+◌, ◌<◌, ◌==◌, ◌&&◌, not, Bool, true, false, List, [], ◌∷◌, map, length, sum, refl, ap, subst, sym, ◌∙◌, Option, Some, None, cond, arith}
use Rattle.std.specs.Prelude.{nat_le, nat_lt}
use Rattle.std.specs.List.{AllByRecursion, list_any, range_with_len}
use Rattle.std.specs.Int.{div_ceil}
use Rattle.std.proofs.lemmas.Bool.{and_parts, eq-eqb, eqb-true, or_parts}
use Rattle.blob_words.specs.declared.counted.Counted.TheVariants as counted
use Rattle.blob_words.specs.declared.number.RendererId.{RendererId}
use Rattle.blob_words.specs.declared.plan.Plan.{Plan}
use Rattle.blob_words.specs.declared.plan.Plan.TheVariants as plans
use Rattle.blob_words.specs.declared.status.Status.{Status}
use Rattle.blob_words.specs.declared.status.Status.TheVariants as statuses
use Rattle.session_script.specs.declared.event.Event.{Event}
use Rattle.session_script.specs.declared.event.Part.{Part}
use Rattle.answer_text.specs.declared.group.Group.{Group}
use Rattle.data_handles.specs.Table.{Table as HandleTable}
use Rattle.page_disk.specs.declared.change.Change.{Change}
use Rattle.item_shares.specs.declared.shares.Share.{Share}
use Rattle.blob_items.specs.declared.view.View.{View}
use Rattle.blob_entries.specs.Statuses.{is_broken}
use Rattle.transport_plan.specs.Plan.{file_plan, fits_inline, has_file_room, shared_plan}
use Rattle.transport_plan.specs.Plan.{own_bytes as input_bytes}
use Rattle.transport_plan.specs.Spans.{IsEndToEnd, piece_count, piece_spans}
use Rattle.transport_plan.proofs.SpanLemmas.{pieces_cover}
use Rattle.blob_model.specs.Builds.{Build, built, builds, parts_weight, plan_told}
use Rattle.blob_model.specs.Construct.{build_answer, build_answer_by, is_lost_source, line_status, line_tests, plan_for, plan_input}
use Rattle.blob_model.specs.Handles.{has_handle}
use Rattle.blob_model.specs.History.{History, heard, history_from, start}
use Rattle.blob_model.specs.Legal.{IsLegalFrom}
use Rattle.blob_model.specs.Live.{is_live}
use Rattle.blob_model.specs.Order.{named}
use Rattle.blob_model.specs.Parts.{embedded, own_bytes, own_lengths, sources}
use Rattle.blob_model.specs.Pieces.{pieces}
use Rattle.blob_model.specs.Session.{Session, page_limit}
use Rattle.blob_model.specs.Standing.{ended, ended_after, is_broken as is_broken_now, was_granted}
use Rattle.blob_model.specs.Transport.{arrivals}
use Rattle.blob_model.proofs.Lists.{false_true, not_false}
use Rattle.blob_model.proofs.kept.NewBlobs.{embedded_within}
use Rattle.blob_model.proofs.legal.Causes.{IsCaused}
use Rattle.blob_model.proofs.legal.Steps.{caused_from, kept_caused}
use Rattle.blob_model.proofs.settled.Endings.{some_that}
use Rattle.store_laws.specs.BuildLaws.{Adds, IsEntered, made}
use Rattle.store_laws.specs.Deciding.{line_weight_in}
use Rattle.store_laws.specs.DecidingLaws.{AreHeldThere}
use Rattle.store_laws.specs.EntryLaws.{AreBrought, IsReady, all_lengths, broken_entry, coming_row, pending_entry, ready_entry, settled_row}
use Rattle.store_laws.specs.Items.{piece_at}
use Rattle.store_laws.specs.PartLaws.{AreRanges}
use Rattle.store_laws.specs.Rows.{waiting, writing}
use Rattle.store_laws.specs.Stands.{Parts, Stands}
use Rattle.store_laws.specs.Uses.{own_pieces}
use Rattle.store_laws.proofs.BuildRefusals.{found_sources, weights_known}
use Rattle.store_laws.proofs.Entering.{new_entries}
use Rattle.store_laws.proofs.Unended.{unbuilt_unended}
use Rattle.store_laws.proofs.Ungranted.{unbuilt_ungranted}

-- ---- what a plan tells of the own bytes

abbrev pub Tells : List Part → Plan → Type 0
Tells parts plans.None = own_bytes parts ≡ 0
Tells parts plans.Inline = length (embedded parts) ≡ own_bytes parts
Tells parts (plans.File n) = 0 < own_bytes parts
Tells parts plan = Unit {0}

pub plan_tells : (s : Session) (h : History) (parts : List Part) → Tells parts (plan_for s h parts)
plan_tells s h parts =
    go (input_bytes (plan_input s h parts) == 0) refl
    (nat_lt s.limits.memory (input_bytes (plan_input s h parts)) && not (has_file_room (plan_input s h parts)))
    (nat_lt s.limits.big (input_bytes (plan_input s h parts)) && has_file_room (plan_input s h parts)) (fits_inline (plan_input s h parts)) refl
  where
    same : input_bytes (plan_input s h parts) ≡ own_bytes parts
    same = let within = embedded_within parts in omega (arith, within)

    by_file : (b : Bool) (what : Plan) → 0 < own_bytes parts → Tells parts what
        → Tells parts (cond b what (plans.File (piece_count (page_limit s) (own_lengths parts))))
    by_file true what some tells = tells
    by_file false what some tells = some

    by_shared : (b : Bool) (what : Plan) (n : ℕ) → Tells parts what → Tells parts (cond b what (plans.Shared n))
    by_shared true what n tells = tells
    by_shared false what n tells = tt

    go : (a : Bool) → (input_bytes (plan_input s h parts) == 0) ≡ a → (b c d : Bool) → fits_inline (plan_input s h parts) ≡ d
        → Tells parts
        (cond a plans.None
        (cond b plans.OutOfMemory (cond c (file_plan (piece_count (page_limit s) (own_lengths parts)))
        (cond d plans.Inline (shared_plan (div_ceil (input_bytes (plan_input s h parts)) s.limits.segment))))))
    go true at b c d inline = sym same ∙ eqb-true (input_bytes (plan_input s h parts)) 0 at
    go false at true c d inline = tt
    go false at false true d inline =
        by_file (nat_lt 65536 (piece_count (page_limit s) (own_lengths parts))) (plans.TooMany counted.Pieces) some tt
      where
        some : 0 < own_bytes parts
        some = cases (own_bytes parts) same
          where
            cases : (n : ℕ) → input_bytes (plan_input s h parts) ≡ n → 0 < n
            cases zero none = absurd (false_true (sym at ∙ eq-eqb (input_bytes (plan_input s h parts)) 0 none))
            cases (suc n) is = omega arith
    go false at false false true inline =
        let input = plan_input s h parts in
        let three = and_parts ((input.asked == 0) && nat_le (input_bytes input) input.limits.inline_max && not input.waiting)
        (nat_le (input.memory_used + input_bytes input) input.limits.memory) inline in
        let two = and_parts ((input.asked == 0) && nat_le (input_bytes input) input.limits.inline_max) (not input.waiting) three.0 in
        let one = and_parts (input.asked == 0) (nat_le (input_bytes input) input.limits.inline_max) two.0 in
        let none = eqb-true input.asked 0 one.0 in
        let within = embedded_within parts in
        omega (arith, none, within)
    go false at false false false inline =
        by_shared (nat_lt 65536 (div_ceil (input_bytes (plan_input s h parts)) s.limits.segment)) (plans.TooMany counted.Segments)
        (div_ceil (input_bytes (plan_input s h parts)) s.limits.segment) tt

-- ---- what the history with the line says of the blob

sources_named : (s : Session) (h : History) → IsCaused s h → (renderer : ℕ) (list : List ℕ) → list_any (is_lost_source h renderer) list ≡ false
    → AllByRecursion (λ (source : ℕ). named source (builds (page_limit s) h) ≡ true) list
sources_named s h caused renderer [] kept = tt
sources_named s h caused renderer (b ∷ list) kept =
    let each = or_parts (is_lost_source h renderer b) (list_any (is_lost_source h renderer) list) kept in
    let has = or_parts (not (has_handle h renderer b)) (is_broken_now h b) each.0 in
    ((kept_caused s h caused).held renderer b (not_false (has_handle h renderer b) has.0), sources_named s h caused renderer list each.1)

spans_there : (to : ℕ) (spans : List (ℕ × ℕ)) → IsEndToEnd 0 spans to → 0 < to → 0 < length spans
spans_there to [] ends some = absurd (omega (arith, ends, some))
spans_there to (span ∷ spans) ends some = omega arith

module _ (s : Session) (groups : List Group) (legal : IsLegalFrom s start groups) (event : Event) (renderer : RendererId) (name : ℕ) (kind : List ℕ)
    (line : List Part) where
  abbrev h : History
  h = history_from start groups

  abbrev later : History
  later = heard h event (build_answer s h renderer.0 name line)

  abbrev new : Build
  new = made s h renderer name kind line

  abbrev first : ℕ
  first = length (pieces (page_limit s) h)

  abbrev with_plan : Option Plan → Build
  with_plan plan = built (page_limit s) (builds (page_limit s) h) renderer.0 name kind line plan

  module _ (adds : Adds s h later new) where
    made_broken : (why : Status) → line_status s h renderer.0 name line ≡ Some why → new ≡ with_plan None
    made_broken why at = ap (λ (o : Option Status). with_plan (plan_told (build_answer_by s h name line o))) at

    pub made_planned : (plan : Plan) → line_status s h renderer.0 name line ≡ None → plan_for s h line ≡ plan → new ≡ with_plan (Some plan)
    made_planned plan at planned =
        ap (λ (o : Option Status). with_plan (plan_told (build_answer_by s h name line o))) at ∙ ap (λ (each : Plan). with_plan (Some each)) planned

    unended : ended h name ≡ None
    unended = unbuilt_unended s h (caused_from s groups legal) name adds.fresh

    ended_none : line_status s h renderer.0 name line ≡ None → ended later name ≡ None
    ended_none at = ap (λ (o : Option Status). ended_after (build_answer_by s h name line o) name (ended h name)) at ∙ unended

    ended_why : (why : Status) → line_status s h renderer.0 name line ≡ Some why → ended later name ≡ Some why
    ended_why why at =
        ap (λ (o : Option Status). ended_after (build_answer_by s h name line o) name (ended h name)) at
        ∙ ap (λ (b : Bool). cond b (Some why) (ended h name)) (eq-eqb name name refl)

    ungranted : was_granted later name ≡ false
    ungranted = adds.grants name ∙ unbuilt_ungranted s h (caused_from s groups legal) name adds.fresh

    quiet : arrivals later name ≡ []
    quiet = adds.segments name ∙ (kept_caused s h (caused_from s groups legal)).quiet name adds.fresh

    known : line_status s h renderer.0 name line ≡ None
        → AllByRecursion (λ (source : ℕ). named source (builds (page_limit s) h) ≡ true) (sources line)
    known at = sources_named s h (caused_from s groups legal) renderer.0 (sources line) (found_sources s h renderer.0 name line at)

    breaks_so : (why : Status) → line_status s h renderer.0 name line ≡ Some why → is_broken why ≡ true
    breaks_so why at = some_that (λ (each : Status). is_broken each ≡ true) (line_tests s h renderer.0 name line) why (refl, (refl, (refl, (refl, tt)))) at

    -- a blob that breaks at its line
    pub broken_now : (now : List (Option Share)) (why : Status) → line_status s h renderer.0 name line ≡ Some why
        → IsEntered s later new now (broken_entry renderer kind why) (settled_row None 0 first line)
    broken_now now why at =
        let is = made_broken why at in
        subst (λ (build : Build). IsEntered s later build now (broken_entry renderer kind why) (settled_row None 0 first line)) (sym is)
        (new_entries.broken s h later renderer name kind line why now (subst (Adds s h later) is adds) (ended_why why at) (breaks_so why at))

    module _ (parts : Parts) (told : Option (List Change)) (table : HandleTable) (there : AreHeldThere parts) (stands : Stands s h parts told table)
        (sized : 0 < page_limit s) (at : line_status s h renderer.0 name line ≡ None) (now : List (Option Share)) (views : List View)
        (ranges : AreRanges now views line) where
      pub line_weighs : line_weight_in parts line ≡ parts_weight (page_limit s) (builds (page_limit s) h) line
      line_weighs =
          weights_known s h (is_live (page_limit s) h) parts told table stands.between there renderer.0 line (found_sources s h renderer.0 name line at)

      -- a blob with all its own bytes at hand
      pub ready_now : (plan : Plan) → plan_for s h line ≡ plan → IsReady plan → (own : List View)
          → AreBrought now first (all_lengths (page_limit s) line) own
          → IsEntered s later new now (ready_entry renderer kind line (page_limit s) first views own)
          (settled_row (Some plan) (line_weight_in parts line) first line)
      ready_now plan planned ready own brought =
          let is = made_planned plan at planned in
          subst (λ (build : Build). IsEntered s later build now (ready_entry renderer kind line (page_limit s) first views own)
          (settled_row (Some plan) (line_weight_in parts line) first line)) (sym is)
          (subst (λ (weight : ℕ). IsEntered s later (with_plan (Some plan)) now (ready_entry renderer kind line (page_limit s) first views own)
          (settled_row (Some plan) weight first line)) (sym line_weighs)
          (new_entries.ready s h later renderer name kind line plan now views own sized (subst (Adds s h later) is adds) (ended_none at) ready (known at) ranges
          brought))

      -- a blob that waits for room
      pub waits_now : (n : ℕ) → plan_for s h line ≡ plans.Shared n
          → IsEntered s later new now (pending_entry renderer kind line (page_limit s) first views statuses.PendingQuota)
          (coming_row (Some (plans.Shared n)) (line_weight_in parts line) first line waiting)
      waits_now n planned =
          let is = made_planned (plans.Shared n) at planned in
          subst (λ (build : Build). IsEntered s later build now (pending_entry renderer kind line (page_limit s) first views statuses.PendingQuota)
          (coming_row (Some (plans.Shared n)) (line_weight_in parts line) first line waiting)) (sym is)
          (subst (λ (weight : ℕ). IsEntered s later (with_plan (Some (plans.Shared n))) now
          (pending_entry renderer kind line (page_limit s) first views statuses.PendingQuota)
          (coming_row (Some (plans.Shared n)) weight first line waiting)) (sym line_weighs)
          (new_entries.waits s h later renderer name kind line n now views sized (subst (Adds s h later) is adds) (ended_none at) ungranted (known at) ranges))

      -- no segment of it came
      abbrev none_came : List Bool
      none_came = map (λ (segment : ℕ). false) (range_with_len 0 (length (piece_spans (page_limit s) 0 (own_lengths line))))

      -- a blob whose segments go to page files
      pub writes_now : (n : ℕ) (slots : List ℕ) → plan_for s h line ≡ plans.File n
          → map (piece_at now) slots ≡ map (λ (number : ℕ). Some number) (own_pieces (page_limit s) later name)
          → IsEntered s later new now (pending_entry renderer kind line (page_limit s) first views statuses.PendingTransport)
          (coming_row (Some (plans.File n)) (line_weight_in parts line) first line (writing slots none_came))
      writes_now n slots planned written =
          let is = made_planned (plans.File n) at planned in
          let some : 0 < own_bytes line = subst (Tells line) planned (plan_tells s h line) in
          let whole : 0 + sum (own_lengths line) ≡ own_bytes line = omega arith in
          subst (λ (build : Build). IsEntered s later build now (pending_entry renderer kind line (page_limit s) first views statuses.PendingTransport)
          (coming_row (Some (plans.File n)) (line_weight_in parts line) first line (writing slots none_came))) (sym is)
          (subst (λ (weight : ℕ). IsEntered s later (with_plan (Some (plans.File n))) now
          (pending_entry renderer kind line (page_limit s) first views statuses.PendingTransport)
          (coming_row (Some (plans.File n)) weight first line (writing slots none_came))) (sym line_weighs)
          (new_entries.writes s h later renderer name kind line n now views slots sized (subst (Adds s h later) is adds) (ended_none at) quiet (known at) ranges
          (spans_there (own_bytes line) (piece_spans (page_limit s) 0 (own_lengths line))
          (subst (λ (to : ℕ). IsEndToEnd 0 (piece_spans (page_limit s) 0 (own_lengths line)) to) whole
          (pieces_cover (page_limit s) (own_lengths line) 0 sized)) some)
          written))
