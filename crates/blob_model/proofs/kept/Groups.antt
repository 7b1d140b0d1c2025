-- Each legal group keeps order, handles and missing segments.
use Rattle.std.proofs.Common.{◌≡◌, ℕ, ◌==◌, true, false, ◌&&◌, List, [], ◌∷◌, ◌++◌, refl, ap, subst, sym, ◌∙◌, ⊎_elim, Option, Some, None, ℤ}
use Rattle.std.specs.Prelude.{nat_lt}
use Rattle.std.proofs.lemmas.Bool.{and_parts, eqb-true}
use Rattle.blob_words.specs.declared.number.RendererId.{RendererId}
use Rattle.session_script.specs.declared.event.Event.{Event}
use Rattle.session_script.specs.declared.event.Event.TheVariants as events
use Rattle.session_script.specs.declared.event.Part.{Part}
use Rattle.answer_text.specs.declared.answer.Answer.{Answer}
use Rattle.answer_text.specs.declared.answer.Answer.TheVariants as answers
use Rattle.answer_text.specs.declared.refusal.Refusal.{Refusal}
use Rattle.answer_text.specs.declared.group.Group.{Group}
use Rattle.blob_model.specs.Session.{Session, page_limit}
use Rattle.blob_model.specs.History.{History, start, heard, said, heard_first, said_all, after, history_from}
use Rattle.blob_model.specs.Builds.{builds, slice_parts}
use Rattle.blob_model.specs.Handles.{has_handle, count}
use Rattle.blob_model.specs.Construct.{line_status, build_answer}
use Rattle.blob_model.specs.Refusals.{refusal}
use Rattle.blob_model.specs.Settle.{settle}
use Rattle.blob_model.specs.Own.{IsOwn, IsOwnBy, IsAccepted}
use Rattle.blob_model.specs.Legal.{left_files, IsLegalGroup, IsLegalFrom}
use Rattle.blob_model.specs.Laws.{is_build}
use Rattle.blob_model.proofs.Lists.{false_true, not_false}
use Rattle.blob_model.proofs.live.Least.{named}
use Rattle.blob_model.proofs.builds.Growth.{only_one, planned_first}
use Rattle.blob_model.proofs.kept.Kept.{Kept, kept_said, kept_refused}
use Rattle.blob_model.proofs.kept.NewBlobs.{tests_fail, found_named}
use Rattle.blob_model.proofs.kept.Lines.{held_grows, kept_build, kept_segment, same_all, held_pass, held_drop, held_die}

pub kept_by_build : (s : Session) (h : History) (renderer : RendererId) (name : ℕ) (kind : List ℕ) (parts : List Part) → Kept s h
    → refusal s h (events.Build renderer name kind parts) ≡ None
    → Kept s (heard h (events.Build renderer name kind parts) (build_answer s h renderer.0 name parts))
kept_by_build s h renderer name kind parts kept accepted =
    let event = events.Build renderer name kind parts in
    let tests = tests_fail s h (events.Build renderer name kind parts) accepted in
    let fresh : named name (builds (page_limit s) h) ≡ false = sym (found_named (builds (page_limit s) h) name) ∙ tests.1.0 in
    let four = kept_build s h renderer.0 name kind parts (events.Build renderer name kind parts) kept fresh (λ n. refl) in
    record { ordered = four.0; held = held_grows s h _ renderer.0 kept; broke = four.1; quiet = four.2; lacking = four.3 }

pub kept_by_slice : (s : Session) (h : History) (renderer : RendererId) (name source : ℕ) (from to : Option ℤ) (kind : List ℕ) → Kept s h
    → refusal s h (events.Slice renderer name source from to kind) ≡ None
    → Kept s (heard h (events.Slice renderer name source from to kind)
    (build_answer s h renderer.0 name (slice_parts (builds (page_limit s) h) source from to)))
kept_by_slice s h renderer name source from to kind kept accepted =
    let parts = slice_parts (builds (page_limit s) h) source from to in
    let tests = tests_fail s h (events.Slice renderer name source from to kind) accepted in
    let fresh : named name (builds (page_limit s) h) ≡ false = sym (found_named (builds (page_limit s) h) name) ∙ tests.1.0 in
    let four = kept_build s h renderer.0 name kind (slice_parts (builds (page_limit s) h) source from to) (events.Slice renderer name source from to kind) kept
    fresh (λ n. refl) in
    record { ordered = four.0; held = held_grows s h _ renderer.0 kept; broke = four.1; quiet = four.2; lacking = four.3 }

pub kept_other : (s : Session) (h : History) (event : Event) (answer : Answer) → Kept s h → refusal s h event ≡ None → is_build event ≡ false
    → Kept s (heard h event answer)
kept_other s h (events.Build renderer name kind parts) answer kept accepted other = absurd (false_true (sym other))
kept_other s h (events.Slice renderer name source from to kind) answer kept accepted other = absurd (false_true (sym other))
kept_other s h (events.Segment renderer b segment bytes) answer kept accepted other = kept_segment s h answer renderer b segment bytes kept accepted
kept_other s h (events.Pass renderer to b) answer kept accepted other =
    let tests = tests_fail s h (events.Pass renderer to b) accepted in
    let has : has_handle h renderer.0 b ≡ true = not_false (has_handle h renderer.0 b) tests.1.1.0 in
    same_all s h (events.Pass renderer to b) answer kept refl (λ name. refl)
    (λ holder name e.
    ⊎_elim
    (λ (here : ((to.0 == holder) && (b == name)) ≡ true).
    let same : b ≡ name = eqb-true b name (and_parts (to.0 == holder) (b == name) here).1 in
    subst (λ (n : ℕ). named n (builds (page_limit s) h) ≡ true) same (kept.held renderer.0 b has))
    (λ (before : nat_lt 0 (count h holder name) ≡ true). kept.held holder name before)
    (held_pass ((to.0 == holder) && (b == name)) (count h holder name) e))
kept_other s h (events.Drop renderer b) answer kept accepted other =
    same_all s h (events.Drop renderer b) answer kept refl (λ name. refl)
    (λ holder name e. kept.held holder name (held_drop ((renderer.0 == holder) && (b == name)) (count h holder name) e))
kept_other s h (events.Die renderer) answer kept accepted other =
    same_all s h (events.Die renderer) answer kept refl (λ name. refl)
    (λ holder name e. kept.held holder name (held_die (renderer.0 == holder) (count h holder name) e))
kept_other s h events.Finish answer kept accepted other = same_all s h events.Finish answer kept refl (λ name. refl) (λ holder name e. absurd (false_true e))
kept_other s h event answer kept accepted other = same_all s h event answer kept refl (λ name. refl) (λ holder name e. kept.held holder name e)

pub kept_all : (s : Session) (h : History) (list : List Answer) → Kept s h → Kept s (said_all h list)
kept_all s h [] kept = kept
kept_all s h (answer ∷ list) kept = kept_all s (said h answer) list (kept_said s h answer kept)

kept_first : (s : Session) (h : History) (event : Event) (answer : Answer) → Kept s h → refusal s h event ≡ None → is_build event ≡ false
    → Kept s (heard_first h event answer)
kept_first s h event (answers.Refused why) kept accepted other = kept_refused s h event why kept
kept_first s h event answer kept accepted other = kept_other s h event answer kept accepted other

kept_list : (s : Session) (h : History) (event : Event) (list : List Answer) → Kept s h → refusal s h event ≡ None → is_build event ≡ false
    → Kept s (after h event list)
kept_list s h event [] kept accepted other = kept
kept_list s h event (answer ∷ more) kept accepted other = kept_all s (heard_first h event answer) more (kept_first s h event answer kept accepted other)

-- answers of which the first is known
kept_from_first : (s : Session) (h : History) (event : Event) (list own rest : List Answer) (one : Answer) → list ≡ own ++ rest → own ≡ one ∷ []
    → Kept s (heard_first h event one) → Kept s (after h event list)
kept_from_first s h event list own rest one whole e kept =
    let path : list ≡ one ∷ rest = whole ∙ ap (λ (xs : List Answer). xs ++ rest) e in
    subst (λ (xs : List Answer). Kept s (after h event xs)) (sym path) (kept_all s (heard_first h event one) rest kept)

kept_accepted : (s : Session) (h : History) (event : Event) (list own rest : List Answer) → Kept s h → refusal s h event ≡ None → IsAccepted s h event own
    → list ≡ own ++ rest → Kept s (after h event list)
kept_accepted s h (events.Build renderer name kind parts) list own rest kept accepted one whole =
    let event = events.Build renderer name kind parts in
    let e : own ≡ build_answer s h renderer.0 name parts ∷ [] = only_one own (build_answer s h renderer.0 name parts ∷ []) one in
    let first = planned_first s h renderer.0 name (events.Build renderer name kind parts) parts (line_status s h renderer.0 name parts) in
    kept_from_first s h (events.Build renderer name kind parts) list own rest (build_answer s h renderer.0 name parts) whole e
    (subst (λ (g : History). Kept s g) (sym first) (kept_by_build s h renderer name kind parts kept accepted))
kept_accepted s h (events.Slice renderer name source from to kind) list own rest kept accepted one whole =
    let parts = slice_parts (builds (page_limit s) h) source from to in
    let e : own ≡ build_answer s h renderer.0 name parts ∷ [] = only_one own (build_answer s h renderer.0 name parts ∷ []) one in
    let first = planned_first s h renderer.0 name (events.Slice renderer name source from to kind) parts (line_status s h renderer.0 name parts) in
    kept_from_first s h (events.Slice renderer name source from to kind) list own rest (build_answer s h renderer.0 name parts) whole e
    (subst (λ (g : History). Kept s g) (sym first) (kept_by_slice s h renderer name source from to kind kept accepted))
kept_accepted s h event list own rest kept accepted one whole = kept_list s h event list kept accepted refl

kept_by : (s : Session) (h : History) (event : Event) (list own rest : List Answer) (why : Option Refusal) → refusal s h event ≡ why → Kept s h
    → IsOwnBy s h event why own → list ≡ own ++ rest → Kept s (after h event list)
kept_by s h event list own rest (Some why) at kept e whole = kept_from_first s h event list own rest (answers.Refused why) whole e
    (kept_refused s h event why kept)
kept_by s h event list own rest None at kept one whole = kept_accepted s h event list own rest kept at one whole

pub kept_own : (s : Session) (h : History) (event : Event) (list own rest : List Answer) → Kept s h → IsOwn s h event own → list ≡ own ++ rest
    → Kept s (after h event list)
kept_own s h event list own rest kept is_own whole = kept_by s h event list own rest (refusal s h event) refl kept is_own whole

pub kept_start : (s : Session) → Kept s start
kept_start s = record { ordered = tt; held = λ holder name e. absurd (false_true e); broke = tt; quiet = λ name e. refl; lacking = tt }

pub kept_group : (s : Session) (h : History) (group : Group) → Kept s h → IsLegalGroup s h group → Kept s (after h group.event group.answers)
kept_group s h group kept legal = kept_own s h group.event group.answers legal.own (settle s (left_files group.answers) (after h group.event legal.own)) kept
    legal.is_own legal.settles

pub kept_from : (s : Session) (h : History) (groups : List Group) → Kept s h → IsLegalFrom s h groups → Kept s (history_from h groups)
kept_from s h [] kept legal = kept
kept_from s h (group ∷ groups) kept legal = kept_from s (after h group.event group.answers) groups (kept_group s h group kept legal.0) legal.1
