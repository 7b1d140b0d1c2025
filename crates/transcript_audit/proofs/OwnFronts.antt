-- The own answers at the front of a list, where a test tells them.
use Rattle.std.proofs.Common.{◌≡◌, ℕ, ◌≤◌, ◌<◌, Bool, true, false, List, [], ◌∷◌, ◌++◌, length, get_or, take, Option, Some, None, refl, subst, sym, ap, ◌∙◌, arith, if◌then◌else◌}
use Rattle.std.proofs.lemmas.List.{take_more}
use Rattle.blob_words.specs.declared.number.RendererId.{RendererId}
use Rattle.blob_words.specs.declared.plan.Plan.{Plan}
use Rattle.blob_words.specs.declared.plan.Plan.TheVariants as plans
use Rattle.session_script.specs.declared.event.Event.{Event}
use Rattle.session_script.specs.declared.event.Event.TheVariants as events
use Rattle.answer_text.specs.declared.answer.Answer.{Answer}
use Rattle.answer_text.specs.declared.answer.Answer.TheVariants as answers
use Rattle.answer_text.specs.declared.refusal.Refusal.{Refusal}
use Rattle.blob_model.specs.Session.{Session}
use Rattle.blob_model.specs.History.{History}
use Rattle.blob_model.specs.Refusals.{refusal}
use Rattle.blob_model.specs.Own.{accepted, failing, plan_in, IsOwnBy, IsOwn}
use Rattle.blob_model.proofs.Lists.{false_true}
use Rattle.transcript_audit.specs.Tests.{same_answer, is_file, is_pair_among}
use Rattle.transcript_audit.specs.OwnTests.{is_single, plan_count, event_count, own_count_by, own_count, OwnFound}
use Rattle.transcript_audit.proofs.OwnTests.{only-sound, only-whole, pairs-sound, pairs-whole, single-sound, single-whole}
use Rattle.transcript_audit.proofs.OwnCount.{found_none, found_short}

-- the first answer, and the first two
pub take_one : (list : List Answer) (a : Answer) → 1 ≤ length list → a ≡ get_or list 0 a → take 1 list ≡ a ∷ []
take_one list a below is = take_more list 0 a (omega (arith, below)) ∙ ap (λ (one : Answer). one ∷ []) (sym is)

pub take_two : (list : List Answer) (a b : Answer) → 2 ≤ length list → a ≡ get_or list 0 a → b ≡ get_or list 1 b → take 2 list ≡ a ∷ b ∷ []
take_two list a b below is next =
    take_more list 1 b (omega (arith, below))
    ∙ ap (λ (front : List Answer). front ++ get_or list 1 b ∷ []) (take_one list a (omega (arith, below)) is)
    ∙ ap (λ (one : Answer). a ∷ one ∷ []) (sym next)

pub found_if : (s : Session) (h : History) (event : Event) (list : List Answer) (n : ℕ) (is : Bool) → own_count s h event ≡ n → n ≤ length list
    → (is ≡ true → IsOwn s h event (take n list)) → (IsOwn s h event (take n list) → is ≡ true) → OwnFound s h event list (if is then Some n else None)
found_if s h event list n true count below sound whole = (below, sym count, sound refl)
found_if s h event list n false count below sound whole = found_none s h event list n count (λ one. false_true (whole one))

-- a refused line
pub found_refused : (s : Session) (h : History) (event : Event) (list : List Answer) (a : Answer) (why : Refusal) → refusal s h event ≡ Some why
    → take 1 list ≡ a ∷ [] → 1 ≤ length list
    → OwnFound s h event list (if same_answer a (answers.Refused why) then Some 1 else None)
found_refused s h event list a why refuses front below =
    found_if s h event list 1 (same_answer a (answers.Refused why)) (ap (own_count_by s h event) refuses) below
    (λ e. subst (λ (own : List Answer). IsOwn s h event own) (sym front)
    (subst (λ (reason : Option Refusal). IsOwnBy s h event reason (a ∷ [])) (sym refuses) (only-sound a (answers.Refused why ∷ []) e)))
    (λ one. only-whole a (answers.Refused why ∷ [])
    (subst (λ (reason : Option Refusal). IsOwnBy s h event reason (a ∷ [])) refuses (subst (λ (own : List Answer). IsOwn s h event own) front one)))

-- an accepted line with one own answer
pub found_single : (s : Session) (h : History) (event : Event) (list : List Answer) (a : Answer) (is : Bool) → refusal s h event ≡ None
    → event_count s h event ≡ 1
    → take 1 list ≡ a ∷ [] → 1 ≤ length list → is ≡ is_single s h event a → OwnFound s h event list (if is then Some 1 else None)
found_single s h event list a is accepts count front below told =
    found_if s h event list 1 is (ap (own_count_by s h event) accepts ∙ count) below
    (λ e. subst (λ (own : List Answer). IsOwn s h event own) (sym front)
    (subst (λ (reason : Option Refusal). IsOwnBy s h event reason (a ∷ [])) (sym accepts) (single-sound s h event a (sym told ∙ e))))
    (λ one. told ∙ single-whole s h event a
    (subst (λ (reason : Option Refusal). IsOwnBy s h event reason (a ∷ [])) accepts (subst (λ (own : List Answer). IsOwn s h event own) front one)))

pub file_count : (plan : Option Plan) → is_file plan ≡ true → plan_count plan ≡ 2
file_count None e = absurd (false_true e)
file_count (Some (plans.File n)) e = refl
file_count (Some plan) e = absurd (false_true e)

pub other_count : (plan : Option Plan) → is_file plan ≡ false → plan_count plan ≡ 1
other_count (Some (plans.File n)) e = absurd (false_true (sym e))
other_count plan e = refl

-- a segment that goes to a page file has two
pub found_pair : (s : Session) (h : History) (r : RendererId) (b segment : ℕ) (bytes : List ℕ) (list : List Answer) (first second : Answer) (is : Bool)
    → refusal s h (events.Segment r b segment bytes) ≡ None → is_file (plan_in s h b) ≡ true → take 2 list ≡ first ∷ second ∷ [] → 2 ≤ length list
    → is ≡ is_pair_among first second (accepted s h (events.Segment r b segment bytes) ∷ failing s h (events.Segment r b segment bytes))
    → OwnFound s h (events.Segment r b segment bytes) list (if is then Some 2 else None)
found_pair s h r b segment bytes list first second is accepts filed front below told =
    let event : Event = events.Segment r b segment bytes in
    found_if s h event list 2 is (ap (own_count_by s h event) accepts ∙ file_count (plan_in s h b) filed) below
    (λ e. subst (λ (own : List Answer). IsOwn s h event own) (sym front)
    (subst (λ (reason : Option Refusal). IsOwnBy s h event reason (first ∷ second ∷ [])) (sym accepts) (pairs-sound first second
    (accepted s h event ∷ failing s h event) (sym told ∙ e))))
    (λ one. told ∙ pairs-whole first second (accepted s h event ∷ failing s h event)
    (subst (λ (reason : Option Refusal). IsOwnBy s h event reason (first ∷ second ∷ [])) accepts (subst (λ
    (own : List Answer). IsOwn s h event own) front one)))

-- too few answers
pub found_few_pair : (s : Session) (h : History) (r : RendererId) (b segment : ℕ) (bytes : List ℕ) (list : List Answer)
    → refusal s h (events.Segment r b segment bytes) ≡ None
    → is_file (plan_in s h b) ≡ true → length list < 2 → OwnFound s h (events.Segment r b segment bytes) list None
found_few_pair s h r b segment bytes list accepts filed few =
    let count : own_count s h (events.Segment r b segment bytes) ≡ 2 =
    ap (own_count_by s h (events.Segment r b segment bytes)) accepts ∙ file_count (plan_in s h b) filed in
    found_short s h (events.Segment r b segment bytes) list (omega (arith, few, count))

some_count : (plan : Option Plan) → 1 ≤ plan_count plan
some_count (Some (plans.File n)) = omega arith
some_count plan = omega arith

event_some : (s : Session) (h : History) (event : Event) → 1 ≤ event_count s h event
event_some s h (events.Segment r b segment bytes) = some_count (plan_in s h b)
event_some s h event = omega arith

pub own_some : (s : Session) (h : History) (event : Event) (why : Option Refusal) → 1 ≤ own_count_by s h event why
own_some s h event (Some why) = omega arith
own_some s h event None = event_some s h event

pub found_empty : (s : Session) (h : History) (event : Event) (list : List Answer) → length list ≡ 0 → OwnFound s h event list None
found_empty s h event list none =
    let one = own_some s h event (refusal s h event) in
    found_short s h event list (omega (arith, none, one))

-- a line that isn't a segment has one
pub plain_count : (s : Session) (h : History) (event : Event)
    → ((r : RendererId) (b segment : ℕ) (bytes : List ℕ) → event ≡ events.Segment r b segment bytes → ⊥) → event_count s h event ≡ 1
plain_count s h (events.Segment r b segment bytes) never = absurd (never r b segment bytes refl)
plain_count s h event never = refl
