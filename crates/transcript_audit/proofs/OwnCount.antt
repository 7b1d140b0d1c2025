-- How many own answers a line has, and so where they end.
use Rattle.std.proofs.Common.{◌≡◌, ℕ, zero, suc, ◌≤◌, ◌<◌, List, [], ◌∷◌, ◌++◌, length, take, Option, Some, None, refl, subst, ap, ◌∙◌, ◌⊎◌, inl, inr, ⊎_elim, arith}
use Rattle.blob_words.specs.declared.number.ReaderId.{ReaderId}
use Rattle.blob_words.specs.declared.number.JobNo.{JobNo}
use Rattle.blob_words.specs.declared.plan.Plan.{Plan}
use Rattle.blob_words.specs.declared.plan.Plan.TheVariants as plans
use Rattle.blob_words.specs.declared.status.Status.{Status}
use Rattle.blob_words.specs.declared.status.Status.TheVariants as statuses
use Rattle.session_script.specs.declared.event.Event.{Event}
use Rattle.session_script.specs.declared.event.Event.TheVariants as events
use Rattle.answer_text.specs.declared.answer.Answer.{Answer}
use Rattle.answer_text.specs.declared.answer.Answer.TheVariants as answers
use Rattle.answer_text.specs.declared.refusal.Refusal.{Refusal}
use Rattle.blob_model.specs.Session.{Session, page_limit}
use Rattle.blob_model.specs.History.{History}
use Rattle.blob_model.specs.Builds.{Cell, sent, filed, lent}
use Rattle.blob_model.specs.Standing.{ended}
use Rattle.blob_model.specs.Readers.{OpenReader, reader_at}
use Rattle.blob_model.specs.Chunk.{left, chunk, first_failing, before_failing}
use Rattle.blob_model.specs.Pieces.{Piece, pieces, piece_with}
use Rattle.blob_model.specs.Pages.{Place, in_memory, reserved, in_page, place}
use Rattle.blob_model.specs.Jobs.{in_flight}
use Rattle.blob_model.specs.Tally.{job_left}
use Rattle.blob_model.specs.Refusals.{refusal}
use Rattle.blob_model.specs.Choice.{IsOneOf}
use Rattle.blob_model.specs.Own.{read_faults, cell_fault, sent_fault, page_fault, stored_answers, unstored_answers, plan_in, job_failed, source_of, IsRead, IsNext, IsStepBy, IsStep, IsAccepted, IsOwnBy, IsOwn}
use Rattle.transcript_audit.specs.OwnTests.{plan_count, event_count, own_count_by, own_count, OwnFound}

one_of_append : {X : Type 0} (x : X) (xs ys : List X) → IsOneOf x (xs ++ ys) → IsOneOf x xs ⊎ IsOneOf x ys
one_of_append x [] ys one = inr one
one_of_append x (y ∷ xs) ys (inl same) = inl (inl same)
one_of_append x (y ∷ xs) ys (inr later) = ⊎_elim (λ there. inl (inr there)) (λ there. inr there) (one_of_append x xs ys later)

long : (own list : List Answer) (n : ℕ) → own ≡ list → length list ≡ n → length own ≡ n
long own list n e is = ap (length {A = Answer}) e ∙ is

page_fault_long : (own : List Answer) (reader : ReaderId) (at : Place) → IsOneOf own (page_fault reader at) → length own ≡ 1
page_fault_long own reader in_memory one = absurd one
page_fault_long own reader reserved one = absurd one
page_fault_long own reader (in_page number) (inl e) = ap (length {A = Answer}) e
page_fault_long own reader (in_page number) (inr none) = absurd none

sent_fault_long : (own : List Answer) (s : Session) (h : History) (reader : ReaderId) (found : Option Piece) → IsOneOf own (sent_fault s h reader found)
    → length own ≡ 1
sent_fault_long own s h reader None one = absurd one
sent_fault_long own s h reader (Some piece) one = page_fault_long own reader (place (page_limit s) h piece) one

cell_fault_long : (own : List Answer) (s : Session) (h : History) (reader : ReaderId) (cell : Cell) → IsOneOf own (cell_fault s h reader cell) → length own ≡ 1
cell_fault_long own s h reader (sent blob index) one = sent_fault_long own s h reader (piece_with (pieces (page_limit s) h) (sent blob index)) one
cell_fault_long own s h reader (filed name stamp index) one = absurd one
cell_fault_long own s h reader (lent slot index) (inl e) = ap (length {A = Answer}) e
cell_fault_long own s h reader (lent slot index) (inr none) = absurd none

faults_long : (own : List Answer) (s : Session) (h : History) (reader : ReaderId) (cells : List Cell) → IsOneOf own (read_faults s h reader cells) → length own
    ≡ 1
faults_long own s h reader [] one = absurd one
faults_long own s h reader (cell ∷ cells) one =
    ⊎_elim (cell_fault_long own s h reader cell) (faults_long own s h reader cells)
    (one_of_append own (cell_fault s h reader cell) (read_faults s h reader cells) one)

read_long : (own : List Answer) (s : Session) (h : History) (reader : ReaderId) (cells : List Cell) (first : Option Cell) → IsRead s h reader cells first own
    → length own ≡ 1
read_long own s h reader cells None (inl given) = ap (length {A = Answer}) given.1
read_long own s h reader cells None (inr fault) = faults_long own s h reader cells fault
read_long own s h reader cells (Some cell) (inl e) = ap (length {A = Answer}) e
read_long own s h reader cells (Some cell) (inr fault) = faults_long own s h reader (before_failing h cells) fault

next_long : (own : List Answer) (s : Session) (h : History) (reader : ReaderId) (open_reader : OpenReader) (more : ℕ) → IsNext s h reader open_reader more own
    → length own ≡ 1
next_long own s h reader open_reader zero e = ap (length {A = Answer}) e
next_long own s h reader open_reader (suc more) one = read_long own s h reader (chunk s.limits h open_reader) (first_failing h (chunk s.limits h open_reader))
    one

step_by_long : (own : List Answer) (s : Session) (h : History) (reader : ReaderId) (open_reader : OpenReader) (status : Option Status)
    → IsStepBy s h reader open_reader status own
    → length own ≡ 1
step_by_long own s h reader open_reader None e = ap (length {A = Answer}) e
step_by_long own s h reader open_reader (Some statuses.Done) one = next_long own s h reader open_reader (left open_reader) one
step_by_long own s h reader open_reader (Some status) e = ap (length {A = Answer}) e

step_long : (own : List Answer) (s : Session) (h : History) (reader : ReaderId) (found : Option OpenReader) → IsStep s h reader found own → length own ≡ 1
step_long own s h reader None one = absurd one
step_long own s h reader (Some open_reader) one = step_by_long own s h reader open_reader (ended h open_reader.blob) one

segment_long : (own : List Answer) (s : Session) (h : History) (b segment : ℕ) (plan : Option Plan)
    → IsOneOf own ((answers.Taken segment ∷ stored_answers s h b segment plan) ∷ unstored_answers s h segment plan) → length own ≡ plan_count plan
segment_long own s h b segment (Some (plans.File n)) (inl e) = ap (length {A = Answer}) e
segment_long own s h b segment (Some (plans.File n)) (inr (inl e)) = ap (length {A = Answer}) e
segment_long own s h b segment (Some (plans.File n)) (inr (inr none)) = absurd none
segment_long own s h b segment plan (inl e) = ap (length {A = Answer}) e
segment_long own s h b segment plan (inr none) = absurd none

failed_long : (own : List Answer) (h : History) (job : JobNo) (source : Option ℕ) (list : List ℕ) → IsOneOf own (job_failed h job source list) → length own ≡ 1
failed_long own h job source [] one = absurd one
failed_long own h job None (number ∷ numbers) (inl e) = ap (length {A = Answer}) e
failed_long own h job None (number ∷ numbers) (inr none) = absurd none
failed_long own h job (Some file) (number ∷ numbers) (inl e) = ap (length {A = Answer}) e
failed_long own h job (Some file) (number ∷ numbers) (inr (inl e)) = ap (length {A = Answer}) e
failed_long own h job (Some file) (number ∷ numbers) (inr (inr none)) = absurd none

accepted_long : (own : List Answer) (s : Session) (h : History) (event : Event) → IsAccepted s h event own → length own ≡ event_count s h event
accepted_long own s h (events.Step reader) one = step_long own s h reader (reader_at (page_limit s) h reader.0) one
accepted_long own s h (events.Segment renderer b segment bytes) one = segment_long own s h b segment (plan_in s h b) one
accepted_long own s h (events.Disk job) (inl e) = ap (length {A = Answer}) e
accepted_long own s h (events.Disk job) (inr failed) = failed_long own h job (source_of (in_flight h)) (job_left (page_limit s) h) failed
accepted_long own s h event (inl e) = ap (length {A = Answer}) e
accepted_long own s h event (inr none) = absurd none

own_long_by : (own : List Answer) (s : Session) (h : History) (event : Event) (why : Option Refusal) → IsOwnBy s h event why own → length own
    ≡ own_count_by s h event why
own_long_by own s h event (Some why) e = ap (length {A = Answer}) e
own_long_by own s h event None one = accepted_long own s h event one

pub own_long : (own : List Answer) (s : Session) (h : History) (event : Event) → IsOwn s h event own → length own ≡ own_count s h event
own_long own s h event one = own_long_by own s h event (refusal s h event) one

-- a front is told by how long it is
short_front : (list : List Answer) (m : ℕ) → length (take m list) ≤ length list
short_front [] m = omega (arith, take_none m)
  where
    take_none : (k : ℕ) → length (take k (let none : List Answer = [] in none)) ≡ 0
    take_none zero = refl
    take_none (suc k) = refl
short_front (a ∷ list) zero = omega arith
short_front (a ∷ list) (suc m) = let below = short_front list m in omega (arith, below)

front_told : (list : List Answer) (m n : ℕ) → length (take m list) ≡ n → take m list ≡ take n list
front_told [] zero n e = let none : n ≡ 0 = omega (arith, e) in rw none refl
front_told [] (suc m) n e = let none : n ≡ 0 = omega (arith, e) in rw none refl
front_told (a ∷ list) zero n e = let none : n ≡ 0 = omega (arith, e) in rw none refl
front_told (a ∷ list) (suc m) zero e = absurd (omega (arith, e))
front_told (a ∷ list) (suc m) (suc n) e = ap (λ (more : List Answer). a ∷ more) (front_told list m n (omega (arith, e)))

pub found_none : (s : Session) (h : History) (event : Event) (list : List Answer) (n : ℕ) → own_count s h event ≡ n → (IsOwn s h event (take n list) → ⊥)
    → OwnFound s h event list None
found_none s h event list n count never m one =
    never (subst (λ (own : List Answer). IsOwn s h event own) (front_told list m n (own_long (take m list) s h event one ∙ count)) one)

pub found_short : (s : Session) (h : History) (event : Event) (list : List Answer) → length list < own_count s h event → OwnFound s h event list None
found_short s h event list short m one =
    let below = short_front list m in
    omega (arith, own_long (take m list) s h event one, below, short)
