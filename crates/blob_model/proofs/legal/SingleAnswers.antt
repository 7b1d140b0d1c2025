-- Where all is told and nothing fails, each line has one answer.
use Rattle.std.proofs.Common.{◌≡◌, ℕ, zero, suc, Bool, true, false, ◌||◌, List, [], ◌∷◌, ◌++◌, refl, ap, subst, sym, ◌∙◌, inl, inr, Option, Some, None}
use Rattle.std.specs.Prelude.{slice_get, is_some, is_none}
use Rattle.std.specs.List.{list_all}
use Rattle.std.proofs.lemmas.Bool.{eqb-true, and_parts}
use Rattle.blob_words.specs.declared.number.ReaderId.{ReaderId}
use Rattle.blob_words.specs.declared.number.JobNo.{JobNo}
use Rattle.blob_words.specs.declared.plan.Plan.{Plan}
use Rattle.blob_words.specs.declared.plan.Plan.TheVariants as plans
use Rattle.blob_words.specs.declared.status.Status.{Status}
use Rattle.blob_words.specs.declared.status.Status.TheVariants as statuses
use Rattle.session_script.specs.declared.event.Event.{Event}
use Rattle.session_script.specs.declared.event.Event.TheVariants as events
use Rattle.answer_text.specs.declared.answer.Answer.{Answer}
use Rattle.answer_text.specs.declared.answer.Answer.TheVariants as answers
use Rattle.answer_text.specs.declared.refusal.Refusal.{Refusal}
use Rattle.blob_model.specs.Session.{Slot, Session, page_limit}
use Rattle.blob_model.specs.History.{History}
use Rattle.blob_model.specs.Builds.{Cell, sent, filed, lent}
use Rattle.blob_model.specs.Standing.{ended}
use Rattle.blob_model.specs.Readers.{OpenReader, reader_at}
use Rattle.blob_model.specs.Pieces.{Piece, pieces, piece_with}
use Rattle.blob_model.specs.Pages.{Place, in_page, in_memory, reserved, place}
use Rattle.blob_model.specs.Chunk.{left, chunk, file_of, first_failing, before_failing}
use Rattle.blob_model.specs.Value.{value, is_untold, tells_nothing, is_byte, agrees, agree}
use Rattle.blob_model.specs.Refusals.{refusal}
use Rattle.blob_model.specs.Choice.{IsOneOf}
use Rattle.blob_model.specs.Own.{accepted, failing, unstored_answers, plan_in, job_failed, source_of, page_fault, sent_fault, cell_fault, read_faults, IsGiven, IsRead, IsNext, IsStepBy, IsStep, IsAccepted, IsOwnBy, IsOwn}
use Rattle.blob_model.specs.Jobs.{in_flight}
use Rattle.blob_model.specs.Tally.{job_left}
use Rattle.blob_model.specs.LegalLaws.{AllTold, tells, is_good}
use Rattle.blob_model.proofs.Lists.{false_true}

abbrev pub good : List Answer → Bool
good list = list_all is_good list

-- ---- bytes that are told

some_not_none : (bytes : Option (List ℕ)) → is_some bytes ≡ true → is_none bytes ≡ false
some_not_none None e = absurd (false_true e)
some_not_none (Some list) e = refl

told_slot : (slots : List Slot) (slot : ℕ) → list_all tells slots ≡ true → tells_nothing (slice_get slots slot) ≡ false
told_slot [] slot all = refl
told_slot (object ∷ slots) zero all = some_not_none object.bytes (and_parts (tells object) (list_all tells slots) all).0
told_slot (object ∷ slots) (suc slot) all = told_slot slots slot (and_parts (tells object) (list_all tells slots) all).1

told : (s : Session) (h : History) (cell : Cell) → AllTold s.outside → is_untold s h cell ≡ false
told s h (sent blob index) all = rw (all.0, is_untold) refl
told s h (filed name stamp index) all = refl
told s h (lent slot index) all = told_slot s.outside.slots slot all.1

one_byte : (known : Option ℕ) (a b : ℕ) → is_byte known a ≡ true → is_byte known b ≡ true → a ≡ b
one_byte None a b e f = absurd (false_true e)
one_byte (Some n) a b e f = sym (eqb-true n a e) ∙ eqb-true n b f

or_right : (x y : Bool) → x ≡ false → (x || y) ≡ true → y ≡ true
or_right true y e f = absurd (false_true (sym e))
or_right false y e f = f

one_cell : (s : Session) (h : History) (cell : Cell) (a b : ℕ) → AllTold s.outside → agrees s h cell a ≡ true → agrees s h cell b ≡ true → a ≡ b
one_cell s h cell a b all e f =
    one_byte (value s h cell) a b (or_right (is_untold s h cell) (is_byte (value s h cell) a) (told s h cell all) e)
    (or_right (is_untold s h cell) (is_byte (value s h cell) b) (told s h cell all) f)

one_chunk : (s : Session) (h : History) (cells : List Cell) (xs ys : List ℕ) → AllTold s.outside → agree s h cells xs ≡ true → agree s h cells ys ≡ true → xs
    ≡ ys
one_chunk s h [] [] [] all e f = refl
one_chunk s h [] [] (y ∷ ys) all e f = absurd (false_true f)
one_chunk s h [] (x ∷ xs) ys all e f = absurd (false_true e)
one_chunk s h (cell ∷ cells) [] ys all e f = absurd (false_true e)
one_chunk s h (cell ∷ cells) (x ∷ xs) [] all e f = absurd (false_true f)
one_chunk s h (cell ∷ cells) (x ∷ xs) (y ∷ ys) all e f =
    let p = and_parts (agrees s h cell x) (agree s h cells xs) e in
    let q = and_parts (agrees s h cell y) (agree s h cells ys) f in
    let head : x ≡ y = one_cell s h cell x y all p.0 q.0 in
    let tail : xs ≡ ys = one_chunk s h cells xs ys all p.1 q.1 in
    λ i. head i ∷ tail i

-- ---- lists of which each tells a fault

abbrev Faulty : List (List Answer) → Type 0
Faulty lists = (own : List Answer) → IsOneOf own lists → good own ≡ true → ⊥

none_faulty : Faulty []
none_faulty own one fine = one

one_faulty : (list : List Answer) → (good list ≡ true → ⊥) → (lists : List (List Answer)) → Faulty lists → Faulty (list ∷ lists)
one_faulty list bad lists rest own (inl same) fine = bad (subst (λ (l : List Answer). good l ≡ true) same fine)
one_faulty list bad lists rest own (inr later) fine = rest own later fine

both_faulty : (xs ys : List (List Answer)) → Faulty xs → Faulty ys → Faulty (xs ++ ys)
both_faulty [] ys f g own one fine = g own one fine
both_faulty (x ∷ xs) ys f g own (inl same) fine = f own (inl same) fine
both_faulty (x ∷ xs) ys f g own (inr later) fine = both_faulty xs ys (λ other at. f other (inr at)) g own later fine

unstored_faulty : (s : Session) (h : History) (segment : ℕ) (plan : Option Plan) → Faulty (unstored_answers s h segment plan)
unstored_faulty s h segment (Some (plans.File n)) own (inl same) fine =
    false_true (subst (λ (l : List Answer). good l ≡ true) same fine)
unstored_faulty s h segment (Some (plans.File n)) own (inr later) fine = later
unstored_faulty s h segment plan own one fine = one

job_faulty : (h : History) (job : JobNo) (source : Option ℕ) (list : List ℕ) → Faulty (job_failed h job source list)
job_faulty h job source [] own one fine = one
job_faulty h job None (number ∷ numbers) own (inl same) fine = false_true (subst (λ (l : List Answer). good l ≡ true) same fine)
job_faulty h job None (number ∷ numbers) own (inr later) fine = later
job_faulty h job (Some file) (number ∷ numbers) own (inl same) fine = false_true (subst (λ (l : List Answer). good l ≡ true) same fine)
job_faulty h job (Some file) (number ∷ numbers) own (inr (inl same)) fine = false_true (subst (λ (l : List Answer). good l ≡ true) same fine)
job_faulty h job (Some file) (number ∷ numbers) own (inr (inr later)) fine = later

failing_faulty : (s : Session) (h : History) (event : Event) → Faulty (failing s h event)
failing_faulty s h (events.Segment renderer b segment bytes) = unstored_faulty s h segment (plan_in s h b)
failing_faulty s h (events.Disk job) = job_faulty h job (source_of (in_flight h)) (job_left (page_limit s) h)
failing_faulty s h event = none_faulty

place_faulty : (reader : ReaderId) (at : Place) → Faulty (page_fault reader at)
place_faulty reader (in_page number) own (inl same) fine = false_true (subst (λ (l : List Answer). good l ≡ true) same fine)
place_faulty reader (in_page number) own (inr later) fine = later
place_faulty reader in_memory own one fine = one
place_faulty reader reserved own one fine = one

piece_faulty : (s : Session) (h : History) (reader : ReaderId) (piece : Option Piece) → Faulty (sent_fault s h reader piece)
piece_faulty s h reader None own one fine = one
piece_faulty s h reader (Some piece) own one fine = place_faulty reader (place (page_limit s) h piece) own one fine

cell_faulty : (s : Session) (h : History) (reader : ReaderId) (cell : Cell) → Faulty (cell_fault s h reader cell)
cell_faulty s h reader (sent blob index) own one fine = piece_faulty s h reader (piece_with (pieces (page_limit s) h) (sent blob index)) own one fine
cell_faulty s h reader (filed name stamp index) own one fine = one
cell_faulty s h reader (lent slot index) own (inl same) fine = false_true (subst (λ (l : List Answer). good l ≡ true) same fine)
cell_faulty s h reader (lent slot index) own (inr later) fine = later

read_faulty : (s : Session) (h : History) (reader : ReaderId) (cells : List Cell) → Faulty (read_faults s h reader cells)
read_faulty s h reader [] = none_faulty
read_faulty s h reader (cell ∷ cells) = both_faulty (cell_fault s h reader cell) (read_faults s h reader cells) (cell_faulty s h reader cell)
    (read_faulty s h reader cells)

-- ---- one answer

first_of : (list : List Answer) (lists : List (List Answer)) (own : List Answer) → Faulty lists → IsOneOf own (list ∷ lists) → good own ≡ true → own ≡ list
first_of list lists own bad (inl same) fine = same
first_of list lists own bad (inr later) fine = absurd (bad own later fine)

one_given : (s : Session) (h : History) (reader : ReaderId) (cells : List Cell) (own other : List Answer) → AllTold s.outside → IsGiven s h reader cells own
    → IsGiven s h reader cells other → own ≡ other
one_given s h reader cells own other all a b =
    let bytes : a.0 ≡ b.0 = one_chunk s h cells a.0 b.0 all a.2 b.2 in
    a.1 ∙ ap (λ (list : List ℕ). answers.Given reader list ∷ []) bytes ∙ sym b.1

one_read : (s : Session) (h : History) (reader : ReaderId) (cells : List Cell) (first : Option Cell) (own other : List Answer) → AllTold s.outside
    → IsRead s h reader cells first own → IsRead s h reader cells first other → good own ≡ true → good other ≡ true → own ≡ other
one_read s h reader cells None own other all (inl a) (inl b) e f = one_given s h reader cells own other all a b
one_read s h reader cells None own other all (inl a) (inr b) e f = absurd (read_faulty s h reader cells other b f)
one_read s h reader cells None own other all (inr a) b e f = absurd (read_faulty s h reader cells own a e)
one_read s h reader cells (Some cell) own other all a b e f =
    let bad = read_faulty s h reader (before_failing h cells) in
    first_of (answers.FileChanged reader (file_of cell) ∷ []) (read_faults s h reader (before_failing h cells)) own bad a e
    ∙ sym (first_of (answers.FileChanged reader (file_of cell) ∷ []) (read_faults s h reader (before_failing h cells)) other bad b f)

one_next : (s : Session) (h : History) (reader : ReaderId) (open_reader : OpenReader) (more : ℕ) (own other : List Answer) → AllTold s.outside
    → IsNext s h reader open_reader more own → IsNext s h reader open_reader more other → good own ≡ true → good other ≡ true → own ≡ other
one_next s h reader open_reader zero own other all a b e f = a ∙ sym b
one_next s h reader open_reader (suc more) own other all a b e f =
    one_read s h reader (chunk s.limits h open_reader) (first_failing h (chunk s.limits h open_reader)) own other all a b e f

one_step_by : (s : Session) (h : History) (reader : ReaderId) (open_reader : OpenReader) (status : Option Status) (own other : List Answer) → AllTold s.outside
    → IsStepBy s h reader open_reader status own → IsStepBy s h reader open_reader status other → good own ≡ true → good other ≡ true → own ≡ other
one_step_by s h reader open_reader None own other all a b e f = a ∙ sym b
one_step_by s h reader open_reader (Some statuses.Done) own other all a b e f = one_next s h reader open_reader (left open_reader) own other all a b e f
one_step_by s h reader open_reader (Some status) own other all a b e f = a ∙ sym b

one_step : (s : Session) (h : History) (reader : ReaderId) (found : Option OpenReader) (own other : List Answer) → AllTold s.outside
    → IsStep s h reader found own → IsStep s h reader found other → good own ≡ true → good other ≡ true → own ≡ other
one_step s h reader None own other all a b e f = absurd a
one_step s h reader (Some open_reader) own other all a b e f = one_step_by s h reader open_reader (ended h open_reader.blob) own other all a b e f

one_accepted : (s : Session) (h : History) (event : Event) (own other : List Answer) → AllTold s.outside
    → IsAccepted s h event own → IsAccepted s h event other → good own ≡ true → good other ≡ true → own ≡ other
one_accepted s h (events.Step reader) own other all a b e f = one_step s h reader (reader_at (page_limit s) h reader.0) own other all a b e f
one_accepted s h event own other all a b e f =
    first_of (accepted s h event) (failing s h event) own (failing_faulty s h event) a e ∙ sym
    (first_of (accepted s h event) (failing s h event) other (failing_faulty s h event) b f)

one_own_by : (s : Session) (h : History) (event : Event) (why : Option Refusal) (own other : List Answer) → AllTold s.outside
    → IsOwnBy s h event why own → IsOwnBy s h event why other → good own ≡ true → good other ≡ true → own ≡ other
one_own_by s h event (Some why) own other all a b e f = a ∙ sym b
one_own_by s h event None own other all a b e f = one_accepted s h event own other all a b e f

pub one_own : (s : Session) (h : History) (event : Event) (own other : List Answer) → AllTold s.outside
    → IsOwn s h event own → IsOwn s h event other → good own ≡ true → good other ≡ true → own ≡ other
one_own s h event own other all a b e f = one_own_by s h event (refusal s h event) own other all a b e f
