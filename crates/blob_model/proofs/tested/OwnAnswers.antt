-- A test of transcripts that tells exactly the legal ones, so that the worked rows are computed.
use Rattle.std.proofs.Common.{◌≡◌, ℕ, zero, suc, Bool, true, false, ◌&&◌, ◌||◌, List, [], ◌∷◌, refl, subst, sym, inl, inr, Option, Some, None, ⊎_elim}
use Rattle.std.proofs.lemmas.Bool.{and_parts}
use Rattle.blob_words.specs.declared.number.ReaderId.{ReaderId}
use Rattle.blob_words.specs.declared.status.Status.{Status}
use Rattle.blob_words.specs.declared.status.Status.TheVariants as statuses
use Rattle.session_script.specs.declared.event.Event.{Event}
use Rattle.session_script.specs.declared.event.Event.TheVariants as events
use Rattle.answer_text.specs.declared.answer.Answer.{Answer}
use Rattle.answer_text.specs.declared.answer.Answer.TheVariants as answers
use Rattle.answer_text.specs.declared.refusal.Refusal.{Refusal}
use Rattle.blob_model.specs.Session.{Session, page_limit}
use Rattle.blob_model.specs.History.{History}
use Rattle.blob_model.specs.Builds.{Cell}
use Rattle.blob_model.specs.Standing.{ended}
use Rattle.blob_model.specs.Readers.{OpenReader, reader_at}
use Rattle.blob_model.specs.Chunk.{left, chunk, file_of, first_failing, before_failing}
use Rattle.blob_model.specs.Value.{agree}
use Rattle.blob_model.specs.Refusals.{refusal}
use Rattle.blob_model.specs.Choice.{IsOneOf}
use Rattle.blob_model.specs.Own.{accepted, failing, read_faults, IsGiven, IsRead, IsNext, IsStepBy, IsStep, IsAccepted, IsOwnBy, IsOwn}
use Rattle.blob_model.proofs.Lists.{both, false_true, or_cases, or_first, or_second}
use Rattle.blob_model.proofs.tested.Words.{same_reader, same_reader-sound, same_reader-whole}
use Rattle.blob_model.proofs.tested.Answers.{same_answer, same_answer-sound, same_answer-whole}

-- two lists of answers
abbrev pub same_answers : List Answer → List Answer → Bool
same_answers [] [] = true
same_answers [] (b ∷ bs) = false
same_answers (a ∷ as') [] = false
same_answers (a ∷ as') (b ∷ bs) = same_answer a b && same_answers as' bs

pub same_answers-sound : (xs ys : List Answer) → same_answers xs ys ≡ true → xs ≡ ys
same_answers-sound [] [] e = refl
same_answers-sound [] (b ∷ bs) e = absurd (false_true e)
same_answers-sound (a ∷ xs) [] e = absurd (false_true e)
same_answers-sound (a ∷ xs) (b ∷ ys) e =
    let parts = and_parts (same_answer a b) (same_answers xs ys) e in
    let head : a ≡ b = same_answer-sound a b parts.0 in
    let tail : xs ≡ ys = same_answers-sound xs ys parts.1 in
    λ i. head i ∷ tail i

same_answers-refl : (xs : List Answer) → same_answers xs xs ≡ true
same_answers-refl [] = refl
same_answers-refl (a ∷ xs) = both (same_answer a a) (same_answers xs xs) (same_answer-whole a) (same_answers-refl xs)

pub same_answers-whole : (xs ys : List Answer) → xs ≡ ys → same_answers xs ys ≡ true
same_answers-whole xs ys e = subst (λ (zs : List Answer). same_answers xs zs ≡ true) e (same_answers-refl xs)

-- one of several lists
abbrev pub is_one_of : List Answer → List (List Answer) → Bool
is_one_of own [] = false
is_one_of own (list ∷ lists) = same_answers own list || is_one_of own lists

pub is_one_of-sound : (own : List Answer) (lists : List (List Answer)) → is_one_of own lists ≡ true → IsOneOf own lists
is_one_of-sound own [] e = absurd (false_true e)
is_one_of-sound own (list ∷ lists) e =
    ⊎_elim (λ same. inl (same_answers-sound own list same)) (λ later. inr (is_one_of-sound own lists later))
    (or_cases (same_answers own list) (is_one_of own lists) e)

pub is_one_of-whole : (own : List Answer) (lists : List (List Answer)) → IsOneOf own lists → is_one_of own lists ≡ true
is_one_of-whole own [] one = absurd one
is_one_of-whole own (list ∷ lists) (inl same) = or_first (same_answers own list) (is_one_of own lists) (same_answers-whole own list same)
is_one_of-whole own (list ∷ lists) (inr later) = or_second (same_answers own list) (is_one_of own lists) (is_one_of-whole own lists later)

-- the bytes given
abbrev given_one : Session → History → ReaderId → List Cell → Answer → Bool
given_one s h reader cells (answers.Given number bytes) = same_reader number reader && agree s h cells bytes
given_one s h reader cells answer = false

abbrev is_given : Session → History → ReaderId → List Cell → List Answer → Bool
is_given s h reader cells [] = false
is_given s h reader cells (answer ∷ []) = given_one s h reader cells answer
is_given s h reader cells (answer ∷ second ∷ more) = false

given_one-sound : (s : Session) (h : History) (reader : ReaderId) (cells : List Cell) (answer : Answer) → given_one s h reader cells answer ≡ true
    → IsGiven s h reader cells (answer ∷ [])
given_one-sound s h reader cells (answers.Given number bytes) e =
    let parts = and_parts (same_reader number reader) (agree s h cells bytes) e in
    let path : number ≡ reader = same_reader-sound number reader parts.0 in
    (bytes, (λ i. answers.Given (path i) bytes ∷ []), parts.1)
given_one-sound s h reader cells answer e = absurd (false_true e)

is_given-sound : (s : Session) (h : History) (reader : ReaderId) (cells : List Cell) (own : List Answer) → is_given s h reader cells own ≡ true
    → IsGiven s h reader cells own
is_given-sound s h reader cells [] e = absurd (false_true e)
is_given-sound s h reader cells (answer ∷ []) e = given_one-sound s h reader cells answer e
is_given-sound s h reader cells (answer ∷ second ∷ more) e = absurd (false_true e)

is_given-whole : (s : Session) (h : History) (reader : ReaderId) (cells : List Cell) (own : List Answer) → IsGiven s h reader cells own
    → is_given s h reader cells own ≡ true
is_given-whole s h reader cells own given =
    let done : is_given s h reader cells (answers.Given reader given.0 ∷ []) ≡ true = both (same_reader reader reader) (agree s h cells given.0)
    (same_reader-whole reader) given.2 in
    subst (λ (list : List Answer). is_given s h reader cells list ≡ true) (sym given.1) done

abbrev is_read : Session → History → ReaderId → List Cell → Option Cell → List Answer → Bool
is_read s h reader cells None own = is_given s h reader cells own || is_one_of own (read_faults s h reader cells)
is_read s h reader cells (Some cell) own = is_one_of own ((answers.FileChanged reader (file_of cell) ∷ []) ∷ read_faults s h reader (before_failing h cells))

is_read-sound : (s : Session) (h : History) (reader : ReaderId) (cells : List Cell) (first : Option Cell) (own : List Answer) → is_read s h reader cells first
    own ≡ true → IsRead s h reader cells first own
is_read-sound s h reader cells None own e =
    ⊎_elim (λ given. inl (is_given-sound s h reader cells own given)) (λ fault. inr (is_one_of-sound own (read_faults s h reader cells) fault))
    (or_cases (is_given s h reader cells own) (is_one_of own (read_faults s h reader cells)) e)
is_read-sound s h reader cells (Some cell) own e = is_one_of-sound own
    ((answers.FileChanged reader (file_of cell) ∷ []) ∷ read_faults s h reader (before_failing h cells)) e

is_read-whole : (s : Session) (h : History) (reader : ReaderId) (cells : List Cell) (first : Option Cell) (own : List Answer) → IsRead s h reader cells first
    own → is_read s h reader cells first own ≡ true
is_read-whole s h reader cells None own (inl given) = or_first (is_given s h reader cells own) (is_one_of own (read_faults s h reader cells))
    (is_given-whole s h reader cells own given)
is_read-whole s h reader cells None own (inr fault) =
    or_second (is_given s h reader cells own) (is_one_of own (read_faults s h reader cells)) (is_one_of-whole own (read_faults s h reader cells) fault)
is_read-whole s h reader cells (Some cell) own one = is_one_of-whole own
    ((answers.FileChanged reader (file_of cell) ∷ []) ∷ read_faults s h reader (before_failing h cells)) one

abbrev is_next : Session → History → ReaderId → OpenReader → ℕ → List Answer → Bool
is_next s h reader open_reader zero own = same_answers own (answers.Ended reader statuses.Done ∷ [])
is_next s h reader open_reader (suc more) own =
    is_read s h reader (chunk s.limits h open_reader) (first_failing h (chunk s.limits h open_reader)) own

is_next-sound : (s : Session) (h : History) (reader : ReaderId) (open_reader : OpenReader) (more : ℕ) (own : List Answer) → is_next s h reader open_reader more
    own ≡ true → IsNext s h reader open_reader more own
is_next-sound s h reader open_reader zero own e = same_answers-sound own (answers.Ended reader statuses.Done ∷ []) e
is_next-sound s h reader open_reader (suc more) own e =
    is_read-sound s h reader (chunk s.limits h open_reader) (first_failing h (chunk s.limits h open_reader)) own e

is_next-whole : (s : Session) (h : History) (reader : ReaderId) (open_reader : OpenReader) (more : ℕ) (own : List Answer) → IsNext s h reader open_reader more
    own → is_next s h reader open_reader more own ≡ true
is_next-whole s h reader open_reader zero own e = same_answers-whole own (answers.Ended reader statuses.Done ∷ []) e
is_next-whole s h reader open_reader (suc more) own one =
    is_read-whole s h reader (chunk s.limits h open_reader) (first_failing h (chunk s.limits h open_reader)) own one

abbrev is_step_by : Session → History → ReaderId → OpenReader → Option Status → List Answer → Bool
is_step_by s h reader open_reader None own = same_answers own (answers.Wait reader ∷ [])
is_step_by s h reader open_reader (Some statuses.Done) own = is_next s h reader open_reader (left open_reader) own
is_step_by s h reader open_reader (Some status) own = same_answers own (answers.Ended reader status ∷ [])

is_step_by-sound : (s : Session) (h : History) (reader : ReaderId) (open_reader : OpenReader) (status : Option Status) (own : List Answer)
    → is_step_by s h reader open_reader status own ≡ true → IsStepBy s h reader open_reader status own
is_step_by-sound s h reader open_reader None own e = same_answers-sound own (answers.Wait reader ∷ []) e
is_step_by-sound s h reader open_reader (Some statuses.Done) own e = is_next-sound s h reader open_reader (left open_reader) own e
is_step_by-sound s h reader open_reader (Some status) own e = same_answers-sound own (answers.Ended reader status ∷ []) e

is_step_by-whole : (s : Session) (h : History) (reader : ReaderId) (open_reader : OpenReader) (status : Option Status) (own : List Answer)
    → IsStepBy s h reader open_reader status own → is_step_by s h reader open_reader status own ≡ true
is_step_by-whole s h reader open_reader None own e = same_answers-whole own (answers.Wait reader ∷ []) e
is_step_by-whole s h reader open_reader (Some statuses.Done) own one = is_next-whole s h reader open_reader (left open_reader) own one
is_step_by-whole s h reader open_reader (Some status) own e = same_answers-whole own (answers.Ended reader status ∷ []) e

abbrev is_step : Session → History → ReaderId → Option OpenReader → List Answer → Bool
is_step s h reader None own = false
is_step s h reader (Some open_reader) own = is_step_by s h reader open_reader (ended h open_reader.blob) own

is_step-sound : (s : Session) (h : History) (reader : ReaderId) (found : Option OpenReader) (own : List Answer) → is_step s h reader found own ≡ true
    → IsStep s h reader found own
is_step-sound s h reader None own e = false_true e
is_step-sound s h reader (Some open_reader) own e = is_step_by-sound s h reader open_reader (ended h open_reader.blob) own e

is_step-whole : (s : Session) (h : History) (reader : ReaderId) (found : Option OpenReader) (own : List Answer) → IsStep s h reader found own
    → is_step s h reader found own ≡ true
is_step-whole s h reader None own one = absurd one
is_step-whole s h reader (Some open_reader) own one = is_step_by-whole s h reader open_reader (ended h open_reader.blob) own one

abbrev is_accepted : Session → History → Event → List Answer → Bool
is_accepted s h (events.Step reader) own = is_step s h reader (reader_at (page_limit s) h reader.0) own
is_accepted s h event own = is_one_of own (accepted s h event ∷ failing s h event)

is_accepted-sound : (s : Session) (h : History) (event : Event) (own : List Answer) → is_accepted s h event own ≡ true → IsAccepted s h event own
is_accepted-sound s h (events.Step reader) own e = is_step-sound s h reader (reader_at (page_limit s) h reader.0) own e
is_accepted-sound s h event own e = is_one_of-sound own (accepted s h event ∷ failing s h event) e

is_accepted-whole : (s : Session) (h : History) (event : Event) (own : List Answer) → IsAccepted s h event own → is_accepted s h event own ≡ true
is_accepted-whole s h (events.Step reader) own one = is_step-whole s h reader (reader_at (page_limit s) h reader.0) own one
is_accepted-whole s h event own one = is_one_of-whole own (accepted s h event ∷ failing s h event) one

abbrev is_own_by : Session → History → Event → Option Refusal → List Answer → Bool
is_own_by s h event (Some why) own = same_answers own (answers.Refused why ∷ [])
is_own_by s h event None own = is_accepted s h event own

is_own_by-sound : (s : Session) (h : History) (event : Event) (why : Option Refusal) (own : List Answer) → is_own_by s h event why own ≡ true
    → IsOwnBy s h event why own
is_own_by-sound s h event (Some why) own e = same_answers-sound own (answers.Refused why ∷ []) e
is_own_by-sound s h event None own e = is_accepted-sound s h event own e

is_own_by-whole : (s : Session) (h : History) (event : Event) (why : Option Refusal) (own : List Answer) → IsOwnBy s h event why own → is_own_by s h event why
    own ≡ true
is_own_by-whole s h event (Some why) own e = same_answers-whole own (answers.Refused why ∷ []) e
is_own_by-whole s h event None own one = is_accepted-whole s h event own one

-- the own answers of a line
abbrev pub is_own : Session → History → Event → List Answer → Bool
is_own s h event own = is_own_by s h event (refusal s h event) own

pub is_own-sound : (s : Session) (h : History) (event : Event) (own : List Answer) → is_own s h event own ≡ true → IsOwn s h event own
is_own-sound s h event own e = is_own_by-sound s h event (refusal s h event) own e

pub is_own-whole : (s : Session) (h : History) (event : Event) (own : List Answer) → IsOwn s h event own → is_own s h event own ≡ true
is_own-whole s h event own one = is_own_by-whole s h event (refusal s h event) own one
