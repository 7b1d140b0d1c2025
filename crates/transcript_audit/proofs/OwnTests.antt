-- The tests on own answers tell exactly the own answers.
use Rattle.std.proofs.Common.{◌≡◌, ℕ, zero, suc, ◌==◌, true, List, [], ◌∷◌, Option, Some, None, subst, sym, inl, inr, ⊎_elim}
use Rattle.std.proofs.lemmas.Bool.{and_parts}
use Rattle.blob_words.specs.declared.number.ReaderId.{ReaderId}
use Rattle.blob_words.specs.declared.status.Status.{Status}
use Rattle.blob_words.specs.declared.status.Status.TheVariants as statuses
use Rattle.session_script.specs.declared.event.Event.{Event}
use Rattle.session_script.specs.declared.event.Event.TheVariants as events
use Rattle.answer_text.specs.declared.answer.Answer.{Answer}
use Rattle.answer_text.specs.declared.answer.Answer.TheVariants as answers
use Rattle.blob_model.specs.Session.{Session, page_limit}
use Rattle.blob_model.specs.History.{History}
use Rattle.blob_model.specs.Builds.{Cell}
use Rattle.blob_model.specs.Standing.{ended}
use Rattle.blob_model.specs.Readers.{OpenReader, reader_at}
use Rattle.blob_model.specs.Chunk.{left, chunk, file_of, first_failing, before_failing}
use Rattle.blob_model.specs.Value.{agree}
use Rattle.blob_model.specs.Choice.{IsOneOf}
use Rattle.blob_model.specs.Own.{accepted, failing, read_faults, IsGiven, IsRead, IsNext, IsStepBy, IsStep, IsAccepted}
use Rattle.blob_model.proofs.Lists.{both, false_true, or_cases, or_first, or_second}
use Rattle.blob_model.proofs.tested.Words.{same_reader-sound, same_reader-whole}
use Rattle.blob_model.proofs.tested.Answers.{same_answer-sound, same_answer-whole}
use Rattle.transcript_audit.specs.Tests.{same_answer, is_only, is_among, is_pair, is_pair_among}
use Rattle.transcript_audit.specs.OwnTests.{is_given, is_read, is_next, is_step_by, is_step, is_single}

-- two answers that are one
whole_at : (a b : Answer) → a ≡ b → same_answer a b ≡ true
whole_at a b e = subst (λ (c : Answer). same_answer a c ≡ true) e (same_answer-whole a)

alone : (a b : Answer) → (a ∷ []) ≡ (b ∷ []) → a ≡ b
alone a b e = cc

pub only-sound : (a : Answer) (list : List Answer) → is_only a list ≡ true → (a ∷ []) ≡ list
only-sound a [] e = absurd (false_true e)
only-sound a (one ∷ []) e = let same : a ≡ one = same_answer-sound a one e in λ i. same i ∷ []
only-sound a (one ∷ two ∷ more) e = absurd (false_true e)

pub only-whole : (a : Answer) (list : List Answer) → (a ∷ []) ≡ list → is_only a list ≡ true
only-whole a [] e = cc
only-whole a (one ∷ []) e = whole_at a one (alone a one e)
only-whole a (one ∷ two ∷ more) e = cc

pub among-sound : (a : Answer) (lists : List (List Answer)) → is_among a lists ≡ true → IsOneOf (a ∷ []) lists
among-sound a [] e = absurd (false_true e)
among-sound a (list ∷ []) e = inl (only-sound a list e)
among-sound a (list ∷ next ∷ lists) e =
    ⊎_elim (λ same. inl (only-sound a list same)) (λ later. inr (among-sound a (next ∷ lists) later)) (or_cases (is_only a list) (is_among a (next ∷ lists)) e)

pub among-whole : (a : Answer) (lists : List (List Answer)) → IsOneOf (a ∷ []) lists → is_among a lists ≡ true
among-whole a [] one = absurd one
among-whole a (list ∷ []) (inl same) = only-whole a list same
among-whole a (list ∷ []) (inr none) = absurd none
among-whole a (list ∷ next ∷ lists) (inl same) = or_first (is_only a list) (is_among a (next ∷ lists)) (only-whole a list same)
among-whole a (list ∷ next ∷ lists) (inr later) = or_second (is_only a list) (is_among a (next ∷ lists)) (among-whole a (next ∷ lists) later)

two_alike : (a b c d : Answer) → a ≡ c → b ≡ d → (a ∷ b ∷ []) ≡ (c ∷ d ∷ [])
two_alike a b c d e f = λ i. e i ∷ f i ∷ []

first_alike : (a b c d : Answer) → (a ∷ b ∷ []) ≡ (c ∷ d ∷ []) → a ≡ c
first_alike a b c d e = cc

second_alike : (a b c d : Answer) → (a ∷ b ∷ []) ≡ (c ∷ d ∷ []) → b ≡ d
second_alike a b c d e = cc

pub pair-sound : (a b : Answer) (list : List Answer) → is_pair a b list ≡ true → (a ∷ b ∷ []) ≡ list
pair-sound a b [] e = absurd (false_true e)
pair-sound a b (one ∷ []) e = absurd (false_true e)
pair-sound a b (one ∷ two ∷ []) e =
    let parts = and_parts (same_answer a one) (same_answer b two) e in
    two_alike a b one two (same_answer-sound a one parts.0) (same_answer-sound b two parts.1)
pair-sound a b (one ∷ two ∷ three ∷ more) e = absurd (false_true e)

pub pair-whole : (a b : Answer) (list : List Answer) → (a ∷ b ∷ []) ≡ list → is_pair a b list ≡ true
pair-whole a b [] e = cc
pair-whole a b (one ∷ []) e = cc
pair-whole a b (one ∷ two ∷ []) e =
    both (same_answer a one) (same_answer b two) (whole_at a one (first_alike a b one two e)) (whole_at b two (second_alike a b one two e))
pair-whole a b (one ∷ two ∷ three ∷ more) e = cc

pub pairs-sound : (a b : Answer) (lists : List (List Answer)) → is_pair_among a b lists ≡ true → IsOneOf (a ∷ b ∷ []) lists
pairs-sound a b [] e = absurd (false_true e)
pairs-sound a b (list ∷ []) e = inl (pair-sound a b list e)
pairs-sound a b (list ∷ next ∷ lists) e =
    ⊎_elim (λ same. inl (pair-sound a b list same)) (λ later. inr (pairs-sound a b (next ∷ lists) later))
    (or_cases (is_pair a b list) (is_pair_among a b (next ∷ lists)) e)

pub pairs-whole : (a b : Answer) (lists : List (List Answer)) → IsOneOf (a ∷ b ∷ []) lists → is_pair_among a b lists ≡ true
pairs-whole a b [] one = absurd one
pairs-whole a b (list ∷ []) (inl same) = pair-whole a b list same
pairs-whole a b (list ∷ []) (inr none) = absurd none
pairs-whole a b (list ∷ next ∷ lists) (inl same) = or_first (is_pair a b list) (is_pair_among a b (next ∷ lists)) (pair-whole a b list same)
pairs-whole a b (list ∷ next ∷ lists) (inr later) = or_second (is_pair a b list) (is_pair_among a b (next ∷ lists)) (pairs-whole a b (next ∷ lists) later)

-- bytes given
given-sound : (s : Session) (h : History) (reader : ReaderId) (cells : List Cell) (a : Answer) → is_given s h reader cells a ≡ true → IsGiven s h reader cells
    (a ∷ [])
given-sound s h reader cells (answers.Given number bytes) e =
    let parts = and_parts (number.0 == reader.0) (agree s h cells bytes) e in
    let path : number ≡ reader = same_reader-sound number reader parts.0 in
    (bytes, (λ i. answers.Given (path i) bytes ∷ []), parts.1)
given-sound s h reader cells a e = absurd (false_true e)

given-whole : (s : Session) (h : History) (reader : ReaderId) (cells : List Cell) (a : Answer) → IsGiven s h reader cells (a ∷ []) → is_given s h reader cells a
    ≡ true
given-whole s h reader cells a given =
    let done : is_given s h reader cells (answers.Given reader given.0) ≡ true = both (reader.0 == reader.0) (agree s h cells given.0)
    (same_reader-whole reader) given.2 in
    subst (λ (b : Answer). is_given s h reader cells b ≡ true) (sym (alone a (answers.Given reader given.0) given.1)) done

read-sound : (s : Session) (h : History) (reader : ReaderId) (cells : List Cell) (first : Option Cell) (a : Answer) → is_read s h reader cells first a ≡ true
    → IsRead s h reader cells first (a ∷ [])
read-sound s h reader cells None a e =
    ⊎_elim (λ given. inl (given-sound s h reader cells a given)) (λ fault. inr (among-sound a (read_faults s h reader cells) fault))
    (or_cases (is_given s h reader cells a) (is_among a (read_faults s h reader cells)) e)
read-sound s h reader cells (Some cell) a e =
    ⊎_elim (λ same. inl (only-sound a (answers.FileChanged reader (file_of cell) ∷ []) same))
    (λ fault. inr (among-sound a (read_faults s h reader (before_failing h cells)) fault))
    (or_cases (same_answer a (answers.FileChanged reader (file_of cell))) (is_among a (read_faults s h reader (before_failing h cells))) e)

read-whole : (s : Session) (h : History) (reader : ReaderId) (cells : List Cell) (first : Option Cell) (a : Answer) → IsRead s h reader cells first (a ∷ [])
    → is_read s h reader cells first a ≡ true
read-whole s h reader cells None a (inl given) = or_first (is_given s h reader cells a) (is_among a (read_faults s h reader cells))
    (given-whole s h reader cells a given)
read-whole s h reader cells None a (inr fault) =
    or_second (is_given s h reader cells a) (is_among a (read_faults s h reader cells)) (among-whole a (read_faults s h reader cells) fault)
read-whole s h reader cells (Some cell) a (inl same) =
    or_first (same_answer a (answers.FileChanged reader (file_of cell))) (is_among a (read_faults s h reader (before_failing h cells)))
    (only-whole a (answers.FileChanged reader (file_of cell) ∷ []) same)
read-whole s h reader cells (Some cell) a (inr fault) =
    or_second (same_answer a (answers.FileChanged reader (file_of cell))) (is_among a (read_faults s h reader (before_failing h cells)))
    (among-whole a (read_faults s h reader (before_failing h cells)) fault)

next-sound : (s : Session) (h : History) (reader : ReaderId) (open_reader : OpenReader) (more : ℕ) (a : Answer) → is_next s h reader open_reader more a ≡ true
    → IsNext s h reader open_reader more (a ∷ [])
next-sound s h reader open_reader zero a e = only-sound a (answers.Ended reader statuses.Done ∷ []) e
next-sound s h reader open_reader (suc more) a e = read-sound s h reader (chunk s.limits h open_reader) (first_failing h (chunk s.limits h open_reader)) a e

next-whole : (s : Session) (h : History) (reader : ReaderId) (open_reader : OpenReader) (more : ℕ) (a : Answer) → IsNext s h reader open_reader more (a ∷ [])
    → is_next s h reader open_reader more a ≡ true
next-whole s h reader open_reader zero a e = only-whole a (answers.Ended reader statuses.Done ∷ []) e
next-whole s h reader open_reader (suc more) a one = read-whole s h reader (chunk s.limits h open_reader) (first_failing h (chunk s.limits h open_reader)) a one

step_by-sound : (s : Session) (h : History) (reader : ReaderId) (open_reader : OpenReader) (status : Option Status) (a : Answer)
    → is_step_by s h reader open_reader status a ≡ true
    → IsStepBy s h reader open_reader status (a ∷ [])
step_by-sound s h reader open_reader None a e = only-sound a (answers.Wait reader ∷ []) e
step_by-sound s h reader open_reader (Some statuses.Done) a e = next-sound s h reader open_reader (left open_reader) a e
step_by-sound s h reader open_reader (Some status) a e = only-sound a (answers.Ended reader status ∷ []) e

step_by-whole : (s : Session) (h : History) (reader : ReaderId) (open_reader : OpenReader) (status : Option Status) (a : Answer)
    → IsStepBy s h reader open_reader status (a ∷ [])
    → is_step_by s h reader open_reader status a ≡ true
step_by-whole s h reader open_reader None a e = only-whole a (answers.Wait reader ∷ []) e
step_by-whole s h reader open_reader (Some statuses.Done) a one = next-whole s h reader open_reader (left open_reader) a one
step_by-whole s h reader open_reader (Some status) a e = only-whole a (answers.Ended reader status ∷ []) e

step-sound : (s : Session) (h : History) (reader : ReaderId) (found : Option OpenReader) (a : Answer) → is_step s h reader found a ≡ true
    → IsStep s h reader found (a ∷ [])
step-sound s h reader None a e = false_true e
step-sound s h reader (Some open_reader) a e = step_by-sound s h reader open_reader (ended h open_reader.blob) a e

step-whole : (s : Session) (h : History) (reader : ReaderId) (found : Option OpenReader) (a : Answer) → IsStep s h reader found (a ∷ [])
    → is_step s h reader found a ≡ true
step-whole s h reader None a one = absurd one
step-whole s h reader (Some open_reader) a one = step_by-whole s h reader open_reader (ended h open_reader.blob) a one

pub single-sound : (s : Session) (h : History) (event : Event) (a : Answer) → is_single s h event a ≡ true → IsAccepted s h event (a ∷ [])
single-sound s h (events.Step reader) a e = step-sound s h reader (reader_at (page_limit s) h reader.0) a e
single-sound s h event a e = among-sound a (accepted s h event ∷ failing s h event) e

pub single-whole : (s : Session) (h : History) (event : Event) (a : Answer) → IsAccepted s h event (a ∷ []) → is_single s h event a ≡ true
single-whole s h (events.Step reader) a one = step-whole s h reader (reader_at (page_limit s) h reader.0) a one
single-whole s h event a one = among-whole a (accepted s h event ∷ failing s h event) one
