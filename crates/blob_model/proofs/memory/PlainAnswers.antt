-- In a legal transcript the bytes in memory never pass the limit.
use Rattle.std.proofs.Common.{◌≡◌, ℕ, zero, suc, ◌≤◌, Bool, true, false, ◌&&◌, not, List, [], ◌∷◌, ◌++◌, refl, ap, subst, sym, ◌∙◌, inl, inr, arith, Option, Some, None}
use Rattle.std.specs.Prelude.{cond, find, if◌then◌else◌}
use Rattle.std.specs.Option.{option_map_or}
use Rattle.std.specs.List.{AllByRecursion}
use Rattle.std.proofs.lemmas.Bool.{and_parts}
use Rattle.std.proofs.lemmas.List.{reverse-append}
use Rattle.blob_words.specs.declared.number.ReaderId.{ReaderId}
use Rattle.blob_words.specs.declared.number.JobNo.{JobNo}
use Rattle.blob_words.specs.declared.plan.Plan.{Plan}
use Rattle.blob_words.specs.declared.plan.Plan.TheVariants as plans
use Rattle.blob_words.specs.declared.status.Status.{Status}
use Rattle.blob_words.specs.declared.status.Status.TheVariants as statuses
use Rattle.session_script.specs.declared.event.Event.{Event}
use Rattle.session_script.specs.declared.event.Event.TheVariants as events
use Rattle.answer_text.specs.declared.answer.Answer.{Answer}
use Rattle.answer_text.specs.declared.answer.Answer.TheVariants as answers
use Rattle.blob_model.specs.Session.{Session, page_limit}
use Rattle.blob_model.specs.History.{History, heard, said, heard_first, said_all, after}
use Rattle.blob_model.specs.Builds.{Cell, sent, filed, lent}
use Rattle.blob_model.specs.Standing.{ended, is_broken_status}
use Rattle.blob_model.specs.Entries.{owns_entry}
use Rattle.blob_model.specs.Readers.{OpenReader, reader_at}
use Rattle.blob_model.specs.Pieces.{Piece, pieces, piece_with}
use Rattle.blob_model.specs.Pages.{Page, Place, in_page, in_memory, reserved, place, pages, pages_after, page_with, lists, numbers}
use Rattle.blob_model.specs.Jobs.{in_flight}
use Rattle.blob_model.specs.Tally.{job_left, memory}
use Rattle.blob_model.specs.Chunk.{left, chunk, file_of, first_failing, before_failing}
use Rattle.blob_model.specs.Refusals.{refusal}
use Rattle.blob_model.specs.Choice.{IsOneOf}
use Rattle.blob_model.specs.Own.{accepted, failing, stored_answers, unstored_answers, plan_in, job_done, job_failed, source_of, page_fault, sent_fault, cell_fault, read_faults, IsRead, IsNext, IsStepBy, IsStep, IsAccepted}
use Rattle.blob_model.specs.Laws.{is_build, is_ending, is_grant}
use Rattle.blob_model.proofs.Lists.{false_true, not_true}
use Rattle.blob_model.proofs.changes.Notions.{change_laws}
use Rattle.blob_model.proofs.kept.Kept.{unfinished_said, unfinished_heard}
use Rattle.blob_model.proofs.settled.Refused.{memory_over}
use Rattle.blob_model.proofs.live.Roots.{HoldersSpawned, rooted_before}
use Rattle.blob_model.proofs.memory.Shrinking.{Shrinks, memory_shrinks}

-- ---- plain answers

abbrev pub is_plain : Answer → Bool
is_plain answer = not (is_ending answer) && not (is_grant answer)

abbrev pub AllPlain : List Answer → Type 0
AllPlain own = AllByRecursion (λ (answer : Answer). is_plain answer ≡ true) own

abbrev EachPlain : List (List Answer) → Type 0
EachPlain lists = AllByRecursion AllPlain lists

plain_one : (own : List Answer) (lists : List (List Answer)) → EachPlain lists → IsOneOf own lists → AllPlain own
plain_one own [] all one = absurd one
plain_one own (list ∷ lists) all (inl same) = subst AllPlain (sym same) all.0
plain_one own (list ∷ lists) all (inr later) = plain_one own lists all.1 later

plain_append : (xs ys : List (List Answer)) → EachPlain xs → EachPlain ys → EachPlain (xs ++ ys)
plain_append [] ys p q = q
plain_append (x ∷ xs) ys p q = (p.0, plain_append xs ys p.1 q)

unstored_plain : (s : Session) (h : History) (segment : ℕ) (plan : Option Plan) → EachPlain (unstored_answers s h segment plan)
unstored_plain s h segment (Some (plans.File n)) = ((refl, (refl, tt)), tt)
unstored_plain s h segment plan = tt

stored_plain : (s : Session) (h : History) (b segment : ℕ) (plan : Option Plan) → AllPlain (stored_answers s h b segment plan)
stored_plain s h b segment (Some (plans.File n)) = (refl, tt)
stored_plain s h b segment plan = tt

job_plain : (h : History) (job : JobNo) (source : Option ℕ) (list : List ℕ) → EachPlain ((job_done h job source list ∷ []) ∷ job_failed h job source list)
job_plain h job source [] = ((refl, tt), tt)
job_plain h job None (number ∷ numbers) = ((refl, tt), ((refl, tt), tt))
job_plain h job (Some file) (number ∷ numbers) = ((refl, tt), ((refl, tt), ((refl, tt), tt)))

place_plain : (reader : ReaderId) (at : Place) → EachPlain (page_fault reader at)
place_plain reader (in_page number) = ((refl, tt), tt)
place_plain reader in_memory = tt
place_plain reader reserved = tt

piece_plain : (s : Session) (h : History) (reader : ReaderId) (piece : Option Piece) → EachPlain (sent_fault s h reader piece)
piece_plain s h reader None = tt
piece_plain s h reader (Some piece) = place_plain reader (place (page_limit s) h piece)

cell_plain : (s : Session) (h : History) (reader : ReaderId) (cell : Cell) → EachPlain (cell_fault s h reader cell)
cell_plain s h reader (sent blob index) = piece_plain s h reader (piece_with (pieces (page_limit s) h) (sent blob index))
cell_plain s h reader (filed name stamp index) = tt
cell_plain s h reader (lent slot index) = ((refl, tt), tt)

read_plain : (s : Session) (h : History) (reader : ReaderId) (cells : List Cell) → EachPlain (read_faults s h reader cells)
read_plain s h reader [] = tt
read_plain s h reader (cell ∷ cells) = plain_append (cell_fault s h reader cell) (read_faults s h reader cells) (cell_plain s h reader cell)
    (read_plain s h reader cells)

chunk_plain : (s : Session) (h : History) (reader : ReaderId) (cells : List Cell) (first : Option Cell) (own : List Answer) → IsRead s h reader cells first own
    → AllPlain own
chunk_plain s h reader cells None own (inl given) = subst AllPlain (sym given.1) (refl, tt)
chunk_plain s h reader cells None own (inr fault) = plain_one own (read_faults s h reader cells) (read_plain s h reader cells) fault
chunk_plain s h reader cells (Some cell) own one =
    plain_one own ((answers.FileChanged reader (file_of cell) ∷ []) ∷ read_faults s h reader (before_failing h cells))
    ((refl, tt), read_plain s h reader (before_failing h cells)) one

next_plain : (s : Session) (h : History) (reader : ReaderId) (open_reader : OpenReader) (more : ℕ) (own : List Answer) → IsNext s h reader open_reader more own
    → AllPlain own
next_plain s h reader open_reader zero own e = subst AllPlain (sym e) (refl, tt)
next_plain s h reader open_reader (suc more) own one = chunk_plain s h reader (chunk s.limits h open_reader) (first_failing h (chunk s.limits h open_reader))
    own one

step_plain : (s : Session) (h : History) (reader : ReaderId) (open_reader : OpenReader) (status : Option Status) (own : List Answer)
    → IsStepBy s h reader open_reader status own → AllPlain own
step_plain s h reader open_reader None own e = subst AllPlain (sym e) (refl, tt)
step_plain s h reader open_reader (Some statuses.Done) own one = next_plain s h reader open_reader (left open_reader) own one
step_plain s h reader open_reader (Some status) own e = subst AllPlain (sym e) (refl, tt)

found_plain : (s : Session) (h : History) (reader : ReaderId) (found : Option OpenReader) (own : List Answer) → IsStep s h reader found own → AllPlain own
found_plain s h reader None own one = absurd one
found_plain s h reader (Some open_reader) own one = step_plain s h reader open_reader (ended h open_reader.blob) own one

revoke_plain : (b : Bool) → is_plain (if b then answers.Revoked else answers.Nothing) ≡ true
revoke_plain true = refl
revoke_plain false = refl

pub line_plain : (s : Session) (h : History) (event : Event) (own : List Answer) → is_build event ≡ false → IsAccepted s h event own → AllPlain own
line_plain s h (events.Build renderer name kind parts) own other one = absurd (false_true (sym other))
line_plain s h (events.Slice renderer name source from to kind) own other one = absurd (false_true (sym other))
line_plain s h (events.Step reader) own other one = found_plain s h reader (reader_at (page_limit s) h reader.0) own one
line_plain s h (events.Segment renderer b segment bytes) own other one =
    plain_one own (accepted s h (events.Segment renderer b segment bytes) ∷ failing s h (events.Segment renderer b segment bytes))
    ((refl, stored_plain s h b segment (plan_in s h b)), unstored_plain s h segment (plan_in s h b)) one
line_plain s h (events.Disk job) own other one = plain_one own (accepted s h (events.Disk job) ∷ failing s h (events.Disk job))
    (job_plain h job (source_of (in_flight h)) (job_left (page_limit s) h)) one
line_plain s h (events.Revoke renderer text) own other one = plain_one own (accepted s h (events.Revoke renderer text) ∷ [])
    ((revoke_plain (owns_entry h renderer.0 text), tt), tt) one
line_plain s h event own other one = plain_one own (accepted s h event ∷ failing s h event) ((refl, tt), tt) one

-- ---- plain answers keep memory

page_more : (list : List Page) (file : Page) (number : ℕ) → page_with (list ++ file ∷ []) number ≡ None → page_with list number ≡ None
page_more list file number e = go (lists file number) (ap (find (λ (page : Page). lists page number)) (sym (reverse-append list (file ∷ []))) ∙ e)
  where
    go : (b : Bool) → cond b (Some file) (page_with list number) ≡ None → page_with list number ≡ None
    go true f = cc
    go false f = f

unlisted_after : (answer : Answer) (list : List Page) (number : ℕ) → page_with (pages_after answer list) number ≡ None → page_with list number ≡ None
unlisted_after (answers.Stored file piece) list number e = page_more list (record { number = file.0; pieces = piece.0 ∷ [] }) number e
unlisted_after (answers.Paged job file more) list number e = page_more list (record { number = file.0; pieces = numbers more }) number e
unlisted_after (answers.Moved job file more) list number e = page_more list (record { number = file.0; pieces = numbers more }) number e
unlisted_after answer list number e = e

pub plain_said : (page : ℕ) (h : History) (answer : Answer) → is_plain answer ≡ true → Shrinks page h (said h answer)
plain_said page h answer plain =
    let parts = and_parts (not (is_ending answer)) (not (is_grant answer)) plain in
    record {
      blobs = refl;
      roots = λ name e. e;
      begun = λ name e. unfinished_said h answer name e;
      broken = λ name e. ap (λ (o : Option Status). option_map_or is_broken_status o false)
          ((change_laws.ends name).by_answer h answer (not_true (is_ending answer) parts.0)) ∙ e;
      granted = λ name e. sym ((change_laws.grants name).by_answer h answer (not_true (is_grant answer) parts.1)) ∙ e;
      unlisted = λ number e. unlisted_after answer (pages h) number e;
    }

pub plain_heard : (s : Session) (h : History) (event : Event) (answer : Answer) → HoldersSpawned h → refusal s h event ≡ None → is_build event ≡ false
    → is_plain answer ≡ true → Shrinks (page_limit s) h (heard h event answer)
plain_heard s h event answer holders accepted other plain =
    let parts = and_parts (not (is_ending answer)) (not (is_grant answer)) plain in
    record {
      blobs = (change_laws.blobs (page_limit s)).by_line h event answer other;
      roots = λ name e. rooted_before s h event answer name holders accepted other e;
      begun = λ name e. unfinished_heard h event answer name e;
      broken = λ name e. ap (λ (o : Option Status). option_map_or is_broken_status o false)
          ((change_laws.ends name).by_line h event answer (not_true (is_ending answer) parts.0)) ∙ e;
      granted = λ name e. sym ((change_laws.grants name).by_line h event answer (not_true (is_grant answer) parts.1)) ∙ e;
      unlisted = λ number e. unlisted_after answer (pages h) number e;
    }

plain_all : (s : Session) (h : History) (list : List Answer) → AllPlain list → memory (page_limit s) h ≤ s.limits.memory
    → memory (page_limit s) (said_all h list) ≤ s.limits.memory
plain_all s h [] all fits = fits
plain_all s h (answer ∷ list) all fits =
    let less = memory_shrinks (page_limit s) h (said h answer) (plain_said (page_limit s) h answer all.0) in
    plain_all s (said h answer) list all.1 (omega (arith, less, fits))

plain_first : (s : Session) (h : History) (event : Event) (answer : Answer) → HoldersSpawned h → refusal s h event ≡ None → is_build event ≡ false
    → is_plain answer ≡ true → memory (page_limit s) h ≤ s.limits.memory
    → memory (page_limit s) (heard_first h event answer) ≤ s.limits.memory
plain_first s h event (answers.Refused why) holders accepted other plain fits = let same = memory_over s h event why in omega (arith, same, fits)
plain_first s h event answer holders accepted other plain fits =
    let less = memory_shrinks (page_limit s) h (heard h event answer) (plain_heard s h event answer holders accepted other plain) in omega (arith, less, fits)

pub plain_line : (s : Session) (h : History) (event : Event) (own : List Answer) → HoldersSpawned h → refusal s h event ≡ None → is_build event ≡ false
    → AllPlain own → memory (page_limit s) h ≤ s.limits.memory → memory (page_limit s) (after h event own) ≤ s.limits.memory
plain_line s h event [] holders accepted other all fits = fits
plain_line s h event (answer ∷ more) holders accepted other all fits = plain_all s (heard_first h event answer) more all.1
    (plain_first s h event answer holders accepted other all.0 fits)
