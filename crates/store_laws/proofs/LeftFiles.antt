-- Of all answers of a group those of list 4 alone leave page files.
use Rattle.std.proofs.Common.{◌≡◌, ℕ, Bool, true, false, ◌&&◌, not, List, [], ◌∷◌, ◌++◌}
use Rattle.std.proofs.Common.{map, length, reverse, refl, ap, ◌∙◌, Option, Some, None, ⊎_elim, zero, suc}
use Rattle.std.specs.Prelude.{cond, filter, nat_le, nat_lt}
use Rattle.std.specs.Option.{option_to_list, option_map}
use Rattle.std.specs.List.{AllByRecursion}
use Rattle.std.proofs.lemmas.List.Concat.{flat_map-append}
use Rattle.blob_words.specs.declared.plan.Plan.{Plan}
use Rattle.blob_words.specs.declared.plan.Plan.TheVariants as plans
use Rattle.blob_words.specs.declared.number.ReaderId.{ReaderId}
use Rattle.blob_words.specs.declared.number.JobNo.{JobNo}
use Rattle.blob_words.specs.declared.status.Status.{Status}
use Rattle.blob_words.specs.declared.status.Status.TheVariants as statuses
use Rattle.session_script.specs.declared.event.Event.{Event}
use Rattle.session_script.specs.declared.event.Event.TheVariants as events
use Rattle.session_script.specs.declared.event.Part.{Part}
use Rattle.answer_text.specs.declared.answer.Answer.{Answer}
use Rattle.answer_text.specs.declared.answer.Answer.TheVariants as answers
use Rattle.answer_text.specs.declared.refusal.Refusal.{Refusal}
use Rattle.blob_model.specs.Session.{Session, page_limit}
use Rattle.blob_model.specs.History.{History, said, said_all}
use Rattle.blob_model.specs.Builds.{Build, Cell, sent, filed, lent, builds, slice_parts}
use Rattle.blob_model.specs.Pieces.{Piece, pieces, piece_with}
use Rattle.blob_model.specs.Pages.{Place, in_memory, reserved, in_page, place}
use Rattle.blob_model.specs.Jobs.{in_flight}
use Rattle.blob_model.specs.Readers.{OpenReader, reader_at}
use Rattle.blob_model.specs.Standing.{ended, is_unfinished}
use Rattle.blob_model.specs.Tally.{job_left}
use Rattle.blob_model.specs.Waits.{waits}
use Rattle.blob_model.specs.Choice.{IsOneOf}
use Rattle.blob_model.specs.Chunk.{left, chunk, file_of, first_failing, before_failing}
use Rattle.blob_model.specs.Live.{is_live}
use Rattle.blob_model.specs.Entries.{owns_entry}
use Rattle.blob_model.specs.Construct.{build_answer, build_answer_by, line_status}
use Rattle.blob_model.specs.Refusals.{refusal}
use Rattle.blob_model.specs.Own.{IsOwn, IsOwnBy, IsAccepted, IsStep, IsStepBy, IsNext, IsRead, accepted}
use Rattle.blob_model.specs.Own.{stored_answers, unstored_answers, plan_in, job_done, job_failed, source_of, read_faults, cell_fault, page_fault, sent_fault}
use Rattle.blob_model.specs.Settle.{drops, endings_of, ending_answers, ending_tests, grants_of}
use Rattle.blob_model.specs.Settle.{page_jobs, page_job_of, may_start, compactions, compaction, movable}
use Rattle.blob_model.specs.Legal.{left_file, left_files}
use Rattle.blob_model.specs.Victims.{chosen}
use Rattle.blob_model.proofs.settled.Endings.{some_that}
use Rattle.blob_model.proofs.settled.Endings.{one_by}

-- ---- lists that leave no page file

abbrev pub LeavesNone : List Answer → Type 0
LeavesNone list = left_files list ≡ []

pub leaves-append : (xs ys : List Answer) → LeavesNone xs → LeavesNone ys → LeavesNone (xs ++ ys)
leaves-append xs ys e f = flat_map-append left_file xs ys ∙ ap (λ (zs : List ℕ). zs ++ left_files ys) e ∙ f

one_leaves : (own : List Answer) (lists : List (List Answer)) → AllByRecursion LeavesNone lists → IsOneOf own lists → LeavesNone own
one_leaves own [] all one = absurd one
one_leaves own (list ∷ lists) all one = ⊎_elim (λ (here : own ≡ list). ap left_files here ∙ all.0) (λ
    (more : IsOneOf own lists). one_leaves own lists all.1 more) one

named_leaves : {X : Type 0} (f : X → Answer) → ((x : X) → left_file (f x) ≡ []) → (xs : List X) → LeavesNone (map f xs)
named_leaves f none [] = refl
named_leaves f none (x ∷ xs) = ap (λ (zs : List ℕ). zs ++ left_files (map f xs)) (none x) ∙ named_leaves f none xs

pub drops_leave : (s : Session) (h : History) → LeavesNone (drops s h)
drops_leave s h = named_leaves (λ (build : Build). answers.Dropped build.name) (λ build. refl) (filter (λ
    (build : Build). is_unfinished h build.name && not (is_live (page_limit s) h build.name)) (reverse (builds (page_limit s) h)))

pub endings_leave : (s : Session) (h : History) (list : List Build) → LeavesNone (endings_of s h list)
endings_leave s h [] = refl
endings_leave s h (build ∷ list) =
    leaves-append (ending_answers s h build) (endings_of s (said_all h (ending_answers s h build)) list)
    (one_by s h build LeavesNone refl (λ answer e. some_that (λ (a : Answer). LeavesNone (a ∷ [])) (ending_tests s h build) answer (
      refl,
      (
        refl,
        (
          refl,
          (refl, tt),
        ),
      ),
    ) e))
    (endings_leave s (said_all h (ending_answers s h build)) list)

pub grants_leave : (s : Session) (h : History) (list : List Build) → LeavesNone (grants_of s h list)
grants_leave s h [] = refl
grants_leave s h (build ∷ list) = go (nat_le _ s.limits.memory) (grants_leave s (said h (answers.Granted build.name)) list)
  where
    go : (b : Bool) → LeavesNone (grants_of s (said h (answers.Granted build.name)) list) → LeavesNone (cond b (answers.Granted build.name ∷ grants_of s
        (said h (answers.Granted build.name)) list) [])
    go true rest = rest
    go false rest = refl

pub page_jobs_leave : (s : Session) (h : History) → LeavesNone (page_jobs s h)
page_jobs_leave s h = go (may_start h && nat_lt 0 (length (waits (page_limit s) h))) (chosen s.limits h)
  where
    go : (b : Bool) (list : List ℕ) → LeavesNone (cond b (page_job_of h list) [])
    go true [] = refl
    go true (n ∷ list) = refl
    go false list = refl

pub compactions_leave : (s : Session) (h : History) → LeavesNone (compactions s h)
compactions_leave s h = go (may_start h) (movable s h)
  where
    go : (b : Bool) (o : Option _) → LeavesNone (cond b (option_to_list (option_map (compaction s h) o)) [])
    go true None = refl
    go true (Some page) = refl
    go false o = refl

-- ---- own answers

build_leaves : (s : Session) (h : History) (name : ℕ) (parts : List Part) (status : Option Status) → LeavesNone (build_answer_by s h name parts status ∷ [])
build_leaves s h name parts None = refl
build_leaves s h name parts (Some status) = refl

stored_leaves : (s : Session) (h : History) (b segment : ℕ) (plan : Option Plan) → LeavesNone (answers.Taken segment ∷ stored_answers s h b segment plan)
stored_leaves s h b segment None = refl
stored_leaves s h b segment (Some (plans.File n)) = refl
stored_leaves s h b segment (Some plan) = refl

unstored_leaves : (s : Session) (h : History) (segment : ℕ) (plan : Option Plan) → AllByRecursion LeavesNone (unstored_answers s h segment plan)
unstored_leaves s h segment None = tt
unstored_leaves s h segment (Some (plans.File n)) = (refl, tt)
unstored_leaves s h segment (Some plan) = tt

done_leaves : (h : History) (job : JobNo) (source : Option ℕ) (list : List ℕ) → LeavesNone (job_done h job source list ∷ [])
done_leaves h job source [] = refl
done_leaves h job None (n ∷ list) = refl
done_leaves h job (Some file) (n ∷ list) = refl

failed_leaves : (h : History) (job : JobNo) (source : Option ℕ) (list : List ℕ) → AllByRecursion LeavesNone (job_failed h job source list)
failed_leaves h job source [] = tt
failed_leaves h job None (n ∷ list) = (refl, tt)
failed_leaves h job (Some file) (n ∷ list) = (refl, (refl, tt))

all_append : (xs ys : List (List Answer)) → AllByRecursion LeavesNone xs → AllByRecursion LeavesNone ys → AllByRecursion LeavesNone (xs ++ ys)
all_append [] ys p q = q
all_append (x ∷ xs) ys p q = (p.0, all_append xs ys p.1 q)

faults_leave : (s : Session) (h : History) (reader : ReaderId) (cells : List Cell) → AllByRecursion LeavesNone (read_faults s h reader cells)
faults_leave s h reader [] = tt
faults_leave s h reader (cell ∷ cells) = all_append (cell_fault s h reader cell) (read_faults s h reader cells) (one cell) (faults_leave s h reader cells)
  where
    at : (where_is : Place) → AllByRecursion LeavesNone (page_fault reader where_is)
    at in_memory = tt
    at reserved = tt
    at (in_page n) = (refl, tt)

    of : (piece : Option Piece) → AllByRecursion LeavesNone (sent_fault s h reader piece)
    of None = tt
    of (Some piece) = at (place (page_limit s) h piece)

    one : (cell : Cell) → AllByRecursion LeavesNone (cell_fault s h reader cell)
    one (sent blob index) = of (piece_with (pieces (page_limit s) h) (sent blob index))
    one (filed name stamp index) = tt
    one (lent slot index) = (refl, tt)

read_leaves : (s : Session) (h : History) (reader : ReaderId) (cells : List Cell) (failing : Option Cell) (own : List Answer)
    → IsRead s h reader cells failing own → LeavesNone own
read_leaves s h reader cells None own read =
    ⊎_elim (λ given. ap left_files given.1) (λ (fault : IsOneOf own (read_faults s h reader cells)). one_leaves own (read_faults s h reader cells)
    (faults_leave s h reader cells) fault) read
read_leaves s h reader cells (Some cell) own read = one_leaves own ((answers.FileChanged reader (file_of cell) ∷ []) ∷ read_faults s h reader
    (before_failing h cells)) (refl, faults_leave s h reader (before_failing h cells)) read

next_leaves : (s : Session) (h : History) (reader : ReaderId) (open_reader : OpenReader) (n : ℕ) (own : List Answer) → IsNext s h reader open_reader n own
    → LeavesNone own
next_leaves s h reader open_reader zero own is = ap left_files is
next_leaves s h reader open_reader (suc n) own is = read_leaves s h reader (chunk s.limits h open_reader) (first_failing h
    (chunk s.limits h open_reader)) own is

step_by_leaves : (s : Session) (h : History) (reader : ReaderId) (open_reader : OpenReader) (status : Option Status) (own : List Answer)
    → IsStepBy s h reader open_reader status own → LeavesNone own
step_by_leaves s h reader open_reader None own is = ap left_files is
step_by_leaves s h reader open_reader (Some statuses.Done) own is = next_leaves s h reader open_reader (left open_reader) own is
step_by_leaves s h reader open_reader (Some status) own is = ap left_files is

step_leaves : (s : Session) (h : History) (reader : ReaderId) (open_reader : Option OpenReader) (own : List Answer) → IsStep s h reader open_reader own
    → LeavesNone own
step_leaves s h reader None own is = absurd is
step_leaves s h reader (Some open_reader) own is = step_by_leaves s h reader open_reader (ended h open_reader.blob) own is

accepted_leaves : (s : Session) (h : History) (event : Event) (own : List Answer) → IsAccepted s h event own → LeavesNone own
accepted_leaves s h (events.Step reader) own is = step_leaves s h reader (reader_at (page_limit s) h reader.0) own is
accepted_leaves s h (events.Build renderer name kind parts) own is = one_leaves own ((build_answer s h renderer.0 name parts ∷ []) ∷ [])
    (build_leaves s h name parts (line_status s h renderer.0 name parts), tt) is
accepted_leaves s h (events.Slice renderer name source from to kind) own is =
    let parts = slice_parts (builds (page_limit s) h) source from to in one_leaves own ((build_answer s h renderer.0 name parts ∷ []) ∷ [])
    (build_leaves s h name parts (line_status s h renderer.0 name parts), tt) is
accepted_leaves s h (events.Segment renderer b segment bytes) own is =
    one_leaves own ((answers.Taken segment ∷ stored_answers s h b segment (plan_in s h b)) ∷ unstored_answers s h segment (plan_in s h b))
    (stored_leaves s h b segment (plan_in s h b), unstored_leaves s h segment (plan_in s h b)) is
accepted_leaves s h (events.Revoke renderer text) own is = one_leaves own (accepted s h (events.Revoke renderer text) ∷ []) (
  go
      (owns_entry h renderer.0 text),
  tt,
) is
  where
    go : (b : Bool) → LeavesNone (cond b answers.Revoked answers.Nothing ∷ [])
    go true = refl
    go false = refl
accepted_leaves s h (events.Disk job) own is =
    one_leaves own ((job_done h job (source_of (in_flight h)) (job_left (page_limit s) h) ∷ []) ∷ job_failed h job (source_of (in_flight h))
    (job_left (page_limit s) h)) (
      done_leaves h job (source_of (in_flight h)) (job_left (page_limit s) h),
      failed_leaves h job (source_of (in_flight h))
          (job_left (page_limit s) h),
    ) is
accepted_leaves s h event own is = one_leaves own (accepted s h event ∷ []) (refl, tt) is

own_by_leaves : (s : Session) (h : History) (event : Event) (why : Option Refusal) (own : List Answer) → IsOwnBy s h event why own → LeavesNone own
own_by_leaves s h event None own is = accepted_leaves s h event own is
own_by_leaves s h event (Some why) own is = ap left_files is

pub own_leaves : (s : Session) (h : History) (event : Event) (own : List Answer) → IsOwn s h event own → LeavesNone own
own_leaves s h event own is = own_by_leaves s h event (refusal s h event) own is
