-- Each step of a legal history has its cause: an accepted line its own answers, and each further answer what it was owed for.
use Rattle.std.proofs.Common.{◌≡◌, ◌⊎◌, ℕ, zero, suc, ◌+◌, ◌==◌, length, Bool, true, false, ◌&&◌, ◌||◌, not, List, [], ◌∷◌, ◌++◌, map, reverse, refl, ap, subst, sym, ◌∙◌, inl, inr, Option, Some, None}
use Rattle.std.specs.Prelude.{cond, filter, is_none, is_some, nat_lt, nat_le, if◌then◌else◌}
use Rattle.std.specs.Option.{option_map, option_to_list}
use Rattle.std.specs.List.{AllByRecursion, list_any}
use Rattle.std.proofs.lemmas.Bool.{and_parts, or_parts, eqb-false, ne_eqb}
use Rattle.std.proofs.lemmas.List.Folds.{list_any-append}
use Rattle.blob_words.specs.declared.number.RendererId.{RendererId}
use Rattle.blob_words.specs.declared.number.ReaderId.{ReaderId}
use Rattle.blob_words.specs.declared.number.JobNo.{JobNo}
use Rattle.blob_words.specs.declared.plan.Plan.{Plan}
use Rattle.blob_words.specs.declared.plan.Plan.TheVariants as plans
use Rattle.blob_words.specs.declared.status.Status.{Status}
use Rattle.blob_words.specs.declared.status.Status.TheVariants as statuses
use Rattle.session_script.specs.declared.event.Event.{Event}
use Rattle.session_script.specs.declared.event.Event.TheVariants as events
use Rattle.session_script.specs.declared.event.Part.{Part}
use Rattle.answer_text.specs.declared.answer.Answer.{Answer}
use Rattle.answer_text.specs.declared.answer.Answer.TheVariants as answers
use Rattle.blob_model.specs.Session.{Session, page_limit}
use Rattle.blob_model.specs.History.{History, start, heard, refused, said, said_all, has_ended}
use Rattle.blob_model.specs.Builds.{Cell, sent, filed, lent, Build, builds, build_in, slice_parts}
use Rattle.blob_model.specs.Standing.{ended, is_unfinished, is_broken_status}
use Rattle.blob_model.specs.Entries.{owns_entry}
use Rattle.blob_model.specs.Readers.{OpenReader, reader_at}
use Rattle.blob_model.specs.Parts.{own_bytes}
use Rattle.blob_model.specs.Live.{is_rooted, is_live}
use Rattle.blob_model.specs.Pieces.{Piece, pieces, piece_with}
use Rattle.blob_model.specs.Pages.{Page, Place, in_page, in_memory, reserved, place, pages, next_page, asked}
use Rattle.blob_model.specs.Jobs.{in_flight, next_job}
use Rattle.blob_model.specs.Tally.{job_left, files, memory}
use Rattle.blob_model.specs.Victims.{chosen}
use Rattle.blob_model.specs.Waits.{waits, is_complete}
use Rattle.blob_model.specs.Chunk.{left, chunk, file_of, first_failing, before_failing}
use Rattle.blob_model.specs.Construct.{line_tests, line_status, build_answer_by}
use Rattle.blob_model.specs.Refusals.{refusal}
use Rattle.blob_model.specs.Choice.{first_that, IsOneOf}
use Rattle.blob_model.specs.Settle.{drops, ending_tests, ending, endings_of, is_due, removal, removals, grants_of, may_start, page_job_of, page_jobs, movable, compaction, compactions, page_no, job_no, piece_list}
use Rattle.blob_model.specs.Own.{stored_answers, unstored_answers, plan_in, piece_at, piece_no, job_done, job_failed, source_of, page_fault, sent_fault, cell_fault, read_faults, IsRead, IsNext, IsStepBy, IsStep, IsAccepted}
use Rattle.blob_model.specs.Laws.{is_build}
use Rattle.blob_model.specs.Order.{named, Distinct}
use Rattle.blob_model.proofs.Lists.{false_true, all_numbered, all_reverse, filter_has, for_each, none_filtered, not_true}
use Rattle.blob_model.proofs.builds.Order.{distinct_filter}
use Rattle.blob_model.proofs.live.Names.{distinct_reverse}
use Rattle.blob_model.proofs.live.Least.{rooted_live}
use Rattle.blob_model.proofs.kept.NewBlobs.{found_named}
use Rattle.blob_model.proofs.settled.Endings.{some_that}
use Rattle.blob_model.proofs.settled.Removals.{was_asked}
use Rattle.blob_model.proofs.live.Agreement.{dropping, drops_test}

-- ---- a line's own answers

-- answers that tell of no page file, of no job, of no grant, of no end of a blob and of no refusal
abbrev pub is_idle : Answer → Bool
is_idle (answers.Refused why) = false
is_idle (answers.Stored file piece) = false
is_idle (answers.StoreFailed file) = false
is_idle (answers.Paged job file list) = false
is_idle (answers.Empty job) = false
is_idle (answers.PageFailed job file) = false
is_idle (answers.Moved job file list) = false
is_idle (answers.MoveFailed job file) = false
is_idle (answers.MoveUnread job file) = false
is_idle (answers.LostJob job) = false
is_idle (answers.Removed file) = false
is_idle (answers.Left file) = false
is_idle (answers.Granted b) = false
is_idle (answers.Done b) = false
is_idle (answers.Broken b status) = false
is_idle (answers.Dropped b) = false
is_idle (answers.Job job list) = false
is_idle (answers.Compacting job file list) = false
is_idle answer = true

-- answers to the disk's reply
abbrev pub is_reply : Answer → Bool
is_reply (answers.Paged job file list) = true
is_reply (answers.Empty job) = true
is_reply (answers.PageFailed job file) = true
is_reply (answers.Moved job file list) = true
is_reply (answers.MoveFailed job file) = true
is_reply (answers.MoveUnread job file) = true
is_reply answer = false

-- a line's own answers: one that is idle, a blob that breaks at its line, a segment that is stored or isn't, or the end of a job
pub data OwnCase (s : Session) (h : History) (event : Event) (own : List Answer) : Type 0 where
  idle : (answer : Answer) → own ≡ answer ∷ [] → is_idle answer ≡ true → OwnCase s h event own
  breaks : (b : ℕ) (status : Status) → is_broken_status status ≡ true → is_build event ≡ true → own ≡ answers.Broken b status ∷ [] → OwnCase s h event own
  stores : (renderer : RendererId) (b segment : ℕ) (bytes : List ℕ) (n : ℕ) → event ≡ events.Segment renderer b segment bytes → plan_in s h b
      ≡ Some (plans.File n)
      → own ≡ answers.Taken segment ∷ answers.Stored (page_no (next_page h)) (piece_no (piece_at s h b segment)) ∷ [] → OwnCase s h event own
  unstores : (renderer : RendererId) (b segment : ℕ) (bytes : List ℕ) (n : ℕ) → event ≡ events.Segment renderer b segment bytes → plan_in s h b
      ≡ Some (plans.File n)
      → own ≡ answers.Taken segment ∷ answers.StoreFailed (page_no (next_page h)) ∷ [] → OwnCase s h event own
  replies : (job : JobNo) (answer : Answer) → event ≡ events.Disk job → own ≡ answer ∷ [] → is_reply answer ≡ true
      → IsOneOf own ((job_done h job (source_of (in_flight h)) (job_left (page_limit s) h) ∷ []) ∷ job_failed h job (source_of (in_flight h))
      (job_left (page_limit s) h)) → OwnCase s h event own
  loses : (job : JobNo) → event ≡ events.Lost job → own ≡ answers.LostJob job ∷ [] → OwnCase s h event own

abbrev pub IsIdle : List Answer → Type 0
IsIdle own = (answer : Answer) × (own ≡ answer ∷ []) × (is_idle answer ≡ true)

abbrev AllIdle : List (List Answer) → Type 0
AllIdle lists = AllByRecursion IsIdle lists

idle_one : (own : List Answer) (lists : List (List Answer)) → AllIdle lists → IsOneOf own lists → IsIdle own
idle_one own [] all one = absurd one
idle_one own (list ∷ lists) all (inl same) = subst IsIdle (sym same) all.0
idle_one own (list ∷ lists) all (inr later) = idle_one own lists all.1 later

both_idle : (xs ys : List (List Answer)) → AllIdle xs → AllIdle ys → AllIdle (xs ++ ys)
both_idle [] ys p q = q
both_idle (x ∷ xs) ys p q = (p.0, both_idle xs ys p.1 q)

place_idle : (reader : ReaderId) (at : Place) → AllIdle (page_fault reader at)
place_idle reader (in_page number) = ((_, refl, refl), tt)
place_idle reader in_memory = tt
place_idle reader reserved = tt

piece_idle : (s : Session) (h : History) (reader : ReaderId) (piece : Option Piece) → AllIdle (sent_fault s h reader piece)
piece_idle s h reader None = tt
piece_idle s h reader (Some piece) = place_idle reader (place (page_limit s) h piece)

cell_idle : (s : Session) (h : History) (reader : ReaderId) (cell : Cell) → AllIdle (cell_fault s h reader cell)
cell_idle s h reader (sent blob index) = piece_idle s h reader (piece_with (pieces (page_limit s) h) (sent blob index))
cell_idle s h reader (filed name stamp index) = tt
cell_idle s h reader (lent slot index) = ((_, refl, refl), tt)

read_idle : (s : Session) (h : History) (reader : ReaderId) (cells : List Cell) → AllIdle (read_faults s h reader cells)
read_idle s h reader [] = tt
read_idle s h reader (cell ∷ cells) = both_idle (cell_fault s h reader cell) (read_faults s h reader cells) (cell_idle s h reader cell)
    (read_idle s h reader cells)

chunk_idle : (s : Session) (h : History) (reader : ReaderId) (cells : List Cell) (first : Option Cell) (own : List Answer) → IsRead s h reader cells first own
    → IsIdle own
chunk_idle s h reader cells None own (inl given) = (_, given.1, refl)
chunk_idle s h reader cells None own (inr fault) = idle_one own (read_faults s h reader cells) (read_idle s h reader cells) fault
chunk_idle s h reader cells (Some cell) own one =
    idle_one own ((answers.FileChanged reader (file_of cell) ∷ []) ∷ read_faults s h reader (before_failing h cells))
    ((_, refl, refl), read_idle s h reader (before_failing h cells)) one

next_idle : (s : Session) (h : History) (reader : ReaderId) (open_reader : OpenReader) (more : ℕ) (own : List Answer) → IsNext s h reader open_reader more own
    → IsIdle own
next_idle s h reader open_reader zero own e = (_, e, refl)
next_idle s h reader open_reader (suc more) own one = chunk_idle s h reader (chunk s.limits h open_reader) (first_failing h (chunk s.limits h open_reader)) own
    one

step_idle : (s : Session) (h : History) (reader : ReaderId) (open_reader : OpenReader) (status : Option Status) (own : List Answer)
    → IsStepBy s h reader open_reader status own → IsIdle own
step_idle s h reader open_reader None own e = (_, e, refl)
step_idle s h reader open_reader (Some statuses.Done) own one = next_idle s h reader open_reader (left open_reader) own one
step_idle s h reader open_reader (Some status) own e = (_, e, refl)

found_idle : (s : Session) (h : History) (reader : ReaderId) (found : Option OpenReader) (own : List Answer) → IsStep s h reader found own → IsIdle own
found_idle s h reader None own one = absurd one
found_idle s h reader (Some open_reader) own one = step_idle s h reader open_reader (ended h open_reader.blob) own one

reply_alone : (h : History) (job : JobNo) (own : List Answer) (source : Option ℕ) (list : List ℕ)
    → IsOneOf own ((job_done h job source list ∷ []) ∷ job_failed h job source list)
    → (answer : Answer) × (own ≡ answer ∷ []) × (is_reply answer ≡ true)
reply_alone h job own source [] (inl e) = (_, e, refl)
reply_alone h job own source [] (inr never) = absurd never
reply_alone h job own None (number ∷ numbers) (inl e) = (_, e, refl)
reply_alone h job own None (number ∷ numbers) (inr (inl e)) = (_, e, refl)
reply_alone h job own None (number ∷ numbers) (inr (inr never)) = absurd never
reply_alone h job own (Some file) (number ∷ numbers) (inl e) = (_, e, refl)
reply_alone h job own (Some file) (number ∷ numbers) (inr (inl e)) = (_, e, refl)
reply_alone h job own (Some file) (number ∷ numbers) (inr (inr (inl e))) = (_, e, refl)
reply_alone h job own (Some file) (number ∷ numbers) (inr (inr (inr never))) = absurd never

as_case : (s : Session) (h : History) (event : Event) (own : List Answer) → IsIdle own → OwnCase s h event own
as_case s h event own all = idle (all.0) (all.1) (all.2)

one_idle : (s : Session) (h : History) (event : Event) (own : List Answer) (answer : Answer) → is_idle answer ≡ true → (own ≡ answer ∷ []) ⊎ ⊥
    → OwnCase s h event own
one_idle s h event own answer e (inl same) = idle answer same e
one_idle s h event own answer e (inr never) = absurd never

-- a line that builds
build_case : (s : Session) (h : History) (event : Event) (own : List Answer) (renderer name : ℕ) (parts : List Part) (status : Option Status) → is_build event
    ≡ true → line_status s h renderer name parts ≡ status
    → (own ≡ build_answer_by s h name parts status ∷ []) ⊎ ⊥ → OwnCase s h event own
build_case s h event own renderer name parts status builds_one at (inr never) = absurd never
build_case s h event own renderer name parts None builds_one at (inl e) = idle _ e refl
build_case s h event own renderer name parts (Some status) builds_one at (inl e) =
    breaks name status (some_that (λ (each : Status). is_broken_status each ≡ true) (line_tests s h renderer name parts) status
    (refl, (refl, (refl, (refl, tt)))) at) builds_one e

pub own_case : (s : Session) (h : History) (event : Event) (own : List Answer) → IsAccepted s h event own → OwnCase s h event own
own_case s h (events.Step reader) own one = as_case s h (events.Step reader) own (found_idle s h reader (reader_at (page_limit s) h reader.0) own one)
own_case s h (events.Build renderer name kind parts) own one = build_case s h (events.Build renderer name kind parts) own renderer.0 name parts
    (line_status s h renderer.0 name parts) refl refl one
own_case s h (events.Slice renderer name source from to kind) own one =
    build_case s h (events.Slice renderer name source from to kind) own renderer.0 name (slice_parts (builds (page_limit s) h) source from to)
    (line_status s h renderer.0 name (slice_parts (builds (page_limit s) h) source from to)) refl refl one
own_case s h (events.Segment renderer b segment bytes) own one = go (plan_in s h b) refl one
  where
    go : (plan : Option Plan) → plan_in s h b ≡ plan → IsOneOf own ((answers.Taken segment ∷ stored_answers s h b segment plan) ∷ unstored_answers s h segment
        plan) → OwnCase s h (events.Segment renderer b segment bytes) own
    go (Some (plans.File n)) at (inl same) = stores renderer b segment bytes n refl at same
    go (Some (plans.File n)) at (inr (inl same)) = unstores renderer b segment bytes n refl at same
    go (Some (plans.File n)) at (inr (inr never)) = absurd never
    go (Some plans.None) at f = one_idle s h (events.Segment renderer b segment bytes) own _ refl f
    go (Some plans.Inline) at f = one_idle s h (events.Segment renderer b segment bytes) own _ refl f
    go (Some (plans.Shared n)) at f = one_idle s h (events.Segment renderer b segment bytes) own _ refl f
    go (Some plans.OutOfMemory) at f = one_idle s h (events.Segment renderer b segment bytes) own _ refl f
    go (Some (plans.TooMany what)) at f = one_idle s h (events.Segment renderer b segment bytes) own _ refl f
    go None at f = one_idle s h (events.Segment renderer b segment bytes) own _ refl f
own_case s h (events.Disk job) own one =
    let alone = reply_alone h job own (source_of (in_flight h)) (job_left (page_limit s) h) one in
    replies job (alone.0) refl (alone.1) (alone.2) one
own_case s h (events.Lost job) own (inl same) = loses job refl same
own_case s h (events.Lost job) own (inr never) = absurd never
own_case s h (events.Revoke renderer text) own one = one_idle s h (events.Revoke renderer text) own _ (go (owns_entry h renderer.0 text)) one
  where
    go : (b : Bool) → is_idle (if b then answers.Revoked else answers.Nothing) ≡ true
    go true = refl
    go false = refl
own_case s h event own one = one_idle s h event own _ refl one

-- ---- what is settled

-- a blob of the history, found by its name
abbrev pub IsBuilt : Session → History → Build → Type 0
IsBuilt s h build = build_in (builds (page_limit s) h) build.name ≡ Some build

-- a page file of this number was written
abbrev pub was_written : History → ℕ → Bool
was_written h number = list_any (λ (each : Page). each.number == number) (pages h)

-- what a further answer is told for: the line itself, or one of the seven lists
pub data IsFurther (s : Session) (h : History) (answer : Answer) : Type 0 where
  by_store : (g : History) (renderer : RendererId) (b segment : ℕ) (bytes : List ℕ) (n : ℕ) → h ≡ heard g (events.Segment renderer b segment bytes)
      (answers.Taken segment)
      → refusal s g (events.Segment renderer b segment bytes) ≡ None → plan_in s g b ≡ Some (plans.File n) → answer ≡ answers.Stored (page_no (next_page g))
      (piece_no (piece_at s g b segment)) → IsFurther s h answer
  by_unstore : (g : History) (renderer : RendererId) (b segment : ℕ) (bytes : List ℕ) (n : ℕ) → h ≡ heard g (events.Segment renderer b segment bytes)
      (answers.Taken segment)
      → refusal s g (events.Segment renderer b segment bytes) ≡ None → plan_in s g b ≡ Some (plans.File n) → answer
      ≡ answers.StoreFailed (page_no (next_page g)) → IsFurther s h answer
  by_drop : (build : Build) → IsBuilt s h build → is_unfinished h build.name ≡ true → is_rooted (page_limit s) h build.name ≡ false → answer
      ≡ answers.Dropped build.name → IsFurther s h answer
  by_break : (build : Build) → IsBuilt s h build → is_unfinished h build.name ≡ true → (status : Status) → is_broken_status status ≡ true → answer
      ≡ answers.Broken build.name status → IsFurther s h answer
  by_done : (build : Build) → IsBuilt s h build → is_unfinished h build.name ≡ true → is_complete s.limits h build ≡ true → answer ≡ answers.Done build.name
      → IsFurther s h answer
  by_removal : (number : ℕ) → was_written h number ≡ true → was_asked h number ≡ false → (answer ≡ answers.Removed (page_no number))
      ⊎ (answer ≡ answers.Left (page_no number)) → IsFurther s h answer
  by_grant : (build : Build) → IsBuilt s h build → answer ≡ answers.Granted build.name → IsFurther s h answer
  by_page_job : (number : ℕ) (more : List ℕ) → may_start h ≡ true → chosen s.limits h ≡ number ∷ more → answer ≡ answers.Job (job_no (next_job h))
      (piece_list (number ∷ more)) → IsFurther s h answer
  by_compaction : (file : Page) → may_start h ≡ true → movable s h ≡ Some file → answer ≡ compaction s h file → IsFurther s h answer

-- an accepted line with its first answer
pub record IsHeard (s : Session) (h : History) (event : Event) (answer : Answer) : Type 0 where
  pub still_open : has_ended h ≡ false
  pub passes : refusal s h event ≡ None
  pub rest : List Answer
  pub own : IsAccepted s h event (answer ∷ rest)

-- each step of the history has its cause
abbrev pub IsCaused : Session → History → Type 0
IsCaused s start = Unit {0}
IsCaused s (heard h event answer) = IsHeard s h event answer × IsCaused s h
IsCaused s (refused h event why) = (has_ended h ≡ false) × (refusal s h event ≡ Some why) × IsCaused s h
IsCaused s (said h answer) = IsFurther s h answer × IsCaused s h

-- ---- the seven lists, one answer after the other

-- blobs that are unfinished, after one of another name was dropped
abbrev AreBegun : History → List Build → Type 0
AreBegun h list = AllByRecursion (λ (build : Build). is_unfinished h build.name ≡ true) list

still_begun : (h : History) (name : ℕ) (list : List Build) → named name list ≡ false → AreBegun h list → AreBegun (said h (answers.Dropped name)) list
still_begun h name [] apart all = tt
still_begun h name (build ∷ list) apart all =
    let parts = or_parts (build.name == name) (named name list) apart in
    let other : (name == build.name) ≡ false = ne_eqb name build.name (λ e. eqb-false build.name name parts.0 (sym e)) in
    (ap (λ (b : Bool). is_none (cond b (Some statuses.Dereferenced) (ended h build.name))) other ∙ all.0, still_begun h name list parts.1 all.1)

-- blobs that nothing roots; a dropped blob roots none
abbrev AreUnrooted : Session → History → List Build → Type 0
AreUnrooted s h list = AllByRecursion (λ (build : Build). is_rooted (page_limit s) h build.name ≡ false) list

dropping_caused : (s : Session) (h : History) (list : List Build) → Distinct list → AllByRecursion (IsBuilt s h) list → AreBegun h list → AreUnrooted s h list
    → IsCaused s h → IsCaused s (said_all h (map dropping list))
dropping_caused s h [] distinct all begun unrooted caused = caused
dropping_caused s h (build ∷ list) distinct all begun unrooted caused =
    dropping_caused s (said h (dropping build)) list distinct.1 all.1 (still_begun h build.name list distinct.0 begun.1) unrooted.1
    (by_drop build all.0 begun.0 unrooted.0 refl, caused)

-- a built blob that isn't live has no root
not_rooted : (s : Session) (h : History) (build : Build) → IsBuilt s h build → not (is_live (page_limit s) h build.name) ≡ true → is_rooted (page_limit s) h
    build.name ≡ false
not_rooted s h build found dead = go (is_rooted (page_limit s) h build.name) refl
  where
    go : (b : Bool) → is_rooted (page_limit s) h build.name ≡ b → b ≡ false
    go false at = refl
    go true at =
        let there : named build.name (builds (page_limit s) h) ≡ true = sym (found_named (builds (page_limit s) h) build.name) ∙ ap
        (λ (o : Option Build). is_some o) found in
        let lives : is_live (page_limit s) h build.name ≡ true = rooted_live (page_limit s) h build.name there at in
        absurd (false_true (subst (λ (b : Bool). not b ≡ true) lives dead))

pub drops_caused : (s : Session) (h : History) → Distinct (builds (page_limit s) h) → AllByRecursion (IsBuilt s h) (builds (page_limit s) h) → IsCaused s h
    → IsCaused s (said_all h (drops s h))
drops_caused s h distinct all caused =
    let both = filter_has (IsBuilt s h) (drops_test s h) (reverse (builds (page_limit s) h)) (all_reverse (IsBuilt s h) (builds (page_limit s) h) all) in
    dropping_caused s h (filter (drops_test s h) (reverse (builds (page_limit s) h)))
    (distinct_filter (drops_test s h) (reverse (builds (page_limit s) h)) (distinct_reverse (builds (page_limit s) h) distinct))
    (for_each (λ (build : Build). IsBuilt s h build × (drops_test s h build ≡ true)) (IsBuilt s h) (filter (drops_test s h) (reverse (builds (page_limit s) h)))
    (λ build e. e.0) both)
    (for_each (λ (build : Build). IsBuilt s h build × (drops_test s h build ≡ true)) (λ (build : Build). is_unfinished h build.name ≡ true)
    (filter (drops_test s h) (reverse (builds (page_limit s) h)))
    (λ build e. (and_parts (is_unfinished h build.name) (not (is_live (page_limit s) h build.name)) e.1).0) both)
    (for_each (λ (build : Build). IsBuilt s h build × (drops_test s h build ≡ true)) (λ (build : Build). is_rooted (page_limit s) h build.name ≡ false)
    (filter (drops_test s h) (reverse (builds (page_limit s) h)))
    (λ build e. not_rooted s h build e.0 (and_parts (is_unfinished h build.name) (not (is_live (page_limit s) h build.name)) e.1).1) both) caused

-- what belongs to the first test that is true
first_test : {X : Type 0} (P : X → Type 0) (cases : List (Bool × X)) (x : X) → AllByRecursion (λ (case : Bool × X). case.0 ≡ true → P (case.1)) cases
    → first_that cases ≡ Some x → P x
first_test P [] x all e = cc
first_test {X = X} P (case ∷ cases) x all e = go (case.0) refl (first_test P cases x all.1) e
  where
    go : (b : Bool) → case.0 ≡ b → (first_that cases ≡ Some x → P x) → (elim b as (λ (c : Bool). Option X) [ true ↦ Some (case.1) | false ↦ first_that cases ])
        ≡ Some x → P x
    go true at rest f = let same : case.1 ≡ x = cc in subst P same (all.0 at)
    go false at rest f = rest f

ending_caused : (s : Session) (h : History) (build : Build) (answer : Answer) → IsBuilt s h build → is_unfinished h build.name ≡ true → ending s h build
    ≡ Some answer → IsFurther s h answer
ending_caused s h build answer found begun e =
    first_test (λ (each : Answer). IsFurther s h each) (ending_tests s h build) answer (
      (λ at. by_break build found begun statuses.FileWriteFailed refl refl),
      (
        (λ at. by_break build found begun statuses.SourceDied refl refl),
        ((λ at. by_break build found begun statuses.ReferencedBlobBroken refl refl), ((λ at. by_done build found begun at refl), tt)),
      ),
    ) e

pub endings_caused : (s : Session) (h : History) (list : List Build) → AllByRecursion (IsBuilt s h) list → IsCaused s h
    → IsCaused s (said_all h (endings_of s h list))
endings_caused s h [] all caused = caused
endings_caused s h (build ∷ list) all caused = go (is_unfinished h build.name) refl (ending s h build) refl
    (λ answer before. endings_caused s (said h answer) list all.1 before) (endings_caused s h list all.1 caused)
  where
    go : (b : Bool) → is_unfinished h build.name ≡ b → (found : Option Answer) → ending s h build ≡ found
        → ((answer : Answer) → IsCaused s (said h answer) → IsCaused s (said_all (said h answer) (endings_of s (said h answer) list)))
        → IsCaused s (said_all h (endings_of s h list)) → IsCaused s
        (said_all h ((if b then option_to_list found else []) ++ endings_of s (said_all h (if b then option_to_list found else [])) list))
    go false at found e rest none = none
    go true at None e rest none = none
    go true at (Some answer) e rest none = rest answer (ending_caused s h build answer all.0 at e, caused)

-- page files whose numbers differ
abbrev pub AreApartPages : List Page → Type 0
AreApartPages [] = Unit {0}
AreApartPages (file ∷ list) = (list_any (λ (each : Page). each.number == file.number) list ≡ false) × AreApartPages list

-- page files that were written and not asked for
abbrev AreLeft : History → List Page → Type 0
AreLeft h list = AllByRecursion (λ (file : Page). (was_written h file.number ≡ true) × (was_asked h file.number ≡ false)) list

still_left : (h : History) (answer : Answer) (number : ℕ) (list : List Page) → pages (said h answer) ≡ pages h → asked (said h answer) ≡ asked h ++ number ∷ []
    → list_any (λ (each : Page). each.number == number) list ≡ false
    → AreLeft h list → AreLeft (said h answer) list
still_left h answer number [] written asks apart all = tt
still_left h answer number (file ∷ list) written asks apart all =
    let parts = or_parts (file.number == number) (list_any (λ (each : Page). each.number == number) list) apart in
    let before = all.0 in (
      (
        ap (λ (xs : List Page). list_any (λ (each : Page). each.number == file.number) xs) written ∙ before.0,
        ap (λ (xs : List ℕ). list_any (λ (each : ℕ). each == file.number) xs) asks ∙ list_any-append (λ (each : ℕ). each == file.number) (asked h) (number ∷ [])
            ∙ (λ i. before.1 i || ((not_equal i) || false)),
      ),
      still_left h answer number list written asks parts.1 all.1,
    )
  where
    not_equal : (number == file.number) ≡ false
    not_equal =
        let parts = or_parts (file.number == number) (list_any (λ (each : Page). each.number == number) list) apart in
        ne_eqb number file.number (λ e. eqb-false file.number number parts.0 (sym e))

removing_caused : (s : Session) (unremoved : List ℕ) (h : History) (list : List Page) → AreApartPages list → AreLeft h list → IsCaused s h
    → IsCaused s (said_all h (map (removal unremoved) list))
removing_caused s unremoved h [] apart all caused = caused
removing_caused s unremoved h (file ∷ list) apart all caused =
    go (list_any (λ (number : ℕ). number == file.number) unremoved) (λ next left before. removing_caused s unremoved next list apart.1 left before)
  where
    go : (b : Bool) → ((next : History) → AreLeft next list → IsCaused s next → IsCaused s (said_all next (map (removal unremoved) list)))
        → IsCaused s (said_all (said h (if b then answers.Left (page_no file.number) else answers.Removed (page_no file.number)))
        (map (removal unremoved) list))
    go true rest =
        rest (said h (answers.Left (page_no file.number))) (still_left h (answers.Left (page_no file.number)) file.number list refl refl apart.0 all.1)
        (by_removal file.number all.0.0 all.0.1 (inr refl), caused)
    go false rest =
        rest (said h (answers.Removed (page_no file.number))) (still_left h (answers.Removed (page_no file.number)) file.number list refl refl apart.0 all.1)
        (by_removal file.number all.0.0 all.0.1 (inl refl), caused)

apart_filter : (test : Page → Bool) (list : List Page) → AreApartPages list → AreApartPages (filter test list)
apart_filter test [] apart = tt
apart_filter test (file ∷ list) apart = go (test file) (apart_filter test list apart.1)
  where
    go : (b : Bool) → AreApartPages (filter test list) → AreApartPages (cond b (file ∷ filter test list) (filter test list))
    go true rest = (none_filtered (λ (each : Page). each.number == file.number) test list apart.0, rest)
    go false rest = rest

pub removals_caused : (s : Session) (unremoved : List ℕ) (h : History) → AreApartPages (pages h) → IsCaused s h
    → IsCaused s (said_all h (removals s unremoved h))
removals_caused s unremoved h apart caused =
    let due = is_due h (files (page_limit s) h) in
    removing_caused s unremoved h (filter (is_due h (files (page_limit s) h)) (pages h)) (apart_filter (is_due h (files (page_limit s) h)) (pages h) apart)
    (for_each (λ (file : Page). (was_written h file.number ≡ true) × (is_due h (files (page_limit s) h) file ≡ true))
    (λ (file : Page). (was_written h file.number ≡ true) × (was_asked h file.number ≡ false))
    (filter (is_due h (files (page_limit s) h)) (pages h))
    (λ file e. (
      e.0,
      not_true (was_asked h file.number) (and_parts (not (list_any (λ (each : Page). each.number == file.number) (files (page_limit s) h)))
          (not (was_asked h file.number)) e.1).1,
    ))
    (filter_has (λ (file : Page). was_written h file.number ≡ true) (is_due h (files (page_limit s) h)) (pages h)
    (all_numbered (λ (file : Page). file.number) (pages h)))) caused

pub granting_caused : (s : Session) (h : History) (list : List Build) → AllByRecursion (IsBuilt s h) list → IsCaused s h
    → IsCaused s (said_all h (grants_of s h list))
granting_caused s h [] all caused = caused
granting_caused s h (build ∷ list) all caused =
    go (nat_le (memory (page_limit s) h + own_bytes build.parts) s.limits.memory)
    (granting_caused s (said h (answers.Granted build.name)) list all.1 (by_grant build all.0 refl, caused))
  where
    go : (b : Bool) → IsCaused s (said_all (said h (answers.Granted build.name)) (grants_of s (said h (answers.Granted build.name)) list))
        → IsCaused s (said_all h (if b then answers.Granted build.name ∷ grants_of s (said h (answers.Granted build.name)) list else []))
    go true rest = rest
    go false rest = caused

pub page_jobs_caused : (s : Session) (h : History) → IsCaused s h → IsCaused s (said_all h (page_jobs s h))
page_jobs_caused s h caused = go (may_start h && nat_lt 0 (length (waits (page_limit s) h))) refl (chosen s.limits h) refl
  where
    go : (b : Bool) → (may_start h && nat_lt 0 (length (waits (page_limit s) h))) ≡ b → (list : List ℕ) → chosen s.limits h ≡ list
        → IsCaused s (said_all h (if b then page_job_of h list else []))
    go false at list e = caused
    go true at [] e = caused
    go true at (number ∷ more) e = (by_page_job number more (and_parts (may_start h) (nat_lt 0 (length (waits (page_limit s) h))) at).0 e refl, caused)

pub compactions_caused : (s : Session) (h : History) → IsCaused s h → IsCaused s (said_all h (compactions s h))
compactions_caused s h caused = go (may_start h) refl (movable s h) refl
  where
    go : (b : Bool) → may_start h ≡ b → (found : Option Page) → movable s h ≡ found
        → IsCaused s (said_all h (if b then option_to_list (option_map (compaction s h) found) else []))
    go false at found e = caused
    go true at None e = caused
    go true at (Some file) e = (by_compaction file at e refl, caused)
