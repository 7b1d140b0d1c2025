-- Page files and the job in flight list pieces of blobs that have ended, or whose plan is file.
use Rattle.std.proofs.Common.{◌≡◌, ℕ, ◌+◌, ◌==◌, ◌⊎◌, Bool, true, false, ◌&&◌, not, List, [], ◌∷◌, ◌++◌, refl, ap, subst, sym, ◌∙◌, inl, inr, ⊎_elim, append-nil, ◌-◌, min, length, ◌<◌, arith}
use Rattle.std.proofs.Common.{Option, Some, None, cond}
use Rattle.std.specs.Prelude.{IfSome, IsSomeAnd, is_none, nat_lt}
use Rattle.std.specs.List.{AllByRecursion, list_any}
use Rattle.std.proofs.lemmas.Bool.{and_parts, eqb-true, leb-false}
use Rattle.session_script.specs.declared.event.Event.{Event}
use Rattle.session_script.specs.declared.event.Event.TheVariants as events
use Rattle.answer_text.specs.declared.answer.Answer.{Answer}
use Rattle.answer_text.specs.declared.answer.Answer.TheVariants as answers
use Rattle.answer_text.specs.declared.refusal.Refusal.{Refusal}
use Rattle.blob_model.specs.Builds.{Build, build_in, builds}
use Rattle.blob_model.specs.History.{History, heard, refused, said, start}
use Rattle.blob_model.specs.Jobs.{Job, in_flight, in_flight_after, without_job, is_in_job, next_job}
use Rattle.blob_model.specs.Order.{named}
use Rattle.blob_model.specs.Pages.{Page, is_memory, numbers, pages, place_in, pages_after, next_page, unlisted_place, is_reserved, planned_place}
use Rattle.blob_model.specs.Pieces.{Piece, pieces, pieces_from, pieces_of, spans_of, planned_spans}
use Rattle.blob_model.specs.Reached.{reached, is_granted_piece, live_cells, owns_some}
use Rattle.blob_model.specs.Session.{Session, page_limit}
use Rattle.blob_model.specs.Settle.{job_no, kept, piece_list, compaction, can_move, movable, page_no}
use Rattle.blob_model.specs.Standing.{ended, is_done, is_done_status, is_unfinished}
use Rattle.blob_model.specs.Tally.{in_page_of, disk, in_memory_of, memory, files, job_left, job_left_of}
use Rattle.blob_model.specs.Victims.{chosen, last_uses, pageable, head_bytes}
use Rattle.blob_words.specs.declared.status.Status.{Status}
use Rattle.blob_model.proofs.Lists.{false_true, filter_all, filter_has, for_each, found_all, or_cases, or_first, or_second, get_all, get_there, all_more}
use Rattle.blob_model.proofs.builds.PieceNumbers.{FoundIn, found_append, all_by_number, pieces_numbered}
use Rattle.blob_model.proofs.disk.Jobs.{all_pieces, has_piece}
use Rattle.blob_model.proofs.disk.Settling.{numbers_list}
use Rattle.blob_model.proofs.disk.Victims.{victims_stand, StandsFor}
use Rattle.blob_model.proofs.kept.Kept.{unfinished_heard, unfinished_said}
use Rattle.blob_model.proofs.legal.Causes.{IsCaused, IsFurther, OwnCase, breaks, by_break, by_compaction, by_done, by_drop, by_grant, by_page_job, by_removal, by_store, by_unstore, idle, is_idle, is_reply, loses, own_case, replies, stores, unstores}
use Rattle.blob_model.proofs.legal.PageNumbers.{same_first}
use Rattle.blob_model.proofs.memory.Builds.{found_more, pieces_more, pieces_named}
use Rattle.store_laws.specs.Cells.{piece_in}
use Rattle.store_laws.specs.Late.{is_flyable, IsFlyable}
use Rattle.std.specs.Option.{option_map_or}
use Rattle.blob_model.specs.Waits.{waits}
use Rattle.blob_model.specs.Own.{source_of, piece_at, piece_no, plan_in, job_done, job_failed}
use Rattle.blob_model.specs.Choice.{IsOneOf}
use Rattle.blob_model.specs.Refusals.{refusal, segment_refusals}
use Rattle.blob_model.specs.Transport.{spans}
use Rattle.blob_model.specs.Parts.{own_lengths}
use Rattle.transport_plan.specs.Spans.{segment_spans}
use Rattle.blob_words.specs.declared.plan.Plan.{Plan}
use Rattle.blob_words.specs.declared.plan.Plan.TheVariants as plans
use Rattle.blob_words.specs.declared.number.JobNo.{JobNo}
use Rattle.blob_model.proofs.disk.Segments.{spans_within}
use Rattle.blob_model.proofs.kept.NewBlobs.{tests_fail}
use Rattle.blob_words.specs.declared.number.RendererId.{RendererId}

-- what the job in flight names
abbrev pub AreFlyable : Session → History → Option Job → Type 0
AreFlyable s h job = IfSome job (λ (one : Job). AllByRecursion (IsFlyable (page_limit s) h) one.pieces)

abbrev pub AreWritable : Session → History → List Page → Type 0
AreWritable s h list = AllByRecursion (λ (file : Page). AllByRecursion (IsFlyable (page_limit s) h) file.pieces) list

-- ---- a piece that may fly goes on doing so

not_up : (a b : Bool) → (b ≡ true → a ≡ true) → not a ≡ true → not b ≡ true
not_up a false up e = refl
not_up true true up e = e
not_up false true up e = absurd (false_true (up refl))

-- where blobs that are unfinished were so before, and its blob is found as before
flyable_up : (page : ℕ) (h g : History) (piece : Piece) → (is_unfinished g piece.blob ≡ true → is_unfinished h piece.blob ≡ true)
    → build_in (builds page g) piece.blob ≡ build_in (builds page h) piece.blob → is_flyable page h piece ≡ true → is_flyable page g piece ≡ true
flyable_up page h g piece begun same e =
    ⊎_elim
    (λ (over : not (is_unfinished h piece.blob) ≡ true).
    or_first (not (is_unfinished g piece.blob)) (is_reserved (unlisted_place (build_in (builds page g) piece.blob)))
    (not_up (is_unfinished h piece.blob) (is_unfinished g piece.blob) begun over))
    (λ (filed : is_reserved (unlisted_place (build_in (builds page h) piece.blob)) ≡ true).
    or_second (not (is_unfinished g piece.blob)) (is_reserved (unlisted_place (build_in (builds page g) piece.blob)))
    (ap (λ (build : Option Build). is_reserved (unlisted_place build)) same ∙ filed))
    (or_cases (not (is_unfinished h piece.blob)) (is_reserved (unlisted_place (build_in (builds page h) piece.blob))) e)

-- a piece of a longer list
flies_on : (page : ℕ) (h g : History) (more : List Piece) → pieces page g ≡ pieces page h ++ more
    → ((piece : Piece) → FoundIn (pieces page h) piece.number piece → is_flyable page h piece ≡ true → is_flyable page g piece ≡ true) → (number : ℕ)
    → IsFlyable page h number → IsFlyable page g number
flies_on page h g more longer up number flies = by (piece_in (pieces page h) number) refl flies
  where
    by : (found : Option Piece) → piece_in (pieces page h) number ≡ found → IsSomeAnd found (λ (piece : Piece). is_flyable page h piece ≡ true)
        → IsFlyable page g number
    by None at is = absurd is
    by (Some piece) at is =
        let own : FoundIn (pieces page h) piece.number piece =
        found_all (λ (one : Piece). FoundIn (pieces page h) one.number one) (λ (one : Piece). one.number == number) (pieces page h) piece (each page h) at in
        subst (λ (list : List Piece). IsSomeAnd (piece_in list number) (λ (one : Piece). is_flyable page g one ≡ true)) (sym longer)
        (subst (λ (o : Option Piece). IsSomeAnd o (λ (one : Piece). is_flyable page g one ≡ true)) (sym (found_append (pieces page h) more number piece at))
        (up piece own is))
      where
        each : (page : ℕ) (h : History) → AllByRecursion (λ (one : Piece). FoundIn (pieces page h) one.number one) (pieces page h)
        each page h = all_by_number 0 (pieces page h) (pieces_numbered page 0 (builds page h))

-- ---- a line, and a further answer

-- a line builds nothing, or one blob
blobs_grow : (page : ℕ) (h : History) (event : Event) (answer : Answer)
    → (builds page (heard h event answer) ≡ builds page h) ⊎ ((new : Build) × (builds page (heard h event answer) ≡ builds page h ++ new ∷ []))
blobs_grow page h (events.Build renderer name kind parts) answer = inr (_, refl)
blobs_grow page h (events.Slice renderer name source from to kind) answer = inr (_, refl)
blobs_grow page h event answer = inl refl

module _ (page : ℕ) (h g : History) (begun : (name : ℕ) → is_unfinished g name ≡ true → is_unfinished h name ≡ true) where
  same_flies : builds page g ≡ builds page h → (number : ℕ) → IsFlyable page h number → IsFlyable page g number
  same_flies same number =
      flies_on page h g [] (ap (pieces_from page 0) same ∙ sym (append-nil (pieces page h)))
      (λ piece found. flyable_up page h g piece (begun piece.blob) (ap (λ (list : List Build). build_in list piece.blob) same)) number

  more_flies : (new : Build) → builds page g ≡ builds page h ++ new ∷ [] → (number : ℕ) → IsFlyable page h number → IsFlyable page g number
  more_flies new longer number =
      let more = pieces_more page 0 (builds page h) new in
      flies_on page h g (pieces_from page more.0 (new ∷ [])) (ap (pieces_from page 0) longer ∙ more.1)
      (λ piece found. flyable_up page h g piece (begun piece.blob)
      (ap (λ (list : List Build). build_in list piece.blob) longer
      ∙ found_more (builds page h) new piece.blob
      (found_all (λ (one : Piece). named one.blob (builds page h) ≡ true) (λ (one : Piece). one.number == piece.number) (pieces page h) piece
      (pieces_named page 0 (builds page h)) found))) number

heard_flies : (page : ℕ) (h : History) (event : Event) (answer : Answer) (number : ℕ) → IsFlyable page h number
    → IsFlyable page (heard h event answer) number
heard_flies page h event answer number flies =
    ⊎_elim (λ (same : builds page (heard h event answer) ≡ builds page h).
    same_flies page h (heard h event answer) (λ name. unfinished_heard h event answer name) same number flies)
    (λ (one : (new : Build) × (builds page (heard h event answer) ≡ builds page h ++ new ∷ [])).
    more_flies page h (heard h event answer) (λ name. unfinished_heard h event answer name) one.0 one.1 number flies)
    (blobs_grow page h event answer)

pub said_flies : (page : ℕ) (h : History) (answer : Answer) (number : ℕ) → IsFlyable page h number → IsFlyable page (said h answer) number
said_flies page h answer number = same_flies page h (said h answer) (λ name. unfinished_said h answer name) refl number

-- ---- answers that start no job

abbrev pub is_start : Answer → Bool
is_start (answers.Job job list) = true
is_start (answers.Compacting job file list) = true
is_start answer = false

without_all : (P : Job → Type 0) (number : ℕ) (before : Option Job) → IfSome before P → IfSome (without_job number before) P
without_all P number None all = tt
without_all P number (Some job) all = by (job.number == number)
  where
    by : (b : Bool) → IfSome (cond {A = Option Job} b None (Some job)) P
    by true = tt
    by false = all

unstarted : (P : Job → Type 0) (answer : Answer) (before : Option Job) → is_start answer ≡ false → IfSome before P
    → IfSome (in_flight_after answer before) P
unstarted P (answers.Job job list) before none all = absurd (false_true (sym none))
unstarted P (answers.Compacting job file list) before none all = absurd (false_true (sym none))
unstarted P (answers.Paged job file list) before none all = without_all P job.0 before all
unstarted P (answers.Empty job) before none all = without_all P job.0 before all
unstarted P (answers.PageFailed job file) before none all = without_all P job.0 before all
unstarted P (answers.Moved job file list) before none all = without_all P job.0 before all
unstarted P (answers.MoveFailed job file) before none all = without_all P job.0 before all
unstarted P (answers.MoveUnread job file) before none all = without_all P job.0 before all
unstarted P (answers.LostJob job) before none all = without_all P job.0 before all
unstarted P answer before none all = all

idle_start : (answer : Answer) → is_idle answer ≡ true → is_start answer ≡ false
idle_start (answers.Job job list) e = absurd (false_true e)
idle_start (answers.Compacting job file list) e = absurd (false_true e)
idle_start answer e = refl

reply_start : (answer : Answer) → is_reply answer ≡ true → is_start answer ≡ false
reply_start (answers.Job job list) e = absurd (false_true e)
reply_start (answers.Compacting job file list) e = absurd (false_true e)
reply_start answer e = refl

heard_start : (s : Session) (h : History) (event : Event) (answer : Answer) (rest : List Answer) → OwnCase s h event (answer ∷ rest)
    → is_start answer ≡ false
heard_start s h event answer rest (idle one e free) = ap is_start (same_first answer one rest [] e) ∙ idle_start one free
heard_start s h event answer rest (breaks b status broken building e) = ap is_start (same_first answer (answers.Broken b status) rest [] e)
heard_start s h event answer rest (stores renderer b segment bytes n same at e) = ap is_start (same_first answer (answers.Taken segment) rest _ e)
heard_start s h event answer rest (unstores renderer b segment bytes n same at e) = ap is_start (same_first answer (answers.Taken segment) rest _ e)
heard_start s h event answer rest (replies job one same e reply done) = ap is_start (same_first answer one rest [] e) ∙ reply_start one reply
heard_start s h event answer rest (loses job same e) = ap is_start (same_first answer (answers.LostJob job) rest [] e)

-- ---- jobs that start

-- a piece of the history that may fly
abbrev MayFly : Session → History → Piece → Type 0
MayFly s h piece = has_piece s h piece × (is_flyable (page_limit s) h piece ≡ true)

by_piece : (s : Session) (h : History) (number : ℕ) (piece : Piece) → piece.number ≡ number → MayFly s h piece → IsFlyable (page_limit s) h number
by_piece s h number piece same may =
    subst (λ (o : Option Piece). IsSomeAnd o (λ (one : Piece). is_flyable (page_limit s) h one ≡ true))
    (sym may.0 ∙ ap (piece_in (pieces (page_limit s) h)) same) may.1

done_over : (h : History) (name : ℕ) → is_done h name ≡ true → not (is_unfinished h name) ≡ true
done_over h name = by (ended h name)
  where
    by : (o : Option Status) → option_map_or is_done_status o false ≡ true → not (is_none o) ≡ true
    by None e = absurd (false_true e)
    by (Some status) e = refl

-- those that are chosen to be paged
pub chosen_fly : (s : Session) (h : History) → AllByRecursion (IsFlyable (page_limit s) h) (chosen s.limits h)
chosen_fly s h =
    for_each (StandsFor (MayFly s h) (pageable (page_limit s) h)) (IsFlyable (page_limit s) h) (chosen s.limits h)
    (λ number one. by_piece s h number one.0 one.1 one.2)
    (victims_stand (MayFly s h) (memory (page_limit s) h + head_bytes (waits (page_limit s) h) - s.limits.memory)
    (min (page_limit s) (s.limits.disk - disk (page_limit s) h)) (pageable (page_limit s) h) (last_uses s.limits h) each)
  where
    each : AllByRecursion (MayFly s h) (pageable (page_limit s) h)
    each =
        for_each (λ (piece : Piece). has_piece s h piece × ((is_done h piece.blob && not (is_in_job h piece.number)) ≡ true)) (MayFly s h)
        (pageable (page_limit s) h)
        (λ piece e. (
          e.0,
          or_first (not (is_unfinished h piece.blob)) (is_reserved (unlisted_place (build_in (builds (page_limit s) h) piece.blob)))
              (done_over h piece.blob (and_parts (is_done h piece.blob) (not (is_in_job h piece.number)) e.1).0),
        ))
        (filter_has (has_piece s h) (λ (piece : Piece). is_done h piece.blob && not (is_in_job h piece.number))
        (in_memory_of h (builds (page_limit s) h) (reached (page_limit s) h))
        (filter_all (has_piece s h) (λ (piece : Piece). is_memory (place_in h (builds (page_limit s) h) piece)) (reached (page_limit s) h)
        (filter_all (has_piece s h)
        (λ (piece : Piece). is_granted_piece h (builds (page_limit s) h) piece && owns_some (live_cells (page_limit s) h) piece)
        (pieces (page_limit s) h) (all_pieces s h))))

-- those that are moved out of a page file are some of those that it lists
pub kept_fly : (s : Session) (h : History) (file : Page) → AllByRecursion (IsFlyable (page_limit s) h) file.pieces
    → AllByRecursion (IsFlyable (page_limit s) h) (kept s h file)
kept_fly s h file =
    filter_all (IsFlyable (page_limit s) h)
    (λ (number : ℕ).
    list_any (λ (piece : Piece). piece.number == number) (in_page_of h (builds (page_limit s) h) file (reached (page_limit s) h))) file.pieces

movable_fly : (s : Session) (h : History) (file : Page) → movable s h ≡ Some file → AreWritable s h (pages h)
    → AllByRecursion (IsFlyable (page_limit s) h) file.pieces
movable_fly s h file at all =
    found_all (λ (one : Page). AllByRecursion (IsFlyable (page_limit s) h) one.pieces)
    (can_move s h (builds (page_limit s) h) (pieces (page_limit s) h) (reached (page_limit s) h)) (files (page_limit s) h) file
    (filter_all (λ (one : Page). AllByRecursion (IsFlyable (page_limit s) h) one.pieces)
    (λ (one : Page). nat_lt 0 (length (in_page_of h (builds (page_limit s) h) one (reached (page_limit s) h)))) (pages h) all) at

-- ---- page files that are written

-- the piece that a segment of a file plan brings
module _ (s : Session) (h : History) (renderer : RendererId) (b segment : ℕ) (bytes : List ℕ) (n : ℕ)
    (passes : refusal s h (events.Segment renderer b segment bytes) ≡ None) (filed : plan_in s h b ≡ Some (plans.File n)) where
  stored_in : (build : Build) → build_in (builds (page_limit s) h) b ≡ Some build → build.plan ≡ Some (plans.File n)
      → segment < length (spans s.limits build) → IsFlyable (page_limit s) h (piece_at s h b segment)
  stored_in build at plan low =
      let equal : length (spans s.limits build) ≡ length (spans_of (page_limit s) build) =
      (λ i. length (option_map_or (λ (p : Plan). segment_spans (own_lengths build.parts) p s.limits) (plan i) []))
      ∙ sym (λ i. length (planned_spans (page_limit s) build (plan i))) in
      let within = spans_within (page_limit s) 0 b (builds (page_limit s) h) build at in
      let one = get_there (pieces_of (page_limit s) h b) segment (omega (arith, low, equal, within)) in
      let facts =
      get_all (λ (each : Piece). FoundIn (pieces (page_limit s) h) each.number each × ((each.blob == b) ≡ true)) (pieces_of (page_limit s) h b) segment
      one.0
      (filter_has (λ (each : Piece). FoundIn (pieces (page_limit s) h) each.number each) (λ (each : Piece). each.blob == b) (pieces (page_limit s) h)
      (all_pieces s h)) one.1 in
      let is_filed : is_reserved (unlisted_place (build_in (builds (page_limit s) h) one.0.blob)) ≡ true =
      ap (λ (name : ℕ). is_reserved (unlisted_place (build_in (builds (page_limit s) h) name))) (eqb-true one.0.blob b facts.1)
      ∙ ap (λ (o : Option Build). is_reserved (unlisted_place o)) at ∙ ap (λ (p : Option Plan). is_reserved (planned_place p)) plan in
      by_piece s h (piece_at s h b segment) one.0 (sym (ap (λ (o : Option Piece). option_map_or (λ (each : Piece). each.number) o 0) one.1)) (
        facts.0,
        or_second (not (is_unfinished h one.0.blob)) (is_reserved (unlisted_place (build_in (builds (page_limit s) h) one.0.blob))) is_filed,
      )

  stored_flies : IsFlyable (page_limit s) h (piece_at s h b segment)
  stored_flies = go (build_in (builds (page_limit s) h) b) refl (tests_fail s h (events.Segment renderer b segment bytes) passes).1
    where
      go : (found : Option Build) → build_in (builds (page_limit s) h) b ≡ found
          → AllByRecursion (λ (case : Bool × Refusal). case.0 ≡ false) (segment_refusals s h renderer b segment (length bytes) found)
          → IsFlyable (page_limit s) h (piece_at s h b segment)
      go None at tests = absurd (false_true (sym tests.0))
      go (Some build) at tests =
          stored_in build at (sym (ap (λ (o : Option Build). option_map_or (λ (each : Build). each.plan) o None) at) ∙ filed)
          (leb-false (length (spans s.limits build)) segment tests.1.0)

-- ---- each history in which each answer has its cause

-- what page files and the job in flight list
pub record AreListable (s : Session) (h : History) : Type 0 where
  pub job : AreFlyable s h (in_flight h)
  pub files : AreWritable s h (pages h)

-- the job that an answer starts, where its pieces may fly behind the answer
started_flies : (s : Session) (h : History) (list : List ℕ) (g : History) → ((number : ℕ) → IsFlyable (page_limit s) h number → IsFlyable (page_limit s) g number)
    → AllByRecursion (IsFlyable (page_limit s) h) list → AllByRecursion (IsFlyable (page_limit s) g) (numbers (piece_list list))
started_flies s h list g up all =
    subst (AllByRecursion (IsFlyable (page_limit s) g)) (sym (numbers_list list))
    (for_each (IsFlyable (page_limit s) h) (IsFlyable (page_limit s) g) list (λ number. up number) all)

module _ (s : Session) (h g : History) (up : (number : ℕ) → IsFlyable (page_limit s) h number → IsFlyable (page_limit s) g number) where
  kept_flies : (job : Option Job) → AreFlyable s h job → AreFlyable s g job
  kept_flies None all = tt
  kept_flies (Some job) all = for_each (IsFlyable (page_limit s) h) (IsFlyable (page_limit s) g) job.pieces (λ number. up number) all

  unstarted_flies : (answer : Answer) → is_start answer ≡ false → AreFlyable s h (in_flight h) → AreFlyable s g (in_flight_after answer (in_flight h))
  unstarted_flies answer none all =
      unstarted (λ (one : Job). AllByRecursion (IsFlyable (page_limit s) g) one.pieces) answer (in_flight h) none (kept_flies (in_flight h) all)

  pub kept_files : (list : List Page) → AreWritable s h list → AreWritable s g list
  kept_files list all =
      for_each (λ (file : Page). AllByRecursion (IsFlyable (page_limit s) h) file.pieces)
      (λ (file : Page). AllByRecursion (IsFlyable (page_limit s) g) file.pieces) list
      (λ file pieces_fly. for_each (IsFlyable (page_limit s) h) (IsFlyable (page_limit s) g) file.pieces (λ number. up number) pieces_fly) all

  -- one page file more
  more_files : (number : ℕ) (list : List ℕ) (before : List Page) → AllByRecursion (IsFlyable (page_limit s) h) list → AreWritable s h before
      → AreWritable s g (before ++ record { number = number; pieces = list } ∷ [])
  more_files number list before fly all =
      all_more (λ (file : Page). AllByRecursion (IsFlyable (page_limit s) g) file.pieces) before (record { number = number; pieces = list })
      (kept_files before all) (for_each (IsFlyable (page_limit s) h) (IsFlyable (page_limit s) g) list (λ each. up each) fly)

  -- answers that write no page file
  idle_files : (answer : Answer) → is_idle answer ≡ true → AreWritable s h (pages h) → AreWritable s g (pages_after answer (pages h))
  idle_files (answers.Stored file piece) e all = absurd (false_true e)
  idle_files (answers.Paged job file list) e all = absurd (false_true e)
  idle_files (answers.Moved job file list) e all = absurd (false_true e)
  idle_files answer e all = kept_files (pages h) all

  -- the pieces of the job that ends
  reply_files : (job : JobNo) (source : Option ℕ) (list : List ℕ) (answer : Answer) (rest : List Answer)
      → IsOneOf (answer ∷ rest) ((job_done h job source list ∷ []) ∷ job_failed h job source list)
      → AllByRecursion (IsFlyable (page_limit s) h) list → AreWritable s h (pages h) → AreWritable s g (pages_after answer (pages h))
  reply_files job source [] answer rest (inl e) fly all =
      subst (λ (a : Answer). AreWritable s g (pages_after a (pages h))) (sym (same_first answer (answers.Empty job) rest [] e)) (kept_files (pages h) all)
  reply_files job source [] answer rest (inr never) fly all = absurd never
  reply_files job None (number ∷ more) answer rest (inl e) fly all =
      subst (λ (a : Answer). AreWritable s g (pages_after a (pages h))) (sym (same_first answer _ rest [] e))
      (more_files (next_page h) (numbers (piece_list (number ∷ more))) (pages h)
      (subst (AllByRecursion (IsFlyable (page_limit s) h)) (sym (numbers_list (number ∷ more))) fly) all)
  reply_files job None (number ∷ more) answer rest (inr (inl e)) fly all =
      subst (λ (a : Answer). AreWritable s g (pages_after a (pages h))) (sym (same_first answer _ rest [] e)) (kept_files (pages h) all)
  reply_files job None (number ∷ more) answer rest (inr (inr never)) fly all = absurd never
  reply_files job (Some file) (number ∷ more) answer rest (inl e) fly all =
      subst (λ (a : Answer). AreWritable s g (pages_after a (pages h))) (sym (same_first answer _ rest [] e))
      (more_files (next_page h) (numbers (piece_list (number ∷ more))) (pages h)
      (subst (AllByRecursion (IsFlyable (page_limit s) h)) (sym (numbers_list (number ∷ more))) fly) all)
  reply_files job (Some file) (number ∷ more) answer rest (inr (inl e)) fly all =
      subst (λ (a : Answer). AreWritable s g (pages_after a (pages h))) (sym (same_first answer _ rest [] e)) (kept_files (pages h) all)
  reply_files job (Some file) (number ∷ more) answer rest (inr (inr (inl e))) fly all =
      subst (λ (a : Answer). AreWritable s g (pages_after a (pages h))) (sym (same_first answer _ rest [] e)) (kept_files (pages h) all)
  reply_files job (Some file) (number ∷ more) answer rest (inr (inr (inr never))) fly all = absurd never

-- the pieces that the job in flight still has
left_fly : (s : Session) (h : History) → AreFlyable s h (in_flight h) → AllByRecursion (IsFlyable (page_limit s) h) (job_left (page_limit s) h)
left_fly s h = by (in_flight h)
  where
    by : (job : Option Job) → AreFlyable s h job
        → AllByRecursion (IsFlyable (page_limit s) h) (option_map_or (λ (one : Job). job_left_of one (reached (page_limit s) h)) job [])
    by None all = tt
    by (Some job) all =
        filter_all (IsFlyable (page_limit s) h) (λ (number : ℕ). list_any (λ (piece : Piece). piece.number == number) (reached (page_limit s) h))
        job.pieces all

module _ (s : Session) (h : History) (before : AreListable s h) where
  heard_files : (event : Event) (answer : Answer) (rest : List Answer) → OwnCase s h event (answer ∷ rest)
      → AreWritable s (heard h event answer) (pages_after answer (pages h))
  heard_files event answer rest (idle one e free) =
      idle_files s h (heard h event answer) (heard_flies (page_limit s) h event answer) answer (ap is_idle (same_first answer one rest [] e) ∙ free)
      before.files
  heard_files event answer rest (breaks b status broken building e) =
      subst (λ (a : Answer). AreWritable s (heard h event answer) (pages_after a (pages h))) (sym (same_first answer (answers.Broken b status) rest [] e))
      (kept_files s h (heard h event answer) (heard_flies (page_limit s) h event answer) (pages h) before.files)
  heard_files event answer rest (stores renderer b segment bytes n same at e) =
      subst (λ (a : Answer). AreWritable s (heard h event answer) (pages_after a (pages h))) (sym (same_first answer (answers.Taken segment) rest _ e))
      (kept_files s h (heard h event answer) (heard_flies (page_limit s) h event answer) (pages h) before.files)
  heard_files event answer rest (unstores renderer b segment bytes n same at e) =
      subst (λ (a : Answer). AreWritable s (heard h event answer) (pages_after a (pages h))) (sym (same_first answer (answers.Taken segment) rest _ e))
      (kept_files s h (heard h event answer) (heard_flies (page_limit s) h event answer) (pages h) before.files)
  heard_files event answer rest (replies job one same e reply done) =
      reply_files s h (heard h event answer) (heard_flies (page_limit s) h event answer) job (source_of (in_flight h)) (job_left (page_limit s) h) answer
      rest done (left_fly s h before.job) before.files
  heard_files event answer rest (loses job same e) =
      subst (λ (a : Answer). AreWritable s (heard h event answer) (pages_after a (pages h))) (sym (same_first answer (answers.LostJob job) rest [] e))
      (kept_files s h (heard h event answer) (heard_flies (page_limit s) h event answer) (pages h) before.files)

  -- behind a further answer that starts no job and writes no page file
  said_on : (answer : Answer) → is_start answer ≡ false → pages_after answer (pages h) ≡ pages h → AreListable s (said h answer)
  said_on answer none same = record {
    job = unstarted_flies s h (said h answer) (said_flies (page_limit s) h answer) answer none before.job;
    files = subst (AreWritable s (said h answer)) (sym same)
        (kept_files s h (said h answer) (said_flies (page_limit s) h answer) (pages h) before.files);
  }

  said_by : (answer one : Answer) → answer ≡ one → is_start one ≡ false → pages_after one (pages h) ≡ pages h → AreListable s (said h answer)
  said_by answer one e none same = subst (λ (a : Answer). AreListable s (said h a)) (sym e) (said_on one none same)

  started : (answer : Answer) (list : List ℕ) → AreFlyable s (said h answer) (in_flight (said h answer)) → pages_after answer (pages h) ≡ pages h
      → AreListable s (said h answer)
  started answer list fly same = record {
    job = fly;
    files = subst (AreWritable s (said h answer)) (sym same)
        (kept_files s h (said h answer) (said_flies (page_limit s) h answer) (pages h) before.files);
  }

  further_on : (answer : Answer) → IsFurther s h answer → AreListable s (said h answer)
  further_on answer (by_store g renderer b segment bytes n at passes plan e) =
      subst (λ (a : Answer). AreListable s (said h a)) (sym e)
      (record {
        job = unstarted_flies s h (said h stored) (said_flies (page_limit s) h stored) stored refl before.job;
        files = more_files s h (said h stored) (said_flies (page_limit s) h stored) (next_page g) (piece_at s g b segment ∷ []) (pages h) (
          subst (λ (one : History). IsFlyable (page_limit s) one (piece_at s g b segment)) (sym at)
              (heard_flies (page_limit s) g (events.Segment renderer b segment bytes) (answers.Taken segment) (piece_at s g b segment)
              (stored_flies s g renderer b segment bytes n passes plan)),
          tt,
        ) before.files;
      })
    where
      stored : Answer
      stored = answers.Stored (page_no (next_page g)) (piece_no (piece_at s g b segment))
  further_on answer (by_unstore g renderer b segment bytes n at passes plan e) = said_by answer _ e refl refl
  further_on answer (by_drop build found begun unrooted e) = said_by answer _ e refl refl
  further_on answer (by_break build found begun status broken e) = said_by answer _ e refl refl
  further_on answer (by_done build found begun complete e) = said_by answer _ e refl refl
  further_on answer (by_removal number written unasked e) =
      ⊎_elim (λ (went : answer ≡ answers.Removed (page_no number)). said_by answer (answers.Removed (page_no number)) went refl refl)
      (λ (stays : answer ≡ answers.Left (page_no number)). said_by answer (answers.Left (page_no number)) stays refl refl) e
  further_on answer (by_grant build found e) = said_by answer _ e refl refl
  further_on answer (by_page_job number more may is e) =
      subst (λ (one : Answer). AreListable s (said h one)) (sym e)
      (started (answers.Job (job_no (next_job h)) (piece_list (number ∷ more))) (number ∷ more)
      (started_flies s h (number ∷ more) (said h (answers.Job (job_no (next_job h)) (piece_list (number ∷ more))))
      (said_flies (page_limit s) h (answers.Job (job_no (next_job h)) (piece_list (number ∷ more))))
      (subst (AllByRecursion (IsFlyable (page_limit s) h)) is (chosen_fly s h))) refl)
  further_on answer (by_compaction file may is e) =
      subst (λ (one : Answer). AreListable s (said h one)) (sym e)
      (started (compaction s h file) (kept s h file)
      (started_flies s h (kept s h file) (said h (compaction s h file)) (said_flies (page_limit s) h (compaction s h file))
      (kept_fly s h file (movable_fly s h file is before.files))) refl)

pub all_listable : (s : Session) (h : History) → IsCaused s h → AreListable s h
all_listable s start caused = record { job = tt; files = tt }
all_listable s (heard h event answer) caused =
    let before = all_listable s h caused.1 in
    let own = own_case s h event (answer ∷ caused.0.rest) caused.0.own in
    record {
      job = unstarted_flies s h (heard h event answer) (heard_flies (page_limit s) h event answer) answer
          (heard_start s h event answer caused.0.rest own) before.job;
      files = heard_files s h before event answer caused.0.rest own;
    }
all_listable s (refused h event why) caused = let before = all_listable s h caused.2 in record { job = before.job; files = before.files }
all_listable s (said h answer) caused = further_on s h (all_listable s h caused.1) answer caused.0
