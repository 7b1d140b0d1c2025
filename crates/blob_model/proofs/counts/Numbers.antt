-- Job and page numbers of legal transcripts are low.
use Rattle.std.proofs.Common.{◌≡◌, ℕ, ◌+◌, ◌≤◌, ◌==◌, Bool, true, false, List, [], ◌∷◌, ◌++◌, length, refl, ap, subst, sym, ◌∙◌, inl, inr, ⊎_elim, arith, Option, Some, None}
use Rattle.std.specs.Prelude.{cond, is_none, slice_get}
use Rattle.std.specs.List.{list_any}
use Rattle.std.proofs.lemmas.Bool.{and_parts, eqb-true, eq-eqb}
use Rattle.blob_words.specs.declared.number.RendererId.{RendererId}
use Rattle.blob_words.specs.declared.number.JobNo.{JobNo}
use Rattle.blob_words.specs.declared.plan.Plan.{Plan}
use Rattle.blob_words.specs.declared.plan.Plan.TheVariants as plans
use Rattle.session_script.specs.declared.event.Event.{Event}
use Rattle.session_script.specs.declared.event.Event.TheVariants as events
use Rattle.answer_text.specs.declared.answer.Answer.{Answer}
use Rattle.answer_text.specs.declared.answer.Answer.TheVariants as answers
use Rattle.blob_model.specs.Session.{Session, page_limit}
use Rattle.blob_model.specs.History.{History, start, heard, refused, said}
use Rattle.blob_model.specs.Transport.{Arrival, arrivals, has_come}
use Rattle.blob_model.specs.Pieces.{Piece, pieces, pieces_of}
use Rattle.blob_model.specs.Pages.{pages, next_page, next_page_after}
use Rattle.blob_model.specs.Jobs.{Job, in_flight, in_flight_after, without_job, next_job, next_job_after, paging}
use Rattle.blob_model.specs.Tally.{job_left}
use Rattle.blob_model.specs.Choice.{IsOneOf}
use Rattle.blob_model.specs.Settle.{may_start}
use Rattle.blob_model.specs.Refusals.{refusal}
use Rattle.blob_model.specs.Own.{plan_in, piece_at, job_done, job_failed, source_of}
use Rattle.blob_model.proofs.Lists.{AreApart, any_append_second, false_true, few_below, is_among, or_cases, or_first}
use Rattle.blob_model.proofs.kept.NewBlobs.{tests_fail}
use Rattle.blob_model.proofs.builds.PieceNumbers.{FoundIn}
use Rattle.blob_model.proofs.disk.Stock.{flying, HasCome}
use Rattle.blob_model.proofs.legal.PageNumbers.{same_first}
use Rattle.blob_model.proofs.legal.Causes.{is_idle, is_reply, OwnCase, idle, breaks, stores, unstores, replies, loses, own_case, IsFurther, by_store, by_unstore, by_drop, by_break, by_done, by_removal, by_grant, by_page_job, by_compaction, IsHeard, IsCaused}
use Rattle.blob_model.proofs.legal.Totals.{totals_hold}
use Rattle.blob_model.proofs.bytes.Arrivals.{Grown, grown_heard, grown_said}
use Rattle.blob_model.proofs.bytes.Written.{came_stays, listed_there}
use Rattle.blob_model.proofs.counts.Counts.{piece_low, is_paged, starts, starts_after, sources, sources_after, firsts, found_stays}
use Rattle.blob_model.proofs.counts.Groups.{counts_caused, StoredPiece, stored_piece, came_once, flying_job, ends_flight}

-- ---- how many answers of a kind

-- writes of segments, and ends of jobs that take a page number
abbrev stores_after : Answer → ℕ → ℕ
stores_after (answers.Stored file piece) before = before + 1
stores_after (answers.StoreFailed file) before = before + 1
stores_after answer before = before

abbrev ends_after : Answer → ℕ → ℕ
ends_after (answers.Paged job file list) before = before + 1
ends_after (answers.PageFailed job file) before = before + 1
ends_after (answers.Moved job file list) before = before + 1
ends_after (answers.MoveFailed job file) before = before + 1
ends_after answer before = before

abbrev stored : History → ℕ
stored start = 0
stored (heard h event answer) = stores_after answer (stored h)
stored (refused h event why) = stored h
stored (said h answer) = stores_after answer (stored h)

abbrev ended_jobs : History → ℕ
ended_jobs start = 0
ended_jobs (heard h event answer) = ends_after answer (ended_jobs h)
ended_jobs (refused h event why) = ended_jobs h
ended_jobs (said h answer) = ends_after answer (ended_jobs h)

both_after : (answer : Answer) (x y z : ℕ) → z ≡ x + y → next_page_after answer z ≡ stores_after answer x + ends_after answer y
both_after (answers.Stored file piece) x y z e = omega (arith, e)
both_after (answers.StoreFailed file) x y z e = omega (arith, e)
both_after (answers.Paged job file list) x y z e = omega (arith, e)
both_after (answers.PageFailed job file) x y z e = omega (arith, e)
both_after (answers.Moved job file list) x y z e = omega (arith, e)
both_after (answers.MoveFailed job file) x y z e = omega (arith, e)
both_after answer x y z e = e

pages_are_both : (h : History) → next_page h ≡ stored h + ended_jobs h
pages_are_both start = omega arith
pages_are_both (heard h event answer) = both_after answer (stored h) (ended_jobs h) (next_page h) (pages_are_both h)
pages_are_both (refused h event why) = pages_are_both h
pages_are_both (said h answer) = both_after answer (stored h) (ended_jobs h) (next_page h) (pages_are_both h)

-- ---- a line's first answer

-- it starts no job, stores no segment, and ends a job at most
record FirstKeeps (h : History) (answer : Answer) : Type 0 where
  jobs_same : (n : ℕ) → next_job_after answer n ≡ n
  starts_same : (list : List ℕ) → starts_after answer list ≡ list
  sources_same : (list : List ℕ) → sources_after answer list ≡ list
  stores_same : (n : ℕ) → stores_after answer n ≡ n

idle_keeps : (h : History) (answer : Answer) → is_idle answer ≡ true → FirstKeeps h answer
idle_keeps h (answers.Stored file piece) e = absurd (false_true e)
idle_keeps h (answers.StoreFailed file) e = absurd (false_true e)
idle_keeps h (answers.Job job list) e = absurd (false_true e)
idle_keeps h (answers.Compacting job file list) e = absurd (false_true e)
idle_keeps h answer e = record { jobs_same = λ n. refl; starts_same = λ list. refl; sources_same = λ list. refl; stores_same = λ n. refl }

reply_keeps : (h : History) (answer : Answer) → is_reply answer ≡ true → FirstKeeps h answer
reply_keeps h (answers.Stored file piece) e = absurd (false_true e)
reply_keeps h (answers.StoreFailed file) e = absurd (false_true e)
reply_keeps h (answers.Job job list) e = absurd (false_true e)
reply_keeps h (answers.Compacting job file list) e = absurd (false_true e)
reply_keeps h answer e = record { jobs_same = λ n. refl; starts_same = λ list. refl; sources_same = λ list. refl; stores_same = λ n. refl }

first_keeps : (s : Session) (h : History) (event : Event) (answer : Answer) (rest : List Answer) → OwnCase s h event (answer ∷ rest) → FirstKeeps h answer
first_keeps s h event answer rest (idle one e free) = subst (FirstKeeps h) (sym (same_first answer one rest [] e)) (idle_keeps h one free)
first_keeps s h event answer rest (breaks b status broken building e) =
    subst (FirstKeeps h) (sym (same_first answer (answers.Broken b status) rest [] e))
    (record { jobs_same = λ n. refl; starts_same = λ list. refl; sources_same = λ list. refl; stores_same = λ n. refl })
first_keeps s h event answer rest (stores renderer b segment bytes n same at e) =
    subst (FirstKeeps h) (sym (same_first answer (answers.Taken segment) rest _ e))
    (record { jobs_same = λ n. refl; starts_same = λ list. refl; sources_same = λ list. refl; stores_same = λ n. refl })
first_keeps s h event answer rest (unstores renderer b segment bytes n same at e) =
    subst (FirstKeeps h) (sym (same_first answer (answers.Taken segment) rest _ e))
    (record { jobs_same = λ n. refl; starts_same = λ list. refl; sources_same = λ list. refl; stores_same = λ n. refl })
first_keeps s h event answer rest (replies job one same e reply done) = subst (FirstKeeps h) (sym (same_first answer one rest [] e)) (reply_keeps h one reply)
first_keeps s h event answer rest (loses job same e) =
    subst (FirstKeeps h) (sym (same_first answer (answers.LostJob job) rest [] e))
    (record { jobs_same = λ n. refl; starts_same = λ list. refl; sources_same = λ list. refl; stores_same = λ n. refl })

-- ---- jobs are page jobs and moves

abbrev AsJobs : Answer → ℕ → List ℕ → List ℕ → Type 0
AsJobs answer n first moved = next_job_after answer n ≡ length (starts_after answer first) + length (sources_after answer moved)

jobs_said : (s : Session) (h : History) (answer : Answer) → IsFurther s h answer → next_job h ≡ length (starts h) + length (sources h)
    → AsJobs answer (next_job h) (starts h) (sources h)
jobs_said s h answer (by_store g renderer b segment bytes n same passes at e) before = subst (λ (a : Answer). AsJobs a (next_job h) (starts h) (sources h))
    (sym e) before
jobs_said s h answer (by_unstore g renderer b segment bytes n same passes at e) before = subst (λ (a : Answer). AsJobs a (next_job h) (starts h) (sources h))
    (sym e) before
jobs_said s h answer (by_drop build found begun unrooted e) before = subst (λ (a : Answer). AsJobs a (next_job h) (starts h) (sources h)) (sym e) before
jobs_said s h answer (by_break build found begun status broken e) before = subst (λ (a : Answer). AsJobs a (next_job h) (starts h) (sources h)) (sym e) before
jobs_said s h answer (by_done build found begun complete e) before = subst (λ (a : Answer). AsJobs a (next_job h) (starts h) (sources h)) (sym e) before
jobs_said s h answer (by_removal number written left (inl e)) before = subst (λ (a : Answer). AsJobs a (next_job h) (starts h) (sources h)) (sym e) before
jobs_said s h answer (by_removal number written left (inr e)) before = subst (λ (a : Answer). AsJobs a (next_job h) (starts h) (sources h)) (sym e) before
jobs_said s h answer (by_grant build found e) before = subst (λ (a : Answer). AsJobs a (next_job h) (starts h) (sources h)) (sym e) before
jobs_said s h answer (by_page_job number more may at e) before = subst (λ (a : Answer). AsJobs a (next_job h) (starts h) (sources h)) (sym e)
    (omega (arith, before))
jobs_said s h answer (by_compaction file may found e) before = subst (λ (a : Answer). AsJobs a (next_job h) (starts h) (sources h)) (sym e)
    (omega (arith, before))

jobs_are_both : (s : Session) (h : History) → IsCaused s h → next_job h ≡ length (starts h) + length (sources h)
jobs_are_both s start caused = omega arith
jobs_are_both s (heard h event answer) caused =
    let keeps = first_keeps s h event answer caused.0.rest (own_case s h event (answer ∷ caused.0.rest) caused.0.own) in
    keeps.jobs_same (next_job h) ∙ jobs_are_both s h caused.1 ∙ (λ i. length (sym (keeps.starts_same (starts h)) i) + length
    (sym (keeps.sources_same (sources h)) i))
jobs_are_both s (refused h event why) caused = jobs_are_both s h caused.2
jobs_are_both s (said h answer) caused = jobs_said s h answer caused.0 (jobs_are_both s h caused.1)

pub jobs_low : (s : Session) (h : History) → IsCaused s h → next_job h ≤ 131072
jobs_low s h caused =
    let counts = counts_caused s h caused in
    let totals = totals_hold s h caused in
    let most = totals.all_pieces in
    let both_kinds = jobs_are_both s h caused in
    let page_jobs = few_below (starts h) (length (pieces (page_limit s) h)) counts.starts_apart (λ n e. let one = counts.starts_there n e in
    piece_low s h n (one.0) one.1) in
    let first_writes = few_below (firsts h) (length (pieces (page_limit s) h)) counts.firsts_apart
    (λ n e.
    let one = listed_there s h caused n (or_first (is_paged (pages h) n) (list_any (λ (each : ℕ). each == n) (flying h)) (counts.firsts_paged n e)) in
    piece_low s h n one.piece one.found) in
    let less = counts.less in
    omega (arith, most, both_kinds, page_jobs, first_writes, less)

-- ---- each job ends once

abbrev busy : Option Job → ℕ
busy None = 0
busy (Some job) = 1

-- jobs that ended with a page number, and the one in flight
abbrev Ends : Answer → ℕ → Option Job → ℕ → Type 0
Ends answer n job most = ends_after answer n + busy (in_flight_after answer job) ≤ most

idle_flies : (answer : Answer) (n : ℕ) (job : Option Job) (most : ℕ) → is_idle answer ≡ true → n + busy job ≤ most → Ends answer n job most
idle_flies (answers.Paged job file list) n now most e low = absurd (false_true e)
idle_flies (answers.Empty job) n now most e low = absurd (false_true e)
idle_flies (answers.PageFailed job file) n now most e low = absurd (false_true e)
idle_flies (answers.Moved job file list) n now most e low = absurd (false_true e)
idle_flies (answers.MoveFailed job file) n now most e low = absurd (false_true e)
idle_flies (answers.MoveUnread job file) n now most e low = absurd (false_true e)
idle_flies (answers.LostJob job) n now most e low = absurd (false_true e)
idle_flies (answers.Job job list) n now most e low = absurd (false_true e)
idle_flies (answers.Compacting job file list) n now most e low = absurd (false_true e)
idle_flies answer n now most e low = low

-- the job of the line is over
over_now : (h : History) (job : JobNo) (one : Job) → in_flight h ≡ Some one → (one.number == job.0) ≡ true → (busy (without_job job.0 (in_flight h)) ≡ 0)
    × (busy (in_flight h) ≡ 1)
over_now h job one at here = (ap busy (ap (without_job job.0) at ∙ ends_flight job one here), ap busy at)

reply_flies : (h : History) (job : JobNo) (one : Job) (source : Option ℕ) (list : List ℕ) (answer : Answer) (rest : List Answer) (n most : ℕ) → in_flight h
    ≡ Some one → (one.number == job.0) ≡ true
    → IsOneOf (answer ∷ rest) ((job_done h job source list ∷ []) ∷ job_failed h job source list) → n + busy (in_flight h) ≤ most → Ends answer n (in_flight h)
    most
reply_flies h job one source [] answer rest n most at here (inl e) low =
    let ends = over_now h job one at here in
    let none = ends.0 in
    subst (λ (a : Answer). Ends a n (in_flight h) most) (sym (same_first answer (answers.Empty job) rest [] e)) (omega (arith, none, low))
reply_flies h job one source [] answer rest n most at here (inr never) low = absurd never
reply_flies h job one None (number ∷ numbers) answer rest n most at here (inl e) low =
    let ends = over_now h job one at here in
    let none = ends.0 in
    let was = ends.1 in
    subst (λ (a : Answer). Ends a n (in_flight h) most) (sym (same_first answer _ rest [] e)) (omega (arith, none, was, low))
reply_flies h job one None (number ∷ numbers) answer rest n most at here (inr (inl e)) low =
    let ends = over_now h job one at here in
    let none = ends.0 in
    let was = ends.1 in
    subst (λ (a : Answer). Ends a n (in_flight h) most) (sym (same_first answer _ rest [] e)) (omega (arith, none, was, low))
reply_flies h job one None (number ∷ numbers) answer rest n most at here (inr (inr never)) low = absurd never
reply_flies h job one (Some file) (number ∷ numbers) answer rest n most at here (inl e) low =
    let ends = over_now h job one at here in
    let none = ends.0 in
    let was = ends.1 in
    subst (λ (a : Answer). Ends a n (in_flight h) most) (sym (same_first answer _ rest [] e)) (omega (arith, none, was, low))
reply_flies h job one (Some file) (number ∷ numbers) answer rest n most at here (inr (inl e)) low =
    let ends = over_now h job one at here in
    let none = ends.0 in
    let was = ends.1 in
    subst (λ (a : Answer). Ends a n (in_flight h) most) (sym (same_first answer _ rest [] e)) (omega (arith, none, was, low))
reply_flies h job one (Some file) (number ∷ numbers) answer rest n most at here (inr (inr (inl e))) low =
    let ends = over_now h job one at here in
    let none = ends.0 in
    let was = ends.1 in
    subst (λ (a : Answer). Ends a n (in_flight h) most) (sym (same_first answer _ rest [] e)) (omega (arith, none, was, low))
reply_flies h job one (Some file) (number ∷ numbers) answer rest n most at here (inr (inr (inr never))) low = absurd never

first_flies : (s : Session) (h : History) (event : Event) (answer : Answer) → (line : IsHeard s h event answer) → (n most : ℕ)
    → OwnCase s h event (answer ∷ line.rest) → n + busy (in_flight h) ≤ most → Ends answer n (in_flight h) most
first_flies s h event answer line n most (idle one e free) low = subst (λ (a : Answer). Ends a n (in_flight h) most)
    (sym (same_first answer one line.rest [] e)) (idle_flies one n (in_flight h) most free low)
first_flies s h event answer line n most (breaks b status broken building e) low = subst (λ (a : Answer). Ends a n (in_flight h) most)
    (sym (same_first answer (answers.Broken b status) line.rest [] e)) low
first_flies s h event answer line n most (stores renderer b segment bytes k same at e) low = subst (λ (a : Answer). Ends a n (in_flight h) most)
    (sym (same_first answer (answers.Taken segment) line.rest _ e)) low
first_flies s h event answer line n most (unstores renderer b segment bytes k same at e) low = subst (λ (a : Answer). Ends a n (in_flight h) most)
    (sym (same_first answer (answers.Taken segment) line.rest _ e)) low
first_flies s h event answer line n most (replies job first same e reply done) low =
    let passes : refusal s h (events.Disk job) ≡ None = subst (λ (each : Event). refusal s h each ≡ None) same line.passes in
    let one = flying_job h job (tests_fail s h (events.Disk job) passes).0 in
    reply_flies h job (one.0) (source_of (in_flight h)) (job_left (page_limit s) h) answer line.rest n most one.1 one.2 done low
first_flies s h event answer line n most (loses job same e) low =
    let passes : refusal s h (events.Lost job) ≡ None = subst (λ (each : Event). refusal s h each ≡ None) same line.passes in
    let one = flying_job h job (tests_fail s h (events.Lost job) passes).0 in
    let ends = over_now h job (one.0) one.1 one.2 in
    let none = ends.0 in
    subst (λ (a : Answer). Ends a n (in_flight h) most) (sym (same_first answer (answers.LostJob job) line.rest [] e)) (omega (arith, none, low))

abbrev EndsFew : Answer → History → Type 0
EndsFew answer h = ends_after answer (ended_jobs h) + busy (in_flight_after answer (in_flight h)) ≤ next_job_after answer (next_job h)

nobody_flies : (h : History) → may_start h ≡ true → busy (in_flight h) ≡ 0
nobody_flies h may = go (in_flight h) (and_parts (paging h) (is_none (in_flight h)) may).1
  where
    go : (job : Option Job) → is_none job ≡ true → busy job ≡ 0
    go None e = refl
    go (Some job) e = absurd (false_true e)

second_flies : (s : Session) (h : History) (answer : Answer) → IsFurther s h answer → ended_jobs h + busy (in_flight h) ≤ next_job h → EndsFew answer h
second_flies s h answer (by_store g renderer b segment bytes n same passes at e) low = subst (λ (a : Answer). EndsFew a h) (sym e) low
second_flies s h answer (by_unstore g renderer b segment bytes n same passes at e) low = subst (λ (a : Answer). EndsFew a h) (sym e) low
second_flies s h answer (by_drop build found begun unrooted e) low = subst (λ (a : Answer). EndsFew a h) (sym e) low
second_flies s h answer (by_break build found begun status broken e) low = subst (λ (a : Answer). EndsFew a h) (sym e) low
second_flies s h answer (by_done build found begun complete e) low = subst (λ (a : Answer). EndsFew a h) (sym e) low
second_flies s h answer (by_removal number written left (inl e)) low = subst (λ (a : Answer). EndsFew a h) (sym e) low
second_flies s h answer (by_removal number written left (inr e)) low = subst (λ (a : Answer). EndsFew a h) (sym e) low
second_flies s h answer (by_grant build found e) low = subst (λ (a : Answer). EndsFew a h) (sym e) low
second_flies s h answer (by_page_job number more may at e) low = let none = nobody_flies h may in
    subst (λ (a : Answer). EndsFew a h) (sym e) (omega (arith, none, low))
second_flies s h answer (by_compaction file may found e) low = let none = nobody_flies h may in
    subst (λ (a : Answer). EndsFew a h) (sym e) (omega (arith, none, low))

ends_few : (s : Session) (h : History) → IsCaused s h → ended_jobs h + busy (in_flight h) ≤ next_job h
ends_few s start caused = omega arith
ends_few s (heard h event answer) caused =
    let which = own_case s h event (answer ∷ caused.0.rest) caused.0.own in
    let keeps = first_keeps s h event answer caused.0.rest which in
    let few = first_flies s h event answer caused.0 (ended_jobs h) (next_job h) which (ends_few s h caused.1) in
    let same = keeps.jobs_same (next_job h) in
    omega (arith, few, same)
ends_few s (refused h event why) caused = ends_few s h caused.2
ends_few s (said h answer) caused = second_flies s h answer caused.0 (ends_few s h caused.1)

-- ---- a segment is stored once

-- the pieces that segments of file plans brought
abbrev brought_after : Option Plan → ℕ → List ℕ → List ℕ
brought_after (Some (plans.File n)) piece before = piece ∷ before
brought_after plan piece before = before

abbrev segment_after : Session → History → Event → List ℕ → List ℕ
segment_after s h (events.Segment renderer b segment bytes) before = brought_after (plan_in s h b) (piece_at s h b segment) before
segment_after s h event before = before

abbrev brought : Session → History → List ℕ
brought s start = []
brought s (heard h event answer) = segment_after s h event (brought s h)
brought s (refused h event why) = brought s h
brought s (said h answer) = brought s h

-- whether the last step brought one
abbrev pending : Session → History → ℕ
pending s (heard h event answer) = length (segment_after s h event [])
pending s h = 0

segment_grows : (s : Session) (h : History) (event : Event) (before : List ℕ) → length (segment_after s h event before) ≡ length before + length
    (segment_after s h event [])
segment_grows s h (events.Segment renderer b segment bytes) before = go (plan_in s h b)
  where
    go : (plan : Option Plan) → length (brought_after plan (piece_at s h b segment) before) ≡ length before + length
        (brought_after plan (piece_at s h b segment) [])
    go (Some (plans.File n)) = omega arith
    go None = omega arith
    go (Some plans.None) = omega arith
    go (Some plans.Inline) = omega arith
    go (Some (plans.Shared n)) = omega arith
    go (Some plans.OutOfMemory) = omega arith
    go (Some (plans.TooMany what)) = omega arith
segment_grows s h event before = omega arith

abbrev StoresFew : Session → Answer → History → Type 0
StoresFew s answer h = stores_after answer (stored h) ≤ length (brought s h)

pending_one : (s : Session) (g : History) (renderer : RendererId) (b segment : ℕ) (bytes : List ℕ) (n : ℕ) (first : Answer) → plan_in s g b
    ≡ Some (plans.File n) → pending s (heard g (events.Segment renderer b segment bytes) first) ≡ 1
pending_one s g renderer b segment bytes n first at = ap (λ (plan : Option Plan). length (brought_after plan (piece_at s g b segment) [])) at

second_stores : (s : Session) (h : History) (answer : Answer) → IsFurther s h answer → stored h + pending s h ≤ length (brought s h) → StoresFew s answer h
second_stores s h answer (by_store g renderer b segment bytes n same passes at e) low =
    let one : pending s h ≡ 1 = ap (pending s) same ∙ pending_one s g renderer b segment bytes n (answers.Taken segment) at in
    subst (λ (a : Answer). StoresFew s a h) (sym e) (omega (arith, low, one))
second_stores s h answer (by_unstore g renderer b segment bytes n same passes at e) low =
    let one : pending s h ≡ 1 = ap (pending s) same ∙ pending_one s g renderer b segment bytes n (answers.Taken segment) at in
    subst (λ (a : Answer). StoresFew s a h) (sym e) (omega (arith, low, one))
second_stores s h answer (by_drop build found begun unrooted e) low = subst (λ (a : Answer). StoresFew s a h) (sym e) (omega (arith, low))
second_stores s h answer (by_break build found begun status broken e) low = subst (λ (a : Answer). StoresFew s a h) (sym e) (omega (arith, low))
second_stores s h answer (by_done build found begun complete e) low = subst (λ (a : Answer). StoresFew s a h) (sym e) (omega (arith, low))
second_stores s h answer (by_removal number written left (inl e)) low = subst (λ (a : Answer). StoresFew s a h) (sym e) (omega (arith, low))
second_stores s h answer (by_removal number written left (inr e)) low = subst (λ (a : Answer). StoresFew s a h) (sym e) (omega (arith, low))
second_stores s h answer (by_grant build found e) low = subst (λ (a : Answer). StoresFew s a h) (sym e) (omega (arith, low))
second_stores s h answer (by_page_job number more may at e) low = subst (λ (a : Answer). StoresFew s a h) (sym e) (omega (arith, low))
second_stores s h answer (by_compaction file may found e) low = subst (λ (a : Answer). StoresFew s a h) (sym e) (omega (arith, low))

stores_few : (s : Session) (h : History) → IsCaused s h → stored h + pending s h ≤ length (brought s h)
stores_few s start caused = omega arith
stores_few s (heard h event answer) caused =
    let keeps = first_keeps s h event answer caused.0.rest (own_case s h event (answer ∷ caused.0.rest) caused.0.own) in
    let same = keeps.stores_same (stored h) in
    let before = stores_few s h caused.1 in
    let more = segment_grows s h event (brought s h) in
    omega (arith, same, before, more)
stores_few s (refused h event why) caused = let before = stores_few s h caused.2 in omega (arith, before)
stores_few s (said h answer) caused = let few = second_stores s h answer caused.0 (stores_few s h caused.1) in omega (arith, few)

-- the pieces that were brought differ, and their segments came
abbrev CameWith : Session → History → ℕ → Type 0
CameWith s h n = (piece : Piece) × FoundIn (pieces (page_limit s) h) n piece × HasCome s h piece

record Brings (s : Session) (h : History) (list : List ℕ) : Type 0 where
  apart : AreApart list
  came : (n : ℕ) → is_among n list ≡ true → CameWith s h n

brings_on : (s : Session) (h g : History) (list : List ℕ) → Grown s h g → Brings s h list → Brings s g list
brings_on s h g list grown before = record {
  apart = before.apart;
  came =
      λ n e.
      let one = before.came n e in
      (one.0, found_stays s h g n (one.0) grown one.1, came_stays s h g (one.0) grown one.2);
}

brings_more : (s : Session) (h : History) (event : Event) (answer : Answer) → refusal s h event ≡ None → Brings s h (brought s h)
    → Brings s (heard h event answer) (segment_after s h event (brought s h))
brings_more s h (events.Segment renderer b segment bytes) answer passes before = go (plan_in s h b) refl
  where
    event : Event
    event = events.Segment renderer b segment bytes

    next : Brings s (heard h (events.Segment renderer b segment bytes) answer) (brought s h)
    next = brings_on s h (heard h (events.Segment renderer b segment bytes) answer) (brought s h)
        (grown_heard s h (events.Segment renderer b segment bytes) answer) before

    has_now : has_come (arrivals (heard h (events.Segment renderer b segment bytes) answer) b) segment ≡ true
    has_now =
        (λ i. has_come (cond (eq-eqb b b refl i) (arrivals h b ++ record { segment = segment; bytes = bytes } ∷ []) (arrivals h b)) segment)
        ∙ any_append_second (λ (arrival : Arrival). arrival.segment == segment) (arrivals h b) (record { segment = segment; bytes = bytes } ∷ [])
        (or_first (segment == segment) false (eq-eqb segment segment refl))

    filed : (n : ℕ) → plan_in s h b ≡ Some (plans.File n) → Brings s (heard h (events.Segment renderer b segment bytes) answer)
        (piece_at s h b segment ∷ brought s h)
    filed n at =
        let one = stored_piece s h renderer b segment bytes n passes at in
        subst (λ (m : ℕ). Brings s (heard h (events.Segment renderer b segment bytes) answer) (m ∷ brought s h)) (sym one.number)
        (record {
          apart = (fresh one (is_among one.piece.number (brought s h)) refl, next.apart);
          came =
              λ m e.
              ⊎_elim
              (λ (here : (one.piece.number == m) ≡ true).
              subst (CameWith s (heard h (events.Segment renderer b segment bytes) answer)) (eqb-true one.piece.number m here) (
                one.piece,
                one.found,
                (
                  segment,
                  subst (λ (name : ℕ). slice_get (pieces_of (page_limit s) h name) segment ≡ Some one.piece) (sym one.of_b) one.place,
                  subst (λ (name : ℕ). has_come (arrivals (heard h (events.Segment renderer b segment bytes) answer) name) segment ≡ true) (sym one.of_b)
                      has_now,
                ),
              ))
              (λ (old : is_among m (brought s h) ≡ true). next.came m old) (or_cases (one.piece.number == m) (is_among m (brought s h)) e);
        })
      where
        fresh : (one : StoredPiece s h b segment) (c : Bool) → is_among one.piece.number (brought s h) ≡ c → is_among one.piece.number (brought s h) ≡ false
        fresh one false e = e
        fresh one true e = let other = before.came one.piece.number e in absurd (came_once s h b segment one (other.0) other.1 other.2)

    go : (plan : Option Plan) → plan_in s h b ≡ plan → Brings s (heard h (events.Segment renderer b segment bytes) answer)
        (brought_after plan (piece_at s h b segment) (brought s h))
    go (Some (plans.File n)) at = filed n at
    go None at = next
    go (Some plans.None) at = next
    go (Some plans.Inline) at = next
    go (Some (plans.Shared n)) at = next
    go (Some plans.OutOfMemory) at = next
    go (Some (plans.TooMany what)) at = next
brings_more s h event answer passes before = brings_on s h (heard h event answer) (brought s h) (grown_heard s h event answer) before

brings : (s : Session) (h : History) → IsCaused s h → Brings s h (brought s h)
brings s start caused = record { apart = tt; came = λ n e. absurd (false_true e) }
brings s (heard h event answer) caused = brings_more s h event answer caused.0.passes (brings s h caused.1)
brings s (refused h event why) caused = let before = brings s h caused.2 in record { apart = before.apart; came = before.came }
brings s (said h answer) caused = brings_on s h (said h answer) (brought s h) (grown_said s h answer) (brings s h caused.1)

pub pages_low : (s : Session) (h : History) → IsCaused s h → next_page h ≤ 196608
pages_low s h caused =
    let one = brings s h caused in
    let few = few_below (brought s h) (length (pieces (page_limit s) h)) one.apart (λ n e. let there = one.came n e in piece_low s h n (there.0) there.1) in
    let totals = totals_hold s h caused in
    let most = totals.all_pieces in
    let segments = stores_few s h caused in
    let ends = ends_few s h caused in
    let jobs = jobs_low s h caused in
    let both_kinds = pages_are_both h in
    omega (arith, few, most, segments, ends, jobs, both_kinds)
