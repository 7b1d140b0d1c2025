-- In a legal transcript the counts of jobs and page files hold at each step, and so there are few of both.
use Rattle.std.proofs.Common.{◌≡◌, ◌⊎◌, ℕ, ◌+◌, ◌-◌, ◌<◌, ◌*◌, ◌==◌, Bool, true, false, not, List, [], ◌∷◌, ◌++◌, reverse, length, refl, ap, subst, sym, ◌∙◌, inl, inr, ⊎_elim, arith, Option, Some, None, append-nil}
use Rattle.std.specs.Prelude.{cond, is_none, min, nat_lt, nat_le, sum_by, slice_get, if◌then◌else◌}
use Rattle.std.specs.Option.{option_map_or}
use Rattle.std.specs.List.{AllByRecursion, list_any}
use Rattle.std.proofs.lemmas.Bool.{and_parts, eqb-true, ne_eqb, ltb-true, leb-false}
use Rattle.blob_words.specs.declared.number.RendererId.{RendererId}
use Rattle.blob_words.specs.declared.number.JobNo.{JobNo}
use Rattle.blob_words.specs.declared.plan.Plan.{Plan}
use Rattle.blob_words.specs.declared.plan.Plan.TheVariants as plans
use Rattle.session_script.specs.declared.event.Event.{Event}
use Rattle.session_script.specs.declared.event.Event.TheVariants as events
use Rattle.answer_text.specs.declared.answer.Answer.{Answer}
use Rattle.answer_text.specs.declared.answer.Answer.TheVariants as answers
use Rattle.answer_text.specs.declared.refusal.Refusal.{Refusal}
use Rattle.blob_model.specs.Session.{Session, page_limit}
use Rattle.blob_model.specs.History.{History, start, heard, refused, said}
use Rattle.transport_plan.specs.Spans.{segment_spans}
use Rattle.blob_model.specs.Parts.{own_lengths}
use Rattle.blob_model.specs.Builds.{Build, builds, build_in}
use Rattle.blob_model.specs.Transport.{spans, arrivals, has_come}
use Rattle.blob_model.specs.Pieces.{Piece, pieces, pieces_of, spans_of, planned_spans, length_in}
use Rattle.blob_model.specs.Reached.{live_cells, is_granted_piece, owns_some, reached}
use Rattle.blob_model.specs.Pages.{Page, Place, in_memory, reserved, numbers, pages, pages_after, page_with, lists, next_page, place_by, place_in, unlisted_place, planned_place, is_memory, is_reserved, is_page, page_size}
use Rattle.blob_model.specs.Jobs.{Job, in_flight, in_flight_after, without_job, next_job, paging, turns_off}
use Rattle.blob_model.specs.Tally.{job_left, job_left_of, in_page_of, bytes_of, files, is_thin, memory, disk}
use Rattle.blob_model.specs.Waits.{waits}
use Rattle.blob_model.specs.Victims.{pageable, last_uses, chosen, head_bytes}
use Rattle.blob_model.specs.Order.{named}
use Rattle.blob_model.specs.Choice.{IsOneOf}
use Rattle.blob_model.specs.Settle.{piece_list, page_no, job_no, may_start, can_move, movable, kept, compaction}
use Rattle.blob_model.specs.Refusals.{refusal, segment_refusals}
use Rattle.blob_model.specs.Own.{plan_in, piece_at, piece_no, job_done, job_failed, source_of}
use Rattle.blob_model.proofs.Lists.{AreApart, PartOf, all_numbered, all_reverse, among_filter, both, each_any, false_true, filter_all, filter_has, for_each, found_all, found_filter, found_some, found_true, get_all, get_there, is_among, keeps_or_fewer, not_false, or_first, or_second, part_apart, part_filter, some_first}
use Rattle.blob_model.proofs.kept.NewBlobs.{tests_fail}
use Rattle.blob_model.proofs.memory.Builds.{pieces_named}
use Rattle.blob_model.proofs.builds.PieceNumbers.{FoundIn, found_number, part_victims, length_found, pieces_numbered}
use Rattle.blob_model.proofs.disk.Stock.{flying_of, flying, is_listed, is_filed, HasCome}
use Rattle.blob_model.proofs.disk.Victims.{apart_sum, StandsFor}
use Rattle.blob_model.proofs.disk.Uses.{uses_apart}
use Rattle.blob_model.proofs.disk.Settling.{numbers_list}
use Rattle.blob_model.proofs.disk.Segments.{one_place, filter_rising, numbered_rising, spans_within}
use Rattle.blob_model.proofs.disk.Jobs.{all_pieces, has_piece, is_reached}
use Rattle.blob_model.proofs.legal.PageNumbers.{same_first, pages_rise}
use Rattle.blob_model.proofs.legal.Steps.{rising_apart}
use Rattle.blob_model.proofs.legal.Causes.{was_written, is_idle, OwnCase, idle, breaks, stores, unstores, replies, loses, own_case, IsFurther, by_store, by_unstore, by_drop, by_break, by_done, by_removal, by_grant, by_page_job, by_compaction, IsHeard, IsCaused, AreApartPages}
use Rattle.blob_model.proofs.bytes.Arrivals.{grown_heard, grown_said}
use Rattle.blob_model.proofs.bytes.Written.{HasPiece, IsOfDone, chosen_stand, listed_there}
use Rattle.blob_model.proofs.live.Unreached.{falls_heard, falls_said}
use Rattle.blob_model.proofs.counts.Counts.{is_paged, has_place, starts, starts_after, sources, sources_after, firsts, firsts_after, IsDead, IsEmptied, Counts, IsStill, counts_still}
use Rattle.blob_model.proofs.counts.Steps.{written_low, none_paged, same_pages, counts_stored, counts_written, counts_ended, counts_started, counts_moving}

-- ---- steady answers

-- answers that write no page file and start and end no job
abbrev pub is_steady : Answer → Bool
is_steady (answers.Stored file piece) = false
is_steady (answers.Paged job file list) = false
is_steady (answers.Empty job) = false
is_steady (answers.PageFailed job file) = false
is_steady (answers.Moved job file list) = false
is_steady (answers.MoveFailed job file) = false
is_steady (answers.MoveUnread job file) = false
is_steady (answers.LostJob job) = false
is_steady (answers.Job job list) = false
is_steady (answers.Compacting job file list) = false
is_steady answer = true

idle_steady : (answer : Answer) → is_idle answer ≡ true → is_steady answer ≡ true
idle_steady (answers.Stored file piece) e = absurd (false_true e)
idle_steady (answers.Paged job file list) e = absurd (false_true e)
idle_steady (answers.Empty job) e = absurd (false_true e)
idle_steady (answers.PageFailed job file) e = absurd (false_true e)
idle_steady (answers.Moved job file list) e = absurd (false_true e)
idle_steady (answers.MoveFailed job file) e = absurd (false_true e)
idle_steady (answers.MoveUnread job file) e = absurd (false_true e)
idle_steady (answers.LostJob job) e = absurd (false_true e)
idle_steady (answers.Job job list) e = absurd (false_true e)
idle_steady (answers.Compacting job file list) e = absurd (false_true e)
idle_steady answer e = refl

-- what such an answer keeps
record Keeps (answer : Answer) : Type 0 where
  pages_same : (list : List Page) → pages_after answer list ≡ list
  job_same : (job : Option Job) → in_flight_after answer job ≡ job
  stays_on : turns_off answer ≡ false
  starts_same : (list : List ℕ) → starts_after answer list ≡ list
  sources_same : (list : List ℕ) → sources_after answer list ≡ list
  firsts_same : (list : List ℕ) → firsts_after answer list ≡ list

steady_keeps : (answer : Answer) → is_steady answer ≡ true → Keeps answer
steady_keeps (answers.Stored file piece) e = absurd (false_true e)
steady_keeps (answers.Paged job file list) e = absurd (false_true e)
steady_keeps (answers.Empty job) e = absurd (false_true e)
steady_keeps (answers.PageFailed job file) e = absurd (false_true e)
steady_keeps (answers.Moved job file list) e = absurd (false_true e)
steady_keeps (answers.MoveFailed job file) e = absurd (false_true e)
steady_keeps (answers.MoveUnread job file) e = absurd (false_true e)
steady_keeps (answers.LostJob job) e = absurd (false_true e)
steady_keeps (answers.Job job list) e = absurd (false_true e)
steady_keeps (answers.Compacting job file list) e = absurd (false_true e)
steady_keeps answer e = record {
  pages_same = λ list. refl;
  job_same = λ job. refl;
  stays_on = refl;
  starts_same = λ list. refl;
  sources_same = λ list. refl;
  firsts_same = λ list. refl;
}

still_on : (off now : Bool) → (if off then false else now) ≡ true → now ≡ true
still_on true now e = absurd (false_true e)
still_on false now e = e

still_heard : (s : Session) (h : History) (event : Event) (answer : Answer) → is_steady answer ≡ true → IsStill s h (heard h event answer)
still_heard s h event answer e =
    let keeps = steady_keeps answer e in
    record {
      written = keeps.pages_same (pages h);
      flies = keeps.job_same (in_flight h);
      still_on = λ on. still_on (turns_off answer) (paging h) on;
      starts_same = keeps.starts_same (starts h);
      sources_same = keeps.sources_same (sources h);
      firsts_same = keeps.firsts_same (firsts h);
    }

still_said : (s : Session) (h : History) (answer : Answer) → is_steady answer ≡ true → IsStill s h (said h answer)
still_said s h answer e =
    let keeps = steady_keeps answer e in
    record {
      written = keeps.pages_same (pages h);
      flies = keeps.job_same (in_flight h);
      still_on = λ on. on;
      starts_same = keeps.starts_same (starts h);
      sources_same = keeps.sources_same (sources h);
      firsts_same = keeps.firsts_same (firsts h);
    }

-- ---- a piece is live or dead

owns_either : (b : Bool) → (b ≡ true) ⊎ (b ≡ false)
owns_either true = inl refl
owns_either false = inr refl

dead_piece : (s : Session) (h : History) (n : ℕ) (one : HasPiece s h n) → owns_some (live_cells (page_limit s) h) one.piece ≡ false → IsDead s h n
dead_piece s h n one gone = record {
  piece = one.piece;
  found = one.found;
  member =
      found_all (λ (piece : Piece). named piece.blob (builds (page_limit s) h) ≡ true) (λ (piece : Piece). piece.number == n) (pieces (page_limit s) h)
      one.piece (pieces_named (page_limit s) 0 (builds (page_limit s) h)) one.found;
  dead = gone;
}

-- a reached piece isn't dead
not_dead : (s : Session) (h : History) (n : ℕ) (piece : Piece) → FoundIn (pieces (page_limit s) h) n piece → owns_some (live_cells (page_limit s) h) piece
    ≡ true → IsDead s h n → ⊥
not_dead s h n piece found owned one =
    let same : one.piece ≡ piece = (let e = one.found in cc) in
    false_true (sym (subst (λ (each : Piece). owns_some (live_cells (page_limit s) h) each ≡ false) same one.dead) ∙ owned)

-- a listed piece of a job is left in it, or dead
left_or_dead : (s : Session) (h : History) (job : Job) (n : ℕ) → IsCaused s h → in_flight h ≡ Some job → is_among n job.pieces ≡ true
    → (is_among n (job_left (page_limit s) h) ≡ true) ⊎ IsDead s h n
left_or_dead s h job n caused at e =
    let flies : list_any (λ (each : ℕ). each == n) (flying h) ≡ true = ap (λ (o : Option Job). list_any (λ (each : ℕ). each == n) (flying_of o)) at ∙ e in
    let one = listed_there s h caused n (or_second (is_paged (pages h) n) (list_any (λ (each : ℕ). each == n) (flying h)) flies) in
    ⊎_elim
    (λ (owned : owns_some (live_cells (page_limit s) h) one.piece ≡ true).
    let passes : is_reached s h one.piece ≡ true = both (is_granted_piece h (builds (page_limit s) h) one.piece)
    (owns_some (live_cells (page_limit s) h) one.piece) one.granted owned in
    let found = found_filter (λ (piece : Piece). piece.number == n) (is_reached s h) (pieces (page_limit s) h) one.piece one.found passes in
    let here = found_some (λ (piece : Piece). piece.number == n) (reached (page_limit s) h) one.piece found in
    inl (ap (λ (o : Option Job). is_among n (option_map_or (λ (each : Job). job_left_of each (reached (page_limit s) h)) o [])) at
    ∙ among_filter (λ (number : ℕ). list_any (λ (piece : Piece). piece.number == number) (reached (page_limit s) h)) job.pieces n e here))
    (λ (gone : owns_some (live_cells (page_limit s) h) one.piece ≡ false). inr (dead_piece s h n one gone))
    (owns_either (owns_some (live_cells (page_limit s) h) one.piece))

-- ---- the disk's reply

-- the job of the line is in flight
pub flying_job : (h : History) (job : JobNo) → not (option_map_or (λ (one : Job). one.number == job.0) (in_flight h) false) ≡ false → (one : Job)
    × (in_flight h ≡ Some one) × ((one.number == job.0) ≡ true)
flying_job h job test = go (in_flight h) refl test
  where
    go : (found : Option Job) → in_flight h ≡ found → not (option_map_or (λ (one : Job). one.number == job.0) found false) ≡ false → (one : Job)
        × (in_flight h ≡ Some one) × ((one.number == job.0) ≡ true)
    go None at f = absurd (false_true (sym f))
    go (Some one) at f = (one, at, not_false (one.number == job.0) f)

pub ends_flight : (job : JobNo) (one : Job) → (one.number == job.0) ≡ true → without_job job.0 (Some one) ≡ None
ends_flight job one e = ap (λ (b : Bool). cond b None (Some one)) e

module _ (s : Session) (h : History) (event : Event) (answer : Answer) (job : JobNo) (line : IsHeard s h event answer) (caused : IsCaused s h)
    (counts : Counts s h) (one : Job) (at : in_flight h ≡ Some one) (here : (one.number == job.0) ≡ true) where
  without : without_job job.0 (in_flight h) ≡ None
  without = ap (without_job job.0) at ∙ ends_flight job one here

  -- the job ends with an answer that writes nothing
  ended_by : (other : Answer) → answer ≡ other → pages_after other (pages h) ≡ pages h → in_flight_after other (in_flight h) ≡ without_job job.0 (in_flight h)
      → starts_after other (starts h) ≡ starts h → sources_after other (sources h) ≡ sources h
      → firsts_after other (firsts h) ≡ firsts h → (((if turns_off other then false else paging h) ≡ true) → (n : ℕ) → is_among n (flying h) ≡ true
      → IsDead s h n) → Counts s (heard h event answer)
  ended_by other e written ends started moved first gone =
      counts_ended s h (heard h event answer) (record {
        grown = grown_heard s h event answer;
        falls = falls_heard s h event answer line caused;
        written = ap (λ (a : Answer). pages_after a (pages h)) e ∙ written;
        still_on = λ on. still_on (turns_off answer) (paging h) on;
        firsts_same = ap (λ (a : Answer). firsts_after a (firsts h)) e ∙ first;
      }) counts (ap (λ (a : Answer). in_flight_after a (in_flight h)) e ∙ ends ∙ without) (ap (λ (a : Answer). starts_after a (starts h)) e ∙ started)
      (ap (λ (a : Answer). sources_after a (sources h)) e ∙ moved)
      (λ on n flies. gone (subst (λ (a : Answer). (if turns_off a then false else paging h) ≡ true) e on) n flies)

  off_by : {off : Bool} → off ≡ true → ((if off then false else paging h) ≡ true) → (n : ℕ) → is_among n (flying h) ≡ true → IsDead s h n
  off_by off on n flies = absurd (false_true (subst (λ (b : Bool). (if b then false else paging h) ≡ true) off on))

  -- the pieces that are left are written
  written_by : (list : List ℕ) → job_left (page_limit s) h ≡ list → (new : Page) → new.number ≡ next_page h → new.pieces ≡ list → (other : Answer) → answer
      ≡ other → pages_after other (pages h) ≡ pages h ++ new ∷ []
      → in_flight_after other (in_flight h) ≡ without_job job.0 (in_flight h) → turns_off other ≡ false → starts_after other (starts h) ≡ starts h
      → sources_after other (sources h) ≡ sources h
      → firsts_after other (firsts h) ≡ option_map_or (λ (file : ℕ). firsts h) one.source (new.pieces ++ firsts h) → Counts s (heard h event answer)
  written_by list left new number same other e written ends on started moved first =
      let left_is : job_left (page_limit s) h ≡ job_left_of one (reached (page_limit s) h) =
      ap (λ (o : Option Job). option_map_or (λ (each : Job). job_left_of each (reached (page_limit s) h)) o []) at in
      let new_is : new.pieces ≡ job_left_of one (reached (page_limit s) h) = same ∙ sym left ∙ left_is in
      let part : PartOf new.pieces one.pieces =
      subst (λ (xs : List ℕ). PartOf xs one.pieces) (sym new_is)
      (part_filter (λ (n : ℕ). list_any (λ (piece : Piece). piece.number == n) (reached (page_limit s) h)) one.pieces) in
      let apart : AreApart one.pieces = subst (λ (o : Option Job). AreApart (flying_of o)) at counts.flies_apart in
      counts_written s h (heard h event answer) new (record {
        grown = grown_heard s h event answer;
        falls = falls_heard s h event answer line caused;
        written = ap (λ (a : Answer). pages_after a (pages h)) e ∙ written;
        above =
            λ file old.
            let low = written_low 0 (next_page h) file (pages h) (pages_rise s h caused) old in
            ne_eqb new.number file (λ equal. absurd (omega (arith, low, equal, number)));
        apart = part_apart new.pieces one.pieces part apart;
        still_on = λ still. still_on (turns_off answer) (paging h) still;
        starts_same = ap (λ (a : Answer). starts_after a (starts h)) e ∙ started;
        sources_same = ap (λ (a : Answer). sources_after a (sources h)) e ∙ moved;
      }) counts one at (ap (λ (a : Answer). in_flight_after a (in_flight h)) e ∙ ends ∙ without) (ap (λ (a : Answer). firsts_after a (firsts h)) e ∙ first) part
      (λ n flies. subst (λ (xs : List ℕ). (is_among n xs ≡ true) ⊎ IsDead s h n) (left ∙ sym same) (left_or_dead s h one n caused at flies))

  source_is : source_of (in_flight h) ≡ one.source
  source_is = ap source_of at

  replied : (source : Option ℕ) → source_of (in_flight h) ≡ source → (list : List ℕ) → job_left (page_limit s) h ≡ list → IsOneOf (answer ∷ line.rest)
      ((job_done h job source list ∷ []) ∷ job_failed h job source list) → Counts s (heard h event answer)
  replied source from [] left (inl e) =
      ended_by (answers.Empty job) (same_first answer (answers.Empty job) line.rest [] e) refl refl refl refl refl
      (λ on n flies.
      ⊎_elim (λ (there : is_among n (job_left (page_limit s) h) ≡ true). absurd (false_true (ap (is_among n) (sym left) ∙ there)))
      (λ (dead : IsDead s h n). dead)
      (left_or_dead s h one n caused at (sym (ap (λ (o : Option Job). is_among n (flying_of o)) at) ∙ flies)))
  replied source from [] left (inr never) = absurd never
  replied None from (n ∷ more) left (inl e) =
      written_by (n ∷ more) left (record { number = next_page h; pieces = numbers (piece_list (n ∷ more)) }) refl (numbers_list (n ∷ more))
      (answers.Paged job (page_no (next_page h)) (piece_list (n ∷ more))) (same_first answer _ line.rest [] e)
      refl refl refl refl refl
      (sym (ap (λ (o : Option ℕ). option_map_or (λ (file : ℕ). firsts h) o (numbers (piece_list (n ∷ more)) ++ firsts h)) (sym source_is ∙ from)))
  replied None from (n ∷ more) left (inr (inl e)) =
      ended_by (answers.PageFailed job (page_no (next_page h))) (same_first answer _ line.rest [] e) refl refl refl refl refl (off_by {off = true} refl)
  replied None from (n ∷ more) left (inr (inr never)) = absurd never
  replied (Some file) from (n ∷ more) left (inl e) =
      written_by (n ∷ more) left (record { number = next_page h; pieces = numbers (piece_list (n ∷ more)) }) refl (numbers_list (n ∷ more))
      (answers.Moved job (page_no (next_page h)) (piece_list (n ∷ more))) (same_first answer _ line.rest [] e)
      refl refl refl refl refl
      (sym (ap (λ (o : Option ℕ). option_map_or (λ (each : ℕ). firsts h) o (numbers (piece_list (n ∷ more)) ++ firsts h)) (sym source_is ∙ from)))
  replied (Some file) from (n ∷ more) left (inr (inl e)) =
      ended_by (answers.MoveFailed job (page_no (next_page h))) (same_first answer _ line.rest [] e) refl refl refl refl refl (off_by {off = true} refl)
  replied (Some file) from (n ∷ more) left (inr (inr (inl e))) =
      ended_by (answers.MoveUnread job (page_no file)) (same_first answer _ line.rest [] e) refl refl refl refl refl (off_by {off = true} refl)
  replied (Some file) from (n ∷ more) left (inr (inr (inr never))) = absurd never

counts_heard : (s : Session) (h : History) (event : Event) (answer : Answer) → (line : IsHeard s h event answer) → IsCaused s h → Counts s h
    → OwnCase s h event (answer ∷ line.rest) → Counts s (heard h event answer)
counts_heard s h event answer line caused counts (idle one e free) =
    counts_still s h (heard h event answer) (grown_heard s h event answer) (falls_heard s h event answer line caused)
    (still_heard s h event answer (ap is_steady (same_first answer one line.rest [] e) ∙ idle_steady one free)) counts
counts_heard s h event answer line caused counts (breaks b status broken building e) =
    counts_still s h (heard h event answer) (grown_heard s h event answer) (falls_heard s h event answer line caused)
    (still_heard s h event answer (ap is_steady (same_first answer _ line.rest [] e))) counts
counts_heard s h event answer line caused counts (stores renderer b segment bytes n same at e) =
    counts_still s h (heard h event answer) (grown_heard s h event answer) (falls_heard s h event answer line caused)
    (still_heard s h event answer (ap is_steady (same_first answer _ line.rest _ e))) counts
counts_heard s h event answer line caused counts (unstores renderer b segment bytes n same at e) =
    counts_still s h (heard h event answer) (grown_heard s h event answer) (falls_heard s h event answer line caused)
    (still_heard s h event answer (ap is_steady (same_first answer _ line.rest _ e))) counts
counts_heard s h event answer line caused counts (replies job first same e reply done) =
    let passes : refusal s h (events.Disk job) ≡ None = subst (λ (each : Event). refusal s h each ≡ None) same line.passes in
    let one = flying_job h job (tests_fail s h (events.Disk job) passes).0 in
    replied s h event answer job line caused counts (one.0) one.1 one.2 (source_of (in_flight h)) refl (job_left (page_limit s) h) refl done
counts_heard s h event answer line caused counts (loses job same e) =
    let passes : refusal s h (events.Lost job) ≡ None = subst (λ (each : Event). refusal s h each ≡ None) same line.passes in
    let one = flying_job h job (tests_fail s h (events.Lost job) passes).0 in
    ended_by s h event answer job line caused counts (one.0) one.1 one.2 (answers.LostJob job) (same_first answer _ line.rest [] e) refl refl refl refl refl
    (off_by s h event answer job line caused counts (one.0) one.1 one.2 {off = true} refl)

-- ---- a segment is stored

-- the piece that a segment stores
pub record StoredPiece (s : Session) (g : History) (b segment : ℕ) : Type 0 where
  pub piece : Piece
  pub place : slice_get (pieces_of (page_limit s) g b) segment ≡ Some piece
  pub found : FoundIn (pieces (page_limit s) g) piece.number piece
  pub of_b : piece.blob ≡ b
  pub filed : is_filed (builds (page_limit s) g) piece.blob ≡ true
  pub fresh : has_come (arrivals g b) segment ≡ false
  pub number : piece_at s g b segment ≡ piece.number

pub stored_piece : (s : Session) (g : History) (renderer : RendererId) (b segment : ℕ) (bytes : List ℕ) (n : ℕ)
    → refusal s g (events.Segment renderer b segment bytes) ≡ None → plan_in s g b ≡ Some (plans.File n) → StoredPiece s g b segment
stored_piece s g renderer b segment bytes n passes plan = go (build_in (builds (page_limit s) g) b) refl
    (tests_fail s g (events.Segment renderer b segment bytes) passes).1
  where
    go : (found : Option Build) → build_in (builds (page_limit s) g) b ≡ found → AllByRecursion (λ (case : Bool × Refusal). case.0 ≡ false)
        (segment_refusals s g renderer b segment (length bytes) found) → StoredPiece s g b segment
    go None at tests = absurd (false_true (sym tests.0))
    go (Some build) at tests =
        let planned : build.plan ≡ Some (plans.File n) = sym (ap (λ (o : Option Build). option_map_or (λ (each : Build). each.plan) o None) at) ∙ plan in
        let equal : spans s.limits build ≡ spans_of (page_limit s) build =
        (λ i. option_map_or (λ (p : Plan). segment_spans (own_lengths build.parts) p s.limits) (planned i) []) ∙ sym
        (λ i. planned_spans (page_limit s) build (planned i)) in
        let low = leb-false (length (spans s.limits build)) segment tests.1.0 in
        let same_length = ap length equal in
        let within = spans_within (page_limit s) 0 b (builds (page_limit s) g) build at in
        let there = get_there (pieces_of (page_limit s) g b) segment (omega (arith, low, same_length, within)) in
        let facts = get_all (λ (each : Piece). has_piece s g each × ((each.blob == b) ≡ true)) (pieces_of (page_limit s) g b) segment (there.0)
        (filter_has (has_piece s g) (λ (each : Piece). each.blob == b) (pieces (page_limit s) g) (all_pieces s g)) there.1 in
        let of_b : there.0.blob ≡ b = eqb-true there.0.blob b facts.1 in
        record {
          piece = there.0;
          place = there.1;
          found = facts.0;
          of_b = of_b;
          filed =
              ap (λ (name : ℕ). is_reserved (unlisted_place (build_in (builds (page_limit s) g) name))) of_b ∙ ap
              (λ (o : Option Build). is_reserved (unlisted_place o)) at ∙ ap (λ (p : Option Plan). is_reserved (planned_place p)) planned;
          fresh = tests.1.1.0;
          number = ap (λ (o : Option Piece). option_map_or (λ (each : Piece). each.number) o 0) there.1;
        }

-- a segment that came with its piece is not to come again
pub came_once : (s : Session) (g : History) (b segment : ℕ) (one : StoredPiece s g b segment) (other : Piece) → FoundIn (pieces (page_limit s) g)
    one.piece.number other → HasCome s g other → ⊥
came_once s g b segment one other found came =
    let same : other ≡ one.piece = (let e = one.found in cc) in
    let before : HasCome s g one.piece = subst (HasCome s g) same came in
    let at_place : slice_get (pieces_of (page_limit s) g one.piece.blob) segment ≡ Some one.piece =
    subst (λ (name : ℕ). slice_get (pieces_of (page_limit s) g name) segment ≡ Some one.piece) (sym one.of_b) one.place in
    let equal : before.0 ≡ segment =
    one_place (pieces_of (page_limit s) g one.piece.blob) (before.0) segment one.piece
    (filter_rising (λ (each : Piece). each.blob == one.piece.blob) (pieces (page_limit s) g)
    (numbered_rising 0 (pieces (page_limit s) g) (pieces_numbered (page_limit s) 0 (builds (page_limit s) g)))) before.1 at_place in
    false_true (sym one.fresh ∙ sym (λ i. has_come (arrivals g (one.of_b i)) (equal i)) ∙ before.2)

not_listed : (s : Session) (g : History) (b segment : ℕ) → IsCaused s g → (one : StoredPiece s g b segment) → is_listed (pages g) (flying g) one.piece.number
    ≡ false
not_listed s g b segment caused one = go (is_listed (pages g) (flying g) one.piece.number) refl
  where
    go : (c : Bool) → is_listed (pages g) (flying g) one.piece.number ≡ c → c ≡ false
    go false at = refl
    go true at =
        let there = listed_there s g caused one.piece.number at in
        let same : there.piece ≡ one.piece = (let e = there.found in let f = one.found in cc) in
        absurd (came_once s g b segment one there.piece there.found
        (there.came (subst (λ (each : Piece). is_filed (builds (page_limit s) g) each.blob ≡ true) (sym same) one.filed)))

store_counts : (s : Session) (g : History) (renderer : RendererId) (b segment : ℕ) (bytes : List ℕ) (n : ℕ) (answer : Answer)
    → IsFurther s (heard g (events.Segment renderer b segment bytes) (answers.Taken segment)) answer
    → IsCaused s (heard g (events.Segment renderer b segment bytes) (answers.Taken segment))
    → Counts s (heard g (events.Segment renderer b segment bytes) (answers.Taken segment)) → refusal s g (events.Segment renderer b segment bytes) ≡ None
    → plan_in s g b ≡ Some (plans.File n) → answer ≡ answers.Stored (page_no (next_page g)) (piece_no (piece_at s g b segment))
    → Counts s (said (heard g (events.Segment renderer b segment bytes) (answers.Taken segment)) answer)
store_counts s g renderer b segment bytes n answer cause caused counts passes plan e =
    let one = stored_piece s g renderer b segment bytes n passes plan in
    let fresh = ap (is_listed (pages g) (flying g)) one.number ∙ not_listed s g b segment caused.1 one in
    counts_stored s h (said h answer) new (record {
      grown = grown_said s h answer;
      falls = falls_said s h answer cause;
      written = ap (λ (a : Answer). pages_after a (pages g)) e;
      above =
          λ file old.
          let low = written_low 0 (next_page g) file (pages g) (pages_rise s g caused.1) old in
          ne_eqb (next_page g) file (λ equal. absurd (omega (arith, low, equal)));
      apart = (refl, tt);
      still_on = λ on. on;
      starts_same = ap (λ (a : Answer). starts_after a (starts g)) e;
      sources_same = ap (λ (a : Answer). sources_after a (sources g)) e;
    }) counts (piece_at s g b segment) refl (ap (λ (a : Answer). in_flight_after a (in_flight g)) e) (ap (λ (a : Answer). firsts_after a (firsts g)) e) fresh
  where
    h : History
    h = heard g (events.Segment renderer b segment bytes) (answers.Taken segment)

    new : Page
    new = record { number = next_page g; pieces = piece_at s g b segment ∷ [] }

-- ---- jobs that start

none_of_idle : (found : Option Job) → is_none found ≡ true → found ≡ None
none_of_idle None e = refl
none_of_idle (Some job) e = absurd (false_true e)

-- a piece in memory is in no page file
memory_unlisted : (found : Option Page) (build : Option Build) → is_memory (place_by found build) ≡ true → found ≡ None
memory_unlisted None build e = refl
memory_unlisted (Some file) build e = absurd (false_true e)

start_counts : (s : Session) (h : History) (number : ℕ) (more : List ℕ) (answer : Answer) → IsFurther s h answer → IsCaused s h → Counts s h → may_start h
    ≡ true → chosen s.limits h ≡ number ∷ more
    → answer ≡ answers.Job (job_no (next_job h)) (piece_list (number ∷ more)) → Counts s (said h answer)
start_counts s h number more answer cause caused counts may at e =
    let parts = and_parts (paging h) (is_none (in_flight h)) may in
    let stand : AllByRecursion (StandsFor (IsOfDone s h) (pageable (page_limit s) h)) (number ∷ more) =
    subst (AllByRecursion (StandsFor (IsOfDone s h) (pageable (page_limit s) h))) at (chosen_stand s h caused) in
    let apart : AreApart (chosen s.limits h) =
    part_apart (chosen s.limits h) (last_uses s.limits h)
    (part_victims (memory (page_limit s) h + head_bytes (waits (page_limit s) h) - s.limits.memory) (min (page_limit s) (s.limits.disk - disk (page_limit s) h))
    (pageable (page_limit s) h) (last_uses s.limits h)) (uses_apart s.limits h) in
    let first = stand.0 in
    counts_started s h (said h answer) (record {
      grown = grown_said s h answer;
      falls = falls_said s h answer cause;
      written = ap (λ (a : Answer). pages_after a (pages h)) e;
      still_on = λ on. on;
      firsts_same = ap (λ (a : Answer). firsts_after a (firsts h)) e;
    }) counts (next_job h) number more (none_of_idle (in_flight h) parts.1) parts.0
    (ap (λ (a : Answer). in_flight_after a (in_flight h)) e ∙ ap (λ (xs : List ℕ). Some (record { number = next_job h; source = None; pieces = xs }))
    (numbers_list (number ∷ more)))
    (ap (λ (a : Answer). starts_after a (starts h)) e) (ap (λ (a : Answer). sources_after a (sources h)) e) (subst AreApart at apart)
    (for_each (StandsFor (IsOfDone s h) (pageable (page_limit s) h)) (λ (n : ℕ). is_paged (pages h) n ≡ false) (number ∷ more)
    (λ n one.
    subst (λ (m : ℕ). is_paged (pages h) m ≡ false) one.1
    (none_paged (pages h) one.0.number (memory_unlisted (page_with (pages h) one.0.number) (build_in (builds (page_limit s) h) one.0.blob) one.2.in_mind)))
    stand)
    (first.0, subst (λ (m : ℕ). FoundIn (pieces (page_limit s) h) m first.0) first.1 first.2.there.1)
    (λ dead.
    not_dead s h number first.0 (subst (λ (m : ℕ). FoundIn (pieces (page_limit s) h) m first.0) first.1 first.2.there.1)
    (and_parts (is_granted_piece h (builds (page_limit s) h) first.0) (owns_some (live_cells (page_limit s) h) first.0) first.2.reaches).1 dead)

-- where a piece in a page file has its place
placed_in : (found : Option Page) (build : Option Build) (file : ℕ) → is_page file (place_by found build) ≡ true
    → option_map_or (λ (page : Page). page.number == file) found false ≡ true
placed_in (Some page) build file e = e
placed_in None build file e = absurd (go (unlisted_place build) (plain build) e)
  where
    planned : (plan : Option Plan) → (planned_place plan ≡ in_memory) ⊎ (planned_place plan ≡ reserved)
    planned None = inl refl
    planned (Some (plans.File n)) = inr refl
    planned (Some plans.None) = inl refl
    planned (Some plans.Inline) = inl refl
    planned (Some (plans.Shared n)) = inl refl
    planned (Some plans.OutOfMemory) = inl refl
    planned (Some (plans.TooMany what)) = inl refl

    plain : (o : Option Build) → (unlisted_place o ≡ in_memory) ⊎ (unlisted_place o ≡ reserved)
    plain None = inl refl
    plain (Some one) = planned one.plan

    go : (at : Place) → (at ≡ in_memory) ⊎ (at ≡ reserved) → is_page file at ≡ true → ⊥
    go at (inl f) g = false_true (sym (ap (is_page file) f) ∙ g)
    go at (inr f) g = false_true (sym (ap (is_page file) f) ∙ g)

place_given : (found : Option Page) (build : Option Build) (file : ℕ) → option_map_or (λ (page : Page). page.number == file) found false ≡ true
    → is_page file (place_by found build) ≡ true
place_given (Some page) build file e = e
place_given None build file e = absurd (false_true e)

-- a page file that is moved out of was written
pub file_written : (s : Session) (h : History) (file : Page) → movable s h ≡ Some file → was_written h file.number ≡ true
file_written s h file found =
    found_all (λ (each : Page). was_written h each.number ≡ true) (can_move s h (builds (page_limit s) h) (pieces (page_limit s) h) (reached (page_limit s) h))
    (files (page_limit s) h) file
    (filter_all (λ (each : Page). was_written h each.number ≡ true)
    (λ (page : Page). nat_lt 0 (length (in_page_of h (builds (page_limit s) h) page (reached (page_limit s) h)))) (pages h)
    (all_numbered (λ (page : Page). page.number) (pages h))) found

module _ (s : Session) (h : History) (file : Page) (answer : Answer) (cause : IsFurther s h answer) (caused : IsCaused s h) (counts : Counts s h)
    (may : may_start h ≡ true) (found : movable s h ≡ Some file) (e : answer ≡ compaction s h file) where
  apart : AreApartPages (pages h)
  apart = rising_apart 0 (next_page h) (pages h) (pages_rise s h caused)

  -- what all page files have this one has
  of_file : (P : Page → Type 0) → AllByRecursion P (pages h) → P file
  of_file P all =
      found_all P (can_move s h (builds (page_limit s) h) (pieces (page_limit s) h) (reached (page_limit s) h)) (files (page_limit s) h) file
      (filter_all P (λ (page : Page). nat_lt 0 (length (in_page_of h (builds (page_limit s) h) page (reached (page_limit s) h)))) (pages h) all) found

  same_as : AllByRecursion (λ (each : Page). (each.number == file.number) ≡ true → each ≡ file) (pages h)
  same_as = of_file (λ (page : Page). AllByRecursion (λ (each : Page). (each.number == page.number) ≡ true → each ≡ page) (pages h))
      (same_pages (pages h) apart)

  all_live_in : AllByRecursion (λ (piece : Piece). (FoundIn (pieces (page_limit s) h) piece.number piece × (is_reached s h piece ≡ true))
      × (is_page file.number (place_in h (builds (page_limit s) h) piece) ≡ true)) (in_page_of h (builds (page_limit s) h) file (reached (page_limit s) h))
  all_live_in =
      filter_has (λ (piece : Piece). has_piece s h piece × (is_reached s h piece ≡ true))
      (λ (piece : Piece). is_page file.number (place_in h (builds (page_limit s) h) piece)) (reached (page_limit s) h)
      (filter_has (has_piece s h) (is_reached s h) (pieces (page_limit s) h) (all_pieces s h))

  some_live : 0 < length (in_page_of h (builds (page_limit s) h) file (reached (page_limit s) h))
  some_live =
      ltb-true 0 (length (in_page_of h (builds (page_limit s) h) file (reached (page_limit s) h)))
      (found_all (λ (page : Page). nat_lt 0 (length (in_page_of h (builds (page_limit s) h) page (reached (page_limit s) h))) ≡ true)
      (can_move s h (builds (page_limit s) h) (pieces (page_limit s) h) (reached (page_limit s) h)) (files (page_limit s) h) file
      (for_each (λ (page : Page). Unit {0} × (nat_lt 0 (length (in_page_of h (builds (page_limit s) h) page (reached (page_limit s) h))) ≡ true))
      (λ (page : Page). nat_lt 0 (length (in_page_of h (builds (page_limit s) h) page (reached (page_limit s) h))) ≡ true)
      (files (page_limit s) h) (λ page f. f.1) (filter_has (λ (page : Page). Unit {0})
      (λ (page : Page). nat_lt 0 (length (in_page_of h (builds (page_limit s) h) page (reached (page_limit s) h)))) (pages h) (nothing (pages h)))) found)
    where
      nothing : (list : List Page) → AllByRecursion (λ (page : Page). Unit {0}) list
      nothing [] = tt
      nothing (x ∷ list) = (tt, nothing list)

  -- a live piece is in it, so it isn't emptied
  not_emptied : IsEmptied s h file.number → ⊥
  not_emptied gone =
      let one = some_first _ (in_page_of h (builds (page_limit s) h) file (reached (page_limit s) h)) some_live all_live_in in
      not_dead s h one.0.number (one.0) one.1.0.0 (and_parts (is_granted_piece h (builds (page_limit s) h) (one.0))
      (owns_some (live_cells (page_limit s) h) (one.0)) one.1.0.1).1
      (gone one.0.number (placed_in (page_with (pages h) one.0.number) (build_in (builds (page_limit s) h) one.0.blob) file.number one.1.1))

  -- each piece that has its place there is listed there
  lists_it : (n : ℕ) → has_place (pages h) file.number n ≡ true → lists file n ≡ true
  lists_it n placed = go (page_with (pages h) n) refl placed
    where
      go : (at : Option Page) → page_with (pages h) n ≡ at → option_map_or (λ (page : Page). page.number == file.number) at false ≡ true → lists file n ≡ true
      go None at f = absurd (false_true f)
      go (Some page) at f =
          let equal : page ≡ file =
          found_all (λ (each : Page). (each.number == file.number) ≡ true → each ≡ file) (λ (each : Page). lists each n) (reverse (pages h)) page
          (all_reverse (λ (each : Page). (each.number == file.number) ≡ true → each ≡ file) (pages h) same_as) at f in
          subst (λ (each : Page). lists each n ≡ true) equal (found_true (λ (each : Page). lists each n) (reverse (pages h)) page at)

  kept_or_dead : (n : ℕ) → has_place (pages h) file.number n ≡ true → (is_among n (kept s h file) ≡ true) ⊎ IsDead s h n
  kept_or_dead n placed =
      let listed = lists_it n placed in
      let paged : is_paged (pages h) n ≡ true = of_file (λ (each : Page). lists each n ≡ true → is_paged (pages h) n ≡ true)
      (each_any (λ (each : Page). lists each n) (pages h)) listed in
      let one = listed_there s h caused n (or_first (is_paged (pages h) n) (list_any (λ (each : ℕ). each == n) (flying h)) paged) in
      ⊎_elim
      (λ (owned : owns_some (live_cells (page_limit s) h) one.piece ≡ true).
      let passes : is_reached s h one.piece ≡ true = both (is_granted_piece h (builds (page_limit s) h) one.piece)
      (owns_some (live_cells (page_limit s) h) one.piece) one.granted owned in
      let number : one.piece.number ≡ n = found_number (pieces (page_limit s) h) n one.piece one.found in
      let placed_here : has_place (pages h) file.number one.piece.number ≡ true = subst (λ (m : ℕ). has_place (pages h) file.number m ≡ true) (sym number)
      placed in
      let here : is_page file.number (place_in h (builds (page_limit s) h) one.piece) ≡ true = place_given (page_with (pages h) one.piece.number)
      (build_in (builds (page_limit s) h) one.piece.blob) file.number placed_here in
      let first = found_filter (λ (piece : Piece). piece.number == n) (is_reached s h) (pieces (page_limit s) h) one.piece one.found passes in
      let second = found_filter (λ (piece : Piece). piece.number == n) (λ (piece : Piece). is_page file.number (place_in h (builds (page_limit s) h) piece))
      (reached (page_limit s) h) one.piece first here in
      inl
      (among_filter (λ (m : ℕ). list_any (λ (piece : Piece). piece.number == m) (in_page_of h (builds (page_limit s) h) file (reached (page_limit s) h)))
      file.pieces n listed
      (found_some (λ (piece : Piece). piece.number == n) (in_page_of h (builds (page_limit s) h) file (reached (page_limit s) h)) one.piece second)))
      (λ (gone : owns_some (live_cells (page_limit s) h) one.piece ≡ false). inr (dead_piece s h n one gone))
      (owns_either (owns_some (live_cells (page_limit s) h) one.piece))

  -- a thin page file has a piece that isn't moved
  fewer : length (kept s h file) < length file.pieces
  fewer =
      ⊎_elim (λ (all : kept s h file ≡ file.pieces). absurd (too_small all)) (λ (less : length (kept s h file) < length file.pieces). less)
      (keeps_or_fewer (λ (m : ℕ). list_any (λ (piece : Piece). piece.number == m) (in_page_of h (builds (page_limit s) h) file (reached (page_limit s) h)))
      file.pieces)
    where
      too_small : kept s h file ≡ file.pieces → ⊥
      too_small all =
          let test = found_true (can_move s h (builds (page_limit s) h) (pieces (page_limit s) h) (reached (page_limit s) h)) (files (page_limit s) h) file
          found in
          let thin = (and_parts (is_thin h (builds (page_limit s) h) (pieces (page_limit s) h) (reached (page_limit s) h) file)
          (nat_le (bytes_of (in_page_of h (builds (page_limit s) h) file (reached (page_limit s) h))) (s.limits.disk - disk (page_limit s) h)) test).0 in
          let small = ltb-true (2 * bytes_of (in_page_of h (builds (page_limit s) h) file (reached (page_limit s) h)))
          (page_size (pieces (page_limit s) h) file) thin in
          let measured : AllByRecursion (λ (piece : Piece). length_in (pieces (page_limit s) h) piece.number ≡ piece.len)
          (in_page_of h (builds (page_limit s) h) file (reached (page_limit s) h)) =
          for_each (λ (piece : Piece). (FoundIn (pieces (page_limit s) h) piece.number piece × (is_reached s h piece ≡ true))
          × (is_page file.number (place_in h (builds (page_limit s) h) piece) ≡ true))
          (λ (piece : Piece). length_in (pieces (page_limit s) h) piece.number ≡ piece.len)
          (in_page_of h (builds (page_limit s) h) file (reached (page_limit s) h))
          (λ piece f. length_found (pieces (page_limit s) h) piece.number piece f.0.0) all_live_in in
          let sums = apart_sum (length_in (pieces (page_limit s) h)) file.pieces (in_page_of h (builds (page_limit s) h) file (reached (page_limit s) h))
          (of_file (λ (each : Page). AreApart each.pieces) counts.pages_apart) measured in
          let whole : sum_by (length_in (pieces (page_limit s) h)) (kept s h file) ≡ page_size (pieces (page_limit s) h) file =
          ap (sum_by (length_in (pieces (page_limit s) h))) all in
          omega (arith, small, sums, whole)

  -- so some piece is moved
  pub kept_some : 0 < length (kept s h file)
  kept_some = go (kept s h file) refl
    where
      go : (list : List ℕ) → kept s h file ≡ list → 0 < length list
      go [] at =
          absurd
          (not_emptied
          (λ n placed. ⊎_elim (λ (there : is_among n (kept s h file) ≡ true). absurd (false_true (ap (is_among n) (sym at) ∙ there)))
          (λ (dead : IsDead s h n). dead) (kept_or_dead n placed)))
      go (x ∷ list) at = omega arith

  move_counts : Counts s (said h answer)
  move_counts =
      let parts = and_parts (paging h) (is_none (in_flight h)) may in
      counts_moving s h (said h answer) (record {
        grown = grown_said s h answer;
        falls = falls_said s h answer cause;
        written = ap (λ (a : Answer). pages_after a (pages h)) e;
        still_on = λ on. on;
        firsts_same = ap (λ (a : Answer). firsts_after a (firsts h)) e;
      }) counts (next_job h) file (kept s h file) (none_of_idle (in_flight h) parts.1) parts.0
      (ap (λ (a : Answer). in_flight_after a (in_flight h)) e ∙ ap
      (λ (xs : List ℕ). Some (record { number = next_job h; source = Some file.number; pieces = xs })) (numbers_list (kept s h file)))
      (ap (λ (a : Answer). starts_after a (starts h)) e) (ap (λ (a : Answer). sources_after a (sources h)) e)
      (part_apart (kept s h file) file.pieces
      (part_filter (λ (m : ℕ). list_any (λ (piece : Piece). piece.number == m) (in_page_of h (builds (page_limit s) h) file (reached (page_limit s) h)))
      file.pieces)
      (of_file (λ (each : Page). AreApart each.pieces) counts.pages_apart))
      (of_file (λ (each : Page). was_written h each.number ≡ true) (all_numbered (λ (page : Page). page.number) (pages h))) apart same_as fewer kept_or_dead
      not_emptied

-- ---- all steps

counts_said : (s : Session) (h : History) (answer : Answer) → IsFurther s h answer → IsCaused s h → Counts s h → Counts s (said h answer)
counts_said s h answer (by_store g renderer b segment bytes n same passes at e) caused counts =
    subst (λ (k : History). Counts s (said k answer)) (sym same)
    (store_counts s g renderer b segment bytes n answer (by_store g renderer b segment bytes n refl passes at e) (subst (IsCaused s) same caused)
    (subst (Counts s) same counts) passes at e)
counts_said s h answer (by_unstore g renderer b segment bytes n same passes at e) caused counts =
    counts_still s h (said h answer) (grown_said s h answer) (falls_said s h answer (by_unstore g renderer b segment bytes n same passes at e))
    (still_said s h answer (ap is_steady e)) counts
counts_said s h answer (by_drop build found begun unrooted e) caused counts = counts_still s h (said h answer) (grown_said s h answer)
    (falls_said s h answer (by_drop build found begun unrooted e)) (still_said s h answer (ap is_steady e)) counts
counts_said s h answer (by_break build found begun status broken e) caused counts =
    counts_still s h (said h answer) (grown_said s h answer) (falls_said s h answer (by_break build found begun status broken e))
    (still_said s h answer (ap is_steady e)) counts
counts_said s h answer (by_done build found begun complete e) caused counts =
    counts_still s h (said h answer) (grown_said s h answer) (falls_said s h answer (by_done build found begun complete e))
    (still_said s h answer (ap is_steady e)) counts
counts_said s h answer (by_removal number written left (inl e)) caused counts =
    counts_still s h (said h answer) (grown_said s h answer) (falls_said s h answer (by_removal number written left (inl e)))
    (still_said s h answer (ap is_steady e)) counts
counts_said s h answer (by_removal number written left (inr e)) caused counts =
    counts_still s h (said h answer) (grown_said s h answer) (falls_said s h answer (by_removal number written left (inr e)))
    (still_said s h answer (ap is_steady e)) counts
counts_said s h answer (by_grant build found e) caused counts = counts_still s h (said h answer) (grown_said s h answer)
    (falls_said s h answer (by_grant build found e)) (still_said s h answer (ap is_steady e)) counts
counts_said s h answer (by_page_job number more may at e) caused counts = start_counts s h number more answer (by_page_job number more may at e) caused counts
    may at e
counts_said s h answer (by_compaction file may found e) caused counts = move_counts s h file answer (by_compaction file may found e) caused counts may found e

pub counts_caused : (s : Session) (h : History) → IsCaused s h → Counts s h
counts_caused s start caused = record {
  starts_apart = tt;
  starts_there = λ n e. absurd (false_true e);
  starts_over = λ n e on. absurd (false_true e);
  firsts_apart = tt;
  firsts_paged = λ n e. absurd (false_true e);
  pages_apart = tt;
  flies_apart = tt;
  flies = tt;
  moved_written = λ file e. absurd (false_true e);
  moved_over = λ file e on. absurd (false_true e);
  less = omega arith;
}
counts_caused s (heard h event answer) caused = counts_heard s h event answer caused.0 caused.1 (counts_caused s h caused.1)
    (own_case s h event (answer ∷ caused.0.rest) caused.0.own)
counts_caused s (refused h event why) caused =
    counts_still s h (refused h event why) (record {
      grants = λ name e. e;
      more = [];
      blobs = sym (append-nil (builds (page_limit s) h));
      came = λ name. [];
      segments = λ name. sym (append-nil (arrivals h name));
    })
    (λ piece member owned. owned) (record { written = refl; flies = refl; still_on = λ on. on; starts_same = refl; sources_same = refl; firsts_same = refl })
    (counts_caused s h caused.2)
counts_caused s (said h answer) caused = counts_said s h answer caused.0 caused.1 (counts_caused s h caused.1)
