-- The bytes charged to the disk after each legal group.
use Rattle.std.proofs.Common.{◌≡◌, ◌⊎◌, ℕ, ◌+◌, ◌≤◌, ◌==◌, Bool, true, false, ◌&&◌, not, List, [], ◌∷◌, ◌++◌, length, refl, ap, subst, sym, ◌∙◌, inl, inr, arith, Option, Some, None, ℤ}
use Rattle.std.specs.Prelude.{cond, filter, nat_lt, nat_le}
use Rattle.std.specs.Option.{option_map_or}
use Rattle.std.specs.List.{AllByRecursion}
use Rattle.std.specs.Int.{div_ceil}
use Rattle.std.proofs.lemmas.Bool.{and_parts, eq-eqb, leb-true}
use Rattle.blob_words.specs.declared.number.JobNo.{JobNo}
use Rattle.blob_words.specs.declared.number.RendererId.{RendererId}
use Rattle.blob_words.specs.declared.plan.Plan.{Plan}
use Rattle.blob_words.specs.declared.plan.Plan.TheVariants as plans
use Rattle.blob_words.specs.declared.status.Status.{Status}
use Rattle.session_script.specs.declared.event.Event.{Event}
use Rattle.session_script.specs.declared.event.Event.TheVariants as events
use Rattle.session_script.specs.declared.event.Part.{Part}
use Rattle.answer_text.specs.declared.answer.Answer.{Answer}
use Rattle.answer_text.specs.declared.answer.Answer.TheVariants as answers
use Rattle.answer_text.specs.declared.refusal.Refusal.{Refusal}
use Rattle.answer_text.specs.declared.group.Group.{Group}
use Rattle.transport_plan.specs.Plan.{file_plan, shared_plan, has_file_room, fits_inline}
use Rattle.transport_plan.specs.Plan.{own_bytes as input_bytes}
use Rattle.blob_model.specs.Session.{Session, page_limit}
use Rattle.blob_model.specs.History.{History, start, heard, said_all, after, history_from}
use Rattle.blob_model.specs.Parts.{own_bytes, embedded}
use Rattle.blob_model.specs.Builds.{Build, builds, build_in, slice_parts, plan_told}
use Rattle.blob_model.specs.Handles.{count}
use Rattle.blob_model.specs.Live.{is_rooted}
use Rattle.blob_model.specs.Pieces.{Piece}
use Rattle.blob_model.specs.Pages.{next_page, numbers, planned_place, is_reserved}
use Rattle.blob_model.specs.Jobs.{Job, in_flight, without_job}
use Rattle.blob_model.specs.Tally.{disk, job_left, bytes_of}
use Rattle.blob_model.specs.Settle.{piece_list, page_no, settle}
use Rattle.blob_model.specs.Construct.{line_status, build_answer, build_answer_by, plan_for, plan_input}
use Rattle.blob_model.specs.Refusals.{refusal}
use Rattle.blob_model.specs.Choice.{IsOneOf}
use Rattle.blob_model.specs.Own.{accepted, stored_answers, unstored_answers, plan_in, job_done, job_failed, source_of, IsAccepted, IsOwnBy}
use Rattle.blob_model.specs.Legal.{left_files, IsLegalGroup, IsLegalFrom}
use Rattle.blob_model.proofs.Lists.{false_true, for_each, not_false}
use Rattle.blob_model.proofs.live.Least.{named}
use Rattle.blob_model.proofs.builds.Growth.{only_one, planned_first}
use Rattle.blob_model.proofs.kept.Kept.{Kept}
use Rattle.blob_model.proofs.kept.NewBlobs.{tests_fail, found_named, new_build, embedded_within}
use Rattle.blob_model.proofs.settled.Groups.{own_first, after_own}
use Rattle.blob_model.proofs.live.Roots.{HoldersSpawned, holder_of, one_case}
use Rattle.blob_model.proofs.memory.Steps.{of_blob, blob_bytes}
use Rattle.blob_model.proofs.memory.Builds.{Adds}
use Rattle.blob_model.proofs.memory.Plans.{shared_other, adds_by, plan_is}
use Rattle.blob_model.proofs.memory.PlainAnswers.{plain_heard}
use Rattle.blob_model.proofs.memory.Bounded.{Bounded, build_roots, group_bounded, bounded_start}
use Rattle.blob_model.proofs.disk.Stock.{flying_of, flying}
use Rattle.blob_model.proofs.disk.Settling.{Fits, numbers_list}
use Rattle.blob_model.proofs.disk.Jobs.{settle_disk}
use Rattle.blob_model.proofs.disk.DryAnswers.{line_dry, dry_line, refused_fits, follows_heard, more_came, AllDry}
use Rattle.blob_model.proofs.disk.PageFiles.{job_written}
use Rattle.blob_model.proofs.disk.Builds.{more, new_pieces, new_named, stocked_more, disk_adds, none_reserved, reserved_most}
use Rattle.blob_model.proofs.disk.Segments.{stored_fits}

-- ---- a line that builds

-- only the third test gives a file plan
file_by : (b1 b2 b3 b4 : Bool) (n : ℕ) (file shared : Plan) → (shared ≡ plans.File n → ⊥)
    → cond b1 plans.None (cond b2 plans.OutOfMemory (cond b3 file (cond b4 plans.Inline shared))) ≡ plans.File n → b3 ≡ true
file_by true b2 b3 b4 n file shared f e = cc
file_by false true b3 b4 n file shared f e = cc
file_by false false true b4 n file shared f e = refl
file_by false false false true n file shared f e = cc
file_by false false false false n file shared f e = absurd (f e)

-- a file plan has room on the disk
file_fits : (s : Session) (h : History) (parts : List Part) (n : ℕ) → plan_for s h parts ≡ plans.File n → disk (page_limit s) h + own_bytes parts ≤
    s.limits.disk
file_fits s h parts n e =
    let two : (nat_lt s.limits.big (input_bytes (plan_input s h parts)) && has_file_room (plan_input s h parts)) ≡ true =
    file_by (input_bytes (plan_input s h parts) == 0) (nat_lt s.limits.memory (input_bytes (plan_input s h parts))
    && not (has_file_room (plan_input s h parts))) (nat_lt s.limits.big (input_bytes (plan_input s h parts)) && has_file_room (plan_input s h parts))
    (fits_inline (plan_input s h parts)) n (file_plan (plan_input s h parts).pieces)
    (shared_plan (div_ceil (input_bytes (plan_input s h parts)) s.limits.segment))
    (shared_other (div_ceil (input_bytes (plan_input s h parts)) s.limits.segment) (plans.File n) (λ m f. cc) (λ c f. cc)) e in
    let file : has_file_room (plan_input s h parts) ≡ true = (and_parts (nat_lt s.limits.big (input_bytes (plan_input s h parts)))
    (has_file_room (plan_input s h parts)) two).1 in
    let fitting = (and_parts (plan_input s h parts).paging (nat_le (disk (page_limit s) h + input_bytes (plan_input s h parts)) s.limits.disk) file).1 in
    let room : disk (page_limit s) h + input_bytes (plan_input s h parts) ≤ s.limits.disk =
    leb-true (disk (page_limit s) h + input_bytes (plan_input s h parts)) s.limits.disk fitting in
    let within : length (embedded parts) ≤ own_bytes parts = embedded_within parts in
    omega (arith, room, within)

-- all pass a filter that each passes
every : (test : Piece → Bool) (list : List Piece) → AllByRecursion (λ (piece : Piece). test piece ≡ true) list → filter test list ≡ list
every test [] all = refl
every test (piece ∷ list) all = (λ i. cond (all.0 i) (piece ∷ filter test list) (filter test list)) ∙ ap (λ (xs : List Piece). piece ∷ xs)
    (every test list all.1)

module _ (s : Session) (h : History) (event : Event) (renderer name : ℕ) (kind : List ℕ) (parts : List Part) (kept : Kept s h) (holders : HoldersSpawned h)
    (fresh : named name (builds (page_limit s) h) ≡ false)
    (blobs : (plan : Answer) → plan ≡ build_answer s h renderer name parts → builds (page_limit s) (heard h event plan) ≡ builds (page_limit s) h
    ++ new_build s h renderer name kind parts ∷ [])
    (roots : (plan : Answer) (n : ℕ) → is_rooted (page_limit s) (heard h event plan) n ≡ true → (is_rooted (page_limit s) h n ≡ true) ⊎ ((n == name) ≡ true))
    (fits : Fits s h) where
  abbrev now : Option Status → History
  now status = heard h event (build_answer_by s h name parts status)

  abbrev whole : Build
  whole = new_build s h renderer name kind parts

  adds_now : (status : Option Status) → line_status s h renderer name parts ≡ status → Adds (page_limit s) h (now status) whole
  adds_now status e = adds_by s h event renderer name kind parts kept holders fresh blobs roots status e

  flies : (status : Option Status) → flying (now status) ≡ flying h
  flies None = refl
  flies (Some status) = refl

  writes : (status : Option Status) → next_page (now status) ≡ next_page h
  writes None = refl
  writes (Some status) = refl

  planned : (status : Option Status) → line_status s h renderer name parts ≡ status → whole.plan ≡ plan_told (build_answer_by s h name parts status)
  planned status e = plan_is s h event renderer name kind parts kept holders fresh blobs roots status e

  nothing_new : (status : Option Status) (e : line_status s h renderer name parts ≡ status)
      → is_reserved (planned_place (plan_told (build_answer_by s h name parts status))) ≡ false → Fits s (now status)
  nothing_new status e out =
      let adds = disk_adds s h (now status) whole (adds_now status e) fits.0 (flies status) (writes status) (λ n k f. more_came event n k _ f) in
      let none = none_reserved s h (now status) whole (adds_now status e) fits.0 (flies status) (writes status) (λ n k f. more_came event n k _ f)
      (ap (λ (p : Option Plan). is_reserved (planned_place p)) (planned status e) ∙ out) in
      let limit = fits.1 in (
        stocked_more s h (now status) whole (adds_now status e) fits.0 (flies status) (writes status) (λ n k f. more_came event n k _ f),
        omega
            (arith, adds, none, limit),
      )

  filed_new : (n : ℕ) (e : line_status s h renderer name parts ≡ None) → plan_for s h parts ≡ plans.File n → Fits s (now None)
  filed_new n e at =
      let adds = disk_adds s h (now None) whole (adds_now None e) fits.0 (flies None) (writes None) (λ m k f. more_came event m k _ f) in
      let most = reserved_most s h (now None) whole (adds_now None e) fits.0 (flies None) (writes None) (λ m k f. more_came event m k _ f) in
      let fresh_pieces = new_pieces s h (now None) whole (adds_now None e) fits.0 (flies None) (writes None) (λ m k f. more_came event m k _ f) in
      let called = new_named s h (now None) whole (adds_now None e) fits.0 (flies None) (writes None) (λ m k f. more_came event m k _ f) in
      let sums : of_blob name fresh_pieces ≡ bytes_of fresh_pieces =
      ap bytes_of (every (λ (piece : Piece). piece.blob == name) fresh_pieces
      (for_each (λ (piece : Piece). piece.blob ≡ name) (λ (piece : Piece). (piece.blob == name) ≡ true) fresh_pieces
      (λ piece same. eq-eqb piece.blob name same) called)) in
      let own = blob_bytes s.limits (more s h (now None) whole (adds_now None e) fits.0 (flies None) (writes None) (λ m k f. more_came event m k _ f)).0 name
      (whole ∷ []) (refl, tt) in
      let found : option_map_or (λ (build : Build). own_bytes build.parts) (build_in (whole ∷ []) name) 0 ≡ own_bytes parts =
      (λ i. option_map_or (λ (build : Build). own_bytes build.parts) (cond (eq-eqb name name refl i) (Some whole) None) 0) in
      let room = file_fits s h parts n at in (
        stocked_more s h (now None) whole (adds_now None e) fits.0 (flies None) (writes None) (λ m k f. more_came event m k _ f),
        omega
            (arith, adds, most, sums, own, found, room),
      )

  build_by : (status : Option Status) → line_status s h renderer name parts ≡ status → Fits s (now status)
  build_by (Some status) e = nothing_new (Some status) e refl
  build_by None e = go (plan_for s h parts) refl
    where
      go : (plan : Plan) → plan_for s h parts ≡ plan → Fits s (now None)
      go (plans.File n) at = filed_new n e at
      go plans.None at = nothing_new None e (ap (λ (p : Plan). is_reserved (planned_place (Some p))) at)
      go plans.Inline at = nothing_new None e (ap (λ (p : Plan). is_reserved (planned_place (Some p))) at)
      go (plans.Shared n) at = nothing_new None e (ap (λ (p : Plan). is_reserved (planned_place (Some p))) at)
      go plans.OutOfMemory at = nothing_new None e (ap (λ (p : Plan). is_reserved (planned_place (Some p))) at)
      go (plans.TooMany what) at = nothing_new None e (ap (λ (p : Plan). is_reserved (planned_place (Some p))) at)

  pub build_disk : Fits s (heard h event (build_answer s h renderer name parts))
  build_disk = build_by (line_status s h renderer name parts) refl

-- a build line
own_build : (s : Session) (h : History) (renderer : RendererId) (name : ℕ) (kind : List ℕ) (parts : List Part) → Bounded s h
    → refusal s h (events.Build renderer name kind parts) ≡ None → Fits s h
    → Fits s (heard h (events.Build renderer name kind parts) (build_answer s h renderer.0 name parts))
own_build s h renderer name kind parts bounded accepted fits =
    let fresh : named name (builds (page_limit s) h) ≡ false = sym (found_named (builds (page_limit s) h) name) ∙
    (tests_fail s h (events.Build renderer name kind parts) accepted).1.0 in
    build_disk s h (events.Build renderer name kind parts) renderer.0 name kind parts bounded.kept bounded.holders fresh
    (λ plan e. ap (λ (a : Answer). builds (page_limit s) (heard h (events.Build renderer name kind parts) a)) e)
    (λ plan n e. build_roots s h (heard h (events.Build renderer name kind parts) plan) renderer.0 name bounded.holders
    (λ holder m has. one_case ((renderer.0 == holder) && (name == m)) (count h holder m) has) n
    (λ held. let who = holder_of (heard h (events.Build renderer name kind parts) plan) n held in (who.0.number, who.1)) e) fits

-- a slice line
own_slice : (s : Session) (h : History) (renderer : RendererId) (name source : ℕ) (from to : Option ℤ) (kind : List ℕ) → Bounded s h
    → refusal s h (events.Slice renderer name source from to kind) ≡ None → Fits s h
    → Fits s (heard h (events.Slice renderer name source from to kind)
    (build_answer s h renderer.0 name (slice_parts (builds (page_limit s) h) source from to)))
own_slice s h renderer name source from to kind bounded accepted fits =
    let fresh : named name (builds (page_limit s) h) ≡ false = sym (found_named (builds (page_limit s) h) name) ∙
    (tests_fail s h (events.Slice renderer name source from to kind) accepted).1.0 in
    build_disk s h (events.Slice renderer name source from to kind) renderer.0 name kind (slice_parts (builds (page_limit s) h) source from to) bounded.kept
    bounded.holders fresh
    (λ plan e. ap (λ (a : Answer). builds (page_limit s) (heard h (events.Slice renderer name source from to kind) a)) e)
    (λ plan n e. build_roots s h (heard h (events.Slice renderer name source from to kind) plan) renderer.0 name bounded.holders
    (λ holder m has. one_case ((renderer.0 == holder) && (name == m)) (count h holder m) has) n
    (λ held. let who = holder_of (heard h (events.Slice renderer name source from to kind) plan) n held in (who.0.number, who.1)) e) fits

build_line : (s : Session) (h : History) (event : Event) (renderer name : ℕ) (parts : List Part) (own : List Answer) → own ≡ build_answer s h renderer name
    parts ∷ [] → Fits s (heard h event (build_answer s h renderer name parts)) → Fits s (after h event own)
build_line s h event renderer name parts own e fits =
    let path : after h event own ≡ heard h event (build_answer s h renderer name parts) = ap (after h event) e ∙ planned_first s h renderer name event parts
    (line_status s h renderer name parts) in
    subst (Fits s) (sym path) fits

-- ---- a segment

segment_line : (s : Session) (h : History) (renderer : RendererId) (b segment : ℕ) (bytes : List ℕ) (own : List Answer) → HoldersSpawned h
    → refusal s h (events.Segment renderer b segment bytes) ≡ None
    → IsAccepted s h (events.Segment renderer b segment bytes) own → Fits s h → Fits s (after h (events.Segment renderer b segment bytes) own)
segment_line s h renderer b segment bytes own holders accepted one fits = go (plan_in s h b) refl one
  where
    dry : (list : List Answer) → own ≡ list → AllDry list → Fits s (after h (events.Segment renderer b segment bytes) own)
    dry list e all = subst (λ (xs : List Answer). Fits s (after h (events.Segment renderer b segment bytes) xs)) (sym e)
        (dry_line s h (events.Segment renderer b segment bytes) list holders accepted refl all fits)

    go : (plan : Option Plan) → plan_in s h b ≡ plan → IsOneOf own ((answers.Taken segment ∷ stored_answers s h b segment plan) ∷ unstored_answers s h segment
        plan) → Fits s (after h (events.Segment renderer b segment bytes) own)
    go (Some (plans.File n)) at (inl e) = subst (λ (xs : List Answer). Fits s (after h (events.Segment renderer b segment bytes) xs)) (sym e)
        (stored_fits s h renderer b segment bytes n holders accepted at fits)
    go (Some (plans.File n)) at (inr (inl e)) = dry (answers.Taken segment ∷ answers.StoreFailed (page_no (next_page h)) ∷ []) e (refl, (refl, tt))
    go (Some (plans.File n)) at (inr (inr none)) = absurd none
    go (Some plans.None) at (inl e) = dry (answers.Taken segment ∷ []) e (refl, tt)
    go (Some plans.None) at (inr none) = absurd none
    go (Some plans.Inline) at (inl e) = dry (answers.Taken segment ∷ []) e (refl, tt)
    go (Some plans.Inline) at (inr none) = absurd none
    go (Some (plans.Shared n)) at (inl e) = dry (answers.Taken segment ∷ []) e (refl, tt)
    go (Some (plans.Shared n)) at (inr none) = absurd none
    go (Some plans.OutOfMemory) at (inl e) = dry (answers.Taken segment ∷ []) e (refl, tt)
    go (Some plans.OutOfMemory) at (inr none) = absurd none
    go (Some (plans.TooMany what)) at (inl e) = dry (answers.Taken segment ∷ []) e (refl, tt)
    go (Some (plans.TooMany what)) at (inr none) = absurd none
    go None at (inl e) = dry (answers.Taken segment ∷ []) e (refl, tt)
    go None at (inr none) = absurd none

-- ---- the disk's reply

job_over : (job : JobNo) (found : Option Job) → not (option_map_or (λ (each : Job). each.number == job.0) found false) ≡ false
    → flying_of (without_job job.0 found) ≡ []
job_over job None e = refl
job_over job (Some each) e = (λ i. flying_of (cond (not_false (each.number == job.0) e i) None (Some each)))

disk_line : (s : Session) (h : History) (job : JobNo) (own : List Answer) → HoldersSpawned h → refusal s h (events.Disk job) ≡ None
    → IsAccepted s h (events.Disk job) own → Fits s h → Fits s (after h (events.Disk job) own)
disk_line s h job own holders accepted one fits = go (job_left (page_limit s) h) refl (source_of (in_flight h)) one
  where
    over : flying_of (without_job job.0 (in_flight h)) ≡ []
    over = job_over job (in_flight h) (tests_fail s h (events.Disk job) accepted).0

    dry : (list : List Answer) → own ≡ list → AllDry list → Fits s (after h (events.Disk job) own)
    dry list e all = subst (λ (xs : List Answer). Fits s (after h (events.Disk job) xs)) (sym e)
        (dry_line s h (events.Disk job) list holders accepted refl all fits)

    go : (list : List ℕ) → job_left (page_limit s) h ≡ list → (source : Option ℕ)
        → IsOneOf own ((job_done h job source list ∷ []) ∷ job_failed h job source list) → Fits s (after h (events.Disk job) own)
    go [] at source (inl e) = dry (answers.Empty job ∷ []) e (refl, tt)
    go [] at source (inr none) = absurd none
    go (n ∷ list) at None (inl e) =
        subst (λ (xs : List Answer). Fits s (after h (events.Disk job) xs)) (sym e)
        (job_written s h (heard h (events.Disk job) (answers.Paged job (page_no (next_page h)) (piece_list (n ∷ list))))
        (record { number = next_page h; pieces = numbers (piece_list (n ∷ list)) })
        (follows_heard s h (events.Disk job) (answers.Paged job (page_no (next_page h)) (piece_list (n ∷ list))) refl)
        (plain_heard s h (events.Disk job) (answers.Paged job (page_no (next_page h)) (piece_list (n ∷ list))) holders accepted refl refl)
        refl refl refl over (numbers_list (n ∷ list) ∙ sym at) fits)
    go (n ∷ list) at None (inr (inl e)) = dry (answers.PageFailed job (page_no (next_page h)) ∷ []) e (refl, tt)
    go (n ∷ list) at None (inr (inr none)) = absurd none
    go (n ∷ list) at (Some file) (inl e) =
        subst (λ (xs : List Answer). Fits s (after h (events.Disk job) xs)) (sym e)
        (job_written s h (heard h (events.Disk job) (answers.Moved job (page_no (next_page h)) (piece_list (n ∷ list))))
        (record { number = next_page h; pieces = numbers (piece_list (n ∷ list)) })
        (follows_heard s h (events.Disk job) (answers.Moved job (page_no (next_page h)) (piece_list (n ∷ list))) refl)
        (plain_heard s h (events.Disk job) (answers.Moved job (page_no (next_page h)) (piece_list (n ∷ list))) holders accepted refl refl)
        refl refl refl over (numbers_list (n ∷ list) ∙ sym at) fits)
    go (n ∷ list) at (Some file) (inr (inl e)) = dry (answers.MoveFailed job (page_no (next_page h)) ∷ []) e (refl, tt)
    go (n ∷ list) at (Some file) (inr (inr (inl e))) = dry (answers.MoveUnread job (page_no file) ∷ []) e (refl, tt)
    go (n ∷ list) at (Some file) (inr (inr (inr none))) = absurd none

-- ---- each group

accepted_disk : (s : Session) (h : History) (event : Event) (own : List Answer) → Bounded s h → refusal s h event ≡ None → IsAccepted s h event own → Fits s h
    → Fits s (after h event own)
accepted_disk s h (events.Build renderer name kind parts) own bounded accepted one fits =
    build_line s h (events.Build renderer name kind parts) renderer.0 name parts own (only_one own (build_answer s h renderer.0 name parts ∷ []) one)
    (own_build s h renderer name kind parts bounded accepted fits)
accepted_disk s h (events.Slice renderer name source from to kind) own bounded accepted one fits =
    build_line s h (events.Slice renderer name source from to kind) renderer.0 name (slice_parts (builds (page_limit s) h) source from to) own
    (only_one own (build_answer s h renderer.0 name (slice_parts (builds (page_limit s) h) source from to) ∷ []) one)
    (own_slice s h renderer name source from to kind bounded accepted fits)
accepted_disk s h (events.Segment renderer b segment bytes) own bounded accepted one fits = segment_line s h renderer b segment bytes own bounded.holders
    accepted one fits
accepted_disk s h (events.Disk job) own bounded accepted one fits = disk_line s h job own bounded.holders accepted one fits
accepted_disk s h event own bounded accepted one fits = dry_line s h event own bounded.holders accepted refl (line_dry s h event own refl refl one) fits

own_by_disk : (s : Session) (h : History) (event : Event) (why : Option Refusal) (own : List Answer) → refusal s h event ≡ why → Bounded s h
    → IsOwnBy s h event why own → Fits s h → Fits s (after h event own)
own_by_disk s h event (Some why) own at bounded e fits = subst (λ (list : List Answer). Fits s (after h event list)) (sym e) (refused_fits s h event why fits)
own_by_disk s h event None own at bounded one fits = accepted_disk s h event own bounded at one fits

pub group_disk : (s : Session) (h : History) (group : Group) → Bounded s h → IsLegalGroup s h group → Fits s h → Fits s (after h group.event group.answers)
group_disk s h group bounded legal fits =
    let owed = settle s (left_files group.answers) (after h group.event legal.own) in
    let path : after h group.event group.answers ≡ said_all (after h group.event legal.own)
    (settle s (left_files group.answers) (after h group.event legal.own)) =
    ap (after h group.event) legal.settles ∙ after_own h group.event legal.own (settle s (left_files group.answers) (after h group.event legal.own))
    (own_first s h group.event legal.own legal.is_own) in
    subst (Fits s) (sym path) (settle_disk s (left_files group.answers) (after h group.event legal.own)
    (own_by_disk s h group.event (refusal s h group.event) legal.own refl bounded legal.is_own fits))

disk_from : (s : Session) (h : History) (groups : List Group) → Bounded s h → Fits s h → IsLegalFrom s h groups → Fits s (history_from h groups)
disk_from s h [] bounded fits legal = fits
disk_from s h (group ∷ groups) bounded fits legal = disk_from s (after h group.event group.answers) groups (group_bounded s h group bounded legal.0)
    (group_disk s h group bounded legal.0 fits) legal.1

pub fits_start : (s : Session) → Fits s start
fits_start s =
    let none : disk (page_limit s) start ≡ 0 = refl in
    (record { low = tt; apart = tt; job_apart = tt; known = λ n e. absurd (false_true e) }, omega (arith, none))

pub disk_fits : (s : Session) (groups : List Group) → IsLegalFrom s start groups → disk (page_limit s) (history_from start groups) ≤ s.limits.disk
disk_fits s groups legal = (disk_from s start groups (bounded_start s) (fits_start s) legal).1
