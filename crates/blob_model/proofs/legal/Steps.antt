-- Each step of a legal transcript has its cause, and what follows for page files, names and renderers.
use Rattle.std.proofs.Common.{◌≡◌, ℕ, ◌==◌, Bool, true, false, ◌||◌, List, [], ◌∷◌, ◌++◌, map, refl, ap, subst, sym, ◌∙◌, ◌⊎◌, inl, inr, Option, Some, None, append-nil, ◌<◌, ◌+◌, arith}
use Rattle.std.specs.List.{AllByRecursion, IsDistinct, list_any}
use Rattle.std.proofs.lemmas.Bool.{or_parts, or_from, ne_eqb}
use Rattle.std.proofs.lemmas.List.Folds.{list_any-append}
use Rattle.session_script.specs.declared.event.Event.{Event}
use Rattle.session_script.specs.declared.event.Event.TheVariants as events
use Rattle.answer_text.specs.declared.answer.Answer.{Answer}
use Rattle.answer_text.specs.declared.answer.Answer.TheVariants as answers
use Rattle.answer_text.specs.declared.refusal.Refusal.{Refusal}
use Rattle.answer_text.specs.declared.group.Group.{Group}
use Rattle.blob_model.specs.Session.{Session, page_limit}
use Rattle.blob_model.specs.History.{History, start, heard, refused, said, heard_first, said_all, after, history_from, has_ended}
use Rattle.blob_model.specs.Renderers.{Renderer, spawned, is_spawned, is_dead}
use Rattle.blob_model.specs.Builds.{builds, slice_parts}
use Rattle.blob_model.specs.Construct.{build_answer}
use Rattle.blob_model.specs.Pages.{Page, pages, pages_after, asked, asked_after}
use Rattle.blob_model.specs.Waits.{is_waiting, waits}
use Rattle.blob_model.specs.Refusals.{refusal}
use Rattle.blob_model.specs.Settle.{drops, endings, removals, grants, page_jobs, compactions, settle}
use Rattle.blob_model.specs.Own.{IsAccepted, IsOwnBy}
use Rattle.blob_model.specs.Legal.{left_files, IsLegalGroup, IsLegalFrom}
use Rattle.blob_model.specs.Order.{Distinct}
use Rattle.blob_model.specs.PageLaws.{RiseWithin, page_numbers}
use Rattle.blob_model.proofs.Lists.{all_more, any_append_first, false_true, filter_all, for_each}
use Rattle.blob_model.proofs.kept.Kept.{Kept, kept_said, kept_refused}
use Rattle.blob_model.proofs.settled.Removals.{was_asked}
use Rattle.blob_model.proofs.live.Roots.{alive_spawned}
use Rattle.blob_model.proofs.builds.Order.{ordered_distinct, all_found}
use Rattle.blob_model.proofs.kept.NewBlobs.{tests_fail}
use Rattle.blob_model.proofs.kept.Groups.{kept_all, kept_own, kept_start, kept_group, kept_by_build, kept_by_slice, kept_other}
use Rattle.blob_model.proofs.settled.Groups.{own_first, after_own}
use Rattle.blob_model.proofs.settled.Settling.{settle_run}
use Rattle.blob_model.proofs.legal.Causes.{was_written, is_idle, is_reply, OwnCase, idle, breaks, stores, unstores, replies, loses, own_case, IsBuilt, IsFurther, by_store, by_unstore, by_drop, by_break, by_done, by_removal, by_grant, by_page_job, by_compaction, IsHeard, IsCaused, AreApartPages, drops_caused, endings_caused, removals_caused, granting_caused, page_jobs_caused, compactions_caused}
use Rattle.blob_model.proofs.legal.PageNumbers.{pages_rise, same_first}

-- ---- what is settled

-- each blob is found by its name
pub builds_found : (s : Session) (h : History) → Kept s h → AllByRecursion (IsBuilt s h) (builds (page_limit s) h)
builds_found s h kept = all_found (builds (page_limit s) h) (builds (page_limit s) h) (ordered_distinct [] (builds (page_limit s) h) kept.ordered)
    (λ build member. refl)

pub distinct_of : (s : Session) (h : History) → Kept s h → Distinct (builds (page_limit s) h)
distinct_of s h kept = ordered_distinct [] (builds (page_limit s) h) kept.ordered

pub rising_apart : (from below : ℕ) (list : List Page) → RiseWithin from below (map (λ (file : Page). file.number) list) → AreApartPages list
rising_apart from below [] rise = tt
rising_apart from below (file ∷ list) rise = (
  later_apart file.number (file.number + 1) below list (omega arith) rise.2,
  rising_apart (file.number + 1) below
      list rise.2,
)
  where
    later_apart : (number from below : ℕ) (list : List Page) → number < from → RiseWithin from below (map (λ (each : Page). each.number) list)
        → list_any (λ (each : Page). each.number == number) list ≡ false
    later_apart number from below [] low rise = refl
    later_apart number from below (x ∷ list) low rise =
        let here = rise.0 in
        let other : (x.number == number) ≡ false = ne_eqb x.number number (λ same. absurd (omega (arith, here, low, same))) in
        rw (other, later_apart number (x.number + 1) below list (omega (arith, here, low)) rise.2) refl

settle_caused : (s : Session) (unremoved : List ℕ) (h : History) → Kept s h → IsCaused s h → IsCaused s (said_all h (settle s unremoved h))
settle_caused s unremoved h kept caused =
    let h1 = said_all h (drops s h) in
    let h2 = said_all h1 (endings s h1) in
    let h3 = said_all h2 (drops s h2) in
    let h4 = said_all h3 (removals s unremoved h3) in
    let h5 = said_all h4 (grants s h4) in
    let h6 = said_all h5 (page_jobs s h5) in
    let last = settle_run (drops s ∷ endings s ∷ drops s ∷ removals s unremoved ∷ grants s ∷ page_jobs s ∷ compactions s ∷ []) h in
    let k1 : Kept s (said_all h (drops s h)) = kept_all s h (drops s h) kept in
    let k2 : Kept s (said_all (said_all h (drops s h)) (endings s (said_all h (drops s h)))) = kept_all s h1 (endings s h1) k1 in
    let k3 : Kept s h3 = kept_all s h2 (drops s h2) k2 in
    let k4 : Kept s h4 = kept_all s h3 (removals s unremoved h3) k3 in
    let c1 : IsCaused s h1 = drops_caused s h (distinct_of s h kept) (builds_found s h kept) caused in
    let c2 : IsCaused s h2 = endings_caused s h1 (builds (page_limit s) h1) (builds_found s h1 k1) c1 in
    let c3 : IsCaused s h3 = drops_caused s h2 (distinct_of s h2 k2) (builds_found s h2 k2) c2 in
    let rise = pages_rise s h3 c3 in
    let c4 : IsCaused s h4 = removals_caused s unremoved h3 (rising_apart 0 _ (pages h3) rise) c3 in
    let c5 : IsCaused s h5 = granting_caused s h4 (waits (page_limit s) h4)
    (filter_all (IsBuilt s h4) (is_waiting h4) (builds (page_limit s) h4) (builds_found s h4 k4)) c4 in
    let c6 : IsCaused s h6 = page_jobs_caused s h5 c5 in
    subst (IsCaused s) (sym last) (compactions_caused s h6 c6)

-- ---- the own answers

not_refused : (h : History) (event : Event) (answer : Answer) → is_idle answer ≡ true → heard_first h event answer ≡ heard h event answer
not_refused h event (answers.Refused why) e = absurd (false_true e)
not_refused h event answer e = refl

reply_heard : (h : History) (event : Event) (answer : Answer) → is_reply answer ≡ true → heard_first h event answer ≡ heard h event answer
reply_heard h event (answers.Refused why) e = absurd (false_true e)
reply_heard h event answer e = refl

heard_caused : (s : Session) (h : History) (event : Event) (own : List Answer) → has_ended h ≡ false → refusal s h event ≡ None → IsAccepted s h event own
    → IsCaused s h → OwnCase s h event own → IsCaused s (after h event own)
heard_caused s h event own still passes one caused (idle answer e free) =
    subst (λ (list : List Answer). IsCaused s (after h event list)) (sym e)
    (subst (IsCaused s) (sym (not_refused h event answer free))
    (record { still_open = still; passes = passes; rest = []; own = subst (IsAccepted s h event) e one }, caused))
heard_caused s h event own still passes one caused (breaks b status broken building e) =
    subst (λ (list : List Answer). IsCaused s (after h event list)) (sym e)
    (record { still_open = still; passes = passes; rest = []; own = subst (IsAccepted s h event) e one }, caused)
heard_caused s h event own still passes one caused (stores renderer b segment bytes n same at e) =
    subst (λ (list : List Answer). IsCaused s (after h event list)) (sym e) (
      by_store h renderer b segment bytes n (ap (λ (line : Event). heard h line (answers.Taken segment)) same)
          (subst (λ (line : Event). refusal s h line ≡ None) same passes) at refl,
      (record { still_open = still; passes = passes; rest = _; own = subst (IsAccepted s h event) e one }, caused),
    )
heard_caused s h event own still passes one caused (unstores renderer b segment bytes n same at e) =
    subst (λ (list : List Answer). IsCaused s (after h event list)) (sym e) (
      by_unstore h renderer b segment bytes n (ap (λ (line : Event). heard h line (answers.Taken segment)) same)
          (subst (λ (line : Event). refusal s h line ≡ None) same passes) at refl,
      (record { still_open = still; passes = passes; rest = _; own = subst (IsAccepted s h event) e one }, caused),
    )
heard_caused s h event own still passes one caused (replies job answer same e reply done) =
    subst (λ (list : List Answer). IsCaused s (after h event list)) (sym e)
    (subst (IsCaused s) (sym (reply_heard h event answer reply))
    (record { still_open = still; passes = passes; rest = []; own = subst (IsAccepted s h event) e one }, caused))
heard_caused s h event own still passes one caused (loses job same e) =
    subst (λ (list : List Answer). IsCaused s (after h event list)) (sym e)
    (record { still_open = still; passes = passes; rest = []; own = subst (IsAccepted s h event) e one }, caused)

own_caused : (s : Session) (h : History) (event : Event) (why : Option Refusal) (own : List Answer) → refusal s h event ≡ why → has_ended h ≡ false
    → IsOwnBy s h event why own → IsCaused s h → IsCaused s (after h event own)
own_caused s h event (Some why) own at still e caused = subst (λ (list : List Answer). IsCaused s (after h event list)) (sym e) (still, at, caused)
own_caused s h event None own at still one caused = heard_caused s h event own still at one caused (own_case s h event own one)

pub group_caused : (s : Session) (h : History) (group : Group) → Kept s h → IsCaused s h → IsLegalGroup s h group
    → IsCaused s (after h group.event group.answers)
group_caused s h group kept caused legal =
    let own = legal.own in
    let owed = settle s (left_files group.answers) (after h group.event own) in
    let kept_here : Kept s (after h group.event own) = kept_own s h group.event own own [] kept legal.is_own (sym (append-nil own)) in
    let path : after h group.event group.answers ≡ said_all (after h group.event own) owed = ap (after h group.event) legal.settles ∙ after_own h group.event
    own owed (own_first s h group.event own legal.is_own) in
    subst (IsCaused s) (sym path) (settle_caused s (left_files group.answers) (after h group.event own) kept_here
    (own_caused s h group.event (refusal s h group.event) own refl legal.open_still legal.is_own caused))

caused_on : (s : Session) (h : History) (groups : List Group) → Kept s h → IsCaused s h → IsLegalFrom s h groups → IsCaused s (history_from h groups)
caused_on s h [] kept caused legal = caused
caused_on s h (group ∷ groups) kept caused legal = caused_on s (after h group.event group.answers) groups (kept_group s h group kept legal.0)
    (group_caused s h group kept caused legal.0) legal.1

-- each step of a legal transcript has its cause
pub caused_from : (s : Session) (groups : List Group) → IsLegalFrom s start groups → IsCaused s (history_from start groups)
caused_from s groups legal = caused_on s start groups (kept_start s) tt legal

-- ---- page files asked for

-- page files asked for were written, and once each
abbrev AskedWell : History → Type 0
AskedWell h = AllByRecursion (λ (number : ℕ). was_written h number ≡ true) (asked h) × IsDistinct ◌==◌ (asked h)

written_more : (answer : Answer) (list : List Page) (number : ℕ) → list_any (λ (each : Page). each.number == number) list ≡ true
    → list_any (λ (each : Page). each.number == number) (pages_after answer list) ≡ true
written_more (answers.Stored file piece) list number e = any_append_first (λ (each : Page). each.number == number) list _ e
written_more (answers.Paged job file more) list number e = any_append_first (λ (each : Page). each.number == number) list _ e
written_more (answers.Moved job file more) list number e = any_append_first (λ (each : Page). each.number == number) list _ e
written_more answer list number e = e

-- a removal, or an answer that asks for none
removal_case : (s : Session) (h : History) (answer : Answer) → IsFurther s h answer
    → ((number : ℕ) × (was_written h number ≡ true) × (was_asked h number ≡ false) × (asked (said h answer) ≡ asked h ++ number ∷ []))
    ⊎ (asked (said h answer) ≡ asked h)
removal_case s h answer (by_store g renderer b segment bytes n same passes at e) = inr (ap (λ (a : Answer). asked_after a (asked h)) e)
removal_case s h answer (by_unstore g renderer b segment bytes n same passes at e) = inr (ap (λ (a : Answer). asked_after a (asked h)) e)
removal_case s h answer (by_drop build found begun unrooted e) = inr (ap (λ (a : Answer). asked_after a (asked h)) e)
removal_case s h answer (by_break build found begun status broken e) = inr (ap (λ (a : Answer). asked_after a (asked h)) e)
removal_case s h answer (by_done build found begun complete e) = inr (ap (λ (a : Answer). asked_after a (asked h)) e)
removal_case s h answer (by_removal number written left (inl e)) = inl (number, written, left, ap (λ (a : Answer). asked_after a (asked h)) e)
removal_case s h answer (by_removal number written left (inr e)) = inl (number, written, left, ap (λ (a : Answer). asked_after a (asked h)) e)
removal_case s h answer (by_grant build found e) = inr (ap (λ (a : Answer). asked_after a (asked h)) e)
removal_case s h answer (by_page_job number more may chosen e) = inr (ap (λ (a : Answer). asked_after a (asked h)) e)
removal_case s h answer (by_compaction file may found e) = inr (ap (λ (a : Answer). asked_after a (asked h)) e)

idle_asks : (h : History) (event : Event) (answer : Answer) → is_idle answer ≡ true → asked (heard h event answer) ≡ asked h
idle_asks h event (answers.Removed file) e = absurd (false_true e)
idle_asks h event (answers.Left file) e = absurd (false_true e)
idle_asks h event answer e = refl

reply_asks : (h : History) (event : Event) (answer : Answer) → is_reply answer ≡ true → asked (heard h event answer) ≡ asked h
reply_asks h event (answers.Removed file) e = absurd (false_true e)
reply_asks h event (answers.Left file) e = absurd (false_true e)
reply_asks h event answer e = refl

-- the first answer of a line asks for no removal
first_asks : (s : Session) (h : History) (event : Event) (answer : Answer) (rest : List Answer) → OwnCase s h event (answer ∷ rest)
    → asked (heard h event answer) ≡ asked h
first_asks s h event answer rest (idle one e free) = ap (λ (a : Answer). asked_after a (asked h)) (same_first answer one rest [] e) ∙ idle_asks h event one free
first_asks s h event answer rest (breaks b status broken building e) = ap (λ (a : Answer). asked_after a (asked h)) (same_first answer _ rest [] e)
first_asks s h event answer rest (stores renderer b segment bytes n same at e) = ap (λ (a : Answer). asked_after a (asked h)) (same_first answer _ rest _ e)
first_asks s h event answer rest (unstores renderer b segment bytes n same at e) = ap (λ (a : Answer). asked_after a (asked h)) (same_first answer _ rest _ e)
first_asks s h event answer rest (replies job one same e reply done) = ap (λ (a : Answer). asked_after a (asked h)) (same_first answer one rest [] e) ∙
    reply_asks h event one reply
first_asks s h event answer rest (loses job same e) = ap (λ (a : Answer). asked_after a (asked h)) (same_first answer _ rest [] e)

still_written : (answer : Answer) (list : List Page) (numbers : List ℕ)
    → AllByRecursion (λ (number : ℕ). list_any (λ (each : Page). each.number == number) list ≡ true) numbers
    → AllByRecursion (λ (number : ℕ). list_any (λ (each : Page). each.number == number) (pages_after answer list) ≡ true) numbers
still_written answer list numbers all =
    for_each (λ (number : ℕ). list_any (λ (each : Page). each.number == number) list ≡ true)
    (λ (number : ℕ). list_any (λ (each : Page). each.number == number) (pages_after answer list) ≡ true) numbers
    (λ number e. written_more answer list number e) all

distinct_more : (list : List ℕ) (number : ℕ) → IsDistinct ◌==◌ list → list_any (λ (each : ℕ). each == number) list ≡ false
    → IsDistinct ◌==◌ (list ++ number ∷ [])
unfolding IsDistinct
distinct_more [] number distinct e = (tt, tt)
distinct_more (x ∷ list) number distinct e =
    let parts = or_parts (x == number) (list_any (λ (each : ℕ). each == number) list) e in
    (all_more (λ (each : ℕ). (x == each) ≡ false) list number distinct.0 parts.0, distinct_more list number distinct.1 parts.1)

distinct_none : IsDistinct {K = ℕ} ◌==◌ []
unfolding IsDistinct
distinct_none = tt

asked_step : (h : History) (answer : Answer)
    → ((number : ℕ) × (was_written h number ≡ true) × (was_asked h number ≡ false) × (asked_after answer (asked h) ≡ asked h ++ number ∷ []))
    ⊎ (asked_after answer (asked h) ≡ asked h)
    → AskedWell h
    → AllByRecursion (λ (number : ℕ). list_any (λ (each : Page). each.number == number) (pages_after answer (pages h)) ≡ true) (asked_after answer (asked h))
    × IsDistinct ◌==◌ (asked_after answer (asked h))
asked_step h answer (inr e) well = (
  subst (AllByRecursion (λ (number : ℕ). list_any (λ (each : Page). each.number == number) (pages_after answer (pages h)) ≡ true)) (sym e)
      (still_written answer (pages h) (asked h) well.0),
  subst (IsDistinct ◌==◌) (sym e) well.1,
)
asked_step h answer (inl one) well = (
  subst (AllByRecursion (λ (number : ℕ). list_any (λ (each : Page). each.number == number) (pages_after answer (pages h)) ≡ true)) (sym one.3)
      (all_more (λ (number : ℕ). list_any (λ (each : Page). each.number == number) (pages_after answer (pages h)) ≡ true) (asked h) one.0
      (still_written answer (pages h) (asked h) well.0)
      (written_more answer (pages h) one.0 one.1)),
  subst (IsDistinct ◌==◌) (sym one.3) (distinct_more (asked h) one.0 well.1 one.2),
)

pub asked_well : (s : Session) (h : History) → IsCaused s h → AskedWell h
asked_well s start caused = (tt, distinct_none)
asked_well s (heard h event answer) caused =
    asked_step h answer (inr (first_asks s h event answer caused.0.rest (own_case s h event (answer ∷ caused.0.rest) caused.0.own))) (asked_well s h caused.1)
asked_well s (refused h event why) caused = asked_well s h caused.2
asked_well s (said h answer) caused = asked_step h answer (removal_case s h answer caused.0) (asked_well s h caused.1)

-- the same by the numbers of the page files
pub asked_listed : (s : Session) (h : History) → IsCaused s h
    → AllByRecursion (λ (number : ℕ). list_any (λ (each : ℕ). each == number) (page_numbers h) ≡ true) (asked h) × IsDistinct ◌==◌ (asked h)
asked_listed s h caused =
    let well = asked_well s h caused in (
      for_each (λ (number : ℕ). was_written h number ≡ true) (λ (number : ℕ). list_any (λ (each : ℕ). each == number) (page_numbers h) ≡ true) (asked h)
          (λ number e. by_number number (pages h) ∙ e) well.0,
      well.1,
    )
  where
    by_number : (number : ℕ) (list : List Page) → list_any (λ (each : ℕ). each == number) (map (λ (file : Page). file.number) list)
        ≡ list_any (λ (each : Page). each.number == number) list
    by_number number [] = refl
    by_number number (file ∷ list) = ap (λ (b : Bool). (file.number == number) || b) (by_number number list)

-- ---- renderers

-- who was never spawned is not dead
pub unspawned_alive : (s : Session) (h : History) (number : ℕ) → IsCaused s h → has_ended h ≡ false → is_spawned h number ≡ false → is_dead h number ≡ false
unspawned_alive s start number caused still fresh = refl
unspawned_alive s (heard h event answer) number caused still fresh =
    go event caused.0.passes still fresh (λ before. unspawned_alive s h number caused.1 caused.0.still_open before)
  where
    go : (line : Event) → refusal s h line ≡ None → has_ended (heard h line answer) ≡ false → is_spawned (heard h line answer) number ≡ false
        → (is_spawned h number ≡ false → is_dead h number ≡ false)
        → is_dead (heard h line answer) number ≡ false
    go (events.Spawn renderer origin) passes open_still new rest =
        rest (or_parts (is_spawned h number) ((renderer.0 == number) || false)
        (sym (list_any-append (λ (each : Renderer). each.number == number) (spawned h) (record { number = renderer.0; origin = origin } ∷ [])) ∙ new)).0
    go (events.Die renderer) passes open_still new rest =
        let known : is_spawned h renderer.0 ≡ true = alive_spawned h renderer.0 (tests_fail s h (events.Die renderer) passes).0 in
        let other : (renderer.0 == number) ≡ false = ne_eqb renderer.0 number
        (λ same. false_true (sym new ∙ subst (λ (n : ℕ). is_spawned h n ≡ true) same known)) in
        or_from (renderer.0 == number) (is_dead h number) other (rest new)
    go events.Finish passes open_still new rest = absurd (false_true (sym open_still))
    go line passes open_still new rest = rest new
unspawned_alive s (refused h event why) number caused still fresh = unspawned_alive s h number caused.2 still fresh
unspawned_alive s (said h answer) number caused still fresh = unspawned_alive s h number caused.1 still fresh

-- ---- order and handles at each step

kept_heard : (s : Session) (h : History) (event : Event) (answer : Answer) → IsHeard s h event answer → Kept s h → Kept s (heard h event answer)
kept_heard s h (events.Build renderer name kind parts) answer line kept = go line.own
  where
    go : ((answer ∷ line.rest) ≡ build_answer s h renderer.0 name parts ∷ []) ⊎ ⊥ → Kept s (heard h (events.Build renderer name kind parts) answer)
    go (inr never) = absurd never
    go (inl e) =
        subst (λ (a : Answer). Kept s (heard h (events.Build renderer name kind parts) a)) (sym (same_first answer _ line.rest [] e))
        (kept_by_build s h renderer name kind parts kept line.passes)
kept_heard s h (events.Slice renderer name source from to kind) answer line kept = go line.own
  where
    go : ((answer ∷ line.rest) ≡ build_answer s h renderer.0 name (slice_parts (builds (page_limit s) h) source from to) ∷ []) ⊎ ⊥
        → Kept s (heard h (events.Slice renderer name source from to kind) answer)
    go (inr never) = absurd never
    go (inl e) =
        subst (λ (a : Answer). Kept s (heard h (events.Slice renderer name source from to kind) a)) (sym (same_first answer _ line.rest [] e))
        (kept_by_slice s h renderer name source from to kind kept line.passes)
kept_heard s h event answer line kept = kept_other s h event answer kept line.passes refl

pub kept_caused : (s : Session) (h : History) → IsCaused s h → Kept s h
kept_caused s start caused = kept_start s
kept_caused s (heard h event answer) caused = kept_heard s h event answer caused.0 (kept_caused s h caused.1)
kept_caused s (refused h event why) caused = kept_refused s h event why (kept_caused s h caused.2)
kept_caused s (said h answer) caused = kept_said s h answer (kept_caused s h caused.1)
