-- After what is settled nothing is owed.
use Rattle.std.proofs.Common.{◌≡◌, ℕ, ◌==◌, Bool, true, false, List, [], ◌∷◌, ◌++◌, map, reverse, refl, ap, subst, sym, ◌∙◌, ⊎_elim}
use Rattle.std.specs.Prelude.{cond, filter, if◌then◌else◌}
use Rattle.std.specs.Option.{option_map_or}
use Rattle.std.specs.List.{AllByRecursion, list_any}
use Rattle.std.proofs.lemmas.Bool.{or_parts, eqb-true, eq-eqb}
use Rattle.answer_text.specs.declared.answer.Answer.{Answer}
use Rattle.answer_text.specs.declared.answer.Answer.TheVariants as answers
use Rattle.blob_model.specs.Session.{Session, page_limit}
use Rattle.blob_model.specs.History.{History, said, said_all}
use Rattle.blob_model.specs.Builds.{Build, builds}
use Rattle.blob_model.specs.Standing.{is_unfinished, is_broken, is_done, was_granted, is_granted, grants_at_once}
use Rattle.blob_model.specs.Transport.{has_all}
use Rattle.blob_model.specs.Waits.{is_waiting, waits}
use Rattle.blob_model.specs.Pages.{Page, pages}
use Rattle.blob_model.specs.Tally.{files}
use Rattle.blob_model.specs.Settle.{drops, endings_of, endings, removal, removals, is_due, grants, page_jobs, compactions, settle_by, settle, IsSettled}
use Rattle.blob_model.proofs.Lists.{false_true, for_both, for_each, or_cases, or_first, or_second}
use Rattle.blob_model.proofs.live.Least.{named}
use Rattle.blob_model.proofs.builds.Order.{ordered_distinct, Distinct, named_filter}
use Rattle.blob_model.proofs.kept.Kept.{Kept}
use Rattle.blob_model.proofs.kept.Groups.{kept_all}
use Rattle.blob_model.proofs.live.Agreement.{said_append, builds_all, drops_test, dropping, drops_done}
use Rattle.blob_model.proofs.settled.Endings.{AllQuiet, waiting_all}
use Rattle.blob_model.proofs.settled.Pass.{Behind, pass_over, pass_empty, quiet_append, drops_break, drops_do}
use Rattle.blob_model.proofs.settled.LateAnswers.{AllLate, AllStill, all_late, all_quiet, late_append, drops_late, broken_late, done_late, granted_still}
use Rattle.blob_model.proofs.settled.Removals.{removals_late, removals_done}
use Rattle.blob_model.proofs.settled.GrantsAndJobs.{grants_done, grants_still, grants_late, granted_waited, page_jobs_still, compactions_still, jobs_done}

-- ---- the steps one after the other

abbrev pub run : List (History → List Answer) → History → History
run [] h = h
run (step ∷ steps) h = run steps (said_all h (step h))

pub settle_run : (steps : List (History → List Answer)) (h : History) → said_all h (settle_by steps h) ≡ run steps h
settle_run [] h = refl
settle_run (step ∷ steps) h = said_append h (step h) (settle_by steps (said_all h (step h))) ∙ settle_run steps (said_all h (step h))

pub none_owed : (steps : List (History → List Answer)) (h : History) → AllByRecursion (λ (step : History → List Answer). step h ≡ []) steps → settle_by steps h
    ≡ []
none_owed [] h all = refl
none_owed (step ∷ steps) h all = (λ i. all.0 i ++ settle_by steps (said_all h (all.0 i))) ∙ none_owed steps h all.1

-- ---- a blob that was granted waited

self_named : (list : List Build) → AllByRecursion (λ (build : Build). named build.name list ≡ true) list
self_named [] = tt
self_named (x ∷ list) = (
  or_first (x.name == x.name) (named x.name list) (eq-eqb x.name x.name refl),
  for_each (λ (build : Build). named build.name list ≡ true) (λ (build : Build). named build.name (x ∷ list) ≡ true) list
      (λ build member. or_second (x.name == build.name) (named build.name list) member) (self_named list),
)

passes_named : (p : Build → Bool) (list : List Build) → Distinct list
    → AllByRecursion (λ (build : Build). named build.name (filter p list) ≡ true → p build ≡ true) list
passes_named p [] d = tt
passes_named p (x ∷ list) d = (
  head (p x),
  for_both (λ (build : Build). named build.name (filter p list) ≡ true → p build ≡ true) (λ (build : Build). named build.name list ≡ true)
      (λ (build : Build). named build.name (cond (p x) (x ∷ filter p list) (filter p list)) ≡ true → p build ≡ true) list
      (λ build rest member. tail build rest member (p x)) (passes_named p list d.1) (self_named list),
)
  where
    head : (b : Bool) → named x.name (cond b (x ∷ filter p list) (filter p list)) ≡ true → b ≡ true
    head true e = refl
    head false e = absurd (false_true (sym (named_filter x.name p list d.0) ∙ e))

    tail : (build : Build) → (named build.name (filter p list) ≡ true → p build ≡ true) → named build.name list ≡ true → (b : Bool)
        → named build.name (cond b (x ∷ filter p list) (filter p list)) ≡ true → p build ≡ true
    tail build rest member false e = rest e
    tail build rest member true e =
        ⊎_elim
        (λ (here : (x.name == build.name) ≡ true).
        let same : x.name ≡ build.name = eqb-true x.name build.name here in
        absurd (false_true (sym d.0 ∙ subst (λ (n : ℕ). named n list ≡ true) (sym same) member)))
        (λ (more : named build.name (filter p list) ≡ true). rest more)
        (or_cases (x.name == build.name) (named build.name (filter p list)) e)

drops_quiet : (list : List Build) → AllQuiet (map dropping list)
drops_quiet [] = tt
drops_quiet (build ∷ list) = (refl, drops_quiet list)

pub drops_grant : (h : History) (list : List Build) (name : ℕ) → was_granted (said_all h (map dropping list)) name ≡ was_granted h name
drops_grant h [] name = refl
drops_grant h (build ∷ list) name = drops_grant (said h (dropping build)) list name

pub removals_still : (s : Session) (unremoved : List ℕ) (h : History) (name : ℕ) → was_granted (said_all h (removals s unremoved h)) name ≡ was_granted h name
removals_still s unremoved h name = go h (filter (is_due h (files (page_limit s) h)) (pages h))
  where
    go : (g : History) (list : List Page) → was_granted (said_all g (map (removal unremoved) list)) name ≡ was_granted g name
    go g [] = refl
    go g (page ∷ list) = go (said g (removal unremoved page)) list ∙ one (list_any (λ (number : ℕ). number == page.number) unremoved)
      where
        one : (b : Bool) → was_granted (said g (if b then answers.Left (record { 0 = page.number }) else answers.Removed (record { 0 = page.number }))) name
            ≡ was_granted g name
        one true = refl
        one false = refl

-- ---- the steps of one settling

module _ (s : Session) (unremoved : List ℕ) (h : History) (kept : Kept s h) where
  abbrev dropped : History
  dropped = said_all h (drops s h)

  abbrev passed : History
  passed = said_all dropped (endings s dropped)

  abbrev swept : History
  swept = said_all passed (drops s passed)

  abbrev removed : History
  removed = said_all swept (removals s unremoved swept)

  abbrev granted : History
  granted = said_all removed (grants s removed)

  abbrev jobbed : History
  jobbed = said_all granted (page_jobs s granted)

  abbrev ended_at : History
  ended_at = said_all jobbed (compactions s jobbed)

  abbrev late : List Answer
  late = removals s unremoved swept ++ (grants s removed ++ (page_jobs s granted ++ compactions s jobbed))

  jobs_still : AllStill (page_jobs s granted ++ compactions s jobbed)
  jobs_still = go (page_jobs s granted) (page_jobs_still s granted)
    where
      go : (xs : List Answer) → AllStill xs → AllStill (xs ++ compactions s jobbed)
      go [] all = compactions_still s jobbed
      go (x ∷ xs) all = (all.0, go xs all.1)

  all_are_late : AllLate late
  all_are_late =
      late_append (removals s unremoved swept) (grants s removed ++ (page_jobs s granted ++ compactions s jobbed))
      (removals_late unremoved (filter (is_due swept (files (page_limit s) swept)) (pages swept)))
      (late_append (grants s removed) (page_jobs s granted ++ compactions s jobbed) (grants_late s removed (waits (page_limit s) removed))
      (all_late (page_jobs s granted ++ compactions s jobbed) jobs_still))

  to_jobs : said_all granted (page_jobs s granted ++ compactions s jobbed) ≡ ended_at
  to_jobs = said_append granted (page_jobs s granted) (compactions s jobbed)

  to_grants : said_all removed (grants s removed ++ (page_jobs s granted ++ compactions s jobbed)) ≡ ended_at
  to_grants = said_append removed (grants s removed) (page_jobs s granted ++ compactions s jobbed) ∙ to_jobs

  to_end : said_all swept late ≡ ended_at
  to_end = said_append swept (removals s unremoved swept) (grants s removed ++ (page_jobs s granted ++ compactions s jobbed)) ∙ to_grants

  no_drops : drops s ended_at ≡ []
  no_drops = subst (λ (g : History). drops s g ≡ []) to_end (drops_late s swept late all_are_late ∙ drops_done s passed)

  no_removals : removals s [] ended_at ≡ []
  no_removals =
      subst (λ (g : History). removals s [] g ≡ []) to_grants
      (removals_done s unremoved [] swept (grants s removed ++ (page_jobs s granted ++ compactions s jobbed))
      (late_append (grants s removed) (page_jobs s granted ++ compactions s jobbed) (grants_late s removed (waits (page_limit s) removed))
      (all_late (page_jobs s granted ++ compactions s jobbed) jobs_still)))

  no_grants : grants s ended_at ≡ []
  no_grants =
      let blobs : Distinct (builds (page_limit s) removed) = ordered_distinct [] (builds (page_limit s) removed)
      (kept_all s swept (removals s unremoved swept) (kept_all s passed (drops s passed)
      (kept_all s dropped (endings s dropped) (kept_all s h (drops s h) kept)))).ordered in
      subst (λ (g : History). grants s g ≡ []) to_jobs
      (grants_still s granted (page_jobs s granted ++ compactions s jobbed) jobs_still (grants_done s removed (waits (page_limit s) removed) blobs refl))

  kept_passed : Kept s passed
  kept_passed = kept_all s dropped (endings s dropped) (kept_all s h (drops s h) kept)

  kept_removed : Kept s removed
  kept_removed = kept_all s swept (removals s unremoved swept) (kept_all s passed (drops s passed) kept_passed)

  -- where the bytes of a blob got room since the pass, it waited at the pass
  waited : (build : Build) → (named build.name (waits (page_limit s) removed) ≡ true → is_waiting removed build ≡ true) → was_granted ended_at build.name ≡ true
      → was_granted passed build.name ≡ false → is_waiting passed build ≡ true
  waited build among now not_yet =
      let at_grants : was_granted granted build.name ≡ true =
      sym (granted_still granted (page_jobs s granted ++ compactions s jobbed) build.name jobs_still) ∙ ap (λ (g : History). was_granted g build.name) to_jobs ∙
      now in
      let before : was_granted removed build.name ≡ false =
      removals_still s unremoved swept build.name ∙ drops_grant passed (filter (drops_test s passed) (reverse (builds (page_limit s) passed))) build.name ∙
      not_yet in
      ⊎_elim
      (λ (was : was_granted removed build.name ≡ true). absurd (false_true (sym before ∙ was)))
      (λ (member : named build.name (waits (page_limit s) removed) ≡ true). waiting_all passed (drops s passed) build
      (waiting_all swept (removals s unremoved swept) build (among member)))
      (granted_waited s removed (waits (page_limit s) removed) build.name at_grants)

  room_later : AllByRecursion (λ (build : Build). is_unfinished passed build.name ≡ true → is_granted (said_all passed (drops s passed ++ late)) build ≡ true
      → is_granted passed build ≡ false → has_all s.limits passed build ≡ false) (builds (page_limit s) dropped)
  room_later =
      let blobs : builds (page_limit s) passed ≡ builds (page_limit s) dropped = builds_all (page_limit s) dropped (endings s dropped) in
      let others : builds (page_limit s) removed ≡ builds (page_limit s) dropped =
      builds_all (page_limit s) swept (removals s unremoved swept) ∙ builds_all (page_limit s) passed (drops s passed) ∙ builds_all (page_limit s) dropped
      (endings s dropped) in
      let lacking : AllByRecursion (λ (build : Build). is_waiting passed build ≡ true → has_all s.limits passed build ≡ false) (builds (page_limit s) dropped) =
      subst (λ (xs : List Build). AllByRecursion (λ (build : Build). is_waiting passed build ≡ true → has_all s.limits passed build ≡ false) xs) blobs
      kept_passed.lacking in
      let among : AllByRecursion (λ (build : Build). named build.name (waits (page_limit s) removed) ≡ true → is_waiting removed build ≡ true)
      (builds (page_limit s) dropped) =
      subst (λ (xs : List Build). AllByRecursion (λ (build : Build). named build.name (waits (page_limit s) removed) ≡ true → is_waiting removed build ≡ true)
      xs) others
      (passes_named (is_waiting removed) (builds (page_limit s) removed) (ordered_distinct [] (builds (page_limit s) removed) kept_removed.ordered)) in
      for_both (λ (build : Build). is_waiting passed build ≡ true → has_all s.limits passed build ≡ false)
      (λ (build : Build). named build.name (waits (page_limit s) removed) ≡ true → is_waiting removed build ≡ true)
      (λ (build : Build). is_unfinished passed build.name ≡ true → is_granted (said_all passed (drops s passed ++ late)) build ≡ true → is_granted passed build
      ≡ false → has_all s.limits passed build ≡ false)
      (builds (page_limit s) dropped) (λ build lacks member begun now not_yet. lacks
      (waited build member (later build now not_yet) (or_parts (option_map_or grants_at_once build.plan false) (was_granted passed build.name) not_yet).1))
      lacking among
    where
      whole : said_all passed (drops s passed ++ late) ≡ ended_at
      whole = said_append passed (drops s passed) late ∙ to_end

      later : (build : Build) → is_granted (said_all passed (drops s passed ++ late)) build ≡ true → is_granted passed build ≡ false
          → was_granted ended_at build.name ≡ true
      later build now not_yet =
          let once : option_map_or grants_at_once build.plan false ≡ false =
          (or_parts (option_map_or grants_at_once build.plan false) (was_granted passed build.name) not_yet).0 in
          let here : is_granted ended_at build ≡ true = subst (λ (g : History). is_granted g build ≡ true) whole now in
          ⊎_elim (λ (at_once : option_map_or grants_at_once build.plan false ≡ true). absurd (false_true (sym once ∙ at_once)))
          (λ (was : was_granted ended_at build.name ≡ true). was)
          (or_cases (option_map_or grants_at_once build.plan false) (was_granted ended_at build.name) here)

  behind : Behind s passed (drops s passed ++ late) (builds (page_limit s) dropped)
  behind = record {
    quiet = quiet_append (drops s passed) late (drops_quiet (filter (drops_test s passed) (reverse (builds (page_limit s) passed))))
        (all_quiet late all_are_late);
    broken =
        λ name. ap (λ (g : History). is_broken g name) (said_append passed (drops s passed) late) ∙ broken_late swept late name all_are_late ∙ drops_break s
        passed (reverse (builds (page_limit s) passed)) name;
    done = λ name. ap (λ (g : History). is_done g name) (said_append passed (drops s passed) late) ∙ done_late swept late name all_are_late ∙ drops_do s passed
        (reverse (builds (page_limit s) passed)) name;
    room = room_later;
  }

  no_endings : endings s ended_at ≡ []
  no_endings =
      let kept_dropped : Kept s dropped = kept_all s h (drops s h) kept in
      let none : endings_of s (said_all passed (drops s passed ++ late)) (builds (page_limit s) dropped) ≡ [] =
      pass_empty s (said_all passed (drops s passed ++ late)) (builds (page_limit s) dropped)
      (pass_over s dropped [] (builds (page_limit s) dropped) (drops s passed ++ late) kept_dropped.ordered kept_dropped.broke behind) in
      let whole : said_all passed (drops s passed ++ late) ≡ ended_at = said_append passed (drops s passed) late ∙ to_end in
      let there : endings_of s ended_at (builds (page_limit s) dropped) ≡ [] = subst (λ (g : History). endings_of s g (builds (page_limit s) dropped) ≡ [])
      whole none in
      let blobs : builds (page_limit s) ended_at ≡ builds (page_limit s) dropped =
      ap (builds (page_limit s)) (sym whole) ∙ builds_all (page_limit s) passed (drops s passed ++ late) ∙ builds_all (page_limit s) dropped (endings s dropped)
      in
      ap (λ (xs : List Build). endings_of s ended_at xs) blobs ∙ there

  pub settled_once : IsSettled s (said_all h (settle s unremoved h))
  settled_once =
      let steps : AllByRecursion (λ (step : History → List Answer). step ended_at ≡ []) (drops s ∷ endings s ∷ drops s ∷ removals s [] ∷ grants s ∷ page_jobs s
      ∷ compactions s ∷ []) =
      (no_drops, (no_endings, (no_drops, (no_removals, (no_grants, ((jobs_done s granted).0, ((jobs_done s granted).1, tt))))))) in
      let last : said_all h (settle s unremoved h) ≡ ended_at = settle_run (drops s ∷ endings s ∷ drops s ∷ removals s unremoved ∷ grants s ∷ page_jobs s
      ∷ compactions s ∷ []) h in
      subst (λ (g : History). IsSettled s g) (sym last)
      (none_owed (drops s ∷ endings s ∷ drops s ∷ removals s [] ∷ grants s ∷ page_jobs s ∷ compactions s ∷ []) ended_at steps)
