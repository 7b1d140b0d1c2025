-- Grants keep the bytes in memory within the limit, and so does what is settled.
use Rattle.std.proofs.Common.{◌≡◌, ◌⊎◌, ℕ, ◌+◌, ◌≤◌, ◌==◌, Bool, true, false, ◌&&◌, ◌||◌, not, List, [], ◌∷◌, map, refl, ap, subst, sym, ◌∙◌, inl, inr, ⊎_elim, arith, Option, Some, None}
use Rattle.std.specs.Prelude.{cond, filter, is_none, nat_le, if◌then◌else◌}
use Rattle.std.specs.Option.{option_map_or}
use Rattle.std.specs.List.{AllByRecursion}
use Rattle.std.proofs.lemmas.Bool.{and_parts, eqb-true, eq-eqb, leb-true}
use Rattle.answer_text.specs.declared.answer.Answer.TheVariants as answers
use Rattle.blob_words.specs.declared.limits.Limits.{Limits}
use Rattle.blob_model.specs.Session.{Session, page_limit}
use Rattle.blob_model.specs.History.{History, said, said_all}
use Rattle.blob_model.specs.Parts.{own_bytes}
use Rattle.blob_model.specs.Builds.{Cell, Build, builds, build_in}
use Rattle.blob_model.specs.Standing.{is_broken, was_granted, is_granted, grants_at_once}
use Rattle.blob_model.specs.Live.{live}
use Rattle.blob_model.specs.Pieces.{Piece, pieces}
use Rattle.blob_model.specs.Reached.{live_cells, is_granted_piece, owns_some}
use Rattle.blob_model.specs.Pages.{pages, page_with, place_in, is_memory}
use Rattle.blob_model.specs.Tally.{memory, bytes_of, files}
use Rattle.blob_model.specs.Waits.{is_waiting, waits}
use Rattle.blob_model.specs.Settle.{drops, endings, is_due, removals, grants_of, grants, page_jobs, compactions, settle}
use Rattle.blob_model.proofs.Lists.{both, or_cases, or_first, or_second}
use Rattle.blob_model.proofs.builds.Order.{Distinct, ordered_distinct, all_found}
use Rattle.blob_model.proofs.live.Agreement.{live_alike, builds_all, rooted_said}
use Rattle.blob_model.proofs.kept.Kept.{Kept}
use Rattle.blob_model.proofs.kept.Groups.{kept_all}
use Rattle.blob_model.proofs.settled.LateAnswers.{AllLate, ended_late, broken_late, pages_late, memory_still}
use Rattle.blob_model.proofs.settled.Removals.{removals_late}
use Rattle.blob_model.proofs.settled.GrantsAndJobs.{waits_next, page_jobs_still, compactions_still}
use Rattle.blob_model.proofs.settled.Settling.{settle_run, removals_still}
use Rattle.blob_model.proofs.memory.Shrinking.{Shrinks, memory_shrinks}
use Rattle.blob_model.proofs.memory.Steps.{drops_shrink, endings_shrink, sum_either, of_blob, blob_bytes}

-- ---- removals

pub removals_shrink : (s : Session) (unremoved : List ℕ) (h : History) → Shrinks (page_limit s) h (said_all h (removals s unremoved h))
removals_shrink s unremoved h =
    let late : AllLate (removals s unremoved h) = removals_late unremoved (filter (is_due h (files (page_limit s) h)) (pages h)) in
    record {
      blobs = builds_all (page_limit s) h (removals s unremoved h);
      roots = λ name e. sym (rooted_said (page_limit s) h (removals s unremoved h) name) ∙ e;
      begun = λ name e. subst (λ o. is_none o ≡ true) (ended_late h (removals s unremoved h) name late) e;
      broken = λ name e. broken_late h (removals s unremoved h) name late ∙ e;
      granted = λ name e. sym (removals_still s unremoved h name) ∙ e;
      unlisted = λ number e. subst (λ xs. page_with xs number ≡ None) (pages_late h (removals s unremoved h) late) e;
    }

-- ---- one grant

granted_or : (h : History) (name : ℕ) (found : Option Build) (blob : ℕ) → ((build : Build) → found ≡ Some build → build.name ≡ blob)
    → option_map_or (is_granted (said h (answers.Granted name))) found false ≡ true
    → (option_map_or (is_granted h) found false ≡ true) ⊎ ((blob == name) ≡ true)
granted_or h name None blob at e = inl e
granted_or h name (Some build) blob at e =
    ⊎_elim (λ (once : option_map_or grants_at_once build.plan false ≡ true). inl
    (or_first (option_map_or grants_at_once build.plan false) (was_granted h build.name) once))
    (λ (was : ((name == build.name) || was_granted h build.name) ≡ true).
    ⊎_elim (λ (here : (name == build.name) ≡ true). inr (eq-eqb blob name (sym (at build refl) ∙ sym (eqb-true name build.name here))))
    (λ (before : was_granted h build.name ≡ true). inl (or_second (option_map_or grants_at_once build.plan false) (was_granted h build.name) before))
    (or_cases (name == build.name) (was_granted h build.name) was))
    (or_cases (option_map_or grants_at_once build.plan false) (was_granted (said h (answers.Granted name)) build.name) e)

pub found_name : (list : List Build) (name : ℕ) (build : Build) → build_in list name ≡ Some build → build.name ≡ name
found_name [] name build e = cc
found_name (x ∷ list) name build e = go (x.name == name) refl e (found_name list name build)
  where
    go : (b : Bool) → (x.name == name) ≡ b → cond b (Some x) (build_in list name) ≡ Some build → (build_in list name ≡ Some build → build.name ≡ name)
        → build.name ≡ name
    go true at f rest = let same : x ≡ build = cc in subst (λ (y : Build). y.name ≡ name) same (eqb-true x.name name at)
    go false at f rest = rest f

grant_adds : (l : Limits) (h : History) (name : ℕ) → memory l.page (said h (answers.Granted name)) ≤ memory l.page h + of_blob name (pieces l.page h)
grant_adds l h name =
    let page = l.page in
    let lives : live l.page (said h (answers.Granted name)) ≡ live l.page h = live_alike l.page h (said h (answers.Granted name)) refl (λ n. refl)
    (λ n alive. refl) in
    let cells : live_cells l.page (said h (answers.Granted name)) ≡ live_cells l.page h =
    ap (λ (xs : List Build). map (λ (build : Build). build.cells) (filter (λ (build : Build). not (is_broken h build.name)) xs)) lives in
    let more = sum_either (λ (piece : Piece). piece.len) (λ (piece : Piece). is_memory (place_in h (builds l.page h) piece))
    (λ (piece : Piece). is_granted_piece (said h (answers.Granted name)) (builds l.page h) piece && owns_some (live_cells l.page h) piece)
    (λ (piece : Piece). is_memory (place_in h (builds l.page h) piece))
    (λ (piece : Piece). is_granted_piece h (builds l.page h) piece && owns_some (live_cells l.page h) piece)
    (λ (piece : Piece). piece.blob == name) (pieces l.page h)
    (λ piece at_memory at_reach.
    let parts = and_parts (is_granted_piece (said h (answers.Granted name)) (builds l.page h) piece) (owns_some (live_cells l.page h) piece) at_reach in
    ⊎_elim (λ (was : is_granted_piece h (builds l.page h) piece ≡ true). inl
    (at_memory, both (is_granted_piece h (builds l.page h) piece) (owns_some (live_cells l.page h) piece) was parts.1))
    (λ (own : (piece.blob == name) ≡ true). inr own)
    (granted_or h name (build_in (builds l.page h) piece.blob) piece.blob (found_name (builds l.page h) piece.blob) parts.0)) in
    subst (λ (xs : List (List Cell)). bytes_of (filter (λ (piece : Piece). is_memory (place_in h (builds l.page h) piece))
    (filter (λ (piece : Piece). is_granted_piece (said h (answers.Granted name)) (builds l.page h) piece && owns_some xs piece) (pieces l.page h)))
    ≤ memory l.page h + of_blob name (pieces l.page h)) (sym cells) more

-- ---- all grants

pub all_filtered : (P : Build → Type 0) (test : Build → Bool) (list : List Build) → AllByRecursion P list → AllByRecursion P (filter test list)
all_filtered P test [] all = tt
all_filtered P test (x ∷ list) all = go (test x) (all_filtered P test list all.1)
  where
    go : (b : Bool) → AllByRecursion P (filter test list) → AllByRecursion P (cond b (x ∷ filter test list) (filter test list))
    go true rest = (all.0, rest)
    go false rest = rest

grants_fit : (s : Session) (h : History) (list : List Build) → Distinct (builds (page_limit s) h) → waits (page_limit s) h ≡ list → memory (page_limit s) h ≤
    s.limits.memory
    → memory (page_limit s) (said_all h (grants_of s h list)) ≤ s.limits.memory
grants_fit s h [] distinct e fits = fits
grants_fit s h (build ∷ more) distinct e fits =
    go (nat_le (memory (page_limit s) h + own_bytes build.parts) s.limits.memory) refl
    (grants_fit s (said h (answers.Granted build.name)) more distinct (waits_next (page_limit s) h build more distinct e))
  where
    self : build_in (builds (page_limit s) h) build.name ≡ Some build
    self =
        (subst (λ (xs : List Build). AllByRecursion (λ (each : Build). build_in (builds (page_limit s) h) each.name ≡ Some each) xs) e
        (all_filtered (λ (each : Build). build_in (builds (page_limit s) h) each.name ≡ Some each) (is_waiting h) (builds (page_limit s) h)
        (all_found (builds (page_limit s) h) (builds (page_limit s) h) distinct (λ each member. refl)))).0

    go : (b : Bool) → nat_le (memory (page_limit s) h + own_bytes build.parts) s.limits.memory ≡ b
        → (memory (page_limit s) (said h (answers.Granted build.name)) ≤ s.limits.memory
        → memory (page_limit s) (said_all (said h (answers.Granted build.name)) (grants_of s (said h (answers.Granted build.name)) more)) ≤ s.limits.memory)
        → memory (page_limit s) (said_all h (if b then answers.Granted build.name ∷ grants_of s (said h (answers.Granted build.name)) more else [])) ≤
        s.limits.memory
    go false at rest = fits
    go true at rest =
        let room : memory (page_limit s) h + own_bytes build.parts ≤ s.limits.memory = leb-true (memory (page_limit s) h + own_bytes build.parts)
        s.limits.memory at in
        let adds = grant_adds s.limits h build.name in
        let own = blob_bytes s.limits 0 build.name (builds (page_limit s) h) distinct in
        let bytes : option_map_or (λ (each : Build). own_bytes each.parts) (build_in (builds (page_limit s) h) build.name) 0 ≡ own_bytes build.parts =
        ap (λ (o : Option Build). option_map_or (λ (each : Build). own_bytes each.parts) o 0) self in
        rest (omega (arith, room, adds, own, bytes))

-- ---- a whole settling

pub settle_fits : (s : Session) (unremoved : List ℕ) (h : History) → Kept s h → memory (page_limit s) h ≤ s.limits.memory
    → memory (page_limit s) (said_all h (settle s unremoved h)) ≤ s.limits.memory
settle_fits s unremoved h kept fits =
    let h1 = said_all h (drops s h) in
    let h2 = said_all h1 (endings s h1) in
    let h3 = said_all h2 (drops s h2) in
    let h4 = said_all h3 (removals s unremoved h3) in
    let h5 = said_all h4 (grants s h4) in
    let h6 = said_all h5 (page_jobs s h5) in
    let h7 = said_all h6 (compactions s h6) in
    let kept4 : Kept s h4 = kept_all s h3 (removals s unremoved h3) (kept_all s h2 (drops s h2) (kept_all s h1 (endings s h1) (kept_all s h (drops s h) kept)))
    in
    let m1 = memory_shrinks (page_limit s) h h1 (drops_shrink s h) in
    let m2 = memory_shrinks (page_limit s) h1 h2 (endings_shrink s h1) in
    let m3 = memory_shrinks (page_limit s) h2 h3 (drops_shrink s h2) in
    let m4 = memory_shrinks (page_limit s) h3 h4 (removals_shrink s unremoved h3) in
    let f4 : memory (page_limit s) h4 ≤ s.limits.memory = omega (arith, fits, m1, m2, m3, m4) in
    let f5 : memory (page_limit s) h5 ≤ s.limits.memory = grants_fit s h4 (waits (page_limit s) h4)
    (ordered_distinct [] (builds (page_limit s) h4) kept4.ordered) refl f4 in
    let e6 : memory (page_limit s) h6 ≡ memory (page_limit s) h5 = memory_still (page_limit s) h5 (page_jobs s h5) (page_jobs_still s h5) in
    let e7 : memory (page_limit s) h7 ≡ memory (page_limit s) h6 = memory_still (page_limit s) h6 (compactions s h6) (compactions_still s h6) in
    let last : said_all h (settle s unremoved h) ≡ h7 = settle_run (drops s ∷ endings s ∷ drops s ∷ removals s unremoved ∷ grants s ∷ page_jobs s
    ∷ compactions s ∷ []) h in
    subst (λ (g : History). memory (page_limit s) g ≤ s.limits.memory) (sym last) (omega (arith, f5, e6, e7))
