-- Right behind a line's own answers the entries agree with the history, and whatever lives stands.
use Rattle.std.proofs.Common.{◌≡◌, ℕ, Bool, true, false, cond, not, ◌&&◌, ◌||◌, List, [], ◌∷◌, ◌++◌, map, filter, reverse, append-nil, refl, ap, sym, subst, ◌∙◌, Option, Some, None}
use Rattle.std.specs.List.{list_any, AllByRecursion}
use Rattle.std.proofs.lemmas.Bool.{eq-eqb, or_parts}
use Rattle.answer_text.specs.declared.answer.Answer.{Answer}
use Rattle.answer_text.specs.declared.answer.Answer.TheVariants as answers
use Rattle.answer_text.specs.declared.group.Group.{Group}
use Rattle.answer_text.specs.declared.refusal.Refusal.{Refusal}
use Rattle.data_handles.specs.Table.{Table as HandleTable}
use Rattle.page_disk.specs.declared.change.Change.{Change}
use Rattle.session_script.specs.declared.event.Event.{Event}
use Rattle.session_script.specs.declared.event.Event.TheVariants as events
use Rattle.blob_model.specs.Builds.{Build, builds, slice_parts}
use Rattle.blob_model.specs.Construct.{build_answer, line_status}
use Rattle.blob_model.specs.History.{History, after, has_ended, heard, heard_first, history_from, said, said_all, start}
use Rattle.blob_model.specs.Legal.{IsLegalFrom}
use Rattle.blob_model.specs.Live.{is_live}
use Rattle.blob_model.specs.Own.{IsAccepted, IsOwn, IsOwnBy}
use Rattle.blob_model.specs.Refusals.{refusal}
use Rattle.blob_model.specs.Session.{Session, page_limit}
use Rattle.blob_model.specs.Settle.{compactions, drops, endings, grants, page_jobs, removals}
use Rattle.blob_model.specs.Standing.{ended, is_unfinished}
use Rattle.blob_model.proofs.Lists.{all_more, any_reverse, false_true, for_each, or_first, or_second}
use Rattle.blob_model.proofs.builds.Growth.{builds-other, only_one, planned_first}
use Rattle.blob_model.proofs.kept.Groups.{kept_from, kept_own, kept_start}
use Rattle.blob_model.proofs.kept.Kept.{unfinished_heard, unfinished_said}
use Rattle.blob_model.proofs.kept.NewBlobs.{new_build}
use Rattle.blob_model.proofs.legal.Causes.{breaks, by_store, by_unstore, idle, is_idle, is_reply, loses, own_case, replies, stores, unstores, IsCaused, OwnCase}
use Rattle.blob_model.proofs.legal.Steps.{caused_from, distinct_of}
use Rattle.blob_model.proofs.live.Reached.{all_empty}
use Rattle.blob_model.proofs.memory.Bounded.{bounded_from, bounded_start}
use Rattle.blob_model.proofs.settled.Groups.{settled_after}
use Rattle.blob_model.proofs.texts.Ranges.{ends_well}
use Rattle.store_laws.specs.BehindLaws.{CanDrop}
use Rattle.store_laws.specs.Rooted.{AreInOrder, AreRooted}
use Rattle.store_laws.specs.Stands.{Between, Parts, is_built_by, stood}
use Rattle.store_laws.proofs.Agreeing.{agrees}
use Rattle.store_laws.proofs.ApartHistories.{readers_apart, urls_apart}
use Rattle.store_laws.proofs.OwnLives.{own_lives, told_build, told_slice}
use Rattle.store_laws.proofs.Resting.{ends_apart}
use Rattle.store_laws.proofs.Rooted.{roots_agree}

-- ---- each step has its cause

module _ (s : Session) (h : History) (event : Event) (still : has_ended h ≡ false) (caused : IsCaused s h) where
  idle_heard : (answer : Answer) → is_idle answer ≡ true → heard_first h event answer ≡ heard h event answer
  idle_heard (answers.Refused why) e = absurd (false_true e)
  idle_heard answer e = refl

  reply_heard : (answer : Answer) → is_reply answer ≡ true → heard_first h event answer ≡ heard h event answer
  reply_heard (answers.Refused why) e = absurd (false_true e)
  reply_heard answer e = refl

  module _ (passes : refusal s h event ≡ None) (own : List Answer) (one : IsAccepted s h event own) where
    -- a line with one answer
    alone : (answer : Answer) → own ≡ answer ∷ [] → heard_first h event answer ≡ heard h event answer → IsCaused s (after h event own)
    alone answer e first =
        subst (λ (list : List Answer). IsCaused s (after h event list)) (sym e)
        (subst (IsCaused s) (sym first)
        (record { still_open = still; passes = passes; rest = []; own = subst (IsAccepted s h event) e one }, caused))

    by_case : OwnCase s h event own → IsCaused s (after h event own)
    by_case (idle answer e free) = alone answer e (idle_heard answer free)
    by_case (breaks b status broken building e) = alone (answers.Broken b status) e refl
    by_case (replies job answer same e reply done) = alone answer e (reply_heard answer reply)
    by_case (loses job same e) = alone (answers.LostJob job) e refl
    by_case (stores renderer b segment bytes n same at e) =
        subst (λ (list : List Answer). IsCaused s (after h event list)) (sym e) (
          by_store h renderer b segment bytes n (ap (λ (line : Event). heard h line (answers.Taken segment)) same)
              (subst (λ (line : Event). refusal s h line ≡ None) same passes) at refl,
          (record { still_open = still; passes = passes; rest = _; own = subst (IsAccepted s h event) e one }, caused),
        )
    by_case (unstores renderer b segment bytes n same at e) =
        subst (λ (list : List Answer). IsCaused s (after h event list)) (sym e) (
          by_unstore h renderer b segment bytes n (ap (λ (line : Event). heard h line (answers.Taken segment)) same)
              (subst (λ (line : Event). refusal s h line ≡ None) same passes) at refl,
          (record { still_open = still; passes = passes; rest = _; own = subst (IsAccepted s h event) e one }, caused),
        )

  own_by_caused : (why : Option Refusal) (own : List Answer) → refusal s h event ≡ why → IsOwnBy s h event why own → IsCaused s (after h event own)
  own_by_caused (Some why) own at is = subst (λ (list : List Answer). IsCaused s (after h event list)) (sym is) (still, at, caused)
  own_by_caused None own at is = by_case at own is (own_case s h event own is)

-- ---- what is unfinished stands

module _ (page : ℕ) (h : History) where
  pub unfinished_back : (event : Event) (own : List Answer) (name : ℕ) → is_unfinished (after h event own) name ≡ true → is_unfinished h name ≡ true
  unfinished_back event [] name e = e
  unfinished_back event (answer ∷ more) name e = first answer (all (heard_first h event answer) more e)
    where
      all : (g : History) (list : List Answer) → is_unfinished (said_all g list) name ≡ true → is_unfinished g name ≡ true
      all g [] f = f
      all g (one ∷ list) f = unfinished_said g one name (all (said g one) list f)

      first : (one : Answer) → is_unfinished (heard_first h event one) name ≡ true → is_unfinished h name ≡ true
      first (answers.Refused why) f = f
      first one f = unfinished_heard h event one name f

  abbrev dies : Build → Bool
  dies build = is_unfinished h build.name && not (is_live page h build.name)

  abbrev Lives : Build → Type 0
  Lives build = is_unfinished h build.name ≡ true → is_live page h build.name ≡ true

  lives_else : (build : Build) → dies build ≡ false → Lives build
  lives_else build none begun = by (is_unfinished h build.name) (is_live page h build.name) begun none
    where
      by : (a b : Bool) → a ≡ true → (a && not b) ≡ false → b ≡ true
      by a true e f = refl
      by true false e f = absurd (false_true (sym f))
      by false false e f = e

  any_left : {X : Type 0} (p : X → Bool) (tell : X → Answer) (xs : List X) → list_any p xs ≡ true → map tell (filter p xs) ≡ [] → ⊥
  any_left p tell [] e none = false_true e
  any_left {X = X} p tell (x ∷ xs) e none = by (p x) e none (any_left p tell xs)
    where
      by : (b : Bool) → (b || list_any p xs) ≡ true → map tell (cond b (x ∷ filter p xs) (filter p xs)) ≡ []
          → (list_any p xs ≡ true → map tell (filter p xs) ≡ [] → ⊥) → ⊥
      by true f gone rest = cc gone
      by false f gone rest = rest f gone

  each_lives : (list : List Build) → list_any dies list ≡ false → AllByRecursion Lives list
  each_lives [] none = tt
  each_lives (build ∷ list) none =
      let parts = or_parts (dies build) (list_any dies list) none in (lives_else build parts.0, each_lives list parts.1)

  -- where no drop is owed
  unfinished_lives : (list : List Build) → map (λ (build : Build). answers.Dropped build.name) (filter dies (reverse list)) ≡ [] → AllByRecursion Lives list
  unfinished_lives list none = each_lives list (by (list_any dies list) refl)
    where
      by : (b : Bool) → list_any dies list ≡ b → b ≡ false
      by false at = refl
      by true at = absurd (any_left dies (λ (build : Build). answers.Dropped build.name) (reverse list) (any_reverse dies list at) none)

abbrev IsCovered : Session → History → Event → List Answer → Build → Type 0
IsCovered s h event own build = is_unfinished (after h event own) build.name ≡ true → stood (page_limit s) h event own build.name ≡ true

abbrev AllLive : Session → History → Type 0
AllLive s h = AllByRecursion (Lives (page_limit s) h) (builds (page_limit s) h)

module _ (s : Session) (h : History) (event : Event) (own : List Answer) (lives : AllLive s h) where
  old_covered : AllByRecursion (IsCovered s h event own) (builds (page_limit s) h)
  old_covered =
      for_each (Lives (page_limit s) h) (IsCovered s h event own) (builds (page_limit s) h)
      (λ build live begun.
      or_second (is_built_by event own build.name) (is_live (page_limit s) h build.name)
      (live (unfinished_back (page_limit s) h event own build.name begun))) lives

  -- with a blob that the line built
  built_covered : (new : Build) → builds (page_limit s) (after h event own) ≡ builds (page_limit s) h ++ new ∷ [] → is_built_by event own new.name ≡ true
      → AllByRecursion (IsCovered s h event own) (builds (page_limit s) (after h event own))
  built_covered new adds told =
      subst (AllByRecursion (IsCovered s h event own)) (sym adds)
      (all_more (IsCovered s h event own) (builds (page_limit s) h) new old_covered
      (λ begun. or_first (is_built_by event own new.name) (is_live (page_limit s) h new.name) told))

  same_covered : builds (page_limit s) (after h event own) ≡ builds (page_limit s) h
      → AllByRecursion (IsCovered s h event own) (builds (page_limit s) (after h event own))
  same_covered same = subst (AllByRecursion (IsCovered s h event own)) (sym same) old_covered

accepted_covered : (s : Session) (h : History) (event : Event) (own : List Answer)
    → AllLive s h
    → IsAccepted s h event own → AllByRecursion (IsCovered s h event own) (builds (page_limit s) (after h event own))
accepted_covered s h (events.Build renderer name kind parts) own lives one =
    let e = only_one own (build_answer s h renderer.0 name parts ∷ []) one in
    let path = ap (after h (events.Build renderer name kind parts)) e
    ∙ planned_first s h renderer.0 name (events.Build renderer name kind parts) parts (line_status s h renderer.0 name parts) in
    built_covered s h (events.Build renderer name kind parts) own lives (new_build s h renderer.0 name kind parts) (ap (builds (page_limit s)) path)
    (ap (λ (list : List Answer). is_built_by (events.Build renderer name kind parts) list name) e
    ∙ told_build s h renderer name kind parts (line_status s h renderer.0 name parts) name ∙ eq-eqb name name refl)
accepted_covered s h (events.Slice renderer name source from to kind) own lives one =
    let parts = slice_parts (builds (page_limit s) h) source from to in
    let e = only_one own (build_answer s h renderer.0 name parts ∷ []) one in
    let path = ap (after h (events.Slice renderer name source from to kind)) e
    ∙ planned_first s h renderer.0 name (events.Slice renderer name source from to kind) parts (line_status s h renderer.0 name parts) in
    built_covered s h (events.Slice renderer name source from to kind) own lives (new_build s h renderer.0 name kind parts) (ap (builds (page_limit s)) path)
    (ap (λ (list : List Answer). is_built_by (events.Slice renderer name source from to kind) list name) e
    ∙ told_slice s h renderer name source from to kind parts (line_status s h renderer.0 name parts) name ∙ eq-eqb name name refl)
accepted_covered s h event own lives one = same_covered s h event own lives (builds-other (page_limit s) h event own refl)

own_covered : (s : Session) (h : History) (event : Event) (why : Option Refusal) (own : List Answer)
    → AllLive s h
    → IsOwnBy s h event why own → AllByRecursion (IsCovered s h event own) (builds (page_limit s) (after h event own))
own_covered s h event (Some why) own lives is = same_covered s h event own lives (ap (λ (list : List Answer). builds (page_limit s) (after h event list)) is)
own_covered s h event None own lives is = accepted_covered s h event own lives is

-- ---- the drops can be told

module _ (s : Session) (groups : List Group) (event : Event) (own : List Answer) (legal : IsLegalFrom s start groups)
    (still : has_ended (history_from start groups) ≡ false) (is_own : IsOwn s (history_from start groups) event own) where
  abbrev h : History
  h = history_from start groups

  abbrev behind : History
  behind = after (history_from start groups) event own

  pub caused_behind : IsCaused s behind
  caused_behind = own_by_caused s h event still (caused_from s groups legal) (refusal s h event) own refl is_own

  covered : AllByRecursion (IsCovered s h event own) (builds (page_limit s) behind)
  covered =
      let settled = all_empty (drops s ∷ endings s ∷ drops s ∷ removals s [] ∷ grants s ∷ page_jobs s ∷ compactions s ∷ []) h (settled_after s groups legal) in
      own_covered s h event (refusal s h event) own (unfinished_lives (page_limit s) h (builds (page_limit s) h) settled.0) is_own

  pub can_drop : (parts : Parts) (told : Option (List Change)) (table : HandleTable)
      → Between s behind (stood (page_limit s) h event own) parts told table → AreInOrder parts.renderers → AreRooted parts
      → CanDrop s behind (stood (page_limit s) h event own) parts.book
  can_drop parts told table between ordered rooted =
      let kept = kept_own s h event own own [] (kept_from s start groups (kept_start s) legal) is_own (sym (append-nil own)) in
      let distinct = distinct_of s behind kept in
      let living = own_lives s h event own (bounded_from s start groups (bounded_start s) legal) is_own in
      record {
        distinct = distinct;
        agree =
            agrees s behind (stood (page_limit s) h event own) parts.book parts.shares parts.rows parts.quota parts.pages parts.recent between.contents
            (record { living = living; unfinished = covered })
            (λ name. ends_apart (ended behind name) (ends_well s behind name caused_behind))
            (roots_agree s behind (stood (page_limit s) h event own) parts told table between (urls_apart s behind caused_behind)
            (readers_apart s behind caused_behind) ordered rooted distinct);
        living = living;
      }
