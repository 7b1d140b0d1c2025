-- In a legal transcript whatever an unfinished live blob takes bytes from lives.
use Rattle.std.proofs.Common.{◌≡◌, ◌⊎◌, ℕ, ◌==◌, Bool, true, false, ◌&&◌, ◌||◌, List, [], ◌∷◌, ◌++◌, reverse, refl, subst, sym, ◌∙◌, inl, inr, ⊎_elim, Option, Some, append_assoc, append-nil, zero-add}
use Rattle.std.specs.Prelude.{cond, is_some}
use Rattle.std.specs.List.{AllByRecursion}
use Rattle.std.proofs.lemmas.Bool.{or_parts, eqb-true}
use Rattle.std.proofs.lemmas.List.{reverse-append}
use Rattle.blob_words.specs.declared.limits.Limits.{Limits}
use Rattle.blob_words.specs.declared.plan.Plan.{Plan}
use Rattle.answer_text.specs.declared.group.Group.{Group}
use Rattle.transport_plan.specs.Spans.{IsEndToEnd, piece_spans}
use Rattle.transport_plan.proofs.SpanLemmas.{pieces_cover}
use Rattle.blob_model.specs.Session.{Session, page_limit}
use Rattle.blob_model.specs.History.{History, start, history_from}
use Rattle.blob_model.specs.Parts.{own_lengths, own_bytes}
use Rattle.blob_model.specs.Builds.{Build, builds}
use Rattle.blob_model.specs.Standing.{is_unfinished}
use Rattle.blob_model.specs.Live.{is_rooted, has_source, is_needed, live_from, live, is_live}
use Rattle.blob_model.specs.Pieces.{planned_spans, spans_of}
use Rattle.blob_model.specs.Legal.{IsLegalFrom}
use Rattle.blob_model.proofs.Lists.{any_reverse, both, false_true, for_both, for_each, or_cases, or_first, or_second}
use Rattle.blob_model.proofs.live.Least.{named}
use Rattle.blob_model.proofs.builds.Order.{AreOrdered}
use Rattle.blob_model.proofs.kept.Groups.{kept_start, kept_from}

-- of blobs in falling order each unfinished one takes bytes from those behind it
abbrev AreFalling : History → List Build → Type 0
AreFalling h [] = Unit {0}
AreFalling h (build ∷ older) = (is_unfinished h build.name ≡ true → (source : ℕ) → has_source build source ≡ true → named source older ≡ true)
    × AreFalling h older

falling : (h : History) (earlier rest : List Build) → AreOrdered earlier rest
    → AllByRecursion (λ (build : Build). is_some build.plan ≡ false → is_unfinished h build.name ≡ false) rest → AreFalling h (reverse earlier)
    → AreFalling h (reverse (earlier ++ rest))
falling h earlier [] ordered broke before = subst (λ (xs : List Build). AreFalling h (reverse xs)) (sym (append-nil earlier)) before
falling h earlier (build ∷ rest) ordered broke before =
    let here : AreFalling h (build ∷ reverse earlier) = (
      (λ begun source has. any_reverse (λ (each : Build). each.name == source) earlier (ordered.1 source (planned (is_some build.plan) broke.0 begun) has)),
      before,
    ) in
    let turned : AreFalling h (reverse (earlier ++ build ∷ [])) = subst (λ (xs : List Build). AreFalling h xs) (sym (reverse-append earlier (build ∷ []))) here
    in
    subst (λ (xs : List Build). AreFalling h (reverse xs)) (append_assoc earlier (build ∷ []) rest)
    (falling h (earlier ++ build ∷ []) rest ordered.2 broke.1 turned)
  where
    planned : (b : Bool) → (b ≡ false → is_unfinished h build.name ≡ false) → is_unfinished h build.name ≡ true → b ≡ true
    planned true f begun = refl
    planned false f begun = absurd (false_true (sym (f refl) ∙ begun))

-- what a live blob takes bytes from lives already or is still to come
abbrev IsMet : History → List Build → List Build → Build → Type 0
IsMet h earlier later build = is_unfinished h build.name ≡ true → (source : ℕ) → has_source build source ≡ true → (named source earlier ≡ true)
    ⊎ (named source later ≡ true)

needed_by : (h : History) (name : ℕ) (list : List Build) → AllByRecursion (λ (build : Build). (is_unfinished h build.name && has_source build name) ≡ true
    → is_needed h list name ≡ true) list
needed_by h name [] = tt
needed_by h name (build ∷ list) = (
  (λ e. or_first (is_unfinished h build.name && has_source build name) (is_needed h list name) e),
  for_each (λ (each : Build). (is_unfinished h each.name && has_source each name) ≡ true → is_needed h list name ≡ true)
      (λ (each : Build). (is_unfinished h each.name && has_source each name) ≡ true → is_needed h (build ∷ list) name ≡ true) list
      (λ each f e. or_second (is_unfinished h build.name && has_source build name) (is_needed h list name) (f e)) (needed_by h name list),
)

closed_from : (page : ℕ) (h : History) (earlier later : List Build) → AreFalling h earlier → AllByRecursion (IsMet h earlier later) later
    → AllByRecursion (λ (build : Build). is_unfinished h build.name ≡ true → (source : ℕ) → has_source build source ≡ true
    → named source (live_from page h earlier later) ≡ true) (live_from page h earlier later)
closed_from page h [] later falls met =
    for_each (IsMet h [] later) (λ (build : Build). is_unfinished h build.name ≡ true → (source : ℕ) → has_source build source ≡ true → named source later
    ≡ true) later
    (λ build one begun source has. ⊎_elim (λ (none : false ≡ true). absurd (false_true none)) (λ (there : named source later ≡ true). there)
    (one begun source has)) met
closed_from page h (x ∷ earlier) later falls met =
    go (is_rooted page h x.name || is_needed h later x.name) refl (λ more. closed_from page h earlier more falls.1)
  where
    grown : AllByRecursion (IsMet h earlier (x ∷ later)) (x ∷ later)
    grown = (
      (λ begun source has. inl (falls.0 begun source has)),
      for_each (IsMet h (x ∷ earlier) later) (IsMet h earlier (x ∷ later)) later
          (λ build one begun source has.
          ⊎_elim
          (λ (front : ((x.name == source) || named source earlier) ≡ true).
          ⊎_elim (λ (here : (x.name == source) ≡ true). inr (or_first (x.name == source) (named source later) here))
          (λ (old : named source earlier ≡ true). inl old) (or_cases (x.name == source) (named source earlier) front))
          (λ (there : named source later ≡ true). inr (or_second (x.name == source) (named source later) there)) (one begun source has)) met,
    )

    skipped : (is_rooted page h x.name || is_needed h later x.name) ≡ false → AllByRecursion (IsMet h earlier later) later
    skipped none =
        for_both (IsMet h (x ∷ earlier) later) (λ (build : Build). (is_unfinished h build.name && has_source build x.name) ≡ true → is_needed h later x.name
        ≡ true) (IsMet h earlier later) later
        (λ build one needs begun source has.
        ⊎_elim
        (λ (front : ((x.name == source) || named source earlier) ≡ true).
        ⊎_elim
        (λ (here : (x.name == source) ≡ true).
        let same : x.name ≡ source = eqb-true x.name source here in
        let has_x : has_source build x.name ≡ true = subst (λ (n : ℕ). has_source build n ≡ true) (sym same) has in
        absurd (false_true (sym (or_parts (is_rooted page h x.name) (is_needed h later x.name) none).1 ∙ needs
        (both (is_unfinished h build.name) (has_source build x.name) begun has_x))))
        (λ (old : named source earlier ≡ true). inl old) (or_cases (x.name == source) (named source earlier) front))
        (λ (there : named source later ≡ true). inr there) (one begun source has)) met (needed_by h x.name later)

    go : (b : Bool) → (is_rooted page h x.name || is_needed h later x.name) ≡ b
        → ((more : List Build) → AllByRecursion (IsMet h earlier more) more
        → AllByRecursion (λ (build : Build). is_unfinished h build.name ≡ true → (source : ℕ) → has_source build source ≡ true
        → named source (live_from page h earlier more) ≡ true) (live_from page h earlier more))
        → AllByRecursion (λ (build : Build). is_unfinished h build.name ≡ true → (source : ℕ) → has_source build source ≡ true
        → named source (live_from page h earlier (cond b (x ∷ later) later)) ≡ true) (live_from page h earlier (cond b (x ∷ later) later))
    go true at rest = rest (x ∷ later) grown
    go false at rest = rest later (skipped at)

pub live_closed : (s : Session) (groups : List Group) → IsLegalFrom s start groups
    → AllByRecursion (λ (build : Build). is_unfinished (history_from start groups) build.name ≡ true → (source : ℕ) → has_source build source ≡ true
    → is_live (page_limit s) (history_from start groups) source ≡ true) (live (page_limit s) (history_from start groups))
live_closed s groups legal =
    let h = history_from start groups in
    let kept = kept_from s start groups (kept_start s) legal in
    closed_from (page_limit s) (history_from start groups) (reverse (builds (page_limit s) (history_from start groups))) []
    (falling (history_from start groups) [] (builds (page_limit s) (history_from start groups)) kept.ordered kept.broke tt) tt

-- ---- pieces

pub cover_pieces : (l : Limits) (build : Build) (plan : Plan) → build.plan ≡ Some plan → IsEndToEnd 0 (spans_of l.page build) (own_bytes build.parts)
cover_pieces l build plan e =
    let covers : IsEndToEnd 0 (piece_spans l.page 0 (own_lengths build.parts)) (own_bytes build.parts) =
    subst (λ (n : ℕ). IsEndToEnd 0 (piece_spans l.page 0 (own_lengths build.parts)) n) (zero-add (own_bytes build.parts))
    (pieces_cover l.page (own_lengths build.parts) 0 l.some_page) in
    subst (λ (o : Option Plan). IsEndToEnd 0 (planned_spans l.page build o) (own_bytes build.parts)) (sym e) covers
