-- A piece that no live blob has is had by none later.
use Rattle.std.proofs.Common.{◌≡◌, ◌⊎◌, ℕ, ◌==◌, Bool, true, false, ◌&&◌, List, [], ◌∷◌, refl, ap, subst, sym, ◌∙◌, inl, inr, Option, Some, None}
use Rattle.std.specs.Prelude.{cond, is_none}
use Rattle.std.specs.Option.{option_map_or}
use Rattle.std.proofs.lemmas.Bool.{eqb-true}
use Rattle.blob_words.specs.declared.status.Status.{Status}
use Rattle.blob_words.specs.declared.status.Status.TheVariants as statuses
use Rattle.session_script.specs.declared.event.Event.{Event}
use Rattle.session_script.specs.declared.event.Event.TheVariants as events
use Rattle.session_script.specs.declared.event.Part.{Part}
use Rattle.answer_text.specs.declared.answer.Answer.{Answer}
use Rattle.answer_text.specs.declared.answer.Answer.TheVariants as answers
use Rattle.blob_model.specs.Session.{Session, page_limit}
use Rattle.blob_model.specs.History.{History, start, heard, refused, said}
use Rattle.blob_model.specs.Builds.{builds, slice_parts}
use Rattle.blob_model.specs.Standing.{ended, is_unfinished, is_broken, is_broken_status}
use Rattle.blob_model.specs.Handles.{count}
use Rattle.blob_model.specs.Pieces.{Piece}
use Rattle.blob_model.specs.Reached.{live_cells, owns_some}
use Rattle.blob_model.specs.Construct.{line_status, build_answer}
use Rattle.blob_model.specs.Order.{named}
use Rattle.blob_model.proofs.Lists.{false_true}
use Rattle.blob_model.proofs.kept.Kept.{unfinished_said}
use Rattle.blob_model.proofs.kept.NewBlobs.{tests_fail, found_named, new_build}
use Rattle.blob_model.proofs.live.Roots.{HoldersSpawned, holders_heard, holder_of, one_case}
use Rattle.blob_model.proofs.memory.Shrinking.{Shrinks, holds_before}
use Rattle.blob_model.proofs.memory.Builds.{Adds, holds_old}
use Rattle.blob_model.proofs.memory.Plans.{adds_by}
use Rattle.blob_model.proofs.memory.PlainAnswers.{is_plain, line_plain, plain_said, plain_heard}
use Rattle.blob_model.proofs.memory.Bounded.{build_roots}
use Rattle.blob_model.proofs.legal.PageNumbers.{same_first}
use Rattle.blob_model.proofs.legal.Steps.{kept_caused}
use Rattle.blob_model.proofs.legal.Causes.{IsFurther, by_store, by_unstore, by_drop, by_break, by_done, by_removal, by_grant, by_page_job, by_compaction, IsHeard, IsCaused}

-- ---- holders at each step

pub holders_caused : (s : Session) (h : History) → IsCaused s h → HoldersSpawned h
holders_caused s start caused = λ holder name e. absurd (false_true e)
holders_caused s (heard h event answer) caused = holders_heard s h event answer (holders_caused s h caused.1) caused.0.passes
holders_caused s (refused h event why) caused = holders_caused s h caused.2
holders_caused s (said h answer) caused = holders_caused s h caused.1

-- ---- what a live blob has of older blobs' pieces, a live blob had

-- of pieces of blobs that were built
abbrev pub Falls : Session → History → History → Type 0
Falls s h g = (piece : Piece) → named piece.blob (builds (page_limit s) h) ≡ true → owns_some (live_cells (page_limit s) g) piece ≡ true
    → owns_some (live_cells (page_limit s) h) piece ≡ true

falls_plain : (s : Session) (h g : History) → Shrinks (page_limit s) h g → Falls s h g
falls_plain s h g shrinks piece member e = holds_before (page_limit s) h g piece shrinks e

falls_build : (s : Session) (h : History) (event : Event) (renderer name : ℕ) (kind : List ℕ) (parts : List Part) (answer : Answer)
    → Adds (page_limit s) h (heard h event (build_answer s h renderer name parts)) (new_build s h renderer name kind parts)
    → answer ≡ build_answer s h renderer name parts → Falls s h (heard h event answer)
falls_build s h event renderer name kind parts answer adds e =
    subst (λ (a : Answer). Falls s h (heard h event a)) (sym e)
    (λ piece member owned. holds_old (page_limit s) h (heard h event (build_answer s h renderer name parts)) (new_build s h renderer name kind parts) adds piece
    member owned)

pub falls_heard : (s : Session) (h : History) (event : Event) (answer : Answer) → IsHeard s h event answer → IsCaused s h → Falls s h (heard h event answer)
falls_heard s h (events.Build renderer name kind parts) answer line caused = go line.own
  where
    holders : HoldersSpawned h
    holders = holders_caused s h caused

    fresh : named name (builds (page_limit s) h) ≡ false
    fresh = sym (found_named (builds (page_limit s) h) name) ∙ (tests_fail s h (events.Build renderer name kind parts) line.passes).1.0

    go : ((answer ∷ line.rest) ≡ build_answer s h renderer.0 name parts ∷ []) ⊎ ⊥ → Falls s h (heard h (events.Build renderer name kind parts) answer)
    go (inr never) = absurd never
    go (inl e) =
        falls_build s h (events.Build renderer name kind parts) renderer.0 name kind parts answer
        (adds_by s h (events.Build renderer name kind parts) renderer.0 name kind parts (kept_caused s h caused) holders fresh
        (λ plan same. ap (λ (a : Answer). builds (page_limit s) (heard h (events.Build renderer name kind parts) a)) same)
        (λ plan n root. build_roots s h (heard h (events.Build renderer name kind parts) plan) renderer.0 name holders
        (λ holder m has. one_case ((renderer.0 == holder) && (name == m)) (count h holder m) has) n
        (λ held. let who = holder_of (heard h (events.Build renderer name kind parts) plan) n held in (who.0.number, who.1)) root)
        (line_status s h renderer.0 name parts) refl)
        (same_first answer (build_answer s h renderer.0 name parts) line.rest [] e)
falls_heard s h (events.Slice renderer name source from to kind) answer line caused = go line.own
  where
    holders : HoldersSpawned h
    holders = holders_caused s h caused

    parts : List Part
    parts = slice_parts (builds (page_limit s) h) source from to

    fresh : named name (builds (page_limit s) h) ≡ false
    fresh = sym (found_named (builds (page_limit s) h) name) ∙ (tests_fail s h (events.Slice renderer name source from to kind) line.passes).1.0

    go : ((answer ∷ line.rest) ≡ build_answer s h renderer.0 name (slice_parts (builds (page_limit s) h) source from to) ∷ []) ⊎ ⊥
        → Falls s h (heard h (events.Slice renderer name source from to kind) answer)
    go (inr never) = absurd never
    go (inl e) =
        falls_build s h (events.Slice renderer name source from to kind) renderer.0 name kind (slice_parts (builds (page_limit s) h) source from to) answer
        (adds_by s h (events.Slice renderer name source from to kind) renderer.0 name kind (slice_parts (builds (page_limit s) h) source from to)
        (kept_caused s h caused) holders fresh
        (λ plan same. ap (λ (a : Answer). builds (page_limit s) (heard h (events.Slice renderer name source from to kind) a)) same)
        (λ plan n root. build_roots s h (heard h (events.Slice renderer name source from to kind) plan) renderer.0 name holders
        (λ holder m has. one_case ((renderer.0 == holder) && (name == m)) (count h holder m) has) n
        (λ held. let who = holder_of (heard h (events.Slice renderer name source from to kind) plan) n held in (who.0.number, who.1)) root)
        (line_status s h renderer.0 name (slice_parts (builds (page_limit s) h) source from to)) refl)
        (same_first answer (build_answer s h renderer.0 name (slice_parts (builds (page_limit s) h) source from to)) line.rest [] e)
falls_heard s h event answer line caused =
    falls_plain s h (heard h event answer) (plain_heard s h event answer (holders_caused s h caused) line.passes refl
    (line_plain s h event (answer ∷ line.rest) refl line.own).0)

-- a blob that was broken is broken still where another one ends
broken_on : (h : History) (name : ℕ) (end : Status) (n : ℕ) → is_unfinished h name ≡ true → is_broken h n ≡ true → option_map_or is_broken_status
    (cond (name == n) (Some end) (ended h n)) false ≡ true
broken_on h name end n begun f = pick (name == n) refl
  where
    unbroken : (found : Option Status) → is_none found ≡ true → option_map_or is_broken_status found false ≡ true → ⊥
    unbroken None p q = false_true q
    unbroken (Some x) p q = false_true p

    pick : (c : Bool) → (name == n) ≡ c → option_map_or is_broken_status (cond c (Some end) (ended h n)) false ≡ true
    pick false at = f
    pick true at = absurd (unbroken (ended h n) (subst (λ (m : ℕ). is_unfinished h m ≡ true) (eqb-true name n at) begun) f)

-- an answer that ends an unfinished blob
ends_shrink : (s : Session) (h : History) (answer : Answer) (name : ℕ) (status : Status) → is_unfinished h name ≡ true
    → (answer ≡ answers.Dropped name) ⊎ ((answer ≡ answers.Done name) ⊎ ((answer ≡ answers.Broken name status) × (is_broken_status status ≡ true)))
    → Falls s h (said h answer)
ends_shrink s h answer name status begun (inl e) = subst (λ (a : Answer). Falls s h (said h a)) (sym e)
    (falls_plain s h (said h (answers.Dropped name)) (record {
      blobs = refl;
      roots = λ n f. f;
      begun = λ n f. unfinished_said h (answers.Dropped name) n f;
      broken = λ n f. broken_on h name statuses.Dereferenced n begun f;
      granted = λ n f. f;
      unlisted = λ n f. f;
    }))
ends_shrink s h answer name status begun (inr (inl e)) = subst (λ (a : Answer). Falls s h (said h a)) (sym e)
    (falls_plain s h (said h (answers.Done name)) (record {
      blobs = refl;
      roots = λ n f. f;
      begun = λ n f. unfinished_said h (answers.Done name) n f;
      broken = λ n f. broken_on h name statuses.Done n begun f;
      granted = λ n f. f;
      unlisted = λ n f. f;
    }))
ends_shrink s h answer name status begun (inr (inr e)) = subst (λ (a : Answer). Falls s h (said h a)) (sym e.0)
    (falls_plain s h (said h (answers.Broken name status)) (record {
      blobs = refl;
      roots = λ n f. f;
      begun = λ n f. unfinished_said h (answers.Broken name status) n f;
      broken = λ n f. pick (ended h n) (name == n) f;
      granted = λ n f. f;
      unlisted = λ n f. f;
    }))
  where
    pick : (found : Option Status) (c : Bool) → option_map_or is_broken_status found false ≡ true → option_map_or is_broken_status (cond c (Some status) found)
        false ≡ true
    pick found true f = e.1
    pick found false f = f

plain_by : (s : Session) (h : History) (answer other : Answer) → answer ≡ other → is_plain other ≡ true → Falls s h (said h answer)
plain_by s h answer other e plain = falls_plain s h (said h answer) (plain_said (page_limit s) h answer (ap is_plain e ∙ plain))

pub falls_said : (s : Session) (h : History) (answer : Answer) → IsFurther s h answer → Falls s h (said h answer)
falls_said s h answer (by_store g renderer b segment bytes n same passes at e) = plain_by s h answer _ e refl
falls_said s h answer (by_unstore g renderer b segment bytes n same passes at e) = plain_by s h answer _ e refl
falls_said s h answer (by_drop build found begun unrooted e) = ends_shrink s h answer build.name statuses.Done begun (inl e)
falls_said s h answer (by_break build found begun status broken e) = ends_shrink s h answer build.name status begun (inr (inr (e, broken)))
falls_said s h answer (by_done build found begun complete e) = ends_shrink s h answer build.name statuses.Done begun (inr (inl e))
falls_said s h answer (by_removal number written left (inl e)) = plain_by s h answer _ e refl
falls_said s h answer (by_removal number written left (inr e)) = plain_by s h answer _ e refl
falls_said s h answer (by_grant build found e) = subst (λ (a : Answer). Falls s h (said h a)) (sym e) (λ piece member owned. owned)
falls_said s h answer (by_page_job number more may chosen e) = plain_by s h answer _ e refl
falls_said s h answer (by_compaction file may found e) = plain_by s h answer _ e refl
