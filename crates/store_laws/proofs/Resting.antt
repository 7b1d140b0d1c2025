-- In a settled history each source of an unfinished live blob lives and isn't broken.
use Rattle.std.proofs.Common.{◌≡◌, ℕ, ◌⊎◌, Bool, true, false, List, [], ◌∷◌, refl, ap, subst, sym, ◌∙◌, Option, Some, None, ⊎_elim, cond}
use Rattle.std.specs.Prelude.{filter, IfSome}
use Rattle.std.specs.Option.{option_to_list}
use Rattle.std.specs.List.{AllByRecursion, list_any}
use Rattle.blob_words.specs.declared.status.Status.{Status}
use Rattle.blob_words.specs.declared.status.Status.TheVariants as statuses
use Rattle.answer_text.specs.declared.answer.Answer.{Answer}
use Rattle.answer_text.specs.declared.group.Group.{Group}
use Rattle.blob_entries.specs.Statuses.{is_pending}
use Rattle.blob_model.specs.Session.{Session, page_limit}
use Rattle.blob_model.specs.History.{History, history_from, said_all, start}
use Rattle.blob_model.specs.Builds.{Build, builds}
use Rattle.blob_model.specs.Legal.{IsLegalFrom}
use Rattle.blob_model.specs.Live.{has_source, is_live}
use Rattle.blob_model.specs.Parts.{sources}
use Rattle.blob_model.specs.Settle.{compactions, drops, ending, ending_answers, ending_tests, endings, endings_of, grants, page_jobs, removals}
use Rattle.blob_model.specs.Standing.{ended, is_broken, is_broken_status, is_unfinished}
use Rattle.blob_model.proofs.Lists.{false_true}
use Rattle.blob_model.proofs.builds.Cells.{none_applies}
use Rattle.blob_model.proofs.builds.Order.{ordered_distinct}
use Rattle.blob_model.proofs.kept.Groups.{kept_from, kept_start}
use Rattle.blob_model.proofs.kept.NewBlobs.{fails_at}
use Rattle.blob_model.proofs.legal.Steps.{caused_from}
use Rattle.blob_model.proofs.live.Closed.{live_closed}
use Rattle.blob_model.proofs.live.Names.{live_named}
use Rattle.blob_model.proofs.live.Reached.{all_empty, nil_parts}
use Rattle.blob_model.proofs.settled.Groups.{settled_after}
use Rattle.blob_model.proofs.texts.Ranges.{IsEnd, ends_well}
use Rattle.store_laws.specs.ReachLaws.{IsAtRest}

-- no blob ended with a status of one to end
pub ends_apart : (found : Option Status) → IfSome found IsEnd → IfSome found (λ (status : Status). is_pending status ≡ false)
ends_apart None end = tt
ends_apart (Some status) end =
    ⊎_elim (λ (done : status ≡ statuses.Done). ap is_pending done)
    (λ (rest : (is_broken_status status ≡ true) ⊎ (status ≡ statuses.Dereferenced)).
    ⊎_elim (λ (broken : is_broken_status status ≡ true). by status broken) (λ (dropped : status ≡ statuses.Dereferenced). ap is_pending dropped) rest) end
  where
    by : (status : Status) → is_broken_status status ≡ true → is_pending status ≡ false
    by statuses.PendingQuota e = absurd (false_true e)
    by statuses.PendingTransport e = absurd (false_true e)
    by statuses.PendingReferencedBlobs e = absurd (false_true e)
    by status e = refl

-- what passes a test is said of those that pass
unfiltered : (P : Build → Type 0) (test : Build → Bool) (xs : List Build) → AllByRecursion P (filter test xs)
    → AllByRecursion (λ (x : Build). test x ≡ true → P x) xs
unfiltered P test [] all = tt
unfiltered P test (x ∷ xs) all = go (test x) refl all (unfiltered P test xs)
  where
    go : (b : Bool) → test x ≡ b → AllByRecursion P (cond b (x ∷ filter test xs) (filter test xs))
        → (AllByRecursion P (filter test xs) → AllByRecursion (λ (y : Build). test y ≡ true → P y) xs) → AllByRecursion (λ (y : Build). test y ≡ true
        → P y) (x ∷ xs)
    go true at all rest = ((λ e. all.0), rest all.1)
    go false at all rest = ((λ e. absurd (false_true (sym at ∙ e))), rest all)

both_of : (P Q R : Build → Type 0) (xs : List Build) → ((x : Build) → P x → Q x → R x) → AllByRecursion P xs → AllByRecursion Q xs → AllByRecursion R xs
both_of P Q R [] f p q = tt
both_of P Q R (x ∷ xs) f p q = (f x p.0 q.0, both_of P Q R xs f p.1 q.1)

-- where no ending is owed, none is of any blob
pub each_ends : (s : Session) (h : History) (list : List Build) → endings_of s h list ≡ [] → AllByRecursion (λ (build : Build). ending_answers s h build ≡ [])
    list
each_ends s h [] e = tt
each_ends s h (build ∷ list) e =
    let parts = nil_parts (ending_answers s h build) (endings_of s (said_all h (ending_answers s h build)) list) e in
    (parts.0, each_ends s h list (subst (λ (xs : List Answer). endings_of s (said_all h xs) list ≡ []) parts.0 parts.1))

-- an unfinished blob of which no ending is owed has no broken source
no_broken : (s : Session) (h : History) (build : Build) → ending_answers s h build ≡ [] → is_unfinished h build.name ≡ true
    → list_any (is_broken h) (sources build.parts) ≡ false
no_broken s h build none begun =
    go (ending s h build) refl (sym (ap (λ (b : Bool). cond b (option_to_list (ending s h build)) []) begun) ∙ none)
  where
    go : (o : Option Answer) → ending s h build ≡ o → option_to_list (ending s h build) ≡ [] → list_any (is_broken h) (sources build.parts) ≡ false
    go None at e = (none_applies (ending_tests s h build) at).1.1.0
    go (Some answer) at e = let bad : answer ∷ [] ≡ [] = sym (ap option_to_list at) ∙ e in absurd (cc bad)

pub rests_when_settled : (s : Session) (groups : List Group) → IsLegalFrom s start groups → IsAtRest (page_limit s) (history_from start groups)
rests_when_settled s groups legal =
    let h = history_from start groups in
    let page = (page_limit s) in
    let kept = kept_from s start groups (kept_start s) legal in
    let settled = all_empty (drops s ∷ endings s ∷ drops s ∷ removals s [] ∷ grants s ∷ page_jobs s ∷ compactions s ∷ []) h (settled_after s groups legal) in
    record {
      ordered = kept.ordered;
      planned = kept.broke;
      ends = λ name. ends_apart (ended (history_from start groups) name) (ends_well s (history_from start groups) name (caused_from s groups legal));
      sources = both_of
          (λ (build : Build). is_live (page_limit s) (history_from start groups) build.name ≡ true
          → is_unfinished (history_from start groups) build.name ≡ true → (source : ℕ)
          → has_source build source ≡ true → is_live (page_limit s) (history_from start groups) source ≡ true)
          (λ (build : Build). ending_answers s (history_from start groups) build ≡ [])
          (λ (build : Build). is_live (page_limit s) (history_from start groups) build.name ≡ true
          → is_unfinished (history_from start groups) build.name ≡ true → (source : ℕ)
          → has_source build source ≡ true
          → (is_live (page_limit s) (history_from start groups) source ≡ true) × (is_broken (history_from start groups) source ≡ false))
          (builds (page_limit s) (history_from start groups))
          (λ build lives none live begun source has. (
            lives live begun source has,
            fails_at (is_broken (history_from start groups)) (sources build.parts) source (no_broken s (history_from start groups) build none begun) has,
          ))
          (unfiltered
          (λ (build : Build). is_unfinished (history_from start groups) build.name ≡ true → (source : ℕ) → has_source build source ≡ true
          → is_live (page_limit s) (history_from start groups) source ≡ true) (λ (build : Build). is_live (page_limit s) (history_from start groups) build.name)
          (builds (page_limit s) (history_from start groups))
          (subst
          (λ (xs : List Build).
          AllByRecursion (λ (build : Build). is_unfinished (history_from start groups) build.name ≡ true → (source : ℕ) → has_source build source ≡ true
          → is_live (page_limit s) (history_from start groups) source ≡ true) xs)
          (live_named (page_limit s) (history_from start groups) (ordered_distinct [] (builds (page_limit s) (history_from start groups)) kept.ordered))
          (live_closed s groups legal)))
          (each_ends s (history_from start groups) (builds (page_limit s) (history_from start groups)) settled.1.0);
    }
