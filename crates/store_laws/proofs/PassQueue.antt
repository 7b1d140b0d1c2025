-- Who waits still behind a pass.
use Rattle.std.proofs.Common.{◌≡◌, ℕ, ◌==◌, ◌&&◌, not, Bool, true, false, cond, List, [], ◌∷◌, map, refl, ap, sym, ◌∙◌, Option, Some}
use Rattle.std.specs.Prelude.{filter, fold, is_none}
use Rattle.std.specs.List.{list_any}
use Rattle.blob_words.specs.declared.status.Status.{Status}
use Rattle.blob_words.specs.declared.status.Status.TheVariants as statuses
use Rattle.quota_queue.specs.Queue.{without}
use Rattle.blob_registry.specs.declared.ended_blob.EndedBlob.{EndedBlob}
use Rattle.blob_model.specs.Builds.{Build, builds}
use Rattle.blob_model.specs.History.{History, said, said_all}
use Rattle.blob_model.specs.Session.{Session, page_limit}
use Rattle.blob_model.specs.Settle.{endings}
use Rattle.blob_model.specs.Standing.{ended, is_unfinished, was_granted}
use Rattle.blob_model.specs.Waits.{is_shared, is_waiting, waits}
use Rattle.blob_model.proofs.live.Agreement.{builds_all}
use Rattle.registry_laws.specs.Laws.{ending_answer}
use Rattle.store_laws.specs.Passing.{after_pass, ended_names}
use Rattle.store_laws.proofs.Letting.{and_more, and_true, filter_same, filter_twice}
use Rattle.store_laws.proofs.PassKeeps.{endings_keep}
use Rattle.store_laws.proofs.Queueing.{in_queue, left_all, not_among, queued}

-- an answer that tells an ending ends its blob and no other
ends_one : (one : History) (name : ℕ) (status : Status) (other : ℕ)
    → is_unfinished (said one (ending_answer (record { name = name; status = status }))) other ≡ (is_unfinished one other && not (name == other))
ends_one one name status other = by status
  where
    it : (c u : Bool) (why : Status) (before : Option Status) → is_none before ≡ u → is_none (cond c (Some why) before) ≡ (u && not c)
    it true true why before e = refl
    it true false why before e = refl
    it false u why before e = e ∙ sym (and_true u)

    by : (status : Status)
        → is_unfinished (said one (ending_answer (record { name = name; status = status }))) other ≡ (is_unfinished one other && not (name == other))
    by statuses.Done = it (name == other) (is_unfinished one other) statuses.Done (ended one other) refl
    by status = it (name == other) (is_unfinished one other) status (ended one other) refl

unfinished_said : (list : List EndedBlob) (one : History) (name : ℕ)
    → is_unfinished (said_all one (map ending_answer list)) name ≡ (is_unfinished one name && not_among (ended_names list) name)
unfinished_said [] one name = sym (and_true (is_unfinished one name))
unfinished_said (end ∷ list) one name =
    unfinished_said list (said one (ending_answer end)) name
    ∙ ap (λ (b : Bool). b && not_among (ended_names list) name) (ends_one one end.name end.status name)
    ∙ and_more (is_unfinished one name) (end.name == name) (list_any (λ (each : ℕ). each == name) (ended_names list))

module _ (s : Session) (h : History) (list : List EndedBlob) (are : map ending_answer list ≡ endings s h) where
  abbrev g : History
  g = after_pass s h

  unfinished_now : (name : ℕ) → is_unfinished g name ≡ (is_unfinished h name && not_among (ended_names list) name)
  unfinished_now name = ap (λ answers. is_unfinished (said_all h answers) name) (sym are) ∙ unfinished_said list h name

  waits_now : (build : Build) → (is_waiting h build && not_among (ended_names list) build.name) ≡ is_waiting g build
  waits_now build =
      turned (is_unfinished h build.name) (is_shared build.plan) (not (was_granted h build.name)) (not_among (ended_names list) build.name)
      ∙ (λ i. sym (unfinished_now build.name) i && is_shared build.plan && not (sym granted i))
    where
      granted : was_granted g build.name ≡ was_granted h build.name
      granted = endings_keep (λ (one : History). was_granted one build.name) (λ one name. refl) (λ one name status. refl) s h

      turned : (u p q n : Bool) → ((u && p && q) && n) ≡ ((u && n) && p && q)
      turned false p q n = refl
      turned true false q true = refl
      turned true false q false = refl
      turned true true false true = refl
      turned true true false false = refl
      turned true true true true = refl
      turned true true true false = refl

  pub queue_now : (waiting : List (ℕ × ℕ)) → waiting ≡ map in_queue (waits (page_limit s) h)
      → fold (λ (more : List (ℕ × ℕ)) (name : ℕ). without name more) waiting (ended_names list) ≡ map in_queue (waits (page_limit s) g)
  queue_now waiting is =
      ap (λ (one : List (ℕ × ℕ)). fold (λ (more : List (ℕ × ℕ)) (name : ℕ). without name more) one (ended_names list)) is
      ∙ left_all (ended_names list) (map in_queue (waits (page_limit s) h))
      ∙ queued (ended_names list) (waits (page_limit s) h)
      ∙ ap (map in_queue)
      (filter_twice (is_waiting h) (λ (build : Build). not_among (ended_names list) build.name) (builds (page_limit s) h)
      ∙ filter_same (λ (build : Build). is_waiting h build && not_among (ended_names list) build.name) (is_waiting g) (builds (page_limit s) h) waits_now
      ∙ ap (filter (is_waiting g)) (sym (builds_all (page_limit s) h (endings s h))))
