-- What the lists behind the late drops read off the parts.
use Rattle.std.proofs.Common.{ℕ, ◌≡◌, ◌+◌, ◌-◌, ◌&&◌, Bool, true, false, List, [], ◌∷◌, refl, sym, subst, ap, ◌∙◌, min, nat_le, nat_lt, length, is_none, Option, Some, None, if◌then◌else◌}
use Rattle.std.proofs.lemmas.List.{length-map}
use Rattle.std.specs.Option.{option_map}
use Rattle.answer_text.specs.declared.answer.Answer.{Answer}
use Rattle.answer_text.specs.declared.answer.Answer.TheVariants as answers
use Rattle.quota_queue.specs.Queue.{Queue}
use Rattle.recent_items.specs.Recent.{victims}
use Rattle.page_files.specs.Files.{room, charge}
use Rattle.blob_model.specs.Builds.{Build}
use Rattle.blob_model.specs.History.{History, said}
use Rattle.blob_model.specs.Jobs.{in_flight, paging}
use Rattle.blob_model.specs.Parts.{own_bytes}
use Rattle.blob_model.specs.Pieces.{Piece}
use Rattle.blob_model.specs.Session.{Session, page_limit}
use Rattle.blob_model.specs.Settle.{grants_of, may_start, page_job_of}
use Rattle.blob_model.specs.Tally.{disk, memory}
use Rattle.blob_model.specs.Victims.{chosen, head_bytes, last_uses, with_length}
use Rattle.blob_model.specs.Waits.{waits}
use Rattle.std.specs.Prelude.{filter_map}
use Rattle.store_laws.specs.LateLists.{GrantsGoOn, HeadsAreGranted, JobsMayStart, PageJobsAreTold, VictimsAreChosen, head_weight, queue_of, taken}
use Rattle.store_laws.specs.Uses.{pageable_of}

none_mapped : {A : Type 0} {B : Type 0} (f : A → B) (value : Option A) → is_none (option_map f value) ≡ is_none value
none_mapped f None = refl
none_mapped f (Some x) = refl

pub jobs_may_start : JobsMayStart
jobs_may_start s h shares files stand =
    ap (λ (b : Bool). b && is_none files.job) stand.same_paging
    ∙ ap (λ (b : Bool). paging h && b) (sym (none_mapped _ files.job) ∙ ap is_none stand.job ∙ none_mapped _ (in_flight h))

head_is : (list : List Build) → head_weight (queue_of list) ≡ head_bytes list
head_is [] = refl
head_is (build ∷ list) = refl

pub victims_are_chosen : VictimsAreChosen
victims_are_chosen s h stands book shares rows quota files order contents reaches on =
    ap (λ (used : ℕ). victims (used + head_weight quota.waiting - quota.limit) (min s.limits.page (room files)) order) reaches.used
    ∙ ap (λ (head : ℕ). victims (memory (page_limit s) h + head - quota.limit) (min s.limits.page (room files)) order)
    (ap head_weight contents.waiting ∙ head_is (waits (page_limit s) h))
    ∙ ap (λ (limit : ℕ). victims (memory (page_limit s) h + head_bytes (waits (page_limit s) h) - limit) (min s.limits.page (room files)) order)
    contents.memory_limit
    ∙ ap (λ (most : ℕ). victims (memory (page_limit s) h + head_bytes (waits (page_limit s) h) - s.limits.memory) (min s.limits.page most) order)
    (ap (λ (limit : ℕ). limit - charge files) contents.page_files_stand.same_limit ∙ ap (λ (charged : ℕ). s.limits.disk - charged) reaches.charged)
    ∙ ap
    (victims (memory (page_limit s) h + head_bytes (waits (page_limit s) h) - s.limits.memory) (min s.limits.page (s.limits.disk - disk (page_limit s) h)))
    (contents.recent on ∙ ap (λ (list : List Piece). filter_map (with_length (pageable_of (page_limit s) h list)) (last_uses s.limits h)) reaches.held)

-- the pieces of a job matter where paging is on alone
where_on : (h : History) (b more some : Bool) (list others : List ℕ) → (b ≡ true → list ≡ others)
    → (if (b && more) && some then page_job_of h list else []) ≡ (if (b && more) && some then page_job_of h others else [])
where_on h true more some list others same = ap (λ (list : List ℕ). if more && some then page_job_of h list else []) (same refl)
where_on h false more some list others same = refl

pub page_jobs_are_told : PageJobsAreTold
page_jobs_are_told s h stands book shares rows quota files order contents reaches =
    ap (λ (b : Bool). if b && nat_lt 0 (length quota.waiting) then page_job_of h (taken s quota files order) else [])
    (jobs_may_start s h shares files contents.page_files_stand)
    ∙ ap (λ (n : ℕ). if may_start h && nat_lt 0 n then page_job_of h (taken s quota files order) else [])
    (ap (λ (list : List (ℕ × ℕ)). length list) contents.waiting ∙ length-map (waits (page_limit s) h)
    (λ (build : Build). (build.name, own_bytes build.parts)))
    ∙ where_on h (paging h) (is_none (in_flight h)) (nat_lt 0 (length (waits (page_limit s) h))) (taken s quota files order) (chosen s.limits h)
    (victims_are_chosen s h stands book shares rows quota files order contents reaches)

by_head : (s : Session) (h : History) (list : List Build) (quota : Queue) → quota.limit ≡ s.limits.memory → quota.used ≡ memory (page_limit s) h
    → GrantsGoOn s h list (record quota { waiting = queue_of list })
by_head s h [] quota limit used = record { none = refl; full = tt; fits = tt; others = refl }
by_head s h (build ∷ list) quota limit used = record {
  none = tt;
  full = λ is. ap (λ (b : Bool). if b then go else []) (same ∙ is);
  fits = λ is. ap (λ (b : Bool). if b then go else []) (same ∙ is);
  others = refl;
}
  where
    go : List Answer
    go = answers.Granted build.name ∷ grants_of s (said h (answers.Granted build.name)) list

    same : nat_le (memory (page_limit s) h + own_bytes build.parts) s.limits.memory ≡ nat_le (quota.used + own_bytes build.parts) quota.limit
    same =
        ap (λ (most : ℕ). nat_le (memory (page_limit s) h + own_bytes build.parts) most) (sym limit)
        ∙ ap (λ (n : ℕ). nat_le (n + own_bytes build.parts) quota.limit) (sym used)

pub heads_are_granted : HeadsAreGranted
heads_are_granted s h list quota waiting limit used =
    subst (λ (queue : List (ℕ × ℕ)). GrantsGoOn s h list (record quota { waiting = queue })) (sym waiting) (by_head s h list quota limit used)
