-- What the lists behind the late drops read off the parts: whether a job may start, which pieces it takes, and who is granted next. Own.
use Rattle.std.specs.Prelude.{ℕ, ◌≡◌, ◌+◌, ◌-◌, ◌&&◌, Bool, true, false, List, [], ◌∷◌, drop, map, min, nat_le, nat_lt, length, if◌then◌else◌, slice_get, is_none, Option, IfSome, IfNone}
use Rattle.std.specs.Option.{option_map_or}
use Rattle.answer_text.specs.declared.answer.Answer.TheVariants as answers
use Rattle.blob_entries.specs.Book.{Book}
use Rattle.item_shares.specs.declared.shares.Share.{Share}
use Rattle.page_files.specs.Files.{Files, room}
use Rattle.quota_queue.specs.Queue.{Queue}
use Rattle.recent_items.specs.Recent.{victims}
use Rattle.blob_model.specs.Builds.{Build}
use Rattle.blob_model.specs.History.{History, said}
use Rattle.blob_model.specs.Jobs.{paging}
use Rattle.blob_model.specs.Parts.{own_bytes}
use Rattle.blob_model.specs.Pieces.{pieces}
use Rattle.blob_model.specs.Session.{Session, page_limit}
use Rattle.blob_model.specs.Settle.{grants_of, may_start, page_job_of, page_jobs}
use Rattle.blob_model.specs.Tally.{memory}
use Rattle.blob_model.specs.Victims.{chosen}
use Rattle.store_laws.specs.PageFiles.{PagesStand}
use Rattle.store_laws.specs.Rows.{Row}
use Rattle.store_laws.specs.Stands.{ContentsStand, Reaches}
use Rattle.store_laws.specs.Uses.{page_facts_of}

-- a job may start where paging is on and none is in flight
abbrev pub JobsMayStart : Type 0
JobsMayStart =
    (s : Session) (h : History) (shares : List (Option Share)) (files : Files)
    → PagesStand (pieces (page_limit s) h) (page_facts_of h) s.limits.disk shares files → (files.paging && is_none files.job) ≡ may_start h

-- the bytes for which the head waits
abbrev pub head_weight : List (ℕ × ℕ) → ℕ
head_weight waiting = option_map_or (λ (blob : ℕ × ℕ). blob.1) (slice_get waiting 0) 0

-- the pieces that a job takes out of the order of use
abbrev pub taken : Session → Queue → Files → List (ℕ × ℕ) → List ℕ
taken s quota files order = victims (quota.used + head_weight quota.waiting - quota.limit) (min s.limits.page (room files)) order

-- they are the pieces to page
abbrev pub VictimsAreChosen : Type 0
VictimsAreChosen =
    (s : Session) (h : History) (stands : ℕ → Bool) (book : Book) (shares : List (Option Share)) (rows : List (Option Row)) (quota : Queue) (files : Files)
    (order : List (ℕ × ℕ)) → ContentsStand s h stands book shares rows quota files order → Reaches s h shares rows quota files → paging h ≡ true
    → taken s quota files order ≡ chosen s.limits h

-- the page job that is owed is the one with these pieces, where a job may start and somebody waits
abbrev pub PageJobsAreTold : Type 0
PageJobsAreTold =
    (s : Session) (h : History) (stands : ℕ → Bool) (book : Book) (shares : List (Option Share)) (rows : List (Option Row)) (quota : Queue) (files : Files)
    (order : List (ℕ × ℕ)) → ContentsStand s h stands book shares rows quota files order → Reaches s h shares rows quota files
    → (if (files.paging && is_none files.job) && nat_lt 0 (length quota.waiting) then page_job_of h (taken s quota files order) else []) ≡ page_jobs s h

-- who waits, with the bytes of each
abbrev pub queue_of : List Build → List (ℕ × ℕ)
queue_of list = map (λ (build : Build). (build.name, own_bytes build.parts)) list

-- what is granted to those in a queue: nothing where nobody waits or the head doesn't fit, and else the head, and what is granted to the others behind it
pub record GrantsGoOn (s : Session) (h : History) (list : List Build) (quota : Queue) : Type 0 where
  pub none : IfNone (slice_get quota.waiting 0) (grants_of s h list ≡ [])
  pub full : IfSome (slice_get quota.waiting 0) (λ blob. nat_le (quota.used + blob.1) quota.limit ≡ false → grants_of s h list ≡ [])
  pub fits : IfSome (slice_get quota.waiting 0) (λ blob. nat_le (quota.used + blob.1) quota.limit ≡ true
      → grants_of s h list ≡ answers.Granted blob.0 ∷ grants_of s (said h (answers.Granted blob.0)) (drop 1 list))
  pub others : drop 1 quota.waiting ≡ queue_of (drop 1 list)

-- where the queue is that of these blobs, and what is charged is memory, grants go on so
abbrev pub HeadsAreGranted : Type 0
HeadsAreGranted =
    (s : Session) (h : History) (list : List Build) (quota : Queue) → quota.waiting ≡ queue_of list → quota.limit ≡ s.limits.memory
    → quota.used ≡ memory (page_limit s) h → GrantsGoOn s h list quota
