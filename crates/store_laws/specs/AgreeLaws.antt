-- Entries that stand for their blobs agree with the history, as the laws of the registry ask; and what a settled store follows. Own.
use Rattle.std.specs.Prelude.{ℕ, ◌≡◌, ◌+◌, Bool, false, List, nat_lt, Option, None, Some, IfSome}
use Rattle.blob_words.specs.declared.status.Status.{Status}
use Rattle.blob_entries.specs.Book.{Book}
use Rattle.blob_entries.specs.Statuses.{is_pending}
use Rattle.blob_entries.specs.declared.entry.Entry.{Entry}
use Rattle.item_shares.specs.declared.shares.Share.{Share}
use Rattle.item_shares.specs.Weights.{weights}
use Rattle.page_files.specs.Files.{Files}
use Rattle.quota_queue.specs.Queue.{Queue}
use Rattle.blob_model.specs.Session.{Session, page_limit}
use Rattle.blob_model.specs.History.{History}
use Rattle.blob_model.specs.Builds.{Build, builds}
use Rattle.blob_model.specs.Live.{is_rooted}
use Rattle.blob_model.specs.Standing.{ended}
use Rattle.registry_laws.specs.Agree.{AgreesWith, Beside}
use Rattle.store_laws.specs.PageLaws.{ArePaged}
use Rattle.store_laws.specs.ReachLaws.{AreGatheredApart, IsAtRest, IsCounted}
use Rattle.store_laws.specs.Rows.{Row, gathered}
use Rattle.store_laws.specs.Stands.{AreExact, ContentsStand, Covers, Reaches}
use Rattle.store_laws.specs.Weights.{memory_weight}

-- somebody holds an entry where its blob is rooted
abbrev pub IsRootedAs : ℕ → History → Build → Option Entry → Type 0
IsRootedAs page h build None = Unit {0}
IsRootedAs page h build (Some entry) = nat_lt 0 entry.roots ≡ is_rooted page h build.name

-- while whatever lives stands, and whatever is unfinished, entries that are rooted as their blobs are agree with the history
abbrev pub EntriesAgree : Type 0
EntriesAgree =
    (s : Session) (h : History) (stands : ℕ → Bool) (book : Book) (shares : List (Option Share)) (rows : List (Option Row)) (quota : Queue) (files : Files)
    (order : List (ℕ × ℕ)) → ContentsStand s h stands book shares rows quota files order → Covers s h stands
    → ((name : ℕ) → IfSome (ended h name) (λ (status : Status). is_pending status ≡ false))
    → Beside (IsRootedAs (page_limit s) h) (builds (page_limit s) h) book.entries → AgreesWith (page_limit s) h book

-- what the parts keep among themselves, with what is charged to memory
pub record IsKept (s : Session) (h : History) (book : Book) (shares : List (Option Share)) (rows : List (Option Row)) (quota : Queue)
    (files : Files) : Type 0 where
  pub counted : IsCounted book shares rows
  pub apart : AreGatheredApart s h shares rows
  pub paged : ArePaged s h shares rows
  pub used : quota.used ≡ weights memory_weight shares + gathered rows

-- when the live blobs stand and no others, what is held is what is reached, and is charged so
abbrev pub ReachesFollows : Type 0
ReachesFollows =
    (s : Session) (h : History) (stands : ℕ → Bool) (book : Book) (shares : List (Option Share)) (rows : List (Option Row)) (quota : Queue) (files : Files)
    (order : List (ℕ × ℕ)) → ContentsStand s h stands book shares rows quota files order → AreExact s h stands → IsAtRest (page_limit s) h
    → IsKept s h book shares rows quota files → Reaches s h shares rows quota files
