-- Entries that stand for their blobs agree with the history as the laws of the registry ask.
use Rattle.std.proofs.Common.{◌≡◌, ℕ, Bool, true, false, List, [], ◌∷◌, refl, ap, sym, ◌∙◌, Option, Some, None, cond}
use Rattle.std.specs.Prelude.{nat_lt, unwrap_or, IfSome}
use Rattle.std.specs.Option.{option_map}
use Rattle.std.specs.List.{AllByRecursion}
use Rattle.blob_words.specs.declared.status.Status.{Status}
use Rattle.blob_words.specs.declared.status.Status.TheVariants as statuses
use Rattle.item_shares.specs.declared.shares.Share.{Share}
use Rattle.blob_entries.specs.Book.{Book}
use Rattle.blob_entries.specs.Statuses.{is_pending}
use Rattle.blob_entries.specs.declared.entry.Entry.{Entry}
use Rattle.blob_model.specs.Session.{Session, page_limit}
use Rattle.blob_model.specs.History.{History}
use Rattle.blob_model.specs.Builds.{Build, builds}
use Rattle.blob_model.specs.Live.{is_rooted}
use Rattle.blob_model.specs.Order.{named}
use Rattle.blob_model.specs.Own.{pending_status}
use Rattle.blob_model.specs.Pieces.{Piece, pieces}
use Rattle.blob_model.specs.Standing.{ended, is_unfinished}
use Rattle.blob_model.specs.Transport.{has_all}
use Rattle.blob_model.specs.Waits.{is_waiting}
use Rattle.blob_model.proofs.Lists.{all_numbered, false_true}
use Rattle.blob_model.proofs.live.Least.{rooted_live}
use Rattle.page_files.specs.Files.{Files}
use Rattle.quota_queue.specs.Queue.{Queue}
use Rattle.registry_laws.specs.Agree.{Agrees, AgreesWith, Beside, IsEntryOf, IsGone, told}
use Rattle.store_laws.specs.AgreeLaws.{IsRootedAs}
use Rattle.store_laws.specs.Outlines.{Outline, outline, status_now}
use Rattle.store_laws.specs.Recipes.{EntryStands, IsEntryFor}
use Rattle.store_laws.specs.Rows.{Row}
use Rattle.store_laws.specs.Stands.{ContentsStand, Covers}
use Rattle.store_laws.specs.Uses.{own_pieces}
use Rattle.store_laws.proofs.Paired.{AreOutlined, IsTold, by_first, outline_at, rest_of}

-- the status tells how the blob ended
pub told_now : (s : Session) (h : History) (build : Build) → IfSome (ended h build.name) (λ (status : Status). is_pending status ≡ false)
    → told (status_now s h build) ≡ ended h build.name
told_now s h build apart = go (ended h build.name) apart
  where
    waits : (a b : Bool) → told (cond a statuses.PendingQuota (cond b statuses.PendingReferencedBlobs statuses.PendingTransport)) ≡ None
    waits true b = refl
    waits false true = refl
    waits false false = refl

    go : (o : Option Status) → IfSome o (λ (status : Status). is_pending status ≡ false) → told (unwrap_or o (pending_status s h build)) ≡ o
    go None apart = waits (is_waiting h build) (has_all s.limits h build)
    go (Some status) apart = ap (λ (b : Bool). cond {A = Option Status} b None (Some status)) apart

not_so : (b : Bool) → (b ≡ true → ⊥) → b ≡ false
not_so true f = absurd (f refl)
not_so false f = refl

module _ (s : Session) (h : History) (stands : ℕ → Bool) (whole : List Build) (all : List Piece) (shares : List (Option Share)) (own : ℕ → List ℕ)
    (ends : (name : ℕ) → IfSome (ended h name) (λ (status : Status). is_pending status ≡ false)) (covers : Covers s h stands) where
  each_agrees : (list : List Build) (entries : List (Option Entry)) → AllByRecursion (λ (build : Build). is_unfinished h build.name ≡ true
      → stands build.name ≡ true) list
      → AllByRecursion (λ (build : Build). named build.name (builds (page_limit s) h) ≡ true) list → AreOutlined s h stands list entries
      → Beside (EntryStands whole all shares own) list entries → Beside (IsRootedAs (page_limit s) h) list entries → Beside (Agrees (page_limit s) h) list
      entries
  each_agrees [] [] begun built e beside rooted = tt
  each_agrees [] (held ∷ entries) begun built e beside rooted = absurd beside
  each_agrees (build ∷ list) [] begun built e beside rooted = absurd beside
  each_agrees (build ∷ list) (held ∷ entries) begun built e beside rooted =
      let outlined : option_map outline held ≡ outline_at s h stands build = cc in (
        by_first s h stands
            (λ (one : Option Entry). EntryStands whole all shares own build one → IsRootedAs (page_limit s) h build one
            → Agrees (page_limit s) h build one) build held outlined none some
            beside.0 rooted.0,
        each_agrees list entries begun.1 built.1 (rest_of s h stands build list held entries e) beside.1 rooted.1,
      )
    where
      none : stands build.name ≡ false → Unit {0} → Unit {0} → IsGone (page_limit s) h build
      none off fine root =
          record {
            ended = not_so (is_unfinished h build.name) (λ open_still. false_true (sym off ∙ begun.0 open_still));
            unrooted = not_so (is_rooted (page_limit s) h build.name)
                (λ root. false_true (sym off ∙ covers.living build.name (rooted_live (page_limit s) h build.name built.0 root)));
          }

      some : (entry : Entry) → IsTold s h stands (build, entry) → IsEntryFor whole all shares own build entry
          → nat_lt 0 entry.roots ≡ is_rooted (page_limit s) h build.name
          → IsEntryOf (page_limit s) h build entry
      some entry tells fine root =
          record {
            status = ap told (ap (λ (o : Outline). o.status) tells.outline_is) ∙ told_now s h build (ends build.name);
            roots = root;
            sources = fine.sources;
          }

pub agrees : (s : Session) (h : History) (stands : ℕ → Bool) (book : Book) (shares : List (Option Share)) (rows : List (Option Row)) (quota : Queue)
    (files : Files) (order : List (ℕ × ℕ))
    → ContentsStand s h stands book shares rows quota files order → Covers s h stands → ((name : ℕ)
    → IfSome (ended h name) (λ (status : Status). is_pending status ≡ false))
    → Beside (IsRootedAs (page_limit s) h) (builds (page_limit s) h) book.entries → AgreesWith (page_limit s) h book
agrees s h stands book shares rows quota files order contents covers ends rooted =
    record {
      names = contents.names;
      each = each_agrees s h stands (builds (page_limit s) h) (pieces (page_limit s) h) shares (own_pieces (page_limit s) h) ends covers
          (builds (page_limit s) h) book.entries covers.unfinished
          (all_numbered (λ (build : Build). build.name) (builds (page_limit s) h)) contents.outlines_stand contents.entries.each rooted;
    }
