-- Blobs beside their entries: who stands, how each stands, and that sources stand before.
use Rattle.std.proofs.Common.{◌≡◌, ℕ, ◌==◌, ◌⊎◌, Bool, true, false, ◌&&◌, ◌||◌, not, List, []}
use Rattle.std.proofs.Common.{◌∷◌, ◌++◌, map, refl, ap, sym, ◌∙◌, Option, Some, None, inl, inr, ⊎_elim, cond}
use Rattle.std.specs.Prelude.{filter, is_some, is_none, unwrap_or, IfSome}
use Rattle.std.specs.Option.{option_map, option_map_or}
use Rattle.std.specs.List.{AllByRecursion, list_any}
use Rattle.std.proofs.lemmas.Bool.{eqb-true, eq-eqb}
use Rattle.std.proofs.lemmas.List.Folds.{list_any-append}
use Rattle.blob_words.specs.declared.status.Status.{Status}
use Rattle.blob_words.specs.declared.status.Status.TheVariants as statuses
use Rattle.item_shares.specs.declared.shares.Share.{Share}
use Rattle.blob_entries.specs.declared.entry.Entry.{Entry}
use Rattle.blob_entries.specs.Statuses.{is_broken, is_pending}
use Rattle.blob_model.specs.Session.{Session, page_limit}
use Rattle.blob_model.specs.History.{History}
use Rattle.blob_model.specs.Builds.{Build, build_in}
use Rattle.blob_model.specs.Live.{has_source, is_live}
use Rattle.blob_model.specs.Order.{AreOrdered, Distinct, named}
use Rattle.blob_model.specs.Own.{pending_status}
use Rattle.blob_model.specs.Pieces.{Piece}
use Rattle.blob_model.specs.Standing.{ended, is_broken as is_broken_now, is_broken_status, is_unfinished}
use Rattle.blob_model.specs.Transport.{has_all}
use Rattle.blob_model.specs.Waits.{is_waiting}
use Rattle.blob_model.proofs.Lists.{both, false_true, or_cases, or_first, or_second}
use Rattle.blob_model.proofs.builds.Order.{all_found}
use Rattle.registry_laws.specs.Agree.{Beside}
use Rattle.store_laws.specs.Having.{AreClosed, is_unbroken, paired}
use Rattle.store_laws.specs.Outlines.{Outline, outline, outline_of, status_now}
use Rattle.store_laws.specs.Recipes.{EntryStands, IsEntryFor}

-- ---- who stands

abbrev pub outline_at : Session → History → (ℕ → Bool) → Build → Option Outline
outline_at s h stands build = cond (stands build.name) (Some (outline_of s h build)) None

abbrev pub AreOutlined : Session → History → (ℕ → Bool) → List Build → List (Option Entry) → Type 0
AreOutlined s h stands list entries = map (option_map outline) entries ≡ map (outline_at s h stands) list

-- what an entry and its blob say of each other
pub record IsTold (s : Session) (h : History) (stands : ℕ → Bool) (pair : Build × Entry) : Type 0 where
  pub standing : stands pair.0.name ≡ true
  pub outline_is : outline pair.1 ≡ outline_of s h pair.0

module _ (s : Session) (h : History) (stands : ℕ → Bool) where
  pub first_of : (build : Build) (list : List Build) (held : Option Entry) (entries : List (Option Entry)) → AreOutlined s h stands (build ∷ list)
      (held ∷ entries)
      → option_map outline held ≡ outline_at s h stands build
  first_of build list held entries e = cc

  pub rest_of : (build : Build) (list : List Build) (held : Option Entry) (entries : List (Option Entry))
      → AreOutlined s h stands (build ∷ list) (held ∷ entries)
      → AreOutlined s h stands list entries
  rest_of build list held entries e = cc

  -- by what stands first: nothing does, and its blob is not among those that stand; or an entry does
  pub by_first : (goal : Option Entry → Type 0) (build : Build) (held : Option Entry) → option_map outline held ≡ outline_at s h stands build
      → (stands build.name ≡ false → goal None) → ((entry : Entry) → IsTold s h stands (build, entry) → goal (Some entry)) → goal held
  by_first goal build held e none some = go held (stands build.name) refl e
    where
      go : (held : Option Entry) (b : Bool) → stands build.name ≡ b → option_map outline held ≡ cond (stands build.name) (Some
          (outline_of s h build)) None → goal held
      go None false at e = none at
      go None true at e =
          let f : option_map outline None ≡ Some (outline_of s h build) = e ∙ ap (λ (b : Bool). cond b (Some (outline_of s h build)) None) at in absurd (cc f)
      go (Some entry) true at e =
          let f : Some (outline entry) ≡ Some (outline_of s h build) = e ∙ ap (λ (b : Bool). cond b (Some (outline_of s h build)) None) at in
          some entry (record { standing = at; outline_is = cc })
      go (Some entry) false at e =
          let f : Some (outline entry) ≡ None = e ∙ ap (λ (b : Bool). cond b (Some (outline_of s h build)) None) at in absurd (cc f)

  -- each entry is told
  pub told_pairs : (list : List Build) (entries : List (Option Entry)) → AreOutlined s h stands list entries
      → AllByRecursion (IsTold s h stands) (paired list entries)
  told_pairs [] entries e = tt
  told_pairs (build ∷ list) [] e = tt
  told_pairs (build ∷ list) (held ∷ entries) e =
      by_first (λ (one : Option Entry). AllByRecursion (IsTold s h stands) (paired (build ∷ list) (one ∷ entries))) build held
      (first_of build list held entries e)
      (λ off. told_pairs list entries (rest_of build list held entries e))
      (λ entry told. (told, told_pairs list entries (rest_of build list held entries e)))

  -- the blobs that have an entry are those that stand
  pub paired_stand : (list : List Build) (entries : List (Option Entry)) → AreOutlined s h stands list entries
      → map (λ (pair : Build × Entry). pair.0) (paired list entries) ≡ filter (λ (build : Build). stands build.name) list
  paired_stand [] entries e = refl
  paired_stand (build ∷ list) [] e = absurd (cc e)
  paired_stand (build ∷ list) (held ∷ entries) e =
      let rest : map (λ (pair : Build × Entry). pair.0) (paired list entries) ≡ filter (λ (each : Build). stands each.name) list =
      paired_stand list entries (rest_of build list held entries e) in
      by_first
      (λ (one : Option Entry).
      map (λ (pair : Build × Entry). pair.0) (paired (build ∷ list) (one ∷ entries))
      ≡ cond (stands build.name) (build ∷ filter (λ (each : Build). stands each.name) list) (filter (λ (each : Build). stands each.name) list)) build held
      (first_of build list held entries e)
      (λ off.
      rest ∙ sym (ap (λ (b : Bool). cond b (build ∷ filter (λ (each : Build). stands each.name) list) (filter (λ (each : Build). stands each.name) list)) off))
      (λ entry told.
      ap (λ (xs : List Build). build ∷ xs) rest
      ∙ sym (ap (λ (b : Bool). cond b (build ∷ filter (λ (each : Build). stands each.name) list) (filter (λ
      (each : Build). stands each.name) list)) told.standing))

-- ---- what is said of blobs and of entries beside them

pub fine_pairs : (whole : List Build) (all : List Piece) (shares : List (Option Share)) (own : ℕ → List ℕ) (list : List Build) (entries : List (Option Entry))
    → Beside (EntryStands whole all shares own) list entries → AllByRecursion (λ (pair : Build × Entry). IsEntryFor whole all shares own pair.0 pair.1)
    (paired list entries)
fine_pairs whole all shares own [] entries beside = tt
fine_pairs whole all shares own (build ∷ list) [] beside = tt
fine_pairs whole all shares own (build ∷ list) (None ∷ entries) beside = fine_pairs whole all shares own list entries beside.1
fine_pairs whole all shares own (build ∷ list) (Some entry ∷ entries) beside = (beside.0, fine_pairs whole all shares own list entries beside.1)

pub blob_pairs : (P : Build → Type 0) (list : List Build) (entries : List (Option Entry)) → AllByRecursion P list
    → AllByRecursion (λ (pair : Build × Entry). P pair.0) (paired list entries)
blob_pairs P [] entries all = tt
blob_pairs P (build ∷ list) [] all = tt
blob_pairs P (build ∷ list) (None ∷ entries) all = blob_pairs P list entries all.1
blob_pairs P (build ∷ list) (Some entry ∷ entries) all = (all.0, blob_pairs P list entries all.1)

-- where names differ each name tells the cells of its blob
pub all_blobs_found : (list : List Build) → Distinct list → AllByRecursion (λ (build : Build). build_in list build.name ≡ Some build) list
all_blobs_found list distinct = all_found list list distinct (λ build there. refl)

-- ---- statuses

same_broken : (status : Status) → is_broken_status status ≡ is_broken status
same_broken statuses.Done = refl
same_broken statuses.Dereferenced = refl
same_broken statuses.PendingQuota = refl
same_broken statuses.PendingTransport = refl
same_broken statuses.PendingReferencedBlobs = refl
same_broken statuses.InvalidArguments = refl
same_broken statuses.OutOfMemory = refl
same_broken statuses.FileWriteFailed = refl
same_broken statuses.SourceDied = refl
same_broken statuses.ReferencedBlobBroken = refl
same_broken statuses.ReferencedFileUnavailable = refl

-- what a blob waits for is a status of one to end
pub record IsWaitedFor (s : Session) (h : History) (build : Build) : Type 0 where
  pub pending : is_pending (pending_status s h build) ≡ true
  pub whole : is_broken (pending_status s h build) ≡ false

waited : (s : Session) (h : History) (build : Build) → IsWaitedFor s h build
waited s h build =
    record {
      pending = go (is_waiting h build) (has_all s.limits h build);
      whole = by (is_waiting h build) (has_all s.limits h build);
    }
  where
    go : (a b : Bool) → is_pending (cond a statuses.PendingQuota (cond b statuses.PendingReferencedBlobs statuses.PendingTransport)) ≡ true
    go true b = refl
    go false true = refl
    go false false = refl

    by : (a b : Bool) → is_broken (cond a statuses.PendingQuota (cond b statuses.PendingReferencedBlobs statuses.PendingTransport)) ≡ false
    by true b = refl
    by false true = refl
    by false false = refl

pub broken_now : (s : Session) (h : History) (build : Build) → is_broken (status_now s h build) ≡ is_broken_now h build.name
broken_now s h build = go (ended h build.name)
  where
    go : (o : Option Status) → is_broken (unwrap_or o (pending_status s h build)) ≡ option_map_or is_broken_status o false
    go None = (waited s h build).whole
    go (Some status) = sym (same_broken status)

pub pending_now : (s : Session) (h : History) (build : Build) → IfSome (ended h build.name) (λ (status : Status). is_pending status ≡ false)
    → is_pending (status_now s h build) ≡ is_unfinished h build.name
pending_now s h build apart = go (ended h build.name) apart
  where
    go : (o : Option Status) → IfSome o (λ (status : Status). is_pending status ≡ false) → is_pending (unwrap_or o (pending_status s h build)) ≡ is_none o
    go None apart = (waited s h build).pending
    go (Some status) apart = apart

-- ---- sources stand before

module _ (s : Session) (h : History) (stands : ℕ → Bool) (exact : (name : ℕ) → stands name ≡ is_live (page_limit s) h name) (whole : List Build)
    (all : List Piece)
    (shares : List (Option Share)) (own : ℕ → List ℕ) (ends : (name : ℕ) → IfSome (ended h name) (λ (status : Status). is_pending status ≡ false)) where
  abbrev Sourced : Build → Type 0
  Sourced build =
      is_live (page_limit s) h build.name ≡ true → is_unfinished h build.name ≡ true → (source : ℕ) → has_source build source ≡ true
      → (is_live (page_limit s) h source ≡ true) × (is_broken_now h source ≡ false)

  abbrev Knows : List Build → (ℕ → Bool) → Type 0
  Knows earlier known =
      (name : ℕ) → named name earlier ≡ true → is_live (page_limit s) h name ≡ true → is_broken_now h name ≡ false → known name ≡ true

  planned : (build : Build) → (is_some build.plan ≡ false → is_unfinished h build.name ≡ false) → is_unfinished h build.name ≡ true → is_some build.plan ≡ true
  planned build broke begun = go (is_some build.plan) refl
    where
      go : (b : Bool) → is_some build.plan ≡ b → b ≡ true
      go true at = refl
      go false at = absurd (false_true (sym (broke at) ∙ begun))

  before_last : (earlier : List Build) (build : Build) (name : ℕ) → named name (earlier ++ build ∷ []) ≡ true
      → (named name earlier ≡ true) ⊎ (build.name ≡ name)
  before_last earlier build name there =
      ⊎_elim (λ (old : named name earlier ≡ true). inl old)
      (λ (new : ((build.name == name) || false) ≡ true).
      ⊎_elim (λ (is : (build.name == name) ≡ true). inr (eqb-true build.name name is)) (λ (no_more : false ≡ true). absurd (false_true no_more)) (or_cases
      (build.name == name) false new))
      (or_cases (named name earlier) ((build.name == name) || false) (sym (list_any-append (λ (each : Build). each.name == name) earlier (build ∷ [])) ∙ there))

  pub closed_pairs : (earlier list : List Build) (entries : List (Option Entry)) (known : ℕ → Bool) → AreOrdered earlier list
      → AllByRecursion (λ (build : Build). is_some build.plan ≡ false → is_unfinished h build.name ≡ false) list → AllByRecursion Sourced list
      → AreOutlined s h stands list entries → Beside (EntryStands whole all shares own) list entries → Knows earlier known
      → AreClosed known (paired list entries)
  closed_pairs earlier [] entries known ordered broke sourced e beside knows = tt
  closed_pairs earlier (build ∷ list) [] known ordered broke sourced e beside knows = tt
  closed_pairs earlier (build ∷ list) (held ∷ entries) known ordered broke sourced e beside knows =
      by_first s h stands
      (λ (one : Option Entry). EntryStands whole all shares own build one → AreClosed known (paired (build ∷ list) (one ∷ entries))) build held
      (first_of s h stands build list held entries e)
      (none (λ next f. closed_pairs (earlier ++ build ∷ []) list entries next ordered.2 broke.1 sourced.1
      (rest_of s h stands build list held entries e) beside.1 f))
      (some (λ next f. closed_pairs (earlier ++ build ∷ []) list entries next ordered.2 broke.1 sourced.1
      (rest_of s h stands build list held entries e) beside.1 f)) beside.0
    where
      none : ((next : ℕ → Bool) → Knows (earlier ++ build ∷ []) next → AreClosed next (paired list entries)) → stands build.name ≡ false → Unit {0}
          → AreClosed known (paired list entries)
      none later off fine =
          later known
          (λ name there live whole.
          ⊎_elim (λ (old : named name earlier ≡ true). knows name old live whole)
          (λ (is : build.name ≡ name).
          absurd (false_true (sym off ∙ exact build.name ∙ ap (is_live (page_limit s) h) is ∙ live))) (before_last earlier build name there))

      some : ((next : ℕ → Bool) → Knows (earlier ++ build ∷ []) next → AreClosed next (paired list entries)) → (entry : Entry)
          → IsTold s h stands (build, entry) → IsEntryFor whole all shares own build entry → AreClosed known ((build, entry) ∷ paired list entries)
      some later entry told fine =
          let status_is : entry.status ≡ status_now s h build = ap (λ (o : Outline). o.status) told.outline_is in (
            (λ name pending takes.
                let begun : is_unfinished h build.name ≡ true = sym (pending_now s h build (ends build.name)) ∙ ap is_pending (sym status_is) ∙ pending in
                let has : has_source build name ≡ true = sym (ap (list_any (λ (source : ℕ). source == name)) (fine.sources pending)) ∙ takes in
                let source = sourced.0 (sym (exact build.name) ∙ told.standing) begun name has in
                knows name (ordered.1 name (planned build broke.0 begun) has) source.0 source.1),
            later (λ (name : ℕ). known name || (is_unbroken entry.status && build.name == name))
                (λ name there live whole.
                ⊎_elim (λ (old : named name earlier ≡ true). or_first (known name) (is_unbroken entry.status && build.name == name) (knows name old live whole))
                (λ (is : build.name ≡ name).
                let sound : is_unbroken entry.status ≡ true =
                ap is_unbroken status_is ∙ ap not (broken_now s h build ∙ ap (is_broken_now h) is ∙ whole) in
                or_second (known name) (is_unbroken entry.status && build.name == name) (both (is_unbroken entry.status) (build.name == name) sound
                (eq-eqb build.name name is)))
                (before_last earlier build name there)),
          )
