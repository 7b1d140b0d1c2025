-- Counts and charges after a sweep.
use Rattle.std.proofs.Common.{◌≡◌, ℕ, ◌+◌, ◌-◌, ◌≤◌, ◌||◌, Bool, true, false, cond, List, [], ◌∷◌, Option, Some, None, refl, ap, arith}
use Rattle.std.specs.Prelude.{sum_by}
use Rattle.item_shares.specs.declared.item.Item.{Item}
use Rattle.item_shares.specs.declared.shares.Share.{Share}
use Rattle.item_shares.specs.Weights.{weights}
use Rattle.quota_queue.specs.Queue.{Queue}
use Rattle.page_files.specs.Files.{Files}
use Rattle.blob_entries.specs.Book.{Book}
use Rattle.blob_entries.specs.Counted.{AreCounted}
use Rattle.blob_entries.specs.Counts.{views_on}
use Rattle.blob_entries.specs.Holdings.{held_views, views_in}
use Rattle.blob_entries.specs.Leaving.{gone_views, is_needed, is_rooted, left}
use Rattle.blob_entries.specs.Statuses.{is_broken}
use Rattle.blob_entries.specs.declared.entry.Entry.{Entry}
use Rattle.blob_entries.proofs.Counting.{on_append}
use Rattle.blob_entries.proofs.Holdings.{in_cons, on_held}
use Rattle.blob_registry.specs.Sweeps.{let_go, swept, Sweeping}
use Rattle.blob_store.specs.declared.row.Row.{Row}
use Rattle.store_laws.specs.Weights.{memory_weight, piece_weight, reserved_weight}
use Rattle.blob_store.specs.Blobs.{Charged}

on_left : (slot : ℕ) (lives : Bool) (held : Option Entry) → on_held slot (left lives held) + views_on slot (gone_views lives held) ≡ on_held slot held
on_left slot true None = refl
on_left slot false None = refl
on_left slot false (Some entry) = omega arith
on_left slot true (Some entry) = by (is_broken entry.status)
  where
    by : (b : Bool)
        → views_on slot (held_views (cond b (record entry { recipe = []; own = None; views = [] }) entry))
        + views_on slot (cond b (held_views entry) [])
        ≡ views_on slot (held_views entry)
    by true = omega arith
    by false = omega arith

-- the views that stay and those that go are those that were there
pub parted : (names : List ℕ) (number : ℕ) (entries : List (Option Entry)) (slot : ℕ)
    → views_in (swept names number entries) slot + views_on slot (let_go names number entries) ≡ views_in entries slot
parted names number [] slot = refl
parted names number (held ∷ later) slot =
    let lives : Bool = is_rooted held || is_needed names number (swept names (number + 1) later) in
    omega (
      arith,
      in_cons held later slot,
      in_cons (left lives held) (swept names (number + 1) later) slot,
      on_append slot (let_go names (number + 1) later) (gone_views lives held),
      on_left slot lives held,
      parted names (number + 1) later slot,
    )

module _ (entries : List (Option Entry)) (shares : List (Option Share)) (rows : List Row) (quota : Queue) (files : Files) (held : ℕ)
    (charged : Charged entries shares rows quota files held) where
  -- a slot on which entries have views counts them alone
  pub counted : AreCounted entries shares
  counted slot some = let none = charged.unpinned slot some in omega (arith, charged.counts slot, none)

module _ (old new : Book) (shares later : List (Option Share)) (rows : List Row) (quota : Queue) (files : Files) (held : ℕ) (names : List ℕ) (freed : List Item)
    (charged : Charged old.entries shares rows quota files held) (sweeping : Sweeping old new names shares later freed) where
  weighed : (weight : Item → ℕ) → sum_by weight freed + weights weight later ≡ weights weight shares
  weighed weight =
      let said : sum_by weight freed + weights weight later ≡ 0 + weights weight shares = sweeping.lets_go.weighs weight in
      omega (arith, said)

  pub used_enough : sum_by memory_weight freed ≤ quota.used
  used_enough = omega (arith, charged.used, weighed memory_weight)

  pub reserved_enough : sum_by reserved_weight freed ≤ files.reserved
  reserved_enough = omega (arith, charged.reserved, weighed reserved_weight)

  pub held_enough : sum_by piece_weight freed ≤ held
  held_enough = omega (arith, charged.held_so, weighed piece_weight)

  pub charged_swept : (queue : Queue) (pages : Files) (pieces : ℕ) → queue ≡ record quota { used = quota.used - sum_by memory_weight freed }
      → pages.reserved + sum_by reserved_weight freed ≡ files.reserved → pieces + sum_by piece_weight freed ≡ held
      → Charged new.entries later rows queue pages pieces
  charged_swept queue pages pieces used reserved fewer = record {
    counts = λ slot. omega (arith, viewed slot, sweeping.lets_go.counts slot, charged.counts slot);
    unpinned = λ slot some. charged.unpinned slot (omega (arith, viewed slot, some));
    used = let now = ap (λ (q : Queue). q.used) used in omega (arith, now, charged.used, weighed memory_weight);
    reserved = omega (arith, reserved, charged.reserved, weighed reserved_weight);
    held_so = omega (arith, fewer, charged.held_so, weighed piece_weight);
  }
    where
      viewed : (slot : ℕ) → views_in new.entries slot + views_on slot (let_go old.names 0 old.entries) ≡ views_in old.entries slot
      viewed slot =
          let now = ap (λ (entries : List (Option Entry)). views_in entries slot) sweeping.entries in
          omega (arith, now, parted old.names 0 old.entries slot)
