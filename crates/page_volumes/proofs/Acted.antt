-- A call of the volume at a place, as a change of what it is seen as.
use Rattle.std.proofs.Common.{◌≡◌, ℕ, zero, suc, ◌&&◌, Bool, true, false, not, List, [], ◌∷◌, ◌++◌, Some, None, Option, length, option_and_then, refl, sym, ap, ◌∙◌, subst, ⊎_elim, inl, inr}
use Rattle.std.specs.Prelude.{if◌then◌else◌, slice_get, IfSome, IsSomeAnd}
use Rattle.std.specs.Option.{option_map, option_map_or}
use Rattle.blob_source.specs.Faults.{Rose}
use Rattle.page_disk.specs.declared.change.Change.TheVariants.{Torn}
use Rattle.blob_words.specs.declared.number.PageNo.{PageNo}
use Rattle.page_volumes.specs.declared.filed.Filed.{Filed}
use Rattle.page_volumes.specs.Seen.{with_count, Fails, Seen}
use Rattle.page_volumes.specs.Seen as volume
use Rattle.page_volumes.specs.Group.{changed_at, count_at, let_go, object_at, seen_by, settled, slot_count, swept, takes_writes, told_more, writer_of, writer_retired, Group, Slot, Sweeps}
use Rattle.page_volumes.specs.Acts.{Acts, FailsAt, SweepsAt}
use Rattle.page_volumes.proofs.Writers.{changed_or, length_changed, writer_changed, writer_there, writes_changed}

-- what is said of something holds of it in another form
pub some_weaker : {X : Type 0} (P Q : X → Type 0) → ((x : X) → P x → Q x) → (found : Option X) → IsSomeAnd found P → IsSomeAnd found Q
some_weaker P Q weaker None is = absurd is
some_weaker P Q weaker (Some x) is = weaker x is

same_change : (f g : Slot → Slot) (k : ℕ) (slots : List Slot) → IfSome (slice_get slots k) (λ slot. f slot ≡ g slot) → changed_at f k slots
    ≡ changed_at g k slots
same_change f g k [] same = refl
same_change f g zero (slot ∷ slots) same = ap (λ (one : Slot). one ∷ slots) same
same_change f g (suc k) (slot ∷ slots) same = ap (λ rest. slot ∷ rest) (same_change f g k slots same)

-- what the volume is seen as afterwards follows from what it was seen as
pub acted : (f : Seen → Seen) (k : ℕ) (slots : List Slot) (after : Seen) → IsSomeAnd (object_at slots k) (λ before. after ≡ f before)
    → changed_at (seen_by (λ _. after)) k slots ≡ changed_at (seen_by f) k slots
acted f k slots after is = same_change (seen_by (λ _. after)) (seen_by f) k slots (by (slice_get slots k) is)
  where
    maps : (object : Option Seen) → IsSomeAnd object (λ before. after ≡ f before) → option_map (λ _. after) object ≡ option_map f object
    maps None is = absurd is
    maps (Some before) is = ap Some is

    by : (found : Option Slot) → IsSomeAnd (option_and_then (λ (slot : Slot). slot.object) found) (λ before. after ≡ f before)
        → IfSome found (λ slot. seen_by (λ _. after) slot ≡ seen_by f slot)
    by None is = absurd is
    by (Some slot) is = ap (λ (object : Option Seen). record slot { object = object }) (maps slot.object is)

pub acts_good : (f : Seen → Seen) (k : ℕ) (old new : List Slot) → Acts k old new (λ before after. after ≡ f before) → new ≡ changed_at (seen_by f) k old
acts_good f k old new acts = acts.is ∙ acted f k old acts.after acts.acts

-- the count of a place that holds a volume is that of the volume
pub count_there : (count : ℕ) (slots : List Slot) (k : ℕ) → IsSomeAnd (object_at slots k) (λ before. Rose before.faults count) → Rose (count_at slots k) count
count_there count slots k is = by (slice_get slots k) is
  where
    object : (object : Option Seen) (past : ℕ) → IsSomeAnd object (λ before. Rose before.faults count)
        → Rose (option_map_or (λ (seen : Seen). seen.faults) object past) count
    object None past is = absurd is
    object (Some before) past is = is

    by : (found : Option Slot) → IsSomeAnd (option_and_then (λ (slot : Slot). slot.object) found) (λ before. Rose before.faults count)
        → Rose (option_map_or slot_count found 0) count
    by None is = absurd is
    by (Some slot) is = object slot.object slot.past is

pub acts_failed : (f : Seen → Seen) (k : ℕ) (old new : List Slot) → Acts k old new (λ before after. Fails (f before) before after) → FailsAt k f old new
acts_failed f k old new acts = record {
  count = acts.after.faults;
  rose = count_there acts.after.faults old k (some_weaker (λ before. Fails (f before) before acts.after) (λ before. Rose before.faults acts.after.faults)
      (λ before fails. fails.1) (object_at old k) acts.acts);
  is = acts.is ∙ acted (λ seen. with_count acts.after.faults (f seen)) k old acts.after
      (some_weaker (λ before. Fails (f before) before acts.after) (λ before. acts.after ≡ with_count acts.after.faults (f before)) (λ before fails. fails.0)
      (object_at old k) acts.acts);
}

-- a volume that is dropped where it is due stays retired, and one that isn't retired stays
pub settled_keeps : (is_home : Bool) (slot : Slot) → (settled is_home slot).is_retired ≡ slot.is_retired
settled_keeps is_home slot =
    (elim (slot.is_retired && not is_home) as (λ r. (if r then record { object = None; past = slot_count slot; is_retired = slot.is_retired }
    else slot).is_retired ≡ slot.is_retired) [
      | true ↦ refl
      | false ↦ refl
    ])

pub settled_free : (is_home : Bool) (slot : Slot) → slot.is_retired ≡ false → settled is_home slot ≡ slot
settled_free is_home slot free = subst (λ r. (if r && not is_home then record { object = None; past = slot_count slot; is_retired = slot.is_retired } else slot)
    ≡ slot) (sym free) refl

pub settled_home : (slot : Slot) → settled true slot ≡ slot
settled_home slot = (elim slot.is_retired as (λ r. (if r && false then record { object = None; past = slot_count slot; is_retired = slot.is_retired } else slot)
    ≡ slot) [
      | true ↦ refl
      | false ↦ refl
    ])

-- the writer stays what it is
pub writer_settled : (is_home : Bool) (k : ℕ) (slots : List Slot) → takes_writes slots ≡ true → slice_get (changed_at (settled is_home) k slots)
    (writer_of slots) ≡ slice_get slots (writer_of slots)
writer_settled is_home k slots writes = ⊎_elim
    (λ here. here.1 ∙ free (slice_get slots (writer_of slots)) (writer_there slots writes))
    (λ other. other.1)
    (changed_or (settled is_home) k (writer_of slots) slots)
  where
    free : (found : Option Slot) → IsSomeAnd found (λ slot. slot.is_retired ≡ false) → option_map (settled is_home) found ≡ found
    free None is = absurd is
    free (Some slot) is = ap Some (settled_free is_home slot is)

pub writer_let_go : (files : List Filed) (home : Option ℕ) (slots : List Slot) → takes_writes slots ≡ true → slice_get (let_go files home slots)
    (writer_of slots) ≡ slice_get slots (writer_of slots)
writer_let_go files None slots writes = refl
writer_let_go files (Some k) slots writes = writer_settled _ k slots writes

pub same_writer : (files : List Filed) (home : Option ℕ) (slots : List Slot) → writer_of (let_go files home slots) ≡ writer_of slots
same_writer files None slots = refl
same_writer files (Some k) slots = writer_changed (settled _) (settled_keeps _) k slots

-- a torn file was asked to be removed, wherever it is then
pub swept_by : (page : PageNo) (group : Group) (slots : List Slot) (home : Option ℕ) → SweepsAt page.0 (writer_of group.slots) group.slots slots home
    → Sweeps page group (record group {
      slots = writer_retired (group.files ++ record { page = page; home = home } ∷ []) slots;
      files = group.files
          ++ record { page = page; home = home } ∷ [];
      log = told_more (Torn page) group.log;
    })
swept_by page group slots None is =
    inl
    (ap (λ (slots : List Slot). record group {
      slots = writer_retired (group.files ++ record { page = page; home = None } ∷ []) slots;
      files = group.files
          ++ record { page = page; home = None } ∷ [];
      log = told_more (Torn page) group.log;
    }) is)
swept_by page group slots (Some home) is = inr (record {
  count = is.1.count;
  rose = is.1.rose;
  is = both home is.0 slots is.1.is;
})
  where
    both : (home : ℕ) → home ≡ writer_of group.slots → (slots : List Slot) → slots ≡ changed_at (seen_by (with_count is.1.count)) (writer_of group.slots)
        group.slots
        → record group {
          slots = writer_retired (group.files ++ record { page = page; home = Some home } ∷ []) slots;
          files = group.files
              ++ record { page = page; home = Some home } ∷ [];
          log = told_more (Torn page) group.log;
        } ≡ swept page false (with_count is.1.count) group
    both home same slots so = λ i. record group {
      slots = writer_retired (group.files ++ record { page = page; home = Some (same i) } ∷ []) (so i);
      files =
          group.files ++ record { page = page; home = Some (same i) } ∷ [];
      log = told_more (Torn page) group.log;
    }

pub acts_length : (k : ℕ) (old new : List Slot) (R : Seen → Seen → Type 0) → Acts k old new R → length new ≡ length old
acts_length k old new R acts = ap (λ (slots : List Slot). length slots) acts.is ∙ length_changed (seen_by (λ _. acts.after)) k old

-- a change of nothing
pub unchanged : (k : ℕ) (slots : List Slot) → changed_at (seen_by (λ seen. seen)) k slots ≡ slots
unchanged k [] = refl
unchanged zero (slot ∷ slots) = ap (λ (object : Option Seen). record slot { object = object } ∷ slots) (by slot.object)
  where
    by : (object : Option Seen) → option_map (λ (seen : Seen). seen) object ≡ object
    by None = refl
    by (Some seen) = refl
unchanged (suc k) (slot ∷ slots) = ap (λ rest. slot ∷ rest) (unchanged k slots)

-- a volume takes writes still
pub writes_let_go : (files : List Filed) (home : Option ℕ) (slots : List Slot) → takes_writes (let_go files home slots) ≡ takes_writes slots
writes_let_go files None slots = refl
writes_let_go files (Some k) slots = writes_changed (settled _) (settled_keeps _) k slots

pub writes_seen : (change : Seen → Seen) (k : ℕ) (slots : List Slot) → takes_writes (changed_at (seen_by change) k slots) ≡ takes_writes slots
writes_seen change k slots = writes_changed (seen_by change) (λ slot. refl) k slots

pub sweeps_writes : (page k : ℕ) (old new : List Slot) (home : Option ℕ) → SweepsAt page k old new home → takes_writes new ≡ takes_writes old
sweeps_writes page k old new None is = ap takes_writes is ∙ writes_seen (volume.removed page) k old
sweeps_writes page k old new (Some home) is = ap takes_writes is.1.is ∙ writes_seen (with_count is.1.count) k old

-- of what is said of a volume before a call, its part in it
pub acts_more : (P : Seen → Type 0) (R S : Seen → Seen → Type 0) (k : ℕ) (old new : List Slot)
    → ((before after : Seen) → P before → R before after → S before after) → IsSomeAnd (object_at old k) P → Acts k old new R → Acts k old new S
acts_more P R S k old new more so acts = record { after = acts.after; acts = by (object_at old k) so acts.acts; is = acts.is }
  where
    by : (object : Option Seen) → IsSomeAnd object P → IsSomeAnd object (λ before. R before acts.after) → IsSomeAnd object (λ before. S before acts.after)
    by None so acts = absurd so
    by (Some before) so one = more before acts.after so one
