-- The count of a group, as its volumes are called, retired and dropped.
use Rattle.std.proofs.Common.{◌≡◌, ℕ, zero, suc, ◌+◌, ◌-◌, ◌^◌, ◌≤◌, ◌&&◌, Bool, true, false, not, List, [], ◌∷◌, ◌++◌, Some, None, Option, arith, inl, inr, refl, sym, ap, ◌∙◌, subst}
use Rattle.std.specs.Prelude.{if◌then◌else◌, min, sum_by, IsSome}
use Rattle.std.specs.Option.{option_map, option_map_or}
use Rattle.std.proofs.lemmas.List.Sums.{sum_by-cons}
use Rattle.blob_words.specs.declared.number.PageNo.{PageNo}
use Rattle.blob_source.specs.Faults.{Rose}
use Rattle.page_disk.specs.declared.fault.PutFault.TheVariants as faults
use Rattle.page_volumes.specs.declared.filed.Filed.{Filed}
use Rattle.page_volumes.specs.Seen.{with_count, Seen}
use Rattle.page_volumes.specs.Seen as volume
use Rattle.page_volumes.specs.Group
use Rattle.page_volumes.specs.Group.{changed_at, count_at, is_one_of_several, let_go, object_at, retired, seen_by, settled, settled_at, slot_count, unfiled, writer_of, writer_retired, Slot}
use Rattle.page_volumes.specs.Sound.{faults_of}

abbrev total : List Slot → ℕ
total slots = sum_by slot_count slots

abbrev capped : List Slot → ℕ
capped slots = min (total slots) (2 ^ 64 - 1)

-- a change that keeps the count of each slot
same_total : (change : Slot → Slot) → ((slot : Slot) → slot_count (change slot) ≡ slot_count slot) → (k : ℕ) (slots : List Slot)
    → total (changed_at change k slots) ≡ total slots
same_total change keeps k [] = refl
same_total change keeps zero (slot ∷ slots) = sum_by-cons slot_count (change slot) slots ∙ ap (λ n. n + total slots) (keeps slot) ∙ sym
    (sum_by-cons slot_count slot slots)
same_total change keeps (suc k) (slot ∷ slots) = sum_by-cons slot_count slot (changed_at change k slots) ∙ ap (λ n. slot_count slot + n)
    (same_total change keeps k slots) ∙ sym (sum_by-cons slot_count slot slots)

settled_count : (is_home : Bool) (slot : Slot) → slot_count (settled is_home slot) ≡ slot_count slot
settled_count is_home slot =
    (elim (slot.is_retired && not is_home) as (λ r. slot_count (if r then record { object = None; past = slot_count slot; is_retired = slot.is_retired }
    else slot) ≡ slot_count slot) [
      | true ↦ refl
      | false ↦ refl
    ])

seen_count : (change : Seen → Seen) → ((seen : Seen) → (change seen).faults ≡ seen.faults) → (slot : Slot) → slot_count (seen_by change slot) ≡ slot_count slot
seen_count change keeps slot = by slot.object
  where
    by : (object : Option Seen) → option_map_or (λ (seen : Seen). seen.faults) (option_map change object) slot.past
        ≡ option_map_or (λ (seen : Seen). seen.faults) object slot.past
    by None = refl
    by (Some seen) = keeps seen

pub total_seen : (change : Seen → Seen) → ((seen : Seen) → (change seen).faults ≡ seen.faults) → (k : ℕ) (slots : List Slot)
    → total (changed_at (seen_by change) k slots) ≡ total slots
total_seen change keeps k slots = same_total (seen_by change) (seen_count change keeps) k slots

pub total_let_go : (files : List Filed) (home : Option ℕ) (slots : List Slot) → total (let_go files home slots) ≡ total slots
total_let_go files None slots = refl
total_let_go files (Some k) slots = same_total (settled _) (settled_count _) k slots

pub total_retired : (files : List Filed) (slots : List Slot) → total (writer_retired files slots) ≡ total slots
total_retired files slots =
    (elim (is_one_of_several slots) as (λ r. total (if r then settled_at files (writer_of slots) (changed_at retired (writer_of slots) slots) else slots)
    ≡ total slots) [
      | true ↦ total_let_go files (Some (writer_of slots)) (changed_at retired (writer_of slots) slots) ∙ same_total retired (λ slot. refl) (writer_of slots)
          slots
      | false ↦ refl
    ])

-- one slot's count becomes another
record Moves (count k : ℕ) (old new : List Slot) : Type 0 where
  moved : total new + count_at old k ≡ total old + count
  within : count_at old k ≤ total old

moves : (change : Seen → Seen) (count k : ℕ) (slots : List Slot) → ((seen : Seen) → (change seen).faults ≡ count) → IsSome (object_at slots k)
    → Moves count k slots (changed_at (seen_by change) k slots)
moves change count k [] gives some = absurd (cc some)
moves change count zero (slot ∷ slots) gives some =
    let new = sum_by-cons slot_count (seen_by change slot) slots in
    let old = sum_by-cons slot_count slot slots in
    let here = by slot.object some in
    record { moved = omega (arith, new, old, here); within = omega (arith, old) }
  where
    by : (object : Option Seen) → IsSome object → option_map_or (λ (seen : Seen). seen.faults) (option_map change object) slot.past ≡ count
    by None some = cc some
    by (Some seen) some = gives seen
moves change count (suc k) (slot ∷ slots) gives some =
    let rest = moves change count k slots gives some in
    let new = sum_by-cons slot_count slot (changed_at (seen_by change) k slots) in
    let old = sum_by-cons slot_count slot slots in
    record { moved = omega (arith, new, old, rest.moved); within = omega (arith, old, rest.within) }

-- it rises where the count of one does
capped_rose : (count k : ℕ) (old new : List Slot) → Moves count k old new → Rose (count_at old k) count → Rose (capped old) (capped new)
capped_rose count k old new moved rose = by (total old) (total new) (count_at old k) moved.moved moved.within rose
  where
    by : (before after was : ℕ) → after + was ≡ before + count → was ≤ before → Rose was count → Rose (min before (2 ^ 64 - 1)) (min after (2 ^ 64 - 1))
    by before after was is within rose = grind arith

pub rose_seen : (change : Seen → Seen) (count k : ℕ) (slots : List Slot) → ((seen : Seen) → (change seen).faults ≡ count) → IsSome (object_at slots k)
    → Rose (count_at slots k) count → Rose (capped slots) (capped (changed_at (seen_by change) k slots))
rose_seen change count k slots gives some rose = capped_rose count k slots (changed_at (seen_by change) k slots) (moves change count k slots gives some) rose

pub rose_later : (old new : Group.Group) → Rose (faults_of old) (faults_of new) → faults_of old ≤ faults_of new
rose_later old new rose = by (total old.slots) (total new.slots) rose
  where
    by : (before after : ℕ) → Rose (min before (2 ^ 64 - 1)) (min after (2 ^ 64 - 1)) → min before (2 ^ 64 - 1) ≤ min after (2 ^ 64 - 1)
    by before after rose = grind arith

rose_again : (one two three : ℕ) → Rose (min one (2 ^ 64 - 1)) (min two (2 ^ 64 - 1)) → Rose (min two (2 ^ 64 - 1)) (min three (2 ^ 64 - 1))
    → Rose (min one (2 ^ 64 - 1)) (min three (2 ^ 64 - 1))
rose_again one two three rose again = grind arith

abbrev limited : ℕ → ℕ
limited n = min n (2 ^ 64 - 1)

-- a torn file was asked to be removed
sweeps_rose : (page : PageNo) (before : ℕ) (old new : Group.Group) → IsSome (object_at old.slots (writer_of old.slots)) → Rose (limited before) (faults_of old)
    → Group.Sweeps page old new → Rose (limited before) (faults_of new)
sweeps_rose page before old new some rose (inl is) = subst (λ n. Rose (limited before) (limited n))
    (sym (ap (λ (group : Group.Group). total group.slots) is ∙ total_retired (old.files ++ record { page = page; home = None } ∷ [])
    (changed_at (seen_by (volume.removed page.0)) (writer_of old.slots) old.slots) ∙ total_seen (volume.removed page.0) (λ seen. refl) (writer_of old.slots)
    old.slots)) rose
sweeps_rose page before old new some rose (inr stays) =
    let after = changed_at (seen_by (with_count stays.count)) (writer_of old.slots) old.slots in
    let more = rose_seen (with_count stays.count) stays.count (writer_of old.slots) old.slots (λ seen. refl) some stays.rose in
    subst (λ n. Rose (limited before) (limited n))
    (sym (ap (λ (group : Group.Group). total group.slots) stays.is ∙ total_retired (old.files ++ record { page = page; home = Some (writer_of old.slots) }
    ∷ []) after))
    (rose_again before (total old.slots) (total after) rose more)

pub fails_rose : (page : PageNo) (count : ℕ) (old : Group.Group) → IsSome (object_at old.slots (writer_of old.slots))
    → Rose (count_at old.slots (writer_of old.slots)) count → Rose (faults_of old) (faults_of (Group.failed page count old))
fails_rose page count old some rose = rose_seen (λ seen. with_count count (volume.torn page.0 seen)) count (writer_of old.slots) old.slots (λ seen. refl) some
    rose

-- a write failed
pub tears_rose : (page : PageNo) (clear : Group.Group → Group.Group) (old new : Group.Group) → (tears : Group.Tears page clear old new)
    → IsSome (object_at old.slots (writer_of old.slots))
    → IsSome (object_at (clear (Group.failed page tears.count old)).slots (writer_of (clear (Group.failed page tears.count old)).slots))
    → total (clear (Group.failed page tears.count old)).slots ≡ total (Group.failed page tears.count old).slots → Rose (faults_of old) (faults_of new)
tears_rose page clear old new tears some still same = sweeps_rose page (total old.slots) (clear (Group.failed page tears.count old)) new still
    (subst (λ n. Rose (faults_of old) (limited n)) (sym same) (fails_rose page tears.count old some tears.rose)) tears.sweeps

pub counts_rose : (k : ℕ) (old new : Group.Group) → IsSome (object_at old.slots k) → Group.Counts k old new → Rose (faults_of old) (faults_of new)
counts_rose k old new some counts = subst (λ n. Rose (faults_of old) (limited n)) (sym (ap (λ (group : Group.Group). total group.slots) counts.is))
    (rose_seen (with_count counts.count) counts.count k old.slots (λ seen. refl) some counts.rose)

pub leaves_rose : (page : PageNo) (k : ℕ) (old new : Group.Group) → IsSome (object_at old.slots k) → Group.Leaves page k old new
    → Rose (faults_of old) (faults_of new)
leaves_rose page k old new some leaves = subst (λ n. Rose (faults_of old) (limited n))
    (sym (ap (λ (group : Group.Group). total group.slots) leaves.is ∙ total_let_go (unfiled page.0 old.files) (Some k)
    (changed_at (seen_by (with_count leaves.count)) k old.slots)))
    (rose_seen (with_count leaves.count) leaves.count k old.slots (λ seen. refl) some leaves.rose)
