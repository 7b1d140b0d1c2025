-- A call of a volume at a place in the list. Own.
use Rattle.std.specs.Prelude.{ℕ, ◌≡◌, List, Option, Some, None, IsSomeAnd}
use Rattle.blob_source.specs.Faults.{Rose}
use Rattle.page_volumes.specs.Seen.{with_count, HasFile, Seen}
use Rattle.page_volumes.specs.Seen as volume
use Rattle.page_volumes.specs.Group.{changed_at, count_at, object_at, seen_by, writer_of, Slot}

-- a call of the volume in a slot: it is held before and after, nothing else of the slot is different, and what it is seen as is in this relation
abbrev pub ActsAt : Slot → Slot → (Seen → Seen → Type 0) → Type 0
ActsAt old new R = IsSomeAnd old.object (λ before. IsSomeAnd new.object (λ after. R before after × (new ≡ record old { object = Some after })))

-- a call of the volume at a place: it is held, what it is seen as is in this relation, and nothing else is different
pub record Acts (k : ℕ) (old new : List Slot) (R : Seen → Seen → Type 0) : Type 0 where
  pub after : Seen
  pub acts : IsSomeAnd (object_at old k) (λ before. R before after)
  pub is : new ≡ changed_at (seen_by (λ _. after)) k old

-- a call of the volume at a place failed: its count rose, and it is seen otherwise in this way
pub record FailsAt (k : ℕ) (change : Seen → Seen) (old new : List Slot) : Type 0 where
  pub count : ℕ
  pub rose : Rose (count_at old k) count
  pub is : new ≡ changed_at (seen_by (λ seen. with_count count (change seen))) k old

-- the removal of a file was asked at a place, where it is gone or stands
abbrev pub SweepsAt : ℕ → ℕ → List Slot → List Slot → Option ℕ → Type 0
SweepsAt page k old new None = new ≡ changed_at (seen_by (volume.removed page)) k old
SweepsAt page k old new (Some home) = (home ≡ k) × FailsAt k (λ seen. seen) old new

-- the volume at a place may be asked to remove a file
abbrev pub CanRemoveAt : ℕ → List Slot → ℕ → Type 0
CanRemoveAt page slots k = IsSomeAnd (object_at slots k) (λ seen. (seen.write ≡ None) × HasFile page seen)

-- whom the removal of a page may ask, given where its file is
abbrev pub CanRemoveFrom : ℕ → List Slot → Option (Option ℕ) → Type 0
CanRemoveFrom page slots (Some (Some k)) = CanRemoveAt page slots k
CanRemoveFrom page slots (Some None) = Unit {0}
CanRemoveFrom page slots None = CanRemoveAt page slots (writer_of slots)
