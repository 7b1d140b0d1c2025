-- Which fault is answered, read off the flags of the segments.
use Rattle.std.proofs.Common.{◌≡◌, ◌≢◌, ℕ, ◌-◌, ◌*◌, ◌<◌, ◌≤◌, true, false, Some, None, length, min, sum, get_or, refl}
use Rattle.std.proofs.lemmas.Bool.{le-leb, lt-leb, eq-eqb, ne_eqb}
use Rattle.segment_assembly.specs.declared.assembly.Assembly.TheInside.{Inside}
use Rattle.segment_assembly.specs.declared.segment_fault.SegmentFault.TheVariants.{BadSegment, Taken, Length}
use Rattle.segment_assembly.specs.Assembly.{segment_fault}
use Rattle.segment_assembly.specs.Slots.{sending_of}
use Rattle.segment_assembly.proofs.SlotLemmas.{length_slots, came_at}

module _ (inside : Inside) (seg len : ℕ) where
  pub bad_is : length inside.came.items ≤ seg → Some (BadSegment (length inside.came.items)) ≡ segment_fault (sending_of inside) seg len
  bad_is behind = rw (length_slots inside.segment inside.came.items inside.bytes.items, le-leb (length inside.came.items) seg behind) refl

  pub taken_is : seg < length inside.came.items → get_or inside.came.items seg false ≡ true → Some Taken ≡ segment_fault (sending_of inside) seg len
  taken_is place came =
      rw (
        length_slots inside.segment inside.came.items inside.bytes.items,
        lt-leb (length inside.came.items) seg place,
        came_at inside.segment seg
            inside.came.items inside.bytes.items,
        came,
      ) refl

  pub length_is : (want : ℕ) → seg < length inside.came.items → get_or inside.came.items seg false ≡ false → want
      ≡ min inside.segment (sum inside.parts.items - seg * inside.segment)
      → len ≢ want → Some (Length want) ≡ segment_fault (sending_of inside) seg len
  length_is want place came is_want other =
      rw (
        length_slots inside.segment inside.came.items inside.bytes.items,
        lt-leb (length inside.came.items) seg place,
        came_at inside.segment seg
            inside.came.items inside.bytes.items,
        came,
        ← is_want,
        ne_eqb len want other,
      ) refl

  pub fits_is : (want : ℕ) → seg < length inside.came.items → get_or inside.came.items seg false ≡ false → want
      ≡ min inside.segment (sum inside.parts.items - seg * inside.segment)
      → len ≡ want → None ≡ segment_fault (sending_of inside) seg len
  fits_is want place came is_want same =
      rw (
        length_slots inside.segment inside.came.items inside.bytes.items,
        lt-leb (length inside.came.items) seg place,
        came_at inside.segment seg
            inside.came.items inside.bytes.items,
        came,
        ← is_want,
        eq-eqb len want same,
      ) refl
