-- The segments that were taken have their lengths.
use Rattle.std.proofs.Common.{◌≡◌, ℕ, zero, suc, ◌-◌, ◌*◌, Bool, true, false, List, [], ◌∷◌, Option, None, length, min, sum, drop, get_or, ap, ◌∙◌, subst, arith, length-drop}
use Rattle.std.specs.Prelude.{IfSome}
use Rattle.std.specs.Int.{div_ceil}
use Rattle.std.proofs.lemmas.List.{length-take}
use Rattle.segment_assembly.specs.declared.assembly.Assembly.TheInside.{Inside}
use Rattle.segment_assembly.specs.Assembly.{AreSegments}
use Rattle.segment_assembly.specs.Slots.{sending_of, slots, IsWhole}
use Rattle.segment_assembly.proofs.SlotLemmas.{length_slots}

abbrev HasLength : ℕ → Option (List ℕ) → Type 0
HasLength len segment = IfSome segment (λ bytes. length bytes ≡ len)

slot_length : (size k : ℕ) (came : List Bool) (bytes : List ℕ) → HasLength (min size (length bytes - k * size)) (get_or (slots size came bytes) k None)
slot_length size k [] bytes = tt
slot_length size zero (true ∷ came) bytes = length-take size bytes ∙ ap (min size) (omega arith)
slot_length size zero (false ∷ came) bytes = tt
slot_length size (suc k) (c ∷ came) bytes =
    let left : length (drop size bytes) - k * size ≡ length bytes - suc k * size = rw (length-drop size bytes) (omega arith) in
    subst (λ (len : ℕ). HasLength (min size len) (get_or (slots size came (drop size bytes)) k None)) left (slot_length size k came (drop size bytes))

pub are_segments : (inside : Inside) → IsWhole inside → AreSegments (sending_of inside)
are_segments inside whole =
    let own : length inside.bytes.items ≡ sum inside.parts.items = whole.buffer ∙ whole.own in
    record {
      number = length_slots inside.segment inside.came.items inside.bytes.items ∙ whole.flags ∙ ap (λ (len : ℕ). div_ceil len inside.segment) whole.own;
      lengths = λ seg. subst (λ (len : ℕ). HasLength (min inside.segment (len - seg * inside.segment))
          (get_or (slots inside.segment inside.came.items inside.bytes.items) seg None)) own
          (slot_length inside.segment seg inside.came.items inside.bytes.items);
    }
