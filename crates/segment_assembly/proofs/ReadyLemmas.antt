-- What is known of the buffer where a segment may be taken.
use Rattle.std.proofs.Common.{◌≡◌, ℕ, ◌-◌, ◌*◌, ◌<◌, false, length, min, get_or, sym, ap, subst, ◌∙◌, arith}
use Rattle.transport_plan.proofs.SpanLemmas.{start_within}
use Rattle.segment_assembly.specs.declared.assembly.Assembly.TheInside.{Inside}
use Rattle.segment_assembly.specs.Assembly.{Sending, CanTake}
use Rattle.segment_assembly.specs.Slots.{sending_of, IsWhole}
use Rattle.segment_assembly.proofs.SlotLemmas.{length_slots, came_at}

pub record IsReady (inside : Inside) (seg len : ℕ) : Type 0 where
  pub place : seg < length inside.came.items
  pub empty : get_or inside.came.items seg false ≡ false
  pub start : seg * inside.segment < length inside.bytes.items
  pub size : len ≡ min inside.segment (length inside.bytes.items - seg * inside.segment)

pub ready : (inside : Inside) (seg len : ℕ) → IsWhole inside → CanTake (sending_of inside) seg len → IsReady inside seg len
ready inside seg len whole can =
    let place : seg < length inside.came.items = rw length_slots at can.0 in
    let start : seg * inside.segment < inside.own = start_within inside.segment inside.own seg whole.some_segment (rw whole.flags at place) in
    record {
      place = place;
      empty = sym (came_at inside.segment seg inside.came.items inside.bytes.items) ∙ can.1;
      start = omega (arith, start, whole.buffer);
      size = can.2 ∙ ap (λ (own : ℕ). min inside.segment (own - seg * inside.segment)) (sym (whole.buffer ∙ whole.own));
    }

pub ready_seen : (inside : Inside) (sending : Sending) (seg len : ℕ) → sending_of inside ≡ sending → IsWhole inside → CanTake sending seg len
    → IsReady inside seg len
ready_seen inside sending seg len seen whole can =
    ready inside seg len whole (subst (λ (s : Sending). CanTake s seg len) (sym seen) can)
