-- The segment stands inside the buffer; written there, it is the one that came.
use Rattle.std.proofs.Common.{ℕ, ◌*◌, length, refl, ap, ◌∙◌, arith, length-set}
use Rattle.std.proofs.lemmas.List.{with_items_is}
use Rattle.segment_assembly.proofs.SlotLemmas.{write_slot, count_set}
use Rattle.segment_assembly.proofs.ReadyLemmas.{ready_seen}
use Rattle.segment_assembly.proofs.assembly.Assembly.take.Goals as goal

pub overflow_mul-start : goal.overflow_mul-start
overflow_mul-start c =
    let is_ready = ready_seen c.self.inside c.args.self.now c.args.seg (length c.args.bytes.now) c.self.view_is c.self.invariant c.in_default.ensures.none in
    rw c.from.ensures (omega (arith, is_ready.start))

pub write_at-requires : goal.write_at-requires
write_at-requires c =
    let is_ready = ready_seen c.self.inside c.args.self.now c.args.seg (length c.args.bytes.now) c.self.view_is c.self.invariant c.in_default.ensures.none in
    rw (c.from.ensures, c.as_mut_slice.ensures.value) (omega (arith, is_ready.start, is_ready.size))

pub index_mut-requires : goal.index_mut-requires
index_mut-requires c =
    let is_ready = ready_seen c.self.inside c.args.self.now c.args.seg (length c.args.bytes.now) c.self.view_is c.self.invariant c.in_default.ensures.none in
    omega (arith, is_ready.place, c.self.inside.came.ok.0)

pub overflow_sub-self : goal.overflow_sub-self
overflow_sub-self c =
    let is_ready = ready_seen c.self.inside c.args.self.now c.args.seg (length c.args.bytes.now) c.self.view_is c.self.invariant c.in_default.ensures.none in
    omega (arith, count_set c.args.seg c.self.inside.came.items is_ready.place is_ready.empty, c.self.invariant.missing)

pub invariant_of-self : goal.invariant_of-self
invariant_of-self c =
    let is_ready = ready_seen c.self.inside c.args.self.now c.args.seg (length c.args.bytes.now) c.self.view_is c.self.invariant c.in_default.ensures.none in
    let whole = c.self.invariant in
    let items = with_items_is c.self.inside.bytes c.write_at.new.buffer (omega (arith, c.write_at.auto.buffer, c.as_mut_slice.ensures.len)) in
    record {
      some_segment = whole.some_segment;
      some_page = whole.some_page;
      own = whole.own;
      buffer = rw items (omega (arith, c.write_at.auto.buffer, ap length c.as_mut_slice.ensures.value, whole.buffer));
      flags = length-set c.self.inside.came.items c.args.seg _ ∙ whole.flags;
      few = omega (arith, length-set c.self.inside.came.items c.args.seg, whole.few);
      missing = omega (arith, count_set c.args.seg c.self.inside.came.items is_ready.place is_ready.empty, whole.missing);
    }

pub returns-clause-ok : goal.returns-clause-ok
returns-clause-ok c =
    let is_ready = ready_seen c.self.inside c.args.self.now c.args.seg (length c.args.bytes.now) c.self.view_is c.self.invariant c.in_default.ensures.none in
    let whole = c.self.invariant in
    let inside = c.self.inside in
    let items = with_items_is inside.bytes c.write_at.new.buffer (omega (arith, c.write_at.auto.buffer, c.as_mut_slice.ensures.len)) in
    let start = ap (λ (n : ℕ). n * inside.segment) c.from.ensures in
    let write = write_slot inside.segment c.args.seg inside.came.items c.args.bytes.now inside.bytes.items is_ready.place (omega (arith, is_ready.start))
    is_ready.size in
    rw (← c.self.view_is, items, c.write_at.ensures, start, c.as_mut_slice.ensures.value, write) refl
