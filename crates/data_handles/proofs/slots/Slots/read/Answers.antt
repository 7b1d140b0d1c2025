use Rattle.std.proofs.Common.{◌≡◌, ◌+◌, ◌≤◌, drop, length, take, Option, sym, subst}
use Rattle.std.specs.Prelude.{IfSome, IsSomeAnd, OnOk}
use Rattle.data_handles.specs.Handles.{Handle}
use Rattle.std.proofs.lemmas.Result.{on_ok_weaker}
use Rattle.data_handles.proofs.Written
use Rattle.data_handles.proofs.slots.Slots.read.Goals as goal

pub returns : goal.returns
returns g c =
    let seen = g.H.DataHandle.seen in
    let items = c.args.self.now.slots.items in
    let past = c.args.self.now.past in
    let k = c.args.k in
    let place = c.index_mut.result.now in
    let within = Written.place_within seen (λ handle. c.args.off + length c.args.out.now ≤ handle.size) items past k c.requires in
    let there = Written.slot_there seen items k place c.index_mut.ensures.value within in
    let old = Written.old_faults seen items past k place there in
    let new = Written.new_faults seen items past k place c.read.new.self there in
    record {
      rest = Written.counted_places seen items past k place c.read.new.self there c.read.ensures.rest;
      bytes = subst (λ (object : Option Handle). OnOk c.read.result (IsSomeAnd object
          (λ handle. IfSome handle.told (λ bytes. c.read.new.out ≡ take (length c.args.out.now) (drop c.args.off bytes)))))
          (sym (Written.old_object seen items past k place there)) c.read.ensures.bytes;
      good = on_ok_weaker c.read.result (λ same. Written.same_places seen items past k place c.read.new.self there same) c.read.ensures.good;
      failed = rw (old, new) c.read.ensures.failed;
      later = rw (old, new) c.read.ensures.later;
    }
