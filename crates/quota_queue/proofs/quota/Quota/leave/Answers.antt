-- The blob at the place of the name is the one of that name that waits.
use Rattle.std.proofs.Common.{◌≡◌, ◌<◌, arith, sym, subst, refl, true, Some, nat_eq, deque_len}
use Rattle.std.specs.List.{position}
use Rattle.quota_queue.specs.Queue.{Queue, is_waiting, without}
use Rattle.quota_queue.proofs.Waiting.{leaves, no_place}
use Rattle.quota_queue.proofs.quota.Quota.leave.Goals as goal

pub returns-in-None-clause-waited : goal.returns-in-None-clause-waited
returns-in-None-clause-waited c = sym (no_place c.args.name c.args.self.now.waiting c.in-None.ensures).0

pub returns-in-None-clause-left : goal.returns-in-None-clause-left
returns-in-None-clause-left c = rw (no_place c.args.name c.args.self.now.waiting c.in-None.ensures).1 refl

pub invariant_of-self : goal.invariant_of-self
invariant_of-self c =
    let found = subst (λ (queue : Queue). Some c.in-Some.place ≡ position (λ blob. nat_eq c.args.name blob.0) queue.waiting) (sym c.self.view_is)
    c.in-Some.ensures in
    let out = leaves c.args.name c.self.inside.waiting.items c.in-Some.place c.self.invariant.1 found in
    let within : c.in-Some.place < deque_len c.self.inside.waiting = omega (arith, c.self.inside.waiting.ok.0, out.within) in
    let some = c.remove.ensures.succeeds (0, 0) within in
    let items = rw some at c.remove.ensures.items in
    (c.self.invariant.0, rw items out.apart)

pub returns-in-Some-clause-waited : goal.returns-in-Some-clause-waited
returns-in-Some-clause-waited c =
    let found = subst (λ (queue : Queue). Some c.in-Some.place ≡ position (λ blob. nat_eq c.args.name blob.0) queue.waiting) (sym c.self.view_is)
    c.in-Some.ensures in
    let out = leaves c.args.name c.self.inside.waiting.items c.in-Some.place c.self.invariant.1 found in
    subst (λ (queue : Queue). true ≡ is_waiting c.args.name queue.waiting) c.self.view_is (sym out.waited)

pub returns-in-Some-clause-left : goal.returns-in-Some-clause-left
returns-in-Some-clause-left c =
    let found = subst (λ (queue : Queue). Some c.in-Some.place ≡ position (λ blob. nat_eq c.args.name blob.0) queue.waiting) (sym c.self.view_is)
    c.in-Some.ensures in
    let out = leaves c.args.name c.self.inside.waiting.items c.in-Some.place c.self.invariant.1 found in
    let within : c.in-Some.place < deque_len c.self.inside.waiting = omega (arith, c.self.inside.waiting.ok.0, out.within) in
    let some = c.remove.ensures.succeeds (0, 0) within in
    let items = rw some at c.remove.ensures.items in
    let after : Queue = record { used = c.self.inside.used; limit = c.self.inside.limit; waiting = c.remove.new.self.items } in
    subst (λ (queue : Queue). after ≡ record { used = queue.used; limit = queue.limit; waiting = without c.args.name queue.waiting }) c.self.view_is
    (rw (items, out.left) refl)
