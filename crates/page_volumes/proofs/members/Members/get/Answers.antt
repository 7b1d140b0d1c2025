use Rattle.std.proofs.Common.{rules, ◌≡◌, ◌+◌, ◌-◌, ◌^◌, length, min, subst}
use Rattle.std.specs.Prelude.{Ok}
use Rattle.page_volumes.specs.Acts.{Acts}
use Rattle.page_volumes.specs.Group
use Rattle.page_volumes.specs.Group.{changed_at, seen_by}
use Rattle.page_volumes.specs.Seen.{with_count}
use Rattle.page_volumes.specs.Seen as volume
use Rattle.page_volumes.specs.Plain.{of_members, of_places}
use Rattle.page_volumes.proofs.Acted.{acts_failed}
use Rattle.page_volumes.proofs.Removing.{acts_read}
use Rattle.page_volumes.proofs.members.Members.get.Goals as goal

pub returns-in-Err-clause-act : goal.returns-in-Err-clause-act
returns-in-Err-clause-act g c =
    let seen = g.V.Volume.seen in
    let old = of_members seen c.args.self.now in
    let k = Group.asked_at c.args.page.0 old in
    let new = of_places seen c.get.new.self in
    let fails = acts_failed (λ seen. seen) k old.slots new (subst (λ k. Acts k old.slots new (λ before after. volume.Fails before before after))
    c.asked-k.ensures c.in-Err.ensures.act) in
    let after : Group.Group = record old { slots = new } in
    let is : after ≡ record old { slots = changed_at (seen_by (with_count fails.count)) k old.slots } = λ i. record old { slots = fails.is i } in
    let counts : Group.Counts k old after = record { count = fails.count; rose = fails.rose; is = is } in
    counts

pub returns-in-Ok-clause-act : goal.returns-in-Ok-clause-act
returns-in-Ok-clause-act g c =
    let seen = g.V.Volume.seen in
    let members = c.args.self.now in
    let old = of_members seen members in
    let k = Group.asked_at c.args.page.0 old in
    let new = of_places seen c.get.new.self in
    let read = acts_read c.args.page.0 c.args.off c.get.new.out k old.slots new
    (subst (λ k. Acts k old.slots new (λ before after. (after ≡ before) × volume.AreOf c.args.page.0 c.args.off c.get.new.out before)) c.asked-k.ensures
    c.in-Ok.ensures.act) in
    let same = read.0 in
    let metered : c.saturating_add-self.result ≡ min (members.meter + length c.get.new.out) (2 ^ 64 - 1) = search rules in
    let after : Group.Group = record old { slots = new; meter = c.saturating_add-self.result } in
    let is : after ≡ record old { meter = min (old.meter + length c.get.new.out) (2 ^ 64 - 1) } = λ i. record old { slots = same i; meter = metered i } in
    let gets : Group.Gets c.args.page.0 c.args.off old (Ok tt) c.get.new.out after = (is, read.1) in
    gets
