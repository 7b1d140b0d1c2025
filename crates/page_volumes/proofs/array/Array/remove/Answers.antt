use Rattle.std.proofs.Common.{sym, subst}
use Rattle.page_volumes.specs.Group
use Rattle.page_volumes.specs.Plain.{of_members}
use Rattle.page_volumes.proofs.Clauses
use Rattle.page_volumes.proofs.Disk
use Rattle.page_volumes.proofs.Goods
use Rattle.page_volumes.proofs.Opened
use Rattle.page_volumes.specs.declared.writing.Writing.{Writing}
use Rattle.page_volumes.specs.Kept.{HasRoom}
use Rattle.std.proofs.Common.{Option, ◌∙◌}
use Rattle.page_volumes.proofs.array.Array.remove.Goals as goal

pub remove-requires : goal.remove-requires
remove-requires g c =
    let seen = g.V.Volume.seen in
    let members = c.args.self.now.members in
    let old = of_members seen members in
    let is = Disk.closed_is old c.requires.closed in
    let good = Opened.good_of seen members c.args.self.now.keeps is.sound in
    record {
      writes = good.placed.writes;
      there = Disk.can_remove c.args.page.0 old good is.closed c.requires.there;
      room = c.args.self.now.room.1;
    }

pub invariant_of-self : goal.invariant_of-self
invariant_of-self g c =
    let seen = g.V.Volume.seen in
    let members = c.args.self.now.members in
    let old = of_members seen members in
    let is = Disk.closed_is old c.requires.closed in
    let good = Opened.good_of seen members c.args.self.now.keeps is.sound in
    let new = of_members seen c.remove.new.self in
    let good_new = Goods.removes_good c.args.page old c.remove.result new good is.closed c.remove.ensures.act in
    let sound = Goods.sound_of new good_new in
    record {
      keeps = Opened.plain_of seen c.remove.new.self good_new;
      room = subst (λ (write : Option Writing). HasRoom c.remove.new.self.files write c.remove.new.self.log)
          (sym (c.remove.ensures.write ∙ Opened.closed_writing members.write is.closed)) (tt, c.remove.ensures.room);
    }

pub returns : goal.returns
returns g c =
    let seen = g.V.Volume.seen in
    let members = c.args.self.now.members in
    let old = of_members seen members in
    let is = Disk.closed_is old c.requires.closed in
    let good = Opened.good_of seen members c.args.self.now.keeps is.sound in
    let new = of_members seen c.remove.new.self in
    let good_new = Goods.removes_good c.args.page old c.remove.result new good is.closed c.remove.ensures.act in
    let sound = Goods.sound_of new good_new in
    record {
      act = c.remove.ensures.act;
      closed = Clauses.remove_closed c.args.page old new c.remove.result sound is.closed c.remove.ensures.act;
      ok = Clauses.remove_ok c.args.page old new c.remove.result good is.closed c.requires.there c.remove.ensures.act;
      failed = Clauses.remove_failed c.args.page old new c.remove.result good is.closed c.requires.there c.remove.ensures.act;
      good = Clauses.remove_good c.args.page old new c.remove.result c.remove.ensures.act;
      later = Clauses.remove_later c.args.page old new c.remove.result good c.remove.ensures.act;
      meter = Clauses.remove_meter c.args.page old new c.remove.result c.remove.ensures.act;
    }
