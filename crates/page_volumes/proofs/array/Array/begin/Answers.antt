use Rattle.page_volumes.specs.Group
use Rattle.page_volumes.specs.Plain.{of_members}
use Rattle.page_volumes.proofs.Clauses
use Rattle.page_volumes.proofs.Disk
use Rattle.page_volumes.proofs.Goods
use Rattle.page_volumes.proofs.Opened
use Rattle.page_volumes.proofs.array.Array.begin.Goals as goal

pub begin-requires : goal.begin-requires
begin-requires g c =
    let seen = g.V.Volume.seen in
    let members = c.args.self.now.members in
    let old = of_members seen members in
    let is = Disk.closed_is old c.requires.closed in
    let good = Opened.good_of seen members c.args.self.now.keeps is.sound in
    record {
      writes = good.placed.writes;
      ready = Disk.can_begin c.args.page.0 old good is.closed c.requires.new_page;
      some = c.requires.some;
      homes = good.placed.homes c.args.page.0;
      closed = Opened.closed_writing members.write is.closed;
      room = c.args.self.now.room.1;
    }

pub invariant_of-self : goal.invariant_of-self
invariant_of-self g c =
    let seen = g.V.Volume.seen in
    let members = c.args.self.now.members in
    let old = of_members seen members in
    let is = Disk.closed_is old c.requires.closed in
    let good = Opened.good_of seen members c.args.self.now.keeps is.sound in
    let new = of_members seen c.begin.new.self in
    let good_new = Goods.begins_good c.args.page c.args.len old c.begin.result new good is.closed (Disk.new_log c.args.page old c.requires.new_page)
    c.begin.ensures.act in
    let sound = Goods.sound_of new good_new in
    record { keeps = Opened.plain_of seen c.begin.new.self good_new; room = c.begin.ensures.room }

pub returns : goal.returns
returns g c =
    let seen = g.V.Volume.seen in
    let members = c.args.self.now.members in
    let old = of_members seen members in
    let is = Disk.closed_is old c.requires.closed in
    let good = Opened.good_of seen members c.args.self.now.keeps is.sound in
    let new = of_members seen c.begin.new.self in
    let good_new = Goods.begins_good c.args.page c.args.len old c.begin.result new good is.closed (Disk.new_log c.args.page old c.requires.new_page)
    c.begin.ensures.act in
    let sound = Goods.sound_of new good_new in
    record {
      act = c.begin.ensures.act;
      ok = Clauses.begin_ok c.args.page c.args.len old new c.begin.result sound c.begin.ensures.act;
      failed = Clauses.begin_failed c.args.page c.args.len old new c.begin.result sound good c.begin.ensures.act;
      memory = Clauses.begin_memory c.args.page c.args.len old new c.begin.result sound is.closed c.begin.ensures.act;
      good = Clauses.begin_good c.args.page c.args.len old new c.begin.result c.begin.ensures.act;
      later = Clauses.begin_later c.args.page c.args.len old new c.begin.result good c.begin.ensures.act;
      meter = Clauses.begin_meter c.args.page c.args.len old new c.begin.result good c.begin.ensures.act;
    }
