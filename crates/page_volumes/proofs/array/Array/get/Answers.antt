use Rattle.std.proofs.Common.{length, sym, subst}
use Rattle.page_volumes.specs.Group
use Rattle.page_volumes.specs.Plain.{of_members}
use Rattle.page_volumes.proofs.Clauses
use Rattle.page_volumes.proofs.Disk
use Rattle.page_volumes.proofs.Goods
use Rattle.page_volumes.proofs.Opened
use Rattle.page_volumes.specs.declared.writing.Writing.{Writing}
use Rattle.page_volumes.specs.Kept.{Book, HasRoom, Kept}
use Rattle.std.proofs.Common.{Option}
use Rattle.page_volumes.proofs.array.Array.get.Goals as goal

pub get-requires : goal.get-requires
get-requires g c =
    let seen = g.V.Volume.seen in
    let members = c.args.self.now.members in
    let old = of_members seen members in
    let is = Disk.closed_is old c.requires.closed in
    let good = Opened.good_of seen members c.args.self.now.keeps is.sound in
    record {
      writes = good.placed.writes;
      there = Disk.can_get c.args.page.0 c.args.off (length c.args.out.now) old good is.closed c.requires.there;
    }

pub invariant_of-self : goal.invariant_of-self
invariant_of-self g c =
    let seen = g.V.Volume.seen in
    let members = c.args.self.now.members in
    let old = of_members seen members in
    let is = Disk.closed_is old c.requires.closed in
    let good = Opened.good_of seen members c.args.self.now.keeps is.sound in
    let new = of_members seen c.get.new.self in
    let good_new = Goods.gets_good c.args.page.0 c.args.off old c.get.result c.get.new.out new good is.closed c.get.ensures.act in
    let sound = Goods.sound_of new good_new in
    record {
      keeps = Opened.plain_of seen c.get.new.self good_new;
      room = subst (λ (files : Book). HasRoom files c.get.new.self.write c.get.new.self.log) (sym c.get.ensures.files)
          (subst (λ (write : Option Writing). HasRoom members.files write c.get.new.self.log) (sym c.get.ensures.write)
          (subst (λ (log : Option Kept). HasRoom members.files members.write log) (sym c.get.ensures.log) c.args.self.now.room));
    }

pub returns : goal.returns
returns g c =
    let seen = g.V.Volume.seen in
    let members = c.args.self.now.members in
    let old = of_members seen members in
    let is = Disk.closed_is old c.requires.closed in
    let good = Opened.good_of seen members c.args.self.now.keeps is.sound in
    let new = of_members seen c.get.new.self in
    let good_new = Goods.gets_good c.args.page.0 c.args.off old c.get.result c.get.new.out new good is.closed c.get.ensures.act in
    let sound = Goods.sound_of new good_new in
    record {
      act = c.get.ensures.act;
      closed = Clauses.get_closed c.args.page.0 c.args.off old new c.get.result c.get.new.out sound is.closed c.get.ensures.act;
      same = Clauses.get_same c.args.page.0 c.args.off old new c.get.result c.get.new.out c.get.ensures.act;
      bytes = Clauses.get_bytes c.args.page.0 c.args.off old new c.get.result c.get.new.out c.args.out.now c.get.ensures.len good is.closed c.requires.there
          c.get.ensures.act;
      failed = Clauses.get_failed c.args.page.0 c.args.off old new c.get.result c.get.new.out good c.get.ensures.act;
      good = Clauses.get_good c.args.page.0 c.args.off old new c.get.result c.get.new.out c.get.ensures.act;
      later = Clauses.get_later c.args.page.0 c.args.off old new c.get.result c.get.new.out good c.get.ensures.act;
      meter = Clauses.get_meter c.args.page.0 c.args.off old new c.get.result c.get.new.out c.args.out.now c.get.ensures.len c.get.ensures.act;
      len = c.get.ensures.len;
    }
