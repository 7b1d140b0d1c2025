use Rattle.std.proofs.Common.{◌+◌, ◌≤◌, length}
use Rattle.page_volumes.specs.Group
use Rattle.page_volumes.specs.Plain.{of_members}
use Rattle.page_volumes.proofs.Clauses
use Rattle.page_volumes.proofs.Disk
use Rattle.page_volumes.proofs.Goods
use Rattle.page_volumes.proofs.Opened
use Rattle.page_volumes.proofs.array.Array.append.Goals as goal

pub append-requires : goal.append-requires
append-requires g c =
    let seen = g.V.Volume.seen in
    let members = c.args.self.now.members in
    let old = of_members seen members in
    let is = Disk.open_is (λ write. write.came + length c.args.bytes.now ≤ write.len) (Opened.no_fits (length c.args.bytes.now)) old c.requires.fits in
    let good = Opened.good_of seen members c.args.self.now.keeps is.sound in
    record {
      writes = good.placed.writes;
      ready = Disk.can_write old good;
      fits = Opened.open_writing (λ write. write.came + length c.args.bytes.now ≤ write.len) members.write is.open_so;
      some = c.requires.some;
      most = c.requires.most;
      room = c.args.self.now.room;
    }

pub invariant_of-self : goal.invariant_of-self
invariant_of-self g c =
    let seen = g.V.Volume.seen in
    let members = c.args.self.now.members in
    let old = of_members seen members in
    let is = Disk.open_is (λ write. write.came + length c.args.bytes.now ≤ write.len) (Opened.no_fits (length c.args.bytes.now)) old c.requires.fits in
    let good = Opened.good_of seen members c.args.self.now.keeps is.sound in
    let new = of_members seen c.append.new.self in
    let good_new = Goods.appends_good c.args.bytes.now old c.append.result new good c.append.ensures.act in
    let sound = Goods.sound_of new good_new in
    record { keeps = Opened.plain_of seen c.append.new.self good_new; room = c.append.ensures.room }

pub returns : goal.returns
returns g c =
    let seen = g.V.Volume.seen in
    let members = c.args.self.now.members in
    let old = of_members seen members in
    let is = Disk.open_is (λ write. write.came + length c.args.bytes.now ≤ write.len) (Opened.no_fits (length c.args.bytes.now)) old c.requires.fits in
    let good = Opened.good_of seen members c.args.self.now.keeps is.sound in
    let new = of_members seen c.append.new.self in
    let good_new = Goods.appends_good c.args.bytes.now old c.append.result new good c.append.ensures.act in
    let sound = Goods.sound_of new good_new in
    record {
      act = c.append.ensures.act;
      ok = Clauses.append_ok c.args.bytes.now old new c.append.result is.sound sound c.append.ensures.act;
      failed = Clauses.append_failed c.args.bytes.now old new c.append.result is.sound sound good c.append.ensures.act;
      good = Clauses.append_good c.args.bytes.now old new c.append.result c.append.ensures.act;
      later = Clauses.append_later c.args.bytes.now old new c.append.result is.sound sound good c.append.ensures.act;
      meter = Clauses.append_meter c.args.bytes.now old new c.append.result c.append.ensures.act;
    }
