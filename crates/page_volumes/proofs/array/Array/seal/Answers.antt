use Rattle.std.proofs.Common.{◌≡◌}
use Rattle.page_volumes.specs.Group
use Rattle.page_volumes.specs.Plain.{of_members}
use Rattle.page_volumes.proofs.Clauses
use Rattle.page_volumes.proofs.Disk
use Rattle.page_volumes.proofs.Goods
use Rattle.page_volumes.proofs.Opened
use Rattle.page_volumes.proofs.array.Array.seal.Goals as goal

pub seal-requires : goal.seal-requires
seal-requires g c =
    let seen = g.V.Volume.seen in
    let members = c.args.self.now.members in
    let old = of_members seen members in
    let is = Disk.open_is (λ write. write.came ≡ write.len) Opened.no_whole old c.requires.whole in
    let good = Opened.good_of seen members c.args.self.now.keeps is.sound in
    record {
      writes = good.placed.writes;
      ready = Disk.can_write old good;
      whole = Opened.open_writing (λ write. write.came ≡ write.len) members.write is.open_so;
      room = c.args.self.now.room;
    }

pub invariant_of-self : goal.invariant_of-self
invariant_of-self g c =
    let seen = g.V.Volume.seen in
    let members = c.args.self.now.members in
    let old = of_members seen members in
    let is = Disk.open_is (λ write. write.came ≡ write.len) Opened.no_whole old c.requires.whole in
    let good = Opened.good_of seen members c.args.self.now.keeps is.sound in
    let new = of_members seen c.seal.new.self in
    let good_new = Goods.seals_good old c.seal.result new good c.seal.ensures.act in
    let sound = Goods.sound_of new good_new in
    record { keeps = Opened.plain_of seen c.seal.new.self good_new; room = c.seal.ensures.room }

pub returns : goal.returns
returns g c =
    let seen = g.V.Volume.seen in
    let members = c.args.self.now.members in
    let old = of_members seen members in
    let is = Disk.open_is (λ write. write.came ≡ write.len) Opened.no_whole old c.requires.whole in
    let good = Opened.good_of seen members c.args.self.now.keeps is.sound in
    let new = of_members seen c.seal.new.self in
    let good_new = Goods.seals_good old c.seal.result new good c.seal.ensures.act in
    let sound = Goods.sound_of new good_new in
    record {
      act = c.seal.ensures.act;
      closed = Clauses.seal_closed old new c.seal.result is.sound sound good c.seal.ensures.act;
      ok = Clauses.seal_ok old new c.seal.result is.sound c.seal.ensures.act;
      failed = Clauses.seal_failed old new c.seal.result is.sound sound good c.seal.ensures.act;
      good = Clauses.seal_good old new c.seal.result c.seal.ensures.act;
      later = Clauses.seal_later old new c.seal.result is.sound sound good c.seal.ensures.act;
      meter = Clauses.seal_meter old new c.seal.result c.seal.ensures.act;
    }
