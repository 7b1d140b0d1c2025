use Rattle.std.proofs.Common.{◌+◌, ◌≤◌, length}
use Rattle.std.specs.Prelude.{IsSomeAnd}
use Rattle.page_volumes.specs.Seen.{Appends}
use Rattle.page_volumes.proofs.Written
use Rattle.page_volumes.proofs.places.Places.append.Goals as goal

pub returns : goal.returns
returns g c =
    record {
      act = Written.acts_on g.V.Volume.seen (λ seen. IsSomeAnd seen.write (λ write. write.came + length c.args.bytes.now ≤ write.len))
          (λ old new. Appends c.args.bytes.now old c.append.result new)
          c.args.self.now.items.items c.args.k c.index_mut.result.now c.append.new.self c.index_mut.ensures.value c.requires.fits c.append.ensures.act;
    }
