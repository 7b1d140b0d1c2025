use Rattle.std.proofs.Common.{◌≡◌}
use Rattle.std.specs.Prelude.{IsSomeAnd}
use Rattle.page_volumes.specs.Seen.{Seals}
use Rattle.page_volumes.proofs.Written
use Rattle.page_volumes.proofs.places.Places.seal.Goals as goal

pub returns : goal.returns
returns g c =
    record {
      act = Written.acts_on g.V.Volume.seen (λ seen. IsSomeAnd seen.write (λ write. write.came ≡ write.len)) (λ old new. Seals old c.seal.result new)
          c.args.self.now.items.items c.args.k c.index_mut.result.now c.seal.new.self c.index_mut.ensures.value c.requires.whole c.seal.ensures.act;
    }
