use Rattle.std.proofs.Common.{◌≡◌, None}
use Rattle.page_volumes.specs.Seen.{HasFile, Removes}
use Rattle.page_volumes.proofs.Written
use Rattle.page_volumes.proofs.places.Places.remove.Goals as goal

pub returns : goal.returns
returns g c =
    record {
      act = Written.acts_on g.V.Volume.seen (λ seen. (seen.write ≡ None) × HasFile c.args.page.0 seen)
          (λ old new. Removes c.args.page.0 old c.remove.result new)
          c.args.self.now.items.items c.args.k c.index_mut.result.now c.remove.new.self c.index_mut.ensures.value c.requires.there c.remove.ensures.act;
    }
