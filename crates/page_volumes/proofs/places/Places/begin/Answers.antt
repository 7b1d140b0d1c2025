use Rattle.std.proofs.Common.{◌≡◌, None}
use Rattle.page_volumes.specs.Seen.{Begins, HasNone}
use Rattle.page_volumes.proofs.Written
use Rattle.page_volumes.proofs.places.Places.begin.Goals as goal

pub returns : goal.returns
returns g c =
    record {
      act = Written.acts_on g.V.Volume.seen (λ seen. (seen.write ≡ None) × HasNone c.args.page.0 seen)
          (λ old new. Begins c.args.page c.args.len old c.begin.result new)
          c.args.self.now.items.items c.args.k c.index_mut.result.now c.begin.new.self c.index_mut.ensures.value c.requires.closed c.begin.ensures.act;
    }
