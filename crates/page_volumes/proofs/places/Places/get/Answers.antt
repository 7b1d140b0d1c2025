use Rattle.std.proofs.Common.{◌≡◌, None, length}
use Rattle.page_volumes.specs.Seen.{Gets, HasBytes}
use Rattle.page_volumes.proofs.Written
use Rattle.page_volumes.proofs.places.Places.get.Goals as goal

pub returns-clause-act : goal.returns-clause-act
returns-clause-act g c =
    Written.acts_on g.V.Volume.seen (λ seen. (seen.write ≡ None) × HasBytes c.args.page.0 c.args.off (length c.args.out.now) seen)
    (λ old new. Gets c.args.page.0 c.args.off old c.get.result c.get.new.out new)
    c.args.self.now.items.items c.args.k c.index_mut.result.now c.get.new.self c.index_mut.ensures.value c.requires.there c.get.ensures.act
