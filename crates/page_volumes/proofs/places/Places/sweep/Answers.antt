use Rattle.page_volumes.specs.Seen as volume
use Rattle.page_volumes.specs.Plain.{of_places}
use Rattle.std.proofs.Common.{refl}
use Rattle.page_volumes.proofs.Acted.{acts_failed, acts_good}
use Rattle.page_volumes.proofs.places.Places.sweep.Goals as goal

pub returns-in-Ok : goal.returns-in-Ok
returns-in-Ok g c = acts_good (volume.removed c.args.page.0) c.args.k (of_places g.V.Volume.seen c.args.self.now) (of_places g.V.Volume.seen c.remove.new.self)
    c.in-Ok.ensures.act

pub returns-in-Err : goal.returns-in-Err
returns-in-Err g c = (
  refl,
  acts_failed (λ seen. seen) c.args.k (of_places g.V.Volume.seen c.args.self.now) (of_places g.V.Volume.seen c.remove.new.self)
      c.in-Err.ensures.act,
)
