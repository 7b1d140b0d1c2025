use Rattle.page_volumes.specs.Plain.{blank}
use Rattle.page_volumes.proofs.Goods.{keeps_as}
use Rattle.page_volumes.proofs.array.Array.held.Goals as goal

pub returns-clause-right : goal.returns-clause-right
returns-clause-right g c = (keeps_as (λ _. blank) g.V.Volume.seen c.args.self.now.members c.args.self.now.keeps).held
