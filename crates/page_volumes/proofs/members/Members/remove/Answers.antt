use Rattle.std.proofs.Common.{sym, subst}
use Rattle.page_volumes.specs.Acts.{Acts}
use Rattle.page_volumes.specs.Seen as volume
use Rattle.page_volumes.specs.Plain.{of_members, of_places}
use Rattle.page_volumes.proofs.Removing.{removes_none}
use Rattle.page_volumes.proofs.members.Members.remove.Goals as goal

pub returns-in-None-clause-act : goal.returns-in-None-clause-act
returns-in-None-clause-act g c =
    let seen = g.V.Volume.seen in
    let old = of_members seen c.args.self.now in
    let new = of_places seen c.remove.new.self in
    removes_none c.args.page old new c.remove.result (sym c.in-None.ensures)
    (subst (λ k. Acts k old.slots new (λ before after. volume.Removes c.args.page.0 before c.remove.result after)) c.writer-k.ensures.value
    c.remove.ensures.act)
