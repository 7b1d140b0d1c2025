use Rattle.std.proofs.Common.{option_and_then, ap, ◌∙◌}
use Rattle.page_volumes.specs.Group.{let_go}
use Rattle.page_volumes.specs.Kept.{Book}
use Rattle.page_volumes.specs.Plain.{of_members}
use Rattle.page_volumes.proofs.members.Members.forget.Goals as goal

pub returns-clause-act : goal.returns-clause-act
returns-clause-act g c =
    let seen = g.V.Volume.seen in
    let members = c.args.self.now in
    let old = of_members seen members in
    let files = ap (λ (book : Book). book.filed) c.remove.ensures.rest in
    let home = ap (λ home. option_and_then (λ home. home) home) c.home-home.ensures in
    let slots = c.let_go.ensures ∙ (λ i. let_go (files i) (home i) old.slots) in
    λ i. record old { slots = slots i; files = files i }
