use Rattle.std.proofs.Common.{ℕ, Option, refl, sym, ap, subst}
use Rattle.std.specs.Prelude.{IsSome}
use Rattle.page_disk.specs.declared.change.Change.TheVariants.{Remove}
use Rattle.page_volumes.specs.Group.{home_of}
use Rattle.page_volumes.specs.Kept.{Book, CanRemove, Kept}
use Rattle.page_volumes.proofs.Rooms.{room_less}
use Rattle.page_volumes.proofs.members.Members.strike.Goals as goal

pub returns-clause-room : goal.returns-clause-room
returns-clause-room g c =
    let members = c.args.self.now in
    let some : IsSome (home_of c.args.page.0 members.files.filed) = subst (λ (home : Option (Option ℕ)). IsSome home) (sym c.requires.filed) refl in
    subst (λ (log : Option Kept). CanRemove c.remove.new.self log) (sym c.push.ensures)
    (room_less c.args.page.0 (Remove c.args.page) members.files c.remove.new.self members.log some (ap (λ (book : Book). book.filed) c.remove.ensures.rest)
    c.requires.room)
