use Rattle.std.proofs.Common.{◌≡◌, ◌<◌, ℕ, None, Option, refl, sym, ap, ◌∙◌, subst}
use Rattle.std.specs.Prelude.{IsSome}
use Rattle.std.specs.Option.{option_map}
use Rattle.page_disk.specs.declared.change.Change.TheVariants as changes
use Rattle.page_volumes.specs.declared.writing.Writing.{Writing}
use Rattle.page_volumes.specs.Group
use Rattle.page_volumes.specs.Group.{home_of, settled_at, unfiled}
use Rattle.page_volumes.specs.Kept.{noted, CanRemove, Kept}
use Rattle.page_volumes.specs.Seen as volume
use Rattle.page_volumes.specs.Plain.{log_of, of_members, of_places, open_of}
use Rattle.page_volumes.proofs.Acted.{acts_failed, acts_good, acts_length}
use Rattle.page_volumes.proofs.Logs.{noted_told}
use Rattle.page_volumes.proofs.Rooms.{room_less}
use Rattle.page_volumes.proofs.Written.{is_within}
use Rattle.page_volumes.specs.Seen.{HasFile}
use Rattle.page_volumes.proofs.members.Members.remove_at.Goals as goal

pub let_off-requires : goal.let_off-requires
let_off-requires g c =
    let seen = g.V.Volume.seen in
    let old = of_places seen c.args.self.now.places in
    let same = acts_length c.args.k old (of_places seen c.remove.new.self) (λ before after. after ≡ volume.removed c.args.page.0 before) c.in-Ok.ensures.act in
    subst (λ n. c.args.k < n) (sym same) (is_within (λ seen. (seen.write ≡ None) × HasFile c.args.page.0 seen) old c.args.k c.requires.there)

pub let_off-requires-in-Err : goal.let_off-requires-in-Err
let_off-requires-in-Err g c =
    let seen = g.V.Volume.seen in
    let old = of_places seen c.args.self.now.places in
    let same = acts_length c.args.k old (of_places seen c.remove.new.self) (λ before after. volume.Fails before before after) c.in-Err.ensures.act in
    subst (λ n. c.args.k < n) (sym same) (is_within (λ seen. (seen.write ≡ None) × HasFile c.args.page.0 seen) old c.args.k c.requires.there)

pub returns-in-Ok-clause-act : goal.returns-in-Ok-clause-act
returns-in-Ok-clause-act g c =
    let seen = g.V.Volume.seen in
    let members = c.args.self.now in
    let page = c.args.page in
    let old = of_members seen members in
    let files = c.let_off.ensures.files in
    let slots = c.let_off.ensures.slots ∙ ap (λ slots. settled_at (unfiled page.0 old.files) c.args.k slots)
    (acts_good (volume.removed page.0) c.args.k old.slots (of_places seen c.remove.new.self) c.in-Ok.ensures.act) in
    let log = ap (λ (log : Option Kept). option_map log_of log) (c.push.ensures ∙ ap (λ (log : Option Kept). option_map (noted (changes.Remove page)) log)
    c.let_off.ensures.log) ∙ noted_told (changes.Remove page) members.log in
    let write = ap (λ (write : Option Writing). option_map open_of write) c.let_off.ensures.write in
    λ i. record { slots = slots i; files = files i; write = write i; log = log i; meter = c.let_off.ensures.meter i }

pub returns-in-Ok-clause-room : goal.returns-in-Ok-clause-room
returns-in-Ok-clause-room g c =
    let members = c.args.self.now in
    let page = c.args.page in
    let some : IsSome (home_of page.0 members.files.filed) = subst (λ (home : Option (Option ℕ)). IsSome home) (sym c.requires.filed) refl in
    subst (λ (log : Option Kept). CanRemove c.let_off.new.self.files log)
    (sym (c.push.ensures ∙ ap (λ (log : Option Kept). option_map (noted (changes.Remove page)) log) c.let_off.ensures.log))
    (room_less page.0 (changes.Remove page) members.files c.let_off.new.self.files members.log some c.let_off.ensures.files c.requires.room)

pub returns-in-Err-clause-act : goal.returns-in-Err-clause-act
returns-in-Err-clause-act g c =
    let seen = g.V.Volume.seen in
    let members = c.args.self.now in
    let page = c.args.page in
    let old = of_members seen members in
    let fails = acts_failed (λ seen. seen) c.args.k old.slots (of_places seen c.remove.new.self) c.in-Err.ensures.act in
    let files = c.let_off-in-Err.ensures.files in
    let slots = c.let_off-in-Err.ensures.slots ∙ ap (λ slots. settled_at (unfiled page.0 old.files) c.args.k slots) fails.is in
    let log = ap (λ (log : Option Kept). option_map log_of log) (c.push-in-Err.ensures ∙ ap (λ (log : Option Kept). option_map (noted (changes.Left page)) log)
    c.let_off-in-Err.ensures.log) ∙ noted_told (changes.Left page) members.log in
    let write = ap (λ (write : Option Writing). option_map open_of write) c.let_off-in-Err.ensures.write in
    record {
      count = fails.count;
      rose = fails.rose;
      is = λ i. record { slots = slots i; files = files i; write = write i; log = log i; meter = c.let_off-in-Err.ensures.meter i };
    }

pub returns-in-Err-clause-room : goal.returns-in-Err-clause-room
returns-in-Err-clause-room g c =
    let members = c.args.self.now in
    let page = c.args.page in
    let some : IsSome (home_of page.0 members.files.filed) = subst (λ (home : Option (Option ℕ)). IsSome home) (sym c.requires.filed) refl in
    subst (λ (log : Option Kept). CanRemove c.let_off-in-Err.new.self.files log)
    (sym (c.push-in-Err.ensures ∙ ap (λ (log : Option Kept). option_map (noted (changes.Left page)) log) c.let_off-in-Err.ensures.log))
    (room_less page.0 (changes.Left page) members.files c.let_off-in-Err.new.self.files members.log some c.let_off-in-Err.ensures.files c.requires.room)
