use Rattle.std.proofs.Common.{◌≡◌, ◌++◌, ◌∷◌, [], Option, ap, ◌∙◌, sym, subst}
use Rattle.std.specs.Option.{option_map}
use Rattle.page_disk.specs.declared.change.Change.TheVariants.{Torn}
use Rattle.page_volumes.specs.Acts.{SweepsAt}
use Rattle.page_volumes.specs.Group
use Rattle.page_volumes.specs.Group.{told_more, writer_retired}
use Rattle.page_volumes.specs.Kept.{Book, Kept}
use Rattle.page_volumes.specs.Plain.{log_of, of_members, of_places}
use Rattle.page_volumes.proofs.Acted.{sweeps_writes, swept_by}
use Rattle.page_volumes.proofs.Logs.{noted_told}
use Rattle.page_volumes.proofs.members.Members.tear.Goals as goal

pub returns-clause-act : goal.returns-clause-act
returns-clause-act g c =
    let seen = g.V.Volume.seen in
    let members = c.args.self.now in
    let page = c.args.page in
    let old = of_members seen members in
    let home = c.sweep-home.result in
    let swept = of_places seen c.sweep-home.new.self in
    let files = ap (λ (book : Book). book.filed) c.push.ensures in
    let slots = c.retire_writer.ensures ∙ ap (λ files. writer_retired files swept) files in
    let log = ap (λ (log : Option Kept). option_map log_of log) c.push-2.ensures ∙ noted_told (Torn page) members.log in
    let is : of_members seen (record members { places = c.retire_writer.new.self; files = c.push.new.self; log = c.push-2.new.log })
    ≡ record old {
      slots = writer_retired (old.files ++ record { page = page; home = home } ∷ []) swept;
      files = old.files
          ++ record { page = page; home = home } ∷ [];
      log = told_more (Torn page) old.log;
    } = λ i. record old { slots = slots i; files = files i; log = log i }
    in
    subst (λ (new : Group.Group). Group.Sweeps page old new) (sym is)
    (swept_by page old swept home (subst (λ k. SweepsAt page.0 k old.slots swept home) c.writer-k.ensures.value c.sweep-home.ensures))

pub retire_writer-requires : goal.retire_writer-requires
retire_writer-requires g c =
    let seen = g.V.Volume.seen in
    sweeps_writes c.args.page.0 c.writer-k.result (of_places seen c.args.self.now.places) (of_places seen c.sweep-home.new.self) c.sweep-home.result
    c.sweep-home.ensures ∙ c.requires.writes
