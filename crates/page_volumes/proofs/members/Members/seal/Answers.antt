use Rattle.std.proofs.Common.{◌≡◌, ◌+◌, Some, None, [], ◌∷◌, ◌++◌, Option, sym, ap, ◌∙◌, subst}
use Rattle.std.specs.Prelude.{IsSomeAnd}
use Rattle.std.specs.Option.{option_map}
use Rattle.page_disk.specs.Changes.{OpenWrite}
use Rattle.page_volumes.specs.Acts.{Acts, CanRemoveAt}
use Rattle.page_volumes.specs.Group
use Rattle.page_volumes.specs.Group.{takes_writes, writer_of}
use Rattle.page_volumes.specs.Kept.{Book, Kept}
use Rattle.page_volumes.specs.Seen.{open_page, with_count, Fails}
use Rattle.page_volumes.specs.Seen as volume
use Rattle.page_volumes.specs.Plain.{log_of, of_members, of_places, open_of}
use Rattle.page_volumes.proofs.Acted.{acts_failed, acts_good, acts_more, writes_seen}
use Rattle.page_volumes.proofs.Logs.{sealed_told}
use Rattle.page_volumes.proofs.Tearing.{failed_removable}
use Rattle.page_volumes.proofs.members.Members.seal.Goals as goal

pub tear-requires-clause-writes : goal.tear-requires-clause-writes
tear-requires-clause-writes g c =
    let seen = g.V.Volume.seen in
    let members = c.args.self.now in
    let write = c.unwrap-write.result in
    let page = write.page in
    let old = of_members seen members in
    let w = writer_of old.slots in
    let opened : option_map open_of members.write ≡ Some (open_of write) = ap (option_map open_of) c.unwrap-write.ensures in
    let acts = acts_more (λ one. one.write ≡ option_map open_of members.write)
    (λ before after. Fails (volume.torn (open_page before.write) before) before after) (λ before after. Fails (volume.torn page.0 before) before after) w
    old.slots (of_places seen c.seal.new.self)
    (λ before after is so. subst (λ one. Fails (volume.torn (open_page one) before) before after) (is ∙ opened) so) c.requires.ready
    (subst (λ k. Acts k old.slots (of_places seen c.seal.new.self) (λ before after. Fails (volume.torn (open_page before.write) before) before after))
    c.writer-k.ensures.value c.in-Err.ensures.act) in
    let fails = acts_failed (volume.torn page.0) w old.slots (of_places seen c.seal.new.self) acts in
    ap takes_writes fails.is ∙ writes_seen (λ seen. with_count fails.count (volume.torn page.0 seen)) w old.slots ∙ c.requires.writes

pub tear-requires-clause-there : goal.tear-requires-clause-there
tear-requires-clause-there g c =
    let seen = g.V.Volume.seen in
    let members = c.args.self.now in
    let write = c.unwrap-write.result in
    let page = write.page in
    let old = of_members seen members in
    let w = writer_of old.slots in
    let opened : option_map open_of members.write ≡ Some (open_of write) = ap (option_map open_of) c.unwrap-write.ensures in
    let acts = acts_more (λ one. one.write ≡ option_map open_of members.write)
    (λ before after. Fails (volume.torn (open_page before.write) before) before after) (λ before after. Fails (volume.torn page.0 before) before after) w
    old.slots (of_places seen c.seal.new.self)
    (λ before after is so. subst (λ one. Fails (volume.torn (open_page one) before) before after) (is ∙ opened) so) c.requires.ready
    (subst (λ k. Acts k old.slots (of_places seen c.seal.new.self) (λ before after. Fails (volume.torn (open_page before.write) before) before after))
    c.writer-k.ensures.value c.in-Err.ensures.act) in
    let fails = acts_failed (volume.torn page.0) w old.slots (of_places seen c.seal.new.self) acts in
    subst (λ slots. CanRemoveAt page.0 slots (writer_of slots)) (sym fails.is)
    (failed_removable page fails.count (λ one. one.write ≡ option_map open_of members.write) old.slots c.requires.ready)

pub returns-in-Err-clause-act : goal.returns-in-Err-clause-act
returns-in-Err-clause-act g c =
    let seen = g.V.Volume.seen in
    let members = c.args.self.now in
    let write = c.unwrap-write.result in
    let page = write.page in
    let old = of_members seen members in
    let w = writer_of old.slots in
    let opened : option_map open_of members.write ≡ Some (open_of write) = ap (option_map open_of) c.unwrap-write.ensures in
    let acts = acts_more (λ one. one.write ≡ option_map open_of members.write)
    (λ before after. Fails (volume.torn (open_page before.write) before) before after) (λ before after. Fails (volume.torn page.0 before) before after) w
    old.slots (of_places seen c.seal.new.self)
    (λ before after is so. subst (λ one. Fails (volume.torn (open_page one) before) before after) (is ∙ opened) so) c.requires.ready
    (subst (λ k. Acts k old.slots (of_places seen c.seal.new.self) (λ before after. Fails (volume.torn (open_page before.write) before) before after))
    c.writer-k.ensures.value c.in-Err.ensures.act) in
    let fails = acts_failed (volume.torn page.0) w old.slots (of_places seen c.seal.new.self) acts in
    let mid : of_members seen (record members { places = c.seal.new.self; write = None }) ≡ Group.failed page fails.count old =
    λ i. record old { slots = fails.is i; write = None } in
    let tears : Group.Tears page (λ group. group) old (of_members seen c.tear.new.self) =
    record {
      count = fails.count;
      rose = fails.rose;
      sweeps = subst (λ (group : Group.Group). Group.Sweeps page group (of_members seen c.tear.new.self))
          mid c.tear.ensures.act;
    } in
    subst (λ write. IsSomeAnd write (λ (write : OpenWrite). Group.Tears write.page (λ group. group) old (of_members seen c.tear.new.self))) (sym opened) tears

pub returns-in-Ok-clause-act : goal.returns-in-Ok-clause-act
returns-in-Ok-clause-act g c =
    let seen = g.V.Volume.seen in
    let members = c.args.self.now in
    let write = c.unwrap-write.result in
    let page = write.page in
    let old = of_members seen members in
    let w = writer_of old.slots in
    let opened : option_map open_of members.write ≡ Some (open_of write) = ap (option_map open_of) c.unwrap-write.ensures in
    let puts = acts_more (λ one. one.write ≡ option_map open_of members.write) (λ before after. after ≡ volume.put (open_page before.write) before)
    (λ before after. after ≡ volume.put page.0 before) w old.slots (of_places seen c.seal.new.self)
    (λ before after is so. subst (λ one. after ≡ volume.put (open_page one) before) (is ∙ opened) so) c.requires.ready
    (subst (λ k. Acts k old.slots (of_places seen c.seal.new.self) (λ before after. after ≡ volume.put (open_page before.write) before))
    c.writer-k.ensures.value c.in-Ok.ensures.act) in
    let slots = acts_good (volume.put page.0) w old.slots (of_places seen c.seal.new.self) puts in
    let log = ap (λ (log : Option Kept). option_map log_of log) c.put.ensures ∙ sealed_told page members.log in
    let files = ap (λ (book : Book). book.filed) c.push.ensures ∙ ap (λ k. old.files ++ record { page = page; home = Some k } ∷ []) c.writer-k.ensures.value in
    let is : of_members seen (record members { places = c.seal.new.self; files = c.push.new.self; write = None; log = c.put.new.log }) ≡ Group.put page old =
    λ i. record old { slots = slots i; files = files i; write = None; log = log i } in
    subst (λ write. IsSomeAnd write (λ (write : OpenWrite). of_members seen
    (record members { places = c.seal.new.self; files = c.push.new.self; write = None; log = c.put.new.log }) ≡ Group.put write.page old)) (sym opened) is
