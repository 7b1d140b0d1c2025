use Rattle.std.proofs.Common.{◌≡◌, ◌<◌, Some, None, [], Option, length, ap, ◌∙◌, sym, subst}
use Rattle.std.specs.Prelude.{Err, IfSome}
use Rattle.std.specs.Option.{option_map}
use Rattle.page_volumes.specs.Acts.{Acts, CanRemoveAt}
use Rattle.page_volumes.specs.Group
use Rattle.page_volumes.specs.Group.{changed_at, forgotten, place_of, seen_by, takes_writes, unfiled, writer_of, writer_seen, Log}
use Rattle.page_volumes.specs.Kept.{started, Kept}
use Rattle.page_volumes.specs.Seen as volume
use Rattle.page_volumes.specs.Plain.{log_of, of_members, of_places, open_of}
use Rattle.page_volumes.proofs.Acted.{acts_failed, acts_good, acts_length, unchanged, writes_let_go, writes_seen}
use Rattle.page_volumes.proofs.Tearing.{cleared_removable}
use Rattle.page_volumes.proofs.Logs.{started_told, within_same}
use Rattle.page_volumes.proofs.members.Members.begin.Goals as goal

pub returns-in-Ok-clause-act : goal.returns-in-Ok-clause-act
returns-in-Ok-clause-act g c =
    let seen = g.V.Volume.seen in
    let members = c.args.self.now in
    let page = c.args.page in
    let len = c.args.len in
    let old = of_members seen members in
    let after = of_places seen c.begin.new.self in
    let slots = acts_good (volume.begun page len) c.writer-k.result old.slots after c.in-Ok.ensures.act ∙ ap
    (λ k. changed_at (seen_by (volume.begun page len)) k old.slots) c.writer-k.ensures.value in
    let files = c.prepare.ensures.files in
    let told = c.prepare.ensures.log in
    let mid : of_members seen (record members { places = c.begin.new.self; files = c.prepare.new.files; log = c.prepare.new.log })
    ≡ writer_seen (volume.begun page len) old = λ i. record old { slots = slots i; files = files i; log = told i } in
    let forgot = c.forget.ensures.act ∙ ap (λ (group : Group.Group). forgotten page.0 group) mid in
    let log = ap (λ (log : Option Kept). option_map log_of log) (c.start.ensures ∙ ap (λ (log : Option Kept). option_map started log) c.forget.ensures.log)
    ∙ started_told c.prepare.new.log ∙ ap (λ (log : Option Log). option_map (λ (log : Log). record log { came = [] }) log) told in
    λ i. record (forgot i) { write = Some (record { page = page; len = len; came = 0 }); log = log i }

pub forget-requires : goal.forget-requires
forget-requires g c =
    let seen = g.V.Volume.seen in
    let members = c.args.self.now in
    let page = c.args.page in
    let old = of_places seen members.places in
    let new = of_places seen c.begin.new.self in
    let same = acts_length c.writer-k.result old new (λ before after. after ≡ volume.begun page c.args.len before) c.in-Ok.ensures.act in
    subst (λ files. IfSome (place_of page.0 files) (λ k. k < length new)) (sym c.prepare.ensures.files)
    (within_same (place_of page.0 members.files.filed) (length old) (length new) (sym same) c.requires.homes)

pub forget-requires-in-Err-Failed : goal.forget-requires-in-Err-Failed
forget-requires-in-Err-Failed g c =
    let seen = g.V.Volume.seen in
    let members = c.args.self.now in
    let page = c.args.page in
    let old = of_places seen members.places in
    let new = of_places seen c.begin.new.self in
    let same = acts_length c.writer-k.result old new (λ before after. volume.Fails (volume.torn page.0 before) before after)
    (subst (λ fault. Acts c.writer-k.result (of_places g.V.Volume.seen c.args.self.now.places) (of_places g.V.Volume.seen c.begin.new.self)
    (λ before after. volume.Begins c.args.page c.args.len before (Err fault) after)) c.in-Err-Failed.field-0-is c.in-Err-Failed.ensures.act) in
    subst (λ files. IfSome (place_of page.0 files) (λ k. k < length new)) (sym c.prepare.ensures.files)
    (within_same (place_of page.0 members.files.filed) (length old) (length new) (sym same) c.requires.homes)

pub returns-in-Err-NoMemory-clause-act : goal.returns-in-Err-NoMemory-clause-act
returns-in-Err-NoMemory-clause-act g c =
    let seen = g.V.Volume.seen in
    let old = of_members seen c.args.self.now in
    let after = of_places seen c.begin.new.self in
    let slots = acts_good (λ one. one) c.writer-k.result old.slots after
    (subst (λ fault. Acts c.writer-k.result (of_places g.V.Volume.seen c.args.self.now.places) (of_places g.V.Volume.seen c.begin.new.self)
    (λ before after. volume.Begins c.args.page c.args.len before (Err fault) after)) c.in-Err-NoMemory.field-0-is c.in-Err-NoMemory.ensures.act) ∙ unchanged
    c.writer-k.result old.slots in
    let files = c.prepare.ensures.files in
    let told = c.prepare.ensures.log in
    λ i. record old { slots = slots i; files = files i; log = told i }

pub tear-requires-clause-writes : goal.tear-requires-clause-writes
tear-requires-clause-writes g c =
    let seen = g.V.Volume.seen in
    let members = c.args.self.now in
    let page = c.args.page in
    let old = of_members seen members in
    let w = writer_of old.slots in
    let after = of_places seen c.begin.new.self in
    let acts = subst (λ k. Acts k old.slots after (λ before after. volume.Fails (volume.torn page.0 before) before after)) c.writer-k.ensures.value
    (subst (λ fault. Acts c.writer-k.result (of_places g.V.Volume.seen c.args.self.now.places) (of_places g.V.Volume.seen c.begin.new.self)
    (λ before after. volume.Begins c.args.page c.args.len before (Err fault) after)) c.in-Err-Failed.field-0-is c.in-Err-Failed.ensures.act) in
    let fails = acts_failed (volume.torn page.0) w old.slots after acts in
    let torn = Group.failed page fails.count old in
    let mid : of_members seen (record members { places = c.begin.new.self; files = c.prepare.new.files; log = c.prepare.new.log }) ≡ torn
    = λ i. record old {
      slots = fails.is i;
      files = c.prepare.ensures.files i;
      log = c.prepare.ensures.log i;
      write = ap (option_map open_of) c.requires.closed
          i;
    } in
    let forgot = c.forget-in-Err-Failed.ensures.act ∙ ap (λ (group : Group.Group). forgotten page.0 group) mid in
    let slots = ap (λ (group : Group.Group). group.slots) forgot in
    ap takes_writes slots ∙ writes_let_go (unfiled page.0 old.files) (place_of page.0 old.files) torn.slots ∙ writes_seen
    (λ seen. volume.with_count fails.count (volume.torn page.0 seen)) w old.slots ∙ c.requires.writes

pub tear-requires-clause-there : goal.tear-requires-clause-there
tear-requires-clause-there g c =
    let seen = g.V.Volume.seen in
    let members = c.args.self.now in
    let page = c.args.page in
    let old = of_members seen members in
    let w = writer_of old.slots in
    let after = of_places seen c.begin.new.self in
    let acts = subst (λ k. Acts k old.slots after (λ before after. volume.Fails (volume.torn page.0 before) before after)) c.writer-k.ensures.value
    (subst (λ fault. Acts c.writer-k.result (of_places g.V.Volume.seen c.args.self.now.places) (of_places g.V.Volume.seen c.begin.new.self)
    (λ before after. volume.Begins c.args.page c.args.len before (Err fault) after)) c.in-Err-Failed.field-0-is c.in-Err-Failed.ensures.act) in
    let fails = acts_failed (volume.torn page.0) w old.slots after acts in
    let torn = Group.failed page fails.count old in
    let mid : of_members seen (record members { places = c.begin.new.self; files = c.prepare.new.files; log = c.prepare.new.log }) ≡ torn
    = λ i. record old {
      slots = fails.is i;
      files = c.prepare.ensures.files i;
      log = c.prepare.ensures.log i;
      write = ap (option_map open_of) c.requires.closed
          i;
    } in
    let forgot = c.forget-in-Err-Failed.ensures.act ∙ ap (λ (group : Group.Group). forgotten page.0 group) mid in
    let slots = ap (λ (group : Group.Group). group.slots) forgot in
    subst (λ slots. CanRemoveAt page.0 slots (writer_of slots)) (sym slots)
    (cleared_removable page fails.count (λ one. (one.write ≡ None) × volume.HasNone page.0 one) old.slots (unfiled page.0 old.files)
    (place_of page.0 old.files) c.requires.writes c.requires.ready)

pub returns-in-Err-Failed-clause-act : goal.returns-in-Err-Failed-clause-act
returns-in-Err-Failed-clause-act g c =
    let seen = g.V.Volume.seen in
    let members = c.args.self.now in
    let page = c.args.page in
    let old = of_members seen members in
    let w = writer_of old.slots in
    let after = of_places seen c.begin.new.self in
    let acts = subst (λ k. Acts k old.slots after (λ before after. volume.Fails (volume.torn page.0 before) before after)) c.writer-k.ensures.value
    (subst (λ fault. Acts c.writer-k.result (of_places g.V.Volume.seen c.args.self.now.places) (of_places g.V.Volume.seen c.begin.new.self)
    (λ before after. volume.Begins c.args.page c.args.len before (Err fault) after)) c.in-Err-Failed.field-0-is c.in-Err-Failed.ensures.act) in
    let fails = acts_failed (volume.torn page.0) w old.slots after acts in
    let torn = Group.failed page fails.count old in
    let mid : of_members seen (record members { places = c.begin.new.self; files = c.prepare.new.files; log = c.prepare.new.log }) ≡ torn
    = λ i. record old {
      slots = fails.is i;
      files = c.prepare.ensures.files i;
      log = c.prepare.ensures.log i;
      write = ap (option_map open_of) c.requires.closed
          i;
    } in
    let forgot = c.forget-in-Err-Failed.ensures.act ∙ ap (λ (group : Group.Group). forgotten page.0 group) mid in
    let slots = ap (λ (group : Group.Group). group.slots) forgot in
    record {
      count = fails.count;
      rose = fails.rose;
      sweeps = subst (λ (group : Group.Group). Group.Sweeps page group (of_members seen c.tear.new.self)) forgot c.tear.ensures.act;
    }
