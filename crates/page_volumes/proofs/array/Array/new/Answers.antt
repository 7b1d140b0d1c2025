use Rattle.std.proofs.Common.{◌≡◌, ◌<◌, Some, [], None, Option, arith, length, map, sym, subst, ap, ◌∙◌}
use Rattle.std.specs.Prelude.{if◌then◌else◌}
use Rattle.std.specs.Option.{option_map}
use Rattle.page_volumes.proofs.Logs.{map_length}
use Rattle.page_volumes.specs.Group.{new_group}
use Rattle.page_volumes.specs.Kept.{Book, Kept}
use Rattle.page_volumes.specs.Plain.{log_of, of_members}
use Rattle.page_volumes.proofs.Disk.{writing_sound}
use Rattle.page_volumes.proofs.Fresh.{fresh_told, new_good, room_new}
use Rattle.page_volumes.proofs.Goods.{sound_of, Good}
use Rattle.page_volumes.proofs.Opened.{plain_of}
use Rattle.page_volumes.proofs.array.Array.new.Goals as goal

pub invariant_of-result : goal.invariant_of-result
invariant_of-result g c =
    let seen = g.V.Volume.seen in
    let objects = map seen c.args.volumes.items in
    let log = ap (λ (log : Option Kept). option_map log_of log) c.log_for-log.ensures ∙ fresh_told c.args.is_recording in
    let files = ap (λ (book : Book). book.filed) c.new-2.ensures in
    let is : of_members seen (record { places = c.in_ok-places.places; files = c.new-2.result; write = None; log = c.log_for-log.result; meter = 0 })
    ≡ new_group objects (if c.args.is_recording then Some [] else None)
    = λ i. record { slots = c.in_ok-places.ensures i; files = files i; write = None; log = log i; meter = 0 } in
    let long : length objects ≡ length c.args.volumes.items = map_length seen c.args.volumes.items in
    let some : 0 < length objects = omega (arith, long, c.args.volumes.ok.0, c.requires.some) in
    let good : Good (of_members seen (record { places = c.in_ok-places.places; files = c.new-2.result; write = None; log = c.log_for-log.result; meter = 0 })) =
    subst Good (sym is) (new_good objects c.args.is_recording some c.requires.fresh) in
    record {
      keeps = plain_of seen (record { places = c.in_ok-places.places; files = c.new-2.result; write = None; log = c.log_for-log.result; meter = 0 }) good;
      room = (tt, room_new c.new-2.result c.log_for-log.result files);
    }

pub returns-clause-closed : goal.returns-clause-closed
returns-clause-closed g c =
    let seen = g.V.Volume.seen in
    let objects = map seen c.args.volumes.items in
    let log = ap (λ (log : Option Kept). option_map log_of log) c.log_for-log.ensures ∙ fresh_told c.args.is_recording in
    let files = ap (λ (book : Book). book.filed) c.new-2.ensures in
    let is : of_members seen (record { places = c.in_ok-places.places; files = c.new-2.result; write = None; log = c.log_for-log.result; meter = 0 })
    ≡ new_group objects (if c.args.is_recording then Some [] else None)
    = λ i. record { slots = c.in_ok-places.ensures i; files = files i; write = None; log = log i; meter = 0 } in
    let long : length objects ≡ length c.args.volumes.items = map_length seen c.args.volumes.items in
    let some : 0 < length objects = omega (arith, long, c.args.volumes.ok.0, c.requires.some) in
    let good : Good (of_members seen (record { places = c.in_ok-places.places; files = c.new-2.result; write = None; log = c.log_for-log.result; meter = 0 })) =
    subst Good (sym is) (new_good objects c.args.is_recording some c.requires.fresh) in
    writing_sound (of_members seen (record { places = c.in_ok-places.places; files = c.new-2.result; write = None; log = c.log_for-log.result; meter = 0 }))
    (sound_of (of_members seen (record { places = c.in_ok-places.places; files = c.new-2.result; write = None; log = c.log_for-log.result; meter = 0 }))
    good)
