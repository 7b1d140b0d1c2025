-- What the places of volumes of some kind are seen as, given what one such volume is seen as.
use Rattle.std.specs.Prelude.{List, map, None}
use Rattle.std.specs.Option.{option_map}
use Rattle.page_disk.specs.Changes.{OpenWrite}
use Rattle.page_volumes.specs.Seen.{Seen}
use Rattle.page_volumes.specs.Kept.{Kept}
use Rattle.page_volumes.specs.Group.{Group, Log, Slot}
use Rattle.page_volumes.specs.declared.place.Place.{Place}
use Rattle.page_volumes.specs.declared.places.Places.{Places}
use Rattle.page_volumes.specs.declared.members.Members.{Members}
use Rattle.page_volumes.specs.declared.writing.Writing.{Writing}

abbrev pub slot_of : {V : Type 0} → (V → Seen) → Place V → Slot
slot_of seen place = record { object = option_map seen place.volume; past = place.past; is_retired = place.is_retired }

abbrev pub slots_of : {V : Type 0} → (V → Seen) → List (Place V) → List Slot
slots_of seen places = map (slot_of seen) places

abbrev pub of_places : {V : Type 0} → (V → Seen) → Places V → List Slot
of_places seen places = slots_of seen places.items.items

-- an open write as every disk tells it
abbrev pub open_of : Writing → OpenWrite
open_of write = record { page = write.page; len = write.len; came = write.came }

-- what was done, and the bytes that came to the open write
abbrev pub log_of : Kept → Log
log_of kept = record { changes = kept.changes; came = kept.incoming.bytes }

abbrev pub of_members : {V : Type 0} → (V → Seen) → Members V → Group
of_members seen members = record {
  slots = of_places seen members.places;
  files = members.files.filed;
  write = option_map open_of members.write;
  log = option_map log_of members.log;
  meter = members.meter;
}

-- a volume of which nothing is known
abbrev pub blank : Seen
blank = record { write = None; told = None; faults = 0 }

-- the group, of whose volumes nothing is known but which are held and retired
abbrev pub plain : {V : Type 0} → Members V → Group
plain members = of_members (λ _. blank) members
