-- A group of volumes as one disk of pages, and what its calls make of it. Own.
use Rattle.std.specs.Prelude.{ℕ, zero, suc, ◌≡◌, ◌+◌, ◌-◌, ◌^◌, ◌==◌, ◌&&◌, ◌||◌, ◌⊎◌, Bool, true, false, not, List, [], ◌∷◌, ◌++◌, count_by, filter, if◌then◌else◌, is_none, is_some, length, map, min, nat_lt, option_and_then, slice_get, sum_by, unwrap_or, IfSome, IsSomeAnd, Option, Some, None, Result, Ok, Err}
use Rattle.std.specs.List.{list_any}
use Rattle.std.specs.Option.{option_map, option_map_or}
use Rattle.blob_words.specs.declared.fault.Failed.{Failed}
use Rattle.blob_words.specs.declared.number.PageNo.{PageNo}
use Rattle.blob_source.specs.Faults.{Rose}
use Rattle.page_disk.specs.Changes.{with_more, OpenWrite}
use Rattle.page_disk.specs.declared.change.Change.{Change}
use Rattle.page_disk.specs.declared.change.Change.TheVariants as changes
use Rattle.page_disk.specs.declared.fault.PutFault.{PutFault}
use Rattle.page_disk.specs.declared.fault.PutFault.TheVariants as faults
use Rattle.page_volumes.specs.declared.filed.Filed.{Filed}
use Rattle.page_volumes.specs.Seen as volume
use Rattle.page_volumes.specs.Seen.{with_count, AreOf, Seen}

-- a place in the list: the volume that is held, the count of one that was dropped, and whether it is retired
pub record Slot : Type 0 where
  pub object : Option Seen
  pub past : ℕ
  pub is_retired : Bool

-- what was done, and the bytes that came to the open write
pub record Log : Type 0 where
  pub changes : List Change
  pub came : List ℕ

-- the volumes in their order, where the file of each page is (or that its torn file was removed already), the open write, what was done, where that is told,
-- and how many bytes were read
pub record Group : Type 0 where
  pub slots : List Slot
  pub files : List Filed
  pub write : Option OpenWrite
  pub log : Option Log
  pub meter : ℕ

-- the place of the least volume that isn't retired
abbrev pub writer_of : List Slot → ℕ
writer_of [] = 0
writer_of (slot ∷ slots) = if slot.is_retired then suc (writer_of slots) else zero

-- where the file of a page is; None inside for a torn file that was removed
abbrev pub home_of : ℕ → List Filed → Option (Option ℕ)
home_of page [] = None
home_of page (file ∷ files) = if page == file.page.0 then Some file.home else home_of page files

-- the place of the volume with the file of a page
abbrev pub place_of : ℕ → List Filed → Option ℕ
place_of page files = option_and_then (λ home. home) (home_of page files)

-- whether no page is filed twice
abbrev pub are_apart : List Filed → Bool
are_apart [] = true
are_apart (file ∷ files) = is_none (home_of file.page.0 files) && are_apart files

-- whether a page is filed at a place
abbrev pub is_at : ℕ → Filed → Bool
is_at k file = option_map_or (λ home. k == home) file.home false

-- whether a file stands on the volume at a place
abbrev pub has_files : ℕ → List Filed → Bool
has_files k files = list_any (is_at k) files

-- the object at a place
abbrev pub object_at : List Slot → ℕ → Option Seen
object_at slots k = option_and_then (λ slot. slot.object) (slice_get slots k)

-- whether the volume at a place is retired
abbrev pub is_retired_at : List Slot → ℕ → Bool
is_retired_at slots k = option_map_or (λ slot. slot.is_retired) (slice_get slots k) false

-- the count of a place: of the object that is held, or of the one that was dropped
abbrev pub slot_count : Slot → ℕ
slot_count slot = option_map_or (λ seen. seen.faults) slot.object slot.past

-- the count at a place
abbrev pub count_at : List Slot → ℕ → ℕ
count_at slots k = option_map_or slot_count (slice_get slots k) 0

-- the count of the group
abbrev pub count_of : Group → ℕ
count_of group = sum_by slot_count group.slots

-- the slots, of which one is changed
abbrev pub changed_at : (Slot → Slot) → ℕ → List Slot → List Slot
changed_at change k [] = []
changed_at change zero (slot ∷ slots) = change slot ∷ slots
changed_at change (suc k) (slot ∷ slots) = slot ∷ changed_at change k slots

-- what a volume is seen as changes
abbrev pub seen_by : (Seen → Seen) → Slot → Slot
seen_by change slot = record slot { object = option_map change slot.object }

-- a volume is retired
abbrev pub retired : Slot → Slot
retired slot = record slot { is_retired = true }

-- a retired volume without files is dropped; its count stays
abbrev pub settled : Bool → Slot → Slot
settled is_home slot = if slot.is_retired && not is_home then record { object = None; past = slot_count slot; is_retired = slot.is_retired } else slot

-- the volume at a place is dropped where it is due
abbrev pub settled_at : List Filed → ℕ → List Slot → List Slot
settled_at files k slots = changed_at (settled (has_files k files)) k slots

-- whether some volume isn't retired
abbrev pub takes_writes : List Slot → Bool
takes_writes slots = list_any (λ slot. not slot.is_retired) slots

-- whether more than one volume isn't retired
abbrev pub is_one_of_several : List Slot → Bool
is_one_of_several slots = nat_lt 1 (count_by (λ slot. not slot.is_retired) slots)

-- the pages filed, but one
abbrev pub unfiled : ℕ → List Filed → List Filed
unfiled page files = filter (λ file. not (page == file.page.0)) files

-- the slots once the file of a page, which was at this place, stands no longer
abbrev pub let_go : List Filed → Option ℕ → List Slot → List Slot
let_go files None slots = slots
let_go files (Some k) slots = settled_at files k slots

-- nothing is known any more of the file of a page
abbrev pub forgotten : ℕ → Group → Group
forgotten page group = record group { slots = let_go (unfiled page group.files) (place_of page group.files) group.slots; files = unfiled page group.files }

-- one change more, where changes are told
abbrev pub told_more : Change → Option Log → Option Log
told_more change log = option_map (λ (one : Log). record one { changes = one.changes ++ change ∷ [] }) log

-- a group whose writer is seen otherwise
abbrev pub writer_seen : (Seen → Seen) → Group → Group
writer_seen change group = record group { slots = changed_at (seen_by change) (writer_of group.slots) group.slots }

-- the writer began a write
abbrev pub begun : PageNo → ℕ → Group → Group
begun page len group =
    let other = forgotten page.0 (writer_seen (volume.begun page len) group) in
    record other { write = Some (record { page = page; len = len; came = 0 }); log = option_map (λ (log : Log). record log { came = [] }) group.log }

-- bytes came to the open write
abbrev pub longer : List ℕ → Group → Group
longer bytes group =
    let other = writer_seen (volume.longer bytes) group in
    record other { write = with_more (length bytes) group.write; log = option_map (λ (log : Log). record log { came = log.came ++ bytes }) group.log }

-- the open write of a page ended well
abbrev pub put : PageNo → Group → Group
put page group =
    let other = writer_seen (volume.put page.0) group in
    record other {
      files = group.files ++ record { page = page; home = Some (writer_of group.slots) } ∷ [];
      write = None;
      log = option_map (λ (log : Log). record { changes = log.changes ++ changes.Put page log.came ∷ []; came = [] }) group.log;
    }

-- the writer is retired where another volume isn't, and dropped where no file stands on it
abbrev pub writer_retired : List Filed → List Slot → List Slot
writer_retired files slots = if is_one_of_several slots then settled_at files (writer_of slots) (changed_at retired (writer_of slots) slots) else slots

-- the writer failed to write a page
abbrev pub failed : PageNo → ℕ → Group → Group
failed page count group = record (writer_seen (λ seen. with_count count (volume.torn page.0 seen)) group) { write = None }

-- the writer was asked to remove a torn file, and did or not; it is retired where another volume isn't
abbrev pub swept : PageNo → Bool → (Seen → Seen) → Group → Group
swept page is_removed change group =
    let w = writer_of group.slots in
    let files = group.files ++ record { page = page; home = if is_removed then None else Some w } ∷ [] in
    record group { slots = writer_retired files (changed_at (seen_by change) w group.slots); files = files; log = told_more (changes.Torn page) group.log }

-- a torn file was asked to be removed, and stays: the count rose
pub record Stays (page : PageNo) (old new : Group) : Type 0 where
  pub count : ℕ
  pub rose : Rose (count_at old.slots (writer_of old.slots)) count
  pub is : new ≡ swept page false (with_count count) old

-- a torn file was asked to be removed, once: it is gone, or it stays
abbrev pub Sweeps : PageNo → Group → Group → Type 0
Sweeps page old new = (new ≡ swept page true (volume.removed page.0) old) ⊎ Stays page old new

-- the write of a page failed: the count rose, and the torn file was asked to be removed; first the group was cleared of what was known of the page
pub record Tears (page : PageNo) (clear : Group → Group) (old new : Group) : Type 0 where
  pub count : ℕ
  pub rose : Rose (count_at old.slots (writer_of old.slots)) count
  pub sweeps : Sweeps page (clear (failed page count old)) new

-- how `begin` ends
abbrev pub Begins : PageNo → ℕ → Group → Result (Unit {0}) PutFault → Group → Type 0
Begins page len old (Ok done) new = new ≡ begun page len old
Begins page len old (Err faults.Failed) new = Tears page (forgotten page.0) old new
Begins page len old (Err faults.NoMemory) new = new ≡ old

-- how `append` ends
abbrev pub Appends : List ℕ → Group → Result (Unit {0}) Failed → Group → Type 0
Appends bytes old (Ok done) new = new ≡ longer bytes old
Appends bytes old (Err failed) new = IsSomeAnd old.write (λ write. Tears write.page (λ group. group) old new)

-- how `seal` ends
abbrev pub Seals : Group → Result (Unit {0}) Failed → Group → Type 0
Seals old (Ok done) new = IsSomeAnd old.write (λ write. new ≡ put write.page old)
Seals old (Err failed) new = IsSomeAnd old.write (λ write. Tears write.page (λ group. group) old new)

-- a call of the volume at a place failed: its count rose, and nothing else is different
pub record Counts (k : ℕ) (old new : Group) : Type 0 where
  pub count : ℕ
  pub rose : Rose (count_at old.slots k) count
  pub is : new ≡ record old { slots = changed_at (seen_by (with_count count)) k old.slots }

-- the place that is asked for the bytes of a page: that of its file, or the writer
abbrev pub asked_at : ℕ → Group → ℕ
asked_at page group = unwrap_or (place_of page group.files) (writer_of group.slots)

-- how `get` ends
abbrev pub Gets : ℕ → ℕ → Group → Result (Unit {0}) Failed → List ℕ → Group → Type 0
Gets page off old (Ok done) out new = (new ≡ record old { meter = min (old.meter + length out) (2 ^ 64 - 1) })
    × IfSome (object_at old.slots (asked_at page old)) (AreOf page off out)
Gets page off old (Err failed) out new = Counts (asked_at page old) old new

-- the file of a page at a place stands no longer; its volume is seen otherwise
abbrev pub let_off : PageNo → ℕ → (Seen → Seen) → Change → Group → Group
let_off page k change told group = record group {
  slots = settled_at (unfiled page.0 group.files) k (changed_at (seen_by change) k group.slots);
  files = unfiled page.0 group.files;
  log = told_more told group.log;
}

-- the removal of a page failed: the count rose
pub record Leaves (page : PageNo) (k : ℕ) (old new : Group) : Type 0 where
  pub count : ℕ
  pub rose : Rose (count_at old.slots k) count
  pub is : new ≡ let_off page k (with_count count) (changes.Left page) old

-- how `remove` ends, given where the file of the page is
abbrev pub RemovesFrom : PageNo → Group → Option (Option ℕ) → Result (Unit {0}) Failed → Group → Type 0
RemovesFrom page old (Some (Some k)) (Ok done) new = new ≡ let_off page k (volume.removed page.0) (changes.Remove page) old
RemovesFrom page old (Some (Some k)) (Err failed) new = Leaves page k old new
RemovesFrom page old (Some None) (Ok done) new = new ≡ record old { files = unfiled page.0 old.files; log = told_more (changes.Remove page) old.log }
RemovesFrom page old (Some None) (Err failed) new = ⊥
RemovesFrom page old None (Ok done) new = new ≡ writer_seen (volume.removed page.0) old
RemovesFrom page old None (Err failed) new = Counts (writer_of old.slots) old new

-- how `remove` ends
abbrev pub Removes : PageNo → Group → Result (Unit {0}) Failed → Group → Type 0
Removes page old result new = RemovesFrom page old (home_of page.0 old.files) result new

-- a volume is held exactly where it isn't retired or a file stands on it
abbrev pub IsHeldRight : Group → Type 0
IsHeldRight group = (k : ℕ) → IfSome (slice_get group.slots k) (λ slot. is_some slot.object ≡ (not slot.is_retired || has_files k group.files))

-- the places of new volumes
abbrev pub new_slots : List Seen → List Slot
new_slots objects = map (λ seen. record { object = Some seen; past = 0; is_retired = false }) objects

-- a new group of volumes
abbrev pub new_group : List Seen → Option (List Change) → Group
new_group objects changes = record {
  slots = new_slots objects;
  files = [];
  write = None;
  log = option_map (λ (told : List Change). record { changes = told; came = [] }) changes;
  meter = 0;
}
