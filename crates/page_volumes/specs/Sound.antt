-- Whether volumes stand as a group noted. A boxed object can't be spoken of by what a struct keeps, so a test says it, and every call of a disk asks for it.
-- Own.
use Rattle.std.specs.Prelude.{ℕ, ◌==◌, ◌&&◌, ◌||◌, Bool, true, false, List, [], ◌∷◌, bytes_eq, if◌then◌else◌, is_none, min, ◌^◌, ◌-◌, Option, Some, None}
use Rattle.std.specs.List.{list_all, list_any}
use Rattle.std.specs.Option.{option_map, option_map_or}
use Rattle.page_disk.specs.Changes.{last_put, writes, OpenWrite}
use Rattle.page_disk.specs.declared.change.Change.{Change}
use Rattle.page_volumes.specs.declared.filed.Filed.{Filed}
use Rattle.page_volumes.specs.Seen.{told_of, PageFile, Seen, Told}
use Rattle.page_volumes.specs.Group.{count_of, object_at, Group, Log, Slot}

-- whether a volume has the open write that is noted
abbrev pub is_write : Option OpenWrite → Option OpenWrite → Bool
is_write None None = true
is_write None (Some other) = false
is_write (Some one) None = false
is_write (Some one) (Some other) = (one.page.0 == other.page.0) && (one.len == other.len) && (one.came == other.came)

-- whether each file that a volume tells is of a page that was written, and the bytes that came to the open write are those noted
abbrev pub are_told : Option OpenWrite → Option Log → Option Told → Bool
are_told write None None = true
are_told write None (Some told) = false
are_told write (Some log) None = false
are_told write (Some log) (Some told) = list_all (λ (file : PageFile). list_any (writes file.page) log.changes) told.files
    && (is_none write || bytes_eq log.came told.came)

-- whether a volume, where one is held, stands as noted
abbrev pub is_as_noted : Option Log → Option OpenWrite → Option Seen → Bool
is_as_noted log write None = true
is_as_noted log write (Some seen) = is_write write seen.write && are_told write log seen.told

-- whether each slot passes a test, given the open write, which is on the least that isn't retired
abbrev pub each_passes : (Option OpenWrite → Slot → Bool) → Option OpenWrite → List Slot → Bool
each_passes test write [] = true
each_passes test write (slot ∷ slots) = test (if slot.is_retired then None else write) slot && each_passes test (if slot.is_retired then write else None) slots

-- whether each volume stands as noted
abbrev pub are_as_noted : Option Log → Option OpenWrite → List Slot → Bool
are_as_noted log write slots = each_passes (λ one slot. is_as_noted log one slot.object) write slots

-- whether a file has the bytes that were put, or none where the write failed
abbrev pub is_put : Option (List ℕ) → Option (Option (List ℕ)) → Bool
is_put put None = false
is_put None (Some None) = true
is_put None (Some (Some bytes)) = false
is_put (Some put) (Some None) = false
is_put (Some put) (Some (Some bytes)) = bytes_eq put bytes

-- whether a volume has the file of a page as it was put, where it tells its files
abbrev pub has_put : ℕ → List Change → Seen → Bool
has_put page changes seen = option_map_or (λ file. is_put (last_put page changes) file) (told_of page seen) true

-- whether a page, which was written, is where it is noted to be
abbrev pub is_there : List Change → List Slot → Filed → Bool
is_there changes slots file = option_map_or (λ home. list_any (writes file.page.0) changes && option_map_or (has_put file.page.0 changes) (object_at slots home)
    false) file.home true

-- whether each page is
abbrev pub are_there : Group → Bool
are_there group = option_map_or (λ (log : Log). list_all (is_there log.changes group.slots) group.files) group.log true

-- whether the volumes stand as noted
abbrev pub is_sound : Group → Bool
is_sound group = are_as_noted group.log group.write group.slots && are_there group

-- a write into which nothing fits and which isn't whole
abbrev pub no_write : OpenWrite
no_write = record { page = record { 0 = 0 }; len = 0; came = 1 }

-- the open write of a group; no call is allowed to one whose volumes don't stand as it noted
abbrev pub writing_of : Group → Option OpenWrite
writing_of group = if is_sound group then group.write else Some no_write

-- what was done, where it is told
abbrev pub changes_of : Group → Option (List Change)
changes_of group = option_map (λ (log : Log). log.changes) group.log

-- the bytes that came to the open write, where they are told
abbrev pub came_of : Group → List ℕ
came_of group = option_map_or (λ (log : Log). log.came) group.log []

-- the count as a disk tells it
abbrev pub faults_of : Group → ℕ
faults_of group = min (count_of group) (2 ^ 64 - 1)
