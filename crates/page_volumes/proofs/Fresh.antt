-- A new group.
use Rattle.std.proofs.Common.{◌≡◌, ℕ, ◌<◌, ◌&&◌, ◌||◌, Bool, true, false, not, List, [], ◌∷◌, Some, None, Option, arith, length, refl, sym, ap, subst}
use Rattle.std.specs.Prelude.{if◌then◌else◌, is_none, is_some, slice_get, IfSome, IsSome}
use Rattle.std.specs.List.{list_all, list_any}
use Rattle.std.specs.Option.{option_map, option_map_or}
use Rattle.std.proofs.lemmas.Option.{slice_get-map}
use Rattle.page_disk.specs.Changes.{writes, OpenWrite}
use Rattle.page_disk.specs.declared.change.Change.{Change}
use Rattle.page_volumes.specs.Seen.{are_none, is_fresh, PageFile, Seen, Told}
use Rattle.page_volumes.specs.Group.{has_files, home_of, new_group, new_slots, takes_writes, Log, Slot}
use Rattle.page_volumes.specs.Sound.{are_told, each_passes, is_as_noted, is_write}
use Rattle.page_volumes.specs.declared.filed.Filed.{Filed}
use Rattle.page_volumes.specs.Kept.{new_log, Book, CanRemove, Kept}
use Rattle.page_volumes.specs.Plain.{log_of}
use Rattle.page_volumes.proofs.Goods.{Good}
use Rattle.page_volumes.proofs.Keeping.{Logged}
use Rattle.page_volumes.proofs.Noted.{and_of, both}

abbrev pub fresh_log : Bool → Option Log
fresh_log is_telling = option_map (λ (told : List Change). record { changes = told; came = [] }) (if is_telling then Some [] else None)

fresh_noted : (is_telling : Bool) (seen : Seen) → is_fresh is_telling seen ≡ true → is_as_noted (fresh_log is_telling) None (Some seen) ≡ true
fresh_noted is_telling seen fresh =
    let parts = both (is_none seen.write) (option_map_or (λ (told : Told). is_telling && are_none told.files) seen.told (not is_telling)) fresh in
    and_of (is_write None seen.write) (are_told None (fresh_log is_telling) seen.told) (closed seen.write parts.0) (by is_telling seen.told parts.1)
  where
    closed : (write : Option OpenWrite) → is_none write ≡ true → is_write None write ≡ true
    closed None is = refl
    closed (Some write) is = absurd (cc is)

    none : (files : List PageFile) → are_none files ≡ true → list_all (λ (file : PageFile). list_any (writes file.page) []) files ≡ true
    none [] is = refl
    none (file ∷ files) is = absurd (cc is)

    by : (is_telling : Bool) (told : Option Told) → option_map_or (λ (told : Told). is_telling && are_none told.files) told (not is_telling) ≡ true
        → are_told None (fresh_log is_telling) told ≡ true
    by true None is = absurd (cc is)
    by true (Some told) is = and_of (list_all (λ (file : PageFile). list_any (writes file.page) []) told.files) true (none told.files is) refl
    by false None is = refl
    by false (Some told) is = absurd (cc is)

fresh_passes : (is_telling : Bool) (objects : List Seen) → list_all (is_fresh is_telling) objects ≡ true
    → each_passes (λ write slot. is_as_noted (fresh_log is_telling) write slot.object) None (new_slots objects) ≡ true
fresh_passes is_telling [] all = refl
fresh_passes is_telling (seen ∷ objects) all =
    let parts = both (is_fresh is_telling seen) (list_all (is_fresh is_telling) objects) all in
    and_of (is_as_noted (fresh_log is_telling) None (Some seen))
    (each_passes (λ write slot. is_as_noted (fresh_log is_telling) write slot.object) None (new_slots objects))
    (fresh_noted is_telling seen parts.0) (fresh_passes is_telling objects parts.1)

pub new_good : (objects : List Seen) (is_telling : Bool) → 0 < length objects → list_all (is_fresh is_telling) objects ≡ true
    → Good (new_group objects (if is_telling then Some [] else None))
new_good objects is_telling some all = record {
  placed = record {
    writes = writes objects some;
    held = λ k. subst (λ (found : Option Slot). IfSome found (λ slot. is_some slot.object ≡ (not slot.is_retired || has_files k [])))
        (sym (slice_get-map (λ (seen : Seen). record { object = Some seen; past = 0; is_retired = false }) objects k)) (held (slice_get objects k));
    homes = λ page. tt;
  };
  apart = tt;
  unfiled = tt;
  logged = logged is_telling;
  holds = record { noted = fresh_passes is_telling objects all; there = there is_telling };
}
  where
    writes : (objects : List Seen) → 0 < length objects → takes_writes (new_slots objects) ≡ true
    writes [] some = absurd (omega arith)
    writes (seen ∷ objects) some = refl

    held : (found : Option Seen) → IfSome (option_map (λ (seen : Seen). record { object = Some seen; past = 0; is_retired = false }) found)
        (λ (slot : Slot). is_some slot.object ≡ (not slot.is_retired || false))
    held None = tt
    held (Some seen) = refl

    unstanding : (page : ℕ) → false ≡ true → IsSome (home_of page [])
    unstanding page is = absurd (cc is)

    logged : (is_telling : Bool) → IfSome (fresh_log is_telling) (λ (log : Log). Logged None [] log.changes)
    logged true = record { known = λ page stands. unstanding page stands.0; gone = λ page is. cc is; fresh = tt }
    logged false = tt

    there : (is_telling : Bool) → IfSome (fresh_log is_telling) (λ (log : Log). true ≡ true)
    there true = refl
    there false = tt

pub fresh_told : (is_telling : Bool) → option_map log_of (if is_telling then Some new_log else None) ≡ fresh_log is_telling
fresh_told true = refl
fresh_told false = refl

pub room_new : (files : Book) (log : Option Kept) → files.filed ≡ [] → CanRemove files log
room_new files None is = tt
room_new files (Some log) is = let none : length files.filed ≡ 0 = ap (λ (filed : List Filed). length filed) is in omega (arith, none)
