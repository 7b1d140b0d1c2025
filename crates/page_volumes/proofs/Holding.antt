-- Whether volumes stand as noted, as the parts of a group become others.
use Rattle.std.proofs.Common.{◌≡◌, ℕ, ◌==◌, ◌&&◌, ◌||◌, Bool, true, false, not, List, [], ◌∷◌, ◌++◌, Some, None, Option, option_and_then, refl, sym, ap, ◌∙◌, subst}
use Rattle.std.specs.Prelude.{if◌then◌else◌, bytes_eq, is_none, is_some, length, slice_get, IfSome, IsSome, IsSomeAnd}
use Rattle.std.specs.List.{list_all, list_any}
use Rattle.std.specs.Option.{option_map, option_map_or, option_or}
use Rattle.std.proofs.lemmas.Bool.{eq-eqb}
use Rattle.blob_words.specs.declared.number.PageNo.{PageNo}
use Rattle.page_disk.specs.Changes.{last_put, put_by, with_more, writes, IsNew, OpenWrite}
use Rattle.page_disk.specs.declared.change.Change.{Change}
use Rattle.page_disk.specs.declared.change.Change.TheVariants.{Put, Torn}
use Rattle.page_disk.proofs.Found.{last_put_more}
use Rattle.page_volumes.specs.declared.filed.Filed.{Filed}
use Rattle.page_volumes.specs.Seen.{file_of, with_count, with_file, HasFile, PageFile, Seen, Told}
use Rattle.page_volumes.specs.Seen as volume
use Rattle.page_volumes.specs.Group.{changed_at, has_files, is_one_of_several, let_go, object_at, retired, seen_by, settled, settled_at, slot_count, told_more, unfiled, writer_of, writer_retired, Group, Log, Slot}
use Rattle.page_volumes.specs.Sound.{are_as_noted, are_there, are_told, has_put, is_as_noted, is_put, is_sound, is_there, is_write}
use Rattle.page_volumes.proofs.Acted.{settled_keeps}
use Rattle.page_volumes.proofs.Keeping.{Placed}
use Rattle.page_volumes.proofs.Noted.{and_of, both, passes_any, passes_changed, passes_changed_writer, passes_none, passes_unseen, passes_writer}
use Rattle.page_volumes.proofs.There.{all_true, any, begun_keeps, count_keeps, longer_keeps, put_keeps, put_other, removed_keeps, there_changed, there_let_go, there_more, there_same, there_seen, there_unfiled, torn_keeps, IsOther, KeepsFiles, There}
use Rattle.page_volumes.proofs.Told.{file_more, grows_more, no_file, noted_begun, noted_longer, noted_more, noted_put, noted_removed, noted_torn, nothing_put, written_now, Grows}
use Rattle.page_volumes.proofs.Writers.{changed_here, writer_there}

-- the volumes stand as noted, and the files where they are noted to be
pub record Holds (log : Option Log) (write : Option OpenWrite) (slots : List Slot) (files : List Filed) : Type 0 where
  pub noted : are_as_noted log write slots ≡ true
  pub there : IfSome log (λ (log : Log). There log.changes slots files)

pub sound_holds : (group : Group) → is_sound group ≡ true → Holds group.log group.write group.slots group.files
sound_holds group so = let parts = both (are_as_noted group.log group.write group.slots) (are_there group) so in
    record { noted = parts.0; there = by group.log parts.1 }
  where
    by : (log : Option Log) → option_map_or (λ (log : Log). list_all (is_there log.changes group.slots) group.files) log true ≡ true
        → IfSome log (λ (log : Log). There log.changes group.slots group.files)
    by None so = tt
    by (Some log) so = so

pub holds_sound : (group : Group) → Holds group.log group.write group.slots group.files → is_sound group ≡ true
holds_sound group so = and_of (are_as_noted group.log group.write group.slots) (are_there group) so.noted (by group.log so.there)
  where
    by : (log : Option Log) → IfSome log (λ (log : Log). There log.changes group.slots group.files)
        → option_map_or (λ (log : Log). list_all (is_there log.changes group.slots) group.files) log true ≡ true
    by None so = refl
    by (Some log) so = so

abbrev passes : Option Log → Option OpenWrite → Slot → Bool
passes log write slot = is_as_noted log write slot.object

-- a volume is dropped where it is due
noted_settled : (log : Option Log) (write : Option OpenWrite) (is_home : Bool) (slot : Slot) → passes log write slot ≡ true
    → passes log write (settled is_home slot) ≡ true
noted_settled log write is_home slot so =
    (elim (slot.is_retired && not is_home) as (λ r. passes log write (if r then record { object = None; past = slot_count slot; is_retired = slot.is_retired }
    else slot) ≡ true) [
      | true ↦ refl
      | false ↦ so
    ])

pub holds_let_go : (log : Option Log) (write : Option OpenWrite) (slots : List Slot) (files : List Filed) (home : Option ℕ) → Holds log write slots files
    → Holds log write (let_go files home slots) files
holds_let_go log write slots files None so = so
holds_let_go log write slots files (Some k) so = record {
  noted = passes_unseen (passes log) (settled (has_files k files)) (settled_keeps (has_files k files))
      (λ write slot one. noted_settled log write (has_files k files) slot one) k slots write so.noted;
  there = by log so.there;
}
  where
    by : (log : Option Log) → IfSome log (λ (log : Log). There log.changes slots files)
        → IfSome log (λ (log : Log). There log.changes (let_go files (Some k) slots) files)
    by None so = tt
    by (Some log) so = there_let_go log.changes (Some k) slots files so

pub holds_unfiled : (page : ℕ) (log : Option Log) (write : Option OpenWrite) (slots : List Slot) (files : List Filed) → Holds log write slots files
    → Holds log write slots (unfiled page files)
holds_unfiled page log write slots files so = record { noted = so.noted; there = by log so.there }
  where
    by : (log : Option Log) → IfSome log (λ (log : Log). There log.changes slots files)
        → IfSome log (λ (log : Log). There log.changes slots (unfiled page files))
    by None so = tt
    by (Some log) so = there_unfiled log.changes slots page files so

-- the writer's volume stands as noted
pub writer_noted : (log : Option Log) (write : Option OpenWrite) (slots : List Slot) (files : List Filed) → Placed slots files → Holds log write slots files
    → IsSomeAnd (object_at slots (writer_of slots)) (λ seen. is_as_noted log write (Some seen) ≡ true)
writer_noted log write slots files placed so = by (slice_get slots (writer_of slots)) refl (writer_there slots placed.writes) (placed.held (writer_of slots))
  where
    true_of : (r x : Bool) → r ≡ false → (not r || x) ≡ true
    true_of true x is = cc
    true_of false x is = refl

    object : (slot : Slot) → (object : Option Seen) → passes log write slot ≡ true → slot.object ≡ object → is_some object ≡ true
        → IsSomeAnd object (λ seen. is_as_noted log write (Some seen) ≡ true)
    object slot None noted is some = cc some
    object slot (Some seen) noted is some = subst (λ (one : Option Seen). is_as_noted log write one ≡ true) is noted

    by : (found : Option Slot) → slice_get slots (writer_of slots) ≡ found → IsSomeAnd found (λ slot. slot.is_retired ≡ false)
        → IfSome found (λ slot. is_some slot.object ≡ (not slot.is_retired || has_files (writer_of slots) files))
        → IsSomeAnd (option_and_then (λ (slot : Slot). slot.object) found) (λ seen. is_as_noted log write (Some seen) ≡ true)
    by None is free held = absurd free
    by (Some slot) is free held = object slot slot.object (passes_writer (passes log) slots write slot so.noted is free) refl
        (held ∙ true_of slot.is_retired (has_files (writer_of slots) files) free)

-- any volume that is held, while no write is open
pub any_noted : (log : Option Log) (slots : List Slot) (files : List Filed) (k : ℕ) → IsSome (object_at slots k) → Holds log None slots files
    → IsSomeAnd (object_at slots k) (λ seen. is_as_noted log None (Some seen) ≡ true)
any_noted log slots files k some so = by (slice_get slots k) refl some
  where
    object : (slot : Slot) → (object : Option Seen) → passes log None slot ≡ true → slot.object ≡ object → IsSome object
        → IsSomeAnd object (λ seen. is_as_noted log None (Some seen) ≡ true)
    object slot None noted is some = cc some
    object slot (Some seen) noted is some = subst (λ (one : Option Seen). is_as_noted log None one ≡ true) is noted

    by : (found : Option Slot) → slice_get slots k ≡ found → IsSome (option_and_then (λ (slot : Slot). slot.object) found)
        → IsSomeAnd (option_and_then (λ (slot : Slot). slot.object) found) (λ seen. is_as_noted log None (Some seen) ≡ true)
    by None is some = cc some
    by (Some slot) is some = object slot slot.object (passes_any (passes log) slots k slot so.noted is) refl some

-- a write begins
abbrev without_came : Option Log → Option Log
without_came log = option_map (λ (one : Log). record one { came = [] }) log

grows_started : (log : Option Log) → Grows log (without_came log)
grows_started None = tt
grows_started (Some log) = λ page is. is

pub holds_begun : (log : Option Log) (page : PageNo) (len : ℕ) (slots : List Slot) (files : List Filed) → Holds log None slots files
    → Holds (without_came log) (Some (record { page = page; len = len; came = 0 })) (changed_at (seen_by (volume.begun page len)) (writer_of slots) slots) files
holds_begun log page len slots files so = record {
  noted = passes_changed_writer (passes log) (passes (without_came log)) (λ slot one. noted_more log (without_came log) (grows_started log) slot.object one)
      (seen_by (volume.begun page len)) None (Some (record { page = page; len = len; came = 0 })) (λ slot. refl)
      (λ slot one. noted_begun log page len slot.object one) slots so.noted;
  there = by log so.there;
}
  where
    by : (log : Option Log) → IfSome log (λ (log : Log). There log.changes slots files) → IfSome (without_came log)
        (λ (log : Log). There log.changes (changed_at (seen_by (volume.begun page len)) (writer_of slots) slots) files)
    by None so = tt
    by (Some log) so = there_seen any (volume.begun page len) (begun_keeps page len) log.changes (writer_of slots) slots files (all_true files) so

-- bytes come to it
abbrev with_came : List ℕ → Option Log → Option Log
with_came bytes log = option_map (λ (one : Log). record one { came = one.came ++ bytes }) log

grows_longer : (bytes : List ℕ) (log : Option Log) → Grows log (with_came bytes log)
grows_longer bytes None = tt
grows_longer bytes (Some log) = λ page is. is

pub holds_longer : (log : Option Log) (bytes : List ℕ) (write : Option OpenWrite) (slots : List Slot) (files : List Filed) → Holds log write slots files
    → Holds (with_came bytes log) (with_more (length bytes) write) (changed_at (seen_by (volume.longer bytes)) (writer_of slots) slots) files
holds_longer log bytes write slots files so = record {
  noted = passes_changed_writer (passes log) (passes (with_came bytes log))
      (λ slot one. noted_more log (with_came bytes log) (grows_longer bytes log) slot.object one)
      (seen_by (volume.longer bytes)) write (with_more (length bytes) write) (λ slot. refl) (λ slot one. noted_longer log bytes write slot.object one) slots
      so.noted;
  there = by log so.there;
}
  where
    by : (log : Option Log) → IfSome log (λ (log : Log). There log.changes slots files) → IfSome (with_came bytes log)
        (λ (log : Log). There log.changes (changed_at (seen_by (volume.longer bytes)) (writer_of slots) slots) files)
    by None so = tt
    by (Some log) so = there_seen any (volume.longer bytes) (longer_keeps bytes) log.changes (writer_of slots) slots files (all_true files) so

-- the object at a place of which a volume is seen otherwise
object_changed : (change : Seen → Seen) (k : ℕ) (slots : List Slot) → object_at (changed_at (seen_by change) k slots) k ≡ option_map change (object_at slots k)
object_changed change k slots = ap (λ found. option_and_then (λ (slot : Slot). slot.object) found) (changed_here (seen_by change) k slots) ∙
    by (slice_get slots k)
  where
    by : (found : Option Slot) → option_and_then (λ (slot : Slot). slot.object) (option_map (seen_by change) found)
        ≡ option_map change (option_and_then (λ (slot : Slot). slot.object) found)
    by None = refl
    by (Some slot) = refl

-- the file of a page that a volume had none of, once one more is there
file_now : (page : ℕ) (files : List PageFile) (bytes : Option (List ℕ)) → file_of page files ≡ None
    → file_of page (files ++ record { page = page; bytes = bytes } ∷ []) ≡ Some bytes
file_now page files bytes none = file_more page files (record { page = page; bytes = bytes }) ∙ ap
    (λ found. option_or found (if page == page then Some bytes else None)) none ∙ ap (λ r. if r then Some bytes else None) (eq-eqb page page refl)

-- it ends well
abbrev sealed : PageNo → Option Log → Option Log
sealed page log = option_map (λ (log : Log). record { changes = log.changes ++ Put page log.came ∷ []; came = [] }) log

put_there : (log : Log) (page : PageNo) (write : OpenWrite) (object : Option Seen) → IsNew page.0 log.changes
    → IsSomeAnd object (λ seen. is_as_noted (Some log) (Some write) (Some seen) ≡ true)
    → option_map_or (has_put page.0 (log.changes ++ Put page log.came ∷ [])) (option_map (volume.put page.0) object) false ≡ true
put_there log page write None new is = absurd is
put_there log page write (Some seen) new is = by seen.told (both (is_write (Some write) seen.write) (are_told (Some write) (Some log) seen.told) is).1
  where
    put : last_put page.0 (log.changes ++ Put page log.came ∷ []) ≡ Some log.came
    put = last_put_more page.0 log.changes (Put page log.came) ∙ ap (λ r. option_or (if r then Some log.came else None) (last_put page.0 log.changes))
        (eq-eqb page.0 page.0 refl)

    by : (told : Option Told) → are_told (Some write) (Some log) told ≡ true
        → option_map_or (is_put (last_put page.0 (log.changes ++ Put page log.came ∷ [])))
        (option_map (λ (told : Told). file_of page.0 told.files)
        (option_map (λ (told : Told). with_file (record { page = page.0; bytes = Some told.came }) told) told)) true ≡ true
    by None so = refl
    by (Some told) so =
        let parts = both (list_all (λ (file : PageFile). list_any (writes file.page) log.changes) told.files) (bytes_eq log.came told.came) so in
        subst (λ found. is_put (last_put page.0 (log.changes ++ Put page log.came ∷ [])) found ≡ true)
        (sym (file_now page.0 told.files (Some told.came) (no_file log.changes page.0 told.files new parts.0)))
        (subst (λ put. is_put put (Some (Some told.came)) ≡ true) (sym put) parts.1)

pub holds_put : (log : Option Log) (page : PageNo) (write : OpenWrite) (slots : List Slot) (files : List Filed)
    → IfSome log (λ (log : Log). IsNew page.0 log.changes) → IsOther page.0 files → Placed slots files → Holds log (Some write) slots files
    → Holds (sealed page log) None (changed_at (seen_by (volume.put page.0)) (writer_of slots) slots)
    (files ++ record { page = page; home = Some (writer_of slots) } ∷ [])
holds_put log page write slots files new others placed so = record {
  noted = passes_changed_writer (passes log) (passes (sealed page log)) (λ slot one. noted_more log (sealed page log) (grows log) slot.object one)
      (seen_by (volume.put page.0)) (Some write) None (λ slot. refl) (λ slot one. noted_put log page (Some write) slot.object one) slots so.noted;
  there = by log new so.there (writer_noted log (Some write) slots files placed so);
}
  where
    grows : (log : Option Log) → Grows log (sealed page log)
    grows None = tt
    grows (Some log) = λ one is. grows_more (Put page log.came) (Some log) one is

    by : (log : Option Log) → IfSome log (λ (log : Log). IsNew page.0 log.changes) → IfSome log (λ (log : Log). There log.changes slots files)
        → IsSomeAnd (object_at slots (writer_of slots)) (λ seen. is_as_noted log (Some write) (Some seen) ≡ true)
        → IfSome (sealed page log) (λ (log : Log). There log.changes (changed_at (seen_by (volume.put page.0)) (writer_of slots) slots)
        (files ++ record { page = page; home = Some (writer_of slots) } ∷ []))
    by None new so seen = tt
    by (Some log) new so seen =
        let w = writer_of slots in
        let after = changed_at (seen_by (volume.put page.0)) w slots in
        let changes = log.changes ++ Put page log.came ∷ [] in
        let old = there_seen any (volume.put page.0) (put_keeps page.0) log.changes w slots files (all_true files) so in
        let others_there = there_changed (Put page log.came) (λ one. not (page.0 == one)) (put_other page log.came) log.changes after files others old in
        there_more changes after files (record { page = page; home = Some w }) others_there
        (and_of (list_any (writes page.0) changes) (option_map_or (has_put page.0 changes) (object_at after w) false)
        (written_now page.0 log.changes (Put page log.came) (eq-eqb page.0 page.0 refl))
        (subst (λ (object : Option Seen). option_map_or (has_put page.0 changes) object false ≡ true) (sym (object_changed (volume.put page.0) w slots))
        (put_there log page write (object_at slots w) new seen)))

-- one change more, which puts nothing
pub holds_told : (change : Change) → ((page : ℕ) → put_by page change ≡ None) → (log : Option Log) (slots : List Slot) (files : List Filed)
    → Holds log None slots files → Holds (told_more change log) None slots files
holds_told change none log slots files so = record {
  noted = passes_none (passes log) (passes (told_more change log)) (λ slot one. noted_more log (told_more change log) (grows_more change log) slot.object one)
      slots so.noted;
  there = by log so.there;
}
  where
    by : (log : Option Log) → IfSome log (λ (log : Log). There log.changes slots files) → IfSome (told_more change log)
        (λ (log : Log). There log.changes slots files)
    by None so = tt
    by (Some log) so = there_changed change any (λ page is. none page) log.changes slots files (all_true files) so

-- a volume is seen otherwise while no write is open
pub holds_seen : (test : ℕ → Bool) (change : Seen → Seen) → KeepsFiles test change → (log : Option Log)
    → ((object : Option Seen) → is_as_noted log None object ≡ true → is_as_noted log None (option_map change object) ≡ true)
    → (k : ℕ) (slots : List Slot) (files : List Filed) → list_all (λ (file : Filed). test file.page.0) files ≡ true → Holds log None slots files
    → Holds log None (changed_at (seen_by change) k slots) files
holds_seen test change keeps log step k slots files tests so = record {
  noted = passes_changed (passes log) (passes log) (λ slot one. one) (seen_by change) (λ slot one. step slot.object one) k slots so.noted;
  there = by log so.there;
}
  where
    by : (log : Option Log) → IfSome log (λ (log : Log). There log.changes slots files)
        → IfSome log (λ (log : Log). There log.changes (changed_at (seen_by change) k slots) files)
    by None so = tt
    by (Some log) so = there_seen test change keeps log.changes k slots files tests so

noted_count : (log : Option Log) (count : ℕ) (object : Option Seen) → is_as_noted log None object ≡ true
    → is_as_noted log None (option_map (with_count count) object) ≡ true
noted_count log count None so = so
noted_count log count (Some seen) so = so

pub holds_count : (log : Option Log) (count k : ℕ) (slots : List Slot) (files : List Filed) → Holds log None slots files
    → Holds log None (changed_at (seen_by (with_count count)) k slots) files
holds_count log count k slots files so = holds_seen any (with_count count) (count_keeps count) log (noted_count log count) k slots files (all_true files) so

pub holds_removed : (log : Option Log) (page k : ℕ) (slots : List Slot) (files : List Filed) → IsOther page files → Holds log None slots files
    → Holds log None (changed_at (seen_by (volume.removed page)) k slots) files
holds_removed log page k slots files others so = holds_seen (λ one. not (page == one)) (volume.removed page) (removed_keeps page) log
    (λ object one. noted_removed log page object one) k slots files others so

-- the open write fails
pub holds_torn : (log : Option Log) (page : PageNo) (count : ℕ) (write : Option OpenWrite) (slots : List Slot) (files : List Filed)
    → Holds log write slots files
    → Holds (told_more (Torn page) log) None (changed_at (seen_by (λ seen. with_count count (volume.torn page.0 seen))) (writer_of slots) slots) files
holds_torn log page count write slots files so = record {
  noted = passes_changed_writer (passes log) (passes (told_more (Torn page) log))
      (λ slot one. noted_more log (told_more (Torn page) log) (grows_more (Torn page) log) slot.object one)
      (seen_by (λ seen. with_count count (volume.torn page.0 seen))) write None (λ slot. refl) (λ slot one. noted_torn log page count write slot.object one)
      slots so.noted;
  there = by log so.there;
}
  where
    by : (log : Option Log) → IfSome log (λ (log : Log). There log.changes slots files) → IfSome (told_more (Torn page) log)
        (λ (log : Log). There log.changes (changed_at (seen_by (λ seen. with_count count (volume.torn page.0 seen))) (writer_of slots) slots) files)
    by None so = tt
    by (Some log) so = there_changed (Torn page) any (λ one is. refl) log.changes
        (changed_at (seen_by (λ seen. with_count count (volume.torn page.0 seen))) (writer_of slots) slots) files (all_true files)
        (there_seen any (λ seen. with_count count (volume.torn page.0 seen)) (torn_keeps page.0 count) log.changes (writer_of slots) slots files
        (all_true files) so)

-- a torn file is there to be removed
pub torn_has : (page count : ℕ) (seen : Seen) → HasFile page (with_count count (volume.torn page seen))
torn_has page count seen = by seen.told
  where
    last : (r : Bool) → r ≡ true → (found : Option (Option (List ℕ))) → IsSome (option_or found (if r then Some None else None))
    last false is found = absurd (cc is)
    last true is None = refl
    last true is (Some bytes) = refl

    by : (told : Option Told) → IfSome (option_map (λ (told : Told). file_of page told.files)
        (option_map (with_file (record { page = page; bytes = None })) told)) (λ file. IsSome file)
    by None = tt
    by (Some told) = subst (λ (found : Option (Option (List ℕ))). IsSome found) (sym (file_more page told.files (record { page = page; bytes = None })))
        (last (page == page) (eq-eqb page page refl) (file_of page told.files))

-- and is as noted, where files are told
abbrev pub IsTorn : PageNo → Option Log → Option Seen → Type 0
IsTorn page log object = IfSome log (λ (log : Log). option_map_or (has_put page.0 log.changes) object false ≡ true)

pub torn_there : (log : Option Log) (page : PageNo) (count : ℕ) (write : Option OpenWrite) (object : Option Seen)
    → IfSome log (λ (log : Log). IsNew page.0 log.changes) → IsSomeAnd object (λ seen. is_as_noted log write (Some seen) ≡ true)
    → IsTorn page (told_more (Torn page) log) (option_map (λ seen. with_count count (volume.torn page.0 seen)) object)
torn_there None page count write object new is = tt
torn_there (Some log) page count write None new is = absurd is
torn_there (Some log) page count write (Some seen) new is = by seen.told (both (is_write write seen.write) (are_told write (Some log) seen.told) is).1
  where
    none : last_put page.0 (log.changes ++ Torn page ∷ []) ≡ None
    none = last_put_more page.0 log.changes (Torn page) ∙ nothing_put page.0 log.changes new

    by : (told : Option Told) → are_told write (Some log) told ≡ true
        → option_map_or (is_put (last_put page.0 (log.changes ++ Torn page ∷ [])))
        (option_map (λ (told : Told). file_of page.0 told.files) (option_map (with_file (record { page = page.0; bytes = None })) told)) true ≡ true
    by None so = refl
    by (Some told) so =
        let parts = both (list_all (λ (file : PageFile). list_any (writes file.page) log.changes) told.files) (is_none write || bytes_eq log.came told.came) so
        in
        subst (λ found. is_put (last_put page.0 (log.changes ++ Torn page ∷ [])) found ≡ true)
        (sym (file_now page.0 told.files None (no_file log.changes page.0 told.files new parts.0)))
        (subst (λ put. is_put put (Some None) ≡ true) (sym none) refl)

-- it is noted as gone
pub holds_gone : (log : Option Log) (page : PageNo) (slots : List Slot) (files : List Filed) → Holds log None slots files
    → Holds log None slots (files ++ record { page = page; home = None } ∷ [])
holds_gone log page slots files so = record { noted = so.noted; there = by log so.there }
  where
    by : (log : Option Log) → IfSome log (λ (log : Log). There log.changes slots files)
        → IfSome log (λ (log : Log). There log.changes slots (files ++ record { page = page; home = None } ∷ []))
    by None so = tt
    by (Some log) so = there_more log.changes slots files (record { page = page; home = None }) so refl

-- or as standing
pub holds_left : (log : Option Log) (page : PageNo) (k : ℕ) (slots : List Slot) (files : List Filed)
    → IfSome log (λ (log : Log). list_any (writes page.0) log.changes ≡ true) → IsTorn page log (object_at slots k) → Holds log None slots files
    → Holds log None slots (files ++ record { page = page; home = Some k } ∷ [])
holds_left log page k slots files written torn so = record { noted = so.noted; there = by log written torn so.there }
  where
    by : (log : Option Log) → IfSome log (λ (log : Log). list_any (writes page.0) log.changes ≡ true) → IsTorn page log (object_at slots k)
        → IfSome log (λ (log : Log). There log.changes slots files)
        → IfSome log (λ (log : Log). There log.changes slots (files ++ record { page = page; home = Some k } ∷ []))
    by None written torn so = tt
    by (Some log) written torn so = there_more log.changes slots files (record { page = page; home = Some k }) so
        (and_of (list_any (writes page.0) log.changes) (option_map_or (has_put page.0 log.changes) (object_at slots k) false) written torn)

pub count_torn : (page : PageNo) (log : Option Log) (count k : ℕ) (slots : List Slot) → IsTorn page log (object_at slots k)
    → IsTorn page log (object_at (changed_at (seen_by (with_count count)) k slots) k)
count_torn page None count k slots torn = tt
count_torn page (Some log) count k slots torn = subst (λ (object : Option Seen). option_map_or (has_put page.0 log.changes) object false ≡ true)
    (sym (object_changed (with_count count) k slots)) (by (object_at slots k) torn)
  where
    by : (object : Option Seen) → option_map_or (has_put page.0 log.changes) object false ≡ true → option_map_or (has_put page.0 log.changes)
        (option_map (with_count count) object) false ≡ true
    by None so = so
    by (Some seen) so = so

-- the writer is retired where another volume isn't
pub holds_retired : (log : Option Log) (slots : List Slot) (files : List Filed) → Holds log None slots files → Holds log None (writer_retired files slots) files
holds_retired log slots files so =
    (elim (is_one_of_several slots) as (λ r. Holds log None (if r then settled_at files (writer_of slots) (changed_at retired (writer_of slots) slots)
    else slots) files) [
      | false ↦ so
      | true ↦ holds_let_go log None (changed_at retired (writer_of slots) slots) files (Some (writer_of slots)) (record {
        noted = passes_changed (passes log) (passes log) (λ slot one. one) retired (λ slot one. one) (writer_of slots) slots so.noted;
        there = by log so.there;
      })
    ])
  where
    by : (log : Option Log) → IfSome log (λ (log : Log). There log.changes slots files)
        → IfSome log (λ (log : Log). There log.changes (changed_at retired (writer_of slots) slots) files)
    by None so = tt
    by (Some log) so = there_same retired (λ slot. refl) log.changes (writer_of slots) slots files so
