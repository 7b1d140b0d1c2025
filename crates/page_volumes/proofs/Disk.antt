-- The calls of a group, as those of a disk of pages.
use Rattle.std.proofs.Common.{◌≡◌, ℕ, zero, suc, ◌+◌, ◌-◌, ◌<◌, ◌≤◌, ◌==◌, ◌||◌, Bool, true, false, not, List, [], ◌∷◌, Some, None, Option, arith, length, option_and_then, refl, sym, ap, ◌∙◌, subst}
use Rattle.std.specs.Prelude.{if◌then◌else◌, is_some, slice_get, unwrap_or, IfSome, IsSome, IsSomeAnd}
use Rattle.std.specs.List.{list_all, list_any}
use Rattle.std.specs.Option.{option_map, option_map_or}
use Rattle.std.proofs.lemmas.Bool.{eqb-true}
use Rattle.blob_words.specs.declared.number.PageNo.{PageNo}
use Rattle.page_disk.specs.Changes.{last_put, writes, HasRange, IsNew, OpenWrite, Stands}
use Rattle.page_disk.specs.declared.change.Change.{Change}
use Rattle.page_disk.specs.declared.change.Change.TheVariants as changes
use Rattle.page_disk.specs.declared.fault.PutFault.TheVariants as faults
use Rattle.page_volumes.specs.declared.filed.Filed.{Filed}
use Rattle.page_volumes.specs.Seen.{file_of, told_of, HasBytes, HasFile, HasNone, PageFile, Seen, Told}
use Rattle.page_volumes.specs.Seen as volume
use Rattle.page_volumes.specs.Acts.{CanRemoveAt, CanRemoveFrom}
use Rattle.page_volumes.specs.Group
use Rattle.page_volumes.specs.Group.{has_files, home_of, object_at, place_of, writer_of, Log, Slot}
use Rattle.page_volumes.specs.Sound.{are_told, changes_of, is_as_noted, is_put, is_sound, is_there, is_write, no_write, writing_of}
use Rattle.page_volumes.proofs.Acted.{some_weaker}
use Rattle.page_volumes.proofs.Counting
use Rattle.page_volumes.proofs.Goods.{closed_good, Good, Parts}
use Rattle.page_volumes.proofs.Holding.{any_noted, writer_noted}
use Rattle.page_volumes.proofs.Keeping.{place_has, Logged}
use Rattle.page_volumes.proofs.Noted.{both}
use Rattle.page_volumes.proofs.There.{has_at, noted_at, There}
use Rattle.page_volumes.proofs.Told.{bytes_same, no_file, nothing_put, write_is}

-- a group takes calls where its volumes stand as noted
pub writing_sound : (group : Group.Group) → is_sound group ≡ true → writing_of group ≡ group.write
writing_sound group so = subst (λ r. (if r then group.write else Some no_write) ≡ group.write) (sym so) refl

pub record IsClosed (group : Group.Group) : Type 0 where
  pub sound : is_sound group ≡ true
  pub closed : group.write ≡ None

pub closed_is : (group : Group.Group) → writing_of group ≡ None → IsClosed group
closed_is group is = (elim (is_sound group) as (λ r. is_sound group ≡ r → (if r then group.write else Some no_write) ≡ None → IsClosed group) [
  | true ↦ λ so is. record { sound = so; closed = is }
  | false ↦ λ so is. absurd (cc is)
]) refl is

pub record IsOpen (group : Group.Group) (P : OpenWrite → Type 0) : Type 0 where
  pub sound : is_sound group ≡ true
  pub open_so : IsSomeAnd group.write P

pub open_is : (P : OpenWrite → Type 0) → (P no_write → ⊥) → (group : Group.Group) → IsSomeAnd (writing_of group) P → IsOpen group P
open_is P refuses group is = (elim (is_sound group) as (λ r. is_sound group ≡ r → IsSomeAnd (if r then group.write else Some no_write) P → IsOpen group P) [
  | true ↦ λ so is. record { sound = so; open_so = is }
  | false ↦ λ so is. absurd (refuses is)
]) refl is

-- what the calls of a volume ask for
pub can_begin : (page : ℕ) (group : Group.Group) → Good group → group.write ≡ None → IfSome (changes_of group) (IsNew page)
    → IsSomeAnd (object_at group.slots (writer_of group.slots)) (λ seen. (seen.write ≡ None) × HasNone page seen)
can_begin page group good closed new = let so = closed_good group closed good in
    some_weaker (λ seen. is_as_noted group.log None (Some seen) ≡ true) (λ seen. (seen.write ≡ None) × HasNone page seen)
    (λ seen is. let parts = both (is_write None seen.write) (are_told None group.log seen.told) is in
    (write_is None seen.write parts.0, by group.log new seen.told parts.1))
    (object_at group.slots (writer_of group.slots)) (writer_noted group.log None group.slots group.files so.placed so.holds)
  where
    by : (log : Option Log) → IfSome (option_map (λ (log : Log). log.changes) log) (IsNew page) → (told : Option Told) → are_told None log told ≡ true
        → IfSome (option_map (λ (told : Told). file_of page told.files) told) (λ file. file ≡ None)
    by log new None is = tt
    by None new (Some told) is = absurd (cc is)
    by (Some log) new (Some told) is = no_file log.changes page told.files new
        (both (list_all (λ (file : PageFile). list_any (writes file.page) log.changes) told.files) true is).0

pub can_write : (group : Group.Group) → Good group → IsSomeAnd (object_at group.slots (writer_of group.slots)) (λ seen. seen.write ≡ group.write)
can_write group good = some_weaker (λ seen. is_as_noted group.log group.write (Some seen) ≡ true) (λ seen. seen.write ≡ group.write)
    (λ seen is. write_is group.write seen.write (both (is_write group.write seen.write) (are_told group.write group.log seen.told) is).0)
    (object_at group.slots (writer_of group.slots)) (writer_noted group.log group.write group.slots group.files good.placed good.holds)

-- the file of a page is where it is noted to be
there_found : (changes : List Change) (slots : List Slot) (page k : ℕ) (files : List Filed) → There changes slots files → home_of page files ≡ Some (Some k)
    → noted_at page changes slots k ≡ true
there_found changes slots page k [] so is = cc
there_found changes slots page k (file ∷ files) so is =
    (elim (page == file.page.0) as (λ r. (page == file.page.0) ≡ r → (if r then Some file.home else home_of page files) ≡ Some (Some k)
    → noted_at page changes slots k ≡ true) [
      | true ↦ λ same is. let home : file.home ≡ Some k = cc in
          subst (λ one. noted_at one changes slots k ≡ true) (sym (eqb-true page file.page.0 same))
          (subst (λ home. option_map_or (noted_at file.page.0 changes slots) home true ≡ true) home
          (both (is_there changes slots file) (list_all (is_there changes slots) files) so).0)
      | false ↦ λ apart is. there_found changes slots page k files (both (is_there changes slots file) (list_all (is_there changes slots) files) so).1 is
    ]) refl is

-- a volume on which a file stands is held
pub home_held : (page k : ℕ) (group : Group.Group) → Good group → place_of page group.files ≡ Some k → IsSome (object_at group.slots k)
home_held page k group good is = by (slice_get group.slots k) refl (good.placed.held k)
    (subst (λ home. IfSome home (λ k. k < length group.slots)) is (good.placed.homes page))
  where
    or_true : (r : Bool) → (r || true) ≡ true
    or_true true = refl
    or_true false = refl

    past : (slots : List Slot) (k : ℕ) → slice_get slots k ≡ None → k < length slots → ⊥
    past [] k none within = omega arith
    past (slot ∷ slots) zero none within = cc none
    past (slot ∷ slots) (suc k) none within = past slots k none (omega arith)

    by : (found : Option Slot) → slice_get group.slots k ≡ found → IfSome found (λ slot. is_some slot.object ≡ (not slot.is_retired || has_files k group.files))
        → k < length group.slots → IsSome (option_and_then (λ (slot : Slot). slot.object) found)
    by None none held within = absurd (past group.slots k none within)
    by (Some slot) there held within = held ∙ ap (λ r. not slot.is_retired || r) (place_has page k group.files is) ∙ or_true (not slot.is_retired)

pub writer_held : (group : Group.Group) → Good group → IsSome (object_at group.slots (writer_of group.slots))
writer_held group good = by (object_at group.slots (writer_of group.slots)) (can_write group good)
  where
    by : (object : Option Seen) → IsSomeAnd object (λ seen. seen.write ≡ group.write) → IsSome object
    by None is = absurd is
    by (Some seen) is = refl

pub home_place : (page k : ℕ) (files : List Filed) → home_of page files ≡ Some (Some k) → place_of page files ≡ Some k
home_place page k files is = ap (λ home. option_and_then (λ home. home) home) is

-- where nothing is told, nothing is asked
told_none : (page : ℕ) (P : Option (Option (List ℕ)) → Type 0) (told : Option Told) → are_told None None told ≡ true
    → IfSome (option_map (λ (told : Told). file_of page told.files) told) P
told_none page P None is = tt
told_none page P (Some told) is = absurd (cc is)

-- a file as it was put
has_as_put : (put : Option (List ℕ)) (page : ℕ) (object : Option Seen) (changes : List Change) → last_put page changes ≡ put → has_at page changes object ≡ true
    → IsSomeAnd object (λ seen. IfSome (told_of page seen) (λ file. file ≡ Some put))
has_as_put put page None changes last is = cc is
has_as_put put page (Some seen) changes last is = by (told_of page seen) (subst (λ put. option_map_or (is_put put) (told_of page seen) true ≡ true) last is)
  where
    file_is : (put : Option (List ℕ)) (file : Option (Option (List ℕ))) → is_put put file ≡ true → file ≡ Some put
    file_is None None is = cc is
    file_is (Some put) None is = cc is
    file_is None (Some None) is = refl
    file_is None (Some (Some bytes)) is = absurd (cc is)
    file_is (Some put) (Some None) is = absurd (cc is)
    file_is (Some put) (Some (Some bytes)) is = ap (λ bytes. Some (Some bytes)) (sym (bytes_same put bytes is))

    by : (file : Option (Option (Option (List ℕ)))) → option_map_or (is_put put) file true ≡ true → IfSome file (λ file. file ≡ Some put)
    by None is = tt
    by (Some file) is = file_is put file is

both_so : {X : Type 0} (P Q : X → Type 0) (found : Option X) → IsSomeAnd found P → IsSomeAnd found Q → IsSomeAnd found (λ x. P x × Q x)
both_so P Q None p q = absurd p
both_so P Q (Some x) p q = (p, q)

-- a page that has bytes was written
put_written : (page : ℕ) (changes : List Change) (P : List ℕ → Type 0) → IsSomeAnd (last_put page changes) P → list_any (writes page) changes ≡ true
put_written page changes P has = (elim (list_any (writes page) changes) as (λ r. list_any (writes page) changes ≡ r → r ≡ true) [
  | true ↦ λ is. refl
  | false ↦ λ is. absurd (subst (λ put. IsSomeAnd put P) (nothing_put page changes is) has)
]) refl

-- a volume tells that it has a page as it was put, and has no open write
abbrev pub HasPut : ℕ → Log → Seen → Type 0
HasPut page log seen = (seen.write ≡ None) × IsSomeAnd (told_of page seen) (λ file. file ≡ Some (last_put page log.changes))

has_put_of : (page : ℕ) (log : Log) (seen : Seen) → is_as_noted (Some log) None (Some seen) ≡ true → IfSome (told_of page seen)
    (λ file. file ≡ Some (last_put page log.changes)) → HasPut page log seen
has_put_of page log seen noted file = let parts = both (is_write None seen.write) (are_told None (Some log) seen.told) noted in
    (write_is None seen.write parts.0, by seen.told parts.1 file)
  where
    by : (told : Option Told) → are_told None (Some log) told ≡ true → IfSome (option_map (λ (told : Told). file_of page told.files) told)
        (λ file. file ≡ Some (last_put page log.changes)) → IsSomeAnd (option_map (λ (told : Told). file_of page told.files) told)
        (λ file. file ≡ Some (last_put page log.changes))
    by None is file = absurd (cc is)
    by (Some told) is file = file

-- the volume that is asked for a page has it as it was put
pub record IsAsked (page : ℕ) (group : Group.Group) (log : Log) : Type 0 where
  pub k : ℕ
  pub home : home_of page group.files ≡ Some (Some k)
  pub has : IsSomeAnd (object_at group.slots k) (HasPut page log)

some_home : {j k : ℕ} → Some (Some j) ≡ Some (Some k) → j ≡ k
some_home is = cc

asked_of : (page : ℕ) (group : Group.Group) (log : Log) → group.log ≡ Some log → Parts group.log None group.slots group.files → Good group
    → (home : Option (Option ℕ)) → home_of page group.files ≡ home → IsSome home → (home ≡ Some None → ⊥) → IsAsked page group log
asked_of page group log is so good None at some whole = absurd (cc some)
asked_of page group log is so good (Some None) at some whole = absurd (whole refl)
asked_of page group log is so good (Some (Some k)) at some whole = record {
  k = k;
  home = at;
  has = some_weaker (λ seen. (is_as_noted group.log None (Some seen) ≡ true) × IfSome (told_of page seen) (λ file. file ≡ Some (last_put page log.changes)))
      (HasPut page log)
      (λ seen one. has_put_of page log seen (subst (λ log. is_as_noted log None (Some seen) ≡ true) is one.0) one.1) (object_at group.slots k)
      (both_so (λ seen. is_as_noted group.log None (Some seen) ≡ true) (λ seen. IfSome (told_of page seen) (λ file. file ≡ Some (last_put page log.changes)))
      (object_at group.slots k)
      (any_noted group.log group.slots group.files k (home_held page k group good (home_place page k group.files at)) so.holds)
      (has_as_put (last_put page log.changes) page (object_at group.slots k) log.changes refl
      (both (list_any (writes page) log.changes) (has_at page log.changes (object_at group.slots k))
      (there_found log.changes group.slots page k group.files
      (subst (λ log. IfSome log (λ (log : Log). There log.changes group.slots group.files)) is so.holds.there) at)).1));
}

pub asked_group : (page k : ℕ) (group : Group.Group) → home_of page group.files ≡ Some (Some k) → k ≡ Group.asked_at page group
asked_group page k group is = sym (ap (λ home. unwrap_or (option_and_then (λ home. home) home) (writer_of group.slots)) is)

pub asked_range : (page off len : ℕ) (group : Group.Group) (log : Log) → group.log ≡ Some log → Good group → group.write ≡ None
    → HasRange page off len log.changes → IsAsked page group log
asked_range page off len group log is good closed range =
    let so = closed_good group closed good in
    let logged = subst (λ log. IfSome log (λ (log : Log). Logged None group.files log.changes)) is so.logged in
    asked_of page group log is so good (home_of page group.files) refl (logged.known page (put_written page log.changes _ range.0, range.1))
    (λ gone. subst (λ put. IsSomeAnd put (λ bytes. off + len ≤ length bytes)) (logged.gone page gone) range.0)

held_none : (page : ℕ) (P : Option (Option (List ℕ)) → Type 0) (k : ℕ) (group : Group.Group) → group.log ≡ None → Parts group.log None group.slots group.files
    → IsSome (object_at group.slots k)
    → IsSomeAnd (object_at group.slots k) (λ seen. (seen.write ≡ None) × IfSome (told_of page seen) P)
held_none page P k group is so some = some_weaker (λ seen. is_as_noted group.log None (Some seen) ≡ true)
    (λ seen. (seen.write ≡ None) × IfSome (told_of page seen) P)
    (λ seen noted. let parts = both (is_write None seen.write) (are_told None group.log seen.told) noted in
    (write_is None seen.write parts.0, told_none page P seen.told (subst (λ log. are_told None log seen.told ≡ true) is parts.1)))
    (object_at group.slots k) (any_noted group.log group.slots group.files k some so.holds)

-- whoever is asked for bytes is held
pub asked_held : (page : ℕ) (group : Group.Group) → Good group → IsSome (object_at group.slots (Group.asked_at page group))
asked_held page group good = by (place_of page group.files) refl
  where
    by : (place : Option ℕ) → place_of page group.files ≡ place → IsSome (object_at group.slots (unwrap_or place (writer_of group.slots)))
    by None is = writer_held group good
    by (Some k) is = home_held page k group good is

pub can_get : (page off len : ℕ) (group : Group.Group) → Good group → group.write ≡ None → IfSome (changes_of group) (HasRange page off len)
    → IsSomeAnd (object_at group.slots (Group.asked_at page group)) (λ seen. (seen.write ≡ None) × HasBytes page off len seen)
can_get page off len group good closed range = by group.log refl range
  where
    file : (log : Log) → HasRange page off len log.changes → (found : Option (Option (Option (List ℕ))))
        → IsSomeAnd found (λ file. file ≡ Some (last_put page log.changes))
        → IfSome found (λ file. IsSomeAnd file (λ whole. IsSomeAnd whole (λ bytes. off + len ≤ length bytes)))
    file log range None so = tt
    file log range (Some found) so = subst (λ found. IsSomeAnd found (λ whole. IsSomeAnd whole (λ bytes. off + len ≤ length bytes))) (sym so) range.0

    by : (log : Option Log) → group.log ≡ log → IfSome (option_map (λ (log : Log). log.changes) log) (HasRange page off len)
        → IsSomeAnd (object_at group.slots (Group.asked_at page group)) (λ seen. (seen.write ≡ None) × HasBytes page off len seen)
    by None is range = held_none page (λ file. IsSomeAnd file (λ whole. IsSomeAnd whole (λ bytes. off + len ≤ length bytes))) (Group.asked_at page group) group
        is (closed_good group closed good) (asked_held page group good)
    by (Some log) is range =
        let asked = asked_range page off len group log is good closed range in
        subst (λ k. IsSomeAnd (object_at group.slots k) (λ seen. (seen.write ≡ None) × HasBytes page off len seen)) (asked_group page asked.k group asked.home)
        (some_weaker (HasPut page log) (λ seen. (seen.write ≡ None) × HasBytes page off len seen)
        (λ seen so. (so.0, file log range (told_of page seen) so.1)) (object_at group.slots asked.k) asked.has)

pub can_remove : (page : ℕ) (group : Group.Group) → Good group → group.write ≡ None → IfSome (changes_of group) (Stands page) → CanRemoveFrom page group.slots
    (home_of page group.files)
can_remove page group good closed stands = by group.log refl stands
  where
    so : Parts group.log None group.slots group.files
    so = closed_good group closed good

    untold : group.log ≡ None → (home : Option (Option ℕ)) → home_of page group.files ≡ home → CanRemoveFrom page group.slots home
    untold is None at = held_none page (λ file. IsSome file) (writer_of group.slots) group is so (writer_held group good)
    untold is (Some None) at = tt
    untold is (Some (Some k)) at = held_none page (λ file. IsSome file) k group is so (home_held page k group good (home_place page k group.files at))

    file : (log : Log) (found : Option (Option (Option (List ℕ)))) → IsSomeAnd found (λ file. file ≡ Some (last_put page log.changes))
        → IfSome found (λ file. IsSome file)
    file log None so = tt
    file log (Some found) so = subst (λ (found : Option (Option (List ℕ))). IsSome found) (sym so) refl

    told : (log : Log) → group.log ≡ Some log → Stands page log.changes → (home : Option (Option ℕ)) → home_of page group.files ≡ home
        → CanRemoveFrom page group.slots home
    told log is stands None at =
        let logged = subst (λ log. IfSome log (λ (log : Log). Logged None group.files log.changes)) is so.logged in
        let clash : false ≡ true = subst (λ (home : Option (Option ℕ)). IsSome home) at (logged.known page stands) in
        absurd (cc clash)
    told log is stands (Some None) at = tt
    told log is stands (Some (Some k)) at =
        let asked = asked_of page group log is so good (Some (Some k)) at refl (λ no. cc no) in
        let same : asked.k ≡ k = some_home (sym asked.home ∙ at) in
        subst (λ k. CanRemoveAt page group.slots k) same (some_weaker (HasPut page log) (λ seen. (seen.write ≡ None) × HasFile page seen)
        (λ seen so. (so.0, file log (told_of page seen) so.1)) (object_at group.slots asked.k) asked.has)

    by : (log : Option Log) → group.log ≡ log → IfSome (option_map (λ (log : Log). log.changes) log) (Stands page) → CanRemoveFrom page group.slots
        (home_of page group.files)
    by None is stands = untold is (home_of page group.files) refl
    by (Some log) is stands = told log is stands (home_of page group.files) refl

-- a page whose removal may be asked is filed, where changes are told
pub filed_told : (page : ℕ) (group : Group.Group) → Good group → group.write ≡ None → IfSome (changes_of group) (Stands page) → home_of page group.files ≡ None
    → group.log ≡ None
filed_told page group good closed stands none = by group.log refl stands
  where
    by : (log : Option Log) → group.log ≡ log → IfSome (option_map (λ (log : Log). log.changes) log) (Stands page) → log ≡ None
    by None is stands = refl
    by (Some log) is stands =
        let so = closed_good group closed good in
        let logged = subst (λ log. IfSome log (λ (log : Log). Logged None group.files log.changes)) is so.logged in
        let clash : false ≡ true = subst (λ (home : Option (Option ℕ)). IsSome home) none (logged.known page stands) in
        absurd (cc clash)

-- what is new as it is told
pub new_log : (page : PageNo) (group : Group.Group) → IfSome (changes_of group) (IsNew page.0) → IfSome group.log (λ (log : Log). IsNew page.0 log.changes)
new_log page group new = by group.log new
  where
    by : (log : Option Log) → IfSome (option_map (λ (log : Log). log.changes) log) (IsNew page.0) → IfSome log (λ (log : Log). IsNew page.0 log.changes)
    by None new = tt
    by (Some log) new = new
