-- Files that stand where they are noted to be, as slots, files and changes become others.
use Rattle.std.proofs.Common.{◌≡◌, ℕ, ◌==◌, ◌&&◌, ◌||◌, Bool, true, false, not, cond, List, [], ◌∷◌, ◌++◌, Some, None, Option, option_and_then, refl, sym, ap, ◌∙◌, subst, ⊎_elim}
use Rattle.std.specs.Prelude.{if◌then◌else◌, slice_get}
use Rattle.std.specs.List.{list_all, list_any}
use Rattle.std.specs.Option.{option_map, option_map_or, option_or}
use Rattle.std.proofs.lemmas.Bool.{eq-eqb, eqb-true}
use Rattle.blob_words.specs.declared.number.PageNo.{PageNo}
use Rattle.page_disk.specs.Changes.{last_put, put_by, writes}
use Rattle.page_disk.specs.declared.change.Change.{Change}
use Rattle.page_disk.specs.declared.change.Change.TheVariants.{Put}
use Rattle.page_disk.proofs.Found.{last_put_more}
use Rattle.page_volumes.specs.declared.filed.Filed.{Filed}
use Rattle.page_volumes.specs.Seen.{file_of, told_of, with_count, with_file, without, PageFile, Seen, Told}
use Rattle.page_volumes.specs.Seen as volume
use Rattle.page_volumes.specs.Group.{changed_at, has_files, home_of, is_at, let_go, object_at, seen_by, settled, unfiled, Slot}
use Rattle.page_volumes.specs.Sound.{has_put, is_put, is_there}
use Rattle.page_volumes.proofs.Noted.{and_of, both}
use Rattle.page_volumes.proofs.Told.{all_append, all_filter, all_weaker, file_more, file_without, written_more}
use Rattle.page_volumes.proofs.Writers.{changed_or}
use Rattle.page_volumes.proofs.Acted.{settled_home}

-- each page filed is where it is noted to be
abbrev pub There : List Change → List Slot → List Filed → Type 0
There changes slots files = list_all (is_there changes slots) files ≡ true

-- none of the pages filed is this one
abbrev pub IsOther : ℕ → List Filed → Type 0
IsOther page files = list_all (λ (file : Filed). not (page == file.page.0)) files ≡ true

pub or_first : (a b : Bool) → a ≡ true → (a || b) ≡ true
or_first true b is = refl
or_first false b is = cc

pub or_then : (a b : Bool) → b ≡ true → (a || b) ≡ true
or_then true b is = refl
or_then false b is = is

pub is_not : (a : Bool) → not a ≡ true → a ≡ false
is_not true is = cc
is_not false is = refl

pub not_is : (a : Bool) → a ≡ false → not a ≡ true
not_is true is = cc
not_is false is = refl

pub flip : (a b : ℕ) → (b == a) ≡ false → (a == b) ≡ false
flip a b apart = (elim (a == b) as (λ r. (a == b) ≡ r → r ≡ false) [
  | true ↦ λ is. let same : a ≡ b = eqb-true a b is in subst (λ one. true ≡ one) (sym (eq-eqb b a (sym same)) ∙ apart) refl
  | false ↦ λ is. refl
]) refl

pub none_other : (page : ℕ) (files : List Filed) → home_of page files ≡ None → IsOther page files
none_other page [] none = refl
none_other page (file ∷ files) none = (elim (page == file.page.0) as (λ r. (page == file.page.0) ≡ r → (if r then Some file.home else home_of page files) ≡ None
    → (not r && list_all (λ (file : Filed). not (page == file.page.0)) files) ≡ true) [
      | true ↦ λ is none. absurd (cc none)
      | false ↦ λ is none. none_other page files none
    ]) refl none

pub unfiled_other : (page : ℕ) (files : List Filed) → IsOther page (unfiled page files)
unfiled_other page [] = refl
unfiled_other page (file ∷ files) =
    (elim (page == file.page.0) as (λ r. (page == file.page.0) ≡ r → list_all (λ (file : Filed). not (page == file.page.0))
    (cond (not r) (file ∷ unfiled page files) (unfiled page files)) ≡ true) [
      | true ↦ λ is. unfiled_other page files
      | false ↦ λ is. and_of (not (page == file.page.0)) (list_all (λ (file : Filed). not (page == file.page.0)) (unfiled page files)) (not_is _ is)
          (unfiled_other page files)
    ]) refl

all_in : {X : Type 0} (test p q : X → Bool) → ((x : X) → test x ≡ true → p x ≡ true → q x ≡ true) → (xs : List X) → list_all test xs ≡ true → list_all p xs
    ≡ true → list_all q xs ≡ true
all_in test p q weaker [] tests so = refl
all_in test p q weaker (x ∷ xs) tests so = and_of (q x) (list_all q xs) (weaker x (both (test x) (list_all test xs) tests).0 (both (p x) (list_all p xs) so).0)
    (all_in test p q weaker xs (both (test x) (list_all test xs) tests).1 (both (p x) (list_all p xs) so).1)

pub all_true : {X : Type 0} (xs : List X) → list_all (λ _. true) xs ≡ true
all_true [] = refl
all_true (x ∷ xs) = all_true xs

-- a page's file where it is noted to be
abbrev pub has_at : ℕ → List Change → Option Seen → Bool
has_at page changes object = option_map_or (has_put page changes) object false

abbrev pub noted_at : ℕ → List Change → List Slot → ℕ → Bool
noted_at page changes slots home = list_any (writes page) changes && has_at page changes (object_at slots home)

there_by : (changes after : List Change) (slots new : List Slot) (file : Filed)
    → (list_any (writes file.page.0) changes ≡ true → list_any (writes file.page.0) after ≡ true)
    → ((k : ℕ) → file.home ≡ Some k → has_at file.page.0 changes (object_at slots k) ≡ true → has_at file.page.0 after (object_at new k) ≡ true)
    → is_there changes slots file ≡ true → is_there after new file ≡ true
there_by changes after slots new file written at so = by file.home (λ k is. at k is) so
  where
    by : (home : Option ℕ) → ((k : ℕ) → home ≡ Some k → has_at file.page.0 changes (object_at slots k) ≡ true → has_at file.page.0 after (object_at new k)
        ≡ true)
        → option_map_or (noted_at file.page.0 changes slots) home true ≡ true → option_map_or (noted_at file.page.0 after new) home true ≡ true
    by None at so = refl
    by (Some k) at so = let parts = both (list_any (writes file.page.0) changes) (has_at file.page.0 changes (object_at slots k)) so in
        and_of (list_any (writes file.page.0) after) (has_at file.page.0 after (object_at new k)) (written parts.0) (at k refl parts.1)

-- fewer files
pub there_unfiled : (changes : List Change) (slots : List Slot) (page : ℕ) (files : List Filed) → There changes slots files
    → There changes slots (unfiled page files)
there_unfiled changes slots page files so = all_filter (is_there changes slots) (is_there changes slots) (λ (file : Filed). not (page == file.page.0))
    (λ file kept is. is) files so

-- one more
pub there_more : (changes : List Change) (slots : List Slot) (files : List Filed) (file : Filed) → There changes slots files → is_there changes slots file
    ≡ true → There changes slots (files ++ file ∷ [])
there_more changes slots files file so one = all_append (is_there changes slots) files (file ∷ []) so (and_of (is_there changes slots file) true one refl)

-- a slot is changed without its object
pub there_same : (change : Slot → Slot) → ((slot : Slot) → (change slot).object ≡ slot.object) → (changes : List Change) (k : ℕ) (slots : List Slot)
    (files : List Filed) → There changes slots files → There changes (changed_at change k slots) files
there_same change keeps changes k slots files so = all_weaker (is_there changes slots) (is_there changes (changed_at change k slots))
    (λ file one. there_by changes changes slots (changed_at change k slots) file (λ is. is)
    (λ home is at. subst (λ (object : Option Seen). has_at file.page.0 changes object ≡ true) (sym (same home)) at) one) files so
  where
    found : (slot : Option Slot) → option_and_then (λ (slot : Slot). slot.object) (option_map change slot) ≡ option_and_then (λ (slot : Slot). slot.object) slot
    found None = refl
    found (Some slot) = keeps slot

    same : (j : ℕ) → object_at (changed_at change k slots) j ≡ object_at slots j
    same j = ⊎_elim (λ here. ap (λ slot. option_and_then (λ (slot : Slot). slot.object) slot) here.1 ∙ found (slice_get slots j))
        (λ other. ap (λ slot. option_and_then (λ (slot : Slot). slot.object) slot) other.1) (changed_or change k j slots)

-- a volume without files is dropped
there_settled : (changes : List Change) (is_home : Bool) (k : ℕ) (slots : List Slot) (files : List Filed) → (has_files k files ≡ true → is_home ≡ true)
    → There changes slots files → There changes (changed_at (settled is_home) k slots) files
there_settled changes is_home k slots [] home so = refl
there_settled changes is_home k slots (file ∷ files) home so =
    let parts = both (is_there changes slots file) (list_all (is_there changes slots) files) so in
    and_of (is_there changes (changed_at (settled is_home) k slots) file) (list_all (is_there changes (changed_at (settled is_home) k slots)) files)
    (there_by changes changes slots (changed_at (settled is_home) k slots) file (λ is. is)
    (λ j is at. subst (λ (object : Option Seen). has_at file.page.0 changes object ≡ true) (sym (same j is)) at) parts.0)
    (there_settled changes is_home k slots files (λ more. home (or_then (is_at k file) (has_files k files) more)) parts.1)
  where
    here_home : (j : ℕ) → file.home ≡ Some j → j ≡ k → is_home ≡ true
    here_home j at is =
        home (or_first (is_at k file) (has_files k files) (subst (λ (one : Option ℕ). option_map_or (λ home. k == home) one false ≡ true) (sym at)
        (eq-eqb k j (sym is))))

    found : (one : Bool) → one ≡ true → (slot : Option Slot) → option_map (settled one) slot ≡ slot
    found one is None = refl
    found one is (Some slot) = ap Some (subst (λ r. settled r slot ≡ slot) (sym is) (settled_home slot))

    same : (j : ℕ) → file.home ≡ Some j → object_at (changed_at (settled is_home) k slots) j ≡ object_at slots j
    same j at = ap (λ slot. option_and_then (λ (slot : Slot). slot.object) slot)
        (⊎_elim (λ here. here.1 ∙ found is_home (here_home j at here.0) (slice_get slots j)) (λ other. other.1) (changed_or (settled is_home) k j slots))

pub there_let_go : (changes : List Change) (home : Option ℕ) (slots : List Slot) (files : List Filed) → There changes slots files
    → There changes (let_go files home slots) files
there_let_go changes None slots files so = so
there_let_go changes (Some k) slots files so = there_settled changes (has_files k files) k slots files (λ is. is) so

-- a volume is seen otherwise, but has those files that it had
abbrev has_file : ℕ → Option (List ℕ) → Seen → Bool
has_file page put seen = option_map_or (is_put put) (told_of page seen) true

abbrev pub KeepsFiles : (ℕ → Bool) → (Seen → Seen) → Type 0
KeepsFiles test change = (page : ℕ) (put : Option (List ℕ)) (seen : Seen) → test page ≡ true → has_file page put seen ≡ true → has_file page put (change seen)
    ≡ true

pub there_seen : (test : ℕ → Bool) (change : Seen → Seen) → KeepsFiles test change → (changes : List Change) (k : ℕ) (slots : List Slot) (files : List Filed)
    → list_all (λ (file : Filed). test file.page.0) files ≡ true
    → There changes slots files → There changes (changed_at (seen_by change) k slots) files
there_seen test change keeps changes k slots files tests so = all_in (λ (file : Filed). test file.page.0) (is_there changes slots)
    (is_there changes (changed_at (seen_by change) k slots))
    (λ file is one. there_by changes changes slots (changed_at (seen_by change) k slots) file (λ is. is) (λ j at so. seen file.page.0 j is so) one) files tests
    so
  where
    objects : (page : ℕ) → test page ≡ true → (object : Option Seen) → has_at page changes object ≡ true → has_at page changes (option_map change object) ≡ true
    objects page is None so = so
    objects page is (Some seen) so = keeps page (last_put page changes) seen is so

    found : (page : ℕ) → test page ≡ true → (slot : Option Slot) → has_at page changes (option_and_then (λ (slot : Slot). slot.object) slot) ≡ true
        → has_at page changes (option_and_then (λ (slot : Slot). slot.object) (option_map (seen_by change) slot)) ≡ true
    found page is None so = so
    found page is (Some slot) so = objects page is slot.object so

    seen : (page j : ℕ) → test page ≡ true → has_at page changes (object_at slots j) ≡ true
        → has_at page changes (object_at (changed_at (seen_by change) k slots) j) ≡ true
    seen page j is so = ⊎_elim
        (λ here. subst (λ slot. has_at page changes (option_and_then (λ (slot : Slot). slot.object) slot) ≡ true) (sym here.1)
        (found page is (slice_get slots j) so))
        (λ other. subst (λ slot. has_at page changes (option_and_then (λ (slot : Slot). slot.object) slot) ≡ true) (sym other.1) so)
        (changed_or (seen_by change) k j slots)

abbrev pub any : ℕ → Bool
any page = true

-- a change in the list of files alone
abbrev tells : (Told → Told) → Seen → Seen
tells change seen = record seen { told = option_map change seen.told }

keeps_told : (test : ℕ → Bool) (change : Told → Told) → ((page : ℕ) (put : Option (List ℕ)) (files : Told) → test page ≡ true
    → is_put put (file_of page files.files) ≡ true → is_put put (file_of page (change files).files) ≡ true)
    → (page : ℕ) (put : Option (List ℕ)) (told : Option Told) → test page ≡ true → option_map_or (is_put put)
    (option_map (λ (told : Told). file_of page told.files) told) true ≡ true
    → option_map_or (is_put put) (option_map (λ (told : Told). file_of page told.files) (option_map change told)) true ≡ true
keeps_told test change keeps page put None is so = refl
keeps_told test change keeps page put (Some told) is so = keeps page put told is so

pub begun_keeps : (page : PageNo) (len : ℕ) → KeepsFiles any (volume.begun page len)
begun_keeps page len = λ one put seen is so. keeps_told any (λ (told : Told). record told { came = [] }) (λ page put told is so. so) one put seen.told is so

pub longer_keeps : (bytes : List ℕ) → KeepsFiles any (volume.longer bytes)
longer_keeps bytes = λ one put seen is so. keeps_told any (λ (told : Told). record told { came = told.came ++ bytes }) (λ page put told is so. so) one put
    seen.told is so

pub count_keeps : (count : ℕ) → KeepsFiles any (with_count count)
count_keeps count = λ one put seen is so. so

-- a file more is behind those that are there
still : (page : ℕ) (put : Option (List ℕ)) (files : List PageFile) (file : PageFile) → is_put put (file_of page files) ≡ true
    → is_put put (file_of page (files ++ file ∷ [])) ≡ true
still page put files file so = subst (λ found. is_put put found ≡ true) (sym (file_more page files file)) (by (file_of page files) so)
  where
    none_not : (put : Option (List ℕ)) → is_put put None ≡ true → ⊥
    none_not None is = cc is
    none_not (Some bytes) is = cc is

    by : (found : Option (Option (List ℕ))) → is_put put found ≡ true → is_put put (option_or found (file_of page (file ∷ []))) ≡ true
    by None so = absurd (none_not put so)
    by (Some bytes) so = so

pub put_keeps : (page : ℕ) → KeepsFiles any (volume.put page)
put_keeps page = λ one put seen is so. keeps_told any (λ (told : Told). with_file (record { page = page; bytes = Some told.came }) told)
    (λ one put told is so. still one put told.files (record { page = page; bytes = Some told.came }) so) one put seen.told is so

pub torn_keeps : (page count : ℕ) → KeepsFiles any (λ seen. with_count count (volume.torn page seen))
torn_keeps page count = λ one put seen is so. keeps_told any (with_file (record { page = page; bytes = None }))
    (λ one put told is so. still one put told.files (record { page = page; bytes = None }) so) one put seen.told is so

pub removed_keeps : (page : ℕ) → KeepsFiles (λ one. not (page == one)) (volume.removed page)
removed_keeps page = λ one put seen is so. keeps_told (λ one. not (page == one)) (λ (told : Told). record told { files = without page told.files })
    (λ one put told is so. subst (λ found. is_put put found ≡ true) (sym (file_without page one told.files (flip one page (is_not (page == one) is)))) so) one
    put seen.told is so

-- one change more, which puts none of the pages filed
pub there_changed : (change : Change) (test : ℕ → Bool) → ((page : ℕ) → test page ≡ true → put_by page change ≡ None) → (changes : List Change)
    (slots : List Slot) (files : List Filed) → list_all (λ (file : Filed). test file.page.0) files ≡ true
    → There changes slots files → There (changes ++ change ∷ []) slots files
there_changed change test puts changes slots files tests so = all_in (λ (file : Filed). test file.page.0) (is_there changes slots)
    (is_there (changes ++ change ∷ []) slots)
    (λ file is one. there_by changes (changes ++ change ∷ []) slots slots file (λ written. written_more file.page.0 changes change written)
    (λ j at so. puts_same file.page.0 is (object_at slots j) so) one) files tests so
  where
    same : (page : ℕ) → test page ≡ true → last_put page (changes ++ change ∷ []) ≡ last_put page changes
    same page is = last_put_more page changes change ∙ ap (λ put. option_or put (last_put page changes)) (puts page is)

    puts_same : (page : ℕ) → test page ≡ true → (object : Option Seen) → has_at page changes object ≡ true → has_at page (changes ++ change ∷ []) object ≡ true
    puts_same page is None so = so
    puts_same page is (Some seen) so = subst (λ put. option_map_or (is_put put) (told_of page seen) true ≡ true) (sym (same page is)) so

-- the changes that put nothing into the others
pub put_other : (page : PageNo) (bytes : List ℕ) (one : ℕ) → not (page.0 == one) ≡ true → put_by one (Put page bytes) ≡ None
put_other page bytes one is = subst (λ r. (if r then Some bytes else None) ≡ None) (sym (flip one page.0 (is_not (page.0 == one) is))) refl
