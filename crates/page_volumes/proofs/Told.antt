-- What a volume tells, as its calls change it, and what was done.
use Rattle.std.proofs.Common.{◌≡◌, ℕ, ◌+◌, ◌==◌, ◌&&◌, ◌||◌, Bool, true, false, not, cond, List, [], ◌∷◌, ◌++◌, Some, None, Option, length, refl, sym, ap, ◌∙◌, subst}
use Rattle.std.specs.Prelude.{if◌then◌else◌, bytes_eq, filter, is_none}
use Rattle.std.specs.List.{list_all, list_any}
use Rattle.std.specs.Option.{option_map, option_or}
use Rattle.std.proofs.lemmas.Bool.{eq-eqb, eqb-true}
use Rattle.std.proofs.lemmas.List.Folds.{list_any-append}
use Rattle.std.proofs.lemmas.Slice.Eq.{bytes_eq-Decides}
use Rattle.blob_words.specs.declared.number.PageNo.{PageNo}
use Rattle.page_disk.specs.Changes.{last_put, put_by, with_more, writes, OpenWrite}
use Rattle.page_disk.specs.declared.change.Change.{Change}
use Rattle.page_disk.specs.declared.change.Change.TheVariants.{Put, Torn, Remove, Left}
use Rattle.page_volumes.specs.Seen.{file_of, with_file, without, PageFile, Seen, Told}
use Rattle.page_volumes.specs.Seen as volume
use Rattle.page_volumes.specs.Group.{Log}
use Rattle.page_volumes.specs.Sound.{are_told, is_as_noted, is_write}
use Rattle.page_volumes.proofs.Noted.{and_of, both}

-- lists of which each element passes
pub all_append : {X : Type 0} (p : X → Bool) (xs ys : List X) → list_all p xs ≡ true → list_all p ys ≡ true → list_all p (xs ++ ys) ≡ true
all_append p [] ys one other = other
all_append p (x ∷ xs) ys one other = and_of _ _ (both _ _ one).0 (all_append p xs ys (both _ _ one).1 other)

pub all_weaker : {X : Type 0} (p q : X → Bool) → ((x : X) → p x ≡ true → q x ≡ true) → (xs : List X) → list_all p xs ≡ true → list_all q xs ≡ true
all_weaker p q weaker [] so = refl
all_weaker p q weaker (x ∷ xs) so = and_of _ _ (weaker x (both _ _ so).0) (all_weaker p q weaker xs (both _ _ so).1)

pub all_filter : {X : Type 0} (p q test : X → Bool) → ((x : X) → test x ≡ true → p x ≡ true → q x ≡ true) → (xs : List X) → list_all p xs ≡ true
    → list_all q (filter test xs) ≡ true
all_filter p q test weaker [] so = refl
all_filter p q test weaker (x ∷ xs) so = (elim (test x) as (λ r. test x ≡ r → list_all q (cond r (x ∷ filter test xs) (filter test xs)) ≡ true) [
  | true ↦ λ is. and_of _ _ (weaker x is (both _ _ so).0) (all_filter p q test weaker xs (both _ _ so).1)
  | false ↦ λ is. all_filter p q test weaker xs (both _ _ so).1
]) refl

-- the open write is the one noted
pub write_is : (one other : Option OpenWrite) → is_write one other ≡ true → other ≡ one
write_is None None is = refl
write_is None (Some other) is = absurd (cc is)
write_is (Some one) None is = absurd (cc is)
write_is (Some one) (Some other) is =
    let most = both ((one.page.0 == other.page.0) && (one.len == other.len)) (one.came == other.came) is in
    let first = both (one.page.0 == other.page.0) (one.len == other.len) most.0 in
    let pages = eqb-true one.page.0 other.page.0 first.0 in
    let lens = eqb-true one.len other.len first.1 in
    let cames = eqb-true one.came other.came most.1 in
    λ i. Some (record { page = record { 0 = sym pages i }; len = sym lens i; came = sym cames i })

pub write_same : (one : Option OpenWrite) → is_write one one ≡ true
write_same None = refl
write_same (Some one) = and_of ((one.page.0 == one.page.0) && (one.len == one.len)) (one.came == one.came)
    (and_of (one.page.0 == one.page.0) (one.len == one.len) (eq-eqb one.page.0 one.page.0 refl) (eq-eqb one.len one.len refl)) (eq-eqb one.came one.came refl)

pub bytes_same : (one other : List ℕ) → bytes_eq one other ≡ true → one ≡ other
bytes_same one other is = (bytes_eq-Decides one other).0 is

pub same_bytes : (one other : List ℕ) → one ≡ other → bytes_eq one other ≡ true
same_bytes one other is = (bytes_eq-Decides one other).1 is

-- the file of a page
pub file_more : (page : ℕ) (files : List PageFile) (file : PageFile) → file_of page (files ++ file ∷ []) ≡ option_or (file_of page files)
    (file_of page (file ∷ []))
file_more page [] file = refl
file_more page (first ∷ files) file =
    (elim (page == first.page) as (λ r. (if r then Some first.bytes else file_of page (files ++ file ∷ []))
    ≡ option_or (if r then Some first.bytes else file_of page files) (file_of page (file ∷ []))) [
      | true ↦ refl
      | false ↦ file_more page files file
    ])

pub file_without : (page other : ℕ) (files : List PageFile) → (other == page) ≡ false → file_of other (without page files) ≡ file_of other files
file_without page other [] apart = refl
file_without page other (file ∷ files) apart =
    (elim (page == file.page) as (λ r. (page == file.page) ≡ r → file_of other (cond (not r) (file ∷ without page files) (without page files))
    ≡ file_of other (file ∷ files)) [
      | true ↦ λ is. let same : page ≡ file.page = eqb-true page file.page is in
          rw (ap (λ one. other == one) (sym same) ∙ apart) (file_without page other files apart)
      | false ↦ λ is. ap (λ rest. if other == file.page then Some file.bytes else rest) (file_without page other files apart)
    ]) refl

-- a page of which nothing was written has no file
pub no_file : (changes : List Change) (page : ℕ) (files : List PageFile) → list_any (writes page) changes ≡ false
    → list_all (λ (file : PageFile). list_any (writes file.page) changes) files ≡ true → file_of page files ≡ None
no_file changes page [] new so = refl
no_file changes page (file ∷ files) new so =
    (elim (page == file.page) as (λ r. (page == file.page) ≡ r → (if r then Some file.bytes else file_of page files) ≡ None) [
      | true ↦ λ is. let written = (both (list_any (writes file.page) changes) (list_all (λ (file : PageFile). list_any (writes file.page) changes) files) so).0
          in
          let none = subst (λ one. list_any (writes one) changes ≡ false) (eqb-true page file.page is) new in
          let no : true ≡ false = sym written ∙ none in absurd (cc no)
      | false ↦ λ is. no_file changes page files new (both _ _ so).1
    ]) refl

-- and no bytes
pub nothing_put : (page : ℕ) (changes : List Change) → list_any (writes page) changes ≡ false → last_put page changes ≡ None
nothing_put page [] new = refl
nothing_put page (change ∷ changes) new = let parts = neither _ _ new in rw (nothing_put page changes parts.1) (by change parts.0)
  where
    neither : (a b : Bool) → (a || b) ≡ false → (a ≡ false) × (b ≡ false)
    neither true b is = absurd (cc is)
    neither false b is = (refl, is)

    by : (change : Change) → writes page change ≡ false → put_by page change ≡ None
    by (Put one bytes) is = rw is refl
    by (Torn one) is = refl
    by (Remove one) is = refl
    by (Left one) is = refl

-- what was written stays so
pub written_more : (page : ℕ) (changes : List Change) (change : Change) → list_any (writes page) changes ≡ true → list_any (writes page)
    (changes ++ change ∷ []) ≡ true
written_more page changes change is = list_any-append (writes page) changes (change ∷ []) ∙ rw is refl

pub written_now : (page : ℕ) (changes : List Change) (change : Change) → writes page change ≡ true → list_any (writes page) (changes ++ change ∷ []) ≡ true
written_now page changes change is = list_any-append (writes page) changes (change ∷ []) ∙ by (list_any (writes page) changes) (writes page change) is
  where
    by : (a b : Bool) → b ≡ true → (a || (b || false)) ≡ true
    by true b is = refl
    by false b is = rw is refl

-- each page that was written was written before too
abbrev pub Grows : Option Log → Option Log → Type 0
Grows None None = Unit {0}
Grows None (Some new) = ⊥
Grows (Some old) None = ⊥
Grows (Some old) (Some new) = (page : ℕ) → list_any (writes page) old.changes ≡ true → list_any (writes page) new.changes ≡ true

pub grows_same : (log : Option Log) → Grows log log
grows_same None = tt
grows_same (Some log) = λ page is. is

pub grows_more : (change : Change) (log : Option Log) → Grows log (option_map (λ (one : Log). record one { changes = one.changes ++ change ∷ [] }) log)
grows_more change None = tt
grows_more change (Some log) = λ page is. written_more page log.changes change is

-- a volume that stands as noted while no write is open does so after more
pub noted_more : (old new : Option Log) → Grows old new → (object : Option Seen) → is_as_noted old None object ≡ true → is_as_noted new None object ≡ true
noted_more old new grows None so = refl
noted_more old new grows (Some seen) so = let parts = both (is_write None seen.write) (are_told None old seen.told) so in
    and_of (is_write None seen.write) (are_told None new seen.told) parts.0 (by old new grows seen.told parts.1)
  where
    by : (old new : Option Log) → Grows old new → (told : Option Told) → are_told None old told ≡ true → are_told None new told ≡ true
    by None None grows told so = so
    by None (Some new) grows told so = absurd grows
    by (Some old) None grows told so = absurd grows
    by (Some old) (Some new) grows None so = absurd (cc so)
    by (Some old) (Some new) grows (Some told) so =
        let parts = both (list_all (λ (file : PageFile). list_any (writes file.page) old.changes) told.files) true so in
        and_of (list_all (λ (file : PageFile). list_any (writes file.page) new.changes) told.files) true
        (all_weaker (λ (file : PageFile). list_any (writes file.page) old.changes) (λ (file : PageFile). list_any (writes file.page) new.changes)
        (λ file is. grows file.page is) told.files parts.0) refl

abbrev written : List Change → List PageFile → Bool
written changes files = list_all (λ (file : PageFile). list_any (writes file.page) changes) files

-- its writer begins a write
pub noted_begun : (log : Option Log) (page : PageNo) (len : ℕ) (object : Option Seen) → is_as_noted log None object ≡ true
    → is_as_noted (option_map (λ (one : Log). record one { came = [] }) log) (Some (record { page = page; len = len; came = 0 }))
    (option_map (volume.begun page len) object) ≡ true
noted_begun log page len None so = refl
noted_begun log page len (Some seen) so = let parts = both (is_write None seen.write) (are_told None log seen.told) so in
    let write : Option OpenWrite = Some (record { page = page; len = len; came = 0 }) in
    and_of (is_write write write) (are_told write (option_map (λ (one : Log). record one { came = [] }) log)
    (option_map (λ (told : Told). record told { came = [] }) seen.told)) (write_same write) (by log seen.told parts.1)
  where
    by : (log : Option Log) (told : Option Told) → are_told None log told ≡ true
        → are_told (Some (record { page = page; len = len; came = 0 })) (option_map (λ (one : Log). record one { came = [] }) log)
        (option_map (λ (told : Told). record told { came = [] }) told) ≡ true
    by None None so = refl
    by None (Some told) so = absurd (cc so)
    by (Some log) None so = absurd (cc so)
    by (Some log) (Some told) so = and_of (written log.changes told.files) true (both (written log.changes told.files) true so).0 refl

-- bytes come to it
pub noted_longer : (log : Option Log) (bytes : List ℕ) (write : Option OpenWrite) (object : Option Seen) → is_as_noted log write object ≡ true
    → is_as_noted (option_map (λ (one : Log). record one { came = one.came ++ bytes }) log) (with_more (length bytes) write)
    (option_map (volume.longer bytes) object) ≡ true
noted_longer log bytes write None so = refl
noted_longer log bytes write (Some seen) so = let parts = both (is_write write seen.write) (are_told write log seen.told) so in
    let same = write_is write seen.write parts.0 in
    and_of (is_write (with_more (length bytes) write) (with_more (length bytes) seen.write))
    (are_told (with_more (length bytes) write) (option_map (λ (one : Log). record one { came = one.came ++ bytes }) log)
    (option_map (λ (told : Told). record told { came = told.came ++ bytes }) seen.told))
    (subst (λ (one : Option OpenWrite). is_write (with_more (length bytes) write) (with_more (length bytes) one) ≡ true) (sym same)
    (write_same (with_more (length bytes) write)))
    (by write log seen.told parts.1)
  where
    by : (write : Option OpenWrite) (log : Option Log) (told : Option Told) → are_told write log told ≡ true
        → are_told (with_more (length bytes) write) (option_map (λ (one : Log). record one { came = one.came ++ bytes }) log)
        (option_map (λ (told : Told). record told { came = told.came ++ bytes }) told) ≡ true
    by write None None so = refl
    by write None (Some told) so = absurd (cc so)
    by write (Some log) None so = absurd (cc so)
    by None (Some log) (Some told) so = so
    by (Some write) (Some log) (Some told) so =
        let parts = both (written log.changes told.files) (bytes_eq log.came told.came) so in
        and_of (written log.changes told.files) (bytes_eq (log.came ++ bytes) (told.came ++ bytes)) parts.0
        (same_bytes (log.came ++ bytes) (told.came ++ bytes) (ap (λ came. came ++ bytes) (bytes_same log.came told.came parts.1)))

-- a file more is of a page that was written
more_written : (changes : List Change) (change : Change) (files : List PageFile) (file : PageFile) → writes file.page change ≡ true → written changes files
    ≡ true → written (changes ++ change ∷ []) (files ++ file ∷ []) ≡ true
more_written changes change files file is so = all_append (λ (one : PageFile). list_any (writes one.page) (changes ++ change ∷ [])) files (file ∷ [])
    (all_weaker (λ (one : PageFile). list_any (writes one.page) changes) (λ (one : PageFile). list_any (writes one.page) (changes ++ change ∷ []))
    (λ one is. written_more one.page changes change is) files so)
    (and_of (list_any (writes file.page) (changes ++ change ∷ [])) true (written_now file.page changes change is) refl)

-- it ends well
pub noted_put : (log : Option Log) (page : PageNo) (write : Option OpenWrite) (object : Option Seen) → is_as_noted log write object ≡ true
    → is_as_noted (option_map (λ (log : Log). record { changes = log.changes ++ Put page log.came ∷ []; came = [] }) log) None
    (option_map (volume.put page.0) object) ≡ true
noted_put log page write None so = refl
noted_put log page write (Some seen) so = by log seen.told (both (is_write write seen.write) (are_told write log seen.told) so).1
  where
    by : (log : Option Log) (told : Option Told) → are_told write log told ≡ true
        → are_told None (option_map (λ (log : Log). record { changes = log.changes ++ Put page log.came ∷ []; came = [] }) log)
        (option_map (λ (told : Told). with_file (record { page = page.0; bytes = Some told.came }) told) told) ≡ true
    by None None so = refl
    by None (Some told) so = absurd (cc so)
    by (Some log) None so = absurd (cc so)
    by (Some log) (Some told) so =
        let parts = both (written log.changes told.files) (is_none write || bytes_eq log.came told.came) so in
        and_of (written (log.changes ++ Put page log.came ∷ []) (told.files ++ record { page = page.0; bytes = Some told.came } ∷ [])) true
        (more_written log.changes (Put page log.came) told.files (record { page = page.0; bytes = Some told.came }) (eq-eqb page.0 page.0 refl) parts.0) refl

-- it fails
pub noted_torn : (log : Option Log) (page : PageNo) (count : ℕ) (write : Option OpenWrite) (object : Option Seen) → is_as_noted log write object ≡ true
    → is_as_noted (option_map (λ (log : Log). record log { changes = log.changes ++ Torn page ∷ [] }) log) None
    (option_map (λ seen. volume.with_count count (volume.torn page.0 seen)) object) ≡ true
noted_torn log page count write None so = refl
noted_torn log page count write (Some seen) so = by log seen.told (both (is_write write seen.write) (are_told write log seen.told) so).1
  where
    by : (log : Option Log) (told : Option Told) → are_told write log told ≡ true
        → are_told None (option_map (λ (log : Log). record log { changes = log.changes ++ Torn page ∷ [] }) log)
        (option_map (with_file (record { page = page.0; bytes = None })) told) ≡ true
    by None None so = refl
    by None (Some told) so = absurd (cc so)
    by (Some log) None so = absurd (cc so)
    by (Some log) (Some told) so =
        let parts = both (written log.changes told.files) (is_none write || bytes_eq log.came told.came) so in
        and_of (written (log.changes ++ Torn page ∷ []) (told.files ++ record { page = page.0; bytes = None } ∷ [])) true
        (more_written log.changes (Torn page) told.files (record { page = page.0; bytes = None }) (eq-eqb page.0 page.0 refl) parts.0) refl

-- a file is removed
pub noted_removed : (log : Option Log) (page : ℕ) (object : Option Seen) → is_as_noted log None object ≡ true
    → is_as_noted log None (option_map (volume.removed page) object) ≡ true
noted_removed log page None so = refl
noted_removed log page (Some seen) so = let parts = both (is_write None seen.write) (are_told None log seen.told) so in
    and_of (is_write None seen.write) (are_told None log (option_map (λ (told : Told). record told { files = without page told.files }) seen.told)) parts.0
    (by log seen.told parts.1)
  where
    by : (log : Option Log) (told : Option Told) → are_told None log told ≡ true
        → are_told None log (option_map (λ (told : Told). record told { files = without page told.files }) told) ≡ true
    by None None so = refl
    by None (Some told) so = absurd (cc so)
    by (Some log) None so = absurd (cc so)
    by (Some log) (Some told) so =
        let parts = both (written log.changes told.files) true so in
        and_of (written log.changes (without page told.files)) true
        (all_filter (λ (file : PageFile). list_any (writes file.page) log.changes) (λ (file : PageFile). list_any (writes file.page) log.changes)
        (λ file. not (page == file.page)) (λ file kept is. is) told.files parts.0) refl
