-- The room that is kept, as calls use it.
use Rattle.std.proofs.Common.{◌≡◌, ℕ, suc, ◌+◌, ◌-◌, ◌<◌, ◌≤◌, ◌==◌, true, false, not, cond, List, [], ◌∷◌, ◌++◌, Some, None, Option, arith, length, length-append, ap, ◌∙◌}
use Rattle.std.specs.Prelude.{if◌then◌else◌, IfSome, IsSome}
use Rattle.std.specs.Option.{option_map}
use Rattle.blob_words.specs.declared.number.PageNo.{PageNo}
use Rattle.page_disk.specs.declared.change.Change.{Change}
use Rattle.page_volumes.specs.declared.filed.Filed.{Filed}
use Rattle.page_volumes.specs.declared.writing.Writing.{Writing}
use Rattle.page_volumes.specs.Group.{home_of, unfiled}
use Rattle.page_volumes.specs.Kept.{noted, sealed, started, taken, Book, CanFile, CanRemove, HasRoom, Kept}

-- a write begins
pub room_begun : (page : PageNo) (len : ℕ) (files after : Book) (log : Option Kept) → CanFile len files log → length after.filed ≤ length files.filed
    → after.spare ≡ files.spare
    → HasRoom after (Some (record { page = page; len = len; came = 0 })) (option_map started log)
room_begun page len files after log so fewer spare = let some : 0 < after.spare = omega (arith, so.0, spare) in ((some, by log so.1), rest log so.1)
  where
    by : (log : Option Kept) → IfSome log (λ (log : Kept). (length files.filed + 2 ≤ log.spare) × (len ≤ log.incoming.room)) → IfSome (option_map started log)
        (λ (log : Kept). (length after.filed + 2 ≤ log.spare) × (len ≤ 0 + log.incoming.room))
    by None so = tt
    by (Some log) so = (omega (arith, so.0, fewer), omega (arith, so.1))

    rest : (log : Option Kept) → IfSome log (λ (log : Kept). (length files.filed + 2 ≤ log.spare) × (len ≤ log.incoming.room))
        → CanRemove after (option_map started log)
    rest None so = tt
    rest (Some log) so = omega (arith, so.0, fewer)

-- or fails
pub file_less : (len : ℕ) (files after : Book) (log : Option Kept) → CanFile len files log → length after.filed ≤ length files.filed → after.spare ≡ files.spare
    → CanFile 0 after log
file_less len files after log so fewer spare = (omega (arith, so.0, spare), by log so.1)
  where
    by : (log : Option Kept) → IfSome log (λ (log : Kept). (length files.filed + 2 ≤ log.spare) × (len ≤ log.incoming.room))
        → IfSome log (λ (log : Kept). (length after.filed + 2 ≤ log.spare) × (0 ≤ log.incoming.room))
    by None so = tt
    by (Some log) so = (omega (arith, so.0, fewer), omega arith)

pub file_open : (files : Book) (write : Writing) (log : Option Kept) → HasRoom files (Some write) log → CanFile 0 files log
file_open files write log so = (so.0.0, by log so.0.1)
  where
    by : (log : Option Kept) → IfSome log (λ (log : Kept). (length files.filed + 2 ≤ log.spare) × (write.len ≤ write.came + log.incoming.room))
        → IfSome log (λ (log : Kept). (length files.filed + 2 ≤ log.spare) × (0 ≤ log.incoming.room))
    by None so = tt
    by (Some log) so = (so.0, omega arith)

-- bytes come to it
pub fits_taken : (files : Book) (write : Writing) (log : Option Kept) (count : ℕ) → HasRoom files (Some write) log → write.came + count ≤ write.len
    → IfSome log (λ (log : Kept). count ≤ log.incoming.room)
fits_taken files write log count so fits = by log so.0.1
  where
    by : (log : Option Kept) → IfSome log (λ (log : Kept). (length files.filed + 2 ≤ log.spare) × (write.len ≤ write.came + log.incoming.room))
        → IfSome log (λ (log : Kept). count ≤ log.incoming.room)
    by None so = tt
    by (Some log) so = omega (arith, so.1, fits)

pub room_taken : (files : Book) (write : Writing) (log : Option Kept) (bytes : List ℕ) → HasRoom files (Some write) log → write.came + length bytes ≤ write.len
    → HasRoom files (Some (record write { came = write.came + length bytes })) (option_map (taken bytes) log)
room_taken files write log bytes so fits = ((so.0.0, by log so.0.1), rest log so.1)
  where
    by : (log : Option Kept) → IfSome log (λ (log : Kept). (length files.filed + 2 ≤ log.spare) × (write.len ≤ write.came + log.incoming.room))
        → IfSome (option_map (taken bytes) log) (λ (log : Kept). (length files.filed + 2 ≤ log.spare)
        × (write.len ≤ write.came + length bytes + log.incoming.room))
    by None so = tt
    by (Some log) so = (so.0, omega (arith, so.1, fits))

    rest : (log : Option Kept) → CanRemove files log → CanRemove files (option_map (taken bytes) log)
    rest None so = tt
    rest (Some log) so = so

-- a file more
more_length : (files : List Filed) (file : Filed) → length (files ++ file ∷ []) ≡ length files + 1
more_length files file = length-append files (file ∷ [])

pub some_spare : (files : Book) (log : Option Kept) → CanFile 0 files log → IfSome log (λ (log : Kept). 0 < log.spare)
some_spare files None so = tt
some_spare files (Some log) so = let one = so.1.0 in omega (arith, one)

pub room_noted : (change : Change) (file : Filed) (files after : Book) (log : Option Kept) → CanFile 0 files log → after.filed ≡ files.filed ++ file ∷ []
    → CanRemove after (option_map (noted change) log)
room_noted change file files after log so is = by log so.1
  where
    long : length after.filed ≡ length files.filed + 1
    long = ap (λ (filed : List Filed). length filed) is ∙ more_length files.filed file

    by : (log : Option Kept) → IfSome log (λ (log : Kept). (length files.filed + 2 ≤ log.spare) × (0 ≤ log.incoming.room))
        → CanRemove after (option_map (noted change) log)
    by None so = tt
    by (Some log) so = omega (arith, so.0, long)

pub room_sealed : (page : PageNo) (file : Filed) (files after : Book) (log : Option Kept) → CanFile 0 files log → after.filed ≡ files.filed ++ file ∷ []
    → HasRoom after None (option_map (sealed page) log)
room_sealed page file files after log so is = (tt, by log so.1)
  where
    long : length after.filed ≡ length files.filed + 1
    long = ap (λ (filed : List Filed). length filed) is ∙ more_length files.filed file

    by : (log : Option Kept) → IfSome log (λ (log : Kept). (length files.filed + 2 ≤ log.spare) × (0 ≤ log.incoming.room))
        → CanRemove after (option_map (sealed page) log)
    by None so = tt
    by (Some log) so = omega (arith, so.0, long)

-- a file fewer
unfiled_le : (page : ℕ) (files : List Filed) → length (unfiled page files) ≤ length files
unfiled_le page [] = omega arith
unfiled_le page (file ∷ files) =
    (elim (page == file.page.0) as (λ r. length (cond (not r) (file ∷ unfiled page files) (unfiled page files)) ≤ suc (length files)) [
      | true ↦ let rest = unfiled_le page files in omega (arith, rest)
      | false ↦ let rest = unfiled_le page files in omega (arith, rest)
    ])

fewer : (page : ℕ) (files : List Filed) → IsSome (home_of page files) → length (unfiled page files) + 1 ≤ length files
fewer page [] some = cc some
fewer page (file ∷ files) some =
    (elim (page == file.page.0) as (λ r. IsSome (if r then Some file.home else home_of page files)
    → length (cond (not r) (file ∷ unfiled page files) (unfiled page files)) + 1 ≤ suc (length files)) [
      | true ↦ λ some. let rest = unfiled_le page files in omega (arith, rest)
      | false ↦ λ some. let rest = fewer page files some in omega (arith, rest)
    ]) some

pub spare_filed : (page : ℕ) (files : Book) (log : Option Kept) → IsSome (home_of page files.filed) → CanRemove files log
    → IfSome log (λ (log : Kept). 0 < log.spare)
spare_filed page files None some so = tt
spare_filed page files (Some log) some so = let less = fewer page files.filed some in omega (arith, so, less)

pub room_less : (page : ℕ) (change : Change) (files after : Book) (log : Option Kept) → IsSome (home_of page files.filed) → after.filed
    ≡ unfiled page files.filed → CanRemove files log → CanRemove after (option_map (noted change) log)
room_less page change files after None some is so = tt
room_less page change files after (Some log) some is so =
    let less = fewer page files.filed some in
    let long : length after.filed ≡ length (unfiled page files.filed) = ap (λ (filed : List Filed). length filed) is in
    omega (arith, so, less, long)
