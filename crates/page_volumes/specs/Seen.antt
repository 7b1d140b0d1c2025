-- What a volume of page files is seen as, and what its calls make of it. Own.
use Rattle.std.specs.Prelude.{ℕ, ◌≡◌, ◌+◌, ◌≤◌, ◌==◌, ◌&&◌, not, Bool, true, false, List, [], ◌∷◌, ◌++◌, drop, filter, if◌then◌else◌, is_none, length, take, Option, Some, None, Result, Ok, Err, IfSome, IsSome, IsSomeAnd}
use Rattle.std.specs.Option.{option_map, option_map_or}
use Rattle.blob_words.specs.declared.fault.Failed.{Failed}
use Rattle.blob_words.specs.declared.number.PageNo.{PageNo}
use Rattle.blob_source.specs.Faults.{Rose}
use Rattle.page_disk.specs.Changes.{with_more, OpenWrite}
use Rattle.page_disk.specs.declared.fault.PutFault.{PutFault}
use Rattle.page_disk.specs.declared.fault.PutFault.TheVariants as faults

-- a page file: its page, and its bytes, or none where its write failed
pub record PageFile : Type 0 where
  pub page : ℕ
  pub bytes : Option (List ℕ)

-- what a volume tells: the files that stand, and the bytes that came to the open write
pub record Told : Type 0 where
  pub files : List PageFile
  pub came : List ℕ

-- a volume: its open write, what it tells, where it tells anything, and how many of its calls failed
pub record Seen : Type 0 where
  pub write : Option OpenWrite
  pub told : Option Told
  pub faults : ℕ

-- the file of a page
abbrev pub file_of : ℕ → List PageFile → Option (Option (List ℕ))
file_of page [] = None
file_of page (file ∷ files) = if page == file.page then Some file.bytes else file_of page files

-- what is told of the file of a page
abbrev pub told_of : ℕ → Seen → Option (Option (Option (List ℕ)))
told_of page seen = option_map (λ (told : Told). file_of page told.files) seen.told

-- no file of the page stands, as far as the volume tells
abbrev pub HasNone : ℕ → Seen → Type 0
HasNone page seen = IfSome (told_of page seen) (λ file. file ≡ None)

-- a file of it stands
abbrev pub HasFile : ℕ → Seen → Type 0
HasFile page seen = IfSome (told_of page seen) (λ file. IsSome file)

-- the page's file stands, isn't torn and has these bytes
abbrev pub HasBytes : ℕ → ℕ → ℕ → Seen → Type 0
HasBytes page off len seen = IfSome (told_of page seen) (λ file. IsSomeAnd file (λ whole. IsSomeAnd whole (λ bytes. off + len ≤ length bytes)))

-- bytes are those of the page's file from an offset on
abbrev pub AreOf : ℕ → ℕ → List ℕ → Seen → Type 0
AreOf page off out seen = IfSome (told_of page seen) (λ file. IsSomeAnd file (λ whole. IsSomeAnd whole (λ bytes. out ≡ take (length out) (drop off bytes))))

-- the page of an open write
abbrev pub open_page : Option OpenWrite → ℕ
open_page write = option_map_or (λ (one : OpenWrite). one.page.0) write 0

-- whether there are no files
abbrev pub are_none : List PageFile → Bool
are_none [] = true
are_none (file ∷ files) = false

-- whether a volume without an open write tells its files, of which there are none, or, as is asked, tells nothing
abbrev pub is_fresh : Bool → Seen → Bool
is_fresh is_telling seen = is_none seen.write && option_map_or (λ (told : Told). is_telling && are_none told.files) seen.told (not is_telling)

-- one file more, after which no write is open
abbrev pub with_file : PageFile → Told → Told
with_file file told = record { files = told.files ++ file ∷ []; came = [] }

-- a volume with another count
abbrev pub with_count : ℕ → Seen → Seen
with_count count seen = record seen { faults = count }

-- a write was begun
abbrev pub begun : PageNo → ℕ → Seen → Seen
begun page len seen = record seen {
  write = Some (record { page = page; len = len; came = 0 });
  told = option_map (λ (told : Told). record told { came = [] })
      seen.told;
}

-- bytes came to the open write
abbrev pub longer : List ℕ → Seen → Seen
longer bytes seen = record seen {
  write = with_more (length bytes) seen.write;
  told = option_map (λ (told : Told). record told { came = told.came ++ bytes })
      seen.told;
}

-- the open write, of this page, ended well
abbrev pub put : ℕ → Seen → Seen
put page seen = record seen { write = None; told = option_map (λ (told : Told). with_file (record { page = page; bytes = Some told.came }) told) seen.told }

-- the write of a page failed
abbrev pub torn : ℕ → Seen → Seen
torn page seen = record seen { write = None; told = option_map (with_file (record { page = page; bytes = None })) seen.told }

-- the files but those of a page
abbrev pub without : ℕ → List PageFile → List PageFile
without page files = filter (λ file. not (page == file.page)) files

-- the file of a page was removed
abbrev pub removed : ℕ → Seen → Seen
removed page seen = record seen { told = option_map (λ (told : Told). record told { files = without page told.files }) seen.told }

-- a call failed: it was seen so, but for the count, which rose
abbrev pub Fails : Seen → Seen → Seen → Type 0
Fails after old new = (new ≡ with_count new.faults after) × Rose old.faults new.faults

-- how `begin` ends
abbrev pub Begins : PageNo → ℕ → Seen → Result (Unit {0}) PutFault → Seen → Type 0
Begins page len old (Ok done) new = new ≡ begun page len old
Begins page len old (Err faults.Failed) new = Fails (torn page.0 old) old new
Begins page len old (Err faults.NoMemory) new = new ≡ old

-- how `append` ends
abbrev pub Appends : List ℕ → Seen → Result (Unit {0}) Failed → Seen → Type 0
Appends bytes old (Ok done) new = new ≡ longer bytes old
Appends bytes old (Err failed) new = Fails (torn (open_page old.write) old) old new

-- how `seal` ends
abbrev pub Seals : Seen → Result (Unit {0}) Failed → Seen → Type 0
Seals old (Ok done) new = new ≡ put (open_page old.write) old
Seals old (Err failed) new = Fails (torn (open_page old.write) old) old new

-- how `get` ends
abbrev pub Gets : ℕ → ℕ → Seen → Result (Unit {0}) Failed → List ℕ → Seen → Type 0
Gets page off old (Ok done) out new = (new ≡ old) × AreOf page off out old
Gets page off old (Err failed) out new = Fails old old new

-- how `remove` ends
abbrev pub Removes : ℕ → Seen → Result (Unit {0}) Failed → Seen → Type 0
Removes page old (Ok done) new = new ≡ removed page old
Removes page old (Err failed) new = Fails old old new
