-- Page files in memory, as a volume tells them.
use Rattle.std.proofs.Common.{◌≡◌, ℕ, zero, suc, ◌==◌, true, false, not, cond, List, [], ◌∷◌, Some, None, Option, map, option_and_then, take, refl, ap}
use Rattle.std.specs.Prelude.{if◌then◌else◌, filter, slice_get, IsSomeAnd}
use Rattle.page_volumes.specs.declared.stored.Stored.{Stored}
use Rattle.page_volumes.specs.Seen.{file_of, without}
use Rattle.page_volumes.specs.Shelf.{page_file}

-- the first file of a page that comes
pub file_found : (page : ℕ) (files : List Stored) (i : ℕ) (file : Stored) → slice_get files i ≡ Some file → file_of page (map page_file (take i files)) ≡ None
    → (page == file.page.0) ≡ true → file_of page (map page_file files) ≡ Some file.bytes
file_found page [] i file there none is = cc
file_found page (first ∷ files) zero file there none is = let same : first ≡ file = cc in rw (same, is) refl
file_found page (first ∷ files) (suc i) file there none is =
    (elim (page == first.page.0) as (λ r. (if r then Some first.bytes else file_of page (map page_file (take i files))) ≡ None
    → (if r then Some first.bytes else file_of page (map page_file files)) ≡ Some file.bytes) [
      | true ↦ λ none. absurd (cc none)
      | false ↦ λ none. file_found page files i file there none is
    ]) none

-- and one that isn't of it
pub file_not_found : (page : ℕ) (files : List Stored) (i : ℕ) (file : Stored) → slice_get files i ≡ Some file → file_of page (map page_file (take i files))
    ≡ None → (page == file.page.0) ≡ false → file_of page (map page_file (take (suc i) files)) ≡ None
file_not_found page [] i file there none is = cc
file_not_found page (first ∷ files) zero file there none is = let same : first ≡ file = cc in rw (same, is) refl
file_not_found page (first ∷ files) (suc i) file there none is =
    (elim (page == first.page.0) as (λ r. (if r then Some first.bytes else file_of page (map page_file (take i files))) ≡ None
    → (if r then Some first.bytes else file_of page (map page_file (take (suc i) files))) ≡ None) [
      | true ↦ λ none. absurd (cc none)
      | false ↦ λ none. file_not_found page files i file there none is
    ]) none

-- one that is taken out
pub map_without : (page : ℕ) (files : List Stored) → map page_file (filter (λ (file : Stored). not (page == file.page.0)) files)
    ≡ without page (map page_file files)
map_without page [] = refl
map_without page (file ∷ files) =
    (elim (page == file.page.0) as (λ r. map page_file (cond (not r) (file ∷ filter (λ (file : Stored). not (page == file.page.0)) files)
    (filter (λ (file : Stored). not (page == file.page.0)) files)) ≡ cond (not r) (page_file file ∷ without page (map page_file files))
    (without page (map page_file files))) [
      | true ↦ map_without page files
      | false ↦ ap (λ rest. page_file file ∷ rest) (map_without page files)
    ])

-- what is said of the bytes of a file
pub joined : (P : List ℕ → Type 0) (found : Option (Option (List ℕ))) → IsSomeAnd found (λ whole. IsSomeAnd whole P)
    → IsSomeAnd (option_and_then (λ whole. whole) found) P
joined P None is = absurd is
joined P (Some whole) is = is

pub parted : (P : List ℕ → Type 0) (found : Option (Option (List ℕ))) → IsSomeAnd (option_and_then (λ whole. whole) found) P
    → IsSomeAnd found (λ whole. IsSomeAnd whole P)
parted P None is = absurd is
parted P (Some whole) is = is
