-- The pages filed: what stands where, after one more and after one less.
use Rattle.std.proofs.Common.{◌≡◌, ℕ, zero, suc, ◌+◌, ◌==◌, ◌&&◌, ◌||◌, true, false, not, cond, List, [], ◌∷◌, ◌++◌, Some, None, Option, ◌≢◌, option_and_then, refl, sym, take, ap, ◌∙◌, subst}
use Rattle.std.specs.Prelude.{if◌then◌else◌, is_none, slice_get}
use Rattle.std.specs.Option.{option_map_or, option_or}
use Rattle.std.proofs.lemmas.Bool.{eq-eqb, eqb-true}
use Rattle.page_volumes.specs.declared.filed.Filed.{Filed}
use Rattle.page_volumes.specs.Group.{are_apart, has_files, home_of, is_at, place_of, unfiled}

-- no page is filed twice
abbrev pub Apart : List Filed → Type 0
Apart [] = Unit {0}
Apart (file ∷ files) = (home_of file.page.0 files ≡ None) × Apart files

pub apart_of : (files : List Filed) → are_apart files ≡ true → Apart files
apart_of [] is = tt
apart_of (file ∷ files) is = by (home_of file.page.0 files) (λ rest. apart_of files rest) is
  where
    by : (home : Option (Option ℕ)) → (are_apart files ≡ true → Apart files) → (is_none home && are_apart files) ≡ true → (home ≡ None) × Apart files
    by None more is = (refl, more is)
    by (Some home) more is = absurd (cc is)

pub are_apart_of : (files : List Filed) → Apart files → are_apart files ≡ true
are_apart_of [] so = refl
are_apart_of (file ∷ files) so = subst (λ home. (is_none home && are_apart files) ≡ true) (sym so.0) (are_apart_of files so.1)

-- a page that isn't filed is not taken out
pub unfiled_none : (page : ℕ) (files : List Filed) → home_of page files ≡ None → unfiled page files ≡ files
unfiled_none page [] none = refl
unfiled_none page (file ∷ files) none =
    (elim (page == file.page.0) as (λ r. (if r then Some file.home else home_of page files) ≡ None → cond (not r) (file ∷ unfiled page files)
    (unfiled page files) ≡ file ∷ files) [
      | true ↦ λ is. cc
      | false ↦ λ is. ap (λ rest. file ∷ rest) (unfiled_none page files is)
    ]) none

-- one that was taken out isn't filed
pub home_unfiled : (page : ℕ) (files : List Filed) → home_of page (unfiled page files) ≡ None
home_unfiled page [] = refl
home_unfiled page (file ∷ files) =
    (elim (page == file.page.0) as (λ r. (page == file.page.0) ≡ r → home_of page (cond (not r) (file ∷ unfiled page files) (unfiled page files)) ≡ None) [
      | true ↦ λ is. home_unfiled page files
      | false ↦ λ is. rw is (home_unfiled page files)
    ]) refl

-- another page stays where it is
pub other_unfiled : (page other : ℕ) (files : List Filed) → (other == page) ≡ false → home_of other (unfiled page files) ≡ home_of other files
other_unfiled page other [] apart = refl
other_unfiled page other (file ∷ files) apart =
    (elim (page == file.page.0) as (λ r. (page == file.page.0) ≡ r → home_of other (cond (not r) (file ∷ unfiled page files) (unfiled page files))
    ≡ home_of other (file ∷ files)) [
      | true ↦ λ is. let same : page ≡ file.page.0 = eqb-true page file.page.0 is in
          rw (ap (λ one. other == one) (sym same) ∙ apart) (other_unfiled page other files apart)
      | false ↦ λ is. ap (λ rest. if other == file.page.0 then Some file.home else rest) (other_unfiled page other files apart)
    ]) refl

still_none : (page other : ℕ) (files : List Filed) → home_of other files ≡ None → home_of other (unfiled page files) ≡ None
still_none page other files none = (elim (other == page) as (λ r. (other == page) ≡ r → home_of other (unfiled page files) ≡ None) [
  | true ↦ λ is. let same : other ≡ page = eqb-true other page is in subst (λ one. home_of one (unfiled page files) ≡ None) (sym same) (home_unfiled page files)
  | false ↦ λ is. other_unfiled page other files is ∙ none
]) refl

pub apart_unfiled : (page : ℕ) (files : List Filed) → Apart files → Apart (unfiled page files)
apart_unfiled page [] so = tt
apart_unfiled page (file ∷ files) so = (elim (page == file.page.0) as (λ r. Apart (cond (not r) (file ∷ unfiled page files) (unfiled page files))) [
  | true ↦ apart_unfiled page files so.1
  | false ↦ (still_none page file.page.0 files so.0, apart_unfiled page files so.1)
])

-- one page more
pub home_more : (page : ℕ) (files : List Filed) (file : Filed) → home_of page (files ++ file ∷ []) ≡ option_or (home_of page files) (home_of page (file ∷ []))
home_more page [] file = refl
home_more page (first ∷ files) file =
    (elim (page == first.page.0) as (λ r. (if r then Some first.home else home_of page (files ++ file ∷ []))
    ≡ option_or (if r then Some first.home else home_of page files) (home_of page (file ∷ []))) [
      | true ↦ refl
      | false ↦ home_more page files file
    ])

pub apart_more : (files : List Filed) (file : Filed) → Apart files → home_of file.page.0 files ≡ None → Apart (files ++ file ∷ [])
apart_more [] file so none = (refl, tt)
apart_more (first ∷ files) file so none =
    (elim (file.page.0 == first.page.0) as (λ r. (file.page.0 == first.page.0) ≡ r → (if r then Some first.home else home_of file.page.0 files) ≡ None
    → Apart (first ∷ files ++ file ∷ [])) [
      | true ↦ λ is none. absurd (cc none)
      | false ↦ λ is none. (home_more first.page.0 files file ∙ rw so.0 (rw (flip first.page.0 file.page.0 is) refl), apart_more files file so.1 none)
    ]) refl none
  where
    flip : (a b : ℕ) → (b == a) ≡ false → (a == b) ≡ false
    flip a b apart = (elim (a == b) as (λ r. (a == b) ≡ r → r ≡ false) [
      | true ↦ λ is. let same : a ≡ b = eqb-true a b is in subst (λ one. true ≡ one) (sym (eq-eqb b a (sym same)) ∙ apart) refl
      | false ↦ λ is. refl
    ]) refl

-- what stands at another place stands there still
pub stands_elsewhere : (page k : ℕ) (files : List Filed) → Apart files → place_of page files ≢ Some k → has_files k (unfiled page files) ≡ has_files k files
stands_elsewhere page k [] so other = refl
stands_elsewhere page k (file ∷ files) so other =
    (elim (page == file.page.0) as (λ r. (page == file.page.0) ≡ r → option_and_then (λ home. home) (if r then Some file.home else home_of page files) ≢ Some k
    → has_files k (cond (not r) (file ∷ unfiled page files) (unfiled page files)) ≡ has_files k (file ∷ files)) [
      | true ↦ λ is other. let none : home_of page files ≡ None = subst (λ one. home_of one files ≡ None) (sym (eqb-true page file.page.0 is)) so.0 in
          ap (has_files k) (unfiled_none page files none) ∙ sym (rw (away k file.home other) refl)
      | false ↦ λ is other. ap (λ more. is_at k file || more) (stands_elsewhere page k files so.1 other)
    ]) refl other
  where
    away : (k : ℕ) (home : Option ℕ) → home ≢ Some k → option_map_or (λ home. k == home) home false ≡ false
    away k None other = refl
    away k (Some home) other = (elim (k == home) as (λ r. (k == home) ≡ r → r ≡ false) [
      | true ↦ λ is. absurd (other (ap Some (sym (eqb-true k home is))))
      | false ↦ λ is. refl
    ]) refl

-- the first file of a page that comes
pub home_found : (page : ℕ) (files : List Filed) (i : ℕ) (file : Filed) → slice_get files i ≡ Some file → home_of page (take i files) ≡ None
    → (page == file.page.0) ≡ true → home_of page files ≡ Some file.home
home_found page [] i file there none is = cc
home_found page (first ∷ files) zero file there none is = let same : first ≡ file = cc in rw (same, is) refl
home_found page (first ∷ files) (suc i) file there none is =
    (elim (page == first.page.0) as (λ r. (if r then Some first.home else home_of page (take i files)) ≡ None
    → (if r then Some first.home else home_of page files) ≡ Some file.home) [
      | true ↦ λ none. absurd (cc none)
      | false ↦ λ none. home_found page files i file there none is
    ]) none

-- and one that isn't of it
pub home_not_found : (page : ℕ) (files : List Filed) (i : ℕ) (file : Filed) → slice_get files i ≡ Some file → home_of page (take i files) ≡ None
    → (page == file.page.0) ≡ false → home_of page (take (suc i) files) ≡ None
home_not_found page [] i file there none is = cc
home_not_found page (first ∷ files) zero file there none is = let same : first ≡ file = cc in rw (same, is) refl
home_not_found page (first ∷ files) (suc i) file there none is =
    (elim (page == first.page.0) as (λ r. (if r then Some first.home else home_of page (take i files)) ≡ None
    → (if r then Some first.home else home_of page (take (suc i) files)) ≡ None) [
      | true ↦ λ none. absurd (cc none)
      | false ↦ λ none. home_not_found page files i file there none is
    ]) none
