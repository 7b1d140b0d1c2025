-- The pages whose removal is to come.
use Rattle.std.proofs.Common.{◌≡◌, ℕ, ◌+◌, ◌-◌, ◌<◌, ◌==◌, ◌||◌, Bool, true, false, cond, List, [], ◌∷◌, ◌++◌, Some, None, Option, arith, length, refl, sym, ap, ◌∙◌, subst}
use Rattle.std.specs.Prelude.{IsSome, IsSomeAnd}
use Rattle.std.specs.Option.{option_map}
use Rattle.std.specs.List.{fold, list_any}
use Rattle.std.specs.Set.{remove_key}
use Rattle.std.proofs.lemmas.Bool.{eqb-true}
use Rattle.std.proofs.lemmas.Grind.{fold-append}
use Rattle.blob_words.specs.declared.number.PageNo.{PageNo}
use Rattle.page_disk.specs.declared.change.Change.{Change}
use Rattle.page_disk.specs.declared.change.Change.TheVariants.{Put, Torn, Remove, Left}
use Rattle.page_disk.specs.Changes.{removes, writes, OpenWrite, Stands}
use Rattle.page_disk.specs.Memory.{open_of, standing, standing_after, Write}

abbrev is_in : ℕ → List ℕ → Bool
is_in page pages = list_any (λ one. page == one) pages

length_by : (page first : ℕ) (pages : List ℕ) (r : Bool) → (page == first) ≡ r → (r || is_in page pages) ≡ true
    → (is_in page pages ≡ true → length (remove_key (λ one. page == one) pages) + 1 ≡ length pages)
    → length (cond r pages (first ∷ remove_key (λ one. page == one) pages)) + 1 ≡ length (first ∷ pages)
length_by page first pages true is there rest = omega arith
length_by page first pages false is there rest = let one = rest there in omega arith

-- one page fewer
length_without : (page : ℕ) (pages : List ℕ) → is_in page pages ≡ true → length (remove_key (λ one. page == one) pages) + 1 ≡ length pages
length_without page [] there = cc
length_without page (first ∷ pages) there = length_by page first pages (page == first) refl there (length_without page pages)

-- another page's removal leaves the page
stays : (page other : ℕ) (pages : List ℕ) → (page == other) ≡ false → is_in page (remove_key (λ one. other == one) pages) ≡ is_in page pages
stays page other [] apart = refl
stays page other (first ∷ pages) apart =
    (elim (other == first) as (λ r. (other == first) ≡ r → is_in page (cond r pages (first ∷ remove_key (λ one. other == one) pages))
    ≡ ((page == first) || is_in page pages)) [
      | true ↦ λ is. let same : other ≡ first = eqb-true other first is in rw (ap (λ one. page == one) (sym same) ∙ apart) refl
      | false ↦ λ is. ap (λ more. (page == first) || more) (stays page other pages apart)
    ]) refl

shuffle : (mem write more : Bool) → (mem || (write || more)) ≡ true → ((write || mem) || more) ≡ true
shuffle true true more is = refl
shuffle true false more is = refl
shuffle false true more is = refl
shuffle false false more is = is

first_of : (first more : Bool) → (first || more) ≡ false → first ≡ false
first_of true more none = none
first_of false more none = refl

rest_of : (first more : Bool) → (first || more) ≡ false → more ≡ false
rest_of true more none = cc
rest_of false more none = none

-- a page that stands or is written, and isn't removed, stands
stands_after : (page : ℕ) (pages : List ℕ) (changes : List Change) → (is_in page pages || list_any (writes page) changes) ≡ true → list_any (removes page)
    changes ≡ false → is_in page (fold standing_after pages changes) ≡ true
stands_after page pages [] there none = by (is_in page pages) there
  where
    by : (mem : Bool) → (mem || false) ≡ true → mem ≡ true
    by true is = refl
    by false is = is
stands_after page pages (Put one bytes ∷ changes) there none = stands_after page (one.0 ∷ pages) changes
    (shuffle (is_in page pages) (page == one.0) (list_any (writes page) changes) there) none
stands_after page pages (Torn one ∷ changes) there none = stands_after page (one.0 ∷ pages) changes
    (shuffle (is_in page pages) (page == one.0) (list_any (writes page) changes) there) none
stands_after page pages (Remove one ∷ changes) there none =
    let apart = first_of (page == one.0) (list_any (removes page) changes) none in
    let same = stays page one.0 pages apart in
    stands_after page (remove_key (λ other. one.0 == other) pages) changes (rw same there) (rest_of (page == one.0) (list_any (removes page) changes) none)
stands_after page pages (Left one ∷ changes) there none =
    let apart = first_of (page == one.0) (list_any (removes page) changes) none in
    let same = stays page one.0 pages apart in
    stands_after page (remove_key (λ other. one.0 == other) pages) changes (rw same there) (rest_of (page == one.0) (list_any (removes page) changes) none)

-- the removal of a page that stands leaves one page fewer
removed_by : (page : ℕ) (changes : List Change) (change : Change) → standing_after (standing changes) change ≡ remove_key (λ one. page == one)
    (standing changes) → Stands page changes → length (standing (changes ++ change ∷ [])) + 1 ≡ length (standing changes)
removed_by page changes change is stands =
    let there = stands_after page [] changes stands.0 stands.1 in
    let more = fold-append standing_after [] changes (change ∷ []) in
    rw (more ∙ is) (length_without page (standing changes) there)

-- a count with room for a removal
pub record Spares (page : ℕ) (changes : List Change) (change : Change) (spare : ℕ) : Type 0 where
  pub some : 0 < spare
  pub rest : spare - 1 ≡ length (standing (changes ++ change ∷ []))

spares : (page : ℕ) (changes : List Change) (change : Change) (spare : ℕ) → standing_after (standing changes) change ≡ remove_key (λ one. page == one)
    (standing changes) → Stands page changes → spare ≡ length (standing changes) → Spares page changes change spare
spares page changes change spare is stands counted =
    let fewer = removed_by page changes change is stands in
    record { some = omega (arith, fewer, counted); rest = omega (arith, fewer, counted) }

pub removed_spares : (page : PageNo) (changes : List Change) (spare : ℕ) → Stands page.0 changes → spare ≡ length (standing changes)
    → Spares page.0 changes (Remove page) spare
removed_spares page changes spare stands counted = spares page.0 changes (Remove page) spare refl stands counted

pub left_spares : (page : PageNo) (changes : List Change) (spare : ℕ) → Stands page.0 changes → spare ≡ length (standing changes)
    → Spares page.0 changes (Left page) spare
left_spares page changes spare stands counted = spares page.0 changes (Left page) spare refl stands counted

-- a closed disk has no write
pub closed_write : (write : Option Write) → option_map open_of write ≡ None → write ≡ None
closed_write None closed = refl
closed_write (Some write) closed = cc

-- an open one has
pub open_write : (P : OpenWrite → Type 0) (write : Option Write) → IsSomeAnd (option_map open_of write) P → IsSome write
open_write P None is = absurd is
open_write P (Some write) is = refl

-- and what is said of it holds of its write
pub open_so : (P : OpenWrite → Type 0) (one : Write) (write : Option Write) → write ≡ Some one → IsSomeAnd (option_map open_of write) P → P (open_of one)
open_so P one None there is = absurd is
open_so P one (Some write) there is = let same : write ≡ one = cc in subst (λ (write : Write). P (open_of write)) same is
