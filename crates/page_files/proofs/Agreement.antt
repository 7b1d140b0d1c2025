-- The pages not asked for, and what a disk tells of them.
use Rattle.std.proofs.Common.{◌≡◌, ◌≢◌, ℕ, ◌<◌, ◌≤◌, ◌==◌, ◌&&◌, ◌||◌, Bool, true, false, not, List, [], ◌∷◌, ◌++◌, zero, suc, Some, None, Option, length, set, refl, sym, ap, ◌∙◌, arith, inl, inr, ◌⊎◌}
use Rattle.std.specs.Prelude.{IfSome}
use Rattle.std.specs.List.{list_any}
use Rattle.std.proofs.lemmas.Bool.{eqb-true, eqb-false, ne_eqb, cases_lt}
use Rattle.std.proofs.lemmas.List.{get_or-set_other, get_or-set_same, length-append, length-set}
use Rattle.std.proofs.Math.Seq.{set_out}
use Rattle.std.proofs.lemmas.List.Folds.{list_any-append}
use Rattle.blob_words.specs.declared.number.PieceNo.{PieceNo}
use Rattle.page_disk.specs.declared.change.Change.{Change}
use Rattle.page_disk.specs.declared.change.Change.TheVariants.{Put, Torn, Remove, Left}
use Rattle.page_disk.specs.Changes.{removes, with_change, writes, IsNew, Stands}
use Rattle.page_files.specs.declared.page.Page.{Page}
use Rattle.page_files.specs.declared.page.Page.TheVariants.{Torn, Whole, Asked}
use Rattle.page_files.specs.Pages.{is_unasked, page_at, released, released_at}
use Rattle.page_files.specs.Files.{is_named, is_standing, page_no, removal, Agrees}

first_false : (a b : Bool) → (a || b) ≡ false → a ≡ false
first_false true b is = is
first_false false b is = refl

second_false : (a b : Bool) → (a || b) ≡ false → b ≡ false
second_false true b is = cc
second_false false b is = is

-- a new page leaves the others
other_page : (pages : List Page) (page : Page) (number : ℕ) → number ≢ length pages → page_at (pages ++ page ∷ []) number ≡ page_at pages number
other_page [] page zero apart = absurd (apart refl)
other_page [] page (suc number) apart = refl
other_page (first ∷ pages) page zero apart = refl
other_page (first ∷ pages) page (suc number) apart = other_page pages page number (λ same. apart (ap suc same))

last_page : (pages : List Page) (page : Page) → page_at (pages ++ page ∷ []) (length pages) ≡ page
last_page [] page = refl
last_page (first ∷ pages) page = last_page pages page

-- whether something is so after one change more
any_more : (p : Change → Bool) (changes : List Change) (change : Change) (r : Bool) → p change ≡ r → list_any p (changes ++ change ∷ [])
    ≡ (list_any p changes || (r || false))
any_more p changes change r is = list_any-append p changes (change ∷ []) ∙ ap (λ one. list_any p changes || (one || false)) is

same_bools : (w r : Bool) → ((w || (false || false)) && not (r || (false || false))) ≡ (w && not r)
same_bools true true = refl
same_bools true false = refl
same_bools false true = refl
same_bools false false = refl

same_names : (w r : Bool) → ((w || (false || false)) || (r || (false || false))) ≡ (w || r)
same_names true true = refl
same_names true false = refl
same_names false true = refl
same_names false false = refl

write_stands : (w r : Bool) → r ≡ false → ((w || (true || false)) && not (r || (false || false))) ≡ true
write_stands true true is = cc
write_stands true false is = refl
write_stands false true is = cc
write_stands false false is = refl

removed_falls : (w r : Bool) → ((w || (false || false)) && not (r || (true || false))) ≡ false
removed_falls true true = refl
removed_falls true false = refl
removed_falls false true = refl
removed_falls false false = refl

module _ (changes : List Change) (change : Change) (number : ℕ) (w r : Bool) (writes_it : writes number change ≡ w) (removes_it : removes number change ≡ r)
  where
    standing_more : is_standing number (changes ++ change ∷ []) ≡ ((list_any (writes number) changes || (w || false))
        && not (list_any (removes number) changes || (r || false)))
    standing_more = rw (any_more (writes number) changes change w writes_it, any_more (removes number) changes change r removes_it) refl

    named_more : is_named number (changes ++ change ∷ []) ≡ ((list_any (writes number) changes || (w || false))
        || (list_any (removes number) changes || (r || false)))
    named_more = rw (any_more (writes number) changes change w writes_it, any_more (removes number) changes change r removes_it) refl

-- the change of another page
module _ (changes : List Change) (change : Change) (number : ℕ) (writes_it : writes number change ≡ false) (removes_it : removes number change ≡ false) where
  standing_other : is_standing number (changes ++ change ∷ []) ≡ is_standing number changes
  standing_other = standing_more changes change number false false writes_it removes_it ∙ same_bools (list_any (writes number) changes)
      (list_any (removes number) changes)

  named_other : is_named number (changes ++ change ∷ []) ≡ is_named number changes
  named_other = named_more changes change number false false writes_it removes_it ∙ same_names (list_any (writes number) changes)
      (list_any (removes number) changes)

module _ (pages : List Page) (changes : List Change) (so : Agrees pages changes) where
  -- a page more, which was put or torn
  module _ (page : Page) (change : Change) (unasked : is_unasked page ≡ true) (written : (number : ℕ) → writes number change ≡ (number == length pages))
      (none : (number : ℕ) → removes number change ≡ false) where
    written_at : (number : ℕ) (r : Bool) → (number == length pages) ≡ r → is_standing number (changes ++ change ∷ [])
        ≡ is_unasked (page_at (pages ++ page ∷ []) number)
    written_at number true is =
        let same : number ≡ length pages = eqb-true number (length pages) is in
        let new = second_false (list_any (writes number) changes) (list_any (removes number) changes) (so.above number (omega (arith, same))) in
        standing_more changes change number true false (written number ∙ is) (none number) ∙ write_stands (list_any (writes number) changes)
        (list_any (removes number) changes) new
        ∙ sym (ap (λ n. is_unasked (page_at (pages ++ page ∷ []) n)) same ∙ ap is_unasked (last_page pages page) ∙ unasked)
    written_at number false is =
        standing_other changes change number (written number ∙ is) (none number) ∙ so.standing number
        ∙ sym (ap is_unasked (other_page pages page number (eqb-false number (length pages) is)))

    pub agrees_written : Agrees (pages ++ page ∷ []) (changes ++ change ∷ [])
    agrees_written = record {
      standing = λ number. written_at number (number == length pages) refl;
      above = λ number past.
          let apart : length pages < number = omega (arith, past, length-append pages (page ∷ [])) in
          named_other changes change number (written number ∙ ne_eqb number (length pages) (λ same. omega (arith, apart, same))) (none number) ∙ so.above number
          (omega (arith, apart));
    }

  -- the page's removal was asked for
  module _ (page : ℕ) (change : Change) (inside : page < length pages) (none : (number : ℕ) → writes number change ≡ false)
      (removed : (number : ℕ) → removes number change ≡ (number == page)) where
    removed_at : (number : ℕ) (r : Bool) → (number == page) ≡ r → is_standing number (changes ++ change ∷ [])
        ≡ is_unasked (page_at (set pages page Asked) number)
    removed_at number true is =
        let same : number ≡ page = eqb-true number page is in
        standing_more changes change number false true (none number) (removed number ∙ is) ∙ removed_falls (list_any (writes number) changes)
        (list_any (removes number) changes)
        ∙ sym (ap (λ n. is_unasked (page_at (set pages page Asked) n)) same ∙ ap is_unasked (get_or-set_same pages page Asked Asked inside))
    removed_at number false is =
        standing_other changes change number (none number) (removed number ∙ is) ∙ so.standing number
        ∙ sym (ap is_unasked (get_or-set_other pages page number Asked Asked (eqb-false number page is)))

    pub agrees_asked : Agrees (set pages page Asked) (changes ++ change ∷ [])
    agrees_asked = record {
      standing = λ number. removed_at number (number == page) refl;
      above = λ number past.
          let far : length pages ≤ number = omega (arith, past, length-set pages page Asked) in
          named_other changes change number (none number) (removed number ∙ ne_eqb number page (λ same. omega (arith, far, inside, same))) ∙ so.above number
          far;
    }

  pub next_is_new : IsNew (length pages) changes
  next_is_new = first_false (list_any (writes (length pages)) changes) (list_any (removes (length pages)) changes) (so.above (length pages) (omega arith))

  pub unasked_stands : (page : ℕ) → is_unasked (page_at pages page) ≡ true → Stands page changes
  unasked_stands page is = both (list_any (writes page) changes) (list_any (removes page) changes) (so.standing page ∙ is)
    where
      both : (w r : Bool) → (w && not r) ≡ true → (w ≡ true) × (r ≡ false)
      both true true is = cc
      both true false is = (refl, refl)
      both false r is = cc

-- the same where the disk may not tell
pub told_put : (told : Option (List Change)) (pages : List Page) (page : Page) (bytes : List ℕ) → is_unasked page ≡ true → IfSome told (Agrees pages)
    → IfSome (with_change (Put (page_no (length pages)) bytes) told) (Agrees (pages ++ page ∷ []))
told_put None pages page bytes unasked so = tt
told_put (Some changes) pages page bytes unasked so = agrees_written pages changes so page (Put (page_no (length pages)) bytes) unasked (λ number. refl)
    (λ number. refl)

pub told_torn : (told : Option (List Change)) (pages : List Page) (page : Page) → is_unasked page ≡ true → IfSome told (Agrees pages)
    → IfSome (with_change (Torn (page_no (length pages))) told) (Agrees (pages ++ page ∷ []))
told_torn None pages page unasked so = tt
told_torn (Some changes) pages page unasked so = agrees_written pages changes so page (Torn (page_no (length pages))) unasked (λ number. refl) (λ number. refl)

pub told_asked : (told : Option (List Change)) (pages : List Page) (page : ℕ) (goes : Bool) → page < length pages → IfSome told (Agrees pages)
    → IfSome (with_change (removal page goes) told) (Agrees (set pages page Asked))
told_asked None pages page goes inside so = tt
told_asked (Some changes) pages page true inside so = agrees_asked pages changes so page (Remove (page_no page)) inside (λ number. refl) (λ number. refl)
told_asked (Some changes) pages page false inside so = agrees_asked pages changes so page (Left (page_no page)) inside (λ number. refl) (λ number. refl)

pub told_new : (told : Option (List Change)) (pages : List Page) → IfSome told (Agrees pages) → IfSome told (IsNew (length pages))
told_new None pages so = tt
told_new (Some changes) pages so = next_is_new pages changes so

pub told_stands : (told : Option (List Change)) (pages : List Page) (page : ℕ) → is_unasked (page_at pages page) ≡ true → IfSome told (Agrees pages)
    → IfSome told (Stands page)
told_stands None pages page is so = tt
told_stands (Some changes) pages page is so = unasked_stands pages changes so page is

-- a page not asked for has a number that was used
pub unasked_inside : (pages : List Page) (page : ℕ) → is_unasked (page_at pages page) ≡ true → page < length pages
unasked_inside [] page is = cc
unasked_inside (first ∷ pages) zero is = omega arith
unasked_inside (first ∷ pages) (suc page) is = let less = unasked_inside pages page is in omega (arith, less)

released_unasked : (piece : PieceNo) (page : Page) → is_unasked (released piece page) ≡ is_unasked page
released_unasked piece Torn = refl
released_unasked piece (Whole size pieces) = refl
released_unasked piece Asked = refl

released_page : (number : ℕ) (piece : PieceNo) (pages : List Page) (other : ℕ) (r : Bool) → (other == number) ≡ r
    → is_unasked (page_at (released_at number piece pages) other) ≡ is_unasked (page_at pages other)
released_page number piece pages other true is = by (cases_lt number (length pages))
  where
    same : other ≡ number
    same = eqb-true other number is

    by : (number < length pages) ⊎ (length pages ≤ number) → is_unasked (page_at (released_at number piece pages) other) ≡ is_unasked (page_at pages other)
    by (inl inside) = rw same (ap is_unasked (get_or-set_same pages number (released piece (page_at pages number)) Asked inside) ∙ released_unasked piece
        (page_at pages number))
    by (inr past) = rw (set_out pages number (released piece (page_at pages number)) past) refl
released_page number piece pages other false is = ap is_unasked (get_or-set_other pages number other (released piece (page_at pages number)) Asked
    (eqb-false other number is))

-- a piece fewer changes nothing that the disk tells of
pub agrees_released : (number : ℕ) (piece : PieceNo) (pages : List Page) (changes : List Change) → Agrees pages changes
    → Agrees (released_at number piece pages) changes
agrees_released number piece pages changes so = record {
  standing = λ other. so.standing other ∙ sym (released_page number piece pages other (other == number) refl);
  above = λ other past. so.above other (omega (arith, past, length-set pages number (released piece (page_at pages number))));
}
