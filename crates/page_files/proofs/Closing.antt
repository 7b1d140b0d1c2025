-- The removal of all pages not asked for, one by one.
use Rattle.std.proofs.Common.{◌≡◌, ℕ, ◌+◌, ◌<◌, ◌≤◌, Bool, true, false, cond, not, is_some, List, [], ◌∷◌, ◌++◌, zero, suc, Some, None, Option, length, get_or, set, take, drop, inl, inr, refl, sym, ap, ◌∙◌, arith, append_assoc}
use Rattle.std.specs.Prelude.{IfSome}
use Rattle.std.specs.Option.{option_map, option_map_or}
use Rattle.std.specs.List.{count_by}
use Rattle.std.proofs.Math.Seq.{set-get_or}
use Rattle.std.proofs.lemmas.List.{append-nil, get_or-append-add, get_or-drop, length-append, length-drop, length-map, length-take-le, take_more}
use Rattle.std.proofs.lemmas.List.Edits.{map_over_more}
use Rattle.std.proofs.lemmas.List.Sums.{sum_by-append}
use Rattle.blob_source.specs.Faults.{Rose, RoseBy}
use Rattle.page_disk.specs.declared.change.Change.{Change}
use Rattle.page_disk.specs.Changes.{with_change}
use Rattle.page_files.specs.declared.ending.Closed.{Closed}
use Rattle.page_files.specs.declared.page.Page.{Page}
use Rattle.page_files.specs.declared.page.Page.TheVariants.{Torn, Whole, Asked}
use Rattle.page_files.specs.Pages.{is_unasked, page_at}
use Rattle.page_files.specs.Files.{all_asked, removal, removals, unasked_from, Closes}
use Rattle.page_files.specs.Endings.{counted}

asked_page : (page : Page) → is_unasked page ≡ false → Asked ≡ page
asked_page Torn is = cc
asked_page (Whole size pieces) is = cc
asked_page Asked is = refl

-- a page that was asked for stays so
pub asked_stays : (pages : List Page) (place : ℕ) → is_unasked (page_at pages place) ≡ false → set pages place Asked ≡ pages
asked_stays pages place is = ap (set pages place) (asked_page (page_at pages place) is) ∙ set-get_or pages place Asked

-- the numbers with one page more
abbrev one_unasked : ℕ → Bool → List ℕ
one_unasked number unasked = cond unasked (number ∷ []) []

cond_more : (number : ℕ) (unasked : Bool) (front back : List ℕ) → cond unasked (number ∷ (front ++ back)) (front ++ back) ≡ cond unasked (number ∷ front) front
    ++ back
cond_more number true front back = refl
cond_more number false front back = refl

unasked_push : (number : ℕ) (pages : List Page) (page : Page) → unasked_from number (pages ++ page ∷ []) ≡ unasked_from number pages
    ++ one_unasked (number + length pages) (is_unasked page)
unasked_push number [] page = let none : number ≡ number + 0 = omega arith in by (is_unasked page) none
  where
    by : {other : ℕ} (unasked : Bool) → number ≡ other → cond unasked (number ∷ []) [] ≡ one_unasked other unasked
    by true same = ap (λ n. n ∷ []) same
    by false same = refl
unasked_push number (first ∷ pages) page =
    let far : number + 1 + length pages ≡ number + length (first ∷ pages) = omega arith in
    let rest = unasked_push (number + 1) pages page ∙ ap (λ (n : ℕ). unasked_from (number + 1) pages ++ one_unasked n (is_unasked page)) far in
    ap (λ (list : List ℕ). cond (is_unasked first) (number ∷ list) list) rest ∙ cond_more number (is_unasked first) (unasked_from (number + 1) pages)
    (one_unasked (number + length (first ∷ pages)) (is_unasked page))

unasked_few : (number : ℕ) (pages : List Page) → length (unasked_from number pages) ≤ length pages
unasked_few number [] = omega arith
unasked_few number (page ∷ pages) = let rest = unasked_few (number + 1) pages in by (is_unasked page) rest
  where
    by : (unasked : Bool) → length (unasked_from (number + 1) pages) ≤ length pages
        → length (cond unasked (number ∷ unasked_from (number + 1) pages) (unasked_from (number + 1) pages)) ≤ length (page ∷ pages)
    by true less = omega (arith, less)
    by false less = omega (arith, less)

removals_push : (pages : List ℕ) (goes : List Bool) (page : ℕ) (one : Bool) → length goes ≡ length pages → removals (pages ++ page ∷ []) (goes ++ one ∷ [])
    ≡ removals pages goes ++ removal page one ∷ []
removals_push [] [] page one same = refl
removals_push [] (first ∷ goes) page one same = absurd (omega (arith, same))
removals_push (number ∷ pages) [] page one same = absurd (omega (arith, same))
removals_push (number ∷ pages) (first ∷ goes) page one same = ap (λ rest. removal number first ∷ rest) (removals_push pages goes page one (omega (arith, same)))

count_push : (p : Bool → Bool) (goes : List Bool) (one : Bool) → count_by p (goes ++ one ∷ []) ≡ count_by p goes + cond (p one) 1 0
count_push p goes one = omega (arith, sum_by-append (λ (each : Bool). cond (p each) 1 0) goes (one ∷ []))

told_more : (told : Option (List Change)) (front : List Change) (change : Change) → with_change change (option_map (λ list. list ++ front) told)
    ≡ option_map (λ list. list ++ (front ++ change ∷ [])) told
told_more None front change = refl
told_more (Some list) front change = ap Some (append_assoc list front (change ∷ []))

pub closes_none : (told : Option (List Change)) (count : ℕ) → Closes [] told told count count (record { removed = 0; left = 0 })
closes_none told count = record {
  goes = [];
  once = refl;
  changes = by told;
  removed = refl;
  left = refl;
  faults = inl (omega arith);
}
  where
    by : (told : Option (List Change)) → told ≡ option_map (λ list. list ++ []) told
    by None = refl
    by (Some list) = ap Some (sym (append-nil list))

-- one failed removal more
rose_more : (left count later latest : ℕ) → RoseBy left count later → Rose later latest → later ≤ latest → RoseBy (left + 1) count latest
rose_more left count later latest (inl less) (inl more) after = inl (omega (arith, less, more))
rose_more left count later latest (inl less) (inr most) after = inr (omega (arith, most))
rose_more left count later latest (inr most) rose after = inr (omega (arith, most, after))

rose_same : (left count later latest : ℕ) → RoseBy left count later → later ≤ latest → RoseBy left count latest
rose_same left count later latest (inl less) after = inl (omega (arith, less, after))
rose_same left count later latest (inr most) after = inr (omega (arith, most, after))

module _ (pages : List Page) (page : Page) (old now new : Option (List Change)) (count later latest : ℕ) (closed : Closed)
    (so : Closes pages old now count later closed) (after : later ≤ latest) where
  closes_asked : is_unasked page ≡ false → new ≡ now → Closes (pages ++ page ∷ []) old new count latest closed
  closes_asked is same =
      let list : unasked_from 0 (pages ++ page ∷ []) ≡ unasked_from 0 pages = unasked_push 0 pages page ∙ rw is (append-nil (unasked_from 0 pages)) in
      record {
        goes = so.goes;
        once = rw list so.once;
        changes = rw list (same ∙ so.changes);
        removed = so.removed;
        left = so.left;
        faults = rose_same closed.left count later latest so.faults after;
      }

  module _ (one : Bool) (is : is_unasked page ≡ true) (change : new ≡ with_change (removal (length pages) one) now) where
    list_more : unasked_from 0 (pages ++ page ∷ []) ≡ unasked_from 0 pages ++ length pages ∷ []
    list_more = let none : 0 + length pages ≡ length pages = omega arith in unasked_push 0 pages page ∙ rw (is, none) refl

    once_more : length (so.goes ++ one ∷ []) ≡ length (unasked_from 0 (pages ++ page ∷ []))
    once_more = rw list_more (omega (arith, so.once, length-append so.goes (one ∷ []), length-append (unasked_from 0 pages) (length pages ∷ [])))

    changes_more : new ≡ option_map (λ told. told ++ removals (unasked_from 0 (pages ++ page ∷ [])) (so.goes ++ one ∷ [])) old
    changes_more =
        rw list_more (change ∙ ap (with_change (removal (length pages) one)) so.changes ∙ told_more old (removals (unasked_from 0 pages) so.goes)
        (removal (length pages) one)
        ∙ ap (λ (back : List Change). option_map (λ told. told ++ back) old) (sym (removals_push (unasked_from 0 pages) so.goes (length pages) one so.once)))

  closes_gone : is_unasked page ≡ true → new ≡ with_change (removal (length pages) true) now → Closes (pages ++ page ∷ []) old new count latest
      (record closed { removed = closed.removed + 1 })
  closes_gone is change = record {
    goes = so.goes ++ true ∷ [];
    once = once_more true is change;
    changes = changes_more true is change;
    removed = ap (λ n. n + 1) so.removed ∙ sym (count_push (λ each. each) so.goes true);
    left = let same = count_push not so.goes false in let more = count_push not so.goes true in omega (arith, so.left, more);
    faults = rose_same closed.left count later latest so.faults after;
  }

  closes_left : is_unasked page ≡ true → new ≡ with_change (removal (length pages) false) now → Rose later latest → Closes (pages ++ page ∷ []) old new count
      latest (record closed { left = closed.left + 1 })
  closes_left is change rose = record {
    goes = so.goes ++ false ∷ [];
    once = once_more false is change;
    changes = changes_more false is change;
    removed = let more = count_push (λ each. each) so.goes false in omega (arith, so.removed, more);
    left = ap (λ n. n + 1) so.left ∙ sym (count_push not so.goes false);
    faults = rose_more closed.left count later latest so.faults rose after;
  }

  pub closes_more : (result : Option Bool) → is_some result ≡ is_unasked page → new ≡ option_map_or (λ goes. with_change (removal (length pages) goes) now)
      result now → IfSome result (λ goes. goes ≡ false → Rose later latest)
      → Closes (pages ++ page ∷ []) old new count latest (counted result closed)
  closes_more None is change rose = closes_asked (sym is) change
  closes_more (Some true) is change rose = closes_gone (sym is) change
  closes_more (Some false) is change rose = closes_left (sym is) change (rose refl)

-- there are no more removals than pages
pub closes_few : (pages : List Page) (old new : Option (List Change)) (count later : ℕ) (closed : Closed) → Closes pages old new count later closed
    → closed.removed + closed.left ≤ length pages
closes_few pages old new count later closed so =
    let all = both so.goes in
    omega (arith, all, so.removed, so.left, so.once, unasked_few 0 pages)
  where
    both : (goes : List Bool) → count_by (λ each. each) goes + count_by not goes ≡ length goes
    both goes = by goes
      where
        by : (goes : List Bool) → count_by (λ each. each) goes + count_by not goes ≡ length goes
        by [] = refl
        by (true ∷ goes) = omega (
          arith,
          by goes,
          sum_by-append (λ (each : Bool). cond each 1 0) (true ∷ []) goes,
          sum_by-append
              (λ (each : Bool). cond (not each) 1 0) (true ∷ []) goes,
        )
        by (false ∷ goes) = omega (
          arith,
          by goes,
          sum_by-append (λ (each : Bool). cond each 1 0) (false ∷ []) goes,
          sum_by-append
              (λ (each : Bool). cond (not each) 1 0) (false ∷ []) goes,
        )

any_default : {X : Type 0} (xs : List X) (i : ℕ) (d e : X) → i < length xs → get_or xs i d ≡ get_or xs i e
any_default [] i d e inside = absurd (omega arith)
any_default (x ∷ xs) zero d e inside = refl
any_default (x ∷ xs) (suc i) d e inside = any_default xs i d e (omega arith)

-- the pages where the first ones were asked for
module _ (pages mid : List Page) (n : ℕ) (inside : n < length pages) (is : mid ≡ all_asked (take n pages) ++ drop n pages) where
  front_length : length (all_asked (take n pages)) ≡ n
  front_length = length-map (take n pages) (λ page. Asked) ∙ length-take-le n pages (omega (arith, inside))

  mid_length : length mid ≡ length pages
  mid_length = ap length is ∙ length-append (all_asked (take n pages)) (drop n pages) ∙
      (let rest = length-drop n pages in omega (arith, front_length, rest, inside))

  here : page_at mid n ≡ page_at pages n
  here =
      let none : length (all_asked (take n pages)) + 0 ≡ n = omega (arith, front_length) in
      let zero_on : n + 0 ≡ n = omega arith in
      ap (λ (list : List Page). page_at list n) is ∙ sym (ap (λ (k : ℕ). page_at (all_asked (take n pages) ++ drop n pages) k) none) ∙ get_or-append-add
      (all_asked (take n pages)) (drop n pages) 0 Asked
      ∙ get_or-drop n pages 0 Asked ∙ ap (page_at pages) zero_on

  pub pages_more : set mid n Asked ≡ all_asked (take (n + 1) pages) ++ drop (n + 1) pages
  pages_more = map_over_more (λ (page : Page). Asked) pages mid n (page_at mid n) inside is
      (any_default mid n Asked (page_at mid n) (omega (arith, inside, mid_length)))

  pub step_closes : (old now new : Option (List Change)) (count later latest : ℕ) (closed : Closed) (result : Option Bool) → Closes (take n pages) old now count
      later closed → later ≤ latest → is_some result ≡ is_unasked (page_at mid n)
      → new ≡ option_map_or (λ goes. with_change (removal n goes) now) result now → IfSome result (λ goes. goes ≡ false → Rose later latest)
      → Closes (take (n + 1) pages) old new count latest (counted result closed)
  step_closes old now new count later latest closed result so after once change rose =
      let size = length-take-le n pages (omega (arith, inside)) in
      let more = take_more pages n Asked inside in
      rw more (closes_more (take n pages) (page_at pages n) old now new count later latest closed so after result (once ∙ ap is_unasked here) (rw size change)
      rose)
