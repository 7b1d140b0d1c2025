-- A page file that is written, and a job that starts or ends, keep the counts.
use Rattle.std.proofs.Common.{◌≡◌, ◌⊎◌, ℕ, suc, ◌+◌, ◌≤◌, ◌<◌, ◌==◌, Bool, true, false, ◌||◌, not, List, [], ◌∷◌, ◌++◌, map, reverse, length, refl, ap, subst, sym, ◌∙◌, inl, inr, ⊎_elim, arith, Option, Some, None, length-append}
use Rattle.std.specs.Prelude.{cond, filter, find, sum_by}
use Rattle.std.specs.Option.{option_map_or}
use Rattle.std.specs.List.{AllByRecursion, list_any}
use Rattle.std.proofs.lemmas.Bool.{or_parts, or_from, eqb-true, eqb-false, ne_eqb, eq-eqb}
use Rattle.std.proofs.lemmas.List.Sums.{sum_by-append, sum_by-cons}
use Rattle.std.proofs.lemmas.List.Folds.{list_any-append}
use Rattle.blob_model.specs.Session.{Session, page_limit}
use Rattle.blob_model.specs.History.{History}
use Rattle.blob_model.specs.Pieces.{Piece, pieces}
use Rattle.blob_model.specs.Pages.{Page, pages, page_with, lists}
use Rattle.blob_model.specs.Jobs.{Job, in_flight, paging}
use Rattle.blob_model.specs.PageLaws.{RiseWithin}
use Rattle.blob_model.proofs.Lists.{AreApart, PartOf, all_members, all_more, any_append_first, any_append_second, any_reverse, false_true, for_each, is_among, member_has, or_cases, or_first, or_second, part_any, part_length}
use Rattle.blob_model.proofs.builds.PieceNumbers.{FoundIn}
use Rattle.blob_model.proofs.disk.Stock.{flying_of, flying, is_listed}
use Rattle.std.proofs.lemmas.List.Elements.{filter-append}
use Rattle.blob_model.proofs.changes.Places.{page_with_more}
use Rattle.blob_model.proofs.legal.Causes.{was_written, AreApartPages}
use Rattle.blob_model.proofs.bytes.Arrivals.{Grown}
use Rattle.blob_model.proofs.live.Unreached.{Falls}
use Rattle.blob_model.proofs.counts.Counts.{is_paged, has_place, starts, sources, firsts, IsDead, spare, moving, moves_from, IsEmptied, FliesFrom, FliesWell, Counts, dead_stays, there_stays}

-- ---- numbers of page files

-- a page file that was written has a number below the next one
pub written_low : (from below file : ℕ) (list : List Page) → RiseWithin from below (map (λ (each : Page). each.number) list)
    → list_any (λ (each : Page). each.number == file) list ≡ true → file < below
written_low from below file [] rise e = absurd (false_true e)
written_low from below file (x ∷ list) rise e =
    ⊎_elim (λ (here : (x.number == file) ≡ true). let same = eqb-true x.number file here in let low = rise.1 in omega (arith, same, low))
    (λ (more : list_any (λ (each : Page). each.number == file) list ≡ true). written_low (x.number + 1) below file list rise.2 more)
    (or_cases (x.number == file) (list_any (λ (each : Page). each.number == file) list) e)

-- a place in another page file than the new one was there before
pub place_before : (written : List Page) (new : Page) (file n : ℕ) → (new.number == file) ≡ false → has_place (written ++ new ∷ []) file n ≡ true
    → (has_place written file n ≡ true) × (lists new n ≡ false)
place_before written new file n other e =
    go (lists new n) (sym (ap (λ (o : Option Page). option_map_or (λ (page : Page). page.number == file) o false) (page_with_more written new n)) ∙ e)
  where
    go : (b : Bool) → option_map_or (λ (page : Page). page.number == file) (cond b (Some new) (page_with written n)) false ≡ true
        → (has_place written file n ≡ true) × (b ≡ false)
    go true f = absurd (false_true (sym other ∙ f))
    go false f = (f, refl)

-- what is not listed has no place
pub none_paged : (written : List Page) (n : ℕ) → page_with written n ≡ None → is_paged written n ≡ false
none_paged written n e = go (is_paged written n) refl
  where
    found : (list : List Page) → find (λ (page : Page). lists page n) list ≡ None → list_any (λ (page : Page). lists page n) list ≡ false
    found [] f = refl
    found (x ∷ list) f = pick (lists x n) f (found list)
      where
        pick : (b : Bool) → cond b (Some x) (find (λ (page : Page). lists page n) list) ≡ None
            → (find (λ (page : Page). lists page n) list ≡ None → list_any (λ (page : Page). lists page n) list ≡ false)
            → (b || list_any (λ (page : Page). lists page n) list) ≡ false
        pick true g rest = cc
        pick false g rest = rest g

    go : (b : Bool) → is_paged written n ≡ b → b ≡ false
    go false at = refl
    go true at = absurd (false_true (sym (found (reverse written) e) ∙ any_reverse (λ (page : Page). lists page n) written at))

paged_more : (written : List Page) (new : Page) (n : ℕ) → is_paged written n ≡ true → is_paged (written ++ new ∷ []) n ≡ true
paged_more written new n e = any_append_first (λ (page : Page). lists page n) written (new ∷ []) e

paged_new : (written : List Page) (new : Page) (n : ℕ) → lists new n ≡ true → is_paged (written ++ new ∷ []) n ≡ true
paged_new written new n e = any_append_second (λ (page : Page). lists page n) written (new ∷ []) (or_first (lists new n) false e)

not_paged_more : (written : List Page) (new : Page) (n : ℕ) → is_paged written n ≡ false → lists new n ≡ false → is_paged (written ++ new ∷ []) n ≡ false
not_paged_more written new n e f = list_any-append (λ (page : Page). lists page n) written (new ∷ []) ∙ or_from (is_paged written n) (lists new n || false) e
    (or_from (lists new n) false f refl)

-- ---- sums

spare_more : (written : List Page) (new : Page) (moved : List ℕ) → spare (written ++ new ∷ []) moved ≤ spare written moved + length new.pieces
spare_more written new moved =
    let whole : spare (written ++ new ∷ []) moved ≡ spare written moved + sum_by (λ (file : Page). length file.pieces)
    (filter (λ (file : Page). not (is_among file.number moved)) (new ∷ [])) =
    ap (sum_by (λ (file : Page). length file.pieces)) (filter-append (λ (file : Page). not (is_among file.number moved)) written (new ∷ []))
    ∙ sum_by-append (λ (file : Page). length file.pieces) (filter (λ (file : Page). not (is_among file.number moved)) written)
    (filter (λ (file : Page). not (is_among file.number moved)) (new ∷ [])) in
    let last = one (not (is_among new.number moved)) in
    omega (arith, whole, last)
  where
    one : (b : Bool) → sum_by (λ (file : Page). length file.pieces) (cond b (new ∷ []) []) ≤ length new.pieces
    one true = let sum = sum_by-cons (λ (file : Page). length file.pieces) new [] in omega (arith, sum)
    one false = omega arith

-- without a page file that was not moved out of before
spare_less : (written : List Page) (file : Page) (moved : List ℕ) → AreApartPages written → list_any (λ (each : Page). each.number == file.number) written
    ≡ true → AllByRecursion (λ (each : Page). (each.number == file.number) ≡ true → each ≡ file) written
    → is_among file.number moved ≡ false → spare written (file.number ∷ moved) + length file.pieces ≤ spare written moved
spare_less [] file moved apart there same fresh = absurd (false_true there)
spare_less (x ∷ written) file moved apart there same fresh = go (x.number == file.number) refl (λ more. spare_less written file moved apart.1 more same.1 fresh)
  where
    f : Page → ℕ
    f page = length page.pieces

    less : (xs : List Page) → spare xs (file.number ∷ moved) ≤ spare xs moved
    less [] = omega arith
    less (y ∷ xs) = pick (file.number == y.number) (is_among y.number moved) (less xs)
      where
        pick : (a b : Bool) → spare xs (file.number ∷ moved) ≤ spare xs moved
            → sum_by (λ (page : Page). length page.pieces) (cond (not (a || b))
            (y ∷ filter (λ (page : Page). not (is_among page.number (file.number ∷ moved))) xs)
            (filter (λ (page : Page). not (is_among page.number (file.number ∷ moved))) xs))
            ≤ sum_by (λ (page : Page). length page.pieces) (cond (not b) (y ∷ filter (λ (page : Page). not (is_among page.number moved)) xs)
            (filter (λ (page : Page). not (is_among page.number moved)) xs))
        pick true true rest = rest
        pick true false rest = let sum = sum_by-cons (λ (page : Page). length page.pieces) y (filter (λ (page : Page). not (is_among page.number moved)) xs) in
            omega (arith, sum, rest)
        pick false true rest = rest
        pick false false rest =
            let left = sum_by-cons (λ (page : Page). length page.pieces) y (filter (λ (page : Page). not (is_among page.number (file.number ∷ moved))) xs) in
            let right = sum_by-cons (λ (page : Page). length page.pieces) y (filter (λ (page : Page). not (is_among page.number moved)) xs) in
            omega (arith, left, right, rest)

    go : (b : Bool) → (x.number == file.number) ≡ b → (list_any (λ (each : Page). each.number == file.number) written ≡ true
        → spare written (file.number ∷ moved) + length file.pieces ≤ spare written moved)
        → spare (x ∷ written) (file.number ∷ moved) + length file.pieces ≤ spare (x ∷ written) moved
    go true at rest =
        let equal : x ≡ file = same.0 at in
        let turned : (file.number == x.number) ≡ true = eq-eqb file.number x.number (sym (eqb-true x.number file.number at)) in
        let out : is_among x.number moved ≡ false = ap (λ (page : Page). is_among page.number moved) equal ∙ fresh in
        let left : spare (x ∷ written) (file.number ∷ moved) ≡ spare written (file.number ∷ moved) =
        (λ i. sum_by (λ (page : Page). length page.pieces) (cond (not (turned i || is_among x.number moved))
        (x ∷ filter (λ (page : Page). not (is_among page.number (file.number ∷ moved))) written)
        (filter (λ (page : Page). not (is_among page.number (file.number ∷ moved))) written))) in
        let right : spare (x ∷ written) moved ≡ length x.pieces + spare written moved =
        (λ i. sum_by (λ (page : Page). length page.pieces) (cond (not (out i)) (x ∷ filter (λ (page : Page). not (is_among page.number moved)) written)
        (filter (λ (page : Page). not (is_among page.number moved)) written)))
        ∙ sum_by-cons (λ (page : Page). length page.pieces) x (filter (λ (page : Page). not (is_among page.number moved)) written) in
        let size : length x.pieces ≡ length file.pieces = ap (λ (page : Page). length page.pieces) equal in
        let others = less written in
        omega (arith, left, right, size, others)
    go false at rest =
        let before = rest (subst (λ (b : Bool). (b || list_any (λ (each : Page). each.number == file.number) written) ≡ true) at there) in
        let turned : (file.number == x.number) ≡ false = ne_eqb file.number x.number (λ e. eqb-false x.number file.number at (sym e)) in
        pick (is_among x.number moved) before turned
      where
        pick : (b : Bool) → spare written (file.number ∷ moved) + length file.pieces ≤ spare written moved → (file.number == x.number) ≡ false
            → sum_by (λ (page : Page). length page.pieces) (cond (not ((file.number == x.number) || b))
            (x ∷ filter (λ (page : Page). not (is_among page.number (file.number ∷ moved))) written)
            (filter (λ (page : Page). not (is_among page.number (file.number ∷ moved))) written))
            + length file.pieces
            ≤ sum_by (λ (page : Page). length page.pieces) (cond (not b) (x ∷ filter (λ (page : Page). not (is_among page.number moved)) written)
            (filter (λ (page : Page). not (is_among page.number moved)) written))
        pick true before other =
            let left : sum_by (λ (page : Page). length page.pieces)
            (cond (not ((file.number == x.number) || true)) (x ∷ filter (λ (page : Page). not (is_among page.number (file.number ∷ moved))) written)
            (filter (λ (page : Page). not (is_among page.number (file.number ∷ moved))) written)) ≡ spare written (file.number ∷ moved) =
            (λ i. sum_by (λ (page : Page). length page.pieces) (cond (not (other i || true))
            (x ∷ filter (λ (page : Page). not (is_among page.number (file.number ∷ moved))) written)
            (filter (λ (page : Page). not (is_among page.number (file.number ∷ moved))) written))) in
            omega (arith, left, before)
        pick false before other =
            let left : sum_by (λ (page : Page). length page.pieces)
            (cond (not ((file.number == x.number) || false)) (x ∷ filter (λ (page : Page). not (is_among page.number (file.number ∷ moved))) written)
            (filter (λ (page : Page). not (is_among page.number (file.number ∷ moved))) written))
            ≡ length x.pieces + spare written (file.number ∷ moved) =
            (λ i. sum_by (λ (page : Page). length page.pieces) (cond (not (other i || false))
            (x ∷ filter (λ (page : Page). not (is_among page.number (file.number ∷ moved))) written)
            (filter (λ (page : Page). not (is_among page.number (file.number ∷ moved))) written)))
            ∙ sum_by-cons (λ (page : Page). length page.pieces) x (filter (λ (page : Page). not (is_among page.number (file.number ∷ moved))) written) in
            let right = sum_by-cons (λ (page : Page). length page.pieces) x (filter (λ (page : Page). not (is_among page.number moved)) written) in
            omega (arith, left, right, before)

-- page files of one number are one
pub same_pages : (list : List Page) → AreApartPages list → AllByRecursion
    (λ (file : Page). AllByRecursion (λ (each : Page). (each.number == file.number) ≡ true → each ≡ file) list) list
same_pages [] apart = tt
same_pages (x ∷ list) apart = (
  ((λ e. refl), others x list apart.0),
  for_both_pages list (same_pages list apart.1) (differ list apart.0),
)
  where
    others : (file : Page) (xs : List Page) → list_any (λ (each : Page). each.number == file.number) xs ≡ false
        → AllByRecursion (λ (each : Page). (each.number == file.number) ≡ true → each ≡ file) xs
    others file [] e = tt
    others file (y ∷ xs) e = let parts = or_parts (y.number == file.number) (list_any (λ (each : Page). each.number == file.number) xs) e in
        ((λ f. absurd (false_true (sym parts.0 ∙ f))), others file xs parts.1)

    differ : (xs : List Page) → list_any (λ (each : Page). each.number == x.number) xs ≡ false
        → AllByRecursion (λ (file : Page). (x.number == file.number) ≡ true → x ≡ file) xs
    differ [] e = tt
    differ (y ∷ xs) e =
        let parts = or_parts (y.number == x.number) (list_any (λ (each : Page). each.number == x.number) xs) e in
        ((λ f. absurd (false_true (sym parts.0 ∙ eq-eqb y.number x.number (sym (eqb-true x.number y.number f))))), differ xs parts.1)

    for_both_pages : (xs : List Page) → AllByRecursion (λ (file : Page). AllByRecursion (λ (each : Page). (each.number == file.number) ≡ true → each ≡ file)
        list) xs → AllByRecursion (λ (file : Page). (x.number == file.number) ≡ true → x ≡ file) xs
        → AllByRecursion (λ (file : Page). ((x.number == file.number) ≡ true → x ≡ file)
        × AllByRecursion (λ (each : Page). (each.number == file.number) ≡ true → each ≡ file) list) xs
    for_both_pages [] p q = tt
    for_both_pages (y ∷ xs) p q = ((q.0, p.0), for_both_pages xs p.1 q.1)

-- ---- a page file is written

-- one more page file, with a number of its own
pub record Writes (s : Session) (h g : History) (new : Page) : Type 0 where
  pub grown : Grown s h g
  pub falls : Falls s h g
  pub written : pages g ≡ pages h ++ new ∷ []
  pub above : (file : ℕ) → was_written h file ≡ true → (new.number == file) ≡ false
  pub apart : AreApart new.pieces
  pub still_on : paging g ≡ true → paging h ≡ true
  pub starts_same : starts g ≡ starts h
  pub sources_same : sources g ≡ sources h

module _ (s : Session) (h g : History) (new : Page) (writes : Writes s h g new) (counts : Counts s h) where
  paged_on : (n : ℕ) → is_paged (pages h) n ≡ true → is_paged (pages g) n ≡ true
  paged_on n e = ap (λ (xs : List Page). is_paged xs n) writes.written ∙ paged_more (pages h) new n e

  place_on : (file n : ℕ) → was_written h file ≡ true → has_place (pages g) file n ≡ true → (has_place (pages h) file n ≡ true) × (lists new n ≡ false)
  place_on file n old e = place_before (pages h) new file n (writes.above file old) (subst (λ (xs : List Page). has_place xs file n ≡ true) writes.written e)

  written_on : (file : ℕ) → was_written h file ≡ true → was_written g file ≡ true
  written_on file e = ap (λ (xs : List Page). list_any (λ (each : Page). each.number == file) xs) writes.written ∙ any_append_first
      (λ (each : Page). each.number == file) (pages h) (new ∷ []) e

  dead_on : (n : ℕ) → IsDead s h n → IsDead s g n
  dead_on n one = dead_stays s h g n writes.grown writes.falls one

  apart_on : AllByRecursion (λ (file : Page). AreApart file.pieces) (pages g)
  apart_on = subst (AllByRecursion (λ (file : Page). AreApart file.pieces)) (sym writes.written)
      (all_more (λ (file : Page). AreApart file.pieces) (pages h) new counts.pages_apart writes.apart)

  moved_on : (file : ℕ) → is_among file (sources g) ≡ true → is_among file (sources h) ≡ true
  moved_on file e = subst (λ (xs : List ℕ). is_among file xs ≡ true) writes.sources_same e

  empty_on : (file : ℕ) → was_written h file ≡ true → IsEmptied s h file → IsEmptied s g file
  empty_on file old over = λ n at. dead_on n (over n (place_on file n old at).0)

  spare_on : length (sources g) + spare (pages g) (sources g) ≤ (length (sources h) + spare (pages h) (sources h)) + length new.pieces
  spare_on =
      let same : length (sources g) + spare (pages g) (sources g) ≡ length (sources h) + spare (pages h ++ new ∷ []) (sources h) =
      (λ i. length (writes.sources_same i) + spare (writes.written i) (writes.sources_same i)) in
      let more = spare_more (pages h) new (sources h) in
      omega (arith, same, more)

  -- a piece is stored while the job in flight goes on
  pub counts_stored : (piece : ℕ) → new.pieces ≡ piece ∷ [] → in_flight g ≡ in_flight h → firsts g ≡ piece ∷ firsts h → is_listed (pages h) (flying h) piece
      ≡ false → Counts s g
  counts_stored piece one flies first fresh =
      let parts = or_parts (is_paged (pages h) piece) (list_any (λ (each : ℕ). each == piece) (flying h)) fresh in
      record {
        starts_apart = subst AreApart (sym writes.starts_same) counts.starts_apart;
        starts_there = λ n e. there_stays s h g n writes.grown (counts.starts_there n (subst (λ (xs : List ℕ). is_among n xs ≡ true) writes.starts_same e));
        starts_over =
            λ n e on.
            ⊎_elim (λ (listed : is_listed (pages h) (flying h) n ≡ true). inl (listed_on n listed)) (λ (dead : IsDead s h n). inr (dead_on n dead))
            (counts.starts_over n (subst (λ (xs : List ℕ). is_among n xs ≡ true) writes.starts_same e) (writes.still_on on));
        firsts_apart = subst AreApart (sym first) (not_first parts.0, counts.firsts_apart);
        firsts_paged =
            λ n e.
            ⊎_elim (λ (here : (piece == n) ≡ true). ap (λ (xs : List Page). is_paged xs n) writes.written ∙ paged_new (pages h) new n (new_lists n here))
            (λ (more : is_among n (firsts h) ≡ true). paged_on n (counts.firsts_paged n more))
            (or_cases (piece == n) (is_among n (firsts h)) (subst (λ (xs : List ℕ). is_among n xs ≡ true) first e));
        pages_apart = apart_on;
        flies_apart = subst (λ (job : Option Job). AreApart (flying_of job)) (sym flies) counts.flies_apart;
        flies = subst (FliesWell s g) (sym flies) (fly (in_flight h) parts.1 counts.flies);
        moved_written = λ file e. written_on file (counts.moved_written file (moved_on file e));
        moved_over =
            λ file e on.
            ⊎_elim (λ (moves : moves_from (in_flight h) file ≡ true). inl (ap (λ (job : Option Job). moves_from job file) flies ∙ moves))
            (λ (over : IsEmptied s h file). inr (empty_on file (counts.moved_written file (moved_on file e)) over))
            (counts.moved_over file (moved_on file e) (writes.still_on on));
        less =
            let before = counts.less in
            let more = spare_on in
            let job : moving (in_flight g) ≡ moving (in_flight h) = ap moving flies in
            let size : length new.pieces ≡ 1 = ap length one in
            let whole : length (firsts g) ≡ suc (length (firsts h)) = ap length first in
            omega (arith, before, more, job, size, whole);
      }
    where
      new_lists : (n : ℕ) → (piece == n) ≡ true → lists new n ≡ true
      new_lists n here = ap (λ (xs : List ℕ). list_any (λ (each : ℕ). each == n) xs) one ∙ or_first (piece == n) false here

      not_new : (n : ℕ) → (piece == n) ≡ false → lists new n ≡ false
      not_new n other = ap (λ (xs : List ℕ). list_any (λ (each : ℕ). each == n) xs) one ∙ or_from (piece == n) false other refl

      not_first : is_paged (pages h) piece ≡ false → is_among piece (firsts h) ≡ false
      not_first unlisted = pick (is_among piece (firsts h)) refl
        where
          pick : (b : Bool) → is_among piece (firsts h) ≡ b → b ≡ false
          pick false at = refl
          pick true at = absurd (false_true (sym unlisted ∙ counts.firsts_paged piece at))

      listed_on : (n : ℕ) → is_listed (pages h) (flying h) n ≡ true → is_listed (pages g) (flying g) n ≡ true
      listed_on n e =
          ⊎_elim (λ (file : is_paged (pages h) n ≡ true). or_first (is_paged (pages g) n) (list_any (λ (each : ℕ). each == n) (flying g)) (paged_on n file))
          (λ (job : list_any (λ (each : ℕ). each == n) (flying h) ≡ true). or_second (is_paged (pages g) n) (list_any (λ (each : ℕ). each == n) (flying g))
          (ap (λ (o : Option Job). list_any (λ (each : ℕ). each == n) (flying_of o)) flies ∙ job))
          (or_cases (is_paged (pages h) n) (list_any (λ (each : ℕ). each == n) (flying h)) e)

      unpaged : (list : List ℕ) → list_any (λ (each : ℕ). each == piece) list ≡ false → AllByRecursion (λ (n : ℕ). is_paged (pages h) n ≡ false) list
          → AllByRecursion (λ (n : ℕ). is_paged (pages g) n ≡ false) list
      unpaged [] e all = tt
      unpaged (x ∷ list) e all =
          let two = or_parts (x == piece) (list_any (λ (each : ℕ). each == piece) list) e in
          let other : (piece == x) ≡ false = ne_eqb piece x (λ same. eqb-false x piece two.0 (sym same)) in
          (ap (λ (xs : List Page). is_paged xs x) writes.written ∙ not_paged_more (pages h) new x all.0 (not_new x other), unpaged list two.1 all.1)

      from : (list : List ℕ) (source : Option ℕ) → list_any (λ (each : ℕ). each == piece) list ≡ false → FliesFrom s h list source → FliesFrom s g list source
      from list None e all = unpaged list e all
      from list (Some file) e all = (
        written_on file all.0,
        (λ n at. ⊎_elim (λ (there : is_among n list ≡ true). inl there) (λ (dead : IsDead s h n). inr (dead_on n dead))
            (all.1 n (place_on file n all.0 at).0)),
      )

      fly : (job : Option Job) → list_any (λ (each : ℕ). each == piece) (flying_of job) ≡ false → FliesWell s h job → FliesWell s g job
      fly None e one_job = one_job
      fly (Some job) e one_job = from job.pieces job.source e one_job

  -- the pieces that the job in flight still has are written, and it ends
  pub counts_written : (job : Job) → in_flight h ≡ Some job → in_flight g ≡ None → firsts g ≡ option_map_or (λ (file : ℕ). firsts h) job.source
      (new.pieces ++ firsts h)
      → PartOf new.pieces job.pieces → ((n : ℕ) → is_among n job.pieces ≡ true → (is_among n new.pieces ≡ true) ⊎ IsDead s h n) → Counts s g
  counts_written job at ends first part left = by_source job.source refl first (subst (FliesWell s h) at counts.flies)
    where
      flying_is : flying h ≡ job.pieces
      flying_is = ap flying_of at

      listed_on : (n : ℕ) → is_listed (pages h) (flying h) n ≡ true → (is_listed (pages g) (flying g) n ≡ true) ⊎ IsDead s g n
      listed_on n e =
          ⊎_elim (λ (file : is_paged (pages h) n ≡ true). inl (or_first (is_paged (pages g) n) (list_any (λ (each : ℕ). each == n) (flying g))
          (paged_on n file)))
          (λ (flies : list_any (λ (each : ℕ). each == n) (flying h) ≡ true).
          ⊎_elim
          (λ (there : is_among n new.pieces ≡ true).
          inl (or_first (is_paged (pages g) n) (list_any (λ (each : ℕ). each == n) (flying g))
          (ap (λ (xs : List Page). is_paged xs n) writes.written ∙ paged_new (pages h) new n there)))
          (λ (dead : IsDead s h n). inr (dead_on n dead)) (left n (subst (λ (xs : List ℕ). list_any (λ (each : ℕ). each == n) xs ≡ true) flying_is flies)))
          (or_cases (is_paged (pages h) n) (list_any (λ (each : ℕ). each == n) (flying h)) e)

      starts_on : (n : ℕ) → is_among n (starts g) ≡ true → paging g ≡ true → (is_listed (pages g) (flying g) n ≡ true) ⊎ IsDead s g n
      starts_on n e on =
          ⊎_elim (λ (listed : is_listed (pages h) (flying h) n ≡ true). listed_on n listed) (λ (dead : IsDead s h n). inr (dead_on n dead))
          (counts.starts_over n (subst (λ (xs : List ℕ). is_among n xs ≡ true) writes.starts_same e) (writes.still_on on))

      apart_append : (xs ys : List ℕ) → AreApart xs → AreApart ys → AllByRecursion (λ (n : ℕ). is_among n ys ≡ false) xs → AreApart (xs ++ ys)
      apart_append [] ys p q others = q
      apart_append (x ∷ xs) ys p q others = (
        list_any-append (λ (each : ℕ). each == x) xs ys ∙ or_from (list_any (λ (each : ℕ). each == x) xs) (list_any (λ (each : ℕ). each == x) ys) p.0
            others.0,
        apart_append xs ys p.1 q others.1,
      )

      not_first : (n : ℕ) → is_paged (pages h) n ≡ false → is_among n (firsts h) ≡ false
      not_first n unlisted = pick (is_among n (firsts h)) refl
        where
          pick : (b : Bool) → is_among n (firsts h) ≡ b → b ≡ false
          pick false e = refl
          pick true e = absurd (false_true (sym unlisted ∙ counts.firsts_paged n e))

      size_less : length new.pieces ≤ length job.pieces
      size_less = part_length new.pieces job.pieces part

      by_source : (source : Option ℕ) → job.source ≡ source → firsts g ≡ option_map_or (λ (file : ℕ). firsts h) job.source (new.pieces ++ firsts h)
          → FliesFrom s h job.pieces job.source → Counts s g
      by_source None e f well =
          let first_is : firsts g ≡ new.pieces ++ firsts h = f ∙ ap (λ (o : Option ℕ). option_map_or (λ (file : ℕ). firsts h) o (new.pieces ++ firsts h)) e in
          let unlisted : AllByRecursion (λ (n : ℕ). is_paged (pages h) n ≡ false) job.pieces = subst (FliesFrom s h job.pieces) e well in
          let others : AllByRecursion (λ (n : ℕ). is_among n (firsts h) ≡ false) new.pieces =
          for_each (λ (n : ℕ). is_among n new.pieces ≡ true) (λ (n : ℕ). is_among n (firsts h) ≡ false) new.pieces
          (λ n member. not_first n (member_has (λ (m : ℕ). is_paged (pages h) m ≡ false) job.pieces n unlisted
          (part_any (λ (each : ℕ). each == n) new.pieces job.pieces part member))) (all_members new.pieces) in
          let still : moving (in_flight h) ≡ 0 = ap moving at ∙ ap (λ (o : Option ℕ). option_map_or (λ (file : ℕ). length job.pieces) o 0) e in
          record {
            starts_apart = subst AreApart (sym writes.starts_same) counts.starts_apart;
            starts_there = λ n member. there_stays s h g n writes.grown
                (counts.starts_there n (subst (λ (xs : List ℕ). is_among n xs ≡ true) writes.starts_same member));
            starts_over = starts_on;
            firsts_apart = subst AreApart (sym first_is) (apart_append new.pieces (firsts h) writes.apart counts.firsts_apart others);
            firsts_paged =
                λ n member.
                ⊎_elim (λ (here : is_among n new.pieces ≡ true). ap (λ (xs : List Page). is_paged xs n) writes.written ∙ paged_new (pages h) new n here)
                (λ (more : is_among n (firsts h) ≡ true). paged_on n (counts.firsts_paged n more))
                (or_cases (is_among n new.pieces) (is_among n (firsts h))
                (sym (list_any-append (λ (each : ℕ). each == n) new.pieces (firsts h)) ∙ subst (λ (xs : List ℕ). is_among n xs ≡ true) first_is member));
            pages_apart = apart_on;
            flies_apart = subst (λ (o : Option Job). AreApart (flying_of o)) (sym ends) tt;
            flies = subst (FliesWell s g) (sym ends) tt;
            moved_written = λ file member. written_on file (counts.moved_written file (moved_on file member));
            moved_over =
                λ file member on.
                ⊎_elim
                (λ (moves : moves_from (in_flight h) file ≡ true).
                absurd (false_true
                (sym (ap (λ (o : Option Job). moves_from o file) at ∙ ap (λ (o : Option ℕ). option_map_or (λ (source : ℕ). source == file) o false) e) ∙
                moves)))
                (λ (over : IsEmptied s h file). inr (empty_on file (counts.moved_written file (moved_on file member)) over))
                (counts.moved_over file (moved_on file member) (writes.still_on on));
            less =
                let before = counts.less in
                let more = spare_on in
                let none : moving (in_flight g) ≡ 0 = ap moving ends in
                let whole : length (firsts g) ≡ length new.pieces + length (firsts h) = ap length first_is ∙ length-append new.pieces (firsts h) in
                omega (arith, before, more, none, whole, still);
          }
      by_source (Some source) e f well =
          let first_is : firsts g ≡ firsts h = f ∙ ap (λ (o : Option ℕ). option_map_or (λ (file : ℕ). firsts h) o (new.pieces ++ firsts h)) e in
          let moves_all : FliesFrom s h job.pieces (Some source) = subst (FliesFrom s h job.pieces) e well in
          let still : moving (in_flight h) ≡ length job.pieces = ap moving at ∙ ap (λ (o : Option ℕ). option_map_or (λ (file : ℕ). length job.pieces) o 0) e in
          record {
            starts_apart = subst AreApart (sym writes.starts_same) counts.starts_apart;
            starts_there = λ n member. there_stays s h g n writes.grown
                (counts.starts_there n (subst (λ (xs : List ℕ). is_among n xs ≡ true) writes.starts_same member));
            starts_over = starts_on;
            firsts_apart = subst AreApart (sym first_is) counts.firsts_apart;
            firsts_paged = λ n member. paged_on n (counts.firsts_paged n (subst (λ (xs : List ℕ). is_among n xs ≡ true) first_is member));
            pages_apart = apart_on;
            flies_apart = subst (λ (o : Option Job). AreApart (flying_of o)) (sym ends) tt;
            flies = subst (FliesWell s g) (sym ends) tt;
            moved_written = λ file member. written_on file (counts.moved_written file (moved_on file member));
            moved_over =
                λ file member on.
                inr
                (⊎_elim
                (λ (moves : moves_from (in_flight h) file ≡ true).
                let same : source ≡ file =
                eqb-true source file
                (sym (ap (λ (o : Option Job). moves_from o file) at ∙ ap (λ (o : Option ℕ). option_map_or (λ (each : ℕ). each == file) o false) e) ∙ moves)
                in
                subst (IsEmptied s g) same (emptied source moves_all))
                (λ (over : IsEmptied s h file). empty_on file (counts.moved_written file (moved_on file member)) over)
                (counts.moved_over file (moved_on file member) (writes.still_on on)));
            less =
                let before = counts.less in
                let more = spare_on in
                let none : moving (in_flight g) ≡ 0 = ap moving ends in
                let whole : length (firsts g) ≡ length (firsts h) = ap length first_is in
                let size = size_less in
                omega (arith, before, more, none, whole, still, size);
          }
        where
          emptied : (file : ℕ) → FliesFrom s h job.pieces (Some file) → IsEmptied s g file
          emptied file all n placed =
              let before = place_on file n all.0 placed in
              ⊎_elim
              (λ (flies : is_among n job.pieces ≡ true).
              ⊎_elim (λ (there : is_among n new.pieces ≡ true). absurd (false_true (sym before.1 ∙ there))) (λ (dead : IsDead s h n). dead_on n dead)
              (left n flies))
              (λ (dead : IsDead s h n). dead_on n dead) (all.1 n before.0)

-- ---- a job ends without a page file, or starts

-- no page file is written
pub record Stays (s : Session) (h g : History) : Type 0 where
  pub grown : Grown s h g
  pub falls : Falls s h g
  pub written : pages g ≡ pages h
  pub still_on : paging g ≡ true → paging h ≡ true
  pub firsts_same : firsts g ≡ firsts h

module _ (s : Session) (h g : History) (stays : Stays s h g) (counts : Counts s h) where
  dead_later : (n : ℕ) → IsDead s h n → IsDead s g n
  dead_later n one = dead_stays s h g n stays.grown stays.falls one

  paged_same : (n : ℕ) → is_paged (pages g) n ≡ is_paged (pages h) n
  paged_same n = ap (λ (xs : List Page). is_paged xs n) stays.written

  empty_later : (file : ℕ) → IsEmptied s h file → IsEmptied s g file
  empty_later file gone = λ n at. dead_later n (gone n (subst (λ (xs : List Page). has_place xs file n ≡ true) stays.written at))

  first_later : (n : ℕ) → is_among n (firsts g) ≡ true → is_paged (pages g) n ≡ true
  first_later n e = paged_same n ∙ counts.firsts_paged n (subst (λ (xs : List ℕ). is_among n xs ≡ true) stays.firsts_same e)

  written_later : (file : ℕ) → was_written h file ≡ true → was_written g file ≡ true
  written_later file e = ap (λ (xs : List Page). list_any (λ (each : Page). each.number == file) xs) stays.written ∙ e

  -- the job ends, and what it had is dead where paging is still on
  pub counts_ended : in_flight g ≡ None → starts g ≡ starts h → sources g ≡ sources h
      → (paging g ≡ true → (n : ℕ) → is_among n (flying h) ≡ true → IsDead s h n) → Counts s g
  counts_ended ends started moved gone = record {
    starts_apart = subst AreApart (sym started) counts.starts_apart;
    starts_there = λ n e. there_stays s h g n stays.grown (counts.starts_there n (subst (λ (xs : List ℕ). is_among n xs ≡ true) started e));
    starts_over =
        λ n e on.
        ⊎_elim
        (λ (listed : is_listed (pages h) (flying h) n ≡ true).
        ⊎_elim (λ (file : is_paged (pages h) n ≡ true). inl (or_first (is_paged (pages g) n) (list_any (λ (each : ℕ). each == n) (flying g))
        (paged_same n ∙ file)))
        (λ (flies : list_any (λ (each : ℕ). each == n) (flying h) ≡ true). inr (dead_later n (gone on n flies)))
        (or_cases (is_paged (pages h) n) (list_any (λ (each : ℕ). each == n) (flying h)) listed))
        (λ (dead : IsDead s h n). inr (dead_later n dead)) (counts.starts_over n (subst (λ (xs : List ℕ). is_among n xs ≡ true) started e) (stays.still_on on));
    firsts_apart = subst AreApart (sym stays.firsts_same) counts.firsts_apart;
    firsts_paged = first_later;
    pages_apart = subst (AllByRecursion (λ (file : Page). AreApart file.pieces)) (sym stays.written) counts.pages_apart;
    flies_apart = subst (λ (o : Option Job). AreApart (flying_of o)) (sym ends) tt;
    flies = subst (FliesWell s g) (sym ends) tt;
    moved_written = λ file e. written_later file (counts.moved_written file (subst (λ (xs : List ℕ). is_among file xs ≡ true) moved e));
    moved_over =
        λ file e on.
        inr
        (⊎_elim (λ (moves : moves_from (in_flight h) file ≡ true). empty_later file (emptied (in_flight h) refl file moves counts.flies on))
        (λ (over : IsEmptied s h file). empty_later file over)
        (counts.moved_over file (subst (λ (xs : List ℕ). is_among file xs ≡ true) moved e) (stays.still_on on)));
    less =
        let before = counts.less in
        let none : moving (in_flight g) ≡ 0 = ap moving ends in
        let left : length (sources g) + spare (pages g) (sources g) ≡ length (sources h) + spare (pages h) (sources h) =
        (λ i. length (moved i) + spare (stays.written i) (moved i)) in
        let whole : length (firsts g) ≡ length (firsts h) = ap length stays.firsts_same in
        omega (arith, before, none, left, whole);
  }
    where
      emptied : (job : Option Job) → in_flight h ≡ job → (file : ℕ) → moves_from job file ≡ true → FliesWell s h job → paging g ≡ true → IsEmptied s h file
      emptied None at file moves well on = absurd (false_true moves)
      emptied (Some job) at file moves well on = by_source job.source moves well
        where
          by_source : (source : Option ℕ) → option_map_or (λ (each : ℕ). each == file) source false ≡ true → FliesFrom s h job.pieces source
              → IsEmptied s h file
          by_source None m w = absurd (false_true m)
          by_source (Some source) m w =
              let same : source ≡ file = eqb-true source file m in
              λ n placed.
              ⊎_elim (λ (flies : is_among n job.pieces ≡ true). gone on n
              (ap (λ (o : Option Job). list_any (λ (each : ℕ). each == n) (flying_of o)) at ∙ flies)) (λ (dead : IsDead s h n). dead)
              (w.1 n (subst (λ (m : ℕ). has_place (pages h) m n ≡ true) (sym same) placed))

  listed_later : (n : ℕ) → in_flight h ≡ None → is_listed (pages h) (flying h) n ≡ true → is_paged (pages h) n ≡ true
  listed_later n idle e =
      ⊎_elim (λ (file : is_paged (pages h) n ≡ true). file)
      (λ (flies : list_any (λ (each : ℕ). each == n) (flying h) ≡ true). absurd
      (false_true (ap (λ (o : Option Job). list_any (λ (each : ℕ). each == n) (flying_of o)) (sym idle) ∙ flies)))
      (or_cases (is_paged (pages h) n) (list_any (λ (each : ℕ). each == n) (flying h)) e)

  -- who moved before is over
  moved_before : in_flight h ≡ None → (file : ℕ) → is_among file (sources h) ≡ true → paging h ≡ true → IsEmptied s h file
  moved_before idle file e on =
      ⊎_elim (λ (moves : moves_from (in_flight h) file ≡ true). absurd (false_true (ap (λ (o : Option Job). moves_from o file) (sym idle) ∙ moves)))
      (λ (over : IsEmptied s h file). over) (counts.moved_over file e on)

  -- a page job starts with live pieces that no page file lists
  pub counts_started : (number first : ℕ) (more : List ℕ) → in_flight h ≡ None → paging h ≡ true → in_flight g
      ≡ Some (record { number = number; source = None; pieces = first ∷ more }) → starts g ≡ first ∷ starts h → sources g ≡ sources h
      → AreApart (first ∷ more) → AllByRecursion (λ (n : ℕ). is_paged (pages h) n ≡ false) (first ∷ more) → (piece : Piece) × FoundIn (pieces (page_limit s) h)
      first piece → (IsDead s h first → ⊥) → Counts s g
  counts_started number first more idle on flies started moved apart unlisted there lives = record {
    starts_apart = subst AreApart (sym started) (fresh (is_among first (starts h)) refl, counts.starts_apart);
    starts_there =
        λ n e.
        there_stays s h g n stays.grown
        (⊎_elim (λ (here : (first == n) ≡ true). subst (λ (m : ℕ). (piece : Piece) × FoundIn (pieces (page_limit s) h) m piece) (eqb-true first n here) there)
        (λ (old : is_among n (starts h) ≡ true). counts.starts_there n old)
        (or_cases (first == n) (is_among n (starts h)) (subst (λ (xs : List ℕ). is_among n xs ≡ true) started e)));
    starts_over =
        λ n e still.
        ⊎_elim
        (λ (here : (first == n) ≡ true).
        inl (or_second (is_paged (pages g) n) (list_any (λ (each : ℕ). each == n) (flying g))
        (ap (λ (o : Option Job). list_any (λ (each : ℕ). each == n) (flying_of o)) flies ∙ or_first (first == n) (list_any (λ (each : ℕ). each == n) more)
        here)))
        (λ (old : is_among n (starts h) ≡ true).
        ⊎_elim (λ (listed : is_listed (pages h) (flying h) n ≡ true). inl
        (or_first (is_paged (pages g) n) (list_any (λ (each : ℕ). each == n) (flying g)) (paged_same n ∙ listed_later n idle listed)))
        (λ (dead : IsDead s h n). inr (dead_later n dead)) (counts.starts_over n old on))
        (or_cases (first == n) (is_among n (starts h)) (subst (λ (xs : List ℕ). is_among n xs ≡ true) started e));
    firsts_apart = subst AreApart (sym stays.firsts_same) counts.firsts_apart;
    firsts_paged = first_later;
    pages_apart = subst (AllByRecursion (λ (file : Page). AreApart file.pieces)) (sym stays.written) counts.pages_apart;
    flies_apart = subst (λ (o : Option Job). AreApart (flying_of o)) (sym flies) apart;
    flies = subst (FliesWell s g) (sym flies) (for_each (λ (n : ℕ). is_paged (pages h) n ≡ false) (λ (n : ℕ). is_paged (pages g) n ≡ false) (first ∷ more)
        (λ n e. paged_same n ∙ e) unlisted);
    moved_written = λ file e. written_later file (counts.moved_written file (subst (λ (xs : List ℕ). is_among file xs ≡ true) moved e));
    moved_over = λ file e still. inr (empty_later file (moved_before idle file (subst (λ (xs : List ℕ). is_among file xs ≡ true) moved e) on));
    less =
        let before = counts.less in
        let none : moving (in_flight g) ≡ 0 = ap moving flies in
        let left : length (sources g) + spare (pages g) (sources g) ≡ length (sources h) + spare (pages h) (sources h) =
        (λ i. length (moved i) + spare (stays.written i) (moved i)) in
        let whole : length (firsts g) ≡ length (firsts h) = ap length stays.firsts_same in
        omega (arith, before, none, left, whole);
  }
    where
      fresh : (b : Bool) → is_among first (starts h) ≡ b → is_among first (starts h) ≡ false
      fresh false at = at
      fresh true at =
          absurd
          (⊎_elim (λ (listed : is_listed (pages h) (flying h) first ≡ true). false_true (sym unlisted.0 ∙ listed_later first idle listed))
          (λ (dead : IsDead s h first). lives dead) (counts.starts_over first at on))

  -- a job starts to move the live pieces of a page file, fewer than it lists
  pub counts_moving : (number : ℕ) (file : Page) (list : List ℕ) → in_flight h ≡ None → paging h ≡ true → in_flight g
      ≡ Some (record { number = number; source = Some file.number; pieces = list }) → starts g ≡ starts h → sources g ≡ file.number ∷ sources h
      → AreApart list → was_written h file.number ≡ true → AreApartPages (pages h)
      → AllByRecursion (λ (each : Page). (each.number == file.number) ≡ true → each ≡ file) (pages h) → length list < length file.pieces
      → ((n : ℕ) → has_place (pages h) file.number n ≡ true → (is_among n list ≡ true) ⊎ IsDead s h n) → (IsEmptied s h file.number → ⊥) → Counts s g
  counts_moving number file list idle on flies started moved apart old differ same fewer all lives = record {
    starts_apart = subst AreApart (sym started) counts.starts_apart;
    starts_there = λ n e. there_stays s h g n stays.grown (counts.starts_there n (subst (λ (xs : List ℕ). is_among n xs ≡ true) started e));
    starts_over =
        λ n e still.
        ⊎_elim (λ (listed : is_listed (pages h) (flying h) n ≡ true). inl
        (or_first (is_paged (pages g) n) (list_any (λ (each : ℕ). each == n) (flying g)) (paged_same n ∙ listed_later n idle listed)))
        (λ (dead : IsDead s h n). inr (dead_later n dead)) (counts.starts_over n (subst (λ (xs : List ℕ). is_among n xs ≡ true) started e) on);
    firsts_apart = subst AreApart (sym stays.firsts_same) counts.firsts_apart;
    firsts_paged = first_later;
    pages_apart = subst (AllByRecursion (λ (each : Page). AreApart each.pieces)) (sym stays.written) counts.pages_apart;
    flies_apart = subst (λ (o : Option Job). AreApart (flying_of o)) (sym flies) apart;
    flies =
        subst (FliesWell s g) (sym flies) (
          written_later file.number old,
          (λ n at.
              ⊎_elim (λ (there : is_among n list ≡ true). inl there) (λ (dead : IsDead s h n). inr (dead_later n dead))
              (all n (subst (λ (xs : List Page). has_place xs file.number n ≡ true) stays.written at))),
        );
    moved_written =
        λ other e.
        written_later other
        (⊎_elim (λ (here : (file.number == other) ≡ true). subst (λ (n : ℕ). was_written h n ≡ true) (eqb-true file.number other here) old)
        (λ (before : is_among other (sources h) ≡ true). counts.moved_written other before)
        (or_cases (file.number == other) (is_among other (sources h)) (subst (λ (xs : List ℕ). is_among other xs ≡ true) moved e)));
    moved_over =
        λ other e still.
        ⊎_elim (λ (here : (file.number == other) ≡ true). inl (ap (λ (o : Option Job). moves_from o other) flies ∙ here))
        (λ (before : is_among other (sources h) ≡ true). inr (empty_later other (moved_before idle other before on)))
        (or_cases (file.number == other) (is_among other (sources h)) (subst (λ (xs : List ℕ). is_among other xs ≡ true) moved e));
    less =
        let before = counts.less in
        let here : moving (in_flight g) ≡ length list = ap moving flies in
        let none : moving (in_flight h) ≡ 0 = ap moving idle in
        let left : length (sources g) + spare (pages g) (sources g) ≡ suc (length (sources h)) + spare (pages h) (file.number ∷ sources h) =
        (λ i. length (moved i) + spare (stays.written i) (moved i)) in
        let whole : length (firsts g) ≡ length (firsts h) = ap length stays.firsts_same in
        let rest = spare_less (pages h) file (sources h) differ old same (fresh (is_among file.number (sources h)) refl) in
        omega (arith, before, here, none, left, whole, rest, fewer);
  }
    where
      fresh : (b : Bool) → is_among file.number (sources h) ≡ b → is_among file.number (sources h) ≡ false
      fresh false at = at
      fresh true at = absurd (lives (moved_before idle file.number at on))
