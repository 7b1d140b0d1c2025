-- What the disk is charged with, by page files, the job's pieces and the reached pieces.
use Rattle.std.proofs.Common.{◌≡◌, ℕ, ◌+◌, ◌≤◌, ◌<◌, ◌==◌, Bool, true, false, ◌||◌, not, List, [], ◌∷◌, ◌++◌, length, refl, ap, subst, sym, ◌∙◌, arith, Option, Some}
use Rattle.std.specs.Prelude.{cond, find, filter, sum_by, nat_lt}
use Rattle.std.specs.List.{AllByRecursion, list_any}
use Rattle.std.proofs.lemmas.Bool.{eqb-true, ltb-true, lt-ltb}
use Rattle.std.proofs.lemmas.List.{reverse-append}
use Rattle.std.proofs.lemmas.List.Sums.{sum_by-cons}
use Rattle.blob_model.specs.Builds.{Build, build_in}
use Rattle.blob_model.specs.Pieces.{Piece, length_in}
use Rattle.blob_model.specs.Pages.{Page, Place, in_memory, reserved, in_page, page_with, place_by, page_size, lists, is_memory, is_reserved, is_page}
use Rattle.blob_model.proofs.Lists.{all_members, false_true, for_each, or_first, or_second}
use Rattle.blob_model.proofs.memory.Builds.{sum_where}

-- ---- sums and tests over lists

-- a stronger test sums less
pub sum_up : {X : Type 0} (f : X → ℕ) (p q : X → Bool) (xs : List X) → AllByRecursion (λ (x : X). p x ≡ true → q x ≡ true) xs → sum_by f (filter p xs) ≤ sum_by
    f (filter q xs)
sum_up f p q [] all = omega arith
sum_up {X = X} f p q (x ∷ xs) all = go (p x) (q x) all.0 (sum_up f p q xs all.1)
  where
    go : (a b : Bool) → (a ≡ true → b ≡ true) → sum_by f (filter p xs) ≤ sum_by f (filter q xs) → sum_by f (cond a (x ∷ filter p xs) (filter p xs)) ≤ sum_by f
        (cond b (x ∷ filter q xs) (filter q xs))
    go true false e rest = absurd (false_true (e refl))
    go true true e rest = let left = sum_by-cons f x (filter p xs) in let right = sum_by-cons f x (filter q xs) in omega (arith, left, right, rest)
    go false true e rest = let right = sum_by-cons f x (filter q xs) in omega (arith, right, rest)
    go false false e rest = rest

-- a list has as many items as the sum of ones
ones : {X : Type 0} (xs : List X) → sum_by (λ (x : X). 1) xs ≡ length xs
ones [] = refl
ones {X = X} (x ∷ xs) = let rest = ones xs in let whole = sum_by-cons (λ (y : X). 1) x xs in omega (arith, rest, whole)

-- where some item passes two tests, some item passes weaker ones
pub some_up : {X : Type 0} (p' q' p q : X → Bool) (xs : List X) → AllByRecursion (λ (x : X). p' x ≡ true → q' x ≡ true → (p x ≡ true) × (q x ≡ true)) xs
    → nat_lt 0 (length (filter p' (filter q' xs))) ≡ true → nat_lt 0 (length (filter p (filter q xs))) ≡ true
some_up {X = X} p' q' p q xs all e =
    let low = sum_where (λ (x : X). 1) p' q' p q xs all in
    let left = ones (filter p' (filter q' xs)) in
    let right = ones (filter p (filter q xs)) in
    let here : 0 < length (filter p' (filter q' xs)) = ltb-true 0 (length (filter p' (filter q' xs))) e in
    lt-ltb 0 (length (filter p (filter q xs))) (omega (arith, low, left, right, here))

-- an item that passes a test among those that pass one filter is among those that pass another
pub any_filtered : {X : Type 0} (t r' r : X → Bool) (xs : List X) → AllByRecursion (λ (x : X). t x ≡ true → r' x ≡ true → r x ≡ true) xs
    → list_any t (filter r' xs) ≡ true → list_any t (filter r xs) ≡ true
any_filtered t r' r [] all e = e
any_filtered {X = X} t r' r (x ∷ xs) all e = go (r' x) (r x) (t x) refl all.0 e (any_filtered t r' r xs all.1)
  where
    here : (b c : Bool) → t x ≡ c → list_any t (filter r xs) ≡ true → list_any t (cond b (x ∷ filter r xs) (filter r xs)) ≡ true
    here true c at f = or_second (t x) (list_any t (filter r xs)) f
    here false c at f = f

    go : (a b c : Bool) → t x ≡ c → (c ≡ true → a ≡ true → b ≡ true) → list_any t (cond a (x ∷ filter r' xs) (filter r' xs)) ≡ true
        → (list_any t (filter r' xs) ≡ true → list_any t (filter r xs) ≡ true)
        → list_any t (cond b (x ∷ filter r xs) (filter r xs)) ≡ true
    go false b c at up f rest = here b c at (rest f)
    go true b false at up f rest = here b false at (rest (ap (λ (z : Bool). z || list_any t (filter r' xs)) (sym at) ∙ f))
    go true true true at up f rest = or_first (t x) (list_any t (filter r xs)) at
    go true false true at up f rest = absurd (false_true (up refl refl))

-- what each piece has, all of a list have
pub each_piece : {P : Piece → Type 0} (list : List Piece) → ((piece : Piece) → P piece) → AllByRecursion P list
each_piece [] f = tt
each_piece (piece ∷ list) f = (f piece, each_piece list f)

-- ---- the three parts of the charge

abbrev pub place_at : List Page → List Build → Piece → Place
place_at written blobs piece = place_by (page_with written piece.number) (build_in blobs piece.blob)

abbrev pub has_some : List Page → List Build → List Piece → Page → Bool
has_some written blobs list file = nat_lt 0 (length (filter (λ (piece : Piece). is_page file.number (place_at written blobs piece)) list))

-- the bytes of page files that hold a piece of the list
abbrev pub in_files : List Page → List Page → List Build → List Piece → List Piece → ℕ
in_files some written blobs all list = sum_by (page_size all) (filter (has_some written blobs list) some)

-- the bytes of reserved pieces
abbrev pub in_reserve : List Page → List Build → List Piece → ℕ
in_reserve written blobs list = sum_by (λ (piece : Piece). piece.len) (filter (λ (piece : Piece). is_reserved (place_at written blobs piece)) list)

abbrev pub has_number : List Piece → ℕ → Bool
has_number list number = list_any (λ (piece : Piece). piece.number == number) list

-- the bytes of the pieces that the job still has
abbrev pub in_job : List ℕ → List Piece → List Piece → ℕ
in_job flying all list = sum_by (length_in all) (filter (has_number list) flying)

-- all three
abbrev pub charge : List Page → List ℕ → List Build → List Piece → List Piece → ℕ
charge written flying blobs all list = in_files written written blobs all list + in_reserve written blobs list + in_job flying all list

-- what is charged: pieces in page files, reserved ones, and those of the job
abbrev pub is_charged : List Page → List ℕ → List Build → Piece → Bool
is_charged written flying blobs piece = not (is_memory (place_at written blobs piece)) || list_any (λ (each : ℕ). each == piece.number) flying

-- what is in a page file or reserved is not in memory
paged_out : (number : ℕ) (at : Place) → is_page number at ≡ true → not (is_memory at) ≡ true
paged_out number in_memory e = absurd (false_true e)
paged_out number reserved e = refl
paged_out number (in_page file) e = refl

kept_out : (at : Place) → is_reserved at ≡ true → not (is_memory at) ≡ true
kept_out in_memory e = absurd (false_true e)
kept_out reserved e = refl
kept_out (in_page file) e = refl

-- where fewer of the charged pieces are reached the charge is less
pub charge_less : (written : List Page) (flying : List ℕ) (blobs : List Build) (all : List Piece) (r' r : Piece → Bool)
    → AllByRecursion (λ (piece : Piece). r' piece ≡ true → is_charged written flying blobs piece ≡ true → r piece ≡ true) all
    → charge written flying blobs all (filter r' all) ≤ charge written flying blobs all (filter r all)
charge_less written flying blobs all r' r up =
    let files : in_files written written blobs all (filter r' all) ≤ in_files written written blobs all (filter r all) =
    sum_up (page_size all) (has_some written blobs (filter r' all)) (has_some written blobs (filter r all)) written
    (each_page written (λ file e.
    some_up (λ (piece : Piece). is_page file.number (place_at written blobs piece)) r' (λ (piece : Piece). is_page file.number (place_at written blobs piece)) r
    all
    (for_each (λ (piece : Piece). r' piece ≡ true → is_charged written flying blobs piece ≡ true → r piece ≡ true)
    (λ (piece : Piece). is_page file.number (place_at written blobs piece) ≡ true → r' piece ≡ true
    → (is_page file.number (place_at written blobs piece) ≡ true) × (r piece ≡ true)) all
    (λ piece f at reach. (
      at,
      f reach (or_first (not (is_memory (place_at written blobs piece))) (list_any (λ (each : ℕ). each == piece.number) flying)
          (paged_out file.number (place_at written blobs piece) at)),
    )) up) e)) in
    let reserve : in_reserve written blobs (filter r' all) ≤ in_reserve written blobs (filter r all) =
    sum_where (λ (piece : Piece). piece.len) (λ (piece : Piece). is_reserved (place_at written blobs piece)) r'
    (λ (piece : Piece). is_reserved (place_at written blobs piece)) r all
    (for_each (λ (piece : Piece). r' piece ≡ true → is_charged written flying blobs piece ≡ true → r piece ≡ true)
    (λ (piece : Piece). is_reserved (place_at written blobs piece) ≡ true → r' piece ≡ true → (is_reserved (place_at written blobs piece) ≡ true)
    × (r piece ≡ true)) all
    (λ piece f at reach. (
      at,
      f reach (or_first (not (is_memory (place_at written blobs piece))) (list_any (λ (each : ℕ). each == piece.number) flying)
          (kept_out (place_at written blobs piece) at)),
    )) up) in
    let job : in_job flying all (filter r' all) ≤ in_job flying all (filter r all) =
    sum_up (length_in all) (has_number (filter r' all)) (has_number (filter r all)) flying
    (for_each (λ (n : ℕ). list_any (λ (each : ℕ). each == n) flying ≡ true) (λ (n : ℕ). has_number (filter r' all) n ≡ true → has_number (filter r all) n
    ≡ true) flying
    (λ n member e. any_filtered (λ (piece : Piece). piece.number == n) r' r all
    (for_each (λ (piece : Piece). r' piece ≡ true → is_charged written flying blobs piece ≡ true → r piece ≡ true)
    (λ (piece : Piece). (piece.number == n) ≡ true → r' piece ≡ true → r piece ≡ true) all
    (λ piece f same reach. f reach (or_second (not (is_memory (place_at written blobs piece))) (list_any (λ (each : ℕ). each == piece.number) flying)
    (subst (λ (m : ℕ). list_any (λ (each : ℕ). each == m) flying ≡ true) (sym (eqb-true piece.number n same)) member))) up) e) (all_members flying)) in
    omega (arith, files, reserve, job)
  where
    each_page : (list : List Page) → ((file : Page) → has_some written blobs (filter r' all) file ≡ true → has_some written blobs (filter r all) file ≡ true)
        → AllByRecursion (λ (file : Page). has_some written blobs (filter r' all) file ≡ true → has_some written blobs (filter r all) file ≡ true) list
    each_page [] f = tt
    each_page (file ∷ list) f = (f file, each_page list f)

-- ---- one page file more

-- the last page file that lists a piece is the new one, or as before
pub page_more : (written : List Page) (file : Page) (number : ℕ) → page_with (written ++ file ∷ []) number ≡ cond (lists file number) (Some file)
    (page_with written number)
page_more written file number = ap (find (λ (page : Page). lists page number)) (reverse-append written (file ∷ []))

-- the charge of page files with one more
files_more : (some written : List Page) (blobs : List Build) (all list : List Piece) (file : Page)
    → in_files (some ++ file ∷ []) written blobs all list ≤ in_files some written blobs all list + in_files (file ∷ []) written blobs all list
files_more [] written blobs all list file = omega arith
files_more (each ∷ some) written blobs all list file = go (has_some written blobs list each) (files_more some written blobs all list file)
  where
    go : (b : Bool) → in_files (some ++ file ∷ []) written blobs all list ≤ in_files some written blobs all list + in_files (file ∷ []) written blobs all list
        → sum_by (page_size all) (cond b (each ∷ filter (has_some written blobs list) (some ++ file ∷ []))
        (filter (has_some written blobs list) (some ++ file ∷ [])))
        ≤ sum_by (page_size all) (cond b (each ∷ filter (has_some written blobs list) some) (filter (has_some written blobs list) some)) + in_files (file ∷ [])
        written blobs all list
    go true rest = let left = sum_by-cons (page_size all) each (filter (has_some written blobs list) (some ++ file ∷ [])) in
        let right = sum_by-cons (page_size all) each (filter (has_some written blobs list) some) in omega (arith, left, right, rest)
    go false rest = rest

-- a page file of another number holds what it held
pub other_before : (written : List Page) (blobs : List Build) (file : Page) (number : ℕ) (piece : Piece) → (file.number == number) ≡ false
    → is_page number (place_at (written ++ file ∷ []) blobs piece) ≡ true → is_page number (place_at written blobs piece) ≡ true
other_before written blobs file number piece other e = go (lists file piece.number)
    (ap (λ (o : Option Page). is_page number (place_by o (build_in blobs piece.blob))) (sym (page_more written file piece.number)) ∙ e)
  where
    go : (b : Bool) → is_page number (place_by (cond b (Some file) (page_with written piece.number)) (build_in blobs piece.blob)) ≡ true
        → is_page number (place_at written blobs piece) ≡ true
    go true f = absurd (false_true (sym other ∙ f))
    go false f = f

-- what is still reserved was reserved
pub reserved_before : (written : List Page) (blobs : List Build) (file : Page) (piece : Piece)
    → is_reserved (place_at (written ++ file ∷ []) blobs piece) ≡ true → is_reserved (place_at written blobs piece) ≡ true
reserved_before written blobs file piece e = go (lists file piece.number)
    (ap (λ (o : Option Page). is_reserved (place_by o (build_in blobs piece.blob))) (sym (page_more written file piece.number)) ∙ e)
  where
    go : (b : Bool) → is_reserved (place_by (cond b (Some file) (page_with written piece.number)) (build_in blobs piece.blob)) ≡ true
        → is_reserved (place_at written blobs piece) ≡ true
    go true f = absurd (false_true f)
    go false f = f

-- the number of the page file is new
abbrev pub IsNew : Page → List Page → Type 0
IsNew file written = AllByRecursion (λ (page : Page). (file.number == page.number) ≡ false) written

-- the other page files and what is reserved hold no more than before
pub files_written : (written : List Page) (file : Page) (blobs : List Build) (all : List Piece) (r : Piece → Bool) → IsNew file written
    → in_files (written ++ file ∷ []) (written ++ file ∷ []) blobs all (filter r all) ≤ in_files written written blobs all (filter r all) + in_files (file ∷ [])
    (written ++ file ∷ []) blobs all (filter r all)
files_written written file blobs all r fresh =
    let more = files_more written (written ++ file ∷ []) blobs all (filter r all) file in
    let old : in_files written (written ++ file ∷ []) blobs all (filter r all) ≤ in_files written written blobs all (filter r all) =
    sum_up (page_size all) (has_some (written ++ file ∷ []) blobs (filter r all)) (has_some written blobs (filter r all)) written
    (for_each (λ (page : Page). (file.number == page.number) ≡ false) (λ (page : Page). has_some (written ++ file ∷ []) blobs (filter r all) page ≡ true
    → has_some written blobs (filter r all) page ≡ true) written
    (λ page other e. some_up (λ (piece : Piece). is_page page.number (place_at (written ++ file ∷ []) blobs piece)) r
    (λ (piece : Piece). is_page page.number (place_at written blobs piece)) r all
    (each_piece all (λ piece at reach. (other_before written blobs file page.number piece other at, reach))) e) fresh) in
    omega (arith, more, old)

-- what is reserved does not grow
pub reserve_written : (written : List Page) (file : Page) (blobs : List Build) (all : List Piece) (r : Piece → Bool)
    → in_reserve (written ++ file ∷ []) blobs (filter r all) ≤ in_reserve written blobs (filter r all)
reserve_written written file blobs all r =
    sum_up (λ (piece : Piece). piece.len) (λ (piece : Piece). is_reserved (place_at (written ++ file ∷ []) blobs piece))
    (λ (piece : Piece). is_reserved (place_at written blobs piece)) (filter r all)
    (each_piece (filter r all) (λ piece at. reserved_before written blobs file piece at))

-- one page file is charged at most its size
pub file_most : (file : Page) (written : List Page) (blobs : List Build) (all list : List Piece) → in_files (file ∷ []) written blobs all list ≤ page_size all
    file
file_most file written blobs all list = go (has_some written blobs list file)
  where
    go : (b : Bool) → sum_by (page_size all) (cond b (file ∷ []) []) ≤ page_size all file
    go true = let whole = sum_by-cons (page_size all) file [] in omega (arith, whole)
    go false = omega arith
