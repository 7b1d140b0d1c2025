-- A line that builds keeps the bytes charged to the disk within the limit.
use Rattle.std.proofs.Common.{◌≡◌, ◌⊎◌, ℕ, zero, suc, ◌+◌, ◌≤◌, ◌<◌, ◌==◌, Bool, true, false, ◌||◌, List, [], ◌∷◌, ◌++◌, length, refl, ap, subst, sym, ◌∙◌, inl, inr, ⊎_elim, arith, Option, Some, None, append-nil}
use Rattle.std.specs.Prelude.{cond, filter, sum_by, nat_lt, slice_get}
use Rattle.std.specs.Option.{option_map_or}
use Rattle.std.specs.List.{AllByRecursion, list_any}
use Rattle.std.proofs.lemmas.Bool.{eqb-true}
use Rattle.std.proofs.lemmas.List.Sums.{sum_by-cons, sum_by-append}
use Rattle.blob_words.specs.declared.plan.Plan.{Plan}
use Rattle.blob_words.specs.declared.plan.Plan.TheVariants as plans
use Rattle.blob_model.specs.Session.{Session, page_limit}
use Rattle.blob_model.specs.History.{History}
use Rattle.blob_model.specs.Builds.{Build, builds, build_in}
use Rattle.blob_model.specs.Standing.{is_granted, grants_at_once}
use Rattle.blob_model.specs.Transport.{arrivals, has_come}
use Rattle.blob_model.specs.Pieces.{Piece, pieces, pieces_from, numbered, spans_of, length_in}
use Rattle.blob_model.specs.Reached.{is_granted_piece}
use Rattle.blob_model.specs.Pages.{Page, pages, next_page, page_with, lists, page_size, place_by, planned_place, unlisted_place, is_page, is_reserved}
use Rattle.blob_model.specs.Tally.{disk, bytes_of}
use Rattle.blob_model.proofs.Lists.{AreApart, all_members, false_true, filter_all, filter_none, for_each, found_all, or_cases, or_first, or_second}
use Rattle.blob_model.proofs.live.Least.{named}
use Rattle.blob_model.proofs.memory.Steps.{filter_append}
use Rattle.blob_model.proofs.memory.Builds.{Adds, pieces_more, pieces_named, found_more, found_last, numbered_named, reached_now, old_reached, sum_where}
use Rattle.blob_model.proofs.disk.Charges.{charge, place_at, has_some, has_number, in_files, in_reserve, in_job, some_up, any_filtered}
use Rattle.blob_model.proofs.builds.PieceNumbers.{FoundIn, AreNumbered, pieces_numbered, all_by_number, found_append, length_found}
use Rattle.blob_model.proofs.disk.Victims.{filter_less}
use Rattle.blob_model.proofs.disk.Stock.{flying, is_listed, is_filed, Known, Stocked, reaches, charge_with, disk_as, listed_by}

-- what all have those of the second list have
all_second : {X : Type 0} (P : X → Type 0) (xs ys : List X) → AllByRecursion P (xs ++ ys) → AllByRecursion P ys
all_second P [] ys all = all
all_second P (x ∷ xs) ys all = all_second P xs ys all.1

-- a place in the first of two lists
get_append : {X : Type 0} (xs ys : List X) (k : ℕ) (x : X) → slice_get xs k ≡ Some x → slice_get (xs ++ ys) k ≡ Some x
get_append [] ys k x e = cc
get_append (y ∷ xs) ys zero x e = e
get_append (y ∷ xs) ys (suc k) x e = get_append xs ys k x e

-- a sum of other values over other items
sum_both : {X : Type 0} (f' f : X → ℕ) (p' p : X → Bool) (xs : List X) → AllByRecursion (λ (x : X). (f' x ≡ f x) × (p' x ≡ true → p x ≡ true)) xs
    → sum_by f' (filter p' xs) ≤ sum_by f (filter p xs)
sum_both f' f p' p [] all = omega arith
sum_both {X = X} f' f p' p (x ∷ xs) all = go (p' x) (p x) all.0.1 (sum_both f' f p' p xs all.1)
  where
    go : (a b : Bool) → (a ≡ true → b ≡ true) → sum_by f' (filter p' xs) ≤ sum_by f (filter p xs) → sum_by f' (cond a (x ∷ filter p' xs) (filter p' xs)) ≤
        sum_by f (cond b (x ∷ filter p xs) (filter p xs))
    go true false e rest = absurd (false_true (e refl))
    go true true e rest = let left = sum_by-cons f' x (filter p' xs) in let right = sum_by-cons f x (filter p xs) in
        let here = all.0.0 in omega (arith, left, right, rest, here)
    go false true e rest = let right = sum_by-cons f x (filter p xs) in omega (arith, right, rest)
    go false false e rest = rest

-- equal values have equal sums
sum_same : (f g : ℕ → ℕ) (xs : List ℕ) → AllByRecursion (λ (x : ℕ). f x ≡ g x) xs → sum_by f xs ≡ sum_by g xs
sum_same f g [] all = refl
sum_same f g (x ∷ xs) all = let left = sum_by-cons f x xs in let right = sum_by-cons g x xs in let here = all.0 in
    let rest = sum_same f g xs all.1 in omega (arith, left, right, here, rest)

-- each item passes the test that asks for it
each_page : (list : List Page) → AllByRecursion (λ (file : Page). (n : ℕ) → lists file n ≡ true → list_any (λ (each : Page). lists each n) list ≡ true) list
each_page [] = tt
each_page (file ∷ list) = (
  (λ n e. or_first (lists file n) (list_any (λ (each : Page). lists each n) list) e),
  for_each (λ (other : Page). (n : ℕ) → lists other n ≡ true → list_any (λ (each : Page). lists each n) list ≡ true)
      (λ (other : Page). (n : ℕ) → lists other n ≡ true → list_any (λ (each : Page). lists each n) (file ∷ list) ≡ true) list
      (λ other f n e. or_second (lists file n) (list_any (λ (each : Page). lists each n) list) (f n e)) (each_page list),
)

module _ (s : Session) (h g : History) (x : Build) (adds : Adds (page_limit s) h g x) (stocked : Stocked s h) (same : flying g ≡ flying h)
    (next : next_page g ≡ next_page h)
    (came : (name k : ℕ) → has_come (arrivals h name) k ≡ true → has_come (arrivals g name) k ≡ true) where
  abbrev old : List Build
  old = builds (page_limit s) h

  abbrev all : List Piece
  all = pieces (page_limit s) h

  pub more : (number : ℕ) × (pieces_from (page_limit s) 0 (builds (page_limit s) h ++ x ∷ []) ≡ pieces (page_limit s) h ++ pieces_from (page_limit s) number
      (x ∷ []))
  more = pieces_more (page_limit s) 0 (builds (page_limit s) h) x

  abbrev pub new_pieces : List Piece
  new_pieces = pieces_from (page_limit s) more.0 (x ∷ [])

  pub new_named : AllByRecursion (λ (piece : Piece). piece.blob ≡ x.name) new_pieces
  new_named = subst (λ (xs : List Piece). AllByRecursion (λ (piece : Piece). piece.blob ≡ x.name) xs)
      (sym (append-nil (numbered x.name more.0 (spans_of (page_limit s) x))))
      (numbered_named (λ (n : ℕ). n ≡ x.name) x.name more.0 (spans_of (page_limit s) x) refl)

  -- a known piece is of an older blob
  known_old : (n : ℕ) (known : Known s h n) → named known.piece.blob old ≡ true
  known_old n known = found_all (λ (piece : Piece). named piece.blob old ≡ true) (λ (piece : Piece). piece.number == n) all known.piece
      (pieces_named (page_limit s) 0 old) known.found

  -- no new piece is listed
  new_unlisted : AllByRecursion (λ (piece : Piece). is_listed (pages h) (flying h) piece.number ≡ true → ⊥) new_pieces
  new_unlisted =
      let found : AllByRecursion (λ (piece : Piece). FoundIn (all ++ new_pieces) piece.number piece) (all ++ new_pieces) =
      all_by_number 0 (all ++ new_pieces) (subst (AreNumbered 0) more.1 (pieces_numbered (page_limit s) 0 (old ++ x ∷ []))) in
      two new_pieces (all_second (λ (piece : Piece). FoundIn (all ++ new_pieces) piece.number piece) all new_pieces found) new_named
    where
      two : (list : List Piece) → AllByRecursion (λ (piece : Piece). FoundIn (all ++ new_pieces) piece.number piece) list
          → AllByRecursion (λ (piece : Piece). piece.blob ≡ x.name) list
          → AllByRecursion (λ (piece : Piece). is_listed (pages h) (flying h) piece.number ≡ true → ⊥) list
      two [] p q = tt
      two (piece ∷ list) p q = (
        (λ e.
            let known = stocked.known piece.number e in
            let there : FoundIn (all ++ new_pieces) piece.number known.piece = found_append all new_pieces piece.number known.piece known.found in
            let one : known.piece ≡ piece = (let both = sym there ∙ p.0 in cc) in
            let member : named piece.blob old ≡ true = subst (λ (each : Piece). named each.blob old ≡ true) one (known_old piece.number known) in
            false_true (sym adds.fresh ∙ subst (λ (n : ℕ). named n old ≡ true) q.0 member)),
        two list p.1 q.1,
      )

  -- what is known stays known
  known_more : (n : ℕ) → Known s h n → Known s g n
  known_more n known =
      let member = known_old n known in
      let found : build_in (old ++ x ∷ []) known.piece.blob ≡ build_in old known.piece.blob = found_more old x known.piece.blob member in
      record {
        piece = known.piece;
        found = subst (λ (xs : List Build). FoundIn (pieces_from (page_limit s) 0 xs) n known.piece) (sym adds.blobs)
            (subst (λ (xs : List Piece). FoundIn xs n known.piece) (sym more.1) (found_append all new_pieces n known.piece known.found));
        granted = subst (λ (xs : List Build). is_granted_piece g xs known.piece ≡ true) (sym adds.blobs)
            (ap (λ (o : Option Build). option_map_or (is_granted g) o false) found ∙ equal (build_in old known.piece.blob) ∙ known.granted);
        came =
            λ filed.
            let filed_new : is_filed (old ++ x ∷ []) known.piece.blob ≡ true = subst (λ (xs : List Build). is_filed xs known.piece.blob ≡ true) adds.blobs filed
            in
            let before = known.came (sym (ap (λ (o : Option Build). is_reserved (unlisted_place o)) found) ∙ filed_new) in (
              before.0,
              subst (λ (xs : List Build). slice_get (filter (λ (each : Piece). each.blob == known.piece.blob) (pieces_from (page_limit s) 0 xs)) before.0
                  ≡ Some known.piece) (sym adds.blobs)
                  (subst (λ (xs : List Piece). slice_get (filter (λ (each : Piece). each.blob == known.piece.blob) xs) before.0 ≡ Some known.piece) (sym more.1)
                  (subst (λ (xs : List Piece). slice_get xs before.0 ≡ Some known.piece)
                  (sym (filter_append (λ (each : Piece). each.blob == known.piece.blob) all new_pieces))
                  (get_append (filter (λ (each : Piece). each.blob == known.piece.blob) all)
                  (filter (λ (each : Piece). each.blob == known.piece.blob) new_pieces) before.0 known.piece before.1))),
              came known.piece.blob before.0 before.2,
            );
      }
    where
      equal : (o : Option Build) → option_map_or (is_granted g) o false ≡ option_map_or (is_granted h) o false
      equal None = refl
      equal (Some build) = ap (λ (b : Bool). option_map_or grants_at_once build.plan false || b) (adds.granted build.name)

  pub stocked_more : Stocked s g
  stocked_more = record {
    low = subst (λ (xs : List Page). AllByRecursion (λ (file : Page). file.number < next_page g) xs) (sym adds.written)
        (for_each (λ (file : Page). file.number < next_page h) (λ (file : Page). file.number < next_page g) (pages h) (λ file e. omega (arith, e, next))
        stocked.low);
    apart = subst (λ (xs : List Page). AllByRecursion (λ (file : Page). AreApart file.pieces) xs) (sym adds.written) stocked.apart;
    job_apart = subst AreApart (sym same) stocked.job_apart;
    known = λ n e. known_more n (stocked.known n (sym (λ i. is_listed (adds.written i) (same i) n) ∙ e));
  }

  -- ---- the charge

  abbrev now : Piece → Bool
  now = reached_now (page_limit s) h g x adds

  abbrev was : Piece → Bool
  was = reaches (page_limit s) h old

  length_same : (n : ℕ) → is_listed (pages h) (flying h) n ≡ true → length_in (all ++ new_pieces) n ≡ length_in all n
  length_same n e =
      let known = stocked.known n e in
      length_found (all ++ new_pieces) n known.piece (found_append all new_pieces n known.piece known.found) ∙ sym (length_found all n known.piece known.found)

  -- an older piece is where it was
  place_same : AllByRecursion (λ (piece : Piece). place_at (pages h) (old ++ x ∷ []) piece ≡ place_at (pages h) old piece) all
  place_same =
      for_each (λ (piece : Piece). named piece.blob old ≡ true) (λ (piece : Piece). place_at (pages h) (old ++ x ∷ []) piece ≡ place_at (pages h) old piece) all
      (λ piece member. ap (place_by (page_with (pages h) piece.number)) (found_more old x piece.blob member)) (pieces_named (page_limit s) 0 old)

  -- a new piece is in no page file
  new_place : AllByRecursion (λ (piece : Piece). place_at (pages h) (old ++ x ∷ []) piece ≡ planned_place x.plan) new_pieces
  new_place = two new_pieces new_unlisted new_named
    where
      two : (list : List Piece) → AllByRecursion (λ (piece : Piece). is_listed (pages h) (flying h) piece.number ≡ true → ⊥) list
          → AllByRecursion (λ (piece : Piece). piece.blob ≡ x.name) list
          → AllByRecursion (λ (piece : Piece). place_at (pages h) (old ++ x ∷ []) piece ≡ planned_place x.plan) list
      two [] p q = tt
      two (piece ∷ list) p q = (
        none (page_with (pages h) piece.number) refl ∙ ap unlisted_place
            (ap (build_in (old ++ x ∷ [])) q.0 ∙ found_last old x adds.fresh),
        two list p.1 q.1,
      )
        where
          none : (o : Option Page) → page_with (pages h) piece.number ≡ o → place_by o (build_in (old ++ x ∷ []) piece.blob)
              ≡ unlisted_place (build_in (old ++ x ∷ []) piece.blob)
          none None e = refl
          none (Some file) e =
              absurd (p.0 (or_first (list_any (λ (each : Page). lists each piece.number) (pages h)) (list_any (λ (each : ℕ). each == piece.number) (flying h))
              (listed_by (pages h) piece.number file e)))

  out_of_pages : (n : ℕ) (plan : Option Plan) → is_page n (planned_place plan) ≡ false
  out_of_pages n (Some (plans.File m)) = refl
  out_of_pages n plan = refl

  files_same : in_files (pages h) (pages h) (old ++ x ∷ []) (all ++ new_pieces) (filter now (all ++ new_pieces)) ≤ in_files (pages h) (pages h) old all
      (filter was all)
  files_same =
      sum_both (page_size (all ++ new_pieces)) (page_size all) (has_some (pages h) (old ++ x ∷ []) (filter now (all ++ new_pieces)))
      (has_some (pages h) old (filter was all)) (pages h)
      (for_each (λ (file : Page). (n : ℕ) → lists file n ≡ true → list_any (λ (each : Page). lists each n) (pages h) ≡ true)
      (λ (file : Page). (page_size (all ++ new_pieces) file ≡ page_size all file)
      × (has_some (pages h) (old ++ x ∷ []) (filter now (all ++ new_pieces)) file ≡ true → has_some (pages h) old (filter was all) file ≡ true)) (pages h)
      (λ file listed. (
        sum_same (length_in (all ++ new_pieces)) (length_in all) file.pieces
            (for_each (λ (n : ℕ). list_any (λ (each : ℕ). each == n) file.pieces ≡ true) (λ (n : ℕ). length_in (all ++ new_pieces) n ≡ length_in all n)
            file.pieces
            (λ n e. length_same n (or_first (list_any (λ (each : Page). lists each n) (pages h)) (list_any (λ (each : ℕ). each == n) (flying h)) (listed n e)))
            (all_members file.pieces)),
        (λ e. up file e),
      )) (each_page (pages h)))
    where
      up : (file : Page) → has_some (pages h) (old ++ x ∷ []) (filter now (all ++ new_pieces)) file ≡ true → has_some (pages h) old (filter was all) file ≡ true
      up file e =
          let test : filter (λ (piece : Piece). is_page file.number (place_at (pages h) (old ++ x ∷ []) piece)) (filter now (all ++ new_pieces))
          ≡ filter (λ (piece : Piece). is_page file.number (place_at (pages h) (old ++ x ∷ []) piece)) (filter now all)
          ++ filter (λ (piece : Piece). is_page file.number (place_at (pages h) (old ++ x ∷ []) piece)) (filter now new_pieces) =
          ap (filter (λ (piece : Piece). is_page file.number (place_at (pages h) (old ++ x ∷ []) piece))) (filter_append now all new_pieces)
          ∙ filter_append (λ (piece : Piece). is_page file.number (place_at (pages h) (old ++ x ∷ []) piece)) (filter now all) (filter now new_pieces) in
          let none : filter (λ (piece : Piece). is_page file.number (place_at (pages h) (old ++ x ∷ []) piece)) (filter now new_pieces) ≡ [] =
          filter_none (λ (piece : Piece). is_page file.number (place_at (pages h) (old ++ x ∷ []) piece)) (filter now new_pieces)
          (filter_all (λ (piece : Piece). is_page file.number (place_at (pages h) (old ++ x ∷ []) piece) ≡ false) now new_pieces
          (for_each (λ (piece : Piece). place_at (pages h) (old ++ x ∷ []) piece ≡ planned_place x.plan)
          (λ (piece : Piece). is_page file.number (place_at (pages h) (old ++ x ∷ []) piece) ≡ false) new_pieces
          (λ piece at. ap (is_page file.number) at ∙ out_of_pages file.number x.plan) new_place)) in
          let only : nat_lt 0 (length (filter (λ (piece : Piece). is_page file.number (place_at (pages h) (old ++ x ∷ []) piece)) (filter now all))) ≡ true =
          subst (λ (xs : List Piece). nat_lt 0 (length xs) ≡ true)
          (test ∙ ap (λ (ys : List Piece). filter (λ (piece : Piece). is_page file.number (place_at (pages h) (old ++ x ∷ []) piece)) (filter now all) ++ ys)
          none ∙ append-nil (filter (λ (piece : Piece). is_page file.number (place_at (pages h) (old ++ x ∷ []) piece)) (filter now all))) e in
          some_up (λ (piece : Piece). is_page file.number (place_at (pages h) (old ++ x ∷ []) piece)) now
          (λ (piece : Piece). is_page file.number (place_at (pages h) old piece)) was all
          (two all place_same (old_reached (page_limit s) h g x adds)) only
        where
          two : (list : List Piece) → AllByRecursion (λ (piece : Piece). place_at (pages h) (old ++ x ∷ []) piece ≡ place_at (pages h) old piece) list
              → AllByRecursion (λ (piece : Piece). now piece ≡ true → was piece ≡ true) list
              → AllByRecursion (λ (piece : Piece). is_page file.number (place_at (pages h) (old ++ x ∷ []) piece) ≡ true → now piece ≡ true
              → (is_page file.number (place_at (pages h) old piece) ≡ true) × (was piece ≡ true)) list
          two [] p q = tt
          two (piece ∷ list) p q = ((λ at reach. (sym (ap (is_page file.number) p.0) ∙ at, q.0 reach)), two list p.1 q.1)

  abbrev pub new_reserve : ℕ
  new_reserve = in_reserve (pages h) (old ++ x ∷ []) (filter now new_pieces)

  reserve_same : in_reserve (pages h) (old ++ x ∷ []) (filter now (all ++ new_pieces)) ≤ in_reserve (pages h) old (filter was all) + new_reserve
  reserve_same =
      let parted : in_reserve (pages h) (old ++ x ∷ []) (filter now (all ++ new_pieces)) ≡ in_reserve (pages h) (old ++ x ∷ []) (filter now all) + new_reserve =
      ap (λ (xs : List Piece). in_reserve (pages h) (old ++ x ∷ []) xs) (filter_append now all new_pieces)
      ∙ ap bytes_of (filter_append (λ (piece : Piece). is_reserved (place_at (pages h) (old ++ x ∷ []) piece)) (filter now all) (filter now new_pieces))
      ∙ sum_by-append (λ (piece : Piece). piece.len) (filter (λ (piece : Piece). is_reserved (place_at (pages h) (old ++ x ∷ []) piece)) (filter now all))
      (filter (λ (piece : Piece). is_reserved (place_at (pages h) (old ++ x ∷ []) piece)) (filter now new_pieces)) in
      let less = sum_where (λ (piece : Piece). piece.len) (λ (piece : Piece). is_reserved (place_at (pages h) (old ++ x ∷ []) piece)) now
      (λ (piece : Piece). is_reserved (place_at (pages h) old piece)) was all (two all place_same (old_reached (page_limit s) h g x adds)) in
      omega (arith, parted, less)
    where
      two : (list : List Piece) → AllByRecursion (λ (piece : Piece). place_at (pages h) (old ++ x ∷ []) piece ≡ place_at (pages h) old piece) list
          → AllByRecursion (λ (piece : Piece). now piece ≡ true → was piece ≡ true) list
          → AllByRecursion (λ (piece : Piece). is_reserved (place_at (pages h) (old ++ x ∷ []) piece) ≡ true → now piece ≡ true
          → (is_reserved (place_at (pages h) old piece) ≡ true) × (was piece ≡ true)) list
      two [] p q = tt
      two (piece ∷ list) p q = ((λ at reach. (sym (ap is_reserved p.0) ∙ at, q.0 reach)), two list p.1 q.1)

  job_same : in_job (flying h) (all ++ new_pieces) (filter now (all ++ new_pieces)) ≤ in_job (flying h) all (filter was all)
  job_same =
      sum_both (length_in (all ++ new_pieces)) (length_in all) (has_number (filter now (all ++ new_pieces))) (has_number (filter was all)) (flying h)
      (for_each (λ (n : ℕ). list_any (λ (each : ℕ). each == n) (flying h) ≡ true)
      (λ (n : ℕ). (length_in (all ++ new_pieces) n ≡ length_in all n)
      × (has_number (filter now (all ++ new_pieces)) n ≡ true → has_number (filter was all) n ≡ true)) (flying h)
      (λ n e.
      let listed = or_second (list_any (λ (each : Page). lists each n) (pages h)) (list_any (λ (each : ℕ). each == n) (flying h)) e in
      (length_same n (or_second (list_any (λ (each : Page). lists each n) (pages h)) (list_any (λ (each : ℕ). each == n) (flying h)) e), (λ f. up n listed f)))
      (all_members (flying h)))
    where
      parts_any : (test : Piece → Bool) (xs ys : List Piece) → list_any test (xs ++ ys) ≡ true → (list_any test xs ≡ true) ⊎ (list_any test ys ≡ true)
      parts_any test [] ys e = inr e
      parts_any test (y ∷ xs) ys e = ⊎_elim (λ (here : test y ≡ true). inl (or_first (test y) (list_any test xs) here))
          (λ (rest : list_any test (xs ++ ys) ≡ true). ⊎_elim (λ (a : list_any test xs ≡ true). inl (or_second (test y) (list_any test xs) a))
          (λ (b : list_any test ys ≡ true). inr b) (parts_any test xs ys rest)) (or_cases (test y) (list_any test (xs ++ ys)) e)

      none : (n : ℕ) → is_listed (pages h) (flying h) n ≡ true → (list : List Piece)
          → AllByRecursion (λ (piece : Piece). is_listed (pages h) (flying h) piece.number ≡ true → ⊥) list → list_any (λ (piece : Piece). piece.number == n)
          list ≡ true → ⊥
      none n listed [] free e = false_true e
      none n listed (piece ∷ list) free e =
          ⊎_elim (λ (here : (piece.number == n) ≡ true). free.0 (subst (λ (m : ℕ). is_listed (pages h) (flying h) m ≡ true) (sym (eqb-true piece.number n here))
          listed)) (λ (rest : list_any (λ (each : Piece). each.number == n) list ≡ true). none n listed list free.1 rest)
          (or_cases (piece.number == n) (list_any (λ (each : Piece). each.number == n) list) e)

      up : (n : ℕ) → is_listed (pages h) (flying h) n ≡ true → has_number (filter now (all ++ new_pieces)) n ≡ true → has_number (filter was all) n ≡ true
      up n listed e =
          ⊎_elim
          (λ (old_one : list_any (λ (piece : Piece). piece.number == n) (filter now all) ≡ true).
          any_filtered (λ (piece : Piece). piece.number == n) now was all
          (for_each (λ (piece : Piece). now piece ≡ true → was piece ≡ true) (λ (piece : Piece). (piece.number == n) ≡ true → now piece ≡ true → was piece
          ≡ true) all (λ piece f at reach. f reach) (old_reached (page_limit s) h g x adds)) old_one)
          (λ (new_one : list_any (λ (piece : Piece). piece.number == n) (filter now new_pieces) ≡ true).
          absurd (none n listed (filter now new_pieces) (filter_all (λ (piece : Piece). is_listed (pages h) (flying h) piece.number ≡ true → ⊥) now new_pieces
          new_unlisted) new_one))
          (parts_any (λ (piece : Piece). piece.number == n) (filter now all) (filter now new_pieces)
          (subst (λ (xs : List Piece). list_any (λ (piece : Piece). piece.number == n) xs ≡ true) (filter_append now all new_pieces) e))

  pub disk_adds : disk (page_limit s) g ≤ disk (page_limit s) h + new_reserve
  disk_adds =
      let here : disk (page_limit s) g ≡ charge_with (page_limit s) g (pages h) (flying h) (old ++ x ∷ []) =
      disk_as (page_limit s) g ∙ (λ i. charge_with (page_limit s) g (adds.written i) (same i) (adds.blobs i)) in
      let pieces_are : charge_with (page_limit s) g (pages h) (flying h) (old ++ x ∷ []) ≡ charge (pages h) (flying h) (old ++ x ∷ []) (all ++ new_pieces)
      (filter now (all ++ new_pieces)) =
      ap (λ (xs : List Piece). charge (pages h) (flying h) (old ++ x ∷ []) xs (filter now xs)) more.1 in
      let before = disk_as (page_limit s) h in
      omega (arith, here, pieces_are, before, files_same, reserve_same, job_same)

  -- where the plan isn't file nothing is reserved
  pub none_reserved : is_reserved (planned_place x.plan) ≡ false → new_reserve ≤ 0
  none_reserved e =
      let none : filter (λ (piece : Piece). is_reserved (place_at (pages h) (old ++ x ∷ []) piece)) (filter now new_pieces) ≡ [] =
      filter_none (λ (piece : Piece). is_reserved (place_at (pages h) (old ++ x ∷ []) piece)) (filter now new_pieces)
      (filter_all (λ (piece : Piece). is_reserved (place_at (pages h) (old ++ x ∷ []) piece) ≡ false) now new_pieces
      (for_each (λ (piece : Piece). place_at (pages h) (old ++ x ∷ []) piece ≡ planned_place x.plan)
      (λ (piece : Piece). is_reserved (place_at (pages h) (old ++ x ∷ []) piece) ≡ false) new_pieces (λ piece at. ap is_reserved at ∙ e) new_place)) in
      let zeroed : new_reserve ≡ 0 = ap bytes_of none in
      omega (arith, zeroed)

  -- at most all the bytes of the new pieces
  pub reserved_most : new_reserve ≤ bytes_of new_pieces
  reserved_most =
      let a = filter_less (λ (piece : Piece). piece.len) (λ (piece : Piece). is_reserved (place_at (pages h) (old ++ x ∷ []) piece)) (filter now new_pieces) in
      let b = filter_less (λ (piece : Piece). piece.len) now new_pieces in
      omega (arith, a, b)
