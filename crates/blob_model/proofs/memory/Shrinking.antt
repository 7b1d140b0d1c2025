-- Where roots, unfinished and unbroken blobs, grants and pieces in memory only go, the bytes in memory don't grow.
use Rattle.std.proofs.Common.{◌≡◌, ℕ, ◌+◌, ◌≤◌, Bool, true, false, ◌&&◌, ◌||◌, not, List, [], ◌∷◌, map, reverse, refl, ap, subst, sym, ◌∙◌, ⊎_elim, arith, Option, Some, None}
use Rattle.std.specs.Prelude.{cond, filter, sum_by}
use Rattle.std.specs.Option.{option_map_or}
use Rattle.std.specs.List.{list_any}
use Rattle.std.proofs.lemmas.Bool.{and_parts}
use Rattle.std.proofs.lemmas.List.Sums.{sum_by-cons}
use Rattle.blob_model.specs.History.{History}
use Rattle.blob_model.specs.Builds.{Cell, Build, builds, build_in}
use Rattle.blob_model.specs.Standing.{is_unfinished, is_broken, was_granted, is_granted, grants_at_once}
use Rattle.blob_model.specs.Live.{is_rooted, has_source, is_needed, live_from, live}
use Rattle.blob_model.specs.Pieces.{Piece, pieces, pieces_from, owns}
use Rattle.blob_model.specs.Reached.{some_passes, live_cells, is_granted_piece, owns_some}
use Rattle.blob_model.specs.Pages.{Page, pages, page_with, place_in, place_by, is_memory}
use Rattle.blob_model.specs.Tally.{memory, bytes_of}
use Rattle.blob_model.proofs.Lists.{any_same, any_up, both, false_true, or_cases, or_first, or_second}

-- whatever is among the first is among the second
abbrev pub Sub : List Build → List Build → Type 0
Sub xs ys = (test : Build → Bool) → list_any test xs ≡ true → list_any test ys ≡ true

sub_both : (build : Build) (xs ys : List Build) → Sub xs ys → Sub (build ∷ xs) (build ∷ ys)
sub_both build xs ys sub test e =
    ⊎_elim (λ (here : test build ≡ true). or_first (test build) (list_any test ys) here)
    (λ (more : list_any test xs ≡ true). or_second (test build) (list_any test ys) (sub test more)) (or_cases (test build) (list_any test xs) e)

sub_more : (build : Build) (xs ys : List Build) → Sub xs ys → Sub xs (build ∷ ys)
sub_more build xs ys sub test e = or_second (test build) (list_any test ys) (sub test e)

pub live_sub : (page : ℕ) (h g : History) (earlier later' later : List Build) → ((name : ℕ) → is_rooted page g name ≡ true → is_rooted page h name ≡ true)
    → ((name : ℕ) → is_unfinished g name ≡ true → is_unfinished h name ≡ true) → Sub later' later → Sub (live_from page g earlier later')
    (live_from page h earlier later)
live_sub page h g [] later' later roots begun sub = sub
live_sub page h g (build ∷ earlier) later' later roots begun sub =
    go (is_rooted page g build.name || is_needed g later' build.name) (is_rooted page h build.name || is_needed h later build.name) up
    (λ xs ys s. live_sub page h g earlier xs ys roots begun s)
  where
    up : (is_rooted page g build.name || is_needed g later' build.name) ≡ true → (is_rooted page h build.name || is_needed h later build.name) ≡ true
    up e =
        ⊎_elim (λ (root : is_rooted page g build.name ≡ true). or_first (is_rooted page h build.name) (is_needed h later build.name) (roots build.name root))
        (λ (needed : is_needed g later' build.name ≡ true).
        or_second (is_rooted page h build.name) (is_needed h later build.name)
        (any_up (λ (each : Build). is_unfinished g each.name && has_source each build.name)
        (λ (each : Build). is_unfinished h each.name && has_source each build.name) later
        (λ each f. let parts = and_parts (is_unfinished g each.name) (has_source each build.name) f in
        both (is_unfinished h each.name) (has_source each build.name) (begun each.name parts.0) parts.1)
        (sub (λ (each : Build). is_unfinished g each.name && has_source each build.name) needed)))
        (or_cases (is_rooted page g build.name) (is_needed g later' build.name) e)

    go : (a b : Bool) → (a ≡ true → b ≡ true) → ((xs ys : List Build) → Sub xs ys → Sub (live_from page g earlier xs) (live_from page h earlier ys))
        → Sub (live_from page g earlier (cond a (build ∷ later') later')) (live_from page h earlier (cond b (build ∷ later) later))
    go true false f rest = absurd (false_true (f refl))
    go true true f rest = rest (build ∷ later') (build ∷ later) (sub_both build later' later sub)
    go false true f rest = rest later' (build ∷ later) (sub_more build later' later sub)
    go false false f rest = rest later' later sub

-- ---- cells of live blobs

pub some_any : {X : Type 0} (test : X → Bool) (xs : List X) → some_passes test xs ≡ list_any test xs
some_any test [] = refl
some_any {X = X} test (x ∷ xs) = go (test x) (some_any test xs)
  where
    go : (b : Bool) → some_passes test xs ≡ list_any test xs → (elim b as (λ (c : Bool). Bool) [ true ↦ true | false ↦ some_passes test xs ])
        ≡ (b || list_any test xs)
    go true rest = refl
    go false rest = rest

pub some_twice : {X : Type 0} (test : X → Bool) (lists : List (List X)) → some_passes (λ (xs : List X). some_passes test xs) lists
    ≡ list_any (λ (xs : List X). list_any test xs) lists
some_twice {X = X} test lists = some_any (λ (xs : List X). some_passes test xs) lists ∙ any_same (λ (xs : List X). some_passes test xs)
    (λ (xs : List X). list_any test xs) lists (some_any test)

-- a live unbroken blob has a cell of the piece
abbrev pub holds_piece : History → Piece → Build → Bool
holds_piece h piece build = not (is_broken h build.name) && some_passes (owns piece) build.cells

cells_any : (h : History) (piece : Piece) (list : List Build)
    → list_any (λ (cells : List Cell). some_passes (owns piece) cells)
    (map (λ (build : Build). build.cells) (filter (λ (build : Build). not (is_broken h build.name)) list)) ≡ list_any (holds_piece h piece) list
cells_any h piece [] = refl
cells_any h piece (build ∷ list) = go (not (is_broken h build.name)) (cells_any h piece list)
  where
    go : (b : Bool)
        → list_any (λ (cells : List Cell). some_passes (owns piece) cells)
        (map (λ (each : Build). each.cells) (filter (λ (each : Build). not (is_broken h each.name)) list)) ≡ list_any (holds_piece h piece) list
        → list_any (λ (cells : List Cell). some_passes (owns piece) cells)
        (map (λ (each : Build). each.cells) (cond b (build ∷ filter (λ (each : Build). not (is_broken h each.name)) list)
        (filter (λ (each : Build). not (is_broken h each.name)) list)))
        ≡ ((b && some_passes (owns piece) build.cells) || list_any (holds_piece h piece) list)
    go true rest = ap (λ (c : Bool). some_passes (owns piece) build.cells || c) rest
    go false rest = rest

pub owns_as : (page : ℕ) (h : History) (piece : Piece) → owns_some (live_cells page h) piece ≡ list_any (holds_piece h piece) (live page h)
owns_as page h piece = some_any (λ (cells : List Cell). some_passes (owns piece) cells) (live_cells page h) ∙ cells_any h piece (live page h)

-- ---- sums

pub sum_filtered : {X : Type 0} (f : X → ℕ) (p' q' p q : X → Bool) (xs : List X) → ((x : X) → p' x ≡ true → q' x ≡ true → (p x ≡ true) × (q x ≡ true))
    → sum_by f (filter p' (filter q' xs)) ≤ sum_by f (filter p (filter q xs))
sum_filtered f p' q' p q [] up = omega arith
sum_filtered {X = X} f p' q' p q (x ∷ xs) up = go (q' x) (q x) (p' x) (p x) refl refl (up x) (sum_filtered f p' q' p q xs up)
  where
    there : (b : Bool) (t : X → Bool) (ys : List X) → sum_by f (filter t ys) ≤ sum_by f (cond b (x ∷ filter t ys) (filter t ys))
    there true t ys = let whole : sum_by f (x ∷ filter t ys) ≡ f x + sum_by f (filter t ys) = sum_by-cons f x (filter t ys) in omega (arith, whole)
    there false t ys = omega arith

    wide : (b : Bool) → sum_by f (filter p' (filter q' xs)) ≤ sum_by f (filter p (filter q xs)) → sum_by f (filter p' (filter q' xs)) ≤ sum_by f
        (filter p (cond b (x ∷ filter q xs) (filter q xs)))
    wide true rest = let more = there (p x) p (filter q xs) in omega (arith, rest, more)
    wide false rest = rest

    go : (a b c d : Bool) → p' x ≡ c → p x ≡ d → (c ≡ true → a ≡ true → (d ≡ true) × (b ≡ true)) → sum_by f (filter p' (filter q' xs)) ≤ sum_by f
        (filter p (filter q xs))
        → sum_by f (filter p' (cond a (x ∷ filter q' xs) (filter q' xs))) ≤ sum_by f (filter p (cond b (x ∷ filter q xs) (filter q xs)))
    go false b c d at_c at_d ok rest = wide b rest
    go true b false d at_c at_d ok rest =
        let here : filter p' (x ∷ filter q' xs) ≡ filter p' (filter q' xs) = ap (λ (e : Bool). cond e (x ∷ filter p' (filter q' xs)) (filter p' (filter q' xs)))
        at_c in
        let moved : sum_by f (filter p' (x ∷ filter q' xs)) ≡ sum_by f (filter p' (filter q' xs)) = ap (sum_by f) here in
        let more = wide b rest in
        omega (arith, moved, more)
    go true false true d at_c at_d ok rest = absurd (false_true (ok refl refl).1)
    go true true true false at_c at_d ok rest = absurd (false_true (ok refl refl).0)
    go true true true true at_c at_d ok rest =
        let left : sum_by f (filter p' (x ∷ filter q' xs)) ≡ f x + sum_by f (filter p' (filter q' xs)) =
        ap (λ (e : Bool). sum_by f (cond e (x ∷ filter p' (filter q' xs)) (filter p' (filter q' xs)))) at_c ∙ sum_by-cons f x (filter p' (filter q' xs)) in
        let right : sum_by f (filter p (x ∷ filter q xs)) ≡ f x + sum_by f (filter p (filter q xs)) =
        ap (λ (e : Bool). sum_by f (cond e (x ∷ filter p (filter q xs)) (filter p (filter q xs)))) at_d ∙ sum_by-cons f x (filter p (filter q xs)) in
        omega (arith, left, right, rest)

-- ---- memory

pub record Shrinks (page : ℕ) (h g : History) : Type 0 where
  pub blobs : builds page g ≡ builds page h
  pub roots : (name : ℕ) → is_rooted page g name ≡ true → is_rooted page h name ≡ true
  pub begun : (name : ℕ) → is_unfinished g name ≡ true → is_unfinished h name ≡ true
  pub broken : (name : ℕ) → is_broken h name ≡ true → is_broken g name ≡ true
  pub granted : (name : ℕ) → was_granted g name ≡ true → was_granted h name ≡ true
  pub unlisted : (number : ℕ) → page_with (pages g) number ≡ None → page_with (pages h) number ≡ None

still_unbroken : (b c : Bool) → (c ≡ true → b ≡ true) → not b ≡ true → not c ≡ true
still_unbroken b false f e = refl
still_unbroken true true f e = e
still_unbroken false true f e = absurd (false_true (f refl))

pub holds_before : (page : ℕ) (h g : History) (piece : Piece) → Shrinks page h g → owns_some (live_cells page g) piece ≡ true → owns_some (live_cells page h)
    piece ≡ true
holds_before page h g piece shrinks e =
    let now : list_any (holds_piece g piece) (live page g) ≡ true = sym (owns_as page g piece) ∙ e in
    let moved : list_any (holds_piece g piece) (live_from page g (reverse (builds page h)) []) ≡ true =
    subst (λ (xs : List Build). list_any (holds_piece g piece) (live_from page g (reverse xs) []) ≡ true) shrinks.blobs now in
    let among : list_any (holds_piece g piece) (live page h) ≡ true = live_sub page h g (reverse (builds page h)) [] [] shrinks.roots shrinks.begun
    (λ test f. f) (holds_piece g piece) moved in
    owns_as page h piece
    ∙ any_up (holds_piece g piece) (holds_piece h piece) (live page h)
    (λ build f.
    let parts = and_parts (not (is_broken g build.name)) (some_passes (owns piece) build.cells) f in
    both (not (is_broken h build.name)) (some_passes (owns piece) build.cells)
    (still_unbroken (is_broken g build.name) (is_broken h build.name) (shrinks.broken build.name) parts.0) parts.1)
    among

pub granted_before : (page : ℕ) (h g : History) (list : List Build) (piece : Piece) → Shrinks page h g → is_granted_piece g list piece ≡ true
    → is_granted_piece h list piece ≡ true
granted_before page h g list piece shrinks e = go (build_in list piece.blob) e
  where
    go : (found : Option Build) → option_map_or (is_granted g) found false ≡ true → option_map_or (is_granted h) found false ≡ true
    go None f = f
    go (Some build) f =
        ⊎_elim (λ (once : option_map_or grants_at_once build.plan false ≡ true). or_first (option_map_or grants_at_once build.plan false)
        (was_granted h build.name) once)
        (λ (was : was_granted g build.name ≡ true). or_second (option_map_or grants_at_once build.plan false) (was_granted h build.name)
        (shrinks.granted build.name was))
        (or_cases (option_map_or grants_at_once build.plan false) (was_granted g build.name) f)

memory_before : (page : ℕ) (h g : History) (list : List Build) (piece : Piece) → Shrinks page h g → is_memory (place_in g list piece) ≡ true
    → is_memory (place_in h list piece) ≡ true
memory_before page h g list piece shrinks e = go (page_with (pages g) piece.number) refl e
  where
    go : (found : Option Page) → page_with (pages g) piece.number ≡ found → is_memory (place_by found (build_in list piece.blob)) ≡ true
        → is_memory (place_in h list piece) ≡ true
    go None at f = ap (λ (o : Option Page). is_memory (place_by o (build_in list piece.blob))) (shrinks.unlisted piece.number at) ∙ f
    go (Some file) at f = absurd (false_true f)

pub memory_shrinks : (page : ℕ) (h g : History) → Shrinks page h g → memory page g ≤ memory page h
memory_shrinks page h g shrinks =
    let moved : memory page g ≡ bytes_of (filter (λ (piece : Piece). is_memory (place_in g (builds page h) piece))
    (filter (λ (piece : Piece). is_granted_piece g (builds page h) piece && owns_some (live_cells page g) piece) (pieces page h))) =
    (λ i. bytes_of (filter (λ (piece : Piece). is_memory (place_in g (shrinks.blobs i) piece))
    (filter (λ (piece : Piece). is_granted_piece g (shrinks.blobs i) piece && owns_some (live_cells page g) piece) (pieces_from page 0 (shrinks.blobs i)))))
    in
    let less = sum_filtered (λ (piece : Piece). piece.len) (λ (piece : Piece). is_memory (place_in g (builds page h) piece))
    (λ (piece : Piece). is_granted_piece g (builds page h) piece && owns_some (live_cells page g) piece)
    (λ (piece : Piece). is_memory (place_in h (builds page h) piece))
    (λ (piece : Piece). is_granted_piece h (builds page h) piece && owns_some (live_cells page h) piece) (pieces page h)
    (λ piece at_memory at_reach.
    let parts = and_parts (is_granted_piece g (builds page h) piece) (owns_some (live_cells page g) piece) at_reach in (
      memory_before page h g (builds page h) piece shrinks at_memory,
      both (is_granted_piece h (builds page h) piece) (owns_some (live_cells page h) piece) (granted_before page h g (builds page h) piece shrinks parts.0)
          (holds_before page h g piece shrinks parts.1),
    )) in
    subst (λ (n : ℕ). n ≤ memory page h) (sym moved) less
