-- A line that builds a blob keeps the bytes in memory within the limit.
use Rattle.std.proofs.Common.{◌≡◌, ◌⊎◌, ℕ, zero, suc, ◌+◌, ◌==◌, Bool, true, false, ◌&&◌, ◌||◌, List, [], ◌∷◌, map, take, drop, length, refl, subst, sym, ◌∙◌, inl, inr, ⊎_elim, Some}
use Rattle.std.specs.Prelude.{cond}
use Rattle.std.specs.List.{list_any, range_with_len}
use Rattle.std.proofs.lemmas.Bool.{and_parts, or_parts, eqb-true, eq-eqb}
use Rattle.session_script.specs.declared.event.Part.{Part}
use Rattle.session_script.specs.declared.event.Part.TheVariants.{Embedded, Asked, FileRange, BlobRange, HandleRange}
use Rattle.blob_model.specs.History.{History}
use Rattle.blob_model.specs.Parts.{sources}
use Rattle.blob_model.specs.Builds.{Cell, sent, filed, lent, Build, build_in, cells_in, cells_of, own_cells, file_cells, handle_cells}
use Rattle.blob_model.specs.Standing.{is_unfinished}
use Rattle.blob_model.specs.Live.{is_rooted, has_source, is_needed, live_from}
use Rattle.blob_model.specs.Pieces.{Piece, owns}
use Rattle.blob_model.proofs.Lists.{any_parts, any_up, both, false_true, or_cases, or_first, or_second}
use Rattle.blob_model.proofs.live.Least.{named}

-- ---- liveness with one more blob

-- each of the first is the new blob or among the second
abbrev pub SubOr : Build → List Build → List Build → Type 0
SubOr x xs ys = (test : Build → Bool) → list_any test xs ≡ true → (test x ≡ true) ⊎ (list_any test ys ≡ true)

pub live_plus : (page : ℕ) (h g : History) (x : Build) (earlier later' later : List Build)
    → ((name : ℕ) → is_rooted page g name ≡ true → (is_rooted page h name ≡ true) ⊎ ((name == x.name) ≡ true))
    → ((name : ℕ) → is_unfinished g name ≡ true → (is_unfinished h name ≡ true))
    → ((source : ℕ) → is_unfinished g x.name ≡ true → has_source x source ≡ true → is_rooted page h source ≡ true)
    → named x.name earlier ≡ false → SubOr x later' later → SubOr x (live_from page g earlier later') (live_from page h earlier later)
live_plus page h g x [] later' later roots begun needs fresh sub = sub
live_plus page h g x (build ∷ earlier) later' later roots begun needs fresh sub =
    go (is_rooted page g build.name || is_needed g later' build.name) (is_rooted page h build.name || is_needed h later build.name) up
    (λ xs ys s. live_plus page h g x earlier xs ys roots begun needs (or_parts (build.name == x.name) (named x.name earlier) fresh).1 s)
  where
    rooted : is_rooted page g build.name ≡ true → is_rooted page h build.name ≡ true
    rooted e =
        ⊎_elim (λ (root : is_rooted page h build.name ≡ true). root)
        (λ (same : (build.name == x.name) ≡ true). absurd (false_true (sym (or_parts (build.name == x.name) (named x.name earlier) fresh).0 ∙ same)))
        (roots build.name e)

    up : (is_rooted page g build.name || is_needed g later' build.name) ≡ true → (is_rooted page h build.name || is_needed h later build.name) ≡ true
    up e =
        ⊎_elim (λ (root : is_rooted page g build.name ≡ true). or_first (is_rooted page h build.name) (is_needed h later build.name) (rooted root))
        (λ (needed : is_needed g later' build.name ≡ true).
        ⊎_elim
        (λ (by_x : (is_unfinished g x.name && has_source x build.name) ≡ true). or_first (is_rooted page h build.name) (is_needed h later build.name)
        (needs build.name (and_parts (is_unfinished g x.name) (has_source x build.name) by_x).0
        (and_parts (is_unfinished g x.name) (has_source x build.name) by_x).1))
        (λ (by_later : list_any (λ (each : Build). is_unfinished g each.name && has_source each build.name) later ≡ true).
        or_second (is_rooted page h build.name) (is_needed h later build.name)
        (any_up (λ (each : Build). is_unfinished g each.name && has_source each build.name)
        (λ (each : Build). is_unfinished h each.name && has_source each build.name) later
        (λ each f. let parts = and_parts (is_unfinished g each.name) (has_source each build.name) f in
        both (is_unfinished h each.name) (has_source each build.name) (begun each.name parts.0) parts.1) by_later))
        (sub (λ (each : Build). is_unfinished g each.name && has_source each build.name) needed))
        (or_cases (is_rooted page g build.name) (is_needed g later' build.name) e)

    both_more : SubOr x (build ∷ later') (build ∷ later)
    both_more test e =
        ⊎_elim (λ (here : test build ≡ true). inr (or_first (test build) (list_any test later) here))
        (λ (more : list_any test later' ≡ true). ⊎_elim (λ (at_x : test x ≡ true). inl at_x)
        (λ (old : list_any test later ≡ true). inr (or_second (test build) (list_any test later) old)) (sub test more))
        (or_cases (test build) (list_any test later') e)

    one_more : SubOr x later' (build ∷ later)
    one_more test e = ⊎_elim (λ (at_x : test x ≡ true). inl at_x) (λ (old : list_any test later ≡ true). inr (or_second (test build) (list_any test later) old))
        (sub test e)

    go : (a b : Bool) → (a ≡ true → b ≡ true) → ((xs ys : List Build) → SubOr x xs ys → SubOr x (live_from page g earlier xs) (live_from page h earlier ys))
        → SubOr x (live_from page g earlier (cond a (build ∷ later') later')) (live_from page h earlier (cond b (build ∷ later) later))
    go true false f rest = absurd (false_true (f refl))
    go true true f rest = rest (build ∷ later') (build ∷ later) both_more
    go false true f rest = rest later' (build ∷ later) one_more
    go false false f rest = rest later' later sub

-- a rooted blob that passes a test is found among the live ones
any_live : (page : ℕ) (h : History) (test : Build → Bool) (earlier later : List Build) → list_any test later ≡ true
    → list_any test (live_from page h earlier later) ≡ true
any_live page h test [] later e = e
any_live page h test (build ∷ earlier) later e = go (is_rooted page h build.name || is_needed h later build.name) (λ more. any_live page h test earlier more)
  where
    go : (b : Bool) → ((more : List Build) → list_any test more ≡ true → list_any test (live_from page h earlier more) ≡ true)
        → list_any test (live_from page h earlier (cond b (build ∷ later) later)) ≡ true
    go true rest = rest (build ∷ later) (or_second (test build) (list_any test later) e)
    go false rest = rest later e

pub rooted_any : (page : ℕ) (h : History) (name : ℕ) (test : Build → Bool) (earlier later : List Build) → is_rooted page h name ≡ true
    → list_any (λ (build : Build). (build.name == name) && test build) earlier ≡ true
    → list_any test (live_from page h earlier later) ≡ true
rooted_any page h name test [] later rooted e = absurd (false_true e)
rooted_any page h name test (build ∷ earlier) later rooted e =
    ⊎_elim
    (λ (here : ((build.name == name) && test build) ≡ true).
    let parts = and_parts (build.name == name) (test build) here in
    let same : build.name ≡ name = eqb-true build.name name parts.0 in
    let root : (is_rooted page h build.name || is_needed h later build.name) ≡ true = or_first (is_rooted page h build.name) (is_needed h later build.name)
    (subst (λ (n : ℕ). is_rooted page h n ≡ true) (sym same) rooted) in
    subst (λ (b : Bool). list_any test (live_from page h earlier (cond b (build ∷ later) later)) ≡ true) (sym root)
    (any_live page h test earlier (build ∷ later) (or_first (test build) (list_any test later) parts.1)))
    (λ (more : list_any (λ (each : Build). (each.name == name) && test each) earlier ≡ true).
    rooted_any page h name test earlier (cond (is_rooted page h build.name || is_needed h later build.name) (build ∷ later) later) rooted more)
    (or_cases ((build.name == name) && test build) (list_any (λ (each : Build). (each.name == name) && test each) earlier) e)

-- ---- cells of a new blob are its own or those of its sources

not_own : (piece : Piece) (name from len : ℕ) → (name == piece.blob) ≡ false → list_any (owns piece) (own_cells name from len) ≡ false
not_own piece name from len other = go (range_with_len from len)
  where
    go : (list : List ℕ) → list_any (owns piece) (map (λ (index : ℕ). sent name index) list) ≡ false
    go [] = refl
    go (index ∷ list) = rw (other, go list) refl

not_file : (piece : Piece) (name : List ℕ) (stamp : ℕ) (list : List ℕ) → list_any (owns piece) (map (λ (index : ℕ). filed name stamp index) list) ≡ false
not_file piece name stamp [] = refl
not_file piece name stamp (index ∷ list) = not_file piece name stamp list

not_handle : (piece : Piece) (slot : ℕ) (list : List ℕ) → list_any (owns piece) (map (λ (index : ℕ). lent slot index) list) ≡ false
not_handle piece slot [] = refl
not_handle piece slot (index ∷ list) = not_handle piece slot list

any_taken : (test : Cell → Bool) (n : ℕ) (list : List Cell) → list_any test (take n list) ≡ true → list_any test list ≡ true
any_taken test zero list e = absurd (false_true e)
any_taken test (suc n) [] e = absurd (false_true e)
any_taken test (suc n) (x ∷ list) e =
    ⊎_elim (λ (here : test x ≡ true). or_first (test x) (list_any test list) here)
    (λ (more : list_any test (take n list) ≡ true). or_second (test x) (list_any test list) (any_taken test n list more))
    (or_cases (test x) (list_any test (take n list)) e)

any_dropped : (test : Cell → Bool) (n : ℕ) (list : List Cell) → list_any test (drop n list) ≡ true → list_any test list ≡ true
any_dropped test zero list e = e
any_dropped test (suc n) [] e = absurd (false_true e)
any_dropped test (suc n) (x ∷ list) e = or_second (test x) (list_any test list) (any_dropped test n list e)

-- a source whose cells the piece owns
abbrev pub OwnsSource : List Build → Piece → List Part → Type 0
OwnsSource list piece parts = (source : ℕ) × (list_any (λ (each : ℕ). each == source) (sources parts) ≡ true)
    × (list_any (owns piece) (cells_in list source) ≡ true)

pub owns_source : (list : List Build) (name from : ℕ) (piece : Piece) (parts : List Part) → (name == piece.blob) ≡ false
    → list_any (owns piece) (cells_of list name from parts) ≡ true → OwnsSource list piece parts
owns_source list name from piece [] other e = absurd (false_true e)
owns_source list name from piece (Embedded bytes ∷ parts) other e =
    ⊎_elim (λ (own : list_any (owns piece) (own_cells name from (length bytes)) ≡ true). absurd
    (false_true (sym (not_own piece name from (length bytes) other) ∙ own)))
    (λ (more : list_any (owns piece) (cells_of list name (from + length bytes) parts) ≡ true). owns_source list name (from + length bytes) piece parts other
    more)
    (any_parts (owns piece) (own_cells name from (length bytes)) (cells_of list name (from + length bytes) parts) e)
owns_source list name from piece (Asked len ∷ parts) other e =
    ⊎_elim (λ (own : list_any (owns piece) (own_cells name from len) ≡ true). absurd (false_true (sym (not_own piece name from len other) ∙ own)))
    (λ (more : list_any (owns piece) (cells_of list name (from + len) parts) ≡ true). owns_source list name (from + len) piece parts other more)
    (any_parts (owns piece) (own_cells name from len) (cells_of list name (from + len) parts) e)
owns_source list name from piece (FileRange file off len stamp ∷ parts) other e =
    ⊎_elim (λ (own : list_any (owns piece) (file_cells file stamp off len) ≡ true). absurd
    (false_true (sym (not_file piece file stamp (range_with_len off len)) ∙ own)))
    (λ (more : list_any (owns piece) (cells_of list name from parts) ≡ true). owns_source list name from piece parts other more)
    (any_parts (owns piece) (file_cells file stamp off len) (cells_of list name from parts) e)
owns_source list name from piece (BlobRange b off len ∷ parts) other e =
    ⊎_elim
    (λ (own : list_any (owns piece) (take len (drop off (cells_in list b))) ≡ true). (
      b,
      or_first (b == b) (list_any (λ (each : ℕ). each == b) (sources parts)) (eq-eqb b b refl),
      any_dropped (owns piece) off (cells_in list b)
          (any_taken (owns piece) len (drop off (cells_in list b)) own),
    ))
    (λ (more : list_any (owns piece) (cells_of list name from parts) ≡ true).
    let rest = owns_source list name from piece parts other more in
    (rest.0, or_second (b == rest.0) (list_any (λ (each : ℕ). each == rest.0) (sources parts)) rest.1, rest.2))
    (any_parts (owns piece) (take len (drop off (cells_in list b))) (cells_of list name from parts) e)
owns_source list name from piece (HandleRange k off len ∷ parts) other e =
    ⊎_elim (λ (own : list_any (owns piece) (handle_cells k off len) ≡ true). absurd (false_true (sym (not_handle piece k (range_with_len off len)) ∙ own)))
    (λ (more : list_any (owns piece) (cells_of list name from parts) ≡ true). owns_source list name from piece parts other more)
    (any_parts (owns piece) (handle_cells k off len) (cells_of list name from parts) e)

-- the blob of this name with those cells is in the list
pub found_any : (list : List Build) (name : ℕ) (test : Build → Bool) (build : Build) → build_in list name ≡ Some build → test build ≡ true
    → list_any (λ (each : Build). (each.name == name) && test each) list ≡ true
found_any [] name test build e f = cc
found_any (x ∷ list) name test build e f = go (x.name == name) refl e (λ rest. found_any list name test build rest f)
  where
    go : (b : Bool) → (x.name == name) ≡ b → cond b (Some x) (build_in list name) ≡ Some build
        → (build_in list name ≡ Some build → list_any (λ (each : Build). (each.name == name) && test each) list ≡ true)
        → ((b && test x) || list_any (λ (each : Build). (each.name == name) && test each) list) ≡ true
    go true at g rest = let same : x ≡ build = cc in or_first (test x) (list_any (λ (each : Build). (each.name == name) && test each) list)
        (subst (λ (y : Build). test y ≡ true) (sym same) f)
    go false at g rest = rest g
