-- After a line that builds, the bytes in memory are those before and at most the blob's own.
use Rattle.std.proofs.Common.{◌≡◌, ◌⊎◌, ℕ, ◌+◌, ◌≤◌, ◌==◌, Bool, true, false, ◌&&◌, ◌||◌, not, List, [], ◌∷◌, ◌++◌, reverse, length, refl, ap, subst, sym, ◌∙◌, inl, inr, ⊎_elim, arith, Option, Some, None, append_assoc}
use Rattle.std.specs.Prelude.{cond, filter, sum_by}
use Rattle.std.specs.Option.{option_map_or}
use Rattle.std.specs.List.{AllByRecursion, list_any}
use Rattle.std.proofs.lemmas.Bool.{and_parts, or_parts, eq-eqb}
use Rattle.std.proofs.lemmas.List.{reverse-append, reverse-reverse}
use Rattle.std.proofs.lemmas.List.Sums.{sum_by-cons, sum_by-append}
use Rattle.blob_model.specs.History.{History}
use Rattle.blob_model.specs.Builds.{Build, builds, build_in}
use Rattle.blob_model.specs.Standing.{is_unfinished, is_broken, was_granted, is_granted, grants_at_once}
use Rattle.blob_model.specs.Live.{is_rooted, has_source, is_needed, live_from, live}
use Rattle.blob_model.specs.Pieces.{Piece, pieces, pieces_from, numbered, spans_of, owns}
use Rattle.blob_model.specs.Reached.{some_passes, live_cells, is_granted_piece, owns_some}
use Rattle.blob_model.specs.Pages.{pages, page_with, place_in, place_by, is_memory}
use Rattle.blob_model.specs.Tally.{memory, bytes_of}
use Rattle.blob_model.proofs.Lists.{all_append, any_reverse, any_up, both, false_true, for_each, or_cases, or_first, or_second}
use Rattle.blob_model.proofs.live.Least.{named}
use Rattle.blob_model.proofs.memory.Shrinking.{holds_piece, owns_as, some_any}
use Rattle.blob_model.proofs.memory.Steps.{filter_append}
use Rattle.blob_model.proofs.memory.NewSources.{SubOr, live_plus}

-- ---- sums with a fact of each item

pub sum_where : {X : Type 0} (f : X → ℕ) (p' q' p q : X → Bool) (xs : List X)
    → AllByRecursion (λ (x : X). p' x ≡ true → q' x ≡ true → (p x ≡ true) × (q x ≡ true)) xs
    → sum_by f (filter p' (filter q' xs)) ≤ sum_by f (filter p (filter q xs))
sum_where f p' q' p q [] all = omega arith
sum_where {X = X} f p' q' p q (x ∷ xs) all = go (q' x) (q x) (p' x) (p x) refl refl all.0 (sum_where f p' q' p q xs all.1)
  where
    there : (b : Bool) (ys : List X) → sum_by f ys ≤ sum_by f (cond b (x ∷ ys) ys)
    there true ys = let whole : sum_by f (x ∷ ys) ≡ f x + sum_by f ys = sum_by-cons f x ys in omega (arith, whole)
    there false ys = omega arith

    wide : (b : Bool) → sum_by f (filter p (filter q xs)) ≤ sum_by f (filter p (cond b (x ∷ filter q xs) (filter q xs)))
    wide true = there (p x) (filter p (filter q xs))
    wide false = omega arith

    go : (a b c d : Bool) → p' x ≡ c → p x ≡ d → (c ≡ true → a ≡ true → (d ≡ true) × (b ≡ true)) → sum_by f (filter p' (filter q' xs)) ≤ sum_by f
        (filter p (filter q xs))
        → sum_by f (filter p' (cond a (x ∷ filter q' xs) (filter q' xs))) ≤ sum_by f (filter p (cond b (x ∷ filter q xs) (filter q xs)))
    go false b c d at_c at_d ok rest = let more = wide b in omega (arith, rest, more)
    go true b false d at_c at_d ok rest =
        let moved : sum_by f (filter p' (x ∷ filter q' xs)) ≡ sum_by f (filter p' (filter q' xs)) =
        ap (λ (e : Bool). sum_by f (cond e (x ∷ filter p' (filter q' xs)) (filter p' (filter q' xs)))) at_c in
        let more = wide b in
        omega (arith, moved, rest, more)
    go true false true d at_c at_d ok rest = absurd (false_true (ok refl refl).1)
    go true true true false at_c at_d ok rest = absurd (false_true (ok refl refl).0)
    go true true true true at_c at_d ok rest =
        let left : sum_by f (filter p' (x ∷ filter q' xs)) ≡ f x + sum_by f (filter p' (filter q' xs)) =
        ap (λ (e : Bool). sum_by f (cond e (x ∷ filter p' (filter q' xs)) (filter p' (filter q' xs)))) at_c ∙ sum_by-cons f x (filter p' (filter q' xs)) in
        let right : sum_by f (filter p (x ∷ filter q xs)) ≡ f x + sum_by f (filter p (filter q xs)) =
        ap (λ (e : Bool). sum_by f (cond e (x ∷ filter p (filter q xs)) (filter p (filter q xs)))) at_d ∙ sum_by-cons f x (filter p (filter q xs)) in
        omega (arith, left, right, rest)

-- ---- pieces of one blob more

pub pieces_more : (page number : ℕ) (list : List Build) (x : Build) → (next : ℕ)
    × (pieces_from page number (list ++ x ∷ []) ≡ pieces_from page number list ++ pieces_from page next (x ∷ []))
pieces_more page number [] x = (number, refl)
pieces_more page number (build ∷ list) x =
    let rest = pieces_more page (number + length (spans_of page build)) list x in (
      rest.0,
      ap (λ (zs : List Piece). numbered build.name number (spans_of page build) ++ zs) rest.1
          ∙ sym (append_assoc (numbered build.name number (spans_of page build)) (pieces_from page (number + length (spans_of page build)) list)
          (pieces_from page rest.0 (x ∷ []))),
    )

pub numbered_named : (P : ℕ → Type 0) (blob number : ℕ) (spans : List (ℕ × ℕ)) → P blob → AllByRecursion (λ (piece : Piece). P piece.blob)
    (numbered blob number spans)
numbered_named P blob number [] one = tt
numbered_named P blob number (span ∷ spans) one = (one, numbered_named P blob (number + 1) spans one)

pub pieces_named : (page number : ℕ) (list : List Build) → AllByRecursion (λ (piece : Piece). named piece.blob list ≡ true) (pieces_from page number list)
pieces_named page number [] = tt
pieces_named page number (build ∷ list) =
    all_append (λ (piece : Piece). named piece.blob (build ∷ list) ≡ true) (numbered build.name number (spans_of page build))
    (pieces_from page (number + length (spans_of page build)) list)
    (numbered_named (λ (n : ℕ). named n (build ∷ list) ≡ true) build.name number (spans_of page build)
    (or_first (build.name == build.name) (named build.name list) (eq-eqb build.name build.name refl)))
    (for_each (λ (piece : Piece). named piece.blob list ≡ true) (λ (piece : Piece). named piece.blob (build ∷ list) ≡ true)
    (pieces_from page (number + length (spans_of page build)) list)
    (λ piece member. or_second (build.name == piece.blob) (named piece.blob list) member) (pieces_named page (number + length (spans_of page build)) list))

pub found_more : (list : List Build) (x : Build) (name : ℕ) → named name list ≡ true → build_in (list ++ x ∷ []) name ≡ build_in list name
found_more [] x name e = absurd (false_true e)
found_more (build ∷ list) x name e = go (build.name == name) e (found_more list x name)
  where
    go : (b : Bool) → (b || named name list) ≡ true → (named name list ≡ true → build_in (list ++ x ∷ []) name ≡ build_in list name)
        → cond b (Some build) (build_in (list ++ x ∷ []) name) ≡ cond b (Some build) (build_in list name)
    go true f rest = refl
    go false f rest = rest f

pub found_last : (list : List Build) (x : Build) → named x.name list ≡ false → build_in (list ++ x ∷ []) x.name ≡ Some x
found_last [] x e = (λ i. cond (eq-eqb x.name x.name refl i) (Some x) None)
found_last (build ∷ list) x e =
    let parts = or_parts (build.name == x.name) (named x.name list) e in
    (λ i. cond (parts.0 i) (Some build) (build_in (list ++ x ∷ []) x.name)) ∙ found_last list x parts.1

-- ---- the step

pub record Adds (page : ℕ) (h g : History) (x : Build) : Type 0 where
  pub blobs : builds page g ≡ builds page h ++ x ∷ []
  pub fresh : named x.name (builds page h) ≡ false
  pub roots : (name : ℕ) → is_rooted page g name ≡ true → (is_rooted page h name ≡ true) ⊎ ((name == x.name) ≡ true)
  pub begun : (name : ℕ) → is_unfinished g name ≡ true → is_unfinished h name ≡ true
  pub broken : (name : ℕ) → is_broken h name ≡ true → is_broken g name ≡ true
  pub granted : (name : ℕ) → was_granted g name ≡ was_granted h name
  pub written : pages g ≡ pages h
  pub needs : (source : ℕ) → is_unfinished g x.name ≡ true → has_source x source ≡ true → is_rooted page h source ≡ true
  pub cells : (piece : Piece) → named piece.blob (builds page h) ≡ true → list_any (owns piece) x.cells ≡ true → list_any (holds_piece h piece) (live page h)
      ≡ true

still_unbroken : (b c : Bool) → (c ≡ true → b ≡ true) → not b ≡ true → not c ≡ true
still_unbroken b false f e = refl
still_unbroken true true f e = e
still_unbroken false true f e = absurd (false_true (f refl))

module _ (page : ℕ) (h g : History) (x : Build) (adds : Adds page h g x) where
  pub live_or : SubOr x (live page g) (live page h)
  live_or =
      let turned : reverse (builds page g) ≡ x ∷ reverse (builds page h) = ap reverse adds.blobs ∙ reverse-append (builds page h) (x ∷ []) in
      subst (λ (xs : List Build). SubOr x (live_from page g xs []) (live page h)) (sym turned)
      (live_plus page h g x (reverse (builds page h)) (cond (is_rooted page g x.name || is_needed g [] x.name) (x ∷ []) []) [] adds.roots adds.begun adds.needs
      (none_turned (builds page h) adds.fresh) (only (is_rooted page g x.name || is_needed g [] x.name)))
    where
      only : (b : Bool) → SubOr x (cond b (x ∷ []) []) []
      only true test e = ⊎_elim (λ (here : test x ≡ true). inl here) (λ (none : false ≡ true). inr none) (or_cases (test x) false e)
      only false test e = inr e

      none_turned : (list : List Build) → named x.name list ≡ false → named x.name (reverse list) ≡ false
      none_turned list e = pick (named x.name (reverse list)) refl
        where
          pick : (b : Bool) → named x.name (reverse list) ≡ b → b ≡ false
          pick false at = refl
          pick true at =
              let back : named x.name (reverse (reverse list)) ≡ true = any_reverse (λ (each : Build). each.name == x.name) (reverse list) at in
              absurd (false_true (sym e ∙ subst (λ (xs : List Build). named x.name xs ≡ true) (reverse-reverse list) back))

  pub holds_old : (piece : Piece) → named piece.blob (builds page h) ≡ true → owns_some (live_cells page g) piece ≡ true → owns_some (live_cells page h) piece
      ≡ true
  holds_old piece member e =
      let now : list_any (holds_piece g piece) (live page g) ≡ true = sym (owns_as page g piece) ∙ e in
      owns_as page h piece
      ∙ ⊎_elim
      (λ (new : holds_piece g piece x ≡ true). adds.cells piece member
      (sym (some_any (owns piece) x.cells) ∙ (and_parts (not (is_broken g x.name)) (some_passes (owns piece) x.cells) new).1))
      (λ (old : list_any (holds_piece g piece) (live page h) ≡ true).
      any_up (holds_piece g piece) (holds_piece h piece) (live page h)
      (λ build f.
      let parts = and_parts (not (is_broken g build.name)) (some_passes (owns piece) build.cells) f in
      both (not (is_broken h build.name)) (some_passes (owns piece) build.cells)
      (still_unbroken (is_broken g build.name) (is_broken h build.name) (adds.broken build.name) parts.0) parts.1) old)
      (live_or (holds_piece g piece) now)

  abbrev pub in_memory_now : Piece → Bool
  in_memory_now piece = is_memory (place_in g (builds page h ++ x ∷ []) piece)

  abbrev pub reached_now : Piece → Bool
  reached_now piece = is_granted_piece g (builds page h ++ x ∷ []) piece && owns_some (live_cells page g) piece

  old_pieces : AllByRecursion (λ (piece : Piece). in_memory_now piece ≡ true → reached_now piece ≡ true → (is_memory (place_in h (builds page h) piece) ≡ true)
      × ((is_granted_piece h (builds page h) piece && owns_some (live_cells page h) piece) ≡ true)) (pieces page h)
  old_pieces =
      for_each (λ (piece : Piece). named piece.blob (builds page h) ≡ true)
      (λ (piece : Piece). in_memory_now piece ≡ true → reached_now piece ≡ true → (is_memory (place_in h (builds page h) piece) ≡ true)
      × ((is_granted_piece h (builds page h) piece && owns_some (live_cells page h) piece) ≡ true)) (pieces page h)
      (λ piece member at_memory at_reach.
      let found : build_in (builds page h ++ x ∷ []) piece.blob ≡ build_in (builds page h) piece.blob = found_more (builds page h) x piece.blob member in
      let parts = and_parts (is_granted_piece g (builds page h ++ x ∷ []) piece) (owns_some (live_cells page g) piece) at_reach in
      let place_same : is_memory (place_in g (builds page h ++ x ∷ []) piece) ≡ is_memory (place_in h (builds page h) piece) =
      (λ i. is_memory (place_by (page_with (adds.written i) piece.number) (found i))) in
      let granted_same : is_granted_piece g (builds page h ++ x ∷ []) piece ≡ is_granted_piece h (builds page h) piece =
      ap (λ (o : Option Build). option_map_or (is_granted g) o false) found ∙ same (build_in (builds page h) piece.blob) in (
        sym place_same ∙ at_memory,
        both (is_granted_piece h (builds page h) piece) (owns_some (live_cells page h) piece) (sym granted_same ∙ parts.0)
            (holds_old piece member parts.1),
      ))
      (pieces_named page 0 (builds page h))
    where
      same : (o : Option Build) → option_map_or (is_granted g) o false ≡ option_map_or (is_granted h) o false
      same None = refl
      same (Some build) = ap (λ (b : Bool). option_map_or grants_at_once build.plan false || b) (adds.granted build.name)

  -- an older piece that is reached was reached
  pub old_reached : AllByRecursion (λ (piece : Piece). reached_now piece ≡ true
      → (is_granted_piece h (builds page h) piece && owns_some (live_cells page h) piece) ≡ true) (pieces page h)
  old_reached =
      for_each (λ (piece : Piece). named piece.blob (builds page h) ≡ true)
      (λ (piece : Piece). reached_now piece ≡ true → (is_granted_piece h (builds page h) piece && owns_some (live_cells page h) piece) ≡ true) (pieces page h)
      (λ piece member at_reach.
      let found : build_in (builds page h ++ x ∷ []) piece.blob ≡ build_in (builds page h) piece.blob = found_more (builds page h) x piece.blob member in
      let parts = and_parts (is_granted_piece g (builds page h ++ x ∷ []) piece) (owns_some (live_cells page g) piece) at_reach in
      let granted_same : is_granted_piece g (builds page h ++ x ∷ []) piece ≡ is_granted_piece h (builds page h) piece =
      ap (λ (o : Option Build). option_map_or (is_granted g) o false) found ∙ same (build_in (builds page h) piece.blob) in
      both (is_granted_piece h (builds page h) piece) (owns_some (live_cells page h) piece) (sym granted_same ∙ parts.0) (holds_old piece member parts.1))
      (pieces_named page 0 (builds page h))
    where
      same : (o : Option Build) → option_map_or (is_granted g) o false ≡ option_map_or (is_granted h) o false
      same None = refl
      same (Some build) = ap (λ (b : Bool). option_map_or grants_at_once build.plan false || b) (adds.granted build.name)

  pub memory_adds : (next : ℕ) × (memory page g ≤ memory page h + bytes_of (filter in_memory_now (filter reached_now (pieces_from page next (x ∷ [])))))
  memory_adds =
      let more = pieces_more page 0 (builds page h) x in
      let moved : memory page g ≡ bytes_of (filter in_memory_now (filter reached_now (pieces_from page 0 (builds page h ++ x ∷ [])))) =
      (λ i. bytes_of (filter (λ (piece : Piece). is_memory (place_in g (adds.blobs i) piece))
      (filter (λ (piece : Piece). is_granted_piece g (adds.blobs i) piece && owns_some (live_cells page g) piece) (pieces_from page 0 (adds.blobs i))))) in
      let parted : bytes_of (filter in_memory_now (filter reached_now (pieces_from page 0 (builds page h ++ x ∷ []))))
      ≡ bytes_of (filter in_memory_now (filter reached_now (pieces page h))) + bytes_of
      (filter in_memory_now (filter reached_now (pieces_from page more.0 (x ∷ [])))) =
      ap (λ (xs : List Piece). bytes_of (filter in_memory_now (filter reached_now xs))) more.1
      ∙ ap (λ (xs : List Piece). bytes_of (filter in_memory_now xs)) (filter_append reached_now (pieces page h) (pieces_from page more.0 (x ∷ [])))
      ∙ ap bytes_of (filter_append in_memory_now (filter reached_now (pieces page h)) (filter reached_now (pieces_from page more.0 (x ∷ []))))
      ∙ sum_by-append (λ (piece : Piece). piece.len) (filter in_memory_now (filter reached_now (pieces page h)))
      (filter in_memory_now (filter reached_now (pieces_from page more.0 (x ∷ [])))) in
      let old = sum_where (λ (piece : Piece). piece.len) in_memory_now reached_now (λ (piece : Piece). is_memory (place_in h (builds page h) piece))
      (λ (piece : Piece). is_granted_piece h (builds page h) piece && owns_some (live_cells page h) piece) (pieces page h) old_pieces in
      (more.0, omega (arith, moved, parted, old))
