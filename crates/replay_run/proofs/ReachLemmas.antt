-- The pieces reached are those of the live blobs, so the tally counts the live blobs' pieces and bytes.
use Rattle.std.proofs.Common.{◌≡◌, ℕ, ◌+◌, ◌<◌, ◌≤◌, ◌==◌, Bool, true, false, ◌&&◌, List, [], ◌∷◌, ◌++◌, length, map, filter, sum_by, refl, sym, ◌∙◌, ap, arith, ⊎_elim, ◌⊎◌, inl, inr, zero, suc, append_assoc}
use Rattle.std.specs.Prelude.{nat_lt, nat_le}
use Rattle.std.specs.List.{AllByRecursion, list_any, range_with_len, flat_map}
use Rattle.std.proofs.lemmas.List.Sums.{sum_by-cons, sum_by-append}
use Rattle.std.proofs.lemmas.List.Elements.{filter-append}
use Rattle.std.proofs.lemmas.Bool.{cases_Bool, cases_eq, eqb-true, eq-eqb, lt-ltb, le-leb, or_left, or_right, or_from, and_from, and_right, and_left}
use Rattle.std.proofs.Math.ListN.{length-append}
use Rattle.blob_words.specs.declared.limits.Limits.{Limits}
use Rattle.replay_run.specs.declared.store.blob.Blob.{Blob}
use Rattle.replay_run.specs.History.{History}
use Rattle.replay_run.specs.Builds.{Build, builds, sent, Cell, cells}
use Rattle.replay_run.specs.Live.{is_live}
use Rattle.replay_run.specs.Pieces.{Piece, build_pieces, owns, is_reached, reached, tally}
use Rattle.replay_run.specs.Shelf.{byte_count, piece_count, count_of}
use Rattle.replay_run.specs.Stands.{blob_of, live_builds}
use Rattle.replay_run.proofs.PieceLemmas.{IsPieceOf, pieces_from-All, pieces_from-sum}

-- ---- lists

any_none : {X : Type 0} (p : X → Bool) (xs : List X) → ((x : X) → p x ≡ false) → list_any p xs ≡ false
any_none p [] none = refl
any_none p (x ∷ xs) none = or_from (p x) (list_any p xs) (none x) (any_none p xs none)

any_at : {X : Type 0} (p : X → Bool) (front : List X) (x : X) (back : List X) → p x ≡ true → list_any p (front ++ x ∷ back) ≡ true
any_at p [] x back here = or_left (p x) (list_any p back) here
any_at p (y ∷ front) x back here = or_right (p y) (list_any p (front ++ x ∷ back)) (any_at p front x back here)

filter_all : {X : Type 0} (p : X → Bool) (xs : List X) → AllByRecursion (λ x. p x ≡ true) xs → filter p xs ≡ xs
filter_all p [] all = refl
filter_all p (x ∷ xs) all = rw all.0 (ap (λ ys. x ∷ ys) (filter_all p xs all.1))

filter_none : {X : Type 0} (p : X → Bool) (xs : List X) → AllByRecursion (λ x. p x ≡ false) xs → filter p xs ≡ []
filter_none p [] all = refl
filter_none p (x ∷ xs) all = rw all.0 (filter_none p xs all.1)

All_map : {X : Type 0} (P Q : X → Type 0) → ((x : X) → P x → Q x) → (xs : List X) → AllByRecursion P xs → AllByRecursion Q xs
All_map P Q step [] all = tt
All_map P Q step (x ∷ xs) all = (step x all.0, All_map P Q step xs all.1)

-- ---- cells

abbrev cell_at : ℕ → ℕ → Cell
cell_at name index = record { blob = name; index = index }

at_or_after : (a k : ℕ) → a ≤ k → (a ≡ k) ⊎ (a + 1 ≤ k)
at_or_after a k low = ⊎_elim (λ (same : a ≡ k). inl same) (λ (other : a ≡ k → ⊥). inr (omega arith)) (cases_eq a k)

any_cell : (test : Cell → Bool) (name a n k : ℕ) → a ≤ k → k < a + n → test (cell_at name k) ≡ true → list_any test (map (cell_at name) (range_with_len a n))
    ≡ true
any_cell test name a zero k low high here = absurd (omega arith)
any_cell test name a (suc n) k low high here =
    ⊎_elim
    (λ (same : a ≡ k). or_left (test (cell_at name a)) (list_any test (map (cell_at name) (range_with_len (a + 1) n))) (rw same here))
    (λ (more : a + 1 ≤ k). or_right (test (cell_at name a)) (list_any test (map (cell_at name) (range_with_len (a + 1) n)))
    (any_cell test name (a + 1) n k more (omega arith) here))
    (at_or_after a k low)

-- a piece of a blob owns one of its cells
owns_some : (build : Build) (piece : Piece) → IsPieceOf build.name 0 (length (sent build)) piece → list_any (owns piece) (cells build) ≡ true
owns_some build piece is =
    let same : (build.name == piece.blob) ≡ true = eq-eqb build.name piece.blob (sym is.same) in
    let above : nat_le piece.from piece.from ≡ true = le-leb piece.from piece.from (omega arith) in
    let below : nat_lt piece.from (piece.from + piece.len) ≡ true = lt-ltb piece.from (piece.from + piece.len) (omega (arith, is.some)) in
    any_cell (owns piece) build.name 0 (length (sent build)) piece.from (omega arith) (omega (arith, is.some, is.within))
    (and_from ((build.name == piece.blob) && nat_le piece.from piece.from) (nat_lt piece.from (piece.from + piece.len))
    (and_from (build.name == piece.blob) (nat_le piece.from piece.from) same above) below)

-- and none of another blob's
owns_none : (name : ℕ) (piece : Piece) → (name == piece.blob) ≡ false → (a n : ℕ) → list_any (owns piece) (map (cell_at name) (range_with_len a n)) ≡ false
owns_none name piece other a zero = refl
owns_none name piece other a (suc n) =
    or_from (owns piece (cell_at name a)) (list_any (owns piece) (map (cell_at name) (range_with_len (a + 1) n)))
    (and_left ((name == piece.blob) && nat_le piece.from a) (nat_lt a (piece.from + piece.len)) (and_left (name == piece.blob) (nat_le piece.from a) other))
    (owns_none name piece other (a + 1) n)

-- ---- what is reached

-- a piece of a live blob is reached
reached_live : (h : History) (front : List Build) (build : Build) (back : List Build) (piece : Piece) → builds h ≡ front ++ build ∷ back → is_live h build.name
    ≡ true
    → IsPieceOf build.name 0 (length (sent build)) piece → is_reached h piece ≡ true
reached_live h front build back piece all live is =
    let test = λ (each : Build). is_live h each.name && list_any (owns piece) (cells each) in
    ap (list_any test) all ∙ any_at test front build back (and_from (is_live h build.name) (list_any (owns piece) (cells build)) live
    (owns_some build piece is))

-- a piece of a blob that isn't live is not
unreached : (h : History) (build : Build) (piece : Piece) → is_live h build.name ≡ false → IsPieceOf build.name 0 (length (sent build)) piece
    → is_reached h piece ≡ false
unreached h build piece dead is =
    any_none (λ (each : Build). is_live h each.name && list_any (owns piece) (cells each)) (builds h)
    (
    λ each.
    ⊎_elim
    (
    λ (same : (each.name == piece.blob) ≡ true).
    let name : each.name ≡ build.name = eqb-true each.name piece.blob same ∙ is.same in
    and_left (is_live h each.name) (list_any (owns piece) (cells each)) (ap (is_live h) name ∙ dead)
    )
    (λ (other : (each.name == piece.blob) ≡ false). and_right (is_live h each.name) (list_any (owns piece) (cells each))
    (owns_none each.name piece other 0 (length (sent each))))
    (cases_Bool (each.name == piece.blob))
    )

module _ (l : Limits) (h : History) where
  abbrev rows : List Build → List Blob
  rows some = map (blob_of l h) (filter (λ (build : Build). is_live h build.name) some)

  abbrev reached_of : List Build → List Piece
  reached_of some = filter (is_reached h) (flat_map (build_pieces l.page) some)

  filter_cons_live : (build : Build) (back : List Build) → is_live h build.name ≡ true
      → filter (λ (each : Build). is_live h each.name) (build ∷ back) ≡ build ∷ filter (λ (each : Build). is_live h each.name) back
  filter_cons_live build back live = rw live refl

  filter_cons_dead : (build : Build) (back : List Build) → is_live h build.name ≡ false → filter (λ (each : Build). is_live h each.name) (build ∷ back)
      ≡ filter (λ (each : Build). is_live h each.name) back
  filter_cons_dead build back dead = rw dead refl

  pieces_of_one : (build : Build) → AllByRecursion (IsPieceOf build.name 0 (length (sent build))) (build_pieces l.page build)
  pieces_of_one build = pieces_from-All l.page build.name 0 build.parts l.some_page

  reached_step : (front : List Build) (build : Build) (back : List Build) → builds h ≡ front ++ build ∷ back → is_live h build.name ≡ true
      → reached_of (build ∷ back) ≡ build_pieces l.page build ++ reached_of back
  reached_step front build back all live =
      filter-append (is_reached h) (build_pieces l.page build) (flat_map (build_pieces l.page) back)
      ∙ ap (λ some. some ++ reached_of back)
      (
      filter_all (is_reached h) (build_pieces l.page build)
      (
      All_map (IsPieceOf build.name 0 (length (sent build))) (λ piece. is_reached h piece ≡ true)
      (λ piece is. reached_live h front build back piece all live is)
      (build_pieces l.page build) (pieces_of_one build)
      )
      )

  unreached_step : (build : Build) (back : List Build) → is_live h build.name ≡ false → reached_of (build ∷ back) ≡ reached_of back
  unreached_step build back dead =
      filter-append (is_reached h) (build_pieces l.page build) (flat_map (build_pieces l.page) back)
      ∙ ap (λ some. some ++ reached_of back)
      (
      filter_none (is_reached h) (build_pieces l.page build)
      (
      All_map (IsPieceOf build.name 0 (length (sent build))) (λ piece. is_reached h piece ≡ false) (λ piece is. unreached h build piece dead is)
      (build_pieces l.page build) (pieces_of_one build)
      )
      )

  -- counted over the blobs behind some front of them
  memory_behind : (front back : List Build) → builds h ≡ front ++ back → sum_by (λ (piece : Piece). piece.len) (reached_of back) ≡ byte_count (rows back)
  memory_behind front [] all = refl
  memory_behind front (build ∷ back) all =
      let rest = memory_behind (front ++ build ∷ []) back (all ∙ sym (append_assoc front (build ∷ []) back)) in
      ⊎_elim
      (
      λ (live : is_live h build.name ≡ true).
      ap (sum_by (λ (piece : Piece). piece.len)) (reached_step front build back all live)
      ∙ sum_by-append (λ (piece : Piece). piece.len) (build_pieces l.page build) (reached_of back)
      ∙ ap (λ n. n + sum_by (λ (piece : Piece). piece.len) (reached_of back)) (pieces_from-sum l.page build.name 0 build.parts l.some_page)
      ∙ ap (λ n. length (sent build) + n) rest
      ∙ sym (sum_by-cons (λ (blob : Blob). length blob.bytes) (blob_of l h build) (rows back))
      ∙ ap byte_count (ap (map (blob_of l h)) (sym (filter_cons_live build back live)))
      )
      (
      λ (dead : is_live h build.name ≡ false).
      ap (sum_by (λ (piece : Piece). piece.len)) (unreached_step build back dead) ∙ rest ∙ ap byte_count
      (ap (map (blob_of l h)) (sym (filter_cons_dead build back dead)))
      )
      (cases_Bool (is_live h build.name))

  count_behind : (front back : List Build) → builds h ≡ front ++ back → length (reached_of back) ≡ piece_count (rows back)
  count_behind front [] all = refl
  count_behind front (build ∷ back) all =
      let rest = count_behind (front ++ build ∷ []) back (all ∙ sym (append_assoc front (build ∷ []) back)) in
      ⊎_elim
      (
      λ (live : is_live h build.name ≡ true).
      ap length (reached_step front build back all live)
      ∙ length-append (build_pieces l.page build) (reached_of back)
      ∙ ap (λ n. length (build_pieces l.page build) + n) rest
      ∙ sym (sum_by-cons (λ (blob : Blob). blob.pieces) (blob_of l h build) (rows back))
      ∙ ap piece_count (ap (map (blob_of l h)) (sym (filter_cons_live build back live)))
      )
      (
      λ (dead : is_live h build.name ≡ false).
      ap length (unreached_step build back dead) ∙ rest ∙ ap piece_count (ap (map (blob_of l h)) (sym (filter_cons_dead build back dead)))
      )
      (cases_Bool (is_live h build.name))

  -- the tally is the rows of the live blobs, counted
  pub tally-rows : tally l h ≡ count_of (map (blob_of l h) (live_builds h))
  tally-rows =
      let memory : sum_by (λ (piece : Piece). piece.len) (reached l h) ≡ byte_count (rows (builds h)) = memory_behind [] (builds h) refl in
      let count : length (reached l h) ≡ piece_count (rows (builds h)) = count_behind [] (builds h) refl in
      cc
