-- The pieces of a blob stand end to end and cover it, and those reached are those of the live blobs.
use Rattle.std.proofs.Common.{◌≡◌, ℕ, zero, suc, ◌+◌, ◌-◌, ◌*◌, ◌<◌, ◌≤◌, min, List, [], ◌∷◌, ◌++◌, length, map, sum_by, refl, sym, ◌∙◌, ap, arith}
use Rattle.std.proofs.lemmas.List.Sums.{sum_by-cons, sum_by-append}
use Rattle.std.proofs.lemmas.List.FromFn.{length-map-range_with_len}
use Rattle.std.proofs.lemmas.Grind.{div_ceil_times}
use Rattle.std.proofs.Math.Nat.{mul-le-mul_right}
use Rattle.std.proofs.Math.ListN.{length-append}
use Rattle.std.specs.List.{AllByRecursion, range_with_len, flat_map}
use Rattle.std.specs.Int.{div_ceil}
use Rattle.session_script.specs.declared.event.Part.{Part}
use Rattle.replay_run.specs.Builds.{part_bytes}
use Rattle.replay_run.specs.Measure.{byte_total, piece_total}
use Rattle.replay_run.specs.Pieces.{Piece, part_pieces, pieces_from}

-- ---- lists

pub All-range : {X : Type 0} (P : X → Type 0) (f : ℕ → X) (a n : ℕ) → ((k : ℕ) → a ≤ k → k < a + n → P (f k)) → AllByRecursion P (map f (range_with_len a n))
All-range P f a zero each = tt
All-range P f a (suc n) each = (each a (omega arith) (omega arith), All-range P f (a + 1) n (λ k low high. each k (omega arith) (omega arith)))

pub All-weaker : {X : Type 0} (P Q : X → Type 0) → ((x : X) → P x → Q x) → (xs : List X) → AllByRecursion P xs → AllByRecursion Q xs
All-weaker P Q step [] all = tt
All-weaker P Q step (x ∷ xs) all = (step x all.0, All-weaker P Q step xs all.1)

pub All-append : {X : Type 0} (P : X → Type 0) (xs ys : List X) → AllByRecursion P xs → AllByRecursion P ys → AllByRecursion P (xs ++ ys)
All-append P [] ys front back = back
All-append P (x ∷ xs) ys front back = (front.0, All-append P xs ys front.1 back)

-- ---- one part

-- a piece of the bytes from `from` on, `len` of them
pub record IsPieceOf (name from len : ℕ) (piece : Piece) : Type 0 where
  pub same : piece.blob ≡ name
  pub above : from ≤ piece.from
  pub some : 0 < piece.len
  pub within : piece.from + piece.len ≤ from + len

abbrev piece_at : ℕ → ℕ → ℕ → ℕ → ℕ → Piece
piece_at page name from len k = record { blob = name; from = from + k * page; len = min page (len - k * page) }

begins_within : (page len k : ℕ) → 0 < page → k < div_ceil len page → k * page < len
begins_within page len k some below =
    let bounds = div_ceil_times len page some in
    let more : (k + 1) * page ≤ div_ceil len page * page = mul-le-mul_right page (omega arith) in
    omega (arith, bounds.1)

part_pieces-All : (page name from len : ℕ) → 0 < page → AllByRecursion (IsPieceOf name from len) (part_pieces page name from len)
part_pieces-All page name from len some =
    All-range (IsPieceOf name from len) (piece_at page name from len) 0 (div_ceil len page)
    (
    λ k low high.
    let begins : k * page < len = begins_within page len k some (omega arith) in
    record { same = refl; above = omega arith; some = omega arith; within = omega arith }
    )

range_sum : (page name from len a n : ℕ) → sum_by (λ (piece : Piece). piece.len) (map (piece_at page name from len) (range_with_len a n))
    ≡ min (n * page) (len - a * page)
range_sum page name from len a zero = omega arith
range_sum page name from len a (suc n) =
    sum_by-cons (λ (piece : Piece). piece.len) (piece_at page name from len a) (map (piece_at page name from len) (range_with_len (a + 1) n))
    ∙ ap (λ rest. min page (len - a * page) + rest) (range_sum page name from len (a + 1) n)
    ∙ omega arith

part_pieces-sum : (page name from len : ℕ) → 0 < page → sum_by (λ (piece : Piece). piece.len) (part_pieces page name from len) ≡ len
part_pieces-sum page name from len some =
    let bounds = div_ceil_times len page some in
    let sum = range_sum page name from len 0 (div_ceil len page) in
    sum ∙ omega (arith, bounds.0)

part_pieces-length : (page name from len : ℕ) → length (part_pieces page name from len) ≡ div_ceil len page
part_pieces-length page name from len = length-map-range_with_len (piece_at page name from len) 0 (div_ceil len page)

-- ---- the parts of a blob

pub pieces_from-All : (page name from : ℕ) (parts : List Part) → 0 < page → AllByRecursion (IsPieceOf name from (byte_total parts))
    (pieces_from page name from parts)
pieces_from-All page name from [] some = tt
pieces_from-All page name from (part ∷ parts) some =
    let len = length (part_bytes part) in
    let total : byte_total (part ∷ parts) ≡ len + byte_total parts = length-append (part_bytes part) (flat_map part_bytes parts) in
    All-append (IsPieceOf name from (byte_total (part ∷ parts))) (part_pieces page name from len) (pieces_from page name (from + len) parts)
    (
    All-weaker (IsPieceOf name from len) (IsPieceOf name from (byte_total (part ∷ parts)))
    (λ piece is. record { same = is.same; above = is.above; some = is.some; within = omega (arith, is.within, total) })
    (part_pieces page name from len) (part_pieces-All page name from len some)
    )
    (
    All-weaker (IsPieceOf name (from + len) (byte_total parts)) (IsPieceOf name from (byte_total (part ∷ parts)))
    (λ piece is. record { same = is.same; above = omega (arith, is.above); some = is.some; within = omega (arith, is.within, total) })
    (pieces_from page name (from + len) parts) (pieces_from-All page name (from + len) parts some)
    )

pub pieces_from-sum : (page name from : ℕ) (parts : List Part) → 0 < page → sum_by (λ (piece : Piece). piece.len) (pieces_from page name from parts)
    ≡ byte_total parts
pieces_from-sum page name from [] some = refl
pieces_from-sum page name from (part ∷ parts) some =
    let len = length (part_bytes part) in
    sum_by-append (λ (piece : Piece). piece.len) (part_pieces page name from len) (pieces_from page name (from + len) parts)
    ∙ ap (λ n. n + sum_by (λ (piece : Piece). piece.len) (pieces_from page name (from + len) parts)) (part_pieces-sum page name from len some)
    ∙ ap (λ n. len + n) (pieces_from-sum page name (from + len) parts some)
    ∙ sym (length-append (part_bytes part) (flat_map part_bytes parts))

pub pieces_from-length : (page name from : ℕ) (parts : List Part) → length (pieces_from page name from parts) ≡ piece_total page parts
pieces_from-length page name from [] = refl
pieces_from-length page name from (part ∷ parts) =
    let len = length (part_bytes part) in
    length-append (part_pieces page name from len) (pieces_from page name (from + len) parts)
    ∙ ap (λ n. n + length (pieces_from page name (from + len) parts)) (part_pieces-length page name from len)
    ∙ ap (λ n. div_ceil len page + n) (pieces_from-length page name (from + len) parts)
    ∙ sym (sum_by-cons (λ (each : Part). div_ceil (length (part_bytes each)) page) part parts)
