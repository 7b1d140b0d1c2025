-- The spans of a cut stand end to end; how many there are, and where the k-th stands.
use Rattle.std.proofs.Common.{◌≡◌, ℕ, zero, suc, ◌+◌, ◌-◌, ◌*◌, ◌<◌, ◌≤◌, ◌^◌, List, [], ◌∷◌, ◌++◌, length, map, min, sum, sum_by, get_or, drop, take, refl, ◌∙◌, arith, length-append, ⊎_elim}
use Rattle.std.specs.List.{range_with_len}
use Rattle.std.specs.Int.{div_ceil}
use Rattle.std.proofs.lemmas.Grind.{div_ceil_times}
use Rattle.std.proofs.lemmas.List.FromFn.{length-map-range_with_len, get_or-map-range_with_len}
use Rattle.std.proofs.lemmas.List.Sums.{sum_by-cons, sum_by-le-sum_by, sum_by-drop_more, sum_by_more_le}
use Rattle.std.proofs.lemmas.Bool.{cases_lt}
use Rattle.std.proofs.lemmas.List.{drop_more, get_or-append_right, get_or_append_left}
use Rattle.std.proofs.Math.Nat.{mul-le-mul_left, mul-le-mul_right}
use Rattle.transport_plan.specs.Spans.{span_at, cut_spans, piece_spans, piece_count, IsEndToEnd}

-- a span that is there begins before the end
pub start_within : (size len k : ℕ) → 0 < size → k < div_ceil len size → k * size < len
start_within size len k some within =
    let bounds = div_ceil_times len size some in
    let most : (k + 1) * size ≤ div_ceil len size * size = mul-le-mul_right size (omega (arith, within)) in
    omega (arith, bounds, most)

-- and no span begins at the end or behind it
pub end_within : (size len : ℕ) → 0 < size → len ≤ div_ceil len size * size
end_within size len some = (div_ceil_times len size some).0

-- there are no more spans than bytes
pub count_bound : (size len : ℕ) → 0 < size → div_ceil len size ≤ len
count_bound size len some =
    let bounds = div_ceil_times len size some in
    ⊎_elim
    (λ (more : len < div_ceil len size).
    let most : (len + 1) * size ≤ div_ceil len size * size = mul-le-mul_right size (omega (arith, more)) in
    let least : len * 1 ≤ len * size = mul-le-mul_left len (omega arith) in
    absurd (omega (arith, bounds, most, least)))
    (λ (within : div_ceil len size ≤ len). within)
    (cases_lt len (div_ceil len size))

cut_from : (size from len : ℕ) → 0 < size → (n k place : ℕ) → k + n ≡ div_ceil len size → place ≡ from + min (k * size) len
    → IsEndToEnd place (map (λ (j : ℕ). (from + (span_at size len j).0, (span_at size len j).1)) (range_with_len k n)) (from + len)
cut_from size from len some zero k place all at =
    let whole = end_within size len some in
    let same : k ≡ div_ceil len size = omega (arith, all) in
    let enough : len ≤ k * size = rw same whole in
    omega (arith, at, enough)
cut_from size from len some (suc n) k place all at =
    let before = start_within size len k some (omega (arith, all)) in
    (omega (arith, at, before), omega (arith, at, before), cut_from size from len some n (k + 1) _ (omega (arith, all)) (omega (arith, at, before)))

pub cut_cover : (size from len : ℕ) → 0 < size → IsEndToEnd from (cut_spans size from len) (from + len)
cut_cover size from len some = cut_from size from len some (div_ceil len size) 0 from (omega arith) (omega arith)

join : (xs ys : List (ℕ × ℕ)) (from middle to : ℕ) → IsEndToEnd from xs middle → IsEndToEnd middle ys to → IsEndToEnd from (xs ++ ys) to
join [] ys from middle to front back = rw front back
join (x ∷ xs) ys from middle to front back = (front.0, front.1, join xs ys (from + x.1) middle to front.2 back)

pub cover_sum : (xs : List (ℕ × ℕ)) (from to : ℕ) → IsEndToEnd from xs to → from + sum_by (λ (span : ℕ × ℕ). span.1) xs ≡ to
cover_sum [] from to cover = omega (arith, cover)
cover_sum (x ∷ xs) from to cover =
    omega (arith, cover_sum xs (from + x.1) to cover.2, sum_by-cons (λ (span : ℕ × ℕ). span.1) x xs)

sum-cons : (x : ℕ) (xs : List ℕ) → sum (x ∷ xs) ≡ x + sum xs
sum-cons x xs = sum_by-cons (λ (y : ℕ). y) x xs

pub pieces_cover : (page : ℕ) (parts : List ℕ) (from : ℕ) → 0 < page → IsEndToEnd from (piece_spans page from parts) (from + sum parts)
pieces_cover page [] from some = omega arith
pieces_cover page (len ∷ parts) from some =
    let rest = pieces_cover page parts (from + len) some in
    let whole : (from + len) + sum parts ≡ from + sum (len ∷ parts) = omega (arith, sum-cons len parts) in
    join _ _ from (from + len) _ (cut_cover page from len some) (rw whole at rest)

pub cut_length : (size from len : ℕ) → length (cut_spans size from len) ≡ div_ceil len size
cut_length size from len = length-map-range_with_len _ 0 (div_ceil len size)

pub pieces_length : (page : ℕ) (parts : List ℕ) (from : ℕ) → length (piece_spans page from parts) ≡ piece_count page parts
pieces_length page [] from = refl
pieces_length page (len ∷ parts) from =
    length-append (cut_spans page from len) (piece_spans page (from + len) parts) ∙ omega
    (arith, cut_length page from len, pieces_length page parts (from + len), sum_by-cons (λ (n : ℕ). div_ceil n page) len parts)

pub cut_at : (size from len k : ℕ) → k < div_ceil len size → get_or (cut_spans size from len) k (0, 0) ≡ (from + k * size, min size (len - k * size))
cut_at size from len k within = get_or-map-range_with_len _ 0 (div_ceil len size) k k (0, 0) within (omega arith)

-- as many pieces of one page have room for all bytes
pub sum_bound : (page : ℕ) (parts : List ℕ) → 0 < page → sum parts ≤ piece_count page parts * page
sum_bound page [] some = omega arith
sum_bound page (len ∷ parts) some =
    let rest = sum_bound page parts some in
    let this = end_within page len some in
    let spread : (div_ceil len page + piece_count page parts) * page ≡ div_ceil len page * page + piece_count page parts * page = omega arith in
    rw (sum-cons len parts, sum_by-cons (λ (n : ℕ). div_ceil n page) len parts) (omega (arith, rest, this, spread))

-- and are at most as many as the bytes
pub pieces_bound : (page : ℕ) (parts : List ℕ) → 0 < page → piece_count page parts ≤ sum parts
pieces_bound page parts some = sum_by-le-sum_by (λ (n : ℕ). div_ceil n page) (λ (n : ℕ). n) parts (λ n. count_bound page n some)

-- so few pieces of so small a page keep the bytes inside a word
pub sum_small : (page : ℕ) (parts : List ℕ) → 0 < page → page ≤ 2 ^ 18 → piece_count page parts < 2 ^ 32 → sum parts < 2 ^ 50
sum_small page parts some small few =
    let room : piece_count page parts * page ≤ piece_count page parts * 2 ^ 18 = mul-le-mul_left (piece_count page parts) small in
    omega (arith, sum_bound page parts some, room)

-- the k-th piece of what is left of the parts is in the first part that is left, or behind it
pub piece_here : (page from left i : ℕ) (parts : List ℕ) → i < length parts → left < div_ceil (get_or parts i 0) page
    → get_or (piece_spans page from (drop i parts)) left (0, 0) ≡ (from + left * page, min page (get_or parts i 0 - left * page))
piece_here page from left i parts inside within =
    let here : left < length (cut_spans page from (get_or parts i 0)) = rw (cut_length page from (get_or parts i 0)) within in
    rw (drop_more parts i 0 inside) (get_or_append_left (cut_spans page from (get_or parts i 0)) _ (0, 0) left here ∙ cut_at page from (get_or parts i 0) left
    within)

pub piece_behind : (page from left i : ℕ) (parts : List ℕ) → i < length parts → div_ceil (get_or parts i 0) page ≤ left
    → get_or (piece_spans page from (drop i parts)) left (0, 0)
    ≡ get_or (piece_spans page (from + get_or parts i 0) (drop (i + 1) parts)) (left - div_ceil (get_or parts i 0) page) (0, 0)
piece_behind page from left i parts inside behind =
    rw (drop_more parts i 0 inside) (get_or-append_right (cut_spans page from (get_or parts i 0)) _ (div_ceil (get_or parts i 0) page) left (0, 0)
    (cut_length page from (get_or parts i 0)) behind)

pub count_left : (page i : ℕ) (parts : List ℕ) → i < length parts → piece_count page (drop i parts) ≡ div_ceil (get_or parts i 0) page + piece_count page
    (drop (i + 1) parts)
count_left page i parts inside = sum_by-drop_more (λ (n : ℕ). div_ceil n page) parts i 0 inside

pub sum_so_far : (i : ℕ) (parts : List ℕ) → i < length parts → sum (take i parts) + get_or parts i 0 ≤ sum parts
sum_so_far i parts inside = sum_by_more_le (λ (n : ℕ). n) parts i 0 inside

pub count_so_far : (page i : ℕ) (parts : List ℕ) → i < length parts → piece_count page (take i parts) + div_ceil (get_or parts i 0) page ≤ piece_count page
    parts
count_so_far page i parts inside = sum_by_more_le (λ (n : ℕ). div_ceil n page) parts i 0 inside
