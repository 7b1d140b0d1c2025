-- The segments in a buffer: how many they are, which are missing, what one more changes, and what all of them make.
use Rattle.std.proofs.Common.{◌≡◌, ℕ, zero, suc, ◌+◌, ◌-◌, ◌*◌, ◌<◌, ◌≤◌, Bool, true, false, cond, not, List, [], ◌∷◌, ◌++◌, Option, Some, None, length, min, take, drop, set, replicate, get_or, count_by, refl, sym, ap, ◌∙◌, arith, ⊎_elim, append-nil, length-drop}
use Rattle.std.specs.Prelude.{flat_map}
use Rattle.std.specs.Option.{is_some, is_none, unwrap_or}
use Rattle.std.proofs.lemmas.List.{take_all, drop_all, take_at, drop_at, take-take, take-append-le, drop-append-le, drop-take, drop-drop, length-take-le, take-append-drop, nil_from_length}
use Rattle.std.proofs.lemmas.Bool.{cases_lt}
use Rattle.std.proofs.lemmas.List.Sums.{sum_by-cons, sum_by-set}
use Rattle.blob_words.specs.Bytes.{spliced}
use Rattle.segment_assembly.specs.Slots.{slots}

pub length_slots : (size : ℕ) (came : List Bool) (bytes : List ℕ) → length (slots size came bytes) ≡ length came
length_slots size [] bytes = refl
length_slots size (c ∷ came) bytes = ap suc (length_slots size came (drop size bytes))

some_is : (c : Bool) (bytes : List ℕ) → is_some (cond c (Some bytes) None) ≡ c
some_is true bytes = refl
some_is false bytes = refl

pub came_at : (size k : ℕ) (came : List Bool) (bytes : List ℕ) → is_some (get_or (slots size came bytes) k None) ≡ get_or came k false
came_at size k [] bytes = refl
came_at size zero (c ∷ came) bytes = some_is c (take size bytes)
came_at size (suc k) (c ∷ came) bytes = came_at size k came (drop size bytes)

abbrev count_one : {A : Type 0} → (A → Bool) → A → ℕ
count_one p x = cond {A = ℕ} (p x) 1 0

none_is : (c : Bool) (bytes : List ℕ) → is_none (cond c (Some bytes) None) ≡ not c
none_is true bytes = refl
none_is false bytes = refl

pub count_slots : (size : ℕ) (came : List Bool) (bytes : List ℕ) → count_by is_none (slots size came bytes) ≡ count_by not came
count_slots size [] bytes = refl
count_slots size (c ∷ came) bytes =
    let first : Option (List ℕ) = cond c (Some (take size bytes)) None in
    let here : count_one is_none first ≡ count_one not c = ap (λ (b : Bool). cond {A = ℕ} b 1 0) (none_is c (take size bytes)) in
    omega (
      arith,
      here,
      count_slots size came (drop size bytes),
      sum_by-cons (count_one is_none) first (slots size came (drop size bytes)),
      sum_by-cons
          (count_one not) c came,
    )

pub count_set : (k : ℕ) (came : List Bool) → k < length came → get_or came k false ≡ false → count_by not (set came k true) + 1 ≡ count_by not came
count_set k came within missing =
    let was : count_one not (get_or came k false) ≡ 1 = ap (count_one not) missing in
    omega (arith, was, sum_by-set (count_one not) came k true false within)

pub none_slots : (size n : ℕ) (bytes : List ℕ) → slots size (replicate n false) bytes ≡ replicate n None
none_slots size zero bytes = refl
none_slots size (suc n) bytes = ap (λ (rest : List (Option (List ℕ))). None ∷ rest) (none_slots size n (drop size bytes))

-- the first segment, which is as long as it may be
first_write : (size : ℕ) (new bytes : List ℕ) → length new ≡ min size (length bytes)
    → (take size (spliced 0 new bytes) ≡ new) × (drop size (spliced 0 new bytes) ≡ drop size bytes)
first_write size new bytes fits =
    let none : 0 + length new ≡ length new = omega arith in
    ⊎_elim
    (λ (short : length new < size).
    let whole : length bytes ≤ length new = omega arith in
    let rest : drop (0 + length new) bytes ≡ [] = rw none (drop_all (length new) bytes whole) in (
      rw (rest, append-nil new) (take_all size new (omega (arith, short))),
      rw (rest, append-nil new)
          (drop_all size new (omega (arith, short)) ∙ sym (drop_all size bytes (omega (arith, short, whole)))),
    ))
    (λ (enough : size ≤ length new).
    let full : length new ≡ size = omega (arith, enough) in
    (take_at new _ size full, drop_at new _ size full ∙ ap (λ (n : ℕ). drop n bytes) (none ∙ full)))
    (cases_lt (length new) size)

-- a segment further on: the first one stays, and what is behind it changes
next_write : (size start : ℕ) (new bytes : List ℕ) → size + start ≤ length bytes
    → (take size (spliced (size + start) new bytes) ≡ take size bytes) × (drop size (spliced (size + start) new bytes) ≡ spliced start new (drop size bytes))
next_write size start new bytes inside =
    let front = take (size + start) bytes in
    let back = new ++ drop (size + start + length new) bytes in
    let long : size ≤ length front = rw (length-take-le (size + start) bytes inside) (omega arith) in
    let same : size + (start + length new) ≡ size + start + length new = omega arith in (
      take-append-le size front back long ∙ take-take size (size + start) bytes (omega arith),
      drop-append-le size front back long ∙ rw (drop-take size start bytes, drop-drop (start + length new) size bytes, same) refl,
    )

-- a segment written to its place is the one that is there, and no other changes
pub write_slot : (size k : ℕ) (came : List Bool) (new bytes : List ℕ) → k < length came → k * size ≤ length bytes → length new
    ≡ min size (length bytes - k * size)
    → slots size (set came k true) (spliced (k * size) new bytes) ≡ set (slots size came bytes) k (Some new)
write_slot size k [] new bytes within inside fits = absurd (omega arith)
write_slot size zero (c ∷ came) new bytes within inside fits =
    let none : zero * size ≡ 0 = omega arith in
    let write = first_write size new bytes (omega arith) in
    rw (none, write.0, write.1) refl
write_slot size (suc k) (c ∷ came) new bytes within inside fits =
    let next : suc k * size ≡ size + k * size = omega arith in
    let write = next_write size (k * size) new bytes (omega arith) in
    let rest = write_slot size k came new (drop size bytes) (omega arith) (rw (length-drop size bytes) (omega arith))
    (rw (length-drop size bytes) (omega arith)) in
    rw (next, write.0, write.1, rest) refl

-- where none is missing, the segments one after the other are the buffer
pub all_slots : (size : ℕ) (came : List Bool) (bytes : List ℕ) → length bytes ≤ length came * size → count_by not came ≡ 0
    → flat_map (λ (s : Option (List ℕ)). unwrap_or s []) (slots size came bytes) ≡ bytes
all_slots size [] bytes short none = sym (nil_from_length bytes (omega arith))
all_slots size (true ∷ came) bytes short none =
    let fewer : length (drop size bytes) ≤ length came * size = rw (length-drop size bytes) (omega arith) in
    let rest = all_slots size came (drop size bytes) fewer (omega (arith, none, sum_by-cons (count_one not) true came)) in
    rw rest (take-append-drop size bytes)
all_slots size (false ∷ came) bytes short none =
    absurd (omega (arith, none, sum_by-cons (count_one not) false came))
