-- Pages by their keys.
use Rattle.std.proofs.Common.{◌≡◌, ℕ, ◌*◌, ◌-◌, ◌^◌, ◌<◌, ◌&&◌, Bool, true, false, cond, not, List, [], ◌∷◌, ◌++◌, zero, suc, length, map, min, nat_eq, nat_le, nat_lt, get_or, set, subst, take, refl, sym, arith}
use Rattle.std.specs.List.{AllByRecursion, IsDistinct, position, prefix_len}
use Rattle.std.proofs.lemmas.Bool.{ltb-true}
use Rattle.std.proofs.lemmas.Bool.Decides.{nat_tests}
use Rattle.std.proofs.lemmas.List.{length-map}
use Rattle.blob_words.specs.declared.number.PieceNo.{PieceNo}
use Rattle.page_files.specs.declared.page.Page.{Page}
use Rattle.page_files.specs.declared.page.Page.TheVariants.{Torn, Whole, Asked}
use Rattle.page_files.specs.declared.held.Held.{Held}
use Rattle.page_files.specs.Pieces.{bytes_of, numbers}
use Rattle.page_files.specs.Pages.{can_move, is_due, is_held, pieces_of, released, size_of}
use Rattle.page_files.specs.Keys.{due_key, thin_key, HasSize}
use Rattle.page_files.proofs.Lists.{all_at, all_then}

pub all_push : {X : Type 0} (P : X → Type 0) (xs : List X) (y : X) → AllByRecursion P xs → P y → AllByRecursion P (xs ++ y ∷ [])
all_push P [] y all one = (one, tt)
all_push P (x ∷ xs) y all one = (all.0, all_push P xs y all.1 one)

pub all_take : {X : Type 0} (P : X → Type 0) (n : ℕ) (xs : List X) → AllByRecursion P xs → AllByRecursion P (take n xs)
all_take P zero xs all = tt
all_take P (suc n) [] all = tt
all_take P (suc n) (x ∷ xs) all = (all.0, all_take P n xs all.1)

pub all_set : {X : Type 0} (P : X → Type 0) (xs : List X) (i : ℕ) (y : X) → AllByRecursion P xs → P y → AllByRecursion P (set xs i y)
all_set P [] i y all one = tt
all_set P (x ∷ xs) zero y all one = (one, all.1)
all_set P (x ∷ xs) (suc i) y all one = (all.0, all_set P xs i y all.1 one)

-- the first key that passes is that of the first page that passes
prefix_same : {X : Type 0} (f : X → ℕ) (p : ℕ → Bool) (q : X → Bool) (xs : List X) → AllByRecursion (λ x. p (f x) ≡ q x) xs → prefix_len (λ y. not (p y))
    (map f xs) ≡ prefix_len (λ x. not (q x)) xs
prefix_same f p q [] all = refl
prefix_same f p q (x ∷ xs) all = rw (all.0, prefix_same f p q xs all.1) refl

pub position_same : {X : Type 0} (f : X → ℕ) (p : ℕ → Bool) (q : X → Bool) (xs : List X) → AllByRecursion (λ x. p (f x) ≡ q x) xs → position p (map f xs)
    ≡ position q xs
position_same f p q xs all = rw (prefix_same f p q xs all, length-map xs f) refl

-- a thin page's key is small enough exactly where its pieces have room
key_by : (bytes size room : ℕ) (held : Bool) → size < 2 ^ 64 → nat_le (cond (held && nat_lt (2 * bytes) size) bytes (2 ^ 64 - 1)) (min room (2 ^ 64 - 2))
    ≡ ((held && nat_lt (2 * bytes) size) && nat_le bytes room)
key_by bytes size room false fits = grind (arith, nat_tests)
key_by bytes size room true fits =
    (elim (nat_lt (2 * bytes) size) as (λ r. nat_lt (2 * bytes) size ≡ r → nat_le (cond r bytes (2 ^ 64 - 1)) (min room (2 ^ 64 - 2))
    ≡ (r && nat_le bytes room)) [
      | true ↦ λ is. let less : 2 * bytes < size = ltb-true (2 * bytes) size is in grind (arith, nat_tests)
      | false ↦ λ is. grind (arith, nat_tests)
    ]) refl

pub thin_keys : (room : ℕ) (pages : List Page) → AllByRecursion HasSize pages
    → AllByRecursion (λ page. nat_le (thin_key page) (min room (2 ^ 64 - 2)) ≡ can_move room page) pages
thin_keys room pages sizes = all_then HasSize (λ page. nat_le (thin_key page) (min room (2 ^ 64 - 2)) ≡ can_move room page)
    (λ page fits. key_by (bytes_of (pieces_of page)) (size_of page) room (is_held page) fits) pages sizes

due_by : (due : Bool) → nat_le (cond due 0 1) 0 ≡ due
due_by true = refl
due_by false = refl

pub due_keys : (pages : List Page) → AllByRecursion (λ page. nat_le (due_key page) 0 ≡ is_due page) pages
due_keys [] = tt
due_keys (page ∷ pages) = (due_by (is_due page), due_keys pages)

-- a page keeps its size when a piece goes
pub released_size : (piece : PieceNo) (page : Page) → size_of (released piece page) ≡ size_of page
released_size piece Torn = refl
released_size piece (Whole size pieces) = refl
released_size piece Asked = refl

pub size_after : (pages : List Page) (place : ℕ) (page : Page) (piece : PieceNo) → AllByRecursion HasSize pages → place < length pages → page
    ≡ get_or pages place page → HasSize (released piece page)
size_after pages place page piece sizes inside is = rw (released_size piece page) (subst HasSize (sym is) (all_at HasSize pages place page inside sizes))

-- no pieces are apart
pub none_apart : IsDistinct nat_eq []
unfolding IsDistinct
none_apart = tt

pub apart_none : (pieces : List Held) → pieces ≡ [] → IsDistinct nat_eq (numbers pieces)
apart_none [] none = none_apart
apart_none (held ∷ pieces) none = cc
