-- What items in page files tell are the values of their cells.
use Rattle.std.proofs.Common.{◌≡◌, ℕ, zero, suc, ◌+◌, ◌<◌, ◌≤◌, ◌==◌, ◌&&◌, ◌||◌, Bool, true, false, not, cond, List, [], ◌∷◌, ◌++◌, length, drop, Option, Some, None, refl, sym, ap, subst, ◌∙◌, arith}
use Rattle.std.specs.Prelude.{map, nat_le, nat_lt, option_and_then, reverse, slice_get, sum_by, take, IfSome, IsSomeAnd, if◌then◌else◌}
use Rattle.std.specs.Option.{option_map, option_map_or, option_or}
use Rattle.std.specs.List.{AllByRecursion, list_any, prefix_len}
use Rattle.std.proofs.lemmas.Bool.{eqb-true, eq-eqb, le-leb, lt-ltb}
use Rattle.std.proofs.lemmas.List.Sums.{sum_by-cons}
use Rattle.item_shares.specs.Shares.{item_at}
use Rattle.item_shares.specs.declared.item.Item.{Item}
use Rattle.item_shares.specs.declared.item.Item.TheVariants.{Memory, Paged, Reserved, File, Range}
use Rattle.page_disk.specs.Changes.{last_put, put_by}
use Rattle.page_disk.specs.declared.change.Change.{Change}
use Rattle.page_disk.specs.declared.change.Change.TheVariants as disk_changes
use Rattle.range_reader.specs.Bytes.{item_byte, item_fails, origins}
use Rattle.range_reader.specs.Places.{Lies}
use Rattle.blob_words.specs.declared.plan.Plan.{Plan}
use Rattle.blob_words.specs.declared.plan.Plan.TheVariants as plans
use Rattle.blob_model.specs.Builds.{Build, builds, build_in, sent}
use Rattle.blob_model.specs.Changes.{changes, list_bytes, numbered_bytes, piece_bytes}
use Rattle.blob_model.specs.History.{History}
use Rattle.blob_model.specs.Pages.{Page, Place, in_page, lists, offset, page_with, pages, place, place_by, planned_place, unlisted_place}
use Rattle.blob_model.specs.Pieces.{Piece, length_in, owns, piece_with, pieces}
use Rattle.blob_model.specs.Session.{Session, page_limit}
use Rattle.blob_model.specs.Value.{agrees, is_byte, is_in_page, is_paged, is_untold, value}
use Rattle.blob_model.proofs.Lists.{all_reverse, false_true, found_all, found_true}
use Rattle.blob_model.proofs.builds.Order.{Distinct, ordered_distinct}
use Rattle.model_bridges.specs.Bridges.{change_as}
use Rattle.store_laws.specs.Cells.{item_cell, piece_cell, piece_in}
use Rattle.store_laws.specs.Items.{IsPlaced}
use Rattle.store_laws.specs.TellLaws.{AreWritten, IsWritten, TellsAllCells, bytes_by, bytes_in}
use Rattle.store_laws.specs.Uses.{facts_of, offset_in}
use Rattle.store_laws.proofs.Owners.{IsOwner, owners, pieces_staggered}
use Rattle.store_laws.proofs.Told.{by_told, each_there, got, is_value, slice_drop, tells_cells}

-- ---- lists

get_first : {X : Type 0} (xs ys : List X) (k : ℕ) → k < length xs → slice_get (xs ++ ys) k ≡ slice_get xs k
get_first [] ys k low = absurd (omega (arith, low))
get_first (x ∷ xs) ys zero low = refl
get_first (x ∷ xs) ys (suc k) low = get_first xs ys k (omega (arith, low))

get_second : {X : Type 0} (xs ys : List X) (k : ℕ) → slice_get (xs ++ ys) (length xs + k) ≡ slice_get ys k
get_second [] ys k = let same : zero + k ≡ k = omega arith in ap (slice_get ys) same
get_second (x ∷ xs) ys k =
    let same : suc (length xs) + k ≡ suc (length xs + k) = omega arith in ap (slice_get (x ∷ xs ++ ys)) same ∙ get_second xs ys k

-- ---- the disk

-- what the disk last put into a page file, as the history says it
same_put : (page : ℕ) (change : Change) → put_by page change ≡ bytes_by page (change_as change)
same_put page (disk_changes.Put one bytes) = refl
same_put page (disk_changes.Torn one) = refl
same_put page (disk_changes.Remove one) = refl
same_put page (disk_changes.Left one) = refl

same_last : (page : ℕ) (list : List Change) → last_put page list ≡ bytes_in page (map change_as list)
same_last page [] = refl
same_last page (change ∷ list) = λ i. option_or (same_last page list i) (same_put page change i)

-- ---- places

unplaced : (build : Option Build) (n : ℕ) → unlisted_place build ≡ in_page n → ⊥
unplaced None n e = false_true (ap is_in_page e)
unplaced (Some build) n e = go build.plan e
  where
    go : (plan : Option Plan) → planned_place plan ≡ in_page n → ⊥
    go (Some (plans.File m)) f = false_true (ap is_in_page f)
    go None f = false_true (ap is_in_page f)
    go (Some plans.None) f = false_true (ap is_in_page f)
    go (Some plans.Inline) f = false_true (ap is_in_page f)
    go (Some (plans.Shared m)) f = false_true (ap is_in_page f)
    go (Some plans.OutOfMemory) f = false_true (ap is_in_page f)
    go (Some (plans.TooMany what)) f = false_true (ap is_in_page f)

abbrev page_number : Place → ℕ
page_number (in_page n) = n
page_number at = 0

abbrev is_other : Piece → ℕ → Bool
is_other one listed = not (listed == one.number)

-- ---- the bytes of a page file

module _ (s : Session) (h : History) where
  abbrev size_of : ℕ → ℕ
  size_of number = length_in (pieces (page_limit s) h) number

  abbrev IsWhole : ℕ → Type 0
  IsWhole number = length (numbered_bytes s h number) ≡ size_of number

  -- those of a piece stand at its offset
  abbrev StandsAt : List ℕ → Piece → ℕ → ℕ → Type 0
  StandsAt bytes one off place = (length (piece_bytes s h one) ≡ one.len) × (slice_get bytes (off + place) ≡ slice_get (piece_bytes s h one) place)

  at_offset : (list : List ℕ) (one : Piece) (place : ℕ) → AllByRecursion IsWhole list → list_any (λ (listed : ℕ). listed == one.number) list ≡ true
      → piece_in (pieces (page_limit s) h) one.number ≡ Some one → place < one.len
      → StandsAt (list_bytes s h list) one (offset (pieces (page_limit s) h) (record { number = 0; pieces = list }) one.number) place
  at_offset [] one place whole e at within = absurd (false_true e)
  at_offset (number ∷ list) one place whole e at within = by (number == one.number) refl e (λ f. at_offset list one place whole.1 f at within)
    where
      by : (b : Bool) → (number == one.number) ≡ b → (b || list_any (λ (listed : ℕ). listed == one.number) list) ≡ true
          → (list_any (λ (listed : ℕ). listed == one.number) list ≡ true
          → StandsAt (list_bytes s h list) one (sum_by size_of (take (prefix_len (is_other one) list) list)) place)
          → StandsAt (numbered_bytes s h number ++ list_bytes s h list) one
          (sum_by size_of (take (cond (not (number == one.number)) (1 + prefix_len (is_other one) list) 0) (number ∷ list))) place
      by true same f more =
          let mine : numbered_bytes s h number ≡ piece_bytes s h one =
          ap (numbered_bytes s h) (eqb-true number one.number same) ∙ ap (λ (found : Option Piece). option_map_or (piece_bytes s h) found []) at in
          let size : size_of number ≡ one.len =
          ap size_of (eqb-true number one.number same)
          ∙ ap (λ (found : Option Piece). option_map_or (λ (piece : Piece). piece.len) found 0) at in
          let long : length (numbered_bytes s h number) ≡ one.len = whole.0 ∙ size in
          let first : sum_by size_of (take (cond (not (number == one.number)) (1 + prefix_len (is_other one) list) 0) (number ∷ list))
          + place ≡ place =
          ap (λ (b : Bool). sum_by size_of (take (cond (not b) (1 + prefix_len (is_other one) list) 0) (number ∷ list)) + place) same
          ∙ zero_plus place in (
            ap (λ (bytes : List ℕ). length bytes) (sym mine) ∙ long,
            ap (slice_get (numbered_bytes s h number ++ list_bytes s h list)) first
                ∙ get_first (numbered_bytes s h number) (list_bytes s h list) place (omega (arith, long, within))
                ∙ ap (λ (bytes : List ℕ). slice_get bytes place) mine,
          )
        where
          zero_plus : (n : ℕ) → 0 + n ≡ n
          zero_plus n = omega arith
      by false same f more =
          let rest = more f in
          let sums : sum_by size_of (take (cond (not (number == one.number)) (1 + prefix_len (is_other one) list) 0) (number ∷ list))
          ≡ size_of number + sum_by size_of (take (prefix_len (is_other one) list) list) =
          ap (λ (b : Bool). sum_by size_of (take (cond (not b) (1 + prefix_len (is_other one) list) 0) (number ∷ list))) same
          ∙ ap (λ (n : ℕ). sum_by size_of (take n (number ∷ list))) (one_more (prefix_len (is_other one) list))
          ∙ sum_by-cons size_of number (take (prefix_len (is_other one) list) list) in
          let long = whole.0 in
          let where_is : sum_by size_of (take (cond (not (number == one.number)) (1 + prefix_len (is_other one) list) 0) (number ∷ list))
          + place ≡ length (numbered_bytes s h number) + (sum_by size_of (take (prefix_len (is_other one) list) list) + place) =
          omega (arith, sums, long) in (
            rest.0,
            ap (slice_get (numbered_bytes s h number ++ list_bytes s h list)) where_is
                ∙ get_second (numbered_bytes s h number) (list_bytes s h list)
                (sum_by size_of (take (prefix_len (is_other one) list) list) + place)
                ∙ rest.1,
          )
        where
          one_more : (n : ℕ) → 1 + n ≡ suc n
          one_more n = omega arith

  -- a byte of a whole piece is the value of its cell
  piece_told : (one : Piece) (place byte : ℕ) → length (piece_bytes s h one) ≡ one.len → place < one.len
      → IfSome (slice_get (piece_bytes s h one) place) (λ (known : ℕ). byte ≡ known) → agrees s h (sent one.blob (one.from + place)) byte ≡ true
  piece_told one place byte whole within is =
      let f : ℕ → Option ℕ = λ (index : ℕ). value s h (sent one.blob index) in
      let same : slice_get (piece_bytes s h one) place ≡ value s h (sent one.blob (one.from + place)) =
      sym (each_there f one.from one.len whole place within) in
      is_value s h (is_untold s h (sent one.blob (one.from + place))) (value s h (sent one.blob (one.from + place))) byte
      (by_told s h (slice_get (piece_bytes s h one) place) (value s h (sent one.blob (one.from + place))) byte same
      (got s h (piece_bytes s h one) place (omega (arith, whole, within))) is)

  -- ---- a piece in a page file

  -- where the disk tells nothing each byte agrees
  silent : (one : Piece) (place page byte : ℕ) → Distinct (builds (page_limit s) h) → piece_in (pieces (page_limit s) h) one.number ≡ Some one
      → (facts_of s h).place one ≡ in_page page → place < one.len → s.outside.disk_tells ≡ false → agrees s h (sent one.blob (one.from + place)) byte ≡ true
  silent one place page byte distinct at placed within quiet =
      let low : nat_le one.from (one.from + place) ≡ true = le-leb one.from (one.from + place) (omega arith) in
      let high : nat_lt (one.from + place) (one.from + one.len) ≡ true = lt-ltb (one.from + place) (one.from + one.len) (omega (arith, within)) in
      let owned : owns one (sent one.blob (one.from + place)) ≡ true =
      ap (λ (b : Bool). b && nat_le one.from (one.from + place) && nat_lt (one.from + place) (one.from + one.len)) (eq-eqb one.blob one.blob refl)
      ∙ ap (λ (b : Bool). b && nat_lt (one.from + place) (one.from + one.len)) low ∙ high in
      let mine : piece_with (pieces (page_limit s) h) (sent one.blob (one.from + place)) ≡ Some one =
      found_all (IsOwner (pieces (page_limit s) h)) (λ (each : Piece). each.number == one.number) (pieces (page_limit s) h) one
      (owners (pieces (page_limit s) h) (pieces_staggered s.limits 0 (builds (page_limit s) h) distinct)) at (sent one.blob (one.from + place)) owned in
      let paged : is_paged (page_limit s) h (sent one.blob (one.from + place)) ≡ true =
      ap (λ (found : Option Piece). option_map_or (λ (piece : Piece). is_in_page ((facts_of s h).place piece)) found false) mine ∙ ap is_in_page placed in
      let untold : is_untold s h (sent one.blob (one.from + place)) ≡ true =
      ap (λ (b : Bool). elim b [ true ↦ false | false ↦ is_paged (page_limit s) h (sent one.blob (one.from + place)) ]) quiet ∙ paged in
      ap (λ (b : Bool). b || is_byte (value s h (sent one.blob (one.from + place))) byte) untold

  -- where it tells, those that it put
  spoken : (one : Piece) (place page off len byte : ℕ) (list : List Change) → AreWritten s h
      → piece_in (pieces (page_limit s) h) one.number ≡ Some one → (facts_of s h).place one ≡ in_page page
      → off ≡ (facts_of s h).offset one → place < one.len → map change_as list ≡ changes s h
      → IfSome (option_and_then (λ (bytes : List ℕ). slice_get bytes place) (option_map (drop off) (last_put page list))) (λ (known : ℕ). byte ≡ known)
      → agrees s h (sent one.blob (one.from + place)) byte ≡ true
  spoken one place page off len byte list written at placed offset_is within same is =
      by (page_with (pages h) one.number) refl placed offset_is
    where
      by : (found : Option Page) → page_with (pages h) one.number ≡ found → place_by found (build_in (builds (page_limit s) h) one.blob) ≡ in_page page
          → off ≡ offset_in (pieces (page_limit s) h) found one.number → agrees s h (sent one.blob (one.from + place)) byte ≡ true
      by None paged is_there starts = absurd (unplaced (build_in (builds (page_limit s) h) one.blob) page is_there)
      by (Some file) paged is_there starts =
          let file_written : IsWritten s h file =
          found_all (IsWritten s h) (λ (each : Page). lists each one.number) (reverse (pages h)) file (all_reverse (IsWritten s h) (pages h) written) paged in
          let listed : lists file one.number ≡ true = found_true (λ (each : Page). lists each one.number) (reverse (pages h)) file paged in
          let number : file.number ≡ page = ap page_number is_there in
          let last : last_put page list ≡ Some (list_bytes s h file.pieces) =
          same_last page list ∙ ap (bytes_in page) same ∙ ap (λ (n : ℕ). bytes_in n (changes s h)) (sym number) ∙ file_written.last in
          let stands = at_offset file.pieces one place file_written.whole listed at within in
          let told : slice_get (drop off (list_bytes s h file.pieces)) place ≡ slice_get (piece_bytes s h one) place =
          slice_drop off place (list_bytes s h file.pieces)
          ∙ ap (λ (n : ℕ). slice_get (list_bytes s h file.pieces) (n + place)) starts ∙ stands.1 in
          piece_told one place byte stands.0 within
          (subst (λ (found : Option ℕ). IfSome found (λ (known : ℕ). byte ≡ known)) told
          (subst (λ (bytes : Option (List ℕ)). IfSome (option_and_then (λ (each : List ℕ). slice_get each place) (option_map (drop off) bytes))
          (λ (known : ℕ). byte ≡ known)) last is))

  paged_told : (found : Option Piece) (number page off len place byte : ℕ) (told : Option (List Change))
      → Distinct (builds (page_limit s) h) → AreWritten s h → piece_in (pieces (page_limit s) h) number ≡ found
      → IsSomeAnd found (λ (one : Piece). ((facts_of s h).granted one ≡ true) × ((facts_of s h).place one ≡ in_page page)
      × (off ≡ (facts_of s h).offset one) × (len ≡ one.len))
      → place + 1 ≤ len → option_map (map change_as) told ≡ (if s.outside.disk_tells then Some (changes s h) else None)
      → IfSome (option_and_then (λ (bytes : List ℕ). slice_get bytes place) (option_map (drop off) (option_and_then (last_put page) told)))
      (λ (known : ℕ). byte ≡ known)
      → agrees s h (piece_cell found place) byte ≡ true
  paged_told None number page off len place byte told distinct written at placed within same is = absurd placed
  paged_told (Some one) number page off len place byte told distinct written at placed within same is =
      let named : one.number ≡ number =
      eqb-true one.number number (found_true (λ (each : Piece). each.number == number) (pieces (page_limit s) h) one at) in
      let found : piece_in (pieces (page_limit s) h) one.number ≡ Some one = ap (piece_in (pieces (page_limit s) h)) named ∙ at in
      let long = placed.3 in
      by told s.outside.disk_tells refl same is found (omega (arith, long, within))
    where
      some_is : {X : Type 0} (x y : X) → Some x ≡ Some y → x ≡ y
      some_is x y e = cc

      by : (told : Option (List Change)) (tells : Bool) → s.outside.disk_tells ≡ tells
          → option_map (map change_as) told ≡ (if s.outside.disk_tells then Some (changes s h) else None)
          → IfSome (option_and_then (λ (bytes : List ℕ). slice_get bytes place) (option_map (drop off) (option_and_then (last_put page) told)))
          (λ (known : ℕ). byte ≡ known)
          → piece_in (pieces (page_limit s) h) one.number ≡ Some one → place < one.len → agrees s h (sent one.blob (one.from + place)) byte ≡ true
      by told false quiet same is found within = silent one place page byte distinct found placed.1 within quiet
      by None true tells same is found within =
          let wrong : None ≡ Some (changes s h) = same ∙ ap (λ (b : Bool). if b then Some (changes s h) else None) tells in absurd (cc wrong)
      by (Some list) true tells same is found within =
          spoken one place page off len byte list written found placed.1 placed.2 within
          (some_is (map change_as list) (changes s h) (same ∙ ap (λ (b : Bool). if b then Some (changes s h) else None) tells)) is

pub tells_all_cells : TellsAllCells
tells_all_cells s h stands parts told table between ordered written slot place byte item at lies passes is = by item at lies passes is
  where
    by : (item : Item) → item_at parts.shares slot ≡ Some item → Lies (origins parts.files told table) place 1 item
        → item_fails parts.files place item ≡ false → IfSome (item_byte (origins parts.files told table) place item) (λ (known : ℕ). byte ≡ known)
        → agrees s h (item_cell (pieces (page_limit s) h) item place) byte ≡ true
    by (Paged piece page off len) at lies passes is =
        let placed = subst (λ (held : Option Item). IfSome held (IsPlaced (pieces (page_limit s) h) (facts_of s h))) at (between.contents.items.each slot) in
        paged_told s h (piece_in (pieces (page_limit s) h) piece.0) piece.0 page.0 off len place byte told
        (ordered_distinct [] (builds (page_limit s) h) ordered) written refl placed lies.0 between.disk_stands is
    by (Memory piece bytes) at lies passes is = tells_cells s h stands parts told table between slot place byte (Memory piece bytes) at tt lies passes is
    by (Reserved piece len) at lies passes is = tells_cells s h stands parts told table between slot place byte (Reserved piece len) at tt lies passes is
    by (File name stamp off len) at lies passes is =
        tells_cells s h stands parts told table between slot place byte (File name stamp off len) at tt lies passes is
    by (Range k off len) at lies passes is = tells_cells s h stands parts told table between slot place byte (Range k off len) at tt lies passes is
