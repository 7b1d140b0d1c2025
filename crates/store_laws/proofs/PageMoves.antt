-- What is held in a page file is what is reached there: its pieces and their bytes.
use Rattle.std.proofs.Common.{◌≡◌, ℕ, ◌+◌, ◌-◌, ◌*◌, ◌==◌, ◌&&◌, ◌||◌, not, Bool, true, false, cond, List, [], ◌∷◌, map, length, get_or}
use Rattle.std.proofs.Common.{refl, ap, sym, subst, ◌∙◌, nat_eq, nat_lt, nat_le, Option, Some, None}
use Rattle.std.specs.Prelude.{filter, sum_by}
use Rattle.std.specs.Option.{option_map_or}
use Rattle.std.specs.List.{list_any, AllByRecursion, IsDistinct}
use Rattle.std.proofs.lemmas.Bool.{eq-eqb, ne_eqb}
use Rattle.std.proofs.lemmas.List.Sums.{sum_by-cons}
use Rattle.std.proofs.lemmas.Map.Keys.{IsDistinct-cons, IsDistinct-head, IsDistinct-tail}
use Rattle.data_handles.specs.Table.{Table as HandleTable}
use Rattle.page_disk.specs.declared.change.Change.{Change}
use Rattle.page_files.specs.Files.{room}
use Rattle.page_files.specs.Pages.{can_move, pieces_of}
use Rattle.page_files.specs.Pieces.{bytes_of as held_bytes}
use Rattle.page_files.specs.declared.held.Held.{Held}
use Rattle.page_files.specs.declared.page.Page.{Page as FilePage}
use Rattle.page_files.specs.declared.page.Page.TheVariants.{Torn, Whole, Asked}
use Rattle.blob_model.specs.Builds.{builds, Build}
use Rattle.blob_model.specs.History.{History}
use Rattle.blob_model.specs.Live.{is_live}
use Rattle.blob_model.specs.Pages.{asked, is_page, place, Page}
use Rattle.blob_model.specs.Pieces.{length_in, pieces, Piece}
use Rattle.blob_model.specs.Reached.{reached}
use Rattle.blob_model.specs.Session.{page_limit, Session}
use Rattle.blob_model.specs.Settle.{can_move as can_move_in, kept}
use Rattle.blob_model.specs.Tally.{disk_of, in_page_of}
use Rattle.blob_model.proofs.Lists.{false_true, filter_all, for_each, found_filter}
use Rattle.blob_model.proofs.builds.PieceNumbers.{found_number, pieces_numbered, AreNumbered, FoundIn}
use Rattle.model_bridges.specs.Bridges.{held_numbers}
use Rattle.store_laws.specs.AgreeLaws.{IsKept}
use Rattle.store_laws.specs.Late.{IsLate}
use Rattle.store_laws.specs.PageFiles.{bare_piece, gone, holds_paged, placed_from, sheet, sheet_of, torn, whole, writes}
use Rattle.store_laws.specs.Stands.{Parts}
use Rattle.store_laws.specs.Uses.{is_held}
use Rattle.store_laws.proofs.HeldWeights.{sum_insert}
use Rattle.store_laws.proofs.Letting.{filter_same, filter_twice}
use Rattle.store_laws.proofs.PageCharges.{any_found, disk_told, has_some, held_in, listed, page_has, placed_some, reached_are, same_held, some_length, there}
use Rattle.store_laws.proofs.Pageable.{filter_any}

-- ---- lists

pub filter_each : (p q : Piece → Bool) (list : List Piece) → AllByRecursion (λ (piece : Piece). p piece ≡ q piece) list → filter p list ≡ filter q list
filter_each p q [] all = refl
filter_each p q (piece ∷ list) all =
    λ i. cond {A = List Piece} (all.0 i) (piece ∷ filter_each p q list all.1 i) (filter_each p q list all.1 i)

filter_nothing : {X : Type 0} (test : X → Bool) (list : List X) → ((x : X) → test x ≡ false) → filter test list ≡ []
filter_nothing test [] none = refl
filter_nothing {X = X} test (x ∷ list) none =
    ap (λ (b : Bool). cond {A = List X} b (x ∷ filter test list) (filter test list)) (none x) ∙ filter_nothing test list none

passing_all : (Q : ℕ → Type 0) (test : ℕ → Bool) (list : List ℕ) → ((n : ℕ) → test n ≡ true → Q n) → AllByRecursion Q (filter test list)
passing_all Q test [] f = tt
passing_all Q test (n ∷ list) f = go (test n) refl (passing_all Q test list f)
  where
    go : (b : Bool) → test n ≡ b → AllByRecursion Q (filter test list) → AllByRecursion Q (cond b (n ∷ filter test list) (filter test list))
    go true is rest = (f n is, rest)
    go false is rest = rest

pub none_kept : (test : ℕ → Bool) (n : ℕ) → test n ≡ false → (list : List ℕ) → list_any (λ (each : ℕ). each == n) (filter test list) ≡ false
none_kept test n fails [] = refl
none_kept test n fails (m ∷ list) = go (test m) refl (none_kept test n fails list)
  where
    go : (b : Bool) → test m ≡ b → list_any (λ (each : ℕ). each == n) (filter test list) ≡ false
        → list_any (λ (each : ℕ). each == n) (cond b (m ∷ filter test list) (filter test list)) ≡ false
    go true is rest =
        ap (λ (b : Bool). b || list_any (λ (each : ℕ). each == n) (filter test list))
        (ne_eqb m n (λ same. false_true (sym fails ∙ ap test (sym same) ∙ is))) ∙ rest
    go false is rest = rest

in_filter : (test : ℕ → Bool) (list : List ℕ) (n : ℕ) → (test n ≡ true → list_any (λ (each : ℕ). each == n) list ≡ true)
    → list_any (λ (each : ℕ). each == n) (filter test list) ≡ test n
in_filter test list n there = by (test n) refl
  where
    by : (b : Bool) → test n ≡ b → list_any (λ (each : ℕ). each == n) (filter test list) ≡ test n
    by true is = filter_any test n is list ∙ there is ∙ sym is
    by false is = none_kept test n is list ∙ sym is

none_having : (test : ℕ → Bool) (n : ℕ) → test n ≡ false → (list : List Piece)
    → list_any (λ (piece : Piece). piece.number == n) (filter (λ (piece : Piece). test piece.number) list) ≡ false
none_having test n fails [] = refl
none_having test n fails (piece ∷ list) = go (filter (λ (one : Piece). test one.number) list) (test piece.number) refl (none_having test n fails list)
  where
    go : (others : List Piece) (b : Bool) → test piece.number ≡ b → list_any (λ (one : Piece). one.number == n) others ≡ false
        → list_any (λ (one : Piece). one.number == n) (cond b (piece ∷ others) others) ≡ false
    go others true is rest =
        ap (λ (b : Bool). b || list_any (λ (one : Piece). one.number == n) others)
        (ne_eqb piece.number n (λ same. false_true (sym fails ∙ ap test (sym same) ∙ is))) ∙ rest
    go others false is rest = rest

distinct_filter : (test : ℕ → Bool) (list : List ℕ) → IsDistinct nat_eq list → IsDistinct nat_eq (filter test list)
distinct_filter test [] apart = apart
distinct_filter test (n ∷ list) apart = go (test n) (distinct_filter test list (IsDistinct-tail nat_eq n list apart))
  where
    go : (b : Bool) → IsDistinct nat_eq (filter test list) → IsDistinct nat_eq (cond b (n ∷ filter test list) (filter test list))
    go true rest =
        IsDistinct-cons nat_eq n (filter test list)
        (filter_all (λ (other : ℕ). nat_eq n other ≡ false) test list (IsDistinct-head nat_eq n list apart)) rest
    go false rest = rest

-- ---- the bytes of numbers that differ are those of their pieces

module _ (all : List Piece) (numbered : AreNumbered 0 all) where
  abbrev among : List ℕ → Piece → Bool
  among list piece = list_any (λ (number : ℕ). number == piece.number) list

  abbrev IsFound : ℕ → Type 0
  IsFound number = (one : Piece) × FoundIn all number one

  not_among : (n : ℕ) (one : Piece) → one.number ≡ n → (list : List ℕ) → AllByRecursion (λ (other : ℕ). nat_eq n other ≡ false) list
      → among list one ≡ false
  not_among n one is [] apart = refl
  not_among n one is (other ∷ list) apart =
      ap (λ (b : Bool). b || among list one)
      (ne_eqb other one.number (λ same. false_true (sym apart.0 ∙ eq-eqb n other (sym (same ∙ is))))) ∙ not_among n one is list apart.1

  bytes_among : (list : List ℕ) → IsDistinct nat_eq list → AllByRecursion IsFound list
      → sum_by (length_in all) list ≡ sum_by (λ (piece : Piece). piece.len) (filter (among list) all)
  bytes_among [] apart found = sym (ap (sum_by (λ (piece : Piece). piece.len)) (filter_nothing (among []) all (λ piece. refl)))
  bytes_among (n ∷ list) apart found =
      let one = found.0.0 in
      let at = found.0.1 in
      let here : length_in all n ≡ one.len = ap (λ (o : Option Piece). option_map_or (λ (piece : Piece). piece.len) o 0) at in
      let rest = bytes_among list (IsDistinct-tail nat_eq n list apart) found.1 in
      sum_by-cons (length_in all) n list ∙ (λ i. here i + rest i)
      ∙ sym (sum_insert (λ (piece : Piece). piece.len) n 0 (among list) all one numbered at
      (not_among n one (found_number all n one at) list (IsDistinct-head nat_eq n list apart)))

-- ---- what a page file holds, as its sheet says

-- of the pieces of these numbers those that pass a test
pub record Holds (all : List Piece) (test : ℕ → Bool) (list : List ℕ) (pieces : List Held) : Type 0 where
  pub numbers_so : held_numbers pieces ≡ filter test list
  pub bytes_so : held_bytes pieces ≡ sum_by (length_in all) (filter test list)
  pub lengths : AllByRecursion (λ (held : Held). held.len ≡ length_in all held.piece.0) pieces

module _ (all : List Piece) (test : ℕ → Bool) where
  placed_numbers : (off : ℕ) (list : List ℕ) → map (λ (one : ℕ × ℕ × ℕ). one.0) (placed_from all test off list) ≡ filter test list
  placed_numbers off [] = refl
  placed_numbers off (number ∷ list) = go (test number) (placed_numbers (off + length_in all number) list)
    where
      go : (b : Bool) → map (λ (one : ℕ × ℕ × ℕ). one.0) (placed_from all test (off + length_in all number) list) ≡ filter test list
          → map (λ (one : ℕ × ℕ × ℕ). one.0)
          (cond b ((number, off, length_in all number) ∷ placed_from all test (off + length_in all number) list)
          (placed_from all test (off + length_in all number) list))
          ≡ cond b (number ∷ filter test list) (filter test list)
      go true rest = ap (λ (more : List ℕ). number ∷ more) rest
      go false rest = rest

  placed_bytes : (off : ℕ) (list : List ℕ) → sum_by (λ (one : ℕ × ℕ × ℕ). one.2) (placed_from all test off list)
      ≡ sum_by (length_in all) (filter test list)
  placed_bytes off [] = refl
  placed_bytes off (number ∷ list) = go (test number) (placed_bytes (off + length_in all number) list)
    where
      go : (b : Bool) → sum_by (λ (one : ℕ × ℕ × ℕ). one.2) (placed_from all test (off + length_in all number) list)
          ≡ sum_by (length_in all) (filter test list)
          → sum_by (λ (one : ℕ × ℕ × ℕ). one.2)
          (cond b ((number, off, length_in all number) ∷ placed_from all test (off + length_in all number) list)
          (placed_from all test (off + length_in all number) list))
          ≡ sum_by (length_in all) (cond b (number ∷ filter test list) (filter test list))
      go true rest =
          sum_by-cons (λ (one : ℕ × ℕ × ℕ). one.2) (number, off, length_in all number) (placed_from all test (off + length_in all number) list)
          ∙ ap (λ (n : ℕ). length_in all number + n) rest ∙ sym (sum_by-cons (length_in all) number (filter test list))
      go false rest = rest

  placed_lengths : (off : ℕ) (list : List ℕ) → AllByRecursion (λ (one : ℕ × ℕ × ℕ). one.2 ≡ length_in all one.0) (placed_from all test off list)
  placed_lengths off [] = tt
  placed_lengths off (number ∷ list) = go (test number) (placed_lengths (off + length_in all number) list)
    where
      go : (b : Bool) → AllByRecursion (λ (one : ℕ × ℕ × ℕ). one.2 ≡ length_in all one.0) (placed_from all test (off + length_in all number) list)
          → AllByRecursion (λ (one : ℕ × ℕ × ℕ). one.2 ≡ length_in all one.0)
          (cond b ((number, off, length_in all number) ∷ placed_from all test (off + length_in all number) list)
          (placed_from all test (off + length_in all number) list))
      go true rest = (refl, rest)
      go false rest = rest

  bare_numbers : (list : List Held) → held_numbers list ≡ map (λ (one : ℕ × ℕ × ℕ). one.0) (map bare_piece list)
  bare_numbers [] = refl
  bare_numbers (held ∷ list) = ap (λ (more : List ℕ). held.piece.0 ∷ more) (bare_numbers list)

  bare_bytes : (list : List Held) → held_bytes list ≡ sum_by (λ (one : ℕ × ℕ × ℕ). one.2) (map bare_piece list)
  bare_bytes [] = refl
  bare_bytes (held ∷ list) =
      sum_by-cons (λ (one : Held). one.len) held list ∙ ap (λ (n : ℕ). held.len + n) (bare_bytes list)
      ∙ sym (sum_by-cons (λ (one : ℕ × ℕ × ℕ). one.2) (bare_piece held) (map bare_piece list))

  bare_lengths : (list : List Held) → AllByRecursion (λ (one : ℕ × ℕ × ℕ). one.2 ≡ length_in all one.0) (map bare_piece list)
      → AllByRecursion (λ (held : Held). held.len ≡ length_in all held.piece.0) list
  bare_lengths [] is = tt
  bare_lengths (held ∷ list) is = (is.0, bare_lengths list is.1)

  holds_from : (off : ℕ) (list : List ℕ) (pieces : List Held) → map bare_piece pieces ≡ placed_from all test off list → Holds all test list pieces
  holds_from off list pieces is = record {
    numbers_so = bare_numbers pieces ∙ ap (map (λ (one : ℕ × ℕ × ℕ). one.0)) is ∙ placed_numbers off list;
    bytes_so = bare_bytes pieces ∙ ap (sum_by (λ (one : ℕ × ℕ × ℕ). one.2)) is ∙ placed_bytes off list;
    lengths = bare_lengths pieces
        (subst (AllByRecursion (λ (one : ℕ × ℕ × ℕ). one.2 ≡ length_in all one.0)) (sym is) (placed_lengths off list));
  }

-- a page file by its sheet
page_whole : (page : FilePage) (size : ℕ) (placed : List (ℕ × ℕ × ℕ)) → sheet page ≡ whole size placed
    → (pieces : List Held) × (page ≡ Whole size pieces) × (map bare_piece pieces ≡ placed)
page_whole Torn size placed e = absurd (cc e)
page_whole (Whole n pieces) size placed e =
    let same : n ≡ size = cc e in
    let bare : map bare_piece pieces ≡ placed = cc e in (pieces, ap (λ (m : ℕ). Whole m pieces) same, bare)
page_whole Asked size placed e = absurd (cc e)

page_gone : (page : FilePage) → sheet page ≡ gone → page ≡ Asked
page_gone Torn e = absurd (cc e)
page_gone (Whole n pieces) e = absurd (cc e)
page_gone Asked e = refl

pub page_torn : (page : FilePage) → sheet page ≡ torn → page ≡ Torn
page_torn Torn e = refl
page_torn (Whole n pieces) e = absurd (cc e)
page_torn Asked e = absurd (cc e)

-- ---- page files behind the late drops

module _ (s : Session) (h : History) (parts : Parts) (told : Option (List Change)) (table : HandleTable) (late : IsLate s h parts told table)
    (keeps_so : IsKept s h parts.book parts.shares parts.rows parts.quota parts.pages) where
  abbrev all : List Piece
  all = pieces (page_limit s) h

  abbrev blobs : List Build
  blobs = builds (page_limit s) h

  abbrev holds : ℕ → ℕ → Bool
  holds = holds_paged parts.shares

  abbrev is_asked : ℕ → Bool
  is_asked n = list_any (λ (each : ℕ). each == n) (asked h)

  abbrev in_this : ℕ → Piece → Bool
  in_this n piece = is_page n (place (page_limit s) h piece)

  found_there : (n number : ℕ) → holds n number ≡ true → (piece : Piece) × (FoundIn all number piece)
  found_there n number e =
      let is = there s h (is_live (page_limit s) h) parts.book parts.shares parts.rows parts.quota parts.pages parts.recent late.between.contents
      (λ name. refl) late.course.rest keeps_so.counted keeps_so.apart keeps_so.paged n number e in (is.piece, is.found)

  not_asked : (n number : ℕ) → holds n number ≡ true → is_asked n ≡ false
  not_asked n number e =
      let is = there s h (is_live (page_limit s) h) parts.book parts.shares parts.rows parts.quota parts.pages parts.recent late.between.contents
      (λ name. refl) late.course.rest keeps_so.counted keeps_so.apart keeps_so.paged n number e in is.unasked

  on_page : (n : ℕ) (list : List ℕ) → get_or (writes h) n None ≡ Some list → (number : ℕ) → holds n number ≡ true
      → list_any (λ (each : ℕ). each == number) list ≡ true
  on_page n list written number e =
      let is = there s h (is_live (page_limit s) h) parts.book parts.shares parts.rows parts.quota parts.pages parts.recent late.between.contents
      (λ name. refl) late.course.rest keeps_so.counted keeps_so.apart keeps_so.paged n number e in
      let number_is = found_number all number is.piece is.found in
      ap (λ (k : ℕ). list_any (λ (each : ℕ). each == k) list) (sym number_is)
      ∙ listed s h (is_live (page_limit s) h) parts.book parts.shares parts.rows parts.quota parts.pages parts.recent late.between.contents
      (λ name. refl) late.course.rest keeps_so.counted keeps_so.apart keeps_so.paged n list is.piece written is.place_is

  -- whether a piece is held there is read off its place
  pub held_by_place : (n : ℕ) → AllByRecursion (λ (piece : Piece). holds_paged parts.shares n piece.number
      ≡ (is_held (builds (page_limit s) h) parts.shares parts.rows piece && is_page n (place (page_limit s) h piece))) (pieces (page_limit s) h)
  held_by_place n =
      held_in s h (is_live (page_limit s) h) parts.book parts.shares parts.rows parts.quota parts.pages parts.recent late.between.contents
      (λ name. refl) late.course.rest keeps_so.counted keeps_so.apart keeps_so.paged n

  same_there : (n : ℕ) → filter (in_this n) (reached (page_limit s) h) ≡ filter (λ (piece : Piece). holds n piece.number) all
  same_there n =
      ap (filter (in_this n))
      (sym (reached_are s h (is_live (page_limit s) h) parts.book parts.shares parts.rows parts.quota parts.pages parts.recent late.between.contents
      (λ name. refl) late.course.rest keeps_so.counted keeps_so.apart keeps_so.paged))
      ∙ filter_twice (is_held blobs parts.shares parts.rows) (in_this n) all
      ∙ filter_each (λ (piece : Piece). is_held blobs parts.shares parts.rows piece && in_this n piece) (λ (piece : Piece). holds n piece.number) all
      (for_each (λ (piece : Piece). holds n piece.number ≡ (is_held blobs parts.shares parts.rows piece && in_this n piece))
      (λ (piece : Piece). (is_held blobs parts.shares parts.rows piece && in_this n piece) ≡ holds n piece.number) all (λ piece is. sym is) (held_by_place n))

  -- the bytes reached there
  reached_bytes : (n : ℕ) (list : List ℕ) → get_or (writes h) n None ≡ Some list → IsDistinct nat_eq list
      → sum_by (λ (piece : Piece). piece.len) (filter (in_this n) (reached (page_limit s) h)) ≡ sum_by (length_in all) (filter (holds n) list)
  reached_bytes n list written apart =
      ap (sum_by (λ (piece : Piece). piece.len))
      (same_there n
      ∙ filter_same (λ (piece : Piece). holds n piece.number)
      (λ (piece : Piece). list_any (λ (number : ℕ). number == piece.number) (filter (holds n) list)) all
      (λ piece. sym (in_filter (holds n) list piece.number (on_page n list written piece.number))))
      ∙ sym (bytes_among all (pieces_numbered (page_limit s) 0 blobs) (filter (holds n) list) (distinct_filter (holds n) list apart)
      (passing_all (λ (number : ℕ). (one : Piece) × FoundIn all number one) (holds n) list (found_there n)))

  -- the numbers of the pieces reached there
  has_number : (n number : ℕ) → list_any (λ (piece : Piece). piece.number == number) (filter (in_this n) (reached (page_limit s) h)) ≡ holds n number
  has_number n number = ap (list_any (λ (piece : Piece). piece.number == number)) (same_there n) ∙ by (holds n number) refl
    where
      by : (b : Bool) → holds n number ≡ b
          → list_any (λ (piece : Piece). piece.number == number) (filter (λ (piece : Piece). holds n piece.number) all) ≡ holds n number
      by true is =
          let one = found_there n number is in
          let number_is = found_number all number one.0 one.1 in
          any_found (λ (piece : Piece). piece.number == number) (λ (piece : Piece). piece.number == number)
          (filter (λ (piece : Piece). holds n piece.number) all) one.0
          (found_filter (λ (piece : Piece). piece.number == number) (λ (piece : Piece). holds n piece.number) all one.0 one.1
          (ap (holds n) number_is ∙ is)) (eq-eqb one.0.number number number_is)
          ∙ sym is
      by false is = none_having (holds n) number is all ∙ sym is

  pub kept_there : (n : ℕ) (list : List ℕ) → kept s h (record { number = n; pieces = list }) ≡ filter (holds_paged parts.shares n) list
  kept_there n list = by list
    where
      by : (list : List ℕ) → filter (λ (number : ℕ). list_any (λ (piece : Piece). piece.number == number)
          (filter (in_this n) (reached (page_limit s) h))) list ≡ filter (holds n) list
      by list =
          filter_same (λ (number : ℕ). list_any (λ (piece : Piece). piece.number == number) (filter (in_this n) (reached (page_limit s) h))) (holds n) list
          (has_number n)

  -- ---- one page file

  pub page_holds : (n : ℕ) (list : List ℕ) (page : FilePage)
      → sheet page ≡ sheet_of (pieces (page_limit s) h) (holds_paged parts.shares) (asked h) n (Some list)
      → Holds (pieces (page_limit s) h) (holds_paged parts.shares n) list (pieces_of page)
  page_holds n list page e = by (is_asked n) refl e
    where
      by : (a : Bool) → is_asked n ≡ a → sheet page ≡ cond a gone (whole (sum_by (length_in all) list) (placed_from all (holds n) 0 list))
          → Holds all (holds n) list (pieces_of page)
      by true is e =
          let none : (number : ℕ) → holds n number ≡ false = λ number. fails number (holds n number) refl in
          let nothing : filter (holds n) list ≡ [] = filter_nothing (holds n) list none in
          subst (λ (one : FilePage). Holds all (holds n) list (pieces_of one)) (sym (page_gone page e))
          (record { numbers_so = sym nothing; bytes_so = ap (sum_by (length_in all)) (sym nothing); lengths = tt })
        where
          fails : (number : ℕ) (b : Bool) → holds n number ≡ b → holds n number ≡ false
          fails number false at = at
          fails number true at = absurd (false_true (sym (not_asked n number at) ∙ is))
      by false is e =
          let found = page_whole page (sum_by (length_in all) list) (placed_from all (holds n) 0 list) e in
          subst (λ (one : FilePage). Holds all (holds n) list (pieces_of one)) (sym found.1) (holds_from all (holds n) 0 list found.0 found.2)

  -- whether its pieces may move, as the history says
  abbrev pub moves_in : Page → Bool
  moves_in page =
      nat_lt 0 (length (in_page_of h (builds (page_limit s) h) page (reached (page_limit s) h)))
      && can_move_in s h (builds (page_limit s) h) (pieces (page_limit s) h) (reached (page_limit s) h) page

  room_so : room parts.pages ≡ s.limits.disk - disk_of h blobs all (reached (page_limit s) h)
  room_so =
      λ i.
      late.between.contents.page_files_stand.same_limit i
      - (disk_told s h (is_live (page_limit s) h) parts.book parts.shares parts.rows parts.quota parts.pages parts.recent late.between.contents
      (λ name. refl) late.course.rest keeps_so.counted keeps_so.apart keeps_so.paged).charged i

  reaches_so : (n : ℕ) (list : List ℕ) → get_or (writes h) n None ≡ Some list
      → nat_lt 0 (length (filter (in_this n) (reached (page_limit s) h))) ≡ (not (is_asked n) && list_any (holds n) list)
  reaches_so n list written =
      some_length (in_this n) (reached (page_limit s) h)
      ∙ sym (page_has s h (is_live (page_limit s) h) parts.book parts.shares parts.rows parts.quota parts.pages parts.recent late.between.contents
      (λ name. refl) late.course.rest keeps_so.counted keeps_so.apart keeps_so.paged n list written)

  and_three : (a b c : Bool) → ((a && b) && c) ≡ (a && (b && c))
  and_three true b c = refl
  and_three false b c = refl

  pub same_move : (n : ℕ) (list : List ℕ) → get_or (writes h) n None ≡ Some list → IsDistinct nat_eq list → (page : FilePage)
      → sheet page ≡ sheet_of (pieces (page_limit s) h) (holds_paged parts.shares) (asked h) n (Some list)
      → can_move (room parts.pages) page ≡ moves_in (record { number = n; pieces = list })
  same_move n list written apart page e = by (is_asked n) refl e
    where
      by : (a : Bool) → is_asked n ≡ a → sheet page ≡ cond a gone (whole (sum_by (length_in all) list) (placed_from all (holds n) 0 list))
          → can_move (room parts.pages) page ≡ moves_in (record { number = n; pieces = list })
      by true is e =
          ap (can_move (room parts.pages)) (page_gone page e)
          ∙ sym (ap (λ (b : Bool). b && can_move_in s h blobs all (reached (page_limit s) h) (record { number = n; pieces = list }))
          (reaches_so n list written ∙ ap (λ (b : Bool). not b && list_any (holds n) list) is))
      by false is e =
          let found = page_whole page (sum_by (length_in all) list) (placed_from all (holds n) 0 list) e in
          let has : Holds all (holds n) list found.0 = holds_from all (holds n) 0 list found.0 found.2 in
          let bytes : held_bytes found.0 ≡ sum_by (λ (piece : Piece). piece.len) (filter (in_this n) (reached (page_limit s) h)) =
          has.bytes_so ∙ sym (reached_bytes n list written apart) in
          let held = same_held (Whole (sum_by (length_in all) list) found.0) ∙ ap has_some found.2 ∙ placed_some all (holds n) 0 list
          ∙ ap (λ (b : Bool). not b && list_any (holds n) list) (sym is) ∙ sym (reaches_so n list written) in
          ap (can_move (room parts.pages)) found.1
          ∙ (λ i. (held i && nat_lt (2 * bytes i) (sum_by (length_in all) list)) && nat_le (bytes i) (room_so i))
          ∙ and_three (nat_lt 0 (length (filter (in_this n) (reached (page_limit s) h))))
          (nat_lt (2 * sum_by (λ (piece : Piece). piece.len) (filter (in_this n) (reached (page_limit s) h))) (sum_by (length_in all) list))
          (nat_le (sum_by (λ (piece : Piece). piece.len) (filter (in_this n) (reached (page_limit s) h)))
          (s.limits.disk - disk_of h blobs all (reached (page_limit s) h)))
