-- The order of use once pieces of blobs that got done are the latest: pieces in memory, and none of another blob.
use Rattle.std.proofs.Common.{◌≡◌, ℕ, zero, suc, ◌+◌, ◌<◌, ◌≤◌, ◌==◌, ◌&&◌, ◌||◌, not, Bool, true, false, cond, List, [], ◌∷◌, length, refl, ap, subst, sym}
use Rattle.std.proofs.Common.{◌∙◌, ◌⊎◌, Option, Some, None, inl, inr, nat_lt, arith}
use Rattle.std.specs.Prelude.{filter_map, fold, nat_eq, slice_get, slice_index, IfSome, IsSomeAnd}
use Rattle.std.specs.List.{list_any, range_with_len, cons_option, AllByRecursion}
use Rattle.std.proofs.lemmas.Bool.{eqb-true}
use Rattle.std.proofs.lemmas.Bool.Decides.{nat_tests}
use Rattle.std.proofs.lemmas.List.Folds.{list_any-append}
use Rattle.item_shares.specs.Shares.{item_at}
use Rattle.item_shares.specs.declared.item.Item.{Item}
use Rattle.item_shares.specs.declared.item.Item.TheVariants.{Memory, Paged, Reserved, File, Range}
use Rattle.item_shares.specs.declared.shares.Share.{Share}
use Rattle.recent_items.specs.Recent.{is_there, without}
use Rattle.blob_model.proofs.Lists.{all_append, false_true, filter_all, none_filtered, not_same}
use Rattle.store_laws.specs.Pageable.{pageable_at, pageable_if}
use Rattle.store_laws.specs.Passing.{entered}
use Rattle.blob_store.specs.Rows.{pieces_of_row, AreInTurn}
use Rattle.blob_store.specs.Stored.{IsHome, IsInMemory, IsMemory}
use Rattle.blob_store.specs.declared.row.Row.{Row}

module _ (shares : List (Option Share)) (homes : List ℕ) (home : (slot : ℕ) → IfSome (item_at shares slot) (IsHome homes slot)) where
  abbrev read_at : ℕ → Option (ℕ × ℕ)
  read_at number = pageable_at shares None (slice_index homes) number

  -- a piece with its length that is read off its home is this one, and in memory
  read_home : (number : ℕ) (used : ℕ × ℕ) → read_at number ≡ Some used → (used.0 ≡ number) × IsInMemory shares homes used
  read_home number used is = by (item_at shares slot) refl (home slot) is
    where
      slot : ℕ
      slot = slice_index homes number

      by : (held : Option Item) → item_at shares slot ≡ held → IfSome held (IsHome homes slot) → pageable_if number false held ≡ Some used
          → (used.0 ≡ number) × IsInMemory shares homes used
      by None at there is = absurd (cc is)
      by (Some (Memory piece bytes)) at there is = go (piece.0 == number) refl is
        where
          go : (b : Bool) → (piece.0 == number) ≡ b → cond {A = Option (ℕ × ℕ)} (b && true) (Some (number, length bytes)) None ≡ Some used
              → (used.0 ≡ number) × IsInMemory shares homes used
          go false same is = absurd (cc is)
          go true same is =
              let pair : (number, length bytes) ≡ used = cc is in
              let own : piece.0 ≡ number = eqb-true piece.0 number same in (
                ap (λ (one : ℕ × ℕ). one.0) (sym pair),
                subst (IsInMemory shares homes) pair
                    (subst (λ (o : Option ℕ). IsSomeAnd o (λ (one : ℕ). IsSomeAnd (item_at shares one) (IsMemory (number, length bytes))))
                    (sym (ap (slice_get homes) (sym own) ∙ there))
                    (subst (λ (o : Option Item). IsSomeAnd o (IsMemory (number, length bytes))) (sym at) (own, refl))),
              )
      by (Some (Paged piece page off size)) at there is = absurd (cc is)
      by (Some (Reserved piece size)) at there is = absurd (cc is)
      by (Some (File name stamp off size)) at there is = absurd (cc is)
      by (Some (Range handle off size)) at there is = absurd (cc is)

  -- so the order of use is one of pieces in memory still
  pub used_in_memory : (numbers : List ℕ) (order : List (ℕ × ℕ)) → AllByRecursion (IsInMemory shares homes) order
      → AllByRecursion (IsInMemory shares homes) (fold entered order (filter_map read_at numbers))
  used_in_memory [] order all = all
  used_in_memory (number ∷ numbers) order all = by (used_in_memory numbers) (read_at number) refl
    where
      by : ((next : List (ℕ × ℕ)) → AllByRecursion (IsInMemory shares homes) next
          → AllByRecursion (IsInMemory shares homes) (fold entered next (filter_map read_at numbers)))
          → (o : Option (ℕ × ℕ)) → read_at number ≡ o
          → AllByRecursion (IsInMemory shares homes) (fold entered order (cons_option o (filter_map read_at numbers)))
      by rest None at = rest order all
      by rest (Some used) at =
          rest (entered order used)
          (all_append (IsInMemory shares homes) (without used.0 order) (used ∷ [])
          (filter_all (IsInMemory shares homes) (λ (one : ℕ × ℕ). not (nat_eq used.0 one.0)) order all) ((read_home number used at).1, tt))

  -- and a piece that is none of these is there only if it was
  pub used_apart : (piece : ℕ) (numbers : List ℕ) (order : List (ℕ × ℕ)) → list_any (nat_eq piece) numbers ≡ false → is_there piece order ≡ false
      → is_there piece (fold entered order (filter_map read_at numbers)) ≡ false
  used_apart piece [] order none unused = unused
  used_apart piece (number ∷ numbers) order none unused =
      by (used_apart piece numbers) (nat_eq piece number) refl none (read_at number) refl
    where
      by : ((next : List (ℕ × ℕ)) → list_any (nat_eq piece) numbers ≡ false → is_there piece next ≡ false
          → is_there piece (fold entered next (filter_map read_at numbers)) ≡ false)
          → (b : Bool) → nat_eq piece number ≡ b → (b || list_any (nat_eq piece) numbers) ≡ false → (o : Option (ℕ × ℕ)) → read_at number ≡ o
          → is_there piece (fold entered order (cons_option o (filter_map read_at numbers))) ≡ false
      by rest true same none o at = absurd (false_true (sym none))
      by rest false apart none None at = rest order none unused
      by rest false apart none (Some used) at =
          let other : nat_eq piece used.0 ≡ false = ap (nat_eq piece) (read_home number used at).0 ∙ apart in
          let left : is_there piece (without used.0 order) ≡ false =
          none_filtered (λ (one : ℕ × ℕ). nat_eq piece one.0) (λ (one : ℕ × ℕ). not (nat_eq used.0 one.0)) order unused in
          rest (entered order used) none
          (list_any-append (λ (one : ℕ × ℕ). nat_eq piece one.0) (without used.0 order) (used ∷ [])
          ∙ (λ i. left i || (other i || false)))

-- ---- pieces of one blob are none of another's

turn_from : (page next : ℕ) (rows : List Row) (last : ℕ) → AreInTurn page next rows last → (number : ℕ)
    → IfSome (slice_get rows number) (λ (row : Row). next ≤ row.first)
turn_from page next [] last turn number = tt
turn_from page next (row ∷ rows) last turn zero = let first = turn.0 in omega (arith, first)
turn_from page next (row ∷ rows) last turn (suc number) =
    by (slice_get rows number) (turn_from page (next + pieces_of_row page row) rows last turn.1 number)
  where
    by : (held : Option Row) → IfSome held (λ (one : Row). next + pieces_of_row page row ≤ one.first) → IfSome held (λ (one : Row). next ≤ one.first)
    by None is = tt
    by (Some one) is = omega (arith, is)

turn_before : (page next : ℕ) (rows : List Row) (last : ℕ) → AreInTurn page next rows last → (one other : ℕ) (row later : Row)
    → slice_get rows one ≡ Some row → slice_get rows other ≡ Some later → one < other → row.first + pieces_of_row page row ≤ later.first
turn_before page next [] last turn one other row later at then less = absurd (cc at)
turn_before page next (first ∷ rows) last turn one zero row later at then less = absurd (omega (arith, less))
turn_before page next (first ∷ rows) last turn zero (suc other) row later at then less =
    let same : first ≡ row = cc at in
    let begins = turn.0 in
    let from : next + pieces_of_row page first ≤ later.first =
    subst (λ (o : Option Row). IfSome o (λ (each : Row). next + pieces_of_row page first ≤ each.first)) then
    (turn_from page (next + pieces_of_row page first) rows last turn.1 other) in
    subst (λ (each : Row). each.first + pieces_of_row page each ≤ later.first) same (omega (arith, begins, from))
turn_before page next (first ∷ rows) last turn (suc one) (suc other) row later at then less =
    turn_before page (next + pieces_of_row page first) rows last turn.1 one other row later at then (omega (arith, less))

outside : (piece first count : ℕ) → (piece < first) ⊎ (first + count ≤ piece) → list_any (nat_eq piece) (range_with_len first count) ≡ false
outside piece first zero apart = refl
outside piece first (suc count) apart =
    (λ i. not_same piece first (here apart) i || list_any (nat_eq piece) (range_with_len (first + 1) count))
    ∙ outside piece (first + 1) count (next apart)
  where
    here : (piece < first) ⊎ (first + suc count ≤ piece) → piece ≡ first → ⊥
    here (inl below) same = omega (arith, below, same)
    here (inr above) same = omega (arith, above, same)

    next : (piece < first) ⊎ (first + suc count ≤ piece) → (piece < first + 1) ⊎ (first + 1 + count ≤ piece)
    next (inl below) = inl (omega (arith, below))
    next (inr above) = inr (omega (arith, above))

pub blobs_apart : (page last : ℕ) (rows : List Row) → AreInTurn page 0 rows last → (one other : ℕ) (row later : Row) → slice_get rows one ≡ Some row
    → slice_get rows other ≡ Some later → (one ≡ other → ⊥) → (piece : ℕ) → row.first ≤ piece → piece < row.first + pieces_of_row page row
    → list_any (nat_eq piece) (range_with_len later.first (pieces_of_row page later)) ≡ false
blobs_apart page last rows turn one other row later at then apart piece from to = by (nat_lt one other) refl
  where
    by : (b : Bool) → nat_lt one other ≡ b → list_any (nat_eq piece) (range_with_len later.first (pieces_of_row page later)) ≡ false
    by true e =
        let less : one < other = grind (arith, nat_tests) in
        let before = turn_before page 0 rows last turn one other row later at then less in
        outside piece later.first (pieces_of_row page later) (inl (omega (arith, before, to)))
    by false e =
        let past : other ≤ one = grind (arith, nat_tests) in
        let behind = turn_before page 0 rows last turn other one later row then at (below past (nat_lt other one) refl) in
        outside piece later.first (pieces_of_row page later) (inr (omega (arith, behind, from)))
      where
        below : other ≤ one → (b : Bool) → nat_lt other one ≡ b → other < one
        below past true e = grind (arith, nat_tests)
        below past false e = absurd (apart (let least : one ≤ other = grind (arith, nat_tests) in omega (arith, past, least)))
