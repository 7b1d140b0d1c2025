-- The entries of a table of pieces, one by one.
use Rattle.std.proofs.Common.{◌≡◌, ℕ, ◌+◌, ◌<◌, Bool, true, false, cond, List, [], ◌∷◌, Some, None, zero, suc, length, map, get_or, take, nat_eq, refl, sym, ap, ◌∙◌, subst, arith}
use Rattle.std.specs.List.{AllByRecursion, IsDistinct}
use Rattle.std.specs.Cmp.{nat_eq_equiv}
use Rattle.std.specs.Map.{keys_of, lookup, set_value}
use Rattle.std.proofs.lemmas.List.{get_or-map, length-map}
use Rattle.std.proofs.lemmas.Map.{none_passes_from_lookup, NonePasses}
use Rattle.std.proofs.lemmas.Map.Entries.{none_past_head}
use Rattle.std.proofs.lemmas.Map.Keys.{IsDistinct-cons, IsDistinct-head, IsDistinct-tail}
use Rattle.blob_words.specs.declared.number.PieceNo.{PieceNo}
use Rattle.page_files.specs.declared.held.Held.{Held}
use Rattle.page_files.specs.declared.piece_table.Place.{Place}
use Rattle.page_files.specs.Pieces.{bytes_of, numbers, without, HasBytes}
use Rattle.page_files.specs.Places.{held_of, pieces_in, IsLong}
use Rattle.page_files.proofs.Lists.{all_at, bytes_cons}

-- the entry that a piece comes with
abbrev pub entry_of : Held → ℕ × Place
entry_of held = (held.piece.0, record { slot = held.slot; off = held.off; len = held.len; is_in = true })

pub pieces_entered : (pieces : List Held) → pieces_in (map entry_of pieces) ≡ pieces
pieces_entered [] = refl
pieces_entered (held ∷ pieces) = ap (λ rest. held ∷ rest) (pieces_entered pieces)

pub long_entered : (pieces : List Held) → AllByRecursion HasBytes pieces → AllByRecursion IsLong (map entry_of pieces)
long_entered [] long = long
long_entered (held ∷ pieces) long = (long.0, long_entered pieces long.1)

-- the next of some pieces with numbers that differ is not there yet
pub is_new : (pieces : List Held) (i : ℕ) (d : Held) → IsDistinct nat_eq (numbers pieces) → i < length pieces → lookup (nat_eq (get_or pieces i d).piece.0)
    (map entry_of (take i pieces)) ≡ None
is_new [] i d apart inside = absurd (omega arith)
is_new (held ∷ pieces) zero d apart inside = refl
is_new (held ∷ pieces) (suc i) d apart inside =
    let within : i < length pieces = omega arith in
    let number = (get_or pieces i d).piece.0 in
    let at : get_or (numbers pieces) i 0 ≡ number = get_or-map (λ (held : Held). held.piece.0) pieces i d 0 within in
    let other : nat_eq held.piece.0 number ≡ false =
    subst (λ n. nat_eq held.piece.0 n ≡ false) at (all_at (λ n. nat_eq held.piece.0 n ≡ false) (numbers pieces) i 0 (rw length-map within)
    (IsDistinct-head nat_eq held.piece.0 (numbers pieces) apart)) in
    rw (nat_eq_equiv.symm number held.piece.0 ∙ other) (is_new pieces i d (IsDistinct-tail nat_eq held.piece.0 (numbers pieces) apart) within)

-- no bytes are of no pieces
none_by : (entry : ℕ × Place) (rest : List Held) (is_in : Bool) → IsLong entry → (bytes_of rest ≡ 0 → rest ≡ [])
    → bytes_of (cond is_in (held_of entry ∷ rest) rest) ≡ 0 → cond is_in (held_of entry ∷ rest) rest ≡ []
none_by entry rest true long none bytes = absurd (omega (arith, long, bytes, bytes_cons (held_of entry) rest))
none_by entry rest false long none bytes = none bytes

pub none_left : (entries : List (ℕ × Place)) → AllByRecursion IsLong entries → bytes_of (pieces_in entries) ≡ 0 → pieces_in entries ≡ []
none_left [] long bytes = refl
none_left (entry ∷ entries) long bytes = none_by entry (pieces_in entries) entry.1.is_in long.0 (none_left entries long.1) bytes

-- what holds of each entry, or of each key, holds of the pieces that are in
has_bytes_by : (entry : ℕ × Place) (rest : List Held) (is_in : Bool) → IsLong entry → AllByRecursion HasBytes rest → AllByRecursion HasBytes
    (cond is_in (held_of entry ∷ rest) rest)
has_bytes_by entry rest true long all = (long, all)
has_bytes_by entry rest false long all = all

pub have_bytes : (entries : List (ℕ × Place)) → AllByRecursion IsLong entries → AllByRecursion HasBytes (pieces_in entries)
have_bytes [] long = long
have_bytes (entry ∷ entries) long = has_bytes_by entry (pieces_in entries) entry.1.is_in long.0 (have_bytes entries long.1)

others_by : (P : ℕ → Type 0) (entry : ℕ × Place) (rest : List Held) (is_in : Bool) → P entry.0 → AllByRecursion P (numbers rest)
    → AllByRecursion P (numbers (cond is_in (held_of entry ∷ rest) rest))
others_by P entry rest true here all = (here, all)
others_by P entry rest false here all = all

others : (P : ℕ → Type 0) (entries : List (ℕ × Place)) → AllByRecursion P (keys_of entries) → AllByRecursion P (numbers (pieces_in entries))
others P [] all = all
others P (entry ∷ entries) all = others_by P entry (pieces_in entries) entry.1.is_in all.0 (others P entries all.1)

apart_by : (entry : ℕ × Place) (rest : List Held) (is_in : Bool) → AllByRecursion (λ other. nat_eq entry.0 other ≡ false) (numbers rest)
    → IsDistinct nat_eq (numbers rest) → IsDistinct nat_eq (numbers (cond is_in (held_of entry ∷ rest) rest))
apart_by entry rest true here apart = IsDistinct-cons nat_eq entry.0 (numbers rest) here apart
apart_by entry rest false here apart = apart

pub numbers_apart : (entries : List (ℕ × Place)) → IsDistinct nat_eq (keys_of entries) → IsDistinct nat_eq (numbers (pieces_in entries))
numbers_apart [] apart = apart
numbers_apart (entry ∷ entries) apart =
    let here = others (λ other. nat_eq entry.0 other ≡ false) entries (IsDistinct-head nat_eq entry.0 (keys_of entries) apart) in
    apart_by entry (pieces_in entries) entry.1.is_in here (numbers_apart entries (IsDistinct-tail nat_eq entry.0 (keys_of entries) apart))

-- a piece of another number stays
stays_by : (piece : PieceNo) (entry : ℕ × Place) (rest kept : List Held) (is_in : Bool) → nat_eq piece.0 entry.0 ≡ false → without piece rest ≡ kept
    → without piece (cond is_in (held_of entry ∷ rest) rest) ≡ cond is_in (held_of entry ∷ kept) kept
stays_by piece entry rest kept true other on = rw other (ap (λ more. held_of entry ∷ more) on)
stays_by piece entry rest kept false other on = on

-- so all stay where no entry has the number
all_stay : (piece : PieceNo) (entries : List (ℕ × Place)) → NonePasses (nat_eq piece.0) entries → without piece (pieces_in entries) ≡ pieces_in entries
all_stay piece [] other = refl
all_stay piece (entry ∷ entries) other = stays_by piece entry (pieces_in entries) (pieces_in entries) entry.1.is_in other.0 (all_stay piece entries other.1)

pub absent_stays : (piece : PieceNo) (entries : List (ℕ × Place)) → lookup (nat_eq piece.0) entries ≡ None → without piece (pieces_in entries)
    ≡ pieces_in entries
absent_stays piece entries none = all_stay piece entries (none_passes_from_lookup (nat_eq piece.0) entries none)

-- a place whose piece is out, and the bytes that go where a place becomes that
abbrev pub taken_out : Place → Place
taken_out place = record place { is_in = false }

abbrev bytes_in : Place → ℕ
bytes_in place = cond place.is_in place.len 0

-- new entries have no such piece, and so many bytes less
pub record Leaves (piece : PieceNo) (less : ℕ) (old new : List (ℕ × Place)) : Type 0 where
  pub left : pieces_in new ≡ without piece (pieces_in old)
  pub bytes : bytes_of (pieces_in new) + less ≡ bytes_of (pieces_in old)
  pub long : AllByRecursion IsLong new

-- the piece's own entry
gone_by : (piece : PieceNo) (entry : ℕ × Place) (rest : List Held) (is_in : Bool) → nat_eq piece.0 entry.0 ≡ true → without piece rest ≡ rest
    → (rest ≡ without piece (cond is_in (held_of entry ∷ rest) rest))
    × (bytes_of rest + cond is_in entry.1.len 0 ≡ bytes_of (cond is_in (held_of entry ∷ rest) rest))
gone_by piece entry rest true same on = (rw same (sym on), omega (arith, bytes_cons (held_of entry) rest))
gone_by piece entry rest false same on = (sym on, omega arith)

-- an entry before it
bytes_by : (entry : ℕ × Place) (new old : List Held) (less : ℕ) (is_in : Bool) → bytes_of new + less ≡ bytes_of old
    → bytes_of (cond is_in (held_of entry ∷ new) new) + less ≡ bytes_of (cond is_in (held_of entry ∷ old) old)
bytes_by entry new old less true on = omega (arith, on, bytes_cons (held_of entry) new, bytes_cons (held_of entry) old)
bytes_by entry new old less false on = on

leaves : (piece : PieceNo) (place : Place) (entries : List (ℕ × Place)) → IsDistinct nat_eq (keys_of entries) → AllByRecursion IsLong entries
    → lookup (nat_eq piece.0) entries ≡ Some place → Leaves piece (bytes_in place) entries (set_value (nat_eq piece.0) entries (taken_out place))
leaves piece place [] apart long found = cc
leaves piece place (entry ∷ entries) apart long found =
    (elim (nat_eq piece.0 entry.0) as (λ y. nat_eq piece.0 entry.0 ≡ y → Leaves piece (bytes_in place) (entry ∷ entries)
    (set_value (nat_eq piece.0) (entry ∷ entries) (taken_out place))) [
      | true ↦ λ t.
          let first : Some entry.1 ≡ Some place = rw t at found in
          let here : entry.1 ≡ place = cc in
          let rest = all_stay piece entries (none_past_head nat_eq_equiv piece.0 entry entries apart t) in
          let gone = gone_by piece entry (pieces_in entries) entry.1.is_in t rest in
          subst (λ place. Leaves piece (bytes_in place) (entry ∷ entries) (set_value (nat_eq piece.0) (entry ∷ entries) (taken_out place))) here
          (rw t (record { left = gone.0; bytes = gone.1; long = long }))
      | false ↦ λ t.
          let on = leaves piece place entries (IsDistinct-tail nat_eq entry.0 (keys_of entries) apart) long.1 (rw t at found) in
          let rest = set_value (nat_eq piece.0) entries (taken_out place) in
          rw t (record {
            left = sym (stays_by piece entry (pieces_in entries) (pieces_in rest) entry.1.is_in t (sym on.left));
            bytes = bytes_by entry (pieces_in rest) (pieces_in entries) (bytes_in place) entry.1.is_in on.bytes;
            long = (long.0, on.long);
          })
    ]) refl

-- a write over the place that a look-up found: it takes the piece out, or leaves a place that is out as it is
module _ (piece : PieceNo) (place : Place) (old new : List (ℕ × Place)) (apart : IsDistinct nat_eq (keys_of old)) (long : AllByRecursion IsLong old)
    (found : Some place ≡ lookup (nat_eq piece.0) old) where
  after : (less : ℕ) → bytes_in place ≡ less → new ≡ set_value (nat_eq piece.0) old (taken_out place) → Leaves piece less old new
  after less is written = subst (λ n. Leaves piece n old new) is
      (subst (Leaves piece (bytes_in place) old) (sym written) (leaves piece place old apart long (sym found)))

  pub after_take : place.is_in ≡ true → new ≡ set_value (nat_eq piece.0) old (taken_out place) → Leaves piece place.len old new
  after_take is_in written = after place.len (rw is_in refl) written

  pub after_none : place.is_in ≡ false → new ≡ set_value (nat_eq piece.0) old place → Leaves piece 0 old new
  after_none out written =
      let same : place ≡ taken_out place = ap (λ is_in. record place { is_in = is_in }) out in
      after 0 (rw out refl) (written ∙ ap (set_value (nat_eq piece.0) old) same)
