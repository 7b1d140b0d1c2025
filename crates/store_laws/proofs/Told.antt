-- What items tell are the values of their cells.
use Rattle.std.proofs.Common.{◌≡◌, ℕ, zero, suc, ◌+◌, ◌<◌, ◌≤◌, ◌==◌, ◌&&◌, ◌||◌, Bool, true, false, not, cond, List, [], ◌∷◌, length, drop, Option, Some, None, refl, sym, ap, subst, ◌∙◌, arith}
use Rattle.std.specs.Prelude.{bytes_eq, filter_map, is_none, is_some, nat_le, option_and_then, slice_get, IfSome, IsSomeAnd, if◌then◌else◌}
use Rattle.std.specs.Option.{option_map, option_map_or}
use Rattle.std.specs.List.{cons_option, range_with_len}
use Rattle.std.proofs.lemmas.Bool.{eq-eqb, eqb-true, leb-true}
use Rattle.data_handles.specs.Handles.{Handle}
use Rattle.data_handles.specs.Table.{Slot as TableSlot, slot_at}
use Rattle.file_table.specs.Files.{is_readable, note_of}
use Rattle.file_table.specs.Files.{recorded as noted_state}
use Rattle.file_table.specs.declared.file_note.FileNote.{FileNote}
use Rattle.item_shares.specs.Shares.{item_at}
use Rattle.item_shares.specs.declared.item.Item.{Item}
use Rattle.item_shares.specs.declared.item.Item.TheVariants.{Memory, Paged, Reserved, File, Range}
use Rattle.range_reader.specs.Bytes.{bytes_at, item_byte, item_fails, origins}
use Rattle.range_reader.specs.Places.{Lies}
use Rattle.session_script.specs.declared.event.Event.TheVariants as events
use Rattle.blob_model.specs.Builds.{filed, lent, sent}
use Rattle.blob_model.specs.History.{History, heard, refused, said, start}
use Rattle.blob_model.specs.Pieces.{Piece, pieces}
use Rattle.blob_model.specs.Changes.{piece_bytes}
use Rattle.blob_model.specs.Pages.{in_memory}
use Rattle.blob_model.specs.Refusals.{claimed, is_in}
use Rattle.blob_model.specs.Recorded.{content, recorded, FileState}
use Rattle.blob_model.specs.Session.{Session, Slot, page_limit}
use Rattle.blob_model.specs.Value.{agrees, is_byte, is_untold, tells_nothing, value}
use Rattle.model_bridges.specs.Bridges.{state_as}
use Rattle.store_laws.specs.BuildLaws.{IsUnpaged}
use Rattle.store_laws.specs.Cells.{item_cell, piece_cell, piece_in}
use Rattle.store_laws.specs.Items.{holds_slot, IsPlaced}
use Rattle.store_laws.specs.Tables.{seen_as, slot_now, slot_seen}
use Rattle.store_laws.specs.TellLaws.{TellsCells}
use Rattle.store_laws.specs.Uses.{facts_of}

-- ---- lists

pub slice_drop : {X : Type 0} (off place : ℕ) (xs : List X) → slice_get (drop off xs) place ≡ slice_get xs (off + place)
slice_drop zero place xs = let same : place ≡ zero + place = omega arith in ap (slice_get xs) same
slice_drop (suc off) place [] = refl
slice_drop (suc off) place (x ∷ xs) =
    let same : suc (off + place) ≡ suc off + place = omega arith in slice_drop off place xs ∙ ap (slice_get (x ∷ xs)) same

fewer : (f : ℕ → Option ℕ) (a n : ℕ) → length (filter_map f (range_with_len a n)) ≤ n
fewer f a zero = omega arith
fewer f a (suc n) = by (f a) (filter_map f (range_with_len (a + 1) n)) (fewer f (a + 1) n)
  where
    by : (one : Option ℕ) (rest : List ℕ) → length rest ≤ n → length (cons_option one rest) ≤ suc n
    by None rest less = omega (arith, less)
    by (Some y) rest less = omega (arith, less)

-- where nothing is left out each is there
pub each_there : (f : ℕ → Option ℕ) (a n : ℕ) → length (filter_map f (range_with_len a n)) ≡ n → (i : ℕ) → i < n
    → f (a + i) ≡ slice_get (filter_map f (range_with_len a n)) i
each_there f a zero whole i within = absurd (omega (arith, within))
each_there f a (suc n) whole i within =
    by (f a) refl (filter_map f (range_with_len (a + 1) n)) (fewer f (a + 1) n) (each_there f (a + 1) n) whole i within
  where
    by : (one : Option ℕ) → f a ≡ one → (rest : List ℕ) → length rest ≤ n → (length rest ≡ n → (i : ℕ) → i < n → f (a + 1 + i) ≡ slice_get rest i)
        → length (cons_option one rest) ≡ suc n → (i : ℕ) → i < suc n → f (a + i) ≡ slice_get (cons_option one rest) i
    by None is rest less more whole i within = absurd (omega (arith, whole, less))
    by (Some y) is rest less more whole zero within = let same : a + zero ≡ a = omega arith in ap f same ∙ is
    by (Some y) is rest less more whole (suc i) within =
        let same : a + suc i ≡ a + 1 + i = omega arith in ap f same ∙ more (omega (arith, whole)) i (omega (arith, within))

-- ---- a byte that is the value

module _ (s : Session) (h : History) where
  pub is_value : (untold : Bool) (known : Option ℕ) (byte : ℕ) → known ≡ Some byte → (untold || is_byte known byte) ≡ true
  is_value true known byte is = refl
  is_value false known byte is = ap (λ (found : Option ℕ). is_byte found byte) is ∙ eq-eqb byte byte refl

  pub by_told : (told value : Option ℕ) (byte : ℕ) → told ≡ value → is_some told ≡ true → IfSome told (λ (known : ℕ). byte ≡ known) → value ≡ Some byte
  by_told None value byte same there is = absurd (cc there)
  by_told (Some known) value byte same there is = sym same ∙ ap (λ (n : ℕ). Some n) (sym is)

  pub got : {X : Type 0} (xs : List X) (i : ℕ) → i < length xs → is_some (slice_get xs i) ≡ true
  got [] i within = absurd (omega (arith, within))
  got (x ∷ xs) zero within = refl
  got (x ∷ xs) (suc i) within = got xs i (omega (arith, within))

-- ---- files

-- what is recorded of a file now is what it had at its stamp
content_recorded : (h : History) (name : List ℕ) (state : FileState) → recorded h name ≡ Some state → content h name state.stamp ≡ Some state.bytes
content_recorded start name state is = absurd (cc is)
content_recorded (refused h event why) name state is = content_recorded h name state is
content_recorded (said h answer) name state is = content_recorded h name state is
content_recorded (heard h (events.File file at bytes) answer) name state is = by (bytes_eq file name) refl is (content_recorded h name state)
  where
    by : (b : Bool) → bytes_eq file name ≡ b → (if b then Some (record { stamp = at; bytes = bytes }) else recorded h name) ≡ Some state
        → (recorded h name ≡ Some state → content h name state.stamp ≡ Some state.bytes)
        → (if b && (at == state.stamp) then Some bytes else content h name state.stamp) ≡ Some state.bytes
    by true same is before =
        let now : record { stamp = at; bytes = bytes } ≡ state = cc in
        ap (λ (b : Bool). cond b (Some bytes) (content h name state.stamp)) (eq-eqb at state.stamp (ap (λ (one : FileState). one.stamp) now))
        ∙ ap (λ (one : FileState). Some one.bytes) now
    by false same is before = before is
content_recorded (heard h (events.Gone file) answer) name state is = by (bytes_eq file name) is (content_recorded h name state)
  where
    by : (b : Bool) → (if b then None else recorded h name) ≡ Some state
        → (recorded h name ≡ Some state → content h name state.stamp ≡ Some state.bytes) → content h name state.stamp ≡ Some state.bytes
    by true is before = absurd (cc is)
    by false is before = before is
content_recorded (heard h event answer) name state is = content_recorded h name state is

-- ---- items, one kind after the other

module _ (s : Session) (h : History) where
  memory_told : (bytes : List ℕ) (place byte : ℕ) (found : Option Piece)
      → IsSomeAnd found (λ (one : Piece). ((facts_of s h).granted one ≡ true) × ((facts_of s h).place one ≡ in_memory) × (bytes ≡ piece_bytes s h one)
      × (length bytes ≡ one.len))
      → place + 1 ≤ length bytes → IfSome (slice_get bytes place) (λ (known : ℕ). byte ≡ known) → agrees s h (piece_cell found place) byte ≡ true
  memory_told bytes place byte None placed within is = absurd placed
  memory_told bytes place byte (Some one) placed within is =
      let f : ℕ → Option ℕ = λ (index : ℕ). value s h (sent one.blob index) in
      let whole : length (filter_map f (range_with_len one.from one.len)) ≡ one.len = ap (λ (list : List ℕ). length list) (sym placed.2) ∙ placed.3 in
      let same : slice_get bytes place ≡ value s h (sent one.blob (one.from + place)) =
      ap (λ (list : List ℕ). slice_get list place) placed.2
      ∙ sym (each_there f one.from one.len whole place (omega (arith, within, placed.3))) in
      is_value s h (is_untold s h (sent one.blob (one.from + place))) (value s h (sent one.blob (one.from + place))) byte
      (by_told s h (slice_get bytes place) (value s h (sent one.blob (one.from + place))) byte same (got s h bytes place (omega (arith, within))) is)

  file_told : (name : List ℕ) (stamp off place byte : ℕ) (found : Option FileNote) → option_and_then state_as found ≡ recorded h name
      → not (is_readable stamp (off + place + 1) (option_and_then noted_state found)) ≡ false
      → IfSome (option_and_then (λ (bytes : List ℕ). slice_get bytes place) (option_map (drop off) (bytes_at stamp found))) (λ (known : ℕ). byte ≡ known)
      → agrees s h (filed name stamp (off + place)) byte ≡ true
  file_told name stamp off place byte None stand passes is = absurd (cc passes)
  file_told name stamp off place byte (Some note) stand passes is = by note.bytes refl
    where
      readable : (bytes : List ℕ) → not ((note.last == stamp) && nat_le (off + place + 1) (length bytes)) ≡ false
          → (note.last ≡ stamp) × (off + place + 1 ≤ length bytes)
      readable bytes passes =
          let both = go ((note.last == stamp) && nat_le (off + place + 1) (length bytes)) passes in
          let parts = two (note.last == stamp) (nat_le (off + place + 1) (length bytes)) both in
          (eqb-true note.last stamp parts.0, leb-true (off + place + 1) (length bytes) parts.1)
        where
          go : (b : Bool) → not b ≡ false → b ≡ true
          go true e = refl
          go false e = absurd (cc e)

          two : (b c : Bool) → (b && c) ≡ true → (b ≡ true) × (c ≡ true)
          two true true e = (refl, refl)
          two true false e = absurd (cc e)
          two false c e = absurd (cc e)

      by : (bytes : Option (List ℕ)) → note.bytes ≡ bytes → agrees s h (filed name stamp (off + place)) byte ≡ true
      by None at =
          let fails : not (is_readable stamp (off + place + 1) None) ≡ false =
          subst (λ (one : Option (List ℕ)). not (is_readable stamp (off + place + 1)
          (option_map (λ (bytes : List ℕ). record { stamp = note.last; len = length bytes }) one)) ≡ false) at passes in
          absurd (cc fails)
      by (Some bytes) at =
          let fits =
          readable bytes
          (subst
          (λ (one : Option (List ℕ)). not (is_readable stamp (off + place + 1)
          (option_map (λ (bytes : List ℕ). record { stamp = note.last; len = length bytes }) one)) ≡ false) at passes) in
          let stands : recorded h name ≡ Some (record { stamp = note.last; bytes = bytes }) =
          sym stand ∙ ap (λ (one : Option (List ℕ)). option_map (λ (list : List ℕ). record { stamp = note.last; bytes = list }) one) at in
          let known : content h name stamp ≡ Some bytes =
          ap (content h name) (sym fits.0) ∙ content_recorded h name (record { stamp = note.last; bytes = bytes }) stands in
          let here : bytes_at stamp (Some note) ≡ Some bytes =
          ap (λ (b : Bool). if b then note.bytes else None) (eq-eqb note.last stamp fits.0) ∙ at in
          let same : slice_get bytes (off + place) ≡ value s h (filed name stamp (off + place)) =
          sym (ap (λ (one : Option (List ℕ)). option_and_then (λ (list : List ℕ). slice_get list (off + place)) one) known) in
          is_value s h false (value s h (filed name stamp (off + place))) byte
          (by_told s h (slice_get bytes (off + place)) (value s h (filed name stamp (off + place))) byte same
          (got s h bytes (off + place) (omega (arith, fits.1)))
          (subst (λ (found : Option ℕ). IfSome found (λ (known : ℕ). byte ≡ known)) (slice_drop off place bytes)
          (subst (λ (one : Option (List ℕ)). IfSome (option_and_then (λ (list : List ℕ). slice_get list place) (option_map (drop off) one))
          (λ (known : ℕ). byte ≡ known)) here is)))

  range_told : (k off len place byte : ℕ) (named held : Bool) (one : Option TableSlot) (slot : Option Slot) → slice_get s.outside.slots k ≡ slot
      → slot_seen one ≡ slot_now named held slot
      → IsSomeAnd (option_and_then (λ (each : TableSlot). each.object) one) (λ (handle : Handle). off + len ≤ handle.size) → place + 1 ≤ len
      → IfSome (option_and_then (λ (bytes : List ℕ). slice_get bytes place)
      (option_map (drop off) (option_and_then (λ (handle : Handle). handle.told) (option_and_then (λ (each : TableSlot). each.object) one))))
      (λ (known : ℕ). byte ≡ known)
      → agrees s h (lent k (off + place)) byte ≡ true
  range_told k off len place byte named held None slot at seen there within is = absurd there
  range_told k off len place byte named held (Some one) None at seen there within is = absurd (cc seen)
  range_told k off len place byte named held (Some one) (Some slot) at seen there within is = by_object one.object refl
    where
      by_bytes : (handle : Handle) → (handle.size ≡ slot.size) × (handle.told ≡ slot.bytes) → off + len ≤ handle.size
          → IfSome (option_and_then (λ (bytes : List ℕ). slice_get bytes place) (option_map (drop off) handle.told)) (λ (known : ℕ). byte ≡ known)
          → (bytes : Option (List ℕ)) → slot.bytes ≡ bytes
          → (is_none bytes || is_byte (option_and_then (λ (list : List ℕ). slice_get list (off + place)) bytes) byte) ≡ true
      by_bytes handle same room is None tells = refl
      by_bytes handle same room is (Some bytes) tells =
          let whole : length bytes ≡ slot.size = subst (λ (one : Option (List ℕ)). IfSome one (λ (told : List ℕ). length told ≡ slot.size)) tells
          slot.told_whole in
          let told : handle.told ≡ Some bytes = same.1 ∙ tells in
          is_value s h false (slice_get bytes (off + place)) byte
          (by_told s h (slice_get bytes (off + place)) (slice_get bytes (off + place)) byte refl
          (got s h bytes (off + place) (let size = same.0 in omega (arith, whole, size, room, within)))
          (subst (λ (found : Option ℕ). IfSome found (λ (known : ℕ). byte ≡ known)) (slice_drop off place bytes)
          (subst (λ (one : Option (List ℕ)). IfSome (option_and_then (λ (list : List ℕ). slice_get list place) (option_map (drop off) one))
          (λ (known : ℕ). byte ≡ known)) told is)))

      seen_so : (handle : Handle) (b : Bool)
          → ◌≡◌ {A = Option (Bool × Option (ℕ × Option (List ℕ)))} (Some (one.is_claimed, Some (seen_as handle)))
          (Some (named, (if b then None else Some (slot.size, slot.bytes))))
          → (handle.size ≡ slot.size) × (handle.told ≡ slot.bytes)
      seen_so handle true e =
          let wrong : true ≡ false =
          ap (λ (found : Option (Bool × Option (ℕ × Option (List ℕ)))).
          option_map_or (λ (pair : Bool × Option (ℕ × Option (List ℕ))). is_some pair.1) found false) e in
          absurd (cc wrong)
      seen_so handle false e = (
        ap (λ (found : Option (Bool × Option (ℕ × Option (List ℕ)))).
            option_map_or (λ (pair : Bool × Option (ℕ × Option (List ℕ))). option_map_or (λ (each : ℕ × Option (List ℕ)). each.0) pair.1 0) found 0) e,
        ap (λ (found : Option (Bool × Option (ℕ × Option (List ℕ)))).
            option_map_or (λ (pair : Bool × Option (ℕ × Option (List ℕ))). option_map_or (λ (each : ℕ × Option (List ℕ)). each.1) pair.1 None) found None) e,
      )

      by_object : (object : Option Handle) → one.object ≡ object → agrees s h (lent k (off + place)) byte ≡ true
      by_object None none =
          absurd (subst (λ (object : Option Handle). IsSomeAnd object (λ (handle : Handle). off + len ≤ handle.size)) none there)
      by_object (Some handle) some =
          let same = seen_so handle (named && not held)
          (subst (λ (object : Option Handle). ◌≡◌ {A = Option (Bool × Option (ℕ × Option (List ℕ)))} (Some (one.is_claimed, option_map seen_as object))
          (Some (named, (if named && not held then None else Some (slot.size, slot.bytes))))) some seen) in
          let room = subst (λ (object : Option Handle). IsSomeAnd object (λ (each : Handle). off + len ≤ each.size)) some there in
          let told = subst (λ (object : Option Handle). IfSome (option_and_then (λ (bytes : List ℕ). slice_get bytes place)
          (option_map (drop off) (option_and_then (λ (each : Handle). each.told) object))) (λ (known : ℕ). byte ≡ known)) some is in
          subst (λ (found : Option Slot). (tells_nothing found
          || is_byte (option_and_then (λ (list : List ℕ). slice_get list (off + place)) (option_and_then (λ (each : Slot). each.bytes) found)) byte) ≡ true)
          (sym at) (by_bytes handle same room told slot.bytes refl)

pub tells_cells : TellsCells
tells_cells s h stands parts told table between slot place byte item at unpaged lies passes is = by item at unpaged lies passes is
  where
    by : (item : Item) → item_at parts.shares slot ≡ Some item → IsUnpaged item → Lies (origins parts.files told table) place 1 item
        → item_fails parts.files place item ≡ false → IfSome (item_byte (origins parts.files told table) place item) (λ (known : ℕ). byte ≡ known)
        → agrees s h (item_cell (pieces (page_limit s) h) item place) byte ≡ true
    by (Memory piece bytes) at unpaged lies passes is =
        let placed = subst (λ (held : Option Item). IfSome held (IsPlaced (pieces (page_limit s) h) (facts_of s h))) at (between.contents.items.each slot) in
        memory_told s h bytes place byte (piece_in (pieces (page_limit s) h) piece.0) placed lies is
    by (Paged piece page off len) at unpaged lies passes is = absurd unpaged
    by (Reserved piece len) at unpaged lies passes is = absurd lies
    by (File name stamp off len) at unpaged lies passes is =
        file_told s h name stamp off place byte (note_of name parts.files) (between.tables.files_stand.states name) passes is
    by (Range k off len) at unpaged lies passes is =
        range_told s h k off len place byte (is_in k (claimed s h)) (holds_slot parts.shares k) (slot_at table k) (slice_get s.outside.slots k) refl
        (between.handles k) lies.2 lies.0 is
