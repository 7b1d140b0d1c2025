-- The data handles that the parts of a new blob name are claimed, and stand for the history with the blob.
use Rattle.std.proofs.Common.{◌≡◌, ℕ, zero, suc, ◌+◌, ◌<◌, ◌==◌, ◌&&◌, ◌||◌, Bool, true, false, not, cond, List, [], ◌∷◌, ◌++◌, length, Option, Some, None, refl, ap, subst, sym, ◌∙◌, ⊎_elim, arith}
use Rattle.std.specs.Prelude.{flat_map, fold, is_some, nat_le, slice_get, slice_set, sum_by, IsSome}
use Rattle.std.specs.Option.{option_map, option_map_or}
use Rattle.std.specs.List.{list_any, AllByRecursion}
use Rattle.std.proofs.lemmas.Bool.{and_parts, eq-eqb, eqb-true, leb-false}
use Rattle.std.proofs.lemmas.List.{append-nil, length-set}
use Rattle.std.proofs.lemmas.List.Concat.{flat_map-append}
use Rattle.std.proofs.lemmas.List.Folds.{list_any-append}
use Rattle.session_script.specs.declared.event.Part.{Part}
use Rattle.session_script.specs.declared.event.Part.TheVariants.{Embedded, Asked, FileRange, BlobRange, HandleRange}
use Rattle.answer_text.specs.declared.refusal.Refusal.{Refusal}
use Rattle.blob_words.specs.declared.number.RendererId.{RendererId}
use Rattle.item_shares.specs.declared.item.Item.{Item}
use Rattle.item_shares.specs.declared.shares.Share.{Share}
use Rattle.item_shares.specs.Weights.{weights}
use Rattle.data_handles.specs.Table.{changed_at, claimed as taken, claimed_at, emptied, is_claimed_at, released_at, slot_at, Slot, Table}
use Rattle.blob_model.specs.Builds.{Build, builds}
use Rattle.blob_model.specs.Choice.{first_that}
use Rattle.blob_model.specs.History.{History}
use Rattle.blob_model.specs.Parts.{claims}
use Rattle.blob_model.specs.Refusals.{claimed, is_in}
use Rattle.blob_model.specs.Session.{Session, page_limit, Slot as SlotSaid}
use Rattle.blob_model.proofs.Lists.{false_true, get_there, not_same, or_cases, or_first, or_second}
use Rattle.blob_model.proofs.builds.Cells.{none_applies}
use Rattle.store_laws.specs.BuildLaws.{Adds}
use Rattle.store_laws.specs.Claiming.{claimed_by, is_ranged, AreFree, IsFree}
use Rattle.store_laws.specs.Deciding.{build_refusal_in, many_blobs_in, many_in, name_used_in, no_renderer_in, slot_tests, slot_tests_in, stands_in}
use Rattle.store_laws.specs.Items.{holds_slot, is_range_of}
use Rattle.store_laws.specs.Stands.{Parts}
use Rattle.store_laws.specs.Tables.{seen_as, slot_now, slot_seen, AreClaimed, HandlesStand}
use Rattle.store_laws.proofs.Letting.{none_in, none_of, one_if, some_in, some_of}
use Rattle.store_laws.proofs.Releasing.{set_here, set_other}
use Rattle.store_laws.proofs.ViewHas.{append_first}

-- ---- what becomes of a slot

slot_changed : (change : Slot → Slot) (table : Table) (slot k : ℕ)
    → slice_get (changed_at change table slot) k ≡ cond (slot == k) (option_map change (slot_at table k)) (slot_at table k)
slot_changed change table slot k = by (slot == k) refl
  where
    here : (found : Option Slot) → slot_at table slot ≡ found
        → slice_get (option_map_or (λ (one : Slot). slice_set table.slots slot (change one)) found table.slots) slot ≡ option_map change found
    here None at = at
    here (Some one) at = set_here table.slots slot (change one) (ap (λ (found : Option Slot). is_some found) at)

    other : (found : Option Slot) → (slot == k) ≡ false
        → slice_get (option_map_or (λ (one : Slot). slice_set table.slots slot (change one)) found table.slots) k ≡ slice_get table.slots k
    other None apart = refl
    other (Some one) apart = set_other table.slots slot k (change one) apart

    by : (b : Bool) → (slot == k) ≡ b
        → slice_get (changed_at change table slot) k ≡ cond b (option_map change (slot_at table k)) (slot_at table k)
    by true at =
        subst (λ (n : ℕ). slice_get (changed_at change table slot) n ≡ option_map change (slot_at table n)) (eqb-true slot k at)
        (here (slot_at table slot) refl)
    by false at = other (slot_at table slot) at

-- a slot that is claimed, and whose object goes where it is to be dropped
abbrev taken_slot : Bool → Slot → Slot
taken_slot dropped slot = record { is_claimed = true; object = cond dropped None slot.object }

-- the table with such a slot
abbrev taken_at : Bool → Table → ℕ → Table
taken_at dropped table slot = cond dropped (released_at (claimed_at table slot) slot) (claimed_at table slot)

slot_taken : (dropped : Bool) (table : Table) (slot k : ℕ)
    → slot_at (taken_at dropped table slot) k ≡ cond (slot == k) (option_map (taken_slot dropped) (slot_at table k)) (slot_at table k)
slot_taken false table slot k = slot_changed taken table slot k
slot_taken true table slot k =
    slot_changed emptied (claimed_at table slot) slot k
    ∙ ap (λ (found : Option Slot). cond (slot == k) (option_map emptied found) found) (slot_changed taken table slot k)
    ∙ twice (slot == k) (slot_at table k)
  where
    twice : (b : Bool) (found : Option Slot)
        → cond b (option_map emptied (cond b (option_map taken found) found)) (cond b (option_map taken found) found)
        ≡ cond b (option_map (taken_slot true) found) found
    twice true None = refl
    twice true (Some one) = refl
    twice false found = refl

-- there are as many slots
slots_kept : (change : Slot → Slot) (table : Table) (slot : ℕ) → length (changed_at change table slot) ≡ length table.slots
slots_kept change table slot = by (slot_at table slot)
  where
    by : (found : Option Slot)
        → length (option_map_or (λ (one : Slot). slice_set table.slots slot (change one)) found table.slots) ≡ length table.slots
    by None = refl
    by (Some one) = length-set table.slots slot (change one)

as_many : (dropped : Bool) (table : Table) (slot : ℕ) → length (taken_at dropped table slot).slots ≡ length table.slots
as_many false table slot = slots_kept taken table slot
as_many true table slot = slots_kept emptied (claimed_at table slot) slot ∙ slots_kept taken table slot

-- ---- handles that no refusal names are free

module _ (is_broken : Bool) (count : ℕ) where
  pub free_by : (line : List Part) (held : ℕ → Bool) (table : Table) → length table.slots ≡ count
      → ((k : ℕ) → nat_le count k ≡ false → held k ≡ is_claimed_at table k)
      → AllByRecursion (λ (case : Bool × Refusal). case.0 ≡ false) (slot_tests count held (claims line)) → AreFree is_broken table line
  free_by [] held table many same silent = tt
  free_by (Embedded bytes ∷ line) held table many same silent = (tt, free_by line held table many same silent)
  free_by (Asked len ∷ line) held table many same silent = (tt, free_by line held table many same silent)
  free_by (FileRange name off len stamp ∷ line) held table many same silent = (tt, free_by line held table many same silent)
  free_by (BlobRange b off len ∷ line) held table many same silent = (tt, free_by line held table many same silent)
  free_by (HandleRange slot off len ∷ line) held table many same silent = (
    (within, sym (same slot silent.0) ∙ silent.1.0),
    free_by line (λ (k : ℕ). (slot == k) || held k) (taken_at (is_broken || (len == 0)) table slot)
        (as_many (is_broken || (len == 0)) table slot ∙ many) later silent.1.1,
  )
    where
      within : slot < length table.slots
      within = let less = leb-false count slot silent.0 in omega (arith, less, many)

      later : (k : ℕ) → nat_le count k ≡ false
          → ((slot == k) || held k) ≡ is_claimed_at (taken_at (is_broken || (len == 0)) table slot) k
      later k below =
          by (slot == k) refl
          ∙ sym (ap (λ (found : Option Slot). option_map_or (λ (one : Slot). one.is_claimed) found false)
          (slot_taken (is_broken || (len == 0)) table slot k))
        where
          there : (found : Option Slot) → IsSome found
              → option_map_or (λ (one : Slot). one.is_claimed) (option_map (taken_slot (is_broken || (len == 0))) found) false ≡ true
          there None is = absurd (false_true is)
          there (Some one) is = refl

          some : IsSome (slot_at table k)
          some =
              let less = leb-false count k below in
              ap (λ (found : Option Slot). is_some found) (get_there table.slots k (omega (arith, less, many))).1

          by : (b : Bool) → (slot == k) ≡ b
              → (b || held k) ≡ option_map_or (λ (one : Slot). one.is_claimed)
              (cond b (option_map (taken_slot (is_broken || (len == 0))) (slot_at table k)) (slot_at table k)) false
          by true at = sym (there (slot_at table k) some)
          by false at = same k below

-- where no test of a slot applies, the handles that the parts name are free
pub free_so : (is_broken : Bool) (table : Table) (line : List Part) → first_that (slot_tests_in table (claims line)) ≡ None
    → AreFree is_broken table line
free_so is_broken table line silent =
    free_by is_broken (length table.slots) line (is_claimed_at table) table refl (λ k below. refl)
    (none_applies (slot_tests_in table (claims line)) silent)

-- the tests behind those of the slots
abbrev more_tests : Parts → Table → RendererId → ℕ → List Part → List (Bool × Refusal)
more_tests parts table renderer name line = many_blobs_in parts ∷ many_in parts (stands_in parts table renderer name line) line

-- and so where the line isn't refused
pub free_accepted : (is_broken : Bool) (parts : Parts) (table : Table) (renderer : RendererId) (name : ℕ) (line : List Part)
    → build_refusal_in parts table renderer name line ≡ None → AreFree is_broken table line
free_accepted is_broken parts table renderer name line accepted =
    let more = more_tests parts table renderer name line in
    let silent = none_applies (no_renderer_in parts renderer ∷ name_used_in parts name ∷ slot_tests_in table (claims line) ++ more) accepted in
    free_by is_broken (length table.slots) line (is_claimed_at table) table refl (λ k below. refl)
    (append_first (λ (case : Bool × Refusal). case.0 ≡ false) (slot_tests_in table (claims line)) more silent.1.1)

-- ---- one part

-- what is seen of a slot that nobody claimed
seen_free : (found : Option Slot) (c h : Bool) (said : Option SlotSaid) → slot_seen found ≡ slot_now c h said → IsSome found
    → option_map_or (λ (one : Slot). one.is_claimed) found false ≡ false → (c ≡ false) × IsSome said
seen_free None c h said e there free = absurd (false_true there)
seen_free (Some one) c h None e there free = absurd (cc e)
seen_free (Some one) false h (Some said) e there free = (refl, refl)
seen_free (Some one) true h (Some said) e there free =
    let same : ◌≡◌ {A = Bool × Option (ℕ × Option (List ℕ))} (one.is_claimed, option_map seen_as one.object)
    (true, cond (not h) None (Some (said.size, said.bytes))) = cc e in
    absurd (false_true (sym free ∙ ap (λ (pair : Bool × Option (ℕ × Option (List ℕ))). pair.0) same))

-- and once it is claimed
seen_taken : (dropped : Bool) (found : Option Slot) (h : Bool) (said : Option SlotSaid) → slot_seen found ≡ slot_now false h said
    → slot_seen (option_map (taken_slot dropped) found) ≡ slot_now true (not dropped) said
seen_taken dropped None h None e = refl
seen_taken dropped None h (Some said) e = absurd (cc e)
seen_taken dropped (Some one) h None e = absurd (cc e)
seen_taken true (Some one) h (Some said) e = refl
seen_taken false (Some one) h (Some said) e =
    let same : ◌≡◌ {A = Bool × Option (ℕ × Option (List ℕ))} (one.is_claimed, option_map seen_as one.object) (false, Some (said.size, said.bytes)) = cc e in
    ap (λ (pair : Bool × Option (ℕ × Option (List ℕ))). Some (true, pair.1)) same

taken_flags : (c h broken empty : Bool) (said : Option SlotSaid) → c ≡ false → h ≡ false
    → slot_now true (not (broken || empty)) said ≡ slot_now (c || true) (h || (not broken && not empty)) said
taken_flags true h broken empty said e f = absurd (false_true (sym e))
taken_flags false true broken empty said e f = absurd (false_true (sym f))
taken_flags false false true empty said e f = refl
taken_flags false false false empty said e f = refl

other_flags : (c h broken : Bool) (said : Option SlotSaid) → slot_now c h said ≡ slot_now (c || false) (h || (not broken && false)) said
other_flags true true broken said = refl
other_flags true false true said = refl
other_flags true false false said = refl
other_flags false true broken said = refl
other_flags false false true said = refl
other_flags false false false said = refl

-- the slots that are claimed, and those of which an item is, once parts are laid down
abbrev more_claimed : (ℕ → Bool) → List Part → ℕ → Bool
more_claimed claimed line k = claimed k || is_in k (claims line)

abbrev more_held : Bool → (ℕ → Bool) → List Part → ℕ → Bool
more_held is_broken held line k = held k || (not is_broken && list_any (is_ranged k) line)

-- handles stand, and items are of claimed ones
abbrev BothStand : List SlotSaid → (ℕ → Bool) → (ℕ → Bool) → Table → Type 0
BothStand slots claimed held table = HandlesStand slots claimed held table × AreClaimed slots claimed held

module _ (slots : List SlotSaid) (claimed held : ℕ → Bool) (table : Table) (both : BothStand slots claimed held table) (is_broken : Bool)
    (slot off len : ℕ) (free : IsFree table (HandleRange slot off len)) where
  named : (claimed slot ≡ false) × IsSome (slice_get slots slot)
  named = seen_free (slot_at table slot) (claimed slot) (held slot) (slice_get slots slot) (both.0 slot)
      (ap (λ (found : Option Slot). is_some found) (get_there table.slots slot free.0).1) free.1

  unheld : held slot ≡ false
  unheld = by (held slot) refl
    where
      by : (b : Bool) → held slot ≡ b → held slot ≡ false
      by true at = absurd (false_true (sym named.0 ∙ (both.1 slot at).0))
      by false at = at

  abbrev held_more : ℕ → Bool
  held_more k = held k || (not is_broken && is_ranged k (HandleRange slot off len))

  one_stands : HandlesStand slots (λ (k : ℕ). claimed k || (slot == k)) held_more (claimed_by is_broken table (HandleRange slot off len))
  one_stands k = ap slot_seen (slot_taken (is_broken || (len == 0)) table slot k) ∙ by (slot == k) refl
    where
      here : slot_seen (option_map (taken_slot (is_broken || (len == 0))) (slot_at table slot))
          ≡ slot_now (claimed slot || true) (held slot || (not is_broken && not (len == 0))) (slice_get slots slot)
      here =
          seen_taken (is_broken || (len == 0)) (slot_at table slot) (held slot) (slice_get slots slot)
          (both.0 slot ∙ ap (λ (b : Bool). slot_now b (held slot) (slice_get slots slot)) named.0)
          ∙ taken_flags (claimed slot) (held slot) is_broken (len == 0) (slice_get slots slot) named.0 unheld

      by : (b : Bool) → (slot == k) ≡ b
          → slot_seen (cond b (option_map (taken_slot (is_broken || (len == 0))) (slot_at table k)) (slot_at table k))
          ≡ slot_now (claimed k || b) (held k || (not is_broken && (b && not (len == 0)))) (slice_get slots k)
      by true at =
          subst (λ (n : ℕ). slot_seen (option_map (taken_slot (is_broken || (len == 0))) (slot_at table n))
          ≡ slot_now (claimed n || true) (held n || (not is_broken && not (len == 0))) (slice_get slots n)) (eqb-true slot k at) here
      by false at = both.0 k ∙ other_flags (claimed k) (held k) is_broken (slice_get slots k)

  one_claimed : AreClaimed slots (λ (k : ℕ). claimed k || (slot == k)) held_more
  one_claimed k has =
      ⊎_elim
      (λ (old : held k ≡ true). (or_first (claimed k) (slot == k) (both.1 k old).0, (both.1 k old).1))
      (λ (new : (not is_broken && ((slot == k) && not (len == 0))) ≡ true).
      let is = (and_parts (slot == k) (not (len == 0)) (and_parts (not is_broken) ((slot == k) && not (len == 0)) new).1).0 in
      (or_second (claimed k) (slot == k) is, subst (λ (n : ℕ). IsSome (slice_get slots n)) (eqb-true slot k is) named.1))
      (or_cases (held k) (not is_broken && ((slot == k) && not (len == 0))) has)

  one_part : BothStand slots (λ (k : ℕ). claimed k || (slot == k)) held_more (claimed_by is_broken table (HandleRange slot off len))
  one_part = (one_stands, one_claimed)

-- ---- all parts

same_flags : (slots : List SlotSaid) (claimed other held holds : ℕ → Bool) (table : Table) → ((k : ℕ) → other k ≡ claimed k) → ((k : ℕ) → holds k ≡ held k)
    → BothStand slots claimed held table → BothStand slots other holds table
same_flags slots claimed other held holds table c h both = (
  (λ k. both.0 k ∙ sym (λ i. slot_now (c k i) (h k i) (slice_get slots k))),
  (λ k has. let was = both.1 k (sym (h k) ∙ has) in (c k ∙ was.0, was.1)),
)

or_none : (a b : Bool) → (a || (not b && false)) ≡ a
or_none true b = refl
or_none false true = refl
or_none false false = refl

or_false : (a : Bool) → (a || false) ≡ a
or_false true = refl
or_false false = refl

or_three : (a b c : Bool) → (a || (b || c)) ≡ ((a || b) || c)
or_three true b c = refl
or_three false b c = refl

or_both : (a n b c : Bool) → (a || (n && (b || c))) ≡ ((a || (n && b)) || (n && c))
or_both true n b c = refl
or_both false true b c = refl
or_both false false b c = refl

module _ (slots : List SlotSaid) (is_broken : Bool) where
  all_parts : (line : List Part) (claimed held : ℕ → Bool) (table : Table) → BothStand slots claimed held table → AreFree is_broken table line
      → BothStand slots (more_claimed claimed line) (more_held is_broken held line) (fold (claimed_by is_broken) table line)
  all_parts [] claimed held table both free =
      same_flags slots claimed (more_claimed claimed []) held (more_held is_broken held []) table (λ k. or_false (claimed k))
      (λ k. or_none (held k) is_broken) both
  all_parts (Embedded bytes ∷ line) claimed held table both free = all_parts line claimed held table both free.1
  all_parts (Asked len ∷ line) claimed held table both free = all_parts line claimed held table both free.1
  all_parts (FileRange name off len stamp ∷ line) claimed held table both free = all_parts line claimed held table both free.1
  all_parts (BlobRange b off len ∷ line) claimed held table both free = all_parts line claimed held table both free.1
  all_parts (HandleRange slot off len ∷ line) claimed held table both free =
      let one = one_part slots claimed held table both is_broken slot off len free.0 in
      let now : ℕ → Bool = λ (k : ℕ). claimed k || (slot == k) in
      let has : ℕ → Bool = λ (k : ℕ). held k || (not is_broken && is_ranged k (HandleRange slot off len)) in
      same_flags slots (more_claimed now line) (more_claimed claimed (HandleRange slot off len ∷ line)) (more_held is_broken has line)
      (more_held is_broken held (HandleRange slot off len ∷ line))
      (fold (claimed_by is_broken) (claimed_by is_broken table (HandleRange slot off len)) line)
      (λ k. or_three (claimed k) (slot == k) (is_in k (claims line)))
      (λ k. or_both (held k) (not is_broken) (is_ranged k (HandleRange slot off len)) (list_any (is_ranged k) line))
      (all_parts line now has (claimed_by is_broken table (HandleRange slot off len)) one free.1)

-- ---- the items that come

-- a handle is held where it was, or where one of the items that came is of it
pub slots_held : (shares now : List (Option Share)) (items : List Item)
    → ((weight : Item → ℕ) → weights weight now ≡ weights weight shares + sum_by weight items) → (k : ℕ)
    → holds_slot now k ≡ (holds_slot shares k || list_any (is_range_of k) items)
slots_held shares now items weighs k = by (holds_slot now k) (holds_slot shares k) (list_any (is_range_of k) items) refl refl refl
  where
    sum : weights (one_if (is_range_of k)) now ≡ weights (one_if (is_range_of k)) shares + sum_by (one_if (is_range_of k)) items
    sum = weighs (one_if (is_range_of k))

    by : (c a b : Bool) → holds_slot now k ≡ c → holds_slot shares k ≡ a → list_any (is_range_of k) items ≡ b → c ≡ (a || b)
    by true true b now_so was came = refl
    by true false true now_so was came = refl
    by true false false now_so was came =
        let some = some_in (is_range_of k) now now_so in
        let old = none_in (is_range_of k) shares was in
        let new = none_of (is_range_of k) items came in absurd (omega (arith, sum, some, old, new))
    by false true b now_so was came =
        let none = none_in (is_range_of k) now now_so in
        let some = some_in (is_range_of k) shares was in absurd (omega (arith, sum, none, some))
    by false false true now_so was came =
        let none = none_in (is_range_of k) now now_so in
        let some = some_of (is_range_of k) items came in absurd (omega (arith, sum, none, some))
    by false false false now_so was came = refl

-- a range with no byte is of no handle, any other of its own
pub empty_ranged : (k slot off : ℕ) → is_ranged k (HandleRange slot off zero) ≡ false
empty_ranged k slot off = by (slot == k)
  where
    by : (b : Bool) → (b && not (zero == zero)) ≡ false
    by true = ap not (eq-eqb zero zero refl)
    by false = refl

pub full_ranged : (k slot off len : ℕ) → is_ranged k (HandleRange slot off (suc len)) ≡ (slot == k)
full_ranged k slot off len = by (slot == k)
  where
    by : (b : Bool) → (b && not (suc len == zero)) ≡ b
    by true = ap not (not_same (suc len) zero (λ e. absurd (cc e)))
    by false = refl

-- where the items of each part are of the handle that it is a range of, so are those of all parts
pub ranges_among : (items_of : Part → List Item) → ((k : ℕ) (part : Part) → list_any (is_range_of k) (items_of part) ≡ is_ranged k part)
    → (k : ℕ) (line : List Part) → list_any (is_range_of k) (flat_map items_of line) ≡ list_any (is_ranged k) line
ranges_among items_of each k [] = refl
ranges_among items_of each k (part ∷ line) =
    list_any-append (is_range_of k) (items_of part) (flat_map items_of line)
    ∙ (λ i. each k part i || ranges_among items_of each k line i)

-- ---- the history with the blob

-- its parts claim handles behind those that were claimed
pub claims_grow : (s : Session) (h later : History) (new : Build) → Adds s h later new → claimed s later ≡ claimed s h ++ claims new.parts
claims_grow s h later new adds =
    ap (flat_map (λ (build : Build). claims build.parts)) adds.blobs
    ∙ flat_map-append (λ (build : Build). claims build.parts) (builds (page_limit s) h) (new ∷ [])
    ∙ ap (λ (list : List ℕ). claimed s h ++ list) (append-nil (claims new.parts))

module _ (s : Session) (h later : History) (new : Build) (adds : Adds s h later new) (is_broken : Bool) (table : Table)
    (shares now : List (Option Share)) (stand : HandlesStand s.outside.slots (λ (k : ℕ). is_in k (claimed s h)) (holds_slot shares) table)
    (claims_so : AreClaimed s.outside.slots (λ (k : ℕ). is_in k (claimed s h)) (holds_slot shares)) (free : AreFree is_broken table new.parts)
    (items : (k : ℕ) → holds_slot now k ≡ (holds_slot shares k || (not is_broken && list_any (is_ranged k) new.parts))) where
  both_built : BothStand s.outside.slots (λ (k : ℕ). is_in k (claimed s later)) (holds_slot now) (fold (claimed_by is_broken) table new.parts)
  both_built =
      same_flags s.outside.slots (more_claimed (λ (k : ℕ). is_in k (claimed s h)) new.parts) (λ (k : ℕ). is_in k (claimed s later))
      (more_held is_broken (holds_slot shares) new.parts) (holds_slot now) (fold (claimed_by is_broken) table new.parts)
      (λ k. ap (is_in k) (claims_grow s h later new adds)
      ∙ list_any-append (λ (each : ℕ). each == k) (claimed s h) (claims new.parts))
      items
      (all_parts s.outside.slots is_broken new.parts (λ (k : ℕ). is_in k (claimed s h)) (holds_slot shares) table (stand, claims_so) free)

  pub handles_built : HandlesStand s.outside.slots (λ (k : ℕ). is_in k (claimed s later)) (holds_slot now) (fold (claimed_by is_broken) table new.parts)
  handles_built = both_built.0

  pub claims_built : AreClaimed s.outside.slots (λ (k : ℕ). is_in k (claimed s later)) (holds_slot now)
  claims_built = both_built.1
