-- A line that builds, is not refused and doesn't break adds a blob that can be added.
use Rattle.std.proofs.Common.{◌≡◌, ℕ, zero, suc, ◌+◌, ◌<◌, ◌≤◌, ◌^◌, ◌==◌, ◌&&◌, ◌||◌, Bool, true, false, not, List, [], ◌∷◌, length, sum_by, refl, sym, ap, subst, ◌∙◌, Option, Some, None, IsSome, IsSomeAnd, cond, arith}
use Rattle.std.specs.Prelude.{is_none, nat_lt}
use Rattle.std.specs.Option.{option_map_or}
use Rattle.std.specs.Int.{div_ceil}
use Rattle.std.specs.List.{AllByRecursion, list_any}
use Rattle.std.proofs.lemmas.Bool.{eqb-true, ltb-false, ltb-true, or_parts}
use Rattle.std.proofs.lemmas.List.Sums.{sum_by-cons}
use Rattle.blob_words.specs.declared.bounds.TheConstants.{MOST_PIECES, MOST_SEGMENTS, MOST_WEIGHT}
use Rattle.blob_words.specs.declared.counted.Counted.{Counted}
use Rattle.blob_words.specs.declared.counted.Counted.TheVariants as counted
use Rattle.blob_words.specs.declared.number.RendererId.{RendererId}
use Rattle.blob_words.specs.declared.plan.Plan.{Plan}
use Rattle.blob_words.specs.declared.plan.Plan.TheVariants as plans
use Rattle.blob_words.specs.declared.status.Status.{Status}
use Rattle.blob_words.specs.declared.status.Status.TheVariants as statuses
use Rattle.session_script.specs.declared.event.Part.{Part}
use Rattle.session_script.specs.declared.event.Part.TheVariants.{Embedded, Asked, FileRange, BlobRange, HandleRange}
use Rattle.answer_text.specs.declared.refusal.Refusal.{Refusal}
use Rattle.item_shares.specs.Weights.{weights}
use Rattle.item_shares.specs.declared.item.Item.TheVariants.{File, Range}
use Rattle.item_shares.specs.declared.shares.Share.{Share}
use Rattle.blob_entries.specs.Book.{entry_of}
use Rattle.blob_entries.specs.Names.{number_of}
use Rattle.blob_entries.specs.Statuses.{is_broken}
use Rattle.blob_entries.specs.declared.entry.Entry.{Entry}
use Rattle.data_handles.specs.Table.{Table, is_claimed_at}
use Rattle.renderer_table.specs.Table.{count_of, living_of}
use Rattle.blob_model.specs.Choice.{first_that}
use Rattle.blob_model.specs.Construct.{is_out_of_memory}
use Rattle.blob_model.specs.Parts.{claims, own_lengths, parts_length}
use Rattle.blob_model.specs.Refusals.{is_many_segments}
use Rattle.blob_model.proofs.kept.NewBlobs.{embedded_within}
use Rattle.transport_plan.specs.Plan.{file_plan, fits_inline, has_file_room, own_bytes, plan_of, shared_plan, FitsPlan}
use Rattle.transport_plan.specs.Spans.{piece_count}
use Rattle.transport_plan.specs.declared.input.PlanInput.{PlanInput}
use Rattle.blob_model.proofs.builds.Cells.{none_applies}
use Rattle.blob_model.proofs.settled.Endings.{none_that, some_that}
use Rattle.store_laws.specs.Deciding.{holds, input_in, is_broken_under, is_invalid_in, is_lost_in, is_passed, is_unrecorded_in, line_status_in, line_weight_in, many_in, plan_in, slot_tests, slot_tests_in}
use Rattle.store_laws.specs.Items.{holds_slot, is_range_of}
use Rattle.store_laws.specs.Weights.{range_weight}
use Rattle.blob_store.specs.Adding.{CanAdd, EndsWithin, IsThere}
use Rattle.blob_store.specs.Admitting.{MayCome}
use Rattle.blob_store.specs.Laying.{HasRoom}
use Rattle.store_laws.specs.NewItems.{range_items}
use Rattle.blob_store.specs.Seen.{parts_of}
use Rattle.blob_store.specs.Unheld.{HaveObjects}
use Rattle.blob_store.specs.Whole.{Whole}
use Rattle.blob_store.specs.declared.parts.Parts.{Parts}
use Rattle.blob_store.proofs.Rooting.{rooted}

-- ---- data handles

-- no item of a handle, so none weighs
pub unheld_weighs : (k : ℕ) (shares : List (Option Share)) → holds_slot shares k ≡ false → weights (range_weight k) shares ≡ 0
unheld_weighs k [] none = refl
unheld_weighs k (held ∷ shares) none =
    let parts = or_parts (option_map_or (λ (share : Share). is_range_of k share.item) held false) (holds_slot shares k) none in
    let sums = sum_by-cons (λ (one : Option Share). option_map_or (λ (share : Share). range_weight k share.item) one 0) held shares in
    omega (arith, sums, here held parts.0, unheld_weighs k shares parts.1)
  where
    here : (held : Option Share) → option_map_or (λ (share : Share). is_range_of k share.item) held false ≡ false
        → option_map_or (λ (share : Share). range_weight k share.item) held 0 ≡ 0
    here None none = refl
    here (Some share) none = ap (λ (b : Bool). cond b 1 0) none

-- of a handle that is taken the parts have no range, and of no handle they have two
abbrev Once : (ℕ → Bool) → ℕ → List Part → Type 0
Once taken k line = (taken k ≡ true → sum_by (range_weight k) (range_items line) ≡ 0) × (sum_by (range_weight k) (range_items line) ≤ 1)

pub claims_once : (count : ℕ) (taken : ℕ → Bool) (k : ℕ) (line : List Part) → first_that (slot_tests count taken (claims line)) ≡ None → Once taken k line
claims_once count taken k [] none = (λ at. refl, omega arith)
claims_once count taken k (Embedded bytes ∷ line) none = claims_once count taken k line none
claims_once count taken k (Asked len ∷ line) none = claims_once count taken k line none
claims_once count taken k (FileRange name off zero stamp ∷ line) none = claims_once count taken k line none
claims_once count taken k (FileRange name off (suc len) stamp ∷ line) none =
    let rest = claims_once count taken k line none in
    let sums = sum_by-cons (range_weight k) (File name stamp off (suc len)) (range_items line) in
    (λ at. omega (arith, sums, rest.0 at), omega (arith, sums, rest.1))
claims_once count taken k (BlobRange b off len ∷ line) none = claims_once count taken k line none
claims_once count taken k (HandleRange j off len ∷ line) none =
    by len (none_applies (slot_tests count taken (j ∷ claims line)) none) (claims_once count (λ (each : ℕ). (j == each) || taken each) k line)
  where
    apart : (taken j ≡ false) → (j == k) ≡ true → taken k ≡ true → ⊥
    apart free same at = absurd (cc (free, subst (λ (n : ℕ). taken n ≡ true) (sym (eqb-true j k same)) at))

    one : (b : Bool) → (j == k) ≡ b → taken j ≡ false → Once (λ (each : ℕ). (j == each) || taken each) k line
        → (taken k ≡ true → range_weight k (Range j off 1) + sum_by (range_weight k) (range_items line) ≡ 0)
        × (range_weight k (Range j off 1) + sum_by (range_weight k) (range_items line) ≤ 1)
    one true same free rest =
        let gone = rest.0 (ap (λ (b : Bool). b || taken k) same) in
        let weighs : range_weight k (Range j off 1) ≡ 1 = ap (λ (b : Bool). cond b 1 0) same in
        (λ at. absurd (apart free same at), omega (arith, gone, weighs))
    one false same free rest =
        let weighs : range_weight k (Range j off 1) ≡ 0 = ap (λ (b : Bool). cond b 1 0) same in
        (λ at. omega (arith, weighs, rest.0 (ap (λ (b : Bool). b || taken k) same ∙ at)), omega (arith, weighs, rest.1))

    by : (len : ℕ) → AllByRecursion (λ (case : Bool × Refusal). case.0 ≡ false) (slot_tests count taken (j ∷ claims line))
        → (first_that (slot_tests count (λ (each : ℕ). (j == each) || taken each) (claims line)) ≡ None
        → Once (λ (each : ℕ). (j == each) || taken each) k line)
        → Once taken k (HandleRange j off len ∷ line)
    by zero all behind =
        let rest = behind (none_that (slot_tests count (λ (each : ℕ). (j == each) || taken each) (claims line)) all.1.1) in
        (λ at. rest.0 (held (j == k) at), rest.1)
      where
        held : (b : Bool) → taken k ≡ true → (b || taken k) ≡ true
        held true at = refl
        held false at = at
    by (suc len) all behind =
        let rest = behind (none_that (slot_tests count (λ (each : ℕ). (j == each) || taken each) (claims line)) all.1.1) in
        let sums = sum_by-cons (range_weight k) (Range j off (suc len)) (range_items line) in
        let both = one (j == k) refl all.1.0 rest in
        (λ at. omega (arith, sums, both.0 at), omega (arith, sums, both.1))

pub handles_once : (table : Table) (shares : List (Option Share)) (line : List Part) (k : ℕ)
    → ((k : ℕ) → holds_slot shares k ≡ true → is_claimed_at table k ≡ true) → weights (range_weight k) shares ≤ 1
    → first_that (slot_tests (length table.slots) (is_claimed_at table) (claims line)) ≡ None
    → weights (range_weight k) shares + sum_by (range_weight k) (range_items line) ≤ 1
handles_once table shares line k known few none =
    by (holds_slot shares k) refl (claims_once (length table.slots) (is_claimed_at table) k line none)
  where
    by : (b : Bool) → holds_slot shares k ≡ b → Once (is_claimed_at table) k line
        → weights (range_weight k) shares + sum_by (range_weight k) (range_items line) ≤ 1
    by true at once = omega (arith, few, once.0 (known k at))
    by false at once = omega (arith, unheld_weighs k shares at, once.1)

-- ---- why a blob breaks at its line

abbrev line_tests : Parts → Table → ℕ → ℕ → List Part → List (Bool × Status)
line_tests parts table renderer name line =
    (list_any (is_invalid_in (parts_of parts) table renderer name) line || nat_lt (2 ^ 62) (parts_length line), statuses.InvalidArguments)
    ∷ (list_any (is_lost_in (parts_of parts) renderer) line, statuses.ReferencedBlobBroken)
    ∷ (list_any (is_unrecorded_in (parts_of parts)) line, statuses.ReferencedFileUnavailable)
    ∷ (is_out_of_memory (plan_in (parts_of parts) line), statuses.OutOfMemory)
    ∷ []

-- ---- sources

module _ (parts : Parts) (whole : Whole parts) (table : Table) (renderer name : ℕ) where
  -- a blob that is held stands
  held_there : (b : ℕ) → holds (parts_of parts) renderer b ≡ true → IsSomeAnd (entry_of parts.registry b) (λ (entry : Entry). 0 < entry.roots)
  held_there b held =
      rooted parts.registry parts.renderers parts.urls parts.readers renderer b (whole.holders.roots b)
      (ltb-true 0 (count_of renderer b parts.renderers) held)

  source_there : (b off len : ℕ)
      → ((b == name) || (holds (parts_of parts) renderer b && is_passed parts.registry b (off + len))) ≡ false
      → (not (holds (parts_of parts) renderer b) || is_broken_under parts.registry b) ≡ false
      → IsSomeAnd (entry_of parts.registry b) (λ (entry : Entry). off + len ≤ entry.size)
  source_there b off len valid kept =
      let lost = or_parts (not (holds (parts_of parts) renderer b)) (is_broken_under parts.registry b) kept in
      let held = not_false (holds (parts_of parts) renderer b) lost.0 in
      let passed = passes (holds (parts_of parts) renderer b) (is_passed parts.registry b (off + len)) held
      (or_parts (b == name) (holds (parts_of parts) renderer b && is_passed parts.registry b (off + len)) valid).1 in
      by (entry_of parts.registry b) (held_there b held) lost.1 passed
    where
      not_false : (b : Bool) → not b ≡ false → b ≡ true
      not_false true is = refl
      not_false false is = absurd (cc is)

      passes : (a b : Bool) → a ≡ true → (a && b) ≡ false → b ≡ false
      passes true b is none = none
      passes false b is none = absurd (cc is)

      within : (broken past : Bool) → broken ≡ false → (not broken && past) ≡ false → past ≡ false
      within true past is none = absurd (cc is)
      within false past is none = none

      by : (held : Option Entry) → IsSomeAnd held (λ (entry : Entry). 0 < entry.roots)
          → option_map_or (λ (entry : Entry). is_broken entry.status) held false ≡ false
          → option_map_or (λ (entry : Entry). not (is_broken entry.status) && nat_lt entry.size (off + len)) held false ≡ false
          → IsSomeAnd held (λ (entry : Entry). off + len ≤ entry.size)
      by None there whole passed = absurd there
      by (Some entry) there whole passed =
          ltb-false entry.size (off + len) (within (is_broken entry.status) (nat_lt entry.size (off + len)) whole passed)

  pub are_there : (line : List Part) → list_any (is_invalid_in (parts_of parts) table renderer name) line ≡ false
      → list_any (is_lost_in (parts_of parts) renderer) line ≡ false → AllByRecursion EndsWithin line → AllByRecursion (IsThere parts.registry) line
  are_there [] valid kept ends = tt
  are_there (Embedded bytes ∷ line) valid kept ends = (tt, are_there line valid kept ends.1)
  are_there (Asked len ∷ line) valid kept ends = (tt, are_there line valid kept ends.1)
  are_there (FileRange file off len stamp ∷ line) valid kept ends = (tt, are_there line valid kept ends.1)
  are_there (BlobRange b off len ∷ line) valid kept ends =
      let one = or_parts (is_invalid_in (parts_of parts) table renderer name (BlobRange b off len))
      (list_any (is_invalid_in (parts_of parts) table renderer name) line) valid in
      let two = or_parts (is_lost_in (parts_of parts) renderer (BlobRange b off len)) (list_any (is_lost_in (parts_of parts) renderer) line) kept in
      (source_there b off len one.0 two.0, are_there line one.1 two.1 ends.1)
  are_there (HandleRange k off len ∷ line) valid kept ends =
      let one = or_parts (is_invalid_in (parts_of parts) table renderer name (HandleRange k off len))
      (list_any (is_invalid_in (parts_of parts) table renderer name) line) valid in
      (ends.0, are_there line one.1 kept ends.1)

-- ---- the plan

-- a plan that there are too many is of segments, or of pieces, and then there are
abbrev AreMany : ℕ → Counted → Type 0
AreMany pieces counted.Segments = Unit {0}
AreMany pieces counted.Pieces = MOST_PIECES < pieces
AreMany pieces what = ⊥

are_many : (input : PlanInput) (what : Counted) → plan_of input ≡ plans.TooMany what → AreMany input.pieces what
are_many input what is =
    by (own_bytes input == 0) (nat_lt input.limits.memory (own_bytes input) && not (has_file_room input))
    (nat_lt input.limits.big (own_bytes input) && has_file_room input) (fits_inline input) is
  where
    of_file : (b : Bool) → nat_lt MOST_PIECES input.pieces ≡ b
        → cond {A = Plan} b (plans.TooMany counted.Pieces) (plans.File input.pieces) ≡ plans.TooMany what → AreMany input.pieces what
    of_file true at is =
        let same : counted.Pieces ≡ what = cc is in subst (AreMany input.pieces) same (ltb-true MOST_PIECES input.pieces at)
    of_file false at is = absurd (cc is)

    of_shared : (n : ℕ) (b : Bool) → cond {A = Plan} b (plans.TooMany counted.Segments) (plans.Shared n) ≡ plans.TooMany what → AreMany input.pieces what
    of_shared n true is = let same : counted.Segments ≡ what = cc is in subst (AreMany input.pieces) same tt
    of_shared n false is = absurd (cc is)

    by : (none full file inline : Bool)
        → cond {A = Plan} none plans.None (cond {A = Plan} full plans.OutOfMemory (cond {A = Plan} file (file_plan input.pieces)
        (cond {A = Plan} inline plans.Inline (shared_plan (div_ceil (own_bytes input) input.limits.segment))))) ≡ plans.TooMany what
        → AreMany input.pieces what
    by true full file inline is = absurd (cc is)
    by false true file inline is = absurd (cc is)
    by false false true inline is = of_file (nat_lt MOST_PIECES input.pieces) refl is
    by false false false true is = absurd (cc is)
    by false false false false is =
        let n = div_ceil (own_bytes input) input.limits.segment in of_shared n (nat_lt MOST_SEGMENTS n) is

-- there is room for the own bytes where the plan sends them
module _ (parts : Parts) (whole : Whole parts) (line : List Part) (few : piece_count parts.limits.page (own_lengths line) ≤ MOST_PIECES) where
  pub has_room : (plan : Plan) → plan ≡ plan_in (parts_of parts) line → FitsPlan (input_in (parts_of parts) line) plan → is_out_of_memory plan ≡ false
      → is_many_segments plan ≡ false → parts.quota.used ≤ parts.quota.limit → HasRoom plan line parts
  has_room plans.None is fits room segments used =
      let all = embedded_within line in (omega (arith, fits, all), omega (arith, fits, all, used))
  has_room plans.Inline is fits room segments used =
      let all = embedded_within line in
      let limit = whole.stored.memory_limit in
      (omega (arith, fits.0, all), omega (arith, fits.0, fits.1, all, limit))
  has_room (plans.Shared n) is fits room segments used = tt
  has_room (plans.File n) is fits room segments used =
      let all = embedded_within line in
      let limit = whole.stored.disk_limit in
      omega (arith, fits.2, all, limit)
  has_room plans.OutOfMemory is fits room segments used = absurd (cc room)
  has_room (plans.TooMany what) is fits room segments used =
      absurd (by what (are_many (input_in (parts_of parts) line) what (sym is)) segments)
    where
      by : (what : Counted) → AreMany (piece_count parts.limits.page (own_lengths line)) what → is_many_segments (plans.TooMany what) ≡ false → ⊥
      by counted.Segments many segments = cc segments
      by counted.Pieces many segments = omega (arith, many, few)
      by counted.Renderers many segments = many
      by counted.Blobs many segments = many
      by counted.Views many segments = many
      by counted.Readers many segments = many
      by counted.Urls many segments = many
      by counted.Files many segments = many

-- ---- all of it

module _ (parts : Parts) (whole : Whole parts) (table : Table) (known : (k : ℕ) → holds_slot parts.shares k ≡ true → is_claimed_at table k ≡ true)
    (renderer : RendererId) (name : ℕ) (line : List Part) (ends : AllByRecursion EndsWithin line)
    (stands : line_status_in (parts_of parts) table renderer.0 name line ≡ None) (plan : Plan) (is : plan ≡ plan_in (parts_of parts) line)
    (fits : FitsPlan (input_in (parts_of parts) line) plan) (used : parts.quota.used ≤ parts.quota.limit) where
  -- why it doesn't break
  status_tests : AllByRecursion (λ (case : Bool × Status). case.0 ≡ false) (line_tests parts table renderer.0 name line)
  status_tests = none_applies (line_tests parts table renderer.0 name line) stands

  -- why it isn't refused
  abbrev Passes : Type 0
  Passes =
      IsSome (living_of renderer.0 parts.renderers) × (number_of name parts.registry.names ≡ None)
      × (first_that (slot_tests_in table (claims line)) ≡ None)
      × (first_that (many_in (parts_of parts) true line) ≡ None)

  pub can_add : Passes → CanAdd renderer name plan line parts
  can_add passes =
      let invalid = or_parts (list_any (is_invalid_in (parts_of parts) table renderer.0 name) line) (nat_lt (2 ^ 62) (parts_length line)) status_tests.0 in
      let many = none_applies (many_in (parts_of parts) true line) passes.3 in
      let pieces : length parts.homes + piece_count parts.limits.page (own_lengths line) ≤ MOST_PIECES =
      ltb-false MOST_PIECES (length parts.homes + piece_count parts.limits.page (own_lengths line)) many.1.0 in
      record {
        alive = passes.0;
        fresh = passes.1;
        there = are_there parts whole table renderer.0 name line invalid.0 status_tests.1.0 ends;
        room = has_room parts whole line (omega (arith, pieces)) plan is fits (ap is_out_of_memory is ∙ status_tests.1.1.1.0)
            (ap is_many_segments is ∙ many.0) used;
        planned = fits;
        handles = λ k. handles_once table parts.shares line k known (whole.stored.ranges k) passes.2;
        fits = ltb-false (2 ^ 62) (parts_length line) invalid.1;
        pieces = pieces;
        light = ltb-false MOST_WEIGHT (parts.weight + line_weight_in (parts_of parts) line) many.1.1.0;
      }

-- ---- a blob that may come

-- it breaks with a status that breaks
pub breaks_so : (parts : Parts) (table : Table) (renderer name : ℕ) (line : List Part) (why : Status)
    → line_status_in (parts_of parts) table renderer name line ≡ Some why → is_broken why ≡ true
breaks_so parts table renderer name line why is =
    some_that (λ (status : Status). is_broken status ≡ true) (line_tests parts table renderer name line) why (refl, (refl, (refl, (refl, tt)))) is

-- one that doesn't break has few bytes
pub few_bytes : (parts : Parts) (table : Table) (renderer name : ℕ) (line : List Part) → line_status_in (parts_of parts) table renderer name line ≡ None
    → parts_length line ≤ 2 ^ 62
few_bytes parts table renderer name line stands =
    let tests = none_applies (line_tests parts table renderer name line) stands in
    ltb-false (2 ^ 62) (parts_length line)
    (or_parts (list_any (is_invalid_in (parts_of parts) table renderer name) line) (nat_lt (2 ^ 62) (parts_length line)) tests.0).1

pub may_add : (parts : Parts) → Whole parts → (table : Table) → HaveObjects parts.shares table → (renderer : RendererId) (name : ℕ) (line : List Part)
    → AllByRecursion EndsWithin line → line_status_in (parts_of parts) table renderer.0 name line ≡ None → (plan : Plan) → plan ≡ plan_in (parts_of parts) line
    → FitsPlan (input_in (parts_of parts) line) plan → parts.quota.used ≤ parts.quota.limit → MayCome renderer name line parts table
    → CanAdd renderer name plan line parts
may_add parts whole table objects renderer name line ends stands plan is fits used may =
    can_add parts whole table (λ k holds. (objects k holds).0) renderer name line ends stands plan is fits used (
      may.alive,
      may.fresh,
      may.slots,
      subst (λ (b : Bool). first_that (many_in (parts_of parts) b line) ≡ None) (ap (λ (status : Option Status). is_none status) stands) may.little,
    )
