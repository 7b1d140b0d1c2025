-- What the items of own pieces weigh, and what is laid down of a blob.
use Rattle.std.proofs.Common.{◌≡◌, ◌≢◌, ℕ, ◌+◌, ◌≤◌, false, List, [], ◌∷◌, ◌++◌, length, map, replicate, sum, sum_by, refl, sym, ap, subst, ◌∙◌, Option, arith}
use Rattle.std.specs.List.{AllByRecursion}
use Rattle.std.proofs.lemmas.List.{append-nil, length-map}
use Rattle.std.proofs.lemmas.List.Sums.{sum-map, sum_by-cons}
use Rattle.blob_words.specs.declared.plan.Plan.{Plan}
use Rattle.blob_words.specs.declared.plan.Plan.TheVariants as plans
use Rattle.session_script.specs.declared.event.Part.{Part}
use Rattle.item_shares.specs.declared.item.Item.{Item}
use Rattle.item_shares.specs.declared.item.Item.TheVariants.{Memory, Reserved}
use Rattle.item_shares.specs.declared.shares.Share.{Share}
use Rattle.blob_items.specs.declared.view.View.{View}
use Rattle.blob_model.specs.Parts.{embedded, own_bytes, own_lengths}
use Rattle.segment_assembly.specs.Assembly.{bytes_at}
use Rattle.transport_plan.specs.Spans.{piece_count, piece_spans}
use Rattle.store_laws.specs.EntryLaws.{all_lengths, AreBrought}
use Rattle.store_laws.specs.PartLaws.{piece_no, AreRanges}
use Rattle.store_laws.specs.Weights.{memory_weight, piece_weight, reserved_weight}
use Rattle.blob_store.specs.Laying.{first_piece, slot_of, HasRoom, Lays}
use Rattle.store_laws.specs.NewItems.{inline_items, memory_items, range_items, reserved_items}
use Rattle.blob_store.specs.NewItems.{span_length, IsSpanIn}
use Rattle.blob_store.specs.Putting.{ArePut}
use Rattle.blob_store.specs.declared.parts.Parts.{Parts}
use Rattle.blob_store.specs.declared.row.Sending.TheVariants.{Settled, Waiting, Writing}
use Rattle.blob_store.proofs.Arriving.{put_ranges_held, ranges_held}
use Rattle.blob_store.proofs.OwnPieces.{many_brought, spans_few, spans_inside, spans_lengths, spans_sum}
use Rattle.blob_store.proofs.Putting.{bytes_long, put_join, put_none, still_held}

-- ---- what items weigh

pub memory_sum : (number : ℕ) (pieces : List (List ℕ)) → sum_by memory_weight (memory_items number pieces) ≡ sum_by (λ (bytes : List ℕ). length bytes) pieces
memory_sum number [] = refl
memory_sum number (bytes ∷ pieces) =
    let left = sum_by-cons memory_weight (Memory (piece_no number) bytes) (memory_items (number + 1) pieces) in
    let right = sum_by-cons (λ (each : List ℕ). length each) bytes pieces in
    omega (arith, left, right, memory_sum (number + 1) pieces)

pub memory_reserves : (number : ℕ) (pieces : List (List ℕ)) → sum_by reserved_weight (memory_items number pieces) ≡ 0
memory_reserves number [] = refl
memory_reserves number (bytes ∷ pieces) =
    let left = sum_by-cons reserved_weight (Memory (piece_no number) bytes) (memory_items (number + 1) pieces) in
    omega (arith, left, memory_reserves (number + 1) pieces)

pub memory_many : (number : ℕ) (pieces : List (List ℕ)) → sum_by piece_weight (memory_items number pieces) ≡ length pieces
memory_many number [] = refl
memory_many number (bytes ∷ pieces) =
    let left = sum_by-cons piece_weight (Memory (piece_no number) bytes) (memory_items (number + 1) pieces) in
    omega (arith, left, memory_many (number + 1) pieces)

pub reserved_sum : (number : ℕ) (lengths : List ℕ) → sum_by reserved_weight (reserved_items number lengths) ≡ sum lengths
reserved_sum number [] = refl
reserved_sum number (len ∷ lengths) =
    let left = sum_by-cons reserved_weight (Reserved (piece_no number) len) (reserved_items (number + 1) lengths) in
    let right = sum_by-cons (λ (x : ℕ). x) len lengths in
    omega (arith, left, right, reserved_sum (number + 1) lengths)

pub reserved_memory : (number : ℕ) (lengths : List ℕ) → sum_by memory_weight (reserved_items number lengths) ≡ 0
reserved_memory number [] = refl
reserved_memory number (len ∷ lengths) =
    let left = sum_by-cons memory_weight (Reserved (piece_no number) len) (reserved_items (number + 1) lengths) in
    omega (arith, left, reserved_memory (number + 1) lengths)

pub reserved_many : (number : ℕ) (lengths : List ℕ) → sum_by piece_weight (reserved_items number lengths) ≡ length lengths
reserved_many number [] = refl
reserved_many number (len ∷ lengths) =
    let left = sum_by-cons piece_weight (Reserved (piece_no number) len) (reserved_items (number + 1) lengths) in
    omega (arith, left, reserved_many (number + 1) lengths)

-- spans inside bytes have as many bytes as they say
cut_sum : (bytes : List ℕ) (spans : List (ℕ × ℕ)) → AllByRecursion (IsSpanIn (length bytes)) spans
    → sum_by (λ (piece : List ℕ). length piece) (map (bytes_at bytes) spans) ≡ sum_by span_length spans
cut_sum bytes [] inside = refl
cut_sum bytes (span ∷ spans) inside =
    sum_by-cons (λ (piece : List ℕ). length piece) (bytes_at bytes span) (map (bytes_at bytes) spans)
    ∙ ap (λ (n : ℕ). n + sum_by (λ (piece : List ℕ). length piece) (map (bytes_at bytes) spans)) (bytes_long bytes span inside.0.1)
    ∙ ap (λ (n : ℕ). span.1 + n) (cut_sum bytes spans inside.1) ∙ sym (sum_by-cons span_length span spans)

-- ---- what is laid down

module _ (name : ℕ) (line : List Part) (old : Parts) (mid : List (Option Share)) (ranges : List View) (put : ArePut old.shares (range_items line) ranges mid)
  where
    abbrev page : ℕ
    page = old.limits.page

    abbrev first : ℕ
    first = first_piece old

    -- the parts with these items and charges
    abbrev shaped : List (Option Share) → List ℕ → ℕ → List (ℕ × ℕ) → ℕ → ℕ → Parts
    shaped shares homes used waiting reserved held = record old {
      shares = shares;
      homes = homes;
      quota = record old.quota { used = used; waiting = waiting };
      pages = record old.pages { reserved = reserved };
      held = held;
    }

    -- the ranges are where they were, behind other items
    ranges_stay : (items : List Item) (pieces : List View) (now : List (Option Share)) → ArePut mid items pieces now → AreRanges now ranges line
    ranges_stay items pieces now more =
        ranges_held now line ranges (still_held mid now pieces ranges (range_items line) more.vacant more.others put.held) put.whole

    -- pieces in memory
    inline_inside : own_bytes line ≤ length (embedded line) → AllByRecursion (IsSpanIn (length (embedded line))) (piece_spans page 0 (own_lengths line))
    inline_inside told = spans_inside page line (length (embedded line)) old.limits.some_page told

    inline_sum : own_bytes line ≤ length (embedded line) → sum_by memory_weight (inline_items page first line) ≡ own_bytes line
    inline_sum told =
        memory_sum first (map (bytes_at (embedded line)) (piece_spans page 0 (own_lengths line)))
        ∙ cut_sum (embedded line) (piece_spans page 0 (own_lengths line)) (inline_inside told) ∙ spans_sum page line old.limits.some_page

    many_cut : (pieces : List View) (shares : List (Option Share)) → AreBrought shares first (all_lengths page line) pieces
        → length pieces ≡ length (piece_spans page 0 (own_lengths line))
    many_cut pieces shares brought = many_brought page line first shares pieces brought ∙ sym (spans_few page line)

    inline_many : (pieces : List View) (shares : List (Option Share)) → AreBrought shares first (all_lengths page line) pieces
        → length pieces ≡ sum_by piece_weight (inline_items page first line)
    inline_many pieces shares brought =
        many_cut pieces shares brought ∙ sym (length-map (piece_spans page 0 (own_lengths line)) (bytes_at (embedded line)))
        ∙ sym (memory_many first (map (bytes_at (embedded line)) (piece_spans page 0 (own_lengths line))))

    inline_shape : (now : Parts) (pieces : List View) → own_bytes line ≤ length (embedded line) → AreBrought now.shares first (all_lengths page line) pieces
        → now ≡ shaped now.shares (old.homes ++ map slot_of pieces) (old.quota.used + own_bytes line) old.quota.waiting old.pages.reserved
        (old.held + length pieces)
        → now ≡ shaped now.shares (old.homes ++ map slot_of pieces) (old.quota.used + sum_by memory_weight (inline_items page first line))
        (old.quota.waiting ++ []) (old.pages.reserved + sum_by reserved_weight (inline_items page first line))
        (old.held + sum_by piece_weight (inline_items page first line))
    inline_shape now pieces told brought is =
        let none = memory_reserves first (map (bytes_at (embedded line)) (piece_spans page 0 (own_lengths line))) in
        let reserves : old.pages.reserved ≡ old.pages.reserved + sum_by reserved_weight (inline_items page first line) = omega (arith, none) in
        is ∙ (λ i. shaped now.shares (old.homes ++ map slot_of pieces) (old.quota.used + sym (inline_sum told) i) (sym (append-nil old.quota.waiting) i)
        (reserves i) (old.held + inline_many pieces now.shares brought i))

    pub laid_inline : (plan : Plan) (pieces : List View) (now : Parts) → HasRoom plan line old → ((n : ℕ) → plan ≢ plans.Shared n)
        → ((n : ℕ) → plan ≢ plans.File n)
        → ArePut mid (inline_items page first line) pieces now.shares → AreBrought now.shares first (all_lengths page line) pieces
        → now ≡ shaped now.shares (old.homes ++ map slot_of pieces) (old.quota.used + own_bytes line) old.quota.waiting old.pages.reserved
        (old.held + length pieces)
        → Lays name plan line old (record { ranges = ranges; pieces = pieces; sending = Settled }) now
    laid_inline plans.None pieces now has shared file more brought is = record {
      put = put_join old.shares mid now.shares (range_items line) (inline_items page first line) ranges pieces put more;
      ranges = ranges_stay (inline_items page first line) pieces now.shares more;
      pieces = brought;
      held = more.held;
      sending = refl;
      rest = inline_shape now pieces has.0 brought is;
    }
    laid_inline plans.Inline pieces now has shared file more brought is = record {
      put = put_join old.shares mid now.shares (range_items line) (inline_items page first line) ranges pieces put more;
      ranges = ranges_stay (inline_items page first line) pieces now.shares more;
      pieces = brought;
      held = more.held;
      sending = refl;
      rest = inline_shape now pieces has.0 brought is;
    }
    laid_inline (plans.Shared n) pieces now has shared file more brought is = absurd (shared n refl)
    laid_inline (plans.File n) pieces now has shared file more brought is = absurd (file n refl)
    laid_inline plans.OutOfMemory pieces now has shared file more brought is = absurd has
    laid_inline (plans.TooMany what) pieces now has shared file more brought is = absurd has

    pub has_inline : (plan : Plan) → HasRoom plan line old → ((n : ℕ) → plan ≢ plans.Shared n) → ((n : ℕ) → plan ≢ plans.File n)
        → (own_bytes line ≤ length (embedded line)) × (old.quota.used + own_bytes line ≤ old.quota.limit)
    has_inline plans.None has shared file = has
    has_inline plans.Inline has shared file = has
    has_inline (plans.Shared n) has shared file = absurd (shared n refl)
    has_inline (plans.File n) has shared file = absurd (file n refl)
    has_inline plans.OutOfMemory has shared file = absurd has
    has_inline (plans.TooMany what) has shared file = absurd has

    -- pieces that go to page files
    pub laid_filed : (n : ℕ) (pieces : List View) (now : Parts) → ArePut mid (reserved_items first (all_lengths page line)) pieces now.shares
        → AreBrought now.shares first (all_lengths page line) pieces
        → now ≡ shaped now.shares (old.homes ++ map slot_of pieces) old.quota.used old.quota.waiting (old.pages.reserved + own_bytes line)
        (old.held + length pieces)
        → Lays name (plans.File n) line old
        (record { ranges = ranges; pieces = pieces; sending = Writing (map slot_of pieces) (replicate (length pieces) false) }) now
    laid_filed n pieces now more brought is =
        let none = reserved_memory first (all_lengths page line) in
        let used : old.quota.used ≡ old.quota.used + sum_by memory_weight (reserved_items first (all_lengths page line)) = omega (arith, none) in
        let reserves : own_bytes line ≡ sum_by reserved_weight (reserved_items first (all_lengths page line)) =
        sym (spans_sum page line old.limits.some_page) ∙ sym (sum-map span_length (piece_spans page 0 (own_lengths line)))
        ∙ ap sum (spans_lengths page line) ∙ sym (reserved_sum first (all_lengths page line)) in
        let many : length pieces ≡ sum_by piece_weight (reserved_items first (all_lengths page line)) =
        many_cut pieces now.shares brought ∙ sym (length-map (piece_spans page 0 (own_lengths line)) span_length)
        ∙ ap (λ (list : List ℕ). length list) (spans_lengths page line) ∙ sym (reserved_many first (all_lengths page line)) in
        record {
          put = put_join old.shares mid now.shares (range_items line) (reserved_items first (all_lengths page line)) ranges pieces put more;
          ranges = ranges_stay (reserved_items first (all_lengths page line)) pieces now.shares more;
          pieces = brought;
          held = more.held;
          sending = ap (λ (n : ℕ). Writing (map slot_of pieces) (replicate n false)) (sym (length-map pieces slot_of));
          rest = is ∙ (λ i. shaped now.shares (old.homes ++ map slot_of pieces) (used i) (sym (append-nil old.quota.waiting) i)
              (old.pages.reserved + reserves i) (old.held + many i));
        }

    -- bytes that wait
    pub laid_waiting : (n : ℕ) (now : Parts)
        → now ≡ shaped mid (old.homes ++ replicate (piece_count page (own_lengths line)) 0) old.quota.used (old.quota.waiting ++ (name, own_bytes line) ∷ [])
        old.pages.reserved old.held
        → Lays name (plans.Shared n) line old (record { ranges = ranges; pieces = []; sending = Waiting }) now
    laid_waiting n now is =
        let shares : mid ≡ now.shares = sym (ap (λ (parts : Parts). parts.shares) is) in
        let used : old.quota.used ≡ old.quota.used + sum_by memory_weight [] = omega arith in
        let reserves : old.pages.reserved ≡ old.pages.reserved + sum_by reserved_weight [] = omega arith in
        let many : old.held ≡ old.held + sum_by piece_weight [] = omega arith in
        record {
          put = subst (λ (list : List (Option Share)). ArePut old.shares (range_items line ++ []) (ranges ++ []) list) shares
              (put_join old.shares mid mid (range_items line) [] ranges [] put (put_none mid));
          ranges = subst (λ (list : List (Option Share)). AreRanges list ranges line) shares (put_ranges_held old.shares mid line ranges put);
          pieces = tt;
          held = refl;
          sending = refl;
          rest = is ∙ (λ i. shaped (shares i) (old.homes ++ replicate (piece_count page (own_lengths line)) 0) (used i)
              (old.quota.waiting ++ (name, own_bytes line) ∷ []) (reserves i) (many i));
        }
