-- Of the items of a new blob those of its ranges alone are of data handles.
use Rattle.std.proofs.Common.{◌≡◌, ℕ, zero, suc, ◌+◌, ◌==◌, ◌&&◌, ◌||◌, not, Bool, true, false, List, [], ◌∷◌, ◌++◌, refl, ap, sym, ◌∙◌, Option}
use Rattle.std.specs.Prelude.{map, sum_by}
use Rattle.std.specs.List.{list_any}
use Rattle.std.proofs.lemmas.List.Folds.{list_any-append}
use Rattle.blob_words.specs.declared.plan.Plan.{Plan}
use Rattle.blob_words.specs.declared.plan.Plan.TheVariants as plans
use Rattle.session_script.specs.declared.event.Part.{Part}
use Rattle.session_script.specs.declared.event.Part.TheVariants.{Embedded, Asked, FileRange, BlobRange, HandleRange}
use Rattle.item_shares.specs.declared.item.Item.{Item}
use Rattle.item_shares.specs.declared.shares.Share.{Share}
use Rattle.item_shares.specs.Weights.{weights}
use Rattle.segment_assembly.specs.Assembly.{bytes_at}
use Rattle.transport_plan.specs.Spans.{piece_spans}
use Rattle.blob_model.specs.Parts.{embedded, own_lengths}
use Rattle.store_laws.specs.Claiming.{is_ranged}
use Rattle.store_laws.specs.EntryLaws.{all_lengths}
use Rattle.store_laws.specs.Items.{holds_slot, is_range_of}
use Rattle.store_laws.specs.NewItems.{inline_items, memory_items, own_items, part_items, range_items, reserved_items}
use Rattle.store_laws.proofs.Claiming.{empty_ranged, full_ranged, ranges_among, slots_held}

or_false : (a : Bool) → (a || false) ≡ a
or_false true = refl
or_false false = refl

part_ranged : (k : ℕ) (part : Part) → list_any (is_range_of k) (part_items part) ≡ is_ranged k part
part_ranged k (Embedded bytes) = refl
part_ranged k (Asked len) = refl
part_ranged k (FileRange name off zero stamp) = refl
part_ranged k (FileRange name off (suc len) stamp) = refl
part_ranged k (BlobRange b off len) = refl
part_ranged k (HandleRange slot off zero) = sym (empty_ranged k slot off)
part_ranged k (HandleRange slot off (suc len)) = or_false (slot == k) ∙ sym (full_ranged k slot off len)

pub ranges_held : (k : ℕ) (line : List Part) → list_any (is_range_of k) (range_items line) ≡ list_any (is_ranged k) line
ranges_held = ranges_among part_items part_ranged

memory_unranged : (k number : ℕ) (pieces : List (List ℕ)) → list_any (is_range_of k) (memory_items number pieces) ≡ false
memory_unranged k number [] = refl
memory_unranged k number (bytes ∷ pieces) = memory_unranged k (number + 1) pieces

reserved_unranged : (k number : ℕ) (lengths : List ℕ) → list_any (is_range_of k) (reserved_items number lengths) ≡ false
reserved_unranged k number [] = refl
reserved_unranged k number (len ∷ lengths) = reserved_unranged k (number + 1) lengths

inline_unranged : (k page first : ℕ) (line : List Part) → list_any (is_range_of k) (inline_items page first line) ≡ false
inline_unranged k page first line = memory_unranged k first (map (bytes_at (embedded line)) (piece_spans page 0 (own_lengths line)))

own_unranged : (k page first : ℕ) (plan : Plan) (line : List Part) → list_any (is_range_of k) (own_items page first plan line) ≡ false
own_unranged k page first (plans.Shared n) line = refl
own_unranged k page first (plans.File n) line = reserved_unranged k first (all_lengths page line)
own_unranged k page first plans.None line = inline_unranged k page first line
own_unranged k page first plans.Inline line = inline_unranged k page first line
own_unranged k page first plans.OutOfMemory line = inline_unranged k page first line
own_unranged k page first (plans.TooMany what) line = inline_unranged k page first line

-- once the items of a blob with a plan came, each handle is held of which a part is a range
pub planned_held : (page first : ℕ) (plan : Plan) (line : List Part) (shares now : List (Option Share))
    → ((weight : Item → ℕ) → weights weight now ≡ weights weight shares + sum_by weight (range_items line ++ own_items page first plan line)) → (k : ℕ)
    → holds_slot now k ≡ (holds_slot shares k || (not false && list_any (is_ranged k) line))
planned_held page first plan line shares now weighs k =
    slots_held shares now (range_items line ++ own_items page first plan line) weighs k
    ∙ ap (λ (b : Bool). holds_slot shares k || b)
    (list_any-append (is_range_of k) (range_items line) (own_items page first plan line)
    ∙ (λ i. ranges_held k line i || own_unranged k page first plan line i)
    ∙ or_false (list_any (is_ranged k) line))

-- of a blob that broke nothing comes
pub broken_held : (line : List Part) (shares : List (Option Share)) (k : ℕ)
    → holds_slot shares k ≡ (holds_slot shares k || (not true && list_any (is_ranged k) line))
broken_held line shares k = sym (or_false (holds_slot shares k))
