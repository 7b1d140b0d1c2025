-- The objects behind the items of a blob that comes are claimed and there.
use Rattle.std.proofs.Common.{◌≡◌, ℕ, ◌&&◌, ◌||◌, Bool, true, false, not, List, refl, sym, ap, ◌∙◌, Option}
use Rattle.std.specs.List.{list_any}
use Rattle.session_script.specs.declared.event.Part.{Part}
use Rattle.data_handles.specs.Table.{Table}
use Rattle.item_shares.specs.declared.shares.Share.{Share}
use Rattle.store_laws.specs.Claiming.{is_ranged}
use Rattle.store_laws.specs.Items.{holds_slot}
use Rattle.blob_store.specs.Unheld.{HasObject, HaveObjects}

pub objects_come : (shares now : List (Option Share)) (table later : Table) (is_broken : Bool) (line : List Part)
    → ((k : ℕ) → holds_slot now k ≡ (holds_slot shares k || (not is_broken && list_any (is_ranged k) line))) → HaveObjects shares table
    → ((k : ℕ) → HasObject table k → HasObject later k)
    → ((k : ℕ) → (not is_broken && list_any (is_ranged k) line) ≡ true → HasObject later k) → HaveObjects now later
objects_come shares now table later is_broken line held objects keeps has k holds = by (holds_slot shares k) refl (sym (held k) ∙ holds)
  where
    by : (b : Bool) → holds_slot shares k ≡ b → (holds_slot shares k || (not is_broken && list_any (is_ranged k) line)) ≡ true → HasObject later k
    by true at some = keeps k (objects k at)
    by false at some =
        has k (ap (λ (b : Bool). b || (not is_broken && list_any (is_ranged k) line)) (sym at) ∙ some)
