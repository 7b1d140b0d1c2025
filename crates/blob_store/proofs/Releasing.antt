-- Objects of ranges that go, one after the other.
use Rattle.std.proofs.Common.{◌≡◌, ℕ, ◌+◌, ◌<◌, List, ◌∷◌, length, drop, get_or, ap, subst, sym, ◌∙◌}
use Rattle.std.proofs.lemmas.List.{drop_more}
use Rattle.item_shares.specs.declared.item.Item.{Item}
use Rattle.data_handles.specs.Table.{Table}
use Rattle.store_laws.specs.Releasing.{released_by, CanRelease, AreReleasable}

-- the next item can be released, and those behind it after it
pub releasable_at : (table : Table) (items : List Item) (i : ℕ) (item : Item) → AreReleasable table (drop i items) → i < length items
    → item ≡ get_or items i item
    → CanRelease table item × AreReleasable (released_by table item) (drop (i + 1) items)
releasable_at table items i item all less is =
    subst (λ (list : List Item). AreReleasable table list) (drop_more items i item less ∙ ap (λ (one : Item). one ∷ drop (i + 1) items) (sym is)) all
