-- What a store's parts are once items went. Own.
use Rattle.std.specs.Prelude.{◌≡◌, ◌+◌, ◌-◌, List, fold, sum_by}
use Rattle.item_shares.specs.declared.item.Item.{Item}
use Rattle.store_laws.specs.Weights.{memory_weight, piece_weight}
use Rattle.blob_store.specs.declared.parts.Parts.{Parts}
use Rattle.store_laws.specs.LetGo.{left_by, let_go_by}

-- the bytes of these items are charged no more, and their pieces are in no page file, no job and no order of use; but for the registry and the
-- items nothing else changes
pub record AreGone (freed : List Item) (old new : Parts) : Type 0 where
  pub quota : new.quota ≡ record old.quota { used = old.quota.used - sum_by memory_weight freed }
  pub pages : new.pages ≡ fold let_go_by old.pages freed
  pub recent : new.recent ≡ fold left_by old.recent freed
  pub held : new.held + sum_by piece_weight freed ≡ old.held
  pub same : new ≡ record old {
    registry = new.registry;
    shares = new.shares;
    quota = new.quota;
    pages = new.pages;
    recent = new.recent;
    held = new.held;
  }
