use Rattle.std.proofs.Common.{◌≡◌, ◌+◌, ◌-◌, List, take}
use Rattle.std.specs.Prelude.{fold, sum_by}
use Rattle.page_disk.specs.declared.change.Change.{Change}
use Rattle.page_files.specs.Files.{Agrees}
use Rattle.store_laws.specs.LetGo.{left_by, let_go_by}
use Rattle.store_laws.specs.Weights.{memory_weight, piece_weight, reserved_weight}
use Rattle.blob_store.proofs.freed.discharge.Given as goal

abbrev pub invariant-loop-item : goal.invariant-loop-item
invariant-loop-item l = record {
  used : l.quota ≡ record l.fn.quota { used = l.fn.quota.used - sum_by memory_weight (take l.item-index l.freed) };
  pages : l.pages ≡ fold let_go_by l.fn.pages (take l.item-index l.freed);
  reserved : l.pages.reserved + sum_by reserved_weight (take l.item-index l.freed) ≡ l.fn.pages.reserved;
  recent : l.recent ≡ fold left_by l.fn.recent (take l.item-index l.freed);
  held : l.held + sum_by piece_weight (take l.item-index l.freed) ≡ l.fn.held;
  agrees : (changes : List Change) → Agrees l.fn.pages.pages changes → Agrees l.pages.pages changes;
}
