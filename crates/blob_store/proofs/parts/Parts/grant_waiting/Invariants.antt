use Rattle.std.proofs.Common.{◌≡◌, length, List, Option}
use Rattle.data_handles.specs.Table.{Table}
use Rattle.page_disk.specs.declared.change.Change.{Change}
use Rattle.store_laws.specs.LateLaws.{IsSwept}
use Rattle.blob_store.specs.Says.{scene}
use Rattle.blob_store.specs.Seen.{parts_of}
use Rattle.blob_store.specs.Whole.{Whole}
use Rattle.blob_store.proofs.SeenGranted.{GrantsSome}
use Rattle.blob_store.proofs.parts.Parts.grant_waiting.Given as goal

abbrev pub invariant-loop-name : goal.invariant-loop-name
invariant-loop-name l = record {
  whole : Whole l.self;
  swept : IsSwept (parts_of l.self);
  items : l.self.shares ≡ l.fn.self.shares;
  pages : l.self.pages ≡ l.fn.self.pages;
  some : (told : Option (List Change)) (table : Table)
      → GrantsSome l.fn.answers l.answers (scene l.fn.self told table) (scene l.self told table);
}

abbrev pub decreases-loop-name : goal.decreases-loop-name
decreases-loop-name l = length l.self.quota.waiting
