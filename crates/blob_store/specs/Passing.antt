-- What becomes of the parts when a pass ends blobs: list 2 of settling. Own.
use Rattle.std.specs.Prelude.{ℕ, ◌≡◌, ◌<◌, ◌≤◌, sum_by, List, [], length, Option, None, flat_map, filter_map, fold, slice_get, slice_index, if◌then◌else◌}
use Rattle.std.specs.List.{range_with_len, AllByRecursion}
use Rattle.std.specs.Option.{option_map_or}
use Rattle.blob_words.specs.declared.bounds.TheConstants.{MOST_PIECES}
use Rattle.item_shares.specs.Shares.{item_at}
use Rattle.item_shares.specs.declared.item.Item.{Item}
use Rattle.item_shares.specs.declared.shares.Share.{Share}
use Rattle.blob_entries.specs.Counted.{SameItems}
use Rattle.blob_entries.specs.Counts.{count_at}
use Rattle.blob_entries.specs.Names.{number_of}
use Rattle.blob_entries.specs.Statuses.{is_done}
use Rattle.blob_registry.specs.Passes.{Finishes}
use Rattle.blob_registry.specs.declared.ended_blob.EndedBlob.{EndedBlob}
use Rattle.quota_queue.specs.Queue.{without}
use Rattle.store_laws.specs.LetGo.{left_by, let_go_by, AreFreed}
use Rattle.store_laws.specs.Pageable.{pageable_at}
use Rattle.store_laws.specs.Passing.{ended_names, entered}
use Rattle.store_laws.specs.Weights.{range_weight}
use Rattle.blob_store.specs.Dropping.{settled_by}
use Rattle.blob_store.specs.Rows.{pieces_of_row, AreInTurn}
use Rattle.blob_store.specs.Stored.{IsInMemory}
use Rattle.blob_store.specs.declared.parts.Parts.{Parts}
use Rattle.blob_store.specs.declared.row.Row.{Row}

-- the pieces of the blob of a build number, and of a name
abbrev pub row_pieces : ℕ → Row → List ℕ
row_pieces page row = range_with_len row.first (pieces_of_row page row)

abbrev pub pieces_at : Parts → ℕ → List ℕ
pieces_at parts number = option_map_or (row_pieces parts.limits.page) (slice_get parts.rows number) []

abbrev pub pieces_under : Parts → ℕ → List ℕ
pieces_under parts name = option_map_or (pieces_at parts) (number_of name parts.registry.names) []

-- those of a blob that got done
abbrev pub pieces_done : Parts → EndedBlob → List ℕ
pieces_done parts end = if is_done end.status then pieces_under parts end.name else []

-- a piece with its length, where the item in its home has it in memory
abbrev pub in_memory : Parts → ℕ → Option (ℕ × ℕ)
in_memory parts number = pageable_at parts.shares None (slice_index parts.homes) number

-- parts whose order of use has these pieces as the latest, as far as they are in memory
abbrev pub with_used : List ℕ → Parts → Parts
with_used numbers parts = record parts { recent = fold entered parts.recent (filter_map (in_memory parts) numbers) }

-- the pieces in the order of use are in memory, and pieces are numbered in turn, blob by blob, and not too many
pub record CanEnter (parts : Parts) : Type 0 where
  pub order : AllByRecursion (IsInMemory parts.shares parts.homes) parts.recent
  pub in_turn : AreInTurn parts.limits.page 0 parts.rows (length parts.homes)
  pub most : length parts.homes ≤ MOST_PIECES
  pub each_row : length parts.rows ≡ length parts.registry.names

-- the blobs of this list ended as a pass says, and no item went with that; then the pieces of those that got done are the latest in the order of use,
-- the rows of all of them are settled and the queue is without them, and pieces on their way went
pub record EntriesEnd (list : List EndedBlob) (old new : Parts) : Type 0 where
  pub shares : List (Option Share)
  pub finishes : Finishes old.registry new.registry list
  pub same : SameItems old.registry.entries new.registry.entries old.shares shares
  pub freed : List Item
  pub no_range : (k : ℕ) → sum_by (range_weight k) freed ≡ 0
  pub freed_so : AreFreed shares new.shares freed
  pub kept : (slot : ℕ) → 0 < count_at new.shares slot → item_at new.shares slot ≡ item_at shares slot
  pub pages : new.pages ≡ fold let_go_by old.pages freed
  pub recent : new.recent ≡ fold left_by (with_used (flat_map (pieces_done old) list) (record old { shares = shares })).recent freed
  pub rest : new ≡ record old {
    registry = new.registry;
    shares = new.shares;
    rows = fold (settled_by old.registry.names) old.rows (ended_names list);
    quota = record old.quota {
      used = new.quota.used;
      waiting = fold (λ (queue : List (ℕ × ℕ)) (name : ℕ). without name queue) old.quota.waiting (ended_names list);
    };
    pages = new.pages;
    recent = new.recent;
    held = new.held;
  }
