-- What a grant leaves of the parts: the segments of the blob may come, and its pieces count as held. Own.
use Rattle.std.specs.Prelude.{ℕ, ◌≡◌, ◌+◌, ◌≤◌, List, set, slice_get, sum, Some, IsSomeAnd}
use Rattle.std.specs.Int.{div_ceil}
use Rattle.std.specs.Option.{option_map_or}
use Rattle.blob_words.specs.declared.bounds.TheConstants.{MOST_PIECES}
use Rattle.blob_words.specs.declared.limits.Limits.{Limits}
use Rattle.blob_words.specs.declared.plan.Plan.TheVariants as plans
use Rattle.blob_words.specs.declared.status.Status.TheVariants.{PendingQuota, PendingTransport}
use Rattle.blob_entries.specs.Book.{changed, entry_of}
use Rattle.blob_entries.specs.Changes.{with_status}
use Rattle.blob_entries.specs.Names.{number_of}
use Rattle.blob_entries.specs.declared.entry.Entry.{Entry}
use Rattle.segment_assembly.specs.Assembly.{Sending as Segments}
use Rattle.store_laws.specs.Granting.{unsent}
use Rattle.transport_plan.specs.Spans.{piece_count}
use Rattle.blob_store.specs.declared.parts.Parts.{Parts}
use Rattle.blob_store.specs.declared.row.Row.{Row}
use Rattle.blob_store.specs.declared.row.Sending.TheVariants.{Gathering}

-- a row whose segments are gathered, and rows of which that of a number is, if there is one
abbrev pub with_segments : Segments → Row → Row
with_segments segments row = record row { sending = Gathering segments }

abbrev pub gathering_at : ℕ → Segments → List Row → List Row
gathering_at number segments rows = option_map_or (λ (row : Row). set rows number (with_segments segments row)) (slice_get rows number) rows

-- the plan of a row is of as many segments as its bytes make
abbrev pub IsPlanned : Limits → Row → Type 0
IsPlanned limits row = row.plan ≡ Some (plans.Shared (div_ceil (sum row.lengths) limits.segment))

-- segments of a blob may come: its plan has them, and there is room for its bytes and its pieces
pub record CanGather (parts : Parts) (row : Row) : Type 0 where
  pub planned : IsPlanned parts.limits row
  pub small : sum row.lengths ≤ parts.limits.memory
  pub many : parts.held + piece_count parts.limits.page row.lengths ≤ MOST_PIECES

-- so of the blob of this name, which waits
pub record CanOpen (name : ℕ) (parts : Parts) : Type 0 where
  pub row : IsSomeAnd (number_of name parts.registry.names) (λ (number : ℕ). IsSomeAnd (slice_get parts.rows number) (CanGather parts))
  pub entry : IsSomeAnd (entry_of parts.registry name) (λ (entry : Entry). entry.status ≡ PendingQuota)

-- the parts once they may come: its entry waits for them
abbrev pub opened : ℕ → ℕ → Row → Parts → Parts
opened name number row parts = record parts {
  registry = changed parts.registry name (with_status PendingTransport);
  rows = set parts.rows number (with_segments (unsent parts.limits row.lengths) row);
  held = parts.held + piece_count parts.limits.page row.lengths;
}

pub record Opens (name : ℕ) (old new : Parts) : Type 0 where
  pub number : ℕ
  pub row : Row
  pub numbered : number_of name old.registry.names ≡ Some number
  pub at : slice_get old.rows number ≡ Some row
  pub is : new ≡ opened name number row old
