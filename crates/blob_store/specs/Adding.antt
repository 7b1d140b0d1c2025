-- When a blob with a plan can come, and how it comes. Own.
use Rattle.std.specs.Prelude.{ℕ, ◌≡◌, ◌+◌, ◌-◌, ◌≤◌, ◌^◌, true, List, [], ◌++◌, length, map, sum_by, None, IsSome, IsSomeAnd}
use Rattle.std.specs.List.{AllByRecursion}
use Rattle.blob_words.specs.declared.bounds.TheConstants.{MOST_PIECES, MOST_WEIGHT}
use Rattle.blob_words.specs.declared.number.RendererId.{RendererId}
use Rattle.blob_words.specs.declared.plan.Plan.{Plan}
use Rattle.blob_words.specs.declared.status.Status.{Status}
use Rattle.session_script.specs.declared.event.Part.{Part}
use Rattle.session_script.specs.declared.event.Part.TheVariants.{BlobRange, HandleRange}
use Rattle.item_shares.specs.Weights.{weights}
use Rattle.blob_entries.specs.Book.{Book, entry_of}
use Rattle.blob_entries.specs.Names.{number_of}
use Rattle.blob_entries.specs.Statuses.{is_broken}
use Rattle.blob_entries.specs.declared.entry.Entry.{Entry}
use Rattle.blob_model.specs.Parts.{own_lengths, parts_length}
use Rattle.renderer_table.specs.Table.{living_of}
use Rattle.transport_plan.specs.Plan.{FitsPlan}
use Rattle.transport_plan.specs.Spans.{piece_count}
use Rattle.store_laws.specs.Deciding.{input_in, line_weight_in}
use Rattle.store_laws.specs.Weights.{range_weight}
use Rattle.blob_store.specs.Entering.{arrival_by, arrived, broken_arrival, Enters}
use Rattle.store_laws.specs.NewItems.{own_items}
use Rattle.blob_store.specs.Laying.{first_piece, homes_by, slot_of, HasRoom, Lays}
use Rattle.blob_store.specs.NewBlobs.{NewBlob}
use Rattle.store_laws.specs.NewItems.{range_items}
use Rattle.blob_store.specs.Seen.{parts_of}
use Rattle.blob_store.specs.declared.building.entering.Arrival.{Arrival}
use Rattle.blob_store.specs.declared.building.laying.Laid.{Laid}
use Rattle.blob_store.specs.declared.parts.Parts.{Parts}

-- the range of a data handle ends inside a 64-bit number
abbrev pub EndsWithin : Part → Type 0
EndsWithin (HandleRange k off len) = off + len ≤ 2 ^ 64 - 1
EndsWithin part = Unit {0}

-- so it does, and the blob of a part stands and has the range
abbrev pub IsThere : Book → Part → Type 0
IsThere book (BlobRange b off len) = IsSomeAnd (entry_of book b) (λ (entry : Entry). off + len ≤ entry.size)
IsThere book part = EndsWithin part

-- its builder lives, its name is new, its parts are there, its own bytes have room, no two items are of one data handle, and it is within the limits
pub record CanAdd (renderer : RendererId) (name : ℕ) (plan : Plan) (line : List Part) (parts : Parts) : Type 0 where
  pub alive : IsSome (living_of renderer.0 parts.renderers)
  pub fresh : number_of name parts.registry.names ≡ None
  pub there : AllByRecursion (IsThere parts.registry) line
  pub room : HasRoom plan line parts
  pub planned : FitsPlan (input_in (parts_of parts) line) plan
  pub handles : (k : ℕ) → weights (range_weight k) parts.shares + sum_by (range_weight k) (range_items line) ≤ 1
  pub fits : parts_length line ≤ 2 ^ 62
  pub pieces : length parts.homes + piece_count parts.limits.page (own_lengths line) ≤ MOST_PIECES
  pub light : parts.weight + line_weight_in (parts_of parts) line ≤ MOST_WEIGHT

-- what arrives, and the blob that comes so
abbrev pub arrival_of : Plan → List Part → Parts → Laid → Arrival
arrival_of plan line parts laid = arrival_by parts.limits.page plan (line_weight_in (parts_of parts) line) (first_piece parts) line laid

abbrev pub new_blob : RendererId → ℕ → List ℕ → Plan → List Part → Parts → Laid → NewBlob
new_blob renderer name kind plan line parts laid = record {
  name = name;
  entry = arrived renderer kind (arrival_of plan line parts laid);
  row = (arrival_of plan line parts laid).row;
  items = range_items line ++ own_items parts.limits.page (first_piece parts) plan line;
  views = laid.ranges ++ laid.pieces;
  homes = homes_by parts.limits.page plan line (map slot_of laid.pieces);
}

-- its items are laid down, and then it is entered
pub record IsAdded (renderer : RendererId) (name : ℕ) (kind : List ℕ) (plan : Plan) (line : List Part) (old now : Parts) : Type 0 where
  pub laid : Laid
  pub between : Parts
  pub lays : Lays name plan line old laid between
  pub enters : Enters renderer name (arrived renderer kind (arrival_of plan line old laid)) (arrival_of plan line old laid).row between now

-- ---- a blob that breaks at its line

pub record CanBreak (renderer : RendererId) (name : ℕ) (why : Status) (parts : Parts) : Type 0 where
  pub alive : IsSome (living_of renderer.0 parts.renderers)
  pub fresh : number_of name parts.registry.names ≡ None
  pub broken : is_broken why ≡ true

-- it is entered, and nothing is laid down
abbrev pub Breaks : RendererId → ℕ → List ℕ → Status → List Part → Parts → Parts → Type 0
Breaks renderer name kind why line old now =
    Enters renderer name (arrived renderer kind (broken_arrival why (first_piece old) line)) (broken_arrival why (first_piece old) line).row old now

abbrev pub broken_blob : RendererId → ℕ → List ℕ → Status → List Part → Parts → NewBlob
broken_blob renderer name kind why line parts = record {
  name = name;
  entry = arrived renderer kind (broken_arrival why (first_piece parts) line);
  row = (broken_arrival why (first_piece parts) line).row;
  items = [];
  views = [];
  homes = [];
}
