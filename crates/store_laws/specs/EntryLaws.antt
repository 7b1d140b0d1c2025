-- The entry and the row of a blob that comes: broken at its line, with all its own bytes at hand, waiting for room, or for its segments. Own.
use Rattle.std.specs.Prelude.{ℕ, ◌≡◌, ◌+◌, ◌<◌, true, false, List, [], ◌∷◌, flat_map, length, map, Option, None, Some, IsSomeAnd}
use Rattle.std.specs.List.{AllByRecursion, range_with_len}
use Rattle.blob_words.specs.declared.number.RendererId.{RendererId}
use Rattle.blob_words.specs.declared.plan.Plan.{Plan}
use Rattle.blob_words.specs.declared.plan.Plan.TheVariants as plans
use Rattle.blob_words.specs.declared.status.Status.{Status}
use Rattle.blob_words.specs.declared.status.Status.TheVariants as statuses
use Rattle.session_script.specs.declared.event.Part.{Part}
use Rattle.answer_text.specs.declared.group.Group.{Group}
use Rattle.item_shares.specs.declared.item.Item.{Item}
use Rattle.item_shares.specs.declared.shares.Share.{Share}
use Rattle.item_shares.specs.Shares.{item_at}
use Rattle.blob_items.specs.declared.view.View.{View}
use Rattle.blob_entries.specs.Statuses.{is_broken}
use Rattle.blob_entries.specs.declared.entry.Entry.{Entry}
use Rattle.blob_model.specs.Builds.{builds, built}
use Rattle.blob_model.specs.History.{History, history_from, start}
use Rattle.blob_model.specs.Legal.{IsLegalFrom}
use Rattle.blob_model.specs.Order.{named}
use Rattle.blob_model.specs.Parts.{own_lengths, parts_length, sources}
use Rattle.blob_model.specs.Pieces.{pieces}
use Rattle.blob_model.specs.Session.{Session, page_limit}
use Rattle.blob_model.specs.Standing.{ended, was_granted}
use Rattle.blob_model.specs.Transport.{arrivals, spans}
use Rattle.slice_rule.specs.Kind.{kept_type}
use Rattle.store_laws.specs.BuildLaws.{Adds, IsEntered}
use Rattle.store_laws.specs.Items.{item_length, piece_at, piece_of_item}
use Rattle.store_laws.specs.PartLaws.{AreRanges, IsAll, piece_lengths, recipe_of}
use Rattle.store_laws.specs.Rows.{Coming, Row, settled, waiting, writing}
use Rattle.store_laws.specs.Uses.{own_pieces}

-- in a legal transcript a blob that wasn't built hasn't ended
abbrev pub UnbuiltUnended : Type 0
UnbuiltUnended =
    (s : Session) (groups : List Group) (name : ℕ) → IsLegalFrom s start groups → named name (builds (page_limit s) (history_from start groups)) ≡ false
    → ended (history_from start groups) name ≡ None

-- a blob that broke at its line
abbrev pub broken_entry : RendererId → List ℕ → Status → Entry
broken_entry owner kind why =
    record { owner = owner; size = 0; kind = kept_type kind; status = why; roots = 1; recipe = []; own = None; views = []; mark = None }

-- a blob whose own bytes are views already, and which waits for its sources alone
abbrev pub ready_entry : RendererId → List ℕ → List Part → ℕ → ℕ → List View → List View → Entry
ready_entry owner kind parts page first views own = record {
  owner = owner;
  size = parts_length parts;
  kind = kept_type kind;
  status = statuses.PendingReferencedBlobs;
  roots = 1;
  recipe = recipe_of page first views parts;
  own = Some own;
  views = [];
  mark = None;
}

-- a blob whose own bytes are to come
abbrev pub pending_entry : RendererId → List ℕ → List Part → ℕ → ℕ → List View → Status → Entry
pending_entry owner kind parts page first views status = record {
  owner = owner;
  size = parts_length parts;
  kind = kept_type kind;
  status = status;
  roots = 1;
  recipe = recipe_of page first views parts;
  own = None;
  views = [];
  mark = None;
}

-- the row of a blob whose bytes come so, and of one for whose bytes nothing waits
abbrev pub coming_row : Option Plan → ℕ → ℕ → List Part → Coming → Row
coming_row plan weight first parts coming =
    record { plan = plan; weight = weight; first = first; lengths = own_lengths parts; coming = coming }

abbrev pub settled_row : Option Plan → ℕ → ℕ → List Part → Row
settled_row plan weight first parts = coming_row plan weight first parts settled

-- the plans of blobs that need no segment
abbrev pub IsReady : Plan → Type 0
IsReady plans.None = Unit {0}
IsReady plans.Inline = Unit {0}
IsReady plan = ⊥

-- the slots hold the pieces of these lengths, numbered from `number`, and these are the views of all their bytes
abbrev pub AreBrought : List (Option Share) → ℕ → List ℕ → List View → Type 0
AreBrought shares number [] [] = Unit {0}
AreBrought shares number [] (view ∷ own) = ⊥
AreBrought shares number (len ∷ lengths) [] = ⊥
AreBrought shares number (len ∷ lengths) (view ∷ own) =
    IsAll len view × IsSomeAnd (item_at shares view.slot) (λ (item : Item). (piece_of_item item ≡ Some number) × (item_length item ≡ len))
    × AreBrought shares (number + 1) lengths own

-- the lengths of the own pieces of parts
abbrev pub all_lengths : ℕ → List Part → List ℕ
all_lengths page parts = flat_map (piece_lengths page) (own_lengths parts)

-- such an entry and row stand for the new blob
pub record NewEntries : Type 0 where
  pub broken : (s : Session) (h later : History) (owner : RendererId) (name : ℕ) (kind : List ℕ) (parts : List Part) (why : Status) (now : List (Option Share))
      → Adds s h later (built (page_limit s) (builds (page_limit s) h) owner.0 name kind parts None) → ended later name ≡ Some why → is_broken why ≡ true
      → IsEntered s later (built (page_limit s) (builds (page_limit s) h) owner.0 name kind parts None) now (broken_entry owner kind why)
      (settled_row None 0 (length (pieces (page_limit s) h)) parts)
  pub ready : (s : Session) (h later : History) (owner : RendererId) (name : ℕ) (kind : List ℕ) (parts : List Part) (plan : Plan) (now : List (Option Share))
      (views own : List View) → 0 < (page_limit s)
      → Adds s h later (built (page_limit s) (builds (page_limit s) h) owner.0 name kind parts (Some plan)) → ended later name ≡ None → IsReady plan
      → AllByRecursion (λ (source : ℕ). named source (builds (page_limit s) h) ≡ true) (sources parts) → AreRanges now views parts
      → AreBrought now (length (pieces (page_limit s) h)) (all_lengths (page_limit s) parts) own
      → IsEntered s later (built (page_limit s) (builds (page_limit s) h) owner.0 name kind parts (Some plan)) now
      (ready_entry owner kind parts (page_limit s) (length (pieces (page_limit s) h)) views own)
      (settled_row (Some plan) (built (page_limit s) (builds (page_limit s) h) owner.0 name kind parts (Some plan)).weight (length (pieces (page_limit s) h))
      parts)
  pub waits : (s : Session) (h later : History) (owner : RendererId) (name : ℕ) (kind : List ℕ) (parts : List Part) (n : ℕ) (now : List (Option Share))
      (views : List View) → 0 < (page_limit s)
      → Adds s h later (built (page_limit s) (builds (page_limit s) h) owner.0 name kind parts (Some (plans.Shared n))) → ended later name ≡ None
      → was_granted later name ≡ false → AllByRecursion (λ (source : ℕ). named source (builds (page_limit s) h) ≡ true) (sources parts)
      → AreRanges now views parts
      → IsEntered s later (built (page_limit s) (builds (page_limit s) h) owner.0 name kind parts (Some (plans.Shared n))) now
      (pending_entry owner kind parts (page_limit s) (length (pieces (page_limit s) h)) views statuses.PendingQuota)
      (coming_row (Some (plans.Shared n)) (built (page_limit s) (builds (page_limit s) h) owner.0 name kind parts (Some (plans.Shared n))).weight
      (length (pieces (page_limit s) h)) parts waiting)
  pub writes : (s : Session) (h later : History) (owner : RendererId) (name : ℕ) (kind : List ℕ) (parts : List Part) (n : ℕ) (now : List (Option Share))
      (views : List View) (slots : List ℕ) → 0 < (page_limit s)
      → Adds s h later (built (page_limit s) (builds (page_limit s) h) owner.0 name kind parts (Some (plans.File n))) → ended later name ≡ None
      → arrivals later name ≡ [] → AllByRecursion (λ (source : ℕ). named source (builds (page_limit s) h) ≡ true) (sources parts) → AreRanges now views parts
      → 0 < length (spans s.limits (built (page_limit s) (builds (page_limit s) h) owner.0 name kind parts (Some (plans.File n))))
      → map (piece_at now) slots ≡ map (λ (number : ℕ). Some number) (own_pieces (page_limit s) later name)
      → IsEntered s later (built (page_limit s) (builds (page_limit s) h) owner.0 name kind parts (Some (plans.File n))) now
      (pending_entry owner kind parts (page_limit s) (length (pieces (page_limit s) h)) views statuses.PendingTransport)
      (coming_row (Some (plans.File n)) (built (page_limit s) (builds (page_limit s) h) owner.0 name kind parts (Some (plans.File n))).weight
      (length (pieces (page_limit s) h)) parts
      (writing slots (map (λ (segment : ℕ). false)
      (range_with_len 0 (length (spans s.limits (built (page_limit s) (builds (page_limit s) h) owner.0 name kind parts (Some (plans.File n)))))))))
