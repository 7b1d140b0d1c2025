-- The entry of a new blob, and how its bytes come, by its plan. Own.
use Rattle.std.specs.Prelude.{ℕ, false, List, [], length, replicate, Option, None, Some}
use Rattle.blob_words.specs.declared.number.RendererId.{RendererId}
use Rattle.blob_words.specs.declared.plan.Plan.{Plan}
use Rattle.blob_words.specs.declared.plan.Plan.TheVariants as plans
use Rattle.blob_words.specs.declared.status.Status.{Status}
use Rattle.blob_words.specs.declared.status.Status.TheVariants as statuses
use Rattle.session_script.specs.declared.event.Part.{Part}
use Rattle.blob_items.specs.declared.view.View.{View}
use Rattle.blob_entries.specs.declared.entry.Entry.{Entry}
use Rattle.blob_model.specs.Parts.{parts_length}
use Rattle.slice_rule.specs.Kind.{kept_type}
use Rattle.store_laws.specs.EntryLaws.{all_lengths}
use Rattle.store_laws.specs.PartLaws.{recipe_of}
use Rattle.store_laws.specs.Rows.{Coming, settled, waiting, writing}

-- what it waits for
abbrev pub status_by : Plan → Status
status_by (plans.Shared n) = statuses.PendingQuota
status_by (plans.File n) = statuses.PendingTransport
status_by plan = statuses.PendingReferencedBlobs

-- the views of the own pieces, where the line has their bytes
abbrev pub own_by : Plan → List View → Option (List View)
own_by (plans.Shared n) own = None
own_by (plans.File n) own = None
own_by plan own = Some own

-- the lengths of the pieces that have items
abbrev pub lengths_by : ℕ → Plan → List Part → List ℕ
lengths_by page (plans.Shared n) parts = []
lengths_by page plan parts = all_lengths page parts

-- how its bytes come, where its pieces have these slots: no segment of it came
abbrev pub coming_with : Plan → List ℕ → Coming
coming_with (plans.Shared n) slots = waiting
coming_with (plans.File n) slots = writing slots (replicate (length slots) false)
coming_with plan slots = settled

abbrev pub planned_entry : RendererId → List ℕ → Plan → List Part → ℕ → ℕ → List View → List View → Entry
planned_entry owner kind plan parts page first views own = record {
  owner = owner;
  size = parts_length parts;
  kind = kept_type kind;
  status = status_by plan;
  roots = 1;
  recipe = recipe_of page first views parts;
  own = own_by plan own;
  views = [];
  mark = None;
}
