-- What the parts of a store tell of a build line is what the history says. Own.
use Rattle.std.specs.Prelude.{ℕ, ◌≡◌, ◌<◌, List, None, Option, IsSome, ℤ}
use Rattle.blob_words.specs.declared.number.RendererId.{RendererId}
use Rattle.session_script.specs.declared.event.Event.TheVariants as events
use Rattle.session_script.specs.declared.event.Part.{Part}
use Rattle.blob_entries.specs.Book.{entry_of}
use Rattle.data_handles.specs.Table.{Table as HandleTable}
use Rattle.page_disk.specs.declared.change.Change.{Change}
use Rattle.renderer_table.specs.Table.{count_of}
use Rattle.blob_model.specs.Choice.{first_that}
use Rattle.blob_model.specs.Construct.{line_status, plan_for}
use Rattle.blob_model.specs.History.{History}
use Rattle.blob_model.specs.Parts.{claims}
use Rattle.blob_model.specs.Refusals.{claimed, refusal, slot_refusals}
use Rattle.blob_model.specs.Session.{Session}
use Rattle.store_laws.specs.Deciding.{build_refusal_in, line_status_in, plan_in, slice_line, slice_refusal_in}
use Rattle.store_laws.specs.Stands.{Parts, Stands}

-- a blob on which a renderer has a handle stands
abbrev pub AreHeldThere : Parts → Type 0
AreHeldThere parts = (renderer name : ℕ) → 0 < count_of renderer name parts.renderers → IsSome (entry_of parts.book name)

-- what follows where the parts stand for a history
abbrev pub WhereDecided : (Session → History → Parts → HandleTable → Type 0) → Type 0
WhereDecided Follows =
    (s : Session) (h : History) (parts : Parts) (told : Option (List Change)) (table : HandleTable) → AreHeldThere parts → Stands s h parts told table
    → Follows s h parts table

-- the plan is the history's, and so are the status, where no refusal names a slot, and the refusals
pub record BuildsDecided : Type 0 where
  pub plan : WhereDecided (λ s h parts table. (line : List Part) → plan_in parts line ≡ plan_for s h line)
  pub status : WhereDecided (λ s h parts table. (renderer name : ℕ) (line : List Part) → first_that (slot_refusals s (claimed s h) (claims line)) ≡ None
      → line_status_in parts table renderer name line ≡ line_status s h renderer name line)
  pub build : WhereDecided (λ s h parts table. (renderer : RendererId) (name : ℕ) (kind : List ℕ) (line : List Part)
      → build_refusal_in parts table renderer name line ≡ refusal s h (events.Build renderer name kind line))
  pub slice : WhereDecided (λ s h parts table. (renderer : RendererId) (name source : ℕ) (from to : Option ℤ) (kind : List ℕ)
      → slice_refusal_in parts table renderer name source (slice_line parts.book source from to)
      ≡ refusal s h (events.Slice renderer name source from to kind))
