-- When a blob may come, and how it comes: broken, or with a plan. Own.
use Rattle.std.specs.Prelude.{ℕ, ◌≡◌, List, fold, is_some, Option, None, Some, IsSome}
use Rattle.blob_words.specs.declared.number.RendererId.{RendererId}
use Rattle.blob_words.specs.declared.status.Status.{Status}
use Rattle.session_script.specs.declared.event.Part.{Part}
use Rattle.answer_text.specs.declared.answer.Answer.{Answer}
use Rattle.answer_text.specs.declared.answer.Answer.TheVariants as answers
use Rattle.blob_entries.specs.Names.{number_of}
use Rattle.data_handles.specs.Table.{Table}
use Rattle.renderer_table.specs.Table.{living_of}
use Rattle.blob_model.specs.Choice.{first_that}
use Rattle.blob_model.specs.Parts.{claims}
use Rattle.store_laws.specs.Deciding.{line_status_in, many_in, plan_in, slot_tests_in, stands_in}
use Rattle.blob_store.specs.Adding.{Breaks, CanAdd, CanBreak, IsAdded}
use Rattle.store_laws.specs.Claiming.{claimed_by}
use Rattle.blob_store.specs.Seen.{parts_of}
use Rattle.blob_store.specs.declared.parts.Parts.{Parts}

-- its builder lives, its name is new, its data handles are free, and it isn't too much
pub record MayCome (renderer : RendererId) (name : ℕ) (line : List Part) (parts : Parts) (table : Table) : Type 0 where
  pub alive : IsSome (living_of renderer.0 parts.renderers)
  pub fresh : number_of name parts.registry.names ≡ None
  pub slots : first_that (slot_tests_in table (claims line)) ≡ None
  pub little : first_that (many_in (parts_of parts) (stands_in (parts_of parts) table renderer name line) line) ≡ None

-- by the status with which it breaks at its line, where it does
abbrev pub ComesBy : RendererId → ℕ → List ℕ → List Part → Parts → Answer → Parts → Option Status → Type 0
ComesBy renderer name kind line old answer now None =
    (answer ≡ answers.Planned (plan_in (parts_of old) line)) × CanAdd renderer name (plan_in (parts_of old) line) line old
    × IsAdded renderer name kind (plan_in (parts_of old) line) line old now
ComesBy renderer name kind line old answer now (Some why) = (answer ≡ answers.Broken name why) × CanBreak renderer name why old
    × Breaks renderer name kind why line old now

-- it comes so, and its data handles are claimed
pub record Admits (renderer : RendererId) (name : ℕ) (kind : List ℕ) (line : List Part) (old : Parts) (table : Table) (answer : Answer) (now : Parts)
    (later : Table) : Type 0 where
  pub comes : ComesBy renderer name kind line old answer now (line_status_in (parts_of old) table renderer.0 name line)
  pub handles : later ≡ fold (claimed_by (is_some (line_status_in (parts_of old) table renderer.0 name line))) table line
