-- The answer of a line that builds, read off the parts of a store.
use Rattle.std.proofs.Common.{◌≡◌, ℕ, Bool, false, List, [], ap, sym, ◌∙◌, Option, Some, None}
use Rattle.blob_words.specs.declared.number.RendererId.{RendererId}
use Rattle.blob_words.specs.declared.plan.Plan.{Plan}
use Rattle.blob_words.specs.declared.status.Status.{Status}
use Rattle.session_script.specs.declared.event.Event.TheVariants as events
use Rattle.session_script.specs.declared.event.Part.{Part}
use Rattle.answer_text.specs.declared.answer.Answer.TheVariants as answers
use Rattle.answer_text.specs.declared.refusal.Refusal.{Refusal}
use Rattle.data_handles.specs.Table.{Table as HandleTable}
use Rattle.page_disk.specs.declared.change.Change.{Change}
use Rattle.blob_model.specs.Choice.{first_that}
use Rattle.blob_model.specs.Construct.{build_answer, build_answer_by, line_status, plan_for}
use Rattle.blob_model.specs.History.{History}
use Rattle.blob_model.specs.Parts.{claims}
use Rattle.blob_model.specs.Refusals.{claimed, refusal, slot_refusals}
use Rattle.blob_model.specs.Session.{Session}
use Rattle.blob_model.proofs.kept.NewBlobs.{tests_fail}
use Rattle.blob_model.proofs.settled.Endings.{none_that}
use Rattle.store_laws.specs.Deciding.{line_status_in, plan_in}
use Rattle.store_laws.specs.DecidingLaws.{AreHeldThere}
use Rattle.store_laws.specs.Stands.{Parts, Stands}
use Rattle.store_laws.proofs.Decided.{builds_decided}
use Rattle.store_laws.proofs.ViewHas.{append_first}

-- no refusal names a slot of a line that is accepted, or of one that claims none
pub build_silent : (s : Session) (h : History) (renderer : RendererId) (name : ℕ) (kind : List ℕ) (line : List Part)
    → refusal s h (events.Build renderer name kind line) ≡ None → first_that (slot_refusals s (claimed s h) (claims line)) ≡ None
build_silent s h renderer name kind line passes =
    none_that (slot_refusals s (claimed s h) (claims line))
    (append_first (λ (case : Bool × Refusal). case.0 ≡ false) (slot_refusals s (claimed s h) (claims line)) _
    (tests_fail s h (events.Build renderer name kind line) passes).1.1)

pub unclaiming_silent : (s : Session) (h : History) (line : List Part) → claims line ≡ []
    → first_that (slot_refusals s (claimed s h) (claims line)) ≡ None
unclaiming_silent s h line none = ap (λ (slots : List ℕ). first_that (slot_refusals s (claimed s h) slots)) none

module _ (s : Session) (h : History) (parts : Parts) (told : Option (List Change)) (table : HandleTable) (there : AreHeldThere parts)
    (stands : Stands s h parts told table) (renderer : RendererId) (name : ℕ) (line : List Part)
    (silent : first_that (slot_refusals s (claimed s h) (claims line)) ≡ None) where
  pub status_read : (status : Option Status) → line_status_in parts table renderer.0 name line ≡ status → line_status s h renderer.0 name line ≡ status
  status_read status at = sym (builds_decided.status s h parts told table there stands renderer.0 name line silent) ∙ at

  pub plan_read : plan_for s h line ≡ plan_in parts line
  plan_read = sym (builds_decided.plan s h parts told table there stands line)

  pub broken_read : (why : Status) → line_status_in parts table renderer.0 name line ≡ Some why
      → build_answer s h renderer.0 name line ≡ answers.Broken name why
  broken_read why at = ap (build_answer_by s h name line) (status_read (Some why) at)

  pub planned_read : line_status_in parts table renderer.0 name line ≡ None → build_answer s h renderer.0 name line ≡ answers.Planned (plan_in parts line)
  planned_read at = ap (build_answer_by s h name line) (status_read None at) ∙ ap (λ (plan : Plan). answers.Planned plan) plan_read
