-- Where a piece is that no page file lists.
use Rattle.std.proofs.Common.{◌≡◌, ℕ, Bool, true, false, not, Option, Some, None, refl}
use Rattle.blob_words.specs.declared.plan.Plan.{Plan}
use Rattle.blob_words.specs.declared.plan.Plan.TheVariants as plans
use Rattle.blob_model.specs.Builds.{Build}
use Rattle.blob_model.specs.Pages.{planned_place, unlisted_place, is_memory, is_reserved, is_page}

planned_memory : (plan : Option Plan) → is_memory (planned_place plan) ≡ not (is_reserved (planned_place plan))
planned_memory (Some (plans.File n)) = refl
planned_memory plan = refl

pub unlisted_memory : (build : Option Build) → is_memory (unlisted_place build) ≡ not (is_reserved (unlisted_place build))
unlisted_memory None = refl
unlisted_memory (Some build) = planned_memory build.plan

planned_page : (number : ℕ) (plan : Option Plan) → is_page number (planned_place plan) ≡ false
planned_page number (Some (plans.File n)) = refl
planned_page number plan = refl

pub unlisted_page : (number : ℕ) (build : Option Build) → is_page number (unlisted_place build) ≡ false
unlisted_page number None = refl
unlisted_page number (Some build) = planned_page number build.plan
