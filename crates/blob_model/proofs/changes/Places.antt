-- The last page file that lists a piece has it, and each answer adds its change.
use Rattle.std.proofs.Common.{◌≡◌, ℕ, ◌==◌, Bool, true, false, ◌||◌, List, [], ◌∷◌, ◌++◌, refl, ap, sym, ◌∙◌, Option, Some, append-nil}
use Rattle.std.specs.Prelude.{cond, find, if◌then◌else◌}
use Rattle.std.proofs.lemmas.List.{reverse-append}
use Rattle.answer_text.specs.declared.answer.Answer.{Answer}
use Rattle.answer_text.specs.declared.answer.Answer.TheVariants as answers
use Rattle.blob_model.specs.Session.{Session}
use Rattle.blob_model.specs.History.{History}
use Rattle.blob_model.specs.Builds.{Build, build_in}
use Rattle.blob_model.specs.Pages.{Page, in_page, pages, pages_after, page_with, lists, numbers, place_by}
use Rattle.blob_model.specs.Changes.{Change, changes_after}
use Rattle.blob_model.specs.PageLaws.{place_after, PlacesMove}

-- one more page file is looked at first
pub page_with_more : (list : List Page) (file : Page) (number : ℕ) → page_with (list ++ file ∷ []) number ≡ cond (lists file number) (Some file)
    (page_with list number)
page_with_more list file number = ap (find (λ (page : Page). lists page number)) (reverse-append list (file ∷ []))

placed : (b : Bool) (file : Page) (found : Option Page) (build : Option Build) → place_by (cond b (Some file) found) build
    ≡ (if b then in_page file.number else place_by found build)
placed true file found build = refl
placed false file found build = refl

or_none : (b : Bool) → (b || false) ≡ b
or_none true = refl
or_none false = refl

place_step : (answer : Answer) (list : List Page) (number : ℕ) (build : Option Build) → place_by (page_with (pages_after answer list) number) build
    ≡ place_after answer number (place_by (page_with list number) build)
place_step (answers.Stored file piece) list number build =
    let page : Page = record { number = file.0; pieces = piece.0 ∷ [] } in
    ap (λ (found : Option Page). place_by found build) (page_with_more list page number) ∙ placed (lists page number) page (page_with list number) build
    ∙ ap (λ (b : Bool). if b then in_page file.0 else place_by (page_with list number) build) (or_none (piece.0 == number))
place_step (answers.Paged job file more) list number build =
    let page : Page = record { number = file.0; pieces = numbers more } in
    ap (λ (found : Option Page). place_by found build) (page_with_more list page number) ∙ placed (lists page number) page (page_with list number) build
place_step (answers.Moved job file more) list number build =
    let page : Page = record { number = file.0; pieces = numbers more } in
    ap (λ (found : Option Page). place_by found build) (page_with_more list page number) ∙ placed (lists page number) page (page_with list number) build
place_step answer list number build = refl

pub places_move : PlacesMove
places_move = record {
  by_line = λ h event answer builds piece. place_step answer (pages h) piece.number (build_in builds piece.blob);
  by_refusal = λ h event why builds piece. refl;
  by_answer = λ h answer builds piece. place_step answer (pages h) piece.number (build_in builds piece.blob);
}

pub changes_add : (s : Session) (h : History) (answer : Answer) (before : List Change) → changes_after s h answer before ≡ before ++ changes_after s h answer []
changes_add s h (answers.Stored file piece) before = refl
changes_add s h (answers.StoreFailed file) before = refl
changes_add s h (answers.Paged job file list) before = refl
changes_add s h (answers.PageFailed job file) before = refl
changes_add s h (answers.Moved job file list) before = refl
changes_add s h (answers.MoveFailed job file) before = refl
changes_add s h (answers.Removed file) before = refl
changes_add s h (answers.Left file) before = refl
changes_add s h answer before = sym (append-nil before)
