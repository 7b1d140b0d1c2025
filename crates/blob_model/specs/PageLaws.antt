-- What holds of page files in all legal transcripts, and of places and changes in all histories. Own.
use Rattle.std.specs.Prelude.{◌≡◌, ◌≤◌, ◌<◌, ℕ, ◌+◌, ◌==◌, Bool, true, List, [], ◌∷◌, ◌++◌, map, length, if◌then◌else◌}
use Rattle.std.specs.List.{AllByRecursion, IsDistinct, list_any}
use Rattle.session_script.specs.declared.event.Event.{Event}
use Rattle.answer_text.specs.declared.answer.Answer.{Answer}
use Rattle.answer_text.specs.declared.answer.Answer.TheVariants as answers
use Rattle.answer_text.specs.declared.refusal.Refusal.{Refusal}
use Rattle.answer_text.specs.declared.group.Group.{Group}
use Rattle.blob_model.specs.Session.{Session, page_limit}
use Rattle.blob_model.specs.History.{History, start, heard, refused, said, history_from}
use Rattle.blob_model.specs.Builds.{Build}
use Rattle.blob_model.specs.Pieces.{Piece, pieces, length_in}
use Rattle.blob_model.specs.Pages.{Page, Place, in_page, numbers, pages, next_page, asked, place_in}
use Rattle.blob_model.specs.Changes.{Change, changes_after, numbered_bytes}
use Rattle.blob_model.specs.Legal.{IsLegalFrom}

-- numbers rise from `from` on, and stay below `below`
abbrev pub RiseWithin : ℕ → ℕ → List ℕ → Type 0
RiseWithin from below [] = Unit {0}
RiseWithin from below (number ∷ more) = (from ≤ number) × (number < below) × RiseWithin (number + 1) below more

-- the numbers of the page files written
abbrev pub page_numbers : History → List ℕ
page_numbers h = map (λ (file : Page). file.number) (pages h)

-- in a legal transcript the numbers of the page files rise, and lie below the next one
abbrev pub PagesRise : Type 0
PagesRise = (s : Session) (groups : List Group) → IsLegalFrom s start groups → RiseWithin 0 (next_page (history_from start groups))
    (page_numbers (history_from start groups))

-- in a legal transcript each page file that was asked to be removed was written, and was asked for once
abbrev pub is_among : List ℕ → ℕ → Bool
is_among list number = list_any (λ (each : ℕ). each == number) list

abbrev pub AskedWereWritten : Type 0
AskedWereWritten =
    (s : Session) (groups : List Group) → IsLegalFrom s start groups →
    AllByRecursion (λ (number : ℕ). is_among (page_numbers (history_from start groups)) number ≡ true) (asked (history_from start groups))
    × IsDistinct ◌==◌ (asked (history_from start groups))

-- an answer that writes a page file puts the pieces that it lists there, and no other piece moves
abbrev pub place_after : Answer → ℕ → Place → Place
place_after (answers.Stored file piece) number before = if piece.0 == number then in_page file.0 else before
place_after (answers.Paged job file list) number before = if is_among (numbers list) number then in_page file.0 else before
place_after (answers.Moved job file list) number before = if is_among (numbers list) number then in_page file.0 else before
place_after answer number before = before

-- the last page file that lists a piece has it
pub record PlacesMove : Type 0 where
  pub by_line : (h : History) (event : Event) (answer : Answer) (builds : List Build) (piece : Piece) → place_in (heard h event answer) builds piece
      ≡ place_after answer piece.number (place_in h builds piece)
  pub by_refusal : (h : History) (event : Event) (why : Refusal) (builds : List Build) (piece : Piece) → place_in (refused h event why) builds piece
      ≡ place_in h builds piece
  pub by_answer : (h : History) (answer : Answer) (builds : List Build) (piece : Piece) → place_in (said h answer) builds piece
      ≡ place_after answer piece.number (place_in h builds piece)

-- an answer adds its change to those before it, whatever they are
abbrev pub ChangesAdd : Type 0
ChangesAdd = (s : Session) (h : History) (answer : Answer) (before : List Change) → changes_after s h answer before ≡ before ++ changes_after s h answer []

-- in a legal transcript each piece that a page file lists has a value for each of its bytes
abbrev pub WrittenHaveBytes : Type 0
WrittenHaveBytes =
    (s : Session) (groups : List Group) → IsLegalFrom s start groups →
    AllByRecursion
    (λ (file : Page). AllByRecursion (λ (number : ℕ). length (numbered_bytes s (history_from start groups) number)
    ≡ length_in (pieces (page_limit s) (history_from start groups)) number) file.pieces)
    (pages (history_from start groups))
