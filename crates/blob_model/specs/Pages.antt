-- Page files, and where each piece is. Own.
use Rattle.std.specs.Prelude.{ℕ, ◌+◌, ◌==◌, Bool, true, false, List, [], ◌∷◌, ◌++◌, map, reverse, find, sum_by, take_while, not, Option, None, Some}
use Rattle.std.specs.List.{list_any}
use Rattle.blob_words.specs.declared.number.PieceNo.{PieceNo}
use Rattle.blob_words.specs.declared.plan.Plan.{Plan}
use Rattle.blob_words.specs.declared.plan.Plan.TheVariants as plans
use Rattle.answer_text.specs.declared.answer.Answer.{Answer}
use Rattle.answer_text.specs.declared.answer.Answer.TheVariants as answers
use Rattle.blob_model.specs.History.{History, start, heard, refused, said}
use Rattle.blob_model.specs.Builds.{Build, builds, build_in}
use Rattle.blob_model.specs.Pieces.{Piece, length_in}

-- a page file as it was written: its number, and the pieces one after the other
pub record Page : Type 0 where
  pub number : ℕ
  pub pieces : List ℕ

-- the numbers in a list of pieces
abbrev pub numbers : List PieceNo → List ℕ
numbers list = map (λ (piece : PieceNo). piece.0) list

-- `stored`, `paged` and `moved` write a page file
abbrev pub pages_after : Answer → List Page → List Page
pages_after (answers.Stored file piece) before = before ++ record { number = file.0; pieces = piece.0 ∷ [] } ∷ []
pages_after (answers.Paged job file list) before = before ++ record { number = file.0; pieces = numbers list } ∷ []
pages_after (answers.Moved job file list) before = before ++ record { number = file.0; pieces = numbers list } ∷ []
pages_after answer before = before

-- the page files written, removed ones among them, in the order of their numbers
abbrev pub pages : History → List Page
pages start = []
pages (heard h event answer) = pages_after answer (pages h)
pages (refused h event why) = pages h
pages (said h answer) = pages_after answer (pages h)

-- each write takes a page number, one that fails too
abbrev pub next_page_after : Answer → ℕ → ℕ
next_page_after (answers.Stored file piece) before = before + 1
next_page_after (answers.StoreFailed file) before = before + 1
next_page_after (answers.Paged job file list) before = before + 1
next_page_after (answers.PageFailed job file) before = before + 1
next_page_after (answers.Moved job file list) before = before + 1
next_page_after (answers.MoveFailed job file) before = before + 1
next_page_after answer before = before

abbrev pub next_page : History → ℕ
next_page start = 0
next_page (heard h event answer) = next_page_after answer (next_page h)
next_page (refused h event why) = next_page h
next_page (said h answer) = next_page_after answer (next_page h)

-- a page file is asked to be removed once, whether it then goes or is left
abbrev pub asked_after : Answer → List ℕ → List ℕ
asked_after (answers.Removed file) before = before ++ file.0 ∷ []
asked_after (answers.Left file) before = before ++ file.0 ∷ []
asked_after answer before = before

-- the page files that were asked to be removed
abbrev pub asked : History → List ℕ
asked start = []
asked (heard h event answer) = asked_after answer (asked h)
asked (refused h event why) = asked h
asked (said h answer) = asked_after answer (asked h)

-- whether the page file lists the piece
abbrev pub lists : Page → ℕ → Bool
lists page number = list_any (λ (listed : ℕ). listed == number) page.pieces

-- the last page file that lists the piece
abbrev pub page_with : List Page → ℕ → Option Page
page_with written number = find (λ (page : Page). lists page number) (reverse written)

-- where a piece is: in memory, reserved on the disk, or in a page file
pub data Place : Type 0 where
  in_memory : Place
  reserved : Place
  in_page : (page : ℕ) → Place

-- a piece that no page file lists is reserved where its plan is file, else in memory
abbrev pub planned_place : Option Plan → Place
planned_place (Some (plans.File n)) = reserved
planned_place plan = in_memory

abbrev pub unlisted_place : Option Build → Place
unlisted_place None = in_memory
unlisted_place (Some build) = planned_place build.plan

abbrev pub place_by : Option Page → Option Build → Place
place_by (Some page) build = in_page page.number
place_by None build = unlisted_place build

-- the place of a piece, where the blobs are these
abbrev pub place_in : History → List Build → Piece → Place
place_in h builds piece = place_by (page_with (pages h) piece.number) (build_in builds piece.blob)

abbrev pub place : ℕ → History → Piece → Place
place page h piece = place_in h (builds page h) piece

-- the offset of a piece in the page file that lists it: the lengths of those before it
abbrev pub offset : List Piece → Page → ℕ → ℕ
offset list page number = sum_by (length_in list) (take_while (λ (listed : ℕ). not (listed == number)) page.pieces)

-- the bytes of a page file
abbrev pub page_size : List Piece → Page → ℕ
page_size list page = sum_by (length_in list) page.pieces

abbrev pub is_memory : Place → Bool
is_memory in_memory = true
is_memory at = false

abbrev pub is_reserved : Place → Bool
is_reserved reserved = true
is_reserved at = false

abbrev pub is_page : ℕ → Place → Bool
is_page number (in_page page) = page == number
is_page number at = false
