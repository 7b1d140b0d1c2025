-- Two pieces that are written to page 0, the first of them alone there, and a row of many pieces. Own.
use Rattle.std.specs.Prelude.{ℕ, ◌≡◌, ◌<◌, List, [], ◌∷◌, Option, Some, None, length, map, nat_eq}
use Rattle.std.specs.List.{sum_by, AllByRecursion, IsDistinct}
use Rattle.blob_words.specs.declared.number.JobNo.{JobNo}
use Rattle.blob_words.specs.declared.number.PieceNo.{PieceNo}
use Rattle.page_files.specs.declared.held.Held.{Held}
use Rattle.page_files.specs.declared.job.Job.{Job}
use Rattle.page_files.specs.declared.page.Page.{Page}
use Rattle.page_files.specs.declared.page.Page.TheVariants.{Whole}
use Rattle.item_shares.specs.declared.shares.Share.{Share}
use Rattle.page_files.specs.Files.{Files, alone, new_files, page_no, with_job}
use Rattle.page_files.specs.Items.{IsMemoryIn}
use Rattle.page_files.specs.Pieces.{named}
use Rattle.page_cases.specs.Runs.{piece_no}

-- the piece 0 of one byte
abbrev pub first_held : ℕ → Held
first_held slot = alone (piece_no 0) slot 1

-- the piece 1 of six bytes
abbrev pub second_held : ℕ → Held
second_held slot = alone (piece_no 1) slot 6

abbrev pub both_held : ℕ → ℕ → List Held
both_held first second = first_held first ∷ second_held second ∷ []

-- page files with the first job, of both pieces
abbrev pub both_started : ℕ → ℕ → ℕ → Files
both_started limit first second = with_job None (both_held first second) (new_files limit)

-- the job that moves the first piece out of page 0
abbrev pub first_moved : JobNo → ℕ → Option Job
first_moved number first = Some (record { number = number; source = Some (page_no 0); pieces = first_held first ∷ [] })

-- page 0 with both pieces
abbrev pub page_of_both : ℕ → ℕ → List Page
page_of_both first second = Whole 7 (first_held first ∷ record (second_held second) { off = 1 } ∷ []) ∷ []

-- page 0 where the second piece is reached no more
abbrev pub page_of_first : ℕ → List Page
page_of_first first = Whole 7 (first_held first ∷ []) ∷ []

-- the pieces from 0 up to a number, of one byte each and in memory
pub record IsRow (end : ℕ) (shares : List (Option Share)) (pieces : List (PieceNo × ℕ × ℕ)) : Type 0 where
  pub count : length pieces ≡ end
  pub below : AllByRecursion (λ number. number < end) (map (λ piece. piece.0.0) pieces)
  pub apart : IsDistinct nat_eq (map (λ piece. piece.0.0) pieces)
  pub long : AllByRecursion (λ piece. 0 < piece.2) pieces
  pub sum : sum_by (λ piece. piece.2) pieces ≡ end
  pub items : AllByRecursion (IsMemoryIn shares) (map named pieces)
