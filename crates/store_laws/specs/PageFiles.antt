-- The page files, as a history says: what each number was used for, which pieces are held there, and the job in flight. Own.
use Rattle.std.specs.Prelude.{ℕ, ◌≡◌, ◌+◌, ◌==◌, ◌&&◌, Bool, false, List, [], ◌∷◌, ◌++◌, map, filter, sum_by, Option, None, Some, if◌then◌else◌}
use Rattle.std.specs.Option.{option_map, option_map_or}
use Rattle.std.specs.List.{AllByRecursion, list_any}
use Rattle.answer_text.specs.declared.answer.Answer.{Answer}
use Rattle.answer_text.specs.declared.answer.Answer.TheVariants as answers
use Rattle.item_shares.specs.declared.item.Item.{Item}
use Rattle.item_shares.specs.declared.item.Item.TheVariants.{Paged}
use Rattle.item_shares.specs.declared.shares.Share.{Share}
use Rattle.item_shares.specs.Weights.{weights}
use Rattle.page_files.specs.declared.held.Held.{Held}
use Rattle.page_files.specs.declared.page.Page.{Page}
use Rattle.page_files.specs.declared.page.Page.TheVariants.{Torn, Whole, Asked}
use Rattle.page_files.specs.Files.{Files, left_of}
use Rattle.page_files.specs.Pages.{pieces_of}
use Rattle.blob_model.specs.History.{History, start, heard, refused, said}
use Rattle.blob_model.specs.Pieces.{Piece, length_in}
use Rattle.blob_model.specs.Pages.{numbers}
use Rattle.blob_model.specs.Jobs.{Job}
use Rattle.model_bridges.specs.Bridges.{job_as}
use Rattle.store_laws.specs.Items.{holds_piece, piece_at}
use Rattle.store_laws.specs.Weights.{reserved_weight}

-- what each page number was used for, in order: a page file with its pieces, or a write that failed
abbrev pub writes_after : Answer → List (Option (List ℕ)) → List (Option (List ℕ))
writes_after (answers.Stored file piece) before = before ++ Some (piece.0 ∷ []) ∷ []
writes_after (answers.StoreFailed file) before = before ++ None ∷ []
writes_after (answers.Paged job file list) before = before ++ Some (numbers list) ∷ []
writes_after (answers.PageFailed job file) before = before ++ None ∷ []
writes_after (answers.Moved job file list) before = before ++ Some (numbers list) ∷ []
writes_after (answers.MoveFailed job file) before = before ++ None ∷ []
writes_after answer before = before

abbrev pub writes : History → List (Option (List ℕ))
writes start = []
writes (heard h event answer) = writes_after answer (writes h)
writes (refused h event why) = writes h
writes (said h answer) = writes_after answer (writes h)

-- a page file without the slots of its pieces: torn, or whole with its size and, of each piece held there, number, offset and length, or asked for
pub data Sheet : Type 0 where
  torn : Sheet
  whole : (size : ℕ) → (held : List (ℕ × ℕ × ℕ)) → Sheet
  gone : Sheet

abbrev pub bare_piece : Held → ℕ × ℕ × ℕ
bare_piece held = (held.piece.0, held.off, held.len)

abbrev pub sheet : Page → Sheet
sheet Torn = torn
sheet (Whole size pieces) = whole size (map bare_piece pieces)
sheet Asked = gone

-- of pieces one after the other, the first from an offset on, those that are held there
abbrev pub placed_from : List Piece → (ℕ → Bool) → ℕ → List ℕ → List (ℕ × ℕ × ℕ)
placed_from all is_held off [] = []
placed_from all is_held off (number ∷ more) =
    if is_held number then (number, off, length_in all number) ∷ placed_from all is_held (off + length_in all number) more else placed_from all is_held
    (off + length_in all number) more

-- the page file of a number, where `is_held` says which pieces are held there
abbrev pub sheet_of : List Piece → (ℕ → ℕ → Bool) → List ℕ → ℕ → Option (List ℕ) → Sheet
sheet_of all is_held asked number None = torn
sheet_of all is_held asked number (Some list) =
    if list_any (λ (each : ℕ). each == number) asked then gone else whole (sum_by (length_in all) list) (placed_from all (is_held number) 0 list)

abbrev pub sheets_from : List Piece → (ℕ → ℕ → Bool) → List ℕ → ℕ → List (Option (List ℕ)) → List Sheet
sheets_from all is_held asked number [] = []
sheets_from all is_held asked number (one ∷ more) = sheet_of all is_held asked number one ∷ sheets_from all is_held asked (number + 1) more

-- whether an item has the piece in the page file, and whether some item has
abbrev pub is_paged_in : ℕ → ℕ → Item → Bool
is_paged_in page number (Paged piece one off len) = (piece.0 == number) && (one.0 == page)
is_paged_in page number item = false

abbrev pub holds_paged : List (Option Share) → ℕ → ℕ → Bool
holds_paged shares page number = list_any (λ (held : Option Share). option_map_or (λ (share : Share). is_paged_in page number share.item) held false) shares

-- a piece that a page file or a job lists is in the slot that is named with it
abbrev pub IsSlotOf : List (Option Share) → Held → Type 0
IsSlotOf shares held = piece_at shares held.slot ≡ Some held.piece.0

-- the job with those of its pieces that are held
abbrev pub with_held : (ℕ → Bool) → Job → Job
with_held is_held job = record job { pieces = filter is_held job.pieces }

-- what a history says of page files: what the numbers were used for, those asked for, the job in flight, how many jobs started, and whether
-- paging is on
pub record PageFacts : Type 0 where
  pub written : List (Option (List ℕ))
  pub asked : List ℕ
  pub flying : Option Job
  pub jobs : ℕ
  pub paging : Bool

-- the page files hold what the items say, and the job still has what the items say
pub record PagesStand (all : List Piece) (facts : PageFacts) (limit : ℕ) (shares : List (Option Share)) (files : Files) : Type 0 where
  pub same_limit : files.limit ≡ limit
  pub sheets : map sheet files.pages ≡ sheets_from all (holds_paged shares) facts.asked 0 facts.written
  pub slots : AllByRecursion (λ (page : Page). AllByRecursion (IsSlotOf shares) (pieces_of page)) files.pages
  pub reserved : files.reserved ≡ weights reserved_weight shares
  pub job : option_map job_as files.job ≡ option_map (with_held (holds_piece shares)) facts.flying
  pub job_slots : AllByRecursion (IsSlotOf shares) (left_of files.job)
  pub job_lengths : AllByRecursion (λ (held : Held). held.len ≡ length_in all held.piece.0) (left_of files.job)
  pub same_jobs : files.jobs ≡ facts.jobs
  pub same_paging : files.paging ≡ facts.paging
