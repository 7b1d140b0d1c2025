-- What holds behind the late drops, list 3 of settling, through the lists behind it: the live blobs stand and no others. Own.
use Rattle.std.specs.Prelude.{ℕ, ◌≡◌, ◌||◌, Bool, false, true, nat_eq, not, List, [], Option, IfSome, IsSomeAnd}
use Rattle.std.specs.List.{AllByRecursion, IsDistinct}
use Rattle.answer_text.specs.declared.answer.Answer.{Answer}
use Rattle.data_handles.specs.Table.{Table as HandleTable}
use Rattle.page_disk.specs.declared.change.Change.{Change}
use Rattle.blob_model.specs.History.{History}
use Rattle.blob_model.specs.Jobs.{Job, in_flight}
use Rattle.blob_model.specs.Legal.{left_files}
use Rattle.blob_model.specs.Live.{is_live}
use Rattle.blob_model.specs.Builds.{Build, build_in, builds}
use Rattle.blob_model.specs.Pages.{is_reserved, pages, unlisted_place, Page}
use Rattle.blob_model.specs.Pieces.{Piece, pieces}
use Rattle.blob_model.specs.Session.{Session, page_limit}
use Rattle.blob_model.specs.Settle.{removals}
use Rattle.blob_model.specs.Standing.{is_unfinished}
use Rattle.blob_model.specs.Transport.{arrivals, has_all}
use Rattle.blob_model.specs.Waits.{is_waiting}
use Rattle.store_laws.specs.Cells.{piece_in}
use Rattle.store_laws.specs.LineLaws.{AreUnmarked}
use Rattle.store_laws.specs.PageFiles.{writes}
use Rattle.store_laws.specs.PageLaws.{numbered_pages}
use Rattle.store_laws.specs.ReachLaws.{IsAtRest}
use Rattle.store_laws.specs.Stands.{Between, Parts}

-- a piece that a page file or a job may list: its blob has ended, or its plan is file
abbrev pub is_flyable : ℕ → History → Piece → Bool
is_flyable page h piece = not (is_unfinished h piece.blob) || is_reserved (unlisted_place (build_in (builds page h) piece.blob))

abbrev pub IsFlyable : ℕ → History → ℕ → Type 0
IsFlyable page h number = IsSomeAnd (piece_in (pieces page h) number) (λ (piece : Piece). is_flyable page h piece ≡ true)

-- while a blob waits for room no segment of it came, and it misses one
abbrev pub IsUnsent : Session → History → Build → Type 0
IsUnsent s h build = is_waiting h build ≡ true → (arrivals h build.name ≡ []) × (has_all s.limits h build ≡ false)

-- of the history alone: no ending by a broken source is owed, page numbers were taken one after the other, page files and the job in flight list
-- such pieces, no page file one twice, and of blobs that wait nothing came
pub record LateCourse (s : Session) (h : History) : Type 0 where
  pub rest : IsAtRest (page_limit s) h
  pub in_turn : pages h ≡ numbered_pages 0 (writes h)
  pub flying : IfSome (in_flight h) (λ (job : Job). AllByRecursion (IsFlyable (page_limit s) h) job.pieces)
  pub written : AllByRecursion (λ (file : Page). AllByRecursion (IsFlyable (page_limit s) h) file.pieces) (pages h)
  pub apart : AllByRecursion (λ (file : Page). IsDistinct nat_eq file.pieces) (pages h)
  pub unsent : AllByRecursion (IsUnsent s h) (builds (page_limit s) h)

-- the parts stand for it, with the live blobs and no others, and nobody is marked to break
pub record IsLate (s : Session) (h : History) (parts : Parts) (told : Option (List Change)) (table : HandleTable) : Type 0 where
  pub course : LateCourse s h
  pub between : Between s h (is_live (page_limit s) h) parts told table
  pub unmarked : AreUnmarked parts.book.entries

-- these answers are the removals owed, where those that tell of a page file left say which could not be removed
abbrev pub AreOwed : Session → History → List Answer → Type 0
AreOwed s h removed = removed ≡ removals s (left_files removed) h
