-- The totals that no legal transcript passes. Own.
use Rattle.std.specs.Prelude.{◌≤◌, ◌*◌, List, length}
use Rattle.blob_words.specs.declared.bounds.TheConstants.{MOST_RENDERERS, MOST_BLOBS, MOST_PIECES, MOST_WEIGHT, MOST_READERS, MOST_URLS, MOST_FILES}
use Rattle.answer_text.specs.declared.group.Group.{Group}
use Rattle.blob_model.specs.Session.{Session, page_limit}
use Rattle.blob_model.specs.History.{History, start, history_from}
use Rattle.blob_model.specs.Renderers.{spawned}
use Rattle.blob_model.specs.Recorded.{file_names}
use Rattle.blob_model.specs.Builds.{builds}
use Rattle.blob_model.specs.Entries.{entries}
use Rattle.blob_model.specs.Readers.{readers}
use Rattle.blob_model.specs.Pieces.{pieces}
use Rattle.blob_model.specs.Pages.{next_page}
use Rattle.blob_model.specs.Jobs.{next_job}
use Rattle.blob_model.specs.Refusals.{weight_total}
use Rattle.blob_model.specs.Legal.{IsLegalFrom}

-- how many renderers, files, blobs, pieces and views there were, and how many URL entries and readers there are
pub record Totals (s : Session) (h : History) : Type 0 where
  pub renderers : length (spawned h) ≤ MOST_RENDERERS
  pub files : length (file_names h) ≤ MOST_FILES
  pub blobs : length (builds (page_limit s) h) ≤ MOST_BLOBS
  pub all_pieces : length (pieces (page_limit s) h) ≤ MOST_PIECES
  pub views : weight_total s h ≤ MOST_WEIGHT
  pub urls : length (entries h) ≤ MOST_URLS
  pub open_readers : length (readers (page_limit s) h) ≤ MOST_READERS

-- in a legal transcript they hold
abbrev pub TotalsHold : Type 0
TotalsHold = (s : Session) (groups : List Group) → IsLegalFrom s start groups → Totals s (history_from start groups)

-- in a legal transcript there are at most two jobs a piece, and at most three page numbers: a page job begins with a piece of its own, a page file is moved
-- once and with a piece less, and a segment is stored once
abbrev pub NumbersAreLow : Type 0
NumbersAreLow = (s : Session) (groups : List Group) → IsLegalFrom s start groups → (next_job (history_from start groups) ≤ 2 * MOST_PIECES)
    × (next_page (history_from start groups) ≤ 3 * MOST_PIECES)
