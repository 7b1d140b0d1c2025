-- What becomes of the parts when a job starts to move the pieces of a page file: list 7 of settling. Own.
use Rattle.std.specs.Prelude.{◌&&◌, is_none, Option, None, Some, if◌then◌else◌}
use Rattle.blob_words.specs.declared.number.PageNo.{PageNo}
use Rattle.page_files.specs.Files.{thin, with_job}
use Rattle.page_files.specs.Pages.{pieces_at}
use Rattle.blob_store.specs.declared.parts.Parts.{Parts}

-- the page file to move now: none where no job may start
abbrev pub to_compact : Parts → Option PageNo
to_compact parts = if parts.pages.paging && is_none parts.pages.job then thin parts.pages else None

-- a job with the pieces that a page file holds is in flight
abbrev pub with_compaction : PageNo → Parts → Parts
with_compaction page parts = record parts { pages = with_job (Some page) (pieces_at parts.pages.pages page.0) parts.pages }
