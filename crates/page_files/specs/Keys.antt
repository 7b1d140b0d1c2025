-- The keys by which the least thin page and the least page due for removal are found. Own.
use Rattle.std.specs.Prelude.{ℕ, ◌-◌, ◌^◌, ◌<◌, if◌then◌else◌}
use Rattle.page_files.specs.declared.page.Page.{Page}
use Rattle.page_files.specs.Pieces.{bytes_of}
use Rattle.page_files.specs.Pages.{is_due, is_thin, pieces_of, size_of}

-- the bytes of the reached pieces of a thin page, else the greatest number
abbrev pub thin_key : Page → ℕ
thin_key page = if is_thin page then bytes_of (pieces_of page) else 2 ^ 64 - 1

-- 0 where a page is due, else 1
abbrev pub due_key : Page → ℕ
due_key page = if is_due page then 0 else 1

-- the size of a page is a 64-bit number
abbrev pub HasSize : Page → Type 0
HasSize page = size_of page < 2 ^ 64
