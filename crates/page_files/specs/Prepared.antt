-- What is made ready for the write of a page. Own.
use Rattle.std.specs.Prelude.{◌≡◌, List}
use Rattle.blob_words.specs.declared.number.PageNo.{PageNo}
use Rattle.page_files.specs.declared.held.Held.{Held}
use Rattle.page_files.specs.declared.next_page.NextPage.{NextPage}
use Rattle.page_files.specs.Pieces.{bytes_of, names, placed}

-- the page of this number is ready for these pieces: its size, where each will be, and their numbers
pub record IsNextPage (number : PageNo) (held : List Held) (next : NextPage) : Type 0 where
  pub page : next.page ≡ number
  pub size : next.size ≡ bytes_of held
  pub pieces : next.pieces.items ≡ placed 0 held
  pub table : next.table ≡ placed 0 held
  pub list : next.list ≡ names held
