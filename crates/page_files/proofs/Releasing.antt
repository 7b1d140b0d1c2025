-- The pieces of a page, released one by one.
use Rattle.std.proofs.Common.{◌≡◌, ℕ, ◌+◌, ◌<◌, List, [], ◌∷◌, length, get_or, take, ap, ◌∙◌}
use Rattle.std.proofs.lemmas.Grind.{fold-append}
use Rattle.std.proofs.lemmas.List.{take_more}
use Rattle.page_files.specs.declared.held.Held.{Held}
use Rattle.page_files.specs.declared.page.Page.{Page}
use Rattle.page_files.specs.Pages.{released_at}
use Rattle.page_files.specs.Files.{Files, without_pieces}

-- one piece more
pub released_more : (number : ℕ) (pieces : List Held) (i : ℕ) (d : Held) (files : Files) → i < length pieces → without_pieces number (take (i + 1) pieces) files
    ≡ record (without_pieces number (take i pieces) files) {
      pages = released_at number (get_or pieces i d).piece
          (without_pieces number (take i pieces) files).pages;
    }
released_more number pieces i d files inside =
    let step = λ (pages : List Page) (held : Held). released_at number held.piece pages in
    ap (λ (list : List Held). without_pieces number list files) (take_more pieces i d inside)
    ∙ ap (λ (pages : List Page). record files { pages = pages }) (fold-append step files.pages (take i pieces) (get_or pieces i d ∷ []))
