-- What is charged, and what room is left.
use Rattle.std.proofs.Common.{◌≡◌, ℕ, ◌≤◌, true, List, Some, None, Option, nat_le, refl, sym, ap, ◌∙◌}
use Rattle.std.specs.Option.{option_map}
use Rattle.std.specs.List.{position}
use Rattle.std.proofs.lemmas.Bool.{and_parts, leb-true}
use Rattle.std.proofs.lemmas.List.Quantifiers.{position-Some}
use Rattle.blob_words.specs.declared.number.PageNo.{PageNo}
use Rattle.page_files.specs.declared.page.Page.{Page}
use Rattle.page_files.specs.declared.page.Page.TheVariants.{Torn, Whole, Asked}
use Rattle.page_files.specs.Pieces.{bytes_of}
use Rattle.page_files.specs.Pages.{can_move, is_due, is_thin, is_unasked, page_at, pieces_at}
use Rattle.page_files.specs.Files.{Files, page_no, room, thin}

-- the least thin page, found by the room that is left
pub thin_found : (files : Files) (free : ℕ) (found result : Option ℕ) → found ≡ position (can_move free) files.pages → free ≡ room files → found ≡ result
    → option_map page_no result ≡ thin files
thin_found files free found result is same gives = sym (ap (option_map page_no) gives) ∙ ap (option_map page_no)
    (is ∙ ap (λ (n : ℕ). position (can_move n) files.pages) same)

due_is_unasked : (page : Page) → is_due page ≡ true → is_unasked page ≡ true
due_is_unasked Torn is = refl
due_is_unasked (Whole size pieces) is = refl
due_is_unasked Asked is = cc

-- a page that is due was not asked for
pub due_unasked : (pages : List Page) (place : ℕ) → position is_due pages ≡ Some place → is_unasked (page_at pages place) ≡ true
due_unasked pages place is = due_is_unasked (page_at pages place) (position-Some is_due pages place Asked is).1

found_place : (found : Option ℕ) (page : PageNo) → option_map page_no found ≡ Some page → found ≡ Some page.0
found_place None page is = cc
found_place (Some place) page is = cc

-- the pieces of the least thin page have room
pub thin_room : (files : Files) (page : PageNo) → thin files ≡ Some page → bytes_of (pieces_at files.pages page.0) ≤ room files
thin_room files page is =
    let found = found_place (position (can_move (room files)) files.pages) page is in
    let moves = (position-Some (can_move (room files)) files.pages page.0 Asked found).1 in
    let fits = (and_parts (is_thin (page_at files.pages page.0)) (nat_le (bytes_of (pieces_at files.pages page.0)) (room files)) moves).1 in
    leb-true (bytes_of (pieces_at files.pages page.0)) (room files) fits
