-- What is read off contents is what the history says.
use Rattle.std.proofs.Common.{◌≡◌, ℕ, ◌&&◌, ◌||◌, Bool, true, false, cond, not, List, [], ◌∷◌, Option, Some, None, map, refl, sym, ap, ◌∙◌}
use Rattle.std.specs.Prelude.{filter, is_none}
use Rattle.std.specs.List.{list_any}
use Rattle.std.specs.Option.{option_map_or}
use Rattle.blob_words.specs.declared.status.Status.{Status}
use Rattle.blob_model.specs.Session.{Session, page_limit}
use Rattle.blob_model.specs.History.{History}
use Rattle.blob_model.specs.Builds.{Cell, Build, builds, build_in}
use Rattle.blob_model.specs.Standing.{ended, is_broken, is_broken_status, was_granted, is_unfinished, is_granted, grants_at_once}
use Rattle.blob_model.specs.Live.{live}
use Rattle.blob_model.specs.Pieces.{Piece, pieces, owns}
use Rattle.blob_model.specs.Pages.{Page, pages}
use Rattle.blob_model.specs.Tally.{in_memory_of, reserved_of, in_page_of, files_of}
use Rattle.blob_model.specs.Waits.{is_shared, is_waiting, waits}
use Rattle.blob_model.specs.Reached.{some_passes, live_cells, owns_some, is_granted_piece, reached}
use Rattle.history_notions.specs.declared.contents.Contents.{Contents}
use Rattle.history_notions.specs.Kept.{was_granted_in}
use Rattle.history_notions.specs.Keeps.{Keeps}
use Rattle.history_notions.specs.Missing.{is_waiting_in}
use Rattle.history_notions.specs.Placed.{memory_pieces, reserved_pieces, page_pieces, holds_some}
use Rattle.history_notions.specs.Follows.{Follows}
use Rattle.history_notions.specs.Chosen.{items_at}
use Rattle.history_notions.specs.Reach.{is_broken_in, is_whole, has_cell, has_at, is_granted_in, has_grant, is_reached_in}
use Rattle.history_notions.proofs.Reaching.{some_any, any_at, kept_at}

pub filter_alike : {X : Type 0} (p q : X → Bool) (xs : List X) → ((x : X) → p x ≡ q x) → filter p xs ≡ filter q xs
filter_alike p q [] same = refl
filter_alike {X} p q (x ∷ xs) same =
    ap (λ (b : Bool). cond b (x ∷ filter p xs) (filter p xs)) (same x) ∙ ap (λ (rest : List X). cond (q x) (x ∷ rest) rest) (filter_alike p q xs same)

pub any_map : {X Y : Type 0} (test : Y → Bool) (f : X → Y) (xs : List X) → list_any (λ (x : X). test (f x)) xs ≡ list_any test (map f xs)
any_map test f [] = refl
any_map test f (x ∷ xs) = ap (λ (b : Bool). test (f x) || b) (any_map test f xs)

option_alike : {X : Type 0} (p q : X → Bool) (found : Option X) → ((x : X) → p x ≡ q x) → option_map_or p found false ≡ option_map_or q found false
option_alike p q None same = refl
option_alike p q (Some x) same = same x

pub broken_same : (h : History) (contents : Contents) → Keeps h contents.kept → (name : ℕ) → is_broken_in contents.kept.endings name ≡ is_broken h name
broken_same h contents keeps name = ap (λ (status : Option Status). option_map_or is_broken_status status false) (keeps.ended_are name)

pub granted_same : (h : History) (contents : Contents) → Keeps h contents.kept → (build : Build) → is_granted_in contents.kept.granted build
    ≡ is_granted h build
granted_same h contents keeps build = ap (λ (b : Bool). option_map_or grants_at_once build.plan false || b) (keeps.granted_are build.name)

pub cells_follow : (s : Session) (h : History) (contents : Contents) (places : List ℕ) → Follows s h contents
    → items_at contents.builds places ≡ live (page_limit s) h
    → map (λ (build : Build). build.cells) (items_at contents.builds (filter (is_whole contents.builds contents.kept.endings) places))
    ≡ live_cells (page_limit s) h
cells_follow s h contents places follows lives =
    ap (map (λ (build : Build). build.cells))
    (kept_at (λ (build : Build). not (is_broken_in contents.kept.endings build.name)) contents.builds places
    ∙ ap (filter (λ (build : Build). not (is_broken_in contents.kept.endings build.name))) lives
    ∙ filter_alike (λ (build : Build). not (is_broken_in contents.kept.endings build.name)) (λ (build : Build). not (is_broken h build.name))
    (live (page_limit s) h)
    (λ (build : Build). ap not (broken_same h contents follows.keeps build.name)))

grant_same : (s : Session) (h : History) (contents : Contents) → Follows s h contents → (piece : Piece)
    → has_grant contents.kept.granted contents.builds piece ≡ is_granted_piece h (builds (page_limit s) h) piece
grant_same s h contents follows piece =
    option_alike (is_granted_in contents.kept.granted) (is_granted h) (build_in contents.builds piece.blob) (granted_same h contents follows.keeps)
    ∙ ap (λ (list : List Build). option_map_or (is_granted h) (build_in list piece.blob) false) follows.builds_are

owns_same : (contents : Contents) (places : List ℕ) (cells : List (List Cell)) (piece : Piece)
    → map (λ (build : Build). build.cells) (items_at contents.builds places) ≡ cells
    → list_any (has_at contents.builds piece) places ≡ owns_some cells piece
owns_same contents places cells piece are =
    any_at (has_cell piece) contents.builds places
    ∙ any_map (λ (list : List Cell). some_passes (owns piece) list) (λ (build : Build). build.cells) (items_at contents.builds places)
    ∙ ap (list_any (λ (list : List Cell). some_passes (owns piece) list)) are
    ∙ sym (some_any (λ (list : List Cell). some_passes (owns piece) list) cells)

pub reached_follow : (s : Session) (h : History) (contents : Contents) (places : List ℕ) → Follows s h contents
    → map (λ (build : Build). build.cells) (items_at contents.builds places) ≡ live_cells (page_limit s) h
    → filter (is_reached_in contents.kept.granted contents.builds places) contents.pieces ≡ reached (page_limit s) h
reached_follow s h contents places follows are =
    filter_alike (is_reached_in contents.kept.granted contents.builds places)
    (λ (piece : Piece). is_granted_piece h (builds (page_limit s) h) piece && owns_some (live_cells (page_limit s) h) piece) contents.pieces
    (λ (piece : Piece).
    ap (λ (b : Bool). b && list_any (has_at contents.builds piece) places) (grant_same s h contents follows piece)
    ∙ ap (λ (b : Bool). is_granted_piece h (builds (page_limit s) h) piece && b) (owns_same contents places (live_cells (page_limit s) h) piece are))
    ∙ ap (filter (λ (piece : Piece). is_granted_piece h (builds (page_limit s) h) piece && owns_some (live_cells (page_limit s) h) piece)) follows.pieces_are

pub memory_follow : (s : Session) (h : History) (contents : Contents) (list : List Piece) → Follows s h contents
    → memory_pieces contents.kept.pages contents.builds list ≡ in_memory_of h (builds (page_limit s) h) list
memory_follow s h contents list follows =
    ap (λ (written : List Page). memory_pieces written contents.builds list) follows.keeps.pages_are
    ∙ ap (λ (blobs : List Build). memory_pieces (pages h) blobs list) follows.builds_are

pub reserved_follow : (s : Session) (h : History) (contents : Contents) (list : List Piece) → Follows s h contents
    → reserved_pieces contents.kept.pages contents.builds list ≡ reserved_of h (builds (page_limit s) h) list
reserved_follow s h contents list follows =
    ap (λ (written : List Page). reserved_pieces written contents.builds list) follows.keeps.pages_are
    ∙ ap (λ (blobs : List Build). reserved_pieces (pages h) blobs list) follows.builds_are

pub page_follow : (s : Session) (h : History) (contents : Contents) (page : Page) (list : List Piece) → Follows s h contents
    → page_pieces contents.kept.pages contents.builds page.number list ≡ in_page_of h (builds (page_limit s) h) page list
page_follow s h contents page list follows =
    ap (λ (written : List Page). page_pieces written contents.builds page.number list) follows.keeps.pages_are
    ∙ ap (λ (blobs : List Build). page_pieces (pages h) blobs page.number list) follows.builds_are

pub files_follow : (s : Session) (h : History) (contents : Contents) (list : List Piece) → Follows s h contents
    → filter (holds_some contents.kept.pages contents.builds list) contents.kept.pages ≡ files_of h (builds (page_limit s) h) list
files_follow s h contents list follows =
    ap (λ (written : List Page). filter (holds_some written contents.builds list) written) follows.keeps.pages_are
    ∙ ap (λ (blobs : List Build). filter (holds_some (pages h) blobs list) (pages h)) follows.builds_are

pub waits_follow : (s : Session) (h : History) (contents : Contents) → Follows s h contents
    → filter (is_waiting_in contents.kept.endings contents.kept.granted) contents.builds ≡ waits (page_limit s) h
waits_follow s h contents follows =
    filter_alike (is_waiting_in contents.kept.endings contents.kept.granted) (is_waiting h) contents.builds
    (λ (build : Build).
    ap (λ (status : Option Status). is_none status && is_shared build.plan && not (was_granted_in contents.kept.granted build.name))
    (follows.keeps.ended_are build.name)
    ∙ ap (λ (b : Bool). is_unfinished h build.name && is_shared build.plan && not b) (follows.keeps.granted_are build.name))
    ∙ ap (filter (is_waiting h)) follows.builds_are
