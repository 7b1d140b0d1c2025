-- Whether a piece may be paged, read off items and the job in flight. Own.
use Rattle.std.specs.Prelude.{ℕ, ◌≡◌, ◌==◌, ◌&&◌, Bool, true, false, not}
use Rattle.std.specs.Prelude.{List, length, Option, None, Some, option_and_then, filter_map, flat_map, if◌then◌else◌}
use Rattle.std.specs.List.{list_any}
use Rattle.item_shares.specs.Shares.{item_at}
use Rattle.item_shares.specs.declared.item.Item.{Item}
use Rattle.item_shares.specs.declared.item.Item.TheVariants.{Memory}
use Rattle.item_shares.specs.declared.shares.Share.{Share}
use Rattle.blob_entries.specs.Book.{Book}
use Rattle.blob_entries.specs.Counted.{SameItems}
use Rattle.blob_registry.specs.Passes.{Finishes}
use Rattle.blob_registry.specs.declared.ended_blob.EndedBlob.{EndedBlob}
use Rattle.page_files.specs.Files.{Files, left_of}
use Rattle.page_files.specs.declared.held.Held.{Held}
use Rattle.page_files.specs.declared.job.Job.{Job}
use Rattle.quota_queue.specs.Queue.{Queue}
use Rattle.blob_model.specs.Builds.{builds}
use Rattle.blob_model.specs.History.{History}
use Rattle.blob_model.specs.Pieces.{Piece, pieces}
use Rattle.blob_model.specs.Session.{Session, page_limit}
use Rattle.blob_model.specs.Standing.{is_done}
use Rattle.blob_model.specs.Victims.{with_length}
use Rattle.registry_laws.specs.Agree.{AgreesInMarks}
use Rattle.registry_laws.specs.Laws.{Describes}
use Rattle.store_laws.specs.Cells.{piece_in}
use Rattle.store_laws.specs.Items.{holds_piece, piece_at}
use Rattle.store_laws.specs.Passing.{done_pieces, pieces_entered}
use Rattle.store_laws.specs.Rows.{Row, is_gathered}
use Rattle.store_laws.specs.Stands.{ContentsStand}
use Rattle.store_laws.specs.Uses.{held_pieces, pageable_of}

-- whether the job in flight still has the piece
abbrev pub is_flying : ℕ → Option Job → Bool
is_flying number job = list_any (λ (held : Held). held.piece.0 == number) (left_of job)

-- a piece with its length, where this item has it in memory and no job has it
abbrev pub pageable_by : ℕ → Bool → Item → Option (ℕ × ℕ)
pageable_by number flying (Memory piece bytes) = if (piece.0 == number) && not flying then Some (number, length bytes) else None
pageable_by number flying item = None

abbrev pub pageable_if : ℕ → Bool → Option Item → Option (ℕ × ℕ)
pageable_if number flying held = option_and_then (pageable_by number flying) held

-- of a blob that is done and isn't gathered any more, a piece that is held in no other slot may be paged where the item of that slot says so
abbrev pub PiecesMayBePaged : Type 0
PiecesMayBePaged =
    (s : Session) (h : History) (stands : ℕ → Bool) (book : Book) (shares : List (Option Share)) (rows : List (Option Row)) (quota : Queue) (files : Files)
    (order : List (ℕ × ℕ)) → ContentsStand s h stands book shares rows quota files order → (one : Piece)
    → piece_in (pieces (page_limit s) h) one.number ≡ Some one → is_done h one.blob ≡ true
    → is_gathered (builds (page_limit s) h) rows one.blob ≡ false → (slot : ℕ)
    → (holds_piece shares one.number ≡ true → piece_at shares slot ≡ Some one.number)
    → with_length (pageable_of (page_limit s) h (held_pieces (page_limit s) h shares rows)) one.number
    ≡ pageable_if one.number (is_flying one.number files.job) (item_at shares slot)

-- the same of a number, where this is the home of each piece
abbrev pub pageable_at : List (Option Share) → Option Job → (ℕ → ℕ) → ℕ → Option (ℕ × ℕ)
pageable_at shares job home number = pageable_if number (is_flying number job) (item_at shares (home number))

-- so behind a pass the pieces that are entered are read off the items in the homes of the pieces of those that got done
abbrev pub PiecesAreEntered : Type 0
PiecesAreEntered =
    (s : Session) (h : History) (stands : ℕ → Bool) (book : Book) (shares : List (Option Share)) (rows : List (Option Row)) (quota : Queue) (files : Files)
    (order : List (ℕ × ℕ)) → ContentsStand s h stands book shares rows quota files order → Describes s h book → AgreesInMarks s h book
    → (now : Book) (later : List (Option Share)) (list : List EndedBlob) → Finishes book now list → SameItems book.entries now.entries shares later
    → (home : ℕ → ℕ) → ((number : ℕ) → holds_piece later number ≡ true → piece_at later (home number) ≡ Some number)
    → pieces_entered s h later rows list ≡ filter_map (pageable_at later files.job home) (flat_map (done_pieces s h) list)
