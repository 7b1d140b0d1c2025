-- What a pass over the unfinished entries leaves stands behind the endings. Own.
use Rattle.std.specs.Prelude.{ℕ, ◌++◌, Bool, true, false, List, [], ◌∷◌, map, flat_map, filter_map, fold, Option, if◌then◌else◌}
use Rattle.std.specs.Option.{option_map}
use Rattle.item_shares.specs.declared.shares.Share.{Share}
use Rattle.blob_entries.specs.Book.{Book}
use Rattle.blob_entries.specs.Counted.{SameItems}
use Rattle.blob_entries.specs.Statuses.{is_done}
use Rattle.blob_registry.specs.Passes.{Finishes}
use Rattle.blob_registry.specs.declared.ended_blob.EndedBlob.{EndedBlob}
use Rattle.page_files.specs.Files.{Files}
use Rattle.quota_queue.specs.Queue.{Queue}
use Rattle.recent_items.specs.Recent.{without}
use Rattle.blob_model.specs.Builds.{Build, builds}
use Rattle.blob_model.specs.History.{History, said_all}
use Rattle.blob_model.specs.Session.{Session, page_limit}
use Rattle.blob_model.specs.Settle.{endings}
use Rattle.blob_model.specs.Standing.{is_unfinished}
use Rattle.blob_model.specs.Victims.{with_length}
use Rattle.registry_laws.specs.Agree.{AgreesInMarks}
use Rattle.registry_laws.specs.Laws.{Describes}
use Rattle.store_laws.specs.Rows.{Row, settled}
use Rattle.store_laws.specs.Stands.{ContentsStand}
use Rattle.store_laws.specs.SweepLaws.{EntriesAre}
use Rattle.store_laws.specs.Swept.{queue_left}
use Rattle.store_laws.specs.Uses.{held_pieces, own_pieces, pageable_of}

-- behind the endings that are owed
abbrev pub after_pass : Session → History → History
after_pass s h = said_all h (endings s h)

-- rows where the blobs that are unfinished still wait, and of the others nothing is to come
abbrev pub settled_row : Bool → Option Row → Option Row
settled_row true held = held
settled_row false held = option_map (λ (row : Row). record row { coming = settled }) held

abbrev pub rows_settled : (ℕ → Bool) → List Build → List (Option Row) → List (Option Row)
rows_settled waits [] rows = []
rows_settled waits (build ∷ builds) [] = []
rows_settled waits (build ∷ builds) (held ∷ rows) = settled_row (waits build.name) held ∷ rows_settled waits builds rows

abbrev pub rows_passed : Session → History → List (Option Row) → List (Option Row)
rows_passed s h rows = rows_settled (is_unfinished (after_pass s h)) (builds (page_limit s) h) rows

-- what a pass makes of the entries stands behind the endings, with the rows of those that ended settled
abbrev pub EntriesPass : Type 0
EntriesPass =
    (s : Session) (h : History) (stands : ℕ → Bool) (book : Book) (shares : List (Option Share)) (rows : List (Option Row)) (quota : Queue) (files : Files)
    (order : List (ℕ × ℕ)) → ContentsStand s h stands book shares rows quota files order → Describes s h book → AgreesInMarks s h book
    → (now : Book) (later : List (Option Share)) (list : List EndedBlob) → Finishes book now list → SameItems book.entries now.entries shares later
    → EntriesAre s (after_pass s h) stands now later (rows_passed s h rows)

-- ---- the queue and the order of use

-- the names of those that ended
abbrev pub ended_names : List EndedBlob → List ℕ
ended_names list = map (λ (end : EndedBlob). end.name) list

-- the pieces of one that got done
abbrev pub done_pieces : Session → History → EndedBlob → List ℕ
done_pieces s h end = if is_done end.status then own_pieces (page_limit s) h end.name else []

-- a piece with its length is the latest
abbrev pub entered : List (ℕ × ℕ) → ℕ × ℕ → List (ℕ × ℕ)
entered order piece = without piece.0 order ++ piece ∷ []

-- the pieces that may be paged behind the pass, of those that got done, each with its length
abbrev pub pieces_entered : Session → History → List (Option Share) → List (Option Row) → List EndedBlob → List (ℕ × ℕ)
pieces_entered s h later rows list =
    filter_map (with_length (pageable_of (page_limit s) (after_pass s h) (held_pieces (page_limit s) (after_pass s h) later (rows_passed s h rows))))
    (flat_map (done_pieces s h) list)

-- the contents behind a pass: whoever ended waits no more, and the pieces of who got done are the latest, in the order of the endings
abbrev pub PassStands : Type 0
PassStands =
    (s : Session) (h : History) (stands : ℕ → Bool) (book : Book) (shares : List (Option Share)) (rows : List (Option Row)) (quota : Queue) (files : Files)
    (order : List (ℕ × ℕ)) → ContentsStand s h stands book shares rows quota files order → Describes s h book → AgreesInMarks s h book
    → (now : Book) (later : List (Option Share)) (list : List EndedBlob) → Finishes book now list → SameItems book.entries now.entries shares later
    → (used : ℕ)
    → ContentsStand s (after_pass s h) stands now later (rows_passed s h rows) (queue_left quota (ended_names list) used) files
    (fold entered order (pieces_entered s h later rows list))
