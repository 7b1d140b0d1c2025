-- The store stands for the history after a step.
use Rattle.std.proofs.Common.{◌≡◌, ℕ, ◌+◌, ◌==◌, Bool, true, false, ◌&&◌, ◌||◌, not, List, [], ◌∷◌, length, map, filter, Some, refl, sym, ◌∙◌, ap, ⊎_elim}
use Rattle.std.specs.Prelude.{find, is_some}
use Rattle.std.specs.List.{AllByRecursion, list_any}
use Rattle.std.proofs.lemmas.Bool.{cases_Bool, eqb-true, eq-eqb, or_left, or_right, or_from, or_parts, and_right}
use Rattle.session_script.specs.declared.event.Event.TheVariants as events
use Rattle.blob_words.specs.declared.limits.Limits.{Limits}
use Rattle.blob_words.specs.declared.status.Status.{Status}
use Rattle.blob_words.specs.declared.number.ReaderId.{ReaderId}
use Rattle.answer_text.specs.declared.answer.Answer.TheVariants as answers
use Rattle.replay_run.specs.declared.store.Store.{Store}
use Rattle.replay_run.specs.declared.store.blob.Blob.{Blob}
use Rattle.replay_run.specs.declared.store.reader.Reader.{Reader}
use Rattle.replay_run.specs.History.{History, heard}
use Rattle.replay_run.specs.Builds.{Build, builds}
use Rattle.replay_run.specs.Readers.{OpenReader, readers}
use Rattle.replay_run.specs.Live.{holder, is_read, is_live}
use Rattle.replay_run.specs.Shelf.{Shelved, without}
use Rattle.replay_run.specs.Open.{placed, closed}
use Rattle.replay_run.specs.Stands.{Stands, blob_of, reader_of, AreDistinct, IsInside}
use Rattle.replay_run.proofs.RowsLemmas.{rows-same, rows-without}
use Rattle.replay_run.proofs.DropLemmas.{and-true}
use Rattle.replay_run.proofs.ReaderLemmas.{has_number, one_moves, reads_moved, distinct_moved, inside_moved, all_each, apart}

-- ---- a reader moves on

module _ (l : Limits) (s : Store) (h : History) (number : ReaderId) (bytes : List ℕ) (found : OpenReader) (stands : Stands l s h)
    (is : find (has_number number) (readers h) ≡ Some found) where
  abbrev given : History
  given = heard h (events.Step number) (answers.Given number bytes)

  live_given : (build : Build) → is_live given build.name ≡ is_live h build.name
  live_given build = ap (λ b. is_some (holder h build.name) || b) (reads_moved number (length bytes) build.name (readers h))

  pub kept-given : (place : ℕ) (rows : List Reader) → place ≡ found.place + length bytes → rows ≡ map (placed number place) s.readers
      → Stands l (record s { readers = rows }) given
  kept-given place rows moved are = record {
    same_limits = stands.same_limits;
    same_ended = stands.same_ended;
    same_renderers = stands.same_renderers;
    same_names = stands.same_names;
    same_blobs = stands.same_blobs
        ∙ sym (
        rows-same (blob_of l h) (blob_of l given) (λ (build : Build). is_live h build.name) (λ (build : Build). is_live given build.name) (builds h)
        (all_each (λ (build : Build). (is_live given build.name ≡ is_live h build.name) × (blob_of l given build ≡ blob_of l h build))
        (λ build. (live_given build, refl)) (builds h))
        );
    same_pieces = stands.same_pieces;
    same_readers = are ∙ ap (map (placed number place)) stands.same_readers ∙ one_moves number place (length bytes) found (readers h) is stands.distinct moved;
    distinct = distinct_moved number (length bytes) (readers h) stands.distinct;
    inside = inside_moved number (length bytes) h (readers h) stands.inside;
    held = stands.held;
  }

-- ---- a reader is closed

abbrev pub left : ReaderId → List OpenReader → List OpenReader
left number some = filter (λ (each : OpenReader). not (has_number number each)) some

left_none : (number : ReaderId) (some : List OpenReader) → list_any (has_number number) some ≡ false → left number some ≡ some
left_none number [] none = refl
left_none number (reader ∷ some) none =
    let parts = or_parts (has_number number reader) (list_any (has_number number) some) none in
    rw parts.0 (ap (λ rest. reader ∷ rest) (left_none number some parts.1))

-- only the readers of the closed reader's blob are fewer
reads_left : (number : ReaderId) (found : OpenReader) (name : ℕ) (some : List OpenReader) → find (has_number number) some ≡ Some found → AreDistinct some
    → (name == found.blob) ≡ false
    → is_read (left number some) name ≡ is_read some name
reads_left number found name [] is distinct other = cc
reads_left number found name (reader ∷ some) is distinct other =
    ⊎_elim
    (
    λ (here : has_number number reader ≡ true).
    let first : Some reader ≡ Some found = rw here at is in
    let same : reader ≡ found = cc in
    let apart : (name == reader.blob) ≡ false = ap (λ (each : OpenReader). name == each.blob) same ∙ other in
    let rest : list_any (has_number number) some ≡ false = ap (λ (n : ℕ). list_any (λ (each : OpenReader). n == each.number.0) some)
    (eqb-true number.0 reader.number.0 here) ∙ distinct.0 in
    rw (here, apart) (ap (λ all. is_read all name) (left_none number some rest))
    )
    (λ (there : has_number number reader ≡ false). rw there (ap (λ b. (name == reader.blob) || b)
    (reads_left number found name some (rw there at is) distinct.1 other)))
    (cases_Bool (has_number number reader))

any_left : (number : ReaderId) (test : OpenReader → Bool) (some : List OpenReader) → list_any test some ≡ false → list_any test (left number some) ≡ false
any_left number test [] none = refl
any_left number test (reader ∷ some) none =
    let parts = or_parts (test reader) (list_any test some) none in
    ⊎_elim
    (λ (here : has_number number reader ≡ true). rw here (any_left number test some parts.1))
    (λ (there : has_number number reader ≡ false). rw there (or_from (test reader) (list_any test (left number some)) parts.0
    (any_left number test some parts.1)))
    (cases_Bool (has_number number reader))

distinct_left : (number : ReaderId) (some : List OpenReader) → AreDistinct some → AreDistinct (left number some)
distinct_left number [] distinct = tt
distinct_left number (reader ∷ some) distinct =
    ⊎_elim
    (λ (here : has_number number reader ≡ true). rw here (distinct_left number some distinct.1))
    (λ (there : has_number number reader ≡ false). rw there (any_left number (has_number reader.number) some distinct.0, distinct_left number some distinct.1))
    (cases_Bool (has_number number reader))

inside_left : (h : History) (number : ReaderId) (some : List OpenReader) → AllByRecursion (IsInside h) some → AllByRecursion (IsInside h) (left number some)
inside_left h number [] inside = tt
inside_left h number (reader ∷ some) inside =
    ⊎_elim
    (λ (here : has_number number reader ≡ true). rw here (inside_left h number some inside.1))
    (λ (there : has_number number reader ≡ false). rw there (inside.0, inside_left h number some inside.1))
    (cases_Bool (has_number number reader))

pub rows_left : (number : ReaderId) (some : List OpenReader) → closed number (map reader_of some) ≡ map reader_of (left number some)
rows_left number [] = refl
rows_left number (reader ∷ some) =
    ⊎_elim
    (λ (here : has_number number reader ≡ true). rw here (rows_left number some))
    (λ (there : has_number number reader ≡ false). rw there (ap (λ rows. reader_of reader ∷ rows) (rows_left number some)))
    (cases_Bool (has_number number reader))

module _ (l : Limits) (s : Store) (h : History) (number : ReaderId) (status : Status) (found : OpenReader) (stands : Stands l s h)
    (is : find (has_number number) (readers h) ≡ Some found) where
  abbrev ended : History
  ended = heard h (events.Step number) (answers.Ended number status)

  -- the other blobs live on as they did
  live_other : (name : ℕ) → (name == found.blob) ≡ false → is_live ended name ≡ is_live h name
  live_other name other = ap (λ b. is_some (holder h name) || b) (reads_left number found name (readers h) is stands.distinct other)

  module _ (rows : List Reader) (are : rows ≡ closed number s.readers) where
    -- the reader's blob is kept by somebody else
    pub kept-closed : is_live h found.blob ≡ true → is_live ended found.blob ≡ true → Stands l (record s { readers = rows }) ended
    kept-closed before after = record {
      same_limits = stands.same_limits;
      same_ended = stands.same_ended;
      same_renderers = stands.same_renderers;
      same_names = stands.same_names;
      same_blobs = stands.same_blobs
          ∙ sym (
          rows-same (blob_of l h) (blob_of l ended) (λ (build : Build). is_live h build.name) (λ (build : Build). is_live ended build.name) (builds h)
          (
          all_each (λ (build : Build). (is_live ended build.name ≡ is_live h build.name) × (blob_of l ended build ≡ blob_of l h build))
          (
          λ build. (
            ⊎_elim
                (
                λ (same : (build.name == found.blob) ≡ true).
                let name : build.name ≡ found.blob = eqb-true build.name found.blob same in
                ap (is_live ended) name ∙ after ∙ sym (ap (is_live h) name ∙ before)
                )
                (λ (other : (build.name == found.blob) ≡ false). live_other build.name other)
                (cases_Bool (build.name == found.blob)),
            refl,
          )
          )
          (builds h)
          )
          );
      same_pieces = stands.same_pieces;
      same_readers = are ∙ ap (closed number) stands.same_readers ∙ rows_left number (readers h);
      distinct = distinct_left number (readers h) stands.distinct;
      inside = inside_left h number (readers h) stands.inside;
      held = stands.held;
    }

    -- nobody keeps it: it goes
    live_gone : is_live ended found.blob ≡ false → (build : Build) → is_live ended build.name ≡ (is_live h build.name && not (found.blob == build.name))
    live_gone gone build =
        ⊎_elim
        (
        λ (same : (found.blob == build.name) ≡ true).
        ap (is_live ended) (sym (eqb-true found.blob build.name same)) ∙ gone ∙ sym
        (and_right (is_live h build.name) (not (found.blob == build.name)) (ap not same))
        )
        (
        λ (other : (found.blob == build.name) ≡ false).
        live_other build.name (apart found.blob build.name other) ∙ and-true (is_live h build.name) ∙ ap (λ b. is_live h build.name && not b) (sym other)
        )
        (cases_Bool (found.blob == build.name))

    pub kept-gone : is_live ended found.blob ≡ false → (shelf : Shelved) → shelf ≡ record s.shelf { blobs = without found.blob s.shelf.blobs }
        → Stands l (record s { shelf = shelf; readers = rows }) ended
    kept-gone gone shelf fewer = record {
      same_limits = stands.same_limits;
      same_ended = stands.same_ended;
      same_renderers = stands.same_renderers;
      same_names = stands.same_names;
      same_blobs = ap (λ (all : Shelved). all.blobs) fewer
          ∙ ap (without found.blob) stands.same_blobs
          ∙ sym (
          rows-without (blob_of l h) (blob_of l ended) (λ (build : Build). is_live h build.name) (λ (build : Build). is_live ended build.name)
          (λ (blob : Blob). not (found.blob == blob.name))
          (live_gone gone) (λ build stays. refl) (builds h)
          );
      same_pieces = ap (λ (all : Shelved). all.pieces) fewer ∙ stands.same_pieces;
      same_readers = are ∙ ap (closed number) stands.same_readers ∙ rows_left number (readers h);
      distinct = distinct_left number (readers h) stands.distinct;
      inside = inside_left h number (readers h) stands.inside;
      held = stands.held;
    }

-- the blob of an open reader lives
pub live-reader : (h : History) (number : ReaderId) (found : OpenReader) (some : List OpenReader) → find (has_number number) some ≡ Some found
    → is_read some found.blob ≡ true
live-reader h number found [] is = cc
live-reader h number found (reader ∷ some) is =
    ⊎_elim
    (
    λ (here : has_number number reader ≡ true).
    let first : Some reader ≡ Some found = rw here at is in
    let same : reader ≡ found = cc in
    or_left (found.blob == reader.blob) (is_read some found.blob) (eq-eqb found.blob reader.blob (ap (λ (each : OpenReader). each.blob) (sym same)))
    )
    (λ (there : has_number number reader ≡ false). or_right (found.blob == reader.blob) (is_read some found.blob)
    (live-reader h number found some (rw there at is)))
    (cases_Bool (has_number number reader))
