-- The store stands for the history after a reader was opened, moved on or closed.
use Rattle.std.proofs.Common.{◌≡◌, ℕ, ◌+◌, ◌≤◌, ◌==◌, Bool, true, false, ◌||◌, List, [], ◌∷◌, ◌++◌, map, Option, Some, refl, sym, ◌∙◌, ap, ⊎_elim}
use Rattle.std.specs.Prelude.{find, is_some}
use Rattle.std.specs.List.{AllByRecursion, list_any}
use Rattle.std.proofs.lemmas.Bool.{cases_Bool, eqb-true, eqb-false, ne_eqb, or_left, or_right, or_from, or_parts}
use Rattle.std.proofs.lemmas.List.{map-append}
use Rattle.std.proofs.lemmas.List.Folds.{list_any-append}
use Rattle.session_script.specs.declared.event.Event.TheVariants as events
use Rattle.blob_words.specs.declared.limits.Limits.{Limits}
use Rattle.blob_words.specs.declared.number.ReaderId.{ReaderId}
use Rattle.blob_words.specs.declared.number.RendererId.{RendererId}
use Rattle.answer_text.specs.declared.answer.Answer.TheVariants as answers
use Rattle.replay_run.specs.declared.store.Store.{Store}
use Rattle.replay_run.specs.declared.store.reader.Reader.{Reader}
use Rattle.replay_run.specs.History.{History, heard}
use Rattle.replay_run.specs.Builds.{Build, builds, size_of}
use Rattle.replay_run.specs.Readers.{OpenReader, readers, range_end, advanced}
use Rattle.replay_run.specs.Live.{holder, is_read, is_live}
use Rattle.replay_run.specs.Own.{is_open}
use Rattle.replay_run.specs.Open.{placed}
use Rattle.replay_run.specs.Stands.{Stands, blob_of, reader_of, AreDistinct, IsInside}
use Rattle.replay_run.proofs.RowsLemmas.{rows-same}

pub all_each : {X : Type 0} (P : X → Type 0) → ((x : X) → P x) → (xs : List X) → AllByRecursion P xs
all_each P each [] = tt
all_each P each (x ∷ xs) = (each x, all_each P each xs)

pub or-false : (b : Bool) → (b || false) ≡ b
or-false true = refl
or-false false = refl

pub apart : (a b : ℕ) → (a == b) ≡ false → (b == a) ≡ false
apart a b other = ne_eqb b a (λ same. eqb-false a b other (sym same))

-- whether the reader has this number
abbrev pub has_number : ReaderId → OpenReader → Bool
has_number number reader = number.0 == reader.number.0

AreDistinct-push : (some : List OpenReader) (new : OpenReader) → list_any (has_number new.number) some ≡ false → AreDistinct some
    → AreDistinct (some ++ new ∷ [])
AreDistinct-push [] new unused distinct = (refl, tt)
AreDistinct-push (reader ∷ some) new unused distinct =
    let parts = or_parts (has_number new.number reader) (list_any (has_number new.number) some) unused in
    let last : list_any (has_number reader.number) (new ∷ []) ≡ false = or_from (has_number reader.number new) false
    (apart new.number.0 reader.number.0 parts.0) refl in (
      list_any-append (has_number reader.number) some (new ∷ [])
          ∙ or_from (list_any (has_number reader.number) some) (list_any (has_number reader.number) (new ∷ [])) distinct.0 last,
      AreDistinct-push some new parts.1 distinct.1,
    )

inside-push : (h : History) (some : List OpenReader) (new : OpenReader) → AllByRecursion (IsInside h) some → IsInside h new → AllByRecursion (IsInside h)
    (some ++ new ∷ [])
inside-push h [] new inside fits = (fits, tt)
inside-push h (reader ∷ some) new inside fits = (inside.0, inside-push h some new inside.1 fits)

-- ---- a reader is opened

module _ (l : Limits) (s : Store) (h : History) (renderer : RendererId) (number : ReaderId) (name off : ℕ) (len : Option ℕ) (size : ℕ) (kind : List ℕ)
    (stands : Stands l s h)
    (alive : is_live h name ≡ true) (unused : is_open h number ≡ false) where
  abbrev opened : History
  opened = heard h (events.Read renderer number name off len) (answers.Opened number size kind)

  abbrev reader : OpenReader
  reader = record { number = number; blob = name; place = off; end = range_end size off len }

  live_opened : (build : Build) → is_live opened build.name ≡ is_live h build.name
  live_opened build =
      let reads : is_read (readers opened) build.name ≡ (is_read (readers h) build.name || ((build.name == name) || false)) =
      list_any-append (λ (each : OpenReader). build.name == each.blob) (readers h) (reader ∷ []) in
      ⊎_elim
      (
      λ (same : (build.name == name) ≡ true).
      let living : is_live h build.name ≡ true = ap (is_live h) (eqb-true build.name name same) ∙ alive in
      let read : is_read (readers opened) build.name ≡ true = reads ∙ or_right (is_read (readers h) build.name) ((build.name == name) || false)
      (or_left (build.name == name) false same) in
      or_right (is_some (holder h build.name)) (is_read (readers opened) build.name) read ∙ sym living
      )
      (
      λ (other : (build.name == name) ≡ false).
      let read : is_read (readers opened) build.name ≡ is_read (readers h) build.name = reads ∙ rw other (or-false (is_read (readers h) build.name)) in
      ap (λ b. is_some (holder h build.name) || b) read
      )
      (cases_Bool (build.name == name))

  pub kept-opened : range_end size off len ≤ size_of h name → (all : List Reader) → all ≡ s.readers ++ reader_of reader ∷ []
      → Stands l (record s { readers = all }) opened
  kept-opened fits all rows = record {
    same_limits = stands.same_limits;
    same_ended = stands.same_ended;
    same_renderers = stands.same_renderers;
    same_names = stands.same_names;
    same_blobs = stands.same_blobs
        ∙ sym (
        rows-same (blob_of l h) (blob_of l opened) (λ (build : Build). is_live h build.name) (λ (build : Build). is_live opened build.name) (builds h)
        (all_each (λ (build : Build). (is_live opened build.name ≡ is_live h build.name) × (blob_of l opened build ≡ blob_of l h build))
        (λ build. (live_opened build, refl)) (builds h))
        );
    same_pieces = stands.same_pieces;
    same_readers = rows ∙ ap (λ rows'. rows' ++ reader_of reader ∷ []) stands.same_readers ∙ sym (map-append reader_of (readers h) (reader ∷ []));
    distinct = AreDistinct-push (readers h) reader unused stands.distinct;
    inside = inside-push h (readers h) reader stands.inside fits;
    held = stands.held;
  }

-- ---- a reader moves on

others_stay : (number : ReaderId) (place count : ℕ) (some : List OpenReader) → list_any (has_number number) some ≡ false → map (placed number place)
    (map reader_of some) ≡ map reader_of (map (advanced number count) some)
others_stay number place count [] none = refl
others_stay number place count (reader ∷ some) none =
    let parts = or_parts (has_number number reader) (list_any (has_number number) some) none in
    rw parts.0 (ap (λ rows. reader_of reader ∷ rows) (others_stay number place count some parts.1))

pub one_moves : (number : ReaderId) (place count : ℕ) (found : OpenReader) (some : List OpenReader) → find (has_number number) some ≡ Some found
    → AreDistinct some → place ≡ found.place + count
    → map (placed number place) (map reader_of some) ≡ map reader_of (map (advanced number count) some)
one_moves number place count found [] is distinct is_at = cc
one_moves number place count found (reader ∷ some) is distinct is_at =
    ⊎_elim
    (
    λ (here : has_number number reader ≡ true).
    let first : Some reader ≡ Some found = rw here at is in
    let same : reader ≡ found = cc in
    let rest : list_any (has_number number) some ≡ false = ap (λ (n : ℕ). list_any (λ (each : OpenReader). n == each.number.0) some)
    (eqb-true number.0 reader.number.0 here) ∙ distinct.0 in
    let moved : place ≡ reader.place + count = is_at ∙ ap (λ (each : OpenReader). each.place + count) (sym same) in
    rw here (
    ap (λ (n : ℕ). record { number = reader.number; blob = reader.blob; place = n; end = reader.end } ∷ map (placed number place) (map reader_of some)) moved
    ∙ ap (λ rows. record { number = reader.number; blob = reader.blob; place = reader.place + count; end = reader.end } ∷ rows)
    (others_stay number place count some rest)
    )
    )
    (
    λ (there : has_number number reader ≡ false).
    rw there (ap (λ rows. reader_of reader ∷ rows) (one_moves number place count found some (rw there at is) distinct.1 is_at))
    )
    (cases_Bool (has_number number reader))

module _ (number : ReaderId) (count : ℕ) where
  same_blob : (reader : OpenReader) → (advanced number count reader).blob ≡ reader.blob
  same_blob reader = ⊎_elim (λ (here : has_number number reader ≡ true). rw here refl) (λ (there : has_number number reader ≡ false). rw there refl)
      (cases_Bool (has_number number reader))

  same_number : (reader : OpenReader) → (advanced number count reader).number ≡ reader.number
  same_number reader = ⊎_elim (λ (here : has_number number reader ≡ true). rw here refl) (λ (there : has_number number reader ≡ false). rw there refl)
      (cases_Bool (has_number number reader))

  same_end : (reader : OpenReader) → (advanced number count reader).end ≡ reader.end
  same_end reader = ⊎_elim (λ (here : has_number number reader ≡ true). rw here refl) (λ (there : has_number number reader ≡ false). rw there refl)
      (cases_Bool (has_number number reader))

  pub reads_moved : (name : ℕ) (some : List OpenReader) → is_read (map (advanced number count) some) name ≡ is_read some name
  reads_moved name [] = refl
  reads_moved name (reader ∷ some) = rw (same_blob reader, reads_moved name some) refl

  used_moved : (other : ReaderId) (some : List OpenReader) → list_any (has_number other) (map (advanced number count) some) ≡ list_any (has_number other) some
  used_moved other [] = refl
  used_moved other (reader ∷ some) = rw (same_number reader, used_moved other some) refl

  pub distinct_moved : (some : List OpenReader) → AreDistinct some → AreDistinct (map (advanced number count) some)
  distinct_moved [] distinct = tt
  distinct_moved (reader ∷ some) distinct = (
    ap (λ (n : ReaderId). list_any (has_number n) (map (advanced number count) some)) (same_number reader) ∙ used_moved reader.number some ∙ distinct.0,
    distinct_moved some distinct.1,
  )

  pub inside_moved : (h : History) (some : List OpenReader) → AllByRecursion (IsInside h) some → AllByRecursion (IsInside h) (map (advanced number count) some)
  inside_moved h [] inside = tt
  inside_moved h (reader ∷ some) inside = (rw (same_end reader, same_blob reader) inside.0, inside_moved h some inside.1)
