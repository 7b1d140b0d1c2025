-- What a step gives is the bytes that the cells stand for.
use Rattle.std.proofs.Common.{◌≡◌, ℕ, ◌≤◌, ◌==◌, min, true, false, List, [], ◌∷◌, length, map, take, drop, Option, None, Some, refl, sym, ◌∙◌, ap, subst, arith, length-take, length-drop, ⊎_elim}
use Rattle.std.specs.Prelude.{find, slice_index}
use Rattle.std.specs.Option.{option_map_or}
use Rattle.std.specs.List.{AllByRecursion, range_with_len}
use Rattle.std.proofs.lemmas.Bool.{cases_Bool, eqb-true, eq-eqb}
use Rattle.std.proofs.lemmas.List.{take-map, drop-map}
use Rattle.std.proofs.lemmas.List.FromFn.{fill_by_all}
use Rattle.std.proofs.lemmas.Simd.{map-map}
use Rattle.blob_words.specs.declared.limits.Limits.{Limits}
use Rattle.blob_words.specs.declared.status.Status.TheVariants as statuses
use Rattle.blob_words.specs.declared.number.ReaderId.{ReaderId}
use Rattle.answer_text.specs.declared.answer.Answer.TheVariants as answers
use Rattle.answer_text.specs.declared.refusal.Refusal.TheVariants as refusals
use Rattle.replay_run.specs.declared.store.Store.{Store}
use Rattle.replay_run.specs.History.{History}
use Rattle.replay_run.specs.Builds.{Build, builds, build_of, sent, cells, cells_of, size_of, value}
use Rattle.replay_run.specs.Readers.{OpenReader, readers}
use Rattle.replay_run.specs.Live.{is_live}
use Rattle.replay_run.specs.Chunk.{left, chunk, step_answer}
use Rattle.replay_run.specs.Own.{own_step}
use Rattle.replay_run.specs.Shelf.{blob_at, bytes_in}
use Rattle.replay_run.specs.Stands.{Stands, IsInside}
use Rattle.replay_run.proofs.LookupLemmas.{find_passes, sent_of, size_of-sent, bytes-row}
use Rattle.replay_run.proofs.ReaderLemmas.{has_number}

-- ---- cells and bytes

bytes_in_order : (xs : List ℕ) → map (λ (i : ℕ). slice_index xs i) (range_with_len 0 (length xs)) ≡ xs
bytes_in_order xs = sym (fill_by_all (λ (i : ℕ). slice_index xs i) xs (length xs) 0 refl (λ k below. refl))

values_in : (h : History) (name : ℕ) (o : Option Build) → build_of h name ≡ o → map (value h) (option_map_or cells o []) ≡ option_map_or sent o []
values_in h name None is = refl
values_in h name (Some build) is =
    let same : name ≡ build.name = eqb-true name build.name (find_passes (λ (each : Build). name == each.name) (builds h) build is) in
    let found : build_of h build.name ≡ Some build = ap (build_of h) (sym same) ∙ is in
    map-map (value h) (λ (index : ℕ). record { blob = build.name; index = index }) (range_with_len 0 (length (sent build)))
    ∙ ap (λ (o : Option Build). map (λ (index : ℕ). slice_index (option_map_or sent o []) index) (range_with_len 0 (length (sent build)))) found
    ∙ bytes_in_order (sent build)

-- the cells of a blob stand for the bytes that were sent for it
pub value-cells : (h : History) (name : ℕ) → map (value h) (cells_of h name) ≡ sent_of h name
value-cells h name = values_in h name (build_of h name) refl

value-range : (h : History) (name count place : ℕ) → map (value h) (take count (drop place (cells_of h name))) ≡ take count (drop place (sent_of h name))
value-range h name count place =
    sym (take-map (value h) count (drop place (cells_of h name)))
    ∙ ap (take count) (sym (drop-map (value h) place (cells_of h name)))
    ∙ ap (λ bytes. take count (drop place bytes)) (value-cells h name)

-- ---- the first answer of a step

found_inside : (h : History) (number : ReaderId) (found : OpenReader) (some : List OpenReader) → AllByRecursion (IsInside h) some → find (has_number number)
    some ≡ Some found → IsInside h found
found_inside h number found [] inside is = cc
found_inside h number found (reader ∷ some) inside is =
    ⊎_elim
    (
    λ (here : has_number number reader ≡ true).
    let first : Some reader ≡ Some found = rw here at is in
    let same : reader ≡ found = cc in
    subst (IsInside h) same inside.0
    )
    (λ (there : has_number number reader ≡ false). found_inside h number found some inside.1 (rw there at is))
    (cases_Bool (has_number number reader))

module _ (l : Limits) (h : History) (number : ReaderId) where
  pub step-no_reader : find (has_number number) (readers h) ≡ None → own_step l h number ≡ Some (answers.Refused (refusals.NoReader number))
  step-no_reader none = ap (λ (o : Option OpenReader). Some (option_map_or (step_answer l h number) o (answers.Refused (refusals.NoReader number)))) none

  module _ (found : OpenReader) (is : find (has_number number) (readers h) ≡ Some found) where
    step-found : own_step l h number ≡ Some (step_answer l h number found)
    step-found = ap (λ (o : Option OpenReader). Some (option_map_or (step_answer l h number) o (answers.Refused (refusals.NoReader number)))) is

    pub step-ended : left found ≡ 0 → own_step l h number ≡ Some (answers.Ended number statuses.Done)
    step-ended none = let nothing = eq-eqb (left found) 0 none in step-found ∙ rw nothing refl

    pub step-given : (left found == 0) ≡ false → own_step l h number ≡ Some (answers.Given number (map (value h) (chunk l h found)))
    step-given some = step-found ∙ rw some refl

module _ (l : Limits) (s : Store) (h : History) (number : ReaderId) (stands : Stands l s h) (found : OpenReader)
    (is : find (has_number number) (readers h) ≡ Some found) (alive : is_live h found.blob ≡ true) where
  -- the store's bytes are those of the chunk
  pub chunk-bytes : map (value h) (chunk l h found) ≡ take (min (left found) s.limits.chunk) (drop found.place (bytes_in (blob_at s.shelf.blobs found.blob)))
  chunk-bytes =
      value-range h found.blob (min (left found) l.chunk) found.place
      ∙ ap (λ bytes. take (min (left found) l.chunk) (drop found.place bytes)) (sym (bytes-row l s h stands found.blob alive))
      ∙ ap (λ (each : Limits). take (min (left found) each.chunk) (drop found.place (bytes_in (blob_at s.shelf.blobs found.blob)))) (sym stands.same_limits)

  -- and there are as many as asked for
  pub chunk-length : (count : ℕ) → count ≤ left found → length (take count (drop found.place (bytes_in (blob_at s.shelf.blobs found.blob)))) ≡ count
  chunk-length count fits =
      let bytes = bytes_in (blob_at s.shelf.blobs found.blob) in
      let inside : found.end ≤ size_of h found.blob = found_inside h number found (readers h) stands.inside is in
      let size : length bytes ≡ size_of h found.blob = ap length (bytes-row l s h stands found.blob alive) ∙ sym (size_of-sent h found.blob) in
      length-take count (drop found.place bytes) ∙ ap (min count) (length-drop found.place bytes) ∙ omega arith
