-- The store stands for the history after each kind of line.
use Rattle.std.proofs.Common.{◌≡◌, ℕ, ◌+◌, ◌≤◌, ◌==◌, true, false, ◌||◌, List, [], ◌∷◌, ◌++◌, length, map, filter, Option, None, Some, refl, sym, ◌∙◌, ap, arith, append-nil}
use Rattle.std.specs.Prelude.{find, flat_map, is_some}
use Rattle.std.specs.Option.{option_map_or, option_or}
use Rattle.std.specs.List.{AllByRecursion, list_any}
use Rattle.std.proofs.lemmas.Bool.{eq-eqb, eqb-false, ne_eqb, or_parts}
use Rattle.std.proofs.lemmas.List.{map-append}
use Rattle.std.proofs.lemmas.List.Elements.{filter-append}
use Rattle.std.proofs.lemmas.List.Concat.{flat_map-append}
use Rattle.std.proofs.lemmas.List.Folds.{list_any-append, find-append}
use Rattle.std.proofs.Math.ListN.{length-append}
use Rattle.session_script.specs.declared.event.Event.TheVariants as events
use Rattle.session_script.specs.declared.event.Part.{Part}
use Rattle.blob_words.specs.declared.limits.Limits.{Limits}
use Rattle.blob_words.specs.declared.plan.Plan.{Plan}
use Rattle.blob_words.specs.declared.number.RendererId.{RendererId}
use Rattle.indexmap.specs.IndexSet.{IndexSet}
use Rattle.answer_text.specs.declared.answer.Answer.TheVariants as answers
use Rattle.replay_run.specs.declared.store.Store.{Store}
use Rattle.replay_run.specs.History.{History, heard}
use Rattle.replay_run.specs.Builds.{Build, builds, is_built, sent, part_bytes, cells, size_of}
use Rattle.replay_run.specs.Readers.{OpenReader, readers}
use Rattle.replay_run.specs.Live.{holder, is_read, is_live}
use Rattle.replay_run.specs.Pieces.{pieces, build_pieces}
use Rattle.replay_run.specs.Measure.{piece_total}
use Rattle.replay_run.specs.Shelf.{Shelved}
use Rattle.replay_run.specs.Stands.{Stands, blob_of, live_builds, IsInside}
use Rattle.replay_run.proofs.PieceLemmas.{pieces_from-length}
use Rattle.replay_run.proofs.RowsLemmas.{rows-same, none_any}

same_name : (name : ℕ) → (name == name) ≡ true
same_name name = eq-eqb name name refl

-- ---- a build

module _ (l : Limits) (s : Store) (h : History) (renderer : RendererId) (name : ℕ) (kind : List ℕ) (parts : List Part) (plan : Plan) (stands : Stands l s h)
    (new : is_built h name ≡ false) where
  abbrev built : History
  built = heard h (events.Build renderer name kind parts) (answers.Planned plan)

  abbrev build : Build
  build = record { name = name; parts = parts }

  old_rows : (some : List Build) → AllByRecursion (λ (each : Build). (name == each.name) ≡ false) some
      → AllByRecursion (λ (each : Build). (is_live built each.name ≡ is_live h each.name) × (blob_of l built each ≡ blob_of l h each)) some
  old_rows [] others = tt
  old_rows (each ∷ some) others = (rw others.0 (refl, refl), old_rows some others.1)

  holder_new : holder built name ≡ Some renderer
  holder_new = rw (same_name name) refl

  new_row : map (blob_of l built) (filter (λ (each : Build). is_live built each.name) (build ∷ []))
      ≡ record { name = name; holder = Some renderer; bytes = sent build; pieces = length (build_pieces l.page build) } ∷ []
  new_row =
      let kept : is_live built name ≡ true = ap (λ (o : Option RendererId). is_some o || is_read (readers h) name) holder_new in
      rw kept (ap (λ (o : Option RendererId). record { name = name; holder = o; bytes = sent build; pieces = length (build_pieces l.page build) } ∷ [])
      holder_new)

  rows_built : map (blob_of l built) (live_builds built) ≡ map (blob_of l h) (live_builds h)
      ++ record { name = name; holder = Some renderer; bytes = sent build; pieces = length (build_pieces l.page build) } ∷ []
  rows_built =
      let live = λ (each : Build). is_live built each.name in
      ap (map (blob_of l built)) (filter-append live (builds h) (build ∷ []))
      ∙ map-append (blob_of l built) (filter live (builds h)) (filter live (build ∷ []))
      ∙ ap (λ rows. rows ++ map (blob_of l built) (filter live (build ∷ [])))
      (
      rows-same (blob_of l h) (blob_of l built) (λ (each : Build). is_live h each.name) live (builds h)
      (old_rows (builds h) (none_any (λ (each : Build). name == each.name) (builds h) new))
      )
      ∙ ap (λ rows. map (blob_of l h) (live_builds h) ++ rows) new_row

  pieces_built : length (pieces l built) ≡ length (pieces l h) + piece_total l.page parts
  pieces_built =
      ap length (flat_map-append (build_pieces l.page) (builds h) (build ∷ []))
      ∙ length-append (pieces l h) (build_pieces l.page build ++ [])
      ∙ ap (λ n. length (pieces l h) + n) (ap length (append-nil (build_pieces l.page build)) ∙ pieces_from-length l.page name 0 parts)

  grown : (o more : Option Build) → length (option_map_or cells o []) ≤ length (option_map_or cells (option_or o more) [])
  grown None more = omega arith
  grown (Some found) more = omega arith

  -- no blob loses bytes
  size-built : (other : ℕ) → size_of h other ≤ size_of built other
  size-built other =
      let here = λ (each : Build). other == each.name in
      let found = find-append here (builds h) (build ∷ []) in
      rw found (grown (find here (builds h)) (find here (build ∷ [])))

  still_inside : (some : List OpenReader) → AllByRecursion (IsInside h) some → AllByRecursion (IsInside built) some
  still_inside [] inside = tt
  still_inside (reader ∷ some) inside = (omega (arith, inside.0, size-built reader.blob), still_inside some inside.1)

  held_built : (other : ℕ) → is_built built other ≡ false → holder built other ≡ None
  held_built other unbuilt =
      let parts = or_parts (is_built h other) (list_any (λ (each : Build). other == each.name) (build ∷ []))
      (sym (list_any-append (λ (each : Build). other == each.name) (builds h) (build ∷ [])) ∙ unbuilt) in
      let apart : (other == name) ≡ false = (or_parts (other == name) false parts.1).0 in
      let apart' : (name == other) ≡ false = ne_eqb name other (λ same. eqb-false other name apart (sym same)) in
      rw apart' (stands.held other parts.0)

  pub kept-build : (names : IndexSet ℕ _) (shelf : Shelved) → names.keys ≡ s.names.keys ++ name ∷ []
      → shelf ≡ record {
        blobs = s.shelf.blobs ++ record { name = name; holder = Some renderer; bytes = flat_map part_bytes parts; pieces = piece_total l.page parts } ∷ [];
        pieces = s.shelf.pieces + piece_total l.page parts;
      } → Stands l (record s { names = names; shelf = shelf }) built
  kept-build names shelf keys rows = record {
    same_limits = stands.same_limits;
    same_ended = stands.same_ended;
    same_renderers = stands.same_renderers;
    same_names = keys ∙ ap (λ all. all ++ name ∷ []) stands.same_names ∙ sym (map-append (λ (each : Build). each.name) (builds h) (build ∷ []));
    same_blobs = ap (λ (all : Shelved). all.blobs) rows
        ∙ ap (λ all. all ++ record { name = name; holder = Some renderer; bytes = flat_map part_bytes parts; pieces = piece_total l.page parts } ∷ [])
        stands.same_blobs
        ∙ ap (λ (n : ℕ). map (blob_of l h) (live_builds h) ++ record { name = name; holder = Some renderer; bytes = flat_map part_bytes parts; pieces = n }
        ∷ []) (sym (pieces_from-length l.page name 0 parts))
        ∙ sym rows_built;
    same_pieces = ap (λ (all : Shelved). all.pieces) rows ∙ ap (λ n. n + piece_total l.page parts) stands.same_pieces ∙ sym pieces_built;
    same_readers = stands.same_readers;
    distinct = stands.distinct;
    inside = still_inside (readers h) stands.inside;
    held = held_built;
  }
