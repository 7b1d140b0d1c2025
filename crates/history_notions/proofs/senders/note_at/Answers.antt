-- Of a blob none of whose runs has own bytes of a piece's blob no cell is the piece's.
use Rattle.std.proofs.Common.{rules, ◌≡◌, ℕ, ◌||◌, false, List, Option, Some, None, sym, ap, ◌∙◌}
use Rattle.std.specs.Prelude.{is_some, slice_get}
use Rattle.std.specs.List.{list_any}
use Rattle.std.specs.Option.{option_map_or}
use Rattle.std.specs.Ordering.{nat_cmp}
use Rattle.std.specs.BTreeMap as tree
use Rattle.std.proofs.lemmas.Result.{on_ok_weaker}
use Rattle.blob_model.specs.Builds.{Build}
use Rattle.history_notions.specs.declared.run.Run.{Run}
use Rattle.history_notions.specs.Reach.{has_cell, is_sent}
use Rattle.history_notions.proofs.FirstPlaces.{got_at}
use Rattle.history_notions.proofs.Sending.{neither, unsent_cells}
use Rattle.history_notions.proofs.senders.note_at.Goals as goal

pub returns-in-Some : goal.returns-in-Some
returns-in-Some c = on_ok_weaker c.note_runs.result
    (λ said piece unsent.
    let builds : List Build = c.args.builds.now in
    let runs : List Run = c.build.inside.runs in
    let parts = neither (is_some (tree.get nat_cmp c.args.names.now piece.blob)) (list_any (is_sent piece.blob) c.as_slice.result.now) (sym (said piece.blob) ∙ unsent) in
    let there : Some c.in-Some.build.now ≡ slice_get builds c.args.place =
    got_at (Some c.in-Some.build) builds c.args.place c.in-Some.ensures.lookup.1 c.in-Some.ensures.lookup.3 in
    let none : list_any (is_sent piece.blob) runs ≡ false = ap (list_any (is_sent piece.blob)) (sym c.as_slice.ensures) ∙ parts.1 in (
      parts.0,
      ap (λ (found : Option Build). option_map_or (has_cell piece) found false) (sym there)
          ∙ ap (has_cell piece) (sym c.build.view_is)
          ∙ unsent_cells piece runs none,
    ))
    c.note_runs.ensures

pub returns-in-None : goal.returns-in-None
returns-in-None c = λ piece unsent.
    let there : None ≡ slice_get c.args.builds.now c.args.place =
    got_at None c.args.builds.now c.args.place c.in-None.ensures.lookup.1 c.in-None.ensures.lookup.3 in
    (unsent, ap (λ (found : Option Build). option_map_or (has_cell piece) found false) (sym there))
