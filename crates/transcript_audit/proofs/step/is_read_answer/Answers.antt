-- The first cell that fails, where one does.
use Rattle.std.proofs.Common.{◌≡◌, ℕ, not, List, Some, map, sym, ap, ◌∙◌, arith}
use Rattle.std.specs.Prelude.{find, take_while, slice_get}
use Rattle.std.specs.Option.{option_map}
use Rattle.std.proofs.lemmas.List.{length-map}
use Rattle.std.proofs.lemmas.Option.{slice_get-map, slice_get_past}
use Rattle.blob_model.specs.Builds.{Cell}
use Rattle.blob_model.specs.Chunk.{fails, first_failing, before_failing}
use Rattle.history_notions.specs.Kept.{Note}
use Rattle.transcript_audit.specs.declared.cells.At.{At}
use Rattle.transcript_audit.specs.Cells.{cell_of, fails_in}
use Rattle.transcript_audit.proofs.CellReads.{fails_same, find_alike, while_alike}
use Rattle.transcript_audit.proofs.GoodCells.{got}
use Rattle.transcript_audit.proofs.step.is_read_answer.Goals as goal

pub returns-then-good-cells : goal.returns-then-good-cells
returns-then-good-cells c = λ s h follows.
    let items : List At = c.args.cells.now in
    let cells : List Cell = map cell_of items in
    let good : ℕ = c.good_count-good.result in
    let first : first_failing h cells ≡ slice_get cells good =
    sym
    (ap (λ (notes : List Note). find (fails_in notes) cells) c.as_slice.ensures
    ∙ find_alike (fails_in c.args.contents.now.kept.notes) (fails h) (fails_same s h c.args.contents.now follows) cells)
    ∙ c.good_count-good.ensures.first in
    c.in_ok-is_own.ensures s h follows (first ∙ slice_get_past cells good (omega (arith, length-map items cell_of)))

pub returns : goal.returns
returns c = λ s h follows.
    let items : List At = c.args.cells.now in
    let cells : List Cell = map cell_of items in
    let good : ℕ = c.good_count-good.result in
    let x : At = c.index-cells-good.result in
    let first : first_failing h cells ≡ slice_get cells good =
    sym
    (ap (λ (notes : List Note). find (fails_in notes) cells) c.as_slice.ensures
    ∙ find_alike (fails_in c.args.contents.now.kept.notes) (fails h) (fails_same s h c.args.contents.now follows) cells)
    ∙ c.good_count-good.ensures.first in
    let found : slice_get cells good ≡ Some (cell_of x) =
    slice_get-map cell_of items good ∙ ap (option_map cell_of) (got items good x (omega (arith, c.good_count-good.ensures.within)) c.index-cells-good.is) in
    let before : before_failing h cells ≡ map cell_of c.front-before.result.now =
    sym
    (ap (λ (notes : List Note). take_while (λ (cell : Cell). not (fails_in notes cell)) cells) c.as_slice.ensures
    ∙ while_alike (λ (cell : Cell). not (fails_in c.args.contents.now.kept.notes cell)) (λ (cell : Cell). not (fails h cell))
    (λ (cell : Cell). ap not (fails_same s h c.args.contents.now follows cell)) cells)
    ∙ c.good_count-good.ensures.before
    ∙ sym (ap (map cell_of) c.front-before.ensures) in
    c.is_changed_answer.ensures s h cells follows (first ∙ found) before
