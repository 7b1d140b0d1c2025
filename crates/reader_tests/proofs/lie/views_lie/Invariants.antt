use Rattle.std.proofs.Common.{ℕ, List, None, take}
use Rattle.std.specs.List.{AllByRecursion}
use Rattle.data_handles.specs.Boxes.{of_table}
use Rattle.file_table.specs.declared.file_note.FileNote.{FileNote}
use Rattle.range_reader.specs.Bytes.{origins}
use Rattle.range_reader.specs.Places.{ViewLies}
use Rattle.reader_tests.proofs.lie.views_lie.Given as goal

-- the views so far lie inside their items
abbrev pub invariant-loop-view : goal.invariant-loop-view
invariant-loop-view g l = (files : List (List ℕ × FileNote)) →
    AllByRecursion
    (ViewLies (origins files None (of_table (λ boxed. (goal.DataHandle-dyn g (boxed.object.vtable, boxed.object.value)).seen boxed.object.value) l.handles))
    l.shares) (take l.view-index l.views)
