use Rattle.std.proofs.Common.{◌∙◌, sym}
use Rattle.page_files.proofs.Places.{none_left}
use Rattle.page_files.proofs.piece_table.PieceTable.bytes.Goals as goal

pub returns-clause-none : goal.returns-clause-none
returns-clause-none c = λ none. sym c.self.view_is ∙ none_left c.self.inside.places.entries c.self.invariant.1 (sym c.self.invariant.0 ∙ none)
