-- The pieces of one blob more.
use Rattle.std.proofs.Common.{ap, sym, ◌∙◌}
use Rattle.blob_model.specs.Pieces.{pieces_from}
use Rattle.history_notions.proofs.PieceNumbers.{pieces_grow}
use Rattle.history_notions.proofs.contents.Contents.put_made.Goals as goal

pub returns-in_ok-push-clause-pieces : goal.returns-in_ok-push-clause-pieces
returns-in_ok-push-clause-pieces c = λ same.
    c.in_ok-put_pieces.ensures
    ∙ pieces_grow c.args.self.now.limits.page c.args.self.now.builds c.args.self.now.pieces c.in-Some.build same
    ∙ ap (pieces_from c.args.self.now.limits.page 0) (sym c.in_ok-push.ensures)
