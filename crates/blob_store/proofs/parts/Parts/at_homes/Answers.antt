-- One more piece at home.
use Rattle.std.proofs.Common.{◌++◌, List, get_or, subst, sym, take, ◌∷◌, []}
use Rattle.std.proofs.lemmas.List.{take_more}
use Rattle.blob_store.proofs.PageJobs.{more_at_home}
use Rattle.blob_store.specs.Paging.{AreAtHome}
use Rattle.blob_words.specs.declared.number.PieceNo.{PieceNo}
use Rattle.blob_store.proofs.parts.Parts.at_homes.Goals as goal

pub loop-piece-preserved : goal.loop-piece-preserved
loop-piece-preserved c =
    let parts = c.args.self.now in
    let pieces = c.args.pieces.now in
    let i = c.loop-piece.piece-index in
    let piece = get_or pieces i (record { 0 = 0 }) in
    subst (λ (list : List PieceNo). AreAtHome parts.homes parts.shares list c.push.new.self.items) (sym (take_more pieces i (record { 0 = 0 }) c.loop-piece-test.true))
    (subst (AreAtHome parts.homes parts.shares (take i pieces ++ piece ∷ [])) (sym c.in_ok-push.ensures.items)
    (more_at_home parts.homes parts.shares (take i pieces) c.loop-piece.given.items piece c.at_home.result c.loop-piece.invariant
    c.at_home.ensures.piece c.at_home.ensures.home))
