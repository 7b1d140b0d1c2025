-- The compaction that is owed is told, behind which the parts agree.
use Rattle.std.proofs.Common.{subst, sym}
use Rattle.std.proofs.lemmas.Result.{on_ok_weaker}
use Rattle.blob_store.specs.Telling.{Tells}
use Rattle.blob_store.specs.Whole.{IsWhole, Whole}
use Rattle.blob_store.proofs.Compactions.{move_told, none_moves, whole_moving}
use Rattle.blob_store.proofs.parts.Parts.start_compaction.Goals as goal

pub returns-in_default-clause-tells : goal.returns-in_default-clause-tells
unfolding Tells IsWhole
returns-in_default-clause-tells c told table s h late =
    none_moves c.args.self.now c.requires.whole c.requires.swept s h told table late c.args.answers.now (sym c.in_default.ensures)

pub returns-clause-whole : goal.returns-clause-whole
unfolding IsWhole
returns-clause-whole c =
    on_ok_weaker c.push.result
    (λ pushed. subst Whole (sym c.in-Ok.ensures.starts) (whole_moving c.args.self.now c.in-Some.page c.requires.whole)) c.push.ensures.ok

pub returns-clause-tells : goal.returns-clause-tells
unfolding Tells IsWhole
returns-clause-tells c =
    on_ok_weaker c.push.result
    (λ pushed told table s h late.
    move_told c.args.self.now c.requires.whole c.requires.swept s h told table late c.in-Some.page c.in-Ok.number c.in-Ok.pieces
    c.begin_compaction.new.self c.args.answers.now c.push.new.self (sym c.in-Some.ensures) c.in-Ok.ensures.number c.in-Ok.ensures.pieces
    c.in-Ok.ensures.starts pushed) c.push.ensures.ok
