-- The law as it was proved.
use Rattle.std.proofs.Common.{ℕ, List, [], subst, sym, arith}
use Rattle.blob_model.specs.Builds.{builds}
use Rattle.blob_model.specs.Session.{page_limit}
use Rattle.registry_laws.proofs.Lives.{behind_all}
use Rattle.registry_laws.proofs.Pass.{endings_so}
use Rattle.registry_laws.proofs.Places.{ArePlaced, placed}
use Rattle.registry_laws.proofs.endings_agree.Goals as goal

pub returns : goal.returns
returns c s h book tell marks =
    let list = builds (page_limit s) h in
    let at : ArePlaced book.names 0 list = subst (λ (names : List ℕ). ArePlaced names 0 list) (sym tell.agree.names) (placed list tell.distinct) in
    endings_so s book.names book.entries tell.sound [] h list book.entries tell.distinct at tell.agree.each marks (behind_all book.entries)
    (record { known = λ name k entry below. absurd (omega arith) })
