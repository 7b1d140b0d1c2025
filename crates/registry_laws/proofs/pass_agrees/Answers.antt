-- The law as it was proved.
use Rattle.std.proofs.Common.{◌≡◌, ℕ, List, [], ap, subst, sym, ◌∙◌, arith}
use Rattle.blob_model.specs.Builds.{Build, builds}
use Rattle.blob_model.specs.History.{said_all}
use Rattle.blob_model.specs.Settle.{endings}
use Rattle.blob_model.proofs.live.Agreement.{builds_all}
use Rattle.blob_model.specs.Session.{page_limit}
use Rattle.registry_laws.specs.Agree.{Agrees, Beside}
use Rattle.registry_laws.proofs.Lives.{behind_all}
use Rattle.registry_laws.proofs.Passed.{pass_agrees}
use Rattle.registry_laws.proofs.Places.{ArePlaced, names_of, placed}
use Rattle.registry_laws.proofs.pass_agrees.Goals as goal

pub returns : goal.returns
returns c s h before after list tell marks finishes =
    let page = (page_limit s) in
    let all = builds (page_limit s) h in
    let at : ArePlaced before.names 0 all = subst (λ (names : List ℕ). ArePlaced names 0 all) (sym tell.agree.names) (placed all tell.distinct) in
    let same : builds page (said_all h (endings s h)) ≡ all = builds_all page h (endings s h) in
    record {
      names = finishes.names ∙ tell.agree.names ∙ ap names_of (sym same);
      each = subst (λ (blobs : List Build). Beside (Agrees page (said_all h (endings s h))) blobs after.entries) (sym same)
          (pass_agrees s before.names before.entries tell.sound after.entries finishes.each [] h all before.entries after.entries tell.distinct at
          tell.agree.each marks (behind_all before.entries) (record { known = λ name k entry below. absurd (omega arith) })
          (record { alike = λ k below. absurd (omega arith) }) (behind_all after.entries) (sym finishes.sized));
    }
