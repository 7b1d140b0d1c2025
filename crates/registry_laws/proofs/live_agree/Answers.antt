-- The law as it was proved.
use Rattle.std.proofs.Common.{ℕ, List, ap, subst, sym, ◌∙◌}
use Rattle.blob_entries.specs.Standing.{standing}
use Rattle.blob_registry.specs.Sweeps.{swept}
use Rattle.blob_model.specs.Builds.{Build, builds}
use Rattle.blob_model.specs.Order.{named}
use Rattle.blob_model.specs.Live.{is_live}
use Rattle.blob_model.specs.Session.{page_limit}
use Rattle.registry_laws.proofs.Drops.{dropped_so}
use Rattle.registry_laws.proofs.Lives.{behind_all, live_living, standing_living}
use Rattle.registry_laws.proofs.Places.{ArePlaced, names_of, placed}
use Rattle.registry_laws.proofs.live_agree.Goals as goal

pub returns : goal.returns
returns c s h book tell =
    let page = (page_limit s) in
    let list = builds (page_limit s) h in
    let at : ArePlaced book.names 0 list = subst (λ (names : List ℕ). ArePlaced names 0 list) (sym tell.agree.names) (placed list tell.distinct) in
    record {
      left = ap (λ (names : List ℕ). standing names (swept book.names 0 book.entries)) tell.agree.names
          ∙ standing_living page h book.names book.entries tell.sound 0 list book.entries at tell.agree.each (behind_all book.entries)
          ∙ ap names_of (sym (live_living page h));
      dropped = dropped_so page h book.names book.entries tell.sound (is_live page h) 0 list book.entries tell.distinct at tell.agree.each
          (behind_all book.entries)
          (λ name there. ap (λ (xs : List Build). named name xs) (live_living page h));
    }
