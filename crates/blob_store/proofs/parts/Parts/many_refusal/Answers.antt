-- A blob without a status at its line doesn't break there.
use Rattle.std.proofs.Common.{◌≡◌, Bool, Option, IfOk, sym, ap, subst, ◌∙◌}
use Rattle.std.specs.Prelude.{is_none}
use Rattle.blob_words.specs.declared.status.Status.{Status}
use Rattle.blob_model.specs.Choice.{first_that}
use Rattle.store_laws.specs.Deciding.{many_in}
use Rattle.blob_store.specs.Seen.{parts_of}
use Rattle.blob_store.proofs.parts.Parts.many_refusal.Goals as goal

pub returns-in-None : goal.returns-in-None
returns-in-None g c =
    subst (λ (b : Bool). IfOk c.much_refusal.result (λ why. why ≡ first_that (many_in (parts_of c.args.self.now) b c.args.parts.now)))
    (sym (ap (λ (status : Option Status). is_none status) (sym c.in_ok-status.ensures.value ∙ c.in-None.is))) c.much_refusal.ensures
