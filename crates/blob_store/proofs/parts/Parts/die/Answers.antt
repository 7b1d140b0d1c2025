-- A renderer that isn't alive, and one whose things went.
use Rattle.std.proofs.Common.{◌≡◌, [], ◌∷◌, None, ◌∙◌, subst, sym}
use Rattle.answer_text.specs.declared.answer.Answer.TheVariants as answers
use Rattle.store_laws.specs.TableLaws.{renderer_refusal}
use Rattle.blob_store.specs.declared.parts.Parts.{Parts}
use Rattle.session_script.specs.declared.event.Event.TheVariants as events
use Rattle.blob_model.specs.History.{history_from, start}
use Rattle.blob_model.specs.Live.{is_live}
use Rattle.blob_model.specs.Session.{page_limit}
use Rattle.store_laws.proofs.TableRefusals.{die_known}
use Rattle.blob_store.specs.Says.{scene, IsHeard, Says}
use Rattle.blob_store.specs.Seen.{parts_of}
use Rattle.blob_store.proofs.Heard.{heard_refused}
use Rattle.blob_store.proofs.HeardTables.{heard_die}
use Rattle.blob_store.proofs.parts.Parts.die.Goals as goal

pub returns-in-Some-clause-says : goal.returns-in-Some-clause-says
unfolding Says
returns-in-Some-clause-says c told table s groups legal still stands =
    heard_refused s groups c.args.self.now told table legal stands (events.Die c.args.renderer) c.in-Some.why
    (die_known s (history_from start groups) (is_live (page_limit s) (history_from start groups)) (parts_of c.args.self.now) told table stands.between
    c.args.renderer
    ∙ sym c.in-Some.ensures)

pub returns-clause-says : goal.returns-clause-says
unfolding Says
returns-clause-says c told table s groups legal still stands =
    let old = c.args.self.now in
    let dead = c.depart.new.self in
    let goes = c.depart.ensures.goes in
    let due : renderer_refusal c.args.renderer old.renderers ≡ None = sym c.renderer_refusal.ensures ∙ c.in_default.is in
    subst (λ (one : Parts). IsHeard s (history_from start groups) (events.Die c.args.renderer) (answers.Good ∷ []) (scene one told table)) (sym goes.rest)
    (heard_die s groups old told table legal stands c.args.renderer dead.registry dead.renderers dead.urls dead.readers due goes.same goes.departs goes.urls
    goes.readers)
