-- A refusal, and what is told of what stands.
use Rattle.std.proofs.Common.{[], ◌∷◌, List, ℕ, ◌∙◌, sym, subst}
use Rattle.answer_text.specs.declared.answer.Answer.TheVariants as answers
use Rattle.session_script.specs.declared.event.Event.TheVariants as events
use Rattle.blob_model.specs.History.{history_from, start}
use Rattle.blob_model.specs.Live.{is_live}
use Rattle.blob_model.specs.Session.{page_limit}
use Rattle.store_laws.proofs.LineRefusals.{stat_refusal}
use Rattle.blob_store.specs.Says.{scene, IsHeard, Says}
use Rattle.blob_store.specs.Seen.{parts_of}
use Rattle.blob_store.proofs.Heard.{heard_refused, heard_stat}
use Rattle.blob_store.proofs.parts.Parts.stat.Goals as goal

pub returns-in-Some : goal.returns-in-Some
unfolding Says
returns-in-Some c told table s groups legal still stands =
    heard_refused s groups c.args.self.now told table legal stands (events.Stat c.args.renderer c.args.name) c.in-Some.why
    (stat_refusal s (history_from start groups) (is_live (page_limit s) (history_from start groups)) (parts_of c.args.self.now) told table stands.between
    c.args.renderer c.args.name
    ∙ sym c.in-Some.ensures)

pub returns : goal.returns
unfolding Says
returns c told table s groups legal still stands =
    subst (λ (kind : List ℕ). IsHeard s (history_from start groups) (events.Stat c.args.renderer c.args.name)
    (answers.Told c.args.name c.entry_held-entry.result.now.size kind c.entry_held-entry.result.now.status ∷ []) (scene c.args.self.now told table))
    (sym (c.in-Ok.ensures ∙ c.as_slice.ensures))
    (heard_stat s groups c.args.self.now told table legal stands c.args.renderer c.args.name c.entry_held-entry.result.now
    (sym c.handle_refusal.ensures ∙ c.in_default.is)
    (sym c.entry_held-entry.ensures))
