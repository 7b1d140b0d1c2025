-- A job that is lost, and one that isn't in flight.
use Rattle.std.proofs.Common.{[], ◌∷◌, ap, subst, sym}
use Rattle.answer_text.specs.declared.answer.Answer.TheVariants as answers
use Rattle.answer_text.specs.declared.refusal.Refusal.TheVariants as refusals
use Rattle.session_script.specs.declared.event.Event.TheVariants as events
use Rattle.page_files.specs.Files.{Files}
use Rattle.blob_model.specs.History.{history_from, start}
use Rattle.blob_store.specs.Says.{scene, IsHeard, Says}
use Rattle.blob_store.specs.Whole.{IsWhole, Whole}
use Rattle.blob_store.proofs.Heard.{heard_still}
use Rattle.blob_store.proofs.HeardJobs.{heard_jobless, heard_lost, whole_lost}
use Rattle.blob_store.proofs.parts.Parts.lost.Goals as goal

pub returns-in-Ok-clause-whole : goal.returns-in-Ok-clause-whole
unfolding IsWhole
returns-in-Ok-clause-whole c =
    subst (λ (files : Files). Whole (record c.args.self.now { pages = files })) (sym c.in-Ok.ensures.1) (whole_lost c.args.self.now c.requires)

pub returns-in-Ok-clause-says : goal.returns-in-Ok-clause-says
unfolding Says
returns-in-Ok-clause-says c told table s groups legal still stands =
    subst (λ (files : Files). IsHeard s (history_from start groups) (events.Lost c.args.job) (answers.LostJob c.args.job ∷ [])
    (scene (record c.args.self.now { pages = files }) told table))
    (sym c.in-Ok.ensures.1) (heard_lost s groups c.args.self.now told table legal stands c.args.job c.in-Ok.ensures.0)

pub returns-in-Err-clause-says : goal.returns-in-Err-clause-says
unfolding Says
returns-in-Err-clause-says c told table s groups legal still stands =
    heard_still s groups c.args.self.now told table legal stands (events.Lost c.args.job) (answers.Refused (refusals.NoJob c.args.job) ∷ [])
    (record c.args.self.now { pages = c.lose_job.new.self })
    (ap (λ (files : Files). record c.args.self.now { pages = files }) c.in-Err.ensures.1)
    (heard_jobless s groups c.args.self.now told table legal stands c.args.job c.in-Err.ensures.0)
