-- What a step gives of a blob that is unfinished or broken.
use Rattle.std.proofs.Common.{◌≡◌, false, [], ◌∷◌, Option, refl, sym, ap, subst, ◌∙◌}
use Rattle.blob_words.specs.declared.number.ReaderId.{ReaderId}
use Rattle.blob_words.specs.declared.status.Status.{Status}
use Rattle.blob_words.specs.declared.status.Status.TheVariants as statuses
use Rattle.blob_model.specs.History.{History}
use Rattle.blob_model.specs.Own.{IsStep, IsStepBy}
use Rattle.blob_model.specs.Readers.{OpenReader}
use Rattle.blob_model.specs.Session.{Session}
use Rattle.blob_model.specs.Standing.{ended, is_done_status}
use Rattle.registry_laws.specs.Agree.{told as told_of}
use Rattle.store_laws.specs.Outlines.{Outline}
use Rattle.store_laws.specs.StepLaws.{unread_answer, StepUnread}
use Rattle.store_laws.proofs.Agreeing.{told_now}
use Rattle.store_laws.proofs.Telling.{built}

-- by the status alone
by_status : (s : Session) (h : History) (reader : ReaderId) (open_reader : OpenReader) (status : Status) → is_done_status status ≡ false
    → IsStepBy s h reader open_reader (told_of status) (unread_answer reader status ∷ [])
by_status s h reader open_reader statuses.Done unread = absurd (cc unread)
by_status s h reader open_reader status unread = refl

pub step_unread : StepUnread
step_unread s h stands parts told table between ends reader open_reader entry there at unread =
    let one = built s h stands parts told table between open_reader.blob entry at in
    let is : told_of entry.status ≡ ended h open_reader.blob =
    ap (λ (o : Outline). told_of o.status) one.outline_is ∙ told_now s h one.build (ends one.build.name) ∙ ap (ended h) one.same_name in
    subst (λ (found : Option OpenReader). IsStep s h reader found (unread_answer reader entry.status ∷ []))
    (sym there ∙ between.tables.readers_stand.each reader.0)
    (subst (λ (status : Option Status). IsStepBy s h reader open_reader status (unread_answer reader entry.status ∷ [])) is
    (by_status s h reader open_reader entry.status unread))
