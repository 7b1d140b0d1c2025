-- What the endings of a pass leave of a history.
use Rattle.std.proofs.Common.{◌≡◌, ℕ, true, List, [], ◌∷◌, refl, ap, sym, ◌∙◌, Option, Some, None}
use Rattle.std.specs.Prelude.{is_none}
use Rattle.blob_words.specs.declared.status.Status.{Status}
use Rattle.blob_words.specs.declared.status.Status.TheVariants as statuses
use Rattle.answer_text.specs.declared.answer.Answer.{Answer}
use Rattle.answer_text.specs.declared.answer.Answer.TheVariants as answers
use Rattle.blob_model.specs.Builds.{Build, builds}
use Rattle.blob_model.specs.History.{History, said, said_all}
use Rattle.blob_model.specs.Session.{Session, page_limit}
use Rattle.blob_model.specs.Settle.{ending_answers, ending_tests, endings, endings_of}
use Rattle.blob_model.specs.Standing.{ended, is_unfinished}
use Rattle.blob_model.proofs.Lists.{false_true}
use Rattle.blob_model.proofs.live.Agreement.{said_append, unfinished_all}
use Rattle.blob_model.proofs.settled.Endings.{one_by, some_that}
use Rattle.store_laws.specs.Passing.{after_pass}

-- a notion that neither `done` nor `broken` changes
pass_keeps : {X : Type 0} (notion : History → X) → ((g : History) (name : ℕ) → notion (said g (answers.Done name)) ≡ notion g)
    → ((g : History) (name : ℕ) (status : Status) → notion (said g (answers.Broken name status)) ≡ notion g) → (s : Session) (g : History)
    (list : List Build)
    → notion (said_all g (endings_of s g list)) ≡ notion g
pass_keeps notion done broken s g [] = refl
pass_keeps notion done broken s g (build ∷ list) =
    ap notion (said_append g (ending_answers s g build) (endings_of s (said_all g (ending_answers s g build)) list))
    ∙ pass_keeps notion done broken s (said_all g (ending_answers s g build)) list
    ∙ one_by s g build (λ (xs : List Answer). notion (said_all g xs) ≡ notion g) refl
    (λ answer e.
    some_that (λ (each : Answer). notion (said g each) ≡ notion g) (ending_tests s g build) answer (
      broken g build.name statuses.FileWriteFailed,
      (broken g build.name statuses.SourceDied, (broken g build.name statuses.ReferencedBlobBroken, (done g build.name, tt))),
    ) e)

pub endings_keep : {X : Type 0} (notion : History → X) → ((g : History) (name : ℕ) → notion (said g (answers.Done name)) ≡ notion g)
    → ((g : History) (name : ℕ) (status : Status) → notion (said g (answers.Broken name status)) ≡ notion g) → (s : Session) (h : History)
    → notion (after_pass s h) ≡ notion h
endings_keep notion done broken s h = pass_keeps notion done broken s h (builds (page_limit s) h)

none_of : (o : Option Status) → is_none o ≡ true → o ≡ None
none_of None e = refl
none_of (Some status) e = absurd (false_true e)

-- a blob that is unfinished behind the pass was unfinished before it
pub unfinished_before : (s : Session) (h : History) (name : ℕ) → is_unfinished (after_pass s h) name ≡ true → ended h name ≡ None
unfinished_before s h name e = none_of (ended h name) (unfinished_all h (endings s h) name e)

pub unfinished_same : (s : Session) (h : History) (name : ℕ) → is_unfinished (after_pass s h) name ≡ true → ended (after_pass s h) name ≡ ended h name
unfinished_same s h name e = none_of (ended (after_pass s h) name) e ∙ sym (unfinished_before s h name e)
