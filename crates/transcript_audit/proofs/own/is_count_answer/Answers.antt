-- The five counts of the history.
use Rattle.std.proofs.Common.{◌≡◌, ℕ, List, length, ap, ◌∙◌}
use Rattle.answer_text.specs.declared.answer.Answer.TheVariants as answers
use Rattle.blob_model.specs.Builds.{Build}
use Rattle.blob_model.specs.Entries.{Entry, entries}
use Rattle.blob_model.specs.Readers.{OpenReader, readers}
use Rattle.blob_model.specs.Live.{live}
use Rattle.blob_model.specs.Waits.{waits}
use Rattle.blob_model.specs.Jobs.{paging}
use Rattle.blob_model.specs.Session.{page_limit}
use Rattle.history_notions.specs.Chosen.{items_at}
use Rattle.transcript_audit.specs.Tests.{same_answer}
use Rattle.transcript_audit.proofs.own.is_count_answer.Goals as goal

pub returns : goal.returns
returns c = λ s h follows.
    let items : List Build = c.args.contents.now.builds in
    let e0 : c.count_at-blobs.result ≡ length (live (page_limit s) h) =
    c.count_at-blobs.ensures
    ∙ ap (λ (list : List Build). length (items_at list c.as_slice.result.now)) c.as_slice-builds.ensures
    ∙ ap (λ (places : List ℕ). length (items_at items places)) c.as_slice.ensures
    ∙ ap (length {A = Build}) (c.in_ok-live.ensures s h follows) in
    let e1 : length c.as_slice-urls.result.now ≡ length (entries h) = ap (length {A = Entry}) (c.as_slice-urls.ensures.value ∙ follows.keeps.entries_are) in
    let e2 : length c.as_slice-readers.result.now ≡ length (readers (page_limit s) h) =
    ap (length {A = OpenReader}) (c.as_slice-readers.ensures.value ∙ follows.readers_are) in
    let e3 : c.count_at-waits.result ≡ length (waits (page_limit s) h) =
    c.count_at-waits.ensures
    ∙ ap (λ (list : List Build). length (items_at list c.as_slice-2.result.now)) c.as_slice-builds.ensures
    ∙ ap (λ (places : List ℕ). length (items_at items places)) c.as_slice-2.ensures
    ∙ ap (length {A = Build}) (c.in_ok-waiting.ensures s h follows) in
    let e4 : c.args.contents.now.kept.paging ≡ paging h = follows.keeps.paging_is in
    c.is_held.ensures ∙ (λ i. same_answer c.args.answer.now (answers.Held (e0 i) (e1 i) (e2 i) (e3 i) (e4 i)))
