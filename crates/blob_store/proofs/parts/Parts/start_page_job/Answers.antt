-- The pieces to page are told with their job, behind which the parts agree.
use Rattle.std.proofs.Common.{◌≡◌, ◌≢◌, ◌==◌, List, [], length, subst, true, false}
use Rattle.std.proofs.lemmas.Result.{on_ok_weaker}
use Rattle.blob_words.specs.declared.number.PieceNo.{PieceNo}
use Rattle.blob_model.specs.Pages.{numbers}
use Rattle.blob_store.specs.Paging.{JobStarts}
use Rattle.blob_store.specs.Telling.{Tells}
use Rattle.blob_store.specs.Whole.{IsWhole}
use Rattle.blob_store.proofs.JobsWhole.{can_start, job_told, may_start, no_pieces, none_told, some_pieces, swept_started, whole_started}
use Rattle.blob_store.proofs.Reaching.{late_reaches}
use Rattle.blob_store.proofs.parts.Parts.start_page_job.Goals as goal

pub returns-then-is_empty-clause-tells : goal.returns-then-is_empty-clause-tells
unfolding Tells IsWhole
returns-then-is_empty-clause-tells c =
    λ told table s h late.
    let parts = c.args.self.now in
    let none = no_pieces c.in-Ok.pieces (subst (λ (list : List PieceNo). true ≡ (length list == 0)) c.as_slice.ensures c.if-is_empty.ensures) in
    none_told parts told table s h late (late_reaches parts c.requires.whole s h told table late c.requires.swept) c.in-Ok.pieces none c.in-Ok.ensures
    c.args.answers.now

pub begin_page_job-requires-clause-starts : goal.begin_page_job-requires-clause-starts
unfolding IsWhole
begin_page_job-requires-clause-starts c =
    let some = some_pieces c.in-Ok.pieces (subst (λ (list : List PieceNo). false ≡ (length list == 0)) c.as_slice.ensures c.if-is_empty.ensures) in
    can_start c.args.self.now c.in-Ok.pieces c.requires.whole c.requires.swept.viewed (may_start c.args.self.now c.in-Ok.pieces some c.in-Ok.ensures)

starts_so : (c : goal.After-push) → JobStarts (numbers c.in-Ok.pieces) c.args.self.now c.begin_page_job.new.self
starts_so c =
    subst (λ (list : List PieceNo). JobStarts (numbers list) c.args.self.now c.begin_page_job.new.self) c.as_slice-2.ensures
    c.in-Ok-begin_page_job.ensures.starts

some_so : (c : goal.After-push) → c.in-Ok.pieces ≢ []
some_so c = some_pieces c.in-Ok.pieces (subst (λ (list : List PieceNo). false ≡ (length list == 0)) c.as_slice.ensures c.if-is_empty.ensures)

pub returns-clause-whole : goal.returns-clause-whole
unfolding IsWhole
returns-clause-whole c =
    let parts = c.args.self.now in
    let pieces = c.in-Ok.pieces in
    on_ok_weaker c.push.result
    (λ pushed.
    whole_started parts c.begin_page_job.new.self pieces c.requires.whole (may_start parts pieces (some_so c) c.in-Ok.ensures).earliest_so (starts_so c))
    c.push.ensures.ok

pub returns-clause-swept : goal.returns-clause-swept
returns-clause-swept c =
    on_ok_weaker c.push.result
    (λ pushed. swept_started (numbers c.in-Ok.pieces) c.args.self.now c.begin_page_job.new.self (starts_so c) c.requires.swept) c.push.ensures.ok

pub returns-clause-tells : goal.returns-clause-tells
unfolding Tells IsWhole
returns-clause-tells c =
    let parts = c.args.self.now in
    on_ok_weaker c.push.result
    (λ pushed told table s h late.
    job_told parts told table s h late (late_reaches parts c.requires.whole s h told table late c.requires.swept) c.in-Ok-begin_page_job.number
    c.in-Ok.pieces c.begin_page_job.new.self c.args.answers.now c.push.new.self (some_so c) c.in-Ok.ensures c.in-Ok-begin_page_job.ensures.number
    (starts_so c) pushed) c.push.ensures.ok
