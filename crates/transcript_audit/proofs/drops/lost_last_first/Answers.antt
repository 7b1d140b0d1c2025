-- The lost blobs of the history, the last first.
use Rattle.std.proofs.Common.{◌≡◌, ℕ, ◌&&◌, not, List, Option, map, ap, ◌∙◌}
use Rattle.std.specs.Prelude.{filter, reverse, is_none}
use Rattle.blob_words.specs.declared.status.Status.{Status}
use Rattle.answer_text.specs.declared.answer.Answer.{Answer}
use Rattle.blob_model.specs.Builds.{Build}
use Rattle.blob_model.specs.Standing.{is_unfinished}
use Rattle.blob_model.specs.Live.{live, is_live}
use Rattle.blob_model.specs.Order.{named}
use Rattle.blob_model.specs.Session.{page_limit}
use Rattle.history_notions.specs.Chosen.{items_at}
use Rattle.history_notions.proofs.Lifted.{filter_alike}
use Rattle.transcript_audit.specs.Owed.{dropped, is_lost}
use Rattle.transcript_audit.proofs.Turned.{turned, turned_whole}
use Rattle.transcript_audit.proofs.drops.lost_last_first.Goals as goal

pub returns : goal.returns
returns c = λ s h follows.
    let endings = c.args.contents.now.kept.endings in
    let items : List Build = c.args.contents.now.builds in
    let lives : items_at items c.in_ok-places.places ≡ live (page_limit s) h = c.in_ok-places.ensures s h follows in
    let found : c.in_ok-found.found ≡ map dropped (filter (is_lost endings (live (page_limit s) h)) items) =
    c.in_ok-found.ensures
    ∙ ap (λ (list : List Build). map dropped (filter (is_lost endings (items_at list c.as_slice.result.now)) list)) c.as_slice-builds.ensures
    ∙ ap (λ (places : List ℕ). map dropped (filter (is_lost endings (items_at items places)) items)) c.as_slice.ensures
    ∙ ap (λ (list : List Build). map dropped (filter (is_lost endings list) items)) lives in
    turned_whole c.in_ok-found.found c.reverse.new.self (c.reverse.ensures.after ∙ ap (reverse {A = Answer}) c.as_mut_slice.ensures.value)
    ∙ ap (reverse {A = Answer}) found
    ∙ turned dropped (is_lost endings (live (page_limit s) h)) items
    ∙ ap (map dropped)
    (filter_alike (is_lost endings (live (page_limit s) h)) (λ (build : Build). is_unfinished h build.name && not (is_live (page_limit s) h build.name))
    (reverse items)
    (λ (build : Build). ap (λ (status : Option Status). is_none status && not (named build.name (live (page_limit s) h))) (follows.keeps.ended_are build.name)))
    ∙ ap (λ (list : List Build). map dropped (filter (λ (build : Build). is_unfinished h build.name && not (is_live (page_limit s) h build.name))
    (reverse list))) follows.builds_are
