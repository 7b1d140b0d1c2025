-- The line changes what is kept, the readers, the blobs and their pieces, each by its rule.
use Rattle.std.proofs.Common.{◌≡◌, ℕ, List, ap, subst, sym, ◌∙◌}
use Rattle.blob_words.specs.declared.limits.Limits.{Limits}
use Rattle.session_script.specs.declared.event.Event.{Event}
use Rattle.answer_text.specs.declared.answer.Answer.{Answer}
use Rattle.blob_model.specs.History.{heard}
use Rattle.blob_model.specs.Builds.{Build, builds, builds_after}
use Rattle.blob_model.specs.Pieces.{Piece, pieces_from}
use Rattle.blob_model.specs.Readers.{readers_after}
use Rattle.blob_model.specs.Session.{page_limit}
use Rattle.history_notions.specs.declared.kept.Kept.{Kept}
use Rattle.history_notions.specs.Keeps.{Keeps}
use Rattle.history_notions.specs.Silent.{outside_of}
use Rattle.history_notions.proofs.contents.Contents.hear.Goals as goal

pub returns : goal.returns
returns c = λ s h follows.
    let event : Event = c.args.event.now in
    let answer : Answer = c.args.answer.now in
    let old = c.args.self.now in
    let new = c.put_made.new.self in
    let page : old.limits.page ≡ (page_limit s) = ap (λ (l : Limits). l.page) follows.limits_are in
    let blobs : new.builds ≡ builds (page_limit s) (heard h event answer) =
    c.in_ok-put_made.ensures.builds
    ∙ ap (λ (size : ℕ). builds_after size event answer old.builds) page
    ∙ ap (builds_after (page_limit s) event answer) follows.builds_are in
    let before : old.pieces ≡ pieces_from old.limits.page 0 old.builds =
    follows.pieces_are
    ∙ sym (ap (pieces_from (page_limit s) 0) follows.builds_are)
    ∙ sym (ap (λ (size : ℕ). pieces_from size 0 old.builds) page) in
    record {
      keeps = subst (λ (kept : Kept). Keeps (heard h event answer) kept) (sym c.in_ok-put_made.ensures.kept) (c.in_ok-hear-2.ensures h follows.keeps);
      limits_are = c.in_ok-put_made.ensures.limits ∙ follows.limits_are;
      version_is = c.in_ok-put_made.ensures.version ∙ follows.version_is;
      outside_is = ap outside_of c.in_ok-put_made.ensures.sizes ∙ follows.outside_is;
      builds_are = blobs;
      pieces_are = c.in_ok-put_made.ensures.pieces before
          ∙ ap (λ (size : ℕ). pieces_from size 0 new.builds) page
          ∙ ap (pieces_from (page_limit s) 0) blobs;
      readers_are = c.in_ok-put_made.ensures.readers
          ∙ c.in_ok-hear.ensures (page_limit s) h follows.keeps (c.as_slice-builds.ensures ∙ follows.builds_are)
          ∙ ap (readers_after (page_limit s) h event answer) follows.readers_are;
    }
