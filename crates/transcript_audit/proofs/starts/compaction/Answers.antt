-- Without a page file there is nothing to move.
use Rattle.std.proofs.Common.{◌≡◌, [], sym, ◌∙◌}
use Rattle.transcript_audit.proofs.Idle.{no_items, no_compactions}
use Rattle.transcript_audit.proofs.starts.compaction.Goals as goal

pub returns-then-pages-eq0 : goal.returns-then-pages-eq0
returns-then-pages-eq0 c = λ s h follows.
    let empty : c.as_slice-pages.result.now ≡ [] = no_items c.as_slice-pages.result.now c.if-pages-eq0.true in
    no_compactions s h (sym (c.as_slice-pages.ensures ∙ follows.keeps.pages_are) ∙ empty)
