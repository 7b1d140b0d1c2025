-- Where all blobs have ended nothing is looked for.
use Rattle.std.proofs.Common.{sym, ap, ◌∙◌}
use Rattle.std.specs.List.{list_any}
use Rattle.transcript_audit.specs.Owed.{is_unended}
use Rattle.transcript_audit.proofs.Idle.{no_drops}
use Rattle.transcript_audit.proofs.drops.drops.Goals as goal

pub returns-then-not-has_unfinished : goal.returns-then-not-has_unfinished
returns-then-not-has_unfinished c = λ s h follows.
    let endings = c.args.contents.now.kept.endings in
    c.new.ensures
    ∙ no_drops s h c.args.contents.now follows
    (sym (c.has_unfinished.ensures ∙ ap (list_any (is_unended endings)) c.as_slice.ensures) ∙ c.if-not-has_unfinished.true)
