use Rattle.std.proofs.Common.{inr, refl, sym, ap, ◌∙◌}
use Rattle.std.proofs.lemmas.Bool.{both_ways}
use Rattle.text_fields.specs.Kind.{Spells, broken}
use Rattle.text_fields.specs.Status.{is_broken}
use Rattle.text_fields.proofs.Words.{same_status}
use Rattle.text_fields.proofs.field.status.BrokenField.read.Goals as goal

pub returns-else-is_broken : goal.returns-else-is_broken
returns-else-is_broken c =
    inr (
      λ (s : Spells broken c.args.text.now).
          let same = same_status c.in-Some.status s.0 (sym c.in-Some.ensures ∙ s.2) in
          both_ways _ c.if-is_broken.false (c.is_broken.ensures ∙ ap is_broken same ∙ s.1),
      refl,
    )

pub returns-in-None : goal.returns-in-None
returns-in-None c = inr (λ (s : Spells broken c.args.text.now). c.in-None.ensures s.0 s.2, refl)
