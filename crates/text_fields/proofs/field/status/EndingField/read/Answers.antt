use Rattle.std.proofs.Common.{inr, refl, sym, ap, ◌∙◌}
use Rattle.std.proofs.lemmas.Bool.{both_ways}
use Rattle.text_fields.specs.Kind.{Spells, ending}
use Rattle.text_fields.specs.Status.{is_end}
use Rattle.text_fields.proofs.Words.{same_status}
use Rattle.text_fields.proofs.field.status.EndingField.read.Goals as goal

pub returns-else-is_end : goal.returns-else-is_end
returns-else-is_end c =
    inr (
      λ (s : Spells ending c.args.text.now).
          let same = same_status c.in-Some.status s.0 (sym c.in-Some.ensures ∙ s.2) in
          both_ways _ c.if-is_end.false (c.is_end.ensures ∙ ap is_end same ∙ s.1),
      refl,
    )

pub returns-in-None : goal.returns-in-None
returns-in-None c = inr (λ (s : Spells ending c.args.text.now). c.in-None.ensures s.0 s.2, refl)
