use Rattle.std.proofs.Common.{inr, refl, sym, ap, ◌∙◌, arith, length}
use Rattle.text_fields.specs.Kind.{Spells, some_bytes}
use Rattle.text_fields.proofs.Spellings.{same_hex}
use Rattle.text_fields.proofs.Rows.{some_unread}
use Rattle.text_fields.proofs.field.bytes.SomeOctetsField.read.Goals as goal

pub returns-then-len-eq0 : goal.returns-then-len-eq0
returns-then-len-eq0 c =
    inr (
      λ (s : Spells some_bytes c.args.text.now).
          let same = same_hex s.0 c.in-Ok.bytes s.1 c.in-Ok.ensures.0 (sym s.3 ∙ c.in-Ok.ensures.1) in
          omega (arith, ap length same, s.2, c.len.ensures, c.if-len-eq0.true),
      refl,
    )

pub returns-in-Err : goal.returns-in-Err
returns-in-Err c = some_unread c.in-Err.fault c.args.text.now c.in-Err.ensures
