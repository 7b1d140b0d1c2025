use Rattle.std.proofs.Common.{refl, inl, inr, sym, ap, ◌∙◌, arith, length}
use Rattle.text_fields.specs.Kind.{Spells, content_type}
use Rattle.text_fields.proofs.Hex.{hex_short, hex_long}
use Rattle.text_fields.proofs.Rows.{type_unread}
use Rattle.text_fields.proofs.field.bytes.ContentTypeField.read.Goals as goal

pub returns-then-len-gt-MAX_CONTENT_TYPE : goal.returns-then-len-gt-MAX_CONTENT_TYPE
returns-then-len-gt-MAX_CONTENT_TYPE c =
    inr (
      λ (s : Spells content_type c.args.text.now).
          let short = hex_short s.0 s.2 in
          let long = hex_long c.in-Ok.bytes (omega arith) in
          omega (arith, short, long, ap length (sym s.3 ∙ c.in-Ok.ensures.1)),
      inl ((c.in-Ok.bytes, c.in-Ok.ensures.0, c.in-Ok.ensures.1), refl),
    )

pub returns-in-Err : goal.returns-in-Err
returns-in-Err c = type_unread c.in-Err.fault c.args.text.now c.in-Err.ensures
