use Rattle.std.proofs.Common.{rules, ◌≡◌, ℕ, List, length, drop, refl, inr, sym, subst, ◌∙◌, arith}
use Rattle.std.proofs.lemmas.Bool.{both_ways, eqb-true}
use Rattle.std.proofs.lemmas.List.{take_at}
use Rattle.hex.specs.Hex.{IsBytes}
use Rattle.text_fields.specs.Fields.{hex_text}
use Rattle.text_fields.specs.Kind.{Spells, bytes}
use Rattle.text_fields.proofs.Hex.{digits_of_text, not_dash, some_bytes, text_of_read}
use Rattle.text_fields.proofs.field.bytes.read_hex.Goals as goal

pub returns-then-is_empty : goal.returns-then-is_empty
returns-then-is_empty c =
    inr (
      λ (s : Spells bytes c.args.text.now).
          let digits = digits_of_text c.args.text.now s.0 s.1 s.2 (not_dash _ _ _ c.eq.ensures c.if-eq.false (search rules)) in
          let none = eqb-true (length c.args.text.now) 0 (sym c.is_empty.ensures ∙ c.if-is_empty.true) in
          omega (arith, digits.1, none),
      refl,
    )

pub returns-then-text-eq1 : goal.returns-then-text-eq1
returns-then-text-eq1 c =
    inr (
      λ (s : Spells bytes c.args.text.now).
          let digits = digits_of_text c.args.text.now s.0 s.1 s.2 (not_dash _ _ _ c.eq.ensures c.if-eq.false (search rules)) in
          omega (arith, digits.2),
      refl,
    )

pub returns-then-not-decode_into : goal.returns-then-not-decode_into
returns-then-not-decode_into c =
    inr (
      λ (s : Spells bytes c.args.text.now).
          let digits = digits_of_text c.args.text.now s.0 s.1 s.2 (not_dash _ _ _ c.eq.ensures c.if-eq.false (search rules)) in
          both_ways _ c.if-not-decode_into.true (c.decode_into.ensures.digits.1 digits.0),
      refl,
    )

pub returns-else-not-decode_into : goal.returns-else-not-decode_into
returns-else-not-decode_into c =
    let some = some_bytes c.args.text.now _ c.is_empty.ensures c.if-is_empty.false in
    let spelled = c.decode_into.ensures.spelled c.if-not-decode_into.false in
    let decoded = c.decode_into.ensures.decoded c.if-not-decode_into.false in
    let bytes : List ℕ = c.decode_into.new.out in
    let whole = take_at bytes (drop (length bytes) c.in-Ok.bytes.items) c.in-Ok.bytes.len (omega arith) in
    rw c.from_vec.ensures (subst (λ (all : List ℕ). IsBytes all × (c.args.text.now ≡ hex_text all)) (sym whole)
    (text_of_read c.args.text.now bytes some spelled decoded))
