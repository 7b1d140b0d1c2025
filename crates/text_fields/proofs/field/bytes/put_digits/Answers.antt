use Rattle.std.proofs.Common.{◌≡◌, ◌++◌, sym, ◌∙◌}
use Rattle.std.proofs.lemmas.Bool.{eqb-true}
use Rattle.std.proofs.lemmas.List.{take-append-drop}
use Rattle.text_fields.proofs.Outputs.{digits_none, digits_more, digits_stop, digits_all}
use Rattle.text_fields.proofs.field.bytes.put_digits.Goals as goal

pub loop-rest-init : goal.loop-rest-init
loop-rest-init g c = digits_none _ _

pub loop-rest-preserved : goal.loop-rest-preserved
loop-rest-preserved g c =
    let rest = c.loop-rest.rest.now in
    let parts : rest ≡ c.split_at.result.0.now ++ c.split_at.result.1.now =
    rw (c.split_at.ensures.front, c.split_at.ensures.back) (sym (take-append-drop _ rest)) in
    digits_more _ _ _ _ rest _ _ c.loop-rest.invariant parts c.in-Ok.ensures

pub returns-in-Err : goal.returns-in-Err
returns-in-Err g c =
    let rest = c.loop-rest.rest.now in
    let parts : rest ≡ c.split_at.result.0.now ++ c.split_at.result.1.now =
    rw (c.split_at.ensures.front, c.split_at.ensures.back) (sym (take-append-drop _ rest)) in
    digits_stop _ _ _ _ rest _ _ c.in-Err.field-0 c.loop-rest.invariant parts c.in-Err.ensures

pub returns : goal.returns
returns g c = digits_all _ _ _ _ c.loop-rest.invariant (eqb-true _ 0 (sym c.is_empty.ensures ∙ c.loop-rest-test.false))
