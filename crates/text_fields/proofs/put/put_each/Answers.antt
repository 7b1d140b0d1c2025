use Rattle.text_fields.proofs.Each.{each_more, each_stops, mapped-append, one_field}
use Rattle.text_fields.specs.Fields.{fields}
use Rattle.std.proofs.Common.{map}
use Rattle.text_fields.proofs.put.put_each.Goals as goal

pub returns-in-Err : goal.returns-in-Err
returns-in-Err g c =
    each_stops (λ xs. fields c.args.separator (map g.A.Spell.spell xs)) c.loop-item.item-index c.args.items.now c.item-item.result _ _ _ _ c.in-Err.field-0
    (mapped-append c.args.separator g.A.Spell.spell) (one_field c.args.separator g.A.Spell.spell c.item-item.result) c.loop-item-test.true c.item-item.is
    c.loop-item.invariant c.in-Err.ensures

pub loop-item-preserved : goal.loop-item-preserved
loop-item-preserved g c =
    each_more (λ xs. fields c.args.separator (map g.A.Spell.spell xs)) c.loop-item.item-index c.args.items.now c.item-item.result _ _ _ _
    (mapped-append c.args.separator g.A.Spell.spell) (one_field c.args.separator g.A.Spell.spell c.item-item.result) c.loop-item-test.true c.item-item.is
    c.loop-item.invariant c.in-Ok.ensures
