use Rattle.std.specs.List.{flat_map}
use Rattle.std.proofs.lemmas.Grind.{flat_map-append}
use Rattle.std.proofs.lemmas.List.{append-nil}
use Rattle.text_fields.proofs.Each.{each_more, each_stops, with_feed}
use Rattle.text_fields.proofs.put.put_lines.Goals as goal

pub returns-in-Err : goal.returns-in-Err
returns-in-Err g c =
    each_stops (flat_map (with_feed g.A.Spell.spell)) c.loop-item.item-index c.args.items.now c.item-item.result _ _ _ _ c.in-Err.field-0
    (flat_map-append (with_feed g.A.Spell.spell)) (append-nil (with_feed g.A.Spell.spell c.item-item.result)) c.loop-item-test.true c.item-item.is
    c.loop-item.invariant c.in-Err.ensures

pub loop-item-preserved : goal.loop-item-preserved
loop-item-preserved g c =
    each_more (flat_map (with_feed g.A.Spell.spell)) c.loop-item.item-index c.args.items.now c.item-item.result _ _ _ _
    (flat_map-append (with_feed g.A.Spell.spell)) (append-nil (with_feed g.A.Spell.spell c.item-item.result)) c.loop-item-test.true c.item-item.is
    c.loop-item.invariant c.in-Ok.ensures
