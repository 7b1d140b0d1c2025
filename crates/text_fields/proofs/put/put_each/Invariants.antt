use Rattle.std.proofs.Common.{map, take}
use Rattle.text_fields.specs.Fields.{fields}
use Rattle.text_fields.specs.Output.{output, Puts}
use Rattle.text_fields.proofs.put.put_each.Given as goal

abbrev pub invariant-loop-item : goal.invariant-loop-item
invariant-loop-item g l =
    Puts (output (g.K.Sink.held l.fn.out) (g.K.Sink.faults l.fn.out) l.fn.buffer) (output (g.K.Sink.held l.out) (g.K.Sink.faults l.out) l.buffer)
    (fields l.separator (map g.A.Spell.spell (take l.item-index l.items)))
