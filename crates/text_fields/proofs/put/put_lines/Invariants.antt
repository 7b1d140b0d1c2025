use Rattle.std.proofs.Common.{[], ◌∷◌, ◌++◌, take}
use Rattle.std.specs.List.{flat_map}
use Rattle.text_fields.specs.Output.{output, Puts}
use Rattle.text_fields.proofs.put.put_lines.Given as goal

abbrev pub invariant-loop-item : goal.invariant-loop-item
invariant-loop-item g l =
    Puts (output (g.K.Sink.held l.fn.out) (g.K.Sink.faults l.fn.out) l.fn.buffer) (output (g.K.Sink.held l.out) (g.K.Sink.faults l.out) l.buffer)
    (flat_map (λ item. g.A.Spell.spell item ++ 10 ∷ []) (take l.item-index l.items))
