use Rattle.std.proofs.Common.{◌≡◌, ◌++◌, ◌*◌}
use Rattle.std.specs.List.{flat_map, range_with_len}
use Rattle.session_gen.specs.Words.{key}
use Rattle.session_gen.specs.Gen.{first_lines, round_lines}
use Rattle.session_gen.proofs.session.generate.Given as goal

abbrev pub invariant-loop-i : goal.invariant-loop-i
invariant-loop-i l =
    (l.events.items ≡ first_lines ++ flat_map (round_lines (key l.fn.number)) (range_with_len 0 l.i))
    × (l.words ≡ record { key = key l.fn.number; count = 259 * l.i })
