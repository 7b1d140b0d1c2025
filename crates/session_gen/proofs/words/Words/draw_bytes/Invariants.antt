use Rattle.std.proofs.Common.{◌≡◌, ◌+◌, ◌≤◌}
use Rattle.session_gen.specs.Words.{word_bytes}
use Rattle.session_gen.proofs.words.Words.draw_bytes.Given as goal

abbrev pub invariant-loop : goal.invariant-loop
invariant-loop l =
    (l.counter ≤ l.count) × (l.self ≡ record l.fn.self { count = l.fn.self.count + l.counter }) × (l.bytes ≡ word_bytes l.fn.self.key l.fn.self.count l.counter)
