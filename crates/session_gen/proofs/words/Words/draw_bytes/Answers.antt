use Rattle.std.proofs.Common.{◌≡◌, ◌+◌, ℕ, List, ◌++◌, ap, ◌∙◌, sym, arith}
use Rattle.std.specs.Int.{w32, to_le_bytes}
use Rattle.session_gen.specs.Words.{word, Drawn}
use Rattle.session_gen.proofs.Ranges.{flat_more}
use Rattle.session_gen.proofs.words.Words.draw_bytes.Goals as goal

pub loop-preserved : goal.loop-preserved
loop-preserved c =
    let so_far = c.loop.invariant in
    let key = c.args.self.now.key in
    let place = c.args.self.now.count in
    let bytes_of : ℕ → List ℕ = λ k. to_le_bytes w32 (word key (place + k)) in
    let next : place + c.loop.counter + 1 ≡ place + (c.loop.counter + 1) = omega arith in
    let drawn = c.to_le_bytes.ensures ∙ ap (to_le_bytes w32) (c.draw-word.ensures.value ∙ ap (λ (words : Drawn). word words.key words.count) so_far.1) in (
      omega (arith, c.loop-test.true),
      c.draw-word.ensures.rest ∙ ap (λ (words : Drawn). record words { count = words.count + 1 }) so_far.1 ∙ ap (λ (n : ℕ). record { key = key; count = n })
          next,
      c.in_ok-extend_from_slice.ensures.ok ∙ ap (λ (more : List ℕ). c.loop.bytes ++ more) drawn ∙ ap (λ (front : List ℕ). front ++ bytes_of c.loop.counter)
          so_far.2
          ∙ sym (flat_more bytes_of c.loop.counter),
    )
