use Rattle.std.proofs.Common.{◌≡◌, ◌+◌, List, ℕ, ap, ◌∙◌, append_assoc}
use Rattle.session_gen.specs.Words.{Drawn}
use Rattle.session_gen.specs.Gen.{source, span, start}
use Rattle.session_gen.proofs.round.push_round.Goals as goal

pub returns-clause-lines : goal.returns-clause-lines
returns-clause-lines c =
    let i = c.args.i in
    let key = c.args.words.now.key in
    let cut = c.draw_cut-cut in
    let same : c.data_line.new.words.key ≡ key = ap (λ (words : Drawn). words.key) c.in_ok-data_line.ensures.rest in
    let from : cut.result.source ≡ source key i = cut.ensures.source ∙ ap (λ (k : List ℕ). source k i) same in
    let first : cut.result.start ≡ start key i = cut.ensures.start ∙ ap (λ (k : List ℕ). start k i) same in
    let last : cut.result.end ≡ start key i + span key i = cut.ensures.end ∙ ap (λ (k : List ℕ). start k i + span k i) same in
    rw (
      c.in_ok-push_drop.ensures,
      c.in_ok-push_reads.ensures,
      c.in_ok-push-2.ensures.items,
      c.in_ok-push_disk.ensures,
      c.in_ok-push.ensures.items,
      c.in_ok-build_line.ensures,
      c.in_ok-data_line.ensures.line,
      from,
      first,
      last,
    ) (simp append_assoc)
