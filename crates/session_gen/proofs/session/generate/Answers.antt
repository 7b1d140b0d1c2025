use Rattle.std.proofs.Common.{◌≡◌, ◌+◌, ◌*◌, ◌++◌, ◌∷◌, [], List, ℕ, ap, ◌∙◌, sym, append_assoc, arith}
use Rattle.std.specs.List.{flat_map, range_with_len}
use Rattle.session_script.specs.declared.event.Event.{Event}
use Rattle.session_script.specs.declared.event.Event.TheVariants as events
use Rattle.session_gen.specs.Words.{key, Drawn}
use Rattle.session_gen.specs.Gen.{first_lines, round_lines}
use Rattle.session_gen.proofs.Ranges.{flat_more}
use Rattle.session_gen.proofs.session.generate.Goals as goal

pub loop-i-preserved : goal.loop-i-preserved
loop-i-preserved c =
    let so_far = c.loop-i.invariant in
    let i = c.loop-i.i in
    let lines : ℕ → List Event = round_lines (key c.args.number) in
    let rounds = flat_map lines (range_with_len 0 i) in (
      c.in_ok-push_round.ensures.lines ∙ ap (λ (front : List Event). front ++ round_lines c.loop-i.words.key i) so_far.0 ∙ ap
          (λ (words : Drawn). first_lines ++ rounds ++ round_lines words.key i) so_far.1
          ∙ append_assoc first_lines rounds (lines i) ∙ ap (λ (more : List Event). first_lines ++ more) (sym (flat_more lines i)),
      c.in_ok-push_round.ensures.rest ∙ ap (λ (words : Drawn). record words { count = 259 * (i + 1) }) so_far.1,
    )

pub returns : goal.returns
returns c =
    let all : c.loop-i.i ≡ c.args.rounds = omega arith in
    c.in_ok-push.ensures.items ∙ ap (λ (front : List Event). front ++ events.Finish ∷ [])
    (c.loop-i.invariant.0 ∙ ap (λ (n : ℕ). first_lines ++ flat_map (round_lines (key c.args.number)) (range_with_len 0 n)) all)
