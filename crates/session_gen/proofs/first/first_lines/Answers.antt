use Rattle.std.proofs.Common.{refl, lit<}
use Rattle.std.proofs.lemmas.Fmt.{decimal_digit}
use Rattle.session_gen.proofs.first.first_lines.Goals as goal

pub returns : goal.returns
returns c =
    rw (
      c.in_ok-push-5.ensures.items,
      c.in_ok-push-4.ensures.items,
      c.in_ok-push-3.ensures.items,
      c.in_ok-push-2.ensures.items,
      c.in_ok-push.ensures.items,
      c.new-events.ensures.items,
      c.limits.ensures,
      c.in_ok-spawn_line.ensures,
      c.in_ok-spawn_line-2.ensures,
      c.in_ok-spawn_line-3.ensures,
      c.in_ok-spawn_line-4.ensures,
      decimal_digit 0 (lit< tt),
      decimal_digit 1 (lit< tt),
      decimal_digit 2 (lit< tt),
      decimal_digit 3 (lit< tt),
    ) refl
