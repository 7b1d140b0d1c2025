use Rattle.std.proofs.Common.{rules, ℕ, ◌≡◌, ◌==◌, not, filter}
use Rattle.std.proofs.lemmas.Fn.{filter_same}
use Rattle.history_notions.proofs.victims.used.Goals as goal

pub returns : goal.returns
returns c =
    let kept : c.retain.new.self.items ≡ filter (λ (each : ℕ). not (each == c.args.number)) c.args.uses.now.items =
    filter_same _ (λ (each : ℕ). not (each == c.args.number)) _ (λ x b f' k. search rules) _ _ c.retain.ensures.filtered in
    rw (c.in_ok-push.ensures.items, kept)
