-- Where nothing is missing no further piece is taken.
use Rattle.std.proofs.Common.{◌≡◌, ℕ, List, [], ◌∷◌, ◌++◌, drop, refl, sym, ap, ◌∙◌}
use Rattle.std.proofs.lemmas.List.{append-nil}
use Rattle.recent_items.specs.Recent.{victims}
use Rattle.history_notions.proofs.victims.victims.Goals as goal

none_needed : (free : ℕ) (list : List (ℕ × ℕ)) → victims 0 free list ≡ []
none_needed free [] = refl
none_needed free (entry ∷ list) = refl

pub returns-then-missing-eq0 : goal.returns-then-missing-eq0
returns-then-missing-eq0 c =
    let rest : List (ℕ × ℕ) = drop c.loop-number.number-index c.args.recency.now in
    let none : victims c.loop-number.missing c.loop-number.free rest ≡ [] =
    ap (λ (missing : ℕ). victims missing c.loop-number.free rest) c.if-missing-eq0.true ∙ none_needed c.loop-number.free rest in
    sym (append-nil c.loop-number.found) ∙ ap (λ (more : List ℕ). c.loop-number.found ++ more) (sym none) ∙ c.loop-number.invariant
