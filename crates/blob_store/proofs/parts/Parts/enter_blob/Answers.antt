-- The row of a name that is known is there.
use Rattle.std.proofs.Common.{ℕ, ◌<◌, subst, sym, ◌∙◌}
use Rattle.blob_entries.proofs.Numbers.{number_within}
use Rattle.blob_store.proofs.parts.Parts.enter_blob.Goals as goal

pub enter_pieces-requires-clause-number : goal.enter_pieces-requires-clause-number
enter_pieces-requires-clause-number c =
    subst (λ (n : ℕ). c.in-Some.number < n) (sym c.requires.each_row)
    (number_within c.args.name c.args.self.now.registry.names c.in-Some.number (sym c.number_of.ensures ∙ c.in-Some.is))
