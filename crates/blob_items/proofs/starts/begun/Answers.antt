use Rattle.std.proofs.Common.{ℕ, leb, rules, of_calls}
use Rattle.std.proofs.lemmas.Fn.{always_returns_same}
use Rattle.blob_items.proofs.starts.begun.Goals as goal

pub returns-clause-point : goal.returns-clause-point
returns-clause-point c =
    c.partition_point.ensures.partitioned (λ (start : ℕ). leb start c.args.off) (always_returns_same _ _ _ (λ a r f k. search (rules, of_calls))) c.requires
