-- The law as it was proved.
use Rattle.store_laws.proofs.GroupMade.{group_legal}
use Rattle.store_laws.proofs.laws.group_legal.Goals as goal

pub returns : goal.returns
returns c s h event own removed counted hears still counts =
    let both = group_legal s h event own removed hears.is_own hears.removed_owed still counted counts in
    record { legal = both.0; behind = both.1 }
