-- The law as it was proved.
use Rattle.std.proofs.Common.{◌∙◌}
use Rattle.store_laws.proofs.GroupMade.{late_compactions, late_grants, late_page_jobs, late_removals}
use Rattle.store_laws.proofs.laws.late_lists_keep_lives.Goals as goal

pub returns : goal.returns
returns c s h removed owed =
    late_compactions s h removed ∙ late_page_jobs s h removed ∙ late_grants s h removed ∙ late_removals s h removed owed
