-- What a judge has heard. Own.
use Rattle.std.specs.Prelude.{ℕ, List, []}
use Rattle.answer_text.specs.declared.group.Group.{Group}
use Rattle.transcript_audit.specs.declared.verdict.Verdict.{Verdict}
use Rattle.transcript_audit.specs.declared.verdict.Verdict.TheVariants.{Legal}

-- the sizes of the data handles, the groups taken, and the last verdict
pub record Audit : Type 0 where
  pub sizes : List ℕ
  pub taken : List Group
  pub last : Verdict

-- a judge that has heard nothing, over data handles of these sizes
abbrev pub new_audit : List ℕ → Audit
new_audit sizes = record { sizes = sizes; taken = []; last = Legal }
