-- What a legal transcript that begins with the limits of the worked session says of the groups behind them.
use Rattle.std.proofs.Common.{◌≡◌, List, ◌∷◌, Some, ap, sym, subst}
use Rattle.blob_words.specs.declared.limits.Limits.{Limits}
use Rattle.answer_text.specs.declared.group.Group.{Group}
use Rattle.replay_run.specs.History.{start}
use Rattle.replay_run.specs.Legal.{opening, IsLegal, IsLegalFrom}
use Rattle.replay_run.specs.Reads.{limits_of}
use Rattle.replay_run.specs.Rows.{row_limits}

same_limits : (l : Limits) → opening row_limits ≡ opening l → row_limits ≡ l
same_limits l same = let some : Some row_limits ≡ Some l = ap (λ (group : Group). limits_of group.event) same in cc

pub behind_limits : (groups : List Group) → IsLegal (opening row_limits ∷ groups) → IsLegalFrom row_limits start groups
behind_limits groups legal = subst (λ (l : Limits). IsLegalFrom l start groups) (sym (same_limits legal.0 legal.1)) legal.2
