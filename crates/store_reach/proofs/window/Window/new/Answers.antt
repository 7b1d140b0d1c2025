use Rattle.std.proofs.Common.{◌∙◌, sym, refl, arith}
use Rattle.std.proofs.lemmas.Bool.{false≢true}
use Rattle.store_reach.proofs.Listing.{none_at}
use Rattle.store_reach.proofs.window.Window.new.Goals as goal

pub invariant_of-result : goal.invariant_of-result
invariant_of-result c = λ place on. absurd (false≢true (sym (none_at 4096 place) ∙ on))

pub returns : goal.returns
returns c = record { from = refl; some = omega arith; none = λ place. none_at 4096 place; next = refl }
