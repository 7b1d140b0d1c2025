use Rattle.std.proofs.Common.{◌≡◌, None, ap, ◌∙◌, sym}
use Rattle.std.specs.Option.{option_copied_mut}
use Rattle.std.specs.Ordering.{nat_cmp}
use Rattle.std.specs.List.Sorted.{IsStrictlySortedBy}
use Rattle.std.specs.Map.{lookup}
use Rattle.std.specs.BTreeMap.{is_at}
use Rattle.renderer_table.proofs.table.pop_at.Goals as goal

pub returns-in-None-clause-ordered : goal.returns-in-None-clause-ordered
unfolding IsStrictlySortedBy
returns-in-None-clause-ordered c =
    let none : lookup (is_at (nat_cmp c.args.id)) c.args.living.now.entries ≡ None = sym c.get_mut.ensures.value ∙ ap option_copied_mut c.in-None.is in
    rw none tt
