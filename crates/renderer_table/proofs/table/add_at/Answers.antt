use Rattle.std.proofs.Common.{◌≡◌, ℕ, Some, List, ap, ◌∙◌, sym}
use Rattle.std.specs.Option.{option_copied_mut}
use Rattle.std.specs.Ordering.{nat_cmp}
use Rattle.std.specs.Map.{lookup, set_value}
use Rattle.std.specs.BTreeMap.{is_at}
use Rattle.std.proofs.lemmas.Map.Steps.{set_value_same}
use Rattle.renderer_table.specs.declared.living.Living.{Living}
use Rattle.renderer_table.proofs.Changes.{on_err}
use Rattle.renderer_table.proofs.table.add_at.Goals as goal

pub returns-in-Some-clause-err : goal.returns-in-Some-clause-err
returns-in-Some-clause-err c =
    let here = is_at (nat_cmp c.args.id) in
    let old = c.in-Some.one.now in
    let with : List (ℕ × ℕ) → Living = λ counts. record { origin = old.origin; counts = counts } in
    let found : lookup here c.args.living.now.entries ≡ Some old = sym c.get_mut.ensures.value ∙ ap option_copied_mut c.in-Some.is in
    on_err c.add_one.result (λ same. (c.get_mut.follows.holds (with c.add_one.new.self)).0 ∙ ap (λ one. set_value here c.args.living.now.entries one)
    (ap with same) ∙ set_value_same here c.args.living.now.entries old found) c.add_one.ensures.err
