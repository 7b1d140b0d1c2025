use Rattle.std.proofs.Common.{◌≡◌, ◌+◌, ◌++◌, ◌∷◌, [], take, sym, ap, ◌∙◌}
use Rattle.std.specs.Option.{option_copied, option_or}
use Rattle.std.proofs.lemmas.List.{take_more}
use Rattle.page_disk.specs.declared.change.Change.{Change}
use Rattle.page_disk.specs.Changes.{last_put}
use Rattle.page_disk.proofs.Found.{copied_or, last_put_more}
use Rattle.page_disk.proofs.find.last_put.Goals as goal

pub loop-change-preserved : goal.loop-change-preserved
loop-change-preserved c =
    let page = c.args.page.0 in
    let changes = c.args.changes.now in
    let place = c.loop-change.change-index in
    let change = c.change-item.result in
    let before = take place changes in
    let put = c.put_by.ensures in
    let found = c.loop-change.invariant in
    let after : take (place + 1) changes ≡ before ++ change ∷ [] = take_more changes place change c.loop-change-test.true ∙ ap
    (λ (one : Change). before ++ one ∷ []) (sym c.change-item.is) in
    ap option_copied c.or-found.ensures ∙ copied_or c.put_by.result c.loop-change.found ∙ (λ i. option_or (put i) (found i))
    ∙ sym (last_put_more page before change) ∙ ap (last_put page) (sym after)
