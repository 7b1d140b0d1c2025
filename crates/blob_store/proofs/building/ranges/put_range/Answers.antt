-- The range of the part is the item that comes.
use Rattle.std.proofs.Common.{◌≡◌, ℕ, zero, suc, ◌<◌, List, [], ◌∷◌, refl, sym, ap, ◌∙◌, subst, OnOk, arith}
use Rattle.session_script.specs.declared.event.Part.TheVariants.{FileRange, HandleRange}
use Rattle.item_shares.specs.declared.item.Item.{Item}
use Rattle.item_shares.specs.declared.item.Item.TheVariants.{File, Range}
use Rattle.store_laws.specs.NewItems.{part_items}
use Rattle.blob_store.specs.Putting.{PutAll}
use Rattle.blob_store.proofs.building.ranges.put_range.Goals as goal

file_item : (name : List ℕ) (off len stamp : ℕ) → 0 < len → File name stamp off len ∷ [] ≡ part_items (FileRange name off len stamp)
file_item name off zero stamp some = absurd (omega arith)
file_item name off (suc len) stamp some = refl

handle_item : (k off len : ℕ) → 0 < len → Range k off len ∷ [] ≡ part_items (HandleRange k off len)
handle_item k off zero some = absurd (omega arith)
handle_item k off (suc len) some = refl

pub returns-in_ok-copy-in-FileRange-clause-puts : goal.returns-in_ok-copy-in-FileRange-clause-puts
returns-in_ok-copy-in-FileRange-clause-puts c =
    let is = c.in-FileRange in
    let same =
    ap (λ (name : List ℕ). File name is.stamp is.off is.len ∷ []) c.in_ok-copy-in-FileRange.ensures
    ∙ file_item is.name is.off is.len is.stamp (omega (arith, c.if-len-eq0.false)) ∙ ap part_items (sym is.is) in
    subst (λ (items : List Item). OnOk c.put_item.result (PutAll items c.args.shares.now c.args.views.now c.put_item.new.shares c.put_item.new.views)) same
    c.put_item.ensures.puts

pub returns-else-len-eq0-2-clause-puts : goal.returns-else-len-eq0-2-clause-puts
returns-else-len-eq0-2-clause-puts c =
    let is = c.in-HandleRange in
    let same = handle_item is.k is.off is.len (omega (arith, c.if-len-eq0-2.false)) ∙ ap part_items (sym is.is) in
    subst (λ (items : List Item).
    OnOk c.put_item-in-HandleRange.result
    (PutAll items c.args.shares.now c.args.views.now c.put_item-in-HandleRange.new.shares c.put_item-in-HandleRange.new.views)) same
    c.put_item-in-HandleRange.ensures.puts
