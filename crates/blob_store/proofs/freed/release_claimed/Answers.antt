-- One slot after the other.
use Rattle.std.proofs.Common.{ℕ, ◌+◌, ◌<◌, ◌≤◌, refl, sym, ap, subst, ◌∙◌, length}
use Rattle.data_handles.specs.Boxes.{of_table}
use Rattle.data_handles.specs.Table.{Table}
use Rattle.data_handles.specs.contracts.boxed.BoxedDataHandle.TheImpl.{seen-value}
use Rattle.blob_store.proofs.LettingGo.{all_gone, released, stays, LetGoTo}
use Rattle.blob_store.proofs.freed.release_claimed.Goals.{then-holds_claimed, else-holds_claimed}
use Rattle.blob_store.proofs.freed.release_claimed.Goals as goal

pub loop-k-init : goal.loop-k-init
loop-k-init g c = record { slots = refl; count = refl }

pub loop-k-preserved : goal.loop-k-preserved
loop-k-preserved g c =
    let old : Table = of_table (seen-value (g.dyn-1.0, g.dyn-1.1)).it c.args.handles.now in
    let mid : Table = of_table (seen-value (g.dyn-1.0, g.dyn-1.1)).it c.loop-k.handles in
    let inside : c.loop-k.k < length old.slots = subst (λ (n : ℕ). c.loop-k.k < n) c.len-k-end.ensures.value c.loop-k-test.true in
    let seen = (seen-value (g.dyn-1.0, g.dyn-1.1)).it in
    elim c.if-holds_claimed.branch [
      | then-holds_claimed w ↦ subst (λ (now : Table). LetGoTo (c.loop-k.k + 1) old now) (ap (of_table seen) (sym w.handles-is))
          (released old mid c.loop-k.k inside c.loop-k.invariant (sym c.holds_claimed.ensures ∙ w.if-holds_claimed.true)
          (of_table seen w.release.new.self) w.release.ensures.rest w.release.ensures.count)
      | else-holds_claimed w ↦ subst (λ (now : Table). LetGoTo (c.loop-k.k + 1) old now) (ap (of_table seen) (sym w.handles-is))
          (stays old mid c.loop-k.k inside c.loop-k.invariant (sym c.holds_claimed.ensures ∙ w.if-holds_claimed.false))
    ]

pub returns : goal.returns
returns g c =
    all_gone (of_table (seen-value g.dyn-1).it c.args.handles.now) (of_table (seen-value g.dyn-1).it c.loop-k.handles) c.loop-k.k
    (subst (λ (n : ℕ). n ≤ c.loop-k.k) c.len-k-end.ensures.value c.loop-k-test.false) c.loop-k.invariant
