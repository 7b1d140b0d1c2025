-- One item more.
use Rattle.std.proofs.Common.{◌≡◌, ℕ, ap}
use Rattle.store_laws.specs.Items.{item_length}
use Rattle.blob_store.proofs.Putting.{put_more}
use Rattle.blob_store.proofs.building.putting.put_item.Goals as goal

pub returns-clause-puts : goal.returns-clause-puts
returns-clause-puts c = λ old before put.
    let all : (0, c.item_length-len.result) ≡ (0, item_length c.args.item) = ap (λ (n : ℕ). (0, n)) c.item_length-len.ensures in
    rw c.in_ok-push.ensures.ok
    (put_more old c.args.shares.now c.add.new.self before c.args.item c.args.views.now _ put c.in_ok-slot.ensures.vacant c.in_ok-slot.ensures.ok
    c.in_ok-slot.ensures.weighs all)
