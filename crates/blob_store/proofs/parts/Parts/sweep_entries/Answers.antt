-- Counts and charges before the sweep allow it, and what goes keeps them.
use Rattle.std.proofs.Common.{◌≡◌, ◌+◌, ◌-◌, List, ap, subst, ◌∙◌}
use Rattle.std.specs.Prelude.{sum_by}
use Rattle.item_shares.specs.declared.item.Item.{Item}
use Rattle.store_laws.specs.Weights.{memory_weight, piece_weight, reserved_weight}
use Rattle.blob_store.specs.Whole.{IsCharged}
use Rattle.blob_store.proofs.Sweeping.{charged_swept, counted}
use Rattle.blob_store.proofs.parts.Parts.sweep_entries.Goals as goal

pub sweep-requires : goal.sweep-requires
unfolding IsCharged
sweep-requires c =
    let parts = c.args.self.now in
    record { counted = counted parts.registry.entries parts.shares parts.rows parts.quota parts.pages parts.held c.requires }

pub returns-clause-charged : goal.returns-clause-charged
unfolding IsCharged
returns-clause-charged c =
    let parts = c.args.self.now in
    charged_swept parts.registry c.sweep.new.self parts.shares c.sweep.new.shares parts.rows parts.quota parts.pages parts.held c.in-Ok.swept.dropped
    c.in-Ok.swept.freed c.requires c.in-Ok.ensures.swept c.discharge.new.quota c.discharge.new.pages c.discharge.new.held
    (c.discharge.ensures.used
    ∙ ap (λ (list : List Item). record parts.quota { used = parts.quota.used - sum_by memory_weight list }) c.as_slice.ensures)
    (subst (λ (list : List Item). c.discharge.new.pages.reserved + sum_by reserved_weight list ≡ parts.pages.reserved) c.as_slice.ensures
    c.discharge.ensures.reserved)
    (subst (λ (list : List Item). c.discharge.new.held + sum_by piece_weight list ≡ parts.held) c.as_slice.ensures c.discharge.ensures.held)
