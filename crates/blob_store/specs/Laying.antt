-- What is laid down of a blob that comes, before its entry is there. Own.
use Rattle.std.specs.Prelude.{ℕ, ◌≡◌, ◌+◌, ◌≤◌, false, List, ◌++◌, length, map, replicate, sum_by, Some}
use Rattle.blob_words.specs.declared.plan.Plan.{Plan}
use Rattle.blob_words.specs.declared.plan.Plan.TheVariants as plans
use Rattle.session_script.specs.declared.event.Part.{Part}
use Rattle.item_shares.specs.Shares.{share_at, share_of}
use Rattle.item_shares.specs.declared.item.Item.{Item}
use Rattle.blob_items.specs.declared.view.View.{View}
use Rattle.blob_model.specs.Parts.{embedded, own_bytes, own_lengths}
use Rattle.page_files.specs.Files.{room}
use Rattle.transport_plan.specs.Spans.{piece_count}
use Rattle.store_laws.specs.EntryLaws.{AreBrought}
use Rattle.store_laws.specs.PartLaws.{AreRanges}
use Rattle.store_laws.specs.Weights.{memory_weight, piece_weight, reserved_weight}
use Rattle.store_laws.specs.Arrivals.{lengths_by}
use Rattle.store_laws.specs.NewItems.{own_items, range_items}
use Rattle.blob_store.specs.Putting.{ArePut}
use Rattle.blob_store.specs.Rows.{waits_by}
use Rattle.blob_store.specs.declared.building.laying.Laid.{Laid}
use Rattle.blob_store.specs.declared.parts.Parts.{Parts}
use Rattle.blob_store.specs.declared.row.Sending.{Sending}
use Rattle.blob_store.specs.declared.row.Sending.TheVariants.{Settled, Waiting, Writing}

-- the slot of a view
abbrev pub slot_of : View → ℕ
slot_of view = view.slot

-- how the own bytes come
abbrev pub sending_by : Plan → List ℕ → Sending
sending_by (plans.Shared n) slots = Waiting
sending_by (plans.File n) slots = Writing slots (replicate (length slots) false)
sending_by plan slots = Settled

-- where the pieces are; those that wait are nowhere
abbrev pub homes_by : ℕ → Plan → List Part → List ℕ → List ℕ
homes_by page (plans.Shared n) parts slots = replicate (piece_count page (own_lengths parts)) 0
homes_by page plan parts slots = slots

-- there is room for the own bytes where they go
abbrev pub HasRoom : Plan → List Part → Parts → Type 0
HasRoom (plans.Shared n) line parts = Unit {0}
HasRoom (plans.File n) line parts = own_bytes line ≤ room parts.pages
HasRoom plans.None line parts = (own_bytes line ≤ length (embedded line)) × (parts.quota.used + own_bytes line ≤ parts.quota.limit)
HasRoom plans.Inline line parts = (own_bytes line ≤ length (embedded line)) × (parts.quota.used + own_bytes line ≤ parts.quota.limit)
HasRoom plan line parts = ⊥

abbrev pub first_piece : Parts → ℕ
first_piece parts = length parts.homes

-- the items of the ranges and of the own pieces came, and are charged
pub record Lays (name : ℕ) (plan : Plan) (line : List Part) (old : Parts) (laid : Laid) (now : Parts) : Type 0 where
  pub put : ArePut old.shares (range_items line ++ own_items old.limits.page (first_piece old) plan line) (laid.ranges ++ laid.pieces) now.shares
  pub ranges : AreRanges now.shares laid.ranges line
  pub pieces : AreBrought now.shares (first_piece old) (lengths_by old.limits.page plan line) laid.pieces
  pub held : map (λ (view : View). share_at now.shares view.slot) laid.pieces
      ≡ map (λ (item : Item). Some (share_of item 1)) (own_items old.limits.page (first_piece old) plan line)
  pub sending : laid.sending ≡ sending_by plan (map slot_of laid.pieces)
  pub rest : now ≡ record old {
    shares = now.shares;
    homes = old.homes ++ homes_by old.limits.page plan line (map slot_of laid.pieces);
    quota = record old.quota {
      used = old.quota.used + sum_by memory_weight (own_items old.limits.page (first_piece old) plan line);
      waiting = old.quota.waiting ++ waits_by name (own_bytes line) laid.sending;
    };
    pages = record old.pages { reserved = old.pages.reserved + sum_by reserved_weight (own_items old.limits.page (first_piece old) plan line) };
    held = old.held + sum_by piece_weight (own_items old.limits.page (first_piece old) plan line);
  }
