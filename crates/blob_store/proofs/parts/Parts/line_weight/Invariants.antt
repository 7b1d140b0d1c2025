use Rattle.std.proofs.Common.{◌≡◌, ◌*◌, ◌≤◌, ◌^◌, take}
use Rattle.store_laws.specs.Deciding.{line_weight_in}
use Rattle.blob_store.specs.Seen.{parts_of}
use Rattle.blob_store.proofs.parts.Parts.line_weight.Given as goal

abbrev pub invariant-loop-part : goal.invariant-loop-part
invariant-loop-part l = (l.total ≡ line_weight_in (parts_of l.self) (take l.part-index l.parts)) × (l.total ≤ l.part-index * 2 ^ 64)
