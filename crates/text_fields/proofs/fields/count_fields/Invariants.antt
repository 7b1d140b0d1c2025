use Rattle.std.proofs.Common.{◌≡◌, ◌+◌, ◌≤◌, length}
use Rattle.text_fields.specs.Reading.{split}
use Rattle.text_fields.proofs.fields.count_fields.Given as goal

abbrev pub invariant-loop-at : goal.invariant-loop-at
invariant-loop-at l = (l.count + length (split l.separator l.rest) ≡ 1 + length (split l.separator l.text)) × (l.count + length l.rest ≤ 1 + length l.text)

abbrev pub decreases-loop-at : goal.decreases-loop-at
decreases-loop-at l = length l.rest
