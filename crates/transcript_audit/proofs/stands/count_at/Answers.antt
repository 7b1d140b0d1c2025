-- One place more.
use Rattle.std.proofs.Common.{◌≡◌, ℕ, ◌+◌, List, get_or, length, take, ap, ◌∙◌, arith, length-append}
use Rattle.std.specs.Prelude.{slice_get}
use Rattle.std.specs.Option.{option_to_list}
use Rattle.blob_model.specs.Builds.{Build}
use Rattle.history_notions.specs.Chosen.{items_at}
use Rattle.transcript_audit.proofs.Turned.{place_more}
use Rattle.transcript_audit.proofs.stands.count_at.Goals as goal

pub loop-place-preserved : goal.loop-place-preserved
loop-place-preserved c =
    let items : List Build = c.args.builds.now in
    let places : List ℕ = c.args.places.now in
    let i : ℕ = c.loop-place.place-index in
    let grown : length (items_at items (take (i + 1) places)) ≡ length (items_at items (take i places)) + length
    (option_to_list (slice_get items (get_or places i 0))) =
    ap (length {A = Build}) (place_more items places i (omega arith)) ∙ length-append (items_at items (take i places))
    (option_to_list (slice_get items (get_or places i 0))) in
    (omega (arith, grown, c.count_one-count.ensures.count, c.loop-place.invariant.0), omega (arith, c.count_one-count.ensures.small, c.loop-place.invariant.1))
