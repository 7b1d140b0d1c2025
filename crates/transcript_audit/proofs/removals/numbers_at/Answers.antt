-- One place more.
use Rattle.std.proofs.Common.{ℕ, ◌++◌, List, get_or, map, sym, ap, ◌∙◌, arith}
use Rattle.std.specs.Prelude.{slice_get}
use Rattle.std.specs.Option.{option_to_list}
use Rattle.transcript_audit.specs.Owed.{number_of}
use Rattle.transcript_audit.proofs.Turned.{mapped_more}
use Rattle.transcript_audit.proofs.removals.numbers_at.Goals as goal

pub loop-place-preserved : goal.loop-place-preserved
loop-place-preserved c =
    let places : List ℕ = c.args.places.now in
    let i : ℕ = c.loop-place.place-index in
    c.in_ok-put_number.ensures
    ∙ ap (λ (front : List ℕ). front ++ map number_of (option_to_list (slice_get c.args.pages.now (get_or places i 0)))) c.loop-place.invariant
    ∙ sym (mapped_more number_of c.args.pages.now places i (omega arith))
