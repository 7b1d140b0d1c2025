-- One place more.
use Rattle.std.proofs.Common.{ℕ, ◌++◌, List, get_or, map, sym, ap, ◌∙◌, arith}
use Rattle.std.specs.Prelude.{slice_get}
use Rattle.std.specs.Option.{option_to_list}
use Rattle.transcript_audit.specs.Owed.{head}
use Rattle.transcript_audit.proofs.Turned.{mapped_more}
use Rattle.transcript_audit.proofs.grants.heads_at.Goals as goal

pub loop-place-preserved : goal.loop-place-preserved
loop-place-preserved c =
    let places : List ℕ = c.args.places.now in
    let i : ℕ = c.loop-place.place-index in
    c.in_ok-put_head.ensures
    ∙ ap (λ (front : List (ℕ × ℕ)). front ++ map head (option_to_list (slice_get c.args.builds.now (get_or places i 0)))) c.loop-place.invariant
    ∙ sym (mapped_more head c.args.builds.now places i (omega arith))
