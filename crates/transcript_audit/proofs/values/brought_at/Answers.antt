-- The arrival of a segment, found among those of all blobs.
use Rattle.std.proofs.Common.{ℕ, List, sym, ap, ◌∙◌}
use Rattle.std.specs.Prelude.{slice_get}
use Rattle.std.specs.Option.{option_map, option_and_then}
use Rattle.transcript_audit.proofs.Arrivals.{brought_bytes, brought_among}
use Rattle.transcript_audit.proofs.values.brought_at.Goals as goal

pub returns-in-Some : goal.returns-in-Some
returns-in-Some c =
    c.arrival_byte.ensures
    ∙ sym
    (ap (option_and_then (λ (bytes : List ℕ). slice_get bytes c.args.place))
    (brought_among c.args.all.now c.args.name c.args.segment ∙ sym (ap (option_map brought_bytes) c.in-Some.ensures)))

pub returns-in-None : goal.returns-in-None
returns-in-None c =
    sym
    (ap (option_and_then (λ (bytes : List ℕ). slice_get bytes c.args.place))
    (brought_among c.args.all.now c.args.name c.args.segment ∙ sym (ap (option_map brought_bytes) c.in-None.ensures)))
