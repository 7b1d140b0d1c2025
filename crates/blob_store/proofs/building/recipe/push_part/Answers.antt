-- The number of the next piece.
use Rattle.std.proofs.Common.{◌≡◌, ℕ, [], ◌∷◌, ap, sym, ◌∙◌, arith}
use Rattle.blob_model.specs.Parts.{own_length}
use Rattle.session_script.specs.declared.event.Part.{Part}
use Rattle.transport_plan.specs.Spans.{piece_count}
use Rattle.blob_store.proofs.Putting.{one_count, pieces_long}
use Rattle.blob_store.proofs.building.recipe.push_part.Goals as goal

pub returns-in_ok-next-in-Embedded-clause-number : goal.returns-in_ok-next-in-Embedded-clause-number
returns-in_ok-next-in-Embedded-clause-number c =
    let page = c.args.page in
    let count : piece_count page (own_length c.args.part.now) ≡ piece_count page (c.len.result ∷ []) =
    ap (λ (part : Part). piece_count page (own_length part)) c.in-Embedded.is ∙ ap (λ (n : ℕ). piece_count page (n ∷ [])) (sym c.len.ensures) in
    omega (arith, c.in_ok-next-in-Embedded.ensures.0, pieces_long page c.len.result, one_count page c.len.result, count)

pub returns-in_ok-next-in-Asked-clause-number : goal.returns-in_ok-next-in-Asked-clause-number
returns-in_ok-next-in-Asked-clause-number c =
    let page = c.args.page in
    let count : piece_count page (own_length c.args.part.now) ≡ piece_count page (c.in-Asked.len ∷ []) =
    ap (λ (part : Part). piece_count page (own_length part)) c.in-Asked.is in
    omega (arith, c.in_ok-next-in-Asked.ensures.0, pieces_long page c.in-Asked.len, one_count page c.in-Asked.len, count)
