-- Part by part, the pieces stand at the spans.
use Rattle.std.proofs.Common.{◌≡◌, ◌∙◌, ap, refl, ℕ, ◌+◌, ◌*◌, ◌-◌, List, [], ◌∷◌, ◌++◌, length, map, min}
use Rattle.std.specs.List.{range_with_len}
use Rattle.std.specs.Int.{div_ceil}
use Rattle.std.proofs.lemmas.Simd.{map-map}
use Rattle.std.proofs.lemmas.List.{map-append}
use Rattle.session_script.specs.declared.event.Part.{Part}
use Rattle.replay_run.specs.Builds.{part_bytes}
use Rattle.replay_run.specs.Pieces.{part_pieces, pieces_from}
use Rattle.transport_plan.specs.Spans.{cut_spans, piece_spans}
use Rattle.plan_laws.specs.Laws.{span_of}
use Rattle.plan_laws.proofs.pieces_agree.Goals as goal

of_part : (page name from len : ℕ) → map span_of (part_pieces page name from len) ≡ cut_spans page from len
of_part page name from len = map-map span_of (λ (k : ℕ). record { blob = name; from = from + k * page; len = min page (len - k * page) })
    (range_with_len 0 (div_ceil len page))

of_parts : (page name from : ℕ) (parts : List Part) → map span_of (pieces_from page name from parts)
    ≡ piece_spans page from (map (λ (part : Part). length (part_bytes part)) parts)
of_parts page name from [] = refl
of_parts page name from (part ∷ parts) =
    let len = length (part_bytes part) in
    map-append span_of (part_pieces page name from len) (pieces_from page name (from + len) parts)
    ∙ ap (λ spans. spans ++ map span_of (pieces_from page name (from + len) parts)) (of_part page name from len)
    ∙ ap (λ spans. cut_spans page from len ++ spans) (of_parts page name (from + len) parts)

pub returns : goal.returns
returns c page build = of_parts page build.name 0 build.parts
