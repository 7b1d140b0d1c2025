use Rattle.std.proofs.Common.{ℕ, List, [], ◌∷◌, map, decimal, ap}
use Rattle.blob_words.specs.BlobName.{name_text}
use Rattle.text_fields.specs.Fields.{fields, hex_text}
use Rattle.session_script.specs.declared.event.Part.{Part}
use Rattle.session_script.specs.Line.{part_text}
use Rattle.text_fields.proofs.Each.{heads_then, heads_stop}
use Rattle.text_fields.proofs.Outputs.{put_as}
use Rattle.session_script.proofs.print.put_build.Goals as goal

pub returns-in-Ok : goal.returns-in-Ok
returns-in-Ok g c =
    let heads : List (List ℕ) = decimal c.args.r.now.0 ∷ name_text c.args.b.now ∷ hex_text c.args.kind.now ∷ [] in
    heads_then _ _ _ 32 heads (map part_text c.args.parts.now) c.put_each.result c.in-Ok.ensures
    (put_as _ _ _ _ _ (ap (λ (all : List Part). fields 32 (map part_text all)) c.as_slice.ensures) c.put_each.ensures)

pub returns-in-Err : goal.returns-in-Err
returns-in-Err g c =
    let heads : List (List ℕ) = decimal c.args.r.now.0 ∷ name_text c.args.b.now ∷ hex_text c.args.kind.now ∷ [] in
    heads_stop _ _ 32 heads (map part_text c.args.parts.now) c.in-Err.ensures
