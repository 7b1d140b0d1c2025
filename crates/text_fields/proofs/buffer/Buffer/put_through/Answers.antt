use Rattle.std.proofs.Common.{◌≡◌, ◌++◌, sym}
use Rattle.std.proofs.lemmas.List.{take-append-drop}
use Rattle.text_fields.proofs.Outputs.{through_more, through_stops}
use Rattle.text_fields.proofs.buffer.Buffer.put_through.Goals as goal

pub returns-in-Err : goal.returns-in-Err
returns-in-Err g c =
    let rest = c.loop-rest.rest.now in
    let parts : rest ≡ c.split_at.result.0.now ++ c.split_at.result.1.now =
    rw (c.split_at.ensures.front, c.split_at.ensures.back) (sym (take-append-drop 4096 rest)) in
    let cut = c.in-Err.ensures.err in
    through_stops _ _ _ _ _ _ cut.0 _ rest _ _ _ _ c.loop-rest.invariant parts cut.1 cut.2 c.in-Err.ensures.failed c.in-Err.ensures.later c.requires

pub loop-rest-preserved : goal.loop-rest-preserved
loop-rest-preserved g c =
    let rest = c.loop-rest.rest.now in
    let parts : rest ≡ c.split_at.result.0.now ++ c.split_at.result.1.now =
    rw (c.split_at.ensures.front, c.split_at.ensures.back) (sym (take-append-drop 4096 rest)) in
    through_more _ _ _ _ _ _ _ rest _ _ c.loop-rest.invariant parts c.in-Ok.ensures.ok c.in-Ok.ensures.later
