-- One more row goes, that of the next that ended.
use Rattle.std.proofs.Common.{ℕ, ◌<◌, ap, subst, sym, ◌∙◌}
use Rattle.std.proofs.lemmas.List.{get_or-map, length-map}
use Rattle.blob_registry.specs.declared.ended_blob.EndedBlob.{EndedBlob}
use Rattle.store_laws.specs.Passing.{ended_names}
use Rattle.blob_store.proofs.RowsGoing.{next_goes}
use Rattle.blob_store.proofs.parts.Parts.end_rows.Goals as goal

pub loop-end-preserved : goal.loop-end-preserved
loop-end-preserved c =
    let list = c.args.ended.now in
    let i = c.loop-end.end-index in
    let name = c.end-item.result.name in
    next_goes c.args.self.now c.loop-end.self c.drop_row.new.self (ended_names list) i name
    (subst (λ (n : ℕ). i < n) (sym (length-map list (λ (end : EndedBlob). end.name))) c.loop-end-test.true)
    (ap (λ (end : EndedBlob). end.name) c.end-item.is
    ∙ sym (get_or-map (λ (end : EndedBlob). end.name) list i c.end-item.result name c.loop-end-test.true)) c.loop-end.invariant c.drop_row.ensures
