-- One reader more has gone on.
use Rattle.std.proofs.Common.{◌≡◌, arith, ap, sym, ◌∙◌}
use Rattle.std.specs.Prelude.{slice_set}
use Rattle.std.proofs.lemmas.List.Edits.{map_over_more}
use Rattle.blob_model.specs.Readers.{OpenReader, advanced}
use Rattle.history_notions.proofs.readers.advance.Goals as goal

pub loop-reader-preserved : goal.loop-reader-preserved
loop-reader-preserved c =
    let written : c.advance_one.new.reader ≡ advanced c.args.number c.args.count c.reader-item.result =
    c.in_ok-advance_one.ensures ∙ ap (advanced c.args.number c.args.count) (sym c.reader-item.is) in
    ap (λ (reader : OpenReader). slice_set c.loop-reader.reader-items c.loop-reader.reader-index reader) written
    ∙ map_over_more (advanced c.args.number c.args.count) c.args.readers.now c.loop-reader.reader-items c.loop-reader.reader-index
    c.reader-item.result (omega arith) c.loop-reader.invariant c.reader-item.is
