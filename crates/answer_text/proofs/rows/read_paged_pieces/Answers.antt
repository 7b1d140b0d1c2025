use Rattle.answer_text.proofs.RowLemmas.{paged_refused}
use Rattle.answer_text.proofs.rows.read_paged_pieces.Goals as goal

pub returns-in-Err : goal.returns-in-Err
returns-in-Err c = paged_refused c.in-Err.fault c.args.fields.now c.in-Err.ensures
