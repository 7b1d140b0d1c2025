use Rattle.answer_text.proofs.RowLemmas.{job_refused}
use Rattle.answer_text.proofs.rows.read_job_pieces.Goals as goal

pub returns-in-Err : goal.returns-in-Err
returns-in-Err c = job_refused c.in-Err.fault c.args.fields.now c.in-Err.ensures
