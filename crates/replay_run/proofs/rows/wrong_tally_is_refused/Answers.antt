-- The build's tally counts the three bytes.
use Rattle.std.proofs.Common.{◌≡◌, ap, arith}
use Rattle.blob_words.specs.declared.tally.Tally.{Tally}
use Rattle.replay_run.specs.Rows.{after_limits}
use Rattle.replay_run.proofs.RowLemmas.{behind_limits}
use Rattle.replay_run.proofs.rows.wrong_tally_is_refused.Goals as goal

pub returns : goal.returns
returns c legal =
    let build = (behind_limits (after_limits 99 4) legal).1.0 in
    let memory : 4 ≡ 3 = ap (λ (tally : Tally). tally.memory) build.counts in
    omega (arith, memory)
