-- Each group is computed.
use Rattle.std.proofs.Common.{refl}
use Rattle.replay_run.specs.Rows.{row_limits}
use Rattle.replay_run.proofs.rows.session_is_legal.Goals as goal

pub returns : goal.returns
returns c = (
  row_limits,
  refl,
  (
    record { open_still = refl; own_answer = _; is_own = refl; settles = refl; counts = refl },
    (
      record { open_still = refl; own_answer = _; is_own = refl; settles = refl; counts = refl },
      (
        record { open_still = refl; own_answer = _; is_own = refl; settles = refl; counts = refl },
        (
          record { open_still = refl; own_answer = _; is_own = refl; settles = refl; counts = refl },
          (
            record { open_still = refl; own_answer = _; is_own = refl; settles = refl; counts = refl },
            (record { open_still = refl; own_answer = _; is_own = refl; settles = refl; counts = refl }, tt),
          ),
        ),
      ),
    ),
  ),
)
