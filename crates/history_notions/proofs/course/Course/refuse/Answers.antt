-- The contents take the refused line, and the uses stay.
use Rattle.history_notions.proofs.course.Course.refuse.Goals as goal

pub returns : goal.returns
returns c = λ s h event why follows. record { follows = c.refuse.ensures s h event why follows.follows; uses_are = follows.uses_are }
