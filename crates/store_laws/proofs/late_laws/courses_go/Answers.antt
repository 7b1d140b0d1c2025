-- The law as it was proved.
use Rattle.store_laws.proofs.LateCourses.{courses_go}
use Rattle.store_laws.proofs.late_laws.courses_go.Goals as goal

pub returns : goal.returns
returns c = courses_go
