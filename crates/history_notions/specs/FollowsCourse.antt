-- When what is kept with the last uses agrees with a history. Own.
use Rattle.std.specs.Prelude.{◌≡◌}
use Rattle.blob_model.specs.Session.{Session}
use Rattle.blob_model.specs.History.{History}
use Rattle.blob_model.specs.Victims.{last_uses}
use Rattle.history_notions.specs.Follows.{Follows}
use Rattle.history_notions.specs.declared.course.Course.{Course}

-- the contents follow the history, and the uses are its last uses
pub record FollowsCourse (s : Session) (h : History) (course : Course) : Type 0 where
  pub follows : Follows s h course.contents
  pub uses_are : course.uses.items ≡ last_uses s.limits h
