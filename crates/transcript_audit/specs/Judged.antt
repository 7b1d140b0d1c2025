-- What the judgement of a group says. Own.
use Rattle.std.specs.Prelude.{Bool, true, false}
use Rattle.answer_text.specs.declared.group.Group.{Group}
use Rattle.blob_model.specs.Session.{Session}
use Rattle.blob_model.specs.History.{History, after}
use Rattle.blob_model.specs.Legal.{IsLegalGroup}
use Rattle.history_notions.specs.declared.course.Course.{Course}
use Rattle.history_notions.specs.FollowsCourse.{FollowsCourse}

-- the group may come after the history, and what is kept is then that of the history with it; or it may not come
abbrev pub Judged : Session → History → Group → Course → Bool → Type 0
Judged s h group course true = IsLegalGroup s h group × FollowsCourse s (after h group.event group.answers) course
Judged s h group course false = IsLegalGroup s h group → ⊥
