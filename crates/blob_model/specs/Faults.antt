-- The answers that tell a fault of the outside. Own.
use Rattle.std.specs.Prelude.{ℕ, Bool, true, false, List, count_by, flat_map}
use Rattle.answer_text.specs.declared.answer.Answer.{Answer}
use Rattle.answer_text.specs.declared.answer.Answer.TheVariants as answers
use Rattle.answer_text.specs.declared.group.Group.{Group}

-- a call of the page disk failed
abbrev pub is_disk_fault : Answer → Bool
is_disk_fault (answers.StoreFailed file) = true
is_disk_fault (answers.PageFailed job file) = true
is_disk_fault (answers.MoveFailed job file) = true
is_disk_fault (answers.MoveUnread job file) = true
is_disk_fault (answers.Left file) = true
is_disk_fault (answers.PageFault reader file) = true
is_disk_fault answer = false

-- a read of a data handle failed
abbrev pub is_handle_fault : Answer → Bool
is_handle_fault (answers.HandleFailed reader slot) = true
is_handle_fault answer = false

-- all answers of a transcript, in order
abbrev pub answers_of : List Group → List Answer
answers_of groups = flat_map (λ (group : Group). group.answers) groups

-- how many of its answers tell a fault of the disk, and of a data handle
abbrev pub disk_faults : List Group → ℕ
disk_faults groups = count_by is_disk_fault (answers_of groups)

abbrev pub handle_faults : List Group → ℕ
handle_faults groups = count_by is_handle_fault (answers_of groups)
