-- What every legal transcript keeps. Own.
use Rattle.std.specs.Prelude.{◌≡◌, ◌≤◌, List, [], ◌∷◌, Some}
use Rattle.answer_text.specs.declared.answer.Answer.TheVariants as answers
use Rattle.answer_text.specs.declared.refusal.Refusal.{Refusal}
use Rattle.answer_text.specs.declared.group.Group.{Group}
use Rattle.blob_model.specs.Session.{Session, page_limit}
use Rattle.blob_model.specs.History.{start, history_from}
use Rattle.blob_model.specs.Tally.{memory, disk, tally}
use Rattle.blob_model.specs.Settle.{IsSettled}
use Rattle.blob_model.specs.Refusals.{refusal}
use Rattle.blob_model.specs.Legal.{IsLegalGroup, IsLegalFrom}

-- after each group of a legal transcript nothing is owed
abbrev pub SettledAfterEach : Type 0
SettledAfterEach = (s : Session) (groups : List Group) → IsLegalFrom s start groups → IsSettled s (history_from start groups)

-- a refused line has one answer, settles nothing, and keeps the tally of the group before it
abbrev pub RefusedSettlesNothing : Type 0
RefusedSettlesNothing =
    (s : Session) (groups : List Group) (group : Group) (why : Refusal) → IsLegalFrom s start groups → IsLegalGroup s (history_from start groups) group →
    refusal s (history_from start groups) group.event ≡ Some why →
    (group.answers ≡ answers.Refused why ∷ []) × (group.tally ≡ tally (page_limit s) (history_from start groups))

-- after each group of a legal transcript the bytes in memory are within the limit
abbrev pub MemoryFits : Type 0
MemoryFits = (s : Session) (groups : List Group) → IsLegalFrom s start groups → memory (page_limit s) (history_from start groups) ≤ s.limits.memory

-- after each group of a legal transcript the bytes charged to the disk are within the limit
abbrev pub DiskFits : Type 0
DiskFits = (s : Session) (groups : List Group) → IsLegalFrom s start groups → disk (page_limit s) (history_from start groups) ≤ s.limits.disk
