-- Fronts of legal transcripts, and one more group.
use Rattle.std.proofs.Common.{List, [], ◌∷◌, ◌++◌}
use Rattle.answer_text.specs.declared.group.Group.{Group}
use Rattle.blob_model.specs.Session.{Outside, Session}
use Rattle.blob_model.specs.History.{History, start, after, history_from}
use Rattle.blob_model.specs.Legal.{IsLegalGroup, IsLegalFrom, IsLegal, session}

pub front_legal : (s : Session) (h : History) (front more : List Group) → IsLegalFrom s h (front ++ more) → IsLegalFrom s h front
front_legal s h [] more legal = tt
front_legal s h (group ∷ front) more legal = (legal.0, front_legal s (after h group.event group.answers) front more legal.1)

pub fronts : (outside : Outside) (front more : List Group) → IsLegal outside (front ++ more) → IsLegal outside front
fronts outside [] more legal = tt
fronts outside (group ∷ front) more legal = (legal.0, legal.1, legal.2, front_legal (session outside legal.0 legal.1) start front more legal.3)

pub more_legal : (s : Session) (h : History) (groups : List Group) (group : Group) → IsLegalFrom s h groups → IsLegalGroup s (history_from h groups) group
    → IsLegalFrom s h (groups ++ group ∷ [])
more_legal s h [] group legal one = (one, tt)
more_legal s h (first ∷ groups) group legal one = (legal.0, more_legal s (after h first.event first.answers) groups group legal.1 one)
