-- What a verdict says of the next group, where the groups before it are legal. Own.
use Rattle.std.specs.Prelude.{◌≡◌, ◌++◌, Bool, true, false, List, [], ◌∷◌}
use Rattle.std.specs.Option.{option_map_or}
use Rattle.session_script.specs.declared.event.Event.{Event}
use Rattle.answer_text.specs.declared.group.Group.{Group}
use Rattle.blob_model.specs.Session.{Outside, Session}
use Rattle.blob_model.specs.History.{History, start, after, history_from}
use Rattle.blob_model.specs.Legal.{IsLegalGroup, IsLegal}
use Rattle.transcript_audit.specs.Large.{is_large}
use Rattle.transcript_audit.specs.Runs.{session_by, FollowsRun}
use Rattle.transcript_audit.specs.declared.run.Run.{Run}
use Rattle.transcript_audit.specs.declared.verdict.Verdict.{Verdict}
use Rattle.transcript_audit.specs.declared.verdict.Verdict.TheVariants.{Legal, Illegal, Large}

-- after these groups the line builds more than is judged
abbrev pub is_large_after : Outside → List Group → Event → Bool
is_large_after outside [] event = false
is_large_after outside (first ∷ more) event =
    option_map_or (λ (s : Session). is_large s (history_from start more) event) (session_by outside first.event) false

-- `Large` is said exactly where the line builds more than is judged; of the other groups `Legal` exactly of one that makes a longer legal transcript, which is
-- taken
abbrev pub Says : Outside → List Group → Group → List Group → Verdict → Type 0
Says outside old group new Legal =
    (is_large_after outside old group.event ≡ false) × IsLegal outside (old ++ group ∷ []) × (new ≡ old ++ group ∷ [])
Says outside old group new Illegal = (is_large_after outside old group.event ≡ false) × (IsLegal outside (old ++ group ∷ []) → ⊥) × (new ≡ old)
Says outside old group new Large = (is_large_after outside old group.event ≡ true) × (new ≡ old)

-- what a verdict says of the next group after a history that a run keeps
abbrev pub SaysNext : Session → History → Group → Run → Verdict → Type 0
SaysNext s h group run Legal =
    (is_large s h group.event ≡ false) × IsLegalGroup s h group × FollowsRun s (after h group.event group.answers) run
SaysNext s h group run Illegal = (is_large s h group.event ≡ false) × (IsLegalGroup s h group → ⊥)
SaysNext s h group run Large = is_large s h group.event ≡ true
