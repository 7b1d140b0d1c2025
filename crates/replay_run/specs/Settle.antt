-- What a store still owes after a line's own effect. Own.
use Rattle.std.specs.Prelude.{ℕ, ◌==◌, not, List, [], ◌∷◌, ◌++◌, map, filter}
use Rattle.session_script.specs.declared.event.Event.{Event}
use Rattle.session_script.specs.declared.event.Event.TheVariants as events
use Rattle.answer_text.specs.declared.answer.Answer.{Answer}
use Rattle.answer_text.specs.declared.answer.Answer.TheVariants as answers
use Rattle.replay_run.specs.History.{History, start, heard, said}

-- a blob is unfinished from its build on
abbrev pub unfinished_after : Event → Answer → List ℕ → List ℕ
unfinished_after (events.Build renderer name kind parts) (answers.Planned plan) names = names ++ name ∷ []
unfinished_after event answer names = names

-- until it is answered `done`
abbrev pub finished_by : Answer → List ℕ → List ℕ
finished_by (answers.Done name) names = filter (λ (unfinished : ℕ). not (name == unfinished)) names
finished_by answer names = names

-- the unfinished blobs, in order of build
abbrev pub unfinished : History → List ℕ
unfinished start = []
unfinished (heard h event answer) = unfinished_after event answer (unfinished h)
unfinished (said h answer) = finished_by answer (unfinished h)

-- an unfinished blob misses no byte here, so it gets done, in rising order of build
abbrev pub settle : History → List Answer
settle h = map answers.Done (unfinished h)
