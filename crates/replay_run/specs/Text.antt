-- The last line of a session that was refused, and texts that are cut off. Own format.
use Rattle.std.specs.Prelude.{ℕ, ◌≡◌, ◌<◌, List, [], ◌∷◌, ◌++◌, length, take, codes, decimal}
use Rattle.text_fields.specs.Fields.{joined}
use Rattle.replay_run.specs.declared.reason.Reason.{Reason}
use Rattle.replay_run.specs.Reason.{reason_text}

-- `!`, the number of the line and the word
abbrev pub refusal_line : ℕ → Reason → List ℕ
refusal_line number reason = joined 32 (codes "!" ∷ decimal number ∷ reason_text reason ∷ []) ++ 10 ∷ []

-- a front of the text that lacks some byte
abbrev pub IsProperPrefix : List ℕ → List ℕ → Type 0
IsProperPrefix part text = (n : ℕ) × (n < length text) × (part ≡ take n text)
