-- Words of a fixed list, each with its text. Own.
use Rattle.std.specs.Prelude.{ℕ, ◌≡◌, ◌≢◌, List, [], ◌∷◌, Option, Some, None, if◌then◌else◌}
use Rattle.std.specs.Str.{bytes_eq}

-- the first word of a list that has the text
abbrev pub look_up : {W : Type 0} → (W → List ℕ) → List W → List ℕ → Option W
look_up text_of [] text = None
look_up text_of (word ∷ words) text = if bytes_eq (text_of word) text then Some word else look_up text_of words text

-- the word that is spelled so, or none where no word is
abbrev pub IsWordOf : {W S : Type 0} → (W → S) → S → Option W → Type 0
IsWordOf {W = W} spell text None = (word : W) → text ≢ spell word
IsWordOf spell text (Some word) = text ≡ spell word
