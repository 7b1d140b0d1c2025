-- The eight lines that sum up a transcript. Own.
use Rattle.std.specs.Prelude.{ℕ, Bool, true, false, List, [], ◌∷◌, ◌++◌, codes, count_by, decimal, flat_map, fold, length, max, sum_by}
use Rattle.blob_words.specs.declared.tally.Tally.{Tally}
use Rattle.answer_text.specs.declared.answer.Answer.{Answer}
use Rattle.answer_text.specs.declared.answer.Answer.TheVariants as answers
use Rattle.answer_text.specs.declared.group.Group.{Group}

abbrev pub is_done : Answer → Bool
is_done (answers.Done b) = true
is_done answer = false

abbrev pub is_job : Answer → Bool
is_job (answers.Job j pieces) = true
is_job answer = false

abbrev pub is_paged : Answer → Bool
is_paged (answers.Paged j page pieces) = true
is_paged answer = false

abbrev pub is_refused : Answer → Bool
is_refused (answers.Refused why) = true
is_refused answer = false

-- the bytes that an answer gives a reader
abbrev pub given_bytes : Answer → ℕ
given_bytes (answers.Given q bytes) = length bytes
given_bytes answer = 0

-- all answers, in their order
abbrev pub answers_of : List Group → List Answer
answers_of groups = flat_map (λ (group : Group). group.answers) groups

-- the greatest number of bytes in memory of a tally
abbrev pub peak : List Group → ℕ
peak groups = fold (λ most (group : Group). max most group.tally.memory) 0 groups

-- the tally of the last group; none is held before the first
abbrev pub last_tally : List Group → Tally
last_tally groups = fold (λ before (group : Group). group.tally) (record { pieces = 0; memory = 0; files = 0; disk = 0 }) groups

-- a word, its numbers behind a space each, and a line feed
abbrev pub line : List ℕ → List ℕ → List ℕ
line word numbers = word ++ flat_map (λ number. 32 ∷ decimal number) numbers ++ 10 ∷ []

-- lines N, done N, jobs N, paged N, given N, refused N, peak N, last P M F D
abbrev pub Summary : List Group → List ℕ
Summary groups =
    line (codes "lines") (length groups ∷ [])
    ++ line (codes "done") (count_by is_done (answers_of groups) ∷ [])
    ++ line (codes "jobs") (count_by is_job (answers_of groups) ∷ [])
    ++ line (codes "paged") (count_by is_paged (answers_of groups) ∷ [])
    ++ line (codes "given") (sum_by given_bytes (answers_of groups) ∷ [])
    ++ line (codes "refused") (count_by is_refused (answers_of groups) ∷ [])
    ++ line (codes "peak") (peak groups ∷ [])
    ++ line (codes "last") ((last_tally groups).pieces ∷ (last_tally groups).memory ∷ (last_tally groups).files ∷ (last_tally groups).disk ∷ [])
