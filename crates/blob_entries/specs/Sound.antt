-- What is kept of the entries between calls. Own.
use Rattle.std.specs.List.{AllByRecursion}
use Rattle.std.specs.Prelude.{IfSome, IsSomeAnd, List, Option, [], length, sum_by, true, ℕ, ◌+◌, ◌-◌, ◌<◌, ◌^◌, ◌∷◌, ◌≡◌, ◌≤◌}
use Rattle.blob_entries.specs.Book.{entry_at}
use Rattle.blob_entries.specs.Contents.{step_len}
use Rattle.blob_entries.specs.Names.{number_of}
use Rattle.blob_entries.specs.Statuses.{is_broken, is_done, is_pending}
use Rattle.blob_entries.specs.declared.entry.Entry.{Entry}
use Rattle.blob_entries.specs.declared.step.Step.{Step}
use Rattle.blob_entries.specs.declared.step.Step.TheVariants.{Fixed, Own, Source}
use Rattle.blob_items.specs.Cells.{total}
use Rattle.blob_items.specs.declared.view.View.{View}
use Rattle.blob_words.specs.declared.status.Status.{Status}

-- a source stands, was built before, and has the range
abbrev pub StepFits : List ℕ → List (Option Entry) → ℕ → Step → Type 0
StepFits names entries number (Own piece len) = Unit {0}
StepFits names entries number (Fixed view) = Unit {0}
StepFits names entries number (Source name off len) =
    IsSomeAnd (number_of name names) (λ (source : ℕ). (source < number) × IsSomeAnd (entry_at entries source) (λ (entry : Entry). off + len ≤ entry.size))

-- the views that were brought are those of the own steps, in order and with their lengths
abbrev pub AreOwn : List Step → List View → Type 0
AreOwn [] views = views ≡ []
AreOwn (Own piece len ∷ steps) [] = ⊥
AreOwn (Own piece len ∷ steps) (view ∷ views) = (view.len ≡ len) × AreOwn steps views
AreOwn (Fixed view ∷ steps) views = AreOwn steps views
AreOwn (Source name off len ∷ steps) views = AreOwn steps views

-- a mark is a status with which an entry breaks
abbrev pub IsBreaking : Status → Type 0
IsBreaking why = is_broken why ≡ true

-- what an unfinished entry is made of fits, and a done one has its bytes
pub record IsSound (names : List ℕ) (entries : List (Option Entry)) (number : ℕ) (entry : Entry) : Type 0 where
  pub steps : is_pending entry.status ≡ true → AllByRecursion (StepFits names entries number) entry.recipe
  pub size : is_pending entry.status ≡ true → entry.size ≡ sum_by step_len entry.recipe
  pub fits : entry.size ≤ 2 ^ 64 - 1
  pub own : is_pending entry.status ≡ true → IfSome entry.own (AreOwn entry.recipe)
  pub bare : is_pending entry.status ≡ true → entry.views ≡ []
  pub mark : IfSome entry.mark IsBreaking
  pub made : is_done entry.status ≡ true → total entry.views ≡ entry.size

pub record AreSound (names : List ℕ) (entries : List (Option Entry)) : Type 0 where
  pub sized : length names ≡ length entries
  pub each : (number : ℕ) → IfSome (entry_at entries number) (IsSound names entries number)
