-- Registries whose blobs have no bytes, on which the scripts of the tests run. Own.
use Rattle.std.specs.List.{AllByRecursion}
use Rattle.std.specs.Prelude.{List, [], length, sum_by, ℕ, ◌≡◌}
use Rattle.blob_entries.specs.Book.{Book}
use Rattle.blob_entries.specs.Contents.{step_len}
use Rattle.blob_entries.specs.Holdings.{fixed_views, views_in}
use Rattle.blob_entries.specs.Sound.{StepFits}
use Rattle.blob_entries.specs.declared.step.Step.{Step}

-- no entry has views on a slot
abbrev pub HasNoViews : Book → Type 0
HasNoViews book = (slot : ℕ) → views_in book.entries slot ≡ 0

-- empty ranges of entries that stand
pub record AreEmptySteps (book : Book) (steps : List Step) : Type 0 where
  pub fits : AllByRecursion (StepFits book.names book.entries (length book.entries)) steps
  pub size : sum_by step_len steps ≡ 0
  pub none : fixed_views steps ≡ []
