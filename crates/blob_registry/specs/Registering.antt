-- An entry that is registered. Own.
use Rattle.std.specs.List.{AllByRecursion}
use Rattle.std.specs.Prelude.{IsSome, List, None, Option, Some, [], if◌then◌else◌, length, option_and_then, sum_by, true, ℕ, ◌++◌, ◌<◌, ◌∷◌, ◌≡◌, ◌⊎◌}
use Rattle.blob_entries.specs.Book.{Book, book_of, entry_of}
use Rattle.blob_entries.specs.Contents.{step_len}
use Rattle.blob_entries.specs.Endings.{is_granted_status}
use Rattle.blob_entries.specs.Names.{number_of}
use Rattle.blob_entries.specs.Sound.{AreOwn, StepFits}
use Rattle.blob_entries.specs.Statuses.{is_broken, is_pending}
use Rattle.blob_entries.specs.declared.entry.Entry.{Entry}
use Rattle.blob_entries.specs.declared.step.Step.{Step}
use Rattle.blob_items.specs.declared.view.View.{View}
use Rattle.blob_registry.specs.declared.fault.RegisterFault.{RegisterFault}
use Rattle.blob_registry.specs.declared.fault.RegisterFault.TheVariants.{Full, NameUsed, NoMemory}
use Rattle.blob_words.specs.declared.bounds.TheConstants.{MOST_BLOBS}
use Rattle.blob_words.specs.declared.number.RendererId.{RendererId}
use Rattle.blob_words.specs.declared.status.Status.{Status}

-- a new entry, which nobody holds
abbrev pub new_entry : RendererId → ℕ → List ℕ → List Step → Status → Entry
new_entry owner size kind recipe first =
    record { owner = owner; size = size; kind = kind; status = first; roots = 0; recipe = recipe; own = None; views = []; mark = None }

-- the entry under the next build number
abbrev pub pushed : Book → ℕ → Entry → Book
pushed book name entry = book_of (book.names ++ name ∷ []) (book.entries ++ Some entry ∷ [])

-- broken at once it is empty; else it is unfinished, as long as its steps, and its sources stand and have their ranges
abbrev pub CanRegister : Book → ℕ → List Step → Status → Type 0
CanRegister book size recipe first =
    ((is_broken first ≡ true) × (recipe ≡ []) × (size ≡ 0))
    ⊎ ((is_pending first ≡ true) × (size ≡ sum_by step_len recipe) × AllByRecursion (StepFits book.names book.entries (length book.entries)) recipe)

-- an unfinished entry that was granted and has not got its own bytes, for which these are the views
pub record CanBring (own : List View) (entry : Entry) : Type 0 where
  pub pending : is_pending entry.status ≡ true
  pub granted : is_granted_status entry.status ≡ true
  pub none : entry.own ≡ None
  pub fits : AreOwn entry.recipe own

-- what an unfinished entry is made of
abbrev pub recipe_of : Book → ℕ → Option (List Step)
recipe_of book name = option_and_then (λ (entry : Entry). if is_pending entry.status then Some entry.recipe else None) (entry_of book name)

-- why it was not
abbrev pub IsRegisterCause : RegisterFault → ℕ → Book → Type 0
IsRegisterCause NameUsed name book = IsSome (number_of name book.names)
IsRegisterCause Full name book = (number_of name book.names ≡ None) × (length book.names ≡ MOST_BLOBS)
IsRegisterCause NoMemory name book = (number_of name book.names ≡ None) × (length book.names < MOST_BLOBS)
