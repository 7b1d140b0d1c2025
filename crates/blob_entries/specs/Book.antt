-- What contracts see of the entries: the names in order of build, and what stands under each build number. Own.
use Rattle.std.specs.Option.{option_map, option_map_or}
use Rattle.std.specs.Prelude.{Bool, List, None, Option, Some, false, if◌then◌else◌, option_and_then, set, slice_index_or, ℕ}
use Rattle.blob_entries.specs.Names.{number_of}
use Rattle.blob_entries.specs.Statuses.{is_broken, is_done, is_pending}
use Rattle.blob_entries.specs.declared.entry.Entry.{Entry}
use Rattle.blob_items.specs.declared.view.View.{View}

-- the names that were registered, in order of build, and what stands under each build number; an entry that went leaves its number unused
pub record Book : Type 0 where
  pub names : List ℕ
  pub entries : List (Option Entry)

abbrev pub book_of : List ℕ → List (Option Entry) → Book
book_of names entries = record { names = names; entries = entries }

-- what stands under a build number
abbrev pub entry_at : List (Option Entry) → ℕ → Option Entry
entry_at entries number = slice_index_or entries number None

-- what stands under a name
abbrev pub entry_of : Book → ℕ → Option Entry
entry_of book name = option_and_then (entry_at book.entries) (number_of name book.names)

-- the book with a change of what stands under a build number
abbrev pub changed_at : Book → ℕ → (Entry → Entry) → Book
changed_at book number change = record book { entries = set book.entries number (option_map change (entry_at book.entries number)) }

-- the book with a change of what stands under a name
abbrev pub changed : Book → ℕ → (Entry → Entry) → Book
changed book name change = option_map_or (λ (number : ℕ). changed_at book number change) (number_of name book.names) book

-- whether something stands there that is still to end, is done, is broken
abbrev pub is_unfinished : Option Entry → Bool
is_unfinished held = option_map_or (λ (entry : Entry). is_pending entry.status) held false

abbrev pub is_done_at : List (Option Entry) → ℕ → Bool
is_done_at entries number = option_map_or (λ (entry : Entry). is_done entry.status) (entry_at entries number) false

abbrev pub is_broken_at : List (Option Entry) → ℕ → Bool
is_broken_at entries number = option_map_or (λ (entry : Entry). is_broken entry.status) (entry_at entries number) false

-- the views of a blob that is done
abbrev pub views_of : Book → ℕ → Option (List View)
views_of book name = option_and_then (λ (entry : Entry). if is_done entry.status then Some entry.views else None) (entry_of book name)
