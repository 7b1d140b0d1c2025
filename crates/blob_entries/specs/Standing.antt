-- What stands, in order of build. Own.
use Rattle.std.specs.Option.{option_map}
use Rattle.std.specs.Prelude.{List, None, Option, Some, slice_index, ℕ, [], ◌++◌, ◌∷◌}
use Rattle.blob_entries.specs.Book.{Book, entry_at}
use Rattle.blob_entries.specs.declared.entry.Entry.{Entry}

-- the name of what stands somewhere, if something does
abbrev pub name_if : Option Entry → ℕ → List ℕ
name_if None name = []
name_if (Some entry) name = name ∷ []

-- the names under which something stands
abbrev pub standing : List ℕ → List (Option Entry) → List ℕ
standing names [] = []
standing [] (held ∷ entries) = []
standing (name ∷ names) (held ∷ entries) = name_if held name ++ standing names entries

-- the name of what stands under a build number
abbrev pub name_under : Book → ℕ → Option ℕ
name_under book number = option_map (λ (entry : Entry). slice_index book.names number) (entry_at book.entries number)
