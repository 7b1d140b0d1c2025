-- The unfinished entries that have another as a source, by build number. Own.
use Rattle.std.specs.Option.{option_map}
use Rattle.std.specs.Prelude.{Bool, List, Option, [], false, option_and_then, true, ℕ, ◌++◌, ◌+◌, ◌∷◌}
use Rattle.blob_entries.specs.Book.{Book, entry_at}
use Rattle.blob_entries.specs.Names.{number_of}
use Rattle.blob_entries.specs.Sources.{needs}
use Rattle.blob_entries.specs.declared.entry.Entry.{Entry}

-- a number where it is to stand in a list
abbrev pub listed_if : Bool → ℕ → List ℕ
listed_if true number = number ∷ []
listed_if false number = []

-- the build numbers of those entries that need a source, rising, each once; the first of the entries has the number given
abbrev pub dependents_from : List ℕ → ℕ → ℕ → List (Option Entry) → List ℕ
dependents_from names source number [] = []
dependents_from names source number (held ∷ later) = listed_if (needs names source held) number ++ dependents_from names source (number + 1) later

-- those of all entries
abbrev pub dependents : Book → ℕ → List ℕ
dependents book source = dependents_from book.names source 0 book.entries

-- those of what stands under a name, if something does
abbrev pub dependents_of : Book → ℕ → Option (List ℕ)
dependents_of book name = option_and_then (λ (number : ℕ). option_map (λ (entry : Entry). dependents book number) (entry_at book.entries number))
    (number_of name book.names)
