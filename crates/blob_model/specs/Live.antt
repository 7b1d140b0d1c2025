-- Which blobs live. Own; the roots are the File API's lifetimes.
use Rattle.std.specs.Prelude.{ℕ, ◌==◌, ◌&&◌, ◌||◌, Bool, List, [], ◌∷◌, reverse, if◌then◌else◌}
use Rattle.std.specs.List.{list_any}
use Rattle.blob_model.specs.History.{History}
use Rattle.blob_model.specs.Parts.{sources}
use Rattle.blob_model.specs.Builds.{Build, builds}
use Rattle.blob_model.specs.Standing.{is_unfinished}
use Rattle.blob_model.specs.Handles.{is_held}
use Rattle.blob_model.specs.Entries.{is_named}
use Rattle.blob_model.specs.Readers.{is_read}

-- a blob is rooted while a renderer holds it, a URL names it or a reader reads it
abbrev pub is_rooted : ℕ → History → ℕ → Bool
is_rooted page h name = is_held h name || is_named h name || is_read page h name

-- whether the parts of the blob take bytes from the blob `name`
abbrev pub has_source : Build → ℕ → Bool
has_source build name = list_any (λ (source : ℕ). source == name) (sources build.parts)

-- whether an unfinished one of these blobs takes bytes from the blob
abbrev pub is_needed : History → List Build → ℕ → Bool
is_needed h builds name = list_any (λ (build : Build). is_unfinished h build.name && has_source build name) builds

-- of blobs in falling order of build those that live, with the later ones that do: a blob lives where it is rooted or an unfinished live blob needs it
abbrev pub live_from : ℕ → History → List Build → List Build → List Build
live_from page h [] later = later
live_from page h (build ∷ earlier) later = live_from page h earlier (if is_rooted page h build.name || is_needed h later build.name then build ∷ later
    else later)

-- the live blobs, in order of build; a source is older than what is built from it, so one pass finds the least set
abbrev pub live : ℕ → History → List Build
live page h = live_from page h (reverse (builds page h)) []

abbrev pub is_live : ℕ → History → ℕ → Bool
is_live page h name = list_any (λ (build : Build). build.name == name) (live page h)
