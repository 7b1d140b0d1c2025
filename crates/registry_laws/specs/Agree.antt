-- When the entries of a registry agree with the blobs of a history. Own.
use Rattle.std.specs.Prelude.{◌≡◌, ℕ, ◌&&◌, true, false, not, nat_lt, List, [], ◌∷◌, flat_map, map, Option, None, Some, if◌then◌else◌}
use Rattle.blob_words.specs.declared.status.Status.{Status}
use Rattle.blob_words.specs.declared.status.Status.TheVariants as statuses
use Rattle.blob_entries.specs.Book.{Book}
use Rattle.blob_entries.specs.Endings.{is_granted_status, misses}
use Rattle.blob_entries.specs.Statuses.{is_pending}
use Rattle.blob_entries.specs.declared.entry.Entry.{Entry}
use Rattle.blob_entries.specs.declared.step.Step.{Step}
use Rattle.blob_entries.specs.declared.step.Step.TheVariants.{Fixed, Own, Source}
use Rattle.blob_model.specs.Builds.{Build, builds}
use Rattle.blob_model.specs.Choice.{first_that}
use Rattle.blob_model.specs.History.{History}
use Rattle.blob_model.specs.Live.{is_rooted}
use Rattle.blob_model.specs.Parts.{sources}
use Rattle.blob_model.specs.Session.{Session, page_limit}
use Rattle.blob_model.specs.Settle.{is_deserted, is_unwritten}
use Rattle.blob_model.specs.Standing.{ended, is_granted, is_unfinished}
use Rattle.blob_model.specs.Transport.{has_all}

-- the status with which an entry ended, or nothing while it is unfinished
abbrev pub told : Status → Option Status
told status = if is_pending status then None else Some status

-- the blobs that a recipe takes bytes from, in order
abbrev pub step_name : Step → List ℕ
step_name (Own piece len) = []
step_name (Fixed view) = []
step_name (Source name off len) = name ∷ []

abbrev pub source_names : List Step → List ℕ
source_names steps = flat_map step_name steps

-- an entry ended as its blob did, somebody holds it while the blob is rooted, and while it is unfinished it takes bytes from the blob's sources
pub record IsEntryOf (page : ℕ) (h : History) (build : Build) (entry : Entry) : Type 0 where
  pub status : told entry.status ≡ ended h build.name
  pub roots : nat_lt 0 entry.roots ≡ is_rooted page h build.name
  pub sources : is_pending entry.status ≡ true → source_names entry.recipe ≡ sources build.parts

-- a blob whose entry went has ended, and isn't rooted
pub record IsGone (page : ℕ) (h : History) (build : Build) : Type 0 where
  pub ended : is_unfinished h build.name ≡ false
  pub unrooted : is_rooted page h build.name ≡ false

-- what stands under a build number agrees with the blob
abbrev pub Agrees : ℕ → History → Build → Option Entry → Type 0
Agrees page h build None = IsGone page h build
Agrees page h build (Some entry) = IsEntryOf page h build entry

-- two lists, item by item
abbrev pub Beside : (Build → Option Entry → Type 0) → List Build → List (Option Entry) → Type 0
Beside P [] [] = Unit {0}
Beside P [] (held ∷ entries) = ⊥
Beside P (build ∷ builds) [] = ⊥
Beside P (build ∷ builds) (held ∷ entries) = P build held × Beside P builds entries

-- the names are those of the blobs, and each entry agrees with its blob
pub record AgreesWith (page : ℕ) (h : History) (book : Book) : Type 0 where
  pub names : book.names ≡ map (λ (build : Build). build.name) (builds page h)
  pub each : Beside (Agrees page h) (builds page h) book.entries

-- with what an unfinished blob breaks, whatever its sources are
abbrev pub breaks_as : Session → History → Build → Option Status
breaks_as s h build = first_that ((is_unwritten s h build, statuses.FileWriteFailed) ∷ (is_deserted s h build, statuses.SourceDied) ∷ [])

-- the mark of an unfinished entry says with what its blob breaks; without a mark the entry has its own bytes where its blob was
-- granted and misses no segment
pub record IsMarkedAs (s : Session) (h : History) (build : Build) (entry : Entry) : Type 0 where
  pub mark : entry.mark ≡ breaks_as s h build
  pub bytes : entry.mark ≡ None → (is_granted_status entry.status && not (misses entry)) ≡ (is_granted h build && has_all s.limits h build)

abbrev pub AgreesToEnd : Session → History → Build → Option Entry → Type 0
AgreesToEnd s h build None = Unit {0}
AgreesToEnd s h build (Some entry) = is_pending entry.status ≡ true → IsMarkedAs s h build entry

-- each unfinished entry is marked as its blob breaks
abbrev pub AgreesInMarks : Session → History → Book → Type 0
AgreesInMarks s h book = Beside (AgreesToEnd s h) (builds (page_limit s) h) book.entries
