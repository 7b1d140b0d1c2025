-- What an entry says of its blob beside its bytes: owner, size, content type and status. Own.
use Rattle.std.specs.Prelude.{ℕ, ◌≡◌, Bool, true, List, map, Option, None, Some, IfSome, unwrap_or, if◌then◌else◌}
use Rattle.std.specs.Option.{option_map}
use Rattle.blob_words.specs.declared.status.Status.{Status}
use Rattle.blob_entries.specs.Statuses.{is_pending}
use Rattle.blob_entries.specs.declared.entry.Entry.{Entry}
use Rattle.blob_model.specs.Session.{Session, page_limit}
use Rattle.blob_model.specs.History.{History}
use Rattle.blob_model.specs.Builds.{Build, builds, size}
use Rattle.blob_model.specs.Own.{pending_status}
use Rattle.blob_model.specs.Standing.{ended}
use Rattle.registry_laws.specs.Agree.{breaks_as}

-- an entry without what it is made of, its roots and its mark
pub record Outline : Type 0 where
  pub owner : ℕ
  pub size : ℕ
  pub kind : List ℕ
  pub status : Status

abbrev pub outline : Entry → Outline
outline entry = record { owner = entry.owner.0; size = entry.size; kind = entry.kind; status = entry.status }

-- how a blob ended, or what it waits for
abbrev pub status_now : Session → History → Build → Status
status_now s h build = unwrap_or (ended h build.name) (pending_status s h build)

abbrev pub outline_of : Session → History → Build → Outline
outline_of s h build = record { owner = build.builder; size = size build; kind = build.kind; status = status_now s h build }

-- the outlines of the blobs of these names, each under its build number
abbrev pub outlines_of : Session → History → (ℕ → Bool) → List (Option Outline)
outlines_of s h stands = map (λ (build : Build). if stands build.name then Some (outline_of s h build) else None) (builds (page_limit s) h)

abbrev pub outlines : List (Option Entry) → List (Option Outline)
outlines entries = map (option_map outline) entries

-- a mark that an unfinished entry has is with what its blob breaks
abbrev pub IsMarkedRight : Session → History → Build → Option Entry → Type 0
IsMarkedRight s h build None = Unit {0}
IsMarkedRight s h build (Some entry) = is_pending entry.status ≡ true → IfSome entry.mark (λ (why : Status). breaks_as s h build ≡ Some why)
