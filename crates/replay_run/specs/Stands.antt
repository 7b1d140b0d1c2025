-- What the plain store's data says of a history.
use Rattle.std.specs.Prelude.{◌≡◌, ℕ, ◌==◌, ◌≤◌, false, List, [], ◌∷◌, length, map, filter, None, Some, Result, Ok, Err}
use Rattle.std.specs.List.{list_any, AllByRecursion}
use Rattle.session_script.specs.declared.event.Event.{Event}
use Rattle.blob_words.specs.declared.limits.Limits.{Limits}
use Rattle.answer_text.specs.declared.answer.Answer.{Answer}
use Rattle.answer_text.specs.declared.group.Group.{Group}
use Rattle.replay_run.specs.declared.store.Store.{Store}
use Rattle.replay_run.specs.declared.store.blob.Blob.{Blob}
use Rattle.replay_run.specs.declared.store.reader.Reader.{Reader}
use Rattle.replay_run.specs.declared.store.fault.ApplyFault.{ApplyFault}
use Rattle.replay_run.specs.declared.store.fault.ApplyFault.TheVariants as faults
use Rattle.replay_run.specs.History.{History, heard, after, has_ended}
use Rattle.replay_run.specs.Builds.{Build, builds, is_built, sent, size_of}
use Rattle.replay_run.specs.Readers.{OpenReader, readers}
use Rattle.replay_run.specs.Live.{renderers, holder, is_live}
use Rattle.replay_run.specs.Pieces.{pieces, build_pieces}
use Rattle.replay_run.specs.Own.{own}
use Rattle.replay_run.specs.Settle.{unfinished}
use Rattle.replay_run.specs.Legal.{IsLegalGroup}

-- the row that the store keeps of a live blob
abbrev pub blob_of : Limits → History → Build → Blob
blob_of l h build = record { name = build.name; holder = holder h build.name; bytes = sent build; pieces = length (build_pieces l.page build) }

-- the live blobs, in order of build
abbrev pub live_builds : History → List Build
live_builds h = filter (λ (build : Build). is_live h build.name) (builds h)

-- the row that the store keeps of an open reader
abbrev pub reader_of : OpenReader → Reader
reader_of reader = record { number = reader.number; blob = reader.blob; place = reader.place; end = reader.end }

-- no two open readers have one number
abbrev pub AreDistinct : List OpenReader → Type 0
AreDistinct [] = Unit {0}
AreDistinct (reader ∷ readers) = (list_any (λ (each : OpenReader). reader.number.0 == each.number.0) readers ≡ false) × AreDistinct readers

-- the range of the reader is inside its blob
abbrev pub IsInside : History → OpenReader → Type 0
IsInside h reader = reader.end ≤ size_of h reader.blob

-- each part of the store's data is that of the history
pub record Stands (l : Limits) (store : Store) (h : History) : Type 0 where
  pub same_limits : store.limits ≡ l
  pub same_ended : store.ended ≡ has_ended h
  pub same_renderers : store.renderers.keys ≡ renderers h
  pub same_names : store.names.keys ≡ map (λ (build : Build). build.name) (builds h)
  pub same_blobs : store.shelf.blobs ≡ map (blob_of l h) (live_builds h)
  pub same_pieces : store.shelf.pieces ≡ length (pieces l h)
  pub same_readers : store.readers ≡ map reader_of (readers h)
  pub distinct : AreDistinct (readers h)
  pub inside : AllByRecursion (IsInside h) (readers h)
  pub held : (name : ℕ) → is_built h name ≡ false → holder h name ≡ None

-- what the first answer of a line, or a fault in its place, says of the store
abbrev pub Answered : Limits → History → Event → Store → Result Answer ApplyFault → Type 0
Answered l h event new (Ok answer) = (own l h event ≡ Some answer) × Stands l new (heard h event answer)
Answered l h event new (Err faults.Unbuilt) = own l h event ≡ None
Answered l h event new (Err faults.NoMemory) = Unit {0}

-- between two lines the store stands for the history, nothing is owed and the session goes on
pub record Rests (l : Limits) (store : Store) (h : History) : Type 0 where
  pub stands : Stands l store h
  pub nothing_owed : unfinished h ≡ []
  pub open_still : has_ended h ≡ false

-- a line gives a legal group, after which the store stands for the history with it
abbrev pub Applies : Limits → History → Event → Store → Result Group ApplyFault → Type 0
Applies l h event new (Ok group) = (group.event ≡ event) × IsLegalGroup l h group × Stands l new (after h group.event group.answers)
    × (unfinished (after h group.event group.answers) ≡ [])
Applies l h event new (Err faults.Unbuilt) = own l h event ≡ None
Applies l h event new (Err faults.NoMemory) = Unit {0}
