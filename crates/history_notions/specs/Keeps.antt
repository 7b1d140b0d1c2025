-- When what is kept agrees with a history, notion by notion. Own.
use Rattle.std.specs.Prelude.{ℕ, ◌≡◌, List}
use Rattle.answer_text.specs.declared.answer.Answer.{Answer}
use Rattle.blob_model.specs.History.{History}
use Rattle.blob_model.specs.Renderers.{spawned, is_dead}
use Rattle.blob_model.specs.Recorded.{recorded, last_stamp, content, file_names}
use Rattle.blob_model.specs.Standing.{ended, ended_after, was_granted, was_granted_after}
use Rattle.blob_model.specs.Transport.{arrivals}
use Rattle.blob_model.specs.Handles.{count}
use Rattle.blob_model.specs.Entries.{entries}
use Rattle.blob_model.specs.Pages.{pages, pages_after, next_page, next_page_after, asked, asked_after}
use Rattle.blob_model.specs.Jobs.{in_flight, in_flight_after, next_job, next_job_after, paging, turned_off, data_blob, unstored}
use Rattle.history_notions.specs.Kept.{is_dead_in, ended_in, was_granted_in, count_in, recorded_in, last_stamp_in, content_in, arrivals_in}
use Rattle.history_notions.specs.declared.kept.Kept.{Kept}

-- each notion that is kept is that of the history
pub record Keeps (h : History) (kept : Kept) : Type 0 where
  pub spawned_are : kept.spawned ≡ spawned h
  pub dead_are : (number : ℕ) → is_dead_in kept.dead number ≡ is_dead h number
  pub recorded_is : (name : List ℕ) → recorded_in kept.notes name ≡ recorded h name
  pub last_stamps_are : (name : List ℕ) → last_stamp_in kept.notes name ≡ last_stamp h name
  pub contents_are : (name : List ℕ) (stamp : ℕ) → content_in kept.notes name stamp ≡ content h name stamp
  pub files_are : kept.files ≡ file_names h
  pub ended_are : (name : ℕ) → ended_in kept.endings name ≡ ended h name
  pub granted_are : (name : ℕ) → was_granted_in kept.granted name ≡ was_granted h name
  pub arrivals_are : (name : ℕ) → arrivals_in kept.brought name ≡ arrivals h name
  pub counts_are : (holder name : ℕ) → count_in kept.holds holder name ≡ count h holder name
  pub entries_are : kept.entries.items ≡ entries h
  pub pages_are : kept.pages ≡ pages h
  pub next_page_is : kept.next_page ≡ next_page h
  pub asked_are : kept.asked ≡ asked h
  pub job_is : kept.job ≡ in_flight h
  pub next_job_is : kept.next_job ≡ next_job h
  pub paging_is : kept.paging ≡ paging h
  pub turned_off_is : kept.turned_off ≡ turned_off h
  pub data_blob_is : kept.data_blob ≡ data_blob h
  pub unstored_is : kept.unstored ≡ unstored h

-- what an answer alone changes, and that the rest stays
pub record Takes (answer : Answer) (old new : Kept) : Type 0 where
  pub ended_are : (name : ℕ) → ended_in new.endings name ≡ ended_after answer name (ended_in old.endings name)
  pub granted_are : (name : ℕ) → was_granted_in new.granted name ≡ was_granted_after answer name (was_granted_in old.granted name)
  pub pages_are : new.pages ≡ pages_after answer old.pages
  pub next_page_is : new.next_page ≡ next_page_after answer old.next_page
  pub asked_are : new.asked ≡ asked_after answer old.asked
  pub job_is : new.job ≡ in_flight_after answer old.job
  pub next_job_is : new.next_job ≡ next_job_after answer old.next_job
  pub same_paging : new.paging ≡ old.paging
  pub same_spawned : new.spawned ≡ old.spawned
  pub same_dead : new.dead ≡ old.dead
  pub same_notes : new.notes ≡ old.notes
  pub same_files : new.files ≡ old.files
  pub same_brought : new.brought ≡ old.brought
  pub same_holds : new.holds ≡ old.holds
  pub same_entries : new.entries.items ≡ old.entries.items
  pub same_turned_off : new.turned_off ≡ old.turned_off
  pub same_data_blob : new.data_blob ≡ old.data_blob
  pub same_unstored : new.unstored ≡ old.unstored
