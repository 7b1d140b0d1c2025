-- A refused line settles nothing and keeps the tally.
use Rattle.std.proofs.Common.{◌≡◌, ℕ, ◌+◌, ◌-◌, ◌==◌, Bool, true, false, ◌&&◌, ◌||◌, not, List, [], ◌∷◌, ◌++◌, map, length, min, refl, ap, subst, ◌∙◌, Option, Some, None, reverse}
use Rattle.std.specs.Prelude.{filter, filter_map, find, nat_lt, if◌then◌else◌}
use Rattle.std.specs.Option.{option_map, option_to_list}
use Rattle.std.specs.List.{AllByRecursion, list_any}
use Rattle.blob_words.specs.declared.version.Version.{Version}
use Rattle.blob_words.specs.declared.version.Version.TheVariants.{One, Two}
use Rattle.session_script.specs.declared.event.Event.{Event}
use Rattle.answer_text.specs.declared.answer.Answer.{Answer}
use Rattle.answer_text.specs.declared.answer.Answer.TheVariants as answers
use Rattle.answer_text.specs.declared.refusal.Refusal.{Refusal}
use Rattle.answer_text.specs.declared.group.Group.{Group}
use Rattle.recent_items.specs.Recent.{victims}
use Rattle.blob_model.specs.Session.{Session, page_limit}
use Rattle.blob_model.specs.History.{History, start, refused, said_all, after, history_from}
use Rattle.blob_model.specs.Builds.{Build, builds}
use Rattle.blob_model.specs.Standing.{is_unfinished, is_broken, is_done}
use Rattle.blob_model.specs.Live.{live}
use Rattle.blob_model.specs.Pieces.{Piece, pieces}
use Rattle.blob_model.specs.Reached.{reached, reached_of, live_cells}
use Rattle.blob_model.specs.Pages.{Page, pages}
use Rattle.blob_model.specs.Jobs.{is_in_job, breaks_waiting}
use Rattle.blob_model.specs.Tally.{memory, memory_of, disk_of, in_memory_of, files, files_of, tally, tally_of}
use Rattle.blob_model.specs.Waits.{is_waiting, waits}
use Rattle.blob_model.specs.Victims.{last_uses, with_length, head_bytes, chosen}
use Rattle.blob_model.specs.Settle.{drops, ending, ending_tests, ending_answers, endings_of, endings, removal, removals, is_due, grants, page_job_of, page_jobs, may_start, can_move, movable, compaction, compactions, settle, IsSettled}
use Rattle.blob_model.specs.Refusals.{refusal}
use Rattle.blob_model.specs.Own.{IsOwnBy}
use Rattle.blob_model.specs.Legal.{left_files, IsLegalGroup, IsLegalFrom}
use Rattle.blob_model.proofs.Lists.{for_each}
use Rattle.blob_model.proofs.builds.Cells.{none_applies}
use Rattle.blob_model.proofs.live.Reached.{nil_parts, all_empty}
use Rattle.blob_model.proofs.live.Agreement.{live_alike, dropping}
use Rattle.blob_model.proofs.settled.Endings.{none_that}
use Rattle.blob_model.proofs.settled.Pass.{pass_empty}
use Rattle.blob_model.proofs.settled.Settling.{none_owed}
use Rattle.blob_model.proofs.settled.GrantsAndJobs.{head_waits}
use Rattle.blob_model.proofs.settled.Groups.{settled_after}

module _ (s : Session) (h : History) (event : Event) (why : Refusal) where
  abbrev over : History
  over = refused h event why

  live_over : live (page_limit s) over ≡ live (page_limit s) h
  live_over = live_alike (page_limit s) h over refl (λ name. refl) (λ name lives. refl)

  cells_over : live_cells (page_limit s) over ≡ live_cells (page_limit s) h
  cells_over = ap (λ (xs : List Build). map (λ (build : Build). build.cells) (filter (λ (build : Build). not (is_broken h build.name)) xs)) live_over

  pub reached_over : reached (page_limit s) over ≡ reached (page_limit s) h
  reached_over = ap (λ cells. reached_of h (builds (page_limit s) h) cells (pieces (page_limit s) h)) cells_over

  pub memory_over : memory (page_limit s) over ≡ memory (page_limit s) h
  memory_over = ap (memory_of h (builds (page_limit s) h)) reached_over

  pub tally_over : tally (page_limit s) over ≡ tally (page_limit s) h
  tally_over = ap (tally_of h (builds (page_limit s) h) (pieces (page_limit s) h)) reached_over

  drops_over : drops s over ≡ drops s h
  drops_over =
      ap (λ (xs : List Build). map dropping
      (filter (λ (build : Build). is_unfinished h build.name && not (list_any (λ (each : Build). each.name == build.name) xs))
      (reverse (builds (page_limit s) h)))) live_over

  removals_over : (unremoved : List ℕ) → removals s [] h ≡ [] → removals s unremoved over ≡ []
  removals_over unremoved none =
      let due : filter (is_due h (files (page_limit s) h)) (pages h) ≡ [] = nothing (filter (is_due h (files (page_limit s) h)) (pages h)) none in
      ap (λ rs. map (removal unremoved) (filter (is_due h (files_of h (builds (page_limit s) h) rs)) (pages h))) reached_over ∙ ap (map (removal unremoved)) due
    where
      nothing : (xs : List Page) → map (removal []) xs ≡ [] → xs ≡ []
      nothing [] e = refl
      nothing (x ∷ xs) e = cc

  grants_over : grants s h ≡ [] → grants s over ≡ []
  grants_over none = head_waits s h over (waits (page_limit s) h) memory_over none

  chosen_over : chosen s.limits over ≡ chosen s.limits h
  chosen_over =
      ap (λ rs. victims (memory_of h (builds (page_limit s) h) rs + head_bytes (waits (page_limit s) h) - s.limits.memory)
      (min (page_limit s) (s.limits.disk - disk_of h (builds (page_limit s) h) (pieces (page_limit s) h) rs))
      (filter_map
      (with_length (filter (λ (piece : Piece). is_done h piece.blob && not (is_in_job h piece.number)) (in_memory_of h (builds (page_limit s) h) rs)))
      (last_uses s.limits h))) reached_over

  page_jobs_over : page_jobs s over ≡ page_jobs s h
  page_jobs_over = ap (λ xs. if may_start h && nat_lt 0 (length (waits (page_limit s) h)) then page_job_of h xs else []) chosen_over

  movable_over : movable s over ≡ movable s h
  movable_over = ap (λ rs. find (can_move s h (builds (page_limit s) h) (pieces (page_limit s) h) rs) (files_of h (builds (page_limit s) h) rs)) reached_over

  compactions_over : compactions s h ≡ [] → compactions s over ≡ []
  compactions_over none =
      ap (λ found. if may_start h then option_to_list (option_map (compaction s over) found) else []) movable_over ∙ go (may_start h) (movable s h) none
    where
      go : (b : Bool) (found : Option Page) → (if b then option_to_list (option_map (compaction s h) found) else []) ≡ []
          → (if b then option_to_list (option_map (compaction s over) found) else []) ≡ []
      go false found e = refl
      go true None e = refl
      go true (Some page) e = cc

  ending_over : (build : Build) → ending s h build ≡ None → ending s over build ≡ None
  ending_over build none =
      let tests = none_applies (ending_tests s h build) none in
      none_that (ending_tests s over build) (unwritten s.version, tests.1)
    where
      unwritten : (version : Version) → (false || (breaks_waiting version over && is_waiting over build)) ≡ false
      unwritten One = refl
      unwritten Two = refl

  ending_answers_over : (build : Build) → ending_answers s h build ≡ [] → ending_answers s over build ≡ []
  ending_answers_over build e = go (is_unfinished h build.name) (ending s h build) refl e
    where
      go : (b : Bool) (found : Option Answer) → ending s h build ≡ found → (if b then option_to_list found else []) ≡ []
          → (if b then option_to_list (ending s over build) else []) ≡ []
      go false found at f = refl
      go true None at f = ap (λ (o : Option Answer). option_to_list o) (ending_over build at)
      go true (Some answer) at f = cc

  none_each : (list : List Build) → endings_of s h list ≡ [] → AllByRecursion (λ (build : Build). ending_answers s h build ≡ []) list
  none_each [] e = tt
  none_each (build ∷ list) e =
      let parts = nil_parts (ending_answers s h build) (endings_of s (said_all h (ending_answers s h build)) list) e in
      (parts.0, none_each list (subst (λ (xs : List Answer). endings_of s (said_all h xs) list ≡ []) parts.0 parts.1))

  endings_over : endings s h ≡ [] → endings s over ≡ []
  endings_over none =
      pass_empty s over (builds (page_limit s) h)
      (for_each (λ (build : Build). ending_answers s h build ≡ []) (λ (build : Build). ending_answers s over build ≡ []) (builds (page_limit s) h)
      ending_answers_over (none_each (builds (page_limit s) h) none))

  pub settles_nothing : (unremoved : List ℕ) → IsSettled s h → settle s unremoved over ≡ []
  settles_nothing unremoved settled =
      let each = all_empty (drops s ∷ endings s ∷ drops s ∷ removals s [] ∷ grants s ∷ page_jobs s ∷ compactions s ∷ []) h settled in
      let no_drops : drops s over ≡ [] = drops_over ∙ each.0 in
      none_owed (drops s ∷ endings s ∷ drops s ∷ removals s unremoved ∷ grants s ∷ page_jobs s ∷ compactions s ∷ []) over (
        no_drops,
        (
          endings_over each.1.0,
          (
            no_drops,
            (
              removals_over unremoved each.1.1.1.0,
              (
                grants_over each.1.1.1.1.0,
                (page_jobs_over ∙ each.1.1.1.1.1.0, (compactions_over each.1.1.1.1.1.1.0, tt)),
              ),
            ),
          ),
        ),
      )

refused_by : (s : Session) (h : History) (event : Event) (own : List Answer) (found : Option Refusal) (why : Refusal) → found ≡ Some why
    → IsOwnBy s h event found own → own ≡ answers.Refused why ∷ []
refused_by s h event own None why at one = cc
refused_by s h event own (Some other) why at one = let same : other ≡ why = cc in one ∙ ap (λ (r : Refusal). answers.Refused r ∷ []) same

refused_group : (s : Session) (h : History) (group : Group) (why : Refusal) → IsSettled s h → IsLegalGroup s h group → refusal s h group.event ≡ Some why
    → (group.answers ≡ answers.Refused why ∷ []) × (group.tally ≡ tally (page_limit s) h)
refused_group s h group why settled legal at =
    let own : legal.own ≡ answers.Refused why ∷ [] = refused_by s h group.event legal.own (refusal s h group.event) why at legal.is_own in
    let none : settle s (left_files group.answers) (refused h group.event why) ≡ [] = settles_nothing s h group.event why (left_files group.answers) settled in
    let list : group.answers ≡ answers.Refused why ∷ [] =
    legal.settles ∙ ap (λ (xs : List Answer). xs ++ settle s (left_files group.answers) (after h group.event xs)) own ∙ ap
    (λ (xs : List Answer). (answers.Refused why ∷ []) ++ xs) none in
    (list, legal.counts ∙ ap (λ (xs : List Answer). tally (page_limit s) (after h group.event xs)) list ∙ tally_over s h group.event why)

pub refused_settles : (s : Session) (groups : List Group) (group : Group) (why : Refusal) → IsLegalFrom s start groups
    → IsLegalGroup s (history_from start groups) group
    → refusal s (history_from start groups) group.event ≡ Some why → (group.answers ≡ answers.Refused why ∷ [])
    × (group.tally ≡ tally (page_limit s) (history_from start groups))
refused_settles s groups group why legal one at = refused_group s (history_from start groups) group why (settled_after s groups legal) one at
