-- Behind each group of a legal transcript no unfinished entry is marked to break, and without marks any later history agrees with them.
use Rattle.std.proofs.Common.{◌≡◌, ℕ, Bool, true, false, List, [], ◌∷◌, refl, ap, sym, ◌∙◌, Option, Some, None, cond}
use Rattle.std.specs.Prelude.{is_none, IfSome}
use Rattle.std.specs.Option.{option_to_list}
use Rattle.std.specs.List.{AllByRecursion}
use Rattle.blob_words.specs.declared.status.Status.{Status}
use Rattle.blob_words.specs.declared.status.Status.TheVariants as statuses
use Rattle.answer_text.specs.declared.answer.Answer.{Answer}
use Rattle.answer_text.specs.declared.group.Group.{Group}
use Rattle.data_handles.specs.Table.{Table as HandleTable}
use Rattle.page_disk.specs.declared.change.Change.{Change}
use Rattle.blob_entries.specs.Statuses.{is_pending}
use Rattle.blob_entries.specs.declared.entry.Entry.{Entry}
use Rattle.blob_model.specs.Session.{Session, page_limit}
use Rattle.blob_model.specs.History.{History, history_from, start}
use Rattle.blob_model.specs.Builds.{Build, builds}
use Rattle.blob_model.specs.Choice.{first_that}
use Rattle.blob_model.specs.Legal.{IsLegalFrom}
use Rattle.blob_model.specs.Settle.{compactions, drops, ending, ending_answers, ending_tests, endings, grants, is_deserted, is_unwritten, page_jobs, removals}
use Rattle.blob_model.specs.Standing.{ended, is_unfinished}
use Rattle.blob_model.proofs.Lists.{false_true}
use Rattle.blob_model.proofs.builds.Cells.{none_applies}
use Rattle.blob_model.proofs.live.Reached.{all_empty}
use Rattle.blob_model.proofs.settled.Groups.{settled_after}
use Rattle.registry_laws.specs.Agree.{Beside, breaks_as, told}
use Rattle.store_laws.specs.LineLaws.{AreUnmarked}
use Rattle.store_laws.specs.Outlines.{Outline, status_now, IsMarkedRight}
use Rattle.store_laws.specs.Stands.{Between, Parts}
use Rattle.store_laws.proofs.Agreeing.{told_now}
use Rattle.store_laws.proofs.Paired.{AreOutlined, by_first, first_of, rest_of}
use Rattle.store_laws.proofs.Resting.{each_ends, rests_when_settled}

pub both_fail : (a b : Bool) → a ≡ false → b ≡ false
    → first_that ((a, statuses.FileWriteFailed) ∷ (b, statuses.SourceDied) ∷ []) ≡ None
both_fail true b e f = absurd (false_true (sym e))
both_fail false true e f = absurd (false_true (sym f))
both_fail false false e f = refl

module _ (s : Session) (h : History) (ends : (name : ℕ) → IfSome (ended h name) (λ (status : Status). is_pending status ≡ false)) where
  -- a blob whose status is one to end hasn't ended
  begun : (build : Build) (status : Status) → status ≡ status_now s h build → is_pending status ≡ true → is_unfinished h build.name ≡ true
  begun build status is pending =
      let still : told status ≡ None = ap (λ (b : Bool). cond b None (Some status)) pending in
      ap is_none (sym (told_now s h build (ends build.name)) ∙ ap told (sym is) ∙ still)

  -- of an unfinished blob of which no ending is owed nothing says that it breaks
  pub unbroken : (build : Build) → ending_answers s h build ≡ [] → is_unfinished h build.name ≡ true → breaks_as s h build ≡ None
  unbroken build none still = go (ending s h build) refl (sym (ap (λ (b : Bool). cond b (option_to_list (ending s h build)) []) still) ∙ none)
    where
      go : (o : Option Answer) → ending s h build ≡ o → option_to_list (ending s h build) ≡ [] → breaks_as s h build ≡ None
      go None at e =
          let fails = none_applies (ending_tests s h build) at in both_fail (is_unwritten s h build) (is_deserted s h build) fails.0 fails.1.0
      go (Some answer) at e = let bad : answer ∷ [] ≡ [] = sym (ap option_to_list at) ∙ e in absurd (cc bad)

  one_unmarked : (build : Build) (entry : Entry) → entry.status ≡ status_now s h build → ending_answers s h build ≡ []
      → IsMarkedRight s h build (Some entry) → is_pending entry.status ≡ true → entry.mark ≡ None
  one_unmarked build entry is none right pending =
      go (unbroken build none (begun build entry.status is pending)) entry.mark (right pending)
    where
      go : breaks_as s h build ≡ None → (mark : Option Status) → IfSome mark (λ (why : Status). breaks_as s h build ≡ Some why) → mark ≡ None
      go clear None at = refl
      go clear (Some why) at = let bad : None ≡ Some why = sym clear ∙ at in absurd (cc bad)

  pub each_unmarked : (stands : ℕ → Bool) (list : List Build) (entries : List (Option Entry)) → AreOutlined s h stands list entries
      → AllByRecursion (λ (build : Build). ending_answers s h build ≡ []) list → Beside (IsMarkedRight s h) list entries → AreUnmarked entries
  each_unmarked stands [] [] e none right = tt
  each_unmarked stands [] (held ∷ entries) e none right = absurd right
  each_unmarked stands (build ∷ list) [] e none right = absurd right
  each_unmarked stands (build ∷ list) (held ∷ entries) e none right = (
    by_first s h stands
        (λ (one : Option Entry). IsMarkedRight s h build one
        → IfSome one (λ (entry : Entry). is_pending entry.status ≡ true → entry.mark ≡ None)) build held (first_of s h stands build list held entries e)
        (λ off marked. tt)
        (λ entry tells marked pending. one_unmarked build entry (ap (λ (o : Outline). o.status) tells.outline_is) none.0 marked pending)
        right.0,
    each_unmarked stands list entries (rest_of s h stands build list held entries e) none.1 right.1,
  )

pub none_marked : (s : Session) (groups : List Group) (stands : ℕ → Bool) (parts : Parts) (told : Option (List Change)) (table : HandleTable)
    → IsLegalFrom s start groups → Between s (history_from start groups) stands parts told table → AreUnmarked parts.book.entries
none_marked s groups stands parts told table legal between =
    let h = history_from start groups in
    let settled = all_empty (drops s ∷ endings s ∷ drops s ∷ removals s [] ∷ grants s ∷ page_jobs s ∷ compactions s ∷ []) h (settled_after s groups legal) in
    each_unmarked s (history_from start groups) (rests_when_settled s groups legal).ends stands (builds (page_limit s) (history_from start groups))
    parts.book.entries between.contents.outlines_stand (each_ends s (history_from start groups) (builds (page_limit s) (history_from start groups)) settled.1.0)
    between.contents.marks

-- where nobody is marked, the marks agree with any history
pub unmarked_right : (s : Session) (h later : History) (list : List Build) (entries : List (Option Entry)) → Beside (IsMarkedRight s h) list entries
    → AreUnmarked entries → Beside (IsMarkedRight s later) list entries
unmarked_right s h later [] [] right none = tt
unmarked_right s h later [] (held ∷ entries) right none = absurd right
unmarked_right s h later (build ∷ list) [] right none = absurd right
unmarked_right s h later (build ∷ list) (None ∷ entries) right none = (tt, unmarked_right s h later list entries right.1 none.1)
unmarked_right s h later (build ∷ list) (Some entry ∷ entries) right none =
    ((λ pending. by entry.mark (none.0 pending)), unmarked_right s h later list entries right.1 none.1)
  where
    by : (mark : Option Status) → mark ≡ None → IfSome mark (λ (why : Status). breaks_as s later build ≡ Some why)
    by None is = tt
    by (Some why) is = absurd (cc is)
