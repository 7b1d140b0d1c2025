-- Behind the late drops nobody is marked to break: whoever was has ended, and the parts stand as the late lists ask.
use Rattle.std.proofs.Common.{◌≡◌, ℕ, Bool, true, false, List, [], ◌∷◌, map, reverse, refl, ap, sym, subst, ◌∙◌, append-nil, ◌||◌}
use Rattle.std.specs.Prelude.{filter}
use Rattle.std.specs.Option.{option_map_or}
use Rattle.std.specs.List.{AllByRecursion}
use Rattle.blob_model.specs.Builds.{Build, builds}
use Rattle.blob_model.specs.History.{History, after, history_from, start}
use Rattle.blob_model.specs.Session.{Session, page_limit}
use Rattle.blob_model.specs.Settle.{drops, ending_answers, endings}
use Rattle.blob_model.specs.Standing.{grants_at_once, is_granted, is_unfinished}
use Rattle.blob_model.specs.Transport.{has_all}
use Rattle.blob_model.proofs.Lists.{false_true}
use Rattle.blob_model.proofs.kept.Groups.{kept_all, kept_from, kept_own, kept_start}
use Rattle.blob_model.proofs.kept.Kept.{Kept}
use Rattle.blob_model.proofs.live.Agreement.{builds_all, drops_test, dropping}
use Rattle.blob_model.proofs.settled.Endings.{AllQuiet}
use Rattle.blob_model.proofs.settled.Pass.{drops_break, drops_do, pass_over, Behind}
use Rattle.blob_model.proofs.settled.Settling.{drops_grant}
use Rattle.store_laws.specs.LateLaws.{LateBegins}
use Rattle.store_laws.specs.Settling.{after_drops, after_endings, after_late_drops}
use Rattle.store_laws.specs.Stands.{Between}
use Rattle.store_laws.proofs.LateCourses.{course_begins}
use Rattle.store_laws.proofs.Unmarked.{each_unmarked}

-- drops store nothing
all_quiet : (list : List Build) → AllQuiet (map dropping list)
all_quiet [] = tt
all_quiet (build ∷ list) = (refl, all_quiet list)

module _ (s : Session) (line : History) (kept : Kept s line) where
  abbrev dropped : History
  dropped = after_drops s line

  abbrev passed : History
  passed = after_endings s line

  abbrev late : History
  late = after_late_drops s line

  abbrev gone : List Build
  gone = filter (drops_test s passed) (reverse (builds (page_limit s) passed))

  -- no bytes get room by drops
  no_room : (build : Build) → is_granted late build ≡ true → is_granted passed build ≡ false → has_all s.limits passed build ≡ false
  no_room build now not_yet =
      absurd (false_true (sym not_yet ∙ sym same ∙ now))
    where
      same : is_granted late build ≡ is_granted passed build
      same =
          ap (λ (b : Bool). option_map_or grants_at_once build.plan false || b) (drops_grant passed gone build.name)

  each_build : (list : List Build) → AllByRecursion (λ (build : Build). is_unfinished passed build.name ≡ true → is_granted late build ≡ true
      → is_granted passed build ≡ false → has_all s.limits passed build ≡ false) list
  each_build [] = tt
  each_build (build ∷ list) = ((λ begun now not_yet. no_room build now not_yet), each_build list)

  behind : Behind s passed (drops s passed) (builds (page_limit s) dropped)
  behind = record {
    quiet = all_quiet gone;
    broken = λ name. drops_break s passed (reverse (builds (page_limit s) passed)) name;
    done = λ name. drops_do s passed (reverse (builds (page_limit s) passed)) name;
    room = each_build (builds (page_limit s) dropped);
  }

  -- so no ending is owed
  pub none_ends : AllByRecursion (λ (build : Build). ending_answers s late build ≡ []) (builds (page_limit s) late)
  none_ends =
      let kept_now = kept_all s line (drops s line) kept in
      subst (AllByRecursion (λ (build : Build). ending_answers s late build ≡ []))
      (sym (builds_all (page_limit s) passed (drops s passed) ∙ builds_all (page_limit s) dropped (endings s dropped)))
      (pass_over s dropped [] (builds (page_limit s) dropped) (drops s passed) kept_now.ordered kept_now.broke behind)

pub late_begins : LateBegins
late_begins s groups event own legal still is stands parts told table between exact =
    let h = history_from start groups in
    let line = after h event own in
    let course = course_begins s groups event own legal still is in
    let kept = kept_own s h event own own [] (kept_from s start groups (kept_start s) legal) is (sym (append-nil own)) in
    record {
      course = course;
      between = subst (λ (alive : ℕ → Bool). Between s (after_late_drops s line) alive parts told table) (λ i name. exact name i) between;
      unmarked = each_unmarked s (after_late_drops s line) course.rest.ends stands (builds (page_limit s) (after_late_drops s line)) parts.book.entries
          between.contents.outlines_stand (none_ends s line kept) between.contents.marks;
    }
