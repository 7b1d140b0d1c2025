-- Behind a line's own answers the marks agree with what the blobs break as.
use Rattle.std.proofs.Common.{◌≡◌, ℕ, suc, ◌==◌, ◌&&◌, ◌||◌, not, Bool, true, false, cond, List, [], ◌∷◌, ◌++◌, length, refl, ap, subst, sym, ◌∙◌, ⊎_elim, Option, Some, None, arith}
use Rattle.std.specs.Prelude.{filter, is_some, slice_get, IfSome}
use Rattle.std.specs.Option.{option_map_or}
use Rattle.std.specs.List.{AllByRecursion, list_any, range_with_len}
use Rattle.std.proofs.lemmas.Bool.{and_parts, eqb-true, or_parts}
use Rattle.std.proofs.lemmas.List.FromFn.{length-range_with_len}
use Rattle.blob_words.specs.declared.status.Status.{Status}
use Rattle.blob_words.specs.declared.status.Status.TheVariants as statuses
use Rattle.blob_words.specs.declared.version.Version.{Version}
use Rattle.blob_words.specs.declared.version.Version.TheVariants.{One, Two}
use Rattle.session_script.specs.declared.event.Event.{Event}
use Rattle.session_script.specs.declared.event.Event.TheVariants as events
use Rattle.answer_text.specs.declared.answer.Answer.{Answer}
use Rattle.answer_text.specs.declared.answer.Answer.TheVariants as answers
use Rattle.answer_text.specs.declared.group.Group.{Group}
use Rattle.answer_text.specs.declared.refusal.Refusal.{Refusal}
use Rattle.item_shares.specs.declared.shares.Share.{Share}
use Rattle.blob_entries.specs.Statuses.{is_pending}
use Rattle.blob_entries.specs.declared.entry.Entry.{Entry}
use Rattle.data_handles.specs.Table.{Table as HandleTable}
use Rattle.page_disk.specs.declared.change.Change.{Change}
use Rattle.blob_model.specs.Builds.{Build, builds, slice_parts}
use Rattle.blob_model.specs.Construct.{build_answer, line_status}
use Rattle.blob_model.specs.History.{History, after, has_ended, heard, heard_first, history_from, said, said_all, start}
use Rattle.blob_model.specs.Jobs.{breaks_waiting, turned_off, unstored}
use Rattle.blob_model.specs.Legal.{IsLegalFrom}
use Rattle.blob_model.specs.Own.{IsAccepted, IsOwn, IsOwnBy}
use Rattle.blob_model.specs.Pieces.{Piece, pieces, spans_of}
use Rattle.blob_model.specs.Refusals.{refusal}
use Rattle.blob_model.specs.Renderers.{Renderer, is_alive, is_dead, is_spawned, spawned}
use Rattle.blob_model.specs.Session.{Session, page_limit}
use Rattle.blob_model.specs.Settle.{compactions, drops, ending_answers, endings, grants, is_deserted, is_unwritten, page_jobs, removals}
use Rattle.blob_model.specs.Standing.{ended, grants_at_once, is_granted, is_unfinished, was_granted}
use Rattle.blob_model.specs.Transport.{Arrival, arrivals, has_all, has_come, spans}
use Rattle.blob_model.specs.Waits.{is_waiting}
use Rattle.blob_model.proofs.Lists.{all_more, any_append_first, both, false_true, for_each, not_false, or_cases, or_first, or_second}
use Rattle.blob_model.proofs.builds.Cells.{none_applies}
use Rattle.blob_model.proofs.builds.Growth.{builds-other, only_one, planned_first}
use Rattle.blob_model.proofs.builds.Plans.{all_planned, IsPlanned}
use Rattle.blob_model.proofs.kept.Kept.{still_granted}
use Rattle.blob_model.proofs.kept.NewBlobs.{new_build, tests_fail}
use Rattle.blob_model.proofs.legal.Causes.{IsCaused}
use Rattle.blob_model.proofs.legal.Steps.{caused_from, distinct_of, kept_caused}
use Rattle.blob_model.proofs.live.Reached.{all_empty}
use Rattle.blob_model.proofs.settled.Endings.{has_all_said, is_granted_all}
use Rattle.blob_model.proofs.settled.Groups.{own_first, settled_after}
use Rattle.blob_model.proofs.texts.Ranges.{ends_well}
use Rattle.registry_laws.specs.Agree.{AgreesInMarks, AgreesToEnd, Beside, breaks_as}
use Rattle.store_laws.specs.Marking.{fails, is_deadly, kills, may_break, HasMark, HaveMarks}
use Rattle.store_laws.specs.Outlines.{Outline, IsMarkedRight}
use Rattle.store_laws.specs.Recipes.{EntryStands}
use Rattle.store_laws.specs.Rows.{pieces_before}
use Rattle.store_laws.specs.Stands.{Between, Parts}
use Rattle.store_laws.specs.Uses.{own_pieces}
use Rattle.store_laws.proofs.BehindLines.{caused_behind, unfinished_back}
use Rattle.store_laws.proofs.MarkedBytes.{bytes_agree, IsCut}
use Rattle.store_laws.proofs.OwnNumbers.{own_range}
use Rattle.store_laws.proofs.Paired.{AreOutlined, IsTold, by_first, first_of, pending_now, rest_of}
use Rattle.store_laws.proofs.Resting.{each_ends, ends_apart}
use Rattle.store_laws.proofs.Unmarked.{both_fail, unbroken}

-- ---- no write failed, and paging was not turned off

pub record IsClear (g : History) : Type 0 where
  pub stored : unstored g ≡ None
  pub paged : turned_off g ≡ false

clear_said : (g : History) (list : List Answer) → list_any fails list ≡ false → IsClear g → IsClear (said_all g list)
clear_said g [] none clear = clear
clear_said g (answer ∷ list) none clear =
    let parts = or_parts (fails answer) (list_any fails list) none in clear_said (said g answer) list parts.1 (one answer parts.0)
  where
    one : (answer : Answer) → fails answer ≡ false → IsClear (said g answer)
    one (answers.StoreFailed file) e = absurd (false_true (sym e))
    one answer e = record { stored = clear.stored; paged = clear.paged }

breaks_clear : (version : Version) (g : History) → turned_off g ≡ false → breaks_waiting version g ≡ false
breaks_clear One g off = refl
breaks_clear Two g off = off

pub unwritten_clear : (s : Session) (g : History) (build : Build) → IsClear g → is_unwritten s g build ≡ false
unwritten_clear s g build clear =
    λ i. option_map_or (λ (name : ℕ). name == build.name) (clear.stored i) false || (breaks_clear s.version g clear.paged i && is_waiting g build)

-- ---- who was deserted by nobody

-- fewer segments are missing of those that came with one more
misses_less : (came : List Arrival) (one : Arrival) (list : List ℕ) → (length (filter (λ (segment : ℕ). not (has_come came segment)) list) == 0) ≡ true
    → (length (filter (λ (segment : ℕ). not (has_come (came ++ one ∷ []) segment)) list) == 0) ≡ true
misses_less came one [] none = refl
misses_less came one (first ∷ list) none = by (has_come came first) refl none (misses_less came one list)
  where
    by : (b : Bool) → has_come came first ≡ b
        → (length (cond (not b) (first ∷ filter (λ (segment : ℕ). not (has_come came segment)) list)
        (filter (λ (segment : ℕ). not (has_come came segment)) list)) == 0) ≡ true
        → ((length (filter (λ (segment : ℕ). not (has_come came segment)) list) == 0) ≡ true
        → (length (filter (λ (segment : ℕ). not (has_come (came ++ one ∷ []) segment)) list) == 0) ≡ true)
        → (length (filter (λ (segment : ℕ). not (has_come (came ++ one ∷ []) segment)) (first ∷ list)) == 0) ≡ true
    by true at rest more =
        ap (λ (b : Bool).
        length (cond (not b) (first ∷ filter (λ (segment : ℕ). not (has_come (came ++ one ∷ []) segment)) list)
        (filter (λ (segment : ℕ). not (has_come (came ++ one ∷ []) segment)) list)) == 0)
        (any_append_first (λ (arrival : Arrival). arrival.segment == first) came (one ∷ []) at) ∙ more rest
    by false at rest more =
        let never = eqb-true (suc (length (filter (λ (segment : ℕ). not (has_come came segment)) list))) 0 rest in absurd (omega (arith, never))

deserted_less : (a b segments more room roomier : Bool) → (a ≡ true → b ≡ true) → (segments ≡ true → more ≡ true) → (room ≡ true → roomier ≡ true)
    → (not a && (not segments || not room)) ≡ false → (not b && (not more || not roomier)) ≡ false
deserted_less true b segments more room roomier up far wide e = rw (up refl) refl
deserted_less false b true more true roomier up far wide e = rw (far refl, wide refl) (none b)
  where
    none : (b : Bool) → (not b && false) ≡ false
    none true = refl
    none false = refl
deserted_less false b true more false roomier up far wide e = absurd (false_true (sym e))
deserted_less false b false more room roomier up far wide e = absurd (false_true (sym e))

module _ (s : Session) (h : History) (event : Event) where
  clear_first : (answer : Answer) → fails answer ≡ false → IsClear (heard_first h event answer)
  clear_first (answers.Refused why) e = record { stored = refl; paged = refl }
  clear_first (answers.StoreFailed file) e = record { stored = refl; paged = refl }
  clear_first answer e = record { stored = refl; paged = e }

  -- whoever lives goes on to, unless the line kills
  alive_heard : (line : Event) (answer : Answer) (n : ℕ) → is_deadly line ≡ false → is_alive h n ≡ true → is_alive (heard h line answer) n ≡ true
  alive_heard (events.Spawn renderer origin) answer n e lives =
      let parts = and_parts (is_spawned h n) (not (is_dead h n)) lives in
      both (is_spawned (heard h (events.Spawn renderer origin) answer) n) (not (is_dead h n))
      (any_append_first (λ (each : Renderer). each.number == n) (spawned h) (record { number = renderer.0; origin = origin } ∷ []) parts.0) parts.1
  alive_heard (events.Die renderer) answer n e lives = absurd (false_true (sym e))
  alive_heard events.Finish answer n e lives = absurd (false_true (sym e))
  alive_heard line answer n e lives = lives

  alive_first : (answer : Answer) (more : List Answer) (n : ℕ) → kills event (answer ∷ more) ≡ false → is_alive h n ≡ true
      → is_alive (heard_first h event answer) n ≡ true
  alive_first (answers.Refused why) more n e lives = lives
  alive_first answer more n e lives = alive_heard event answer n e lives

  alive_said : (g : History) (list : List Answer) (n : ℕ) → is_alive (said_all g list) n ≡ is_alive g n
  alive_said g [] n = refl
  alive_said g (answer ∷ list) n = alive_said (said g answer) list n

  alive_after : (own : List Answer) (n : ℕ) → kills event own ≡ false → is_alive h n ≡ true → is_alive (after h event own) n ≡ true
  alive_after [] n e lives = lives
  alive_after (answer ∷ more) n e lives = alive_said (heard_first h event answer) more n ∙ alive_first answer more n e lives

  segments_heard : (line : Event) (answer : Answer) (build : Build) → has_all s.limits h build ≡ true → has_all s.limits (heard h line answer) build ≡ true
  segments_heard (events.Segment renderer b segment bytes) answer build all = by (b == build.name)
    where
      by : (c : Bool)
          → (length (filter
          (λ (each : ℕ). not (has_come (cond c (arrivals h build.name ++ record { segment = segment; bytes = bytes } ∷ []) (arrivals h build.name)) each))
          (range_with_len 0 (length (spans s.limits build)))) == 0) ≡ true
      by true =
          misses_less (arrivals h build.name) (record { segment = segment; bytes = bytes }) (range_with_len 0 (length (spans s.limits build))) all
      by false = all
  segments_heard line answer build all = all

  segments_first : (answer : Answer) (build : Build) → has_all s.limits h build ≡ true → has_all s.limits (heard_first h event answer) build ≡ true
  segments_first (answers.Refused why) build all = all
  segments_first answer build all = segments_heard event answer build all

  room_first : (answer : Answer) (build : Build) → is_granted h build ≡ true → is_granted (heard_first h event answer) build ≡ true
  room_first (answers.Refused why) build room = room
  room_first answer build room =
      ⊎_elim
      (λ (once : option_map_or grants_at_once build.plan false ≡ true).
      or_first (option_map_or grants_at_once build.plan false) (was_granted (heard h event answer) build.name) once)
      (λ (was : was_granted h build.name ≡ true).
      or_second (option_map_or grants_at_once build.plan false) (was_granted (heard h event answer) build.name)
      (still_granted answer build.name (was_granted h build.name) was))
      (or_cases (option_map_or grants_at_once build.plan false) (was_granted h build.name) room)

  deserted_after : (own : List Answer) (build : Build) → kills event own ≡ false → is_deserted s h build ≡ false
      → is_deserted s (after h event own) build ≡ false
  deserted_after [] build e none = none
  deserted_after (answer ∷ more) build e none =
      deserted_less (is_alive h build.builder) (is_alive (after h event (answer ∷ more)) build.builder) (has_all s.limits h build)
      (has_all s.limits (after h event (answer ∷ more)) build) (is_granted h build) (is_granted (after h event (answer ∷ more)) build)
      (λ lives. alive_after (answer ∷ more) build.builder e lives)
      (λ all. has_all_said s (heard_first h event answer) more build ∙ segments_first answer build all)
      (λ room. is_granted_all (heard_first h event answer) more build (room_first answer build room)) none

-- ---- each blob behind the line

abbrev pub IsKept : Session → History → Build → Type 0
IsKept s h build = is_unfinished h build.name ≡ true → is_deserted s h build ≡ false

abbrev pub AllKept : Session → History → Type 0
AllKept s h = AllByRecursion (IsKept s h) (builds (page_limit s) h)

module _ (s : Session) (h : History) (event : Event) (own : List Answer) (kept : AllKept s h) (none : kills event own ≡ false) where
  old_kept : AllByRecursion (IsKept s (after h event own)) (builds (page_limit s) h)
  old_kept =
      for_each (IsKept s h) (IsKept s (after h event own)) (builds (page_limit s) h)
      (λ build is begun. deserted_after s h event own build none (is (unfinished_back (page_limit s) h event own build.name begun))) kept

  same_kept : builds (page_limit s) (after h event own) ≡ builds (page_limit s) h → AllKept s (after h event own)
  same_kept same = subst (AllByRecursion (IsKept s (after h event own))) (sym same) old_kept

  -- with a blob whose builder lives
  built_kept : (new : Build) → builds (page_limit s) (after h event own) ≡ builds (page_limit s) h ++ new ∷ [] → is_alive h new.builder ≡ true
      → AllKept s (after h event own)
  built_kept new adds lives =
      subst (AllByRecursion (IsKept s (after h event own))) (sym adds)
      (all_more (IsKept s (after h event own)) (builds (page_limit s) h) new old_kept
      (λ begun.
      ap (λ (b : Bool). not b && (not (has_all s.limits (after h event own) new) || not (is_granted (after h event own) new)))
      (alive_after s h event own new.builder none lives)))

accepted_kept : (s : Session) (h : History) (event : Event) (own : List Answer) → AllKept s h → kills event own ≡ false → refusal s h event ≡ None
    → IsAccepted s h event own → AllKept s (after h event own)
accepted_kept s h (events.Build renderer name kind parts) own kept none passes one =
    let e = only_one own (build_answer s h renderer.0 name parts ∷ []) one in
    let path = ap (after h (events.Build renderer name kind parts)) e
    ∙ planned_first s h renderer.0 name (events.Build renderer name kind parts) parts (line_status s h renderer.0 name parts) in
    built_kept s h (events.Build renderer name kind parts) own kept none (new_build s h renderer.0 name kind parts) (ap (builds (page_limit s)) path)
    (not_false (is_alive h renderer.0) (tests_fail s h (events.Build renderer name kind parts) passes).0)
accepted_kept s h (events.Slice renderer name source from to kind) own kept none passes one =
    let parts = slice_parts (builds (page_limit s) h) source from to in
    let e = only_one own (build_answer s h renderer.0 name parts ∷ []) one in
    let path = ap (after h (events.Slice renderer name source from to kind)) e
    ∙ planned_first s h renderer.0 name (events.Slice renderer name source from to kind) parts (line_status s h renderer.0 name parts) in
    built_kept s h (events.Slice renderer name source from to kind) own kept none (new_build s h renderer.0 name kind parts) (ap (builds (page_limit s)) path)
    (not_false (is_alive h renderer.0) (tests_fail s h (events.Slice renderer name source from to kind) passes).0)
accepted_kept s h event own kept none passes one = same_kept s h event own kept none (builds-other (page_limit s) h event own refl)

own_kept : (s : Session) (h : History) (event : Event) (why : Option Refusal) (own : List Answer) → AllKept s h → kills event own ≡ false
    → refusal s h event ≡ why → IsOwnBy s h event why own → AllKept s (after h event own)
own_kept s h event (Some why) own kept none at is =
    same_kept s h event own kept none (ap (λ (list : List Answer). builds (page_limit s) (after h event list)) is)
own_kept s h event None own kept none at is = accepted_kept s h event own kept none at is

-- ---- marks

module _ (s : Session) (g : History) (stands : ℕ → Bool) (whole : List Build) (all : List Piece) (shares : List (Option Share)) (own : ℕ → List ℕ)
    (ends : (name : ℕ) → IfSome (ended g name) (λ (status : Status). is_pending status ≡ false)) where
  pub begun : (build : Build) (entry : Entry) → IsTold s g stands (build, entry) → is_pending entry.status ≡ true → is_unfinished g build.name ≡ true
  begun build entry tells pending =
      sym (pending_now s g build (ends build.name)) ∙ ap (λ (o : Outline). is_pending o.status) (sym tells.outline_is) ∙ pending

  -- where each has the mark that is owed
  marks_agree : (list : List Build) (entries : List (Option Entry)) → AllByRecursion (IsCut s g own) list → AreOutlined s g stands list entries
      → Beside (EntryStands whole all shares own) list entries → Beside (HasMark s g) list entries → Beside (AgreesToEnd s g) list entries
  marks_agree [] [] cut e fine has = tt
  marks_agree [] (held ∷ entries) cut e fine has = absurd has
  marks_agree (build ∷ list) [] cut e fine has = absurd has
  marks_agree (build ∷ list) (held ∷ entries) cut e fine has = (
    by_first s g stands (λ (one : Option Entry). EntryStands whole all shares own build one → HasMark s g build one → AgreesToEnd s g build one) build held
        (first_of s g stands build list held entries e) (λ off is mark. tt)
        (λ entry tells is mark pending. record {
          mark = mark pending;
          bytes = λ none. bytes_agree s g whole all shares own build cut.0 entry is (ap (λ (o : Outline). o.status) tells.outline_is) pending
              (begun build entry tells pending);
        })
        fine.0 has.0,
    marks_agree list entries cut.1 (rest_of s g stands build list held entries e) fine.1 has.1,
  )

  -- where nothing breaks a blob, and a mark that is there is right, there is none
  quiet_marks : (list : List Build) (entries : List (Option Entry))
      → AllByRecursion (λ (build : Build). is_unfinished g build.name ≡ true → breaks_as s g build ≡ None) list → AreOutlined s g stands list entries
      → Beside (IsMarkedRight s g) list entries → Beside (HasMark s g) list entries
  quiet_marks [] [] none e right = tt
  quiet_marks [] (held ∷ entries) none e right = absurd right
  quiet_marks (build ∷ list) [] none e right = absurd right
  quiet_marks (build ∷ list) (held ∷ entries) none e right = (
    by_first s g stands (λ (one : Option Entry). IsMarkedRight s g build one → HasMark s g build one) build held
        (first_of s g stands build list held entries e) (λ off is. tt)
        (λ entry tells is pending. by entry.mark (none.0 (begun build entry tells pending)) (is pending)) right.0,
    quiet_marks list entries none.1 (rest_of s g stands build list held entries e) right.1,
  )
    where
      by : (mark : Option Status) → breaks_as s g build ≡ None → IfSome mark (λ (why : Status). breaks_as s g build ≡ Some why)
          → mark ≡ breaks_as s g build
      by None clear is = sym clear
      by (Some why) clear is = sym is

-- a mark that is owed is right
pub right_marks : (s : Session) (g : History) (list : List Build) (entries : List (Option Entry)) → Beside (HasMark s g) list entries
    → Beside (IsMarkedRight s g) list entries
right_marks s g [] [] has = tt
right_marks s g [] (held ∷ entries) has = absurd has
right_marks s g (build ∷ list) [] has = absurd has
right_marks s g (build ∷ list) (None ∷ entries) has = (tt, right_marks s g list entries has.1)
right_marks s g (build ∷ list) (Some entry ∷ entries) has = ((λ pending. by entry.mark (has.0 pending)), right_marks s g list entries has.1)
  where
    by : (mark : Option Status) → mark ≡ breaks_as s g build → IfSome mark (λ (why : Status). breaks_as s g build ≡ Some why)
    by None is = tt
    by (Some why) is = sym is

-- ---- the history behind the line

all_got : {X : Type 0} (P : X → Type 0) (xs : List X) → ((k : ℕ) (x : X) → slice_get xs k ≡ Some x → P x) → AllByRecursion P xs
all_got P [] f = tt
all_got P (x ∷ xs) f = (f 0 x refl, all_got P xs (λ k y at. f (suc k) y at))

module _ (s : Session) (g : History) (caused : IsCaused s g) where
  pub ends_now : (name : ℕ) → IfSome (ended g name) (λ (status : Status). is_pending status ≡ false)
  ends_now name = ends_apart (ended g name) (ends_well s g name caused)

  cut_all : (list : List Build) → AllByRecursion (λ (build : Build). is_some build.plan ≡ false → is_unfinished g build.name ≡ false) list
      → AllByRecursion (IsPlanned s) list
      → AllByRecursion (λ (build : Build). length (own_pieces (page_limit s) g build.name) ≡ length (spans_of (page_limit s) build)) list
      → AllByRecursion (IsCut s g (own_pieces (page_limit s) g)) list
  cut_all [] broke planned many = tt
  cut_all (build ∷ list) broke planned many =
      (record { broke = broke.0; planned = planned.0; many = many.0 }, cut_all list broke.1 planned.1 many.1)

  pub cut_now : AllByRecursion (IsCut s g (own_pieces (page_limit s) g)) (builds (page_limit s) g)
  cut_now =
      let kept = kept_caused s g caused in
      cut_all (builds (page_limit s) g) kept.broke (all_planned s g caused)
      (all_got (λ (build : Build). length (own_pieces (page_limit s) g build.name) ≡ length (spans_of (page_limit s) build)) (builds (page_limit s) g)
      (λ k build at.
      ap (λ (list : List ℕ). length list) (own_range (page_limit s) g (distinct_of s g kept) k build at)
      ∙ length-range_with_len (pieces_before (page_limit s) (builds (page_limit s) g) build.name) (length (spans_of (page_limit s) build))))

  pub agree_now : (stands : ℕ → Bool) (parts : Parts) (told : Option (List Change)) (table : HandleTable) → Between s g stands parts told table
      → HaveMarks s g parts.book.entries → AgreesInMarks s g parts.book
  agree_now stands parts told table between has =
      marks_agree s g stands (builds (page_limit s) g) (pieces (page_limit s) g) parts.shares (own_pieces (page_limit s) g) ends_now
      (builds (page_limit s) g) parts.book.entries cut_now between.contents.outlines_stand between.contents.entries.each has

-- nobody was deserted behind a group of a legal transcript
pub kept_when_settled : (s : Session) (groups : List Group) → IsLegalFrom s start groups → AllKept s (history_from start groups)
kept_when_settled s groups legal =
    let h = history_from start groups in
    let settled = all_empty (drops s ∷ endings s ∷ drops s ∷ removals s [] ∷ grants s ∷ page_jobs s ∷ compactions s ∷ []) h (settled_after s groups legal) in
    for_each (λ (build : Build). ending_answers s (history_from start groups) build ≡ []) (IsKept s (history_from start groups))
    (builds (page_limit s) (history_from start groups))
    (λ build none still.
    (none_applies
    ((is_unwritten s (history_from start groups) build, statuses.FileWriteFailed) ∷ (is_deserted s (history_from start groups) build, statuses.SourceDied) ∷ [])
    (unbroken s (history_from start groups)
    (λ name. ends_apart (ended (history_from start groups) name) (ends_well s (history_from start groups) name (caused_from s groups legal))) build none
    still)).1.0)
    (each_ends s (history_from start groups) (builds (page_limit s) (history_from start groups)) settled.1.0)

module _ (s : Session) (groups : List Group) (event : Event) (own : List Answer) (legal : IsLegalFrom s start groups)
    (still : has_ended (history_from start groups) ≡ false) (is_own : IsOwn s (history_from start groups) event own) where
  abbrev line : History
  line = after (history_from start groups) event own

  pub caused_now : IsCaused s line
  caused_now = caused_behind s groups event own legal still is_own

  -- nothing but a death breaks a blob
  pub clear_line : list_any fails own ≡ false → IsClear line
  clear_line none =
      let first = own_first s (history_from start groups) event own is_own in
      subst (λ (list : List Answer). IsClear (after (history_from start groups) event list)) (sym first.2)
      (by first.0 first.1 (sym (ap (list_any fails) first.2) ∙ none))
    where
      by : (answer : Answer) (more : List Answer) → list_any fails (answer ∷ more) ≡ false → IsClear (after (history_from start groups) event (answer ∷ more))
      by answer more none =
          let parts = or_parts (fails answer) (list_any fails more) none in
          clear_said (heard_first (history_from start groups) event answer) more parts.1 (clear_first s (history_from start groups) event answer parts.0)

  kept_behind : kills event own ≡ false → AllKept s line
  kept_behind none =
      own_kept s (history_from start groups) event (refusal s (history_from start groups) event) own (kept_when_settled s groups legal) none refl is_own

  none_breaks : may_break event own ≡ false
      → AllByRecursion (λ (build : Build). is_unfinished line build.name ≡ true → breaks_as s line build ≡ None) (builds (page_limit s) line)
  none_breaks none =
      let parts = or_parts (kills event own) (list_any fails own) none in
      let clear = clear_line parts.1 in
      for_each (IsKept s line) (λ (build : Build). is_unfinished line build.name ≡ true → breaks_as s line build ≡ None) (builds (page_limit s) line)
      (λ build kept begun. both_fail (is_unwritten s line build) (is_deserted s line build) (unwritten_clear s line build clear) (kept begun))
      (kept_behind parts.0)

  pub owed : (stands : ℕ → Bool) (parts : Parts) (told : Option (List Change)) (table : HandleTable) → Between s line stands parts told table
      → HaveMarks s line parts.book.entries → AgreesInMarks s line parts.book
  owed stands parts told table between has = agree_now s line caused_now stands parts told table between has

  pub quiet : (stands : ℕ → Bool) (parts : Parts) (told : Option (List Change)) (table : HandleTable) → Between s line stands parts told table
      → may_break event own ≡ false → AgreesInMarks s line parts.book
  quiet stands parts told table between none =
      owed stands parts told table between
      (quiet_marks s line stands (builds (page_limit s) line) (pieces (page_limit s) line) parts.shares (own_pieces (page_limit s) line)
      (ends_now s line caused_now) (builds (page_limit s) line) parts.book.entries (none_breaks none) between.contents.outlines_stand
      between.contents.marks)
