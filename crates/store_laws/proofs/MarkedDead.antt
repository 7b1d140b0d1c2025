-- Behind the death of a renderer the parts stand once those that it left short are marked, and the marks agree.
use Rattle.std.proofs.Common.{◌≡◌, ℕ, ◌==◌, ◌&&◌, ◌||◌, not, Bool, true, false, cond, List, [], ◌∷◌, map, refl, ap, subst, sym, ◌∙◌, Option, Some, None}
use Rattle.std.specs.Prelude.{is_none, IfSome}
use Rattle.std.specs.Option.{option_map}
use Rattle.std.specs.List.{AllByRecursion}
use Rattle.std.proofs.lemmas.Bool.{eq-eqb, eqb-true}
use Rattle.blob_words.specs.declared.number.RendererId.{RendererId}
use Rattle.blob_words.specs.declared.status.Status.{Status}
use Rattle.blob_words.specs.declared.status.Status.TheVariants as statuses
use Rattle.session_script.specs.declared.event.Event.{Event}
use Rattle.session_script.specs.declared.event.Event.TheVariants as events
use Rattle.answer_text.specs.declared.answer.Answer.{Answer}
use Rattle.answer_text.specs.declared.answer.Answer.TheVariants as answers
use Rattle.answer_text.specs.declared.group.Group.{Group}
use Rattle.item_shares.specs.declared.shares.Share.{Share}
use Rattle.blob_entries.specs.Changes.{first_mark, with_mark}
use Rattle.blob_entries.specs.Statuses.{is_pending}
use Rattle.blob_entries.specs.declared.entry.Entry.{Entry}
use Rattle.data_handles.specs.Table.{Table as HandleTable}
use Rattle.page_disk.specs.declared.change.Change.{Change}
use Rattle.blob_model.specs.Builds.{Build, Cell, builds}
use Rattle.blob_model.specs.Choice.{first_that}
use Rattle.blob_model.specs.History.{History, after, has_ended, heard, history_from, start}
use Rattle.blob_model.specs.Legal.{IsLegalFrom}
use Rattle.blob_model.specs.Own.{IsOwn}
use Rattle.blob_model.specs.Pieces.{Piece, pieces}
use Rattle.blob_model.specs.Renderers.{is_alive, is_dead, is_spawned}
use Rattle.blob_model.specs.Session.{Session, page_limit}
use Rattle.blob_model.specs.Settle.{is_deserted}
use Rattle.blob_model.specs.Standing.{ended, is_granted, is_unfinished}
use Rattle.blob_model.specs.Transport.{has_all}
use Rattle.blob_model.proofs.legal.Causes.{IsCaused}
use Rattle.registry_laws.specs.Agree.{AgreesInMarks, Beside, breaks_as}
use Rattle.store_laws.specs.LineLaws.{AreUnmarked}
use Rattle.store_laws.specs.Marking.{bereft, bereft_parts, is_left, HasMark}
use Rattle.store_laws.specs.Outlines.{Outline, outline}
use Rattle.store_laws.specs.Recipes.{EntryStands, IsEntryFor, StandsFor}
use Rattle.store_laws.specs.Stands.{Between, Parts}
use Rattle.store_laws.specs.Uses.{own_pieces}
use Rattle.store_laws.proofs.Dying.{turned}
use Rattle.store_laws.proofs.MarkedBytes.{lacks_agree, IsCut}
use Rattle.store_laws.proofs.Marking.{agree_now, begun, caused_now, clear_line, cut_now, ends_now, kept_when_settled, right_marks, unwritten_clear}
use Rattle.store_laws.proofs.Marking.{IsClear, IsKept}
use Rattle.store_laws.proofs.Paired.{AreOutlined, IsTold, by_first, first_of, rest_of}

-- ---- an entry with another mark

outlined_bereft : (renderer : ℕ) (entries : List (Option Entry))
    → map (option_map outline) (map (option_map (bereft renderer)) entries) ≡ map (option_map outline) entries
outlined_bereft renderer [] = refl
outlined_bereft renderer (None ∷ entries) = ap (λ (list : List (Option Outline)). None ∷ list) (outlined_bereft renderer entries)
outlined_bereft renderer (Some entry ∷ entries) = λ i. Some (same (is_left renderer entry) i) ∷ outlined_bereft renderer entries i
  where
    same : (b : Bool) → outline (cond b (with_mark statuses.SourceDied entry) entry) ≡ outline entry
    same true = refl
    same false = refl

module _ (whole : List Build) (all : List Piece) (shares : List (Option Share)) (own : ℕ → List ℕ) where
  marked_stands : (cells : List Cell) (status why : Status) (entry : Entry) → StandsFor whole all shares cells status entry
      → StandsFor whole all shares cells status (with_mark why entry)
  marked_stands cells statuses.Done why entry is = is
  marked_stands cells statuses.PendingQuota why entry is = is
  marked_stands cells statuses.PendingTransport why entry is = is
  marked_stands cells statuses.PendingReferencedBlobs why entry is = is
  marked_stands cells statuses.Dereferenced why entry is = is
  marked_stands cells status why entry is = tt

  entry_bereft : (build : Build) (entry : Entry) (b : Bool) → IsEntryFor whole all shares own build entry
      → IsEntryFor whole all shares own build (cond b (with_mark statuses.SourceDied entry) entry)
  entry_bereft build entry false is = is
  entry_bereft build entry true is = record {
    stands = marked_stands build.cells entry.status statuses.SourceDied entry is.stands;
    steps = is.steps;
    inside = is.inside;
    owned = is.owned;
    sources = is.sources;
  }

  entries_bereft : (renderer : ℕ) (list : List Build) (entries : List (Option Entry)) → Beside (EntryStands whole all shares own) list entries
      → Beside (EntryStands whole all shares own) list (map (option_map (bereft renderer)) entries)
  entries_bereft renderer [] [] is = tt
  entries_bereft renderer [] (held ∷ entries) is = absurd is
  entries_bereft renderer (build ∷ list) [] is = absurd is
  entries_bereft renderer (build ∷ list) (None ∷ entries) is = (tt, entries_bereft renderer list entries is.1)
  entries_bereft renderer (build ∷ list) (Some entry ∷ entries) is =
      (entry_bereft build entry (is_left renderer entry) is.0, entries_bereft renderer list entries is.1)

-- ---- whoever the dead renderer left short was deserted

unspawned : (b : Bool) → (b && false) ≡ false
unspawned true = refl
unspawned false = refl

turned_round : (room segments : Bool) → not (room && segments) ≡ (not segments || not room)
turned_round true true = refl
turned_round true false = refl
turned_round false true = refl
turned_round false false = refl

module _ (s : Session) (h : History) (renderer : RendererId) where
  abbrev dead : History
  dead = heard h (events.Die renderer) answers.Good

  deserted_so : (build : Build) → IsKept s h build → is_unfinished h build.name ≡ true
      → ((build.builder == renderer.0) && not (is_granted h build && has_all s.limits h build)) ≡ is_deserted s dead build
  deserted_so build kept begun_so = by (renderer.0 == build.builder) refl
    where
      by : (b : Bool) → (renderer.0 == build.builder) ≡ b
          → ((build.builder == renderer.0) && not (is_granted h build && has_all s.limits h build)) ≡ is_deserted s dead build
      by true at =
          let same : (build.builder == renderer.0) ≡ true = eq-eqb build.builder renderer.0 (sym (eqb-true renderer.0 build.builder at)) in
          (λ i. same i && turned_round (is_granted h build) (has_all s.limits h build) i)
          ∙ sym (λ i. not (gone i) && (not (has_all s.limits h build) || not (is_granted h build)))
        where
          gone : is_alive dead build.builder ≡ false
          gone =
              ap (λ (b : Bool). is_spawned h build.builder && not (b || is_dead h build.builder)) at ∙ unspawned (is_spawned h build.builder)
      by false at =
          (λ i. turned renderer.0 build.builder at i && not (is_granted h build && has_all s.limits h build))
          ∙ sym (kept begun_so)
          ∙ sym (ap (λ (b : Bool).
          not (is_spawned h build.builder && not (b || is_dead h build.builder)) && (not (has_all s.limits h build) || not (is_granted h build))) at)

  module _ (stands : ℕ → Bool) (whole : List Build) (all : List Piece) (shares : List (Option Share)) (own : ℕ → List ℕ)
      (ends : (name : ℕ) → IfSome (ended dead name) (λ (status : Status). is_pending status ≡ false)) (clear : IsClear dead) where
    one_marked : (build : Build) (entry : Entry) → IsCut s dead own build → IsKept s h build → IsTold s dead stands (build, entry)
        → IsEntryFor whole all shares own build entry → (is_pending entry.status ≡ true → entry.mark ≡ None)
        → HasMark s dead build (Some (bereft renderer.0 entry))
    one_marked build entry cut kept tells fine none = go (is_left renderer.0 entry) refl
      where
        left_so : is_pending entry.status ≡ true → is_left renderer.0 entry ≡ is_deserted s dead build
        left_so pending =
            let begun_so = begun s dead stands whole all shares own ends build entry tells pending in
            let short = lacks_agree s dead whole all shares own build cut entry fine (ap (λ (o : Outline). o.status) tells.outline_is) pending begun_so in
            (λ i. ((tells.outline_is i).owner == renderer.0) && (is_none (none pending i) && short i)) ∙ deserted_so build kept begun_so

        breaks : (b : Bool) → is_left renderer.0 entry ≡ b → is_pending entry.status ≡ true
            → first_that ((false, statuses.FileWriteFailed) ∷ (b, statuses.SourceDied) ∷ []) ≡ breaks_as s dead build
        breaks b at pending =
            sym (λ i. first_that ((unwritten_clear s dead build clear i, statuses.FileWriteFailed)
            ∷ ((sym (left_so pending) ∙ at) i, statuses.SourceDied) ∷ []))

        go : (b : Bool) → is_left renderer.0 entry ≡ b → is_pending (cond b (with_mark statuses.SourceDied entry) entry).status ≡ true
            → (cond b (with_mark statuses.SourceDied entry) entry).mark ≡ breaks_as s dead build
        go true at pending = ap (λ (mark : Option Status). Some (first_mark mark statuses.SourceDied)) (none pending) ∙ breaks true at pending
        go false at pending = none pending ∙ breaks false at pending

    all_marked : (list : List Build) (entries : List (Option Entry)) → AllByRecursion (IsCut s dead own) list → AllByRecursion (IsKept s h) list
        → AreOutlined s dead stands list entries → Beside (EntryStands whole all shares own) list entries → AreUnmarked entries
        → Beside (HasMark s dead) list (map (option_map (bereft renderer.0)) entries)
    all_marked [] [] cut kept e fine none = tt
    all_marked [] (held ∷ entries) cut kept e fine none = absurd fine
    all_marked (build ∷ list) [] cut kept e fine none = absurd fine
    all_marked (build ∷ list) (held ∷ entries) cut kept e fine none = (
      by_first s dead stands
          (λ (one : Option Entry). EntryStands whole all shares own build one
          → IfSome one (λ (entry : Entry). is_pending entry.status ≡ true → entry.mark ≡ None)
          → HasMark s dead build (option_map (bereft renderer.0) one)) build held (first_of s dead stands build list held entries e) (λ off is free. tt)
          (λ entry tells is free. one_marked build entry cut.0 kept.0 tells is free) fine.0 none.0,
      all_marked list entries cut.1 kept.1 (rest_of s dead stands build list held entries e) fine.1 none.1,
    )

-- ---- the parts

module _ (s : Session) (groups : List Group) (renderer : RendererId) (legal : IsLegalFrom s start groups)
    (still : has_ended (history_from start groups) ≡ false) (is_own : IsOwn s (history_from start groups) (events.Die renderer) (answers.Good ∷ [])) where
  abbrev behind : History
  behind = heard (history_from start groups) (events.Die renderer) answers.Good

  caused_dead : IsCaused s behind
  caused_dead = caused_now s groups (events.Die renderer) (answers.Good ∷ []) legal still is_own

  stands_bereft : (stands : ℕ → Bool) (parts : Parts) (told : Option (List Change)) (table : HandleTable) → Between s behind stands parts told table
      → Beside (HasMark s behind) (builds (page_limit s) behind) (map (option_map (bereft renderer.0)) parts.book.entries)
      → Between s behind stands (bereft_parts renderer.0 parts) told table
  stands_bereft stands parts told table between marks = record {
    same_limits = between.same_limits;
    same_version = between.same_version;
    contents = record {
      names = between.contents.names;
      outlines_stand = outlined_bereft renderer.0 parts.book.entries ∙ between.contents.outlines_stand;
      marks = right_marks s behind (builds (page_limit s) behind) (map (option_map (bereft renderer.0)) parts.book.entries) marks;
      rows_stand = between.contents.rows_stand;
      items = between.contents.items;
      entries = record {
        each = entries_bereft (builds (page_limit s) behind) (pieces (page_limit s) behind) parts.shares (own_pieces (page_limit s) behind) renderer.0
            (builds (page_limit s) behind) parts.book.entries between.contents.entries.each;
        written = between.contents.entries.written;
      };
      waiting = between.contents.waiting;
      memory_limit = between.contents.memory_limit;
      page_files_stand = between.contents.page_files_stand;
      recent = between.contents.recent;
    };
    tables = between.tables;
    handles = between.handles;
    claims = between.claims;
    disk_stands = between.disk_stands;
    same_lines = between.same_lines;
    same_pieces = between.same_pieces;
    same_weight = between.same_weight;
  }

  died : (stands : ℕ → Bool) (parts : Parts) (told : Option (List Change)) (table : HandleTable) → Between s behind stands parts told table
      → AreUnmarked parts.book.entries
      → Between s behind stands (bereft_parts renderer.0 parts) told table × AgreesInMarks s behind (bereft_parts renderer.0 parts).book
  died stands parts told table between unmarked =
      let marks = all_marked s (history_from start groups) renderer stands (builds (page_limit s) behind) (pieces (page_limit s) behind) parts.shares
      (own_pieces (page_limit s) behind) (ends_now s behind caused_dead)
      (clear_line s groups (events.Die renderer) (answers.Good ∷ []) legal still is_own refl) (builds (page_limit s) behind) parts.book.entries
      (cut_now s behind caused_dead) (kept_when_settled s groups legal) between.contents.outlines_stand between.contents.entries.each unmarked in
      let now = stands_bereft stands parts told table between marks in
      (now, agree_now s behind caused_dead stands (bereft_parts renderer.0 parts) told table now marks)

-- by the line and its own answers
abbrev DiesSo : Session → History → Event → List Answer → RendererId → (ℕ → Bool) → Parts → Option (List Change) → HandleTable → Type 0
DiesSo s h event own renderer stands parts told table =
    IsOwn s h event own → Between s (after h event own) stands parts told table → AreUnmarked parts.book.entries
    → Between s (after h event own) stands (bereft_parts renderer.0 parts) told table
    × AgreesInMarks s (after h event own) (bereft_parts renderer.0 parts).book

pub dying : (s : Session) (groups : List Group) (event : Event) (own : List Answer) → IsLegalFrom s start groups
    → has_ended (history_from start groups) ≡ false → (renderer : RendererId) → event ≡ events.Die renderer → own ≡ answers.Good ∷ []
    → (stands : ℕ → Bool) (parts : Parts) (told : Option (List Change)) (table : HandleTable)
    → DiesSo s (history_from start groups) event own renderer stands parts told table
dying s groups event own legal still renderer is alone stands parts told table =
    subst (λ (line : Event). DiesSo s (history_from start groups) line own renderer stands parts told table) (sym is)
    (subst (λ (list : List Answer). DiesSo s (history_from start groups) (events.Die renderer) list renderer stands parts told table) (sym alone)
    (λ is_own between unmarked. died s groups renderer legal still is_own stands parts told table between unmarked))
