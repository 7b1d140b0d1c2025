-- Behind a pass the rows beside the entries are those that the history says, settled where their blobs ended.
use Rattle.std.proofs.Common.{◌≡◌, ℕ, zero, suc, ◌==◌, ◌||◌, Bool, true, false, cond, List, [], ◌∷◌, Option, Some, None, length, refl, ap, subst, sym}
use Rattle.std.proofs.Common.{◌∙◌, arith}
use Rattle.std.specs.Prelude.{fold, is_none, slice_get, unwrap_or, IfSome, IsSomeAnd}
use Rattle.std.specs.List.{list_any, AllByRecursion}
use Rattle.std.specs.Option.{option_map, option_map_or}
use Rattle.std.proofs.lemmas.Bool.{eqb-true}
use Rattle.std.proofs.lemmas.Option.{slice_get-get_or}
use Rattle.blob_words.specs.declared.status.Status.{Status}
use Rattle.data_handles.specs.Table.{Table as HandleTable}
use Rattle.page_disk.specs.declared.change.Change.{Change}
use Rattle.blob_entries.specs.Book.{entry_at}
use Rattle.blob_entries.specs.Endings.{ending, Ends}
use Rattle.blob_entries.specs.Names.{number_of}
use Rattle.blob_entries.specs.Sound.{IsSound}
use Rattle.blob_entries.specs.Statuses.{is_pending}
use Rattle.blob_entries.specs.declared.entry.Entry.{Entry}
use Rattle.blob_entries.proofs.Soundness.{at_within}
use Rattle.blob_registry.specs.declared.ended_blob.EndedBlob.{EndedBlob}
use Rattle.blob_registry.proofs.Passing.{ends_apart, status_of}
use Rattle.blob_model.specs.Builds.{Build, builds}
use Rattle.blob_model.specs.History.{History}
use Rattle.blob_model.specs.Session.{page_limit, Session}
use Rattle.blob_model.specs.Standing.{is_unfinished}
use Rattle.blob_model.proofs.Lists.{false_true}
use Rattle.registry_laws.specs.Agree.{Agrees, AgreesInMarks, Beside}
use Rattle.registry_laws.specs.Laws.{Describes}
use Rattle.store_laws.specs.Passing.{after_pass, ended_names, rows_passed, rows_settled}
use Rattle.store_laws.specs.Passing.{settled_row as said_settled}
use Rattle.store_laws.specs.Rows.{settled}
use Rattle.store_laws.specs.Stands.{Between}
use Rattle.store_laws.proofs.PassStand.{agree_now}
use Rattle.blob_store.specs.declared.parts.Parts.{Parts}
use Rattle.blob_store.specs.declared.row.Row.{Row}
use Rattle.blob_store.specs.declared.row.Sending.{Sending}
use Rattle.blob_store.specs.declared.row.Sending.TheVariants.{Settled}
use Rattle.blob_store.specs.Blobs.{IsAwaited}
use Rattle.blob_store.specs.Dropping.{settled_by}
use Rattle.blob_store.specs.Passing.{EntriesEnd}
use Rattle.blob_store.specs.Seen.{coming_of, parts_of, row_of, rows_beside}
use Rattle.blob_store.specs.Whole.{Whole}
use Rattle.blob_store.proofs.BlobsLeft.{comes_pending}
use Rattle.blob_store.proofs.EndedList.{named_at, IsEnded}
use Rattle.blob_store.proofs.PassedEntry.{passed_status}
use Rattle.blob_store.proofs.SettledRows.{get_all, is_numbered, length_all, settled_if}
use Rattle.blob_store.proofs.WholeEnded.{ended_is}

-- ---- rows beside entries, number by number

module _ (waits : ℕ → Bool) where
  -- the row of a blob behind the pass is what the history makes of that before it
  abbrev IsSaid : Build → Option Entry → Option Entry → Row → Row → Type 0
  IsSaid build held here row one =
      option_map (λ (entry : Entry). row_of one) here ≡ said_settled (waits build.name) (option_map (λ (entry : Entry). row_of row) held)

  beside_passed : (blobs : List Build) (before after : List (Option Entry)) (rows now : List Row) → length before ≡ length blobs
      → length after ≡ length blobs → length rows ≡ length blobs → length now ≡ length blobs
      → ((k : ℕ) (build : Build) (row one : Row) → slice_get blobs k ≡ Some build → slice_get rows k ≡ Some row → slice_get now k ≡ Some one
      → IsSaid build (entry_at before k) (entry_at after k) row one)
      → rows_beside after now ≡ rows_settled waits blobs (rows_beside before rows)
  beside_passed [] before [] rows now b a r n said = refl
  beside_passed [] before (here ∷ after) rows now b a r n said = absurd (omega (arith, a))
  beside_passed (build ∷ blobs) [] after rows now b a r n said = absurd (omega (arith, b))
  beside_passed (build ∷ blobs) (held ∷ before) [] rows now b a r n said = absurd (omega (arith, a))
  beside_passed (build ∷ blobs) (held ∷ before) (here ∷ after) [] now b a r n said = absurd (omega (arith, r))
  beside_passed (build ∷ blobs) (held ∷ before) (here ∷ after) (row ∷ rows) [] b a r n said = absurd (omega (arith, n))
  beside_passed (build ∷ blobs) (held ∷ before) (here ∷ after) (row ∷ rows) (one ∷ now) b a r n said =
      λ i. said 0 build row one refl refl refl i
      ∷ beside_passed blobs before after rows now (omega (arith, b)) (omega (arith, a)) (omega (arith, r)) (omega (arith, n)) (λ k. said (suc k)) i

pub beside_at : (P : Build → Option Entry → Type 0) (blobs : List Build) (entries : List (Option Entry)) → Beside P blobs entries → (k : ℕ) (build : Build)
    → slice_get blobs k ≡ Some build → P build (entry_at entries k)
beside_at P [] entries all k build at = absurd (cc at)
beside_at P (first ∷ blobs) [] all k build at = absurd all
beside_at P (first ∷ blobs) (held ∷ entries) all zero build at = let same : first ≡ build = cc at in subst (λ (one : Build). P one held) same all.0
beside_at P (first ∷ blobs) (held ∷ entries) all (suc k) build at = beside_at P blobs entries all.1 k build at

beside_long : (P : Build → Option Entry → Type 0) (blobs : List Build) (entries : List (Option Entry)) → Beside P blobs entries → length entries ≡ length blobs
beside_long P [] [] all = refl
beside_long P [] (held ∷ entries) all = absurd all
beside_long P (build ∷ blobs) [] all = absurd all
beside_long P (build ∷ blobs) (held ∷ entries) all = ap suc (beside_long P blobs entries all.1)

-- ---- who is named

pub told_one : (P : EndedBlob → Type 0) (test : ℕ → Bool) (list : List EndedBlob) → AllByRecursion P list → list_any test (ended_names list) ≡ true
    → (end : EndedBlob) × P end × (test end.name ≡ true)
told_one P test [] all some = absurd (false_true some)
told_one P test (end ∷ list) all some = by (test end.name) refl (told_one P test list all.1) some
  where
    by : (b : Bool) → test end.name ≡ b → (list_any test (ended_names list) ≡ true → (one : EndedBlob) × P one × (test one.name ≡ true))
        → (b || list_any test (ended_names list)) ≡ true → (one : EndedBlob) × P one × (test one.name ≡ true)
    by true is rest some = (end, all.0, is)
    by false is rest some = rest some

-- ---- the rows

module _ (old new : Parts) (list : List EndedBlob) (whole : Whole old) (left_whole : Whole new) (ends : EntriesEnd list old new) (s : Session) (h : History)
    (tell : Describes s h old.registry) (in_marks : AgreesInMarks s h old.registry) (stands : ℕ → Bool) (told : Option (List Change)) (table : HandleTable)
    (between : Between s h stands (parts_of old) told table) where
  abbrev g : History
  g = after_pass s h

  abbrev blobs : List Build
  blobs = builds (page_limit s) h

  abbrev names : List ℕ
  names = old.registry.names

  abbrev now_rows : List Row
  now_rows = fold (settled_by names) old.rows (ended_names list)

  abbrev is_told : ℕ → Bool
  is_told number = list_any (is_numbered names number) (ended_names list)

  pub agreed : Beside (Agrees (page_limit s) g) blobs new.registry.entries
  agreed =
      agree_now s h stands old.registry old.shares (rows_beside old.registry.entries old.rows) old.quota old.pages old.recent between.contents tell in_marks
      new.registry ends.shares list ends.finishes ends.same

  pub rows_are : new.rows ≡ now_rows
  rows_are = ap (λ (one : Parts). one.rows) (ended_is old new list whole ends)

  -- who is named ended
  told_ended : (number : ℕ) (entry : Entry) → entry_at old.registry.entries number ≡ Some entry → is_told number ≡ true
      → IsSomeAnd (ending names new.registry.entries entry) (λ (status : Status). Unit {0})
  told_ended number entry at some =
      let found = told_one (IsEnded names old.registry.entries new.registry.entries) (is_numbered names number) list
      (named_at old.registry new.registry list tell.sound ends.finishes) some in
      by found.0 found.1 found.2
    where
      by : (end : EndedBlob) → IsEnded names old.registry.entries new.registry.entries end → is_numbered names number end.name ≡ true
          → IsSomeAnd (ending names new.registry.entries entry) (λ (status : Status). Unit {0})
      by end is passes = go (entry_at old.registry.entries is.place) refl is.there
        where
          go : (held : Option Entry) → entry_at old.registry.entries is.place ≡ held
              → IsSomeAnd held (λ (one : Entry). ending names new.registry.entries one ≡ Some end.status)
              → IsSomeAnd (ending names new.registry.entries entry) (λ (status : Status). Unit {0})
          go None then ends_so = absurd ends_so
          go (Some one) then ends_so =
              let within = at_within old.registry.entries is.place one then in
              let sized = tell.sound.sized in
              let named : number_of end.name names ≡ Some is.place =
              ap (λ (name : ℕ). number_of name names) is.named
              ∙ subst (λ (o : Option ℕ). IfSome o (λ (name : ℕ). number_of name names ≡ Some is.place))
              (slice_get-get_or names is.place 0 (omega (arith, within, sized))) (whole.blobs.names is.place) in
              let same : is.place ≡ number =
              eqb-true is.place number (sym (ap {B = Bool} (λ (o : Option ℕ). option_map_or (λ (each : ℕ). each == number) o false) named) ∙ passes) in
              let alike : Some one ≡ Some entry = sym then ∙ ap (entry_at old.registry.entries) same ∙ at in
              let one_entry : one ≡ entry = cc alike in
              subst (λ (o : Option Status). IsSomeAnd o (λ (status : Status). Unit {0}))
              (sym (ap (ending names new.registry.entries) (sym one_entry) ∙ ends_so)) tt

  module _ (number : ℕ) (build : Build) (row one : Row) (of_blob : slice_get blobs number ≡ Some build) (was : slice_get old.rows number ≡ Some row)
      (is_one : slice_get now_rows number ≡ Some one) where
    one_is : one ≡ settled_if (is_told number) row
    one_is =
        let same : Some one ≡ Some (settled_if (is_told number) row) =
        sym is_one ∙ get_all names (ended_names list) old.rows number ∙ ap (option_map (settled_if (is_told number))) was in
        cc same

    -- a blob that stays unfinished has its row
    waits_on : (entry now : Entry) → IsSound names old.registry.entries number entry → entry_at old.registry.entries number ≡ Some entry
        → entry_at new.registry.entries number ≡ Some now → Ends names new.registry.entries (Some entry) (entry_at new.registry.entries number)
        → is_pending now.status ≡ true → is_told number ≡ false
    waits_on entry now fine at then ends_so pending = by (is_told number) refl
      where
        by : (b : Bool) → is_told number ≡ b → is_told number ≡ false
        by false is = is
        by true is = absurd (go (ending names new.registry.entries entry) refl (told_ended number entry at is))
          where
            go : (o : Option Status) → ending names new.registry.entries entry ≡ o → IsSomeAnd o (λ (status : Status). Unit {0}) → ⊥
            go None at_end none = none
            go (Some status) at_end some =
                let statuses : Some now.status ≡ Some status =
                sym (ap status_of then)
                ∙ passed_status names old.registry.entries new.registry.entries number entry fine (entry_at new.registry.entries number) ends_so
                ∙ ap (λ (o : Option Status). Some (unwrap_or o entry.status)) at_end in
                let same : now.status ≡ status = cc statuses in
                false_true (sym (ends_apart names new.registry.entries entry status fine.mark at_end) ∙ ap is_pending (sym same) ∙ pending)

    -- one that ended awaits nothing
    over_so : (now : Entry) → entry_at new.registry.entries number ≡ Some now → is_pending now.status ≡ false → one.sending ≡ Settled
    over_so now then ended =
        comes_pending now.status now.own one.sending
        (subst (λ (held : Option Entry). IsAwaited new.limits.page new.recent new.pages.job held one) then
        (subst (λ (found : Option Row). IfSome found (IsAwaited new.limits.page new.recent new.pages.job (entry_at new.registry.entries number)))
        (ap (λ (rows : List Row). slice_get rows number) rows_are ∙ is_one) (left_whole.blobs.awaited number))).comes ended

    said_now : IsSaid (is_unfinished g) build (entry_at old.registry.entries number) (entry_at new.registry.entries number) row one
    said_now =
        by (entry_at old.registry.entries number) refl (tell.sound.each number) (ends.finishes.each number)
      where
        settled_none : (b : Bool) → None ≡ said_settled b None
        settled_none true = refl
        settled_none false = refl

        settled_same : (b : Bool) → (settled_if b row).sending ≡ Settled → row_of (settled_if b row) ≡ record (row_of row) { coming = settled }
        settled_same true is = refl
        settled_same false is = ap (λ (sending : Sending). record (row_of row) { coming = coming_of sending }) is

        some : (entry : Entry) → entry_at old.registry.entries number ≡ Some entry → IsSound names old.registry.entries number entry
            → Ends names new.registry.entries (Some entry) (entry_at new.registry.entries number) → (now : Option Entry)
            → entry_at new.registry.entries number ≡ now → Agrees (page_limit s) g build now
            → option_map (λ (each : Entry). row_of one) now ≡ said_settled (is_unfinished g build.name) (Some (row_of row))
        some entry at fine ends_so None then agree =
            let none : None ≡ Some (unwrap_or (ending names new.registry.entries entry) entry.status) =
            sym (ap status_of then)
            ∙ passed_status names old.registry.entries new.registry.entries number entry fine (entry_at new.registry.entries number) ends_so in
            absurd (cc none)
        some entry at fine ends_so (Some now) then agree = go (is_pending now.status) refl
          where
            unfinished : (b : Bool) → is_pending now.status ≡ b → is_unfinished g build.name ≡ b
            unfinished true is =
                ap (λ (o : Option Status). is_none o) (sym agree.status ∙ ap (λ (b : Bool). cond {A = Option Status} b None (Some now.status)) is)
            unfinished false is =
                ap (λ (o : Option Status). is_none o) (sym agree.status ∙ ap (λ (b : Bool). cond {A = Option Status} b None (Some now.status)) is)

            go : (b : Bool) → is_pending now.status ≡ b → Some (row_of one) ≡ said_settled (is_unfinished g build.name) (Some (row_of row))
            go true is =
                ap (λ (each : Row). Some (row_of each)) (one_is ∙ ap (λ (b : Bool). settled_if b row) (waits_on entry now fine at then ends_so is))
                ∙ ap (λ (b : Bool). said_settled b (Some (row_of row))) (sym (unfinished true is))
            go false is =
                ap (λ (each : Row). Some (row_of each)) one_is
                ∙ ap Some (settled_same (is_told number) (ap (λ (each : Row). each.sending) (sym one_is) ∙ over_so now then is))
                ∙ ap (λ (b : Bool). said_settled b (Some (row_of row))) (sym (unfinished false is))

        by : (held : Option Entry) → entry_at old.registry.entries number ≡ held → IfSome held (IsSound names old.registry.entries number)
            → Ends names new.registry.entries held (entry_at new.registry.entries number)
            → IsSaid (is_unfinished g) build held (entry_at new.registry.entries number) row one
        by None at fine ends_so =
            ap (option_map (λ (entry : Entry). row_of one)) ends_so ∙ settled_none (is_unfinished g build.name)
        by (Some entry) at fine ends_so =
            some entry at fine ends_so (entry_at new.registry.entries number) refl
            (beside_at (Agrees (page_limit s) g) blobs new.registry.entries agreed number build of_blob)

  pub rows_so : rows_beside new.registry.entries now_rows ≡ rows_passed s h (rows_beside old.registry.entries old.rows)
  rows_so =
      let long = beside_long (Agrees (page_limit s) h) blobs old.registry.entries tell.agree.each in
      let after_long = beside_long (Agrees (page_limit s) g) blobs new.registry.entries agreed in
      let rows_long : length old.rows ≡ length blobs = whole.blobs.each_row ∙ tell.sound.sized ∙ long in
      beside_passed (is_unfinished g) blobs old.registry.entries new.registry.entries old.rows now_rows long after_long rows_long
      (length_all names (ended_names list) old.rows ∙ rows_long) said_now
