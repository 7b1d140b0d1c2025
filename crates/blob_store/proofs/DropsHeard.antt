-- What a store says of the drops owed: they are told, and behind them its parts stand.
use Rattle.std.proofs.Common.{◌≡◌, ℕ, suc, ◌+◌, ◌<◌, ◌==◌, Bool, true, false, cond, List, [], ◌∷◌, ◌++◌, Option, Some, None, length, map, refl, ap, subst, sym}
use Rattle.std.proofs.Common.{◌∙◌, arith}
use Rattle.std.specs.Prelude.{fold, is_some, slice_get, slice_index, if◌then◌else◌, IfSome}
use Rattle.std.specs.List.{list_any}
use Rattle.std.specs.Option.{option_map, option_map_or}
use Rattle.std.proofs.lemmas.Bool.{eqb-true}
use Rattle.std.proofs.lemmas.Option.{slice_get-get_or}
use Rattle.answer_text.specs.declared.answer.Answer.{Answer}
use Rattle.answer_text.specs.declared.answer.Answer.TheVariants as answers
use Rattle.data_handles.specs.Table.{Table as HandleTable}
use Rattle.item_shares.specs.declared.item.Item.{Item}
use Rattle.page_disk.specs.declared.change.Change.{Change}
use Rattle.blob_entries.specs.Book.{book_of, entry_at}
use Rattle.quota_queue.specs.Queue.{without}
use Rattle.store_laws.specs.LetGo.{left_by, let_go_by}
use Rattle.blob_entries.specs.Leaving.{left}
use Rattle.blob_entries.specs.Names.{number_of}
use Rattle.blob_entries.specs.declared.entry.Entry.{Entry}
use Rattle.blob_registry.specs.Sweeps.{dropped, swept}
use Rattle.blob_model.specs.Builds.{Build, builds}
use Rattle.blob_model.specs.History.{History}
use Rattle.blob_model.specs.Live.{is_live}
use Rattle.blob_model.specs.Session.{Session, page_limit}
use Rattle.blob_model.proofs.Lists.{false_true}
use Rattle.registry_laws.specs.Laws.{Describes}
use Rattle.store_laws.specs.DropLaws.{swept_parts, AreDropped}
use Rattle.store_laws.specs.Releasing.{released_by}
use Rattle.store_laws.specs.Rows.{Row as RowSaid, CountsViews}
use Rattle.store_laws.specs.Settling.{after_drops}
use Rattle.store_laws.specs.Stands.{Between, Parts as PartsSaid}
use Rattle.store_laws.specs.SweepLaws.{entries_left, rows_left, AreKept}
use Rattle.store_laws.proofs.Dropped.{drops_stand}
use Rattle.store_laws.proofs.Leaving.{sweep_leaves_live}
use Rattle.blob_store.specs.declared.parts.Parts.{Parts}
use Rattle.blob_store.specs.declared.row.Row.{Row}
use Rattle.blob_store.specs.Dropping.{settled_by}
use Rattle.blob_store.specs.Says.{scene}
use Rattle.blob_store.specs.Seen.{parts_of, row_of, rows_beside}
use Rattle.blob_store.specs.Unheld.{AreUnheld, EntriesGo}
use Rattle.blob_store.specs.Whole.{Whole}
use Rattle.blob_store.proofs.Beside.{counts_said}
use Rattle.blob_store.proofs.ObjectsLeft.{released_first}
use Rattle.blob_store.proofs.SettledRows.{get_all, is_numbered, length_all, settled_if}
use Rattle.blob_store.proofs.SweptEntries.{told_gone}
use Rattle.blob_store.proofs.WholeLeft.{new_is}

length_swept : (names : List ℕ) (entries : List (Option Entry)) (number : ℕ) → length (swept names number entries) ≡ length entries
length_swept names [] number = refl
length_swept names (held ∷ entries) number = ap suc (length_swept names entries (number + 1))

-- rows beside the entries that are left, where those of no other blob changed
beside_left : (lives : ℕ → Bool) (list : List Build) (entries : List (Option Entry)) (rows now : List Row) → length now ≡ length rows
    → ((k : ℕ) → is_some (entry_at (entries_left lives list entries) k) ≡ true → slice_get now k ≡ slice_get rows k)
    → rows_beside (entries_left lives list entries) now ≡ rows_left lives list (rows_beside entries rows)
beside_left lives [] entries rows now many same = refl
beside_left lives (build ∷ list) [] rows now many same = refl
beside_left lives (build ∷ list) (held ∷ entries) [] [] many same = refl
beside_left lives (build ∷ list) (held ∷ entries) [] (one ∷ now) many same = absurd (cc many)
beside_left lives (build ∷ list) (held ∷ entries) (row ∷ rows) [] many same = absurd (cc many)
beside_left lives (build ∷ list) (held ∷ entries) (row ∷ rows) (one ∷ now) many same =
    ap (λ (first : Option RowSaid). first ∷ rows_beside (entries_left lives list entries) now) (here (lives build.name) held (same 0))
    ∙ ap (λ (more : List (Option RowSaid)). (if lives build.name then option_map (λ (entry : Entry). row_of row) held else None) ∷ more)
    (beside_left lives list entries rows now (omega (arith, many)) (λ k. same (suc k)))
  where
    here : (b : Bool) (was : Option Entry) → (is_some (left b was) ≡ true → Some one ≡ Some row)
        → option_map (λ (entry : Entry). row_of one) (left b was)
        ≡ cond {A = Option RowSaid} b (option_map (λ (entry : Entry). row_of row) was) None
    here true None is = refl
    here true (Some entry) is = ap (option_map row_of) (is refl)
    here false None is = refl
    here false (Some entry) is = refl

module _ (old new : Parts) (names : List ℕ) (freed : List Item) (whole : Whole old) (left_whole : Whole new) (goes : EntriesGo names freed old new)
    (s : Session) (h : History) (tell : Describes s h old.registry) where
  abbrev told_names : List ℕ
  told_names = dropped old.registry.names 0 old.registry.entries

  abbrev now_entries : List (Option Entry)
  now_entries = swept old.registry.names 0 old.registry.entries

  abbrev now_rows : List Row
  now_rows = fold (settled_by old.registry.names) old.rows told_names

  -- the row of an entry that is left is not settled
  untold : (number : ℕ) → is_some (entry_at now_entries number) ≡ true → list_any (is_numbered old.registry.names number) told_names ≡ false
  untold number some = by (list_any (is_numbered old.registry.names number) told_names) refl
    where
      by : (b : Bool) → list_any (is_numbered old.registry.names number) told_names ≡ b
          → list_any (is_numbered old.registry.names number) told_names ≡ false
      by false at = at
      by true at =
          let gone = told_gone old.registry.names (is_numbered old.registry.names number) old.registry.entries 0 at in
          let less : gone.place < length old.registry.names = let within = gone.within in let sized = tell.sound.sized in omega (arith, within, sized) in
          let named : number_of (slice_index old.registry.names gone.place) old.registry.names ≡ Some gone.place =
          subst (λ (o : Option ℕ). IfSome o (λ (name : ℕ). number_of name old.registry.names ≡ Some gone.place))
          (slice_get-get_or old.registry.names gone.place 0 less) (whole.blobs.names gone.place) in
          let passes : is_numbered old.registry.names number (slice_index old.registry.names gone.place) ≡ true =
          subst (λ (n : ℕ). is_numbered old.registry.names number (slice_index old.registry.names n) ≡ true) (omega arith) gone.passes in
          let same : gone.place ≡ number =
          eqb-true gone.place number (sym (ap {B = Bool} (λ (o : Option ℕ). option_map_or (λ (one : ℕ). one == number) o false) named) ∙ passes) in
          absurd (false_true
          (sym (ap (λ (o : Option Entry). is_some o) (subst (λ (n : ℕ). entry_at now_entries n ≡ None) same gone.gone)) ∙ some))

  same_row : (number : ℕ) → is_some (entry_at now_entries number) ≡ true → slice_get now_rows number ≡ slice_get old.rows number
  same_row number some =
      get_all old.registry.names told_names old.rows number
      ∙ ap {B = Option Row} (λ (b : Bool). option_map (settled_if b) (slice_get old.rows number)) (untold number some)
      ∙ still (slice_get old.rows number)
    where
      still : (found : Option Row) → option_map (settled_if false) found ≡ found
      still None = refl
      still (Some row) = refl

  rows_so : rows_beside now_entries now_rows ≡ rows_left (is_live (page_limit s) h) (builds (page_limit s) h) (rows_beside old.registry.entries old.rows)
  rows_so =
      let live = sweep_leaves_live.live_left s h old.registry tell in
      ap (λ (entries : List (Option Entry)). rows_beside entries now_rows) live
      ∙ beside_left (is_live (page_limit s) h) (builds (page_limit s) h) old.registry.entries old.rows now_rows
      (length_all old.registry.names told_names old.rows)
      (λ k some. same_row k (subst (λ (entries : List (Option Entry)). is_some (entry_at entries k) ≡ true) (sym live) some))

  abbrev now : Parts
  now = record old {
    registry = book_of old.registry.names now_entries;
    shares = new.shares;
    rows = now_rows;
    quota = record old.quota {
      used = new.quota.used;
      waiting = fold (λ (list : List (ℕ × ℕ)) (name : ℕ). without name list) old.quota.waiting told_names;
    };
    pages = fold let_go_by old.pages (freed ++ goes.pieces);
    recent = fold left_by old.recent (freed ++ goes.pieces);
    held = new.held;
  }

  is_now : new ≡ now
  is_now = new_is old new names freed whole goes left_whole.blobs.charged

  counts_now : CountsViews now_entries (rows_beside now_entries now_rows) new.shares
  counts_now =
      let blobs = (subst Whole is_now left_whole).blobs in
      counts_said now.limits.page now.registry now.shares now.rows now.quota now.pages now.recent now.held blobs
      (length_all old.registry.names told_names old.rows ∙ whole.blobs.each_row ∙ tell.sound.sized
      ∙ sym (length_swept old.registry.names old.registry.entries 0))

  kept_so : AreKept now_entries (rows_left (is_live (page_limit s) h) (builds (page_limit s) h) (rows_beside old.registry.entries old.rows)) old.shares
      new.shares
  kept_so =
      subst (λ (rows : List (Option RowSaid)). AreKept now_entries rows old.shares new.shares) rows_so
      (record {
        still = goes.freed_so.still;
        viewed = λ slot some. goes.kept slot (let count = counts_now slot in omega (arith, count, some));
        pinned = λ slot some. goes.kept slot (let count = counts_now slot in omega (arith, count, some));
      })

  module _ (stands : ℕ → Bool) (told : Option (List Change)) (table : HandleTable) (between : Between s h stands (parts_of old) told table)
      (covers : (name : ℕ) → is_live (page_limit s) h name ≡ true → stands name ≡ true) where
    behind : AreDropped s h (parts_of old) told table new.shares (freed ++ goes.pieces) new.quota.used
    behind =
        drops_stand s h stands (parts_of old) told table between tell covers whole.stored.ranges new.shares (freed ++ goes.pieces) goes.freed_so kept_so
        new.quota.used

    seen_so : swept_parts s h new.shares (freed ++ goes.pieces) new.quota.used (parts_of old) ≡ parts_of new
    seen_so =
        sym (ap parts_of is_now
        ∙ ap (λ (rows : List (Option RowSaid)). record (parts_of now) { rows = rows }) rows_so)

    pub drops_heard : (before later : List Answer) → later ≡ before ++ map (λ (name : ℕ). answers.Dropped name) names
        → AreUnheld s h before later (scene new told (fold released_by table freed))
    drops_heard before later said = record {
      answers = said ∙ ap (λ (list : List Answer). before ++ list) (ap (map (λ (name : ℕ). answers.Dropped name)) goes.names_so ∙ behind.owed);
      stands =
          subst (λ (one : HandleTable). Between s (after_drops s h) (is_live (page_limit s) h) (parts_of new) told one)
          (released_first freed goes.pieces table goes.no_range)
          (subst (λ (one : PartsSaid). Between s (after_drops s h) (is_live (page_limit s) h) one told (fold released_by table (freed ++ goes.pieces)))
          seen_so behind.stands);
      exact = behind.exact;
    }
