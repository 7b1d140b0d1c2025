-- The laws see a blob that has its room as one that was granted; and grants are told one after the other.
use Rattle.std.proofs.Common.{◌≡◌, ℕ, zero, suc, ◌+◌, ◌<◌, ◌≤◌, List, [], ◌∷◌, ◌++◌, Option, Some, None, true, set, refl, ap, subst, sym, ◌∙◌}
use Rattle.std.proofs.Common.{append-nil, append_assoc}
use Rattle.std.specs.Prelude.{drop, slice_get, IfSome, IsSomeAnd}
use Rattle.std.specs.Option.{option_map, option_map_or}
use Rattle.answer_text.specs.declared.answer.Answer.{Answer}
use Rattle.answer_text.specs.declared.answer.Answer.TheVariants as answers
use Rattle.blob_words.specs.declared.limits.Limits.{Limits}
use Rattle.blob_words.specs.declared.status.Status.TheVariants.{PendingTransport}
use Rattle.blob_entries.specs.Book.{changed, changed_at, entry_at, Book}
use Rattle.blob_entries.specs.Changes.{with_status}
use Rattle.blob_entries.specs.Statuses.{is_broken}
use Rattle.blob_entries.specs.Holdings.{held_views}
use Rattle.blob_entries.specs.declared.entry.Entry.{Entry}
use Rattle.data_handles.specs.Table.{Table}
use Rattle.page_disk.specs.declared.change.Change.{Change}
use Rattle.quota_queue.specs.Queue.{Queue}
use Rattle.blob_model.specs.History.{History, said, said_all}
use Rattle.blob_model.specs.Session.{Session, page_limit}
use Rattle.blob_model.specs.Settle.{grants}
use Rattle.blob_model.specs.Tally.{memory}
use Rattle.blob_model.proofs.Lists.{false_true}
use Rattle.blob_model.proofs.live.Agreement.{said_append}
use Rattle.store_laws.specs.Granting.{changed_under, charged, gathering_row, granted, unsent}
use Rattle.store_laws.specs.Late.{IsLate}
use Rattle.store_laws.specs.LateLaws.{IsSwept}
use Rattle.store_laws.specs.Rows.{Row as RowSaid}
use Rattle.store_laws.specs.Stands.{AreEmptied, Parts as PartsSaid}
use Rattle.store_laws.proofs.Granting.{grants_stand}
use Rattle.blob_store.specs.declared.parts.Parts.{Parts}
use Rattle.blob_store.specs.declared.row.Row.{Row}
use Rattle.blob_store.specs.Granting.{with_segments, Opens}
use Rattle.blob_store.specs.Says.{scene, Scene}
use Rattle.blob_store.specs.Seen.{parts_of, row_of, rows_beside}
use Rattle.blob_store.specs.Telling.{SaysMore}
use Rattle.blob_store.specs.Whole.{Whole}
use Rattle.blob_store.proofs.Reaching.{late_reaches}
use Rattle.blob_store.proofs.WholeGranted.{granted_parts, head, number, numbered, opened_so, row, whole_granted}

-- ---- rows beside entries

rows_seen : (limits : Limits) (entries : List (Option Entry)) (rows : List Row) (place : ℕ) (row : Row) → slice_get rows place ≡ Some row
    → rows_beside (set entries place (option_map (with_status PendingTransport) (entry_at entries place)))
    (set rows place (with_segments (unsent limits row.lengths) row))
    ≡ changed_under place (gathering_row limits) (rows_beside entries rows)
rows_seen limits [] rows place row at = refl
rows_seen limits (held ∷ entries) [] zero row at = absurd (cc at)
rows_seen limits (held ∷ entries) [] (suc place) row at = absurd (cc at)
rows_seen limits (held ∷ entries) (one ∷ rows) zero row at =
    let same : row ≡ one = cc at in
    ap (λ (each : Row). rows_beside (option_map (with_status PendingTransport) held ∷ entries) (with_segments (unsent limits each.lengths) each ∷ rows)) same
    ∙ by held
  where
    by : (held : Option Entry)
        → rows_beside (option_map (with_status PendingTransport) held ∷ entries) (with_segments (unsent limits one.lengths) one ∷ rows)
        ≡ changed_under zero (gathering_row limits) (rows_beside (held ∷ entries) (one ∷ rows))
    by None = refl
    by (Some entry) = refl
rows_seen limits (held ∷ entries) (one ∷ rows) (suc place) row at =
    ap (λ (list : List (Option RowSaid)). option_map (λ (entry : Entry). row_of one) held ∷ list) (rows_seen limits entries rows place row at)

-- broken entries have let their views go, as before
emptied_still : (entries : List (Option Entry)) (place : ℕ) → AreEmptied entries
    → AreEmptied (set entries place (option_map (with_status PendingTransport) (entry_at entries place)))
emptied_still [] place all = tt
emptied_still (held ∷ entries) zero all = (by held, all.1)
  where
    by : (held : Option Entry) → IfSome (option_map (with_status PendingTransport) held) (λ (entry : Entry). is_broken entry.status ≡ true
        → held_views entry ≡ [])
    by None = tt
    by (Some entry) = λ broken. absurd (false_true broken)
emptied_still (held ∷ entries) (suc place) all = (all.0, emptied_still entries place all.1)

module _ (parts : Parts) (whole : Whole parts) (swept : IsSwept (parts_of parts)) (name bytes : ℕ)
    (first : slice_get parts.quota.waiting 0 ≡ Some (name, bytes)) (fits : parts.quota.used + bytes ≤ parts.quota.limit) where
  swept_granted : IsSwept (parts_of (granted_parts parts whole name bytes first fits))
  swept_granted = record {
    emptied = subst (λ (book : Book). AreEmptied book.entries)
        (sym (ap (λ (found : Option ℕ). option_map_or (λ (k : ℕ). changed_at parts.registry k (with_status PendingTransport)) found parts.registry)
        (numbered parts whole name bytes first fits)))
        (emptied_still parts.registry.entries (number parts whole name bytes first fits) swept.emptied);
    viewed = swept.viewed;
  }

-- ---- what is told

-- some grants were told, those of the heads that fit, and what is owed besides is owed still
pub record TellsGrants (s : Session) (h : History) (before later : List Answer) (now : Scene) : Type 0 where
  pub told : List Answer
  pub owed : grants s h ≡ told ++ grants s (said_all h told)
  pub more : SaysMore s h told before later now

abbrev pub GrantsSome : List Answer → List Answer → Scene → Scene → Type 0
GrantsSome before later old new = (s : Session) (h : History) → IsLate s h (parts_of old.parts) old.told old.table → TellsGrants s h before later new

pub none_granted : (before : List Answer) (one : Scene) → GrantsSome before before one one
none_granted before one s h late =
    record { told = []; owed = refl; more = record { answers = sym (append-nil before); late = late } }

module _ (before between : List Answer) (old : Scene) (parts : Parts) (told : Option (List Change)) (table : Table)
    (some : GrantsSome before between old (scene parts told table)) (whole : Whole parts) (swept : IsSwept (parts_of parts)) where
  used_so : (s : Session) (h : History) → IsLate s h (parts_of parts) told table → parts.quota.used ≡ memory (page_limit s) h
  used_so s h late = (late_reaches parts whole s h told table late swept).used

  module _ (name bytes : ℕ) (first : slice_get parts.quota.waiting 0 ≡ Some (name, bytes)) (fits : parts.quota.used + bytes ≤ parts.quota.limit) where
    abbrev place : ℕ
    place = number parts whole name bytes first fits

    abbrev one : Row
    one = row parts whole name bytes first fits

    abbrev now : Parts
    now = granted_parts parts whole name bytes first fits

    seen_granted : parts_of now ≡ granted name bytes (parts_of parts)
    seen_granted =
        let by_number = numbered parts whole name bytes first fits in
        let books : changed parts.registry name (with_status PendingTransport) ≡ changed_at parts.registry place (with_status PendingTransport) =
        ap (λ (found : Option ℕ). option_map_or (λ (k : ℕ). changed_at parts.registry k (with_status PendingTransport)) found parts.registry) by_number in
        let rows : rows_beside (changed parts.registry name (with_status PendingTransport)).entries now.rows ≡ (granted name bytes (parts_of parts)).rows =
        ap (λ (book : Book). rows_beside book.entries now.rows) books
        ∙ rows_seen parts.limits parts.registry.entries parts.rows place one (head parts whole name bytes first fits).at
        ∙ sym (ap (λ (found : Option ℕ). option_map_or (λ (k : ℕ). changed_under k (gathering_row parts.limits)
        (rows_beside parts.registry.entries parts.rows)) found (rows_beside parts.registry.entries parts.rows)) by_number) in
        ap (λ (list : List (Option RowSaid)). record (parts_of now) { rows = list }) rows

    pub one_granted : GrantsSome before (between ++ answers.Granted name ∷ []) old (scene now told table)
    one_granted s h late =
        let was = some s h late in
        let g = said_all h was.told in
        let later : IsLate s (said g (answers.Granted name)) (parts_of now) told table =
        subst (λ (each : PartsSaid). IsLate s (said g (answers.Granted name)) each told table) (sym seen_granted)
        (grants_stand.late s g (parts_of parts) told table was.more.late name bytes first) in
        let next = grants_stand.next s g (parts_of parts) told table was.more.late (used_so s g was.more.late) name bytes first fits in
        let path : said_all h (was.told ++ answers.Granted name ∷ []) ≡ said g (answers.Granted name) =
        said_append h was.told (answers.Granted name ∷ []) in
        record {
          told = was.told ++ answers.Granted name ∷ [];
          owed = was.owed ∙ ap (λ (list : List Answer). was.told ++ list) next
              ∙ sym (append_assoc was.told (answers.Granted name ∷ []) (grants s (said g (answers.Granted name))))
              ∙ ap (λ (each : History). (was.told ++ answers.Granted name ∷ []) ++ grants s each) (sym path);
          more = record {
            answers = ap (λ (list : List Answer). list ++ answers.Granted name ∷ []) was.more.answers
                ∙ append_assoc before was.told (answers.Granted name ∷ []);
            late = subst (λ (each : History). IsLate s each (parts_of now) told table) (sym path) later;
          };
        }

  -- and then none is owed
  pub all_granted : IfSome (slice_get parts.quota.waiting 0) (λ (blob : ℕ × ℕ). parts.quota.limit < parts.quota.used + blob.1)
      → (s : Session) (h : History) → IsLate s h (parts_of old.parts) old.told old.table → SaysMore s h (grants s h) before between (scene parts told table)
  all_granted full s h late =
      let was = some s h late in
      let over = grants_stand.none s (said_all h was.told) (parts_of parts) told table was.more.late (used_so s (said_all h was.told) was.more.late) full in
      subst (λ (list : List Answer). SaysMore s h list before between (scene parts told table))
      (sym (was.owed ∙ ap (λ (list : List Answer). was.told ++ list) over ∙ append-nil was.told)) was.more

-- ---- by what the calls give

-- the head was charged
pub record Charges (quota now : Queue) (name : ℕ) : Type 0 where
  pub bytes : ℕ
  pub first : slice_get quota.waiting 0 ≡ Some (name, bytes)
  pub fits : quota.used + bytes ≤ quota.limit
  pub is : now ≡ charged bytes quota

pub charges_of : (quota now : Queue) (name : ℕ)
    → IsSomeAnd (slice_get quota.waiting 0) (λ (blob : ℕ × ℕ). (blob.0 ≡ name) × (quota.used + blob.1 ≤ quota.limit)
    × (now ≡ record quota { used = quota.used + blob.1; waiting = drop 1 quota.waiting }))
    → Charges quota now name
charges_of quota now name all = by (slice_get quota.waiting 0) refl all
  where
    by : (found : Option (ℕ × ℕ)) → slice_get quota.waiting 0 ≡ found
        → IsSomeAnd found (λ (blob : ℕ × ℕ). (blob.0 ≡ name) × (quota.used + blob.1 ≤ quota.limit)
        × (now ≡ record quota { used = quota.used + blob.1; waiting = drop 1 quota.waiting }))
        → Charges quota now name
    by None at none = absurd none
    by (Some blob) at are =
        record { bytes = blob.1; first = at ∙ ap (λ (one : ℕ). Some (one, blob.1)) are.0; fits = are.1; is = are.2 }

-- what the loop keeps
pub record GoesOn (start : Parts) (before later : List Answer) (now : Parts) : Type 0 where
  pub whole : Whole now
  pub swept : IsSwept (parts_of now)
  pub items : now.shares ≡ start.shares
  pub pages : now.pages ≡ start.pages
  pub some : (told : Option (List Change)) (table : Table) → GrantsSome before later (scene start told table) (scene now told table)

module _ (start : Parts) (before between : List Answer) (parts : Parts) (goes : GoesOn start before between parts) where
  pub goes_on : (quota : Queue) (name : ℕ) (new : Parts) (later : List Answer) → Charges parts.quota quota name
      → Opens name (record parts { quota = quota }) new → later ≡ between ++ answers.Granted name ∷ [] → GoesOn start before later new
  goes_on quota name new later charges opens is =
      let so = opened_so parts goes.whole name charges.bytes charges.first charges.fits quota new charges.is opens in
      subst (λ (one : Parts). GoesOn start before later one) (sym so)
      (subst (λ (list : List Answer). GoesOn start before list (granted_parts parts goes.whole name charges.bytes charges.first charges.fits)) (sym is)
      (record {
        whole = whole_granted parts goes.whole name charges.bytes charges.first charges.fits;
        swept = swept_granted parts goes.whole goes.swept name charges.bytes charges.first charges.fits;
        items = goes.items;
        pages = goes.pages;
        some = λ told table.
            one_granted before between (scene start told table) parts told table (goes.some told table) goes.whole goes.swept name charges.bytes
            charges.first charges.fits;
      }))

  pub over : (quota : Queue) → quota ≡ parts.quota
      → IfSome (slice_get parts.quota.waiting 0) (λ (blob : ℕ × ℕ). parts.quota.limit < parts.quota.used + blob.1)
      → (told : Option (List Change)) (table : Table) (s : Session) (h : History) → IsLate s h (parts_of start) told table
      → SaysMore s h (grants s h) before between (scene (record parts { quota = quota }) told table)
  over quota same full told table s h late =
      subst (λ (one : Queue). SaysMore s h (grants s h) before between (scene (record parts { quota = one }) told table)) (sym same)
      (all_granted before between (scene start told table) parts told table (goes.some told table) goes.whole goes.swept full s h late)
