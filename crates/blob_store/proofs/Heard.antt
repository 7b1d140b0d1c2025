-- A line was heard: refused ones, `spawn`, `drop` and `stat`.
use Rattle.std.proofs.Common.{◌≡◌, ℕ, zero, suc, ◌-◌, Bool, false, List, [], ◌∷◌, length, Option, Some, None, set, refl, sym, ap, subst, ◌∙◌, inl}
use Rattle.std.specs.Option.{option_map, option_map_or}
use Rattle.std.proofs.lemmas.List.{length-map}
use Rattle.blob_words.specs.declared.number.RendererId.{RendererId}
use Rattle.session_script.specs.declared.event.Event.{Event}
use Rattle.session_script.specs.declared.event.Event.TheVariants as events
use Rattle.answer_text.specs.declared.answer.Answer.{Answer}
use Rattle.answer_text.specs.declared.answer.Answer.TheVariants as answers
use Rattle.answer_text.specs.declared.group.Group.{Group}
use Rattle.answer_text.specs.declared.refusal.Refusal.{Refusal}
use Rattle.data_handles.specs.Table.{Table as HandleTable}
use Rattle.page_disk.specs.declared.change.Change.{Change}
use Rattle.blob_entries.specs.Book.{Book, changed, changed_at, entry_at, entry_of}
use Rattle.blob_entries.specs.Changes.{held_less}
use Rattle.blob_entries.specs.Names.{number_of}
use Rattle.blob_entries.specs.Standing.{standing}
use Rattle.blob_entries.specs.declared.entry.Entry.{Entry}
use Rattle.renderer_table.specs.Counted.{ChangesCount, Spawns}
use Rattle.renderer_table.specs.Table.{Table, drop_fault, spawn_fault}
use Rattle.blob_model.specs.History.{History, has_ended, heard, history_from, start}
use Rattle.blob_model.specs.Legal.{IsLegalFrom}
use Rattle.blob_model.specs.Live.{is_live}
use Rattle.blob_model.specs.Refusals.{refusal}
use Rattle.blob_model.specs.Session.{Session, page_limit}
use Rattle.blob_model.proofs.legal.Steps.{caused_from, unspawned_alive}
use Rattle.store_laws.specs.CountLaws.{how_many}
use Rattle.store_laws.specs.LineLaws.{counted, handle_refusal, AreUnmarked}
use Rattle.store_laws.specs.Rows.{Row as RowSaid}
use Rattle.store_laws.specs.Stands.{Between, Stands}
use Rattle.store_laws.proofs.AfterLines.{lines_stand}
use Rattle.store_laws.proofs.Counting.{tells_how_many}
use Rattle.store_laws.proofs.LineRefusals.{drop_none, drop_refusal, own_accepted, own_refused, spawn_accepted, stat_refusal}
use Rattle.store_laws.proofs.Telling.{stat_accepted}
use Rattle.store_laws.proofs.UrlOwners.{owners_spawned}
use Rattle.store_laws.proofs.Unmarked.{none_marked}
use Rattle.blob_store.specs.declared.parts.Parts.{Parts}
use Rattle.blob_store.specs.declared.row.Row.{Row}
use Rattle.blob_store.specs.Says.{scene, IsHeard}
use Rattle.blob_store.specs.Seen.{parts_of, reader_of, row_of, rows_beside}
use Rattle.blob_store.proofs.Faults.{none_used}

-- a change of what stands leaves the rows beside it
rows_less : (entries : List (Option Entry)) (number : ℕ) (rows : List Row)
    → rows_beside (set entries number (option_map held_less (entry_at entries number))) rows ≡ rows_beside entries rows
rows_less [] number rows = refl
rows_less (held ∷ entries) zero [] = refl
rows_less (held ∷ entries) (suc number) [] = refl
rows_less (None ∷ entries) zero (row ∷ rows) = refl
rows_less (Some entry ∷ entries) zero (row ∷ rows) = refl
rows_less (held ∷ entries) (suc number) (row ∷ rows) =
    ap (λ (list : List (Option RowSaid)). option_map (λ (entry : Entry). row_of row) held ∷ list) (rows_less entries number rows)

rows_still : (book : Book) (name : ℕ) (rows : List Row) → rows_beside (changed book name held_less).entries rows ≡ rows_beside book.entries rows
rows_still book name rows = by (number_of name book.names)
  where
    by : (found : Option ℕ)
        → rows_beside (option_map_or (λ (number : ℕ). changed_at book number held_less) found book).entries rows ≡ rows_beside book.entries rows
    by None = refl
    by (Some number) = rows_less book.entries number rows

module _ (s : Session) (groups : List Group) (parts : Parts) (told : Option (List Change)) (table : HandleTable) (legal : IsLegalFrom s start groups)
    (stands : Stands s (history_from start groups) (parts_of parts) told table) where
  abbrev h : History
  h = history_from start groups

  unmarked : AreUnmarked parts.registry.entries
  unmarked = none_marked s groups (is_live (page_limit s) h) (parts_of parts) told table legal stands.between

  pub heard_refused : (event : Event) (why : Refusal) → refusal s h event ≡ Some why → IsHeard s h event (answers.Refused why ∷ []) (scene parts told table)
  heard_refused event why due = record {
    is_own = own_refused s h event why due;
    stands = lines_stand.refusing event why s h (is_live (page_limit s) h) (parts_of parts) told table unmarked stands.between;
  }

  -- a part was handed back as it was
  pub heard_still : (event : Event) (own : List Answer) (new : Parts) → new ≡ parts → IsHeard s h event own (scene parts told table)
      → IsHeard s h event own (scene new told table)
  heard_still event own new same was = subst (λ (one : Parts). IsHeard s h event own (scene one told table)) (sym same) was

  pub refused_still : (event : Event) (why : Refusal) (new : Parts) → new ≡ parts → refusal s h event ≡ Some why
      → IsHeard s h event (answers.Refused why ∷ []) (scene new told table)
  refused_still event why new same due =
      heard_still event (answers.Refused why ∷ []) new same (heard_refused event why due)

  pub heard_spawn : (renderer : RendererId) (origin : List ℕ) (renderers : Table) → has_ended h ≡ false → spawn_fault renderer.0 parts.renderers ≡ None
      → Spawns renderer.0 origin parts.renderers renderers
      → IsHeard s h (events.Spawn renderer origin) (answers.Good ∷ []) (scene (record parts { renderers = renderers }) told table)
  heard_spawn renderer origin renderers still due spawns =
      let fresh = none_used renderer.0 parts.renderers due in
      let unspawned = sym (stands.between.tables.renderers.spawned renderer.0) ∙ fresh in
      record {
        is_own = own_accepted s h (events.Spawn renderer origin) (answers.Good ∷ [])
            (spawn_accepted s h (is_live (page_limit s) h) (parts_of parts) told table stands.between renderer origin due) (inl refl);
        stands = lines_stand.spawning s h (is_live (page_limit s) h) (parts_of parts) told table unmarked stands.between
            (owners_spawned s h (caused_from s groups legal)) renderer origin renderers
            (unspawned_alive s h renderer.0 (caused_from s groups legal) still unspawned) fresh spawns;
      }

  pub heard_drop : (renderer : RendererId) (name : ℕ) (book : Book) (renderers : Table) → drop_fault renderer name parts.renderers ≡ None
      → book ≡ changed parts.registry name held_less → ChangesCount (λ (count : ℕ). count - 1) renderer.0 name parts.renderers renderers
      → IsHeard s h (events.Drop renderer name) (answers.Good ∷ []) (scene (record parts { registry = book; renderers = renderers }) told table)
  heard_drop renderer name book renderers due is changes = record {
    is_own = own_accepted s h (events.Drop renderer name) (answers.Good ∷ [])
        (drop_refusal s h (is_live (page_limit s) h) (parts_of parts) told table stands.between renderer name
        ∙ drop_none renderer name parts.renderers due) (inl refl);
    stands = subst (λ (b : Book). Between s (heard h (events.Drop renderer name) answers.Good) (is_live (page_limit s) h)
        (counted (parts_of (record parts { registry = b; renderers = renderers }))) told table) (sym is)
        (subst (λ (rows : List (Option RowSaid)). Between s (heard h (events.Drop renderer name) answers.Good) (is_live (page_limit s) h)
        (counted (record (parts_of parts) { book = changed parts.registry name held_less; renderers = renderers; rows = rows })) told table)
        (sym (rows_still parts.registry name parts.rows))
        (lines_stand.dropping s h (is_live (page_limit s) h) (parts_of parts) told table unmarked stands.between renderer name renderers changes));
  }

  pub heard_count : IsHeard s h events.Count (how_many (parts_of parts) ∷ []) (scene parts told table)
  heard_count = record {
    is_own = tells_how_many.is_own s groups (parts_of parts) told table legal stands;
    stands = tells_how_many.stands s groups (parts_of parts) told table legal stands;
  }

  -- what `tally` answers, number by number
  pub heard_counts : (blobs urls open_ones waiting : ℕ) (paging : Bool) → blobs ≡ length (standing parts.registry.names parts.registry.entries)
      → urls ≡ length parts.urls → open_ones ≡ length parts.readers → waiting ≡ length parts.quota.waiting → paging ≡ parts.pages.paging
      → IsHeard s h events.Count (answers.Held blobs urls open_ones waiting paging ∷ []) (scene parts told table)
  heard_counts blobs urls open_ones waiting paging is_blobs is_urls is_open is_waiting is_paging =
      let many = is_open ∙ sym (length-map parts.readers reader_of) in
      subst (λ (answer : Answer). IsHeard s h events.Count (answer ∷ []) (scene parts told table))
      (sym (λ i. answers.Held (is_blobs i) (is_urls i) (many i) (is_waiting i) (is_paging i))) heard_count

  pub heard_stat : (renderer : RendererId) (name : ℕ) (entry : Entry) → handle_refusal renderer name parts.renderers ≡ None
      → entry_of parts.registry name ≡ Some entry
      → IsHeard s h (events.Stat renderer name) (answers.Told name entry.size entry.kind entry.status ∷ []) (scene parts told table)
  heard_stat renderer name entry due at = record {
    is_own = own_accepted s h (events.Stat renderer name) (answers.Told name entry.size entry.kind entry.status ∷ [])
        (stat_refusal s h (is_live (page_limit s) h) (parts_of parts) told table stands.between renderer name ∙ due)
        (stat_accepted s h (is_live (page_limit s) h) (parts_of parts) told table stands.between name entry at renderer);
    stands = lines_stand.telling renderer name entry.size entry.kind entry.status s h (is_live (page_limit s) h) (parts_of parts) told table unmarked
        stands.between;
  }
