-- The parts that grew by a blob, as the laws see them: with its entry, its row and its items, and no two items of one piece.
use Rattle.std.proofs.Common.{◌≡◌, ℕ, ◌+◌, List, [], ◌∷◌, ◌++◌, length, sum, refl, sym, ap, ◌∙◌, Option, Some, None, IfSome, arith}
use Rattle.std.specs.Prelude.{sum_by, if◌then◌else◌}
use Rattle.std.specs.List.{AllByRecursion}
use Rattle.std.proofs.lemmas.List.{length-append}
use Rattle.item_shares.specs.Shares.{item_at}
use Rattle.item_shares.specs.declared.item.Item.{Item}
use Rattle.item_shares.specs.declared.shares.Share.{Share}
use Rattle.blob_entries.specs.declared.entry.Entry.{Entry}
use Rattle.blob_registry.specs.Registering.{pushed}
use Rattle.blob_model.specs.Builds.{Build}
use Rattle.blob_model.specs.History.{History}
use Rattle.blob_model.specs.Parts.{own_bytes}
use Rattle.blob_model.specs.Pieces.{Piece, spans_of}
use Rattle.blob_model.specs.Session.{Session, page_limit}
use Rattle.blob_model.specs.Waits.{is_waiting}
use Rattle.store_laws.specs.BuildLaws.{grown_parts, AreAdded, IsNew}
use Rattle.store_laws.specs.Items.{AreOnePerPiece, Facts}
use Rattle.store_laws.specs.LetGo.{AreFreed}
use Rattle.store_laws.specs.Rows.{Row as RowSaid}
use Rattle.store_laws.specs.Weights.{memory_weight, reserved_weight}
use Rattle.blob_store.specs.NewBlobs.{Grows, NewBlob}
use Rattle.blob_store.specs.Rows.{waits_by}
use Rattle.blob_store.specs.Seen.{parts_of, row_of, rows_beside}
use Rattle.blob_store.specs.Whole.{with_line, Whole}
use Rattle.blob_store.specs.declared.parts.Parts.{Parts}
use Rattle.blob_store.specs.declared.row.Row.{Row}
use Rattle.blob_store.proofs.Arriving.{put_added}
use Rattle.blob_store.proofs.ItemsLeft.{apart}

-- an entry and a row come behind the others
rows_more : (entries : List (Option Entry)) (rows : List Row) (entry : Entry) (row : Row) → length entries ≡ length rows
    → rows_beside (entries ++ Some entry ∷ []) (rows ++ row ∷ []) ≡ rows_beside entries rows ++ Some (row_of row) ∷ []
rows_more [] [] entry row many = refl
rows_more [] (one ∷ rows) entry row many = absurd (omega (arith, many))
rows_more (held ∷ entries) [] entry row many = absurd (omega (arith, many))
rows_more (None ∷ entries) (one ∷ rows) entry row many =
    ap (λ (list : List (Option RowSaid)). None ∷ list) (rows_more entries rows entry row (omega (arith, many)))
rows_more (Some held ∷ entries) (one ∷ rows) entry row many =
    ap (λ (list : List (Option RowSaid)). Some (row_of one) ∷ list) (rows_more entries rows entry row (omega (arith, many)))

-- where no item goes each stays
none_freed : (shares : List (Option Share)) → AreFreed shares shares []
none_freed shares = record { still = λ slot. by slot (item_at shares slot) refl; weighs = λ weight. omega arith }
  where
    by : (slot : ℕ) (held : Option Item) → item_at shares slot ≡ held → IfSome held (λ (item : Item). item_at shares slot ≡ Some item)
    by slot None is = tt
    by slot (Some item) is = is

-- what waits is the new blob of the history, where it waits
abbrev pub WaitsSo : History → Build → NewBlob → Type 0
WaitsSo later build new =
    waits_by new.name (sum new.row.lengths) new.row.sending ≡ (if is_waiting later build then (build.name, own_bytes build.parts) ∷ [] else [])

module _ (new : NewBlob) (renderer : ℕ) (old now : Parts) (grows : Grows new renderer old now) where
  used_so : old.quota.used + sum_by memory_weight new.items ≡ now.quota.used
  used_so = sym (ap (λ (parts : Parts). parts.quota.used) grows.rest)

  reserved_so : old.pages.reserved + sum_by reserved_weight new.items ≡ now.pages.reserved
  reserved_so = sym (ap (λ (parts : Parts). parts.pages.reserved) grows.rest)

  -- the parts are grown as the laws say, where the blob is the new one of the history
  pub seen_grown : length old.registry.entries ≡ length old.rows → Whole (with_line now) → (s : Session) (later : History) (build : Build)
      → new.name ≡ build.name → new.row.weight ≡ build.weight → length new.homes ≡ length (spans_of (page_limit s) build) → WaitsSo later build new
      → parts_of now ≡ grown_parts s later build new.entry (row_of new.row) now.shares now.renderers now.quota.used (parts_of old)
  seen_grown sized whole s later build name weight homes waits =
      ap parts_of grows.rest ∙ (λ i. record (parts_of old) {
        book = pushed old.registry (name i) new.entry;
        shares = now.shares;
        rows = rows_more old.registry.entries old.rows new.entry new.row sized i;
        quota = record old.quota { used = used_so i; waiting = old.quota.waiting ++ waits i };
        pages = record old.pages { reserved = (reserved_so ∙ whole.blobs.charged.reserved) i };
        renderers = now.renderers;
        pieces = (length-append old.homes new.homes ∙ ap (λ (n : ℕ). length old.homes + n) homes) i;
        weight = old.weight + weight i;
      })

  -- no two items are of one piece, since each is at home
  pub grown_apart : Whole (with_line now) → AreOnePerPiece now.shares
  grown_apart whole = apart now.homes now.pages now.shares now.shares [] whole.stored.items (none_freed now.shares)

  -- its items are added
  pub grown_added : Whole (with_line now) → (all : List Piece) (facts : Facts) (count : ℕ) → AllByRecursion (IsNew all facts count) new.items
      → AreAdded all facts count old.shares now.shares
  grown_added whole all facts count news =
      put_added all facts count old.shares now.shares new.items new.views grows.put news (grown_apart whole)
