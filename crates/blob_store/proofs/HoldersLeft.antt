-- Who holds a blob holds it still when entries that nobody holds went.
use Rattle.std.proofs.Common.{◌≡◌, ℕ, zero, suc, ◌<◌, Bool, true, false, cond, List, [], Option, Some, None, refl, ap, subst, sym, ◌∙◌, arith}
use Rattle.std.specs.Prelude.{option_and_then, unwrap_or, IfSome, IsSomeAnd}
use Rattle.std.specs.BTreeMap.{is_at}
use Rattle.std.specs.Option.{option_map, option_map_or}
use Rattle.std.specs.Ordering.{nat_cmp}
use Rattle.std.proofs.lemmas.Bool.{eq-eqb, lt-ltb}
use Rattle.std.proofs.lemmas.Map.Entries.{sum_by-remove_entry}
use Rattle.renderer_table.specs.Table.{Table}
use Rattle.url_store.specs.declared.url.Url.{Url}
use Rattle.blob_entries.specs.Book.{Book, book_of, entry_at}
use Rattle.blob_entries.specs.Leaving.{is_rooted, left, shed}
use Rattle.blob_entries.specs.Names.{number_of}
use Rattle.blob_entries.specs.Statuses.{is_broken}
use Rattle.blob_entries.specs.declared.entry.Entry.{Entry}
use Rattle.blob_registry.specs.Sweeps.{swept}
use Rattle.blob_model.proofs.Lists.{false_true}
use Rattle.blob_store.specs.declared.readers.OpenReader.{OpenReader}
use Rattle.blob_store.specs.Holders.{Holders, IsOpen}
use Rattle.blob_store.specs.Readers.{reader_at, readers_of, reads}
use Rattle.blob_store.specs.Roots.{roots_at}
use Rattle.blob_store.proofs.SweptEntries.{left_at, IsLeft}

abbrev pub roots_if : Option Entry → ℕ
roots_if held = option_map_or (λ (entry : Entry). entry.roots) held 0

shed_roots : (entry : Entry) → (shed entry).roots ≡ entry.roots
shed_roots entry = by (is_broken entry.status)
  where
    by : (b : Bool) → (cond b (record entry { recipe = []; own = None; views = [] }) entry).roots ≡ entry.roots
    by true = refl
    by false = refl

-- who goes has no roots
left_roots : (held now : Option Entry) → IsLeft held now → roots_if now ≡ roots_if held
left_roots held now one = ap roots_if one.is ∙ by held one.lives refl one.rooted
  where
    by : (was : Option Entry) (b : Bool) → one.lives ≡ b → (is_rooted was ≡ true → one.lives ≡ true) → roots_if (left b was) ≡ roots_if was
    by None true at rooted = refl
    by None false at rooted = refl
    by (Some entry) true at rooted = shed_roots entry
    by (Some entry) false at rooted = none entry.roots refl
      where
        none : (n : ℕ) → entry.roots ≡ n → 0 ≡ entry.roots
        none zero is = sym is
        none (suc n) is =
            absurd (false_true (sym at ∙ rooted (lt-ltb 0 entry.roots (omega (arith, is)))))

-- a blob that is held is open still
left_open : (held now : Option Entry) (size : ℕ) → IsLeft held now → 0 < roots_if held
    → IsSomeAnd held (λ (entry : Entry). is_broken entry.status ≡ false → size ≡ entry.size)
    → IsSomeAnd now (λ (entry : Entry). is_broken entry.status ≡ false → size ≡ entry.size)
left_open held now size one some is =
    subst (λ (each : Option Entry). IsSomeAnd each (λ (entry : Entry). is_broken entry.status ≡ false → size ≡ entry.size)) (sym one.is)
    (by held one.lives refl one.rooted some is)
  where
    by : (was : Option Entry) (b : Bool) → one.lives ≡ b → (is_rooted was ≡ true → one.lives ≡ true) → 0 < roots_if was
        → IsSomeAnd was (λ (entry : Entry). is_broken entry.status ≡ false → size ≡ entry.size)
        → IsSomeAnd (left b was) (λ (entry : Entry). is_broken entry.status ≡ false → size ≡ entry.size)
    by None b at rooted some is = absurd is
    by (Some entry) false at rooted some is = absurd (false_true (sym at ∙ rooted (lt-ltb 0 entry.roots some)))
    by (Some entry) true at rooted some is = go (is_broken entry.status)
      where
        go : (c : Bool) → is_broken (cond c (record entry { recipe = []; own = None; views = [] }) entry).status ≡ false
            → size ≡ (cond c (record entry { recipe = []; own = None; views = [] }) entry).size
        go true unbroken = is unbroken
        go false unbroken = is unbroken

-- an open reader is one of its blob
pub read_once : (number : ℕ) (reader : OpenReader) (readers : List (ℕ × OpenReader)) → reader_at number readers ≡ Some reader
    → 0 < readers_of reader.blob readers
read_once number reader readers at =
    let sums = sum_by-remove_entry (reads reader.blob) (is_at (nat_cmp number)) readers in
    let there = ap (λ (held : Option OpenReader). unwrap_or (option_map (reads reader.blob) held) 0) at in
    let own = ap {B = ℕ} (λ (b : Bool). cond b 1 0) (eq-eqb reader.blob reader.blob refl) in omega (arith, sums, there, own)

module _ (book : Book) (renderers : Table) (made : List (List ℕ × Url)) (readers : List (ℕ × OpenReader)) (lines : ℕ)
    (holders : Holders book renderers made readers lines) where
  abbrev now : Book
  now = book_of book.names (swept book.names 0 book.entries)

  roots_same : (name : ℕ) → roots_at now name ≡ roots_at book name
  roots_same name = by (number_of name book.names)
    where
      by : (number : Option ℕ) → roots_if (option_and_then (entry_at now.entries) number) ≡ roots_if (option_and_then (entry_at book.entries) number)
      by None = refl
      by (Some number) = left_roots (entry_at book.entries number) (entry_at now.entries number) (left_at book.names book.entries 0 number)

  open_one : (reader : OpenReader) → 0 < roots_at book reader.blob → IsOpen book reader → IsOpen now reader
  open_one reader some is = by (number_of reader.blob book.names) some is
    where
      by : (number : Option ℕ) → 0 < roots_if (option_and_then (entry_at book.entries) number)
          → IsSomeAnd (option_and_then (entry_at book.entries) number) (λ (entry : Entry). is_broken entry.status ≡ false → reader.course.size ≡ entry.size)
          → IsSomeAnd (option_and_then (entry_at now.entries) number) (λ (entry : Entry). is_broken entry.status ≡ false → reader.course.size ≡ entry.size)
      by None some is = absurd is
      by (Some number) some is =
          left_open (entry_at book.entries number) (entry_at now.entries number) reader.course.size (left_at book.names book.entries 0 number) some is

  open_left : (number : ℕ) → IfSome (reader_at number readers) (IsOpen now)
  open_left number = by (reader_at number readers) refl (holders.readers number)
    where
      by : (found : Option OpenReader) → reader_at number readers ≡ found → IfSome found (IsOpen book) → IfSome found (IsOpen now)
      by None at is = tt
      by (Some reader) at is =
          open_one reader
          (let once = read_once number reader readers at in let all = holders.roots reader.blob in omega (arith, once, all)) is

  pub holders_left : Holders now renderers made readers lines
  holders_left = record {
    living = holders.living;
    roots = λ name. roots_same name ∙ holders.roots name;
    few = λ name. let same = roots_same name in let few = holders.few name in omega (arith, same, few);
    readers = open_left;
    owned = holders.owned;
    opened = holders.opened;
  }
