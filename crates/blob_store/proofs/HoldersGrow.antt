-- Who holds blobs agrees when a blob comes, on which a renderer has a handle.
use Rattle.std.proofs.Common.{◌≡◌, ℕ, ◌+◌, ◌≤◌, ◌==◌, ◌&&◌, Bool, true, false, cond, List, [], ◌∷◌, ◌++◌, Option, Some, None, length, refl, sym, ap, subst, ◌∙◌, arith}
use Rattle.std.specs.Prelude.{option_and_then, IfSome, IsSome, IsSomeAnd}
use Rattle.std.specs.List.{list_any}
use Rattle.std.specs.Option.{option_map_or}
use Rattle.std.specs.Ordering.{nat_cmp}
use Rattle.std.specs.BTreeMap.{is_at}
use Rattle.std.proofs.Math.Seq.{get_or-append_seam}
use Rattle.std.proofs.lemmas.Bool.{eq-eqb, eqb-true}
use Rattle.std.proofs.lemmas.List.{get_or_append_left}
use Rattle.blob_entries.specs.Book.{Book, entry_at, entry_of}
use Rattle.blob_entries.specs.Names.{number_of}
use Rattle.blob_entries.specs.Statuses.{is_broken}
use Rattle.blob_entries.specs.declared.entry.Entry.{Entry}
use Rattle.blob_entries.proofs.Numbers.{number_kept, number_of_next, number_within}
use Rattle.blob_registry.specs.Registering.{pushed}
use Rattle.renderer_table.specs.Counts.{one_more}
use Rattle.renderer_table.specs.Table.{count_of, counts_of, living_of}
use Rattle.renderer_table.specs.declared.living.Living.{Living}
use Rattle.blob_store.specs.declared.parts.Parts.{Parts}
use Rattle.blob_store.specs.declared.readers.OpenReader.{OpenReader}
use Rattle.blob_store.specs.Holders.{Holders, IsOpen}
use Rattle.blob_store.specs.NewBlobs.{Grows, NewBlob}
use Rattle.blob_store.specs.Readers.{reader_at}
use Rattle.blob_store.specs.Roots.{handles_of, roots_at}
use Rattle.blob_store.proofs.Owning.{owned_same}
use Rattle.blob_store.proofs.Rooting.{handles_moved}

-- what stands under a name, once one more does
module _ (book : Book) (name : ℕ) (entry : Entry) (fresh : number_of name book.names ≡ None) (sized : length book.names ≡ length book.entries) where
  pub entry_pushed : (other : ℕ) → entry_of (pushed book name entry) other ≡ cond (name == other) (Some entry) (entry_of book other)
  entry_pushed other = by (number_of other book.names) refl (name == other) refl
    where
      under : Option ℕ → Option Entry
      under found = option_and_then (entry_at (book.entries ++ Some entry ∷ [])) found

      turned : (b : Bool) → (name == other) ≡ b → (other == name) ≡ b
      turned true at = eq-eqb other name (sym (eqb-true name other at))
      turned false at = apart (other == name) refl
        where
          apart : (c : Bool) → (other == name) ≡ c → c ≡ false
          apart true one = absurd (cc (sym at ∙ eq-eqb name other (sym (eqb-true other name one))))
          apart false one = refl

      by : (found : Option ℕ) → number_of other book.names ≡ found → (b : Bool) → (name == other) ≡ b
          → under (number_of other (book.names ++ name ∷ [])) ≡ cond b (Some entry) (option_and_then (entry_at book.entries) found)
      by None at true same =
          ap under (number_of_next other name book.names at ∙ ap (λ (b : Bool). cond {A = Option ℕ} b (Some (length book.names)) None) (turned true same))
          ∙ ap (λ (n : ℕ). entry_at (book.entries ++ Some entry ∷ []) n) sized ∙ get_or-append_seam book.entries (Some entry) [] None
      by None at false same =
          ap under (number_of_next other name book.names at ∙ ap (λ (b : Bool). cond {A = Option ℕ} b (Some (length book.names)) None) (turned false same))
      by (Some number) at true same =
          absurd (cc (sym at ∙ ap (λ (n : ℕ). number_of n book.names) (sym (eqb-true name other same)) ∙ fresh))
      by (Some number) at false same =
          ap under (number_kept other book.names (name ∷ []) number at)
          ∙ get_or_append_left book.entries (Some entry ∷ []) None number
          (let within = number_within other book.names number at in omega (arith, within, sized))

  none_before : (other : ℕ) → (name == other) ≡ true → entry_of book other ≡ None
  none_before other same =
      ap (λ (n : ℕ). entry_of book n) (sym (eqb-true name other same)) ∙ ap (option_and_then (entry_at book.entries)) fresh

  pub roots_pushed : (other : ℕ) → roots_at (pushed book name entry) other ≡ roots_at book other + cond {A = ℕ} (name == other) entry.roots 0
  roots_pushed other = ap (λ (held : Option Entry). option_map_or (λ (one : Entry). one.roots) held 0) (entry_pushed other) ∙ by (name == other) refl
    where
      by : (b : Bool) → (name == other) ≡ b
          → option_map_or (λ (one : Entry). one.roots) (cond b (Some entry) (entry_of book other)) 0 ≡ roots_at book other + cond {A = ℕ} b entry.roots 0
      by true same =
          let none : roots_at book other ≡ 0 = ap (λ (held : Option Entry). option_map_or (λ (one : Entry). one.roots) held 0) (none_before other same) in
          omega (arith, none)
      by false same = omega arith

  pub open_pushed : (reader : OpenReader) → IsOpen book reader → IsOpen (pushed book name entry) reader
  open_pushed reader is =
      subst (λ (held : Option Entry). IsSomeAnd held (λ (one : Entry). is_broken one.status ≡ false → reader.course.size ≡ one.size))
      (sym (entry_pushed reader.blob)) (by (name == reader.blob) refl)
    where
      by : (b : Bool) → (name == reader.blob) ≡ b
          → IsSomeAnd (cond b (Some entry) (entry_of book reader.blob)) (λ (one : Entry). is_broken one.status ≡ false → reader.course.size ≡ one.size)
      by true same =
          absurd (subst (λ (held : Option Entry). IsSomeAnd held (λ (one : Entry). is_broken one.status ≡ false → reader.course.size ≡ one.size))
          (none_before reader.blob same) is)
      by false same = is

there : (held : Option Living) → IsSome held → (one : Living) × (held ≡ Some one)
there None is = absurd (cc is)
there (Some one) is = (one, refl)

module _ (new : NewBlob) (renderer : ℕ) (old now : Parts) (grows : Grows new renderer old now) (sized : length old.registry.names ≡ length old.registry.entries)
    (alive : IsSome (living_of renderer old.renderers)) (fresh : number_of new.name old.registry.names ≡ None) (one_root : new.entry.roots ≡ 1)
    (holders : Holders old.registry old.renderers old.urls old.readers old.lines) where
  abbrev book : Book
  book = pushed old.registry new.name new.entry

  handles : (name : ℕ) → handles_of name now.renderers ≡ handles_of name old.renderers + cond {A = ℕ} (new.name == name) 1 0
  handles name =
      let one = there (living_of renderer old.renderers) alive in
      by (new.name == name)
      (handles_moved renderer old.renderers now.renderers one.0 one.1 (one_more new.name (counts_of renderer old.renderers)) grows.handles name)
      (grows.counts.counts renderer name
      ∙ ap (λ (b : Bool). cond (b && (new.name == name)) (count_of renderer name old.renderers + 1) (count_of renderer name old.renderers))
      (eq-eqb renderer renderer refl))
    where
      by : (b : Bool)
          → handles_of name now.renderers + count_of renderer name old.renderers ≡ handles_of name old.renderers + count_of renderer name now.renderers
          → count_of renderer name now.renderers ≡ cond b (count_of renderer name old.renderers + 1) (count_of renderer name old.renderers)
          → handles_of name now.renderers ≡ handles_of name old.renderers + cond {A = ℕ} b 1 0
      by true moved counted = omega (arith, moved, counted)
      by false moved counted = omega (arith, moved, counted)

  roots_more : (name : ℕ) → roots_at book name ≡ roots_at old.registry name + cond {A = ℕ} (new.name == name) 1 0
  roots_more name =
      roots_pushed old.registry new.name new.entry fresh sized name
      ∙ ap (λ (n : ℕ). roots_at old.registry name + cond {A = ℕ} (new.name == name) n 0) one_root

  few : (b : Bool) → cond {A = ℕ} b 1 0 ≤ 1
  few true = omega arith
  few false = omega arith

  still_open : (held : Option OpenReader) → IfSome held (IsOpen old.registry) → IfSome held (IsOpen book)
  still_open None is = tt
  still_open (Some reader) is = open_pushed old.registry new.name new.entry fresh sized reader is

  pub holders_grow : Holders book now.renderers old.urls old.readers (old.lines + 1)
  holders_grow = record {
    living = λ number later.
        grows.counts.origins number
        ∙ holders.living number (ap (λ (list : List ℕ). list_any (is_at (nat_cmp number)) list) (sym grows.counts.spawned) ∙ later);
    roots = λ name. let more = roots_more name in let had = holders.roots name in let moved = handles name in omega (arith, more, had, moved);
    few = λ name. let more = roots_more name in let had = holders.few name in let one = few (new.name == name) in omega (arith, more, had, one);
    readers = λ number. still_open (reader_at number old.readers) (holders.readers number);
    owned = owned_same old.renderers now.renderers old.urls old.readers grows.counts.origins holders.owned;
    opened = holders.opened;
  }
