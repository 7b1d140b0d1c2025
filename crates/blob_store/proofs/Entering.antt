-- What stands under the name of a blob that has just come.
use Rattle.std.proofs.Common.{◌≡◌, ℕ, true, Bool, List, [], ◌∷◌, ◌++◌, length, sym, ap, ◌∙◌, refl, Option, Some, None, IsSomeAnd, cond, subst, arith, ◌≢◌, ◌<◌, ◌^◌}
use Rattle.std.specs.Prelude.{nat_eq, set}
use Rattle.std.specs.Option.{option_map, option_map_or, option_and_then}
use Rattle.std.proofs.Math.Seq.{set-append_seam}
use Rattle.std.proofs.lemmas.Bool.Decides.{nat_tests}
use Rattle.blob_entries.specs.Book.{Book, book_of, changed, changed_at, entry_at, entry_of}
use Rattle.blob_entries.specs.Changes.{held_more, with_bytes}
use Rattle.blob_entries.specs.Endings.{is_granted_status}
use Rattle.blob_entries.specs.Names.{number_of}
use Rattle.blob_entries.specs.Statuses.{is_pending}
use Rattle.blob_entries.specs.declared.entry.Entry.{Entry}
use Rattle.blob_entries.proofs.Numbers.{number_of_next}
use Rattle.blob_items.specs.declared.view.View.{View}
use Rattle.blob_registry.specs.Registering.{new_entry, pushed, CanBring}
use Rattle.blob_words.specs.declared.number.RendererId.{RendererId}
use Rattle.blob_words.specs.declared.status.Status.{Status}
use Rattle.blob_store.specs.Entering.{arrived, AreAtHand}
use Rattle.blob_store.specs.declared.building.entering.Arrival.{Arrival}

module _ (book : Book) (name : ℕ) (entry : Entry) (fresh : number_of name book.names ≡ None) (sized : length book.names ≡ length book.entries) where
  -- it has the next number
  number_new : number_of name (pushed book name entry).names ≡ Some (length book.entries)
  number_new =
      number_of_next name name book.names fresh
      ∙ ap (λ (b : Bool). cond {A = Option ℕ} b (Some (length book.names)) None) same ∙ ap (λ (n : ℕ). Some n) sized
    where
      same : nat_eq name name ≡ true
      same = grind (arith, nat_tests)

  at_end : entry_at (pushed book name entry).entries (length book.entries) ≡ Some entry
  at_end = last book.entries
    where
      last : (entries : List (Option Entry)) → entry_at (entries ++ Some entry ∷ []) (length entries) ≡ Some entry
      last [] = refl
      last (held ∷ entries) = last entries

  pub entry_new : entry_of (pushed book name entry) name ≡ Some entry
  entry_new = ap (option_and_then (entry_at (pushed book name entry).entries)) number_new ∙ at_end

  -- a change of it
  pub pushed_changed : (change : Entry → Entry) → changed (pushed book name entry) name change ≡ pushed book name (change entry)
  pushed_changed change =
      ap (λ (number : Option ℕ). option_map_or (λ (n : ℕ). changed_at (pushed book name entry) n change) number (pushed book name entry)) number_new
      ∙ ap (λ (held : Option Entry). book_of (book.names ++ name ∷ []) (set (book.entries ++ Some entry ∷ []) (length book.entries) (option_map change held)))
      at_end
      ∙ ap (λ (entries : List (Option Entry)). book_of (book.names ++ name ∷ []) entries)
      (set-append_seam book.entries (Some entry) [] (option_map change (Some entry)))

-- ---- as it arrives

-- its entry before anyone holds it
abbrev pub unheld : RendererId → List ℕ → Arrival → Entry
unheld owner kind arrival = record (arrived owner kind arrival) { roots = 0 }

abbrev first_entry : RendererId → List ℕ → Arrival → Entry
first_entry owner kind arrival = new_entry owner arrival.size kind arrival.recipe arrival.status

module _ (book : Book) (name : ℕ) (owner : RendererId) (kind : List ℕ) (arrival : Arrival) (fresh : number_of name book.names ≡ None)
    (sized : length book.names ≡ length book.entries) where
  pub none_brought : (now : Book) → now ≡ pushed book name (first_entry owner kind arrival) → arrival.own ≡ None
      → now ≡ pushed book name (unheld owner kind arrival)
  none_brought now is none =
      is ∙ ap (λ (own : Option (List View)). pushed book name (record (first_entry owner kind arrival) { own = own })) (sym none)

  pub can_bring : (now : Book) (own : List View) → now ≡ pushed book name (first_entry owner kind arrival) → AreAtHand arrival (Some own)
      → IsSomeAnd (entry_of now name) (CanBring own)
  can_bring now own is at =
      subst (λ (held : Option Entry). IsSomeAnd held (CanBring own))
      (sym (ap (λ (b : Book). entry_of b name) is ∙ entry_new book name (first_entry owner kind arrival) fresh sized))
      (record { pending = ap is_pending at.0; granted = ap is_granted_status at.0; none = refl; fits = at.1 })

  pub some_brought : (now : Book) (own : List View) → now ≡ pushed book name (first_entry owner kind arrival) → arrival.own ≡ Some own
      → AreAtHand arrival (Some own) → changed now name (with_bytes own) ≡ pushed book name (unheld owner kind arrival)
  some_brought now own is some at =
      ap (λ (b : Book). changed b name (with_bytes own)) is
      ∙ pushed_changed book name (first_entry owner kind arrival) fresh sized (with_bytes own)
      ∙ ap (λ (status : Status). pushed book name (record (unheld owner kind arrival) { status = status; own = Some own })) (sym at.0)
      ∙ ap (λ (brought : Option (List View)). pushed book name (record (unheld owner kind arrival) { own = brought })) (sym some)

  pub can_hold : (now : Book) → now ≡ pushed book name (unheld owner kind arrival) → IsSomeAnd (entry_of now name) (λ (entry : Entry). entry.roots < 2 ^ 63)
  can_hold now is =
      subst (λ (held : Option Entry). IsSomeAnd held (λ (entry : Entry). entry.roots < 2 ^ 63))
      (sym (ap (λ (b : Book). entry_of b name) is ∙ entry_new book name (unheld owner kind arrival) fresh sized)) (omega arith)

  pub now_held : (now : Book) → now ≡ pushed book name (unheld owner kind arrival)
      → changed now name held_more ≡ pushed book name (arrived owner kind arrival)
  now_held now is =
      ap (λ (b : Book). changed b name held_more) is ∙ pushed_changed book name (unheld owner kind arrival) fresh sized held_more

pub not_some : {X : Type 0} (held : Option X) → ((x : X) → held ≢ Some x) → held ≡ None
not_some None none = refl
not_some (Some x) none = absurd (none x refl)
