-- The steps of a blob that comes: how long they are, what they take, and which views are theirs.
use Rattle.std.proofs.Common.{◌≡◌, ℕ, zero, suc, ◌+◌, ◌<◌, ◌≤◌, Bool, true, false, List, [], ◌∷◌, ◌++◌, length, sum, sum_by, refl, sym, ap, subst, ◌∙◌, Option, Some, None, IsSomeAnd, cond, arith, ◌||◌}
use Rattle.std.specs.List.{AllByRecursion}
use Rattle.std.specs.Prelude.{nat_eq}
use Rattle.std.specs.Option.{option_and_then, option_map}
use Rattle.std.proofs.lemmas.List.{append-nil}
use Rattle.std.proofs.lemmas.List.Folds.{list_any-append}
use Rattle.std.proofs.lemmas.List.Sums.{sum-map, sum_by-cons}
use Rattle.session_script.specs.declared.event.Part.{Part}
use Rattle.session_script.specs.declared.event.Part.TheVariants.{Embedded, Asked, FileRange, BlobRange, HandleRange}
use Rattle.item_shares.specs.declared.shares.Share.{Share}
use Rattle.blob_items.specs.declared.view.View.{View}
use Rattle.blob_entries.specs.Book.{Book, entry_at, entry_of}
use Rattle.blob_entries.specs.Contents.{step_len}
use Rattle.blob_entries.specs.Names.{number_of}
use Rattle.blob_entries.specs.Sound.{AreOwn, StepFits}
use Rattle.blob_entries.specs.declared.entry.Entry.{Entry}
use Rattle.blob_entries.specs.declared.step.Step.{Step}
use Rattle.blob_entries.specs.declared.step.Step.TheVariants.{Own, Fixed, Source}
use Rattle.blob_entries.proofs.Numbers.{number_within}
use Rattle.blob_model.specs.Parts.{part_length, parts_length}
use Rattle.quota_queue.specs.Queue.{is_waiting}
use Rattle.transport_plan.specs.Spans.{piece_spans}
use Rattle.store_laws.specs.EntryLaws.{all_lengths, AreBrought}
use Rattle.store_laws.specs.PartLaws.{own_steps, piece_lengths, piece_no, recipe_of, AreRanges}
use Rattle.blob_store.specs.Adding.{IsThere}
use Rattle.blob_store.specs.NewItems.{span_length}
use Rattle.blob_store.specs.Rows.{waiting, waits_by}
use Rattle.blob_store.specs.declared.row.Row.{Row}
use Rattle.blob_store.specs.declared.row.Sending.{Sending}
use Rattle.blob_store.specs.declared.row.Sending.TheVariants.{Settled, Waiting, Gathering, Writing}
use Rattle.blob_store.proofs.OwnPieces.{spans_lengths, spans_sum}

-- ---- how long they are

pieces_sum : (page len : ℕ) → 0 < page → sum (piece_lengths page len) ≡ len
pieces_sum page len some =
    ap sum (sym (append-nil (piece_lengths page len)))
    ∙ ap sum (sym (spans_lengths page (Asked len ∷ [])))
    ∙ sum-map span_length (piece_spans page 0 (len ∷ [])) ∙ spans_sum page (Asked len ∷ []) some ∙ omega arith

own_long : (number : ℕ) (lengths : List ℕ) (rest : List Step) → sum_by step_len (own_steps number lengths ++ rest) ≡ sum lengths + sum_by step_len rest
own_long number [] rest = omega arith
own_long number (len ∷ lengths) rest =
    let left = sum_by-cons step_len (Own (piece_no number) len) (own_steps (number + 1) lengths ++ rest) in
    let right = sum_by-cons (λ (x : ℕ). x) len lengths in
    omega (arith, left, right, own_long (number + 1) lengths rest)

module _ (shares : List (Option Share)) (page : ℕ) (some : 0 < page) where
  own_part_long : (number len : ℕ) (views : List View) (parts : List Part)
      → sum_by step_len (recipe_of page (number + length (piece_lengths page len)) views parts) ≡ parts_length parts
      → sum_by step_len (own_steps number (piece_lengths page len) ++ recipe_of page (number + length (piece_lengths page len)) views parts)
      ≡ len + parts_length parts
  own_part_long number len views parts rest =
      let left = own_long number (piece_lengths page len) (recipe_of page (number + length (piece_lengths page len)) views parts) in
      omega (arith, left, rest, pieces_sum page len some)

  pub recipe_long : (number : ℕ) (views : List View) (parts : List Part) → AreRanges shares views parts
      → sum_by step_len (recipe_of page number views parts) ≡ parts_length parts
  recipe_long number views [] are = refl
  recipe_long number views (Embedded bytes ∷ parts) are =
      let rest = recipe_long (number + length (piece_lengths page (length bytes))) views parts are in
      own_part_long number (length bytes) views parts rest ∙ sym (sum_by-cons part_length (Embedded bytes) parts)
  recipe_long number views (Asked len ∷ parts) are =
      let rest = recipe_long (number + length (piece_lengths page len)) views parts are in
      own_part_long number len views parts rest ∙ sym (sum_by-cons part_length (Asked len) parts)
  recipe_long number views (FileRange name off zero stamp ∷ parts) are =
      let right = sum_by-cons part_length (FileRange name off zero stamp) parts in omega (arith, right, recipe_long number views parts are)
  recipe_long number [] (FileRange name off (suc len) stamp ∷ parts) are = absurd are
  recipe_long number (view ∷ views) (FileRange name off (suc len) stamp ∷ parts) are =
      let left = sum_by-cons step_len (Fixed view) (recipe_of page number views parts) in
      let right = sum_by-cons part_length (FileRange name off (suc len) stamp) parts in
      let long : view.len ≡ suc len = are.0.1 in
      omega (arith, left, right, long, recipe_long number views parts are.2)
  recipe_long number views (BlobRange b off len ∷ parts) are =
      let left = sum_by-cons step_len (Source b off len) (recipe_of page number views parts) in
      let right = sum_by-cons part_length (BlobRange b off len) parts in
      omega (arith, left, right, recipe_long number views parts are)
  recipe_long number views (HandleRange k off zero ∷ parts) are =
      let right = sum_by-cons part_length (HandleRange k off zero) parts in omega (arith, right, recipe_long number views parts are)
  recipe_long number [] (HandleRange k off (suc len) ∷ parts) are = absurd are
  recipe_long number (view ∷ views) (HandleRange k off (suc len) ∷ parts) are =
      let left = sum_by-cons step_len (Fixed view) (recipe_of page number views parts) in
      let right = sum_by-cons part_length (HandleRange k off (suc len)) parts in
      let long : view.len ≡ suc len = are.0.1 in
      omega (arith, left, right, long, recipe_long number views parts are.2)

-- ---- which views are theirs

own_then : (shares : List (Option Share)) (number : ℕ) (lengths rest : List ℕ) (steps : List Step) (views : List View)
    → AreBrought shares number (lengths ++ rest) views
    → ((more : List View) → AreBrought shares (number + length lengths) rest more → AreOwn steps more) → AreOwn (own_steps number lengths ++ steps) views
own_then shares number [] rest steps views brought behind =
    let same : number ≡ number + 0 = omega arith in behind views (subst (λ (n : ℕ). AreBrought shares n rest views) same brought)
own_then shares number (len ∷ lengths) rest steps [] brought behind = absurd brought
own_then shares number (len ∷ lengths) rest steps (view ∷ views) brought behind =
    let same : (number + 1) + length lengths ≡ number + length (len ∷ lengths) = omega arith in (
      brought.0.1,
      own_then shares (number + 1) lengths rest steps views brought.2
          (λ more are. behind more (subst (λ (n : ℕ). AreBrought shares n rest more) same are)),
    )

pub own_made : (shares : List (Option Share)) (page number : ℕ) (ranges : List View) (parts : List Part) (views : List View)
    → AreBrought shares number (all_lengths page parts) views → AreOwn (recipe_of page number ranges parts) views
own_made shares page number ranges [] [] brought = refl
own_made shares page number ranges [] (view ∷ views) brought = absurd brought
own_made shares page number ranges (Embedded bytes ∷ parts) views brought =
    own_then shares number (piece_lengths page (length bytes)) (all_lengths page parts)
    (recipe_of page (number + length (piece_lengths page (length bytes))) ranges parts) views brought
    (own_made shares page (number + length (piece_lengths page (length bytes))) ranges parts)
own_made shares page number ranges (Asked len ∷ parts) views brought =
    own_then shares number (piece_lengths page len) (all_lengths page parts) (recipe_of page (number + length (piece_lengths page len)) ranges parts) views
    brought (own_made shares page (number + length (piece_lengths page len)) ranges parts)
own_made shares page number ranges (FileRange name off zero stamp ∷ parts) views brought = own_made shares page number ranges parts views brought
own_made shares page number [] (FileRange name off (suc len) stamp ∷ parts) views brought = own_made shares page number [] parts views brought
own_made shares page number (range ∷ ranges) (FileRange name off (suc len) stamp ∷ parts) views brought =
    own_made shares page number ranges parts views brought
own_made shares page number ranges (BlobRange b off len ∷ parts) views brought = own_made shares page number ranges parts views brought
own_made shares page number ranges (HandleRange k off zero ∷ parts) views brought = own_made shares page number ranges parts views brought
own_made shares page number [] (HandleRange k off (suc len) ∷ parts) views brought = own_made shares page number [] parts views brought
own_made shares page number (range ∷ ranges) (HandleRange k off (suc len) ∷ parts) views brought = own_made shares page number ranges parts views brought

-- ---- what they take

module _ (book : Book) (sized : length book.names ≡ length book.entries) where
  abbrev DoFit : List Step → Type 0
  DoFit steps = AllByRecursion (StepFits book.names book.entries (length book.entries)) steps

  own_fit : (number : ℕ) (lengths : List ℕ) (rest : List Step) → DoFit rest → DoFit (own_steps number lengths ++ rest)
  own_fit number [] rest fit = fit
  own_fit number (len ∷ lengths) rest fit = (tt, own_fit (number + 1) lengths rest fit)

  source_fits : (b off len : ℕ) → IsSomeAnd (entry_of book b) (λ (entry : Entry). off + len ≤ entry.size)
      → StepFits book.names book.entries (length book.entries) (Source b off len)
  source_fits b off len there = by (number_of b book.names) refl there
    where
      by : (found : Option ℕ) → number_of b book.names ≡ found
          → IsSomeAnd (option_and_then (entry_at book.entries) found) (λ (entry : Entry). off + len ≤ entry.size)
          → IsSomeAnd found (λ (source : ℕ).
          (source < length book.entries) × IsSomeAnd (entry_at book.entries source) (λ (entry : Entry). off + len ≤ entry.size))
      by None is there = absurd there
      by (Some source) is there = (omega (arith, number_within b book.names source is, sized), there)

  pub recipe_fits : (page number : ℕ) (views : List View) (parts : List Part) → AllByRecursion (IsThere book) parts
      → DoFit (recipe_of page number views parts)
  recipe_fits page number views [] there = tt
  recipe_fits page number views (Embedded bytes ∷ parts) there =
      own_fit number (piece_lengths page (length bytes)) (recipe_of page (number + length (piece_lengths page (length bytes))) views parts)
      (recipe_fits page (number + length (piece_lengths page (length bytes))) views parts there.1)
  recipe_fits page number views (Asked len ∷ parts) there =
      own_fit number (piece_lengths page len) (recipe_of page (number + length (piece_lengths page len)) views parts)
      (recipe_fits page (number + length (piece_lengths page len)) views parts there.1)
  recipe_fits page number views (FileRange name off zero stamp ∷ parts) there = recipe_fits page number views parts there.1
  recipe_fits page number [] (FileRange name off (suc len) stamp ∷ parts) there = recipe_fits page number [] parts there.1
  recipe_fits page number (view ∷ views) (FileRange name off (suc len) stamp ∷ parts) there = (tt, recipe_fits page number views parts there.1)
  recipe_fits page number views (BlobRange b off len ∷ parts) there = (source_fits b off len there.0, recipe_fits page number views parts there.1)
  recipe_fits page number views (HandleRange k off zero ∷ parts) there = recipe_fits page number views parts there.1
  recipe_fits page number [] (HandleRange k off (suc len) ∷ parts) there = recipe_fits page number [] parts there.1
  recipe_fits page number (view ∷ views) (HandleRange k off (suc len) ∷ parts) there = (tt, recipe_fits page number views parts there.1)

-- ---- names

fresh_apart : (name other : ℕ) (names : List ℕ) → number_of name (other ∷ names) ≡ None → (nat_eq name other ≡ false) × (number_of name names ≡ None)
fresh_apart name other names fresh = by (nat_eq name other) (number_of name names) fresh
  where
    by : (b : Bool) (rest : Option ℕ) → cond {A = Option ℕ} b (Some 0) (option_map (λ (number : ℕ). number + 1) rest) ≡ None
        → (b ≡ false) × (rest ≡ None)
    by true rest none = absurd (cc none)
    by false None none = (refl, refl)
    by false (Some n) none = absurd (cc none)

-- a name that is new doesn't wait
pub new_waits_not : (name : ℕ) (names : List ℕ) (rows : List Row) → number_of name names ≡ None → is_waiting name (waiting names rows) ≡ false
new_waits_not name [] rows fresh = refl
new_waits_not name (other ∷ names) [] fresh = refl
new_waits_not name (other ∷ names) (row ∷ rows) fresh =
    let apart = fresh_apart name other names fresh in
    list_any-append (λ (blob : ℕ × ℕ). nat_eq name blob.0) (waits_by other (sum row.lengths) row.sending) (waiting names rows)
    ∙ by row.sending apart.0 (new_waits_not name names rows apart.1)
  where
    by : (sending : Sending) → nat_eq name other ≡ false → is_waiting name (waiting names rows) ≡ false
        → (is_waiting name (waits_by other (sum row.lengths) sending) || is_waiting name (waiting names rows)) ≡ false
    by Settled apart rest = rest
    by Waiting apart rest = ap (λ (b : Bool). (b || false) || is_waiting name (waiting names rows)) apart ∙ rest
    by (Gathering segments) apart rest = rest
    by (Writing slots came) apart rest = rest
