-- What the parts keep of the items that are left when items of pieces go.
use Rattle.std.proofs.Common.{◌≡◌, ℕ, zero, suc, ◌≤◌, ◌==◌, ◌&&◌, ◌||◌, not, Bool, true, false, cond, List, [], ◌∷◌, set, refl, ap, subst, sym, ◌∙◌, Option}
use Rattle.std.proofs.Common.{Some, None, arith}
use Rattle.std.specs.Prelude.{filter, fold, nat_eq, slice_get, IfSome, IsSomeAnd}
use Rattle.std.specs.Option.{option_map}
use Rattle.std.specs.List.{AllByRecursion, list_any}
use Rattle.std.proofs.lemmas.Bool.{eq-eqb, eqb-true}
use Rattle.blob_words.specs.declared.number.PageNo.{PageNo}
use Rattle.blob_words.specs.declared.number.PieceNo.{PieceNo}
use Rattle.item_shares.specs.Shares.{item_at}
use Rattle.item_shares.specs.Weights.{weights}
use Rattle.item_shares.specs.declared.item.Item.{Item}
use Rattle.item_shares.specs.declared.item.Item.TheVariants.{Memory, Paged, Reserved, File, Range}
use Rattle.item_shares.specs.declared.shares.Share.{Share}
use Rattle.page_files.specs.declared.held.Held.{Held}
use Rattle.page_files.specs.declared.job.Job.{Job}
use Rattle.page_files.specs.declared.page.Page.{Page}
use Rattle.page_files.specs.declared.page.Page.TheVariants.{Torn, Whole as WholePage, Asked}
use Rattle.page_files.specs.Files.{Files, left_of, page_no, source_of, struck}
use Rattle.page_files.specs.Items.{IsMemoryOf, IsPagedIn, IsPagedOf}
use Rattle.page_files.specs.Pages.{page_at, pieces_at, released}
use Rattle.page_files.specs.Pieces.{without}
use Rattle.recent_items.specs.Recent.{without as unused}
use Rattle.blob_model.proofs.Lists.{false_true}
use Rattle.store_laws.specs.Items.{holds_piece, is_number, piece_at, piece_by, piece_of_item, AreOnePerPiece}
use Rattle.store_laws.specs.LetGo.{left_by, let_go_by, AreFreed}
use Rattle.store_laws.specs.PageFiles.{is_paged_in}
use Rattle.store_laws.specs.Weights.{range_weight}
use Rattle.store_laws.proofs.HeldCounts.{at_slot, slot_of}
use Rattle.store_laws.proofs.Letting.{any_in, holds_any, is_of, left_in, number_of_piece, paged_held, paged_piece}
use Rattle.blob_store.specs.Stored.{IsHeld, IsHome, IsInMemory, IsListed, IsMemory, IsOfJob}

-- ---- what is left of lists

module _ {X : Type 0} (P Q : X → Type 0) (keeps : (x : X) → P x → Q x) where
  all_as : (list : List X) → AllByRecursion P list → AllByRecursion Q list
  all_as [] all = tt
  all_as (x ∷ list) all = (keeps x all.0, all_as list all.1)

-- what passes a test is left, and passes it
filtered : {X : Type 0} (P : X → Type 0) (test : X → Bool) (list : List X) → AllByRecursion P list
    → AllByRecursion (λ (x : X). P x × (test x ≡ true)) (filter test list)
filtered P test [] all = tt
filtered {X = X} P test (x ∷ list) all = go (test x) refl (filtered P test list all.1)
  where
    go : (b : Bool) → test x ≡ b → AllByRecursion (λ (y : X). P y × (test y ≡ true)) (filter test list)
        → AllByRecursion (λ (y : X). P y × (test y ≡ true)) (cond {A = List X} b (x ∷ filter test list) (filter test list))
    go true at rest = ((all.0, at), rest)
    go false at rest = rest

untrue : (b : Bool) → not b ≡ true → b ≡ false
untrue true e = absurd (false_true e)
untrue false e = refl

either : (a b : Bool) → a ≡ false → b ≡ false → (a || b) ≡ false
either true b e f = absurd (false_true (sym e))
either false b e f = f

both : (a b : Bool) → a ≡ false → (a && b) ≡ false
both true b e = absurd (false_true (sym e))
both false b e = refl

second : (a b : Bool) → b ≡ false → (a && b) ≡ false
second true b e = e
second false b e = refl

-- ---- pieces of a page file

at_same : (pages : List Page) (number : ℕ) (piece : PieceNo)
    → pieces_at (set pages number (released piece (page_at pages number))) number ≡ without piece (pieces_at pages number)
at_same [] number piece = refl
at_same (Torn ∷ pages) zero piece = refl
at_same (WholePage size pieces ∷ pages) zero piece = refl
at_same (Asked ∷ pages) zero piece = refl
at_same (page ∷ pages) (suc number) piece = at_same pages number piece

at_another : (pages : List Page) (number other : ℕ) (page : Page) → (number == other) ≡ false → pieces_at (set pages number page) other ≡ pieces_at pages other
at_another [] number other page apart = refl
at_another (one ∷ pages) zero zero page apart = absurd (false_true (sym apart))
at_another (one ∷ pages) zero (suc other) page apart = refl
at_another (one ∷ pages) (suc number) zero page apart = refl
at_another (one ∷ pages) (suc number) (suc other) page apart = at_another pages number other page (less (number == other) refl)
  where
    less : (b : Bool) → (number == other) ≡ b → (number == other) ≡ false
    less true at = absurd (false_true (sym apart ∙ eq-eqb (suc number) (suc other) (ap suc (eqb-true number other at))))
    less false at = at

module _ (number : ℕ) where
  abbrev Paged_left : (Held → Type 0) → Item → Held → Type 0
  Paged_left P item held = P held × (is_paged_in number held.piece.0 item ≡ false)

  page_item : (P : Held → Type 0) (item : Item) (files : Files) → AllByRecursion P (pieces_at files.pages number)
      → AllByRecursion (Paged_left P item) (pieces_at (let_go_by files item).pages number)
  page_item P (Memory piece bytes) files all = all_as P (Paged_left P (Memory piece bytes)) (λ held is. (is, refl)) (pieces_at files.pages number) all
  page_item P (Reserved piece len) files all = all_as P (Paged_left P (Reserved piece len)) (λ held is. (is, refl)) (pieces_at files.pages number) all
  page_item P (File name stamp off len) files all =
      all_as P (Paged_left P (File name stamp off len)) (λ held is. (is, refl)) (pieces_at files.pages number) all
  page_item P (Range slot off len) files all = all_as P (Paged_left P (Range slot off len)) (λ held is. (is, refl)) (pieces_at files.pages number) all
  page_item P (Paged piece page off len) files all = go (page.0 == number) refl
    where
      now : List Page
      now = set files.pages page.0 (released piece (page_at files.pages page.0))

      go : (b : Bool) → (page.0 == number) ≡ b → AllByRecursion (Paged_left P (Paged piece page off len)) (pieces_at now number)
      go true at =
          subst (λ (list : List Held). AllByRecursion (Paged_left P (Paged piece page off len)) list)
          (sym (subst (λ (k : ℕ). pieces_at (set files.pages k (released piece (page_at files.pages k))) number ≡ without piece (pieces_at files.pages number))
          (sym (eqb-true page.0 number at)) (at_same files.pages number piece)))
          (all_as (λ (held : Held). P held × (not (nat_eq piece.0 held.piece.0) ≡ true)) (Paged_left P (Paged piece page off len))
          (λ held is. (is.0, both (piece.0 == held.piece.0) (page.0 == number) (untrue (piece.0 == held.piece.0) is.1)))
          (without piece (pieces_at files.pages number))
          (filtered P (λ (held : Held). not (nat_eq piece.0 held.piece.0)) (pieces_at files.pages number) all))
      go false at =
          subst (λ (list : List Held). AllByRecursion (Paged_left P (Paged piece page off len)) list)
          (sym (at_another files.pages page.0 number (released piece (page_at files.pages page.0)) at))
          (all_as P (Paged_left P (Paged piece page off len)) (λ held is. (is, second (piece.0 == held.piece.0) (page.0 == number) at))
          (pieces_at files.pages number) all)

  page_fold : (freed : List Item) (P : Held → Type 0) (files : Files) → AllByRecursion P (pieces_at files.pages number)
      → AllByRecursion (λ (held : Held). P held × (list_any (is_paged_in number held.piece.0) freed ≡ false))
      (pieces_at (fold let_go_by files freed).pages number)
  page_fold [] P files all =
      all_as P (λ (held : Held). P held × (false ≡ false)) (λ held is. (is, refl)) (pieces_at files.pages number) all
  page_fold (item ∷ freed) P files all =
      all_as (λ (held : Held). Paged_left P item held × (list_any (is_paged_in number held.piece.0) freed ≡ false))
      (λ (held : Held). P held × (list_any (is_paged_in number held.piece.0) (item ∷ freed) ≡ false))
      (λ held is. (is.0.0, either (is_paged_in number held.piece.0 item) (list_any (is_paged_in number held.piece.0) freed) is.0.1 is.1))
      (pieces_at (fold let_go_by files (item ∷ freed)).pages number)
      (page_fold freed (Paged_left P item) (let_go_by files item) (page_item P item files all))

-- ---- pieces of a job

abbrev Left : {X : Type 0} → (X → ℕ) → (X → Type 0) → Item → X → Type 0
Left number P item x = P x × (is_of (number x) item ≡ false)

job_out : (P : Held → Type 0) (piece : PieceNo) (item : Item) → piece_of_item item ≡ Some piece.0 → (job : Option Job) → AllByRecursion P (left_of job)
    → AllByRecursion (Left (λ (held : Held). held.piece.0) P item) (left_of (option_map (struck piece) job))
job_out P piece item is None all = tt
job_out P piece item is (Some job) all =
    all_as (λ (held : Held). P held × (not (nat_eq piece.0 held.piece.0) ≡ true)) (Left (λ (held : Held). held.piece.0) P item)
    (λ held one. (one.0, ap (is_number held.piece.0) is ∙ untrue (piece.0 == held.piece.0) one.1)) (without piece job.pieces)
    (filtered P (λ (held : Held). not (nat_eq piece.0 held.piece.0)) job.pieces all)

job_item : (P : Held → Type 0) (item : Item) (files : Files) → AllByRecursion P (left_of files.job)
    → AllByRecursion (Left (λ (held : Held). held.piece.0) P item) (left_of (let_go_by files item).job)
job_item P (Memory piece bytes) files all = job_out P piece (Memory piece bytes) refl files.job all
job_item P (Paged piece page off len) files all = job_out P piece (Paged piece page off len) refl files.job all
job_item P (Reserved piece len) files all = job_out P piece (Reserved piece len) refl files.job all
job_item P (File name stamp off len) files all =
    all_as P (Left (λ (held : Held). held.piece.0) P (File name stamp off len)) (λ held is. (is, refl)) (left_of files.job) all
job_item P (Range slot off len) files all =
    all_as P (Left (λ (held : Held). held.piece.0) P (Range slot off len)) (λ held is. (is, refl)) (left_of files.job) all

job_fold : (freed : List Item) (P : Held → Type 0) (files : Files) → AllByRecursion P (left_of files.job)
    → AllByRecursion (λ (held : Held). P held × (list_any (is_of held.piece.0) freed ≡ false)) (left_of (fold let_go_by files freed).job)
job_fold [] P files all = all_as P (λ (held : Held). P held × (false ≡ false)) (λ held is. (is, refl)) (left_of files.job) all
job_fold (item ∷ freed) P files all =
    all_as (λ (held : Held). Left (λ (one : Held). one.piece.0) P item held × (list_any (is_of held.piece.0) freed ≡ false))
    (λ (held : Held). P held × (list_any (is_of held.piece.0) (item ∷ freed) ≡ false))
    (λ held is. (is.0.0, either (is_of held.piece.0 item) (list_any (is_of held.piece.0) freed) is.0.1 is.1))
    (left_of (fold let_go_by files (item ∷ freed)).job)
    (job_fold freed (Left (λ (one : Held). one.piece.0) P item) (let_go_by files item) (job_item P item files all))

-- ---- pieces in the order of use

use_out : (P : ℕ × ℕ → Type 0) (piece : PieceNo) (item : Item) → piece_of_item item ≡ Some piece.0 → (order : List (ℕ × ℕ)) → AllByRecursion P order
    → AllByRecursion (Left (λ (used : ℕ × ℕ). used.0) P item) (unused piece.0 order)
use_out P piece item is order all =
    all_as (λ (used : ℕ × ℕ). P used × (not (nat_eq piece.0 used.0) ≡ true)) (Left (λ (used : ℕ × ℕ). used.0) P item)
    (λ used one. (one.0, ap (is_number used.0) is ∙ untrue (piece.0 == used.0) one.1)) (unused piece.0 order)
    (filtered P (λ (used : ℕ × ℕ). not (nat_eq piece.0 used.0)) order all)

use_item : (P : ℕ × ℕ → Type 0) (item : Item) (order : List (ℕ × ℕ)) → AllByRecursion P order
    → AllByRecursion (Left (λ (used : ℕ × ℕ). used.0) P item) (left_by order item)
use_item P (Memory piece bytes) order all = use_out P piece (Memory piece bytes) refl order all
use_item P (Paged piece page off len) order all = use_out P piece (Paged piece page off len) refl order all
use_item P (Reserved piece len) order all = use_out P piece (Reserved piece len) refl order all
use_item P (File name stamp off len) order all =
    all_as P (Left (λ (used : ℕ × ℕ). used.0) P (File name stamp off len)) (λ used is. (is, refl)) order all
use_item P (Range slot off len) order all = all_as P (Left (λ (used : ℕ × ℕ). used.0) P (Range slot off len)) (λ used is. (is, refl)) order all

use_fold : (freed : List Item) (P : ℕ × ℕ → Type 0) (order : List (ℕ × ℕ)) → AllByRecursion P order
    → AllByRecursion (λ (used : ℕ × ℕ). P used × (list_any (is_of used.0) freed ≡ false)) (fold left_by order freed)
use_fold [] P order all = all_as P (λ (used : ℕ × ℕ). P used × (false ≡ false)) (λ used is. (is, refl)) order all
use_fold (item ∷ freed) P order all =
    all_as (λ (used : ℕ × ℕ). Left (λ (one : ℕ × ℕ). one.0) P item used × (list_any (is_of used.0) freed ≡ false))
    (λ (used : ℕ × ℕ). P used × (list_any (is_of used.0) (item ∷ freed) ≡ false))
    (λ used is. (is.0.0, either (is_of used.0 item) (list_any (is_of used.0) freed) is.0.1 is.1)) (fold left_by order (item ∷ freed))
    (use_fold freed (Left (λ (one : ℕ × ℕ). one.0) P item) (left_by order item) (use_item P item order all))

-- ---- a piece that stays keeps its place in its page file

module _ (piece : ℕ) (test : Held → Bool) (own : (held : Held) → test held ≡ true → held.piece.0 ≡ piece) (page : ℕ) where
  stays_without : (other : PieceNo) (list : List Held) → (other.0 == piece) ≡ false → list_any test list ≡ true → list_any test (without other list) ≡ true
  stays_without other [] apart e = e
  stays_without other (held ∷ list) apart e = go (test held) refl (not (nat_eq other.0 held.piece.0)) refl (stays_without other list apart)
    where
      go : (a : Bool) → test held ≡ a → (b : Bool) → not (nat_eq other.0 held.piece.0) ≡ b
          → (list_any test list ≡ true → list_any test (without other list) ≡ true)
          → list_any test (cond b (held ∷ without other list) (without other list)) ≡ true
      go true at true is rest = ap (λ (c : Bool). c || list_any test (without other list)) at
      go true at false is rest =
          let same : (other.0 == held.piece.0) ≡ false = ap (λ (n : ℕ). other.0 == n) (own held at) ∙ apart in
          absurd (false_true (sym is ∙ ap not same))
      go false at true is rest =
          ap (λ (c : Bool). c || list_any test (without other list)) at ∙ rest (sym (ap (λ (c : Bool). c || list_any test list) at) ∙ e)
      go false at false is rest = rest (sym (ap (λ (c : Bool). c || list_any test list) at) ∙ e)

  stays_item : (item : Item) (files : Files) → is_of piece item ≡ false → list_any test (pieces_at files.pages page) ≡ true
      → list_any test (pieces_at (let_go_by files item).pages page) ≡ true
  stays_item (Memory other bytes) files apart e = e
  stays_item (Reserved other len) files apart e = e
  stays_item (File name stamp off len) files apart e = e
  stays_item (Range slot off len) files apart e = e
  stays_item (Paged other at off len) files apart e = go (at.0 == page) refl
    where
      go : (b : Bool) → (at.0 == page) ≡ b → list_any test (pieces_at (set files.pages at.0 (released other (page_at files.pages at.0))) page) ≡ true
      go true is =
          ap (list_any test)
          (subst (λ (k : ℕ). pieces_at (set files.pages k (released other (page_at files.pages k))) page ≡ without other (pieces_at files.pages page))
          (sym (eqb-true at.0 page is)) (at_same files.pages page other)) ∙ stays_without other (pieces_at files.pages page) apart e
      go false is = ap (list_any test) (at_another files.pages at.0 page (released other (page_at files.pages at.0)) is) ∙ e

  stays_fold : (freed : List Item) (files : Files) → list_any (is_of piece) freed ≡ false → list_any test (pieces_at files.pages page) ≡ true
      → list_any test (pieces_at (fold let_go_by files freed).pages page) ≡ true
  stays_fold [] files none e = e
  stays_fold (item ∷ freed) files none e = go (is_of piece item) refl none (λ next rest. stays_fold freed (let_go_by files item) rest next)
    where
      go : (b : Bool) → is_of piece item ≡ b → (b || list_any (is_of piece) freed) ≡ false
          → (list_any test (pieces_at (let_go_by files item).pages page) ≡ true → list_any (is_of piece) freed ≡ false
          → list_any test (pieces_at (fold let_go_by files (item ∷ freed)).pages page) ≡ true)
          → list_any test (pieces_at (fold let_go_by files (item ∷ freed)).pages page) ≡ true
      go true at none more = absurd (false_true (sym none))
      go false at none more = more (stays_item item files at e) none

-- ---- the job moves pieces out of the same page file

source_struck : (piece : PieceNo) (job : Option Job) → source_of (option_map (struck piece) job) ≡ source_of job
source_struck piece None = refl
source_struck piece (Some job) = refl

source_item : (item : Item) (files : Files) → source_of (let_go_by files item).job ≡ source_of files.job
source_item (Memory piece bytes) files = source_struck piece files.job
source_item (Paged piece page off len) files = source_struck piece files.job
source_item (Reserved piece len) files = source_struck piece files.job
source_item (File name stamp off len) files = refl
source_item (Range slot off len) files = refl

source_kept : (freed : List Item) (files : Files) → source_of (fold let_go_by files freed).job ≡ source_of files.job
source_kept [] files = refl
source_kept (item ∷ freed) files = source_kept freed (let_go_by files item) ∙ source_item item files

-- ---- items that are left

module _ (homes : List ℕ) (files : Files) (shares later : List (Option Share)) (freed : List Item)
    (items : (slot : ℕ) → IfSome (item_at shares slot) (IsHeld homes files.pages slot)) (goes : AreFreed shares later freed) where
  abbrev now : Files
  now = fold let_go_by files freed

  home_of : (slot number : ℕ) (item : Item) → piece_of_item item ≡ Some number → IsHome homes slot item → slice_get homes number ≡ Some slot
  home_of slot number (Memory piece bytes) is home = let same : piece.0 ≡ number = cc is in ap (slice_get homes) (sym same) ∙ home
  home_of slot number (Paged piece page off len) is home = let same : piece.0 ≡ number = cc is in ap (slice_get homes) (sym same) ∙ home
  home_of slot number (Reserved piece len) is home = let same : piece.0 ≡ number = cc is in ap (slice_get homes) (sym same) ∙ home
  home_of slot number (File name stamp off len) is home = absurd (cc is)
  home_of slot number (Range handle off len) is home = absurd (cc is)

  pub home_at : (slot number : ℕ) → piece_at shares slot ≡ Some number → slice_get homes number ≡ Some slot
  home_at slot number is = by (item_at shares slot) is (items slot)
    where
      by : (o : Option Item) → piece_by o ≡ Some number → IfSome o (IsHeld homes files.pages slot) → slice_get homes number ≡ Some slot
      by None is held = absurd (cc is)
      by (Some item) is held = home_of slot number item is held.home

  pub apart : AreOnePerPiece shares
  apart one other number is also = let same : Some one ≡ Some other = sym (home_at one number is) ∙ home_at other number also in cc same

  back : (slot number : ℕ) → piece_at later slot ≡ Some number → piece_at shares slot ≡ Some number
  back slot number e = go (item_at later slot) (goes.still slot) e
    where
      go : (o : Option Item) → IfSome o (λ (item : Item). item_at shares slot ≡ Some item) → piece_by o ≡ Some number → piece_at shares slot ≡ Some number
      go None is e = absurd (cc e)
      go (Some item) is e = ap piece_by is ∙ e

  -- an item of a piece that is held still is where it was
  pub where_it_was : (slot number : ℕ) (item : Item) → item_at shares slot ≡ Some item → piece_of_item item ≡ Some number
      → holds_piece later number ≡ true → item_at later slot ≡ Some item
  where_it_was slot number item at is held =
      let found = slot_of number later held in
      let same : found.0 ≡ slot = apart found.0 slot number (back found.0 number found.1) (ap piece_by at ∙ is) in
      by (item_at later slot) (subst (λ (k : ℕ). piece_at later k ≡ Some number) same found.1) (goes.still slot)
    where
      by : (o : Option Item) → piece_by o ≡ Some number → IfSome o (λ (one : Item). item_at shares slot ≡ Some one) → o ≡ Some item
      by None e still = absurd (cc e)
      by (Some one) e still = sym still ∙ at

  held_there : (slot number : ℕ) (item : Item) → item_at shares slot ≡ Some item → piece_of_item item ≡ Some number → holds_piece shares number ≡ true
  held_there slot number item at is =
      at_slot number slot shares (ap (is_number number) (ap piece_by at ∙ is) ∙ eq-eqb number number refl)

  still_held : (slot number : ℕ) (item : Item) → item_at shares slot ≡ Some item → piece_of_item item ≡ Some number → list_any (is_of number) freed ≡ false
      → holds_piece later number ≡ true
  still_held slot number item at is none =
      holds_any number later ∙ sym (left_in (is_of number) number (number_of_piece number) shares later freed apart goes)
      ∙ (λ i. (sym (holds_any number shares) ∙ held_there slot number item at is) i && not (none i))

  no_freed : (number : ℕ) → holds_piece later number ≡ true → list_any (is_of number) freed ≡ false
  no_freed number held = by (list_any (is_of number) freed) refl
    where
      nothing : (a : Bool) → (a && not true) ≡ false
      nothing true = refl
      nothing false = refl

      by : (b : Bool) → list_any (is_of number) freed ≡ b → list_any (is_of number) freed ≡ false
      by false at = at
      by true at = absurd (false_true
          (sym (nothing (any_in (is_of number) shares)) ∙ ap (λ (b : Bool). any_in (is_of number) shares && not b) (sym at)
          ∙ left_in (is_of number) number (number_of_piece number) shares later freed apart goes ∙ sym (holds_any number later) ∙ held))

  -- no piece comes that wasn't held
  pub unheld_still : (number : ℕ) → holds_piece shares number ≡ false → holds_piece later number ≡ false
  unheld_still number none = by (holds_piece later number) refl
    where
      by : (b : Bool) → holds_piece later number ≡ b → holds_piece later number ≡ false
      by false at = at
      by true at =
          let found = slot_of number later at in
          absurd (false_true (sym none
          ∙ at_slot number found.0 shares (ap (is_number number) (back found.0 number found.1) ∙ eq-eqb number number refl)))

  pub ranges_left : ((k : ℕ) → weights (range_weight k) shares ≤ 1) → (k : ℕ) → weights (range_weight k) later ≤ 1
  ranges_left few k = let sum = goes.weighs (range_weight k) in let all = few k in omega (arith, sum, all)

  listed_left : (slot : ℕ) (item : Item) → item_at later slot ≡ Some item → IsListed files.pages slot item → IsListed now.pages slot item
  listed_left slot (Memory piece bytes) at is = tt
  listed_left slot (Reserved piece len) at is = tt
  listed_left slot (File name stamp off len) at is = tt
  listed_left slot (Range handle off len) at is = is
  listed_left slot (Paged piece page off len) at is = (
    is.0,
    stays_fold piece.0
        (λ (held : Held). (held.piece.0 == piece.0) && (held.slot == slot) && (held.off == off) && (held.len == len))
        (λ held e. eqb-true held.piece.0 piece.0 (first (held.piece.0 == piece.0) (held.slot == slot) (held.off == off) (held.len == len) e)) page.0 freed files
        (no_freed piece.0 (at_slot piece.0 slot later (ap (is_number piece.0) (ap piece_by at) ∙ eq-eqb piece.0 piece.0 refl))) is.1,
  )
    where
      first : (a b c d : Bool) → (a && b && c && d) ≡ true → a ≡ true
      first true b c d e = refl
      first false false c d e = absurd (false_true e)
      first false true c d e = absurd (false_true e)

  pub items_left : (slot : ℕ) → IfSome (item_at later slot) (IsHeld homes now.pages slot)
  items_left slot = by (item_at later slot) refl (goes.still slot)
    where
      by : (o : Option Item) → item_at later slot ≡ o → IfSome o (λ (item : Item). item_at shares slot ≡ Some item)
          → IfSome o (IsHeld homes now.pages slot)
      by None at still = tt
      by (Some item) at still =
          let was = subst (λ (held : Option Item). IfSome held (IsHeld homes files.pages slot)) still (items slot) in
          record { home = was.home; listed = listed_left slot item at was.listed }

  -- an item of a piece in a page file stays there
  paged_stays : (number : ℕ) (held : Held) → item_at shares held.slot ≡ Some (Paged held.piece (page_no number) held.off held.len)
      → list_any (is_paged_in number held.piece.0) freed ≡ false → item_at later held.slot ≡ Some (Paged held.piece (page_no number) held.off held.len)
  paged_stays number held is none =
      where_it_was held.slot held.piece.0 (Paged held.piece (page_no number) held.off held.len) is refl
      (paged_held number held.piece.0 later
      (sym (left_in (is_paged_in number held.piece.0) held.piece.0 (paged_piece number held.piece.0) shares later freed apart goes)
      ∙ (λ i. paged_there shares held.slot is i && not (none i))))
    where
      paged_there : (list : List (Option Share)) (slot : ℕ) → item_at list slot ≡ Some (Paged held.piece (page_no number) held.off held.len)
          → any_in (is_paged_in number held.piece.0) list ≡ true
      paged_there [] slot e = absurd (cc e)
      paged_there (None ∷ list) zero e = absurd (cc e)
      paged_there (None ∷ list) (suc slot) e = paged_there list slot e
      paged_there (Some share ∷ list) zero e =
          let same : share.item ≡ Paged held.piece (page_no number) held.off held.len = cc e in
          ap (λ (b : Bool). b || any_in (is_paged_in number held.piece.0) list)
          (ap (is_paged_in number held.piece.0) same
          ∙ (λ i. eq-eqb held.piece.0 held.piece.0 refl i && eq-eqb number number refl i))
      paged_there (Some share ∷ list) (suc slot) e =
          later_on (is_paged_in number held.piece.0 share.item) (any_in (is_paged_in number held.piece.0) list) (paged_there list slot e)
        where
          later_on : (a b : Bool) → b ≡ true → (a || b) ≡ true
          later_on true b e = refl
          later_on false b e = e

  pub pages_left : ((number : ℕ) → AllByRecursion (IsPagedIn (page_no number) shares) (pieces_at files.pages number))
      → (number : ℕ) → AllByRecursion (IsPagedIn (page_no number) later) (pieces_at now.pages number)
  pages_left are number =
      all_as (λ (held : Held). IsPagedIn (page_no number) shares held × (list_any (is_paged_in number held.piece.0) freed ≡ false))
      (IsPagedIn (page_no number) later) (λ held is. one held is.0 is.1) (pieces_at now.pages number)
      (page_fold number freed (IsPagedIn (page_no number) shares) files (are number))
    where
      one : (held : Held) → IsPagedIn (page_no number) shares held → list_any (is_paged_in number held.piece.0) freed ≡ false
          → IsPagedIn (page_no number) later held
      one held is none = by (item_at shares held.slot) refl is
        where
          by : (o : Option Item) → item_at shares held.slot ≡ o → IsSomeAnd o (IsPagedOf (page_no number) held)
              → IsSomeAnd (item_at later held.slot) (IsPagedOf (page_no number) held)
          by None at is = absurd is
          by (Some (Memory piece bytes)) at is = absurd is
          by (Some (Reserved piece len)) at is = absurd is
          by (Some (File name stamp off len)) at is = absurd is
          by (Some (Range slot off len)) at is = absurd is
          by (Some (Paged piece page off len)) at is =
              let same : Paged piece page off len ≡ Paged held.piece (page_no number) held.off held.len =
              λ i. Paged (is.0 i) (is.1 i) (is.2 i) (is.3 i) in
              subst (λ (o : Option Item). IsSomeAnd o (IsPagedOf (page_no number) held)) (sym (paged_stays number held (at ∙ ap Some same) none))
              (refl, refl, refl, refl)

  -- what an item of a piece that didn't go was, it is still
  stays_there : (held : Held) (Q : Item → Type 0) → ((item : Item) → Q item → piece_of_item item ≡ Some held.piece.0)
      → IsSomeAnd (item_at shares held.slot) Q → list_any (is_of held.piece.0) freed ≡ false → IsSomeAnd (item_at later held.slot) Q
  stays_there held Q of is none = by (item_at shares held.slot) refl is
    where
      by : (o : Option Item) → item_at shares held.slot ≡ o → IsSomeAnd o Q → IsSomeAnd (item_at later held.slot) Q
      by None at is = absurd is
      by (Some item) at is =
          subst (λ (o : Option Item). IsSomeAnd o Q)
          (sym (where_it_was held.slot held.piece.0 item at (of item is) (still_held held.slot held.piece.0 item at (of item is) none))) is

  memory_of : (held : Held) (item : Item) → IsMemoryOf held item → piece_of_item item ≡ Some held.piece.0
  memory_of held (Memory piece bytes) is = ap (λ (one : PieceNo). Some one.0) is.0
  memory_of held (Paged piece page off len) is = absurd is
  memory_of held (Reserved piece len) is = absurd is
  memory_of held (File name stamp off len) is = absurd is
  memory_of held (Range slot off len) is = absurd is

  paged_of : (page : PageNo) (held : Held) (item : Item) → IsPagedOf page held item → piece_of_item item ≡ Some held.piece.0
  paged_of page held (Paged piece one off len) is = ap (λ (each : PieceNo). Some each.0) is.0
  paged_of page held (Memory piece bytes) is = absurd is
  paged_of page held (Reserved piece len) is = absurd is
  paged_of page held (File name stamp off len) is = absurd is
  paged_of page held (Range slot off len) is = absurd is

  pub job_left : AllByRecursion (IsOfJob shares (source_of files.job)) (left_of files.job)
      → AllByRecursion (IsOfJob later (source_of now.job)) (left_of now.job)
  job_left are =
      subst (λ (source : Option PageNo). AllByRecursion (IsOfJob later source) (left_of now.job)) (sym (source_kept freed files))
      (all_as (λ (held : Held). IsOfJob shares (source_of files.job) held × (list_any (is_of held.piece.0) freed ≡ false))
      (IsOfJob later (source_of files.job)) (λ held is. one (source_of files.job) held is.0 is.1)
      (left_of now.job) (job_fold freed (IsOfJob shares (source_of files.job)) files are))
    where
      one : (source : Option PageNo) (held : Held) → IsOfJob shares source held → list_any (is_of held.piece.0) freed ≡ false → IsOfJob later source held
      one None held is none = stays_there held (IsMemoryOf held) (memory_of held) is none
      one (Some page) held is none = stays_there held (IsPagedOf page held) (paged_of page held) is none

  memory_piece : (used : ℕ × ℕ) (item : Item) → IsMemory used item → piece_of_item item ≡ Some used.0
  memory_piece used (Memory piece bytes) is = ap Some is.0
  memory_piece used (Paged piece page off len) is = absurd is
  memory_piece used (Reserved piece len) is = absurd is
  memory_piece used (File name stamp off len) is = absurd is
  memory_piece used (Range handle off len) is = absurd is

  pub order_left : (order : List (ℕ × ℕ)) → AllByRecursion (IsInMemory shares homes) order
      → AllByRecursion (IsInMemory later homes) (fold left_by order freed)
  order_left order are =
      all_as (λ (used : ℕ × ℕ). IsInMemory shares homes used × (list_any (is_of used.0) freed ≡ false)) (IsInMemory later homes)
      (λ used is. one used is.0 is.1) (fold left_by order freed) (use_fold freed (IsInMemory shares homes) order are)
    where
      one : (used : ℕ × ℕ) → IsInMemory shares homes used → list_any (is_of used.0) freed ≡ false → IsInMemory later homes used
      one used is none = by (slice_get homes used.0) is
        where
          by : (home : Option ℕ) → IsSomeAnd home (λ (slot : ℕ). IsSomeAnd (item_at shares slot) (IsMemory used))
              → IsSomeAnd home (λ (slot : ℕ). IsSomeAnd (item_at later slot) (IsMemory used))
          by None is = is
          by (Some slot) is = go (item_at shares slot) refl is
            where
              go : (o : Option Item) → item_at shares slot ≡ o → IsSomeAnd o (IsMemory used) → IsSomeAnd (item_at later slot) (IsMemory used)
              go None at is = absurd is
              go (Some item) at is =
                  let piece = memory_piece used item is in
                  subst (λ (held : Option Item). IsSomeAnd held (IsMemory used))
                  (sym (where_it_was slot used.0 item at piece (still_held slot used.0 item at piece none))) is
