-- Page files stand for the items that are left when some go.
use Rattle.std.proofs.Common.{◌≡◌, ℕ, zero, suc, ◌+◌, ◌-◌, ◌<◌, ◌≤◌, ◌==◌, ◌&&◌, ◌||◌, not, Bool, true, false, cond, List, [], ◌∷◌, map, set, refl, ap, subst, sym, ◌∙◌, Option, Some, None, arith}
use Rattle.std.specs.Prelude.{filter, fold, nat_eq, sum_by, IfSome}
use Rattle.std.specs.Option.{option_map, option_map_or}
use Rattle.std.specs.List.{AllByRecursion, list_any}
use Rattle.std.proofs.lemmas.Bool.{and_parts, eq-eqb, eqb-true, ne_eqb}
use Rattle.std.proofs.lemmas.List.Sums.{sum_by-cons}
use Rattle.item_shares.specs.Shares.{item_at}
use Rattle.item_shares.specs.Weights.{held_weight, weights}
use Rattle.item_shares.specs.declared.item.Item.{Item}
use Rattle.item_shares.specs.declared.item.Item.TheVariants.{Memory, Paged, Reserved, File, Range}
use Rattle.item_shares.specs.declared.shares.Share.{Share}
use Rattle.blob_words.specs.declared.number.PieceNo.{PieceNo}
use Rattle.page_files.specs.declared.held.Held.{Held}
use Rattle.page_files.specs.declared.job.Job.{Job as FileJob}
use Rattle.page_files.specs.declared.page.Page.{Page}
use Rattle.page_files.specs.declared.page.Page.TheVariants.{Torn, Whole, Asked}
use Rattle.page_files.specs.Files.{Files, left_of, struck}
use Rattle.page_files.specs.Pages.{page_at, pieces_of, released}
use Rattle.page_files.specs.Pieces.{without}
use Rattle.blob_model.specs.Jobs.{Job}
use Rattle.blob_model.specs.Pieces.{Piece, length_in}
use Rattle.blob_model.proofs.Lists.{false_true, or_first, or_second}
use Rattle.model_bridges.specs.Bridges.{job_as}
use Rattle.store_laws.specs.Items.{holds_piece, is_number, piece_at, piece_by, piece_of_item, AreOnePerPiece}
use Rattle.store_laws.specs.LetGo.{let_go_by, AreFreed, PagesLetGo}
use Rattle.store_laws.specs.PageFiles.{IsSlotOf, PageFacts, PagesStand, bare_piece, holds_paged, is_paged_in, placed_from, sheet, sheet_of, sheets_from, torn, whole, gone, with_held}
use Rattle.store_laws.specs.Weights.{reserved_weight}
use Rattle.store_laws.proofs.HeldCounts.{slot_of}

-- ---- tests that pass no more

-- whether an item is of a piece
abbrev pub is_of : ℕ → Item → Bool
is_of number item = is_number number (piece_of_item item)

-- a test on page files and pieces without what an item is
abbrev Test : Type 0
Test = ℕ → ℕ → Bool

abbrev but : Item → Test → Test
but item test page number = test page number && not (is_paged_in page number item)

abbrev but_all : List Item → Test → Test
but_all freed test page number = test page number && not (list_any (is_paged_in page number) freed)

pub and_true : (b : Bool) → (b && true) ≡ b
and_true true = refl
and_true false = refl

pub and_more : (a b c : Bool) → ((a && not b) && not c) ≡ (a && not (b || c))
and_more true true c = refl
and_more true false c = refl
and_more false b c = refl

-- ---- sheets of page files

module _ (all : List Piece) where
  placed_same : (p q : ℕ → Bool) → ((number : ℕ) → p number ≡ q number) → (off : ℕ) (list : List ℕ) → placed_from all p off list ≡ placed_from all q off list
  placed_same p q same off [] = refl
  placed_same p q same off (number ∷ more) =
      λ i. cond (same number i) ((number, off, length_in all number) ∷ placed_same p q same (off + length_in all number) more i)
      (placed_same p q same (off + length_in all number) more i)

  pub sheet_same : (p q : Test) (asked : List ℕ) (number : ℕ) (one : Option (List ℕ)) → ((piece : ℕ) → p number piece ≡ q number piece)
      → sheet_of all p asked number one ≡ sheet_of all q asked number one
  sheet_same p q asked number None same = refl
  sheet_same p q asked number (Some list) same =
      ap (λ (held : List (ℕ × ℕ × ℕ)). cond (list_any (λ (each : ℕ). each == number) asked) gone (whole (sum_by (length_in all) list) held))
      (placed_same (p number) (q number) same 0 list)

  sheets_same : (p q : Test) (asked : List ℕ) (number : ℕ) (written : List (Option (List ℕ)))
      → ((page piece : ℕ) → number ≤ page → p page piece ≡ q page piece) → sheets_from all p asked number written ≡ sheets_from all q asked number written
  sheets_same p q asked number [] same = refl
  sheets_same p q asked number (one ∷ more) same =
      λ i. sheet_same p q asked number one (λ piece. same number piece (omega arith)) i
      ∷ sheets_same p q asked (number + 1) more (λ page piece above. same page piece (omega (arith, above))) i

  -- the pieces of a page file without one
  placed_without : (p : ℕ → Bool) (piece off : ℕ) (list : List ℕ)
      → filter (λ (one : ℕ × ℕ × ℕ). not (nat_eq piece one.0)) (placed_from all p off list)
      ≡ placed_from all (λ (number : ℕ). p number && not (piece == number)) off list
  placed_without p piece off [] = refl
  placed_without p piece off (number ∷ more) =
      go (p number) (placed_from all p (off + length_in all number) more)
      (placed_from all (λ (other : ℕ). p other && not (piece == other)) (off + length_in all number) more)
      (placed_without p piece (off + length_in all number) more)
    where
      go : (b : Bool) (later left : List (ℕ × ℕ × ℕ)) → filter (λ (one : ℕ × ℕ × ℕ). not (nat_eq piece one.0)) later ≡ left
          → filter (λ (one : ℕ × ℕ × ℕ). not (nat_eq piece one.0)) (cond b ((number, off, length_in all number) ∷ later) later)
          ≡ cond (b && not (piece == number)) ((number, off, length_in all number) ∷ left) left
      go true later left rest = ap (λ (list : List (ℕ × ℕ × ℕ)). cond (not (piece == number)) ((number, off, length_in all number) ∷ list) list) rest
      go false later left rest = rest

  placed_all : (p : ℕ → Bool) (off : ℕ) (list : List ℕ) → AllByRecursion (λ (one : ℕ × ℕ × ℕ). p one.0 ≡ true) (placed_from all p off list)
  placed_all p off [] = tt
  placed_all p off (number ∷ more) = go (p number) refl (placed_all p (off + length_in all number) more)
    where
      go : (b : Bool) → p number ≡ b → AllByRecursion (λ (one : ℕ × ℕ × ℕ). p one.0 ≡ true) (placed_from all p (off + length_in all number) more)
          → AllByRecursion (λ (one : ℕ × ℕ × ℕ). p one.0 ≡ true)
          (cond b ((number, off, length_in all number) ∷ placed_from all p (off + length_in all number) more)
          (placed_from all p (off + length_in all number) more))
      go true at rest = (at, rest)
      go false at rest = rest

bare_without : (piece : PieceNo) (pieces : List Held)
    → map bare_piece (without piece pieces) ≡ filter (λ (one : ℕ × ℕ × ℕ). not (nat_eq piece.0 one.0)) (map bare_piece pieces)
bare_without piece [] = refl
bare_without piece (held ∷ pieces) = go (not (nat_eq piece.0 held.piece.0)) (bare_without piece pieces)
  where
    go : (b : Bool) → map bare_piece (without piece pieces) ≡ filter (λ (one : ℕ × ℕ × ℕ). not (nat_eq piece.0 one.0)) (map bare_piece pieces)
        → map bare_piece (cond b (held ∷ without piece pieces) (without piece pieces))
        ≡ cond b (bare_piece held ∷ filter (λ (one : ℕ × ℕ × ℕ). not (nat_eq piece.0 one.0)) (map bare_piece pieces))
        (filter (λ (one : ℕ × ℕ × ℕ). not (nat_eq piece.0 one.0)) (map bare_piece pieces))
    go true rest = ap (λ (list : List (ℕ × ℕ × ℕ)). bare_piece held ∷ list) rest
    go false rest = rest

module _ (all : List Piece) (piece : PieceNo) where
  -- the sheet of a page file without the piece
  sheet_out : (p : Test) (asked : List ℕ) (number : ℕ) (page : Page) (one : Option (List ℕ)) → sheet page ≡ sheet_of all p asked number one
      → sheet (released piece page) ≡ sheet_of all (λ (k n : ℕ). p k n && not (piece.0 == n)) asked number one
  sheet_out p asked number Torn None e = refl
  sheet_out p asked number Torn (Some list) e = go (list_any (λ (each : ℕ). each == number) asked) e
    where
      go : (b : Bool) → torn ≡ cond b gone (whole (sum_by (length_in all) list) (placed_from all (p number) 0 list))
          → torn ≡ cond b gone (whole (sum_by (length_in all) list) (placed_from all (λ (n : ℕ). p number n && not (piece.0 == n)) 0 list))
      go true e = e
      go false e = absurd (cc e)
  sheet_out p asked number Asked None e = absurd (cc e)
  sheet_out p asked number Asked (Some list) e = go (list_any (λ (each : ℕ). each == number) asked) e
    where
      go : (b : Bool) → gone ≡ cond b gone (whole (sum_by (length_in all) list) (placed_from all (p number) 0 list))
          → gone ≡ cond b gone (whole (sum_by (length_in all) list) (placed_from all (λ (n : ℕ). p number n && not (piece.0 == n)) 0 list))
      go true e = e
      go false e = absurd (cc e)
  sheet_out p asked number (Whole size pieces) None e = absurd (cc e)
  sheet_out p asked number (Whole size pieces) (Some list) e = go (list_any (λ (each : ℕ). each == number) asked) e
    where
      go : (b : Bool) → whole size (map bare_piece pieces) ≡ cond b gone (whole (sum_by (length_in all) list) (placed_from all (p number) 0 list))
          → whole size (map bare_piece (without piece pieces))
          ≡ cond b gone (whole (sum_by (length_in all) list) (placed_from all (λ (n : ℕ). p number n && not (piece.0 == n)) 0 list))
      go true e = absurd (cc e)
      go false e =
          let sizes : size ≡ sum_by (length_in all) list = cc e in
          let held : map bare_piece pieces ≡ placed_from all (p number) 0 list = cc e in
          let left =
          bare_without piece pieces ∙ ap (filter (λ (one : ℕ × ℕ × ℕ). not (nat_eq piece.0 one.0))) held
          ∙ placed_without all (p number) piece.0 0 list in
          λ i. whole (sizes i) (left i)

  abbrev out : ℕ → Test → Test
  out at p k n = p k n && not ((piece.0 == n) && (at == k))

  here : (p : Test) (at k n : ℕ) → at ≡ k → (p k n && not (piece.0 == n)) ≡ out at p k n
  here p at k n same = ap (λ (b : Bool). p k n && not b) (sym (ap (λ (b : Bool). (piece.0 == n) && b) (eq-eqb at k same) ∙ and_true (piece.0 == n)))

  apart : (p : Test) (at k n : ℕ) → (at == k) ≡ false → p k n ≡ out at p k n
  apart p at k n other = sym (ap (λ (b : Bool). p k n && not ((piece.0 == n) && b)) other ∙ nothing (p k n) (piece.0 == n))
    where
      nothing : (a b : Bool) → (a && not (b && false)) ≡ a
      nothing true true = refl
      nothing true false = refl
      nothing false b = refl

  sheets_out : (p : Test) (asked : List ℕ) (m i at : ℕ) (pages : List Page) (written : List (Option (List ℕ))) → at ≡ m + i
      → map sheet pages ≡ sheets_from all p asked m written
      → map sheet (set pages i (released piece (page_at pages i))) ≡ sheets_from all (out at p) asked m written
  sheets_out p asked m i at [] [] is e = refl
  sheets_out p asked m i at [] (one ∷ written) is e = absurd (cc e)
  sheets_out p asked m i at (page ∷ pages) [] is e = absurd (cc e)
  sheets_out p asked m zero at (page ∷ pages) (one ∷ written) is e =
      let first : sheet page ≡ sheet_of all p asked m one = cc e in
      let rest : map sheet pages ≡ sheets_from all p asked (m + 1) written = cc e in
      let same : at ≡ m = omega (arith, is) in
      let head =
      sheet_out p asked m page one first
      ∙ sheet_same all (λ (k n : ℕ). p k n && not (piece.0 == n)) (out at p) asked m one (λ n. here p at m n same) in
      let tail =
      rest
      ∙ sheets_same all p (out at p) asked (m + 1) written (λ k n above. apart p at k n (ne_eqb at k (λ equal. omega (arith, equal, same, above)))) in
      λ j. head j ∷ tail j
  sheets_out p asked m (suc i) at (page ∷ pages) (one ∷ written) is e =
      let first : sheet page ≡ sheet_of all p asked m one = cc e in
      let rest : map sheet pages ≡ sheets_from all p asked (m + 1) written = cc e in
      let head = first ∙ sheet_same all p (out at p) asked m one (λ n. apart p at m n (ne_eqb at m (λ equal. omega (arith, equal, is)))) in
      let tail = sheets_out p asked (m + 1) i at pages written (omega (arith, is)) rest in
      λ j. head j ∷ tail j

module _ (all : List Piece) (asked : List ℕ) (written : List (Option (List ℕ))) where
  same_but : (p : Test) (item : Item) (files : Files) → ((k n : ℕ) → is_paged_in k n item ≡ false)
      → map sheet files.pages ≡ sheets_from all p asked 0 written → map sheet files.pages ≡ sheets_from all (but item p) asked 0 written
  same_but p item files none e =
      e ∙ sheets_same all p (but item p) asked 0 written
      (λ k n above. sym (ap (λ (b : Bool). p k n && not b) (none k n) ∙ and_true (p k n)))

  sheets_item : (p : Test) (item : Item) (files : Files) → map sheet files.pages ≡ sheets_from all p asked 0 written
      → map sheet (let_go_by files item).pages ≡ sheets_from all (but item p) asked 0 written
  sheets_item p (Memory piece bytes) files e = same_but p (Memory piece bytes) files (λ k n. refl) e
  sheets_item p (Paged piece page off len) files e = sheets_out all piece p asked 0 page.0 page.0 files.pages written (omega arith) e
  sheets_item p (Reserved piece len) files e = same_but p (Reserved piece len) files (λ k n. refl) e
  sheets_item p (File name stamp off len) files e = same_but p (File name stamp off len) files (λ k n. refl) e
  sheets_item p (Range slot off len) files e = same_but p (Range slot off len) files (λ k n. refl) e

  sheets_fold : (freed : List Item) (p : Test) (files : Files) → map sheet files.pages ≡ sheets_from all p asked 0 written
      → map sheet (fold let_go_by files freed).pages ≡ sheets_from all (but_all freed p) asked 0 written
  sheets_fold [] p files e = e ∙ sheets_same all p (but_all [] p) asked 0 written (λ k n above. sym (and_true (p k n)))
  sheets_fold (item ∷ freed) p files e =
      sheets_fold freed (but item p) (let_go_by files item) (sheets_item p item files e)
      ∙ sheets_same all (but_all freed (but item p)) (but_all (item ∷ freed) p) asked 0 written
      (λ k n above. and_more (p k n) (is_paged_in k n item) (list_any (is_paged_in k n) freed))

-- ---- the job in flight

pub filter_same : {X : Type 0} (p q : X → Bool) (list : List X) → ((x : X) → p x ≡ q x) → filter p list ≡ filter q list
filter_same p q [] same = refl
filter_same {X = X} p q (x ∷ list) same = λ i. cond {A = List X} (same x i) (x ∷ filter_same p q list same i) (filter_same p q list same i)

pub filter_twice : {X : Type 0} (p q : X → Bool) (list : List X) → filter q (filter p list) ≡ filter (λ (x : X). p x && q x) list
filter_twice p q [] = refl
filter_twice {X = X} p q (x ∷ list) = go (p x) (filter_twice p q list)
  where
    go : (b : Bool) → filter q (filter p list) ≡ filter (λ (y : X). p y && q y) list
        → filter q (cond {A = List X} b (x ∷ filter p list) (filter p list))
        ≡ cond {A = List X} (b && q x) (x ∷ filter (λ (y : X). p y && q y) list) (filter (λ (y : X). p y && q y) list)
    go true rest = ap (λ (more : List X). cond {A = List X} (q x) (x ∷ more) more) rest
    go false rest = rest

numbers_without : (piece : PieceNo) (pieces : List Held)
    → map (λ (held : Held). held.piece.0) (without piece pieces)
    ≡ filter (λ (n : ℕ). not (piece.0 == n)) (map (λ (held : Held). held.piece.0) pieces)
numbers_without piece [] = refl
numbers_without piece (held ∷ pieces) = go (not (nat_eq piece.0 held.piece.0)) (numbers_without piece pieces)
  where
    go : (b : Bool)
        → map (λ (held : Held). held.piece.0) (without piece pieces)
        ≡ filter (λ (n : ℕ). not (piece.0 == n)) (map (λ (held : Held). held.piece.0) pieces)
        → map (λ (held : Held). held.piece.0) (cond b (held ∷ without piece pieces) (without piece pieces))
        ≡ cond b (held.piece.0 ∷ filter (λ (n : ℕ). not (piece.0 == n)) (map (λ (held : Held). held.piece.0) pieces))
        (filter (λ (n : ℕ). not (piece.0 == n)) (map (λ (held : Held). held.piece.0) pieces))
    go true rest = ap (λ (list : List ℕ). held.piece.0 ∷ list) rest
    go false rest = rest

abbrev but_of : Item → (ℕ → Bool) → ℕ → Bool
but_of item p n = p n && not (is_of n item)

abbrev but_any : List Item → (ℕ → Bool) → ℕ → Bool
but_any freed p n = p n && not (list_any (is_of n) freed)

abbrev IsLeft : Option FileJob → (ℕ → Bool) → Option Job → Type 0
IsLeft job p flying = option_map job_as job ≡ option_map (with_held p) flying

job_struck : (piece : PieceNo) (p : ℕ → Bool) (job : Option FileJob) (flying : Option Job) → IsLeft job p flying
    → IsLeft (option_map (struck piece) job) (λ (n : ℕ). p n && not (piece.0 == n)) flying
job_struck piece p None None e = refl
job_struck piece p None (Some other) e = absurd (cc e)
job_struck piece p (Some job) None e = absurd (cc e)
job_struck piece p (Some job) (Some other) e =
    let same : job_as job ≡ with_held p other = cc e in
    let left =
    numbers_without piece job.pieces ∙ ap (λ (one : Job). filter (λ (n : ℕ). not (piece.0 == n)) one.pieces) same
    ∙ filter_twice p (λ (n : ℕ). not (piece.0 == n)) other.pieces in
    λ i. Some (record (same i) { pieces = left i })

job_same : (p q : ℕ → Bool) (job : Option FileJob) (flying : Option Job) → ((n : ℕ) → p n ≡ q n) → IsLeft job p flying → IsLeft job q flying
job_same p q job None same e = e
job_same p q job (Some other) same e = e ∙ ap (λ (list : List ℕ). Some (record other { pieces = list })) (filter_same p q other.pieces same)

job_item : (p : ℕ → Bool) (item : Item) (files : Files) (flying : Option Job) → IsLeft files.job p flying
    → IsLeft (let_go_by files item).job (but_of item p) flying
job_item p (Memory piece bytes) files flying e = job_struck piece p files.job flying e
job_item p (Paged piece page off len) files flying e = job_struck piece p files.job flying e
job_item p (Reserved piece len) files flying e = job_struck piece p files.job flying e
job_item p (File name stamp off len) files flying e =
    job_same p (but_of (File name stamp off len) p) files.job flying (λ n. sym (and_true (p n))) e
job_item p (Range slot off len) files flying e = job_same p (but_of (Range slot off len) p) files.job flying (λ n. sym (and_true (p n))) e

job_fold : (freed : List Item) (p : ℕ → Bool) (files : Files) (flying : Option Job) → IsLeft files.job p flying
    → IsLeft (fold let_go_by files freed).job (but_any freed p) flying
job_fold [] p files flying e = job_same p (but_any [] p) files.job flying (λ n. sym (and_true (p n))) e
job_fold (item ∷ freed) p files flying e =
    job_same (but_any freed (but_of item p)) (but_any (item ∷ freed) p) (fold let_go_by files (item ∷ freed)).job flying
    (λ n. and_more (p n) (is_of n item) (list_any (is_of n) freed))
    (job_fold freed (but_of item p) (let_go_by files item) flying (job_item p item files flying e))

-- ---- what was there is there, or went

abbrev pub any_in : (Item → Bool) → List (Option Share) → Bool
any_in test shares = list_any (λ (held : Option Share). option_map_or (λ (share : Share). test share.item) held false) shares

abbrev pub one_if : (Item → Bool) → Item → ℕ
one_if test item = cond (test item) 1 0

module _ (test : Item → Bool) where
  pub some_in : (shares : List (Option Share)) → any_in test shares ≡ true → 0 < weights (one_if test) shares
  some_in [] e = absurd (false_true e)
  some_in (None ∷ shares) e =
      let sum = sum_by-cons (held_weight (one_if test)) None shares in let rest = some_in shares e in omega (arith, sum, rest)
  some_in (Some share ∷ shares) e = go (test share.item) refl e (some_in shares)
    where
      go : (b : Bool) → test share.item ≡ b → (b || any_in test shares) ≡ true → (any_in test shares ≡ true → 0 < weights (one_if test) shares)
          → 0 < weights (one_if test) (Some share ∷ shares)
      go true at e rest =
          let sum = sum_by-cons (held_weight (one_if test)) (Some share) shares in
          let own = ap {B = ℕ} (λ (b : Bool). cond b 1 0) at in omega (arith, sum, own)
      go false at e rest =
          let sum = sum_by-cons (held_weight (one_if test)) (Some share) shares in let more = rest e in omega (arith, sum, more)

  pub none_in : (shares : List (Option Share)) → any_in test shares ≡ false → weights (one_if test) shares ≡ 0
  none_in [] e = refl
  none_in (None ∷ shares) e =
      let sum = sum_by-cons (held_weight (one_if test)) None shares in let rest = none_in shares e in omega (arith, sum, rest)
  none_in (Some share ∷ shares) e = go (test share.item) refl e (none_in shares)
    where
      go : (b : Bool) → test share.item ≡ b → (b || any_in test shares) ≡ false → (any_in test shares ≡ false → weights (one_if test) shares ≡ 0)
          → weights (one_if test) (Some share ∷ shares) ≡ 0
      go true at e rest = absurd (false_true (sym e))
      go false at e rest =
          let sum = sum_by-cons (held_weight (one_if test)) (Some share) shares in
          let own = ap {B = ℕ} (λ (b : Bool). cond b 1 0) at in
          let more = rest e in omega (arith, sum, own, more)

  pub some_of : (items : List Item) → list_any test items ≡ true → 0 < sum_by (one_if test) items
  some_of [] e = absurd (false_true e)
  some_of (item ∷ items) e = go (test item) refl e (some_of items)
    where
      go : (b : Bool) → test item ≡ b → (b || list_any test items) ≡ true → (list_any test items ≡ true → 0 < sum_by (one_if test) items)
          → 0 < sum_by (one_if test) (item ∷ items)
      go true at e rest =
          let sum = sum_by-cons (one_if test) item items in let own = ap {B = ℕ} (λ (b : Bool). cond b 1 0) at in omega (arith, sum, own)
      go false at e rest = let sum = sum_by-cons (one_if test) item items in let more = rest e in omega (arith, sum, more)

  pub none_of : (items : List Item) → list_any test items ≡ false → sum_by (one_if test) items ≡ 0
  none_of [] e = refl
  none_of (item ∷ items) e = go (test item) refl e (none_of items)
    where
      go : (b : Bool) → test item ≡ b → (b || list_any test items) ≡ false → (list_any test items ≡ false → sum_by (one_if test) items ≡ 0)
          → sum_by (one_if test) (item ∷ items) ≡ 0
      go true at e rest = absurd (false_true (sym e))
      go false at e rest =
          let sum = sum_by-cons (one_if test) item items in
          let own = ap {B = ℕ} (λ (b : Bool). cond b 1 0) at in
          let more = rest e in omega (arith, sum, own, more)

  module _ (number : ℕ) (of_piece : (item : Item) → test item ≡ true → piece_of_item item ≡ Some number) where
    slot_in : (shares : List (Option Share)) → any_in test shares ≡ true → (k : ℕ) × (piece_at shares k ≡ Some number)
    slot_in [] e = absurd (false_true e)
    slot_in (None ∷ shares) e = let rest = slot_in shares e in (suc rest.0, rest.1)
    slot_in (Some share ∷ shares) e = go (test share.item) refl e (slot_in shares)
      where
        go : (b : Bool) → test share.item ≡ b → (b || any_in test shares) ≡ true
            → (any_in test shares ≡ true → (k : ℕ) × (piece_at shares k ≡ Some number)) → (k : ℕ) × (piece_at (Some share ∷ shares) k ≡ Some number)
        go true at e rest = (0, of_piece share.item at)
        go false at e rest = let more = rest e in (suc more.0, more.1)

    apart_later : (held : Option Share) (shares : List (Option Share)) → AreOnePerPiece (held ∷ shares) → AreOnePerPiece shares
    apart_later held shares apart = λ one other n a b. let same = apart (suc one) (suc other) n a b in omega (arith, same)

    one_in : (shares : List (Option Share)) → AreOnePerPiece shares → weights (one_if test) shares ≤ 1
    one_in [] apart = omega arith
    one_in (None ∷ shares) apart =
        let sum = sum_by-cons (held_weight (one_if test)) None shares in
        let rest = one_in shares (apart_later None shares apart) in omega (arith, sum, rest)
    one_in (Some share ∷ shares) apart =
        go (test share.item) refl (any_in test shares) refl (one_in shares (apart_later (Some share) shares apart))
      where
        go : (b : Bool) → test share.item ≡ b → (c : Bool) → any_in test shares ≡ c → weights (one_if test) shares ≤ 1
            → weights (one_if test) (Some share ∷ shares) ≤ 1
        go false at c more few =
            let sum = sum_by-cons (held_weight (one_if test)) (Some share) shares in
            let own = ap {B = ℕ} (λ (b : Bool). cond b 1 0) at in omega (arith, sum, own, few)
        go true at true more few =
            let slot = slot_in shares more in
            let same : 0 ≡ suc slot.0 = apart 0 (suc slot.0) number (of_piece share.item at) slot.1 in absurd (cc same)
        go true at false more few =
            let sum = sum_by-cons (held_weight (one_if test)) (Some share) shares in
            let own = ap {B = ℕ} (λ (b : Bool). cond b 1 0) at in
            let rest = none_in shares more in omega (arith, sum, own, rest)

    pub left_in : (shares later : List (Option Share)) (freed : List Item) → AreOnePerPiece shares → AreFreed shares later freed
        → (any_in test shares && not (list_any test freed)) ≡ any_in test later
    left_in shares later freed apart goes =
        go (any_in test shares) refl (list_any test freed) refl (any_in test later) refl
      where
        sums : sum_by (one_if test) freed + weights (one_if test) later ≡ weights (one_if test) shares
        sums = goes.weighs (one_if test)

        go : (a : Bool) → any_in test shares ≡ a → (f : Bool) → list_any test freed ≡ f → (l : Bool) → any_in test later ≡ l → (a && not f) ≡ l
        go false had f went false has = refl
        go false had f went true has =
            let none = none_in shares had in let some = some_in later has in absurd (omega (arith, sums, none, some))
        go true had true went false has = refl
        go true had true went true has =
            let all = one_in shares apart in let some = some_in later has in let gone = some_of freed went in absurd (omega (arith, sums, all, some, gone))
        go true had false went true has = refl
        go true had false went false has =
            let all = some_in shares had in let none = none_in later has in let kept = none_of freed went in absurd (omega (arith, sums, all, none, kept))

pub holds_any : (number : ℕ) (shares : List (Option Share)) → holds_piece shares number ≡ any_in (is_of number) shares
holds_any number [] = refl
holds_any number (None ∷ shares) = holds_any number shares
holds_any number (Some share ∷ shares) = ap (λ (b : Bool). is_number number (piece_of_item share.item) || b) (holds_any number shares)

pub number_of_piece : (number : ℕ) (item : Item) → is_of number item ≡ true → piece_of_item item ≡ Some number
number_of_piece number item e = go (piece_of_item item) e
  where
    go : (o : Option ℕ) → is_number number o ≡ true → o ≡ Some number
    go None e = absurd (false_true e)
    go (Some one) e = ap Some (eqb-true one number e)

pub paged_piece : (page number : ℕ) (item : Item) → is_paged_in page number item ≡ true → piece_of_item item ≡ Some number
paged_piece page number (Paged piece one off len) e = ap Some (eqb-true piece.0 number (and_parts (piece.0 == number) (one.0 == page) e).0)
paged_piece page number (Memory piece bytes) e = absurd (false_true e)
paged_piece page number (Reserved piece len) e = absurd (false_true e)
paged_piece page number (File name stamp off len) e = absurd (false_true e)
paged_piece page number (Range slot off len) e = absurd (false_true e)

pub paged_held : (page number : ℕ) (shares : List (Option Share)) → holds_paged shares page number ≡ true → holds_piece shares number ≡ true
paged_held page number [] e = absurd (false_true e)
paged_held page number (None ∷ shares) e = paged_held page number shares e
paged_held page number (Some share ∷ shares) e = go (is_paged_in page number share.item) refl e (paged_held page number shares)
  where
    go : (b : Bool) → is_paged_in page number share.item ≡ b → (b || holds_paged shares page number) ≡ true
        → (holds_paged shares page number ≡ true → holds_piece shares number ≡ true)
        → (is_number number (piece_of_item share.item) || holds_piece shares number) ≡ true
    go true at e rest =
        or_first (is_number number (piece_of_item share.item)) (holds_piece shares number)
        (ap (is_number number) (paged_piece page number share.item at) ∙ eq-eqb number number refl)
    go false at e rest = or_second (is_number number (piece_of_item share.item)) (holds_piece shares number) (rest e)

-- ---- slots

filtered : {X : Type 0} (P : X → Type 0) (test : X → Bool) (xs : List X) → AllByRecursion P xs → AllByRecursion P (filter test xs)
filtered P test [] all = tt
filtered {X = X} P test (x ∷ xs) all = go (test x) (filtered P test xs all.1)
  where
    go : (b : Bool) → AllByRecursion P (filter test xs) → AllByRecursion P (cond {A = List X} b (x ∷ filter test xs) (filter test xs))
    go true rest = (all.0, rest)
    go false rest = rest

module _ (P : Held → Type 0) where
  abbrev InPages : List Page → Type 0
  InPages pages = AllByRecursion (λ (page : Page). AllByRecursion P (pieces_of page)) pages

  pages_released : (piece : PieceNo) (i : ℕ) (pages : List Page) → InPages pages → InPages (set pages i (released piece (page_at pages i)))
  pages_released piece i [] all = tt
  pages_released piece zero (Torn ∷ pages) all = all
  pages_released piece zero (Whole size pieces ∷ pages) all = (filtered P (λ (held : Held). not (nat_eq piece.0 held.piece.0)) pieces all.0, all.1)
  pages_released piece zero (Asked ∷ pages) all = all
  pages_released piece (suc i) (page ∷ pages) all = (all.0, pages_released piece i pages all.1)

  pages_fold : (freed : List Item) (files : Files) → InPages files.pages → InPages (fold let_go_by files freed).pages
  pages_fold [] files all = all
  pages_fold (Memory piece bytes ∷ freed) files all = pages_fold freed (let_go_by files (Memory piece bytes)) all
  pages_fold (Paged piece page off len ∷ freed) files all =
      pages_fold freed (let_go_by files (Paged piece page off len)) (pages_released piece page.0 files.pages all)
  pages_fold (Reserved piece len ∷ freed) files all = pages_fold freed (let_go_by files (Reserved piece len)) all
  pages_fold (File name stamp off len ∷ freed) files all = pages_fold freed files all
  pages_fold (Range slot off len ∷ freed) files all = pages_fold freed files all

  struck_all : (piece : PieceNo) (job : Option FileJob) → AllByRecursion P (left_of job) → AllByRecursion P (left_of (option_map (struck piece) job))
  struck_all piece None all = tt
  struck_all piece (Some job) all = filtered P (λ (held : Held). not (nat_eq piece.0 held.piece.0)) job.pieces all

  lefts_fold : (freed : List Item) (files : Files) → AllByRecursion P (left_of files.job) → AllByRecursion P (left_of (fold let_go_by files freed).job)
  lefts_fold [] files all = all
  lefts_fold (Memory piece bytes ∷ freed) files all = lefts_fold freed (let_go_by files (Memory piece bytes)) (struck_all piece files.job all)
  lefts_fold (Paged piece page off len ∷ freed) files all =
      lefts_fold freed (let_go_by files (Paged piece page off len)) (struck_all piece files.job all)
  lefts_fold (Reserved piece len ∷ freed) files all = lefts_fold freed (let_go_by files (Reserved piece len)) (struck_all piece files.job all)
  lefts_fold (File name stamp off len ∷ freed) files all = lefts_fold freed files all
  lefts_fold (Range slot off len ∷ freed) files all = lefts_fold freed files all

-- ---- numbers

reserved_item : (item : Item) (files : Files) → (let_go_by files item).reserved ≡ files.reserved - reserved_weight item
reserved_item (Memory piece bytes) files = omega arith
reserved_item (Paged piece page off len) files = omega arith
reserved_item (Reserved piece len) files = refl
reserved_item (File name stamp off len) files = omega arith
reserved_item (Range slot off len) files = omega arith

reserved_fold : (freed : List Item) (files : Files) → sum_by reserved_weight freed ≤ files.reserved
    → (fold let_go_by files freed).reserved + sum_by reserved_weight freed ≡ files.reserved
reserved_fold [] files few = omega arith
reserved_fold (item ∷ freed) files few =
    let sum = sum_by-cons reserved_weight item freed in
    let one = reserved_item item files in
    let rest = reserved_fold freed (let_go_by files item) (omega (arith, sum, one, few)) in
    omega (arith, sum, one, few, rest)

kept_fold : {X : Type 0} (read : Files → X) → ((files : Files) (item : Item) → read (let_go_by files item) ≡ read files) → (freed : List Item) (files : Files)
    → read (fold let_go_by files freed) ≡ read files
kept_fold read keeps [] files = refl
kept_fold read keeps (item ∷ freed) files = kept_fold read keeps freed (let_go_by files item) ∙ keeps files item

limit_kept : (files : Files) (item : Item) → (let_go_by files item).limit ≡ files.limit
limit_kept files (Memory piece bytes) = refl
limit_kept files (Paged piece page off len) = refl
limit_kept files (Reserved piece len) = refl
limit_kept files (File name stamp off len) = refl
limit_kept files (Range slot off len) = refl

jobs_kept : (files : Files) (item : Item) → (let_go_by files item).jobs ≡ files.jobs
jobs_kept files (Memory piece bytes) = refl
jobs_kept files (Paged piece page off len) = refl
jobs_kept files (Reserved piece len) = refl
jobs_kept files (File name stamp off len) = refl
jobs_kept files (Range slot off len) = refl

paging_kept : (files : Files) (item : Item) → (let_go_by files item).paging ≡ files.paging
paging_kept files (Memory piece bytes) = refl
paging_kept files (Paged piece page off len) = refl
paging_kept files (Reserved piece len) = refl
paging_kept files (File name stamp off len) = refl
paging_kept files (Range slot off len) = refl

-- ---- all of them

module _ (all : List Piece) (facts : PageFacts) (limit : ℕ) (shares later : List (Option Share)) (files : Files) (freed : List Item)
    (stand : PagesStand all facts limit shares files) (apart_so : AreOnePerPiece shares) (goes : AreFreed shares later freed) where
  abbrev now : Files
  now = fold let_go_by files freed

  sheets_now : map sheet now.pages ≡ sheets_from all (holds_paged later) facts.asked 0 facts.written
  sheets_now =
      sheets_fold all facts.asked facts.written freed (holds_paged shares) files stand.sheets
      ∙ sheets_same all (but_all freed (holds_paged shares)) (holds_paged later) facts.asked 0 facts.written
      (λ k n above. left_in (is_paged_in k n) n (paged_piece k n) shares later freed apart_so goes)

  job_now : IsLeft now.job (holds_piece later) facts.flying
  job_now =
      job_same (but_any freed (holds_piece shares)) (holds_piece later) now.job facts.flying
      (λ n. ap (λ (b : Bool). b && not (list_any (is_of n) freed)) (holds_any n shares)
      ∙ left_in (is_of n) n (number_of_piece n) shares later freed apart_so goes ∙ sym (holds_any n later))
      (job_fold freed (holds_piece shares) files facts.flying stand.job)

  back : (slot number : ℕ) → piece_at later slot ≡ Some number → piece_at shares slot ≡ Some number
  back slot number e = go (item_at later slot) (goes.still slot) e
    where
      go : (o : Option Item) → IfSome o (λ (item : Item). item_at shares slot ≡ Some item) → piece_by o ≡ Some number → piece_at shares slot ≡ Some number
      go None is e = absurd (cc e)
      go (Some item) is e = ap piece_by is ∙ e

  slot_kept : (held : Held) → IsSlotOf shares held → holds_piece later held.piece.0 ≡ true → IsSlotOf later held
  slot_kept held is there =
      let slot = slot_of held.piece.0 later there in
      let same : slot.0 ≡ held.slot = apart_so slot.0 held.slot held.piece.0 (back slot.0 held.piece.0 slot.1) is in
      subst (λ (k : ℕ). piece_at later k ≡ Some held.piece.0) same slot.1

  kept_slots : (list : List Held) → AllByRecursion (IsSlotOf shares) list → AllByRecursion (λ (held : Held). holds_piece later held.piece.0 ≡ true) list
      → AllByRecursion (IsSlotOf later) list
  kept_slots [] is there = tt
  kept_slots (held ∷ list) is there = (slot_kept held is.0 there.0, kept_slots list is.1 there.1)

  there_by : (page : ℕ) (list : List Held) (placed : List (ℕ × ℕ × ℕ)) → map bare_piece list ≡ placed
      → AllByRecursion (λ (one : ℕ × ℕ × ℕ). holds_paged later page one.0 ≡ true) placed
      → AllByRecursion (λ (held : Held). holds_piece later held.piece.0 ≡ true) list
  there_by page [] placed e all = tt
  there_by page (held ∷ list) [] e all = absurd (cc e)
  there_by page (held ∷ list) (one ∷ placed) e all =
      let same : bare_piece held ≡ one = cc e in
      let rest : map bare_piece list ≡ placed = cc e in (
        paged_held page held.piece.0 later (ap (λ (each : ℕ × ℕ × ℕ). holds_paged later page each.0) same ∙ all.0),
        there_by page list placed rest all.1,
      )

  page_there : (number : ℕ) (page : Page) (one : Option (List ℕ)) → sheet page ≡ sheet_of all (holds_paged later) facts.asked number one
      → AllByRecursion (λ (held : Held). holds_piece later held.piece.0 ≡ true) (pieces_of page)
  page_there number Torn one e = tt
  page_there number Asked one e = tt
  page_there number (Whole size pieces) None e = absurd (cc e)
  page_there number (Whole size pieces) (Some list) e = go (list_any (λ (each : ℕ). each == number) facts.asked) e
    where
      go : (b : Bool)
          → whole size (map bare_piece pieces) ≡ cond b gone (whole (sum_by (length_in all) list) (placed_from all (holds_paged later number) 0 list))
          → AllByRecursion (λ (held : Held). holds_piece later held.piece.0 ≡ true) pieces
      go true e = absurd (cc e)
      go false e =
          let same : map bare_piece pieces ≡ placed_from all (holds_paged later number) 0 list = cc e in
          there_by number pieces (placed_from all (holds_paged later number) 0 list) same (placed_all all (holds_paged later number) 0 list)

  pages_kept : (number : ℕ) (pages : List Page) (written : List (Option (List ℕ)))
      → map sheet pages ≡ sheets_from all (holds_paged later) facts.asked number written
      → AllByRecursion (λ (page : Page). AllByRecursion (IsSlotOf shares) (pieces_of page)) pages
      → AllByRecursion (λ (page : Page). AllByRecursion (IsSlotOf later) (pieces_of page)) pages
  pages_kept number [] written e is = tt
  pages_kept number (page ∷ pages) [] e is = absurd (cc e)
  pages_kept number (page ∷ pages) (one ∷ written) e is =
      let first : sheet page ≡ sheet_of all (holds_paged later) facts.asked number one = cc e in
      let rest : map sheet pages ≡ sheets_from all (holds_paged later) facts.asked (number + 1) written = cc e in
      (kept_slots (pieces_of page) is.0 (page_there number page one first), pages_kept (number + 1) pages written rest is.1)

  job_there : (job : Option FileJob) (flying : Option Job) → IsLeft job (holds_piece later) flying
      → AllByRecursion (λ (held : Held). holds_piece later held.piece.0 ≡ true) (left_of job)
  job_there None flying e = tt
  job_there (Some job) None e = absurd (cc e)
  job_there (Some job) (Some other) e =
      let same : job_as job ≡ with_held (holds_piece later) other = cc e in
      by job.pieces (filter (holds_piece later) other.pieces) (ap (λ (one : Job). one.pieces) same) (passing other.pieces)
    where
      passing : (list : List ℕ) → AllByRecursion (λ (n : ℕ). holds_piece later n ≡ true) (filter (holds_piece later) list)
      passing [] = tt
      passing (n ∷ list) = go (holds_piece later n) refl (passing list)
        where
          go : (b : Bool) → holds_piece later n ≡ b → AllByRecursion (λ (m : ℕ). holds_piece later m ≡ true) (filter (holds_piece later) list)
              → AllByRecursion (λ (m : ℕ). holds_piece later m ≡ true) (cond b (n ∷ filter (holds_piece later) list) (filter (holds_piece later) list))
          go true at rest = (at, rest)
          go false at rest = rest

      by : (pieces : List Held) (numbers : List ℕ) → map (λ (held : Held). held.piece.0) pieces ≡ numbers
          → AllByRecursion (λ (n : ℕ). holds_piece later n ≡ true) numbers → AllByRecursion (λ (held : Held). holds_piece later held.piece.0 ≡ true) pieces
      by [] numbers e all = tt
      by (held ∷ pieces) [] e all = absurd (cc e)
      by (held ∷ pieces) (n ∷ numbers) e all =
          let same : held.piece.0 ≡ n = cc e in
          let rest : map (λ (each : Held). each.piece.0) pieces ≡ numbers = cc e in
          (ap (holds_piece later) same ∙ all.0, by pieces numbers rest all.1)

  let_stand : PagesStand all facts limit later now
  let_stand = record {
    same_limit = kept_fold (λ (files : Files). files.limit) limit_kept freed files ∙ stand.same_limit;
    sheets = sheets_now;
    slots = pages_kept 0 now.pages facts.written sheets_now (pages_fold (IsSlotOf shares) freed files stand.slots);
    reserved =
        let sums = goes.weighs reserved_weight in
        let had = stand.reserved in
        let left = reserved_fold freed files (omega (arith, sums, had)) in omega (arith, sums, had, left);
    job = job_now;
    job_slots = kept_slots (left_of now.job) (lefts_fold (IsSlotOf shares) freed files stand.job_slots) (job_there now.job facts.flying job_now);
    job_lengths = lefts_fold (λ (held : Held). held.len ≡ length_in all held.piece.0) freed files stand.job_lengths;
    same_jobs = kept_fold (λ (files : Files). files.jobs) jobs_kept freed files ∙ stand.same_jobs;
    same_paging = kept_fold (λ (files : Files). files.paging) paging_kept freed files ∙ stand.same_paging;
  }

pub pages_let_go : PagesLetGo
pages_let_go all facts limit shares later files freed stand apart_so goes = let_stand all facts limit shares later files freed stand apart_so goes
