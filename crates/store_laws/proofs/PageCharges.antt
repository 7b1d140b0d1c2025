-- What is charged for page files is what the reached pieces in them, the reserved ones and those of the job are charged.
use Rattle.std.proofs.Common.{◌≡◌, ℕ, zero, suc, ◌+◌, ◌==◌, Bool, true, false, ◌&&◌, ◌||◌, not, List, []}
use Rattle.std.proofs.Common.{◌∷◌, map, length, reverse, get_or, refl, ap, subst, sym, ◌∙◌, arith, Option, Some, None, ⊎_elim, cond}
use Rattle.std.specs.Prelude.{filter, find, nat_lt, sum_by, IfSome, IsSomeAnd}
use Rattle.std.specs.Option.{option_map, option_map_or}
use Rattle.std.specs.List.{AllByRecursion, list_any}
use Rattle.std.proofs.lemmas.Bool.{and_parts, eqb-true, eq-eqb, lt-ltb}
use Rattle.std.proofs.lemmas.List.Sums.{sum_by-cons}
use Rattle.item_shares.specs.declared.item.Item.{Item}
use Rattle.item_shares.specs.declared.item.Item.TheVariants.{Memory, Paged, Reserved, File, Range}
use Rattle.item_shares.specs.declared.shares.Share.{Share}
use Rattle.item_shares.specs.Shares.{item_at}
use Rattle.blob_entries.specs.Book.{Book}
use Rattle.page_files.specs.declared.held.Held.{Held}
use Rattle.page_files.specs.declared.job.Job.{Job as FlyingJob}
use Rattle.page_files.specs.declared.page.Page.{Page as FilePage}
use Rattle.page_files.specs.declared.page.Page.TheVariants.{Torn, Whole, Asked}
use Rattle.page_files.specs.Files.{Files, left_of}
use Rattle.page_files.specs.Pages.{charge_of, held_count, is_held as is_held_page, page_charge}
use Rattle.page_files.specs.Pieces.{bytes_of as held_bytes}
use Rattle.quota_queue.specs.Queue.{Queue}
use Rattle.blob_words.specs.declared.plan.Plan.{Plan}
use Rattle.blob_words.specs.declared.plan.Plan.TheVariants as plans
use Rattle.blob_model.specs.Session.{Session, page_limit}
use Rattle.blob_model.specs.History.{History}
use Rattle.blob_model.specs.Builds.{Build, builds, build_in}
use Rattle.blob_model.specs.Jobs.{Job, in_flight, is_in_job}
use Rattle.blob_model.specs.Pages.{Page, Place, asked, in_memory, in_page, is_page, lists}
use Rattle.blob_model.specs.Pages.{page_size, page_with, pages, place, place_by, planned_place, reserved, unlisted_place}
use Rattle.blob_model.specs.Pieces.{Piece, length_in, pieces}
use Rattle.blob_model.specs.Reached.{reached}
use Rattle.blob_model.specs.Tally.{in_page_of, job_left_in}
use Rattle.blob_model.proofs.Lists.{all_reverse, both, false_true, for_both, for_each, found_all}
use Rattle.blob_model.proofs.Lists.{found_filter, found_true, or_cases, or_first, or_second, some_of}
use Rattle.blob_model.proofs.builds.PieceNumbers.{FoundIn, all_by_number, found_number, pieces_numbered}
use Rattle.model_bridges.specs.Bridges.{held_numbers, job_as}
use Rattle.store_laws.specs.Cells.{piece_in}
use Rattle.store_laws.specs.Items.{Facts, IsPlaced, holds_piece, is_number, piece_at, piece_by}
use Rattle.store_laws.specs.PageFiles.{Sheet, gone, holds_paged, is_paged_in, placed_from, sheet, sheet_of, sheets_from, torn, whole, with_held, writes}
use Rattle.store_laws.specs.PageLaws.{ArePaged, DiskIsTold, IsUnasked, numbered_pages}
use Rattle.store_laws.specs.ReachLaws.{AreGatheredApart, IsApart, IsAtRest, IsCounted}
use Rattle.store_laws.specs.Rows.{Row, is_gathered}
use Rattle.store_laws.specs.Stands.{AreExact, ContentsStand}
use Rattle.store_laws.specs.Uses.{facts_of, is_held}
use Rattle.store_laws.proofs.Closing.{held_reached}
use Rattle.store_laws.proofs.HeldCounts.{at_slot, slot_of}
use Rattle.store_laws.proofs.Tallies.{reserved_is_told}
use Rattle.store_laws.proofs.Viewed.{iff_true}

-- ---- lists

pub any_found : {X : Type 0} (p test : X → Bool) (xs : List X) (x : X) → find p xs ≡ Some x → test x ≡ true → list_any test xs ≡ true
any_found p test [] x there e = absurd (cc there)
any_found p test (y ∷ xs) x there e = go (p y) there (any_found p test xs x)
  where
    go : (b : Bool) → cond b (Some y) (find p xs) ≡ Some x → (find p xs ≡ Some x → test x ≡ true → list_any test xs ≡ true)
        → (test y || list_any test xs) ≡ true
    go true f rest = let same : y ≡ x = cc in or_first (test y) (list_any test xs) (ap test same ∙ e)
    go false f rest = or_second (test y) (list_any test xs) (rest f e)

-- one of those that pass a first test passes a second, and what is said of each is said of it
some_passing : {X : Type 0} (P : X → Type 0) (goal : Type 0) (keep test : X → Bool) (xs : List X) → AllByRecursion P xs
    → ((x : X) → P x → keep x ≡ true → test x ≡ true → goal) → list_any test (filter keep xs) ≡ true → goal
some_passing P goal keep test [] each f e = absurd (false_true e)
some_passing {X = X} P goal keep test (x ∷ xs) each f e = go (keep x) refl e (some_passing P goal keep test xs each.1 f)
  where
    go : (b : Bool) → keep x ≡ b → list_any test (cond b (x ∷ filter keep xs) (filter keep xs)) ≡ true → (list_any test (filter keep xs) ≡ true → goal) → goal
    go true at g rest = ⊎_elim (λ (here : test x ≡ true). f x each.0 at here) (λ more. rest more) (or_cases (test x) (list_any test (filter keep xs)) g)
    go false at g rest = rest g

pub some_length : {X : Type 0} (test : X → Bool) (xs : List X) → nat_lt 0 (length (filter test xs)) ≡ list_any test xs
some_length test [] = refl
some_length {X = X} test (x ∷ xs) = go (test x) (some_length test xs)
  where
    go : (b : Bool) → nat_lt 0 (length (filter test xs)) ≡ list_any test xs → nat_lt 0 (length (cond b (x ∷ filter test xs) (filter test xs))) ≡
        (b || list_any test xs)
    go true rest = lt-ltb 0 (length (x ∷ filter test xs)) (omega arith)
    go false rest = rest

-- ---- pages by their numbers

abbrev IsWrittenAt : ℕ → List (Option (List ℕ)) → Page → Type 0
IsWrittenAt number written page = (k : ℕ) × (page.number ≡ number + k) × (get_or written k None ≡ Some page.pieces)

written_pages : (number : ℕ) (written : List (Option (List ℕ))) → AllByRecursion (IsWrittenAt number written) (numbered_pages number written)
written_pages number [] = tt
written_pages number (None ∷ more) =
    for_each (IsWrittenAt (number + 1) more) (IsWrittenAt number (None ∷ more)) (numbered_pages (number + 1) more)
    (λ page is. let at = is.1 in (suc is.0, omega (arith, at), is.2)) (written_pages (number + 1) more)
written_pages number (Some list ∷ more) = (
  (0, omega arith, refl),
  for_each (IsWrittenAt (number + 1) more) (IsWrittenAt number (Some list ∷ more)) (numbered_pages (number + 1) more)
      (λ page is. let at = is.1 in (suc is.0, omega (arith, at), is.2)) (written_pages (number + 1) more),
)

-- some piece is held there
abbrev pub has_some : List (ℕ × ℕ × ℕ) → Bool
has_some [] = false
has_some (one ∷ more) = true

pub placed_some : (all : List Piece) (is_there : ℕ → Bool) (off : ℕ) (list : List ℕ) → has_some (placed_from all is_there off list) ≡ list_any is_there list
placed_some all is_there off [] = refl
placed_some all is_there off (number ∷ list) = go (is_there number) (placed_some all is_there (off + length_in all number) list)
  where
    go : (b : Bool) → has_some (placed_from all is_there (off + length_in all number) list) ≡ list_any is_there list
        → has_some (cond b ((number, off, length_in all number) ∷ placed_from all is_there (off + length_in all number) list) (placed_from all is_there
        (off + length_in all number) list))
        ≡ (b || list_any is_there list)
    go true rest = refl
    go false rest = rest

-- what a sheet is charged, and whether a piece is held there
abbrev pub sheet_held : Sheet → Bool
sheet_held torn = false
sheet_held (whole size held) = has_some held
sheet_held gone = false

abbrev sheet_size : Sheet → ℕ
sheet_size torn = 0
sheet_size (whole size held) = size
sheet_size gone = 0

pub same_held : (page : FilePage) → is_held_page page ≡ sheet_held (sheet page)
same_held Torn = refl
same_held (Whole size []) = refl
same_held (Whole size (held ∷ pieces)) = refl
same_held Asked = refl

same_charge : (page : FilePage) → charge_of page ≡ cond (sheet_held (sheet page)) (sheet_size (sheet page)) 0
same_charge Torn = refl
same_charge (Whole size []) = refl
same_charge (Whole size (held ∷ pieces)) = refl
same_charge Asked = refl

module _ (s : Session) (h : History) (stands : ℕ → Bool) (book : Book) (shares : List (Option Share)) (rows : List (Option Row)) (quota : Queue)
    (files : Files) (order : List (ℕ × ℕ))
    (contents : ContentsStand s h stands book shares rows quota files order) (exact : AreExact s h stands) (rest : IsAtRest (page_limit s) h)
    (counted : IsCounted book shares rows)
    (apart : AreGatheredApart s h shares rows) (paged : ArePaged s h shares rows) where
  abbrev blobs : List Build
  blobs = builds (page_limit s) h

  abbrev all : List Piece
  all = pieces (page_limit s) h

  abbrev pub keeps : Piece → Bool
  keeps piece = is_held blobs shares rows piece

  abbrev numbers_found : AllByRecursion (λ (piece : Piece). FoundIn all piece.number piece) all
  numbers_found = all_by_number 0 all (pieces_numbered (page_limit s) 0 blobs)

  pub reached_are : filter keeps all ≡ reached (page_limit s) h
  reached_are = held_reached s h stands book shares rows quota files order contents exact rest counted

  some_same : (a b : ℕ) → Some a ≡ Some b → a ≡ b
  some_same a b e = cc

  -- a held number is that of a piece
  held_found : (number : ℕ) → holds_piece shares number ≡ true → (piece : Piece) × (FoundIn all number piece)
  held_found number e =
      let slot = slot_of number shares e in
      go (item_at shares slot.0) (contents.items.each slot.0) slot.1
    where
      in_all : (o : Option Piece) (P : Piece → Type 0) → piece_in all number ≡ o → IsSomeAnd o P → (piece : Piece) × (FoundIn all number piece)
      in_all None P at is = absurd is
      in_all (Some one) P at is = (one, at)

      moved : (other : ℕ) (P : Piece → Type 0) → other ≡ number → IsSomeAnd (piece_in all other) P → IsSomeAnd (piece_in all number) P
      moved other P same is = subst (λ (n : ℕ). IsSomeAnd (piece_in all n) P) same is

      go : (o : Option Item) → IfSome o (IsPlaced all (facts_of s h)) → piece_by o ≡ Some number → (piece : Piece) × (FoundIn all number piece)
      go None placed f = absurd (cc f)
      go (Some (Memory piece bytes)) placed f =
          in_all (piece_in all number)
          (λ (one : Piece). ((facts_of s h).granted one ≡ true) × ((facts_of s h).place one ≡ in_memory) × (bytes ≡ (facts_of s h).bytes one) ×
          (length bytes ≡ one.len)) refl
          (moved piece.0 _ (some_same piece.0 number f) placed)
      go (Some (Paged piece page off len)) placed f =
          in_all (piece_in all number)
          (λ (one : Piece). ((facts_of s h).granted one ≡ true) × ((facts_of s h).place one ≡ in_page page.0) × (off ≡ (facts_of s h).offset one) ×
          (len ≡ one.len)) refl
          (moved piece.0 _ (some_same piece.0 number f) placed)
      go (Some (Reserved piece len)) placed f =
          in_all (piece_in all number) (λ (one : Piece). ((facts_of s h).granted one ≡ true) × ((facts_of s h).place one ≡ reserved) × (len ≡ one.len)) refl
          (moved piece.0 _ (some_same piece.0 number f) placed)
      go (Some (File name stamp off len)) placed f = absurd (cc f)
      go (Some (Range slot off len)) placed f = absurd (cc f)

  -- ---- the job in flight

  job_among : (number : ℕ) → is_in_job h number ≡ true → list_any (λ (piece : Piece). piece.number == number)
      (reached (page_limit s) h) ≡ holds_piece shares number
  job_among number named =
      ap (list_any (λ (piece : Piece). piece.number == number)) (sym reached_are)
      ∙ iff_true (list_any (λ (piece : Piece). piece.number == number) (filter keeps all)) (holds_piece shares number)
      (λ e.
      some_passing (λ (piece : Piece). is_gathered blobs rows piece.blob ≡ true → is_in_job h piece.number ≡ false) (holds_piece shares number ≡ true) keeps
      (λ (piece : Piece). piece.number == number) all paged.unnamed
      (λ piece free kept is.
      ⊎_elim (λ (held : holds_piece shares piece.number ≡ true). subst (λ (n : ℕ). holds_piece shares n ≡ true) (eqb-true piece.number number is) held)
      (λ (gathers : is_gathered blobs rows piece.blob ≡ true).
      absurd (false_true (sym (free gathers) ∙ ap (is_in_job h) (eqb-true piece.number number is) ∙ named)))
      (or_cases (holds_piece shares piece.number) (is_gathered blobs rows piece.blob) kept)) e)
      (λ e.
      let one = held_found number e in
      let is : one.0.number ≡ number = found_number all number one.0 one.1 in
      let kept : keeps one.0 ≡ true = or_first (holds_piece shares one.0.number) (is_gathered blobs rows one.0.blob) (ap (holds_piece shares) is ∙ e) in
      any_found (λ (piece : Piece). piece.number == number) (λ (piece : Piece). piece.number == number) (filter keeps all) one.0
      (found_filter (λ (piece : Piece). piece.number == number) keeps all one.0 one.1 kept) (eq-eqb one.0.number number is))

  filter_named : (job : Job) → in_flight h ≡ Some job → (list : List ℕ) → ((number : ℕ) → list_any (λ (each : ℕ). each == number) list ≡ true
      → list_any (λ (each : ℕ). each == number) job.pieces ≡ true)
      → filter (λ (number : ℕ). list_any (λ (piece : Piece). piece.number == number) (reached (page_limit s) h)) list ≡ filter (holds_piece shares) list
  filter_named job flying [] among = refl
  filter_named job flying (number ∷ list) among =
      ap
      (λ (b : Bool).
      cond b (number ∷ filter (λ (each : ℕ). list_any (λ (piece : Piece). piece.number == each) (reached (page_limit s) h)) list)
      (filter (λ (each : ℕ). list_any (λ (piece : Piece). piece.number == each) (reached (page_limit s) h)) list))
      (job_among number
      (ap (λ (o : Option Job). option_map_or (λ (one : Job). list_any (λ (named : ℕ). named == number) one.pieces) o false) flying
      ∙ among number (or_first (number == number) (list_any (λ (each : ℕ). each == number) list) (eq-eqb number number refl))))
      ∙ ap (λ (xs : List ℕ). cond (holds_piece shares number) (number ∷ xs) xs)
      (filter_named job flying list (λ each e. among each (or_second (number == each) (list_any (λ (other : ℕ). other == each) list) e)))

  sum_lengths : (list : List Held) → AllByRecursion (λ (held : Held). held.len ≡ length_in all held.piece.0) list
      → held_bytes list ≡ sum_by (length_in all) (held_numbers list)
  sum_lengths [] each = refl
  sum_lengths (held ∷ list) each =
      let here = each.0 in
      let later = sum_lengths list each.1 in
      omega (arith, here, later, sum_by-cons (λ (one : Held). one.len) held list, sum_by-cons (length_in all) held.piece.0 (held_numbers list))

  pub job_numbers : held_numbers (left_of files.job) ≡ job_left_in h (reached (page_limit s) h)
  job_numbers = go files.job (in_flight h) refl contents.page_files_stand.job
    where
      go : (one : Option FlyingJob) (flying : Option Job) → in_flight h ≡ flying → option_map job_as one ≡ option_map (with_held (holds_piece shares)) flying
          → held_numbers (left_of one) ≡ option_map_or (λ (job : Job). filter (λ (number : ℕ). list_any (λ (piece : Piece). piece.number == number)
          (reached (page_limit s) h)) job.pieces) flying []
      go None None at e = refl
      go None (Some job) at e = absurd (cc e)
      go (Some one) None at e = absurd (cc e)
      go (Some one) (Some job) at e =
          let same : job_as one ≡ with_held (holds_piece shares) job = cc in
          ap (λ (j : Job). j.pieces) same ∙ sym (filter_named job at job.pieces (λ number there. there))

  pub job_charged : held_bytes (left_of files.job) ≡ sum_by (length_in all) (job_left_in h (reached (page_limit s) h))
  job_charged = sum_lengths (left_of files.job) contents.page_files_stand.job_lengths ∙ ap (sum_by (length_in all)) job_numbers

  -- ---- items in page files

  some_paged : (page number : ℕ) (list : List (Option Share)) → holds_paged list page number ≡ true
      → (slot : ℕ) × (item : Item) × (item_at list slot ≡ Some item) × (is_paged_in page number item ≡ true)
  some_paged page number [] e = absurd (false_true e)
  some_paged page number (share ∷ list) e =
      ⊎_elim (λ (here : option_map_or (λ (one : Share). is_paged_in page number one.item) share false ≡ true). by share here)
      (λ (more : holds_paged list page number ≡ true). let rest = some_paged page number list more in (suc rest.0, rest.1, rest.2, rest.3))
      (or_cases (option_map_or (λ (one : Share). is_paged_in page number one.item) share false) (holds_paged list page number) e)
    where
      by : (share : Option Share) → option_map_or (λ (one : Share). is_paged_in page number one.item) share false ≡ true
          → (slot : ℕ) × (item : Item) × (item_at (share ∷ list) slot ≡ Some item) × (is_paged_in page number item ≡ true)
      by None f = absurd (false_true f)
      by (Some one) f = (0, one.item, refl, f)

  at_paged : (page number slot : ℕ) (list : List (Option Share)) (item : Item) → item_at list slot ≡ Some item → is_paged_in page number item ≡ true
      → holds_paged list page number ≡ true
  at_paged page number slot [] item at e = absurd (cc at)
  at_paged page number zero (share ∷ list) item at e = or_first (option_map_or (λ (one : Share). is_paged_in page number one.item) share false)
      (holds_paged list page number) (by share at)
    where
      by : (share : Option Share) → option_map (λ (one : Share). one.item) share ≡ Some item
          → option_map_or (λ (one : Share). is_paged_in page number one.item) share false ≡ true
      by None f = absurd (cc f)
      by (Some one) f = let same : one.item ≡ item = cc in ap (is_paged_in page number) same ∙ e
  at_paged page number (suc slot) (share ∷ list) item at e =
      or_second (option_map_or (λ (one : Share). is_paged_in page number one.item) share false) (holds_paged list page number)
      (at_paged page number slot list item at e)

  -- what an item in a page file says
  pub record IsThere (page number : ℕ) : Type 0 where
    pub piece : Piece
    pub found : FoundIn all number piece
    pub place_is : place (page_limit s) h piece ≡ in_page page
    pub held : holds_piece shares number ≡ true
    pub unasked : list_any (λ (each : ℕ). each == page) (asked h) ≡ false

  abbrev facts : Facts
  facts = facts_of s h

  pub there : (page number : ℕ) → holds_paged shares page number ≡ true → IsThere page number
  there page number e =
      let one = some_paged page number shares e in
      go one.0 one.1 one.2 (subst (λ (o : Option Item). IfSome o (IsPlaced all facts)) one.2 (contents.items.each one.0))
      (subst (λ (o : Option Item). IfSome o (IsUnasked (asked h))) one.2 (paged.unasked one.0)) one.3
    where
      found_by : (slot : ℕ) → piece_at shares slot ≡ Some number → (o : Option Piece) (P : Piece → Type 0) → piece_in all number ≡ o → IsSomeAnd o P
          → ((piece : Piece) → P piece → place (page_limit s) h piece ≡ in_page page)
          → list_any (λ (each : ℕ). each == page) (asked h) ≡ false → IsThere page number
      found_by slot at None P is some says free = absurd some
      found_by slot at (Some piece) P is some says free =
          record {
            piece = piece;
            found = is;
            place_is = says piece some;
            held = at_slot number slot shares (ap (is_number number) at ∙ eq-eqb number number refl);
            unasked = free;
          }

      go : (slot : ℕ) (item : Item) → item_at shares slot ≡ Some item → IsPlaced all facts item → IsUnasked (asked h) item
          → is_paged_in page number item ≡ true → IsThere page number
      go slot (Paged piece file off len) at placed free f =
          let parts = and_parts (piece.0 == number) (file.0 == page) f in
          let number_is : piece.0 ≡ number = eqb-true piece.0 number parts.0 in
          let page_is : file.0 ≡ page = eqb-true file.0 page parts.1 in
          found_by slot (ap piece_by at ∙ ap (λ (n : ℕ). Some n) number_is) (piece_in all number)
          (λ (one : Piece). (facts.granted one ≡ true) × (facts.place one ≡ in_page file.0) × (off ≡ facts.offset one) × (len ≡ one.len)) refl
          (subst (λ (n : ℕ). IsSomeAnd (piece_in all n) (λ (one : Piece). (facts.granted one ≡ true) × (facts.place one ≡ in_page file.0) ×
          (off ≡ facts.offset one) × (len ≡ one.len))) number_is placed)
          (λ one says. says.1 ∙ ap in_page page_is) (subst (λ (n : ℕ). list_any (λ (each : ℕ). each == n) (asked h) ≡ false) page_is free)
      go slot (Memory piece bytes) at placed free f = absurd (false_true f)
      go slot (Reserved piece len) at placed free f = absurd (false_true f)
      go slot (File name stamp off len) at placed free f = absurd (false_true f)
      go slot (Range handle off len) at placed free f = absurd (false_true f)

  in_memory_not : (n : ℕ) → in_memory ≡ in_page n → ⊥
  in_memory_not n e = cc

  reserved_not : (n : ℕ) → reserved ≡ in_page n → ⊥
  reserved_not n e = cc

  same_page : (m n : ℕ) → in_page m ≡ in_page n → m ≡ n
  same_page m n e = cc

  -- a held piece whose place is a page file is there
  held_there : (n : ℕ) (piece : Piece) → FoundIn all piece.number piece → holds_piece shares piece.number ≡ true → place (page_limit s) h piece ≡ in_page n
      → holds_paged shares n piece.number ≡ true
  held_there n piece found e at =
      let slot = slot_of piece.number shares e in
      go slot.0 (item_at shares slot.0) refl (contents.items.each slot.0) slot.1
    where
      placed_at : (number : ℕ) (P : Piece → Type 0) → number ≡ piece.number → IsSomeAnd (piece_in all number) P → P piece
      placed_at number P same is = subst (λ (o : Option Piece). IsSomeAnd o P) found (subst (λ (m : ℕ). IsSomeAnd (piece_in all m) P) same is)

      go : (slot : ℕ) (o : Option Item) → item_at shares slot ≡ o → IfSome o (IsPlaced all facts) → piece_by o ≡ Some piece.number
          → holds_paged shares n piece.number ≡ true
      go slot None held placed f = absurd (cc f)
      go slot (Some (Paged number file off len)) held placed f =
          let same = some_same number.0 piece.number f in
          let says = placed_at number.0 (λ (one : Piece). (facts.granted one ≡ true) × (facts.place one ≡ in_page file.0) × (off ≡ facts.offset one) ×
          (len ≡ one.len)) same placed in
          let file_is : file.0 ≡ n = same_page file.0 n (sym says.1 ∙ at) in
          at_paged n piece.number slot shares (Paged number file off len) held (both (number.0 == piece.number) (file.0 == n)
          (eq-eqb number.0 piece.number same) (eq-eqb file.0 n file_is))
      go slot (Some (Memory number bytes)) held placed f =
          let same = some_same number.0 piece.number f in
          let says = placed_at number.0 (λ (one : Piece). (facts.granted one ≡ true) × (facts.place one ≡ in_memory) × (bytes ≡ facts.bytes one) ×
          (length bytes ≡ one.len)) same placed in
          absurd (in_memory_not n (sym says.1 ∙ at))
      go slot (Some (Reserved number len)) held placed f =
          let same = some_same number.0 piece.number f in
          let says = placed_at number.0 (λ (one : Piece). (facts.granted one ≡ true) × (facts.place one ≡ reserved) × (len ≡ one.len)) same placed in
          absurd (reserved_not n (sym says.1 ∙ at))
      go slot (Some (File name stamp off len)) held placed f = absurd (cc f)
      go slot (Some (Range handle off len)) held placed f = absurd (cc f)

  -- ---- a page file, and what the history says is there

  unlisted : (o : Option Build) (n : ℕ) → unlisted_place o ≡ in_page n → ⊥
  unlisted None n e = in_memory_not n e
  unlisted (Some build) n e = go build.plan e
    where
      go : (plan : Option Plan) → planned_place plan ≡ in_page n → ⊥
      go (Some (plans.File m)) f = reserved_not n f
      go None f = in_memory_not n f
      go (Some plans.None) f = in_memory_not n f
      go (Some plans.Inline) f = in_memory_not n f
      go (Some (plans.Shared m)) f = in_memory_not n f
      go (Some plans.OutOfMemory) f = in_memory_not n f
      go (Some (plans.TooMany what)) f = in_memory_not n f

  -- a piece whose place is a page file is listed there
  pub listed : (n : ℕ) (list : List ℕ) (piece : Piece) → get_or (writes h) n None ≡ Some list → place (page_limit s) h piece ≡ in_page n
      → list_any (λ (each : ℕ). each == piece.number) list ≡ true
  listed n list piece written at = go (page_with (pages h) piece.number) refl at
    where
      all_written : AllByRecursion (IsWrittenAt 0 (writes h)) (pages h)
      all_written = subst (AllByRecursion (IsWrittenAt 0 (writes h))) (sym paged.in_turn) (written_pages 0 (writes h))

      go : (o : Option Page) → page_with (pages h) piece.number ≡ o → place_by o (build_in blobs piece.blob) ≡ in_page n
          → list_any (λ (each : ℕ). each == piece.number) list ≡ true
      go None found e = absurd (unlisted (build_in blobs piece.blob) n e)
      go (Some page) found e =
          let number_is : page.number ≡ n = same_page page.number n e in
          let is = found_all (IsWrittenAt 0 (writes h)) (λ (one : Page). lists one piece.number) (reverse (pages h)) page (all_reverse (IsWrittenAt 0
          (writes h)) (pages h) all_written) found in
          let at_is = is.1 in
          let k_is : is.0 ≡ n = omega (arith, at_is, number_is) in
          let two : Some page.pieces ≡ Some list = sym is.2 ∙ ap (λ (k : ℕ). get_or (writes h) k None) k_is ∙ written in
          let same : page.pieces ≡ list = cc in
          ap (list_any (λ (each : ℕ). each == piece.number)) (sym same) ∙ found_true (λ (one : Page). lists one piece.number) (reverse (pages h)) page found

  any_at : (test : ℕ → Bool) (number : ℕ) (list : List ℕ) → test number ≡ true → list_any (λ (each : ℕ). each == number) list ≡ true → list_any test list ≡ true
  any_at test number [] e f = absurd (false_true f)
  any_at test number (one ∷ list) e f =
      ⊎_elim (λ (here : (one == number) ≡ true). or_first (test one) (list_any test list) (ap test (eqb-true one number here) ∙ e))
      (λ (more : list_any (λ (each : ℕ). each == number) list ≡ true). or_second (test one) (list_any test list) (any_at test number list e more))
      (or_cases (one == number) (list_any (λ (each : ℕ). each == number) list) f)

  page_place : (n : ℕ) (at : Place) → is_page n at ≡ true → at ≡ in_page n
  page_place n in_memory e = absurd (false_true e)
  page_place n reserved e = absurd (false_true e)
  page_place n (in_page m) e = ap in_page (eqb-true m n e)

  abbrev is_asked : ℕ → Bool
  is_asked n = list_any (λ (each : ℕ). each == n) (asked h)

  abbrev in_this : ℕ → Piece → Bool
  in_this n piece = is_page n (place (page_limit s) h piece)

  pub page_has : (n : ℕ) (list : List ℕ) → get_or (writes h) n None ≡ Some list
      → (not (is_asked n) && list_any (holds_paged shares n) list) ≡ list_any (in_this n) (reached (page_limit s) h)
  page_has n list written =
      iff_true (not (is_asked n) && list_any (holds_paged shares n) list) (list_any (in_this n) (reached (page_limit s) h))
      (λ e.
      let parts = and_parts (not (is_asked n)) (list_any (holds_paged shares n) list) e in
      let one = some_of (holds_paged shares n) list parts.1 in
      let is = there n one.0 one.1 in
      let number_is : is.piece.number ≡ one.0 = found_number all one.0 is.piece is.found in
      let kept : keeps is.piece ≡ true = or_first (holds_piece shares is.piece.number) (is_gathered blobs rows is.piece.blob) (ap
      (holds_piece shares) number_is ∙ is.held) in
      ap (list_any (in_this n)) (sym reached_are)
      ∙ any_found (λ (piece : Piece). piece.number == one.0) (in_this n) (filter keeps all) is.piece (found_filter (λ
      (piece : Piece). piece.number == one.0) keeps all is.piece is.found kept)
      (ap (is_page n) is.place_is ∙ eq-eqb n n refl))
      (λ e.
      some_passing (λ (piece : Piece). (FoundIn all piece.number piece) × IsApart s h shares rows piece) ((not (is_asked n) && list_any
      (holds_paged shares n) list) ≡ true) keeps (in_this n) all
      (for_both (λ (piece : Piece). FoundIn all piece.number piece) (IsApart s h shares rows) (λ (piece : Piece).
      (FoundIn all piece.number piece) × IsApart s h shares rows piece) all
      (λ piece one two. (one, two)) numbers_found apart)
      (λ piece facts_are kept is.
      let at = page_place n (place (page_limit s) h piece) is in
      ⊎_elim
      (λ (held : holds_piece shares piece.number ≡ true).
      let here = held_there n piece facts_are.0 held at in
      let free = (there n piece.number here).unasked in
      both (not (is_asked n)) (list_any (holds_paged shares n) list) (ap not free) (any_at (holds_paged shares n) piece.number list here
      (listed n list piece written at)))
      (λ (gathers : is_gathered blobs rows piece.blob ≡ true). absurd (in_memory_not n (sym (facts_are.1 gathers).1 ∙ at)))
      (or_cases (holds_piece shares piece.number) (is_gathered blobs rows piece.blob) kept)) (ap (list_any (in_this n)) reached_are ∙ e))

  -- so what an item has in a page file is what is reached there
  pub held_in : (n : ℕ) → AllByRecursion (λ (piece : Piece). holds_paged shares n piece.number
      ≡ (is_held (builds (page_limit s) h) shares rows piece && is_page n (place (page_limit s) h piece))) (pieces (page_limit s) h)
  held_in n =
      for_both (λ (piece : Piece). FoundIn all piece.number piece) (IsApart s h shares rows)
      (λ (piece : Piece). holds_paged shares n piece.number ≡ (keeps piece && in_this n piece)) all
      (λ piece found gathers. iff_true (holds_paged shares n piece.number) (keeps piece && in_this n piece)
      (λ e.
      let is = there n piece.number e in
      let same : is.piece ≡ piece = cc (sym is.found ∙ found) in
      both (keeps piece) (in_this n piece)
      (or_first (holds_piece shares piece.number) (is_gathered blobs rows piece.blob) is.held)
      (ap (in_this n) (sym same) ∙ ap (is_page n) is.place_is ∙ eq-eqb n n refl))
      (λ e.
      let parts = and_parts (keeps piece) (in_this n piece) e in
      let at = page_place n (place (page_limit s) h piece) parts.1 in
      ⊎_elim (λ (held : holds_piece shares piece.number ≡ true). held_there n piece found held at)
      (λ (gathered_now : is_gathered blobs rows piece.blob ≡ true). absurd (in_memory_not n (sym (gathers gathered_now).1 ∙ at)))
      (or_cases (holds_piece shares piece.number) (is_gathered blobs rows piece.blob) parts.0))) numbers_found apart

  -- ---- all page files

  abbrev reaches_in : Page → Bool
  reaches_in page = nat_lt 0 (length (in_page_of h blobs page (reached (page_limit s) h)))

  sheet_has : (a : Bool) (size : ℕ) (held : List (ℕ × ℕ × ℕ)) (b : Bool) → has_some held ≡ b → sheet_held (cond a gone (whole size held)) ≡ (not a && b)
  sheet_has true size held b e = refl
  sheet_has false size held b e = e

  sheet_costs : (a : Bool) (size : ℕ) (held : List (ℕ × ℕ × ℕ))
      → cond (sheet_held (cond a gone (whole size held))) (sheet_size (cond a gone (whole size held))) 0 ≡ cond (sheet_held (cond a gone
      (whole size held))) size 0
  sheet_costs true size held = refl
  sheet_costs false size held = refl

  -- the charge and the number of page files, from a number on
  abbrev AreCharged : ℕ → List (Option (List ℕ)) → List FilePage → Type 0
  AreCharged n written list =
      (page_charge list ≡ sum_by (page_size all) (filter reaches_in (numbered_pages n written))) × (held_count list ≡ length (filter reaches_in
      (numbered_pages n written)))

  one_more : (b : Bool) (page : FilePage) (list : List FilePage) (file : Page) (others : List Page) → is_held_page page ≡ b
      → charge_of page ≡ cond b (page_size all file) 0
      → (page_charge list ≡ sum_by (page_size all) others) × (held_count list ≡ length others)
      → (page_charge (page ∷ list) ≡ sum_by (page_size all) (cond b (file ∷ others) others)) × (held_count (page ∷ list) ≡ length (cond b
      (file ∷ others) others))
  one_more true page list file others held costs more =
      let sums = more.0 in
      let counts = more.1 in
      let one = ap {B = ℕ} (λ (b : Bool). cond b 1 0) held in (
        omega (arith, costs, sums, sum_by-cons charge_of page list, sum_by-cons (page_size all) file others),
        omega (arith, counts, one, sum_by-cons (λ (each : FilePage). cond (is_held_page each) 1 0) page list),
      )
  one_more false page list file others held costs more =
      let sums = more.0 in
      let counts = more.1 in
      let one = ap {B = ℕ} (λ (b : Bool). cond b 1 0) held in (
        omega (arith, costs, sums, sum_by-cons charge_of page list),
        omega (arith, counts, one, sum_by-cons (λ (each : FilePage). cond (is_held_page each) 1 0) page list),
      )

  pages_charged : (n : ℕ) (written : List (Option (List ℕ))) (list : List FilePage) → ((j : ℕ) → get_or (writes h) (n + j) None ≡ get_or written j None)
      → map sheet list ≡ sheets_from all (holds_paged shares) (asked h) n written → AreCharged n written list
  pages_charged n [] [] at e = (refl, refl)
  pages_charged n [] (page ∷ list) at e = absurd (cc e)
  pages_charged n (one ∷ more) [] at e = absurd (cc e)
  pages_charged n (None ∷ more) (page ∷ list) at e =
      let is : sheet page ≡ torn = cc in
      let later : map sheet list ≡ sheets_from all (holds_paged shares) (asked h) (n + 1) more = cc in
      one_more false page list (record { number = n; pieces = [] }) (filter reaches_in (numbered_pages (n + 1) more)) (same_held page ∙ ap sheet_held is)
      (same_charge page ∙ ap (λ (x : Sheet). cond (sheet_held x) (sheet_size x) 0) is)
      (pages_charged (n + 1) more list (λ j. ap (λ (k : ℕ). get_or (writes h) k None) (shift j) ∙ at (suc j)) later)
    where
      shift : (j : ℕ) → (n + 1) + j ≡ n + suc j
      shift j = omega arith
  pages_charged n (Some numbers ∷ more) (page ∷ list) at e =
      let is : sheet page ≡ sheet_of all (holds_paged shares) (asked h) n (Some numbers) = cc in
      let later : map sheet list ≡ sheets_from all (holds_paged shares) (asked h) (n + 1) more = cc in
      let written : get_or (writes h) n None ≡ Some numbers = ap (λ (k : ℕ). get_or (writes h) k None) (sym plain) ∙ at 0 in
      let file : Page = record { number = n; pieces = numbers } in
      let size : ℕ = sum_by (length_in all) numbers in
      let there_now : List (ℕ × ℕ × ℕ) = placed_from all (holds_paged shares n) 0 numbers in
      let held_as : sheet_held (cond (is_asked n) gone (whole size there_now)) ≡ reaches_in file =
      sheet_has (is_asked n) size there_now (list_any (holds_paged shares n) numbers) (placed_some all (holds_paged shares n) 0 numbers)
      ∙ page_has n numbers written ∙ sym (some_length (in_this n) (reached (page_limit s) h)) in
      one_more (reaches_in file) page list file (filter reaches_in (numbered_pages (n + 1) more)) (same_held page ∙ ap sheet_held is ∙ held_as)
      (same_charge page ∙ ap (λ (x : Sheet). cond (sheet_held x) (sheet_size x) 0) is ∙ sheet_costs (is_asked n) size there_now
      ∙ ap {B = ℕ} (λ (b : Bool). cond b size 0) held_as)
      (pages_charged (n + 1) more list (λ j. ap (λ (k : ℕ). get_or (writes h) k None) (shift j) ∙ at (suc j)) later)
    where
      shift : (j : ℕ) → (n + 1) + j ≡ n + suc j
      shift j = omega arith

      plain : n + 0 ≡ n
      plain = omega arith

  pub disk_told : DiskIsTold (page_limit s) h files
  disk_told =
      let charged = pages_charged 0 (writes h) files.pages (λ j. ap (λ (k : ℕ). get_or (writes h) k None) (nothing j)) contents.page_files_stand.sheets in
      let pages_are : sum_by (page_size all) (filter reaches_in (numbered_pages 0 (writes h))) ≡ sum_by (page_size all) (filter reaches_in (pages h)) =
      ap (λ (xs : List Page). sum_by (page_size all) (filter reaches_in xs)) (sym paged.in_turn) in
      let held = charged.0 in
      let set_aside = contents.page_files_stand.reserved in
      let told = reserved_is_told s h stands book shares rows quota files order contents exact rest counted apart in
      let job = job_charged in
      record {
        charged = omega (arith, held, pages_are, set_aside, told, job);
        many = charged.1 ∙ ap (λ (xs : List Page). length (filter reaches_in xs)) (sym paged.in_turn);
      }
    where
      nothing : (j : ℕ) → 0 + j ≡ j
      nothing j = omega arith
