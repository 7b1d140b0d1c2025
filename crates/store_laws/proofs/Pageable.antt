-- Whether a piece may be paged is read off its item and the job in flight.
use Rattle.std.proofs.Common.{◌≡◌, ℕ, ◌==◌, ◌&&◌, ◌||◌, not, Bool, true, false, cond, List, [], ◌∷◌, Option, Some, None, length, refl, ap, subst, sym, ◌∙◌}
use Rattle.std.specs.Prelude.{filter, find, IfSome, IsSomeAnd}
use Rattle.std.specs.List.{list_any, AllByRecursion}
use Rattle.std.specs.Option.{option_map, option_map_or}
use Rattle.std.proofs.lemmas.Bool.{eq-eqb, eqb-true}
use Rattle.item_shares.specs.Shares.{item_at}
use Rattle.item_shares.specs.declared.item.Item.{Item}
use Rattle.item_shares.specs.declared.item.Item.TheVariants.{Memory, Paged, Reserved, File, Range}
use Rattle.item_shares.specs.declared.shares.Share.{Share}
use Rattle.blob_entries.specs.Book.{Book}
use Rattle.model_bridges.specs.Bridges.{held_numbers, job_as}
use Rattle.page_files.specs.Files.{Files}
use Rattle.page_files.specs.declared.held.Held.{Held}
use Rattle.page_files.specs.declared.job.Job.{Job}
use Rattle.quota_queue.specs.Queue.{Queue}
use Rattle.blob_model.specs.Builds.{builds}
use Rattle.blob_model.specs.History.{History}
use Rattle.blob_model.specs.Jobs.{Job as JobSaid, in_flight, is_in_job}
use Rattle.blob_model.specs.Pages.{Place, in_memory, in_page, is_memory, place, reserved}
use Rattle.blob_model.specs.Pieces.{Piece, pieces}
use Rattle.blob_model.specs.Session.{Session, page_limit}
use Rattle.blob_model.specs.Standing.{is_done}
use Rattle.blob_model.specs.Victims.{with_length}
use Rattle.blob_model.proofs.Lists.{false_true, for_each}
use Rattle.blob_model.proofs.builds.PieceNumbers.{all_by_number, pieces_numbered}
use Rattle.store_laws.specs.Cells.{piece_in}
use Rattle.store_laws.specs.Items.{holds_piece, piece_at, piece_by, piece_of_item, is_number, IsPlaced}
use Rattle.store_laws.specs.PageFiles.{with_held}
use Rattle.store_laws.specs.Pageable.{is_flying, pageable_if, PiecesMayBePaged}
use Rattle.store_laws.specs.Rows.{Row, is_gathered}
use Rattle.store_laws.specs.Stands.{ContentsStand}
use Rattle.store_laws.specs.Uses.{facts_of, held_pieces, pageable_of}
use Rattle.store_laws.proofs.HeldCounts.{at_slot}
use Rattle.store_laws.proofs.PassUses.{three}

-- ---- the piece of a number among those that pass a test

module _ (q : Piece → Bool) (number : ℕ) where
  pub none_passes : (list : List Piece) → AllByRecursion (λ (piece : Piece). piece.number ≡ number → q piece ≡ false) list
      → find (λ (piece : Piece). piece.number == number) (filter q list) ≡ None
  none_passes [] all = refl
  none_passes (piece ∷ list) all = go (q piece) refl (piece.number == number) refl (none_passes list all.1)
    where
      go : (a : Bool) → q piece ≡ a → (b : Bool) → (piece.number == number) ≡ b
          → find (λ (each : Piece). each.number == number) (filter q list) ≡ None
          → find (λ (each : Piece). each.number == number) (cond {A = List Piece} a (piece ∷ filter q list) (filter q list)) ≡ None
      go true passes true is rest = absurd (false_true (sym (all.0 (eqb-true piece.number number is)) ∙ passes))
      go true passes false is rest =
          ap {B = Option Piece} (λ (b : Bool). cond b (Some piece) (find (λ (each : Piece). each.number == number) (filter q list))) is ∙ rest
      go false passes b is rest = rest

  passing : (list : List Piece) (one : Piece) → q one ≡ true → find (λ (piece : Piece). piece.number == number) list ≡ Some one
      → find (λ (piece : Piece). piece.number == number) (filter q list) ≡ Some one
  passing [] one passes at = absurd (cc at)
  passing (piece ∷ list) one passes at = go (piece.number == number) refl at (q piece) refl (passing list one passes)
    where
      go : (b : Bool) → (piece.number == number) ≡ b → cond b (Some piece) (find (λ (each : Piece). each.number == number) list) ≡ Some one → (a : Bool)
          → q piece ≡ a
          → (find (λ (each : Piece). each.number == number) list ≡ Some one
          → find (λ (each : Piece). each.number == number) (filter q list) ≡ Some one)
          → find (λ (each : Piece). each.number == number) (cond {A = List Piece} a (piece ∷ filter q list) (filter q list)) ≡ Some one
      go true is at true so rest =
          ap {B = Option Piece} (λ (b : Bool). cond b (Some piece) (find (λ (each : Piece). each.number == number) (filter q list))) is ∙ at
      go true is at false so rest = let same : piece ≡ one = cc at in absurd (false_true (sym so ∙ ap q same ∙ passes))
      go false is at true so rest =
          ap {B = Option Piece} (λ (b : Bool). cond b (Some piece) (find (λ (each : Piece). each.number == number) (filter q list))) is ∙ rest at
      go false is at false so rest = rest at

-- ---- the job in flight

pub numbers_any : (number : ℕ) (list : List Held) → list_any (λ (named : ℕ). named == number) (held_numbers list)
    ≡ list_any (λ (held : Held). held.piece.0 == number) list
numbers_any number [] = refl
numbers_any number (held ∷ list) = ap (λ (b : Bool). (held.piece.0 == number) || b) (numbers_any number list)

pub filter_any : (test : ℕ → Bool) (number : ℕ) → test number ≡ true → (list : List ℕ)
    → list_any (λ (named : ℕ). named == number) (filter test list) ≡ list_any (λ (named : ℕ). named == number) list
filter_any test number passes [] = refl
filter_any test number passes (named ∷ list) = go (test named) refl (filter_any test number passes list)
  where
    go : (a : Bool) → test named ≡ a
        → list_any (λ (each : ℕ). each == number) (filter test list) ≡ list_any (λ (each : ℕ). each == number) list
        → list_any (λ (each : ℕ). each == number) (cond {A = List ℕ} a (named ∷ filter test list) (filter test list))
        ≡ ((named == number) || list_any (λ (each : ℕ). each == number) list)
    go true is rest = ap (λ (b : Bool). (named == number) || b) rest
    go false is rest = by (named == number) refl
      where
        by : (b : Bool) → (named == number) ≡ b
            → list_any (λ (each : ℕ). each == number) (filter test list) ≡ (b || list_any (λ (each : ℕ). each == number) list)
        by true at = absurd (false_true (sym is ∙ ap test (eqb-true named number at) ∙ passes))
        by false at = rest

pub flies : (number : ℕ) (job : Option Job) (flying : Option JobSaid) (held : ℕ → Bool) → held number ≡ true
    → option_map job_as job ≡ option_map (with_held held) flying
    → option_map_or (λ (one : JobSaid). list_any (λ (named : ℕ). named == number) one.pieces) flying false ≡ is_flying number job
flies number None None held has same = refl
flies number None (Some one) held has same = absurd (cc same)
flies number (Some job) None held has same = absurd (cc same)
flies number (Some job) (Some one) held has same =
    let jobs : job_as job ≡ with_held held one = cc same in
    sym (filter_any held number has one.pieces)
    ∙ ap (λ (each : JobSaid). list_any (λ (named : ℕ). named == number) each.pieces) (sym jobs) ∙ numbers_any number job.pieces

-- ---- one piece

module _ (s : Session) (h : History) (stands : ℕ → Bool) (book : Book) (shares : List (Option Share)) (rows : List (Option Row)) (quota : Queue)
    (files : Files) (order : List (ℕ × ℕ)) (contents : ContentsStand s h stands book shares rows quota files order) (one : Piece)
    (found : piece_in (pieces (page_limit s) h) one.number ≡ Some one) (done : is_done h one.blob ≡ true)
    (apart : is_gathered (builds (page_limit s) h) rows one.blob ≡ false) where
  abbrev all : List Piece
  all = pieces (page_limit s) h

  abbrev number : ℕ
  number = one.number

  abbrev passes : Piece → Bool
  passes piece =
      ((holds_piece shares piece.number || is_gathered (builds (page_limit s) h) rows piece.blob) && is_memory (place (page_limit s) h piece))
      && (is_done h piece.blob && not (is_in_job h piece.number))

  abbrev told : Option (ℕ × ℕ)
  told = with_length (pageable_of (page_limit s) h (held_pieces (page_limit s) h shares rows)) number

  as_one : told ≡ with_length (filter passes all) number
  as_one =
      ap (λ (list : List Piece). with_length list number)
      (three (λ (piece : Piece). holds_piece shares piece.number || is_gathered (builds (page_limit s) h) rows piece.blob)
      (λ (piece : Piece). is_memory (place (page_limit s) h piece)) (λ (piece : Piece). is_done h piece.blob && not (is_in_job h piece.number)) all)

  if_passes : passes one ≡ true → told ≡ Some (number, one.len)
  if_passes is = as_one ∙ ap (option_map (λ (piece : Piece). (piece.number, piece.len))) (passing passes number all one is found)

  if_fails : passes one ≡ false → told ≡ None
  if_fails is =
      as_one
      ∙ ap (option_map (λ (piece : Piece). (piece.number, piece.len)))
      (none_passes passes number all
      (for_each (λ (piece : Piece). piece_in all piece.number ≡ Some piece) (λ (piece : Piece). piece.number ≡ number → passes piece ≡ false) all
      (λ piece at same. let is_one : piece ≡ one = cc (sym at ∙ ap (piece_in all) same ∙ found) in ap passes is_one ∙ is)
      (all_by_number 0 all (pieces_numbered (page_limit s) 0 (builds (page_limit s) h)))))

  unheld_fails : holds_piece shares number ≡ false → passes one ≡ false
  unheld_fails is =
      λ i. ((is i || apart i) && is_memory (place (page_limit s) h one)) && (is_done h one.blob && not (is_in_job h number))

  elsewhere_fails : (at : Place) → place (page_limit s) h one ≡ at → is_memory at ≡ false → passes one ≡ false
  elsewhere_fails at is none =
      ap (λ (b : Bool). ((holds_piece shares number || is_gathered (builds (page_limit s) h) rows one.blob) && b)
      && (is_done h one.blob && not (is_in_job h number))) (ap is_memory is ∙ none)
      ∙ nothing (holds_piece shares number || is_gathered (builds (page_limit s) h) rows one.blob)
    where
      nothing : (a : Bool) → ((a && false) && (is_done h one.blob && not (is_in_job h number))) ≡ false
      nothing true = refl
      nothing false = refl

  memory_passes : holds_piece shares number ≡ true → place (page_limit s) h one ≡ in_memory → passes one ≡ not (is_flying number files.job)
  memory_passes has at =
      λ i. (((has i || is_gathered (builds (page_limit s) h) rows one.blob) && is_memory (at i))
      && (done i && not (flies number files.job (in_flight h) (holds_piece shares) has contents.page_files_stand.job i)))

  module _ (slot : ℕ) (home : holds_piece shares number ≡ true → piece_at shares slot ≡ Some number) where
    unless_held : (held : Option Item) → item_at shares slot ≡ held → (piece_by held ≡ Some number → false ≡ true) → told ≡ None
    unless_held held at other =
        if_fails (unheld_fails (by (holds_piece shares number) refl))
      where
        by : (b : Bool) → holds_piece shares number ≡ b → holds_piece shares number ≡ false
        by false is = is
        by true is = absurd (false_true (other (sym (ap piece_by at) ∙ home is)))

    is_here : (item : Item) → item_at shares slot ≡ Some item → piece_of_item item ≡ Some number → holds_piece shares number ≡ true
    is_here item at is =
        at_slot number slot shares (ap (is_number number) (ap piece_by at ∙ is) ∙ eq-eqb number number refl)

    by_item : (held : Option Item) → item_at shares slot ≡ held → IfSome held (IsPlaced all (facts_of s h))
        → told ≡ pageable_if number (is_flying number files.job) held
    by_item None at placed = unless_held None at (λ e. absurd (cc e))
    by_item (Some (File name stamp off len)) at placed = unless_held (Some (File name stamp off len)) at (λ e. absurd (cc e))
    by_item (Some (Range k off len)) at placed = unless_held (Some (Range k off len)) at (λ e. absurd (cc e))
    by_item (Some (Memory piece bytes)) at placed = go (piece.0 == number) refl (is_flying number files.job) refl
      where
        go : (a : Bool) → (piece.0 == number) ≡ a → (b : Bool) → is_flying number files.job ≡ b
            → told ≡ cond {A = Option (ℕ × ℕ)} (a && not b) (Some (number, length bytes)) None
        go false is b flying = unless_held (Some (Memory piece bytes)) at (λ e. sym is ∙ eq-eqb piece.0 number (let same : piece.0 ≡ number = cc e in same))
        go true is b flying = by b flying
          where
            same : piece.0 ≡ number
            same = eqb-true piece.0 number is

            here : ((facts_of s h).granted one ≡ true) × ((facts_of s h).place one ≡ in_memory) × (bytes ≡ (facts_of s h).bytes one) × (length bytes ≡ one.len)
            here = subst (λ (o : Option Piece). IsSomeAnd o (λ (each : Piece).
                ((facts_of s h).granted each ≡ true) × ((facts_of s h).place each ≡ in_memory) × (bytes ≡ (facts_of s h).bytes each)
                × (length bytes ≡ each.len))) (ap (piece_in all) same ∙ found) placed

            so : passes one ≡ not (is_flying number files.job)
            so = memory_passes (is_here (Memory piece bytes) at (ap Some same)) here.1

            by : (b : Bool) → is_flying number files.job ≡ b → told ≡ cond {A = Option (ℕ × ℕ)} (not b) (Some (number, length bytes)) None
            by true flying = if_fails (so ∙ ap not flying)
            by false flying = if_passes (so ∙ ap not flying) ∙ ap (λ (n : ℕ). Some (number, n)) (sym here.3)
    by_item (Some (Paged piece page off len)) at placed = go (piece.0 == number) refl
      where
        go : (a : Bool) → (piece.0 == number) ≡ a → told ≡ None
        go false is = unless_held (Some (Paged piece page off len)) at (λ e. sym is ∙ eq-eqb piece.0 number (let same : piece.0 ≡ number = cc e in same))
        go true is =
            let here = subst (λ (o : Option Piece). IsSomeAnd o (λ (each : Piece).
            ((facts_of s h).granted each ≡ true) × ((facts_of s h).place each ≡ in_page page.0) × (off ≡ (facts_of s h).offset each) × (len ≡ each.len)))
            (ap (piece_in all) (eqb-true piece.0 number is) ∙ found) placed in
            if_fails (elsewhere_fails (in_page page.0) here.1 refl)
    by_item (Some (Reserved piece len)) at placed = go (piece.0 == number) refl
      where
        go : (a : Bool) → (piece.0 == number) ≡ a → told ≡ None
        go false is = unless_held (Some (Reserved piece len)) at (λ e. sym is ∙ eq-eqb piece.0 number (let same : piece.0 ≡ number = cc e in same))
        go true is =
            let here = subst (λ (o : Option Piece). IsSomeAnd o (λ (each : Piece).
            ((facts_of s h).granted each ≡ true) × ((facts_of s h).place each ≡ reserved) × (len ≡ each.len)))
            (ap (piece_in all) (eqb-true piece.0 number is) ∙ found) placed in
            if_fails (elsewhere_fails reserved here.1 refl)

pub pieces_may_be_paged : PiecesMayBePaged
pieces_may_be_paged s h stands book shares rows quota files order contents one found done apart slot home =
    by_item s h stands book shares rows quota files order contents one found done apart slot home (item_at shares slot) refl (contents.items.each slot)
