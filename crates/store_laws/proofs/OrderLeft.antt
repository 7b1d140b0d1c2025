-- The order of use of the pieces that are left when items go.
use Rattle.std.proofs.Common.{◌≡◌, ℕ, ◌==◌, ◌&&◌, ◌||◌, not, Bool, true, false, cond, List, [], ◌∷◌, map, reverse, refl, ap, subst, sym, ◌∙◌, Option, Some, None}
use Rattle.std.specs.Prelude.{filter, filter_map, find, fold, is_none, nat_eq}
use Rattle.std.specs.Option.{option_map, option_map_or}
use Rattle.std.specs.List.{cons_option, list_any}
use Rattle.std.proofs.lemmas.Bool.{and_parts, eqb-true}
use Rattle.blob_words.specs.declared.status.Status.{Status}
use Rattle.item_shares.specs.declared.item.Item.{Item}
use Rattle.item_shares.specs.declared.item.Item.TheVariants.{Memory, Paged, Reserved, File, Range}
use Rattle.item_shares.specs.declared.shares.Share.{Share}
use Rattle.recent_items.specs.Recent.{without}
use Rattle.blob_model.specs.Builds.{Build, builds}
use Rattle.blob_model.specs.History.{History}
use Rattle.blob_model.specs.Jobs.{is_in_job}
use Rattle.blob_model.specs.Live.{is_live}
use Rattle.blob_model.specs.Pages.{is_memory, place_in}
use Rattle.blob_model.specs.Pieces.{Piece, pieces}
use Rattle.blob_model.specs.Session.{Session, page_limit}
use Rattle.blob_model.specs.Standing.{ended, is_done, is_done_status, is_unfinished}
use Rattle.blob_model.specs.Victims.{last_uses, with_length}
use Rattle.blob_model.proofs.Lists.{false_true}
use Rattle.blob_model.proofs.settled.Pass.{drops_do}
use Rattle.registry_laws.proofs.Left.{drops_keep}
use Rattle.store_laws.specs.Items.{AreOnePerPiece, holds_piece}
use Rattle.store_laws.specs.LetGo.{left_by, AreFreed, OrderLetGo}
use Rattle.store_laws.specs.Rows.{Coming, Row, bare, coming_by, gathering, gathers, is_gathered, row_of, rows_of, settled, waiting, without_slots, writing}
use Rattle.store_laws.specs.Settling.{after_drops}
use Rattle.store_laws.specs.Uses.{held_pieces, is_held, order_of, pageable_of}
use Rattle.store_laws.proofs.Letting.{filter_same, filter_twice, holds_any, is_of, left_in, number_of_piece}

-- ---- the order without what goes

not_either : (a b : Bool) → (not a && not b) ≡ not (a || b)
not_either true b = refl
not_either false b = refl

all_pass : (order : List (ℕ × ℕ)) → order ≡ filter (λ (entry : ℕ × ℕ). true) order
all_pass [] = refl
all_pass (entry ∷ order) = ap (λ (list : List (ℕ × ℕ)). entry ∷ list) (all_pass order)

module _ (freed : List Item) where
  abbrev stays_in : ℕ × ℕ → Bool
  stays_in entry = not (list_any (is_of entry.0) freed)

  one_out : (number : ℕ) (order : List (ℕ × ℕ))
      → filter stays_in (without number order) ≡ filter (λ (entry : ℕ × ℕ). not ((number == entry.0) || list_any (is_of entry.0) freed)) order
  one_out number order =
      filter_twice (λ (entry : ℕ × ℕ). not (nat_eq number entry.0)) stays_in order
      ∙ filter_same (λ (entry : ℕ × ℕ). not (nat_eq number entry.0) && stays_in entry)
      (λ (entry : ℕ × ℕ). not ((number == entry.0) || list_any (is_of entry.0) freed)) order
      (λ entry. not_either (number == entry.0) (list_any (is_of entry.0) freed))

pub order_fold : (freed : List Item) (order : List (ℕ × ℕ)) → fold left_by order freed ≡ filter (stays_in freed) order
order_fold [] order = all_pass order
order_fold (Memory piece bytes ∷ freed) order = order_fold freed (without piece.0 order) ∙ one_out freed piece.0 order
order_fold (Paged piece page off len ∷ freed) order = order_fold freed (without piece.0 order) ∙ one_out freed piece.0 order
order_fold (Reserved piece len ∷ freed) order = order_fold freed (without piece.0 order) ∙ one_out freed piece.0 order
order_fold (File name stamp off len ∷ freed) order = order_fold freed order
order_fold (Range slot off len ∷ freed) order = order_fold freed order

-- ---- pieces by number

abbrev sized : Piece → ℕ × ℕ
sized piece = (piece.number, piece.len)

nothing : (b : Bool) → None ≡ cond {A = Option (ℕ × ℕ)} b None None
nothing true = refl
nothing false = refl

module _ (test : ℕ → Bool) where
  abbrev pub passing : List Piece → List Piece
  passing list = filter (λ (piece : Piece). test piece.number) list

  pub length_left : (list : List Piece) (n : ℕ) → with_length (passing list) n ≡ cond (test n) (with_length list n) None
  length_left [] n = nothing (test n)
  length_left (piece ∷ list) n = go (test piece.number) refl (piece.number == n) refl (length_left list n)
    where
      go : (b : Bool) → test piece.number ≡ b → (c : Bool) → (piece.number == n) ≡ c
          → option_map sized (find (λ (one : Piece). one.number == n) (passing list))
          ≡ cond (test n) (option_map sized (find (λ (one : Piece). one.number == n) list)) None
          → option_map sized (find (λ (one : Piece). one.number == n) (cond b (piece ∷ passing list) (passing list)))
          ≡ cond (test n) (option_map sized (cond {A = Option Piece} (piece.number == n) (Some piece) (find (λ (one : Piece). one.number == n) list))) None
      go true at true is rest =
          let passes : test n ≡ true = subst (λ (m : ℕ). test m ≡ true) (eqb-true piece.number n is) at in
          ap (λ (c : Bool). option_map sized (cond {A = Option Piece} c (Some piece) (find (λ (one : Piece). one.number == n) (passing list)))) is
          ∙ sym (ap (λ (b : Bool). cond {A = Option (ℕ × ℕ)} b (Some (sized piece)) None) passes)
          ∙ sym (ap (λ (c : Bool).
          cond (test n) (option_map sized (cond {A = Option Piece} c (Some piece) (find (λ (one : Piece). one.number == n) list))) None) is)
      go true at false is rest =
          ap (λ (c : Bool). option_map sized (cond {A = Option Piece} c (Some piece) (find (λ (one : Piece). one.number == n) (passing list)))) is
          ∙ rest
          ∙ sym (ap (λ (c : Bool).
          cond (test n) (option_map sized (cond {A = Option Piece} c (Some piece) (find (λ (one : Piece). one.number == n) list))) None) is)
      go false at true is rest =
          let fails : test n ≡ false = subst (λ (m : ℕ). test m ≡ false) (eqb-true piece.number n is) at in
          rest
          ∙ ap (λ (b : Bool). cond b (option_map sized (find (λ (one : Piece). one.number == n) list)) None) fails
          ∙ sym (ap (λ (b : Bool).
          cond b (option_map sized (cond {A = Option Piece} (piece.number == n) (Some piece) (find (λ (one : Piece). one.number == n) list))) None) fails)
      go false at false is rest =
          rest
          ∙ sym (ap (λ (c : Bool).
          cond (test n) (option_map sized (cond {A = Option Piece} c (Some piece) (find (λ (one : Piece). one.number == n) list))) None) is)

  pub number_kept : (list : List Piece) (n : ℕ) (entry : ℕ × ℕ) → with_length list n ≡ Some entry → entry.0 ≡ n
  number_kept [] n entry e = absurd (cc e)
  number_kept (piece ∷ list) n entry e = go (piece.number == n) refl e (number_kept list n entry)
    where
      go : (c : Bool) → (piece.number == n) ≡ c
          → option_map sized (cond {A = Option Piece} c (Some piece) (find (λ (one : Piece). one.number == n) list)) ≡ Some entry
          → (with_length list n ≡ Some entry → entry.0 ≡ n) → entry.0 ≡ n
      go true is e rest = let same : sized piece ≡ entry = cc e in sym (ap (λ (one : ℕ × ℕ). one.0) same) ∙ eqb-true piece.number n is
      go false is e rest = rest e

  pub uses_left : (list : List Piece) (uses : List ℕ)
      → filter_map (λ (n : ℕ). cond (test n) (with_length list n) None) uses
      ≡ filter (λ (entry : ℕ × ℕ). test entry.0) (filter_map (with_length list) uses)
  uses_left list [] = refl
  uses_left list (n ∷ uses) =
      go (with_length list n) (filter_map (with_length list) uses) (filter_map (λ (m : ℕ). cond (test m) (with_length list m) None) uses) refl
      (uses_left list uses)
    where
      go : (found : Option (ℕ × ℕ)) (tail left : List (ℕ × ℕ)) → with_length list n ≡ found → left ≡ filter (λ (one : ℕ × ℕ). test one.0) tail
          → cons_option (cond (test n) found None) left ≡ filter (λ (one : ℕ × ℕ). test one.0) (cons_option found tail)
      go None tail left at rest = ap (λ (o : Option (ℕ × ℕ)). cons_option o left) (sym (nothing (test n))) ∙ rest
      go (Some entry) tail left at rest =
          let same : test entry.0 ≡ test n = ap test (number_kept list n entry at) in
          by (test n)
          ∙ ap (λ (b : Bool). cond {A = List (ℕ × ℕ)} b (entry ∷ filter (λ (one : ℕ × ℕ). test one.0) tail) (filter (λ (one : ℕ × ℕ). test one.0) tail))
          (sym same)
        where
          by : (b : Bool) → cons_option (cond b (Some entry) None) left
              ≡ cond {A = List (ℕ × ℕ)} b (entry ∷ filter (λ (one : ℕ × ℕ). test one.0) tail) (filter (λ (one : ℕ × ℕ). test one.0) tail)
          by true = ap (λ (list : List (ℕ × ℕ)). entry ∷ list) rest
          by false = rest

-- ---- pieces that pass

swapped : (h m t q h' : Bool) → (t ≡ true → h' ≡ (h && q)) → ((h' && m) && t) ≡ (((h && m) && t) && q)
swapped h m true q h' same = ap (λ (b : Bool). (b && m) && true) (same refl) ∙ by h m q
  where
    by : (h m q : Bool) → (((h && q) && m) && true) ≡ (((h && m) && true) && q)
    by true true true = refl
    by true true false = refl
    by true false true = refl
    by true false false = refl
    by false m q = refl
swapped h m false q h' same = none (h' && m) ∙ sym (ap (λ (b : Bool). b && q) (none (h && m)))
  where
    none : (b : Bool) → (b && false) ≡ false
    none true = refl
    none false = refl

pub passing_left : (H H' M T q : Piece → Bool) (list : List Piece) → ((piece : Piece) → T piece ≡ true → H' piece ≡ (H piece && q piece))
    → filter T (filter M (filter H' list)) ≡ filter q (filter T (filter M (filter H list)))
passing_left H H' M T q list same =
    ap (filter T) (filter_twice H' M list) ∙ filter_twice (λ (piece : Piece). H' piece && M piece) T list
    ∙ filter_same (λ (piece : Piece). (H' piece && M piece) && T piece) (λ (piece : Piece). ((H piece && M piece) && T piece) && q piece) list
    (λ piece. swapped (H piece) (M piece) (T piece) (q piece) (H' piece) (same piece))
    ∙ sym (filter_twice (λ (piece : Piece). (H piece && M piece) && T piece) q list)
    ∙ sym (ap (filter q) (filter_twice (λ (piece : Piece). H piece && M piece) T list))
    ∙ sym (ap (λ (one : List Piece). filter q (filter T one)) (filter_twice H M list))

-- ---- a blob that ended gathers nothing

module _ (s : Session) (h : History) (stands : ℕ → Bool) where
  pub not_gathered : (list : List Build) (rows : List (Option Row))
      → map (option_map bare) rows ≡ map (λ (build : Build). cond (stands build.name) (Some (row_of s h build)) None) list → (name : ℕ)
      → is_unfinished h name ≡ false → is_gathered list rows name ≡ false
  not_gathered [] rows e name over = refl
  not_gathered (build ∷ list) [] e name over = refl
  not_gathered (build ∷ list) (held ∷ rows) e name over = go (build.name == name) refl (not_gathered list rows rest name over)
    where
      rest : map (option_map bare) rows ≡ map (λ (build : Build). cond (stands build.name) (Some (row_of s h build)) None) list
      rest = cc e

      first : option_map bare held ≡ cond (stands build.name) (Some (row_of s h build)) None
      first = cc e

      by_coming : (coming : Coming) → without_slots coming ≡ settled → gathers coming ≡ false
      by_coming settled e = refl
      by_coming waiting e = refl
      by_coming (gathering segments) e = absurd (cc e)
      by_coming (writing slots came) e = refl

      here : is_unfinished h build.name ≡ false → (held : Option Row) (b : Bool) → option_map bare held ≡ cond b (Some (row_of s h build)) None
          → option_map_or (λ (row : Row). gathers row.coming) held false ≡ false
      here ended None b e = refl
      here ended (Some row) false e = absurd (cc e)
      here ended (Some row) true e =
          let same : bare row ≡ row_of s h build = cc e in
          by_coming row.coming (ap (λ (one : Row). one.coming) same ∙ ap (λ (b : Bool). cond b (coming_by s h build build.plan) settled) ended)

      go : (b : Bool) → (build.name == name) ≡ b → is_gathered list rows name ≡ false
          → cond b (option_map_or (λ (row : Row). gathers row.coming) held false) (is_gathered list rows name) ≡ false
      go false at later = later
      go true at later =
          here (ap (is_unfinished h) (eqb-true build.name name at) ∙ over) held (stands build.name) first

pub done_over : (h : History) (name : ℕ) → is_done h name ≡ true → is_unfinished h name ≡ false
done_over h name e = go (ended h name) e
  where
    go : (o : Option Status) → option_map_or is_done_status o false ≡ true → is_none o ≡ false
    go None e = absurd (false_true e)
    go (Some status) e = refl

pub or_none : (b c : Bool) → c ≡ false → (b || c) ≡ b
or_none true c e = refl
or_none false c e = e

-- ---- the order behind the drops

module _ (s : Session) (h : History) (stands now : ℕ → Bool) (shares later : List (Option Share)) (rows rows_now : List (Option Row)) (freed : List Item)
    (rowed : map (option_map bare) rows ≡ rows_of s h stands) (rowed_now : map (option_map bare) rows_now ≡ rows_of s (after_drops s h) now)
    (apart : AreOnePerPiece shares) (goes : AreFreed shares later freed) where
  abbrev g : History
  g = after_drops s h

  abbrev page : ℕ
  page = page_limit s

  abbrev dropped_list : List Build
  dropped_list = filter (λ (build : Build). is_unfinished h build.name && not (is_live (page_limit s) h build.name)) (reverse (builds (page_limit s) h))

  abbrev stays_out : ℕ → Bool
  stays_out n = not (list_any (is_of n) freed)

  abbrev in_memory_at : History → Piece → Bool
  in_memory_at one piece = is_memory (place_in one (builds (page_limit s) one) piece)

  abbrev can_page : History → Piece → Bool
  can_page one piece = is_done one piece.blob && not (is_in_job one piece.number)

  same_memory : in_memory_at g ≡ in_memory_at h
  same_memory = drops_keep (λ (one : History). in_memory_at one) (λ one name. refl) h dropped_list

  same_job : (n : ℕ) → is_in_job g n ≡ is_in_job h n
  same_job n = drops_keep (λ (one : History). is_in_job one n) (λ one name. refl) h dropped_list

  same_pieces : pieces (page_limit s) g ≡ pieces (page_limit s) h
  same_pieces = drops_keep (λ (one : History). pieces (page_limit s) one) (λ one name. refl) h dropped_list

  same_uses : last_uses s.limits g ≡ last_uses s.limits h
  same_uses = drops_keep (λ (one : History). last_uses s.limits one) (λ one name. refl) h dropped_list

  same_done : (name : ℕ) → is_done g name ≡ is_done h name
  same_done name = drops_do s h (reverse (builds (page_limit s) h)) name

  same_page : can_page g ≡ can_page h
  same_page = λ i piece. same_done piece.blob i && not (same_job piece.number i)

  held_left : (piece : Piece) → can_page h piece ≡ true
      → is_held (builds (page_limit s) g) later rows_now piece ≡ (is_held (builds (page_limit s) h) shares rows piece && stays_out piece.number)
  held_left piece pages =
      let done : is_done h piece.blob ≡ true = (and_parts (is_done h piece.blob) (not (is_in_job h piece.number)) pages).0 in
      let out = not_gathered s h stands (builds (page_limit s) h) rows rowed piece.blob (done_over h piece.blob done) in
      let out_now =
      not_gathered s g now (builds (page_limit s) g) rows_now rowed_now piece.blob (done_over g piece.blob (same_done piece.blob ∙ done)) in
      or_none (holds_piece later piece.number) (is_gathered (builds (page_limit s) g) rows_now piece.blob) out_now
      ∙ holds_any piece.number later
      ∙ sym (left_in (is_of piece.number) piece.number (number_of_piece piece.number) shares later freed apart goes)
      ∙ ap (λ (b : Bool). b && stays_out piece.number)
      (sym (holds_any piece.number shares) ∙ sym (or_none (holds_piece shares piece.number) (is_gathered (builds (page_limit s) h) rows piece.blob) out))

  abbrev before : List Piece
  before = pageable_of (page_limit s) h (held_pieces (page_limit s) h shares rows)

  pageable_left : pageable_of (page_limit s) g (held_pieces (page_limit s) g later rows_now) ≡ passing stays_out before
  pageable_left =
      (λ i. filter (same_page i) (filter (same_memory i) (filter (is_held (builds (page_limit s) g) later rows_now) (same_pieces i))))
      ∙ passing_left (is_held (builds (page_limit s) h) shares rows) (is_held (builds (page_limit s) g) later rows_now) (in_memory_at h) (can_page h)
      (λ (piece : Piece). stays_out piece.number) (pieces (page_limit s) h) held_left

  order_left : (order : List (ℕ × ℕ)) → order ≡ order_of s h shares rows → fold left_by order freed ≡ order_of s g later rows_now
  order_left order is =
      ap (λ (one : List (ℕ × ℕ)). fold left_by one freed) is ∙ order_fold freed (order_of s h shares rows)
      ∙ sym (uses_left stays_out before (last_uses s.limits h))
      ∙ (λ i. filter_map (λ (n : ℕ). sym (length_left stays_out before n) i) (last_uses s.limits h))
      ∙ (λ i. filter_map (with_length (sym pageable_left i)) (sym same_uses i))

pub order_let_go : OrderLetGo
order_let_go s h stands now shares later rows rows_now freed order rowed rowed_now apart goes is =
    order_left s h stands now shares later rows rows_now freed rowed rowed_now apart goes order is
