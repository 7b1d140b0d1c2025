-- The contents behind a pass: the pieces that may be paged, the page files, and all of it.
use Rattle.std.proofs.Common.{◌≡◌, ℕ, suc, ◌+◌, ◌==◌, ◌&&◌, ◌||◌, not, Bool, true, false, cond, List, []}
use Rattle.std.proofs.Common.{◌∷◌, ◌++◌, map, refl, ap, subst, sym, ◌∙◌, Option, Some, None, arith}
use Rattle.std.specs.Prelude.{is_some, filter, filter_map, find, flat_map, fold, is_none, IfSome}
use Rattle.std.specs.Option.{option_map, option_map_or, option_to_list}
use Rattle.std.specs.List.{AllByRecursion, cons_option, list_any}
use Rattle.std.proofs.lemmas.Bool.{eqb-true, eq-eqb, or_parts}
use Rattle.std.proofs.lemmas.List.Sums.{sum_by-cons}
use Rattle.blob_words.specs.declared.status.Status.{Status}
use Rattle.blob_words.specs.declared.status.Status.TheVariants as statuses
use Rattle.answer_text.specs.declared.answer.Answer.{Answer}
use Rattle.item_shares.specs.Shares.{item_at}
use Rattle.item_shares.specs.Weights.{held_weight, weights}
use Rattle.item_shares.specs.declared.item.Item.{Item}
use Rattle.item_shares.specs.declared.shares.Share.{Share}
use Rattle.blob_entries.specs.Statuses as code
use Rattle.blob_registry.specs.declared.ended_blob.EndedBlob.{EndedBlob}
use Rattle.blob_model.specs.Builds.{Build, builds}
use Rattle.blob_model.specs.History.{History, said, said_all}
use Rattle.blob_model.specs.Jobs.{is_in_job}
use Rattle.blob_model.specs.Pages.{is_memory, place_in}
use Rattle.blob_model.specs.Pieces.{Piece, pieces}
use Rattle.blob_model.specs.Session.{Session, page_limit}
use Rattle.blob_model.specs.Settle.{ending, ending_answers, endings, endings_of}
use Rattle.blob_model.specs.Standing.{ended, is_done, is_done_status, is_unfinished}
use Rattle.blob_model.specs.Victims.{last_uses, with_length}
use Rattle.blob_model.proofs.Lists.{false_true, for_each, or_first, or_second}
use Rattle.blob_model.proofs.live.Agreement.{said_append}
use Rattle.blob_model.proofs.settled.Endings.{ending_only, one_by}
use Rattle.registry_laws.specs.Laws.{ending_answer}
use Rattle.store_laws.specs.Items.{AreOnePerPiece, holds_piece}
use Rattle.store_laws.specs.LetGo.{AreFreed}
use Rattle.store_laws.specs.Passing.{after_pass, done_pieces, entered, pieces_entered, rows_passed}
use Rattle.store_laws.specs.Rows.{Row, bare, is_gathered, rows_of}
use Rattle.store_laws.specs.Uses.{held_pieces, is_held, order_of, own_pieces, pageable_of}
use Rattle.store_laws.proofs.Letting.{filter_twice, holds_any, is_of, left_in, number_of_piece}
use Rattle.store_laws.proofs.OrderLeft.{done_over, length_left, not_gathered, number_kept, or_none, passing, uses_left}
use Rattle.store_laws.proofs.PassKeeps.{endings_keep}
use Rattle.store_laws.proofs.PassOrder.{all_used, entered_same, stays, uses_said}

-- ---- items that are where they were weigh what they weighed

nothing_held : (weight : Item → ℕ) (shares : List (Option Share)) → ((slot : ℕ) → item_at shares slot ≡ None) → weights weight shares ≡ 0
nothing_held weight [] none = refl
nothing_held weight (None ∷ shares) none = nothing_held weight shares (λ slot. none (suc slot))
nothing_held weight (Some share ∷ shares) none = absurd (cc (none 0))

by_item : (weight : Item → ℕ) (held : Option Share) → held_weight weight held ≡ option_map_or weight (option_map (λ (share : Share). share.item) held) 0
by_item weight None = refl
by_item weight (Some share) = refl

pub same_weights : (weight : Item → ℕ) (later shares : List (Option Share)) → ((slot : ℕ) → item_at later slot ≡ item_at shares slot)
    → weights weight later ≡ weights weight shares
same_weights weight [] shares same = sym (nothing_held weight shares (λ slot. sym (same slot)))
same_weights weight (held ∷ later) [] same = nothing_held weight (held ∷ later) same
same_weights weight (held ∷ later) (was ∷ shares) same =
    let rest : weights weight later ≡ weights weight shares = same_weights weight later shares (λ slot. same (suc slot)) in
    let first : held_weight weight held ≡ held_weight weight was =
    by_item weight held ∙ ap (λ (o : Option Item). option_map_or weight o 0) (same 0) ∙ sym (by_item weight was) in
    sum_by-cons (held_weight weight) held later ∙ (λ i. first i + rest i) ∙ sym (sum_by-cons (held_weight weight) was shares)

pub none_freed : (shares later : List (Option Share)) → ((slot : ℕ) → item_at later slot ≡ item_at shares slot) → AreFreed shares later []
none_freed shares later same = record {
  still = λ slot. go (item_at later slot) (item_at shares slot) (same slot);
  weighs = λ weight. let all : weights weight later ≡ weights weight shares = same_weights weight later shares same in omega (arith, all);
}
  where
    go : (o was : Option Item) → o ≡ was → IfSome o (λ (item : Item). was ≡ Some item)
    go None was e = tt
    go (Some item) was e = sym e

holds_same : (shares later : List (Option Share)) → AreOnePerPiece shares → ((slot : ℕ) → item_at later slot ≡ item_at shares slot) → (number : ℕ)
    → holds_piece later number ≡ holds_piece shares number
holds_same shares later apart same number =
    holds_any number later
    ∙ sym (left_in (is_of number) number (number_of_piece number) shares later [] apart (none_freed shares later same))
    ∙ whole _ ∙ sym (holds_any number shares)
  where
    whole : (b : Bool) → (b && true) ≡ b
    whole true = refl
    whole false = refl

-- ---- who ended before the pass ended so

pub ended_kept : (s : Session) (g : History) (list : List Build) (name : ℕ) → is_unfinished g name ≡ false
    → ended (said_all g (endings_of s g list)) name ≡ ended g name
ended_kept s g [] name over = refl
ended_kept s g (build ∷ list) name over =
    let here : ended (said_all g (ending_answers s g build)) name ≡ ended g name = by (build.name == name) refl in
    ap (λ (h : History). ended h name) (said_append g (ending_answers s g build) (endings_of s (said_all g (ending_answers s g build)) list))
    ∙ ended_kept s (said_all g (ending_answers s g build)) list name (ap (λ (o : Option Status). is_none o) here ∙ over)
    ∙ here
  where
    by : (b : Bool) → (build.name == name) ≡ b → ended (said_all g (ending_answers s g build)) name ≡ ended g name
    by false at =
        one_by s g build (λ (xs : List Answer). ended (said_all g xs) name ≡ ended g name) refl (λ answer e. ending_only s g build answer name e at)
    by true at =
        let none : is_unfinished g build.name ≡ false = ap (is_unfinished g) (eqb-true build.name name at) ∙ over in
        ap (λ (b : Bool). ended (said_all g (cond b (option_to_list (ending s g build)) [])) name) none

-- who got done in the pass is told
abbrev newly : List EndedBlob → ℕ → Bool
newly list name = list_any (λ (end : EndedBlob). code.is_done end.status && (end.name == name)) list

done_said : (list : List EndedBlob) (one : History) (name : ℕ) → newly list name ≡ false → is_done one name ≡ false
    → is_done (said_all one (map ending_answer list)) name ≡ false
done_said [] one name none before = before
done_said (end ∷ list) one name none before =
    let parts = or_parts (code.is_done end.status && (end.name == name)) (newly list name) none in
    done_said list (said one (ending_answer end)) name parts.1 (by end.name end.status parts.0)
  where
    other : (c : Bool) (why : Status) (was : Option Status) → is_done_status why ≡ false → option_map_or is_done_status was false ≡ false
        → option_map_or is_done_status (cond c (Some why) was) false ≡ false
    other true why was e before = e
    other false why was e before = before

    by : (name' : ℕ) (status : Status) → (code.is_done status && (name' == name)) ≡ false
        → is_done (said one (ending_answer (record { name = name'; status = status }))) name ≡ false
    by name' statuses.Done none =
        ap (λ (c : Bool). option_map_or is_done_status (cond c (Some statuses.Done) (ended one name)) false) none ∙ before
    by name' status none = other (name' == name) status (ended one name) refl before

-- the pieces of who got done are among those used
abbrev member : List ℕ → ℕ → Bool
member list n = list_any (λ (each : ℕ). each == n) list

member_first : (xs ys : List ℕ) (n : ℕ) → member xs n ≡ true → member (xs ++ ys) n ≡ true
member_first [] ys n e = absurd (false_true e)
member_first (x ∷ xs) ys n e = go (x == n) e (member_first xs ys n)
  where
    go : (b : Bool) → (b || member xs n) ≡ true → (member xs n ≡ true → member (xs ++ ys) n ≡ true) → (b || member (xs ++ ys) n) ≡ true
    go true e rest = refl
    go false e rest = rest e

member_second : (xs ys : List ℕ) (n : ℕ) → member ys n ≡ true → member (xs ++ ys) n ≡ true
member_second [] ys n e = e
member_second (x ∷ xs) ys n e = or_second (x == n) (member (xs ++ ys) n) (member_second xs ys n e)

newly_used : (s : Session) (h : History) (list : List EndedBlob) (name n : ℕ) → newly list name ≡ true
    → member (own_pieces (page_limit s) h name) n ≡ true → member (flat_map (done_pieces s h) list) n ≡ true
newly_used s h [] name n is own = absurd (false_true is)
newly_used s h (end ∷ list) name n is own =
    go (code.is_done end.status) refl (end.name == name) refl (newly_used s h list name n)
  where
    go : (d : Bool) → code.is_done end.status ≡ d → (b : Bool) → (end.name == name) ≡ b
        → (newly list name ≡ true → member (own_pieces (page_limit s) h name) n ≡ true → member (flat_map (done_pieces s h) list) n ≡ true)
        → member (done_pieces s h end ++ flat_map (done_pieces s h) list) n ≡ true
    go true at true same rest =
        member_first (done_pieces s h end) (flat_map (done_pieces s h) list) n
        (ap (λ (d : Bool). member (cond d (own_pieces (page_limit s) h end.name) []) n) at
        ∙ ap (λ (m : ℕ). member (own_pieces (page_limit s) h m) n) (eqb-true end.name name same) ∙ own)
    go true at false same rest =
        member_second (done_pieces s h end) (flat_map (done_pieces s h) list) n
        (rest (sym (λ i. (at i && same i) || newly list name) ∙ is) own)
    go false at b same rest =
        member_second (done_pieces s h end) (flat_map (done_pieces s h) list) n
        (rest (sym (λ i. (at i && same i) || newly list name) ∙ is) own)

abbrev sized : Piece → ℕ × ℕ
sized piece = (piece.number, piece.len)

module _ (test : Piece → Bool) where
  -- a piece that passes is found among those that pass
  found_all : (all : List Piece)
      → AllByRecursion (λ (piece : Piece). test piece ≡ true → is_some (with_length (filter test all) piece.number) ≡ true) all
  found_all [] = tt
  found_all (one ∷ all) = (
    λ passes. head (test one) passes,
    for_each (λ (piece : Piece). test piece ≡ true → is_some (with_length (filter test all) piece.number) ≡ true)
        (λ (piece : Piece). test piece ≡ true → is_some (with_length (filter test (one ∷ all)) piece.number) ≡ true) all
        (λ piece is passes. tail (test one) (one.number == piece.number) piece (is passes)) (found_all all),
  )
    where
      head : (b : Bool) → b ≡ true → is_some (with_length (cond b (one ∷ filter test all) (filter test all)) one.number) ≡ true
      head false e = absurd (false_true e)
      head true e =
          ap (λ (c : Bool). is_some (option_map sized
          (cond {A = Option Piece} c (Some one) (find (λ (each : Piece). each.number == one.number) (filter test all)))))
          (eq-eqb one.number one.number refl)

      tail : (b c : Bool) (piece : Piece) → is_some (with_length (filter test all) piece.number) ≡ true
          → is_some (with_length (cond b (one ∷ filter test all) (filter test all)) piece.number) ≡ true
      tail false c piece is = is
      tail true c piece is = by (one.number == piece.number)
        where
          by : (c : Bool) → is_some (option_map sized
              (cond {A = Option Piece} c (Some one) (find (λ (each : Piece). each.number == piece.number) (filter test all)))) ≡ true
          by true = refl
          by false = is

-- each piece is among those of its blob
owned_all : (all : List Piece)
    → AllByRecursion (λ (piece : Piece). member (map (λ (one : Piece). one.number) (filter (λ (one : Piece). one.blob == piece.blob) all)) piece.number
    ≡ true) all
owned_all [] = tt
owned_all (one ∷ all) = (
  ap (λ (b : Bool). member (map (λ (each : Piece). each.number)
      (cond b (one ∷ filter (λ (each : Piece). each.blob == one.blob) all) (filter (λ (each : Piece). each.blob == one.blob) all))) one.number)
      (eq-eqb one.blob one.blob refl)
      ∙ or_first (one.number == one.number) (member (map (λ (each : Piece). each.number) (filter (λ (each : Piece). each.blob == one.blob) all)) one.number)
      (eq-eqb one.number one.number refl),
  for_each
      (λ (piece : Piece). member (map (λ (each : Piece). each.number) (filter (λ (each : Piece). each.blob == piece.blob) all)) piece.number ≡ true)
      (λ (piece : Piece). member (map (λ (each : Piece). each.number) (filter (λ (each : Piece). each.blob == piece.blob) (one ∷ all))) piece.number ≡ true)
      all (λ piece is. tail (one.blob == piece.blob) piece is) (owned_all all),
)
  where
    tail : (b : Bool) (piece : Piece)
        → member (map (λ (each : Piece). each.number) (filter (λ (each : Piece). each.blob == piece.blob) all)) piece.number ≡ true
        → member (map (λ (each : Piece). each.number)
        (cond b (one ∷ filter (λ (each : Piece). each.blob == piece.blob) all) (filter (λ (each : Piece). each.blob == piece.blob) all))) piece.number
        ≡ true
    tail false piece is = is
    tail true piece is =
        or_second (one.number == piece.number)
        (member (map (λ (each : Piece). each.number) (filter (λ (each : Piece). each.blob == piece.blob) all)) piece.number) is

-- a piece that is used, and of which something is told, is entered
entered_member : (list : List Piece) (numbers : List ℕ) (m : ℕ) → member numbers m ≡ true → is_some (with_length list m) ≡ true
    → list_any (λ (one : ℕ × ℕ). one.0 == m) (filter_map (with_length list) numbers) ≡ true
entered_member list [] m is some = absurd (false_true is)
entered_member list (n ∷ numbers) m is some =
    go (with_length list n) refl (n == m) refl is (λ rest. entered_member list numbers m rest some)
  where
    go : (o : Option (ℕ × ℕ)) → with_length list n ≡ o → (b : Bool) → (n == m) ≡ b → (b || member numbers m) ≡ true
        → (member numbers m ≡ true → list_any (λ (one : ℕ × ℕ). one.0 == m) (filter_map (with_length list) numbers) ≡ true)
        → list_any (λ (one : ℕ × ℕ). one.0 == m) (cons_option o (filter_map (with_length list) numbers)) ≡ true
    go None at true same is rest =
        absurd (false_true (ap (λ (o : Option (ℕ × ℕ)). is_some o) (sym at) ∙ ap (λ (k : ℕ). is_some (with_length list k)) (eqb-true n m same) ∙ some))
    go None at false same is rest = rest is
    go (Some entry) at true same is rest =
        or_first (entry.0 == m) (list_any (λ (one : ℕ × ℕ). one.0 == m) (filter_map (with_length list) numbers))
        (ap (λ (k : ℕ). k == m) (number_kept (λ (k : ℕ). true) list n entry at) ∙ same)
    go (Some entry) at false same is rest =
        or_second (entry.0 == m) (list_any (λ (one : ℕ × ℕ). one.0 == m) (filter_map (with_length list) numbers)) (rest is)

filter_members : (p q : Piece → Bool) (list : List Piece) → AllByRecursion (λ (piece : Piece). p piece ≡ q piece) list → filter p list ≡ filter q list
filter_members p q [] same = refl
filter_members p q (piece ∷ list) same =
    λ i. cond {A = List Piece} (same.0 i) (piece ∷ filter_members p q list same.1 i) (filter_members p q list same.1 i)

two_all : (P Q R : Piece → Type 0) → ((piece : Piece) → P piece → Q piece → R piece) → (list : List Piece) → AllByRecursion P list
    → AllByRecursion Q list → AllByRecursion R list
two_all P Q R f [] p q = tt
two_all P Q R f (piece ∷ list) p q = (f piece p.0 q.0, two_all P Q R f list p.1 q.1)

pub three : (H M T : Piece → Bool) (list : List Piece) → filter T (filter M (filter H list)) ≡ filter (λ (piece : Piece). (H piece && M piece) && T piece) list
three H M T list = ap (filter T) (filter_twice H M list) ∙ filter_twice (λ (piece : Piece). H piece && M piece) T list

-- ---- behind the pass

module _ (s : Session) (h : History) (stands : ℕ → Bool) (shares later : List (Option Share)) (rows : List (Option Row)) (list : List EndedBlob)
    (rowed : map (option_map bare) rows ≡ rows_of s h stands) (rowed_now : map (option_map bare) (rows_passed s h rows) ≡ rows_of s (after_pass s h) stands)
    (apart : AreOnePerPiece shares) (same : (slot : ℕ) → item_at later slot ≡ item_at shares slot) (are : map ending_answer list ≡ endings s h) where
  abbrev g : History
  g = after_pass s h

  abbrev rows_now : List (Option Row)
  rows_now = rows_passed s h rows

  abbrev numbers : List ℕ
  numbers = flat_map (done_pieces s h) list

  abbrev before : List Piece
  before = pageable_of (page_limit s) h (held_pieces (page_limit s) h shares rows)

  abbrev now : List Piece
  now = pageable_of (page_limit s) g (held_pieces (page_limit s) g later rows_now)

  abbrev all : List Piece
  all = pieces (page_limit s) h

  abbrev H : Piece → Bool
  H = is_held (builds (page_limit s) h) shares rows

  abbrev H' : Piece → Bool
  H' = is_held (builds (page_limit s) g) later rows_now

  abbrev M : History → Piece → Bool
  M one piece = is_memory (place_in one (builds (page_limit s) one) piece)

  abbrev T : History → Piece → Bool
  T one piece = is_done one piece.blob && not (is_in_job one piece.number)

  same_memory : M g ≡ M h
  same_memory = endings_keep (λ (one : History). M one) (λ one name. refl) (λ one name status. refl) s h

  same_job : (n : ℕ) → is_in_job g n ≡ is_in_job h n
  same_job n = endings_keep (λ (one : History). is_in_job one n) (λ one name. refl) (λ one name status. refl) s h

  same_all : pieces (page_limit s) g ≡ all
  same_all = endings_keep (λ (one : History). pieces (page_limit s) one) (λ one name. refl) (λ one name status. refl) s h

  done_still : (name : ℕ) → is_done h name ≡ true → is_done g name ≡ is_done h name
  done_still name e =
      ap (λ (o : Option Status). option_map_or is_done_status o false) (ended_kept s h (builds (page_limit s) h) name (done_over h name e))

  not_done : (name : ℕ) → newly list name ≡ false → is_done h name ≡ false → is_done g name ≡ false
  not_done name none before = subst (λ (xs : List Answer). is_done (said_all h xs) name ≡ false) are (done_said list h name none before)

  abbrev passes : Piece → Bool
  passes piece = (H' piece && M g piece) && T g piece

  abbrev passed : Piece → Bool
  passed piece = (H piece && M h piece) && T h piece

  abbrev entry_list : List (ℕ × ℕ)
  entry_list = filter_map (with_length now) numbers

  abbrev out : ℕ → Bool
  out n = not (list_any (λ (one : ℕ × ℕ). one.0 == n) entry_list)

  now_is : now ≡ filter passes all
  now_is = three H' (M g) (T g) (pieces (page_limit s) g) ∙ ap (filter passes) same_all

  alike : (piece : Piece) → is_done h piece.blob ≡ true → passes piece ≡ passed piece
  alike piece e =
      λ i. (held i && same_memory i piece) && (done_still piece.blob e i && not (same_job piece.number i))
    where
      held : H' piece ≡ H piece
      held =
          or_none (holds_piece later piece.number) (is_gathered (builds (page_limit s) g) rows_now piece.blob)
          (not_gathered s g stands (builds (page_limit s) g) rows_now rowed_now piece.blob (done_over g piece.blob (done_still piece.blob e ∙ e)))
          ∙ holds_same shares later apart same piece.number
          ∙ sym (or_none (holds_piece shares piece.number) (is_gathered (builds (page_limit s) h) rows piece.blob)
          (not_gathered s h stands (builds (page_limit s) h) rows rowed piece.blob (done_over h piece.blob e)))

  none : (b : Bool) → (b && false) ≡ false
  none true = refl
  none false = refl

  each_out : (piece : Piece) → member (own_pieces (page_limit s) h piece.blob) piece.number ≡ true
      → (passes piece ≡ true → is_some (with_length (filter passes all) piece.number) ≡ true)
      → (passes piece && out piece.number) ≡ (passed piece && out piece.number)
  each_out piece owned found = by (is_done h piece.blob) refl
    where
      right : is_done h piece.blob ≡ false → (passed piece && out piece.number) ≡ false
      right e =
          ap (λ (b : Bool). ((H piece && M h piece) && (b && not (is_in_job h piece.number))) && out piece.number) e
          ∙ ap (λ (b : Bool). b && out piece.number) (none (H piece && M h piece))

      new : newly list piece.blob ≡ true → (p : Bool) → passes piece ≡ p → (p && out piece.number) ≡ false
      new is false at = refl
      new is true at =
          ap not
          (entered_member now numbers piece.number (newly_used s h list piece.blob piece.number is owned)
          (ap (λ (xs : List Piece). is_some (with_length xs piece.number)) now_is ∙ found at))

      old : newly list piece.blob ≡ false → is_done h piece.blob ≡ false → (passes piece && out piece.number) ≡ false
      old is e =
          ap (λ (b : Bool). ((H' piece && M g piece) && (b && not (is_in_job g piece.number))) && out piece.number) (not_done piece.blob is e)
          ∙ ap (λ (b : Bool). b && out piece.number) (none (H' piece && M g piece))

      pick : (n : Bool) → newly list piece.blob ≡ n → is_done h piece.blob ≡ false → (passes piece && out piece.number) ≡ false
      pick true is e = new is (passes piece) refl
      pick false is e = old is e

      by : (d : Bool) → is_done h piece.blob ≡ d → (passes piece && out piece.number) ≡ (passed piece && out piece.number)
      by true e = ap (λ (b : Bool). b && out piece.number) (alike piece e)
      by false e = pick (newly list piece.blob) refl e ∙ sym (right e)

  left_same : passing out now ≡ passing out before
  left_same =
      ap (passing out) now_is
      ∙ filter_twice passes (λ (piece : Piece). out piece.number) all
      ∙ filter_members (λ (piece : Piece). passes piece && out piece.number) (λ (piece : Piece). passed piece && out piece.number) all
      (two_all (λ (piece : Piece). member (own_pieces (page_limit s) h piece.blob) piece.number ≡ true)
      (λ (piece : Piece). passes piece ≡ true → is_some (with_length (filter passes all) piece.number) ≡ true)
      (λ (piece : Piece). (passes piece && out piece.number) ≡ (passed piece && out piece.number)) each_out all (owned_all all) (found_all passes all))
      ∙ sym (filter_twice passed (λ (piece : Piece). out piece.number) all)
      ∙ ap (passing out) (sym (three H (M h) (T h) all))

  told_out : (some : List Piece) (uses : List ℕ)
      → filter (stays entry_list) (filter_map (with_length some) uses) ≡ filter_map (with_length (passing out some)) uses
  told_out some uses =
      sym (uses_left out some uses) ∙ (λ i. filter_map (λ (n : ℕ). sym (length_left out some n) i) uses)

  pub order_now : (order : List (ℕ × ℕ)) → order ≡ order_of s h shares rows
      → fold entered order (pieces_entered s h later rows list) ≡ order_of s g later rows_now
  order_now order is =
      ap (λ (one : List (ℕ × ℕ)). fold entered one entry_list) is
      ∙ entered_same entry_list (filter_map (with_length before) (last_uses s.limits h)) (filter_map (with_length now) (last_uses s.limits h))
      (told_out before (last_uses s.limits h)
      ∙ ap (λ (one : List Piece). filter_map (with_length one) (last_uses s.limits h)) (sym left_same)
      ∙ sym (told_out now (last_uses s.limits h)))
      ∙ sym (all_used (with_length now) (number_kept (λ (k : ℕ). true) now) numbers (last_uses s.limits h))
      ∙ ap (filter_map (with_length now))
      (sym (uses_said s h list h (λ name. refl)) ∙ ap (λ (xs : List Answer). last_uses s.limits (said_all h xs)) are)
