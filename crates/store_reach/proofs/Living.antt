-- Marks of the entries that a sweep would leave, from the greatest number down.
use Rattle.std.proofs.Common.{◌≡◌, ℕ, zero, suc, ◌+◌, ◌<◌, ◌≤◌, Bool, true, false, cond, ◌||◌, List, [], ◌∷◌, ◌++◌, Option, Some, None}
use Rattle.std.proofs.Common.{length, set, drop, nat_lt, refl, sym, ap, ◌∙◌, arith, get_or-set_same, get_or-set_other}
use Rattle.std.specs.Prelude.{is_some, replicate, slice_index, slice_index_or}
use Rattle.std.specs.Option.{option_map, option_to_list}
use Rattle.std.proofs.lemmas.Bool.{false≢true}
use Rattle.std.proofs.lemmas.Bool.Decides.{nat_tests}
use Rattle.std.proofs.lemmas.List.{drop_all, get_or-replicate, length-replicate}
use Rattle.blob_entries.specs.Book.{Book, entry_at}
use Rattle.blob_entries.specs.Leaving.{is_needed, is_rooted, left}
use Rattle.blob_entries.specs.Sound.{AreSound}
use Rattle.blob_entries.specs.Sources.{needs}
use Rattle.blob_entries.specs.Standing.{name_if, name_under, standing}
use Rattle.blob_entries.proofs.Standing.{standing_end, standing_more}
use Rattle.blob_entries.specs.declared.entry.Entry.{Entry}
use Rattle.blob_registry.proofs.Sweeping.{left_needs, needs_none}
use Rattle.blob_registry.specs.Sweeps.{swept}
use Rattle.store_reach.specs.Lives.{lives_so, mark_at, AreLive, Weighs}

abbrev Entries : Type 0
Entries = List (Option Entry)

-- those behind a number, as a sweep would leave them
abbrev pub behind : Book → ℕ → Entries
behind book number = swept book.names number (drop number book.entries)

-- the entries from a bound on are marked as a sweep would leave them, those before it where one of these needs them
pub record MarkedTo (book : Book) (bound : ℕ) (marks : List Bool) : Type 0 where
  pub sized : length marks ≡ length book.entries
  pub after : (k : ℕ) → bound + k < length book.entries → mark_at marks (bound + k) ≡ is_some (entry_at (behind book bound) k)
  pub before : (k : ℕ) → k < bound → mark_at marks k ≡ is_needed book.names k (behind book bound)

-- at the end nothing is marked
pub marked_end : (book : Book) → MarkedTo book (length book.entries) (replicate (length book.entries) false)
marked_end book = record {
  sized = length-replicate (length book.entries) false;
  after = λ k within. absurd (omega (arith, within));
  before = λ k below.
      get_or-replicate (length book.entries) k false false below
      ∙ sym (ap (λ (list : Entries). is_needed book.names k (swept book.names (length book.entries) list))
      (drop_all (length book.entries) book.entries (omega arith)));
}

-- the entries from a number on are the one there and those behind it
drop_at : (entries : Entries) (number : ℕ) → number < length entries → drop number entries ≡ entry_at entries number ∷ drop (number + 1) entries
drop_at [] number inside = absurd (omega arith)
drop_at (held ∷ entries) zero inside = refl
drop_at (held ∷ entries) (suc number) inside = let next : suc number + 1 ≡ suc (number + 1) = omega arith in rw next (drop_at entries number (omega arith))

pub behind_at : (book : Book) (number : ℕ) → number < length book.entries
    → behind book number
    ≡ left (is_rooted (entry_at book.entries number) || is_needed book.names number (behind book (number + 1))) (entry_at book.entries number)
    ∷ behind book (number + 1)
behind_at book number inside = ap (swept book.names number) (drop_at book.entries number inside)

or_swap : (a b : Bool) → (a || b) ≡ (b || a)
or_swap true true = refl
or_swap true false = refl
or_swap false true = refl
or_swap false false = refl

or_false : (b : Bool) → (b || false) ≡ b
or_false true = refl
or_false false = refl

-- one number down
pub marked_down : (book : Book) (number : ℕ) (before after : List Bool) → AreSound book.names book.entries → number < length book.entries
    → MarkedTo book (number + 1) before → Weighs book number before after → MarkedTo book number after
marked_down book number before after sound inside marked weighs = record {
  sized = weighs.sized ∙ marked.sized;
  after = at;
  before = λ k below. under k below;
}
  where
    here : mark_at before number ≡ is_needed book.names number (behind book (number + 1))
    here = marked.before number (omega arith)

    rest : behind book number ≡ left (lives_so book number before) (entry_at book.entries number) ∷ behind book (number + 1)
    rest = behind_at book number inside
        ∙ ap (λ (b : Bool). left (is_rooted (entry_at book.entries number) || b) (entry_at book.entries number) ∷ behind book (number + 1)) (sym here)

    needs_before : (k : ℕ) → number ≤ k → needs book.names k (left (lives_so book number before) (entry_at book.entries number)) ≡ false
    needs_before k le = left_needs book.names k (lives_so book number before) (entry_at book.entries number)
        (needs_none book.names book.entries number k (entry_at book.entries number) (sound.each number) le)

    size : length before ≡ length book.entries
    size = marked.sized

    at : (k : ℕ) → number + k < length book.entries → mark_at after (number + k) ≡ is_some (entry_at (behind book number) k)
    at zero within =
        let same : number + zero ≡ number = omega arith in
        rw same (weighs.each number (omega (arith, inside, size))
        ∙ ap (λ (b : Bool). mark_at (set before number (is_some (left (lives_so book number before) (entry_at book.entries number)))) number || b)
        (needs_before number (omega arith))
        ∙ or_false (mark_at (set before number (is_some (left (lives_so book number before) (entry_at book.entries number)))) number)
        ∙ get_or-set_same before number (is_some (left (lives_so book number before) (entry_at book.entries number))) false (omega (arith, inside, size))
        ∙ sym (ap (λ (list : Entries). is_some (entry_at list 0)) rest))
    at (suc k) within =
        let next : number + suc k ≡ (number + 1) + k = omega arith in
        weighs.each (number + suc k) (omega (arith, within, size))
        ∙ ap (λ (b : Bool). mark_at (set before number (is_some (left (lives_so book number before) (entry_at book.entries number)))) (number + suc k) || b)
        (needs_before (number + suc k) (omega arith))
        ∙ or_false (mark_at (set before number (is_some (left (lives_so book number before) (entry_at book.entries number)))) (number + suc k))
        ∙ get_or-set_other before number (number + suc k) (is_some (left (lives_so book number before) (entry_at book.entries number))) false
        (λ equal. omega (arith, equal))
        ∙ ap (mark_at before) next
        ∙ marked.after k (omega (arith, within))
        ∙ sym (ap (λ (list : Entries). is_some (entry_at list (suc k))) rest)

    under : (k : ℕ) → k < number → mark_at after k ≡ is_needed book.names k (behind book number)
    under k below =
        weighs.each k (omega (arith, below, inside, size))
        ∙ ap (λ (b : Bool). b || needs book.names k (left (lives_so book number before) (entry_at book.entries number)))
        (get_or-set_other before number k (is_some (left (lives_so book number before) (entry_at book.entries number))) false
        (λ equal. omega (arith, equal, below))
        ∙ marked.before k (omega (arith, below)))
        ∙ or_swap (is_needed book.names k (behind book (number + 1))) (needs book.names k (left (lives_so book number before) (entry_at book.entries number)))
        ∙ sym (ap (is_needed book.names k) rest)

-- all the way down
swept_length : (names : List ℕ) (number : ℕ) (entries : Entries) → length (swept names number entries) ≡ length entries
swept_length names number [] = refl
swept_length names number (held ∷ entries) = ap suc (swept_length names (number + 1) entries)

past_end : {X : Type 0} (list : List X) (k : ℕ) (default : X) → length list ≤ k → slice_index_or list k default ≡ default
past_end [] k default past = refl
past_end (first ∷ list) zero default past = absurd (omega (arith, past))
past_end (first ∷ list) (suc k) default past = past_end list k default (omega (arith, past))

pub marked_all : (book : Book) (marks : List Bool) → MarkedTo book 0 marks → AreLive book marks
marked_all book marks marked = (marked.sized, each)
  where
    each : (k : ℕ) → mark_at marks k ≡ is_some (entry_at (swept book.names 0 book.entries) k)
    each k = by (nat_lt k (length book.entries)) refl
      where
        by : (b : Bool) → nat_lt k (length book.entries) ≡ b → mark_at marks k ≡ is_some (entry_at (swept book.names 0 book.entries) k)
        by true is =
            let within : k < length book.entries = grind (arith, nat_tests) in
            let same : 0 + k ≡ k = omega arith in
            ap (mark_at marks) (sym same) ∙ marked.after k (omega (arith, within))
        by false is =
            let past : length book.entries ≤ k = grind (arith, nat_tests) in
            past_end marks k false (omega (arith, past, marked.sized))
            ∙ sym (ap (λ (o : Option Entry). is_some o)
            (past_end (swept book.names 0 book.entries) k None (omega (arith, past, swept_length book.names 0 book.entries))))

-- what is left somewhere stood there
pub live_stands : (names : List ℕ) (number k : ℕ) (entries : Entries) → is_some (entry_at (swept names number entries) k) ≡ true
    → is_some (entry_at entries k) ≡ true
live_stands names number k [] is = is
live_stands names number zero (held ∷ entries) is = by (is_rooted held || is_needed names number (swept names (number + 1) entries)) held is
  where
    by : (b : Bool) (held : Option Entry) → is_some (left b held) ≡ true → is_some held ≡ true
    by false held on = absurd (cc)
    by true None on = on
    by true (Some entry) on = refl
live_stands names number (suc k) (held ∷ entries) is = live_stands names (number + 1) k entries is

-- the names of those left, from a number on
abbrev pub live_from : Book → ℕ → List ℕ
live_from book number = standing (drop number book.names) (drop number (swept book.names 0 book.entries))

pub live_next : (book : Book) (marks : List Bool) (number : ℕ) → AreSound book.names book.entries → AreLive book marks → number < length book.entries
    → live_from book number ≡ cond (mark_at marks number) (option_to_list (name_under book number)) [] ++ live_from book (number + 1)
live_next book marks number sound live inside =
    standing_more book.names (swept book.names 0 book.entries) number (omega (arith, inside, size)) (omega (arith, size, sound.sized))
    ∙ ap (λ (front : List ℕ). front ++ live_from book (number + 1))
    (by (entry_at (swept book.names 0 book.entries) number) refl (mark_at marks number) (live.1 number) (entry_at book.entries number) refl)
  where
    size : length (swept book.names 0 book.entries) ≡ length book.entries
    size = swept_length book.names 0 book.entries

    by : (there : Option Entry) → entry_at (swept book.names 0 book.entries) number ≡ there → (mark : Bool)
        → mark ≡ is_some (entry_at (swept book.names 0 book.entries) number) → (held : Option Entry) → entry_at book.entries number ≡ held
        → name_if (entry_at (swept book.names 0 book.entries) number) (slice_index book.names number)
        ≡ cond mark (option_to_list (option_map (λ (entry : Entry). slice_index book.names number) (entry_at book.entries number))) []
    by None is mark so held at = rw (so, is) refl
    by (Some entry) is mark so (Some old) at = rw (so, is, at) refl
    by (Some entry) is mark so None at =
        let stands : is_some (entry_at book.entries number) ≡ true = live_stands book.names 0 number book.entries (ap (λ (o : Option Entry). is_some o) is) in
        absurd (let gone : is_some (entry_at book.entries number) ≡ false = ap (λ (o : Option Entry). is_some o) at in false≢true (sym gone ∙ stands))

pub live_end : (book : Book) → live_from book (length book.entries) ≡ []
live_end book = standing_end book.names (swept book.names 0 book.entries) (length book.entries) (omega (arith, swept_length book.names 0 book.entries))
