-- What the place of the first line feed says of the bytes before and after it.
use Rattle.std.proofs.Common.{◌≡◌, ℕ, ◌+◌, ◌==◌, ◌<◌, ◌≤◌, Bool, false, cond, ltb, List, ◌∷◌, ◌++◌, Some, None, length, get_or, take, drop, ap, ◌∙◌, subst, arith}
use Rattle.std.specs.List.{position, position_or_len}
use Rattle.std.proofs.lemmas.Bool.{eqb-true}
use Rattle.std.proofs.lemmas.Bool.Decides.{nat_tests}
use Rattle.std.proofs.lemmas.List.{get_or-take, length-take}
use Rattle.std.proofs.lemmas.List.Folds.{list_any_none}
use Rattle.std.proofs.lemmas.List.Sums.{fails_before_first, passes_at_first, split_at_first}
use Rattle.blob_source.specs.Lines.{has_line_feed}

abbrev is_line_feed : ℕ → Bool
is_line_feed byte = byte == 10

past_none : (a b : ℕ) → cond (ltb a b) (Some a) None ≡ None → b ≤ a
past_none a b none = grind (arith, nat_tests)

within_some : (a b i : ℕ) → cond (ltb a b) (Some a) None ≡ Some i → (a ≡ i) × (a < b)
within_some a b i some = grind (arith, nat_tests)

pub has_line_feed_none : (bytes : List ℕ) → position (λ byte. byte == 10) bytes ≡ None → has_line_feed bytes ≡ false
has_line_feed_none bytes none =
    let past : length bytes ≤ position_or_len is_line_feed bytes = past_none _ _ none in
    list_any_none is_line_feed bytes (λ k d within. fails_before_first is_line_feed bytes k d (omega arith))

-- the bytes before the first line feed have none, and it stands behind them
pub record IsFirstFeed (bytes : List ℕ) (place : ℕ) : Type 0 where
  pub within : place < length bytes
  pub plain : has_line_feed (take place bytes) ≡ false
  pub whole : bytes ≡ take place bytes ++ 10 ∷ drop (place + 1) bytes

is_first : (bytes : List ℕ) → position_or_len is_line_feed bytes < length bytes → IsFirstFeed bytes (position_or_len is_line_feed bytes)
is_first bytes within =
    let place = position_or_len is_line_feed bytes in
    let feed : get_or bytes place 0 ≡ 10 = eqb-true _ 10 (passes_at_first is_line_feed bytes 0 within) in
    record {
      within = within;
      plain =
          list_any_none is_line_feed (take place bytes) (λ k d inside.
          let before : k < place = omega (arith, length-take place bytes) in
          ap is_line_feed (get_or-take place bytes k d before) ∙ fails_before_first is_line_feed bytes k d before);
      whole =
          split_at_first is_line_feed bytes 0 within ∙ ap (λ byte. take place bytes ++ byte ∷ drop (place + 1) bytes) feed;
    }

pub first_feed : (bytes : List ℕ) (place : ℕ) → position (λ byte. byte == 10) bytes ≡ Some place → IsFirstFeed bytes place
first_feed bytes place some =
    let found = within_some (position_or_len is_line_feed bytes) (length bytes) place some in
    subst (IsFirstFeed bytes) found.0 (is_first bytes found.1)
