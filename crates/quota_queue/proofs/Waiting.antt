-- What the place of a name says of the names that wait.
use Rattle.std.proofs.Common.{◌≡◌, ◌||◌, ℕ, suc, ◌+◌, ◌<◌, ◌≤◌, true, false, cond, ltb, List, [], ◌∷◌, ◌++◌, Some, None, nat_eq, length, drop, refl, sym, ap, ◌∙◌, subst, arith}
use Rattle.std.specs.List.{AllByRecursion, IsDistinct, list_any, position, position_or_len, remove}
use Rattle.std.specs.Map.{keys_of}
use Rattle.std.specs.Cmp.{nat_eq_equiv}
use Rattle.std.proofs.lemmas.Bool.{eqb-true}
use Rattle.std.proofs.lemmas.Bool.Decides.{nat_tests}
use Rattle.std.proofs.lemmas.List.{map-append}
use Rattle.std.proofs.lemmas.Map.Made.{IsDistinct-keys_filter}
use Rattle.std.proofs.lemmas.Map.Keys.{IsDistinct-head, IsDistinct-push, IsDistinct-tail}
use Rattle.quota_queue.specs.Queue.{is_waiting, without}

-- the place of a name, or the number of those that wait
abbrev pub place : ℕ → List (ℕ × ℕ) → ℕ
place name waiting = position_or_len (λ blob. nat_eq name blob.0) waiting

rest_stays : (name : ℕ) (waiting : List (ℕ × ℕ)) → AllByRecursion (λ other. nat_eq name other ≡ false) (keys_of waiting) → without name waiting ≡ waiting
rest_stays name [] apart = refl
rest_stays name (blob ∷ waiting) apart = rw apart.0 (ap (λ rest. blob ∷ rest) (rest_stays name waiting apart.1))

pub none_waits : (name : ℕ) (waiting : List (ℕ × ℕ)) → length waiting ≤ place name waiting → (is_waiting name waiting ≡ false)
    × (without name waiting ≡ waiting)
none_waits name [] past = (refl, refl)
none_waits name (blob ∷ waiting) past =
    (elim (nat_eq name blob.0) as (λ y. nat_eq name blob.0 ≡ y → (is_waiting name (blob ∷ waiting) ≡ false)
    × (without name (blob ∷ waiting) ≡ blob ∷ waiting)) [
      | true ↦ λ t. let h = rw t at past in absurd (omega (arith, h))
      | false ↦ λ t. let h = rw t at past in
          let on = none_waits name waiting (omega (arith, h)) in
          (rw t on.0, rw t (ap (λ rest. blob ∷ rest) on.1))
    ]) refl

remove_behind : (blob : ℕ × ℕ) (waiting : List (ℕ × ℕ)) (at : ℕ) → remove (blob ∷ waiting) (1 + at) ≡ blob ∷ remove waiting at
remove_behind blob waiting at = let more : 1 + at ≡ suc at = omega arith in rw more refl

pub one_waits : (name : ℕ) (waiting : List (ℕ × ℕ)) → IsDistinct nat_eq (keys_of waiting) → place name waiting < length waiting
    → (is_waiting name waiting ≡ true) × (without name waiting ≡ remove waiting (place name waiting))
one_waits name [] apart within = absurd (omega (arith, within))
one_waits name (blob ∷ waiting) apart within =
    (elim (nat_eq name blob.0) as (λ y. nat_eq name blob.0 ≡ y → (is_waiting name (blob ∷ waiting) ≡ true)
    × (without name (blob ∷ waiting) ≡ remove (blob ∷ waiting) (place name (blob ∷ waiting)))) [
      | true ↦ λ t.
          let same : name ≡ blob.0 = eqb-true name blob.0 t in
          let others : AllByRecursion (λ other. nat_eq name other ≡ false) (keys_of waiting) =
          subst (λ n. AllByRecursion (λ other. nat_eq n other ≡ false) (keys_of waiting)) (sym same) (IsDistinct-head nat_eq blob.0 (keys_of waiting) apart) in
          (rw t refl, rw t (rest_stays name waiting others))
      | false ↦ λ t. let h = rw t at within in
          let on = one_waits name waiting (IsDistinct-tail nat_eq blob.0 (keys_of waiting) apart) (omega (arith, h)) in
          (rw t on.0, rw t (ap (λ rest. blob ∷ rest) on.1 ∙ sym (remove_behind blob waiting (place name waiting))))
    ]) refl

within_some : (a b i : ℕ) → Some i ≡ cond (ltb a b) (Some a) None → (a ≡ i) × (a < b)
within_some a b i some = grind (arith, nat_tests)

past_none : (a b : ℕ) → None ≡ cond (ltb a b) (Some a) None → b ≤ a
past_none a b none = grind (arith, nat_tests)

-- nobody of this name waits where it has no place
pub no_place : (name : ℕ) (waiting : List (ℕ × ℕ)) → None ≡ position (λ blob. nat_eq name blob.0) waiting → (is_waiting name waiting ≡ false)
    × (without name waiting ≡ waiting)
no_place name waiting none = none_waits name waiting (past_none _ _ none)

-- what is left where one leaves its place
pub record Leaves (name : ℕ) (waiting : List (ℕ × ℕ)) (at : ℕ) : Type 0 where
  pub within : at < length waiting
  pub waited : is_waiting name waiting ≡ true
  pub left : without name waiting ≡ remove waiting at
  pub apart : IsDistinct nat_eq (keys_of (remove waiting at))

pub leaves : (name : ℕ) (waiting : List (ℕ × ℕ)) (at : ℕ) → IsDistinct nat_eq (keys_of waiting) → Some at ≡ position (λ blob. nat_eq name blob.0) waiting
    → Leaves name waiting at
leaves name waiting at apart some =
    let found = within_some (place name waiting) (length waiting) at some in
    let one = one_waits name waiting apart found.1 in
    let left : without name waiting ≡ remove waiting at = one.1 ∙ ap (λ i. remove waiting i) found.0 in
    record {
      within = subst (λ i. i < length waiting) found.0 found.1;
      waited = one.0;
      left = left;
      apart = subst (λ ws. IsDistinct nat_eq (keys_of ws)) left (IsDistinct-keys_filter nat_eq _ waiting apart);
    }

-- whether a name waits is whether it is among the names
names_of : (name : ℕ) (waiting : List (ℕ × ℕ)) → list_any (nat_eq name) (keys_of waiting) ≡ is_waiting name waiting
names_of name [] = refl
names_of name (blob ∷ waiting) = ap (λ rest. nat_eq name blob.0 || rest) (names_of name waiting)

-- a name that doesn't wait goes last
pub apart_more : (name bytes : ℕ) (waiting : List (ℕ × ℕ)) → IsDistinct nat_eq (keys_of waiting) → is_waiting name waiting ≡ false
    → IsDistinct nat_eq (keys_of (waiting ++ (name, bytes) ∷ []))
apart_more name bytes waiting apart absent =
    subst (IsDistinct nat_eq) (sym (map-append (λ (blob : ℕ × ℕ). blob.0) waiting ((name, bytes) ∷ [])))
    (IsDistinct-push nat_eq_equiv (keys_of waiting) name apart (names_of name waiting ∙ absent))

-- the others are apart when the head goes
pub apart_rest : (waiting : List (ℕ × ℕ)) → IsDistinct nat_eq (keys_of waiting) → IsDistinct nat_eq (keys_of (drop 1 waiting))
apart_rest [] apart = apart
apart_rest (blob ∷ waiting) apart = IsDistinct-tail nat_eq blob.0 (keys_of waiting) apart
