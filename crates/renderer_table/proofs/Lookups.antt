-- What a look-up by a number finds in an ordered list, once an entry or a key came.
use Rattle.std.proofs.Common.{◌≡◌, ℕ, ◌+◌, ◌==◌, ◌||◌, Bool, true, false, cond, List, [], ◌∷◌, Some, None, Option, length, refl, sym, ap, ◌∙◌, arith}
use Rattle.std.specs.List.{list_any}
use Rattle.std.specs.declared.cmp.Ordering.{Ordering}
use Rattle.std.specs.declared.cmp.Ordering.TheVariants.{Less, Equal, Greater}
use Rattle.std.specs.Ordering.{eq_by_cmp, is_eq, match_ordering, nat_cmp}
use Rattle.std.specs.Cmp.{unsigned_tied, IsEquivalence, nat_eq_equiv}
use Rattle.std.specs.Map.{lookup}
use Rattle.std.specs.BTreeMap.{insert_entry, is_at}
use Rattle.std.specs.BTreeSet.{insert_key}
use Rattle.std.proofs.lemmas.Cmp.{eq_by_cmp_equiv, nat_cmp_total}

pub number_laws : IsEquivalence (eq_by_cmp nat_cmp)
number_laws = eq_by_cmp_equiv nat_cmp_total

flipped : (q k : ℕ) → is_at (nat_cmp q) k ≡ (k == q)
flipped q k = unsigned_tied q k ∙ nat_eq_equiv.symm q k

-- a key that an equal one stands for
stands_for : (q k e : ℕ) → nat_cmp k e ≡ Equal → is_at (nat_cmp q) e ≡ (k == q)
stands_for q k e is = number_laws.symm q e ∙ sym (number_laws.congr k e q (ap is_eq is)) ∙ unsigned_tied k q

-- a key that is above another is not it
not_both : {P : Type 0} (q k e : ℕ) → nat_cmp k e ≡ Greater → is_at (nat_cmp q) e ≡ true → (k == q) ≡ true → P
not_both q k e is at here =
    let apart : is_at (nat_cmp k) e ≡ false = ap is_eq is in
    let same : is_at (nat_cmp k) e ≡ is_at (nat_cmp q) e = number_laws.congr k q e (unsigned_tied k q ∙ here) in
    cc

module _ {X : Type 0} where
  twice : (a b : Bool) (x y z : X) → b ≡ a → cond b x z ≡ cond a x (cond b y z)
  twice true true x y z same = refl
  twice true false x y z same = cc
  twice false true x y z same = cc
  twice false false x y z same = refl

  turned : (a b : Bool) (x y z : X) → (a ≡ true → b ≡ true → cond a x (cond b y z) ≡ cond b y (cond a x z)) → cond a x (cond b y z) ≡ cond b y (cond a x z)
  turned true true x y z apart = apart refl refl
  turned true false x y z apart = refl
  turned false b x y z apart = refl

module _ {X : Type 0} where
  -- an entry that comes is found at its key, and every other as before
  pub lookup_inserted : (q k : ℕ) (v : X) (es : List (ℕ × X)) → lookup (is_at (nat_cmp q)) (insert_entry nat_cmp es k v) ≡ cond (k == q) (Some v)
      (lookup (is_at (nat_cmp q)) es)
  lookup_inserted q k v [] = ap (λ b. cond b (Some v) None) (flipped q k)
  lookup_inserted q k v (e ∷ es) = go (nat_cmp k e.0) refl (lookup_inserted q k v es)
    where
      go : (r : Ordering) → nat_cmp k e.0 ≡ r → lookup (is_at (nat_cmp q)) (insert_entry nat_cmp es k v) ≡ cond (k == q) (Some v)
          (lookup (is_at (nat_cmp q)) es)
          → lookup (is_at (nat_cmp q)) (match_ordering r ((k, v) ∷ e ∷ es) ((e.0, v) ∷ es) (e ∷ insert_entry nat_cmp es k v)) ≡ cond (k == q) (Some v)
          (lookup (is_at (nat_cmp q)) (e ∷ es))
      go Less is rest = ap (λ b. cond b (Some v) (lookup (is_at (nat_cmp q)) (e ∷ es))) (flipped q k)
      go Equal is rest = twice {X = Option X} (k == q) (is_at (nat_cmp q) e.0) (Some v) (Some e.1) (lookup (is_at (nat_cmp q)) es) (stands_for q k e.0 is)
      go Greater is rest =
          ap (λ found. cond (is_at (nat_cmp q) e.0) (Some e.1) found) rest
          ∙ turned {X = Option X} (is_at (nat_cmp q) e.0) (k == q) (Some e.1) (Some v) (lookup (is_at (nat_cmp q)) es) (λ at here. not_both q k e.0 is at here)

either_twice : (a b c : Bool) → b ≡ a → (b || c) ≡ (a || (b || c))
either_twice true true c same = refl
either_twice true false c same = cc
either_twice false true c same = cc
either_twice false false c same = refl

either_turned : (a b c : Bool) → (a || (b || c)) ≡ (b || (a || c))
either_turned true true c = refl
either_turned true false c = refl
either_turned false b c = refl

-- a key that comes is there, and every other as before
pub any_inserted : (q k : ℕ) (ks : List ℕ) → list_any (is_at (nat_cmp q)) (insert_key nat_cmp ks k) ≡ ((k == q) || list_any (is_at (nat_cmp q)) ks)
any_inserted q k [] = ap (λ b. b || false) (flipped q k)
any_inserted q k (e ∷ ks) = go (nat_cmp k e) refl (any_inserted q k ks)
  where
    go : (r : Ordering) → nat_cmp k e ≡ r → list_any (is_at (nat_cmp q)) (insert_key nat_cmp ks k) ≡ ((k == q) || list_any (is_at (nat_cmp q)) ks)
        → list_any (is_at (nat_cmp q)) (match_ordering r (k ∷ e ∷ ks) (e ∷ ks) (e ∷ insert_key nat_cmp ks k))
        ≡ ((k == q) || list_any (is_at (nat_cmp q)) (e ∷ ks))
    go Less is rest = ap (λ b. b || list_any (is_at (nat_cmp q)) (e ∷ ks)) (flipped q k)
    go Equal is rest = either_twice (k == q) (is_at (nat_cmp q) e) (list_any (is_at (nat_cmp q)) ks) (stands_for q k e is)
    go Greater is rest = ap (λ b. is_at (nat_cmp q) e || b) rest ∙ either_turned (is_at (nat_cmp q) e) (k == q) (list_any (is_at (nat_cmp q)) ks)

-- a new key is one key more
pub length_inserted : (k : ℕ) (ks : List ℕ) → list_any (is_at (nat_cmp k)) ks ≡ false → length (insert_key nat_cmp ks k) ≡ length ks + 1
length_inserted k [] absent = refl
length_inserted k (e ∷ ks) absent = go (nat_cmp k e) absent (length_inserted k ks)
  where
    go : (r : Ordering) → (is_eq r || list_any (is_at (nat_cmp k)) ks) ≡ false
        → (list_any (is_at (nat_cmp k)) ks ≡ false → length (insert_key nat_cmp ks k) ≡ length ks + 1)
        → length (match_ordering r (k ∷ e ∷ ks) (e ∷ ks) (e ∷ insert_key nat_cmp ks k)) ≡ length (e ∷ ks) + 1
    go Less absent rest = omega arith
    go Equal absent rest = cc
    go Greater absent rest = let more = rest absent in omega arith
