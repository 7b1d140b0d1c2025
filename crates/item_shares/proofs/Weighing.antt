-- What items weigh together, once one slot changed.
use Rattle.std.proofs.Common.{◌≡◌, ◌≢◌, ℕ, zero, suc, ◌+◌, List, [], ◌∷◌, refl, ap, sym, ◌∙◌, arith, Option, Some, None, get_or}
use Rattle.std.specs.Prelude.{sum_by}
use Rattle.std.proofs.lemmas.List.Sums.{sum_by-cons}
use Rattle.item_shares.specs.declared.item.Item.{Item}
use Rattle.item_shares.specs.declared.shares.Share.{Share}
use Rattle.item_shares.specs.Shares.{share_at, Changes}
use Rattle.item_shares.specs.Weights.{held_weight, weights}

module _ {X : Type 0} (f : Option X → ℕ) (none : f None ≡ 0) where
  -- slots that hold nothing weigh nothing
  sum_none : (xs : List (Option X)) → ((k : ℕ) → get_or xs k None ≡ None) → sum_by f xs ≡ 0
  sum_none [] all = refl
  sum_none (x ∷ xs) all = let here : f x ≡ 0 = ap f (all 0) ∙ none in omega (arith, sum_by-cons f x xs, here, sum_none xs (λ k. all (suc k)))

  sum_same : (xs ys : List (Option X)) → ((k : ℕ) → get_or ys k None ≡ get_or xs k None) → sum_by f ys ≡ sum_by f xs
  sum_same [] ys same = sum_none ys same
  sum_same (x ∷ xs) [] same = sym (sum_none (x ∷ xs) (λ k. sym (same k)))
  sum_same (x ∷ xs) (y ∷ ys) same = let here : f y ≡ f x = ap f (same 0) in
      omega (arith, sum_by-cons f x xs, sum_by-cons f y ys, here, sum_same xs ys (λ k. same (suc k)))

  -- one slot changes, of lists of any lengths
  pub sum_changed : (xs ys : List (Option X)) (slot : ℕ) → ((k : ℕ) → k ≢ slot → get_or ys k None ≡ get_or xs k None)
      → sum_by f ys + f (get_or xs slot None) ≡ sum_by f xs + f (get_or ys slot None)
  sum_changed [] [] slot others = refl
  sum_changed [] (y ∷ ys) zero others = let rest = sum_none ys (λ k. others (suc k) (λ e. omega (arith, e))) in omega (arith, sum_by-cons f y ys, rest, none)
  sum_changed [] (y ∷ ys) (suc slot) others =
      let here : f y ≡ 0 = ap f (others 0 (λ e. omega (arith, e))) ∙ none in
      omega (arith, sum_by-cons f y ys, here, sum_changed [] ys slot (λ k ne. others (suc k) (λ e. ne (omega (arith, e)))))
  sum_changed (x ∷ xs) [] zero others = let rest = sum_none xs (λ k. sym (others (suc k) (λ e. omega (arith, e)))) in
      omega (arith, sum_by-cons f x xs, rest, none)
  sum_changed (x ∷ xs) [] (suc slot) others =
      let here : f x ≡ 0 = ap f (sym (others 0 (λ e. omega (arith, e)))) ∙ none in
      omega (arith, sum_by-cons f x xs, here, sum_changed xs [] slot (λ k ne. others (suc k) (λ e. ne (omega (arith, e)))))
  sum_changed (x ∷ xs) (y ∷ ys) zero others =
      let rest = sum_same xs ys (λ k. others (suc k) (λ e. omega (arith, e))) in omega (arith, sum_by-cons f x xs, sum_by-cons f y ys, rest)
  sum_changed (x ∷ xs) (y ∷ ys) (suc slot) others =
      let here : f y ≡ f x = ap f (others 0 (λ e. omega (arith, e))) in
      omega (arith, sum_by-cons f x xs, sum_by-cons f y ys, here, sum_changed xs ys slot (λ k ne. others (suc k) (λ e. ne (omega (arith, e)))))

-- a slot that changes changes the weight by what it holds
pub weights_changed : (weight : Item → ℕ) (old new : List (Option Share)) (slot : ℕ) (held : Option Share) → Changes old new slot held
    → weights weight new + held_weight weight (share_at old slot) ≡ weights weight old + held_weight weight held
weights_changed weight old new slot held changes =
    sum_changed (held_weight weight) refl old new slot changes.others ∙ ap (λ one. weights weight old + held_weight weight one) changes.changed

-- an item that comes into a vacant slot
pub weighs_more : (weight : Item → ℕ) (old new : List (Option Share)) (slot : ℕ) (share : Share) → share_at old slot ≡ None → Changes old new slot (Some share)
    → weights weight new ≡ weights weight old + weight share.item
weighs_more weight old new slot share vacant changes =
    let none : held_weight weight (share_at old slot) ≡ 0 = ap (held_weight weight) vacant in
    omega (arith, none, weights_changed weight old new slot (Some share) changes)
