-- Items of pieces that go, one after the other.
use Rattle.std.proofs.Common.{◌≡◌, ◌≢◌, ℕ, ◌+◌, ◌-◌, ◌<◌, ◌≤◌, ◌==◌, Bool, true, false, cond, List, [], ◌∷◌, ◌++◌, Option, Some, None, refl, ap, subst, sym}
use Rattle.std.proofs.Common.{◌∙◌, arith}
use Rattle.std.specs.Prelude.{fold, sum_by, IfSome, IsSome, is_some}
use Rattle.std.specs.Option.{option_map, option_map_or}
use Rattle.std.proofs.lemmas.Bool.{eq-eqb, eqb-true, eqb-false}
use Rattle.std.proofs.lemmas.List.Sums.{sum_by-append, sum_by-cons}
use Rattle.item_shares.specs.Shares.{item_at, share_at, share_of, Changes, HoldsPiece}
use Rattle.item_shares.specs.Weights.{weights}
use Rattle.item_shares.specs.declared.item.Item.{Item}
use Rattle.item_shares.specs.declared.item.Item.TheVariants.{Memory, Paged, Reserved, File, Range}
use Rattle.item_shares.specs.declared.shares.Share.{Share}
use Rattle.blob_entries.specs.Counts.{count_at}
use Rattle.blob_entries.proofs.Soundness.{same_or}
use Rattle.store_laws.specs.LetGo.{left_by, let_go_by, AreFreed}
use Rattle.store_laws.specs.Weights.{range_weight}
use Rattle.blob_store.specs.declared.parts.Parts.{Parts}
use Rattle.blob_store.specs.Dropping.{PiecesGo}

pub fold_append : {X Y : Type 0} (f : Y → X → Y) (one two : List X) (start : Y) → fold f start (one ++ two) ≡ fold f (fold f start one) two
fold_append f [] two start = refl
fold_append f (x ∷ one) two start = fold_append f one two (f start x)

pub freed_more : (shares between later : List (Option Share)) (one two : List Item) → AreFreed shares between one → AreFreed between later two
    → AreFreed shares later (one ++ two)
freed_more shares between later one two first second = record {
  still = λ slot. by slot (item_at later slot) (second.still slot);
  weighs = λ weight.
      let sums = sum_by-append weight one two in
      let a = first.weighs weight in let b = second.weighs weight in omega (arith, sums, a, b);
}
  where
    by : (slot : ℕ) (o : Option Item) → IfSome o (λ (item : Item). item_at between slot ≡ Some item)
        → IfSome o (λ (item : Item). item_at shares slot ≡ Some item)
    by slot None is = tt
    by slot (Some item) is = subst (λ (held : Option Item). IfSome held (λ (one : Item). item_at shares slot ≡ Some one)) is (first.still slot)

-- the count of a slot that has one is that of its item
item_there : (shares : List (Option Share)) (slot : ℕ) (item : Item) → item_at shares slot ≡ Some item → IsSome (share_at shares slot)
item_there shares slot item at = by (share_at shares slot) at
  where
    by : (o : Option Share) → option_map (λ (share : Share). share.item) o ≡ Some item → is_some o ≡ true
    by None e = absurd (cc e)
    by (Some share) e = refl

-- nothing went yet
pub none_goes : (parts : Parts) → PiecesGo parts parts
none_goes parts = record {
  freed = [];
  freed_so = record {
    still = λ slot. same slot (item_at parts.shares slot) refl;
    weighs = λ weight. let none : sum_by weight [] ≡ 0 = refl in omega (arith, none);
  };
  kept = λ slot some. refl;
  no_range = λ k. refl;
  pages = refl;
  recent = refl;
}
  where
    same : (slot : ℕ) (o : Option Item) → item_at parts.shares slot ≡ o → IfSome o (λ (item : Item). item_at parts.shares slot ≡ Some item)
    same slot None at = tt
    same slot (Some item) at = at

-- more items go
pub more_go : (old between new : Parts) (fewer : (slot : ℕ) → count_at new.shares slot ≤ count_at between.shares slot) → PiecesGo old between
    → PiecesGo between new → PiecesGo old new
more_go old between new fewer first second = record {
  freed = first.freed ++ second.freed;
  freed_so = freed_more old.shares between.shares new.shares first.freed second.freed first.freed_so second.freed_so;
  kept = λ slot some. second.kept slot some ∙ first.kept slot (let few = fewer slot in omega (arith, few, some));
  no_range = λ k.
      let sums = sum_by-append (range_weight k) first.freed second.freed in
      let a = first.no_range k in let b = second.no_range k in omega (arith, sums, a, b);
  pages = second.pages ∙ ap (λ (pages : _). fold let_go_by pages second.freed) first.pages
      ∙ sym (fold_append let_go_by first.freed second.freed old.pages);
  recent = second.recent ∙ ap (λ (recent : List (ℕ × ℕ)). fold left_by recent second.freed) first.recent
      ∙ sym (fold_append left_by first.freed second.freed old.recent);
}

-- ---- a pin that goes

module _ (shares later : List (Option Share)) (slot : ℕ) (result : Option Item) (there : IsSome (share_at shares slot))
    (last : IfSome (share_at shares slot) (λ (share : Share). share.count ≡ 1 → (result ≡ Some share.item) × Changes shares later slot None))
    (others : IfSome (share_at shares slot) (λ (share : Share). share.count ≢ 1
    → (result ≡ None) × Changes shares later slot (Some (share_of share.item (share.count - 1)))))
    (counted : IfSome (share_at shares slot) (λ (share : Share). 0 < share.count)) where
  abbrev counts_of : Option Share → ℕ
  counts_of held = option_map_or (λ (share : Share). share.count) held 0

  -- the slot has a count fewer, and its item unless that was the last
  record Fewer : Type 0 where
    pub here : count_at later slot + 1 ≡ count_at shares slot
    pub item : 0 < count_at later slot → item_at later slot ≡ item_at shares slot
    pub left : IfSome (item_at later slot) (λ (item : Item). item_at shares slot ≡ Some item)
    pub out : IfSome result (λ (item : Item). item_at shares slot ≡ Some item)
    pub elsewhere : (other : ℕ) → other ≢ slot → share_at later other ≡ share_at shares other

  fewer : Fewer
  fewer = by (share_at shares slot) refl there last others counted
    where
      by : (o : Option Share) → share_at shares slot ≡ o → IsSome o
          → IfSome o (λ (share : Share). share.count ≡ 1 → (result ≡ Some share.item) × Changes shares later slot None)
          → IfSome o (λ (share : Share). share.count ≢ 1
          → (result ≡ None) × Changes shares later slot (Some (share_of share.item (share.count - 1)))) → IfSome o (λ (share : Share). 0 < share.count)
          → Fewer
      by None at there last others some = absurd (cc there)
      by (Some share) at there last others some = go (share.count == 1) refl
        where
          go : (b : Bool) → (share.count == 1) ≡ b → Fewer
          go true is =
              let one : share.count ≡ 1 = eqb-true share.count 1 is in
              let said = last one in
              record {
                here = ap (λ (o : Option Share). counts_of o + 1) said.1.changed ∙ sym (ap counts_of at ∙ one);
                item = λ more. absurd (let none : count_at later slot ≡ 0 = ap counts_of said.1.changed in omega (arith, none, more));
                left = subst (λ (o : Option Share).
                    IfSome (option_map (λ (each : Share). each.item) o) (λ (item : Item). item_at shares slot ≡ Some item)) (sym said.1.changed) tt;
                out = subst (λ (o : Option Item). IfSome o (λ (item : Item). item_at shares slot ≡ Some item)) (sym said.0)
                    (ap (option_map (λ (each : Share). each.item)) at);
                elsewhere = said.1.others;
              }
          go false is =
              let said = others (eqb-false share.count 1 is) in
              record {
                here =
                    let now : count_at later slot ≡ share.count - 1 = ap counts_of said.1.changed in
                    let was : count_at shares slot ≡ share.count = ap counts_of at in omega (arith, now, was, some);
                item = λ more. ap (option_map (λ (each : Share). each.item)) said.1.changed ∙ sym (ap (option_map (λ (each : Share). each.item)) at);
                left = subst (λ (o : Option Share).
                    IfSome (option_map (λ (each : Share). each.item) o) (λ (item : Item). item_at shares slot ≡ Some item)) (sym said.1.changed)
                    (ap (option_map (λ (each : Share). each.item)) at);
                out = subst (λ (o : Option Item). IfSome o (λ (item : Item). item_at shares slot ≡ Some item)) (sym said.0) tt;
                elsewhere = said.1.others;
              }

  pub counts_fewer : (other : ℕ) → count_at later other + cond (slot == other) 1 0 ≡ count_at shares other
  counts_fewer other =
      same_or other slot
      (λ equal. subst (λ (k : ℕ). count_at later k + cond (slot == k) 1 0 ≡ count_at shares k) (sym equal)
      (let one : cond {A = ℕ} (slot == slot) 1 0 ≡ 1 = ap {B = ℕ} (λ (b : Bool). cond b 1 0) (eq-eqb slot slot refl) in
      let here = fewer.here in omega (arith, one, here)))
      (λ apart. let none : cond {A = ℕ} (slot == other) 1 0 ≡ 0 = zero_apart other apart (slot == other) refl in
      let same = ap counts_of (fewer.elsewhere other apart) in omega (arith, none, same))
    where
      zero_apart : (other : ℕ) → other ≢ slot → (b : Bool) → (slot == other) ≡ b → cond {A = ℕ} b 1 0 ≡ 0
      zero_apart other apart true is = absurd (apart (sym (eqb-true slot other is)))
      zero_apart other apart false is = refl

  pub kept_fewer : (other : ℕ) → 0 < count_at later other → item_at later other ≡ item_at shares other
  kept_fewer other some =
      same_or other slot
      (λ equal. subst (λ (k : ℕ). item_at later k ≡ item_at shares k) (sym equal) (fewer.item (subst (λ (k : ℕ). 0 < count_at later k) equal some)))
      (λ apart. ap (option_map (λ (each : Share). each.item)) (fewer.elsewhere other apart))

  pub still_fewer : (other : ℕ) → IfSome (item_at later other) (λ (item : Item). item_at shares other ≡ Some item)
  still_fewer other =
      same_or other slot
      (λ equal. subst (λ (k : ℕ). IfSome (item_at later k) (λ (item : Item). item_at shares k ≡ Some item)) (sym equal) fewer.left)
      (λ apart. subst (λ (o : Option Share).
      IfSome (option_map (λ (each : Share). each.item) o) (λ (item : Item). item_at shares other ≡ Some item)) (sym (fewer.elsewhere other apart))
      (same (item_at shares other) refl))
    where
      same : (o : Option Item) → item_at shares other ≡ o → IfSome o (λ (item : Item). item_at shares other ≡ Some item)
      same None at = tt
      same (Some item) at = at

  pub out_fewer : IfSome result (λ (item : Item). item_at shares slot ≡ Some item)
  out_fewer = fewer.out

no_range_piece : (item : Item) (k : ℕ) → HoldsPiece item → range_weight k item ≡ 0
no_range_piece (Memory piece bytes) k is = refl
no_range_piece (Paged piece page off len) k is = refl
no_range_piece (Reserved piece len) k is = refl
no_range_piece (File name stamp off len) k is = absurd is
no_range_piece (Range slot off len) k is = absurd is

-- so one item goes, or none, where a pin goes
pub one_goes : (old new : Parts) (slot : ℕ) (result : Option Item)
    → ((other : ℕ) → 0 < count_at new.shares other → item_at new.shares other ≡ item_at old.shares other)
    → ((other : ℕ) → IfSome (item_at new.shares other) (λ (item : Item). item_at old.shares other ≡ Some item))
    → ((weight : Item → ℕ) → weights weight new.shares + option_map_or weight result 0 ≡ weights weight old.shares) → IfSome result HoldsPiece
    → new.pages ≡ option_map_or (λ (item : Item). let_go_by old.pages item) result old.pages
    → new.recent ≡ option_map_or (λ (item : Item). left_by old.recent item) result old.recent → PiecesGo old new
one_goes old new slot None kept still weighs piece pages recent = record {
  freed = [];
  freed_so = record { still = still; weighs = λ weight. let all = weighs weight in let none : sum_by weight [] ≡ 0 = refl in omega (arith, all, none) };
  kept = kept;
  no_range = λ k. refl;
  pages = pages;
  recent = recent;
}
one_goes old new slot (Some item) kept still weighs piece pages recent = record {
  freed = item ∷ [];
  freed_so = record {
    still = still;
    weighs = λ weight.
        let all = weighs weight in
        let sum = sum_by-cons weight item [] in let none : sum_by weight [] ≡ 0 = refl in omega (arith, all, sum, none);
  };
  kept = kept;
  no_range = λ k. let sum = sum_by-cons (range_weight k) item [] in
      let last : sum_by (range_weight k) [] ≡ 0 = refl in let none = no_range_piece item k piece in omega (arith, sum, none, last);
  pages = pages;
  recent = recent;
}
