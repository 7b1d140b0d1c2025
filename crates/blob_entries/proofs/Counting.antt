-- Counts of shares, as views come and go.
use Rattle.std.proofs.Common.{◌≡◌, ◌≢◌, ℕ, ◌+◌, ◌-◌, ◌<◌, ◌≤◌, Bool, true, false, cond, List, [], ◌∷◌, ◌++◌, Option, Some, None, length, get_or, take}
use Rattle.std.proofs.Common.{drop, nat_eq, refl, sym, ap, ◌∙◌, arith, append_assoc, append-nil}
use Rattle.std.specs.Prelude.{IfSome, IsSome, IsSomeAnd}
use Rattle.std.specs.Option.{option_map, option_map_or, option_to_list}
use Rattle.std.proofs.lemmas.Bool.{eqb-true}
use Rattle.std.proofs.lemmas.Bool.Decides.{nat_tests}
use Rattle.std.proofs.lemmas.List.{take_more, take-append-drop}
use Rattle.std.proofs.lemmas.List.Sums.{sum_by-append, sum_by-cons, count_by-le-length}
use Rattle.item_shares.specs.declared.item.Item.{Item}
use Rattle.item_shares.specs.declared.shares.Share.{Share}
use Rattle.item_shares.specs.Shares.{Changes, item_at, share_at, share_of}
use Rattle.blob_items.specs.declared.view.View.{View}
use Rattle.blob_entries.specs.Counts.{count_at, freed_at, freed_by, one_at, views_on}

abbrev Held : Type 0
Held = List (Option Share)

pub on_append : (slot : ℕ) (one more : List View) → views_on slot (one ++ more) ≡ views_on slot one + views_on slot more
on_append slot one more = sum_by-append (λ (view : View). cond (nat_eq view.slot slot) 1 0) one more

pub on_cons : (slot : ℕ) (view : View) (more : List View) → views_on slot (view ∷ more) ≡ one_at view.slot slot + views_on slot more
on_cons slot view more = sum_by-cons (λ (view : View). cond (nat_eq view.slot slot) 1 0) view more

pub on_more : (slot : ℕ) (views : List View) (i : ℕ) (d : View) → i < length views
    → views_on slot (take (i + 1) views) ≡ views_on slot (take i views) + one_at (get_or views i d).slot slot
on_more slot views i d within = rw (take_more views i d within, on_append slot (take i views) (get_or views i d ∷ [])) (omega arith)

pub on_take : (slot : ℕ) (views : List View) (i : ℕ) → views_on slot (take i views) ≤ views_on slot views
on_take slot views i =
    let parts : views_on slot (take i views ++ drop i views) ≡ views_on slot (take i views) + views_on slot (drop i views) = on_append slot (take i views)
    (drop i views) in
    let whole : views_on slot (take i views ++ drop i views) ≡ views_on slot views = ap (views_on slot) (take-append-drop i views) in
    omega arith

pub on_length : (slot : ℕ) (views : List View) → views_on slot views ≤ length views
on_length slot views = count_by-le-length (λ (view : View). nat_eq view.slot slot) views

-- of a view that is there, its slot counts one more than before it
pub on_next : (views : List View) (i : ℕ) (d : View) → i < length views
    → views_on (get_or views i d).slot (take i views) + 1 ≤ views_on (get_or views i d).slot views
on_next views i d within =
    let slot : ℕ = (get_or views i d).slot in
    let step : views_on slot (take (i + 1) views) ≡ views_on slot (take i views) + one_at slot slot = on_more slot views i d within in
    let one : one_at slot slot ≡ 1 = grind arith in
    let le : views_on slot (take (i + 1) views) ≤ views_on slot views = on_take slot views (i + 1) in
    omega arith

-- how a slot counts one more
pub record Shared (before after : Held) (slot : ℕ) : Type 0 where
  pub counts : (other : ℕ) → count_at after other ≡ count_at before other + one_at slot other
  pub items : (other : ℕ) → item_at after other ≡ item_at before other

count_of : Option Share → ℕ
count_of held = option_map_or (λ (share : Share). share.count) held 0

pub shared_at : (before after : Held) (slot : ℕ) → 0 < count_at before slot
    → IfSome (share_at before slot) (λ (share : Share). Changes before after slot (Some (share_of share.item (share.count + 1)))) → Shared before after slot
shared_at before after slot some changes = by (share_at before slot) refl some changes
  where
    at : (share : Share) → share_at before slot ≡ Some share → Changes before after slot (Some (share_of share.item (share.count + 1))) → (other : ℕ)
        → (b : Bool) → nat_eq slot other ≡ b
        → (option_map_or (λ (s : Share). s.count) (share_at after other) 0 ≡ option_map_or (λ (s : Share). s.count) (share_at before other) 0 + cond b 1 0)
        × (option_map (λ (s : Share). s.item) (share_at after other) ≡ option_map (λ (s : Share). s.item) (share_at before other))
    at share is change other true same =
        let equal : slot ≡ other = eqb-true slot other same in
        rw (← equal, change.changed, is) (refl, refl)
    at share is change other false differs =
        let apart : other ≢ slot = λ equal. let yes : nat_eq slot other ≡ true = grind arith in cc in
        rw (change.others other apart) (omega arith, refl)

    by : (held : Option Share) → share_at before slot ≡ held → 0 < option_map_or (λ (s : Share). s.count) held 0
        → IfSome held (λ (share : Share). Changes before after slot (Some (share_of share.item (share.count + 1)))) → Shared before after slot
    by None is some change = absurd (omega arith)
    by (Some share) is some change = record {
      counts = λ other. (at share is change other (nat_eq slot other) refl).0;
      items = λ other.
          (at share is change other (nat_eq slot other) refl).1;
    }

-- how a slot counts one less, and what it gives
pub record Released (before after : Held) (slot : ℕ) (result : Option Item) : Type 0 where
  pub counts : (other : ℕ) → count_at after other + one_at slot other ≡ count_at before other
  pub items : (other : ℕ) → 0 < count_at after other → item_at after other ≡ item_at before other
  pub freed : option_to_list result ≡ freed_at before slot 0

-- what `release` says of the share of a slot
abbrev pub IsLast : Held → Held → ℕ → Option Item → Share → Type 0
IsLast before after slot result share = share.count ≡ 1 → (result ≡ Some share.item) × Changes before after slot None

abbrev pub IsOther : Held → Held → ℕ → Option Item → Share → Type 0
IsOther before after slot result share = share.count ≢ 1 → (result ≡ None) × Changes before after slot (Some (share_of share.item (share.count - 1)))

pub released_at : (before after : Held) (slot : ℕ) (result : Option Item) → 0 < count_at before slot
    → IfSome (share_at before slot) (IsLast before after slot result) → IfSome (share_at before slot) (IsOther before after slot result)
    → Released before after slot result
released_at before after slot result some last others = by (share_at before slot) refl some last others
  where
    elsewhere : (later : Option Share) → Changes before after slot later → (other : ℕ) → nat_eq slot other ≡ false
        → (option_map_or (λ (s : Share). s.count) (share_at after other) 0 + 0 ≡ option_map_or (λ (s : Share). s.count) (share_at before other) 0)
        × (0 < option_map_or (λ (s : Share). s.count) (share_at after other) 0
        → option_map (λ (s : Share). s.item) (share_at after other) ≡ option_map (λ (s : Share). s.item) (share_at before other))
    elsewhere later change other differs =
        let apart : other ≢ slot = λ equal. let yes : nat_eq slot other ≡ true = grind arith in cc in
        rw (change.others other apart) (omega arith, λ _. refl)

    gone : (share : Share) → share_at before slot ≡ Some share → share.count ≡ 1 → Changes before after slot None → (other : ℕ) (b : Bool)
        → nat_eq slot other ≡ b
        → (option_map_or (λ (s : Share). s.count) (share_at after other) 0 + cond b 1 0 ≡ option_map_or (λ (s : Share). s.count) (share_at before other) 0)
        × (0 < option_map_or (λ (s : Share). s.count) (share_at after other) 0
        → option_map (λ (s : Share). s.item) (share_at after other) ≡ option_map (λ (s : Share). s.item) (share_at before other))
    gone share is one change other false differs = elsewhere None change other differs
    gone share is one change other true same =
        let equal : slot ≡ other = eqb-true slot other same in
        rw (← equal, change.changed, is) (omega arith, λ none. absurd (omega arith))

    kept : (share : Share) → share_at before slot ≡ Some share → 0 < share.count → Changes before after slot (Some (share_of share.item (share.count - 1)))
        → (other : ℕ) (b : Bool) → nat_eq slot other ≡ b
        → (option_map_or (λ (s : Share). s.count) (share_at after other) 0 + cond b 1 0 ≡ option_map_or (λ (s : Share). s.count) (share_at before other) 0)
        × (0 < option_map_or (λ (s : Share). s.count) (share_at after other) 0
        → option_map (λ (s : Share). s.item) (share_at after other) ≡ option_map (λ (s : Share). s.item) (share_at before other))
    kept share is some change other false differs = elsewhere (Some (share_of share.item (share.count - 1))) change other differs
    kept share is some change other true same =
        let equal : slot ≡ other = eqb-true slot other same in
        rw (← equal, change.changed, is) (omega arith, λ _. refl)

    by : (held : Option Share) → share_at before slot ≡ held → 0 < option_map_or (λ (s : Share). s.count) held 0
        → IfSome held (IsLast before after slot result) → IfSome held (IsOther before after slot result) → Released before after slot result
    by None is some last others = absurd (omega arith)
    by (Some share) is some last others = tell (nat_eq share.count 1) refl
      where
        tell : (b : Bool) → nat_eq share.count 1 ≡ b → Released before after slot result
        tell true one =
            let same : share.count ≡ 1 = eqb-true share.count 1 one in
            let said = last same in
            record {
              counts = λ other. (gone share is same said.1 other (nat_eq slot other) refl).0;
              items = λ other. (gone share is same said.1 other (nat_eq slot other) refl).1;
              freed = rw (is, said.0, one) refl;
            }
        tell false more =
            let differs : share.count ≢ 1 = λ equal. let yes : nat_eq share.count 1 ≡ true = grind arith in cc in
            let said = others differs in
            record {
              counts = λ other. (kept share is some said.1 other (nat_eq slot other) refl).0;
              items = λ other. (kept share is some said.1 other (nat_eq slot other) refl).1;
              freed = rw (is, said.0, more) refl;
            }

-- the items that go, one view on
pub freed_more : (shares : Held) (gone views : List View) (view : View)
    → freed_by shares gone (views ++ view ∷ []) ≡ freed_by shares gone views ++ freed_at shares view.slot (views_on view.slot (gone ++ views))
freed_more shares gone [] view = rw (append-nil gone) (append-nil (freed_at shares view.slot (views_on view.slot gone)))
freed_more shares gone (first ∷ views) view =
    let rest : freed_by shares (gone ++ first ∷ []) (views ++ view ∷ []) ≡ freed_by shares (gone ++ first ∷ []) views ++ freed_at shares view.slot
    (views_on view.slot ((gone ++ first ∷ []) ++ views)) = freed_more shares (gone ++ first ∷ []) views view in
    let front : List Item = freed_at shares first.slot (views_on first.slot gone) in
    let same : (gone ++ first ∷ []) ++ views ≡ gone ++ (first ∷ views) = append_assoc gone (first ∷ []) views in
    ap (λ (items : List Item). front ++ items)
    (rest ∙ ap (λ (all : List View). freed_by shares (gone ++ first ∷ []) views ++ freed_at shares view.slot (views_on view.slot all)) same)
    ∙ sym (append_assoc front (freed_by shares (gone ++ first ∷ []) views) (freed_at shares view.slot (views_on view.slot (gone ++ (first ∷ views)))))

-- the next item that goes, where the counts are those after the views before it
pub freed_step : (first before : Held) (views : List View) (view : View) → ((slot : ℕ) → count_at before slot + views_on slot views ≡ count_at first slot)
    → ((slot : ℕ) → 0 < count_at before slot → item_at before slot ≡ item_at first slot)
    → 0 < count_at before view.slot → freed_by first [] (views ++ view ∷ []) ≡ freed_by first [] views ++ freed_at before view.slot 0
freed_step first before views view counts items some = freed_more first [] views view ∙ ap (λ (more : List Item). freed_by first [] views ++ more) same
  where
    tests : nat_eq (count_at first view.slot) (views_on view.slot views + 1) ≡ nat_eq (count_at before view.slot) (0 + 1)
    tests = let here : count_at before view.slot + views_on view.slot views ≡ count_at first view.slot = counts view.slot in grind (arith, nat_tests)

    same : freed_at first view.slot (views_on view.slot views) ≡ freed_at before view.slot 0
    same = rw (tests, items view.slot some) refl

-- a slot that counts views holds something
pub held_is : (shares : Held) (slot : ℕ) → 0 < count_at shares slot → IsSome (share_at shares slot)
held_is shares slot some = by (share_at shares slot) some
  where
    by : (held : Option Share) → 0 < option_map_or (λ (share : Share). share.count) held 0 → IsSome held
    by None some = absurd (omega arith)
    by (Some share) some = refl

pub below_is : (shares : Held) (slot n : ℕ) → 0 < count_at shares slot → count_at shares slot < n
    → IsSomeAnd (share_at shares slot) (λ (share : Share). share.count < n)
below_is shares slot n some below = by (share_at shares slot) some below
  where
    by : (held : Option Share) → 0 < option_map_or (λ (share : Share). share.count) held 0 → option_map_or (λ (share : Share). share.count) held 0 < n
        → IsSomeAnd held (λ (share : Share). share.count < n)
    by None some below = absurd (omega arith)
    by (Some share) some below = below
