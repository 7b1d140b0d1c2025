-- Pins that go, one after the other.
use Rattle.std.proofs.Common.{◌≡◌, ℕ, ◌+◌, ◌-◌, ◌<◌, ◌≤◌, ◌==◌, Bool, true, cond, List, Option, Some, None, length, drop, get_or, refl, ap, subst, sym, ◌∙◌}
use Rattle.std.proofs.Common.{arith}
use Rattle.std.specs.Prelude.{count_by, IfSome, IsSome, IsSomeAnd, is_some}
use Rattle.std.specs.Option.{option_map_or}
use Rattle.std.proofs.lemmas.Bool.{eq-eqb}
use Rattle.std.proofs.lemmas.List.{drop_more}
use Rattle.std.proofs.lemmas.List.Sums.{sum_by-cons}
use Rattle.item_shares.specs.Shares.{item_at, share_at, share_of, Changes, HoldsPiece}
use Rattle.item_shares.specs.Weights.{weights}
use Rattle.item_shares.specs.declared.item.Item.{Item}
use Rattle.item_shares.specs.declared.item.Item.TheVariants.{Memory, Paged, Reserved, File, Range}
use Rattle.item_shares.specs.declared.shares.Share.{Share}
use Rattle.blob_entries.specs.Counts.{count_at}
use Rattle.page_disk.specs.declared.change.Change.{Change}
use Rattle.page_files.specs.Files.{Agrees, Files}
use Rattle.quota_queue.specs.Queue.{Queue}
use Rattle.store_laws.specs.LetGo.{left_by, let_go_by}
use Rattle.store_laws.specs.Weights.{memory_weight, piece_weight, reserved_weight}
use Rattle.blob_store.specs.declared.parts.Parts.{Parts}
use Rattle.blob_store.specs.Dropping.{ChargedBeside, PiecesGo}
use Rattle.blob_store.proofs.PiecesGoing.{counts_fewer, kept_fewer, more_go, none_goes, one_goes, out_fewer, still_fewer}

-- so many pins went, and the others are there still
pub record Unpins (old : Parts) (slots : List ℕ) (now : Parts) : Type 0 where
  pub charged : ChargedBeside slots 0 0 now
  pub pieces : (slot : ℕ) → 0 < count_by (λ (one : ℕ). one == slot) slots → IsSomeAnd (item_at now.shares slot) HoldsPiece
  pub goes : PiecesGo old now
  pub rest : now ≡ record old {
    shares = now.shares;
    quota = record old.quota { used = now.quota.used };
    pages = now.pages;
    recent = now.recent;
    held = now.held;
  }
  pub agrees : (changes : List Change) → Agrees old.pages.pages changes → Agrees now.pages.pages changes

pub none_unpinned : (old : Parts) (slots : List ℕ) → ChargedBeside slots 0 0 old
    → ((slot : ℕ) → 0 < count_by (λ (one : ℕ). one == slot) slots → IsSomeAnd (item_at old.shares slot) HoldsPiece) → Unpins old slots old
none_unpinned old slots charged pieces = record {
  charged = charged;
  pieces = pieces;
  goes = none_goes old;
  rest = refl;
  agrees = λ changes is. is;
}

count_next : (slots : List ℕ) (i : ℕ) → i < length slots → (k : ℕ)
    → count_by (λ (one : ℕ). one == k) (drop i slots) ≡ cond (get_or slots i 0 == k) 1 0 + count_by (λ (one : ℕ). one == k) (drop (i + 1) slots)
count_next slots i less k =
    ap (λ (list : List ℕ). count_by (λ (one : ℕ). one == k) list) (drop_more slots i 0 less)
    ∙ sum_by-cons (λ (one : ℕ). cond (one == k) 1 0) (get_or slots i 0) (drop (i + 1) slots)

fewer_reserved : (files : Files) (result : Option Item)
    → (option_map_or (λ (item : Item). let_go_by files item) result files).reserved ≡ files.reserved - option_map_or reserved_weight result 0
fewer_reserved files None = omega arith
fewer_reserved files (Some (Memory piece bytes)) = omega arith
fewer_reserved files (Some (Paged piece page off len)) = omega arith
fewer_reserved files (Some (Reserved piece len)) = refl
fewer_reserved files (Some (File name stamp off len)) = omega arith
fewer_reserved files (Some (Range slot off len)) = omega arith

module _ (old parts : Parts) (slots : List ℕ) (i : ℕ) (less : i < length slots) (was : Unpins old (drop i slots) parts) where
  abbrev slot : ℕ
  slot = get_or slots i 0

  some_pin : 0 < count_by (λ (one : ℕ). one == slot) (drop i slots)
  some_pin =
      let next = count_next slots i less slot in
      let one : cond {A = ℕ} (slot == slot) 1 0 ≡ 1 = ap {B = ℕ} (λ (b : Bool). cond b 1 0) (eq-eqb slot slot refl) in omega (arith, next, one)

  -- the slot of the next pin holds an item
  pub pin_there : IsSome (share_at parts.shares slot)
  pin_there =
      by (share_at parts.shares slot) refl
    where
      by : (o : Option Share) → share_at parts.shares slot ≡ o → is_some (share_at parts.shares slot) ≡ true
      by None at =
          let none : count_at parts.shares slot ≡ 0 = ap (λ (held : Option Share). option_map_or (λ (share : Share). share.count) held 0) at in
          let sum = was.charged.counts slot in let some = some_pin in absurd (omega (arith, none, sum, some))
      by (Some share) at = ap (λ (held : Option Share). is_some held) at

  module _ (result : Option Item) (later : List (Option Share))
      (weighs : (weight : Item → ℕ) → weights weight later + option_map_or weight result 0 ≡ weights weight parts.shares) where
    pub enough_used : option_map_or memory_weight result 0 ≤ parts.quota.used
    enough_used = let all = weighs memory_weight in let used = was.charged.used in omega (arith, all, used)

    pub enough_reserved : option_map_or reserved_weight result 0 ≤ parts.pages.reserved
    enough_reserved = let all = weighs reserved_weight in let reserved = was.charged.reserved in omega (arith, all, reserved)

    pub enough_held : option_map_or piece_weight result 0 ≤ parts.held
    enough_held = let all = weighs piece_weight in let held = was.charged.held_so in omega (arith, all, held)

    module _ (quota : Queue) (pages : Files) (recent : List (ℕ × ℕ)) (held : ℕ)
        (last : IfSome (share_at parts.shares slot) (λ (share : Share). share.count ≡ 1 → (result ≡ Some share.item) × Changes parts.shares later slot None))
        (others : IfSome (share_at parts.shares slot) (λ (share : Share). (share.count ≡ 1 → ⊥)
        → (result ≡ None) × Changes parts.shares later slot (Some (share_of share.item (share.count - 1)))))
        (counted : IfSome (share_at parts.shares slot) (λ (share : Share). 0 < share.count))
        (used_so : quota ≡ record parts.quota { used = parts.quota.used - option_map_or memory_weight result 0 })
        (pages_so : pages ≡ option_map_or (λ (item : Item). let_go_by parts.pages item) result parts.pages)
        (recent_so : recent ≡ option_map_or (λ (item : Item). left_by parts.recent item) result parts.recent)
        (held_so : held + option_map_or piece_weight result 0 ≡ parts.held)
        (agrees : (changes : List Change) → Agrees parts.pages.pages changes → Agrees pages.pages changes) where
      abbrev now : Parts
      now = record parts { shares = later; quota = quota; pages = pages; recent = recent; held = held }

      fewer : (other : ℕ) → count_at later other + cond (slot == other) 1 0 ≡ count_at parts.shares other
      fewer = counts_fewer parts.shares later slot result pin_there last others counted

      kept : (other : ℕ) → 0 < count_at later other → item_at later other ≡ item_at parts.shares other
      kept = kept_fewer parts.shares later slot result pin_there last others counted

      piece_out : IfSome result HoldsPiece
      piece_out = by result (out_fewer parts.shares later slot result pin_there last others counted) (was.pieces slot some_pin)
        where
          by : (o : Option Item) → IfSome o (λ (item : Item). item_at parts.shares slot ≡ Some item)
              → IsSomeAnd (item_at parts.shares slot) HoldsPiece → IfSome o HoldsPiece
          by None is piece = tt
          by (Some item) is piece = subst (λ (held : Option Item). IsSomeAnd held HoldsPiece) is piece

      goes_on : PiecesGo parts now
      goes_on =
          one_goes parts now slot result kept (still_fewer parts.shares later slot result pin_there last others counted) weighs piece_out pages_so recent_so

      quota_so : quota ≡ record old.quota { used = quota.used }
      quota_so =
          used_so
          ∙ ap (λ (one : Parts). record one.quota { used = parts.quota.used - option_map_or memory_weight result 0 }) was.rest
          ∙ sym (ap (λ (one : Queue). record old.quota { used = one.used }) used_so)

      pub one_unpinned : Unpins old (drop (i + 1) slots) now
      one_unpinned = record {
        charged = record {
          counts = λ other.
              let sum = was.charged.counts other in
              let next = count_next slots i less other in let few = fewer other in omega (arith, sum, next, few);
          unpinned = λ other some.
              let none = was.charged.unpinned other some in let next = count_next slots i less other in omega (arith, none, next);
          used =
              let all = weighs memory_weight in
              let sum = was.charged.used in let now_used = ap (λ (one : Queue). one.used) used_so in omega (arith, all, sum, now_used);
          reserved =
              let all = weighs reserved_weight in
              let sum = was.charged.reserved in
              let now_reserved = ap (λ (one : Files). one.reserved) pages_so ∙ fewer_reserved parts.pages result in omega (arith, all, sum, now_reserved);
          held_so = let all = weighs piece_weight in let sum = was.charged.held_so in omega (arith, all, sum, held_so);
        };
        pieces = λ other some.
            let sum = was.charged.counts other in
            let next = count_next slots i less other in
            let few = fewer other in
            subst (λ (held_item : Option Item). IsSomeAnd held_item HoldsPiece) (sym (kept other (omega (arith, sum, next, few, some))))
            (was.pieces other (omega (arith, next, some)));
        goes = more_go old parts now (λ other. let few = fewer other in omega (arith, few)) was.goes goes_on;
        rest = ap (λ (one : Parts). record one { shares = later; quota = quota; pages = pages; recent = recent; held = held }) was.rest
            ∙ ap (λ (one : Queue). record old { shares = later; quota = one; pages = pages; recent = recent; held = held }) quota_so;
        agrees = λ changes is. agrees changes (was.agrees changes is);
      }
