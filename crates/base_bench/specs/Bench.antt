-- What stays so while calls are timed. Own.
use Rattle.std.specs.Prelude.{ℕ, ◌≡◌, ◌≤◌, List, Option, IfSome, false, nat_eq}
use Rattle.std.specs.List.{list_any}
use Rattle.item_shares.specs.declared.shares.Share.{Share}
use Rattle.item_shares.specs.Shares.{share_at}

-- no entry has this number or a greater one
abbrev pub IsFresh : ℕ → List (ℕ × ℕ) → Type 0
IsFresh from entries = (number : ℕ) → from ≤ number → list_any (λ entry. nat_eq number entry.0) entries ≡ false

-- each item has one view on it
abbrev pub AllOnce : List (Option Share) → Type 0
AllOnce shares = (slot : ℕ) → IfSome (share_at shares slot) (λ share. share.count ≡ 1)
