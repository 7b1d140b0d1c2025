-- What a disk of pages tells, and what a write of a page is. Own.
use Rattle.std.specs.Prelude.{ℕ, ◌≡◌, ◌+◌, ◌≤◌, ◌==◌, Bool, true, false, List, [], ◌∷◌, ◌++◌, if◌then◌else◌, length, Option, Some, None, IsSomeAnd}
use Rattle.std.specs.Option.{option_map, option_or}
use Rattle.std.specs.List.{list_any}
use Rattle.blob_words.specs.declared.number.PageNo.{PageNo}
use Rattle.page_disk.specs.declared.change.Change.{Change}
use Rattle.page_disk.specs.declared.change.Change.TheVariants.{Put, Torn, Remove, Left}

-- a write that is open: its page, its length in bytes and how many of them came
pub record OpenWrite : Type 0 where
  pub page : PageNo
  pub len : ℕ
  pub came : ℕ

-- whether a change is a write of the page, good or not
abbrev pub writes : ℕ → Change → Bool
writes page (Put one bytes) = page == one.0
writes page (Torn one) = page == one.0
writes page (Remove one) = false
writes page (Left one) = false

-- whether a change is a removal of the page, good or not
abbrev pub removes : ℕ → Change → Bool
removes page (Put one bytes) = false
removes page (Torn one) = false
removes page (Remove one) = page == one.0
removes page (Left one) = page == one.0

-- the bytes that a change puts into the page
abbrev pub put_by : ℕ → Change → Option (List ℕ)
put_by page (Put one bytes) = if page == one.0 then Some bytes else None
put_by page (Torn one) = None
put_by page (Remove one) = None
put_by page (Left one) = None

-- the bytes last put into the page
abbrev pub last_put : ℕ → List Change → Option (List ℕ)
last_put page [] = None
last_put page (change ∷ changes) = option_or (last_put page changes) (put_by page change)

-- the page was never put or torn
abbrev pub IsNew : ℕ → List Change → Type 0
IsNew page changes = list_any (writes page) changes ≡ false

-- the page was put or torn, and its removal was never asked for
abbrev pub Stands : ℕ → List Change → Type 0
Stands page changes = (list_any (writes page) changes ≡ true) × (list_any (removes page) changes ≡ false)

-- the page was put, its removal was never asked for, and it has these bytes
abbrev pub HasRange : ℕ → ℕ → ℕ → List Change → Type 0
HasRange page off len changes = IsSomeAnd (last_put page changes) (λ bytes. off + len ≤ length bytes) × (list_any (removes page) changes ≡ false)

-- one change more, where changes are told
abbrev pub with_change : Change → Option (List Change) → Option (List Change)
with_change change told = option_map (λ changes. changes ++ change ∷ []) told

-- the open write failed
abbrev pub with_torn : Option OpenWrite → Option (List Change) → Option (List Change)
with_torn None told = told
with_torn (Some write) told = with_change (Torn write.page) told

-- the open write put these bytes
abbrev pub with_put : Option OpenWrite → List ℕ → Option (List Change) → Option (List Change)
with_put None bytes told = told
with_put (Some write) bytes told = with_change (Put write.page bytes) told

-- so many bytes more came
abbrev pub with_more : ℕ → Option OpenWrite → Option OpenWrite
with_more count write = option_map (λ (one : OpenWrite). record one { came = one.came + count }) write
