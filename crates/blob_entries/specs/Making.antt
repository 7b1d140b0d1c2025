-- How the views of a blob are made, step by step. For the proofs; no public call cites it. Own.
use Rattle.std.specs.List.{AllByRecursion}
use Rattle.std.specs.Prelude.{List, Option, [], drop, length, min, sum_by, take, true, ℕ, ◌++◌, ◌+◌, ◌-◌, ◌<◌, ◌^◌, ◌∷◌, ◌≡◌, ◌≤◌}
use Rattle.blob_entries.specs.Contents.{made_cells, source_views, step_len}
use Rattle.blob_entries.specs.Counts.{count_at, views_on}
use Rattle.blob_entries.specs.Holdings.{fixed_views, own_views, views_in}
use Rattle.blob_entries.specs.Sound.{AreOwn}
use Rattle.blob_entries.specs.Statuses.{is_pending}
use Rattle.blob_entries.specs.Weights.{cut_most}
use Rattle.blob_entries.specs.declared.entry.Entry.{Entry}
use Rattle.blob_entries.specs.declared.step.Step.{Step}
use Rattle.blob_entries.specs.declared.step.Step.TheVariants.{Fixed, Own, Source}
use Rattle.blob_items.specs.Cells.{cells, total}
use Rattle.blob_items.specs.declared.view.View.{View}
use Rattle.item_shares.specs.Shares.{item_at}
use Rattle.item_shares.specs.declared.shares.Share.{Share}

-- the range of a source is inside its bytes
abbrev pub IsInside : List ℕ → List (Option Entry) → Step → Type 0
IsInside names entries (Own piece len) = Unit {0}
IsInside names entries (Fixed view) = Unit {0}
IsInside names entries (Source name off len) = off + len ≤ total (source_views names entries name)

-- the next of the own views is that of an own step
abbrev pub IsNextOwn : Step → List View → Type 0
IsNextOwn (Own piece len) [] = ⊥
IsNextOwn (Own piece len) (view ∷ views) = view.len ≡ len
IsNextOwn step views = Unit {0}

-- the slots of the source can count the views that are cut
abbrev pub HasRoomFor : List ℕ → List (Option Entry) → List (Option Share) → Step → Type 0
HasRoomFor names entries shares (Source name off len) =
    (slot : ℕ) → 0 < views_on slot (source_views names entries name)
    → (0 < count_at shares slot) × (count_at shares slot + min len (length (source_views names entries name)) ≤ 2 ^ 32)
HasRoomFor names entries shares step = Unit {0}

-- views are counted more
pub record AreShared (views : List View) (before after : List (Option Share)) : Type 0 where
  pub counts : (slot : ℕ) → count_at after slot ≡ count_at before slot + views_on slot views
  pub items : (slot : ℕ) → item_at after slot ≡ item_at before slot

-- views are cut from others
pub record IsCut (views : List View) (off len : ℕ) (cut : List View) : Type 0 where
  pub cells : cells cut ≡ take len (drop off (cells views))
  pub total : total cut ≡ len
  pub few : length cut ≤ min len (length views)
  pub slots : (slot : ℕ) → 0 < views_on slot cut → 0 < views_on slot views

-- views were cut, put at the end and counted
pub record PutsCut (source : List View) (off len : ℕ) (views later : List View) (before after : List (Option Share)) : Type 0 where
  pub cut : List View
  pub is_cut : IsCut source off len cut
  pub appended : later ≡ views ++ cut
  pub shared : AreShared cut before after

-- a step adds these views, and takes so many of the own ones
abbrev pub Adds : List ℕ → List (Option Entry) → Step → List View → ℕ → List View → List (Option Share) → List (Option Share) → Type 0
Adds names entries (Own piece len) own taken added before after = (taken ≡ 1) × (added ≡ take 1 own) × (after ≡ before)
Adds names entries (Fixed view) own taken added before after = (taken ≡ 0) × (added ≡ view ∷ []) × (after ≡ before)
Adds names entries (Source name off len) own taken added before after = (taken ≡ 0) × IsCut (source_views names entries name) off len added
    × AreShared added before after

pub record Puts (names : List ℕ) (entries : List (Option Entry)) (step : Step) (own : List View) (taken : ℕ) (views later : List View)
    (before after : List (Option Share)) : Type 0 where
  pub added : List View
  pub appended : later ≡ views ++ added
  pub adds : Adds names entries step own taken added before after

-- the views were made of all steps but these, and of all own views but these
pub record IsMade (names : List ℕ) (entries : List (Option Entry)) (steps : List Step) (own : List View) (first : List (Option Share)) (rest : List Step)
    (left views : List View) (shares : List (Option Share)) : Type 0 where
  pub cells : cells views ++ made_cells names entries rest left ≡ made_cells names entries steps own
  pub total : total views + sum_by step_len rest ≡ sum_by step_len steps
  pub few : length views + (length (fixed_views rest) + length left + cut_most names entries rest) ≤ length
      (fixed_views steps) + length own + cut_most names entries steps
  pub counts : (slot : ℕ) → count_at shares slot + (views_on slot (fixed_views steps) + views_on slot own) ≡ count_at first slot +
      (views_on slot views + (views_on slot (fixed_views rest) + views_on slot left))
  pub rose : (slot : ℕ) → count_at first slot ≤ count_at shares slot
  pub room : (slot : ℕ) → 0 < views_in entries slot → (0 < count_at shares slot) × (count_at shares slot + cut_most names entries rest ≤ 2 ^ 32)
  pub stays : (slot : ℕ) → views_in entries slot ≡ 0 → count_at shares slot ≡ count_at first slot
  pub items : (slot : ℕ) → item_at shares slot ≡ item_at first slot

-- what making a blob asks for
pub record CanMake (names : List ℕ) (entries : List (Option Entry)) (shares : List (Option Share)) (entry : Entry) : Type 0 where
  pub pending : is_pending entry.status ≡ true
  pub inside : AllByRecursion (IsInside names entries) entry.recipe
  pub own : AreOwn entry.recipe (own_views entry.own)
  pub fits : sum_by step_len entry.recipe ≡ entry.size
  pub small : entry.size ≤ 2 ^ 64 - 1
  pub bare : entry.views ≡ []
  pub room : (slot : ℕ) → 0 < views_in entries slot → (0 < count_at shares slot) × (count_at shares slot + cut_most names entries entry.recipe ≤ 2 ^ 32)
