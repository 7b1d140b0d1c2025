-- A bound on the views that entries have or will have, by weights. Own.
use Rattle.std.specs.Option.{option_map_or}
use Rattle.std.specs.Prelude.{IfSome, List, Option, length, min, slice_index, sum, sum_by, ℕ, ◌+◌, ◌^◌, ◌≤◌}
use Rattle.blob_entries.specs.Book.{Book, entry_at}
use Rattle.blob_entries.specs.Contents.{source_views}
use Rattle.blob_entries.specs.Holdings.{held_views}
use Rattle.blob_entries.specs.Names.{number_of}
use Rattle.blob_entries.specs.declared.entry.Entry.{Entry}
use Rattle.blob_entries.specs.declared.step.Step.{Step}
use Rattle.blob_entries.specs.declared.step.Step.TheVariants.{Fixed, Own, Source}

-- how many views are cut for the steps at most
abbrev pub step_most : List ℕ → List (Option Entry) → Step → ℕ
step_most names entries (Own piece len) = 0
step_most names entries (Fixed view) = 0
step_most names entries (Source name off len) = min len (length (source_views names entries name))

abbrev pub cut_most : List ℕ → List (Option Entry) → List Step → ℕ
cut_most names entries steps = sum_by (step_most names entries) steps

-- how many views are cut for the steps at most, where a source has so many
abbrev pub step_weight : List ℕ → List ℕ → Step → ℕ
step_weight names weights (Own piece len) = 0
step_weight names weights (Fixed view) = 0
step_weight names weights (Source name off len) = min len (option_map_or (slice_index weights) (number_of name names) 0)

abbrev pub cut_weight : List ℕ → List ℕ → List Step → ℕ
cut_weight names weights steps = sum_by (step_weight names weights) steps

-- the weights bound the views that each entry has or will have
abbrev pub AreBounds : List ℕ → Book → Type 0
AreBounds weights book =
    (number : ℕ) → IfSome (entry_at book.entries number)
    (λ (entry : Entry). length (held_views entry) + cut_weight book.names weights entry.recipe ≤ slice_index weights number)

-- weights that did still do
abbrev pub KeepsBounds : Book → Book → Type 0
KeepsBounds before after = (weights : List ℕ) → AreBounds weights before → AreBounds weights after

-- with these weights, which bound the views that each entry has or will have, there are at most 2^32 views
pub record HasRoom (names : List ℕ) (entries : List (Option Entry)) : Type 0 where
  pub weights : List ℕ
  pub few : sum weights ≤ 2 ^ 32
  pub weighed : (number : ℕ) → IfSome (entry_at entries number)
      (λ (entry : Entry). length (held_views entry) + cut_weight names weights entry.recipe ≤ slice_index weights number)
