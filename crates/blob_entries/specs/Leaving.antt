-- Who lives, what is left of an entry, and what goes with it. Own.
use Rattle.std.specs.List.{list_any}
use Rattle.std.specs.Option.{option_map, option_map_or}
use Rattle.std.specs.Prelude.{Bool, List, None, Option, [], false, if◌then◌else◌, nat_lt, set, sum_by, true, ℕ, ◌++◌, ◌+◌, ◌<◌, ◌||◌, ◌∷◌, ◌≡◌}
use Rattle.blob_entries.specs.Book.{Book, entry_at, is_unfinished}
use Rattle.blob_entries.specs.Counts.{count_at, freed_by, views_on}
use Rattle.blob_entries.specs.Holdings.{held_views}
use Rattle.blob_entries.specs.Sources.{needs}
use Rattle.blob_entries.specs.Statuses.{is_broken}
use Rattle.blob_entries.specs.declared.entry.Entry.{Entry}
use Rattle.blob_items.specs.declared.view.View.{View}
use Rattle.item_shares.specs.Shares.{item_at}
use Rattle.item_shares.specs.Weights.{weights}
use Rattle.item_shares.specs.declared.item.Item.{Item}
use Rattle.item_shares.specs.declared.shares.Share.{Share}

abbrev pub is_rooted : Option Entry → Bool
is_rooted held = option_map_or (λ (entry : Entry). nat_lt 0 entry.roots) held false

-- whether one of these, which are unfinished and live, has the source
abbrev pub is_needed : List ℕ → ℕ → List (Option Entry) → Bool
is_needed names number live = list_any (needs names number) live

-- whether what stands under a build number is rooted or needed
abbrev pub lives_at : Book → ℕ → Bool
lives_at book number = is_rooted (entry_at book.entries number) || is_needed book.names number book.entries

-- a broken entry lets its views go
abbrev pub shed : Entry → Entry
shed entry = if is_broken entry.status then record entry { recipe = []; own = None; views = [] } else entry

-- what is left of an entry that lives or doesn't
abbrev pub left : Bool → Option Entry → Option Entry
left true held = option_map shed held
left false held = None

-- the views that go with an entry
abbrev pub gone_views : Bool → Option Entry → List View
gone_views true held = option_map_or (λ (entry : Entry). if is_broken entry.status then held_views entry else []) held []
gone_views false held = option_map_or held_views held []

abbrev pub gone_name : Bool → ℕ → Option Entry → List ℕ
gone_name true name held = []
gone_name false name held = if is_unfinished held then name ∷ [] else []

-- one entry was left as it is to be
pub record Leaves (before after : Book) (number : ℕ) (lives : Bool) : Type 0 where
  pub names : after.names ≡ before.names
  pub entries : after.entries ≡ set before.entries number (left lives (entry_at before.entries number))

-- views were let go, and items whose last view went were handed out
pub record LetsGo (views : List View) (shares later : List (Option Share)) (freed next : List Item) : Type 0 where
  pub counts : (slot : ℕ) → count_at later slot + views_on slot views ≡ count_at shares slot
  pub items : (slot : ℕ) → 0 < count_at later slot → item_at later slot ≡ item_at shares slot
  pub given : next ≡ freed ++ freed_by shares [] views
  pub weighs : (weight : Item → ℕ) → sum_by weight next + weights weight later ≡ sum_by weight freed + weights weight shares
