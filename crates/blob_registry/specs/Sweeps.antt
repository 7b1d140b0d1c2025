-- The live entries, and what goes: one pass in falling build number. Own.
use Rattle.std.specs.Prelude.{List, Option, [], slice_index, ℕ, ◌++◌, ◌+◌, ◌||◌, ◌∷◌, ◌≡◌}
use Rattle.blob_entries.specs.Book.{Book, entry_at}
use Rattle.blob_entries.specs.Leaving.{Leaves, LetsGo, gone_name, gone_views, is_needed, is_rooted, left, lives_at}
use Rattle.blob_entries.specs.declared.entry.Entry.{Entry}
use Rattle.blob_items.specs.declared.view.View.{View}
use Rattle.item_shares.specs.declared.item.Item.{Item}
use Rattle.item_shares.specs.declared.shares.Share.{Share}

-- the live entries from a build number on: one lives where it is rooted or a live unfinished one of a greater number has it as a source
abbrev pub swept : List ℕ → ℕ → List (Option Entry) → List (Option Entry)
swept names number [] = []
swept names number (held ∷ later) = left (is_rooted held || is_needed names number (swept names (number + 1) later)) held ∷ swept names (number + 1) later

-- the names of the unfinished ones that go, and the views that go, both from the greatest build number down
abbrev pub dropped : List ℕ → ℕ → List (Option Entry) → List ℕ
dropped names number [] = []
dropped names number (held ∷ later) =
    dropped names (number + 1) later ++ gone_name (is_rooted held || is_needed names number (swept names (number + 1) later)) (slice_index names number) held

abbrev pub let_go : List ℕ → ℕ → List (Option Entry) → List View
let_go names number [] = []
let_go names number (held ∷ later) =
    let_go names (number + 1) later ++ gone_views (is_rooted held || is_needed names number (swept names (number + 1) later)) held

-- what the sweep makes of entries
pub record Sweeping (before after : Book) (list : List ℕ) (shares later : List (Option Share)) (freed : List Item) : Type 0 where
  pub names : after.names ≡ before.names
  pub entries : after.entries ≡ swept before.names 0 before.entries
  pub dropped_so : list ≡ dropped before.names 0 before.entries
  pub lets_go : LetsGo (let_go before.names 0 before.entries) shares later [] freed

-- one entry was left, its name noted and its views let go
pub record Goes (before after : Book) (number : ℕ) (names more : List ℕ) (shares later : List (Option Share)) (freed next : List Item) : Type 0 where
  pub leaves : Leaves before after number (lives_at before number)
  pub noted : more ≡ names ++ gone_name (lives_at before number) (slice_index before.names number) (entry_at before.entries number)
  pub lets_go : LetsGo (gone_views (lives_at before number) (entry_at before.entries number)) shares later freed next
