-- Other roots of entries change nothing else that is said of them.
use Rattle.std.proofs.Common.{◌≡◌, ℕ, zero, suc, Bool, List, [], ◌∷◌, refl, ap, subst, sym, ◌∙◌, Option, Some, None, set}
use Rattle.std.specs.Option.{option_map, option_map_or}
use Rattle.blob_words.specs.declared.status.Status.{Status}
use Rattle.blob_words.specs.declared.status.Status.TheVariants as statuses
use Rattle.item_shares.specs.declared.shares.Share.{Share}
use Rattle.blob_entries.specs.Book.{Book, changed, changed_at, entry_at as held_at}
use Rattle.blob_entries.specs.Changes.{with_roots}
use Rattle.blob_entries.specs.Names.{number_of}
use Rattle.blob_entries.specs.declared.entry.Entry.{Entry}
use Rattle.data_handles.specs.Table.{Table as HandleTable}
use Rattle.page_disk.specs.declared.change.Change.{Change}
use Rattle.blob_model.specs.Builds.{Build, Cell, builds}
use Rattle.blob_model.specs.History.{History}
use Rattle.blob_model.specs.Pieces.{Piece, pieces}
use Rattle.blob_model.specs.Session.{Session, page_limit}
use Rattle.registry_laws.specs.Agree.{Beside}
use Rattle.store_laws.specs.Outlines.{outline, outlines, Outline, IsMarkedRight}
use Rattle.store_laws.specs.Recipes.{EntryStands, StandsFor}
use Rattle.store_laws.specs.Roots.{rootless, AreRerooted}
use Rattle.store_laws.specs.Stands.{Between, Parts}
use Rattle.store_laws.specs.Uses.{own_pieces}

abbrev Entries : Type 0
Entries = List (Option Entry)

-- ---- what is said of an entry, with any number of roots

abbrev with : ℕ → Option Entry → Option Entry
with roots held = option_map (with_roots roots) held

stands_with : (list : List Build) (all : List Piece) (shares : List (Option Share)) (cells : List Cell) (status : Status) (entry : Entry) (roots : ℕ)
    → StandsFor list all shares cells status entry → StandsFor list all shares cells status (with_roots roots entry)
stands_with list all shares cells statuses.Done entry roots is = is
stands_with list all shares cells statuses.PendingQuota entry roots is = is
stands_with list all shares cells statuses.PendingTransport entry roots is = is
stands_with list all shares cells statuses.PendingReferencedBlobs entry roots is = is
stands_with list all shares cells statuses.Dereferenced entry roots is = is
stands_with list all shares cells status entry roots is = tt

entry_with : (list : List Build) (all : List Piece) (shares : List (Option Share)) (own : ℕ → List ℕ) (build : Build) (held : Option Entry) (roots : ℕ)
    → EntryStands list all shares own build held → EntryStands list all shares own build (with roots held)
entry_with list all shares own build None roots is = tt
entry_with list all shares own build (Some entry) roots is = record {
  stands = stands_with list all shares build.cells entry.status entry roots is.stands;
  steps = is.steps;
  inside = is.inside;
  owned = is.owned;
  sources = is.sources;
}

mark_with : (s : Session) (h : History) (build : Build) (held : Option Entry) (roots : ℕ) → IsMarkedRight s h build held
    → IsMarkedRight s h build (with roots held)
mark_with s h build None roots is = tt
mark_with s h build (Some entry) roots is = is

-- ---- of all entries

outlined_without : (entries : Entries) → outlines (rootless entries) ≡ outlines entries
outlined_without [] = refl
outlined_without (None ∷ entries) = ap (λ (list : List (Option Outline)). None ∷ list) (outlined_without entries)
outlined_without (Some entry ∷ entries) = ap (λ (list : List (Option Outline)). Some (outline entry) ∷ list) (outlined_without entries)

module _ (P : Build → Option Entry → Type 0) (keeps : (build : Build) (held : Option Entry) (roots : ℕ) → P build held → P build (with roots held)) where
  without : (list : List Build) (entries : Entries) → Beside P list entries → Beside P list (rootless entries)
  without [] [] is = tt
  without [] (held ∷ entries) is = absurd is
  without (build ∷ list) [] is = absurd is
  without (build ∷ list) (held ∷ entries) is = (keeps build held 0 is.0, without list entries is.1)

  again : (list : List Build) (entries : Entries) → Beside P list (rootless entries) → Beside P list entries
  again [] [] is = tt
  again [] (held ∷ entries) is = absurd is
  again (build ∷ list) [] is = absurd is
  again (build ∷ list) (None ∷ entries) is = (is.0, again list entries is.1)
  again (build ∷ list) (Some entry ∷ entries) is = (keeps build (Some (with_roots 0 entry)) entry.roots is.0, again list entries is.1)

  pub beside_rerooted : (list : List Build) (old new : Entries) → rootless new ≡ rootless old → Beside P list old → Beside P list new
  beside_rerooted list old new same is = again list new (subst (λ (entries : Entries). Beside P list entries) (sym same) (without list old is))

-- the parts stand as they stood
pub between_rerooted : (s : Session) (h : History) (stands : ℕ → Bool) (parts : Parts) (told : Option (List Change)) (table : HandleTable) (book : Book)
    → AreRerooted parts.book book → Between s h stands parts told table → Between s h stands (record parts { book = book }) told table
between_rerooted s h stands parts told table book same between = record {
  same_limits = between.same_limits;
  same_version = between.same_version;
  contents = record {
    names = same.names ∙ between.contents.names;
    outlines_stand =
        sym (outlined_without book.entries) ∙ ap outlines same.entries ∙ outlined_without parts.book.entries ∙ between.contents.outlines_stand;
    marks = beside_rerooted (IsMarkedRight s h) (mark_with s h) (builds (page_limit s) h) parts.book.entries book.entries same.entries between.contents.marks;
    rows_stand = between.contents.rows_stand;
    items = between.contents.items;
    entries = record {
      each = beside_rerooted (EntryStands (builds (page_limit s) h) (pieces (page_limit s) h) parts.shares (own_pieces (page_limit s) h))
          (entry_with (builds (page_limit s) h) (pieces (page_limit s) h) parts.shares (own_pieces (page_limit s) h)) (builds (page_limit s) h)
          parts.book.entries book.entries same.entries between.contents.entries.each;
      written = between.contents.entries.written;
    };
    waiting = between.contents.waiting;
    memory_limit = between.contents.memory_limit;
    page_files_stand = between.contents.page_files_stand;
    recent = between.contents.recent;
  };
  tables = between.tables;
  handles = between.handles;
  claims = between.claims;
  disk_stands = between.disk_stands;
  same_lines = between.same_lines;
  same_pieces = between.same_pieces;
  same_weight = between.same_weight;
}

-- ---- which changes are of roots alone

rerooted_at : (f : ℕ → ℕ) (entries : Entries) (number : ℕ)
    → rootless (set entries number (option_map (λ (entry : Entry). with_roots (f entry.roots) entry) (held_at entries number))) ≡ rootless entries
rerooted_at f [] number = refl
rerooted_at f (None ∷ entries) zero = refl
rerooted_at f (Some entry ∷ entries) zero = refl
rerooted_at f (held ∷ entries) (suc number) = ap (λ (list : Entries). with 0 held ∷ list) (rerooted_at f entries number)

-- another number of roots of what stands under a name
pub changed_rerooted : (f : ℕ → ℕ) (book : Book) (name : ℕ) → AreRerooted book (changed book name (λ (entry : Entry). with_roots (f entry.roots) entry))
changed_rerooted f book name = by (number_of name book.names)
  where
    by : (found : Option ℕ)
        → AreRerooted book (option_map_or (λ (number : ℕ). changed_at book number (λ (entry : Entry). with_roots (f entry.roots) entry)) found book)
    by None = record { names = refl; entries = refl }
    by (Some number) = record { names = refl; entries = rerooted_at f book.entries number }

pub rerooted_again : (one two three : Book) → AreRerooted one two → AreRerooted two three → AreRerooted one three
rerooted_again one two three first second = record { names = second.names ∙ first.names; entries = second.entries ∙ first.entries }
