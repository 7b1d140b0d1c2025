-- What the drops of one list leave of a store's parts stands behind them.
use Rattle.std.proofs.Common.{◌≡◌, ℕ, ◌+◌, ◌==◌, Bool, true, List, [], map, length, reverse, refl, ap, subst, sym, ◌∙◌, Option, None, Some}
use Rattle.std.specs.Prelude.{filter, fold, is_none, if◌then◌else◌}
use Rattle.std.specs.List.{list_any}
use Rattle.std.specs.Option.{option_map}
use Rattle.blob_words.specs.declared.status.Status.{Status}
use Rattle.answer_text.specs.declared.answer.Answer.TheVariants as answers
use Rattle.data_handles.specs.Table.{Table as HandleTable}
use Rattle.page_disk.specs.declared.change.Change.{Change}
use Rattle.item_shares.specs.declared.item.Item.{Item}
use Rattle.item_shares.specs.declared.shares.Share.{Share}
use Rattle.blob_registry.specs.Sweeps.{dropped, swept}
use Rattle.model_bridges.specs.Bridges.{change_as}
use Rattle.blob_model.specs.Builds.{Build, built, builds}
use Rattle.blob_model.specs.Changes.{Change as DiskChange, changes}
use Rattle.blob_model.specs.History.{History, said}
use Rattle.blob_model.specs.Live.{is_live}
use Rattle.blob_model.specs.Order.{named}
use Rattle.blob_model.specs.Pieces.{pieces}
use Rattle.blob_model.specs.Entries.{Entry as UrlEntry, entries}
use Rattle.blob_model.specs.Handles.{count}
use Rattle.blob_model.specs.Readers.{OpenReader, readers}
use Rattle.blob_model.specs.Recorded.{FileState, file_names, last_stamp, recorded}
use Rattle.blob_model.specs.Renderers.{Renderer, is_alive, origin_of, spawned}
use Rattle.blob_model.specs.Refusals.{claimed, is_in, weight_total}
use Rattle.blob_model.specs.Session.{Session, page_limit}
use Rattle.blob_model.specs.Settle.{drops}
use Rattle.blob_model.proofs.live.Agreement.{builds_all, live_alike, rooted_said}
use Rattle.registry_laws.specs.Laws.{Describes}
use Rattle.registry_laws.proofs.Drops.{dropped_so, goes}
use Rattle.registry_laws.proofs.Left.{drops_keep, stays}
use Rattle.registry_laws.proofs.Lives.{behind_all, live_living}
use Rattle.registry_laws.proofs.Places.{ArePlaced, placed}
use Rattle.store_laws.specs.DropLaws.{swept_parts, DropsStand}
use Rattle.store_laws.specs.Items.{holds_slot}
use Rattle.store_laws.specs.LetGo.{AreFreed}
use Rattle.store_laws.specs.Releasing.{released_by, AreReleased}
use Rattle.store_laws.specs.Settling.{after_drops}
use Rattle.store_laws.specs.Stands.{lines, Between, Parts}
use Rattle.store_laws.specs.SweepLaws.{rows_left, AreKept}
use Rattle.store_laws.specs.Tables.{AreClaimed, FilesStand, HandlesStand, ReadersStand, RenderersStand, UrlsStand}
use Rattle.store_laws.proofs.Releasing.{handles_let_go}
use Rattle.store_laws.proofs.SweptStand.{swept_stands}

-- what a history tells of the tables beside
pub record RenderersSaid : Type 0 where
  pub known : List Renderer
  pub alive : ℕ → Bool
  pub origin : ℕ → List ℕ
  pub count : ℕ → ℕ → ℕ

abbrev pub renderers_said : History → RenderersSaid
renderers_said g = record { known = spawned g; alive = is_alive g; origin = origin_of g; count = count g }

pub record UrlsSaid : Type 0 where
  pub list : List UrlEntry
  pub origin : ℕ → List ℕ

abbrev pub urls_said : History → UrlsSaid
urls_said g = record { list = entries g; origin = origin_of g }

pub record FilesSaid : Type 0 where
  pub names : List (List ℕ)
  pub state : List ℕ → Option FileState
  pub last : List ℕ → Option ℕ

abbrev pub files_said : History → FilesSaid
files_said g = record { names = file_names g; state = recorded g; last = last_stamp g }

module _ (s : Session) (h : History) (parts : Parts) (tell : Describes s h parts.book) where
  abbrev dropped_list : List Build
  dropped_list = filter (goes h (is_live (page_limit s) h)) (reverse (builds (page_limit s) h))

  -- drops change no notion that no single one changes
  keeps : {X : Type 0} (notion : History → X) → ((g : History) (name : ℕ) → notion (said g (answers.Dropped name)) ≡ notion g)
      → notion (after_drops s h) ≡ notion h
  keeps notion same = drops_keep notion same h dropped_list

  lives_still : (name : ℕ) → is_live (page_limit s) (after_drops s h) name ≡ is_live (page_limit s) h name
  lives_still name =
      ap (λ (list : List Build). list_any (λ (build : Build). build.name == name) list)
      (live_alike (page_limit s) h (after_drops s h) (builds_all (page_limit s) h (drops s h)) (rooted_said (page_limit s) h (drops s h))
      (λ other lives. ap (λ (o : Option Status). is_none o)
      (stays s h parts.book.names parts.book.entries tell.sound (is_live (page_limit s) h) (builds (page_limit s) h)
      (built (page_limit s) [] 0 other [] [] None) lives).end))

  owed_so : map (λ (name : ℕ). answers.Dropped name) (dropped parts.book.names 0 parts.book.entries) ≡ drops s h
  owed_so =
      let page = (page_limit s) in
      let list = builds (page_limit s) h in
      let at : ArePlaced parts.book.names 0 list =
      subst (λ (names : List ℕ). ArePlaced names 0 list) (sym tell.agree.names) (placed list tell.distinct) in
      dropped_so page h parts.book.names parts.book.entries tell.sound (is_live page h) 0 list parts.book.entries tell.distinct at tell.agree.each
      (behind_all parts.book.entries) (λ name there. ap (λ (xs : List Build). named name xs) (live_living page h))

  module _ (stands : ℕ → Bool) (told : Option (List Change)) (table : HandleTable) (between : Between s h stands parts told table)
      (covers : (name : ℕ) → is_live (page_limit s) h name ≡ true → stands name ≡ true) (later : List (Option Share)) (freed : List Item)
      (freed_so : AreFreed parts.shares later freed)
      (kept : AreKept (swept parts.book.names 0 parts.book.entries) (rows_left (is_live (page_limit s) h) (builds (page_limit s) h) parts.rows)
      parts.shares later)
      (released : AreReleased s.outside.slots (λ (k : ℕ). is_in k (claimed s h)) later freed table) (used : ℕ) where
    same_claimed : claimed s (after_drops s h) ≡ claimed s h
    same_claimed = keeps (λ (g : History). claimed s g) (λ g name. refl)

    left_stands : Between s (after_drops s h) (is_live (page_limit s) h) (swept_parts s h later freed used parts) told (fold released_by table freed)
    left_stands = record {
      same_limits = between.same_limits;
      same_version = between.same_version;
      contents = swept_stands s h stands parts.book parts.shares parts.rows parts.quota parts.pages parts.recent between.contents tell covers later freed
          freed_so kept (dropped parts.book.names 0 parts.book.entries) owed_so used;
      tables = record {
        renderers = subst (λ (notion : RenderersSaid). RenderersStand notion.known notion.alive notion.origin notion.count parts.renderers)
            (sym (keeps renderers_said (λ g name. refl))) between.tables.renderers;
        urls_stand = subst (λ (notion : UrlsSaid). UrlsStand notion.list notion.origin parts.urls) (sym (keeps urls_said (λ g name. refl)))
            between.tables.urls_stand;
        files_stand = subst (λ (notion : FilesSaid). FilesStand notion.names notion.state notion.last parts.files)
            (sym (keeps files_said (λ g name. refl))) between.tables.files_stand;
        readers_stand = subst (λ (list : List OpenReader). ReadersStand list parts.readers)
            (sym (keeps (λ (g : History). readers (page_limit s) g) (λ g name. refl))) between.tables.readers_stand;
      };
      handles = subst (λ (list : List ℕ). HandlesStand s.outside.slots (λ (k : ℕ). is_in k list) (holds_slot later) (fold released_by table freed))
          (sym same_claimed) released.handles;
      claims = subst (λ (list : List ℕ). AreClaimed s.outside.slots (λ (k : ℕ). is_in k list) (holds_slot later)) (sym same_claimed) released.claims;
      disk_stands = subst (λ (list : List DiskChange). option_map (map change_as) told ≡ (if s.outside.disk_tells then Some list else None))
          (sym (keeps (λ (g : History). changes s g) (λ g name. refl))) between.disk_stands;
      same_lines = between.same_lines ∙ ap (λ (n : ℕ). n + 1) (sym (keeps lines (λ g name. refl)));
      same_pieces = between.same_pieces ∙ sym (keeps (λ (g : History). length (pieces (page_limit s) g)) (λ g name. refl));
      same_weight = between.same_weight ∙ sym (keeps (λ (g : History). weight_total s g) (λ g name. refl));
    }

pub drops_stand : DropsStand
drops_stand s h stands parts told table between tell covers few later freed freed_so kept used =
    let released = handles_let_go s.outside.slots
    (λ (k : ℕ). is_in k (claimed s h)) parts.shares later freed table between.handles between.claims freed_so few in
    record {
      owed = owed_so s h parts tell;
      releasable = released.releasable;
      stands = left_stands s h parts tell stands told table between covers later freed freed_so kept released used;
      exact = λ name. sym (lives_still s h parts tell name);
    }
