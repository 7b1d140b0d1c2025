-- What a sweep leaves of the contents stands behind the drops.
use Rattle.std.proofs.Common.{◌≡◌, ℕ, Bool, true, List, map, reverse, refl, subst, sym, ◌∙◌, Option}
use Rattle.std.specs.Prelude.{filter, fold}
use Rattle.answer_text.specs.declared.answer.Answer.TheVariants as answers
use Rattle.item_shares.specs.declared.item.Item.{Item}
use Rattle.item_shares.specs.declared.shares.Share.{Share}
use Rattle.blob_entries.specs.Book.{Book, book_of}
use Rattle.blob_entries.specs.declared.entry.Entry.{Entry}
use Rattle.blob_registry.specs.Sweeps.{swept}
use Rattle.page_files.specs.Files.{Files}
use Rattle.quota_queue.specs.Queue.{Queue}
use Rattle.blob_model.specs.Builds.{Build, builds}
use Rattle.blob_model.specs.History.{History}
use Rattle.blob_model.specs.Jobs.{paging}
use Rattle.blob_model.specs.Live.{is_live}
use Rattle.blob_model.specs.Pieces.{Piece, pieces}
use Rattle.blob_model.specs.Session.{Session, page_limit}
use Rattle.blob_model.specs.Settle.{drops}
use Rattle.registry_laws.specs.Laws.{Describes}
use Rattle.registry_laws.proofs.Drops.{goes}
use Rattle.registry_laws.proofs.Left.{drops_keep}
use Rattle.store_laws.specs.LetGo.{left_by, let_go_by, AreFreed}
use Rattle.store_laws.specs.PageFiles.{PageFacts, PagesStand}
use Rattle.store_laws.specs.Rows.{Row}
use Rattle.store_laws.specs.Settling.{after_drops}
use Rattle.store_laws.specs.Stands.{ContentsStand}
use Rattle.store_laws.specs.SweepLaws.{entries_left, rows_left, AreKept, EntriesAre}
use Rattle.store_laws.specs.Swept.{queue_left, SweptStands}
use Rattle.store_laws.specs.Uses.{page_facts_of}
use Rattle.store_laws.proofs.Leaving.{sweep_leaves_live}
use Rattle.store_laws.proofs.Letting.{pages_let_go}
use Rattle.store_laws.proofs.OrderLeft.{order_let_go}
use Rattle.store_laws.proofs.Queueing.{queue_let_go}

module _ (s : Session) (h : History) (stands : ℕ → Bool) (book : Book) (shares : List (Option Share)) (rows : List (Option Row)) (quota : Queue)
    (files : Files) (order : List (ℕ × ℕ)) (contents : ContentsStand s h stands book shares rows quota files order) (tell : Describes s h book)
    (covers : (name : ℕ) → is_live (page_limit s) h name ≡ true → stands name ≡ true) (later : List (Option Share)) (freed : List Item)
    (freed_so : AreFreed shares later freed)
    (kept_so : AreKept (swept book.names 0 book.entries) (rows_left (is_live (page_limit s) h) (builds (page_limit s) h) rows) shares later) where
  abbrev g : History
  g = after_drops s h

  abbrev alive : ℕ → Bool
  alive = is_live (page_limit s) h

  abbrev list_now : List Build
  list_now = builds (page_limit s) h

  abbrev left : List (Option Entry)
  left = entries_left alive list_now book.entries

  abbrev rows_now : List (Option Row)
  rows_now = rows_left alive list_now rows

  abbrev dropped_list : List Build
  dropped_list = filter (goes h alive) (reverse list_now)

  live : swept book.names 0 book.entries ≡ left
  live = sweep_leaves_live.live_left s h book tell

  kept : AreKept left rows_now shares later
  kept = subst (λ (entries : List (Option Entry)). AreKept entries rows_now shares later) live kept_so

  entries : EntriesAre s g alive (book_of book.names left) later rows_now
  entries = sweep_leaves_live.left_stand s h stands book shares rows quota files order contents tell covers later kept

  same_pieces : pieces (page_limit s) g ≡ pieces (page_limit s) h
  same_pieces = drops_keep (λ (one : History). pieces (page_limit s) one) (λ one name. refl) h dropped_list

  same_facts : page_facts_of g ≡ page_facts_of h
  same_facts = drops_keep page_facts_of (λ one name. refl) h dropped_list

  same_paging : paging g ≡ paging h
  same_paging = drops_keep paging (λ one name. refl) h dropped_list

  pages : PagesStand (pieces (page_limit s) g) (page_facts_of g) s.limits.disk later (fold let_go_by files freed)
  pages =
      subst (λ (all : List Piece). PagesStand all (page_facts_of g) s.limits.disk later (fold let_go_by files freed)) (sym same_pieces)
      (subst (λ (facts : PageFacts). PagesStand (pieces (page_limit s) h) facts s.limits.disk later (fold let_go_by files freed)) (sym same_facts)
      (pages_let_go (pieces (page_limit s) h) (page_facts_of h) s.limits.disk shares later files freed contents.page_files_stand contents.items.apart freed_so))

  contents_left : (names : List ℕ) → map (λ (name : ℕ). answers.Dropped name) names ≡ drops s h → (used : ℕ)
      → ContentsStand s g alive (book_of book.names left) later rows_now (queue_left quota names used) (fold let_go_by files freed) (fold left_by order freed)
  contents_left names told used = record {
    names = entries.names;
    outlines_stand = entries.outlines_stand;
    marks = entries.marks;
    rows_stand = entries.rows_stand;
    items = entries.items;
    entries = entries.entries;
    waiting = queue_let_go s h book quota.waiting names tell contents.waiting told;
    memory_limit = contents.memory_limit;
    page_files_stand = pages;
    recent = λ on. order_let_go s h stands alive shares later rows rows_now freed order contents.rows_stand entries.rows_stand contents.items.apart
        freed_so (contents.recent (sym same_paging ∙ on));
  }

pub swept_stands : SweptStands
swept_stands s h stands book shares rows quota files order contents tell covers later freed freed_so kept names told used =
    subst (λ (entries : List (Option Entry)). ContentsStand s (after_drops s h) (is_live (page_limit s) h) (book_of book.names entries) later
    (rows_left (is_live (page_limit s) h) (builds (page_limit s) h) rows) (queue_left quota names used) (fold let_go_by files freed)
    (fold left_by order freed))
    (sym (live s h stands book shares rows quota files order contents tell covers later freed freed_so kept))
    (contents_left s h stands book shares rows quota files order contents tell covers later freed freed_so kept names told used)
