-- The contents behind a pass.
use Rattle.std.proofs.Common.{◌≡◌, ℕ, List, [], map, refl, ap, subst, sym, ◌∙◌, Option, arith}
use Rattle.std.specs.Prelude.{Bool, fold}
use Rattle.item_shares.specs.declared.shares.Share.{Share}
use Rattle.blob_entries.specs.Book.{Book}
use Rattle.blob_entries.specs.Counted.{SameItems}
use Rattle.blob_registry.specs.Passes.{Finishes}
use Rattle.blob_registry.specs.declared.ended_blob.EndedBlob.{EndedBlob}
use Rattle.page_files.specs.Files.{Files}
use Rattle.quota_queue.specs.Queue.{Queue}
use Rattle.blob_model.specs.Builds.{builds}
use Rattle.blob_model.specs.History.{History}
use Rattle.blob_model.specs.Jobs.{paging}
use Rattle.blob_model.specs.Pieces.{Piece, pieces}
use Rattle.blob_model.specs.Session.{Session, page_limit}
use Rattle.blob_model.specs.Settle.{endings}
use Rattle.registry_laws.specs.Agree.{AgreesInMarks}
use Rattle.registry_laws.specs.Laws.{Describes, ending_answer}
use Rattle.registry_laws.proofs.Lives.{behind_all}
use Rattle.registry_laws.proofs.Pass.{endings_so}
use Rattle.registry_laws.proofs.Places.{ArePlaced, placed}
use Rattle.store_laws.specs.PageFiles.{PageFacts, PagesStand}
use Rattle.store_laws.specs.Passing.{PassStands, after_pass, ended_names, entered, pieces_entered, rows_passed}
use Rattle.store_laws.specs.Rows.{Row}
use Rattle.store_laws.specs.Stands.{ContentsStand}
use Rattle.store_laws.specs.SweepLaws.{EntriesAre}
use Rattle.store_laws.specs.Swept.{queue_left}
use Rattle.store_laws.specs.Uses.{page_facts_of}
use Rattle.store_laws.proofs.Letting.{pages_let_go}
use Rattle.store_laws.proofs.PassKeeps.{endings_keep}
use Rattle.store_laws.proofs.PassQueue.{queue_now}
use Rattle.store_laws.proofs.PassStand.{entries_pass}
use Rattle.store_laws.proofs.PassUses.{none_freed, order_now}

-- the endings of a pass are those that are owed
pub endings_are : (s : Session) (h : History) (book now : Book) (list : List EndedBlob) → Describes s h book → AgreesInMarks s h book → Finishes book now list
    → map ending_answer list ≡ endings s h
endings_are s h book now list tell in_marks finishes =
    let blobs = builds (page_limit s) h in
    ap (map ending_answer) finishes.listed
    ∙ endings_so s book.names book.entries tell.sound [] h blobs book.entries tell.distinct
    (subst (λ (names : List ℕ). ArePlaced names 0 blobs) (sym tell.agree.names) (placed blobs tell.distinct)) tell.agree.each in_marks
    (behind_all book.entries) (record { known = λ name k entry below. absurd (omega (arith, below)) })

module _ (s : Session) (h : History) (stands : ℕ → Bool) (book : Book) (shares : List (Option Share)) (rows : List (Option Row)) (quota : Queue)
    (files : Files) (order : List (ℕ × ℕ)) (contents : ContentsStand s h stands book shares rows quota files order) (tell : Describes s h book)
    (in_marks : AgreesInMarks s h book) (now : Book) (later : List (Option Share)) (list : List EndedBlob) (finishes : Finishes book now list)
    (same : SameItems book.entries now.entries shares later) where
  abbrev g : History
  g = after_pass s h

  abbrev rows_now : List (Option Row)
  rows_now = rows_passed s h rows

  are : map ending_answer list ≡ endings s h
  are = endings_are s h book now list tell in_marks finishes

  entries : EntriesAre s g stands now later rows_now
  entries = entries_pass s h stands book shares rows quota files order contents tell in_marks now later list finishes same

  same_pieces : pieces (page_limit s) g ≡ pieces (page_limit s) h
  same_pieces = endings_keep (λ (one : History). pieces (page_limit s) one) (λ one name. refl) (λ one name status. refl) s h

  same_facts : page_facts_of g ≡ page_facts_of h
  same_facts = endings_keep page_facts_of (λ one name. refl) (λ one name status. refl) s h

  same_paging : paging g ≡ paging h
  same_paging = endings_keep paging (λ one name. refl) (λ one name status. refl) s h

  pages : PagesStand (pieces (page_limit s) g) (page_facts_of g) s.limits.disk later files
  pages =
      subst (λ (all : List Piece). PagesStand all (page_facts_of g) s.limits.disk later files) (sym same_pieces)
      (subst (λ (facts : PageFacts). PagesStand (pieces (page_limit s) h) facts s.limits.disk later files) (sym same_facts)
      (pages_let_go (pieces (page_limit s) h) (page_facts_of h) s.limits.disk shares later files [] contents.page_files_stand contents.items.apart
      (none_freed shares later same.items)))

  contents_now : (used : ℕ)
      → ContentsStand s g stands now later rows_now (queue_left quota (ended_names list) used) files
      (fold entered order (pieces_entered s h later rows list))
  contents_now used = record {
    names = entries.names;
    outlines_stand = entries.outlines_stand;
    marks = entries.marks;
    rows_stand = entries.rows_stand;
    items = entries.items;
    entries = entries.entries;
    waiting = queue_now s h list are quota.waiting contents.waiting;
    memory_limit = contents.memory_limit;
    page_files_stand = pages;
    recent = λ on. order_now s h stands shares later rows list contents.rows_stand entries.rows_stand contents.items.apart same.items are order
        (contents.recent (sym same_paging ∙ on));
  }

pub pass_stands : PassStands
pass_stands s h stands book shares rows quota files order contents tell in_marks now later list finishes same used =
    contents_now s h stands book shares rows quota files order contents tell in_marks now later list finishes same used
