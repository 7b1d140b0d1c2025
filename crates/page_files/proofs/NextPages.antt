-- What holds where pieces are written to the next page.
use Rattle.std.proofs.Common.{◌≡◌, ◌≢◌, ℕ, ◌+◌, ◌<◌, ◌≤◌, is_none, nat_eq, List, [], ◌∷◌, ◌++◌, Some, None, Option, length, set, refl, sym, ap, ◌∙◌, arith}
use Rattle.std.specs.Prelude.{IfSome, IsSomeAnd}
use Rattle.std.specs.List.{AllByRecursion, IsDistinct}
use Rattle.std.proofs.Math.Seq.{set-append_seam}
use Rattle.std.proofs.lemmas.List.Sums.{sum_by-append}
use Rattle.blob_words.specs.declared.number.PageNo.{PageNo}
use Rattle.item_shares.specs.declared.item.Item.{Item}
use Rattle.item_shares.specs.declared.item.Item.TheVariants.{Memory, Paged, Reserved, File, Range}
use Rattle.item_shares.specs.declared.shares.Share.{Share}
use Rattle.item_shares.specs.Shares.{item_at, share_at, HoldsPiece}
use Rattle.page_disk.specs.declared.change.Change.{Change}
use Rattle.page_disk.specs.declared.change.Change.TheVariants.{Put}
use Rattle.page_disk.specs.declared.change.Change.TheVariants as disk
use Rattle.page_disk.specs.Changes.{with_change, IsNew}
use Rattle.page_files.specs.declared.held.Held.{Held}
use Rattle.page_files.specs.declared.page.Page.{Page}
use Rattle.page_files.specs.declared.page.Page.TheVariants.{Torn, Whole}
use Rattle.page_files.specs.declared.next_page.NextPage.{NextPage}
use Rattle.page_files.specs.Pieces.{bytes_of, placed, HasBytes}
use Rattle.page_files.specs.Pages.{charge_of, page_charge}
use Rattle.page_files.specs.Items.{turned, IsMemoryIn, IsMemoryOf, IsPagedIn, IsPagedOf, IsPieceIn}
use Rattle.page_files.specs.Files.{Files, alone, charge, left_of, page_no, room, unreserved, with_page, without_job, Agrees}
use Rattle.page_files.specs.Writes.{read_of}
use Rattle.page_files.specs.Prepared.{IsNextPage}
use Rattle.page_files.proofs.Agreement.{told_new, told_put, told_torn}
use Rattle.page_files.proofs.Lists.{all_then, bytes_cons, placed_bytes}

-- some pieces have some bytes
pub some_bytes : (pieces : List Held) → AllByRecursion HasBytes pieces → pieces ≢ [] → 0 < bytes_of pieces
some_bytes [] long some = absurd (some refl)
some_bytes (held ∷ pieces) long some = omega (arith, bytes_cons held pieces, long.0)

pub placed_some : (off : ℕ) (pieces : List Held) → pieces ≢ [] → placed off pieces ≢ []
placed_some off [] some = λ none. some refl
placed_some off (held ∷ pieces) some = λ none. cc

-- pieces hold their items wherever they are placed
pub placed_pieces : (shares : List (Option Share)) (off : ℕ) (pieces : List Held) → AllByRecursion (IsPieceIn shares) pieces → AllByRecursion (IsPieceIn shares)
    (placed off pieces)
placed_pieces shares off [] all = tt
placed_pieces shares off (held ∷ pieces) all = (all.0, placed_pieces shares (off + held.len) pieces all.1)

memory_holds : (held : Held) (item : Item) → IsMemoryOf held item → HoldsPiece item
memory_holds held (Memory piece bytes) is = tt
memory_holds held (Paged piece page off len) is = absurd is
memory_holds held (Reserved piece len) is = absurd is
memory_holds held (File name stamp off len) is = absurd is
memory_holds held (Range slot off len) is = absurd is

paged_holds : (page : PageNo) (held : Held) (item : Item) → IsPagedOf page held item → HoldsPiece item
paged_holds page held (Memory piece bytes) is = absurd is
paged_holds page held (Paged piece one off len) is = tt
paged_holds page held (Reserved piece len) is = absurd is
paged_holds page held (File name stamp off len) is = absurd is
paged_holds page held (Range slot off len) is = absurd is

some_then : (P Q : Item → Type 0) → ((item : Item) → P item → Q item) → (found : Option Item) → IsSomeAnd found P → IsSomeAnd found Q
some_then P Q then None is = absurd is
some_then P Q then (Some item) is = then item is

pub memory_pieces : (shares : List (Option Share)) (pieces : List Held) → AllByRecursion (IsMemoryIn shares) pieces → AllByRecursion (IsPieceIn shares)
    (placed 0 pieces)
memory_pieces shares pieces all =
    placed_pieces shares 0 pieces (all_then (IsMemoryIn shares) (IsPieceIn shares)
    (λ held is. some_then (IsMemoryOf held) HoldsPiece (memory_holds held) (item_at shares held.slot) is) pieces all)

pub paged_pieces : (page : PageNo) (shares : List (Option Share)) (pieces : List Held) → AllByRecursion (IsPagedIn page shares) pieces
    → AllByRecursion (IsPieceIn shares) (placed 0 pieces)
paged_pieces page shares pieces all =
    placed_pieces shares 0 pieces (all_then (IsPagedIn page shares) (IsPieceIn shares)
    (λ held is. some_then (IsPagedOf page held) HoldsPiece (paged_holds page held) (item_at shares held.slot) is) pieces all)

-- nothing is charged for a torn page
torn_charge : (pages : List Page) → page_charge (pages ++ Torn ∷ []) ≡ page_charge pages
torn_charge pages = omega (arith, sum_by-append charge_of pages (Torn ∷ []))

-- the pieces left have room once the job has ended
pub left_room : (files : Files) → charge files ≤ files.limit → bytes_of (left_of files.job) ≤ room (without_job (with_page Torn files))
left_room files within = let same = torn_charge files.pages in omega (arith, within, same)

-- the last page was written whole
pub kept_files : (files : Files) (page : Page) → record (without_job (with_page Torn files))
    { pages = set (files.pages ++ Torn ∷ []) (length files.pages) page } ≡ with_page page (without_job files)
kept_files files page = ap (λ (pages : List Page). record (without_job files) { pages = pages }) (set-append_seam files.pages Torn [] page)

-- the next page is new on the disk
pub next_new : (told : Option (List Change)) (pages : List Page) (pieces : List Held) (next : NextPage) → IsNextPage (page_no (length pages)) pieces next
    → IfSome told (Agrees pages) → IfSome told (IsNew next.page.0)
next_new told pages pieces next is so = rw is.page (told_new told pages so)

pub next_whole : (page : PageNo) (pieces : List Held) (next : NextPage) → IsNextPage page pieces next → (next.table ≡ next.pieces.items)
    × (next.size ≡ bytes_of next.pieces.items)
next_whole page pieces next is = (is.table ∙ sym is.pieces, is.size ∙ sym (ap bytes_of is.pieces ∙ placed_bytes 0 pieces))

pub next_some : (page : PageNo) (pieces : List Held) (next : NextPage) → IsNextPage page pieces next → pieces ≢ [] → next.pieces.items ≢ []
next_some page pieces next is some = rw is.pieces (placed_some 0 pieces some)

pub next_items : (page : PageNo) (shares : List (Option Share)) (pieces : List Held) (next : NextPage) → IsNextPage page pieces next
    → AllByRecursion (IsPieceIn shares) (placed 0 pieces) → AllByRecursion (IsPieceIn shares) next.pieces.items
next_items page shares pieces next is all = rw is.pieces all

pub next_room : (page : PageNo) (files : Files) (pieces : List Held) (next : NextPage) → IsNextPage page pieces next → pieces ≡ left_of files.job
    → charge files ≤ files.limit → next.size ≤ room (without_job (with_page Torn files))
next_room page files pieces next is left within = rw (is.size, left) (left_room files within)

-- the files once the next page was kept
module _ (files opened ended kept : Files) (pieces : List Held) (next : NextPage) (is : IsNextPage (page_no (length files.pages)) pieces next) where
  pub kept_by : opened ≡ with_page Torn files → ended ≡ without_job opened → kept
      ≡ record ended { pages = set ended.pages next.page.0 (Whole next.size next.table) } → kept ≡ with_page (Whole (bytes_of pieces) (placed 0 pieces))
      (without_job files)
  kept_by one two three = rw (three, two, one, is.page, is.size, is.table) (kept_files files (Whole (bytes_of pieces) (placed 0 pieces)))

-- the pages and the disk agree once the next page was put
pub kept_agrees : (told new : Option (List Change)) (pages after : List Page) (page : PageNo) (bytes : List ℕ) (size : ℕ) (pieces : List Held) → page
    ≡ page_no (length pages) → new ≡ with_change (Put page bytes) told → after ≡ pages ++ Whole size pieces ∷ []
    → IfSome told (Agrees pages) → IfSome new (Agrees after)
kept_agrees told new pages after page bytes size pieces at change is so = rw (change, is, at) (told_put told pages (Whole size pieces) bytes refl so)

-- and once it was torn
pub torn_agrees : (told new : Option (List Change)) (pages after : List Page) (page : PageNo) → page ≡ page_no (length pages) → new
    ≡ with_change (disk.Torn page) told → after ≡ pages ++ Torn ∷ []
    → IfSome told (Agrees pages) → IfSome new (Agrees after)
torn_agrees told new pages after page at change is so = rw (change, is, at) (told_torn told pages Torn refl so)

-- the slots once the pieces are in the next page
pub next_turned : (page : PageNo) (pieces left : List Held) (next : NextPage) (old new : List (Option Share)) → IsNextPage page pieces next → pieces ≡ left
    → ((slot : ℕ) → share_at new slot ≡ turned next.page next.pieces.items slot (share_at old slot))
    → (slot : ℕ) → share_at new slot ≡ turned page (placed 0 left) slot (share_at old slot)
next_turned page pieces left next old new is same items slot = rw (← same, ← is.page, ← is.pieces) (items slot)

-- what was read is what was put
pub moved_change : (told mid new : Option (List Change)) (page source : PageNo) (buffer : List ℕ) (left : List Held) → mid ≡ told → new
    ≡ with_change (Put page buffer) mid → IfSome told (λ changes. buffer ≡ read_of source changes left)
    → IfSome told (λ changes. new ≡ with_change (Put page (read_of source changes left)) told)
moved_change None mid new page source buffer left same change read = tt
moved_change (Some changes) mid new page source buffer left same change read = change ∙ ap (with_change (Put page buffer)) same ∙ ap
    (λ (bytes : List ℕ). with_change (Put page bytes) (Some changes)) read

pub tells_on : (told mid new : Option (List Change)) (change : Change) → mid ≡ told → new ≡ with_change change mid → is_none told ≡ is_none new
tells_on None mid new change same is = rw (is, same) refl
tells_on (Some changes) mid new change same is = rw (is, same) refl

pub agrees_then : (told : Option (List Change)) (pages after : List Page) → ((changes : List Change) → Agrees pages changes → Agrees after changes)
    → IfSome told (Agrees pages) → IfSome told (Agrees after)
agrees_then None pages after then so = tt
agrees_then (Some changes) pages after then so = then changes so

-- one piece is apart
pub one_apart : (number : ℕ) → IsDistinct nat_eq (number ∷ [])
unfolding IsDistinct
one_apart number = (tt, tt)

-- a reserved piece has room once it is reserved no more
pub reserved_room : (files : Files) (held : Held) (next : NextPage) (page : PageNo) → IsNextPage page (held ∷ []) next → charge files ≤ files.limit
    → held.len ≤ files.reserved → next.size ≤ room (unreserved held.len (with_page Torn files))
reserved_room files held next page is within less = rw is.size (let same = torn_charge files.pages in omega (arith, within, same, less))

-- the files once a reserved piece was kept
pub stored_by : (files opened free kept : Files) (held : Held) (next : NextPage) → IsNextPage (page_no (length files.pages)) (held ∷ []) next → opened
    ≡ with_page Torn files → free ≡ unreserved held.len opened → kept ≡ record free { pages = set free.pages next.page.0 (Whole next.size next.table) }
    → kept ≡ with_page (Whole held.len (alone held.piece held.slot held.len ∷ [])) (unreserved held.len files)
stored_by files opened free kept held next is one two three =
    let size : next.size ≡ held.len = is.size ∙ (let none : 0 + held.len ≡ held.len = omega arith in none) in
    rw (three, two, one, is.page, size, is.table) (ap (λ (pages : List Page). record (unreserved held.len files) { pages = pages })
    (set-append_seam files.pages Torn [] (Whole held.len (alone held.piece held.slot held.len ∷ []))))
