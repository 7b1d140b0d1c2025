-- What the end of a page job leaves on the disk.
use Rattle.std.proofs.Common.{◌≡◌, ℕ, ◌+◌, ◌≤◌, ◌==◌, Bool, true, false, ◌||◌, List, [], ◌∷◌, ◌++◌, Option, Some, None, Result, Ok, Err, cond, length, refl, sym, ap, ◌∙◌, subst, arith}
use Rattle.std.specs.Prelude.{IfSome, IsSomeAnd}
use Rattle.std.specs.Option.{option_map_or, option_or}
use Rattle.std.specs.List.{list_any}
use Rattle.std.proofs.lemmas.List.{append-nil}
use Rattle.std.proofs.lemmas.List.Folds.{list_any-append}
use Rattle.std.proofs.lemmas.Bool.{eqb-false}
use Rattle.blob_words.specs.declared.number.JobNo.{JobNo}
use Rattle.blob_words.specs.declared.number.PageNo.{PageNo}
use Rattle.item_shares.specs.declared.item.Item.{Item}
use Rattle.item_shares.specs.declared.item.Item.TheVariants.{Memory, Paged, Reserved, File, Range}
use Rattle.item_shares.specs.declared.shares.Share.{Share}
use Rattle.item_shares.specs.Shares.{item_at}
use Rattle.page_disk.specs.declared.change.Change.{Change}
use Rattle.page_disk.specs.declared.change.Change.TheVariants.{Put}
use Rattle.page_disk.specs.Changes.{last_put, put_by, removes, writes, with_change, HasRange}
use Rattle.page_disk.proofs.Found.{last_put_more}
use Rattle.page_files.specs.declared.ending.JobEnd.{JobEnd}
use Rattle.page_files.specs.declared.ending.JobEnd.TheVariants as job_ends
use Rattle.page_files.specs.declared.fault.JobFault.{JobFault}
use Rattle.page_files.specs.declared.held.Held.{Held}
use Rattle.page_files.specs.declared.page.Page.{Page}
use Rattle.page_files.specs.Items.{bytes_in, item_bytes, IsMemoryIn, IsMemoryOf}
use Rattle.page_files.specs.Files.{left_of, page_no, Agrees}
use Rattle.page_files.specs.Ends.{JobEnds, Scene}
use Rattle.page_cases.specs.Runs.{IsThere}

second_false : (a b : Bool) → (a || b) ≡ false → b ≡ false
second_false true b is = cc
second_false false b is = is

same_number : (n : ℕ) → (n == n) ≡ true
same_number n = by (n == n) refl
  where
    by : (r : Bool) → (n == n) ≡ r → r ≡ true
    by true is = refl
    by false is = absurd (eqb-false n n is refl)

-- the bytes of one piece in memory
one_long : (shares : List (Option Share)) (held : Held) → IsMemoryIn shares held → length (bytes_in shares (held ∷ [])) ≡ held.len
one_long shares held there = by (item_at shares held.slot) there
  where
    by : (item : Option Item) → IsSomeAnd item (IsMemoryOf held) → length (option_map_or item_bytes item [] ++ []) ≡ held.len
    by None is = absurd is
    by (Some (Memory piece bytes)) is = ap length (append-nil bytes) ∙ is.1
    by (Some (Paged piece page off len)) is = absurd is
    by (Some (Reserved piece len)) is = absurd is
    by (Some (File name stamp off len)) is = absurd is
    by (Some (Range slot off len)) is = absurd is

-- bytes that were just put into a new page are there
put_there : (pages : List Page) (changes : List Change) (bytes : List ℕ) → Agrees pages changes → HasRange (length pages) 0 (length bytes)
    (changes ++ Put (page_no (length pages)) bytes ∷ [])
put_there pages changes bytes so = (found, kept)
  where
    page : ℕ
    page = length pages

    put : Change
    put = Put (page_no (length pages)) bytes

    is_put : put_by (length pages) (Put (page_no (length pages)) bytes) ≡ Some bytes
    is_put = ap (λ r. cond r (Some bytes) None) (same_number (length pages))

    last : last_put (length pages) (changes ++ Put (page_no (length pages)) bytes ∷ []) ≡ Some bytes
    last = last_put_more (length pages) changes (Put (page_no (length pages)) bytes) ∙ ap (λ one. option_or one (last_put (length pages) changes)) is_put

    found : IsSomeAnd (last_put (length pages) (changes ++ Put (page_no (length pages)) bytes ∷ [])) (λ all. 0 + length bytes ≤ length all)
    found = rw last (omega arith)

    none : list_any (removes (length pages)) changes ≡ false
    none = second_false (list_any (writes (length pages)) changes) (list_any (removes (length pages)) changes) (so.above (length pages) (omega arith))

    kept : list_any (removes (length pages)) (changes ++ Put (page_no (length pages)) bytes ∷ []) ≡ false
    kept = list_any-append (removes (length pages)) changes (Put (page_no (length pages)) bytes ∷ []) ∙ ap (λ one. one || (false || false)) none

told_there : (told new : Option (List Change)) (pages : List Page) (page : PageNo) (bytes : List ℕ) (len : ℕ) → IfSome told (Agrees pages) → page
    ≡ page_no (length pages) → new ≡ with_change (Put page bytes) told → length bytes ≡ len → IfSome new (HasRange page.0 0 len)
told_there None new pages page bytes len so is changed long = subst (λ (one : Option (List Change)). IfSome one (HasRange page.0 0 len)) (sym changed) tt
told_there (Some changes) new pages page bytes len so is changed long =
    let there = put_there pages changes bytes so in
    let at_page = subst (λ (one : PageNo). HasRange one.0 0 (length bytes) (changes ++ Put one bytes ∷ [])) (sym is) there in
    let long_there = subst (λ (n : ℕ). HasRange page.0 0 n (changes ++ Put page bytes ∷ [])) long at_page in
    subst (λ (one : Option (List Change)). IfSome one (HasRange page.0 0 len)) (sym changed) long_there

-- where a job of one piece ended well, its bytes are in its page
pub there_after : (job : JobNo) (old new : Scene) (end : Result JobEnd JobFault) (held : Held) → JobEnds job old new end → left_of old.files.job ≡ held ∷ []
    → IsMemoryIn old.shares held → IfSome old.changes (Agrees old.files.pages) → IsThere held.len new.changes end
there_after job old new (Ok (job_ends.Paged page pieces)) held ends one memory so =
    let written = ends.1 in
    let long : length (bytes_in old.shares (left_of old.files.job)) ≡ held.len = ap (λ list. length (bytes_in old.shares list)) one ∙ one_long old.shares held
    memory in
    told_there old.changes new.changes old.files.pages page (bytes_in old.shares (left_of old.files.job)) held.len so written.1 written.4 long
there_after job old new (Ok job_ends.Empty) held ends one memory so = tt
there_after job old new (Err fault) held ends one memory so = tt
