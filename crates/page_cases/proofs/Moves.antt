-- A page of two pieces, one of which is reached no more, and its move.
use Rattle.std.proofs.Common.{◌≡◌, ℕ, ◌≤◌, ◌&&◌, Bool, is_none, List, [], ◌∷◌, ◌++◌, Option, Some, None, length, nat_eq, refl, sym, ap, ◌∙◌, arith, subst, true, false, Result, Ok, Err}
use Rattle.std.specs.Prelude.{IfSome, IfOk, IsSomeAnd}
use Rattle.std.specs.Option.{option_map_or}
use Rattle.std.specs.List.{AllByRecursion, IsDistinct}
use Rattle.std.proofs.lemmas.List.{length-append}
use Rattle.blob_words.specs.declared.number.PageNo.{PageNo}
use Rattle.blob_words.specs.declared.number.JobNo.{JobNo}
use Rattle.item_shares.specs.declared.item.Item.{Item}
use Rattle.item_shares.specs.declared.item.Item.TheVariants.{Memory, Paged, Reserved, File, Range}
use Rattle.item_shares.specs.declared.shares.Share.{Share}
use Rattle.item_shares.specs.Shares.{item_at}
use Rattle.page_disk.specs.declared.change.Change.{Change}
use Rattle.page_disk.specs.declared.change.Change.TheVariants.{Put}
use Rattle.page_disk.specs.Changes.{with_change, HasRange}
use Rattle.page_files.specs.declared.ending.JobEnd.{JobEnd}
use Rattle.page_files.specs.declared.ending.JobEnd.TheVariants as job_ends
use Rattle.page_files.specs.declared.fault.JobFault.{JobFault}
use Rattle.page_files.specs.declared.fault.JobFault.TheVariants as job_faults
use Rattle.page_files.specs.declared.held.Held.{Held}
use Rattle.page_files.specs.declared.page.Page.TheVariants.{Whole}
use Rattle.page_files.specs.Items.{bytes_in, item_bytes, IsMemoryIn, IsMemoryOf}
use Rattle.page_files.specs.Pieces.{bytes_of, placed}
use Rattle.page_files.specs.Files.{Files, is_in_flight, page_no, source_of, left_of, new_files, with_job, with_page, without_job}
use Rattle.page_files.specs.Ends.{Scene, JobEnds}
use Rattle.page_cases.specs.Moves.{both_held, first_held, second_held, page_of_both}

pub both_apart : IsDistinct nat_eq (0 ∷ 1 ∷ [])
unfolding IsDistinct
both_apart = search (tt)

item_length : (held : Held) (item : Option Item) → IsSomeAnd item (IsMemoryOf held) → length (option_map_or item_bytes item []) ≡ held.len
item_length held None is = absurd is
item_length held (Some (Memory piece bytes)) is = is.1
item_length held (Some (Paged piece page off len)) is = absurd is
item_length held (Some (Reserved piece len)) is = absurd is
item_length held (Some (File name stamp off len)) is = absurd is
item_length held (Some (Range slot off len)) is = absurd is

both_length : (shares : List (Option Share)) (first second : ℕ) → AllByRecursion (IsMemoryIn shares) (both_held first second)
    → 1 ≤ length (bytes_in shares (both_held first second))
both_length shares first second items =
    let one = item_length (first_held first) (item_at shares first) items.0 in
    let front = option_map_or item_bytes (item_at shares first) [] in
    let sum = length-append front (bytes_in shares (second_held second ∷ [])) in
    omega (arith, one, sum)

-- the first change puts the bytes of the page
put_range : (told : Option (List Change)) (bytes : List ℕ) → IfSome told (λ changes. changes ≡ []) → 1 ≤ length bytes
    → IfSome (with_change (Put (record { 0 = 0 }) bytes) told) (HasRange 0 0 1)
put_range None bytes fresh long = tt
put_range (Some changes) bytes fresh long = subst (λ (one : List Change). HasRange 0 0 1 (one ++ Put (record { 0 = 0 }) bytes ∷ [])) (sym fresh) (long, refl)

module _ (limit first second : ℕ) (job : JobNo) (old new : Scene) (is : old.files ≡ with_job None (both_held first second) (new_files limit)) where
  -- both pieces are in page 0
  pub both_paged : (end : Result JobEnd JobFault) → JobEnds job old new end → IfOk end (λ _. new.files.pages ≡ page_of_both first second)
  both_paged (Ok (job_ends.Paged page pieces)) ends =
      ap (λ (files : Files). files.pages) ends.1.3 ∙ ap (λ (files : Files).
      (with_page (Whole (bytes_of (left_of files.job)) (placed 0 (left_of files.job))) (without_job files)).pages) is
  both_paged (Ok job_ends.Empty) ends =
      let all : left_of old.files.job ≡ both_held first second = ap (λ (files : Files). left_of files.job) is in
      cc (all, ends.1.0)
  both_paged (Err fault) ends = tt

  pub both_counted : (end : Result JobEnd JobFault) → JobEnds job old new end → IfOk end (λ _. new.files.jobs ≡ 1)
  both_counted (Ok (job_ends.Paged page pieces)) ends =
      ap (λ (files : Files). files.jobs) ends.1.3 ∙ ap (λ (files : Files). files.jobs) is
  both_counted (Ok job_ends.Empty) ends =
      let all : left_of old.files.job ≡ both_held first second = ap (λ (files : Files). left_of files.job) is in
      cc (all, ends.1.0)
  both_counted (Err fault) ends = tt

  -- and the disk has the byte of the first
  pub both_there : (end : Result JobEnd JobFault) → JobEnds job old new end → IfSome old.changes (λ changes. changes ≡ [])
      → AllByRecursion (IsMemoryIn old.shares) (both_held first second) → IfOk end (λ _. IfSome new.changes (HasRange 0 0 1))
  both_there (Ok (job_ends.Paged page pieces)) ends fresh items =
      let all : left_of old.files.job ≡ both_held first second = ap (λ (files : Files). left_of files.job) is in
      let number : page ≡ record { 0 = 0 } = ends.1.1 ∙ ap (λ (files : Files). page_no (length files.pages)) is in
      let bytes = bytes_in old.shares (left_of old.files.job) in
      let same : new.changes ≡ with_change (Put (record { 0 = 0 }) bytes) old.changes =
      ends.1.4 ∙ ap (λ (one : PageNo). with_change (Put one bytes) old.changes) number in
      let long : 1 ≤ length bytes = subst (λ (held : List Held). 1 ≤ length (bytes_in old.shares held)) (sym all) (both_length old.shares first second items) in
      subst (λ (told : Option (List Change)). IfSome told (HasRange 0 0 1)) (sym same) (put_range old.changes bytes fresh long)
  both_there (Ok job_ends.Empty) ends fresh items =
      let all : left_of old.files.job ≡ both_held first second = ap (λ (files : Files). left_of files.job) is in
      absurd (clash all ends.1.0)
    where
      clash : left_of old.files.job ≡ both_held first second → left_of old.files.job ≡ [] → ⊥
      clash all none = cc (all, none)
  both_there (Err fault) ends fresh items = tt

not_page : (flight : Bool) (source : Option PageNo) (page : PageNo) → source ≡ Some page → (flight && is_none source) ≡ true → ⊥
not_page true None page is so = cc
not_page true (Some one) page is so = cc
not_page false source page is so = cc

-- a compact job does not end as a page job
pub no_page_job : (job : JobNo) (old new : Scene) (end : Result JobEnd JobFault) (source : PageNo) → source_of old.files.job ≡ Some source
    → JobEnds job old new end → new.files ≡ old.files
no_page_job job old new (Ok (job_ends.Paged page pieces)) source is ends =
    absurd (not_page (is_in_flight job old.files.job) (source_of old.files.job) source is ends.0)
no_page_job job old new (Ok job_ends.Empty) source is ends = absurd (not_page (is_in_flight job old.files.job) (source_of old.files.job) source is ends.0)
no_page_job job old new (Err job_faults.NoJob) source is ends = ends.1
no_page_job job old new (Err (job_faults.Failed page)) source is ends =
    absurd (not_page (is_in_flight job old.files.job) (source_of old.files.job) source is ends.0)
no_page_job job old new (Err job_faults.NoMemory) source is ends = absurd (not_page (is_in_flight job old.files.job) (source_of old.files.job) source is ends.0)
