-- Each page file has the bytes of its pieces, as they were sent.
use Rattle.std.proofs.Common.{◌≡◌, ℕ, zero, suc, ◌+◌, ◌<◌, ◌≤◌, ◌==◌, Bool, true, List, [], ◌∷◌, ◌++◌, refl, sym, ap, subst, ◌∙◌, inl, inr, arith, length, append-nil, Option, Some, None}
use Rattle.std.specs.Prelude.{cond, filter_map, map}
use Rattle.std.specs.Option.{option_map_or, option_or}
use Rattle.std.specs.List.{AllByRecursion, cons_option, list_any, range_with_len}
use Rattle.std.proofs.lemmas.Bool.{eq-eqb}
use Rattle.answer_text.specs.declared.answer.Answer.{Answer}
use Rattle.answer_text.specs.declared.answer.Answer.TheVariants as answers
use Rattle.blob_words.specs.declared.number.JobNo.{JobNo}
use Rattle.session_script.specs.declared.event.Event.{Event}
use Rattle.blob_model.specs.Builds.{builds, sent}
use Rattle.blob_model.specs.Changes.{Change, put, torn, remove, leave, changes, changes_after, list_bytes, numbered_bytes, piece_bytes}
use Rattle.blob_model.specs.Choice.{IsOneOf}
use Rattle.blob_model.specs.History.{History, start, heard, refused, said}
use Rattle.blob_model.specs.Jobs.{in_flight}
use Rattle.blob_model.specs.Own.{job_done, job_failed, piece_at, source_of}
use Rattle.blob_model.specs.PageLaws.{RiseWithin}
use Rattle.blob_model.specs.Pages.{Page, lists, next_page, numbers, pages, pages_after}
use Rattle.blob_model.specs.Pieces.{Piece, length_in, pieces, pieces_from}
use Rattle.blob_model.specs.Session.{Session, page_limit}
use Rattle.blob_model.specs.Settle.{piece_list}
use Rattle.blob_model.specs.Tally.{job_left}
use Rattle.blob_model.specs.Value.{value}
use Rattle.blob_model.proofs.Lists.{all_append, all_members, false_true, for_both, for_each, not_same, or_first, or_second}
use Rattle.blob_model.proofs.builds.PieceNumbers.{FoundIn, found_append}
use Rattle.blob_model.proofs.bytes.Arrivals.{Grown, grown_heard, grown_said}
use Rattle.blob_model.proofs.bytes.Sent.{IsKnown}
use Rattle.blob_model.proofs.bytes.Written.{HasPiece, left_flying, listed_there, pieces_append, stored_there, written_whole}
use Rattle.blob_model.proofs.disk.Settling.{numbers_list}
use Rattle.blob_model.proofs.disk.Stock.{flying}
use Rattle.blob_model.proofs.legal.Causes.{is_idle, OwnCase, idle, breaks, stores, unstores, replies, loses, own_case, IsFurther, by_store, by_unstore, by_drop, by_break, by_done, by_removal, by_grant, by_page_job, by_compaction, IsCaused}
use Rattle.blob_model.proofs.legal.PageNumbers.{Takes, heard_takes, pages_rise, said_takes, same_first}
use Rattle.store_laws.specs.TellLaws.{AreWritten, IsWritten, bytes_by, bytes_in}
use Rattle.store_laws.proofs.Staying.{values_stay}

-- ---- one change more

other_last : (page : ℕ) (list : List Change) (change : Change) → bytes_by page change ≡ None → bytes_in page (list ++ change ∷ []) ≡ bytes_in page list
other_last page [] change e = e
other_last page (one ∷ list) change e = ap (λ (found : Option (List ℕ)). option_or found (bytes_by page one)) (other_last page list change e)

new_last : (page : ℕ) (list : List Change) (change : Change) (bytes : List ℕ) → bytes_by page change ≡ Some bytes
    → bytes_in page (list ++ change ∷ []) ≡ Some bytes
new_last page [] change bytes e = e
new_last page (one ∷ list) change bytes e = ap (λ (found : Option (List ℕ)). option_or found (bytes_by page one)) (new_last page list change bytes e)

-- ---- what was sent for a piece stays

known_kept : (f g : ℕ → Option ℕ) (from len : ℕ) → ((index : ℕ) → from ≤ index → index < from + len → IsKnown (f index))
    → ((index byte : ℕ) → f index ≡ Some byte → g index ≡ Some byte)
    → filter_map g (range_with_len from len) ≡ filter_map f (range_with_len from len)
known_kept f g from zero known stay = refl
known_kept f g from (suc len) known stay =
    let one = known from (omega arith) (omega arith) in
    let later = known_kept f g (from + 1) len (λ index low high. known index (omega (arith, low)) (omega (arith, high))) stay in
    ap (λ (found : Option ℕ). cons_option found (filter_map g (range_with_len (from + 1) len))) (stay from (one.0) one.1)
    ∙ ap (λ (bytes : List ℕ). one.0 ∷ bytes) later
    ∙ sym (ap (λ (found : Option ℕ). cons_option found (filter_map f (range_with_len (from + 1) len))) one.1)

module _ (s : Session) (h g : History) (grown : Grown s h g)
    (stay : (blob index byte : ℕ) → value s h (sent blob index) ≡ Some byte → value s g (sent blob index) ≡ Some byte) where
  piece_kept : (n : ℕ) → HasPiece s h n → numbered_bytes s g n ≡ numbered_bytes s h n
  piece_kept n one =
      let more = pieces_append (page_limit s) 0 (builds (page_limit s) h) grown.more in
      let whole : pieces (page_limit s) g ≡ pieces (page_limit s) h ++ more.0 = ap (pieces_from (page_limit s) 0) grown.blobs ∙ more.1 in
      let found : FoundIn (pieces (page_limit s) g) n one.piece =
      subst (λ (list : List Piece). FoundIn list n one.piece) (sym whole) (found_append (pieces (page_limit s) h) (more.0) n one.piece one.found) in
      ap (λ (o : Option Piece). option_map_or (piece_bytes s g) o []) found
      ∙ known_kept (λ (index : ℕ). value s h (sent one.piece.blob index)) (λ (index : ℕ). value s g (sent one.piece.blob index)) one.piece.from
      one.piece.len one.bytes (stay one.piece.blob)
      ∙ sym (ap (λ (o : Option Piece). option_map_or (piece_bytes s h) o []) one.found)

  list_kept : (list : List ℕ) → AllByRecursion (HasPiece s h) list → list_bytes s g list ≡ list_bytes s h list
  list_kept [] all = refl
  list_kept (n ∷ list) all = λ i. piece_kept n all.0 i ++ list_kept list all.1 i

-- ---- page files

abbrev IsLast : Session → History → List Change → Page → Type 0
IsLast s h list file = bytes_in file.number list ≡ Some (list_bytes s h file.pieces)

abbrev HavePieces : Session → History → Page → Type 0
HavePieces s h file = AllByRecursion (HasPiece s h) file.pieces

-- what an answer writes it has
abbrev Writes : Session → History → Answer → Type 0
Writes s h (answers.Stored file piece) = AllByRecursion (HasPiece s h) (piece.0 ∷ [])
Writes s h (answers.Paged job file list) = AllByRecursion (HasPiece s h) (numbers list)
Writes s h (answers.Moved job file list) = AllByRecursion (HasPiece s h) (numbers list)
Writes s h answer = Unit {0}

module _ (s : Session) (h g : History) (grown : Grown s h g)
    (stay : (blob index byte : ℕ) → value s h (sent blob index) ≡ Some byte → value s g (sent blob index) ≡ Some byte) where
  -- nothing is changed
  same_files : (list : List Change) (files : List Page) → AllByRecursion (HavePieces s h) files → AllByRecursion (IsLast s h list) files
      → AllByRecursion (IsLast s g list) files
  same_files list files have last =
      for_both (HavePieces s h) (IsLast s h list) (IsLast s g list) files
      (λ file pieces one. one ∙ ap (λ (bytes : List ℕ). Some bytes) (sym (list_kept s h g grown stay file.pieces pieces))) have last

  -- a change to another page file
  old_files : (list : List Change) (change : Change) (next from : ℕ) (files : List Page) → RiseWithin from next (map (λ (file : Page). file.number) files)
      → AllByRecursion (HavePieces s h) files → AllByRecursion (IsLast s h list) files → ((page : ℕ) → page < next → bytes_by page change ≡ None)
      → AllByRecursion (IsLast s g (list ++ change ∷ [])) files
  old_files list change next from [] rise have last other = tt
  old_files list change next from (file ∷ files) rise have last other = (
    other_last file.number list change (other file.number rise.1) ∙ last.0
        ∙ ap (λ (bytes : List ℕ). Some bytes) (sym (list_kept s h g grown stay file.pieces have.0)),
    old_files list change next (file.number + 1) files rise.2 have.1 last.1 other,
  )

  -- a page file more
  more_files : (list : List Change) (next number : ℕ) (pieces : List ℕ) (bytes : List ℕ) (files : List Page) → number ≡ next
      → RiseWithin 0 next (map (λ (file : Page). file.number) files) → AllByRecursion (HasPiece s h) pieces → bytes ≡ list_bytes s h pieces
      → AllByRecursion (HavePieces s h) files → AllByRecursion (IsLast s h list) files
      → AllByRecursion (IsLast s g (list ++ put number bytes ∷ [])) (files ++ record { number = number; pieces = pieces } ∷ [])
  more_files list next number pieces bytes files takes rise new is have last =
      all_append (IsLast s g (list ++ put number bytes ∷ [])) files (record { number = number; pieces = pieces } ∷ [])
      (old_files list (put number bytes) next 0 files rise have last
      (λ page low. ap (λ (b : Bool). cond {A = Option (List ℕ)} b (Some bytes) None)
      (not_same page number (λ same. absurd (omega (arith, low, same, takes)))))) (
        new_last number list (put number bytes) (list_bytes s g pieces)
            (ap (λ (b : Bool). cond {A = Option (List ℕ)} b (Some bytes) None) (eq-eqb number number refl)
            ∙ ap (λ (each : List ℕ). Some each) (is ∙ sym (list_kept s h g grown stay pieces new))),
        tt,
      )

  step : (answer : Answer) → Takes answer (next_page h) → RiseWithin 0 (next_page h) (map (λ (file : Page). file.number) (pages h))
      → AllByRecursion (HavePieces s h) (pages h) → Writes s h answer → AllByRecursion (IsLast s h (changes s h)) (pages h)
      → AllByRecursion (IsLast s g (changes_after s h answer (changes s h))) (pages_after answer (pages h))
  step (answers.Stored file piece) takes rise have new last =
      more_files (changes s h) (next_page h) file.0 (piece.0 ∷ []) (numbered_bytes s h piece.0) (pages h) takes rise new
      (sym (append-nil (numbered_bytes s h piece.0))) have last
  step (answers.Paged job file list) takes rise have new last =
      more_files (changes s h) (next_page h) file.0 (numbers list) (list_bytes s h (numbers list)) (pages h) takes rise new refl have last
  step (answers.Moved job file list) takes rise have new last =
      more_files (changes s h) (next_page h) file.0 (numbers list) (list_bytes s h (numbers list)) (pages h) takes rise new refl have last
  step (answers.StoreFailed file) takes rise have new last =
      old_files (changes s h) (torn file.0) (next_page h) 0 (pages h) rise have last (λ page low. refl)
  step (answers.PageFailed job file) takes rise have new last =
      old_files (changes s h) (torn file.0) (next_page h) 0 (pages h) rise have last (λ page low. refl)
  step (answers.MoveFailed job file) takes rise have new last =
      old_files (changes s h) (torn file.0) (next_page h) 0 (pages h) rise have last (λ page low. refl)
  step (answers.Removed file) takes rise have new last =
      old_files (changes s h) (remove file.0) (next_page h) 0 (pages h) rise have last (λ page low. refl)
  step (answers.Left file) takes rise have new last =
      old_files (changes s h) (leave file.0) (next_page h) 0 (pages h) rise have last (λ page low. refl)
  step answer takes rise have new last = same_files (changes s h) (pages h) have last

-- ---- what is written is there

all_listing : (list : List Page) → AllByRecursion (λ (file : Page). (n : ℕ) → lists file n ≡ true → list_any (λ (each : Page). lists each n) list ≡ true) list
all_listing [] = tt
all_listing (file ∷ list) = (
  (λ n e. or_first (lists file n) (list_any (λ (each : Page). lists each n) list) e),
  for_each (λ (each : Page). (n : ℕ) → lists each n ≡ true → list_any (λ (other : Page). lists other n) list ≡ true)
      (λ (each : Page). (n : ℕ) → lists each n ≡ true → list_any (λ (other : Page). lists other n) (file ∷ list) ≡ true) list
      (λ each f n e. or_second (lists file n) (list_any (λ (other : Page). lists other n) list) (f n e))
      (all_listing list),
)

have_pieces : (s : Session) (h : History) → IsCaused s h → AllByRecursion (HavePieces s h) (pages h)
have_pieces s h caused =
    for_each (λ (file : Page). (n : ℕ) → lists file n ≡ true → list_any (λ (each : Page). lists each n) (pages h) ≡ true) (HavePieces s h) (pages h)
    (λ file listing.
    for_each (λ (n : ℕ). list_any (λ (each : ℕ). each == n) file.pieces ≡ true) (HasPiece s h) file.pieces
    (λ n member. listed_there s h caused n (or_first (list_any (λ (each : Page). lists each n) (pages h)) (list_any (λ (each : ℕ). each == n) (flying h))
    (listing n member))) (all_members file.pieces))
    (all_listing (pages h))

all_there : (s : Session) (h : History) (list : List ℕ) → ((n : ℕ) → list_any (λ (each : ℕ). each == n) list ≡ true → HasPiece s h n)
    → AllByRecursion (HasPiece s h) (numbers (piece_list list))
all_there s h list there =
    subst (AllByRecursion (HasPiece s h)) (sym (numbers_list list))
    (for_each (λ (n : ℕ). list_any (λ (each : ℕ). each == n) list ≡ true) (HasPiece s h) list there (all_members list))

reply_writes : (s : Session) (h : History) (job : JobNo) (source : Option ℕ) (list : List ℕ) (answer : Answer) (rest : List Answer)
    → ((n : ℕ) → list_any (λ (each : ℕ). each == n) list ≡ true → HasPiece s h n)
    → IsOneOf (answer ∷ rest) ((job_done h job source list ∷ []) ∷ job_failed h job source list) → Writes s h answer
reply_writes s h job source [] answer rest there (inl e) = subst (Writes s h) (sym (same_first answer (answers.Empty job) rest [] e)) tt
reply_writes s h job source [] answer rest there (inr never) = absurd never
reply_writes s h job None (number ∷ more) answer rest there (inl e) =
    subst (Writes s h) (sym (same_first answer _ rest [] e)) (all_there s h (number ∷ more) there)
reply_writes s h job None (number ∷ more) answer rest there (inr (inl e)) = subst (Writes s h) (sym (same_first answer _ rest [] e)) tt
reply_writes s h job None (number ∷ more) answer rest there (inr (inr never)) = absurd never
reply_writes s h job (Some file) (number ∷ more) answer rest there (inl e) =
    subst (Writes s h) (sym (same_first answer _ rest [] e)) (all_there s h (number ∷ more) there)
reply_writes s h job (Some file) (number ∷ more) answer rest there (inr (inl e)) = subst (Writes s h) (sym (same_first answer _ rest [] e)) tt
reply_writes s h job (Some file) (number ∷ more) answer rest there (inr (inr (inl e))) = subst (Writes s h) (sym (same_first answer _ rest [] e)) tt
reply_writes s h job (Some file) (number ∷ more) answer rest there (inr (inr (inr never))) = absurd never

idle_writes : (s : Session) (h : History) (answer : Answer) → is_idle answer ≡ true → Writes s h answer
idle_writes s h (answers.Stored file piece) e = absurd (false_true e)
idle_writes s h (answers.Paged job file list) e = absurd (false_true e)
idle_writes s h (answers.Moved job file list) e = absurd (false_true e)
idle_writes s h answer e = tt

first_writes : (s : Session) (h : History) (event : Event) (answer : Answer) (rest : List Answer) → IsCaused s h → OwnCase s h event (answer ∷ rest)
    → Writes s h answer
first_writes s h event answer rest caused (idle one e free) = subst (Writes s h) (sym (same_first answer one rest [] e)) (idle_writes s h one free)
first_writes s h event answer rest caused (breaks b status broken building e) = subst (Writes s h) (sym (same_first answer _ rest [] e)) tt
first_writes s h event answer rest caused (stores renderer b segment bytes n same at e) = subst (Writes s h) (sym (same_first answer _ rest _ e)) tt
first_writes s h event answer rest caused (unstores renderer b segment bytes n same at e) = subst (Writes s h) (sym (same_first answer _ rest _ e)) tt
first_writes s h event answer rest caused (replies job one same e reply done) =
    reply_writes s h job (source_of (in_flight h)) (job_left (page_limit s) h) answer rest
    (λ n left. listed_there s h caused n (or_second (list_any (λ (each : Page). lists each n) (pages h)) (list_any (λ (each : ℕ). each == n) (flying h))
    (left_flying (page_limit s) h n left))) done
first_writes s h event answer rest caused (loses job same e) = subst (Writes s h) (sym (same_first answer _ rest [] e)) tt

said_writes : (s : Session) (h : History) (answer : Answer) → IsCaused s h → IsFurther s h answer → Writes s h answer
said_writes s h answer caused (by_store k renderer b segment bytes n same passes at e) =
    subst (Writes s h) (sym e) (
      subst (λ (line : History). HasPiece s line (piece_at s k b segment)) (sym same)
          (stored_there s k renderer b segment bytes n (subst (IsCaused s) same caused) passes at),
      tt,
    )
said_writes s h answer caused (by_unstore k renderer b segment bytes n same passes at e) = subst (Writes s h) (sym e) tt
said_writes s h answer caused (by_drop build found begun unrooted e) = subst (Writes s h) (sym e) tt
said_writes s h answer caused (by_break build found begun status broken e) = subst (Writes s h) (sym e) tt
said_writes s h answer caused (by_done build found begun complete e) = subst (Writes s h) (sym e) tt
said_writes s h answer caused (by_removal number written left (inl e)) = subst (Writes s h) (sym e) tt
said_writes s h answer caused (by_removal number written left (inr e)) = subst (Writes s h) (sym e) tt
said_writes s h answer caused (by_grant build found e) = subst (Writes s h) (sym e) tt
said_writes s h answer caused (by_page_job number more may chosen e) = subst (Writes s h) (sym e) tt
said_writes s h answer caused (by_compaction file may found e) = subst (Writes s h) (sym e) tt

-- ---- the law

all_last : (s : Session) (h : History) → IsCaused s h → AllByRecursion (IsLast s h (changes s h)) (pages h)
all_last s start caused = tt
all_last s (heard h event answer) caused =
    step s h (heard h event answer) (grown_heard s h event answer) (values_stay.by_line s h event answer) answer (heard_takes s h event answer caused.0)
    (pages_rise s h caused.1) (have_pieces s h caused.1)
    (first_writes s h event answer caused.0.rest caused.1 (own_case s h event (answer ∷ caused.0.rest) caused.0.own)) (all_last s h caused.1)
all_last s (refused h event why) caused = all_last s h caused.2
all_last s (said h answer) caused =
    step s h (said h answer) (grown_said s h answer) (values_stay.by_answer s h answer) answer (said_takes s h answer caused.0) (pages_rise s h caused.1)
    (have_pieces s h caused.1) (said_writes s h answer caused.1 caused.0) (all_last s h caused.1)

pub all_written : (s : Session) (h : History) → IsCaused s h → AreWritten s h
all_written s h caused =
    for_both (λ (file : Page). AllByRecursion (λ (number : ℕ). length (numbered_bytes s h number) ≡ length_in (pieces (page_limit s) h) number) file.pieces)
    (IsLast s h (changes s h)) (IsWritten s h) (pages h) (λ file whole last. record { whole = whole; last = last }) (written_whole s h caused)
    (all_last s h caused)
