-- Why the disk's reply is refused, and what it may be, is read off the page files.
use Rattle.std.proofs.Common.{◌≡◌, ◌≢◌, ℕ, suc, ◌+◌, not, Bool, true, false, cond, List, [], ◌∷◌, map, length, inl, inr, refl, ap, sym, subst, ◌∙◌}
use Rattle.std.proofs.Common.{Option, Some, None}
use Rattle.std.specs.Option.{option_map}
use Rattle.std.proofs.lemmas.List.{length-map}
use Rattle.answer_text.specs.declared.answer.Answer.{Answer}
use Rattle.answer_text.specs.declared.answer.Answer.TheVariants as answers
use Rattle.answer_text.specs.declared.group.Group.{Group}
use Rattle.answer_text.specs.declared.refusal.Refusal.TheVariants as refusals
use Rattle.blob_entries.specs.Book.{Book}
use Rattle.blob_words.specs.declared.number.JobNo.{JobNo}
use Rattle.blob_words.specs.declared.number.PageNo.{PageNo}
use Rattle.data_handles.specs.Table.{Table as HandleTable}
use Rattle.item_shares.specs.declared.shares.Share.{Share}
use Rattle.page_disk.specs.declared.change.Change.{Change}
use Rattle.page_files.specs.Files.{is_in_flight, left_of, page_no, source_of, Files}
use Rattle.page_files.specs.Pieces.{names}
use Rattle.page_files.specs.declared.held.Held.{Held}
use Rattle.page_files.specs.declared.job.Job.{Job}
use Rattle.page_files.specs.declared.page.Page.{Page as FilePage}
use Rattle.quota_queue.specs.Queue.{Queue}
use Rattle.session_script.specs.declared.event.Event.TheVariants as events
use Rattle.blob_model.specs.Choice.{first_that, IsOneOf}
use Rattle.blob_model.specs.History.{history_from, start, History}
use Rattle.blob_model.specs.Jobs.{in_flight, Job as JobSaid}
use Rattle.blob_model.specs.Legal.{IsLegalFrom}
use Rattle.blob_model.specs.Own.{job_done, job_failed, source_of as source_said, IsAccepted}
use Rattle.blob_model.specs.Pages.{asked, next_page}
use Rattle.blob_model.specs.Pieces.{pieces, Piece}
use Rattle.blob_model.specs.Refusals.{refusal}
use Rattle.blob_model.specs.Session.{page_limit, Session}
use Rattle.blob_model.specs.Tally.{job_left}
use Rattle.blob_model.proofs.legal.Steps.{caused_from}
use Rattle.model_bridges.specs.Bridges.{held_numbers, job_as}
use Rattle.store_laws.specs.AgreeLaws.{IsKept}
use Rattle.store_laws.specs.Items.{holds_piece}
use Rattle.store_laws.specs.JobLaws.{job_refusal, JobIsRead, JobsAreRead}
use Rattle.store_laws.specs.PageFiles.{holds_paged, sheet, sheets_from, with_held, writes}
use Rattle.store_laws.specs.ReachLaws.{IsAtRest}
use Rattle.store_laws.specs.Rows.{Row}
use Rattle.store_laws.specs.Stands.{AreExact, Between, ContentsStand, Parts}
use Rattle.store_laws.proofs.Compactions.{listed_names}
use Rattle.store_laws.proofs.Losing.{flying_same}
use Rattle.store_laws.proofs.PageCharges.{job_numbers}
use Rattle.store_laws.proofs.PageNumbers.{writes_in_turn}

-- ---- refusals

by_flying : (job : JobNo) (b : Bool) → first_that ((not b, refusals.NoJob job) ∷ []) ≡ cond b None (Some (refusals.NoJob job))
by_flying job true = refl
by_flying job false = refl

module _ (s : Session) (h : History) (stands : ℕ → Bool) (parts : Parts) (told : Option (List Change)) (table : HandleTable)
    (between : Between s h stands parts told table) (job : JobNo) where
  abbrev flies : Bool
  flies = is_in_flight job parts.pages.job

  due : first_that ((not flies, refusals.NoJob job) ∷ []) ≡ job_refusal job parts.pages
  due = by_flying job flies

  pub lost_due : refusal s h (events.Lost job) ≡ job_refusal job parts.pages
  lost_due =
      ap (λ (b : Bool). first_that ((not b, refusals.NoJob job) ∷ []))
      (flying_same (holds_piece parts.shares) (in_flight h) parts.pages.job job between.contents.page_files_stand.job) ∙ due

  pub disk_due : refusal s h (events.Disk job) ≡ job_refusal job parts.pages
  disk_due =
      ap (λ (b : Bool). first_that ((not b, refusals.NoJob job) ∷ []))
      (flying_same (holds_piece parts.shares) (in_flight h) parts.pages.job job between.contents.page_files_stand.job) ∙ due

-- ---- replies

abbrev bare_page : PageNo → ℕ
bare_page page = page.0

source_so : (is_held : ℕ → Bool) (job : Option Job) (flying : Option JobSaid) → option_map job_as job ≡ option_map (with_held is_held) flying
    → source_said flying ≡ option_map bare_page (source_of job)
source_so is_held None None same = refl
source_so is_held None (Some one) same = absurd (cc same)
source_so is_held (Some other) None same = absurd (cc same)
source_so is_held (Some other) (Some one) same =
    let equal : job_as other ≡ with_held is_held one = cc same in
    ap (λ (said : JobSaid). said.source) (sym equal)

many_sheets : (all : List Piece) (holds : ℕ → ℕ → Bool) (before : List ℕ) (n : ℕ) (written : List (Option (List ℕ)))
    → length (sheets_from all holds before n written) ≡ length written
many_sheets all holds before n [] = refl
many_sheets all holds before n (one ∷ more) =
    let rest = many_sheets all holds before (n + 1) more in
    ap suc rest

-- the next page number
pub as_many_pages : (all : List Piece) (shares : List (Option Share)) (before : List ℕ) (written : List (Option (List ℕ))) (list : List FilePage)
    → map sheet list ≡ sheets_from all (holds_paged shares) before 0 written → length list ≡ length written
as_many_pages all shares before written list same =
    sym (length-map list sheet) ∙ ap (λ sheets. length sheets) same ∙ many_sheets all (holds_paged shares) before 0 written

module _ (s : Session) (groups : List Group) (stands : ℕ → Bool) (book : Book) (shares : List (Option Share)) (rows : List (Option Row)) (quota : Queue)
    (files : Files) (order : List (ℕ × ℕ)) (legal : IsLegalFrom s start groups)
    (contents : ContentsStand s (history_from start groups) stands book shares rows quota files order)
    (exact : AreExact s (history_from start groups) stands) (rest : IsAtRest (page_limit s) (history_from start groups))
    (kept : IsKept s (history_from start groups) book shares rows quota files) (job : JobNo) where
  abbrev h : History
  h = history_from start groups

  abbrev Left : List Held
  Left = left_of files.job

  abbrev Accepts : Option ℕ → List ℕ → List Answer → Type 0
  Accepts source list own = IsOneOf own ((job_done h job source list ∷ []) ∷ job_failed h job source list)

  number_so : next_page h ≡ length files.pages
  number_so =
      sym (writes_in_turn s h (caused_from s groups legal))
      ∙ sym (as_many_pages (pieces (page_limit s) h) shares (asked h) (writes h) files.pages contents.page_files_stand.sheets)

  numbers_so : held_numbers Left ≡ job_left (page_limit s) h
  numbers_so = job_numbers s h stands book shares rows quota files order contents exact rest kept.counted kept.apart kept.paged

  accepts : (own : List Answer) → Accepts (option_map bare_page (source_of files.job)) (held_numbers Left) own → IsAccepted s h (events.Disk job) own
  accepts own is =
      subst (λ (list : List ℕ). Accepts (source_said (in_flight h)) list own) numbers_so
      (subst (λ (source : Option ℕ). Accepts source (held_numbers Left) own)
      (sym (source_so (holds_piece shares) files.job (in_flight h) contents.page_files_stand.job)) is)

  from : (source : Option PageNo) → source_of files.job ≡ source → (own : List Answer) → Accepts (option_map bare_page source) (held_numbers Left) own
      → IsAccepted s h (events.Disk job) own
  from source at own is =
      accepts own (subst (λ (one : Option PageNo). Accepts (option_map bare_page one) (held_numbers Left) own) (sym at) is)

  page_so : page_no (length files.pages) ≡ page_no (next_page h)
  page_so = ap page_no (sym number_so)

  to_page : (list : List Held) → list ≢ []
      → Accepts None (held_numbers list) (answers.Paged job (page_no (length files.pages)) (names list) ∷ [])
      × Accepts None (held_numbers list) (answers.PageFailed job (page_no (length files.pages)) ∷ [])
  to_page [] some = absurd (some refl)
  to_page (held ∷ list) some = (
    inl (λ i. answers.Paged job (page_so i) (listed_names (held ∷ list) i) ∷ []),
    inr (inl (λ i. answers.PageFailed job (page_so i) ∷ [])),
  )

  to_move : (source : PageNo) (list : List Held) → list ≢ []
      → Accepts (Some source.0) (held_numbers list) (answers.Moved job (page_no (length files.pages)) (names list) ∷ [])
      × Accepts (Some source.0) (held_numbers list) (answers.MoveFailed job (page_no (length files.pages)) ∷ [])
      × Accepts (Some source.0) (held_numbers list) (answers.MoveUnread job source ∷ [])
  to_move source [] some = absurd (some refl)
  to_move source (held ∷ list) some = (
    inl (λ i. answers.Moved job (page_so i) (listed_names (held ∷ list) i) ∷ []),
    inr (inl (λ i. answers.MoveFailed job (page_so i) ∷ [])),
    inr (inr (inl refl)),
  )

  pub job_read : JobIsRead s h job files
  job_read = record {
    empty = λ none.
        accepts (answers.Empty job ∷ [])
        (subst (λ (list : List Held). Accepts (option_map bare_page (source_of files.job)) (held_numbers list) (answers.Empty job ∷ [])) (sym none) (inl refl));
    paged = λ some pages. from None pages _ (to_page Left some).0;
    page_failed = λ some pages. from None pages _ (to_page Left some).1;
    moved = λ some source moves. from (Some source) moves _ (to_move source Left some).0;
    move_failed = λ some source moves. from (Some source) moves _ (to_move source Left some).1;
    unread = λ some source moves. from (Some source) moves _ (to_move source Left some).2;
  }

pub jobs_are_read : JobsAreRead
jobs_are_read s groups stands book shares rows quota files order legal contents exact rest kept job =
    job_read s groups stands book shares rows quota files order legal contents exact rest kept job
