-- How many jobs and page files a legal transcript has: each page job begins with a piece of its own, and each page file is moved once, with a piece less.
use Rattle.std.proofs.Common.{◌≡◌, ◌⊎◌, ℕ, ◌+◌, ◌≤◌, ◌<◌, ◌==◌, Bool, true, false, not, List, [], ◌∷◌, ◌++◌, length, refl, ap, subst, sym, ◌∙◌, inl, inr, ⊎_elim, arith, Option, Some, None}
use Rattle.std.specs.Prelude.{cond, filter, find, sum_by}
use Rattle.std.specs.Option.{option_map_or}
use Rattle.std.specs.List.{AllByRecursion, list_any}
use Rattle.std.proofs.lemmas.Bool.{eqb-true}
use Rattle.answer_text.specs.declared.answer.Answer.{Answer}
use Rattle.answer_text.specs.declared.answer.Answer.TheVariants as answers
use Rattle.blob_model.specs.Session.{Session, page_limit}
use Rattle.blob_model.specs.History.{History, start, heard, refused, said}
use Rattle.blob_model.specs.Builds.{Build, builds}
use Rattle.blob_model.specs.Pieces.{Piece, pieces, pieces_from}
use Rattle.blob_model.specs.Reached.{live_cells, owns_some}
use Rattle.blob_model.specs.Pages.{Page, numbers, pages, page_with, lists}
use Rattle.blob_model.specs.Jobs.{Job, in_flight, paging}
use Rattle.blob_model.specs.Order.{named}
use Rattle.blob_model.proofs.Lists.{AreApart, any_append_first, false_true, for_each, is_among}
use Rattle.blob_model.proofs.builds.PieceNumbers.{FoundIn, AreNumbered, pieces_numbered, found_append}
use Rattle.blob_model.proofs.disk.Stock.{flying_of, flying, is_listed}
use Rattle.blob_model.proofs.legal.Causes.{was_written}
use Rattle.blob_model.proofs.bytes.Arrivals.{Grown}
use Rattle.blob_model.proofs.bytes.Written.{pieces_append}
use Rattle.blob_model.proofs.live.Unreached.{Falls}

-- ---- numbers

-- a piece that is found has a number below their count
found_low : (from : ℕ) (list : List Piece) (n : ℕ) (piece : Piece) → AreNumbered from list → FoundIn list n piece → n < from + length list
found_low from [] n piece all e = cc
found_low from (x ∷ list) n piece all e = go (x.number == n) refl e (λ f. found_low (from + 1) list n piece all.1 f)
  where
    go : (b : Bool) → (x.number == n) ≡ b → cond b (Some x) (find (λ (each : Piece). each.number == n) list) ≡ Some piece
        → (FoundIn list n piece → n < (from + 1) + length list) → n < from + length (x ∷ list)
    go true at f rest = let same = eqb-true x.number n at in let here = all.0 in omega (arith, same, here)
    go false at f rest = let low = rest f in omega (arith, low)

pub piece_low : (s : Session) (h : History) (n : ℕ) (piece : Piece) → FoundIn (pieces (page_limit s) h) n piece → n < length (pieces (page_limit s) h)
piece_low s h n piece found = let low = found_low 0 (pieces (page_limit s) h) n piece (pieces_numbered (page_limit s) 0 (builds (page_limit s) h)) found in
    omega (arith, low)

-- ---- what is counted

-- the first piece of each page job
abbrev pub starts_after : Answer → List ℕ → List ℕ
starts_after (answers.Job job (piece ∷ list)) before = piece.0 ∷ before
starts_after answer before = before

abbrev pub starts : History → List ℕ
starts start = []
starts (heard h event answer) = starts_after answer (starts h)
starts (refused h event why) = starts h
starts (said h answer) = starts_after answer (starts h)

-- the page files that were moved out of
abbrev pub sources_after : Answer → List ℕ → List ℕ
sources_after (answers.Compacting job file list) before = file.0 ∷ before
sources_after answer before = before

abbrev pub sources : History → List ℕ
sources start = []
sources (heard h event answer) = sources_after answer (sources h)
sources (refused h event why) = sources h
sources (said h answer) = sources_after answer (sources h)

-- the pieces that were written for the first time
abbrev pub firsts_after : Answer → List ℕ → List ℕ
firsts_after (answers.Stored file piece) before = piece.0 ∷ before
firsts_after (answers.Paged job file list) before = numbers list ++ before
firsts_after answer before = before

abbrev pub firsts : History → List ℕ
firsts start = []
firsts (heard h event answer) = firsts_after answer (firsts h)
firsts (refused h event why) = firsts h
firsts (said h answer) = firsts_after answer (firsts h)

-- whether a page file lists the piece, and whether this one has it
abbrev pub is_paged : List Page → ℕ → Bool
is_paged written n = list_any (λ (each : Page). lists each n) written

abbrev pub has_place : List Page → ℕ → ℕ → Bool
has_place written file n = option_map_or (λ (page : Page). page.number == file) (page_with written n) false

-- a piece that no live blob has
pub record IsDead (s : Session) (h : History) (n : ℕ) : Type 0 where
  pub piece : Piece
  pub found : FoundIn (pieces (page_limit s) h) n piece
  pub member : named piece.blob (builds (page_limit s) h) ≡ true
  pub dead : owns_some (live_cells (page_limit s) h) piece ≡ false

-- the pieces listed in page files that were not moved out of
abbrev pub spare : List Page → List ℕ → ℕ
spare written moved = sum_by (λ (file : Page). length file.pieces) (filter (λ (file : Page). not (is_among file.number moved)) written)

-- those that a move still has
abbrev pub moving : Option Job → ℕ
moving None = 0
moving (Some job) = option_map_or (λ (file : ℕ). length job.pieces) job.source 0

-- whether the job in flight moves out of this page file
abbrev pub moves_from : Option Job → ℕ → Bool
moves_from None file = false
moves_from (Some job) file = option_map_or (λ (source : ℕ). source == file) job.source false

-- no live blob has a piece of this page file
abbrev pub IsEmptied : Session → History → ℕ → Type 0
IsEmptied s h file = (n : ℕ) → has_place (pages h) file n ≡ true → IsDead s h n

-- what is known of a job in flight: a page job has pieces that no page file lists; a move has all live pieces of its page file
abbrev pub FliesFrom : Session → History → List ℕ → Option ℕ → Type 0
FliesFrom s h list None = AllByRecursion (λ (n : ℕ). is_paged (pages h) n ≡ false) list
FliesFrom s h list (Some file) = (was_written h file ≡ true) × ((n : ℕ) → has_place (pages h) file n ≡ true → (is_among n list ≡ true) ⊎ IsDead s h n)

abbrev pub FliesWell : Session → History → Option Job → Type 0
FliesWell s h None = Unit {0}
FliesWell s h (Some job) = FliesFrom s h job.pieces job.source

pub record Counts (s : Session) (h : History) : Type 0 where
  pub starts_apart : AreApart (starts h)
  pub starts_there : (n : ℕ) → is_among n (starts h) ≡ true → (piece : Piece) × FoundIn (pieces (page_limit s) h) n piece
  pub starts_over : (n : ℕ) → is_among n (starts h) ≡ true → paging h ≡ true → (is_listed (pages h) (flying h) n ≡ true) ⊎ IsDead s h n
  pub firsts_apart : AreApart (firsts h)
  pub firsts_paged : (n : ℕ) → is_among n (firsts h) ≡ true → is_paged (pages h) n ≡ true
  pub pages_apart : AllByRecursion (λ (file : Page). AreApart file.pieces) (pages h)
  pub flies_apart : AreApart (flying h)
  pub flies : FliesWell s h (in_flight h)
  pub moved_written : (file : ℕ) → is_among file (sources h) ≡ true → was_written h file ≡ true
  pub moved_over : (file : ℕ) → is_among file (sources h) ≡ true → paging h ≡ true → (moves_from (in_flight h) file ≡ true) ⊎ IsEmptied s h file
  pub less : (length (sources h) + spare (pages h) (sources h)) + moving (in_flight h) ≤ length (firsts h)

-- ---- a step

-- what is dead stays dead
pub dead_stays : (s : Session) (h g : History) (n : ℕ) → Grown s h g → Falls s h g → IsDead s h n → IsDead s g n
dead_stays s h g n grown falls one =
    let more = pieces_append (page_limit s) 0 (builds (page_limit s) h) grown.more in
    let whole : pieces (page_limit s) g ≡ pieces (page_limit s) h ++ more.0 = ap (pieces_from (page_limit s) 0) grown.blobs ∙ more.1 in
    record {
      piece = one.piece;
      found = subst (λ (list : List Piece). FoundIn list n one.piece) (sym whole) (found_append (pieces (page_limit s) h) (more.0) n one.piece one.found);
      member = ap (named one.piece.blob) grown.blobs ∙ any_append_first (λ (build : Build). build.name == one.piece.blob) (builds (page_limit s) h) grown.more
          one.member;
      dead = not_live (owns_some (live_cells (page_limit s) g) one.piece) (falls one.piece one.member) one.dead;
    }
  where
    not_live : {c : Bool} (b : Bool) → (b ≡ true → c ≡ true) → c ≡ false → b ≡ false
    not_live false up e = refl
    not_live true up e = absurd (false_true (sym e ∙ up refl))

pub found_stays : (s : Session) (h g : History) (n : ℕ) (piece : Piece) → Grown s h g → FoundIn (pieces (page_limit s) h) n piece
    → FoundIn (pieces (page_limit s) g) n piece
found_stays s h g n piece grown found =
    let more = pieces_append (page_limit s) 0 (builds (page_limit s) h) grown.more in
    let whole : pieces (page_limit s) g ≡ pieces (page_limit s) h ++ more.0 = ap (pieces_from (page_limit s) 0) grown.blobs ∙ more.1 in
    subst (λ (list : List Piece). FoundIn list n piece) (sym whole) (found_append (pieces (page_limit s) h) (more.0) n piece found)

pub there_stays : (s : Session) (h g : History) (n : ℕ) → Grown s h g → (piece : Piece) × FoundIn (pieces (page_limit s) h) n piece → (piece : Piece)
    × FoundIn (pieces (page_limit s) g) n piece
there_stays s h g n grown one = (one.0, found_stays s h g n (one.0) grown one.1)

-- a step that writes no page file and starts and ends no job
pub record IsStill (s : Session) (h g : History) : Type 0 where
  pub written : pages g ≡ pages h
  pub flies : in_flight g ≡ in_flight h
  pub still_on : paging g ≡ true → paging h ≡ true
  pub starts_same : starts g ≡ starts h
  pub sources_same : sources g ≡ sources h
  pub firsts_same : firsts g ≡ firsts h

-- it keeps all of it
pub counts_still : (s : Session) (h g : History) → Grown s h g → Falls s h g → IsStill s h g → Counts s h → Counts s g
counts_still s h g grown falls still counts = record {
  starts_apart = subst AreApart (sym still.starts_same) counts.starts_apart;
  starts_there = λ n e. there_stays s h g n grown (counts.starts_there n (subst (λ (xs : List ℕ). is_among n xs ≡ true) still.starts_same e));
  starts_over =
      λ n e on.
      ⊎_elim (λ (listed : is_listed (pages h) (flying h) n ≡ true). inl ((λ i. is_listed (still.written i) (flying_of (still.flies i)) n) ∙ listed))
      (λ (dead : IsDead s h n). inr (dead_stays s h g n grown falls dead))
      (counts.starts_over n (subst (λ (xs : List ℕ). is_among n xs ≡ true) still.starts_same e) (still.still_on on));
  firsts_apart = subst AreApart (sym still.firsts_same) counts.firsts_apart;
  firsts_paged = λ n e. ap (λ (xs : List Page). is_paged xs n) still.written ∙ counts.firsts_paged n
      (subst (λ (xs : List ℕ). is_among n xs ≡ true) still.firsts_same e);
  pages_apart = subst (AllByRecursion (λ (file : Page). AreApart file.pieces)) (sym still.written) counts.pages_apart;
  flies_apart = subst (λ (job : Option Job). AreApart (flying_of job)) (sym still.flies) counts.flies_apart;
  flies = subst (FliesWell s g) (sym still.flies) (fly (in_flight h) counts.flies);
  moved_written =
      λ file e.
      ap (λ (xs : List Page). list_any (λ (each : Page). each.number == file) xs) still.written ∙ counts.moved_written file
      (subst (λ (xs : List ℕ). is_among file xs ≡ true) still.sources_same e);
  moved_over =
      λ file e on.
      ⊎_elim (λ (moves : moves_from (in_flight h) file ≡ true). inl (ap (λ (job : Option Job). moves_from job file) still.flies ∙ moves))
      (λ (over : IsEmptied s h file). inr (λ n at. dead_stays s h g n grown falls
      (over n (subst (λ (xs : List Page). has_place xs file n ≡ true) still.written at))))
      (counts.moved_over file (subst (λ (xs : List ℕ). is_among file xs ≡ true) still.sources_same e) (still.still_on on));
  less =
      let before = counts.less in
      let left : (length (sources g) + spare (pages g) (sources g)) + moving (in_flight g) ≡ (length (sources h) + spare (pages h) (sources h)) + moving
      (in_flight h) =
      (λ i. (length (still.sources_same i) + spare (still.written i) (still.sources_same i)) + moving (still.flies i)) in
      let right : length (firsts g) ≡ length (firsts h) = ap length still.firsts_same in
      omega (arith, before, left, right);
}
  where
    from : (list : List ℕ) (source : Option ℕ) → FliesFrom s h list source → FliesFrom s g list source
    from list None one = for_each (λ (n : ℕ). is_paged (pages h) n ≡ false) (λ (n : ℕ). is_paged (pages g) n ≡ false) list
        (λ n e. ap (λ (xs : List Page). is_paged xs n) still.written ∙ e) one
    from list (Some file) one = (
      ap (λ (xs : List Page). list_any (λ (each : Page). each.number == file) xs) still.written ∙ one.0,
      (λ n at.
          ⊎_elim (λ (there : is_among n list ≡ true). inl there) (λ (dead : IsDead s h n). inr (dead_stays s h g n grown falls dead))
          (one.1 n (subst (λ (xs : List Page). has_place xs file n ≡ true) still.written at))),
    )

    fly : (job : Option Job) → FliesWell s h job → FliesWell s g job
    fly None one = one
    fly (Some job) one = from job.pieces job.source one
