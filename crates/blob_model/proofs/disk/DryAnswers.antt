-- Own answers that write no page file keep the bytes charged to the disk within the limit.
use Rattle.std.proofs.Common.{◌≡◌, ℕ, zero, suc, ◌≤◌, ◌==◌, Bool, true, false, List, [], ◌∷◌, ◌++◌, refl, ap, subst, sym, inl, inr, arith, Option, Some, None}
use Rattle.std.specs.Prelude.{if◌then◌else◌}
use Rattle.std.specs.List.{AllByRecursion}
use Rattle.blob_words.specs.declared.number.ReaderId.{ReaderId}
use Rattle.blob_words.specs.declared.status.Status.{Status}
use Rattle.blob_words.specs.declared.status.Status.TheVariants as statuses
use Rattle.blob_words.specs.declared.tally.Tally.{Tally}
use Rattle.session_script.specs.declared.event.Event.{Event}
use Rattle.session_script.specs.declared.event.Event.TheVariants as events
use Rattle.answer_text.specs.declared.answer.Answer.{Answer}
use Rattle.answer_text.specs.declared.answer.Answer.TheVariants as answers
use Rattle.answer_text.specs.declared.refusal.Refusal.{Refusal}
use Rattle.blob_model.specs.Session.{Session, page_limit}
use Rattle.blob_model.specs.History.{History, heard, refused, said, heard_first, said_all, after}
use Rattle.blob_model.specs.Builds.{Cell, sent, filed, lent}
use Rattle.blob_model.specs.Standing.{ended, was_granted}
use Rattle.blob_model.specs.Transport.{Arrival, arrivals, arrivals_after, has_come}
use Rattle.blob_model.specs.Entries.{owns_entry}
use Rattle.blob_model.specs.Readers.{OpenReader, reader_at}
use Rattle.blob_model.specs.Pieces.{Piece, pieces, piece_with}
use Rattle.blob_model.specs.Pages.{Page, Place, in_page, in_memory, reserved, place, pages, pages_after, next_page, next_page_after}
use Rattle.blob_model.specs.Jobs.{Job, in_flight, in_flight_after, without_job}
use Rattle.blob_model.specs.Tally.{disk}
use Rattle.blob_model.specs.Chunk.{left, chunk, file_of, first_failing, before_failing}
use Rattle.blob_model.specs.Refusals.{refusal}
use Rattle.blob_model.specs.Choice.{IsOneOf}
use Rattle.blob_model.specs.Own.{accepted, failing, page_fault, sent_fault, cell_fault, read_faults, IsRead, IsNext, IsStepBy, IsStep, IsAccepted}
use Rattle.blob_model.specs.Laws.{is_build}
use Rattle.blob_model.proofs.Lists.{PartOf, any_append_first, false_true, part_apart, part_nil}
use Rattle.blob_model.proofs.changes.Notions.{change_laws}
use Rattle.blob_model.proofs.kept.Kept.{still_granted}
use Rattle.blob_model.proofs.settled.Refused.{tally_over}
use Rattle.blob_model.proofs.live.Roots.{HoldersSpawned}
use Rattle.blob_model.proofs.memory.PlainAnswers.{is_plain, plain_said, plain_heard}
use Rattle.blob_model.proofs.disk.Stock.{flying_of, flying, Follows, known_follows, stocked_less, disk_shrinks}
use Rattle.blob_model.proofs.disk.Settling.{Fits, part_same, follows_all}

-- ---- dry answers: plain ones that write no page file and start no job

abbrev pub is_dry : Answer → Bool
is_dry (answers.Stored file piece) = false
is_dry (answers.Paged job file list) = false
is_dry (answers.Moved job file list) = false
is_dry (answers.Job job list) = false
is_dry (answers.Compacting job file list) = false
is_dry answer = is_plain answer

abbrev pub AllDry : List Answer → Type 0
AllDry own = AllByRecursion (λ (answer : Answer). is_dry answer ≡ true) own

abbrev EachDry : List (List Answer) → Type 0
EachDry lists = AllByRecursion AllDry lists

dry_one : (own : List Answer) (lists : List (List Answer)) → EachDry lists → IsOneOf own lists → AllDry own
dry_one own [] all one = absurd one
dry_one own (list ∷ lists) all (inl same) = subst AllDry (sym same) all.0
dry_one own (list ∷ lists) all (inr later) = dry_one own lists all.1 later

dry_append : (xs ys : List (List Answer)) → EachDry xs → EachDry ys → EachDry (xs ++ ys)
dry_append [] ys p q = q
dry_append (x ∷ xs) ys p q = (p.0, dry_append xs ys p.1 q)

place_dry : (reader : ReaderId) (at : Place) → EachDry (page_fault reader at)
place_dry reader (in_page number) = ((refl, tt), tt)
place_dry reader in_memory = tt
place_dry reader reserved = tt

piece_dry : (s : Session) (h : History) (reader : ReaderId) (piece : Option Piece) → EachDry (sent_fault s h reader piece)
piece_dry s h reader None = tt
piece_dry s h reader (Some piece) = place_dry reader (place (page_limit s) h piece)

cell_dry : (s : Session) (h : History) (reader : ReaderId) (cell : Cell) → EachDry (cell_fault s h reader cell)
cell_dry s h reader (sent blob index) = piece_dry s h reader (piece_with (pieces (page_limit s) h) (sent blob index))
cell_dry s h reader (filed name stamp index) = tt
cell_dry s h reader (lent slot index) = ((refl, tt), tt)

read_dry : (s : Session) (h : History) (reader : ReaderId) (cells : List Cell) → EachDry (read_faults s h reader cells)
read_dry s h reader [] = tt
read_dry s h reader (cell ∷ cells) = dry_append (cell_fault s h reader cell) (read_faults s h reader cells) (cell_dry s h reader cell)
    (read_dry s h reader cells)

chunk_dry : (s : Session) (h : History) (reader : ReaderId) (cells : List Cell) (first : Option Cell) (own : List Answer) → IsRead s h reader cells first own
    → AllDry own
chunk_dry s h reader cells None own (inl given) = subst AllDry (sym given.1) (refl, tt)
chunk_dry s h reader cells None own (inr fault) = dry_one own (read_faults s h reader cells) (read_dry s h reader cells) fault
chunk_dry s h reader cells (Some cell) own one =
    dry_one own ((answers.FileChanged reader (file_of cell) ∷ []) ∷ read_faults s h reader (before_failing h cells))
    ((refl, tt), read_dry s h reader (before_failing h cells)) one

next_dry : (s : Session) (h : History) (reader : ReaderId) (open_reader : OpenReader) (more : ℕ) (own : List Answer) → IsNext s h reader open_reader more own
    → AllDry own
next_dry s h reader open_reader zero own e = subst AllDry (sym e) (refl, tt)
next_dry s h reader open_reader (suc more) own one = chunk_dry s h reader (chunk s.limits h open_reader) (first_failing h (chunk s.limits h open_reader)) own
    one

step_dry : (s : Session) (h : History) (reader : ReaderId) (open_reader : OpenReader) (status : Option Status) (own : List Answer)
    → IsStepBy s h reader open_reader status own → AllDry own
step_dry s h reader open_reader None own e = subst AllDry (sym e) (refl, tt)
step_dry s h reader open_reader (Some statuses.Done) own one = next_dry s h reader open_reader (left open_reader) own one
step_dry s h reader open_reader (Some status) own e = subst AllDry (sym e) (refl, tt)

found_dry : (s : Session) (h : History) (reader : ReaderId) (found : Option OpenReader) (own : List Answer) → IsStep s h reader found own → AllDry own
found_dry s h reader None own one = absurd one
found_dry s h reader (Some open_reader) own one = step_dry s h reader open_reader (ended h open_reader.blob) own one

revoke_dry : (b : Bool) → is_dry (if b then answers.Revoked else answers.Nothing) ≡ true
revoke_dry true = refl
revoke_dry false = refl

-- whether the line may write a page file
abbrev pub is_paper : Event → Bool
is_paper (events.Segment renderer b segment bytes) = true
is_paper (events.Disk job) = true
is_paper event = false

pub line_dry : (s : Session) (h : History) (event : Event) (own : List Answer) → is_build event ≡ false → is_paper event ≡ false → IsAccepted s h event own
    → AllDry own
line_dry s h (events.Build renderer name kind parts) own other paper one = absurd (false_true (sym other))
line_dry s h (events.Slice renderer name source from to kind) own other paper one = absurd (false_true (sym other))
line_dry s h (events.Step reader) own other paper one = found_dry s h reader (reader_at (page_limit s) h reader.0) own one
line_dry s h (events.Segment renderer b segment bytes) own other paper one = absurd (false_true (sym paper))
line_dry s h (events.Disk job) own other paper one = absurd (false_true (sym paper))
line_dry s h (events.Revoke renderer text) own other paper one = dry_one own (accepted s h (events.Revoke renderer text) ∷ [])
    ((revoke_dry (owns_entry h renderer.0 text), tt), tt) one
line_dry s h event own other paper one = dry_one own (accepted s h event ∷ failing s h event) ((refl, tt), tt) one

-- ---- dry answers keep the limit

dry_is_plain : (answer : Answer) → is_dry answer ≡ true → is_plain answer ≡ true
dry_is_plain (answers.Stored file piece) e = absurd (false_true e)
dry_is_plain (answers.Paged job file list) e = absurd (false_true e)
dry_is_plain (answers.Moved job file list) e = absurd (false_true e)
dry_is_plain (answers.Job job list) e = absurd (false_true e)
dry_is_plain (answers.Compacting job file list) e = absurd (false_true e)
dry_is_plain answer e = e

dry_pages : (answer : Answer) (list : List Page) → is_dry answer ≡ true → pages_after answer list ≡ list
dry_pages (answers.Stored file piece) list e = absurd (false_true e)
dry_pages (answers.Paged job file more) list e = absurd (false_true e)
dry_pages (answers.Moved job file more) list e = absurd (false_true e)
dry_pages answer list e = refl

pub next_more : (answer : Answer) (n : ℕ) → n ≤ next_page_after answer n
next_more (answers.Stored file piece) n = omega arith
next_more (answers.StoreFailed file) n = omega arith
next_more (answers.Paged job file list) n = omega arith
next_more (answers.PageFailed job file) n = omega arith
next_more (answers.Moved job file list) n = omega arith
next_more (answers.MoveFailed job file) n = omega arith
next_more answer n = omega arith

without_less : (number : ℕ) (job : Option Job) → PartOf (flying_of (without_job number job)) (flying_of job)
without_less number None = part_same []
without_less number (Some job) = go (job.number == number)
  where
    go : (b : Bool) → PartOf (flying_of (if b then None else Some job)) job.pieces
    go true = part_nil job.pieces
    go false = part_same job.pieces

dry_flying : (answer : Answer) (job : Option Job) → is_dry answer ≡ true → PartOf (flying_of (in_flight_after answer job)) (flying_of job)
dry_flying (answers.Job number list) job e = absurd (false_true e)
dry_flying (answers.Compacting number file list) job e = absurd (false_true e)
dry_flying (answers.Paged number file list) job e = absurd (false_true e)
dry_flying (answers.Moved number file list) job e = absurd (false_true e)
dry_flying (answers.Empty number) job e = without_less number.0 job
dry_flying (answers.PageFailed number file) job e = without_less number.0 job
dry_flying (answers.MoveFailed number file) job e = without_less number.0 job
dry_flying (answers.MoveUnread number file) job e = without_less number.0 job
dry_flying (answers.LostJob number) job e = without_less number.0 job
dry_flying answer job e = part_same (flying_of job)

pub more_came : (event : Event) (name k : ℕ) (before : List Arrival) → has_come before k ≡ true → has_come (arrivals_after event name before) k ≡ true
more_came (events.Segment renderer b segment bytes) name k before e = go (b == name)
  where
    go : (c : Bool) → has_come (if c then before ++ record { segment = segment; bytes = bytes } ∷ [] else before) k ≡ true
    go true = any_append_first (λ (arrival : Arrival). arrival.segment == k) before (record { segment = segment; bytes = bytes } ∷ []) e
    go false = e
more_came event name k before e = e

pub follows_heard : (s : Session) (h : History) (event : Event) (answer : Answer) → is_build event ≡ false → Follows s h (heard h event answer)
follows_heard s h event answer other = record {
  blobs = (change_laws.blobs (page_limit s)).by_line h event answer other;
  granted = λ name e. still_granted answer name (was_granted h name) e;
  came = λ name k e. more_came event name k (arrivals h name) e;
}

dry_said : (s : Session) (h : History) (answer : Answer) → is_dry answer ≡ true → Fits s h → Fits s (said h answer)
dry_said s h answer dry fits =
    let part = dry_flying answer (in_flight h) dry in
    let less = disk_shrinks (page_limit s) h (said h answer) (plain_said (page_limit s) h answer (dry_is_plain answer dry)) (dry_pages answer (pages h) dry)
    part in
    let before = fits.1 in (
      stocked_less s h (said h answer) (follows_all s h (answer ∷ [])) (dry_pages answer (pages h) dry) (next_more answer (next_page h)) part
          (part_apart (flying (said h answer)) (flying h) part fits.0.job_apart) fits.0,
      omega (arith, less, before),
    )

pub dry_heard : (s : Session) (h : History) (event : Event) (answer : Answer) → HoldersSpawned h → refusal s h event ≡ None → is_build event ≡ false
    → is_dry answer ≡ true → Fits s h → Fits s (heard h event answer)
dry_heard s h event answer holders accepted other dry fits =
    let part = dry_flying answer (in_flight h) dry in
    let less = disk_shrinks (page_limit s) h (heard h event answer) (plain_heard s h event answer holders accepted other (dry_is_plain answer dry))
    (dry_pages answer (pages h) dry) part in
    let before = fits.1 in (
      stocked_less s h (heard h event answer) (follows_heard s h event answer other) (dry_pages answer (pages h) dry) (next_more answer (next_page h)) part
          (part_apart (flying (heard h event answer)) (flying h) part fits.0.job_apart) fits.0,
      omega (arith, less, before),
    )

-- a refused line changes nothing
pub refused_fits : (s : Session) (h : History) (event : Event) (why : Refusal) → Fits s h → Fits s (refused h event why)
refused_fits s h event why fits =
    let same : disk (page_limit s) (refused h event why) ≡ disk (page_limit s) h = ap (λ (t : Tally). t.disk) (tally_over s h event why) in
    let before = fits.1 in (
      record {
        low = fits.0.low;
        apart = fits.0.apart;
        job_apart = fits.0.job_apart;
        known = λ n e. known_follows s h (refused h event why) n (record { blobs = refl; granted = λ name f. f; came = λ name k f. f }) (fits.0.known n e);
      },
      omega (arith, same, before),
    )

dry_first : (s : Session) (h : History) (event : Event) (answer : Answer) → HoldersSpawned h → refusal s h event ≡ None → is_build event ≡ false → is_dry answer
    ≡ true → Fits s h → Fits s (heard_first h event answer)
dry_first s h event (answers.Refused why) holders accepted other dry fits = refused_fits s h event why fits
dry_first s h event answer holders accepted other dry fits = dry_heard s h event answer holders accepted other dry fits

dry_all : (s : Session) (h : History) (list : List Answer) → AllDry list → Fits s h → Fits s (said_all h list)
dry_all s h [] all fits = fits
dry_all s h (answer ∷ list) all fits = dry_all s (said h answer) list all.1 (dry_said s h answer all.0 fits)

pub dry_line : (s : Session) (h : History) (event : Event) (own : List Answer) → HoldersSpawned h → refusal s h event ≡ None → is_build event ≡ false
    → AllDry own → Fits s h → Fits s (after h event own)
dry_line s h event [] holders accepted other all fits = fits
dry_line s h event (answer ∷ more) holders accepted other all fits = dry_all s (heard_first h event answer) more all.1
    (dry_first s h event answer holders accepted other all.0 fits)
