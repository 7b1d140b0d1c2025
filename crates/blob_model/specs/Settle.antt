-- What a store owes after a line, in seven lists. Own.
use Rattle.std.specs.Prelude.{◌≡◌, ℕ, ◌+◌, ◌-◌, ◌==◌, ◌&&◌, ◌||◌, Bool, false, not, List, [], ◌∷◌, ◌++◌, length, map, filter, reverse, find, nat_lt, nat_le, Option, is_none, if◌then◌else◌}
use Rattle.std.specs.Option.{option_to_list, option_map, option_map_or}
use Rattle.std.specs.List.{list_any}
use Rattle.blob_words.specs.declared.number.PieceNo.{PieceNo}
use Rattle.blob_words.specs.declared.number.PageNo.{PageNo}
use Rattle.blob_words.specs.declared.number.JobNo.{JobNo}
use Rattle.blob_words.specs.declared.status.Status.TheVariants as statuses
use Rattle.answer_text.specs.declared.answer.Answer.{Answer}
use Rattle.answer_text.specs.declared.answer.Answer.TheVariants as answers
use Rattle.blob_model.specs.Session.{Session, page_limit}
use Rattle.blob_model.specs.History.{History, said, said_all}
use Rattle.blob_model.specs.Renderers.{is_alive}
use Rattle.blob_model.specs.Parts.{own_bytes, sources}
use Rattle.blob_model.specs.Builds.{Build, builds}
use Rattle.blob_model.specs.Standing.{is_unfinished, is_broken, is_granted}
use Rattle.blob_model.specs.Transport.{has_all}
use Rattle.blob_model.specs.Live.{is_live}
use Rattle.blob_model.specs.Pieces.{Piece, pieces}
use Rattle.blob_model.specs.Reached.{reached}
use Rattle.blob_model.specs.Pages.{Page, pages, asked}
use Rattle.blob_model.specs.Jobs.{in_flight, next_job, paging, breaks_waiting, unstored}
use Rattle.blob_model.specs.Tally.{in_page_of, bytes_of, files, is_thin, memory, disk_of}
use Rattle.blob_model.specs.Waits.{is_waiting, waits, is_complete}
use Rattle.blob_model.specs.Victims.{chosen}
use Rattle.blob_model.specs.Choice.{first_that}

-- the numbers of pieces as an answer lists them
abbrev pub piece_list : List ℕ → List PieceNo
piece_list numbers = map (λ (number : ℕ). record { 0 = number }) numbers

abbrev pub page_no : ℕ → PageNo
page_no number = record { 0 = number }

abbrev pub job_no : ℕ → JobNo
job_no number = record { 0 = number }

-- 1 and 3: the unfinished blobs that aren't live are dropped, the greatest build number first
abbrev pub drops : Session → History → List Answer
drops s h =
    map (λ (build : Build). answers.Dropped build.name) (filter (λ (build : Build). is_unfinished h build.name && not (is_live (page_limit s) h build.name))
    (reverse (builds (page_limit s) h)))

-- whether the write of the blob failed in this line, or the line turned paging off while it waited
abbrev pub is_unwritten : Session → History → Build → Bool
is_unwritten s h build = option_map_or (λ (name : ℕ). name == build.name) (unstored h) false || (breaks_waiting s.version h && is_waiting h build)

-- whether the builder died before its bytes had all come or had their room
abbrev pub is_deserted : Session → History → Build → Bool
is_deserted s h build = not (is_alive h build.builder) && (not (has_all s.limits h build) || not (is_granted h build))

-- 2: the ways in which an unfinished blob ends
abbrev pub ending_tests : Session → History → Build → List (Bool × Answer)
ending_tests s h build =
    (is_unwritten s h build, answers.Broken build.name statuses.FileWriteFailed)
    ∷ (is_deserted s h build, answers.Broken build.name statuses.SourceDied)
    ∷ (list_any (is_broken h) (sources build.parts), answers.Broken build.name statuses.ReferencedBlobBroken)
    ∷ (is_complete s.limits h build, answers.Done build.name)
    ∷ []

-- the first of them that applies
abbrev pub ending : Session → History → Build → Option Answer
ending s h build = first_that (ending_tests s h build)

abbrev pub ending_answers : Session → History → Build → List Answer
ending_answers s h build = if is_unfinished h build.name then option_to_list (ending s h build) else []

-- each blob is looked at once, in rising build number, after the answers for those before it
abbrev pub endings_of : Session → History → List Build → List Answer
endings_of s h [] = []
endings_of s h (build ∷ more) = ending_answers s h build ++ endings_of s (said_all h (ending_answers s h build)) more

abbrev pub endings : Session → History → List Answer
endings s h = endings_of s h (builds (page_limit s) h)

-- 4: the page files that hold no reached piece are removed, in rising number; those of `unremoved` are left, since the disk failed
abbrev pub is_due : History → List Page → Page → Bool
is_due h held page = not (list_any (λ (each : Page). each.number == page.number) held) && not (list_any (λ (number : ℕ). number == page.number) (asked h))

abbrev pub removal : List ℕ → Page → Answer
removal unremoved page = if list_any (λ (number : ℕ). number == page.number) unremoved then answers.Left (page_no page.number)
    else answers.Removed (page_no page.number)

abbrev pub removals : Session → List ℕ → History → List Answer
removals s unremoved h = map (removal unremoved) (filter (is_due h (files (page_limit s) h)) (pages h))

-- 5: those that wait are granted in order, while the head fits in memory
abbrev pub grants_of : Session → History → List Build → List Answer
grants_of s h [] = []
grants_of s h (build ∷ more) =
    if nat_le (memory (page_limit s) h + own_bytes build.parts) s.limits.memory then answers.Granted build.name
    ∷ grants_of s (said h (answers.Granted build.name)) more else []

abbrev pub grants : Session → History → List Answer
grants s h = grants_of s h (waits (page_limit s) h)

-- whether a job may start: paging is on and no job is in flight
abbrev pub may_start : History → Bool
may_start h = paging h && is_none (in_flight h)

-- 6: where somebody still waits, a job starts to page pieces out
abbrev pub page_job_of : History → List ℕ → List Answer
page_job_of h [] = []
page_job_of h (number ∷ numbers) = answers.Job (job_no (next_job h)) (piece_list (number ∷ numbers)) ∷ []

abbrev pub page_jobs : Session → History → List Answer
page_jobs s h = if may_start h && nat_lt 0 (length (waits (page_limit s) h)) then page_job_of h (chosen s.limits h) else []

-- whether the page file is thin and the disk has room for its reached pieces once more, where the blobs, all pieces and the reached ones are these
abbrev pub can_move : Session → History → List Build → List Piece → List Piece → Page → Bool
can_move s h builds all list page = is_thin h builds all list page && nat_le (bytes_of (in_page_of h builds page list))
    (s.limits.disk - disk_of h builds all list)

-- the least page file of which this holds
abbrev pub movable : Session → History → Option Page
movable s h =
    find (can_move s h (builds (page_limit s) h) (pieces (page_limit s) h) (reached (page_limit s) h)) (files (page_limit s) h)

-- the reached pieces in a page file, by rising offset
abbrev pub kept_of : Page → List Piece → List ℕ
kept_of page list = filter (λ (number : ℕ). list_any (λ (piece : Piece). piece.number == number) list) page.pieces

abbrev pub kept : Session → History → Page → List ℕ
kept s h page = kept_of page (in_page_of h (builds (page_limit s) h) page (reached (page_limit s) h))

abbrev pub compaction : Session → History → Page → Answer
compaction s h page = answers.Compacting (job_no (next_job h)) (page_no page.number) (piece_list (kept s h page))

-- 7: a job starts to move the reached pieces out of a thin page file
abbrev pub compactions : Session → History → List Answer
compactions s h = if may_start h then option_to_list (option_map (compaction s h) (movable s h)) else []

-- the lists one after the other, each after the answers of those before it
abbrev pub settle_by : List (History → List Answer) → History → List Answer
settle_by [] h = []
settle_by (step ∷ steps) h = step h ++ settle_by steps (said_all h (step h))

-- all that is owed after a line's own answers, where the pages `unremoved` could not be removed
abbrev pub settle : Session → List ℕ → History → List Answer
settle s unremoved h = settle_by (drops s ∷ endings s ∷ drops s ∷ removals s unremoved ∷ grants s ∷ page_jobs s ∷ compactions s ∷ []) h

-- nothing is owed
abbrev pub IsSettled : Session → History → Type 0
IsSettled s h = settle s [] h ≡ []
