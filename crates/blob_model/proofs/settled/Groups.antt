-- After each group of a legal transcript nothing is owed.
use Rattle.std.proofs.Common.{◌≡◌, ℕ, zero, suc, List, [], ◌∷◌, ◌++◌, refl, ap, subst, sym, ◌∙◌, inl, inr, Option, Some, None, append-nil}
use Rattle.blob_words.specs.declared.number.ReaderId.{ReaderId}
use Rattle.blob_words.specs.declared.number.JobNo.{JobNo}
use Rattle.blob_words.specs.declared.plan.Plan.{Plan}
use Rattle.blob_words.specs.declared.plan.Plan.TheVariants as plans
use Rattle.blob_words.specs.declared.status.Status.{Status}
use Rattle.blob_words.specs.declared.status.Status.TheVariants as statuses
use Rattle.session_script.specs.declared.event.Event.{Event}
use Rattle.session_script.specs.declared.event.Event.TheVariants as events
use Rattle.answer_text.specs.declared.answer.Answer.{Answer}
use Rattle.answer_text.specs.declared.answer.Answer.TheVariants as answers
use Rattle.answer_text.specs.declared.refusal.Refusal.{Refusal}
use Rattle.answer_text.specs.declared.group.Group.{Group}
use Rattle.blob_model.specs.Session.{Session, page_limit}
use Rattle.blob_model.specs.History.{History, start, heard_first, said_all, after, history_from}
use Rattle.blob_model.specs.Builds.{Cell, sent, filed, lent}
use Rattle.blob_model.specs.Standing.{ended}
use Rattle.blob_model.specs.Readers.{OpenReader, reader_at}
use Rattle.blob_model.specs.Pieces.{Piece, pieces, piece_with}
use Rattle.blob_model.specs.Pages.{Place, in_page, in_memory, reserved, place}
use Rattle.blob_model.specs.Chunk.{left, chunk, file_of, first_failing, before_failing}
use Rattle.blob_model.specs.Jobs.{in_flight}
use Rattle.blob_model.specs.Tally.{job_left}
use Rattle.blob_model.specs.Refusals.{refusal}
use Rattle.blob_model.specs.Choice.{IsOneOf}
use Rattle.blob_model.specs.Settle.{settle, IsSettled}
use Rattle.blob_model.specs.Own.{accepted, failing, unstored_answers, plan_in, job_failed, source_of, page_fault, sent_fault, cell_fault, read_faults, IsRead, IsNext, IsStepBy, IsStep, IsAccepted, IsOwnBy, IsOwn}
use Rattle.blob_model.specs.Legal.{left_files, IsLegalGroup, IsLegalFrom}
use Rattle.blob_model.proofs.live.Agreement.{said_append}
use Rattle.blob_model.proofs.kept.Kept.{Kept}
use Rattle.blob_model.proofs.kept.Groups.{kept_own, kept_start}
use Rattle.blob_model.proofs.settled.Settling.{settled_once}

-- ---- each line has an answer of its own

abbrev pub HasFirst : List Answer → Type 0
HasFirst own = (first : Answer) × (more : List Answer) × (own ≡ first ∷ more)

abbrev AllFirst : List (List Answer) → Type 0
AllFirst [] = Unit {0}
AllFirst (list ∷ lists) = HasFirst list × AllFirst lists

first_of_one : (own : List Answer) (lists : List (List Answer)) → AllFirst lists → IsOneOf own lists → HasFirst own
first_of_one own [] all one = absurd one
first_of_one own (list ∷ lists) all (inl same) = subst HasFirst (sym same) all.0
first_of_one own (list ∷ lists) all (inr later) = first_of_one own lists all.1 later

both_first : (xs ys : List (List Answer)) → AllFirst xs → AllFirst ys → AllFirst (xs ++ ys)
both_first [] ys p q = q
both_first (x ∷ xs) ys p q = (p.0, both_first xs ys p.1 q)

unstored_first : (s : Session) (h : History) (segment : ℕ) (plan : Option Plan) → AllFirst (unstored_answers s h segment plan)
unstored_first s h segment (Some (plans.File n)) = ((_, _, refl), tt)
unstored_first s h segment plan = tt

job_first : (h : History) (job : JobNo) (source : Option ℕ) (list : List ℕ) → AllFirst (job_failed h job source list)
job_first h job source [] = tt
job_first h job None (number ∷ numbers) = ((_, _, refl), tt)
job_first h job (Some file) (number ∷ numbers) = ((_, _, refl), ((_, _, refl), tt))

failing_first : (s : Session) (h : History) (event : Event) → AllFirst (failing s h event)
failing_first s h (events.Segment renderer b segment bytes) = unstored_first s h segment (plan_in s h b)
failing_first s h (events.Disk job) = job_first h job (source_of (in_flight h)) (job_left (page_limit s) h)
failing_first s h event = tt

accepted_first : (s : Session) (h : History) (event : Event) → HasFirst (accepted s h event)
accepted_first s h (events.Build renderer name kind parts) = (_, _, refl)
accepted_first s h (events.Slice renderer name source from to kind) = (_, _, refl)
accepted_first s h (events.Segment renderer b segment bytes) = (_, _, refl)
accepted_first s h (events.Stat renderer b) = (_, _, refl)
accepted_first s h (events.Revoke renderer text) = (_, _, refl)
accepted_first s h (events.Read renderer reader b off len) = (_, _, refl)
accepted_first s h (events.Fetch renderer reader text off len) = (_, _, refl)
accepted_first s h (events.Disk job) = (_, _, refl)
accepted_first s h (events.Lost job) = (_, _, refl)
accepted_first s h events.Count = (_, _, refl)
accepted_first s h event = (_, _, refl)

place_first : (reader : ReaderId) (at : Place) → AllFirst (page_fault reader at)
place_first reader (in_page number) = ((_, _, refl), tt)
place_first reader in_memory = tt
place_first reader reserved = tt

piece_first : (s : Session) (h : History) (reader : ReaderId) (piece : Option Piece) → AllFirst (sent_fault s h reader piece)
piece_first s h reader None = tt
piece_first s h reader (Some piece) = place_first reader (place (page_limit s) h piece)

cell_first : (s : Session) (h : History) (reader : ReaderId) (cell : Cell) → AllFirst (cell_fault s h reader cell)
cell_first s h reader (sent blob index) = piece_first s h reader (piece_with (pieces (page_limit s) h) (sent blob index))
cell_first s h reader (filed name stamp index) = tt
cell_first s h reader (lent slot index) = ((_, _, refl), tt)

read_first : (s : Session) (h : History) (reader : ReaderId) (cells : List Cell) → AllFirst (read_faults s h reader cells)
read_first s h reader [] = tt
read_first s h reader (cell ∷ cells) = both_first (cell_fault s h reader cell) (read_faults s h reader cells) (cell_first s h reader cell)
    (read_first s h reader cells)

is_read_first : (s : Session) (h : History) (reader : ReaderId) (cells : List Cell) (first : Option Cell) (own : List Answer) → IsRead s h reader cells first
    own → HasFirst own
is_read_first s h reader cells None own (inl given) = (_, _, given.1)
is_read_first s h reader cells None own (inr fault) = first_of_one own (read_faults s h reader cells) (read_first s h reader cells) fault
is_read_first s h reader cells (Some cell) own one =
    first_of_one own ((answers.FileChanged reader (file_of cell) ∷ []) ∷ read_faults s h reader (before_failing h cells))
    ((_, _, refl), read_first s h reader (before_failing h cells)) one

next_first : (s : Session) (h : History) (reader : ReaderId) (open_reader : OpenReader) (more : ℕ) (own : List Answer) → IsNext s h reader open_reader more own
    → HasFirst own
next_first s h reader open_reader zero own e = (_, _, e)
next_first s h reader open_reader (suc more) own one = is_read_first s h reader (chunk s.limits h open_reader) (first_failing h (chunk s.limits h open_reader))
    own one

step_first : (s : Session) (h : History) (reader : ReaderId) (open_reader : OpenReader) (status : Option Status) (own : List Answer)
    → IsStepBy s h reader open_reader status own → HasFirst own
step_first s h reader open_reader None own e = (_, _, e)
step_first s h reader open_reader (Some statuses.Done) own one = next_first s h reader open_reader (left open_reader) own one
step_first s h reader open_reader (Some status) own e = (_, _, e)

found_first : (s : Session) (h : History) (reader : ReaderId) (found : Option OpenReader) (own : List Answer) → IsStep s h reader found own → HasFirst own
found_first s h reader None own one = absurd one
found_first s h reader (Some open_reader) own one = step_first s h reader open_reader (ended h open_reader.blob) own one

line_first : (s : Session) (h : History) (event : Event) (own : List Answer) → IsAccepted s h event own → HasFirst own
line_first s h (events.Step reader) own one = found_first s h reader (reader_at (page_limit s) h reader.0) own one
line_first s h event own one = first_of_one own (accepted s h event ∷ failing s h event) (accepted_first s h event, failing_first s h event) one

own_by_first : (s : Session) (h : History) (event : Event) (why : Option Refusal) (own : List Answer) → IsOwnBy s h event why own → HasFirst own
own_by_first s h event (Some why) own e = (_, _, e)
own_by_first s h event None own one = line_first s h event own one

pub own_first : (s : Session) (h : History) (event : Event) (own : List Answer) → IsOwn s h event own → HasFirst own
own_first s h event own one = own_by_first s h event (refusal s h event) own one

-- ---- a group is its own answers and what is settled

pub after_own : (h : History) (event : Event) (own rest : List Answer) → HasFirst own → after h event (own ++ rest) ≡ said_all (after h event own) rest
after_own h event own rest first =
    subst (λ (list : List Answer). after h event (list ++ rest) ≡ said_all (after h event list) rest) (sym first.2)
    (said_append (heard_first h event first.0) first.1 rest)

pub settled_group : (s : Session) (h : History) (group : Group) → Kept s h → IsLegalGroup s h group → IsSettled s (after h group.event group.answers)
settled_group s h group kept legal =
    let own = legal.own in
    let owed = settle s (left_files group.answers) (after h group.event own) in
    let kept_here : Kept s (after h group.event own) = kept_own s h group.event own own [] kept legal.is_own (sym (append-nil own)) in
    let path : after h group.event group.answers ≡ said_all (after h group.event own) owed =
    ap (after h group.event) legal.settles ∙ after_own h group.event own owed (own_first s h group.event own legal.is_own) in
    subst (λ (g : History). IsSettled s g) (sym path) (settled_once s (left_files group.answers) (after h group.event own) kept_here)

settled_from : (s : Session) (h : History) (groups : List Group) → Kept s h → IsSettled s h → IsLegalFrom s h groups → IsSettled s (history_from h groups)
settled_from s h [] kept settled legal = settled
settled_from s h (group ∷ groups) kept settled legal =
    settled_from s (after h group.event group.answers) groups
    (kept_own s h group.event group.answers legal.0.own (settle s (left_files group.answers) (after h group.event legal.0.own)) kept legal.0.is_own
    legal.0.settles)
    (settled_group s h group kept legal.0) legal.1

pub settled_after : (s : Session) (groups : List Group) → IsLegalFrom s start groups → IsSettled s (history_from start groups)
settled_after s groups legal = settled_from s start groups (kept_start s) refl legal
