-- Each group of a legal transcript whose events have a spelling has a text.
use Rattle.std.proofs.Common.{ℕ, ◌+◌, ◌≤◌, List, [], ◌∷◌, map, length, subst, sym, arith}
use Rattle.std.specs.Prelude.{nat_lt}
use Rattle.std.specs.List.{AllByRecursion}
use Rattle.session_script.specs.Line.{HasSpelling}
use Rattle.session_script.specs.declared.event.Event.{Event}
use Rattle.answer_text.specs.Text.{HasText, TallyHasText, GroupHasText}
use Rattle.answer_text.specs.declared.answer.Answer.{Answer}
use Rattle.answer_text.specs.declared.answer.Answer.TheVariants as answers
use Rattle.answer_text.specs.declared.group.Group.{Group}
use Rattle.blob_model.specs.Session.{Session, page_limit}
use Rattle.blob_model.specs.History.{History, start, said, heard_first, said_all, after}
use Rattle.blob_model.specs.Builds.{builds}
use Rattle.blob_model.specs.Pieces.{pieces}
use Rattle.blob_model.specs.Reached.{reached}
use Rattle.blob_model.specs.Pages.{Page, pages, next_page}
use Rattle.blob_model.specs.Tally.{in_page_of, memory, disk, tally}
use Rattle.blob_model.specs.Legal.{IsLegalFrom}
use Rattle.blob_model.specs.PageLaws.{RiseWithin}
use Rattle.blob_model.specs.TextLaws.{GivesBytes, IsSpelled}
use Rattle.blob_model.proofs.Lists.{filter_short}
use Rattle.blob_model.proofs.builds.Growth.{grows}
use Rattle.blob_model.proofs.builds.Cells.{Fit, fit_grows}
use Rattle.blob_model.proofs.memory.Bounded.{Bounded, bounded_start, group_bounded}
use Rattle.blob_model.proofs.disk.Settling.{Fits}
use Rattle.blob_model.proofs.disk.Jobs.{is_reached}
use Rattle.blob_model.proofs.disk.Groups.{group_disk, fits_start}
use Rattle.blob_model.proofs.legal.PageNumbers.{pages_rise}
use Rattle.blob_model.proofs.legal.Steps.{group_caused}
use Rattle.blob_model.proofs.legal.Totals.{totals_hold}
use Rattle.blob_model.proofs.legal.Causes.{IsCaused}
use Rattle.blob_model.proofs.counts.Numbers.{pages_low}
use Rattle.blob_model.proofs.texts.Ranges.{IsSpelt}
use Rattle.blob_model.proofs.texts.Refusals.{refusal_text}
use Rattle.blob_model.proofs.texts.Answers.{heard_text, said_text}

-- ---- the answers of a history

abbrev AllGive : List Answer → Type 0
AllGive list = AllByRecursion GivesBytes list

abbrev AllHaveText : List Answer → Type 0
AllHaveText list = AllByRecursion HasText list

said_texts : (s : Session) (h : History) (list : List Answer) → IsCaused s (said_all h list) → IsSpelt h → AllHaveText list × IsCaused s h
said_texts s h [] caused spelt = (tt, caused)
said_texts s h (answer ∷ list) caused spelt =
    let later = said_texts s (said h answer) list caused spelt in
    ((said_text s h answer later.1.0 later.1.1 spelt, later.0), later.1.1)

spelt_first : (h : History) (event : Event) (answer : Answer) → HasSpelling event → IsSpelt h → IsSpelt (heard_first h event answer)
spelt_first h event (answers.Refused why) line spelt = (line, spelt)
spelt_first h event answer line spelt = (line, spelt)

first_text : (s : Session) (h : History) (event : Event) (answer : Answer) → IsCaused s (heard_first h event answer) → IsSpelt h → Fit (builds (page_limit s) h)
    → HasSpelling event → GivesBytes answer → HasText answer
first_text s h event (answers.Refused why) caused spelt fit line gives = refusal_text s h event why caused.2 spelt line caused.1
first_text s h event answer caused spelt fit line gives = heard_text s h event answer caused.0 caused.1 spelt fit line gives

answers_text : (s : Session) (h : History) (event : Event) (list : List Answer) → IsCaused s (after h event list) → IsSpelt h → Fit (builds (page_limit s) h)
    → HasSpelling event → AllGive list → AllHaveText list
answers_text s h event [] caused spelt fit line gives = tt
answers_text s h event (answer ∷ more) caused spelt fit line gives =
    let later = said_texts s (heard_first h event answer) more caused (spelt_first h event answer line spelt) in
    (first_text s h event answer later.1 spelt fit line gives.0, later.0)

spelt_all : (h : History) (list : List Answer) → IsSpelt h → IsSpelt (said_all h list)
spelt_all h [] spelt = spelt
spelt_all h (answer ∷ list) spelt = spelt_all (said h answer) list spelt

spelt_after : (h : History) (event : Event) (list : List Answer) → HasSpelling event → IsSpelt h → IsSpelt (after h event list)
spelt_after h event [] line spelt = spelt
spelt_after h event (answer ∷ more) line spelt = spelt_all (heard_first h event answer) more (spelt_first h event answer line spelt)

-- ---- the tally

rise_count : (from below : ℕ) (list : List Page) → from ≤ below → RiseWithin from below (map (λ (file : Page). file.number) list) → from + length list ≤ below
rise_count from below [] low rise = omega (arith, low)
rise_count from below (file ∷ list) low rise =
    let above = rise.0 in
    let under = rise.1 in
    let rest = rise_count (file.number + 1) below list (omega (arith, under)) rise.2 in
    omega (arith, above, rest)

tally_text : (s : Session) (h : History) → IsCaused s h → memory (page_limit s) h ≤ s.limits.memory → disk (page_limit s) h ≤ s.limits.disk
    → TallyHasText (tally (page_limit s) h)
tally_text s h caused memory_low disk_low =
    let totals = totals_hold s h caused in
    let most = totals.all_pieces in
    let few = filter_short (is_reached s h) (pieces (page_limit s) h) in
    let memory_bound = s.limits.memory_bound in
    let disk_bound = s.limits.disk_bound in
    let held = filter_short (λ (page : Page). nat_lt 0 (length (in_page_of h (builds (page_limit s) h) page (reached (page_limit s) h)))) (pages h) in
    let written = rise_count 0 (next_page h) (pages h) (omega arith) (pages_rise s h caused) in
    let numbers = pages_low s h caused in
    (omega (arith, few, most), omega (arith, memory_low, memory_bound), omega (arith, held, written, numbers), omega (arith, disk_low, disk_bound))

-- ---- all groups

record Here (s : Session) (h : History) : Type 0 where
  caused : IsCaused s h
  fit : Fit (builds (page_limit s) h)
  bounded : Bounded s h
  fits : Fits s h
  spelt : IsSpelt h

groups_text : (s : Session) (h : History) (groups : List Group) → Here s h → IsLegalFrom s h groups → AllByRecursion IsSpelled groups
    → AllByRecursion GroupHasText groups
groups_text s h [] here legal spelled = tt
groups_text s h (group ∷ groups) here legal spelled =
    let next : Here s (after h group.event group.answers) = record {
      caused = group_caused s h group here.bounded.kept here.caused legal.0;
      fit = fit_grows s h (builds (page_limit s) (after h group.event group.answers)) (grows s h group legal.0) here.fit;
      bounded = group_bounded s h group here.bounded legal.0;
      fits = group_disk s h group here.bounded legal.0 here.fits;
      spelt = spelt_after h group.event group.answers spelled.0.event here.spelt;
    } in (
      (
        spelled.0.event,
        answers_text s h group.event group.answers next.caused here.spelt here.fit spelled.0.event spelled.0.gives,
        subst TallyHasText (sym legal.0.counts) (tally_text s (after h group.event group.answers) next.caused next.bounded.fits next.fits.1),
      ),
      groups_text s (after h group.event group.answers) groups next legal.1 spelled.1,
    )

pub groups_have_text : (s : Session) (groups : List Group) → IsLegalFrom s start groups → AllByRecursion IsSpelled groups → AllByRecursion GroupHasText groups
groups_have_text s groups legal spelled = groups_text s start groups
    (record { caused = tt; fit = tt; bounded = bounded_start s; fits = fits_start s; spelt = tt }) legal spelled
