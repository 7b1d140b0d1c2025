-- Groups, read line by line.
use Rattle.std.proofs.Common.{◌≡◌, ℕ, ◌+◌, ◌-◌, List, [], ◌∷◌, ◌++◌, length, false, codes, Result, Ok, Err, inl, inr, refl, sym, ap, ◌∙◌, subst, arith}
use Rattle.std.specs.List.{AllByRecursion, flat_map}
use Rattle.std.proofs.lemmas.Bool.{both_ways}
use Rattle.std.proofs.lemmas.Grind.{flat_map-append}
use Rattle.std.proofs.lemmas.List.{append_assoc, append-nil, length-append}
use Rattle.blob_source.specs.Lines.{has_line_feed}
use Rattle.blob_words.specs.declared.tally.Tally.{Tally}
use Rattle.text_fields.specs.Fields.{joined}
use Rattle.session_script.specs.Line.{line_of, HasSpelling}
use Rattle.text_fields.specs.Reading.{split}
use Rattle.session_script.specs.declared.event.Event.{Event}
use Rattle.session_script.proofs.Lines.{line_of-feedless}
use Rattle.text_fields.proofs.Splits.{joined-split}
use Rattle.answer_text.specs.Fault.{IsAnswer, IsTally, Refuses}
use Rattle.answer_text.specs.Groups.{HasNoEvent, HasNoFurther, IsCut, IsPlace, HasNoGroup, ReadsGroup, ReadsEventLine, ReadsFurther, ReadsBehind, AreAnswers, IsCutBehind}
use Rattle.answer_text.specs.Text.{answer_text, tally_text, tally_fields, event_line, answer_line, tally_line, group_text, word_of, HasText, TallyHasText}
use Rattle.answer_text.specs.declared.answer.Answer.{Answer}
use Rattle.answer_text.specs.declared.group.Group.{Group}
use Rattle.answer_text.specs.declared.group_fault.GroupFault.{GroupFault}
use Rattle.answer_text.specs.declared.group_fault.GroupFault.TheVariants as group_faults
use Rattle.answer_text.specs.declared.text_fault.TextFault.{TextFault}
use Rattle.answer_text.specs.declared.text_fault.TextFault.TheVariants as faults
use Rattle.answer_text.proofs.Answers.{answer_feedless, tally_feedless, is_answer, is_tally, split-answer_text, split-tally_text}
use Rattle.answer_text.proofs.Feeds.{fed, line_apart}
use Rattle.answer_text.proofs.Words.{not_equals}

-- ---- lines and their line feeds

pub line_rest : (line rest : List ℕ) → (line ++ 10 ∷ []) ++ rest ≡ line ++ 10 ∷ rest
line_rest line rest = append_assoc line (10 ∷ []) rest

pub event_rest : (event : Event) (rest : List ℕ) → event_line event ++ rest ≡ (codes "> " ++ line_of event) ++ 10 ∷ rest
event_rest event rest = ap (λ (l : List ℕ). l ++ rest) (sym (append_assoc (codes "> ") (line_of event) (10 ∷ []))) ∙ line_rest (codes "> " ++ line_of event)
    rest

pub event_feedless : (event : Event) → HasSpelling event → has_line_feed (codes "> " ++ line_of event) ≡ false
event_feedless event fits = line_of-feedless event fits

-- ---- one line

pub tally_read : (line first : List ℕ) (own : List (List ℕ)) (tally : Tally) → split 32 line ≡ first ∷ own → first ≡ codes "=" → TallyHasText tally → own
    ≡ tally_fields tally
    → TallyHasText tally × (line ≡ tally_text tally)
tally_read line first own tally parted is_word fits is_own =
    let same : first ∷ own ≡ codes "=" ∷ tally_fields tally = cc (is_word, is_own) in
    (fits, sym (joined-split 32 line) ∙ ap (joined 32) (parted ∙ same))

-- a line that is no tally and no answer
pub further_refused : (line : List ℕ) (fault : TextFault) → (IsTally (split 32 line) → ⊥) → Refuses (λ text. IsAnswer (split 32 text)) line fault
    → ReadsFurther line (Err fault)
further_refused line faults.Form no_tally no_answer = (
  λ answer fits same. no_answer (subst (λ text. IsAnswer (split 32 text)) (sym same) (is_answer answer fits)),
  λ tally fits same. no_tally (subst (λ text. IsTally (split 32 text)) (sym same) (is_tally tally fits)),
)
further_refused line faults.Memory no_tally no_answer = tt

-- ---- places

unended_event : (text : List ℕ) → has_line_feed text ≡ false → HasNoEvent text
unended_event text none event rest fits same =
    both_ways _ none (ap has_line_feed (same ∙ event_rest event rest) ∙ fed (codes "> " ++ line_of event) rest)

pub unended_place : (text : List ℕ) → has_line_feed text ≡ false → IsPlace text 0
unended_place text none = inl (refl, unended_event text none)

pub wrong_event : (text line rest : List ℕ) → has_line_feed line ≡ false → text ≡ line ++ 10 ∷ rest → ReadsEventLine line (Err faults.Form) → IsPlace text 0
wrong_event text line rest plain parts wrong =
    inl (
      refl,
      λ event more fits same.
          wrong event fits (line_apart line (codes "> " ++ line_of event) rest more plain (event_feedless event fits)
          (sym parts ∙ same ∙ event_rest event more)).0,
    )

unended_further : (text : List ℕ) → has_line_feed text ≡ false → HasNoFurther text
unended_further text none = (
  λ answer rest fits same. both_ways _ none (ap has_line_feed (same ∙ line_rest (answer_text answer) rest) ∙ fed (answer_text answer) rest),
  λ tally rest fits same. both_ways _ none (ap has_line_feed (same ∙ line_rest (tally_text tally) rest) ∙ fed (tally_text tally) rest),
)

wrong_further : (text line rest : List ℕ) → has_line_feed line ≡ false → text ≡ line ++ 10 ∷ rest → ReadsFurther line (Err faults.Form) → HasNoFurther text
wrong_further text line rest plain parts wrong = (
  λ answer more fits same.
      wrong.0 answer fits (line_apart line (answer_text answer) rest more plain (answer_feedless answer fits)
      (sym parts ∙ same ∙ line_rest (answer_text answer) more)).0,
  λ tally more fits same.
      wrong.1 tally fits (line_apart line (tally_text tally) rest more plain (tally_feedless tally fits)
      (sym parts ∙ same ∙ line_rest (tally_text tally) more)).0,
)

cut_here : (old rest : List ℕ) (total place : ℕ) (all : List Answer) → AreAnswers old rest all → HasNoFurther rest → place ≡ total - length rest
    → IsCutBehind old total place
cut_here old rest total place all are none at = record {
  answers = all;
  rest = rest;
  are_answers = are;
  place_is = at;
  no_further = none;
}

pub unended_cut : (old rest : List ℕ) (total place : ℕ) (all : List Answer) → AreAnswers old rest all → has_line_feed rest ≡ false → place ≡ total - length rest
    → IsCutBehind old total place
unended_cut old rest total place all are none at = cut_here old rest total place all are (unended_further rest none) at

pub wrong_cut : (old rest line behind : List ℕ) (total place : ℕ) (all : List Answer) → AreAnswers old rest all → has_line_feed line ≡ false → rest ≡ line ++ 10
    ∷ behind
    → ReadsFurther line (Err faults.Form) → place ≡ total - length rest → IsCutBehind old total place
wrong_cut old rest line behind total place all are plain parts wrong at =
    cut_here old rest total place all are (wrong_further rest line behind plain parts wrong) at

-- ---- further lines

all_more : {X : Type 0} (P : X → Type 0) (xs : List X) (x : X) → AllByRecursion P xs → P x → AllByRecursion P (xs ++ x ∷ [])
all_more P [] x all one = (one, tt)
all_more P (y ∷ xs) x all one = (all.0, all_more P xs x all.1 one)

pub no_answers : (old : List ℕ) → AreAnswers old old []
no_answers old = record {
  have_text = tt;
  parts = refl;
}

pub more_answers : (old rest line behind : List ℕ) (all all' : List Answer) (answer : Answer) → AreAnswers old rest all → rest ≡ line ++ 10 ∷ behind
    → HasText answer × (line ≡ answer_text answer) → all' ≡ all ++ answer ∷ [] → AreAnswers old behind all'
more_answers old rest line behind all all' answer are parts is_answer more =
    let lines : flat_map answer_line all' ≡ flat_map answer_line all ++ answer_line answer =
    ap (flat_map answer_line) more ∙ flat_map-append answer_line all (answer ∷ []) ∙ ap (λ (l : List ℕ). flat_map answer_line all ++ l)
    (append-nil (answer_line answer)) in
    let rest_is : rest ≡ answer_line answer ++ behind = parts ∙ ap (λ (l : List ℕ). l ++ 10 ∷ behind) is_answer.1 ∙ sym (line_rest (answer_text answer) behind)
    in record {
      have_text = subst (AllByRecursion HasText) (sym more) (all_more HasText all answer are.have_text is_answer.0);
      parts =
          are.parts ∙ ap (λ (l : List ℕ). flat_map answer_line all ++ l) rest_is ∙ sym (append_assoc (flat_map answer_line all) (answer_line answer) behind)
          ∙ ap (λ (l : List ℕ). l ++ behind) (sym lines);
    }

pub all_answers : (old rest line behind : List ℕ) (all : List Answer) (tally : Tally) → AreAnswers old rest all → rest ≡ line ++ 10 ∷ behind
    → TallyHasText tally × (line ≡ tally_text tally)
    → AllByRecursion HasText all × TallyHasText tally × (old ≡ flat_map answer_line all ++ (tally_line tally ++ behind))
all_answers old rest line behind all tally are parts is_tally =
    let rest_is : rest ≡ tally_line tally ++ behind = parts ∙ ap (λ (l : List ℕ). l ++ 10 ∷ behind) is_tally.1 ∙ sym (line_rest (tally_text tally) behind) in
    (are.have_text, is_tally.0, are.parts ∙ ap (λ (l : List ℕ). flat_map answer_line all ++ l) rest_is)

-- ---- whole groups

pub group_cut : (text line old : List ℕ) (total place : ℕ) (event : Event) → text ≡ line ++ 10 ∷ old → HasSpelling event × (line ≡ codes "> " ++ line_of event)
    → total ≡ length text
    → IsCutBehind old total place → IsPlace text place
group_cut text line old total place event parts is_event total_is cut =
    let event_is : text ≡ event_line event ++ old = parts ∙ ap (λ (l : List ℕ). l ++ 10 ∷ old) is_event.1 ∙ sym (event_rest event old) in
    let whole : text ≡ event_line event ++ (flat_map answer_line cut.answers ++ cut.rest) = event_is ∙ ap (λ (l : List ℕ). event_line event ++ l)
    cut.are_answers.parts in
    let len : length text ≡ length (event_line event ++ flat_map answer_line cut.answers) + length cut.rest =
    ap length (whole ∙ sym (append_assoc (event_line event) (flat_map answer_line cut.answers) cut.rest)) ∙ length-append
    (event_line event ++ flat_map answer_line cut.answers) cut.rest in
    inr (record {
      event = event;
      answers = cut.answers;
      rest = cut.rest;
      spelled = is_event.0;
      have_text = cut.are_answers.have_text;
      text_is = whole;
      place_is = omega (arith, len, cut.place_is, total_is);
      no_further = cut.no_further;
    })

pub group_fault : (text line old new : List ℕ) (total : ℕ) (event : Event) (fault : GroupFault) → text ≡ line ++ 10 ∷ old → HasSpelling event
    × (line ≡ codes "> " ++ line_of event) → total ≡ length text
    → ReadsBehind old new total (Err fault) → ReadsGroup text (Err fault)
group_fault text line old new total event (group_faults.Form place) parts is_event total_is cut = group_cut text line old total place event parts is_event
    total_is cut
group_fault text line old new total event group_faults.Memory parts is_event total_is cut = tt

pub group_whole : (text line old behind : List ℕ) (total place : ℕ) (event : Event) (all : List Answer) (tally : Tally) → text ≡ line ++ 10 ∷ old
    → HasSpelling event × (line ≡ codes "> " ++ line_of event) → total ≡ length text
    → AllByRecursion HasText all × TallyHasText tally × (old ≡ flat_map answer_line all ++ (tally_line tally ++ behind)) → place ≡ total - length behind
    → ReadsGroup text (Ok (record { event = event; answers = all; tally = tally }, place))
group_whole text line old behind total place event all tally parts is_event total_is are at =
    let made : Group = record { event = event; answers = all; tally = tally } in
    let event_is : text ≡ event_line event ++ old = parts ∙ ap (λ (l : List ℕ). l ++ 10 ∷ old) is_event.1 ∙ sym (event_rest event old) in
    let whole : text ≡ group_text made ++ behind =
    event_is ∙ ap (λ (l : List ℕ). event_line event ++ l) (are.2 ∙ sym (append_assoc (flat_map answer_line all) (tally_line tally) behind))
    ∙ sym (append_assoc (event_line event) (flat_map answer_line all ++ tally_line tally) behind) in
    let len = ap length whole ∙ length-append (group_text made) behind in
    ((is_event.0, are.0, are.1), (behind, whole), omega (arith, len, at, total_is))

-- ---- where there is a place there is no group

-- the text of an answer is that of no tally
pub answer_no_tally : (answer : Answer) (tally : Tally) → HasText answer → TallyHasText tally → answer_text answer ≡ tally_text tally → ⊥
answer_no_tally answer tally fits fits' same =
    not_equals (word_of answer) (first _ _ _ _ (sym (split-tally_text tally fits') ∙ ap (split 32) (sym same) ∙ split-answer_text answer fits))
  where
    first : (x y : List ℕ) (xs ys : List (List ℕ)) → x ∷ xs ≡ y ∷ ys → x ≡ y
    first x y xs ys e = cc e

pub group_rest : (group : Group) (rest : List ℕ) → group_text group ++ rest ≡ event_line group.event
    ++ (flat_map answer_line group.answers ++ (tally_line group.tally ++ rest))
group_rest group rest =
    append_assoc (event_line group.event) (flat_map answer_line group.answers ++ tally_line group.tally) rest
    ∙ ap (λ (l : List ℕ). event_line group.event ++ l) (append_assoc (flat_map answer_line group.answers) (tally_line group.tally) rest)

pub answers_rest : (answer : Answer) (all : List Answer) (rest : List ℕ) → flat_map answer_line (answer ∷ all) ++ rest ≡ answer_text answer ++ 10
    ∷ (flat_map answer_line all ++ rest)
answers_rest answer all rest = append_assoc (answer_line answer) (flat_map answer_line all) rest ∙ line_rest (answer_text answer)
    (flat_map answer_line all ++ rest)

walk : (xs bs : List Answer) (tally : Tally) (rest rest' : List ℕ) → AllByRecursion HasText xs → AllByRecursion HasText bs → TallyHasText tally
    → HasNoFurther rest
    → flat_map answer_line xs ++ rest ≡ flat_map answer_line bs ++ (tally_line tally ++ rest') → ⊥
walk [] [] tally rest rest' fits fits' fit none same = none.1 tally rest' fit same
walk [] (b ∷ bs) tally rest rest' fits fits' fit none same =
    none.0 b (flat_map answer_line bs ++ (tally_line tally ++ rest')) fits'.0
    (same ∙ append_assoc (answer_line b) (flat_map answer_line bs) (tally_line tally ++ rest'))
walk (a ∷ more) [] tally rest rest' fits fits' fit none same =
    answer_no_tally a tally fits.0 fit
    (line_apart (answer_text a) (tally_text tally) (flat_map answer_line more ++ rest) rest' (answer_feedless a fits.0) (tally_feedless tally fit)
    (sym (answers_rest a more rest) ∙ same ∙ line_rest (tally_text tally) rest')).0
walk (a ∷ more) (b ∷ bs) tally rest rest' fits fits' fit none same =
    walk more bs tally rest rest' fits.1 fits'.1 fit none
    (line_apart (answer_text a) (answer_text b) (flat_map answer_line more ++ rest) (flat_map answer_line bs ++ (tally_line tally ++ rest'))
    (answer_feedless a fits.0) (answer_feedless b fits'.0)
    (sym (answers_rest a more rest) ∙ same ∙ answers_rest b bs (tally_line tally ++ rest'))).1

cut_no_group : (text : List ℕ) (place : ℕ) → IsCut text place → HasNoGroup text
cut_no_group text place is_cut group rest fits same =
    let lines = line_apart (codes "> " ++ line_of is_cut.event) (codes "> " ++ line_of group.event) (flat_map answer_line is_cut.answers ++ is_cut.rest)
    (flat_map answer_line group.answers ++ (tally_line group.tally ++ rest)) (event_feedless is_cut.event is_cut.spelled) (event_feedless group.event fits.0)
    (sym (event_rest is_cut.event (flat_map answer_line is_cut.answers ++ is_cut.rest)) ∙ sym is_cut.text_is ∙ same ∙ group_rest group rest
    ∙ event_rest group.event (flat_map answer_line group.answers ++ (tally_line group.tally ++ rest))) in
    walk is_cut.answers group.answers group.tally is_cut.rest rest is_cut.have_text fits.1 fits.2 is_cut.no_further lines.1

pub place_no_group : (text : List ℕ) (place : ℕ) → IsPlace text place → HasNoGroup text
place_no_group text place (inl none) = λ group rest fits same.
    none.1 group.event (flat_map answer_line group.answers ++ (tally_line group.tally ++ rest)) fits.0 (same ∙ group_rest group rest)
place_no_group text place (inr is_cut) = cut_no_group text place is_cut

pub fault_no_group : (text : List ℕ) (r : Result (Group × ℕ) GroupFault) → ReadsGroup text r → (place : ℕ) → r ≡ Err (group_faults.Form place) → HasNoGroup text
fault_no_group text (Ok v) is_read place is = cc is
fault_no_group text (Err (group_faults.Form at)) is_read place is = place_no_group text at is_read
fault_no_group text (Err group_faults.Memory) is_read place is = cc is
