-- Where all is told and nothing fails, events have one legal transcript.
use Rattle.std.proofs.Common.{◌≡◌, true, List, [], ◌∷◌, ◌++◌, refl, ap, subst, sym, ◌∙◌}
use Rattle.std.proofs.lemmas.Bool.{and_parts}
use Rattle.std.proofs.lemmas.List.Folds.{list_all-append}
use Rattle.blob_words.specs.declared.limits.Limits.{Limits}
use Rattle.blob_words.specs.declared.version.Version.{Version}
use Rattle.answer_text.specs.declared.answer.Answer.{Answer}
use Rattle.answer_text.specs.declared.answer.Answer.TheVariants as answers
use Rattle.answer_text.specs.declared.group.Group.{Group}
use Rattle.blob_model.specs.Session.{Outside, Session, page_limit}
use Rattle.blob_model.specs.History.{History, start, after}
use Rattle.blob_model.specs.Tally.{tally}
use Rattle.blob_model.specs.Settle.{settle}
use Rattle.blob_model.specs.Legal.{left_files, IsLegalGroup, IsLegalFrom, IsLegal, opening, session}
use Rattle.blob_model.specs.LegalLaws.{AllTold, is_good, are_good, events_of}
use Rattle.blob_model.proofs.Lists.{false_true}
use Rattle.blob_model.proofs.legal.SingleAnswers.{good, one_own}
use Rattle.blob_model.proofs.tested.Transcripts.{behind_opening}

no_left : (list : List Answer) → good list ≡ true → left_files list ≡ []
no_left [] fine = refl
no_left (answers.Left file ∷ list) fine = absurd (false_true (and_parts (is_good (answers.Left file)) (good list) fine).0)
no_left (answer ∷ list) fine = no_left list (and_parts (is_good answer) (good list) fine).1

good_front : (own rest list : List Answer) → list ≡ own ++ rest → good list ≡ true → good own ≡ true
good_front own rest list e fine =
    let whole : good (own ++ rest) ≡ true = subst (λ (l : List Answer). good l ≡ true) e fine in
    (and_parts (good own) (good rest) (sym (list_all-append is_good own rest) ∙ whole)).0

-- the answers of two groups of one event
one_answers : (s : Session) (h : History) (a b : Group) → AllTold s.outside → a.event ≡ b.event → IsLegalGroup s h a → IsLegalGroup s h b → good a.answers
    ≡ true → good b.answers ≡ true → a.answers ≡ b.answers
one_answers s h a b all event x y e f =
    let own_a = x.own in
    let own_b = y.own in
    let first : good own_a ≡ true = good_front own_a (settle s (left_files a.answers) (after h a.event own_a)) a.answers x.settles e in
    let second : good own_b ≡ true = good_front own_b (settle s (left_files b.answers) (after h b.event own_b)) b.answers y.settles f in
    let same : own_a ≡ own_b = one_own s h a.event own_a own_b all x.is_own (rw (← event) at y.is_own) first second in
    let left : left_files a.answers ≡ left_files b.answers = no_left a.answers e ∙ sym (no_left b.answers f) in
    let moved : own_a ++ settle s (left_files a.answers) (after h a.event own_a) ≡ own_b ++ settle s (left_files b.answers) (after h b.event own_b) =
    (λ i. same i ++ settle s (left i) (after h (event i) (same i))) in
    x.settles ∙ moved ∙ sym y.settles

one_group : (s : Session) (h : History) (a b : Group) → AllTold s.outside → a.event ≡ b.event → IsLegalGroup s h a → IsLegalGroup s h b → good a.answers ≡ true
    → good b.answers ≡ true → a ≡ b
one_group s h a b all event x y e f =
    let list : a.answers ≡ b.answers = one_answers s h a b all event x y e f in
    let numbers : a.tally ≡ b.tally = x.counts ∙ (λ i. tally (page_limit s) (after h (event i) (list i))) ∙ sym y.counts in
    λ i. record { event = event i; answers = list i; tally = numbers i }

one_from : (s : Session) (h : History) (groups others : List Group) → AllTold s.outside → IsLegalFrom s h groups → IsLegalFrom s h others → events_of groups
    ≡ events_of others → are_good groups ≡ true → are_good others ≡ true → groups ≡ others
one_from s h [] [] all x y same e f = refl
one_from s h [] (b ∷ others) all x y same e f = cc
one_from s h (a ∷ groups) [] all x y same e f = cc
one_from s h (a ∷ groups) (b ∷ others) all x y same e f =
    let p = and_parts (good a.answers) (are_good groups) e in
    let q = and_parts (good b.answers) (are_good others) f in
    let event : a.event ≡ b.event = cc in
    let more : events_of groups ≡ events_of others = cc in
    let head : a ≡ b = one_group s h a b all event x.0 y.0 p.0 q.0 in
    let later : IsLegalFrom s (after h a.event a.answers) others = subst (λ (g : Group). IsLegalFrom s (after h g.event g.answers) others) (sym head) y.1 in
    let tail : groups ≡ others = one_from s (after h a.event a.answers) groups others all x.1 later more p.1 q.1 in
    λ i. head i ∷ tail i

opening_event : (version : Version) (l : Limits) (version' : Version) (l' : Limits) → (opening version l).event ≡ (opening version' l').event
    → opening version l ≡ opening version' l'
opening_event version l version' l' e = λ i. record { event = e i; answers = answers.Good ∷ []; tally = record { pieces = 0; memory = 0; files = 0; disk = 0 } }

pub one_transcript : (outside : Outside) (groups others : List Group) → AllTold outside → IsLegal outside groups → IsLegal outside others → events_of groups
    ≡ events_of others
    → are_good groups ≡ true → are_good others ≡ true → groups ≡ others
one_transcript outside [] [] all x y same e f = refl
one_transcript outside [] (b ∷ others) all x y same e f = cc
one_transcript outside (a ∷ groups) [] all x y same e f = cc
one_transcript outside (a ∷ groups) (b ∷ others) all x y same e f =
    let event : a.event ≡ b.event = cc in
    let more : events_of groups ≡ events_of others = cc in
    let openings : (opening x.0 x.1).event ≡ (opening y.0 y.1).event = sym (ap (λ (g : Group). g.event) x.2) ∙ event ∙ ap (λ (g : Group). g.event) y.2 in
    let head : a ≡ b = x.2 ∙ opening_event x.0 x.1 y.0 y.1 openings ∙ sym y.2 in
    let as_x : IsLegal outside (opening x.0 x.1 ∷ others) = (y.0, y.1, (opening_event x.0 x.1 y.0 y.1 openings), y.3) in
    let later : IsLegalFrom (session outside x.0 x.1) start others = behind_opening outside x.0 x.1 others as_x in
    let p = and_parts (good a.answers) (are_good groups) e in
    let q = and_parts (good b.answers) (are_good others) f in
    let tail : groups ≡ others = one_from (session outside x.0 x.1) start groups others all x.3 later more p.1 q.1 in
    λ i. head i ∷ tail i
