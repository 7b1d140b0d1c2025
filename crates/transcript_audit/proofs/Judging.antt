-- A group is legal exactly where its own answers, what is owed and its tally are as the model says.
use Rattle.std.proofs.Common.{◌≡◌, ℕ, zero, suc, ◌-◌, ◌==◌, ◌&&◌, ◌≤◌, Bool, true, false, List, [], ◌∷◌, ◌++◌, length, take, drop, Some, None, refl, subst, sym, ap, ◌∙◌, arith}
use Rattle.std.proofs.lemmas.Bool.{eqb-true, eq-eqb, and_parts}
use Rattle.std.proofs.lemmas.List.{length-take}
use Rattle.blob_words.specs.declared.tally.Tally.{Tally}
use Rattle.session_script.specs.declared.event.Event.{Event}
use Rattle.answer_text.specs.declared.answer.Answer.{Answer}
use Rattle.answer_text.specs.declared.group.Group.{Group}
use Rattle.blob_model.specs.Session.{Session, page_limit}
use Rattle.blob_model.specs.History.{History, said_all, heard_first, after, has_ended}
use Rattle.blob_model.specs.Tally.{tally}
use Rattle.blob_model.specs.Settle.{settle}
use Rattle.blob_model.specs.Own.{IsOwn}
use Rattle.blob_model.specs.Legal.{left_files, IsLegalGroup}
use Rattle.blob_model.proofs.Lists.{both, false_true}
use Rattle.blob_model.proofs.tested.Answers.{same_answer-sound, same_answer-whole}
use Rattle.history_notions.specs.declared.course.Course.{Course}
use Rattle.history_notions.specs.FollowsCourse.{FollowsCourse}
use Rattle.transcript_audit.specs.Tests.{same_answer, same_answers, same_tally}
use Rattle.transcript_audit.specs.Judged.{Judged}
use Rattle.transcript_audit.specs.OwnTests.{own_count, OwnFound}
use Rattle.transcript_audit.proofs.OwnCount.{own_long}
use Rattle.transcript_audit.proofs.Passes.{said_append}

take_front : (xs ys : List Answer) → take (length xs) (xs ++ ys) ≡ xs
take_front [] ys = refl
take_front (x ∷ xs) ys = ap (λ (more : List Answer). x ∷ more) (take_front xs ys)

drop_front : (xs ys : List Answer) → drop (length xs) (xs ++ ys) ≡ ys
drop_front [] ys = refl
drop_front (x ∷ xs) ys = drop_front xs ys

front_and_rest : (xs : List Answer) (n : ℕ) → take n xs ++ drop n xs ≡ xs
front_and_rest [] zero = refl
front_and_rest [] (suc n) = refl
front_and_rest (x ∷ xs) zero = refl
front_and_rest (x ∷ xs) (suc n) = ap (λ (more : List Answer). x ∷ more) (front_and_rest xs n)

-- the own answers of a legal group are as many as its line has
own_told : (s : Session) (h : History) (group : Group) (n : ℕ) → n ≡ own_count s h group.event → (legal : IsLegalGroup s h group) → take n group.answers
    ≡ legal.own
own_told s h group n count legal =
    let size : n ≡ length legal.own = count ∙ sym (own_long legal.own s h group.event legal.is_own) in
    let rest = settle s (left_files group.answers) (after h group.event legal.own) in
    ap (λ (k : ℕ). take k group.answers) size ∙ ap (take (length legal.own)) legal.settles ∙ take_front legal.own rest

rest_told : (s : Session) (h : History) (group : Group) (n : ℕ) → n ≡ own_count s h group.event → (legal : IsLegalGroup s h group)
    → drop n group.answers ≡ settle s (left_files group.answers) (after h group.event (take n group.answers))
rest_told s h group n count legal =
    let size : n ≡ length legal.own = count ∙ sym (own_long legal.own s h group.event legal.is_own) in
    let rest = settle s (left_files group.answers) (after h group.event legal.own) in
    ap (λ (k : ℕ). drop k group.answers) size
    ∙ ap (drop (length legal.own)) legal.settles
    ∙ drop_front legal.own rest
    ∙ sym (ap (λ (own : List Answer). settle s (left_files group.answers) (after h group.event own)) (own_told s h group n count legal))

-- a group without own answers isn't legal
pub no_own : (s : Session) (h : History) (group : Group) → OwnFound s h group.event group.answers None → IsLegalGroup s h group → ⊥
no_own s h group none legal =
    let rest = settle s (left_files group.answers) (after h group.event legal.own) in
    let front : take (length legal.own) group.answers ≡ legal.own = ap (take (length legal.own)) legal.settles ∙ take_front legal.own rest in
    none (length legal.own) (subst (λ (own : List Answer). IsOwn s h group.event own) (sym front) legal.is_own)

-- nor is one that owes something else
pub other_owed : (s : Session) (h : History) (group : Group) (n : ℕ) (owed : List Answer) → OwnFound s h group.event group.answers (Some n)
    → owed ≡ settle s (left_files group.answers) (after h group.event (take n group.answers)) → (drop n group.answers ≡ owed → ⊥) → IsLegalGroup s h group → ⊥
other_owed s h group n owed found same other legal = other (rest_told s h group n found.1 legal ∙ sym same)

after_append : (h : History) (event : Event) (xs ys : List Answer) (n : ℕ) → length xs ≡ suc n → after h event (xs ++ ys) ≡ said_all (after h event xs) ys
after_append h event [] ys n long = absurd (omega (arith, long))
after_append h event (x ∷ xs) ys n long = said_append (heard_first h event x) xs ys

pub legal_where : (s : Session) (h : History) (group : Group) (n : ℕ) (owed : List Answer) → has_ended h ≡ false → OwnFound s h group.event group.answers
    (Some n)
    → owed ≡ settle s (left_files group.answers) (after h group.event (take n group.answers)) → drop n group.answers ≡ owed
    → group.tally ≡ tally (page_limit s) (after h group.event group.answers) → IsLegalGroup s h group
legal_where s h group n owed going found same rest counts = record {
  open_still = going;
  own = take n group.answers;
  is_own = found.2;
  settles = sym (front_and_rest group.answers n) ∙ ap (λ (more : List Answer). take n group.answers ++ more) (rest ∙ same);
  counts = counts;
}

-- the history after the whole group, where the rest of its answers is what was owed
pub whole_after : (h : History) (event : Event) (list owed : List Answer) (n : ℕ) → 1 ≤ n → n ≤ length list → drop n list ≡ owed
    → after h event list ≡ said_all (after h event (take n list)) owed
whole_after h event list owed n some below rest =
    let size : length (take n list) ≡ suc (n - 1) = omega (arith, length-take n list, some, below) in
    sym (ap (after h event) (front_and_rest list n))
    ∙ after_append h event (take n list) (drop n list) (n - 1) size
    ∙ ap (said_all (after h event (take n list))) rest

pub judged_by : (s : Session) (h : History) (group : Group) (course : Course) (b : Bool)
    → (b ≡ true → IsLegalGroup s h group) → FollowsCourse s (after h group.event group.answers) course → (IsLegalGroup s h group → b ≡ true)
    → Judged s h group course b
judged_by s h group course true legal follows whole = (legal refl, follows)
judged_by s h group course false legal follows whole = λ one. false_true (whole one)

pub tally-sound : (a b : Tally) → same_tally a b ≡ true → a ≡ b
tally-sound a b e =
    let halves = and_parts ((a.memory == b.memory) && (a.disk == b.disk)) ((a.pieces == b.pieces) && (a.files == b.files)) e in
    let sizes = and_parts (a.memory == b.memory) (a.disk == b.disk) halves.0 in
    let counts = and_parts (a.pieces == b.pieces) (a.files == b.files) halves.1 in
    let e0 : a.pieces ≡ b.pieces = eqb-true a.pieces b.pieces counts.0 in
    let e1 : a.memory ≡ b.memory = eqb-true a.memory b.memory sizes.0 in
    let e2 : a.files ≡ b.files = eqb-true a.files b.files counts.1 in
    let e3 : a.disk ≡ b.disk = eqb-true a.disk b.disk sizes.1 in
    λ i. record { pieces = e0 i; memory = e1 i; files = e2 i; disk = e3 i }

tally-alone : (a : Tally) → same_tally a a ≡ true
tally-alone a =
    both ((a.memory == a.memory) && (a.disk == a.disk)) ((a.pieces == a.pieces) && (a.files == a.files))
    (both (a.memory == a.memory) (a.disk == a.disk) (eq-eqb a.memory a.memory refl) (eq-eqb a.disk a.disk refl))
    (both (a.pieces == a.pieces) (a.files == a.files) (eq-eqb a.pieces a.pieces refl) (eq-eqb a.files a.files refl))

pub tally-whole : (a b : Tally) → a ≡ b → same_tally a b ≡ true
tally-whole a b e = subst (λ (c : Tally). same_tally a c ≡ true) e (tally-alone a)

pub same-sound : (xs ys : List Answer) → same_answers xs ys ≡ true → xs ≡ ys
same-sound [] [] e = refl
same-sound [] (b ∷ bs) e = absurd (false_true e)
same-sound (a ∷ xs) [] e = absurd (false_true e)
same-sound (a ∷ xs) (b ∷ ys) e =
    let parts = and_parts (same_answer a b) (same_answers xs ys) e in
    let head : a ≡ b = same_answer-sound a b parts.0 in
    let tail : xs ≡ ys = same-sound xs ys parts.1 in
    λ i. head i ∷ tail i

same-alone : (xs : List Answer) → same_answers xs xs ≡ true
same-alone [] = refl
same-alone (a ∷ xs) = both (same_answer a a) (same_answers xs xs) (same_answer-whole a) (same-alone xs)

pub same-whole : (xs ys : List Answer) → xs ≡ ys → same_answers xs ys ≡ true
same-whole xs ys e = subst (λ (zs : List Answer). same_answers xs zs ≡ true) e (same-alone xs)
