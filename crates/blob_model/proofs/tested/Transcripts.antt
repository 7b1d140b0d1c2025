-- The test on groups and on transcripts.
use Rattle.std.proofs.Common.{◌≡◌, ℕ, zero, suc, ◌+◌, ◌≤◌, Bool, true, false, ◌&&◌, not, List, [], ◌∷◌, ◌++◌, length, take, refl, ap, subst, sym, ◌∙◌, arith, Option, Some, None, length-append}
use Rattle.std.proofs.lemmas.Bool.{and_parts}
use Rattle.blob_words.specs.declared.limits.Limits.{Limits}
use Rattle.blob_words.specs.declared.tally.Tally.{Tally}
use Rattle.blob_words.specs.declared.version.Version.{Version}
use Rattle.blob_words.specs.declared.version.Version.TheVariants.{One, Two}
use Rattle.session_script.specs.declared.event.Event.{Event}
use Rattle.session_script.specs.declared.event.Event.TheVariants as events
use Rattle.answer_text.specs.declared.answer.Answer.{Answer}
use Rattle.answer_text.specs.declared.group.Group.{Group}
use Rattle.blob_model.specs.Session.{Outside, Session, page_limit}
use Rattle.blob_model.specs.History.{History, start, after, has_ended}
use Rattle.blob_model.specs.Tally.{tally}
use Rattle.blob_model.specs.Settle.{settle}
use Rattle.blob_model.specs.Own.{IsOwn}
use Rattle.blob_model.specs.Legal.{left_files, IsLegalGroup, IsLegalFrom, opening, session, IsLegal}
use Rattle.blob_model.proofs.Lists.{both, false_true}
use Rattle.blob_model.proofs.tested.Words.{same_number, same_number-sound, same_number-whole}
use Rattle.blob_model.proofs.tested.OwnAnswers.{same_answers, same_answers-sound, same_answers-whole, is_own, is_own-sound, is_own-whole}

abbrev same_tally : Tally → Tally → Bool
same_tally a b = same_number a.pieces b.pieces && same_number a.memory b.memory && same_number a.files b.files && same_number a.disk b.disk

same_tally-sound : (a b : Tally) → same_tally a b ≡ true → a ≡ b
same_tally-sound a b e =
    let p3 = and_parts (same_number a.pieces b.pieces && same_number a.memory b.memory && same_number a.files b.files) (same_number a.disk b.disk) e in
    let p2 = and_parts (same_number a.pieces b.pieces && same_number a.memory b.memory) (same_number a.files b.files) p3.0 in
    let p1 = and_parts (same_number a.pieces b.pieces) (same_number a.memory b.memory) p2.0 in
    let e0 : a.pieces ≡ b.pieces = same_number-sound a.pieces b.pieces p1.0 in
    let e1 : a.memory ≡ b.memory = same_number-sound a.memory b.memory p1.1 in
    let e2 : a.files ≡ b.files = same_number-sound a.files b.files p2.1 in
    let e3 : a.disk ≡ b.disk = same_number-sound a.disk b.disk p3.1 in
    λ i. record { pieces = e0 i; memory = e1 i; files = e2 i; disk = e3 i }

same_tally-refl : (a : Tally) → same_tally a a ≡ true
same_tally-refl a =
    both (same_number a.pieces a.pieces && same_number a.memory a.memory && same_number a.files a.files) (same_number a.disk a.disk)
    (both (same_number a.pieces a.pieces && same_number a.memory a.memory) (same_number a.files a.files)
    (both (same_number a.pieces a.pieces) (same_number a.memory a.memory) (same_number-whole a.pieces) (same_number-whole a.memory))
    (same_number-whole a.files))
    (same_number-whole a.disk)

same_tally-whole : (a b : Tally) → a ≡ b → same_tally a b ≡ true
same_tally-whole a b e = subst (λ (c : Tally). same_tally a c ≡ true) e (same_tally-refl a)

-- the test where the own answers are these
abbrev splits_as : Session → History → Group → List Answer → Bool
splits_as s h group own =
    elim (is_own s h group.event own) [
      | false ↦ false
      | true ↦ same_answers group.answers (own ++ settle s (left_files group.answers) (after h group.event own))
    ]

splits_as-sound : (s : Session) (h : History) (group : Group) (own : List Answer) → splits_as s h group own ≡ true
    → (IsOwn s h group.event own × (group.answers ≡ own ++ settle s (left_files group.answers) (after h group.event own)))
splits_as-sound s h group own e = go (is_own s h group.event own) refl e
  where
    go : (b : Bool) → is_own s h group.event own ≡ b
        → (elim b as (λ (x : Bool). Bool) [
          | false ↦ false
          | true ↦ same_answers group.answers
              (own ++ settle s (left_files group.answers) (after h group.event own))
        ]) ≡ true
        → (IsOwn s h group.event own × (group.answers ≡ own ++ settle s (left_files group.answers) (after h group.event own)))
    go false at f = absurd (false_true f)
    go true at f =
        (is_own-sound s h group.event own at, same_answers-sound group.answers (own ++ settle s (left_files group.answers) (after h group.event own)) f)

splits_as-whole : (s : Session) (h : History) (group : Group) (own : List Answer) → IsOwn s h group.event own
    → group.answers ≡ own ++ settle s (left_files group.answers) (after h group.event own) → splits_as s h group own ≡ true
splits_as-whole s h group own one e = rw (is_own-whole s h group.event own one, splits_as)
    (same_answers-whole group.answers (own ++ settle s (left_files group.answers) (after h group.event own)) e)

-- the first of the numbers up to a bound that passes
abbrev some_up_to : (ℕ → Bool) → ℕ → Bool
some_up_to test zero = test zero
some_up_to test (suc n) = elim (some_up_to test n) [ true ↦ true | false ↦ test (suc n) ]

some_up_to-sound : (test : ℕ → Bool) (m : ℕ) → some_up_to test m ≡ true → (n : ℕ) × (test n ≡ true)
some_up_to-sound test zero e = (zero, e)
some_up_to-sound test (suc m) e = go (some_up_to test m) refl (some_up_to-sound test m) e
  where
    go : (b : Bool) → some_up_to test m ≡ b → (some_up_to test m ≡ true → (n : ℕ) × (test n ≡ true))
        → (elim b as (λ (x : Bool). Bool) [ true ↦ true | false ↦ test (suc m) ]) ≡ true → (n : ℕ) × (test n ≡ true)
    go true at found f = found at
    go false at found f = (suc m, f)

some_up_to-whole : (test : ℕ → Bool) (m n : ℕ) → n ≤ m → test n ≡ true → some_up_to test m ≡ true
some_up_to-whole test zero n low e = let zeroed : n ≡ zero = omega arith in subst (λ (k : ℕ). test k ≡ true) zeroed e
some_up_to-whole test (suc m) n low e = go (some_up_to test m) refl (λ below. some_up_to-whole test m n below e)
  where
    go : (b : Bool) → some_up_to test m ≡ b → (n ≤ m → some_up_to test m ≡ true) → (elim b as (λ (x : Bool). Bool) [ true ↦ true | false ↦ test (suc m) ])
        ≡ true
    go true at found = refl
    go false at found =
        let above : n ≤ m → ⊥ = λ below. false_true (sym at ∙ found below) in
        let last : n ≡ suc m = omega arith in
        subst (λ (k : ℕ). test k ≡ true) last e

-- the test on a group after a history
abbrev is_legal_group : Session → History → Group → Bool
is_legal_group s h group =
    not (has_ended h) && some_up_to (λ (n : ℕ). splits_as s h group (take n group.answers)) (length group.answers) && same_tally group.tally
    (tally (page_limit s) (after h group.event group.answers))

not_true : (b : Bool) → not b ≡ true → b ≡ false
not_true true e = absurd (false_true e)
not_true false e = refl

false_not : (b : Bool) → b ≡ false → not b ≡ true
false_not b e = rw e refl

take_front : (xs ys : List Answer) → take (length xs) (xs ++ ys) ≡ xs
take_front [] ys = refl
take_front (x ∷ xs) ys = ap (λ more. x ∷ more) (take_front xs ys)

is_legal_group-sound : (s : Session) (h : History) (group : Group) → is_legal_group s h group ≡ true → IsLegalGroup s h group
is_legal_group-sound s h group e =
    let outer = and_parts (not (has_ended h) && some_up_to (λ (n : ℕ). splits_as s h group (take n group.answers)) (length group.answers))
    (same_tally group.tally (tally (page_limit s) (after h group.event group.answers))) e in
    let inner = and_parts (not (has_ended h)) (some_up_to (λ (n : ℕ). splits_as s h group (take n group.answers)) (length group.answers)) outer.0 in
    let split = some_up_to-sound (λ (n : ℕ). splits_as s h group (take n group.answers)) (length group.answers) inner.1 in
    let parts = splits_as-sound s h group (take split.0 group.answers) split.1 in
    record {
      open_still = not_true (has_ended h) inner.0;
      own = take split.0 group.answers;
      is_own = parts.0;
      settles = parts.1;
      counts = same_tally-sound group.tally (tally (page_limit s) (after h group.event group.answers)) outer.1;
    }

is_legal_group-whole : (s : Session) (h : History) (group : Group) → IsLegalGroup s h group → is_legal_group s h group ≡ true
is_legal_group-whole s h group legal =
    let own = legal.own in
    let rest = settle s (left_files group.answers) (after h group.event own) in
    let front : take (length own) group.answers ≡ own = ap (λ (list : List Answer). take (length own) list) legal.settles ∙ take_front own rest in
    let long : length group.answers ≡ length own + length rest = ap (λ (list : List Answer). length list) legal.settles ∙ length-append own rest in
    let low : length own ≤ length group.answers = omega (arith, long) in
    let at : splits_as s h group (take (length own) group.answers) ≡ true =
    subst (λ (list : List Answer). splits_as s h group list ≡ true) (sym front) (splits_as-whole s h group own legal.is_own legal.settles) in
    both (not (has_ended h) && some_up_to (λ (n : ℕ). splits_as s h group (take n group.answers)) (length group.answers))
    (same_tally group.tally (tally (page_limit s) (after h group.event group.answers)))
    (both (not (has_ended h)) (some_up_to (λ (n : ℕ). splits_as s h group (take n group.answers)) (length group.answers))
    (false_not (has_ended h) legal.open_still)
    (some_up_to-whole (λ (n : ℕ). splits_as s h group (take n group.answers)) (length group.answers) (length own) low at))
    (same_tally-whole group.tally (tally (page_limit s) (after h group.event group.answers)) legal.counts)

-- the test on groups after a history, which ends at the first that isn't legal
abbrev pub is_legal_from : Session → History → List Group → Bool
is_legal_from s h [] = true
is_legal_from s h (group ∷ groups) = elim (is_legal_group s h group) [ false ↦ false | true ↦ is_legal_from s (after h group.event group.answers) groups ]

pub is_legal_from-sound : (s : Session) (h : History) (groups : List Group) → is_legal_from s h groups ≡ true → IsLegalFrom s h groups
is_legal_from-sound s h [] e = tt
is_legal_from-sound s h (group ∷ groups) e = go (is_legal_group s h group) refl (is_legal_from-sound s (after h group.event group.answers) groups) e
  where
    go : (b : Bool) → is_legal_group s h group ≡ b
        → (is_legal_from s (after h group.event group.answers) groups ≡ true → IsLegalFrom s (after h group.event group.answers) groups)
        → (elim b as (λ (x : Bool). Bool) [ false ↦ false | true ↦ is_legal_from s (after h group.event group.answers) groups ]) ≡ true
        → IsLegalGroup s h group × IsLegalFrom s (after h group.event group.answers) groups
    go false at more f = absurd (false_true f)
    go true at more f = (is_legal_group-sound s h group at, more f)

pub is_legal_from-whole : (s : Session) (h : History) (groups : List Group) → IsLegalFrom s h groups → is_legal_from s h groups ≡ true
is_legal_from-whole s h [] legal = refl
is_legal_from-whole s h (group ∷ groups) legal = rw (is_legal_group-whole s h group legal.0, is_legal_from)
    (is_legal_from-whole s (after h group.event group.answers) groups legal.1)

-- the version and the limits that a first line states
abbrev stated : Event → Option (Version × Limits)
stated (events.Limits l) = Some (One, l)
stated (events.Limits2 l) = Some (Two, l)
stated event = None

abbrev version_of : Version → Option (Version × Limits) → Version
version_of version None = version
version_of version (Some pair) = pair.0

abbrev limits_of : Limits → Option (Version × Limits) → Limits
limits_of l None = l
limits_of l (Some pair) = pair.1

stated_opening : (version : Version) (l : Limits) → stated (opening version l).event ≡ Some (version, l)
stated_opening One l = refl
stated_opening Two l = refl

-- what a legal transcript says of the groups behind its first line
pub behind_opening : (outside : Outside) (version : Version) (l : Limits) (groups : List Group) → IsLegal outside (opening version l ∷ groups)
    → IsLegalFrom (session outside version l) start groups
behind_opening outside version l groups legal =
    let at : Some (version, l) ≡ Some (legal.0, legal.1) =
    sym (stated_opening version l) ∙ ap (λ (group : Group). stated group.event) legal.2 ∙ stated_opening legal.0 legal.1 in
    let same_version : version ≡ legal.0 = ap (version_of version) at in
    let same_limits : l ≡ legal.1 = ap (limits_of l) at in
    let moved : IsLegalFrom (session outside version legal.1) start groups = subst (λ (v : Version). IsLegalFrom (session outside v legal.1) start groups)
    (sym same_version) legal.3 in
    subst (λ (k : Limits). IsLegalFrom (session outside version k) start groups) (sym same_limits) moved

-- a transcript that passes is legal, and one that doesn't is not
pub legal_by : (outside : Outside) (version : Version) (l : Limits) (groups : List Group) → is_legal_from (session outside version l) start groups ≡ true
    → IsLegal outside (opening version l ∷ groups)
legal_by outside version l groups e = (version, l, refl, is_legal_from-sound (session outside version l) start groups e)

pub illegal_by : (outside : Outside) (version : Version) (l : Limits) (groups : List Group) → is_legal_from (session outside version l) start groups ≡ false
    → IsLegal outside (opening version l ∷ groups) → ⊥
illegal_by outside version l groups e legal =
    false_true (sym e ∙ is_legal_from-whole (session outside version l) start groups (behind_opening outside version l groups legal))
