-- The steps of settling keep the bytes in memory within the limit.
use Rattle.std.proofs.Common.{◌≡◌, ◌⊎◌, ℕ, ◌+◌, ◌≤◌, ◌==◌, Bool, true, false, List, [], ◌∷◌, ◌++◌, map, reverse, length, refl, ap, subst, sym, ◌∙◌, ⊎_elim, arith, Option, Some, None}
use Rattle.std.specs.Prelude.{cond, filter, is_none, sum, sum_by, if◌then◌else◌}
use Rattle.std.specs.Option.{option_map_or, option_to_list}
use Rattle.std.specs.List.{AllByRecursion}
use Rattle.std.proofs.lemmas.Bool.{or_parts, eqb-true}
use Rattle.std.proofs.lemmas.List.Sums.{sum_by-cons, sum_by-append}
use Rattle.blob_words.specs.declared.plan.Plan.{Plan}
use Rattle.blob_words.specs.declared.status.Status.{Status}
use Rattle.blob_words.specs.declared.status.Status.TheVariants as statuses
use Rattle.answer_text.specs.declared.answer.Answer.{Answer}
use Rattle.answer_text.specs.declared.answer.Answer.TheVariants as answers
use Rattle.transport_plan.specs.Spans.{piece_spans}
use Rattle.transport_plan.proofs.SpanLemmas.{pieces_cover, cover_sum}
use Rattle.blob_words.specs.declared.limits.Limits.{Limits}
use Rattle.blob_model.specs.Session.{Session, page_limit}
use Rattle.blob_model.specs.History.{History, said, said_all}
use Rattle.blob_model.specs.Parts.{own_lengths, own_bytes}
use Rattle.blob_model.specs.Builds.{Build, builds, build_in}
use Rattle.blob_model.specs.Standing.{ended, is_unfinished, is_broken, is_broken_status, was_granted}
use Rattle.blob_model.specs.Pieces.{Piece, pieces_from, numbered, planned_spans, spans_of}
use Rattle.blob_model.specs.Pages.{Page, pages, page_with}
use Rattle.blob_model.specs.Settle.{drops, ending, ending_tests, ending_answers, endings_of, endings}
use Rattle.blob_model.proofs.Lists.{false_true}
use Rattle.blob_model.proofs.live.Least.{named}
use Rattle.blob_model.proofs.builds.Order.{Distinct}
use Rattle.blob_model.proofs.live.Agreement.{said_append, kept_by_kind, builds_all, rooted_said, unfinished_all, drops_test, dropping}
use Rattle.blob_model.proofs.settled.Endings.{some_that}
use Rattle.blob_model.proofs.settled.Pass.{drops_break, pass_grants}
use Rattle.blob_model.proofs.memory.Shrinking.{Shrinks}

-- answers that write no page file
abbrev pub is_calm : Answer → Bool
is_calm (answers.Stored file piece) = false
is_calm (answers.Paged job file list) = false
is_calm (answers.Moved job file list) = false
is_calm answer = true

abbrev pub AllCalm : List Answer → Type 0
AllCalm list = AllByRecursion (λ (answer : Answer). is_calm answer ≡ true) list

calm_pages : (h : History) (answer : Answer) → is_calm answer ≡ true → pages (said h answer) ≡ pages h
calm_pages h (answers.Stored file piece) e = absurd (false_true e)
calm_pages h (answers.Paged job file list) e = absurd (false_true e)
calm_pages h (answers.Moved job file list) e = absurd (false_true e)
calm_pages h answer e = refl

pub pages_calm : (h : History) (list : List Answer) → AllCalm list → pages (said_all h list) ≡ pages h
pages_calm h list all = kept_by_kind pages is_calm calm_pages h list all

unlisted_same : (h g : History) (number : ℕ) → pages g ≡ pages h → page_with (pages g) number ≡ None → page_with (pages h) number ≡ None
unlisted_same h g number same e = subst (λ (xs : List Page). page_with xs number ≡ None) same e

-- ---- drops

drops_calm : (list : List Build) → AllCalm (map dropping list)
drops_calm [] = tt
drops_calm (build ∷ list) = (refl, drops_calm list)

granted_drops : (h : History) (list : List Build) (name : ℕ) → was_granted (said_all h (map dropping list)) name ≡ was_granted h name
granted_drops h [] name = refl
granted_drops h (build ∷ list) name = granted_drops (said h (dropping build)) list name

pub drops_shrink : (s : Session) (h : History) → Shrinks (page_limit s) h (said_all h (drops s h))
drops_shrink s h = record {
  blobs = builds_all (page_limit s) h (drops s h);
  roots = λ name e. sym (rooted_said (page_limit s) h (drops s h) name) ∙ e;
  begun = λ name e. unfinished_all h (drops s h) name e;
  broken = λ name e. drops_break s h (reverse (builds (page_limit s) h)) name ∙ e;
  granted = λ name e. sym (granted_drops h (filter (drops_test s h) (reverse (builds (page_limit s) h))) name) ∙ e;
  unlisted = λ number e. unlisted_same h (said_all h (drops s h)) number
      (pages_calm h (drops s h) (drops_calm (filter (drops_test s h) (reverse (builds (page_limit s) h))))) e;
}

-- ---- endings

-- a blob that is broken has ended
broken_ended : (o : Option Status) → option_map_or is_broken_status o false ≡ true → is_none o ≡ true → ⊥
broken_ended None e f = false_true e
broken_ended (Some status) e f = false_true f

ending_breaks : (s : Session) (g : History) (build : Build) (answer : Answer) (name : ℕ) → is_unfinished g build.name ≡ true → ending s g build ≡ Some answer
    → is_broken g name ≡ true → is_broken (said g answer) name ≡ true
ending_breaks s g build answer name begun e broken =
    some_that (λ (each : Answer). is_broken (said g each) name ≡ true) (ending_tests s g build) answer
    (keep statuses.FileWriteFailed, (keep statuses.SourceDied, (keep statuses.ReferencedBlobBroken, (keep statuses.Done, tt)))) e
  where
    keep : (status : Status) → option_map_or is_broken_status (cond (build.name == name) (Some status) (ended g name)) false ≡ true
    keep status = go (build.name == name) refl
      where
        go : (b : Bool) → (build.name == name) ≡ b → option_map_or is_broken_status (cond b (Some status) (ended g name)) false ≡ true
        go false at = broken
        go true at =
            let same : build.name ≡ name = eqb-true build.name name at in
            absurd (broken_ended (ended g name) broken (subst (λ (n : ℕ). is_none (ended g n) ≡ true) same begun))

ending_calm : (s : Session) (g : History) (build : Build) (answer : Answer) → ending s g build ≡ Some answer → is_calm answer ≡ true
ending_calm s g build answer e = some_that (λ (each : Answer). is_calm each ≡ true) (ending_tests s g build) answer (refl, (refl, (refl, (refl, tt)))) e

one_if : (s : Session) (h : History) (build : Build) (P : List Answer → Type 0) → P []
    → ((answer : Answer) → is_unfinished h build.name ≡ true → ending s h build ≡ Some answer → P (answer ∷ [])) → P (ending_answers s h build)
one_if s h build P none some = go (is_unfinished h build.name) refl (ending s h build) refl
  where
    go : (b : Bool) → is_unfinished h build.name ≡ b → (found : Option Answer) → ending s h build ≡ found → P (if b then option_to_list found else [])
    go false at found e = none
    go true at None e = none
    go true at (Some answer) e = some answer at e

pass_breaks : (s : Session) (g : History) (list : List Build) (name : ℕ) → is_broken g name ≡ true → is_broken (said_all g (endings_of s g list)) name ≡ true
pass_breaks s g [] name broken = broken
pass_breaks s g (build ∷ list) name broken =
    let here : is_broken (said_all g (ending_answers s g build)) name ≡ true =
    one_if s g build (λ (xs : List Answer). is_broken (said_all g xs) name ≡ true) broken (λ answer begun e. ending_breaks s g build answer name begun e broken)
    in
    ap (λ (h : History). is_broken h name) (said_append g (ending_answers s g build) (endings_of s (said_all g (ending_answers s g build)) list))
    ∙ pass_breaks s (said_all g (ending_answers s g build)) list name here

pub calm_append : (xs ys : List Answer) → AllCalm xs → AllCalm ys → AllCalm (xs ++ ys)
calm_append [] ys p q = q
calm_append (x ∷ xs) ys p q = (p.0, calm_append xs ys p.1 q)

pass_calm : (s : Session) (g : History) (list : List Build) → AllCalm (endings_of s g list)
pass_calm s g [] = tt
pass_calm s g (build ∷ list) =
    calm_append (ending_answers s g build) (endings_of s (said_all g (ending_answers s g build)) list)
    (one_if s g build AllCalm tt (λ answer begun e. (ending_calm s g build answer e, tt))) (pass_calm s (said_all g (ending_answers s g build)) list)

pub endings_shrink : (s : Session) (h : History) → Shrinks (page_limit s) h (said_all h (endings s h))
endings_shrink s h = record {
  blobs = builds_all (page_limit s) h (endings s h);
  roots = λ name e. sym (rooted_said (page_limit s) h (endings s h) name) ∙ e;
  begun = λ name e. unfinished_all h (endings s h) name e;
  broken = λ name e. pass_breaks s h (builds (page_limit s) h) name e;
  granted = λ name e. sym (pass_grants s h (builds (page_limit s) h) name) ∙ e;
  unlisted = λ number e. unlisted_same h (said_all h (endings s h)) number (pages_calm h (endings s h) (pass_calm s h (builds (page_limit s) h))) e;
}

-- ---- the pieces of one blob sum to its own bytes

pub sum_either : {X : Type 0} (f : X → ℕ) (p' q' p q r : X → Bool) (xs : List X)
    → ((x : X) → p' x ≡ true → q' x ≡ true → ((p x ≡ true) × (q x ≡ true)) ⊎ (r x ≡ true))
    → sum_by f (filter p' (filter q' xs)) ≤ sum_by f (filter p (filter q xs)) + sum_by f (filter r xs)
sum_either f p' q' p q r [] up = omega arith
sum_either {X = X} f p' q' p q r (x ∷ xs) up = go (q' x) (q x) (p' x) (p x) (r x) refl refl (up x) (sum_either f p' q' p q r xs up)
  where
    first : (b : Bool) (ys : List X) → sum_by f ys ≤ sum_by f (cond b (x ∷ ys) ys)
    first true ys = let whole : sum_by f (x ∷ ys) ≡ f x + sum_by f ys = sum_by-cons f x ys in omega (arith, whole)
    first false ys = omega arith

    there : (b : Bool) → sum_by f (filter p (filter q xs)) ≤ sum_by f (filter p (cond b (x ∷ filter q xs) (filter q xs)))
    there true = first (p x) (filter p (filter q xs))
    there false = omega arith

    go : (a b c d e : Bool) → p' x ≡ c → p x ≡ d → (c ≡ true → a ≡ true → ((d ≡ true) × (b ≡ true)) ⊎ (e ≡ true))
        → sum_by f (filter p' (filter q' xs)) ≤ sum_by f (filter p (filter q xs)) + sum_by f (filter r xs)
        → sum_by f (filter p' (cond a (x ∷ filter q' xs) (filter q' xs))) ≤ sum_by f (filter p (cond b (x ∷ filter q xs) (filter q xs))) + sum_by f
        (cond e (x ∷ filter r xs) (filter r xs))
    go false b c d e at_c at_d ok rest = let wide = there b in let more = first e (filter r xs) in omega (arith, rest, wide, more)
    go true b false d e at_c at_d ok rest =
        let moved : sum_by f (filter p' (x ∷ filter q' xs)) ≡ sum_by f (filter p' (filter q' xs)) =
        ap (λ (z : Bool). sum_by f (cond z (x ∷ filter p' (filter q' xs)) (filter p' (filter q' xs)))) at_c in
        let wide = there b in let more = first e (filter r xs) in omega (arith, moved, rest, wide, more)
    go true b true d e at_c at_d ok rest =
        let left : sum_by f (filter p' (x ∷ filter q' xs)) ≡ f x + sum_by f (filter p' (filter q' xs)) =
        ap (λ (z : Bool). sum_by f (cond z (x ∷ filter p' (filter q' xs)) (filter p' (filter q' xs)))) at_c ∙ sum_by-cons f x (filter p' (filter q' xs)) in
        ⊎_elim
        (λ (two : (d ≡ true) × (b ≡ true)).
        let right : sum_by f (filter p (cond b (x ∷ filter q xs) (filter q xs))) ≡ f x + sum_by f (filter p (filter q xs)) =
        ap (λ (z : Bool). sum_by f (filter p (cond z (x ∷ filter q xs) (filter q xs)))) two.1
        ∙ ap (λ (z : Bool). sum_by f (cond z (x ∷ filter p (filter q xs)) (filter p (filter q xs)))) (at_d ∙ two.0) ∙ sum_by-cons f x (filter p (filter q xs))
        in
        let more = first e (filter r xs) in
        omega (arith, left, right, rest, more))
        (λ (other : e ≡ true).
        let right : sum_by f (cond e (x ∷ filter r xs) (filter r xs)) ≡ f x + sum_by f (filter r xs) =
        ap (λ (z : Bool). sum_by f (cond z (x ∷ filter r xs) (filter r xs))) other ∙ sum_by-cons f x (filter r xs) in
        let wide = there b in
        omega (arith, left, right, rest, wide))
        (ok refl refl)

abbrev pub of_blob : ℕ → List Piece → ℕ
of_blob name list = sum_by (λ (piece : Piece). piece.len) (filter (λ (piece : Piece). piece.blob == name) list)

pub filter_append : (test : Piece → Bool) (xs ys : List Piece) → filter test (xs ++ ys) ≡ filter test xs ++ filter test ys
filter_append test [] ys = refl
filter_append test (x ∷ xs) ys = go (test x) (filter_append test xs ys)
  where
    go : (b : Bool) → filter test (xs ++ ys) ≡ filter test xs ++ filter test ys → cond b (x ∷ filter test (xs ++ ys)) (filter test (xs ++ ys))
        ≡ cond b (x ∷ filter test xs) (filter test xs) ++ filter test ys
    go true rest = ap (λ zs. x ∷ zs) rest
    go false rest = rest

numbered_bytes : (name blob number : ℕ) (spans : List (ℕ × ℕ)) (b : Bool) → (blob == name) ≡ b → of_blob name (numbered blob number spans)
    ≡ cond b (sum_by (λ (span : ℕ × ℕ). span.1) spans) 0
numbered_bytes name blob number [] true e = refl
numbered_bytes name blob number [] false e = refl
numbered_bytes name blob number (span ∷ spans) true e =
    ap (λ (z : Bool). sum_by (λ (piece : Piece). piece.len) (cond z (record { number = number; blob = blob; from = span.0; len = span.1 }
    ∷ filter (λ (piece : Piece). piece.blob == name) (numbered blob (number + 1) spans))
    (filter (λ (piece : Piece). piece.blob == name) (numbered blob (number + 1) spans)))) e
    ∙ sum_by-cons (λ (piece : Piece). piece.len) (record { number = number; blob = blob; from = span.0; len = span.1 })
    (filter (λ (piece : Piece). piece.blob == name) (numbered blob (number + 1) spans))
    ∙ ap (λ (n : ℕ). span.1 + n) (numbered_bytes name blob (number + 1) spans true e) ∙ sym (sum_by-cons (λ (each : ℕ × ℕ). each.1) span spans)
numbered_bytes name blob number (span ∷ spans) false e =
    ap (λ (z : Bool). sum_by (λ (piece : Piece). piece.len) (cond z (record { number = number; blob = blob; from = span.0; len = span.1 }
    ∷ filter (λ (piece : Piece). piece.blob == name) (numbered blob (number + 1) spans))
    (filter (λ (piece : Piece). piece.blob == name) (numbered blob (number + 1) spans)))) e
    ∙ numbered_bytes name blob (number + 1) spans false e

spans_bytes : (l : Limits) (build : Build) (plan : Option Plan) → sum_by (λ (span : ℕ × ℕ). span.1) (planned_spans l.page build plan) ≤ own_bytes build.parts
spans_bytes l build None = omega arith
spans_bytes l build (Some plan) =
    let whole : 0 + sum_by (λ (span : ℕ × ℕ). span.1) (piece_spans l.page 0 (own_lengths build.parts)) ≡ 0 + sum (own_lengths build.parts) =
    cover_sum (piece_spans l.page 0 (own_lengths build.parts)) 0 (0 + sum (own_lengths build.parts))
    (pieces_cover l.page (own_lengths build.parts) 0 l.some_page) in
    omega (arith, whole)

other_bytes : (page number name : ℕ) (list : List Build) → named name list ≡ false → of_blob name (pieces_from page number list) ≡ 0
other_bytes page number name [] e = refl
other_bytes page number name (build ∷ list) e =
    let parts = or_parts (build.name == name) (named name list) e in
    ap (sum_by (λ (piece : Piece). piece.len)) (filter_append (λ (piece : Piece). piece.blob == name) (numbered build.name number (spans_of page build))
    (pieces_from page (number + length (spans_of page build)) list))
    ∙ sum_by-append (λ (piece : Piece). piece.len) (filter (λ (piece : Piece). piece.blob == name) (numbered build.name number (spans_of page build)))
    (filter (λ (piece : Piece). piece.blob == name) (pieces_from page (number + length (spans_of page build)) list))
    ∙ (λ i. numbered_bytes name build.name number (spans_of page build) false parts.0 i + other_bytes page (number + length (spans_of page build)) name list
    parts.1 i)

pub blob_bytes : (l : Limits) (number name : ℕ) (list : List Build) → Distinct list → of_blob name (pieces_from l.page number list) ≤ option_map_or
    (λ (build : Build). own_bytes build.parts) (build_in list name) 0
blob_bytes l number name [] d = omega arith
blob_bytes l number name (build ∷ list) d = go (build.name == name) refl (blob_bytes l (number + length (spans_of l.page build)) name list d.1)
  where
    whole : of_blob name (pieces_from l.page number (build ∷ list)) ≡ of_blob name (numbered build.name number (spans_of l.page build)) + of_blob name
        (pieces_from l.page (number + length (spans_of l.page build)) list)
    whole =
        ap (sum_by (λ (piece : Piece). piece.len)) (filter_append (λ (piece : Piece). piece.blob == name) (numbered build.name number (spans_of l.page build))
        (pieces_from l.page (number + length (spans_of l.page build)) list))
        ∙ sum_by-append (λ (piece : Piece). piece.len) (filter (λ (piece : Piece). piece.blob == name) (numbered build.name number (spans_of l.page build)))
        (filter (λ (piece : Piece). piece.blob == name) (pieces_from l.page (number + length (spans_of l.page build)) list))

    go : (b : Bool) → (build.name == name) ≡ b → of_blob name (pieces_from l.page (number + length (spans_of l.page build)) list) ≤ option_map_or
        (λ (each : Build). own_bytes each.parts) (build_in list name) 0
        → of_blob name (pieces_from l.page number (build ∷ list)) ≤ option_map_or (λ (each : Build). own_bytes each.parts)
        (cond b (Some build) (build_in list name)) 0
    go true e rest =
        let same : build.name ≡ name = eqb-true build.name name e in
        let none : of_blob name (pieces_from l.page (number + length (spans_of l.page build)) list) ≡ 0 =
        other_bytes l.page (number + length (spans_of l.page build)) name list (subst (λ (n : ℕ). named n list ≡ false) same d.0) in
        let here : of_blob name (numbered build.name number (spans_of l.page build)) ≡ sum_by (λ (span : ℕ × ℕ). span.1) (spans_of l.page build) =
        numbered_bytes name build.name number (spans_of l.page build) true e in
        let bound = spans_bytes l build build.plan in
        omega (arith, whole, none, here, bound)
    go false e rest =
        let here : of_blob name (numbered build.name number (spans_of l.page build)) ≡ 0 = numbered_bytes name build.name number (spans_of l.page build) false e
        in
        omega (arith, whole, here, rest)
