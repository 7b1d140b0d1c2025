-- Reached pieces are granted; what a settled history says of thin page files.
use Rattle.std.proofs.Common.{◌≡◌, ℕ, ◌+◌, ◌-◌, ◌*◌, ◌≤◌, ◌<◌, Bool, true, false, ◌&&◌, List, [], ◌∷◌, ◌++◌, filter, refl, subst, arith, Option, Some, None}
use Rattle.std.specs.Prelude.{cond, find, sum_by, nat_le}
use Rattle.std.specs.Option.{option_map, option_to_list}
use Rattle.std.specs.List.{AllByRecursion}
use Rattle.std.proofs.lemmas.Bool.{and_parts, leb-false, ltb-false}
use Rattle.std.proofs.lemmas.List.Sums.{sum_by-cons}
use Rattle.answer_text.specs.declared.answer.Answer.{Answer}
use Rattle.blob_model.specs.Session.{Session, page_limit}
use Rattle.blob_model.specs.History.{History, said_all}
use Rattle.blob_model.specs.Builds.{builds}
use Rattle.blob_model.specs.Pieces.{Piece, pieces}
use Rattle.blob_model.specs.Reached.{reached, live_cells, is_granted_piece, owns_some}
use Rattle.blob_model.specs.Pages.{Page, page_size}
use Rattle.blob_model.specs.Jobs.{paging, in_flight}
use Rattle.blob_model.specs.Tally.{reserved_of, bytes_of, files, disk, job_left_in}
use Rattle.blob_model.specs.Settle.{settle_by, IsSettled, drops, endings, removals, grants, page_jobs, compactions, compaction, movable, can_move, may_start}
use Rattle.blob_model.specs.LegalLaws.{reached_bytes, is_thin_now}
use Rattle.blob_model.proofs.Lists.{false_true}

-- what passes a filter passes its first test
kept_first : {X : Type 0} (p q : X → Bool) (xs : List X) → AllByRecursion (λ (x : X). p x ≡ true) (filter (λ (x : X). p x && q x) xs)
kept_first p q [] = tt
kept_first {X = X} p q (x ∷ xs) = go (p x && q x) refl (kept_first p q xs)
  where
    go : (b : Bool) → (p x && q x) ≡ b → AllByRecursion (λ (y : X). p y ≡ true) (filter (λ (y : X). p y && q y) xs)
        → AllByRecursion (λ (y : X). p y ≡ true) (cond b (x ∷ filter (λ (y : X). p y && q y) xs) (filter (λ (y : X). p y && q y) xs))
    go true e rest = ((and_parts (p x) (q x) e).0, rest)
    go false e rest = rest

pub reached_granted : (page : ℕ) (h : History) → AllByRecursion (λ (piece : Piece). is_granted_piece h (builds page h) piece ≡ true) (reached page h)
reached_granted page h = kept_first (is_granted_piece h (builds page h)) (owns_some (live_cells page h)) (pieces page h)

-- ---- settled histories

pub nil_parts : {X : Type 0} (xs ys : List X) → xs ++ ys ≡ [] → (xs ≡ []) × (ys ≡ [])
nil_parts [] ys e = (refl, e)
nil_parts (x ∷ xs) ys e = cc

-- where nothing is owed each list is empty at once
abbrev pub AllEmpty : List (History → List Answer) → History → Type 0
AllEmpty steps h = AllByRecursion (λ (step : History → List Answer). step h ≡ []) steps

pub all_empty : (steps : List (History → List Answer)) (h : History) → settle_by steps h ≡ [] → AllEmpty steps h
all_empty [] h e = tt
all_empty (step ∷ steps) h e =
    let parts = nil_parts (step h) (settle_by steps (said_all h (step h))) e in
    let here : settle_by steps h ≡ [] = subst (λ (list : List Answer). settle_by steps (said_all h list) ≡ []) parts.0 parts.1 in
    (parts.0, all_empty steps h here)

pub nothing_moves : (s : Session) (h : History) → IsSettled s h → compactions s h ≡ []
nothing_moves s h settled = (all_empty (drops s ∷ endings s ∷ drops s ∷ removals s [] ∷ grants s ∷ page_jobs s ∷ compactions s ∷ []) h settled).1.1.1.1.1.1.0

-- no page file can be moved
no_movable : (s : Session) (h : History) → compactions s h ≡ [] → paging h ≡ true → in_flight h ≡ None → movable s h ≡ None
no_movable s h e on idle =
    let starts : may_start h ≡ true = rw (on, idle) refl in
    let list : option_to_list (option_map (compaction s h) (movable s h)) ≡ [] = rw starts at e in
    go (movable s h) list
  where
    go : (found : Option Page) → option_to_list (option_map (compaction s h) found) ≡ [] → found ≡ None
    go None f = refl
    go (Some page) f = cc

none_found : {X : Type 0} (test : X → Bool) (xs : List X) → find test xs ≡ None → AllByRecursion (λ (x : X). test x ≡ false) xs
none_found test [] e = tt
none_found {X = X} test (x ∷ xs) e = go (test x) refl (none_found test xs) e
  where
    go : (b : Bool) → test x ≡ b → (find test xs ≡ None → AllByRecursion (λ (y : X). test y ≡ false) xs)
        → cond b (Some x) (find test xs) ≡ None → (test x ≡ false) × AllByRecursion (λ (y : X). test y ≡ false) xs
    go true at rest f = cc
    go false at rest f = (at, rest f)

for_all : {X : Type 0} (P Q : X → Type 0) (xs : List X) → ((x : X) → P x → Q x) → AllByRecursion P xs → AllByRecursion Q xs
for_all P Q [] f all = tt
for_all P Q (x ∷ xs) f all = (f x all.0, for_all P Q xs f all.1)

second_false : (x y : Bool) → (x && y) ≡ false → x ≡ true → y ≡ false
second_false true y e f = e
second_false false y e f = absurd (false_true f)

pub thin_stays : (s : Session) (h : History) → IsSettled s h → paging h ≡ true → in_flight h ≡ None
    → AllByRecursion (λ (page : Page). is_thin_now s h page ≡ true → s.limits.disk - disk (page_limit s) h < reached_bytes s h page) (files (page_limit s) h)
thin_stays s h settled on idle =
    let all = builds (page_limit s) h in
    let none : movable s h ≡ None = no_movable s h (nothing_moves s h settled) on idle in
    for_all
    (λ (page : Page). can_move s h (builds (page_limit s) h) (pieces (page_limit s) h) (reached (page_limit s) h) page ≡ false)
    (λ (page : Page). is_thin_now s h page ≡ true → s.limits.disk - disk (page_limit s) h < reached_bytes s h page)
    (files (page_limit s) h)
    (λ page stays thin. leb-false (reached_bytes s h page) (s.limits.disk - disk (page_limit s) h)
    (second_false (is_thin_now s h page) (nat_le (reached_bytes s h page) (s.limits.disk - disk (page_limit s) h)) stays thin))
    (none_found (can_move s h (builds (page_limit s) h) (pieces (page_limit s) h) (reached (page_limit s) h)) (files (page_limit s) h) none)

sum_twice : {X : Type 0} (f g : X → ℕ) (xs : List X) → AllByRecursion (λ (x : X). f x ≤ 2 * g x) xs → sum_by f xs ≤ 2 * sum_by g xs
sum_twice f g [] all = omega arith
sum_twice f g (x ∷ xs) all =
    let rest : sum_by f xs ≤ 2 * sum_by g xs = sum_twice f g xs all.1 in
    let here : f x ≤ 2 * g x = all.0 in
    rw (sum_by-cons f x xs, sum_by-cons g x xs) (omega arith)

job_empty : (h : History) (list : List Piece) → in_flight h ≡ None → job_left_in h list ≡ []
job_empty h list idle = rw idle refl

pub at_most_twice : (s : Session) (h : History) → in_flight h ≡ None → AllByRecursion (λ (page : Page). is_thin_now s h page ≡ false) (files (page_limit s) h)
    → disk (page_limit s) h ≤ 2 * sum_by (reached_bytes s h) (files (page_limit s) h) + bytes_of
    (reserved_of h (builds (page_limit s) h) (reached (page_limit s) h))
at_most_twice s h idle thick =
    let each : AllByRecursion (λ (page : Page). page_size (pieces (page_limit s) h) page ≤ 2 * reached_bytes s h page) (files (page_limit s) h) =
    for_all (λ (page : Page). is_thin_now s h page ≡ false) (λ (page : Page). page_size (pieces (page_limit s) h) page ≤ 2 * reached_bytes s h page)
    (files (page_limit s) h)
    (λ page fat. ltb-false (2 * reached_bytes s h page) (page_size (pieces (page_limit s) h) page) fat) thick in
    let written : sum_by (page_size (pieces (page_limit s) h)) (files (page_limit s) h) ≤ 2 * sum_by (reached_bytes s h) (files (page_limit s) h) =
    sum_twice (page_size (pieces (page_limit s) h)) (reached_bytes s h) (files (page_limit s) h) each in
    rw (job_empty h (reached (page_limit s) h) idle) (omega (arith, written))
