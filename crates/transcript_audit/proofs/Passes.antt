-- Passes over blobs, each step after the answers for those before it.
use Rattle.std.proofs.Common.{◌≡◌, ℕ, zero, suc, ◌+◌, ◌<◌, ◌≤◌, Bool, true, false, List, [], ◌∷◌, ◌++◌, length, drop, map, Option, Some, refl, sym, ap, subst, ◌∙◌, arith, append_assoc, append-nil, if◌then◌else◌}
use Rattle.std.specs.Prelude.{nat_le, slice_get}
use Rattle.std.specs.Option.{option_map_or}
use Rattle.std.proofs.lemmas.List.{drop_all}
use Rattle.blob_model.proofs.builds.Growth.{builds-said}
use Rattle.answer_text.specs.declared.answer.Answer.{Answer}
use Rattle.answer_text.specs.declared.answer.Answer.TheVariants as answers
use Rattle.blob_model.specs.Session.{Session, page_limit}
use Rattle.blob_model.specs.History.{History, said, said_all}
use Rattle.blob_model.specs.Parts.{own_bytes}
use Rattle.blob_model.specs.Builds.{Build, builds}
use Rattle.blob_model.specs.Tally.{memory}
use Rattle.blob_model.specs.Settle.{ending_answers, endings_of, endings, grants_of}
use Rattle.history_notions.specs.declared.course.Course.{Course}
use Rattle.history_notions.specs.FollowsCourse.{FollowsCourse}
use Rattle.transcript_audit.specs.Owed.{head, grants_to}

-- answers one after the other
pub said_append : (h : History) (xs ys : List Answer) → said_all h (xs ++ ys) ≡ said_all (said_all h xs) ys
said_append h [] ys = refl
said_append h (x ∷ xs) ys = said_append (said h x) xs ys

pub said_more : (h : History) (xs : List Answer) (x : Answer) → said_all h (xs ++ x ∷ []) ≡ said (said_all h xs) x
said_more h xs x = said_append h xs (x ∷ [])

-- the pass over the blobs has come so far
pub record IsEnding (s : Session) (h k : History) (course : Course) (place : ℕ) (before after : List Answer) : Type 0 where
  pub follows : FollowsCourse s k course
  pub same : builds (page_limit s) k ≡ builds (page_limit s) h
  pub rest : after ++ endings_of s k (drop place (builds (page_limit s) h)) ≡ before ++ endings s h
  pub ends : said_all k (endings_of s k (drop place (builds (page_limit s) h))) ≡ said_all h (endings s h)

-- and so has the pass over those that wait
pub record IsGranting (s : Session) (h k : History) (course : Course) (heads : List (ℕ × ℕ)) (place : ℕ) (before after : List Answer) : Type 0 where
  pub follows : FollowsCourse s k course
  pub rest : after ++ grants_to s k (drop place heads) ≡ before ++ grants_to s h heads
  pub ends : said_all k (grants_to s k (drop place heads)) ≡ said_all h (grants_to s h heads)

pub grants_alike : (s : Session) (h : History) (list : List Build) → grants_to s h (map head list) ≡ grants_of s h list
grants_alike s h [] = refl
grants_alike s h (build ∷ list) =
    ap (λ (more : List Answer). if nat_le (memory (page_limit s) h + own_bytes build.parts) s.limits.memory then answers.Granted build.name ∷ more else [])
    (grants_alike s (said h (answers.Granted build.name)) list)

-- an item of a list, and what is behind it
pub split_at : {X : Type 0} (xs : List X) (i : ℕ) → i < length xs → (x : X) × (slice_get xs i ≡ Some x) × (drop i xs ≡ x ∷ drop (i + 1) xs)
split_at [] i below = absurd (omega (arith, below))
split_at (x ∷ xs) zero below = (x, refl, refl)
split_at (x ∷ xs) (suc i) below =
    let rest = split_at xs i (omega (arith, below)) in
    let e : suc i + 1 ≡ suc (i + 1) = omega arith in
    (rest.0, rest.1, rest.2 ∙ sym (ap (λ (n : ℕ). rest.0 ∷ drop n (x ∷ xs)) e))

ending_done : (s : Session) (h k : History) (course next : Course) (place : ℕ) (before after new : List Answer) (build : Build) (told : List Answer)
    → IsEnding s h k course place before after → drop place (builds (page_limit s) h) ≡ build ∷ drop (place + 1) (builds (page_limit s) h)
    → told ≡ ending_answers s k build → FollowsCourse s (said_all k told) next → new ≡ after ++ told → IsEnding s h (said_all k told) next (place + 1) before
    new
ending_done s h k course next place before after new build told far split same follows grown =
    let rest : List Build = drop (place + 1) (builds (page_limit s) h) in
    let whole : told ++ endings_of s (said_all k told) rest ≡ endings_of s k (drop place (builds (page_limit s) h)) =
    ap (λ (list : List Answer). list ++ endings_of s (said_all k list) rest) same ∙ sym (ap (endings_of s k) split) in
    record {
      follows = follows;
      same = builds-said (page_limit s) k told ∙ far.same;
      rest =
          ap (λ (list : List Answer). list ++ endings_of s (said_all k told) rest) grown
          ∙ append_assoc after told (endings_of s (said_all k told) rest)
          ∙ ap (λ (list : List Answer). after ++ list) whole
          ∙ far.rest;
      ends = sym (said_append k told (endings_of s (said_all k told) rest)) ∙ ap (said_all k) whole ∙ far.ends;
    }

-- one blob more is looked at
pub ending_step : (s : Session) (h k : History) (course next : Course) (place : ℕ) (before after new : List Answer)
    → IsEnding s h k course place before after → place < length (builds (page_limit s) h)
    → FollowsCourse s (said_all k (option_map_or (ending_answers s k) (slice_get (builds (page_limit s) k) place) [])) next
    → new ≡ after ++ option_map_or (ending_answers s k) (slice_get (builds (page_limit s) k) place) []
    → IsEnding s h (said_all k (option_map_or (ending_answers s k) (slice_get (builds (page_limit s) k) place) [])) next (place + 1) before new
ending_step s h k course next place before after new far below follows grown =
    let item = split_at (builds (page_limit s) h) place below in
    let same : option_map_or (ending_answers s k) (slice_get (builds (page_limit s) k) place) [] ≡ ending_answers s k item.0 =
    ap (λ (list : List Build). option_map_or (ending_answers s k) (slice_get list place) []) far.same
    ∙ ap (λ (found : Option Build). option_map_or (ending_answers s k) found []) item.1 in
    ending_done s h k course next place before after new item.0 (option_map_or (ending_answers s k) (slice_get (builds (page_limit s) k) place) []) far item.2
    same follows grown

-- all blobs were looked at
pub ending_end : (s : Session) (h k : History) (course : Course) (place : ℕ) (before after : List Answer) → length (builds (page_limit s) h) ≤ place
    → IsEnding s h k course place before after → (after ≡ before ++ endings s h) × FollowsCourse s (said_all h (endings s h)) course
ending_end s h k course place before after over far =
    let none : drop place (builds (page_limit s) h) ≡ [] = drop_all place (builds (page_limit s) h) over in
    let ends : k ≡ said_all h (endings s h) = sym (ap (λ (list : List Build). said_all k (endings_of s k list)) none) ∙ far.ends in (
      sym (append-nil after) ∙ sym (ap (λ (list : List Build). after ++ endings_of s k list) none) ∙ far.rest,
      subst (λ (each : History). FollowsCourse s each course) ends far.follows,
    )

-- at the start nothing was looked at
pub ending_start : (s : Session) (h : History) (course : Course) (before : List Answer) → FollowsCourse s h course → IsEnding s h h course 0 before before
ending_start s h course before follows = record { follows = follows; same = refl; rest = refl; ends = refl }

pub granting_start : (s : Session) (h : History) (course : Course) (heads : List (ℕ × ℕ)) (before : List Answer) → FollowsCourse s h course
    → IsGranting s h h course heads 0 before before
granting_start s h course heads before follows = record { follows = follows; rest = refl; ends = refl }

-- the first of those that wait fits, or doesn't
head_fits : (s : Session) (k : History) (one : ℕ × ℕ) (more : List (ℕ × ℕ)) → nat_le (memory (page_limit s) k + one.1) s.limits.memory ≡ true
    → grants_to s k (one ∷ more) ≡ answers.Granted one.0 ∷ grants_to s (said k (answers.Granted one.0)) more
head_fits s k one more fits =
    ap (λ (b : Bool). if b then answers.Granted one.0 ∷ grants_to s (said k (answers.Granted one.0)) more else []) fits

head_waits : (s : Session) (k : History) (one : ℕ × ℕ) (more : List (ℕ × ℕ)) → nat_le (memory (page_limit s) k + one.1) s.limits.memory ≡ false
    → grants_to s k (one ∷ more) ≡ []
head_waits s k one more fits =
    ap (λ (b : Bool). if b then answers.Granted one.0 ∷ grants_to s (said k (answers.Granted one.0)) more else []) fits

pub granting_step : (s : Session) (h k : History) (course next : Course) (heads : List (ℕ × ℕ)) (place : ℕ) (before after new : List Answer) (one : ℕ × ℕ)
    → IsGranting s h k course heads place before after → drop place heads ≡ one ∷ drop (place + 1) heads
    → nat_le (memory (page_limit s) k + one.1) s.limits.memory ≡ true → FollowsCourse s (said k (answers.Granted one.0)) next → new ≡ after
    ++ answers.Granted one.0 ∷ []
    → IsGranting s h (said k (answers.Granted one.0)) next heads (place + 1) before new
granting_step s h k course next heads place before after new one far split fits follows grown =
    let rest : List (ℕ × ℕ) = drop (place + 1) heads in
    let whole : answers.Granted one.0 ∷ grants_to s (said k (answers.Granted one.0)) rest ≡ grants_to s k (drop place heads) =
    sym (ap (grants_to s k) split ∙ head_fits s k one rest fits) in
    record {
      follows = follows;
      rest =
          ap (λ (list : List Answer). list ++ grants_to s (said k (answers.Granted one.0)) rest) grown
          ∙ append_assoc after (answers.Granted one.0 ∷ []) (grants_to s (said k (answers.Granted one.0)) rest)
          ∙ ap (λ (list : List Answer). after ++ list) whole
          ∙ far.rest;
      ends = ap (said_all k) whole ∙ far.ends;
    }

granting_none : (s : Session) (h k : History) (course : Course) (heads : List (ℕ × ℕ)) (place : ℕ) (before after : List Answer)
    → grants_to s k (drop place heads) ≡ []
    → IsGranting s h k course heads place before after → (after ≡ before ++ grants_to s h heads) × FollowsCourse s (said_all h (grants_to s h heads)) course
granting_none s h k course heads place before after none far =
    let ends : k ≡ said_all h (grants_to s h heads) = sym (ap (said_all k) none) ∙ far.ends in (
      sym (append-nil after) ∙ sym (ap (λ (list : List Answer). after ++ list) none) ∙ far.rest,
      subst (λ (each : History). FollowsCourse s each course) ends
          far.follows,
    )

-- the pass ends at the first that doesn't fit, or behind the last
pub granting_stop : (s : Session) (h k : History) (course : Course) (heads : List (ℕ × ℕ)) (place : ℕ) (before after : List Answer) (one : ℕ × ℕ)
    → IsGranting s h k course heads place before after → drop place heads ≡ one ∷ drop (place + 1) heads
    → nat_le (memory (page_limit s) k + one.1) s.limits.memory ≡ false
    → (after ≡ before ++ grants_to s h heads) × FollowsCourse s (said_all h (grants_to s h heads)) course
granting_stop s h k course heads place before after one far split waits =
    granting_none s h k course heads place before after (ap (grants_to s k) split ∙ head_waits s k one (drop (place + 1) heads) waits) far

pub granting_end : (s : Session) (h k : History) (course : Course) (heads : List (ℕ × ℕ)) (place : ℕ) (before after : List Answer) → length heads ≤ place
    → IsGranting s h k course heads place before after → (after ≡ before ++ grants_to s h heads) × FollowsCourse s (said_all h (grants_to s h heads)) course
granting_end s h k course heads place before after over far =
    granting_none s h k course heads place before after (ap (grants_to s k) (drop_all place heads over)) far

-- seven lists one after the other
pub said_seven : (h : History) (a b c d e f g : List Answer)
    → said_all h (a ++ (b ++ (c ++ (d ++ (e ++ (f ++ (g ++ []))))))) ≡ said_all (said_all (said_all (said_all (said_all (said_all (said_all h a) b) c) d) e) f)
    g
said_seven h a b c d e f g =
    said_append h a (b ++ (c ++ (d ++ (e ++ (f ++ (g ++ []))))))
    ∙ said_append (said_all h a) b (c ++ (d ++ (e ++ (f ++ (g ++ [])))))
    ∙ said_append (said_all (said_all h a) b) c (d ++ (e ++ (f ++ (g ++ []))))
    ∙ said_append (said_all (said_all (said_all h a) b) c) d (e ++ (f ++ (g ++ [])))
    ∙ said_append (said_all (said_all (said_all (said_all h a) b) c) d) e (f ++ (g ++ []))
    ∙ said_append (said_all (said_all (said_all (said_all (said_all h a) b) c) d) e) f (g ++ [])
    ∙ said_append (said_all (said_all (said_all (said_all (said_all (said_all h a) b) c) d) e) f) g []

pub seven : (a b c d e f g : List Answer) → ((((((a ++ b) ++ c) ++ d) ++ e) ++ f) ++ g) ≡ a ++ (b ++ (c ++ (d ++ (e ++ (f ++ (g ++ []))))))
seven a b c d e f g = simp (append_assoc, append-nil)
