-- The pass over entries that agree with blobs tells the endings of the blobs.
use Rattle.std.proofs.Common.{◌≡◌, ℕ, ◌+◌, ◌<◌, ◌≤◌, ◌==◌, Bool, true, false, cond, ◌&&◌, ◌||◌, not, List, [], ◌∷◌, ◌++◌, map, length}
use Rattle.std.proofs.Common.{refl, ap, subst, sym, ◌∙◌, Option, Some, None, nat_lt, arith, length-append}
use Rattle.std.specs.Prelude.{IfSome, IsSomeAnd, is_none, slice_index}
use Rattle.std.specs.Option.{option_map_or, option_to_list}
use Rattle.std.proofs.lemmas.Bool.{eqb-true}
use Rattle.std.proofs.lemmas.Bool.Decides.{nat_tests}
use Rattle.std.proofs.lemmas.List.{get_or_append_left, get_or_push, map-append}
use Rattle.answer_text.specs.declared.answer.Answer.{Answer}
use Rattle.blob_words.specs.declared.status.Status.{Status}
use Rattle.blob_words.specs.declared.version.Version.{Version}
use Rattle.blob_words.specs.declared.version.Version.TheVariants.{One, Two}
use Rattle.blob_entries.specs.Book.{entry_at}
use Rattle.blob_entries.specs.Endings.{ending_at}
use Rattle.blob_entries.specs.Names.{number_of}
use Rattle.blob_entries.specs.Sound.{AreSound, IsSound}
use Rattle.blob_entries.specs.declared.entry.Entry.{Entry}
use Rattle.blob_entries.proofs.Numbers.{name_there}
use Rattle.blob_registry.specs.Passes.{ending_list, endings, passed}
use Rattle.blob_model.specs.Builds.{Build}
use Rattle.blob_model.specs.History.{History, said, said_all}
use Rattle.blob_model.specs.Jobs.{breaks_waiting, unstored}
use Rattle.blob_model.specs.Live.{is_rooted}
use Rattle.blob_model.specs.Order.{named, Distinct}
use Rattle.blob_model.specs.Renderers.{is_alive}
use Rattle.blob_model.specs.Session.{Session, page_limit}
use Rattle.blob_model.specs.Settle as settle
use Rattle.blob_model.specs.Settle.{ending_answers, ending_tests, endings_of, is_deserted, is_unwritten}
use Rattle.blob_model.specs.Standing.{ended, grants_at_once, is_granted, was_granted}
use Rattle.blob_model.specs.Transport.{has_all}
use Rattle.blob_model.specs.Waits.{is_shared}
use Rattle.blob_model.specs.Choice.{first_that}
use Rattle.blob_model.proofs.Lists.{or_first, or_second}
use Rattle.blob_model.proofs.settled.Endings.{ending_grants, ending_only, one_by, some_that}
use Rattle.blob_words.specs.declared.status.Status.TheVariants as statuses
use Rattle.registry_laws.specs.Agree.{Agrees, AgreesToEnd, Beside, breaks_as, told}
use Rattle.registry_laws.specs.Laws.{ending_answer}
use Rattle.registry_laws.proofs.Ends.{AreKnown, HasEnded, end_same, told_after}
use Rattle.registry_laws.proofs.Lives.{IsBehind, behind_here, behind_next}
use Rattle.registry_laws.proofs.Places.{ArePlaced, other_name, same_name}

abbrev Entries : Type 0
Entries = List (Option Entry)

-- ---- what an ending leaves of another blob

-- all that agreement reads of a blob stands as it did
pub record StandsAs (s : Session) (g next : History) (build : Build) : Type 0 where
  pub end : ended next build.name ≡ ended g build.name
  pub grant : was_granted next build.name ≡ was_granted g build.name
  pub write : unstored next ≡ unstored g
  pub paging : breaks_waiting s.version next ≡ breaks_waiting s.version g
  pub builder : is_alive next build.builder ≡ is_alive g build.builder
  pub segments : has_all s.limits next build ≡ has_all s.limits g build
  pub root : is_rooted (page_limit s) next build.name ≡ is_rooted (page_limit s) g build.name

pub breaks_said : (version : Version) (h : History) (answer : Answer) → breaks_waiting version (said h answer) ≡ breaks_waiting version h
breaks_said One h answer = refl
breaks_said Two h answer = refl

pub stands_as : (s : Session) (g : History) (build other : Build) → (build.name == other.name) ≡ false
    → StandsAs s g (said_all g (ending_answers s g build)) other
stands_as s g build other apart =
    one_by s g build (λ (list : List Answer). StandsAs s g (said_all g list) other)
    (record { end = refl; grant = refl; write = refl; paging = refl; builder = refl; segments = refl; root = refl })
    (λ answer e. record {
      end = ending_only s g build answer other.name e apart;
      grant = ending_grants s g build answer other.name e;
      write = some_that (λ (each : Answer). unstored (said g each) ≡ unstored g) (ending_tests s g build) answer (refl, (refl, (refl, (refl, tt)))) e;
      paging = breaks_said s.version g answer;
      builder = refl;
      segments = refl;
      root = refl;
    })

pub granted_as : (s : Session) (g next : History) (build : Build) → StandsAs s g next build → is_granted next build ≡ is_granted g build
granted_as s g next build same = ap (λ (b : Bool). option_map_or grants_at_once build.plan false || b) same.grant

pub breaks_same : (s : Session) (g next : History) (build : Build) → StandsAs s g next build → breaks_as s next build ≡ breaks_as s g build
breaks_same s g next build same =
    let written : is_unwritten s next build ≡ is_unwritten s g build =
    λ i. option_map_or (λ (name : ℕ). name == build.name) (same.write i) false
    || (same.paging i && (is_none (same.end i) && is_shared build.plan && not (same.grant i))) in
    let deserted : is_deserted s next build ≡ is_deserted s g build =
    λ i. not (same.builder i) && (not (same.segments i) || not (granted_as s g next build same i)) in
    λ i. first_that ((written i, statuses.FileWriteFailed) ∷ (deserted i, statuses.SourceDied) ∷ [])

pub agrees_as : (s : Session) (g next : History) (build : Build) (held : Option Entry) → StandsAs s g next build → Agrees (page_limit s) g build held
    → Agrees (page_limit s) next build held
agrees_as s g next build None same agree = record {
  ended = ap (λ (o : Option Status). is_none o) same.end ∙ agree.ended;
  unrooted = same.root ∙ agree.unrooted;
}
agrees_as s g next build (Some entry) same agree = record { status = agree.status ∙ sym same.end; roots = agree.roots ∙ sym same.root; sources = agree.sources }

pub marked_as : (s : Session) (g next : History) (build : Build) (held : Option Entry) → StandsAs s g next build → AgreesToEnd s g build held
    → AgreesToEnd s next build held
marked_as s g next build None same marked = tt
marked_as s g next build (Some entry) same marked = λ pending.
    let mark = marked pending in record {
      mark = mark.mark ∙ sym (breaks_same s g next build same);
      bytes = λ none. mark.bytes none ∙ (λ i. sym (granted_as s g next build same) i && sym same.segments i);
    }

-- what is kept of each named blob is kept of all
pub all_kept : (P Q : Build → Option Entry → Type 0) (list : List Build) (entries : Entries)
    → ((build : Build) (held : Option Entry) → named build.name list ≡ true → P build held → Q build held)
    → Beside P list entries → Beside Q list entries
all_kept P Q [] [] keeps beside = tt
all_kept P Q [] (held ∷ later) keeps beside = absurd beside
all_kept P Q (build ∷ list) [] keeps beside = absurd beside
all_kept P Q (build ∷ list) (held ∷ later) keeps beside = (
  keeps build held (or_first (build.name == build.name) (named build.name list) (self build.name)) beside.0,
  all_kept P Q list later (λ other held there. keeps other held (or_second (build.name == other.name) (named other.name list) there)) beside.1,
)
  where
    self : (n : ℕ) → (n == n) ≡ true
    self n = grind (arith, nat_tests)

-- ---- the pass

module _ (s : Session) (names : List ℕ) (whole : Entries) (sound : AreSound names whole) where
  pub sound_at : (number : ℕ) (held : Option Entry) (later : Entries) → IsBehind whole number (held ∷ later) → IfSome held (IsSound names whole number)
  sound_at number held later behind =
      subst (λ (each : Option Entry). IfSome each (IsSound names whole number)) (behind_here whole number held later behind) (sound.each number)

  one_same : (earlier : Entries) (g : History) (build : Build) (held : Option Entry) → AreKnown names whole earlier g
      → IfSome held (IsSound names whole (length earlier))
      → Agrees (page_limit s) g build held → AgreesToEnd s g build held
      → map ending_answer (ending_list build.name (ending_at names earlier held)) ≡ ending_answers s g build
  one_same earlier g build None known fine agree marked = sym (ap (λ (b : Bool). cond b (option_to_list (settle.ending s g build)) []) agree.ended)
  one_same earlier g build (Some entry) known fine agree marked = end_same names whole earlier g known s (page_limit s) build entry fine agree marked

  -- one entry more is known
  pub known_next : (earlier : Entries) (g : History) (build : Build) (held : Option Entry) → AreKnown names whole earlier g
      → number_of build.name names ≡ Some (length earlier) → entry_at whole (length earlier) ≡ held
      → IfSome held (IsSound names whole (length earlier)) → Agrees (page_limit s) g build held → AgreesToEnd s g build held
      → AreKnown names whole (earlier ++ passed names earlier held ∷ []) (said_all g (ending_answers s g build))
  known_next earlier g build held known placed here fine agree marked = record {
    known = λ name k entry below at is. pick name k entry below at is (nat_lt k (length earlier)) refl;
  }
    where
      before : (name k : ℕ) (entry : Entry) → k < length earlier → number_of name names ≡ Some k → entry_at whole k ≡ Some entry
          → HasEnded (said_all g (ending_answers s g build)) name (entry_at (earlier ++ passed names earlier held ∷ []) k)
      before name k entry below at is =
          let kept : ended (said_all g (ending_answers s g build)) name ≡ ended g name =
          one_by s g build (λ (list : List Answer). ended (said_all g list) name ≡ ended g name) refl
          (λ answer e. ending_only s g build answer name e (apart (build.name == name) refl)) in
          subst (HasEnded (said_all g (ending_answers s g build)) name)
          (sym (get_or_append_left earlier (passed names earlier held ∷ []) None k below))
          (subst (λ (status : Option Status). IsSomeAnd (entry_at earlier k) (λ (now : Entry). told now.status ≡ status)) (sym kept)
          (known.known name k entry below at is))
        where
          apart : (b : Bool) → (build.name == name) ≡ b → b ≡ false
          apart false e = refl
          apart true e =
              let same : Some k ≡ Some (length earlier) = sym at ∙ ap (λ (n : ℕ). number_of n names) (sym (eqb-true build.name name e)) ∙ placed in
              let equal : k ≡ length earlier = cc in
              absurd (omega arith)

      last : (name k : ℕ) (entry : Entry) → k ≡ length earlier → number_of name names ≡ Some k → entry_at whole k ≡ Some entry
          → HasEnded (said_all g (ending_answers s g build)) name (entry_at (earlier ++ passed names earlier held ∷ []) k)
      last name k entry same at is =
          let one : name ≡ build.name = same_name names name build.name (length earlier) (at ∙ ap (λ (n : ℕ). Some n) same) placed in
          subst (HasEnded (said_all g (ending_answers s g build)) name)
          (sym (get_or_push earlier (passed names earlier held) None k (sym same)))
          (subst (λ (n : ℕ). HasEnded (said_all g (ending_answers s g build)) n (passed names earlier held)) (sym one)
          (it held fine agree marked (sym here ∙ ap (entry_at whole) (sym same) ∙ is)))
        where
          it : (each : Option Entry) → IfSome each (IsSound names whole (length earlier)) → Agrees (page_limit s) g build each → AgreesToEnd s g build each
              → each ≡ Some entry
              → HasEnded (said_all g (ending_answers s g build)) build.name (passed names earlier each)
          it None fine agree marked is = absurd (cc)
          it (Some own) fine agree marked is = told_after names whole earlier g known s (page_limit s) build own fine agree marked

      pick : (name k : ℕ) (entry : Entry) → k < length (earlier ++ passed names earlier held ∷ []) → number_of name names ≡ Some k
          → entry_at whole k ≡ Some entry → (b : Bool) → nat_lt k (length earlier) ≡ b
          → HasEnded (said_all g (ending_answers s g build)) name (entry_at (earlier ++ passed names earlier held ∷ []) k)
      pick name k entry below at is true e = let within : k < length earlier = grind (arith, nat_tests) in before name k entry within at is
      pick name k entry below at is false e =
          let long : length (earlier ++ passed names earlier held ∷ []) ≡ length earlier + 1 = length-append earlier (passed names earlier held ∷ []) in
          let behind : length earlier ≤ k = grind (arith, nat_tests) in
          let same : k ≡ length earlier = omega arith in
          last name k entry same at is

  pub endings_so : (earlier : Entries) (g : History) (list : List Build) (entries : Entries) → Distinct list → ArePlaced names (length earlier) list
      → Beside (Agrees (page_limit s) g) list entries
      → Beside (AgreesToEnd s g) list entries → IsBehind whole (length earlier) entries → AreKnown names whole earlier g
      → map ending_answer (endings names earlier entries) ≡ endings_of s g list
  endings_so earlier g [] [] distinct placed beside marked behind known = refl
  endings_so earlier g [] (held ∷ later) distinct placed beside marked behind known = absurd beside
  endings_so earlier g (build ∷ list) [] distinct placed beside marked behind known = absurd beside
  endings_so earlier g (build ∷ list) (held ∷ later) distinct placed beside marked behind known =
      let fine = sound_at (length earlier) held later behind in
      let next = said_all g (ending_answers s g build) in
      let front = earlier ++ passed names earlier held ∷ [] in
      let long : length earlier + 1 ≡ length front = sym (length-append earlier (passed names earlier held ∷ [])) in
      let same : (other : Build) → named other.name list ≡ true → StandsAs s g next other =
      λ other there. stands_as s g build other (other_name build list other.name distinct.0 there) in
      let head : map ending_answer (ending_list (slice_index names (length earlier)) (ending_at names earlier held)) ≡ ending_answers s g build =
      ap (λ (name : ℕ). map ending_answer (ending_list name (ending_at names earlier held))) (name_there build.name names (length earlier) placed.0)
      ∙ one_same earlier g build held known fine beside.0 marked.0 in
      let rest : map ending_answer (endings names front later) ≡ endings_of s next list =
      endings_so front next list later distinct.1 (subst (λ (n : ℕ). ArePlaced names n list) long placed.1)
      (all_kept (Agrees (page_limit s) g) (Agrees (page_limit s) next) list later (λ other each there. agrees_as s g next other each (same other there))
      beside.1)
      (all_kept (AgreesToEnd s g) (AgreesToEnd s next) list later (λ other each there. marked_as s g next other each (same other there)) marked.1)
      (subst (λ (n : ℕ). IsBehind whole n later) long (behind_next whole (length earlier) held later behind))
      (known_next earlier g build held known placed.0 (behind_here whole (length earlier) held later behind) fine beside.0 marked.0) in
      map-append ending_answer (ending_list (slice_index names (length earlier)) (ending_at names earlier held)) (endings names front later)
      ∙ ap (λ (list : List Answer). list ++ map ending_answer (endings names front later)) head
      ∙ ap (λ (list : List Answer). ending_answers s g build ++ list) rest
