-- The entries that a sweep leaves agree with the history behind its drops.
use Rattle.std.proofs.Common.{◌≡◌, ℕ, ◌+◌, ◌==◌, Bool, true, false, cond, ◌&&◌, not, List, [], ◌∷◌, reverse, refl, ap, subst, sym, ◌∙◌, Option, Some, None}
use Rattle.std.specs.Prelude.{filter, is_none}
use Rattle.std.specs.List.{AllByRecursion}
use Rattle.std.proofs.lemmas.Bool.{and_parts, eq-eqb, eqb-true, or_parts}
use Rattle.std.proofs.lemmas.List.{reverse-reverse}
use Rattle.answer_text.specs.declared.answer.Answer.{Answer}
use Rattle.answer_text.specs.declared.answer.Answer.TheVariants as answers
use Rattle.blob_words.specs.declared.status.Status.TheVariants as statuses
use Rattle.blob_entries.specs.Leaving.{left, shed}
use Rattle.blob_entries.specs.Sound.{AreSound}
use Rattle.blob_entries.specs.Statuses as code
use Rattle.blob_entries.specs.declared.entry.Entry.{Entry}
use Rattle.blob_entries.proofs.Finishing.{broken_apart}
use Rattle.blob_registry.specs.Sweeps.{swept}
use Rattle.blob_model.specs.Builds.{Build, builds}
use Rattle.blob_model.specs.History.{History, said, said_all}
use Rattle.blob_model.specs.Jobs.{breaks_waiting, unstored}
use Rattle.blob_model.specs.Live.{is_live, is_needed, is_rooted}
use Rattle.blob_model.specs.Order.{named, Distinct}
use Rattle.blob_model.specs.Renderers.{is_alive}
use Rattle.blob_model.specs.Session.{Session, page_limit}
use Rattle.blob_model.specs.Settle.{drops}
use Rattle.blob_model.specs.Standing.{ended, is_unfinished, was_granted}
use Rattle.blob_model.specs.Transport.{has_all}
use Rattle.blob_model.proofs.Lists.{all_reverse, false_true, or_first, or_second}
use Rattle.blob_model.proofs.live.Agreement.{builds_all, unfinished_all}
use Rattle.registry_laws.specs.Agree.{Agrees, AgreesToEnd, Beside, IsEntryOf, IsGone}
use Rattle.registry_laws.specs.Laws.{SweepAgrees}
use Rattle.registry_laws.proofs.Drops.{Tells, dropping, goes, lives_named, named_next}
use Rattle.registry_laws.proofs.Lives.{IsBehind, TestsAgree, behind_all, behind_next, live_living, lives, living, test_at, tests_agree}
use Rattle.registry_laws.proofs.Pass.{StandsAs, agrees_as, breaks_said, marked_as}
use Rattle.registry_laws.proofs.Places.{ArePlaced, names_of, other_name, placed}

abbrev Entries : Type 0
Entries = List (Option Entry)

-- ---- what drops leave

pub drops_keep : {X : Type 0} (notion : History → X) → ((g : History) (name : ℕ) → notion (said g (answers.Dropped name)) ≡ notion g)
    → (g : History) (list : List Build)
    → notion (said_all g (dropping list)) ≡ notion g
drops_keep notion keeps g [] = refl
drops_keep notion keeps g (build ∷ list) = drops_keep notion keeps (said g (answers.Dropped build.name)) list ∙ keeps g build.name

-- who lives isn't dropped
living_kept : (h : History) (alive : ℕ → Bool) (g : History) (list : List Build) (name : ℕ) → alive name ≡ true
    → ended (said_all g (dropping (filter (goes h alive) list))) name ≡ ended g name
living_kept h alive g [] name lives = refl
living_kept h alive g (build ∷ list) name lives = go (goes h alive build) refl (λ next. living_kept h alive next list name lives)
  where
    other : goes h alive build ≡ true → (build.name == name) ≡ false
    other drops = pick (build.name == name) refl
      where
        pick : (b : Bool) → (build.name == name) ≡ b → b ≡ false
        pick false e = refl
        pick true e =
            let here : alive build.name ≡ true = subst (λ (n : ℕ). alive n ≡ true) (sym (eqb-true build.name name e)) lives in
            let dead : not (alive build.name) ≡ true = (and_parts (is_unfinished h build.name) (not (alive build.name)) drops).1 in
            absurd (false_true (subst (λ (b : Bool). not b ≡ true) here dead))

    go : (b : Bool) → goes h alive build ≡ b → ((next : History) → ended (said_all next (dropping (filter (goes h alive) list))) name ≡ ended next name)
        → ended (said_all g (dropping (cond b (build ∷ filter (goes h alive) list) (filter (goes h alive) list)))) name ≡ ended g name
    go false e rest = rest g
    go true e rest = rest (said g (answers.Dropped build.name)) ∙ ap (λ (b : Bool). cond b (Some statuses.Dereferenced) (ended g name)) (other e)

pub over : (g : History) (list : List Answer) (name : ℕ) → is_unfinished g name ≡ false → is_unfinished (said_all g list) name ≡ false
over g list name e = go (is_unfinished (said_all g list) name) refl
  where
    go : (b : Bool) → is_unfinished (said_all g list) name ≡ b → b ≡ false
    go false at = refl
    go true at = absurd (false_true (sym e ∙ unfinished_all g list name at))

-- who is dropped has ended
abbrev EndsIn : History → (ℕ → Bool) → History → Build → Type 0
EndsIn h alive next build = goes h alive build ≡ true → is_unfinished next build.name ≡ false

dropped_over : (h : History) (alive : ℕ → Bool) (g : History) (list : List Build)
    → AllByRecursion (EndsIn h alive (said_all g (dropping (filter (goes h alive) list)))) list
dropped_over h alive g [] = tt
dropped_over h alive g (build ∷ list) = go (goes h alive build) refl (λ next. dropped_over h alive next list)
  where
    go : (b : Bool) → goes h alive build ≡ b → ((next : History) → AllByRecursion (EndsIn h alive (said_all next (dropping (filter (goes h alive) list)))) list)
        → (b ≡ true → is_unfinished (said_all g (dropping (cond b (build ∷ filter (goes h alive) list) (filter (goes h alive) list)))) build.name ≡ false)
        × AllByRecursion (EndsIn h alive (said_all g (dropping (cond b (build ∷ filter (goes h alive) list) (filter (goes h alive) list))))) list
    go false e rest = ((λ f. absurd (false_true f)), rest g)
    go true e rest = (
      (λ f. over (said g (answers.Dropped build.name)) (dropping (filter (goes h alive) list)) build.name
          (ap (λ (b : Bool). is_none (cond b (Some statuses.Dereferenced) (ended g build.name))) (eq-eqb build.name build.name refl))),
      rest (said g (answers.Dropped build.name)),
    )

pub all_over : (h : History) (alive : ℕ → Bool) (list : List Build)
    → AllByRecursion (EndsIn h alive (said_all h (dropping (filter (goes h alive) (reverse list))))) list
all_over h alive list =
    subst (AllByRecursion (EndsIn h alive (said_all h (dropping (filter (goes h alive) (reverse list)))))) (reverse-reverse list)
    (all_reverse (EndsIn h alive (said_all h (dropping (filter (goes h alive) (reverse list))))) (reverse list) (dropped_over h alive h (reverse list)))

-- ---- what is left of an entry

agrees_shed : (page : ℕ) (g : History) (build : Build) (entry : Entry) → IsEntryOf page g build entry → IsEntryOf page g build (shed entry)
agrees_shed page g build entry agree = go (code.is_broken entry.status) refl
  where
    go : (b : Bool) → code.is_broken entry.status ≡ b → IsEntryOf page g build (cond b (record entry { recipe = []; own = None; views = [] }) entry)
    go false e = agree
    go true e = record {
      status = agree.status;
      roots = agree.roots;
      sources = λ pending. absurd (false_true (sym (broken_apart entry.status e).0 ∙ pending));
    }

marked_shed : (s : Session) (g : History) (build : Build) (entry : Entry) → AgreesToEnd s g build (Some entry) → AgreesToEnd s g build (Some (shed entry))
marked_shed s g build entry marked = go (code.is_broken entry.status) refl
  where
    go : (b : Bool) → code.is_broken entry.status ≡ b → AgreesToEnd s g build (Some (cond b (record entry { recipe = []; own = None; views = [] }) entry))
    go false e = marked
    go true e = λ pending. absurd (false_true (sym (broken_apart entry.status e).0 ∙ pending))

module _ (s : Session) (h : History) (names : List ℕ) (whole : Entries) (sound : AreSound names whole) (alive : ℕ → Bool) (all : List Build) where
  abbrev pub next : History
  next = said_all h (dropping (filter (goes h alive) (reverse all)))

  pub stays : (build : Build) → alive build.name ≡ true → StandsAs s h next build
  stays build lives = record {
    end = living_kept h alive h (reverse all) build.name lives;
    grant = drops_keep (λ (g : History). was_granted g build.name) (λ g name. refl) h (filter (goes h alive) (reverse all));
    write = drops_keep unstored (λ g name. refl) h (filter (goes h alive) (reverse all));
    paging = drops_keep (breaks_waiting s.version) (λ g name. breaks_said s.version g (answers.Dropped name)) h (filter (goes h alive) (reverse all));
    builder = drops_keep (λ (g : History). is_alive g build.builder) (λ g name. refl) h (filter (goes h alive) (reverse all));
    segments = drops_keep (λ (g : History). has_all s.limits g build) (λ g name. refl) h (filter (goes h alive) (reverse all));
    root = root_kept build;
  }
    where
      root_kept : (build : Build) → is_rooted (page_limit s) next build.name ≡ is_rooted (page_limit s) h build.name
      root_kept build = drops_keep (λ (g : History). is_rooted (page_limit s) g build.name) (λ g name. refl) h (filter (goes h alive) (reverse all))

  unrooted_kept : (build : Build) → is_rooted (page_limit s) h build.name ≡ false → is_rooted (page_limit s) next build.name ≡ false
  unrooted_kept build e = drops_keep (λ (g : History). is_rooted (page_limit s) g build.name) (λ g name. refl) h (filter (goes h alive) (reverse all)) ∙ e

  gone_over : (build : Build) → alive build.name ≡ false → EndsIn h alive next build → is_unfinished next build.name ≡ false
  gone_over build dead ends = go (is_unfinished h build.name) refl
    where
      go : (b : Bool) → is_unfinished h build.name ≡ b → is_unfinished next build.name ≡ false
      go false e = over h (dropping (filter (goes h alive) (reverse all))) build.name e
      go true e = ends (λ i. e i && not (dead i))

  left_agrees : (test model : Bool) (build : Build) (held : Option Entry) → Agrees (page_limit s) h build held → TestsAgree test model held
      → alive build.name ≡ model
      → (model ≡ false → is_rooted (page_limit s) h build.name ≡ false) → EndsIn h alive next build → Agrees (page_limit s) next build (left test held)
  left_agrees test model build None agree tests at rooted ends = none test
    where
      gone : IsGone (page_limit s) next build
      gone = record { ended = over h (dropping (filter (goes h alive) (reverse all))) build.name agree.ended; unrooted = unrooted_kept build agree.unrooted }

      none : (b : Bool) → Agrees (page_limit s) next build (left b None)
      none true = gone
      none false = gone
  left_agrees true model build (Some entry) agree tests at rooted ends =
      agrees_shed (page_limit s) next build entry (agrees_as s h next build (Some entry) (stays build (at ∙ sym tests)) agree)
  left_agrees false model build (Some entry) agree tests at rooted ends =
      record { ended = gone_over build (at ∙ sym tests) ends; unrooted = unrooted_kept build (rooted (sym tests)) }

  left_marked : (test model : Bool) (build : Build) (held : Option Entry) → AgreesToEnd s h build held → TestsAgree test model held → alive build.name ≡ model
      → AgreesToEnd s next build (left test held)
  left_marked true model build None marked tests at = tt
  left_marked false model build held marked tests at = tt
  left_marked true model build (Some entry) marked tests at =
      marked_shed s next build entry (marked_as s h next build (Some entry) (stays build (at ∙ sym tests)) marked)

  told_here : (build : Build) (list : List Build) → Distinct (build ∷ list) → Tells (page_limit s) h names whole sound alive (build ∷ list)
      → alive build.name ≡ lives (page_limit s) h build list
  told_here build list distinct tells =
      tells build.name (or_first (build.name == build.name) (named build.name list) (eq-eqb build.name build.name refl))
      ∙ lives_named (page_limit s) h build list distinct.0

  told_next : (build : Build) (list : List Build) → Distinct (build ∷ list) → Tells (page_limit s) h names whole sound alive (build ∷ list)
      → Tells (page_limit s) h names whole sound alive list
  told_next build list distinct tells = λ name there.
      tells name (or_second (build.name == name) (named name list) there)
      ∙ named_next (page_limit s) h build list name (other_name build list name distinct.0 there)

  pub swept_agrees : (number : ℕ) (list : List Build) (entries : Entries) → Distinct list → ArePlaced names number list
      → Beside (Agrees (page_limit s) h) list entries → IsBehind whole number entries
      → Tells (page_limit s) h names whole sound alive list → AllByRecursion (EndsIn h alive next) list
      → Beside (Agrees (page_limit s) next) list (swept names number entries)
  swept_agrees number [] [] distinct placed beside behind tells ends = tt
  swept_agrees number [] (held ∷ later) distinct placed beside behind tells ends = absurd beside
  swept_agrees number (build ∷ list) [] distinct placed beside behind tells ends = absurd beside
  swept_agrees number (build ∷ list) (held ∷ later) distinct placed beside behind tells ends = (
    left_agrees (test_at names number held later) (lives (page_limit s) h build list) build held beside.0
        (tests_agree (page_limit s) h names whole sound number build list held later placed beside behind) (told_here build list distinct tells)
        (λ e. (or_parts (is_rooted (page_limit s) h build.name) (is_needed h (living (page_limit s) h list) build.name) e).0) ends.0,
    swept_agrees (number + 1) list later distinct.1 placed.1 beside.1 (behind_next whole number held later behind) (told_next build list distinct tells) ends.1,
  )

  pub swept_marked : (number : ℕ) (list : List Build) (entries : Entries) → Distinct list → ArePlaced names number list
      → Beside (Agrees (page_limit s) h) list entries → IsBehind whole number entries
      → Tells (page_limit s) h names whole sound alive list → Beside (AgreesToEnd s h) list entries
      → Beside (AgreesToEnd s next) list (swept names number entries)
  swept_marked number [] [] distinct placed beside behind tells marked = tt
  swept_marked number [] (held ∷ later) distinct placed beside behind tells marked = absurd beside
  swept_marked number (build ∷ list) [] distinct placed beside behind tells marked = absurd beside
  swept_marked number (build ∷ list) (held ∷ later) distinct placed beside behind tells marked = (
    left_marked (test_at names number held later) (lives (page_limit s) h build list) build held marked.0
        (tests_agree (page_limit s) h names whole sound number build list held later placed beside behind) (told_here build list distinct tells),
    swept_marked (number + 1) list later distinct.1 placed.1 beside.1 (behind_next whole number held later behind)
        (told_next build list distinct tells) marked.1,
  )

pub sweep_agrees : SweepAgrees
sweep_agrees s h book tell =
    let page = (page_limit s) in
    let list = builds (page_limit s) h in
    let at : ArePlaced book.names 0 list = subst (λ (names : List ℕ). ArePlaced names 0 list) (sym tell.agree.names) (placed list tell.distinct) in
    let tells : (name : ℕ) → named name list ≡ true → is_live page h name ≡ named name (living page h list) =
    λ name there. ap (λ (xs : List Build). named name xs) (live_living page h) in
    let same : builds page (said_all h (drops s h)) ≡ list = builds_all page h (drops s h) in
    record {
      agree = record {
        names = tell.agree.names ∙ ap names_of (sym same);
        each = subst (λ (all : List Build). Beside (Agrees page (said_all h (drops s h))) all (swept book.names 0 book.entries)) (sym same)
            (swept_agrees s h book.names book.entries tell.sound (is_live page h) list 0 list book.entries tell.distinct at
            tell.agree.each (behind_all book.entries) tells
            (all_over h (is_live page h) list));
      };
      marks = λ marked. subst (λ (all : List Build). Beside (AgreesToEnd s (said_all h (drops s h))) all (swept book.names 0 book.entries)) (sym same)
          (swept_marked s h book.names book.entries tell.sound (is_live page h) list 0 list book.entries tell.distinct at
          tell.agree.each (behind_all book.entries) tells marked);
    }
