-- An entry that agrees with its blob ends as the blob does.
use Rattle.std.proofs.Common.{◌≡◌, ℕ, ◌+◌, ◌<◌, ◌≤◌, Bool, true, false, cond, ◌&&◌, ◌||◌, not, List, [], ◌∷◌, map, length}
use Rattle.std.proofs.Common.{refl, ap, sym, ◌∙◌, Option, Some, None}
use Rattle.std.specs.Prelude.{IsSomeAnd, unwrap_or}
use Rattle.std.specs.Option.{option_map_or, option_to_list}
use Rattle.std.specs.List.{AllByRecursion, list_all, list_any}
use Rattle.std.proofs.lemmas.Bool.{eq-eqb}
use Rattle.answer_text.specs.declared.answer.Answer.{Answer}
use Rattle.answer_text.specs.declared.answer.Answer.TheVariants as answers
use Rattle.blob_words.specs.declared.status.Status.{Status}
use Rattle.blob_words.specs.declared.status.Status.TheVariants as statuses
use Rattle.blob_entries.specs.Book.{entry_at, is_broken_at, is_done_at}
use Rattle.blob_entries.specs.Endings.{ending, is_complete, is_granted_status, marked_end, misses, source_end}
use Rattle.blob_entries.specs.Names.{number_of}
use Rattle.blob_entries.specs.Sound.{IsSound, StepFits}
use Rattle.blob_entries.specs.Sources.{each_source, some_source}
use Rattle.blob_entries.specs.Statuses as code
use Rattle.blob_entries.specs.declared.entry.Entry.{Entry}
use Rattle.blob_entries.specs.declared.step.Step.{Step}
use Rattle.blob_entries.specs.declared.step.Step.TheVariants.{Fixed, Own, Source}
use Rattle.blob_registry.specs.Passes.{ending_list}
use Rattle.blob_registry.proofs.Passing.{ends_apart}
use Rattle.blob_model.specs.Builds.{Build}
use Rattle.blob_model.specs.Choice.{first_that}
use Rattle.blob_model.specs.History.{History, said_all}
use Rattle.blob_model.specs.Parts.{sources}
use Rattle.blob_model.specs.Session.{Session}
use Rattle.blob_model.specs.Settle as settle
use Rattle.blob_model.specs.Settle.{ending_answers, is_deserted, is_unwritten}
use Rattle.blob_model.specs.Standing.{ended, ended_after, is_broken, is_broken_status, is_done, is_done_status, is_granted, is_unfinished}
use Rattle.blob_model.specs.Transport.{has_all}
use Rattle.blob_model.specs.Waits as waits
use Rattle.registry_laws.specs.Agree.{AgreesToEnd, IsEntryOf, breaks_as, source_names, told}
use Rattle.registry_laws.specs.Laws.{ending_answer}
use Rattle.registry_laws.proofs.Needs.{pending_so}

abbrev Entries : Type 0
Entries = List (Option Entry)

-- ---- statuses as they are told

broken_told : (status : Status) → option_map_or is_broken_status (told status) false ≡ code.is_broken status
broken_told statuses.InvalidArguments = refl
broken_told statuses.OutOfMemory = refl
broken_told statuses.FileWriteFailed = refl
broken_told statuses.SourceDied = refl
broken_told statuses.Dereferenced = refl
broken_told statuses.ReferencedBlobBroken = refl
broken_told statuses.ReferencedFileUnavailable = refl
broken_told statuses.Done = refl
broken_told statuses.PendingQuota = refl
broken_told statuses.PendingTransport = refl
broken_told statuses.PendingReferencedBlobs = refl

done_told : (status : Status) → option_map_or is_done_status (told status) false ≡ code.is_done status
done_told statuses.InvalidArguments = refl
done_told statuses.OutOfMemory = refl
done_told statuses.FileWriteFailed = refl
done_told statuses.SourceDied = refl
done_told statuses.Dereferenced = refl
done_told statuses.ReferencedBlobBroken = refl
done_told statuses.ReferencedFileUnavailable = refl
done_told statuses.Done = refl
done_told statuses.PendingQuota = refl
done_told statuses.PendingTransport = refl
done_told statuses.PendingReferencedBlobs = refl

-- ---- sources

-- something stands here, and has ended so far as the blob of the name did
abbrev pub HasEnded : History → ℕ → Option Entry → Type 0
HasEnded g name held = IsSomeAnd held (λ (entry : Entry). told entry.status ≡ ended g name)

-- each entry before a number that stood has ended so far as its blob did by these answers
pub record AreKnown (names : List ℕ) (whole earlier : Entries) (g : History) : Type 0 where
  pub known : (name k : ℕ) (entry : Entry) → k < length earlier → number_of name names ≡ Some k → entry_at whole k ≡ Some entry
      → HasEnded g name (entry_at earlier k)

module _ (names : List ℕ) (whole earlier : Entries) (g : History) (are : AreKnown names whole earlier g) where
  at_source : (test model : Status → Bool) → ((status : Status) → option_map_or model (told status) false ≡ test status) → (name k : ℕ) (fits : Entry → Type 0)
      → number_of name names ≡ Some k → k < length earlier → IsSomeAnd (entry_at whole k) fits
      → option_map_or (λ (entry : Entry). test entry.status) (entry_at earlier k) false ≡ option_map_or model (ended g name) false
  at_source test model same name k fits at below stands = by (entry_at whole k) refl stands
    where
      here : (now : Option Entry) → HasEnded g name now
          → option_map_or (λ (entry : Entry). test entry.status) now false ≡ option_map_or model (ended g name) false
      here None is = absurd is
      here (Some entry) is = sym (same entry.status) ∙ ap (λ (o : Option Status). option_map_or model o false) is

      by : (was : Option Entry) → entry_at whole k ≡ was → IsSomeAnd was fits
          → option_map_or (λ (entry : Entry). test entry.status) (entry_at earlier k) false ≡ option_map_or model (ended g name) false
      by None is stands = absurd stands
      by (Some entry) is stands = here (entry_at earlier k) (are.known name k entry below at is)

  some_same : (steps : List Step) → AllByRecursion (StepFits names whole (length earlier)) steps
      → some_source names (is_broken_at earlier) steps ≡ list_any (is_broken g) (source_names steps)
  some_same [] fits = refl
  some_same (Own piece len ∷ steps) fits = some_same steps fits.1
  some_same (Fixed view ∷ steps) fits = some_same steps fits.1
  some_same (Source name off len ∷ steps) fits =
      ap (λ (b : Bool). b || some_source names (is_broken_at earlier) steps) (by (number_of name names) refl fits.0)
      ∙ ap (λ (b : Bool). is_broken g name || b) (some_same steps fits.1)
    where
      by : (o : Option ℕ) → number_of name names ≡ o
          → IsSomeAnd o (λ (k : ℕ). (k < length earlier) × IsSomeAnd (entry_at whole k) (λ (entry : Entry). off + len ≤ entry.size))
          → option_map_or (is_broken_at earlier) o false ≡ is_broken g name
      by None is has = absurd has
      by (Some k) is has = at_source code.is_broken is_broken_status broken_told name k (λ (entry : Entry). off + len ≤ entry.size) is has.0 has.1

  each_same : (steps : List Step) → AllByRecursion (StepFits names whole (length earlier)) steps
      → each_source names (is_done_at earlier) steps ≡ list_all (is_done g) (source_names steps)
  each_same [] fits = refl
  each_same (Own piece len ∷ steps) fits = each_same steps fits.1
  each_same (Fixed view ∷ steps) fits = each_same steps fits.1
  each_same (Source name off len ∷ steps) fits =
      ap (λ (b : Bool). b && each_source names (is_done_at earlier) steps) (by (number_of name names) refl fits.0)
      ∙ ap (λ (b : Bool). is_done g name && b) (each_same steps fits.1)
    where
      by : (o : Option ℕ) → number_of name names ≡ o
          → IsSomeAnd o (λ (k : ℕ). (k < length earlier) × IsSomeAnd (entry_at whole k) (λ (entry : Entry). off + len ≤ entry.size))
          → option_map_or (is_done_at earlier) o true ≡ is_done g name
      by None is has = absurd has
      by (Some k) is has = at_source code.is_done is_done_status done_told name k (λ (entry : Entry). off + len ≤ entry.size) is has.0 has.1

  -- ---- one ending

  abbrev Tells : Session → Build → Entry → Type 0
  Tells s build entry = map ending_answer (ending_list build.name (ending names earlier entry)) ≡ ending_answers s g build

  -- the four tests on both sides
  cases : (name : ℕ) (u d b b' c c' : Bool) → b ≡ b' → (first_that ((u, statuses.FileWriteFailed) ∷ (d, statuses.SourceDied) ∷ []) ≡ None → c ≡ c')
      → map ending_answer
      (ending_list name
      (marked_end (first_that ((u, statuses.FileWriteFailed) ∷ (d, statuses.SourceDied) ∷ []))
      (cond b (Some statuses.ReferencedBlobBroken) (cond c (Some statuses.Done) None))))
      ≡ option_to_list
      (first_that
      ((u, answers.Broken name statuses.FileWriteFailed)
      ∷ (d, answers.Broken name statuses.SourceDied)
      ∷ (b', answers.Broken name statuses.ReferencedBlobBroken)
      ∷ (c', answers.Done name)
      ∷ []))
  cases name true d b b' c c' same more = refl
  cases name false true b b' c c' same more = refl
  cases name false false b b' c c' same more =
      ap (λ (t : Bool). map ending_answer (ending_list name (cond t (Some statuses.ReferencedBlobBroken) (cond c (Some statuses.Done) None)))) same
      ∙ ap (λ (t : Bool). map ending_answer (ending_list name (cond b' (Some statuses.ReferencedBlobBroken) (cond t (Some statuses.Done) None)))) (more refl)
      ∙ plain b' c'
    where
      plain : (b c : Bool) → map ending_answer (ending_list name (cond b (Some statuses.ReferencedBlobBroken) (cond c (Some statuses.Done) None)))
          ≡ option_to_list (first_that ((b, answers.Broken name statuses.ReferencedBlobBroken) ∷ (c, answers.Done name) ∷ []))
      plain true c = refl
      plain false true = refl
      plain false false = refl

  regroup : (a b c : Bool) → (a && b && c) ≡ ((a && b) && c)
  regroup true b c = refl
  regroup false b c = refl

  pub end_same : (s : Session) (page : ℕ) (build : Build) (entry : Entry) → IsSound names whole (length earlier) entry → IsEntryOf page g build entry
      → AgreesToEnd s g build (Some entry) → Tells s build entry
  end_same s page build entry sound agree marked = by (code.is_pending entry.status) refl
    where
      pending : code.is_pending entry.status ≡ is_unfinished g build.name
      pending = pending_so page g build entry agree

      by : (p : Bool) → code.is_pending entry.status ≡ p
          → map ending_answer (ending_list build.name (cond p (marked_end entry.mark (source_end names earlier entry)) None)) ≡ ending_answers s g build
      by false is = ap (λ (b : Bool). cond b (option_to_list (settle.ending s g build)) []) (sym is ∙ pending)
      by true is =
          let fits = sound.steps is in
          let mark = marked is in
          let broken : some_source names (is_broken_at earlier) entry.recipe ≡ list_any (is_broken g) (sources build.parts) =
          some_same entry.recipe fits ∙ ap (λ (list : List ℕ). list_any (is_broken g) list) (agree.sources is) in
          let done : each_source names (is_done_at earlier) entry.recipe ≡ waits.has_sources g build =
          each_same entry.recipe fits ∙ ap (λ (list : List ℕ). list_all (is_done g) list) (agree.sources is) in
          let complete : breaks_as s g build ≡ None → is_complete names earlier entry ≡ waits.is_complete s.limits g build =
          λ none. regroup (is_granted_status entry.status) (not (misses entry)) (each_source names (is_done_at earlier) entry.recipe)
          ∙ ap (λ (b : Bool). b && each_source names (is_done_at earlier) entry.recipe) (mark.bytes (mark.mark ∙ none))
          ∙ ap (λ (b : Bool). (is_granted g build && has_all s.limits g build) && b) done
          ∙ sym (regroup (is_granted g build) (has_all s.limits g build) (waits.has_sources g build)) in
          ap (λ (o : Option Status). map ending_answer (ending_list build.name (marked_end o (source_end names earlier entry)))) mark.mark
          ∙ cases build.name (is_unwritten s g build) (is_deserted s g build) (some_source names (is_broken_at earlier) entry.recipe)
          (list_any (is_broken g) (sources build.parts))
          (is_complete names earlier entry) (waits.is_complete s.limits g build) broken complete
          ∙ ap (λ (b : Bool). cond b (option_to_list (settle.ending s g build)) []) (sym is ∙ pending)

  -- ---- how it stands behind its ending

  told_so : (name : ℕ) (status : Status) (before : Option Status)
      → ended_after (ending_answer (record { name = name; status = status })) name before ≡ Some status
  told_so name statuses.Done before = ap (λ (b : Bool). cond b (Some statuses.Done) before) (eq-eqb name name refl)
  told_so name status before = ap (λ (b : Bool). cond b (Some status) before) (eq-eqb name name refl)

  after : (build : Build) (entry : Entry) (o : Option Status) → ((status : Status) → o ≡ Some status → code.is_pending status ≡ false)
      → told entry.status ≡ ended g build.name
      → told (unwrap_or o entry.status) ≡ ended (said_all g (map ending_answer (ending_list build.name o))) build.name
  after build entry None apart same = same
  after build entry (Some status) apart same =
      ap (λ (b : Bool). cond b None (Some status)) (apart status refl) ∙ sym (told_so build.name status (ended g build.name))

  pub told_after : (s : Session) (page : ℕ) (build : Build) (entry : Entry) → IsSound names whole (length earlier) entry → IsEntryOf page g build entry
      → AgreesToEnd s g build (Some entry)
      → told (unwrap_or (ending names earlier entry) entry.status) ≡ ended (said_all g (ending_answers s g build)) build.name
  told_after s page build entry sound agree marked =
      after build entry (ending names earlier entry) (λ status is. ends_apart names earlier entry status sound.mark is) agree.status
      ∙ ap (λ (list : List Answer). ended (said_all g list) build.name) (end_same s page build entry sound agree marked)
