-- In a legal transcript no segment came of a blob that waits for room, and it misses one.
use Rattle.std.proofs.Common.{◌≡◌, ℕ, ◌==◌, Bool, true, false, List, [], ◌∷◌, ◌++◌, length, refl, ap, subst, sym, ◌∙◌, Option, Some, None, cond}
use Rattle.std.specs.Prelude.{is_some}
use Rattle.std.specs.List.{AllByRecursion}
use Rattle.std.proofs.lemmas.Bool.{eqb-true}
use Rattle.blob_words.specs.declared.number.RendererId.{RendererId}
use Rattle.session_script.specs.declared.event.Event.{Event}
use Rattle.session_script.specs.declared.event.Event.TheVariants as events
use Rattle.answer_text.specs.declared.answer.Answer.{Answer}
use Rattle.blob_model.specs.Builds.{Build, build_in, builds}
use Rattle.blob_model.specs.History.{History, heard, refused, said, start}
use Rattle.blob_model.specs.Refusals.{refusal}
use Rattle.blob_model.specs.Session.{Session, page_limit}
use Rattle.blob_model.specs.Standing.{is_granted}
use Rattle.blob_model.specs.Transport.{arrivals, has_all}
use Rattle.blob_model.specs.Waits.{is_waiting}
use Rattle.blob_model.proofs.Lists.{false_true, for_both}
use Rattle.blob_model.proofs.builds.Order.{ordered_distinct}
use Rattle.blob_model.proofs.bytes.Arrivals.{built_grown, grown_heard}
use Rattle.blob_model.proofs.kept.Kept.{Kept, waiting_heard, waiting_said}
use Rattle.blob_model.proofs.kept.Lines.{segment_found}
use Rattle.blob_model.proofs.kept.NewBlobs.{found_named, tests_fail}
use Rattle.blob_model.proofs.legal.Causes.{IsCaused}
use Rattle.blob_model.proofs.legal.Steps.{kept_caused}
use Rattle.store_laws.specs.Late.{IsUnsent}
use Rattle.store_laws.proofs.ComingNow.{waits_ungranted}
use Rattle.store_laws.proofs.Paired.{all_blobs_found}

module _ (s : Session) (build : Build) where
  abbrev IsQuiet : History → Type 0
  IsQuiet h = is_waiting h build ≡ true → build_in (builds (page_limit s) h) build.name ≡ Some build → arrivals h build.name ≡ []

  -- behind a line that brings it no segment
  by_line : (h : History) (event : Event) (answer : Answer) → Kept s h → arrivals (heard h event answer) build.name ≡ arrivals h build.name → IsQuiet h
      → IsQuiet (heard h event answer)
  by_line h event answer kept same before waits found = same ∙ go (build_in (builds (page_limit s) h) build.name) refl
    where
      go : (o : Option Build) → build_in (builds (page_limit s) h) build.name ≡ o → arrivals h build.name ≡ []
      go None at = kept.quiet build.name (sym (found_named (builds (page_limit s) h) build.name) ∙ ap is_some at)
      go (Some one) at =
          let later : build_in (builds (page_limit s) (heard h event answer)) build.name ≡ Some one =
          built_grown s h (heard h event answer) build.name one (grown_heard s h event answer) at in
          before (waiting_heard h event answer build waits) (at ∙ sym later ∙ found)

  -- whoever gets a segment has its room
  by_segment : (h : History) (answer : Answer) (renderer : RendererId) (b segment : ℕ) (bytes : List ℕ)
      → refusal s h (events.Segment renderer b segment bytes) ≡ None → IsQuiet h → IsQuiet (heard h (events.Segment renderer b segment bytes) answer)
  by_segment h answer renderer b segment bytes passes before waits found = go (b == build.name) refl
    where
      waited : is_waiting h build ≡ true
      waited = waiting_heard h (events.Segment renderer b segment bytes) answer build waits

      go : (c : Bool) → (b == build.name) ≡ c
          → cond c (arrivals h build.name ++ record { segment = segment; bytes = bytes } ∷ []) (arrivals h build.name) ≡ []
      go false at = before waited found
      go true at =
          let one = segment_found s h renderer b segment (length bytes) (build_in (builds (page_limit s) h) b)
          (tests_fail s h (events.Segment renderer b segment bytes) passes).1 in
          let both : Some one.0 ≡ Some build = sym one.1 ∙ ap (build_in (builds (page_limit s) h)) (eqb-true b build.name at) ∙ found in
          let same : one.0 ≡ build = cc in
          absurd (false_true (sym (waits_ungranted s h build build.plan refl waited) ∙ subst (λ (each : Build). is_granted h each ≡ true) same one.2))

  quiet : (h : History) → IsCaused s h → IsQuiet h
  quiet start caused = λ waits found. refl
  quiet (heard h (events.Segment renderer b segment bytes) answer) caused =
      by_segment h answer renderer b segment bytes caused.0.passes (quiet h caused.1)
  quiet (heard h event answer) caused = by_line h event answer (kept_caused s h caused.1) refl (quiet h caused.1)
  quiet (refused h event why) caused = quiet h caused.2
  quiet (said h answer) caused = λ waits found. quiet h caused.1 (waiting_said h answer build waits) found

pub all_unsent : (s : Session) (h : History) → IsCaused s h → AllByRecursion (IsUnsent s h) (builds (page_limit s) h)
all_unsent s h caused =
    let kept = kept_caused s h caused in
    for_both (λ (build : Build). build_in (builds (page_limit s) h) build.name ≡ Some build)
    (λ (build : Build). is_waiting h build ≡ true → has_all s.limits h build ≡ false) (IsUnsent s h) (builds (page_limit s) h)
    (λ build found lacks waits. (quiet s build h caused waits found, lacks waits))
    (all_blobs_found (builds (page_limit s) h) (ordered_distinct [] (builds (page_limit s) h) kept.ordered)) kept.lacking
