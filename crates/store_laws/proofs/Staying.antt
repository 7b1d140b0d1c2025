-- What was sent for a blob stays.
use Rattle.std.proofs.Common.{◌≡◌, ℕ, ◌+◌, ◌-◌, ◌==◌, Bool, true, false, List, [], ◌∷◌, ◌++◌, Option, Some, None, refl, sym, ap, subst, ◌∙◌}
use Rattle.std.specs.Prelude.{find, option_and_then, slice_get, if◌then◌else◌}
use Rattle.std.specs.Option.{option_map}
use Rattle.blob_words.specs.declared.plan.Plan.{Plan}
use Rattle.blob_words.specs.declared.plan.Plan.TheVariants as plans
use Rattle.blob_model.specs.Builds.{Build, builds, build_in, sent}
use Rattle.blob_model.specs.History.{History, heard, said}
use Rattle.blob_model.specs.Session.{Session, page_limit}
use Rattle.blob_model.specs.Transport.{Arrival, arrivals, brought, byte_by_plan, byte_from, is_within, sent_byte, spans}
use Rattle.blob_model.specs.Value.{value}
use Rattle.blob_model.proofs.Lists.{find_append}
use Rattle.blob_model.proofs.bytes.Arrivals.{Grown, built_grown, grown_heard, grown_said}
use Rattle.store_laws.specs.TellLaws.{ValuesStay}

byte_kept : (came more : List Arrival) (segment : ℕ) (list : List (ℕ × ℕ)) (index byte : ℕ) → byte_from came segment list index ≡ Some byte
    → byte_from (came ++ more) segment list index ≡ Some byte
byte_kept came more segment [] index byte e = absurd (cc e)
byte_kept came more segment (span ∷ list) index byte e = go (is_within span index) e (byte_kept came more (segment + 1) list index byte)
  where
    go : (b : Bool)
        → (if b then option_and_then (λ (bytes : List ℕ). slice_get bytes (index - span.0)) (brought came segment) else byte_from came (segment + 1) list index)
        ≡ Some byte
        → (byte_from came (segment + 1) list index ≡ Some byte → byte_from (came ++ more) (segment + 1) list index ≡ Some byte)
        → (if b then option_and_then (λ (bytes : List ℕ). slice_get bytes (index - span.0)) (brought (came ++ more) segment) else byte_from (came ++ more)
        (segment + 1) list index) ≡ Some byte
    go true f rest = by (find (λ (arrival : Arrival). arrival.segment == segment) came) refl f
      where
        by : (found : Option Arrival) → find (λ (arrival : Arrival). arrival.segment == segment) came ≡ found
            → option_and_then (λ (bytes : List ℕ). slice_get bytes (index - span.0)) (option_map (λ (arrival : Arrival). arrival.bytes) found) ≡ Some byte
            → option_and_then (λ (bytes : List ℕ). slice_get bytes (index - span.0)) (brought (came ++ more) segment) ≡ Some byte
        by None at f = absurd (cc f)
        by (Some arrival) at f =
            ap (λ (found : Option Arrival). option_and_then (λ (bytes : List ℕ). slice_get bytes (index - span.0))
            (option_map (λ (each : Arrival). each.bytes) found)) (find_append (λ (each : Arrival). each.segment == segment) came more arrival at) ∙ f
    go false f rest = rest f

value_kept : (s : Session) (h g : History) (b index byte : ℕ) → Grown s h g → value s h (sent b index) ≡ Some byte → value s g (sent b index) ≡ Some byte
value_kept s h g b index byte grown known = go (build_in (builds (page_limit s) h) b) refl known
  where
    from_came : (build : Build) → byte_from (arrivals h build.name) 0 (spans s.limits build) index ≡ Some byte
        → byte_from (arrivals g build.name) 0 (spans s.limits build) index ≡ Some byte
    from_came build f =
        subst (λ (xs : List Arrival). byte_from xs 0 (spans s.limits build) index ≡ Some byte) (sym (grown.segments build.name))
        (byte_kept (arrivals h build.name) (grown.came build.name) 0 (spans s.limits build) index byte f)

    by_plan : (build : Build) (plan : Option Plan) → byte_by_plan s.limits h build index plan ≡ Some byte → byte_by_plan s.limits g build index plan ≡ Some byte
    by_plan build (Some plans.Inline) f = f
    by_plan build None f = from_came build f
    by_plan build (Some plans.None) f = from_came build f
    by_plan build (Some (plans.Shared n)) f = from_came build f
    by_plan build (Some (plans.File n)) f = from_came build f
    by_plan build (Some plans.OutOfMemory) f = from_came build f
    by_plan build (Some (plans.TooMany what)) f = from_came build f

    go : (found : Option Build) → build_in (builds (page_limit s) h) b ≡ found
        → option_and_then (λ (build : Build). sent_byte s.limits h build index) found ≡ Some byte → value s g (sent b index) ≡ Some byte
    go None at f = absurd (cc f)
    go (Some build) at f =
        ap (option_and_then (λ (each : Build). sent_byte s.limits g each index)) (built_grown s h g b build grown at) ∙ by_plan build build.plan f

pub values_stay : ValuesStay
values_stay = record {
  by_line = λ s h event answer blob index byte e. value_kept s h (heard h event answer) blob index byte (grown_heard s h event answer) e;
  by_answer = λ s h answer blob index byte e. value_kept s h (said h answer) blob index byte (grown_said s h answer) e;
}
