-- What a sweep leaves at a number, and which names it tells.
use Rattle.std.proofs.Common.{◌≡◌, ℕ, zero, suc, ◌+◌, ◌<◌, ◌||◌, Bool, true, false, cond, List, [], ◌∷◌, Option, Some, None, length, refl, ap, subst, sym, ◌∙◌}
use Rattle.std.proofs.Common.{arith}
use Rattle.std.specs.Prelude.{slice_index}
use Rattle.std.specs.List.{list_any}
use Rattle.std.proofs.lemmas.List.Folds.{list_any-append}
use Rattle.blob_entries.specs.Book.{entry_at}
use Rattle.blob_entries.specs.Leaving.{gone_name, is_needed, is_rooted, left}
use Rattle.blob_entries.specs.Statuses.{is_pending}
use Rattle.blob_entries.specs.declared.entry.Entry.{Entry}
use Rattle.blob_registry.specs.Sweeps.{dropped, swept}
use Rattle.blob_model.proofs.Lists.{any_append_first, any_append_second, false_true}

abbrev Entries : Type 0
Entries = List (Option Entry)

-- what is left at a number: what stood there, where it lives; who is rooted lives
pub record IsLeft (held now : Option Entry) : Type 0 where
  pub lives : Bool
  pub is : now ≡ left lives held
  pub rooted : is_rooted held ≡ true → lives ≡ true

pub left_at : (names : List ℕ) (entries : Entries) (number k : ℕ) → IsLeft (entry_at entries k) (entry_at (swept names number entries) k)
left_at names [] number k = record { lives = false; is = refl; rooted = λ e. absurd (false_true e) }
left_at names (held ∷ entries) number zero =
    record {
      lives = is_rooted held || is_needed names number (swept names (number + 1) entries);
      is = refl;
      rooted = λ e. ap (λ (b : Bool). b || is_needed names number (swept names (number + 1) entries)) e;
    }
left_at names (held ∷ entries) number (suc k) = left_at names entries (number + 1) k

-- an unfinished entry that went is told
pub gone_told : (names : List ℕ) (test : ℕ → Bool) (entries : Entries) (number k at : ℕ) (entry : Entry) → at ≡ number + k
    → test (slice_index names at) ≡ true
    → entry_at entries k ≡ Some entry → is_pending entry.status ≡ true → entry_at (swept names number entries) k ≡ None
    → list_any test (dropped names number entries) ≡ true
gone_told names test [] number k at entry place is there pending gone = absurd (cc there)
gone_told names test (held ∷ later) number zero at entry place is there pending gone =
    any_append_second test (dropped names (number + 1) later) (gone_name lives (slice_index names number) held) (go lives held there gone)
  where
    lives : Bool
    lives = is_rooted held || is_needed names number (swept names (number + 1) later)

    here : test (slice_index names number) ≡ true
    here = subst (λ (n : ℕ). test (slice_index names n) ≡ true) (omega (arith, place)) is

    go : (b : Bool) (o : Option Entry) → o ≡ Some entry → left b o ≡ None → list_any test (gone_name b (slice_index names number) o) ≡ true
    go b None e none = absurd (cc e)
    go true (Some one) e none = absurd (cc none)
    go false (Some one) e none =
        let same : one ≡ entry = cc e in
        ap (λ (b : Bool). list_any test (cond b (slice_index names number ∷ []) [])) (ap (λ (each : Entry). is_pending each.status) same ∙ pending)
        ∙ ap (λ (b : Bool). b || false) here
gone_told names test (held ∷ later) number (suc k) at entry place is there pending gone =
    let lives : Bool = is_rooted held || is_needed names number (swept names (number + 1) later) in
    any_append_first test (dropped names (number + 1) later) (gone_name lives (slice_index names number) held)
    (gone_told names test later (number + 1) k at entry (omega (arith, place)) is there pending gone)

-- a name that is told is that of an entry that went
pub record IsTold (names : List ℕ) (test : ℕ → Bool) (number : ℕ) (entries : Entries) : Type 0 where
  pub place : ℕ
  pub within : place < length entries
  pub passes : test (slice_index names (number + place)) ≡ true
  pub gone : entry_at (swept names number entries) place ≡ None

pub told_gone : (names : List ℕ) (test : ℕ → Bool) (entries : Entries) (number : ℕ) → list_any test (dropped names number entries) ≡ true
    → IsTold names test number entries
told_gone names test [] number e = absurd (false_true e)
told_gone names test (held ∷ later) number e =
    go (list_any test (dropped names (number + 1) later)) refl (told_gone names test later (number + 1))
    (sym (list_any-append test (dropped names (number + 1) later) (gone_name lives (slice_index names number) held)) ∙ e)
  where
    lives : Bool
    lives = is_rooted held || is_needed names number (swept names (number + 1) later)

    here : (b : Bool) → lives ≡ b → (o : Option Entry) → held ≡ o → list_any test (gone_name b (slice_index names number) o) ≡ true
        → IsTold names test number (held ∷ later)
    here true at o is some = absurd (false_true some)
    here false at None is some = absurd (false_true some)
    here false at (Some entry) is some = by (is_pending entry.status) some
      where
        by : (b : Bool) → list_any test (cond b (slice_index names number ∷ []) []) ≡ true → IsTold names test number (held ∷ later)
        by false some = absurd (false_true some)
        by true some = record {
          place = zero;
          within = omega arith;
          passes = subst (λ (n : ℕ). test (slice_index names n) ≡ true) (omega arith) (or_none (test (slice_index names number)) some);
          gone = ap (λ (b : Bool). left b held) at;
        }
          where
            or_none : (b : Bool) → (b || false) ≡ true → b ≡ true
            or_none true e = e
            or_none false e = e

    go : (b : Bool) → list_any test (dropped names (number + 1) later) ≡ b
        → (list_any test (dropped names (number + 1) later) ≡ true → IsTold names test (number + 1) later)
        → (b || list_any test (gone_name lives (slice_index names number) held)) ≡ true → IsTold names test number (held ∷ later)
    go true at rest some =
        let more = rest at in
        record {
          place = suc more.place;
          within = let less = more.within in omega (arith, less);
          passes = subst (λ (n : ℕ). test (slice_index names n) ≡ true) (omega arith) more.passes;
          gone = more.gone;
        }
    go false at rest some = here lives refl held refl some
