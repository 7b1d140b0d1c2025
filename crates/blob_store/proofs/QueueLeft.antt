-- Who waits, without the blobs of some names, is who waits once their rows are settled.
use Rattle.std.proofs.Common.{◌≡◌, ℕ, zero, suc, ◌+◌, ◌==◌, Bool, true, false, not, cond, List, [], ◌∷◌, ◌++◌, Option, Some, None, refl, ap, subst, sym, ◌∙◌}
use Rattle.std.proofs.Common.{arith}
use Rattle.std.specs.Prelude.{fold, slice_get, sum, IfSome}
use Rattle.std.specs.Option.{option_map, option_map_or}
use Rattle.std.proofs.lemmas.Bool.{eq-eqb, eqb-true}
use Rattle.blob_entries.specs.Names.{number_of}
use Rattle.quota_queue.specs.Queue.{without}
use Rattle.blob_store.specs.declared.row.Row.{Row}
use Rattle.blob_store.specs.declared.row.Sending.{Sending}
use Rattle.blob_store.specs.declared.row.Sending.TheVariants.{Settled, Waiting, Gathering, Writing}
use Rattle.blob_store.specs.Dropping.{settled_at, settled_by}
use Rattle.blob_store.specs.Rows.{waiting, waits_by}
use Rattle.blob_store.proofs.Settling.{settled_cons}

-- no name stands twice
abbrev pub AreApart : List ℕ → Type 0
AreApart names = (number : ℕ) → IfSome (slice_get names number) (λ (name : ℕ). number_of name names ≡ Some number)

step_down : (o : Option ℕ) (number : ℕ) → option_map (λ (n : ℕ). n + 1) o ≡ Some (suc number) → o ≡ Some number
step_down None number e = absurd (cc e)
step_down (Some n) number e = let same : n + 1 ≡ suc number = cc e in ap Some (omega (arith, same))

rest_apart : (name : ℕ) (names : List ℕ) → AreApart (name ∷ names) → AreApart names
rest_apart name names apart number = by (slice_get names number) (apart (suc number))
  where
    by : (o : Option ℕ) → IfSome o (λ (one : ℕ). number_of one (name ∷ names) ≡ Some (suc number))
        → IfSome o (λ (one : ℕ). number_of one names ≡ Some number)
    by None is = tt
    by (Some one) is = go (one == name) is
      where
        go : (b : Bool) → cond b (Some 0) (option_map (λ (n : ℕ). n + 1) (number_of one names)) ≡ Some (suc number) → number_of one names ≡ Some number
        go true e = absurd (let same : zero ≡ suc number = cc e in omega (arith, same))
        go false e = step_down (number_of one names) number e

first_apart : (name : ℕ) (names : List ℕ) → AreApart (name ∷ names) → (number one : ℕ) → slice_get names number ≡ Some one → (name == one) ≡ false
first_apart name names apart number one at = by (name == one) refl
  where
    there : number_of one (name ∷ names) ≡ Some (suc number)
    there = subst (λ (o : Option ℕ). IfSome o (λ (each : ℕ). number_of each (name ∷ names) ≡ Some (suc number))) at (apart (suc number))

    by : (b : Bool) → (name == one) ≡ b → (name == one) ≡ false
    by false is = is
    by true is =
        let same : one ≡ name = sym (eqb-true name one is) in
        let first : Some 0 ≡ Some (suc number) =
        ap {B = Option ℕ} (λ (b : Bool). cond b (Some 0) (option_map (λ (n : ℕ). n + 1) (number_of one names))) (sym (eq-eqb one name same)) ∙ there in
        absurd (let none : zero ≡ suc number = cc first in omega (arith, none))

kept_wait : (name one bytes : ℕ) (sending : Sending) (rest : List (ℕ × ℕ)) → (name == one) ≡ false
    → without name (waits_by one bytes sending ++ rest) ≡ waits_by one bytes sending ++ without name rest
kept_wait name one bytes Settled rest apart = refl
kept_wait name one bytes Waiting rest apart =
    ap {B = List (ℕ × ℕ)} (λ (b : Bool). cond (not b) ((one, bytes) ∷ without name rest) (without name rest)) apart
kept_wait name one bytes (Gathering segments) rest apart = refl
kept_wait name one bytes (Writing slots came) rest apart = refl

gone_wait : (name one bytes : ℕ) (sending : Sending) (rest : List (ℕ × ℕ)) → (name == one) ≡ true
    → without name (waits_by one bytes sending ++ rest) ≡ without name rest
gone_wait name one bytes Settled rest same = refl
gone_wait name one bytes Waiting rest same =
    ap {B = List (ℕ × ℕ)} (λ (b : Bool). cond (not b) ((one, bytes) ∷ without name rest) (without name rest)) same
gone_wait name one bytes (Gathering segments) rest same = refl
gone_wait name one bytes (Writing slots came) rest same = refl

none_waits : (name : ℕ) (names : List ℕ) (rows : List Row) → ((number one : ℕ) → slice_get names number ≡ Some one → (name == one) ≡ false)
    → without name (waiting names rows) ≡ waiting names rows
none_waits name [] rows apart = refl
none_waits name (one ∷ names) [] apart = refl
none_waits name (one ∷ names) (row ∷ rows) apart =
    kept_wait name one (sum row.lengths) row.sending (waiting names rows) (apart 0 one refl)
    ∙ ap (λ (list : List (ℕ × ℕ)). waits_by one (sum row.lengths) row.sending ++ list) (none_waits name names rows (λ number. apart (suc number)))

no_rows : (number : Option ℕ) → option_map_or (λ (n : ℕ). settled_at n []) number [] ≡ []
no_rows None = refl
no_rows (Some n) = refl

next_row : (row : Row) (rows : List Row) (number : Option ℕ)
    → option_map_or (λ (n : ℕ). settled_at n (row ∷ rows)) (option_map (λ (n : ℕ). n + 1) number) (row ∷ rows)
    ≡ row ∷ option_map_or (λ (n : ℕ). settled_at n rows) number rows
next_row row rows None = refl
next_row row rows (Some n) =
    ap (λ (k : ℕ). settled_at k (row ∷ rows)) (let same : n + 1 ≡ suc n = omega arith in same) ∙ settled_cons row rows n

queue_row : (names : List ℕ) (rows : List Row) (name : ℕ) → AreApart names → without name (waiting names rows) ≡ waiting names (settled_by names rows name)
queue_row [] rows name apart = refl
queue_row (one ∷ names) [] name apart = sym (ap (waiting (one ∷ names)) (no_rows (number_of name (one ∷ names))))
queue_row (one ∷ names) (row ∷ rows) name apart =
    go (name == one) refl (queue_row names rows name (rest_apart one names apart))
  where
    go : (b : Bool) → (name == one) ≡ b → without name (waiting names rows) ≡ waiting names (settled_by names rows name)
        → without name (waits_by one (sum row.lengths) row.sending ++ waiting names rows)
        ≡ waiting (one ∷ names)
        (option_map_or (λ (n : ℕ). settled_at n (row ∷ rows)) (cond b (Some 0) (option_map (λ (n : ℕ). n + 1) (number_of name names))) (row ∷ rows))
    go true at more =
        gone_wait name one (sum row.lengths) row.sending (waiting names rows) at
        ∙ none_waits name names rows (λ number other is.
        ap (λ (n : ℕ). n == other) (eqb-true name one at) ∙ first_apart one names apart number other is)
    go false at more =
        kept_wait name one (sum row.lengths) row.sending (waiting names rows) at
        ∙ ap (λ (list : List (ℕ × ℕ)). waits_by one (sum row.lengths) row.sending ++ list) more
        ∙ sym (ap (waiting (one ∷ names)) (next_row row rows (number_of name names)))

pub queue_rows : (names : List ℕ) → AreApart names → (list : List ℕ) (rows : List Row)
    → fold (λ (queue : List (ℕ × ℕ)) (name : ℕ). without name queue) (waiting names rows) list
    ≡ waiting names (fold (settled_by names) rows list)
queue_rows names apart [] rows = refl
queue_rows names apart (name ∷ list) rows =
    ap (λ (start : List (ℕ × ℕ)). fold (λ (queue : List (ℕ × ℕ)) (one : ℕ). without one queue) start list) (queue_row names rows name apart)
    ∙ queue_rows names apart list (settled_by names rows name)
