-- A reader that is kept steps: its course is another, and all else is as it was.
use Rattle.std.proofs.Common.{◌≡◌, ℕ, ◌==◌, Bool, true, false, cond, List, [], ◌∷◌, Option, Some, nat_eq, refl, sym, ap, ◌∙◌, subst, arith}
use Rattle.std.specs.Prelude.{length, sum_by, IsSomeAnd, if◌then◌else◌}
use Rattle.std.specs.Option.{option_map}
use Rattle.std.specs.Ordering.{nat_cmp}
use Rattle.std.specs.Cmp.{unsigned_tied}
use Rattle.std.specs.BTreeMap.{is_at}
use Rattle.std.specs.Map.{keys_of, set_value, values_of}
use Rattle.std.proofs.lemmas.Bool.{eq-eqb, eqb-true}
use Rattle.std.proofs.lemmas.Map.{length-set_value}
use Rattle.std.proofs.lemmas.Map.Entries.{sum_by-set_value}
use Rattle.std.proofs.lemmas.Map.Steps.{set_value_same}
use Rattle.item_shares.specs.declared.shares.Share.{Share}
use Rattle.blob_items.specs.declared.view.View.{View}
use Rattle.range_reader.specs.Ends.{StepEnds}
use Rattle.range_reader.specs.Places.{Course}
use Rattle.range_reader.specs.Steps.{Asked}
use Rattle.range_reader.specs.declared.step_end.StepEnd.{StepEnd}
use Rattle.blob_store.specs.declared.readers.OpenReader.{OpenReader}
use Rattle.blob_store.specs.Owners.{owned_by}
use Rattle.blob_store.specs.Readers.{reader_at, reads}
use Rattle.blob_store.specs.Steps.{with_course, IsStepped, Moves}

abbrev Open : Type 0
Open = List (ℕ × OpenReader)

abbrev pub moved : ℕ → OpenReader → Open → Open
moved number reader readers = set_value (is_at (nat_cmp number)) readers reader

true_false : true ≡ false → ⊥
true_false e = cc e

module _ (number : ℕ) (course : Course) (reader : OpenReader) where
  moved_at : (old : Open) (other : ℕ) → reader_at number old ≡ Some reader
      → reader_at other (moved number (with_course course reader) old)
      ≡ (if number == other then option_map (with_course course) (reader_at other old) else reader_at other old)
  moved_at [] other there = absurd (cc there)
  moved_at (one ∷ old) other there =
      go (is_at (nat_cmp number) one.0) (unsigned_tied number one.0) (is_at (nat_cmp other) one.0) (unsigned_tied other one.0) (number == other) refl there
      (moved_at old other)
    where
      go : (b : Bool) → b ≡ (number == one.0) → (c : Bool) → c ≡ (other == one.0) → (d : Bool) → (number == other) ≡ d
          → cond b (Some one.1) (reader_at number old) ≡ Some reader
          → (reader_at number old ≡ Some reader → reader_at other (moved number (with_course course reader) old)
          ≡ (if number == other then option_map (with_course course) (reader_at other old) else reader_at other old))
          → reader_at other (cond b ((one.0, with_course course reader) ∷ old) (one ∷ moved number (with_course course reader) old))
          ≡ (if d then option_map (with_course course) (cond c (Some one.1) (reader_at other old)) else cond c (Some one.1) (reader_at other old))
      go true b true c true d there rest =
          let same : one.1 ≡ reader = cc there in
          ap (λ (x : Bool). cond x (Some (with_course course reader)) (reader_at other old)) (unsigned_tied other one.0 ∙ sym c)
          ∙ ap (λ (r : OpenReader). Some (with_course course r)) (sym same)
      go true b true c false d there rest =
          let here : number ≡ other = eqb-true number one.0 (sym b) ∙ sym (eqb-true other one.0 (sym c)) in
          absurd (true_false (sym (eq-eqb number other here) ∙ d))
      go true b false c true d there rest =
          let here : other ≡ one.0 = sym (eqb-true number other d) ∙ eqb-true number one.0 (sym b) in
          absurd (true_false (sym (eq-eqb other one.0 here) ∙ sym c))
      go true b false c false d there rest =
          ap (λ (x : Bool). cond x (Some (with_course course reader)) (reader_at other old)) (unsigned_tied other one.0 ∙ sym c)
      go false b true c true d there rest =
          let here : number ≡ one.0 = eqb-true number other d ∙ eqb-true other one.0 (sym c) in
          absurd (true_false (sym (eq-eqb number one.0 here) ∙ sym b))
      go false b true c false d there rest =
          ap (λ (x : Bool). cond x (Some one.1) (reader_at other (moved number (with_course course reader) old))) (unsigned_tied other one.0 ∙ sym c)
      go false b false c d e there rest =
          ap (λ (x : Bool). cond x (Some one.1) (reader_at other (moved number (with_course course reader) old))) (unsigned_tied other one.0 ∙ sym c)
          ∙ rest there
          ∙ ap (λ (x : Bool). if x then option_map (with_course course) (reader_at other old) else reader_at other old) e

  pub moves : (old new : Open) → reader_at number old ≡ Some reader → new ≡ moved number (with_course course reader) old → Moves number course old new
  moves old new there is = record {
    each = λ other. ap (reader_at other) is ∙ moved_at old other there;
    many = ap (λ (list : Open). length list) is ∙ length-set_value (is_at (nat_cmp number)) old (with_course course reader);
    reading = λ name.
        let sums = sum_by-set_value (reads name) (is_at (nat_cmp number)) old reader (with_course course reader) there in
        let same : sum_by (reads name) (values_of new) ≡ sum_by (reads name) (values_of (moved number (with_course course reader) old)) =
        ap (λ (list : Open). sum_by (reads name) (values_of list)) is in
        omega (arith, sums, same);
  }

  -- whose readers they are stays
  owned_moved : (owner : ℕ) (old : Open) → reader_at number old ≡ Some reader
      → keys_of (owned_by owner (moved number (with_course course reader) old)) ≡ keys_of (owned_by owner old)
  owned_moved owner [] there = refl
  owned_moved owner (one ∷ old) there = go (is_at (nat_cmp number) one.0) there (owned_moved owner old)
    where
      keys_by : (b : Bool) (key : ℕ) (first other : ℕ × OpenReader) (list : Open) → first.0 ≡ other.0
          → keys_of (cond b (first ∷ list) list) ≡ keys_of (cond b (other ∷ list) list)
      keys_by true key first other list same = ap (λ (k : ℕ). k ∷ keys_of list) same
      keys_by false key first other list same = refl

      rest_by : (b : Bool) (first : ℕ × OpenReader) (list other : Open) → keys_of list ≡ keys_of other
          → keys_of (cond b (first ∷ list) list) ≡ keys_of (cond b (first ∷ other) other)
      rest_by true first list other same = ap (λ (keys : List ℕ). first.0 ∷ keys) same
      rest_by false first list other same = same

      go : (b : Bool) → cond b (Some one.1) (reader_at number old) ≡ Some reader
          → (reader_at number old ≡ Some reader
          → keys_of (owned_by owner (moved number (with_course course reader) old)) ≡ keys_of (owned_by owner old))
          → keys_of (owned_by owner (cond b ((one.0, with_course course reader) ∷ old) (one ∷ moved number (with_course course reader) old)))
          ≡ keys_of (owned_by owner (one ∷ old))
      go true there rest =
          let same : reader ≡ one.1 = cc there in
          ap (λ (r : OpenReader). keys_of (cond (nat_eq owner r.owner.0) ((one.0, with_course course reader) ∷ owned_by owner old) (owned_by owner old))) same
          ∙ keys_by (nat_eq owner one.1.owner.0) one.0 (one.0, with_course course reader) one (owned_by owner old) refl
      go false there rest =
          rest_by (nat_eq owner one.1.owner.0) one (owned_by owner (moved number (with_course course reader) old)) (owned_by owner old) (rest there)

  pub agree_moved : (owner : ℕ) (old new : Open) → reader_at number old ≡ Some reader → new ≡ moved number (with_course course reader) old
      → keys_of (owned_by owner new) ≡ keys_of (owned_by owner old)
  agree_moved owner old new there is = ap (λ (list : Open). keys_of (owned_by owner list)) is ∙ owned_moved owner old there

-- what a step comes to, for who sees the readers
pub stepped : (number : ℕ) (course : Course) (reader : OpenReader) (shares : List (Option Share)) (views : List View) (room : ℕ) (old new : Asked)
    (out : List ℕ) (end : StepEnd) (seen before later : Open) → before ≡ seen → reader_at number before ≡ Some reader
    → later ≡ moved number (with_course course reader) before → StepEnds shares views room reader.course course old new out end
    → IsSomeAnd (reader_at number seen) (λ (one : OpenReader). IsStepped number one shares views room old new out end seen later)
stepped number course reader shares views room old new out end seen before later same there is ends =
    subst (λ (list : Open). IsSomeAnd (reader_at number list) (λ (one : OpenReader). IsStepped number one shares views room old new out end list later)) same
    (subst (λ (found : Option OpenReader). IsSomeAnd found (λ (one : OpenReader). IsStepped number one shares views room old new out end before later))
    (sym there) (record {
      course = course;
      ends = ends;
      moves = moves number course reader before later there is;
      stays = λ same.
          is ∙ ap (λ (one : Course). moved number (with_course one reader) before) same
          ∙ set_value_same (is_at (nat_cmp number)) before reader there;
    }))
