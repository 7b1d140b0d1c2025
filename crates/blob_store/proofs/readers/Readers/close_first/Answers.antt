-- The first reader of an owner goes, where it has one.
use Rattle.std.proofs.Common.{◌≡◌, ℕ, false, nat_eq, true, List, None, Some, sym, ap, ◌∙◌, subst}
use Rattle.std.specs.Prelude.{slice_get}
use Rattle.std.proofs.lemmas.Bool.{eqb-true}
use Rattle.blob_store.specs.declared.readers.OpenReader.{OpenReader}
use Rattle.blob_store.specs.Owners.{Agree}
use Rattle.blob_store.specs.Readers.{is_own, reader_at, ClosesFrom}
use Rattle.blob_store.proofs.Opening.{closes}
use Rattle.blob_store.proofs.OwnedReaders.{agree_popped, first_owned, is_nowhere, none_own, none_owned, numbers_of, on_none, IsFirst}
use Rattle.blob_store.proofs.readers.Readers.close_first.Goals as goal

pub invariant_of-self-in_err-reader : goal.invariant_of-self-in_err-reader
invariant_of-self-in_err-reader c =
    let owner = c.args.owner.0 in
    let readers = c.self.inside.by_number.entries in
    let number = c.in_ok-number.number in
    let least : slice_get (numbers_of owner readers) 0 ≡ Some number =
    ap (λ (numbers : List ℕ). slice_get numbers 0) (sym (c.self.invariant owner)) ∙ sym c.in_ok-number.ensures.first in
    absurd (is_nowhere owner number readers (first_owned owner number readers c.len-count.ensures.ordered least) (sym c.in_err-reader.ensures.value))

pub returns-in_err-reader-clause-none : goal.returns-in_err-reader-clause-none
returns-in_err-reader-clause-none c =
    let owner = c.args.owner.0 in
    let readers = c.self.inside.by_number.entries in
    let number = c.in_ok-number.number in
    let least : slice_get (numbers_of owner readers) 0 ≡ Some number =
    ap (λ (numbers : List ℕ). slice_get numbers 0) (sym (c.self.invariant owner)) ∙ sym c.in_ok-number.ensures.first in
    absurd (is_nowhere owner number readers (first_owned owner number readers c.len-count.ensures.ordered least) (sym c.in_err-reader.ensures.value))

pub invariant_of-self-2 : goal.invariant_of-self-2
invariant_of-self-2 c =
    let owner = c.args.owner.0 in
    let readers = c.self.inside.by_number.entries in
    let number = c.in_ok-number.number in
    let least : slice_get (numbers_of owner readers) 0 ≡ Some number =
    ap (λ (numbers : List ℕ). slice_get numbers 0) (sym (c.self.invariant owner)) ∙ sym c.in_ok-number.ensures.first in
    subst (λ (list : List (ℕ × OpenReader)). Agree list c.pop_number.new.owners.entries) (sym c.remove.ensures.entries)
    (agree_popped readers c.self.inside.owners.entries c.pop_number.new.owners.entries owner number
    (first_owned owner number readers c.len-count.ensures.ordered least) least c.self.invariant c.pop_number.ensures.rest)

pub returns-in_err-number-clause-none : goal.returns-in_err-number-clause-none
returns-in_err-number-clause-none c =
    let owner = c.args.owner.0 in
    let readers = c.self.inside.by_number.entries in
    let least : slice_get (numbers_of owner readers) 0 ≡ None =
    ap (λ (numbers : List ℕ). slice_get numbers 0) (sym (c.self.invariant owner)) ∙ sym c.in_err-number.ensures.first in
    on_none c.from_residual.result (
      c.self.view_is,
      subst (λ (list : List (ℕ × OpenReader)). (number : ℕ) → is_own owner (reader_at number list) ≡ false) c.self.view_is
          (none_own owner readers (none_owned owner readers least)),
    )

pub returns-clause-closed : goal.returns-clause-closed
returns-clause-closed c =
    let owner = c.args.owner.0 in
    let readers = c.self.inside.by_number.entries in
    let number = c.in_ok-number.number in
    let least : slice_get (numbers_of owner readers) 0 ≡ Some number =
    ap (λ (numbers : List ℕ). slice_get numbers 0) (sym (c.self.invariant owner)) ∙ sym c.in_ok-number.ensures.first in
    let first : IsFirst owner number readers = first_owned owner number readers c.len-count.ensures.ordered least in
    let there : reader_at number readers ≡ Some c.in_ok-reader.reader = sym c.in_ok-reader.ensures.value in
    let same : first.reader ≡ c.in_ok-reader.reader = let both = sym there ∙ first.there in cc in
    subst (λ (list : List (ℕ × OpenReader)). ClosesFrom owner c.in_ok-reader.reader list c.remove.new.self.entries) c.self.view_is (
    record {
      number = number;
      there = there;
      own = sym (eqb-true owner c.in_ok-reader.reader.owner.0
          (subst (λ (reader : OpenReader). nat_eq owner reader.owner.0 ≡ true) same first.own));
      closes = closes number readers c.remove.new.self.entries c.len-count.ensures.ordered c.remove.ensures.entries;
    }
    )
