-- The URLs and the index of their owners, as both change.
use Rattle.std.proofs.Common.{◌≡◌, ℕ, Bool, true, false, cond, drop, List, [], ◌∷◌, Some, None, nat_eq, refl, sym, ap, ◌∙◌}
use Rattle.std.specs.Prelude.{slice_get, Result, Ok, Err, OnErr, OnOk}
use Rattle.std.specs.Result.{is_err}
use Rattle.std.specs.List.Sorted.{IsStrictlySortedBy}
use Rattle.std.specs.Ordering.{nat_cmp}
use Rattle.std.specs.Cmp.Lexicographic.{slice_cmp}
use Rattle.std.specs.Str.{bytes_eq}
use Rattle.std.specs.Map.{keys_of}
use Rattle.std.specs.Set.{remove_key}
use Rattle.std.specs.BTreeSet.{insert_key}
use Rattle.std.proofs.lemmas.Bool.{eqb-true}
use Rattle.url_store.specs.declared.url.Url.{Url}
use Rattle.url_store.specs.Urls.{own_url, url_at, with_url, without}
use Rattle.url_store.specs.Owners.{texts_at, Agree}
use Rattle.url_store.proofs.Owned.{owned_inserted, owned_removed, removed_first, texts_of, IsFirst}

abbrev Urls : Type 0
Urls = List (List ℕ × Url)

abbrev Owners : Type 0
Owners = List (ℕ × List (List ℕ))

-- what holds after a fault
pub on_fault : {T E P : Type 0} (result : Result T E) → true ≡ is_err result → OnErr result P → P
on_fault (Ok value) is holds = absurd (cc)
on_fault (Err fault) is holds = holds

-- what holds without one
pub on_success : {T E P : Type 0} (result : Result T E) → false ≡ is_err result → OnOk result P → P
on_success (Ok value) is holds = holds
on_success (Err fault) is holds = absurd (cc)

-- a URL that comes
pub agree_inserted : (urls : Urls) (owners later : Owners) (text : List ℕ) (url : Url) → IsStrictlySortedBy (slice_cmp nat_cmp) (keys_of urls)
    → url_at text urls ≡ None → Agree urls owners
    → ((other : ℕ) → texts_at other later ≡ cond (nat_eq other url.owner.0) (insert_key (slice_cmp nat_cmp) (texts_at other owners) text)
    (texts_at other owners))
    → Agree (with_url text url urls) later
agree_inserted urls owners later text url sorted none agree is = λ other.
    is other ∙ ap (λ texts. cond (nat_eq other url.owner.0) (insert_key (slice_cmp nat_cmp) texts text) texts) (agree other) ∙ sym
    (owned_inserted text url urls sorted none other)

-- a URL that goes
pub agree_removed : (urls : Urls) (owners later : Owners) (text : List ℕ) (url : Url) → url_at text urls ≡ Some url → Agree urls owners
    → ((other : ℕ) → texts_at other later ≡ cond (nat_eq other url.owner.0) (remove_key (bytes_eq text) (texts_at other owners)) (texts_at other owners))
    → Agree (without text urls) later
agree_removed urls owners later text url there agree is = λ other.
    is other ∙ ap (λ texts. cond (nat_eq other url.owner.0) (remove_key (bytes_eq text) texts) texts) (agree other) ∙ sym
    (owned_removed text url urls there other)

-- a text that is nobody's goes without a trace
pub without_absent : (text : List ℕ) (urls : Urls) → url_at text urls ≡ None → without text urls ≡ urls
without_absent text [] none = refl
without_absent text (entry ∷ urls) none = (elim (bytes_eq text entry.0) as (λ r. bytes_eq text entry.0 ≡ r → without text (entry ∷ urls) ≡ entry ∷ urls) [
  | true ↦ λ is. let found = rw is at none in cc
  | false ↦ λ is. rw is (ap (λ more. entry ∷ more) (without_absent text urls (rw is at none)))
]) refl

-- a URL that is an owner's has that owner
pub same_owner : (owner : ℕ) (text : List ℕ) (urls : Urls) (url : Url) → own_url owner text urls ≡ url_at text urls → url_at text urls ≡ Some url → owner
    ≡ url.owner.0
same_owner owner text urls url own there = by (nat_eq owner url.owner.0) refl (rw there at own)
  where
    by : (r : Bool) → nat_eq owner url.owner.0 ≡ r → cond r (Some url) None ≡ Some url → owner ≡ url.owner.0
    by true is same = eqb-true owner url.owner.0 is
    by false is same = absurd (cc)

-- an owner's first URL goes
pub agree_popped : (urls : Urls) (owners later : Owners) (owner : ℕ) (text : List ℕ) → IsFirst owner text urls → slice_get (texts_of owner urls) 0 ≡ Some text
    → Agree urls owners
    → ((other : ℕ) → texts_at other later ≡ cond (nat_eq other owner) (drop 1 (texts_at other owners)) (texts_at other owners))
    → Agree (without text urls) later
agree_popped urls owners later owner text first least agree is = λ other.
    is other ∙ ap (λ texts. cond (nat_eq other owner) (drop 1 texts) texts) (agree other) ∙ by other (nat_eq other owner) refl
    ∙ ap (λ one. cond (nat_eq other one) (remove_key (bytes_eq text) (texts_of other urls)) (texts_of other urls)) (eqb-true owner first.url.owner.0 first.own)
    ∙ sym (owned_removed text first.url urls first.there other)
  where
    by : (other : ℕ) (r : Bool) → nat_eq other owner ≡ r → cond r (drop 1 (texts_of other urls)) (texts_of other urls)
        ≡ cond r (remove_key (bytes_eq text) (texts_of other urls)) (texts_of other urls)
    by other false is = refl
    by other true is =
        let same : other ≡ owner = eqb-true other owner is in
        sym (removed_first text (texts_of other urls) (ap (λ one. slice_get (texts_of one urls) 0) same ∙ least))

-- a first URL is somewhere
pub is_nowhere : (owner : ℕ) (text : List ℕ) (urls : Urls) → IsFirst owner text urls → url_at text urls ≡ None → ⊥
is_nowhere owner text urls first none = let there = first.there in cc
