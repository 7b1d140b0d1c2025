-- The texts of an owner's URLs, as URLs come and go.
use Rattle.std.proofs.Common.{◌≡◌, ℕ, Bool, true, false, cond, drop, List, [], ◌∷◌, Some, None, arith, nat_eq, refl, sym, ap, ◌∙◌, subst}
use Rattle.std.specs.Prelude.{slice_get}
use Rattle.std.specs.List.{AllByRecursion}
use Rattle.std.specs.List.Sorted.{IsStrictlySortedBy}
use Rattle.std.specs.declared.cmp.Ordering.{Ordering}
use Rattle.std.specs.declared.cmp.Ordering.TheVariants.{Less, Equal, Greater}
use Rattle.std.specs.Ordering.{is_eq, match_ordering, nat_cmp}
use Rattle.std.specs.Cmp.Lexicographic.{slice_cmp, nat_list_cmp_total}
use Rattle.std.specs.Str.{bytes_eq}
use Rattle.std.specs.Map.{keys_of}
use Rattle.std.specs.Set.{remove_key}
use Rattle.std.specs.BTreeSet.{insert_key}
use Rattle.std.proofs.lemmas.Map.Keys.{sorted_head, sorted_tail}
use Rattle.std.proofs.lemmas.Bool.Decides.{nat_tests}
use Rattle.std.proofs.lemmas.Slice.Eq.{bytes_eq-Decides}
use Rattle.std.proofs.lemmas.Map.Text.{is_eq-slice_cmp}
use Rattle.url_store.specs.declared.url.Url.{Url}
use Rattle.url_store.specs.Urls.{owned_by, url_at, with_url, without}

abbrev Urls : Type 0
Urls = List (List ℕ × Url)

-- the texts of an owner's URLs
abbrev pub texts_of : ℕ → Urls → List (List ℕ)
texts_of owner urls = keys_of (owned_by owner urls)

abbrev order : List ℕ → List ℕ → Ordering
order = slice_cmp nat_cmp

pub texts_cons : (owner : ℕ) (entry : List ℕ × Url) (urls : Urls) → texts_of owner (entry ∷ urls) ≡ cond (nat_eq owner entry.1.owner.0)
    (entry.0 ∷ texts_of owner urls) (texts_of owner urls)
texts_cons owner entry urls = by (nat_eq owner entry.1.owner.0)
  where
    by : (b : Bool) → keys_of (cond b (entry ∷ owned_by owner urls) (owned_by owner urls)) ≡ cond b (entry.0 ∷ texts_of owner urls) (texts_of owner urls)
    by true = refl
    by false = refl

eq_of : (one other : List ℕ) (r : Ordering) → order one other ≡ r → bytes_eq one other ≡ is_eq r
eq_of one other r is = sym (is_eq-slice_cmp one other) ∙ ap is_eq is

same_order : (text : List ℕ) → order text text ≡ Equal
same_order [] = refl
same_order (byte ∷ text) = rw same_number (same_order text)
  where
    same_number : nat_cmp byte byte ≡ Equal
    same_number = grind (arith, nat_tests)

pub same_bytes : (text : List ℕ) → bytes_eq text text ≡ true
same_bytes text = eq_of text text Equal (same_order text)

all_above : (low high : List ℕ) (texts : List (List ℕ)) → order low high ≡ Less → AllByRecursion (λ text. order high text ≡ Less) texts
    → AllByRecursion (λ text. order low text ≡ Less) texts
all_above low high [] below all = tt
all_above low high (text ∷ texts) below all = (nat_list_cmp_total.trans low high text below all.0, all_above low high texts below all.1)

owned_above : (low : List ℕ) (owner : ℕ) (urls : Urls) → AllByRecursion (λ text. order low text ≡ Less) (keys_of urls)
    → AllByRecursion (λ text. order low text ≡ Less) (texts_of owner urls)
owned_above low owner [] all = tt
owned_above low owner (entry ∷ urls) all =
    subst (AllByRecursion (λ text. order low text ≡ Less)) (sym (texts_cons owner entry urls))
    (by (nat_eq owner entry.1.owner.0) (owned_above low owner urls all.1))
  where
    by : (b : Bool) → AllByRecursion (λ text. order low text ≡ Less) (texts_of owner urls) → AllByRecursion (λ text. order low text ≡ Less)
        (cond b (entry.0 ∷ texts_of owner urls) (texts_of owner urls))
    by true rest = (all.0, rest)
    by false rest = rest

insert_front : (text : List ℕ) (texts : List (List ℕ)) → AllByRecursion (λ other. order text other ≡ Less) texts → insert_key order texts text ≡ text ∷ texts
insert_front text [] all = refl
insert_front text (other ∷ texts) all = rw all.0 refl

-- a URL that comes is its owner's
pub owned_inserted : (text : List ℕ) (url : Url) (urls : Urls) → IsStrictlySortedBy order (keys_of urls) → url_at text urls ≡ None → (owner : ℕ)
    → texts_of owner (with_url text url urls) ≡ cond (nat_eq owner url.owner.0) (insert_key order (texts_of owner urls) text) (texts_of owner urls)
owned_inserted text url [] sorted none owner = texts_cons owner (text, url) []
owned_inserted text url (entry ∷ urls) sorted none owner =
    by (λ absent. owned_inserted text url urls (sorted_tail order entry.0 (keys_of urls) sorted) absent owner) (order text entry.0) refl
  where
    more : (mine new : Bool) → order text entry.0 ≡ Greater
        → cond mine (entry.0 ∷ cond new (insert_key order (texts_of owner urls) text) (texts_of owner urls))
        (cond new (insert_key order (texts_of owner urls) text) (texts_of owner urls))
        ≡ cond new (insert_key order (cond mine (entry.0 ∷ texts_of owner urls) (texts_of owner urls)) text)
        (cond mine (entry.0 ∷ texts_of owner urls) (texts_of owner urls))
    more true true is = rw is refl
    more true false is = refl
    more false true is = refl
    more false false is = refl

    by : (url_at text urls ≡ None → texts_of owner (with_url text url urls) ≡ cond (nat_eq owner url.owner.0) (insert_key order (texts_of owner urls) text)
        (texts_of owner urls))
        → (r : Ordering) → order text entry.0 ≡ r → texts_of owner
        (match_ordering r ((text, url) ∷ entry ∷ urls) ((entry.0, url) ∷ urls) (entry ∷ with_url text url urls))
        ≡ cond (nat_eq owner url.owner.0) (insert_key order (texts_of owner (entry ∷ urls)) text) (texts_of owner (entry ∷ urls))
    by rest Less is =
        let above = all_above text entry.0 (keys_of urls) is (sorted_head order entry.0 (keys_of urls) sorted) in
        let front = insert_front text (texts_of owner (entry ∷ urls)) (owned_above text owner (entry ∷ urls) (is, above)) in
        texts_cons owner (text, url) (entry ∷ urls) ∙ ap (λ texts. cond (nat_eq owner url.owner.0) texts (texts_of owner (entry ∷ urls))) (sym front)
    by rest Equal is = let found = rw (eq_of text entry.0 Equal is) at none in cc
    by rest Greater is =
        let absent : url_at text urls ≡ None = rw (eq_of text entry.0 Greater is) at none in
        let mine = nat_eq owner entry.1.owner.0 in
        let new = nat_eq owner url.owner.0 in
        let own = texts_cons owner entry urls in
        texts_cons owner entry (with_url text url urls) ∙ ap (λ texts. cond mine (entry.0 ∷ texts) texts) (rest absent) ∙ more mine new is
        ∙ ap (λ texts. cond new (insert_key order texts text) texts) (sym own)

-- a URL that goes was its owner's
pub owned_removed : (text : List ℕ) (url : Url) (urls : Urls) → url_at text urls ≡ Some url → (owner : ℕ)
    → texts_of owner (without text urls) ≡ cond (nat_eq owner url.owner.0) (remove_key (bytes_eq text) (texts_of owner urls)) (texts_of owner urls)
owned_removed text url [] found owner = cc
owned_removed text url (entry ∷ urls) found owner = by (λ there. owned_removed text url urls there owner) (bytes_eq text entry.0) refl
  where
    here : (new : Bool) → bytes_eq text entry.0 ≡ true
        → texts_of owner urls ≡ cond new (remove_key (bytes_eq text) (cond new (entry.0 ∷ texts_of owner urls) (texts_of owner urls)))
        (cond new (entry.0 ∷ texts_of owner urls) (texts_of owner urls))
    here true is = rw is refl
    here false is = refl

    more : (mine new : Bool) → bytes_eq text entry.0 ≡ false
        → cond mine (entry.0 ∷ cond new (remove_key (bytes_eq text) (texts_of owner urls)) (texts_of owner urls))
        (cond new (remove_key (bytes_eq text) (texts_of owner urls)) (texts_of owner urls))
        ≡ cond new (remove_key (bytes_eq text) (cond mine (entry.0 ∷ texts_of owner urls) (texts_of owner urls)))
        (cond mine (entry.0 ∷ texts_of owner urls) (texts_of owner urls))
    more true true is = rw is refl
    more true false is = refl
    more false true is = refl
    more false false is = refl

    by : (url_at text urls ≡ Some url → texts_of owner (without text urls) ≡ cond (nat_eq owner url.owner.0) (remove_key (bytes_eq text) (texts_of owner urls))
        (texts_of owner urls))
        → (r : Bool) → bytes_eq text entry.0 ≡ r → texts_of owner (cond r urls (entry ∷ without text urls))
        ≡ cond (nat_eq owner url.owner.0) (remove_key (bytes_eq text) (texts_of owner (entry ∷ urls))) (texts_of owner (entry ∷ urls))
    by rest true is =
        let there = rw is at found in
        let same : entry.1 ≡ url = cc in
        let own = texts_cons owner entry urls in
        here (nat_eq owner entry.1.owner.0) is ∙ ap (λ texts. cond (nat_eq owner entry.1.owner.0) (remove_key (bytes_eq text) texts) texts) (sym own)
        ∙ ap (λ (one : Url). cond (nat_eq owner one.owner.0) (remove_key (bytes_eq text) (texts_of owner (entry ∷ urls))) (texts_of owner (entry ∷ urls))) same
    by rest false is =
        let mine = nat_eq owner entry.1.owner.0 in
        let new = nat_eq owner url.owner.0 in
        let own = texts_cons owner entry urls in
        texts_cons owner entry (without text urls) ∙ ap (λ texts. cond mine (entry.0 ∷ texts) texts) (rest (rw is at found)) ∙ more mine new is
        ∙ ap (λ texts. cond new (remove_key (bytes_eq text) texts) texts) (sym own)

-- a URL that comes and goes leaves the others
pub removed_inserted : (text : List ℕ) (url : Url) (urls : Urls) → url_at text urls ≡ None → without text (with_url text url urls) ≡ urls
removed_inserted text url [] none = rw (same_bytes text) refl
removed_inserted text url (entry ∷ urls) none = by (λ absent. removed_inserted text url urls absent) (order text entry.0) refl
  where
    by : (url_at text urls ≡ None → without text (with_url text url urls) ≡ urls) → (r : Ordering) → order text entry.0 ≡ r
        → without text (match_ordering r ((text, url) ∷ entry ∷ urls) ((entry.0, url) ∷ urls) (entry ∷ with_url text url urls)) ≡ entry ∷ urls
    by rest Less is = rw (same_bytes text) refl
    by rest Equal is = let found = rw (eq_of text entry.0 Equal is) at none in cc
    by rest Greater is =
        let apart = eq_of text entry.0 Greater is in
        let absent : url_at text urls ≡ None = rw apart at none in
        rw apart (ap (λ more. entry ∷ more) (rest absent))

-- the first URL of an owner, by its text
pub record IsFirst (owner : ℕ) (text : List ℕ) (urls : Urls) : Type 0 where
  pub url : Url
  pub first : slice_get (owned_by owner urls) 0 ≡ Some (text, url)
  pub there : url_at text urls ≡ Some url
  pub own : nat_eq owner url.owner.0 ≡ true

none_below : (text : List ℕ) (urls : Urls) → AllByRecursion (λ other. order text other ≡ Less) (keys_of urls) → url_at text urls ≡ None
none_below text [] all = refl
none_below text (entry ∷ urls) all = rw (eq_of text entry.0 Less all.0) (none_below text urls all.1)

-- the first text of an owner is that of its first URL
pub first_owned : (owner : ℕ) (text : List ℕ) (urls : Urls) → IsStrictlySortedBy order (keys_of urls) → slice_get (texts_of owner urls) 0 ≡ Some text
    → IsFirst owner text urls
first_owned owner text [] sorted is = cc
first_owned owner text (entry ∷ urls) sorted is =
    by (λ rest. first_owned owner text urls (sorted_tail order entry.0 (keys_of urls) sorted) rest) (nat_eq owner entry.1.owner.0) refl
    (subst (λ texts. slice_get texts 0 ≡ Some text) (texts_cons owner entry urls) is)
  where
    apart : (r : Bool) → bytes_eq text entry.0 ≡ r → (url : Url) → url_at text urls ≡ Some url → bytes_eq text entry.0 ≡ false
    apart false is url there = is
    apart true is url there =
        let same : text ≡ entry.0 = (bytes_eq-Decides text entry.0).0 is in
        let none = none_below entry.0 urls (sorted_head order entry.0 (keys_of urls) sorted) in
        let none : url_at text urls ≡ None = subst (λ one. url_at one urls ≡ None) (sym same) none in cc

    by : (slice_get (texts_of owner urls) 0 ≡ Some text → IsFirst owner text urls) → (mine : Bool) → nat_eq owner entry.1.owner.0 ≡ mine
        → slice_get (cond mine (entry.0 ∷ texts_of owner urls) (texts_of owner urls)) 0 ≡ Some text → IsFirst owner text (entry ∷ urls)
    by rest true mine is =
        let same : entry.0 ≡ text = cc in
        record {
          url = entry.1;
          first = rw mine (ap (λ one. Some (one, entry.1)) same);
          there = rw (ap (λ one. bytes_eq text one) same ∙ same_bytes text) refl;
          own = mine;
        }
    by rest false mine is =
        let later = rest is in
        record {
          url = later.url;
          first = rw mine later.first;
          there = rw (apart (bytes_eq text entry.0) refl later.url later.there) later.there;
          own = later.own;
        }

-- an owner without texts has no URLs
pub none_owned : (owner : ℕ) (urls : Urls) → slice_get (texts_of owner urls) 0 ≡ None → owned_by owner urls ≡ []
none_owned owner urls none = by (owned_by owner urls) none
  where
    by : (owned : Urls) → slice_get (keys_of owned) 0 ≡ None → owned ≡ []
    by [] none = refl
    by (entry ∷ owned) none = cc

-- the first of some texts taken out by itself
pub removed_first : (text : List ℕ) (texts : List (List ℕ)) → slice_get texts 0 ≡ Some text → remove_key (bytes_eq text) texts ≡ drop 1 texts
removed_first text [] is = cc
removed_first text (other ∷ texts) is =
    let same : other ≡ text = cc in
    rw (ap (λ one. bytes_eq text one) same ∙ same_bytes text) refl
