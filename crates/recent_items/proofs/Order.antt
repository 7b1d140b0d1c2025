-- What a use does to the order, seen from its other end.
use Rattle.std.proofs.Common.{◌≡◌, ℕ, ◌≤◌, ◌-◌, ◌||◌, Bool, true, false, cond, List, [], ◌∷◌, ◌++◌, Some, None, Option, length, take, take_all, nat_eq, not, reverse, refl, sym, ap, ◌∙◌, subst}
use Rattle.std.specs.List.{AllByRecursion, IsDistinct, filter}
use Rattle.std.specs.Option.{option_map_or, option_to_list}
use Rattle.std.specs.Map.{keys_of, lookup_entry, remove_entry}
use Rattle.std.proofs.lemmas.Bool.{eqb-true}
use Rattle.std.proofs.lemmas.List.{append-nil, reverse-append}
use Rattle.std.proofs.lemmas.List.Elements.{filter-append}
use Rattle.std.proofs.lemmas.List.Folds.{list_any-append}
use Rattle.std.specs.Cmp.{nat_eq_equiv}
use Rattle.std.proofs.lemmas.List.Sorted.{IsPermutation-map, IsPermutation-reverse}
use Rattle.std.proofs.lemmas.Map.Keys.{IsDistinct-IsPermutation, IsDistinct-head, IsDistinct-tail}
use Rattle.lru.specs.LruCache.{LruCache, promoted, put_entries}
use Rattle.recent_items.specs.Recent.{is_there, touched, without}

abbrev is_piece : ℕ → ℕ × ℕ → Bool
is_piece piece entry = nat_eq piece entry.0

pub reverse_cons : (entry : ℕ × ℕ) (entries : List (ℕ × ℕ)) → reverse (entry ∷ entries) ≡ reverse entries ++ entry ∷ []
reverse_cons entry entries = reverse-append (entry ∷ []) entries

one_more : (keeps : Bool) (entry : ℕ × ℕ) (entries : List (ℕ × ℕ)) → reverse entries ++ cond keeps (entry ∷ []) []
    ≡ reverse (cond keeps (entry ∷ entries) entries)
one_more true entry entries = sym (reverse_cons entry entries)
one_more false entry entries = append-nil (reverse entries)

filter_reverse : (test : ℕ × ℕ → Bool) (entries : List (ℕ × ℕ)) → filter test (reverse entries) ≡ reverse (filter test entries)
filter_reverse test [] = refl
filter_reverse test (entry ∷ entries) =
    ap (filter test) (reverse_cons entry entries) ∙ filter-append test (reverse entries) (entry ∷ [])
    ∙ ap (λ front. front ++ filter test (entry ∷ [])) (filter_reverse test entries) ∙ one_more (test entry) entry (filter test entries)

-- where no key is the piece, none is left out
rest_stays : (piece : ℕ) (entries : List (ℕ × ℕ)) → AllByRecursion (λ other. nat_eq piece other ≡ false) (keys_of entries) → (without piece entries ≡ entries)
    × (filter (is_piece piece) entries ≡ [])
rest_stays piece [] apart = (refl, refl)
rest_stays piece (entry ∷ entries) apart =
    let on = rest_stays piece entries apart.1 in
    (rw apart.0 (ap (λ rest. entry ∷ rest) on.0), rw apart.0 on.1)

-- the entries without the piece and the piece's own, in terms of the words for maps
record Parts (piece : ℕ) (entries : List (ℕ × ℕ)) : Type 0 where
  left : remove_entry (nat_eq piece) entries ≡ without piece entries
  own : filter (is_piece piece) entries ≡ option_to_list (lookup_entry (nat_eq piece) entries)

parts : (piece : ℕ) (entries : List (ℕ × ℕ)) → IsDistinct nat_eq (keys_of entries) → Parts piece entries
parts piece [] apart = record { left = refl; own = refl }
parts piece (entry ∷ entries) apart = (elim (nat_eq piece entry.0) as (λ y. nat_eq piece entry.0 ≡ y → Parts piece (entry ∷ entries)) [
  | true ↦ λ t.
      let same : piece ≡ entry.0 = eqb-true piece entry.0 t in
      let others : AllByRecursion (λ other. nat_eq piece other ≡ false) (keys_of entries) =
      subst (λ n. AllByRecursion (λ other. nat_eq n other ≡ false) (keys_of entries)) (sym same) (IsDistinct-head nat_eq entry.0 (keys_of entries) apart) in
      let rest = rest_stays piece entries others in
      record { left = rw t (sym rest.0); own = rw t (ap (λ more. entry ∷ more) rest.1) }
  | false ↦ λ t.
      let on = parts piece entries (IsDistinct-tail nat_eq entry.0 (keys_of entries) apart) in
      record { left = rw t (ap (λ more. entry ∷ more) on.left); own = rw t on.own }
]) refl

absent : (piece : ℕ) (entries : List (ℕ × ℕ)) → lookup_entry (nat_eq piece) entries ≡ None → without piece entries ≡ entries
absent piece [] none = refl
absent piece (entry ∷ entries) none = (elim (nat_eq piece entry.0) as (λ y. nat_eq piece entry.0 ≡ y → without piece (entry ∷ entries) ≡ entry ∷ entries) [
  | true ↦ λ t. let found = rw t at none in cc
  | false ↦ λ t. rw t (ap (λ more. entry ∷ more) (absent piece entries (rw t at none)))
]) refl

promoted_by : (piece : ℕ) (entries : List (ℕ × ℕ)) (found : Option (ℕ × ℕ)) → IsDistinct nat_eq (keys_of entries) → lookup_entry (nat_eq piece) entries ≡ found
    → option_map_or (λ entry. entry ∷ remove_entry (nat_eq piece) entries) found entries ≡ option_to_list found ++ without piece entries
promoted_by piece entries None apart is = sym (absent piece entries is)
promoted_by piece entries (Some entry) apart is = ap (λ rest. entry ∷ rest) (parts piece entries apart).left

pub touched_reverse : (piece : ℕ) (entries : List (ℕ × ℕ)) → IsDistinct nat_eq (keys_of entries) → reverse (promoted (nat_eq piece) entries)
    ≡ touched piece (reverse entries)
touched_reverse piece entries apart =
    let own = filter (is_piece piece) entries in
    let first : promoted (nat_eq piece) entries ≡ own ++ without piece entries =
    promoted_by piece entries (lookup_entry (nat_eq piece) entries) apart refl ∙ ap (λ front. front ++ without piece entries)
    (sym (parts piece entries apart).own) in
    ap (λ list. reverse list) first ∙ reverse-append own (without piece entries)
    ∙ ap (λ front. front ++ reverse own) (sym (filter_reverse (λ entry. not (nat_eq piece entry.0)) entries))
    ∙ ap (λ back. without piece (reverse entries) ++ back) (sym (filter_reverse (is_piece piece) entries))

pub without_reverse : (piece : ℕ) (entries : List (ℕ × ℕ)) → IsDistinct nat_eq (keys_of entries) → reverse (remove_entry (nat_eq piece) entries)
    ≡ without piece (reverse entries)
without_reverse piece entries apart = ap (λ list. reverse list) (parts piece entries apart).left ∙ sym
    (filter_reverse (λ entry. not (nat_eq piece entry.0)) entries)

both_false : (a b : Bool) → (a || (b || false)) ≡ false → (a ≡ false) × (b ≡ false)
both_false true b none = cc
both_false false true none = cc
both_false false false none = (refl, refl)

not_there : (piece : ℕ) (entries : List (ℕ × ℕ)) → is_there piece (reverse entries) ≡ false → lookup_entry (nat_eq piece) entries ≡ None
not_there piece [] none = refl
not_there piece (entry ∷ entries) none =
    let split : (is_there piece (reverse entries) || (nat_eq piece entry.0 || false)) ≡ false =
    sym (ap (is_there piece) (reverse_cons entry entries) ∙ list_any-append (is_piece piece) (reverse entries) (entry ∷ [])) ∙ none in
    let both = both_false _ _ split in
    rw both.1 (not_there piece entries both.0)

put_by : (cache : LruCache ℕ ℕ) (piece len : ℕ) (found : Option (ℕ × ℕ)) → found ≡ None → length cache.entries ≤ cache.cap - 1
    → option_map_or (λ entry. (entry.0, len) ∷ remove_entry (nat_eq piece) cache.entries) found ((piece, len) ∷ take (cache.cap - 1) cache.entries)
    ≡ (piece, len) ∷ cache.entries
put_by cache piece len found none room = rw none (ap (λ rest. (piece, len) ∷ rest) (take_all (cache.cap - 1) cache.entries room))

-- a piece that isn't there goes last
pub entered_reverse : (cache : LruCache ℕ ℕ) (piece len : ℕ) → is_there piece (reverse cache.entries) ≡ false → length cache.entries ≤ cache.cap - 1
    → reverse (put_entries nat_eq cache piece len) ≡ reverse cache.entries ++ (piece, len) ∷ []
entered_reverse cache piece len none room =
    ap (λ list. reverse list) (put_by cache piece len (lookup_entry (nat_eq piece) cache.entries) (not_there piece cache.entries none) room) ∙ reverse_cons
    (piece, len) cache.entries

-- the pieces are apart from either end
pub apart_reverse : (entries : List (ℕ × ℕ)) → IsDistinct nat_eq (keys_of entries) → IsDistinct nat_eq (keys_of (reverse entries))
apart_reverse entries apart =
    IsDistinct-IsPermutation nat_eq nat_eq_equiv.symm (keys_of entries) (keys_of (reverse entries))
    (IsPermutation-map (λ (entry : ℕ × ℕ). entry.0) entries (reverse entries) (IsPermutation-reverse entries)) apart
