-- A map or a set with bytes as its keys, seen with the bytes themselves.
use Rattle.std.proofs.Common.{◌≡◌, ℕ, Bool, true, false, cond, List, [], ◌∷◌, map, refl, ap, ◌∙◌}
use Rattle.std.specs.Prelude.{Vec}
use Rattle.std.specs.declared.alloc.Global.{Global}
use Rattle.std.specs.List.{AllByRecursion}
use Rattle.std.specs.List.Sorted.{IsStrictlySortedBy}
use Rattle.std.specs.declared.cmp.Ordering.{Ordering}
use Rattle.std.specs.declared.cmp.Ordering.TheVariants.{Less, Equal, Greater}
use Rattle.std.specs.Ordering.{match_ordering, nat_cmp}
use Rattle.std.specs.Cmp.Lexicographic.{slice_cmp}
use Rattle.std.specs.Str.{bytes_eq}
use Rattle.std.specs.Map.{keys_of, remove_entry}
use Rattle.std.specs.Set.{remove_key}
use Rattle.std.specs.BTreeMap.{is_at}
use Rattle.std.specs.BTreeSet.{insert_key}
use Rattle.std.proofs.lemmas.Map.Text.{is_eq-slice_cmp}
use Rattle.blob_words.specs.Keys.{key_cmp, order_of}
use Rattle.blob_words.proofs.Keyed.{seen}

-- the keys' bytes
abbrev pub seen_keys : List (Vec ℕ Global) → List (List ℕ)
seen_keys keys = map (λ key. key.items) keys

pub insert_seen_key : (key : Vec ℕ Global) (keys : List (Vec ℕ Global)) → seen_keys (insert_key key_cmp keys key) ≡ insert_key (slice_cmp nat_cmp)
    (seen_keys keys) key.items
insert_seen_key key [] = refl
insert_seen_key key (other ∷ keys) = by (key_cmp key other) (insert_seen_key key keys)
  where
    by : (r : Ordering) → seen_keys (insert_key key_cmp keys key) ≡ insert_key (slice_cmp nat_cmp) (seen_keys keys) key.items
        → seen_keys (match_ordering r (key ∷ other ∷ keys) (other ∷ keys) (other ∷ insert_key key_cmp keys key))
        ≡ match_ordering r (key.items ∷ other.items ∷ seen_keys keys) (other.items ∷ seen_keys keys)
        (other.items ∷ insert_key (slice_cmp nat_cmp) (seen_keys keys) key.items)
    by Less rest = refl
    by Equal rest = refl
    by Greater rest = ap (λ more. other.items ∷ more) rest

remove_by : (r : Bool) (key : Vec ℕ Global) (keys others : List (Vec ℕ Global)) → seen_keys (cond r keys (key ∷ others)) ≡ cond r (seen_keys keys)
    (key.items ∷ seen_keys others)
remove_by true key keys others = refl
remove_by false key keys others = refl

pub remove_seen_key : (text : List ℕ) (keys : List (Vec ℕ Global)) → seen_keys (remove_key (is_at (order_of text)) keys) ≡ remove_key (bytes_eq text)
    (seen_keys keys)
remove_seen_key text [] = refl
remove_seen_key text (key ∷ keys) =
    let same = is_eq-slice_cmp text key.items in
    let rest = remove_seen_key text keys in
    remove_by (is_at (order_of text) key) key keys (remove_key (is_at (order_of text)) keys) ∙ (λ i. cond (same i) (seen_keys keys) (key.items ∷ rest i))

module _ {V : Type 0} where
  without_by : (r : Bool) (entry : Vec ℕ Global × V) (entries others : List (Vec ℕ Global × V)) → seen (cond r entries (entry ∷ others))
      ≡ cond r (seen entries) ((entry.0.items, entry.1) ∷ seen others)
  without_by true entry entries others = refl
  without_by false entry entries others = refl

  pub remove_seen : (text : List ℕ) (entries : List (Vec ℕ Global × V)) → seen (remove_entry (is_at (order_of text)) entries) ≡ remove_entry (bytes_eq text)
      (seen entries)
  remove_seen text [] = refl
  remove_seen text (entry ∷ entries) =
      let same = is_eq-slice_cmp text entry.0.items in
      let rest = remove_seen text entries in
      without_by (is_at (order_of text) entry.0) entry entries (remove_entry (is_at (order_of text)) entries) ∙
      (λ i. cond (same i) (seen entries) ((entry.0.items, entry.1) ∷ rest i))

  above_seen : (key : Vec ℕ Global) (entries : List (Vec ℕ Global × V)) → AllByRecursion (λ other. key_cmp key other ≡ Less) (keys_of entries)
      → AllByRecursion (λ other. slice_cmp nat_cmp key.items other ≡ Less) (keys_of (seen entries))
  above_seen key [] all = tt
  above_seen key (entry ∷ entries) all = (all.0, above_seen key entries all.1)

  pub sorted_seen : (entries : List (Vec ℕ Global × V)) → IsStrictlySortedBy key_cmp (keys_of entries) → IsStrictlySortedBy (slice_cmp nat_cmp)
      (keys_of (seen entries))
  unfolding IsStrictlySortedBy
  sorted_seen [] sorted = tt
  sorted_seen (entry ∷ entries) sorted = (above_seen entry.0 entries sorted.0, sorted_seen entries sorted.1)
