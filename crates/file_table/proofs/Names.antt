-- What a write at a name that is known makes of the files.
use Rattle.std.proofs.Common.{◌≡◌, ℕ, cond, List, [], ◌∷◌, Some, None, refl, ap, subst}
use Rattle.std.specs.Prelude.{IsSome, Vec}
use Rattle.std.specs.declared.alloc.Global.{Global}
use Rattle.std.specs.List.{AllByRecursion}
use Rattle.std.specs.List.Sorted.{IsStrictlySortedBy}
use Rattle.std.specs.declared.cmp.Ordering.{Ordering}
use Rattle.std.specs.declared.cmp.Ordering.TheVariants.{Less, Equal, Greater}
use Rattle.std.specs.Ordering.{is_eq, match_ordering, nat_cmp}
use Rattle.std.specs.Cmp.Lexicographic.{slice_cmp, nat_list_cmp_total}
use Rattle.std.specs.Map.{keys_of, lookup, set_value}
use Rattle.std.specs.BTreeMap.{insert_entry, is_at}
use Rattle.std.proofs.lemmas.Map.Keys.{sorted_head, sorted_tail}
use Rattle.blob_words.specs.Keys.{key_cmp, order_of}
use Rattle.blob_words.proofs.Keyed.{seen}

module _ {V : Type 0} where
  -- a name below a key is none of those after the key
  none_after : (name : List ℕ) (key : Vec ℕ Global) (entries : List (Vec ℕ Global × V)) → order_of name key ≡ Less
      → AllByRecursion (λ later. key_cmp key later ≡ Less) (keys_of entries) → lookup (is_at (order_of name)) entries ≡ None
  none_after name key [] below later = refl
  none_after name key (entry ∷ entries) below later =
      let apart : order_of name entry.0 ≡ Less = nat_list_cmp_total.trans name key.items entry.0.items below later.0 in
      rw apart (none_after name key entries below later.1)

  -- a value that is written at a key that is there goes where an insertion would put it
  pub written_seen : (name : List ℕ) (value : V) (entries : List (Vec ℕ Global × V)) → IsStrictlySortedBy key_cmp (keys_of entries)
      → IsSome (lookup (is_at (order_of name)) entries)
      → seen (set_value (is_at (order_of name)) entries value) ≡ insert_entry (slice_cmp nat_cmp) (seen entries) name value
  written_seen name value [] sorted some = cc
  written_seen name value (entry ∷ entries) sorted some = by (order_of name entry.0) refl some
      (written_seen name value entries (sorted_tail key_cmp entry.0 (keys_of entries) sorted))
    where
      by : (r : Ordering) → order_of name entry.0 ≡ r → IsSome (cond (is_eq r) (Some entry.1) (lookup (is_at (order_of name)) entries))
          → (IsSome (lookup (is_at (order_of name)) entries) → seen (set_value (is_at (order_of name)) entries value) ≡ insert_entry (slice_cmp nat_cmp)
          (seen entries) name value)
          → seen (cond (is_eq r) ((entry.0, value) ∷ entries) (entry ∷ set_value (is_at (order_of name)) entries value))
          ≡ match_ordering r ((name, value) ∷ seen (entry ∷ entries)) ((entry.0.items, value) ∷ seen entries)
          ((entry.0.items, entry.1) ∷ insert_entry (slice_cmp nat_cmp) (seen entries) name value)
      by Less is some rest = let none = none_after name entry.0 entries is (sorted_head key_cmp entry.0 (keys_of entries) sorted) in
          let found = subst IsSome none some in cc
      by Equal is some rest = refl
      by Greater is some rest = ap (λ more. (entry.0.items, entry.1) ∷ more) (rest some)
