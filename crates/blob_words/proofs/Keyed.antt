-- A map with bytes as its keys, seen with the bytes themselves: what a look-up, an insertion and a change say of it.
use Rattle.std.proofs.Common.{◌≡◌, ℕ, Bool, true, false, cond, List, [], ◌∷◌, Option, Some, length, map, refl, sym, ap, ◌∙◌, subst}
use Rattle.std.specs.Prelude.{Vec}
use Rattle.std.specs.declared.alloc.Global.{Global}
use Rattle.std.specs.declared.cmp.Ordering.{Ordering}
use Rattle.std.specs.declared.cmp.Ordering.TheVariants.{Less, Equal, Greater}
use Rattle.std.specs.Ordering.{match_ordering, nat_cmp}
use Rattle.std.specs.Cmp.Lexicographic.{slice_cmp, nat_list_cmp_total}
use Rattle.std.proofs.lemmas.Cmp.{eq_by_cmp_equiv, nat_list_eq_equiv}
use Rattle.std.proofs.lemmas.List.{length-map}
use Rattle.std.proofs.lemmas.Slice.Eq.{bytes_eq-Decides}
use Rattle.std.specs.Str.{bytes_eq}
use Rattle.std.specs.Map.{lookup, KeepsOthers}
use Rattle.std.specs.BTreeMap.{insert_entry, is_at, BTreeMap, UpdatesBy}
use Rattle.std.proofs.lemmas.Map.Text.{is_eq-slice_cmp}
use Rattle.blob_words.specs.Keys.{key_cmp, order_of}

module _ {V : Type 0} where
  -- the entries with their keys' bytes
  abbrev pub seen : List (Vec ℕ Global × V) → List (List ℕ × V)
  seen entries = map (λ entry. (entry.0.items, entry.1)) entries

  pub lookup_seen : (name : List ℕ) (entries : List (Vec ℕ Global × V)) → lookup (is_at (order_of name)) entries ≡ lookup (bytes_eq name) (seen entries)
  lookup_seen name [] = refl
  lookup_seen name (entry ∷ entries) =
      let same = is_eq-slice_cmp name entry.0.items in
      let rest = lookup_seen name entries in
      λ i. cond (same i) (Some entry.1) (rest i)

  pub insert_seen : (key : Vec ℕ Global) (value : V) (entries : List (Vec ℕ Global × V)) → seen (insert_entry key_cmp entries key value)
      ≡ insert_entry (slice_cmp nat_cmp) (seen entries) key.items value
  insert_seen key value [] = refl
  insert_seen key value (entry ∷ entries) = by (key_cmp key entry.0) (insert_seen key value entries)
    where
      by : (r : Ordering) → seen (insert_entry key_cmp entries key value) ≡ insert_entry (slice_cmp nat_cmp) (seen entries) key.items value
          → seen (match_ordering r ((key, value) ∷ entry ∷ entries) ((entry.0, value) ∷ entries) (entry ∷ insert_entry key_cmp entries key value))
          ≡ match_ordering r ((key.items, value) ∷ seen (entry ∷ entries)) ((entry.0.items, value) ∷ seen entries)
          ((entry.0.items, entry.1) ∷ insert_entry (slice_cmp nat_cmp) (seen entries) key.items value)
      by Less rest = refl
      by Equal rest = refl
      by Greater rest = ap (λ more. (entry.0.items, entry.1) ∷ more) rest

  -- how many are seen
  pub length_seen : (entries : List (Vec ℕ Global × V)) → length (seen entries) ≡ length entries
  length_seen entries = length-map entries (λ entry. (entry.0.items, entry.1))

  -- after a change at one key, every other key has what it had
  pub reads_updated : (name : List ℕ) (old new : BTreeMap (Vec ℕ Global) V) (value : Option V) → UpdatesBy key_cmp (order_of name) old new value
      → (other : List ℕ) → lookup (bytes_eq other) (seen new.entries) ≡ cond (bytes_eq name other) value (lookup (bytes_eq other) (seen old.entries))
  unfolding KeepsOthers
  reads_updated name old new value updates other =
      sym (lookup_seen other new.entries) ∙ by (bytes_eq name other) refl ∙ ap (λ found. cond (bytes_eq name other) value found) (lookup_seen other old.entries)
    where
      apart : bytes_eq name other ≡ false → (key : Vec ℕ Global) → is_at (order_of name) key ≡ true → is_at (order_of other) key ≡ false
      apart differs key here =
          let same : bytes_eq name key.items ≡ true = sym (is_eq-slice_cmp name key.items) ∙ here in
          is_eq-slice_cmp other key.items ∙ nat_list_eq_equiv.symm other key.items ∙ sym (nat_list_eq_equiv.congr name key.items other same) ∙ differs

      by : (b : Bool) → bytes_eq name other ≡ b → lookup (is_at (order_of other)) new.entries ≡ cond b value (lookup (is_at (order_of other)) old.entries)
      by true same = subst (λ name. lookup (is_at (order_of name)) new.entries ≡ value) ((bytes_eq-Decides name other).0 same) updates.1
      by false differs = updates.3 (is_at (order_of other)) (λ x y here. (eq_by_cmp_equiv nat_list_cmp_total).congr other x.items y.items here) (apart differs)
