-- What a change of one list of counts, or of one renderer's, makes of each count.
use Rattle.std.proofs.Common.{◌≡◌, ℕ, ◌+◌, ◌-◌, ◌<◌, ◌==◌, ◌&&◌, Bool, true, false, cond, List, [], ◌∷◌, Some, None, Option, length, refl, sym, ap, ◌∙◌, arith}
use Rattle.std.specs.Prelude.{drop, slice_get, is_some, unwrap_or, IsSome}
use Rattle.std.specs.Option.{option_map, option_map_or}
use Rattle.std.specs.List.Sorted.{IsStrictlySortedBy}
use Rattle.std.specs.Ordering.{nat_cmp}
use Rattle.std.specs.Cmp.{unsigned_tied, nat_eq_equiv}
use Rattle.std.specs.Map.{keys_of, lookup, remove_entry, set_value}
use Rattle.std.specs.BTreeMap.{is_at}
use Rattle.std.proofs.lemmas.Bool.{eqb-true}
use Rattle.std.proofs.lemmas.Map.{lookup-none, lookup-remove_entry, lookup-set_value}
use Rattle.std.proofs.lemmas.Map.Entries.{none_past_head}
use Rattle.std.proofs.lemmas.Map.Keys.{IsDistinct-from_sorted}
use Rattle.renderer_table.specs.declared.living.Living.{Living}
use Rattle.renderer_table.specs.Counts.{count_on, one_fewer, one_more}
use Rattle.renderer_table.specs.Table.{Table, count_of, counts_of, living_of, spawned_in, was_spawned, with_counts}
use Rattle.renderer_table.specs.Counted.{origin_at, ChangesCount, Dies, Recounts, Spawns}
use Rattle.renderer_table.proofs.Lookups.{any_inserted, length_inserted, lookup_inserted, number_laws}

module _ {X : Type 0} where
  -- an entry that is written is found at its key, and every other as before
  pub lookup_written : (q k : ℕ) (v : X) (es : List (ℕ × X)) → IsSome (lookup (is_at (nat_cmp k)) es) → lookup (is_at (nat_cmp q))
      (set_value (is_at (nat_cmp k)) es v) ≡ cond (k == q) (Some v) (lookup (is_at (nat_cmp q)) es)
  lookup_written q k v es some =
      lookup-set_value number_laws (is_at (nat_cmp k)) (λ x y here. number_laws.congr k x y here) q v es some ∙ ap
      (λ b. cond b (Some v) (lookup (is_at (nat_cmp q)) es)) (unsigned_tied k q)

  -- an entry that goes is found no more, and every other as before
  pub lookup_removed : (q k : ℕ) (es : List (ℕ × X)) → IsStrictlySortedBy nat_cmp (keys_of es) → lookup (is_at (nat_cmp q))
      (remove_entry (is_at (nat_cmp k)) es) ≡ cond (k == q) None (lookup (is_at (nat_cmp q)) es)
  lookup_removed q k es sorted =
      lookup-remove_entry number_laws (is_at (nat_cmp k)) (λ x y here. number_laws.congr k x y here) q es (IsDistinct-from_sorted nat_cmp (keys_of es) sorted)
      ∙ ap (λ b. cond b None (lookup (is_at (nat_cmp q)) es)) (unsigned_tied k q)

  -- and so where it was the first
  pub lookup_dropped : (q k : ℕ) (v : X) (es : List (ℕ × X)) → IsStrictlySortedBy nat_cmp (keys_of es) → slice_get es 0 ≡ Some (k, v)
      → lookup (is_at (nat_cmp q)) (drop 1 es) ≡ cond (k == q) None (lookup (is_at (nat_cmp q)) es)
  lookup_dropped q k v [] sorted first = cc
  lookup_dropped q k v (e ∷ es) sorted first =
      let key : e.0 ≡ k = cc in
      by (k == q) (is_at (nat_cmp q) e.0) refl (unsigned_tied q e.0 ∙ ap (λ n. q == n) key ∙ nat_eq_equiv.symm q k)
    where
      by : (a b : Bool) → is_at (nat_cmp q) e.0 ≡ b → b ≡ a → lookup (is_at (nat_cmp q)) es ≡ cond a None (cond b (Some e.1) (lookup (is_at (nat_cmp q)) es))
      by true true is same = lookup-none (is_at (nat_cmp q)) es (none_past_head number_laws q e es (IsDistinct-from_sorted nat_cmp (keys_of (e ∷ es)) sorted)
          is)
      by true false is same = cc
      by false true is same = cc
      by false false is same = refl

-- counts after a look-up changed at one blob
recounted : (change : ℕ → ℕ) (blob : ℕ) (old new : List (ℕ × ℕ)) (found : Option ℕ) → unwrap_or found 0 ≡ change (count_on blob old)
    → ((name : ℕ) → lookup (is_at (nat_cmp name)) new ≡ cond (blob == name) found (lookup (is_at (nat_cmp name)) old)) → Recounts change blob old new
recounted change blob old new found is reads name = ap (λ one. unwrap_or one 0) (reads name) ∙ by (blob == name) refl
  where
    by : (b : Bool) → (blob == name) ≡ b → unwrap_or (cond b found (lookup (is_at (nat_cmp name)) old)) 0 ≡ cond b (change (count_on name old))
        (count_on name old)
    by true here = is ∙ ap (λ n. change (count_on n old)) (eqb-true blob name here)
    by false here = refl

pub more : (blob : ℕ) (counts : List (ℕ × ℕ)) → Recounts (λ count. count + 1) blob counts (one_more blob counts)
more blob counts = recounted (λ count. count + 1) blob counts (one_more blob counts) (Some (count_on blob counts + 1)) refl
    (λ name. lookup_inserted name blob (count_on blob counts + 1) counts)

is_there : (found : Option ℕ) → 0 < unwrap_or found 0 → IsSome found
is_there None some = absurd (omega arith)
is_there (Some count) some = refl

pub fewer : (blob : ℕ) (counts : List (ℕ × ℕ)) → IsStrictlySortedBy nat_cmp (keys_of counts) → 0 < count_on blob counts → Recounts (λ count. count - 1) blob
    counts (one_fewer blob counts)
fewer blob counts sorted some = by (count_on blob counts == 1) refl
  where
    by : (b : Bool) → (count_on blob counts == 1) ≡ b → Recounts (λ count. count - 1) blob counts
        (cond b (remove_entry (is_at (nat_cmp blob)) counts) (set_value (is_at (nat_cmp blob)) counts (count_on blob counts - 1)))
    by true last =
        let one : count_on blob counts ≡ 1 = eqb-true (count_on blob counts) 1 last in
        recounted (λ count. count - 1) blob counts (remove_entry (is_at (nat_cmp blob)) counts) None (omega (arith, one))
        (λ name. lookup_removed name blob counts sorted)
    by false last =
        recounted (λ count. count - 1) blob counts (set_value (is_at (nat_cmp blob)) counts (count_on blob counts - 1)) (Some (count_on blob counts - 1)) refl
        (λ name. lookup_written name blob (count_on blob counts - 1) counts (is_there (lookup (is_at (nat_cmp blob)) counts) some))

-- the first of the counts goes
pub without_first : (blob count : ℕ) (counts : List (ℕ × ℕ)) → IsStrictlySortedBy nat_cmp (keys_of counts) → slice_get counts 0 ≡ Some (blob, count)
    → Recounts (λ _. 0) blob counts (drop 1 counts)
without_first blob count counts sorted first = recounted (λ _. 0) blob counts (drop 1 counts) None refl
    (λ name. lookup_dropped name blob count counts sorted first)

pub first_count : (blob count : ℕ) (counts : List (ℕ × ℕ)) → slice_get counts 0 ≡ Some (blob, count) → count_on blob counts ≡ count
first_count blob count [] first = cc
first_count blob count (entry ∷ counts) first =
    let key : entry.0 ≡ blob = cc in
    let value : entry.1 ≡ count = cc in
    let here : is_at (nat_cmp blob) entry.0 ≡ true = ap (is_at (nat_cmp blob)) key ∙ number_laws.refl blob in
    rw here value

pub no_count : (name : ℕ) (counts : List (ℕ × ℕ)) → slice_get counts 0 ≡ None → count_on name counts ≡ 0
no_count name [] none = refl
no_count name (entry ∷ counts) none = cc

-- a renderer's counts are written
pub counts_written : (change : ℕ → ℕ) (id blob : ℕ) (counts : List (ℕ × ℕ)) (old new : Table) → IsSome (living_of id old)
    → Recounts change blob (counts_of id old) counts → new ≡ with_counts id counts old → ChangesCount change id blob old new
counts_written change id blob counts old new alive recounts is = by (living_of id old) refl alive
  where
    same : (one : Living) → living_of id old ≡ Some one → (other : ℕ) → living_of other new ≡ cond (id == other) (Some (record one { counts = counts }))
        (living_of other old)
    same one found other =
        let written : new.living ≡ set_value (is_at (nat_cmp id)) old.living (record one { counts = counts }) =
        ap (λ (table : Table). table.living) is ∙ ap (λ living. option_map_or
        (λ (one : Living). set_value (is_at (nat_cmp id)) old.living (record one { counts = counts })) living old.living) found in
        ap (lookup (is_at (nat_cmp other))) written ∙ lookup_written other id (record one { counts = counts }) old.living (ap is_some found)

    counted : (one : Living) → living_of id old ≡ Some one → (other name : ℕ) (here : Bool) → (id == other) ≡ here
        → count_on name (option_map_or (λ (one : Living). one.counts) (cond here (Some (record one { counts = counts })) (living_of other old)) [])
        ≡ cond (here && (blob == name)) (change (count_of other name old)) (count_of other name old)
    counted one found other name true here = recounts name ∙ ap (λ n. cond (blob == name) (change (count_of n name old)) (count_of n name old))
        (eqb-true id other here)
    counted one found other name false here = refl

    origin : (one : Living) → living_of id old ≡ Some one → (other : ℕ) (here : Bool) → (id == other) ≡ here
        → option_map (λ (one : Living). one.origin) (cond here (Some (record one { counts = counts })) (living_of other old)) ≡ origin_at other old
    origin one found other true here = sym (ap (option_map (λ (one : Living). one.origin)) found) ∙ ap (λ n. origin_at n old) (eqb-true id other here)
    origin one found other false here = refl

    by : (found : Option Living) → living_of id old ≡ found → IsSome found → ChangesCount change id blob old new
    by None found alive = cc
    by (Some one) found alive =
        record {
          counts = λ other name. ap (λ living. count_on name (option_map_or (λ (one : Living). one.counts) living [])) (same one found other) ∙ counted one
              found other name (id == other) refl;
          origins = λ other. ap (option_map (λ (one : Living). one.origin)) (same one found other) ∙ origin one found other (id == other) refl;
          spawned = ap (λ (table : Table). table.spawned) is;
        }

-- a renderer comes
pub comes : (id : ℕ) (origin : List ℕ) (old new : Table) → was_spawned id old ≡ false → new ≡ spawned_in id origin old → Spawns id origin old new
comes id origin old new unused is =
    record {
      counts = λ other name. ap (λ living. count_on name (option_map_or (λ (one : Living). one.counts) living [])) (same other) ∙ counted other name
          (id == other);
      origins = λ other. ap (option_map (λ (one : Living). one.origin)) (same other) ∙ found other (id == other);
      known = λ other. ap (was_spawned other) is ∙ any_inserted other id old.spawned;
      many = ap (λ (table : Table). length table.spawned) is ∙ length_inserted id old.spawned unused;
    }
  where
    fresh : Living
    fresh = record { origin = origin; counts = [] }

    same : (other : ℕ) → living_of other new ≡ cond (id == other) (Some (record { origin = origin; counts = [] })) (living_of other old)
    same other = ap (living_of other) is ∙ lookup_inserted other id (record { origin = origin; counts = [] }) old.living

    counted : (other name : ℕ) (here : Bool)
        → count_on name (option_map_or (λ (one : Living). one.counts) (cond here (Some (record { origin = origin; counts = [] })) (living_of other old)) [])
        ≡ cond here 0 (count_of other name old)
    counted other name true = refl
    counted other name false = refl

    found : (other : ℕ) (here : Bool) → option_map (λ (one : Living). one.origin)
        (cond here (Some (record { origin = origin; counts = [] })) (living_of other old)) ≡ cond here (Some origin) (origin_at other old)
    found other true = refl
    found other false = refl

-- a renderer without handles goes
pub goes : (id : ℕ) (old new : Table) → IsStrictlySortedBy nat_cmp (keys_of old.living) → slice_get (counts_of id old) 0 ≡ None
    → new ≡ record old { living = remove_entry (is_at (nat_cmp id)) old.living } → Dies id old new
goes id old new sorted none is =
    record {
      empty = λ name. no_count name (counts_of id old) none;
      counts = λ other name. ap (λ living. count_on name (option_map_or (λ (one : Living). one.counts) living [])) (same other) ∙ counted other name
          (id == other) refl;
      origins = λ other. ap (option_map (λ (one : Living). one.origin)) (same other) ∙ found other (id == other);
      spawned = ap (λ (table : Table). table.spawned) is;
    }
  where
    same : (other : ℕ) → living_of other new ≡ cond (id == other) None (living_of other old)
    same other = ap (living_of other) is ∙ lookup_removed other id old.living sorted

    counted : (other name : ℕ) (here : Bool) → (id == other) ≡ here
        → count_on name (option_map_or (λ (one : Living). one.counts) (cond here None (living_of other old)) []) ≡ count_of other name old
    counted other name true here = sym (no_count name (counts_of id old) none) ∙ ap (λ n. count_of n name old) (eqb-true id other here)
    counted other name false here = refl

    found : (other : ℕ) (here : Bool) → option_map (λ (one : Living). one.origin) (cond here None (living_of other old)) ≡ cond here None (origin_at other old)
    found other true = refl
    found other false = refl
