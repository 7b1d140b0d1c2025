-- Which blobs the list of a pass names: those whose entries end, and no others.
use Rattle.std.proofs.Common.{◌≡◌, ℕ, zero, suc, ◌+◌, ◌<◌, ◌≤◌, ◌||◌, Bool, true, false, List, [], ◌∷◌, ◌++◌, Option, Some, None, length}
use Rattle.std.proofs.Common.{refl, ap, subst, sym, ◌∙◌, nat_lt, arith, length-append}
use Rattle.std.specs.Prelude.{slice_index, unwrap_or, IfSome, IsSomeAnd}
use Rattle.std.specs.List.{list_any, AllByRecursion}
use Rattle.std.proofs.lemmas.Bool.Decides.{nat_tests}
use Rattle.std.proofs.lemmas.List.{get_or_append_left, get_or_push, map-append}
use Rattle.blob_words.specs.declared.status.Status.{Status}
use Rattle.blob_entries.specs.Book.{entry_at, Book}
use Rattle.blob_entries.specs.Endings.{ending, ending_at, Ends}
use Rattle.blob_entries.specs.Sound.{AreSound, IsSound}
use Rattle.blob_entries.specs.declared.entry.Entry.{Entry}
use Rattle.blob_registry.specs.Passes.{ending_list, endings, passed, Finishes}
use Rattle.blob_registry.specs.declared.ended_blob.EndedBlob.{EndedBlob}
use Rattle.blob_registry.proofs.Passing.{ending_before, status_of}
use Rattle.blob_model.proofs.Lists.{all_append, any_append_first, any_append_second}
use Rattle.registry_laws.proofs.Lives.{behind_all, behind_here, behind_next, IsBehind}
use Rattle.store_laws.specs.Passing.{ended_names}
use Rattle.blob_store.proofs.PassedEntry.{passed_status}

abbrev Entries : Type 0
Entries = List (Option Entry)

-- an ending is that of the entry of its name
pub record IsEnded (names : List ℕ) (before after : List (Option Entry)) (end : EndedBlob) : Type 0 where
  pub place : ℕ
  pub named : end.name ≡ slice_index names place
  pub there : IsSomeAnd (entry_at before place) (λ (entry : Entry). ending names after entry ≡ Some end.status)

module _ (names : List ℕ) (before after : Entries) (sound : AreSound names before)
    (each : (number : ℕ) → Ends names after (entry_at before number) (entry_at after number)) where
  -- those before stand as the pass left them
  abbrev AreAlike : Entries → Type 0
  AreAlike earlier = (k : ℕ) → k < length earlier → status_of (entry_at after k) ≡ status_of (entry_at earlier k)

  sound_here : (earlier : Entries) (held : Option Entry) (later : Entries) → IsBehind before (length earlier) (held ∷ later)
      → IfSome held (IsSound names before (length earlier))
  sound_here earlier held later behind =
      subst (λ (o : Option Entry). IfSome o (IsSound names before (length earlier))) (behind_here before (length earlier) held later behind)
      (sound.each (length earlier))

  same_end : (earlier : Entries) (held : Option Entry) (later : Entries) → AreAlike earlier → IsBehind before (length earlier) (held ∷ later)
      → ending_at names after held ≡ ending_at names earlier held
  same_end earlier held later alike behind =
      ending_before names before after earlier (length earlier) held (sound_here earlier held later behind) alike

  alike_here : (earlier : Entries) (held : Option Entry) (later : Entries) → AreAlike earlier → IsBehind before (length earlier) (held ∷ later)
      → status_of (entry_at after (length earlier)) ≡ status_of (passed names earlier held)
  alike_here earlier held later alike behind =
      by held (sound_here earlier held later behind) (same_end earlier held later alike behind)
      (subst (λ (was : Option Entry). Ends names after was (entry_at after (length earlier))) (behind_here before (length earlier) held later behind)
      (each (length earlier)))
    where
      by : (was : Option Entry) → IfSome was (IsSound names before (length earlier)) → ending_at names after was ≡ ending_at names earlier was
          → Ends names after was (entry_at after (length earlier)) → status_of (entry_at after (length earlier)) ≡ status_of (passed names earlier was)
      by None fine same is = ap status_of is
      by (Some entry) fine same is =
          passed_status names before after (length earlier) entry fine (entry_at after (length earlier)) is
          ∙ ap (λ (o : Option Status). Some (unwrap_or o entry.status)) same

  alike_next : (earlier : Entries) (held : Option Entry) (later : Entries) → AreAlike earlier → IsBehind before (length earlier) (held ∷ later)
      → AreAlike (earlier ++ passed names earlier held ∷ [])
  alike_next earlier held later alike behind k below = pick (nat_lt k (length earlier)) refl
    where
      pick : (b : Bool) → nat_lt k (length earlier) ≡ b
          → status_of (entry_at after k) ≡ status_of (entry_at (earlier ++ passed names earlier held ∷ []) k)
      pick true e =
          let within : k < length earlier = grind (arith, nat_tests) in
          alike k within ∙ ap status_of (sym (get_or_append_left earlier (passed names earlier held ∷ []) None k within))
      pick false e =
          let long : length (earlier ++ passed names earlier held ∷ []) ≡ length earlier + 1 = length-append earlier (passed names earlier held ∷ []) in
          let past : length earlier ≤ k = grind (arith, nat_tests) in
          let same : k ≡ length earlier = omega arith in
          ap (λ (n : ℕ). status_of (entry_at after n)) same ∙ alike_here earlier held later alike behind
          ∙ ap status_of (sym (get_or_push earlier (passed names earlier held) None k (sym same)))

  next_behind : (earlier : Entries) (held : Option Entry) (later : Entries) → IsBehind before (length earlier) (held ∷ later)
      → IsBehind before (length (earlier ++ passed names earlier held ∷ [])) later
  next_behind earlier held later behind =
      subst (λ (n : ℕ). IsBehind before n later) (sym (length-append earlier (passed names earlier held ∷ [])))
      (behind_next before (length earlier) held later behind)

  -- ---- who is named ended

  ended_from : (earlier entries : Entries) → AreAlike earlier → IsBehind before (length earlier) entries
      → AllByRecursion (IsEnded names before after) (endings names earlier entries)
  ended_from earlier [] alike behind = tt
  ended_from earlier (held ∷ later) alike behind =
      all_append (IsEnded names before after) (ending_list (slice_index names (length earlier)) (ending_at names earlier held))
      (endings names (earlier ++ passed names earlier held ∷ []) later)
      (here held (behind_here before (length earlier) held later behind) (same_end earlier held later alike behind))
      (ended_from (earlier ++ passed names earlier held ∷ []) later (alike_next earlier held later alike behind) (next_behind earlier held later behind))
    where
      here : (was : Option Entry) → entry_at before (length earlier) ≡ was → ending_at names after was ≡ ending_at names earlier was
          → AllByRecursion (IsEnded names before after) (ending_list (slice_index names (length earlier)) (ending_at names earlier was))
      here None at same = tt
      here (Some entry) at same = by (ending names earlier entry) same
        where
          by : (o : Option Status) → ending names after entry ≡ o
              → AllByRecursion (IsEnded names before after) (ending_list (slice_index names (length earlier)) o)
          by None is = tt
          by (Some status) is = (
            record {
              place = length earlier;
              named = refl;
              there = subst (λ (o : Option Entry). IsSomeAnd o (λ (one : Entry). ending names after one ≡ Some status)) (sym at) is;
            },
            tt,
          )

  -- ---- who ended is named

  told_from : (test : ℕ → Bool) (earlier entries : Entries) (k : ℕ) (entry : Entry) (status : Status) → AreAlike earlier
      → IsBehind before (length earlier) entries → test (slice_index names (length earlier + k)) ≡ true → entry_at entries k ≡ Some entry
      → ending names after entry ≡ Some status → list_any test (ended_names (endings names earlier entries)) ≡ true
  told_from test earlier [] k entry status alike behind passes at is = absurd (cc at)
  told_from test earlier (held ∷ later) k entry status alike behind passes at is =
      parted
      (by (λ n at passes. told_from test (earlier ++ passed names earlier held ∷ []) later n entry status (alike_next earlier held later alike behind)
      (next_behind earlier held later behind) passes at is) k at passes)
    where
      first : List EndedBlob
      first = ending_list (slice_index names (length earlier)) (ending_at names earlier held)

      front : Entries
      front = earlier ++ passed names earlier held ∷ []

      parted : list_any test (ended_names first ++ ended_names (endings names front later)) ≡ true
          → list_any test (ended_names (first ++ endings names front later)) ≡ true
      parted some = ap (list_any test) (map-append (λ (end : EndedBlob). end.name) first (endings names front later)) ∙ some

      or_false : (b : Bool) → b ≡ true → (b || false) ≡ true
      or_false b e = ap (λ (c : Bool). c || false) e

      here : held ≡ Some entry → test (slice_index names (length earlier)) ≡ true → list_any test (ended_names first) ≡ true
      here same passes =
          let ends : ending_at names earlier held ≡ Some status =
          sym (same_end earlier held later alike behind) ∙ ap (ending_at names after) same ∙ is in
          ap (λ (o : Option Status). list_any test (ended_names (ending_list (slice_index names (length earlier)) o))) ends
          ∙ or_false (test (slice_index names (length earlier))) passes

      by : ((n : ℕ) → entry_at later n ≡ Some entry → test (slice_index names (length front + n)) ≡ true
          → list_any test (ended_names (endings names front later)) ≡ true)
          → (n : ℕ) → entry_at (held ∷ later) n ≡ Some entry → test (slice_index names (length earlier + n)) ≡ true
          → list_any test (ended_names first ++ ended_names (endings names front later)) ≡ true
      by more zero at passes =
          any_append_first test (ended_names first) (ended_names (endings names front later))
          (here at (subst (λ (n : ℕ). test (slice_index names n) ≡ true) (omega arith) passes))
      by more (suc n) at passes =
          let long : length front ≡ length earlier + 1 = length-append earlier (passed names earlier held ∷ []) in
          any_append_second test (ended_names first) (ended_names (endings names front later))
          (more n at (subst (λ (n : ℕ). test (slice_index names n) ≡ true) (omega (arith, long)) passes))

module _ (before after : Book) (list : List EndedBlob) (sound : AreSound before.names before.entries) (finishes : Finishes before after list) where
  -- each named blob is one whose entry ended
  pub named_at : AllByRecursion (IsEnded before.names before.entries after.entries) list
  named_at =
      subst (AllByRecursion (IsEnded before.names before.entries after.entries)) (sym finishes.listed)
      (ended_from before.names before.entries after.entries sound finishes.each [] before.entries (λ k below. absurd (omega (arith, below)))
      (behind_all before.entries))

  -- and an entry that ended is named, by what its name passes
  pub numbered_at : (test : ℕ → Bool) (number : ℕ) (entry : Entry) (status : Status) → test (slice_index before.names number) ≡ true
      → entry_at before.entries number ≡ Some entry → ending before.names after.entries entry ≡ Some status → list_any test (ended_names list) ≡ true
  numbered_at test number entry status passes at is =
      ap (λ (one : List EndedBlob). list_any test (ended_names one)) finishes.listed
      ∙ told_from before.names before.entries after.entries sound finishes.each test [] before.entries number entry status
      (λ k below. absurd (omega (arith, below))) (behind_all before.entries)
      (subst (λ (n : ℕ). test (slice_index before.names n) ≡ true) (omega arith) passes) at is
