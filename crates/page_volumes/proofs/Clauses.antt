-- What a disk of pages promises of its calls, of those of a group.
use Rattle.std.proofs.Common.{◌≡◌, ℕ, ◌+◌, ◌-◌, ◌^◌, ◌≤◌, true, List, [], ◌∷◌, ◌++◌, Some, None, Option, arith, inl, inr, drop, length, take, option_and_then, refl, sym, ap, ◌∙◌, subst}
use Rattle.std.specs.Prelude.{min, IfSome, IsErrOf, IsSome, IsSomeAnd, MatchResult, OnErr, OnOk, Result, Ok, Err}
use Rattle.std.specs.Option.{option_map, option_map_or}
use Rattle.blob_words.specs.declared.fault.Failed.{Failed}
use Rattle.blob_words.specs.declared.number.PageNo.{PageNo}
use Rattle.blob_source.specs.Faults.{Rose}
use Rattle.page_disk.specs.Changes.{last_put, with_change, with_more, with_put, with_torn, HasRange, OpenWrite, Stands}
use Rattle.page_disk.specs.declared.change.Change.{Change}
use Rattle.page_disk.specs.declared.change.Change.TheVariants as changes
use Rattle.page_disk.specs.declared.fault.PutFault.{PutFault}
use Rattle.page_disk.specs.declared.fault.PutFault.TheVariants as faults
use Rattle.page_volumes.specs.Seen.{told_of, AreOf, Seen}
use Rattle.page_volumes.specs.Seen as volume
use Rattle.page_volumes.specs.Group
use Rattle.page_volumes.specs.Group.{changed_at, home_of, object_at, place_of, seen_by, told_more, unfiled, writer_of, Log, Slot}
use Rattle.page_volumes.specs.Sound.{came_of, changes_of, faults_of, is_sound, writing_of}
use Rattle.page_volumes.proofs.Acted.{same_writer, writer_let_go}
use Rattle.page_volumes.proofs.Counting
use Rattle.page_volumes.proofs.Disk.{asked_group, asked_held, asked_range, filed_told, home_held, home_place, writer_held, writing_sound, HasPut}
use Rattle.page_volumes.proofs.Goods.{object_after, Good}
use Rattle.page_volumes.proofs.Keeping.{placed_seen}

-- one change more, as it is told
told_changes : (change : Change) (log : Option Log) → option_map (λ (log : Log). log.changes) (told_more change log)
    ≡ with_change change (option_map (λ (log : Log). log.changes) log)
told_changes change None = refl
told_changes change (Some log) = refl

same_closed : (old new : Group.Group) → is_sound new ≡ true → new.write ≡ None → writing_of new ≡ None
same_closed old new sound closed = writing_sound new sound ∙ closed

-- a failed write
record Failing (page : PageNo) (old new : Group.Group) : Type 0 where
  closed : new.write ≡ None
  told : changes_of new ≡ with_change (changes.Torn page) (changes_of old)
  rose : Rose (faults_of old) (faults_of new)
  meter : new.meter ≡ old.meter

sweeps_write : (page : PageNo) (old new : Group.Group) → Group.Sweeps page old new → new.write ≡ old.write
sweeps_write page old new (inl is) = ap (λ (group : Group.Group). group.write) is
sweeps_write page old new (inr stays) = ap (λ (group : Group.Group). group.write) stays.is

sweeps_told : (page : PageNo) (old new : Group.Group) → Group.Sweeps page old new → changes_of new ≡ with_change (changes.Torn page) (changes_of old)
sweeps_told page old new (inl is) = ap (λ (group : Group.Group). changes_of group) is ∙ told_changes (changes.Torn page) old.log
sweeps_told page old new (inr stays) = ap (λ (group : Group.Group). changes_of group) stays.is ∙ told_changes (changes.Torn page) old.log

sweeps_meter : (page : PageNo) (old new : Group.Group) → Group.Sweeps page old new → new.meter ≡ old.meter
sweeps_meter page old new (inl is) = ap (λ (group : Group.Group). group.meter) is
sweeps_meter page old new (inr stays) = ap (λ (group : Group.Group). group.meter) stays.is

some_map : (change : Seen → Seen) (object : Option Seen) → IsSome object → IsSome (option_map change object)
some_map change None some = cc some
some_map change (Some seen) some = refl

torn_held : (page : PageNo) (count : ℕ) (old : Group.Group) → Good old
    → IsSome (object_at (Group.failed page count old).slots (writer_of (Group.failed page count old).slots))
torn_held page count old good = subst (λ (object : Option Seen). IsSome object)
    (sym (object_after (λ seen. volume.with_count count (volume.torn page.0 seen)) old.slots))
    (some_map (λ seen. volume.with_count count (volume.torn page.0 seen)) (object_at old.slots (writer_of old.slots)) (writer_held old good))

fails : (page : PageNo) (old new : Group.Group) → Good old → Group.Tears page (λ group. group) old new → Failing page old new
fails page old new good tears = record {
  closed = sweeps_write page (Group.failed page tears.count old) new tears.sweeps;
  told = sweeps_told page (Group.failed page tears.count old) new tears.sweeps;
  rose = Counting.tears_rose page (λ group. group) old new tears (writer_held old good) (torn_held page tears.count old good) refl;
  meter = sweeps_meter page (Group.failed page tears.count old) new tears.sweeps;
}

cleared_held : (page : PageNo) (count : ℕ) (old : Group.Group) → Good old
    → IsSome (object_at (Group.forgotten page.0 (Group.failed page count old)).slots (writer_of (Group.forgotten page.0 (Group.failed page count old)).slots))
cleared_held page count old good =
    let torn = Group.failed page count old in
    let files = unfiled page.0 old.files in
    let home = place_of page.0 old.files in
    let placed = placed_seen (λ seen. volume.with_count count (volume.torn page.0 seen)) (writer_of old.slots) old.slots old.files good.placed in
    subst (λ (object : Option Seen). IsSome object)
    (sym (ap (object_at (Group.let_go files home torn.slots)) (same_writer files home torn.slots) ∙ ap
    (λ found. option_and_then (λ (slot : Slot). slot.object) found) (writer_let_go files home torn.slots placed.writes)))
    (torn_held page count old good)

begin_fails : (page : PageNo) (old new : Group.Group) → Good old → Group.Tears page (Group.forgotten page.0) old new → Failing page old new
begin_fails page old new good tears =
    let torn = Group.failed page tears.count old in
    let cleared = Group.forgotten page.0 torn in record {
      closed = sweeps_write page cleared new tears.sweeps;
      told = sweeps_told page cleared new tears.sweeps;
      rose = Counting.tears_rose page (Group.forgotten page.0) old new tears (writer_held old good) (cleared_held page tears.count old good)
          (Counting.total_let_go (unfiled page.0 old.files) (place_of page.0 old.files) torn.slots);
      meter = sweeps_meter page cleared new tears.sweeps;
    }

-- `begin`
module _ (page : PageNo) (len : ℕ) (old new : Group.Group) where
  pub begin_ok : (result : Result (Unit {0}) PutFault) → is_sound new ≡ true → Group.Begins page len old result new
      → OnOk result ((writing_of new ≡ Some (record { page = page; len = len; came = 0 })) × (changes_of new ≡ changes_of old) × IfSome (changes_of new)
      (λ _. came_of new ≡ []))
  begin_ok (Ok done) sound is = (
    writing_sound new sound ∙ ap (λ (group : Group.Group). group.write) is,
    ap (λ (group : Group.Group). changes_of group) is ∙ told old.log,
    subst (λ (group : Group.Group). IfSome (changes_of group) (λ _. came_of group ≡ [])) (sym is) (came old.log),
  )
    where
      told : (log : Option Log) → option_map (λ (log : Log). log.changes) (option_map (λ (log : Log). record log { came = [] }) log)
          ≡ option_map (λ (log : Log). log.changes) log
      told None = refl
      told (Some log) = refl

      came : (log : Option Log) → IfSome (option_map (λ (log : Log). log.changes) (option_map (λ (log : Log). record log { came = [] }) log))
          (λ _. option_map_or (λ (log : Log). log.came) (option_map (λ (log : Log). record log { came = [] }) log) [] ≡ [])
      came None = tt
      came (Some log) = refl
  begin_ok (Err fault) sound act = tt

  pub begin_failed : (result : Result (Unit {0}) PutFault) → is_sound new ≡ true → Good old → Group.Begins page len old result new
      → IsErrOf result faults.Failed → (writing_of new ≡ None) × (changes_of new ≡ with_change (changes.Torn page) (changes_of old))
      × Rose (faults_of old) (faults_of new)
  begin_failed (Ok done) sound good act is = absurd (cc is)
  begin_failed (Err faults.Failed) sound good tears is = let failing = begin_fails page old new good tears in
      (same_closed old new sound failing.closed, failing.told, failing.rose)
  begin_failed (Err faults.NoMemory) sound good act is = absurd (cc is)

  pub begin_memory : (result : Result (Unit {0}) PutFault) → is_sound new ≡ true → old.write ≡ None → Group.Begins page len old result new
      → IsErrOf result faults.NoMemory → (writing_of new ≡ None) × (changes_of new ≡ changes_of old) × (faults_of new ≡ faults_of old)
  begin_memory (Ok done) sound closed act is = absurd (cc is)
  begin_memory (Err faults.Failed) sound closed act is = absurd (cc is)
  begin_memory (Err faults.NoMemory) sound closed act is = (
    same_closed old new sound (ap (λ (group : Group.Group). group.write) act ∙ closed),
    ap
        (λ (group : Group.Group). changes_of group) act,
    ap (λ (group : Group.Group). faults_of group) act,
  )

  begun_count : new ≡ Group.begun page len old → faults_of new ≡ faults_of old
  begun_count is = ap (λ (group : Group.Group). faults_of group) is
      ∙ ap (λ n. min n (2 ^ 64 - 1)) (Counting.total_let_go (unfiled page.0 old.files) (place_of page.0 old.files)
      (changed_at (seen_by (volume.begun page len)) (writer_of old.slots) old.slots) ∙ Counting.total_seen (volume.begun page len) (λ seen. refl)
      (writer_of old.slots) old.slots)

  pub begin_good : (result : Result (Unit {0}) PutFault) → Group.Begins page len old result new → OnOk result (faults_of new ≡ faults_of old)
  begin_good (Ok done) is = begun_count is
  begin_good (Err fault) act = tt

  pub begin_later : (result : Result (Unit {0}) PutFault) → Good old → Group.Begins page len old result new → faults_of old ≤ faults_of new
  begin_later (Ok done) good is = let same = begun_count is in omega (arith, same)
  begin_later (Err faults.Failed) good tears = Counting.rose_later old new (begin_fails page old new good tears).rose
  begin_later (Err faults.NoMemory) good act = let same = ap (λ (group : Group.Group). faults_of group) act in omega (arith, same)

  pub begin_meter : (result : Result (Unit {0}) PutFault) → Good old → Group.Begins page len old result new → new.meter ≡ old.meter
  begin_meter (Ok done) good is = ap (λ (group : Group.Group). group.meter) is
  begin_meter (Err faults.Failed) good tears = (begin_fails page old new good tears).meter
  begin_meter (Err faults.NoMemory) good act = ap (λ (group : Group.Group). group.meter) act

-- a failed `append` or `seal`
abbrev FailedWrite : Group.Group → Group.Group → Type 0
FailedWrite old new = (writing_of new ≡ None) × (changes_of new ≡ with_torn (writing_of old) (changes_of old)) × Rose (faults_of old) (faults_of new)

failed_write : (old new : Group.Group) → is_sound old ≡ true → is_sound new ≡ true → Good old
    → IsSomeAnd old.write (λ write. Group.Tears write.page (λ group. group) old new) → FailedWrite old new
failed_write old new sound after good tears = subst (λ write. (writing_of new ≡ None) × (changes_of new ≡ with_torn write (changes_of old))
    × Rose (faults_of old) (faults_of new)) (sym (writing_sound old sound)) (by old.write tears)
  where
    by : (write : Option OpenWrite) → IsSomeAnd write (λ write. Group.Tears write.page (λ group. group) old new) → (writing_of new ≡ None)
        × (changes_of new ≡ with_torn write (changes_of old)) × Rose (faults_of old) (faults_of new)
    by None tears = absurd tears
    by (Some write) tears = let failing = fails write.page old new good tears in (same_closed old new after failing.closed, failing.told, failing.rose)

failed_meter : (old new : Group.Group) (write : Option OpenWrite) → IsSomeAnd write (λ write. Group.Tears write.page (λ group. group) old new) → new.meter
    ≡ old.meter
failed_meter old new None tears = absurd tears
failed_meter old new (Some write) tears = sweeps_meter write.page (Group.failed write.page tears.count old) new tears.sweeps

-- `append`
module _ (bytes : List ℕ) (old new : Group.Group) where
  pub append_ok : (result : Result (Unit {0}) Failed) → is_sound old ≡ true → is_sound new ≡ true → Group.Appends bytes old result new
      → OnOk result ((writing_of new ≡ with_more (length bytes) (writing_of old)) × (changes_of new ≡ changes_of old) × IfSome (changes_of new)
      (λ _. came_of new ≡ came_of old ++ bytes))
  append_ok (Ok done) sound after is = (
    writing_sound new after ∙ ap (λ (group : Group.Group). group.write) is ∙ ap (with_more (length bytes)) (sym (writing_sound old sound)),
    ap (λ (group : Group.Group). changes_of group) is ∙ told old.log,
    subst (λ (group : Group.Group). IfSome (changes_of group) (λ _. came_of group ≡ came_of old ++ bytes)) (sym is) (came old.log),
  )
    where
      told : (log : Option Log) → option_map (λ (log : Log). log.changes) (option_map (λ (log : Log). record log { came = log.came ++ bytes }) log)
          ≡ option_map (λ (log : Log). log.changes) log
      told None = refl
      told (Some log) = refl

      came : (log : Option Log) → IfSome (option_map (λ (log : Log). log.changes) (option_map (λ (log : Log). record log { came = log.came ++ bytes }) log))
          (λ _. option_map_or (λ (log : Log). log.came) (option_map (λ (log : Log). record log { came = log.came ++ bytes }) log) []
          ≡ option_map_or (λ (log : Log). log.came) log [] ++ bytes)
      came None = tt
      came (Some log) = refl
  append_ok (Err failed) sound after act = tt

  pub append_failed : (result : Result (Unit {0}) Failed) → is_sound old ≡ true → is_sound new ≡ true → Good old → Group.Appends bytes old result new
      → OnErr result (FailedWrite old new)
  append_failed (Ok done) sound after good act = tt
  append_failed (Err failed) sound after good tears = failed_write old new sound after good tears

  longer_count : new ≡ Group.longer bytes old → faults_of new ≡ faults_of old
  longer_count is = ap (λ (group : Group.Group). faults_of group) is ∙ ap (λ n. min n (2 ^ 64 - 1))
      (Counting.total_seen (volume.longer bytes) (λ seen. refl) (writer_of old.slots) old.slots)

  pub append_good : (result : Result (Unit {0}) Failed) → Group.Appends bytes old result new → OnOk result (faults_of new ≡ faults_of old)
  append_good (Ok done) is = longer_count is
  append_good (Err failed) act = tt

  pub append_later : (result : Result (Unit {0}) Failed) → is_sound old ≡ true → is_sound new ≡ true → Good old → Group.Appends bytes old result new
      → faults_of old ≤ faults_of new
  append_later (Ok done) sound after good is = let same = longer_count is in omega (arith, same)
  append_later (Err failed) sound after good tears = Counting.rose_later old new (failed_write old new sound after good tears).2

  pub append_meter : (result : Result (Unit {0}) Failed) → Group.Appends bytes old result new → new.meter ≡ old.meter
  append_meter (Ok done) is = ap (λ (group : Group.Group). group.meter) is
  append_meter (Err failed) tears = failed_meter old new old.write tears

-- `seal`
module _ (old new : Group.Group) where
  put_closed : (write : Option OpenWrite) → IsSomeAnd write (λ write. new ≡ Group.put write.page old) → new.write ≡ None
  put_closed None is = absurd is
  put_closed (Some write) is = ap (λ (group : Group.Group). group.write) is

  put_told : (write : Option OpenWrite) → IsSomeAnd write (λ write. new ≡ Group.put write.page old) → changes_of new ≡ with_put write (came_of old)
      (changes_of old)
  put_told None is = absurd is
  put_told (Some write) is = ap (λ (group : Group.Group). changes_of group) is ∙ by old.log
    where
      by : (log : Option Log) → option_map (λ (log : Log). log.changes)
          (option_map (λ (log : Log). record { changes = log.changes ++ changes.Put write.page log.came ∷ []; came = [] }) log)
          ≡ with_change (changes.Put write.page (option_map_or (λ (log : Log). log.came) log [])) (option_map (λ (log : Log). log.changes) log)
      by None = refl
      by (Some log) = refl

  put_count : (write : Option OpenWrite) → IsSomeAnd write (λ write. new ≡ Group.put write.page old) → faults_of new ≡ faults_of old
  put_count None is = absurd is
  put_count (Some write) is = ap (λ (group : Group.Group). faults_of group) is ∙ ap (λ n. min n (2 ^ 64 - 1))
      (Counting.total_seen (volume.put write.page.0) (λ seen. refl) (writer_of old.slots) old.slots)

  put_meter : (write : Option OpenWrite) → IsSomeAnd write (λ write. new ≡ Group.put write.page old) → new.meter ≡ old.meter
  put_meter None is = absurd is
  put_meter (Some write) is = ap (λ (group : Group.Group). group.meter) is

  pub seal_closed : (result : Result (Unit {0}) Failed) → is_sound old ≡ true → is_sound new ≡ true → Good old → Group.Seals old result new → writing_of new
      ≡ None
  seal_closed (Ok done) sound after good is = same_closed old new after (put_closed old.write is)
  seal_closed (Err failed) sound after good tears = (failed_write old new sound after good tears).0

  pub seal_ok : (result : Result (Unit {0}) Failed) → is_sound old ≡ true → Group.Seals old result new
      → OnOk result (changes_of new ≡ with_put (writing_of old) (came_of old) (changes_of old))
  seal_ok (Ok done) sound is = put_told old.write is ∙ ap (λ write. with_put write (came_of old) (changes_of old)) (sym (writing_sound old sound))
  seal_ok (Err failed) sound act = tt

  pub seal_failed : (result : Result (Unit {0}) Failed) → is_sound old ≡ true → is_sound new ≡ true → Good old → Group.Seals old result new
      → OnErr result ((changes_of new ≡ with_torn (writing_of old) (changes_of old)) × Rose (faults_of old) (faults_of new))
  seal_failed (Ok done) sound after good act = tt
  seal_failed (Err failed) sound after good tears = let so = failed_write old new sound after good tears in (so.1, so.2)

  pub seal_good : (result : Result (Unit {0}) Failed) → Group.Seals old result new → OnOk result (faults_of new ≡ faults_of old)
  seal_good (Ok done) is = put_count old.write is
  seal_good (Err failed) act = tt

  pub seal_later : (result : Result (Unit {0}) Failed) → is_sound old ≡ true → is_sound new ≡ true → Good old → Group.Seals old result new
      → faults_of old ≤ faults_of new
  seal_later (Ok done) sound after good is = let same = put_count old.write is in omega (arith, same)
  seal_later (Err failed) sound after good tears = Counting.rose_later old new (failed_write old new sound after good tears).2

  pub seal_meter : (result : Result (Unit {0}) Failed) → Group.Seals old result new → new.meter ≡ old.meter
  seal_meter (Ok done) is = put_meter old.write is
  seal_meter (Err failed) tears = failed_meter old new old.write tears

-- `get`
module _ (page off : ℕ) (old new : Group.Group) where
  pub get_closed : (result : Result (Unit {0}) Failed) (out : List ℕ) → is_sound new ≡ true → old.write ≡ None → Group.Gets page off old result out new
      → writing_of new ≡ None
  get_closed (Ok done) out sound closed is = same_closed old new sound (ap (λ (group : Group.Group). group.write) is.0 ∙ closed)
  get_closed (Err failed) out sound closed counts = same_closed old new sound (ap (λ (group : Group.Group). group.write) counts.is ∙ closed)

  pub get_same : (result : Result (Unit {0}) Failed) (out : List ℕ) → Group.Gets page off old result out new → changes_of new ≡ changes_of old
  get_same (Ok done) out is = ap (λ (group : Group.Group). changes_of group) is.0
  get_same (Err failed) out counts = ap (λ (group : Group.Group). changes_of group) counts.is

  pub get_good : (result : Result (Unit {0}) Failed) (out : List ℕ) → Group.Gets page off old result out new → OnOk result (faults_of new ≡ faults_of old)
  get_good (Ok done) out is = ap (λ (group : Group.Group). faults_of group) is.0
  get_good (Err failed) out counts = tt

  pub get_failed : (result : Result (Unit {0}) Failed) (out : List ℕ) → Good old → Group.Gets page off old result out new
      → OnErr result (Rose (faults_of old) (faults_of new))
  get_failed (Ok done) out good is = tt
  get_failed (Err failed) out good counts = Counting.counts_rose (Group.asked_at page old) old new (asked_held page old good) counts

  pub get_later : (result : Result (Unit {0}) Failed) (out : List ℕ) → Good old → Group.Gets page off old result out new → faults_of old ≤ faults_of new
  get_later (Ok done) out good is = let same = ap (λ (group : Group.Group). faults_of group) is.0 in omega (arith, same)
  get_later (Err failed) out good counts = Counting.rose_later old new
      (Counting.counts_rose (Group.asked_at page old) old new (asked_held page old good) counts)

  pub get_meter : (result : Result (Unit {0}) Failed) (out before : List ℕ) → length out ≡ length before → Group.Gets page off old result out new
      → MatchResult result (λ _. new.meter ≡ min (old.meter + length before) (2 ^ 64 - 1)) (λ _. new.meter ≡ old.meter)
  get_meter (Ok done) out before same is = ap (λ (group : Group.Group). group.meter) is.0 ∙ ap (λ n. min (old.meter + n) (2 ^ 64 - 1)) same
  get_meter (Err failed) out before same counts = ap (λ (group : Group.Group). group.meter) counts.is

  pub get_bytes : (result : Result (Unit {0}) Failed) (out before : List ℕ) → length out ≡ length before → Good old → old.write ≡ None → IfSome (changes_of old)
      (HasRange page off (length before)) → Group.Gets page off old result out new
      → OnOk result (IfSome (changes_of old) (λ changes. IsSomeAnd (last_put page changes) (λ bytes. out ≡ take (length before) (drop off bytes))))
  get_bytes (Err failed) out before same good closed range act = tt
  get_bytes (Ok done) out before same good closed range act = by old.log refl range
    where
      file : (log : Log) (found : Option (Option (Option (List ℕ)))) → IsSomeAnd found (λ file. file ≡ Some (last_put page log.changes))
          → IfSome found (λ file. IsSomeAnd file (λ whole. IsSomeAnd whole (λ bytes. out ≡ take (length out) (drop off bytes))))
          → IsSomeAnd (last_put page log.changes) (λ bytes. out ≡ take (length before) (drop off bytes))
      file log None so are = absurd so
      file log (Some found) so are = subst (λ n. IsSomeAnd (last_put page log.changes) (λ bytes. out ≡ take n (drop off bytes))) same
          (subst (λ found. IsSomeAnd found (λ whole. IsSomeAnd whole (λ bytes. out ≡ take (length out) (drop off bytes)))) so are)

      object : (log : Log) (object : Option Seen) → IsSomeAnd object (HasPut page log) → IfSome object (AreOf page off out)
          → IsSomeAnd (last_put page log.changes) (λ bytes. out ≡ take (length before) (drop off bytes))
      object log None so are = absurd so
      object log (Some seen) so are = file log (told_of page seen) so.1 are

      by : (log : Option Log) → old.log ≡ log → IfSome (option_map (λ (log : Log). log.changes) log) (HasRange page off (length before))
          → IfSome (option_map (λ (log : Log). log.changes) log)
          (λ changes. IsSomeAnd (last_put page changes) (λ bytes. out ≡ take (length before) (drop off bytes)))
      by None is range = tt
      by (Some log) is range =
          let asked = asked_range page off (length before) old log is good closed range in
          object log (object_at old.slots asked.k) asked.has (subst (λ k. IfSome (object_at old.slots k) (AreOf page off out))
          (sym (asked_group page asked.k old asked.home)) act.1)

-- `remove`
module _ (page : PageNo) (old new : Group.Group) where
  removal : (home : Option (Option ℕ)) (result : Result (Unit {0}) Failed) → (home ≡ None → old.log ≡ None) → Group.RemovesFrom page old home result new
      → MatchResult result (λ _. changes_of new ≡ with_change (changes.Remove page) (changes_of old))
      (λ _. changes_of new ≡ with_change (changes.Left page) (changes_of old))
  removal (Some (Some k)) (Ok done) filed is = ap (λ (group : Group.Group). changes_of group) is ∙ told_changes (changes.Remove page) old.log
  removal (Some (Some k)) (Err failed) filed leaves = ap (λ (group : Group.Group). changes_of group) leaves.is ∙ told_changes (changes.Left page) old.log
  removal (Some None) (Ok done) filed is = ap (λ (group : Group.Group). changes_of group) is ∙ told_changes (changes.Remove page) old.log
  removal (Some None) (Err failed) filed act = absurd act
  removal None (Ok done) filed is = ap (λ (group : Group.Group). changes_of group) is ∙ subst
      (λ log. option_map (λ (log : Log). log.changes) log ≡ with_change (changes.Remove page) (option_map (λ (log : Log). log.changes) log)) (sym (filed refl))
      refl
  removal None (Err failed) filed counts = ap (λ (group : Group.Group). changes_of group) counts.is ∙ subst
      (λ log. option_map (λ (log : Log). log.changes) log ≡ with_change (changes.Left page) (option_map (λ (log : Log). log.changes) log)) (sym (filed refl))
      refl

  removed_all : (result : Result (Unit {0}) Failed) → Good old → old.write ≡ None → IfSome (changes_of old) (Stands page.0) → Group.Removes page old result new
      → MatchResult result (λ _. changes_of new ≡ with_change (changes.Remove page) (changes_of old))
      (λ _. changes_of new ≡ with_change (changes.Left page) (changes_of old))
  removed_all result good closed stands act = removal (home_of page.0 old.files) result (filed_told page.0 old good closed stands) act

  pub remove_ok : (result : Result (Unit {0}) Failed) → Good old → old.write ≡ None → IfSome (changes_of old) (Stands page.0) → Group.Removes page old result
      new → OnOk result (changes_of new ≡ with_change (changes.Remove page) (changes_of old))
  remove_ok (Ok done) good closed stands act = removed_all (Ok done) good closed stands act
  remove_ok (Err failed) good closed stands act = tt

  removal_count : (home : Option (Option ℕ)) → Group.RemovesFrom page old home (Ok tt) new → faults_of new ≡ faults_of old
  removal_count (Some (Some k)) is = ap (λ (group : Group.Group). faults_of group) is
      ∙ ap (λ n. min n (2 ^ 64 - 1)) (Counting.total_let_go (unfiled page.0 old.files) (Some k) (changed_at (seen_by (volume.removed page.0)) k old.slots) ∙
      Counting.total_seen (volume.removed page.0) (λ seen. refl) k old.slots)
  removal_count (Some None) is = ap (λ (group : Group.Group). faults_of group) is
  removal_count None is = ap (λ (group : Group.Group). faults_of group) is ∙ ap (λ n. min n (2 ^ 64 - 1))
      (Counting.total_seen (volume.removed page.0) (λ seen. refl) (writer_of old.slots) old.slots)

  removal_rose : (home : Option (Option ℕ)) → home_of page.0 old.files ≡ home → Good old → (failed : Failed) → Group.RemovesFrom page old home (Err failed) new
      → Rose (faults_of old) (faults_of new)
  removal_rose (Some (Some k)) is good failed leaves = Counting.leaves_rose page k old new (home_held page.0 k old good (home_place page.0 k old.files is))
      leaves
  removal_rose (Some None) is good failed act = absurd act
  removal_rose None is good failed counts = Counting.counts_rose (writer_of old.slots) old new (writer_held old good) counts

  pub remove_good : (result : Result (Unit {0}) Failed) → Group.Removes page old result new → OnOk result (faults_of new ≡ faults_of old)
  remove_good (Ok done) act = removal_count (home_of page.0 old.files) act
  remove_good (Err failed) act = tt

  pub remove_failed : (result : Result (Unit {0}) Failed) → Good old → old.write ≡ None → IfSome (changes_of old) (Stands page.0) → Group.Removes page old
      result new
      → OnErr result ((changes_of new ≡ with_change (changes.Left page) (changes_of old)) × Rose (faults_of old) (faults_of new))
  remove_failed (Ok done) good closed stands act = tt
  remove_failed (Err failed) good closed stands act = (
    removed_all (Err failed) good closed stands act,
    removal_rose (home_of page.0 old.files) refl good failed
        act,
  )

  pub remove_later : (result : Result (Unit {0}) Failed) → Good old → Group.Removes page old result new → faults_of old ≤ faults_of new
  remove_later (Ok done) good act = let same = removal_count (home_of page.0 old.files) act in omega (arith, same)
  remove_later (Err failed) good act = Counting.rose_later old new (removal_rose (home_of page.0 old.files) refl good failed act)

  removal_meter : (home : Option (Option ℕ)) (result : Result (Unit {0}) Failed) → Group.RemovesFrom page old home result new → new.meter ≡ old.meter
  removal_meter (Some (Some k)) (Ok done) is = ap (λ (group : Group.Group). group.meter) is
  removal_meter (Some (Some k)) (Err failed) leaves = ap (λ (group : Group.Group). group.meter) leaves.is
  removal_meter (Some None) (Ok done) is = ap (λ (group : Group.Group). group.meter) is
  removal_meter (Some None) (Err failed) act = absurd act
  removal_meter None (Ok done) is = ap (λ (group : Group.Group). group.meter) is
  removal_meter None (Err failed) counts = ap (λ (group : Group.Group). group.meter) counts.is

  pub remove_meter : (result : Result (Unit {0}) Failed) → Group.Removes page old result new → new.meter ≡ old.meter
  remove_meter result act = removal_meter (home_of page.0 old.files) result act

  removal_write : (home : Option (Option ℕ)) (result : Result (Unit {0}) Failed) → Group.RemovesFrom page old home result new → new.write ≡ old.write
  removal_write (Some (Some k)) (Ok done) is = ap (λ (group : Group.Group). group.write) is
  removal_write (Some (Some k)) (Err failed) leaves = ap (λ (group : Group.Group). group.write) leaves.is
  removal_write (Some None) (Ok done) is = ap (λ (group : Group.Group). group.write) is
  removal_write (Some None) (Err failed) act = absurd act
  removal_write None (Ok done) is = ap (λ (group : Group.Group). group.write) is
  removal_write None (Err failed) counts = ap (λ (group : Group.Group). group.write) counts.is

  pub remove_closed : (result : Result (Unit {0}) Failed) → is_sound new ≡ true → old.write ≡ None → Group.Removes page old result new → writing_of new ≡ None
  remove_closed result sound closed act = same_closed old new sound (removal_write (home_of page.0 old.files) result act ∙ closed)
