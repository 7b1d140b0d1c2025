-- The calls of a group keep what it notes in agreement, and its volumes standing as noted.
use Rattle.std.proofs.Common.{◌≡◌, ℕ, suc, ◌<◌, ◌||◌, true, false, not, List, [], ◌∷◌, ◌++◌, Some, None, Option, length, option_and_then, inl, inr, refl, sym, ap, ◌∙◌, subst}
use Rattle.std.specs.Prelude.{is_some, slice_get, ◌-◌, ◌+◌, IfSome, IsSomeAnd, Result, Ok, Err}
use Rattle.std.specs.List.{list_any}
use Rattle.std.specs.Option.{option_map}
use Rattle.std.proofs.lemmas.Bool.{eq-eqb}
use Rattle.std.proofs.lemmas.Option.{slice_get-map}
use Rattle.blob_words.specs.declared.fault.Failed.{Failed}
use Rattle.blob_words.specs.declared.number.PageNo.{PageNo}
use Rattle.page_disk.specs.Changes.{put_by, removes, with_more, writes, IsNew, OpenWrite}
use Rattle.page_disk.specs.declared.change.Change.{Change}
use Rattle.page_disk.specs.declared.change.Change.TheVariants as changes
use Rattle.page_disk.specs.declared.fault.PutFault.{PutFault}
use Rattle.page_disk.specs.declared.fault.PutFault.TheVariants as faults
use Rattle.page_volumes.specs.declared.filed.Filed.{Filed}
use Rattle.page_volumes.specs.declared.place.Place.{Place}
use Rattle.page_volumes.specs.declared.members.Members.{Members}
use Rattle.page_volumes.specs.Seen.{with_count, Seen}
use Rattle.page_volumes.specs.Seen as volume
use Rattle.page_volumes.specs.Group
use Rattle.page_volumes.specs.Group.{changed_at, has_files, home_of, let_go, object_at, place_of, seen_by, settled_at, takes_writes, told_more, unfiled, writer_of, writer_retired, Log, Slot}
use Rattle.page_volumes.specs.Invariants.{Keeps, KeepsLog}
use Rattle.page_volumes.specs.Plain.{of_members, slot_of, slots_of}
use Rattle.page_volumes.specs.Sound.{is_sound}
use Rattle.page_volumes.proofs.Acted.{same_writer, writer_let_go}
use Rattle.page_volumes.proofs.Filing.{apart_more, apart_of, apart_unfiled, are_apart_of, home_unfiled, Apart}
use Rattle.page_volumes.proofs.Holding
use Rattle.page_volumes.proofs.Holding.{Holds, IsTorn}
use Rattle.page_volumes.proofs.Keeping
use Rattle.page_volumes.proofs.Keeping.{Logged, Placed}
use Rattle.page_volumes.proofs.There.{none_other, unfiled_other}
use Rattle.page_volumes.proofs.Told.{written_now}
use Rattle.page_volumes.proofs.Writers.{changed_here, writer_changed}

-- all that is kept of a group
pub record Parts (log : Option Log) (write : Option OpenWrite) (slots : List Slot) (files : List Filed) : Type 0 where
  pub placed : Placed slots files
  pub apart : Apart files
  pub unfiled : IfSome write (λ write. home_of write.page.0 files ≡ None)
  pub logged : IfSome log (λ (log : Log). Logged write files log.changes)
  pub holds : Holds log write slots files

abbrev pub Good : Group.Group → Type 0
Good group = Parts group.log group.write group.slots group.files

pub parts_of : (group : Group.Group) → Keeps group → is_sound group ≡ true → Good group
parts_of group keeps sound = record {
  placed = record { writes = keeps.writes; held = keeps.held; homes = keeps.homes };
  apart = apart_of group.files keeps.apart;
  unfiled = keeps.unfiled;
  logged = by group.log keeps.log;
  holds = Holding.sound_holds group sound;
}
  where
    by : (log : Option Log) → IfSome log (KeepsLog group) → IfSome log (λ (log : Log). Logged group.write group.files log.changes)
    by None so = tt
    by (Some log) so = record { known = so.known; gone = so.gone; fresh = so.fresh }

pub keeps_of : (group : Group.Group) → Good group → Keeps group
keeps_of group good = record {
  writes = good.placed.writes;
  held = good.placed.held;
  homes = good.placed.homes;
  apart = are_apart_of group.files good.apart;
  unfiled = good.unfiled;
  log = by group.log good.logged;
}
  where
    by : (log : Option Log) → IfSome log (λ (log : Log). Logged group.write group.files log.changes) → IfSome log (KeepsLog group)
    by None so = tt
    by (Some log) so = record { known = so.known; gone = so.gone; fresh = so.fresh }

pub sound_of : (group : Group.Group) → Good group → is_sound group ≡ true
sound_of group good = Holding.holds_sound group good.holds

-- what is kept doesn't depend on what the volumes are seen as
pub keeps_as : {X : Type 0} (one other : X → Seen) (members : Members X) → Keeps (of_members one members) → Keeps (of_members other members)
keeps_as {X = X} one other members keeps = record {
  writes = writes members.places.items.items ∙ keeps.writes;
  held = λ k. subst (λ found. IfSome found (λ slot. is_some slot.object ≡ (not slot.is_retired || has_files k members.files.filed)))
      (sym (slice_get-map (slot_of other) members.places.items.items k))
      (held k (slice_get members.places.items.items k)
      (subst (λ found. IfSome found (λ slot. is_some slot.object ≡ (not slot.is_retired || has_files k members.files.filed)))
      (slice_get-map (slot_of one) members.places.items.items k) (keeps.held k)));
  homes = λ page. subst (λ n. IfSome (place_of page members.files.filed) (λ k. k < n)) (lengths members.places.items.items) (keeps.homes page);
  apart = keeps.apart;
  unfiled = keeps.unfiled;
  log = by (of_members one members).log keeps.log;
}
  where
    writes : (items : List (Place X)) → takes_writes (slots_of other items) ≡ takes_writes (slots_of one items)
    writes [] = refl
    writes (place ∷ items) = ap (λ r. not place.is_retired || r) (writes items)

    some : (object : Option X) → is_some (option_map other object) ≡ is_some (option_map one object)
    some None = refl
    some (Some volume) = refl

    held : (k : ℕ) (found : Option (Place X)) → IfSome (option_map (slot_of one) found)
        (λ slot. is_some slot.object ≡ (not slot.is_retired || has_files k members.files.filed)) → IfSome (option_map (slot_of other) found)
        (λ slot. is_some slot.object ≡ (not slot.is_retired || has_files k members.files.filed))
    held k None so = so
    held k (Some place) so = some place.volume ∙ so

    lengths : (items : List (Place X)) → length (slots_of one items) ≡ length (slots_of other items)
    lengths [] = refl
    lengths (place ∷ items) = ap suc (lengths items)

    by : (log : Option Log) → IfSome log (KeepsLog (of_members one members)) → IfSome log (KeepsLog (of_members other members))
    by None so = tt
    by (Some log) so = record { known = so.known; gone = so.gone; fresh = so.fresh }

abbrev New : PageNo → Option Log → Type 0
New page log = IfSome log (λ (log : Log). IsNew page.0 log.changes)

-- a write begins
begun_parts : (page : PageNo) (len : ℕ) (log : Option Log) (slots : List Slot) (files : List Filed) → New page log → Parts log None slots files
    → Parts (option_map (λ (log : Log). record log { came = [] }) log) (Some (record { page = page; len = len; came = 0 }))
    (let_go (unfiled page.0 files) (place_of page.0 files) (changed_at (seen_by (volume.begun page len)) (writer_of slots) slots)) (unfiled page.0 files)
begun_parts page len log slots files new so =
    let w = writer_of slots in
    let slots_begun = changed_at (seen_by (volume.begun page len)) w slots in
    let log_begun = option_map (λ (log : Log). record log { came = [] }) log in
    let write : Option OpenWrite = Some (record { page = page; len = len; came = 0 }) in record {
      placed = Keeping.placed_unfiled page.0 slots_begun files (place_of page.0 files) refl so.apart
          (Keeping.placed_seen (volume.begun page len) w slots files so.placed);
      apart = apart_unfiled page.0 files so.apart;
      unfiled = home_unfiled page.0 files;
      logged = by log new so.logged;
      holds = Holding.holds_let_go log_begun write slots_begun (unfiled page.0 files) (place_of page.0 files)
          (Holding.holds_unfiled page.0 log_begun write slots_begun files (Holding.holds_begun log page len slots files so.holds));
    }
  where
    by : (log : Option Log) → New page log → IfSome log (λ (log : Log). Logged None files log.changes)
        → IfSome (option_map (λ (log : Log). record log { came = [] }) log)
        (λ (log : Log). Logged (Some (record { page = page; len = len; came = 0 })) (unfiled page.0 files) log.changes)
    by None new so = tt
    by (Some log) new so = Keeping.logged_begun page len files log.changes new so

-- bytes come to it
longer_parts : (bytes : List ℕ) (log : Option Log) (write : Option OpenWrite) (slots : List Slot) (files : List Filed) → Parts log write slots files
    → Parts (option_map (λ (log : Log). record log { came = log.came ++ bytes }) log) (with_more (length bytes) write)
    (changed_at (seen_by (volume.longer bytes)) (writer_of slots) slots) files
longer_parts bytes log write slots files so = record {
  placed = Keeping.placed_seen (volume.longer bytes) (writer_of slots) slots files so.placed;
  apart = so.apart;
  unfiled = still write so.unfiled;
  logged = by log so.logged;
  holds = Holding.holds_longer log bytes write slots files so.holds;
}
  where
    still : (write : Option OpenWrite) → IfSome write (λ write. home_of write.page.0 files ≡ None) → IfSome (with_more (length bytes) write)
        (λ write. home_of write.page.0 files ≡ None)
    still None so = tt
    still (Some write) so = so

    by : (log : Option Log) → IfSome log (λ (log : Log). Logged write files log.changes)
        → IfSome (option_map (λ (log : Log). record log { came = log.came ++ bytes }) log)
        (λ (log : Log). Logged (with_more (length bytes) write) files log.changes)
    by None so = tt
    by (Some log) so = Keeping.logged_longer (length bytes) write files log.changes so

-- the writer stays the same one
same_place : (change : Seen → Seen) (slots : List Slot) → writer_of (changed_at (seen_by change) (writer_of slots) slots) ≡ writer_of slots
same_place change slots = writer_changed (seen_by change) (λ slot. refl) (writer_of slots) slots

-- it ends well
put_parts : (write : OpenWrite) (log : Option Log) (slots : List Slot) (files : List Filed) → Parts log (Some write) slots files
    → Parts (option_map (λ (log : Log). record { changes = log.changes ++ changes.Put write.page log.came ∷ []; came = [] }) log) None
    (changed_at (seen_by (volume.put write.page.0)) (writer_of slots) slots) (files ++ record { page = write.page; home = Some (writer_of slots) } ∷ [])
put_parts write log slots files so =
    let page = write.page in
    let w = writer_of slots in
    let after = changed_at (seen_by (volume.put page.0)) w slots in record {
      placed = subst (λ k. Placed after (files ++ record { page = page; home = Some k } ∷ [])) (same_place (volume.put page.0) slots)
          (Keeping.placed_put page after files (Keeping.placed_seen (volume.put page.0) w slots files so.placed));
      apart = apart_more files (record { page = page; home = Some w }) so.apart so.unfiled;
      unfiled = tt;
      logged = by log so.logged;
      holds = Holding.holds_put log page write slots files (fresh log so.logged) (none_other page.0 files so.unfiled) so.placed so.holds;
    }
  where
    fresh : (log : Option Log) → IfSome log (λ (log : Log). Logged (Some write) files log.changes) → New write.page log
    fresh None so = tt
    fresh (Some log) so = so.fresh

    by : (log : Option Log) → IfSome log (λ (log : Log). Logged (Some write) files log.changes)
        → IfSome (option_map (λ (log : Log). record { changes = log.changes ++ changes.Put write.page log.came ∷ []; came = [] }) log)
        (λ (log : Log). Logged None (files ++ record { page = write.page; home = Some (writer_of slots) } ∷ []) log.changes)
    by None one = tt
    by (Some log) one = Keeping.logged_put write.page log.came (writer_of slots) (Some write) files log.changes so.unfiled one

-- a write failed, and its torn file is to be removed
record TornParts (page : PageNo) (log : Option Log) (slots : List Slot) (files : List Filed) : Type 0 where
  placed : Placed slots files
  apart : Apart files
  none : home_of page.0 files ≡ None
  new : New page log
  logged : IfSome log (λ (log : Log). Logged None files log.changes)
  holds : Holds (told_more (changes.Torn page) log) None slots files
  torn : IsTorn page (told_more (changes.Torn page) log) (object_at slots (writer_of slots))

abbrev failing : PageNo → ℕ → Seen → Seen
failing page count seen = with_count count (volume.torn page.0 seen)

pub object_after : (change : Seen → Seen) (slots : List Slot) → object_at (changed_at (seen_by change) (writer_of slots) slots)
    (writer_of (changed_at (seen_by change) (writer_of slots) slots)) ≡ option_map change (object_at slots (writer_of slots))
object_after change slots = ap (object_at (changed_at (seen_by change) (writer_of slots) slots)) (same_place change slots) ∙ ap
    (λ found. option_and_then (λ (slot : Slot). slot.object) found) (changed_here (seen_by change) (writer_of slots) slots) ∙
    by (slice_get slots (writer_of slots))
  where
    by : (found : Option Slot) → option_and_then (λ (slot : Slot). slot.object) (option_map (seen_by change) found)
        ≡ option_map change (option_and_then (λ (slot : Slot). slot.object) found)
    by None = refl
    by (Some slot) = refl

closed_log : (write : Option OpenWrite) (files : List Filed) (log : Option Log) → IfSome log (λ (log : Log). Logged write files log.changes)
    → IfSome log (λ (log : Log). Logged None files log.changes)
closed_log write files None so = tt
closed_log write files (Some log) so = record { known = so.known; gone = so.gone; fresh = tt }

failed_parts : (page : PageNo) (count : ℕ) (log : Option Log) (write : Option OpenWrite) (slots : List Slot) (files : List Filed) → New page log
    → home_of page.0 files ≡ None → Parts log write slots files
    → TornParts page log (changed_at (seen_by (failing page count)) (writer_of slots) slots) files
failed_parts page count log write slots files new none so = record {
  placed = Keeping.placed_seen (failing page count) (writer_of slots) slots files so.placed;
  apart = so.apart;
  none = none;
  new = new;
  logged = closed_log write files log so.logged;
  holds = Holding.holds_torn log page count write slots files so.holds;
  torn = subst (λ (object : Option Seen). IsTorn page (told_more (changes.Torn page) log) object) (sym (object_after (failing page count) slots))
      (Holding.torn_there log page count write (object_at slots (writer_of slots)) new (Holding.writer_noted log write slots files so.placed so.holds));
}

-- the same where the page had a file before
cleared_parts : (page : PageNo) (count : ℕ) (log : Option Log) (slots : List Slot) (files : List Filed) → New page log → Parts log None slots files
    → TornParts page log (let_go (unfiled page.0 files) (place_of page.0 files) (changed_at (seen_by (failing page count)) (writer_of slots) slots))
    (unfiled page.0 files)
cleared_parts page count log slots files new so =
    let after = changed_at (seen_by (failing page count)) (writer_of slots) slots in
    let told = told_more (changes.Torn page) log in
    let placed = Keeping.placed_seen (failing page count) (writer_of slots) slots files so.placed in
    let object = ap (object_at (let_go (unfiled page.0 files) (place_of page.0 files) after)) (same_writer (unfiled page.0 files) (place_of page.0 files) after)
    ∙ ap (λ found. option_and_then (λ (slot : Slot). slot.object) found) (writer_let_go (unfiled page.0 files) (place_of page.0 files) after placed.writes) ∙
    object_after (failing page count) slots in record {
      placed = Keeping.placed_unfiled page.0 after files (place_of page.0 files) refl so.apart placed;
      apart = apart_unfiled page.0 files so.apart;
      none = home_unfiled page.0 files;
      new = new;
      logged = by log new so.logged;
      holds = Holding.holds_let_go told None after (unfiled page.0 files) (place_of page.0 files)
          (Holding.holds_unfiled page.0 told None after files (Holding.holds_torn log page count None slots files so.holds));
      torn = subst (λ (object : Option Seen). IsTorn page told object) (sym object)
          (Holding.torn_there log page count None (object_at slots (writer_of slots)) new (Holding.writer_noted log None slots files so.placed so.holds));
    }
  where
    by : (log : Option Log) → New page log → IfSome log (λ (log : Log). Logged None files log.changes)
        → IfSome log (λ (log : Log). Logged None (unfiled page.0 files) log.changes)
    by None new so = tt
    by (Some log) new so = Keeping.logged_cleared page.0 files log.changes new so

torn_logged : (page : PageNo) (home : Option ℕ) (log : Option Log) (files : List Filed) → New page log → home_of page.0 files ≡ None
    → IfSome log (λ (log : Log). Logged None files log.changes)
    → IfSome (told_more (changes.Torn page) log) (λ (log : Log). Logged None (files ++ record { page = page; home = home } ∷ []) log.changes)
torn_logged page home None files new none so = tt
torn_logged page home (Some log) files new none so = Keeping.logged_torn page home None files log.changes new none so

gone_parts : (page : PageNo) (log : Option Log) (slots : List Slot) (files : List Filed) → TornParts page log slots files
    → Parts (told_more (changes.Torn page) log) None (writer_retired (files ++ record { page = page; home = None } ∷ [])
    (changed_at (seen_by (volume.removed page.0)) (writer_of slots) slots)) (files ++ record { page = page; home = None } ∷ [])
gone_parts page log slots files so =
    let w = writer_of slots in
    let after = changed_at (seen_by (volume.removed page.0)) w slots in
    let told = told_more (changes.Torn page) log in
    let more = files ++ record { page = page; home = None } ∷ [] in record {
      placed = Keeping.placed_retired after more (Keeping.placed_gone page after files (Keeping.placed_seen (volume.removed page.0) w slots files so.placed));
      apart = apart_more files (record { page = page; home = None }) so.apart so.none;
      unfiled = tt;
      logged = torn_logged page None log files so.new so.none so.logged;
      holds = Holding.holds_retired told after more (Holding.holds_gone told page after files
          (Holding.holds_removed told page.0 w slots files (none_other page.0 files so.none) so.holds));
    }

left_parts : (page : PageNo) (count : ℕ) (log : Option Log) (slots : List Slot) (files : List Filed) → TornParts page log slots files
    → Parts (told_more (changes.Torn page) log) None (writer_retired (files ++ record { page = page; home = Some (writer_of slots) } ∷ [])
    (changed_at (seen_by (with_count count)) (writer_of slots) slots)) (files ++ record { page = page; home = Some (writer_of slots) } ∷ [])
left_parts page count log slots files so =
    let w = writer_of slots in
    let after = changed_at (seen_by (with_count count)) w slots in
    let told = told_more (changes.Torn page) log in
    let more = files ++ record { page = page; home = Some w } ∷ [] in record {
      placed = Keeping.placed_retired after more (subst (λ k. Placed after (files ++ record { page = page; home = Some k } ∷ []))
          (same_place (with_count count) slots) (Keeping.placed_put page after files (Keeping.placed_seen (with_count count) w slots files so.placed)));
      apart = apart_more files (record { page = page; home = Some w }) so.apart so.none;
      unfiled = tt;
      logged = torn_logged page (Some w) log files so.new so.none so.logged;
      holds = Holding.holds_retired told after more (Holding.holds_left told page w after files (written log)
          (Holding.count_torn page told count w slots so.torn) (Holding.holds_count told count w slots files so.holds));
    }
  where
    written : (log : Option Log) → IfSome (told_more (changes.Torn page) log) (λ (log : Log). list_any (writes page.0) log.changes ≡ true)
    written None = tt
    written (Some log) = written_now page.0 log.changes (changes.Torn page) (eq-eqb page.0 page.0 refl)

sweeps_good : (page : PageNo) (old new : Group.Group) → old.write ≡ None → Group.Sweeps page old new → TornParts page old.log old.slots old.files → Good new
sweeps_good page old new closed (inl is) so = subst Good (sym is)
    (subst (λ write. Parts (told_more (changes.Torn page) old.log) write
    (writer_retired (old.files ++ record { page = page; home = None } ∷ []) (changed_at (seen_by (volume.removed page.0)) (writer_of old.slots) old.slots))
    (old.files ++ record { page = page; home = None } ∷ [])) (sym closed) (gone_parts page old.log old.slots old.files so))
sweeps_good page old new closed (inr stays) so = subst Good (sym stays.is)
    (subst (λ write. Parts (told_more (changes.Torn page) old.log) write
    (writer_retired (old.files ++ record { page = page; home = Some (writer_of old.slots) } ∷ [])
    (changed_at (seen_by (with_count stays.count)) (writer_of old.slots) old.slots)) (old.files ++ record { page = page; home = Some (writer_of old.slots) }
    ∷ [])) (sym closed) (left_parts page stays.count old.log old.slots old.files so))

-- what is told of an open write
fresh_of : (write : OpenWrite) (files : List Filed) (log : Option Log) → IfSome log (λ (log : Log). Logged (Some write) files log.changes) → New write.page log
fresh_of write files None so = tt
fresh_of write files (Some log) so = so.fresh

pub closed_good : (group : Group.Group) → group.write ≡ None → Good group → Parts group.log None group.slots group.files
closed_good group closed good = subst (λ write. Parts group.log write group.slots group.files) closed good

pub begins_good : (page : PageNo) (len : ℕ) (old : Group.Group) (result : Result (Unit {0}) PutFault) (new : Group.Group) → Good old → old.write ≡ None
    → New page old.log → Group.Begins page len old result new → Good new
begins_good page len old (Ok done) new good closed is_new is = subst Good (sym is)
    (begun_parts page len old.log old.slots old.files is_new (closed_good old closed good))
begins_good page len old (Err faults.Failed) new good closed is_new tears = sweeps_good page (Group.forgotten page.0 (Group.failed page tears.count old)) new
    refl tears.sweeps
    (cleared_parts page tears.count old.log old.slots old.files is_new (closed_good old closed good))
begins_good page len old (Err faults.NoMemory) new good closed is_new is = subst Good (sym is) good

abbrev OpenGood : Group.Group → Option OpenWrite → Type 0
OpenGood group write = Parts group.log write group.slots group.files

tears_good : (write : OpenWrite) (old new : Group.Group) → OpenGood old (Some write) → Group.Tears write.page (λ group. group) old new → Good new
tears_good write old new good tears = sweeps_good write.page (Group.failed write.page tears.count old) new refl tears.sweeps
    (failed_parts write.page tears.count old.log (Some write) old.slots old.files (fresh_of write old.files old.log good.logged) good.unfiled good)

pub appends_good : (bytes : List ℕ) (old : Group.Group) (result : Result (Unit {0}) Failed) (new : Group.Group) → Good old → Group.Appends bytes old result new
    → Good new
appends_good bytes old (Ok done) new good is = subst Good (sym is) (longer_parts bytes old.log old.write old.slots old.files good)
appends_good bytes old (Err failed) new good is = by old.write good is
  where
    by : (write : Option OpenWrite) → OpenGood old write → IsSomeAnd write (λ write. Group.Tears write.page (λ group. group) old new) → Good new
    by None good tears = absurd tears
    by (Some write) good tears = tears_good write old new good tears

pub seals_good : (old : Group.Group) (result : Result (Unit {0}) Failed) (new : Group.Group) → Good old → Group.Seals old result new → Good new
seals_good old (Ok done) new good is = by old.write good is
  where
    by : (write : Option OpenWrite) → OpenGood old write → IsSomeAnd write (λ write. new ≡ Group.put write.page old) → Good new
    by None good is = absurd is
    by (Some write) good is = subst Good (sym is) (put_parts write old.log old.slots old.files good)
seals_good old (Err failed) new good is = by old.write good is
  where
    by : (write : Option OpenWrite) → OpenGood old write → IsSomeAnd write (λ write. Group.Tears write.page (λ group. group) old new) → Good new
    by None good tears = absurd tears
    by (Some write) good tears = tears_good write old new good tears

-- a count rose
counts_parts : (count k : ℕ) (log : Option Log) (slots : List Slot) (files : List Filed) → Parts log None slots files
    → Parts log None (changed_at (seen_by (with_count count)) k slots) files
counts_parts count k log slots files so = record {
  placed = Keeping.placed_seen (with_count count) k slots files so.placed;
  apart = so.apart;
  unfiled = tt;
  logged = so.logged;
  holds = Holding.holds_count log count k slots files so.holds;
}

reopened : (log : Option Log) (write : Option OpenWrite) (slots : List Slot) (files : List Filed) → write ≡ None → Parts log None slots files
    → Parts log write slots files
reopened log write slots files closed so = subst (λ write. Parts log write slots files) (sym closed) so

counts_good : (k : ℕ) (old new : Group.Group) → old.write ≡ None → Group.Counts k old new → Good old → Good new
counts_good k old new closed counts good = subst Good (sym counts.is)
    (reopened old.log old.write (changed_at (seen_by (with_count counts.count)) k old.slots) old.files closed
    (counts_parts counts.count k old.log old.slots old.files (closed_good old closed good)))

pub gets_good : (page off : ℕ) (old : Group.Group) (result : Result (Unit {0}) Failed) (out : List ℕ) (new : Group.Group) → Good old → old.write ≡ None
    → Group.Gets page off old result out new → Good new
gets_good page off old (Ok done) out new good closed is = subst Good (sym is.0) good
gets_good page off old (Err failed) out new good closed counts = counts_good (Group.asked_at page old) old new closed counts good

-- a file goes or is left
less_logged : (page : PageNo) (change : Change) (log : Option Log) (files : List Filed) → removes page.0 change ≡ true
    → ((other : ℕ) → writes other change ≡ false) → ((other : ℕ) → put_by other change ≡ None)
    → IfSome log (λ (log : Log). Logged None files log.changes) → IfSome (told_more change log) (λ (log : Log). Logged None (unfiled page.0 files) log.changes)
less_logged page change None files removed unwritten none so = tt
less_logged page change (Some log) files removed unwritten none so = Keeping.logged_less page change None files log.changes removed unwritten none so

-- a change of a file's removal, good or not
record IsRemoval (page : PageNo) (change : Change) : Type 0 where
  removed : removes page.0 change ≡ true
  unwritten : (other : ℕ) → writes other change ≡ false
  none : (other : ℕ) → put_by other change ≡ None

is_remove : (page : PageNo) → IsRemoval page (changes.Remove page)
is_remove page = record { removed = eq-eqb page.0 page.0 refl; unwritten = λ other. refl; none = λ other. refl }

is_left : (page : PageNo) → IsRemoval page (changes.Left page)
is_left page = record { removed = eq-eqb page.0 page.0 refl; unwritten = λ other. refl; none = λ other. refl }

less_parts : (page : PageNo) (home : Option ℕ) (change : Change) (log : Option Log) (slots : List Slot) (files : List Filed) → IsRemoval page change
    → place_of page.0 files ≡ home → Apart files
    → IfSome log (λ (log : Log). Logged None files log.changes) → Placed slots files → Holds log None slots (unfiled page.0 files)
    → Parts (told_more change log) None (let_go (unfiled page.0 files) home slots) (unfiled page.0 files)
less_parts page home change log slots files removal is apart logged placed holds = record {
  placed = Keeping.placed_unfiled page.0 slots files home is apart placed;
  apart = apart_unfiled page.0 files apart;
  unfiled = tt;
  logged = less_logged page change log files removal.removed removal.unwritten removal.none logged;
  holds = Holding.holds_told change removal.none log (let_go (unfiled page.0 files) home slots) (unfiled page.0 files)
      (Holding.holds_let_go log None slots (unfiled page.0 files) home holds);
}

pub removes_good : (page : PageNo) (old : Group.Group) (result : Result (Unit {0}) Failed) (new : Group.Group) → Good old → old.write ≡ None
    → Group.Removes page old result new → Good new
removes_good page old result new good closed act = by (home_of page.0 old.files) refl result act
  where
    base : Parts old.log None old.slots old.files
    base = closed_good old closed good

    less : Holds old.log None old.slots (unfiled page.0 old.files)
    less = Holding.holds_unfiled page.0 old.log None old.slots old.files base.holds

    by : (home : Option (Option ℕ)) → home_of page.0 old.files ≡ home → (result : Result (Unit {0}) Failed) → Group.RemovesFrom page old home result new
        → Good new
    by (Some (Some k)) is (Ok done) act = subst Good (sym act)
        (reopened (told_more (changes.Remove page) old.log) old.write
        (settled_at (unfiled page.0 old.files) k (changed_at (seen_by (volume.removed page.0)) k old.slots)) (unfiled page.0 old.files) closed
        (less_parts page (Some k) (changes.Remove page) old.log (changed_at (seen_by (volume.removed page.0)) k old.slots) old.files (is_remove page)
        (ap (λ home. option_and_then (λ home. home) home) is) base.apart base.logged
        (Keeping.placed_seen (volume.removed page.0) k old.slots old.files base.placed)
        (Holding.holds_removed old.log page.0 k old.slots (unfiled page.0 old.files) (unfiled_other page.0 old.files) less)))
    by (Some (Some k)) is (Err failed) leaves = subst Good (sym leaves.is)
        (reopened (told_more (changes.Left page) old.log) old.write
        (settled_at (unfiled page.0 old.files) k (changed_at (seen_by (with_count leaves.count)) k old.slots)) (unfiled page.0 old.files) closed
        (less_parts page (Some k) (changes.Left page) old.log (changed_at (seen_by (with_count leaves.count)) k old.slots) old.files (is_left page)
        (ap (λ home. option_and_then (λ home. home) home) is) base.apart base.logged
        (Keeping.placed_seen (with_count leaves.count) k old.slots old.files base.placed)
        (Holding.holds_count old.log leaves.count k old.slots (unfiled page.0 old.files) less)))
    by (Some None) is (Ok done) act = subst Good (sym act)
        (reopened (told_more (changes.Remove page) old.log) old.write old.slots (unfiled page.0 old.files) closed
        (less_parts page None (changes.Remove page) old.log old.slots old.files (is_remove page) (ap (λ home. option_and_then (λ home. home) home) is)
        base.apart base.logged base.placed less))
    by (Some None) is (Err failed) act = absurd act
    by None is (Ok done) act = subst Good (sym act)
        (reopened old.log old.write (changed_at (seen_by (volume.removed page.0)) (writer_of old.slots) old.slots) old.files closed (record {
          placed = Keeping.placed_seen (volume.removed page.0) (writer_of old.slots) old.slots old.files base.placed;
          apart = base.apart;
          unfiled = tt;
          logged = base.logged;
          holds = Holding.holds_removed old.log page.0 (writer_of old.slots) old.slots old.files (none_other page.0 old.files is) base.holds;
        }))
    by None is (Err failed) counts = counts_good (writer_of old.slots) old new closed counts good
