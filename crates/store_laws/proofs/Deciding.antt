-- The status of a blob at its line and its plan are what the parts of a store tell.
use Rattle.std.proofs.Common.{◌≡◌, ℕ, ◌+◌, ◌-◌, ◌==◌, ◌&&◌, ◌||◌, Bool, true, false, not, List, [], ◌∷◌, length, refl, ap, ◌∙◌, Option, Some, None}
use Rattle.std.specs.Prelude.{◌^◌, is_none, is_some, nat_le, nat_lt, option_and_then, slice_get, if◌then◌else◌}
use Rattle.std.specs.Option.{option_map, option_map_or}
use Rattle.std.specs.List.{list_any, AllByRecursion}
use Rattle.std.proofs.lemmas.Bool.{ltb-true, or_parts}
use Rattle.std.proofs.lemmas.List.{length-map}
use Rattle.blob_words.specs.declared.status.Status.{Status}
use Rattle.blob_words.specs.declared.status.Status.TheVariants as statuses
use Rattle.session_script.specs.declared.event.Part.{Part}
use Rattle.session_script.specs.declared.event.Part.TheVariants.{Embedded, Asked, FileRange, BlobRange, HandleRange}
use Rattle.answer_text.specs.declared.refusal.Refusal.TheVariants as refusals
use Rattle.transport_plan.specs.Plan.{plan_of}
use Rattle.transport_plan.specs.Spans.{piece_count}
use Rattle.renderer_table.specs.Table.{count_of}
use Rattle.blob_words.specs.declared.plan.Plan.{Plan}
use Rattle.blob_entries.specs.Book.{entry_of}
use Rattle.blob_entries.specs.Statuses.{is_broken}
use Rattle.blob_entries.specs.declared.entry.Entry.{Entry}
use Rattle.data_handles.specs.Handles.{Handle}
use Rattle.data_handles.specs.Table.{Slot as TableSlot, Table as HandleTable, slot_at}
use Rattle.file_table.specs.Files.{note_of, recorded as noted_state}
use Rattle.file_table.specs.declared.file_note.FileNote.{FileNote}
use Rattle.page_disk.specs.declared.change.Change.{Change}
use Rattle.blob_model.specs.Builds.{Build, builds, size_in}
use Rattle.blob_model.specs.Choice.{first_that}
use Rattle.blob_model.specs.Construct.{is_invalid, is_lost_source, is_out_of_memory, is_unrecorded, line_status, plan_for, plan_input, slot_size}
use Rattle.blob_model.specs.Handles.{has_handle}
use Rattle.blob_model.specs.History.{History}
use Rattle.blob_model.specs.Parts.{claims, embedded, own_bytes, own_lengths, parts_length, sources}
use Rattle.blob_model.specs.Recorded.{FileState}
use Rattle.blob_model.specs.Refusals.{claimed, is_in, slot_refusals}
use Rattle.blob_model.specs.Session.{Session, Slot, page_limit}
use Rattle.blob_model.specs.Standing.{is_broken as is_broken_now}
use Rattle.blob_model.specs.Waits.{waits}
use Rattle.blob_model.proofs.Lists.{any_same}
use Rattle.model_bridges.specs.Bridges.{state_as}
use Rattle.store_laws.specs.Deciding.{free_size, holds, input_in, is_broken_under, is_invalid_in, is_lost_in, is_passed, is_unrecorded_in, line_status_in, plan_in}
use Rattle.store_laws.specs.DecidingLaws.{AreHeldThere}
use Rattle.store_laws.specs.Items.{holds_slot}
use Rattle.store_laws.specs.Outlines.{Outline}
use Rattle.store_laws.specs.Stands.{Between, Parts, Reaches}
use Rattle.store_laws.specs.Tables.{seen_as, slot_now, slot_seen}
use Rattle.store_laws.proofs.Paired.{broken_now}
use Rattle.store_laws.proofs.Telling.{built, size_told}

-- ---- objects in slots

-- none of these slots is claimed by a blob
abbrev pub AreUnclaimed : Session → History → List ℕ → Type 0
AreUnclaimed s h slots = AllByRecursion (λ (k : ℕ). is_in k (claimed s h) ≡ false) slots

-- slots that no refusal names are claimed by no blob
module _ (s : Session) (base : List ℕ) where
  pub slots_free : (taken slots : List ℕ) → ((k : ℕ) → is_in k taken ≡ false → is_in k base ≡ false) → first_that (slot_refusals s taken slots) ≡ None
      → AllByRecursion (λ (k : ℕ). is_in k base ≡ false) slots
  slots_free taken [] below silent = tt
  slots_free taken (slot ∷ slots) below silent =
      by (nat_le (length s.outside.slots) slot) (is_in slot taken) refl silent
      (slots_free (slot ∷ taken) slots (λ k free. below k (or_parts (slot == k) (is_in k taken) free).1))
    where
      by : (past held : Bool) → is_in slot taken ≡ held
          → first_that ((past, refusals.NoSuchHandle slot) ∷ (held, refusals.HandleTaken slot) ∷ slot_refusals s (slot ∷ taken) slots) ≡ None
          → (first_that (slot_refusals s (slot ∷ taken) slots) ≡ None → AllByRecursion (λ (k : ℕ). is_in k base ≡ false) slots)
          → AllByRecursion (λ (k : ℕ). is_in k base ≡ false) (slot ∷ slots)
      by true held at none rest = absurd (cc none)
      by false true at none rest = absurd (cc none)
      by false false at none rest = (below slot at, rest none)

-- what is seen of a slot: whether it is claimed, and its object's size and bytes
abbrev pub Seen : Type 0
Seen = Bool × Option (ℕ × Option (List ℕ))

-- the size that a slot's object has while nobody claimed it
size_by : Option TableSlot → ℕ
size_by slot =
    if option_map_or (λ (one : TableSlot). one.is_claimed) slot false then 0
    else option_map_or (λ (handle : Handle). handle.size) (option_and_then (λ (one : TableSlot). one.object) slot) 0

free_sizes : (slot : Option TableSlot) (held : Bool) (found : Option Slot) → slot_seen slot ≡ slot_now false held found
    → size_by slot ≡ option_map_or (λ (object : Slot). object.size) found 0
unfolding size_by
free_sizes None held None e = refl
free_sizes None held (Some object) e = absurd (cc e)
free_sizes (Some one) held None e = absurd (cc e)
free_sizes (Some one) held (Some object) e = by one.is_claimed one.object e
  where
    by : (b : Bool) (inside : Option Handle)
        → ◌≡◌ {A = Option Seen} (Some (b, option_map seen_as inside)) (Some (false, Some (object.size, object.bytes)))
        → (if b then 0 else option_map_or (λ (handle : Handle). handle.size) inside 0) ≡ object.size
    by true inside f =
        let same : true ≡ false = ap (λ (seen : Option Seen). option_map_or (λ (each : Seen). each.0) seen false) f in absurd (cc same)
    by false inside f = sized inside (ap (λ (seen : Option Seen). option_and_then (λ (each : Seen). each.1) seen) f)
      where
        sized : (inside : Option Handle) → option_map seen_as inside ≡ Some (object.size, object.bytes)
            → option_map_or (λ (handle : Handle). handle.size) inside 0 ≡ object.size
        sized None g = absurd (cc g)
        sized (Some handle) g =
            ap (λ (seen : Option (ℕ × Option (List ℕ))). option_map_or (λ (each : ℕ × Option (List ℕ)). each.0) seen 0) g

-- ---- the tests of a line

abbrev tests : List Part → Bool → Bool → Bool → Bool → Option Status
tests line invalid lost unrecorded full =
    first_that ((invalid || nat_lt (2 ^ 62) (parts_length line), statuses.InvalidArguments)
    ∷ (lost, statuses.ReferencedBlobBroken)
    ∷ (unrecorded, statuses.ReferencedFileUnavailable)
    ∷ (full, statuses.OutOfMemory)
    ∷ [])

-- ---- parts one by one

module _ (s : Session) (h : History) (stands : ℕ → Bool) (parts : Parts) (told : Option (List Change)) (table : HandleTable)
    (between : Between s h stands parts told table) where
  pub holds_known : (renderer b : ℕ) → holds parts renderer b ≡ has_handle h renderer b
  holds_known renderer b = ap (nat_lt 0) (between.tables.renderers.counts renderer b)

  pub size_known : (k : ℕ) → is_in k (claimed s h) ≡ false → free_size table k ≡ slot_size s.outside k
  unfolding size_by
  size_known k free =
      free_sizes (slot_at table k) (holds_slot parts.shares k) (slice_get s.outside.slots k)
      (between.handles k ∙ ap (λ (b : Bool). slot_now b (holds_slot parts.shares k) (slice_get s.outside.slots k)) free)

  unrecorded_known : (part : Part) → is_unrecorded_in parts part ≡ is_unrecorded h part
  unrecorded_known (FileRange name off len stamp) =
      by (note_of name parts.files) ∙ ap (λ (state : Option FileState). is_none state) (between.tables.files_stand.states name)
    where
      mapped : {X Y Z : Type 0} (f : X → Y) (g : X → Z) (found : Option X) → is_none (option_map f found) ≡ is_none (option_map g found)
      mapped f g None = refl
      mapped f g (Some x) = refl

      by : (found : Option FileNote) → is_none (option_and_then noted_state found) ≡ is_none (option_and_then state_as found)
      by None = refl
      by (Some note) =
          mapped (λ (bytes : List ℕ). record { stamp = note.last; len = length bytes })
          (λ (bytes : List ℕ). record { stamp = note.last; bytes = bytes }) note.bytes
  unrecorded_known (Embedded bytes) = refl
  unrecorded_known (Asked len) = refl
  unrecorded_known (BlobRange b off len) = refl
  unrecorded_known (HandleRange k off len) = refl

  -- an entry is broken where its blob is
  broken_known : (b : ℕ) (entry : Entry) → entry_of parts.book b ≡ Some entry → is_broken entry.status ≡ is_broken_now h b
  broken_known b entry at =
      let is = built s h stands parts told table between b entry at in
      ap (λ (o : Outline). is_broken o.status) is.outline_is ∙ broken_now s h is.build ∙ ap (is_broken_now h) is.same_name

  module _ (there : AreHeldThere parts) (renderer : ℕ) where
    -- by whether the renderer holds a blob: it doesn't, or it stands
    by_hold : (b : ℕ) (P : Bool → Option Entry → Type 0) → ((found : Option Entry) → P false found)
        → ((entry : Entry) → entry_of parts.book b ≡ Some entry → P true (Some entry)) → P (holds parts renderer b) (entry_of parts.book b)
    by_hold b P without within = go (holds parts renderer b) refl (entry_of parts.book b) refl
      where
        go : (held : Bool) → holds parts renderer b ≡ held → (found : Option Entry) → entry_of parts.book b ≡ found → P held found
        go false at found is = without found
        go true at (Some entry) is = within entry is
        go true at None is =
            let has = there renderer b (ltb-true 0 (count_of renderer b parts.renderers) at) in
            absurd (cc (has, ap is_some is))

    lost_known : (b : ℕ) → (not (holds parts renderer b) || is_broken_under parts.book b) ≡ is_lost_source h renderer b
    lost_known b =
        by_hold b (λ held found. (not held || option_map_or (λ (entry : Entry). is_broken entry.status) found false) ≡ (not held || is_broken_now h b))
        (λ found. refl) (λ entry at. broken_known b entry at)
        ∙ ap (λ (held : Bool). not held || is_broken_now h b) (holds_known renderer b)

    passed_known : (b end : ℕ) → (holds parts renderer b && is_passed parts.book b end)
        ≡ (has_handle h renderer b && not (is_broken_now h b) && nat_lt (size_in (builds (page_limit s) h) b) end)
    passed_known b end =
        by_hold b (λ held found.
        (held && option_map_or (λ (entry : Entry). not (is_broken entry.status) && nat_lt entry.size end) found false)
        ≡ (held && not (is_broken_now h b) && nat_lt (size_in (builds (page_limit s) h) b) end))
        (λ found. refl)
        (λ entry at.
        ap (λ (bit : Bool). not bit && nat_lt entry.size end) (broken_known b entry at)
        ∙ ap (λ (n : ℕ). not (is_broken_now h b) && nat_lt n end) (size_told s h stands parts told table between b entry at))
        ∙ ap (λ (held : Bool). held && not (is_broken_now h b) && nat_lt (size_in (builds (page_limit s) h) b) end) (holds_known renderer b)

    -- ---- all parts

    invalid_known : (name : ℕ) (line : List Part) → AreUnclaimed s h (claims line)
        → list_any (is_invalid_in parts table renderer name) line ≡ list_any (is_invalid s h renderer name) line
    invalid_known name [] free = refl
    invalid_known name (BlobRange b off len ∷ line) free =
        ap (λ (bit : Bool). ((b == name) || bit) || list_any (is_invalid_in parts table renderer name) line) (passed_known b (off + len))
        ∙ ap (λ (bit : Bool). is_invalid s h renderer name (BlobRange b off len) || bit) (invalid_known name line free)
    invalid_known name (HandleRange k off len ∷ line) free =
        ap (λ (size : ℕ). nat_lt size (off + len) || list_any (is_invalid_in parts table renderer name) line) (size_known k free.0)
        ∙ ap (λ (bit : Bool). is_invalid s h renderer name (HandleRange k off len) || bit) (invalid_known name line free.1)
    invalid_known name (Embedded bytes ∷ line) free = invalid_known name line free
    invalid_known name (Asked len ∷ line) free = invalid_known name line free
    invalid_known name (FileRange file off len stamp ∷ line) free = invalid_known name line free

    sources_known : (line : List Part) → list_any (is_lost_in parts renderer) line ≡ list_any (is_lost_source h renderer) (sources line)
    sources_known [] = refl
    sources_known (BlobRange b off len ∷ line) =
        ap (λ (bit : Bool). bit || list_any (is_lost_in parts renderer) line) (lost_known b)
        ∙ ap (λ (bit : Bool). is_lost_source h renderer b || bit) (sources_known line)
    sources_known (Embedded bytes ∷ line) = sources_known line
    sources_known (Asked len ∷ line) = sources_known line
    sources_known (FileRange file off len stamp ∷ line) = sources_known line
    sources_known (HandleRange k off len ∷ line) = sources_known line

  files_known : (line : List Part) → list_any (is_unrecorded_in parts) line ≡ list_any (is_unrecorded h) line
  files_known line = any_same (is_unrecorded_in parts) (is_unrecorded h) line unrecorded_known

  -- ---- the plan and the status

  module _ (reaches : Reaches s h parts.shares parts.rows parts.quota parts.pages) where
    pub input_known : (line : List Part) → input_in parts line ≡ plan_input s h line
    input_known line =
        let waiting : length parts.quota.waiting ≡ length (waits (page_limit s) h) =
        ap (λ (list : List (ℕ × ℕ)). length list) between.contents.waiting
        ∙ length-map (waits (page_limit s) h) (λ (build : Build). (build.name, own_bytes build.parts)) in
        λ i. record {
          embedded = length (embedded line);
          asked = own_bytes line - length (embedded line);
          pieces = piece_count (between.same_limits i).page (own_lengths line);
          waiting = nat_lt 0 (waiting i);
          paging = between.contents.page_files_stand.same_paging i;
          memory_used = reaches.used i;
          disk_used = reaches.charged i;
          limits = between.same_limits i;
        }

    pub plan_known : (line : List Part) → plan_in parts line ≡ plan_for s h line
    plan_known line = ap plan_of (input_known line)

    pub status_known : AreHeldThere parts → (renderer name : ℕ) (line : List Part) → AreUnclaimed s h (claims line)
        → line_status_in parts table renderer name line ≡ line_status s h renderer name line
    status_known there renderer name line free =
        ap (λ (bit : Bool).
        tests line bit (list_any (is_lost_in parts renderer) line) (list_any (is_unrecorded_in parts) line) (is_out_of_memory (plan_in parts line)))
        (invalid_known there renderer name line free)
        ∙ ap (λ (bit : Bool).
        tests line (list_any (is_invalid s h renderer name) line) bit (list_any (is_unrecorded_in parts) line) (is_out_of_memory (plan_in parts line)))
        (sources_known there renderer line)
        ∙ ap (λ (bit : Bool).
        tests line (list_any (is_invalid s h renderer name) line) (list_any (is_lost_source h renderer) (sources line)) bit
        (is_out_of_memory (plan_in parts line)))
        (files_known line)
        ∙ ap (λ (plan : Plan).
        tests line (list_any (is_invalid s h renderer name) line) (list_any (is_lost_source h renderer) (sources line)) (list_any (is_unrecorded h) line)
        (is_out_of_memory plan)) (plan_known line)
