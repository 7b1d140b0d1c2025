-- An open reader's range ends within its blob, or is empty.
use Rattle.std.proofs.Common.{◌≡◌, ◌⊎◌, ℕ, ◌+◌, ◌≤◌, ◌==◌, Bool, true, false, ◌&&◌, not, List, [], ◌∷◌, ◌++◌, map, length, refl, ap, sym, ◌∙◌, inl, inr, arith, Option, Some, None}
use Rattle.std.specs.Prelude.{filter, is_some, nat_lt, unwrap_or, bytes_eq, if◌then◌else◌}
use Rattle.std.specs.Option.{option_map_or}
use Rattle.std.specs.List.{AllByRecursion}
use Rattle.std.proofs.lemmas.Bool.{ltb-false}
use Rattle.blob_words.specs.declared.number.ReaderId.{ReaderId}
use Rattle.session_script.specs.declared.event.Event.{Event}
use Rattle.session_script.specs.declared.event.Event.TheVariants as events
use Rattle.answer_text.specs.declared.answer.Answer.{Answer}
use Rattle.answer_text.specs.declared.answer.Answer.TheVariants as answers
use Rattle.answer_text.specs.declared.refusal.Refusal.{Refusal}
use Rattle.blob_model.specs.Session.{Session, page_limit}
use Rattle.blob_model.specs.History.{History, start, heard, refused, said}
use Rattle.blob_model.specs.Builds.{Build, builds, build_in, size, size_in}
use Rattle.blob_model.specs.Standing.{is_broken}
use Rattle.blob_model.specs.Handles.{has_handle}
use Rattle.blob_model.specs.Entries.{Entry, entries, resolved}
use Rattle.blob_model.specs.Readers.{OpenReader, readers, opened, fetched, range_end, advanced}
use Rattle.blob_model.specs.Refusals.{fetch_refusals}
use Rattle.blob_model.specs.Order.{named}
use Rattle.blob_model.proofs.Lists.{false_true, all_more, any_append_first, filter_all, for_each, found_all, not_false}
use Rattle.blob_model.proofs.kept.NewBlobs.{tests_fail, found_named}
use Rattle.blob_model.proofs.legal.Steps.{kept_caused}
use Rattle.blob_model.proofs.legal.Causes.{IsHeard, IsCaused}
use Rattle.blob_model.proofs.bytes.Arrivals.{Grown, grown_heard, grown_said, built_grown}

-- ---- entries name built blobs

abbrev pub EntryBuilt : Session → History → Entry → Type 0
EntryBuilt s h entry = named entry.blob (builds (page_limit s) h) ≡ true

-- names that were built stay so
pub named_grown : (s : Session) (h g : History) (name : ℕ) → Grown s h g → named name (builds (page_limit s) h) ≡ true → named name (builds (page_limit s) g)
    ≡ true
named_grown s h g name grown e = ap (named name) grown.blobs ∙ any_append_first (λ (build : Build). build.name == name) (builds (page_limit s) h) grown.more e

entries_grown : (s : Session) (h g : History) (list : List Entry) → Grown s h g → AllByRecursion (EntryBuilt s h) list → AllByRecursion (EntryBuilt s g) list
entries_grown s h g list grown all = for_each (EntryBuilt s h) (EntryBuilt s g) list (λ entry e. named_grown s h g entry.blob grown e) all

-- who has a handle on it built it
held_built : (s : Session) (h : History) (renderer b : ℕ) → IsCaused s h → not (has_handle h renderer b) ≡ false → named b (builds (page_limit s) h) ≡ true
held_built s h renderer b caused e = (kept_caused s h caused).held renderer b (not_false (has_handle h renderer b) e)

entries_heard : (s : Session) (h : History) (event : Event) (answer : Answer) → IsHeard s h event answer → IsCaused s h → AllByRecursion (EntryBuilt s h)
    (entries h) → AllByRecursion (EntryBuilt s h) (entries (heard h event answer))
entries_heard s h (events.Url renderer b text) answer line caused all =
    all_more (EntryBuilt s h) (entries h) (record { text = text; blob = b; owner = renderer.0 }) all
    (held_built s h renderer.0 b caused (tests_fail s h (events.Url renderer b text) line.passes).1.0)
entries_heard s h (events.Revoke renderer text) answers.Revoked line caused all =
    filter_all (EntryBuilt s h) (λ (entry : Entry). not (bytes_eq entry.text text)) (entries h) all
entries_heard s h (events.Die renderer) answer line caused all = filter_all (EntryBuilt s h) (λ (entry : Entry). not (entry.owner == renderer.0)) (entries h)
    all
entries_heard s h events.Finish answer line caused all = tt
entries_heard s h event answer line caused all = all

pub entries_built : (s : Session) (h : History) → IsCaused s h → AllByRecursion (EntryBuilt s h) (entries h)
entries_built s start caused = tt
entries_built s (heard h event answer) caused =
    entries_grown s h (heard h event answer) (entries (heard h event answer)) (grown_heard s h event answer)
    (entries_heard s h event answer caused.0 caused.1 (entries_built s h caused.1))
entries_built s (refused h event why) caused = for_each (EntryBuilt s h) (EntryBuilt s (refused h event why)) (entries h) (λ entry e. e)
    (entries_built s h caused.2)
entries_built s (said h answer) caused = entries_grown s h (said h answer) (entries h) (grown_said s h answer) (entries_built s h caused.1)

-- ---- ranges

-- the blob is there, and the range ends within its size, or is empty
pub record InBlob (s : Session) (h : History) (reader : OpenReader) : Type 0 where
  pub build : Build
  pub found : build_in (builds (page_limit s) h) reader.blob ≡ Some build
  pub within : (reader.end ≤ size build) ⊎ (reader.end ≤ reader.place)

in_grown : (s : Session) (h g : History) (list : List OpenReader) → Grown s h g → AllByRecursion (InBlob s h) list → AllByRecursion (InBlob s g) list
in_grown s h g list grown all = for_each (InBlob s h) (InBlob s g) list
    (λ reader one. record { build = one.build; found = built_grown s h g reader.blob one.build grown one.found; within = one.within }) all

-- a reader that is opened
opens_in : (s : Session) (h : History) (owner number b off : ℕ) (len : Option ℕ) → named b (builds (page_limit s) h) ≡ true
    → (not (is_broken h b) && nat_lt (size_in (builds (page_limit s) h) b) (off + unwrap_or len 0)) ≡ false
    → InBlob s h (opened (page_limit s) h owner number b off len)
opens_in s h owner number b off len there test = go (build_in (builds (page_limit s) h) b) refl
  where
    some : (found : Option Build) → build_in (builds (page_limit s) h) b ≡ found → found ≡ None → ⊥
    some found at none = false_true (sym (sym (found_named (builds (page_limit s) h) b) ∙ ap (λ (o : Option Build). is_some o) (at ∙ none)) ∙ there)

    range : (build : Build) → build_in (builds (page_limit s) h) b ≡ Some build → (c : Bool)
        → (not c && nat_lt (size_in (builds (page_limit s) h) b) (off + unwrap_or len 0)) ≡ false
        → ((if c then off else range_end (size_in (builds (page_limit s) h) b) off len) ≤ size build)
        ⊎ ((if c then off else range_end (size_in (builds (page_limit s) h) b) off len) ≤ off)
    range build at true e = inr (omega arith)
    range build at false e =
        let low = ltb-false (size_in (builds (page_limit s) h) b) (off + unwrap_or len 0) e in
        let same : size_in (builds (page_limit s) h) b ≡ size build = ap (λ (o : Option Build). option_map_or size o 0) at in
        inl (by_len len low same)
      where
        by_len : (l : Option ℕ) → off + unwrap_or l 0 ≤ size_in (builds (page_limit s) h) b → size_in (builds (page_limit s) h) b ≡ size build
            → range_end (size_in (builds (page_limit s) h) b) off l ≤ size build
        by_len None low same = omega (arith, same)
        by_len (Some n) low same = omega (arith, low, same)

    go : (found : Option Build) → build_in (builds (page_limit s) h) b ≡ found → InBlob s h (opened (page_limit s) h owner number b off len)
    go None at = absurd (some None at refl)
    go (Some build) at = record { build = build; found = at; within = range build at (is_broken h b) test }

fetch_in : (s : Session) (h : History) (owner : ℕ) (reader : ReaderId) (found : Option Entry) (off : ℕ) (len : Option ℕ)
    → AllByRecursion (λ (case : Bool × Refusal). case.0 ≡ false) (fetch_refusals s h reader found off len)
    → ((entry : Entry) → found ≡ Some entry → named entry.blob (builds (page_limit s) h) ≡ true) → AllByRecursion (InBlob s h) (readers (page_limit s) h)
    → AllByRecursion (InBlob s h) (readers (page_limit s) h ++ fetched (page_limit s) h owner reader.0 found off len)
fetch_in s h owner reader None off len tests built all = absurd (false_true (sym tests.0))
fetch_in s h owner reader (Some entry) off len tests built all =
    all_more (InBlob s h) (readers (page_limit s) h) (opened (page_limit s) h owner reader.0 entry.blob off len) all
    (opens_in s h owner reader.0 entry.blob off len (built entry refl) tests.1.0)

moved_on : (s : Session) (h : History) (number count : ℕ) (reader : OpenReader) → InBlob s h reader → InBlob s h (advanced number count reader)
moved_on s h number count reader one = go (reader.number == number)
  where
    later : (reader.end ≤ size one.build) ⊎ (reader.end ≤ reader.place) → (reader.end ≤ size one.build) ⊎ (reader.end ≤ reader.place + count)
    later (inl low) = inl low
    later (inr low) = inr (omega (arith, low))

    go : (b : Bool) → InBlob s h (if b then record reader { place = reader.place + count } else reader)
    go true = record { build = one.build; found = one.found; within = later one.within }
    go false = one

all_moved : (s : Session) (h : History) (number count : ℕ) (list : List OpenReader) → AllByRecursion (InBlob s h) list → AllByRecursion (InBlob s h)
    (map (advanced number count) list)
all_moved s h number count [] all = tt
all_moved s h number count (reader ∷ list) all = (moved_on s h number count reader all.0, all_moved s h number count list all.1)

closed_in : (s : Session) (h : History) (number : ℕ) → AllByRecursion (InBlob s h) (readers (page_limit s) h) → AllByRecursion (InBlob s h)
    (filter (λ (reader : OpenReader). not (reader.number == number)) (readers (page_limit s) h))
closed_in s h number all = filter_all (InBlob s h) (λ (reader : OpenReader). not (reader.number == number)) (readers (page_limit s) h) all

readers_heard : (s : Session) (h : History) (event : Event) (answer : Answer) → IsHeard s h event answer → IsCaused s h → AllByRecursion (InBlob s h)
    (readers (page_limit s) h) → AllByRecursion (InBlob s h) (readers (page_limit s) (heard h event answer))
readers_heard s h (events.Read renderer reader b off len) answer line caused all =
    let tests = tests_fail s h (events.Read renderer reader b off len) line.passes in
    all_more (InBlob s h) (readers (page_limit s) h) (opened (page_limit s) h renderer.0 reader.0 b off len) all
    (opens_in s h renderer.0 reader.0 b off len (held_built s h renderer.0 b caused tests.1.0) tests.1.1.1.0)
readers_heard s h (events.Fetch renderer reader text off len) answer line caused all =
    fetch_in s h renderer.0 reader (resolved h renderer.0 text) off len (tests_fail s h (events.Fetch renderer reader text off len) line.passes).1
    (λ entry found. found_all (EntryBuilt s h) _ (entries h) entry (entries_built s h caused) found) all
readers_heard s h (events.Step reader) (answers.Given number bytes) line caused all = all_moved s h reader.0 (length bytes) (readers (page_limit s) h) all
readers_heard s h (events.Step reader) (answers.Ended number status) line caused all = closed_in s h reader.0 all
readers_heard s h (events.Step reader) (answers.FileChanged number name) line caused all = closed_in s h reader.0 all
readers_heard s h (events.Step reader) (answers.PageFault number file) line caused all = closed_in s h reader.0 all
readers_heard s h (events.Step reader) (answers.HandleFailed number slot) line caused all = closed_in s h reader.0 all
readers_heard s h (events.Cancel renderer reader) answer line caused all = closed_in s h reader.0 all
readers_heard s h (events.Die renderer) answer line caused all = filter_all (InBlob s h) (λ (reader : OpenReader). not (reader.owner == renderer.0))
    (readers (page_limit s) h) all
readers_heard s h events.Finish answer line caused all = tt
readers_heard s h event answer line caused all = all

pub readers_in : (s : Session) (h : History) → IsCaused s h → AllByRecursion (InBlob s h) (readers (page_limit s) h)
readers_in s start caused = tt
readers_in s (heard h event answer) caused =
    in_grown s h (heard h event answer) (readers (page_limit s) (heard h event answer)) (grown_heard s h event answer)
    (readers_heard s h event answer caused.0 caused.1 (readers_in s h caused.1))
readers_in s (refused h event why) caused =
    for_each (InBlob s h) (InBlob s (refused h event why)) (readers (page_limit s) h)
    (λ reader one. record { build = one.build; found = one.found; within = one.within }) (readers_in s h caused.2)
readers_in s (said h answer) caused = in_grown s h (said h answer) (readers (page_limit s) h) (grown_said s h answer) (readers_in s h caused.1)
