-- What is named in lines that have a spelling is in range wherever the model keeps it.
use Rattle.std.proofs.Common.{◌≡◌, ◌⊎◌, ℕ, zero, suc, ◌+◌, ◌<◌, ◌==◌, ◌^◌, Bool, true, false, ◌&&◌, List, [], ◌∷◌, map, take, drop, length, refl, ap, subst, sym, ◌∙◌, inl, inr, ⊎_elim, arith, Option, Some, None}
use Rattle.std.proofs.lemmas.List.{length-map}
use Rattle.std.specs.Prelude.{cond, nat_lt, is_some, IfSome, bytes_eq, slice_index, if◌then◌else◌}
use Rattle.std.specs.Option.{option_map_or}
use Rattle.std.specs.List.{AllByRecursion, range_with_len}
use Rattle.std.specs.Char.{to_ascii_lowercase}
use Rattle.std.proofs.lemmas.Bool.{eqb-true, ltb-true}
use Rattle.blob_words.specs.FileName.{is_file_name}
use Rattle.blob_words.specs.declared.plan.Plan.{Plan}
use Rattle.blob_words.specs.declared.status.Status.{Status}
use Rattle.blob_words.specs.declared.status.Status.TheVariants as statuses
use Rattle.slice_rule.specs.Kind.{is_kept, kept_type}
use Rattle.session_script.specs.Line.{HasSpelling, PartHasText}
use Rattle.text_fields.specs.Kind.{IsContentType}
use Rattle.session_script.specs.declared.event.Event.{Event}
use Rattle.session_script.specs.declared.event.Event.TheVariants as events
use Rattle.session_script.specs.declared.event.Part.{Part}
use Rattle.session_script.specs.declared.event.Part.TheVariants.{Embedded, Asked, FileRange, BlobRange, HandleRange}
use Rattle.answer_text.specs.declared.answer.Answer.{Answer}
use Rattle.answer_text.specs.declared.answer.Answer.TheVariants as answers
use Rattle.blob_model.specs.Session.{Session, page_limit}
use Rattle.blob_model.specs.History.{History, start, heard, refused, said}
use Rattle.blob_model.specs.Recorded.{last_stamp, last_stamp_after}
use Rattle.blob_model.specs.Builds.{Cell, sent, filed, lent, Build, builds, build_in, cells_in, own_cells, file_cells, handle_cells, cells_of, planned_cells, plan_told, slice_parts, built}
use Rattle.blob_model.specs.Standing.{ended, ended_after, is_broken_status}
use Rattle.blob_model.specs.Handles.{count}
use Rattle.blob_model.specs.Live.{is_rooted}
use Rattle.blob_model.specs.Refusals.{refusal}
use Rattle.blob_model.specs.Order.{named}
use Rattle.blob_model.proofs.Lists.{false_true, any_append_first, all_append, all_more, found_all}
use Rattle.blob_model.proofs.kept.NewBlobs.{tests_fail, found_named}
use Rattle.blob_model.proofs.live.Roots.{HoldersSpawned, holder_of, one_case, rooted_before}
use Rattle.blob_model.proofs.live.Unreached.{holders_caused}
use Rattle.blob_model.proofs.memory.Bounded.{build_roots}
use Rattle.blob_model.proofs.legal.PageNumbers.{same_first}
use Rattle.blob_model.proofs.legal.Causes.{OwnCase, idle, breaks, stores, unstores, replies, loses, own_case, IsFurther, by_store, by_unstore, by_drop, by_break, by_done, by_removal, by_grant, by_page_job, by_compaction, IsHeard, IsCaused}
use Rattle.blob_model.proofs.bytes.Arrivals.{idle_ends, reply_ends}

-- each line of the history has a spelling
abbrev pub IsSpelt : History → Type 0
IsSpelt start = Unit {0}
IsSpelt (heard h event answer) = HasSpelling event × IsSpelt h
IsSpelt (refused h event why) = HasSpelling event × IsSpelt h
IsSpelt (said h answer) = IsSpelt h

-- ---- content types

bytes_map : (f : ℕ → ℕ) (xs : List ℕ) → ((c : ℕ) → c < 256 → f c < 256) → ((i : ℕ) → slice_index xs i < 256) → (i : ℕ) → slice_index (map f xs) i < 256
bytes_map f [] low all i = all i
bytes_map f (x ∷ xs) low all zero = low x (all zero)
bytes_map f (x ∷ xs) low all (suc i) = bytes_map f xs low (λ j. all (suc j)) i

lower_low : (c : ℕ) → c < 256 → to_ascii_lowercase c < 256
lower_low c low = go (nat_lt c 65) (nat_lt c 91) refl
  where
    go : (a b : Bool) → nat_lt c 91 ≡ b → cond a c (cond b (c + 32) c) < 256
    go true b at = low
    go false false at = low
    go false true at = let upper = ltb-true c 91 at in omega (arith, upper)

pub no_text : IsContentType []
no_text = ((λ i. none i), omega arith)
  where
    none : (i : ℕ) → slice_index [] i < 256
    none zero = omega arith
    none (suc i) = omega arith

kept_text : (kind : List ℕ) → IsContentType kind → IsContentType (kept_type kind)
kept_text kind text = go (is_kept kind)
  where
    go : (b : Bool) → IsContentType (if b then map to_ascii_lowercase kind else [])
    go true = let short = text.1 in let same = length-map kind to_ascii_lowercase in
        ((λ i. bytes_map to_ascii_lowercase kind lower_low text.0 i), omega (arith, short, same))
    go false = no_text

-- ---- cells

-- the file name and the slot of a cell
abbrev pub CellHasText : Cell → Type 0
CellHasText (sent blob index) = Unit {0}
CellHasText (filed name stamp index) = is_file_name name ≡ true
CellHasText (lent slot index) = slot < 2 ^ 32

abbrev pub CellsHaveText : List Cell → Type 0
CellsHaveText cells = AllByRecursion CellHasText cells

all_mapped : (f : ℕ → Cell) (xs : List ℕ) → ((i : ℕ) → CellHasText (f i)) → CellsHaveText (map f xs)
all_mapped f [] each = tt
all_mapped f (x ∷ xs) each = (each x, all_mapped f xs each)

pub all_taken : {X : Type 0} (P : X → Type 0) (n : ℕ) (xs : List X) → AllByRecursion P xs → AllByRecursion P (take n xs)
all_taken P zero xs all = tt
all_taken P (suc n) [] all = tt
all_taken P (suc n) (x ∷ xs) all = (all.0, all_taken P n xs all.1)

pub all_dropped : {X : Type 0} (P : X → Type 0) (n : ℕ) (xs : List X) → AllByRecursion P xs → AllByRecursion P (drop n xs)
all_dropped P zero xs all = all
all_dropped P (suc n) [] all = tt
all_dropped P (suc n) (x ∷ xs) all = all_dropped P n xs all.1

-- ---- blobs

-- the name, the content type and the cells of a blob
pub record BuildHasText (build : Build) : Type 0 where
  pub name : build.name < 2 ^ 128
  pub kind : IsContentType build.kind
  pub cells : AllByRecursion CellHasText build.cells

abbrev pub AllHaveText : List Build → Type 0
AllHaveText list = AllByRecursion BuildHasText list

pub cells_found : (list : List Build) (name : ℕ) → AllHaveText list → CellsHaveText (cells_in list name)
cells_found list name all = go (build_in list name) refl
  where
    go : (found : Option Build) → build_in list name ≡ found → CellsHaveText (option_map_or (λ (build : Build). build.cells) found [])
    go None at = tt
    go (Some build) at = (found_all BuildHasText (λ (each : Build). each.name == name) list build all at).cells

parts_text : (list : List Build) (name from : ℕ) (parts : List Part) → AllHaveText list → AllByRecursion PartHasText parts
    → CellsHaveText (cells_of list name from parts)
parts_text list name from [] all text = tt
parts_text list name from (Embedded bytes ∷ parts) all text =
    all_append CellHasText (own_cells name from (length bytes)) (cells_of list name (from + length bytes) parts)
    (all_mapped (λ (index : ℕ). sent name index) (range_with_len from (length bytes)) (λ i. tt))
    (parts_text list name (from + length bytes) parts all text.1)
parts_text list name from (Asked len ∷ parts) all text =
    all_append CellHasText (own_cells name from len) (cells_of list name (from + len) parts)
    (all_mapped (λ (index : ℕ). sent name index) (range_with_len from len) (λ i. tt)) (parts_text list name (from + len) parts all text.1)
parts_text list name from (FileRange file off len stamp ∷ parts) all text =
    all_append CellHasText (file_cells file stamp off len) (cells_of list name from parts)
    (all_mapped (λ (index : ℕ). filed file stamp index) (range_with_len off len) (λ i. text.0.0)) (parts_text list name from parts all text.1)
parts_text list name from (BlobRange b off len ∷ parts) all text =
    all_append CellHasText (take len (drop off (cells_in list b))) (cells_of list name from parts)
    (all_taken CellHasText len (drop off (cells_in list b)) (all_dropped CellHasText off (cells_in list b) (cells_found list b all)))
    (parts_text list name from parts all text.1)
parts_text list name from (HandleRange k off len ∷ parts) all text =
    all_append CellHasText (handle_cells k off len) (cells_of list name from parts)
    (all_mapped (λ (index : ℕ). lent k index) (range_with_len off len) (λ i. text.0.0)) (parts_text list name from parts all text.1)

planned_text : (list : List Build) (name : ℕ) (parts : List Part) (plan : Option Plan) → CellsHaveText (cells_of list name 0 parts)
    → CellsHaveText (planned_cells list name parts plan)
planned_text list name parts None text = tt
planned_text list name parts (Some plan) text = text

built_text : (s : Session) (h : History) (event : Event) (answer : Answer) → HasSpelling event → AllHaveText (builds (page_limit s) h)
    → AllHaveText (builds (page_limit s) (heard h event answer))
built_text s h (events.Build renderer name kind parts) answer spelt all =
    all_more BuildHasText (builds (page_limit s) h) (built (page_limit s) (builds (page_limit s) h) renderer.0 name kind parts (plan_told answer)) all
    (record {
      name = spelt.1;
      kind = kept_text kind spelt.2;
      cells = planned_text (builds (page_limit s) h) name parts (plan_told answer)
          (parts_text (builds (page_limit s) h) name 0 parts all spelt.4);
    })
built_text s h (events.Slice renderer name source from to kind) answer spelt all =
    all_more BuildHasText (builds (page_limit s) h) (built (page_limit s) (builds (page_limit s) h) renderer.0 name kind
    (slice_parts (builds (page_limit s) h) source from to) (plan_told answer)) all
    (record {
      name = spelt.1;
      kind = kept_text kind spelt.5;
      cells =
          planned_text (builds (page_limit s) h) name (slice_parts (builds (page_limit s) h) source from to) (plan_told answer)
          (all_append CellHasText (take _ (drop _ (cells_in (builds (page_limit s) h) source))) []
          (all_taken CellHasText _ (drop _ (cells_in (builds (page_limit s) h) source))
          (all_dropped CellHasText _ (cells_in (builds (page_limit s) h) source) (cells_found (builds (page_limit s) h) source all))) tt);
    })
built_text s h event answer spelt all = all

pub builds_text : (s : Session) (h : History) → IsSpelt h → AllHaveText (builds (page_limit s) h)
builds_text s start spelt = tt
builds_text s (heard h event answer) spelt = built_text s h event answer spelt.0 (builds_text s h spelt.1)
builds_text s (refused h event why) spelt = builds_text s h spelt.1
builds_text s (said h answer) spelt = builds_text s h spelt

-- ---- stamps

stamp_low : (event : Event) (name : List ℕ) (before : Option ℕ) → HasSpelling event → IfSome before (λ (stamp : ℕ). stamp < 2 ^ 64)
    → IfSome (last_stamp_after event name before) (λ (stamp : ℕ). stamp < 2 ^ 64)
stamp_low (events.File file stamp bytes) name before spelt low = go (bytes_eq file name)
  where
    go : (b : Bool) → IfSome (if b then Some stamp else before) (λ (each : ℕ). each < 2 ^ 64)
    go true = spelt.1
    go false = low
stamp_low event name before spelt low = low

pub stamps_low : (h : History) (name : List ℕ) → IsSpelt h → IfSome (last_stamp h name) (λ (stamp : ℕ). stamp < 2 ^ 64)
stamps_low start name spelt = tt
stamps_low (heard h event answer) name spelt = stamp_low event name (last_stamp h name) spelt.0 (stamps_low h name spelt.1)
stamps_low (refused h event why) name spelt = stamps_low h name spelt.1
stamps_low (said h answer) name spelt = stamps_low h name spelt

-- ---- how blobs ended

-- done, broken or dropped
abbrev pub IsEnd : Status → Type 0
IsEnd status = (status ≡ statuses.Done) ⊎ ((is_broken_status status ≡ true) ⊎ (status ≡ statuses.Dereferenced))

abbrev EndsWell : Option Status → Type 0
EndsWell found = IfSome found IsEnd

ends_with : (b : Bool) (status : Status) (before : Option Status) → IsEnd status → EndsWell before → EndsWell (cond b (Some status) before)
ends_with true status before one was = one
ends_with false status before one was = was

-- the status after an answer
abbrev EndsAfter : History → ℕ → Answer → Type 0
EndsAfter h name answer = EndsWell (ended_after answer name (ended h name))

first_ends : (s : Session) (h : History) (event : Event) (answer : Answer) (rest : List Answer) (name : ℕ) → OwnCase s h event (answer ∷ rest)
    → EndsWell (ended h name) → EndsAfter h name answer
first_ends s h event answer rest name (idle one e free) was = subst (EndsAfter h name) (sym (same_first answer one rest [] e))
    (subst EndsWell (sym (idle_ends one name (ended h name) free)) was)
first_ends s h event answer rest name (breaks b status broken building e) was =
    subst (EndsAfter h name) (sym (same_first answer (answers.Broken b status) rest [] e)) (ends_with (b == name) status (ended h name) (inr (inl broken)) was)
first_ends s h event answer rest name (stores renderer b segment bytes n same at e) was =
    subst (EndsAfter h name) (sym (same_first answer (answers.Taken segment) rest _ e)) was
first_ends s h event answer rest name (unstores renderer b segment bytes n same at e) was =
    subst (EndsAfter h name) (sym (same_first answer (answers.Taken segment) rest _ e)) was
first_ends s h event answer rest name (replies job one same e reply done) was = subst (EndsAfter h name) (sym (same_first answer one rest [] e))
    (subst EndsWell (sym (reply_ends one name (ended h name) reply)) was)
first_ends s h event answer rest name (loses job same e) was = subst (EndsAfter h name) (sym (same_first answer (answers.LostJob job) rest [] e)) was

second_ends : (s : Session) (h : History) (answer : Answer) (name : ℕ) → IsFurther s h answer → EndsWell (ended h name) → EndsAfter h name answer
second_ends s h answer name (by_store g renderer b segment bytes n same passes at e) was = subst (EndsAfter h name) (sym e) was
second_ends s h answer name (by_unstore g renderer b segment bytes n same passes at e) was = subst (EndsAfter h name) (sym e) was
second_ends s h answer name (by_drop build found begun unrooted e) was =
    subst (EndsAfter h name) (sym e) (ends_with (build.name == name) statuses.Dereferenced (ended h name) (inr (inr refl)) was)
second_ends s h answer name (by_break build found begun status broken e) was =
    subst (EndsAfter h name) (sym e) (ends_with (build.name == name) status (ended h name) (inr (inl broken)) was)
second_ends s h answer name (by_done build found begun complete e) was =
    subst (EndsAfter h name) (sym e) (ends_with (build.name == name) statuses.Done (ended h name) (inl refl) was)
second_ends s h answer name (by_removal number written left (inl e)) was = subst (EndsAfter h name) (sym e) was
second_ends s h answer name (by_removal number written left (inr e)) was = subst (EndsAfter h name) (sym e) was
second_ends s h answer name (by_grant build found e) was = subst (EndsAfter h name) (sym e) was
second_ends s h answer name (by_page_job number more may at e) was = subst (EndsAfter h name) (sym e) was
second_ends s h answer name (by_compaction file may found e) was = subst (EndsAfter h name) (sym e) was

pub ends_well : (s : Session) (h : History) (name : ℕ) → IsCaused s h → EndsWell (ended h name)
ends_well s start name caused = tt
ends_well s (heard h event answer) name caused = first_ends s h event answer caused.0.rest name (own_case s h event (answer ∷ caused.0.rest) caused.0.own)
    (ends_well s h name caused.1)
ends_well s (refused h event why) name caused = ends_well s h name caused.2
ends_well s (said h answer) name caused = second_ends s h answer name caused.0 (ends_well s h name caused.1)

-- ---- who was dropped is not held, named or read

-- dropped before, or dropped now while nothing roots it
abbrev DroppedAs : History → ℕ → Answer → Type 0
DroppedAs h name answer = ended_after answer name (ended h name) ≡ Some statuses.Dereferenced

not_dropped : (status : Status) → is_broken_status status ≡ true → Some status ≡ Some statuses.Dereferenced → ⊥
not_dropped status broken e =
    let same : status ≡ statuses.Dereferenced = cc in
    false_true (sym (ap is_broken_status same) ∙ broken)

first_drops : (s : Session) (h : History) (event : Event) (answer : Answer) (rest : List Answer) (name : ℕ) → OwnCase s h event (answer ∷ rest)
    → DroppedAs h name answer → ended h name ≡ Some statuses.Dereferenced
first_drops s h event answer rest name (idle one e free) d = sym (idle_ends one name (ended h name) free) ∙ subst (DroppedAs h name)
    (same_first answer one rest [] e) d
first_drops s h event answer rest name (breaks b status broken building e) d =
    go (b == name) (subst (DroppedAs h name) (same_first answer (answers.Broken b status) rest [] e) d)
  where
    go : (c : Bool) → cond c (Some status) (ended h name) ≡ Some statuses.Dereferenced → ended h name ≡ Some statuses.Dereferenced
    go true f = absurd (not_dropped status broken f)
    go false f = f
first_drops s h event answer rest name (stores renderer b segment bytes n same at e) d =
    subst (DroppedAs h name) (same_first answer (answers.Taken segment) rest _ e) d
first_drops s h event answer rest name (unstores renderer b segment bytes n same at e) d =
    subst (DroppedAs h name) (same_first answer (answers.Taken segment) rest _ e) d
first_drops s h event answer rest name (replies job one same e reply done) d = sym (reply_ends one name (ended h name) reply) ∙ subst (DroppedAs h name)
    (same_first answer one rest [] e) d
first_drops s h event answer rest name (loses job same e) d = subst (DroppedAs h name) (same_first answer (answers.LostJob job) rest [] e) d

-- what was dropped was built, and nothing roots it
pub record IsOver (s : Session) (h : History) (name : ℕ) : Type 0 where
  pub built : named name (builds (page_limit s) h) ≡ true
  pub unrooted : is_rooted (page_limit s) h name ≡ false

second_drops : (s : Session) (h : History) (answer : Answer) (name : ℕ) → IsFurther s h answer → (ended h name ≡ Some statuses.Dereferenced → IsOver s h name)
    → DroppedAs h name answer → IsOver s h name
second_drops s h answer name (by_store g renderer b segment bytes n same passes at e) was d = was (subst (DroppedAs h name) e d)
second_drops s h answer name (by_unstore g renderer b segment bytes n same passes at e) was d = was (subst (DroppedAs h name) e d)
second_drops s h answer name (by_drop build found begun unrooted e) was d = go (build.name == name) refl (subst (DroppedAs h name) e d)
  where
    go : (c : Bool) → (build.name == name) ≡ c → cond c (Some statuses.Dereferenced) (ended h name) ≡ Some statuses.Dereferenced → IsOver s h name
    go false at f = was f
    go true at f =
        let same : build.name ≡ name = eqb-true build.name name at in
        record {
          built = subst (λ (n : ℕ). named n (builds (page_limit s) h) ≡ true) same
              (sym (found_named (builds (page_limit s) h) build.name) ∙ ap (λ (o : Option Build). is_some o) found);
          unrooted = subst (λ (n : ℕ). is_rooted (page_limit s) h n ≡ false) same unrooted;
        }
second_drops s h answer name (by_break build found begun status broken e) was d = go (build.name == name) (subst (DroppedAs h name) e d)
  where
    go : (c : Bool) → cond c (Some status) (ended h name) ≡ Some statuses.Dereferenced → IsOver s h name
    go true f = absurd (not_dropped status broken f)
    go false f = was f
second_drops s h answer name (by_done build found begun complete e) was d = go (build.name == name) (subst (DroppedAs h name) e d)
  where
    go : (c : Bool) → cond c (Some statuses.Done) (ended h name) ≡ Some statuses.Dereferenced → IsOver s h name
    go true f = cc
    go false f = was f
second_drops s h answer name (by_removal number written left (inl e)) was d = was (subst (DroppedAs h name) e d)
second_drops s h answer name (by_removal number written left (inr e)) was d = was (subst (DroppedAs h name) e d)
second_drops s h answer name (by_grant build found e) was d = was (subst (DroppedAs h name) e d)
second_drops s h answer name (by_page_job number more may at e) was d = was (subst (DroppedAs h name) e d)
second_drops s h answer name (by_compaction file may found e) was d = was (subst (DroppedAs h name) e d)

-- a line roots nothing that was over
over_heard : (s : Session) (h : History) (event : Event) (answer : Answer) (name : ℕ) → IsHeard s h event answer → IsCaused s h → IsOver s h name
    → is_rooted (page_limit s) (heard h event answer) name ≡ false
over_heard s h event answer name line caused over = pick (is_rooted (page_limit s) (heard h event answer) name) refl
  where
    holders : HoldersSpawned h
    holders = holders_caused s h caused

    never : is_rooted (page_limit s) h name ≡ true → ⊥
    never e = false_true (sym over.unrooted ∙ e)

    fresh_other : (new : ℕ) → build_in (builds (page_limit s) h) new ≡ None → (name == new) ≡ true → ⊥
    fresh_other new none e =
        let same : name ≡ new = eqb-true name new e in
        false_true (sym (sym (found_named (builds (page_limit s) h) new) ∙ ap (λ (o : Option Build). is_some o) none) ∙ subst
        (λ (n : ℕ). named n (builds (page_limit s) h) ≡ true) same over.built)

    none_found : (new : ℕ) → is_some (build_in (builds (page_limit s) h) new) ≡ false → build_in (builds (page_limit s) h) new ≡ None
    none_found new e = go (build_in (builds (page_limit s) h) new) e
      where
        go : (found : Option Build) → is_some found ≡ false → found ≡ None
        go None f = refl
        go (Some build) f = absurd (false_true (sym f))

    rooted : (each : Event) → refusal s h each ≡ None → is_rooted (page_limit s) (heard h each answer) name ≡ true → ⊥
    rooted (events.Build renderer b kind parts) passes e =
        ⊎_elim never (fresh_other b (none_found b (tests_fail s h (events.Build renderer b kind parts) passes).1.0))
        (build_roots s h (heard h (events.Build renderer b kind parts) answer) renderer.0 b holders
        (λ holder m has. one_case ((renderer.0 == holder) && (b == m)) (count h holder m) has) name
        (λ held. let who = holder_of (heard h (events.Build renderer b kind parts) answer) name held in (who.0.number, who.1)) e)
    rooted (events.Slice renderer b source from to kind) passes e =
        ⊎_elim never (fresh_other b (none_found b (tests_fail s h (events.Slice renderer b source from to kind) passes).1.0))
        (build_roots s h (heard h (events.Slice renderer b source from to kind) answer) renderer.0 b holders
        (λ holder m has. one_case ((renderer.0 == holder) && (b == m)) (count h holder m) has) name
        (λ held. let who = holder_of (heard h (events.Slice renderer b source from to kind) answer) name held in (who.0.number, who.1)) e)
    rooted each passes e = never (rooted_before s h each answer name holders passes refl e)

    pick : (c : Bool) → is_rooted (page_limit s) (heard h event answer) name ≡ c → c ≡ false
    pick false at = refl
    pick true at = absurd (rooted event line.passes at)

named_on : (s : Session) (h : History) (event : Event) (answer : Answer) (name : ℕ) → named name (builds (page_limit s) h) ≡ true
    → named name (builds (page_limit s) (heard h event answer)) ≡ true
named_on s h (events.Build renderer b kind parts) answer name e = any_append_first (λ (each : Build). each.name == name) (builds (page_limit s) h) _ e
named_on s h (events.Slice renderer b source from to kind) answer name e = any_append_first (λ (each : Build). each.name == name) (builds (page_limit s) h) _ e
named_on s h event answer name e = e

pub dropped_over : (s : Session) (h : History) (name : ℕ) → IsCaused s h → ended h name ≡ Some statuses.Dereferenced → IsOver s h name
dropped_over s start name caused e = cc
dropped_over s (heard h event answer) name caused e =
    let before = dropped_over s h name caused.1 (first_drops s h event answer caused.0.rest name (own_case s h event (answer ∷ caused.0.rest) caused.0.own) e)
    in
    record { built = named_on s h event answer name before.built; unrooted = over_heard s h event answer name caused.0 caused.1 before }
dropped_over s (refused h event why) name caused e = let before = dropped_over s h name caused.2 e in
    record { built = before.built; unrooted = before.unrooted }
dropped_over s (said h answer) name caused e =
    let before = second_drops s h answer name caused.0 (dropped_over s h name caused.1) e in
    record { built = before.built; unrooted = before.unrooted }
