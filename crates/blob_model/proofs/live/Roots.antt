-- An accepted line that builds nothing makes no blob rooted.
use Rattle.std.proofs.Common.{◌≡◌, ◌⊎◌, ℕ, ◌+◌, ◌==◌, Bool, true, false, ◌&&◌, ◌||◌, not, List, [], ◌∷◌, ◌++◌, map, length, refl, subst, sym, inl, inr, ⊎_elim, Option, Some, None}
use Rattle.std.specs.Prelude.{cond, find, nat_lt, bytes_eq, if◌then◌else◌}
use Rattle.std.specs.List.{list_any}
use Rattle.std.proofs.lemmas.Bool.{and_parts, eqb-true}
use Rattle.session_script.specs.declared.event.Event.{Event}
use Rattle.session_script.specs.declared.event.Event.TheVariants as events
use Rattle.answer_text.specs.declared.answer.Answer.{Answer}
use Rattle.answer_text.specs.declared.answer.Answer.TheVariants as answers
use Rattle.blob_model.specs.Session.{Session, page_limit}
use Rattle.blob_model.specs.History.{History, heard}
use Rattle.blob_model.specs.Renderers.{Renderer, spawned, is_spawned, is_dead, is_alive}
use Rattle.blob_model.specs.Handles.{has_handle, count, is_held}
use Rattle.blob_model.specs.Entries.{Entry, entries, is_named, resolved}
use Rattle.blob_model.specs.Readers.{OpenReader, readers, is_read, advanced, closed, fetched, opened}
use Rattle.blob_model.specs.Live.{is_rooted}
use Rattle.blob_model.specs.Refusals.{refusal}
use Rattle.blob_model.specs.Laws.{is_build}
use Rattle.blob_model.proofs.Lists.{any_append_first, any_filtered, any_parts, any_up, false_true, not_false, or_cases, or_first, or_second, some_of}
use Rattle.blob_model.proofs.kept.NewBlobs.{tests_fail}
use Rattle.blob_model.proofs.kept.Lines.{held_pass, held_drop, held_die}

-- ---- holders

-- who has a handle was spawned
abbrev pub HoldersSpawned : History → Type 0
HoldersSpawned h = (holder name : ℕ) → has_handle h holder name ≡ true → is_spawned h holder ≡ true

pub held_by : (h : History) (holder name : ℕ) → HoldersSpawned h → has_handle h holder name ≡ true → is_held h name ≡ true
held_by h holder name holders has =
    any_up (λ (renderer : Renderer). renderer.number == holder) (λ (renderer : Renderer). has_handle h renderer.number name) (spawned h)
    (λ renderer e. subst (λ (n : ℕ). has_handle h n name ≡ true) (sym (eqb-true renderer.number holder e)) has) (holders holder name has)

pub holder_of : (h : History) (name : ℕ) → is_held h name ≡ true → (renderer : Renderer) × (has_handle h renderer.number name ≡ true)
holder_of h name e = some_of (λ (renderer : Renderer). has_handle h renderer.number name) (spawned h) e

pub alive_spawned : (h : History) (number : ℕ) → not (is_alive h number) ≡ false → is_spawned h number ≡ true
alive_spawned h number e = (and_parts (is_spawned h number) (not (is_dead h number)) (not_false (is_alive h number) e)).0

pub one_case : (c : Bool) (n : ℕ) → nat_lt 0 (cond c 1 n) ≡ true → (c ≡ true) ⊎ (nat_lt 0 n ≡ true)
one_case true n e = inl refl
one_case false n e = inr e

by_holder : (h : History) (renderer holder name b : ℕ) → is_spawned h renderer ≡ true → ((renderer == holder) && (b == name)) ≡ true → is_spawned h holder
    ≡ true
by_holder h renderer holder name b known e = subst (λ (n : ℕ). is_spawned h n ≡ true)
    (eqb-true renderer holder (and_parts (renderer == holder) (b == name) e).0) known

pub holders_heard : (s : Session) (h : History) (event : Event) (answer : Answer) → HoldersSpawned h → refusal s h event ≡ None
    → HoldersSpawned (heard h event answer)
holders_heard s h (events.Spawn renderer origin) answer holders accepted holder name has = any_append_first (λ (each : Renderer). each.number == holder)
    (spawned h) (record { number = renderer.0; origin = origin } ∷ []) (holders holder name has)
holders_heard s h (events.Build renderer b kind parts) answer holders accepted holder name has =
    ⊎_elim (by_holder h renderer.0 holder name b (alive_spawned h renderer.0 (tests_fail s h (events.Build renderer b kind parts) accepted).0))
    (holders holder name) (one_case ((renderer.0 == holder) && (b == name)) (count h holder name) has)
holders_heard s h (events.Slice renderer b source from to kind) answer holders accepted holder name has =
    ⊎_elim (by_holder h renderer.0 holder name b (alive_spawned h renderer.0 (tests_fail s h (events.Slice renderer b source from to kind) accepted).0))
    (holders holder name) (one_case ((renderer.0 == holder) && (b == name)) (count h holder name) has)
holders_heard s h (events.Pass renderer to b) answer holders accepted holder name has =
    ⊎_elim (by_holder h to.0 holder name b (alive_spawned h to.0 (tests_fail s h (events.Pass renderer to b) accepted).1.0)) (holders holder name)
    (held_pass ((to.0 == holder) && (b == name)) (count h holder name) has)
holders_heard s h (events.Drop renderer b) answer holders accepted holder name has =
    holders holder name (held_drop ((renderer.0 == holder) && (b == name)) (count h holder name) has)
holders_heard s h (events.Die renderer) answer holders accepted holder name has =
    holders holder name (held_die (renderer.0 == holder) (count h holder name) has)
holders_heard s h events.Finish answer holders accepted holder name has = absurd (false_true has)
holders_heard s h event answer holders accepted holder name has = holders holder name has

-- ---- roots

handle_before : (s : Session) (h : History) (event : Event) (answer : Answer) (holder name : ℕ) → refusal s h event ≡ None → is_build event ≡ false
    → has_handle (heard h event answer) holder name ≡ true
    → (other : ℕ) × (has_handle h other name ≡ true)
handle_before s h (events.Build renderer b kind parts) answer holder name accepted other has = absurd (false_true (sym other))
handle_before s h (events.Slice renderer b source from to kind) answer holder name accepted other has = absurd (false_true (sym other))
handle_before s h (events.Pass renderer to b) answer holder name accepted other has =
    ⊎_elim
    (λ (here : ((to.0 == holder) && (b == name)) ≡ true).
    let same : b ≡ name = eqb-true b name (and_parts (to.0 == holder) (b == name) here).1 in (
      renderer.0,
      subst (λ (n : ℕ). has_handle h renderer.0 n ≡ true) same
          (not_false (has_handle h renderer.0 b) (tests_fail s h (events.Pass renderer to b) accepted).1.1.0),
    ))
    (λ (before : nat_lt 0 (count h holder name) ≡ true). (holder, before))
    (held_pass ((to.0 == holder) && (b == name)) (count h holder name) has)
handle_before s h (events.Drop renderer b) answer holder name accepted other has =
    (holder, held_drop ((renderer.0 == holder) && (b == name)) (count h holder name) has)
handle_before s h (events.Die renderer) answer holder name accepted other has = (holder, held_die (renderer.0 == holder) (count h holder name) has)
handle_before s h events.Finish answer holder name accepted other has = absurd (false_true has)
handle_before s h event answer holder name accepted other has = (holder, has)

held_before : (s : Session) (h : History) (event : Event) (answer : Answer) (name : ℕ) → HoldersSpawned h → refusal s h event ≡ None → is_build event ≡ false
    → is_held (heard h event answer) name ≡ true → is_held h name ≡ true
held_before s h event answer name holders accepted other e =
    let now = holder_of (heard h event answer) name e in
    let before = handle_before s h event answer now.0.number name accepted other now.1 in
    held_by h before.0 name holders before.1

-- the last of a list that grew
last_one : {X : Type 0} (test : X → Bool) (xs : List X) (x : X) → list_any test (xs ++ x ∷ []) ≡ true → (list_any test xs ≡ true) ⊎ (test x ≡ true)
last_one test xs x e =
    ⊎_elim (λ (front : list_any test xs ≡ true). inl front) (λ (back : (test x || false) ≡ true). ⊎_elim (λ (here : test x ≡ true). inr here)
    (λ (none : false ≡ true). absurd (false_true none)) (or_cases (test x) false back)) (any_parts test xs (x ∷ []) e)

held_at : (h : History) (renderer b name : ℕ) → HoldersSpawned h → not (has_handle h renderer b) ≡ false → (b == name) ≡ true → is_held h name ≡ true
held_at h renderer b name holders no_handle e = held_by h renderer name holders
    (subst (λ (n : ℕ). has_handle h renderer n ≡ true) (eqb-true b name e) (not_false (has_handle h renderer b) no_handle))

named_before : (s : Session) (h : History) (event : Event) (answer : Answer) (name : ℕ) → HoldersSpawned h → refusal s h event ≡ None
    → is_named (heard h event answer) name ≡ true → (is_named h name ≡ true) ⊎ (is_held h name ≡ true)
named_before s h (events.Url renderer b text) answer name holders accepted e =
    ⊎_elim (λ (front : is_named h name ≡ true). inl front) (λ (here : (b == name) ≡ true). inr
    (held_at h renderer.0 b name holders (tests_fail s h (events.Url renderer b text) accepted).1.0 here))
    (last_one (λ (entry : Entry). entry.blob == name) (entries h) (record { text = text; blob = b; owner = renderer.0 }) e)
named_before s h (events.Revoke renderer text) answers.Revoked name holders accepted e =
    inl (any_filtered (λ (entry : Entry). entry.blob == name) (λ (entry : Entry). not (bytes_eq entry.text text)) (entries h) e)
named_before s h (events.Die renderer) answer name holders accepted e =
    inl (any_filtered (λ (entry : Entry). entry.blob == name) (λ (entry : Entry). not (entry.owner == renderer.0)) (entries h) e)
named_before s h events.Finish answer name holders accepted e = absurd (false_true e)
named_before s h event answer name holders accepted e = inl e

read_advanced : (number by name : ℕ) (list : List OpenReader) → list_any (λ (reader : OpenReader). reader.blob == name) (map (advanced number by) list) ≡ true
    → list_any (λ (reader : OpenReader). reader.blob == name) list ≡ true
read_advanced number by name [] e = e
read_advanced number by name (reader ∷ list) e =
    ⊎_elim (λ (here : ((advanced number by reader).blob == name) ≡ true). or_first (reader.blob == name)
    (list_any (λ (each : OpenReader). each.blob == name) list) (same (reader.number == number) here))
    (λ (more : list_any (λ (each : OpenReader). each.blob == name) (map (advanced number by) list) ≡ true). or_second (reader.blob == name)
    (list_any (λ (each : OpenReader). each.blob == name) list) (read_advanced number by name list more))
    (or_cases ((advanced number by reader).blob == name) (list_any (λ (each : OpenReader). each.blob == name) (map (advanced number by) list)) e)
  where
    same : (b : Bool) → ((if b then record reader { place = reader.place + by } else reader).blob == name) ≡ true → (reader.blob == name) ≡ true
    same true f = f
    same false f = f

read_closed : (number name : ℕ) (list : List OpenReader) → list_any (λ (reader : OpenReader). reader.blob == name) (closed number list) ≡ true
    → list_any (λ (reader : OpenReader). reader.blob == name) list ≡ true
read_closed number name list e = any_filtered (λ (reader : OpenReader). reader.blob == name) (λ (reader : OpenReader). not (reader.number == number)) list e

-- an entry that a text resolves to is among the entries
resolved_named : (test : Entry → Bool) (list : List Entry) (found : Entry) (name : ℕ) → find test list ≡ Some found → (found.blob == name) ≡ true
    → list_any (λ (entry : Entry). entry.blob == name) list ≡ true
resolved_named test [] found name e f = cc
resolved_named test (entry ∷ list) found name e f = go (test entry) e (λ rest. resolved_named test list found name rest f)
  where
    go : (b : Bool) → cond b (Some entry) (find test list) ≡ Some found
        → (find test list ≡ Some found → list_any (λ (each : Entry). each.blob == name) list ≡ true)
        → ((entry.blob == name) || list_any (λ (each : Entry). each.blob == name) list) ≡ true
    go true g rest = let same : entry ≡ found = cc in or_first (entry.blob == name) (list_any (λ (each : Entry). each.blob == name) list)
        (subst (λ (x : Entry). (x.blob == name) ≡ true) (sym same) f)
    go false g rest = or_second (entry.blob == name) (list_any (λ (each : Entry). each.blob == name) list) (rest g)

read_before : (s : Session) (h : History) (event : Event) (answer : Answer) (name : ℕ) → HoldersSpawned h → refusal s h event ≡ None → is_read (page_limit s)
    (heard h event answer) name ≡ true → is_rooted (page_limit s) h name ≡ true
read_before s h event answer name holders accepted e = go event answer accepted e
  where
    reads : is_read (page_limit s) h name ≡ true → is_rooted (page_limit s) h name ≡ true
    reads f = or_second (is_held h name || is_named h name) (is_read (page_limit s) h name) f

    holds : is_held h name ≡ true → is_rooted (page_limit s) h name ≡ true
    holds f = or_first (is_held h name || is_named h name) (is_read (page_limit s) h name) (or_first (is_held h name) (is_named h name) f)

    names : is_named h name ≡ true → is_rooted (page_limit s) h name ≡ true
    names f = or_first (is_held h name || is_named h name) (is_read (page_limit s) h name) (or_second (is_held h name) (is_named h name) f)

    by_entry : (owner number off : ℕ) (len : Option ℕ) (text : List ℕ) (found : Option Entry) → resolved h owner text ≡ found
        → (list_any (λ (reader : OpenReader). reader.blob == name) (readers (page_limit s) h) ≡ true)
        ⊎ (list_any (λ (reader : OpenReader). reader.blob == name) (fetched (page_limit s) h owner number found off len) ≡ true) → is_rooted (page_limit s)
        h name ≡ true
    by_entry owner number off len text found at (inl front) = reads front
    by_entry owner number off len text None at (inr back) = absurd (false_true back)
    by_entry owner number off len text (Some entry) at (inr back) =
        ⊎_elim (λ (here : (entry.blob == name) ≡ true). names (resolved_named _ (entries h) entry name at here))
        (λ (none : false ≡ true). absurd (false_true none)) (or_cases (entry.blob == name) false back)

    go : (line : Event) (first : Answer) → refusal s h line ≡ None → is_read (page_limit s) (heard h line first) name ≡ true → is_rooted (page_limit s) h name
        ≡ true
    go (events.Read renderer reader b off len) first ok f =
        ⊎_elim reads (λ (here : (b == name) ≡ true). holds (held_at h renderer.0 b name holders (tests_fail s h (events.Read renderer reader b off len) ok).1.0
        here))
        (last_one (λ (each : OpenReader). each.blob == name) (readers (page_limit s) h) (opened (page_limit s) h renderer.0 reader.0 b off len) f)
    go (events.Fetch renderer reader text off len) first ok f =
        by_entry renderer.0 reader.0 off len text (resolved h renderer.0 text) refl
        (any_parts (λ (each : OpenReader). each.blob == name) (readers (page_limit s) h)
        (fetched (page_limit s) h renderer.0 reader.0 (resolved h renderer.0 text) off len) f)
    go (events.Step reader) (answers.Given number bytes) ok f = reads (read_advanced reader.0 (length bytes) name (readers (page_limit s) h) f)
    go (events.Step reader) (answers.Ended number status) ok f = reads (read_closed reader.0 name (readers (page_limit s) h) f)
    go (events.Step reader) (answers.FileChanged number file) ok f = reads (read_closed reader.0 name (readers (page_limit s) h) f)
    go (events.Step reader) (answers.PageFault number file) ok f = reads (read_closed reader.0 name (readers (page_limit s) h) f)
    go (events.Step reader) (answers.HandleFailed number slot) ok f = reads (read_closed reader.0 name (readers (page_limit s) h) f)
    go (events.Cancel renderer reader) first ok f = reads (read_closed reader.0 name (readers (page_limit s) h) f)
    go (events.Die renderer) first ok f = reads (any_filtered (λ (each : OpenReader). each.blob == name) (λ (each : OpenReader). not (each.owner == renderer.0))
        (readers (page_limit s) h) f)
    go events.Finish first ok f = absurd (false_true f)
    go line first ok f = reads f

pub rooted_before : (s : Session) (h : History) (event : Event) (answer : Answer) (name : ℕ) → HoldersSpawned h → refusal s h event ≡ None → is_build event
    ≡ false
    → is_rooted (page_limit s) (heard h event answer) name ≡ true → is_rooted (page_limit s) h name ≡ true
rooted_before s h event answer name holders accepted other e =
    ⊎_elim
    (λ (two : (is_held (heard h event answer) name || is_named (heard h event answer) name) ≡ true).
    ⊎_elim (λ (held : is_held (heard h event answer) name ≡ true). holds (held_before s h event answer name holders accepted other held))
    (λ (named : is_named (heard h event answer) name ≡ true). ⊎_elim names holds (named_before s h event answer name holders accepted named))
    (or_cases (is_held (heard h event answer) name) (is_named (heard h event answer) name) two))
    (λ (reads : is_read (page_limit s) (heard h event answer) name ≡ true). read_before s h event answer name holders accepted reads)
    (or_cases (is_held (heard h event answer) name || is_named (heard h event answer) name) (is_read (page_limit s) (heard h event answer) name) e)
  where
    holds : is_held h name ≡ true → is_rooted (page_limit s) h name ≡ true
    holds f = or_first (is_held h name || is_named h name) (is_read (page_limit s) h name) (or_first (is_held h name) (is_named h name) f)

    names : is_named h name ≡ true → is_rooted (page_limit s) h name ≡ true
    names f = or_first (is_held h name || is_named h name) (is_read (page_limit s) h name) (or_second (is_held h name) (is_named h name) f)
