-- The entries behind a pass agree with the history behind its endings.
use Rattle.std.proofs.Common.{◌≡◌, ℕ, ◌+◌, ◌<◌, ◌≤◌, ◌==◌, Bool, true, false, List, [], ◌∷◌, ◌++◌, length}
use Rattle.std.proofs.Common.{refl, ap, subst, sym, ◌∙◌, Option, Some, None, nat_lt, arith, length-append}
use Rattle.std.specs.Prelude.{IfSome, IsSomeAnd, is_none, unwrap_or}
use Rattle.std.proofs.lemmas.Bool.{or_parts}
use Rattle.std.proofs.lemmas.Bool.Decides.{nat_tests}
use Rattle.std.proofs.lemmas.List.{get_or_append_left, get_or_push}
use Rattle.answer_text.specs.declared.answer.Answer.{Answer}
use Rattle.blob_words.specs.declared.status.Status.{Status}
use Rattle.blob_words.specs.declared.status.Status.TheVariants as statuses
use Rattle.blob_entries.specs.Book.{entry_at}
use Rattle.blob_entries.specs.Contents.{made_cells}
use Rattle.blob_entries.specs.Changes.{done_with}
use Rattle.blob_entries.specs.Endings.{Ends, EndsAs, ending, ending_at}
use Rattle.blob_entries.specs.Holdings.{own_views}
use Rattle.blob_entries.specs.Sound.{AreSound, IsSound}
use Rattle.blob_entries.specs.Statuses as code
use Rattle.blob_entries.specs.declared.entry.Entry.{Entry}
use Rattle.blob_items.specs.Cells.{cells}
use Rattle.blob_registry.specs.Passes.{passed}
use Rattle.blob_registry.proofs.Passing.{ending_before, ends_apart, status_of}
use Rattle.blob_model.specs.Builds.{Build}
use Rattle.blob_model.specs.History.{History, said_all}
use Rattle.blob_model.specs.Live.{is_rooted}
use Rattle.blob_model.specs.Order.{named, Distinct}
use Rattle.blob_model.specs.Session.{Session, page_limit}
use Rattle.blob_model.specs.Settle.{ending_answers, endings_of}
use Rattle.blob_model.specs.Standing.{ended}
use Rattle.blob_model.proofs.Lists.{false_true}
use Rattle.blob_model.proofs.live.Agreement.{rooted_said, said_append}
use Rattle.blob_model.proofs.settled.Endings.{ending_only, one_by}
use Rattle.registry_laws.specs.Agree.{Agrees, AgreesToEnd, Beside, IsEntryOf, source_names, told}
use Rattle.registry_laws.proofs.Ends.{AreKnown, told_after}
use Rattle.registry_laws.proofs.Left.{over}
use Rattle.registry_laws.proofs.Lives.{IsBehind, behind_here, behind_next}
use Rattle.registry_laws.proofs.Pass.{StandsAs, agrees_as, all_kept, known_next, marked_as, sound_at, stands_as}
use Rattle.registry_laws.proofs.Places.{ArePlaced, other_name}

abbrev Entries : Type 0
Entries = List (Option Entry)

-- the pass over others leaves how a blob ended
rest_kept : (s : Session) (g : History) (list : List Build) (name : ℕ) → named name list ≡ false → ended (said_all g (endings_of s g list)) name ≡ ended g name
rest_kept s g [] name other = refl
rest_kept s g (build ∷ list) name other =
    let parts = or_parts (build.name == name) (named name list) other in
    let here : ended (said_all g (ending_answers s g build)) name ≡ ended g name =
    one_by s g build (λ (xs : List Answer). ended (said_all g xs) name ≡ ended g name) refl (λ answer e. ending_only s g build answer name e parts.0) in
    ap (λ (h : History). ended h name) (said_append g (ending_answers s g build) (endings_of s (said_all g (ending_answers s g build)) list))
    ∙ rest_kept s (said_all g (ending_answers s g build)) list name parts.1 ∙ here

-- ---- one entry

-- an entry of this status and these roots, which is as it was where it is unfinished
pub record IsAfter (entry : Entry) (status : Status) (now : Entry) : Type 0 where
  pub is : now.status ≡ status
  pub same_roots : now.roots ≡ entry.roots
  pub same_recipe : code.is_pending status ≡ true → now.recipe ≡ entry.recipe

ends_as : (names : List ℕ) (entries : Entries) (entry : Entry) (status : Status) (after : Option Entry) → EndsAs names entries entry (Some status) after
    → IsSomeAnd after (IsAfter entry status)
ends_as names entries entry statuses.Done after so = by after so
  where
    by : (a : Option Entry)
        → IsSomeAnd a (λ (d : Entry). (d ≡ done_with d.views entry) × (cells d.views ≡ made_cells names entries entry.recipe (own_views entry.own)))
        → IsSomeAnd a (IsAfter entry statuses.Done)
    by None so = absurd so
    by (Some d) so = record {
      is = ap (λ (e : Entry). e.status) so.0;
      same_roots = ap (λ (e : Entry). e.roots) so.0;
      same_recipe = λ pending. absurd (false_true pending);
    }
ends_as names entries entry status after so =
    subst (λ (a : Option Entry). IsSomeAnd a (IsAfter entry status)) (sym so) (record { is = refl; same_roots = refl; same_recipe = λ pending. refl })

-- what stands after it was looked at has the status of its ending, or that which it had
looked : (names : List ℕ) (entries : Entries) (entry : Entry) (after : Option Entry) → Ends names entries (Some entry) after
    → IsSomeAnd after (IsAfter entry (unwrap_or (ending names entries entry) entry.status))
looked names entries entry after so = by (ending names entries entry) so
  where
    by : (o : Option Status) → EndsAs names entries entry o after → IsSomeAnd after (IsAfter entry (unwrap_or o entry.status))
    by None so =
        subst (λ (a : Option Entry). IsSomeAnd a (IsAfter entry entry.status)) (sym so) (record { is = refl; same_roots = refl; same_recipe = λ pending. refl })
    by (Some status) so = ends_as names entries entry status after so

status_some : (entry : Entry) (status : Status) (after : Option Entry) → IsSomeAnd after (IsAfter entry status) → status_of after ≡ Some status
status_some entry status None is = absurd is
status_some entry status (Some now) is = ap (λ (t : Status). Some t) is.is

after_agrees : (page : ℕ) (g final : History) (build : Build) (entry : Entry) (status : Status) (after : Option Entry)
    → IsSomeAnd after (IsAfter entry status) → IsEntryOf page g build entry
    → told status ≡ ended final build.name → is_rooted page final build.name ≡ is_rooted page g build.name
    → (code.is_pending status ≡ true → code.is_pending entry.status ≡ true)
    → Agrees page final build after
after_agrees page g final build entry status None is agree end root pending = absurd is
after_agrees page g final build entry status (Some now) is agree end root pending = record {
  status = ap told is.is ∙ end;
  roots = ap (λ (n : ℕ). nat_lt 0 n) is.same_roots ∙ agree.roots ∙ sym root;
  sources = λ still.
      let so : code.is_pending status ≡ true = ap code.is_pending (sym is.is) ∙ still in
      ap source_names (is.same_recipe so) ∙ agree.sources (pending so);
}

-- ---- the pass

-- each entry after the pass is what its ending makes of it
abbrev pub AllEnd : List ℕ → Entries → Entries → Type 0
AllEnd names whole after = (number : ℕ) → Ends names after (entry_at whole number) (entry_at after number)

module _ (s : Session) (names : List ℕ) (whole : Entries) (sound : AreSound names whole) (after : Entries) (each : AllEnd names whole after) where
  -- those before a number stand as the pass left them
  pub record AreAlike (earlier : Entries) : Type 0 where
    pub alike : (k : ℕ) → k < length earlier → status_of (entry_at after k) ≡ status_of (entry_at earlier k)

  same_end : (earlier : Entries) (held : Option Entry) → AreAlike earlier → IfSome held (IsSound names whole (length earlier))
      → ending_at names after held ≡ ending_at names earlier held
  same_end earlier held are fine = ending_before names whole after earlier (length earlier) held fine are.alike

  alike_here : (earlier : Entries) (held : Option Entry) → AreAlike earlier → IfSome held (IsSound names whole (length earlier))
      → entry_at whole (length earlier) ≡ held
      → status_of (entry_at after (length earlier)) ≡ status_of (passed names earlier held)
  alike_here earlier held are fine here =
      by held fine (subst (λ (was : Option Entry). Ends names after was (entry_at after (length earlier))) here (each (length earlier)))
    where
      by : (was : Option Entry) → IfSome was (IsSound names whole (length earlier)) → Ends names after was (entry_at after (length earlier))
          → status_of (entry_at after (length earlier)) ≡ status_of (passed names earlier was)
      by None fine so = ap status_of so
      by (Some entry) fine so =
          status_some entry (unwrap_or (ending names after entry) entry.status) (entry_at after (length earlier))
          (looked names after entry (entry_at after (length earlier)) so)
          ∙ ap (λ (o : Option Status). Some (unwrap_or o entry.status)) (same_end earlier (Some entry) are fine)

  alike_next : (earlier : Entries) (held : Option Entry) → AreAlike earlier → IfSome held (IsSound names whole (length earlier))
      → entry_at whole (length earlier) ≡ held
      → AreAlike (earlier ++ passed names earlier held ∷ [])
  alike_next earlier held are fine here = record { alike = λ k below. pick k below (nat_lt k (length earlier)) refl }
    where
      pick : (k : ℕ) → k < length (earlier ++ passed names earlier held ∷ []) → (b : Bool) → nat_lt k (length earlier) ≡ b
          → status_of (entry_at after k) ≡ status_of (entry_at (earlier ++ passed names earlier held ∷ []) k)
      pick k below true e =
          let within : k < length earlier = grind (arith, nat_tests) in
          are.alike k within ∙ ap status_of (sym (get_or_append_left earlier (passed names earlier held ∷ []) None k within))
      pick k below false e =
          let long : length (earlier ++ passed names earlier held ∷ []) ≡ length earlier + 1 = length-append earlier (passed names earlier held ∷ []) in
          let behind : length earlier ≤ k = grind (arith, nat_tests) in
          let same : k ≡ length earlier = omega arith in
          ap (λ (n : ℕ). status_of (entry_at after n)) same ∙ alike_here earlier held are fine here
          ∙ ap status_of (sym (get_or_push earlier (passed names earlier held) None k (sym same)))

  one_agrees : (earlier : Entries) (g final : History) (build : Build) (held now : Option Entry) → AreKnown names whole earlier g → AreAlike earlier
      → IfSome held (IsSound names whole (length earlier))
      → Agrees (page_limit s) g build held → AgreesToEnd s g build held → Ends names after held now
      → ended final build.name ≡ ended (said_all g (ending_answers s g build)) build.name
      → is_rooted (page_limit s) final build.name ≡ is_rooted (page_limit s) g build.name
      → Agrees (page_limit s) final build now
  one_agrees earlier g final build None now known are fine agree marked so end root =
      subst (Agrees (page_limit s) final build) (sym so) (record {
        ended = ap (λ (o : Option Status). is_none o) end ∙ over g (ending_answers s g build) build.name agree.ended;
        unrooted = root ∙ agree.unrooted;
      })
  one_agrees earlier g final build (Some entry) now known are fine agree marked so end root =
      after_agrees (page_limit s) g final build entry (unwrap_or (ending names after entry) entry.status) now (looked names after entry now so) agree
      (ap (λ (o : Option Status). told (unwrap_or o entry.status)) (same_end earlier (Some entry) are fine)
      ∙ told_after names whole earlier g known s (page_limit s) build entry fine agree marked
      ∙ sym end)
      root (still (ending names after entry) refl)
    where
      still : (o : Option Status) → ending names after entry ≡ o → code.is_pending (unwrap_or o entry.status) ≡ true → code.is_pending entry.status ≡ true
      still None is pending = pending
      still (Some status) is pending = absurd (false_true (sym (ends_apart names after entry status fine.mark is) ∙ pending))

  pub pass_agrees : (earlier : Entries) (g : History) (list : List Build) (entries afters : Entries) → Distinct list → ArePlaced names (length earlier) list
      → Beside (Agrees (page_limit s) g) list entries
      → Beside (AgreesToEnd s g) list entries → IsBehind whole (length earlier) entries → AreKnown names whole earlier g → AreAlike earlier
      → IsBehind after (length earlier) afters
      → length entries ≡ length afters → Beside (Agrees (page_limit s) (said_all g (endings_of s g list))) list afters
  pass_agrees earlier g [] [] [] distinct placed beside marked behind known are now long = tt
  pass_agrees earlier g [] [] (each' ∷ afters) distinct placed beside marked behind known are now long = absurd (omega arith)
  pass_agrees earlier g [] (held ∷ later) afters distinct placed beside marked behind known are now long = absurd beside
  pass_agrees earlier g (build ∷ list) [] afters distinct placed beside marked behind known are now long = absurd beside
  pass_agrees earlier g (build ∷ list) (held ∷ later) [] distinct placed beside marked behind known are now long = absurd (omega arith)
  pass_agrees earlier g (build ∷ list) (held ∷ later) (here ∷ afters) distinct placed beside marked behind known are now long =
      let fine = sound_at s names whole sound (length earlier) held later behind in
      let next = said_all g (ending_answers s g build) in
      let final = said_all next (endings_of s next list) in
      let front = earlier ++ passed names earlier held ∷ [] in
      let at : entry_at whole (length earlier) ≡ held = behind_here whole (length earlier) held later behind in
      let size : length earlier + 1 ≡ length front = sym (length-append earlier (passed names earlier held ∷ [])) in
      let same : (other : Build) → named other.name list ≡ true → StandsAs s g next other =
      λ other there. stands_as s g build other (other_name build list other.name distinct.0 there) in
      let looks : Ends names after held here =
      subst (λ (was : Option Entry). Ends names after was here) at
      (subst (Ends names after (entry_at whole (length earlier))) (behind_here after (length earlier) here afters now) (each (length earlier))) in
      let head : Agrees (page_limit s) final build here =
      one_agrees earlier g final build held here known are fine beside.0 marked.0 looks (rest_kept s next list build.name distinct.0)
      (rooted_said (page_limit s) next (endings_of s next list) build.name ∙ rooted_said (page_limit s) g (ending_answers s g build) build.name) in
      let rest : Beside (Agrees (page_limit s) final) list afters =
      pass_agrees front next list later afters distinct.1 (subst (λ (n : ℕ). ArePlaced names n list) size placed.1)
      (all_kept (Agrees (page_limit s) g) (Agrees (page_limit s) next) list later (λ other each there. agrees_as s g next other each (same other there))
      beside.1)
      (all_kept (AgreesToEnd s g) (AgreesToEnd s next) list later (λ other each there. marked_as s g next other each (same other there)) marked.1)
      (subst (λ (n : ℕ). IsBehind whole n later) size (behind_next whole (length earlier) held later behind))
      (known_next s names whole sound earlier g build held known placed.0 at fine beside.0 marked.0)
      (alike_next earlier held are fine at)
      (subst (λ (n : ℕ). IsBehind after n afters) size (behind_next after (length earlier) here afters now))
      (omega arith) in
      subst (λ (h : History). Beside (Agrees (page_limit s) h) (build ∷ list) (here ∷ afters))
      (sym (said_append g (ending_answers s g build) (endings_of s next list))) (head, rest)
