-- What is kept of the work, as one entry changes.
use Rattle.std.proofs.Common.{◌≡◌, ◌≢◌, ℕ, ◌<◌, ◌≤◌, Bool, true, false, cond, ◌||◌, List, [], Option, Some, None, length, set}
use Rattle.std.proofs.Common.{nat_lt, refl, sym, ap, ◌∙◌, subst, arith, length-set, get_or-set_same, get_or-set_other}
use Rattle.std.specs.Prelude.{IsSomeAnd, slice_index}
use Rattle.std.specs.Option.{option_map, option_map_or}
use Rattle.std.proofs.lemmas.Bool.Decides.{nat_tests}
use Rattle.blob_words.specs.declared.bounds.TheConstants.{MOST_BLOBS}
use Rattle.blob_words.specs.declared.status.Status.{Status}
use Rattle.blob_words.specs.declared.status.Status.TheVariants.{PendingQuota, PendingReferencedBlobs, PendingTransport}
use Rattle.blob_items.specs.declared.view.View.{View}
use Rattle.blob_entries.specs.declared.entry.Entry.{Entry}
use Rattle.blob_entries.specs.Book.{Book, book_of, changed_at, entry_at}
use Rattle.blob_entries.specs.Changes.{with_bytes, with_mark, with_roots, with_status}
use Rattle.blob_entries.specs.Endings.{ending, ending_at}
use Rattle.blob_entries.specs.Leaving.{is_needed, is_rooted, left, shed}
use Rattle.blob_entries.specs.Sources.{needs}
use Rattle.blob_entries.specs.Statuses.{is_broken, is_done, is_pending}
use Rattle.blob_entries.proofs.Soundness.{at_other, at_same, at_within, same_or}
use Rattle.blob_registry.specs.declared.work.Work.{Work}
use Rattle.blob_registry.specs.Lists.{list_at, turned}
use Rattle.blob_registry.specs.Work.{AreKept, IsFine}
use Rattle.blob_registry.proofs.Depending.{depends_same}
use Rattle.blob_registry.proofs.Endings.{ending_alike, AreAlike}
use Rattle.blob_registry.proofs.Putting.{turned_places}
use Rattle.blob_registry.proofs.Sweeping.{any_set_same}

abbrev Entries : Type 0
Entries = List (Option Entry)

-- an entry that stands for others as it stood
pub record StandsAs (old later : Entry) : Type 0 where
  pub pending : is_pending later.status ≡ is_pending old.status
  pub done : is_done later.status ≡ is_done old.status
  pub broken : is_broken later.status ≡ is_broken old.status
  pub recipe : later.recipe ≡ old.recipe

needs_as : (names : List ℕ) (k : ℕ) (old later : Entry) → StandsAs old later → needs names k (Some later) ≡ needs names k (Some old)
needs_as names k old later same = rw (same.pending, same.recipe) refl

alike_set : (entries : Entries) (number : ℕ) (old later : Entry) → entry_at entries number ≡ Some old → StandsAs old later
    → AreAlike (set entries number (Some later)) entries
alike_set entries number old later is same = record {
  broken = λ k. same_or k number
      (λ equal. rw (equal, at_same entries number (Some later) (at_within entries number old is), is) same.broken)
      (λ apart. ap (λ (h : Option Entry). option_map_or (λ (e : Entry). is_broken e.status) h false) (at_other entries number k (Some later) apart));
  done = λ k. same_or k number
      (λ equal. rw (equal, at_same entries number (Some later) (at_within entries number old is), is) same.done)
      (λ apart. ap (λ (h : Option Entry). option_map_or (λ (e : Entry). is_done e.status) h false) (at_other entries number k (Some later) apart));
}

-- what a fine entry that stands says
pub fine_lives : (b : Bool) (entry : Entry) → left b (Some entry) ≡ Some entry → b ≡ true
fine_lives true entry fine = refl
fine_lives false entry fine = absurd (cc)

pub fine_shed : (b : Bool) (entry : Entry) → left b (Some entry) ≡ Some entry → shed entry ≡ entry
fine_shed true entry fine = cc
fine_shed false entry fine = absurd (cc)

-- one entry is another that stands as it stood; where it may end now or may go, a list says so
pub kept_set : (now : Book) (work next : Work) (number : ℕ) (old later : Entry) → entry_at now.entries number ≡ Some old → StandsAs old later → AreKept now work
    → length next.looks ≡ MOST_BLOBS → ((k : ℕ) → slice_index next.looks k ≢ 0 → slice_index work.looks k ≢ 0)
    → (slice_index next.looks number ≢ 0 → ending now.names now.entries later ≡ ending now.names now.entries old)
    → length next.weighs ≡ MOST_BLOBS → ((k : ℕ) → k < MOST_BLOBS → slice_index next.weighs (turned k) ≢ 0 → slice_index work.weighs (turned k) ≢ 0)
    → ((k : ℕ) → k < MOST_BLOBS → k ≢ number → slice_index next.weighs (turned k) ≡ slice_index work.weighs (turned k))
    → (slice_index next.weighs (turned number) ≢ 0 → (is_rooted (Some old) || is_needed now.names number now.entries) ≡ true → shed old ≡ old
    → ((is_rooted (Some later) || is_needed now.names number now.entries) ≡ true) × (shed later ≡ later))
    → next.dependents.items ≡ work.dependents.items → AreKept (book_of now.names (set now.entries number (Some later))) next
kept_set now work next number old later is same kept looks looked ends weighs weighed others lives dependents = record {
  few = omega (arith, size, kept.few);
  looks = looks;
  looked = λ k some. ending_alike now.names (set now.entries number (Some later)) now.entries (entry_at (set now.entries number (Some later)) k)
      (alike_set now.entries number old later is same) ∙ same_or k number
      (λ equal. rw (equal, here) (ends (λ none. some (ap (slice_index next.looks) equal ∙ none))
      ∙ was_none (looked number (λ none. some (ap (slice_index next.looks) equal ∙ none)))))
      (λ apart. rw (at_other now.entries number k (Some later) apart) (kept.looked k (looked k some)));
  weighs = weighs;
  fine = λ k within some. same_or k number
      (λ equal. rw equal (fine_now (λ none. some (ap (λ (n : ℕ). slice_index next.weighs (turned n)) equal ∙ none))))
      (λ apart. rw (at_other now.entries number k (Some later) apart, needed k) (kept.fine k within (weighed k within some)));
  past = λ k behind within none. kept.past k (omega (arith, behind, size)) within
      (sym (others k within (λ equal. omega (arith, equal, behind, size, inside))) ∙ none);
  long = subst (λ (n : ℕ). n ≤ length next.dependents.items) (sym size) (rw dependents kept.long);
  exact = λ k. ap (λ (lists : List (List ℕ)). list_at lists k) dependents ∙ kept.exact k
      ∙ sym (depends_same now.names k 0 number now.entries (Some later) (needs_as now.names k old later same ∙ ap (needs now.names k) (sym is)));
}
  where
    inside : number < length now.entries
    inside = at_within now.entries number old is

    size : length (set now.entries number (Some later)) ≡ length now.entries
    size = length-set now.entries number (Some later)

    here : entry_at (set now.entries number (Some later)) number ≡ Some later
    here = at_same now.entries number (Some later) inside

    was_none : slice_index work.looks number ≢ 0 → ending now.names now.entries old ≡ None
    was_none some = subst (λ (h : Option Entry). ending_at now.names now.entries h ≡ None) is (kept.looked number some)

    needed : (k : ℕ) → is_needed now.names k (set now.entries number (Some later)) ≡ is_needed now.names k now.entries
    needed k = any_set_same (needs now.names k) now.entries number (Some later) (needs_as now.names k old later same ∙ ap (needs now.names k) (sym is))

    fine_now : slice_index next.weighs (turned number) ≢ 0 → IsFine (book_of now.names (set now.entries number (Some later))) number
    fine_now some =
        let was : left (is_rooted (Some old) || is_needed now.names number now.entries) (Some old) ≡ Some old =
        subst (λ (h : Option Entry). left (is_rooted h || is_needed now.names number now.entries) h ≡ h) is
        (kept.fine number (omega (arith, inside, kept.few)) (weighed number (omega (arith, inside, kept.few)) some)) in
        let parts = lives some (fine_lives (is_rooted (Some old) || is_needed now.names number now.entries) old was)
        (fine_shed (is_rooted (Some old) || is_needed now.names number now.entries) old was) in
        rw (here, needed number, parts.0) (ap (λ (e : Entry). Some e) parts.1)

-- a pending entry isn't broken, nor done
pending_whole : (entry : Entry) → is_pending entry.status ≡ true → shed entry ≡ entry
pending_whole entry pending = rw (apart entry.status pending) refl
  where
    apart : (status : Status) → is_pending status ≡ true → is_broken status ≡ false
    apart PendingQuota is = refl
    apart PendingTransport is = refl
    apart PendingReferencedBlobs is = refl
    apart status is = absurd (cc)

-- an unfinished entry that stays unfinished, with its recipe and its roots, and at which the next pass looks
pub kept_look : (now : Book) (work : Work) (number : ℕ) (old later : Entry) → entry_at now.entries number ≡ Some old → AreKept now work
    → is_pending old.status ≡ true → is_pending later.status ≡ true
    → StandsAs old later → later.roots ≡ old.roots
    → AreKept (book_of now.names (set now.entries number (Some later))) (record work { looks = set work.looks number 0 })
kept_look now work number old later is kept was pending same roots =
    kept_set now work (record work { looks = set work.looks number 0 }) number old later is same kept
    (length-set work.looks number 0 ∙ kept.looks)
    (λ k some. same_or k number
    (λ equal. absurd (some (ap (slice_index (set work.looks number 0)) equal ∙ off)))
    (λ apart none. some (get_or-set_other work.looks number k 0 0 apart ∙ none)))
    (λ some. absurd (some off))
    kept.weighs (λ k within some. some) (λ k within apart. refl)
    (λ some lives whole. (rw roots lives, pending_whole later pending))
    refl
  where
    off : slice_index (set work.looks number 0) number ≡ 0
    off = get_or-set_same work.looks number 0 0 (let within = at_within now.entries number old is in omega (arith, within, kept.few, kept.looks))

shed_roots : (roots : ℕ) (entry : Entry) → shed entry ≡ entry → shed (with_roots roots entry) ≡ with_roots roots entry
shed_roots roots entry whole = by (is_broken entry.status) refl whole
  where
    by : (b : Bool) → is_broken entry.status ≡ b → cond b (record entry { recipe = []; own = None; views = [] }) entry ≡ entry
        → cond b (record (with_roots roots entry) { recipe = []; own = None; views = [] }) (with_roots roots entry) ≡ with_roots roots entry
    by false is same = refl
    by true is same = ap (with_roots roots) same

-- an entry with other roots, where it has some
pub kept_rooted : (now : Book) (work : Work) (number roots : ℕ) (old : Entry) → entry_at now.entries number ≡ Some old → AreKept now work → 0 < roots
    → AreKept (book_of now.names (set now.entries number (Some (with_roots roots old)))) work
kept_rooted now work number roots old is kept some_roots =
    kept_set now work work number old (with_roots roots old) is (record { pending = refl; done = refl; broken = refl; recipe = refl }) kept
    kept.looks (λ k some. some) (λ some. refl) kept.weighs (λ k within some. some) (λ k within apart. refl)
    (λ some lives whole. (ap (λ (b : Bool). b || is_needed now.names number now.entries) rooted, shed_roots roots old whole))
    refl
  where
    rooted : nat_lt 0 roots ≡ true
    rooted = grind (arith, nat_tests)

-- an entry whose roots change, and which the next sweep weighs
pub kept_weigh : (now : Book) (work : Work) (number roots : ℕ) (old : Entry) → entry_at now.entries number ≡ Some old → AreKept now work
    → AreKept (book_of now.names (set now.entries number (Some (with_roots roots old)))) (record work { weighs = set work.weighs (turned number) 0 })
kept_weigh now work number roots old is kept =
    kept_set now work (record work { weighs = set work.weighs (turned number) 0 }) number old (with_roots roots old) is
    (record { pending = refl; done = refl; broken = refl; recipe = refl }) kept
    kept.looks (λ k some. some) (λ some. refl)
    (length-set work.weighs (turned number) 0 ∙ kept.weighs)
    (λ k within some. same_or k number
    (λ equal. absurd (some (ap (λ (n : ℕ). slice_index (set work.weighs (turned number) 0) (turned n)) equal ∙ off)))
    (λ apart none. some (away k within apart ∙ none)))
    (λ k within apart. away k within apart)
    (λ some lives whole. absurd (some off))
    refl
  where
    room : number < MOST_BLOBS
    room = let within = at_within now.entries number old is in omega (arith, within, kept.few)

    off : slice_index (set work.weighs (turned number) 0) (turned number) ≡ 0
    off = get_or-set_same work.weighs (turned number) 0 0 (omega (arith, (turned_places number room).0, kept.weighs))

    away : (k : ℕ) → k < MOST_BLOBS → k ≢ number → slice_index (set work.weighs (turned number) 0) (turned k) ≡ slice_index work.weighs (turned k)
    away k within apart = get_or-set_other work.weighs (turned number) (turned k) 0 0 ((turned_places number room).1 k within apart)

-- the calls, of what stands under a build number
pub kept_marked : (now : Book) (work : Work) (number : ℕ) (why : Status)
    → IsSomeAnd (entry_at now.entries number) (λ (entry : Entry). is_pending entry.status ≡ true) → AreKept now work
    → AreKept (changed_at now number (with_mark why)) (record work { looks = set work.looks number 0 })
kept_marked now work number why there kept = by (entry_at now.entries number) refl there
  where
    by : (held : Option Entry) → entry_at now.entries number ≡ held → IsSomeAnd held (λ (entry : Entry). is_pending entry.status ≡ true)
        → AreKept (book_of now.names (set now.entries number (option_map (with_mark why) held))) (record work { looks = set work.looks number 0 })
    by None is some = absurd some
    by (Some entry) is some = kept_look now work number entry (with_mark why entry) is kept some some
        (record { pending = refl; done = refl; broken = refl; recipe = refl }) refl

pending_tests : (one other : Status) → is_pending one ≡ true → is_pending other ≡ true → (is_done one ≡ is_done other) × (is_broken one ≡ is_broken other)
pending_tests one other is so = rw (done one is, done other so, broken one is, broken other so) (refl, refl)
  where
    done : (status : Status) → is_pending status ≡ true → is_done status ≡ false
    done PendingQuota is = refl
    done PendingTransport is = refl
    done PendingReferencedBlobs is = refl
    done status is = absurd (cc)

    broken : (status : Status) → is_pending status ≡ true → is_broken status ≡ false
    broken PendingQuota is = refl
    broken PendingTransport is = refl
    broken PendingReferencedBlobs is = refl
    broken status is = absurd (cc)

stands_pending : (old later : Entry) → is_pending old.status ≡ true → is_pending later.status ≡ true → later.recipe ≡ old.recipe → StandsAs old later
stands_pending old later was is recipe = let tests = pending_tests later.status old.status is was in record {
  pending = is
      ∙ sym was;
  done = tests.0;
  broken = tests.1;
  recipe = recipe;
}

pub kept_transport : (now : Book) (work : Work) (number : ℕ) → IsSomeAnd (entry_at now.entries number) (λ (entry : Entry). is_pending entry.status ≡ true)
    → AreKept now work
    → AreKept (changed_at now number (with_status PendingTransport)) (record work { looks = set work.looks number 0 })
kept_transport now work number there kept = by (entry_at now.entries number) refl there
  where
    by : (held : Option Entry) → entry_at now.entries number ≡ held → IsSomeAnd held (λ (entry : Entry). is_pending entry.status ≡ true)
        → AreKept (book_of now.names (set now.entries number (option_map (with_status PendingTransport) held)))
        (record work { looks = set work.looks number 0 })
    by None is some = absurd some
    by (Some entry) is some = kept_look now work number entry (with_status PendingTransport entry) is kept some refl
        (stands_pending entry (with_status PendingTransport entry) some refl refl) refl

pub kept_brought : (now : Book) (work : Work) (number : ℕ) (own : List View)
    → IsSomeAnd (entry_at now.entries number) (λ (entry : Entry). is_pending entry.status ≡ true) → AreKept now work
    → AreKept (changed_at now number (with_bytes own)) (record work { looks = set work.looks number 0 })
kept_brought now work number own there kept = by (entry_at now.entries number) refl there
  where
    by : (held : Option Entry) → entry_at now.entries number ≡ held → IsSomeAnd held (λ (entry : Entry). is_pending entry.status ≡ true)
        → AreKept (book_of now.names (set now.entries number (option_map (with_bytes own) held))) (record work { looks = set work.looks number 0 })
    by None is some = absurd some
    by (Some entry) is some = kept_look now work number entry (with_bytes own entry) is kept some refl
        (stands_pending entry (with_bytes own entry) some refl refl) refl

pub kept_held : (now : Book) (work : Work) (number roots : ℕ) (P : Entry → Type 0) → IsSomeAnd (entry_at now.entries number) P → AreKept now work
    → 0 < roots → AreKept (changed_at now number (with_roots roots)) work
kept_held now work number roots P there kept some_roots = by (entry_at now.entries number) refl there
  where
    by : (held : Option Entry) → entry_at now.entries number ≡ held → IsSomeAnd held P
        → AreKept (book_of now.names (set now.entries number (option_map (with_roots roots) held))) work
    by None is some = absurd some
    by (Some entry) is some = kept_rooted now work number roots entry is kept some_roots

pub kept_let_go : (now : Book) (work : Work) (number roots : ℕ) (P : Entry → Type 0) → IsSomeAnd (entry_at now.entries number) P → AreKept now work
    → AreKept (changed_at now number (with_roots roots)) (record work { weighs = set work.weighs (turned number) 0 })
kept_let_go now work number roots P there kept = by (entry_at now.entries number) refl there
  where
    by : (held : Option Entry) → entry_at now.entries number ≡ held → IsSomeAnd held P
        → AreKept (book_of now.names (set now.entries number (option_map (with_roots roots) held))) (record work { weighs = set work.weighs (turned number) 0 })
    by None is some = absurd some
    by (Some entry) is some = kept_weigh now work number roots entry is kept

-- an entry that stands has a place on the lists
pub kept_within : (now : Book) (work : Work) (number : ℕ) (P : Entry → Type 0) → IsSomeAnd (entry_at now.entries number) P → AreKept now work
    → number < MOST_BLOBS
kept_within now work number P there kept = by (entry_at now.entries number) refl there
  where
    by : (held : Option Entry) → entry_at now.entries number ≡ held → IsSomeAnd held P → number < MOST_BLOBS
    by None is some = absurd some
    by (Some entry) is some = let within : number < length now.entries = at_within now.entries number entry is in omega (arith, within, kept.few)

-- one that waits for room is unfinished
pub waits_pending : (held : Option Entry) → IsSomeAnd held (λ (entry : Entry). entry.status ≡ PendingQuota)
    → IsSomeAnd held (λ (entry : Entry). is_pending entry.status ≡ true)
waits_pending None there = absurd there
waits_pending (Some entry) there = ap is_pending there
