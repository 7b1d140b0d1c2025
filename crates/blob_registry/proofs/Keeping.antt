-- What is kept of the work, as the two passes go on.
use Rattle.std.proofs.Common.{◌≡◌, ◌≢◌, ℕ, ◌+◌, ◌<◌, ◌≤◌, Bool, true, false, ◌||◌, List, [], Option, Some, None, length, set}
use Rattle.std.proofs.Common.{nat_lt, refl, sym, ap, ◌∙◌, subst, arith, length-set, get_or-set_same, get_or-set_other}
use Rattle.std.specs.Prelude.{IfSome, is_some, slice_index}
use Rattle.std.proofs.lemmas.Bool.Decides.{nat_tests}
use Rattle.std.proofs.lemmas.List.{get_or_past}
use Rattle.blob_words.specs.declared.bounds.TheConstants.{MOST_BLOBS}
use Rattle.blob_words.specs.declared.status.Status.{Status}
use Rattle.blob_entries.specs.declared.entry.Entry.{Entry}
use Rattle.blob_entries.specs.Book.{Book, book_of, entry_at}
use Rattle.blob_entries.specs.Endings.{ending_at, LooksAt}
use Rattle.blob_entries.specs.Leaving.{is_needed, is_rooted, left, lives_at, Leaves}
use Rattle.blob_entries.specs.Sound.{AreSound}
use Rattle.blob_entries.specs.Sources.{needs, sources_at}
use Rattle.blob_entries.specs.Statuses.{is_pending}
use Rattle.blob_entries.proofs.Soundness.{at_other, same_or}
use Rattle.blob_registry.specs.declared.work.Work.{Work}
use Rattle.blob_registry.specs.Dependents.{dependents, dependents_from}
use Rattle.blob_registry.specs.Lists.{list_at, turned, Strikes}
use Rattle.blob_registry.specs.Numbers.{is_among, without, without_if, AreBelow}
use Rattle.blob_registry.specs.Work.{AreKept, AreWhole, Ended, Gone, IsFine, IsNew, StaysAs}
use Rattle.blob_registry.proofs.Numbers.{below_absent}
use Rattle.blob_registry.proofs.Putting.{off_here, turned_places}
use Rattle.blob_registry.proofs.Depending.{dependents_later, depends_below, depends_free, depends_rising, depends_same, depends_struck}
use Rattle.blob_registry.proofs.Depending.{sources_free}
use Rattle.blob_registry.proofs.Endings.{apart_ending, apart_needs, ended_apart, ending_left, ending_unneeded}
use Rattle.blob_registry.proofs.Passing.{looked_none}
use Rattle.blob_registry.proofs.Sweeping.{any_set, any_set_same, fine_here, left_needs_same, unneeded}

abbrev Entries : Type 0
Entries = List (Option Entry)

-- the lists are whole
pub whole_kept : (book : Book) (work : Work) → AreKept book work → AreWhole work
whole_kept book work kept = record {
  looks = kept.looks;
  weighs = kept.weighs;
  rising = λ other. rw (kept.exact other) (depends_rising book.names other 0 book.entries);
  below = λ other n among. omega (
    arith,
    kept.few,
    depends_below book.names other 0 n book.entries
        (subst (λ (list : List ℕ). is_among n list ≡ true) (kept.exact other) among),
  );
}

-- nothing is kept of no entries
pub kept_none : (work : Work) → IsNew work → AreKept (book_of [] []) work
kept_none work new = record {
  few = omega arith;
  looks = new.looks;
  looked = λ number some. refl;
  weighs = new.weighs;
  fine = λ number inside some. nothing (lives_at (book_of [] []) number);
  past = λ number behind inside. new.none number inside;
  long = omega arith;
  exact = λ number. ap (λ (lists : List (List ℕ)). list_at lists number) new.nobody;
}
  where
    nothing : (b : Bool) → left b None ≡ None
    nothing true = refl
    nothing false = refl

-- lists that stay as they were
pub kept_stays : (book : Book) (work next : Work) → StaysAs work next → AreKept book work → AreKept book next
kept_stays book work next stays kept = record {
  few = kept.few;
  looks = rw stays.looks kept.looks;
  looked = rw stays.looks kept.looked;
  weighs = rw stays.weighs kept.weighs;
  fine = rw stays.weighs kept.fine;
  past = rw stays.weighs kept.past;
  long = omega (arith, kept.long, stays.long);
  exact = λ number. stays.same number ∙ kept.exact number;
}

-- an entry that needs nobody any more goes from the lists of its sources
exact_gone : (names : List ℕ) (entries : Entries) (number : ℕ) (after : Option Entry) (lists next : List (List ℕ)) (sources : List ℕ)
    → sources ≡ sources_at names (entry_at entries number)
    → ((k : ℕ) → needs names k after ≡ false) → ((k : ℕ) → list_at lists k ≡ dependents_from names k 0 entries) → Strikes lists next number sources
    → (k : ℕ) → list_at next k ≡ dependents_from names k 0 (set entries number after)
exact_gone names entries number after lists next sources are free exact strikes k = strikes.struck k ∙ by (is_among k sources) refl
  where
    by : (b : Bool) → is_among k sources ≡ b → without_if b number (list_at lists k) ≡ dependents_from names k 0 (set entries number after)
    by true among = let here : 0 + number ≡ number = omega arith in ap (without number) (exact k)
        ∙ sym (depends_struck names k 0 number entries after (free k) ∙ ap (λ (n : ℕ). without n (dependents_from names k 0 entries)) here)
    by false absent =
        let none : needs names k (entry_at entries number) ≡ false = sources_free names k (entry_at entries number)
        (subst (λ (list : List ℕ). is_among k list ≡ false) are absent) in
        exact k ∙ sym (depends_same names k 0 number entries after (free k ∙ sym none))

-- an entry was looked at
pub kept_looked : (now later : Book) (work next : Work) (number : ℕ) (result : Option Status) (sources : List ℕ) → AreSound now.names now.entries
    → number < length now.entries → AreKept now work
    → LooksAt now later number result → sources ≡ sources_at now.names (entry_at now.entries number) → AreBelow number sources
    → (is_some result ≡ false → next ≡ record work { looks = set work.looks number 1 }) → (is_some result ≡ true → Ended work next number sources)
    → AreKept later next
kept_looked now later work next number None sources are inside kept at is below plain ended = rw (looked_none now later number at, plain refl) (record {
  few = kept.few;
  looks = length-set work.looks number 1 ∙ kept.looks;
  looked = λ k some. same_or k number (λ equal. rw equal (sym at.end))
      (λ apart. kept.looked k (λ none. some (get_or-set_other work.looks number k 1 0 apart ∙ none)));
  weighs = kept.weighs;
  fine = kept.fine;
  past = kept.past;
  long = kept.long;
  exact = kept.exact;
})
kept_looked now later work next number (Some status) sources are inside kept at is below plain ended = record {
  few = omega (arith, size, kept.few);
  looks = ends.looks.sized;
  looked = λ k some. subst (λ (ns : List ℕ). ending_at ns later.entries (entry_at later.entries k) ≡ None) (sym at.names)
      (looked k some (nat_lt k MOST_BLOBS) refl);
  weighs = ends.weighs.sized;
  fine = λ k within some. let apart = weighed_apart k within some in still k apart (free k within some)
      (kept.fine k within (weighed_before k within some apart));
  past = λ k behind within some.
      let away : k ≢ number = λ equal. omega (arith, behind, size, inside, equal) in
      let absent : is_among k sources ≡ false = below_absent k sources (λ n among. let under = below n among in omega (arith, under, behind, size, inside)) in
      kept.past k (omega (arith, behind, size)) within
      (sym (get_or-set_other work.weighs (turned number) (turned k) 0 0 ((turned_places number room).1 k within away))
      ∙ sym (ends.weighs.others k within absent) ∙ some);
  long = omega (arith, kept.long, ends.strikes.long, size);
  exact = λ k. subst (λ (ns : List ℕ). list_at next.dependents.items k ≡ dependents_from ns k 0 later.entries) (sym at.names)
      (subst (λ (es : Entries). list_at next.dependents.items k ≡ dependents_from now.names k 0 es) (sym at.others)
      (exact_gone now.names now.entries number (entry_at later.entries number) work.dependents.items next.dependents.items sources is
      (λ j. apart_needs now.names j (entry_at later.entries number) apart_now) kept.exact ends.strikes k));
}
  where
    ends : Ended work next number sources
    ends = ended refl

    size : length later.entries ≡ length now.entries
    size = ap length at.others ∙ length-set now.entries number (entry_at later.entries number)

    room : number < MOST_BLOBS
    room = omega (arith, inside, kept.few)

    apart_now : IfSome (entry_at later.entries number) (λ (entry : Entry). is_pending entry.status ≡ false)
    apart_now = ended_apart now later number status are at

    elsewhere : (k : ℕ) → k ≢ number → entry_at later.entries k ≡ entry_at now.entries k
    elsewhere k apart = ap (λ (e : Entries). entry_at e k) at.others ∙ at_other now.entries number k (entry_at later.entries number) apart

    unneeded_by : (k : ℕ) → is_among k (list_at work.dependents.items number) ≡ false → needs now.names number (entry_at now.entries k) ≡ false
    unneeded_by k absent =
        let here : 0 + k ≡ k = omega arith in
        depends_free now.names number 0 k now.entries
        (subst (λ (n : ℕ). is_among n (dependents now number) ≡ false) (sym here)
        (subst (λ (list : List ℕ). is_among k list ≡ false) (kept.exact number) absent))

    looked : (k : ℕ) → slice_index next.looks k ≢ 0 → (b : Bool) → nat_lt k MOST_BLOBS ≡ b → ending_at now.names later.entries (entry_at later.entries k) ≡ None
    looked k some true below_most = same_or k number
        (λ equal. rw equal (apart_ending now.names later.entries (entry_at later.entries number) apart_now))
        (λ apart. rw (elsewhere k apart) (ap (λ (e : Entries). ending_at now.names e (entry_at now.entries k)) at.others
        ∙ ending_unneeded now.names now.entries number (entry_at later.entries number) (entry_at now.entries k)
        (unneeded_by k (ends.looks.marked k (grind (arith, nat_tests)) some))
        ∙ kept.looked k (λ none. ends.looks.kept k some (get_or-set_other work.looks number k 1 0 apart ∙ none))))
    looked k some false not_below =
        let behind : MOST_BLOBS ≤ k = grind (arith, nat_tests) in
        let none : entry_at later.entries k ≡ None = get_or_past later.entries k None (omega (arith, behind, kept.few, size)) in
        rw none refl

    weighed_apart : (k : ℕ) → k < MOST_BLOBS → slice_index next.weighs (turned k) ≢ 0 → k ≢ number
    weighed_apart k within some equal = ends.weighs.kept (turned k) some (ap (λ (n : ℕ). slice_index (set work.weighs (turned number) 0) (turned n)) equal
        ∙ get_or-set_same work.weighs (turned number) 0 0 (omega (arith, (turned_places number room).0, kept.weighs)))

    weighed_before : (k : ℕ) → k < MOST_BLOBS → slice_index next.weighs (turned k) ≢ 0 → k ≢ number → slice_index work.weighs (turned k) ≢ 0
    weighed_before k within some apart none = ends.weighs.kept (turned k) some
        (get_or-set_other work.weighs (turned number) (turned k) 0 0 ((turned_places number room).1 k within apart) ∙ none)

    free : (k : ℕ) → k < MOST_BLOBS → slice_index next.weighs (turned k) ≢ 0 → needs now.names k (entry_at now.entries number) ≡ false
    free k within some = sources_free now.names k (entry_at now.entries number)
        (subst (λ (list : List ℕ). is_among k list ≡ false) is (ends.weighs.marked k within some))

    still : (k : ℕ) → k ≢ number → needs now.names k (entry_at now.entries number) ≡ false → IsFine now k → IsFine later k
    still k apart none fine =
        subst (λ (ns : List ℕ). left (is_rooted (entry_at later.entries k) || is_needed ns k later.entries)
        (entry_at later.entries k) ≡ entry_at later.entries k) (sym at.names)
        (rw (
          elsewhere k apart,
          ap (is_needed now.names k) at.others
              ∙ any_set (needs now.names k) now.entries number (entry_at later.entries number) none
              (apart_needs now.names k (entry_at later.entries number) apart_now),
        ) fine)

-- an entry was weighed
pub kept_weighed : (now later : Book) (work next : Work) (number : ℕ) (lives : Bool) (sources : List ℕ) → AreSound now.names now.entries
    → number < length now.entries → AreKept now work
    → Leaves now later number lives → lives ≡ lives_at now number → sources ≡ sources_at now.names (entry_at now.entries number) → AreBelow number sources
    → (lives ≡ true → next ≡ record work { weighs = set work.weighs (turned number) 1 }) → (lives ≡ false → Gone work next number sources) → AreKept later next
kept_weighed now later work next number true sources are inside kept leaves lives is below plain gone = rw (plain refl) (record {
  few = omega (arith, size, kept.few);
  looks = kept.looks;
  looked = λ k some. subst (λ (ns : List ℕ). ending_at ns later.entries (entry_at later.entries k) ≡ None) (sym leaves.names)
      (subst (λ (e : Entries). ending_at now.names e (entry_at e k) ≡ None) (sym leaves.entries)
      (ending_left now.names now.entries number true inside (λ dead. absurd (cc)) k (kept.looked k some)));
  weighs = length-set work.weighs (turned number) 1 ∙ kept.weighs;
  fine = λ k within some. same_or k number
      (λ equal. rw equal (fine_here now later number are inside (subst (λ (b : Bool). Leaves now later number b) lives leaves)))
      (λ apart. fine_lived now later number leaves k apart
      (kept.fine k within (λ none. some (get_or-set_other work.weighs (turned number) (turned k) 1 0 ((turned_places number room).1 k within apart)
      ∙ none))));
  past = λ k behind within some. kept.past k (omega (arith, behind, size)) within
      (sym (get_or-set_other work.weighs (turned number) (turned k) 1 0
      ((turned_places number room).1 k within (λ equal. omega (arith, behind, size, inside, equal)))) ∙ some);
  long = omega (arith, kept.long, size);
  exact = λ k. kept.exact k ∙ sym (subst (λ (ns : List ℕ). dependents_from ns k 0 later.entries ≡ dependents_from now.names k 0 now.entries) (sym leaves.names)
      (ap (dependents_from now.names k 0) leaves.entries
      ∙ depends_same now.names k 0 number now.entries (left true (entry_at now.entries number))
      (left_needs_same now.names k (entry_at now.entries number))));
})
  where
    size : length later.entries ≡ length now.entries
    size = ap length leaves.entries ∙ length-set now.entries number (left true (entry_at now.entries number))

    room : number < MOST_BLOBS
    room = omega (arith, inside, kept.few)

    fine_lived : (now later : Book) (number : ℕ) → Leaves now later number true → (k : ℕ) → k ≢ number → IsFine now k → IsFine later k
    fine_lived now later number leaves k apart fine =
        subst (λ (ns : List ℕ). left (is_rooted (entry_at later.entries k) || is_needed ns k later.entries)
        (entry_at later.entries k) ≡ entry_at later.entries k) (sym leaves.names)
        (subst (λ (e : Entries). left (is_rooted (entry_at e k) || is_needed now.names k e) (entry_at e k) ≡ entry_at e k) (sym leaves.entries)
        (rw (
          at_other now.entries number k (left true (entry_at now.entries number)) apart,
          any_set_same (needs now.names k) now.entries number (left true (entry_at now.entries number))
              (left_needs_same now.names k (entry_at now.entries number)),
        ) fine))
kept_weighed now later work next number false sources are inside kept leaves lives is below plain gone = record {
  few = omega (arith, size, kept.few);
  looks = rw went.looks kept.looks;
  looked = λ k some. subst (λ (ns : List ℕ). ending_at ns later.entries (entry_at later.entries k) ≡ None) (sym leaves.names)
      (subst (λ (e : Entries). ending_at now.names e (entry_at e k) ≡ None) (sym leaves.entries)
      (ending_left now.names now.entries number false inside (λ dead. unneeded now number (sym lives)) k
      (kept.looked k (subst (λ (l : List ℕ). slice_index l k ≢ 0) went.looks some))));
  weighs = went.weighs.sized;
  fine = λ k within some. same_or k number
      (λ equal. rw equal (fine_here now later number are inside (subst (λ (b : Bool). Leaves now later number b) lives leaves)))
      (λ apart. fine_dead k apart
      (sources_free now.names k (entry_at now.entries number) (subst (λ (list : List ℕ). is_among k list ≡ false) is (went.weighs.marked k within some)))
      (kept.fine k within (λ none. went.weighs.kept (turned k) some
      (get_or-set_other work.weighs (turned number) (turned k) 1 0 ((turned_places number room).1 k within apart) ∙ none))));
  past = λ k behind within some.
      let absent : is_among k sources ≡ false = below_absent k sources (λ n among. let under = below n among in omega (arith, under, behind, size, inside)) in
      kept.past k (omega (arith, behind, size)) within
      (sym (get_or-set_other work.weighs (turned number) (turned k) 1 0
      ((turned_places number room).1 k within (λ equal. omega (arith, behind, size, inside, equal)))) ∙ sym (went.weighs.others k within absent) ∙ some);
  long = omega (arith, kept.long, went.strikes.long, size);
  exact = λ k. subst (λ (ns : List ℕ). list_at next.dependents.items k ≡ dependents_from ns k 0 later.entries) (sym leaves.names)
      (subst (λ (es : Entries). list_at next.dependents.items k ≡ dependents_from now.names k 0 es) (sym leaves.entries)
      (exact_gone now.names now.entries number None work.dependents.items next.dependents.items sources is (λ j. refl) kept.exact went.strikes k));
}
  where
    went : Gone work next number sources
    went = gone refl

    size : length later.entries ≡ length now.entries
    size = ap length leaves.entries ∙ length-set now.entries number None

    room : number < MOST_BLOBS
    room = omega (arith, inside, kept.few)

    fine_dead : (k : ℕ) → k ≢ number → needs now.names k (entry_at now.entries number) ≡ false → IsFine now k → IsFine later k
    fine_dead k apart none fine =
        subst (λ (ns : List ℕ). left (is_rooted (entry_at later.entries k) || is_needed ns k later.entries)
        (entry_at later.entries k) ≡ entry_at later.entries k) (sym leaves.names)
        (subst (λ (e : Entries). left (is_rooted (entry_at e k) || is_needed now.names k e) (entry_at e k) ≡ entry_at e k) (sym leaves.entries)
        (rw (at_other now.entries number k None apart, any_set (needs now.names k) now.entries number None none refl) fine))

-- the list of the pass, up to a number that was looked at
pub looked_below : (now : Book) (work next : Work) (number : ℕ) (ended : Bool) (sources : List ℕ) → AreSound now.names now.entries
    → number < length now.entries → AreKept now work
    → (ended ≡ false → next ≡ record work { looks = set work.looks number 1 }) → (ended ≡ true → Ended work next number sources)
    → (other : ℕ) → other ≤ number → (other ≢ number → slice_index work.looks other ≢ 0) → slice_index next.looks other ≢ 0
looked_below now work next number ended sources are inside kept plain ends other le was = by ended refl
  where
    room : number < MOST_BLOBS
    room = omega (arith, inside, kept.few)

    off : slice_index (set work.looks number 1) other ≢ 0
    off none = same_or other number
        (λ equal. off_here work.looks number (omega (arith, room, kept.looks)) (ap (slice_index (set work.looks number 1)) (sym equal) ∙ none))
        (λ apart. was apart (sym (get_or-set_other work.looks number other 1 0 apart) ∙ none))

    by : (b : Bool) → ended ≡ b → slice_index next.looks other ≢ 0
    by false is = rw (plain is) off
    by true is = λ none.
        let absent : is_among other (list_at work.dependents.items number) ≡ false = absent_now (is_among other (list_at work.dependents.items number)) refl in
        off (sym ((ends is).looks.others other (omega (arith, le, room)) absent) ∙ none)
      where
        absent_now : (b : Bool) → is_among other (list_at work.dependents.items number) ≡ b → b ≡ false
        absent_now false absent = refl
        absent_now true among = absurd (omega (
          arith,
          le,
          dependents_later now.names now.entries number other are
              (subst (λ (list : List ℕ). is_among other list ≡ true) (kept.exact number) among),
        ))

-- the list of the sweep, from a number on that was weighed
pub weighed_above : (now : Book) (work next : Work) (number : ℕ) (lives : Bool) (sources : List ℕ) → number < length now.entries → AreKept now work
    → AreBelow number sources
    → (lives ≡ true → next ≡ record work { weighs = set work.weighs (turned number) 1 }) → (lives ≡ false → Gone work next number sources)
    → (other : ℕ) → number ≤ other → other < MOST_BLOBS → (other ≢ number → slice_index work.weighs (turned other) ≢ 0)
    → slice_index next.weighs (turned other) ≢ 0
weighed_above now work next number lives sources inside kept below plain gone other le within was = by lives refl
  where
    room : number < MOST_BLOBS
    room = omega (arith, inside, kept.few)

    off : slice_index (set work.weighs (turned number) 1) (turned other) ≢ 0
    off none = same_or other number
        (λ equal. off_here work.weighs (turned number) (omega (arith, (turned_places number room).0, kept.weighs))
        (ap (λ (n : ℕ). slice_index (set work.weighs (turned number) 1) (turned n)) (sym equal) ∙ none))
        (λ apart. was apart (sym (get_or-set_other work.weighs (turned number) (turned other) 1 0 ((turned_places number room).1 other within apart)) ∙ none))

    by : (b : Bool) → lives ≡ b → slice_index next.weighs (turned other) ≢ 0
    by true is = rw (plain is) off
    by false is = λ none.
        let absent : is_among other sources ≡ false = below_absent other sources (λ n among. let under = below n among in omega (arith, under, le)) in
        off (sym ((gone is).weighs.others other within absent) ∙ none)
