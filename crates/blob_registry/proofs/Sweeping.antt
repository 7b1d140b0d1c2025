-- The sweep over entries, in falling build number.
use Rattle.std.proofs.Common.{◌≡◌, ◌≢◌, ℕ, zero, suc, ◌+◌, ◌-◌, ◌<◌, ◌≤◌, Bool, true, false, cond, ◌&&◌, ◌||◌, List, [], ◌∷◌, ◌++◌, Option, Some, None}
use Rattle.std.proofs.Common.{length, set, drop, nat_eq, refl, sym, ap, ◌∙◌, subst, arith, length-set, append-nil}
use Rattle.std.specs.Prelude.{IfSome, IsSomeAnd, slice_index}
use Rattle.std.specs.Option.{option_map_or}
use Rattle.std.specs.List.{AllByRecursion, list_any}
use Rattle.std.proofs.lemmas.Bool.Decides.{nat_tests}
use Rattle.std.proofs.lemmas.List.{drop_all, drop_more, drop-set, set-get_or}
use Rattle.blob_items.specs.declared.view.View.{View}
use Rattle.blob_entries.specs.declared.entry.Entry.{Entry}
use Rattle.blob_entries.specs.declared.step.Step.{Step}
use Rattle.blob_entries.specs.declared.step.Step.TheVariants.{Own, Fixed, Source}
use Rattle.blob_entries.proofs.Finishing.{broken_apart}
use Rattle.blob_entries.proofs.Soundness.{at_other, at_same}
use Rattle.blob_entries.specs.Book.{Book, entry_at}
use Rattle.blob_entries.specs.Holdings.{held_views}
use Rattle.blob_entries.specs.Leaving.{Leaves, LetsGo, gone_name, gone_views, is_needed, is_rooted, left, lives_at}
use Rattle.blob_entries.specs.Names.{number_of}
use Rattle.blob_entries.specs.Sound.{AreSound, IsSound, StepFits}
use Rattle.blob_entries.specs.Sources.{needs, some_source}
use Rattle.blob_entries.specs.Statuses.{is_broken, is_pending}
use Rattle.blob_registry.specs.Sweeps.{Sweeping, dropped, let_go, swept}
use Rattle.item_shares.specs.declared.item.Item.{Item}
use Rattle.item_shares.specs.declared.shares.Share.{Share}
use Rattle.blob_registry.specs.Work.{IsFine}

abbrev Entries : Type 0
Entries = List (Option Entry)

-- a source is of a lesser number, so nobody needs one that isn't before him
no_later : (names : List ℕ) (entries : Entries) (number later : ℕ) (steps : List Step) → number ≤ later
    → AllByRecursion (StepFits names entries number) steps → some_source names (λ (source : ℕ). nat_eq source later) steps ≡ false
no_later names entries number later [] le fits = refl
no_later names entries number later (Own piece len ∷ steps) le fits = no_later names entries number later steps le fits.1
no_later names entries number later (Fixed view ∷ steps) le fits = no_later names entries number later steps le fits.1
no_later names entries number later (Source name off len ∷ steps) le fits = rw (by (number_of name names) fits.0)
    (no_later names entries number later steps le fits.1)
  where
    by : (source : Option ℕ) → IsSomeAnd source (λ (s : ℕ). (s < number) × IsSomeAnd (entry_at entries s) (λ (entry : Entry). off + len ≤ entry.size))
        → option_map_or (λ (s : ℕ). nat_eq s later) source false ≡ false
    by None has = refl
    by (Some s) has = let below : s < number = has.0 in grind (arith, nat_tests)

pub needs_none : (names : List ℕ) (entries : Entries) (number later : ℕ) (held : Option Entry) → IfSome held (IsSound names entries number) → number ≤ later
    → needs names later held ≡ false
needs_none names entries number later None sound le = refl
needs_none names entries number later (Some entry) sound le = by (is_pending entry.status) refl
  where
    by : (p : Bool) → is_pending entry.status ≡ p → (p && some_source names (λ (source : ℕ). nat_eq source later) entry.recipe) ≡ false
    by false is = refl
    by true is = no_later names entries number later entry.recipe le (sound.steps is)

-- whoever needs it stands behind it
any_behind : (p : Option Entry → Bool) (entries : Entries) (n : ℕ) → ((k : ℕ) → k < n → p (entry_at entries k) ≡ false)
    → list_any p (drop n entries) ≡ list_any p entries
any_behind p entries zero none = refl
any_behind p [] (suc n) none = refl
any_behind p (held ∷ entries) (suc n) none = rw (none 0 (omega arith)) (any_behind p entries n (λ k below. none (suc k) (omega arith)))

pub needed_behind : (names : List ℕ) (entries : Entries) (number : ℕ) → AreSound names entries
    → is_needed names number (drop (number + 1) entries) ≡ is_needed names number entries
needed_behind names entries number are = any_behind (needs names number) entries (number + 1)
    (λ k below. needs_none names entries k number (entry_at entries k) (are.each k) (omega arith))

-- a change at a number that didn't need another, and doesn't
pub any_set : (p : Option Entry → Bool) (entries : Entries) (number : ℕ) (later : Option Entry) → p (entry_at entries number) ≡ false → p later ≡ false
    → list_any p (set entries number later) ≡ list_any p entries
any_set p [] number later was is = refl
any_set p (held ∷ entries) zero later was is = rw (was, is) refl
any_set p (held ∷ entries) (suc number) later was is = ap (λ (rest : Bool). p held || rest) (any_set p entries number later was is)

-- a change that leaves whom it needs
pub any_set_same : (p : Option Entry → Bool) (entries : Entries) (number : ℕ) (later : Option Entry) → p later ≡ p (entry_at entries number)
    → list_any p (set entries number later) ≡ list_any p entries
any_set_same p [] number later same = refl
any_set_same p (held ∷ entries) zero later same = ap (λ (b : Bool). b || list_any p entries) same
any_set_same p (held ∷ entries) (suc number) later same = ap (λ (rest : Bool). p held || rest) (any_set_same p entries number later same)

-- an entry that lives needs whom it needed
pub left_needs_same : (names : List ℕ) (number : ℕ) (held : Option Entry) → needs names number (left true held) ≡ needs names number held
left_needs_same names number None = refl
left_needs_same names number (Some entry) = by (is_broken entry.status) refl
  where
    by : (b : Bool) → is_broken entry.status ≡ b
        → needs names number (Some (cond b (record entry { recipe = []; own = None; views = [] }) entry)) ≡ needs names number (Some entry)
    by false is = refl
    by true is = let apart = broken_apart entry.status is in rw (apart.0) refl

-- what is left of an entry needs what it needed or nothing, and has its roots
pub left_needs : (names : List ℕ) (number : ℕ) (lives : Bool) (held : Option Entry) → needs names number held ≡ false
    → needs names number (left lives held) ≡ false
left_needs names number false held was = refl
left_needs names number true None was = refl
left_needs names number true (Some entry) was = by (is_broken entry.status) refl
  where
    by : (b : Bool) → is_broken entry.status ≡ b → needs names number (Some (cond b (record entry { recipe = []; own = None; views = [] }) entry)) ≡ false
    by false is = was
    by true is = both (is_pending entry.status)
      where
        both : (p : Bool) → (p && false) ≡ false
        both true = refl
        both false = refl

left_rooted : (held : Option Entry) → is_rooted (left true held) ≡ is_rooted held
left_rooted None = refl
left_rooted (Some entry) = by (is_broken entry.status)
  where
    by : (b : Bool) → is_rooted (Some (cond b (record entry { recipe = []; own = None; views = [] }) entry)) ≡ is_rooted (Some entry)
    by false = refl
    by true = refl

left_left : (held : Option Entry) → left true (left true held) ≡ left true held
left_left None = refl
left_left (Some entry) = by (is_broken entry.status) refl
  where
    by : (b : Bool) → is_broken entry.status ≡ b
        → left true (Some (cond b (record entry { recipe = []; own = None; views = [] }) entry)) ≡ Some
        (cond b (record entry { recipe = []; own = None; views = [] }) entry)
    by false is = rw is refl
    by true is = rw is refl

-- such an entry has nothing to let go
fine_views : (lives : Bool) (held : Option Entry) → left lives held ≡ held → gone_views lives held ≡ []
fine_views false None fine = refl
fine_views false (Some entry) fine = absurd (cc)
fine_views true None fine = refl
fine_views true (Some entry) fine = by (is_broken entry.status) refl fine
  where
    by : (b : Bool) → is_broken entry.status ≡ b → Some (cond b (record entry { recipe = []; own = None; views = [] }) entry) ≡ Some entry
        → cond b (held_views entry) [] ≡ []
    by false is same = refl
    by true is same = let shed_is : record entry { recipe = []; own = None; views = [] } ≡ entry = cc in ap held_views (sym shed_is)

fine_name : (lives : Bool) (name : ℕ) (held : Option Entry) → left lives held ≡ held → gone_name lives name held ≡ []
fine_name true name held fine = refl
fine_name false name None fine = refl
fine_name false name (Some entry) fine = absurd (cc)

-- how far the sweep is: the entries from a number on are swept
pub record Sweeps (old now : Book) (bound : ℕ) (names : List ℕ) (views : List View) : Type 0 where
  pub same : now.names ≡ old.names
  pub sized : length now.entries ≡ length old.entries
  pub front : (k : ℕ) → k < bound → entry_at now.entries k ≡ entry_at old.entries k
  pub behind : swept old.names bound (drop bound old.entries) ≡ drop bound now.entries
  pub dropped_so : names ≡ dropped old.names bound (drop bound old.entries)
  pub let_go_so : views ≡ let_go old.names bound (drop bound old.entries)

pub sweeps_none : (old : Book) (bound : ℕ) → length old.entries ≤ bound → Sweeps old old bound [] []
sweeps_none old bound past = record {
  same = refl;
  sized = refl;
  front = λ k below. refl;
  behind = rw (drop_all bound old.entries past) refl;
  dropped_so = rw (drop_all bound old.entries past) refl;
  let_go_so = rw (drop_all bound old.entries past) refl;
}

-- one number down
pub sweeps_down : (old now later : Book) (number : ℕ) (names : List ℕ) (views : List View) → AreSound now.names now.entries
    → Sweeps old now (number + 1) names views → number < length now.entries
    → Leaves now later number (lives_at now number)
    → Sweeps old later number (names ++ gone_name (lives_at now number) (slice_index now.names number) (entry_at now.entries number))
    (views ++ gone_views (lives_at now number) (entry_at now.entries number))
sweeps_down old now later number names views are sweeps inside leaves = record {
  same = leaves.names ∙ sweeps.same;
  sized = ap length leaves.entries ∙ length-set now.entries number (left lives held) ∙ sweeps.sized;
  front = λ k below. ap (λ (e : Entries). entry_at e k) leaves.entries ∙ at_other now.entries number k (left lives held) (λ equal. omega arith)
      ∙ sweeps.front k (omega arith);
  behind = ap (swept old.names number) split ∙ here ∙ sym (ap (drop number) leaves.entries ∙ drop-set now.entries number (left lives held) inside);
  dropped_so = rw split (rw (sweeps.behind, lives_is) (ap (λ (n : List ℕ). n ++ gone_name lives (slice_index now.names number) held) sweeps.dropped_so
      ∙ ap (λ (n : List ℕ). dropped old.names (number + 1) (drop (number + 1) old.entries) ++ gone_name lives (slice_index n number) held) sweeps.same));
  let_go_so = rw split (rw (sweeps.behind, lives_is) (ap (λ (v : List View). v ++ gone_views lives held) sweeps.let_go_so));
}
  where
    lives : Bool
    lives = lives_at now number

    held : Option Entry
    held = entry_at now.entries number

    split : drop number old.entries ≡ held ∷ drop (number + 1) old.entries
    split = drop_more old.entries number None (omega (arith, sweeps.sized, inside))
        ∙ ap (λ (h : Option Entry). h ∷ drop (number + 1) old.entries) (sym (sweeps.front number (omega arith)))

    lives_is : (is_rooted held || is_needed old.names number (drop (number + 1) now.entries)) ≡ lives
    lives_is = ap (λ (ns : List ℕ). is_rooted held || is_needed ns number (drop (number + 1) now.entries)) (sym sweeps.same)
        ∙ ap (λ (b : Bool). is_rooted held || b) (needed_behind now.names now.entries number are)

    here : swept old.names number (held ∷ drop (number + 1) old.entries) ≡ left lives held ∷ drop (number + 1) now.entries
    here = rw (sweeps.behind, lives_is) refl

pub sweeps_all : (old now : Book) (names : List ℕ) (views : List View) → Sweeps old now 0 names views
    → (now.entries ≡ swept old.names 0 old.entries) × (names ≡ dropped old.names 0 old.entries) × (views ≡ let_go old.names 0 old.entries)
sweeps_all old now names views sweeps = (sym sweeps.behind, sweeps.dropped_so, sweeps.let_go_so)

-- nobody needs what isn't needed
pub unneeded : (book : Book) (number : ℕ) → lives_at book number ≡ false → (other : ℕ) → needs book.names number (entry_at book.entries other) ≡ false
unneeded book number dead other = each book.entries (second (is_rooted (entry_at book.entries number)) (is_needed book.names number book.entries) dead) other
  where
    first : (a b : Bool) → (a || b) ≡ false → a ≡ false
    first false b is = refl
    first true b is = absurd (cc)

    second : (a b : Bool) → (a || b) ≡ false → b ≡ false
    second false b is = is
    second true b is = absurd (cc)

    each : (entries : Entries) → list_any (needs book.names number) entries ≡ false → (k : ℕ) → needs book.names number (entry_at entries k) ≡ false
    each [] is k = refl
    each (held ∷ entries) is zero = first (needs book.names number held) (list_any (needs book.names number) entries) is
    each (held ∷ entries) is (suc k) = each entries (second (needs book.names number held) (list_any (needs book.names number) entries) is) k

-- one number down, where the bounds are written otherwise
pub sweeps_next : (old now later : Book) (number above below : ℕ) (names next : List ℕ) (views : List View) → AreSound now.names now.entries
    → Sweeps old now above names views → number < length now.entries → above ≡ number + 1 → below ≡ number
    → Leaves now later number (lives_at now number)
    → next ≡ names ++ gone_name (lives_at now number) (slice_index now.names number) (entry_at now.entries number)
    → Sweeps old later below next (views ++ gone_views (lives_at now number) (entry_at now.entries number))
sweeps_next old now later number above below names next views are sweeps inside up down leaves noted =
    rw (down, noted) (sweeps_down old now later number names views are (subst (λ (bound : ℕ). Sweeps old now bound names views) up sweeps) inside leaves)

-- the others are as fine as they were, where the entry that was left didn't need them
pub fine_kept : (now later : Book) (number : ℕ) (lives : Bool) → Leaves now later number lives → (other : ℕ) → other ≢ number
    → needs now.names other (entry_at now.entries number) ≡ false → IsFine now other → IsFine later other
fine_kept now later number lives leaves other apart free fine =
    subst (λ (ns : List ℕ). left (is_rooted (entry_at later.entries other) || is_needed ns other later.entries)
    (entry_at later.entries other) ≡ entry_at later.entries other) (sym leaves.names)
    (subst (λ (e : Entries). left (is_rooted (entry_at e other) || is_needed now.names other e) (entry_at e other) ≡ entry_at e other) (sym leaves.entries)
    (rw (
      at_other now.entries number other (left lives (entry_at now.entries number)) apart,
      any_set (needs now.names other) now.entries number
          (left lives (entry_at now.entries number)) free (left_needs now.names other lives (entry_at now.entries number) free),
    ) fine))

-- the entry that was left is fine
pub fine_here : (now later : Book) (number : ℕ) → AreSound now.names now.entries → number < length now.entries
    → Leaves now later number (lives_at now number) → IsFine later number
fine_here now later number are inside leaves =
    subst (λ (ns : List ℕ). left (is_rooted (entry_at later.entries number) || is_needed ns number later.entries)
    (entry_at later.entries number) ≡ entry_at later.entries number) (sym leaves.names)
    (subst (λ (e : Entries). left (is_rooted (entry_at e number) || is_needed now.names number e) (entry_at e number) ≡ entry_at e number) (sym leaves.entries)
    (rw (
      at_same now.entries number (left lives held) inside,
      any_set (needs now.names number) now.entries number (left lives held) free
          (left_needs now.names number lives held free),
    ) (by (is_rooted held) (is_needed now.names number now.entries) refl refl)))
  where
    held : Option Entry
    held = entry_at now.entries number

    lives : Bool
    lives = lives_at now number

    free : needs now.names number held ≡ false
    free = needs_none now.names now.entries number number held (are.each number) (omega arith)

    nothing : (b : Bool) → left b None ≡ None
    nothing true = refl
    nothing false = refl

    by : (r n : Bool) → is_rooted held ≡ r → is_needed now.names number now.entries ≡ n
        → left (is_rooted (left (r || n) held) || n) (left (r || n) held) ≡ left (r || n) held
    by true n rooted needed = rw (left_rooted held, rooted) (left_left held)
    by false true rooted needed = rw (left_rooted held, rooted) (left_left held)
    by false false rooted needed = refl

-- the sweep goes over fine entries
pub sweeps_jump : (old now : Book) (count bound : ℕ) (names : List ℕ) (views : List View) → AreSound now.names now.entries
    → Sweeps old now (bound + count) names views → bound + count ≤ length now.entries
    → ((k : ℕ) → bound ≤ k → k < bound + count → IsFine now k) → Sweeps old now bound names views
sweeps_jump old now zero bound names views are sweeps within fine = let same : bound + zero ≡ bound = omega arith in subst
    (λ (b : ℕ). Sweeps old now b names views) same sweeps
sweeps_jump old now (suc count) bound names views are sweeps within fine =
    let number : ℕ = bound + count in
    let next : bound + suc count ≡ number + 1 = omega arith in
    let here : IsFine now number = fine number (omega arith) (omega arith) in
    let stays : Leaves now now number (lives_at now number) = record {
      names = refl;
      entries = sym
          (ap (set now.entries number) here ∙ set-get_or now.entries number None);
    } in
    let down = sweeps_down old now now number names views are (subst (λ (b : ℕ). Sweeps old now b names views) next sweeps) (omega arith) stays in
    let no_name : names ++ gone_name (lives_at now number) (slice_index now.names number) (entry_at now.entries number) ≡ names = ap
    (λ (n : List ℕ). names ++ n) (fine_name (lives_at now number) (slice_index now.names number) (entry_at now.entries number) here) ∙ append-nil names in
    let no_views : views ++ gone_views (lives_at now number) (entry_at now.entries number) ≡ views = ap (λ (v : List View). views ++ v)
    (fine_views (lives_at now number) (entry_at now.entries number) here) ∙ append-nil views in
    sweeps_jump old now count bound names views are
    (subst (λ (v : List View). Sweeps old now number names v) no_views
    (subst (λ (n : List ℕ). Sweeps old now number n (views ++ gone_views (lives_at now number) (entry_at now.entries number))) no_name down))
    (omega arith) (λ k above below. fine k above (omega arith))

-- over fine entries, down to a number
pub sweeps_to : (old now : Book) (number bound : ℕ) (names : List ℕ) (views : List View) → AreSound now.names now.entries → Sweeps old now bound names views
    → number ≤ bound → bound ≤ length now.entries
    → ((k : ℕ) → number ≤ k → k < bound → IsFine now k) → Sweeps old now number names views
sweeps_to old now number bound names views are sweeps le within fine =
    let jump : number + (bound - number) ≡ bound = omega arith in
    sweeps_jump old now (bound - number) number names views are (subst (λ (b : ℕ). Sweeps old now b names views) (sym jump) sweeps)
    (omega (arith, jump, within)) (λ k above below. fine k above (omega (arith, jump, below)))

-- the sweep is done
pub swept_end : (old now : Book) (names : List ℕ) (views : List View) (shares later : List (Option Share)) (freed : List Item)
    → Sweeps old now 0 names views → LetsGo views shares later [] freed → Sweeping old now names shares later freed
swept_end old now names views shares later freed sweeps lets_go = record {
  names = sweeps.same;
  entries = (sweeps_all old now names views sweeps).0;
  dropped_so = (sweeps_all old now names views sweeps).1;
  lets_go = subst (λ (gone : List View). LetsGo gone shares later [] freed) (sweeps_all old now names views sweeps).2 lets_go;
}

-- an entry with no roots
pub unrooted : (held : Option Entry) → option_map_or (λ (entry : Entry). entry.roots) held 0 ≤ 0 → is_rooted held ≡ false
unrooted None few = refl
unrooted (Some entry) few = grind (arith, nat_tests)
