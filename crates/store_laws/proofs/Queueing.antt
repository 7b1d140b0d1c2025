-- What is kept of items when views go, and who waits still when blobs are dropped.
use Rattle.std.proofs.Common.{◌≡◌, ℕ, ◌+◌, ◌<◌, ◌≤◌, ◌==◌, ◌&&◌, ◌||◌, not, Bool, true, false, cond, List, [], ◌∷◌, map, reverse, refl, ap, subst, sym, ◌∙◌, Option, Some, None, arith}
use Rattle.std.specs.Prelude.{filter, flat_map, fold, is_none, nat_eq, sum_by, IfSome}
use Rattle.std.specs.Option.{option_map, option_map_or}
use Rattle.std.specs.List.{AllByRecursion, list_any}
use Rattle.std.proofs.lemmas.Bool.{eqb-true}
use Rattle.std.proofs.lemmas.List.Sums.{sum_by-append}
use Rattle.answer_text.specs.declared.answer.Answer.TheVariants as answers
use Rattle.item_shares.specs.Shares.{item_at, share_at, AreViewed}
use Rattle.item_shares.specs.Weights.{weights}
use Rattle.item_shares.specs.declared.item.Item.{Item}
use Rattle.item_shares.specs.declared.shares.Share.{Share}
use Rattle.blob_items.specs.declared.view.View.{View}
use Rattle.blob_entries.specs.Book.{Book}
use Rattle.blob_entries.specs.Counts.{count_at}
use Rattle.blob_entries.specs.Leaving.{LetsGo}
use Rattle.quota_queue.specs.Queue.{without}
use Rattle.blob_model.specs.Builds.{Build, builds}
use Rattle.blob_model.specs.History.{History}
use Rattle.blob_model.specs.Live.{is_live}
use Rattle.blob_model.specs.Order.{named}
use Rattle.blob_model.specs.Parts.{own_bytes}
use Rattle.blob_model.specs.Session.{Session, page_limit}
use Rattle.blob_model.specs.Settle.{drops}
use Rattle.blob_model.specs.Standing.{is_unfinished, was_granted}
use Rattle.blob_model.specs.Waits.{is_shared, is_waiting, waits}
use Rattle.blob_model.proofs.Lists.{all_numbered, any_reverse, false_true}
use Rattle.blob_model.proofs.live.Agreement.{builds_all}
use Rattle.registry_laws.specs.Laws.{Describes}
use Rattle.registry_laws.proofs.Drops.{dropping, goes}
use Rattle.registry_laws.proofs.Left.{all_over, over, stays}
use Rattle.store_laws.specs.LetGo.{AreFreed, ItemsLetGo, QueueLetGo}
use Rattle.store_laws.specs.Rows.{Row, pins, row_slots}
use Rattle.store_laws.specs.Settling.{after_drops}
use Rattle.store_laws.specs.SweepLaws.{rows_left}
use Rattle.store_laws.proofs.Letting.{filter_same, filter_twice}

-- ---- items

freed_of : (views : List View) (shares later : List (Option Share)) (freed : List Item) → LetsGo views shares later [] freed → AreViewed later
    → AreFreed shares later freed
freed_of views shares later freed lets viewed = record {
  still = λ slot. by slot (share_at later slot) refl (viewed slot);
  weighs = λ weight.
      let said : sum_by weight freed + weights weight later ≡ 0 + weights weight shares = lets.weighs weight in omega (arith, said);
}
  where
    by : (slot : ℕ) (o : Option Share) → share_at later slot ≡ o → IfSome (share_at later slot) (λ share. 0 < share.count)
        → IfSome (option_map (λ (share : Share). share.item) (share_at later slot)) (λ (item : Item). item_at shares slot ≡ Some item)
    by slot None at some =
        subst (λ (held : Option Share). IfSome (option_map (λ (share : Share). share.item) held) (λ (item : Item). item_at shares slot ≡ Some item)) (sym at) tt
    by slot (Some share) at some =
        let counts : 0 < count_at later slot =
        subst (λ (held : Option Share). 0 < option_map_or (λ (one : Share). one.count) held 0) (sym at)
        (subst (λ (held : Option Share). IfSome held (λ one. 0 < one.count)) at some) in
        subst (λ (held : Option Share). IfSome (option_map (λ (one : Share). one.item) held) (λ (item : Item). item_at shares slot ≡ Some item)) (sym at)
        (sym (lets.items slot counts) ∙ ap (option_map (λ (one : Share). one.item)) at)

fewer_pins : (lives : ℕ → Bool) (list : List Build) (rows : List (Option Row)) (slot : ℕ) → pins slot (rows_left lives list rows) ≤ pins slot rows
fewer_pins lives [] rows slot = let none : pins slot [] ≡ 0 = refl in omega (arith, none)
fewer_pins lives (build ∷ list) [] slot = omega arith
fewer_pins lives (build ∷ list) (held ∷ rows) slot = go (lives build.name) (fewer_pins lives list rows slot)
  where
    go : (b : Bool) → pins slot (rows_left lives list rows) ≤ pins slot rows
        → pins slot ((cond b held None) ∷ rows_left lives list rows) ≤ pins slot (held ∷ rows)
    go true rest =
        let now = sum_by-append (λ (each : ℕ). cond (each == slot) 1 0) (row_slots held) (flat_map row_slots (rows_left lives list rows)) in
        let was = sum_by-append (λ (each : ℕ). cond (each == slot) 1 0) (row_slots held) (flat_map row_slots rows) in omega (arith, now, was, rest)
    go false rest =
        let was = sum_by-append (λ (each : ℕ). cond (each == slot) 1 0) (row_slots held) (flat_map row_slots rows) in omega (arith, was, rest)

pub items_let_go : ItemsLetGo
items_let_go views shares later freed lets viewed = record {
  freed_so = freed_of views shares later freed lets viewed;
  kept_so = λ lives list entries rows counts. record {
    still = (freed_of views shares later freed lets viewed).still;
    viewed = λ slot some. lets.items slot (let all = counts slot in omega (arith, all, some));
    pinned = λ slot some. lets.items slot (let all = counts slot in let few = fewer_pins lives list rows slot in omega (arith, all, few, some));
  };
}

-- ---- who waits

abbrev pub in_queue : Build → ℕ × ℕ
in_queue build = (build.name, own_bytes build.parts)

abbrev pub not_among : List ℕ → ℕ → Bool
not_among names name = not (list_any (λ (one : ℕ). one == name) names)

not_either : (a b : Bool) → (not a && not b) ≡ not (a || b)
not_either true b = refl
not_either false b = refl

all_stay : (list : List (ℕ × ℕ)) → list ≡ filter (λ (entry : ℕ × ℕ). true) list
all_stay [] = refl
all_stay (entry ∷ list) = ap (λ (more : List (ℕ × ℕ)). entry ∷ more) (all_stay list)

pub left_all : (names : List ℕ) (list : List (ℕ × ℕ))
    → fold (λ (waiting : List (ℕ × ℕ)) (name : ℕ). without name waiting) list names ≡ filter (λ (entry : ℕ × ℕ). not_among names entry.0) list
left_all [] list = all_stay list
left_all (name ∷ names) list =
    left_all names (without name list)
    ∙ filter_twice (λ (entry : ℕ × ℕ). not (nat_eq name entry.0)) (λ (entry : ℕ × ℕ). not_among names entry.0) list
    ∙ filter_same (λ (entry : ℕ × ℕ). not (nat_eq name entry.0) && not_among names entry.0) (λ (entry : ℕ × ℕ). not_among (name ∷ names) entry.0) list
    (λ entry. not_either (name == entry.0) (list_any (λ (one : ℕ). one == entry.0) names))

pub queued : (names : List ℕ) (list : List Build)
    → filter (λ (entry : ℕ × ℕ). not_among names entry.0) (map in_queue list) ≡ map in_queue (filter (λ (build : Build). not_among names build.name) list)
queued names [] = refl
queued names (build ∷ list) = go (not_among names build.name) (queued names list)
  where
    go : (b : Bool)
        → filter (λ (entry : ℕ × ℕ). not_among names entry.0) (map in_queue list)
        ≡ map in_queue (filter (λ (one : Build). not_among names one.name) list)
        → cond {A = List (ℕ × ℕ)} b (in_queue build ∷ filter (λ (entry : ℕ × ℕ). not_among names entry.0) (map in_queue list))
        (filter (λ (entry : ℕ × ℕ). not_among names entry.0) (map in_queue list))
        ≡ map in_queue
        (cond b (build ∷ filter (λ (one : Build). not_among names one.name) list) (filter (λ (one : Build). not_among names one.name) list))
    go true rest = ap (λ (more : List (ℕ × ℕ)). in_queue build ∷ more) rest
    go false rest = rest

filter_members : (p q : Build → Bool) (list : List Build) → AllByRecursion (λ (build : Build). p build ≡ q build) list → filter p list ≡ filter q list
filter_members p q [] same = refl
filter_members p q (build ∷ list) same =
    λ i. cond {A = List Build} (same.0 i) (build ∷ filter_members p q list same.1 i) (filter_members p q list same.1 i)

same_names : (names : List ℕ) (list : List Build) → map (λ (name : ℕ). answers.Dropped name) names ≡ dropping list
    → names ≡ map (λ (build : Build). build.name) list
same_names [] [] e = refl
same_names [] (build ∷ list) e = absurd (cc e)
same_names (name ∷ names) [] e = absurd (cc e)
same_names (name ∷ names) (build ∷ list) e =
    let first : name ≡ build.name = cc e in
    let rest : map (λ (one : ℕ). answers.Dropped one) names ≡ dropping list = cc e in
    λ i. first i ∷ same_names names list rest i

-- whether a name is among those of the blobs that pass a test of names
among : (test : ℕ → Bool) (list : List Build) (name : ℕ)
    → list_any (λ (one : ℕ). one == name) (map (λ (build : Build). build.name) (filter (λ (build : Build). test build.name) list))
    ≡ (test name && named name list)
among test [] name = nothing (test name)
  where
    nothing : (b : Bool) → false ≡ (b && false)
    nothing true = refl
    nothing false = refl
among test (build ∷ list) name = go (test build.name) refl (build.name == name) refl (among test list name)
  where
    with_true : (a b : Bool) → a ≡ true → true ≡ (a && (true || b))
    with_true true b e = refl
    with_true false b e = absurd (false_true e)

    with_false : (a b : Bool) → a ≡ false → (a && b) ≡ (a && true)
    with_false true b e = absurd (false_true (sym e))
    with_false false b e = refl

    go : (b : Bool) → test build.name ≡ b → (c : Bool) → (build.name == name) ≡ c
        → list_any (λ (one : ℕ). one == name) (map (λ (one : Build). one.name) (filter (λ (one : Build). test one.name) list))
        ≡ (test name && named name list)
        → list_any (λ (one : ℕ). one == name)
        (map (λ (one : Build). one.name) (cond b (build ∷ filter (λ (one : Build). test one.name) list) (filter (λ (one : Build). test one.name) list)))
        ≡ (test name && (c || named name list))
    go true at true is rest =
        ap (λ (c : Bool). c || list_any (λ (one : ℕ). one == name) (map (λ (one : Build). one.name) (filter (λ (one : Build). test one.name) list))) is
        ∙ with_true (test name) (named name list) (subst (λ (n : ℕ). test n ≡ true) (eqb-true build.name name is) at)
    go true at false is rest =
        ap (λ (c : Bool). c || list_any (λ (one : ℕ). one == name) (map (λ (one : Build). one.name) (filter (λ (one : Build). test one.name) list))) is
        ∙ rest
    go false at true is rest =
        rest ∙ with_false (test name) (named name list) (subst (λ (n : ℕ). test n ≡ false) (eqb-true build.name name is) at)
    go false at false is rest = rest

module _ (s : Session) (h : History) (book : Book) (tell : Describes s h book) where
  abbrev g : History
  g = after_drops s h

  abbrev alive : ℕ → Bool
  alive = is_live (page_limit s) h

  abbrev list_now : List Build
  list_now = builds (page_limit s) h

  -- whether the blob of a name is dropped, where there is one
  abbrev drops_it : ℕ → Bool
  drops_it name = is_unfinished h name && not (alive name)

  waits_left : (build : Build) → (goes h alive build ≡ true → is_unfinished g build.name ≡ false)
      → is_waiting g build ≡ (is_waiting h build && not (drops_it build.name))
  waits_left build ends = go (alive build.name) refl (is_unfinished h build.name) refl
    where
      kept : (w u : Bool) → (w && not (u && false)) ≡ w
      kept true true = refl
      kept true false = refl
      kept false u = refl

      gone : (w : Bool) → (w && false) ≡ false
      gone true = refl
      gone false = refl

      go : (a : Bool) → alive build.name ≡ a → (u : Bool) → is_unfinished h build.name ≡ u
          → is_waiting g build ≡ (is_waiting h build && not (drops_it build.name))
      go true at u is =
          let same = stays s h book.names book.entries tell.sound alive list_now build at in
          (λ i. is_none (same.end i) && is_shared build.plan && not (same.grant i))
          ∙ sym (ap (λ (b : Bool). is_waiting h build && not (is_unfinished h build.name && not b)) at
          ∙ kept (is_waiting h build) (is_unfinished h build.name))
      go false at true is =
          let goes_now : goes h alive build ≡ true = λ i. is i && not (at i) in
          ap (λ (b : Bool). b && is_shared build.plan && not (was_granted g build.name)) (ends goes_now)
          ∙ sym (ap (λ (b : Bool). is_waiting h build && not b) goes_now ∙ gone (is_waiting h build))
      go false at false is =
          ap (λ (b : Bool). b && is_shared build.plan && not (was_granted g build.name))
          (over h (dropping (filter (goes h alive) (reverse list_now))) build.name is)
          ∙ sym (ap (λ (b : Bool). b && is_shared build.plan && not (was_granted h build.name) && not (drops_it build.name)) is)

  module _ (names : List ℕ) (is : map (λ (name : ℕ). answers.Dropped name) names ≡ drops s h) where
    names_are : names ≡ map (λ (build : Build). build.name) (filter (goes h alive) (reverse list_now))
    names_are = same_names names (filter (goes h alive) (reverse list_now)) is

    among_now : (build : Build) → named build.name list_now ≡ true → not_among names build.name ≡ not (drops_it build.name)
    among_now build there =
        ap (λ (list : List ℕ). not_among list build.name) names_are
        ∙ ap not (among drops_it (reverse list_now) build.name
        ∙ ap (λ (b : Bool). drops_it build.name && b) (any_reverse (λ (one : Build). one.name == build.name) list_now there) ∙ whole (drops_it build.name))
      where
        whole : (b : Bool) → (b && true) ≡ b
        whole true = refl
        whole false = refl

    each_left : (list : List Build) → AllByRecursion (λ (build : Build). named build.name list_now ≡ true) list
        → AllByRecursion (λ (build : Build). goes h alive build ≡ true → is_unfinished g build.name ≡ false) list
        → AllByRecursion (λ (build : Build). (is_waiting h build && not_among names build.name) ≡ is_waiting g build) list
    each_left [] there ends = tt
    each_left (build ∷ list) there ends = (
      ap (λ (b : Bool). is_waiting h build && b) (among_now build there.0) ∙ sym (waits_left build ends.0),
      each_left list there.1 ends.1,
    )

    waits_now : filter (λ (build : Build). not_among names build.name) (waits (page_limit s) h) ≡ waits (page_limit s) g
    waits_now =
        filter_twice (is_waiting h) (λ (build : Build). not_among names build.name) list_now
        ∙ filter_members (λ (build : Build). is_waiting h build && not_among names build.name) (is_waiting g) list_now
        (each_left list_now (all_numbered (λ (build : Build). build.name) list_now) (all_over h alive list_now))
        ∙ ap (filter (is_waiting g)) (sym (builds_all (page_limit s) h (drops s h)))

pub queue_let_go : QueueLetGo
queue_let_go s h book waiting names tell is drop =
    ap (λ (list : List (ℕ × ℕ)). fold (λ (waiting : List (ℕ × ℕ)) (name : ℕ). without name waiting) list names) is
    ∙ left_all names (map in_queue (waits (page_limit s) h)) ∙ queued names (waits (page_limit s) h) ∙ ap (map in_queue) (waits_now s h book tell names drop)
