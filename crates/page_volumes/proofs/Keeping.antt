-- What a group keeps among what it notes, as its parts become others.
use Rattle.std.proofs.Common.{◌≡◌, ℕ, zero, suc, ◌+◌, ◌<◌, ◌==◌, ◌||◌, Bool, true, false, not, List, [], ◌∷◌, ◌++◌, Some, None, Option, ◌≢◌, arith, length, option_and_then, refl, sym, ap, ◌∙◌, subst, ⊎_elim}
use Rattle.std.specs.Prelude.{if◌then◌else◌, count_by, is_some, nat_lt, slice_get, IfSome, IsSome, IsSomeAnd}
use Rattle.std.specs.List.{list_any}
use Rattle.std.specs.Option.{option_map, option_map_or, option_or}
use Rattle.std.proofs.lemmas.Bool.{eq-eqb, eqb-true, ltb-true}
use Rattle.std.proofs.lemmas.List.Folds.{list_any-append}
use Rattle.std.proofs.lemmas.List.Sums.{sum_by-cons}
use Rattle.blob_words.specs.declared.number.PageNo.{PageNo}
use Rattle.page_disk.specs.Changes.{last_put, put_by, removes, with_more, writes, IsNew, OpenWrite, Stands}
use Rattle.page_disk.specs.declared.change.Change.{Change}
use Rattle.page_disk.specs.declared.change.Change.TheVariants.{Put, Torn}
use Rattle.page_disk.proofs.Found.{last_put_more}
use Rattle.page_volumes.specs.declared.filed.Filed.{Filed}
use Rattle.page_volumes.specs.Seen.{Seen}
use Rattle.page_volumes.specs.Group.{changed_at, has_files, home_of, is_at, is_one_of_several, let_go, place_of, retired, seen_by, settled, settled_at, takes_writes, unfiled, writer_of, writer_retired, Slot}
use Rattle.page_volumes.proofs.Acted.{settled_keeps}
use Rattle.page_volumes.proofs.Filing.{home_more, home_unfiled, other_unfiled, stands_elsewhere, Apart}
use Rattle.page_volumes.proofs.There.{or_first, or_then}
use Rattle.page_volumes.proofs.Told.{nothing_put}
use Rattle.page_volumes.proofs.Writers.{changed_here, changed_or, length_changed, writer_there, writes_changed}

-- a slot holds a volume exactly where it isn't retired or a file stands on it
abbrev HeldAt : ℕ → List Filed → Option Slot → Type 0
HeldAt k files found = IfSome found (λ slot. is_some slot.object ≡ (not slot.is_retired || has_files k files))

abbrev pub HeldIn : List Slot → List Filed → Type 0
HeldIn slots files = (k : ℕ) → HeldAt k files (slice_get slots k)

-- a volume takes writes, each is held where it is to be, and each file is on one of them
pub record Placed (slots : List Slot) (files : List Filed) : Type 0 where
  pub writes : takes_writes slots ≡ true
  pub held : HeldIn slots files
  pub homes : (page : ℕ) → IfSome (place_of page files) (λ k. k < length slots)

held_changed : (change : Slot → Slot) (k : ℕ) (files after : List Filed) (slots : List Slot)
    → ((slot : Slot) → slice_get slots k ≡ Some slot → HeldAt k files (Some slot) → HeldAt k after (Some (change slot)))
    → ((j : ℕ) → j ≢ k → has_files j after ≡ has_files j files)
    → HeldIn slots files → HeldIn (changed_at change k slots) after
held_changed change k files after slots here others held j = ⊎_elim
    (λ at. subst (λ one. HeldAt one after (slice_get (changed_at change k slots) one)) (sym at.0)
    (subst (λ found. HeldAt k after found) (sym (changed_here change k slots)) (by (slice_get slots k) refl (held k))))
    (λ other. subst (λ found. HeldAt j after found) (sym other.1) (same (slice_get slots j) (others j other.0) (held j)))
    (changed_or change k j slots)
  where
    by : (found : Option Slot) → slice_get slots k ≡ found → HeldAt k files found → HeldAt k after (option_map change found)
    by None is so = so
    by (Some slot) is so = here slot is so

    same : (found : Option Slot) → has_files j after ≡ has_files j files → HeldAt j files found → HeldAt j after found
    same None is so = so
    same (Some slot) is so = so ∙ ap (λ r. not slot.is_retired || r) (sym is)

seen_held : (change : Seen → Seen) (object : Option Seen) → is_some (option_map change object) ≡ is_some object
seen_held change None = refl
seen_held change (Some seen) = refl

-- a volume is seen otherwise
pub placed_seen : (change : Seen → Seen) (k : ℕ) (slots : List Slot) (files : List Filed) → Placed slots files → Placed (changed_at (seen_by change) k slots)
    files
placed_seen change k slots files so = record {
  writes = writes_changed (seen_by change) (λ slot. refl) k slots ∙ so.writes;
  held = held_changed (seen_by change) k files files slots (λ slot is one. seen_held change slot.object ∙ one) (λ j apart. refl) so.held;
  homes = λ page. subst (λ n. IfSome (place_of page files) (λ k. k < n)) (sym (length_changed (seen_by change) k slots)) (so.homes page);
}

held_by : (object : Option Seen) (past : ℕ) (r is_home : Bool) → is_some object ≡ (not r || true)
    → is_some (settled is_home (record { object = object; past = past; is_retired = r })).object
    ≡ (not (settled is_home (record { object = object; past = past; is_retired = r })).is_retired || is_home)
held_by object past false is_home so = so
held_by object past true true so = so
held_by object past true false so = refl

pub place_has : (page k : ℕ) (files : List Filed) → place_of page files ≡ Some k → has_files k files ≡ true
place_has page k [] is = cc
place_has page k (file ∷ files) is = (elim (page == file.page.0) as (λ r. option_and_then (λ home. home) (if r then Some file.home else home_of page files)
    ≡ Some k → (is_at k file || has_files k files) ≡ true) [
      | true ↦ λ is. or_first (is_at k file) (has_files k files) (subst (λ home. option_map_or (λ one. k == one) home false ≡ true) (sym is) (eq-eqb k k refl))
      | false ↦ λ is. or_then (is_at k file) (has_files k files) (place_has page k files is)
    ]) is

-- another page's place stays
place_unfiled : (page other : ℕ) (files : List Filed) (P : ℕ → Type 0) → IfSome (place_of other files) P → IfSome (place_of other (unfiled page files)) P
place_unfiled page other files P so = (elim (other == page) as (λ r. (other == page) ≡ r → IfSome (place_of other (unfiled page files)) P) [
  | true ↦ λ is. subst (λ one. IfSome (option_and_then (λ home. home) one) P)
      (sym (subst (λ one. home_of one (unfiled page files) ≡ None) (sym (eqb-true other page is)) (home_unfiled page files))) tt
  | false ↦ λ is. subst (λ one. IfSome (option_and_then (λ home. home) one) P) (sym (other_unfiled page other files is)) so
]) refl

-- the file of a page stands no longer
pub placed_unfiled : (page : ℕ) (slots : List Slot) (files : List Filed) (home : Option ℕ) → place_of page files ≡ home → Apart files → Placed slots files
    → Placed (let_go (unfiled page files) home slots) (unfiled page files)
placed_unfiled page slots files None is apart so = record {
  writes = so.writes;
  held = λ j. same j (slice_get slots j) (so.held j);
  homes = λ other. place_unfiled page other files (λ k. k < length slots) (so.homes other);
}
  where
    same : (j : ℕ) (found : Option Slot) → HeldAt j files found → HeldAt j (unfiled page files) found
    same j None so = so
    same j (Some slot) so = so ∙ ap (λ r. not slot.is_retired || r) (sym (stands_elsewhere page j files apart (λ at. cc (sym is ∙ at))))
placed_unfiled page slots files (Some k) is apart so =
    let after = unfiled page files in
    let is_home = has_files k after in record {
      writes = writes_changed (settled is_home) (settled_keeps is_home) k slots ∙ so.writes;
      held = held_changed (settled is_home) k files after slots
          (λ slot at one. held_by slot.object slot.past slot.is_retired is_home (one ∙ ap (λ r. not slot.is_retired || r) (place_has page k files is)))
          (λ j other. stands_elsewhere page j files apart (λ at. other (some_same (sym at ∙ is)))) so.held;
      homes = λ other. subst (λ n. IfSome (place_of other after) (λ k. k < n)) (sym (length_changed (settled is_home) k slots))
          (place_unfiled page other files (λ k. k < length slots) (so.homes other));
    }
  where
    some_same : {j k : ℕ} → Some j ≡ Some k → j ≡ k
    some_same is = cc

has_more : (j : ℕ) (files : List Filed) (file : Filed) → has_files j (files ++ file ∷ []) ≡ (has_files j files || is_at j file)
has_more j files file = list_any-append (is_at j) files (file ∷ []) ∙ ap (λ r. has_files j files || r) (none_more (is_at j file))
  where
    none_more : (r : Bool) → (r || false) ≡ r
    none_more true = refl
    none_more false = refl

or_none : (r : Bool) → (r || false) ≡ r
or_none true = refl
or_none false = refl

-- a page more, at the writer or nowhere
home_within : (page : ℕ) (slots : List Slot) (files : List Filed) (file : Filed) → IfSome (place_of page files) (λ k. k < length slots)
    → IfSome file.home (λ k. k < length slots) → IfSome (place_of page (files ++ file ∷ [])) (λ k. k < length slots)
home_within page slots files file so one = subst (λ found. IfSome (option_and_then (λ home. home) found) (λ k. k < length slots))
    (sym (home_more page files file)) (by (home_of page files) so)
  where
    last : (r : Bool) → IfSome (option_and_then (λ home. home) (if r then Some file.home else None)) (λ k. k < length slots)
    last true = one
    last false = tt

    by : (found : Option (Option ℕ)) → IfSome (option_and_then (λ home. home) found) (λ k. k < length slots)
        → IfSome (option_and_then (λ home. home) (option_or found (home_of page (file ∷ [])))) (λ k. k < length slots)
    by None so = last (page == file.page.0)
    by (Some home) so = so

writer_within : (slots : List Slot) → takes_writes slots ≡ true → writer_of slots < length slots
writer_within slots writes = within slots (writer_of slots) (writer_there slots writes)
  where
    within : (slots : List Slot) (k : ℕ) → IsSomeAnd (slice_get slots k) (λ slot. slot.is_retired ≡ false) → k < length slots
    within [] k is = absurd is
    within (slot ∷ slots) zero is = omega arith
    within (slot ∷ slots) (suc k) is = let one = within slots k is in omega arith

pub placed_gone : (page : PageNo) (slots : List Slot) (files : List Filed) → Placed slots files
    → Placed slots (files ++ record { page = page; home = None } ∷ [])
placed_gone page slots files so = record {
  writes = so.writes;
  held = λ j. same j (slice_get slots j) (so.held j);
  homes = λ other. home_within other slots files (record { page = page; home = None }) (so.homes other) tt;
}
  where
    same : (j : ℕ) (found : Option Slot) → HeldAt j files found → HeldAt j (files ++ record { page = page; home = None } ∷ []) found
    same j None so = so
    same j (Some slot) so = so ∙ ap (λ r. not slot.is_retired || r) (sym (has_more j files (record { page = page; home = None }) ∙ or_none (has_files j files)))

pub placed_put : (page : PageNo) (slots : List Slot) (files : List Filed) → Placed slots files
    → Placed slots (files ++ record { page = page; home = Some (writer_of slots) } ∷ [])
placed_put page slots files so = record {
  writes = so.writes;
  held = λ j. by j (slice_get slots j) refl (so.held j);
  homes = λ other. home_within other slots files (record { page = page; home = Some (writer_of slots) }) (so.homes other) (writer_within slots so.writes);
}
  where
    free : (x y r : Bool) → r ≡ false → (not r || x) ≡ (not r || y)
    free x y true is = cc
    free x y false is = refl

    at_writer : (j : ℕ) (slot : Slot) → slice_get slots j ≡ Some slot → j ≡ writer_of slots → slot.is_retired ≡ false
    at_writer j slot is at = subst (λ found. IsSomeAnd found (λ (slot : Slot). slot.is_retired ≡ false)) (ap (slice_get slots) (sym at) ∙ is)
        (writer_there slots so.writes)

    by : (j : ℕ) (found : Option Slot) → slice_get slots j ≡ found → HeldAt j files found
        → HeldAt j (files ++ record { page = page; home = Some (writer_of slots) } ∷ []) found
    by j None is so = so
    by j (Some slot) is so =
        (elim (j == writer_of slots) as (λ r. (j == writer_of slots) ≡ r → is_some slot.object
        ≡ (not slot.is_retired || has_files j (files ++ record { page = page; home = Some (writer_of slots) } ∷ []))) [
          | true ↦ λ at. so ∙ free _ _ slot.is_retired (at_writer j slot is (eqb-true j (writer_of slots) at))
          | false ↦ λ at. so ∙ ap (λ r. not slot.is_retired || r)
              (sym (has_more j files (record { page = page; home = Some (writer_of slots) }) ∙ ap (λ r. has_files j files || r) at ∙ or_none
              (has_files j files)))
        ]) refl

-- a writer is retired and dropped where it is due
twice : (f g : Slot → Slot) (k : ℕ) (slots : List Slot) → changed_at f k (changed_at g k slots) ≡ changed_at (λ slot. f (g slot)) k slots
twice f g k [] = refl
twice f g zero (slot ∷ slots) = refl
twice f g (suc k) (slot ∷ slots) = ap (λ rest. slot ∷ rest) (twice f g k slots)

abbrev writers : List Slot → ℕ
writers slots = count_by (λ slot. not slot.is_retired) slots

abbrev weigh : Bool → ℕ
weigh is_retired = if not is_retired then 1 else 0

some_writes : (slots : List Slot) → 0 < writers slots → takes_writes slots ≡ true
some_writes [] some = absurd (omega arith)
some_writes (slot ∷ slots) some = by slot.is_retired refl (λ more. some_writes slots more)
  where
    count : writers (slot ∷ slots) ≡ weigh slot.is_retired + writers slots
    count = sum_by-cons (λ (slot : Slot). weigh slot.is_retired) slot slots

    by : (r : Bool) → slot.is_retired ≡ r → (0 < writers slots → takes_writes slots ≡ true) → (not slot.is_retired || takes_writes slots) ≡ true
    by false is more = subst (λ r. (not r || takes_writes slots) ≡ true) (sym is) refl
    by true is more =
        let none : weigh slot.is_retired ≡ 0 = ap weigh is in
        subst (λ r. (not r || takes_writes slots) ≡ true) (sym is) (more (omega (arith, count, none, some)))

retire_leaves : (slots : List Slot) → 1 < writers slots → takes_writes (changed_at retired (writer_of slots) slots) ≡ true
retire_leaves [] some = absurd (omega arith)
retire_leaves (slot ∷ slots) some = by slot.is_retired refl (λ more. retire_leaves slots more)
  where
    count : writers (slot ∷ slots) ≡ weigh slot.is_retired + writers slots
    count = sum_by-cons (λ (slot : Slot). weigh slot.is_retired) slot slots

    by : (r : Bool) → slot.is_retired ≡ r → (1 < writers slots → takes_writes (changed_at retired (writer_of slots) slots) ≡ true)
        → takes_writes (changed_at retired (if slot.is_retired then suc (writer_of slots) else zero) (slot ∷ slots)) ≡ true
    by true is more =
        let none : weigh slot.is_retired ≡ 0 = ap weigh is in
        subst (λ r. takes_writes (changed_at retired (if r then suc (writer_of slots) else zero) (slot ∷ slots)) ≡ true) (sym is)
        (or_then (not slot.is_retired) (takes_writes (changed_at retired (writer_of slots) slots)) (more (omega (arith, count, none, some))))
    by false is more =
        let one : weigh slot.is_retired ≡ 1 = ap weigh is in
        subst (λ r. takes_writes (changed_at retired (if r then suc (writer_of slots) else zero) (slot ∷ slots)) ≡ true) (sym is)
        (some_writes slots (omega (arith, count, one, some)))

lt_of : (a b : ℕ) → nat_lt a b ≡ true → a < b
lt_of a b is = ltb-true a b is

pub placed_retired : (slots : List Slot) (files : List Filed) → Placed slots files → Placed (writer_retired files slots) files
placed_retired slots files so =
    (elim (is_one_of_several slots) as (λ r. is_one_of_several slots ≡ r
    → Placed (if r then settled_at files (writer_of slots) (changed_at retired (writer_of slots) slots) else slots) files) [
      | false ↦ λ is. so
      | true ↦ λ is. let w = writer_of slots in
          let is_home = has_files w files in record {
            writes = writes_changed (settled is_home) (settled_keeps is_home) w (changed_at retired w slots) ∙ retire_leaves slots (several is);
            held = subst (λ (after : List Slot). HeldIn after files) (sym (twice (settled is_home) retired w slots))
                (held_changed (λ slot. settled is_home (retired slot)) w files files slots
                (λ slot at one. held_by slot.object slot.past true is_home (one ∙ free slot (at_writer slot at))) (λ j other. refl) so.held);
            homes = λ page. subst (λ n. IfSome (place_of page files) (λ k. k < n))
                (sym (length_changed (settled is_home) w (changed_at retired w slots) ∙ length_changed retired w slots)) (so.homes page);
          }
    ]) refl
  where
    several : nat_lt 1 (writers slots) ≡ true → 1 < writers slots
    several is = lt_of 1 (writers slots) is

    at_writer : (slot : Slot) → slice_get slots (writer_of slots) ≡ Some slot → slot.is_retired ≡ false
    at_writer slot is = subst (λ found. IsSomeAnd found (λ (slot : Slot). slot.is_retired ≡ false)) is (writer_there slots so.writes)

    free : (slot : Slot) → slot.is_retired ≡ false → (not slot.is_retired || has_files (writer_of slots) files) ≡ true
    free slot is = rw is refl

-- what is noted where changes are told
pub record Logged (write : Option OpenWrite) (files : List Filed) (changes : List Change) : Type 0 where
  pub known : (page : ℕ) → Stands page changes → IsSome (home_of page files)
  pub gone : (page : ℕ) → home_of page files ≡ Some None → last_put page changes ≡ None
  pub fresh : IfSome write (λ write. IsNew write.page.0 changes)

new_not : (page : ℕ) (changes : List Change) → IsNew page changes → Stands page changes → ⊥
new_not page changes new stands = let no : true ≡ false = sym stands.0 ∙ new in cc no

-- the file of a page that is new was forgotten
known_unfiled : (page other : ℕ) (changes : List Change) (files : List Filed) → IsNew page changes → Stands other changes → IsSome (home_of other files)
    → IsSome (home_of other (unfiled page files))
known_unfiled page other changes files new stands so = (elim (other == page) as (λ r. (other == page) ≡ r → IsSome (home_of other (unfiled page files))) [
  | true ↦ λ is. absurd (new_not other changes (subst (λ one. IsNew one changes) (sym (eqb-true other page is)) new) stands)
  | false ↦ λ is. subst (λ (home : Option (Option ℕ)). IsSome home) (sym (other_unfiled page other files is)) so
]) refl

gone_unfiled : (page other : ℕ) (files : List Filed) → home_of other (unfiled page files) ≡ Some None → home_of other files ≡ Some None
gone_unfiled page other files is = (elim (other == page) as (λ r. (other == page) ≡ r → home_of other files ≡ Some None) [
  | true ↦ λ same. let none = subst (λ one. home_of one (unfiled page files) ≡ None) (sym (eqb-true other page same)) (home_unfiled page files) in
      let no : None ≡ Some None = sym none ∙ is in absurd (cc no)
  | false ↦ λ apart. sym (other_unfiled page other files apart) ∙ is
]) refl

pub logged_cleared : (page : ℕ) (files : List Filed) (changes : List Change) → IsNew page changes → Logged None files changes → Logged None (unfiled page files)
    changes
logged_cleared page files changes new so = record {
  known = λ other stands. known_unfiled page other changes files new stands (so.known other stands);
  gone = λ other is. so.gone other (gone_unfiled page other files is);
  fresh = tt;
}

pub logged_begun : (page : PageNo) (len : ℕ) (files : List Filed) (changes : List Change) → IsNew page.0 changes → Logged None files changes
    → Logged (Some (record { page = page; len = len; came = 0 })) (unfiled page.0 files) changes
logged_begun page len files changes new so = let cleared = logged_cleared page.0 files changes new so in
    record { known = cleared.known; gone = cleared.gone; fresh = new }

pub logged_longer : (count : ℕ) (write : Option OpenWrite) (files : List Filed) (changes : List Change) → Logged write files changes
    → Logged (with_more count write) files changes
logged_longer count None files changes so = record { known = so.known; gone = so.gone; fresh = tt }
logged_longer count (Some write) files changes so = record { known = so.known; gone = so.gone; fresh = so.fresh }

-- what was written or not before the last change
written_before : (page : ℕ) (changes : List Change) (change : Change) → writes page change ≡ false → list_any (writes page) (changes ++ change ∷ []) ≡ true
    → list_any (writes page) changes ≡ true
written_before page changes change apart is = by (list_any (writes page) changes)
    (sym (list_any-append (writes page) changes (change ∷ []) ∙ ap (λ r. list_any (writes page) changes || (r || false)) apart) ∙ is)
  where
    by : (r : Bool) → (r || (false || false)) ≡ true → r ≡ true
    by true is = refl
    by false is = is

neither : (a b : Bool) → (a || b) ≡ false → (a ≡ false) × (b ≡ false)
neither true b is = absurd (cc is)
neither false b is = (refl, is)

not_removed : (page : ℕ) (changes : List Change) (change : Change) → list_any (removes page) (changes ++ change ∷ []) ≡ false
    → (list_any (removes page) changes ≡ false) × (removes page change ≡ false)
not_removed page changes change is =
    let parts = neither (list_any (removes page) changes) (removes page change || false) (sym (list_any-append (removes page) changes (change ∷ [])) ∙ is) in
    (parts.0, (neither (removes page change) false parts.1).0)

put_same : (page : ℕ) (changes : List Change) (change : Change) → put_by page change ≡ None → last_put page (changes ++ change ∷ []) ≡ last_put page changes
put_same page changes change none = last_put_more page changes change ∙ ap (λ put. option_or put (last_put page changes)) none

-- a page that wasn't filed is, after a change that wrote it
logged_more : (page : PageNo) (home : Option ℕ) (change : Change) (write : Option OpenWrite) (files : List Filed) (changes : List Change)
    → ((other : ℕ) → (other == page.0) ≡ false → writes other change ≡ false)
    → ((other : ℕ) → (other == page.0) ≡ false → put_by other change ≡ None)
    → (home ≡ None → last_put page.0 (changes ++ change ∷ []) ≡ None)
    → home_of page.0 files ≡ None → Logged write files changes → Logged None (files ++ record { page = page; home = home } ∷ []) (changes ++ change ∷ [])
logged_more page home change write files changes apart puts torn none so = record {
  known = λ other stands. (elim (other == page.0) as (λ r. (other == page.0) ≡ r → IsSome (home_of other (files ++ record { page = page; home = home } ∷ []))) [
    | true ↦ λ is. subst (λ (found : Option (Option ℕ)). IsSome found) (sym (home_here other (eqb-true other page.0 is))) refl
    | false ↦ λ is. subst (λ (found : Option (Option ℕ)). IsSome found) (sym (home_else other is))
        (so.known other (written_before other changes change (apart other is) stands.0, (not_removed other changes change stands.1).0))
  ]) refl;
  gone = λ other is. (elim (other == page.0) as (λ r. (other == page.0) ≡ r → last_put other (changes ++ change ∷ []) ≡ None) [
    | true ↦ λ at. let same = eqb-true other page.0 at in
        let nowhere : Some home ≡ Some None = sym (home_here other same) ∙ is in
        subst (λ one. last_put one (changes ++ change ∷ []) ≡ None) (sym same) (torn (cc nowhere))
    | false ↦ λ at. put_same other changes change (puts other at) ∙ so.gone other (sym (home_else other at) ∙ is)
  ]) refl;
  fresh = tt;
}
  where
    or_nothing : (found : Option (Option ℕ)) → option_or found None ≡ found
    or_nothing None = refl
    or_nothing (Some one) = refl

    home_here : (other : ℕ) → other ≡ page.0 → home_of other (files ++ record { page = page; home = home } ∷ []) ≡ Some home
    home_here other same = home_more other files (record { page = page; home = home }) ∙ ap
        (λ found. option_or found (home_of other (record { page = page; home = home } ∷ []))) (subst (λ one. home_of one files ≡ None) (sym same) none) ∙ ap
        (λ r. if r then Some home else None) (eq-eqb other page.0 same)

    home_else : (other : ℕ) → (other == page.0) ≡ false → home_of other (files ++ record { page = page; home = home } ∷ []) ≡ home_of other files
    home_else other at = home_more other files (record { page = page; home = home }) ∙ ap (λ r. option_or (home_of other files) (if r then Some home else None))
        at ∙ or_nothing (home_of other files)

pub logged_put : (page : PageNo) (came : List ℕ) (k : ℕ) (write : Option OpenWrite) (files : List Filed) (changes : List Change) → home_of page.0 files ≡ None
    → Logged write files changes
    → Logged None (files ++ record { page = page; home = Some k } ∷ []) (changes ++ Put page came ∷ [])
logged_put page came k write files changes none so = logged_more page (Some k) (Put page came) write files changes (λ other is. is)
    (λ other is. subst (λ r. (if r then Some came else None) ≡ None) (sym is) refl) (λ is. absurd (cc is)) none so

pub logged_torn : (page : PageNo) (home : Option ℕ) (write : Option OpenWrite) (files : List Filed) (changes : List Change) → IsNew page.0 changes
    → home_of page.0 files ≡ None → Logged write files changes
    → Logged None (files ++ record { page = page; home = home } ∷ []) (changes ++ Torn page ∷ [])
logged_torn page home write files changes new none so = logged_more page home (Torn page) write files changes (λ other is. is) (λ other is. refl)
    (λ is. put_same page.0 changes (Torn page) refl ∙ nothing_put page.0 changes new) none so

-- a page was asked to be removed
pub logged_less : (page : PageNo) (change : Change) (write : Option OpenWrite) (files : List Filed) (changes : List Change) → removes page.0 change ≡ true
    → ((other : ℕ) → writes other change ≡ false) → ((other : ℕ) → put_by other change ≡ None)
    → Logged write files changes → Logged None (unfiled page.0 files) (changes ++ change ∷ [])
logged_less page change write files changes removed unwritten puts so = record {
  known = λ other stands. (elim (other == page.0) as (λ r. (other == page.0) ≡ r → IsSome (home_of other (unfiled page.0 files))) [
    | true ↦ λ is. let no : true ≡ false = sym removed ∙ subst (λ one. removes one change ≡ false) (eqb-true other page.0 is)
        (not_removed other changes change stands.1).1 in absurd (cc no)
    | false ↦ λ is. subst (λ (home : Option (Option ℕ)). IsSome home) (sym (other_unfiled page.0 other files is))
        (so.known other (written_before other changes change (unwritten other) stands.0, (not_removed other changes change stands.1).0))
  ]) refl;
  gone = λ other is. put_same other changes change (puts other) ∙ so.gone other (gone_unfiled page.0 other files is);
  fresh = tt;
}
