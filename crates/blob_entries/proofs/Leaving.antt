-- An entry that is left or goes.
use Rattle.std.proofs.Common.{◌≡◌, ℕ, ◌+◌, ◌<◌, ◌≤◌, Bool, true, false, cond, List, [], Option, Some, None, length, set, refl, sym, ap}
use Rattle.std.proofs.Common.{◌∙◌, subst, arith}
use Rattle.std.specs.Prelude.{IfSome}
use Rattle.std.specs.Option.{option_map}
use Rattle.std.proofs.lemmas.List.{set-get_or}
use Rattle.item_shares.specs.declared.shares.Share.{Share}
use Rattle.blob_entries.specs.declared.entry.Entry.{Entry}
use Rattle.blob_entries.proofs.Finishing.{broken_apart, zero_or}
use Rattle.blob_entries.proofs.Holdings.{in_at, in_set, on_held}
use Rattle.blob_entries.proofs.Soundness.{sound_set}
use Rattle.blob_entries.specs.Book.{entry_at}
use Rattle.blob_entries.specs.Counted.{AreCounted}
use Rattle.blob_entries.specs.Counts.{count_at, views_on}
use Rattle.blob_entries.specs.Holdings.{held_views, views_in}
use Rattle.blob_entries.specs.Leaving.{gone_views, left, shed}
use Rattle.blob_entries.specs.Sound.{AreSound, IsSound}
use Rattle.blob_entries.specs.Statuses.{is_broken, is_done, is_pending}

abbrev Entries : Type 0
Entries = List (Option Entry)

abbrev Held : Type 0
Held = List (Option Share)

shed_sound : (names : List ℕ) (entries : Entries) (number : ℕ) (entry : Entry) → IsSound names entries number entry → IsSound names entries number (shed entry)
shed_sound names entries number entry sound = by (is_broken entry.status) refl
  where
    by : (b : Bool) → is_broken entry.status ≡ b → IsSound names entries number (cond b (record entry { recipe = []; own = None; views = [] }) entry)
    by false is = sound
    by true is =
        let apart = broken_apart entry.status is in
        record {
          steps = λ pending. tt;
          size = λ pending. absurd (clash (is_pending entry.status) pending apart.0);
          fits = sound.fits;
          own = λ pending. tt;
          bare = λ pending. refl;
          mark = sound.mark;
          made = λ done. absurd (clash (is_done entry.status) done apart.1);
        }
      where
        clash : (b : Bool) → b ≡ true → b ≡ false → ⊥
        clash b yes_is no_is = cc

shed_size : (entry : Entry) → (shed entry).size ≡ entry.size
shed_size entry = by (is_broken entry.status)
  where
    by : (b : Bool) → (cond b (record entry { recipe = []; own = None; views = [] }) entry).size ≡ entry.size
    by false = refl
    by true = refl

pub shed_at_sound : (names : List ℕ) (entries : Entries) (number : ℕ) → AreSound names entries
    → AreSound names (set entries number (option_map shed (entry_at entries number)))
shed_at_sound names entries number are = by (entry_at entries number) refl
  where
    none : entry_at entries number ≡ None → set entries number None ≡ entries
    none is = ap (set entries number) (sym is) ∙ set-get_or entries number None

    by : (held : Option Entry) → entry_at entries number ≡ held → AreSound names (set entries number (option_map shed held))
    by None is = subst (λ (list : Entries). AreSound names list) (sym (none is)) are
    by (Some entry) is = sound_set names entries number entry (shed entry) are is (shed_size entry)
        (shed_sound names entries number entry (subst (λ (held : Option Entry). IfSome held (IsSound names entries number)) is (are.each number)))

-- the views that go and those that are left
on_left : (slot : ℕ) (lives : Bool) (held : Option Entry) → on_held slot held ≡ views_on slot (gone_views lives held) + on_held slot (left lives held)
on_left slot false None = omega arith
on_left slot false (Some entry) = omega arith
on_left slot true None = omega arith
on_left slot true (Some entry) = by (is_broken entry.status)
  where
    by : (b : Bool) → views_on slot (held_views entry) ≡ views_on slot (cond b (held_views entry) []) + views_on slot
        (held_views (cond b (record entry { recipe = []; own = None; views = [] }) entry))
    by false = omega arith
    by true = omega arith

pub gone_counted : (entries : Entries) (shares : Held) (number : ℕ) (lives : Bool) → AreCounted entries shares → (slot : ℕ)
    → views_on slot (gone_views lives (entry_at entries number)) ≤ count_at shares slot
gone_counted entries shares number lives counted slot =
    zero_or (views_in entries slot)
    (λ none. omega (arith, none, in_at entries number slot, on_left slot lives (entry_at entries number)))
    (λ some. omega (arith, counted slot some, in_at entries number slot, on_left slot lives (entry_at entries number)))

pub left_counted : (entries : Entries) (shares later : Held) (number : ℕ) (lives : Bool) → number < length entries → AreCounted entries shares
    → ((slot : ℕ) → count_at later slot + views_on slot (gone_views lives (entry_at entries number)) ≡ count_at shares slot)
    → AreCounted (set entries number (left lives (entry_at entries number))) later
left_counted entries shares later number lives inside counted counts = λ slot some.
    let moved = in_set entries number (left lives (entry_at entries number)) slot inside in
    let parts = on_left slot lives (entry_at entries number) in
    omega (arith, moved, parts, counts slot, counted slot (omega (arith, moved, parts, some)))
