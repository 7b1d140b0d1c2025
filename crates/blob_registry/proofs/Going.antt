-- Views that go one list after the other.
use Rattle.std.proofs.Common.{◌≡◌, ℕ, ◌+◌, ◌<◌, Bool, true, false, cond, List, [], ◌∷◌, ◌++◌, Option, nat_eq, refl, sym, ap, ◌∙◌, arith, append_assoc}
use Rattle.std.proofs.Common.{append-nil}
use Rattle.std.specs.Option.{option_to_list}
use Rattle.std.proofs.lemmas.Bool.{eqb-true}
use Rattle.std.proofs.lemmas.Bool.Decides.{nat_tests}
use Rattle.blob_items.specs.declared.view.View.{View}
use Rattle.item_shares.specs.declared.item.Item.{Item}
use Rattle.item_shares.specs.declared.shares.Share.{Share}
use Rattle.item_shares.specs.Shares.{item_at}
use Rattle.blob_entries.proofs.Counting.{on_append}
use Rattle.blob_entries.specs.Counts.{count_at, freed_at, freed_by, views_on}
use Rattle.blob_entries.specs.Leaving.{LetsGo}

abbrev Held : Type 0
Held = List (Option Share)

freed_append : (shares : Held) (gone one more : List View) → freed_by shares gone (one ++ more) ≡ freed_by shares gone one ++ freed_by shares (gone ++ one) more
freed_append shares gone [] more = ap (λ (g : List View). freed_by shares g more) (sym (append-nil gone))
freed_append shares gone (view ∷ one) more =
    let here : List Item = freed_at shares view.slot (views_on view.slot gone) in
    ap (λ (items : List Item). here ++ items)
    (freed_append shares (gone ++ view ∷ []) one more
    ∙ ap (λ (g : List View). freed_by shares (gone ++ view ∷ []) one ++ freed_by shares g more) (append_assoc gone (view ∷ []) one))
    ∙ sym (append_assoc here (freed_by shares (gone ++ view ∷ []) one) (freed_by shares (gone ++ (view ∷ one)) more))

-- the items that go with later views, counted from the shares that the earlier ones left
freed_shift : (shares later : Held) (views gone more : List View) → ((slot : ℕ) → count_at later slot + views_on slot views ≡ count_at shares slot)
    → ((slot : ℕ) → 0 < count_at later slot → item_at later slot ≡ item_at shares slot)
    → freed_by shares (views ++ gone) more ≡ freed_by later gone more
freed_shift shares later views gone [] counts items = refl
freed_shift shares later views gone (view ∷ more) counts items =
    ap (λ (front : List Item). front ++ freed_by shares ((views ++ gone) ++ view ∷ []) more) here
    ∙ ap (λ (rest : List Item). freed_at later view.slot (views_on view.slot gone) ++ rest)
    (ap (λ (g : List View). freed_by shares g more) (append_assoc views gone (view ∷ []))
    ∙ freed_shift shares later views (gone ++ view ∷ []) more counts items)
  where
    slot : ℕ
    slot = view.slot

    tests : nat_eq (count_at shares slot) (views_on slot (views ++ gone) + 1) ≡ nat_eq (count_at later slot) (views_on slot gone + 1)
    tests = let count : count_at later slot + views_on slot views ≡ count_at shares slot = counts slot in let on : views_on slot
        (views ++ gone) ≡ views_on slot views + views_on slot gone = on_append slot views gone in grind (arith, nat_tests)

    by : (b : Bool) → nat_eq (count_at later slot) (views_on slot gone + 1) ≡ b
        → cond b (option_to_list (item_at shares slot)) [] ≡ cond b (option_to_list (item_at later slot)) []
    by false is = refl
    by true is = let last : count_at later slot ≡ views_on slot gone + 1 = eqb-true (count_at later slot) (views_on slot gone + 1) is in ap option_to_list
        (sym (items slot (omega arith)))

    here : freed_at shares slot (views_on slot (views ++ gone)) ≡ freed_at later slot (views_on slot gone)
    here = rw tests (by (nat_eq (count_at later slot) (views_on slot gone + 1)) refl)

pub gone_more : (views more : List View) (shares later last : Held) (freed next final : List Item) → LetsGo views shares later freed next
    → LetsGo more later last next final → LetsGo (views ++ more) shares last freed final
gone_more views more shares later last freed next final one two = record {
  counts = λ slot. omega (arith, one.counts slot, two.counts slot, on_append slot views more);
  items = λ slot some. two.items slot some ∙ one.items slot (omega (arith, some, two.counts slot));
  given = two.given ∙ ap (λ (items : List Item). items ++ freed_by later [] more) one.given
      ∙ append_assoc freed (freed_by shares [] views) (freed_by later [] more)
      ∙ ap (λ (items : List Item). freed ++ items)
      (ap (λ (rest : List Item). freed_by shares [] views ++ rest) (sym (freed_shift shares later views [] more one.counts one.items)
      ∙ ap (λ (g : List View). freed_by shares g more) (append-nil views)) ∙ sym (freed_append shares [] views more));
  weighs = λ weight. two.weighs weight ∙ one.weighs weight;
}

pub gone_none : (shares : Held) (freed : List Item) → LetsGo [] shares shares freed freed
gone_none shares freed = record { counts = λ slot. omega arith; items = λ slot some. refl; given = sym (append-nil freed); weighs = λ weight. refl }
