-- Lists with one more.
use Rattle.std.proofs.Common.{◌≡◌, ℕ, zero, suc, ◌+◌, ◌<◌, ◌==◌, ◌||◌, Bool, true, false, List, [], ◌∷◌, ◌++◌, map, take, length, refl, ap, sym, ◌∙◌, Option, Some, None, cond, arith}
use Rattle.std.specs.Prelude.{filter, sum_by, IsSome}
use Rattle.std.specs.Option.{option_map, option_map_or}
use Rattle.std.specs.List.{AllByRecursion, list_any}
use Rattle.std.proofs.lemmas.Bool.{eqb-true}
use Rattle.std.proofs.lemmas.List.Sums.{sum_by-cons}
use Rattle.item_shares.specs.declared.item.Item.{Item}
use Rattle.item_shares.specs.declared.shares.Share.{Share}
use Rattle.item_shares.specs.Shares.{item_at}
use Rattle.blob_entries.specs.declared.entry.Entry.{Entry}
use Rattle.blob_model.specs.Builds.{Build}
use Rattle.blob_model.specs.Pieces.{Piece}
use Rattle.blob_model.proofs.Lists.{false_true, or_first, or_second}
use Rattle.blob_model.proofs.builds.PieceNumbers.{AreNumbered}
use Rattle.registry_laws.specs.Agree.{Beside}
use Rattle.store_laws.specs.Cells.{piece_in}
use Rattle.store_laws.specs.Recipes.{RowsBeside}
use Rattle.store_laws.specs.Rows.{Row}

pub map-more : {X Y : Type 0} (f g : X → Y) (list : List X) (x : X) (y : Y) → AllByRecursion (λ (each : X). f each ≡ g each) list → f x ≡ y
    → map f (list ++ x ∷ []) ≡ map g list ++ y ∷ []
map-more {Y = Y} f g [] x y all last = ap (λ (one : Y). one ∷ []) last
map-more f g (each ∷ list) x y all last = λ i. all.0 i ∷ map-more f g list x y all.1 last i

pub filter-each : {X : Type 0} (p q : X → Bool) (list : List X) → AllByRecursion (λ (each : X). p each ≡ q each) list → filter p list ≡ filter q list
filter-each p q [] all = refl
filter-each {X = X} p q (x ∷ list) all = λ i. cond {A = List X} (all.0 i) (x ∷ filter-each p q list all.1 i) (filter-each p q list all.1 i)

pub beside_more : (P : Build → Option Entry → Type 0) (list : List Build) (entries : List (Option Entry)) (build : Build) (held : Option Entry)
    → Beside P list entries → P build held → Beside P (list ++ build ∷ []) (entries ++ held ∷ [])
beside_more P [] [] build held all one = (one, tt)
beside_more P [] (other ∷ entries) build held all one = absurd all
beside_more P (each ∷ list) [] build held all one = absurd all
beside_more P (each ∷ list) (other ∷ entries) build held all one = (all.0, beside_more P list entries build held all.1 one)

pub beside_both : (A P Q : Build → Option Entry → Type 0) (list : List Build) (entries : List (Option Entry))
    → ((build : Build) (held : Option Entry) → A build held → P build held → Q build held) → Beside A list entries → Beside P list entries
    → Beside Q list entries
beside_both A P Q [] [] step all is = tt
beside_both A P Q [] (held ∷ entries) step all is = absurd is
beside_both A P Q (build ∷ list) [] step all is = absurd is
beside_both A P Q (build ∷ list) (held ∷ entries) step all is = (step build held all.0 is.0, beside_both A P Q list entries step all.1 is.1)

pub rows_each : (C : Build → Type 0) (P Q : Build → Row → Type 0) (list : List Build) (rows : List (Option Row)) (build : Build) (row : Row)
    → length rows ≡ length list → ((each : Build) (held : Row) → C each → P each held → Q each held) → AllByRecursion C list → RowsBeside P list rows
    → Q build row → RowsBeside Q (list ++ build ∷ []) (rows ++ Some row ∷ [])
rows_each C P Q [] [] build row same step all is last = (last, tt)
rows_each C P Q [] (held ∷ rows) build row same step all is last = absurd (omega (arith, same))
rows_each C P Q (each ∷ list) [] build row same step all is last = absurd (omega (arith, same))
rows_each C P Q (each ∷ list) (None ∷ rows) build row same step all is last = rows_each C P Q list rows build row (omega (arith, same)) step all.1 is last
rows_each C P Q (each ∷ list) (Some held ∷ rows) build row same step all is last =
    (step each held all.0 is.0, rows_each C P Q list rows build row (omega (arith, same)) step all.1 is.1 last)

-- what is found by its number lies below the end of the numbers
pub found_low : (n number : ℕ) (list : List Piece) (one : Piece) → AreNumbered n list → piece_in list number ≡ Some one → number < n + length list
found_low n number [] one all found = cc
found_low n number (piece ∷ list) one all found = go (piece.number == number) refl found (found_low (n + 1) number list one all.1)
  where
    go : (b : Bool) → (piece.number == number) ≡ b → cond b (Some piece) (piece_in list number) ≡ Some one
        → (piece_in list number ≡ Some one → number < (n + 1) + length list) → number < n + length (piece ∷ list)
    go true at f rest = let same = eqb-true piece.number number at in let first = all.0 in omega (arith, same, first)
    go false at f rest = let later = rest f in omega (arith, later)

pub sum_each : {X : Type 0} (f g : X → ℕ) (list : List X) → AllByRecursion (λ (x : X). f x ≡ g x) list → sum_by f list ≡ sum_by g list
sum_each f g [] all = refl
sum_each f g (x ∷ list) all = sum_by-cons f x list ∙ (λ i. all.0 i + sum_each f g list all.1 i) ∙ sym (sum_by-cons g x list)

pub front_each : {X : Type 0} (P : X → Type 0) (n : ℕ) (list : List X) → AllByRecursion P list → AllByRecursion P (take n list)
front_each P zero list all = tt
front_each P (suc n) [] all = tt
front_each P (suc n) (x ∷ list) all = (all.0, front_each P n list all.1)

pub some_is : {X : Type 0} (o : Option X) → IsSome o → (x : X) × (o ≡ Some x)
some_is None is = absurd (false_true is)
some_is (Some x) is = (x, refl)

-- the slot of an item that passes a test, where some does
pub slot_that : (test : Item → Bool) (shares : List (Option Share))
    → list_any (λ (held : Option Share). option_map_or (λ (share : Share). test share.item) held false) shares ≡ true
    → (slot : ℕ) × (item : Item) × (item_at shares slot ≡ Some item) × (test item ≡ true)
slot_that test [] is = absurd (false_true is)
slot_that test (None ∷ shares) is = let rest = slot_that test shares is in (suc rest.0, rest.1, rest.2, rest.3)
slot_that test (Some share ∷ shares) is = go (test share.item) refl is (slot_that test shares)
  where
    go : (b : Bool) → test share.item ≡ b
        → (b || list_any (λ (held : Option Share). option_map_or (λ (one : Share). test one.item) held false) shares) ≡ true
        → (list_any (λ (held : Option Share). option_map_or (λ (one : Share). test one.item) held false) shares ≡ true
        → (slot : ℕ) × (item : Item) × (item_at shares slot ≡ Some item) × (test item ≡ true))
        → (slot : ℕ) × (item : Item) × (item_at (Some share ∷ shares) slot ≡ Some item) × (test item ≡ true)
    go true at is rest = (0, share.item, refl, at)
    go false at is rest = let more = rest is in (suc more.0, more.1, more.2, more.3)

pub slot_has : (test : Item → Bool) (shares : List (Option Share)) (slot : ℕ) (item : Item) → item_at shares slot ≡ Some item → test item ≡ true
    → list_any (λ (held : Option Share). option_map_or (λ (share : Share). test share.item) held false) shares ≡ true
slot_has test [] slot item at is = absurd (cc at)
slot_has test (held ∷ shares) zero item at is = or_first (option_map_or (λ (share : Share). test share.item) held false) _ (here held at)
  where
    here : (o : Option Share) → option_map (λ (share : Share). share.item) o ≡ Some item → option_map_or (λ (share : Share). test share.item) o false ≡ true
    here None at = absurd (cc at)
    here (Some share) at = let same : share.item ≡ item = cc in ap test same ∙ is
slot_has test (held ∷ shares) (suc slot) item at is =
    or_second (option_map_or (λ (share : Share). test share.item) held false) _ (slot_has test shares slot item at is)
