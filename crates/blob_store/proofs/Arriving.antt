-- What came under slots holds the ranges of parts, and the pieces.
use Rattle.std.proofs.Common.{◌≡◌, ℕ, zero, suc, ◌+◌, ◌==◌, ◌||◌, Bool, true, false, List, [], ◌∷◌, length, map, refl, sym, ap, subst, ◌∙◌, Option, Some, None, IfSome, IsSomeAnd}
use Rattle.std.specs.List.{AllByRecursion}
use Rattle.std.specs.Option.{option_map}
use Rattle.std.proofs.lemmas.Bool.{eqb-true}
use Rattle.session_script.specs.declared.event.Part.{Part}
use Rattle.session_script.specs.declared.event.Part.TheVariants.{Embedded, Asked, FileRange, BlobRange, HandleRange}
use Rattle.item_shares.specs.Shares.{item_at, share_at, share_of}
use Rattle.item_shares.specs.declared.item.Item.{Item}
use Rattle.item_shares.specs.declared.item.Item.TheVariants.{Memory, Reserved, File, Range}
use Rattle.item_shares.specs.declared.shares.Share.{Share}
use Rattle.blob_items.specs.declared.view.View.{View}
use Rattle.blob_model.specs.Pieces.{Piece}
use Rattle.store_laws.specs.BuildLaws.{AreAdded, IsNew}
use Rattle.store_laws.specs.EntryLaws.{AreBrought}
use Rattle.store_laws.specs.Items.{AreOnePerPiece, Facts, item_length, piece_of_item}
use Rattle.store_laws.specs.PartLaws.{AreRanges, IsAll}
use Rattle.store_laws.specs.NewItems.{memory_items, range_items, reserved_items}
use Rattle.blob_store.specs.Putting.{ArePut, is_seen, span}
use Rattle.blob_store.proofs.Putting.{seen_vacant}

abbrev pub fresh : Item → Option Share
fresh item = Some (share_of item 1)

abbrev pub whole : Item → ℕ × ℕ
whole item = (0, item_length item)

abbrev pub seen : List (Option Share) → List View → List (Option Share)
seen shares views = map (λ (view : View). share_at shares view.slot) views

-- the item of a slot that holds it
pub held : (shares : List (Option Share)) (slot : ℕ) (item : Item) → share_at shares slot ≡ fresh item → item_at shares slot ≡ Some item
held shares slot item is = ap (λ (one : Option Share). option_map (λ (share : Share). share.item) one) is

all_of : (view : View) (len : ℕ) → span view ≡ (0, len) → IsAll len view
all_of view len is = (ap (λ (one : ℕ × ℕ). one.0) is, ap (λ (one : ℕ × ℕ). one.1) is)

first_of : {X : Type 0} (x y : X) (xs ys : List X) → x ∷ xs ≡ y ∷ ys → x ≡ y
first_of x y xs ys is = cc is

rest_of : {X : Type 0} (x y : X) (xs ys : List X) → x ∷ xs ≡ y ∷ ys → xs ≡ ys
rest_of x y xs ys is = cc is

module _ (shares : List (Option Share)) where
  pub ranges_held : (parts : List Part) (views : List View) → seen shares views ≡ map fresh (range_items parts)
      → map span views ≡ map whole (range_items parts) → AreRanges shares views parts
  ranges_held [] views is long = tt
  ranges_held (Embedded bytes ∷ parts) views is long = ranges_held parts views is long
  ranges_held (Asked len ∷ parts) views is long = ranges_held parts views is long
  ranges_held (FileRange name off zero stamp ∷ parts) views is long = ranges_held parts views is long
  ranges_held (FileRange name off (suc len) stamp ∷ parts) [] is long = absurd (cc is)
  ranges_held (FileRange name off (suc len) stamp ∷ parts) (view ∷ views) is long = (
    all_of view (suc len) (first_of _ _ _ _ long),
    held shares view.slot (File name stamp off (suc len)) (first_of _ _ _ _ is),
    ranges_held parts views (rest_of _ _ _ _ is) (rest_of _ _ _ _ long),
  )
  ranges_held (BlobRange b off len ∷ parts) views is long = ranges_held parts views is long
  ranges_held (HandleRange k off zero ∷ parts) views is long = ranges_held parts views is long
  ranges_held (HandleRange k off (suc len) ∷ parts) [] is long = absurd (cc is)
  ranges_held (HandleRange k off (suc len) ∷ parts) (view ∷ views) is long = (
    all_of view (suc len) (first_of _ _ _ _ long),
    held shares view.slot (Range k off (suc len)) (first_of _ _ _ _ is),
    ranges_held parts views (rest_of _ _ _ _ is) (rest_of _ _ _ _ long),
  )

  pub memory_brought : (number : ℕ) (pieces : List (List ℕ)) (views : List View) → seen shares views ≡ map fresh (memory_items number pieces)
      → map span views ≡ map whole (memory_items number pieces) → AreBrought shares number (map (λ (bytes : List ℕ). length bytes) pieces) views
  memory_brought number [] [] is long = tt
  memory_brought number [] (view ∷ views) is long = absurd (cc is)
  memory_brought number (bytes ∷ pieces) [] is long = absurd (cc is)
  memory_brought number (bytes ∷ pieces) (view ∷ views) is long = (
    all_of view (length bytes) (first_of _ _ _ _ long),
    subst (λ (one : Option Item). IsSomeAnd one (λ (item : Item). (piece_of_item item ≡ Some number) × (item_length item ≡ length bytes)))
        (sym (held shares view.slot (Memory (record { 0 = number }) bytes) (first_of _ _ _ _ is))) (refl, refl),
    memory_brought (number + 1) pieces views (rest_of _ _ _ _ is) (rest_of _ _ _ _ long),
  )

  pub reserved_brought : (number : ℕ) (lengths : List ℕ) (views : List View) → seen shares views ≡ map fresh (reserved_items number lengths)
      → map span views ≡ map whole (reserved_items number lengths) → AreBrought shares number lengths views
  reserved_brought number [] [] is long = tt
  reserved_brought number [] (view ∷ views) is long = absurd (cc is)
  reserved_brought number (len ∷ lengths) [] is long = absurd (cc is)
  reserved_brought number (len ∷ lengths) (view ∷ views) is long = (
    all_of view len (first_of _ _ _ _ long),
    subst (λ (one : Option Item). IsSomeAnd one (λ (item : Item). (piece_of_item item ≡ Some number) × (item_length item ≡ len)))
        (sym (held shares view.slot (Reserved (record { 0 = number }) len) (first_of _ _ _ _ is))) (refl, refl),
    reserved_brought (number + 1) lengths views (rest_of _ _ _ _ is) (rest_of _ _ _ _ long),
  )

-- ---- items that came are added

pub put_ranges_held : (old new : List (Option Share)) (parts : List Part) (views : List View) → ArePut old (range_items parts) views new
    → AreRanges new views parts
put_ranges_held old new parts views put = ranges_held new parts views put.held put.whole

same_item : (here : Option Item) (item : Option Item) → here ≡ item → IfSome item (λ (one : Item). here ≡ Some one)
same_item here None is = tt
same_item here (Some item) is = is

-- what holds of each item holds of the item of a slot that is seen
pub seen_item : (P : Item → Type 0) (shares : List (Option Share)) (slot : ℕ) (views : List View) (items : List Item) → seen shares views ≡ map fresh items
    → AllByRecursion P items → is_seen slot views ≡ true → IfSome (item_at shares slot) P
seen_item P shares slot [] items is all at = absurd (cc at)
seen_item P shares slot (view ∷ views) [] is all at = absurd (cc is)
seen_item P shares slot (view ∷ views) (item ∷ items) is all at =
    by (seen_item P shares slot views items (rest_of _ _ _ _ is) all.1) (held shares view.slot item (first_of _ _ _ _ is)) (view.slot == slot) refl at
  where
    by : (is_seen slot views ≡ true → IfSome (item_at shares slot) P) → item_at shares view.slot ≡ Some item → (b : Bool) → (view.slot == slot) ≡ b
        → (b || is_seen slot views) ≡ true → IfSome (item_at shares slot) P
    by behind here true same at =
        subst (λ (one : Option Item). IfSome one P) (sym (subst (λ (n : ℕ). item_at shares n ≡ Some item) (eqb-true view.slot slot same) here)) all.0
    by behind here false same at = behind at

module _ (all : List Piece) (facts : Facts) (count : ℕ) (old new : List (Option Share)) where
  pub put_added : (items : List Item) (views : List View) → ArePut old items views new → AllByRecursion (IsNew all facts count) items → AreOnePerPiece new
      → AreAdded all facts count old new
  put_added items views put news apart = record {
    kept = λ slot. kept slot (is_seen slot views) refl;
    added = λ slot none. added slot none (is_seen slot views) refl;
    apart = apart;
  }
    where
      item_same : (slot : ℕ) → is_seen slot views ≡ false → item_at new slot ≡ item_at old slot
      item_same slot away = ap (λ (one : Option Share). option_map (λ (share : Share). share.item) one) (put.others slot away)

      kept : (slot : ℕ) (b : Bool) → is_seen slot views ≡ b → IfSome (item_at old slot) (λ (item : Item). item_at new slot ≡ Some item)
      kept slot true at =
          subst (λ (one : Option Share). IfSome (option_map (λ (share : Share). share.item) one) (λ (item : Item). item_at new slot ≡ Some item))
          (sym (seen_vacant old slot views put.vacant at)) tt
      kept slot false at = same_item (item_at new slot) (item_at old slot) (item_same slot at)

      added : (slot : ℕ) → item_at old slot ≡ None → (b : Bool) → is_seen slot views ≡ b → IfSome (item_at new slot) (IsNew all facts count)
      added slot none true at = seen_item (IsNew all facts count) new slot views items put.held news at
      added slot none false at = subst (λ (one : Option Item). IfSome one (IsNew all facts count)) (sym (item_same slot at ∙ none)) tt
