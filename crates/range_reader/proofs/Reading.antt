-- The cells of views are read part by part.
use Rattle.std.proofs.Common.{◌≡◌, ℕ, zero, suc, ◌+◌, ◌-◌, ◌^◌, ◌<◌, ◌≤◌, ◌∙◌, Bool, true, false, List, [], ◌∷◌, ◌++◌, cond, drop, get_or, length, min, take, Option, Some, refl, sym, ap, arith, subst, append_assoc, length-append}
use Rattle.std.specs.Prelude.{if◌then◌else◌}
use Rattle.std.specs.Option.{option_map_or}
use Rattle.std.specs.List.{AllByRecursion, list_any}
use Rattle.std.proofs.Math.Seq.{take-add}
use Rattle.std.proofs.lemmas.List.{drop_more, length-drop, length-take-le}
use Rattle.std.proofs.lemmas.List.Folds.{list_any-append}
use Rattle.std.proofs.lemmas.List.Sums.{sum_by-append, sum_by-cons}
use Rattle.item_shares.specs.declared.item.Item.{Item}
use Rattle.item_shares.specs.declared.item.Item.TheVariants.{Memory, Paged, Reserved, File, Range}
use Rattle.item_shares.specs.declared.shares.Share.{Share}
use Rattle.item_shares.specs.Shares.{item_at}
use Rattle.blob_items.specs.declared.view.View.{View}
use Rattle.blob_items.specs.Cells.{cells, total}
use Rattle.blob_items.proofs.CellLemmas.{step}
use Rattle.blob_items.proofs.StartLemmas.{more_total}
use Rattle.range_reader.specs.Bytes.{Origins, AreBytesOf, cell_byte, cell_fails, item_fails, is_paged, paged_count}
use Rattle.range_reader.specs.Places.{Lies, ViewLies}
use Rattle.range_reader.specs.Steps.{Asked, AreRead}
use Rattle.range_reader.specs.Parts.{ItemRead}
use Rattle.range_reader.proofs.Parts.{bytes_both, cells_of, length_cells_of, none_passes, part_bytes}
use Rattle.range_reader.proofs.Files.{passes_below}

-- the cells asked for, of which some were read, and the others stand behind the view at a place
pub record SoFar (shares : List (Option Share)) (views : List View) (old now : Asked) (off : ℕ) (whole : List (ℕ × ℕ)) (place skip done count : ℕ)
    (out : List ℕ) : Type 0 where
  pub taken : List (ℕ × ℕ)
  pub parts : whole ≡ taken ++ take (count - done) (drop skip (cells (drop place views)))
  pub long : length taken ≡ done
  pub at : done < count → total (take place views) + skip ≡ off + done
  pub from : now.from ≡ old.from
  pub read : AreRead shares old now taken (take done out)

-- a part of a paged item is paged whole, and of another not at all
one_more : (paged : Bool) (count : ℕ) → cond paged 1 0 + (if paged then count else 0) ≡ (if paged then suc count else 0)
one_more true count = omega arith
one_more false count = omega arith

none_yet : (paged : Bool) (none : ℕ) → none ≡ (if paged then none else none)
none_yet true none = refl
none_yet false none = refl

paged_cells : (shares : List (Option Share)) (slot : ℕ) (item : Item) → item_at shares slot ≡ Some item → (place count : ℕ)
    → paged_count shares (cells_of slot place count) ≡ (if is_paged item then count else 0)
paged_cells shares slot item there place zero = none_yet (is_paged item) 0
paged_cells shares slot item there place (suc count) =
    let is : option_map_or is_paged (item_at shares slot) false ≡ is_paged item = ap (λ (found : Option Item). option_map_or is_paged found false) there in
    let more = sum_by-cons (λ (cell : ℕ × ℕ). cond (option_map_or is_paged (item_at shares cell.0) false) 1 0) (slot, place) (cells_of slot
    (place + 1) count) in
    let rest = paged_cells shares slot item there (place + 1) count in
    more ∙ ap (λ (paged : Bool). cond paged 1 0 + paged_count shares (cells_of slot (place + 1) count)) is
    ∙ ap (λ (n : ℕ). cond (is_paged item) 1 0 + n) rest ∙ one_more (is_paged item) count

pub none_both : (test : ℕ × ℕ → Bool) (cells more : List (ℕ × ℕ)) → list_any test cells ≡ false → list_any test more ≡ false
    → list_any test (cells ++ more) ≡ false
none_both test cells more none none_too = rw (list_any-append test cells more, none, none_too) refl

-- a good read of a part, behind what was read
pub read_more : (shares : List (Option Share)) (old now next : Asked) (taken : List (ℕ × ℕ)) (bytes part : List ℕ) (slot place : ℕ) (item : Item)
    → now.from ≡ old.from → item_at shares slot ≡ Some item → 0 < length part
    → AreRead shares old now taken bytes → ItemRead now next item place part
    → AreRead shares old next (taken ++ cells_of slot place (length part)) (bytes ++ part)
read_more shares old now next taken bytes part slot place item same there some read good =
    let new = cells_of slot place (length part) in
    let passes : list_any (cell_fails old.from.files shares) new ≡ false =
    subst (λ (from : Origins). list_any (cell_fails from.files shares) new ≡ false) same
    (none_passes (cell_fails now.from.files shares) slot place (length part)
    (λ at below. ap (λ (found : Option Item). option_map_or (item_fails now.from.files at) found false) there
    ∙ passes_below now.from.files item at (place + length part - 1) (omega (arith, below, some)) good.passes)) in
    let bytes_are : AreBytesOf (cell_byte old.from shares) new part =
    subst (λ (from : Origins). AreBytesOf (cell_byte from shares) new part) same (part_bytes now.from shares slot item there place part good.bytes_are) in
    let counts = sum_by-append (λ (cell : ℕ × ℕ). cond (option_map_or is_paged (item_at shares cell.0) false) 1 0) taken new in
    let paged = paged_cells shares slot item there place (length part) in
    record {
      fails = none_both (cell_fails old.from.files shares) taken new read.fails passes;
      bytes_are = bytes_both (cell_byte old.from shares) taken new bytes part read.bytes_are bytes_are;
      calm = record {
        handles = good.calm.0 ∙ read.calm.handles;
        faults = good.calm.1 ∙ read.calm.faults;
        meter = meters old.meter now.meter next.meter (paged_count shares taken) (if is_paged item then length part else 0) (paged_count shares
            (taken ++ new)) read.calm.meter good.meter (counts ∙ ap (λ (n : ℕ). paged_count shares taken + n) paged);
      };
    }
  where
    meters : (old now next one two both : ℕ) → min now (2 ^ 64 - 1) ≡ min (old + one) (2 ^ 64 - 1)
        → min next (2 ^ 64 - 1) ≡ min (now + two) (2 ^ 64 - 1) → both ≡ one + two → min next (2 ^ 64 - 1) ≡ min (old + both) (2 ^ 64 - 1)
    meters old now next one two both first second sum = omega (arith, first, second, sum)

-- one part more
pub read_on : (shares : List (Option Share)) (views : List View) (old now next : Asked) (off : ℕ) (whole : List (ℕ × ℕ))
    (place skip done count size : ℕ) (out later : List ℕ) (view : View) (item : Item)
    → place < length views → view ≡ get_or views place view → skip < view.len → done < count → size ≡ min (view.len - skip) (count - done)
    → item_at shares view.slot ≡ Some item → length later ≡ count → take done later ≡ take done out → next.from ≡ now.from
    → SoFar shares views old now off whole place skip done count out → ItemRead now next item (view.off + skip) (take size (drop done later))
    → SoFar shares views old next off whole (place + 1) 0 (done + size) count later
read_on shares views old now next off whole place skip done count size out later view item inside is within some size_is there long front same so_far good =
    let part = take size (drop done later) in
    let part_len : length part ≡ size = part_length size done count later long (omega (arith, size_is)) in
    let here : drop place views ≡ view ∷ drop (place + 1) views = drop_more views place view inside ∙ ap (λ (v : View). v ∷ drop (place + 1) views) (sym is) in
    let sized : min (count - done) (view.len - skip) ≡ size = omega (arith, size_is) in
    let new = cells_of view.slot (view.off + skip) size in
    let split : take (count - done) (drop skip (cells (drop place views))) ≡ new ++ take (count - done - size) (cells (drop (place + 1) views)) =
    rw (here, step view (drop (place + 1) views) skip (count - done) within, sized) refl in
    let left : count - done - size ≡ count - (done + size) = omega arith in
    let total_is = more_total place views view inside is in
    let bytes_is : take (done + size) later ≡ take done out ++ part = take-add done size later ∙ ap (λ (bytes : List ℕ). bytes ++ part) front in
    record {
      taken = so_far.taken ++ new;
      parts = so_far.parts ∙ ap (λ (tail : List (ℕ × ℕ)). so_far.taken ++ tail) (split
          ∙ ap (λ (n : ℕ). new ++ take n (cells (drop (place + 1) views))) left)
          ∙ sym (append_assoc so_far.taken new (take (count - (done + size)) (cells (drop (place + 1) views))));
      long = length-append so_far.taken new ∙ omega (arith, so_far.long, length_cells_of view.slot (view.off + skip) size);
      at = λ more. omega (arith, so_far.at some, total_is, size_is, more, within);
      from = same ∙ so_far.from;
      read =
          subst (λ (n : ℕ). AreRead shares old next (so_far.taken ++ cells_of view.slot (view.off + skip) n) (take (done + size) later)) part_len
          (subst (AreRead shares old next (so_far.taken ++ cells_of view.slot (view.off + skip) (length part))) (sym bytes_is)
          (read_more shares old now next so_far.taken (take done out) part view.slot (view.off + skip) item so_far.from there (omega
          (arith, part_len, size_is, some, within)) so_far.read good));
    }
  where
    part_length : (size done count : ℕ) (later : List ℕ) → length later ≡ count → size ≤ count - done → length (take size (drop done later)) ≡ size
    part_length size done count later long fits = length-take-le size (drop done later) (omega (arith, length-drop done later, long, fits))

all_at : {X : Type 0} (P : X → Type 0) (xs : List X) (i : ℕ) (d : X) → i < length xs → AllByRecursion P xs → P (get_or xs i d)
all_at P [] i d inside all = absurd (omega arith)
all_at P (x ∷ xs) zero d inside all = all.0
all_at P (x ∷ xs) (suc i) d inside all = all_at P xs i d (omega arith) all.1

-- a part of what lies inside an item
part_lies : (from : Origins) (item : Item) (off len skip size : ℕ) → skip + size ≤ len → Lies from off len item → Lies from (off + skip) size item
part_lies from (Memory piece bytes) off len skip size within lies = omega (arith, within, lies)
part_lies from (Paged piece page start long) off len skip size within lies = (omega (arith, within, lies.0), lies.1, lies.2)
part_lies from (Reserved piece long) off len skip size within lies = lies
part_lies from (File name stamp start long) off len skip size within lies = omega (arith, within, lies)
part_lies from (Range slot start long) off len skip size within lies = (omega (arith, within, lies.0), lies.1, lies.2)

-- the part of a view that is read next lies inside its item
pub next_lies : (from now : Origins) (shares : List (Option Share)) (views : List View) (place skip size : ℕ) (view : View) (item : Item) → now ≡ from
    → AllByRecursion (ViewLies from shares) views → place < length views → view ≡ get_or views place view → skip + size ≤ view.len
    → item_at shares view.slot ≡ Some item
    → Lies now (view.off + skip) size item
next_lies from now shares views place skip size view item same all inside is within there =
    let lies : ViewLies from shares view = subst (ViewLies from shares) (sym is) (all_at (ViewLies from shares) views place view inside all) in
    let lies_there : Lies from view.off view.len item = rw there at lies in
    subst (λ (origins : Origins). Lies origins (view.off + skip) size item) (sym same) (part_lies from item view.off view.len skip size within lies_there)
