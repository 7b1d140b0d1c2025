-- In a legal transcript each blob has as many cells as its size.
use Rattle.std.proofs.Common.{◌≡◌, ℕ, ◌+◌, ◌≤◌, ◌==◌, Bool, true, false, ◌&&◌, ◌||◌, not, List, [], ◌∷◌, ◌++◌, length, take, drop, refl, sym, ◌∙◌, arith, Option, Some, None, length-take, length-drop, length-append}
use Rattle.std.specs.Prelude.{cond, find, nat_lt, ◌^◌}
use Rattle.std.specs.Option.{option_map_or}
use Rattle.std.specs.List.{AllByRecursion, list_any}
use Rattle.std.proofs.lemmas.Bool.{or_parts, ltb-false}
use Rattle.std.proofs.lemmas.List.FromFn.{length-map-range_with_len}
use Rattle.std.proofs.lemmas.List.Sums.{sum_by-cons}
use Rattle.blob_words.specs.declared.status.Status.{Status}
use Rattle.session_script.specs.declared.event.Part.{Part}
use Rattle.session_script.specs.declared.event.Part.TheVariants.{Embedded, Asked, FileRange, BlobRange, HandleRange}
use Rattle.answer_text.specs.declared.group.Group.{Group}
use Rattle.blob_model.specs.Session.{Session, page_limit}
use Rattle.blob_model.specs.History.{History, start, after, history_from}
use Rattle.blob_model.specs.Parts.{part_length, parts_length, sources}
use Rattle.blob_model.specs.Builds.{Cell, Build, builds, size, size_in, cells_in, cells_of, own_cells, file_cells, handle_cells, planned_cells, planned_size, plan_told, built, sent, filed, lent}
use Rattle.blob_model.specs.Standing.{is_broken}
use Rattle.blob_model.specs.Handles.{has_handle}
use Rattle.blob_model.specs.Construct.{is_invalid, is_lost_source, line_tests, line_status, build_answer, build_answer_by}
use Rattle.blob_model.specs.Choice.{first_that}
use Rattle.blob_model.specs.Legal.{IsLegalFrom}
use Rattle.blob_model.proofs.Lists.{false_true}
use Rattle.blob_model.proofs.builds.Growth.{Grows, by_none, by_one, grows}

-- as many cells as the size
abbrev pub Fit : List Build → Type 0
Fit list = AllByRecursion (λ (build : Build). length build.cells ≡ size build) list

fit_at : (list : List Build) (name : ℕ) → Fit list → size_in list name ≡ length (cells_in list name)
fit_at [] name fit = refl
fit_at (x ∷ list) name fit = go (x.name == name) (fit_at list name fit.1)
  where
    go : (b : Bool) → size_in list name ≡ length (cells_in list name)
        → option_map_or size (cond b (Some x) (find (λ (build : Build). build.name == name) list)) 0
        ≡ length (option_map_or (λ (build : Build). build.cells) (cond b (Some x) (find (λ (build : Build). build.name == name) list)) [])
    go true rest = sym fit.0
    go false rest = rest

-- a range of another blob is inside its cells
abbrev InCells : List Build → Part → Type 0
InCells list (BlobRange b off len) = off + len ≤ length (cells_in list b)
InCells list part = Unit {0}

part_of : (list : List Cell) (off len : ℕ) → off + len ≤ length list → length (take len (drop off list)) ≡ len
part_of list off len inside = simp (length-take, length-drop) (omega arith)

cells_length : (list : List Build) (name from : ℕ) (parts : List Part) → AllByRecursion (InCells list) parts → length (cells_of list name from parts)
    ≡ parts_length parts
cells_length list name from [] inside = refl
cells_length list name from (Embedded bytes ∷ parts) inside =
    length-append (own_cells name from (length bytes)) (cells_of list name (from + length bytes) parts)
    ∙ (λ i. length-map-range_with_len (λ (index : ℕ). sent name index) from (length bytes) i + cells_length list name (from + length bytes) parts inside.1 i)
    ∙ sym (sum_by-cons part_length (Embedded bytes) parts)
cells_length list name from (Asked len ∷ parts) inside =
    length-append (own_cells name from len) (cells_of list name (from + len) parts)
    ∙ (λ i. length-map-range_with_len (λ (index : ℕ). sent name index) from len i + cells_length list name (from + len) parts inside.1 i)
    ∙ sym (sum_by-cons part_length (Asked len) parts)
cells_length list name from (FileRange file off len stamp ∷ parts) inside =
    length-append (file_cells file stamp off len) (cells_of list name from parts)
    ∙ (λ i. length-map-range_with_len (λ (index : ℕ). filed file stamp index) off len i + cells_length list name from parts inside.1 i)
    ∙ sym (sum_by-cons part_length (FileRange file off len stamp) parts)
cells_length list name from (BlobRange b off len ∷ parts) inside =
    length-append (take len (drop off (cells_in list b))) (cells_of list name from parts)
    ∙ (λ i. part_of (cells_in list b) off len inside.0 i + cells_length list name from parts inside.1 i)
    ∙ sym (sum_by-cons part_length (BlobRange b off len) parts)
cells_length list name from (HandleRange k off len ∷ parts) inside =
    length-append (handle_cells k off len) (cells_of list name from parts)
    ∙ (λ i. length-map-range_with_len (λ (index : ℕ). lent k index) off len i + cells_length list name from parts inside.1 i)
    ∙ sym (sum_by-cons part_length (HandleRange k off len) parts)

-- where none of several tests applies
pub none_applies : {X : Type 0} (cases : List (Bool × X)) → first_that cases ≡ None → AllByRecursion (λ (case : Bool × X). case.0 ≡ false) cases
none_applies [] e = tt
none_applies {X = X} (case ∷ cases) e = go (case.0) refl (none_applies cases) e
  where
    go : (b : Bool) → case.0 ≡ b → (first_that cases ≡ None → AllByRecursion (λ (each : Bool × X). each.0 ≡ false) cases)
        → (elim b as (λ (c : Bool). Option X) [ true ↦ Some (case.1) | false ↦ first_that cases ]) ≡ None → (case.0 ≡ false)
        × AllByRecursion (λ (each : Bool × X). each.0 ≡ false) cases
    go true at rest f = cc
    go false at rest f = (at, rest f)

-- a source that is held, unbroken and in range
held_range : (has broken late self : Bool) → (not has || broken) ≡ false → (self || (has && not broken && late)) ≡ false → late ≡ false
held_range true false late self e f = (or_parts self late f).1
held_range true true late self e f = absurd (false_true (sym e))
held_range false broken late self e f = absurd (false_true (sym e))

in_cells : (s : Session) (h : History) (renderer name : ℕ) (parts : List Part) → Fit (builds (page_limit s) h)
    → list_any (is_invalid s h renderer name) parts ≡ false → list_any (is_lost_source h renderer) (sources parts) ≡ false
    → AllByRecursion (InCells (builds (page_limit s) h)) parts
in_cells s h renderer name [] fit valid held = tt
in_cells s h renderer name (Embedded bytes ∷ parts) fit valid held = (tt, in_cells s h renderer name parts fit valid held)
in_cells s h renderer name (Asked len ∷ parts) fit valid held = (tt, in_cells s h renderer name parts fit valid held)
in_cells s h renderer name (FileRange file off len stamp ∷ parts) fit valid held = (tt, in_cells s h renderer name parts fit valid held)
in_cells s h renderer name (BlobRange b off len ∷ parts) fit valid held =
    let v = or_parts (is_invalid s h renderer name (BlobRange b off len)) (list_any (is_invalid s h renderer name) parts) valid in
    let d = or_parts (is_lost_source h renderer b) (list_any (is_lost_source h renderer) (sources parts)) held in
    let inside : nat_lt (size_in (builds (page_limit s) h) b) (off + len) ≡ false =
    held_range (has_handle h renderer b) (is_broken h b) (nat_lt (size_in (builds (page_limit s) h) b) (off + len)) (b == name) d.0 v.0 in
    let below : off + len ≤ size_in (builds (page_limit s) h) b = ltb-false (size_in (builds (page_limit s) h) b) (off + len) inside in
    let same : size_in (builds (page_limit s) h) b ≡ length (cells_in (builds (page_limit s) h) b) = fit_at (builds (page_limit s) h) b fit in
    (omega (arith, below, same), in_cells s h renderer name parts fit v.1 d.1)
in_cells s h renderer name (HandleRange k off len ∷ parts) fit valid held =
    let v = or_parts (is_invalid s h renderer name (HandleRange k off len)) (list_any (is_invalid s h renderer name) parts) valid in
    (tt, in_cells s h renderer name parts fit v.1 held)

new_fits : (s : Session) (h : History) (renderer name : ℕ) (kind : List ℕ) (parts : List Part) → Fit (builds (page_limit s) h)
    → length (planned_cells (builds (page_limit s) h) name parts (plan_told (build_answer s h renderer name parts)))
    ≡ planned_size (plan_told (build_answer s h renderer name parts)) parts
new_fits s h renderer name kind parts fit = go (line_status s h renderer name parts) refl
  where
    go : (status : Option Status) → line_status s h renderer name parts ≡ status
        → length (planned_cells (builds (page_limit s) h) name parts (plan_told (build_answer_by s h name parts status)))
        ≡ planned_size (plan_told (build_answer_by s h name parts status)) parts
    go (Some status) e = refl
    go None e =
        let tests = none_applies (line_tests s h renderer name parts) e in
        let valid = or_parts (list_any (is_invalid s h renderer name) parts) (nat_lt (2 ^ 62) (parts_length parts)) tests.0 in
        cells_length (builds (page_limit s) h) name 0 parts (in_cells s h renderer name parts fit valid.0 tests.1.0)

fit_more : (list : List Build) (build : Build) → Fit list → length build.cells ≡ size build → Fit (list ++ build ∷ [])
fit_more [] build fit one = (one, tt)
fit_more (x ∷ list) build fit one = (fit.0, fit_more list build fit.1 one)

pub fit_grows : (s : Session) (h : History) (later : List Build) → Grows s h (builds (page_limit s) h) later → Fit (builds (page_limit s) h) → Fit later
fit_grows s h later by_none fit = fit
fit_grows s h later (by_one renderer name kind parts) fit =
    fit_more (builds (page_limit s) h) (built (page_limit s) (builds (page_limit s) h) renderer name kind parts
    (plan_told (build_answer s h renderer name parts))) fit (new_fits s h renderer name kind parts fit)

pub fit_from : (s : Session) (h : History) (groups : List Group) → Fit (builds (page_limit s) h) → IsLegalFrom s h groups
    → Fit (builds (page_limit s) (history_from h groups))
fit_from s h [] fit legal = fit
fit_from s h (group ∷ groups) fit legal =
    fit_from s (after h group.event group.answers) groups (fit_grows s h (builds (page_limit s) (after h group.event group.answers)) (grows s h group legal.0)
    fit) legal.1

pub cells_are_sizes : (s : Session) (groups : List Group) → IsLegalFrom s start groups → Fit (builds (page_limit s) (history_from start groups))
cells_are_sizes s groups legal = fit_from s start groups tt legal
