-- One blob more is looked at, from the last on.
use Rattle.std.proofs.Common.{◌≡◌, ℕ, zero, suc, ◌+◌, ◌-◌, ◌<◌, ◌≤◌, ◌==◌, ◌&&◌, ◌||◌, Bool, true, false, cond, List, [], ◌∷◌, ◌++◌, Option, Some, None, length, get_or, take, drop, refl, sym, ap, subst, ◌∙◌, if◌then◌else◌, arith, append-nil}
use Rattle.std.specs.Prelude.{reverse, filter_map, slice_get}
use Rattle.std.specs.List.{list_any, cons_option}
use Rattle.std.proofs.lemmas.List.{reverse-append, length-reverse, drop_more, drop_all, take_all, get_or-reverse}
use Rattle.std.proofs.lemmas.List.Folds.{list_any-append}
use Rattle.blob_model.specs.History.{History}
use Rattle.blob_model.specs.Parts.{sources}
use Rattle.blob_model.specs.Builds.{Build}
use Rattle.blob_model.specs.Standing.{is_unfinished}
use Rattle.blob_model.specs.Live.{is_rooted, has_source, is_needed, live_from}
use Rattle.history_notions.specs.Chosen.{items_at, wants, is_kept_alive, places_after, wanted_after}

or_turned : (x y : Bool) → (x || y) ≡ (y || x)
or_turned true true = refl
or_turned true false = refl
or_turned false true = refl
or_turned false false = refl

-- what later blobs want is all that they need
abbrev pub AreWanted : History → List Build → List ℕ → Type 0
AreWanted h later wanted = (name : ℕ) → is_needed h later name ≡ list_any (λ (each : ℕ). each == name) wanted

wanted_more : (h : History) (build : Build) (later : List Build) (wanted : List ℕ) → AreWanted h later wanted
    → (name : ℕ) → is_needed h (build ∷ later) name ≡ list_any (λ (each : ℕ). each == name) (wanted ++ wants h build)
wanted_more h build later wanted agree name = by (is_unfinished h build.name) refl
  where
    by : (b : Bool) → is_unfinished h build.name ≡ b
        → ((is_unfinished h build.name && has_source build name) || is_needed h later name) ≡ list_any (λ (each : ℕ). each == name) (wanted ++ wants h build)
    by true is =
        ap (λ (b : Bool). (b && has_source build name) || is_needed h later name) is
        ∙ ap (λ (b : Bool). has_source build name || b) (agree name)
        ∙ or_turned (has_source build name) (list_any (λ (each : ℕ). each == name) wanted)
        ∙ sym (list_any-append (λ (each : ℕ). each == name) wanted (sources build.parts))
        ∙ ap (λ (b : Bool). list_any (λ (each : ℕ). each == name) (wanted ++ (if b then sources build.parts else []))) (sym is)
    by false is =
        ap (λ (b : Bool). (b && has_source build name) || is_needed h later name) is
        ∙ agree name
        ∙ ap (λ (names : List ℕ). list_any (λ (each : ℕ). each == name) names) (sym (append-nil wanted))
        ∙ ap (λ (b : Bool). list_any (λ (each : ℕ). each == name) (wanted ++ (if b then sources build.parts else []))) (sym is)

one_more : {X : Type 0} (items : List X) (places : List ℕ) (place : ℕ) (item : X) → slice_get items place ≡ Some item
    → items_at items (reverse (places ++ place ∷ [])) ≡ item ∷ items_at items (reverse places)
one_more {X} items places place item there =
    ap (items_at items) (reverse-append places (place ∷ []))
    ∙ ap (λ (found : Option X). cons_option found (items_at items (reverse places))) there

-- what one blob more does to the pass over the blobs
pub record IsPassed (page : ℕ) (h : History) (items : List Build) (rest : List Build) (places : List ℕ) (wanted : List ℕ) : Type 0 where
  pub passes : live_from page h rest (items_at items (reverse places)) ≡ live_from page h (reverse items) []
  pub agree : AreWanted h (items_at items (reverse places)) wanted

pub passed_more : (page : ℕ) (h : History) (items rest : List Build) (build : Build) (place : ℕ) (places wanted : List ℕ)
    → slice_get items place ≡ Some build → IsPassed page h items (build ∷ rest) places wanted
    → IsPassed page h items rest (places_after page h build place wanted places) (wanted_after page h build wanted)
passed_more page h items rest build place places wanted there passed = by (is_kept_alive page h wanted build.name) refl
  where
    later : List Build
    later = items_at items (reverse places)

    test : (is_rooted page h build.name || is_needed h later build.name) ≡ is_kept_alive page h wanted build.name
    test = ap (λ (b : Bool). is_rooted page h build.name || b) (passed.agree build.name)

    by : (b : Bool) → is_kept_alive page h wanted build.name ≡ b
        → IsPassed page h items rest (if b then places ++ place ∷ [] else places) (if b then wanted ++ wants h build else wanted)
    by true is = record {
      passes =
          ap (live_from page h rest) (one_more items places place build there)
          ∙ sym (ap (λ (b : Bool). live_from page h rest (if b then build ∷ later else later)) (test ∙ is))
          ∙ passed.passes;
      agree = λ (name : ℕ).
          ap (λ (list : List Build). is_needed h list name) (one_more items places place build there)
          ∙ wanted_more h build later wanted passed.agree name;
    }
    by false is = record {
      passes = sym (ap (λ (b : Bool). live_from page h rest (if b then build ∷ later else later)) (test ∙ is)) ∙ passed.passes;
      agree = passed.agree;
    }

got : {X : Type 0} (items : List X) (k : ℕ) (x : X) → k < length items → x ≡ get_or items k x → slice_get items k ≡ Some x
got [] k x below is = absurd (omega (arith, below))
got (y ∷ ys) zero x below is = ap Some (sym is)
got (y ∷ ys) (suc k) x below is = got ys k x (omega (arith, below)) is

-- the blob at a place, told from the last on, is looked at next
pub passed_next : (page : ℕ) (h : History) (items : List Build) (back k : ℕ) (build : Build) (places wanted : List ℕ)
    → back < length items → k ≡ length items - 1 - back → build ≡ get_or items k build
    → IsPassed page h items (drop back (reverse items)) places wanted
    → IsPassed page h items (drop (back + 1) (reverse items)) (places_after page h build k wanted places) (wanted_after page h build wanted)
passed_next page h items back k build places wanted below at is passed =
    passed_more page h items (drop (back + 1) (reverse items)) build k places wanted (got items k build (omega (arith, below, at)) is)
    (subst (λ (list : List Build). IsPassed page h items list places wanted) split passed)
  where
    split : drop back (reverse items) ≡ build ∷ drop (back + 1) (reverse items)
    split =
        drop_more (reverse items) back build (omega (arith, below, length-reverse items))
        ∙ ap (λ (one : Build). one ∷ drop (back + 1) (reverse items))
        (get_or-reverse items back build below ∙ ap (λ (n : ℕ). get_or items n build) (sym at) ∙ sym is)

-- all blobs were looked at
pub passed_all : (page : ℕ) (h : History) (items : List Build) (back : ℕ) (places wanted : List ℕ) → length items ≤ back
    → IsPassed page h items (drop back (reverse items)) places wanted → items_at items (reverse places) ≡ live_from page h (reverse items) []
passed_all page h items back places wanted over passed =
    ap (λ (rest : List Build). live_from page h rest (items_at items (reverse places)))
    (sym (drop_all back (reverse items) (omega (arith, over, length-reverse items))))
    ∙ passed.passes

-- a list that is turned in its place
pub turned_whole : (places turned : List ℕ) → turned ≡ reverse places → take (length places) (turned ++ drop (length turned) places) ≡ reverse places
turned_whole places turned same =
    let count : length turned ≡ length places = ap length same ∙ length-reverse places in
    ap (λ (rest : List ℕ). take (length places) (turned ++ rest)) (drop_all (length turned) places (omega (arith, count)))
    ∙ ap (take (length places)) (append-nil turned)
    ∙ take_all (length places) turned (omega (arith, count))
    ∙ same
