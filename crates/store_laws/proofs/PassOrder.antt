-- The order of use behind a pass.
use Rattle.std.proofs.Common.{◌≡◌, ℕ, ◌==◌, ◌&&◌, ◌||◌, not, Bool, true, false, cond, List, [], ◌∷◌, ◌++◌, map, refl, ap, sym, ◌∙◌, Option, Some, None}
use Rattle.std.specs.Prelude.{filter, filter_map, flat_map, fold, nat_eq}
use Rattle.std.specs.List.{cons_option, list_any}
use Rattle.std.proofs.lemmas.Bool.{eqb-true, eq-eqb}
use Rattle.std.proofs.lemmas.List.Elements.{filter_map-append}
use Rattle.std.proofs.lemmas.List.Sums.{fold-append}
use Rattle.blob_words.specs.declared.status.Status.{Status}
use Rattle.blob_words.specs.declared.status.Status.TheVariants as statuses
use Rattle.recent_items.specs.Recent.{without}
use Rattle.blob_registry.specs.declared.ended_blob.EndedBlob.{EndedBlob}
use Rattle.blob_model.specs.History.{History, said, said_all}
use Rattle.blob_model.specs.Session.{Session, page_limit}
use Rattle.blob_model.specs.Victims.{last_uses, used}
use Rattle.registry_laws.specs.Laws.{ending_answer}
use Rattle.store_laws.specs.Passing.{done_pieces, entered}
use Rattle.store_laws.specs.Uses.{own_pieces}
use Rattle.store_laws.proofs.Letting.{filter_same, filter_twice}
use Rattle.store_laws.proofs.Viewed.{iff_true}

-- ---- uses, one after the other

pub turn : (a b : ℕ) → (a == b) ≡ (b == a)
turn a b = iff_true (a == b) (b == a) (λ e. eq-eqb b a (sym (eqb-true a b e))) (λ e. eq-eqb a b (sym (eqb-true b a e)))

-- the pieces of those that got done are used, in the order of the endings
pub uses_said : (s : Session) (h : History) (list : List EndedBlob) (one : History)
    → ((name : ℕ) → own_pieces (page_limit s) one name ≡ own_pieces (page_limit s) h name)
    → last_uses s.limits (said_all one (map ending_answer list)) ≡ fold used (last_uses s.limits one) (flat_map (done_pieces s h) list)
uses_said s h [] one same = refl
uses_said s h (end ∷ list) one same =
    uses_said s h list (said one (ending_answer end)) (next end.name end.status)
    ∙ ap (λ (uses : List ℕ). fold used uses (flat_map (done_pieces s h) list)) (by end.name end.status)
    ∙ sym (fold-append used (last_uses s.limits one) (done_pieces s h end) (flat_map (done_pieces s h) list))
  where
    next : (name : ℕ) (status : Status) (other : ℕ)
        → own_pieces (page_limit s) (said one (ending_answer (record { name = name; status = status }))) other ≡ own_pieces (page_limit s) h other
    next name statuses.Done other = same other
    next name status other = same other

    by : (name : ℕ) (status : Status)
        → last_uses s.limits (said one (ending_answer (record { name = name; status = status })))
        ≡ fold used (last_uses s.limits one) (done_pieces s h (record { name = name; status = status }))
    by name statuses.Done = ap (fold used (last_uses s.limits one)) (same name)
    by name status = refl

-- ---- what uses are, each with what is told of it

module _ (tell : ℕ → Option (ℕ × ℕ)) (named : (n : ℕ) (entry : ℕ × ℕ) → tell n ≡ Some entry → entry.0 ≡ n) where
  none_out : (number : ℕ) → tell number ≡ None → (uses : List ℕ)
      → filter_map tell (filter (λ (each : ℕ). not (each == number)) uses) ≡ filter_map tell uses
  none_out number none [] = refl
  none_out number none (n ∷ uses) = go (n == number) refl (none_out number none uses)
    where
      go : (b : Bool) → (n == number) ≡ b
          → filter_map tell (filter (λ (each : ℕ). not (each == number)) uses) ≡ filter_map tell uses
          → filter_map tell (cond (not b) (n ∷ filter (λ (each : ℕ). not (each == number)) uses) (filter (λ (each : ℕ). not (each == number)) uses))
          ≡ cons_option (tell n) (filter_map tell uses)
      go false at rest = ap (cons_option (tell n)) rest
      go true at rest =
          rest
          ∙ ap (λ (o : Option (ℕ × ℕ)). cons_option o (filter_map tell uses)) (sym none ∙ ap tell (sym (eqb-true n number at)))

  pub some_out : (number : ℕ) (uses : List ℕ)
      → filter_map tell (filter (λ (each : ℕ). not (each == number)) uses) ≡ without number (filter_map tell uses)
  some_out number [] = refl
  some_out number (n ∷ uses) = go (n == number) refl (tell n) refl (some_out number uses)
    where
      same : (entry : ℕ × ℕ) → tell n ≡ Some entry → (b : Bool) → (n == number) ≡ b → nat_eq number entry.0 ≡ b
      same entry is b at = ap (λ (m : ℕ). number == m) (named n entry is) ∙ turn number n ∙ at

      go : (b : Bool) → (n == number) ≡ b → (o : Option (ℕ × ℕ)) → tell n ≡ o
          → filter_map tell (filter (λ (each : ℕ). not (each == number)) uses) ≡ without number (filter_map tell uses)
          → filter_map tell (cond (not b) (n ∷ filter (λ (each : ℕ). not (each == number)) uses) (filter (λ (each : ℕ). not (each == number)) uses))
          ≡ without number (cons_option (tell n) (filter_map tell uses))
      go false at None is rest =
          ap (λ (o : Option (ℕ × ℕ)). cons_option o (filter_map tell (filter (λ (each : ℕ). not (each == number)) uses))) is
          ∙ rest ∙ sym (ap (λ (o : Option (ℕ × ℕ)). without number (cons_option o (filter_map tell uses))) is)
      go true at None is rest = rest ∙ sym (ap (λ (o : Option (ℕ × ℕ)). without number (cons_option o (filter_map tell uses))) is)
      go false at (Some entry) is rest =
          ap (λ (o : Option (ℕ × ℕ)). cons_option o (filter_map tell (filter (λ (each : ℕ). not (each == number)) uses))) is
          ∙ ap (λ (more : List (ℕ × ℕ)). entry ∷ more) rest
          ∙ sym (ap (λ (b : Bool). cond (not b) (entry ∷ without number (filter_map tell uses)) (without number (filter_map tell uses)))
          (same entry is false at))
          ∙ sym (ap (λ (o : Option (ℕ × ℕ)). without number (cons_option o (filter_map tell uses))) is)
      go true at (Some entry) is rest =
          rest
          ∙ sym (ap (λ (b : Bool). cond (not b) (entry ∷ without number (filter_map tell uses)) (without number (filter_map tell uses)))
          (same entry is true at))
          ∙ sym (ap (λ (o : Option (ℕ × ℕ)). without number (cons_option o (filter_map tell uses))) is)

  nil_last : (xs : List (ℕ × ℕ)) → xs ++ [] ≡ xs
  nil_last [] = refl
  nil_last (x ∷ xs) = ap (λ (more : List (ℕ × ℕ)). x ∷ more) (nil_last xs)

  one_used : (uses : List ℕ) (number : ℕ) → filter_map tell (used uses number) ≡ fold entered (filter_map tell uses) (filter_map tell (number ∷ []))
  one_used uses number =
      filter_map-append tell (filter (λ (each : ℕ). not (each == number)) uses) (number ∷ []) ∙ go (tell number) refl
    where
      go : (o : Option (ℕ × ℕ)) → tell number ≡ o
          → filter_map tell (filter (λ (each : ℕ). not (each == number)) uses) ++ cons_option (tell number) []
          ≡ fold entered (filter_map tell uses) (cons_option (tell number) [])
      go None is =
          ap (λ (o : Option (ℕ × ℕ)). filter_map tell (filter (λ (each : ℕ). not (each == number)) uses) ++ cons_option o []) is
          ∙ nil_last (filter_map tell (filter (λ (each : ℕ). not (each == number)) uses))
          ∙ none_out number is uses
          ∙ sym (ap (λ (o : Option (ℕ × ℕ)). fold entered (filter_map tell uses) (cons_option o [])) is)
      go (Some entry) is =
          ap (λ (o : Option (ℕ × ℕ)). filter_map tell (filter (λ (each : ℕ). not (each == number)) uses) ++ cons_option o []) is
          ∙ ap (λ (more : List (ℕ × ℕ)). more ++ entry ∷ [])
          (some_out number uses ∙ ap (λ (n : ℕ). without n (filter_map tell uses)) (sym (named number entry is)))
          ∙ sym (ap (λ (o : Option (ℕ × ℕ)). fold entered (filter_map tell uses) (cons_option o [])) is)

  pub all_used : (numbers : List ℕ) (uses : List ℕ)
      → filter_map tell (fold used uses numbers) ≡ fold entered (filter_map tell uses) (filter_map tell numbers)
  all_used [] uses = refl
  all_used (number ∷ numbers) uses =
      all_used numbers (used uses number)
      ∙ ap (λ (order : List (ℕ × ℕ)). fold entered order (filter_map tell numbers)) (one_used uses number)
      ∙ sym (fold-append entered (filter_map tell uses) (filter_map tell (number ∷ [])) (filter_map tell numbers))
      ∙ ap (fold entered (filter_map tell uses)) (sym (filter_map-append tell (number ∷ []) numbers))

-- ---- where what is entered goes out first

abbrev pub stays : List (ℕ × ℕ) → ℕ × ℕ → Bool
stays list entry = not (list_any (λ (one : ℕ × ℕ). one.0 == entry.0) list)

not_either : (a b : Bool) → (not a && not b) ≡ not (a || b)
not_either true b = refl
not_either false b = refl

filter_append : (p : ℕ × ℕ → Bool) (xs ys : List (ℕ × ℕ)) → filter p (xs ++ ys) ≡ filter p xs ++ filter p ys
filter_append p [] ys = refl
filter_append p (x ∷ xs) ys = go (p x) (filter_append p xs ys)
  where
    go : (b : Bool) → filter p (xs ++ ys) ≡ filter p xs ++ filter p ys
        → cond b (x ∷ filter p (xs ++ ys)) (filter p (xs ++ ys)) ≡ cond b (x ∷ filter p xs) (filter p xs) ++ filter p ys
    go true rest = ap (λ (more : List (ℕ × ℕ)). x ∷ more) rest
    go false rest = rest

all_stay : (order : List (ℕ × ℕ)) → order ≡ filter (λ (entry : ℕ × ℕ). true) order
all_stay [] = refl
all_stay (entry ∷ order) = ap (λ (list : List (ℕ × ℕ)). entry ∷ list) (all_stay order)

nothing_last : (xs : List (ℕ × ℕ)) → xs ≡ xs ++ []
nothing_last [] = refl
nothing_last (x ∷ xs) = ap (λ (more : List (ℕ × ℕ)). x ∷ more) (nothing_last xs)

joined : (xs ys zs : List (ℕ × ℕ)) → (xs ++ ys) ++ zs ≡ xs ++ (ys ++ zs)
joined [] ys zs = refl
joined (x ∷ xs) ys zs = ap (λ (more : List (ℕ × ℕ)). x ∷ more) (joined xs ys zs)

entered_last : (list order : List (ℕ × ℕ)) → fold entered order list ≡ filter (stays list) order ++ fold entered [] list
entered_last [] order = all_stay order ∙ nothing_last (filter (λ (entry : ℕ × ℕ). true) order)
entered_last (one ∷ list) order =
    entered_last list (entered order one)
    ∙ ap (λ (front : List (ℕ × ℕ)). front ++ fold entered [] list) (filter_append (stays list) (without one.0 order) (one ∷ []))
    ∙ joined (filter (stays list) (without one.0 order)) (filter (stays list) (one ∷ [])) (fold entered [] list)
    ∙ (λ i. outs i ++ sym (entered_last list (one ∷ [])) i)
  where
    outs : filter (stays list) (without one.0 order) ≡ filter (stays (one ∷ list)) order
    outs =
        filter_twice (λ (entry : ℕ × ℕ). not (nat_eq one.0 entry.0)) (stays list) order
        ∙ filter_same (λ (entry : ℕ × ℕ). not (nat_eq one.0 entry.0) && stays list entry) (stays (one ∷ list)) order
        (λ entry. not_either (one.0 == entry.0) (list_any (λ (each : ℕ × ℕ). each.0 == entry.0) list))

-- orders that are the same without what is entered are the same with it
pub entered_same : (list one other : List (ℕ × ℕ)) → filter (stays list) one ≡ filter (stays list) other → fold entered one list ≡ fold entered other list
entered_same list one other same =
    entered_last list one ∙ ap (λ (front : List (ℕ × ℕ)). front ++ fold entered [] list) same ∙ sym (entered_last list other)
