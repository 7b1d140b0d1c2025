-- From the faults of single fields to the fault of a row.
use Rattle.std.proofs.Common.{◌≡◌, ℕ, suc, ◌⊎◌, List, [], ◌∷◌, ◌++◌, length, Result, Ok, Err, inl, inr, refl, sym, ap, ◌∙◌, subst, arith}
use Rattle.std.proofs.lemmas.List.{append-nil, length-append}
use Rattle.text_fields.specs.Kind.{Kind, bytes, content_type, some_bytes, Spells, IsFaultOf, IsFirstFault, IsRowFault, AllSpell}
use Rattle.text_fields.specs.Reading.{IsReading, TakesField, TakesFields}
use Rattle.text_fields.specs.declared.line_fault.LineFault.{LineFault}
use Rattle.text_fields.specs.declared.line_fault.LineFault.TheVariants.{Memory}

-- the text that was read is the first field
pub taken_first : {A : Type 0} (kind : Kind) (Fits : A → Type 0) (spell : A → List ℕ) (text : List ℕ) (old new : List (List ℕ)) (r : Result A LineFault)
    → old ≡ text ∷ new → IsReading (IsFaultOf kind) Fits spell text r → TakesField kind Fits spell old new r
taken_first kind Fits spell text old new (Ok value) first is_read = (is_read.0, first ∙ ap (λ (t : List ℕ). t ∷ new) is_read.1)
taken_first kind Fits spell text old new (Err fault) first (inl memory) = inl memory
taken_first kind Fits spell text old new (Err fault) first (inr wrong) = inr (λ kinds. subst (IsFirstFault (kind ∷ kinds) fault) (sym first) (inl wrong))

-- a fault of the fields behind one that is spelled
pub later : (kind : Kind) (kinds : List Kind) (fault : LineFault) (text : List ℕ) (old new : List (List ℕ))
    → old ≡ text ∷ new → Spells kind text → (fault ≡ Memory) ⊎ IsFirstFault kinds fault new → (fault ≡ Memory) ⊎ IsFirstFault (kind ∷ kinds) fault old
later kind kinds fault text old new first spelled (inl memory) = inl memory
later kind kinds fault text old new first spelled (inr wrong) = inr (subst (IsFirstFault (kind ∷ kinds) fault) (sym first) (inr (spelled, wrong)))

-- the first field spells no value of its kind
pub first_wrong : (kind : Kind) (kinds : List Kind) (fault : LineFault) (old : List (List ℕ))
    → (fault ≡ Memory) ⊎ ((more : List Kind) → IsFirstFault (kind ∷ more) fault old) → (fault ≡ Memory) ⊎ IsFirstFault (kind ∷ kinds) fault old
first_wrong kind kinds fault old (inl memory) = inl memory
first_wrong kind kinds fault old (inr wrong) = inr (wrong kinds)

nothing_behind : (front back : List (List ℕ)) → length (front ++ back) ≡ length front → back ≡ []
nothing_behind front [] same = refl
nothing_behind front (text ∷ back) same = absurd (omega (arith, same, length-append front (text ∷ back)))

pub length_spelled : (kinds : List Kind) (texts : List (List ℕ)) → AllSpell kinds texts → length texts ≡ length kinds
length_spelled [] [] all = refl
length_spelled [] (text ∷ texts) all = absurd all
length_spelled (kind ∷ kinds) [] all = absurd all
length_spelled (kind ∷ kinds) (text ∷ texts) all = ap suc (length_spelled kinds texts all.1)

-- as many fields as there are kinds are a row
pub row_read : {A : Type 0} (kinds : List Kind) (Fit : A → Type 0) (spell : A → List (List ℕ)) (count : ℕ) (old new : List (List ℕ)) (r : Result A LineFault)
    → length kinds ≡ count → ((values : A) → Fit values → AllSpell kinds (spell values)) → length old ≡ count
    → TakesFields kinds Fit spell old new r → IsReading (IsRowFault kinds) Fit spell old r
row_read kinds Fit spell count old new (Ok values) counted spelled exact taken =
    let len = length_spelled kinds (spell values) (spelled values taken.0) in
    let none = nothing_behind (spell values) new (sym (ap length taken.1) ∙ exact ∙ sym counted ∙ sym len) in
    (taken.0, taken.1 ∙ ap (λ (back : List (List ℕ)). spell values ++ back) none ∙ append-nil (spell values))
row_read kinds Fit spell count old new (Err fault) counted spelled exact (inl memory) = inl memory
row_read kinds Fit spell count old new (Err fault) counted spelled exact (inr wrong) = inr (inr (exact ∙ sym counted, wrong))

-- what spells no bytes spells no content type
pub type_unread : (fault : LineFault) (text : List ℕ) → (fault ≡ Memory) ⊎ IsFaultOf bytes fault text → (fault ≡ Memory) ⊎ IsFaultOf content_type fault text
type_unread fault text (inl memory) = inl memory
type_unread fault text (inr wrong) = inr (λ (s : Spells content_type text). wrong.0 (s.0, s.1, s.3), inr (wrong.0, wrong.1))

pub some_unread : (fault : LineFault) (text : List ℕ) → (fault ≡ Memory) ⊎ IsFaultOf bytes fault text → (fault ≡ Memory) ⊎ IsFaultOf some_bytes fault text
some_unread fault text (inl memory) = inl memory
some_unread fault text (inr wrong) = inr (λ (s : Spells some_bytes text). wrong.0 (s.0, s.1, s.3), wrong.1)
