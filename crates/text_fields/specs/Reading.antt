-- What the readers of fields answer.
use Rattle.std.specs.Prelude.{ℕ, ℤ, ◌≡◌, ◌≢◌, ◌⊎◌, FitsSigned, ◌==◌, ◌&&◌, ◌||◌, not, Bool, List, [], ◌∷◌, ◌++◌, Option, Some, None, Result, Ok, Err, length, slice_index}
use Rattle.std.specs.Fmt.{signed_decimal}
use Rattle.std.specs.Int.{w64}
use Rattle.std.specs.List.{slice_split}
use Rattle.text_fields.specs.Kind.{Kind, IsFirstFault}
use Rattle.text_fields.specs.declared.line_fault.LineFault.{LineFault}
use Rattle.text_fields.specs.declared.line_fault.LineFault.TheVariants as faults

-- the texts between the separators of a line or a part
abbrev pub split : ℕ → List ℕ → List (List ℕ)
split separator text = slice_split (λ byte. byte == separator) text

-- the fields of what is left, or none where it has ended
abbrev pub split_rest : ℕ → Option (List ℕ) → List (List ℕ)
split_rest separator None = []
split_rest separator (Some text) = split separator text

-- the value that is spelled so, or why no value is
abbrev pub IsReading : {A S : Type 0} → (LineFault → S → Type 0) → (A → Type 0) → (A → S) → S → Result A LineFault → Type 0
IsReading IsFault Fits spell text (Ok value) = Fits value × (text ≡ spell value)
IsReading IsFault Fits spell text (Err fault) = (fault ≡ faults.Memory) ⊎ IsFault fault text

-- the same of a call that takes no memory
abbrev pub IsExact : {A S : Type 0} → (LineFault → S → Type 0) → (A → Type 0) → (A → S) → S → Result A LineFault → Type 0
IsExact IsFault Fits spell text (Ok value) = Fits value × (text ≡ spell value)
IsExact IsFault Fits spell text (Err fault) = IsFault fault text

-- the same of the first of some fields, with the fields before and after the call
abbrev pub TakesField : {A : Type 0} → Kind → (A → Type 0) → (A → List ℕ) → List (List ℕ) → List (List ℕ) → Result A LineFault → Type 0
TakesField kind Fits spell old new (Ok value) = Fits value × (old ≡ spell value ∷ new)
TakesField kind Fits spell old new (Err fault) = (fault ≡ faults.Memory) ⊎ ((kinds : List Kind) → IsFirstFault (kind ∷ kinds) fault old)

-- the same of the first few
abbrev pub TakesFields : {A : Type 0} → List Kind → (A → Type 0) → (A → List (List ℕ)) → List (List ℕ) → List (List ℕ) → Result A LineFault → Type 0
TakesFields kinds Fit spell old new (Ok values) = Fit values × (old ≡ spell values ++ new)
TakesFields kinds Fit spell old new (Err fault) = (fault ≡ faults.Memory) ⊎ IsFirstFault kinds fault old

-- the text is no number of 64 bits with its sign
abbrev pub IsSignedFault : LineFault → List ℕ → Type 0
IsSignedFault fault text = ((z : ℤ) → FitsSigned w64 z → text ≢ signed_decimal z) × (fault ≡ faults.Number)

-- digits that have no sign, and no zero in front of further digits
abbrev pub is_plain_number : List ℕ → Bool
is_plain_number text = not (slice_index text 0 == 43) && (not (slice_index text 0 == 48) || (length text == 1))
