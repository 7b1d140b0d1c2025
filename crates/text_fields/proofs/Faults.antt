-- Faults of fields: spelled fields have none, and no field has two.
use Rattle.std.proofs.Common.{ℕ, List, [], ◌∷◌, inl, inr}
use Rattle.text_fields.specs.Kind.{Kind, AllSpell, IsFirstFault, IsRowFault}
use Rattle.text_fields.specs.declared.line_fault.LineFault.{LineFault}
use Rattle.text_fields.proofs.Rows.{length_spelled}

-- spelled fields have no fault
pub first_no_fault : (kinds : List Kind) (fault : LineFault) (texts : List (List ℕ)) → AllSpell kinds texts → IsFirstFault kinds fault texts → ⊥
first_no_fault [] fault texts all wrong = absurd wrong
first_no_fault (kind ∷ kinds) fault [] all wrong = absurd wrong
first_no_fault (kind ∷ kinds) fault (text ∷ texts) all (inl here) = here.0 all.0
first_no_fault (kind ∷ kinds) fault (text ∷ texts) all (inr behind) = first_no_fault kinds fault texts all.1 behind.1

pub row_no_fault : (kinds : List Kind) (fault : LineFault) (texts : List (List ℕ)) → AllSpell kinds texts → IsRowFault kinds fault texts → ⊥
row_no_fault kinds fault texts all (inl count) = count.0 (length_spelled kinds texts all)
row_no_fault kinds fault texts all (inr first) = first_no_fault kinds fault texts all first.1
