-- Data handles that parts name, one after the other.
use Rattle.std.proofs.Common.{◌≡◌, ℕ, ◌+◌, ◌<◌, Bool, List, ◌∷◌, length, drop, get_or, ap, subst, sym, ◌∙◌}
use Rattle.std.proofs.lemmas.List.{drop_more}
use Rattle.session_script.specs.declared.event.Part.{Part}
use Rattle.data_handles.specs.Table.{Table}
use Rattle.store_laws.specs.Claiming.{claimed_by, AreFree, IsFree}

-- the next one is free, and those behind it after it
pub free_at : (is_broken : Bool) (table : Table) (parts : List Part) (i : ℕ) (part : Part) → AreFree is_broken table (drop i parts) → i < length parts
    → part ≡ get_or parts i part → IsFree table part × AreFree is_broken (claimed_by is_broken table part) (drop (i + 1) parts)
free_at is_broken table parts i part all less is =
    subst (λ (list : List Part). AreFree is_broken table list) (drop_more parts i part less ∙ ap (λ (one : Part). one ∷ drop (i + 1) parts) (sym is)) all
