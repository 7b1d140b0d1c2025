-- What is seen once a content went.
use Rattle.std.proofs.Common.{◌≡◌, ℕ, true, List, Some, None, Option, ap, ◌∙◌, subst, refl}
use Rattle.std.specs.Prelude.{is_some, option_and_then, IfSome, IsSome, IsSomeAnd, Vec}
use Rattle.std.specs.declared.alloc.Global.{Global}
use Rattle.std.specs.Option.{option_map}
use Rattle.std.specs.List.Sorted.{IsStrictlySortedBy}
use Rattle.std.specs.Map.{keys_of, lookup, set_value}
use Rattle.std.specs.BTreeMap.{is_at}
use Rattle.file_table.specs.declared.file_note.FileNote.{FileNote}
use Rattle.file_table.specs.declared.file_note.FileState.{FileState}
use Rattle.blob_words.specs.Keys.{key_cmp, order_of}
use Rattle.file_table.specs.Files.{note_of, noted, recorded, state_of}
use Rattle.blob_words.proofs.Keyed.{lookup_seen, seen}
use Rattle.file_table.proofs.Names.{written_seen}

-- a state is that of a content
has_bytes : (state : List ℕ → FileState) (bytes : Option (List ℕ)) → is_some (option_map state bytes) ≡ true → is_some bytes ≡ true
has_bytes state None some = some
has_bytes state (Some bytes) some = some

abbrev Forgets : List ℕ → List (List ℕ × FileNote) → List (List ℕ × FileNote) → Option FileNote → Type 0
Forgets name old new found = IsSomeAnd found (λ note. IsSome note.bytes × (new ≡ noted name (record note { bytes = None }) old))

forgets : (name : List ℕ) (old new : List (Vec ℕ Global × FileNote)) (found : Option FileNote) → lookup (is_at (order_of name)) old ≡ found
    → IsStrictlySortedBy key_cmp (keys_of old) → is_some (option_and_then recorded found) ≡ true
    → IfSome found (λ note. new ≡ set_value (is_at (order_of name)) old (record note { bytes = None }))
    → Forgets name (seen old) (seen new) found
forgets name old new None is sorted some written = cc
forgets name old new (Some note) is sorted some written =
    let known : IsSome (lookup (is_at (order_of name)) old) = ap is_some is in
    (has_bytes _ note.bytes some, ap seen written ∙ written_seen name (record note { bytes = None }) old sorted known)

pub forgotten_seen : (name : List ℕ) (old new : List (Vec ℕ Global × FileNote))
    → IsStrictlySortedBy key_cmp (keys_of old) → is_some (state_of name (seen old)) ≡ true
    → IfSome (lookup (is_at (order_of name)) old) (λ note. new ≡ set_value (is_at (order_of name)) old (record note { bytes = None }))
    → Forgets name (seen old) (seen new) (note_of name (seen old))
forgotten_seen name old new sorted some written =
    let same = lookup_seen name old in
    let here : is_some (option_and_then recorded (lookup (is_at (order_of name)) old)) ≡ true = rw same some in
    subst (Forgets name (seen old) (seen new)) same (forgets name old new (lookup (is_at (order_of name)) old) refl sorted here written)
