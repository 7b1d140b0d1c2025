-- What a note that is put or written makes of each name, and of the number of names.
use Rattle.std.proofs.Common.{◌≡◌, ℕ, ◌+◌, cond, List, Option, Some, None, length, sym, ap, ◌∙◌, subst, refl, arith}
use Rattle.std.specs.Prelude.{is_some, IfSome, Vec}
use Rattle.std.specs.declared.alloc.Global.{Global}
use Rattle.std.specs.Map.{lookup}
use Rattle.std.specs.BTreeMap.{is_at, BTreeMap, UpdatesBy}
use Rattle.file_table.specs.declared.file_note.FileNote.{FileNote}
use Rattle.blob_words.specs.Keys.{key_cmp, order_of}
use Rattle.file_table.specs.Files.{note_of}
use Rattle.file_table.specs.Changes.{Notes}
use Rattle.blob_words.proofs.Keyed.{length_seen, lookup_seen, reads_updated, seen}

abbrev Keyed : Type 0
Keyed = BTreeMap (Vec ℕ Global) FileNote

pub notes_put : (name : List ℕ) (note : FileNote) (old new : Keyed) (had : Option FileNote) → UpdatesBy key_cmp (order_of name) old new (Some note) → had
    ≡ lookup (is_at (order_of name)) old.entries
    → length new.entries ≡ length old.entries + cond (is_some had) 0 1 → Notes name note (seen old.entries) (seen new.entries)
notes_put name note old new had updates found many =
    let known : is_some had ≡ is_some (note_of name (seen old.entries)) = ap is_some (found ∙ lookup_seen name old.entries) in
    record {
      each = reads_updated name old new (Some note) updates;
      many = length_seen new.entries ∙ many ∙ ap (λ n. n + cond (is_some had) 0 1) (sym (length_seen old.entries)) ∙ ap
          (λ b. length (seen old.entries) + cond b 0 1) known;
    }

forgets_found : (name : List ℕ) (old new : Keyed) (found : Option FileNote) → lookup (is_at (order_of name)) old.entries ≡ found
    → IfSome found (λ note. UpdatesBy key_cmp (order_of name) old new (Some (record note { bytes = None }))) → length new.entries ≡ length old.entries
    → IfSome found (λ note. Notes name (record note { bytes = None }) (seen old.entries) (seen new.entries))
forgets_found name old new None is updates many = tt
forgets_found name old new (Some note) is updates many =
    notes_put name (record note { bytes = None }) old new (Some note) updates (sym is) (omega (arith, many))

-- a content that goes
pub notes_forgotten : (name : List ℕ) (old new : Keyed)
    → IfSome (lookup (is_at (order_of name)) old.entries) (λ note. UpdatesBy key_cmp (order_of name) old new (Some (record note { bytes = None })))
    → length new.entries ≡ length old.entries
    → IfSome (note_of name (seen old.entries)) (λ note. Notes name (record note { bytes = None }) (seen old.entries) (seen new.entries))
notes_forgotten name old new updates many =
    subst (λ found. IfSome found (λ note. Notes name (record note { bytes = None }) (seen old.entries) (seen new.entries))) (lookup_seen name old.entries)
    (forgets_found name old new (lookup (is_at (order_of name)) old.entries) refl updates many)
