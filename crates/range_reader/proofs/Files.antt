-- A file that doesn't fail at a place doesn't fail before it.
use Rattle.std.proofs.Common.{◌≡◌, ℕ, ◌+◌, ◌≤◌, Bool, true, false, List, Option, Some, None, refl, arith}
use Rattle.std.specs.Prelude.{◌&&◌, ◌==◌, nat_le, not}
use Rattle.file_table.specs.declared.file_note.FileNote.{FileNote}
use Rattle.file_table.specs.declared.file_note.FileState.{FileState}
use Rattle.file_table.specs.Files.{is_readable, state_of}
use Rattle.item_shares.specs.declared.item.Item.{Item}
use Rattle.item_shares.specs.declared.item.Item.TheVariants.{Memory, Paged, Reserved, File, Range}
use Rattle.range_reader.specs.Bytes.{item_fails}
use Rattle.std.proofs.lemmas.Bool.{leb-true, le-leb}

both_true : (one two : Bool) → (one && two) ≡ true → (one ≡ true) × (two ≡ true)
both_true true two both = (refl, both)
both_true false two both = cc

readable_below : (stamp end less : ℕ) (state : Option FileState) → less ≤ end → is_readable stamp end state ≡ true → is_readable stamp less state ≡ true
readable_below stamp end less None below is = is
readable_below stamp end less (Some state) below is =
    let both = both_true (state.stamp == stamp) (nat_le end state.len) is in
    let fits : less ≤ state.len = omega (arith, leb-true end state.len both.1, below) in
    rw (both.0, le-leb less state.len fits) refl

true_of_not : (b : Bool) → not b ≡ false → b ≡ true
true_of_not true is = refl
true_of_not false is = cc

pub passes_below : (files : List (List ℕ × FileNote)) (item : Item) (at last : ℕ) → at ≤ last → item_fails files last item ≡ false
    → item_fails files at item ≡ false
passes_below files (Memory piece bytes) at last below is = refl
passes_below files (Paged piece page off len) at last below is = refl
passes_below files (Reserved piece len) at last below is = refl
passes_below files (File name stamp off len) at last below is =
    let readable : is_readable stamp (off + last + 1) (state_of name files) ≡ true = true_of_not _ is in
    rw (readable_below stamp (off + last + 1) (off + at + 1) (state_of name files) (omega (arith, below)) readable) refl
passes_below files (Range slot off len) at last below is = refl
