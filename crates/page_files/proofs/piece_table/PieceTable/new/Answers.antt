use Rattle.std.proofs.Common.{◌≡◌, ◌+◌, ◌<◌, arith, length, nat_eq, take, get_or, None, refl, ◌∙◌}
use Rattle.std.proofs.lemmas.List.{map_more, take_all}
use Rattle.indexmap.specs.IndexMap.{get}
use Rattle.indexmap.proofs.CallerLemmas.{insert_entry-new}
use Rattle.page_files.specs.declared.held.Held.{Held}
use Rattle.page_files.proofs.Lists.{bytes_more, bytes_within}
use Rattle.page_files.proofs.Places.{entry_of, is_new, long_entered, pieces_entered}
use Rattle.page_files.proofs.piece_table.PieceTable.new.Goals as goal

abbrev d : Held
d = record { piece = record { 0 = 0 }; slot = 0; off = 0; len = 0 }

pub overflow_add-bytes : goal.overflow_add-bytes
overflow_add-bytes c =
    let i = c.loop-held.held-index in
    let inside : i < length c.args.pieces.now = omega (arith, c.loop-held-test.true) in
    omega (arith, c.loop-held.invariant.bytes, c.requires.fits, bytes_more c.args.pieces.now i d inside, bytes_within c.args.pieces.now (i + 1))

pub loop-held-preserved : goal.loop-held-preserved
loop-held-preserved c =
    let i = c.loop-held.held-index in
    let inside : i < length c.args.pieces.now = omega (arith, c.loop-held-test.true) in
    let held = get_or c.args.pieces.now i d in
    let none : get nat_eq c.loop-held.places held.piece.0 ≡ None = rw c.loop-held.invariant.entries (is_new c.args.pieces.now i d c.requires.apart inside) in
    record {
      entries =
          c.in_ok-insert.ensures.entries ∙ insert_entry-new nat_eq c.loop-held.places held.piece.0 (entry_of held).1 none
          ∙ rw (map_more entry_of c.args.pieces.now i d inside, c.loop-held.invariant.entries) refl;
      bytes = rw (bytes_more c.args.pieces.now i d inside, ← c.loop-held.invariant.bytes) refl;
    }

pub invariant_of-result : goal.invariant_of-result
invariant_of-result c =
    let all : take c.loop-held.held-index c.args.pieces.now ≡ c.args.pieces.now = take_all c.loop-held.held-index c.args.pieces.now c.loop-held-test.false in
    rw (c.loop-held.invariant.entries, c.loop-held.invariant.bytes, all, pieces_entered c.args.pieces.now)
    (refl, long_entered c.args.pieces.now c.requires.long)

pub returns : goal.returns
returns c =
    let all : take c.loop-held.held-index c.args.pieces.now ≡ c.args.pieces.now = take_all c.loop-held.held-index c.args.pieces.now c.loop-held-test.false in
    rw (c.loop-held.invariant.entries, all) (pieces_entered c.args.pieces.now)
