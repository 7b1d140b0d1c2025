use Rattle.std.proofs.Common.{Option, arith, sym, subst}
use Rattle.std.specs.Prelude.{IsSomeAnd}
use Rattle.blob_entries.specs.declared.entry.Entry.{Entry}
use Rattle.blob_entries.specs.Making.{CanMake}
use Rattle.blob_entries.proofs.make.make_at.Goals as goal

pub make-requires-clause-fits : goal.make-requires-clause-fits
make-requires-clause-fits c =
    let was = rw c.as_slice.ensures.value at c.in-Some.ensures in
    let can = subst (λ (here : Option Entry). IsSomeAnd here (CanMake c.args.names.now c.args.entries.now.items c.args.shares.now)) (sym was) c.requires in
    rw c.as_slice-3.ensures (omega (arith, can.fits, can.small))

pub make-requires-clause-room : goal.make-requires-clause-room
make-requires-clause-room c =
    let was = rw c.as_slice.ensures.value at c.in-Some.ensures in
    let can = subst (λ (here : Option Entry). IsSomeAnd here (CanMake c.args.names.now c.args.entries.now.items c.args.shares.now)) (sym was) c.requires in
    rw (c.as_slice-2.ensures.value, c.as_slice-3.ensures) can.room
