use Rattle.std.proofs.Common.{◌≡◌, ◌∙◌, sym, subst, false}
use Rattle.blob_entries.proofs.Finishing.{broken_at}
use Rattle.blob_entries.specs.Book.{Book, book_of}
use Rattle.blob_entries.specs.Counted.{AreCounted}
use Rattle.blob_entries.specs.Statuses.{is_done}
use Rattle.blob_entries.specs.Weights.{HasRoom, KeepsBounds}
use Rattle.blob_entries.proofs.table.Table.finish_at.Goals as goal

pub invariant_of-self : goal.invariant_of-self
invariant_of-self c =
    let counted = subst (λ (b : Book). AreCounted b.entries c.args.shares.now) (sym c.self.view_is) c.requires.counted in
    let room = subst (λ (b : Book). HasRoom b.names b.entries) (sym c.self.view_is) c.requires.room in
    let ends = rw c.deref.ensures.value at c.in-Some.ensures in
    let not_done : is_done c.in-Some.end ≡ false = sym c.is_done.ensures ∙ c.if-is_done.false in
    rw c.set_status.ensures ((broken_at c.self.inside.names c.self.inside.entries.items c.args.number c.in-Some.end c.args.shares.now c.self.invariant
    counted room (sym ends) not_done).sound)

pub returns-clause-room : goal.returns-clause-room
returns-clause-room c =
    let counted = subst (λ (b : Book). AreCounted b.entries c.args.shares.now) (sym c.self.view_is) c.requires.counted in
    let room = subst (λ (b : Book). HasRoom b.names b.entries) (sym c.self.view_is) c.requires.room in
    let ends = rw c.deref.ensures.value at c.in-Some.ensures in
    let not_done : is_done c.in-Some.end ≡ false = sym c.is_done.ensures ∙ c.if-is_done.false in
    rw c.set_status.ensures ((broken_at c.self.inside.names c.self.inside.entries.items c.args.number c.in-Some.end c.args.shares.now c.self.invariant
    counted room (sym ends) not_done).room)

pub returns-clause-sound : goal.returns-clause-sound
returns-clause-sound c =
    let counted = subst (λ (b : Book). AreCounted b.entries c.args.shares.now) (sym c.self.view_is) c.requires.counted in
    let room = subst (λ (b : Book). HasRoom b.names b.entries) (sym c.self.view_is) c.requires.room in
    let ends = rw c.deref.ensures.value at c.in-Some.ensures in
    let not_done : is_done c.in-Some.end ≡ false = sym c.is_done.ensures ∙ c.if-is_done.false in
    rw c.set_status.ensures ((broken_at c.self.inside.names c.self.inside.entries.items c.args.number c.in-Some.end c.args.shares.now c.self.invariant
    counted room (sym ends) not_done).sound)

pub returns-clause-bounds : goal.returns-clause-bounds
returns-clause-bounds c =
    let counted = subst (λ (b : Book). AreCounted b.entries c.args.shares.now) (sym c.self.view_is) c.requires.counted in
    let room = subst (λ (b : Book). HasRoom b.names b.entries) (sym c.self.view_is) c.requires.room in
    let ends = rw c.deref.ensures.value at c.in-Some.ensures in
    let not_done : is_done c.in-Some.end ≡ false = sym c.is_done.ensures ∙ c.if-is_done.false in
    let bounds = (broken_at c.self.inside.names c.self.inside.entries.items c.args.number c.in-Some.end c.args.shares.now c.self.invariant
    counted room (sym ends) not_done).bounds in
    subst (λ (b : Book). KeepsBounds b (book_of c.self.inside.names c.set_status.new.entries.items)) c.self.view_is (rw c.set_status.ensures bounds)
