use Rattle.std.proofs.Common.{◌≡◌, Some, sym, subst}
use Rattle.blob_words.specs.declared.status.Status.TheVariants as statuses
use Rattle.blob_entries.proofs.Finishing.{can_make_at, completed_at, looked_done}
use Rattle.blob_entries.specs.Book.{Book, book_of, entry_at}
use Rattle.blob_entries.specs.Counted.{AreCounted, SameItems}
use Rattle.blob_entries.specs.Endings.{LooksAt, ending_at}
use Rattle.blob_entries.specs.Weights.{HasRoom, KeepsBounds}
use Rattle.blob_entries.proofs.table.Table.complete.Goals as goal

pub make_at-requires : goal.make_at-requires
make_at-requires c =
    let counted = subst (λ (b : Book). AreCounted b.entries c.args.shares.now) (sym c.self.view_is) c.requires.counted in
    let room = subst (λ (b : Book). HasRoom b.names b.entries) (sym c.self.view_is) c.requires.room in
    let done = subst (λ (b : Book). ending_at b.names b.entries (entry_at b.entries c.args.number) ≡ Some statuses.Done) (sym c.self.view_is) c.requires.done in
    can_make_at c.self.inside.names c.self.inside.entries.items c.args.shares.now c.args.number c.self.invariant counted room done

pub invariant_of-self : goal.invariant_of-self
invariant_of-self c =
    let counted = subst (λ (b : Book). AreCounted b.entries c.args.shares.now) (sym c.self.view_is) c.requires.counted in
    let room = subst (λ (b : Book). HasRoom b.names b.entries) (sym c.self.view_is) c.requires.room in
    let done = subst (λ (b : Book). ending_at b.names b.entries (entry_at b.entries c.args.number) ≡ Some statuses.Done) (sym c.self.view_is) c.requires.done in
    rw c.set_done.ensures ((completed_at c.self.inside.names c.self.inside.entries.items c.args.number c.args.shares.now c.make_at.new.shares
    c.in_ok-views.views c.self.invariant counted room done c.in_ok-views.ensures).sound)

pub returns-clause-counted : goal.returns-clause-counted
returns-clause-counted c =
    let counted = subst (λ (b : Book). AreCounted b.entries c.args.shares.now) (sym c.self.view_is) c.requires.counted in
    let room = subst (λ (b : Book). HasRoom b.names b.entries) (sym c.self.view_is) c.requires.room in
    let done = subst (λ (b : Book). ending_at b.names b.entries (entry_at b.entries c.args.number) ≡ Some statuses.Done) (sym c.self.view_is) c.requires.done in
    rw c.set_done.ensures ((completed_at c.self.inside.names c.self.inside.entries.items c.args.number c.args.shares.now c.make_at.new.shares
    c.in_ok-views.views c.self.invariant counted room done c.in_ok-views.ensures).counted)

pub returns-clause-room : goal.returns-clause-room
returns-clause-room c =
    let counted = subst (λ (b : Book). AreCounted b.entries c.args.shares.now) (sym c.self.view_is) c.requires.counted in
    let room = subst (λ (b : Book). HasRoom b.names b.entries) (sym c.self.view_is) c.requires.room in
    let done = subst (λ (b : Book). ending_at b.names b.entries (entry_at b.entries c.args.number) ≡ Some statuses.Done) (sym c.self.view_is) c.requires.done in
    rw c.set_done.ensures ((completed_at c.self.inside.names c.self.inside.entries.items c.args.number c.args.shares.now c.make_at.new.shares
    c.in_ok-views.views c.self.invariant counted room done c.in_ok-views.ensures).room)

pub returns-clause-items : goal.returns-clause-items
returns-clause-items c =
    let counted = subst (λ (b : Book). AreCounted b.entries c.args.shares.now) (sym c.self.view_is) c.requires.counted in
    let room = subst (λ (b : Book). HasRoom b.names b.entries) (sym c.self.view_is) c.requires.room in
    let done = subst (λ (b : Book). ending_at b.names b.entries (entry_at b.entries c.args.number) ≡ Some statuses.Done) (sym c.self.view_is) c.requires.done in
    let same = (completed_at c.self.inside.names c.self.inside.entries.items c.args.number c.args.shares.now c.make_at.new.shares c.in_ok-views.views
    c.self.invariant counted room done c.in_ok-views.ensures).same in
    subst (λ (b : Book). SameItems b.entries c.set_done.new.entries.items c.args.shares.now c.make_at.new.shares) c.self.view_is (rw c.set_done.ensures same)

pub returns-clause-looks : goal.returns-clause-looks
returns-clause-looks c =
    let done = subst (λ (b : Book). ending_at b.names b.entries (entry_at b.entries c.args.number) ≡ Some statuses.Done) (sym c.self.view_is) c.requires.done in
    let looked = looked_done c.self.inside.names c.self.inside.entries.items c.args.number c.args.shares.now c.make_at.new.shares c.in_ok-views.views done
    c.in_ok-views.ensures in
    subst (λ (b : Book). LooksAt b (book_of c.self.inside.names c.set_done.new.entries.items) c.args.number (Some statuses.Done)) c.self.view_is
    (rw c.set_done.ensures looked)

pub returns-clause-sound : goal.returns-clause-sound
returns-clause-sound c =
    let counted = subst (λ (b : Book). AreCounted b.entries c.args.shares.now) (sym c.self.view_is) c.requires.counted in
    let room = subst (λ (b : Book). HasRoom b.names b.entries) (sym c.self.view_is) c.requires.room in
    let done = subst (λ (b : Book). ending_at b.names b.entries (entry_at b.entries c.args.number) ≡ Some statuses.Done) (sym c.self.view_is) c.requires.done in
    rw c.set_done.ensures ((completed_at c.self.inside.names c.self.inside.entries.items c.args.number c.args.shares.now c.make_at.new.shares
    c.in_ok-views.views c.self.invariant counted room done c.in_ok-views.ensures).sound)

pub returns-clause-bounds : goal.returns-clause-bounds
returns-clause-bounds c =
    let counted = subst (λ (b : Book). AreCounted b.entries c.args.shares.now) (sym c.self.view_is) c.requires.counted in
    let room = subst (λ (b : Book). HasRoom b.names b.entries) (sym c.self.view_is) c.requires.room in
    let done = subst (λ (b : Book). ending_at b.names b.entries (entry_at b.entries c.args.number) ≡ Some statuses.Done) (sym c.self.view_is) c.requires.done in
    let bounds = (completed_at c.self.inside.names c.self.inside.entries.items c.args.number c.args.shares.now c.make_at.new.shares c.in_ok-views.views
    c.self.invariant counted room done c.in_ok-views.ensures).bounds in
    subst (λ (b : Book). KeepsBounds b (book_of c.self.inside.names c.set_done.new.entries.items)) c.self.view_is (rw c.set_done.ensures bounds)
