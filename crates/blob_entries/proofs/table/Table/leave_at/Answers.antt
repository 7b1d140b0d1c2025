use Rattle.std.proofs.Common.{◌≡◌, ◌<◌, ℕ, Bool, false, List, Option, length, set, sym, subst, arith}
use Rattle.blob_entries.proofs.Leaving.{gone_counted, left_counted, shed_at_sound}
use Rattle.blob_entries.proofs.Soundness.{sound_gone}
use Rattle.blob_entries.specs.Book.{Book, entry_at}
use Rattle.blob_entries.specs.Counted.{AreCounted}
use Rattle.blob_entries.specs.Leaving.{left}
use Rattle.blob_entries.specs.Sources.{needs}
use Rattle.blob_entries.specs.declared.entry.Entry.{Entry}
use Rattle.blob_entries.proofs.table.Table.leave_at.Goals as goal

pub release_all-requires : goal.release_all-requires
release_all-requires c =
    let counted = subst (λ (b : Book). AreCounted b.entries c.args.shares.now) (sym c.self.view_is) c.requires.counted in
    rw (c.as_slice.ensures.value, c.in_ok-views.ensures) (gone_counted c.self.inside.entries.items c.args.shares.now c.args.number c.args.lives counted)

pub invariant_of-self : goal.invariant_of-self
invariant_of-self c = rw c.shed_at.ensures (shed_at_sound c.self.inside.names c.self.inside.entries.items c.args.number c.self.invariant)

pub returns-then-lives-clause-sound : goal.returns-then-lives-clause-sound
returns-then-lives-clause-sound c = rw c.shed_at.ensures (shed_at_sound c.self.inside.names c.self.inside.entries.items c.args.number c.self.invariant)

pub invariant_of-self-2 : goal.invariant_of-self-2
invariant_of-self-2 c =
    let unneeded = subst (λ (b : Book). (other : ℕ) → needs b.names c.args.number (entry_at b.entries other) ≡ false) (sym c.self.view_is)
    (c.requires.unneeded c.if-lives.false) in
    rw c.clear.ensures (sound_gone c.self.inside.names c.self.inside.entries.items c.args.number c.self.invariant unneeded)

pub returns-clause-sound : goal.returns-clause-sound
returns-clause-sound c =
    let unneeded = subst (λ (b : Book). (other : ℕ) → needs b.names c.args.number (entry_at b.entries other) ≡ false) (sym c.self.view_is)
    (c.requires.unneeded c.if-lives.false) in
    rw c.clear.ensures (sound_gone c.self.inside.names c.self.inside.entries.items c.args.number c.self.invariant unneeded)

pub returns-then-lives-clause-counted : goal.returns-then-lives-clause-counted
returns-then-lives-clause-counted c =
    let counted = subst (λ (b : Book). AreCounted b.entries c.args.shares.now) (sym c.self.view_is) c.requires.counted in
    let inside = subst (λ (b : Book). c.args.number < length b.names) (sym c.self.view_is) c.requires.inside in
    let counts = rw (c.as_slice.ensures.value, c.in_ok-views.ensures) at c.in_ok-release_all.ensures.counts in
    let entries : List (Option Entry) = c.self.inside.entries.items in
    let all = left_counted entries c.args.shares.now c.release_all.new.shares c.args.number c.args.lives
    (omega (arith, inside, c.self.invariant.sized)) counted counts in
    rw c.shed_at.ensures (subst (λ (b : Bool). AreCounted (set entries c.args.number (left b (entry_at entries c.args.number))) c.release_all.new.shares)
    c.if-lives.true all)
