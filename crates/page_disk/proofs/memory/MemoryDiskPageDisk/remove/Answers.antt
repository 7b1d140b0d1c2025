use Rattle.std.proofs.Common.{◌≡◌, None, add-zero, length, arith, ap, ◌∙◌, sym, subst}
use Rattle.page_disk.specs.Changes.{Stands}
use Rattle.page_disk.specs.Memory.{open_in, standing, Disk}
use Rattle.page_disk.proofs.Standing.{closed_write, left_spares, removed_spares}
use Rattle.page_disk.proofs.memory.MemoryDiskPageDisk.remove.Goals as goal

pub push-requires : goal.push-requires
push-requires c =
    let closed : c.self.inside.write ≡ None = closed_write c.self.inside.write (ap open_in c.self.view_is ∙ c.requires.closed) in
    let stands : Stands c.args.page.0 c.self.inside.log.changes = subst (λ (disk : Disk). Stands c.args.page.0 disk.changes) (sym c.self.view_is)
    c.requires.there in
    let counted : c.self.inside.log.spare ≡ length (standing c.self.inside.log.changes) = (rw closed at c.self.invariant) ∙ add-zero _ in
    (left_spares c.args.page c.self.inside.log.changes c.self.inside.log.spare stands counted).some

pub push-requires-2 : goal.push-requires-2
push-requires-2 c =
    let closed : c.self.inside.write ≡ None = closed_write c.self.inside.write (ap open_in c.self.view_is ∙ c.requires.closed) in
    let stands : Stands c.args.page.0 c.self.inside.log.changes = subst (λ (disk : Disk). Stands c.args.page.0 disk.changes) (sym c.self.view_is)
    c.requires.there in
    let counted : c.self.inside.log.spare ≡ length (standing c.self.inside.log.changes) = (rw closed at c.self.invariant) ∙ add-zero _ in
    (removed_spares c.args.page c.self.inside.log.changes c.self.inside.log.spare stands counted).some

pub invariant_of-self : goal.invariant_of-self
invariant_of-self c =
    let closed : c.self.inside.write ≡ None = closed_write c.self.inside.write (ap open_in c.self.view_is ∙ c.requires.closed) in
    let stands : Stands c.args.page.0 c.self.inside.log.changes = subst (λ (disk : Disk). Stands c.args.page.0 disk.changes) (sym c.self.view_is)
    c.requires.there in
    let counted : c.self.inside.log.spare ≡ length (standing c.self.inside.log.changes) = (rw closed at c.self.invariant) ∙ add-zero _ in
    let rest = (left_spares c.args.page c.self.inside.log.changes c.self.inside.log.spare stands counted).rest in
    rw (closed, c.push.ensures) (rest ∙ omega arith)

pub invariant_of-self-2 : goal.invariant_of-self-2
invariant_of-self-2 c =
    let closed : c.self.inside.write ≡ None = closed_write c.self.inside.write (ap open_in c.self.view_is ∙ c.requires.closed) in
    let stands : Stands c.args.page.0 c.self.inside.log.changes = subst (λ (disk : Disk). Stands c.args.page.0 disk.changes) (sym c.self.view_is)
    c.requires.there in
    let counted : c.self.inside.log.spare ≡ length (standing c.self.inside.log.changes) = (rw closed at c.self.invariant) ∙ add-zero _ in
    let rest = (removed_spares c.args.page c.self.inside.log.changes c.self.inside.log.spare stands counted).rest in
    rw (closed, c.push-2.ensures) (rest ∙ omega arith)

pub returns-then-is_failing-clause-closed : goal.returns-then-is_failing-clause-closed
returns-then-is_failing-clause-closed c = ap open_in c.self.view_is ∙ c.requires.closed

pub returns-clause-closed : goal.returns-clause-closed
returns-clause-closed c = ap open_in c.self.view_is ∙ c.requires.closed
