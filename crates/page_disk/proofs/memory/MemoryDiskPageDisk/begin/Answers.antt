use Rattle.std.proofs.Common.{◌≡◌, ◌+◌, ◌++◌, ◌∷◌, [], List, Some, None, arith, length, ap, ◌∙◌, rules, subst}
use Rattle.blob_source.specs.Faults.{Rose}
use Rattle.page_disk.specs.declared.change.Change.{Change}
use Rattle.page_disk.specs.declared.change.Change.TheVariants.{Torn}
use Rattle.page_disk.specs.Memory.{open_in, standing, Disk, Record}
use Rattle.page_disk.proofs.Standing.{closed_write}
use Rattle.page_disk.proofs.memory.MemoryDiskPageDisk.begin.Goals as goal

pub returns-then-is_err-clause-memory : goal.returns-then-is_err-clause-memory
returns-then-is_err-clause-memory c = λ _.
    let same : c.reserve.new.self ≡ c.self.inside.log = search rules in (
      ap open_in c.self.view_is ∙ c.requires.closed,
      ap (λ (log : Record). Some log.changes) same ∙ ap (λ (disk : Disk). Some disk.changes) c.self.view_is,
      ap (λ (disk : Disk). disk.faults) c.self.view_is,
    )

pub returns-then-is_failing-clause-failed : goal.returns-then-is_failing-clause-failed
returns-then-is_failing-clause-failed c = λ _.
    let reserved : c.reserve.new.self ≡ record c.self.inside.log { spare = c.self.inside.log.spare + 2 } = search rules in
    let torn : List Change → List Change = λ changes. changes ++ Torn c.args.page ∷ [] in (
      ap open_in c.self.view_is ∙ c.requires.closed,
      ap (λ (log : Record). Some log.changes) c.push.ensures ∙ ap (λ (log : Record). Some (torn log.changes)) reserved ∙ ap
          (λ (disk : Disk). Some (torn disk.changes)) c.self.view_is,
      subst (λ (disk : Disk). Rose disk.faults c.saturating_add-self-inside.result) c.self.view_is (search rules),
    )

pub invariant_of-self-2 : goal.invariant_of-self-2
invariant_of-self-2 c =
    let reserved : c.reserve.new.self ≡ record c.self.inside.log { spare = c.self.inside.log.spare + 2 } = search rules in
    let closed : c.self.inside.write ≡ None = closed_write c.self.inside.write (ap open_in c.self.view_is ∙ c.requires.closed) in
    let counted : c.self.inside.log.spare ≡ length (standing c.self.inside.log.changes) + 0 = rw closed at c.self.invariant in
    rw reserved (omega (arith, counted))
